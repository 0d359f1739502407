-- The writer from turn to turn: what was put and what waits are the head and the pieces so far, and the walks stand before the samples that are left.
use Rattle.std.proofs.Common.{◌≡◌, ℕ, zero, suc, ◌+◌, ◌-◌, ◌^◌, ◌<◌, ◌≤◌, max, ◌==◌, Bool, true, false, List, [], ◌∷◌, ◌++◌, length, take, Some, None, refl, sym, ap, subst, ◌∙◌, append_assoc, append-nil, arith, slice_set}
use Rattle.mp4_content.specs.declared.without.Without.{Without}
use Rattle.mp4_content.specs.words.ComingLess.{ComesLess, left_samples, track_reduction}
use Rattle.mp4_content.specs.format.Reduced.{id_left}
use Rattle.mp4_content.specs.format.Remaining.{RemainsInRange, remaining}
use Rattle.mp4_content.specs.words.Divided.{divisor_at}
use Rattle.mp4_content.specs.words.Scales.{divisors_of}
use Rattle.mp4_plan.proofs.Lefts.{less_counted, left_count, pieces_from, IsTurn}
use Rattle.mp4_content.proofs.ReducedTaken.{less_below}
use Rattle.std.specs.Prelude.{Option, option_map, if◌then◌else◌, map, slice_get, fold}
use Rattle.std.specs.List.{AllByRecursion, AllZip, sum_by}
use Rattle.mp4_boxes.proofs.Each.{each_dropped}
use Rattle.mp4_boxes.proofs.Plain.{get_every, get_some}
use Rattle.mp4_head.specs.format.Tree.{TrackTree}
use Rattle.mp4_store.specs.words.Device.{TakesPrefix}
use Rattle.mp4_tables.specs.format.Groups.{GroupKey}
use Rattle.mp4_tables.specs.words.Keys.{keys_seen}
use Rattle.mp4_tables.specs.declared.sample.SampleAt.{SampleAt}
use Rattle.mp4_present.specs.words.Carried.{BytesGoOn, waiting}
use Rattle.mp4_present.specs.words.SamplesComing.{track_samples}
use Rattle.mp4_present.specs.format.Denotes.{FileTree, presentation_of}
use Rattle.mp4_present.specs.words.Joined.{IsBelow}
use Rattle.mp4_present.specs.words.Movies.{MovieSeen, mark_of}
use Rattle.mp4_present.specs.words.OpenedMovie.{IsOpenedAs}
use Rattle.mp4_present.specs.declared.track_info.TrackInfo.{TrackInfo}
use Rattle.mp4_present.specs.declared.walking.Mark.{Mark}
use Rattle.mp4_present.specs.declared.walking.Walk.{Walk}
use Rattle.mp4_present.proofs.Carrying.{BytesGoOn-then, BytesGoOn-all, BytesGoOn-fails}
use Rattle.mp4_store.proofs.Known.{IsJoining, TakesPrefix-longer}
use Rattle.mp4_plan.specs.words.PiecesComing.{Coming, coming_of}
use Rattle.mp4_plan.specs.words.Gathering.{piece_from, piece_fed, samples_after, more_of, planned_of}
use Rattle.mp4_plan.specs.format.Normal.{normal, pieces_bytes}
use Rattle.mp4_content.specs.format.TimedSamples.{TimedSample}
use Rattle.mp4_plan.specs.format.Pieces.{Piece, pieces}
use Rattle.mp4_content.specs.words.TakenSamples.{AreTaken}
use Rattle.mp4_plan.specs.words.TurnLaws.{piece_if}
use Rattle.mp4_content.specs.words.Contents.{info_left, infos_left, tracks_left}
use Rattle.mp4_plan.specs.words.Turns.{first_scale, turn_end, turned, track_passed, wrapped, is_over}
use Rattle.mp4_plan.specs.words.Writers.{AllCome, AllBegin, AreMarked, IsReady, firsts, first_dts, longest_piece, head_of_normal, turn_head, sequence_behind, turn_bytes}
use Rattle.mp4_plan.specs.words.DueTracks.{FindsMore, IsDueAt, Skips}
use Rattle.mp4_plan.specs.declared.due_tracks.DueTracks.{DueTracks}
use Rattle.mp4_plan.specs.declared.ends.End.{End}
use Rattle.mp4_plan.specs.declared.moof_front.PieceHead.{PieceHead}
use Rattle.mp4_plan.specs.declared.planner.Planned.{Planned}
use Rattle.mp4_plan.specs.declared.schedule.Schedule.{Schedule}
use Rattle.mp4_plan.specs.declared.writer.Writer.{Writer}
use Rattle.mp4_plan.proofs.BytesLeft.{left_bytes, bytes_behind, all_bytes, none_behind}
use Rattle.mp4_plan.proofs.ComeAt.{come_at, come_with}
use Rattle.mp4_plan.proofs.EachAt.{holds_with}
use Rattle.mp4_plan.proofs.FirstTurn.{IsFirst, begins_at, first_turn}
use Rattle.mp4_present.proofs.FrontsPut.{stopped_at, stopped_behind}
use Rattle.mp4_plan.proofs.NextSamples.{first_at, firsts_set}
use Rattle.mp4_plan.proofs.PieceCounts.{piece_bytes, piece_counts, piece_within, piece_gathers}
use Rattle.mp4_plan.proofs.PieceWritten.{AreKeys, IsFew, turn_written, head_counts, bytes_of_two}
use Rattle.mp4_plan.proofs.InfosLeft.{as_many_left, info_at, left_scales, scale_of_track}
use Rattle.mp4_plan.proofs.SkippedTurns.{finds_none, turns_skipped}
use Rattle.mp4_plan.proofs.TakenFrom.{TrackFacts, track_facts, has_track, few_left, all_counted}
use Rattle.mp4_plan.proofs.TurnTaken.{TurnTaken, turn_taken, turn_fits}

-- ---- lists

-- each piece has no more samples than the longest
most_from : (most : ℕ) (ps : List Piece) → most ≤ fold (λ n (p : Piece). max n (length p.samples)) most ps
most_from most [] = omega arith
most_from most (p ∷ ps) = let r = most_from (max most (length p.samples)) ps in omega (arith, r)

each_from : (most : ℕ) (ps : List Piece) → AllByRecursion (λ (p : Piece). length p.samples ≤ fold (λ n (q : Piece). max n (length q.samples)) most ps) ps
each_from most [] = tt
each_from most (p ∷ ps) = let r = most_from (max most (length p.samples)) ps in (omega (arith, r), each_from (max most (length p.samples)) ps)

pub no_longer : (ps : List Piece) → AllByRecursion (λ (p : Piece). length p.samples ≤ longest_piece ps) ps
no_longer ps = each_from 0 ps

-- how many samples a schedule has left behind a turn
passed_left : (s : Schedule) (time : Option ℕ) → (track_passed s time).left ≡ s.left
passed_left s time = by_first (s.track == 0)
  where
    by_wrap : (r : Schedule) (next : Option ℕ) → (wrapped r next).left ≡ r.left
    by_wrap r None = refl
    by_wrap r (Some cut) = by_last (r.track == r.tracks)
      where
        by_last : (v : Bool) → (if v then record r { from = cut; next = None; track = 0 } else r).left ≡ r.left
        by_last true = refl
        by_last false = refl

    by_first : (v : Bool) → (if v then wrapped (record s { next = time; track = 1 }) time else wrapped (record s { track = s.track + 1 }) s.next).left ≡ s.left
    by_first true = by_wrap (record s { next = time; track = 1 }) time
    by_first false = by_wrap (record s { track = s.track + 1 }) s.next

pub turned_left : (s : Schedule) (end : End) (n : ℕ) (next : Option SampleAt) → (turned s end n next).left ≡ s.left - n
turned_left s end n next = by_over (is_over end next)
  where
    time : Option ℕ
    time = option_map (λ (x : SampleAt). x.dts) next

    by_over : (v : Bool) → (if v then track_passed (record s { left = s.left - n }) time else record s { left = s.left - n }).left ≡ s.left - n
    by_over true = passed_left (record s { left = s.left - n }) time
    by_over false = refl

-- a turn without samples has no piece
piece_small : (id n : ℕ) (left : List SampleAt) (samples : List TimedSample) (file : List ℕ) (keys : List GroupKey) → AreTaken file keys (take n left) samples → length (piece_if id samples) ≤ n
piece_small id zero left [] file keys z = omega arith
piece_small id zero left (s ∷ samples) file keys z = absurd z
piece_small id (suc n) left [] file keys z = omega arith
piece_small id (suc n) left (s ∷ samples) file keys z = omega arith

-- ---- walks that have marked where they stand

marked_at : (walks : List Walk) (lefts : List (List SampleAt)) (k : ℕ) (w : Walk) (left : List SampleAt) → AreMarked walks lefts → slice_get walks k ≡ Some w → slice_get lefts k ≡ Some left → w.mark ≡ mark_of w (length left)
marked_at [] lefts k w left h is at = absurd cc
marked_at (v ∷ walks) [] k w left h is at = absurd h
marked_at (v ∷ walks) (l ∷ lefts) zero w left h is at =
    let one : v ≡ w = cc in
    let other : l ≡ left = cc in
    subst (λ (ss : List SampleAt). w.mark ≡ mark_of w (length ss)) other (subst (λ (x : Walk). x.mark ≡ mark_of x (length l)) one h.0)
marked_at (v ∷ walks) (l ∷ lefts) (suc k) w left h is at = marked_at walks lefts k w left h.1 is at

pub marked_with : (walks : List Walk) (lefts : List (List SampleAt)) (k : ℕ) (w : Walk) (left : List SampleAt) → AreMarked walks lefts → w.mark ≡ mark_of w (length left) → AreMarked (slice_set walks k w) (slice_set lefts k left)
marked_with [] [] k w left h is = tt
marked_with [] (l ∷ lefts) k w left h is = absurd h
marked_with (v ∷ walks) [] k w left h is = absurd h
marked_with (v ∷ walks) (l ∷ lefts) zero w left h is = (is, h.1)
marked_with (v ∷ walks) (l ∷ lefts) (suc k) w left h is = (h.0, marked_with walks lefts k w left h.1 is)

-- a walk that has marked another place, before as many samples
pub marked_kept : (walks : List Walk) (lefts : List (List SampleAt)) (k : ℕ) (w now : Walk) → AreMarked walks lefts → slice_get walks k ≡ Some w → now.mark ≡ mark_of now w.mark.to_come → AreMarked (slice_set walks k now) lefts
marked_kept [] lefts k w now h is e = absurd cc
marked_kept (v ∷ walks) [] k w now h is e = absurd h
marked_kept (v ∷ walks) (l ∷ lefts) zero w now h is e =
    let one : w ≡ v = cc in
    let many : w.mark.to_come ≡ length l = ap (λ (x : Walk). x.mark.to_come) one ∙ ap (λ (k : Mark). k.to_come) h.0 in
    (e ∙ ap (mark_of now) many, h.1)
marked_kept (v ∷ walks) (l ∷ lefts) (suc k) w now h is e = (h.0, marked_kept walks lefts k w now h.1 is e)

-- ---- at a turn

module _ (leaving : Without) (file : List ℕ) (tree : FileTree) (m : MovieSeen) where
  pub record WritesOn (s : Schedule) (sequence sent : ℕ) (walks : List Walk) (nexts : List (Option SampleAt)) (rows : ℕ) (Took : List ℕ → Type 0) (held : List ℕ) : Type 0 where
    pub lefts : List (List SampleAt)
    pub comings : List Coming
    pub come : AllCome leaving file tree m tree.movie.tracks walks lefts
    pub marked : AreMarked walks lefts
    pub shown : nexts ≡ firsts lefts
    pub turn : IsTurn file (infos_left leaving (divisors_of leaving file tree) m.tracks) s lefts comings
    pub lie : AllByRecursion (λ (left : List SampleAt). AllByRecursion (IsBelow (length file)) left) lefts
    pub fits : AllByRecursion (λ (p : Piece). length p.samples ≤ rows) (pieces_from s comings)
    pub small : sequence + left_count lefts ≤ 2 ^ 24 + 1
    pub sizes : sent + left_bytes lefts ≡ sum_by (λ (i : TrackInfo). i.bytes) m.tracks
    pub done : List ℕ
    pub goes : BytesGoOn Took [] held done
    pub whole : normal (remaining leaving (presentation_of file tree)) ≡ done ++ pieces_bytes sequence (pieces_from s comings)

  -- the track whose turn it is, and what its turn takes
  pub record AtTurn (s : Schedule) (walks : List Walk) (nexts : List (Option SampleAt)) (rows : ℕ) (lefts : List (List SampleAt)) (comings : List Coming) : Type 0 where
    pub t : TrackTree
    pub walk : Walk
    pub left : List SampleAt
    pub info : TrackInfo
    pub is_tree : slice_get tree.movie.tracks s.track ≡ Some t
    pub is_walk : slice_get walks s.track ≡ Some walk
    pub is_info : slice_get m.tracks s.track ≡ Some info
    pub is_left : slice_get lefts s.track ≡ Some left
    pub comes : ComesLess (track_reduction leaving file tree t) file tree t m walk left
    pub is_marked : walk.mark ≡ mark_of walk (length left)
    pub keys : AreKeys (keys_seen info.keys)
    pub taken : TurnTaken file (infos_left leaving (divisors_of leaving file tree) m.tracks) s lefts comings (info_left leaving (s.track + 1) (divisor_at (divisors_of leaving file tree) s.track) info) left
    pub below : AllByRecursion (IsBelow (length file)) left
    pub fits : more_of (piece_from (turn_end s (scale_of_track leaving (divisors_of leaving file tree) s.track info.timescale))) left ≤ rows
    pub shown : slice_get nexts s.track ≡ Some (slice_get left 0)

  pub at_turn : (s : Schedule) (sequence sent : ℕ) (walks : List Walk) (nexts : List (Option SampleAt)) (rows : ℕ) (Took : List ℕ → Type 0) (held : List ℕ) → IsOpenedAs file m tree → (h : WritesOn s sequence sent walks nexts rows Took held)
      → s.track < s.tracks → s.tracks ≡ length m.tracks → length walks ≡ length m.tracks → AtTurn s walks nexts rows h.lefts h.comings
  at_turn s sequence sent walks nexts rows Took held o h lt tracks each =
      let a = come_at leaving file tree m tree.movie.tracks walks h.lefts s.track h.come (omega (arith, lt, tracks, each)) in
      let i = get_some m.tracks s.track (omega (arith, lt, tracks)) in
      let f = (has_track file m tree s.track i.0 o i.1).facts in
      let taken = turn_taken file (infos_left leaving (divisors_of leaving file tree) m.tracks) s h.lefts h.comings (info_left leaving (s.track + 1) (divisor_at (divisors_of leaving file tree) s.track) i.0) a.left h.turn lt
      (info_at leaving (divisors_of leaving file tree) m.tracks s.track i.0 i.1) a.is_left in
      record {
        t = a.t;
        walk = a.walk;
        left = a.left;
        info = i.0;
        is_tree = a.is_tree;
        is_walk = a.is_walk;
        is_info = i.1;
        is_left = a.is_left;
        comes = a.comes;
        is_marked = marked_at walks h.lefts s.track a.walk a.left h.marked a.is_walk a.is_left;
        keys = record { apart = f.apart; named = f.named; few = f.few_keys };
        taken = taken;
        below = get_every (λ (left : List SampleAt). AllByRecursion (IsBelow (length file)) left) h.lefts s.track a.left a.is_left h.lie;
        fits = (turn_fits rows file (infos_left leaving (divisors_of leaving file tree) m.tracks) s h.lefts h.comings (info_left leaving (s.track + 1) (divisor_at (divisors_of leaving file tree) s.track) i.0) a.left taken h.fits).0;
        shown = ap (λ xs. slice_get xs s.track) h.shown ∙ first_at h.lefts s.track a.left a.is_left;
      }

  module _ (s : Schedule) (sequence sent : ℕ) (walks : List Walk) (nexts : List (Option SampleAt)) (rows : ℕ) {Y : Type 0} {takes : Y → Y → List ℕ → Type 0} (joins : IsJoining takes) (before after : Y) (held : List ℕ) (h : WritesOn s sequence sent walks nexts rows (takes before after) held) where
    -- what was put so far is a front
    pub stopped : TakesPrefix (takes before after) (normal (remaining leaving (presentation_of file tree)))
    stopped = stopped_behind (takes before after) [] held h.done (pieces_bytes sequence (pieces_from s h.comings)) (normal (remaining leaving (presentation_of file tree))) h.goes h.whole

    -- no piece is left, and what waits is put, or a front of it
    all_done : pieces_from s h.comings ≡ [] → normal (remaining leaving (presentation_of file tree)) ≡ h.done
    all_done none = h.whole ∙ ap (λ (ps : List Piece). h.done ++ pieces_bytes sequence ps) none ∙ append-nil h.done

    pub all_put : (last : Y) → pieces_from s h.comings ≡ [] → takes after last held → takes before last (normal (remaining leaving (presentation_of file tree)))
    all_put last none p = rw (all_done none) (BytesGoOn-all joins before after last [] held h.done h.goes p)

    pub not_all_put : (last : Y) → pieces_from s h.comings ≡ [] → TakesPrefix (takes after last) held → TakesPrefix (takes before last) (normal (remaining leaving (presentation_of file tree)))
    not_all_put last none p =
        let q : TakesPrefix (takes before last) (h.done ++ []) = BytesGoOn-fails joins before after last [] held h.done [] h.goes (TakesPrefix-longer (takes after last) held [] p) in
        subst (λ (bs : List ℕ). TakesPrefix (takes before last) bs) (append-nil h.done ∙ sym (all_done none)) q

    -- behind the last turn all samples were taken, and all their bytes
    pub all_taken : s.tracks ≤ s.track → (s.left ≡ 0) × (sent ≡ sum_by (λ (i : TrackInfo). i.bytes) m.tracks)
    all_taken last = let none = none_behind file (infos_left leaving (divisors_of leaving file tree) m.tracks) s h.lefts h.comings h.turn last in let no_bytes = none.0 in let sizes = h.sizes in (none.1, omega (arith, no_bytes, sizes))

    module _ (a : AtTurn s walks nexts rows h.lefts h.comings) (p : Planned) (is : p ≡ planned_of (piece_fed (piece_from (turn_end s (scale_of_track leaving (divisors_of leaving file tree) s.track a.info.timescale))) a.left).gathered) (few : IsFew p) where
      abbrev end : End
      end = turn_end s (scale_of_track leaving (divisors_of leaving file tree) s.track a.info.timescale)

      abbrev count : ℕ
      count = more_of (piece_from end) a.left

      abbrev keys : List GroupKey
      keys = keys_seen a.info.keys

      abbrev piece : List Piece
      piece = piece_if (id_left leaving (s.track + 1) a.info.id) a.taken.samples

      abbrev rest : List SampleAt
      rest = samples_after (piece_from end) a.left

      abbrev next : Schedule
      next = turned s end count (slice_get rest 0)

      counted : p.count ≡ count
      counted = ap (λ (q : Planned). q.count) is ∙ piece_counts end a.left

      abbrev head : Option PieceHead
      head = turn_head sequence (id_left leaving (s.track + 1) a.info.id) p.count (slice_get a.left 0)

      -- what is written at this turn
      written : turn_bytes file head p keys (take p.count a.left) ≡ pieces_bytes sequence piece
      written = turn_written file keys sequence (id_left leaving (s.track + 1) a.info.id) count a.left a.taken.samples p a.keys a.taken.taken (is ∙ ap planned_of (piece_gathers end a.left)) counted (piece_within end a.left) few

      small_piece : length piece ≤ count
      small_piece = piece_small (id_left leaving (s.track + 1) a.info.id) count a.left a.taken.samples file keys a.taken.taken

      -- the number of the piece behind it
      numbered : sequence_behind sequence head ≡ sequence + length piece
      numbered =
          let small = h.small in
          let few_pieces = small_piece in
          let n = a.taken.few in
          let left = h.turn.left in
          ap (λ k. sequence_behind sequence (turn_head sequence (id_left leaving (s.track + 1) a.info.id) k (slice_get a.left 0))) counted
          ∙ head_counts sequence (id_left leaving (s.track + 1) a.info.id) count a.left a.taken.samples file keys a.taken.taken (piece_within end a.left) (omega (arith, small, few_pieces, n, left))

      -- what is to come behind it
      rest_is : normal (remaining leaving (presentation_of file tree)) ≡ (h.done ++ pieces_bytes sequence piece) ++ pieces_bytes (sequence_behind sequence head) (pieces_from next a.taken.later)
      rest_is =
          h.whole ∙ ap (λ (ps : List Piece). h.done ++ pieces_bytes sequence ps) a.taken.pieces
          ∙ ap (λ (bs : List ℕ). h.done ++ bs) (bytes_of_two sequence piece (pieces_from next a.taken.later) ∙ ap (λ n. pieces_bytes sequence piece ++ pieces_bytes n (pieces_from next a.taken.later)) (sym numbered))
          ∙ sym (append_assoc h.done (pieces_bytes sequence piece) (pieces_bytes (sequence_behind sequence head) (pieces_from next a.taken.later)))

      -- it is not taken along whole
      pub turn_stops : (last : Y) → TakesPrefix (takes after last) (held ++ turn_bytes file head p keys (take p.count a.left)) → TakesPrefix (takes before last) (normal (remaining leaving (presentation_of file tree)))
      turn_stops last q = stopped_at joins before after last [] held h.done (turn_bytes file head p keys (take p.count a.left)) (h.done ++ pieces_bytes sequence piece) (pieces_bytes (sequence_behind sequence head) (pieces_from next a.taken.later))
          (normal (remaining leaving (presentation_of file tree)))
          h.goes q
          (ap (λ (bs : List ℕ). h.done ++ bs) (sym written)) rest_is

      -- it is taken along
      pub turn_over : (later : Walk) (last : Y) (held_later : List ℕ) → ComesLess (track_reduction leaving file tree a.t) file tree a.t m later rest → later.mark ≡ mark_of later (length rest) → BytesGoOn (takes after last) held held_later (turn_bytes file head p keys (take p.count a.left))
          → WritesOn (turned s end p.count (slice_get rest 0)) (sequence_behind sequence head) (sent + p.bytes) (slice_set walks s.track later) (slice_set nexts s.track (slice_get rest 0)) rows (takes before last) held_later
      turn_over later last held_later comes marked bytes =
          let come = come_with leaving file tree m tree.movie.tracks walks h.lefts s.track a.t later rest h.come a.is_tree comes in
          let small = h.small in
          let few_pieces = small_piece in
          let n = a.taken.few in
          let left = h.turn.left in
          let later_left = a.taken.on.left in
          let by = turned_left s end count (slice_get rest 0) in
          let numbers = numbered in
          let same : next ≡ turned s end p.count (slice_get rest 0) = ap (λ k. turned s end k (slice_get rest 0)) (sym counted) in
          subst (λ (r : Schedule). WritesOn r (sequence_behind sequence head) (sent + p.bytes) (slice_set walks s.track later) (slice_set nexts s.track (slice_get rest 0)) rows (takes before last) held_later) same (record {
            lefts = slice_set h.lefts s.track rest;
            comings = a.taken.later;
            come = come;
            marked = marked_with walks h.lefts s.track later rest h.marked marked;
            shown = ap (λ xs. slice_set xs s.track (slice_get rest 0)) h.shown ∙ sym (firsts_set h.lefts s.track rest);
            turn = a.taken.on;
            lie = holds_with (λ (l : List SampleAt). AllByRecursion (IsBelow (length file)) l) h.lefts s.track rest (each_dropped (IsBelow (length file)) count a.left a.below) h.lie;
            fits = (turn_fits rows file (infos_left leaving (divisors_of leaving file tree) m.tracks) s h.lefts h.comings (info_left leaving (s.track + 1) (divisor_at (divisors_of leaving file tree) s.track) a.info) a.left a.taken h.fits).1;
            small = omega (arith, small, few_pieces, n, left, later_left, by, numbers);
            sizes = bytes_behind h.lefts s.track count sent p.bytes _ a.left a.is_left (ap (λ (q : Planned). q.bytes) is ∙ piece_bytes end a.left) h.sizes;
            done = h.done ++ pieces_bytes sequence piece;
            goes = BytesGoOn-then joins before after last [] held held_later h.done (turn_bytes file head p keys (take p.count a.left)) (h.done ++ pieces_bytes sequence piece) h.goes bytes (ap (λ (bs : List ℕ). h.done ++ bs) (sym written));
            whole = rest_is;
          })

  all_lie : (infos : List TrackInfo) (trees : List TrackTree) → AllZip (TrackFacts file tree) infos trees → AllByRecursion (λ (left : List SampleAt). AllByRecursion (IsBelow (length file)) left) (map (left_samples leaving file tree) trees)
  all_lie [] [] z = tt
  all_lie [] (t ∷ trees) z = absurd z
  all_lie (i ∷ infos) [] z = absurd z
  all_lie (i ∷ infos) (t ∷ trees) z = (less_below (track_reduction leaving file tree t) (length file) (track_samples tree t) z.0.lies, all_lie infos trees z.1)

  -- the first turn
  pub begins : (s : Schedule) (w : Writer) (walks : List Walk) (nexts : List (Option SampleAt)) (Took : List ℕ → Type 0) (held : List ℕ) → IsOpenedAs file m tree → IsReady file tree m w → w.content.leaving ≡ leaving
      → IsFirst (infos_left leaving (divisors_of leaving file tree) m.tracks) (map (left_samples leaving file tree) tree.movie.tracks) s
      → AllBegin leaving file tree m walks → AreMarked walks (map (left_samples leaving file tree) tree.movie.tracks) → nexts ≡ firsts (map (left_samples leaving file tree) tree.movie.tracks) → BytesGoOn Took (waiting w.carrier) held w.head.items
      → WritesOn s 1 0 walks nexts (length w.notes.rows.items) Took held
  begins s w walks nexts Took held o r same first come marked shown goes =
      let range = subst (λ (k : Without). RemainsInRange k (presentation_of file tree)) same r.range in
      let all = first_turn leaving file m tree s o range first in
      let p = remaining leaving (presentation_of file tree) in
      let few = subst (λ n. n ≤ 2 ^ 24) (sym (less_counted leaving file tree tree.movie.tracks)) (few_left file m tree o) in
      record {
        lefts = map (left_samples leaving file tree) tree.movie.tracks;
        comings = map coming_of p.tracks;
        come = come;
        marked = marked;
        shown = shown;
        turn = all.0;
        lie = all_lie m.tracks tree.movie.tracks (track_facts file m tree o);
        fits = subst (λ (ps : List Piece). AllByRecursion (λ (q : Piece). length q.samples ≤ length w.notes.rows.items) ps) (sym all.1)
            (subst (λ n. AllByRecursion (λ (q : Piece). length q.samples ≤ n) (pieces p)) (sym (r.rows ∙ ap (λ (k : Without). longest_piece (pieces (remaining k (presentation_of file tree)))) same)) (no_longer (pieces p)));
        small = omega (arith, few);
        sizes = (let all = all_bytes leaving file m tree o in omega (arith, all));
        done = waiting w.carrier ++ w.head.items;
        goes = goes;
        whole = (let head = sym (r.head ∙ ap (λ (k : Without). head_of_normal (remaining k (presentation_of file tree))) same) in let ps = sym all.1 in λ i. head i ++ pieces_bytes 1 (ps i));
      }

  -- ---- before the first turn

  -- the head is not put whole
  pub head_stops : (w : Writer) (Took : List ℕ → Type 0) (bytes : List ℕ) → IsReady file tree m w → w.content.leaving ≡ leaving → bytes ≡ w.head.items → TakesPrefix Took (waiting w.carrier ++ bytes) → TakesPrefix Took (normal (remaining leaving (presentation_of file tree)))
  head_stops w Took bytes r same e q =
      let p = remaining leaving (presentation_of file tree) in
      let own : TakesPrefix Took (head_of_normal p) = subst (λ (bs : List ℕ). TakesPrefix Took bs) (ap (λ (bs : List ℕ). waiting w.carrier ++ bs) e ∙ r.head ∙ ap (λ (k : Without). head_of_normal (remaining k (presentation_of file tree))) same) q in
      TakesPrefix-longer Took (head_of_normal p) (pieces_bytes 1 (pieces p)) own

  -- nothing behind the head is put
  pub head_put : (w : Writer) (Took : List ℕ → Type 0) (held bytes : List ℕ) → IsReady file tree m w → w.content.leaving ≡ leaving → bytes ≡ w.head.items → BytesGoOn Took (waiting w.carrier) held bytes → TakesPrefix Took (normal (remaining leaving (presentation_of file tree)))
  head_put w Took held bytes r same e q =
      let p = remaining leaving (presentation_of file tree) in
      let whole : waiting w.carrier ++ bytes ≡ head_of_normal p = ap (λ (bs : List ℕ). waiting w.carrier ++ bs) e ∙ r.head ∙ ap (λ (k : Without). head_of_normal (remaining k (presentation_of file tree))) same in
      stopped_behind Took [] held (waiting w.carrier ++ bytes) (pieces_bytes 1 (pieces p)) (normal p) q (ap (λ (bs : List ℕ). bs ++ pieces_bytes 1 (pieces p)) (sym whole))

  -- a new schedule stands at the first turn
  pub is_first : (s : Schedule) (from : ℕ) → IsOpenedAs file m tree → s.tracks ≡ length m.tracks → s.first ≡ first_scale (tracks_left leaving (divisors_of leaving file tree) m.tracks) → (s.track ≡ 0) × (s.from ≡ from) × (s.next ≡ None) → s.left ≡ sum_by (λ (i : TrackInfo). i.samples) m.tracks
      → from ≡ first_dts (map (left_samples leaving file tree) tree.movie.tracks) → IsFirst (infos_left leaving (divisors_of leaving file tree) m.tracks) (map (left_samples leaving file tree) tree.movie.tracks) s
  is_first s from o tracks first starts left time = record {
    tracks = tracks ∙ sym (as_many_left leaving (divisors_of leaving file tree) m.tracks);
    first = first;
    track = starts.0;
    from = starts.1 ∙ time ∙ same_dts (map (left_samples leaving file tree) tree.movie.tracks);
    next = starts.2;
    left = all_counted file m tree s.left o left ∙ sym (less_counted leaving file tree tree.movie.tracks);
  }
    where
      same_dts : (lefts : List (List SampleAt)) → first_dts lefts ≡ begins_at lefts
      same_dts [] = refl
      same_dts ([] ∷ lefts) = refl
      same_dts ((x ∷ samples) ∷ lefts) = refl

  -- Where tracks are skipped, the same pieces are left to be written.
  pub writes_skips : (s later : Schedule) (sequence sent : ℕ) (walks : List Walk) (nexts : List (Option SampleAt)) (rows : ℕ) (Took : List ℕ → Type 0) (held : List ℕ) (d : DueTracks) → IsOpenedAs file m tree → WritesOn s sequence sent walks nexts rows Took held
      → Skips d s later → IsDueAt (tracks_left leaving (divisors_of leaving file tree) m.tracks) nexts later d → WritesOn later sequence sent walks nexts rows Took held
  writes_skips s later sequence sent walks nexts rows Took held d o h skips due =
      let r = turns_skipped file (infos_left leaving (divisors_of leaving file tree) m.tracks) d s later nexts h.lefts h.comings skips h.turn h.shown due (left_scales leaving file m tree o) in
      record {
        lefts = h.lefts;
        comings = h.comings;
        come = h.come;
        marked = h.marked;
        shown = h.shown;
        turn = r.0;
        lie = h.lie;
        fits = subst (λ (ps : List Piece). AllByRecursion (λ (p : Piece). length p.samples ≤ rows) ps) r.1 h.fits;
        small = h.small;
        sizes = h.sizes;
        done = h.done;
        goes = h.goes;
        whole = h.whole ∙ ap (λ (ps : List Piece). h.done ++ pieces_bytes sequence ps) r.1;
      }

  -- Where no sample is left, no track is due.
  pub writes_no_more : (s later : Schedule) (sequence sent : ℕ) (walks : List Walk) (nexts : List (Option SampleAt)) (rows : ℕ) (Took : List ℕ → Type 0) (held : List ℕ) (d : DueTracks) → IsOpenedAs file m tree → WritesOn s sequence sent walks nexts rows Took held
      → FindsMore (tracks_left leaving (divisors_of leaving file tree) m.tracks) nexts s later d → ⊥
  writes_no_more s later sequence sent walks nexts rows Took held d o h f = finds_none file (infos_left leaving (divisors_of leaving file tree) m.tracks) s later h.lefts h.comings nexts d h.turn h.shown (left_scales leaving file m tree o) f
