-- What is planned of the pieces of an opened file, turn by turn.
use Rattle.std.proofs.Common.{◌≡◌, ℕ, zero, suc, ◌+◌, ◌-◌, ◌*◌, ◌^◌, ◌<◌, ◌≤◌, List, [], ◌∷◌, ◌++◌, length, take, map, Option, Some, None, refl, sym, ap, subst, ◌∙◌, arith, length-append, append-nil}
use Rattle.mp4_content.specs.declared.without.Without.{Without}
use Rattle.mp4_content.specs.words.ComingLess.{ComesLess, left_samples, track_reduction}
use Rattle.mp4_content.specs.format.Reduced.{id_left}
use Rattle.mp4_content.specs.format.Remaining.{RemainsInRange, remaining}
use Rattle.mp4_content.specs.words.Divided.{divisor_at}
use Rattle.mp4_content.specs.words.Scales.{divisors_of}
use Rattle.mp4_plan.proofs.Lefts.{less_counted, left_count, pieces_from, IsTurn}
use Rattle.std.specs.Prelude.{slice_get, slice_set, slice_index_or, min, max, fold}
use Rattle.std.specs.List.{sum_by}
use Rattle.std.proofs.lemmas.List.{length-take-le}
use Rattle.mp4_boxes.proofs.Plain.{get_some}
use Rattle.mp4_head.specs.format.Tree.{TrackTree}
use Rattle.mp4_tables.specs.format.Groups.{GroupKey}
use Rattle.mp4_tables.specs.words.Keys.{keys_seen}
use Rattle.mp4_tables.specs.declared.sample.SampleAt.{SampleAt}
use Rattle.mp4_present.specs.format.Denotes.{FileTree, presentation_of}
use Rattle.mp4_present.specs.words.Movies.{MovieSeen}
use Rattle.mp4_present.specs.words.OpenedMovie.{IsOpenedAs}
use Rattle.mp4_present.specs.declared.track_info.TrackInfo.{TrackInfo}
use Rattle.mp4_present.specs.declared.walking.Walk.{Walk}
use Rattle.mp4_plan.specs.words.PiecesComing.{Coming, coming_of}
use Rattle.mp4_plan.specs.words.Gathering.{gather_all, planned_of, more_of, piece_from, piece_fed, samples_after}
use Rattle.mp4_plan.specs.format.Normal.{pieces_bytes, piece_bytes}
use Rattle.mp4_content.specs.format.TimedSamples.{TimedSample}
use Rattle.mp4_plan.specs.format.Pieces.{Piece, pieces}
use Rattle.mp4_plan.specs.words.Sizes.{moof_sizes}
use Rattle.mp4_content.specs.words.TakenSamples.{AreTaken}
use Rattle.mp4_plan.specs.words.TurnLaws.{piece_if}
use Rattle.mp4_content.specs.words.Contents.{info_left, infos_left, numbers_of, tracks_left}
use Rattle.mp4_content.specs.declared.tracks_left.TrackLeft.{TrackLeft}
use Rattle.mp4_plan.specs.words.Turns.{first_scale, turn_end, turned, Sticks}
use Rattle.mp4_plan.specs.words.DueTracks.{FindsMore, IsDueAt, Skips}
use Rattle.mp4_plan.specs.words.Writers.{AllCome, AllBegin, ArePiecesLong, firsts, longest_piece, planned_length}
use Rattle.mp4_plan.specs.words.Writers as writers
use Rattle.mp4_plan.specs.declared.due_tracks.DueTracks.{DueTracks}
use Rattle.mp4_plan.specs.declared.ends.End.{End}
use Rattle.mp4_plan.specs.declared.planner.Planned.{Planned}
use Rattle.mp4_plan.specs.declared.schedule.Schedule.{Schedule}
use Rattle.mp4_plan.proofs.ComeAt.{come_with}
use Rattle.mp4_plan.proofs.InfosLeft.{as_many_left, info_at, left_scales, scale_of_track, track_at}
use Rattle.mp4_plan.proofs.FirstTurn.{begins_at, first_turn}
use Rattle.mp4_plan.proofs.NextSamples.{first_at, firsts_set}
use Rattle.mp4_plan.proofs.PieceWritten.{AreKeys, IsFew, bytes_of_two}
use Rattle.mp4_plan.proofs.Planning.{comes_there}
use Rattle.mp4_plan.proofs.SizesSmall.{moof_small}
use Rattle.mp4_plan.proofs.SkippedTurns.{due_here, finds_none, turns_skipped}
use Rattle.mp4_plan.proofs.SpelledPiece.{piece_length, taken_count}
use Rattle.mp4_plan.proofs.TakenFrom.{track_facts_at, all_counted}
use Rattle.mp4_plan.proofs.TakenFrom as taken_from
use Rattle.mp4_plan.proofs.TurnTaken.{TurnTakes, turn_taken, turn_moves, turns_end, turn_tracks, few_left, count_behind}
use Rattle.mp4_plan.proofs.PieceBoxes.{header_small}
use Rattle.mp4_plan.proofs.HandsTaken.{few_more}

-- ---- the longest piece

longest_from : (most : ℕ) (ps : List Piece) → fold (λ n (piece : Piece). max n (length piece.samples)) most ps ≡ max most (longest_piece ps)
longest_from most [] = omega arith
longest_from most (p ∷ ps) =
    let a = longest_from (max most (length p.samples)) ps in
    let b = longest_from (max 0 (length p.samples)) ps in
    omega (arith, a, b)

turn_longest : (most id n : ℕ) (samples : List TimedSample) (behind : List Piece) → length samples ≡ n → max most (longest_piece (piece_if id samples ++ behind)) ≡ max (max most n) (longest_piece behind)
turn_longest most id n [] behind e = let z : 0 ≡ n = e in omega (arith, z)
turn_longest most id n (s ∷ samples) behind e = let a = longest_from (max 0 (length (s ∷ samples))) behind in omega (arith, a, e)

-- ---- the bytes of a turn

-- few samples were planned, each with less than 2^32 bytes
pub record IsSmall (p : Planned) : Type 0 where
  pub few : IsFew p
  pub bytes : p.bytes ≤ p.count * 4294967295

planned_small : (p : Planned) (keys : List GroupKey) → length keys ≤ 4 → IsSmall p → 0 < p.count → planned_length p keys ≤ p.count * 2 ^ 33
planned_small p keys four small some =
    let moof = moof_small p keys small.few.count small.few.rows four in
    let header = header_small p.bytes in
    let bytes = small.bytes in
    omega (arith, moof, header, bytes, some)

module _ (file : List ℕ) (keys : List GroupKey) (number id : ℕ) where
  none_long : (n : ℕ) (left : List SampleAt) (samples : List TimedSample) → AreTaken file keys (take n left) samples → n ≡ 0 → length (pieces_bytes number (piece_if id samples)) ≡ 0
  none_long n left [] z e = refl
  none_long zero [] (s ∷ samples) z e = absurd z
  none_long zero (a ∷ left) (s ∷ samples) z e = absurd z
  none_long (suc n) left (s ∷ samples) z e = absurd (omega (arith, e))

  some_long : (n : ℕ) (left : List SampleAt) (samples : List TimedSample) (p : Planned) → AreKeys keys → AreTaken file keys (take n left) samples → p ≡ planned_of (gather_all None (take n left)) → 0 < n → n ≤ length left → IsFew p
      → length (pieces_bytes number (piece_if id samples)) ≡ planned_length p keys
  some_long zero left samples p k z is some le few = absurd (omega (arith, some))
  some_long (suc n) [] samples p k z is some le few = absurd (omega (arith, le))
  some_long (suc n) (a ∷ left) [] p k z is some le few = absurd z
  some_long (suc n) (a ∷ left) (s ∷ samples) p k z is some le few =
      let small = subst (λ (q : Planned). (moof_sizes q keys).moof ≤ 2 ^ 30) is (moof_small p keys few.count few.rows k.few) in
      ap (λ (bs : List ℕ). length bs) (append-nil (piece_bytes number (record { id = id; samples = s ∷ samples })))
      ∙ piece_length file keys number id a (take n left) (s ∷ samples) k.apart k.named k.few z small ∙ ap (λ (q : Planned). planned_length q keys) (sym is)

-- what is kept of the track at a place
pub kept_there : (infos : List TrackInfo) (k place : ℕ) (info d : TrackInfo) → k ≡ place → slice_get infos place ≡ Some info → d ≡ slice_index_or infos k d → d ≡ info
kept_there infos k place info d e is at = at ∙ by infos k (subst (λ j. slice_get infos j ≡ Some info) (sym e) is)
  where
    by : (infos : List TrackInfo) (k : ℕ) → slice_get infos k ≡ Some info → slice_index_or infos k d ≡ info
    by [] k f = absurd cc
    by (x ∷ infos) zero f = let same : x ≡ info = cc in same
    by (x ∷ infos) (suc k) f = by infos k f

-- The length so far with that of the piece of a turn, as far as 64 bits go.
pub record Adds (keys : List GroupKey) (p : Planned) (len next : ℕ) : Type 0 where
  pub none : p.count ≡ 0 → next ≡ len
  pub some : 0 < p.count → next ≡ min (len + planned_length p keys) (2 ^ 64 - 1)

-- a sum that stays below 2^57 is that of all bytes
added : (keys : List GroupKey) (p : Planned) (len next : ℕ) (long left : ℕ) → Adds keys p len next → length keys ≤ 4 → IsSmall p → (p.count ≡ 0 → long ≡ 0) → (0 < p.count → long ≡ planned_length p keys) → p.count ≤ left
    → len + left * 2 ^ 33 ≤ 2 ^ 57 → (next ≡ len + long) × (long ≤ p.count * 2 ^ 33)
added keys p len next long left adds four small none some le fits = by p.count refl
  where
    by : (n : ℕ) → p.count ≡ n → (next ≡ len + long) × (long ≤ p.count * 2 ^ 33)
    by zero e =
        let a = adds.none e in
        let b = none e in
        (omega (arith, a, b), omega (arith, b))
    by (suc n) e =
        let lt : 0 < p.count = omega (arith, e) in
        let a = adds.some lt in
        let b = some lt in
        let c = planned_small p keys four small lt in
        let d : p.count * 2 ^ 33 ≤ left * 2 ^ 33 = omega (arith, le) in
        (omega (arith, a, b, c, d, fits), omega (arith, b, c))

-- ---- all turns

-- The walks stand before a turn: these samples are left of each track, and these are the next ones.
pub record StandsAt (leaving : Without) (file : List ℕ) (tree : FileTree) (m : MovieSeen) (s : Schedule) (walks : List Walk) (nexts : List (Option SampleAt)) (lefts : List (List SampleAt)) (comings : List Coming) : Type 0 where
  pub come : AllCome leaving file tree m tree.movie.tracks walks lefts
  pub shown : nexts ≡ firsts lefts
  pub turn : IsTurn file (infos_left leaving (divisors_of leaving file tree) m.tracks) s lefts comings
  pub few : left_count lefts ≤ 2 ^ 24

-- The most samples of a piece before it.
pub record IsLongest (leaving : Without) (file : List ℕ) (tree : FileTree) (m : MovieSeen) (s : Schedule) (walks : List Walk) (nexts : List (Option SampleAt)) (most : ℕ) : Type 0 where
  pub lefts : List (List SampleAt)
  pub comings : List Coming
  pub at : StandsAt leaving file tree m s walks nexts lefts comings
  pub longest : max most (longest_piece (pieces_from s comings)) ≡ longest_piece (pieces (remaining leaving (presentation_of file tree)))

-- The bytes of the pieces before it.
pub record IsLength (leaving : Without) (file : List ℕ) (tree : FileTree) (m : MovieSeen) (s : Schedule) (walks : List Walk) (nexts : List (Option SampleAt)) (so_far : ℕ) : Type 0 where
  pub lefts : List (List SampleAt)
  pub comings : List Coming
  pub at : StandsAt leaving file tree m s walks nexts lefts comings
  pub fits : so_far + left_count lefts * 2 ^ 33 ≤ 2 ^ 57
  pub number : ℕ
  pub len : so_far + length (pieces_bytes number (pieces_from s comings)) ≡ length (pieces_bytes 1 (pieces (remaining leaving (presentation_of file tree))))

begins_same : (lefts : List (List SampleAt)) → writers.first_dts lefts ≡ begins_at lefts
begins_same [] = refl
begins_same ([] ∷ lefts) = refl
begins_same ((s ∷ samples) ∷ lefts) = refl

module _ (leaving : Without) (file : List ℕ) (tree : FileTree) (m : MovieSeen) (s : Schedule) (walks : List Walk) (nexts : List (Option SampleAt)) (from : ℕ) (o : IsOpenedAs file m tree) (near : RemainsInRange leaving (presentation_of file tree)) (come : AllBegin leaving file tree m walks)
    (shown : nexts ≡ firsts (map (left_samples leaving file tree) tree.movie.tracks)) (time : from ≡ writers.first_dts (map (left_samples leaving file tree) tree.movie.tracks))
    (tracks : s.tracks ≡ length m.tracks) (first : s.first ≡ first_scale (tracks_left leaving (divisors_of leaving file tree) m.tracks)) (left : s.left ≡ sum_by (λ (i : TrackInfo). i.samples) m.tracks) (starts : (s.track ≡ 0) × (s.from ≡ from) × (s.next ≡ None)) where
  abbrev all_lefts : List (List SampleAt)
  all_lefts = map (left_samples leaving file tree) tree.movie.tracks

  abbrev all_comings : List Coming
  all_comings = map coming_of (remaining leaving (presentation_of file tree)).tracks

  few_first : left_count all_lefts ≤ 2 ^ 24
  few_first = subst (λ n. n ≤ 2 ^ 24) (sym (less_counted leaving file tree tree.movie.tracks)) (taken_from.few_left file m tree o)

  begins : IsTurn file (infos_left leaving (divisors_of leaving file tree) m.tracks) s all_lefts all_comings × (pieces_from s all_comings ≡ pieces (remaining leaving (presentation_of file tree)))
  begins =
      let count = all_counted file m tree s.left o left ∙ sym (less_counted leaving file tree tree.movie.tracks) in
      first_turn leaving file m tree s o near (record { tracks = tracks ∙ sym (as_many_left leaving (divisors_of leaving file tree) m.tracks); first = first; track = starts.0; from = starts.1 ∙ time ∙ begins_same all_lefts; next = starts.2; left = count })

  -- Before the first turn all pieces are left.
  pub stands_first : StandsAt leaving file tree m s walks nexts all_lefts all_comings
  stands_first = record { come = come; shown = shown; turn = begins.0; few = few_first }

  pub longest_first : IsLongest leaving file tree m s walks nexts 0
  longest_first = record {
    lefts = all_lefts;
    comings = all_comings;
    at = stands_first;
    longest = (let n : max 0 (longest_piece (pieces_from s all_comings)) ≡ longest_piece (pieces_from s all_comings) = omega arith in n) ∙ ap longest_piece begins.1;
  }

  pub length_first : IsLength leaving file tree m s walks nexts 0
  length_first =
      let few = few_first in
      record {
        lefts = all_lefts;
        comings = all_comings;
        at = stands_first;
        fits = omega (arith, few);
        number = 1;
        len = (let n : 0 + length (pieces_bytes 1 (pieces_from s all_comings)) ≡ length (pieces_bytes 1 (pieces_from s all_comings)) = omega arith in n) ∙ ap (λ ps. length (pieces_bytes 1 ps)) begins.1;
      }

module _ (leaving : Without) (file : List ℕ) (tree : FileTree) (m : MovieSeen) (s : Schedule) (walks : List Walk) (nexts : List (Option SampleAt)) where
  -- Behind the last turn all were passed.
  pub longest_end : (most : ℕ) → IsLongest leaving file tree m s walks nexts most → s.tracks ≤ s.track → most ≡ longest_piece (pieces (remaining leaving (presentation_of file tree)))
  longest_end most h le =
      let none = turns_end file (infos_left leaving (divisors_of leaving file tree) m.tracks) s h.lefts h.comings h.at.turn le in
      let longest = subst (λ ps. max most (longest_piece ps) ≡ longest_piece (pieces (remaining leaving (presentation_of file tree)))) none h.longest in
      (let n : most ≡ max most 0 = omega arith in n) ∙ longest

  pub length_end : (total : ℕ) → IsLength leaving file tree m s walks nexts total → s.tracks ≤ s.track → ArePiecesLong (remaining leaving (presentation_of file tree)) total
  length_end total h le =
      let none = turns_end file (infos_left leaving (divisors_of leaving file tree) m.tracks) s h.lefts h.comings h.at.turn le in
      let len = subst (λ ps. total + length (pieces_bytes h.number ps) ≡ length (pieces_bytes 1 (pieces (remaining leaving (presentation_of file tree))))) none h.len in
      let fits = h.fits in
      record { len = (let n : total ≡ total + 0 = omega arith in n) ∙ len; within = omega (arith, fits) }

-- The turn of a track: what is kept of it, and what comes of it.
pub record HasTurn (leaving : Without) (file : List ℕ) (tree : FileTree) (m : MovieSeen) (s : Schedule) (nexts : List (Option SampleAt)) (lefts : List (List SampleAt)) (k : ℕ) (walk : Walk) (end : End) : Type 0 where
  pub info : TrackInfo
  pub left : List SampleAt
  pub t : TrackTree
  pub is_info : slice_get m.tracks s.track ≡ Some info
  pub is_tree : slice_get tree.movie.tracks s.track ≡ Some t
  pub is_left : slice_get lefts s.track ≡ Some left
  pub place : k ≡ s.track
  pub end_is : end ≡ turn_end s (scale_of_track leaving (divisors_of leaving file tree) s.track info.timescale)
  pub comes : ComesLess (track_reduction leaving file tree t) file tree t m walk left
  pub few : length left ≤ 2 ^ 24
  pub shown : slice_get nexts s.track ≡ Some (slice_get left 0)

module _ (leaving : Without) (file : List ℕ) (tree : FileTree) (m : MovieSeen) (s : Schedule) (walks : List Walk) (nexts : List (Option SampleAt)) (lefts : List (List SampleAt)) (comings : List Coming) (o : IsOpenedAs file m tree)
    (h : StandsAt leaving file tree m s walks nexts lefts comings) where
  pub has_turn : (k : ℕ) (walk : Walk) (end : End) (id : ℕ) → (k ≡ s.track) × (s.track < s.tracks) → walk ≡ slice_index_or walks k walk → length walks ≡ length m.tracks
      → ((track : TrackLeft) → slice_get (tracks_left leaving (divisors_of leaving file tree) m.tracks) s.track ≡ Some track → (end ≡ turn_end s track.timescale) × (id ≡ track.id))
      → HasTurn leaving file tree m s nexts lefts k walk end
  has_turn k walk end id at is_walk many own =
      let lt = at.1 in
      let tracks = turn_tracks file (infos_left leaving (divisors_of leaving file tree) m.tracks) s lefts comings h.turn ∙ as_many_left leaving (divisors_of leaving file tree) m.tracks in
      let info = get_some m.tracks s.track (omega (arith, lt, tracks)) in
      let r = comes_there leaving file tree m walks lefts s.track walk h.come (omega (arith, lt, tracks, many)) in
      let fits = few_left lefts s.track (length r.left) r.left r.is_left (omega arith) in
      let all = h.few in
      record {
        info = info.0;
        left = r.left;
        t = r.t;
        is_info = info.1;
        is_tree = r.is_tree;
        is_left = r.is_left;
        place = at.0;
        end_is = (own (numbers_of (info_left leaving (s.track + 1) (divisor_at (divisors_of leaving file tree) s.track) info.0)) (track_at leaving (divisors_of leaving file tree) m.tracks s.track info.0 info.1)).0;
        comes = subst (λ w. ComesLess (track_reduction leaving file tree r.t) file tree r.t m w r.left) (sym is_walk) (subst (λ j. ComesLess (track_reduction leaving file tree r.t) file tree r.t m (slice_index_or walks j walk) r.left) (sym at.0) r.comes);
        few = omega (arith, fits, all);
        shown = ap (λ xs. slice_get xs s.track) h.shown ∙ first_at lefts s.track r.left r.is_left;
      }

  module _ (k : ℕ) (walk : Walk) (end : End) (t : HasTurn leaving file tree m s nexts lefts k walk end) (lt : s.track < s.tracks) where
    pub taken : TurnTakes file (infos_left leaving (divisors_of leaving file tree) m.tracks) s lefts comings (info_left leaving (s.track + 1) (divisor_at (divisors_of leaving file tree) s.track) t.info) t.left end
    taken = subst (λ e. TurnTakes file (infos_left leaving (divisors_of leaving file tree) m.tracks) s lefts comings (info_left leaving (s.track + 1) (divisor_at (divisors_of leaving file tree) s.track) t.info) t.left e) (sym t.end_is)
        (turn_taken file (infos_left leaving (divisors_of leaving file tree) m.tracks) s lefts comings (info_left leaving (s.track + 1) (divisor_at (divisors_of leaving file tree) s.track) t.info) t.left h.turn lt
        (info_at leaving (divisors_of leaving file tree) m.tracks s.track t.info t.is_info) t.is_left)

    abbrev pub piece_size : ℕ
    piece_size = more_of (piece_from end) t.left

    abbrev pub left_behind_it : List SampleAt
    left_behind_it = samples_after (piece_from end) t.left

    -- the turn leads on, where a track behind the first has a sample that goes into a piece
    pub turn_leads : (n : ℕ) (next : Option SampleAt) (d : DueTracks) → n ≡ piece_size → next ≡ slice_get left_behind_it 0 → IsDueAt (tracks_left leaving (divisors_of leaving file tree) m.tracks) nexts s d → ¬ Sticks s n next
    turn_leads n next d is after due =
        let goes = due_here (infos_left leaving (divisors_of leaving file tree) m.tracks) nexts s d (info_left leaving (s.track + 1) (divisor_at (divisors_of leaving file tree) s.track) t.info) (slice_get t.left 0) due (left_scales leaving file m tree o) lt
        (info_at leaving (divisors_of leaving file tree) m.tracks s.track t.info t.is_info) t.shown in
        let at_end = subst (λ e. ¬ Sticks s (more_of (piece_from e) t.left) (slice_get (samples_after (piece_from e) t.left) 0)) (sym t.end_is)
        (turn_moves file (infos_left leaving (divisors_of leaving file tree) m.tracks) s lefts comings (info_left leaving (s.track + 1) (divisor_at (divisors_of leaving file tree) s.track) t.info) t.left
        (turn_taken file (infos_left leaving (divisors_of leaving file tree) m.tracks) s lefts comings (info_left leaving (s.track + 1) (divisor_at (divisors_of leaving file tree) s.track) t.info) t.left h.turn lt
        (info_at leaving (divisors_of leaving file tree) m.tracks s.track t.info t.is_info) t.is_left) goes) in
        subst (λ i. ¬ Sticks s i next) (sym is) (subst (λ x. ¬ Sticks s piece_size x) (sym after) at_end)

    within_left : piece_size ≤ length t.left
    within_left = few_more (piece_from end) t.left

    fewer_left : piece_size ≤ left_count lefts
    fewer_left = few_left lefts s.track piece_size t.left t.is_left within_left

    count_left : left_count lefts - piece_size ≡ left_count (slice_set lefts s.track left_behind_it)
    count_left = count_behind lefts s.track piece_size t.left t.is_left within_left

    many_taken : length taken.samples ≡ piece_size
    many_taken = sym (taken_count file (keys_seen t.info.keys) (take piece_size t.left) taken.samples taken.taken) ∙ length-take-le piece_size t.left within_left

    module _ (now : Walk) (n : ℕ) (next : Option SampleAt) (on : Schedule) (is : n ≡ piece_size) (comes : ComesLess (track_reduction leaving file tree t.t) file tree t.t m now left_behind_it) (after : next ≡ slice_get left_behind_it 0) (goes : on ≡ turned s end n next) where
      turned_is : on ≡ turned s end piece_size (slice_get left_behind_it 0)
      turned_is = goes ∙ (λ i. turned s end (is i) (after i))

      stands_next : StandsAt leaving file tree m (turned s end piece_size (slice_get left_behind_it 0)) (slice_set walks s.track now) (slice_set nexts s.track next) (slice_set lefts s.track left_behind_it) taken.later
      stands_next = record {
        come = come_with leaving file tree m tree.movie.tracks walks lefts s.track t.t now left_behind_it h.come t.is_tree comes;
        shown = (λ i. slice_set (h.shown i) s.track (after i)) ∙ sym (firsts_set lefts s.track left_behind_it);
        turn = taken.on;
        few = (let all = h.few in let less = count_left in omega (arith, all, less));
      }

      -- where no sample is left, no track is due behind it
      pub no_more : (d : DueTracks) (later : Schedule) → FindsMore (tracks_left leaving (divisors_of leaving file tree) m.tracks) (slice_set nexts s.track next) on later d → ⊥
      no_more d later f = finds_none file (infos_left leaving (divisors_of leaving file tree) m.tracks) on later (slice_set lefts s.track left_behind_it) taken.later (slice_set nexts s.track next) d
          (subst (λ (r : Schedule). IsTurn file (infos_left leaving (divisors_of leaving file tree) m.tracks) r (slice_set lefts s.track left_behind_it) taken.later) (sym turned_is) stands_next.turn) stands_next.shown
          (left_scales leaving file m tree o) f

      -- Behind it one more piece is looked at, if it took samples.
      pub longest_next : (most later : ℕ) → max most (longest_piece (pieces_from s comings)) ≡ longest_piece (pieces (remaining leaving (presentation_of file tree))) → later ≡ max most n → IsLongest leaving file tree m on (slice_set walks k now) (slice_set nexts k next) later
      longest_next most later longest e =
          subst (λ j. IsLongest leaving file tree m on (slice_set walks j now) (slice_set nexts j next) later) (sym t.place) (subst (λ (r : Schedule). IsLongest leaving file tree m r (slice_set walks s.track now) (slice_set nexts s.track next) later) (sym turned_is) (record {
            lefts = slice_set lefts s.track left_behind_it;
            comings = taken.later;
            at = stands_next;
            longest = (λ i. max ((e ∙ ap (max most) is) i) (longest_piece (pieces_from (turned s end piece_size (slice_get left_behind_it 0)) taken.later)))
                ∙ sym (turn_longest most (id_left leaving (s.track + 1) t.info.id) piece_size taken.samples (pieces_from (turned s end piece_size (slice_get left_behind_it 0)) taken.later) many_taken)
                ∙ ap (λ ps. max most (longest_piece ps)) (sym taken.pieces) ∙ longest;
          }))

      -- And its bytes are added.
      pub length_next : (len later number : ℕ) (p : Planned) → n ≡ p.count → p ≡ planned_of (piece_fed (piece_from end) t.left).gathered → IsSmall p → Adds (keys_seen t.info.keys) p len later → len + left_count lefts * 2 ^ 33 ≤ 2 ^ 57
          → len + length (pieces_bytes number (pieces_from s comings)) ≡ length (pieces_bytes 1 (pieces (remaining leaving (presentation_of file tree)))) → IsLength leaving file tree m on (slice_set walks k now) (slice_set nexts k next) later
      length_next len later number p counted planned small adds fits so_far =
          subst (λ j. IsLength leaving file tree m on (slice_set walks j now) (slice_set nexts j next) later) (sym t.place) (subst (λ (r : Schedule). IsLength leaving file tree m r (slice_set walks s.track now) (slice_set nexts s.track next) later) (sym turned_is) (record {
            lefts = slice_set lefts s.track left_behind_it;
            comings = taken.later;
            at = stands_next;
            fits = (let b = sum.0 in let c = sum.1 in let d = count_left in let e = fewer_left in omega (arith, fits, b, c, d, e, count));
            number = number + length xs;
            len =
                (let a = sum.0 in
                let two = ap (λ (bs : List ℕ). length bs) (bytes_of_two number xs ys) ∙ length-append (pieces_bytes number xs) (pieces_bytes (number + length xs) ys) in
                let n : later + length (pieces_bytes (number + length xs) ys) ≡ len + length (pieces_bytes number (xs ++ ys)) = omega (arith, a, two) in
                n)
                ∙ ap (λ ps. len + length (pieces_bytes number ps)) (sym taken.pieces) ∙ so_far;
          }))
        where
          count : p.count ≡ piece_size
          count = sym counted ∙ is

          xs : List Piece
          xs = piece_if (id_left leaving (s.track + 1) t.info.id) taken.samples

          ys : List Piece
          ys = pieces_from (turned s end piece_size (slice_get left_behind_it 0)) taken.later

          facts : taken_from.TrackFacts file tree t.info t.t
          facts = track_facts_at file m tree s.track t.info t.t o t.is_info t.is_tree

          keys : AreKeys (keys_seen t.info.keys)
          keys = record { apart = facts.apart; named = facts.named; few = facts.few_keys }

          long : ℕ
          long = length (pieces_bytes number xs)

          sum : (later ≡ len + long) × (long ≤ p.count * 2 ^ 33)
          sum =
              let less = fewer_left in
              added (keys_seen t.info.keys) p len later long (left_count lefts) adds keys.few small (λ e. none_long file (keys_seen t.info.keys) number (id_left leaving (s.track + 1) t.info.id) piece_size t.left taken.samples taken.taken (sym count ∙ e))
              (λ some. some_long file (keys_seen t.info.keys) number (id_left leaving (s.track + 1) t.info.id) piece_size t.left taken.samples p keys taken.taken planned (omega (arith, some, count)) within_left small.few) (omega (arith, count, less)) fits

-- ---- where tracks are skipped

module _ (leaving : Without) (file : List ℕ) (tree : FileTree) (m : MovieSeen) (s later : Schedule) (walks : List Walk) (nexts : List (Option SampleAt)) (d : DueTracks) (o : IsOpenedAs file m tree) (skips : Skips d s later)
    (due : IsDueAt (tracks_left leaving (divisors_of leaving file tree) m.tracks) nexts later d) where
  stands_skipped : (lefts : List (List SampleAt)) (comings : List Coming) → StandsAt leaving file tree m s walks nexts lefts comings → StandsAt leaving file tree m later walks nexts lefts comings × (pieces_from s comings ≡ pieces_from later comings)
  stands_skipped lefts comings h =
      let r = turns_skipped file (infos_left leaving (divisors_of leaving file tree) m.tracks) d s later nexts lefts comings skips h.turn h.shown due (left_scales leaving file m tree o) in
      (record { come = h.come; shown = h.shown; turn = r.0; few = h.few }, r.1)

  -- The longest piece is one of the same pieces.
  pub longest_skips : (most : ℕ) → IsLongest leaving file tree m s walks nexts most → IsLongest leaving file tree m later walks nexts most
  longest_skips most h =
      let r = stands_skipped h.lefts h.comings h.at in
      record { lefts = h.lefts; comings = h.comings; at = r.0; longest = ap (λ ps. max most (longest_piece ps)) (sym r.1) ∙ h.longest }

  -- They have as many bytes.
  pub length_skips : (so_far : ℕ) → IsLength leaving file tree m s walks nexts so_far → IsLength leaving file tree m later walks nexts so_far
  length_skips so_far h =
      let r = stands_skipped h.lefts h.comings h.at in
      record { lefts = h.lefts; comings = h.comings; at = r.0; fits = h.fits; number = h.number; len = ap (λ ps. so_far + length (pieces_bytes h.number ps)) (sym r.1) ∙ h.len }
