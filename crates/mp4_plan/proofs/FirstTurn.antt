-- The first turn over the tracks of an opened file of which something may be left out: all of their samples are left, and so are all pieces.
use Rattle.std.proofs.Common.{◌≡◌, ℕ, suc, ◌+◌, ◌-◌, ◌^◌, ◌<◌, ◌≤◌, min, List, [], ◌∷◌, length, Some, None, refl, sym, ap, subst, ◌∙◌, arith}
use Rattle.mp4_content.specs.declared.without.Without.{Without}
use Rattle.mp4_content.specs.words.ComingLess.{asks_first, left_samples, plain_reduction, reduce_at, reduction_by, reduction_of}
use Rattle.mp4_content.specs.format.Reduced.{HasNearOffsets, id_left, number_track, number_tracks, start_left, timescale_left}
use Rattle.mp4_content.specs.format.Remaining.{RemainsInRange, movie_divisor, remaining, remaining_movie, remaining_track, track_divisor}
use Rattle.mp4_content.specs.format.Timescales.{divided, timescale_by}
use Rattle.mp4_content.specs.words.Scales.{divisors_of}
use Rattle.mp4_head.proofs.Distinct.{map_twice}
use Rattle.mp4_content.proofs.ReducedTaken.{remaining_are_taken, timed_numbered}
use Rattle.mp4_plan.proofs.InfosLeft.{many_from}
use Rattle.mp4_content.proofs.ReducedValid.{scale_some}
use Rattle.mp4_content.proofs.RemainingValues.{track_divisor_divides}
use Rattle.mp4_content.proofs.TimescalesValid.{scale_some_by}
use Rattle.std.proofs.Math.Nat.{zero-div}
use Rattle.std.specs.Prelude.{Bool, true, false, not, ◌&&◌, ◌||◌, ◌==◌, if◌then◌else◌, map, unwrap_or, option_map}
use Rattle.std.specs.List.{AllByRecursion, AllZip, slice_get}
use Rattle.mp4_tables.specs.format.Groups.{GroupKey}
use Rattle.mp4_tables.specs.words.Keys.{keys_seen}
use Rattle.mp4_tables.specs.format.PlainSamples.{PlacedSample}
use Rattle.mp4_tables.specs.words.Timed.{sample_at, timed}
use Rattle.mp4_tables.specs.declared.sample.SampleAt.{SampleAt}
use Rattle.mp4_frag.specs.format.FragmentSamples.{start_of}
use Rattle.mp4_head.specs.format.Tree.{TrackTree, track_head_of, movie_head_of}
use Rattle.mp4_head.specs.format.Head.{MovieHead}
use Rattle.mp4_present.specs.words.SamplesComing.{track_keys, track_samples}
use Rattle.mp4_present.specs.format.Denotes.{FileTree, movie_timescale, plain_of, file_parts, parts_of_track, placed_of, sample_of, track_of, presentation_of}
use Rattle.mp4_present.specs.words.Movies.{MovieSeen}
use Rattle.mp4_present.specs.words.OpenedMovie.{IsOpenedAs}
use Rattle.mp4_present.specs.format.Presentation.{IsInTime, Track, end_time, max_time}
use Rattle.mp4_present.specs.declared.track_info.TrackInfo.{TrackInfo}
use Rattle.mp4_present.proofs.ValidSamples.{starts_at_0}
use Rattle.mp4_plan.specs.words.PiecesComing.{coming_of, stops, all_left}
use Rattle.mp4_content.specs.format.TimedSamples.{TimedSample}
use Rattle.mp4_plan.specs.format.Pieces.{pieces}
use Rattle.mp4_content.specs.words.TakenSamples.{AreTaken}
use Rattle.mp4_plan.specs.words.TurnLaws.{HavePassed}
use Rattle.mp4_content.specs.words.Contents.{info_left, infos_from, infos_left, numbers_of}
use Rattle.mp4_plan.specs.words.Turns.{first_scale}
use Rattle.mp4_plan.specs.declared.ends.End.TheVariants.{Sync}
use Rattle.mp4_plan.specs.declared.schedule.Schedule.{Schedule}
use Rattle.mp4_plan.proofs.FragmentsLeft.{not_itself, turns_begin_with_all}
use Rattle.mp4_plan.proofs.Lefts.{IsLeft, AreLeft, left_count, IsFresh, StandsAmong, pieces_from, IsTurn}
use Rattle.mp4_plan.proofs.TakenFrom.{TrackFacts, track_facts}
use Rattle.mp4_plan.proofs.TurnSteps.{at_first}

-- the decode time of the first of some samples, 0 without one
abbrev pub first_dts : List SampleAt → ℕ
first_dts left = unwrap_or (option_map (λ (s : SampleAt). s.dts) (slice_get left 0)) 0

-- that of the first track
abbrev pub begins_at : List (List SampleAt) → ℕ
begins_at [] = 0
begins_at (left ∷ lefts) = first_dts left

-- The first turn over tracks of which these samples are left.
pub record IsFirst (infos : List TrackInfo) (lefts : List (List SampleAt)) (s : Schedule) : Type 0 where
  pub tracks : s.tracks ≡ length infos
  pub first : s.first ≡ first_scale (map numbers_of infos)
  pub track : s.track ≡ 0
  pub from : s.from ≡ begins_at lefts
  pub next : s.next ≡ None
  pub left : s.left ≡ left_count lefts

-- what is left of a track
abbrev pub left_track : Without → ℕ → List ℕ → FileTree → TrackTree → Track
left_track leaving whole file tree t = remaining_track leaving whole (track_of file (file_parts tree) t)

-- by what its times are divided
abbrev own_divisor : Without → List ℕ → FileTree → TrackTree → ℕ
own_divisor leaving file tree t = track_divisor leaving (track_of file (file_parts tree) t)

-- in a movie whose times are divided by this
module _ (leaving : Without) (whole : ℕ) where
  -- ---- the first track

  -- where the first sample is due is where the track begins
  first_due : (g : ℕ) (v t e o : Bool) (start duration : ℕ) → ((e || o) && not t) ≡ v
      → (if t then 0 else (let began = if v then start else 0 in let own = if v then duration else 0 in if e && not (0 == 0) then min (divided g ((if o then start - began else start) - own) + 1) (2 ^ 64 - 1) else divided g (if o then start - began else start))) ≡ divided g
      (if t then 0 else if o then 0 else start)
  first_due g v true e o start duration h = sym (zero-div g)
  first_due g true false e true start duration h = by e ∙ ap (divided g) none
    where
      none : start - start ≡ 0
      none = omega arith

      by : (b : Bool) → (if b && not (0 == 0) then min (divided g (start - start - duration) + 1) (2 ^ 64 - 1) else divided g (start - start)) ≡ divided g (start - start)
      by true = refl
      by false = refl
  first_due g false false true true start duration h = absurd cc
  first_due g false false false true start duration h = absurd cc
  first_due g v false true false start duration h = refl
  first_due g v false false false start duration h = refl

  -- a track begins with its first sample; one without samples at 0
  begins : (file : List ℕ) (tree : FileTree) (t : TrackTree) → first_dts (left_samples leaving file tree t) ≡ (left_track leaving whole file tree t).start
  begins file tree t = by (placed_of (file_parts tree) t) refl
    where
      start : ℕ
      start = start_of (plain_of t) (parts_of_track (file_parts tree) t)

      g : ℕ
      g = own_divisor leaving file tree t

      samples : List PlacedSample → List SampleAt
      samples placed = timed (track_keys tree t) 0 start placed

      at_0 : (a b : Bool) (n : ℕ) → n ≡ 0 → 0 ≡ (if a then 0 else if b then 0 else n)
      at_0 true b n e = refl
      at_0 false true n e = refl
      at_0 false false n e = sym e

      due : (s : PlacedSample) (placed : List PlacedSample) (v : Bool) → asks_first leaving ≡ v →
          (reduce_at (if v then reduction_by leaving g (length (samples (s ∷ placed))) (Some (sample_at (track_keys tree t) 0 start s)) else plain_reduction leaving g) (sample_at (track_keys tree t) 0 start s)).dts
          ≡ divided g (start_left leaving start)
      due s placed true e = first_due g true leaving.timing leaving.ends leaving.origins start s.duration e
      due s placed false e = first_due g false leaving.timing leaving.ends leaving.origins start s.duration e

      by : (placed : List PlacedSample) → placed_of (file_parts tree) t ≡ placed → first_dts (map (reduce_at (reduction_of leaving g (samples placed))) (samples placed)) ≡ divided g (start_left leaving start)
      by [] e = sym (zero-div g) ∙ ap (divided g) (at_0 leaving.timing leaving.origins start (starts_at_0 file (plain_of t) (parts_of_track (file_parts tree) t) (ap (map (sample_of file)) e)))
      by (s ∷ placed) e = due s placed (asks_first leaving) refl

  -- the first sample does not end the piece that begins with it
  fresh : (file : List ℕ) (keys : List GroupKey) (from scale : ℕ) (left : List SampleAt) (samples : List TimedSample) → AreTaken file keys left samples → 0 < scale → from ≡ first_dts left → IsFresh (Sync from scale) samples
  fresh file keys from scale left [] z lt e = tt
  fresh file keys from scale [] (s ∷ samples) z lt e = absurd z
  fresh file keys from scale (a ∷ left) (s ∷ samples) z lt e = subst (λ n. stops (Sync n scale) s ≡ false) (sym (e ∙ z.0.time)) (not_itself scale s lt)

  -- ---- all tracks

  -- a track of the file is not too long, and what is left of its offsets fits
  abbrev IsGood : List ℕ → FileTree → TrackTree → Type 0
  IsGood file tree t = (end_time (track_of file (file_parts tree) t) ≤ max_time) × HasNearOffsets (left_track leaving whole file tree t)

  all_good : (file : List ℕ) (tree : FileTree) (timescale : ℕ) (trees : List TrackTree) → AllByRecursion (IsInTime timescale) (map (track_of file (file_parts tree)) trees) → AllByRecursion (λ (t : Track). HasNearOffsets (remaining_track leaving whole t)) (map (track_of file (file_parts tree)) trees)
      → AllByRecursion (IsGood file tree) trees
  all_good file tree timescale [] h n = tt
  all_good file tree timescale (t ∷ trees) h n = ((h.0.0, n.0), all_good file tree timescale trees h.1 n.1)

  less_left : (file : List ℕ) (tree : FileTree) (place : ℕ) (info : TrackInfo) (t : TrackTree) → TrackFacts file tree info t → IsGood file tree t → IsLeft file (info_left leaving place (own_divisor leaving file tree t) info) (left_samples leaving file tree t)
      (coming_of (number_track leaving place (left_track leaving whole file tree t)))
  less_left file tree place info t h good = record {
    id = ap (id_left leaving place) h.left.id;
    timescale = ap (λ n. timescale_by leaving (divided (own_divisor leaving file tree t)) (timescale_left leaving n)) h.left.timescale;
    taken = remaining_are_taken leaving file (keys_seen info.keys) (track_samples tree t) whole (track_of file (file_parts tree) t) (timed_numbered (track_keys tree t) 0 (start_of (plain_of t) (parts_of_track (file_parts tree) t)) (placed_of (file_parts tree) t)) good.0 good.1 h.left.taken;
  }

  -- what is left of tracks of which the first stands at this place
  abbrev left_tracks : List ℕ → FileTree → ℕ → List TrackTree → List Track
  left_tracks file tree place trees = number_tracks leaving place (map (left_track leaving whole file tree) trees)

  -- all samples of all tracks are left
  lefts_of : (file : List ℕ) (tree : FileTree) (place : ℕ) (infos : List TrackInfo) (trees : List TrackTree) → AllZip (TrackFacts file tree) infos trees → AllByRecursion (IsGood file tree) trees
      → AreLeft file (infos_from leaving place (map (own_divisor leaving file tree) trees) infos) (map (left_samples leaving file tree) trees) (map coming_of (left_tracks file tree place trees))
  lefts_of file tree place [] [] z g = tt
  lefts_of file tree place [] (t ∷ trees) z g = absurd z
  lefts_of file tree place (info ∷ infos) [] z g = absurd z
  lefts_of file tree place (info ∷ infos) (t ∷ trees) z g = (less_left file tree place info t z.0 g.0, lefts_of file tree (suc place) infos trees z.1 g.1)

  as_many : (file : List ℕ) (tree : FileTree) (place : ℕ) (infos : List TrackInfo) (trees : List TrackTree) → AllZip (TrackFacts file tree) infos trees → length infos ≡ length (map coming_of (left_tracks file tree place trees))
  as_many file tree place [] [] z = refl
  as_many file tree place [] (t ∷ trees) z = absurd z
  as_many file tree place (info ∷ infos) [] z = absurd z
  as_many file tree place (info ∷ infos) (t ∷ trees) z = ap suc (as_many file tree (suc place) infos trees z.1)

  -- a timescale that is left is above 0
  scale_left : (file : List ℕ) (tree : FileTree) (t : TrackTree) → 0 < (track_head_of t).media.timescale → 0 < timescale_by leaving (divided (own_divisor leaving file tree t)) (timescale_left leaving (track_head_of t).media.timescale)
  scale_left file tree t some = scale_some_by leaving (own_divisor leaving file tree t) (timescale_left leaving (track_head_of t).media.timescale) (track_divisor_divides leaving (track_of file (file_parts tree) t)).0 (scale_some leaving (track_head_of t).media.timescale some)

  stands : (file : List ℕ) (tree : FileTree) (infos : List TrackInfo) (trees : List TrackTree) (s : Schedule) → AllZip (TrackFacts file tree) infos trees → AllByRecursion (λ (t : TrackTree). 0 < (track_head_of t).media.timescale) trees → AllByRecursion (IsGood file tree) trees
      → IsFirst (infos_left leaving (map (own_divisor leaving file tree) trees) infos) (map (left_samples leaving file tree) trees) s
      → StandsAmong s (map coming_of (left_tracks file tree 1 trees))
  stands file tree [] [] s z lt g h = h.tracks
  stands file tree [] (t ∷ trees) s z lt g h = absurd z
  stands file tree (info ∷ infos) [] s z lt g h = absurd z
  stands file tree (info ∷ infos) (t ∷ trees) s z lt g h =
      let own = own_divisor leaving file tree t in
      let scale = timescale_by leaving (divided own) (timescale_left leaving (track_head_of t).media.timescale) in
      let some = scale_left file tree t lt.0 in
      let others = map coming_of (left_tracks file tree 2 trees) in
      let track = h.track in
      record {
        among = record {
          tracks = h.tracks ∙ ap suc (many_from leaving 2 (map (own_divisor leaving file tree) trees) infos ∙ as_many file tree 2 infos trees z.1);
          track = omega (arith, track);
          timescale = some;
          passed = subst (λ n. HavePassed s.next scale n others) (sym track) tt;
          over = λ e. h.next;
        };
        scale = h.first ∙ sym (ap (λ n. timescale_by leaving (divided own) (timescale_left leaving n)) z.0.left.timescale);
        fresh = λ e. fresh file (keys_seen info.keys) s.from scale (left_samples leaving file tree t) (coming_of (left_track leaving whole file tree t)).samples (less_left file tree 1 info t z.0 g.0).taken some h.from;
        next = λ behind. absurd (omega (arith, track, behind));
      }

  -- the pieces that are left are all
  all_pieces : (file : List ℕ) (tree : FileTree) (infos : List TrackInfo) (movie : MovieHead) (trees : List TrackTree) (s : Schedule) → AllByRecursion (λ (t : TrackTree). 0 < (track_head_of t).media.timescale) trees → IsFirst
      (infos_left leaving (map (own_divisor leaving file tree) trees) infos) (map (left_samples leaving file tree) trees) s
      → pieces_from s (map coming_of (left_tracks file tree 1 trees)) ≡ pieces (record { movie = movie; tracks = left_tracks file tree 1 trees })
  all_pieces file tree infos movie [] s lt h = sym (turns_begin_with_all (record { movie = movie; tracks = [] }))
  all_pieces file tree infos movie (t ∷ trees) s lt h =
      let first : Track = number_track leaving 1 (left_track leaving whole file tree t) in
      let others = left_tracks file tree 2 trees in
      at_first s (coming_of first) (map coming_of others) h.track
      ∙ ap (λ n. all_left n (coming_of first) (map coming_of others)) (h.from ∙ begins file tree t)
      ∙ sym (turns_begin_with_all (record { movie = movie; tracks = first ∷ others }) (scale_left file tree t lt.0))

-- At the first turn all samples and all pieces of the presentation are left.
pub first_turn : (leaving : Without) (file : List ℕ) (m : MovieSeen) (tree : FileTree) (s : Schedule) → IsOpenedAs file m tree → RemainsInRange leaving (presentation_of file tree) → IsFirst (infos_left leaving (divisors_of leaving file tree) m.tracks)
    (map (left_samples leaving file tree) tree.movie.tracks) s
    → IsTurn file (infos_left leaving (divisors_of leaving file tree) m.tracks) s (map (left_samples leaving file tree) tree.movie.tracks) (map coming_of (remaining leaving (presentation_of file tree)).tracks)
    × (pieces_from s (map coming_of (remaining leaving (presentation_of file tree)).tracks) ≡ pieces (remaining leaving (presentation_of file tree)))
first_turn leaving file m tree s o near h =
    let whole = movie_divisor leaving (presentation_of file tree) in
    let good = all_good leaving whole file tree (movie_timescale file tree) tree.movie.tracks o.limits.times near in
    let facts = track_facts file m tree o in
    let scales = o.is_sound.timescales in
    let same = map_twice (track_of file (file_parts tree)) (remaining_track leaving whole) tree.movie.tracks in
    subst (λ (left : List Track). let tracks = number_tracks leaving 1 left in
    IsTurn file (infos_left leaving (divisors_of leaving file tree) m.tracks) s (map (left_samples leaving file tree) tree.movie.tracks) (map coming_of tracks) ×
    (pieces_from s (map coming_of tracks) ≡ pieces (record { movie = remaining_movie leaving whole (movie_head_of tree.movie); tracks = tracks })))
    (sym same) (
      record { each = lefts_of leaving whole file tree 1 m.tracks tree.movie.tracks facts good; among = stands leaving whole file tree m.tracks tree.movie.tracks s facts scales good h; left = h.left },
      all_pieces leaving whole file tree m.tracks (remaining_movie leaving whole (movie_head_of tree.movie)) tree.movie.tracks s scales h,
    )
