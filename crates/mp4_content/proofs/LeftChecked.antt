-- What remains of an opened file, of which its tracks were measured: in limits, or why not.
use Rattle.std.proofs.Common.{◌≡◌, ℕ, ◌+◌, ◌-◌, ◌^◌, ◌<◌, length, min, Bool, true, false, if◌then◌else◌, List, [], ◌∷◌, map, refl, sym, ap, subst, ◌∙◌, arith, inl}
use Rattle.std.specs.Prelude.{◌&&◌, ◌||◌, not, Result, Ok, Err, FitsSigned}
use Rattle.std.specs.Int.{w32}
use Rattle.std.specs.List.{AllByRecursion, AllZip}
use Rattle.mp4_boxes.specs.declared.fault.Fault.{Fault}
use Rattle.mp4_boxes.proofs.Plain.{both_ways}
use Rattle.mp4_head.specs.format.Tree.{TrackTree, track_head_of}
use Rattle.mp4_head.specs.declared.heads.MovieHead.{MovieHead}
use Rattle.mp4_head.specs.declared.heads.TrackHead.{TrackHead}
use Rattle.mp4_frag.specs.format.FragmentSamples.{start_of}
use Rattle.mp4_tables.specs.words.Keys.{keys_seen}
use Rattle.mp4_present.specs.format.Denotes.{FileTree, plain_of, file_parts, parts_of_track, placed_of, movie_timescale, track_of, presentation_of}
use Rattle.mp4_present.specs.format.Presentation.{Sample, Track, IsInTime, movie_length, total_duration}
use Rattle.mp4_content.specs.format.Reduced.{HasNearOffsets, reduce_track, start_left, timescale_left}
use Rattle.mp4_content.specs.format.Remaining.{RemainsInLimits, movie_divisor, remaining, remaining_track, track_divisor}
use Rattle.mp4_content.specs.format.Timescales.{divided, track_times}
use Rattle.mp4_present.specs.words.Movies.{MovieSeen}
use Rattle.mp4_present.specs.words.OpenedMovie.{HoldsTrack, IsInfoOf, IsOpenedAs}
use Rattle.mp4_present.specs.words.SamplesComing.{track_keys, track_samples}
use Rattle.mp4_content.specs.declared.reduced.Reduction.{Reduction}
use Rattle.mp4_content.specs.declared.scales.Scales.{Scales}
use Rattle.mp4_content.specs.declared.without.Without.{Without}
use Rattle.mp4_present.specs.declared.track_info.TrackInfo.{TrackInfo}
use Rattle.mp4_content.specs.words.ComingLess.{track_reduction}
use Rattle.mp4_content.specs.words.LeftTimes.{TreeLeftInLimits, TreePassesLimits, check_tracks, scale_left, track_left}
use Rattle.mp4_content.specs.words.Measuring.{AreTotals, measures, no_total, total_from, track_total}
use Rattle.mp4_content.specs.declared.measures.Total.{Total}
use Rattle.mp4_content.proofs.CheckedTracks.{AreGood, IsGood, all_err, all_ok}
use Rattle.mp4_content.proofs.LeftTimes.{AreHeadsLeft, IsHeadLeft, file_longest, opened_near, opened_scales, undivided}
use Rattle.mp4_content.proofs.Measured.{near_total, total_lasts, total_near}
use Rattle.mp4_content.proofs.ReducedTaken as taken
use Rattle.mp4_content.proofs.ReducedTaken.{divided_by, divisor_left_divides, left_by, left_near, remaining_from, taken_remain, timed_numbered}
use Rattle.mp4_content.proofs.ReducedValid.{durations_same, near_left, scale_some}
use Rattle.mp4_content.proofs.TimescalesLengths.{near_samples}
use Rattle.mp4_content.proofs.TimescalesValid.{scale_some_by}
use Rattle.mp4_content.proofs.SamplesTaken.{IsTrackTaken, tracks_taken}

zero_first : (n : ℕ) → min (0 + n) (2 ^ 64 - 1) ≡ min n (2 ^ 64 - 1)
zero_first n = omega arith

module _ (l : Without) (counts : l.timing ≡ false) (file : List ℕ) (tree : FileTree) where
  abbrev own : TrackTree → Track
  own t = track_of file (file_parts tree) t

  abbrev left : TrackTree → Track
  left t = track_left l file tree t

  -- ---- a track whose samples are measured

  module _ (t : TrackTree) (info : TrackInfo) (facts : IsTrackTaken file tree info t) where
    abbrev samples : List Sample
    samples = (own t).samples

    abbrev r : Reduction
    r = track_reduction l file tree t

    abbrev total : Total
    total = total_from r no_total (track_samples tree t)

    same : remaining_from r.leaving r.divisor r.samples r.offset 0 samples ≡ (left t).samples
    same =
        (λ i. remaining_from (left_by l (track_divisor l (own t)) (track_samples tree t) i) (divided_by l (track_divisor l (own t)) (track_samples tree t) i) r.samples r.offset 0 samples)
        ∙ taken_remain l (track_divisor l (own t)) file (keys_seen info.keys) (own t).start (track_samples tree t) samples facts

    measured_long : total.duration ≡ min (total_duration (left t).samples) (2 ^ 64 - 1)
    measured_long =
        total_lasts r file (keys_seen info.keys) no_total 1 (own t).start 0 (track_samples tree t) samples (omega arith)
        (timed_numbered (track_keys tree t) 0 (start_of (plain_of t) (parts_of_track (file_parts tree) t)) (placed_of (file_parts tree) t)) facts
        ∙ zero_first (total_duration (remaining_from r.leaving r.divisor r.samples r.offset 0 samples))
        ∙ ap (λ (ss : List Sample). min (total_duration ss) (2 ^ 64 - 1)) same

    measured_near : total.is_near ≡ true → HasNearOffsets (left t)
    measured_near e =
        subst (AllByRecursion (λ (s : Sample). FitsSigned w32 s.offset)) same
        (left_near r.leaving r.divisor r.samples r.offset 0 samples (total_near r file (keys_seen info.keys) no_total 1 (own t).start (track_samples tree t) samples facts e).1)

    measured_far : total.is_near ≡ false → HasNearOffsets (left t) → ⊥
    measured_far e near =
        let all = taken.near_left r.leaving r.divisor r.samples r.offset 0 samples (subst (AllByRecursion (λ (s : Sample). FitsSigned w32 s.offset)) (sym same) near) in
        both_ways total.is_near (near_total r file (keys_seen info.keys) no_total 1 (own t).start (track_samples tree t) samples facts refl all) e

  -- the timescale of a track that remains is above 0
  scale_remains : (t : TrackTree) → 0 < (track_head_of t).media.timescale → 0 < (left t).head.media.timescale
  scale_remains t some =
      let u = own t in
      scale_some_by l (track_divisor l u) (timescale_left l u.head.media.timescale) (divisor_left_divides l (track_times l (reduce_track l u))).0 (scale_some l u.head.media.timescale some)

  -- where origins stay, so do offsets that fit
  near_remains : l.origins ≡ false → (t : TrackTree) → HasNearOffsets (own t) → HasNearOffsets (left t)
  near_remains o t good =
      let u = reduce_track l (own t) in
      near_samples l (track_divisor l (own t)) (length u.samples) 0 u.samples (near_left l (inl o) (own t) good)

  -- where samples are not asked, what remains lasts as long as they do
  not_asked : measures l ≡ false → (l.ends ≡ false) × (l.origins ≡ false) × (l.timescales ≡ false)
  not_asked e = by l.timing l.ends l.origins l.timescales e counts
    where
      by : (t e o s : Bool) → ((((e || o) && not t) || s) && not t) ≡ false → t ≡ false → (e ≡ false) × (o ≡ false) × (s ≡ false)
      by true e o s h f = absurd cc
      by false true o s h f = absurd cc
      by false false true s h f = absurd cc
      by false false false true h f = absurd cc
      by false false false false h f = (refl, refl, refl)

  unasked_long : measures l ≡ false → (t : TrackTree) → total_duration (left t).samples ≡ total_duration (own t).samples
  unasked_long e t =
      let none = not_asked e in
      ap (λ (x : Track). total_duration x.samples) (undivided l none.2 (presentation_of file tree) (own t)) ∙ durations_same l counts none.0 (own t).samples

  one_good : (t : TrackTree) (h : TrackHead) (divisor : ℕ) (info : TrackInfo) (total : Total) → IsHeadLeft l file tree t h divisor → HoldsTrack t → 0 < (track_head_of t).media.timescale → IsInfoOf file tree t info → IsTrackTaken file tree info t → HasNearOffsets (own t)
      → IsInTime (movie_timescale file tree) (own t) → total ≡ track_total l file tree t info → IsGood l file tree t h divisor info total
  one_good t h divisor info total head is_tree scale is facts good in_time e = by (measures l) refl e
    where
      begins : divided divisor (start_left l info.start) ≡ (left t).start
      begins = λ i. divided (head.divisor_is i) (start_left l (is.start i))

      by : (b : Bool) → measures l ≡ b → total ≡ (if b then total_from (track_reduction l file tree t) no_total (track_samples tree t) else record { duration = info.duration; is_near = true }) → IsGood l file tree t h divisor info total
      by true a e = record {
        edits = head.edits;
        media = head.media;
        place = head.place;
        is_tree = is_tree;
        timescale = scale_remains t scale;
        start = begins;
        long = ap (λ (x : Total). x.duration) e ∙ measured_long t info facts;
        near = λ o n. measured_near t info facts (sym (ap (λ (x : Total). x.is_near) e) ∙ n);
        far = λ o n. measured_far t info facts (sym (ap (λ (x : Total). x.is_near) e) ∙ n);
        other = λ o. near_remains o t good;
      }
      by false a e =
          let d = is.duration in
          let few = in_time.0 in
          let long = unasked_long a t in
          record {
            edits = head.edits;
            media = head.media;
            place = head.place;
            is_tree = is_tree;
            timescale = scale_remains t scale;
            start = begins;
            long = ap (λ (x : Total). x.duration) e ∙ (let n : info.duration ≡ min (total_duration (left t).samples) (2 ^ 64 - 1) = omega (arith, d, few, long) in n);
            near = λ o n. both_ways l.origins o (not_asked a).1;
            far = λ o n. both_ways l.origins o (not_asked a).1;
            other = λ o. near_remains o t good;
          }

  -- ---- all tracks

  all_good : (trees : List TrackTree) (hs : List TrackHead) (divisors : List ℕ) (infos : List TrackInfo) (totals : List Total) → AreHeadsLeft l file tree trees hs divisors → AllByRecursion HoldsTrack trees → AllByRecursion (λ (t : TrackTree). 0 < (track_head_of t).media.timescale) trees
      → AllZip (IsInfoOf file tree) trees infos → AllZip (IsTrackTaken file tree) infos trees → AllByRecursion (λ (t : TrackTree). HasNearOffsets (own t)) trees → AllByRecursion (IsInTime (movie_timescale file tree)) (map own trees) → AreTotals l file tree trees infos totals
      → AreGood l file tree trees hs divisors infos totals
  all_good [] [] [] [] [] s a c i k v w x = tt
  all_good [] [] [] [] (y ∷ totals) s a c i k v w x = absurd x
  all_good [] [] [] (y ∷ infos) totals s a c i k v w x = absurd i
  all_good [] [] (y ∷ divisors) infos totals s a c i k v w x = absurd s
  all_good [] (y ∷ hs) divisors infos totals s a c i k v w x = absurd s
  all_good (t ∷ trees) [] divisors infos totals s a c i k v w x = absurd s
  all_good (t ∷ trees) (h ∷ hs) [] infos totals s a c i k v w x = absurd s
  all_good (t ∷ trees) (h ∷ hs) (divisor ∷ divisors) [] totals s a c i k v w x = absurd i
  all_good (t ∷ trees) (h ∷ hs) (divisor ∷ divisors) (info ∷ infos) [] s a c i k v w x = absurd x
  all_good (t ∷ trees) (h ∷ hs) (divisor ∷ divisors) (info ∷ infos) (total ∷ totals) s a c i k v w x =
      (one_good t h divisor info total s.0 a.0 c.0 i.0 k.0 v.0 w.0 x.0, all_good trees hs divisors infos totals s.1 a.1 c.1 i.1 k.1 v.1 w.1 x.1)

  each_apart : (trees : List TrackTree) → AllByRecursion (TreeLeftInLimits l file tree) trees
      → AllByRecursion (λ (t : Track). IsInTime (scale_left l file tree) (remaining_track l (movie_divisor l (presentation_of file tree)) t)) (map own trees) × AllByRecursion (λ (t : Track). HasNearOffsets (remaining_track l (movie_divisor l (presentation_of file tree)) t)) (map own trees)
  each_apart [] h = (tt, tt)
  each_apart (t ∷ trees) h = let more = each_apart trees h.1 in ((h.0.0, more.0), (h.0.1, more.1))

  module _ (m : MovieSeen) (scales : Scales) (head : MovieHead) (totals : List Total) (o : IsOpenedAs file m tree) (heads_are : AreHeadsLeft l file tree tree.movie.tracks head.tracks.items scales.tracks.items) (scale : head.timescale ≡ scale_left l file tree)
      (are : AreTotals l file tree tree.movie.tracks m.tracks totals) where
    good : AreGood l file tree tree.movie.tracks head.tracks.items scales.tracks.items m.tracks totals
    good = all_good tree.movie.tracks head.tracks.items scales.tracks.items m.tracks totals heads_are o.is_tree.tracks (opened_scales file m tree o) o.tracks (tracks_taken file m tree o) (opened_near file m tree o) o.limits.times are

    abbrev checked : ℕ → Result ℕ Fault
    checked timescale = check_tracks l timescale 0 head.tracks.items scales.tracks.items m.tracks totals

    -- Where all tracks are in limits, what remains is, and it is as long as the longest.
    pub left_ok : (n : ℕ) → checked head.timescale ≡ Ok n → RemainsInLimits l (presentation_of file tree) × (n ≡ movie_length (remaining l (presentation_of file tree)))
    left_ok n e =
        let r = all_ok l file tree 0 n tree.movie.tracks head.tracks.items scales.tracks.items m.tracks totals good (ap checked (sym scale) ∙ e) in
        let apart = each_apart tree.movie.tracks r.0 in
        (record { in_time = apart.0; in_range = apart.1 }, r.1 ∙ sym (file_longest l file tree))

    -- Where one isn't, it is the first.
    pub left_err : (f : Fault) → checked head.timescale ≡ Err f → TreePassesLimits l file tree f
    left_err f e =
        let p = all_err l file tree 0 f tree.movie.tracks head.tracks.items scales.tracks.items m.tracks totals good (ap checked (sym scale) ∙ e) in
        record { before = p.before; t = p.t; after = p.after; tracks = p.split; in_limits = p.in_limits; named = p.named }
