-- Tracks that are measured one after the other.
use Rattle.std.proofs.Common.{◌≡◌, ℕ, zero, suc, ◌+◌, ◌<◌, ◌≤◌, Bool, true, false, if◌then◌else◌, List, [], ◌∷◌, ◌++◌, length, take, map, Some, refl, sym, ap, subst, ◌∙◌, arith}
use Rattle.std.specs.Prelude.{slice_get, unwrap_or, Option, ◌&&◌, ◌||◌, not}
use Rattle.std.proofs.lemmas.List.{take_all, map-append}
use Rattle.mp4_boxes.specs.format.Bytes.{sum_of}
use Rattle.mp4_boxes.proofs.Plain.{get_map, get_some, get_zip, length_zip}
use Rattle.mp4_tables.specs.declared.sample.SampleAt.{SampleAt}
use Rattle.mp4_head.specs.format.Tree.{TrackTree}
use Rattle.mp4_present.specs.format.Denotes.{FileTree, file_parts, track_of}
use Rattle.mp4_present.specs.words.Movies.{MovieSeen}
use Rattle.mp4_present.specs.words.OpenedMovie.{IsInfoOf, IsOpenedAs}
use Rattle.mp4_present.specs.words.SamplesComing.{track_samples}
use Rattle.mp4_present.specs.words.WalkSteps.{walk_steps, walks_steps}
use Rattle.mp4_present.specs.declared.track_info.TrackInfo.{TrackInfo}
use Rattle.mp4_content.specs.declared.without.Without.{Without}
use Rattle.mp4_content.specs.words.ComingLess.{asks_first, plain_reduction, reduction_by, reduction_of, track_reduction, reductions_of}
use Rattle.mp4_content.specs.words.Measuring.{AreTotals, measures, no_total, total_from, track_total}
use Rattle.mp4_content.specs.words.Scales.{AreScales}
use Rattle.mp4_content.specs.format.Remaining.{track_divisor}
use Rattle.mp4_content.specs.declared.scales.Scales.{Scales}
use Rattle.mp4_content.specs.declared.measures.Total.{Total}
use Rattle.mp4_content.specs.declared.reduced.Reduction.{Reduction}
use Rattle.mp4_content.proofs.AtPlaces.{taken_next}
use Rattle.mp4_tables.proofs.Sums.{sum_joined}
use Rattle.mp4_content.proofs.EndsCompared.{samples_many}

totals_behind : (l : Without) (file : List ℕ) (tree : FileTree) (ts : List TrackTree) (infos : List TrackInfo) (xs : List Total) (t : TrackTree) (info : TrackInfo) (x : Total) → AreTotals l file tree ts infos xs → x ≡ track_total l file tree t info → AreTotals l file tree (ts ++ t ∷ [])
    (infos ++ info ∷ []) (xs ++ x ∷ [])
totals_behind l file tree [] [] [] t info x h e = (e, tt)
totals_behind l file tree [] [] (y ∷ xs) t info x h e = absurd h
totals_behind l file tree [] (y ∷ infos) xs t info x h e = absurd h
totals_behind l file tree (u ∷ ts) [] xs t info x h e = absurd h
totals_behind l file tree (u ∷ ts) (y ∷ infos) [] t info x h e = absurd h
totals_behind l file tree (u ∷ ts) (y ∷ infos) (z ∷ xs) t info x h e = (h.0, totals_behind l file tree ts infos xs t info x h.1 e)

module _ (l : Without) (file : List ℕ) (m : MovieSeen) (tree : FileTree) (o : IsOpenedAs file m tree) where
  -- the first tracks were measured
  pub record AreSoFar (k : ℕ) (reductions : List Reduction) (totals : List Total) : Type 0 where
    pub by : reductions ≡ map (track_reduction l file tree) (take k tree.movie.tracks)
    pub all : AreTotals l file tree (take k tree.movie.tracks) (take k m.tracks) totals

  pub so_far_none : AreSoFar 0 [] []
  so_far_none = record { by = refl; all = tt }

  -- the track at a place, and its numbers
  pub record IsAt (k : ℕ) : Type 0 where
    pub t : TrackTree
    pub info : TrackInfo
    pub is_tree : slice_get tree.movie.tracks k ≡ Some t
    pub is_info : slice_get m.tracks k ≡ Some info

  pub is_at : (k : ℕ) → k < length m.tracks → IsAt k
  is_at k lt =
      let many = length_zip (IsInfoOf file tree) tree.movie.tracks m.tracks o.tracks in
      let t = get_some tree.movie.tracks k (omega (arith, lt, many)) in
      let info = get_some m.tracks k lt in
      record { t = t.0; info = info.0; is_tree = t.1; is_info = info.1 }

  -- and one more
  pub so_far_more : (k : ℕ) (reductions : List Reduction) (totals : List Total) (r : Reduction) (x : Total) (a : IsAt k) → AreSoFar k reductions totals → r ≡ track_reduction l file tree a.t → x ≡ track_total l file tree a.t a.info → AreSoFar (k + 1) (reductions ++ r ∷ []) (totals ++ x ∷ [])
  so_far_more k reductions totals r x a h e f =
      let next = taken_next tree.movie.tracks k a.t a.is_tree in
      record {
        by = (λ i. h.by i ++ e i ∷ []) ∙ sym (map-append (track_reduction l file tree) (take k tree.movie.tracks) (a.t ∷ [])) ∙ ap (map (track_reduction l file tree)) (sym next);
        all = subst (λ (ts : List TrackTree). AreTotals l file tree ts (take (k + 1) m.tracks) (totals ++ x ∷ [])) (sym next)
            (subst (λ (infos : List TrackInfo). AreTotals l file tree (take k tree.movie.tracks ++ a.t ∷ []) infos (totals ++ x ∷ [])) (sym (taken_next m.tracks k a.info a.is_info)) (totals_behind l file tree (take k tree.movie.tracks) (take k m.tracks) totals a.t a.info x h.all f));
      }

  -- all of them
  pub so_far_all : (k : ℕ) (reductions : List Reduction) (totals : List Total) → AreSoFar k reductions totals → length m.tracks ≤ k → (reductions ≡ reductions_of l file tree) × AreTotals l file tree tree.movie.tracks m.tracks totals
  so_far_all k reductions totals h le =
      let many = length_zip (IsInfoOf file tree) tree.movie.tracks m.tracks o.tracks in
      let trees = take_all k tree.movie.tracks (omega (arith, le, many)) in
      let infos = take_all k m.tracks le in (
        h.by ∙ ap (map (track_reduction l file tree)) trees,
        subst (λ (ts : List TrackTree). AreTotals l file tree ts m.tracks totals) trees (subst (λ (is : List TrackInfo). AreTotals l file tree (take k tree.movie.tracks) is totals) infos h.all),
      )

  -- in so many steps
  pub steps_more : (k old before now : ℕ) (a : IsAt k) → before ≤ old + sum_of (walk_steps tree) (take k tree.movie.tracks) → now ≤ before + walk_steps tree a.t → now ≤ old + sum_of (walk_steps tree) (take (k + 1) tree.movie.tracks)
  steps_more k old before now a h e =
      let next = ap (sum_of (walk_steps tree)) (taken_next tree.movie.tracks k a.t a.is_tree) ∙ sum_joined (walk_steps tree) (take k tree.movie.tracks) (a.t ∷ []) in
      omega (arith, h, e, next)

  take_fewer : {A : Type 0} (f : A → ℕ) (xs : List A) (k : ℕ) → sum_of f (take k xs) ≤ sum_of f xs
  take_fewer f xs zero = omega arith
  take_fewer f [] (suc k) = omega arith
  take_fewer f (x ∷ xs) (suc k) = let more = take_fewer f xs k in omega (arith, more)

  pub steps_within : (k old now : ℕ) → now ≤ old + sum_of (walk_steps tree) (take k tree.movie.tracks) → now ≤ old + walks_steps tree
  steps_within k old now h = let fewer = take_fewer (walk_steps tree) tree.movie.tracks k in omega (arith, h, fewer)

-- a track has as many samples as opening counted
pub count_is : (file : List ℕ) (m : MovieSeen) (tree : FileTree) (t : TrackTree) (k : ℕ) (info : TrackInfo) → IsOpenedAs file m tree → slice_get tree.movie.tracks k ≡ Some t → slice_get m.tracks k ≡ Some info → info.samples ≡ length (track_samples tree t)
count_is file m tree t k info o at there = (get_zip (IsInfoOf file tree) tree.movie.tracks m.tracks k t info o.tracks at there).samples ∙ sym (samples_many file tree t)

-- what is measured, and what needn't be
pub asked_reduction : (l : Without) (divisor : ℕ) (samples : List SampleAt) → asks_first l ≡ true → reduction_by l divisor (length samples) (slice_get samples 0) ≡ reduction_of l divisor samples
asked_reduction l divisor samples e = λ i. if sym e i then reduction_by l divisor (length samples) (slice_get samples 0) else plain_reduction l divisor

pub asked_total : (l : Without) (file : List ℕ) (tree : FileTree) (t : TrackTree) (info : TrackInfo) → measures l ≡ true → total_from (track_reduction l file tree t) no_total (track_samples tree t) ≡ track_total l file tree t info
asked_total l file tree t info e = λ i. if sym e i then total_from (track_reduction l file tree t) no_total (track_samples tree t) else record { duration = info.duration; is_near = true }

pub plain_is : (l : Without) (divisor : ℕ) (samples : List SampleAt) → asks_first l ≡ false → plain_reduction l divisor ≡ reduction_of l divisor samples
plain_is l divisor samples e = λ i. if sym e i then reduction_by l divisor (length samples) (slice_get samples 0) else plain_reduction l divisor

-- where samples aren't measured what is left of them doesn't depend on the first
pub none_asked : (l : Without) → measures l ≡ false → asks_first l ≡ false
none_asked l e = by (l.ends || l.origins) l.timescales l.timing e
  where
    by : (a s t : Bool) → (((a && not t) || s) && not t) ≡ false → (a && not t) ≡ false
    by true s true h = refl
    by false s t h = refl
    by true s false h = absurd cc

pub counted_total : (l : Without) (file : List ℕ) (tree : FileTree) (t : TrackTree) (info : TrackInfo) → measures l ≡ false → record { duration = info.duration; is_near = true } ≡ track_total l file tree t info
counted_total l file tree t info e = λ i. if sym e i then total_from (track_reduction l file tree t) no_total (track_samples tree t) else record { duration = info.duration; is_near = true }

-- by what the times of the track at a place are divided
pub own_divisor_at : (l : Without) (file : List ℕ) (tree : FileTree) (scales : Scales) (k : ℕ) (t : TrackTree) → AreScales l file tree scales → slice_get tree.movie.tracks k ≡ Some t → unwrap_or (slice_get scales.tracks.items k) 1 ≡ track_divisor l (track_of file (file_parts tree) t)
own_divisor_at l file tree scales k t are at =
    (λ i. unwrap_or (slice_get (are.tracks i) k) 1) ∙ ap (λ (d : Option ℕ). unwrap_or d 1) (get_map (λ (u : TrackTree). track_divisor l (track_of file (file_parts tree) u)) tree.movie.tracks k t at)
