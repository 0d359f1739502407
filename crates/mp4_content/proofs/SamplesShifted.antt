-- The samples of two tracks behind some of each, as they are handed out and as the presentations have them.
use Rattle.std.proofs.Common.{◌≡◌, ℕ, zero, suc, ◌+◌, if◌then◌else◌, List, [], ◌∷◌, ◌++◌, length, drop, Some, refl, sym, ap, subst, ◌∙◌, arith}
use Rattle.std.specs.Prelude.{map, fold, ℤ}
use Rattle.std.specs.List.{AllByRecursion, slice_get}
use Rattle.std.proofs.lemmas.List.{drop-map}
use Rattle.mp4_boxes.proofs.Each.{each_dropped, each_value, each_weaker}
use Rattle.mp4_tables.specs.format.Groups.{GroupKey}
use Rattle.mp4_tables.specs.format.PlainSamples.{PlacedSample}
use Rattle.mp4_tables.specs.words.Keys.{key_seen, keys_seen}
use Rattle.mp4_tables.specs.words.Timed.{timed}
use Rattle.mp4_tables.proofs.GroupMaps.{order_test}
use Rattle.mp4_tables.proofs.Placed.{IsIndex}
use Rattle.mp4_head.specs.format.Tree.{TrackTree}
use Rattle.mp4_present.specs.format.Denotes.{FileTree, sample_of, file_parts, placed_of, track_of}
use Rattle.mp4_present.specs.format.Presentation.{Sample, IsGroup}
use Rattle.mp4_present.specs.words.Movies.{MovieSeen}
use Rattle.mp4_present.specs.words.OpenedMovie.{IsOpenedAs}
use Rattle.mp4_present.specs.words.SamplesComing.{track_keys, track_samples}
use Rattle.mp4_present.specs.declared.track_info.TrackInfo.{TrackInfo}
use Rattle.mp4_present.proofs.ValidSamples.{is_group}
use Rattle.mp4_content.specs.format.Alignment.{time_of}
use Rattle.mp4_content.specs.format.Comparison.{with_key, sample_differences}
use Rattle.mp4_content.specs.format.Differences.{each_differ}
use Rattle.mp4_content.specs.format.Reduced.{first_offset}
use Rattle.mp4_content.specs.format.Remaining.{divided_samples}
use Rattle.mp4_content.specs.format.TimedSamples.{timed_from}
use Rattle.mp4_content.specs.words.Aligning.{due}
use Rattle.mp4_content.specs.words.Compared.{HasReductions, IsPairingOf}
use Rattle.mp4_content.specs.words.Differing.{pair_differences}
use Rattle.mp4_content.specs.words.ComingLess.{reduction_of}
use Rattle.mp4_content.specs.declared.reduced.Reduction.{Reduction}
use Rattle.mp4_content.specs.declared.comparing.pairing.Pairing.{Pairing}
use Rattle.mp4_content.specs.declared.without.Without.{Without}
use Rattle.mp4_content.proofs.ComparisonWhole.{HasMap, map_left}
use Rattle.mp4_content.proofs.SamplesDiffer.{IsSampleOf, all_samples, opened_samples, own_keys}
use Rattle.mp4_content.proofs.SamplesReduced.{reduced_by, remaining_each}
use Rattle.mp4_content.proofs.ReducedTaken.{all_remaining, left_by, remaining_from}

-- ---- behind some

-- samples with their times behind some of them
timed_behind : (keys : List GroupKey) (i n dts : ℕ) (placed : List PlacedSample) → (later : ℕ) × (drop i (timed keys n dts placed) ≡ timed keys (n + i) later (drop i placed))
timed_behind keys zero n dts placed = let e : n ≡ n + 0 = omega arith in (dts, λ j. timed keys (e j) dts placed)
timed_behind keys (suc i) n dts [] = (dts, refl)
timed_behind keys (suc i) n dts (s ∷ placed) =
    let more = timed_behind keys i (n + 1) (dts + s.duration) placed in
    let e : n + 1 + i ≡ n + suc i = omega arith in
    (more.0, more.1 ∙ (λ j. timed keys (e j) more.0 (drop i placed)))

-- what is left of samples behind some of them
reduced_behind : (l : Without) (g count : ℕ) (first : ℤ) (i n : ℕ) (samples : List Sample) → remaining_from l g count first (n + i) (drop i samples) ≡ drop i (remaining_from l g count first n samples)
reduced_behind l g count first zero n samples = let e : n + 0 ≡ n = omega arith in λ j. remaining_from l g count first (e j) samples
reduced_behind l g count first (suc i) n [] = refl
reduced_behind l g count first (suc i) n (s ∷ samples) =
    let e : n + suc i ≡ suc n + i = omega arith in
    (λ j. remaining_from l g count first (e j) (drop i samples)) ∙ reduced_behind l g count first i (suc n) samples

-- What differs from two places on differs so between the samples of the presentations.
pub differ_behind : (l : Without) (d e : ℕ) (k : ℕ) (by : Pairing) (file other : List ℕ) (m n : MovieSeen) (tree other_tree : FileTree) (t u : TrackTree) (info other_info : TrackInfo) → IsPairingOf l k info other_info by → IsOpenedAs file m tree → IsOpenedAs other n other_tree
    → slice_get tree.movie.tracks k ≡ Some t → slice_get other_tree.movie.tracks k ≡ Some u → slice_get m.tracks k ≡ Some info → slice_get n.tracks k ≡ Some other_info
    → HasReductions (reduction_of l d (track_samples tree t)) (reduction_of l e (track_samples other_tree u)) by → (i j number : ℕ)
    → each_differ (pair_differences by file other) number (drop i (track_samples tree t)) (drop j (track_samples other_tree u))
    ≡ each_differ (sample_differences (k + 1)) number (drop i (divided_samples l d (track_of file (file_parts tree) t))) (drop j (divided_samples l e (track_of other (file_parts other_tree) u)))
differ_behind l d e k by file other m n tree other_tree t u info other_info h o p at bt it jt are i j number =
    let el = ap keys_seen h.left_keys ∙ own_keys file m tree t k info o at it in
    let er = ap keys_seen h.right_keys ∙ own_keys other n other_tree u k other_info p bt jt in
    let joined : map key_seen by.keys.items ≡ (if l.groups then [] else fold with_key [] (track_keys tree t ++ track_keys other_tree u)) =
    h.all_keys ∙ (λ x. if l.groups then [] else fold with_key [] (own_keys file m tree t k info o at it x ++ own_keys other n other_tree u k other_info p bt jt x)) in
    let placed = placed_of (file_parts tree) t in
    let others = placed_of (file_parts other_tree) u in
    let xs = timed_behind (track_keys tree t) i 0 (track_of file (file_parts tree) t).start placed in
    let ys = timed_behind (track_keys other_tree u) j 0 (track_of other (file_parts other_tree) u).start others in
    let r = by.left_reduction in
    let q = by.right_reduction in
    let first = reduced_by l d r file (track_keys tree t) 0 _ placed are.left_by in
    let second = reduced_by l e q other (track_keys other_tree u) 0 _ others are.right_by in
    let first_by = ap (λ (x : Reduction). x.leaving) are.left_by ∙ left_by l d (track_samples tree t) in
    let second_by = ap (λ (x : Reduction). x.leaving) are.right_by ∙ left_by l e (track_samples other_tree u) in
    (λ x. each_differ (pair_differences by file other) number (xs.1 x) (ys.1 x))
    ∙ all_samples by l (track_keys tree t) (track_keys other_tree u) file other el er joined first_by second_by number (0 + i) (0 + j) xs.0 ys.0 (drop i placed) (drop j others)
    (each_dropped (IsSampleOf file (track_keys tree t)) i placed (opened_samples file m tree t k o at)) (each_dropped (IsSampleOf other (track_keys other_tree u)) j others (opened_samples other n other_tree u k p bt))
    ∙ (λ x. each_differ (sample_differences (h.number x)) number (remaining_from r.leaving r.divisor r.samples r.offset (0 + i) (sym (drop-map (sample_of file) i placed) x)) (remaining_from q.leaving q.divisor q.samples q.offset (0 + j) (sym (drop-map (sample_of other) j others) x)))
    ∙ (λ x. each_differ (sample_differences (k + 1)) number (reduced_behind r.leaving r.divisor r.samples r.offset i 0 (map (sample_of file) placed) x) (reduced_behind q.leaving q.divisor q.samples q.offset j 0 (map (sample_of other) others) x))
    ∙ (λ x. each_differ (sample_differences (k + 1)) number (drop i (first x)) (drop j (second x)))

-- ---- times

-- a sample is due when the presentation says
pub due_is : (file : List ℕ) (keys : List GroupKey) (k n number dts : ℕ) (placed : List PlacedSample) → due (slice_get (timed keys n dts placed) k) ≡ time_of (slice_get (timed_from number dts (map (sample_of file) placed)) k)
due_is file keys zero n number dts [] = refl
due_is file keys zero n number dts (s ∷ placed) = refl
due_is file keys (suc k) n number dts [] = refl
due_is file keys (suc k) n number dts (s ∷ placed) = due_is file keys k (n + 1) (number + 1) (dts + s.duration) placed

-- ---- groups in maps

-- what is left of the samples of a track that was opened has its groups in maps
pub maps_left : (l : Without) (d : ℕ) (file : List ℕ) (m : MovieSeen) (tree : FileTree) (t : TrackTree) (k : ℕ) → IsOpenedAs file m tree → slice_get tree.movie.tracks k ≡ Some t → AllByRecursion HasMap (divided_samples l d (track_of file (file_parts tree) t))
maps_left l d file m tree t k o at =
    let placed = placed_of (file_parts tree) t in
    let samples = map (sample_of file) placed in
    subst (AllByRecursion HasMap) (all_remaining l d samples) (remaining_each HasMap HasMap l d (length samples) (first_offset samples) (λ n s h. map_left l.groups s.groups h) 0 samples
    (each_value (IsSampleOf file (track_keys tree t)) HasMap (sample_of file) (λ s h. record { each = each_weaker IsIndex IsGroup is_group s.groups h.0.map.each; order = order_test s.groups h.0.map.order }) placed (opened_samples file m tree t k o at)))
