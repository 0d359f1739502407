-- The ends of two tracks that were compared.
use Rattle.std.proofs.Common.{◌≡◌, ℕ, ◌+◌, ◌-◌, ◌≤◌, min, List, length, drop, Some, refl, sym, ◌∙◌, arith}
use Rattle.std.specs.List.{slice_get}
use Rattle.std.proofs.lemmas.List.{drop-drop, length-drop, length-map}
use Rattle.mp4_boxes.proofs.Each.{each_dropped}
use Rattle.mp4_boxes.proofs.Plain.{get_some}
use Rattle.mp4_tables.proofs.SampleLists.{timed_length}
use Rattle.mp4_head.specs.format.Tree.{TrackTree}
use Rattle.mp4_present.specs.format.Denotes.{FileTree, file_parts, placed_of, sample_of, track_of}
use Rattle.mp4_present.specs.format.Presentation.{Sample}
use Rattle.mp4_present.specs.words.Joined.{IsBelow}
use Rattle.mp4_present.specs.words.Movies.{MovieSeen}
use Rattle.mp4_present.specs.words.OpenedMovie.{IsOpenedAs}
use Rattle.mp4_present.specs.words.SamplesComing.{track_samples}
use Rattle.mp4_present.specs.words.WalkSteps.{MayTake, TakesOn}
use Rattle.mp4_present.specs.declared.track_info.TrackInfo.{TrackInfo}
use Rattle.mp4_present.specs.declared.walking.Walk.{Walk}
use Rattle.mp4_present.proofs.WalkCopied.{track_lies}
use Rattle.mp4_content.specs.format.Alignment.{IsEnd}
use Rattle.mp4_content.specs.format.Comparison.{sample_differences}
use Rattle.mp4_content.specs.format.Differences.{each_differ}
use Rattle.mp4_content.specs.format.Remaining.{divided_samples}
use Rattle.mp4_content.specs.words.Aligning.{BothLie, IsLast, differ_from}
use Rattle.mp4_content.specs.words.Compared.{HasReductions, HaveTracks, IsPairingOf}
use Rattle.mp4_content.specs.words.Differing.{pair_differences}
use Rattle.mp4_content.specs.words.ComingLess.{reduction_of}
use Rattle.mp4_content.specs.declared.comparing.pairing.Pairing.{Pairing}
use Rattle.mp4_content.specs.declared.without.Without.{Without}
use Rattle.mp4_content.proofs.CommonEnds.{end_is}
use Rattle.mp4_content.proofs.ComparisonWhole.{HasMap}
use Rattle.mp4_content.proofs.SamplesReduced.{divided_length}
use Rattle.mp4_content.proofs.SamplesShifted.{differ_behind, maps_left}

-- a track has as many samples as come
pub samples_many : (file : List ℕ) (tree : FileTree) (t : TrackTree) → length (track_samples tree t) ≡ length (track_of file (file_parts tree) t).samples
samples_many file tree t = timed_length _ _ _ (placed_of (file_parts tree) t) ∙ sym (length-map (placed_of (file_parts tree) t) (sample_of file))

-- ---- numbers of samples

pub le_is : (f m n : ℕ) → m ≡ n → f ≤ m → f ≤ n
le_is f m n e le = omega (arith, e, le)

-- how many are left of the longer one behind its front, and of both
pub reach : (a b f more n : ℕ) → more ≡ a - b → a ≡ n → f ≤ a → f ≤ b → f + more ≤ n
reach a b f more n e is le le_right = omega (arith, e, is, le, le_right)

some_left : (a b f more count n : ℕ) → more ≡ a - b → count ≡ min a b - f → a ≡ n → f ≤ n → f ≤ b → more + count ≡ n - f
some_left a b f more count n e g is le le_right = omega (arith, e, g, is, le, le_right)

no_more : (a b f count m n k : ℕ) → count ≡ min a b - f → a ≡ m → b ≡ n → k ≤ m - f → k ≤ n - f → k ≤ count
no_more a b f count m n k g is is_right le le_right = omega (arith, g, is, is_right, le, le_right)

enough : (a b f more count n : ℕ) → more ≡ a - b → count ≡ min a b - f → a ≡ n → f ≤ n → f ≤ b → count ≤ n - (f + more)
enough a b f more count n e g is le le_right = omega (arith, e, g, is, le, le_right)

other_left : (a b f more count n : ℕ) → more ≡ b - a → count ≡ min a b - f → b ≡ n → f ≤ a → f ≤ n → more + count ≡ n - f
other_left a b f more count n e g is le le_right = omega (arith, e, g, is, le, le_right)

other_enough : (a b f more count n : ℕ) → more ≡ b - a → count ≡ min a b - f → b ≡ n → f ≤ a → f ≤ n → count ≤ n - (f + more)
other_enough a b f more count n e g is le le_right = omega (arith, e, g, is, le, le_right)

module _ (l : Without) (d e : ℕ) (k : ℕ) (by : Pairing) (file other : List ℕ) (m n : MovieSeen) (tree other_tree : FileTree) (t u : TrackTree)
    (o : IsOpenedAs file m tree) (p : IsOpenedAs other n other_tree) (at : slice_get tree.movie.tracks k ≡ Some t) (bt : slice_get other_tree.movie.tracks k ≡ Some u)
    (a b f more more_right count : ℕ) (more_is : more ≡ a - b) (right_is : more_right ≡ b - a) (count_is : count ≡ min a b - f)
    (counted : a ≡ length (track_of file (file_parts tree) t).samples) (counted_right : b ≡ length (track_of other (file_parts other_tree) u).samples)
    (within : f ≤ length (track_of file (file_parts tree) t).samples) (within_right : f ≤ length (track_of other (file_parts other_tree) u).samples) where
  abbrev own : List Sample
  own = divided_samples l d (track_of file (file_parts tree) t)

  abbrev others : List Sample
  others = divided_samples l e (track_of other (file_parts other_tree) u)

  -- as many pairs come as are compared, and lie in their files
  pub both_lie : BothLie file other count (drop (f + more) (track_samples tree t)) (drop (f + more_right) (track_samples other_tree u))
  both_lie =
      let many = samples_many file tree t in
      let many_right = samples_many other other_tree u in
      let left = length-drop (f + more) (track_samples tree t) in
      let right = length-drop (f + more_right) (track_samples other_tree u) in
      let few = enough a b f more count _ more_is count_is counted within (omega (arith, within_right, counted_right)) in
      let few_right = other_enough a b f more_right count _ right_is count_is counted_right (omega (arith, within, counted)) within_right in
      record {
        left = omega (arith, few, left, many);
        right = omega (arith, few_right, right, many_right);
        lie = each_dropped (IsBelow (length file)) (f + more) (track_samples tree t) (track_lies file m tree t k o at);
        lie_right = each_dropped (IsBelow (length other)) (f + more_right) (track_samples other_tree u) (track_lies other n other_tree u k p bt);
      }

  module _ (have : HaveTracks k m n) (pairing : (info other_info : TrackInfo) → slice_get m.tracks k ≡ Some info → slice_get n.tracks k ≡ Some other_info → IsPairingOf l k info other_info by)
      (are : HasReductions (reduction_of l d (track_samples tree t)) (reduction_of l e (track_samples other_tree u)) by) where
    -- what differs from a place on
    behind : (j : ℕ) → differ_from by file (drop (f + more) (track_samples tree t)) other (drop (f + more_right) (track_samples other_tree u)) j
        ≡ each_differ (sample_differences (k + 1)) (j + 1) (drop j (drop more (drop f own))) (drop j (drop more_right (drop f others)))
    behind j =
        let info = get_some m.tracks k have.left in
        let other_info = get_some n.tracks k have.right in
        let xs = track_samples tree t in
        let ys = track_samples other_tree u in
        (λ i. each_differ (pair_differences by file other) (j + 1) (drop-drop j (f + more) xs i) (drop-drop j (f + more_right) ys i))
        ∙ differ_behind l d e k by file other m n tree other_tree t u info.0 other_info.0 (pairing info.0 other_info.0 info.1 other_info.1) o p at bt info.1 other_info.1 are (f + more + j) (f + more_right + j) (j + 1)
        ∙ (λ i. each_differ (sample_differences (k + 1)) (j + 1) (sym (drop-drop j (f + more) own) i) (sym (drop-drop j (f + more_right) others) i))
        ∙ (λ i. each_differ (sample_differences (k + 1)) (j + 1) (drop j (sym (drop-drop more f own) i)) (drop j (sym (drop-drop more_right f others) i)))

    -- the samples behind the last pair that differs are the longest end
    pub ends_are : (last : ℕ) → IsLast by file (drop (f + more) (track_samples tree t)) other (drop (f + more_right) (track_samples other_tree u)) last count → IsEnd (drop f own) (drop f others) (count - last)
    ends_are last is =
        let many = divided_length l d (track_of file (file_parts tree) t) in
        let many_right = divided_length l e (track_of other (file_parts other_tree) u) in
        let left = length-drop f own in
        let right = length-drop f others in
        let some = some_left a b f more count _ more_is count_is counted within (omega (arith, within_right, counted_right)) in
        let some_right = other_left a b f more_right count _ right_is count_is counted_right (omega (arith, within, counted)) within_right in
        end_is (k + 1) (drop f own) (drop f others) (drop more (drop f own)) (drop more_right (drop f others)) more more_right count refl refl (omega (arith, some, left, many)) (omega (arith, some_right, right, many_right))
        (λ j le le_right. no_more a b f count _ _ j count_is counted counted_right (omega (arith, le, left, many)) (omega (arith, le_right, right, many_right)))
        last is.within
        (each_dropped HasMap more (drop f own) (each_dropped HasMap f own (maps_left l d file m tree t k o at)))
        (each_dropped HasMap more_right (drop f others) (each_dropped HasMap f others (maps_left l e other n other_tree u k p bt)))
        (sym (behind last) ∙ is.same ∙ behind count)
        (λ j f none. is.differs j f (behind j ∙ none))

-- ---- steps

module _ (file : List ℕ) (tree : FileTree) (t : TrackTree) where
  -- one walk took some of what both may take, and then the other one, and then both
  pub three_most : (other : List ℕ) (other_tree : FileTree) (u : TrackTree) (w v : Walk) (x y n old begun mid then new : ℕ) → begun + (x + y) ≤ old + n → TakesOn file tree t x w begun mid → TakesOn other other_tree u y v mid then
      → ((p q : ℕ) → MayTake file tree t w p → MayTake other other_tree u v q → new ≤ then + (p + q)) → new ≤ old + n
  three_most other other_tree u w v x y n old begun mid then new le h k most =
      let first = h.2 in
      let second = k.2 in
      let last = most h.0 k.0 h.1 k.1 in
      omega (arith, le, first, second, last)

  pub one_most : (other : List ℕ) (other_tree : FileTree) (w : Walk) (x y n old begun mid then : ℕ) → begun + (x + y) ≤ old + n → TakesOn file tree t x w begun mid → then ≤ mid + y → then ≤ old + n
  one_most other other_tree w x y n old begun mid then le h most = let first = h.2 in omega (arith, le, first, most)
