-- The last of some pairs of samples that differs.
use Rattle.std.proofs.Common.{◌≡◌, ℕ, ◌+◌, ◌<◌, ◌≤◌, List, [], ◌∷◌, ◌++◌, length, drop, refl, sym, ap, subst, ◌∙◌, arith}
use Rattle.std.proofs.lemmas.List.{drop-drop, length-drop}
use Rattle.std.specs.List.{AllByRecursion}
use Rattle.mp4_boxes.proofs.Each.{each_dropped}
use Rattle.mp4_tables.specs.declared.sample.SampleAt.{SampleAt}
use Rattle.mp4_head.specs.format.Tree.{TrackTree}
use Rattle.mp4_present.specs.format.Denotes.{FileTree}
use Rattle.mp4_present.specs.words.Joined.{IsBelow}
use Rattle.mp4_present.specs.words.Movies.{MovieSeen}
use Rattle.mp4_present.specs.words.NextSample.{TakesFirst}
use Rattle.mp4_present.specs.words.SamplesComing.{Comes}
use Rattle.mp4_present.specs.words.WalkSteps.{MayTake}
use Rattle.mp4_present.specs.declared.walking.Walk.{Walk}
use Rattle.mp4_content.specs.format.Differences.{each_differ}
use Rattle.mp4_content.specs.words.Aligning.{IsLast, differ_from}
use Rattle.mp4_content.specs.words.Compared.{BothTakeOn, LieIn}
use Rattle.mp4_content.specs.words.Differing.{pair_differences}
use Rattle.mp4_content.specs.words.SamePairs.{PassesSame}
use Rattle.mp4_content.specs.words.Windows.{Shows}
use Rattle.mp4_content.specs.declared.comparing.differences.Difference.{Difference}
use Rattle.mp4_content.specs.declared.comparing.pairing.Pairing.{Pairing}
use Rattle.mp4_content.specs.declared.comparing.samples.TrackSide.{TrackSide}
use Rattle.mp4_content.proofs.PairsPassed.{same_skipped}
use Rattle.mp4_content.proofs.TracksCompared.{each_next}
use Rattle.mp4_content.proofs.ComparisonValues.{front_none}

-- ---- the steps of both walks

module _ (file : List ℕ) (tree : FileTree) (t : TrackTree) (other : List ℕ) (other_tree : FileTree) (u : TrackTree) where
  -- some were taken, and then more
  pub both_then : (n old mid new : ℕ) (w v w2 v2 : Walk) → BothTakeOn file tree t w other other_tree u v n old mid → ((p q : ℕ) → MayTake file tree t w p → MayTake other other_tree u v q → BothTakeOn file tree t w2 other other_tree u v2 (p + q) mid new)
      → BothTakeOn file tree t w2 other other_tree u v2 n old new
  both_then n old mid new w v w2 v2 h on =
      let then = on h.0 h.1 h.2 h.3 in
      let first = h.4 in
      let second = then.4 in
      (then.0, then.1, then.2, then.3, omega (arith, first, second))

  -- or no more than may be
  pub then_most : (n old mid new : ℕ) (w v : Walk) → BothTakeOn file tree t w other other_tree u v n old mid → ((p q : ℕ) → MayTake file tree t w p → MayTake other other_tree u v q → new ≤ mid + (p + q)) → new ≤ old + n
  then_most n old mid new w v h on =
      let most = on h.0 h.1 h.2 h.3 in
      let first = h.4 in
      omega (arith, first, most)

  pub both_all : (n old new : ℕ) (w v : Walk) → BothTakeOn file tree t w other other_tree u v n old new → new ≤ old + n
  both_all n old new w v h = let all = h.4 in omega (arith, all)

-- those from a place on lie in their file
pub rest_lie : (file : List ℕ) (k count : ℕ) (samples : List SampleAt) → k < count → count ≤ length samples → AllByRecursion (IsBelow (length file)) samples → LieIn file (drop k samples)
rest_lie file k count samples lt le lie = (let left = length-drop k samples in omega (arith, lt, le, left), each_dropped (IsBelow (length file)) k samples lie)

-- ---- the pairs that were compared

-- So many pairs were compared, and the last that differs is known.
pub record LastGoes (by : Pairing) (file : List ℕ) (tree : FileTree) (t : TrackTree) (m : MovieSeen) (xs : List SampleAt) (other : List ℕ) (other_tree : FileTree) (u : TrackTree) (n : MovieSeen) (ys : List SampleAt) (last k : ℕ) (w v : Walk) : Type 0 where
  pub comes : Comes file tree t m w (drop k xs)
  pub comes_right : Comes other other_tree u n v (drop k ys)
  pub is_last : IsLast by file xs other ys last k

module _ (by : Pairing) (file : List ℕ) (tree : FileTree) (t : TrackTree) (m : MovieSeen) (xs : List SampleAt) (other : List ℕ) (other_tree : FileTree) (u : TrackTree) (n : MovieSeen) (ys : List SampleAt) where
  abbrev one : ℕ → SampleAt → SampleAt → List Difference
  one = pair_differences by file other

  abbrev Goes : ℕ → ℕ → Walk → Walk → Type 0
  Goes last k w v = LastGoes by file tree t m xs other other_tree u n ys last k w v

  abbrev from : ℕ → List Difference
  from k = differ_from by file xs other ys k

  -- so many pairs more that are the same
  pub last_passed : (last k count : ℕ) (left left_after right right_after : TrackSide) (mid new : ℕ) → Shows file left.window → Shows other right.window → PassesSame by m left left_after n right right_after count mid new
      → Goes last k left.walk right.walk → Goes last (k + count) left_after.walk right_after.walk
  last_passed last k count left left_after right right_after mid new shows shows_right p h =
      let come = p.comes file other tree other_tree t u (drop k xs) (drop k ys) h.comes h.comes_right in
      let on : k + 1 + count ≡ k + count + 1 = omega arith in
      let rest : from k ≡ from (k + count) =
      same_skipped by left.window right.window file other shows shows_right count (k + 1) (drop k xs) (drop k ys) come.2
      ∙ (λ i. each_differ one (on i) (drop-drop count k xs i) (drop-drop count k ys i)) in
      let le = h.is_last.within in
      record {
        comes = subst (λ (ss : List SampleAt). Comes file tree t m left_after.walk ss) (drop-drop count k xs) come.0;
        comes_right = subst (λ (ss : List SampleAt). Comes other other_tree u n right_after.walk ss) (drop-drop count k ys) come.1;
        is_last = record { within = omega (arith, le); same = h.is_last.same ∙ rest; differs = h.is_last.differs };
      }

  -- the same samples come of other walks
  pub last_moved : (last k : ℕ) (w v w2 v2 : Walk) → Goes last k w v → Comes file tree t m w2 (drop k xs) × Comes other other_tree u n v2 (drop k ys) → Goes last k w2 v2
  last_moved last k w v w2 v2 h come = record { comes = come.0; comes_right = come.1; is_last = h.is_last }

  module _ (last k : ℕ) (w v w2 v2 : Walk) (found : List Difference) (h : Goes last k w v)
      (p : (x y : SampleAt) × TakesFirst file tree t m w2 (drop k xs) x × TakesFirst other other_tree u n v2 (drop k ys) y × (found ≡ one (k + 1) x y)) where
    next : from k ≡ found ++ from (k + 1)
    next = each_next one k xs ys p.2.0 p.3.0 p.0 p.1 p.2.1 p.3.1 ∙ ap (λ (ds : List Difference). ds ++ from (k + 1)) (sym p.4)

    goes_on : (behind : ℕ) → IsLast by file xs other ys behind (k + 1) → Goes behind (k + 1) w2 v2
    goes_on behind is = record {
      comes = subst (λ (ss : List SampleAt). Comes file tree t m w2 ss) (sym (ap (drop 1) p.2.1) ∙ drop-drop 1 k xs) p.2.2;
      comes_right = subst (λ (ss : List SampleAt). Comes other other_tree u n v2 ss) (sym (ap (drop 1) p.3.1) ∙ drop-drop 1 k ys) p.3.2;
      is_last = is;
    }

    -- one more that is the same
    pub last_same : found ≡ [] → Goes last (k + 1) w2 v2
    last_same none =
        let le = h.is_last.within in
        goes_on last (record { within = omega (arith, le); same = h.is_last.same ∙ next ∙ ap (λ (ds : List Difference). ds ++ from (k + 1)) none; differs = h.is_last.differs })

    -- or that differs
    pub last_differs : (found ≡ [] → ⊥) → Goes (k + 1) (k + 1) w2 v2
    last_differs some = goes_on (k + 1) (record {
      within = omega arith;
      same = refl;
      differs = λ j e none. let same : j ≡ k = omega (arith, e) in some (front_none found (from (k + 1)) (sym next ∙ ap from (sym same) ∙ none));
    })

    -- whichever it is
    pub last_next : (behind : ℕ) → (found ≡ [] → behind ≡ last) → ((found ≡ [] → ⊥) → behind ≡ k + 1) → Goes behind (k + 1) w2 v2
    last_next behind same differs = choose found refl
      where
        choose : (ds : List Difference) → found ≡ ds → Goes behind (k + 1) w2 v2
        choose [] e = subst (λ (j : ℕ). Goes j (k + 1) w2 v2) (sym (same e)) (last_same e)
        choose (d ∷ ds) e =
            let some : found ≡ [] → ⊥ = λ none. (let no : ◌≡◌ {A = List Difference} (d ∷ ds) [] = sym e ∙ none in absurd cc) in
            subst (λ (j : ℕ). Goes j (k + 1) w2 v2) (sym (differs some)) (last_differs some)

-- it is among the pairs that were compared
pub last_few : (found : List Difference) (last k behind : ℕ) → last ≤ k → (found ≡ [] → behind ≡ last) → ((found ≡ [] → ⊥) → behind ≡ k + 1) → behind ≤ k + 1
last_few [] last k behind le same differs = let e = same refl in omega (arith, le, e)
last_few (d ∷ ds) last k behind le same differs = let e = differs (λ no. absurd cc) in omega (arith, e)
