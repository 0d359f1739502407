-- Tracks that are compared sample by sample.
use Rattle.std.proofs.Common.{◌≡◌, ℕ, suc, ◌+◌, ◌<◌, ◌≤◌, min, List, [], ◌∷◌, ◌++◌, length, take, drop, Some, refl, sym, ap, subst, ◌∙◌, arith, append_assoc, inl, inr}
use Rattle.std.specs.List.{slice_get}
use Rattle.std.proofs.lemmas.List.{append-nil, length-drop, take-append-drop, drop-drop}
use Rattle.mp4_boxes.proofs.Each.{each_dropped}
use Rattle.mp4_boxes.proofs.Plain.{drop_all}
use Rattle.mp4_tables.specs.declared.sample.SampleAt.{SampleAt}
use Rattle.mp4_head.specs.format.Tree.{TrackTree}
use Rattle.mp4_content.specs.format.Differences.{each_differ}
use Rattle.mp4_present.specs.format.Denotes.{FileTree}
use Rattle.mp4_content.specs.words.Compared.{BothTakeOn, LieIn, TakesFront}
use Rattle.mp4_content.specs.words.Differing.{pair_differences}
use Rattle.mp4_present.specs.words.Joined.{IsBelow}
use Rattle.mp4_present.specs.words.Movies.{MovieSeen}
use Rattle.mp4_present.specs.words.NextSample.{TakesFirst}
use Rattle.mp4_present.specs.words.OpenedMovie.{IsOpenedAs}
use Rattle.mp4_content.specs.words.SamePairs.{PassesSame}
use Rattle.mp4_present.specs.words.SamplesComing.{Comes, track_samples}
use Rattle.mp4_content.specs.words.TwoStores.{HaveBegun}
use Rattle.mp4_content.specs.declared.comparing.tracks.Divisors.{Divisors}
use Rattle.mp4_present.specs.words.WalkSteps.{MayTake, walk_steps}
use Rattle.mp4_content.specs.words.Windows.{Shows}
use Rattle.mp4_content.specs.declared.comparing.pairing.Pairing.{Pairing}
use Rattle.mp4_content.specs.declared.comparing.samples.TrackSide.{TrackSide}
use Rattle.mp4_content.specs.declared.comparing.differences.Difference.{Difference}
use Rattle.mp4_content.specs.declared.without.Without.{Without}
use Rattle.mp4_present.specs.declared.track_info.TrackInfo.{TrackInfo}
use Rattle.mp4_present.specs.declared.walking.Walk.{Walk}
use Rattle.mp4_content.proofs.Differing.{each_ends, one_ends}
use Rattle.mp4_content.proofs.MeasuredTracks.{count_is}
use Rattle.mp4_content.proofs.PairsPassed.{same_skipped}
use Rattle.mp4_present.proofs.WalkCopied.{track_lies}

-- ---- a list of which the first entries were taken

-- those in front of the rest were taken
abbrev pub GrowsTo : List Difference → List Difference → List Difference → List Difference → Type 0
GrowsTo before now whole rest = (front : List Difference) × (now ≡ before ++ front) × (whole ≡ front ++ rest)

pub grows_none : (before whole : List Difference) → GrowsTo before before whole whole
grows_none before whole = ([], sym (append-nil before), refl)

pub grows_more : (before now next whole rest more left : List Difference) → GrowsTo before now whole rest → rest ≡ more ++ left → next ≡ now ++ more → GrowsTo before next whole left
grows_more before now next whole rest more left h e f = (
  h.0 ++ more,
  f ∙ ap (λ (ds : List Difference). ds ++ more) h.1 ∙ append_assoc before h.0 more,
  h.2 ∙ ap (λ (ds : List Difference). h.0 ++ ds) e ∙ sym (append_assoc h.0 more left),
)

take_own : (xs ys : List Difference) → take (length xs) (xs ++ ys) ≡ xs
take_own [] ys = refl
take_own (x ∷ xs) ys = ap (λ (ds : List Difference). x ∷ ds) (take_own xs ys)

pub grows_front : (before now whole rest : List Difference) → GrowsTo before now whole rest → TakesFront before now whole
grows_front before now whole rest h = (length h.0, h.1 ∙ ap (λ (ds : List Difference). before ++ ds) (sym (ap (take (length h.0)) h.2 ∙ take_own h.0 rest)))

-- then a front of more
pub grows_part : (before now next whole rest more left : List Difference) → GrowsTo before now whole rest → rest ≡ more ++ left → TakesFront now next more → TakesFront before next whole
grows_part before now next whole rest more left h e p =
    let split : rest ≡ take p.0 more ++ (drop p.0 more ++ left) = e ∙ ap (λ (ds : List Difference). ds ++ left) (sym (take-append-drop p.0 more)) ∙ append_assoc (take p.0 more) (drop p.0 more) left in
    grows_front before next whole (drop p.0 more ++ left) (grows_more before now next whole rest (take p.0 more) (drop p.0 more ++ left) h split p.1)

pub grows_all : (before now whole rest : List Difference) → GrowsTo before now whole rest → rest ≡ [] → now ≡ before ++ whole
grows_all before now whole rest h e = h.1 ∙ ap (λ (ds : List Difference). before ++ ds) (sym (h.2 ∙ ap (λ (ds : List Difference). h.0 ++ ds) e ∙ append-nil h.0))

-- nothing was taken
pub takes_nothing : (before whole : List Difference) → TakesFront before before whole
takes_nothing before whole = (0, sym (append-nil before))

-- ---- pair after pair

-- what differs of the entries from a place on begins with what differs there
pub each_next : {A : Type 0} (one : ℕ → A → A → List Difference) (k : ℕ) (xs ys more others : List A) (x y : A) → drop k xs ≡ x ∷ more → drop k ys ≡ y ∷ others
    → each_differ one (k + 1) (drop k xs) (drop k ys) ≡ one (k + 1) x y ++ each_differ one (k + 1 + 1) (drop (k + 1) xs) (drop (k + 1) ys)
each_next one k xs ys more others x y e f =
    let next : suc (k + 1) ≡ k + 1 + 1 = omega arith in
    let after : more ≡ drop (k + 1) xs = sym (ap (drop 1) e) ∙ drop-drop 1 k xs in
    let behind : others ≡ drop (k + 1) ys = sym (ap (drop 1) f) ∙ drop-drop 1 k ys in
    (λ i. each_differ one (k + 1) (e i) (f i)) ∙ (λ i. one (k + 1) x y ++ each_differ one (next i) (after i) (behind i))

-- at the end of the shorter one nothing is left
pub each_over : {A : Type 0} (one : ℕ → A → A → List Difference) (k : ℕ) (xs ys : List A) → min (length xs) (length ys) ≤ k → each_differ one (k + 1) (drop k xs) (drop k ys) ≡ []
each_over one k xs ys le = elim (one_ends (length xs) (length ys) k le) [
  | inl m ↦ ap (λ zs. each_differ one (k + 1) zs (drop k ys)) (drop_all xs k m)
  | inr n ↦ ap (λ zs. each_differ one (k + 1) (drop k xs) zs) (drop_all ys k n) ∙ each_ends one (k + 1) (drop k xs)
]

-- those from a place on lie in the file
pub rest_lies : (file : List ℕ) (m : MovieSeen) (tree : FileTree) (t : TrackTree) (k place : ℕ) (info : TrackInfo) → IsOpenedAs file m tree → slice_get tree.movie.tracks k ≡ Some t → slice_get m.tracks k ≡ Some info → place < info.samples → LieIn file (drop place (track_samples tree t))
rest_lies file m tree t k place info o at there lt =
    let count = count_is file m tree t k info o at there in
    let left = length-drop place (track_samples tree t) in
    (omega (arith, lt, count, left), each_dropped (IsBelow (length file)) place (track_samples tree t) (track_lies file m tree t k o at))

-- the samples of two tracks in front of a place were compared
pub record PairsGo (by : Pairing) (file : List ℕ) (tree : FileTree) (t : TrackTree) (m : MovieSeen) (other : List ℕ) (other_tree : FileTree) (u : TrackTree) (n : MovieSeen) (k : ℕ) (w v : Walk) (before now : List Difference) (old new : ℕ) : Type 0 where
  pub comes : Comes file tree t m w (drop k (track_samples tree t))
  pub comes_right : Comes other other_tree u n v (drop k (track_samples other_tree u))
  pub grows : GrowsTo before now (each_differ (pair_differences by file other) 1 (track_samples tree t) (track_samples other_tree u))
      (each_differ (pair_differences by file other) (k + 1) (drop k (track_samples tree t)) (drop k (track_samples other_tree u)))
  pub takes : BothTakeOn file tree t w other other_tree u v (walk_steps tree t + walk_steps other_tree u) old new

module _ (by : Pairing) (file : List ℕ) (tree : FileTree) (t : TrackTree) (m : MovieSeen) (other : List ℕ) (other_tree : FileTree) (u : TrackTree) (n : MovieSeen) (before : List Difference) (old : ℕ) where
  abbrev one : ℕ → SampleAt → SampleAt → List Difference
  one = pair_differences by file other

  abbrev GoOn : ℕ → Walk → Walk → List Difference → ℕ → Type 0
  GoOn k w v now new = PairsGo by file tree t m other other_tree u n k w v before now old new

  -- before the first
  pub pairs_first : (l : Without) (ds : Divisors) (w v : Walk) (new : ℕ) → HaveBegun l ds by file tree t m w other other_tree u n v old new → GoOn 0 w v before new
  pairs_first l ds w v new h = record { comes = h.comes; comes_right = h.comes_right; grows = grows_none before _; takes = h.takes }

  -- one pair more
  pub pairs_next : (k : ℕ) (w v w2 v2 : Walk) (now next found : List Difference) (mid new : ℕ) → GoOn k w v now mid
      → ((x y : SampleAt) × TakesFirst file tree t m w2 (drop k (track_samples tree t)) x × TakesFirst other other_tree u n v2 (drop k (track_samples other_tree u)) y × (found ≡ one (k + 1) x y)) → next ≡ now ++ found
      → ((p q : ℕ) → MayTake file tree t w p → MayTake other other_tree u v q → BothTakeOn file tree t w2 other other_tree u v2 (p + q) mid new) → GoOn (k + 1) w2 v2 next new
  pairs_next k w v w2 v2 now next found mid new h p e work =
      let xs = track_samples tree t in
      let ys = track_samples other_tree u in
      let x = p.2 in
      let y = p.3 in
      let begun = h.takes in
      let then = work begun.0 begun.1 begun.2 begun.3 in
      let first = begun.4 in
      let second = then.4 in
      record {
        comes = subst (λ (ss : List SampleAt). Comes file tree t m w2 ss) (sym (ap (drop 1) x.1) ∙ drop-drop 1 k xs) x.2;
        comes_right = subst (λ (ss : List SampleAt). Comes other other_tree u n v2 ss) (sym (ap (drop 1) y.1) ∙ drop-drop 1 k ys) y.2;
        grows = grows_more before now next (each_differ one 1 xs ys) (each_differ one (k + 1) (drop k xs) (drop k ys)) found (each_differ one (k + 1 + 1) (drop (k + 1) xs) (drop (k + 1) ys)) h.grows
            (each_next one k xs ys x.0 y.0 p.0 p.1 x.1 y.1 ∙ ap (λ (ds : List Difference). ds ++ each_differ one (k + 1 + 1) (drop (k + 1) xs) (drop (k + 1) ys)) (sym p.4)) e;
        takes = (then.0, then.1, then.2, then.3, omega (arith, first, second));
      }

  -- so many pairs more that are the same
  pub pairs_pass : (k count : ℕ) (left left_after right right_after : TrackSide) (now : List Difference) (mid new : ℕ) → IsOpenedAs file m tree → IsOpenedAs other n other_tree → Shows file left.window → Shows other right.window
      → PassesSame by m left left_after n right right_after count mid new → GoOn k left.walk right.walk now mid → GoOn (k + count) left_after.walk right_after.walk now new
  pairs_pass k count left left_after right right_after now mid new o q shows shows_right p h =
      let xs = track_samples tree t in
      let ys = track_samples other_tree u in
      let come = p.comes file other tree other_tree t u (drop k xs) (drop k ys) h.comes h.comes_right in
      let begun = h.takes in
      let then = p.takes file other tree other_tree t u begun.0 begun.1 o q begun.2 begun.3 in
      let first = begun.4 in
      let second = then.4 in
      let on : k + 1 + count ≡ k + count + 1 = omega arith in
      let rest : each_differ one (k + 1) (drop k xs) (drop k ys) ≡ each_differ one (k + count + 1) (drop (k + count) xs) (drop (k + count) ys) =
      same_skipped by left.window right.window file other shows shows_right count (k + 1) (drop k xs) (drop k ys) come.2
      ∙ (λ i. each_differ one (on i) (drop-drop count k xs i) (drop-drop count k ys i)) in
      record {
        comes = subst (λ (ss : List SampleAt). Comes file tree t m left_after.walk ss) (drop-drop count k xs) come.0;
        comes_right = subst (λ (ss : List SampleAt). Comes other other_tree u n right_after.walk ss) (drop-drop count k ys) come.1;
        grows = subst (λ (ds : List Difference). GrowsTo before now (each_differ one 1 xs ys) ds) rest h.grows;
        takes = (then.0, then.1, then.2, then.3, omega (arith, first, second));
      }

  -- the same samples come of other walks
  pub pairs_moved : (k : ℕ) (w v w2 v2 : Walk) (now : List Difference) (mid new : ℕ) → GoOn k w v now mid
      → Comes file tree t m w2 (drop k (track_samples tree t)) × Comes other other_tree u n v2 (drop k (track_samples other_tree u))
      → ((p q : ℕ) → MayTake file tree t w p → MayTake other other_tree u v q → BothTakeOn file tree t w2 other other_tree u v2 (p + q) mid new) → GoOn k w2 v2 now new
  pairs_moved k w v w2 v2 now mid new h come work =
      let begun = h.takes in
      let then = work begun.0 begun.1 begun.2 begun.3 in
      let first = begun.4 in
      let second = then.4 in
      record { comes = come.0; comes_right = come.1; grows = h.grows; takes = (then.0, then.1, then.2, then.3, omega (arith, first, second)) }

  -- no further difference is taken
  pub pairs_stop : (k : ℕ) (w v w2 v2 : Walk) (now next found : List Difference) (mid : ℕ) → GoOn k w v now mid
      → ((x y : SampleAt) × TakesFirst file tree t m w2 (drop k (track_samples tree t)) x × TakesFirst other other_tree u n v2 (drop k (track_samples other_tree u)) y × (found ≡ one (k + 1) x y)) → TakesFront now next found
      → TakesFront before next (each_differ one 1 (track_samples tree t) (track_samples other_tree u))
  pairs_stop k w v w2 v2 now next found mid h p f =
      let xs = track_samples tree t in
      let ys = track_samples other_tree u in
      let x = p.2 in
      let y = p.3 in
      grows_part before now next (each_differ one 1 xs ys) (each_differ one (k + 1) (drop k xs) (drop k ys)) found (each_differ one (k + 1 + 1) (drop (k + 1) xs) (drop (k + 1) ys)) h.grows
      (each_next one k xs ys x.0 y.0 p.0 p.1 x.1 y.1 ∙ ap (λ (ds : List Difference). ds ++ each_differ one (k + 1 + 1) (drop (k + 1) xs) (drop (k + 1) ys)) (sym p.4)) f

  -- no more steps were taken than both walks may take
  pub pairs_most : (k : ℕ) (w v : Walk) (now : List Difference) (mid new : ℕ) → GoOn k w v now mid → ((p q : ℕ) → MayTake file tree t w p → MayTake other other_tree u v q → new ≤ mid + (p + q)) → new ≤ old + (walk_steps tree t + walk_steps other_tree u)
  pairs_most k w v now mid new h most =
      let begun = h.takes in
      let then = most begun.0 begun.1 begun.2 begun.3 in
      let first = begun.4 in
      omega (arith, first, then)

  pub pairs_work : (k : ℕ) (w v : Walk) (now : List Difference) (new : ℕ) → GoOn k w v now new → new ≤ old + (walk_steps tree t + walk_steps other_tree u)
  pairs_work k w v now new h = let first = h.takes.4 in omega (arith, first)

  -- all were compared
  pub pairs_all : (k : ℕ) (w v : Walk) (now : List Difference) (new : ℕ) → GoOn k w v now new → min (length (track_samples tree t)) (length (track_samples other_tree u)) ≤ k → now ≡ before ++ each_differ one 1 (track_samples tree t) (track_samples other_tree u)
  pairs_all k w v now new h le = grows_all before now _ _ h.grows (each_over one k (track_samples tree t) (track_samples other_tree u) le)

-- a bound of two numbers
pub min_over : (m n a b k : ℕ) → m ≡ a → n ≡ b → min m n ≤ k → min a b ≤ k
min_over m n a b k e f le = subst (λ (j : ℕ). min j b ≤ k) e (subst (λ (j : ℕ). min m j ≤ k) f le)
