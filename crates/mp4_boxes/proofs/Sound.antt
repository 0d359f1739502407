-- Leaves of a container whose leaves are sound, and boxes of which one must stand there.
use Rattle.std.proofs.Common.{◌≡◌, ℕ, ◌+◌, Bool, true, false, cond, List, [], ◌∷◌, Option, Some, refl, sym, subst, arith}
use Rattle.std.specs.Prelude.{bytes_eq, IfSome}
use Rattle.std.specs.List.{AllByRecursion}
use Rattle.std.proofs.lemmas.Slice.Eq.{bytes_eq-Decides}
use Rattle.mp4_boxes.specs.format.Box.{Box}
use Rattle.mp4_boxes.specs.format.Children.{count_among, of_kind, payload_if, payload_of}
use Rattle.mp4_boxes.specs.format.Layout.{Leaf, IsSound}
use Rattle.mp4_boxes.specs.format.Places.{Scope, leaf_of, IsSoundAs, AreSound}
use Rattle.mp4_boxes.proofs.Each.{each_weaker, each_of_kind}

-- a type that passes the test is that type
pub same_kind : (kind other : List ℕ) → bytes_eq kind other ≡ true → other ≡ kind
same_kind kind other e = sym ((bytes_eq-Decides kind other).0 e)

-- what is read as a leaf there is sound, if it has the type of that leaf
sound_as : (scope : Scope) (kind : List ℕ) (leaf : Leaf) → leaf_of scope kind ≡ Some leaf → (b : Box) → bytes_eq kind b.kind ≡ true → IsSoundAs (leaf_of scope b.kind) b.payload → IsSound leaf b.payload
sound_as scope kind leaf e b k h =
    subst (λ (o : Option Leaf). IsSoundAs o b.payload) e (subst (λ (x : List ℕ). IsSoundAs (leaf_of scope x) b.payload) (same_kind kind b.kind k) h)

-- the step of `sound_if`, by the type of the first
leaf_choice : (scope : Scope) (kind : List ℕ) (leaf : Leaf) → leaf_of scope kind ≡ Some leaf → (b : Box) (o : Option (List ℕ)) (v : Bool) → bytes_eq kind b.kind ≡ v
    → IsSoundAs (leaf_of scope b.kind) b.payload → IfSome o (IsSound leaf) → IfSome (cond v (Some b.payload) o) (IsSound leaf)
leaf_choice scope kind leaf e b o true k h more = sound_as scope kind leaf e b k h
leaf_choice scope kind leaf e b o false k h more = more

-- the first box of the type of a leaf is sound, if there is one
pub sound_if : (scope : Scope) (kind : List ℕ) (leaf : Leaf) → leaf_of scope kind ≡ Some leaf → (bs : List Box) → AreSound scope bs → IfSome (payload_if kind bs) (IsSound leaf)
sound_if scope kind leaf e [] h = tt
sound_if scope kind leaf e (b ∷ bs) h = leaf_choice scope kind leaf e b (payload_if kind bs) (bytes_eq kind b.kind) refl h.0 (sound_if scope kind leaf e bs h.1)

-- each box of the type of a leaf is sound
pub sound_each : (scope : Scope) (kind : List ℕ) (leaf : Leaf) → leaf_of scope kind ≡ Some leaf → (bs : List Box) → AreSound scope bs
    → AllByRecursion (λ (b : Box). IsSound leaf b.payload) (of_kind kind bs)
sound_each scope kind leaf e bs h =
    let both = each_of_kind (λ (b : Box). IsSoundAs (leaf_of scope b.kind) b.payload) kind bs h in
    each_weaker (λ (b : Box). IsSoundAs (leaf_of scope b.kind) b.payload × (bytes_eq kind b.kind ≡ true)) (λ (b : Box). IsSound leaf b.payload)
    (λ b x. sound_as scope kind leaf e b x.1 x.0) (of_kind kind bs) both

-- the step of `of_the_one`, by the type of the first
there_choice : (P : List ℕ → Type 0) (kind : List ℕ) (b : Box) (bs : List Box) (v : Bool) → bytes_eq kind b.kind ≡ v → IfSome (payload_if kind (b ∷ bs)) P → count_among (kind ∷ []) (b ∷ bs) ≡ 1
    → (IfSome (payload_if kind bs) P → count_among (kind ∷ []) bs ≡ 1 → P (payload_of kind bs)) → P (payload_of kind (b ∷ bs))
there_choice P kind b bs true e h n more = rw e (rw e at h)
there_choice P kind b bs false e h n more =
    let k : 0 + count_among (kind ∷ []) bs ≡ 1 = rw e at n in
    rw e (more (rw e at h) (omega arith))

-- where one box of a type stands, what holds of it if it is there holds
pub of_the_one : (P : List ℕ → Type 0) (kind : List ℕ) (bs : List Box) → count_among (kind ∷ []) bs ≡ 1 → IfSome (payload_if kind bs) P → P (payload_of kind bs)
of_the_one P kind [] n h = absurd (omega (arith, n))
of_the_one P kind (b ∷ bs) n h = there_choice P kind b bs (bytes_eq kind b.kind) refl h n (λ k m. of_the_one P kind bs m k)

-- the one box of the type of a leaf is sound
pub sound_one : (scope : Scope) (kind : List ℕ) (leaf : Leaf) → leaf_of scope kind ≡ Some leaf → (bs : List Box) → AreSound scope bs → count_among (kind ∷ []) bs ≡ 1 → IsSound leaf (payload_of kind bs)
sound_one scope kind leaf e bs h n = of_the_one (IsSound leaf) kind bs n (sound_if scope kind leaf e bs h)
