-- A walk over the boxes of a container: what was passed, and what of it was read.
use Rattle.std.proofs.Common.{◌≡◌, ℕ, ◌+◌, ◌<◌, ◌≤◌, Bool, true, false, List, [], ◌∷◌, ◌++◌, Option, Some, None, refl, sym, ap, subst, ◌∙◌, arith, append_assoc}
use Rattle.std.specs.Prelude.{bytes_eq, cond}
use Rattle.std.proofs.lemmas.List.{append-nil}
use Rattle.mp4_boxes.specs.format.Box.{Box}
use Rattle.mp4_boxes.specs.format.Children.{payload_if, count_among}
use Rattle.mp4_boxes.specs.format.Places.{Scope, IsSoundAs, leaf_of, AreSound}
use Rattle.mp4_boxes.proofs.Among.{count-append, all_append}
use Rattle.mp4_head.specs.format.Tree.{first_of}

-- Of all boxes of a container some were passed, and these are left.
pub record Walk (all left : List Box) : Type 0 where
  pub passed : List Box
  pub whole : all ≡ passed ++ left

-- none was passed
abbrev pub walk_none : (all : List Box) → Walk all all
walk_none all = record { passed = []; whole = refl }

-- one more was
abbrev pub walk_more : (all left later : List Box) (b : Box) → (w : Walk all left) → left ≡ b ∷ later → Walk all later
walk_more all left later b w e = record { passed = w.passed ++ b ∷ []; whole = w.whole ∙ ap (λ (bs : List Box). w.passed ++ bs) e ∙ sym (append_assoc w.passed (b ∷ []) later) }

-- the one in hand stands behind those that were passed
pub walk_here : (all left later : List Box) (b : Box) → (w : Walk all left) → left ≡ b ∷ later → all ≡ w.passed ++ b ∷ later
walk_here all left later b w e = w.whole ∙ ap (λ (bs : List Box). w.passed ++ bs) e

-- where none is left, all were passed
pub walk_all : (all left : List Box) → (w : Walk all left) → left ≡ [] → all ≡ w.passed
walk_all all left w e = w.whole ∙ ap (λ (bs : List Box). w.passed ++ bs) e ∙ append-nil w.passed

-- ---- the first box of a type

-- what was read of the first box of a type, if one was passed
pub data FirstRead {X : Type 0} (P : Box → X → Type 0) (kind : List ℕ) (passed : List Box) : Option X → Type 0 where
  not_yet : count_among (kind ∷ []) passed ≡ 0 → FirstRead P kind passed None
  was_read : {x : X} → 0 < count_among (kind ∷ []) passed → P (first_of kind passed) x → FirstRead P kind passed (Some x)

-- how often a type stands among one more
count_more : (kind : List ℕ) (passed : List Box) (b : Box) (v : Bool) → bytes_eq kind b.kind ≡ v → count_among (kind ∷ []) (passed ++ b ∷ []) ≡ count_among (kind ∷ []) passed + cond v 1 0
count_more kind passed b true e = count-append (kind ∷ []) passed (b ∷ []) ∙ ap (λ (n : ℕ). count_among (kind ∷ []) passed + n) (rw e refl)
count_more kind passed b false e = count-append (kind ∷ []) passed (b ∷ []) ∙ ap (λ (n : ℕ). count_among (kind ∷ []) passed + n) (rw e refl)

-- where one of a type may stand, none was passed before the one in hand
pub none_before : (kind : List ℕ) (all passed later : List Box) (b : Box) → all ≡ passed ++ b ∷ later → count_among (kind ∷ []) all ≤ 1 → bytes_eq kind b.kind ≡ true → count_among (kind ∷ []) passed ≡ 0
none_before kind all passed later b e few k =
    let whole = count-append (kind ∷ []) passed (b ∷ later) in
    let here : count_among (kind ∷ []) (b ∷ later) ≡ 1 + count_among (kind ∷ []) later = rw k refl in
    let same : count_among (kind ∷ []) all ≡ count_among (kind ∷ []) (passed ++ b ∷ later) = ap (count_among (kind ∷ [])) e in
    omega (arith, whole, here, same, few)

-- the step of `first_stays`, by the type of the first
stays_step : (kind : List ℕ) (c : Box) (passed : List Box) (b : Box) (v : Bool) → bytes_eq kind c.kind ≡ v → 0 < count_among (kind ∷ []) (c ∷ passed)
    → (0 < count_among (kind ∷ []) passed → first_of kind (passed ++ b ∷ []) ≡ first_of kind passed) → first_of kind ((c ∷ passed) ++ b ∷ []) ≡ first_of kind (c ∷ passed)
stays_step kind c passed b true e s more = rw e refl
stays_step kind c passed b false e s more =
    let fewer : 0 < 0 + count_among (kind ∷ []) passed = rw e at s in
    rw e (more (omega (arith, fewer)))

-- the first of a type stays the first
first_stays : (kind : List ℕ) (passed : List Box) (b : Box) → 0 < count_among (kind ∷ []) passed → first_of kind (passed ++ b ∷ []) ≡ first_of kind passed
first_stays kind [] b some = absurd (omega (arith, some))
first_stays kind (c ∷ passed) b some = stays_step kind c passed b (bytes_eq kind c.kind) refl some (λ s. first_stays kind passed b s)

-- the step of `first_now`
now_step : (kind : List ℕ) (c : Box) (passed : List Box) (b : Box) (v : Bool) → bytes_eq kind c.kind ≡ v → count_among (kind ∷ []) (c ∷ passed) ≡ 0
    → (count_among (kind ∷ []) passed ≡ 0 → first_of kind (passed ++ b ∷ []) ≡ b) → first_of kind ((c ∷ passed) ++ b ∷ []) ≡ b
now_step kind c passed b true e s more =
    let some : 1 + count_among (kind ∷ []) passed ≡ 0 = rw e at s in
    absurd (omega (arith, some))
now_step kind c passed b false e s more =
    let fewer : 0 + count_among (kind ∷ []) passed ≡ 0 = rw e at s in
    rw e (more (omega (arith, fewer)))

-- the first of a type where none was before
first_now : (kind : List ℕ) (passed : List Box) (b : Box) → count_among (kind ∷ []) passed ≡ 0 → bytes_eq kind b.kind ≡ true → first_of kind (passed ++ b ∷ []) ≡ b
first_now kind [] b none k = rw k refl
first_now kind (c ∷ passed) b none k = now_step kind c passed b (bytes_eq kind c.kind) refl none (λ n. first_now kind passed b n k)

-- a box of another type changes nothing
pub first_other : {X : Type 0} (P : Box → X → Type 0) (kind : List ℕ) (passed : List Box) (b : Box) (o : Option X) → bytes_eq kind b.kind ≡ false → FirstRead P kind passed o → FirstRead P kind (passed ++ b ∷ []) o
first_other P kind passed b None k (not_yet n) = not_yet (omega (arith, count_more kind passed b false k, n))
first_other P kind passed b (Some x) k (was_read s p) = was_read (omega (arith, count_more kind passed b false k, s)) (subst (λ (c : Box). P c x) (sym (first_stays kind passed b s)) p)

-- one of the type was read
pub first_this : {X : Type 0} (P : Box → X → Type 0) (kind : List ℕ) (passed : List Box) (b : Box) (x : X) → bytes_eq kind b.kind ≡ true → count_among (kind ∷ []) passed ≡ 0 → P b x → FirstRead P kind (passed ++ b ∷ []) (Some x)
first_this P kind passed b x k n p = was_read (omega (arith, count_more kind passed b true k, n)) (subst (λ (c : Box). P c x) (sym (first_now kind passed b n k)) p)

-- where one must stand, it was read
pub first_read : {X : Type 0} (P : Box → X → Type 0) (kind : List ℕ) (all passed : List Box) (x : X) → all ≡ passed → FirstRead P kind passed (Some x) → P (first_of kind all) x
first_read P kind all passed x e (was_read s p) = rw e p

-- where one must stand, one was read
pub first_missing : {X : Type 0} (P : Box → X → Type 0) (kind : List ℕ) (all passed : List Box) → all ≡ passed → count_among (kind ∷ []) all ≡ 1 → FirstRead P kind passed None → ⊥
first_missing P kind all passed e one (not_yet n) = absurd (omega (arith, ap (count_among (kind ∷ [])) e, one, n))

-- ---- the payload of the first of a type

-- the payload of the first of a type, where another was passed
pub payload_other : (kind : List ℕ) (passed : List Box) (b : Box) → bytes_eq kind b.kind ≡ false → payload_if kind (passed ++ b ∷ []) ≡ payload_if kind passed
payload_other kind [] b k = rw k refl
payload_other kind (c ∷ passed) b k = ap (cond (bytes_eq kind c.kind) (Some c.payload)) (payload_other kind passed b k)

-- the step of `payload_this`
payload_step : (kind : List ℕ) (c : Box) (passed : List Box) (b : Box) (v : Bool) → bytes_eq kind c.kind ≡ v → count_among (kind ∷ []) (c ∷ passed) ≡ 0
    → (count_among (kind ∷ []) passed ≡ 0 → payload_if kind (passed ++ b ∷ []) ≡ Some b.payload) → payload_if kind ((c ∷ passed) ++ b ∷ []) ≡ Some b.payload
payload_step kind c passed b true e s more =
    let some : 1 + count_among (kind ∷ []) passed ≡ 0 = rw e at s in
    absurd (omega (arith, some))
payload_step kind c passed b false e s more =
    let fewer : 0 + count_among (kind ∷ []) passed ≡ 0 = rw e at s in
    rw e (more (omega (arith, fewer)))

-- the payload of the first of a type where none was before
pub payload_this : (kind : List ℕ) (passed : List Box) (b : Box) → bytes_eq kind b.kind ≡ true → count_among (kind ∷ []) passed ≡ 0 → payload_if kind (passed ++ b ∷ []) ≡ Some b.payload
payload_this kind [] b k none = rw k refl
payload_this kind (c ∷ passed) b k none = payload_step kind c passed b (bytes_eq kind c.kind) refl none (λ n. payload_this kind passed b k n)

-- ---- leaves

-- one more box that is sound
pub sound_more : (scope : Scope) (passed : List Box) (b : Box) → AreSound scope passed → IsSoundAs (leaf_of scope b.kind) b.payload → AreSound scope (passed ++ b ∷ [])
sound_more scope passed b h s = all_append (λ (c : Box). IsSoundAs (leaf_of scope c.kind) c.payload) passed (b ∷ []) h (s, tt)

-- ---- what holds of the first of a type, once it was passed

abbrev pub IfPassed : (Box → Type 0) → List ℕ → List Box → Type 0
IfPassed P kind passed = 0 < count_among (kind ∷ []) passed → P (first_of kind passed)

-- a box of another type changes nothing
pub passed_other : (P : Box → Type 0) (kind : List ℕ) (passed : List Box) (b : Box) → bytes_eq kind b.kind ≡ false → IfPassed P kind passed → IfPassed P kind (passed ++ b ∷ [])
passed_other P kind passed b k h = λ some.
    let s : 0 < count_among (kind ∷ []) passed = omega (arith, count_more kind passed b false k, some) in
    subst P (sym (first_stays kind passed b s)) (h s)

-- one of the type is the first
pub passed_this : (P : Box → Type 0) (kind : List ℕ) (passed : List Box) (b : Box) → bytes_eq kind b.kind ≡ true → count_among (kind ∷ []) passed ≡ 0 → P b → IfPassed P kind (passed ++ b ∷ [])
passed_this P kind passed b k n p = λ some. subst P (sym (first_now kind passed b n k)) p

-- where one must stand, it holds of the first
pub passed_must : (P : Box → Type 0) (kind : List ℕ) (all passed : List Box) → all ≡ passed → count_among (kind ∷ []) all ≡ 1 → IfPassed P kind passed → P (first_of kind all)
passed_must P kind all passed e one h = rw e (h (omega (arith, sym (ap (count_among (kind ∷ [])) e) ∙ one)))
