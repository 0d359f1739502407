-- The first box of a group of types, as a walk over the boxes of a container finds it.
use Rattle.std.proofs.Common.{◌≡◌, ℕ, ◌+◌, ◌<◌, Bool, true, false, List, [], ◌∷◌, ◌++◌, Option, Some, None, refl, sym, ap, subst, ◌∙◌, arith}
use Rattle.std.specs.Prelude.{cond}
use Rattle.mp4_boxes.specs.format.Box.{Box}
use Rattle.mp4_boxes.specs.format.Children.{count_among, is_among}
use Rattle.mp4_boxes.proofs.Among.{count-append}
use Rattle.mp4_head.specs.format.Tree.{first_among}

-- what was read of the first box of these types, if one was passed
pub data AmongRead {X : Type 0} (P : Box → X → Type 0) (kinds : List (List ℕ)) (passed : List Box) : Option X → Type 0 where
  not_yet : count_among kinds passed ≡ 0 → AmongRead P kinds passed None
  was_read : {x : X} → 0 < count_among kinds passed → P (first_among kinds passed) x → AmongRead P kinds passed (Some x)

-- how often the types stand among one more
among_more : (kinds : List (List ℕ)) (passed : List Box) (b : Box) (v : Bool) → is_among kinds b.kind ≡ v → count_among kinds (passed ++ b ∷ []) ≡ count_among kinds passed + cond v 1 0
among_more kinds passed b true e = count-append kinds passed (b ∷ []) ∙ ap (λ (n : ℕ). count_among kinds passed + n) (rw e refl)
among_more kinds passed b false e = count-append kinds passed (b ∷ []) ∙ ap (λ (n : ℕ). count_among kinds passed + n) (rw e refl)

-- where one of the types must stand, none was passed before the one in hand
pub none_among : (kinds : List (List ℕ)) (all passed later : List Box) (b : Box) → all ≡ passed ++ b ∷ later → count_among kinds all ≡ 1 → is_among kinds b.kind ≡ true → count_among kinds passed ≡ 0
none_among kinds all passed later b e one k =
    let whole = count-append kinds passed (b ∷ later) in
    let here : count_among kinds (b ∷ later) ≡ 1 + count_among kinds later = rw k refl in
    let same : count_among kinds all ≡ count_among kinds (passed ++ b ∷ later) = ap (count_among kinds) e in
    omega (arith, whole, here, same, one)

-- the step of `among_stays`, by the type of the first
stays_step : (kinds : List (List ℕ)) (c : Box) (passed : List Box) (b : Box) (v : Bool) → is_among kinds c.kind ≡ v → 0 < count_among kinds (c ∷ passed)
    → (0 < count_among kinds passed → first_among kinds (passed ++ b ∷ []) ≡ first_among kinds passed) → first_among kinds ((c ∷ passed) ++ b ∷ []) ≡ first_among kinds (c ∷ passed)
stays_step kinds c passed b true e s more = rw e refl
stays_step kinds c passed b false e s more =
    let fewer : 0 < 0 + count_among kinds passed = rw e at s in
    rw e (more (omega (arith, fewer)))

-- the first stays the first
among_stays : (kinds : List (List ℕ)) (passed : List Box) (b : Box) → 0 < count_among kinds passed → first_among kinds (passed ++ b ∷ []) ≡ first_among kinds passed
among_stays kinds [] b some = absurd (omega (arith, some))
among_stays kinds (c ∷ passed) b some = stays_step kinds c passed b (is_among kinds c.kind) refl some (λ s. among_stays kinds passed b s)

-- the step of `among_now`
now_step : (kinds : List (List ℕ)) (c : Box) (passed : List Box) (b : Box) (v : Bool) → is_among kinds c.kind ≡ v → count_among kinds (c ∷ passed) ≡ 0
    → (count_among kinds passed ≡ 0 → first_among kinds (passed ++ b ∷ []) ≡ b) → first_among kinds ((c ∷ passed) ++ b ∷ []) ≡ b
now_step kinds c passed b true e s more =
    let some : 1 + count_among kinds passed ≡ 0 = rw e at s in
    absurd (omega (arith, some))
now_step kinds c passed b false e s more =
    let fewer : 0 + count_among kinds passed ≡ 0 = rw e at s in
    rw e (more (omega (arith, fewer)))

-- the first where none was before
among_now : (kinds : List (List ℕ)) (passed : List Box) (b : Box) → count_among kinds passed ≡ 0 → is_among kinds b.kind ≡ true → first_among kinds (passed ++ b ∷ []) ≡ b
among_now kinds [] b none k = rw k refl
among_now kinds (c ∷ passed) b none k = now_step kinds c passed b (is_among kinds c.kind) refl none (λ n. among_now kinds passed b n k)

-- a box of another type changes nothing
pub among_other : {X : Type 0} (P : Box → X → Type 0) (kinds : List (List ℕ)) (passed : List Box) (b : Box) (o : Option X) → is_among kinds b.kind ≡ false → AmongRead P kinds passed o → AmongRead P kinds (passed ++ b ∷ []) o
among_other P kinds passed b None k (not_yet n) = not_yet (omega (arith, among_more kinds passed b false k, n))
among_other P kinds passed b (Some x) k (was_read s p) = was_read (omega (arith, among_more kinds passed b false k, s)) (subst (λ (c : Box). P c x) (sym (among_stays kinds passed b s)) p)

-- one of the types was read
pub among_this : {X : Type 0} (P : Box → X → Type 0) (kinds : List (List ℕ)) (passed : List Box) (b : Box) (x : X) → is_among kinds b.kind ≡ true → count_among kinds passed ≡ 0 → P b x → AmongRead P kinds (passed ++ b ∷ []) (Some x)
among_this P kinds passed b x k n p = was_read (omega (arith, among_more kinds passed b true k, n)) (subst (λ (c : Box). P c x) (sym (among_now kinds passed b n k)) p)

-- what was read is of the first of all
pub among_read : {X : Type 0} (P : Box → X → Type 0) (kinds : List (List ℕ)) (all passed : List Box) (x : X) → all ≡ passed → AmongRead P kinds passed (Some x) → P (first_among kinds all) x
among_read P kinds all passed x e (was_read s p) = rw e p

-- where one must stand, one was read
pub among_missing : {X : Type 0} (P : Box → X → Type 0) (kinds : List (List ℕ)) (all passed : List Box) → all ≡ passed → count_among kinds all ≡ 1 → AmongRead P kinds passed None → ⊥
among_missing P kinds all passed e one (not_yet n) = absurd (omega (arith, ap (count_among kinds) e, one, n))
