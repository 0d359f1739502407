-- Laws of the lists of boxes: where a header that is looked at is at fault there is no list, and six levels are enough.
use Rattle.std.proofs.Common.{◌≡◌, ℕ, zero, suc, ◌+◌, ◌≤◌, List, [], ◌∷◌, Option, Some, None, refl, sym, ap, subst, ◌∙◌, arith}
use Rattle.std.specs.Prelude.{option_map}
use Rattle.mp4_boxes.specs.format.Box.{Box, Container, box_container, counted_container}
use Rattle.mp4_boxes.specs.format.BoxFaults.{IsHeaderFault}
use Rattle.mp4_boxes.specs.format.Places.{Place, Scope, ruled, data_entries, sample_entries, containers, at_kind, as_container, Leads}
use Rattle.mp4_boxes.specs.declared.rule.Rule.{Rule}
use Rattle.mp4_boxes.specs.declared.fault.Fault.{Fault}
use Rattle.mp4_boxes.proofs.Tiling.{header_fault_refuses}
use Rattle.mp4_boxes.proofs.Among.{in_zip}
use Rattle.mp4_boxes.proofs.Refusing.{stands_in}
use Rattle.mp4_answers.specs.declared.jobs.BoxForm.{BoxForm}
use Rattle.mp4_answers.specs.format.BoxTexts.{AreBoxLines, box_line}
use Rattle.mp4_answers.specs.format.Texts.{descends, IsPart}
use Rattle.mp4_answers.specs.format.BoxWalk.{height, under, rule_inside}
use Rattle.mp4_answers.proofs.BoxLists.{inside_lower, height_some, zip_map}

-- entries of `stsd` and `dref` are no containers of boxes
not_ruled : (s : Scope) (c : Container) (path : List Box) (to : Place) (rule : Rule) → containers s ≡ [] → ((r : Rule) → s ≡ ruled r → ⊥) → Leads (record { scope = s; container = c }) path to → to.scope ≡ ruled rule → ⊥
not_ruled s c [] to rule none other l e = other rule (ap (λ (p : Place). p.scope) l ∙ e)
not_ruled s c (b ∷ path) to rule none other l e =
    let f : ◌≡◌ {A = Option Place} None (Some l.2) = sym (ap (λ (t : List (List ℕ × Scope)). option_map (λ (x : Scope). record { scope = x; container = as_container x b }) (at_kind t b.kind)) none) ∙ l.3 in
    cc

data_not : (r : Rule) → data_entries ≡ ruled r → ⊥
data_not r e = cc

sample_not : (r : Rule) → sample_entries ≡ ruled r → ⊥
sample_not r e = cc

-- what a box leads to, by what it holds
led : (form : BoxForm) (n depth : ℕ) (b : Box) (line part : List ℕ) (o : Option Scope) (next : Place) (path : List Box) (to : Place) (rule : Rule) (f : Fault)
    → IsPart (AreBoxLines form n (depth + 1)) line (descends o) b part → option_map (λ (x : Scope). record { scope = x; container = as_container x b }) o ≡ Some next → Leads next path to → to.scope ≡ ruled rule
    → ((r : Rule) (text : List ℕ) → AreBoxLines form n (depth + 1) r (box_container b) text → Leads (under r (box_container b)) path to → ⊥) → ⊥
led form n depth b line part None next path to rule f p e l s more = cc
led form n depth b line part (Some (ruled r)) next path to rule f p e l s more =
    let same : next ≡ under r (box_container b) = cc in
    more r p.0 p.1 (subst (λ (q : Place). Leads q path to) same l)
led form n depth b line part (Some data_entries) next path to rule f p e l s more =
    let same : next ≡ record { scope = data_entries; container = counted_container b } = cc in
    not_ruled data_entries (counted_container b) path to rule refl data_not (subst (λ (q : Place). Leads q path to) same l) s
led form n depth b line part (Some sample_entries) next path to rule f p e l s more =
    let same : next ≡ record { scope = sample_entries; container = counted_container b } = cc in
    not_ruled sample_entries (counted_container b) path to rule refl sample_not (subst (λ (q : Place). Leads q path to) same l) s

-- Where a header that is looked at can't be read, no lines are those of the boxes.
pub listed_refuses : (form : BoxForm) (n depth : ℕ) (rule : Rule) (c : Container) (text : List ℕ) (path : List Box) (to : Place) (inner : Rule) (f : Fault)
    → AreBoxLines form n depth rule c text → Leads (under rule c) path to → to.scope ≡ ruled inner → IsHeaderFault to.container f → ⊥
listed_refuses form zero depth rule c text path to inner f lines l s h = lines
listed_refuses form (suc n) depth rule c text [] to inner f lines l s h =
    header_fault_refuses c f lines.0 (subst (λ (p : Place). IsHeaderFault p.container f) (sym l) h) lines.1
listed_refuses form (suc n) depth rule c text (b ∷ path) to inner f lines l s h =
    let member = stands_in c l.0 lines.0 b l.1 lines.1 in
    let z = in_zip (λ (x : Box) (part : List ℕ). IsPart (AreBoxLines form n (depth + 1)) (box_line form rule depth x) (descends (at_kind (containers (ruled rule)) x.kind)) x part) lines.0 lines.2 b member lines.3 in
    led form n depth b (box_line form rule depth b) z.0 (at_kind (containers (ruled rule)) b.kind) l.2 path to inner f z.2 l.3 l.4 s
    (λ r more_text more m. listed_refuses form n (depth + 1) r (box_container b) more_text path to inner f more m s h)

lower_part : (form : BoxForm) (m n depth : ℕ) (b : Box) (line part : List ℕ) (o : Option Rule) → ((r : Rule) (text : List ℕ) → o ≡ Some r → AreBoxLines form n (depth + 1) r (box_container b) text → AreBoxLines form m (depth + 1) r (box_container b) text)
    → IsPart (AreBoxLines form n (depth + 1)) line o b part → IsPart (AreBoxLines form m (depth + 1)) line o b part
lower_part form m n depth b line part None f p = p
lower_part form m n depth b line part (Some r) f p = (p.0, f r p.0 refl p.1, p.2)

-- No more levels are wanted than lie under the rule.
pub levels_fall : (form : BoxForm) (n m depth : ℕ) (rule : Rule) (c : Container) (text : List ℕ) → height rule ≤ m → AreBoxLines form n depth rule c text → AreBoxLines form m depth rule c text
levels_fall form zero m depth rule c text le lines = absurd lines
levels_fall form (suc n) zero depth rule c text le lines = absurd (let s = height_some rule in omega arith)
levels_fall form (suc n) (suc m) depth rule c text le lines = (
  lines.0,
  lines.1,
  lines.2,
  zip_map (λ b part. IsPart (AreBoxLines form n (depth + 1)) (box_line form rule depth b) (rule_inside rule b.kind) b part) (λ b part. IsPart (AreBoxLines form m (depth + 1)) (box_line form rule depth b) (rule_inside rule b.kind) b part)
      (λ b part. lower_part form m n depth b (box_line form rule depth b) part (rule_inside rule b.kind)
      (λ r more e. levels_fall form n m (depth + 1) r (box_container b) more (let low = inside_lower rule r b.kind e in omega arith))) lines.0 lines.2 lines.3,
  lines.4,
)
