-- Files that are judged one after the other.
use Rattle.std.proofs.Common.{◌≡◌, ℕ, suc, ◌+◌, ◌<◌, ◌≤◌, max, List, [], ◌∷◌, length, get_or, drop, refl, sym, ap, subst, ◌∙◌, arith}
use Rattle.std.proofs.Math.Seq.{drop-cons}
use Rattle.std.specs.Prelude.{Option, Result}
use Rattle.mp4_boxes.specs.declared.refusal.Refusal.{Refusal}
use Rattle.mp4_boxes.proofs.Plain.{drop_all}
use Rattle.mp4_answers.specs.format.Verdicts.{verdict_status}
use Rattle.mp4norm.specs.declared.judging.ListedFile.{ListedFile}
use Rattle.mp4norm.specs.format.Lists.{ended_names}
use Rattle.mp4norm.specs.format.Judging.{has_another, has_none, one_if, JudgesEach, SumsAll}

-- what is still to come makes up the whole with what was judged, whose greatest status this is
abbrev pub GoesOn : {J A : Type 0} → (J → J → A → Result (Option (List ℕ)) Refusal → Type 0) → List A → J → List A → J → ℕ → Type 0
GoesOn {J = J} Finds all from left at worst = (to : J) (status : ℕ) → JudgesEach Finds left at to status → JudgesEach Finds all from to (max status worst)

max_none : (n : ℕ) → max n 0 ≡ n
max_none n = omega arith

max_more : (status worst own : ℕ) → max (max own status) worst ≡ max status (max own worst)
max_more status worst own = omega arith

plus_more : (many one none : ℕ) → many + (one + none) ≡ (many + one) + none
plus_more many one none = omega arith

pub goes_from : {J A : Type 0} (Finds : J → J → A → Result (Option (List ℕ)) Refusal → Type 0) (all : List A) (from : J) → GoesOn Finds all from all from 0
goes_from Finds all from to status j = subst (λ (n : ℕ). JudgesEach Finds all from to n) (sym (max_none status)) j

pub goes_on : {J A : Type 0} (Finds : J → J → A → Result (Option (List ℕ)) Refusal → Type 0) (all : List A) (from : J) (a : A) (more : List A) (at next : J) (worst own worse : ℕ) (found : Result (Option (List ℕ)) Refusal)
    → Finds at next a found → own ≡ verdict_status found → worse ≡ max own worst → GoesOn Finds all from (a ∷ more) at worst → GoesOn Finds all from more next worse
goes_on Finds all from a more at next worst own worse found f is e on to status j =
    subst (λ (n : ℕ). JudgesEach Finds all from to n) (max_more status worst (verdict_status found) ∙ ap (λ (n : ℕ). max status (max n worst)) (sym is) ∙ ap (λ (n : ℕ). max status n) (sym e))
    (on to (max (verdict_status found) status) (next, status, found, f, j, refl))

pub goes_whole : {J A : Type 0} (Finds : J → J → A → Result (Option (List ℕ)) Refusal → Type 0) (all : List A) (from at : J) (worst : ℕ) → GoesOn Finds all from [] at worst → JudgesEach Finds all from at worst
goes_whole Finds all from at worst on = let none : max 0 worst ≡ worst = omega arith in subst (λ (n : ℕ). JudgesEach Finds all from at n) none (on at 0 (refl, refl))

-- the same of files that have a sum in a list, so many of which have none and another one
abbrev pub SumsOn : {J : Type 0} → (J → J → ListedFile → Result (Option (List ℕ)) Refusal → Type 0) → List ListedFile → J → List ListedFile → J → ℕ → ℕ → ℕ → Type 0
SumsOn {J = J} Finds all from left at worst without other = (to : J) (refused none others : ℕ) → SumsAll Finds left at to refused none others → SumsAll Finds all from to (max refused worst) (without + none) (other + others)

-- the same answer, by numbers that are the same
same_sums : {J : Type 0} (Finds : J → J → ListedFile → Result (Option (List ℕ)) Refusal → Type 0) (all : List ListedFile) (from to : J) (worst worst' without without' other other' : ℕ)
    → worst ≡ worst' → without ≡ without' → other ≡ other' → SumsAll Finds all from to worst without other → SumsAll Finds all from to worst' without' other'
same_sums Finds all from to worst worst' without without' other other' e f h j =
    subst (λ (n : ℕ). SumsAll Finds all from to worst' without' n) h
    (subst (λ (n : ℕ). SumsAll Finds all from to worst' n other) f (subst (λ (n : ℕ). SumsAll Finds all from to n without other) e j))

pub sums_from : {J : Type 0} (Finds : J → J → ListedFile → Result (Option (List ℕ)) Refusal → Type 0) (all : List ListedFile) (from : J) → SumsOn Finds all from all from 0 0 0
sums_from Finds all from to refused none others j =
    let first : refused ≡ max refused 0 = omega arith in
    let second : none ≡ 0 + none = omega arith in
    let third : others ≡ 0 + others = omega arith in
    same_sums Finds all from to refused (max refused 0) none (0 + none) others (0 + others) first second third j

pub sums_on : {J : Type 0} (Finds : J → J → ListedFile → Result (Option (List ℕ)) Refusal → Type 0) (all : List ListedFile) (from : J) (file : ListedFile) (more : List ListedFile) (at next : J) (worst own worse without one other another : ℕ) (found : Result (Option (List ℕ)) Refusal)
    → Finds at next file found → own ≡ verdict_status found → worse ≡ max own worst → one ≡ one_if (has_none found) → another ≡ one_if (has_another file.digest found)
    → SumsOn Finds all from (file ∷ more) at worst without other → SumsOn Finds all from more next worse (without + one) (other + another)
sums_on Finds all from file more at next worst own worse without one other another found f is e is_none is_another on to refused none others j =
    let first = max_more refused worst (verdict_status found) ∙ ap (λ (n : ℕ). max refused (max n worst)) (sym is) ∙ ap (λ (n : ℕ). max refused n) (sym e) in
    let second = ap (λ (n : ℕ). without + (n + none)) (sym is_none) ∙ plus_more without one none in
    let third = ap (λ (n : ℕ). other + (n + others)) (sym is_another) ∙ plus_more other another others in
    let whole = on to (max (verdict_status found) refused) (one_if (has_none found) + none) (one_if (has_another file.digest found) + others) (next, found, refused, none, others, f, j, refl, refl, refl) in
    same_sums Finds all from to _ _ _ _ _ _ first second third whole

pub sums_whole : {J : Type 0} (Finds : J → J → ListedFile → Result (Option (List ℕ)) Refusal → Type 0) (all : List ListedFile) (from at : J) (worst without other : ℕ) → SumsOn Finds all from [] at worst without other → SumsAll Finds all from at worst without other
sums_whole Finds all from at worst without other on =
    let own = on at 0 0 0 (refl, refl, refl, refl) in
    let none : max 0 worst ≡ worst = omega arith in
    let same : without + 0 ≡ without = omega arith in
    let others : other + 0 ≡ other = omega arith in
    same_sums Finds all from at _ _ _ _ _ _ none same others own

-- ---- what is left to judge

pub none_ended : (list : List ℕ) → length list ≡ 0 → ended_names list ≡ []
none_ended [] e = refl
none_ended (b ∷ bs) e = absurd (omega (arith, e))

pub left_at : {A : Type 0} (list : List A) (k : ℕ) (d a : A) → k < length list → a ≡ get_or list k d → drop k list ≡ a ∷ drop (k + 1) list
left_at {A = A} list k d a lt is =
    let next : suc k ≡ k + 1 = omega arith in
    drop-cons list k d lt ∙ ap (λ (x : A). x ∷ drop (suc k) list) (sym is) ∙ ap (λ (n : ℕ). a ∷ drop n list) next

pub none_left : {A J : Type 0} (Goes : List A → J → ℕ → Type 0) (list : List A) (k : ℕ) → length list ≤ k → (at : J) (worst : ℕ) → Goes (drop k list) at worst → Goes [] at worst
none_left Goes list k le at worst g = subst (λ (left : List _). Goes left at worst) (drop_all list k le) g
