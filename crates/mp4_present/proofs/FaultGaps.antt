-- The `moof` in which a place lies, looked for behind those before it.
use Rattle.std.proofs.Common.{◌≡◌, ℕ, Bool, true, false, List, [], ◌∷◌, Option, Some, None, find, cond, refl, sym, subst, arith}
use Rattle.std.specs.Prelude.{IsTrue, Contains, IfSome, suc}
use Rattle.std.proofs.lemmas.List.Elements.{Contains-append_right}
use Rattle.mp4_boxes.specs.declared.refusal.Refusal.{Refusal}
use Rattle.mp4_boxes.specs.declared.refusal.Refusal.TheVariants as refusals
use Rattle.mp4_present.specs.words.Refusing.{MeetsFault, ReadsToFault, RefusesSearch}
use Rattle.mp4_present.specs.words.Reading.{RefusesTopBox}
use Rattle.mp4_present.proofs.Payloads.{Begins}

-- one was not read, where there is room for it
pub not_read : (honest : Bool) (file : List ℕ) (at room reads reads_after : ℕ) (r : Refusal) → (IsTrue honest → Begins file at room) → RefusesTopBox room at honest file reads reads_after r → RefusesSearch honest reads reads_after r
not_read honest file at room reads reads_after (refusals.Fault f) n w = tt
not_read honest file at room reads reads_after refusals.Memory n w = absurd w
not_read honest file at room reads reads_after refusals.StoreFailed n w = w
not_read honest file at room reads reads_after refusals.StoreChanged n w = λ told. let b = n told in let long = w told b.0 b.1 in let short = b.2 in absurd (omega (arith, short, long))
not_read honest file at room reads reads_after refusals.WriteFailed n w = w
not_read honest file at room reads reads_after refusals.NoSuchTrack n w = w

-- no fault is met where one was not read
pub unread_faultless : (honest : Bool) (file : List ℕ) (at room reads reads_after : ℕ) (r : Refusal) → RefusesTopBox room at honest file reads reads_after r → ReadsToFault reads reads_after r
unread_faultless honest file at room reads reads_after (refusals.Fault f) w = absurd w
unread_faultless honest file at room reads reads_after refusals.Memory w = tt
unread_faultless honest file at room reads reads_after refusals.StoreFailed w = tt
unread_faultless honest file at room reads reads_after refusals.StoreChanged w = tt
unread_faultless honest file at room reads reads_after refusals.WriteFailed w = tt
unread_faultless honest file at room reads reads_after refusals.NoSuchTrack w = tt

-- one that was not checked to its end
pub not_searched : (honest : Bool) (reads reads_after : ℕ) (r : Refusal) → MeetsFault r → RefusesSearch honest reads reads_after r
not_searched honest reads reads_after (refusals.Fault f) w = tt
not_searched honest reads reads_after refusals.Memory w = tt
not_searched honest reads reads_after refusals.StoreFailed w = absurd w
not_searched honest reads reads_after refusals.StoreChanged w = absurd w
not_searched honest reads reads_after refusals.WriteFailed w = w
not_searched honest reads reads_after refusals.NoSuchTrack w = w

-- ---- lists of boxes, passed one by one

-- the one in hand is among them
pub in_hand : {A : Type 0} (xs ys : List A) (x : A) → xs ≡ x ∷ ys → Contains xs x
in_hand {A} xs ys x e = subst (λ (zs : List A). Contains zs x) (sym e) (0, omega arith, refl)

-- so is each one behind it
pub later : {A : Type 0} (xs ys : List A) (x y : A) → xs ≡ x ∷ ys → Contains ys y → Contains xs y
later {A} xs ys x y e h = subst (λ (zs : List A). Contains zs y) (sym e) (Contains-append_right (x ∷ []) ys y h)

-- what is found is there
found_choice : {A : Type 0} (p : A → Bool) (x y : A) (xs : List A) (v : Bool) → cond v (Some y) (find p xs) ≡ Some x → (find p xs ≡ Some x → Contains xs x) → Contains (y ∷ xs) x
found_choice {A} p x y xs true e behind = let s : ◌≡◌ {A = Option A} (Some y) (Some x) = e in let same : y ≡ x = cc in (0, omega arith, same)
found_choice p x y xs false e behind = let r = behind e in let less = r.1 in (suc r.0, omega arith, r.2)

pub found_there : {A : Type 0} (p : A → Bool) (xs : List A) (x : A) → find p xs ≡ Some x → Contains xs x
found_there p [] x e = absurd cc
found_there p (y ∷ xs) x e = found_choice p x y xs (p y) e (found_there p xs x)

-- what is so of a value that there may be
pub some_so : {A : Type 0} (P Q : A → Type 0) (o : Option A) → ((x : A) → P x → Q x) → IfSome o P → IfSome o Q
some_so P Q None f h = tt
some_so P Q (Some x) f h = f x h

-- what is so of it under a premise
pub so_where : {A : Type 0} (P : Type 0) (Q : A → Type 0) (o : Option A) → (P → IfSome o Q) → IfSome o (λ x. P → Q x)
so_where P Q None f = tt
so_where P Q (Some x) f = f
