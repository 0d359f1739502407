-- What is left of payloads of heads, in memory of its own: one entry after the other.
use Rattle.std.proofs.Common.{◌≡◌, ℕ, suc, ◌+◌, ◌≤◌, Bool, true, false, if◌then◌else◌, List, [], ◌∷◌, ◌++◌, length, take, map, Some, refl, sym, ap, subst, ◌∙◌, arith}
use Rattle.std.specs.Prelude.{◌&&◌, ◌||◌, slice_get}
use Rattle.std.specs.List.{AllZip}
use Rattle.std.proofs.lemmas.List.{map-append, take_all}
use Rattle.mp4_head.specs.format.Head.{Kept, TrackHead}
use Rattle.mp4_content.specs.format.BitRates.{entry_left}
use Rattle.mp4_content.specs.format.Reduced.{is_picture, plain_picture, reduce_descriptions}
use Rattle.mp4_content.specs.words.PayloadsLeft.{description_left, leaves_payloads, track_payloads_left}
use Rattle.mp4_content.specs.declared.without.Without.{Without}
use Rattle.mp4_boxes.proofs.Plain.{map_same, or_is_false}
use Rattle.mp4_present.proofs.Changed.{next_taken}

-- one more is put behind the first ones
pub put_next : {A B : Type 0} (seen : A → B) (all : List B) (now : List A) (k : ℕ) (x : A) → map seen now ≡ take k all → slice_get all k ≡ Some (seen x) → map seen (now ++ x ∷ []) ≡ take (k + 1) all
put_next seen all now k x h e =
    let n : suc k ≡ k + 1 = omega arith in
    map-append seen now (x ∷ []) ∙ ap (λ xs. xs ++ seen x ∷ []) h ∙ sym (next_taken all k (seen x) e) ∙ ap (λ i. take i all) n

pub put_all : {A B : Type 0} (seen : A → B) (all : List B) (now : List A) (k : ℕ) → map seen now ≡ take k all → length all ≤ k → map seen now ≡ all
put_all seen all now k h le = h ∙ take_all k all le

map_both : {A : Type 0} (f g : A → A) (xs : List A) → map (λ x. f (g x)) xs ≡ map f (map g xs)
map_both f g [] = refl
map_both f g (x ∷ xs) = ap (λ ys. f (g x) ∷ ys) (map_both f g xs)

-- all of them
left_by : (labels picture others : Bool) (f g : Kept → Kept) (entries : List Kept) → map (λ k. if labels && picture then f (if others then g k else k) else (if others then g k else k)) entries
    ≡ (if labels then (if picture then map f (if others then map g entries else entries) else (if others then map g entries else entries)) else (if others then map g entries else entries))
left_by true true true f g entries = map_both f g entries
left_by true true false f g entries = refl
left_by true false true f g entries = refl
left_by true false false f g entries = map_same (λ k. k) (λ k. refl) entries
left_by false picture true f g entries = refl
left_by false picture false f g entries = map_same (λ k. k) (λ k. refl) entries

pub entries_left : (l : Without) (handler : List ℕ) (entries : List Kept) → map (description_left l handler) entries ≡ reduce_descriptions l handler entries
entries_left l handler entries = left_by l.labels (is_picture handler) (l.bitrates || l.ids) plain_picture (entry_left l.bitrates l.ids handler) entries

-- ---- two lists, one entry after the other

pub zip_next : {A B : Type 0} (R : A → B → Type 0) (xs : List A) (ys : List B) (k : ℕ) (x : A) (y : B) → AllZip R (take k xs) ys → slice_get xs k ≡ Some x → R x y → AllZip R (take (k + 1) xs) (ys ++ y ∷ [])
zip_next {A = A} {B = B} R xs ys k x y h e r = let n : suc k ≡ k + 1 = omega arith in subst (λ i. AllZip R (take i xs) (ys ++ y ∷ [])) n (subst (λ zs. AllZip R zs (ys ++ y ∷ [])) (sym (next_taken xs k x e)) (behind (take k xs) ys h))
  where
    behind : (us : List A) (vs : List B) → AllZip R us vs → AllZip R (us ++ x ∷ []) (vs ++ y ∷ [])
    behind [] [] h = (r, tt)
    behind [] (b ∷ vs) h = absurd h
    behind (a ∷ us) [] h = absurd h
    behind (a ∷ us) (b ∷ vs) h = (h.0, behind us vs h.1)

-- none is changed
pub changed_to_same : {A B : Type 0} (seen : A → B) (f : B → B) → ((y : B) → f y ≡ y) → (xs : List A) → map seen xs ≡ map f (map seen xs)
changed_to_same seen f same xs = sym (map_same f same (map seen xs))

-- where payloads stay, all does
pub payloads_stay : (l : Without) → leaves_payloads l ≡ false → (t : TrackHead) → track_payloads_left l t ≡ t
payloads_stay l e t =
    let h = or_is_false (l.labels || l.bitrates) l.ids e in
    let k = or_is_false l.labels l.bitrates h.0 in
    rw (k.0, k.1, h.1) refl
