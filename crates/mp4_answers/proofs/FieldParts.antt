-- Parts of the fields of boxes, in a text.
use Rattle.std.proofs.Common.{◌≡◌, ℕ, ◌+◌, ◌*◌, suc, ◌∷◌, [], ◌++◌, ◌∙◌, List, ap, append_assoc, arith, replicate, Result, Ok, Err, subst, sym, Option, Some, None, IfSome, option_map, Bool, true, false, rules}
use Rattle.std.specs.Prelude.{OnOk, if◌then◌else◌, bytes_eq, nat_lt}
use Rattle.std.specs.Fmt.{signed_decimal}
use Rattle.mp4_boxes.specs.format.Bytes.{signed_field}
use Rattle.mp4_answers.specs.format.FieldTexts.{numbers_of}
use Rattle.std.specs.List.{AllByRecursion}
use Rattle.std.specs.Option.{option_or}
use Rattle.std.proofs.lemmas.List.{replicate-append-replicate}
use Rattle.mp4_answers.specs.declared.layouts.Layout.{Layout as TableLayout}
use Rattle.mp4_answers.specs.format.Layouts.{Layout, first_of, layout_of, of_file, of_fragment, of_media, of_movie, of_places, of_samples, of_track}
use Rattle.mp4_answers.specs.words.LayoutsSeen.{AreFew, layout_seen}
use Rattle.mp4_plan.proofs.Pushes.{behind}

-- two more spaces
pub more_spaces : (k : ℕ) (old text new : List ℕ) → text ≡ old ++ replicate (2 * k) 32 → new ≡ text ++ 32 ∷ 32 ∷ [] → new ≡ old ++ replicate (2 * (k + 1)) 32
more_spaces k old text new p q =
    let n : 2 * k + 2 ≡ 2 * (k + 1) = omega arith in
    behind old text new (replicate (2 * k) 32) (32 ∷ 32 ∷ []) p q ∙ ap (λ (xs : List ℕ). old ++ xs) (replicate-append-replicate (2 * k) 2 32 ∙ ap (λ (m : ℕ). replicate m 32) n)

-- what follows from a fact at Ok is one at Ok
pub on_ok : {T E P Q : Type 0} (r : Result T E) → (P → Q) → OnOk r P → OnOk r Q
on_ok (Ok x) f p = f p
on_ok (Err e) f p = tt

-- ---- matrices

-- one number more
pub numbers_more : (sep : List ℕ) (k : ℕ) (bytes : List ℕ) → numbers_of sep (suc k) bytes ≡ numbers_of sep k bytes ++ ((if nat_lt 0 k then sep else []) ++ signed_decimal (signed_field bytes (4 * k) 4))
numbers_more sep k bytes = append_assoc (numbers_of sep k bytes) (if nat_lt 0 k then sep else []) (signed_decimal (signed_field bytes (4 * k) 4))

pub numbers_next : (sep : List ℕ) (k : ℕ) (bytes old text new : List ℕ) → text ≡ old ++ numbers_of sep k bytes → new ≡ text ++ ((if nat_lt 0 k then sep else []) ++ signed_decimal (signed_field bytes (4 * k) 4))
    → new ≡ old ++ numbers_of sep (k + 1) bytes
numbers_next sep k bytes old text new p q =
    let next : suc k ≡ k + 1 = omega arith in
    behind old text new (numbers_of sep k bytes) _ p q ∙ ap (λ (xs : List ℕ). old ++ xs) (sym (numbers_more sep k bytes) ∙ ap (λ (n : ℕ). numbers_of sep n bytes) next)

-- ---- few fields

chosen : (b : Bool) (l : Layout) (first other : Option Layout) → AreFew l → IfSome (option_or first other) AreFew → IfSome (option_or (if b then Some l else first) other) AreFew
chosen true l first other f h = f
chosen false l first other f h = h

found_few : (kind : List ℕ) (all : List Layout) (other : Option Layout) → AllByRecursion AreFew all → IfSome other AreFew → IfSome (option_or (first_of kind all) other) AreFew
found_few kind [] other all h = h
found_few kind (l ∷ more) other all h = chosen (bytes_eq l.kind kind) l (first_of kind more) other all.0 (found_few kind more other all.1 h)

layout_few : (kind : List ℕ) → IfSome (layout_of kind) AreFew
layout_few kind = found_few kind of_file _ (search rules) (found_few kind of_movie _ (search rules) (found_few kind of_track _ (search rules) (found_few kind of_media _ (search rules) (found_few kind of_samples _ (search rules)
    (found_few kind of_places _ (search rules) (found_few kind of_fragment None (search rules) tt))))))

seen_few : (r : Option TableLayout) (o : Option Layout) → option_map layout_seen r ≡ o → IfSome o AreFew → IfSome r (λ l. AreFew (layout_seen l))
seen_few None o e h = tt
seen_few (Some l) o e h = subst (λ (x : Option Layout). IfSome x AreFew) (sym e) h

pub few_seen : (kind : List ℕ) (r : Option TableLayout) → option_map layout_seen r ≡ layout_of kind → IfSome r (λ l. AreFew (layout_seen l))
few_seen kind r e = seen_few r (layout_of kind) e (layout_few kind)
