-- Names of a list, put into a set one by one.
use Rattle.std.proofs.Common.{◌≡◌, ◌∙◌, ◌++◌, ◌+◌, ◌<◌, [], ◌∷◌, ℕ, List, Bool, true, cond, sym, ap, length, take, get_or}
use Rattle.std.specs.Prelude.{bytes_eq, filter, flat_map, not, Vec}
use Rattle.std.specs.declared.alloc.Global.{Global}
use Rattle.std.specs.Borrow.{Bor}
use Rattle.std.specs.BTreeSet.{BTreeSet, Updates, contains_by}
use Rattle.std.specs.Cmp.Lexicographic.{slice_cmp}
use Rattle.std.specs.Ordering.{nat_cmp}
use Rattle.std.proofs.lemmas.Grind.{flat_map-append}
use Rattle.std.proofs.lemmas.List.{map-append, take_more}
use Rattle.std.proofs.lemmas.List.Elements.{filter-append}
use Rattle.std.proofs.lemmas.List.Folds.{list_any-append}
use Rattle.std.proofs.lemmas.Map.Text.{is_eq-slice_cmp}
use Rattle.mp4_frag.proofs.Comings.{turned}
use Rattle.mp4_answers.specs.format.SumLines.{is_listed, name_line, new_text}
use Rattle.mp4_answers.specs.words.NameSets.{bytes_of, HasNames}
use Rattle.mp4_head.proofs.Taken.{or_of}

-- one more
pub more_names : (names : List (List ℕ)) (old new : BTreeSet (Bor (List ℕ))) (key : Bor (List ℕ)) → HasNames names old → Updates (λ (a b : Bor (List ℕ)). slice_cmp nat_cmp a.now b.now) old new key true → HasNames (names ++ key.now ∷ []) new
more_names names old new key h added name =
    let own : Bor (List ℕ) = record { ref_ptr = (0, 0); now = name } in
    added.0 own
    ∙ ap (λ (p : Bool). cond p true (is_found old)) (is_eq-slice_cmp key.now name ∙ turned key.now name)
    ∙ ap (cond (bytes_eq name key.now) true) (h name)
    ∙ or_of (bytes_eq name key.now) (is_listed names name)
    ∙ sym (list_any-append (bytes_eq name) names (key.now ∷ []))
  where
    is_found : BTreeSet (Bor (List ℕ)) → Bool
    is_found set = contains_by (λ (k : Bor (List ℕ)). slice_cmp nat_cmp name k.now) set

-- one name more, of a list of which so many were taken
pub one_taken : (names : List (Vec ℕ Global)) (k : ℕ) (d own : Vec ℕ Global) → k < length names → own ≡ get_or names k d → bytes_of (take (k + 1) names) ≡ bytes_of (take k names) ++ own.items ∷ []
one_taken names k d own lt is =
    ap bytes_of (take_more names k d lt)
    ∙ ap (λ (x : Vec ℕ Global). bytes_of (take k names ++ x ∷ [])) (sym is)
    ∙ map-append (λ (n : Vec ℕ Global). n.items) (take k names) (own ∷ [])

-- the lines of names behind others
pub new_behind : (listed : List (List ℕ)) (end : ℕ) (xs ys : List (List ℕ)) → new_text listed end (xs ++ ys) ≡ new_text listed end xs ++ new_text listed end ys
new_behind listed end xs ys =
    ap (flat_map (name_line end)) (filter-append (λ name. not (is_listed listed name)) xs ys)
    ∙ flat_map-append (name_line end) (filter (λ name. not (is_listed listed name)) xs) (filter (λ name. not (is_listed listed name)) ys)
