-- How the map of `trex`es by their IDs is made, from the last one to the first.
use Rattle.std.proofs.Common.{◌≡◌, ℕ, suc, ◌+◌, ◌<◌, ◌==◌, Bool, true, false, cond, List, ◌∷◌, length, drop, Option, Some, refl, sym, ap, subst, ◌∙◌, arith}
use Rattle.std.specs.Prelude.{slice_index_or}
use Rattle.std.specs.BTreeMap.{BTreeMap, get, Updates}
use Rattle.std.specs.Ordering.{nat_cmp}
use Rattle.std.proofs.Math.Seq.{drop-cons}
use Rattle.mp4_present.proofs.TracksFound.{same_at}
use Rattle.mp4_frag.specs.format.FragmentSamples.{trex_for}
use Rattle.mp4_frag.specs.declared.trex.Trex.{Trex}

-- the map has those from a place on
abbrev pub AreTrexesFrom : List Trex → BTreeMap ℕ Trex → ℕ → Type 0
AreTrexesFrom trexes by_id k = (id : ℕ) → get nat_cmp by_id id ≡ trex_for (drop k trexes) id

-- of one more the first is that, if it has the ID
first_of : (t : Trex) (later : List Trex) (id : ℕ) → trex_for (t ∷ later) id ≡ cond (t.id == id) (Some t) (trex_for later id)
first_of t later id = by (t.id == id) refl
  where
    by : (v : Bool) → (t.id == id) ≡ v → trex_for (t ∷ later) id ≡ cond (t.id == id) (Some t) (trex_for later id)
    by true e = rw e refl
    by false e = rw e refl

pub trex_more : (trexes : List Trex) (old new : BTreeMap ℕ Trex) (k : ℕ) (d : Trex) → k < length trexes → AreTrexesFrom trexes old (k + 1) → Updates nat_cmp old new (slice_index_or trexes k d).id (Some (slice_index_or trexes k d)) → AreTrexesFrom trexes new k
trex_more trexes old new k d lt h u id =
    let t = slice_index_or trexes k d in
    let more : suc k ≡ k + 1 = omega arith in
    let here : drop k trexes ≡ t ∷ drop (suc k) trexes = drop-cons trexes k d lt in
    let later : get nat_cmp old id ≡ trex_for (drop (suc k) trexes) id = subst (λ (n : ℕ). get nat_cmp old id ≡ trex_for (drop n trexes) id) (sym more) (h id) in
    u.0 id ∙ ap (λ (v : Bool). cond v (Some t) (get nat_cmp old id)) (same_at t.id id) ∙ ap (λ (o : Option Trex). cond (t.id == id) (Some t) o) later
    ∙ sym (first_of t (drop (suc k) trexes) id) ∙ ap (λ (ts : List Trex). trex_for ts id) (sym here)
