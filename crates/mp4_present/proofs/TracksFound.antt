-- A track found by the map of all IDs.
use Rattle.std.proofs.Common.{◌≡◌, ℕ, zero, suc, ◌+◌, ◌<◌, ◌==◌, Bool, true, false, cond, List, [], ◌∷◌, length, drop, Option, Some, None, refl, sym, ap, subst, ◌∙◌, rules, arith}
use Rattle.std.specs.Prelude.{nat_lt, slice_index_or}
use Rattle.std.specs.BTreeMap.{BTreeMap, get, is_at, Updates}
use Rattle.std.specs.Ordering.{nat_cmp}
use Rattle.std.proofs.Math.Seq.{drop-cons}
use Rattle.std.proofs.lemmas.List.{length-map}
use Rattle.mp4_frag.specs.words.Finding.{IsFirstWith, track_with}
use Rattle.mp4_present.specs.words.TrackPlaces.{place_from}
use Rattle.mp4_frag.specs.words.Noted.{ids_of}
use Rattle.mp4_frag.specs.declared.state.TrackState.{TrackState}
use Rattle.mp4_frag.proofs.NamesKept.{some_is}

-- ---- what is found

-- where an ID is found among those of tracks that begin at a place
record FoundAt (tracks : List TrackState) (id at place : ℕ) : Type 0 where
  pub behind : ℕ
  pub place_is : place ≡ at + behind
  pub inside : behind < length tracks
  pub there : IsFirstWith tracks id behind

found_from : (id at place : ℕ) (tracks : List TrackState) → place_from id at (ids_of tracks) ≡ Some place → FoundAt tracks id at place
found_from id at place [] e = absurd cc
found_from id at place (t ∷ tracks) e = by (t.id == id) refl e (λ f. found_from id (suc at) place tracks f)
  where
    by : (v : Bool) → (t.id == id) ≡ v → cond v (Some at) (place_from id (suc at) (ids_of tracks)) ≡ Some place → (place_from id (suc at) (ids_of tracks) ≡ Some place → FoundAt tracks id (suc at) place) → FoundAt (t ∷ tracks) id at place
    by true g f later =
        let same = some_is at place f in
        record { behind = 0; place_is = omega (arith, same); inside = omega arith; there = record { found = rw g refl; first = refl } }
    by false g f later =
        let r = later f in
        let place_is = r.place_is in
        let inside = r.inside in
        record { behind = suc r.behind; place_is = omega (arith, place_is); inside = omega (arith, inside); there = record { found = rw g r.there.found; first = rw g r.there.first } }

module _ (id place : ℕ) (tracks : List TrackState) (e : place_from id 0 (ids_of tracks) ≡ Some place) where
  pub found_inside : place < length tracks
  found_inside =
      let r = found_from id 0 place tracks e in
      let same = r.place_is in
      let inside = r.inside in
      omega (arith, same, inside)

  pub found_there : IsFirstWith tracks id place
  found_there =
      let r = found_from id 0 place tracks e in
      let same = r.place_is in
      let there : r.behind ≡ place = omega (arith, same) in
      subst (IsFirstWith tracks id) there r.there

none_from : (id at : ℕ) (tracks : List TrackState) → place_from id at (ids_of tracks) ≡ None → track_with id tracks ≡ None
none_from id at [] e = refl
none_from id at (t ∷ tracks) e = by (t.id == id) refl e (λ f. none_from id (suc at) tracks f)
  where
    by : (v : Bool) → (t.id == id) ≡ v → cond v (Some at) (place_from id (suc at) (ids_of tracks)) ≡ None → (place_from id (suc at) (ids_of tracks) ≡ None → track_with id tracks ≡ None) → track_with id (t ∷ tracks) ≡ None
    by true g f later = absurd cc
    by false g f later = rw g (later f)

pub found_none : (id : ℕ) (tracks : List TrackState) → place_from id 0 (ids_of tracks) ≡ None → track_with id tracks ≡ None
found_none id tracks e = none_from id 0 tracks e

-- ---- how the map is made, from the last track to the first

-- the map has the IDs from a place on
abbrev pub ArePlacesFrom : List ℕ → BTreeMap ℕ ℕ → ℕ → Type 0
ArePlacesFrom ids places k = (id : ℕ) → get nat_cmp places id ≡ place_from id k (drop k ids)

pub same_at : (x y : ℕ) → is_at (nat_cmp x) y ≡ (x == y)
same_at x y = by (nat_lt x y) (x == y) refl refl
  where
    by : (u v : Bool) → nat_lt x y ≡ u → (x == y) ≡ v → is_at (nat_cmp x) y ≡ (x == y)
    by true true e f = absurd (search rules)
    by true false e f = rw (e, f) refl
    by false true e f = rw (e, f) refl
    by false false e f = rw (e, f) refl

pub one_more : (ids : List ℕ) (old new : BTreeMap ℕ ℕ) (k d : ℕ) → k < length ids → ArePlacesFrom ids old (k + 1) → Updates nat_cmp old new (slice_index_or ids k d) (Some k) → ArePlacesFrom ids new k
one_more ids old new k d lt h u id =
    let i = slice_index_or ids k d in
    let more : suc k ≡ k + 1 = omega arith in
    let here : drop k ids ≡ i ∷ drop (suc k) ids = drop-cons ids k d lt in
    let later : get nat_cmp old id ≡ place_from id (suc k) (drop (suc k) ids) = subst (λ (n : ℕ). get nat_cmp old id ≡ place_from id n (drop n ids)) (sym more) (h id) in
    u.0 id ∙ ap (λ (v : Bool). cond v (Some k) (get nat_cmp old id)) (same_at i id) ∙ ap (λ (o : Option ℕ). cond (i == id) (Some k) o) later ∙ ap (place_from id k) (sym here)

-- the ID of the track at a place
id_at : (tracks : List TrackState) (k : ℕ) (d : TrackState) → slice_index_or (ids_of tracks) k d.id ≡ (slice_index_or tracks k d).id
id_at [] k d = refl
id_at (t ∷ tracks) zero d = refl
id_at (t ∷ tracks) (suc k) d = id_at tracks k d

pub track_more : (tracks : List TrackState) (old new : BTreeMap ℕ ℕ) (k : ℕ) (t : TrackState) → k < length tracks → t ≡ slice_index_or tracks k t → ArePlacesFrom (ids_of tracks) old (k + 1) → Updates nat_cmp old new t.id (Some k) → ArePlacesFrom (ids_of tracks) new k
track_more tracks old new k t lt is h u =
    let same : t.id ≡ slice_index_or (ids_of tracks) k t.id = ap (λ (s : TrackState). s.id) is ∙ sym (id_at tracks k t) in
    let long : k < length (ids_of tracks) = subst (λ (n : ℕ). k < n) (sym (length-map tracks (λ (s : TrackState). s.id))) lt in
    one_more (ids_of tracks) old new k t.id long h (subst (λ (i : ℕ). Updates nat_cmp old new i (Some k)) same u)
