-- The tracks of a movie and the rules of fragments behind one more part.
use Rattle.std.proofs.Common.{◌≡◌, ℕ, zero, suc, ◌+◌, ◌==◌, ◌&&◌, ◌||◌, Bool, true, false, List, [], ◌∷◌, ◌++◌, Option, Some, length, map, refl, sym, ap, subst, ◌∙◌, rules, slice_set}
use Rattle.std.specs.Prelude.{find, not, nat_eq, IsTrue, is_some, unwrap_or, option_map, slice_get}
use Rattle.std.specs.List.{AllByRecursion, list_any, list_all}
use Rattle.std.proofs.lemmas.Option.{slice_get-map}
use Rattle.std.proofs.lemmas.Bool.{and_parts}
use Rattle.std.proofs.lemmas.List.{append-nil}
use Rattle.mp4_tables.specs.format.TableRules.{is_index}
use Rattle.mp4_frag.specs.declared.trex.Trex.{Trex}
use Rattle.mp4_frag.specs.format.FragmentSamples.{Part, part_samples, parts_for, trex_for, start_of, duration_of, AreOnTime, AreGrouped}
use Rattle.mp4_frag.specs.format.FragmentRules.{TrackFacts, track_for, is_known, has_indexes, is_within}
use Rattle.mp4_frag.specs.words.Judged.{TrackSeen, track_behind, IsDue, IsPlacedWithin}
use Rattle.mp4_frag.proofs.SeenLists.{find_map, found_passes}
use Rattle.mp4_head.specs.format.Head.{TrackHead}
use Rattle.mp4_head.specs.format.Tree.{TrackTree, MovieTree, track_head_of, trexes_of, are_distinct}
use Rattle.mp4_present.specs.format.Denotes.{plain_of, plain_keys, track_infos}
use Rattle.mp4_present.specs.format.Stands.{AreConsistent}
use Rattle.mp4_present.specs.words.Passing.{seen_behind}
use Rattle.mp4_present.proofs.FragmentReasons.{for-append}
use Rattle.mp4_present.proofs.PlainLists.{all_push}
use Rattle.mp4_present.proofs.TracksBehind.{seen_after, track_more, grouped_more, times_more}
use Rattle.mp4_boxes.proofs.Plain.{eq_other, map_some, not_is_true, some_is}

-- ---- tracks of distinct IDs

abbrev pub id_of : TrackTree → ℕ
id_of t = (track_head_of t).id

abbrev pub ids_of : List TrackTree → List ℕ
ids_of tracks = map (λ (h : TrackHead). h.id) (map track_head_of tracks)

-- none of them has this ID
abbrev AreOthers : ℕ → List TrackTree → Type 0
AreOthers id tracks = AllByRecursion (λ (t : TrackTree). (id == id_of t) ≡ false) tracks

none_any : (n : ℕ) (tracks : List TrackTree) → list_any (nat_eq n) (ids_of tracks) ≡ false → AreOthers n tracks
none_any n [] e = tt
none_any n (t ∷ tracks) e = choice (nat_eq n (id_of t)) refl e (λ h. none_any n tracks h)
  where
    choice : (v : Bool) → nat_eq n (id_of t) ≡ v → (v || list_any (nat_eq n) (ids_of tracks)) ≡ false → (list_any (nat_eq n) (ids_of tracks) ≡ false → AreOthers n tracks) → AreOthers n (t ∷ tracks)
    choice true h e later = absurd cc
    choice false h e later = (h, later e)

distinct_first : (t : TrackTree) (tracks : List TrackTree) → are_distinct (ids_of (t ∷ tracks)) ≡ true → AreOthers (id_of t) tracks × (are_distinct (ids_of tracks) ≡ true)
distinct_first t tracks e =
    let both = and_parts (not (list_any (nat_eq (id_of t)) (ids_of tracks))) (are_distinct (ids_of tracks)) e in
    (none_any (id_of t) tracks (not_is_true (list_any (nat_eq (id_of t)) (ids_of tracks)) both.0), both.1)

other_at : (id : ℕ) (tracks : List TrackTree) (k : ℕ) (t : TrackTree) → AreOthers id tracks → slice_get tracks k ≡ Some t → (id == id_of t) ≡ false
other_at id [] k t h e = absurd cc
other_at id (u ∷ tracks) zero t h e = ap (λ (v : TrackTree). id == id_of v) (sym (some_is u t e)) ∙ h.0
other_at id (u ∷ tracks) (suc k) t h e = other_at id tracks k t h.1 e

-- what follows for the one track of an ID, and for the others, holds of all
one_and_others : (P Q : TrackTree → Type 0) (id : ℕ) (tracks : List TrackTree) (k : ℕ) (t : TrackTree) → are_distinct (ids_of tracks) ≡ true → slice_get tracks k ≡ Some t → id_of t ≡ id
    → (P t → Q t) → ((u : TrackTree) → (id == id_of u) ≡ false → P u → Q u) → AllByRecursion P tracks → AllByRecursion Q tracks
one_and_others P Q id [] k t d e same own others h = tt
one_and_others P Q id (u ∷ tracks) zero t d e same own others h =
    let is = some_is u t e in
    let first = distinct_first u tracks d in
    let apart : AreOthers id tracks = subst (λ n. AreOthers n tracks) (ap id_of is ∙ same) first.0 in
    (subst Q (sym is) (own (subst P is h.0)), all_others tracks apart h.1)
  where
    all_others : (us : List TrackTree) → AreOthers id us → AllByRecursion P us → AllByRecursion Q us
    all_others [] a h = tt
    all_others (v ∷ us) a h = (others v a.0 h.0, all_others us a.1 h.1)
one_and_others P Q id (u ∷ tracks) (suc k) t d e same own others h =
    let first = distinct_first u tracks d in
    let apart : (id == id_of u) ≡ false = eq_other (id_of u) id (ap (λ n. id_of u == n) (sym same) ∙ other_at (id_of u) tracks k t first.0 e) in
    (others u apart h.0, one_and_others P Q id tracks k t first.1 e same own others h.1)

-- ---- the tracks

for_hit : (id : ℕ) (c : Part) → (c.id == id) ≡ true → parts_for id (c ∷ []) ≡ c ∷ []
for_hit id c e = rw e refl

for_miss : (id : ℕ) (c : Part) → (c.id == id) ≡ false → parts_for id (c ∷ []) ≡ []
for_miss id c e = rw e refl

itself : (m n : ℕ) → m ≡ n → (n == m) ≡ true
itself m n e = search rules

pub own_more : (id : ℕ) (ps : List Part) (part : Part) → id ≡ part.id → parts_for id (ps ++ part ∷ []) ≡ parts_for id ps ++ part ∷ []
own_more id ps part e = for-append id ps (part ∷ []) ∙ ap (λ (qs : List Part). parts_for id ps ++ qs) (for_hit id part (itself id part.id e))

other_more : (id : ℕ) (ps : List Part) (part : Part) → (part.id == id) ≡ false → parts_for id (ps ++ part ∷ []) ≡ parts_for id ps
other_more id ps part e = for-append id ps (part ∷ []) ∙ ap (λ (qs : List Part). parts_for id ps ++ qs) (for_miss id part e) ∙ append-nil (parts_for id ps)

-- a track of the movie behind parts of its own
abbrev tree_after : MovieTree → TrackTree → List Part → TrackSeen
tree_after movie t own = seen_after (id_of t) (length t.descriptions) (trex_for (trexes_of movie) (id_of t)) (plain_of t) (plain_keys t) own

seen_more : (movie : MovieTree) (ps : List Part) (part : Part) (t : TrackTree) → id_of t ≡ part.id → track_behind (seen_behind movie ps t) part ≡ seen_behind movie (ps ++ part ∷ []) t
seen_more movie ps part t e =
    track_more (id_of t) (length t.descriptions) (trex_for (trexes_of movie) (id_of t)) (plain_of t) (plain_keys t) (parts_for (id_of t) ps) part
    ∙ sym (ap (tree_after movie t) (own_more (id_of t) ps part e))

seen_other : (movie : MovieTree) (ps : List Part) (part : Part) (t : TrackTree) → (part.id == id_of t) ≡ false → seen_behind movie ps t ≡ seen_behind movie (ps ++ part ∷ []) t
seen_other movie ps part t e = sym (ap (tree_after movie t) (other_more (id_of t) ps part e))

others_seen : (movie : MovieTree) (ps : List Part) (part : Part) (tracks : List TrackTree) → AreOthers part.id tracks → map (seen_behind movie ps) tracks ≡ map (seen_behind movie (ps ++ part ∷ [])) tracks
others_seen movie ps part [] h = refl
others_seen movie ps part (u ∷ tracks) h = λ i. seen_other movie ps part u h.0 i ∷ others_seen movie ps part tracks h.1 i

all_seen : (movie : MovieTree) (ps : List Part) (part : Part) (tracks : List TrackTree) (k : ℕ) (t : TrackTree) → are_distinct (ids_of tracks) ≡ true → slice_get tracks k ≡ Some t → id_of t ≡ part.id
    → slice_set (map (seen_behind movie ps) tracks) k (track_behind (seen_behind movie ps t) part) ≡ map (seen_behind movie (ps ++ part ∷ [])) tracks
all_seen movie ps part [] k t d e same = absurd cc
all_seen movie ps part (u ∷ tracks) zero t d e same =
    let is = some_is u t e in
    let first = distinct_first u tracks d in
    let apart : AreOthers part.id tracks = subst (λ n. AreOthers n tracks) (ap id_of is ∙ same) first.0 in
    let here : track_behind (seen_behind movie ps t) part ≡ seen_behind movie (ps ++ part ∷ []) u = seen_more movie ps part t same ∙ ap (seen_behind movie (ps ++ part ∷ [])) (sym is) in
    λ i. here i ∷ others_seen movie ps part tracks apart i
all_seen movie ps part (u ∷ tracks) (suc k) t d e same =
    let first = distinct_first u tracks d in
    let apart : (part.id == id_of u) ≡ false = eq_other (id_of u) part.id (ap (λ n. id_of u == n) (sym same) ∙ other_at (id_of u) tracks k t first.0 e) in
    λ i. seen_other movie ps part u apart i ∷ all_seen movie ps part tracks k t first.1 e same i

-- ---- what is known behind some parts

-- the parts keep the rules, and these are the tracks behind them
pub record HavePassed (file : List ℕ) (movie : MovieTree) (ps : List Part) (seen : List TrackSeen) : Type 0 where
  pub consistent : AreConsistent file movie ps
  pub tracks : seen ≡ map (seen_behind movie ps) movie.tracks

-- a part of the track at a place, which keeps the rules behind those before it
pub record ComesNext (file : List ℕ) (part : Part) (seen : List TrackSeen) (place : ℕ) (now : TrackSeen) (trex : Trex) : Type 0 where
  pub found : find (λ (s : TrackSeen). s.id == part.id) seen ≡ Some now
  pub there : slice_get seen place ≡ Some now
  pub defaults : now.trex ≡ Some trex
  pub due : IsDue now part
  pub placed : IsPlacedWithin (length file) part

-- the track that is found is one of the movie, as it is behind the parts
pub record IsTracked (movie : MovieTree) (ps : List Part) (id : ℕ) (now : TrackSeen) : Type 0 where
  pub tree : TrackTree
  pub among : find (λ (t : TrackTree). id_of t == id) movie.tracks ≡ Some tree
  pub seen : seen_behind movie ps tree ≡ now
  pub same : id_of tree ≡ id

pub tracked : (movie : MovieTree) (ps : List Part) (id : ℕ) (seen : List TrackSeen) (now : TrackSeen) → seen ≡ map (seen_behind movie ps) movie.tracks → find (λ (s : TrackSeen). s.id == id) seen ≡ Some now → IsTracked movie ps id now
tracked movie ps id seen now e f =
    let p = λ (s : TrackSeen). s.id == id in
    let r = map_some (seen_behind movie ps) (find (λ (t : TrackTree). id_of t == id) movie.tracks) now (sym (find_map (seen_behind movie ps) p movie.tracks) ∙ sym (ap (find p) e) ∙ f) in
    let passes : (id_of r.0 == id) ≡ true = found_passes (λ (t : TrackTree). id_of t == id) movie.tracks r.0 r.1 in
    record { tree = r.0; among = r.1; seen = r.2; same = (let same : id_of r.0 ≡ id = search rules in same) }

-- so its ID and its descriptions are known
pub track_known : (movie : MovieTree) (ps : List Part) (id : ℕ) (now : TrackSeen) → (t : IsTracked movie ps id now) → track_for (track_infos movie) id ≡ Some (record { id = id_of t.tree; descriptions = now.descriptions })
track_known movie ps id now t =
    find_map (λ (u : TrackTree). record { id = id_of u; descriptions = length u.descriptions }) (λ (i : TrackFacts). i.id == id) movie.tracks
    ∙ ap (option_map (λ (u : TrackTree). record { id = id_of u; descriptions = length u.descriptions })) t.among
    ∙ (λ i. Some (record { id = id_of t.tree; descriptions = (t.seen i).descriptions }))

pub trex_known : (movie : MovieTree) (ps : List Part) (id : ℕ) (now : TrackSeen) (trex : Trex) → IsTracked movie ps id now → now.trex ≡ Some trex → trex_for (trexes_of movie) id ≡ Some trex
trex_known movie ps id now trex t e = ap (trex_for (trexes_of movie)) (sym t.same) ∙ ap (λ (s : TrackSeen). s.trex) t.seen ∙ e

pub part_known : (movie : MovieTree) (ps : List Part) (part : Part) (now : TrackSeen) (trex : Trex) → IsTracked movie ps part.id now → now.trex ≡ Some trex → is_known (track_infos movie) (trexes_of movie) part ≡ true
part_known movie ps part now trex t e = λ i. is_some (track_known movie ps part.id now t i) && is_some (trex_known movie ps part.id now trex t e i)

-- the test of its indexes is that by its descriptions
pub indexes_same : (movie : MovieTree) (ps : List Part) (part : Part) (now : TrackSeen) → IsTracked movie ps part.id now
    → has_indexes (track_infos movie) part ≡ list_all (λ s. is_index now.descriptions s.description) (part_samples part)
indexes_same movie ps part now t = ap (λ (o : Option TrackFacts). list_all (λ s. is_index (unwrap_or (option_map (λ (track : TrackFacts). track.descriptions) o) 0) s.description) (part_samples part)) (track_known movie ps part.id now t)

-- the tree at the place of the track
track_at : (movie : MovieTree) (ps : List Part) (seen : List TrackSeen) (place : ℕ) (now : TrackSeen) → seen ≡ map (seen_behind movie ps) movie.tracks → slice_get seen place ≡ Some now
    → (t : TrackTree) × (slice_get movie.tracks place ≡ Some t) × (seen_behind movie ps t ≡ now)
track_at movie ps seen place now e f = map_some (seen_behind movie ps) (slice_get movie.tracks place) now (sym (slice_get-map (seen_behind movie ps) movie.tracks place) ∙ sym (ap (λ (ss : List TrackSeen). slice_get ss place) e) ∙ f)

module _ (file : List ℕ) (movie : MovieTree) (ps : List Part) (seen : List TrackSeen) (part : Part) (place : ℕ) (now : TrackSeen) (trex : Trex)
    (distinct : are_distinct (ids_of movie.tracks) ≡ true) (h : HavePassed file movie ps seen) (c : ComesNext file part seen place now trex) where
  own_id : (t : TrackTree) → seen_behind movie ps t ≡ now → id_of t ≡ part.id
  own_id t e =
      let passes : (now.id == part.id) ≡ true = found_passes (λ (s : TrackSeen). s.id == part.id) seen now c.found in
      let same : now.id ≡ part.id = search rules in
      ap (λ (s : TrackSeen). s.id) e ∙ same

  tracks_with : slice_set seen place (track_behind now part) ≡ map (seen_behind movie (ps ++ part ∷ [])) movie.tracks
  tracks_with =
      let r = track_at movie ps seen place now h.tracks c.there in
      (λ i. slice_set (h.tracks i) place (track_behind (sym r.2 i) part)) ∙ all_seen movie ps part movie.tracks place r.0 distinct r.1 (own_id r.0 r.2)

  groups_with : AllByRecursion (λ (t : TrackTree). AreGrouped (plain_keys t) (parts_for (id_of t) (ps ++ part ∷ []))) movie.tracks
  groups_with =
      let r = track_at movie ps seen place now h.tracks c.there in
      let t = r.0 in
      let own = λ (g : AreGrouped (plain_keys t) (parts_for (id_of t) ps)). subst (AreGrouped (plain_keys t)) (sym (own_more (id_of t) ps part (own_id t r.2)))
      (grouped_more (plain_keys t) (parts_for (id_of t) ps) part g (subst (λ (s : TrackSeen). IsDue s part) (sym r.2) c.due).groups) in
      one_and_others (λ (u : TrackTree). AreGrouped (plain_keys u) (parts_for (id_of u) ps)) (λ (u : TrackTree). AreGrouped (plain_keys u) (parts_for (id_of u) (ps ++ part ∷ []))) part.id movie.tracks place t distinct r.1 (own_id t r.2)
      own (λ u e g. subst (AreGrouped (plain_keys u)) (sym (other_more (id_of u) ps part e)) g) h.consistent.groups

  times_with : AllByRecursion (λ (t : TrackTree). AreOnTime (start_of (plain_of t) (parts_for (id_of t) (ps ++ part ∷ [])) + duration_of (plain_of t)) (parts_for (id_of t) (ps ++ part ∷ []))) movie.tracks
  times_with =
      let r = track_at movie ps seen place now h.tracks c.there in
      let t = r.0 in
      let own = λ (g : AreOnTime (start_of (plain_of t) (parts_for (id_of t) ps) + duration_of (plain_of t)) (parts_for (id_of t) ps)).
      subst (λ (qs : List Part). AreOnTime (start_of (plain_of t) qs + duration_of (plain_of t)) qs) (sym (own_more (id_of t) ps part (own_id t r.2)))
      (times_more (plain_of t) (parts_for (id_of t) ps) part g (subst (λ (s : TrackSeen). IsDue s part) (sym r.2) c.due).time) in
      one_and_others (λ (u : TrackTree). AreOnTime (start_of (plain_of u) (parts_for (id_of u) ps) + duration_of (plain_of u)) (parts_for (id_of u) ps))
      (λ (u : TrackTree). AreOnTime (start_of (plain_of u) (parts_for (id_of u) (ps ++ part ∷ [])) + duration_of (plain_of u)) (parts_for (id_of u) (ps ++ part ∷ []))) part.id movie.tracks place t distinct r.1 (own_id t r.2)
      own (λ u e g. subst (λ (qs : List Part). AreOnTime (start_of (plain_of u) qs + duration_of (plain_of u)) qs) (sym (other_more (id_of u) ps part e)) g) h.consistent.times

-- one more part
pub part_passes : (file : List ℕ) (movie : MovieTree) (ps : List Part) (seen : List TrackSeen) (part : Part) (place : ℕ) (now : TrackSeen) (trex : Trex) → are_distinct (ids_of movie.tracks) ≡ true → HavePassed file movie ps seen
    → ComesNext file part seen place now trex → HavePassed file movie (ps ++ part ∷ []) (slice_set seen place (track_behind now part))
part_passes file movie ps seen part place now trex distinct h c =
    let t = tracked movie ps part.id seen now h.tracks c.found in
    record {
      consistent = record {
        known = all_push (λ (q : Part). IsTrue (is_known (track_infos movie) (trexes_of movie) q)) ps part h.consistent.known (part_known movie ps part now trex t c.defaults);
        indexes = all_push (λ (q : Part). IsTrue (has_indexes (track_infos movie) q)) ps part h.consistent.indexes (indexes_same movie ps part now t ∙ c.due.indexes);
        places = all_push (λ (q : Part). AllByRecursion (λ run. IsTrue (is_within (length file) run)) q.runs) ps part h.consistent.places c.placed;
        groups = groups_with file movie ps seen part place now trex distinct h c;
        times = times_with file movie ps seen part place now trex distinct h c;
      };
      tracks = tracks_with file movie ps seen part place now trex distinct h c;
    }
