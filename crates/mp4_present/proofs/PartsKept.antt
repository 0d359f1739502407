-- One more part keeps the rules of fragments, where it keeps them itself behind those before it.
use Rattle.std.proofs.Common.{◌≡◌, ℕ, zero, suc, ◌+◌, ◌<◌, ◌==◌, Bool, true, false, cond, List, [], ◌∷◌, ◌++◌, Option, Some, None, length, map, refl, sym, ap, ◌∙◌, rules}
use Rattle.std.specs.Prelude.{find, is_some, option_map, flat_map, slice_get}
use Rattle.std.proofs.lemmas.Option.{slice_get-map}
use Rattle.std.proofs.lemmas.Bool.{and_parts}
use Rattle.mp4_tables.specs.format.Groups.{GroupRule}
use Rattle.mp4_frag.specs.declared.trex.Trex.{Trex}
use Rattle.mp4_frag.specs.format.FragmentSamples.{Part, part_samples, parts_for, trex_for, start_of, duration_of, is_on_time, has_groups, keys_behind}
use Rattle.mp4_frag.specs.format.FragmentRules.{track_for, is_known, has_indexes}
use Rattle.mp4_frag.specs.words.Judged.{TrackSeen, IsPlacedWithin}
use Rattle.mp4_frag.proofs.SeenLists.{find_map, found_passes}
use Rattle.mp4_head.specs.format.Tree.{TrackTree, MovieTree, trexes_of, are_distinct}
use Rattle.mp4_present.specs.format.Denotes.{plain_of, plain_keys, track_infos}
use Rattle.mp4_present.specs.format.Stands.{AreConsistent}
use Rattle.mp4_present.specs.words.Passing.{seen_behind}
use Rattle.mp4_present.proofs.PartsBehind.{id_of, ids_of, own_more, ComesNext, IsTracked, indexes_same, part_passes}
use Rattle.mp4_present.proofs.TracksBehind.{start_came}

-- when a part of a track is due behind these
abbrev pub due_behind : TrackTree → List Part → Part → ℕ
due_behind t ps part = start_of (plain_of t) (parts_for part.id (ps ++ part ∷ [])) + duration_of (plain_of t) + duration_of (flat_map part_samples (parts_for part.id ps))

-- A part keeps the rules behind these: its track is there, and has a `trex`; its samples have descriptions and lie in the file; its `sbgp`s keep their rules; it is on time.
pub record IsKept (file : List ℕ) (movie : MovieTree) (ps : List Part) (part : Part) : Type 0 where
  pub track : TrackTree
  pub found : find (λ (t : TrackTree). id_of t == part.id) movie.tracks ≡ Some track
  pub known : is_known (track_infos movie) (trexes_of movie) part ≡ true
  pub indexes : has_indexes (track_infos movie) part ≡ true
  pub places : IsPlacedWithin (length file) part
  pub groups : (rule : GroupRule) (k : ℕ) → has_groups rule (keys_behind (plain_keys track) (parts_for part.id ps)) part k ≡ true
  pub time : is_on_time (due_behind track ps part) part ≡ true

-- what is found has a place
found_at : {A : Type 0} (p : A → Bool) (xs : List A) (x : A) → find p xs ≡ Some x → (k : ℕ) × (slice_get xs k ≡ Some x)
found_at p [] x e = absurd cc
found_at {A} p (y ∷ xs) x e = by (p y) e (found_at p xs x)
  where
    by : (v : Bool) → cond v (Some y) (find p xs) ≡ Some x → (find p xs ≡ Some x → (k : ℕ) × (slice_get xs k ≡ Some x)) → (k : ℕ) × (slice_get (y ∷ xs) k ≡ Some x)
    by true e more = (zero, e)
    by false e more = let r = more e in (suc r.0, r.1)

-- what is there is some value
some_there : {A : Type 0} (o : Option A) → is_some o ≡ true → (x : A) × (o ≡ Some x)
some_there None e = absurd cc
some_there (Some x) e = (x, refl)

module _ (file : List ℕ) (movie : MovieTree) (ps : List Part) (part : Part) (k : IsKept file movie ps part) where
  abbrev now : TrackSeen
  now = seen_behind movie ps k.track

  abbrev own : List Part
  own = parts_for (id_of k.track) ps

  same_id : id_of k.track ≡ part.id
  same_id =
      let passes : (id_of k.track == part.id) ≡ true = found_passes (λ (t : TrackTree). id_of t == part.id) movie.tracks k.track k.found in
      (let same : id_of k.track ≡ part.id = search rules in same)

  trex : (x : Trex) × (trex_for (trexes_of movie) part.id ≡ Some x)
  trex = some_there (trex_for (trexes_of movie) part.id) (and_parts (is_some (track_for (track_infos movie) part.id)) (is_some (trex_for (trexes_of movie) part.id)) k.known).1

  found_now : find (λ (s : TrackSeen). s.id == part.id) (map (seen_behind movie ps) movie.tracks) ≡ Some now
  found_now = find_map (seen_behind movie ps) (λ (s : TrackSeen). s.id == part.id) movie.tracks ∙ ap (option_map (seen_behind movie ps)) k.found

  is_tracked : IsTracked movie ps part.id now
  is_tracked = record { tree = k.track; among = k.found; seen = refl; same = same_id }

  -- on time, as the track counts
  timely : 0 < now.count → is_on_time now.time part ≡ true
  timely came =
      let start : start_of (plain_of k.track) (parts_for (id_of k.track) (ps ++ part ∷ [])) ≡ start_of (plain_of k.track) own = ap (start_of (plain_of k.track)) (own_more (id_of k.track) ps part same_id) ∙ start_came (plain_of k.track) own part came in
      let due : due_behind k.track ps part ≡ now.time =
      ap (λ (id : ℕ). start_of (plain_of k.track) (parts_for id (ps ++ part ∷ [])) + duration_of (plain_of k.track) + duration_of (flat_map part_samples (parts_for id ps))) (sym same_id)
      ∙ ap (λ (s : ℕ). s + duration_of (plain_of k.track) + duration_of (flat_map part_samples own)) start in
      ap (λ (n : ℕ). is_on_time n part) (sym due) ∙ k.time

  comes : (place : ℕ) → slice_get movie.tracks place ≡ Some k.track → ComesNext file part (map (seen_behind movie ps) movie.tracks) place now trex.0
  comes place e = record {
    found = found_now;
    there = slice_get-map (seen_behind movie ps) movie.tracks place ∙ ap (option_map (seen_behind movie ps)) e;
    defaults = ap (trex_for (trexes_of movie)) same_id ∙ trex.1;
    due = record {
      indexes = sym (indexes_same movie ps part now is_tracked) ∙ k.indexes;
      groups = λ rule i. ap (λ (id : ℕ). has_groups rule (keys_behind (plain_keys k.track) (parts_for id ps)) part i) same_id ∙ k.groups rule i;
      time = timely;
    };
    placed = k.places;
  }

-- where parts keep the rules, and one more does behind them, all do
pub consistent_more : (file : List ℕ) (movie : MovieTree) (ps : List Part) (part : Part) → are_distinct (ids_of movie.tracks) ≡ true → AreConsistent file movie ps → IsKept file movie ps part → AreConsistent file movie (ps ++ part ∷ [])
consistent_more file movie ps part distinct h k =
    let at = found_at (λ (t : TrackTree). id_of t == part.id) movie.tracks k.track k.found in
    (part_passes file movie ps (map (seen_behind movie ps) movie.tracks) part at.0 (now file movie ps part k) (trex file movie ps part k).0 distinct (record { consistent = h; tracks = refl }) (comes file movie ps part k at.0 at.1)).consistent
