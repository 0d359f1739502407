-- Each `moof` of an opened file is sound by what was known of its tracks: as they are behind their tables.
use Rattle.std.proofs.Common.{◌≡◌, ℕ, ◌^◌, ◌<◌, ◌==◌, Bool, true, false, cond, List, [], ◌∷◌, ◌++◌, Some, None, length, map, refl, sym, ap, subst, ◌∙◌}
use Rattle.std.specs.Prelude.{find, option_map, unwrap_or, is_some, IsTrue}
use Rattle.std.specs.List.{AllByRecursion}
use Rattle.std.proofs.lemmas.Bool.{eqb-true, and_parts}
use Rattle.mp4_boxes.proofs.Among.{all_at}
use Rattle.mp4_boxes.proofs.Joined.{all_first, all_last}
use Rattle.mp4_boxes.proofs.Plain.{head_is, tail_is}
use Rattle.mp4_tables.specs.format.Groups.{GroupKey, keys_after}
use Rattle.mp4_frag.specs.format.Fragments.{FragmentTree, IsFragmentTree, fragment_of}
use Rattle.mp4_frag.specs.format.FragmentSamples.{Part, parts_of, parts_for, trex_for, AreGrouped}
use Rattle.mp4_frag.specs.format.FragmentRules.{TrackFacts, track_for, is_known, is_within}
use Rattle.mp4_frag.specs.words.Judged.{AreTrexesOf, IsSoundMoof, IsGrouped, IsPlacedWithin, TrackSeen, track_seen, is_known_among}
use Rattle.mp4_frag.specs.words.Walks.{trex_among}
use Rattle.mp4_frag.specs.declared.state.TrackState.{TrackState}
use Rattle.mp4_frag.specs.declared.trex.Trex.{Trex}
use Rattle.mp4_head.specs.format.Tree.{TrackTree, track_head_of, trexes_of}
use Rattle.mp4_present.specs.format.Denotes.{FileTree, IsConsistent, IsSoundFragment, track_infos, file_parts, parts_of_track, plain_keys}
use Rattle.mp4_present.specs.words.Passing.{parts_behind}
use Rattle.mp4_present.specs.words.Movies.{MovieSeen}
use Rattle.mp4_present.specs.words.OpenedMovie.{CanHandOut, IsOpenedAs, plain_seen}
use Rattle.mp4_present.proofs.DueBehind.{parts_more}
use Rattle.mp4_boxes.proofs.Each.{each_weaker as each_turned}

abbrev id_of : TrackTree → ℕ
id_of t = (track_head_of t).id

-- ---- what fragments of a track inherit

abbrev infos_of : List TrackTree → List TrackFacts
infos_of tracks = map (λ (t : TrackTree). record { id = id_of t; descriptions = length t.descriptions }) tracks

module _ (trexes : List Trex) where
  -- they are those of the `trex` of its ID
  pub kept_trexes : (ss : List TrackState) (tracks : List TrackTree) → map track_seen ss ≡ map (plain_seen trexes) tracks → AreTrexesOf trexes ss
  kept_trexes [] tracks e = tt
  kept_trexes (s ∷ ss) [] e = absurd cc
  kept_trexes (s ∷ ss) (u ∷ tracks) e =
      let same = head_is (track_seen s) (plain_seen trexes u) (map track_seen ss) (map (plain_seen trexes) tracks) e in (
        ap (λ (x : TrackSeen). x.trex) same ∙ ap (λ n. trex_for trexes n) (sym (ap (λ (x : TrackSeen). x.id) same)),
        kept_trexes ss tracks (tail_is (track_seen s) (plain_seen trexes u) (map track_seen ss) (map (plain_seen trexes) tracks) e),
      )

  -- a track that is there is found with its `trex`
  among_is : (id : ℕ) (ss : List TrackState) (tracks : List TrackTree) → map track_seen ss ≡ map (plain_seen trexes) tracks → is_some (track_for (infos_of tracks) id) ≡ true → trex_among ss id ≡ trex_for trexes id
  among_is id [] [] e known = absurd cc
  among_is id [] (u ∷ tracks) e known = absurd cc
  among_is id (s ∷ ss) [] e known = absurd cc
  among_is id (s ∷ ss) (u ∷ tracks) e known =
      choice (s.id == id) refl (λ k. among_is id ss tracks (tail_is (track_seen s) (plain_seen trexes u) (map track_seen ss) (map (plain_seen trexes) tracks) e) k)
    where
      same : track_seen s ≡ plain_seen trexes u
      same = head_is (track_seen s) (plain_seen trexes u) (map track_seen ss) (map (plain_seen trexes) tracks) e

      same_id : s.id ≡ id_of u
      same_id = ap (λ (x : TrackSeen). x.id) same

      choice : (v : Bool) → (s.id == id) ≡ v → (is_some (track_for (infos_of tracks) id) ≡ true → trex_among ss id ≡ trex_for trexes id) → trex_among (s ∷ ss) id ≡ trex_for trexes id
      choice true h later =
          ap (λ w. unwrap_or (option_map (λ (t : TrackState). t.trex) (cond w (Some s) (find (λ (t : TrackState). t.id == id) ss))) None) h
          ∙ ap (λ (x : TrackSeen). x.trex) same ∙ ap (trex_for trexes) (sym same_id ∙ eqb-true s.id id h)
      choice false h later =
          ap (λ w. unwrap_or (option_map (λ (t : TrackState). t.trex) (cond w (Some s) (find (λ (t : TrackState). t.id == id) ss))) None) h
          ∙ later (sym (ap (λ w. is_some (cond w (Some (record { id = id_of u; descriptions = length u.descriptions })) (track_for (infos_of tracks) id))) (ap (λ n. n == id) (sym same_id) ∙ h)) ∙ known)

-- ---- groups

grouped_parts : (keys : List GroupKey) (parts : List Part) → AreGrouped keys parts → AllByRecursion IsGrouped parts
grouped_parts keys [] h = tt
grouped_parts keys (part ∷ parts) h = ((keys, h.0), grouped_parts (keys_after keys part.groups) parts h.1)

abbrev GroupedFor : List Part → TrackTree → Type 0
GroupedFor parts t = AllByRecursion IsGrouped (parts_for (id_of t) parts)

-- a part of a track that is there
first_grouped : (part : Part) (parts : List Part) (tracks : List TrackTree) → is_some (track_for (infos_of tracks) part.id) ≡ true → AllByRecursion (GroupedFor (part ∷ parts)) tracks → IsGrouped part
first_grouped part parts [] known h = absurd cc
first_grouped part parts (t ∷ tracks) known h = choice (id_of t == part.id) refl (λ k. first_grouped part parts tracks k h.1)
  where
    choice : (v : Bool) → (id_of t == part.id) ≡ v → (is_some (track_for (infos_of tracks) part.id) ≡ true → IsGrouped part) → IsGrouped part
    choice true e later =
        let hit : (part.id == id_of t) ≡ true = ap (λ n. part.id == n) (eqb-true (id_of t) part.id e) ∙ ap (λ n. n == part.id) (sym (eqb-true (id_of t) part.id e)) ∙ e in
        (subst (λ w. AllByRecursion IsGrouped (cond w (part ∷ parts_for (id_of t) parts) (parts_for (id_of t) parts))) hit h.0).0
    choice false e later =
        later (sym (ap (λ w. is_some (cond w (Some (record { id = id_of t; descriptions = length t.descriptions })) (track_for (infos_of tracks) part.id))) e) ∙ known)

others_grouped : (part : Part) (parts : List Part) (t : TrackTree) → GroupedFor (part ∷ parts) t → GroupedFor parts t
others_grouped part parts t h = choice (part.id == id_of t) h
  where
    choice : (v : Bool) → AllByRecursion IsGrouped (cond v (part ∷ parts_for (id_of t) parts) (parts_for (id_of t) parts)) → GroupedFor parts t
    choice true h = h.1
    choice false h = h

all_grouped : (tracks : List TrackTree) (parts : List Part) → AllByRecursion (λ (part : Part). is_some (track_for (infos_of tracks) part.id) ≡ true) parts → AllByRecursion (GroupedFor parts) tracks → AllByRecursion IsGrouped parts
all_grouped tracks [] known h = tt
all_grouped tracks (part ∷ parts) known h =
    (first_grouped part parts tracks known.0 h, all_grouped tracks parts known.1 (each_turned (GroupedFor (part ∷ parts)) (GroupedFor parts) (others_grouped part parts) tracks h))

-- ---- all `traf`s of a file

module _ (file : List ℕ) (tree : FileTree) (c : IsConsistent file tree) where
  known_both : (part : Part) → IsTrue (is_known (track_infos tree.movie) (trexes_of tree.movie) part)
      → (is_some (track_for (track_infos tree.movie) part.id) ≡ true) × (is_some (trex_for (trexes_of tree.movie) part.id) ≡ true)
  known_both part h = and_parts (is_some (track_for (track_infos tree.movie) part.id)) (is_some (trex_for (trexes_of tree.movie) part.id)) h

  grouped_file : AllByRecursion IsGrouped (file_parts tree)
  grouped_file =
      all_grouped tree.movie.tracks (file_parts tree)
      (each_turned (λ (part : Part). IsTrue (is_known (track_infos tree.movie) (trexes_of tree.movie) part)) (λ (part : Part). is_some (track_for (track_infos tree.movie) part.id) ≡ true) (λ part h. (known_both part h).0) (file_parts tree) c.known)
      (each_turned (λ (t : TrackTree). AreGrouped (plain_keys t) (parts_of_track (file_parts tree) t)) (GroupedFor (file_parts tree)) (λ t h. grouped_parts (plain_keys t) (parts_of_track (file_parts tree) t) h) tree.movie.tracks c.groups)

  -- what a file denotes can be handed out, by its tracks as they are behind their tables
  pub can_hand_out : (states : List TrackState) → map track_seen states ≡ map (plain_seen (trexes_of tree.movie)) tree.movie.tracks → CanHandOut file tree
  can_hand_out states e = record {
    tables = c.tables;
    known = states;
    defaults = kept_trexes (trexes_of tree.movie) states tree.movie.tracks e;
    parts = each_turned _ _ known_part (file_parts tree) c.known;
    places = c.places;
    groups = grouped_file;
  }
    where
      known_part : (part : Part) → IsTrue (is_known (track_infos tree.movie) (trexes_of tree.movie) part) → IsTrue (is_known_among states part)
      known_part part h = let both = known_both part h in ap is_some (among_is (trexes_of tree.movie) part.id states tree.movie.tracks e both.0) ∙ both.1

-- ---- a `moof` of the file

module _ (file : List ℕ) (m : MovieSeen) (tree : FileTree) (earlier : List FragmentTree) (next : FragmentTree) (later : List FragmentTree) (o : IsOpenedAs file m tree) (split : tree.fragments ≡ earlier ++ next ∷ later) where
  -- what is so of all parts of the file is so of those of the `moof`
  own_parts : (P : Part → Type 0) → AllByRecursion P (file_parts tree) → AllByRecursion P (parts_of (trexes_of tree.movie) (fragment_of next))
  own_parts P h =
      all_first P (parts_of (trexes_of tree.movie) (fragment_of next)) (parts_behind tree.movie later)
      (all_last P (parts_behind tree.movie earlier) (parts_behind tree.movie (next ∷ later))
      (subst (AllByRecursion P) (ap (parts_behind tree.movie) split ∙ parts_more tree.movie earlier (next ∷ later)) h))

  placed_part : (part : Part) → AllByRecursion (λ run. IsTrue (is_within (length file) run)) part.runs → IsPlacedWithin m.file_len part
  placed_part part h = subst (λ (n : ℕ). IsPlacedWithin n part) (sym o.whole) h

  pub moof_sound : m.file_len < 2 ^ 64 → IsSoundMoof m.file_len (trexes_of tree.movie) o.hands_out.known next
  moof_sound short = record {
    short = short;
    tree = all_at IsFragmentTree earlier later next (subst (λ (fs : List FragmentTree). AllByRecursion IsFragmentTree fs) split o.is_tree.fragments);
    leaves = all_at IsSoundFragment earlier later next (subst (λ (fs : List FragmentTree). AllByRecursion IsSoundFragment fs) split o.is_sound.fragments);
    known = own_parts (λ (part : Part). IsTrue (is_known_among o.hands_out.known part)) o.hands_out.parts;
    places = own_parts (IsPlacedWithin m.file_len) (each_turned _ _ placed_part (file_parts tree) o.hands_out.places);
    groups = own_parts IsGrouped o.hands_out.groups;
  }
