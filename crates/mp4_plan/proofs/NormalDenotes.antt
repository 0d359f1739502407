-- The normal form of what is valid denotes it.
use Rattle.std.proofs.Common.{◌≡◌, ℕ, ◌+◌, ◌^◌, ◌≤◌, ◌==◌, ◌&&◌, Bool, true, false, List, [], ◌∷◌, ◌++◌, length, Option, Some, unwrap_or, refl, sym, ap, subst, ◌∙◌, IsTrue, add-zero, le-leb, leb}
use Rattle.std.specs.Prelude.{map, find, is_some, option_map, codes}
use Rattle.std.specs.List.{AllByRecursion, AllZip, list_all}
use Rattle.std.proofs.lemmas.Bool.{and_from}
use Rattle.std.proofs.lemmas.List.{length-map}
use Rattle.mp4_boxes.proofs.Each.{each_from, each_weaker as all_weaker}
use Rattle.mp4_boxes.proofs.WrittenBoxes.{written, length-placed}
use Rattle.mp4_tables.specs.format.Tables.{Tables, tables_of}
use Rattle.mp4_tables.specs.format.Groups.{GroupKey, keys_after}
use Rattle.mp4_tables.specs.format.PlainSamples.{PlacedSample, plain_samples}
use Rattle.mp4_tables.specs.format.TableRules.{Fit, is_index}
use Rattle.mp4_frag.specs.declared.trex.Trex.{Trex}
use Rattle.mp4_frag.specs.format.FragmentSamples.{all_parts, Part, part_samples, parts_for, fragment_samples, start_of, duration_of, trex_for, AreOnTime, AreGrouped}
use Rattle.mp4_frag.specs.format.Fragments.{fragment_of}
use Rattle.mp4_frag.specs.format.FragmentRules.{TrackFacts, track_for, is_known, has_indexes, is_within}
use Rattle.mp4_head.specs.format.Head.{TrackHead, IsTrackHead}
use Rattle.mp4_head.specs.format.Tree.{TrackTree, track_head_of, trexes_of, first_of}
use Rattle.mp4_head.proofs.WrittenContents.{content_of, contents_of, trak_payload}
use Rattle.mp4_head.proofs.WrittenTrack.{track_tree, table_boxes}
use Rattle.mp4_head.proofs.WrittenTrackHead.{track_head_again}
use Rattle.mp4_head.proofs.WrittenMovie.{tracks_at, movie_front, normal_trex, normal_trexes, movie_head_again, trexes_again, traks_small}
use Rattle.mp4_head.proofs.WrittenTables.{tables_none, none_fit}
use Rattle.mp4_present.specs.format.Presentation.{Sample, Track, Presentation, heads, movie_length, IsSample, IsTrack, Valid, keys_of}
use Rattle.mp4_present.specs.format.Denotes.{IsConsistent, surroundings, track_infos, file_parts, parts_of_track, first_due, plain_keys, sample_of, track_of, presentation_of}
use Rattle.mp4_content.specs.format.TimedSamples.{TimedSample, timed}
use Rattle.mp4_plan.specs.format.Pieces.{pieces}
use Rattle.mp4_plan.specs.format.Normal.{normal}
use Rattle.mp4_plan.specs.format.PieceLaws.{pieces_for}
use Rattle.mp4_plan.specs.format.Laws.{NormalDenotes}
use Rattle.mp4_plan.proofs.PieceFacts.{ids_in_pieces, samples_in_pieces, all_timed}
use Rattle.mp4_plan.proofs.PartLists.{Says, IsReadAgain, tracks_again, ids_in_parts, samples_in_parts}
use Rattle.mp4_plan.proofs.PieceSays.{Spells}
use Rattle.mp4_plan.proofs.PieceBoxes.{pieces_trees, pieces_parts, parts_are, parts_spell}
use Rattle.mp4_plan.proofs.NormalTree.{front_contents, pieces_at, normal_tree, normal_is, head_writable, normal_tree_is, normal_sound}
use Rattle.mp4_plan.proofs.GoodPieces.{named_by, IsWritableSample, CanWrite, valid_tracks, samples_good, pieces_good}
use Rattle.mp4_plan.proofs.NormalGroups.{parts_grouped, track_spells, of_track}

-- ---- tracks as fragments see them

-- a head as fragments see the track
abbrev head_info : TrackHead → TrackFacts
head_info h = record { id = h.id; descriptions = length h.media.descriptions }

abbrev infos : Presentation → List TrackFacts
infos p = map head_info (heads p)

-- the heads of written `trak`s can be read
abbrev CanRead : TrackHead → Type 0
CanRead h = IsTrackHead h × (length (trak_payload h) ≤ 2 ^ 30)

-- the trees of `trak`s say these
infos_from : (at : ℕ) (hs : List TrackHead) → AllByRecursion CanRead hs → map (λ (t : TrackTree). record { id = (track_head_of t).id; descriptions = length t.descriptions }) (tracks_at at hs) ≡ map head_info hs
infos_from at [] c = refl
infos_from at (h ∷ hs) c =
    let head = track_head_again at h c.0.0 c.0.1 in
    let stsd = first_of (codes "stsd") (table_boxes at h) in
    let many : length (track_tree at h).descriptions ≡ length h.media.descriptions = length-placed (stsd.offset + stsd.header + 8) (contents_of h.media.descriptions) ∙ length-map h.media.descriptions content_of in
    let others = infos_from (at + (8 + length (trak_payload h))) hs c.1 in
    λ i. record { id = (head i).id; descriptions = many i } ∷ others i

-- ---- what is found by an ID

-- by the test of the first
mapped_at : {A B : Type 0} (f : A → B) (p : A → Bool) (q : B → Bool) (x t : A) (xs : List A) (v : Bool) → p x ≡ v → q (f x) ≡ v → find p (x ∷ xs) ≡ Some t → (find p xs ≡ Some t → find q (map f xs) ≡ Some (f t)) → find q (map f (x ∷ xs)) ≡ Some (f t)
mapped_at f p q x t xs true e g h more = let s : ◌≡◌ {A = Option _} (Some x) (Some t) = rw e at h in let same : x ≡ t = cc in rw g (ap (λ y. Some (f y)) same)
mapped_at f p q x t xs false e g h more = rw g (more (rw e at h))

-- what is found by a test is found among values by a test that says the same of them
mapped_found : {A B : Type 0} (f : A → B) (p : A → Bool) (q : B → Bool) → ((x : A) → q (f x) ≡ p x) → (t : A) (xs : List A) → find p xs ≡ Some t → find q (map f xs) ≡ Some (f t)
mapped_found f p q same t [] e = absurd cc
mapped_found f p q same t (x ∷ xs) e = mapped_at f p q x t xs (p x) refl (same x) e (mapped_found f p q same t xs)

-- the track that is found among heads, and its `trex`
info_found : (id : ℕ) (tracks : List Track) (t : Track) → find (λ (u : Track). u.head.id == id) tracks ≡ Some t → track_for (map head_info (map (λ (u : Track). u.head) tracks)) id ≡ Some (head_info t.head)
info_found id tracks t e =
    mapped_found head_info (λ (h : TrackHead). h.id == id) (λ (i : TrackFacts). i.id == id) (λ h. refl) t.head (map (λ (u : Track). u.head) tracks)
    (mapped_found (λ (u : Track). u.head) (λ (u : Track). u.head.id == id) (λ (h : TrackHead). h.id == id) (λ u. refl) t tracks e)

-- its `trex`
trex_found : (id : ℕ) (tracks : List Track) (t : Track) → find (λ (u : Track). u.head.id == id) tracks ≡ Some t → trex_for (normal_trexes (map (λ (u : Track). u.head) tracks)) id ≡ Some (normal_trex t.head)
trex_found id tracks t e =
    mapped_found normal_trex (λ (h : TrackHead). h.id == id) (λ (x : Trex). x.id == id) (λ h. refl) t.head (map (λ (u : Track). u.head) tracks)
    (mapped_found (λ (u : Track). u.head) (λ (u : Track). u.head.id == id) (λ (h : TrackHead). h.id == id) (λ u. refl) t tracks e)

-- ---- each track of a file

-- What holds of the tree of each track holds of each of them.
all_of_tracks : (P : TrackTree → Type 0) (Q : Track → Type 0) → ((at : ℕ) (t : Track) → Q t → P (track_tree at t.head)) → (at : ℕ) (tracks : List Track) → AllByRecursion Q tracks → AllByRecursion P (tracks_at at (map (λ (t : Track). t.head) tracks))
all_of_tracks P Q each at [] h = tt
all_of_tracks P Q each at (t ∷ tracks) h = (each at t h.0, all_of_tracks P Q each (at + (8 + length (trak_payload t.head))) tracks h.1)

-- What is said of each track is the track.
each_of_tracks : (f : TrackTree → Track) (Q : Track → Type 0) → ((at : ℕ) (t : Track) → Q t → f (track_tree at t.head) ≡ t) → (at : ℕ) (tracks : List Track) → AllByRecursion Q tracks → map f (tracks_at at (map (λ (t : Track). t.head) tracks)) ≡ tracks
each_of_tracks f Q each at [] h = refl
each_of_tracks f Q each at (t ∷ tracks) h = λ i. each at t h.0 i ∷ each_of_tracks f Q each (at + (8 + length (trak_payload t.head))) tracks h.1 i

-- what is known of a track whose samples and head were written
record IsRead (file : List ℕ) (parts : List Part) (t : Track) : Type 0 where
  head : IsTrackHead t.head
  small : length (trak_payload t.head) ≤ 2 ^ 30
  again : IsReadAgain (sample_of file) (λ s. refl) parts t
  grouped : AreGrouped [] (parts_for t.head.id parts)

-- the tables of a track fit
track_fits : (file : List ℕ) (at : ℕ) (t : Track) → Fit (surroundings file (track_tree at t.head)) (tables_of (track_tree at t.head).table)
track_fits file at t = subst (λ (x : Tables). Fit (surroundings file (track_tree at t.head)) x) (sym (tables_none at t.head)) (none_fit (surroundings file (track_tree at t.head)))

-- its `sbgp`s keep the rules
track_grouped : (file : List ℕ) (parts : List Part) (at : ℕ) (t : Track) → IsRead file parts t → AreGrouped (plain_keys (track_tree at t.head)) (parts_of_track parts (track_tree at t.head))
track_grouped file parts at t r =
    let tables = tables_none at t.head in
    let head = track_head_again at t.head r.head r.small in
    subst (λ (x : Tables). AreGrouped (keys_after [] x.groups) (parts_of_track parts (track_tree at t.head))) (sym tables)
    (subst (λ (h : TrackHead). AreGrouped [] (parts_for h.id parts)) (sym head) r.grouped)

-- its `tfdt`s are on time
track_on_time : (file : List ℕ) (parts : List Part) (at : ℕ) (t : Track) → IsRead file parts t → AreOnTime (first_due parts (track_tree at t.head)) (parts_of_track parts (track_tree at t.head))
track_on_time file parts at t r =
    let tables = tables_none at t.head in
    let head = track_head_again at t.head r.head r.small in
    let due : start_of [] (parts_for t.head.id parts) + 0 ≡ t.start = add-zero (start_of [] (parts_for t.head.id parts)) ∙ r.again.start in
    subst (λ (x : Tables). AreOnTime (start_of (plain_samples x) (parts_of_track parts (track_tree at t.head)) + duration_of (plain_samples x)) (parts_of_track parts (track_tree at t.head))) (sym tables)
    (subst (λ (h : TrackHead). AreOnTime (start_of [] (parts_for h.id parts) + 0) (parts_for h.id parts)) (sym head)
    (subst (λ (n : ℕ). AreOnTime n (parts_for t.head.id parts)) (sym due) r.again.times))

-- its tree says the track
track_says : (file : List ℕ) (parts : List Part) (at : ℕ) (t : Track) → IsRead file parts t → track_of file parts (track_tree at t.head) ≡ t
track_says file parts at t r =
    let tables = tables_none at t.head in
    let head = track_head_again at t.head r.head r.small in
    let start = r.again.start in
    let samples = r.again.samples in
    (λ i. record {
      head = head i;
      start = start_of (plain_samples (tables i)) (parts_for (head i).id parts);
      samples = map (sample_of file) (plain_samples (tables i) ++ fragment_samples (head i).id parts);
    })
    ∙ (λ i. record { head = t.head; start = start i; samples = samples i })

-- ---- each part

-- a track with this ID is there, with its `trex`
abbrev IsThere : List TrackFacts → List Trex → ℕ → Type 0
IsThere tracks trexes id = (is_some (track_for tracks id) && is_some (trex_for trexes id)) ≡ true

-- the description of a sample is one of those of its track
abbrev HasIndex : List TrackFacts → ℕ → Sample → Type 0
HasIndex tracks id s = is_index (unwrap_or (option_map (λ (track : TrackFacts). track.descriptions) (track_for tracks id)) 0) s.description ≡ true

-- a test that each passes
all_tests : {A : Type 0} (test : A → Bool) (xs : List A) → AllByRecursion (λ x. test x ≡ true) xs → list_all test xs ≡ true
all_tests test [] h = refl
all_tests test (x ∷ xs) h = and_from (test x) (list_all test xs) h.0 (all_tests test xs h.1)

-- what follows from a relation
zip_weaker : {A B : Type 0} (R S : A → B → Type 0) → ((x : A) (y : B) → R x y → S x y) → (xs : List A) (ys : List B) → AllZip R xs ys → AllZip S xs ys
zip_weaker R S each [] [] h = tt
zip_weaker R S each [] (y ∷ ys) h = absurd h
zip_weaker R S each (x ∷ xs) [] h = absurd h
zip_weaker R S each (x ∷ xs) (y ∷ ys) h = (each x y h.0, zip_weaker R S each xs ys h.1)

-- what follows from it for the first
zip_first : {A B : Type 0} (R : A → B → Type 0) (P : A → Type 0) → ((x : A) (y : B) → R x y → P x) → (xs : List A) (ys : List B) → AllZip R xs ys → AllByRecursion P xs
zip_first R P each [] [] h = tt
zip_first R P each [] (y ∷ ys) h = absurd h
zip_first R P each (x ∷ xs) [] h = absurd h
zip_first R P each (x ∷ xs) (y ∷ ys) h = (each x y h.0, zip_first R P each xs ys h.1)

-- a valid track is there
there_of : (tracks : List Track) (t : Track) → CanWrite tracks t → IsThere (map head_info (map (λ (u : Track). u.head) tracks)) (normal_trexes (map (λ (u : Track). u.head) tracks)) t.head.id
there_of tracks t c = let a = info_found t.head.id tracks t c.found in let b = trex_found t.head.id tracks t c.found in λ i. is_some (a i) && is_some (b i)

-- the descriptions of its samples are there
index_of : (tracks : List Track) (t : Track) → CanWrite tracks t → AllByRecursion (λ (s : TimedSample). HasIndex (map head_info (map (λ (u : Track). u.head) tracks)) t.head.id s.sample) (timed t)
index_of tracks t c =
    let infos = map head_info (map (λ (u : Track). u.head) tracks) in
    let n = length t.head.media.descriptions in
    let found = info_found t.head.id tracks t c.found in
    all_timed (HasIndex infos t.head.id) 1 t.start t.samples
    (all_weaker (IsSample n) (HasIndex infos t.head.id)
    (λ s h. ap (λ (o : Option TrackFacts). is_index (unwrap_or (option_map (λ (track : TrackFacts). track.descriptions) o) 0) s.description) found
    ∙ and_from (leb 1 s.description) (leb s.description n) (le-leb 1 s.description h.description_from_1) (le-leb s.description n h.description)) t.samples c.valid.samples)

-- ---- the whole

module _ (p : Presentation) (v : Valid p) where
  -- the parts of the file
  abbrev the_parts : List Part
  the_parts = pieces_parts (normal_trexes (heads p)) (pieces_at p) 1 (pieces p)

  -- they spell the pieces
  all_spell : AllZip (Spells (normal p)) the_parts (pieces p)
  all_spell = parts_spell (normal_trexes (heads p)) (normal p) (written (front_contents p)) (pieces_at p) 1 (pieces p) (pieces_good p v) refl (normal_is p)

  -- they say what the pieces do
  all_say : AllZip (Says (sample_of (normal p)) (λ s. refl)) the_parts (pieces p)
  all_say = zip_weaker (Spells (normal p)) (Says (sample_of (normal p)) (λ s. refl)) (λ x y h. h.says) the_parts (pieces p) all_spell

  -- the `trex`s of the file
  trexes_are : trexes_of (normal_tree p).movie ≡ normal_trexes (heads p)
  trexes_are = trexes_again p.movie (heads p) (movie_length p) (head_writable p v) 24

  -- its tree says these parts
  parts_of_file : file_parts (normal_tree p) ≡ the_parts
  parts_of_file = ap (λ (l : List Trex). all_parts l (map fragment_of (pieces_trees (pieces_at p) 1 (pieces p)))) trexes_are ∙ parts_are (normal_trexes (heads p)) (pieces_at p) 1 (pieces p) (pieces_good p v)

  -- the heads can be read
  can_read : AllByRecursion CanRead (heads p)
  can_read = let w = head_writable p v in each_from IsTrackHead (λ (h : TrackHead). length (trak_payload h) ≤ 2 ^ 30) CanRead (λ h a b. (a, b)) (heads p) w.are_tracks (traks_small p.movie (heads p) (movie_length p) w)

  -- the tracks as fragments see them
  infos_are : track_infos (normal_tree p).movie ≡ map head_info (heads p)
  infos_are = infos_from _ (heads p) can_read

  -- the `sbgp`s of each track keep the rules
  grouped_track : (t : Track) → CanWrite p.tracks t → AreGrouped [] (parts_for t.head.id the_parts)
  grouped_track t c =
      let named = named_by p.tracks t.head.id in
      let keys : named ≡ keys_of t.samples = ap (λ o. unwrap_or (option_map (λ (u : Track). keys_of u.samples) o) []) c.found in
      let few : length named ≤ 4 = subst (λ (l : List GroupKey). length l ≤ 4) (sym keys) c.valid.keys in
      parts_grouped (normal p) named [] (parts_for t.head.id the_parts) (pieces_for t.head.id (pieces p)) (track_spells (normal p) t.head.id the_parts (pieces p) all_spell) few tt
      (of_track (λ id piece. AllByRecursion (IsWritableSample (named_by p.tracks id)) piece.samples) t.head.id (pieces p) (samples_good p v))

  -- what is known of each track
  all_read : AllByRecursion (IsRead (normal p) the_parts) p.tracks
  all_read = join p.tracks (valid_tracks p v) can_read
      (tracks_again (sample_of (normal p)) (λ s. refl) p the_parts v.ids (all_weaker IsTrack (λ (t : Track). t.samples ≡ [] → t.start ≡ 0) (λ t h. h.empty) p.tracks v.tracks) all_say)
    where
      join : (tracks : List Track) → AllByRecursion (CanWrite p.tracks) tracks → AllByRecursion CanRead (map (λ (t : Track). t.head) tracks) → AllByRecursion (IsReadAgain (sample_of (normal p)) (λ s. refl) the_parts) tracks
          → AllByRecursion (IsRead (normal p) the_parts) tracks
      join [] a b c = tt
      join (t ∷ tracks) a b c = (record { head = b.0.0; small = b.0.1; again = c.0; grouped = grouped_track t a.0 }, join tracks a.1 b.1 c.1)

  -- what the file says is consistent
  consistent_with : IsConsistent (normal p) (normal_tree p)
  consistent_with =
      let at = 24 + 8 + length (written (movie_front p.movie (heads p))) in
      let parts = the_parts in
      let infos = map head_info (heads p) in
      let known = ids_in_parts (sample_of (normal p)) (λ s. refl) (IsThere infos (normal_trexes (heads p))) parts (pieces p) all_say
      (ids_in_pieces (IsThere infos (normal_trexes (heads p))) p (all_weaker (CanWrite p.tracks) (λ (t : Track). IsThere infos (normal_trexes (heads p)) t.head.id) (λ t c. there_of p.tracks t c) p.tracks (valid_tracks p v))) in
      let indexes = samples_in_parts (sample_of (normal p)) (λ s. refl) (HasIndex infos) parts (pieces p) all_say
      (samples_in_pieces (λ id s. HasIndex infos id s.sample) p (all_weaker (CanWrite p.tracks) (λ (t : Track). AllByRecursion (λ (s : TimedSample). HasIndex infos t.head.id s.sample) (timed t)) (λ t c. index_of p.tracks t c) p.tracks (valid_tracks p v))) in
      let indexed = all_weaker (λ (part : Part). AllByRecursion (λ (s : PlacedSample). HasIndex infos part.id (sample_of (normal p) s)) (part_samples part)) (λ (part : Part). IsTrue (has_indexes infos part))
      (λ part h. all_tests (λ (s : PlacedSample). is_index (unwrap_or (option_map (λ (track : TrackFacts). track.descriptions) (track_for infos part.id)) 0) s.description) (part_samples part) h) parts indexes in
      record {
        tables = all_of_tracks (λ (t : TrackTree). Fit (surroundings (normal p) t) (tables_of t.table)) (CanWrite p.tracks) (λ n t c. track_fits (normal p) n t) at p.tracks (valid_tracks p v);
        known = subst (λ (l : List Part). AllByRecursion (λ (part : Part). IsTrue (is_known (track_infos (normal_tree p).movie) (trexes_of (normal_tree p).movie) part)) l) (sym parts_of_file)
            (subst (λ (l : List TrackFacts). AllByRecursion (λ (part : Part). IsTrue (is_known l (trexes_of (normal_tree p).movie) part)) parts) (sym infos_are)
            (subst (λ (l : List Trex). AllByRecursion (λ (part : Part). IsTrue (is_known infos l part)) parts) (sym trexes_are) known));
        indexes = subst (λ (l : List Part). AllByRecursion (λ (part : Part). IsTrue (has_indexes (track_infos (normal_tree p).movie) part)) l) (sym parts_of_file)
            (subst (λ (l : List TrackFacts). AllByRecursion (λ (part : Part). IsTrue (has_indexes l part)) parts) (sym infos_are) indexed);
        places = subst (λ (l : List Part). AllByRecursion (λ (part : Part). AllByRecursion (λ run. IsTrue (is_within (length (normal p)) run)) part.runs) l) (sym parts_of_file)
            (zip_first (Spells (normal p)) (λ (part : Part). AllByRecursion (λ run. IsTrue (is_within (length (normal p)) run)) part.runs) (λ x y h. h.within) parts (pieces p) all_spell);
        groups = subst (λ (l : List Part). AllByRecursion (λ (track : TrackTree). AreGrouped (plain_keys track) (parts_of_track l track)) (normal_tree p).movie.tracks) (sym parts_of_file)
            (all_of_tracks (λ (t : TrackTree). AreGrouped (plain_keys t) (parts_of_track parts t)) (IsRead (normal p) parts) (λ n t r. track_grouped (normal p) parts n t r) at p.tracks all_read);
        times = subst (λ (l : List Part). AllByRecursion (λ (track : TrackTree). AreOnTime (first_due l track) (parts_of_track l track)) (normal_tree p).movie.tracks) (sym parts_of_file)
            (all_of_tracks (λ (t : TrackTree). AreOnTime (first_due parts t) (parts_of_track parts t)) (IsRead (normal p) parts) (λ n t r. track_on_time (normal p) parts n t r) at p.tracks all_read);
      }

  -- it says the presentation
  says_again : p ≡ presentation_of (normal p) (normal_tree p)
  says_again =
      let movie = movie_head_again p.movie (heads p) (movie_length p) (head_writable p v) 24 in
      let at = 24 + 8 + length (written (movie_front p.movie (heads p))) in
      let tracks = ap (λ (l : List Part). map (track_of (normal p) l) (normal_tree p).movie.tracks) parts_of_file
      ∙ each_of_tracks (track_of (normal p) the_parts) (IsRead (normal p) the_parts) (λ n t r. track_says (normal p) the_parts n t r) at p.tracks all_read in
      sym (λ i. record { movie = movie i; tracks = tracks i })

-- The normal form of what is valid denotes it.
pub normal_denotes : NormalDenotes
normal_denotes p v = record {
  tree = normal_tree p;
  is_tree = normal_tree_is p (head_writable p v) (pieces_good p v);
  is_sound = normal_sound p (head_writable p v) (pieces_good p v);
  is_consistent = consistent_with p v;
  says = says_again p v;
  limits = v.limits;
}
