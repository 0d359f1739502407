-- The tree of a `moov` that was written, and the head that it says.
use Rattle.std.proofs.Common.{◌≡◌, ℕ, ◌+◌, ◌^◌, ◌<◌, ◌≤◌, true, false, List, [], ◌∷◌, ◌++◌, length, None, refl, sym, ap, ap₂, subst, ◌∙◌, arith, append_assoc, length-append}
use Rattle.std.specs.Prelude.{codes, map, flat_map, bytes_eq, IsTrue}
use Rattle.std.specs.List.{AllByRecursion}
use Rattle.std.proofs.lemmas.List.{append-nil}
use Rattle.mp4_boxes.specs.format.Bytes.{spelled}
use Rattle.mp4_boxes.specs.format.Box.{Box, box_container}
use Rattle.mp4_boxes.specs.format.Children.{Holds, of_kind, is_among, allows, kept_kinds}
use Rattle.mp4_boxes.specs.format.Layout.{mvhd, leaf_fields}
use Rattle.mp4_boxes.specs.format.Written.{box_bytes}
use Rattle.mp4_boxes.specs.format.Places.{ruled, leaf_of, IsSoundAs, AreSound}
use Rattle.mp4_boxes.specs.declared.rule.Rule.TheVariants as rules
use Rattle.mp4_boxes.proofs.Each.{each_same, each_tested}
use Rattle.mp4_boxes.proofs.Among.{all_append}
use Rattle.mp4_boxes.proofs.Joined.{all_first, all_last}
use Rattle.mp4_boxes.proofs.WrittenBoxes.{Content, written, placed, placed_box, children, FitsBox, typed, written-append, length-box_bytes, holds_written, count_around, count_before, of_kind-between}
use Rattle.mp4_frag.specs.declared.trex.Trex.{Trex}
use Rattle.mp4_frag.specs.format.Fragments.{trex_of}
use Rattle.mp4_head.specs.format.Head.{Kept, TrackHead, MovieHead, IsTrackHead, IsMovieHead}
use Rattle.mp4_head.specs.format.Tree.{TrackTree, MovieTree, HoldsIfThere, IsTrackTree, IsMovieTree, kept_among, track_head_of, movie_head_of, trexes_of, are_distinct, NameNoItems, IsSoundTrack, IsSoundMovie}
use Rattle.mp4_head.specs.format.Writing.{kept_bytes, trak_bytes, trex_bytes, mvhd_bytes, mvex_bytes, next_track_id}
use Rattle.mp4_head.proofs.WrittenLeaves.{mvhd_payload, mvhd_again, mvhd_sound, movie_again, trex_payload, trex_sound, trex_again}
use Rattle.mp4_head.proofs.WrittenContents.{contents_of, kept_written, all_kept, fits_in, trak_payload}
use Rattle.mp4_head.proofs.WrittenTrack.{trak_content, track_tree, track_tree_is}
use Rattle.mp4_head.proofs.WrittenTrackHead.{kept_between, name_none, unread, sound_placed, track_head_again, track_leaves_sound}
pub use Rattle.mp4_head.specs.words.Normal.{IsWritable, normal_trex, normal_trexes}

-- ---- contents

-- the `trak`s of tracks
abbrev pub trak_contents : List TrackHead → List Content
trak_contents tracks = map trak_content tracks

-- the `trex`s of tracks
abbrev pub trex_contents : List TrackHead → List Content
trex_contents tracks = map (λ (t : TrackHead). typed (codes "trex") (trex_payload t.id)) tracks

-- the payload of the `mehd`
abbrev pub mehd_payload : ℕ → List ℕ
mehd_payload duration = spelled (1 ∷ 3 ∷ 8 ∷ []) (1 ∷ 0 ∷ duration ∷ [])

-- what the `mvex` holds
abbrev pub extends_contents : List TrackHead → ℕ → List Content
extends_contents tracks duration = (typed (codes "mehd") (mehd_payload duration) ∷ []) ++ trex_contents tracks

-- the payload of the `mvex`
abbrev pub mvex_payload : List TrackHead → ℕ → List ℕ
mvex_payload tracks duration = box_bytes (codes "mehd") (mehd_payload duration) ++ flat_map trex_bytes tracks

-- what stands in front of the `trak`s
abbrev pub movie_front : MovieHead → List TrackHead → List Content
movie_front movie tracks = (typed (codes "mvhd") (mvhd_payload movie (next_track_id tracks)) ∷ []) ++ contents_of movie.kept

-- what stands behind them
abbrev pub movie_back : List TrackHead → ℕ → List Content
movie_back tracks duration = typed (codes "mvex") (mvex_payload tracks duration) ∷ []

-- what the `moov` holds
abbrev pub movie_contents : MovieHead → List TrackHead → ℕ → List Content
movie_contents movie tracks duration = movie_front movie tracks ++ (trak_contents tracks ++ movie_back tracks duration)

-- the payload of the `moov`
abbrev pub moov_payload : MovieHead → List TrackHead → ℕ → List ℕ
moov_payload movie tracks duration = mvhd_bytes movie (next_track_id tracks) ++ flat_map kept_bytes movie.kept ++ flat_map trak_bytes tracks ++ mvex_bytes tracks duration

-- the `moov` itself
abbrev pub moov_content : MovieHead → List TrackHead → ℕ → Content
moov_content movie tracks duration = typed (codes "moov") (moov_payload movie tracks duration)

-- `trak`s are written as their contents
traks_written : (tracks : List TrackHead) → flat_map trak_bytes tracks ≡ written (trak_contents tracks)
traks_written [] = refl
traks_written (t ∷ tracks) = ap (λ (l : List ℕ). trak_bytes t ++ l) (traks_written tracks)

-- so are `trex`s
trexes_written : (tracks : List TrackHead) → flat_map trex_bytes tracks ≡ written (trex_contents tracks)
trexes_written [] = refl
trexes_written (t ∷ tracks) = ap (λ (l : List ℕ). trex_bytes t ++ l) (trexes_written tracks)

-- so is the `mvex`
mvex_written : (tracks : List TrackHead) (duration : ℕ) → mvex_payload tracks duration ≡ written (extends_contents tracks duration)
mvex_written tracks duration = ap (λ (l : List ℕ). box_bytes (codes "mehd") (mehd_payload duration) ++ l) (trexes_written tracks)

-- four lists joined, bracketed as the contents are
regroup : (a b c d : List ℕ) → a ++ b ++ c ++ d ≡ (a ++ b) ++ (c ++ (d ++ []))
regroup a b c d = simp (append_assoc, append-nil)

-- the `moov` is written as what it holds
pub moov_written : (movie : MovieHead) (tracks : List TrackHead) (duration : ℕ) → moov_payload movie tracks duration ≡ written (movie_contents movie tracks duration)
moov_written movie tracks duration =
    let mvhd = mvhd_bytes movie (next_track_id tracks) in
    let mvex = mvex_bytes tracks duration in
    regroup mvhd (flat_map kept_bytes movie.kept) (flat_map trak_bytes tracks) mvex
    ∙ ap₂ (λ (a b : List ℕ). (mvhd ++ a) ++ (b ++ (mvex ++ []))) (kept_written movie.kept) (traks_written tracks)
    ∙ ap (λ (l : List ℕ). (mvhd ++ written (contents_of movie.kept)) ++ l) (sym (written-append (trak_contents tracks) (movie_back tracks duration)))
    ∙ sym (written-append (movie_front movie tracks) (trak_contents tracks ++ movie_back tracks duration))

-- what holds of a type holds of each `trak`, of each `trex`
all_traks : (P : List ℕ → Type 0) (tracks : List TrackHead) → P (codes "trak") → AllByRecursion (λ (k : Content). P k.kind) (trak_contents tracks)
all_traks P [] h = tt
all_traks P (t ∷ tracks) h = (h, all_traks P tracks h)

-- of each `trex`
all_trexes : (P : List ℕ → Type 0) (tracks : List TrackHead) → P (codes "trex") → AllByRecursion (λ (k : Content). P k.kind) (trex_contents tracks)
all_trexes P [] h = tt
all_trexes P (t ∷ tracks) h = (h, all_trexes P tracks h)

-- of what stands in front of the `trak`s
all_front : (P : List ℕ → Type 0) (movie : MovieHead) (tracks : List TrackHead) → IsMovieHead movie → P (codes "mvhd") → AllByRecursion P (kept_kinds rules.Movie) → AllByRecursion (λ (k : Content). P k.kind) (movie_front movie tracks)
all_front P movie tracks h a b = (a, all_kept P (kept_kinds rules.Movie) movie.kept b h.kept)

-- of all that the `moov` holds
all_movie : (P : List ℕ → Type 0) (movie : MovieHead) (tracks : List TrackHead) (duration : ℕ) → IsMovieHead movie → P (codes "mvhd") → AllByRecursion P (kept_kinds rules.Movie) → P (codes "trak") → P (codes "mvex")
    → AllByRecursion (λ (k : Content). P k.kind) (movie_contents movie tracks duration)
all_movie P movie tracks duration h a b c d =
    all_append (λ (k : Content). P k.kind) (movie_front movie tracks) (trak_contents tracks ++ movie_back tracks duration) (all_front P movie tracks h a b)
    (all_append (λ (k : Content). P k.kind) (trak_contents tracks) (movie_back tracks duration) (all_traks P tracks c) (d, tt))

-- ---- the tree

-- the trees of `trak`s one after the other, from a place on
abbrev pub tracks_at : ℕ → List TrackHead → List TrackTree
tracks_at at [] = []
tracks_at at (t ∷ tracks) = track_tree at t ∷ tracks_at (at + (8 + length (trak_payload t))) tracks

-- the boxes in the `mvex`
abbrev pub extends_in : List Box → List TrackHead → ℕ → List Box
extends_in [] tracks duration = []
extends_in (b ∷ more) tracks duration = children b (extends_contents tracks duration)

-- the boxes in the `moov`
abbrev pub movie_boxes : ℕ → MovieHead → List TrackHead → ℕ → List Box
movie_boxes at movie tracks duration = children (placed_box at (moov_content movie tracks duration)) (movie_contents movie tracks duration)

-- the tree of the `moov` that begins at a place
abbrev pub movie_tree : ℕ → MovieHead → List TrackHead → ℕ → MovieTree
movie_tree at movie tracks duration = record {
  moov = placed_box at (moov_content movie tracks duration);
  movie = movie_boxes at movie tracks duration;
  extends = extends_in (of_kind (codes "mvex") (movie_boxes at movie tracks duration)) tracks duration;
  tracks = tracks_at (at + 8 + length (written (movie_front movie tracks))) tracks;
}

-- the trees are those of the `trak`s
traks_are : (at : ℕ) (tracks : List TrackHead) → map (λ (t : TrackTree). t.trak) (tracks_at at tracks) ≡ placed at (trak_contents tracks)
traks_are at [] = refl
traks_are at (t ∷ tracks) = ap (λ (l : List Box). placed_box at (trak_content t) ∷ l) (traks_are (at + (8 + length (trak_payload t))) tracks)

-- ---- each track

-- each tree is that of its `trak`
all_trees : (at : ℕ) (tracks : List TrackHead) → AllByRecursion IsTrackHead tracks → AllByRecursion (λ (t : TrackHead). length (trak_payload t) ≤ 2 ^ 30) tracks → AllByRecursion IsTrackTree (tracks_at at tracks)
all_trees at [] h le = tt
all_trees at (t ∷ tracks) h le = (track_tree_is at t h.0 le.0, all_trees (at + (8 + length (trak_payload t))) tracks h.1 le.1)

-- each says the head that was written
all_heads : (at : ℕ) (tracks : List TrackHead) → AllByRecursion IsTrackHead tracks → AllByRecursion (λ (t : TrackHead). length (trak_payload t) ≤ 2 ^ 30) tracks → map track_head_of (tracks_at at tracks) ≡ tracks
all_heads at [] h le = refl
all_heads at (t ∷ tracks) h le = λ i. track_head_again at t h.0 le.0 i ∷ all_heads (at + (8 + length (trak_payload t))) tracks h.1 le.1 i

-- the leaves of each are sound
all_sound : (at : ℕ) (tracks : List TrackHead) → AllByRecursion IsTrackHead tracks → AllByRecursion (λ (t : TrackHead). length (trak_payload t) ≤ 2 ^ 30) tracks → AllByRecursion IsSoundTrack (tracks_at at tracks)
all_sound at [] h le = tt
all_sound at (t ∷ tracks) h le = (track_leaves_sound at t h.0 le.0, all_sound (at + (8 + length (trak_payload t))) tracks h.1 le.1)

-- each `trex` is read again
all_trexes_say : (at : ℕ) (tracks : List TrackHead) → AllByRecursion IsTrackHead tracks → map (λ (b : Box). trex_of b.payload) (of_kind (codes "trex") (placed at (trex_contents tracks))) ≡ normal_trexes tracks
all_trexes_say at [] h = refl
all_trexes_say at (t ∷ tracks) h = λ i. trex_again t.id h.0.id i ∷ all_trexes_say (at + (8 + length (trex_payload t.id))) tracks h.1 i

-- each is sound
trexes_sound : (tracks : List TrackHead) → AllByRecursion (λ (k : Content). IsSoundAs (leaf_of (ruled rules.MovieExtends) k.kind) k.payload) (trex_contents tracks)
trexes_sound [] = tt
trexes_sound (t ∷ tracks) = (trex_sound t.id, trexes_sound tracks)

-- their IDs are those of the tracks
trex_ids_are : (tracks : List TrackHead) → map (λ (x : Trex). x.id) (normal_trexes tracks) ≡ map (λ (t : TrackHead). t.id) tracks
trex_ids_are [] = refl
trex_ids_are (t ∷ tracks) = ap (λ (l : List ℕ). t.id ∷ l) (trex_ids_are tracks)

module _ (movie : MovieHead) (tracks : List TrackHead) (duration : ℕ) (h : IsWritable movie tracks duration) where
  -- the payload of the `moov` is not too long
  moov_small : length (moov_payload movie tracks duration) ≤ 2 ^ 30
  moov_small = let e = length-box_bytes (codes "moov") (moov_payload movie tracks duration) refl in omega (arith, h.small)

  -- its contents fit headers of 8 bytes
  fits : AllByRecursion FitsBox (movie_contents movie tracks duration)
  fits = fits_in (moov_payload movie tracks duration) (movie_contents movie tracks duration) (moov_written movie tracks duration)
      (all_movie (λ kind. length kind ≡ 4) movie tracks duration h.is_movie refl (each_same (λ (kind : List ℕ). length kind) 4 (kept_kinds rules.Movie) refl) refl refl) moov_small

  fits_front : AllByRecursion FitsBox (movie_front movie tracks)
  fits_front = all_first FitsBox (movie_front movie tracks) (trak_contents tracks ++ movie_back tracks duration) fits

  fits_behind : AllByRecursion FitsBox (trak_contents tracks ++ movie_back tracks duration)
  fits_behind = all_last FitsBox (movie_front movie tracks) (trak_contents tracks ++ movie_back tracks duration) fits

  -- the `moov` holds its boxes
  movie_holds : (at : ℕ) → Holds rules.Movie (box_container (placed_box at (moov_content movie tracks duration))) (movie_boxes at movie tracks duration)
  movie_holds at =
      let kinds_count = λ (kinds : List (List ℕ)) (n : is_among kinds (codes "trak") ≡ false). count_around kinds (movie_front movie tracks) (trak_contents tracks) (movie_back tracks duration) (all_traks (λ kind. is_among kinds kind ≡ false) tracks n) in
      let kept = λ (kinds : List (List ℕ)) (n : AllByRecursion (λ kind. is_among kinds kind ≡ false) (kept_kinds rules.Movie)).
      count_before kinds (typed (codes "mvhd") (mvhd_payload movie (next_track_id tracks)) ∷ []) (contents_of movie.kept) (all_kept (λ kind. is_among kinds kind ≡ false) (kept_kinds rules.Movie) movie.kept n h.is_movie.kept) in
      let one_mvhd = kinds_count (codes "mvhd" ∷ []) refl in
      let kept_mvhd = kept (codes "mvhd" ∷ []) (each_same (is_among (codes "mvhd" ∷ [])) false (kept_kinds rules.Movie) refl) in
      let few_mvex = kinds_count (codes "mvex" ∷ []) refl in
      let kept_mvex = kept (codes "mvex" ∷ []) (each_same (is_among (codes "mvex" ∷ [])) false (kept_kinds rules.Movie) refl) in
      holds_written rules.Movie (placed_box at (moov_content movie tracks duration)) (movie_contents movie tracks duration) (moov_written movie tracks duration) fits
      (all_movie (λ kind. IsTrue (allows rules.Movie kind)) movie tracks duration h.is_movie refl (each_tested (allows rules.Movie) (kept_kinds rules.Movie) refl) refl refl)
      (omega arith, (omega arith, (tt, (tt, tt))))

  -- the `mvex` is found
  mvex_is : (at : ℕ) → (n : ℕ) × (of_kind (codes "mvex") (movie_boxes at movie tracks duration) ≡ placed_box n (typed (codes "mvex") (mvex_payload tracks duration)) ∷ [])
  mvex_is at =
      let front = movie_front movie tracks ++ trak_contents tracks in
      let back = movie_back tracks duration in
      let same : movie_contents movie tracks duration ≡ front ++ (back ++ []) = sym (append_assoc (movie_front movie tracks) (trak_contents tracks) back) ∙ ap (λ (l : List Content). front ++ l) (sym (append-nil back)) in
      let Other = λ (kind : List ℕ). bytes_eq (codes "mvex") kind ≡ false in
      let found = of_kind-between (codes "mvex") (at + 8) front back [] (all_append FitsBox (movie_front movie tracks) (trak_contents tracks) fits_front (all_first FitsBox (trak_contents tracks) back fits_behind)) (all_last FitsBox (trak_contents tracks) back fits_behind)
      (all_append (λ (k : Content). Other k.kind) (movie_front movie tracks) (trak_contents tracks) (all_front Other movie tracks h.is_movie refl (each_same (bytes_eq (codes "mvex")) false (kept_kinds rules.Movie) refl)) (all_traks Other tracks refl)) (refl, tt) tt in
      (at + 8 + length (written front), ap (λ (l : List Content). of_kind (codes "mvex") (placed (at + 8) l)) same ∙ found)

  -- what holds of the one `mvex` holds of what is found
  at_mvex : (P : List Box → Type 0) (at : ℕ) → ((n : ℕ) → P (placed_box n (typed (codes "mvex") (mvex_payload tracks duration)) ∷ [])) → P (of_kind (codes "mvex") (movie_boxes at movie tracks duration))
  at_mvex P at each = let m = mvex_is at in subst P (sym m.1) (each m.0)

  -- it is not too long
  mvex_small : length (mvex_payload tracks duration) ≤ 2 ^ 30
  mvex_small =
      let le = moov_small in
      omega (arith, length-append (mvhd_bytes movie (next_track_id tracks) ++ flat_map kept_bytes movie.kept ++ flat_map trak_bytes tracks) (mvex_bytes tracks duration), length-box_bytes (codes "mvex") (mvex_payload tracks duration) refl)

  -- it holds its boxes
  extends_hold : (n : ℕ) → Holds rules.MovieExtends (box_container (placed_box n (typed (codes "mvex") (mvex_payload tracks duration)))) (placed (n + 8) (extends_contents tracks duration))
  extends_hold n =
      let mehd = typed (codes "mehd") (mehd_payload duration) ∷ [] in
      let b = placed_box n (typed (codes "mvex") (mvex_payload tracks duration)) in
      let few = count_before (codes "mehd" ∷ []) mehd (trex_contents tracks) (all_trexes (λ kind. is_among (codes "mehd" ∷ []) kind ≡ false) tracks refl) in
      holds_written rules.MovieExtends b (extends_contents tracks duration) (mvex_written tracks duration)
      (fits_in (mvex_payload tracks duration) (extends_contents tracks duration) (mvex_written tracks duration) (refl, all_trexes (λ kind. length kind ≡ 4) tracks refl) mvex_small)
      (refl, all_trexes (λ kind. IsTrue (allows rules.MovieExtends kind)) tracks refl) (omega arith, (tt, tt))

  -- each of `trak`s that are not too long is not
  each_small : (list : List TrackHead) → length (flat_map trak_bytes list) ≤ 2 ^ 30 → AllByRecursion (λ (t : TrackHead). length (trak_payload t) ≤ 2 ^ 30) list
  each_small [] le = tt
  each_small (t ∷ list) le =
      let both = length-append (trak_bytes t) (flat_map trak_bytes list) in
      let one = length-box_bytes (codes "trak") (trak_payload t) refl in
      (omega arith, each_small list (omega arith))

  -- each `trak` is not too long
  pub traks_small : AllByRecursion (λ (t : TrackHead). length (trak_payload t) ≤ 2 ^ 30) tracks
  traks_small =
      let le = moov_small in
      each_small tracks (omega (
        arith,
        length-append (mvhd_bytes movie (next_track_id tracks) ++ flat_map kept_bytes movie.kept ++ flat_map trak_bytes tracks) (mvex_bytes tracks duration),
        length-append (mvhd_bytes movie (next_track_id tracks) ++ flat_map kept_bytes movie.kept) (flat_map trak_bytes tracks),
      ))

  -- The tree of a written `moov` is this one.
  pub movie_tree_is : (at : ℕ) → IsMovieTree (movie_tree at movie tracks duration)
  movie_tree_is at =
      let from = at + 8 + length (written (movie_front movie tracks)) in
      let Other = λ (kind : List ℕ). bytes_eq (codes "trak") kind ≡ false in
      record {
        movie = movie_holds at;
        extends = at_mvex (λ bs. HoldsIfThere rules.MovieExtends bs (extends_in bs tracks duration)) at extends_hold;
        traks = traks_are from tracks ∙ sym (of_kind-between (codes "trak") (at + 8) (movie_front movie tracks) (trak_contents tracks) (movie_back tracks duration) fits_front
            (all_first FitsBox (trak_contents tracks) (movie_back tracks duration) fits_behind) (all_front Other movie tracks h.is_movie refl (each_same (bytes_eq (codes "trak")) false (kept_kinds rules.Movie) refl)) (all_traks (λ kind. bytes_eq (codes "trak") kind ≡ true) tracks refl) (refl, tt));
        tracks = all_trees from tracks h.are_tracks traks_small;
      }

  -- ---- what it says

  -- the next ID fits
  next_fits : next_track_id tracks < 2 ^ 32
  next_fits = omega arith

  -- what is kept of the `moov`
  movie_kept : (at : ℕ) → kept_among (kept_kinds rules.Movie) (movie_boxes at movie tracks duration) ≡ movie.kept
  movie_kept at =
      let mvhd = typed (codes "mvhd") (mvhd_payload movie (next_track_id tracks)) ∷ [] in
      let behind = trak_contents tracks ++ movie_back tracks duration in
      let kinds = kept_kinds rules.Movie in
      kept_between kinds (at + 8) mvhd behind movie.kept (refl, tt) h.is_movie.kept
      (all_append (λ (k : Content). is_among kinds k.kind ≡ false) (trak_contents tracks) (movie_back tracks duration) (all_traks (λ kind. is_among kinds kind ≡ false) tracks refl) (refl, tt))

  -- The movie's own head is read again.
  pub movie_head_again : (at : ℕ) → movie_head_of (movie_tree at movie tracks duration) ≡ movie
  movie_head_again at =
      movie_again movie (next_track_id tracks) h.is_movie (leaf_fields mvhd (mvhd_payload movie (next_track_id tracks))) (mvhd_again movie (next_track_id tracks) h.is_movie next_fits)
      (kept_among (kept_kinds rules.Movie) (movie_boxes at movie tracks duration)) (movie_kept at)

  -- So are the heads of the tracks.
  pub track_heads_again : (at : ℕ) → map track_head_of (movie_tree at movie tracks duration).tracks ≡ tracks
  track_heads_again at = all_heads (at + 8 + length (written (movie_front movie tracks))) tracks h.are_tracks traks_small

  -- Each track has the `trex` that was written.
  pub trexes_again : (at : ℕ) → trexes_of (movie_tree at movie tracks duration) ≡ normal_trexes tracks
  trexes_again at =
      at_mvex (λ bs. map (λ (b : Box). trex_of b.payload) (of_kind (codes "trex") (extends_in bs tracks duration)) ≡ normal_trexes tracks) at
      (λ n. all_trexes_say (n + 8 + (8 + length (mehd_payload duration))) tracks h.are_tracks)

  -- The leaves of a written `moov` are sound.
  pub movie_leaves_sound : (at : ℕ) → IsSoundMovie (movie_tree at movie tracks duration)
  movie_leaves_sound at =
      let Unread = λ (kind : List ℕ). leaf_of (ruled rules.Movie) kind ≡ None in
      let Sound = λ (k : Content). IsSoundAs (leaf_of (ruled rules.Movie) k.kind) k.payload in
      record {
        movie = sound_placed (ruled rules.Movie) (at + 8) (movie_contents movie tracks duration)
            (all_append Sound (movie_front movie tracks) (trak_contents tracks ++ movie_back tracks duration)
            (mvhd_sound movie (next_track_id tracks) h.is_movie next_fits, unread (ruled rules.Movie) (contents_of movie.kept) (all_kept Unread (kept_kinds rules.Movie) movie.kept (each_same (leaf_of (ruled rules.Movie)) None (kept_kinds rules.Movie) refl) h.is_movie.kept))
            (all_append Sound (trak_contents tracks) (movie_back tracks duration) (unread (ruled rules.Movie) (trak_contents tracks) (all_traks Unread tracks refl)) (tt, tt)));
        kept = subst (λ (l : List Kept). NameNoItems l) (sym (movie_kept at)) (name_none (kept_kinds rules.Movie) movie.kept h.is_movie.kept);
        tracks = all_sound (at + 8 + length (written (movie_front movie tracks))) tracks h.are_tracks traks_small;
        track_ids = ap (λ (l : List TrackHead). are_distinct (map (λ (t : TrackHead). t.id) l)) (track_heads_again at) ∙ h.distinct;
        extends = at_mvex (λ bs. AreSound (ruled rules.MovieExtends) (extends_in bs tracks duration)) at
            (λ n. sound_placed (ruled rules.MovieExtends) (n + 8) (extends_contents tracks duration) (tt, trexes_sound tracks));
        trex_ids = ap (λ (l : List Trex). are_distinct (map (λ (x : Trex). x.id) l)) (trexes_again at) ∙ ap are_distinct (trex_ids_are tracks) ∙ h.distinct;
      }
