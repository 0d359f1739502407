-- A file whose tracks are told to wait has boxes that say it.
use Rattle.std.proofs.Common.{◌≡◌, ℕ, ◌+◌, ◌^◌, ◌<◌, ◌≤◌, ◌==◌, Bool, true, false, if◌then◌else◌, List, [], ◌∷◌, length, map, Option, None, Some, refl, sym, ap, subst, ◌∙◌, arith, lit<}
use Rattle.std.specs.Prelude.{codes, pos, negsuc}
use Rattle.std.specs.List.{AllByRecursion, AllZip}
use Rattle.mp4_boxes.specs.format.Bytes.{sum_of}
use Rattle.mp4_boxes.specs.format.Box.{Box}
use Rattle.mp4_boxes.specs.format.Children.{payload_if}
use Rattle.mp4_boxes.specs.format.Layout.{mvhd, leaf_fields}
use Rattle.mp4_tables.specs.format.TableRules.{Fit}
use Rattle.mp4_tables.specs.format.Tables.{tables_of}
use Rattle.mp4_frag.specs.words.OwnTrafs.{OwnSeen}
use Rattle.mp4_head.specs.format.Head as heads
use Rattle.mp4_head.specs.format.Head.{Edit, IsMovieHead}
use Rattle.mp4_head.specs.format.Tree.{TrackTree, are_distinct, edits_of, movie_head_of, track_head_of, trexes_of}
use Rattle.mp4_head.proofs.Distinct.{map_twice}
use Rattle.mp4_head.proofs.TreeBytes.{movie_of_bytes}
use Rattle.mp4_head.proofs.ValidHead.{movie_head_valid}
use Rattle.mp4_head.proofs.WrittenLeaves.{edits_again, elst_payload, movie_again, mvhd_again, mvhd_payload}
use Rattle.mp4_present.specs.format.Denotes.{FileTree, file_parts, presentation_of, surroundings, track_of}
use Rattle.mp4_present.specs.format.Presentation.{Track, max_samples}
use Rattle.mp4_present.specs.format.Waiting.{waiting, waiting_movie}
use Rattle.mp4_present.specs.words.Movies.{MovieSeen}
use Rattle.mp4_present.specs.words.OneTrack.{only_tree}
use Rattle.mp4_present.specs.words.OpenedMovie.{AreTablesOf, CanHandOut, HoldsTrack, IsInfoOf, IsOpenedAs, IsShownOf, IsTreeOf, plain_seen}
use Rattle.mp4_present.specs.words.OwnTrafs.{IsOwn}
use Rattle.mp4_present.specs.words.ToldTrees.{AreTracksTold, IsFileTold, IsTold, first_wait, later_waits}
use Rattle.mp4_present.specs.words.Waits.{HasLimits, PassesNoLimit}
use Rattle.mp4_present.specs.declared.movie.TrackTables.{TrackTables}
use Rattle.mp4_present.specs.declared.track_info.TrackInfo.{TrackInfo}
use Rattle.mp4_present.proofs.ToldTrees.{shown_told, told_said}

-- ---- the edits

abbrev Fits : ℕ → Type 0
Fits wait = wait < 2 ^ 64

abbrev two_edits : ℕ → List Edit
two_edits wait = record { segment_duration = wait; media_time = negsuc 0; rate_integer = pos 1; rate_fraction = pos 0 } ∷ record { segment_duration = 0; media_time = pos 0; rate_integer = pos 1; rate_fraction = pos 0 } ∷ []

-- the boxes in `edts`
abbrev waiting_boxes_if : Bool → ℕ → List Box
waiting_boxes_if b wait = if b then [] else record { kind = codes "elst"; offset = 0; header = 8; payload = elst_payload (two_edits wait) } ∷ []

abbrev waiting_boxes : ℕ → List Box
waiting_boxes wait = waiting_boxes_if (wait == 0) wait

boxes_say : (wait : ℕ) → Fits wait → edits_of (payload_if (codes "elst") (waiting_boxes wait)) ≡ waiting wait
boxes_say wait fits = by (wait == 0)
  where
    by : (b : Bool) → edits_of (payload_if (codes "elst") (waiting_boxes_if b wait)) ≡ (if b then [] else two_edits wait)
    by true = refl
    by false = edits_again (two_edits wait) (
      record { segment_duration = fits; media_time = omega arith; rate_integer = omega arith; rate_fraction = omega arith },
      (record { segment_duration = lit< tt; media_time = omega arith; rate_integer = omega arith; rate_fraction = omega arith }, tt),
    ) (lit< tt)

-- ---- the tracks

abbrev waiting_trees : List ℕ → List TrackTree → List TrackTree
waiting_trees waits [] = []
waiting_trees waits (t ∷ ts) = record t { edits = waiting_boxes (first_wait waits) } ∷ waiting_trees (later_waits waits) ts

first_fits : (waits : List ℕ) → AllByRecursion Fits waits → Fits (first_wait waits)
first_fits [] h = lit< tt
first_fits (wait ∷ waits) h = h.0

later_fit : (waits : List ℕ) → AllByRecursion Fits waits → AllByRecursion Fits (later_waits waits)
later_fit [] h = tt
later_fit (wait ∷ waits) h = h.1

tracks_told : (waits : List ℕ) (ts : List TrackTree) → AllByRecursion Fits waits → AreTracksTold waits ts (waiting_trees waits ts)
tracks_told waits [] h = tt
tracks_told waits (t ∷ ts) h = (
  record { is = refl; head = λ i. record (track_head_of t) { edits = boxes_say (first_wait waits) (first_fits waits h) i } },
  tracks_told (later_waits waits) ts (later_fit waits h),
)

-- what is so of each stays so
each_told : (P Q : TrackTree → Type 0) → ((t : TrackTree) (edits : List Box) → P t → Q (record t { edits = edits })) → (waits : List ℕ) (ts : List TrackTree) → AllByRecursion P ts → AllByRecursion Q (waiting_trees waits ts)
each_told P Q f waits [] h = tt
each_told P Q f waits (t ∷ ts) h = (f t (waiting_boxes (first_wait waits)) h.0, each_told P Q f (later_waits waits) ts h.1)

zip_told : {B : Type 0} (P Q : TrackTree → B → Type 0) → ((t : TrackTree) (edits : List Box) (y : B) → P t y → Q (record t { edits = edits }) y) → (waits : List ℕ) (ts : List TrackTree) (ys : List B) → AllZip P ts ys → AllZip Q (waiting_trees waits ts) ys
zip_told P Q f waits [] [] h = tt
zip_told P Q f waits [] (y ∷ ys) h = absurd h
zip_told P Q f waits (t ∷ ts) [] h = absurd h
zip_told P Q f waits (t ∷ ts) (y ∷ ys) h = (f t (waiting_boxes (first_wait waits)) y h.0, zip_told P Q f (later_waits waits) ts ys h.1)

map_told : {B : Type 0} (f g : TrackTree → B) → ((t : TrackTree) (edits : List Box) → g (record t { edits = edits }) ≡ f t) → (waits : List ℕ) (ts : List TrackTree) → map g (waiting_trees waits ts) ≡ map f ts
map_told f g same waits [] = refl
map_told f g same waits (t ∷ ts) = λ i. same t (waiting_boxes (first_wait waits)) i ∷ map_told f g same (later_waits waits) ts i

-- ---- the file

abbrev waiting_box : heads.MovieHead → Box
waiting_box h = record { kind = codes "mvhd"; offset = 0; header = 8; payload = mvhd_payload (waiting_movie h) 1 }

abbrev waiting_tree : List ℕ → FileTree → FileTree
waiting_tree waits t = record t { movie = record t.movie { movie = waiting_box (movie_head_of t.movie) ∷ t.movie.movie; tracks = waiting_trees waits t.movie.tracks } }

module _ (waits : List ℕ) (file : List ℕ) (m : MovieSeen) (tree : FileTree) (o : IsOpenedAs file m tree) (own : m.waits ≡ None) (fits : AllByRecursion Fits waits) where
  abbrev pub told : FileTree
  told = waiting_tree waits tree

  -- the tree is that of the file, with all of its tracks or one
  own_is : (own_tree : FileTree) × IsTreeOf file own_tree × (tree ≡ only_tree m.only own_tree)
  unfolding IsShownOf
  own_is = (o.shown.0, o.shown.1, subst (λ (w : Option (List ℕ)). IsTold w (only_tree m.only o.shown.0) tree) own o.shown.2)

  head_valid : IsMovieHead (movie_head_of tree.movie)
  head_valid =
      let t = own_is in
      let valid = movie_head_valid t.0.movie (movie_of_bytes t.0.movie t.1.bytes.moov t.1.is_tree.movie) t.1.is_tree.movie t.1.is_sound.movie in
      subst (λ (x : FileTree). IsMovieHead (movie_head_of x.movie)) (sym t.2) valid

  waiting_valid : IsMovieHead (waiting_movie (movie_head_of tree.movie))
  waiting_valid =
      let h = head_valid in
      record { creation = h.creation; modification = h.modification; timescale = lit< tt; timescale_not_0 = lit< tt; rate = h.rate; volume = h.volume; matrix = h.matrix; kept = h.kept }

  pub is_told : IsFileTold waits tree told
  is_told =
      let head = waiting_movie (movie_head_of tree.movie) in
      record {
        is = refl;
        movie = record {
          is = refl;
          head = movie_again head 1 waiting_valid (leaf_fields mvhd (mvhd_payload head 1)) (mvhd_again head 1 waiting_valid (lit< tt)) head.kept refl;
          tracks = tracks_told waits tree.movie.tracks fits;
        };
      }

  is_shown : IsShownOf file m.only (Some waits) told
  is_shown = shown_told file waits m.only tree told (subst (λ (w : Option (List ℕ)). IsShownOf file m.only w tree) own o.shown) is_told

  infos_stay : (t : TrackTree) (edits : List Box) (info : TrackInfo) → IsInfoOf file tree t info → IsInfoOf file told (record t { edits = edits }) info
  infos_stay t edits info i = record { id = i.id; timescale = i.timescale; start = i.start; samples = i.samples; duration = i.duration; bytes = i.bytes; keys = i.keys }

  tables_stay : (t : TrackTree) (edits : List Box) (found : TrackTables) → AreTablesOf m.moov t found → AreTablesOf m.moov (record t { edits = edits }) found
  tables_stay t edits found a = record { bytes = a.bytes; says = a.says }

  owns_stay : (t : TrackTree) (edits : List Box) (seen : OwnSeen) → IsOwn tree.movie (track_head_of t).id tree.fragments seen → IsOwn told.movie (track_head_of (record t { edits = edits })).id told.fragments seen
  owns_stay t edits seen own = record { trafs = own.trafs; longest = own.longest }

  infos_are : AllZip (IsInfoOf file told) told.movie.tracks m.tracks
  infos_are = zip_told (IsInfoOf file tree) (IsInfoOf file told) infos_stay waits tree.movie.tracks m.tracks o.tracks

  scales_are : AllByRecursion (λ (t : TrackTree). 0 < (track_head_of t).media.timescale) told.movie.tracks
  scales_are = each_told (λ (t : TrackTree). 0 < (track_head_of t).media.timescale) (λ (t : TrackTree). 0 < (track_head_of t).media.timescale) (λ t edits h. h) waits tree.movie.tracks o.is_sound.timescales

  hands_out : CanHandOut file told
  hands_out =
      let c = o.hands_out in
      record {
        tables = each_told (λ (t : TrackTree). Fit (surroundings file t) (tables_of t.table)) (λ (t : TrackTree). Fit (surroundings file t) (tables_of t.table)) (λ t edits h. h) waits tree.movie.tracks c.tables;
        known = c.known;
        defaults = c.defaults;
        parts = c.parts;
        places = c.places;
        groups = c.groups;
      }

  same_ids : map (λ (x : heads.TrackHead). x.id) (map track_head_of told.movie.tracks) ≡ map (λ (x : heads.TrackHead). x.id) (map track_head_of tree.movie.tracks)
  same_ids =
      map_twice track_head_of (λ (x : heads.TrackHead). x.id) told.movie.tracks
      ∙ map_told (λ (t : TrackTree). (track_head_of t).id) (λ (t : TrackTree). (track_head_of t).id) (λ t edits. refl) waits tree.movie.tracks
      ∙ sym (map_twice track_head_of (λ (x : heads.TrackHead). x.id) tree.movie.tracks)

  all_samples : (us : List TrackTree) (n : List ℕ) → sum_of (λ (t : Track). length t.samples) (map (track_of file (file_parts tree)) (waiting_trees n us)) ≡ sum_of (λ (t : Track). length t.samples) (map (track_of file (file_parts tree)) us)
  all_samples [] n = refl
  all_samples (u ∷ us) n = ap (λ (k : ℕ). length (track_of file (file_parts tree) u).samples + k) (all_samples us (later_waits n))

  -- what is kept of it then
  pub is_opened : (n : ℕ) → PassesNoLimit n (presentation_of file told) → IsOpenedAs file (record m { waits = Some waits; mehd = n }) told
  is_opened n limits = record {
    shown = is_shown;
    is_tree = record {
      top = o.is_tree.top;
      order = o.is_tree.order;
      moov = o.is_tree.moov;
      moofs = o.is_tree.moofs;
      fragments = o.is_tree.fragments;
      tracks = each_told HoldsTrack HoldsTrack (λ t edits h. h) waits tree.movie.tracks o.is_tree.tracks;
    };
    is_sound = record {
      fragments = o.is_sound.fragments;
      timescales = scales_are;
      track_ids = ap are_distinct same_ids ∙ o.is_sound.track_ids;
    };
    hands_out = hands_out;
    limits = record { samples = subst (λ n. n ≤ max_samples) (sym (all_samples tree.movie.tracks waits)) o.limits.samples; times = limits.times; moov = limits.moov };
    whole = o.whole;
    moov = o.moov;
    longest_is = o.longest_is;
    moofs = o.moofs;
    tables = zip_told (AreTablesOf m.moov) (AreTablesOf m.moov) tables_stay waits tree.movie.tracks m.tables o.tables;
    states = o.states ∙ sym (map_told (plain_seen (trexes_of tree.movie)) (plain_seen (trexes_of tree.movie)) (λ t edits. refl) waits tree.movie.tracks);
    tracks = infos_are;
    own = zip_told (λ (t : TrackTree) seen. IsOwn tree.movie (track_head_of t).id tree.fragments seen) (λ (t : TrackTree) seen. IsOwn told.movie (track_head_of t).id told.fragments seen) owns_stay waits tree.movie.tracks m.own o.own;
    mehd = limits.longest;
  }

  -- what it says is within the limits or not
  pub has_limits : (n : ℕ) → HasLimits file (record m { waits = Some waits; mehd = n }) told
  has_limits n = record {
    heads = λ head s. told_said file m tree told waits n head o own is_told s;
    moov = o.moov;
    tracks = infos_are;
    timescales = scales_are;
  }
