-- A file that was read whole: what was kept is what its boxes say.
use Rattle.std.proofs.Common.{◌≡◌, ℕ, zero, suc, ◌+◌, ◌-◌, ◌^◌, ◌<◌, ◌≤◌, min, Bool, List, [], ◌∷◌, ◌++◌, length, take, slice_index_or, map, refl, sym, ap, subst, ◌∙◌, arith}
use Rattle.std.specs.Prelude.{codes, IsTrue}
use Rattle.std.specs.List.{AllByRecursion, AllZip}
use Rattle.std.proofs.lemmas.List.{append-nil, length-map, take_all}
use Rattle.mp4_boxes.specs.format.Bytes.{AreBytes}
use Rattle.mp4_boxes.specs.format.Box.{Box}
use Rattle.mp4_boxes.specs.format.Layout.{mdhd}
use Rattle.mp4_boxes.specs.format.Places.{ruled}
use Rattle.mp4_boxes.specs.declared.rule.Rule.TheVariants as rules
use Rattle.mp4_boxes.proofs.Refusing.{holds_only}
use Rattle.mp4_boxes.proofs.Sound.{sound_one}
use Rattle.mp4_boxes.proofs.Plain.{eqb_zero, head_is, tail_is}
use Rattle.mp4_tables.specs.words.Keys.{keys_seen}
use Rattle.mp4_tables.specs.format.PlainSamples.{PlacedSample}
use Rattle.mp4_frag.specs.format.FragmentSamples.{start_of, duration_of, bytes_of, fragment_samples}
use Rattle.mp4_frag.specs.words.Judged.{TrackSeen, track_seen}
use Rattle.mp4_frag.specs.declared.state.TrackState.{TrackState}
use Rattle.mp4_frag.specs.declared.trex.Trex.{Trex}
use Rattle.mp4_head.specs.words.Found.{SaysHead}
use Rattle.mp4_head.specs.format.Head as heads
use Rattle.mp4_head.specs.format.Tree.{TrackTree, MovieTree, IsTrackTree, IsSoundTrack, track_head_of, trexes_of}
use Rattle.mp4_head.specs.declared.heads.MovieHead.{MovieHead}
use Rattle.mp4_head.specs.declared.heads.TrackHead.{TrackHead}
use Rattle.mp4_present.specs.declared.opening.FoundTracks.{FoundTracks}
use Rattle.mp4_present.specs.format.Denotes.{Denotes, FileTree, IsFileTree, IsSoundFile, IsConsistent, sample_of, plain_of, placed_of, first_due, track_of, file_parts, presentation_of}
use Rattle.mp4_present.specs.words.Measured.{IsMeasured, AreMeasured, IsMeasure}
use Rattle.mp4_boxes.proofs.Each.{each_from}
use Rattle.mp4_present.specs.words.OpenedMovie.{IsInfoBy, AreInfosBy, IsInfoOf, IsOpenedAs, IsReadSound, kept_of, plain_seen}
use Rattle.mp4_present.specs.words.OwnTrafs.{own_seen, AreOwn}
use Rattle.mp4_present.specs.words.PassedMoofs.{IsBegun, IsPassed}
use Rattle.mp4_present.specs.words.Passing.{seen_behind}
use Rattle.mp4_present.specs.format.Presentation.{Track, IsInTime, total_duration, end_time, movie_length, normal_moov_length, max_moov}
use Rattle.mp4_present.specs.words.TrackTrees.{IsTrackOf, AreTracksOf, HaveTables}
use Rattle.mp4_present.specs.declared.opening.outline.Outline.{Outline}
use Rattle.mp4_present.specs.declared.opening.tables_pass.PlainTracks.{PlainTracks}
use Rattle.mp4_present.specs.declared.track_info.TrackInfo.{TrackInfo}
use Rattle.mp4_present.proofs.MoofBehind.{begins_behind}
use Rattle.mp4_present.proofs.MoofSound.{can_hand_out}
use Rattle.mp4_present.proofs.SampleTotals.{few_samples}
use Rattle.mp4_present.proofs.Opened.{IsRead, its_moov, tracks_read}
use Rattle.mp4_frag.proofs.RunsTied.{duration-append}
use Rattle.mp4_tables.proofs.Sums.{sum_joined as sum-append}
use Rattle.mp4_present.proofs.ToldTrees.{read_tree, shown_own}

-- ---- behind the tables

start_none : (plain : List PlacedSample) → start_of plain [] ≡ 0
start_none [] = refl
start_none (s ∷ plain) = refl

-- a track behind its tables is one behind no parts
seen_same : (movie : MovieTree) (t : TrackTree) → plain_seen (trexes_of movie) t ≡ seen_behind movie [] t
seen_same movie t =
    let start = sym (start_none (plain_of t)) in
    let count : length (plain_of t) ≡ length (placed_of [] t) = ap (λ (ss : List PlacedSample). length ss) (sym (append-nil (plain_of t))) in
    let time : duration_of (plain_of t) ≡ first_due [] t + duration_of (fragment_samples (track_head_of t).id []) = last (duration_of (plain_of t)) ∙ ap (λ (n : ℕ). (n + duration_of (plain_of t)) + 0) start in
    let bytes : bytes_of (plain_of t) ≡ bytes_of (plain_of t) + bytes_of (fragment_samples (track_head_of t).id []) = none_more (bytes_of (plain_of t)) in
    λ i. record (seen_behind movie [] t) { start = start i; count = count i; time = time i; bytes = bytes i }
  where
    last : (n : ℕ) → n ≡ (0 + n) + 0
    last n = omega arith

    none_more : (n : ℕ) → n ≡ n + 0
    none_more n = omega arith

pub all_same : (movie : MovieTree) (tracks : List TrackTree) → map (plain_seen (trexes_of movie)) tracks ≡ map (seen_behind movie []) tracks
all_same movie [] = refl
all_same movie (t ∷ tracks) = λ i. seen_same movie t i ∷ all_same movie tracks i

module _ (honest : Bool) (file : List ℕ) (o : Outline) (moov : List ℕ) (b : Box) (head : MovieHead) (plain : PlainTracks) (r : IsRead honest file o moov b) (says : SaysHead b head) (bytes : AreBytes moov)
    (file_length : ℕ) (e : file_length ≡ length file) (tables : (trees : List TrackTree) → AreTracksOf trees head.tracks.items → HaveTables file_length b.payload head.trexes.items trees plain) (told : IsTrue honest) where
  abbrev pub movie : MovieTree
  movie = says.has.tree

  abbrev pub boxes : List Box
  boxes = (r.outline told).0

  pub trexes_are : head.trexes.items ≡ trexes_of movie
  trexes_are = ap (λ (x : heads.Head). x.trexes) says.has.says

  payload_is : b.payload ≡ moov
  payload_is = ap (λ (x : Box). x.payload) r.is

  pub have : HaveTables (length file) moov (trexes_of movie) movie.tracks plain
  have =
      subst (λ (n : ℕ). HaveTables n moov (trexes_of movie) movie.tracks plain) e
      (subst (λ (xs : List Trex). HaveTables file_length moov xs movie.tracks plain) trexes_are
      (subst (λ (bs : List ℕ). HaveTables file_length bs head.trexes.items movie.tracks plain) payload_is (tables movie.tracks (tracks_read b head says))))

  pub begun : IsBegun file movie boxes plain.states.items plain.room
  begun =
      let k = r.outline told in
      record {
        holds = k.1;
        order = k.2;
        is_moov = its_moov honest file o moov b r told ∙ ap (λ (x : Box). x ∷ []) (sym says.has.is_moov);
        movie_is = record { tree = says.has.is_tree; sound = says.has.is_sound; tables_sound = have.sound; tables_fit = have.fit };
        bytes = subst (λ (x : Box). AreBytes x.payload) (sym says.has.is_moov) (subst AreBytes (sym payload_is) bytes);
        behind = begins_behind file movie plain.states.items plain.room (have.states ∙ all_same movie movie.tracks) have.room;
      }

-- ---- behind all samples

pub total_is : (file : List ℕ) (samples : List PlacedSample) → total_duration (map (sample_of file) samples) ≡ duration_of samples
total_is file [] = refl
total_is file (s ∷ samples) = ap (λ (n : ℕ). s.duration + n) (total_is file samples)

-- a track's timescale is not 0
pub timescale_there : (t : TrackTree) → IsTrackTree t → IsSoundTrack t → 0 < (track_head_of t).media.timescale
timescale_there t k s = eqb_zero _ (sound_one (ruled rules.Media) (codes "mdhd") mdhd refl t.media s.media (holds_only k.media (codes "mdhd") refl)).value

-- what is read of a sound tree
pub read_sound : (file : List ℕ) (t : FileTree) → IsFileTree file t → IsSoundFile t → IsReadSound t
read_sound file t h s = record {
  fragments = s.fragments;
  timescales = each_from IsTrackTree IsSoundTrack (λ (u : TrackTree). 0 < (track_head_of u).media.timescale) timescale_there t.movie.tracks h.movie.tracks s.movie.tracks;
  track_ids = s.movie.track_ids;
}

module _ (file : List ℕ) (tree : FileTree) (t : TrackTree) (h : TrackHead) (s : TrackState) (i : IsTrackOf t h) (e : track_seen s ≡ seen_behind tree.movie (file_parts tree) t) where
  abbrev track : Track
  track = track_of file (file_parts tree) t

  start_is : s.start ≡ track.start
  start_is = ap (λ (x : TrackSeen). x.start) e

  total_of : total_duration track.samples ≡ duration_of (plain_of t) + duration_of (fragment_samples (track_head_of t).id (file_parts tree))
  total_of = total_is file (placed_of (file_parts tree) t) ∙ duration-append (plain_of t) (fragment_samples (track_head_of t).id (file_parts tree))

  end_is : s.time ≡ end_time track
  end_is = sums s.time track.start _ _ (total_duration track.samples) (ap (λ (x : TrackSeen). x.time) e) total_of
    where
      sums : (time start plain more total : ℕ) → time ≡ (start + plain) + more → total ≡ plain + more → time ≡ start + total
      sums time start plain more total p q = omega arith

  measured : IsMeasured track h s
  measured = record { head = sym i.says; timescale = subst (λ (x : heads.TrackHead). 0 < x.media.timescale) (sym i.says) (timescale_there t i.tree i.sound); start = start_is; end = end_is }

  info_is : (info : TrackInfo) (timescale : ℕ) → IsInTime timescale track → IsInfoBy h s info → IsInfoOf file tree t info
  info_is info timescale within by = record {
    id = by.id ∙ ap (λ (x : heads.TrackHead). x.id) i.says;
    timescale = by.timescale ∙ ap (λ (x : heads.TrackHead). x.media.timescale) i.says;
    start = by.start ∙ start_is;
    samples = by.samples ∙ ap (λ (x : TrackSeen). x.count) e ∙ sym (length-map (placed_of (file_parts tree) t) (sample_of file));
    duration = lasts info.duration s.time s.start track.start (total_duration track.samples) by.duration start_is end_is within.0;
    bytes = by.bytes ∙ ap (λ (x : TrackSeen). x.bytes) e ∙ sym (sum-append (λ (x : PlacedSample). x.size) (plain_of t) (fragment_samples (track_head_of t).id (file_parts tree)));
    keys = ap keys_seen by.keys ∙ ap (λ (x : TrackSeen). x.keys) e;
  }
    where
      lasts : (d time start begun total : ℕ) → d ≡ min (time - start) (2 ^ 64 - 1) → start ≡ begun → time ≡ begun + total → begun + total ≤ 2 ^ 63 - 1 → d ≡ total
      lasts d time start begun total p q r w = omega arith

-- the same of all tracks
pub all_measured : (file : List ℕ) (tree : FileTree) (trees : List TrackTree) (hs : List TrackHead) (ss : List TrackState) → AreTracksOf trees hs → map track_seen ss ≡ map (seen_behind tree.movie (file_parts tree)) trees
    → AreMeasured (map (track_of file (file_parts tree)) trees) hs ss
all_measured file tree [] [] [] z e = tt
all_measured file tree [] (h ∷ hs) ss z e = absurd z
all_measured file tree (t ∷ trees) [] ss z e = absurd z
all_measured file tree [] [] (s ∷ ss) z e = absurd cc
all_measured file tree (t ∷ trees) (h ∷ hs) [] z e = absurd cc
all_measured file tree (t ∷ trees) (h ∷ hs) (s ∷ ss) z e =
    let f = seen_behind tree.movie (file_parts tree) in
    (measured file tree t h s z.0 (head_is (track_seen s) (f t) (map track_seen ss) (map f trees) e), all_measured file tree trees hs ss z.1 (tail_is (track_seen s) (f t) (map track_seen ss) (map f trees) e))

pub all_infos : (file : List ℕ) (tree : FileTree) (timescale : ℕ) (trees : List TrackTree) (hs : List TrackHead) (ss : List TrackState) (infos : List TrackInfo) → AreTracksOf trees hs → map track_seen ss ≡ map (seen_behind tree.movie (file_parts tree)) trees
    → AllByRecursion (IsInTime timescale) (map (track_of file (file_parts tree)) trees) → AreInfosBy hs ss infos → AllZip (IsInfoOf file tree) trees infos
all_infos file tree timescale [] [] [] [] z e w q = tt
all_infos file tree timescale [] [] [] (x ∷ infos) z e w q = absurd q
all_infos file tree timescale [] [] (s ∷ ss) infos z e w q = absurd cc
all_infos file tree timescale [] (h ∷ hs) ss infos z e w q = absurd z
all_infos file tree timescale (t ∷ trees) [] ss infos z e w q = absurd z
all_infos file tree timescale (t ∷ trees) (h ∷ hs) [] infos z e w q = absurd cc
all_infos file tree timescale (t ∷ trees) (h ∷ hs) (s ∷ ss) [] z e w q = absurd q
all_infos file tree timescale (t ∷ trees) (h ∷ hs) (s ∷ ss) (x ∷ infos) z e w q =
    let f = seen_behind tree.movie (file_parts tree) in (
      info_is file tree t h s z.0 (head_is (track_seen s) (f t) (map track_seen ss) (map f trees) e) x timescale w.0 q.0,
      all_infos file tree timescale trees hs ss infos z.1 (tail_is (track_seen s) (f t) (map track_seen ss) (map f trees) e) w.1 q.1,
    )

-- ---- one more track in numbers

pub infos_more : (hs : List TrackHead) (ss : List TrackState) (infos : List TrackInfo) (h : TrackHead) (s : TrackState) (x : TrackInfo) → AreInfosBy hs ss infos → IsInfoBy h s x → AreInfosBy (hs ++ h ∷ []) (ss ++ s ∷ []) (infos ++ x ∷ [])
infos_more [] [] [] h s x a i = (i, tt)
infos_more [] [] (y ∷ infos) h s x a i = absurd a
infos_more [] (t ∷ ss) infos h s x a i = absurd a
infos_more (g ∷ hs) [] infos h s x a i = absurd a
infos_more (g ∷ hs) (t ∷ ss) [] h s x a i = absurd a
infos_more (g ∷ hs) (t ∷ ss) (y ∷ infos) h s x a i = (a.0, infos_more hs ss infos h s x a.1 i)

-- the first values of a list, and one more
pub take_one : {A : Type 0} (xs : List A) (k : ℕ) (x : A) → k < length xs → x ≡ slice_index_or xs k x → take (suc k) xs ≡ take k xs ++ x ∷ []
take_one [] k x lt e = absurd (omega (arith, lt))
take_one (y ∷ xs) zero x lt e = ap (λ z. z ∷ []) (sym e)
take_one (y ∷ xs) (suc k) x lt e = ap (λ zs. y ∷ zs) (take_one xs k x (omega (arith, lt)) e)

pub infos_next : (hs : List TrackHead) (ss : List TrackState) (infos new : List TrackInfo) (k : ℕ) (h : TrackHead) (s : TrackState) (x : TrackInfo) → length ss ≡ length hs → k < length hs
    → h ≡ slice_index_or hs k h → s ≡ slice_index_or ss k s → AreInfosBy (take k hs) (take k ss) infos → IsInfoBy h s x → new ≡ infos ++ x ∷ [] → AreInfosBy (take (k + 1) hs) (take (k + 1) ss) new
infos_next hs ss infos new k h s x n lt eh es a i e =
    let all = infos_more (take k hs) (take k ss) infos h s x a i in
    let first = take_one hs k h lt eh in
    let second = take_one ss k s (omega (arith, lt, n)) es in
    let next : suc k ≡ k + 1 = omega arith in
    subst (λ (j : ℕ). AreInfosBy (take j hs) (take j ss) new) next (subst (λ (xs : List TrackInfo). AreInfosBy (take (suc k) hs) (take (suc k) ss) xs) (sym e)
    (subst (λ (hs' : List TrackHead). AreInfosBy hs' (take (suc k) ss) (infos ++ x ∷ [])) (sym first)
    (subst (λ (ss' : List TrackState). AreInfosBy (take k hs ++ h ∷ []) ss' (infos ++ x ∷ [])) (sym second) all)))

pub infos_whole : (hs : List TrackHead) (ss : List TrackState) (infos : List TrackInfo) (k : ℕ) → length ss ≡ length hs → length hs ≤ k → AreInfosBy (take k hs) (take k ss) infos → AreInfosBy hs ss infos
infos_whole hs ss infos k n le a =
    subst (λ (ss' : List TrackState). AreInfosBy hs ss' infos) (take_all k ss (omega (arith, n, le)))
    (subst (λ (hs' : List TrackHead). AreInfosBy hs' (take k ss) infos) (take_all k hs le) a)

-- they have the IDs of their heads
pub infos_ids : (hs : List TrackHead) (ss : List TrackState) (infos : List TrackInfo) → AreInfosBy hs ss infos → map (λ (i : TrackInfo). i.id) infos ≡ map (λ (h : TrackHead). h.id) hs
infos_ids [] [] [] a = refl
infos_ids [] [] (y ∷ infos) a = absurd a
infos_ids [] (t ∷ ss) infos a = absurd a
infos_ids (g ∷ hs) [] infos a = absurd a
infos_ids (g ∷ hs) (t ∷ ss) [] a = absurd a
infos_ids (g ∷ hs) (t ∷ ss) (y ∷ infos) a = λ i. a.0.id i ∷ infos_ids hs ss infos a.1 i

-- ---- the whole file

module _ (honest : Bool) (file : List ℕ) (o : Outline) (moov : List ℕ) (b : Box) (head : MovieHead) (plain : PlainTracks) (r : IsRead honest file o moov b) (says : SaysHead b head) (told : IsTrue honest)
    (have : HaveTables (length file) moov (trexes_of says.has.tree) says.has.tree.tracks plain) (begin : IsBegun file says.has.tree (r.outline told).0 plain.states.items plain.room)
    (states : List TrackState) (p : IsPassed file says.has.tree (r.outline told).0 states) where
  abbrev pub tree : FileTree
  tree = record { top = (r.outline told).0; movie = says.has.tree; fragments = p.fragments }

  tracks_are : AreTracksOf says.has.tree.tracks head.tracks.items
  tracks_are = tracks_read b head says

  -- the heads and states are those of the presentation
  pub measure : IsMeasure (presentation_of file tree) head states
  measure = record { movie = sym (ap (λ (x : heads.Head). x.movie) says.has.says); tracks = all_measured file tree says.has.tree.tracks head.tracks.items states tracks_are p.behind.seen }

  pub is_file_tree : IsFileTree file tree
  is_file_tree = record { top = begin.holds; order = begin.order; moov = begin.is_moov; movie = begin.movie_is.tree; moofs = p.moofs; fragments = p.behind.trees }

  pub is_sound_file : IsSoundFile tree
  is_sound_file = record { movie = begin.movie_is.sound; tables = begin.movie_is.tables_sound; fragments = p.behind.sound }

  pub is_consistent_file : IsConsistent file tree
  is_consistent_file = record {
    tables = begin.movie_is.tables_fit;
    known = p.behind.consistent.known;
    indexes = p.behind.consistent.indexes;
    places = p.behind.consistent.places;
    groups = p.behind.consistent.groups;
    times = p.behind.consistent.times;
  }

  -- within the limits
  pub opened_as : (found : FoundTracks) (file_length : ℕ) → found.plain ≡ plain → AllByRecursion (IsInTime (presentation_of file tree).movie.timescale) (presentation_of file tree).tracks
      → found.mehd ≡ movie_length (presentation_of file tree) → normal_moov_length (presentation_of file tree) ≤ max_moov
      → AreInfosBy head.tracks.items states found.tracks.items → AreOwn says.has.tree p.fragments (map own_seen found.own.items) → file_length ≡ length file → IsOpenedAs file (kept_of o moov file_length found) tree
  opened_as found file_length same times longest short infos own e =
      let k = r.outline told in
      let kept : HaveTables (length file) moov (trexes_of says.has.tree) says.has.tree.tracks found.plain = subst (λ (x : PlainTracks). HaveTables (length file) moov (trexes_of says.has.tree) says.has.tree.tracks x) (sym same) have in
      record {
        shown = shown_own file tree (record { is_tree = is_file_tree; is_sound = is_sound_file; is_consistent = is_consistent_file; bytes = record { moov = begin.bytes; moofs = p.bytes } });
        is_tree = read_tree file tree is_file_tree;
        is_sound = read_sound file tree is_file_tree is_sound_file;
        hands_out = can_hand_out file tree is_consistent_file found.plain.states.items kept.states;
        limits = record { samples = few_samples file tree states p.room begin.movie_is p.behind; times = times; moov = short };
        whole = e;
        moov = sym r.is ∙ sym says.has.is_moov;
        longest_is = k.3.longest;
        moofs = k.3.moofs;
        tables = kept.tables;
        states = kept.states;
        tracks = all_infos file tree (presentation_of file tree).movie.timescale says.has.tree.tracks head.tracks.items states found.tracks.items tracks_are p.behind.seen times infos;
        own = own;
        mehd = longest;
      }

  -- so it denotes their presentation
  pub denoted : AllByRecursion (IsInTime (presentation_of file tree).movie.timescale) (presentation_of file tree).tracks → normal_moov_length (presentation_of file tree) ≤ max_moov → Denotes file (presentation_of file tree)
  denoted times short = record {
    tree = tree;
    is_tree = is_file_tree;
    is_sound = is_sound_file;
    is_consistent = is_consistent_file;
    says = refl;
    limits = record { samples = few_samples file tree states p.room begin.movie_is p.behind; times = times; moov = short };
  }
