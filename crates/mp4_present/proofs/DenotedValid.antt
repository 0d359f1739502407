-- What bytes denote is valid.
use Rattle.std.proofs.Common.{ℕ, List, [], ◌∷◌, length, sym, ap, subst, ◌∙◌, arith}
use Rattle.std.specs.Prelude.{codes, map}
use Rattle.std.specs.List.{AllByRecursion}
use Rattle.std.proofs.lemmas.List.{length-map}
use Rattle.mp4_boxes.specs.format.Bytes.{AreBytes}
use Rattle.mp4_boxes.specs.format.Box.{Box, file_container}
use Rattle.mp4_boxes.specs.format.Places.{ruled, AreSound}
use Rattle.mp4_boxes.specs.declared.rule.Rule.TheVariants as rules
use Rattle.mp4_boxes.proofs.Among.{IsIn, all_in}
use Rattle.mp4_boxes.proofs.Each.{each_value, each_member}
use Rattle.mp4_boxes.proofs.OfBytes.{tiled_of_bytes, payloads_of_bytes}
use Rattle.mp4_frag.specs.format.Fragments.{FragmentTree}
use Rattle.mp4_head.specs.format.Head.{TrackHead, IsMovieHead}
use Rattle.mp4_head.specs.format.Tree.{TrackTree, IsTrackTree, IsSoundTrack, are_distinct}
use Rattle.mp4_head.proofs.Distinct.{map_twice}
use Rattle.mp4_head.proofs.TreeBytes.{TrackOfBytes, movie_of_bytes}
use Rattle.mp4_head.proofs.ValidHead.{track_head_valid, movie_head_valid}
use Rattle.mp4_present.specs.format.Presentation.{Presentation, Track, IsSample, IsTrack, Valid, heads}
use Rattle.mp4_present.specs.format.Denotes.{FileTree, IsFileTree, Denotes, plain_of, file_parts, parts_of_track, placed_of, sample_of, track_of}
use Rattle.mp4_present.specs.words.SamplesComing.{track_keys}
use Rattle.mp4_present.specs.words.OpenedMovie.{AreOfBytes}
use Rattle.mp4_present.proofs.PlacedTracks.{IsTrackPlaced, track_placed}
use Rattle.mp4_present.proofs.ValidSamples.{IsOfTrack, sample_valid, keys_few, starts_at_0}

each_mapped : {A B : Type 0} (P : B → Type 0) (f : A → B) (xs : List A) → AllByRecursion P (map f xs) → AllByRecursion (λ x. P (f x)) xs
each_mapped P f [] h = tt
each_mapped P f (x ∷ xs) h = (h.0, each_mapped P f xs h.1)

-- the `moov` and each `moof` of a file of bytes is of bytes
pub tree_of_bytes : (file : List ℕ) (t : FileTree) → IsFileTree file t → AreBytes file → AreOfBytes t
tree_of_bytes file t h bytes =
    let top = tiled_of_bytes (file_container file) t.top bytes h.top.tiles in
    let each = λ (bs : List Box). AllByRecursion (λ (b : Box). AreBytes b.payload) bs in
    let moofs = subst each (sym h.moofs) (payloads_of_bytes (codes "moof") t.top top) in
    record { moov = (subst each h.moov (payloads_of_bytes (codes "moov") t.top top)).0; moofs = each_mapped (λ (b : Box). AreBytes b.payload) (λ (f : FragmentTree). f.moof) t.fragments moofs }

-- what a file of bytes says of a track is well formed
track_valid : (file : List ℕ) (p : Presentation) (d : Denotes file p) → AreBytes file → (u : TrackTree) → IsIn d.tree.movie.tracks u → TrackOfBytes u → IsTrackPlaced d.tree u → IsTrack (track_of file (file_parts d.tree) u)
track_valid file p d bytes u i b k =
    let t = d.tree in
    let n = length u.descriptions in
    let tree = all_in IsTrackTree t.movie.tracks u i d.is_tree.movie.tracks in
    let sound = all_in IsSoundTrack t.movie.tracks u i d.is_sound.movie.tracks in
    let tables = all_in (λ (v : TrackTree). AreSound (ruled rules.SampleTable) v.table) t.movie.tracks u i d.is_sound.tables in
    let keys = track_keys t u in
    let few = k.few in
    let fewer = keys_few file n keys (placed_of (file_parts t) u) k.placed in
    let samples = each_value (IsOfTrack n keys) (IsSample n) (sample_of file) (λ s h. sample_valid file n keys s bytes h) (placed_of (file_parts t) u) k.placed in
    record {
      head = track_head_valid u b tree sound tables;
      samples = subst (λ (m : ℕ). AllByRecursion (IsSample m) (map (sample_of file) (placed_of (file_parts t) u))) (sym (length-map u.descriptions _)) samples;
      keys = omega (arith, few, fewer);
      empty = λ e. starts_at_0 file (plain_of u) (parts_of_track (file_parts t) u) e;
    }

-- What bytes denote is valid.
pub denoted_is_valid : (file : List ℕ) (p : Presentation) → AreBytes file → Denotes file p → Valid p
denoted_is_valid file p bytes d =
    let t = d.tree in
    let of_bytes = tree_of_bytes file t d.is_tree bytes in
    let movie = movie_of_bytes t.movie of_bytes.moov d.is_tree.movie in
    let ids = map_twice (track_of file (file_parts t)) (λ (u : Track). u.head) t.movie.tracks in
    let valid : AllByRecursion IsTrack (map (track_of file (file_parts t)) t.movie.tracks) =
    each_value (λ (u : TrackTree). IsTrack (track_of file (file_parts t) u)) IsTrack (track_of file (file_parts t)) (λ u k. k) t.movie.tracks
    (each_member (λ (u : TrackTree). IsTrack (track_of file (file_parts t) u)) t.movie.tracks
    (λ u i. track_valid file p d bytes u i (all_in TrackOfBytes t.movie.tracks u i movie.tracks) (track_placed file t d.is_tree d.is_sound d.is_consistent of_bytes u i))) in
    let says = d.says in
    record {
      movie = subst (λ (q : Presentation). IsMovieHead q.movie) (sym says) (movie_head_valid t.movie movie d.is_tree.movie d.is_sound.movie);
      tracks = subst (λ (q : Presentation). AllByRecursion IsTrack q.tracks) (sym says) valid;
      ids = ap (λ (q : Presentation). are_distinct (map (λ (x : TrackHead). x.id) (heads q))) says ∙ ap (λ (hs : List TrackHead). are_distinct (map (λ (x : TrackHead). x.id) hs)) ids ∙ d.is_sound.movie.track_ids;
      limits = d.limits;
    }
