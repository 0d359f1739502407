-- What is read of the boxes of a file whose tracks are told to wait, or not.
use Rattle.std.proofs.Common.{◌≡◌, ℕ, List, [], ◌∷◌, map, Option, None, Some, refl, sym, ap, subst, ◌∙◌}
use Rattle.std.specs.List.{AllByRecursion, AllZip}
use Rattle.mp4_boxes.specs.format.Box.{Box}
use Rattle.mp4_boxes.proofs.Each.{each_weaker}
use Rattle.mp4_boxes.proofs.Among.{IsIn, all_in}
use Rattle.mp4_frag.specs.format.FragmentSamples.{Part, start_of}
use Rattle.mp4_head.specs.format.Head as heads
use Rattle.mp4_head.specs.format.Tree.{IsMovieTree, IsTrackTree, MovieTree, TrackTree, head_of, movie_head_of, track_head_of, trexes_of}
use Rattle.mp4_head.specs.words.Found.{IsFoundIn}
use Rattle.mp4_head.specs.words.Seen.{head_seen}
use Rattle.mp4_head.specs.declared.heads.MovieHead.{MovieHead}
use Rattle.mp4_head.specs.declared.heads.TrackHead.{TrackHead}
use Rattle.mp4_head.proofs.ReadAgain.{said_of}
use Rattle.mp4_present.specs.format.Denotes.{FileTree, Denotes, IsFileTree, file_parts, parts_of_track, placed_of, plain_of, presentation_of, sample_of, track_of}
use Rattle.mp4_present.specs.format.Waiting.{waiting_all, waiting_heads, waiting_movie, waiting_track, waiting_tracks}
use Rattle.mp4_present.specs.words.HeadsRead.{SaysMovie, SaysTree, place_of, places_of, waiting_or}
use Rattle.mp4_present.specs.words.Movies.{MovieSeen, moov_box}
use Rattle.mp4_present.specs.words.OneTrack.{only_head, only_tree, shown_at}
use Rattle.mp4_present.specs.words.OpenedMovie.{HoldsTrack, IsOpenedAs, IsOpenedOwn, IsReadTree, IsShownOf, IsTreeOf}
use Rattle.mp4_present.specs.words.ToldTrees.{AreTracksTold, IsFileTold, IsMovieTold, IsTold, IsTrackTold, later_waits}
use Rattle.mp4_present.proofs.PlacedTracks.{IsTrackPlaced, tracks_placed}
use Rattle.mp4_present.proofs.ShownAt.{all_shown, map_shown}

-- of the file's own
pub read_tree : (file : List ℕ) (t : FileTree) → IsFileTree file t → IsReadTree file t
read_tree file t h = record { top = h.top; order = h.order; moov = h.moov; moofs = h.moofs; fragments = h.fragments; tracks = each_weaker IsTrackTree HoldsTrack (λ u k. k.track) t.movie.tracks h.movie.tracks }

-- it is shown, and so is one that is told to wait
pub shown_own : (file : List ℕ) (t : FileTree) → IsTreeOf file t → IsShownOf file None None t
unfolding IsShownOf
shown_own file t is = (t, is, refl)

-- where they aren't told to wait, they can be told that
pub shown_told : (file waits : List ℕ) (only : Option ℕ) (u t : FileTree) → IsShownOf file only None u → IsFileTold waits u t → IsShownOf file only (Some waits) t
unfolding IsShownOf
shown_told file waits only u t shown told = (shown.0, shown.1, subst (λ (x : FileTree). IsFileTold waits x t) shown.2 told)

-- ---- where all tracks are shown, and not told to wait, the tree is that of the file

pub own_tree : (file : List ℕ) (m : MovieSeen) (tree : FileTree) → IsOpenedAs file m tree → m.only ≡ None → m.waits ≡ None → IsTreeOf file tree
unfolding IsShownOf
own_tree file m tree o e f = by (subst (λ (w : Option (List ℕ)). (own : FileTree) × IsTreeOf file own × IsTold w (only_tree None own) tree) f (subst (λ (p : Option ℕ). (own : FileTree) × IsTreeOf file own × IsTold m.waits (only_tree p own) tree) e o.shown))
  where
    by : (own : FileTree) × IsTreeOf file own × IsTold None (only_tree None own) tree → IsTreeOf file tree
    by x = subst (IsTreeOf file) (sym x.2) x.1

abbrev pub file_denotes : (file : List ℕ) (m : MovieSeen) (tree : FileTree) → IsOpenedOwn file m tree → Denotes file (presentation_of file tree)
file_denotes file m tree o =
    let t = own_tree file m tree o.opened o.own_tracks o.own_edits in
    record { tree = tree; is_tree = t.is_tree; is_sound = t.is_sound; is_consistent = t.is_consistent; says = refl; limits = o.opened.limits }

-- and it is the only one
pub file_tree_is : (file : List ℕ) (m : MovieSeen) (tree : FileTree) → IsOpenedOwn file m tree → IsFileTree file tree
file_tree_is file m tree o = (own_tree file m tree o.opened o.own_tracks o.own_edits).is_tree

-- ---- a tree of which nothing but edits is told otherwise

-- so it is made of the file's
abbrev pub told_tree : FileTree → List Box → List TrackTree → FileTree
told_tree own movie tracks = record own { movie = record own.movie { movie = movie; tracks = tracks } }

pub told_is : (waits : List ℕ) (own t : FileTree) → IsFileTold waits own t → t ≡ told_tree own t.movie.movie t.movie.tracks
told_is waits own t told = told.is ∙ ap (λ (m : MovieTree). record own { movie = m }) told.movie.is

-- samples of a track are placed as before
placed_again : (own : FileTree) (u : TrackTree) (movie : List Box) (tracks : List TrackTree) (edits : List Box) → IsTrackPlaced own u → IsTrackPlaced (told_tree own movie tracks) (record u { edits = edits })
placed_again own u movie tracks edits p = record { placed = p.placed; keys = p.keys; few = p.few; distinct = p.distinct }

all_placed_again : (own : FileTree) (movie : List Box) (tracks : List TrackTree) (waits : List ℕ) (us ts : List TrackTree) → AreTracksTold waits us ts → AllByRecursion (IsTrackPlaced own) us → AllByRecursion (IsTrackPlaced (told_tree own movie tracks)) ts
all_placed_again own movie tracks waits [] [] told h = h
all_placed_again own movie tracks waits [] (t ∷ ts) told h = absurd told
all_placed_again own movie tracks waits (u ∷ us) [] told h = absurd told
all_placed_again own movie tracks waits (u ∷ us) (t ∷ ts) told h = (
  subst (IsTrackPlaced (told_tree own movie tracks)) (sym told.0.is) (placed_again own u movie tracks t.edits h.0),
  all_placed_again own movie tracks (later_waits waits) us ts told.1 h.1,
)

-- those of one track are placed as among all
placed_alone : (own : FileTree) (tracks : List TrackTree) (u : TrackTree) → IsTrackPlaced own u → IsTrackPlaced (told_tree own own.movie.movie tracks) u
placed_alone own tracks u p = record { placed = p.placed; keys = p.keys; few = p.few; distinct = p.distinct }

-- the samples and the keys of each track
pub opened_placed : (file : List ℕ) (m : MovieSeen) (tree : FileTree) → IsOpenedAs file m tree → AllByRecursion (IsTrackPlaced tree) tree.movie.tracks
unfolding IsShownOf
opened_placed file m tree o = by m.waits (only_tree m.only o.shown.0) o.shown.2 placed
  where
    own : FileTree
    own = o.shown.0

    placed : AllByRecursion (IsTrackPlaced (only_tree m.only own)) (shown_at m.only own.movie.tracks)
    placed =
        let is : IsTreeOf file own = o.shown.1 in
        each_weaker (IsTrackPlaced own) (IsTrackPlaced (only_tree m.only own)) (placed_alone own (shown_at m.only own.movie.tracks)) (shown_at m.only own.movie.tracks)
        (all_shown (IsTrackPlaced own) m.only own.movie.tracks (tracks_placed file own is.is_tree is.is_sound is.is_consistent is.bytes))

    by : (w : Option (List ℕ)) (u : FileTree) → IsTold w u tree → AllByRecursion (IsTrackPlaced u) u.movie.tracks → AllByRecursion (IsTrackPlaced tree) tree.movie.tracks
    by None u e h = subst (λ (x : FileTree). AllByRecursion (IsTrackPlaced x) x.movie.tracks) (sym e) h
    by (Some waits) u told h =
        subst (λ (x : FileTree). AllByRecursion (IsTrackPlaced x) tree.movie.tracks) (sym (told_is waits u tree told))
        (all_placed_again u tree.movie.movie tree.movie.tracks waits u.movie.tracks tree.movie.tracks told.movie.tracks h)

pub track_is_placed : (file : List ℕ) (m : MovieSeen) (tree : FileTree) → IsOpenedAs file m tree → (t : TrackTree) → IsIn tree.movie.tracks t → IsTrackPlaced tree t
track_is_placed file m tree o t i = all_in (IsTrackPlaced tree) tree.movie.tracks t i (opened_placed file m tree o)

-- ---- the head

places_found : (trees : List TrackTree) (hs : List TrackHead) → AllZip IsFoundIn trees hs → places_of hs ≡ map place_of trees
places_found [] [] z = refl
places_found [] (h ∷ hs) z = absurd z
places_found (t ∷ trees) [] z = absurd z
places_found (t ∷ trees) (h ∷ hs) z = λ i. z.0.offset i ∷ places_found trees hs z.1 i

pub places_told : (waits : List ℕ) (us ts : List TrackTree) → AreTracksTold waits us ts → map place_of us ≡ map place_of ts
places_told waits [] [] told = refl
places_told waits [] (t ∷ ts) told = absurd told
places_told waits (u ∷ us) [] told = absurd told
places_told waits (u ∷ us) (t ∷ ts) told = λ i. place_of (sym told.0.is i) ∷ places_told (later_waits waits) us ts told.1 i

heads_told : (waits : List ℕ) (us ts : List TrackTree) → AreTracksTold waits us ts → waiting_heads waits (map track_head_of us) ≡ map track_head_of ts
heads_told [] [] [] told = refl
heads_told (wait ∷ waits) [] [] told = refl
heads_told waits [] (t ∷ ts) told = absurd told
heads_told waits (u ∷ us) [] told = absurd told
heads_told [] (u ∷ us) (t ∷ ts) told = λ i. sym told.0.head i ∷ heads_told [] us ts told.1 i
heads_told (wait ∷ waits) (u ∷ us) (t ∷ ts) told = λ i. sym told.0.head i ∷ heads_told waits us ts told.1 i

-- what is said of a tree is said of one that is told to wait, where it says the waits
told_says : (u t : MovieTree) (waits : List ℕ) (head : MovieHead) (seen : heads.Head) → IsMovieTold waits u t → seen ≡ head_of u → head_seen head ≡ waiting_or (Some waits) seen → places_of head.tracks.items ≡ map place_of u.tracks → SaysTree t head
told_says u t waits head seen is said says places = record {
  says = says ∙ ap (waiting_or (Some waits)) said ∙ (λ i. record { movie = sym is.head i; tracks = heads_told waits u.tracks t.tracks is.tracks i; trexes = trexes_of (sym is.is i) });
  places = places ∙ places_told waits u.tracks t.tracks is.tracks;
}

-- what a movie says of the boxes of a file is said of those that it shows
pub shown_says : (m : MovieSeen) (own t : FileTree) (head : MovieHead) → IsMovieTree own.movie → own.movie.moov ≡ moov_box m → IsTold m.waits (only_tree m.only own) t → SaysMovie m head → SaysTree t.movie head
shown_says m own t head is moov told s = by m.waits told s.seen
  where
    u : FileTree
    u = only_tree m.only own

    said : (head_seen s.own ≡ head_of own.movie) × AllZip IsFoundIn own.movie.tracks s.own.tracks.items
    said = said_of (moov_box m) s.own own.movie s.says moov is

    seen : only_head m.only (head_seen s.own) ≡ head_of u.movie
    seen = ap (only_head m.only) said.0 ∙ (λ i. record { movie = movie_head_of own.movie; tracks = sym (map_shown track_head_of m.only own.movie.tracks) i; trexes = trexes_of own.movie })

    places : places_of head.tracks.items ≡ map place_of u.movie.tracks
    places = s.places ∙ ap (shown_at m.only) (places_found own.movie.tracks s.own.tracks.items said.1) ∙ sym (map_shown place_of m.only own.movie.tracks)

    by : (w : Option (List ℕ)) → IsTold w u t → head_seen head ≡ waiting_or w (only_head m.only (head_seen s.own)) → SaysTree t.movie head
    by None e says = subst (λ (x : FileTree). SaysTree x.movie head) (sym e) (record { says = says ∙ seen; places = places })
    by (Some waits) told says = told_says u.movie t.movie waits head (only_head m.only (head_seen s.own)) told.movie seen says places

-- it is the `moov` of the file that is shown
pub moov_told : (w : Option (List ℕ)) (u t : FileTree) → IsTold w u t → u.movie.moov ≡ t.movie.moov
moov_told None u t e = ap (λ (x : FileTree). x.movie.moov) (sym e)
moov_told (Some waits) u t told = ap (λ (x : FileTree). x.movie.moov) (sym (told_is waits u t told))

-- a movie says what the tree says that it shows
pub shown_said : (file : List ℕ) (m : MovieSeen) (tree : FileTree) (head : MovieHead) → IsShownOf file m.only m.waits tree → moov_box m ≡ tree.movie.moov → SaysMovie m head → SaysTree tree.movie head
unfolding IsShownOf
shown_said file m tree head shown moov s =
    let own : FileTree = shown.0 in
    let is : IsTreeOf file own = shown.1 in
    let told : IsTold m.waits (only_tree m.only own) tree = shown.2 in
    shown_says m own tree head is.is_tree.movie (moov_told m.waits (only_tree m.only own) tree told ∙ sym moov) told s

pub tree_said : (file : List ℕ) (m : MovieSeen) (tree : FileTree) (head : MovieHead) → IsOpenedAs file m tree → SaysMovie m head → SaysTree tree.movie head
tree_said file m tree head o s = shown_said file m tree head o.shown o.moov s

-- what a movie says that is told to wait is what the boxes say that tell it
pub told_said : (file : List ℕ) (m : MovieSeen) (tree told : FileTree) (waits : List ℕ) (n : ℕ) (head : MovieHead) → IsOpenedAs file m tree → m.waits ≡ None → IsFileTold waits tree told → SaysMovie (record m { waits = Some waits; mehd = n }) head → SaysTree told.movie head
unfolding IsShownOf
told_said file m tree told waits n head o e is s =
    let own : FileTree = o.shown.0 in
    let own_is : IsTreeOf file own = o.shown.1 in
    let same : tree ≡ only_tree m.only own = subst (λ (w : Option (List ℕ)). IsTold w (only_tree m.only own) tree) e o.shown.2 in
    shown_says (record m { waits = Some waits; mehd = n }) own told head own_is.is_tree.movie (ap (λ (x : FileTree). x.movie.moov) (sym same) ∙ sym o.moov) (subst (λ (x : FileTree). IsFileTold waits x told) same is) s

-- ---- what they denote

track_presented : (file : List ℕ) (parts : List Part) (wait : ℕ) (u t : TrackTree) → IsTrackTold wait u t → track_of file parts t ≡ waiting_track wait (track_of file parts u)
track_presented file parts wait u t told =
    λ i. record { head = told.head i; start = start_of (plain_of (told.is i)) (parts_of_track parts (told.is i)); samples = map (sample_of file) (placed_of parts (told.is i)) }

tracks_presented : (file : List ℕ) (parts : List Part) (waits : List ℕ) (us ts : List TrackTree) → AreTracksTold waits us ts → map (track_of file parts) ts ≡ waiting_tracks waits (map (track_of file parts) us)
tracks_presented file parts [] [] [] told = refl
tracks_presented file parts (wait ∷ waits) [] [] told = refl
tracks_presented file parts waits [] (t ∷ ts) told = absurd told
tracks_presented file parts waits (u ∷ us) [] told = absurd told
tracks_presented file parts [] (u ∷ us) (t ∷ ts) told = λ i. track_presented file parts 0 u t told.0 i ∷ tracks_presented file parts [] us ts told.1 i
tracks_presented file parts (wait ∷ waits) (u ∷ us) (t ∷ ts) told = λ i. track_presented file parts wait u t told.0 i ∷ tracks_presented file parts waits us ts told.1 i

-- what is told to wait waits
pub told_presents : (waits : List ℕ) (file : List ℕ) (tree told : FileTree) → IsFileTold waits tree told → presentation_of file told ≡ waiting_all waits (presentation_of file tree)
told_presents waits file tree told is =
    (λ i. record { movie = is.movie.head i; tracks = map (track_of file (file_parts (told_is waits tree told is i))) told.movie.tracks })
    ∙ (λ i. record { movie = waiting_movie (movie_head_of tree.movie); tracks = tracks_presented file (file_parts tree) waits tree.movie.tracks told.movie.tracks is.movie.tracks i })
