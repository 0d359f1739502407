-- The line that shows a movie is that of the presentation that its file denotes.
use Rattle.std.proofs.Common.{◌≡◌, ℕ, List, [], ◌∷◌, ◌++◌, length, sym, ap, subst, ◌∙◌, Ok}
use Rattle.std.specs.Prelude.{map}
use Rattle.std.specs.List.{AllByRecursion, AllZip}
use Rattle.serde_json.specs.Data.{Data}
use Rattle.serde_json.specs.Written.{compact_text}
use Rattle.mp4_boxes.proofs.Each.{each_member}
use Rattle.mp4_head.specs.format.Head as heads
use Rattle.mp4_head.specs.words.Seen.{movie_seen, tracks_seen}
use Rattle.mp4_head.specs.format.Tree.{TrackTree}
use Rattle.mp4_head.specs.declared.heads.MovieHead.{MovieHead}
use Rattle.mp4_head.proofs.Distinct.{map_twice}
use Rattle.mp4_present.specs.format.Denotes.{FileTree, Denotes, file_parts, placed_of, track_of, presentation_of}
use Rattle.mp4_present.specs.format.Judge.{judge}
use Rattle.mp4_present.specs.words.Movies.{MovieSeen}
use Rattle.mp4_present.specs.words.OpenedMovie.{IsOpenedOwn}
use Rattle.mp4_present.specs.words.OpenedMovie as opened
use Rattle.mp4_present.specs.format.Presentation.{Track}
use Rattle.mp4_present.specs.declared.track_info.TrackInfo.{TrackInfo}
use Rattle.mp4_present.specs.words.HeadsRead.{SaysMovie}
use Rattle.mp4_present.proofs.SamplesLie.{IsInFile, placed_lie, data_length}
use Rattle.mp4_present.proofs.ToldTrees.{file_denotes, tree_said}
use Rattle.mp4_plan.proofs.Judged.{denoted_judged}
use Rattle.mp4_answers.specs.format.Texts.{line_feed}
use Rattle.mp4_answers.specs.words.ShowValue.{ShowValue}
use Rattle.mp4_answers.specs.format.FileTexts.{ShowsLine}
use Rattle.mp4_answers.proofs.ShownTracks.{IsInfoOf, shown_is}

-- what was opened is what the file denotes
pub denoted : (file : List ℕ) (m : MovieSeen) (tree : FileTree) → IsOpenedOwn file m tree → Denotes file (presentation_of file tree)
denoted file m tree o = file_denotes file m tree o

-- and what the file is judged to be
pub judged : (file : List ℕ) (m : MovieSeen) (tree : FileTree) → IsOpenedOwn file m tree → judge file ≡ Ok (presentation_of file tree)
judged file m tree o = denoted_judged file (presentation_of file tree) (denoted file m tree o)

-- the samples of the track lie in the file
abbrev pub LieInFile : List ℕ → FileTree → TrackTree → Type 0
LieInFile file tree t = AllByRecursion (IsInFile (length file)) (placed_of (file_parts tree) t)

pub each_lies : (file : List ℕ) (m : MovieSeen) (tree : FileTree) → IsOpenedOwn file m tree → AllByRecursion (LieInFile file tree) tree.movie.tracks
each_lies file m tree o = each_member (LieInFile file tree) tree.movie.tracks (λ t i. placed_lie file tree t o.opened.hands_out i)

-- the numbers of a track are those of the presentation's
infos_of : (file : List ℕ) (tree : FileTree) (trees : List TrackTree) (infos : List TrackInfo) → AllByRecursion (LieInFile file tree) trees → AllZip (opened.IsInfoOf file tree) trees infos → AllZip IsInfoOf (map (track_of file (file_parts tree)) trees) infos
infos_of file tree [] [] h z = tt
infos_of file tree [] (x ∷ infos) h z = absurd z
infos_of file tree (t ∷ trees) [] h z = absurd z
infos_of file tree (t ∷ trees) (x ∷ infos) h z =
    let i = z.0 in
    (record { bytes = i.bytes ∙ sym (data_length file (placed_of (file_parts tree) t) h.0); duration = i.duration; samples = i.samples; start = i.start }, infos_of file tree trees infos h.1 z.1)

-- the head that was read anew is that of the file, and so are the numbers
pub shows : (file : List ℕ) (m : MovieSeen) (tree : FileTree) (head : MovieHead) (mehd : ℕ) (infos : List TrackInfo) (text line : List ℕ) → IsOpenedOwn file m tree → SaysMovie m head
    → text ≡ compact_text (ShowValue (movie_seen head) (tracks_seen head) mehd infos) → mehd ≡ m.mehd → infos ≡ m.tracks → line ≡ text ++ line_feed → ShowsLine file line
shows file m tree head mehd infos text line o says t e n l =
    let p = presentation_of file tree in
    let said = (tree_said file m tree head o.opened says).says in
    let tracks : tracks_seen head ≡ map (λ (u : Track). u.head) p.tracks = ap (λ (h : heads.Head). h.tracks) said ∙ sym (map_twice (track_of file (file_parts tree)) (λ (u : Track). u.head) tree.movie.tracks) in
    let numbers : AllZip IsInfoOf p.tracks infos = subst (λ (ns : List TrackInfo). AllZip IsInfoOf p.tracks ns) (sym n) (infos_of file tree tree.movie.tracks m.tracks (each_lies file m tree o) o.opened.tracks) in
    let value = shown_is p (movie_seen head) (tracks_seen head) mehd infos (ap (λ (h : heads.Head). h.movie) said) tracks (e ∙ o.opened.mehd) numbers in
    (p, judged file m tree o, l ∙ ap (λ (bs : List ℕ). bs ++ line_feed) (t ∙ ap (λ (d : Data). compact_text d) value))
