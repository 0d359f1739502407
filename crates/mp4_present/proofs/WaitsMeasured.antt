-- The limits of a presentation whose tracks are told to wait.
use Rattle.std.proofs.Common.{◌≡◌, ℕ, suc, ◌+◌, ◌<◌, ◌≤◌, List, [], ◌∷◌, ◌++◌, length, take, map, Some, refl, sym, ap, subst, ◌∙◌, arith}
use Rattle.std.specs.Prelude.{slice_get}
use Rattle.std.specs.List.{AllByRecursion, AllZip}
use Rattle.std.proofs.lemmas.List.{length-map, map-append, take_all}
use Rattle.mp4_frag.specs.declared.state.TrackState.{TrackState}
use Rattle.mp4_head.specs.format.Head as heads
use Rattle.mp4_head.specs.format.Tree.{TrackTree, track_head_of}
use Rattle.mp4_head.specs.words.Seen.{track_seen}
use Rattle.mp4_head.specs.declared.heads.MovieHead.{MovieHead}
use Rattle.mp4_head.specs.declared.heads.TrackHead.{TrackHead}
use Rattle.mp4_present.specs.format.Denotes.{FileTree, file_parts, presentation_of, track_of}
use Rattle.mp4_present.specs.words.HeadsRead.{SaysMovie}
use Rattle.mp4_present.specs.words.Measured.{AreMeasured, IsMeasure}
use Rattle.mp4_present.specs.words.Movies.{MovieSeen}
use Rattle.mp4_present.specs.words.OpenedMovie.{IsInfoOf}
use Rattle.mp4_present.specs.words.Waits.{HasLimits, end_of}
use Rattle.mp4_present.specs.declared.track_info.TrackInfo.{TrackInfo}
use Rattle.mp4_present.proofs.Changed.{next_taken}

zip_many : (file : List ℕ) (t : FileTree) (trees : List TrackTree) (infos : List TrackInfo) → AllZip (IsInfoOf file t) trees infos → length trees ≡ length infos
zip_many file t [] [] z = refl
zip_many file t [] (x ∷ infos) z = absurd z
zip_many file t (u ∷ trees) [] z = absurd z
zip_many file t (u ∷ trees) (x ∷ infos) z = ap suc (zip_many file t trees infos z.1)

-- as many heads are read as there are tracks
pub heads_many : (file : List ℕ) (m : MovieSeen) (t : FileTree) (head : MovieHead) → HasLimits file m t → SaysMovie m head → length head.tracks.items ≡ length m.tracks
heads_many file m t head h s =
    let tracks = ap (λ (x : heads.Head). length x.tracks) (h.heads head s).says in
    sym (length-map head.tracks.items track_seen) ∙ tracks ∙ length-map t.movie.tracks track_head_of ∙ zip_many file t t.movie.tracks m.tracks h.tracks

all_measured : (file : List ℕ) (t : FileTree) (trees : List TrackTree) (hs : List TrackHead) (infos : List TrackInfo) → map track_seen hs ≡ map track_head_of trees → AllZip (IsInfoOf file t) trees infos
    → AllByRecursion (λ (u : TrackTree). 0 < (track_head_of u).media.timescale) trees → AreMeasured (map (track_of file (file_parts t)) trees) hs (map end_of infos)
all_measured file t [] [] [] e z s = tt
all_measured file t [] [] (x ∷ infos) e z s = absurd z
all_measured file t [] (h ∷ hs) infos e z s = absurd cc
all_measured file t (u ∷ trees) [] infos e z s = absurd cc
all_measured file t (u ∷ trees) (h ∷ hs) [] e z s = absurd z
all_measured file t (u ∷ trees) (h ∷ hs) (x ∷ infos) e z s =
    let first : track_seen h ≡ track_head_of u = cc in
    let rest : map track_seen hs ≡ map track_head_of trees = cc in
    let scale = ap (λ (y : heads.TrackHead). y.media.timescale) first in (
      record {
        head = sym first;
        timescale = subst (λ n. 0 < n) (sym scale) s.0;
        start = z.0.start;
        end = λ i. z.0.start i + z.0.duration i;
      },
      all_measured file t trees hs infos rest z.1 s.1,
    )

-- the heads and the ends are those of the presentation
pub measure_of : (file : List ℕ) (m : MovieSeen) (t : FileTree) (head : MovieHead) → HasLimits file m t → SaysMovie m head → IsMeasure (presentation_of file t) head (map end_of m.tracks)
measure_of file m t head h s =
    let said = (h.heads head s).says in
    record {
      movie = ap (λ (x : heads.Head). x.movie) (sym said);
      tracks = all_measured file t t.movie.tracks head.tracks.items m.tracks (ap (λ (x : heads.Head). x.tracks) said) h.tracks h.timescales;
    }

-- ---- the ends of tracks, one after the other

pub ends_next : (infos : List TrackInfo) (ends : List TrackState) (k : ℕ) (info : TrackInfo) → ends ≡ map end_of (take k infos) → slice_get infos k ≡ Some info → ends ++ end_of info ∷ [] ≡ map end_of (take (k + 1) infos)
ends_next infos ends k info h e =
    let n : suc k ≡ k + 1 = omega arith in
    ap (λ xs. xs ++ end_of info ∷ []) h ∙ sym (map-append end_of (take k infos) (info ∷ [])) ∙ ap (map end_of) (sym (next_taken infos k info e)) ∙ ap (λ i. map end_of (take i infos)) n

pub ends_all : (infos : List TrackInfo) (ends : List TrackState) (k : ℕ) → ends ≡ map end_of (take k infos) → length infos ≤ k → ends ≡ map end_of infos
ends_all infos ends k h le = h ∙ ap (map end_of) (take_all k infos le)
