-- The head of what remains, that of what remains of an opened file, and one of the tracks.
use Rattle.std.proofs.Common.{◌≡◌, ℕ, ◌+◌, List, [], ◌∷◌, map, Some, refl, sym, ap, ◌∙◌}
use Rattle.std.specs.List.{slice_get}
use Rattle.mp4_boxes.proofs.Plain.{get_map}
use Rattle.mp4_head.specs.format.Tree.{TrackTree, track_head_of}
use Rattle.mp4_present.specs.words.HeadsRead.{SaysMovie}
use Rattle.mp4_head.specs.words.Seen.{movie_seen, tracks_seen}
use Rattle.mp4_head.specs.declared.heads.MovieHead.{MovieHead}
use Rattle.mp4_head.proofs.Distinct.{map_twice}
use Rattle.mp4_present.proofs.ToldTrees.{tree_said}
use Rattle.mp4_present.specs.format.Denotes.{FileTree, file_parts, track_of, presentation_of}
use Rattle.mp4_present.specs.format.Presentation.{heads as heads_of, Track, Presentation}
use Rattle.mp4_present.specs.words.Movies.{MovieSeen}
use Rattle.mp4_present.specs.words.OpenedMovie.{IsOpenedAs}
use Rattle.mp4_content.specs.format.Reduced.{number_heads, number_track}
use Rattle.mp4_content.specs.declared.scales.Scales.{Scales}
use Rattle.mp4_content.specs.declared.without.Without.{Without}
use Rattle.mp4_content.specs.format.Remaining.{movie_divisor, remaining, remaining_movie, remaining_track, track_divisor}
use Rattle.mp4_content.specs.words.Divided.{remaining_head, remaining_heads}
use Rattle.mp4_content.specs.words.Scales.{AreScales, divisors_of}
use Rattle.mp4_content.proofs.HeadLess.{SaysHeadOf}
use Rattle.mp4_content.proofs.Numbered.{numbered_at, numbered_heads}

module _ (l : Without) where
  heads_left : (divisor : ℕ) (tracks : List Track) → map (λ (t : Track). t.head) (map (remaining_track l divisor) tracks) ≡ remaining_heads l divisor (map (track_divisor l) tracks) (map (λ (t : Track). t.head) tracks)
  heads_left divisor [] = refl
  heads_left divisor (t ∷ tracks) = ap (λ hs. remaining_head l divisor (track_divisor l t) t.head ∷ hs) (heads_left divisor tracks)

  -- ---- of a presentation

  pub heads_remain : (p : Presentation) → heads_of (remaining l p) ≡ number_heads l 1 (remaining_heads l (movie_divisor l p) (map (track_divisor l) p.tracks) (heads_of p))
  heads_remain p = numbered_heads l 1 (map (remaining_track l (movie_divisor l p)) p.tracks) ∙ ap (number_heads l 1) (heads_left (movie_divisor l p) p.tracks)

  -- the track at this place
  pub track_remains : (p : Presentation) (k : ℕ) (t : Track) → slice_get p.tracks k ≡ Some t → slice_get (remaining l p).tracks k ≡ Some (number_track l (k + 1) (remaining_track l (movie_divisor l p) t))
  track_remains p k t e =
      let left = remaining_track l (movie_divisor l p) in
      numbered_at l k (map left p.tracks) (left t) (get_map left p.tracks k t e)

  -- ---- of a file

  module _ (file : List ℕ) (tree : FileTree) where
    abbrev whole : Presentation
    whole = presentation_of file tree

    -- the divisors of its tracks
    pub divisors_are : map (track_divisor l) whole.tracks ≡ divisors_of l file tree
    divisors_are = map_twice (track_of file (file_parts tree)) (track_divisor l) tree.movie.tracks

    pub file_heads_are : heads_of whole ≡ map track_head_of tree.movie.tracks
    file_heads_are = map_twice (track_of file (file_parts tree)) (λ (t : Track). t.head) tree.movie.tracks

    pub file_heads_remain : heads_of (remaining l whole) ≡ number_heads l 1 (remaining_heads l (movie_divisor l whole) (divisors_of l file tree) (map track_head_of tree.movie.tracks))
    file_heads_remain = heads_remain whole ∙ (λ i. number_heads l 1 (remaining_heads l (movie_divisor l whole) (divisors_are i) (file_heads_are i)))

    pub file_track_remains : (k : ℕ) (t : TrackTree) → slice_get tree.movie.tracks k ≡ Some t → slice_get (remaining l whole).tracks k ≡ Some (number_track l (k + 1) (remaining_track l (movie_divisor l whole) (track_of file (file_parts tree) t)))
    file_track_remains k t e =
        let own = track_of file (file_parts tree) in
        track_remains whole k (own t) (get_map own tree.movie.tracks k t e)

    -- its divisor, which stands beside its place
    pub file_divisor_at : (k : ℕ) (t : TrackTree) → slice_get tree.movie.tracks k ≡ Some t → slice_get (divisors_of l file tree) k ≡ Some (track_divisor l (track_of file (file_parts tree) t))
    file_divisor_at k t e = get_map (λ (x : TrackTree). track_divisor l (track_of file (file_parts tree) x)) tree.movie.tracks k t e

    -- ---- a head that was read, of which something was left out by these divisors

    -- then it says what remains of the presentation
    pub says_remaining : (m : MovieSeen) (scales : Scales) (read head : MovieHead) → IsOpenedAs file m tree → AreScales l file tree scales → SaysMovie m read → movie_seen head ≡ remaining_movie l scales.movie (movie_seen read)
        → tracks_seen head ≡ number_heads l 1 (remaining_heads l scales.movie scales.tracks.items (tracks_seen read)) → SaysHeadOf (remaining l whole) head
    says_remaining m scales read head o are says movie_is tracks_are =
        let said = (tree_said file m tree read o says).says in
        record {
          movie = movie_is ∙ (λ i. remaining_movie l (are.movie i) (said i).movie);
          tracks = tracks_are ∙ (λ i. number_heads l 1 (remaining_heads l (are.movie i) (are.tracks i) (said i).tracks)) ∙ sym file_heads_remain;
        }
