-- Which heads can be written, and what is read of a `moov` that was written.
use Rattle.std.specs.Prelude.{◌≡◌, ℕ, ◌≤◌, ◌^◌, List, length, map, drop, true, Result, MatchResult, codes}
use Rattle.std.specs.List.{AllByRecursion}
use Rattle.mp4_boxes.specs.format.Box.{Box}
use Rattle.mp4_boxes.specs.declared.refusal.Refusal.{Refusal}
use Rattle.mp4_boxes.specs.declared.refusal.Refusal.TheVariants as refusals
use Rattle.mp4_frag.specs.declared.trex.Trex.{Trex}
use Rattle.mp4_head.specs.format.Head.{TrackHead, MovieHead, IsTrackHead, IsMovieHead}
use Rattle.mp4_head.specs.words.Seen.{head_seen}
use Rattle.mp4_head.specs.format.Tree.{are_distinct}
use Rattle.mp4_head.specs.format.Writing.{moov_bytes}
use Rattle.mp4_head.specs.declared.heads.MovieHead as declared

-- The head's values are those of valid heads, and the `moov` is not too long.
pub record IsWritable (movie : MovieHead) (tracks : List TrackHead) (duration : ℕ) : Type 0 where
  pub is_movie : IsMovieHead movie
  pub are_tracks : AllByRecursion IsTrackHead tracks
  pub distinct : are_distinct (map (λ (t : TrackHead). t.id) tracks) ≡ true
  pub small : length (moov_bytes movie tracks duration) ≤ 2 ^ 30

-- the `trex` that is written for a track
abbrev pub normal_trex : TrackHead → Trex
normal_trex t = record { id = t.id; description = 1; duration = 0; size = 0; flags = 0 }

-- those of all tracks
abbrev pub normal_trexes : List TrackHead → List Trex
normal_trexes tracks = map normal_trex tracks

-- the `moov` of a head that was written, at any place of a file
pub record IsWrittenMoov (moov : Box) (movie : MovieHead) (tracks : List TrackHead) (duration : ℕ)
    : Type 0 where
  pub kind : moov.kind ≡ codes "moov"
  pub header : moov.header ≡ 8
  pub payload : moov.payload ≡ drop 8 (moov_bytes movie tracks duration)

-- Of a `moov` that was written the head is read that was written, or no memory was to be had.
abbrev pub ReadsAgain : Box → Result declared.MovieHead Refusal → Type 0
ReadsAgain moov result =
    (movie : MovieHead) (tracks : List TrackHead) (duration : ℕ) → IsWritable movie tracks duration
    → IsWrittenMoov moov movie tracks duration
    → MatchResult result (λ head. head_seen head ≡ record {
      movie = movie;
      tracks = tracks;
      trexes = normal_trexes tracks;
    }) (λ r. r ≡ refusals.Memory)
