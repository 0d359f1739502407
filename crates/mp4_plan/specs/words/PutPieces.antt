-- What is put over any store, also over one that changes while it is read: pieces with so many
-- samples and so many bytes of these, whichever bytes the store gave.
use Rattle.std.specs.Prelude.{◌≡◌, ℕ, ◌≤◌, false, List, [], ◌∷◌, ◌++◌, length, codes}
use Rattle.std.specs.List.{sum_by}
use Rattle.mp4_boxes.specs.format.Written.{header_bytes}
use Rattle.mp4_tables.specs.format.Groups.{GroupKey}
use Rattle.mp4_present.specs.words.Carried.{BytesGoOn}
use Rattle.mp4_head.specs.format.Writing as written
use Rattle.mp4_head.specs.words.Seen.{movie_seen, tracks_seen}
use Rattle.mp4_head.specs.declared.heads.MovieHead.{MovieHead}
use Rattle.mp4_content.specs.format.Reduced.{number_heads}
use Rattle.mp4_content.specs.format.Remaining.{remaining_movie}
use Rattle.mp4_content.specs.words.Divided.{remaining_heads}
use Rattle.mp4_content.specs.words.Scales.{AreOnes}
use Rattle.mp4_content.specs.declared.scales.Scales.{Scales}
use Rattle.mp4_present.specs.words.Movies.{MovieSeen}
use Rattle.mp4_content.specs.declared.content.Content.{Content}
use Rattle.mp4_content.specs.declared.without.Without.{Without}
use Rattle.mp4_present.specs.declared.track_info.TrackInfo.{TrackInfo}
use Rattle.mp4_present.specs.words.HeadsRead.{SaysMovie}
use Rattle.mp4_plan.specs.words.Sizes.{moof_sizes}
use Rattle.mp4_plan.specs.words.Spelling.{moof_front, run_rows}
use Rattle.mp4_plan.specs.words.UsedKeys.{some_groups}
use Rattle.mp4_plan.specs.declared.moof_front.PieceHead.{PieceHead}
use Rattle.mp4_plan.specs.declared.planner.Planned.{Planned}
use Rattle.mp4_plan.specs.declared.noted_rows.Row.{Row}

-- A piece that was put: what it says once, what was planned of its samples, a row for each of them,
-- and `sbgp`s, each of a key at its place.
pub record PutPiece : Type 0 where
  pub head : PieceHead
  pub planned : Planned
  pub keys : List GroupKey
  pub rows : List Row
  pub groups : List (ℕ × GroupKey)
  pub each : length rows ≡ planned.count
  pub few : length groups ≤ 4

-- its `moof`, and the header of its `mdat`
abbrev pub put_front : PutPiece → List ℕ
put_front q = moof_front q.head q.planned (moof_sizes q.planned q.keys) ++ run_rows q.planned q.rows
    ++ some_groups q.rows q.planned q.groups ++ header_bytes (codes "mdat") q.planned.bytes

-- These bytes are those of some pieces, one after the other: of each its front, and behind it as
-- many bytes as its samples have.
abbrev pub AreBytesOf : List PutPiece → List ℕ → Type 0
AreBytesOf [] bytes = bytes ≡ []
AreBytesOf (q ∷ pieces) bytes = (samples rest : List ℕ) × (length samples ≡ q.planned.bytes)
    × (bytes ≡ put_front q ++ samples ++ rest) × AreBytesOf pieces rest

-- how many samples some pieces have, and how many bytes these have
abbrev pub samples_put : List PutPiece → ℕ
samples_put pieces = sum_by (λ (q : PutPiece). q.planned.count) pieces

abbrev pub data_put : List PutPiece → ℕ
data_put pieces = sum_by (λ (q : PutPiece). q.planned.bytes) pieces

-- Behind these bytes pieces follow, with so many samples and so many bytes of these, and nothing
-- else. `Took` says of bytes that they were put since.
pub record PiecesFollow (Took : List ℕ → Type 0) (held held_after : List ℕ)
    (first : List ℕ) (samples bytes : ℕ) : Type 0 where
  pub pieces : List PutPiece
  pub counts : samples_put pieces ≡ samples
  pub sizes : data_put pieces ≡ bytes
  pub text : List ℕ
  pub are : AreBytesOf pieces text
  pub put : BytesGoOn Took held held_after (first ++ text)

-- This head was put, and behind it pieces, and nothing else. They have as many samples as the movie
-- says of all its tracks together, and these as many bytes.
pub record IsPutWhole (m : MovieSeen) (Took : List ℕ → Type 0) (head : List ℕ)
    : Type 0 where
  pub pieces : List PutPiece
  pub counts : samples_put pieces ≡ sum_by (λ (i : TrackInfo). i.samples) m.tracks
  pub sizes : data_put pieces ≡ sum_by (λ (i : TrackInfo). i.bytes) m.tracks
  pub text : List ℕ
  pub are : AreBytesOf pieces text
  pub put : Took (head ++ text)

-- ---- the head

-- what remains of this movie's own head, where times are divided by these
pub record IsLeftOf (m : MovieSeen) (l : Without) (scales : Scales) (head : MovieHead)
    : Type 0 where
  pub own : MovieHead
  pub says : SaysMovie m own
  pub ones : l.timescales ≡ false → AreOnes scales
  pub movie : movie_seen head ≡ remaining_movie l scales.movie (movie_seen own)
  pub tracks : tracks_seen head
      ≡ number_heads l 1 (remaining_heads l scales.movie scales.tracks.items (tracks_seen own))

-- `ftyp` and `moov` of what remains of this movie, with some length of the longest track, and where
-- timescales are left out its times divided by some numbers
pub record IsHeadLeft (m : MovieSeen) (l : Without) (bytes : List ℕ) : Type 0 where
  pub head : MovieHead
  pub scales : Scales
  pub left : IsLeftOf m l scales head
  pub mehd : ℕ
  pub is : bytes ≡ written.head_bytes (movie_seen head) (tracks_seen head) mehd

abbrev pub IsContentHead : MovieSeen → Content → List ℕ → Type 0
IsContentHead m c bytes = IsHeadLeft m c.leaving bytes
