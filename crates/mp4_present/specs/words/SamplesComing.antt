-- The samples of a track that are still to come in a walk over the file that its movie was opened
-- from.
use Rattle.std.specs.Prelude.{◌≡◌, ℕ, suc, ◌+◌, ⊤, List, [], ◌∷◌, ◌++◌, length, Bool, true, false, Option, None, Some, slice_get}
use Rattle.mp4_boxes.specs.format.Bytes.{sum_of}
use Rattle.mp4_tables.specs.format.Groups.{GroupKey}
use Rattle.mp4_tables.specs.words.Timed.{timed}
use Rattle.mp4_tables.specs.declared.sample.SampleAt.{SampleAt}
use Rattle.mp4_frag.specs.format.FragmentSamples.{start_of, duration_of, keys_behind}
use Rattle.mp4_head.specs.format.Tree.{TrackTree, track_head_of}
use Rattle.mp4_present.specs.format.Denotes.{FileTree, plain_of, plain_keys, file_parts, parts_of_track, first_due, placed_of}
use Rattle.mp4_present.specs.words.InHand.{left_in_hand}
use Rattle.mp4_frag.specs.words.OwnTrafs.{PlacedTraf, placed_samples, note_of, longest_of, traf_payloads}
use Rattle.mp4_present.specs.words.OwnTrafs.{own_of}
use Rattle.mp4_present.specs.words.Movies.{MovieSeen, InHandOf, traf_bytes}
use Rattle.mp4_present.specs.declared.walking.in_hand.InHand.{InHand}
use Rattle.mp4_present.specs.declared.walking.Due.{Due}
use Rattle.mp4_present.specs.declared.walking.Walk.{Walk}

-- the keys of a track, in the order in which its file first names them
abbrev pub track_keys : FileTree → TrackTree → List GroupKey
track_keys tree t = keys_behind (plain_keys t) (parts_of_track (file_parts tree) t)

-- all samples of a track: with numbers from 0 on, decode times, and an index at each of its keys
abbrev pub track_samples : FileTree → TrackTree → List SampleAt
track_samples tree t =
    timed (track_keys tree t) 0 (start_of (plain_of t) (parts_of_track (file_parts tree) t))
    (placed_of (file_parts tree) t)

-- the `traf`s that have samples of a track, in file order
abbrev pub own_trafs : FileTree → TrackTree → List PlacedTraf
own_trafs tree t = own_of tree.movie (track_head_of t).id tree.fragments

-- how many samples of a track come before those behind these of its `traf`s
abbrev pub count_behind : TrackTree → List PlacedTraf → ℕ
count_behind t earlier = length (plain_of t) + length (placed_samples earlier)

-- when the first sample of a track behind these of its `traf`s is due
abbrev pub due_behind : FileTree → TrackTree → List PlacedTraf → ℕ
due_behind tree t earlier = first_due (file_parts tree) t + duration_of (placed_samples earlier)

-- the samples of some of a track's `traf`s that stand behind others
abbrev pub samples_behind : FileTree → TrackTree → List PlacedTraf → List PlacedTraf
    → List SampleAt
samples_behind tree t earlier later = timed (track_keys tree t) (count_behind t earlier)
    (due_behind tree t earlier) (placed_samples later)

-- the room of a walk over the track: for the longest of its `traf`s
abbrev pub walk_room : FileTree → TrackTree → ℕ
walk_room tree t = longest_of (own_trafs tree t)

-- how long the payloads of all `traf`s of a file are together
abbrev pub traf_total : FileTree → ℕ
traf_total tree = sum_of traf_payloads tree.fragments

-- The walk holds the next `traf`, whose samples are not in hand yet.
pub record HoldsNext (file : List ℕ) (tree : FileTree) (t : TrackTree) (earlier : List PlacedTraf)
    (next : PlacedTraf) (later : List PlacedTraf) (w : Walk) : Type 0 where
  pub is_track : slice_get tree.movie.tracks w.track ≡ Some t
  pub split : own_trafs tree t ≡ earlier ++ next ∷ later
  pub place : w.next ≡ suc (length earlier)
  pub due : w.due ≡ due_behind tree t earlier
  pub left : w.left ≡ length (samples_behind tree t earlier (next ∷ later))
  pub room : length w.bytes.items ≡ walk_room tree t
  pub traf : w.traf ≡ note_of next
  pub bytes : traf_bytes w ≡ next.traf.payload

-- the walk has passed the `traf` in hand last, and before it this was due
abbrev pub HoldsLast : List ℕ → FileTree → TrackTree → List PlacedTraf → List PlacedTraf → Walk
    → Option Due → Type 0
HoldsLast file tree t earlier later w None = ⊤
HoldsLast file tree t earlier later w (Some before) =
    (front : List PlacedTraf) × (last : PlacedTraf) × (earlier ≡ front ++ last ∷ [])
    × HoldsNext file tree t front last later
    (record w { due = before.time; left = before.left })

-- The walk is one over this track, and stands in the file behind these of its `traf`s, that in hand
-- among them, and before those.
pub record StandsBefore (file : List ℕ) (tree : FileTree) (t : TrackTree)
    (earlier later : List PlacedTraf) (w : Walk) : Type 0 where
  pub is_track : slice_get tree.movie.tracks w.track ≡ Some t
  pub split : own_trafs tree t ≡ earlier ++ later
  pub place : w.next ≡ length earlier
  pub due : w.due ≡ due_behind tree t earlier
  pub left : w.left ≡ length (samples_behind tree t earlier later)
  pub room : length w.bytes.items ≡ walk_room tree t
  pub held : HoldsLast file tree t earlier later w w.before

-- the samples in hand, and then those of the `traf`s behind, are these
abbrev pub Comes : List ℕ → FileTree → TrackTree → MovieSeen → Walk → List SampleAt → Type 0
Comes file tree t m w samples =
    (earlier later : List PlacedTraf) × (hand : InHand)
    × (StandsBefore file tree t earlier later w × InHandOf m w hand
    × (samples ≡ left_in_hand hand ++ samples_behind tree t earlier later))

-- What is in hand once the next `traf` was taken: its samples, some or none.
abbrev pub Takes : List ℕ → FileTree → TrackTree → List PlacedTraf → PlacedTraf
    → List PlacedTraf → MovieSeen → Walk → Bool → Type 0
Takes file tree t earlier next later m w some =
    (hand : InHand) × (StandsBefore file tree t (earlier ++ next ∷ []) later w × InHandOf m w hand
    × (left_in_hand hand ≡ samples_behind tree t earlier (next ∷ []))
    × (some ≡ false → left_in_hand hand ≡ []))

-- What is in hand once the next `traf` of the track was loaded, or that there is none.
abbrev pub Loads : List ℕ → FileTree → TrackTree → MovieSeen → List SampleAt → Walk → Bool → Type 0
Loads file tree t m samples w true = Comes file tree t m w samples
Loads file tree t m samples w false = samples ≡ []
