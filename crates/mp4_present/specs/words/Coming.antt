-- The samples that a walk over a track has still to come, as a function of the file that its movie
-- was opened from, of the movie, and of the walk.
use Rattle.std.specs.Prelude.{ℕ, ◌+◌, ◌-◌, List, [], ◌∷◌, ◌++◌, length, drop, Option, Some, slice_get}
use Rattle.mp4_boxes.specs.format.Bytes.{sum_of}
use Rattle.mp4_store.specs.words.Device.{range}
use Rattle.mp4_tables.specs.words.Keys.{keys_seen}
use Rattle.mp4_tables.specs.declared.sample.SampleAt.{SampleAt}
use Rattle.mp4_frag.specs.words.Walks.{samples_in}
use Rattle.mp4_frag.specs.words.OwnTrafs.{OwnSeen}
use Rattle.mp4_frag.specs.declared.next_traf.OwnTraf.{OwnTraf}
use Rattle.mp4_present.specs.words.InHand.{left_in_hand}
use Rattle.mp4_present.specs.words.Movies.{MovieSeen, tables_seen, traf_hand, trex_at}
use Rattle.mp4_present.specs.declared.walking.in_hand.InHand.TheVariants as hands
use Rattle.mp4_present.specs.declared.walking.in_hand.Place.{Place}
use Rattle.mp4_present.specs.declared.walking.in_hand.Place.TheVariants.{Tables, Fragment}
use Rattle.mp4_present.specs.declared.movie.TrackTables.{TrackTables}
use Rattle.mp4_present.specs.declared.track_info.TrackInfo.{TrackInfo}
use Rattle.mp4_present.specs.declared.walking.Walk.{Walk}

-- how long samples last together
abbrev pub lasting : List SampleAt → ℕ
lasting samples = sum_of (λ (s : SampleAt). s.duration) samples

-- the samples of a track in `traf`s that are noted, the first of them behind so many and due then
abbrev pub trafs_coming : List ℕ → MovieSeen → ℕ → TrackInfo → ℕ → ℕ → List OwnTraf → List SampleAt
trafs_coming file m track info number due [] = []
trafs_coming file m track info number due (traf ∷ trafs) =
    let here = samples_in (range file traf.at traf.len) traf.base info.id (trex_at m track) number
    due (keys_seen info.keys) in
    here ++ trafs_coming file m track info (number + length here) (due + lasting here) trafs

-- those behind what the walk has in hand
abbrev pub coming_behind : List ℕ → MovieSeen → Walk → Option TrackInfo → Option OwnSeen
    → List SampleAt
coming_behind file m w (Some info) (Some own) =
    trafs_coming file m w.track info (info.samples - w.left) w.due (drop w.next own.trafs)
coming_behind file m w _ _ = []

-- those in hand
abbrev pub tables_coming : MovieSeen → Option TrackTables → Place → List SampleAt
tables_coming m (Some t) (Tables p) =
    left_in_hand (hands.Tables (record { tables = tables_seen m.moov t; place = p }))
tables_coming m _ _ = []

abbrev pub hand_coming : MovieSeen → Walk → Place → List SampleAt
hand_coming m w (Tables p) = tables_coming m (slice_get m.tables w.track) (Tables p)
hand_coming m w (Fragment p) = left_in_hand (hands.Fragment (traf_hand w p))

-- all
abbrev pub coming : List ℕ → MovieSeen → Walk → List SampleAt
coming file m w = hand_coming m w w.place
    ++ coming_behind file m w (slice_get m.tracks w.track) (slice_get m.own w.track)
