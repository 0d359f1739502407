-- A file that was opened, and a walk over the samples of one of its tracks.
use Rattle.std.specs.Prelude.{◌≡◌, ℕ, ◌+◌, ◌-◌, ◌^◌, ◌<◌, ◌≤◌, ⊤, min, List, length, take, drop, Option, None, Some, slice_get, unwrap_or, codes}
use Rattle.std.specs.List.{AllByRecursion}
use Rattle.mp4_boxes.specs.format.Box.{Box}
use Rattle.mp4_tables.specs.words.Accepted.{IsAccepted, IsPlace}
use Rattle.mp4_tables.specs.words.Keys.{keys_seen}
use Rattle.mp4_tables.specs.words.TablesSeen.{TablesSeen}
use Rattle.mp4_tables.specs.declared.sample.SampleAt.{SampleAt}
use Rattle.mp4_frag.specs.words.PlacesIn.{IsPlaceIn}
use Rattle.mp4_frag.specs.words.FragmentsSeen.{CursorSeen}
use Rattle.mp4_frag.specs.words.Walks.{samples_coming, samples_in}
use Rattle.mp4_frag.specs.words.OwnTrafs.{OwnSeen}
use Rattle.mp4_frag.specs.format.FragmentSamples.{no_trex}
use Rattle.mp4_frag.specs.declared.places.TrafPlace.{TrafPlace}
use Rattle.mp4_frag.specs.declared.state.TrackState.{TrackState}
use Rattle.mp4_frag.specs.declared.trex.Trex.{Trex}
use Rattle.mp4_store.specs.words.Device.{HasRisen}
use Rattle.mp4_boxes.specs.declared.refusal.Refusal.{Refusal}
use Rattle.mp4_boxes.specs.declared.refusal.Refusal.TheVariants as refusals
use Rattle.mp4_present.specs.words.InHand.{left_in_hand, AreLast}
use Rattle.mp4_present.specs.declared.walking.in_hand.InHand.{InHand}
use Rattle.mp4_present.specs.declared.walking.in_hand.InHand.TheVariants as hands
use Rattle.mp4_present.specs.declared.walking.in_hand.Place.{Place}
use Rattle.mp4_present.specs.declared.walking.in_hand.Place.TheVariants.{Tables, Fragment}
use Rattle.mp4_present.specs.declared.movie.TrackTables.{TrackTables}
use Rattle.mp4_present.specs.declared.reading.TopBox.{TopBox}
use Rattle.mp4_present.specs.declared.track_info.TrackInfo.{TrackInfo}
use Rattle.mp4_present.specs.declared.walking.Due.{Due}
use Rattle.mp4_present.specs.declared.walking.Mark.{Mark}
use Rattle.mp4_present.specs.declared.walking.Walk.{Walk}

-- a box whose header is followed by its end, which lies in a file of so many bytes
pub record IsWhole (length : ℕ) (top : TopBox) : Type 0 where
  pub header : top.offset + top.header.header ≤ top.header.end
  pub within : top.header.end ≤ length

-- so many bytes, from its first one on, have all of the box
abbrev pub HasRoom : ℕ → TopBox → Type 0
HasRoom bytes top = (top.offset + top.header.header ≤ top.header.end)
    × (top.header.end ≤ top.offset + bytes)

-- so many bytes fill the box
abbrev pub Fills : ℕ → TopBox → Type 0
Fills bytes top = top.offset + top.header.header + bytes ≡ top.header.end

-- the bytes of the `moov` behind its header, and what was found of the file
pub record MovieSeen : Type 0 where
  pub top : TopBox
  pub moov : List ℕ
  pub file_len : ℕ
  pub longest : ℕ
  -- where the `moof`s begin, in file order
  pub moofs : List ℕ
  pub tables : List TrackTables
  pub states : List TrackState
  pub tracks : List TrackInfo
  -- for each track in order, which `traf`s have samples of it
  pub own : List OwnSeen
  pub mehd : ℕ
  -- which track of the `moov` is shown, by its place, where it is one alone
  pub only : Option ℕ
  -- how long each track waits, where that is said in the place of the movie's own edits
  pub waits : Option (List ℕ)

-- how long the longest of a track's `traf`s is, where there is such a track, and no longer than the
-- longest `moof` of the file
abbrev pub room_of : Option OwnSeen → ℕ → ℕ
room_of None longest = 0
room_of (Some own) longest = min longest own.longest

-- the room of a walk over the track at this place among the tracks
abbrev pub own_room : MovieSeen → ℕ → ℕ
own_room m track = room_of (slice_get m.own track) m.longest

-- the payload of the `stbl` of a track
abbrev pub table_bytes : List ℕ → TrackTables → List ℕ
table_bytes moov t = take t.len (drop t.place moov)

abbrev pub tables_seen : List ℕ → TrackTables → TablesSeen
tables_seen moov t = record { payload = table_bytes moov t; at = t.tables }

-- the tables lie in the `moov`, and a check accepted them
pub record LieIn (moov : List ℕ) (t : TrackTables) : Type 0 where
  pub within : t.place + t.len ≤ length moov
  pub accepted : IsAccepted (table_bytes moov t) t.tables

pub record IsMovie (m : MovieSeen) : Type 0 where
  pub fills : Fills (length m.moov) m.top
  pub tables : AllByRecursion (LieIn m.moov) m.tables
  pub each_tables : length m.tables ≡ length m.tracks
  pub each_state : length m.states ≡ length m.tracks
  pub each_own : length m.own ≡ length m.tracks
  pub short : m.file_len < 2 ^ 64

-- the `moov` that is kept
abbrev pub moov_box : MovieSeen → Box
moov_box m = record {
  kind = m.top.header.kind.0;
  offset = m.top.offset;
  header = m.top.header.header;
  payload = m.moov;
}

-- what the fragments of the track at this place inherit
abbrev pub trex_in : Option TrackState → Trex
trex_in None = no_trex
trex_in (Some state) = unwrap_or state.trex no_trex

abbrev pub trex_at : MovieSeen → ℕ → Trex
trex_at m track = trex_in (slice_get m.states track)

-- the payload of the `traf` in hand
abbrev pub traf_bytes : Walk → List ℕ
traf_bytes w = take w.used w.bytes.items

-- the `traf` that the walk holds, from behind its header on
abbrev pub traf_box : Walk → Box
traf_box w = record {
  kind = codes "traf";
  offset = w.traf.at;
  header = 0;
  payload = traf_bytes w;
}

-- the walk stands before one of the samples in hand, or behind them
abbrev pub StandsAt : MovieSeen → Walk → Place → Type 0
StandsAt m w (Tables p) = (t : TrackTables) × (slice_get m.tables w.track ≡ Some t)
    × IsPlace (table_bytes m.moov t) t.tables p
StandsAt m w (Fragment p) = (w.used ≤ length w.bytes.items) × IsPlaceIn (traf_bytes w) p

-- a walk over the samples of a track of this movie, wherever it stands
pub record GoesOn (m : MovieSeen) (w : Walk) : Type 0 where
  pub movie : IsMovie m
  pub track : w.track < length m.tracks

-- the samples of the `traf` in hand: all, before which this was due, and those from a place on
abbrev pub all_in_traf : MovieSeen → Walk → TrackInfo → Due → List SampleAt
all_in_traf m w info before = samples_in (traf_bytes w) w.traf.base info.id (trex_at m w.track)
    (info.samples - before.left) before.time (keys_seen info.keys)

abbrev pub traf_hand : Walk → TrafPlace → CursorSeen
traf_hand w p = record { payload = traf_bytes w; place = p }

-- the samples from a place on are the last of the tables, or of the `traf` in hand, before which
-- this was due
abbrev pub IsRest : MovieSeen → Walk → Option Due → Place → Type 0
IsRest m w None (Tables p) = ⊤
IsRest m w (Some before) (Fragment p) = (info : TrackInfo) → slice_get m.tracks w.track ≡ Some info
    → AreLast (all_in_traf m w info before) (samples_coming (traf_hand w p))
IsRest m w _ _ = ⊥

-- the mark of where a walk stands, before so many samples
abbrev pub mark_of : Walk → ℕ → Mark
mark_of w to_come = record {
  track = w.track;
  place = w.place;
  traf = w.traf;
  before = w.before;
  due = w.due;
  left = w.left;
  next = w.next;
  to_come = to_come;
}

-- The walk has marked a place in the tables, or one in a `traf`, which is in hand or further in
-- front.
abbrev pub HasMarked : MovieSeen → Walk → Option Due → Place → Type 0
HasMarked m w None (Tables p) = StandsAt m w (Tables p)
HasMarked m w (Some before) (Fragment p) = w.next ≡ w.mark.next → (w.before ≡ Some before)
    × (w.traf ≡ w.mark.traf) × StandsAt m w (Fragment p) × IsRest m w (Some before) (Fragment p)
HasMarked m w _ _ = ⊥

-- what the walk has marked is a place that it came past
pub record IsMarkOf (m : MovieSeen) (w : Walk) : Type 0 where
  pub track : w.mark.track ≡ w.track
  pub behind : w.mark.next ≤ w.next
  pub place : HasMarked m w w.mark.before w.mark.place

-- a walk over the samples of a track of this movie
pub record IsWalkOf (m : MovieSeen) (w : Walk) : Type 0 where
  pub goes_on : GoesOn m w
  pub place : StandsAt m w w.place
  pub rest : IsRest m w w.before w.place
  pub mark : IsMarkOf m w

-- the samples in hand of a walk that stands at a place
abbrev pub HandAt : MovieSeen → Walk → Place → InHand → Type 0
HandAt m w (Tables p) (hands.Tables c) = (t : TrackTables) × (slice_get m.tables w.track ≡ Some t)
    × (c ≡ record { tables = tables_seen m.moov t; place = p })
HandAt m w (Fragment p) (hands.Fragment c) = c ≡ traf_hand w p
HandAt m w _ _ = ⊥

-- what the walk has in hand
abbrev pub InHandOf : MovieSeen → Walk → InHand → Type 0
InHandOf m w hand = HandAt m w w.place hand

-- it has a sample in hand
abbrev pub HasSome : MovieSeen → Walk → Type 0
HasSome m w = (hand : InHand) × InHandOf m w hand × (0 < length (left_in_hand hand))

-- Why no further `traf` is loaded.
abbrev pub RefusesLoad : ℕ → ℕ → Refusal → Type 0
RefusesLoad reads reads_after refusals.StoreFailed = HasRisen reads reads_after
RefusesLoad reads reads_after refusals.StoreChanged = Unit {0}
RefusesLoad reads reads_after _ = ⊥
