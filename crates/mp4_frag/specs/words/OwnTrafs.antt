-- The `traf`s that have samples of a track: where they stand in a file, and what is noted of them.
use Rattle.std.specs.Prelude.{◌≡◌, ℕ, ◌+◌, ◌==◌, ◌&&◌, max, ℤ, pos, Bool, false, List, [], ◌∷◌, ◌++◌, length, map, filter, flat_map, unwrap_or, codes, ⊤}
use Rattle.std.specs.List.{AllByRecursion}
use Rattle.mp4_boxes.specs.format.Bytes.{sum_of}
use Rattle.mp4_boxes.specs.format.Box.{Box}
use Rattle.mp4_boxes.specs.format.Children.{of_kind}
use Rattle.mp4_tables.specs.format.PlainSamples.{PlacedSample}
use Rattle.mp4_frag.specs.format.FragmentRows.{traf_rows, traf_length}
use Rattle.mp4_frag.specs.format.FragmentSamples.{Part, trex_for, no_trex, base_of, part_samples, has_samples}
use Rattle.mp4_frag.specs.format.Fragments.{FragmentTree, track_fragment_of}
use Rattle.mp4_frag.specs.words.Judged.{part_with, end_with}
use Rattle.mp4_frag.specs.words.TrafFaults.{traf_in}
use Rattle.mp4_frag.specs.declared.next_traf.OwnTraf.{OwnTraf}
use Rattle.mp4_frag.specs.declared.state.TrackState.{TrackState}
use Rattle.mp4_frag.specs.declared.trex.Trex.{Trex}

-- ---- notes

-- what is noted of a track: its `traf`s with samples, and how long the longest payload of them is
pub record OwnSeen : Type 0 where
  pub trafs : List OwnTraf
  pub longest : ℕ

-- no two tracks have one ID
abbrev pub AreApart : List TrackState → Type 0
AreApart [] = ⊤
AreApart (t ∷ tracks) = AllByRecursion (λ (s : TrackState). (s.id == t.id) ≡ false) tracks
    × AreApart tracks

-- ---- where `traf`s stand

-- a `traf` where it stands in a file: its box, where its runs are counted from, and what it says
pub record PlacedTraf : Type 0 where
  pub traf : Box
  pub base : ℤ
  pub part : Part

-- one of a `moof`, behind data that ends at a place, with these defaults and boxes
abbrev pub placed_with : ℕ → ℤ → Trex → Box → List Box → PlacedTraf
placed_with moof before trex b boxes = record {
  traf = b;
  base = base_of moof before (track_fragment_of boxes);
  part = part_with moof before trex (track_fragment_of boxes);
}

-- what the fragments of the track of these boxes inherit
abbrev pub trex_by : List Trex → List Box → Trex
trex_by trexes boxes = unwrap_or (trex_for trexes (track_fragment_of boxes).id) no_trex

-- those of a `moof`, where `before` is where the data of the `traf` before ends
abbrev pub placed_after : List Trex → ℕ → ℤ → List Box → List (List Box) → List PlacedTraf
placed_after trexes moof before (b ∷ trafs) (boxes ∷ lists) =
    placed_with moof before (trex_by trexes boxes) b boxes
    ∷ placed_after trexes moof
    (end_with moof before (trex_by trexes boxes) (track_fragment_of boxes)) trafs lists
placed_after trexes moof before _ _ = []

abbrev pub placed_in : List Trex → FragmentTree → List PlacedTraf
placed_in trexes t = placed_after trexes t.moof.offset (pos t.moof.offset)
    (of_kind (codes "traf") t.children) t.trafs

-- it is of the track with this ID, and has samples
abbrev pub is_own : ℕ → PlacedTraf → Bool
is_own id p = (p.part.id == id) && has_samples p.part

-- those of a `moof` that are
abbrev pub own_in : List Trex → ℕ → FragmentTree → List PlacedTraf
own_in trexes id t = filter (is_own id) (placed_in trexes t)

-- their samples
abbrev pub placed_samples : List PlacedTraf → List PlacedSample
placed_samples placed = flat_map (λ (p : PlacedTraf). part_samples p.part) placed

-- ---- what is noted

-- where the payload of one lies in the file, how long it is, and where its runs are counted from
abbrev pub note_of : PlacedTraf → OwnTraf
note_of p = record {
  at = p.traf.offset + p.traf.header;
  len = length p.traf.payload;
  base = p.base;
}

-- how long the payload of one is, and how long those of all `traf`s of a `moof` are together
abbrev pub payload_length : PlacedTraf → ℕ
payload_length p = length p.traf.payload

abbrev pub traf_payloads : FragmentTree → ℕ
traf_payloads t = sum_of (λ (b : Box). length b.payload) (of_kind (codes "traf") t.children)

-- how long the longest payload of them is, 0 for none
abbrev pub longest_of : List PlacedTraf → ℕ
longest_of [] = 0
longest_of (p ∷ placed) = max (length p.traf.payload) (longest_of placed)

-- the notes with those of these `traf`s
abbrev pub with_notes : List PlacedTraf → OwnSeen → OwnSeen
with_notes placed own = record {
  trafs = own.trafs ++ map note_of placed;
  longest = max own.longest (longest_of placed);
}

-- the notes of each track with those of its own `traf`s of a `moof`
abbrev pub noted_in : List Trex → FragmentTree → List TrackState → List OwnSeen → List OwnSeen
noted_in trexes t (s ∷ states) (o ∷ owns) = with_notes (own_in trexes s.id t) o
    ∷ noted_in trexes t states owns
noted_in trexes t states owns = owns

-- ---- what a walk over one costs

-- a step for it, its runs, the rows of its `sbgp`s, and its samples
unfoldable pub traf_steps : Box → ℕ
traf_steps traf = traf_rows (traf_in traf) + traf_length (traf_in traf)
