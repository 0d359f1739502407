-- What is left of boxes is no longer.
use Rattle.std.proofs.Common.{ℕ, ◌≤◌, Bool, true, false, if◌then◌else◌, List, length, arith}
use Rattle.std.specs.Prelude.{codes, bytes_eq}
use Rattle.mp4_head.specs.format.Head.{Kept}
use Rattle.mp4_head.specs.format.Writing.{kept_bytes}
use Rattle.mp4_head.proofs.HeadLengths.{length_any}
use Rattle.mp4_content.specs.format.BitRates.{esds_left, inner_box_left, box_left, wave_left}
use Rattle.mp4_content.proofs.FirstBoxes.{MakesNoLonger, tiles_short}
use Rattle.mp4_content.proofs.RatesPlaces.{esds_length}

pub box_short : (k : Kept) (payload : List ℕ) → length payload ≤ length k.payload → length (kept_bytes (record k { payload = payload })) ≤ length (kept_bytes k)
box_short k payload few = omega (arith, length_any k.kind payload, length_any k.kind k.payload, few)

-- what is left by two words
module _ (rates ids : Bool) where
  inner_payload : (k : Kept) → length (inner_box_left rates ids k).payload ≤ length k.payload
  inner_payload k = by (bytes_eq k.kind (codes "esds"))
    where
      by : (v : Bool) → length (if v then esds_left rates ids k.payload else k.payload) ≤ length k.payload
      by true = let same = esds_length rates ids k.payload in omega (arith, same)
      by false = omega arith

  pub inner_short : MakesNoLonger (inner_box_left rates ids)
  inner_short k = box_short k (inner_box_left rates ids k).payload (inner_payload k)

  pub wave_short : (payload : List ℕ) → length (wave_left rates ids payload) ≤ length payload
  wave_short payload = tiles_short rates (inner_box_left rates ids) inner_short 0 payload

  box_payload : (k : Kept) → length (box_left rates ids k).payload ≤ length k.payload
  box_payload k = by (bytes_eq k.kind (codes "wave"))
    where
      by : (v : Bool) → length (if v then wave_left rates ids k.payload else (inner_box_left rates ids k).payload) ≤ length k.payload
      by true = wave_short k.payload
      by false = inner_payload k

  pub boxes_no_longer : MakesNoLonger (box_left rates ids)
  boxes_no_longer k = box_short k (box_left rates ids k).payload (box_payload k)
