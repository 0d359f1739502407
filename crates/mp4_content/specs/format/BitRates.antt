-- Bit rates and sizes of buffers in sample descriptions: `btrt` (ISO/IEC 14496-12, 8.5.2.2), and
-- three fields in `esds` (ISO/IEC 14496-1, 7.2.6.6). IDs there: ES_ID in `esds`, which is 0 in a
-- file (ISO/IEC 14496-14, 3.1.2), though writers put the ID of the track there. What is left of a
-- description goes by whether rates are left out, and whether IDs are.
use Rattle.std.specs.Prelude.{ℕ, zero, suc, ◌+◌, ◌-◌, ◌*◌, ◌/◌, ◌%◌, ◌^◌, ◌==◌, ◌&&◌, nat_le, nat_lt, not, Bool, if◌then◌else◌, List, [], ◌∷◌, ◌++◌, length, take, drop, map, filter, flat_map, codes, bytes_eq, slice_index}
use Rattle.std.specs.List.{list_all}
use Rattle.mp4_boxes.specs.format.Bytes.{field}
use Rattle.mp4_head.specs.format.Head.{Kept, handler_type}
use Rattle.mp4_head.specs.format.Writing.{kept_bytes}
use Rattle.mp4_content.specs.format.Zeros.{zeroed}

-- ---- descriptors (14496-1, 8.3.3)

-- how many bytes a length has from a place on: all but its last one have their high bit set, which
-- says that another follows; one more than may be, where too many do
unfoldable pub length_width : ℕ → List ℕ → ℕ → ℕ
length_width zero bytes at = 1
length_width (suc may_be) bytes at =
    if nat_lt (slice_index bytes at) 128 then 1 else suc (length_width may_be bytes (suc at))

-- the number in so many bytes of seven bits each
unfoldable pub length_number : ℕ → List ℕ → ℕ → ℕ
length_number zero bytes at = 0
length_number (suc width) bytes at =
    length_number width bytes at * 128 + slice_index bytes (at + width) % 128

-- where the content of the descriptor begins whose tag is at a place, and where it ends
unfoldable pub content_at : List ℕ → ℕ → ℕ
content_at bytes at = at + 1 + length_width 4 bytes (at + 1)

unfoldable pub content_end : List ℕ → ℕ → ℕ
content_end bytes at =
    content_at bytes at + length_number (length_width 4 bytes (at + 1)) bytes (at + 1)

-- a descriptor of a tag is at a place; its length has four bytes at most, and it ends within others
unfoldable pub has_descriptor : ℕ → ℕ → List ℕ → ℕ → Bool
has_descriptor tag end bytes at = (slice_index bytes at == tag)
    && nat_le (length_width 4 bytes (at + 1)) 4 && nat_le (content_end bytes at) end

-- ---- `esds`: version and flags, and an ES_Descriptor (14496-1, 7.2.6.5)

-- ES_ID takes two bytes; the bits of the byte behind it say which fields follow: 7 the ID of
-- another stream, 6 a URL behind a byte with its length, 5 the ID of a clock
unfoldable pub stream_flags : List ℕ → ℕ
stream_flags payload = slice_index payload (content_at payload 4 + 2)

unfoldable pub url_at : List ℕ → ℕ
url_at payload = content_at payload 4 + (if stream_flags payload / 128 % 2 == 1 then 5 else 3)

unfoldable pub clock_at : List ℕ → ℕ
clock_at payload = url_at payload
    + (if stream_flags payload / 64 % 2 == 1 then 1 + slice_index payload (url_at payload) else 0)

-- DecoderConfigDescriptor follows them
unfoldable pub config_at : List ℕ → ℕ
config_at payload = clock_at payload + (if stream_flags payload / 32 % 2 == 1 then 2 else 0)

-- There bufferSizeDB, maxBitrate and avgBitrate lie behind objectTypeIndication and the byte of
-- streamType: three bytes, four, and four (14496-1, 7.2.6.6).
unfoldable pub rates_at : List ℕ → ℕ
rates_at payload = content_at payload (config_at payload) + 2

-- the payload has rates: both descriptors, each within the one around it
unfoldable pub has_rates : List ℕ → Bool
has_rates payload = has_descriptor 3 (length payload) payload 4
    && has_descriptor 4 (content_end payload 4) payload (config_at payload)
    && nat_le (rates_at payload + 11) (content_end payload (config_at payload))

-- the payload has ES_ID: the outer descriptor, with room for its two bytes
unfoldable pub has_id : List ℕ → Bool
has_id payload = has_descriptor 3 (length payload) payload 4
    && nat_le (content_at payload 4 + 2) (content_end payload 4)

-- what is left of the payload: zeros in their places
abbrev pub rates_zeroed : List ℕ → List ℕ
rates_zeroed payload = if has_rates payload then zeroed (rates_at payload) 11 payload else payload

abbrev pub id_zeroed : List ℕ → List ℕ
id_zeroed payload = if has_id payload then zeroed (content_at payload 4) 2 payload else payload

abbrev pub esds_left : Bool → Bool → List ℕ → List ℕ
esds_left rates ids payload =
    if rates then rates_zeroed (if ids then id_zeroed payload else payload)
    else (if ids then id_zeroed payload else payload)

-- ---- boxes in descriptions

-- a box with a header of 8 bytes begins the bytes (ISO/IEC 14496-12, 4.2.2): its size, which is of
-- 32 bits, counts its header and is within them
unfoldable pub begins_box : List ℕ → Bool
begins_box bytes = nat_le 8 (field bytes 0 4) && nat_le (field bytes 0 4) (length bytes)
    && nat_lt (field bytes 0 4) (2 ^ 32)

abbrev pub first_box : List ℕ → Kept
first_box bytes = record {
  kind = take 4 (drop 4 bytes);
  payload = take (field bytes 0 4 - 8) (drop 8 bytes);
}

-- such boxes from the front of the bytes on, so many at most, and what is behind them
abbrev pub leading_boxes : ℕ → List ℕ → List Kept
leading_boxes zero bytes = []
leading_boxes (suc most) bytes = if begins_box bytes
    then first_box bytes ∷ leading_boxes most (drop (field bytes 0 4) bytes) else []

abbrev pub behind_boxes : ℕ → List ℕ → List ℕ
behind_boxes zero bytes = bytes
behind_boxes (suc most) bytes =
    if begins_box bytes then behind_boxes most (drop (field bytes 0 4) bytes) else bytes

-- all of them: there are no more than bytes
abbrev pub boxes_of : List ℕ → List Kept
boxes_of bytes = leading_boxes (length bytes) bytes

abbrev pub end_of : List ℕ → List ℕ
end_of bytes = behind_boxes (length bytes) bytes

-- at most so many zeros
abbrev pub are_zeros : ℕ → List ℕ → Bool
are_zeros most bytes = nat_le (length bytes) most && list_all (λ (b : ℕ). b == 0) bytes

-- a box stays: where rates are left out, all but `btrt`
abbrev pub is_left : Bool → Kept → Bool
is_left rates k = not (rates && bytes_eq k.kind (codes "btrt"))

-- the boxes that stay, each changed
abbrev pub left_of_boxes : Bool → (Kept → Kept) → List Kept → List Kept
left_of_boxes rates change boxes = map change (filter (is_left rates) boxes)

-- What is left of bytes that boxes tile, up to so many zeros at their end; others stay.
abbrev pub tiles_left : Bool → (Kept → Kept) → ℕ → List ℕ → List ℕ
tiles_left rates change zeros bytes = if are_zeros zeros (end_of bytes)
    then flat_map kept_bytes (left_of_boxes rates change (boxes_of bytes)) ++ end_of bytes
    else bytes

-- what is left of a box in a `wave`, and of one in a description: of `esds`, and of `wave`, which
-- QuickTime has around the same boxes
abbrev pub inner_box_left : Bool → Bool → Kept → Kept
inner_box_left rates ids k = record k {
  payload = if bytes_eq k.kind (codes "esds") then esds_left rates ids k.payload else k.payload;
}

abbrev pub wave_left : Bool → Bool → List ℕ → List ℕ
wave_left rates ids payload = tiles_left rates (inner_box_left rates ids) 0 payload

abbrev pub box_left : Bool → Bool → Kept → Kept
box_left rates ids k = record k {
  payload = if bytes_eq k.kind (codes "wave") then wave_left rates ids k.payload
      else (inner_box_left rates ids k).payload;
}

-- ---- descriptions

-- what is left of boxes from a place on, if the payload has it
abbrev pub behind_left : Bool → Bool → ℕ → ℕ → List ℕ → List ℕ
behind_left rates ids at zeros payload = if nat_le at (length payload)
    then take at payload ++ tiles_left rates (box_left rates ids) zeros (drop at payload)
    else payload

-- of a VisualSampleEntry (12.1.3), which may end in four zeros that end a list of QuickTime
abbrev pub picture_left : Bool → Bool → List ℕ → List ℕ
picture_left rates ids payload = behind_left rates ids 78 4 payload

-- of an AudioSampleEntry (12.2.3), the longer ones of QuickTime's versions 1 and 2 too
abbrev pub sound_left : Bool → Bool → List ℕ → List ℕ
sound_left rates ids payload = if field payload 8 2 == 0 then behind_left rates ids 28 0 payload
    else if field payload 8 2 == 1 then behind_left rates ids 44 0 payload
    else if field payload 8 2 == 2 then behind_left rates ids 64 0 payload
    else payload

-- The payload of another entry ends in a `btrt` of 20 bytes, behind the 8 bytes that each entry has
-- (8.5.2).
unfoldable pub ends_in_rates : List ℕ → Bool
ends_in_rates payload = nat_le 28 (length payload)
    && (field payload (length payload - 20) 4 == 20)
    && bytes_eq (take 4 (drop (length payload - 16) payload)) (codes "btrt")

-- without those at its end, so many at most
abbrev pub shorter_by : ℕ → List ℕ → List ℕ
shorter_by zero payload = payload
shorter_by (suc most) payload = if ends_in_rates payload
    then shorter_by most (take (length payload - 20) payload) else payload

abbrev pub other_left : List ℕ → List ℕ
other_left payload = shorter_by (length payload) payload

-- What is left of a description by the type of its track's handler (8.4.3). Of other handlers a
-- `btrt` at the end alone is looked for.
abbrev pub payload_left : Bool → Bool → List ℕ → List ℕ → List ℕ
payload_left rates ids handler payload =
    if bytes_eq handler (codes "vide") then picture_left rates ids payload
    else if bytes_eq handler (codes "soun") then sound_left rates ids payload
    else if rates then other_left payload
    else payload

abbrev pub entry_left : Bool → Bool → List ℕ → Kept → Kept
entry_left rates ids handler k =
    record k { payload = payload_left rates ids (handler_type handler) k.payload }

-- sample descriptions of a track with this handler
abbrev pub entries_left : Bool → Bool → List ℕ → List Kept → List Kept
entries_left rates ids handler descriptions = map (entry_left rates ids handler) descriptions
