-- What reads of a file behind a store answer.
use Rattle.std.specs.Prelude.{◌≡◌, ◌⊎◌, ℕ, ◌+◌, ◌-◌, ◌<◌, List, length, take, drop, Bool, true, IsTrue, Ok, Err, codes}
use Rattle.mp4_store.specs.words.Device.{HasRisen}
use Rattle.mp4_boxes.specs.format.Box.{Box, Header, header_at}
use Rattle.mp4_boxes.specs.format.BoxFaults.{header_there}
use Rattle.mp4_boxes.specs.words.View.{top_header_seen}
use Rattle.mp4_boxes.specs.declared.headers.TopHeader.{TopHeader}
use Rattle.mp4_boxes.specs.declared.refusal.Refusal.{Refusal}
use Rattle.mp4_boxes.specs.declared.refusal.Refusal.TheVariants as refusals

-- the header that stands at this place of the file itself
abbrev pub IsTopHeader : List ℕ → ℕ → TopHeader → Type 0
IsTopHeader file at h = header_there true (length file - at) (drop at file) (codes "file") at
    ≡ Ok (top_header_seen at h)

-- the box that a top-level header begins
abbrev pub top_box : List ℕ → ℕ → TopHeader → Box
top_box file at h = record {
  kind = h.kind.0;
  offset = at;
  header = h.header;
  payload = take (h.end - at - h.header) (drop (at + h.header) file);
}

-- Why a top-level header is not read: it has a fault, or the read failed. The numbers are counts of
-- failed reads, before and after.
abbrev pub RefusesHeader : Bool → List ℕ → ℕ → ℕ → ℕ → Refusal → Type 0
RefusesHeader honest file at reads reads_after (refusals.Fault f) = IsTrue honest
    → header_there true (length file - at) (drop at file) (codes "file") at ≡ Err f
RefusesHeader honest file at reads reads_after refusals.StoreFailed = HasRisen reads reads_after
RefusesHeader honest file at reads reads_after _ = ⊥

-- Why bytes are not read.
abbrev pub RefusesRead : ℕ → ℕ → Refusal → Type 0
RefusesRead reads reads_after refusals.Memory = Unit {0}
RefusesRead reads reads_after refusals.StoreFailed = HasRisen reads reads_after
RefusesRead reads reads_after _ = ⊥

-- Why bytes are not read to a room that is there.
abbrev pub RefusesFront : ℕ → ℕ → Refusal → Type 0
RefusesFront reads reads_after refusals.StoreFailed = HasRisen reads reads_after
RefusesFront reads reads_after _ = ⊥

-- Why the box that begins at a place of the file is not read to a room of so many bytes: a read
-- failed, or no box that there is room for begins there.
abbrev pub RefusesTopBox : ℕ → ℕ → Bool → List ℕ → ℕ → ℕ → Refusal → Type 0
RefusesTopBox room at honest file reads reads_after refusals.StoreFailed =
    HasRisen reads reads_after
RefusesTopBox room at honest file reads reads_after refusals.StoreChanged = IsTrue honest
    → (h : Header) → header_at true (drop at file) ≡ Ok h → room < h.size
RefusesTopBox room at honest file reads reads_after _ = ⊥

-- Why so many bytes of a file of a length, from a place on, are not read to a room.
abbrev pub RefusesRange : ℕ → ℕ → ℕ → ℕ → ℕ → ℕ → Refusal → Type 0
RefusesRange file_length room at len reads reads_after refusals.StoreFailed =
    HasRisen reads reads_after
RefusesRange file_length room at len reads reads_after refusals.StoreChanged = (room < len)
    ⊎ (file_length < at + len)
RefusesRange file_length room at len reads reads_after _ = ⊥
