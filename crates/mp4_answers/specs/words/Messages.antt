-- Messages among bytes, each with its padding behind it, and lanes in which they are hashed.
use Rattle.std.specs.Prelude.{◌≡◌, ◌⊎◌, ℕ, ◌+◌, ◌-◌, ◌*◌, ◌/◌, ◌<◌, ◌≤◌, List, [], length, take, drop, slice_index, slice_index_or, slice_set}
use Rattle.sha2.specs.Sha256.{digest_bytes, hash_after, initial_hash_256, padded_message, sha256}
use Rattle.mp4_answers.specs.words.Lanes.{lane}
use Rattle.mp4_answers.specs.declared.digests.side_by_side.Lanes.{Lanes}
use Rattle.mp4_answers.specs.declared.digests.messages.Message.{Message}

-- how many blocks a message of so many bytes has, with its padding
abbrev pub block_count : ℕ → ℕ
block_count n = (n + 72) / 64

abbrev pub message_of : List ℕ → Message → List ℕ
message_of bytes m = take m.len (drop m.start bytes)

-- a message with its padding
abbrev pub padded_of : List ℕ → Message → List ℕ
padded_of bytes m = take (block_count m.len * 64) (drop m.start bytes)

-- its padding stands behind it
pub record IsReady (bytes : List ℕ) (m : Message) : Type 0 where
  pub fits : m.start + block_count m.len * 64 ≤ length bytes
  pub padded : padded_of bytes m ≡ padded_message (message_of bytes m)

abbrev pub no_message : Message
no_message = record { start = 0; len = 0 }

abbrev pub message_at : List Message → ℕ → Message
message_at messages k = slice_index_or messages k no_message

abbrev pub AreReady : List ℕ → List Message → Type 0
AreReady bytes messages = (k : ℕ) → k < length messages → IsReady bytes (message_at messages k)

-- Some blocks of a message are hashed: so many are left, the next begins at a place, and the hash
-- value is this.
abbrev pub GoesOn : List ℕ → Message → ℕ → ℕ → List ℕ → Type 0
GoesOn bytes m place left hash = (done : ℕ) × (done + left ≡ block_count m.len)
    × (place ≡ m.start + done * 64) × (hash ≡ hash_after initial_hash_256 (padded_of bytes m) done)

-- A lane is free, or in it goes on one of the first so many messages.
pub record IsLane (bytes : List ℕ) (messages : List Message) (known : ℕ) (state : List (List ℕ))
    (lanes : Lanes) (l : ℕ) : Type 0 where
  pub fits : slice_index lanes.places l + 64 ≤ length bytes
  pub owner : 0 < slice_index lanes.lefts l → slice_index lanes.owners l < known
  pub goes : 0 < slice_index lanes.lefts l
      → GoesOn bytes (message_at messages (slice_index lanes.owners l))
      (slice_index lanes.places l) (slice_index lanes.lefts l) (lane l state)

-- a message goes on in a lane
abbrev pub IsInLane : Lanes → ℕ → Type 0
IsInLane lanes k = (l : ℕ) × (l < 4) × (0 < slice_index lanes.lefts l)
    × (slice_index lanes.owners l ≡ k)

-- its digest is found
abbrev pub IsFound : List ℕ → List Message → List (List ℕ) → ℕ → Type 0
IsFound bytes messages digests k =
    slice_index_or digests k [] ≡ sha256 (message_of bytes (message_at messages k))

-- Of the first so many messages each has its digest, or goes on in a lane.
pub record AreHeld (bytes : List ℕ) (messages : List Message) (known : ℕ) (state : List (List ℕ))
    (lanes : Lanes) (digests : List (List ℕ)) : Type 0 where
  pub lanes_go : (l : ℕ) → l < 4 → IsLane bytes messages known state lanes l
  pub found : (k : ℕ) → k < known → IsFound bytes messages digests k ⊎ IsInLane lanes k

-- they are held by other lanes, where they were
abbrev pub StayHeld : List ℕ → List (List ℕ) → List (List ℕ) → Lanes → Lanes → List (List ℕ)
    → List (List ℕ) → Type 0
StayHeld bytes state state_after lanes lanes_after digests digests_after =
    (messages : List Message) (known : ℕ) → AreReady bytes messages → known ≤ length messages
    → AreHeld bytes messages known state lanes digests
    → AreHeld bytes messages known state_after lanes_after digests_after

-- the digest of a message whose last block is hashed is told
abbrev pub HasDigest : ℕ → ℕ → List ℕ → List (List ℕ) → List (List ℕ) → Type 0
HasDigest left owner hash digests digests_after =
    (left ≡ 1 → digests_after ≡ slice_set digests owner (digest_bytes hash 8))
    × ((left ≡ 1 → ⊥) → digests_after ≡ digests)

-- each lane is behind its block
pub record MovesOn (lanes lanes_after : Lanes) : Type 0 where
  pub lefts : (l : ℕ) → l < 4
      → slice_index lanes_after.lefts l ≡ slice_index lanes.lefts l - 1
  pub more : (l : ℕ) → l < 4 → 1 < slice_index lanes.lefts l
      → slice_index lanes_after.places l ≡ slice_index lanes.places l + 64
  pub last : (l : ℕ) → l < 4 → slice_index lanes.lefts l ≤ 1
      → slice_index lanes_after.places l ≡ slice_index lanes.places l
  pub owners : lanes_after.owners ≡ lanes.owners

-- a message is begun in a lane, and the others stay
pub record BeginsState (l : ℕ) (state state_after : List (List ℕ)) : Type 0 where
  pub begun : lane l state_after ≡ initial_hash_256
  pub others : (j : ℕ) → j < 4 → (j ≡ l → ⊥) → lane j state_after ≡ lane j state

pub record Begins (l owner : ℕ) (m : Message) (lanes lanes_after : Lanes) : Type 0 where
  pub place : slice_index lanes_after.places l ≡ m.start
  pub left : slice_index lanes_after.lefts l ≡ block_count m.len
  pub owner_is : slice_index lanes_after.owners l ≡ owner
  pub places : (j : ℕ) → (j ≡ l → ⊥)
      → slice_index lanes_after.places j ≡ slice_index lanes.places j
  pub lefts : (j : ℕ) → (j ≡ l → ⊥)
      → slice_index lanes_after.lefts j ≡ slice_index lanes.lefts j
  pub owners : (j : ℕ) → (j ≡ l → ⊥)
      → slice_index lanes_after.owners j ≡ slice_index lanes.owners j

abbrev pub sum_of_four : List ℕ → ℕ
sum_of_four xs = slice_index xs 0 + slice_index xs 1 + slice_index xs 2 + slice_index xs 3
