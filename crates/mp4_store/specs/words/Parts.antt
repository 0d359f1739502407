-- Parts that lie one after the other as one list.
use Rattle.std.specs.Prelude.{◌≡◌, ℕ, ◌+◌, ◌<◌, List, [], ◌∷◌, length, take, flat_map, get_or}
use Rattle.mp4_store.specs.words.Device.{count_after}

-- where each part ends, if the first begins at `from`
abbrev pub ends_of : ℕ → List (List ℕ) → List ℕ
ends_of from [] = []
ends_of from (part ∷ parts) = (from + length part) ∷ ends_of (from + length part) parts

-- the place `at` of the whole is that of one byte of this part
abbrev pub IsPlaceIn : List (List ℕ) → ℕ → ℕ → ℕ → Type 0
IsPlaceIn parts at part offset = (part < length parts)
    × (at ≡ length (flat_map (λ bytes. bytes) (take part parts)) + offset)
    × (offset < length (get_or parts part []))

-- of these counts of failed reads, one for each part, one has risen
abbrev pub HasFailed : List ℕ → List ℕ → Type 0
HasFailed before after = (part : ℕ) × (part < length before)
    × (get_or after part 0 ≡ count_after (get_or before part 0))
