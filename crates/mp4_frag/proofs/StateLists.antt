-- Tracks with room for samples.
use Rattle.std.proofs.Common.{ℕ, ◌<◌, ◌≤◌, List, [], ◌∷◌, length, slice_set, slice_index_or, zero, suc, rules, arith}
use Rattle.mp4_boxes.proofs.Each.{each_weaker}
use Rattle.mp4_frag.specs.words.States.{HasRoom, HaveRoom}
use Rattle.mp4_frag.specs.declared.state.TrackState.{TrackState}

-- less room is there too
pub less_room : (room less : ℕ) (tracks : List TrackState) → less ≤ room → HaveRoom room tracks → HaveRoom less tracks
less_room room less tracks le h = each_weaker (HasRoom room) (HasRoom less) (λ t p. record { few = (let few = p.few in omega arith); time = p.time; bytes = p.bytes }) tracks h

-- the k-th track has room
pub has_room : (room k : ℕ) (tracks : List TrackState) (d : TrackState) → k < length tracks → HaveRoom room tracks → HasRoom room (slice_index_or tracks k d)
has_room room k [] d lt h = absurd (search rules)
has_room room zero (t ∷ tracks) d lt h = h.0
has_room room (suc k) (t ∷ tracks) d lt h = has_room room k tracks d (omega arith) h.1

-- tracks have room with another one that has
pub room_with : (room k : ℕ) (tracks : List TrackState) (t : TrackState) → HasRoom room t → HaveRoom room tracks → HaveRoom room (slice_set tracks k t)
room_with room k [] t p h = tt
room_with room zero (s ∷ tracks) t p h = (p, h.1)
room_with room (suc k) (s ∷ tracks) t p h = (h.0, room_with room k tracks t p h.1)
