-- Messages that are hashed in lanes: how they begin, go on by a block, and end.
use Rattle.std.proofs.Common.{◌≡◌, ℕ, ◌+◌, ◌-◌, ◌*◌, ◌/◌, ◌<◌, ◌≤◌, List, [], length, take, drop, slice_index, refl, sym, ap, subst, ◌∙◌, arith, inl, inr, length-drop}
use Rattle.std.specs.Prelude.{◌⊎◌}
use Rattle.std.proofs.lemmas.List.{drop-drop, drop-take, take-take, length-take-le, get_or-set_same, get_or-set_other}
use Rattle.std.proofs.lemmas.Bool.{cases_eq, cases_lt}
use Rattle.sha2.specs.Sha256.{compress, digest_bytes, hash_after, initial_hash_256, padded_message, sha256}
use Rattle.sha2.proofs.Absorbing256.{hash_after_next}
use Rattle.mp4_answers.specs.words.Lanes.{lane, block_at}
use Rattle.mp4_answers.specs.words.Messages.{AreHeld, AreReady, Begins, BeginsState, GoesOn, HasDigest, IsFound, IsInLane, IsLane, IsReady, MovesOn, block_count, message_at, message_of, padded_of}
use Rattle.mp4_answers.specs.declared.digests.side_by_side.Lanes.{Lanes}
use Rattle.mp4_answers.specs.declared.digests.messages.Message.{Message}
use Rattle.mp4_boxes.proofs.Plain.{below_four}

-- ---- one message

module _ (bytes : List ℕ) (m : Message) (ready : IsReady bytes m) where
  size : length (padded_of bytes m) ≡ block_count m.len * 64
  size = length-take-le (block_count m.len * 64) (drop m.start bytes) (omega (arith, ready.fits, length-drop m.start bytes))

  -- a block of the message is one of the bytes
  block_is : (done : ℕ) → done < block_count m.len → take 64 (drop (done * 64) (padded_of bytes m)) ≡ block_at bytes (m.start + done * 64)
  block_is done lt =
      let rest : ℕ = block_count m.len * 64 - done * 64 in
      let whole : block_count m.len * 64 ≡ done * 64 + rest = omega arith in
      ap (λ n. take 64 (drop (done * 64) (take n (drop m.start bytes)))) whole
      ∙ ap (take 64) (drop-take (done * 64) rest (drop m.start bytes))
      ∙ take-take 64 rest (drop (done * 64) (drop m.start bytes)) (omega arith)
      ∙ ap (take 64) (drop-drop (done * 64) m.start bytes ∙ ap (λ n. drop n bytes) (omega arith))

  module _ (place left : ℕ) (hash : List ℕ) (some : 0 < left) (g : GoesOn bytes m place left hash) where
    next : compress hash (block_at bytes place) ≡ hash_after initial_hash_256 (padded_of bytes m) (g.0 + 1)
    next =
        let e = g.1 in
        let at = g.2 in
        let block = block_is g.0 (omega (arith, e)) in
        let is = hash_after_next initial_hash_256 (padded_of bytes m) g.0 in
        rw (is, block, ← g.3, ← at) refl

    -- it goes on behind the block
    pub goes_behind : GoesOn bytes m (place + 64) (left - 1) (compress hash (block_at bytes place))
    goes_behind =
        let e = g.1 in
        let at = g.2 in
        (g.0 + 1, omega (arith, e), omega (arith, at), next)

    -- and there is room for one more
    pub room_behind : 1 < left → place + 64 + 64 ≤ length bytes
    room_behind more = let e = g.1 in let at = g.2 in omega (arith, e, at, ready.fits)

    -- the last block gives the digest
    pub ends_there : left ≡ 1 → digest_bytes (compress hash (block_at bytes place)) 8 ≡ sha256 (message_of bytes m)
    unfolding sha256
    ends_there last =
        let e = g.1 in
        let count : g.0 + 1 ≡ block_count m.len = omega (arith, e) in
        let blocks : length (padded_message (message_of bytes m)) / 64 ≡ block_count m.len = omega (arith, size, ap length ready.padded) in
        ap (λ h. digest_bytes h 8) (next ∙ ap (hash_after initial_hash_256 (padded_of bytes m)) (count ∙ sym blocks) ∙ ap (λ p. hash_after initial_hash_256 p (length (padded_message (message_of bytes m)) / 64)) ready.padded)

-- ---- digests

module _ (bytes : List ℕ) (messages : List Message) where
  module _ (left owner : ℕ) (hash : List ℕ) (d e : List (List ℕ)) (told : HasDigest left owner hash d e) (fits : left ≡ 1 → owner < length d)
      (right : left ≡ 1 → digest_bytes hash 8 ≡ sha256 (message_of bytes (message_at messages owner))) where
    pub told_found : left ≡ 1 → IsFound bytes messages e owner
    told_found last = rw (told.0 last) (get_or-set_same d owner (digest_bytes hash 8) [] (fits last) ∙ right last)

    -- what was found stays so
    pub told_stays : (k : ℕ) → IsFound bytes messages d k → IsFound bytes messages e k
    told_stays k found = elim (cases_eq left 1) [
      | inl last ↦ elim (cases_eq owner k) [
        | inl same ↦ subst (IsFound bytes messages e) same (told_found last)
        | inr other ↦ rw (told.0 last) (get_or-set_other d owner k (digest_bytes hash 8) [] (λ same. other (sym same)) ∙ found)
      ]
      | inr more ↦ rw (told.1 more) found
    ]

  -- ---- lanes

  module _ (known : ℕ) (state after : List (List ℕ)) (lanes next : Lanes) (a b c d e : List (List ℕ)) (ready : AreReady bytes messages) (few : known ≤ length messages) (held : AreHeld bytes messages known state lanes a)
      (compressed : (l : ℕ) → l < 4 → lane l after ≡ compress (lane l state) (block_at bytes (slice_index lanes.places l))) (moved : MovesOn lanes next) where
    busy_goes : (l : ℕ) → l < 4 → 0 < slice_index lanes.lefts l → IsReady bytes (message_at messages (slice_index lanes.owners l))
    busy_goes l lt some = let owner = (held.lanes_go l lt).owner some in ready (slice_index lanes.owners l) (omega (arith, owner, few))

    right : (l : ℕ) → l < 4 → slice_index lanes.lefts l ≡ 1 → digest_bytes (lane l after) 8 ≡ sha256 (message_of bytes (message_at messages (slice_index lanes.owners l)))
    right l lt last =
        let some : 0 < slice_index lanes.lefts l = omega (arith, last) in
        rw (compressed l lt) (ends_there bytes _ (busy_goes l lt some) _ _ _ some ((held.lanes_go l lt).goes some) last)

    lane_steps : (l : ℕ) → l < 4 → IsLane bytes messages known after next l
    lane_steps l lt =
        let before = held.lanes_go l lt in
        let left = moved.lefts l lt in
        let fits = before.fits in
        elim (cases_lt 1 (slice_index lanes.lefts l)) [
          | inl more ↦
              let some : 0 < slice_index lanes.lefts l = omega (arith, more) in
              let going = before.goes some in
              let at : slice_index next.places l ≡ slice_index lanes.places l + 64 = moved.more l lt more in
              let room = room_behind bytes _ (busy_goes l lt some) _ _ _ some going more in
              record {
                fits = omega (arith, at, room);
                owner = λ _. rw moved.owners (before.owner some);
                goes = λ _. rw (moved.owners, at, left, compressed l lt) (goes_behind bytes _ (busy_goes l lt some) _ _ _ some going);
              }
          | inr few ↦
              let at : slice_index next.places l ≡ slice_index lanes.places l = moved.last l lt few in
              record {
                fits = omega (arith, at, fits);
                owner = λ some. absurd (omega (arith, some, left, few));
                goes = λ some. absurd (omega (arith, some, left, few));
              }
        ]

    -- The four lanes tell their digests one after the other.
    module _ (fits : (l : ℕ) → l < 4 → slice_index lanes.lefts l ≡ 1 → slice_index lanes.owners l < length a) (as_b : length b ≡ length a) (as_c : length c ≡ length b) (as_d : length d ≡ length c)
        (p : HasDigest (slice_index lanes.lefts 0) (slice_index lanes.owners 0) (lane 0 after) a b) (q : HasDigest (slice_index lanes.lefts 1) (slice_index lanes.owners 1) (lane 1 after) b c)
        (r : HasDigest (slice_index lanes.lefts 2) (slice_index lanes.owners 2) (lane 2 after) c d) (s : HasDigest (slice_index lanes.lefts 3) (slice_index lanes.owners 3) (lane 3 after) d e) where
      fits_b : slice_index lanes.lefts 1 ≡ 1 → slice_index lanes.owners 1 < length b
      fits_b last = let own = fits 1 (omega arith) last in omega (arith, own, as_b)

      fits_c : slice_index lanes.lefts 2 ≡ 1 → slice_index lanes.owners 2 < length c
      fits_c last = let own = fits 2 (omega arith) last in omega (arith, own, as_b, as_c)

      fits_d : slice_index lanes.lefts 3 ≡ 1 → slice_index lanes.owners 3 < length d
      fits_d last = let own = fits 3 (omega arith) last in omega (arith, own, as_b, as_c, as_d)

      from_d : (k : ℕ) → IsFound bytes messages d k → IsFound bytes messages e k
      from_d k found = told_stays _ _ _ d e s fits_d (right 3 (omega arith)) k found

      from_c : (k : ℕ) → IsFound bytes messages c k → IsFound bytes messages e k
      from_c k found = from_d k (told_stays _ _ _ c d r fits_c (right 2 (omega arith)) k found)

      from_b : (k : ℕ) → IsFound bytes messages b k → IsFound bytes messages e k
      from_b k found = from_c k (told_stays _ _ _ b c q fits_b (right 1 (omega arith)) k found)

      from_a : (k : ℕ) → IsFound bytes messages a k → IsFound bytes messages e k
      from_a k found = from_b k (told_stays _ _ _ a b p (fits 0 (omega arith)) (right 0 (omega arith)) k found)

      told : (l : ℕ) → l < 4 → slice_index lanes.lefts l ≡ 1 → IsFound bytes messages e (slice_index lanes.owners l)
      told = below_four (λ l. slice_index lanes.lefts l ≡ 1 → IsFound bytes messages e (slice_index lanes.owners l))
          (λ last. from_b _ (told_found _ _ _ a b p (fits 0 (omega arith)) (right 0 (omega arith)) last))
          (λ last. from_c _ (told_found _ _ _ b c q fits_b (right 1 (omega arith)) last))
          (λ last. from_d _ (told_found _ _ _ c d r fits_c (right 2 (omega arith)) last))
          (λ last. told_found _ _ _ d e s fits_d (right 3 (omega arith)) last)

      still : (k : ℕ) → IsInLane lanes k → IsFound bytes messages e k ⊎ IsInLane next k
      still k in_lane =
          let l = in_lane.0 in
          let lt = in_lane.1 in
          let left = moved.lefts l lt in
          elim (cases_lt 1 (slice_index lanes.lefts l)) [
            | inl more ↦ inr (l, lt, omega (arith, left, more), ap (λ owners. slice_index owners l) moved.owners ∙ in_lane.3)
            | inr few ↦
                let some = in_lane.2 in
                let last : slice_index lanes.lefts l ≡ 1 = omega (arith, some, few) in
                inl (subst (IsFound bytes messages e) in_lane.3 (told l lt last))
          ]

      held_on : (k : ℕ) → IsFound bytes messages a k ⊎ IsInLane lanes k → IsFound bytes messages e k ⊎ IsInLane next k
      held_on k (inl found) = inl (from_a k found)
      held_on k (inr in_lane) = still k in_lane

      pub step_held : AreHeld bytes messages known after next e
      step_held = record { lanes_go = lane_steps; found = λ k lt. held_on k (held.found k lt) }

  -- a message is begun
  module _ (known l : ℕ) (state after : List (List ℕ)) (lanes next : Lanes) (digests : List (List ℕ)) (lt : l < 4) (is_free : slice_index lanes.lefts l ≡ 0) (ready : IsReady bytes (message_at messages known))
      (held : AreHeld bytes messages known state lanes digests) (begun : BeginsState l state after) (begins : Begins l known (message_at messages known) lanes next) where
    first : GoesOn bytes (message_at messages known) (message_at messages known).start (block_count (message_at messages known).len) initial_hash_256
    unfolding hash_after
    first = (0, omega arith, omega arith, refl)

    begun_lane : IsLane bytes messages (known + 1) after next l
    begun_lane =
        let room = ready.fits in
        record {
          fits = (let place = begins.place in omega (arith, place, room));
          owner = λ _. (let owner = begins.owner_is in omega (arith, owner));
          goes = λ _. rw (begins.owner_is, begins.place, begins.left, begun.begun) first;
        }

    module _ (j : ℕ) (in_four : j < 4) (other : j ≡ l → ⊥) where
      other_lane : IsLane bytes messages (known + 1) after next j
      other_lane =
          let before = held.lanes_go j in_four in
          let fits = before.fits in
          record {
            fits = (let place = begins.places j other in omega (arith, place, fits));
            owner = λ some. (let left = begins.lefts j other in let own = before.owner (omega (arith, left, some)) in let is = begins.owners j other in omega (arith, own, is));
            goes = λ some. (let left = begins.lefts j other in rw (begins.owners j other, begins.places j other, left, begun.others j in_four other) (before.goes (omega (arith, left, some))));
          }

    in_lanes : (j : ℕ) → j < 4 → IsLane bytes messages (known + 1) after next j
    in_lanes j in_four = elim (cases_eq j l) [
      | inl same ↦ subst (IsLane bytes messages (known + 1) after next) (sym same) begun_lane
      | inr other ↦ other_lane j in_four other
    ]

    some_blocks : 0 < block_count (message_at messages known).len
    some_blocks = omega arith

    still_held : (k : ℕ) → IsFound bytes messages digests k ⊎ IsInLane lanes k → IsFound bytes messages digests k ⊎ IsInLane next k
    still_held k (inl found) = inl found
    still_held k (inr in_lane) =
        let j = in_lane.0 in
        let some = in_lane.2 in
        let other : j ≡ l → ⊥ = λ same. (let free : slice_index lanes.lefts j ≡ 0 = ap (slice_index lanes.lefts) same ∙ is_free in omega (arith, free, some)) in
        let left = begins.lefts j other in
        inr (j, in_lane.1, omega (arith, left, some), begins.owners j other ∙ in_lane.3)

    pub begun_held : AreHeld bytes messages (known + 1) after next digests
    begun_held = record {
      lanes_go = in_lanes;
      found = λ k more. elim (cases_lt k known) [
        | inl below ↦ still_held k (held.found k below)
        | inr above ↦ (let left = begins.left in inr (l, lt, omega (arith, left, some_blocks), begins.owner_is ∙ omega (arith, above, more)))
      ];
    }
