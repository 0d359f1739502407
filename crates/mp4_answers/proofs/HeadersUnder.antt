-- Headers in the containers of a file, read in their first bytes.
use Rattle.std.proofs.Common.{◌≡◌, ℕ, ◌+◌, ◌-◌, ◌<◌, ◌≤◌, List, length, take, ap, sym, ◌∙◌, arith, Ok}
use Rattle.std.proofs.lemmas.Grind.{common_steps}
use Rattle.std.specs.Prelude.{min, Result, Bool, IsTrue}
use Rattle.mp4_boxes.specs.format.Box.{Header, header_at}
use Rattle.mp4_boxes.specs.format.BoxFaults.{header_there, type_of}
use Rattle.mp4_boxes.specs.declared.fault.Fault.{Fault}
use Rattle.mp4_boxes.specs.declared.refusal.Refusal.{Refusal}
use Rattle.mp4_boxes.specs.declared.refusal.Refusal.TheVariants as refusals
use Rattle.mp4_boxes.specs.declared.rule.Rule.{Rule}
use Rattle.mp4_boxes.proofs.HeaderFronts.{header_there-take}
use Rattle.mp4_boxes.proofs.Walking.{located_ok}
use Rattle.mp4_store.specs.words.Device.{range}
use Rattle.mp4_answers.specs.declared.box_names.Name.{Name}
use Rattle.mp4_answers.specs.format.Strips.{Halts, here, RefusesHeaderUnder, RefusesFind, RefusesWalk}
use Rattle.mp4_answers.proofs.StripWalks.{take_range}

pub length_range : (file : List ℕ) (at n : ℕ) → at + n ≤ length file → length (range file at n) ≡ n
length_range file at n le = grind (arith, common_steps)

-- a header in the bytes that were read is the one in the file
pub read_under : (is_open : Bool) (container file bytes : List ℕ) (at left n : ℕ) (r : Result Header Fault) → bytes ≡ range file at n → n ≡ min left 16 → at + left ≤ length file
    → header_there is_open left bytes container at ≡ r → header_there is_open (length (range file at left)) (range file at left) container at ≡ r
read_under is_open container file bytes at left n r b m le e =
    let few : n ≤ left = omega arith in
    let front : range file at n ≡ take n (range file at left) = sym (take_range file at n left few) in
    ap (λ (k : ℕ). header_there is_open k (range file at left) container at) (length_range file at left le)
    ∙ sym (header_there-take is_open left (range file at left) container at n (omega arith))
    ∙ ap (λ (bs : List ℕ). header_there is_open left bs container at) (sym (b ∙ front)) ∙ e

pub header_is_at : (is_open : Bool) (container bytes : List ℕ) (at : ℕ) (h : Header) → header_there is_open (length bytes) bytes container at ≡ Ok h → header_at is_open bytes ≡ Ok h
header_is_at is_open container bytes at h e = located_ok container at (type_of bytes) (header_at is_open bytes) h e

pub some_there : (file : List ℕ) (at end : ℕ) → at < end → end ≤ length file → 0 < length (range file at (end - at))
some_there file at end less le = let n = length_range file at (end - at) (omega (arith, less, le)) in omega (arith, n, less)

-- a header that isn't read stops the walk over its container
pub refuses_walk : (names : List Name) (honest : Bool) (rule : Rule) (file : List ℕ) (from at end reads reads_after : ℕ) (r : Refusal) → at < end → end ≤ length file
    → (IsTrue honest → (f : Fault) → Halts names f rule at (range file at (end - at)) → Halts names f rule from (range file from (end - from)))
    → RefusesHeaderUnder honest (range file at (end - at)) rule at reads reads_after r → RefusesWalk names honest rule from (range file from (end - from)) reads reads_after r
refuses_walk names honest rule file from at end reads reads_after (refusals.Fault f) less le so e = λ told. so told f (here rule at (range file at (end - at)) (some_there file at end less le) (e told))
refuses_walk names honest rule file from at end reads reads_after refusals.Memory less le so e = absurd e
refuses_walk names honest rule file from at end reads reads_after refusals.StoreFailed less le so e = e
refuses_walk names honest rule file from at end reads reads_after refusals.StoreChanged less le so e = absurd e
refuses_walk names honest rule file from at end reads reads_after refusals.WriteFailed less le so e = absurd e
refuses_walk names honest rule file from at end reads reads_after refusals.NoSuchTrack less le so e = absurd e

-- a walk over a container in it that is stopped
pub refuses_inside : (names : List Name) (honest : Bool) (rule inner : Rule) (file : List ℕ) (from at end inside behind reads reads_after : ℕ) (r : Refusal)
    → (IsTrue honest → (f : Fault) → Halts names f inner inside (range file inside (behind - inside)) → Halts names f rule at (range file at (end - at)))
    → (IsTrue honest → (f : Fault) → Halts names f rule at (range file at (end - at)) → Halts names f rule from (range file from (end - from)))
    → RefusesWalk names honest inner inside (range file inside (behind - inside)) reads reads_after r → RefusesWalk names honest rule from (range file from (end - from)) reads reads_after r
refuses_inside names honest rule inner file from at end inside behind reads reads_after (refusals.Fault f) up so e = λ told. so told f (up told f (e told))
refuses_inside names honest rule inner file from at end inside behind reads reads_after refusals.Memory up so e = absurd e
refuses_inside names honest rule inner file from at end inside behind reads reads_after refusals.StoreFailed up so e = e
refuses_inside names honest rule inner file from at end inside behind reads reads_after refusals.StoreChanged up so e = absurd e
refuses_inside names honest rule inner file from at end inside behind reads reads_after refusals.WriteFailed up so e = absurd e
refuses_inside names honest rule inner file from at end inside behind reads reads_after refusals.NoSuchTrack up so e = absurd e

-- ---- the same where room is taken on the way

pub walk_finds : (names : List Name) (honest : Bool) (rule : Rule) (at : ℕ) (bytes : List ℕ) (reads reads_after : ℕ) (r : Refusal) → RefusesWalk names honest rule at bytes reads reads_after r → RefusesFind names honest rule at bytes reads reads_after r
walk_finds names honest rule at bytes reads reads_after (refusals.Fault f) e = e
walk_finds names honest rule at bytes reads reads_after refusals.Memory e = tt
walk_finds names honest rule at bytes reads reads_after refusals.StoreFailed e = e
walk_finds names honest rule at bytes reads reads_after refusals.StoreChanged e = e
walk_finds names honest rule at bytes reads reads_after refusals.WriteFailed e = e
walk_finds names honest rule at bytes reads reads_after refusals.NoSuchTrack e = e

pub find_inside : (names : List Name) (honest : Bool) (rule inner : Rule) (file : List ℕ) (from at end inside behind reads reads_after : ℕ) (r : Refusal)
    → (IsTrue honest → (f : Fault) → Halts names f inner inside (range file inside (behind - inside)) → Halts names f rule at (range file at (end - at)))
    → (IsTrue honest → (f : Fault) → Halts names f rule at (range file at (end - at)) → Halts names f rule from (range file from (end - from)))
    → RefusesFind names honest inner inside (range file inside (behind - inside)) reads reads_after r → RefusesFind names honest rule from (range file from (end - from)) reads reads_after r
find_inside names honest rule inner file from at end inside behind reads reads_after (refusals.Fault f) up so e = λ told. so told f (up told f (e told))
find_inside names honest rule inner file from at end inside behind reads reads_after refusals.Memory up so e = tt
find_inside names honest rule inner file from at end inside behind reads reads_after refusals.StoreFailed up so e = e
find_inside names honest rule inner file from at end inside behind reads reads_after refusals.StoreChanged up so e = absurd e
find_inside names honest rule inner file from at end inside behind reads reads_after refusals.WriteFailed up so e = absurd e
find_inside names honest rule inner file from at end inside behind reads reads_after refusals.NoSuchTrack up so e = absurd e
