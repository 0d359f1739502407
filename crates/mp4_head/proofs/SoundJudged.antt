-- A sound leaf passes all of its tests.
use Rattle.std.proofs.Common.{◌≡◌, ◌≤◌, length, Some, None, true, false, refl}
use Rattle.std.proofs.lemmas.Bool.{le-leb}
use Rattle.mp4_boxes.specs.format.Box.{Box}
use Rattle.mp4_boxes.specs.format.Layout.{Leaf, needed, has_bad_value, is_outside_data, IsReadable, IsSound}
use Rattle.mp4_boxes.specs.format.BoxFaults.{fault_of}
use Rattle.mp4_boxes.specs.declared.fault.Kind.TheVariants.{OutsideData}
use Rattle.mp4_boxes.specs.format.FirstFault.{leaf_fault}

pub sound_judged : (leaf : Leaf) (b : Box) → 4 ≤ length b.payload → IsSound leaf b.payload → leaf_fault leaf b ≡ None
sound_judged leaf b le s =
    rw (le-leb 4 (length b.payload) le, s.readable.version, s.readable.flags, le-leb (needed leaf b.payload) (length b.payload) s.readable.room, s.value, s.inside, s.offsets) refl

-- A leaf that can be read, and says that its data lies elsewhere, is named for that.
pub outside_judged : (leaf : Leaf) (b : Box) → 4 ≤ length b.payload → IsReadable leaf b.payload → has_bad_value leaf b.payload ≡ false → is_outside_data leaf b.payload ≡ true → leaf_fault leaf b ≡ Some (fault_of OutsideData b)
outside_judged leaf b le r value outside =
    rw (le-leb 4 (length b.payload) le, r.version, r.flags, le-leb (needed leaf b.payload) (length b.payload) r.room, value, outside) refl
