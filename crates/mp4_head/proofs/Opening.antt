-- Leaves that were opened can be read; those that were not fail. And the numbers of a leaf, by their places.
use Rattle.std.proofs.Common.{◌≡◌, ℕ, zero, suc, ◌+◌, ◌*◌, ◌<◌, ◌≤◌, true, List, [], ◌∷◌, length, take, drop, refl, sym, subst, ◌∙◌, arith}
use Rattle.std.specs.Prelude.{nat_le, slice_index}
use Rattle.std.proofs.lemmas.Bool.{le-leb}
use Rattle.mp4_boxes.specs.format.Bytes.{field, numbers, width_of}
use Rattle.mp4_boxes.specs.format.Layout.{Leaf, version, time_width, needed, knows_version, knows_flags, IsReadable}
use Rattle.mp4_boxes.proofs.OfBytes.{field_dropped}
use Rattle.mp4_head.specs.words.Leaves.{IsOpen}

-- a leaf that was opened can be read, if it needs no more
pub open_readable : (leaf : Leaf) (last fixed times width : ℕ) (payload : List ℕ) → knows_version leaf payload ≡ nat_le (version payload) last → knows_flags leaf payload ≡ true
    → needed leaf payload ≤ fixed + times * time_width (version payload) → IsOpen last fixed times payload width → IsReadable leaf payload
open_readable leaf last fixed times width payload v f n o =
    let room : fixed + times * time_width (version payload) ≤ length payload = subst (λ (w : ℕ). fixed + times * w ≤ length payload) o.width_is o.room in
    record {
      version = v ∙ le-leb (version payload) last o.version_is;
      flags = f;
      room = omega arith;
    }

-- a field at the place where fields of these widths put it
pub number_is : (widths bytes : List ℕ) (i place width : ℕ) → i < length widths → width ≡ slice_index widths i → place ≡ width_of (take i widths) → field bytes place width ≡ slice_index (numbers widths bytes) i
number_is [] bytes i place width lt w p = absurd (omega arith)
number_is (v ∷ widths) bytes zero place width lt w p = rw (w, p) refl
number_is (v ∷ widths) bytes (suc i) place width lt w p =
    rw p (sym (field_dropped v (width_of (take i widths)) width bytes) ∙ number_is widths (drop v bytes) i (width_of (take i widths)) width (omega arith) w refl)
