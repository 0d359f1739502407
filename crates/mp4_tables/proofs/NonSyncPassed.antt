-- Samples that are no sync samples, passed one by one.
use Rattle.std.proofs.Common.{◌≡◌, ◌≢◌, ℕ, zero, suc, ◌+◌, ◌/◌, ◌%◌, ◌*◌, ◌^◌, ◌<◌, List, [], ◌∷◌, drop, slice_index, Option, Some, None, refl, sym, subst, ◌∙◌, arith}
use Rattle.std.specs.Prelude.{option_map}
use Rattle.byteorder.specs.Endian.{twos_complement}
use Rattle.mp4_tables.specs.format.PlainSamples.{non_sync}
use Rattle.mp4_tables.specs.words.Accepted.{IsAccepted, IsPlace, IsSyncPlaceIn, bytes_at, bytes_for, flags_here, indexes_here, tables_at}
use Rattle.mp4_tables.specs.words.Next.{IsNonSyncOf, PassesNonSync}
use Rattle.mp4_tables.specs.words.Rows.{numbers_at, sizes_at}
use Rattle.mp4_tables.specs.words.Timed.{samples_of}
use Rattle.mp4_tables.specs.declared.places.RowsAt.{RowsAt}
use Rattle.mp4_tables.specs.declared.places.SyncPlace.{SyncPlace}
use Rattle.mp4_tables.specs.declared.places.TablesAt.{TablesAt}
use Rattle.mp4_tables.specs.declared.places.TablePlace.{TablePlace}
use Rattle.mp4_tables.specs.declared.sample.SampleAt.{SampleAt}
use Rattle.mp4_tables.proofs.PlaceLists.{not_sync_in, sample_is}
use Rattle.mp4_tables.proofs.SyncLists.{sync_kept}

-- one more
pub passes_one : (description n : ℕ) (all left later : List SampleAt) (s : SampleAt) → PassesNonSync description n all left → left ≡ s ∷ later → IsNonSyncOf description s → PassesNonSync description (n + 1) all later
passes_one description zero all left later s h e is = first all (sym h ∙ e)
  where
    first : (xs : List SampleAt) → xs ≡ s ∷ later → PassesNonSync description 1 xs later
    first [] e = cc
    first (x ∷ xs) e =
        let same : x ≡ s = cc in
        let more : later ≡ xs = cc in
        (subst (λ (y : SampleAt). IsNonSyncOf description y) (sym same) is, more)
passes_one description (suc n) [] left later s h e is = absurd h
passes_one description (suc n) (x ∷ all) left later s h e is =
    let one : suc (n + 1) ≡ suc n + 1 = omega arith in
    subst (λ m. PassesNonSync description m (x ∷ all) later) one (h.0, passes_one description n all left later s h.1 e is)

-- the next number of `stss` is not that of the sample that is passed
pub sync_kept_in : (payload : List ℕ) (o : Option RowsAt) (p : SyncPlace) (i : ℕ) → IsSyncPlaceIn payload o p i → 0 < i → p.next ≢ i → IsSyncPlaceIn payload o p (i + 1)
sync_kept_in payload None p i at some e = at
sync_kept_in payload (Some rows) p i at some e = sync_kept (numbers_at 4 payload rows) p i at some e

-- the next sample is no sync sample, and has the description of its chunk
pub record NonSyncNext (payload : List ℕ) (at : TablesAt) (p : TablePlace) : Type 0 where
  pub next : SampleAt
  pub first : drop p.number (samples_of (tables_at payload at)) ≡ next ∷ drop (p.number + 1) (samples_of (tables_at payload at))
  pub is : IsNonSyncOf p.chunk.row.description next

bit_of : (byte bit flags : ℕ) → 1 ≡ bit → flags ≡ byte * 2 ^ 20 + bit * 2 ^ 16 → flags / 2 ^ 16 % 2 ≡ 1
bit_of byte bit flags one e = omega (arith, one, e)

pub non_sync_next : (payload : List ℕ) (at : TablesAt) (p : TablePlace) (r : RowsAt) → IsAccepted payload at → IsPlace payload at p → p.number < at.sizes.rows.count → at.sync ≡ Some r → p.sync.next ≢ p.number + 1 → NonSyncNext payload at p
non_sync_next payload at p r ok is h e ne =
    let one = not_sync_in payload at.sync p.sync (p.number + 1) is.sync (omega arith) r e ne in
    record {
      next = _;
      first = sample_is payload at p (twos_complement 4 p.offset.value) (flags_here payload at p) (slice_index (sizes_at payload at.sizes) p.number) (indexes_here payload at.groups p.number) ok is h refl refl refl refl;
      is = (bit_of (slice_index (bytes_for (p.number + 1) (option_map (bytes_at payload) at.dependencies)) p.number) (non_sync (option_map (numbers_at 4 payload) at.sync) (p.number + 1)) _ one refl, refl);
    }

-- the others are left
pub others_left : (description n : ℕ) (samples left : List SampleAt) → PassesNonSync description n samples left → left ≡ drop n samples
others_left description zero samples left h = h
others_left description (suc n) [] left h = absurd h
others_left description (suc n) (s ∷ samples) left h = others_left description n samples left h.1
