-- How far from the file the data of a `traf` can begin.
use Rattle.std.proofs.Common.{◌≡◌, ℕ, suc, ◌+◌, ◌-◌, ◌^◌, ◌<◌, ◌≤◌, Bool, true, false, cond, nat_le, List, [], ◌∷◌, Option, Some, None, refl, sym, subst, rules, arith}
use Rattle.std.specs.Prelude.{ℤ, pos, negsuc, ◌+ℤ◌, unwrap_or, IfSome, FitsSigned, option_map, drop}
use Rattle.std.specs.Int.{w32}
use Rattle.std.proofs.Math.IntN.{sub_ℕ}
use Rattle.mp4_tables.specs.format.TableRules.{lies_within}
use Rattle.byteorder.specs.Endian.{twos_complement}
use Rattle.mp4_boxes.specs.format.Bytes.{AreBytes}
use Rattle.mp4_boxes.specs.format.Layout.{flags, column_values, trun_columns}
use Rattle.mp4_boxes.proofs.OfBytes.{signed_32, bytes_dropped}
use Rattle.mp4_boxes.proofs.Plain.{and_is_true}
use Rattle.mp4_frag.specs.format.Fragments.{RunRow, TrackFragment, column, sample_run_of}
use Rattle.mp4_frag.specs.declared.heads.Inherited.{Inherited}
use Rattle.mp4_frag.proofs.Ranges.{value_below}
use Rattle.mp4_frag.specs.format.FragmentSamples.{base_of, run_start}
use Rattle.mp4_frag.specs.words.Passing.{IsNearer, IsUpTo, within_from, end_from, IsRunPassed}

pub up_to_more : (n m : ℕ) (z : ℤ) → n ≤ m → IsUpTo n z → IsUpTo m z
up_to_more n m (pos k) h b = omega arith
up_to_more n m (negsuc k) h b = omega arith

pub up_to_near : (n : ℕ) (z : ℤ) → n ≤ 2 ^ 99 → IsUpTo n z → IsNearer z
up_to_near n (pos k) h b = let le : k ≤ 2 ^ 99 = omega arith in (search rules, search rules)
up_to_near n (negsuc k) h b = let le : suc k ≤ 2 ^ 99 = omega arith in (search rules, search rules)

less_up_to : (n a b : ℕ) → a ≤ n → b ≤ n → IsUpTo n (sub_ℕ a b)
less_up_to n a b h k = choice (nat_le (suc a) b) refl
  where
    choice : (v : Bool) → nat_le (suc a) b ≡ v → IsUpTo n (cond v (negsuc (b - suc a)) (pos (a - b)))
    choice true e = let le : suc a ≤ b = search rules in omega arith
    choice false e = omega arith

pub up_to_offset : (n : ℕ) (z o : ℤ) → FitsSigned w32 o → IsUpTo n z → IsUpTo (n + 2 ^ 31) (z +ℤ o)
up_to_offset n (pos k) (pos m) f b = let c : m < 2 ^ 31 = search rules in omega arith
up_to_offset n (pos k) (negsuc m) f b = let c : m < 2 ^ 31 = search rules in less_up_to (n + 2 ^ 31) k (suc m) (omega arith) (omega arith)
up_to_offset n (negsuc k) (pos m) f b = let c : m < 2 ^ 31 = search rules in less_up_to (n + 2 ^ 31) m (suc k) (omega arith) (omega arith)
up_to_offset n (negsuc k) (negsuc m) f b = let c : m < 2 ^ 31 = search rules in omega arith

-- a sample in the file ends in it
up_to_end : (n L size : ℕ) (at : ℤ) → L ≤ n → lies_within L at size ≡ true → IsUpTo n (at +ℤ pos size)
up_to_end n L size (pos k) h lies = let le : k + size ≤ L = search rules in omega arith
up_to_end n L size (negsuc k) h lies = absurd cc

pub rows_up_to : (n L size : ℕ) (at : ℤ) (rows : List RunRow) → L ≤ n → within_from L size at rows ≡ true → IsUpTo n at → IsUpTo n (end_from size at rows)
rows_up_to n L size at [] h within b = b
rows_up_to n L size at (row ∷ rows) h within b =
    let one = unwrap_or row.size size in
    let parts = and_is_true (lies_within L at one) (within_from L size (at +ℤ pos one) rows) within in
    rows_up_to n L size (at +ℤ pos one) rows h parts.1 (up_to_end n L one at h parts.0)

pub start_up_to : (n : ℕ) (base before : ℤ) (offset : Option ℤ) → IfSome offset (FitsSigned w32) → IsUpTo n base → IsUpTo (n + 2 ^ 31) before → IsUpTo (n + 2 ^ 31) (run_start base before offset)
start_up_to n base before None f b c = c
start_up_to n base before (Some offset) f b c = up_to_offset n base offset f b

-- ---- one run

offset_fits : (o : Option ℕ) → IfSome o (λ n. n < 2 ^ 32) → IfSome (option_map (twos_complement 4) o) (FitsSigned w32)
offset_fits None h = tt
offset_fits (Some n) h = signed_32 n h

-- the offset of a `trun` of bytes is one of 32 bits
pub offset_of_bytes : (payload : List ℕ) → AreBytes payload → IfSome (sample_run_of payload).data_offset (FitsSigned w32)
offset_of_bytes payload bytes = offset_fits (column (column_values (flags payload) trun_columns (drop 8 payload)) 0) (value_below trun_columns (flags payload) (drop 8 payload) 0 (bytes_dropped 8 payload bytes))

-- where the data of a run that passes ends
pub run_up_to : (n L : ℕ) (inherited : Inherited) (base before : ℤ) (payload : List ℕ) (ends : ℤ) (samples lasts fills : ℕ) → AreBytes payload → L < 2 ^ 64 → IsRunPassed L inherited base before payload ends samples lasts fills → 2 ^ 64 ≤ n → IsUpTo n base → IsUpTo (n + 2 ^ 31) before
    → IsUpTo (n + 2 ^ 31) ends
run_up_to n L inherited base before payload ends samples lasts fills bytes short p big b c =
    let run = sample_run_of payload in
    let start = start_up_to n base before run.data_offset (offset_of_bytes payload bytes) b c in
    subst (IsUpTo (n + 2 ^ 31)) (sym p.end) (rows_up_to (n + 2 ^ 31) L inherited.size (run_start base before run.data_offset) run.rows (omega arith) p.within start)

-- where the runs of a `traf` are counted from
pub base_up_to : (n moof : ℕ) (before : ℤ) (traf : TrackFragment) → moof ≤ n → IfSome traf.base_data_offset (λ at. at ≤ n) → IsUpTo n before → IsUpTo n (base_of moof before traf)
base_up_to n moof before traf h f b = choice traf.base_data_offset traf.base_is_moof f
  where
    based : Option ℕ → Bool → ℤ
    based (Some at) is_moof = pos at
    based None true = pos moof
    based None false = before

    choice : (o : Option ℕ) (v : Bool) → IfSome o (λ at. at ≤ n) → IsUpTo n (based o v)
    choice (Some at) v g = g
    choice None true g = h
    choice None false g = b
