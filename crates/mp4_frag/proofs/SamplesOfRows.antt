-- The samples of a run, by its rows.
use Rattle.std.proofs.Common.{◌≡◌, ℕ, ◌+◌, List, [], ◌∷◌, Option, Some, None, ◌&&◌, refl, sym, ap, ◌∙◌}
use Rattle.std.specs.Prelude.{unwrap_or, ℤ, pos, ◌+ℤ◌}
use Rattle.std.proofs.Math.IntN.{+ℤ_assoc, +ℤ_idr}
use Rattle.mp4_boxes.specs.format.Bytes.{sum_of}
use Rattle.mp4_tables.specs.format.TableRules.{lies_within}
use Rattle.mp4_frag.specs.format.Fragments.{RunRow, TrackFragment}
use Rattle.mp4_frag.specs.format.FragmentSamples.{inherited, run_samples, end_of_data, duration_of, bytes_of}
use Rattle.mp4_frag.specs.format.FragmentRules.{is_within}
use Rattle.mp4_frag.specs.words.Passing.{within_from, end_from, lasting, filling}
use Rattle.mp4_frag.specs.declared.trex.Trex.{Trex}

-- what a row has, else what its `traf` inherits
pub inherited_is : (own head : Option ℕ) (last : ℕ) → inherited own head last ≡ unwrap_or own (unwrap_or head last)
inherited_is (Some own) head last = refl
inherited_is None (Some head) last = refl
inherited_is None None last = refl

-- the samples lie in the file
pub within_is : (length : ℕ) (trex : Trex) (traf : TrackFragment) (first : Option ℕ) (at : ℤ) (rows : List RunRow)
    → is_within length (run_samples trex traf first at rows) ≡ within_from length (unwrap_or traf.size trex.size) at rows
within_is length trex traf first at [] = refl
within_is length trex traf first at (row ∷ rows) =
    rw (inherited_is row.size traf.size trex.size)
    (ap (λ b. lies_within length at (unwrap_or row.size (unwrap_or traf.size trex.size)) && b) (within_is length trex traf None (at +ℤ pos (unwrap_or row.size (unwrap_or traf.size trex.size))) rows))

-- how long they last
pub lasting_is : (trex : Trex) (traf : TrackFragment) (first : Option ℕ) (at : ℤ) (rows : List RunRow)
    → duration_of (run_samples trex traf first at rows) ≡ lasting (unwrap_or traf.duration trex.duration) rows
lasting_is trex traf first at [] = refl
lasting_is trex traf first at (row ∷ rows) =
    rw (inherited_is row.duration traf.duration trex.duration)
    (ap (λ n. unwrap_or row.duration (unwrap_or traf.duration trex.duration) + n) (lasting_is trex traf None _ rows))

-- how many bytes they take
pub filling_is : (trex : Trex) (traf : TrackFragment) (first : Option ℕ) (at : ℤ) (rows : List RunRow)
    → bytes_of (run_samples trex traf first at rows) ≡ filling (unwrap_or traf.size trex.size) rows
filling_is trex traf first at [] = refl
filling_is trex traf first at (row ∷ rows) =
    rw (inherited_is row.size traf.size trex.size)
    (ap (λ n. unwrap_or row.size (unwrap_or traf.size trex.size) + n) (filling_is trex traf None _ rows))

-- where their data ends
pub end_is : (trex : Trex) (traf : TrackFragment) (first : Option ℕ) (at : ℤ) (rows : List RunRow)
    → end_of_data at (run_samples trex traf first at rows) ≡ end_from (unwrap_or traf.size trex.size) at rows
end_is trex traf first at [] = +ℤ_idr at
end_is trex traf first at (row ∷ rows) =
    let size = unwrap_or row.size (unwrap_or traf.size trex.size) in
    rw (inherited_is row.size traf.size trex.size)
    (sym (+ℤ_assoc at (pos size) (pos (sum_of (λ s. s.size) (run_samples trex traf None (at +ℤ pos size) rows))))
    ∙ end_is trex traf None (at +ℤ pos size) rows)
