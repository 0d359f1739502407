-- The runs of a `traf` judged one after the other, in file order.
use Rattle.std.specs.Prelude.{◌≡◌, ℕ, ◌+◌, true, List, [], ◌∷◌, Option, Some, None, ℤ, codes, ⊤}
use Rattle.mp4_boxes.specs.format.Bytes.{sum_of}
use Rattle.mp4_boxes.specs.format.Box.{Box, Tiles, box_container}
use Rattle.mp4_boxes.specs.format.Children.{of_kind}
use Rattle.mp4_boxes.specs.format.Layout.{trun, row_count, IsSound}
use Rattle.mp4_frag.specs.format.Fragments.{sample_run_of}
use Rattle.mp4_frag.specs.format.FragmentSamples.{run_start}
use Rattle.mp4_frag.specs.words.Passing.{within_from, end_from, lasting, filling}
use Rattle.mp4_frag.specs.words.Walks.{boxes_in}
use Rattle.mp4_frag.specs.declared.heads.Inherited.{Inherited}
use Rattle.mp4_frag.specs.declared.sample_runs.Judged.{Judged}
use Rattle.mp4_frag.specs.declared.sample_runs.PassedSamples.{PassedSamples}

-- the boxes in a box
abbrev pub children_of : Box → List Box
children_of b = boxes_in (b.offset + b.header) b.payload

-- they fill it
abbrev pub HoldsChildren : Box → Type 0
HoldsChildren b = Tiles (box_container b) (children_of b)

-- the one box that there is, or none
abbrev pub only_list : Option Box → List Box
only_list None = []
only_list (Some b) = b ∷ []

-- the runs in a `traf`
abbrev pub runs_in : Box → List Box
runs_in traf = of_kind (codes "trun") (children_of traf)

-- where the data of a `trun` begins, behind data that ends at a place
abbrev pub run_begins : ℤ → ℤ → List ℕ → ℤ
run_begins base before payload = run_start base before (sample_run_of payload).data_offset

-- where it ends
abbrev pub run_ends : Inherited → ℤ → ℤ → List ℕ → ℤ
run_ends inherited base before payload = end_from inherited.size (run_begins base before payload)
    (sample_run_of payload).rows

-- a `trun` is sound, and its samples lie in the file
pub record IsRunSound (file_length : ℕ) (inherited : Inherited) (base before : ℤ) (payload : List ℕ)
    : Type 0 where
  pub sound : IsSound trun payload
  pub within : within_from file_length inherited.size (run_begins base before payload)
      (sample_run_of payload).rows ≡ true

abbrev pub AreRunsSound : ℕ → Inherited → ℤ → ℤ → List Box → Type 0
AreRunsSound file_length inherited base before [] = ⊤
AreRunsSound file_length inherited base before (b ∷ runs) =
    IsRunSound file_length inherited base before b.payload
    × AreRunsSound file_length inherited base (run_ends inherited base before b.payload) runs

-- where the data of them all ends
abbrev pub all_end : Inherited → ℤ → ℤ → List Box → ℤ
all_end inherited base before [] = before
all_end inherited base before (b ∷ runs) =
    all_end inherited base (run_ends inherited base before b.payload) runs

-- how many samples they have, how long these last, and how many bytes they take
abbrev pub runs_total : List Box → ℕ
runs_total runs = sum_of (λ (b : Box). row_count trun b.payload) runs

abbrev pub runs_lasting : Inherited → List Box → ℕ
runs_lasting inherited runs =
    sum_of (λ (b : Box). lasting inherited.duration (sample_run_of b.payload).rows) runs

abbrev pub runs_filling : Inherited → List Box → ℕ
runs_filling inherited runs =
    sum_of (λ (b : Box). filling inherited.size (sample_run_of b.payload).rows)
    runs

-- the runs are sound, and these are their samples: where their data ends, how many there are, how
-- long they last, and how many bytes they take
pub record AreRunsPassed (judged : Judged) (runs : List Box) (p : PassedSamples) : Type 0 where
  pub sound : AreRunsSound judged.file_len judged.inherited judged.base judged.base runs
  pub end : p.at ≡ all_end judged.inherited judged.base judged.base runs
  pub count : p.count ≡ runs_total runs
  pub lasting : p.duration ≡ runs_lasting judged.inherited runs
  pub filling : p.bytes ≡ runs_filling judged.inherited runs
