-- What is tested of the boxes in a `traf`, in order, by what is known of its track.
use Rattle.std.specs.Prelude.{ℕ, ℤ, ◌-◌, nat_le, List, [], ◌∷◌, ◌++◌, length, map}
use Rattle.mp4_boxes.specs.format.Box.{Box}
use Rattle.mp4_boxes.specs.format.Layout.{Leaf, trun, sbgp, row_count, knows_version, knows_flags, needed}
use Rattle.mp4_boxes.specs.format.FirstFault.{Test, naming, leaf_tests_with}
use Rattle.mp4_boxes.specs.declared.fault.Fault.{Fault}
use Rattle.mp4_boxes.specs.declared.fault.Kind.{Kind}
use Rattle.mp4_boxes.specs.declared.fault.Kind.TheVariants.{ShortBox, BadVersion, BadFlags, TooManySamples, SampleOutsideFile, DuplicateBox, BadValue}
use Rattle.mp4_tables.specs.format.Groups.{GroupKey, Grouping, one_of_key, few_keys, grouping_of, group_kind, keeps}
use Rattle.mp4_tables.specs.format.FirstFault.{group_rules}
use Rattle.mp4_frag.specs.format.Fragments.{sample_run_of}
use Rattle.mp4_frag.specs.words.Passing.{within_from}
use Rattle.mp4_frag.specs.words.RunsJudged.{run_begins, run_ends}
use Rattle.mp4_frag.specs.declared.sample_runs.Judged.{Judged}

-- the shape of a leaf: its version, its flags, and room for its fields and rows
abbrev pub shape_tests : Leaf → List ℕ → List (Test Kind)
shape_tests leaf payload = (nat_le 4 (length payload), ShortBox)
    ∷ (knows_version leaf payload, BadVersion) ∷ (knows_flags leaf payload, BadFlags)
    ∷ (nat_le (needed leaf payload) (length payload), ShortBox) ∷ []

-- a `trun` behind data that ends at a place, where there is room for so many samples
abbrev pub one_run_tests : Judged → ℤ → ℕ → List ℕ → List (Test Kind)
one_run_tests judged before room payload = leaf_tests_with trun
    ((nat_le (row_count trun payload) room, TooManySamples)
    ∷ (
      within_from judged.file_len judged.inherited.size (run_begins judged.base before payload)
          (sample_run_of payload).rows,
      SampleOutsideFile,
    ) ∷ []) payload

-- all runs of a `traf`, each behind the data and the samples of those before
abbrev pub runs_tests : Judged → ℤ → ℕ → List Box → List (Test Fault)
runs_tests judged before room [] = []
runs_tests judged before room (b ∷ runs) = naming b (one_run_tests judged before room b.payload)
    ++ runs_tests judged (run_ends judged.inherited judged.base before b.payload)
    (room - row_count trun b.payload) runs

-- the key of an `sbgp`, behind these of its `traf`, where the track named these keys before
abbrev pub name_tests : List GroupKey → List Grouping → Grouping → List (Test Kind)
name_tests first before g = (keeps one_of_key 0 first before g, DuplicateBox)
    ∷ (keeps few_keys 0 first before g, BadValue) ∷ []

-- an `sbgp` of n samples there
abbrev pub one_group_tests : ℕ → List GroupKey → List Grouping → List ℕ → List (Test Kind)
one_group_tests n first before payload = leaf_tests_with sbgp
    (map (λ rule. (keeps rule n first before (grouping_of payload), group_kind rule)) group_rules)
    payload

-- all of them, each behind those before
abbrev pub traf_groups_tests : ℕ → List GroupKey → List Grouping → List Box → List (Test Fault)
traf_groups_tests n first before [] = []
traf_groups_tests n first before (b ∷ groups) = naming b (one_group_tests n first before b.payload)
    ++ traf_groups_tests n first (before ++ grouping_of b.payload ∷ []) groups
