-- What the check of a `moof` and a walk over it pass, by what its boxes say: `traf`s, runs, rows of
-- `sbgp`, samples.
use Rattle.std.specs.Prelude.{ℕ, suc, ◌+◌, List, length}
use Rattle.mp4_boxes.specs.format.Bytes.{sum_of}
use Rattle.mp4_boxes.specs.format.Box.{Box}
use Rattle.mp4_tables.specs.format.Groups.{Grouping}
use Rattle.mp4_frag.specs.format.Fragments.{SampleRun, TrackFragment, Fragment, fragment_of}
use Rattle.mp4_frag.specs.words.Judged.{tree_of}

-- the rows of these `sbgp`s
abbrev pub group_rows : List Grouping → ℕ
group_rows groups = sum_of (λ (g : Grouping). length g.rows) groups

-- a `traf`, its runs, and the rows of its `sbgp`s
abbrev pub traf_rows : TrackFragment → ℕ
traf_rows traf = suc (length traf.runs + group_rows traf.groups)

-- the same of all `traf`s of a `moof`
abbrev pub fragment_rows : Fragment → ℕ
fragment_rows f = sum_of traf_rows f.trafs

-- the samples of the runs of a `traf`
abbrev pub traf_length : TrackFragment → ℕ
traf_length traf = sum_of (λ (run : SampleRun). length run.rows) traf.runs

-- those of all `traf`s of a `moof`
abbrev pub fragment_length : Fragment → ℕ
fragment_length f = sum_of traf_length f.trafs

-- what the boxes of a `moof` say
abbrev pub moof_says : Box → Fragment
moof_says moof = fragment_of (tree_of moof)
