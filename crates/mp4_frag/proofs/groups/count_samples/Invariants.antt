use Rattle.std.proofs.Common.{◌≡◌, ◌+◌, ◌*◌, ◌^◌, ◌≤◌, drop, nat_le}
use Rattle.std.specs.List.{list_all}
use Rattle.mp4_tables.specs.format.Groups.{max_index}
use Rattle.mp4_tables.specs.format.Repeated.{total}
use Rattle.mp4_tables.specs.words.GroupBoxes.{group_runs}
use Rattle.mp4_frag.proofs.groups.count_samples.Given as goal

-- those passed are indexes; what was counted and what is left make the whole
abbrev pub invariant-loop-k : goal.invariant-loop-k
invariant-loop-k g l = record {
  indexes : list_all (λ run. nat_le run.1 max_index) (group_runs l.payload l.group) ≡ list_all (λ run. nat_le run.1 max_index) (drop l.k (group_runs l.payload l.group));
  whole : l.total + total (drop l.k (group_runs l.payload l.group)) ≡ total (group_runs l.payload l.group);
  few : l.total ≤ 2 ^ 32 * l.k;
  cost : l.steps ≡ l.fn.steps + l.k;
}
