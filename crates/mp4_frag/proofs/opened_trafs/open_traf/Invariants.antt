use Rattle.std.proofs.Common.{◌≡◌, false, ◌+◌, ◌-◌, ◌≤◌, length}
use Rattle.mp4_tables.specs.words.Indexes.{AreIndexPlaces}
use Rattle.mp4_tables.specs.words.Keys.{keys_seen}
use Rattle.mp4_frag.specs.words.PlacesIn.{groups_work}
use Rattle.mp4_frag.specs.words.Walks.{are_named, boxes_from, reached, with_leaves}
use Rattle.mp4_frag.proofs.opened_trafs.open_traf.Given as goal

-- what the boxes passed say and those left make the whole
abbrev pub invariant-loop-at : goal.invariant-loop-at
invariant-loop-at l = record {
  within : l.at ≤ length l.payload;
  indexes : AreIndexPlaces l.payload l.place.index_rows l.place.indexes;
  work : l.place.passed + groups_work (boxes_from l.payload l.at) ≤ l.fn.place.passed + groups_work (boxes_from l.payload 0);
  same : (l.place.next ≡ l.fn.place.next) × (l.place.run ≡ l.fn.place.run) × (l.place.dts ≡ l.fn.place.dts);
  on : l.fn.place.passed ≤ l.place.passed;
  named : are_named l.id l.is_named (boxes_from l.payload l.at) ≡ are_named l.id false (boxes_from l.payload 0);
  whole : with_leaves l.trex (keys_seen l.keys) (reached l.payload l.place) (boxes_from l.payload l.at)
      ≡ with_leaves l.trex (keys_seen l.keys) (reached l.payload l.fn.place) (boxes_from l.payload 0);
}

abbrev pub decreases-loop-at : goal.decreases-loop-at
decreases-loop-at l = length l.payload - l.at
