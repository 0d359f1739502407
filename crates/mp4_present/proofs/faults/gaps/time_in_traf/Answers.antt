use Rattle.std.proofs.Common.{rules}
use Rattle.mp4_boxes.specs.words.View.{box_seen}
use Rattle.mp4_present.proofs.faults.gaps.time_in_traf.Goals as goal

pub returns : goal.returns
returns c = λ moof m. record {
  is_child = m;
  time = box_seen c.in_ok-tfdt.tfdt;
  has_time = c.in_ok-tfdt.ensures.child;
  is_time = c.in_ok-tfdt.ensures.kind;
  there = search rules;
  found_is = search rules;
  head = box_seen c.in_ok-tfhd.tfhd;
  has_head = c.in_ok-tfhd.ensures.child;
  is_head = c.in_ok-tfhd.ensures.kind;
  track_is = search rules;
}
