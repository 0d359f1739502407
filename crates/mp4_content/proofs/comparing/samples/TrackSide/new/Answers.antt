use Rattle.std.proofs.Common.{rules}
use Rattle.mp4_content.proofs.comparing.samples.TrackSide.new.Goals as goal

pub returns : goal.returns
returns c = record {
  walk = c.in_ok-walk.ensures.walk;
  coming = c.in_ok-walk.ensures.coming;
  may = c.in_ok-walk.ensures.may;
  shows = search rules;
}
