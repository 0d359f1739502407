use Rattle.std.proofs.Common.{rules, ◌≡◌, ◌≤◌, [], List, length, ap}
use Rattle.mp4_tables.specs.declared.keys.GroupKey.{GroupKey}
use Rattle.mp4_content.specs.words.SamePairs.{indexes_differ}
use Rattle.mp4_content.proofs.PairsPassed.{none_said}
use Rattle.mp4_content.proofs.comparing.same_pairs.say_the_same.Goals as goal
use Rattle.mp4_boxes.proofs.Plain.{drop_all}

pub returns-then-len-eq0 : goal.returns-then-len-eq0
returns-then-len-eq0 c same =
    let by = c.args.by.now in
    let x = c.args.left.now in
    let y = c.args.right.now in
    let times = c.have_same_times.ensures (search rules) in
    let few : length by.keys.items ≤ 0 = search rules in
    let empty : by.keys.items ≡ [] = drop_all by.keys.items 0 few in
    record {
      none = λ of. none_said by of x y times.duration times.offset (search rules) (search rules) (ap (λ (keys : List GroupKey). indexes_differ of keys by.left x.groups by.right y.groups) empty) (search rules);
      size = search rules;
    }

pub returns : goal.returns
returns c same =
    let by = c.args.by.now in
    let x = c.args.left.now in
    let y = c.args.right.now in
    let times = c.have_same_times.ensures (search rules) in
    record {
      none = λ of. none_said by of x y times.duration times.offset (search rules) (search rules) (c.have_same_indexes.ensures same of) (search rules);
      size = search rules;
    }
