use Rattle.std.proofs.Common.{rules, arith}
use Rattle.mp4_present.specs.words.Reading.{top_box}
use Rattle.mp4_present.proofs.TopJudged.{refused_first, repeated_first, movie_fine, other_fine, early_first, fragment_fine}
use Rattle.mp4_present.proofs.Outlines.{seen_movie, seen_other, seen_fragment}
use Rattle.mp4_present.proofs.opening.outline.note.Goals as goal

pub returns-in-None-clause-noted : goal.returns-in-None-clause-noted
returns-in-None-clause-noted c file boxes front taken read seen =
    seen_movie file boxes c.args.at c.args.header c.args.seen (record { front = front; taken = taken; read = read; room = omega arith }) seen (search rules) c.in-None.is (search rules)

pub returns-then-not-is-clause-noted : goal.returns-then-not-is-clause-noted
returns-then-not-is-clause-noted c file boxes front taken read seen =
    seen_other file boxes c.args.at c.args.header c.args.seen (record { front = front; taken = taken; read = read; room = omega arith }) seen (search rules) (search rules) (search rules)

pub returns-clause-noted : goal.returns-clause-noted
returns-clause-noted c file boxes front taken read seen =
    seen_fragment file boxes c.args.at c.args.header c.args.seen c.max.result (record { front = front; taken = taken; read = read; room = omega arith }) seen (search rules) (search rules) (search rules) (search rules) (search rules)

-- ---- the first fault

pub returns-then-not-allows-clause-exact : goal.returns-then-not-allows-clause-exact
returns-then-not-allows-clause-exact c file boxes front taken read seen =
    record { names = rw c.new.ensures (refused_first boxes (top_box file c.args.at c.args.header) (search rules)) }

pub returns-in-Some-clause-exact : goal.returns-in-Some-clause-exact
returns-in-Some-clause-exact c file boxes front taken read seen =
    record { names = rw c.new-in-Some.ensures (repeated_first file boxes (top_box file c.args.at c.args.header) c.args.seen c.in-Some.field-0 seen c.in-Some.is (search rules) (search rules)) }

pub returns-in-None-clause-exact : goal.returns-in-None-clause-exact
returns-in-None-clause-exact c file boxes front taken read seen =
    record { names = movie_fine file boxes (top_box file c.args.at c.args.header) c.args.seen seen c.in-None.is (search rules) (search rules) }

pub returns-then-not-is-clause-exact : goal.returns-then-not-is-clause-exact
returns-then-not-is-clause-exact c file boxes front taken read seen =
    record { names = other_fine boxes (top_box file c.args.at c.args.header) (search rules) (search rules) (search rules) }

pub returns-then-is_none-clause-exact : goal.returns-then-is_none-clause-exact
returns-then-is_none-clause-exact c file boxes front taken read seen =
    record { names = rw c.new-then-is_none.ensures (early_first file boxes (top_box file c.args.at c.args.header) c.args.seen seen (search rules) (search rules) (search rules) (search rules)) }

pub returns-clause-exact : goal.returns-clause-exact
returns-clause-exact c file boxes front taken read seen =
    record { names = fragment_fine file boxes (top_box file c.args.at c.args.header) c.args.seen seen (search rules) (search rules) (search rules) (search rules) }
