use Rattle.std.proofs.Common.{[], sym}
use Rattle.std.proofs.lemmas.List.{append-nil}
use Rattle.mp4_answers.specs.format.BoxWalk.{top_seen}
use Rattle.mp4_answers.specs.format.Ways.{ends}
use Rattle.mp4_answers.proofs.commands.box_path.push_top_way.Goals as goal

pub returns-then-top-place-clause-way : goal.returns-then-top-place-clause-way
returns-then-top-place-clause-way g c = λ told.
    ([], ends (top_seen (g.S.Store.file c.args.store.now) c.args.top), sym (append-nil c.args.text.now.items))
