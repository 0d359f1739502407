use Rattle.mp4_frag.specs.words.Walks.{reached, part_of}
use Rattle.mp4_frag.proofs.LeavesRead.{head_taken, head_names, names_none}
use Rattle.mp4_frag.proofs.opened_trafs.open_head.Goals as goal

pub returns-in_default-clause-named : goal.returns-in_default-clause-named
returns-in_default-clause-named c = names_none c.args.id (part_of c.args.payload.now c.args.lying.inside c.args.lying.end) _ c.in_default.ensures.fault

pub returns-clause-named : goal.returns-clause-named
returns-clause-named c = head_names c.args.id (part_of c.args.payload.now c.args.lying.inside c.args.lying.end) c.in-Ok.head c.in-Ok.ensures.head

pub returns-clause-reached : goal.returns-clause-reached
returns-clause-reached c =
    let part = part_of c.args.payload.now c.args.lying.inside c.args.lying.end in
    rw c.what_is_inherited-place.ensures (head_taken c.args.trex (reached c.args.payload.now c.args.place.now) part c.in-Ok.head c.in-Ok.ensures.head)
