use Rattle.std.proofs.Common.{rules, ◌<◌, length, take, sym}
use Rattle.mp4_answers.specs.words.NameSets.{bytes_of}
use Rattle.mp4_answers.proofs.NamesFound.{more_names, one_taken}
use Rattle.mp4_answers.proofs.text.new_names.names_in.Goals as goal

pub loop-name-preserved : goal.loop-name-preserved
loop-name-preserved c =
    let here : c.loop-name.name-index < length c.args.names.now = search rules in
    let more = more_names (bytes_of (take c.loop-name.name-index c.args.names.now)) c.loop-name.set c.insert.new.self c.as_slice.result c.loop-name.invariant c.in_ok-insert.ensures.updates in
    rw (one_taken c.args.names.now c.loop-name.name-index _ c.name-item.result here c.name-item.is, sym c.as_slice.ensures.value) more
