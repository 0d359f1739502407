use Rattle.std.proofs.Common.{rules, ◌-◌, Ok, Err}
use Rattle.std.proofs.lemmas.Result.{err_from_is_err_and}
use Rattle.mp4_boxes.specs.words.View.{top_header_seen}
use Rattle.mp4_store.specs.words.Device.{range}
use Rattle.mp4_answers.specs.format.Strips.{holder, is_top}
use Rattle.mp4_answers.proofs.HeadersUnder.{read_under, header_is_at}
use Rattle.mp4_answers.proofs.commands.box_headers.read_header.Goals as goal

pub returns-in_err-header-clause-refusal : goal.returns-in_err-header-clause-refusal
returns-in_err-header-clause-refusal g c =
    let p = err_from_is_err_and c.from_residual-in_err-header.result c.from_residual-in_err-header.ensures.1 in
    let fault = rw (c.is_top.ensures, c.holder.ensures) at c.in_err-header.ensures.fault in
    rw (p.1, p.2) (λ honest. read_under (is_top c.args.rule) (holder c.args.rule) (g.S.Store.file c.args.store.now) c.read_at.new.out c.args.at (c.args.end - c.args.at) c.min-len.result (Err c.in_err-header.field-0.0) (search rules) (search rules) (search rules) fault)

pub returns-clause-header : goal.returns-clause-header
returns-clause-header g c honest =
    let read = rw (c.is_top.ensures, c.holder.ensures) at c.in_ok-header.ensures.header in
    header_is_at (is_top c.args.rule) (holder c.args.rule) (range (g.S.Store.file c.args.store.now) c.args.at (c.args.end - c.args.at)) c.args.at (top_header_seen c.args.at c.in_ok-header.header)
    (read_under (is_top c.args.rule) (holder c.args.rule) (g.S.Store.file c.args.store.now) c.read_at.new.out c.args.at (c.args.end - c.args.at) c.min-len.result (Ok (top_header_seen c.args.at c.in_ok-header.header)) (search rules) (search rules) (search rules) read)
