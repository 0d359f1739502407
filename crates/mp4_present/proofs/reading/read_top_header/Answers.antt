use Rattle.std.proofs.Common.{rules, ◌-◌, Ok, Err}
use Rattle.std.proofs.lemmas.Result.{err_from_is_err_and}
use Rattle.mp4_boxes.specs.words.View.{top_header_seen}
use Rattle.mp4_present.proofs.TopLevel.{read_in_file}
use Rattle.mp4_present.proofs.reading.read_top_header.Goals as goal

pub returns-in_err-header-clause-refusal : goal.returns-in_err-header-clause-refusal
returns-in_err-header-clause-refusal g c =
    let p = err_from_is_err_and c.from_residual-in_err-header.result c.from_residual-in_err-header.ensures.1 in
    rw (p.1, p.2) (λ honest. read_in_file (g.S.Store.file c.args.store.now) c.read_at.new.out c.args.at (c.len.result - c.args.at) c.min-len.result (Err c.in_err-header.field-0.0) (search rules) (search rules) (search rules) c.in_err-header.ensures.fault)

pub returns-clause-header : goal.returns-clause-header
returns-clause-header g c honest =
    read_in_file (g.S.Store.file c.args.store.now) c.read_at.new.out c.args.at (c.len.result - c.args.at) c.min-len.result (Ok (top_header_seen c.args.at c.in_ok-header.header)) (search rules) (search rules) (search rules) c.in_ok-header.ensures.header
