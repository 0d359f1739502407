use Rattle.std.proofs.Common.{rules, ◌∙◌, inr, refl}
use Rattle.mp4_answers.specs.format.Ways.{here, behind}
use Rattle.mp4_answers.proofs.WaysTo.{none_at_end, none_read, past_it}
use Rattle.mp4_answers.proofs.commands.box_path.top_at.Goals as goal

pub returns-in_default-clause-none : goal.returns-in_default-clause-none
returns-in_default-clause-none g c none =
    let i = c.loop-at.invariant in
    let why = rw (i.honesty, i.file, i.reads) at c.in_default.ensures.refusal in
    none_read (g.S.Store.is_honest c.args.store.now) (g.S.Store.file c.args.store.now) c.args.place c.loop-at.at (g.S.Store.read_failures c.args.store.now) (g.S.Store.read_failures c.read_top_header.new.store) c.in_default.field-0 why i.on

pub returns-then-place-header-clause-holds : goal.returns-then-place-header-clause-holds
returns-then-place-header-clause-holds g c told =
    let i = c.loop-at.invariant in
    let read = rw (i.honesty, i.file) at c.in-Ok.ensures.header in
    i.back told (record { offset = c.loop-at.at; header = c.in-Ok.header }) (here c.loop-at.at _ refl (read told) i.before c.if-place-header.true)

pub loop-at-preserved : goal.loop-at-preserved
loop-at-preserved g c =
    let i = c.loop-at.invariant in
    let e = c.in-Ok.ensures in
    let file = g.S.Store.file c.args.store.now in
    let h = c.in-Ok.header in
    let read = rw (i.honesty, i.file) at e.header in
    record {
      honesty = e.honesty ∙ i.honesty;
      file = e.file ∙ i.file;
      reads = e.reads ∙ i.reads;
      before = search rules;
      on = λ told top x. past_it file c.args.place c.loop-at.at h top (read told) (search rules) (i.on told top x);
      back = λ told top x. i.back told top (behind c.loop-at.at h top (read told) (search rules) x);
    }

pub returns-clause-none : goal.returns-clause-none
returns-clause-none g c none =
    let i = c.loop-at.invariant in
    inr (λ told top x. none_at_end (g.S.Store.file c.args.store.now) c.args.place c.loop-at.at (search rules) top (i.on told top x))
