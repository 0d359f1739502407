use Rattle.std.proofs.Common.{◌≡◌, ◌∙◌, ℕ, List, [], ◌∷◌, subst}
use Rattle.mp4_answers.specs.format.Texts.{fault_line}
use Rattle.mp4norm.proofs.JobRuns.{put_behind, put_whole}
use Rattle.mp4norm.proofs.running.put_refusal.Goals as goal

pub returns-clause-line : goal.returns-clause-line
returns-clause-line g c =
    let text : c.as_bytes.result.now ≡ fault_line c.args.refusal.now = c.as_bytes.ensures ∙ c.fault_line.ensures in
    put_behind g.met.E.Sink.takes_on c.args.errors.now c.put.new.self c.put-2.new.self (fault_line c.args.refusal.now) (10 ∷ []) c.put-2.result
    (subst (λ (xs : List ℕ). g.E.Sink.takes c.args.errors.now c.put.new.self xs) text c.in_ok-put.ensures.appends)
    c.put-2.ensures.appends c.put-2.ensures.prefix

pub returns-clause-whole : goal.returns-clause-whole
returns-clause-whole g c =
    let text : c.as_bytes.result.now ≡ fault_line c.args.refusal.now = c.as_bytes.ensures ∙ c.fault_line.ensures in
    put_whole g.met.E.Sink.takes_on c.args.errors.now c.put.new.self c.put-2.new.self (fault_line c.args.refusal.now) (10 ∷ []) c.put-2.result
    (subst (λ (xs : List ℕ). g.E.Sink.takes c.args.errors.now c.put.new.self xs) text c.in_ok-put.ensures.appends)
    c.put-2.ensures.appends
