use Rattle.std.proofs.Common.{rules, ◌<◌, ◌∙◌, length, arith, ap, sym}
use Rattle.mp4_boxes.proofs.Walking.{moved}
use Rattle.mp4_boxes.proofs.sequence.ChildrenIterator.next.Goals as goal

pub overflow_sub-self : goal.overflow_sub-self
overflow_sub-self c =
    let some : 0 < c.self.inside.left = search rules in
    (moved c.self.inside.left c.self.inside.base c.self.inside.bytes.now _ c.split_first.result.1.now c.self.invariant.0 some c.split_first.ensures.first).shorter

pub invariant_of-self : goal.invariant_of-self
invariant_of-self c =
    let some : 0 < c.self.inside.left = search rules in
    let m = moved c.self.inside.left c.self.inside.base c.self.inside.bytes.now _ c.split_first.result.1.now c.self.invariant.0 some c.split_first.ensures.first in
    let s = m.shorter in
    let q = c.self.invariant.1 in
    (m.has, omega arith)

pub returns-clause-steps : goal.returns-clause-steps
returns-clause-steps c =
    let some : 0 < c.self.inside.left = search rules in
    let m = moved c.self.inside.left c.self.inside.base c.self.inside.bytes.now _ c.split_first.result.1.now c.self.invariant.0 some c.split_first.ensures.first in
    sym c.self.view_is ∙ m.boxes

pub returns-clause-goes : goal.returns-clause-goes
returns-clause-goes c =
    let some : 0 < c.self.inside.left = search rules in
    let m = moved c.self.inside.left c.self.inside.base c.self.inside.bytes.now _ c.split_first.result.1.now c.self.invariant.0 some c.split_first.ensures.first in
    let e = ap length (sym c.self.view_is ∙ m.boxes) in
    search rules
