use Rattle.std.proofs.Common.{rules, ◌≡◌, ℕ, List, ◌++◌, sym, subst, ◌∙◌, arith}
use Rattle.std.proofs.lemmas.Result.{err_from_is_err_and}
use Rattle.std.specs.Prelude.{IsTrue}
use Rattle.mp4_present.specs.words.OpenedMovie.{IsOpenedAs}
use Rattle.mp4_content.specs.words.ComingLess.{reductions_of}
use Rattle.mp4_content.specs.words.Contents.{content_left}
use Rattle.mp4_content.specs.words.Scales.{AreScales}
use Rattle.mp4_present.specs.format.Denotes.{presentation_of}
use Rattle.mp4_content.specs.format.Remaining.{RemainsInLimits, RemainsInRange}
use Rattle.mp4_content.specs.declared.without.Without.{Without}
use Rattle.mp4_present.proofs.OwnSums.{trafs_few}
use Rattle.mp4_plan.specs.format.Pieces.{pieces}
use Rattle.mp4_plan.specs.words.PutPieces.{IsHeadLeft}
use Rattle.mp4_plan.specs.words.Writers.{longest_piece}
use Rattle.mp4_plan.proofs.Planning.{rooms_fit}
use Rattle.mp4_plan.proofs.WriterMade.{memory_names_none, names_none, writer_made}
use Rattle.mp4_plan.proofs.writer.Writer.reduced.Goals as goal

pub returns-clause-ready : goal.returns-clause-ready
returns-clause-ready g c told tree o =
    let file = g.S.Store.file c.args.store.now in
    let made = c.in_ok-content.ensures in
    let left = made.left told tree o in
    let l = c.in_ok-content.content.leaving in
    let m = c.args.movie.now in
    let content = c.in_ok-content.content in
    let back = sym made.store.file in
    let longest = subst (λ (f : List ℕ). c.in_ok-longest.longest ≡ longest_piece (pieces (content_left content f tree))) made.store.file (c.in_ok-longest.ensures.longest (subst IsTrue (sym made.store.honesty) told) tree (subst (λ (f : List ℕ). IsOpenedAs f m tree) back o)
    (subst (λ (f : List ℕ). AreScales l f tree content.scales) back left.scales) (subst (λ (f : List ℕ). content.of_tracks.items ≡ reductions_of l f tree) back left.reductions) (subst (λ (f : List ℕ). RemainsInRange l (presentation_of f tree)) back left.in_limits.in_range)) in (
      record {
        ready = record {
          head = (λ i. c.in_ok-new.ensures.empty i ++ c.in_ok-head_of.field-0.items) ∙ c.in_ok-head_of.ensures.head file tree o left;
          rows = sym c.in_ok-vec.field-0.ok.0 ∙ c.in_ok-vec.ensures.len ∙ longest;
          range = left.in_limits.in_range;
          scales = left.scales;
          reductions = left.reductions;
          walks = c.in_ok-walks_of.ensures.start.begin file tree o l;
          marked = c.in_ok-walks_of.ensures.start.marked file tree o l;
        };
        rooms = rooms_fit file c.args.movie.now tree o;
        trafs = trafs_few file tree o.is_tree;
      },
      subst (λ (l : Without). RemainsInLimits l (presentation_of file tree)) made.leaving left.in_limits,
    )

pub returns-clause-may : goal.returns-clause-may
returns-clause-may g c told tree o = c.in_ok-walks_of.ensures.start.writes (g.S.Store.file c.args.store.now) tree o

-- ---- where the plan is refused

pub returns-in_err-longest-clause-unchanged : goal.returns-in_err-longest-clause-unchanged
returns-in_err-longest-clause-unchanged g c told tree o =
    let p = err_from_is_err_and c.from_residual-in_err-longest.result c.from_residual-in_err-longest.ensures.1 in
    let same = c.in_ok-content.ensures.store in
    let left = c.in_ok-content.ensures.left told tree o in
    rw (p.1, p.2) ((rw (same.honesty, same.file) at c.in_err-longest.ensures.unchanged) told tree o left.scales left.reductions left.in_limits.in_range)

pub returns-in_err-longest-clause-fault : goal.returns-in_err-longest-clause-fault
returns-in_err-longest-clause-fault g c told tree o =
    let p = err_from_is_err_and c.from_residual-in_err-longest.result c.from_residual-in_err-longest.ensures.1 in
    rw (p.1, p.2) (names_none c.args.leaving (g.S.Store.file c.args.store.now) tree _ _ c.in_err-longest.field-0.0 c.in_err-longest.ensures.refusal)

pub returns-in_err-longest-clause-work : goal.returns-in_err-longest-clause-work
returns-in_err-longest-clause-work g c told tree o =
    let same = c.in_ok-content.ensures.store in
    let first = c.in_ok-content.ensures.work told tree o in
    let then = (rw (same.honesty, same.file) at c.in_err-longest.ensures.work) told tree o in
    omega (arith, first, then)

pub returns-in_err-due-clause-work : goal.returns-in_err-due-clause-work
returns-in_err-due-clause-work g c told tree o =
    let same = c.in_ok-content.ensures.store in
    let first = c.in_ok-content.ensures.work told tree o in
    let then = (rw (same.honesty, same.file) at c.in_ok-longest.ensures.work) told tree o in
    omega (arith, first, then)

pub returns-in_err-new-clause-work : goal.returns-in_err-new-clause-work
returns-in_err-new-clause-work g c told tree o =
    let same = c.in_ok-content.ensures.store in
    let first = c.in_ok-content.ensures.work told tree o in
    let then = (rw (same.honesty, same.file) at c.in_ok-longest.ensures.work) told tree o in
    omega (arith, first, then)

pub returns-in_err-head_of-clause-work : goal.returns-in_err-head_of-clause-work
returns-in_err-head_of-clause-work g c told tree o =
    let same = c.in_ok-content.ensures.store in
    let first = c.in_ok-content.ensures.work told tree o in
    let then = (rw (same.honesty, same.file) at c.in_ok-longest.ensures.work) told tree o in
    omega (arith, first, then)

pub returns-in_err-head_of-clause-unchanged : goal.returns-in_err-head_of-clause-unchanged
returns-in_err-head_of-clause-unchanged g c told tree o =
    let p = err_from_is_err_and c.from_residual-in_err-head_of.result c.from_residual-in_err-head_of.ensures.1 in
    rw (p.1, p.2) (c.in_err-head_of.ensures.unchanged (g.S.Store.file c.args.store.now) tree o)

pub returns-in_err-head_of-clause-fault : goal.returns-in_err-head_of-clause-fault
returns-in_err-head_of-clause-fault g c told tree o =
    let p = err_from_is_err_and c.from_residual-in_err-head_of.result c.from_residual-in_err-head_of.ensures.1 in
    rw (p.1, p.2) (memory_names_none c.args.leaving (g.S.Store.file c.args.store.now) tree c.in_err-head_of.field-0.0 c.in_err-head_of.ensures.refusal)

-- ---- where there is no memory

pub returns-in_err-walks_of-clause-unchanged : goal.returns-in_err-walks_of-clause-unchanged
returns-in_err-walks_of-clause-unchanged g c told tree o =
    let p = err_from_is_err_and c.from_residual-in_err-walks_of.result c.from_residual-in_err-walks_of.ensures.1 in
    rw (p.1, p.2, c.in_err-walks_of.ensures.memory) (λ e. absurd cc)

pub returns-in_err-walks_of-clause-fault : goal.returns-in_err-walks_of-clause-fault
returns-in_err-walks_of-clause-fault g c told tree o =
    let p = err_from_is_err_and c.from_residual-in_err-walks_of.result c.from_residual-in_err-walks_of.ensures.1 in
    rw (p.1, p.2, c.in_err-walks_of.ensures.memory) tt

pub returns-in_err-vec-2-clause-fault : goal.returns-in_err-vec-2-clause-fault
returns-in_err-vec-2-clause-fault g c told tree o =
    let p = err_from_is_err_and c.from_residual-in_err-vec-2.result c.from_residual-in_err-vec-2.ensures.1 in
    rw (p.1, p.2) tt

pub returns-in_err-vec-clause-unchanged : goal.returns-in_err-vec-clause-unchanged
returns-in_err-vec-clause-unchanged g c told tree o =
    let p = err_from_is_err_and c.from_residual-in_err-vec.result c.from_residual-in_err-vec.ensures.1 in
    rw (p.1, p.2) (λ e. absurd cc)

pub returns-in_err-vec-clause-fault : goal.returns-in_err-vec-clause-fault
returns-in_err-vec-clause-fault g c told tree o =
    let p = err_from_is_err_and c.from_residual-in_err-vec.result c.from_residual-in_err-vec.ensures.1 in
    rw (p.1, p.2) tt

pub returns-in_err-walks_of-clause-store : goal.returns-in_err-walks_of-clause-store
returns-in_err-walks_of-clause-store g c =
    let p = err_from_is_err_and c.from_residual-in_err-walks_of.result c.from_residual-in_err-walks_of.ensures.1 in
    let s = c.in_ok-longest.ensures.store in
    let before = c.in_ok-content.ensures.store in
    record { honesty = s.honesty ∙ before.honesty; file = s.file ∙ before.file; reads = rw p.1 tt }

pub returns-in_err-vec-2-clause-store : goal.returns-in_err-vec-2-clause-store
returns-in_err-vec-2-clause-store g c =
    let p = err_from_is_err_and c.from_residual-in_err-vec-2.result c.from_residual-in_err-vec-2.ensures.1 in
    let s = c.in_ok-longest.ensures.store in
    let before = c.in_ok-content.ensures.store in
    record { honesty = s.honesty ∙ before.honesty; file = s.file ∙ before.file; reads = rw p.1 tt }

pub returns-in_err-vec-2-clause-unchanged : goal.returns-in_err-vec-2-clause-unchanged
returns-in_err-vec-2-clause-unchanged g c told tree o =
    let p = err_from_is_err_and c.from_residual-in_err-vec-2.result c.from_residual-in_err-vec-2.ensures.1 in
    rw (p.1, p.2) (λ e. absurd cc)

pub returns-in_err-vec-clause-store : goal.returns-in_err-vec-clause-store
returns-in_err-vec-clause-store g c =
    let p = err_from_is_err_and c.from_residual-in_err-vec.result c.from_residual-in_err-vec.ensures.1 in
    let s = c.in_ok-longest.ensures.store in
    let before = c.in_ok-content.ensures.store in
    record { honesty = s.honesty ∙ before.honesty; file = s.file ∙ before.file; reads = rw p.1 tt }

pub returns-in_err-vec-clause-work : goal.returns-in_err-vec-clause-work
returns-in_err-vec-clause-work g c told tree o =
    let same = c.in_ok-content.ensures.store in
    let first = c.in_ok-content.ensures.work told tree o in
    let then = (rw (same.honesty, same.file) at c.in_ok-longest.ensures.work) told tree o in
    omega (arith, first, then)

pub returns-in_err-vec-2-clause-work : goal.returns-in_err-vec-2-clause-work
returns-in_err-vec-2-clause-work g c told tree o =
    let same = c.in_ok-content.ensures.store in
    let first = c.in_ok-content.ensures.work told tree o in
    let then = (rw (same.honesty, same.file) at c.in_ok-longest.ensures.work) told tree o in
    omega (arith, first, then)

pub returns-in_err-walks_of-clause-work : goal.returns-in_err-walks_of-clause-work
returns-in_err-walks_of-clause-work g c told tree o =
    let same = c.in_ok-content.ensures.store in
    let first = c.in_ok-content.ensures.work told tree o in
    let then = (rw (same.honesty, same.file) at c.in_ok-longest.ensures.work) told tree o in
    omega (arith, first, then)

pub returns-clause-work : goal.returns-clause-work
returns-clause-work g c told tree o =
    let same = c.in_ok-content.ensures.store in
    let first = c.in_ok-content.ensures.work told tree o in
    let then = (rw (same.honesty, same.file) at c.in_ok-longest.ensures.work) told tree o in
    omega (arith, first, then)

-- ---- what is made

pub returns-clause-made : goal.returns-clause-made
returns-clause-made g c =
    let rows = c.in_ok-vec.field-0 in
    let nexts = c.in_ok-vec-2.field-0 in
    let long = sym rows.ok.0 ∙ c.in_ok-vec.ensures.len in
    let few = c.in_ok-longest.ensures.few in
    writer_made c.args.movie.now c.args.leaving _ c.in_ok-walks_of.ensures.walks (omega (arith, long, few)) (sym nexts.ok.0 ∙ c.in_ok-vec-2.ensures.len ∙ search rules) c.in_ok-content.ensures.content c.in_ok-due.ensures.tree (c.in_ok-due.ensures.tracks ∙ search rules)
    (sym c.in_ok-new.field-0.buffer.ok.0 ∙ c.in_ok-new.ensures.room) c.in_ok-new.ensures.empty c.in_ok-content.ensures.leaving
    (subst (λ (l : Without). IsHeadLeft c.args.movie.now l c.in_ok-head_of.field-0.items) c.in_ok-content.ensures.leaving c.in_ok-head_of.ensures.named)
