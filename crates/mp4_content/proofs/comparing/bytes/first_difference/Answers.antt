use Rattle.std.proofs.Common.{rules, ◌≡◌, ◌+◌, ◌≤◌, ℕ, List, None, sym, subst, ◌∙◌}
use Rattle.std.specs.Prelude.{IsTrue}
use Rattle.mp4_store.specs.words.Device.{range}
use Rattle.mp4_content.specs.format.Differences.{first_unequal}
use Rattle.mp4_content.specs.words.Windows.{Shows}
use Rattle.mp4_content.proofs.Differing.{chunk_same, chunk_other}
use Rattle.mp4_content.proofs.comparing.bytes.first_difference.Goals as goal

pub returns-in-Some-clause-found : goal.returns-in-Some-clause-found
returns-in-Some-clause-found g c = λ ha hb.
    let i = c.loop-done.invariant in
    let done = c.loop-done.done in
    let count = c.if-len-done.count in
    let le : done + count ≤ c.args.ranges.len = search rules in
    let f = g.S.Store.file c.args.left.now in
    let h = g.T.Store.file c.args.right.now in
    let first : c.bytes-first.result.now ≡ range f (c.args.ranges.left + done) count =
    c.bytes-first.ensures.bytes f (subst (λ (file : List ℕ). Shows file c.show.new.self) i.file (c.in_ok-shown.ensures.shows (subst IsTrue (sym i.honesty) ha))) in
    let second : c.bytes-second.result.now ≡ range h (c.args.ranges.right + done) count =
    c.bytes-second.ensures.bytes h (subst (λ (file : List ℕ). Shows file c.show-in-loop-done.new.self) i.file_right (c.in_ok-other.ensures.shows (subst IsTrue (sym i.honesty_right) hb))) in
    chunk_other f h c.args.ranges.left c.args.ranges.right c.args.ranges.len done count c.bytes-first.result.now c.bytes-second.result.now le first second c.bytes-first.ensures.long c.bytes-second.ensures.long _ (i.found ha hb)
    c.in-Some.place c.in-Some.byte c.in-Some.other (search rules)

pub loop-done-preserved : goal.loop-done-preserved
loop-done-preserved g c =
    let i = c.loop-done.invariant in
    let done = c.loop-done.done in
    let count = c.if-len-done.count in
    let le : done + count ≤ c.args.ranges.len = search rules in
    let f = g.S.Store.file c.args.left.now in
    let h = g.T.Store.file c.args.right.now in
    let none : None ≡ first_unequal 0 c.bytes-first.result.now c.bytes-second.result.now = search rules in
    record {
      within = le;
      honesty = c.in_ok-shown.ensures.store.honesty ∙ i.honesty;
      file = c.in_ok-shown.ensures.store.file ∙ i.file;
      reads = search rules;
      honesty_right = c.in_ok-other.ensures.store.honesty ∙ i.honesty_right;
      file_right = c.in_ok-other.ensures.store.file ∙ i.file_right;
      reads_right = search rules;
      shows = λ ha. subst (λ (file : List ℕ). Shows file c.show.new.self) i.file (c.in_ok-shown.ensures.shows (subst IsTrue (sym i.honesty) ha));
      shows_right = λ hb. subst (λ (file : List ℕ). Shows file c.show-in-loop-done.new.self) i.file_right (c.in_ok-other.ensures.shows (subst IsTrue (sym i.honesty_right) hb));
      found = λ ha hb.
          let first : c.bytes-first.result.now ≡ range f (c.args.ranges.left + done) count =
          c.bytes-first.ensures.bytes f (subst (λ (file : List ℕ). Shows file c.show.new.self) i.file (c.in_ok-shown.ensures.shows (subst IsTrue (sym i.honesty) ha))) in
          let second : c.bytes-second.result.now ≡ range h (c.args.ranges.right + done) count =
          c.bytes-second.ensures.bytes h (subst (λ (file : List ℕ). Shows file c.show-in-loop-done.new.self) i.file_right (c.in_ok-other.ensures.shows (subst IsTrue (sym i.honesty_right) hb))) in
          chunk_same f h c.args.ranges.left c.args.ranges.right c.args.ranges.len done count c.bytes-first.result.now c.bytes-second.result.now le first second c.bytes-first.ensures.long c.bytes-second.ensures.long _ (i.found ha hb) none;
    }
