use Rattle.std.proofs.Common.{rules, arith, ℕ, ◌≡◌, ◌+◌, ◌-◌, ◌<◌, List, length, slice_get, refl, sym, ap, subst, ◌∙◌}
use Rattle.std.proofs.lemmas.Result.{err_from_is_err_and}
use Rattle.std.proofs.lemmas.List.{with_items_is}
use Rattle.mp4_tables.specs.declared.sample.SampleAt.{SampleAt}
use Rattle.mp4_tables.specs.words.Keys.{keys_seen}
use Rattle.mp4_frag.specs.words.Walks.{samples_in}
use Rattle.mp4_present.specs.words.InHand.{left_in_hand}
use Rattle.mp4_present.specs.words.Movies.{IsRest, trex_at}
use Rattle.mp4_present.specs.words.WalkSteps.{TakesOn}
use Rattle.mp4_present.specs.declared.walking.in_hand.InHand.{InHand}
use Rattle.mp4_present.proofs.TrafInHand.{comes_next, ends_empty, fits, found_next, found_none, holds_next, later_is, no_samples, range_unchanged, there}
use Rattle.mp4_present.proofs.TrafTaken.{gives_some}
use Rattle.mp4_present.proofs.WalkCopied.{hand_one}
use Rattle.mp4_present.proofs.WalkPlaces.{walk_past}
use Rattle.mp4_present.proofs.WayThrough.{takes_next, takes_most}
use Rattle.mp4_present.proofs.walking.Walk.load.Goals as goal
use Rattle.mp4_boxes.proofs.Plain.{get_some}

pub returns-in_default-clause-loaded : goal.returns-in_default-clause-loaded
returns-in_default-clause-loaded g c told tree t earlier later o h = λ _.
    c.if-self-eq0.false (h.left ∙ ap length (found_none (g.S.Store.file c.args.store.now) c.args.movie.now tree t earlier later c.args.self.now o h c.own_traf.result c.own_traf.ensures.traf c.in_default.is))

pub returns-in_err-read_range-clause-loaded : goal.returns-in_err-read_range-clause-loaded
returns-in_err-read_range-clause-loaded g c told tree t earlier later o h =
    let p = err_from_is_err_and c.from_residual.result c.from_residual.ensures.1 in
    let file = g.S.Store.file c.args.store.now in
    let m = c.args.movie.now in
    let w = c.args.self.now in
    let traf = c.in-Some.traf in
    let f = found_next file m tree t earlier later w o h c.own_traf.result c.own_traf.ensures.traf traf c.in-Some.is in
    rw (p.1, p.2) (range_unchanged _ _ _ _ _ _ c.in_err-read_range.field-0.0 (fits file m tree t earlier later w o h traf f) (there file m tree t earlier later w o h traf f) (rw c.as_mut_slice.ensures.value at c.in_err-read_range.ensures.refusal))

pub returns-in_err-take-clause-loaded : goal.returns-in_err-take-clause-loaded
returns-in_err-take-clause-loaded g c told tree t earlier later o h =
    let file = g.S.Store.file c.args.store.now in
    let m = c.args.movie.now in
    let w = c.args.self.now in
    let traf = c.in-Some.traf in
    let f = found_next file m tree t earlier later w o h c.own_traf.result c.own_traf.ensures.traf traf c.in-Some.is in
    let bytes = c.read_range.new.room in
    let same : length bytes ≡ length w.bytes.items = search rules in
    let held = holds_next file m tree t earlier later w o h traf f _ bytes refl refl refl (with_items_is w.bytes bytes (same ∙ sym w.bytes.ok.0)) same (c.in_ok-read_range.ensures.bytes told) refl refl refl in
    absurd (c.in_err-take.ensures.taken file tree t earlier f.more f.next o held)

pub returns-then-branch-clause-loaded : goal.returns-then-branch-clause-loaded
returns-then-branch-clause-loaded g c told tree t earlier later o h =
    let file = g.S.Store.file c.args.store.now in
    let m = c.args.movie.now in
    let w = c.args.self.now in
    let traf = c.in-Some.traf in
    let f = found_next file m tree t earlier later w o h c.own_traf.result c.own_traf.ensures.traf traf c.in-Some.is in
    let bytes = c.read_range.new.room in
    let same : length bytes ≡ length w.bytes.items = search rules in
    let held = holds_next file m tree t earlier later w o h traf f _ bytes refl refl refl (with_items_is w.bytes bytes (same ∙ sym w.bytes.ok.0)) same (c.in_ok-read_range.ensures.bytes told) refl refl refl in
    comes_next file tree t m _ earlier f.next f.more c.take.new.self c.in_ok-take.field-0 (later_is tree t _ earlier later f.next f.more f.are refl) (c.in_ok-take.ensures.taken file tree t earlier f.more f.next o held)

pub returns-else-branch-clause-loaded : goal.returns-else-branch-clause-loaded
returns-else-branch-clause-loaded g c told tree t earlier later o h = λ _.
    let file = g.S.Store.file c.args.store.now in
    let m = c.args.movie.now in
    let w = c.args.self.now in
    let traf = c.in-Some.traf in
    let f = found_next file m tree t earlier later w o h c.own_traf.result c.own_traf.ensures.traf traf c.in-Some.is in
    let bytes = c.read_range.new.room in
    let same : length bytes ≡ length w.bytes.items = search rules in
    let held = holds_next file m tree t earlier later w o h traf f _ bytes refl refl refl (with_items_is w.bytes bytes (same ∙ sym w.bytes.ok.0)) same (c.in_ok-read_range.ensures.bytes told) refl refl refl in
    let took = c.in_ok-take.ensures.taken file tree t earlier f.more f.next o held in
    gives_some file m tree t earlier f.next f.more _ o held (sym took.1.2 ∙ took.1.3 c.if-branch.false)

pub returns-then-branch-clause-work : goal.returns-then-branch-clause-work
returns-then-branch-clause-work g c told tree t n o h =
    let file = g.S.Store.file c.args.store.now in
    let m = c.args.movie.now in
    let w = c.args.self.now in
    let traf = c.in-Some.traf in
    let u : TakesOn file tree t n w c.args.steps.now.passed c.args.steps.now.passed = (n, h, omega arith) in
    let f = found_next file m tree t h.earlier h.later w o h.stands c.own_traf.result c.own_traf.ensures.traf traf c.in-Some.is in
    let bytes = c.read_range.new.room in
    let same : length bytes ≡ length w.bytes.items = search rules in
    let held = holds_next file m tree t h.earlier h.later w o h.stands traf f _ bytes refl refl refl (with_items_is w.bytes bytes (same ∙ sym w.bytes.ok.0)) same (c.in_ok-read_range.ensures.bytes told) refl refl refl in
    let e = c.in_ok-take.ensures in
    takes_next file tree t m n _ _ _ w _ c.take.new.self u f.next f.more c.in_ok-take.field-0 f.are held (e.taken file tree t h.earlier f.more f.next o held) e.counts.traf e.counts.bytes (e.hand.through t) e.hand.way e.work

pub returns-else-branch-clause-work : goal.returns-else-branch-clause-work
returns-else-branch-clause-work g c told tree t n o h =
    let file = g.S.Store.file c.args.store.now in
    let m = c.args.movie.now in
    let w = c.args.self.now in
    let traf = c.in-Some.traf in
    let u : TakesOn file tree t n w c.args.steps.now.passed c.args.steps.now.passed = (n, h, omega arith) in
    let f = found_next file m tree t h.earlier h.later w o h.stands c.own_traf.result c.own_traf.ensures.traf traf c.in-Some.is in
    let bytes = c.read_range.new.room in
    let same : length bytes ≡ length w.bytes.items = search rules in
    let held = holds_next file m tree t h.earlier h.later w o h.stands traf f _ bytes refl refl refl (with_items_is w.bytes bytes (same ∙ sym w.bytes.ok.0)) same (c.in_ok-read_range.ensures.bytes told) refl refl refl in
    let e = c.in_ok-take.ensures in
    takes_most file tree t n _ _ c.take.new.self (takes_next file tree t m n _ _ _ w _ c.take.new.self u f.next f.more c.in_ok-take.field-0 f.are held (e.taken file tree t h.earlier f.more f.next o held) e.counts.traf e.counts.bytes (e.hand.through t) e.hand.way e.work)

pub returns-then-self-eq0-clause-answer : goal.returns-then-self-eq0-clause-answer
returns-then-self-eq0-clause-answer g c =
    let none = c.if-self-eq0.true in (
      record { some = λ e. absurd cc; holds = λ e. absurd cc; next = λ e. absurd cc; fewer = λ e. absurd cc; still = λ _. refl; none = λ _. none },
      λ told tree t earlier later o h hand at z _.
          let file = g.S.Store.file c.args.store.now in
          ends_empty file tree t c.args.movie.now earlier later hand c.args.self.now (no_samples file tree t earlier later c.args.self.now h none) h at z,
    )

pub returns-then-branch-clause-walk : goal.returns-then-branch-clause-walk
returns-then-branch-clause-walk g c =
    let e = c.in_ok-take.ensures in
    let m = c.args.movie.now in
    let now = c.take.new.self in
    let next = e.keeps.next in
    record {
      walk = walk_past m c.args.self.now now c.requires e.keeps.track e.keeps.mark (omega (arith, next)) e.hand.place (subst (λ d. IsRest m now d now.place) (sym e.counts.before) e.hand.rest);
      room = search rules;
      mark = search rules;
    }

pub returns-then-branch-clause-answer : goal.returns-then-branch-clause-answer
returns-then-branch-clause-answer g c =
    let e = c.in_ok-take.ensures in
    let w = c.args.self.now in
    let now = c.take.new.self in
    let m = c.args.movie.now in
    let next = e.keeps.next in
    let found = get_some m.tracks now.track (subst (λ (k : ℕ). k < length m.tracks) (sym e.keeps.track) c.requires.goes_on.track) in
    let at = ap (slice_get m.tracks) (sym e.keeps.track) ∙ found.1 in
    let al = e.hand.all found.0 at in
    let s = e.some c.if-branch.true in
    let one = ap (λ (h : InHand). length (left_in_hand h)) (hand_one m now s.0 al.0 s.1 al.1) in
    let long = ap (λ (ss : List SampleAt). length ss) al.2 in
    let some = s.2 in
    let sum = e.counts.counted found.0 at in (
      record {
        some = λ _. s;
        holds = λ _. record {
          before = record { time = w.due; left = w.left };
          is_before = e.counts.before;
          some = omega (arith, one, long, some, sum);
          all = λ info at.
              let sum = e.counts.counted info (ap (slice_get m.tracks) (sym e.keeps.track) ∙ at) in
              same_count _ _ _ sum _ (λ i. length (samples_in (e.counts.bytes i) (e.counts.traf i).base info.id (trex_at m (e.keeps.track i)) (info.samples - w.left) w.due (keys_seen info.keys)));
        };
        next = λ _. omega (arith, next);
        fewer = λ _. omega (arith, one, long, some, sum);
        still = λ e. absurd cc;
        none = λ e. absurd cc;
      },
      λ told tree t earlier later o h hand is empty no. absurd cc,
    )
  where
    same_count : (left long now : ℕ) → left ≡ long + now → (n : ℕ) → n ≡ long → n + now ≡ left
    same_count left long now sum n same = omega (arith, sum, same)
