use Rattle.std.proofs.Common.{rules, subst, sym}
use Rattle.mp4_present.specs.words.Movies.{InHandOf}
use Rattle.mp4_present.specs.declared.walking.Walk.{Walk}
use Rattle.mp4_present.proofs.GoneBack.{hand_later}
use Rattle.mp4_present.proofs.WalkCopied.{kept_before}
use Rattle.mp4_present.proofs.WalkPlaces.{kept_on}
use Rattle.mp4_present.proofs.WayThrough.{hand_goes_on}
use Rattle.mp4_present.proofs.walking.Walk.pass.Goals as goal

pub returns-clause-passed : goal.returns-clause-passed
returns-clause-passed g c =
    let m = c.args.movie.now in
    let later = hand_later m c.args.self.now c.in_hand-hand.result c.pass_samples.new.samples c.place-place.result c.in_hand-hand.ensures.hand c.pass_samples.ensures.later c.place-place.ensures in
    record {
      walk = rw c.keep.ensures.place (kept_on c.args.movie.now c.args.self.now c.in_hand-hand.result _ c.place-place.result c.requires c.in_hand-hand.ensures.hand c.pass_samples.ensures.later c.place-place.ensures);
      passed = (
        c.in_hand-hand.result,
        c.pass_samples.new.samples,
        c.in_hand-hand.ensures.hand,
        subst (λ (w : Walk). InHandOf m w c.pass_samples.new.samples) (sym c.keep.ensures.place) later,
        c.pass_samples.ensures.passed (search rules),
        c.pass_samples.ensures.whole (search rules),
      );
      stands = λ file tree t earlier ls s. rw c.keep.ensures.place (kept_before file tree t earlier ls c.args.self.now c.place-place.result s);
      work = λ file tree t n o may.
          rw c.keep.ensures.place (hand_goes_on file c.args.movie.now tree t c.args.self.now c.in_hand-hand.result _ c.place-place.result n _ _ o c.in_hand-hand.ensures.movie c.requires c.in_hand-hand.ensures.hand c.pass_samples.ensures.later c.place-place.ensures c.keep.ensures.work may);
    }
