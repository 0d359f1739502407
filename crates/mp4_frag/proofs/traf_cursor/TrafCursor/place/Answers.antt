use Rattle.std.proofs.Common.{◌≡◌, ap, ◌∙◌, arith}
use Rattle.mp4_frag.specs.words.PlacesIn.{traf_work}
use Rattle.mp4_frag.specs.words.FragmentsSeen.{CursorSeen}
use Rattle.mp4_frag.proofs.WalkBound.{walk_said}
use Rattle.mp4_frag.proofs.traf_cursor.TrafCursor.place.Goals as goal

pub returns-clause-said : goal.returns-clause-said
returns-clause-said c traf same =
    let work = c.self.invariant.lies.work in
    let here : c.self.inside.payload.now ≡ traf.payload = ap (λ (v : CursorSeen). v.payload) c.self.view_is ∙ same in
    omega (arith, work, ap traf_work here, walk_said traf)
