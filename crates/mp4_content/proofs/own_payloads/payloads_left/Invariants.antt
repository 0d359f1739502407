use Rattle.std.specs.Prelude.{take}
use Rattle.std.specs.List.{AllZip}
use Rattle.mp4_head.specs.words.Seen.{media_seen}
use Rattle.mp4_head.specs.declared.heads.TrackHead.{TrackHead}
use Rattle.mp4_content.specs.words.PayloadsLeft.{IsMediaLeft}
use Rattle.mp4_content.proofs.own_payloads.payloads_left.Given as goal

-- those of the first tracks are there
abbrev pub invariant-loop-k : goal.invariant-loop-k
invariant-loop-k l = AllZip (λ (t : TrackHead). IsMediaLeft l.leaving (media_seen t.media)) (take l.k l.tracks) l.lefts.items
