use Rattle.std.proofs.Common.{rules, w32, w64, to_z, of_z, ◌≡◌, ◌+◌, max, arith, ap, ◌∙◌, map, neg_ℤ}
use Rattle.mp4_head.specs.words.Seen.{edit_seen}
use Rattle.mp4_content.specs.format.LeadIns.{from_0}
use Rattle.mp4_content.proofs.EditsBegin.{begins_there}
use Rattle.mp4_content.proofs.lead_ins.beginning_of.Goals as goal

pub returns-clause-begins : goal.returns-clause-begins
returns-clause-begins c some t edits scale start offset s =
    let cto = c.args.first.now.cto in
    let info = c.args.info.now in
    let shown = c.shown_from-shown.result in
    let most : c.max.result ≡ max info.timescale 1 = c.max.ensures in
    let same : c.max.result ≡ t.head.media.timescale = omega (arith, most, some, scale) in
    let own : to_z w64 (of_z w64 c.from-offset.result) ≡ c.from-offset.result = search rules in
    let near : to_z w32 (of_z w32 cto) ≡ cto = search rules in
    let read : to_z w64 (of_z w64 shown) ≡ shown = search rules in
    let is = own ∙ c.from-offset.ensures ∙ near in
    let later : c.from.result + c.from-2.result + c.from-3.result ≡ info.start + from_0 cto + from_0 (neg_ℤ shown) = λ i. c.from.ensures i + (c.from-2.ensures ∙ c.above.ensures ∙ ap from_0 is) i + (c.from-3.ensures ∙ c.below.ensures ∙ ap (λ z. from_0 (neg_ℤ z)) read) i in
    let earlier : c.from-4.result + c.from-5.result ≡ from_0 (neg_ℤ cto) + from_0 shown = λ i. (c.from-4.ensures ∙ c.below-2.ensures ∙ ap (λ z. from_0 (neg_ℤ z)) is) i + (c.from-5.ensures ∙ c.above-2.ensures ∙ ap from_0 read) i in
    begins_there s c.waits_of.result c.max.result _ _ info.start cto shown (map edit_seen c.args.edits.now) t c.waits_of.ensures.is c.shown_from-shown.ensures later earlier edits same start offset
