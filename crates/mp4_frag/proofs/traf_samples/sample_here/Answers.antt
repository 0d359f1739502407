use Rattle.std.proofs.Common.{◌≡◌, ◌∙◌, None, ap, to_z, of_z, rules}
use Rattle.std.specs.Int.{w32}
use Rattle.byteorder.specs.Endian.{twos_complement}
use Rattle.mp4_frag.specs.format.FragmentSamples.{flags_of}
use Rattle.mp4_frag.specs.words.Walks.{row_signed}
use Rattle.mp4_frag.proofs.Comings.{sample_first}
use Rattle.mp4_frag.proofs.RowsLeft.{flags_said, offset_said, row_in_hand}
use Rattle.mp4_frag.proofs.traf_samples.sample_here.Goals as goal

pub returns : goal.returns
returns c =
    let payload = c.args.payload.now in
    let place = c.args.place.now in
    let said = c.said_here-said.ensures in
    let row = said.row in
    let signed : to_z w32 (of_z w32 c.signed.result) ≡ c.signed.result = search rules in
    let duration = said.duration in
    let cto = signed ∙ c.signed.ensures ∙ ap (twos_complement 4) said.offset ∙ offset_said row.offset in
    let flags = c.flags_of.ensures ∙ ap (flags_of place.run.first_flags None None) said.flags ∙ flags_said place.run.first_flags row.flags place.inherited.flags in
    let number = c.number_here.ensures in
    let size = said.size in
    let groups = c.here.ensures payload place.index_rows c.requires.place.indexes in
    sample_first payload place (row_signed row) _ _ (row_in_hand payload place.run row c.requires.some said.is)
    (λ i. record { dts = place.dts; duration = duration i; cto = cto i; flags = flags i; description = place.inherited.description; at = place.at; size = size i; groups = groups i; number = number i })
