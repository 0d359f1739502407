use Rattle.std.proofs.Common.{◌≡◌, ◌+◌, ◌∙◌, ap, sym, refl, ◌∷◌, arith}
use Rattle.mp4_tables.specs.declared.sample.SampleAt.{SampleAt}
use Rattle.mp4_frag.specs.words.PlacesIn.{row_behind}
use Rattle.mp4_frag.specs.words.Walks.{rows_here, capped, next_number, number_here, coming}
use Rattle.mp4_frag.specs.declared.places.RowPlace.{RowPlace}
use Rattle.mp4_frag.proofs.Comings.{next_is, sample_passed}
use Rattle.mp4_frag.proofs.RowsLeft.{first_row, row_behind_first}
use Rattle.mp4_frag.proofs.TimesKept.{time_kept}
use Rattle.mp4_frag.proofs.traf_samples.pass_row.Goals as goal

pub returns-clause-coming : goal.returns-clause-coming
returns-clause-coming c =
    let payload = c.args.payload.now in
    let place = c.args.place.now in
    let row = first_row payload place.run in
    let is = next_is payload place c.requires.next.next c.requires.some c.requires.next.first in
    let lasts = sym c.requires.next.duration ∙ ap (λ (s : SampleAt). s.duration) is in
    let long = sym c.requires.next.size ∙ ap (λ (s : SampleAt). s.size) is in
    let dts = c.saturating_add-place.ensures ∙ ap (λ n. capped (place.dts + n)) (c.from.ensures ∙ lasts) in
    let at = c.saturating_add-place-2.ensures ∙ ap (λ n. capped (place.at + n)) (c.from-2.ensures ∙ long) in
    let indexes = c.pass.ensures.next in
    let next : c.next_row-place.result ≡ row_behind place.run = c.next_row-place.ensures in
    let number : number_here place.number c.next_row-place.result.left ≡ next_number (number_here place.number place.run.left) =
    omega (arith, ap (λ (r : RowPlace). r.left) next, c.requires.some, c.requires.place.number) in
    sample_passed payload place (record place { dts = c.saturating_add-place.result; at = c.saturating_add-place-2.result; run = c.next_row-place.result; passed = c.saturating_add-place-3.result; indexes = c.pass.new.self }) row
    (row_behind_first payload place.run c.requires.some ∙ ap (λ (r : RowPlace). row ∷ rows_here payload r) (sym next))
    (ap (λ (r : RowPlace). r.first_flags) next)
    (λ i. record { number = number i; dts = dts i; at = at i; base = place.base; inherited = place.inherited; indexes = indexes i })
    refl

pub returns-clause-time : goal.returns-clause-time
returns-clause-time c =
    let payload = c.args.payload.now in
    let place = c.args.place.now in
    let n = c.requires.next in
    let dts = c.saturating_add-place.ensures ∙ ap (λ n. capped (place.dts + n)) (c.from.ensures ∙ sym n.duration) in
    time_kept place.dts c.saturating_add-place.result n.next (coming payload place) _ n.first (returns-clause-coming c) dts
