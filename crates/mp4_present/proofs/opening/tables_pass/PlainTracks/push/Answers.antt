use Rattle.std.proofs.Common.{◌≡◌, sym, ◌∙◌, arith, ◌-◌, ◌*◌, ◌^◌, ◌≤◌, List, ℕ, subst, refl, rules}
use Rattle.mp4_tables.specs.words.Accepted.{IsAccepted}
use Rattle.mp4_present.specs.declared.movie.TrackTables.{TrackTables}
use Rattle.mp4_present.specs.declared.opening.tables_pass.PlainTracks.{PlainTracks}
use Rattle.std.proofs.lemmas.Result.{err_from_is_err_and}
use Rattle.mp4_boxes.specs.format.Bytes.{AreBytes}
use Rattle.mp4_present.proofs.PlainLists.{lie_in, plain_more}
use Rattle.mp4_present.proofs.TablesKept.{IsRead, tables_are, state_is, bytes_few, tables_more}
use Rattle.mp4_boxes.specs.words.View.{box_seen}
use Rattle.mp4_present.proofs.OpeningBytes.{track_fits, of_less, refused_fits}
use Rattle.mp4_present.proofs.TablesWork.{if_no_fault, track_least, track_within}
use Rattle.std.proofs.Common.{ap}
use Rattle.mp4_boxes.specs.format.FirstFault.{first_failed}
use Rattle.mp4_present.proofs.TablesFirst.{tests_are}
use Rattle.mp4_present.proofs.opening.tables_pass.PlainTracks.push.Goals as goal

pub returns-clause-one_more : goal.returns-clause-one_more
returns-clause-one_more g c = λ n a.
    let e = c.in_ok-tables.ensures in
    let r : IsRead c.args.file_len c.description_count-descriptions.result c.args.self.now.room c.count.result c.totals-totals.result.duration c.totals-totals.result.bytes c.args.track.now c.in_ok-tables.tables c.check.new.keys = record {
      of_bytes = subst AreBytes c.payload.ensures c.length_of-len.ensures.bytes;
      descriptions = c.description_count-descriptions.ensures;
      payload = e.payload;
      read = e.tables;
      named = e.keys;
      count_is = c.count.ensures;
      duration = c.totals-totals.ensures.duration;
      size = c.totals-totals.ensures.bytes;
    } in
    let few : c.count.result ≤ c.args.self.now.room = search rules in
    let same : c.in_ok-tables.tables.payload ≡ c.args.track.now.stbl.payload.now = search rules in
    let accepted : IsAccepted c.in_ok-tables.tables.payload c.places.result = c.places.ensures.accepted in
    let t : TrackTables = record { place = c.payload_offset.result - c.payload_offset-2.result; len = c.length_of-len.result; tables = c.places.result } in
    let new : PlainTracks = record { tables = c.push.new.self; states = c.push-2.new.self; room = c.args.self.now.room - c.count.result } in
    let lies = lie_in _ _ t c.requires.inside.inside (search rules) (search rules) (subst (λ (bytes : List ℕ). IsAccepted bytes c.places.result) same accepted) in
    let bytes : c.state_of.result.bytes ≤ 2 ^ 32 * c.count.result = subst (λ (k : ℕ). k ≤ 2 ^ 32 * c.count.result) (sym c.state_of.ensures.bytes)
    (bytes_few c.args.file_len c.description_count-descriptions.result _ _ _ _ (box_seen c.args.moov) c.args.track.now c.in_ok-tables.tables c.check.new.keys c.requires.read.0 c.requires.read.1 r a.few) in
    plain_more _ n c.count.result c.args.self.now new t c.state_of.result a lies few (search rules) (search rules) bytes c.in_ok-push.ensures.items c.in_ok-push-2.ensures.items refl

pub returns-clause-says : goal.returns-clause-says
returns-clause-says g c = λ all by t trees i a.
    let e = c.in_ok-tables.ensures in
    let r : IsRead c.args.file_len c.description_count-descriptions.result c.args.self.now.room c.count.result c.totals-totals.result.duration c.totals-totals.result.bytes c.args.track.now c.in_ok-tables.tables c.check.new.keys = record {
      of_bytes = subst AreBytes c.payload.ensures c.length_of-len.ensures.bytes;
      descriptions = c.description_count-descriptions.ensures;
      payload = e.payload;
      read = e.tables;
      named = e.keys;
      count_is = c.count.ensures;
      duration = c.totals-totals.ensures.duration;
      size = c.totals-totals.ensures.bytes;
    } in
    let L = c.args.file_len in
    let n = c.description_count-descriptions.result in
    let moov = box_seen c.args.moov in
    let h = c.args.track.now in
    let v = c.in_ok-tables.tables in
    let x : TrackTables = record { place = c.payload_offset.result - c.payload_offset-2.result; len = c.length_of-len.result; tables = c.places.result } in
    let new : PlainTracks = record { tables = c.push.new.self; states = c.push-2.new.self; room = c.args.self.now.room - c.count.result } in
    let s = c.state_of.result in
    let room = a.room in
    let few : c.args.self.now.room ≤ 2 ^ 24 = omega (arith, room) in
    let tables = tables_are L n _ _ _ _ moov h v c.check.new.keys t i r x c.requires.inside.inside (search rules) (search rules) c.places.ensures.at in
    let state = state_is L n _ _ _ _ moov h v c.check.new.keys t i r all s few c.state_of.ensures.id (c.state_of.ensures.descriptions ∙ sym c.description_count-descriptions.ensures) (c.state_of.ensures.trex ∙ by c.args.track.now.id) c.state_of.ensures.start (c.state_of.ensures.count
    ∙ c.count-2.ensures
    ∙ sym c.count.ensures) c.state_of.ensures.time c.state_of.ensures.bytes c.state_of.ensures.keys in
    tables_more L n _ _ _ _ moov h v c.check.new.keys t i r all trees c.args.self.now new x s a few refl refl tables state c.in_ok-push.ensures.items c.in_ok-push-2.ensures.items

pub returns-clause-work : goal.returns-clause-work
returns-clause-work g c =
    let e = c.in_ok-tables.ensures in
    let less = track_fits _ _ _ (box_seen c.args.moov) (box_seen c.args.track.now.stbl) c.in_ok-tables.tables c.count.result _ _ _ c.requires.inside.inside e.tables e.payload c.count.ensures e.within c.totals-totals.ensures.work in
    record { said = track_within _ _ _ c.args.track.now c.in_ok-tables.tables _ _ _ e.tables e.passed c.totals-totals.ensures.work; within = of_less _ _ _ _ _ less; less = less }

pub returns-clause-least : goal.returns-clause-least
returns-clause-least g c = track_least _ _ _ c.args.track.now c.in_ok-tables.tables _ _ _ c.in_ok-tables.ensures.tables c.in_ok-tables.ensures.counted c.totals-totals.ensures.counted

pub returns-in_err-push-clause-work : goal.returns-in_err-push-clause-work
returns-in_err-push-clause-work g c =
    let p = err_from_is_err_and c.from_residual-in_err-push.result c.from_residual-in_err-push.ensures.1 in
    let e = c.in_ok-tables.ensures in
    let less = track_fits _ _ _ (box_seen c.args.moov) (box_seen c.args.track.now.stbl) c.in_ok-tables.tables c.count.result _ _ _ c.requires.inside.inside e.tables e.payload c.count.ensures e.within c.totals-totals.ensures.work in
    record { said = if_no_fault _ _ (track_within _ _ _ c.args.track.now c.in_ok-tables.tables _ _ _ e.tables e.passed c.totals-totals.ensures.work); within = of_less _ _ _ _ _ less; less = rw p.1 tt }

pub returns-in_err-push-2-clause-work : goal.returns-in_err-push-2-clause-work
returns-in_err-push-2-clause-work g c =
    let p = err_from_is_err_and c.from_residual-in_err-push-2.result c.from_residual-in_err-push-2.ensures.1 in
    let e = c.in_ok-tables.ensures in
    let less = track_fits _ _ _ (box_seen c.args.moov) (box_seen c.args.track.now.stbl) c.in_ok-tables.tables c.count.result _ _ _ c.requires.inside.inside e.tables e.payload c.count.ensures e.within c.totals-totals.ensures.work in
    record { said = if_no_fault _ _ (track_within _ _ _ c.args.track.now c.in_ok-tables.tables _ _ _ e.tables e.passed c.totals-totals.ensures.work); within = of_less _ _ _ _ _ less; less = rw p.1 tt }

pub returns-in_err-tables-clause-work : goal.returns-in_err-tables-clause-work
returns-in_err-tables-clause-work g c =
    let p = err_from_is_err_and c.from_residual.result c.from_residual.ensures.1 in
    rw (p.1, p.2) (record { said = tt; within = refused_fits (box_seen c.args.moov) (box_seen c.args.track.now.stbl) _ _ _ c.requires.inside.inside c.check.ensures.work; less = tt })

pub returns-in_err-tables-clause-exact : goal.returns-in_err-tables-clause-exact
returns-in_err-tables-clause-exact g c =
    let p = err_from_is_err_and c.from_residual.result c.from_residual.ensures.1 in
    rw (p.1, p.2) (λ file e t i. record { names = sym (ap first_failed (tests_are _ _ _ c.args.track.now t file e i (subst AreBytes c.payload.ensures c.length_of-len.ensures.bytes) c.description_count-descriptions.ensures)) ∙ c.in_err-tables.ensures.exact.names })

pub returns-clause-exact : goal.returns-clause-exact
returns-clause-exact g c = λ file e t i. record { names = sym (ap first_failed (tests_are _ _ _ c.args.track.now t file e i (subst AreBytes c.payload.ensures c.length_of-len.ensures.bytes) c.description_count-descriptions.ensures)) ∙ c.in_ok-tables.ensures.exact.names }

pub returns-in_err-push-clause-exact : goal.returns-in_err-push-clause-exact
returns-in_err-push-clause-exact g c =
    let p = err_from_is_err_and c.from_residual-in_err-push.result c.from_residual-in_err-push.ensures.1 in
    rw (p.1, p.2) (λ file e t i. record { names = tt })

pub returns-in_err-push-2-clause-exact : goal.returns-in_err-push-2-clause-exact
returns-in_err-push-2-clause-exact g c =
    let p = err_from_is_err_and c.from_residual-in_err-push-2.result c.from_residual-in_err-push-2.ensures.1 in
    rw (p.1, p.2) (λ file e t i. record { names = tt })
