use Rattle.std.proofs.Common.{get_or, ℕ, List, length, take, map, refl, sym, ap, subst, ◌≡◌, ◌∙◌, ◌++◌, arith, drop, rules}
use Rattle.std.proofs.lemmas.List.{length-take-le}
use Rattle.std.specs.Prelude.{Some, slice_get}
use Rattle.std.proofs.lemmas.Result.{err_from_is_err_and}
use Rattle.mp4_boxes.proofs.Plain.{get_every}
use Rattle.mp4_tables.specs.words.Keys.{keys_seen}
use Rattle.mp4_present.specs.words.Joined.{sample_bytes}
use Rattle.mp4_present.specs.declared.track_info.TrackInfo.{TrackInfo}
use Rattle.mp4_present.proofs.WalkCopied.{on_ok}
use Rattle.mp4_plan.specs.words.PutPieces.{PutPiece, put_front}
use Rattle.mp4_plan.specs.words.Spelling.{moof_front, run_rows}
use Rattle.mp4_plan.specs.words.Taken.{row_seen}
use Rattle.mp4_plan.specs.words.UsedKeys.{AreApart, groups_bytes, some_groups}
use Rattle.mp4_plan.proofs.CarriedParts.{parts_are, parts_go, noted_with}
use Rattle.mp4_content.proofs.AtPlaces.{read_at}
use Rattle.mp4_plan.proofs.PiecesPut.{none_follow, piece_follows}
use Rattle.mp4_present.proofs.FrontsPut.{stopped_first, stopped_last}
use Rattle.mp4_plan.proofs.LeftRefused.{on_both}
use Rattle.mp4_present.specs.words.Carried.{waiting}
use Rattle.mp4_tables.specs.declared.sample.SampleAt.{SampleAt}
use Rattle.mp4_present.specs.words.Movies.{IsWalkOf, mark_of}
use Rattle.mp4_present.proofs.Carrying.{BytesGoOn-nothing, BytesGoOn-then}
use Rattle.mp4_plan.proofs.ComeAt.{set_same}
use Rattle.mp4_plan.proofs.WritingSteps.{none_carried}
use Rattle.mp4_plan.proofs.writer.Writer.carry_turn.Goals as goal

pub moof_front-front-requires : goal.moof_front-front-requires
moof_front-front-requires g c = let n = c.requires.may.bounds.few in let few = c.requires.may.writer.few in c.sizes_of-sizes.ensures.small (omega (arith, n, few)) c.requires.may.bounds.rows

pub returns-in_err-close-clause-put : goal.returns-in_err-close-clause-put
returns-in_err-close-clause-put g c told_honest tree o samples noted_are info is apart =
    let e = err_from_is_err_and c.from_residual.result c.from_residual.ensures.1 in
    let file = g.S.Store.file c.args.store.now in
    let p = c.args.noted.now.planned in
    let there = get_or c.tracks.result.now c.args.noted.now.track c.index-tracks-noted.result in
    let told = keys_seen there.keys in
    let noted = take p.count c.deref.result.now in
    let front : List ℕ = c.as_bytes.result.now in
    let mdat : List ℕ = c.bytes.result.now in
    let bytes_there = sample_bytes file (take p.count samples) in
    let keys = ap (λ (t : TrackInfo). keys_seen t.keys) (sym c.index-tracks-noted.is ∙ read_at c.args.movie.now.tracks c.args.noted.now.track info c.index-tracks-noted.result is (rw c.tracks.ensures at c.index-tracks-noted.is)) in
    let whole = parts_are c.in-Some.head p c.sizes_of-sizes.result (keys_seen info.keys) told (map row_seen (take p.count samples)) noted front mdat bytes_there (c.as_bytes.ensures ∙ c.moof_front-front.ensures) c.sizes_of-sizes.ensures.is keys (ap (take p.count) c.deref.ensures.value
    ∙ noted_are.rows) (c.bytes.ensures ∙ c.header-mdat.ensures) in
    let goes = parts_go g.K.Sink front (run_rows p noted) (groups_bytes noted p told) mdat _ c.put.ensures c.carry_run.ensures (c.carry_groups.ensures.put (subst AreApart (sym keys) apart)) c.put-2.ensures refl in
    let stop = goes.stops refl c.in_err-close.ensures.err in
    let same = goes.same.sink in
    let back : c.sink-1.given.0 ≡ c.put-2.new.self.sink.now = search rules in
    rw (e.1, c.in-Some.is, back) (stopped_first (g.K.Sink.takes c.args.sink.now c.put-2.new.self.sink.now) (waiting c.args.self.now.carrier) _ bytes_there _ stop.prefix (sym whole))

pub returns-clause-put : goal.returns-clause-put
returns-clause-put g c =
    let same = (parts_go g.K.Sink _ _ _ _ _ c.put.ensures c.carry_run.ensures c.carry_groups.ensures.some.2 c.put-2.ensures refl).same.sink in
    let back : c.sink-1.given.0 ≡ c.put-2.new.self.sink.now = search rules in
    λ told_honest tree o samples noted_are info is apart.
    let file = g.S.Store.file c.args.store.now in
    let p = c.args.noted.now.planned in
    let there = get_or c.tracks.result.now c.args.noted.now.track c.index-tracks-noted.result in
    let told = keys_seen there.keys in
    let noted = take p.count c.deref.result.now in
    let front : List ℕ = c.as_bytes.result.now in
    let mdat : List ℕ = c.bytes.result.now in
    let bytes_there = sample_bytes file (take p.count samples) in
    let keys = ap (λ (t : TrackInfo). keys_seen t.keys) (sym c.index-tracks-noted.is ∙ read_at c.args.movie.now.tracks c.args.noted.now.track info c.index-tracks-noted.result is (rw c.tracks.ensures at c.index-tracks-noted.is)) in
    let whole = parts_are c.in-Some.head p c.sizes_of-sizes.result (keys_seen info.keys) told (map row_seen (take p.count samples)) noted front mdat bytes_there (c.as_bytes.ensures ∙ c.moof_front-front.ensures) c.sizes_of-sizes.ensures.is keys (ap (take p.count) c.deref.ensures.value
    ∙ noted_are.rows) (c.bytes.ensures ∙ c.header-mdat.ensures) in
    let goes = parts_go g.K.Sink front (run_rows p noted) (groups_bytes noted p told) mdat _ c.put.ensures c.carry_run.ensures (c.carry_groups.ensures.put (subst AreApart (sym keys) apart)) c.put-2.ensures refl in
    let here = noted_with file tree c.args.movie.now c.args.noted.now.track p.count samples c.args.self.now c.put-2.new.self.out.now noted_are in
    let put = rw (sym back) at (goes.whole c.in_ok-close.ensures.ok).taken in
    rw c.in-Some.is (on_both c.carry_data.result
    (λ x. BytesGoOn-then g.met.K.Sink.takes_on _ _ _ _ _ _ _ bytes_there _ put x (sym whole))
    (λ x. stopped_last g.met.K.Sink.takes_on _ _ _ _ _ _ bytes_there _ put x (sym whole))
    (c.carry_data.ensures.put told_honest tree o samples here))

pub returns-clause-many : goal.returns-clause-many
returns-clause-many g c =
    let p = c.args.noted.now.planned in
    let there = get_or c.tracks.result.now c.args.noted.now.track c.index-tracks-noted.result in
    let noted = take p.count c.deref.result.now in
    let groups = c.carry_groups.ensures.some in
    let few = c.requires.may.bounds.few in
    let rows = ap length c.deref.ensures.value in
    let each : length noted ≡ p.count = length-take-le p.count c.deref.result.now (omega (arith, few, rows)) in
    let q : PutPiece = record { head = c.in-Some.head; planned = p; keys = keys_seen there.keys; rows = noted; groups = groups.0; each = each; few = groups.1 } in
    let front : List ℕ = c.as_bytes.result.now in
    let mdat : List ℕ = c.bytes.result.now in
    let is_front = c.as_bytes.ensures ∙ c.moof_front-front.ensures ∙ ap (moof_front c.in-Some.head p) c.sizes_of-sizes.ensures.is in
    let is_mdat = c.bytes.ensures ∙ c.header-mdat.ensures in
    let run = run_rows p noted in
    let more = some_groups noted p groups.0 in
    let is : put_front q ≡ front ++ run ++ more ++ mdat = λ i. sym is_front i ++ run ++ more ++ sym is_mdat i in
    let goes = parts_go g.K.Sink front run more mdat _ c.put.ensures c.carry_run.ensures groups.2 c.put-2.ensures is in
    let same = goes.same.sink in
    let back : c.sink-1.given.0 ≡ c.put-2.new.self.sink.now = search rules in
    let put = rw (sym back) at (goes.whole c.in_ok-close.ensures.ok).taken in
    on_ok _ _ c.carry_data.result (λ x. piece_follows q g.met.K.Sink.takes_on _ _ _ _ _ _ put x) c.carry_data.ensures.many

pub returns-clause-copied : goal.returns-clause-copied
unfolding noted_with
returns-clause-copied g c told_honest tree o samples noted_are =
    let file = g.S.Store.file c.args.store.now in
    let here = noted_with file tree c.args.movie.now c.args.noted.now.track c.args.noted.now.planned.count samples c.args.self.now c.put-2.new.self.out.now noted_are in
    c.carry_data.ensures.copied told_honest tree o samples here

pub returns-in_err-close-clause-copied : goal.returns-in_err-close-clause-copied
returns-in_err-close-clause-copied g c told_honest tree o samples noted_are =
    let e = err_from_is_err_and c.from_residual.result c.from_residual.ensures.1 in
    (rw e.1 tt, λ there. rw (e.1, e.2) (λ bad. absurd cc))

pub returns-clause-work : goal.returns-clause-work
returns-clause-work g c told_honest tree o n h = c.carry_data.ensures.work told_honest tree o n h

pub returns-in_default-clause-put : goal.returns-in_default-clause-put
returns-in_default-clause-put g c told tree o samples noted info is apart = rw c.in_default.is (BytesGoOn-nothing _ (g.met.K.Sink.takes_nothing _) _)

pub returns-in_default-clause-copied : goal.returns-in_default-clause-copied
returns-in_default-clause-copied g c told tree o samples noted =
    let w = c.args.self.now in
    let none = c.requires.none c.in_default.is in
    let all : drop c.args.noted.now.planned.count samples ≡ samples = ap (λ n. drop n samples) none in (
      (
        noted.walk,
        sym (set_same w.walks.items c.args.noted.now.track noted.walk noted.is_walk),
        sym (set_same w.nexts.items c.args.noted.now.track (slice_get (drop c.args.noted.now.planned.count samples) 0) (noted.next ∙ ap (λ (ss : List SampleAt). Some (slice_get ss 0)) (sym all))),
        noted.comes.comes,
        noted.none none ∙ ap (λ (ss : List SampleAt). mark_of noted.walk (length ss)) (sym all),
      ),
      λ there. tt,
    )

pub returns-in_default-clause-work : goal.returns-in_default-clause-work
returns-in_default-clause-work g c told tree o n h =
    let w = c.args.self.now in
    let m = c.args.movie.now in
    none_carried w.content.of_tracks.items (g.S.Store.file c.args.store.now) m tree o w.walks.items c.args.noted.now.track c.args.noted.now.planned.count n h _ (get_every (IsWalkOf m) w.walks.items c.args.noted.now.track h.walk h.is_walk c.requires.may.writer.walks.each)
    (c.requires.none c.in_default.is)

pub returns-in_default-clause-many : goal.returns-in_default-clause-many
returns-in_default-clause-many g c = none_follow _ (g.met.K.Sink.takes_nothing c.args.sink.now) (waiting c.args.self.now.carrier) c.args.noted.now.planned.count c.args.noted.now.planned.bytes (c.requires.none c.in_default.is) c.requires.may.bounds.bytes
