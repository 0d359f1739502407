use Rattle.std.proofs.Common.{◌≡◌, List, length, rules}
use Rattle.std.specs.Prelude.{IsTrue}
use Rattle.mp4_boxes.specs.format.Bytes.{AreBytes}
use Rattle.mp4_boxes.specs.format.Box.{Box}
use Rattle.mp4_head.specs.format.Tree.{MovieTree}
use Rattle.mp4_present.specs.declared.faults.FaultNumbers.{FaultNumbers}
use Rattle.mp4_present.specs.format.FaultNumbers.{Tells}
use Rattle.mp4_present.specs.words.PassedMoofs.{IsBegun}
use Rattle.mp4_present.proofs.Assembled.{begun}
use Rattle.std.proofs.lemmas.Result.{err_from_is_err_and}
use Rattle.mp4_present.proofs.FaultGaps.{some_so, so_where, not_searched}
use Rattle.mp4_present.proofs.Refusals.{not_sound}
use Rattle.mp4_present.proofs.GapsTold.{tells_plain}
use Rattle.mp4_present.proofs.LooksCounted.{looks_open, none_looks}
use Rattle.mp4_boxes.specs.words.View.{box_seen}
use Rattle.mp4_present.proofs.Opened.{IsRead, tracks_read}
use Rattle.mp4_present.proofs.OpeningBytes.{tables_open, moofs_open, none_open}
use Rattle.mp4_present.proofs.PlainLists.{found_tables}
use Rattle.mp4_present.proofs.faults.numbers_behind.Goals as goal

pub check_tables-requires : goal.check_tables-requires
check_tables-requires g c = record {
  inside = found_tables _ c.in_ok-head.head c.in_ok-head.ensures.head c.in_ok-head.ensures.inside;
  read = (c.in_ok-head.ensures.head.has.tree.tracks, tracks_read _ c.in_ok-head.head c.in_ok-head.ensures.head);
}

pub returns-in_err-head-clause-refusal : goal.returns-in_err-head-clause-refusal
returns-in_err-head-clause-refusal g c =
    let p = err_from_is_err_and c.from_residual.result c.from_residual.ensures.1 in
    rw (p.1, p.2) (not_searched (g.S.Store.is_honest c.args.store.now) _ _ c.in_err-head.field-0.0 (not_sound _ c.in_err-head.field-0.0 (c.in_err-head.ensures.exact 0).names))

pub returns-in_err-head-clause-work : goal.returns-in_err-head-clause-work
returns-in_err-head-clause-work g c = λ told. record { steps = none_open _ _; looks = none_looks _ _ }

pub returns-in_err-plain-clause-work : goal.returns-in_err-plain-clause-work
returns-in_err-plain-clause-work g c =
    let honest = g.S.Store.is_honest c.args.store.now in
    let file = g.S.Store.file c.args.store.now in
    let outline = c.args.refused.outline.now in
    let moov = c.args.moov.now in
    let b = box_seen c.view-view.result in
    let r : IsRead honest file outline moov b = record { outline = c.requires.outline; is = c.view-view.ensures; fills = c.requires.fills; bytes = c.requires.bytes } in
    λ told. record { steps = tables_open honest file outline moov b c.in_ok-head.head r c.in_ok-head.ensures.head told _ _ c.in_err-plain.ensures.within; looks = rw c.check_tables.ensures.looks (none_looks _ _) }

pub returns-in-Ok-clause-work : goal.returns-in-Ok-clause-work
returns-in-Ok-clause-work g c =
    let b = box_seen c.view-view.result in
    let r : IsRead (g.S.Store.is_honest c.args.store.now) (g.S.Store.file c.args.store.now) c.args.refused.outline.now c.args.moov.now b = record { outline = c.requires.outline; is = c.view-view.ensures; fills = c.requires.fills; bytes = c.requires.bytes } in
    let head = c.in_ok-head.head in
    let says = c.in_ok-head.ensures.head in
    let many : length c.in_ok-plain.plain.states.items ≡ length head.tracks.items = search rules in
    λ told.
    let work = (c.check_fragments.ensures.work told).0 in
    record {
      steps = moofs_open _ _ _ c.args.moov.now b head r says told _ _ _ c.in_ok-plain.ensures.within work.within;
      looks = looks_open _ _ _ c.args.moov.now b head r says told _ _ (rw (many, c.check_tables.ensures.looks) at work.looks.within);
    }

pub returns-in-Err-Fault-clause-work : goal.returns-in-Err-Fault-clause-work
returns-in-Err-Fault-clause-work g c =
    let b = box_seen c.view-view.result in
    let r : IsRead (g.S.Store.is_honest c.args.store.now) (g.S.Store.file c.args.store.now) c.args.refused.outline.now c.args.moov.now b = record { outline = c.requires.outline; is = c.view-view.ensures; fills = c.requires.fills; bytes = c.requires.bytes } in
    let head = c.in_ok-head.head in
    let says = c.in_ok-head.ensures.head in
    let many : length c.in_ok-plain.plain.states.items ≡ length head.tracks.items = search rules in
    λ told.
    let work = (c.check_fragments.ensures.work told).0 in
    record {
      steps = moofs_open _ _ _ c.args.moov.now b head r says told _ _ _ c.in_ok-plain.ensures.within work.within;
      looks = looks_open _ _ _ c.args.moov.now b head r says told _ _ (rw (many, c.check_tables.ensures.looks) at work.looks.within);
    }

pub returns-clause-work : goal.returns-clause-work
returns-clause-work g c =
    let b = box_seen c.view-view.result in
    let r : IsRead (g.S.Store.is_honest c.args.store.now) (g.S.Store.file c.args.store.now) c.args.refused.outline.now c.args.moov.now b = record { outline = c.requires.outline; is = c.view-view.ensures; fills = c.requires.fills; bytes = c.requires.bytes } in
    let head = c.in_ok-head.head in
    let says = c.in_ok-head.ensures.head in
    let many : length c.in_ok-plain.plain.states.items ≡ length head.tracks.items = search rules in
    λ told.
    let work = (c.check_fragments.ensures.work told).0 in
    record {
      steps = moofs_open _ _ _ c.args.moov.now b head r says told _ _ _ c.in_ok-plain.ensures.within work.within;
      looks = looks_open _ _ _ c.args.moov.now b head r says told _ _ (rw (many, c.check_tables.ensures.looks) at work.looks.within);
    }

pub returns-in-Err-Fault-clause-store : goal.returns-in-Err-Fault-clause-store
returns-in-Err-Fault-clause-store g c = record { honesty = c.check_fragments.ensures.store.honesty; file = c.check_fragments.ensures.store.file; reads = rw c.in-Err-Fault.field-0-is at c.in-Err-Fault.ensures.reads }

pub returns-in-Err-Fault-clause-told : goal.returns-in-Err-Fault-clause-told
returns-in-Err-Fault-clause-told g c =
    let honest = g.S.Store.is_honest c.args.store.now in
    let file = g.S.Store.file c.args.store.now in
    let outline = c.args.refused.outline.now in
    let moov = c.args.moov.now in
    let b = box_seen c.view-view.result in
    let r : IsRead honest file outline moov b = record { outline = c.requires.outline; is = c.view-view.ensures; fills = c.requires.fills; bytes = c.requires.bytes } in
    let bytes : AreBytes moov = λ k. search rules in
    let says = c.in_ok-head.ensures.head in
    let head = c.in_ok-head.head in
    let plain = c.in_ok-plain.plain in
    let place = c.args.refused.fault.now.offset in
    so_where (IsTrue honest) (Tells file place) c.check_fragments.new.told (λ told.
    let behind = rw c.in-Err-Fault.field-0-is at (c.in-Err-Fault.ensures.told told) in
    some_so (λ (n : FaultNumbers). (m : MovieTree) (boxes : List Box) → IsBegun file m boxes plain.states.items plain.room → Tells file c.in-Err-Fault.found.offset n) (Tells file place) c.check_fragments.new.told
    (λ n f. rw c.if-found-fault.true at (f _ _ (begun honest file outline moov b head plain r says bytes _ c.len-2.ensures c.in_ok-plain.ensures.says told))) behind)

pub returns-in-Some-clause-told : goal.returns-in-Some-clause-told
returns-in-Some-clause-told g c = λ told. tells_plain (g.S.Store.file c.args.store.now) _ c.args.refused.fault.now.offset c.in-Some.told c.len.ensures c.in-Some.ensures
