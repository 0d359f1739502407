use Rattle.std.proofs.Common.{◌≡◌, rules, refl, length}
use Rattle.mp4_boxes.specs.words.View.{box_seen}
use Rattle.mp4_present.specs.declared.opening.FoundTracks.{FoundTracks}
use Rattle.mp4_boxes.specs.format.Bytes.{AreBytes}
use Rattle.mp4_present.proofs.Assembled.{begun, have, opened_as, denoted, measure}
use Rattle.std.proofs.lemmas.Result.{err_from_is_err_and}
use Rattle.mp4_present.proofs.Opened.{IsRead, its_movie, tracks_read}
use Rattle.mp4_present.proofs.FaultGaps.{not_searched}
use Rattle.mp4_present.proofs.Refusals.{not_sound}
use Rattle.mp4_present.proofs.LooksCounted.{looks_counted, looks_open, none_looks}
use Rattle.mp4_present.proofs.FileChecked.{none_checked}
use Rattle.mp4_present.proofs.OpeningBytes.{tables_open, moofs_open}
use Rattle.mp4_present.proofs.OpeningSteps.{all_taken, tables_counted, moofs_counted}
use Rattle.mp4_present.proofs.PlainLists.{found_tables}
use Rattle.mp4_present.proofs.TablesWork.{if_no_fault, handed_on, none_taken}
use Rattle.std.proofs.Common.{sym}
use Rattle.mp4_present.specs.words.MoofsJudged.{PassesMoofs}
use Rattle.mp4_present.proofs.FileJudged.{head_refused, tables_refused, moofs_refused, limit_refused, judged_as}
use Rattle.mp4_present.proofs.opening.find.Goals as goal

pub check_tables-requires : goal.check_tables-requires
check_tables-requires g c = record {
  inside = found_tables _ c.in_ok-head.head c.in_ok-head.ensures.head c.in_ok-head.ensures.inside;
  read = (c.in_ok-head.ensures.head.has.tree.tracks, tracks_read _ c.in_ok-head.head c.in_ok-head.ensures.head);
}

pub returns-in_err-head-clause-refusal : goal.returns-in_err-head-clause-refusal
returns-in_err-head-clause-refusal g c =
    let p = err_from_is_err_and c.from_residual.result c.from_residual.ensures.1 in
    rw (p.1, p.2) (not_searched (g.S.Store.is_honest c.args.store.now) _ _ c.in_err-head.field-0.0 (not_sound _ c.in_err-head.field-0.0 (c.in_err-head.ensures.exact 0).names))

pub returns-in_err-plain-clause-refusal : goal.returns-in_err-plain-clause-refusal
returns-in_err-plain-clause-refusal g c =
    let p = err_from_is_err_and c.from_residual-in_err-plain.result c.from_residual-in_err-plain.ensures.1 in
    rw (p.1, p.2) (not_searched (g.S.Store.is_honest c.args.store.now) _ _ c.in_err-plain.field-0.0 c.in_err-plain.ensures.refusal)

pub returns-clause-movie : goal.returns-clause-movie
returns-clause-movie g c =
    let honest = g.S.Store.is_honest c.args.store.now in
    let file = g.S.Store.file c.args.store.now in
    let b = box_seen c.view-view.result in
    let r : IsRead honest file c.args.outline.now c.args.moov.now b = record { outline = c.requires.outline.0; is = c.view-view.ensures; fills = c.requires.moov.0; bytes = c.requires.moov.1 } in
    let bytes : AreBytes c.args.moov.now = λ k. search rules in
    let says = c.in_ok-head.ensures.head in
    let outline = c.args.outline.now in
    let moov = c.args.moov.now in
    let head = c.in_ok-head.head in
    let plain = c.in_ok-plain.plain in
    let states = c.in_ok-passed.passed.states in
    λ told.
    let own = have honest file outline moov b head plain r says bytes _ c.len.ensures c.in_ok-plain.ensures.says told in
    let begin = begun honest file outline moov b head plain r says bytes _ c.len.ensures c.in_ok-plain.ensures.says told in
    let kept = c.in_ok-passed.ensures.own told _ _ begin in
    let passed = kept.0 in
    let within = rw c.as_slice.ensures.value at c.in_ok-mehd.ensures.within in
    let w = within _ (measure honest file outline moov b head plain r says told own begin states.items passed) in
    let found : FoundTracks = record { plain = plain; tracks = c.in_ok-tracks.tracks; own = c.in_ok-passed.passed.own; mehd = c.in_ok-mehd.mehd } in
    (_, opened_as honest file outline moov b head plain r says told own begin states.items passed found (length file) refl w.0 w.1 w.2 (rw c.as_slice-2.ensures.value at c.in_ok-tracks.ensures.infos.infos) kept.1 refl)

pub returns-clause-ids : goal.returns-clause-ids
returns-clause-ids g c =
    let r : IsRead (g.S.Store.is_honest c.args.store.now) (g.S.Store.file c.args.store.now) c.args.outline.now c.args.moov.now _ = record { outline = c.requires.outline.0; is = c.view-view.ensures; fills = c.requires.moov.0; bytes = c.requires.moov.1 } in
    its_movie _ _ c.args.outline.now c.args.moov.now _ c.in_ok-head.head _ r c.in_ok-head.ensures.head c.in_ok-tracks.ensures.infos.ids

pub returns-in_err-head-clause-work : goal.returns-in_err-head-clause-work
returns-in_err-head-clause-work g c = λ told. none_checked _ _ _ _

pub returns-in_err-plain-clause-work : goal.returns-in_err-plain-clause-work
returns-in_err-plain-clause-work g c =
    let p = err_from_is_err_and c.from_residual-in_err-plain.result c.from_residual-in_err-plain.ensures.1 in
    let honest = g.S.Store.is_honest c.args.store.now in
    let file = g.S.Store.file c.args.store.now in
    let outline = c.args.outline.now in
    let moov = c.args.moov.now in
    let b = box_seen c.view-view.result in
    let r : IsRead honest file outline moov b = record { outline = c.requires.outline.0; is = c.view-view.ensures; fills = c.requires.moov.0; bytes = c.requires.moov.1 } in
    λ told. record {
      work = rw (p.1, p.2) (λ tree is. handed_on FoundTracks _ _ _ (tables_counted honest file outline moov b c.in_ok-head.head r c.in_ok-head.ensures.head told tree is _ _) c.in_err-plain.ensures.work);
      within = tables_open honest file outline moov b c.in_ok-head.head r c.in_ok-head.ensures.head told _ _ c.in_err-plain.ensures.within;
      looks = rw c.check_tables.ensures.looks (record { said = λ tree is. if_no_fault _ _ (none_taken _ _); within = none_looks _ _ });
    }

pub returns-in_err-passed-clause-work : goal.returns-in_err-passed-clause-work
returns-in_err-passed-clause-work g c =
    let p = err_from_is_err_and c.from_residual-in_err-passed.result c.from_residual-in_err-passed.ensures.1 in
    let honest = g.S.Store.is_honest c.args.store.now in
    let file = g.S.Store.file c.args.store.now in
    let outline = c.args.outline.now in
    let moov = c.args.moov.now in
    let b = box_seen c.view-view.result in
    let r : IsRead honest file outline moov b = record { outline = c.requires.outline.0; is = c.view-view.ensures; fills = c.requires.moov.0; bytes = c.requires.moov.1 } in
    let head = c.in_ok-head.head in
    let says = c.in_ok-head.ensures.head in
    let many : length c.in_ok-plain.plain.states.items ≡ length head.tracks.items = search rules in
    λ told. record {
      work = rw (p.1, p.2) (λ tree is. handed_on FoundTracks _ _ _ (moofs_counted honest file outline moov b c.in_ok-head.head r c.in_ok-head.ensures.head told tree is _ _ _ c.in_ok-plain.ensures.work) (c.in_err-passed.ensures.work told).0.work);
      within = moofs_open honest file outline moov b head r says told _ _ _ c.in_ok-plain.ensures.within (c.in_err-passed.ensures.work told).0.within;
      looks = rw (p.1, p.2) (let l = rw c.check_tables.ensures.looks at (c.in_err-passed.ensures.work told).0.looks in
          record {
            said = λ tree is. handed_on FoundTracks _ _ _ (looks_counted honest file outline moov b head r says told tree is _ _ _) l.said;
            within = looks_open honest file outline moov b head r says told _ _ (rw many at l.within);
          });
    }

pub returns-in_err-mehd-clause-work : goal.returns-in_err-mehd-clause-work
returns-in_err-mehd-clause-work g c =
    let honest = g.S.Store.is_honest c.args.store.now in
    let file = g.S.Store.file c.args.store.now in
    let outline = c.args.outline.now in
    let moov = c.args.moov.now in
    let b = box_seen c.view-view.result in
    let r : IsRead honest file outline moov b = record { outline = c.requires.outline.0; is = c.view-view.ensures; fills = c.requires.moov.0; bytes = c.requires.moov.1 } in
    let head = c.in_ok-head.head in
    let says = c.in_ok-head.ensures.head in
    let many : length c.in_ok-plain.plain.states.items ≡ length head.tracks.items = search rules in
    λ told. record {
      work = λ tree is. if_no_fault _ _ (moofs_counted honest file outline moov b c.in_ok-head.head r c.in_ok-head.ensures.head told tree is _ _ _ c.in_ok-plain.ensures.work (c.in_ok-passed.ensures.work told).0.work);
      within = moofs_open honest file outline moov b head r says told _ _ _ c.in_ok-plain.ensures.within (c.in_ok-passed.ensures.work told).0.within;
      looks = let l = rw c.check_tables.ensures.looks at (c.in_ok-passed.ensures.work told).0.looks in
          record {
            said = λ tree is. if_no_fault _ _ (looks_counted honest file outline moov b head r says told tree is _ _ _ l.said);
            within = looks_open honest file outline moov b head r says told _ _ (rw many at l.within);
          };
    }

pub returns-in_err-tracks-clause-work : goal.returns-in_err-tracks-clause-work
returns-in_err-tracks-clause-work g c =
    let honest = g.S.Store.is_honest c.args.store.now in
    let file = g.S.Store.file c.args.store.now in
    let outline = c.args.outline.now in
    let moov = c.args.moov.now in
    let b = box_seen c.view-view.result in
    let r : IsRead honest file outline moov b = record { outline = c.requires.outline.0; is = c.view-view.ensures; fills = c.requires.moov.0; bytes = c.requires.moov.1 } in
    let head = c.in_ok-head.head in
    let says = c.in_ok-head.ensures.head in
    let many : length c.in_ok-plain.plain.states.items ≡ length head.tracks.items = search rules in
    λ told. record {
      work = λ tree is. if_no_fault _ _ (moofs_counted honest file outline moov b c.in_ok-head.head r c.in_ok-head.ensures.head told tree is _ _ _ c.in_ok-plain.ensures.work (c.in_ok-passed.ensures.work told).0.work);
      within = moofs_open honest file outline moov b head r says told _ _ _ c.in_ok-plain.ensures.within (c.in_ok-passed.ensures.work told).0.within;
      looks = let l = rw c.check_tables.ensures.looks at (c.in_ok-passed.ensures.work told).0.looks in
          record {
            said = λ tree is. if_no_fault _ _ (looks_counted honest file outline moov b head r says told tree is _ _ _ l.said);
            within = looks_open honest file outline moov b head r says told _ _ (rw many at l.within);
          };
    }

pub returns-clause-work : goal.returns-clause-work
returns-clause-work g c =
    let honest = g.S.Store.is_honest c.args.store.now in
    let file = g.S.Store.file c.args.store.now in
    let outline = c.args.outline.now in
    let moov = c.args.moov.now in
    let b = box_seen c.view-view.result in
    let r : IsRead honest file outline moov b = record { outline = c.requires.outline.0; is = c.view-view.ensures; fills = c.requires.moov.0; bytes = c.requires.moov.1 } in
    let head = c.in_ok-head.head in
    let says = c.in_ok-head.ensures.head in
    let many : length c.in_ok-plain.plain.states.items ≡ length head.tracks.items = search rules in
    λ told. record {
      work = λ tree is. moofs_counted honest file outline moov b c.in_ok-head.head r c.in_ok-head.ensures.head told tree is _ _ _ c.in_ok-plain.ensures.work (c.in_ok-passed.ensures.work told).0.work;
      within = moofs_open honest file outline moov b head r says told _ _ _ c.in_ok-plain.ensures.within (c.in_ok-passed.ensures.work told).0.within;
      looks = let l = rw c.check_tables.ensures.looks at (c.in_ok-passed.ensures.work told).0.looks in
          record {
            said = λ tree is. looks_counted honest file outline moov b head r says told tree is _ _ _ l.said;
            within = looks_open honest file outline moov b head r says told _ _ (rw many at l.within);
          };
    }

pub returns-clause-least : goal.returns-clause-least
returns-clause-least g c =
    let honest = g.S.Store.is_honest c.args.store.now in
    let file = g.S.Store.file c.args.store.now in
    let b = box_seen c.view-view.result in
    let r : IsRead honest file c.args.outline.now c.args.moov.now b = record { outline = c.requires.outline.0; is = c.view-view.ensures; fills = c.requires.moov.0; bytes = c.requires.moov.1 } in
    λ told tree is. all_taken honest file c.args.outline.now c.args.moov.now b c.in_ok-head.head r c.in_ok-head.ensures.head told tree is _ _ _ c.in_ok-plain.ensures.least (c.in_ok-passed.ensures.work told).1

pub returns-in_err-head-clause-exact : goal.returns-in_err-head-clause-exact
returns-in_err-head-clause-exact g c =
    let p = err_from_is_err_and c.from_residual.result c.from_residual.ensures.1 in
    let honest = g.S.Store.is_honest c.args.store.now in
    let file = g.S.Store.file c.args.store.now in
    let outline = c.args.outline.now in
    let moov = c.args.moov.now in
    let b = box_seen c.view-view.result in
    let r : IsRead honest file outline moov b = record { outline = c.requires.outline.0; is = c.view-view.ensures; fills = c.requires.moov.0; bytes = c.requires.moov.1 } in
    rw (p.1, p.2) (λ told known e. record { names = head_refused honest file outline moov b r told known e c.in_err-head.field-0.0 (c.in_err-head.ensures.exact 0).names })

pub returns-in_err-plain-clause-exact : goal.returns-in_err-plain-clause-exact
returns-in_err-plain-clause-exact g c =
    let p = err_from_is_err_and c.from_residual-in_err-plain.result c.from_residual-in_err-plain.ensures.1 in
    let honest = g.S.Store.is_honest c.args.store.now in
    let file = g.S.Store.file c.args.store.now in
    let outline = c.args.outline.now in
    let moov = c.args.moov.now in
    let b = box_seen c.view-view.result in
    let r : IsRead honest file outline moov b = record { outline = c.requires.outline.0; is = c.view-view.ensures; fills = c.requires.moov.0; bytes = c.requires.moov.1 } in
    let head = c.in_ok-head.head in
    let says = c.in_ok-head.ensures.head in
    let sound = (c.in_ok-head.ensures.exact 0).names in
    let named = (c.in_err-plain.ensures.exact file (sym c.len.ensures) says.has.tree.tracks (tracks_read b head says)).names in
    rw (p.1, p.2) (λ told known e. record { names = tables_refused honest file outline moov b r told known e head says sound c.in_err-plain.field-0.0 named })

pub returns-in_err-passed-clause-exact : goal.returns-in_err-passed-clause-exact
returns-in_err-passed-clause-exact g c =
    let p = err_from_is_err_and c.from_residual-in_err-passed.result c.from_residual-in_err-passed.ensures.1 in
    let honest = g.S.Store.is_honest c.args.store.now in
    let file = g.S.Store.file c.args.store.now in
    let outline = c.args.outline.now in
    let moov = c.args.moov.now in
    let b = box_seen c.view-view.result in
    let r : IsRead honest file outline moov b = record { outline = c.requires.outline.0; is = c.view-view.ensures; fills = c.requires.moov.0; bytes = c.requires.moov.1 } in
    let bytes : AreBytes c.args.moov.now = λ k. search rules in
    let head = c.in_ok-head.head in
    let says = c.in_ok-head.ensures.head in
    let sound = (c.in_ok-head.ensures.exact 0).names in
    let plain = c.in_ok-plain.plain in
    let tables = (c.in_ok-plain.ensures.exact file (sym c.len.ensures) says.has.tree.tracks (tracks_read b head says)).names in
    rw (p.1, p.2) (λ told known e.
    let own = have honest file outline moov b head plain r says bytes _ c.len.ensures c.in_ok-plain.ensures.says told in
    let begin = begun honest file outline moov b head plain r says bytes _ c.len.ensures c.in_ok-plain.ensures.says told in
    record { names = moofs_refused honest file outline moov b r told known e head says sound tables plain.room own.room c.in_err-passed.field-0.0 ((c.in_err-passed.ensures.exact told).names says.has.tree _ begin) })

pub returns-in_err-mehd-clause-exact : goal.returns-in_err-mehd-clause-exact
returns-in_err-mehd-clause-exact g c =
    let q = err_from_is_err_and c.from_residual-in_err-mehd.result c.from_residual-in_err-mehd.ensures.1 in
    let honest = g.S.Store.is_honest c.args.store.now in
    let file = g.S.Store.file c.args.store.now in
    let outline = c.args.outline.now in
    let moov = c.args.moov.now in
    let b = box_seen c.view-view.result in
    let r : IsRead honest file outline moov b = record { outline = c.requires.outline.0; is = c.view-view.ensures; fills = c.requires.moov.0; bytes = c.requires.moov.1 } in
    let bytes : AreBytes c.args.moov.now = λ k. search rules in
    let head = c.in_ok-head.head in
    let says = c.in_ok-head.ensures.head in
    let sound = (c.in_ok-head.ensures.exact 0).names in
    let plain = c.in_ok-plain.plain in
    let tables = (c.in_ok-plain.ensures.exact file (sym c.len.ensures) says.has.tree.tracks (tracks_read b head says)).names in
    let states = c.in_ok-passed.passed.states in
    let fails = rw c.as_slice.ensures.value at c.in_err-mehd.ensures.fault in
    rw (q.1, q.2) (λ told known e.
    let own = have honest file outline moov b head plain r says bytes _ c.len.ensures c.in_ok-plain.ensures.says told in
    let begin = begun honest file outline moov b head plain r says bytes _ c.len.ensures c.in_ok-plain.ensures.says told in
    let passes : PassesMoofs file says.has.tree (r.outline told).0 plain.room states.items = (c.in_ok-passed.ensures.exact told).names says.has.tree (r.outline told).0 begin in
    record {
      names = limit_refused honest file outline moov b r told known e head says sound tables plain.room own.room states.items passes c.in_err-mehd.field-0.0
          (fails _ (measure honest file outline moov b head plain r says told own begin states.items passes.passed));
    })

pub returns-clause-exact : goal.returns-clause-exact
returns-clause-exact g c =
    let honest = g.S.Store.is_honest c.args.store.now in
    let file = g.S.Store.file c.args.store.now in
    let outline = c.args.outline.now in
    let moov = c.args.moov.now in
    let b = box_seen c.view-view.result in
    let r : IsRead honest file outline moov b = record { outline = c.requires.outline.0; is = c.view-view.ensures; fills = c.requires.moov.0; bytes = c.requires.moov.1 } in
    let bytes : AreBytes c.args.moov.now = λ k. search rules in
    let head = c.in_ok-head.head in
    let says = c.in_ok-head.ensures.head in
    let sound = (c.in_ok-head.ensures.exact 0).names in
    let plain = c.in_ok-plain.plain in
    let tables = (c.in_ok-plain.ensures.exact file (sym c.len.ensures) says.has.tree.tracks (tracks_read b head says)).names in
    let states = c.in_ok-passed.passed.states in
    let within = rw c.as_slice.ensures.value at c.in_ok-mehd.ensures.within in
    λ told known e.
    let own = have honest file outline moov b head plain r says bytes _ c.len.ensures c.in_ok-plain.ensures.says told in
    let begin = begun honest file outline moov b head plain r says bytes _ c.len.ensures c.in_ok-plain.ensures.says told in
    let passes : PassesMoofs file says.has.tree (r.outline told).0 plain.room states.items = (c.in_ok-passed.ensures.exact told).names says.has.tree (r.outline told).0 begin in
    let w = within _ (measure honest file outline moov b head plain r says told own begin states.items passes.passed) in
    record { names = (_, judged_as honest file outline moov b r told known e head says sound tables plain.room own.room states.items passes w.0 w.2, denoted honest file outline moov b head plain r says told own begin states.items passes.passed w.0 w.2) }

pub returns-in_err-tracks-clause-exact : goal.returns-in_err-tracks-clause-exact
returns-in_err-tracks-clause-exact g c =
    let p = err_from_is_err_and c.from_residual-in_err-tracks.result c.from_residual-in_err-tracks.ensures.1 in
    rw (p.1, p.2, c.in_err-tracks.ensures.refusal) (λ told known e. record { names = tt })
