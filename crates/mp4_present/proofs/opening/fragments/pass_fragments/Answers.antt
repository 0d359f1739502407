use Rattle.std.proofs.Common.{◌≡◌, ◌-◌, ◌++◌, rules, min, length, drop, map, refl, sym, subst, ◌∙◌, arith}
use Rattle.std.specs.Prelude.{IsTrue, codes}
use Rattle.mp4_boxes.specs.format.Children.{of_kind}
use Rattle.std.proofs.lemmas.Result.{err_from_is_err_and}
use Rattle.mp4_present.proofs.FragmentPass.{left_first, left_next, stands_behind}
use Rattle.mp4_present.proofs.NextMoof.{begins_next, come_first, coming, next_in, none_comes, place_at, read_from_header}
use Rattle.mp4_present.specs.words.OwnTrafs.{own_seen}
use Rattle.mp4_present.proofs.TrafsNoted.{owns_first, owns_next, all_noted}
use Rattle.mp4_present.proofs.FaultGaps.{not_read, unread_faultless}
use Rattle.mp4_present.specs.words.Passing.{IsNextMoof}
use Rattle.mp4_present.proofs.GapsTold.{tells_refused, untold}
use Rattle.mp4_present.proofs.MoofsPassed.{read_is, stands_next, under_way_first, all_passed, next_passed}
use Rattle.mp4_present.proofs.MoofsJudged.{judged_first, judged_next, judged_refused, all_judged, unread_judged}
use Rattle.mp4_boxes.specs.words.View.{box_seen}
use Rattle.mp4_present.proofs.ChecksCounted.{steps_first, next_checked, checks_all, checks_done}
use Rattle.mp4_present.proofs.NotedTracks.{told_both}
use Rattle.std.proofs.lemmas.List.{length-map}
use Rattle.mp4_frag.specs.words.Judged.{tree_of}
use Rattle.mp4_frag.specs.words.OwnTrafs.{noted_in}
use Rattle.mp4_present.proofs.WalkWork.{checked_all}
use Rattle.mp4_present.proofs.LooksCounted.{looks_first, looks_done, next_looked, none_looked, all_looked, next_looks, refused_looks}
use Rattle.mp4_present.proofs.MoofBytes.{none_fit, next_fits, all_fit, refused_fits}
use Rattle.mp4_present.proofs.TablesWork.{if_no_fault}
use Rattle.mp4_present.proofs.opening.fragments.pass_fragments.Goals as goal

pub loop-at-init : goal.loop-at-init
loop-at-init g c =
    let file = g.S.Store.file c.args.store.now in
    let outline = c.args.start.outline.now in (
      0,
      record {
        honesty = refl;
        file = refl;
        reads = refl;
        states = search rules;
        few = search rules;
        longest = search rules;
        header = search rules;
        begin = rw c.deref-at-items.ensures.value c.requires.outline.1;
        to_come = λ told. let o = c.requires.outline.0 told in rw c.deref-at-items.ensures.value (come_first file o.0 outline.moofs.items o.1 o.3.moofs);
        left = λ told. let o = c.requires.outline.0 told in left_first file o.0 outline o.1 o.3;
        so = λ told movie boxes b. let o = c.requires.outline.0 told in under_way_first file movie boxes o.0 outline c.args.states.now c.args.start.room o.1 o.3 b;
        first = λ told movie boxes b. let o = c.requires.outline.0 told in judged_first file movie boxes o.0 outline c.args.states.now c.args.start.room o.1 o.3 b;
        each = c.requires.room.4;
        told = c.requires.tracks.1;
        silent = c.requires.tracks.2;
        ids = refl;
        places = c.requires.tracks.0;
        own = λ told movie boxes b own. let o = c.requires.outline.0 told in owns_first file movie boxes o.0 outline c.args.states.now c.args.start.room (map own_seen c.args.tracks.now.own.items) o.1 o.3 b own;
        work = λ told. steps_first file _;
        looked = λ told. looks_first file _ _;
        looks = λ told. none_looked _ _ _ _;
        fit = λ told. none_fit _ _ _ _ c.requires.room.0;
      },
    )

pub returns-in_err-top-clause-refusal : goal.returns-in_err-top-clause-refusal
returns-in_err-top-clause-refusal g c =
    let p = err_from_is_err_and c.from_residual.result c.from_residual.ensures.1 in
    let at = c.loop-at.invariant.0 in
    let i = c.loop-at.invariant.1 in
    let file = g.S.Store.file c.args.store.now in
    let items = c.deref-at-items.result.now in
    let k = c.loop-at.at-index in
    rw (p.1, p.2) (not_read (g.S.Store.is_honest c.args.store.now) file (place_at items k) _ _ _ c.in_err-top.field-0.0
    (λ told. let b = begins_next items k c.loop-at-test.true file at _ (i.to_come told) (i.left told) in
    let most = i.longest in
    let short = b.2 in
    (b.0, b.1, omega (arith, most, short)))
    (rw (i.honesty, i.file, i.reads) at c.in_err-top.ensures.refusal))

pub loop-at-preserved : goal.loop-at-preserved
loop-at-preserved g c =
    let at = c.loop-at.invariant.0 in
    let i = c.loop-at.invariant.1 in
    let file = g.S.Store.file c.args.store.now in
    let items = c.deref-at-items.result.now in
    let k = c.loop-at.at-index in
    let top = c.in_ok-top.top in
    let whole = rw i.file at c.in_ok-top.ensures.whole.0 in
    let coming = λ (told : IsTrue (g.S.Store.is_honest c.args.store.now)). coming items k c.loop-at-test.true file at _ top c.in_ok-top.ensures.place (i.to_come told) (i.left told) i.begin ((rw (i.honesty, i.file) at c.in_ok-top.ensures.header) told) whole in
    let bytes = drop top.header.header c.read_top_box.new.room in
    let len = top.header.end - top.offset - top.header.header in
    let read = λ (told : IsTrue (g.S.Store.is_honest c.args.store.now)). read_from_header file top (box_seen c.view_in-moof.result) c.read_top_box.new.room c.in_ok-top.ensures.whole.1 c.in_ok-top.ensures.room ((rw (i.honesty, i.file) at c.in_ok-top.ensures.bytes) told) c.view_in-moof.ensures in
    let many : length c.loop-at.states ≡ length c.args.states.now = search rules in
    let same = told_both c.loop-at.tracks c.check_moof_by.new.tracking (λ owns now. length now ≡ length owns) i.told c.if-tracks.false c.in_ok-check_moof_by.ensures.own.each in
    let each = sym (length-map c.check_moof_by.new.tracking.own.items own_seen) ∙ same ∙ length-map c.loop-at.tracks.own.items own_seen ∙ i.each in (
      top.header.end,
      record {
        honesty = search rules;
        file = search rules;
        reads = search rules;
        states = search rules;
        few = search rules;
        longest = search rules;
        header = search rules;
        begin = (next_in items k c.loop-at-test.true (length file) i.begin).1;
        to_come = λ told. (coming told).1;
        left = λ told. let l = i.left told in (left_next file _ _ top l whole ((coming told).0 l.boxes l.are_from)).left;
        so = λ told movie boxes b.
            let u = i.so told movie boxes b in
            let r = read told in
            next_passed file movie boxes at c.args.start.outline.now.longest c.args.states.now c.loop-at.states c.args.start.room c.loop-at.room b u top whole ((coming told).0 u.left.boxes u.left.are_from)
            (box_seen c.view_in-moof.result) bytes len c.len-file_len.result r c.len-file_len.ensures
            c.check_moof_by.new.tracks c.check_moof_by.new.room c.in_ok-check_moof_by.ensures.sound.0 c.in_ok-check_moof_by.ensures.sound.1;
        first = λ told movie boxes b.
            let u = i.first told movie boxes b in
            let r = read told in
            judged_next file movie boxes at c.args.start.outline.now.longest c.args.states.now c.loop-at.states c.args.start.room c.loop-at.room b u top whole ((coming told).0 u.0.left.boxes u.0.left.are_from)
            (box_seen c.view_in-moof.result) bytes len c.len-file_len.result r c.len-file_len.ensures
            c.check_moof_by.new.tracks c.check_moof_by.new.room c.in_ok-check_moof_by.ensures.sound.0 c.in_ok-check_moof_by.ensures.sound.1 c.in_ok-check_moof_by.ensures.exact.names;
        each = each;
        told = c.if-tracks.false;
        silent = c.in_ok-check_moof_by.ensures.told i.silent;
        ids = c.in_ok-check_moof_by.ensures.accepted.1.kept.ids ∙ i.ids;
        places = rw c.in_ok-check_moof_by.ensures.accepted.1.kept.ids (c.check_moof_by.ensures.knows _ i.places);
        own = λ told movie boxes b own.
            let u = i.own told movie boxes b own in
            let r = read told in
            owns_next file movie boxes at c.args.start.outline.now.longest c.args.states.now c.loop-at.states c.args.start.room c.loop-at.room (map own_seen c.loop-at.tracks.own.items) b u top whole ((coming told).0 u.0.left.boxes u.0.left.are_from)
            (box_seen c.view_in-moof.result) bytes len c.len-file_len.result r c.len-file_len.ensures
            c.check_moof_by.new.tracks c.check_moof_by.new.room (map own_seen c.check_moof_by.new.tracking.own.items) c.in_ok-check_moof_by.ensures.sound.0 c.in_ok-check_moof_by.ensures.sound.1
            (λ trexes defaults apart. told_both c.loop-at.tracks c.check_moof_by.new.tracking (λ owns now. length owns ≡ length c.loop-at.states → now ≡ noted_in trexes (tree_of (box_seen c.view_in-moof.result)) c.loop-at.states owns) i.told c.if-tracks.false
            (c.in_ok-check_moof_by.ensures.own.all trexes defaults apart) (length-map c.loop-at.tracks.own.items own_seen ∙ i.each ∙ sym many));
        work = λ told all h.
            let u = i.work told all h in
            let r = read told in
            let e = c.in_ok-check_moof_by.ensures in
            next_checked file at top all whole u.0 u.1.0 ((coming told).0 u.0 u.1.0) (box_seen c.view_in-moof.result) bytes len r
            _ _ _ (checked_all _ _ _ _ _ _ _ (box_seen c.view_in-moof.result) refl e.sound.1 e.work.cost) u.1.1;
        looked = λ told all h.
            let u = i.looked told all h in
            let r = read told in
            next_looked file at top all whole u.0 u.1.0 ((coming told).0 u.0 u.1.0) (box_seen c.view_in-moof.result) bytes len r
            (min 1 (length c.args.states.now)) _ _ _ (rw many at c.in_ok-check_moof_by.ensures.looks.each) u.1.1;
        looks = λ told.
            let r = read told in
            next_looks file at top whole (let l = i.left told in stands_behind file at top l.boxes ((coming told).0 l.boxes l.are_from)) (box_seen c.view_in-moof.result) bytes len r
            (min 1 (length c.args.states.now)) _ _ _ (rw many at c.check_moof_by.ensures.looks.most) (i.looks told);
        fit = λ told.
            let r = read told in
            next_fits file at top whole (let l = i.left told in stands_behind file at top l.boxes ((coming told).0 l.boxes l.are_from)) (box_seen c.view_in-moof.result) bytes len r _ _ _ _ _ c.in_ok-check_moof_by.ensures.work.within (i.fit told);
      },
    )

pub returns-clause-passed : goal.returns-clause-passed
returns-clause-passed g c =
    let at = c.loop-at.invariant.0 in
    let i = c.loop-at.invariant.1 in
    let file = g.S.Store.file c.args.store.now in (
      i.each,
      λ told. (
        (λ movie boxes b.
            let u = i.so told movie boxes b in
            all_passed file movie boxes at c.args.start.outline.now.longest c.loop-at.states c.loop-at.room u (none_comes file at c.deref-at-items.result.now c.loop-at.at-index c.loop-at-test.false (i.to_come told) u.left.boxes u.left.are_from)),
        (λ own movie boxes b.
            let u = i.own told movie boxes b own in
            all_noted file movie boxes at c.args.start.outline.now.longest c.loop-at.states c.loop-at.room (map own_seen c.loop-at.tracks.own.items) u (none_comes file at c.deref-at-items.result.now c.loop-at.at-index c.loop-at-test.false (i.to_come told) u.0.left.boxes u.0.left.are_from)),
      ),
    )

pub returns-clause-work : goal.returns-clause-work
returns-clause-work g c = λ told.
    let at = c.loop-at.invariant.0 in
    let i = c.loop-at.invariant.1 in (
      record {
        work = checks_done _ _ _ _ (i.work told);
        within = all_fit _ _ _ _ _ (i.fit told);
        looks = record { said = looks_done _ _ _ _ _ (i.looked told); within = all_looked _ _ _ _ _ (i.looks told) };
      },
      checks_all _ at _ _ (i.work told) (none_comes (g.S.Store.file c.args.store.now) at c.deref-at-items.result.now c.loop-at.at-index c.loop-at-test.false (i.to_come told)),
    )

pub returns-in_err-top-clause-work : goal.returns-in_err-top-clause-work
returns-in_err-top-clause-work g c =
    let p = err_from_is_err_and c.from_residual.result c.from_residual.ensures.1 in
    λ told. (
      record {
        work = if_no_fault _ _ (checks_done _ _ _ _ (c.loop-at.invariant.1.work told));
        within = all_fit _ _ _ _ _ (c.loop-at.invariant.1.fit told);
        looks = record { said = if_no_fault _ _ (looks_done _ _ _ _ _ (c.loop-at.invariant.1.looked told)); within = all_looked _ _ _ _ _ (c.loop-at.invariant.1.looks told) };
      },
      rw p.1 tt,
    )

pub returns-in_err-check_moof_by-clause-work : goal.returns-in_err-check_moof_by-clause-work
returns-in_err-check_moof_by-clause-work g c =
    let p = err_from_is_err_and c.from_residual-in_err-check_moof_by.result c.from_residual-in_err-check_moof_by.ensures.1 in
    let at = c.loop-at.invariant.0 in
    let i = c.loop-at.invariant.1 in
    let file = g.S.Store.file c.args.store.now in
    let items = c.deref-at-items.result.now in
    let k = c.loop-at.at-index in
    let top = c.in_ok-top.top in
    let whole = rw i.file at c.in_ok-top.ensures.whole.0 in
    let coming = λ (told : IsTrue (g.S.Store.is_honest c.args.store.now)). coming items k c.loop-at-test.true file at _ top c.in_ok-top.ensures.place (i.to_come told) (i.left told) i.begin ((rw (i.honesty, i.file) at c.in_ok-top.ensures.header) told) whole in
    let bytes = drop top.header.header c.read_top_box.new.room in
    let len = top.header.end - top.offset - top.header.header in
    let read = λ (told : IsTrue (g.S.Store.is_honest c.args.store.now)). read_from_header file top (box_seen c.view_in-moof.result) c.read_top_box.new.room c.in_ok-top.ensures.whole.1 c.in_ok-top.ensures.room ((rw (i.honesty, i.file) at c.in_ok-top.ensures.bytes) told) c.view_in-moof.ensures in
    let many : length c.loop-at.states ≡ length c.args.states.now = search rules in
    let moof = box_seen c.view_in-moof.result in
    rw (p.1, p.2) (λ told.
    let r = read told in
    let stands = let l = i.left told in stands_behind file at top l.boxes ((coming told).0 l.boxes l.are_from) in (
      record {
        work = tt;
        within = refused_fits file at top whole stands moof bytes len r _ _ _ _ c.check_moof_by.ensures.work.most (i.fit told);
        looks = record {
          said = tt;
          within = refused_looks file at top whole stands moof bytes len r (min 1 (length c.args.states.now)) _ _ _ (rw many at c.check_moof_by.ensures.looks.most) (i.looks told);
        };
      },
      tt,
    ))

pub returns-then-tracks-clause-work : goal.returns-then-tracks-clause-work
returns-then-tracks-clause-work g c =
    let at = c.loop-at.invariant.0 in
    let i = c.loop-at.invariant.1 in
    let file = g.S.Store.file c.args.store.now in
    let items = c.deref-at-items.result.now in
    let k = c.loop-at.at-index in
    let top = c.in_ok-top.top in
    let whole = rw i.file at c.in_ok-top.ensures.whole.0 in
    let coming = λ (told : IsTrue (g.S.Store.is_honest c.args.store.now)). coming items k c.loop-at-test.true file at _ top c.in_ok-top.ensures.place (i.to_come told) (i.left told) i.begin ((rw (i.honesty, i.file) at c.in_ok-top.ensures.header) told) whole in
    let bytes = drop top.header.header c.read_top_box.new.room in
    let len = top.header.end - top.offset - top.header.header in
    let read = λ (told : IsTrue (g.S.Store.is_honest c.args.store.now)). read_from_header file top (box_seen c.view_in-moof.result) c.read_top_box.new.room c.in_ok-top.ensures.whole.1 c.in_ok-top.ensures.room ((rw (i.honesty, i.file) at c.in_ok-top.ensures.bytes) told) c.view_in-moof.ensures in
    let many : length c.loop-at.states ≡ length c.args.states.now = search rules in
    let moof = box_seen c.view_in-moof.result in
    let e = c.in_ok-check_moof_by.ensures in
    λ told.
    let r = read told in
    let stands = let l = i.left told in stands_behind file at top l.boxes ((coming told).0 l.boxes l.are_from) in (
      record {
        work = checks_done file top.header.end _ _ (λ all h.
            let u = i.work told all h in
            next_checked file at top all whole u.0 u.1.0 ((coming told).0 u.0 u.1.0) moof bytes len r _ _ _ (checked_all _ _ _ _ _ _ _ moof refl e.sound.1 e.work.cost) u.1.1);
        within = all_fit _ _ _ _ _ (next_fits file at top whole stands moof bytes len r _ _ _ _ _ e.work.within (i.fit told));
        looks = record {
          said = looks_done file top.header.end _ _ _ (λ all h.
              let u = i.looked told all h in
              next_looked file at top all whole u.0 u.1.0 ((coming told).0 u.0 u.1.0) moof bytes len r (min 1 (length c.args.states.now)) _ _ _ (rw many at e.looks.each) u.1.1);
          within = all_looked _ _ _ _ _ (next_looks file at top whole stands moof bytes len r (min 1 (length c.args.states.now)) _ _ _ (rw many at c.check_moof_by.ensures.looks.most) (i.looks told));
        };
      },
      tt,
    )

pub returns-in_err-top-clause-exact : goal.returns-in_err-top-clause-exact
returns-in_err-top-clause-exact g c =
    let p = err_from_is_err_and c.from_residual.result c.from_residual.ensures.1 in
    let file = g.S.Store.file c.args.store.now in
    rw (p.1, p.2) (λ told. record {
      names = λ movie boxes b.
          unread_judged file movie c.args.start.room (of_kind (codes "moof") boxes) (length c.loop-at.bytes) (place_at c.deref-at-items.result.now c.loop-at.at-index) _ _ _ c.in_err-top.field-0.0 (rw c.loop-at.invariant.1.file at c.in_err-top.ensures.refusal);
    })

pub returns-in_err-check_moof_by-clause-exact : goal.returns-in_err-check_moof_by-clause-exact
returns-in_err-check_moof_by-clause-exact g c =
    let p = err_from_is_err_and c.from_residual-in_err-check_moof_by.result c.from_residual-in_err-check_moof_by.ensures.1 in
    let at = c.loop-at.invariant.0 in
    let i = c.loop-at.invariant.1 in
    let file = g.S.Store.file c.args.store.now in
    let items = c.deref-at-items.result.now in
    let k = c.loop-at.at-index in
    let top = c.in_ok-top.top in
    let whole = rw i.file at c.in_ok-top.ensures.whole.0 in
    let coming = λ (told : IsTrue (g.S.Store.is_honest c.args.store.now)). coming items k c.loop-at-test.true file at _ top c.in_ok-top.ensures.place (i.to_come told) (i.left told) i.begin ((rw (i.honesty, i.file) at c.in_ok-top.ensures.header) told) whole in
    let bytes = drop top.header.header c.read_top_box.new.room in
    let len = top.header.end - top.offset - top.header.header in
    let read = λ (told : IsTrue (g.S.Store.is_honest c.args.store.now)). read_from_header file top (box_seen c.view_in-moof.result) c.read_top_box.new.room c.in_ok-top.ensures.whole.1 c.in_ok-top.ensures.room ((rw (i.honesty, i.file) at c.in_ok-top.ensures.bytes) told) c.view_in-moof.ensures in
    rw (p.1, p.2) (λ told. record {
      names = λ movie boxes b.
          let u = i.first told movie boxes b in
          let r = read told in
          judged_refused file movie boxes at c.args.start.outline.now.longest c.args.states.now c.loop-at.states c.args.start.room c.loop-at.room b u top whole ((coming told).0 u.0.left.boxes u.0.left.are_from)
          (box_seen c.view_in-moof.result) bytes len c.len-file_len.result r c.len-file_len.ensures
          c.in_err-check_moof_by.field-0.0
          c.in_err-check_moof_by.ensures.exact.names;
    })

pub returns-clause-exact : goal.returns-clause-exact
returns-clause-exact g c = λ told. record {
  names = λ movie boxes b.
      let at = c.loop-at.invariant.0 in
      let i = c.loop-at.invariant.1 in
      let u = i.first told movie boxes b in
      let file = g.S.Store.file c.args.store.now in
      all_judged file movie boxes at c.args.start.outline.now.longest c.loop-at.states c.args.start.room c.loop-at.room u (none_comes file at c.deref-at-items.result.now c.loop-at.at-index c.loop-at-test.false (i.to_come told) u.0.left.boxes u.0.left.are_from);
}

-- ---- what is told

pub returns-in_err-top-clause-told : goal.returns-in_err-top-clause-told
returns-in_err-top-clause-told g c =
    let p = err_from_is_err_and c.from_residual.result c.from_residual.ensures.1 in
    rw (p.1, p.2) (λ told. untold _ _ _ _ c.in_err-top.field-0.0 c.loop-at.invariant.1.silent)

pub returns-in_err-check_moof_by-clause-told : goal.returns-in_err-check_moof_by-clause-told
returns-in_err-check_moof_by-clause-told g c =
    let p = err_from_is_err_and c.from_residual-in_err-check_moof_by.result c.from_residual-in_err-check_moof_by.ensures.1 in
    let at = c.loop-at.invariant.0 in
    let i = c.loop-at.invariant.1 in
    let file = g.S.Store.file c.args.store.now in
    let items = c.deref-at-items.result.now in
    let k = c.loop-at.at-index in
    let top = c.in_ok-top.top in
    let whole = rw i.file at c.in_ok-top.ensures.whole.0 in
    let coming = λ (told : IsTrue (g.S.Store.is_honest c.args.store.now)). coming items k c.loop-at-test.true file at _ top c.in_ok-top.ensures.place (i.to_come told) (i.left told) i.begin ((rw (i.honesty, i.file) at c.in_ok-top.ensures.header) told) whole in
    let bytes = drop top.header.header c.read_top_box.new.room in
    let len = top.header.end - top.offset - top.header.header in
    let read = λ (told : IsTrue (g.S.Store.is_honest c.args.store.now)). read_from_header file top (box_seen c.view_in-moof.result) c.read_top_box.new.room c.in_ok-top.ensures.whole.1 c.in_ok-top.ensures.room ((rw (i.honesty, i.file) at c.in_ok-top.ensures.bytes) told) c.view_in-moof.ensures in
    rw (p.1, p.2) (λ told.
    let r = read told in
    tells_refused file c.len-file_len.result c.args.states.now c.loop-at.states c.args.start.room c.loop-at.room (box_seen c.view_in-moof.result) c.in_err-check_moof_by.field-0.0 _ c.len-file_len.ensures
    (λ movie boxes b.
    let u = i.so told movie boxes b in
    record {
      earlier = u.fragments;
      before = u.passed ++ ((coming told).0 u.left.boxes u.left.are_from).0;
      next = subst (IsNextMoof file movie u.fragments (u.passed ++ ((coming told).0 u.left.boxes u.left.are_from).0)) (sym (read_is file top (box_seen c.view_in-moof.result) bytes len r))
          (stands_next file movie boxes at c.args.start.outline.now.longest c.args.states.now c.loop-at.states c.args.start.room c.loop-at.room b u top whole ((coming told).0 u.left.boxes u.left.are_from));
      behind = u.behind;
    })
    (c.in_err-check_moof_by.ensures.told i.silent))

pub returns-in_err-top-clause-reads : goal.returns-in_err-top-clause-reads
returns-in_err-top-clause-reads g c =
    let p = err_from_is_err_and c.from_residual.result c.from_residual.ensures.1 in
    rw (p.1, p.2) (unread_faultless _ (g.S.Store.file c.loop-at.store) (place_at c.deref-at-items.result.now c.loop-at.at-index) (length c.loop-at.bytes) _ _ c.in_err-top.field-0.0 (rw c.loop-at.invariant.1.reads at c.in_err-top.ensures.refusal))
