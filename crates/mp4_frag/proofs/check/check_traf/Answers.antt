use Rattle.std.proofs.Common.{◌≡◌, ℕ, None, subst, false, ◌+◌, ◌^◌, ◌≤◌, ◌∙◌, [], ◌∷◌, Option, Some, sym, ap, refl, to_z, of_z, rules, arith}
use Rattle.std.specs.Prelude.{codes, option_map}
use Rattle.std.proofs.lemmas.Result.{err_from_is_err_and}
use Rattle.std.specs.Int.{w128}
use Rattle.mp4_boxes.specs.format.Children.{of_kind}
use Rattle.mp4_boxes.specs.words.View.{box_seen}
use Rattle.mp4_boxes.specs.declared.view.BoxView.{BoxView}
use Rattle.mp4_tables.specs.words.Keys.{keys_seen}
use Rattle.mp4_frag.specs.words.Passing.{IsUpTo}
use Rattle.mp4_frag.specs.words.Passing.{is_late_at}
use Rattle.mp4_boxes.specs.format.BoxFaults.{fault_of}
use Rattle.mp4_boxes.specs.format.FirstFault.{first_failed}
use Rattle.mp4_boxes.specs.declared.fault.Kind.TheVariants.{UnknownTrack, BadDescriptionIndex, Gap}
use Rattle.mp4_frag.specs.format.Fragments.{TrackFragment}
use Rattle.mp4_frag.specs.format.FragmentSamples.{base_of}
use Rattle.mp4_frag.specs.words.Finding.{track_with}
use Rattle.mp4_frag.specs.words.FragmentTests.{traf_groups_tests}
use Rattle.mp4_frag.specs.words.GroupsJudged.{groups_in}
use Rattle.mp4_frag.specs.words.Reading.{inheritance}
use Rattle.mp4_frag.specs.words.TrafFaults.{traf_in}
use Rattle.mp4_frag.specs.words.TrafTests.{lacks}
use Rattle.mp4_frag.proofs.FirstTraf.{list_first, head_first, behind_head, no_track_first, no_trex_first, some_track, known_first, time_first, runs_then, description_then, groups_then, rest_then, late_first, late_none}
use Rattle.mp4_frag.proofs.LeavesRead.{got}
use Rattle.mp4_frag.proofs.RunsPassed.{judged_by}
use Rattle.mp4_frag.proofs.TrafRefused.{same_head, no_head, opened}
use Rattle.mp4_frag.proofs.TracksMoved.{traf_moved, no_time}
use Rattle.mp4_frag.specs.words.RunsJudged.{children_of, runs_in, runs_total, only_list}
use Rattle.mp4_frag.specs.words.States.{HasRoom}
use Rattle.mp4_frag.specs.words.Walks.{trex_among}
use Rattle.mp4_frag.proofs.Bounds.{up_to_near}
use Rattle.mp4_frag.proofs.StateLists.{has_room, less_room, room_with}
use Rattle.mp4_frag.specs.declared.state.TrackState.{TrackState}
use Rattle.mp4_frag.proofs.OwnNoted.{ids_set, traf_notable}
use Rattle.mp4_frag.proofs.TrafPassed.{traf_sound, found_trex, trex_same}
use Rattle.mp4_frag.proofs.check.check_traf.Goals as goal
use Rattle.mp4_frag.proofs.check.check_traf.Goals.{in-Some-time+else-is_late, in_default-time}

pub check_runs-requires-clause-base : goal.check_runs-requires-clause-base
check_runs-requires-clause-base g c =
    let same : to_z w128 (of_z w128 c.base_of.result) ≡ c.base_of.result = search rules in
    let before : to_z w128 (of_z w128 c.args.at.before) ≡ c.args.at.before = search rules in
    let near : IsUpTo (2 ^ 98) c.base_of.result = (rw before at c.base_of.ensures.bound) (2 ^ 98) (search rules) c.requires.near in
    rw same (up_to_near (2 ^ 98) c.base_of.result (search rules) near)

pub moved_on-requires-clause-room : goal.moved_on-requires-clause-room
moved_on-requires-clause-room g c =
    let before : HasRoom c.args.room.now c.index-tracks-k.result = rw (c.index-tracks-k.is) (has_room c.args.room.now c.in-Some-find.k c.args.tracks.now _ c.in-Some-find.ensures.inside c.requires.room.each) in
    let room = before.few in
    let taken = c.in_ok-passed.ensures.taken in
    record { few = omega arith; time = before.time; bytes = before.bytes }

pub returns-clause-passed : goal.returns-clause-passed
returns-clause-passed g c =
    let boxes = children_of (box_seen c.args.traf) in
    let same : to_z w128 (of_z w128 c.base_of.result) ≡ c.base_of.result = search rules in
    let before : to_z w128 (of_z w128 c.args.at.before) ≡ c.args.at.before = search rules in
    let kept : to_z w128 (of_z w128 c.in_ok-passed.passed.at) ≡ c.in_ok-passed.passed.at = search rules in
    let head : of_kind (codes "tfhd") boxes ≡ box_seen c.in-Some.tfhd ∷ [] = sym c.in_ok-heads.ensures.head ∙ ap (λ (o : Option BoxView). only_list (option_map box_seen o)) c.in-Some.is in
    let known : trex_among c.args.tracks.now c.in_ok-head.head.id ≡ Some c.in-Some-trex.trex = found_trex c.args.tracks.now c.in_ok-head.head.id c.in-Some-find.k _ c.in-Some-trex.trex
    c.in-Some-find.ensures.inside c.in-Some-find.ensures.there.found (ap (λ t. t.trex) (sym c.index-tracks-k.is) ∙ c.in-Some-trex.is) in
    let m = c.moved_on.ensures in
    let late : is_late_at c.index-tracks-k.result c.in_ok-time.time c.in_ok-passed.passed.count ≡ false =
    elim c.match-heads-2.branch [
      | in-Some-time+else-is_late w ↦ sym w.if-is_late.ensures
      | in_default-time w ↦
          let none = no_time boxes (sym c.in_ok-heads.ensures.time ∙ ap (λ (o : Option BoxView). only_list (option_map box_seen o)) w.in_default-time.is) in
          ap (λ (o : Option ℕ). is_late_at c.index-tracks-k.result o c.in_ok-passed.passed.count) (sym c.in_ok-time.ensures.time ∙ none)
    ] in
    let room_before : HasRoom c.args.room.now c.index-tracks-k.result = rw (c.index-tracks-k.is) (has_room c.args.room.now c.in-Some-find.k c.args.tracks.now _ c.in-Some-find.ensures.inside c.requires.room.each) in
    let room = room_before.few in
    let count = c.moved_on.ensures.count in
    let taken = c.in_ok-passed.ensures.taken in
    let few : c.moved_on.result.count + c.check_runs.new.room ≤ 2 ^ 24 = rw count (omega arith) in
    let less : c.check_runs.new.room ≤ c.args.room.now = omega arith in
    let with : HasRoom c.check_runs.new.room c.moved_on.result = record { few = few; time = c.moved_on.ensures.room.time; bytes = c.moved_on.ensures.room.bytes } in (
      record {
        holds = c.in_ok-heads.ensures.holds;
        sound = rw kept (traf_sound c.args.at.file_len c.args.at.moof c.in_ok-passed.passed.count c.args.at.before c.base_of.result c.in_ok-passed.passed.at c.args.tracks.now boxes (box_seen c.in-Some.tfhd) c.in_ok-head.head c.in-Some-trex.trex
            c.what_is_inherited.result (keys_seen c.index-tracks-k.result.keys)
            head c.in_ok-head.ensures.head known c.in_ok-time.ensures.sound (rw before at c.base_of.ensures.is) c.what_is_inherited.ensures (rw same at c.in_ok-passed.ensures.runs.sound) (rw same at c.in_ok-passed.ensures.runs.end) c.in_ok-passed.ensures.runs.count c.in_ok-keys.ensures.sound);
        bound = λ n big near.
            let base : IsUpTo n c.base_of.result = (rw before at c.base_of.ensures.bound) n big near in
            rw kept ((rw same at c.in_ok-passed.ensures.bound) n big base);
        moved = traf_moved c.args.at.moof c.in_ok-passed.passed.count c.in_ok-passed.passed.duration c.in_ok-passed.passed.bytes c.in-Some-find.k c.args.room.now c.check_runs.new.room c.args.at.before c.args.tracks.now _ c.index-tracks-k.result c.moved_on.result boxes (box_seen c.in-Some.tfhd)
            c.in_ok-head.head c.in-Some-trex.trex c.what_is_inherited.result c.in_ok-keys.keys c.in_ok-time.time
            head c.in_ok-head.ensures.head
            c.in-Some-find.ensures.inside c.in-Some-find.ensures.there.found c.in-Some-find.ensures.there.first c.index-tracks-k.is c.in-Some-trex.is c.what_is_inherited.ensures c.in_ok-passed.ensures.runs.count c.in_ok-passed.ensures.runs.lasting c.in_ok-passed.ensures.runs.filling
            c.in_ok-keys.ensures.sound c.in_ok-keys.ensures.keys (sym c.if-lacks_description.ensures) late c.in_ok-time.ensures.time m.none m.some c.in_ok-passed.ensures.taken;
      },
      record {
        few = less;
        each = room_with c.check_runs.new.room c.in-Some-find.k c.args.tracks.now c.moved_on.result with
            (less_room c.args.room.now c.check_runs.new.room c.args.tracks.now less c.requires.room.each);
        same = λ id.
            trex_same c.args.tracks.now c.in-Some-find.k _ c.moved_on.result id c.in-Some-find.ensures.inside (c.moved_on.ensures.same.0 ∙ ap (λ t. t.id) c.index-tracks-k.is) (c.moved_on.ensures.same.1 ∙ ap (λ t. t.trex) c.index-tracks-k.is);
        ids = ids_set c.in-Some-find.k c.args.tracks.now _ c.moved_on.result c.in-Some-find.ensures.inside (c.moved_on.ensures.same.0 ∙ ap (λ (t : TrackState). t.id) c.index-tracks-k.is);
      },
    )

pub returns-clause-stays : goal.returns-clause-stays
returns-clause-stays g c =
    ids_set c.in-Some-find.k c.args.tracks.now _ c.moved_on.result c.in-Some-find.ensures.inside (c.moved_on.ensures.same.0 ∙ ap (λ (t : TrackState). t.id) c.index-tracks-k.is)

pub returns-clause-own : goal.returns-clause-own
returns-clause-own g c =
    let same : to_z w128 (of_z w128 c.base_of.result) ≡ c.base_of.result = search rules in
    let twice : to_z w128 (of_z w128 (to_z w128 (of_z w128 c.base_of.result))) ≡ c.base_of.result = search rules in
    let before : to_z w128 (of_z w128 c.args.at.before) ≡ c.args.at.before = search rules in
    let head : of_kind (codes "tfhd") (children_of (box_seen c.args.traf)) ≡ box_seen c.in-Some.tfhd ∷ [] = sym c.in_ok-heads.ensures.head ∙ ap (λ (o : Option BoxView). only_list (option_map box_seen o)) c.in-Some.is in
    let known : trex_among c.args.tracks.now c.in_ok-head.head.id ≡ Some c.in-Some-trex.trex = found_trex c.args.tracks.now c.in_ok-head.head.id c.in-Some-find.k _ c.in-Some-trex.trex
    c.in-Some-find.ensures.inside c.in-Some-find.ensures.there.found (ap (λ t. t.trex) (sym c.index-tracks-k.is) ∙ c.in-Some-trex.is) in
    traf_notable c.args.at.moof c.in_ok-passed.passed.count c.in-Some-find.k c.args.at.before c.base_of.result _ c.args.tracks.now (box_seen c.args.traf) (box_seen c.in-Some.tfhd) c.in_ok-head.head c.in-Some-trex.trex c.note_of.result
    head c.in_ok-head.ensures.head known c.in-Some-find.ensures.inside c.in-Some-find.ensures.there.found (rw before at c.base_of.ensures.is) c.in_ok-passed.ensures.runs.count (rw twice at c.note_of.ensures)

-- ---- the first fault

pub returns-in_err-heads-clause-exact : goal.returns-in_err-heads-clause-exact
returns-in_err-heads-clause-exact g c =
    let p = err_from_is_err_and c.from_residual.result c.from_residual.ensures.1 in
    record { names = rw (p.1, p.2) (list_first c.args.at.file_len c.args.at.moof c.args.at.before c.args.tracks.now c.args.room.now (box_seen c.args.traf) c.in_err-heads.field-0.0 c.in_err-heads.ensures.exact.names) }

pub returns-in_default-clause-exact : goal.returns-in_default-clause-exact
returns-in_default-clause-exact g c =
    let none : [] ≡ of_kind (codes "tfhd") (children_of (box_seen c.args.traf)) = ap (λ (o : Option BoxView). only_list (option_map box_seen o)) (sym c.in_default.is) ∙ c.in_ok-heads.ensures.head in
    absurd (no_head (box_seen c.args.traf) (children_of (box_seen c.args.traf)) c.in_ok-heads.ensures.holds (sym none))

pub returns-in_err-head-clause-exact : goal.returns-in_err-head-clause-exact
returns-in_err-head-clause-exact g c =
    let p = err_from_is_err_and c.from_residual-in_err-head.result c.from_residual-in_err-head.ensures.1 in
    let head = sym c.in_ok-heads.ensures.head ∙ ap (λ (o : Option BoxView). only_list (option_map box_seen o)) c.in-Some.is in
    record { names = rw (p.1, p.2) (head_first c.args.at.file_len c.args.at.moof c.args.at.before c.args.tracks.now c.args.room.now (box_seen c.args.traf) (box_seen c.in-Some.tfhd) c.in_ok-heads.ensures.exact.names head c.in_err-head.field-0.0 c.in_err-head.ensures.exact.names) }

pub returns-in_default-find-clause-exact : goal.returns-in_default-find-clause-exact
returns-in_default-find-clause-exact g c =
    let head = sym c.in_ok-heads.ensures.head ∙ ap (λ (o : Option BoxView). only_list (option_map box_seen o)) c.in-Some.is in
    let none = ap (λ (t : TrackFragment). track_with t.id c.args.tracks.now) (sym (same_head (box_seen c.args.traf) (box_seen c.in-Some.tfhd) c.in_ok-head.head head c.in_ok-head.ensures.head)) ∙ c.in_default-find.ensures.none refl in
    record {
      names =
          rw c.fault-in_default-find.ensures (behind_head c.args.at.file_len c.args.at.moof c.args.at.before c.args.tracks.now c.args.room.now (box_seen c.args.traf) (box_seen c.in-Some.tfhd) c.in_ok-heads.ensures.exact.names head (Some (fault_of UnknownTrack (box_seen c.in-Some.tfhd)))
          c.in_ok-head.ensures.exact.names (no_track_first c.args.at.file_len c.args.at.moof c.args.at.before c.args.room.now (box_seen c.args.traf) (box_seen c.in-Some.tfhd) _ none));
    }

pub returns-in_default-trex-clause-exact : goal.returns-in_default-trex-clause-exact
returns-in_default-trex-clause-exact g c =
    let head = sym c.in_ok-heads.ensures.head ∙ ap (λ (o : Option BoxView). only_list (option_map box_seen o)) c.in-Some.is in
    let found = ap (λ (t : TrackFragment). track_with t.id c.args.tracks.now) (sym (same_head (box_seen c.args.traf) (box_seen c.in-Some.tfhd) c.in_ok-head.head head c.in_ok-head.ensures.head)) ∙ c.in-Some-find.ensures.there.found
    ∙ got c.in-Some-find.k c.args.tracks.now _ c.in-Some-find.ensures.inside ∙ ap (λ (t : TrackState). Some t) (sym c.index-tracks-k.is) in
    record {
      names =
          rw c.fault-in_default-trex.ensures (behind_head c.args.at.file_len c.args.at.moof c.args.at.before c.args.tracks.now c.args.room.now (box_seen c.args.traf) (box_seen c.in-Some.tfhd) c.in_ok-heads.ensures.exact.names head (Some (fault_of UnknownTrack (box_seen c.in-Some.tfhd)))
          c.in_ok-head.ensures.exact.names (no_trex_first c.args.at.file_len c.args.at.moof c.args.at.before c.args.room.now (box_seen c.args.traf) (box_seen c.in-Some.tfhd) _ c.index-tracks-k.result found c.in_default-trex.is));
    }

pub returns-in_err-time-clause-exact : goal.returns-in_err-time-clause-exact
returns-in_err-time-clause-exact g c =
    let p = err_from_is_err_and c.from_residual-in_err-time.result c.from_residual-in_err-time.ensures.1 in
    let head = sym c.in_ok-heads.ensures.head ∙ ap (λ (o : Option BoxView). only_list (option_map box_seen o)) c.in-Some.is in
    let found = ap (λ (t : TrackFragment). track_with t.id c.args.tracks.now) (sym (same_head (box_seen c.args.traf) (box_seen c.in-Some.tfhd) c.in_ok-head.head head c.in_ok-head.ensures.head)) ∙ c.in-Some-find.ensures.there.found
    ∙ got c.in-Some-find.k c.args.tracks.now _ c.in-Some-find.ensures.inside ∙ ap (λ (t : TrackState). Some t) (sym c.index-tracks-k.is) in
    record {
      names = rw (p.1, p.2) (behind_head c.args.at.file_len c.args.at.moof c.args.at.before c.args.tracks.now c.args.room.now (box_seen c.args.traf) (box_seen c.in-Some.tfhd) c.in_ok-heads.ensures.exact.names head (Some c.in_err-time.field-0.0) c.in_ok-head.ensures.exact.names
          (some_track c.args.at.file_len c.args.at.moof c.args.at.before c.args.room.now (box_seen c.args.traf) (box_seen c.in-Some.tfhd) _ c.index-tracks-k.result c.in-Some-trex.trex found c.in-Some-trex.is
          ∙ time_first (judged_by c.args.at.file_len (inheritance (traf_in (box_seen c.args.traf)) c.in-Some-trex.trex) (base_of c.args.at.moof c.args.at.before (traf_in (box_seen c.args.traf)))) c.args.room.now (box_seen c.args.traf) (box_seen c.in-Some.tfhd)
          c.index-tracks-k.result c.in_err-time.field-0.0 c.in_err-time.ensures.exact.names));
    }

pub returns-in_err-passed-clause-exact : goal.returns-in_err-passed-clause-exact
returns-in_err-passed-clause-exact g c =
    let p = err_from_is_err_and c.from_residual-in_err-passed.result c.from_residual-in_err-passed.ensures.1 in
    let head = sym c.in_ok-heads.ensures.head ∙ ap (λ (o : Option BoxView). only_list (option_map box_seen o)) c.in-Some.is in
    let same : to_z w128 (of_z w128 c.base_of.result) ≡ c.base_of.result = search rules in
    let before : to_z w128 (of_z w128 c.args.at.before) ≡ c.args.at.before = search rules in
    let o = opened c.args.at.moof c.in-Some-find.k c.args.at.before c.base_of.result c.args.tracks.now _ c.index-tracks-k.result (box_seen c.args.traf) (box_seen c.in-Some.tfhd) c.in_ok-head.head c.in-Some-trex.trex c.what_is_inherited.result c.in_ok-heads.ensures.holds head
    c.in_ok-head.ensures.head
    c.in-Some-find.ensures.inside c.in-Some-find.ensures.there.found c.index-tracks-k.is c.in-Some-trex.is (rw before at c.base_of.ensures.is) c.what_is_inherited.ensures in
    let known = known_first c.args.at.file_len c.args.at.moof c.args.room.now c.args.at.before c.base_of.result c.args.tracks.now (box_seen c.args.traf) (box_seen c.in-Some.tfhd) c.index-tracks-k.result c.in-Some-trex.trex c.what_is_inherited.result o in
    let judged = judged_by c.args.at.file_len c.what_is_inherited.result c.base_of.result in
    record {
      names = rw (p.1, p.2) (behind_head c.args.at.file_len c.args.at.moof c.args.at.before c.args.tracks.now c.args.room.now (box_seen c.args.traf) (box_seen c.in-Some.tfhd) c.in_ok-heads.ensures.exact.names head (Some c.in_err-passed.field-0.0) c.in_ok-head.ensures.exact.names (known
          ∙ runs_then judged c.args.room.now (box_seen c.args.traf) (box_seen c.in-Some.tfhd) c.index-tracks-k.result c.in_err-passed.field-0.0 c.in_ok-time.ensures.exact.names ((rw same at c.in_err-passed.ensures.exact) c.in_ok-heads.ensures.holds.tiles).names));
    }

pub returns-then-lacks_description-clause-exact : goal.returns-then-lacks_description-clause-exact
returns-then-lacks_description-clause-exact g c =
    let head = sym c.in_ok-heads.ensures.head ∙ ap (λ (o : Option BoxView). only_list (option_map box_seen o)) c.in-Some.is in
    let same : to_z w128 (of_z w128 c.base_of.result) ≡ c.base_of.result = search rules in
    let before : to_z w128 (of_z w128 c.args.at.before) ≡ c.args.at.before = search rules in
    let o = opened c.args.at.moof c.in-Some-find.k c.args.at.before c.base_of.result c.args.tracks.now _ c.index-tracks-k.result (box_seen c.args.traf) (box_seen c.in-Some.tfhd) c.in_ok-head.head c.in-Some-trex.trex c.what_is_inherited.result c.in_ok-heads.ensures.holds head
    c.in_ok-head.ensures.head
    c.in-Some-find.ensures.inside c.in-Some-find.ensures.there.found c.index-tracks-k.is c.in-Some-trex.is (rw before at c.base_of.ensures.is) c.what_is_inherited.ensures in
    let known = known_first c.args.at.file_len c.args.at.moof c.args.room.now c.args.at.before c.base_of.result c.args.tracks.now (box_seen c.args.traf) (box_seen c.in-Some.tfhd) c.index-tracks-k.result c.in-Some-trex.trex c.what_is_inherited.result o in
    let judged = judged_by c.args.at.file_len c.what_is_inherited.result c.base_of.result in
    record {
      names =
          rw c.fault-then-lacks_description.ensures
          (behind_head c.args.at.file_len c.args.at.moof c.args.at.before c.args.tracks.now c.args.room.now (box_seen c.args.traf) (box_seen c.in-Some.tfhd) c.in_ok-heads.ensures.exact.names head (Some (fault_of BadDescriptionIndex (box_seen c.in-Some.tfhd)))
          c.in_ok-head.ensures.exact.names (known
          ∙ description_then judged c.args.room.now (box_seen c.args.traf) (box_seen c.in-Some.tfhd) c.index-tracks-k.result c.in_ok-time.ensures.exact.names ((rw same at c.in_ok-passed.ensures.exact) c.in_ok-heads.ensures.holds.tiles).names
          (ap (λ m. lacks c.index-tracks-k.result c.what_is_inherited.result.description m) (sym c.in_ok-passed.ensures.runs.count) ∙ sym c.if-lacks_description.ensures)));
    }

pub returns-in_err-keys-clause-exact : goal.returns-in_err-keys-clause-exact
returns-in_err-keys-clause-exact g c =
    let p = err_from_is_err_and c.from_residual-in_err-keys.result c.from_residual-in_err-keys.ensures.1 in
    let head = sym c.in_ok-heads.ensures.head ∙ ap (λ (o : Option BoxView). only_list (option_map box_seen o)) c.in-Some.is in
    let same : to_z w128 (of_z w128 c.base_of.result) ≡ c.base_of.result = search rules in
    let before : to_z w128 (of_z w128 c.args.at.before) ≡ c.args.at.before = search rules in
    let o = opened c.args.at.moof c.in-Some-find.k c.args.at.before c.base_of.result c.args.tracks.now _ c.index-tracks-k.result (box_seen c.args.traf) (box_seen c.in-Some.tfhd) c.in_ok-head.head c.in-Some-trex.trex c.what_is_inherited.result c.in_ok-heads.ensures.holds head
    c.in_ok-head.ensures.head
    c.in-Some-find.ensures.inside c.in-Some-find.ensures.there.found c.index-tracks-k.is c.in-Some-trex.is (rw before at c.base_of.ensures.is) c.what_is_inherited.ensures in
    let known = known_first c.args.at.file_len c.args.at.moof c.args.room.now c.args.at.before c.base_of.result c.args.tracks.now (box_seen c.args.traf) (box_seen c.in-Some.tfhd) c.index-tracks-k.result c.in-Some-trex.trex c.what_is_inherited.result o in
    let judged = judged_by c.args.at.file_len c.what_is_inherited.result c.base_of.result in
    record {
      names = rw (p.1, p.2) (behind_head c.args.at.file_len c.args.at.moof c.args.at.before c.args.tracks.now c.args.room.now (box_seen c.args.traf) (box_seen c.in-Some.tfhd) c.in_ok-heads.ensures.exact.names head (Some c.in_err-keys.field-0.0) c.in_ok-head.ensures.exact.names (known
          ∙ groups_then judged c.args.room.now (box_seen c.args.traf) (box_seen c.in-Some.tfhd) c.index-tracks-k.result c.in_err-keys.field-0.0 c.in_ok-time.ensures.exact.names ((rw same at c.in_ok-passed.ensures.exact) c.in_ok-heads.ensures.holds.tiles).names
          (ap (λ m. lacks c.index-tracks-k.result c.what_is_inherited.result.description m) (sym c.in_ok-passed.ensures.runs.count)
          ∙ sym c.if-lacks_description.ensures)
          (subst (λ m. first_failed (traf_groups_tests m (keys_seen c.index-tracks-k.result.keys) [] (groups_in (box_seen c.args.traf))) ≡ Some c.in_err-keys.field-0.0) c.in_ok-passed.ensures.runs.count (c.in_err-keys.ensures.exact c.in_ok-heads.ensures.holds.tiles).names)));
    }

pub returns-then-is_late-clause-exact : goal.returns-then-is_late-clause-exact
returns-then-is_late-clause-exact g c =
    let head = sym c.in_ok-heads.ensures.head ∙ ap (λ (o : Option BoxView). only_list (option_map box_seen o)) c.in-Some.is in
    let same : to_z w128 (of_z w128 c.base_of.result) ≡ c.base_of.result = search rules in
    let before : to_z w128 (of_z w128 c.args.at.before) ≡ c.args.at.before = search rules in
    let o = opened c.args.at.moof c.in-Some-find.k c.args.at.before c.base_of.result c.args.tracks.now _ c.index-tracks-k.result (box_seen c.args.traf) (box_seen c.in-Some.tfhd) c.in_ok-head.head c.in-Some-trex.trex c.what_is_inherited.result c.in_ok-heads.ensures.holds head
    c.in_ok-head.ensures.head
    c.in-Some-find.ensures.inside c.in-Some-find.ensures.there.found c.index-tracks-k.is c.in-Some-trex.is (rw before at c.base_of.ensures.is) c.what_is_inherited.ensures in
    let known = known_first c.args.at.file_len c.args.at.moof c.args.room.now c.args.at.before c.base_of.result c.args.tracks.now (box_seen c.args.traf) (box_seen c.in-Some.tfhd) c.index-tracks-k.result c.in-Some-trex.trex c.what_is_inherited.result o in
    let judged = judged_by c.args.at.file_len c.what_is_inherited.result c.base_of.result in
    let there = sym c.in_ok-heads.ensures.time ∙ ap (λ (o : Option BoxView). only_list (option_map box_seen o)) c.in-Some-time.is in
    record {
      names =
          rw c.fault-then-is_late.ensures (behind_head c.args.at.file_len c.args.at.moof c.args.at.before c.args.tracks.now c.args.room.now (box_seen c.args.traf) (box_seen c.in-Some.tfhd) c.in_ok-heads.ensures.exact.names head (Some (fault_of Gap (box_seen c.in-Some-time.tfdt)))
          c.in_ok-head.ensures.exact.names (known
          ∙ rest_then judged c.args.room.now (box_seen c.args.traf) (box_seen c.in-Some.tfhd) c.index-tracks-k.result (Some (fault_of Gap (box_seen c.in-Some-time.tfdt))) c.in_ok-time.ensures.exact.names ((rw same at c.in_ok-passed.ensures.exact) c.in_ok-heads.ensures.holds.tiles).names
          (ap (λ m. lacks c.index-tracks-k.result c.what_is_inherited.result.description m) (sym c.in_ok-passed.ensures.runs.count)
          ∙ sym c.if-lacks_description.ensures) (subst (λ m. first_failed (traf_groups_tests m (keys_seen c.index-tracks-k.result.keys) [] (groups_in (box_seen c.args.traf))) ≡ None) c.in_ok-passed.ensures.runs.count (c.in_ok-keys.ensures.exact c.in_ok-heads.ensures.holds.tiles).names)
          (late_first c.index-tracks-k.result (traf_in (box_seen c.args.traf)).decode_time (runs_total (runs_in (box_seen c.args.traf))) (of_kind (codes "tfdt") (children_of (box_seen c.args.traf))) (box_seen c.in-Some-time.tfdt) there
          ((λ i. is_late_at c.index-tracks-k.result (c.in_ok-time.ensures.time i) (sym c.in_ok-passed.ensures.runs.count i)) ∙ (sym c.if-is_late.ensures)))));
    }

pub returns-clause-exact : goal.returns-clause-exact
returns-clause-exact g c =
    let head = sym c.in_ok-heads.ensures.head ∙ ap (λ (o : Option BoxView). only_list (option_map box_seen o)) c.in-Some.is in
    let same : to_z w128 (of_z w128 c.base_of.result) ≡ c.base_of.result = search rules in
    let before : to_z w128 (of_z w128 c.args.at.before) ≡ c.args.at.before = search rules in
    let o = opened c.args.at.moof c.in-Some-find.k c.args.at.before c.base_of.result c.args.tracks.now _ c.index-tracks-k.result (box_seen c.args.traf) (box_seen c.in-Some.tfhd) c.in_ok-head.head c.in-Some-trex.trex c.what_is_inherited.result c.in_ok-heads.ensures.holds head
    c.in_ok-head.ensures.head
    c.in-Some-find.ensures.inside c.in-Some-find.ensures.there.found c.index-tracks-k.is c.in-Some-trex.is (rw before at c.base_of.ensures.is) c.what_is_inherited.ensures in
    let known = known_first c.args.at.file_len c.args.at.moof c.args.room.now c.args.at.before c.base_of.result c.args.tracks.now (box_seen c.args.traf) (box_seen c.in-Some.tfhd) c.index-tracks-k.result c.in-Some-trex.trex c.what_is_inherited.result o in
    let judged = judged_by c.args.at.file_len c.what_is_inherited.result c.base_of.result in
    let boxes = children_of (box_seen c.args.traf) in
    let fine : is_late_at c.index-tracks-k.result c.in_ok-time.time c.in_ok-passed.passed.count ≡ false =
    elim c.match-heads-2.branch [
      | in-Some-time+else-is_late w ↦ sym w.if-is_late.ensures
      | in_default-time w ↦
          let none = no_time boxes (sym c.in_ok-heads.ensures.time ∙ ap (λ (o : Option BoxView). only_list (option_map box_seen o)) w.in_default-time.is) in
          ap (λ (o : Option ℕ). is_late_at c.index-tracks-k.result o c.in_ok-passed.passed.count) (sym c.in_ok-time.ensures.time ∙ none)
    ] in
    record {
      names = behind_head c.args.at.file_len c.args.at.moof c.args.at.before c.args.tracks.now c.args.room.now (box_seen c.args.traf) (box_seen c.in-Some.tfhd) c.in_ok-heads.ensures.exact.names head None c.in_ok-head.ensures.exact.names (known
          ∙ rest_then judged c.args.room.now (box_seen c.args.traf) (box_seen c.in-Some.tfhd) c.index-tracks-k.result None c.in_ok-time.ensures.exact.names ((rw same at c.in_ok-passed.ensures.exact) c.in_ok-heads.ensures.holds.tiles).names
          (ap (λ m. lacks c.index-tracks-k.result c.what_is_inherited.result.description m) (sym c.in_ok-passed.ensures.runs.count)
          ∙ sym c.if-lacks_description.ensures) (subst (λ m. first_failed (traf_groups_tests m (keys_seen c.index-tracks-k.result.keys) [] (groups_in (box_seen c.args.traf))) ≡ None) c.in_ok-passed.ensures.runs.count (c.in_ok-keys.ensures.exact c.in_ok-heads.ensures.holds.tiles).names)
          (late_none c.index-tracks-k.result (traf_in (box_seen c.args.traf)).decode_time (runs_total (runs_in (box_seen c.args.traf))) (of_kind (codes "tfdt") (children_of (box_seen c.args.traf)))
          ((λ i. is_late_at c.index-tracks-k.result (c.in_ok-time.ensures.time i) (sym c.in_ok-passed.ensures.runs.count i)) ∙ fine)));
    }
