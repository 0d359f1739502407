-- One turn of the writer, by what its steps promise.
use Rattle.std.proofs.Common.{◌≡◌, ℕ, ◌+◌, ◌<◌, ◌≤◌, List, ◌++◌, length, take, drop, Some, sym, ap, subst, ◌∙◌, slice_set}
use Rattle.mp4_content.specs.declared.without.Without.{Without}
use Rattle.mp4_content.specs.words.ComingLess.{ComesLess, track_reduction, reductions_of}
use Rattle.mp4_content.specs.format.Reduced.{id_left}
use Rattle.mp4_content.specs.format.Remaining.{remaining}
use Rattle.mp4_content.specs.words.Divided.{divisor_at}
use Rattle.mp4_content.specs.words.Scales.{divisors_of}
use Rattle.std.specs.Prelude.{Option, slice_get}
use Rattle.mp4_boxes.specs.format.Bytes.{sum_of}
use Rattle.mp4_head.specs.format.Tree.{TrackTree}
use Rattle.mp4_store.specs.words.Device.{TakesPrefix}
use Rattle.mp4_store.proofs.Known.{IsJoining}
use Rattle.mp4_tables.specs.words.Keys.{keys_seen}
use Rattle.mp4_tables.specs.declared.sample.SampleAt.{SampleAt}
use Rattle.mp4_present.specs.words.Carried.{BytesGoOn, waiting}
use Rattle.mp4_present.specs.format.Denotes.{FileTree, presentation_of}
use Rattle.mp4_present.specs.words.Movies.{MovieSeen, mark_of}
use Rattle.mp4_present.specs.words.OpenedMovie.{IsOpenedAs}
use Rattle.mp4_present.specs.declared.out_buffer.OutBuffer.{OutBuffer}
use Rattle.mp4_present.specs.declared.track_info.TrackInfo.{TrackInfo}
use Rattle.mp4_present.specs.declared.walking.Walk.{Walk}
use Rattle.mp4_content.specs.words.GoneOn.{ComesMarked}
use Rattle.mp4_plan.specs.words.Gathering.{piece_from, piece_fed, samples_after, more_of, planned_of}
use Rattle.mp4_plan.specs.format.Normal.{normal}
use Rattle.mp4_plan.specs.words.CarriedSamples.{AreThere}
use Rattle.mp4_content.specs.words.Contents.{info_left, infos_left, numbers_of, tracks_left}
use Rattle.mp4_content.specs.declared.content.Content.{Content}
use Rattle.mp4_content.specs.declared.tracks_left.TrackLeft.{TrackLeft}
use Rattle.mp4_plan.specs.words.Turns.{turn_end, turned, Sticks}
use Rattle.mp4_plan.specs.words.UsedKeys.{AreApart}
use Rattle.mp4_plan.specs.words.Writers.{IsWriterOf, HasNoted, IsNoted, HaveCopied, turn_head, sequence_behind, turn_bytes}
use Rattle.mp4_plan.specs.words.DueTracks.{AreTimes, IsDueAt}
use Rattle.mp4_plan.specs.declared.due_tracks.DueTracks.{DueTracks}
use Rattle.mp4_plan.specs.declared.ends.End.{End}
use Rattle.mp4_plan.specs.declared.moof_front.PieceHead.{PieceHead}
use Rattle.mp4_plan.specs.declared.planner.Planned.{Planned}
use Rattle.mp4_plan.specs.declared.schedule.Schedule.{Schedule}
use Rattle.mp4_plan.specs.declared.schedule.Turn.{Turn}
use Rattle.mp4_plan.specs.declared.writer.Noted.{Noted}
use Rattle.mp4_plan.specs.declared.writer.Writer.{Writer}
use Rattle.mp4_plan.proofs.ComeAt.{set_there, set_twice}
use Rattle.mp4_plan.proofs.PieceCounts.{piece_counts, piece_bytes, piece_within}
use Rattle.mp4_plan.proofs.PieceWritten.{IsFew}
use Rattle.mp4_plan.proofs.InfosLeft.{info_at, left_scales, scale_of_track, track_at}
use Rattle.mp4_plan.proofs.Planning.{reduced_there}
use Rattle.mp4_plan.proofs.SkippedTurns.{due_here}
use Rattle.mp4_plan.proofs.TurnTaken.{turn_moves}
use Rattle.mp4_plan.proofs.WritesOn.{WritesOn, AtTurn, at_turn, turn_stops, turn_over}

module _ (leaving : Without) (file : List ℕ) (tree : FileTree) (m : MovieSeen) (o : IsOpenedAs file m tree) (s : Schedule) (sequence sent : ℕ) (w : Writer) {Y : Type 0} {takes : Y → Y → List ℕ → Type 0} (joins : IsJoining takes) (before after : Y)
    (h : WritesOn leaving file tree m s sequence sent w.walks.items w.nexts.items (length w.notes.rows.items) (takes before after) (waiting w.carrier)) (turn : Turn) (here : (turn.track ≡ s.track) × (s.track < s.tracks))
    (own : (track : TrackLeft) → slice_get (tracks_left leaving (divisors_of leaving file tree) m.tracks) s.track ≡ Some track → (turn.end ≡ turn_end s track.timescale) × (turn.id ≡ track.id)) (tracks : s.tracks ≡ length m.tracks) (goes : IsWriterOf m w) (same_leaving : w.content.leaving ≡ leaving)
    (reduced : w.content.of_tracks.items
    ≡ reductions_of leaving file tree)
  where
    at : AtTurn leaving file tree m s w.walks.items w.nexts.items (length w.notes.rows.items) h.lefts h.comings
    at = at_turn leaving file tree m s sequence sent w.walks.items w.nexts.items (length w.notes.rows.items) (takes before after) (waiting w.carrier) o h here.1 tracks goes.walks.count

    own_is : (turn.end ≡ turn_end s (scale_of_track leaving (divisors_of leaving file tree) s.track at.info.timescale)) × (turn.id ≡ (id_left leaving (s.track + 1) at.info.id))
    own_is = own (numbers_of (info_left leaving (s.track + 1) (divisor_at (divisors_of leaving file tree) s.track) at.info)) (track_at leaving (divisors_of leaving file tree) m.tracks s.track at.info at.is_info)

    end_is : turn.end ≡ turn_end s (scale_of_track leaving (divisors_of leaving file tree) s.track at.info.timescale)
    end_is = own_is.0

    walk_there : slice_get w.walks.items turn.track ≡ Some at.walk
    walk_there = ap (λ k. slice_get w.walks.items k) here.0 ∙ at.is_walk

    next_there : slice_get w.nexts.items turn.track ≡ Some (slice_get at.left 0)
    next_there = ap (λ k. slice_get w.nexts.items k) here.0 ∙ at.shown

    comes_there : ComesLess (track_reduction w.content.leaving file tree at.t) file tree at.t m at.walk at.left
    comes_there = subst (λ (l : Without). ComesLess (track_reduction l file tree at.t) file tree at.t m at.walk at.left) (sym same_leaving) at.comes

    by_there : slice_get w.content.of_tracks.items turn.track ≡ Some (track_reduction w.content.leaving file tree at.t)
    by_there = ap (λ k. slice_get w.content.of_tracks.items k) here.0 ∙ reduced_there w.content.leaving file tree w.content.of_tracks.items s.track at.t (reduced ∙ ap (λ (l : Without). reductions_of l file tree) (sym same_leaving)) at.is_tree

    -- there is room for the rows
    pub note_lacks : (X : Type 0) → ((t : TrackTree) (walk : Walk) (left : List SampleAt) → slice_get w.walks.items turn.track ≡ Some walk → slice_get w.content.of_tracks.items turn.track ≡ Some (track_reduction w.content.leaving file tree t)
        → ComesLess (track_reduction w.content.leaving file tree t) file tree t m walk left
        → walk.mark ≡ mark_of walk (length left)
        → slice_get w.nexts.items turn.track ≡ Some (slice_get left 0) → more_of (piece_from turn.end) left ≤ length w.notes.rows.items → X) → X
    note_lacks X f = f at.t at.walk at.left walk_there by_there comes_there at.is_marked next_there (subst (λ (e : End). more_of (piece_from e) at.left ≤ length w.notes.rows.items) (sym end_is) at.fits)

    module _ (w1 : Writer) (n : Noted) (noted : (t : TrackTree) (walk : Walk) (left : List SampleAt) → slice_get w.walks.items turn.track ≡ Some walk → slice_get w.content.of_tracks.items turn.track ≡ Some (track_reduction w.content.leaving file tree t)
        → ComesLess (track_reduction w.content.leaving file tree t) file tree t m walk left → walk.mark ≡ mark_of walk (length left)
        → slice_get w.nexts.items turn.track ≡ Some (slice_get left 0)
        → HasNoted file tree t m turn sequence left w w1 n)
        (by_same : w1.content ≡ w.content) (keeps : (w1.carrier ≡ w.carrier) × (length w1.notes.rows.items ≡ length w.notes.rows.items) × (w1.nexts ≡ w.nexts) × (w1.due ≡ w.due)) (few : IsFew n.planned) where
      it : HasNoted file tree at.t m turn sequence at.left w w1 n
      it = noted at.t at.walk at.left walk_there by_there comes_there at.is_marked next_there

      abbrev end : End
      end = turn_end s (scale_of_track leaving (divisors_of leaving file tree) s.track at.info.timescale)

      planned_is : n.planned ≡ planned_of (piece_fed (piece_from end) at.left).gathered
      planned_is = subst (λ (e : End). n.planned ≡ planned_of (piece_fed (piece_from e) at.left).gathered) end_is it.planned

      counted : n.planned.count ≡ more_of (piece_from end) at.left
      counted = ap (λ (q : Planned). q.count) planned_is ∙ piece_counts end at.left

      head_is : n.head ≡ turn_head sequence (id_left leaving (s.track + 1) at.info.id) n.planned.count (slice_get at.left 0)
      head_is = it.head ∙ ap (λ k. turn_head sequence k n.planned.count (slice_get at.left 0)) own_is.1

      rest_is : drop n.planned.count at.left ≡ samples_after (piece_from end) at.left
      rest_is = ap (λ k. drop k at.left) counted

      there_now : slice_get w1.walks.items turn.track ≡ Some it.walk
      there_now = ap (λ (ws : List Walk). slice_get ws turn.track) it.walks ∙ set_there w.walks.items turn.track at.walk it.walk walk_there

      info_there : slice_get m.tracks turn.track ≡ Some at.info
      info_there = ap (λ k. slice_get m.tracks k) here.0 ∙ at.is_info

      left_same : w1.content.leaving ≡ w.content.leaving
      left_same = ap (λ (x : Content). x.leaving) by_same

      is_noted : IsNoted file tree m turn.track n.planned.count at.left w1
      is_noted = record {
        t = at.t;
        walk = it.walk;
        is_walk = there_now;
        reduction = (λ i. slice_get (by_same i).of_tracks.items turn.track) ∙ by_there ∙ ap (λ (l : Without). Some (track_reduction l file tree at.t)) (sym left_same);
        comes = subst (λ (l : Without). ComesMarked (track_reduction l file tree at.t) file tree at.t m it.walk n.planned.count at.left) (sym left_same) it.comes;
        none = it.none;
        next = ap (λ v. slice_get v.items turn.track) keeps.2 ∙ next_there;
        rows = it.rows;
        stretches = it.stretches;
      }

      -- it is not taken along whole
      pub carry_stops : (last : Y) → ((samples : List SampleAt) → IsNoted file tree m turn.track n.planned.count samples w1 → (info : TrackInfo) → slice_get m.tracks turn.track ≡ Some info → AreApart (keys_seen info.keys)
          → TakesPrefix (takes after last) (waiting w1.carrier ++ turn_bytes file n.head n.planned (keys_seen info.keys) (take n.planned.count samples))) → TakesPrefix (takes before last) (normal (remaining leaving (presentation_of file tree)))
      carry_stops last f =
          let q = f at.left is_noted at.info info_there at.keys.apart in
          let own = subst (λ (hd : Option PieceHead). TakesPrefix (takes after last) (waiting w1.carrier ++ turn_bytes file hd n.planned (keys_seen at.info.keys) (take n.planned.count at.left))) head_is q in
          let same = subst (λ (c : OutBuffer). TakesPrefix (takes after last) (waiting c ++ turn_bytes file (turn_head sequence (id_left leaving (s.track + 1) at.info.id) n.planned.count (slice_get at.left 0)) n.planned (keys_seen at.info.keys) (take n.planned.count at.left))) keeps.0 own in
          turn_stops leaving file tree m s sequence sent w.walks.items w.nexts.items (length w.notes.rows.items) joins before after (waiting w.carrier) h at n.planned planned_is few last same

      -- its samples lie in the file, with as many bytes as were planned
      pub carry_lacks : (X : Type 0) → ((samples : List SampleAt) → IsNoted file tree m turn.track n.planned.count samples w1 → AreThere file n.planned.count n.planned.bytes samples → X) → X
      carry_lacks X f =
          f at.left is_noted
          (record {
            many = subst (λ k. k ≤ length at.left) (sym counted) (piece_within end at.left);
            sizes = ap (λ (q : Planned). q.bytes) planned_is ∙ piece_bytes end at.left ∙ ap (λ k. sum_of (λ (x : SampleAt). x.size) (take k at.left)) (sym counted);
            below = at.below;
          })

      module _ (w2 : Writer) (next : Option SampleAt) (copied : (samples : List SampleAt) → (k : IsNoted file tree m turn.track n.planned.count samples w1) → HaveCopied file tree m k.t turn.track n.planned.count samples w1 w2)
          (read : (x : Option SampleAt) → slice_get w2.nexts.items turn.track ≡ Some x → next ≡ x) where
        done : HaveCopied file tree m at.t turn.track n.planned.count at.left w1 w2
        unfolding at is_noted
        done = copied at.left is_noted

        next_is : next ≡ slice_get (samples_after (piece_from end) at.left) 0
        next_is = read (slice_get (drop n.planned.count at.left) 0) (ap (λ (xs : List (Option SampleAt)). slice_get xs turn.track) (done.2 ∙ ap (λ v. slice_set v.items turn.track (slice_get (drop n.planned.count at.left) 0)) keeps.2)
            ∙ set_there w.nexts.items turn.track (slice_get at.left 0) (slice_get (drop n.planned.count at.left) 0) next_there) ∙ ap (λ (ss : List SampleAt). slice_get ss 0) rest_is

        -- the schedule goes on
        pub pass_lacks : IsDueAt (tracks_left leaving (divisors_of leaving file tree) m.tracks) w.nexts.items s w.due → Sticks s n.planned.count next → ⊥
        pass_lacks due k =
            let count = subst (λ c. Sticks s c next) counted k in
            let goes_in = due_here (infos_left leaving (divisors_of leaving file tree) m.tracks) w.nexts.items s w.due (info_left leaving (s.track + 1) (divisor_at (divisors_of leaving file tree) s.track) at.info) (slice_get at.left 0) due (left_scales leaving file m tree o) here.1
            (info_at leaving (divisors_of leaving file tree) m.tracks s.track at.info at.is_info) at.shown in
            turn_moves file (infos_left leaving (divisors_of leaving file tree) m.tracks) s h.lefts h.comings (info_left leaving (s.track + 1) (divisor_at (divisors_of leaving file tree) s.track) at.info) at.left at.taken goes_in
            (subst (λ (x : Option SampleAt). Sticks s (more_of (piece_from end) at.left) x) next_is count)

        -- the next samples are the same but for one
        nexts_are : w2.nexts.items ≡ slice_set w.nexts.items s.track next
        nexts_are = done.2 ∙ (λ i. slice_set (keeps.2 i).items (here.0 i) ((ap (λ (ss : List SampleAt). slice_get ss 0) rest_is ∙ sym next_is) i))

        -- what is so of them, by what the leaves say
        pub with_times : (P : List (Option SampleAt) → Type 0) → IsDueAt (tracks_left leaving (divisors_of leaving file tree) m.tracks) w.nexts.items s w.due → w2.due ≡ w1.due →
            ((nexts : List (Option SampleAt)) → AreTimes (tracks_left leaving (divisors_of leaving file tree) m.tracks) nexts s.first w2.due → P (slice_set nexts s.track next)) → P w2.nexts.items
        with_times P due same f =
            let times = subst (λ (e : DueTracks). AreTimes (tracks_left leaving (divisors_of leaving file tree) m.tracks) w.nexts.items s.first e) (sym (same ∙ keeps.3)) due.times in
            subst P (sym nexts_are) (f w.nexts.items times)

        -- the turn behind it
        pub turn_goes : (last : Y) (later : Schedule) → ((samples : List SampleAt) → IsNoted file tree m turn.track n.planned.count samples w1 → (info : TrackInfo) → slice_get m.tracks turn.track ≡ Some info → AreApart (keys_seen info.keys)
            → BytesGoOn (takes after last) (waiting w1.carrier) (waiting w2.carrier) (turn_bytes file n.head n.planned (keys_seen info.keys) (take n.planned.count samples)))
            → (w2.notes.rows ≡ w1.notes.rows) × (w2.due ≡ w1.due)
            → later ≡ turned s turn.end n.planned.count next → WritesOn leaving file tree m later (sequence_behind sequence n.head) (sent + n.planned.bytes) w2.walks.items w2.nexts.items (length w2.notes.rows.items) (takes before last) (waiting w2.carrier)
        turn_goes last later put kept is =
            let q = put at.left is_noted at.info info_there at.keys.apart in
            let own = subst (λ (hd : Option PieceHead). BytesGoOn (takes after last) (waiting w1.carrier) (waiting w2.carrier) (turn_bytes file hd n.planned (keys_seen at.info.keys) (take n.planned.count at.left))) head_is q in
            let same = subst (λ (c : OutBuffer). BytesGoOn (takes after last) (waiting c) (waiting w2.carrier)
            (turn_bytes file (turn_head sequence (id_left leaving (s.track + 1) at.info.id) n.planned.count (slice_get at.left 0)) n.planned (keys_seen at.info.keys) (take n.planned.count at.left))) keeps.0 own in
            let comes = subst (λ (l : Without). ComesLess (track_reduction l file tree at.t) file tree at.t m done.0 (drop n.planned.count at.left)) (left_same ∙ same_leaving) done.3 in
            let comes_rest = subst (λ (ss : List SampleAt). ComesLess (track_reduction leaving file tree at.t) file tree at.t m done.0 ss) rest_is comes in
            let marked = subst (λ (ss : List SampleAt). done.0.mark ≡ mark_of done.0 (length ss)) rest_is done.4 in
            let on = turn_over leaving file tree m s sequence sent w.walks.items w.nexts.items (length w.notes.rows.items) joins before after (waiting w.carrier) h at n.planned planned_is few done.0 last (waiting w2.carrier) comes_rest marked same in
            let walks : slice_set w.walks.items s.track done.0 ≡ w2.walks.items = sym (done.1 ∙ ap (λ (ws : List Walk). slice_set ws turn.track done.0) it.walks ∙ set_twice w.walks.items turn.track it.walk done.0 ∙ ap (λ k. slice_set w.walks.items k done.0) here.0) in
            let rows : length w.notes.rows.items ≡ length w2.notes.rows.items = sym (ap (λ v. length v.items) kept.0 ∙ keeps.1) in
            let number : sequence_behind sequence (turn_head sequence (id_left leaving (s.track + 1) at.info.id) n.planned.count (slice_get at.left 0)) ≡ sequence_behind sequence n.head = ap (sequence_behind sequence) (sym head_is) in
            let schedule : turned s end n.planned.count (slice_get (samples_after (piece_from end) at.left) 0) ≡ later = (λ i. turned s (sym end_is i) n.planned.count (sym next_is i)) ∙ sym is in
            let nexts : slice_set w.nexts.items s.track (slice_get (samples_after (piece_from end) at.left) 0) ≡ w2.nexts.items = sym (done.2 ∙ (λ i. slice_set (keeps.2 i).items (here.0 i) (slice_get (rest_is i) 0))) in
            subst (λ (k : ℕ). WritesOn leaving file tree m later (sequence_behind sequence n.head) (sent + n.planned.bytes) w2.walks.items w2.nexts.items k (takes before last) (waiting w2.carrier)) rows
            (subst (λ (xs : List (Option SampleAt)). WritesOn leaving file tree m later (sequence_behind sequence n.head) (sent + n.planned.bytes) w2.walks.items xs (length w.notes.rows.items) (takes before last) (waiting w2.carrier)) nexts
            (subst (λ (ws : List Walk). WritesOn leaving file tree m later (sequence_behind sequence n.head) (sent + n.planned.bytes) ws (slice_set w.nexts.items s.track (slice_get (samples_after (piece_from end) at.left) 0)) (length w.notes.rows.items) (takes before last) (waiting w2.carrier))
            walks
            (subst (λ (k : ℕ). WritesOn leaving file tree m later k (sent + n.planned.bytes) (slice_set w.walks.items s.track done.0) (slice_set w.nexts.items s.track (slice_get (samples_after (piece_from end) at.left) 0)) (length w.notes.rows.items) (takes before last) (waiting w2.carrier)) number
            (subst (λ (r : Schedule). WritesOn leaving file tree m r (sequence_behind sequence (turn_head sequence (id_left leaving (s.track + 1) at.info.id) n.planned.count (slice_get at.left 0))) (sent + n.planned.bytes)
            (slice_set w.walks.items s.track done.0) (slice_set w.nexts.items s.track (slice_get (samples_after (piece_from end) at.left) 0)) (length w.notes.rows.items) (takes before last) (waiting w2.carrier)) schedule on))))
