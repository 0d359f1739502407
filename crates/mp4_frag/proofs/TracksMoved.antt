-- How a track moves on by a `traf`.
use Rattle.std.proofs.Common.{◌≡◌, ℕ, zero, suc, ◌+◌, ◌<◌, ◌≤◌, ◌==◌, ◌&&◌, ◌||◌, not, nat_lt, Bool, true, false, cond, List, [], ◌∷◌, ◌++◌, length, take, map, Option, Some, None, IsTrue, refl, sym, ap, subst, ◌∙◌, rules, arith, slice_set, slice_index_or}
use Rattle.std.specs.Prelude.{ℤ, codes, bytes_eq, unwrap_or, option_map, flat_map, find}
use Rattle.std.specs.List.{list_all, slice_get}
use Rattle.mp4_boxes.specs.format.Box.{Box}
use Rattle.mp4_boxes.specs.format.Children.{of_kind, payload_if, payload_of}
use Rattle.mp4_tables.specs.format.Groups.{Groups, groupings_of, keys_after, maps_of, group_test}
use Rattle.mp4_tables.specs.words.Keys.{keys_seen}
use Rattle.mp4_tables.specs.format.PlainSamples.{PlacedSample, with_groups}
use Rattle.mp4_tables.specs.format.TableRules.{is_index}
use Rattle.mp4_tables.specs.declared.keys.Keys.{Keys}
use Rattle.mp4_frag.specs.format.Fragments.{RunRow, SampleRun, TrackFragment, track_fragment_of, decode_time_of}
use Rattle.mp4_frag.specs.format.FragmentSamples.{Part, run_samples, runs_samples, part_samples, has_samples, duration_of, bytes_of, base_of, run_start, end_of_data}
use Rattle.mp4_frag.specs.words.GroupsJudged.{AreGroupsSound}
use Rattle.mp4_frag.specs.words.Judged.{part_with, TrackSeen, track_seen, track_behind, IsMovedOn}
use Rattle.mp4_frag.specs.words.Passing.{is_late_at, start_with, due_with}
use Rattle.mp4_frag.specs.words.Reading.{IsHead, as_traf, inheritance}
use Rattle.mp4_frag.specs.words.RunsJudged.{runs_total, runs_lasting, runs_filling}
use Rattle.mp4_frag.specs.words.Walks.{head_of}
use Rattle.mp4_frag.specs.declared.heads.TrafHead.{TrafHead}
use Rattle.mp4_frag.specs.declared.heads.Inherited.{Inherited}
use Rattle.mp4_frag.specs.declared.state.TrackState.{TrackState}
use Rattle.mp4_frag.specs.declared.trex.Trex.{Trex}
use Rattle.mp4_frag.proofs.LeavesRead.{head_is, got}
use Rattle.mp4_frag.proofs.RunsTied.{duration_grouped, bytes_grouped}
use Rattle.mp4_frag.proofs.TrafPassed.{runs_count, runs_last, runs_fill, rules_kept, payload_is, payload_there}
use Rattle.mp4_tables.proofs.Counts.{groups_length}

-- ---- descriptions

abbrev pub IsTested : (ℕ → Bool) → List PlacedSample → Type 0
IsTested test samples = list_all (λ (s : PlacedSample). test s.description) samples ≡ true

run_tested : (test : ℕ → Bool) (trex : Trex) (traf : TrackFragment) (first : Option ℕ) (at : ℤ) (rows : List RunRow) → test (unwrap_or traf.description trex.description) ≡ true → IsTested test (run_samples trex traf first at rows)
run_tested test trex traf first at [] e = refl
run_tested test trex traf first at (row ∷ rows) e = rw e (run_tested test trex traf None _ rows e)

join_tested : (test : ℕ → Bool) (xs ys : List PlacedSample) → IsTested test xs → IsTested test ys → IsTested test (xs ++ ys)
join_tested test [] ys h k = k
join_tested test (x ∷ xs) ys h k = step (test x.description) h (λ g. join_tested test xs ys g k)
  where
    step : (v : Bool) → (v && list_all (λ (s : PlacedSample). test s.description) xs) ≡ true → (IsTested test xs → IsTested test (xs ++ ys)) → (v && list_all (λ (s : PlacedSample). test s.description) (xs ++ ys)) ≡ true
    step true h more = more h
    step false h more = absurd cc

runs_tested : (test : ℕ → Bool) (trex : Trex) (traf : TrackFragment) (base before : ℤ) (runs : List SampleRun) → test (unwrap_or traf.description trex.description) ≡ true → IsTested test (flat_map (λ samples. samples) (runs_samples trex traf base before runs))
runs_tested test trex traf base before [] e = refl
runs_tested test trex traf base before (run ∷ runs) e =
    let start = run_start base before run.data_offset in
    let samples = run_samples trex traf run.first_sample_flags start run.rows in
    join_tested test samples (flat_map (λ ss. ss) (runs_samples trex traf base (end_of_data start samples) runs)) (run_tested test trex traf run.first_sample_flags start run.rows e) (runs_tested test trex traf base (end_of_data start samples) runs e)

groups_tested : (test : ℕ → Bool) (maps : List Groups) (xs : List PlacedSample) → IsTested test xs → IsTested test (with_groups maps xs)
groups_tested test [] [] h = refl
groups_tested test [] (x ∷ xs) h = h
groups_tested test (m ∷ maps) [] h = refl
groups_tested test (m ∷ maps) (x ∷ xs) h = step (test x.description) h (λ g. groups_tested test maps xs g)
  where
    step : (v : Bool) → (v && list_all (λ (s : PlacedSample). test s.description) xs) ≡ true → (IsTested test xs → IsTested test (with_groups maps xs)) → (v && list_all (λ (s : PlacedSample). test s.description) (with_groups maps xs)) ≡ true
    step true h more = more h
    step false h more = absurd cc

none_tested : (test : ℕ → Bool) (xs : List PlacedSample) → length xs ≡ 0 → IsTested test xs
none_tested test [] e = refl
none_tested test (x ∷ xs) e = absurd (omega arith)

pub part_tested : (test : ℕ → Bool) (moof : ℕ) (before : ℤ) (trex : Trex) (traf : TrackFragment) (v : Bool) → nat_lt 0 (length (part_samples (part_with moof before trex traf))) ≡ v → (v && not (test (unwrap_or traf.description trex.description))) ≡ false
    → IsTested test (part_samples (part_with moof before trex traf))
part_tested test moof before trex traf false e h = none_tested test (part_samples (part_with moof before trex traf)) (let le : length (part_samples (part_with moof before trex traf)) ≤ 0 = search rules in omega arith)
part_tested test moof before trex traf true e h =
    let samples = flat_map (λ ss. ss) (part_with moof before trex traf).runs in
    groups_tested test (maps_of (length samples) traf.groups) samples (runs_tested test trex traf (base_of moof before traf) (base_of moof before traf) traf.runs (yes (test (unwrap_or traf.description trex.description)) h))
  where
    yes : (w : Bool) → not w ≡ false → w ≡ true
    yes true k = refl
    yes false k = absurd cc

-- ---- times

on_time : (state : TrackState) (time : Option ℕ) (v : Bool) → 0 < state.count → (n : ℕ) → nat_lt 0 n ≡ v → is_late_at state time n ≡ false → (not v || unwrap_or (option_map (λ t. t == state.time) time) true) ≡ true
on_time state None true some n e h = refl
on_time state None false some n e h = refl
on_time state (Some t) false some n e h = refl
on_time state (Some t) true some n e h =
    let there : nat_lt 0 state.count ≡ true = search rules in
    let late : (true && (true && not (t == state.time))) ≡ false = rw (e, there) at h in
    yes (t == state.time) late
  where
    yes : (w : Bool) → not w ≡ false → w ≡ true
    yes true k = refl
    yes false k = absurd cc

-- ---- the state

seen_set : (tracks : List TrackState) (k : ℕ) (t : TrackState) → map track_seen (slice_set tracks k t) ≡ slice_set (map track_seen tracks) k (track_seen t)
seen_set [] zero t = refl
seen_set [] (suc k) t = refl
seen_set (s ∷ tracks) zero t = refl
seen_set (s ∷ tracks) (suc k) t = ap (λ (ts : List TrackSeen). track_seen s ∷ ts) (seen_set tracks k t)

behind_is : (state new : TrackState) (time : Option ℕ) (part : Part) (keys : Keys) (n lasts fills : ℕ) (v : Bool) → nat_lt 0 (length (part_samples part)) ≡ v → part.decode_time ≡ time → n ≡ length (part_samples part) → lasts ≡ duration_of (part_samples part) → fills ≡ bytes_of (part_samples part)
    → keys_seen keys ≡ keys_after (keys_seen state.keys) part.groups → (n ≡ 0 → new ≡ record state { keys = keys })
    → (0 < n → new ≡ record state { start = start_with state time; count = state.count + n; time = due_with state time + lasts; bytes = state.bytes + fills; keys = keys }) → track_seen new ≡ track_behind (track_seen state) part
behind_is state new time part keys n lasts fills true e et en ed ef ek none some =
    let there : 0 < length (part_samples part) = search rules in
    let lt : 0 < n = omega arith in
    ap track_seen (some lt)
    ∙ (λ i. record { id = state.id; descriptions = state.descriptions; trex = state.trex; start = start_with state (sym et i); count = state.count + en i; time = due_with state (sym et i) + ed i; bytes = state.bytes + ef i; keys = ek i })
    ∙ (rw e refl)
behind_is state new time part keys n lasts fills false e et en ed ef ek none some =
    let le : length (part_samples part) ≤ 0 = search rules in
    let zero_is : n ≡ 0 = omega arith in
    ap track_seen (none zero_is)
    ∙ (λ i. record { id = state.id; descriptions = state.descriptions; trex = state.trex; start = state.start; count = state.count; time = state.time; bytes = state.bytes; keys = ek i })
    ∙ (rw e refl)

payload_none : (kind : List ℕ) (boxes : List Box) → of_kind kind boxes ≡ [] → payload_if kind boxes ≡ None
payload_none kind [] e = refl
payload_none kind (c ∷ boxes) e = choice (bytes_eq kind c.kind) e (payload_none kind boxes)
  where
    choice : (v : Bool) → cond v (c ∷ of_kind kind boxes) (of_kind kind boxes) ≡ [] → (of_kind kind boxes ≡ [] → payload_if kind boxes ≡ None) → cond v (Some c.payload) (payload_if kind boxes) ≡ None
    choice true h more = absurd cc
    choice false h more = more h

-- the decode time of a `traf` that has no `tfdt`, and of one that has
pub no_time : (boxes : List Box) → of_kind (codes "tfdt") boxes ≡ [] → (track_fragment_of boxes).decode_time ≡ None
no_time boxes e = ap (option_map decode_time_of) (payload_none (codes "tfdt") boxes e)

pub its_time : (b : Box) (boxes : List Box) (time : ℕ) → of_kind (codes "tfdt") boxes ≡ b ∷ [] → time ≡ decode_time_of b.payload → (track_fragment_of boxes).decode_time ≡ Some time
its_time b boxes time e t = ap (option_map decode_time_of) (payload_there (codes "tfdt") b boxes e) ∙ ap Some (sym t)

-- ---- the whole `traf`

pub traf_moved : (moof n lasts fills k room less : ℕ) (before : ℤ) (tracks : List TrackState) (d state new : TrackState) (boxes : List Box) (b : Box) (head : TrafHead) (trex : Trex) (inherited : Inherited) (keys : Keys) (time : Option ℕ)
    → of_kind (codes "tfhd") boxes ≡ b ∷ [] → IsHead b.payload head → k < length tracks → find (λ (t : TrackState). t.id == head.id) tracks ≡ slice_get tracks k → find (λ (t : TrackState). t.id == head.id) (take k tracks) ≡ None → state ≡ slice_index_or tracks k d → state.trex ≡ Some trex
    → inherited ≡ inheritance (as_traf head) trex → n ≡ runs_total (of_kind (codes "trun") boxes) → lasts ≡ runs_lasting inherited (of_kind (codes "trun") boxes)
    → fills ≡ runs_filling inherited (of_kind (codes "trun") boxes)
    → AreGroupsSound n (keys_seen state.keys) [] (of_kind (codes "sbgp") boxes) → keys_seen keys ≡ keys_after (keys_seen state.keys) (groupings_of (of_kind (codes "sbgp") boxes))
    → (nat_lt 0 n && not (is_index state.descriptions inherited.description)) ≡ false → is_late_at state time n ≡ false → (track_fragment_of boxes).decode_time ≡ time
    → (n ≡ 0 → new ≡ record state { keys = keys })
    → (0 < n → new ≡ record state { start = start_with state time; count = state.count + n; time = due_with state time + lasts; bytes = state.bytes + fills; keys = keys })
    → n + less ≡ room → IsMovedOn moof before boxes tracks (slice_set tracks k new) room less
traf_moved moof n lasts fills k room less before tracks d state new boxes b head trex inherited keys time one h lt found before_it at defaults ei en el ez groups ek described late et none some taken =
    let traf = track_fragment_of boxes in
    let runs = of_kind (codes "trun") boxes in
    let start = base_of moof before traf in
    let same : as_traf head ≡ head_of (payload_of (codes "tfhd") boxes) = head_is b.payload head h ∙ ap head_of (sym (payload_is (codes "tfhd") b boxes one)) in
    let taken_over : inherited ≡ inheritance traf trex = ei ∙ ap (λ (t : TrackFragment). inheritance t trex) same in
    let part = part_with moof before trex traf in
    let flat = flat_map (λ samples. samples) part.runs in
    let count : n ≡ length (part_samples part) = en ∙ runs_count traf trex start start runs ∙ sym (groups_length (maps_of (length flat) part.groups) flat) in
    let lasting : lasts ≡ duration_of (part_samples part) = el ∙ ap (λ (inh : Inherited). runs_lasting inh runs) taken_over ∙ runs_last traf trex start start runs ∙ sym (duration_grouped (maps_of (length flat) part.groups) flat) in
    let filling : fills ≡ bytes_of (part_samples part) = ez ∙ ap (λ (inh : Inherited). runs_filling inh runs) taken_over ∙ runs_fill traf trex start start runs ∙ sym (bytes_grouped (maps_of (length flat) part.groups) flat) in
    let there : slice_get tracks k ≡ Some state = got k tracks d lt ∙ ap Some (sym at) in
    record {
      place = k;
      track = state;
      trex = trex;
      found = ap (λ (t : TrackFragment). find (λ (s : TrackState). s.id == t.id) tracks) (sym same) ∙ found ∙ there;
      there = there;
      first = ap (λ (t : TrackFragment). find (λ (s : TrackState). s.id == t.id) (take k tracks)) (sym same) ∙ before_it;
      defaults = defaults;
      due = record {
        indexes = part_tested (is_index state.descriptions) moof before trex traf (nat_lt 0 (length (part_samples part))) refl
            ((λ i. nat_lt 0 (sym count i) && not (is_index state.descriptions (sym taken_over i).description)) ∙ described);
        groups = λ rule j. subst (λ m. IsTrue (group_test rule m (keys_seen state.keys) part.groups j)) count (rules_kept n (keys_seen state.keys) (of_kind (codes "sbgp") boxes) groups rule j);
        time = λ came. ap (λ o. not (has_samples part) || unwrap_or (option_map (λ t. t == state.time) o) true) et ∙ on_time state time (has_samples part) came n (ap (nat_lt 0) count) late;
      };
      moved = seen_set tracks k new ∙ ap (slice_set (map track_seen tracks) k) (behind_is state new time part keys n lasts fills (nat_lt 0 (length (part_samples part))) refl et count lasting filling ek none some);
      taken = omega (arith, taken, count);
    }
