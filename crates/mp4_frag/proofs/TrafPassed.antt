-- A `traf` whose runs and `sbgp`s were checked.
use Rattle.std.proofs.Common.{◌≡◌, ℕ, zero, suc, ◌<◌, ◌==◌, Bool, true, false, cond, List, [], ◌∷◌, ◌++◌, length, take, map, Option, Some, None, IsTrue, refl, sym, ap, subst, ◌∙◌, rules, arith, slice_set, slice_index_or, length-append}
use Rattle.std.specs.Prelude.{ℤ, codes, bytes_eq, unwrap_or, option_map, find, flat_map}
use Rattle.std.specs.List.{AllByRecursion, slice_get}
use Rattle.std.proofs.lemmas.List.{append_assoc}
use Rattle.mp4_boxes.specs.format.Box.{Box}
use Rattle.mp4_boxes.specs.format.Children.{of_kind, payload_if, payload_of}
use Rattle.mp4_boxes.specs.format.Layout.{Leaf, tfhd, tfdt, trun, sbgp, row_count, IsSound, IsReadable}
use Rattle.mp4_boxes.specs.format.Places.{ruled, IsSoundAs, AreSound}
use Rattle.mp4_boxes.specs.declared.rule.Rule.TheVariants as rules
use Rattle.mp4_tables.specs.format.Groups.{GroupKey, Grouping, GroupRule, grouping_of, groupings_of, group_test, keeps}
use Rattle.mp4_tables.specs.format.PlainSamples.{PlacedSample}
use Rattle.mp4_frag.specs.format.Fragments.{TrackFragment, sample_run_of}
use Rattle.mp4_frag.specs.format.FragmentSamples.{run_samples, runs_samples, runs_end, end_of_data, duration_of, bytes_of}
use Rattle.mp4_frag.specs.format.FragmentRules.{is_within}
use Rattle.mp4_frag.specs.words.GroupsJudged.{AreGroupsSound}
use Rattle.mp4_frag.specs.words.Reading.{inheritance}
use Rattle.mp4_frag.specs.words.RunsJudged.{run_begins, run_ends, AreRunsSound, all_end, runs_total, runs_lasting, runs_filling}
use Rattle.mp4_frag.specs.declared.trex.Trex.{Trex}
use Rattle.mp4_tables.specs.format.Groups.{maps_of}
use Rattle.mp4_frag.specs.format.Fragments.{track_fragment_of}
use Rattle.mp4_frag.specs.format.FragmentSamples.{base_of, part_samples}
use Rattle.mp4_frag.specs.words.Judged.{part_with, IsTrafSound}
use Rattle.mp4_frag.specs.words.Reading.{IsHead, as_traf}
use Rattle.mp4_frag.specs.words.Walks.{head_of, trex_among}
use Rattle.mp4_frag.specs.declared.heads.TrafHead.{TrafHead}
use Rattle.mp4_frag.specs.declared.heads.Inherited.{Inherited}
use Rattle.mp4_frag.specs.declared.state.TrackState.{TrackState}
use Rattle.mp4_frag.proofs.LeavesRead.{head_is, got}
use Rattle.mp4_frag.proofs.RunsTied.{run_in, duration-append, bytes-append}
use Rattle.mp4_frag.proofs.SamplesOfRows.{within_is, lasting_is, end_is, filling_is}
use Rattle.mp4_frag.proofs.DurationsKept.{rows_count}
use Rattle.mp4_frag.proofs.SaidSamples.{rows_said}
use Rattle.mp4_tables.proofs.Counts.{groups_length}

-- ---- runs

abbrev pub samples_at : TrackFragment → Trex → ℤ → ℤ → Box → List PlacedSample
samples_at traf trex base before b = run_samples trex traf (sample_run_of b.payload).first_sample_flags (run_begins base before b.payload) (sample_run_of b.payload).rows

pub ends_are : (traf : TrackFragment) (trex : Trex) (base before : ℤ) (b : Box) → end_of_data (run_begins base before b.payload) (samples_at traf trex base before b) ≡ run_ends (inheritance traf trex) base before b.payload
ends_are traf trex base before b = end_is trex traf (sample_run_of b.payload).first_sample_flags (run_begins base before b.payload) (sample_run_of b.payload).rows

-- their samples lie in the file
pub runs_placed : (L : ℕ) (traf : TrackFragment) (trex : Trex) (base before : ℤ) (runs : List Box) → AreRunsSound L (inheritance traf trex) base before runs → AllByRecursion (λ samples. IsTrue (is_within L samples)) (runs_samples trex traf base before (map run_in runs))
runs_placed L traf trex base before [] h = tt
runs_placed L traf trex base before (b ∷ runs) h =
    let run = sample_run_of b.payload in (
      within_is L trex traf run.first_sample_flags (run_begins base before b.payload) run.rows ∙ h.0.within,
      runs_placed L traf trex base (end_of_data (run_begins base before b.payload) (samples_at traf trex base before b)) runs
          (subst (λ (place : ℤ). AreRunsSound L (inheritance traf trex) base place runs) (sym (ends_are traf trex base before b)) h.1),
    )

-- where their data ends
pub runs_end_are : (traf : TrackFragment) (trex : Trex) (base before : ℤ) (runs : List Box) → all_end (inheritance traf trex) base before runs ≡ runs_end trex traf base before (map run_in runs)
runs_end_are traf trex base before [] = refl
runs_end_are traf trex base before (b ∷ runs) =
    ap (λ (place : ℤ). all_end (inheritance traf trex) base place runs) (sym (ends_are traf trex base before b)) ∙ runs_end_are traf trex base (end_of_data (run_begins base before b.payload) (samples_at traf trex base before b)) runs

-- how many samples they have
pub runs_count : (traf : TrackFragment) (trex : Trex) (base before : ℤ) (runs : List Box) → runs_total runs ≡ length (flat_map (λ samples. samples) (runs_samples trex traf base before (map run_in runs)))
runs_count traf trex base before [] = refl
runs_count traf trex base before (b ∷ runs) =
    let samples = samples_at traf trex base before b in
    let more = flat_map (λ samples. samples) (runs_samples trex traf base (end_of_data (run_begins base before b.payload) samples) (map run_in runs)) in
    let one : length samples ≡ row_count trun b.payload = rows_said trex traf (sample_run_of b.payload).first_sample_flags (run_begins base before b.payload) (sample_run_of b.payload).rows ∙ rows_count (row_count trun b.payload) _ _ _ in
    let others = runs_count traf trex base (end_of_data (run_begins base before b.payload) samples) runs in
    let both = length-append samples more in
    omega arith

-- and how long they last
pub runs_last : (traf : TrackFragment) (trex : Trex) (base before : ℤ) (runs : List Box) → runs_lasting (inheritance traf trex) runs ≡ duration_of (flat_map (λ samples. samples) (runs_samples trex traf base before (map run_in runs)))
runs_last traf trex base before [] = refl
runs_last traf trex base before (b ∷ runs) =
    let samples = samples_at traf trex base before b in
    let more = flat_map (λ samples. samples) (runs_samples trex traf base (end_of_data (run_begins base before b.payload) samples) (map run_in runs)) in
    let one = lasting_is trex traf (sample_run_of b.payload).first_sample_flags (run_begins base before b.payload) (sample_run_of b.payload).rows in
    let others = runs_last traf trex base (end_of_data (run_begins base before b.payload) samples) runs in
    let both = duration-append samples more in
    omega arith

-- and how many bytes they take
pub runs_fill : (traf : TrackFragment) (trex : Trex) (base before : ℤ) (runs : List Box) → runs_filling (inheritance traf trex) runs ≡ bytes_of (flat_map (λ samples. samples) (runs_samples trex traf base before (map run_in runs)))
runs_fill traf trex base before [] = refl
runs_fill traf trex base before (b ∷ runs) =
    let samples = samples_at traf trex base before b in
    let more = flat_map (λ samples. samples) (runs_samples trex traf base (end_of_data (run_begins base before b.payload) samples) (map run_in runs)) in
    let one = filling_is trex traf (sample_run_of b.payload).first_sample_flags (run_begins base before b.payload) (sample_run_of b.payload).rows in
    let others = runs_fill traf trex base (end_of_data (run_begins base before b.payload) samples) runs in
    let both = bytes-append samples more in
    omega arith

-- ---- groups

group_kept : (n : ℕ) (keys : List GroupKey) (before : List Grouping) (boxes : List Box) (rule : GroupRule) (k : ℕ) (g : Grouping) → AreGroupsSound n keys before boxes → slice_get (groupings_of boxes) k ≡ Some g → IsTrue (keeps rule n keys (before ++ take k (groupings_of boxes)) g)
group_kept n keys before [] rule k g h e = absurd cc
group_kept n keys before (b ∷ boxes) rule zero g h e =
    let same : grouping_of b.payload ≡ g = cc in
    let none : before ++ [] ≡ before = search rules in
    subst (λ (bs : List Grouping). IsTrue (keeps rule n keys bs g)) (sym none) (subst (λ (x : Grouping). IsTrue (keeps rule n keys before x)) same (h.0.rules rule))
group_kept n keys before (b ∷ boxes) rule (suc k) g h e =
    let more = group_kept n keys (before ++ grouping_of b.payload ∷ []) boxes rule k g h.1 e in
    subst (λ (bs : List Grouping). IsTrue (keeps rule n keys bs g)) (append_assoc before (grouping_of b.payload ∷ []) (take k (groupings_of boxes))) more

test_by : (n : ℕ) (keys : List GroupKey) (gs : List Grouping) (rule : GroupRule) (k : ℕ) (o : Option Grouping) → slice_get gs k ≡ o → ((g : Grouping) → slice_get gs k ≡ Some g → IsTrue (keeps rule n keys (take k gs) g)) → IsTrue (group_test rule n keys gs k)
test_by n keys gs rule k None e h = rw e refl
test_by n keys gs rule k (Some g) e h = rw e (h g e)

-- each `sbgp` keeps the rules
pub rules_kept : (n : ℕ) (keys : List GroupKey) (boxes : List Box) → AreGroupsSound n keys [] boxes → (rule : GroupRule) (k : ℕ) → IsTrue (group_test rule n keys (groupings_of boxes) k)
rules_kept n keys boxes h rule k = test_by n keys (groupings_of boxes) rule k (slice_get (groupings_of boxes) k) refl (λ g e. group_kept n keys [] boxes rule k g h e)

pub groups_readable : (n : ℕ) (keys : List GroupKey) (before : List Grouping) (boxes : List Box) → AreGroupsSound n keys before boxes → AllByRecursion (λ (b : Box). IsReadable sbgp b.payload) boxes
groups_readable n keys before [] h = tt
groups_readable n keys before (b ∷ boxes) h = (h.0.readable, groups_readable n keys (before ++ grouping_of b.payload ∷ []) boxes h.1)

-- ---- leaves

pub head_sound : (payload : List ℕ) → IsReadable tfhd payload → IsSound tfhd payload
head_sound payload r = record { readable = r; value = refl; inside = refl; offsets = refl }

pub group_is_sound : (payload : List ℕ) → IsReadable sbgp payload → IsSound sbgp payload
group_is_sound payload r = record { readable = r; value = refl; inside = refl; offsets = refl }

abbrev AllOf : List ℕ → Leaf → List Box → Type 0
AllOf kind leaf boxes = AllByRecursion (λ (b : Box). IsSound leaf b.payload) (of_kind kind boxes)

-- each leaf is sound
pub leaves_sound : (boxes : List Box) → AllOf (codes "tfhd") tfhd boxes → AllOf (codes "tfdt") tfdt boxes → AllOf (codes "trun") trun boxes → AllByRecursion (λ (b : Box). IsReadable sbgp b.payload) (of_kind (codes "sbgp") boxes) → AreSound (ruled rules.TrackFragment) boxes
leaves_sound [] h t r g = tt
leaves_sound (b ∷ boxes) h t r g =
    choice (bytes_eq (codes "tfhd") b.kind) (bytes_eq (codes "tfdt") b.kind) (bytes_eq (codes "trun") b.kind) (bytes_eq (codes "sbgp") b.kind) h t r g (λ h' t' r' g'. leaves_sound boxes h' t' r' g')
  where
    choice : (u v x y : Bool) → AllByRecursion (λ (c : Box). IsSound tfhd c.payload) (cond u (b ∷ of_kind (codes "tfhd") boxes) (of_kind (codes "tfhd") boxes))
        → AllByRecursion (λ (c : Box). IsSound tfdt c.payload) (cond v (b ∷ of_kind (codes "tfdt") boxes) (of_kind (codes "tfdt") boxes))
        → AllByRecursion (λ (c : Box). IsSound trun c.payload) (cond x (b ∷ of_kind (codes "trun") boxes) (of_kind (codes "trun") boxes))
        → AllByRecursion (λ (c : Box). IsReadable sbgp c.payload) (cond y (b ∷ of_kind (codes "sbgp") boxes) (of_kind (codes "sbgp") boxes))
        → (AllOf (codes "tfhd") tfhd boxes → AllOf (codes "tfdt") tfdt boxes → AllOf (codes "trun") trun boxes → AllByRecursion (λ (c : Box). IsReadable sbgp c.payload) (of_kind (codes "sbgp") boxes) → AreSound (ruled rules.TrackFragment) boxes)
        → IsSoundAs (cond u (Some tfhd) (cond v (Some tfdt) (cond x (Some trun) (cond y (Some sbgp) None)))) b.payload × AreSound (ruled rules.TrackFragment) boxes
    choice u v x y p q r s more = (this u v x y p q r s, more (rest_of (λ (c : Box). IsSound tfhd c.payload) _ u p) (rest_of (λ (c : Box). IsSound tfdt c.payload) _ v q) (rest_of (λ (c : Box). IsSound trun c.payload) _ x r) (rest_of (λ (c : Box). IsReadable sbgp c.payload) _ y s))
      where
        rest_of : (P : Box → Type 0) (kept : List Box) (w : Bool) → AllByRecursion P (cond w (b ∷ kept) kept) → AllByRecursion P kept
        rest_of P kept true k = k.1
        rest_of P kept false k = k

        this : (u v x y : Bool) → AllByRecursion (λ (c : Box). IsSound tfhd c.payload) (cond u (b ∷ of_kind (codes "tfhd") boxes) (of_kind (codes "tfhd") boxes))
            → AllByRecursion (λ (c : Box). IsSound tfdt c.payload) (cond v (b ∷ of_kind (codes "tfdt") boxes) (of_kind (codes "tfdt") boxes))
            → AllByRecursion (λ (c : Box). IsSound trun c.payload) (cond x (b ∷ of_kind (codes "trun") boxes) (of_kind (codes "trun") boxes))
            → AllByRecursion (λ (c : Box). IsReadable sbgp c.payload) (cond y (b ∷ of_kind (codes "sbgp") boxes) (of_kind (codes "sbgp") boxes))
            → IsSoundAs (cond u (Some tfhd) (cond v (Some tfdt) (cond x (Some trun) (cond y (Some sbgp) None)))) b.payload
        this true v x y p q r s = p.0
        this false true x y p q r s = q.0
        this false false true y p q r s = r.0
        this false false false true p q r s = group_is_sound b.payload s.0
        this false false false false p q r s = tt

-- ---- heads

payload_by : (kind : List ℕ) (b c : Box) (boxes kept : List Box) (o : Option (List ℕ)) (v : Bool) → cond v (c ∷ kept) kept ≡ b ∷ [] → (kept ≡ b ∷ [] → o ≡ Some b.payload) → cond v (Some c.payload) o ≡ Some b.payload
payload_by kind b c boxes kept o true e h = let same : c ≡ b = cc in ap (λ (x : Box). Some x.payload) same
payload_by kind b c boxes kept o false e h = h e

-- the payload of the only box of a type
pub payload_there : (kind : List ℕ) (b : Box) (boxes : List Box) → of_kind kind boxes ≡ b ∷ [] → payload_if kind boxes ≡ Some b.payload
payload_there kind b [] e = absurd cc
payload_there kind b (c ∷ boxes) e = payload_by kind b c boxes (of_kind kind boxes) (payload_if kind boxes) (bytes_eq kind c.kind) e (payload_there kind b boxes)

pub payload_is : (kind : List ℕ) (b : Box) (boxes : List Box) → of_kind kind boxes ≡ b ∷ [] → payload_of kind boxes ≡ b.payload
payload_is kind b boxes e = ap (λ (o : Option (List ℕ)). unwrap_or o []) (payload_there kind b boxes e)

-- the only box of a type, if there is one, is sound
pub only_sound : (kind : List ℕ) (leaf : Leaf) (b : Box) (boxes : List Box) → of_kind kind boxes ≡ b ∷ [] → IsSound leaf b.payload → AllByRecursion (λ (c : Box). IsSound leaf c.payload) (of_kind kind boxes)
only_sound kind leaf b boxes e s = subst (AllByRecursion (λ (c : Box). IsSound leaf c.payload)) (sym e) (s, tt)

runs_leaves : (L : ℕ) (inherited : Inherited) (base before : ℤ) (runs : List Box) → AreRunsSound L inherited base before runs → AllByRecursion (λ (b : Box). IsSound trun b.payload) runs
runs_leaves L inherited base before [] h = tt
runs_leaves L inherited base before (b ∷ runs) h = (h.0.sound, runs_leaves L inherited base (run_ends inherited base before b.payload) runs h.1)

-- ---- the whole `traf`

pub traf_sound : (L moof n : ℕ) (before base ends : ℤ) (tracks : List TrackState) (boxes : List Box) (b : Box) (head : TrafHead) (trex : Trex) (inherited : Inherited) (keys : List GroupKey)
    → of_kind (codes "tfhd") boxes ≡ b ∷ [] → IsHead b.payload head → trex_among tracks head.id ≡ Some trex → AllByRecursion (λ (c : Box). IsSound tfdt c.payload) (of_kind (codes "tfdt") boxes)
    → base ≡ base_of moof before (as_traf head) → inherited ≡ inheritance (as_traf head) trex
    → AreRunsSound L inherited base base (of_kind (codes "trun") boxes) → ends ≡ all_end inherited base base (of_kind (codes "trun") boxes) → n ≡ runs_total (of_kind (codes "trun") boxes)
    → AreGroupsSound n keys [] (of_kind (codes "sbgp") boxes) → IsTrafSound L moof before tracks boxes ends
traf_sound L moof n before base ends tracks boxes b head trex inherited keys one h known times eb ei sound ee en groups =
    let traf = track_fragment_of boxes in
    let runs = of_kind (codes "trun") boxes in
    let there = payload_is (codes "tfhd") b boxes one in
    let same : as_traf head ≡ head_of (payload_of (codes "tfhd") boxes) = head_is b.payload head h ∙ ap head_of (sym there) in
    let from : base ≡ base_of moof before traf = eb ∙ ap (base_of moof before) same in
    let taken : inherited ≡ inheritance traf trex = ei ∙ ap (λ (t : TrackFragment). inheritance t trex) same in
    let start = base_of moof before traf in
    let all : AreRunsSound L (inheritance traf trex) start start runs = subst (λ (inh : Inherited). AreRunsSound L inh start start runs) taken (subst (λ (place : ℤ). AreRunsSound L inherited place place runs) from sound) in
    let end : ends ≡ all_end (inheritance traf trex) start start runs = ee ∙ (λ i. all_end (taken i) (from i) (from i) runs) in
    let part = part_with moof before trex traf in
    let flat = flat_map (λ samples. samples) part.runs in
    let count : n ≡ length (part_samples part) = en ∙ runs_count traf trex start start runs ∙ sym (groups_length (maps_of (length flat) part.groups) flat) in
    record {
      leaves = leaves_sound boxes (only_sound (codes "tfhd") tfhd b boxes one (head_sound b.payload h.readable)) times (runs_leaves L inherited base base runs sound) (groups_readable n keys [] (of_kind (codes "sbgp") boxes) groups);
      trex = trex;
      known = ap (λ (t : TrackFragment). trex_among tracks t.id) (sym same) ∙ known;
      places = runs_placed L traf trex start start runs all;
      groups = (keys, λ rule k. subst (λ m. IsTrue (group_test rule m keys part.groups k)) count (rules_kept n keys (of_kind (codes "sbgp") boxes) groups rule k));
      end = end ∙ runs_end_are traf trex start start runs;
    }

-- the track found has these defaults
pub found_trex : (tracks : List TrackState) (id k : ℕ) (d : TrackState) (trex : Trex) → k < length tracks → find (λ (t : TrackState). t.id == id) tracks ≡ slice_get tracks k → (slice_index_or tracks k d).trex ≡ Some trex → trex_among tracks id ≡ Some trex
found_trex tracks id k d trex lt f e = ap (λ (o : Option TrackState). unwrap_or (option_map (λ (t : TrackState). t.trex) o) None) (f ∙ got k tracks d lt) ∙ e

-- another state of a track with the same ID and defaults
first_same : (id : ℕ) (s t : TrackState) (more : Option TrackState) (u v : Bool) → u ≡ v → t.trex ≡ s.trex → unwrap_or (option_map (λ (x : TrackState). x.trex) (cond u (Some t) more)) None ≡ unwrap_or (option_map (λ (x : TrackState). x.trex) (cond v (Some s) more)) None
first_same id s t more true true e f = f
first_same id s t more true false e f = absurd cc
first_same id s t more false true e f = absurd cc
first_same id s t more false false e f = refl

later_same : (s : TrackState) (more less : Option TrackState) (v : Bool) → unwrap_or (option_map (λ (x : TrackState). x.trex) more) None ≡ unwrap_or (option_map (λ (x : TrackState). x.trex) less) None
    → unwrap_or (option_map (λ (x : TrackState). x.trex) (cond v (Some s) more)) None ≡ unwrap_or (option_map (λ (x : TrackState). x.trex) (cond v (Some s) less)) None
later_same s more less true e = refl
later_same s more less false e = e

pub trex_same : (tracks : List TrackState) (k : ℕ) (d t : TrackState) (id : ℕ) → k < length tracks → t.id ≡ (slice_index_or tracks k d).id → t.trex ≡ (slice_index_or tracks k d).trex → trex_among (slice_set tracks k t) id ≡ trex_among tracks id
trex_same [] k d t id lt e f = refl
trex_same (s ∷ tracks) zero d t id lt e f = first_same id s t (find (λ (u : TrackState). u.id == id) tracks) (t.id == id) (s.id == id) (ap (λ n. n == id) e) f
trex_same (s ∷ tracks) (suc k) d t id lt e f = later_same s (find (λ (u : TrackState). u.id == id) (slice_set tracks k t)) (find (λ (u : TrackState). u.id == id) tracks) (s.id == id) (trex_same tracks k d t id (omega arith) e f)
