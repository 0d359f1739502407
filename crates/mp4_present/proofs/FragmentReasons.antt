-- Where a `traf` breaks a rule behind all that is as it should be, nothing is denoted.
use Rattle.std.proofs.Common.{◌≡◌, ℕ, zero, suc, ◌+◌, Bool, true, false, cond, List, [], ◌∷◌, ◌++◌, Option, Some, refl, sym, ap, subst, ◌∙◌, arith, eqb, eq-eqb, append_assoc}
use Rattle.std.specs.Prelude.{flat_map, find, not, ◌||◌, ◌==◌, IsTrue, slice_get, length, unwrap_or, option_map}
use Rattle.std.specs.List.{AllByRecursion}
use Rattle.mp4_boxes.specs.declared.fault.Fault.{Fault}
use Rattle.mp4_boxes.proofs.Among.{all_at}
use Rattle.mp4_boxes.proofs.Plain.{true_false}
use Rattle.mp4_tables.specs.format.PlainSamples.{PlacedSample}
use Rattle.mp4_frag.specs.format.FragmentSamples.{Part, part_samples, parts_for, has_samples, start_of, duration_of, is_on_time, AreOnTime, has_groups, keys_behind, AreGrouped}
use Rattle.mp4_frag.specs.format.FragmentRules.{is_known, has_indexes, is_within}
use Rattle.mp4_tables.specs.format.Groups.{GroupRule, GroupKey, keys_after}
use Rattle.mp4_head.specs.format.Tree.{TrackTree, MovieTree, track_head_of, trexes_of}
use Rattle.mp4_present.specs.format.Presentation.{Presentation}
use Rattle.mp4_present.specs.format.Denotes.{Denotes, track_infos, plain_of, plain_keys, file_parts, first_due}
use Rattle.mp4_present.specs.format.Stands.{StandsBy, fragment, Behind, earlier_parts, parts_with, FragmentRule, unknown_track, description_index, place, fragment_group, decode_time, PartFails}
use Rattle.mp4_present.proofs.Fronts.{begun, parts_begun}
use Rattle.std.proofs.lemmas.List.Elements.{All-from_recursion, All-contains}
use Rattle.mp4_frag.proofs.RunsTied.{duration-append}
use Rattle.mp4_tables.proofs.GroupMaps.{after-append}

-- what holds of each holds of the one at a place
all_got : {A : Type 0} (P : A → Type 0) (xs : List A) (k : ℕ) (x : A) → AllByRecursion P xs → slice_get xs k ≡ Some x → P x
all_got P [] k x h e = absurd cc
all_got {A} P (y ∷ ys) zero x h e = let s : ◌≡◌ {A = Option A} (Some y) (Some x) = e in let same : y ≡ x = cc in subst P same h.0
all_got P (y ∷ ys) (suc k) x h e = all_got P ys k x h.1 e

-- ---- decode times

sum_first : (a b c : ℕ) → (a + b) + c ≡ a + (b + c)
sum_first a b c = omega arith

sum_none : (a : ℕ) → a + 0 ≡ a
sum_none a = omega arith

-- where each time is the one due, so is that of a part behind others
on_time_at : (due : ℕ) (before after : List Part) (part : Part) → AreOnTime due (before ++ part ∷ after)
    → IsTrue (is_on_time (due + duration_of (flat_map part_samples before)) part)
on_time_at due [] after part h = subst (λ (n : ℕ). IsTrue (is_on_time n part)) (sym (sum_none due)) h.0
on_time_at due (b ∷ before) after part h =
    let r = on_time_at (due + duration_of (part_samples b)) before after part h.1 in
    let e = sum_first due (duration_of (part_samples b)) (duration_of (flat_map part_samples before)) ∙ ap (λ (n : ℕ). due + n) (sym (duration-append (part_samples b) (flat_map part_samples before))) in
    subst (λ (n : ℕ). IsTrue (is_on_time n part)) e r

for_choice : (id : ℕ) (c : Part) (xs ys : List Part) (v : Bool) → eqb c.id id ≡ v → parts_for id (xs ++ ys) ≡ parts_for id xs ++ parts_for id ys
    → parts_for id (c ∷ xs ++ ys) ≡ parts_for id (c ∷ xs) ++ parts_for id ys
for_choice id c xs ys true e h = rw e (ap (λ (ps : List Part). c ∷ ps) h)
for_choice id c xs ys false e h = rw e h

-- the parts of a track in two lists joined
pub for-append : (id : ℕ) (xs ys : List Part) → parts_for id (xs ++ ys) ≡ parts_for id xs ++ parts_for id ys
for-append id [] ys = refl
for-append id (c ∷ xs) ys = for_choice id c xs ys (eqb c.id id) refl (for-append id xs ys)

for_hit : (id : ℕ) (c : Part) (xs : List Part) → eqb c.id id ≡ true → parts_for id (c ∷ xs) ≡ c ∷ parts_for id xs
for_hit id c xs e = rw e refl

-- the first part with samples is the same whatever follows one with samples
found_first : (before xs ys : List Part) (part : Part) → has_samples part ≡ true → find has_samples (before ++ part ∷ xs) ≡ find has_samples (before ++ part ∷ ys)
found_first [] xs ys part e = rw e refl
found_first (c ∷ before) xs ys part e = ap (λ (o : Option Part). cond (has_samples c) (Some c) o) (found_first before xs ys part e)

pub start_by : (plain : List PlacedSample) (xs ys : List Part) → find has_samples xs ≡ find has_samples ys → start_of plain xs ≡ start_of plain ys
start_by (s ∷ plain) xs ys e = refl
start_by [] xs ys e = rw e refl

late_has : (due : ℕ) (part : Part) → is_on_time due part ≡ false → has_samples part ≡ true
late_has due part e = late (has_samples part) (unwrap_or (option_map (λ (time : ℕ). time == due) part.decode_time) true) e
  where
    late : (p q : Bool) → not p || q ≡ false → p ≡ true
    late true q e = refl
    late false q e = absurd cc

-- where the times of a track are those due, a part of it behind others is on time
in_time : (plain : List PlacedSample) (id : ℕ) (before more : List Part) (part : Part) → eqb part.id id ≡ true
    → AreOnTime (start_of plain (parts_for id ((before ++ part ∷ []) ++ more)) + duration_of plain) (parts_for id ((before ++ part ∷ []) ++ more))
    → is_on_time (start_of plain (parts_for id (before ++ part ∷ [])) + duration_of plain + duration_of (flat_map part_samples (parts_for id before))) part ≡ false → ⊥
in_time plain id before more part same h late =
    let mine : parts_for id (before ++ part ∷ []) ≡ parts_for id before ++ part ∷ [] = for-append id before (part ∷ []) ∙ ap (λ (ps : List Part). parts_for id before ++ ps) (for_hit id part [] same) in
    let all : parts_for id ((before ++ part ∷ []) ++ more) ≡ parts_for id before ++ part ∷ parts_for id more =
    ap (parts_for id) (append_assoc before (part ∷ []) more) ∙ for-append id before (part ∷ more) ∙ ap (λ (ps : List Part). parts_for id before ++ ps) (for_hit id part more same) in
    let has = late_has _ part late in
    let start : start_of plain (parts_for id ((before ++ part ∷ []) ++ more)) ≡ start_of plain (parts_for id (before ++ part ∷ [])) =
    ap (start_of plain) all ∙ start_by plain _ _ (found_first (parts_for id before) (parts_for id more) [] part has) ∙ sym (ap (start_of plain) mine) in
    let moved : AreOnTime (start_of plain (parts_for id (before ++ part ∷ [])) + duration_of plain) (parts_for id before ++ part ∷ parts_for id more) =
    subst (λ (n : ℕ). AreOnTime (n + duration_of plain) (parts_for id before ++ part ∷ parts_for id more)) start
    (subst (λ (ps : List Part). AreOnTime (start_of plain (parts_for id ((before ++ part ∷ []) ++ more)) + duration_of plain) ps) all h) in
    true_false _ (on_time_at (start_of plain (parts_for id (before ++ part ∷ [])) + duration_of plain) (parts_for id before) (parts_for id more) part moved) late

-- ---- groups

-- where the groups of a track are as they should be, so are those of a part behind others
grouped_at : (keys : List GroupKey) (before after : List Part) (part : Part) → AreGrouped keys (before ++ part ∷ after)
    → (rule : GroupRule) (k : ℕ) → IsTrue (has_groups rule (keys_behind keys before) part k)
grouped_at keys [] after part h rule k = h.0 rule k
grouped_at keys (b ∷ before) after part h rule k =
    let r = grouped_at (keys_after keys b.groups) before after part h.1 rule k in
    let joined : keys_behind keys (b ∷ before) ≡ keys_behind (keys_after keys b.groups) before = after-append keys b.groups (flat_map (λ (q : Part). q.groups) before) in
    subst (λ (ks : List GroupKey). IsTrue (has_groups rule ks part k)) (sym joined) r

-- ---- the rules

module _ (file : List ℕ) (p : Presentation) (d : Denotes file p) (b : Behind file) (part : Part) (is_part : parts_with b ≡ earlier_parts b ++ part ∷ []) where
  -- the parts of the file: those before, the part, those behind
  all_is : (more : List Part) × (file_parts d.tree ≡ (earlier_parts b ++ part ∷ []) ++ more)
  all_is =
      let r = parts_begun file d.tree b (begun file d.tree d.is_tree b) in
      (r.0, r.1 ∙ ap (λ (ps : List Part). ps ++ r.0) is_part)

  part_has : (P : Part → Type 0) → AllByRecursion P (file_parts d.tree) → P part
  part_has P h =
      let r = all_is in
      all_at P (earlier_parts b) r.0 part (subst (λ (ps : List Part). AllByRecursion P ps) (r.1 ∙ append_assoc (earlier_parts b) (part ∷ []) r.0) h)

  same_movie : d.tree.movie ≡ b.movie
  same_movie = sym (begun file d.tree d.is_tree b).movie

  rule_holds : (rule : FragmentRule) → PartFails rule file b.movie (earlier_parts b) part → ⊥
  rule_holds unknown_track fails =
      true_false _ (part_has (λ (q : Part). IsTrue (is_known (track_infos b.movie) (trexes_of b.movie) q))
      (subst (λ (m : MovieTree). AllByRecursion (λ (q : Part). IsTrue (is_known (track_infos m) (trexes_of m) q)) (file_parts d.tree)) same_movie d.is_consistent.known)) fails
  rule_holds description_index fails =
      true_false _ (part_has (λ (q : Part). IsTrue (has_indexes (track_infos b.movie) q))
      (subst (λ (m : MovieTree). AllByRecursion (λ (q : Part). IsTrue (has_indexes (track_infos m) q)) (file_parts d.tree)) same_movie d.is_consistent.indexes)) fails
  rule_holds (place k) fails =
      true_false _ (all_got (λ run. IsTrue (is_within (length file) run)) part.runs k fails.0 (part_has (λ (q : Part). AllByRecursion (λ run. IsTrue (is_within (length file) run)) q.runs) d.is_consistent.places) fails.1) fails.2
  rule_holds (fragment_group rule k) fails =
      let r = all_is in
      let P = λ (t : TrackTree). AreGrouped (plain_keys t) (parts_for (track_head_of t).id (file_parts d.tree)) in
      let groups : AllByRecursion P b.movie.tracks = subst (λ (m : MovieTree). AllByRecursion P m.tracks) same_movie d.is_consistent.groups in
      let kept : P fails.0 = All-contains P b.movie.tracks fails.0 (All-from_recursion P b.movie.tracks groups) fails.1 in
      let split : AreGrouped (plain_keys fails.0) (parts_for part.id ((earlier_parts b ++ part ∷ []) ++ r.0)) =
      subst (λ (ps : List Part). AreGrouped (plain_keys fails.0) (parts_for part.id ps)) r.1 (subst (λ (id : ℕ). AreGrouped (plain_keys fails.0) (parts_for id (file_parts d.tree))) fails.2 kept) in
      let all : parts_for part.id ((earlier_parts b ++ part ∷ []) ++ r.0) ≡ parts_for part.id (earlier_parts b) ++ part ∷ parts_for part.id r.0 =
      ap (parts_for part.id) (append_assoc (earlier_parts b) (part ∷ []) r.0) ∙ for-append part.id (earlier_parts b) (part ∷ r.0)
      ∙ ap (λ (ps : List Part). parts_for part.id (earlier_parts b) ++ ps) (for_hit part.id part r.0 (eq-eqb part.id part.id refl)) in
      true_false _ (grouped_at (plain_keys fails.0) (parts_for part.id (earlier_parts b)) (parts_for part.id r.0) part (subst (λ (ps : List Part). AreGrouped (plain_keys fails.0) ps) all split) rule k) fails.3
  rule_holds decode_time fails =
      let r = all_is in
      let P = λ (t : TrackTree). AreOnTime (first_due (file_parts d.tree) t) (parts_for (track_head_of t).id (file_parts d.tree)) in
      let times : AllByRecursion P b.movie.tracks = subst (λ (m : MovieTree). AllByRecursion P m.tracks) same_movie d.is_consistent.times in
      let due : P fails.0 = All-contains P b.movie.tracks fails.0 (All-from_recursion P b.movie.tracks times) fails.1 in
      let by_id : AreOnTime (start_of (plain_of fails.0) (parts_for part.id (file_parts d.tree)) + duration_of (plain_of fails.0)) (parts_for part.id (file_parts d.tree)) =
      subst (λ (id : ℕ). AreOnTime (start_of (plain_of fails.0) (parts_for id (file_parts d.tree)) + duration_of (plain_of fails.0)) (parts_for id (file_parts d.tree))) fails.2 due in
      let split = subst (λ (ps : List Part). AreOnTime (start_of (plain_of fails.0) (parts_for part.id ps) + duration_of (plain_of fails.0)) (parts_for part.id ps)) r.1 by_id in
      in_time (plain_of fails.0) part.id (earlier_parts b) r.0 part (eq-eqb part.id part.id refl) split fails.3

pub fragment_refuses : (file : List ℕ) (f : Fault) (p : Presentation) → StandsBy fragment file f → Denotes file p → ⊥
fragment_refuses file f p s d = rule_holds file p d s.behind s.part s.is_part s.rule s.fails
