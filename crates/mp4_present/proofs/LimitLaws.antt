-- The limits by the definition of the first fault: they are kept, or the fault that is named stands.
use Rattle.std.proofs.Common.{◌≡◌, ℕ, Bool, true, false, List, [], ◌∷◌, ◌++◌, Some, None, refl, sym, ap, arith, codes}
use Rattle.std.specs.Prelude.{◌&&◌, nat_le, cond, map}
use Rattle.std.specs.List.{AllByRecursion}
use Rattle.std.proofs.lemmas.Bool.{leb-true, leb-false, and_parts}
use Rattle.mp4_boxes.specs.format.BoxFaults.{fault_of}
use Rattle.mp4_boxes.specs.format.FirstFault.{first_failed}
use Rattle.mp4_boxes.specs.declared.fault.Fault.{Fault}
use Rattle.mp4_boxes.specs.declared.fault.Kind.TheVariants.{TimeTooLarge}
use Rattle.mp4_head.specs.format.Tree.{TrackTree, first_of}
use Rattle.mp4_present.specs.format.Judge.{times_tests}
use Rattle.mp4_present.specs.format.Presentation.{Track, IsInTime, end_time, track_length, max_time}

abbrev is_in_time : ℕ → Track → Bool
is_in_time timescale t = nat_le (end_time t) max_time && nat_le (track_length timescale t) max_time

in_time : (timescale : ℕ) (t : Track) → is_in_time timescale t ≡ true → IsInTime timescale t
in_time timescale t e =
    let parts = and_parts (nat_le (end_time t) max_time) (nat_le (track_length timescale t) max_time) e in
    (leb-true (end_time t) max_time parts.0, leb-true (track_length timescale t) max_time parts.1)

too_long : (timescale : ℕ) (t : Track) → is_in_time timescale t ≡ false → IsInTime timescale t → ⊥
too_long timescale t e h = by (nat_le (end_time t) max_time) (nat_le (track_length timescale t) max_time) refl refl e
  where
    by : (v w : Bool) → nat_le (end_time t) max_time ≡ v → nat_le (track_length timescale t) max_time ≡ w → v && w ≡ false → ⊥
    by false w a b e = let high = leb-false (end_time t) max_time a in omega (arith, high, h.0)
    by true false a b e = let high = leb-false (track_length timescale t) max_time b in omega (arith, high, h.1)
    by true true a b e = absurd cc

-- which track fails, where one does: those before it keep their time
pub record PassesTime (timescale : ℕ) (g : TrackTree → Track) (us : List TrackTree) (f : Fault) : Type 0 where
  pub before : List TrackTree
  pub t : TrackTree
  pub after : List TrackTree
  pub split : us ≡ before ++ t ∷ after
  pub in_time : AllByRecursion (λ (u : TrackTree). IsInTime timescale (g u)) before
  pub passes : IsInTime timescale (g t) → ⊥
  pub named : f ≡ fault_of TimeTooLarge (first_of (codes "tkhd") t.track)

-- Where no test of times fails, each track keeps its time.
pub times_keep : (timescale : ℕ) (g : TrackTree → Track) (us : List TrackTree) → first_failed (times_tests timescale us (map g us)) ≡ None → AllByRecursion (λ (u : TrackTree). IsInTime timescale (g u)) us
times_keep timescale g [] e = tt
times_keep timescale g (u ∷ us) e = by (is_in_time timescale (g u)) refl e (λ e. times_keep timescale g us e)
  where
    by : (v : Bool) → is_in_time timescale (g u) ≡ v → cond v (first_failed (times_tests timescale us (map g us))) (Some (fault_of TimeTooLarge (first_of (codes "tkhd") u.track))) ≡ None
        → (first_failed (times_tests timescale us (map g us)) ≡ None → AllByRecursion (λ (u : TrackTree). IsInTime timescale (g u)) us) → AllByRecursion (λ (u : TrackTree). IsInTime timescale (g u)) (u ∷ us)
    by true v e on = (in_time timescale (g u) v, on e)
    by false v e on = absurd cc

-- The first that fails is that of the first track that is too long.
pub times_fail : (timescale : ℕ) (g : TrackTree → Track) (us : List TrackTree) (f : Fault) → first_failed (times_tests timescale us (map g us)) ≡ Some f → PassesTime timescale g us f
times_fail timescale g [] f e = absurd cc
times_fail timescale g (u ∷ us) f e = by (is_in_time timescale (g u)) refl e (λ e. times_fail timescale g us f e)
  where
    by : (v : Bool) → is_in_time timescale (g u) ≡ v → cond v (first_failed (times_tests timescale us (map g us))) (Some (fault_of TimeTooLarge (first_of (codes "tkhd") u.track))) ≡ Some f
        → (first_failed (times_tests timescale us (map g us)) ≡ Some f → PassesTime timescale g us f) → PassesTime timescale g (u ∷ us) f
    by true v e on =
        let r = on e in
        record { before = u ∷ r.before; t = r.t; after = r.after; split = ap (λ (xs : List TrackTree). u ∷ xs) r.split; in_time = (in_time timescale (g u) v, r.in_time); passes = r.passes; named = r.named }
    by false v e on =
        let same : fault_of TimeTooLarge (first_of (codes "tkhd") u.track) ≡ f = cc in
        record { before = []; t = u; after = us; split = refl; in_time = tt; passes = too_long timescale (g u) v; named = sym same }
