-- Texts that are taken along to a sink, one after the other.
use Rattle.std.proofs.Common.{◌≡◌, ℕ, zero, suc, ◌+◌, ◌<◌, ◌≤◌, List, [], ◌∷◌, ◌++◌, true, false, length, take, get_or, refl, sym, ap, subst, ◌∙◌, append_assoc, arith}
use Rattle.std.specs.Prelude.{map, flat_map, Ok, Err}
use Rattle.std.proofs.lemmas.List.{append-nil}
use Rattle.mp4_boxes.specs.declared.refusal.Refusal.{Refusal}
use Rattle.mp4_boxes.specs.declared.refusal.Refusal.TheVariants as refusals
use Rattle.mp4_boxes.proofs.Plain.{plus_one, take_everything}
use Rattle.mp4_store.specs.words.Device.{TakesPrefix}
use Rattle.mp4_store.specs.declared.sink.Sink.{Ghosts as Sink}
use Rattle.mp4_store.proofs.Known.{IsJoining, TakesPrefix-longer}
use Rattle.mp4_present.specs.words.Carried.{RefusesPut, waiting}
use Rattle.mp4_present.specs.words.OutBuffers.{TakesBytes, PutsFrontOf}
use Rattle.mp4_present.specs.words.Latches.{Goes}
use Rattle.mp4_present.specs.declared.latch.Latch.{Latch}
use Rattle.mp4_present.specs.declared.out_buffer.OutBuffer.{OutBuffer}
use Rattle.mp4_present.proofs.Carrying.{BytesGoOn-nothing, BytesGoOn-then, BytesGoOn-fails}
use Rattle.mp4_answers.specs.words.Telling.{Tells}

-- ---- lists, item by item

one_more : {A : Type 0} (xs : List A) (k : ℕ) (d : A) → k < length xs → take (suc k) xs ≡ take k xs ++ get_or xs k d ∷ []
one_more [] k d lt = absurd (omega (arith, lt))
one_more (x ∷ xs) zero d lt = refl
one_more (x ∷ xs) (suc k) d lt = ap (λ (ys : List _). x ∷ ys) (one_more xs k d (omega (arith, lt)))

pub flat_two : {A : Type 0} (f : A → List ℕ) (xs ys : List A) → flat_map f (xs ++ ys) ≡ flat_map f xs ++ flat_map f ys
flat_two f [] ys = refl
flat_two f (x ∷ xs) ys = ap (λ (bs : List ℕ). f x ++ bs) (flat_two f xs ys) ∙ sym (append_assoc (f x) (flat_map f xs) (flat_map f ys))

pub flat_next : {A : Type 0} (f : A → List ℕ) (xs : List A) (k : ℕ) (d : A) → k < length xs → flat_map f (take (k + 1) xs) ≡ flat_map f (take k xs) ++ f (get_or xs k d)
flat_next f xs k d lt = ap (λ n. flat_map f (take n xs)) (plus_one k) ∙ ap (flat_map f) (one_more xs k d lt) ∙ flat_two f (take k xs) (get_or xs k d ∷ []) ∙ ap (λ (bs : List ℕ). flat_map f (take k xs) ++ bs) (append-nil (f (get_or xs k d)))

pub flat_all : {A : Type 0} (f : A → List ℕ) (xs : List A) (k : ℕ) → length xs ≤ k → flat_map f (take k xs) ≡ flat_map f xs
flat_all f xs k le = ap (flat_map f) (take_everything xs k le)

pub flat_of_map : {A B : Type 0} (f : B → List ℕ) (g : A → B) (xs : List A) → flat_map f (map g xs) ≡ flat_map (λ (x : A). f (g x)) xs
flat_of_map f g [] = refl
flat_of_map f g (x ∷ xs) = ap (λ (bs : List ℕ). f (g x) ++ bs) (flat_of_map f g xs)

-- ---- text after text

-- this is told between two states, and no put failed
pub record ToldSoFar {Y : Type 0} (K : Sink Y) (sink sink_after : Y) (c c_after : OutBuffer) (done : List ℕ) : Type 0 where
  pub told : TakesBytes K sink sink_after c c_after done
  pub puts : K.put_failures sink_after ≡ K.put_failures sink

module _ {Y : Type 0} (K : Sink Y) (joins : IsJoining K.takes) where
  pub told_none : (s : Y) (c : OutBuffer) → K.takes s s [] → ToldSoFar K s s c c []
  told_none s c nothing = record { told = BytesGoOn-nothing (K.takes s s) nothing (waiting c); puts = refl }

  pub told_more : (s t u : Y) (c d e : OutBuffer) (done x whole : List ℕ) → ToldSoFar K s t c d done → TakesBytes K t u d e x → K.put_failures u ≡ K.put_failures t → whole ≡ done ++ x → ToldSoFar K s u c e whole
  told_more s t u c d e done x whole p told puts w = record {
    told = BytesGoOn-then joins s t u (waiting c) (waiting d) (waiting e) done x whole p.told told w;
    puts = puts ∙ p.puts;
  }

  -- a put fails
  pub told_fails : {B : Type 0} (s t u : Y) (c d e : OutBuffer) (done x whole : List ℕ) (v : Refusal) → ToldSoFar K s t c d done → PutsFrontOf K t u d x → RefusesPut (K.put_failures t) (K.put_failures u) v → whole ≡ done ++ x → Tells {T = B} K s u c e whole (Err v)
  told_fails s t u c d e done x whole v p front cause w = record {
    all = tt;
    front = subst (λ (bs : List ℕ). TakesPrefix (K.takes s u) (waiting c ++ bs)) (sym w) (BytesGoOn-fails joins s t u (waiting c) (waiting d) done x p.told front);
    puts = tt;
    refusal = subst (λ (n : ℕ). RefusesPut n (K.put_failures u) v) p.puts cause;
  }

  -- it stops meanwhile
  pub told_stops : {B : Type 0} (s t u : Y) (c d e : OutBuffer) (done x more whole : List ℕ) (v : Refusal) → ToldSoFar K s t c d done → PutsFrontOf K t u d x → RefusesPut (K.put_failures t) (K.put_failures u) v → whole ≡ done ++ (x ++ more) → Tells {T = B} K s u c e whole (Err v)
  told_stops s t u c d e done x more whole v p front cause w =
      told_fails s t u c d e done (x ++ more) whole v p (subst (λ (bs : List ℕ). TakesPrefix (K.takes t u) bs) (append_assoc (waiting d) x more) (TakesPrefix-longer (K.takes t u) (waiting d ++ x) more front)) cause w

  pub told_all : {T : Type 0} (s t : Y) (c d : OutBuffer) (done whole : List ℕ) (r : T) → ToldSoFar K s t c d done → done ≡ whole → Tells K s t c d whole (Ok r)
  told_all s t c d done whole r p w = record { all = subst (λ (bs : List ℕ). TakesBytes K s t c d bs) w p.told; front = tt; puts = p.puts; refusal = tt }

-- what went behind a latch that was closed
module _ {Y : Type 0} (K : Sink Y) {a b : Latch Y} (text : List ℕ) (x : Goes K a b text) where
  pub tells_all : {T : Type 0} (v : T) → b.has_failed ≡ false → Tells K a.sink.now b.sink.now a.out.now b.out.now text (Ok v)
  tells_all v ok = let p = x.whole ok in record { all = p.taken; front = tt; puts = p.puts; refusal = tt }

  pub tells_front : {T : Type 0} → a.has_failed ≡ false → b.has_failed ≡ true → Tells {T = T} K a.sink.now b.sink.now a.out.now b.out.now text (Err refusals.WriteFailed)
  tells_front ok bad = let p = x.stops ok bad in record { all = tt; front = p.prefix; puts = tt; refusal = p.puts }
