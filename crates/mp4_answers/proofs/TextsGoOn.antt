-- Texts that are taken along to a sink one after the other: some are put or wait, and the others are to come.
use Rattle.std.proofs.Common.{◌≡◌, List, ℕ, [], ◌++◌, refl, sym, ap, subst, ◌∙◌, append_assoc}
use Rattle.std.proofs.lemmas.List.{append-nil}
use Rattle.mp4_store.specs.words.Device.{TakesPrefix}
use Rattle.mp4_store.proofs.Known.{IsJoining, TakesPrefix-longer}
use Rattle.mp4_present.specs.words.Carried.{BytesGoOn}
use Rattle.mp4_present.proofs.Carrying.{BytesGoOn-then, BytesGoOn-all, BytesGoOn-fails, BytesGoOn-front}
use Rattle.mp4_answers.proofs.Going.{Going}

module _ {Y : Type 0} {takes : Y → Y → List ℕ → Type 0} (joins : IsJoining takes) (a b c : Y) (held held_b to_come all : List ℕ) (g : Going (takes a b) held held_b to_come all) where
  -- the next text
  pub text_next : (held_c x rest : List ℕ) → to_come ≡ x ++ rest → BytesGoOn (takes b c) held_b held_c x → Going (takes a c) held held_c rest all
  text_next held_c x rest e p = record {
    done = g.done ++ x;
    goes_on = BytesGoOn-then joins a b c held held_b held_c g.done x (g.done ++ x) g.goes_on p refl;
    whole = append_assoc g.done x rest ∙ ap (λ (bs : List ℕ). g.done ++ bs) (sym e) ∙ g.whole;
  }

  -- it isn't taken along whole
  pub text_fails : (x rest : List ℕ) → to_come ≡ x ++ rest → TakesPrefix (takes b c) (held_b ++ x) → TakesPrefix (takes a c) (held ++ all)
  text_fails x rest e p =
      let longer : TakesPrefix (takes b c) (held_b ++ to_come) = rw (e, ← append_assoc held_b x rest) (TakesPrefix-longer (takes b c) (held_b ++ x) rest p) in
      subst (λ (bs : List ℕ). TakesPrefix (takes a c) (held ++ bs)) g.whole (BytesGoOn-fails joins a b c held held_b g.done to_come g.goes_on longer)

-- none is to come
pub texts_all : (Took : List ℕ → Type 0) (held held_b to_come all : List ℕ) → Going Took held held_b to_come all → to_come ≡ [] → BytesGoOn Took held held_b all
texts_all Took held held_b to_come all g none =
    let whole : g.done ≡ all = sym (append-nil g.done) ∙ ap (λ (bs : List ℕ). g.done ++ bs) (sym none) ∙ g.whole in
    subst (BytesGoOn Took held held_b) whole g.goes_on

-- what was put so far is a front of all
pub texts_front : (Took : List ℕ → Type 0) (held held_b to_come all : List ℕ) → Going Took held held_b to_come all → TakesPrefix Took (held ++ all)
texts_front Took held held_b to_come all g = subst (λ (bs : List ℕ). TakesPrefix Took (held ++ bs)) g.whole (BytesGoOn-front Took held held_b g.done to_come g.goes_on)

-- none is to come, and what waits is put, where nothing waited before
pub texts_put : {Y : Type 0} {takes : Y → Y → List ℕ → Type 0} (joins : IsJoining takes) (a b c : Y) (held_b to_come all : List ℕ) → Going (takes a b) [] held_b to_come all → to_come ≡ [] → takes b c held_b → takes a c all
texts_put {takes = takes} joins a b c held_b to_come all g none p = BytesGoOn-all joins a b c [] held_b all (texts_all (takes a b) [] held_b to_come all g none) p

-- or is not put whole
pub texts_not_put : {Y : Type 0} {takes : Y → Y → List ℕ → Type 0} (joins : IsJoining takes) (a b c : Y) (held_b to_come all : List ℕ) → Going (takes a b) [] held_b to_come all → to_come ≡ [] → TakesPrefix (takes b c) held_b → TakesPrefix (takes a c) all
texts_not_put {takes = takes} joins a b c held_b to_come all g none p =
    let q = BytesGoOn-fails joins a b c [] held_b all [] (texts_all (takes a b) [] held_b to_come all g none) (TakesPrefix-longer (takes b c) held_b [] p) in
    subst (TakesPrefix (takes a c)) (append-nil all) q
