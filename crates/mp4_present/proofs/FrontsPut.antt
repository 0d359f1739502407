-- What was put when bytes could not be taken along further: a front of all that was to follow.
use Rattle.std.proofs.Common.{◌≡◌, ℕ, List, [], ◌++◌, append-nil, sym, ap, subst, ◌∙◌, append_assoc}
use Rattle.mp4_store.specs.words.Device.{TakesPrefix}
use Rattle.mp4_store.proofs.Known.{IsJoining, TakesPrefix-longer}
use Rattle.mp4_present.specs.words.Carried.{BytesGoOn}
use Rattle.mp4_present.proofs.Carrying.{BytesGoOn-fails, BytesGoOn-front}

-- some bytes were taken along, the next piece was not, and a rest was to come
pub stopped_at : {Y : Type 0} {takes : Y → Y → List ℕ → Type 0} (joins : IsJoining takes) (a b c : Y) (held held_b done piece next rest whole : List ℕ) → BytesGoOn (takes a b) held held_b done → TakesPrefix (takes b c) (held_b ++ piece) → next ≡ done ++ piece → whole ≡ next ++ rest
    → TakesPrefix (takes a c) (held ++ whole)
stopped_at {takes = takes} joins a b c held held_b done piece next rest whole p q e f =
    let all : whole ≡ done ++ (piece ++ rest) = f ∙ ap (λ (bs : List ℕ). bs ++ rest) e ∙ append_assoc done piece rest in
    rw all (BytesGoOn-fails joins a b c held held_b done (piece ++ rest) p (rw (← append_assoc held_b piece rest) (TakesPrefix-longer (takes b c) (held_b ++ piece) rest q)))

-- it was the last piece
pub stopped_last : {Y : Type 0} {takes : Y → Y → List ℕ → Type 0} (joins : IsJoining takes) (a b c : Y) (held held_b done piece whole : List ℕ) → BytesGoOn (takes a b) held held_b done → TakesPrefix (takes b c) (held_b ++ piece) → whole ≡ done ++ piece → TakesPrefix (takes a c) (held ++ whole)
stopped_last joins a b c held held_b done piece whole p q e = rw e (BytesGoOn-fails joins a b c held held_b done piece p q)

-- it was the first piece
pub stopped_first : (Took : List ℕ → Type 0) (held piece rest whole : List ℕ) → TakesPrefix Took (held ++ piece) → whole ≡ piece ++ rest → TakesPrefix Took (held ++ whole)
stopped_first Took held piece rest whole q e = rw (e, ← append_assoc held piece rest) (TakesPrefix-longer Took (held ++ piece) rest q)

-- nothing more was taken along
pub stopped_behind : (Took : List ℕ → Type 0) (held held_b done rest whole : List ℕ) → BytesGoOn Took held held_b done → whole ≡ done ++ rest → TakesPrefix Took (held ++ whole)
stopped_behind Took held held_b done rest whole p e = rw e (BytesGoOn-front Took held held_b done rest p)

-- a front of the same bytes
pub front_as : (Took : List ℕ → Type 0) (held xs ys : List ℕ) → TakesPrefix Took (held ++ xs) → xs ≡ ys → TakesPrefix Took (held ++ ys)
front_as Took held xs ys p e = subst (λ (bs : List ℕ). TakesPrefix Took (held ++ bs)) e p

-- what went on whole is a front of itself
pub front_put : (Took : List ℕ → Type 0) (held held_b bytes : List ℕ) → BytesGoOn Took held held_b bytes → TakesPrefix Took (held ++ bytes)
front_put Took held held_b bytes p = stopped_behind Took held held_b bytes [] bytes p (sym (append-nil bytes))
