-- Bytes on their way to a sink.
use Rattle.std.proofs.Common.{◌≡◌, ℕ, ◌+◌, ◌-◌, ◌≤◌, List, [], ◌++◌, length, take, drop, refl, sym, ap, subst, ◌∙◌, append_assoc, length-append, length-drop, arith}
use Rattle.std.proofs.lemmas.Grind.{common_steps}
use Rattle.std.proofs.lemmas.List.{append-nil, length-take-le}
use Rattle.std.proofs.Math.Seq.{take-add}
use Rattle.mp4_store.specs.words.Device.{TakesPrefix, range}
use Rattle.mp4_store.proofs.Known.{IsJoining, TakesPrefix-then, TakesPrefix-longer, TakesPrefix-whole, range-add}
use Rattle.mp4_present.specs.words.Carried.{BytesGoOn, GoOnBy, PutsMany, WaitsMore}

-- nothing follows
pub BytesGoOn-nothing : (Took : List ℕ → Type 0) (nothing : Took []) (held : List ℕ) → BytesGoOn Took held held []
BytesGoOn-nothing Took nothing held = ([], nothing, sym (append-nil held))

-- one after the other
pub BytesGoOn-then : {Y : Type 0} {takes : Y → Y → List ℕ → Type 0} (joins : IsJoining takes) (a b c : Y) (held held_b held_c xs ys zs : List ℕ) → BytesGoOn (takes a b) held held_b xs → BytesGoOn (takes b c) held_b held_c ys → zs ≡ xs ++ ys → BytesGoOn (takes a c) held held_c zs
BytesGoOn-then joins a b c held held_b held_c xs ys zs p q e = (
  p.0 ++ q.0,
  joins a b c p.0 q.0 p.1 q.1,
  append_assoc p.0 q.0 held_c ∙ ap (λ (bs : List ℕ). p.0 ++ bs) q.2 ∙ sym (append_assoc p.0 held_b ys) ∙ ap (λ (bs : List ℕ). bs ++ ys) p.2 ∙ append_assoc held xs ys ∙ ap (λ (bs : List ℕ). held ++ bs) (sym e),
)

-- at last all is put
pub BytesGoOn-all : {Y : Type 0} {takes : Y → Y → List ℕ → Type 0} (joins : IsJoining takes) (a b c : Y) (held held_b bytes : List ℕ) → BytesGoOn (takes a b) held held_b bytes → takes b c held_b → takes a c (held ++ bytes)
BytesGoOn-all {takes = takes} joins a b c held held_b bytes p q = subst (takes a c) p.2 (joins a b c p.0 held_b p.1 q)

-- a put of what waits fails
pub BytesGoOn-fails : {Y : Type 0} {takes : Y → Y → List ℕ → Type 0} (joins : IsJoining takes) (a b c : Y) (held held_b bytes more : List ℕ) → BytesGoOn (takes a b) held held_b bytes → TakesPrefix (takes b c) (held_b ++ more) → TakesPrefix (takes a c) (held ++ (bytes ++ more))
BytesGoOn-fails joins a b c held held_b bytes more p q =
    TakesPrefix-then joins a b c p.0 (held_b ++ more) (held ++ (bytes ++ more)) p.1 q
    (sym (append_assoc held bytes more) ∙ ap (λ (bs : List ℕ). bs ++ more) (sym p.2) ∙ append_assoc p.0 held_b more)

-- what was put so far is a front
pub BytesGoOn-front : (Took : List ℕ → Type 0) (held held_b bytes more : List ℕ) → BytesGoOn Took held held_b bytes → TakesPrefix Took (held ++ (bytes ++ more))
BytesGoOn-front Took held held_b bytes more p =
    let whole : held ++ (bytes ++ more) ≡ p.0 ++ (held_b ++ more) = sym (append_assoc held bytes more) ∙ ap (λ (bs : List ℕ). bs ++ more) (sym p.2) ∙ append_assoc p.0 held_b more in
    rw whole (TakesPrefix-longer Took p.0 (held_b ++ more) (TakesPrefix-whole Took p.0 p.1))

-- a piece waits behind the others
pub BytesGoOn-waits : (Took : List ℕ → Type 0) (held held_b held_c done piece : List ℕ) → BytesGoOn Took held held_b done → held_c ≡ held_b ++ piece → BytesGoOn Took held held_c (done ++ piece)
BytesGoOn-waits Took held held_b held_c done piece p e = (
  p.0,
  p.1,
  ap (λ (bs : List ℕ). p.0 ++ bs) e ∙ sym (append_assoc p.0 held_b piece) ∙ ap (λ (bs : List ℕ). bs ++ piece) p.2 ∙ append_assoc held done piece,
)

-- room is made
room_made : {Y : Type 0} {takes : Y → Y → List ℕ → Type 0} (joins : IsJoining takes) (a b c : Y) (held held_b held_c done : List ℕ) → BytesGoOn (takes a b) held held_b done → BytesGoOn (takes b c) held_b held_c [] → BytesGoOn (takes a c) held held_c done
room_made joins a b c held held_b held_c done p q = BytesGoOn-then joins a b c held held_b held_c done [] done p q (sym (append-nil done))

-- room is made, and a piece waits behind the others
pub piece_waits : {Y : Type 0} {takes : Y → Y → List ℕ → Type 0} (joins : IsJoining takes) (a b c : Y) (held held_b held_c held_d done piece next : List ℕ) → BytesGoOn (takes a b) held held_b done → BytesGoOn (takes b c) held_b held_c [] → held_d ≡ held_c ++ piece → next ≡ done ++ piece
    → BytesGoOn (takes a c) held held_d next
piece_waits {takes = takes} joins a b c held held_b held_c held_d done piece next p q e n =
    rw n (BytesGoOn-waits (takes a c) held held_c held_d done piece (room_made joins a b c held held_b held_c done p q) e)

-- no room is made
pub no_room : {Y : Type 0} {takes : Y → Y → List ℕ → Type 0} (joins : IsJoining takes) (a b c : Y) (held held_b done more whole : List ℕ) → BytesGoOn (takes a b) held held_b done → TakesPrefix (takes b c) held_b → whole ≡ done ++ more → TakesPrefix (takes a c) (held ++ whole)
no_room {takes = takes} joins a b c held held_b done more whole p q e = rw e (BytesGoOn-fails joins a b c held held_b done more p (TakesPrefix-longer (takes b c) held_b more q))

-- room is made, and a piece isn't read
pub not_read : {Y : Type 0} {takes : Y → Y → List ℕ → Type 0} (joins : IsJoining takes) (a b c : Y) (held held_b held_c done more whole : List ℕ) → BytesGoOn (takes a b) held held_b done → BytesGoOn (takes b c) held_b held_c [] → whole ≡ done ++ more → TakesPrefix (takes a c) (held ++ whole)
not_read {takes = takes} joins a b c held held_b held_c done more whole p q e =
    rw e (BytesGoOn-front (takes a c) held held_c done more (room_made joins a b c held held_b held_c done p q))

-- a front and the rest
pub front_and_rest : (bytes : List ℕ) (n : ℕ) → bytes ≡ take n bytes ++ drop n bytes
front_and_rest bytes n = grind (arith, common_steps)

pub range_and_rest : (file : List ℕ) (at n len : ℕ) → n ≤ len → range file at len ≡ range file at n ++ range file (at + n) (len - n)
range_and_rest file at n len le = let e : len ≡ n + (len - n) = omega (arith, le) in ap (range file at) e ∙ range-add file at n (len - n)

-- ---- so many bytes follow

-- none
pub GoOnBy-none : (Took : List ℕ → Type 0) (nothing : Took []) (held : List ℕ) (n : ℕ) → n ≡ 0 → GoOnBy Took held held n
GoOnBy-none Took nothing held n e = ([], sym e, BytesGoOn-nothing Took nothing held)

sums_of_two : (one more whole n m k : ℕ) → one ≡ n → more ≡ m → whole ≡ one + more → k ≡ n + m → whole ≡ k
sums_of_two one more whole n m k p q w e = omega (arith, p, q, w, e)

-- one after the other
pub GoOnBy-then : {Y : Type 0} {takes : Y → Y → List ℕ → Type 0} (joins : IsJoining takes) (a b c : Y) (held held_b held_c : List ℕ) (n m k : ℕ) → GoOnBy (takes a b) held held_b n → GoOnBy (takes b c) held_b held_c m → k ≡ n + m → GoOnBy (takes a c) held held_c k
GoOnBy-then joins a b c held held_b held_c n m k p q e = (
  p.0 ++ q.0,
  sums_of_two (length p.0) (length q.0) (length (p.0 ++ q.0)) n m k p.1 q.1 (length-append p.0 q.0) e,
  BytesGoOn-then joins a b c held held_b held_c p.0 q.0 (p.0 ++ q.0) p.2 q.2 refl,
)

-- some that only wait
pub GoOnBy-waits : (Took : List ℕ → Type 0) (held held_b held_c : List ℕ) (n m : ℕ) → GoOnBy Took held held_b n → WaitsMore held_b held_c m → GoOnBy Took held held_c (n + m)
GoOnBy-waits Took held held_b held_c n m p w = (
  p.0 ++ w.0,
  sums_of_two (length p.0) (length w.0) (length (p.0 ++ w.0)) n m (n + m) p.1 w.1 (length-append p.0 w.0) refl,
  BytesGoOn-waits Took held held_b held_c p.0 w.0 p.2 w.2,
)

-- room is made, and so many more wait
pub piece_counted : {Y : Type 0} {takes : Y → Y → List ℕ → Type 0} (joins : IsJoining takes) (a b c : Y) (held held_b held_c held_d : List ℕ) (done piece : ℕ) → GoOnBy (takes a b) held held_b done → BytesGoOn (takes b c) held_b held_c [] → WaitsMore held_c held_d piece
    → GoOnBy (takes a c) held held_d (done + piece)
piece_counted {takes = takes} joins a b c held held_b held_c held_d done piece p q e =
    GoOnBy-waits (takes a c) held held_c held_d done piece (p.0, p.1, room_made joins a b c held held_b held_c p.0 p.2 q) e

-- at last all are put
pub GoOnBy-all : {Y : Type 0} {takes : Y → Y → List ℕ → Type 0} (joins : IsJoining takes) (a b c : Y) (held_b : List ℕ) (n : ℕ) → GoOnBy (takes a b) [] held_b n → takes b c held_b → PutsMany (takes a c) n
GoOnBy-all joins a b c held_b n p q = (p.0, BytesGoOn-all joins a b c [] held_b p.0 p.2 q, p.1)

-- ---- a buffer into which so many bytes are read

-- what stands before them stays
pub waits_more : (old new : List ℕ) (used len : ℕ) → used + len ≤ length new → take used new ≡ take used old → WaitsMore (take used old) (take (used + len) new) len
waits_more old new used len fits same = (
  take len (drop used new),
  length-take-le len (drop used new) (rw length-drop (omega (arith, fits))),
  take-add used len new ∙ ap (λ (bs : List ℕ). bs ++ take len (drop used new)) same,
)
