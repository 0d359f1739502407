-- Parts that lie one after the other: where they end, and which of them has a place.
use Rattle.std.proofs.Common.{◌≡◌, ◌∙◌, ℕ, zero, suc, ◌+◌, ◌-◌, ◌<◌, ◌≤◌, min, List, [], ◌∷◌, ◌++◌, length, take, drop, map, flat_map, get_or, Bool, IsTrue, arith, ap, sym, refl, length-append, length-drop, length-set, length-take, set, append-nil, append_assoc}
use Rattle.std.proofs.lemmas.Grind.{common_steps}
use Rattle.std.proofs.lemmas.List.{get_or-map, get_or-set_same, length-map, take-append-drop, take-map, take_more, take_all, drop_more, drop-map, drop-append-le, take-append-le}
use Rattle.std.proofs.Math.Seq.{take-append-add, take-append_seam, drop-append-add}
use Rattle.std.specs.List.{list_all}
use borrow.Rule.Slice.PartMut.{put_mid}
use Rattle.std.proofs.lemmas.List.Concat.{flat_map-append}
use Rattle.std.proofs.lemmas.List.Folds.{flat_map-map, list_all-map}
use Rattle.std.proofs.lemmas.List.Sums.{AllPass-from_list_all}
use Rattle.std.specs.Prelude.{OnErr, Result, Ok, Err}
use Rattle.mp4_store.specs.words.Device.{count_after, range}
use Rattle.mp4_store.specs.words.Parts.{ends_of, HasFailed, IsPlaceIn}

pub length-ends_of : (parts : List (List ℕ)) (from : ℕ) → length (ends_of from parts) ≡ length parts
length-ends_of [] from = refl
length-ends_of (p ∷ ps) from = ap suc (length-ends_of ps (from + length p))

-- one more part
pub ends_of-more : {X : Type 0} (F : X → List ℕ) (from : ℕ) (xs : List X) (x : X) → ends_of from (map F (xs ++ x ∷ [])) ≡ ends_of from (map F xs) ++ (from + length (flat_map F xs) + length (F x)) ∷ []
ends_of-more F from [] x = grind (arith, common_steps)
ends_of-more F from (y ∷ xs) x =
    let more = ends_of-more F (from + length (F y)) xs x in
    let place : from + length (F y) + length (flat_map F xs) ≡ from + length (F y ++ flat_map F xs) = grind (arith, length-append) in
    ap (λ l. (from + length (F y)) ∷ l) (rw place at more)

-- where a part ends
pub ends_of-at : (parts : List (List ℕ)) (from k d : ℕ) → k < length parts → get_or (ends_of from parts) k d ≡ from + length (flat_map (λ bytes. bytes) (take (k + 1) parts))
ends_of-at [] from k d h = absurd (omega arith)
ends_of-at (p ∷ ps) from zero d h = ap (λ n. from + n) (sym (ap length (append-nil p)))
ends_of-at (p ∷ ps) from (suc k) d h = ends_of-at ps (from + length p) k d (omega arith) ∙ grind (arith, length-append)

pub part_end : (parts : List (List ℕ)) (k d : ℕ) → k < length parts → get_or (ends_of 0 parts) k d ≡ length (flat_map (λ bytes. bytes) (take (k + 1) parts))
part_end parts k d h = let end = ends_of-at parts 0 k d h in omega (arith, end)

-- each ends where or behind where the first begins
ends_of-from : (parts : List (List ℕ)) (from k d : ℕ) → k < length (ends_of from parts) → from ≤ get_or (ends_of from parts) k d
ends_of-from [] from k d h = absurd (omega arith)
ends_of-from (p ∷ ps) from zero d h = omega arith
ends_of-from (p ∷ ps) from (suc k) d h = let up = ends_of-from ps (from + length p) k d (omega arith) in omega (arith, up)

pub ends_of-rise : (parts : List (List ℕ)) (from i j d : ℕ) → i ≤ j → j < length (ends_of from parts) → get_or (ends_of from parts) i d ≤ get_or (ends_of from parts) j d
ends_of-rise [] from i j d le h = absurd (omega arith)
ends_of-rise (p ∷ ps) from zero zero d le h = omega arith
ends_of-rise (p ∷ ps) from zero (suc j) d le h = ends_of-from ps (from + length p) j d (omega arith)
ends_of-rise (p ∷ ps) from (suc i) zero d le h = absurd (omega arith)
ends_of-rise (p ∷ ps) from (suc i) (suc j) d le h = ends_of-rise ps (from + length p) i j d (omega arith) (omega arith)

-- all bytes up to a part, and those of it
pub length-one_more : {X : Type 0} (F : X → List ℕ) (xs : List X) (i : ℕ) (d : X) → i < length xs → length (flat_map F (take (i + 1) xs)) ≡ length (flat_map F (take i xs)) + length (F (get_or xs i d))
length-one_more F xs i d h = rw (take_more xs i d h, flat_map-append F (take i xs) (get_or xs i d ∷ [])) (grind (arith, length-append, append-nil))

-- the part that ends behind a place, where those before it don't
pub placed : (parts : List (List ℕ)) (at part begin : ℕ) → part < length parts → begin ≡ length (flat_map (λ bytes. bytes) (take part parts)) → begin ≤ at → at < get_or (ends_of 0 parts) part 0 → IsPlaceIn parts at part (at - begin)
placed parts at part begin h b le lt =
    let ends = part_end parts part 0 h in
    let more = length-one_more (λ bytes. bytes) parts part [] h in
    (h, omega (arith, b, le), omega (arith, b, le, lt, ends, more))

-- no part ends behind the place
pub all_before : (parts : List (List ℕ)) (at : ℕ) → ((k : ℕ) → k < length parts → get_or (ends_of 0 parts) k 0 ≤ at) → length (flat_map (λ bytes. bytes) parts) ≤ at
all_before [] at h = omega arith
all_before (p ∷ ps) at h =
    let last = h (length ps) (omega arith) in
    let ends = part_end (p ∷ ps) (length ps) 0 (omega arith) in
    let all : take (length ps + 1) (p ∷ ps) ≡ p ∷ ps = take_all (length ps + 1) (p ∷ ps) (omega arith) in
    let total = ap (λ l. length (flat_map (λ bytes. bytes) l)) all in
    omega (arith, last, ends, total)

-- where the last of them ends, so many bytes there are
pub last_end : {X : Type 0} (F : X → List ℕ) (xs : List X) (d : ℕ) → 0 < length (ends_of 0 (map F xs)) → get_or (ends_of 0 (map F xs)) (length (ends_of 0 (map F xs)) - 1) d ≡ length (flat_map F xs)
last_end F [] d h = absurd (omega arith)
last_end F (x ∷ xs) d h =
    let n = length-ends_of (map F (x ∷ xs)) 0 in
    let m : length (map F xs) ≡ length xs = grind (arith, common_steps, length-map) in
    let at : length (ends_of 0 (map F (x ∷ xs))) - 1 ≡ length xs = omega (arith, n, m) in
    let ends = part_end (map F (x ∷ xs)) (length xs) d (omega (arith, m)) in
    let all : take (length xs + 1) (map F (x ∷ xs)) ≡ map F (x ∷ xs) = take_all (length xs + 1) (map F (x ∷ xs)) (omega (arith, m)) in
    rw at (ends ∙ ap (λ l. length (flat_map (λ bytes. bytes) l)) all ∙ ap length (flat_map-map (λ bytes. bytes) F (x ∷ xs)))

pub no_end : {X : Type 0} (F : X → List ℕ) (xs : List X) → length (ends_of 0 (map F xs)) ≡ 0 → length (flat_map F xs) ≡ 0
no_end F [] h = refl
no_end F (x ∷ xs) h = absurd (omega (arith, h))

-- where a part begins
pub later_begins : (parts : List (List ℕ)) (part d : ℕ) → part ≤ length parts → ¬ (part ≡ 0) → get_or (ends_of 0 parts) (part - 1) d ≡ length (flat_map (λ bytes. bytes) (take part parts))
later_begins parts zero d le h = absurd (h refl)
later_begins parts (suc part) d le h =
    let before : suc part - 1 ≡ part = omega arith in
    let next : part + 1 ≡ suc part = omega arith in
    rw before (part_end parts part d (omega (arith, le)) ∙ ap (λ k. length (flat_map (λ bytes. bytes) (take k parts))) next)

-- no part before it ends behind the place, so it begins at the place or before it
pub begins : (parts : List (List ℕ)) (at part : ℕ) → part ≤ length parts → ((k d : ℕ) → 0 ≤ k → k < part → get_or (ends_of 0 parts) k d ≤ at) → length (flat_map (λ bytes. bytes) (take part parts)) ≤ at
begins parts at zero le before = omega arith
begins parts at (suc part) le before =
    let end = later_begins parts (suc part) 0 le (λ e. omega (arith, e)) in
    let up = before (suc part - 1) 0 (omega arith) (omega arith) in
    omega (arith, end, up)

-- what is to come: the bytes from a place in one part on
abbrev pub coming : List (List ℕ) → ℕ → ℕ → List ℕ
coming parts part from = drop from (flat_map (λ bytes. bytes) (drop part parts))

nothing_left : (from : ℕ) → length {A = ℕ} (drop from []) ≡ 0
nothing_left zero = refl
nothing_left (suc from) = refl

-- some bytes are left only where a part is
pub coming_part : (parts : List (List ℕ)) (part from : ℕ) → 0 < length (coming parts part from) → part < length parts
coming_part [] zero from h = absurd (omega (arith, h, nothing_left from))
coming_part [] (suc part) from h = absurd (omega (arith, h, nothing_left from))
coming_part (p ∷ ps) zero from h = omega arith
coming_part (p ∷ ps) (suc part) from h = let within = coming_part ps part from h in omega (arith, within)

-- the rest of a part, and the parts behind it
pub coming_first : (parts : List (List ℕ)) (part from : ℕ) → part < length parts → from ≤ length (get_or parts part []) → coming parts part from ≡ drop from (get_or parts part []) ++ coming parts (part + 1) 0
coming_first parts part from h le = rw (drop_more parts part [] h) (drop-append-le from (get_or parts part []) (flat_map (λ bytes. bytes) (drop (part + 1) parts)) le)

pub coming_length : (parts : List (List ℕ)) (part from : ℕ) → part < length parts → from ≤ length (get_or parts part []) → length (coming parts part from) ≡ (length (get_or parts part []) - from) + length (coming parts (part + 1) 0)
coming_length parts part from h le = rw (coming_first parts part from h le) (grind (arith, length-append, length-drop))

-- so many bytes, where n of them are in the first list
pub take_in_two : (xs ys : List ℕ) (m n : ℕ) → n ≡ min (length xs) m → take m (xs ++ ys) ≡ take n xs ++ take (m - n) ys
take_in_two [] ys m n e = rw (e) (grind (arith, common_steps))
take_in_two (x ∷ xs) ys zero n e = rw (e) (grind (arith, common_steps))
take_in_two (x ∷ xs) ys (suc m) zero e = absurd (omega (arith, e))
take_in_two (x ∷ xs) ys (suc m) (suc n) e = let less : suc m - suc n ≡ m - n = omega arith in rw less (ap (λ l. x ∷ l) (take_in_two xs ys m n (omega (arith, e))))

-- what a read adds to the bytes that were read
pub filled : (out sub : List ℕ) (done n : ℕ) → done ≤ length out → n ≤ length sub → take (done + n) (put_mid done (length out - done) out sub) ≡ take done out ++ take n sub
filled out sub done n le small =
    let front : length (take done out) ≡ done = length-take done out ∙ omega (arith, le) in
    let rest = drop (length out - done) (drop done out) in
    ap (λ k. take (k + n) (take done out ++ (sub ++ rest))) (sym front) ∙ take-append-add (take done out) (sub ++ rest) n ∙ ap (λ l. take done out ++ l) (take-append-le n sub rest small)

-- one part more was read
pub one_part_more : (out sub rest front behind whole : List ℕ) (done n : ℕ) → done ≤ length out → length sub ≡ length out - done → n ≡ min (length front) (length out - done) → take n sub ≡ take n front
    → rest ≡ front ++ behind → take done out ++ take (length out - done) rest ≡ whole
    → take (done + n) (put_mid done (length out - done) out sub) ++ take (length out - (done + n)) behind ≡ whole
one_part_more out sub rest front behind whole done n le len count same parts e =
    let less : length out - (done + n) ≡ (length out - done) - n = omega arith in
    let left = length out - done in
    let split = append_assoc (take done out) (take n front) (take (left - n) behind) in
    let two = take_in_two front behind left n count in
    rw (filled out sub done n le (omega (arith, len, count)), less, same, split, sym two, sym parts) e

pub coming_is : {X : Type 0} (F : X → List ℕ) (xs : List X) (part from : ℕ) → coming (map F xs) part from ≡ drop from (flat_map F (drop part xs))
coming_is F xs part from = ap (drop from) (ap (flat_map (λ bytes. bytes)) (drop-map F part xs) ∙ flat_map-map (λ bytes. bytes) F (drop part xs))

-- the same parts have the same bytes, and are as honest
pub same_bytes : {X : Type 0} (F : X → List ℕ) (xs ys : List X) → map F xs ≡ map F ys → flat_map F xs ≡ flat_map F ys
same_bytes F xs ys e = sym (flat_map-map (λ bytes. bytes) F xs) ∙ ap (flat_map (λ bytes. bytes)) e ∙ flat_map-map (λ bytes. bytes) F ys

pub same_all : {X : Type 0} (H : X → Bool) (xs ys : List X) → map H xs ≡ map H ys → list_all H xs ≡ list_all H ys
same_all H xs ys e = sym (list_all-map (λ b. b) H xs) ∙ ap (list_all (λ b. b)) e ∙ list_all-map (λ b. b) H ys

pub all_honest : {X : Type 0} (H : X → Bool) (xs ys : List X) (i : ℕ) (d : X) → map H xs ≡ map H ys → i < length xs → IsTrue (list_all H ys) → IsTrue (H (get_or xs i d))
all_honest H xs ys i d e there h = AllPass-from_list_all H xs (same_all H xs ys e ∙ h) i d there

-- all was read
pub all_done : (out rest whole : List ℕ) (done : ℕ) → done ≤ length out → length out ≤ done → take done out ++ take (length out - done) rest ≡ whole → out ≡ whole
all_done out rest whole done lo hi e =
    let none : length out - done ≡ 0 = omega arith in
    let all : take done out ≡ out = take_all done out hi in
    sym (append-nil out) ∙ (rw (none, all) at e)

-- the parts before one, and it and those behind it
in_two : {X : Type 0} (F : X → List ℕ) (xs : List X) (part : ℕ) → flat_map F xs ≡ flat_map (λ bytes. bytes) (take part (map F xs)) ++ flat_map F (drop part xs)
in_two F xs part =
    let front = ap (flat_map (λ bytes. bytes)) (take-map F part xs) ∙ flat_map-map (λ bytes. bytes) F (take part xs) in
    ap (flat_map F) (sym (take-append-drop part xs)) ∙ flat_map-append F (take part xs) (drop part xs) ∙ ap (λ l. l ++ flat_map F (drop part xs)) (sym front)

pub room_behind : {X : Type 0} (F : X → List ℕ) (xs : List X) (at part offset len : ℕ) → IsPlaceIn (map F xs) at part offset → at + len ≤ length (flat_map F xs) → offset + len ≤ length (flat_map F (drop part xs))
room_behind F xs at part offset len p le =
    let total = ap length (in_two F xs part) ∙ length-append (flat_map (λ bytes. bytes) (take part (map F xs))) (flat_map F (drop part xs)) in
    omega (arith, p.1, le, total)

pub range_behind : {X : Type 0} (F : X → List ℕ) (xs : List X) (at part offset n : ℕ) → IsPlaceIn (map F xs) at part offset → range (flat_map F (drop part xs)) offset n ≡ range (flat_map F xs) at n
range_behind F xs at part offset n p =
    let rest = drop-append-add (flat_map (λ bytes. bytes) (take part (map F xs))) (flat_map F (drop part xs)) offset in
    ap (take n) (sym rest ∙ ap (λ l. drop (length (flat_map (λ bytes. bytes) (take part (map F xs))) + offset) l) (sym (in_two F xs part)) ∙ ap (λ k. drop k (flat_map F xs)) (sym p.1))

pub same_length : {X Y : Type 0} (F : X → Y) (xs ys : List X) → map F xs ≡ map F ys → length xs ≡ length ys
same_length F xs ys e = sym (length-map xs F) ∙ ap length e ∙ length-map ys F

-- what a vector has when the slice of all of it is back
pub written_back : {X : Type 0} (n : ℕ) (new items : List X) → length new ≡ length items → n ≡ length items → take n (new ++ drop (length new) items) ≡ new
written_back n new items e len =
    let all : take n (new ++ drop (length new) items) ≡ take (length new) (new ++ drop (length new) items) = ap (λ k. take k (new ++ drop (length new) items)) (len ∙ sym e) in
    all ∙ take-append_seam new (drop (length new) items)

-- some of it is still to be read, so a part is there
pub part_there : {X : Type 0} (F : X → List ℕ) (xs ys : List X) (part from done len : ℕ) → map F xs ≡ map F ys → done < len → len ≤ done + length (coming (map F ys) part from) → part < length xs
part_there F xs ys part from done len same lo hi =
    let within = coming_part (map F ys) part from (omega (arith, lo, hi)) in
    omega (arith, within, ap length same, length-map xs F)

-- where the count of a part has risen
pub risen_part : {X : Type 0} (N : X → ℕ) (xs ys : List X) (part : ℕ) (new d : X) → map N xs ≡ map N ys → part < length xs → N new ≡ count_after (N (get_or xs part d)) → HasFailed (map N ys) (map N (set xs part new))
risen_part N xs ys part new d same there risen =
    let there_too : part < length (set xs part new) = rw (length-set xs part new) there in
    let after = get_or-map N (set xs part new) part d 0 there_too ∙ ap N (get_or-set_same xs part new d there) ∙ risen in
    let before = sym (get_or-map N xs part d 0 there) ∙ ap (λ l. get_or l part 0) same in
    (part, omega (arith, there, ap length same, length-map xs N), after ∙ ap count_after before)

pub on_err : {P T E : Type 0} (r : Result T E) → P → OnErr r P
on_err (Ok x) p = tt
on_err (Err x) p = p
