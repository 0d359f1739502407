-- A copy in which boxes of the file itself that are passed over are free space denotes the same.
use Rattle.std.proofs.Common.{◌≡◌, ℕ, zero, suc, ◌+◌, ◌-◌, ◌<◌, ◌≤◌, Bool, true, false, List, [], ◌∷◌, ◌++◌, length, take, drop, map, Ok, Some, refl, sym, ap, subst, ◌∙◌, arith, inl, inr, append_assoc, length-append, length-drop, take-append-drop}
use Rattle.std.specs.Prelude.{codes, ◌⊎◌, ℤ, pos, negsuc, not, ◌||◌, min, bytes_eq, IsTrue, ⊤}
use Rattle.std.specs.List.{AllByRecursion}
use Rattle.std.proofs.lemmas.Slice.Eq.{bytes_eq-Decides}
use Rattle.std.proofs.lemmas.Grind.{common_steps}
use Rattle.std.proofs.lemmas.List.{drop-take, drop-drop, drop-append-le, take-take, take-append-le, take_all}
use Rattle.std.proofs.Math.ListN.{drop_of_length-le}
use Rattle.mp4_boxes.specs.format.Box.{Box, Header, header_at, box_of, size, sizes, LieEndToEnd}
use Rattle.mp4_boxes.specs.format.Children.{allows, is_among, count_among, of_kind}
use Rattle.mp4_boxes.specs.declared.rule.Rule.{Rule}
use Rattle.mp4_boxes.specs.declared.rule.Rule.TheVariants.{File}
use Rattle.mp4_boxes.proofs.Tiling.{IsRead, header_is, box_size, sizes-cons}
use Rattle.mp4_boxes.proofs.Plain.{true_false}
use Rattle.mp4_store.proofs.Parts.{take_in_two}
use Rattle.mp4_tables.specs.format.PlainSamples.{PlacedSample}
use Rattle.mp4_tables.specs.format.TableRules.{Fit}
use Rattle.mp4_tables.specs.format.Tables.{tables_of}
use Rattle.mp4_frag.specs.format.FragmentSamples.{Part}
use Rattle.mp4_frag.specs.format.FragmentRules.{is_within}
use Rattle.mp4_head.specs.format.Tree.{TrackTree, movie_head_of}
use Rattle.mp4_present.specs.format.Denotes.{FileTree, begins_with_movie, bytes_at, sample_of, placed_of, track_of, file_parts}
use Rattle.mp4_present.proofs.DenotedOpens.{stands_refuses}
use Rattle.mp4_answers.specs.declared.box_names.Name.{Name}
use Rattle.mp4_answers.specs.format.BoxWalk.{rule_inside}
use Rattle.mp4_answers.specs.format.Strips.{is_top, is_named, freed, payload_behind, uuid_at, Strips, ends, frees, keeps, enters}
use Rattle.mp4_answers.specs.format.StripLaws.{NamedBoxAt, at_front, further, inside, passed_over, MeansPassedOver, SparesBytes, CopyDenotesTheSame}
use Rattle.mp4_answers.proofs.BoxLists.{inside_lower}
use Rattle.mp4_answers.proofs.StripCopies.{same_header, no_header}
use Rattle.mp4_answers.proofs.StripLaws.{length_box, length_freed, strip_length, unnamed_copied}
use Rattle.mp4_answers.proofs.StripLeft.{with_kind, kept_header, freed_header, behind_part}
use Rattle.mp4_answers.proofs.StripFaults.{foreign, top_highest, not_top, foreign_is_fault}

-- ---- no box that is named stands in a container

abbrev IsClean : Rule → List ℕ → Type 0
IsClean rule bytes = (place : ℕ) → NamedBoxAt foreign rule place bytes → ⊥

bool_cases : (b : Bool) → (b ≡ true) ⊎ (b ≡ false)
bool_cases true = inl refl
bool_cases false = inr refl

refuses : (b : Bool) → b ≡ false → (not b || false) ≡ true
refuses true e = absurd cc
refuses false e = refl

passes : (b : Bool) → b ≡ true → (not b || false) ≡ false
passes true e = refl
passes false e = absurd cc

-- a box that a clean container has in front is one of the profile
clean_front : (rule : Rule) (bytes : List ℕ) (h : Header) → IsClean rule bytes → header_at (is_top rule) bytes ≡ Ok h → allows rule h.kind ≡ true
clean_front rule bytes h clean e = elim (bool_cases (allows rule h.kind)) [
  | inl a ↦ a
  | inr n ↦ absurd (clean 0 (at_front rule 0 bytes h e (refuses (allows rule h.kind) n) refl))
]

clean_behind : (rule : Rule) (bytes : List ℕ) (h : Header) → IsClean rule bytes → header_at (is_top rule) bytes ≡ Ok h → IsClean rule (drop h.size bytes)
clean_behind rule bytes h clean e place x = clean (h.size + place) (further rule (h.size + place) bytes h place e x refl)

clean_within : (rule : Rule) (bytes : List ℕ) (h : Header) (inner : Rule) → IsClean rule bytes → header_at (is_top rule) bytes ≡ Ok h → rule_inside rule h.kind ≡ Some inner → IsClean inner (payload_behind h bytes)
clean_within rule bytes h inner clean e i place x =
    let a = passes (allows rule h.kind) (clean_front rule bytes h clean e) in
    clean (h.length + place) (inside rule (h.length + place) bytes h inner place e a i x refl)

entered_low : (rule inner : Rule) (kind : List ℕ) → rule_inside rule kind ≡ Some inner → is_top inner ≡ false
entered_low rule inner kind i =
    let lower = inside_lower rule inner kind i in
    not_top inner (omega (arith, lower, top_highest rule))

none_named : (names : List Name) → MeansPassedOver names → (rule : Rule) (place : ℕ) (bytes : List ℕ) → is_top rule ≡ false → IsClean rule bytes → NamedBoxAt names rule place bytes → ⊥
none_named names means rule place bytes low clean (at_front _ _ _ h e n p) =
    true_false (is_top rule) (means rule h.kind (uuid_at h bytes) (clean_front rule bytes h clean e) n).0 low
none_named names means rule place bytes low clean (further _ _ _ h left e x p) =
    none_named names means rule left (drop h.size bytes) low (clean_behind rule bytes h clean e) x
none_named names means rule place bytes low clean (inside _ _ _ h inner left e n i x p) =
    none_named names means inner left (payload_behind h bytes) (entered_low rule inner h.kind i) (clean_within rule bytes h inner clean e i) x

-- ---- the file's own boxes, one after the other

-- what stands for boxes of the file, of which some are free space
data Copied (names : List Name) : List ℕ → List ℕ → Type 0 where
  ended : (bytes text : List ℕ) → bytes ≡ [] → text ≡ [] → Copied names bytes text
  freed_box : (bytes text : List ℕ) (h : Header) (rest : List ℕ) → header_at true bytes ≡ Ok h → is_named names File h.kind (uuid_at h bytes) ≡ true → is_among passed_over h.kind ≡ true
      → length text ≡ length bytes → Copied names (drop h.size bytes) rest → text ≡ freed (take h.size bytes) ++ rest → Copied names bytes text
  same_box : (bytes text : List ℕ) (h : Header) (rest : List ℕ) → header_at true bytes ≡ Ok h → length text ≡ length bytes → Copied names (drop h.size bytes) rest → text ≡ take h.size bytes ++ rest → Copied names bytes text

-- the first box is its header and its payload
box_whole : (bytes : List ℕ) (h : Header) → IsRead (length bytes) h → take h.length bytes ++ payload_behind h bytes ≡ take h.size bytes
box_whole bytes h r =
    let from : h.length ≤ h.size = r.inside in
    let sum : h.size ≡ h.length + (h.size - h.length) = omega (arith, from) in
    let front : take h.length (take h.size bytes) ≡ take h.length bytes = take-take h.length h.size bytes from in
    let behind : drop h.length (take h.size bytes) ≡ payload_behind h bytes = ap (λ n. drop h.length (take n bytes)) sum ∙ drop-take h.length (h.size - h.length) bytes in
    sym (ap (λ xs. xs ++ payload_behind h bytes) front) ∙ sym (ap (λ xs. take h.length (take h.size bytes) ++ xs) behind) ∙ take-append-drop h.length (take h.size bytes)

copied : (names : List Name) → MeansPassedOver names → (bytes text : List ℕ) → IsClean File bytes → Strips names File bytes text → Copied names bytes text
copied names means bytes text clean (ends _ _ _ b t) = ended bytes text b t
copied names means bytes text clean (frees _ _ _ h rest e n s t) =
    let long = strip_length names File bytes text (frees File bytes text h rest e n s t) in
    let over = (means File h.kind (uuid_at h bytes) (clean_front File bytes h clean e) n).1 in
    freed_box bytes text h rest e n over long (copied names means (drop h.size bytes) rest (clean_behind File bytes h clean e) s) t
copied names means bytes text clean (keeps _ _ _ h rest e n i s t) =
    let long = strip_length names File bytes text (keeps File bytes text h rest e n i s t) in
    same_box bytes text h rest e long (copied names means (drop h.size bytes) rest (clean_behind File bytes h clean e) s) t
copied names means bytes text clean (enters _ _ _ h inner middle rest e n i w s t) =
    let long = strip_length names File bytes text (enters File bytes text h inner middle rest e n i w s t) in
    let r = header_is true bytes h e in
    let low = entered_low File inner h.kind i in
    let within = clean_within File bytes h inner clean e i in
    let held : middle ≡ payload_behind h bytes = unnamed_copied names inner (payload_behind h bytes) middle (λ place x. none_named names means inner place (payload_behind h bytes) low within x) w in
    let whole : take h.length bytes ++ (middle ++ rest) ≡ take h.size bytes ++ rest =
    ap (λ xs. take h.length bytes ++ (xs ++ rest)) held ∙ sym (append_assoc (take h.length bytes) (payload_behind h bytes) rest) ∙ ap (λ xs. xs ++ rest) (box_whole bytes h r)
    in
    same_box bytes text h rest e long (copied names means (drop h.size bytes) rest (clean_behind File bytes h clean e) s) (t ∙ whole)

-- ---- bytes that no named type has

-- so many bytes at a place
abbrev part : ℕ → ℕ → List ℕ → List ℕ
part at count bytes = take count (drop at bytes)

drop_in_two : (xs ys : List ℕ) (at : ℕ) → drop at (xs ++ ys) ≡ drop at xs ++ drop (at - length xs) ys
drop_in_two [] ys at = let same : at - 0 ≡ at = omega arith in rw same (ap (λ (l : List ℕ). l ++ drop at ys) (sym (drop_of_length-le {A = ℕ} [] (omega arith))))
drop_in_two (x ∷ xs) ys zero = let none : 0 - length (x ∷ xs) ≡ 0 = omega arith in rw none refl
drop_in_two (x ∷ xs) ys (suc at) = let less : suc at - length (x ∷ xs) ≡ at - length xs = omega arith in rw less (drop_in_two xs ys at)

part_in_two : (xs ys : List ℕ) (at count : ℕ) → part at count (xs ++ ys) ≡ part at count xs ++ part (at - length xs) (count - (length xs - at)) ys
part_in_two xs ys at count =
    let n = min (length (drop at xs)) count in
    let d : length (drop at xs) ≡ length xs - at = length-drop at xs in
    let left : count - n ≡ count - (length xs - at) = omega (arith, d) in
    let all : take n (drop at xs) ≡ take count (drop at xs) = take_least (drop at xs) count in
    ap (take count) (drop_in_two xs ys at) ∙ take_in_two (drop at xs) (drop (at - length xs) ys) count n refl
    ∙ ap (λ l. l ++ take (count - n) (drop (at - length xs) ys)) all ∙ ap (λ k. take count (drop at xs) ++ take k (drop (at - length xs) ys)) left
  where
    take_least : (xs : List ℕ) (m : ℕ) → take (min (length xs) m) xs ≡ take m xs
    take_least [] m = grind (arith, common_steps)
    take_least (x ∷ xs) zero = grind (arith, common_steps)
    take_least (x ∷ xs) (suc m) = let less : min (suc (length xs)) (suc m) ≡ suc (min (length xs) m) = omega arith in rw less (ap (λ l. x ∷ l) (take_least xs m))

behind_type : (bytes : List ℕ) → 8 ≤ length bytes → drop 8 (freed bytes) ≡ drop 8 bytes
behind_type bytes le = grind (arith, common_steps)

before_type : (bytes : List ℕ) → 8 ≤ length bytes → take 4 (freed bytes) ≡ take 4 bytes
before_type bytes le = grind (arith, common_steps)

part_freed : (bytes : List ℕ) (at count : ℕ) → 8 ≤ length bytes → (at + count ≤ 4) ⊎ (8 ≤ at) → part at count (freed bytes) ≡ part at count bytes
part_freed bytes at count long (inl low) =
    let front : (xs : List ℕ) → part at count xs ≡ drop at (take (at + count) (take 4 xs)) = λ xs. sym (drop-take at count xs) ∙ ap (drop at) (sym (take-take (at + count) 4 xs low)) in
    front (freed bytes) ∙ ap (λ xs. drop at (take (at + count) xs)) (before_type bytes long) ∙ sym (front bytes)
part_freed bytes at count long (inr high) =
    let sum : at ≡ 8 + (at - 8) = omega (arith, high) in
    let behind : (xs : List ℕ) → drop at xs ≡ drop (at - 8) (drop 8 xs) = λ xs. ap (λ k. drop k xs) sum ∙ sym (drop-drop (at - 8) 8 xs) in
    ap (take count) (behind (freed bytes) ∙ ap (drop (at - 8)) (behind_type bytes long) ∙ sym (behind bytes))

abbrev Spared : List Name → List ℕ → ℕ → ℕ → Type 0
Spared names bytes at count = (place : ℕ) → 0 < count → NamedBoxAt names File place bytes → (at + count ≤ place + 4) ⊎ (place + 8 ≤ at)

spared_behind : (names : List Name) (bytes : List ℕ) (at count : ℕ) (h : Header) → header_at true bytes ≡ Ok h → Spared names bytes at count → Spared names (drop h.size bytes) (at - h.size) (count - (h.size - at))
spared_behind names bytes at count h e spared place some x = elim (spared (h.size + place) (omega (arith, some)) (further File (h.size + place) bytes h place e x refl)) [
  | inl low ↦ inl (omega (arith, low, some))
  | inr high ↦ inr (omega (arith, high))
]

-- a part that has bytes of two lists, of which each has the same bytes in both
part_joined : (xs ys us vs bytes text : List ℕ) (at count n : ℕ) → bytes ≡ xs ++ ys → text ≡ us ++ vs → length xs ≡ n → length us ≡ n
    → part at count us ≡ part at count xs → part (at - n) (count - (n - at)) vs ≡ part (at - n) (count - (n - at)) ys → part at count text ≡ part at count bytes
part_joined xs ys us vs bytes text at count n b t l m first second =
    let whole : part at count bytes ≡ part at count xs ++ part (at - n) (count - (n - at)) ys =
    ap (part at count) b ∙ part_in_two xs ys at count ∙ ap (λ k. part at count xs ++ part (at - k) (count - (k - at)) ys) l
    in
    let other : part at count text ≡ part at count us ++ part (at - n) (count - (n - at)) vs =
    ap (part at count) t ∙ part_in_two us vs at count ∙ ap (λ k. part at count us ++ part (at - k) (count - (k - at)) vs) m
    in
    other ∙ ap (λ (l : List ℕ). l ++ part (at - n) (count - (n - at)) vs) first ∙ ap (λ (l : List ℕ). part at count xs ++ l) second ∙ sym whole

agrees : (names : List Name) (bytes text : List ℕ) (at count : ℕ) → Copied names bytes text → Spared names bytes at count → part at count text ≡ part at count bytes
agrees names bytes text at zero c spared = refl
agrees names bytes text at (suc k) (ended _ _ b t) spared = ap (part at (suc k)) (t ∙ sym b)
agrees names bytes text at (suc k) (freed_box _ _ h rest e n over long c t) spared =
    let r = header_is true bytes h e in
    let whole = length_box bytes h.size r.fits in
    let least : 8 ≤ length (take h.size bytes) = omega (arith, whole, r.length, r.inside) in
    let apart : (at + suc k ≤ 4) ⊎ (8 ≤ at) = spared 0 (omega arith) (at_front File 0 bytes h e n refl) in
    let more = agrees names (drop h.size bytes) rest (at - h.size) (suc k - (h.size - at)) c (spared_behind names bytes at (suc k) h e spared) in
    part_joined (take h.size bytes) (drop h.size bytes) (freed (take h.size bytes)) rest bytes text at (suc k) h.size (sym (take-append-drop h.size bytes)) t whole (length_freed (take h.size bytes) least ∙ whole)
    (part_freed (take h.size bytes) at (suc k) least apart) more
agrees names bytes text at (suc k) (same_box _ _ h rest e long c t) spared =
    let r = header_is true bytes h e in
    let whole = length_box bytes h.size r.fits in
    let more = agrees names (drop h.size bytes) rest (at - h.size) (suc k - (h.size - at)) c (spared_behind names bytes at (suc k) h e spared) in
    part_joined (take h.size bytes) (drop h.size bytes) (take h.size bytes) rest bytes text at (suc k) h.size (sym (take-append-drop h.size bytes)) t whole whole refl more

-- ---- the boxes of the copy

-- the same boxes, but that some that are passed over are free space
abbrev Retyped : List Box → List Box → Type 0
Retyped [] [] = ⊤
Retyped (b ∷ bs) (c ∷ cs) = ((c ≡ b) ⊎ ((is_among passed_over b.kind ≡ true) × (c.kind ≡ codes "free"))) × Retyped bs cs
Retyped [] (c ∷ cs) = ⊥
Retyped (b ∷ bs) [] = ⊥

-- a payload that was kept
kept_payload : (bytes rest : List ℕ) (h : Header) → IsRead (length bytes) h → payload_behind h (take h.size bytes ++ rest) ≡ payload_behind h bytes
kept_payload bytes rest h r =
    let from : h.length ≤ h.size = r.inside in
    let sum : h.size ≡ h.length + (h.size - h.length) = omega (arith, from) in
    let box = length_box bytes h.size r.fits in
    let less : length (drop h.length (take h.size bytes)) ≡ h.size - h.length = length-drop h.length (take h.size bytes) ∙ ap (λ n. n - h.length) box in
    let same : drop h.length (take h.size bytes ++ rest) ≡ drop h.length (take h.size bytes) ++ rest = drop-append-le h.length (take h.size bytes) rest (omega (arith, from, box)) in
    ap (take (h.size - h.length)) same ∙ take-append-le (h.size - h.length) (drop h.length (take h.size bytes)) rest (omega (arith, less))
    ∙ take_all (h.size - h.length) (drop h.length (take h.size bytes)) (omega (arith, less)) ∙ ap (λ n. drop h.length (take n bytes)) sum ∙ drop-take h.length (h.size - h.length) bytes

abbrev NewBoxes : ℕ → List ℕ → List Box → Type 0
NewBoxes at text boxes = (others : List Box) × LieEndToEnd true at text others × (sizes others ≡ length text) × Retyped boxes others

no_first : (bytes : List ℕ) (h : Header) → 0 ≡ length bytes → header_at true bytes ≡ Ok h → ⊥
no_first bytes h none e =
    let r = header_is true bytes h e in
    let long : 8 ≤ h.length = r.length in
    let from : h.length ≤ h.size = r.inside in
    let to : h.size ≤ length bytes = r.fits in
    omega (arith, none, long, from, to)

-- one box more in front
one_more : (at : ℕ) (bytes text rest : List ℕ) (b c : Box) (bs : List Box) (g : Header) → header_at true text ≡ Ok g → c ≡ box_of at text g → size c ≡ size b → drop (size c) text ≡ rest → length text ≡ size c + length rest
    → ((c ≡ b) ⊎ ((is_among passed_over b.kind ≡ true) × (c.kind ≡ codes "free"))) → NewBoxes (at + size b) rest bs → NewBoxes at text (b ∷ bs)
one_more at bytes text rest b c bs g e is same behind long kind more =
    let lie : LieEndToEnd true (at + size c) (drop (size c) text) more.0 = subst (λ xs. LieEndToEnd true (at + size c) xs more.0) (sym behind) (subst (λ n. LieEndToEnd true (at + n) rest more.0) (sym same) more.1) in
    (c ∷ more.0, ((g, e, is), lie), sizes-cons c more.0 ∙ omega (arith, more.2, long), (kind, more.3))

new_boxes : (names : List Name) (at : ℕ) (bytes text : List ℕ) (boxes : List Box) → Copied names bytes text → LieEndToEnd true at bytes boxes → sizes boxes ≡ length bytes → NewBoxes at text boxes
new_boxes names at bytes text [] (ended _ _ b t) lie full = ([], tt, sym (ap length t), tt)
new_boxes names at bytes text [] (freed_box _ _ h rest e n over long c t) lie full = absurd (no_first bytes h full e)
new_boxes names at bytes text [] (same_box _ _ h rest e long c t) lie full = absurd (no_first bytes h full e)
new_boxes names at bytes text (b ∷ bs) (ended _ _ none t) lie full = absurd (no_header true bytes lie.0.0 none lie.0.1)
new_boxes names at bytes text (b ∷ bs) (freed_box _ _ h rest e n over long c t) lie full =
    let same = same_header (header_at true bytes) lie.0.0 h lie.0.1 e in
    let is : b ≡ box_of at bytes h = lie.0.2 ∙ ap (box_of at bytes) same in
    let r = header_is true bytes h e in
    let from : h.length ≤ h.size = r.inside in
    let to : h.size ≤ length bytes = r.fits in
    let eight : 8 ≤ h.length = r.length in
    let wide : size b ≡ h.size = ap size is ∙ box_size at bytes h r in
    let whole = length_box bytes h.size to in
    let freed_long : length (freed (take h.size bytes)) ≡ h.size = length_freed (take h.size bytes) (omega (arith, whole, eight, from)) ∙ whole in
    let read : header_at true text ≡ Ok (with_kind (codes "free") h) = ap (header_at true) t ∙ freed_header true bytes rest h e (sym (ap length t) ∙ long) in
    let new = box_of at text (with_kind (codes "free") h) in
    let new_wide : size new ≡ h.size = box_size at text (with_kind (codes "free") h) (header_is true text (with_kind (codes "free") h) read) in
    let behind : drop (size new) text ≡ rest = ap (drop (size new)) t ∙ behind_part (freed (take h.size bytes)) rest (size new) (freed_long ∙ sym new_wide) in
    let sum : length text ≡ size new + length rest = ap length t ∙ length-append (freed (take h.size bytes)) rest ∙ omega (arith, freed_long, new_wide) in
    let kind : is_among passed_over b.kind ≡ true = ap (λ (x : Box). is_among passed_over x.kind) is ∙ over in
    let left : sizes bs ≡ length (drop (size b) bytes) = let d = length-drop (size b) bytes in omega (arith, full, d, sizes-cons b bs, wide, to) in
    let more = new_boxes names (at + size b) (drop (size b) bytes) rest bs (subst (λ n. Copied names (drop n bytes) rest) (sym wide) c) lie.1 left in
    one_more at bytes text rest b new bs (with_kind (codes "free") h) read refl (new_wide ∙ sym wide) behind sum (inr (kind, refl)) more
new_boxes names at bytes text (b ∷ bs) (same_box _ _ h rest e long c t) lie full =
    let same = same_header (header_at true bytes) lie.0.0 h lie.0.1 e in
    let is : b ≡ box_of at bytes h = lie.0.2 ∙ ap (box_of at bytes) same in
    let r = header_is true bytes h e in
    let from : h.length ≤ h.size = r.inside in
    let to : h.size ≤ length bytes = r.fits in
    let wide : size b ≡ h.size = ap size is ∙ box_size at bytes h r in
    let whole = length_box bytes h.size to in
    let read : header_at true text ≡ Ok h = ap (header_at true) t ∙ kept_header true bytes rest h.size h e to from (sym (ap length t) ∙ long) in
    let held : payload_behind h text ≡ payload_behind h bytes = ap (payload_behind h) t ∙ kept_payload bytes rest h r in
    let stays : b ≡ box_of at text h = is ∙ ap (λ (xs : List ℕ). record { kind = h.kind; offset = at; header = h.length; payload = xs }) (sym held) in
    let behind : drop (size b) text ≡ rest = ap (drop (size b)) t ∙ behind_part (take h.size bytes) rest (size b) (whole ∙ sym wide) in
    let sum : length text ≡ size b + length rest = ap length t ∙ length-append (take h.size bytes) rest ∙ omega (arith, whole, wide) in
    let left : sizes bs ≡ length (drop (size b) bytes) = let d = length-drop (size b) bytes in omega (arith, full, d, sizes-cons b bs, wide, to) in
    let more = new_boxes names (at + size b) (drop (size b) bytes) rest bs (subst (λ n. Copied names (drop n bytes) rest) (sym wide) c) lie.1 left in
    one_more at bytes text rest b b bs h read stays refl behind sum (inl refl) more

-- ---- what the boxes of the copy are

-- a type that is passed over is not this one
is_other : (kind held : List ℕ) → is_among passed_over kind ≡ false → is_among passed_over held ≡ true → bytes_eq kind held ≡ false
is_other kind held other over = elim (bool_cases (bytes_eq kind held)) [
  | inl same ↦
      let e : kind ≡ held = (bytes_eq-Decides kind held).0 same in
      absurd (true_false (is_among passed_over held) over (sym (ap (is_among passed_over) e) ∙ other))
  | inr n ↦ n
]

same_kinds : (kind : List ℕ) (bs cs : List Box) → is_among passed_over kind ≡ false → bytes_eq kind (codes "free") ≡ false → Retyped bs cs → of_kind kind cs ≡ of_kind kind bs
same_kinds kind [] [] other free r = refl
same_kinds kind [] (c ∷ cs) other free r = absurd r
same_kinds kind (b ∷ bs) [] other free r = absurd r
same_kinds kind (b ∷ bs) (c ∷ cs) other free (inl e, more) =
    let rest = same_kinds kind bs cs other free more in
    rw (e, rest) refl
same_kinds kind (b ∷ bs) (c ∷ cs) other free (inr k, more) =
    let rest = same_kinds kind bs cs other free more in
    let was = is_other kind b.kind other k.0 in
    let now : bytes_eq kind c.kind ≡ false = ap (bytes_eq kind) k.1 ∙ free in
    rw (was, now) rest

same_order : (bs cs : List Box) → Retyped bs cs → begins_with_movie cs ≡ begins_with_movie bs
same_order [] [] r = refl
same_order [] (c ∷ cs) r = absurd r
same_order (b ∷ bs) [] r = absurd r
same_order (b ∷ bs) (c ∷ cs) (inl e, more) =
    let rest = same_order bs cs more in
    rw (e, rest) refl
same_order (b ∷ bs) (c ∷ cs) (inr k, more) =
    let rest = same_order bs cs more in
    let was = is_other (codes "moov") b.kind refl k.0 in
    let was' = is_other (codes "moof") b.kind refl k.0 in
    let now : bytes_eq (codes "moov") c.kind ≡ false = ap (bytes_eq (codes "moov")) k.1 in
    let now' : bytes_eq (codes "moof") c.kind ≡ false = ap (bytes_eq (codes "moof")) k.1 in
    rw (was, was', now, now') rest

same_count : (bs cs : List Box) → Retyped bs cs → count_among (codes "moov" ∷ []) cs ≡ count_among (codes "moov" ∷ []) bs
same_count [] [] r = refl
same_count [] (c ∷ cs) r = absurd r
same_count (b ∷ bs) [] r = absurd r
same_count (b ∷ bs) (c ∷ cs) (inl e, more) =
    let rest = same_count bs cs more in
    rw (e, rest) refl
same_count (b ∷ bs) (c ∷ cs) (inr k, more) =
    let rest = same_count bs cs more in
    let was = is_other (codes "moov") b.kind refl k.0 in
    let now : bytes_eq (codes "moov") c.kind ≡ false = ap (bytes_eq (codes "moov")) k.1 in
    rw (was, now) (ap (λ n. 0 + n) rest)

still_allowed : (bs cs : List Box) → Retyped bs cs → AllByRecursion (λ (b : Box). IsTrue (allows File b.kind)) bs → AllByRecursion (λ (b : Box). IsTrue (allows File b.kind)) cs
still_allowed [] [] r a = tt
still_allowed [] (c ∷ cs) r a = absurd r
still_allowed (b ∷ bs) [] r a = absurd r
still_allowed (b ∷ bs) (c ∷ cs) (inl e, more) a = (subst (λ (x : Box). IsTrue (allows File x.kind)) (sym e) a.0, still_allowed bs cs more a.1)
still_allowed (b ∷ bs) (c ∷ cs) (inr k, more) a = (subst (λ kind. IsTrue (allows File kind)) (sym k.1) refl, still_allowed bs cs more a.1)

-- ---- what they mean

same_bytes : (names : List Name) (file text : List ℕ) (at : ℤ) (count : ℕ) → Copied names file text → SparesBytes names file at count → bytes_at text at count ≡ bytes_at file at count
same_bytes names file text (pos at) count c s = agrees names file text at count c s
same_bytes names file text (negsuc below) count c s = refl

same_samples : (names : List Name) (file text : List ℕ) (ss : List PlacedSample) → Copied names file text → AllByRecursion (λ (s : PlacedSample). SparesBytes names file s.at s.size) ss → map (sample_of text) ss ≡ map (sample_of file) ss
same_samples names file text [] c a = refl
same_samples names file text (s ∷ ss) c a =
    let bytes = same_bytes names file text s.at s.size c a.0 in
    let first : sample_of text s ≡ sample_of file s = ap (λ (bs : List ℕ). record { duration = s.duration; offset = s.offset; flags = s.flags; description = s.description; bytes = bs; groups = s.groups }) bytes in
    let rest = same_samples names file text ss c a.1 in
    rw (first, rest) refl

same_tracks : (names : List Name) (file text : List ℕ) (parts : List Part) (ts : List TrackTree) → Copied names file text
    → AllByRecursion (λ (t : TrackTree). AllByRecursion (λ (s : PlacedSample). SparesBytes names file s.at s.size) (placed_of parts t)) ts → map (track_of text parts) ts ≡ map (track_of file parts) ts
same_tracks names file text parts [] c a = refl
same_tracks names file text parts (t ∷ ts) c a =
    let samples = same_samples names file text (placed_of parts t) c a.0 in
    let first : track_of text parts t ≡ track_of file parts t = ap (λ ss. record { head = (track_of file parts t).head; start = (track_of file parts t).start; samples = ss }) samples in
    let rest = same_tracks names file text parts ts c a.1 in
    rw (first, rest) refl

pub copy_denotes_the_same : CopyDenotesTheSame
copy_denotes_the_same names file text p d means spared stripped =
    let clean : IsClean File file = λ place x. let f = foreign_is_fault file place x in stands_refuses f.2.0 file f.0 p f.2.1 d in
    let c = copied names means file text clean stripped in
    let long : length text ≡ length file = strip_length names File file text stripped in
    let holds = d.is_tree.top in
    let new = new_boxes names 0 file text d.tree.top c holds.tiles.front.0 holds.tiles.full in
    let tree : FileTree = record { top = new.0; movie = d.tree.movie; fragments = d.tree.fragments } in
    let count : count_among (codes "moov" ∷ []) new.0 ≡ 1 = same_count d.tree.top new.0 new.3 ∙ holds.quantities.0 in
    let tracks = same_tracks names file text (file_parts d.tree) d.tree.movie.tracks c spared in
    record {
      tree = tree;
      is_tree = record {
        top = record {
          tiles = record { front = (new.1, tt); full = new.2 };
          allowed = still_allowed d.tree.top new.0 new.3 holds.allowed;
          quantities = (count, (tt, (tt, (tt, (tt, (tt, (tt, tt)))))));
        };
        order = same_order d.tree.top new.0 new.3 ∙ d.is_tree.order;
        moov = same_kinds (codes "moov") d.tree.top new.0 refl refl new.3 ∙ d.is_tree.moov;
        movie = d.is_tree.movie;
        moofs = d.is_tree.moofs ∙ sym (same_kinds (codes "moof") d.tree.top new.0 refl refl new.3);
        fragments = d.is_tree.fragments;
      };
      is_sound = record { movie = d.is_sound.movie; tables = d.is_sound.tables; fragments = d.is_sound.fragments };
      is_consistent = record {
        tables = subst (λ n. AllByRecursion (λ (track : TrackTree). Fit (record { file_length = n; descriptions = length track.descriptions }) (tables_of track.table)) d.tree.movie.tracks) (sym long) d.is_consistent.tables;
        known = d.is_consistent.known;
        indexes = d.is_consistent.indexes;
        places = subst (λ n. AllByRecursion (λ (part : Part). AllByRecursion (λ run. IsTrue (is_within n run)) part.runs) (file_parts d.tree)) (sym long) d.is_consistent.places;
        groups = d.is_consistent.groups;
        times = d.is_consistent.times;
      };
      says = d.says ∙ ap (λ ts. record { movie = movie_head_of d.tree.movie; tracks = ts }) (sym tracks);
      limits = d.limits;
    }
