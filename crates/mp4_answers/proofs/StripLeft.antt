-- A copy has no named box left.
use Rattle.std.proofs.Common.{◌≡◌, ℕ, ◌+◌, ◌-◌, ◌≤◌, Bool, true, false, cond, ltb, eqb, List, [], ◌++◌, length, take, drop, Result, Ok, Err, None, Some, refl, sym, ap, subst, ◌∙◌, arith, inl, inr, length-append, length-drop, append_assoc}
use Rattle.std.specs.Prelude.{codes, Option, ◌⊎◌, bytes_eq}
use Rattle.std.proofs.lemmas.Slice.Eq.{bytes_eq-Decides}
use Rattle.std.proofs.lemmas.Grind.{common_steps}
use Rattle.std.proofs.lemmas.List.{drop-take, drop-append-le, take-take, take-append-le, take_all}
use Rattle.std.proofs.Math.Seq.{drop-append-add}
use Rattle.byteorder.specs.Numbers.{big_from-take, big_from-append}
use Rattle.mp4_boxes.specs.format.Bytes.{field}
use Rattle.mp4_boxes.specs.format.Box.{Header, fitting, header_at}
use Rattle.mp4_boxes.specs.declared.fault.Kind.{Kind}
use Rattle.mp4_boxes.specs.declared.fault.Kind.TheVariants.{ShortHeader, BadSize, Overrun}
use Rattle.mp4_boxes.specs.declared.rule.Rule.{Rule}
use Rattle.mp4_boxes.specs.declared.rule.Rule.TheVariants.{File, Movie, Track, Edits, Media, MediaInformation, DataInformation, SampleTable, MovieExtends, MovieFragment, TrackFragment}
use Rattle.mp4_boxes.proofs.Tiling.{IsRead, header_is}
use Rattle.mp4_boxes.proofs.Plain.{false_and_true}
use Rattle.mp4_answers.specs.declared.box_names.Name.{Name}
use Rattle.mp4_answers.specs.format.BoxWalk.{rule_inside}
use Rattle.mp4_answers.specs.format.Texts.{uuid_in}
use Rattle.mp4_answers.specs.format.Strips.{is_top, is_named, freed, payload_behind, uuid_at, Strips, ends, frees, keeps, enters}
use Rattle.mp4_answers.specs.format.StripLaws.{NamedBoxAt, at_front, further, inside, SparesFree, StripLeavesNone, StripTwiceIsOnce, ForeignSparesFree}
use Rattle.mp4_answers.proofs.StripCopies.{same_header, no_header, some_same}
use Rattle.mp4_answers.proofs.StripLaws.{length_box, length_freed, length_payload, strip_length, four_first, unnamed_is_copied}
use Rattle.mp4_boxes.proofs.OfBytes.{field_dropped}

-- ---- a header with another type

abbrev done : Header → Result Header Kind
done h = Ok h

ok_is : (g h : Header) → done g ≡ done h → g ≡ h
ok_is g h e = cc

guard : (b : Bool) (k : Kind) (r : Result Header Kind) (h : Header) → cond b (Err k) r ≡ Ok h → (b ≡ false) × (r ≡ Ok h)
guard true k r h e = absurd cc
guard false k r h e = (refl, e)

pass : (b : Bool) (k : Kind) (r s : Result Header Kind) → b ≡ false → r ≡ s → cond b (Err k) r ≡ s
pass true k r s p e = absurd cc
pass false k r s p e = e

abbrev pub with_kind : List ℕ → Header → Header
with_kind kind h = record { kind = kind; length = h.length; size = h.size }

abbrev header_of : List ℕ → ℕ → ℕ → Header
header_of kind l s = record { kind = kind; length = l; size = s }

renamed : (kind other : List ℕ) (l s : ℕ) (h : Header) → done (header_of kind l s) ≡ Ok h → (done (header_of other l s) ≡ Ok (with_kind other h)) × (h.kind ≡ kind) × (h.length ≡ l)
renamed kind other l s h e =
    let same = ok_is (header_of kind l s) h e in
    (ap (λ (x : Header). done (with_kind other x)) same, sym (ap (λ (x : Header). x.kind) same), sym (ap (λ (x : Header). x.length) same))

fitting_so : (left least : ℕ) (kind other : List ℕ) (l s : ℕ) (h : Header) → fitting left least (header_of kind l s) ≡ Ok h → (fitting left least (header_of other l s) ≡ Ok (with_kind other h)) × (h.kind ≡ kind) × (h.length ≡ l)
fitting_so left least kind other l s h e =
    let a = guard (ltb s least) BadSize (cond (ltb left s) (Err Overrun) (Ok (header_of kind l s))) h e in
    let b = guard (ltb left s) Overrun (Ok (header_of kind l s)) h a.1 in
    let c = renamed kind other l s h b.1 in
    (pass (ltb s least) BadSize (cond (ltb left s) (Err Overrun) (Ok (header_of other l s))) (Ok (with_kind other h)) a.0 (pass (ltb left s) Overrun (Ok (header_of other l s)) (Ok (with_kind other h)) b.0 c.0), c.1, c.2)

-- what a header says, by its type and its two numbers
abbrev large_said : ℕ → List ℕ → ℕ → Result Header Kind
large_said left kind large = cond (ltb left 16) (Err ShortHeader) (fitting left 16 (header_of kind 16 large))

abbrev open_said : Bool → ℕ → List ℕ → Result Header Kind
open_said is_open left kind = cond is_open (Ok (header_of kind 8 left)) (Err BadSize)

abbrev said : Bool → ℕ → List ℕ → ℕ → ℕ → Result Header Kind
said is_open left kind small large =
    cond (ltb left 8) (Err ShortHeader) (cond (eqb small 1) (large_said left kind large) (cond (eqb small 0) (open_said is_open left kind) (fitting left 8 (header_of kind 8 small))))

open_so : (is_open : Bool) (left : ℕ) (kind other : List ℕ) (h : Header) → open_said is_open left kind ≡ Ok h → (open_said is_open left other ≡ Ok (with_kind other h)) × (h.kind ≡ kind)
open_so true left kind other h e = let c = renamed kind other 8 left h e in (c.0, c.1)
open_so false left kind other h e = absurd cc

abbrev picked : Bool → Bool → Bool → ℕ → List ℕ → ℕ → ℕ → Result Header Kind
picked one none is_open left kind small large = cond one (large_said left kind large) (cond none (open_said is_open left kind) (fitting left 8 (header_of kind 8 small)))

picked_so : (one none is_open : Bool) (left : ℕ) (kind other : List ℕ) (small large large' : ℕ) (h : Header) → picked one none is_open left kind small large ≡ Ok h → (h.length ≡ 16 → large' ≡ large)
    → (picked one none is_open left other small large' ≡ Ok (with_kind other h)) × (h.kind ≡ kind)
picked_so true none is_open left kind other small large large' h e big =
    let b = guard (ltb left 16) ShortHeader (fitting left 16 (header_of kind 16 large)) h e in
    let c = fitting_so left 16 kind other 16 large h b.1 in
    let told : large_said left other large ≡ Ok (with_kind other h) = pass (ltb left 16) ShortHeader (fitting left 16 (header_of other 16 large)) (Ok (with_kind other h)) b.0 c.0 in
    (ap (large_said left other) (big c.2) ∙ told, c.1)
picked_so false true is_open left kind other small large large' h e big = open_so is_open left kind other h e
picked_so false false is_open left kind other small large large' h e big = let c = fitting_so left 8 kind other 8 small h e in (c.0, c.1)

said_so : (is_open : Bool) (left : ℕ) (kind other : List ℕ) (small large large' : ℕ) (h : Header) → said is_open left kind small large ≡ Ok h → (h.length ≡ 16 → large' ≡ large) → (said is_open left other small large' ≡ Ok (with_kind other h)) × (h.kind ≡ kind)
said_so is_open left kind other small large large' h e big =
    let a = guard (ltb left 8) ShortHeader (picked (eqb small 1) (eqb small 0) is_open left kind small large) h e in
    let c = picked_so (eqb small 1) (eqb small 0) is_open left kind other small large large' h a.1 big in
    (pass (ltb left 8) ShortHeader (picked (eqb small 1) (eqb small 0) is_open left other small large') (Ok (with_kind other h)) a.0 c.0, c.1)

-- bytes of one length with the same numbers in front have the same header, but for the type
header_again : (is_open : Bool) (bytes text : List ℕ) (h : Header) → header_at is_open bytes ≡ Ok h → length text ≡ length bytes → field text 0 4 ≡ field bytes 0 4 → (h.length ≡ 16 → field text 8 8 ≡ field bytes 8 8)
    → (header_at is_open text ≡ Ok (with_kind (take 4 (drop 4 text)) h)) × (h.kind ≡ take 4 (drop 4 bytes))
header_again is_open bytes text h e long first second =
    let x = said_so is_open (length bytes) (take 4 (drop 4 bytes)) (take 4 (drop 4 text)) (field bytes 0 4) (field bytes 8 8) (field text 8 8) h e second in
    ((λ i. said is_open (long i) (take 4 (drop 4 text)) (first i) (field text 8 8)) ∙ x.0, x.1)

-- ---- the headers of a copy

module _ (bytes more : List ℕ) (n : ℕ) (fits : n ≤ length bytes) where
  front : (m : ℕ) → m ≤ n → take m (take n bytes ++ more) ≡ take m bytes
  front m le =
      let l = length_box bytes n fits in
      take-append-le m (take n bytes) more (omega (arith, le, l)) ∙ take-take m n bytes le

  number_in_front : (m i w : ℕ) → i + w ≤ m → m ≤ n → field (take n bytes ++ more) i w ≡ field bytes i w
  number_in_front m i w le le' =
      sym (big_from-take i w m (take n bytes ++ more) le) ∙ ap (λ (xs : List ℕ). field xs i w) (front m le') ∙ big_from-take i w m bytes le

kind_in_front : (bytes : List ℕ) → take 4 (drop 4 (take 8 bytes)) ≡ take 4 (drop 4 bytes)
kind_in_front bytes = ap (take 4) (drop-take 4 4 bytes) ∙ take-take 4 4 (drop 4 bytes) (omega arith)

pub kept_header : (is_open : Bool) (bytes more : List ℕ) (n : ℕ) (h : Header) → header_at is_open bytes ≡ Ok h → n ≤ length bytes → h.length ≤ n → length (take n bytes ++ more) ≡ length bytes → header_at is_open (take n bytes ++ more) ≡ Ok h
kept_header is_open bytes more n h e fits holds long =
    let r = header_is is_open bytes h e in
    let eight : 8 ≤ n = omega (arith, r.length, holds) in
    let x =
    header_again is_open bytes (take n bytes ++ more) h e long (number_in_front bytes more n fits 8 0 4 (omega arith) eight)
    (λ wide. number_in_front bytes more n fits 16 8 8 (omega arith) (omega (arith, wide, holds)))
    in
    let kind : take 4 (drop 4 (take n bytes ++ more)) ≡ h.kind =
    sym (kind_in_front (take n bytes ++ more)) ∙ ap (λ (xs : List ℕ). take 4 (drop 4 xs)) (front bytes more n fits 8 eight) ∙ kind_in_front bytes ∙ sym x.1
    in
    x.0 ∙ ap (λ (k : List ℕ). done (with_kind k h)) kind

first_four : (bytes rest : List ℕ) → 8 ≤ length bytes → take 4 (freed bytes ++ rest) ≡ take 4 bytes
first_four bytes rest le = grind (arith, common_steps)

behind_eight : (bytes rest : List ℕ) → 8 ≤ length bytes → drop 8 (freed bytes ++ rest) ≡ drop 8 bytes ++ rest
behind_eight bytes rest le = grind (arith, common_steps)

pub freed_header : (is_open : Bool) (bytes rest : List ℕ) (h : Header) → header_at is_open bytes ≡ Ok h → length (freed (take h.size bytes) ++ rest) ≡ length bytes
    → header_at is_open (freed (take h.size bytes) ++ rest) ≡ Ok (with_kind (codes "free") h)
freed_header is_open bytes rest h e long =
    let r = header_is is_open bytes h e in
    let eight : 8 ≤ h.length = r.length in
    let from : h.length ≤ h.size = r.inside in
    let to : h.size ≤ length bytes = r.fits in
    let box = take h.size bytes in
    let text = freed box ++ rest in
    let l : length box ≡ h.size = length_box bytes h.size to in
    let long_box : 8 ≤ length box = omega (arith, l, eight, from) in
    let four : take 4 text ≡ take 4 bytes = first_four box rest long_box ∙ take-take 4 h.size bytes (omega (arith, eight, from)) in
    let first : field text 0 4 ≡ field bytes 0 4 = sym (big_from-take 0 4 4 text (omega arith)) ∙ ap (λ (xs : List ℕ). field xs 0 4) four ∙ big_from-take 0 4 4 bytes (omega arith) in
    let wide_box : h.length ≡ 16 → 8 ≤ length (drop 8 box) = λ wide. let d : length (drop 8 box) ≡ length box - 8 = length-drop 8 box in omega (arith, d, l, wide, from) in
    let second : h.length ≡ 16 → field text 8 8 ≡ field bytes 8 8 =
    λ wide.
    sym (field_dropped 8 0 8 text) ∙ ap (λ (xs : List ℕ). field xs 0 8) (behind_eight box rest long_box) ∙ big_from-append 8 (drop 8 box) rest (wide_box wide) ∙ field_dropped 8 0 8 box
    ∙ big_from-take 8 8 h.size bytes (omega (arith, wide, from))
    in
    let x = header_again is_open bytes text h e long first second in
    x.0 ∙ ap (λ (k : List ℕ). done (with_kind k h)) (four_first box rest long_box)

-- ---- boxes of a copy

-- where a named box stands, by the header in front
abbrev Found : List Name → Rule → List ℕ → Header → Type 0
Found names rule bytes g = (is_named names rule g.kind (uuid_at g bytes) ≡ true) ⊎ (((left : ℕ) × NamedBoxAt names rule left (drop g.size bytes)) ⊎ ((inner : Rule) × (left : ℕ) × (rule_inside rule g.kind ≡ Some inner) × NamedBoxAt names inner left (payload_behind g bytes)))

found : (names : List Name) (rule : Rule) (place : ℕ) (bytes : List ℕ) (g : Header) → header_at (is_top rule) bytes ≡ Ok g → NamedBoxAt names rule place bytes → Found names rule bytes g
found names rule place bytes g read (at_front _ _ _ h e n p) =
    let same = same_header (header_at (is_top rule) bytes) h g e read in
    inl (subst (λ (x : Header). is_named names rule x.kind (uuid_at x bytes) ≡ true) same n)
found names rule place bytes g read (further _ _ _ h left e x p) =
    let same = same_header (header_at (is_top rule) bytes) h g e read in
    inr (inl (left, subst (λ (y : Header). NamedBoxAt names rule left (drop y.size bytes)) same x))
found names rule place bytes g read (inside _ _ _ h inner left e n i x p) =
    let same = same_header (header_at (is_top rule) bytes) h g e read in
    inr (inr (inner, left, subst (λ (y : Header). rule_inside rule y.kind ≡ Some inner) same i, subst (λ (y : Header). NamedBoxAt names inner left (payload_behind y bytes)) same x))

nothing_found : (names : List Name) (rule : Rule) (place : ℕ) (bytes : List ℕ) → bytes ≡ [] → NamedBoxAt names rule place bytes → ⊥
nothing_found names rule place bytes none (at_front _ _ _ h e n p) = no_header (is_top rule) bytes h none e
nothing_found names rule place bytes none (further _ _ _ h left e x p) = no_header (is_top rule) bytes h none e
nothing_found names rule place bytes none (inside _ _ _ h inner left e n i x p) = no_header (is_top rule) bytes h none e

not_there : (o : Option Rule) (inner : Rule) → o ≡ None → o ≡ Some inner → ⊥
not_there None inner p q = cc
not_there (Some r) inner p q = cc

-- free space is no container
nothing_in_free : (rule : Rule) → rule_inside rule (codes "free") ≡ None
nothing_in_free File = refl
nothing_in_free Movie = refl
nothing_in_free Track = refl
nothing_in_free Edits = refl
nothing_in_free Media = refl
nothing_in_free MediaInformation = refl
nothing_in_free DataInformation = refl
nothing_in_free SampleTable = refl
nothing_in_free MovieExtends = refl
nothing_in_free MovieFragment = refl
nothing_in_free TrackFragment = refl

pub behind_part : (part rest : List ℕ) (n : ℕ) → length part ≡ n → drop n (part ++ rest) ≡ rest
behind_part part rest n e =
    let at : n ≡ length part + 0 = omega (arith, e) in
    ap (λ k. drop k (part ++ rest)) at ∙ drop-append-add part rest 0

middle_part : (part middle rest : List ℕ) (n m : ℕ) → length part ≡ n → length middle ≡ m → take m (drop n (part ++ (middle ++ rest))) ≡ middle
middle_part part middle rest n m e f =
    ap (take m) (behind_part part (middle ++ rest) n e) ∙ take-append-le m middle rest (omega (arith, f)) ∙ take_all m middle (omega (arith, f))

-- the payload of the first box, by the box alone
held_in : (bytes : List ℕ) (h : Header) → h.length ≤ h.size → drop h.length (take h.size bytes) ≡ payload_behind h bytes
held_in bytes h from =
    let sum : h.size ≡ h.length + (h.size - h.length) = omega (arith, from) in
    ap (λ n. drop h.length (take n bytes)) sum ∙ drop-take h.length (h.size - h.length) bytes

-- which `uuid` a box is that was kept
uuid_kept : (bytes rest : List ℕ) (h : Header) → IsRead (length bytes) h → uuid_at h (take h.size bytes ++ rest) ≡ uuid_at h bytes
uuid_kept bytes rest h r =
    let from : h.length ≤ h.size = r.inside in
    let box = length_box bytes h.size r.fits in
    let less : length (drop h.length (take h.size bytes)) ≡ h.size - h.length = length-drop h.length (take h.size bytes) ∙ ap (λ n. n - h.length) box in
    let same : drop h.length (take h.size bytes ++ rest) ≡ drop h.length (take h.size bytes) ++ rest = drop-append-le h.length (take h.size bytes) rest (omega (arith, from, box)) in
    let kept : payload_behind h (take h.size bytes ++ rest) ≡ payload_behind h bytes =
    ap (take (h.size - h.length)) same ∙ take-append-le (h.size - h.length) (drop h.length (take h.size bytes)) rest (omega (arith, less))
    ∙ take_all (h.size - h.length) (drop h.length (take h.size bytes)) (omega (arith, less)) ∙ held_in bytes h from
    in
    ap (uuid_in h.kind) kept

-- a container is no `uuid`
none_in_uuid : (rule : Rule) → rule_inside rule (codes "uuid") ≡ None
none_in_uuid File = refl
none_in_uuid Movie = refl
none_in_uuid Track = refl
none_in_uuid Edits = refl
none_in_uuid Media = refl
none_in_uuid MediaInformation = refl
none_in_uuid DataInformation = refl
none_in_uuid SampleTable = refl
none_in_uuid MovieExtends = refl
none_in_uuid MovieFragment = refl
none_in_uuid TrackFragment = refl

no_uuid : (rule inner : Rule) (kind payload : List ℕ) → rule_inside rule kind ≡ Some inner → uuid_in kind payload ≡ None
no_uuid rule inner kind payload i = by (bytes_eq kind (codes "uuid")) refl
  where
    by : (v : Bool) → bytes_eq kind (codes "uuid") ≡ v → uuid_in kind payload ≡ None
    by true e = absurd (not_there (rule_inside rule kind) inner (ap (rule_inside rule) ((bytes_eq-Decides kind (codes "uuid")).0 e) ∙ none_in_uuid rule) i)
    by false e = rw e refl

pub nothing_left : (names : List Name) (rule : Rule) (place : ℕ) (bytes text : List ℕ) → SparesFree names → Strips names rule bytes text → NamedBoxAt names rule place text → ⊥
nothing_left names rule place bytes text spares (ends _ _ _ b t) x = nothing_found names rule place text t x
nothing_left names rule place bytes text spares (frees _ _ _ h rest e n s t) x =
    let r = header_is (is_top rule) bytes h e in
    let eight : 8 ≤ h.length = r.length in
    let from : h.length ≤ h.size = r.inside in
    let to : h.size ≤ length bytes = r.fits in
    let box = length_box bytes h.size to in
    let part = length_freed (take h.size bytes) (omega (arith, eight, from, box)) ∙ box in
    let long = sym (ap length t) ∙ strip_length names rule bytes text (frees rule bytes text h rest e n s t) in
    let read = freed_header (is_top rule) bytes rest h e long in
    elim (found names rule place (freed (take h.size bytes) ++ rest) (with_kind (codes "free") h) read (subst (NamedBoxAt names rule place) t x)) [
      | inl named ↦ false_and_true (is_named names rule (codes "free") None) (spares rule) named
      | inr (inl more) ↦ nothing_left names rule more.0 (drop h.size bytes) rest spares s (subst (NamedBoxAt names rule more.0) (behind_part (freed (take h.size bytes)) rest h.size part) more.1)
      | inr (inr into) ↦ not_there (rule_inside rule (codes "free")) into.0 (nothing_in_free rule) into.2
    ]
nothing_left names rule place bytes text spares (keeps _ _ _ h rest e n i s t) x =
    let r = header_is (is_top rule) bytes h e in
    let box = length_box bytes h.size r.fits in
    let long = sym (ap length t) ∙ strip_length names rule bytes text (keeps rule bytes text h rest e n i s t) in
    let read = kept_header (is_top rule) bytes rest h.size h e r.fits r.inside long in
    elim (found names rule place (take h.size bytes ++ rest) h read (subst (NamedBoxAt names rule place) t x)) [
      | inl named ↦ false_and_true (is_named names rule h.kind (uuid_at h bytes)) n (subst (λ (u : Option (List ℕ)). is_named names rule h.kind u ≡ true) (uuid_kept bytes rest h r) named)
      | inr (inl more) ↦ nothing_left names rule more.0 (drop h.size bytes) rest spares s (subst (NamedBoxAt names rule more.0) (behind_part (take h.size bytes) rest h.size box) more.1)
      | inr (inr into) ↦ not_there (rule_inside rule h.kind) into.0 i into.2
    ]
nothing_left names rule place bytes text spares (enters _ _ _ h inner middle rest e n i w s t) x =
    let r = header_is (is_top rule) bytes h e in
    let from : h.length ≤ h.size = r.inside in
    let to : h.size ≤ length bytes = r.fits in
    let head = length_box bytes h.length (omega (arith, from, to)) in
    let held = strip_length names inner (payload_behind h bytes) middle w ∙ length_payload bytes h r in
    let long = sym (ap length t) ∙ strip_length names rule bytes text (enters rule bytes text h inner middle rest e n i w s t) in
    let read = kept_header (is_top rule) bytes (middle ++ rest) h.length h e (omega (arith, from, to)) (omega arith) long in
    let both : length (take h.length bytes ++ middle) ≡ h.size = length-append (take h.length bytes) middle ∙ omega (arith, head, held, from) in
    elim (found names rule place (take h.length bytes ++ (middle ++ rest)) h read (subst (NamedBoxAt names rule place) t x)) [
      | inl named ↦
          false_and_true (is_named names rule h.kind (uuid_at h bytes)) n
          (subst (λ (u : Option (List ℕ)). is_named names rule h.kind u ≡ true) (no_uuid rule inner h.kind (payload_behind h (take h.length bytes ++ (middle ++ rest))) i ∙ sym (no_uuid rule inner h.kind (payload_behind h bytes) i)) named)
      | inr (inl more) ↦
          nothing_left names rule more.0 (drop h.size bytes) rest spares s
          (subst (NamedBoxAt names rule more.0) (ap (drop h.size) (sym (append_assoc (take h.length bytes) middle rest)) ∙ behind_part (take h.length bytes ++ middle) rest h.size both) more.1)
      | inr (inr into) ↦
          let same = some_same (rule_inside rule h.kind) into.0 inner into.2 i in
          let there = subst (NamedBoxAt names into.0 into.1) (middle_part (take h.length bytes) middle rest h.length (h.size - h.length) head held) into.3 in
          nothing_left names inner into.1 (payload_behind h bytes) middle spares w (subst (λ r. NamedBoxAt names r into.1 middle) same there)
    ]

pub strip_leaves_none : StripLeavesNone
strip_leaves_none names file text place spares s x = nothing_left names File place file text spares s x

pub strip_twice_is_once : StripTwiceIsOnce
strip_twice_is_once names file text again spares s u = unnamed_is_copied names text again (λ place x. strip_leaves_none names file text place spares s x) u

pub foreign_spares_free : ForeignSparesFree
foreign_spares_free names spares File = spares File
foreign_spares_free names spares Movie = spares Movie
foreign_spares_free names spares Track = spares Track
foreign_spares_free names spares Edits = spares Edits
foreign_spares_free names spares Media = spares Media
foreign_spares_free names spares MediaInformation = spares MediaInformation
foreign_spares_free names spares DataInformation = spares DataInformation
foreign_spares_free names spares SampleTable = spares SampleTable
foreign_spares_free names spares MovieExtends = spares MovieExtends
foreign_spares_free names spares MovieFragment = spares MovieFragment
foreign_spares_free names spares TrackFragment = spares TrackFragment
