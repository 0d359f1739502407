-- Copies of a file in which some boxes are free space: how a loop over boxes goes on.
use Rattle.std.proofs.Common.{◌≡◌, ℕ, ◌+◌, ◌-◌, ◌<◌, ◌≤◌, List, [], ◌++◌, length, take, drop, refl, sym, ap, subst, ◌∙◌, append_assoc, arith, true, false, None, Some, Ok, Err}
use Rattle.std.specs.Prelude.{Option, Result, codes, Bool, IsTrue}
use Rattle.std.proofs.lemmas.List.{append-nil}
use Rattle.mp4_store.specs.words.Device.{TakesPrefix, range}
use Rattle.mp4_store.proofs.Known.{IsJoining, TakesPrefix-longer}
use Rattle.mp4_boxes.specs.format.Box.{Header, header_at}
use Rattle.mp4_boxes.specs.format.BoxFaults.{header_there, located, type_of}
use Rattle.mp4_boxes.specs.words.View.{top_header_seen}
use Rattle.mp4_boxes.specs.declared.fault.Fault.{Fault}
use Rattle.mp4_boxes.specs.declared.fault.Kind.{Kind}
use Rattle.mp4_boxes.specs.declared.fault.Kind.TheVariants.{ShortHeader}
use Rattle.mp4_boxes.specs.declared.headers.TopHeader.{TopHeader}
use Rattle.mp4_boxes.specs.declared.rule.Rule.{Rule}
use Rattle.mp4_boxes.specs.declared.refusal.Refusal.{Refusal}
use Rattle.mp4_boxes.specs.declared.refusal.Refusal.TheVariants as refusals
use Rattle.mp4_boxes.proofs.Plain.{true_false}
use Rattle.mp4_present.specs.words.Carried.{BytesGoOn, RefusesRange, RefusesCarry}
use Rattle.mp4_present.proofs.Carrying.{BytesGoOn-nothing, BytesGoOn-then, BytesGoOn-fails, BytesGoOn-front}
use Rattle.mp4_answers.specs.format.BoxWalk.{rule_inside}
use Rattle.mp4_answers.proofs.StripWalks.{freed_range, whole_box, its_header, behind_it, its_payload}
use Rattle.mp4_answers.specs.declared.box_names.Name.{Name}
use Rattle.mp4_answers.specs.format.Strips.{is_top, holder, is_named, freed, payload_behind, uuid_at, Strips, ends, frees, keeps, enters, RefusesHeaderAgain}

-- ---- copying

abbrev ok_or_this : Header → Result Header Kind → Header
ok_or_this d (Ok h) = h
ok_or_this d (Err k) = d

pub same_header : (r : Result Header Kind) (h g : Header) → r ≡ Ok h → r ≡ Ok g → h ≡ g
same_header r h g p q = ap (ok_or_this h) (sym p ∙ q)

no_bytes : (bytes : List ℕ) → 0 < length bytes → bytes ≡ [] → ⊥
no_bytes bytes some e = let none : length bytes ≡ 0 = ap length e in omega (arith, some, none)

not_some : {A : Type 0} (o : Option A) (x : A) → o ≡ None → o ≡ Some x → ⊥
not_some None x p q = cc
not_some (Some y) x p q = cc

-- what stands for the first box, and for the rest
pub next_freed : (names : List Name) (rule : Rule) (bytes text : List ℕ) (g : Header) → 0 < length bytes → header_at (is_top rule) bytes ≡ Ok g → is_named names rule g.kind (uuid_at g bytes) ≡ true → Strips names rule bytes text
    → (rest : List ℕ) × Strips names rule (drop g.size bytes) rest × (text ≡ freed (take g.size bytes) ++ rest)
next_freed names rule bytes text g some read n (ends _ _ _ b t) = absurd (no_bytes bytes some b)
next_freed names rule bytes text g some read n (frees _ _ _ h rest e m s t) =
    let same = same_header (header_at (is_top rule) bytes) h g e read in
    (rest, subst (λ (x : Header). Strips names rule (drop x.size bytes) rest) same s, t ∙ ap (λ (x : Header). freed (take x.size bytes) ++ rest) same)
next_freed names rule bytes text g some read n (keeps _ _ _ h rest e m i s t) =
    let same = same_header (header_at (is_top rule) bytes) h g e read in
    absurd (true_false (is_named names rule g.kind (uuid_at g bytes)) n (subst (λ (x : Header). is_named names rule x.kind (uuid_at x bytes) ≡ false) same m))
next_freed names rule bytes text g some read n (enters _ _ _ h inner inside rest e m i w s t) =
    let same = same_header (header_at (is_top rule) bytes) h g e read in
    absurd (true_false (is_named names rule g.kind (uuid_at g bytes)) n (subst (λ (x : Header). is_named names rule x.kind (uuid_at x bytes) ≡ false) same m))

pub next_kept : (names : List Name) (rule : Rule) (bytes text : List ℕ) (g : Header) → 0 < length bytes → header_at (is_top rule) bytes ≡ Ok g → is_named names rule g.kind (uuid_at g bytes) ≡ false → rule_inside rule g.kind ≡ None → Strips names rule bytes text
    → (rest : List ℕ) × Strips names rule (drop g.size bytes) rest × (text ≡ take g.size bytes ++ rest)
next_kept names rule bytes text g some read n into (ends _ _ _ b t) = absurd (no_bytes bytes some b)
next_kept names rule bytes text g some read n into (frees _ _ _ h rest e m s t) =
    let same = same_header (header_at (is_top rule) bytes) h g e read in
    absurd (true_false (is_named names rule g.kind (uuid_at g bytes)) (subst (λ (x : Header). is_named names rule x.kind (uuid_at x bytes) ≡ true) same m) n)
next_kept names rule bytes text g some read n into (keeps _ _ _ h rest e m i s t) =
    let same = same_header (header_at (is_top rule) bytes) h g e read in
    (rest, subst (λ (x : Header). Strips names rule (drop x.size bytes) rest) same s, t ∙ ap (λ (x : Header). take x.size bytes ++ rest) same)
next_kept names rule bytes text g some read n into (enters _ _ _ h inner inside rest e m i w s t) =
    let same = same_header (header_at (is_top rule) bytes) h g e read in
    absurd (not_some (rule_inside rule g.kind) inner into (subst (λ (x : Header). rule_inside rule x.kind ≡ Some inner) same i))

abbrev rule_or : Rule → Option Rule → Rule
rule_or d None = d
rule_or d (Some r) = r

pub some_same : (o : Option Rule) (x y : Rule) → o ≡ Some x → o ≡ Some y → x ≡ y
some_same o x y p q = ap (rule_or x) (sym p ∙ q)

pub next_entered : (names : List Name) (rule : Rule) (bytes text : List ℕ) (g : Header) (into : Rule) → 0 < length bytes → header_at (is_top rule) bytes ≡ Ok g → is_named names rule g.kind (uuid_at g bytes) ≡ false → rule_inside rule g.kind ≡ Some into → Strips names rule bytes text
    → (inside rest : List ℕ) × Strips names into (payload_behind g bytes) inside × Strips names rule (drop g.size bytes) rest × (text ≡ take g.length bytes ++ (inside ++ rest))
next_entered names rule bytes text g into some read n there (ends _ _ _ b t) = absurd (no_bytes bytes some b)
next_entered names rule bytes text g into some read n there (frees _ _ _ h rest e m s t) =
    let same = same_header (header_at (is_top rule) bytes) h g e read in
    absurd (true_false (is_named names rule g.kind (uuid_at g bytes)) (subst (λ (x : Header). is_named names rule x.kind (uuid_at x bytes) ≡ true) same m) n)
next_entered names rule bytes text g into some read n there (keeps _ _ _ h rest e m i s t) =
    let same = same_header (header_at (is_top rule) bytes) h g e read in
    absurd (not_some (rule_inside rule g.kind) into (subst (λ (x : Header). rule_inside rule x.kind ≡ None) same i) there)
next_entered names rule bytes text g into some read n there (enters _ _ _ h inner inside rest e m i w s t) =
    let same = same_header (header_at (is_top rule) bytes) h g e read in
    let held = some_same (rule_inside rule g.kind) inner into (subst (λ (x : Header). rule_inside rule x.kind ≡ Some inner) same i) there in (
      inside,
      rest,
      subst (λ r. Strips names r (payload_behind g bytes) inside) held (subst (λ (x : Header). Strips names inner (payload_behind x bytes) inside) same w),
      subst (λ (x : Header). Strips names rule (drop x.size bytes) rest) same s,
      t ∙ ap (λ (x : Header). take x.length bytes ++ (inside ++ rest)) same,
    )

pub no_header : (is_open : Bool) (bytes : List ℕ) (h : Header) → bytes ≡ [] → header_at is_open bytes ≡ Ok h → ⊥
no_header is_open bytes h none e = let short : Err ShortHeader ≡ Ok h = subst (λ bs. header_at is_open bs ≡ Ok h) none e in cc

pub nothing_stands : (names : List Name) (rule : Rule) (bytes text : List ℕ) → bytes ≡ [] → Strips names rule bytes text → text ≡ []
nothing_stands names rule bytes text none (ends _ _ _ b t) = t
nothing_stands names rule bytes text none (frees _ _ _ h rest e m s t) = absurd (no_header (is_top rule) bytes h none e)
nothing_stands names rule bytes text none (keeps _ _ _ h rest e m i s t) = absurd (no_header (is_top rule) bytes h none e)
nothing_stands names rule bytes text none (enters _ _ _ h inner inside rest e m i w s t) = absurd (no_header (is_top rule) bytes h none e)

-- a header that can't be read stands in the way of any text
not_read_there : (is_open : Bool) (container : List ℕ) (at : ℕ) (bytes : List ℕ) (f : Fault) (h : Header) → header_there is_open (length bytes) bytes container at ≡ Err f → header_at is_open bytes ≡ Ok h → ⊥
not_read_there is_open container at bytes f h x e =
    let both : Ok h ≡ Err f = ap (located container at (type_of bytes)) (sym e) ∙ x in cc

pub fault_strips_nothing : (names : List Name) (rule : Rule) (at : ℕ) (bytes text : List ℕ) (f : Fault) → 0 < length bytes → header_there (is_top rule) (length bytes) bytes (holder rule) at ≡ Err f → Strips names rule bytes text → ⊥
fault_strips_nothing names rule at bytes text f some x (ends _ _ _ b t) = no_bytes bytes some b
fault_strips_nothing names rule at bytes text f some x (frees _ _ _ h rest e m s t) = not_read_there (is_top rule) (holder rule) at bytes f h x e
fault_strips_nothing names rule at bytes text f some x (keeps _ _ _ h rest e m i s t) = not_read_there (is_top rule) (holder rule) at bytes f h x e
fault_strips_nothing names rule at bytes text f some x (enters _ _ _ h inner inside rest e m i w s t) = not_read_there (is_top rule) (holder rule) at bytes f h x e

-- a part isn't taken along behind what was
pub front_fails : {Y : Type 0} {takes : Y → Y → List ℕ → Type 0} (joins : IsJoining takes) (a b c : Y) (held held_b done part rest whole : List ℕ) → BytesGoOn (takes a b) held held_b done → TakesPrefix (takes b c) (held_b ++ part) → whole ≡ done ++ (part ++ rest)
    → TakesPrefix (takes a c) (held ++ whole)
front_fails {takes = takes} joins a b c held held_b done part rest whole p q e =
    subst (λ xs. TakesPrefix (takes a c) (held ++ xs)) (sym e)
    (BytesGoOn-fails joins a b c held held_b done (part ++ rest) p (subst (λ xs. TakesPrefix (takes b c) xs) (append_assoc held_b part rest) (TakesPrefix-longer (takes b c) (held_b ++ part) rest q)))

-- the three pieces of a box of which the type is `free`
module _ (file : List ℕ) (at end : ℕ) (le : at + 8 ≤ end) {Y : Type 0} {takes : Y → Y → List ℕ → Type 0} (joins : IsJoining takes) (a b : Y) (held held_b : List ℕ) (first : BytesGoOn (takes a b) held held_b (range file at 4)) where
  three : freed (range file at (end - at)) ≡ range file at 4 ++ (codes "free" ++ range file (at + 8) (end - at - 8))
  three = freed_range file at (end - at) (omega (arith, le))

  pub type_fails : (c : Y) → TakesPrefix (takes b c) (held_b ++ codes "free") → TakesPrefix (takes a c) (held ++ freed (range file at (end - at)))
  type_fails c p = front_fails joins a b c held held_b (range file at 4) (codes "free") (range file (at + 8) (end - at - 8)) (freed (range file at (end - at))) first p three

  module _ (c d : Y) (held_c : List ℕ) (second : BytesGoOn (takes b c) held_b held_c (codes "free")) where
    both : BytesGoOn (takes a c) held held_c (range file at 4 ++ codes "free")
    both = BytesGoOn-then joins a b c held held_b held_c (range file at 4) (codes "free") (range file at 4 ++ codes "free") first second refl

    whole : freed (range file at (end - at)) ≡ (range file at 4 ++ codes "free") ++ range file (at + 8) (end - at - 8)
    whole = three ∙ sym (append_assoc (range file at 4) (codes "free") (range file (at + 8) (end - at - 8)))

    pub freed_goes : (held_d : List ℕ) → BytesGoOn (takes c d) held_c held_d (range file (at + 8) (end - at - 8)) → BytesGoOn (takes a d) held held_d (freed (range file at (end - at)))
    freed_goes held_d p = BytesGoOn-then joins a c d held held_c held_d (range file at 4 ++ codes "free") (range file (at + 8) (end - at - 8)) (freed (range file at (end - at))) both p whole

    pub rest_fails : TakesPrefix (takes c d) (held_c ++ range file (at + 8) (end - at - 8)) → TakesPrefix (takes a d) (held ++ freed (range file at (end - at)))
    rest_fails p =
        front_fails joins a c d held held_c (range file at 4 ++ codes "free") (range file (at + 8) (end - at - 8)) [] (freed (range file at (end - at))) both p
        (whole ∙ ap (λ xs. (range file at 4 ++ codes "free") ++ xs) (sym (append-nil (range file (at + 8) (end - at - 8)))))

pub size_fails : (file : List ℕ) (at end : ℕ) → at + 8 ≤ end → (Took : List ℕ → Type 0) (held : List ℕ) → TakesPrefix Took (held ++ range file at 4) → TakesPrefix Took (held ++ freed (range file at (end - at)))
size_fails file at end le Took held p =
    let rest = codes "free" ++ range file (at + 8) (end - at - 8) in
    let whole = append_assoc held (range file at 4) rest ∙ ap (λ xs. held ++ xs) (sym (freed_range file at (end - at) (omega (arith, le)))) in
    subst (λ xs. TakesPrefix Took xs) whole (TakesPrefix-longer Took (held ++ range file at 4) rest p)

-- What was put since a loop over boxes began up to a place, what waited and what waits: a front of the text is on its way, and the rest stands for what is left.
pub record Copying (names : List Name) (rule : Rule) (file : List ℕ) (end at : ℕ) (Took : List ℕ → Type 0) (held held_b text : List ℕ) : Type 0 where
  pub done : List ℕ
  pub rest : List ℕ
  pub split : text ≡ done ++ rest
  pub left : Strips names rule (range file at (end - at)) rest
  pub goes : BytesGoOn Took held held_b done

module _ (names : List Name) (rule : Rule) (file : List ℕ) (end : ℕ) where
  pub copying_none : (at : ℕ) (Took : List ℕ → Type 0) (nothing : Took []) (held text : List ℕ) → Strips names rule (range file at (end - at)) text → Copying names rule file end at Took held held text
  copying_none at Took nothing held text s = record { done = []; rest = text; split = refl; left = s; goes = BytesGoOn-nothing Took nothing held }

  pub copying_more : (at at_c : ℕ) {Y : Type 0} {takes : Y → Y → List ℕ → Type 0} (joins : IsJoining takes) (a b c : Y) (held held_b held_c text part rest : List ℕ) → (u : Copying names rule file end at (takes a b) held held_b text) → u.rest ≡ part ++ rest
      → Strips names rule (range file at_c (end - at_c)) rest → BytesGoOn (takes b c) held_b held_c part → Copying names rule file end at_c (takes a c) held held_c text
  copying_more at at_c joins a b c held held_b held_c text part rest u e s g = record {
    done = u.done ++ part;
    rest = rest;
    split = u.split ∙ ap (λ xs. u.done ++ xs) e ∙ sym (append_assoc u.done part rest);
    left = s;
    goes = BytesGoOn-then joins a b c held held_b held_c u.done part (u.done ++ part) u.goes g refl;
  }

  pub copying_all : (at : ℕ) (Took : List ℕ → Type 0) (held held_b text : List ℕ) → end ≤ at → Copying names rule file end at Took held held_b text → BytesGoOn Took held held_b text
  copying_all at Took held held_b text le u =
      let none : end - at ≡ 0 = omega (arith, le) in
      let last = nothing_stands names rule (range file at (end - at)) u.rest (ap (range file at) none) u.left in
      let whole : u.done ≡ text = sym (append-nil u.done) ∙ ap (λ xs. u.done ++ xs) (sym last) ∙ sym u.split in
      subst (λ xs. BytesGoOn Took held held_b xs) whole u.goes

  -- a part of what is left isn't put
  pub copying_fails : (at : ℕ) {Y : Type 0} {takes : Y → Y → List ℕ → Type 0} (joins : IsJoining takes) (a b c : Y) (held held_b text part rest : List ℕ) → (u : Copying names rule file end at (takes a b) held held_b text) → u.rest ≡ part ++ rest
      → TakesPrefix (takes b c) (held_b ++ part) → TakesPrefix (takes a c) (held ++ text)
  copying_fails at joins a b c held held_b text part rest u e p =
      front_fails joins a b c held held_b u.done part rest text u.goes p (u.split ∙ ap (λ xs. u.done ++ xs) e)

  -- nothing more is put
  pub copying_stops : (at : ℕ) (Took : List ℕ → Type 0) (held held_b text : List ℕ) → Copying names rule file end at Took held held_b text → TakesPrefix Took (held ++ text)
  copying_stops at Took held held_b text u = subst (λ xs. TakesPrefix Took (held ++ xs)) (sym u.split) (BytesGoOn-front Took held held_b u.done u.rest u.goes)

-- One more box is copied, where the loop was so far at its place.
module _ (names : List Name) (rule : Rule) (file : List ℕ) (end at : ℕ) (h : TopHeader) (from : at + h.header ≤ h.end) (to : h.end ≤ end) (some : 0 < length (range file at (end - at)))
    (read : header_at (is_top rule) (range file at (end - at)) ≡ Ok (top_header_seen at h)) {Y : Type 0} {takes : Y → Y → List ℕ → Type 0} (joins : IsJoining takes) (a b : Y) (held held_b text : List ℕ) (u : Copying names rule file end at (takes a b) held held_b text) where
  behind_is : (rest : List ℕ) → Strips names rule (drop (h.end - at) (range file at (end - at))) rest → Strips names rule (range file h.end (end - h.end)) rest
  behind_is rest s = subst (λ bs. Strips names rule bs rest) (behind_it file at end h from to) s

  -- a named one
  freed_part : is_named names rule h.kind.0 (uuid_at (top_header_seen at h) (range file at (end - at))) ≡ true → (rest : List ℕ) × Strips names rule (range file h.end (end - h.end)) rest × (u.rest ≡ freed (range file at (h.end - at)) ++ rest)
  freed_part n =
      let x = next_freed names rule (range file at (end - at)) u.rest (top_header_seen at h) some read n u.left in
      (x.0, behind_is x.0 x.1, x.2 ∙ ap (λ bs. freed bs ++ x.0) (whole_box file at end h from to))

  pub copy_freed : (c : Y) (held_c : List ℕ) → is_named names rule h.kind.0 (uuid_at (top_header_seen at h) (range file at (end - at))) ≡ true → BytesGoOn (takes b c) held_b held_c (freed (range file at (h.end - at))) → Copying names rule file end h.end (takes a c) held held_c text
  copy_freed c held_c n g = let x = freed_part n in copying_more names rule file end at h.end joins a b c held held_b held_c text (freed (range file at (h.end - at))) x.0 u x.2 x.1 g

  pub freed_fails : (c : Y) → is_named names rule h.kind.0 (uuid_at (top_header_seen at h) (range file at (end - at))) ≡ true → TakesPrefix (takes b c) (held_b ++ freed (range file at (h.end - at))) → TakesPrefix (takes a c) (held ++ text)
  freed_fails c n p = let x = freed_part n in copying_fails names rule file end at joins a b c held held_b text (freed (range file at (h.end - at))) x.0 u x.2 p

  -- one that is no container
  kept_part : is_named names rule h.kind.0 (uuid_at (top_header_seen at h) (range file at (end - at))) ≡ false → rule_inside rule h.kind.0 ≡ None → (rest : List ℕ) × Strips names rule (range file h.end (end - h.end)) rest × (u.rest ≡ range file at (h.end - at) ++ rest)
  kept_part n i =
      let x = next_kept names rule (range file at (end - at)) u.rest (top_header_seen at h) some read n i u.left in
      (x.0, behind_is x.0 x.1, x.2 ∙ ap (λ bs. bs ++ x.0) (whole_box file at end h from to))

  pub copy_kept : (c : Y) (held_c : List ℕ) → is_named names rule h.kind.0 (uuid_at (top_header_seen at h) (range file at (end - at))) ≡ false → rule_inside rule h.kind.0 ≡ None → BytesGoOn (takes b c) held_b held_c (range file at (h.end - at))
      → Copying names rule file end h.end (takes a c) held held_c text
  copy_kept c held_c n i g = let x = kept_part n i in copying_more names rule file end at h.end joins a b c held held_b held_c text (range file at (h.end - at)) x.0 u x.2 x.1 g

  pub kept_fails : (c : Y) → is_named names rule h.kind.0 (uuid_at (top_header_seen at h) (range file at (end - at))) ≡ false → rule_inside rule h.kind.0 ≡ None → TakesPrefix (takes b c) (held_b ++ range file at (h.end - at)) → TakesPrefix (takes a c) (held ++ text)
  kept_fails c n i p = let x = kept_part n i in copying_fails names rule file end at joins a b c held held_b text (range file at (h.end - at)) x.0 u x.2 p

  -- a container: its header, and then what stands for its boxes
  module _ (inner : Rule) (n : is_named names rule h.kind.0 (uuid_at (top_header_seen at h) (range file at (end - at))) ≡ false) (i : rule_inside rule h.kind.0 ≡ Some inner) where
    pub entered_part : (inside rest : List ℕ) × Strips names inner (range file (at + h.header) (h.end - (at + h.header))) inside × Strips names rule (range file h.end (end - h.end)) rest
        × (u.rest ≡ range file at h.header ++ (inside ++ rest))
    entered_part =
        let x = next_entered names rule (range file at (end - at)) u.rest (top_header_seen at h) inner some read n i u.left in (
          x.0,
          x.1,
          subst (λ bs. Strips names inner bs x.0) (its_payload file at end h from to) x.2,
          behind_is x.1 x.3,
          x.4 ∙ ap (λ bs. bs ++ (x.0 ++ x.1)) (its_header file at end h from to),
        )

    pub copy_entered : (c d : Y) (held_c held_d : List ℕ) → BytesGoOn (takes b c) held_b held_c (range file at h.header)
        → ((inside : List ℕ) → Strips names inner (range file (at + h.header) (h.end - (at + h.header))) inside → BytesGoOn (takes c d) held_c held_d inside) → Copying names rule file end h.end (takes a d) held held_d text
    copy_entered c d held_c held_d p q =
        let x = entered_part in
        let whole = BytesGoOn-then joins b c d held_b held_c held_d (range file at h.header) x.0 (range file at h.header ++ x.0) p (q x.0 x.2) refl in
        copying_more names rule file end at h.end joins a b d held held_b held_d text (range file at h.header ++ x.0) x.1 u (x.4 ∙ sym (append_assoc (range file at h.header) x.0 x.1)) x.3 whole

    pub entered_header_fails : (c : Y) → TakesPrefix (takes b c) (held_b ++ range file at h.header) → TakesPrefix (takes a c) (held ++ text)
    entered_header_fails c p = let x = entered_part in copying_fails names rule file end at joins a b c held held_b text (range file at h.header) (x.0 ++ x.1) u x.4 p

    pub entered_fails : (c d : Y) (held_c : List ℕ) → BytesGoOn (takes b c) held_b held_c (range file at h.header)
        → ((inside : List ℕ) → Strips names inner (range file (at + h.header) (h.end - (at + h.header))) inside → TakesPrefix (takes c d) (held_c ++ inside)) → TakesPrefix (takes a d) (held ++ text)
    entered_fails c d held_c p q =
        let x = entered_part in
        let more = front_fails joins b c d held_b held_c (range file at h.header) x.0 [] (range file at h.header ++ x.0) p (q x.0 x.2) (ap (λ xs. range file at h.header ++ xs) (sym (append-nil x.0))) in
        copying_fails names rule file end at joins a b d held held_b text (range file at h.header ++ x.0) x.1 u (x.4 ∙ sym (append_assoc (range file at h.header) x.0 x.1)) more

-- ---- why a copy stops

pub again_unchanged : (names : List Name) (honest : Bool) (rule : Rule) (at : ℕ) (bytes : List ℕ) (reads reads_after : ℕ) (rest : List ℕ) (r : Refusal) → IsTrue honest → 0 < length bytes → Strips names rule bytes rest
    → RefusesHeaderAgain honest bytes rule at reads reads_after r → r ≡ refusals.StoreChanged → ⊥
again_unchanged names honest rule at bytes reads reads_after rest (refusals.Fault f) told some s w q = w
again_unchanged names honest rule at bytes reads reads_after rest refusals.Memory told some s w q = w
again_unchanged names honest rule at bytes reads reads_after rest refusals.StoreFailed told some s w q = cc
again_unchanged names honest rule at bytes reads reads_after rest refusals.StoreChanged told some s w q = let x = w told in fault_strips_nothing names rule at bytes rest x.0 some x.1 s
again_unchanged names honest rule at bytes reads reads_after rest refusals.WriteFailed told some s w q = w
again_unchanged names honest rule at bytes reads reads_after rest refusals.NoSuchTrack told some s w q = w

pub again_carried : (honest : Bool) (bytes : List ℕ) (rule : Rule) (at reads reads_after puts puts_after : ℕ) (r : Refusal) → RefusesHeaderAgain honest bytes rule at reads reads_after r → RefusesCarry reads reads_after puts puts_after r
again_carried honest bytes rule at reads reads_after puts puts_after (refusals.Fault f) w = w
again_carried honest bytes rule at reads reads_after puts puts_after refusals.Memory w = w
again_carried honest bytes rule at reads reads_after puts puts_after refusals.StoreFailed w = w
again_carried honest bytes rule at reads reads_after puts puts_after refusals.StoreChanged w = tt
again_carried honest bytes rule at reads reads_after puts puts_after refusals.WriteFailed w = absurd w
again_carried honest bytes rule at reads reads_after puts puts_after refusals.NoSuchTrack w = w

pub range_unchanged : (reads reads_after puts puts_after : ℕ) (r : Refusal) → RefusesRange reads reads_after puts puts_after r → r ≡ refusals.StoreChanged → ⊥
range_unchanged reads reads_after puts puts_after (refusals.Fault f) w q = w
range_unchanged reads reads_after puts puts_after refusals.Memory w q = w
range_unchanged reads reads_after puts puts_after refusals.StoreFailed w q = cc
range_unchanged reads reads_after puts puts_after refusals.StoreChanged w q = w
range_unchanged reads reads_after puts puts_after refusals.WriteFailed w q = cc
range_unchanged reads reads_after puts puts_after refusals.NoSuchTrack w q = w

pub range_carried : (reads reads_after puts puts_after : ℕ) (r : Refusal) → RefusesRange reads reads_after puts puts_after r → RefusesCarry reads reads_after puts puts_after r
range_carried reads reads_after puts puts_after (refusals.Fault f) w = w
range_carried reads reads_after puts puts_after refusals.Memory w = w
range_carried reads reads_after puts puts_after refusals.StoreFailed w = w
range_carried reads reads_after puts puts_after refusals.StoreChanged w = absurd w
range_carried reads reads_after puts puts_after refusals.WriteFailed w = w
range_carried reads reads_after puts puts_after refusals.NoSuchTrack w = w
