-- Lines of boxes, as a walk over them adds them, and the faults that it meets.
use Rattle.std.proofs.Common.{◌≡◌, ℕ, zero, suc, ◌+◌, ◌-◌, ◌<◌, ◌≤◌, Bool, true, false, cond, List, [], ◌∷◌, ◌++◌, Option, Some, None, refl, sym, ap, subst, ◌∙◌, arith, append_assoc, get_or}
use Rattle.std.specs.Prelude.{option_map, length, drop}
use Rattle.std.specs.List.{AllZip, concat}
use Rattle.std.proofs.lemmas.List.{append-nil, drop_more}
use Rattle.mp4_boxes.specs.format.Box.{Box, Container, Tiles, LieEndToEnd, may_be_open, box_container, IsCounted, StandsAfter}
use Rattle.mp4_boxes.specs.format.Places.{Scope, ruled, data_entries, sample_entries, containers, at_kind, inside, as_container}
use Rattle.mp4_boxes.specs.declared.rule.Rule.{Rule}
use Rattle.mp4_boxes.specs.declared.rule.Rule.TheVariants.{File, Movie, Track, Edits, Media, MediaInformation, DataInformation, SampleTable, MovieExtends, MovieFragment, TrackFragment}
use Rattle.mp4_boxes.specs.declared.fault.Fault.{Fault}
use Rattle.mp4_head.proofs.Above.{lies_front}
use Rattle.mp4_answers.specs.declared.jobs.BoxForm.{BoxForm}
use Rattle.mp4_answers.specs.format.BoxTexts.{AreBoxLines, box_line}
use Rattle.mp4_answers.specs.format.Texts.{descends, IsPart}
use Rattle.mp4_present.specs.declared.reading.TopBox.{TopBox}
use Rattle.mp4_answers.specs.format.BoxWalk.{height, under, rule_inside, FaultSeen, IsListed, top_seen, tops_seen}

-- ---- a loop over boxes that adds a part for each

pub record Listed (P : Box → List ℕ → Type 0) (all : List Box) (start text : List ℕ) (left : List Box) : Type 0 where
  pub passed : List Box
  pub parts : List (List ℕ)
  pub whole : passed ++ left ≡ all
  pub each : AllZip P passed parts
  pub added : text ≡ start ++ concat parts

pub listed_none : (P : Box → List ℕ → Type 0) (all : List Box) (text : List ℕ) → Listed P all text text all
listed_none P all text = record { passed = []; parts = []; whole = refl; each = tt; added = sym (append-nil text) }

zip_push : (P : Box → List ℕ → Type 0) (bs : List Box) (ps : List (List ℕ)) (b : Box) (p : List ℕ) → AllZip P bs ps → P b p → AllZip P (bs ++ b ∷ []) (ps ++ p ∷ [])
zip_push P [] [] b p h g = (g, tt)
zip_push P [] (q ∷ ps) b p h g = absurd h
zip_push P (c ∷ bs) [] b p h g = absurd h
zip_push P (c ∷ bs) (q ∷ ps) b p h g = (h.0, zip_push P bs ps b p h.1 g)

concat_push : (ps : List (List ℕ)) (p : List ℕ) → concat (ps ++ p ∷ []) ≡ concat ps ++ p
concat_push [] p = append-nil p
concat_push (q ∷ ps) p = ap (λ (xs : List ℕ). q ++ xs) (concat_push ps p) ∙ sym (append_assoc q (concat ps) p)

-- one more box, with its part
pub listed_more : (P : Box → List ℕ → Type 0) (all : List Box) (start text : List ℕ) (left : List Box) (b : Box) (part text' : List ℕ) (left' : List Box)
    → Listed P all start text left → left ≡ b ∷ left' → P b part → text' ≡ text ++ part → Listed P all start text' left'
listed_more P all start text left b part text' left' l e h t = record {
  passed = l.passed ++ b ∷ [];
  parts = l.parts ++ part ∷ [];
  whole = append_assoc l.passed (b ∷ []) left' ∙ ap (λ (bs : List Box). l.passed ++ bs) (sym e) ∙ l.whole;
  each = zip_push P l.passed l.parts b part l.each h;
  added = t ∙ ap (λ (xs : List ℕ). xs ++ part) l.added ∙ append_assoc start (concat l.parts) part ∙ ap (λ (xs : List ℕ). start ++ xs) (sym (concat_push l.parts part));
}

-- all boxes have their parts
pub listed_all : (P : Box → List ℕ → Type 0) (all : List Box) (start text : List ℕ) (left : List Box) → Listed P all start text left → left ≡ []
    → (parts : List (List ℕ)) × AllZip P all parts × (text ≡ start ++ concat parts)
listed_all P all start text left l e =
    let same : l.passed ≡ all = sym (append-nil l.passed) ∙ ap (λ (bs : List Box). l.passed ++ bs) (sym e) ∙ l.whole in
    (l.parts, subst (λ (bs : List Box). AllZip P bs l.parts) same l.each, l.added)

-- ---- levels

choose_one : (P : Rule → Type 0) (u : Bool) (a inner : Rule) → descends (cond u (Some (ruled a)) None) ≡ Some inner → P a → P inner
choose_one P true a inner e p = let same : a ≡ inner = cc in subst P same p
choose_one P false a inner e p = absurd cc

choose_two : (P : Rule → Type 0) (u v : Bool) (a b inner : Rule) → descends (cond u (Some (ruled a)) (cond v (Some (ruled b)) None)) ≡ Some inner → P a → P b → P inner
choose_two P true v a b inner e p q = let same : a ≡ inner = cc in subst P same p
choose_two P false v a b inner e p q = choose_one P v b inner e q

pub not_entries : (u : Bool) (s : Scope) (inner : Rule) → descends (Some s) ≡ None → descends (cond u (Some s) None) ≡ Some inner → ⊥
not_entries true s inner n e = let both : ◌≡◌ {A = Option Rule} None (Some inner) = sym n ∙ e in cc
not_entries false s inner n e = cc

-- a container that is descended into lies lower than the one around it
pub inside_lower : (rule inner : Rule) (kind : List ℕ) → rule_inside rule kind ≡ Some inner → height inner < height rule
inside_lower File inner kind e = choose_two (λ r. height r < 6) _ _ Movie MovieFragment inner e (omega arith) (omega arith)
inside_lower Movie inner kind e = choose_two (λ r. height r < 5) _ _ Track MovieExtends inner e (omega arith) (omega arith)
inside_lower Track inner kind e = choose_two (λ r. height r < 4) _ _ Edits Media inner e (omega arith) (omega arith)
inside_lower Media inner kind e = choose_one (λ r. height r < 3) _ MediaInformation inner e (omega arith)
inside_lower MediaInformation inner kind e = choose_two (λ r. height r < 2) _ _ DataInformation SampleTable inner e (omega arith) (omega arith)
inside_lower MovieFragment inner kind e = choose_one (λ r. height r < 2) _ TrackFragment inner e (omega arith)
inside_lower DataInformation inner kind e = absurd (not_entries _ data_entries inner refl e)
inside_lower SampleTable inner kind e = absurd (not_entries _ sample_entries inner refl e)
inside_lower Edits inner kind e = absurd cc
inside_lower MovieExtends inner kind e = absurd cc
inside_lower TrackFragment inner kind e = absurd cc

pub height_some : (rule : Rule) → 0 < height rule
height_some File = omega arith
height_some Movie = omega arith
height_some Track = omega arith
height_some Edits = omega arith
height_some Media = omega arith
height_some MediaInformation = omega arith
height_some DataInformation = omega arith
height_some SampleTable = omega arith
height_some MovieExtends = omega arith
height_some MovieFragment = omega arith
height_some TrackFragment = omega arith

-- what holds of each box and its part holds under a weaker word
pub zip_map : (P Q : Box → List ℕ → Type 0) → ((b : Box) (part : List ℕ) → P b part → Q b part) → (bs : List Box) (parts : List (List ℕ)) → AllZip P bs parts → AllZip Q bs parts
zip_map P Q f [] [] h = tt
zip_map P Q f [] (p ∷ ps) h = absurd h
zip_map P Q f (b ∷ bs) [] h = absurd h
zip_map P Q f (b ∷ bs) (p ∷ ps) h = (f b p h.0, zip_map P Q f bs ps h.1)

part_map : (I J : Rule → Container → List ℕ → Type 0) (line : List ℕ) → ((rule : Rule) (c : Container) (text : List ℕ) → I rule c text → J rule c text)
    → (inner : Option Rule) (b : Box) (part : List ℕ) → IsPart I line inner b part → IsPart J line inner b part
part_map I J line f None b part h = h
part_map I J line f (Some rule) b part h = (h.0, f rule (box_container b) h.0 h.1, h.2)

-- More levels than are there change nothing.
pub levels_rise : (form : BoxForm) (m n depth : ℕ) (rule : Rule) (c : Container) (text : List ℕ) → m ≤ n → AreBoxLines form m depth rule c text → AreBoxLines form n depth rule c text
levels_rise form zero n depth rule c text le h = absurd h
levels_rise form (suc m) zero depth rule c text le h = absurd (omega arith)
levels_rise form (suc m) (suc n) depth rule c text le h =
    let lift = λ (r : Rule) (d : Container) (t : List ℕ). levels_rise form m n (depth + 1) r d t (omega arith) in (
      h.0,
      h.1,
      h.2,
      zip_map (λ b part. IsPart (AreBoxLines form m (depth + 1)) (box_line form rule depth b) (descends (at_kind (containers (ruled rule)) b.kind)) b part)
          (λ b part. IsPart (AreBoxLines form n (depth + 1)) (box_line form rule depth b) (descends (at_kind (containers (ruled rule)) b.kind)) b part)
          (λ b part. part_map (AreBoxLines form m (depth + 1)) (AreBoxLines form n (depth + 1)) (box_line form rule depth b) lift (descends (at_kind (containers (ruled rule)) b.kind)) b part) h.0 h.2 h.3,
      h.4,
    )

-- the lines of a container's boxes, from those of each
pub lines_of_boxes : (form : BoxForm) (depth : ℕ) (rule : Rule) (c : Container) (boxes : List Box) (parts : List (List ℕ)) → Tiles c boxes → AllZip (IsListed form rule depth) boxes parts → AreBoxLines form (height rule) depth rule c (concat parts)
lines_of_boxes form depth rule c boxes parts t h = from (height rule) (height_some rule) h
  where
    from : (n : ℕ) → 0 < n → AllZip (λ (b : Box) (part : List ℕ). IsPart (AreBoxLines form (n - 1) (depth + 1)) (box_line form rule depth b) (rule_inside rule b.kind) b part) boxes parts → AreBoxLines form n depth rule c (concat parts)
    from zero some g = absurd (omega arith)
    from (suc n) some g =
        let e : suc n - 1 ≡ n = omega arith in
        (boxes, t, parts, subst (λ (k : ℕ). AllZip (λ (b : Box) (part : List ℕ). IsPart (AreBoxLines form k (depth + 1)) (box_line form rule depth b) (rule_inside rule b.kind) b part) boxes parts) e g, refl)

-- the line of a box that is not
pub listed_alone : (form : BoxForm) (rule : Rule) (depth : ℕ) (b : Box) → rule_inside rule b.kind ≡ None → IsListed form rule depth b (box_line form rule depth b)
listed_alone form rule depth b e = rw e refl

-- ---- faults

-- a box of a tiled container of boxes stands there
stands_of : (c : Container) (all passed left : List Box) (b : Box) → Tiles c all → all ≡ passed ++ b ∷ left → ((bs : List Box) → IsCounted c.extent bs) → StandsAfter c passed b
stands_of c all passed left b t e many =
    let grouped : passed ++ b ∷ left ≡ (passed ++ b ∷ []) ++ left = sym (append_assoc passed (b ∷ []) left) in
    (lies_front (may_be_open c.extent) c.at c.bytes (passed ++ b ∷ []) left (subst (λ (bs : List Box). LieEndToEnd (may_be_open c.extent) c.at c.bytes bs) (e ∙ grouped) t.front.0), many (passed ++ b ∷ []))

pub descends_is : (o : Option Scope) (rule : Rule) → descends o ≡ Some rule → o ≡ Some (ruled rule)
descends_is (Some (ruled r)) rule e = let same : r ≡ rule = cc in ap (λ (x : Rule). Some (ruled x)) same
descends_is (Some data_entries) rule e = absurd cc
descends_is (Some sample_entries) rule e = absurd cc
descends_is None rule e = absurd cc

-- a fault in a box is one in the container that it stands in
pub seen_above : (rule inner : Rule) (c : Container) (all passed left : List Box) (b : Box) (f : Fault) → Tiles c all → all ≡ passed ++ b ∷ left → ((bs : List Box) → IsCounted c.extent bs)
    → rule_inside rule b.kind ≡ Some inner → FaultSeen (under inner (box_container b)) f → FaultSeen (under rule c) f
seen_above rule inner c all passed left b f t whole many e s =
    let scope = descends_is (at_kind (containers (ruled rule)) b.kind) inner e in
    let into : inside (under rule c) b ≡ Some (under inner (box_container b)) = ap (λ (o : Option Scope). option_map (λ (x : Scope). record { scope = x; container = as_container x b }) o) scope in
    record {
      place = s.place;
      reaches = (b ∷ s.reaches.0, (passed, stands_of c all passed left b t whole many, under inner (box_container b), into, s.reaches.1));
      rule = s.rule;
      is_looked_at = s.is_looked_at;
      fault = s.fault;
    }

-- ---- boxes by their headers

-- the boxes from a place on: the one there, and the others
pub tops_more : (file : List ℕ) (tops : List TopBox) (i : ℕ) (d : TopBox) → i < length tops → tops_seen file (drop i tops) ≡ top_seen file (get_or tops i d) ∷ tops_seen file (drop (i + 1) tops)
tops_more file tops i d lt = ap (tops_seen file) (drop_more tops i d lt)

-- the boxes before and behind a place are all
pub tops_split : (file : List ℕ) (tops : List TopBox) (i : ℕ) (d : TopBox) (all passed : List Box) → all ≡ tops_seen file tops → passed ++ tops_seen file (drop i tops) ≡ all → i < length tops
    → tops_seen file tops ≡ passed ++ top_seen file (get_or tops i d) ∷ tops_seen file (drop (i + 1) tops)
tops_split file tops i d all passed e whole lt = sym e ∙ sym whole ∙ ap (λ (bs : List Box). passed ++ bs) (tops_more file tops i d lt)
