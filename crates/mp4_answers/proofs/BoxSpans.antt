-- The boxes between two places of a file, by their headers.
use Rattle.std.proofs.Common.{◌≡◌, ℕ, ◌+◌, ◌-◌, ◌<◌, ◌≤◌, Bool, true, false, cond, List, [], ◌∷◌, ◌++◌, length, drop, Some, None, refl, sym, ap, subst, ◌∙◌, arith, Ok, Err}
use Rattle.std.proofs.lemmas.Grind.{common_steps}
use Rattle.std.proofs.lemmas.Bool.{le-leb}
use Rattle.std.proofs.lemmas.Slice.Eq.{bytes_eq-Decides}
use Rattle.std.specs.Prelude.{IsTrue, codes, bytes_eq, Option, option_map, nat_le, take}
use Rattle.mp4_store.specs.words.Device.{range}
use Rattle.mp4_boxes.specs.format.Box.{Box, Container, header_at, box_of, size, sizes, LieEndToEnd, may_be_open, IsCounted, IsDue, IsFull, Tiles, box_container, file_container}
use Rattle.mp4_boxes.specs.format.BoxFaults.{header_there, type_of, unreadable}
use Rattle.mp4_boxes.specs.format.Places.{ruled, data_entries, sample_entries}
use Rattle.mp4_boxes.specs.words.View.{top_header_seen}
use Rattle.mp4_boxes.specs.declared.fault.Fault.{Fault}
use Rattle.mp4_boxes.specs.declared.headers.TopHeader.{TopHeader}
use Rattle.mp4_boxes.specs.declared.refusal.Refusal.{Refusal}
use Rattle.mp4_boxes.specs.declared.refusal.Refusal.TheVariants as refusals
use Rattle.mp4_boxes.specs.declared.rule.Rule.{Rule}
use Rattle.mp4_boxes.specs.declared.rule.Rule.TheVariants.{File, Movie, Track, Edits, Media, MediaInformation, DataInformation, SampleTable, MovieExtends, MovieFragment, TrackFragment}
use Rattle.mp4_boxes.proofs.Tiling.{header_is, box_size, lies_push, sizes-append, sizes-cons}
use Rattle.mp4_boxes.proofs.Walking.{located_err}
use Rattle.mp4_present.specs.words.Reading.{top_box}
use Rattle.mp4_present.specs.declared.reading.TopBox.{TopBox}
use Rattle.mp4_answers.specs.format.BoxWalk.{height, under, rule_inside, FaultSeen, IsListed, IsWithin, RefusesTops, top_seen}
use Rattle.mp4_answers.specs.format.Strips.{holder, is_top, payload_behind, RefusesHeaderUnder}
use Rattle.serde_json.specs.Written.{compact_text, has_float}
use Rattle.mp4_boxes.specs.format.Children.{allows}
use Rattle.mp4_answers.specs.declared.jobs.BoxForm.{BoxForm}
use Rattle.mp4_answers.specs.declared.jobs.Syntax.TheVariants as syntaxes
use Rattle.mp4_answers.specs.format.BoxTexts.{AreBoxLines, FormLines, box_line, object_text, without_fields}
use Rattle.mp4_answers.specs.format.Texts.{descends, box_data, line_feed, type_text, uuid_of, uuid_text}
use Rattle.mp4_answers.specs.words.BoxSpans.{extent_of, span_of, found_value, RefusesLine, RefusesSpan}
use Rattle.mp4_answers.proofs.BoxLists.{not_entries, inside_lower, levels_rise, seen_above}
use Rattle.mp4_answers.proofs.StripWalks.{drop_range, take_range, its_payload}
use Rattle.mp4_answers.proofs.HeadersUnder.{length_range}

-- ---- how far boxes go

open_is : (u : Bool) → may_be_open (extent_of u) ≡ u
open_is true = refl
open_is false = refl

pub counted_is : (u : Bool) (boxes : List Box) → IsCounted (extent_of u) boxes
counted_is true boxes = tt
counted_is false boxes = tt

due_is : (u : Bool) (left : ℕ) (boxes : List Box) → sizes boxes < left → IsDue (extent_of u) left boxes
due_is true left boxes h = h
due_is false left boxes h = h

full_is : (u : Bool) (left : ℕ) (boxes : List Box) → sizes boxes ≡ left → IsFull (extent_of u) left boxes
full_is true left boxes h = h
full_is false left boxes h = h

-- ---- boxes that were read

-- These boxes lie from one place of the file up to another.
pub record SpanPassed (file : List ℕ) (rule : Rule) (from end : ℕ) (boxes : List Box) (at : ℕ) : Type 0 where
  pub lie : LieEndToEnd (is_top rule) from (range file from (end - from)) boxes
  pub taken : from + sizes boxes ≡ at

-- the bytes behind the first n
left_of : (file : List ℕ) (from end at n : ℕ) → from + n ≡ at → at ≤ end → drop n (range file from (end - from)) ≡ range file at (end - at)
left_of file from end at n e le =
    let few : n ≤ end - from = omega (arith, e, le) in
    let less : end - from - n ≡ end - at = omega (arith, e, le) in
    drop_range file from n (end - from) few ∙ (λ i. range file (e i) (less i))

-- one more box
pub span_more : (file : List ℕ) (rule : Rule) (from end : ℕ) (boxes : List Box) (at : ℕ) (h : TopHeader) → SpanPassed file rule from end boxes at
    → header_at (is_top rule) (range file at (end - at)) ≡ Ok (top_header_seen at h) → at + h.header ≤ h.end → h.end ≤ end
    → SpanPassed file rule from end (boxes ++ top_box file at h ∷ []) h.end
span_more file rule from end boxes at h p e inside le =
    let g = top_header_seen at h in
    let bytes = range file from (end - from) in
    let t = p.taken in
    let rest = left_of file from end at (sizes boxes) t (omega (arith, inside, le)) in
    let read : header_at (is_top rule) (drop (sizes boxes) bytes) ≡ Ok g = ap (header_at (is_top rule)) rest ∙ e in
    let b = box_of (from + sizes boxes) (drop (sizes boxes) bytes) g in
    let less : h.end - (at + h.header) ≡ h.end - at - h.header = omega (arith, inside) in
    let payload = ap (payload_behind g) rest ∙ its_payload file at end h inside le ∙ ap (range file (at + h.header)) less in
    let same : b ≡ top_box file at h = λ i. record { kind = h.kind.0; offset = t i; header = h.header; payload = payload i } in
    let big = box_size (from + sizes boxes) (drop (sizes boxes) bytes) g (header_is (is_top rule) (drop (sizes boxes) bytes) g read) in
    record {
      lie = subst (λ (x : Box). LieEndToEnd (is_top rule) from bytes (boxes ++ x ∷ [])) same (lies_push (is_top rule) from bytes boxes g p.lie read);
      taken = subst (λ (x : Box). from + sizes (boxes ++ x ∷ []) ≡ h.end) same (omega (arith, t, big, inside, sizes-append boxes (b ∷ []), sizes-cons b []));
    }

-- a header that can't be read is a fault of the container
pub span_fault : (file : List ℕ) (rule : Rule) (start from end : ℕ) (boxes : List Box) (at : ℕ) (f : Fault) → SpanPassed file rule from end boxes at → at < end → end ≤ length file
    → header_there (is_top rule) (length (range file at (end - at))) (range file at (end - at)) (holder rule) at ≡ Err f
    → FaultSeen (under rule (span_of file rule start from end)) f
span_fault file rule start from end boxes at f p lt le e =
    let bytes = range file from (end - from) in
    let t = p.taken in
    let r = located_err (holder rule) at (type_of (range file at (end - at))) (header_at (is_top rule) (range file at (end - at))) f e in
    let rest = left_of file from end at (sizes boxes) t (omega (arith, lt)) in
    let there : length bytes ≡ end - from = length_range file from (end - from) (omega (arith, t, lt, le)) in
    record {
      place = under rule (span_of file rule start from end);
      reaches = ([], refl);
      rule = rule;
      is_looked_at = refl;
      fault = record {
        before = boxes;
        front = (subst (λ (u : Bool). LieEndToEnd u from bytes boxes) (sym (open_is (is_top rule))) p.lie, counted_is (is_top rule) boxes);
        due = due_is (is_top rule) (length bytes) boxes (omega (arith, there, t, lt));
        kind = r.0;
        fails = (λ i. header_at (open_is (is_top rule) i) (rest i)) ∙ r.1;
        named = r.2 ∙ (λ i. unreadable (holder rule) (sym t i) (type_of (sym rest i)) r.0);
      };
    }

-- the boxes up to the end are all
pub span_tiles : (file : List ℕ) (rule : Rule) (start from end : ℕ) (boxes : List Box) (at : ℕ) → SpanPassed file rule from end boxes at → end ≤ at → at ≤ end → end ≤ length file
    → Tiles (span_of file rule start from end) boxes
span_tiles file rule start from end boxes at p full span le =
    let bytes = range file from (end - from) in
    let t = p.taken in
    let there : length bytes ≡ end - from = length_range file from (end - from) (omega (arith, t, span, le)) in
    record {
      front = (subst (λ (u : Bool). LieEndToEnd u from bytes boxes) (sym (open_is (is_top rule))) p.lie, counted_is (is_top rule) boxes);
      full = full_is (is_top rule) (length bytes) boxes (omega (arith, there, t, full, span));
    }

-- ---- boxes of a box, and of the file

kind_one : (P : Rule → Type 0) (name kind : List ℕ) (a inner : Rule) (u : Bool) → bytes_eq name kind ≡ u → descends (cond u (Some (ruled a)) None) ≡ Some inner → (name ≡ kind → P a) → P inner
kind_one P name kind a inner true t e p = let same : a ≡ inner = cc in subst P same (p ((bytes_eq-Decides name kind).0 t))
kind_one P name kind a inner false t e p = absurd cc

kind_two : (P : Rule → Type 0) (name other kind : List ℕ) (a b inner : Rule) (u : Bool) → bytes_eq name kind ≡ u
    → descends (cond u (Some (ruled a)) (cond (bytes_eq other kind) (Some (ruled b)) None)) ≡ Some inner → (name ≡ kind → P a) → (other ≡ kind → P b) → P inner
kind_two P name other kind a b inner true t e p q = let same : a ≡ inner = cc in subst P same (p ((bytes_eq-Decides name kind).0 t))
kind_two P name other kind a b inner false t e p q = kind_one P other kind b inner (bytes_eq other kind) refl e q

-- the type of a container that is descended into is that of its rule, which isn't the file's
abbrev Held : List ℕ → Rule → Type 0
Held kind inner = (kind ≡ holder inner) × (is_top inner ≡ false)

inside_is : (rule inner : Rule) (kind : List ℕ) → rule_inside rule kind ≡ Some inner → Held kind inner
inside_is File inner kind e = kind_two (Held kind) (codes "moov") (codes "moof") kind Movie MovieFragment inner _ refl e (λ k. (sym k, refl)) (λ k. (sym k, refl))
inside_is Movie inner kind e = kind_two (Held kind) (codes "trak") (codes "mvex") kind Track MovieExtends inner _ refl e (λ k. (sym k, refl)) (λ k. (sym k, refl))
inside_is Track inner kind e = kind_two (Held kind) (codes "edts") (codes "mdia") kind Edits Media inner _ refl e (λ k. (sym k, refl)) (λ k. (sym k, refl))
inside_is Media inner kind e = kind_one (Held kind) (codes "minf") kind MediaInformation inner _ refl e (λ k. (sym k, refl))
inside_is MediaInformation inner kind e = kind_two (Held kind) (codes "dinf") (codes "stbl") kind DataInformation SampleTable inner _ refl e (λ k. (sym k, refl)) (λ k. (sym k, refl))
inside_is MovieFragment inner kind e = kind_one (Held kind) (codes "traf") kind TrackFragment inner _ refl e (λ k. (sym k, refl))
inside_is DataInformation inner kind e = absurd (not_entries _ data_entries inner refl e)
inside_is SampleTable inner kind e = absurd (not_entries _ sample_entries inner refl e)
inside_is Edits inner kind e = absurd cc
inside_is MovieExtends inner kind e = absurd cc
inside_is TrackFragment inner kind e = absurd cc

-- where the bytes of a box lie
abbrev pub payload_at : TopBox → ℕ
payload_at top = top.offset + top.header.header

pub box_span : (file : List ℕ) (rule inner : Rule) (top : TopBox) → rule_inside rule top.header.kind.0 ≡ Some inner
    → span_of file inner top.offset (payload_at top) top.header.end ≡ box_container (top_seen file top)
box_span file rule inner top e =
    let k = inside_is rule inner top.header.kind.0 e in
    let less : top.header.end - payload_at top ≡ top.header.end - top.offset - top.header.header = omega arith in
    λ i. record { kind = sym k.0 i; offset = top.offset; at = payload_at top; bytes = range file (payload_at top) (less i); extent = extent_of (k.1 i) }

pub whole_range : (file : List ℕ) → range file 0 (length file - 0) ≡ file
whole_range file = grind (arith, common_steps)

pub file_span : (file : List ℕ) → span_of file File 0 0 (length file) ≡ file_container file
file_span file = ap (λ (bytes : List ℕ). record (file_container file) { bytes = bytes }) (whole_range file)

-- ---- lines

-- how long a box is
top_size : (file : List ℕ) (top : TopBox) → IsWithin file top → top.header.end - top.offset ≡ size (top_seen file top)
top_size file top w =
    let from = w.0 in
    let to = w.1 in
    let there = length_range file (payload_at top) (top.header.end - top.offset - top.header.header) (omega (arith, from, to)) in
    omega (arith, from, there)

-- the object of a box says its size
pub top_text : (file : List ℕ) (rule : Rule) (depth : ℕ) (top : TopBox) (uuid : Option (List ℕ)) → IsWithin file top → uuid ≡ uuid_of (top_seen file top)
    → compact_text (found_value depth rule top uuid) ≡ object_text rule depth (top_seen file top)
top_text file rule depth top uuid w e = λ i. compact_text (box_data depth (allows rule top.header.kind.0) top.offset (top_size file top w i) (type_text top.header.kind.0) (option_map uuid_text (e i)))

pub top_object : (file : List ℕ) (rule : Rule) (depth : ℕ) (top : TopBox) (uuid : Option (List ℕ)) → IsWithin file top → uuid ≡ uuid_of (top_seen file top)
    → compact_text (found_value depth rule top uuid) ++ line_feed ≡ box_line (without_fields syntaxes.Json) rule depth (top_seen file top)
top_object file rule depth top uuid w e = λ i. compact_text (box_data depth (allows rule top.header.kind.0) top.offset (top_size file top w i) (type_text top.header.kind.0) (option_map uuid_text (e i))) ++ line_feed

-- sixteen bytes that were read of a `uuid` are its UUID
pub uuid_read : (file : List ℕ) (top : TopBox) (bytes : List ℕ) → IsWithin file top → top.header.kind.0 ≡ codes "uuid" → payload_at top + 16 ≤ top.header.end → bytes ≡ range file (payload_at top) 16
    → Some bytes ≡ uuid_of (top_seen file top)
uuid_read file top bytes w named enough e =
    let from = w.0 in
    let to = w.1 in
    let left = top.header.end - top.offset - top.header.header in
    let there : length (range file (payload_at top) left) ≡ left = length_range file (payload_at top) left (omega (arith, from, to)) in
    let long : nat_le 16 (length (range file (payload_at top) left)) ≡ true = rw there (le-leb 16 left (omega (arith, enough, from))) in
    let front : bytes ≡ take 16 (range file (payload_at top) left) = e ∙ sym (take_range file (payload_at top) 16 left (omega (arith, enough, from))) in
    rw (named, long) (ap Some front)

-- no number of it is a float
pub found-has_float : (depth : ℕ) (rule : Rule) (top : TopBox) (uuid : Option (List ℕ)) → has_float (found_value depth rule top uuid) ≡ false
found-has_float depth rule top uuid = box-has_float depth (allows rule top.header.kind.0) top.offset (top.header.end - top.offset) (type_text top.header.kind.0) (option_map uuid_text uuid)
  where
    box-has_float : (depth : ℕ) (allowed : Bool) (offset size : ℕ) (kind : List ℕ) (uuid : Option (List ℕ)) → has_float (box_data depth allowed offset size kind uuid) ≡ false
    box-has_float depth true offset size kind None = refl
    box-has_float depth true offset size kind (Some u) = refl
    box-has_float depth false offset size kind None = refl
    box-has_float depth false offset size kind (Some u) = refl

-- the lines of a box that is descended into: its own, and those of its boxes
pub listed_span : (form : BoxForm) (file : List ℕ) (rule inner : Rule) (depth : ℕ) (top : TopBox) (part : List ℕ) → rule_inside rule top.header.kind.0 ≡ Some inner
    → AreBoxLines form (height inner) (depth + 1) inner (span_of file inner top.offset (payload_at top) top.header.end) part
    → IsListed form rule depth (top_seen file top) (box_line form rule depth (top_seen file top) ++ part)
listed_span form file rule inner depth top part e h =
    let lower = inside_lower rule inner top.header.kind.0 e in
    let lines = levels_rise form (height inner) (height rule - 1) (depth + 1) inner (box_container (top_seen file top)) part (omega (arith, lower))
    (subst (λ (c : Container). AreBoxLines form (height inner) (depth + 1) inner c part) (box_span file rule inner top e) h) in
    rw e (part, lines, refl)

pub file_lines : (form : BoxForm) (file text : List ℕ) → AreBoxLines form 6 0 File (span_of file File 0 0 (length file)) text → FormLines form file text
file_lines form file text h = subst (λ (c : Container). AreBoxLines form 6 0 File c text) (file_span file) h

-- ---- why they are not listed

pub refuses_between : (honest : Bool) (file : List ℕ) (rule : Rule) (from end : ℕ) (boxes : List Box) (at reads reads_after : ℕ) (r : Refusal) → (IsTrue honest → SpanPassed file rule from end boxes at)
    → at < end → end ≤ length file → RefusesHeaderUnder honest (range file at (end - at)) rule at reads reads_after r → RefusesSpan honest file rule from end reads reads_after r
refuses_between honest file rule from end boxes at reads reads_after (refusals.Fault f) p lt le h = λ told start. span_fault file rule start from end boxes at f (p told) lt le (h told)
refuses_between honest file rule from end boxes at reads reads_after refusals.Memory p lt le h = absurd h
refuses_between honest file rule from end boxes at reads reads_after refusals.StoreFailed p lt le h = h
refuses_between honest file rule from end boxes at reads reads_after refusals.StoreChanged p lt le h = absurd h
refuses_between honest file rule from end boxes at reads reads_after refusals.WriteFailed p lt le h = absurd h
refuses_between honest file rule from end boxes at reads reads_after refusals.NoSuchTrack p lt le h = absurd h

-- the line of one box
pub refuses_line : (honest : Bool) (file : List ℕ) (rule : Rule) (from end reads reads_after : ℕ) (r : Refusal) → RefusesLine reads reads_after r → RefusesSpan honest file rule from end reads reads_after r
refuses_line honest file rule from end reads reads_after (refusals.Fault f) h = absurd h
refuses_line honest file rule from end reads reads_after refusals.Memory h = tt
refuses_line honest file rule from end reads reads_after refusals.StoreFailed h = h
refuses_line honest file rule from end reads reads_after refusals.StoreChanged h = absurd h
refuses_line honest file rule from end reads reads_after refusals.WriteFailed h = absurd h
refuses_line honest file rule from end reads reads_after refusals.NoSuchTrack h = absurd h

-- boxes of a box in it
pub refuses_deeper : (honest : Bool) (file : List ℕ) (rule inner : Rule) (from end : ℕ) (all left : List Box) (top : TopBox) (reads reads_after : ℕ) (r : Refusal)
    → (IsTrue honest → (start : ℕ) → Tiles (span_of file rule start from end) all) → (IsTrue honest → (passed : List Box) × (all ≡ passed ++ top_seen file top ∷ left)) → rule_inside rule top.header.kind.0 ≡ Some inner
    → RefusesSpan honest file inner (payload_at top) top.header.end reads reads_after r → RefusesSpan honest file rule from end reads reads_after r
refuses_deeper honest file rule inner from end all left top reads reads_after (refusals.Fault f) t whole e h = λ told start.
    let w = whole told in
    seen_above rule inner (span_of file rule start from end) all w.0 left (top_seen file top) f (t told start) w.1 (counted_is (is_top rule)) e
    (subst (λ (c : Container). FaultSeen (under inner c) f) (box_span file rule inner top e) (h told top.offset))
refuses_deeper honest file rule inner from end all left top reads reads_after refusals.Memory t whole e h = tt
refuses_deeper honest file rule inner from end all left top reads reads_after refusals.StoreFailed t whole e h = h
refuses_deeper honest file rule inner from end all left top reads reads_after refusals.StoreChanged t whole e h = absurd h
refuses_deeper honest file rule inner from end all left top reads reads_after refusals.WriteFailed t whole e h = absurd h
refuses_deeper honest file rule inner from end all left top reads reads_after refusals.NoSuchTrack t whole e h = absurd h

-- the boxes of the file
pub refuses_file : (honest : Bool) (file : List ℕ) (reads reads_after : ℕ) (r : Refusal) → RefusesSpan honest file File 0 (length file) reads reads_after r → RefusesTops honest file reads reads_after r
refuses_file honest file reads reads_after (refusals.Fault f) h = λ told. subst (λ (c : Container). FaultSeen (under File c) f) (file_span file) (h told 0)
refuses_file honest file reads reads_after refusals.Memory h = tt
refuses_file honest file reads reads_after refusals.StoreFailed h = h
refuses_file honest file reads reads_after refusals.StoreChanged h = absurd h
refuses_file honest file reads reads_after refusals.WriteFailed h = absurd h
refuses_file honest file reads reads_after refusals.NoSuchTrack h = absurd h
