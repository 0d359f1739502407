-- The first fault of a container, found box by box.
use Rattle.std.proofs.Common.{◌≡◌, ℕ, suc, Bool, true, false, List, [], ◌∷◌, ◌++◌, Option, Some, None, Ok, Err, refl, sym, ap, subst, ◌∙◌, append_assoc}
use Rattle.std.specs.Prelude.{codes, bytes_eq}
use Rattle.mp4_boxes.specs.format.Box.{Box, box_container}
use Rattle.mp4_boxes.specs.format.Places.{Place, ruled, data_entries, sample_entries, at_kind, inside}
use Rattle.std.specs.List.{AllByRecursion}
use Rattle.mp4_head.specs.format.HeadFaults.{is_table}
use Rattle.mp4_boxes.specs.format.FirstFault.{children_or_fault, first_failed, leaf_fault}
use Rattle.mp4_boxes.specs.format.Layout.{Leaf, mdhd, hdlr, elst, dref, stsd, stts, ctts, stsc, stsz, stz2, stco, co64, stss, sdtp, sbgp, sgpd}
use Rattle.mp4_boxes.specs.declared.rule.Rule.{Rule}
use Rattle.mp4_boxes.specs.declared.rule.Rule.TheVariants as rules
use Rattle.mp4_boxes.specs.declared.fault.Fault.{Fault}
use Rattle.mp4_head.specs.format.FirstFault.{each_fault, fault_within, own_tests, head_leaf_tests, or_else, if_container, ids_behind}
use Rattle.mp4_boxes.specs.declared.refusal.Refusal.{Refusal}
use Rattle.mp4_boxes.specs.declared.refusal.Refusal.TheVariants as refusals
use Rattle.mp4_head.specs.words.FaultNamed.{RefusesFirst}
use Rattle.mp4_boxes.proofs.Sound.{same_kind}
use Rattle.mp4_head.specs.words.Refuses.{place_of}

-- the first fault of a box in a container, and of what is in it
abbrev pub fault_at : ℕ → List ℕ → Place → List Box → Box → Option Fault
fault_at n ids place before b = or_else (first_failed (own_tests place.scope ids before b)) (λ u.
    if_container (inside place b) (fault_within n (ids_behind place.scope ids before)))

-- Of all boxes of a container some were passed, and none of these is at fault: the first fault is that of those left.
pub record FaultPassed (judged : List Box → Box → Option Fault) (all left : List Box) : Type 0 where
  pub passed : List Box
  pub whole : all ≡ passed ++ left
  pub same : each_fault judged [] all ≡ each_fault judged passed left

-- none was passed
pub fault_none : (judged : List Box → Box → Option Fault) (all : List Box) → FaultPassed judged all all
fault_none judged all = record { passed = []; whole = refl; same = refl }

-- one more was, which isn't at fault
pub fault_more : (judged : List Box → Box → Option Fault) (all left later : List Box) (b : Box) → (p : FaultPassed judged all left) → left ≡ b ∷ later → ((before : List Box) → all ≡ before ++ b ∷ later → judged before b ≡ None) → FaultPassed judged all later
fault_more judged all left later b p e none = record {
  passed = p.passed ++ b ∷ [];
  whole = p.whole ∙ ap (λ (bs : List Box). p.passed ++ bs) e ∙ sym (append_assoc p.passed (b ∷ []) later);
  same = p.same ∙ ap (each_fault judged p.passed) e ∙ rw (none p.passed (p.whole ∙ ap (λ (bs : List Box). p.passed ++ bs) e)) refl;
}

-- the box in hand is at fault
pub fault_here : (judged : List Box → Box → Option Fault) (all left later : List Box) (b : Box) (f : Fault) → (p : FaultPassed judged all left) → left ≡ b ∷ later → ((before : List Box) → all ≡ before ++ b ∷ later → judged before b ≡ Some f) → each_fault judged [] all ≡ Some f
fault_here judged all left later b f p e named = p.same ∙ ap (each_fault judged p.passed) e ∙ rw (named p.passed (p.whole ∙ ap (λ (bs : List Box). p.passed ++ bs) e)) refl

-- the box in hand is refused
pub refused_here : (judged : List Box → Box → Option Fault) (all left later : List Box) (b : Box) (first whole : Option Fault) (r : Refusal) → FaultPassed judged all left → left ≡ b ∷ later → ((before : List Box) → all ≡ before ++ b ∷ later → judged before b ≡ first)
    → whole ≡ each_fault judged [] all
    → RefusesFirst first r → RefusesFirst whole r
refused_here judged all left later b first whole (refusals.Fault f) p e named same q = same ∙ fault_here judged all left later b f p e (λ before is. named before is ∙ q)
refused_here judged all left later b first whole refusals.Memory p e named same q = tt
refused_here judged all left later b first whole refusals.StoreFailed p e named same q = q
refused_here judged all left later b first whole refusals.WriteFailed p e named same q = q
refused_here judged all left later b first whole refusals.StoreChanged p e named same q = q
refused_here judged all left later b first whole refusals.NoSuchTrack p e named same q = q

-- the same, where what it is judged by hangs on the boxes before
pub refused_with : (judged : List Box → Box → Option Fault) (all left later : List Box) (b : Box) (whole : Option Fault) (r : Refusal) → FaultPassed judged all left → left ≡ b ∷ later → whole ≡ each_fault judged [] all
    → ((before : List Box) → all ≡ before ++ b ∷ later → RefusesFirst (judged before b) r) → RefusesFirst whole r
refused_with judged all left later b whole (refusals.Fault f) p e same q = same ∙ fault_here judged all left later b f p e q
refused_with judged all left later b whole refusals.Memory p e same q = tt
refused_with judged all left later b whole refusals.StoreFailed p e same q = q p.passed (p.whole ∙ ap (λ (bs : List Box). p.passed ++ bs) e)
refused_with judged all left later b whole refusals.WriteFailed p e same q = q p.passed (p.whole ∙ ap (λ (bs : List Box). p.passed ++ bs) e)
refused_with judged all left later b whole refusals.StoreChanged p e same q = q p.passed (p.whole ∙ ap (λ (bs : List Box). p.passed ++ bs) e)
refused_with judged all left later b whole refusals.NoSuchTrack p e same q = q p.passed (p.whole ∙ ap (λ (bs : List Box). p.passed ++ bs) e)

-- none is left
pub fault_all : (judged : List Box → Box → Option Fault) (all left : List Box) → FaultPassed judged all left → left ≡ [] → each_fault judged [] all ≡ None
fault_all judged all left p e = p.same ∙ ap (each_fault judged p.passed) e

-- the list of a container is at fault
pub list_fails : (n : ℕ) (ids : List ℕ) (rule : Rule) (b : Box) (f : Fault) → children_or_fault rule (box_container b) ≡ Err f → fault_within (suc n) ids (place_of (ruled rule) b) ≡ Some f
list_fails n ids rule b f e = rw e refl

-- it isn't
pub list_holds : (n : ℕ) (ids : List ℕ) (rule : Rule) (b : Box) (all : List Box) → children_or_fault rule (box_container b) ≡ Ok all
    → fault_within (suc n) ids (place_of (ruled rule) b) ≡ each_fault (fault_at n ids (place_of (ruled rule) b)) [] all
list_holds n ids rule b all e = rw e refl

-- ---- boxes of an `edts`

pub or_none : (first : Option Fault) → or_else first (λ u. None) ≡ first
or_none None = refl
or_none (Some f) = refl

pub elst_fault : (n : ℕ) (ids : List ℕ) (edts : Box) (before : List Box) (b : Box) → bytes_eq (codes "elst") b.kind ≡ true → fault_at n ids (place_of (ruled rules.Edits) edts) before b ≡ leaf_fault elst b
elst_fault n ids edts before b k = rw k (or_none (leaf_fault elst b))

pub edits_pass : (n : ℕ) (ids : List ℕ) (edts : Box) (before : List Box) (b : Box) → bytes_eq (codes "elst") b.kind ≡ false → fault_at n ids (place_of (ruled rules.Edits) edts) before b ≡ None
edits_pass n ids edts before b k = rw k refl

-- ---- boxes of a `dinf`

pub dref_fault : (n : ℕ) (ids : List ℕ) (dinf : Box) (before : List Box) (b : Box) → bytes_eq (codes "dref") b.kind ≡ true
    → fault_at (suc n) ids (place_of (ruled rules.DataInformation) dinf) before b ≡ or_else (leaf_fault dref b) (λ u. fault_within (suc n) ids (place_of data_entries b))
dref_fault n ids dinf before b k = rw k refl

pub data_pass : (n : ℕ) (ids : List ℕ) (dinf : Box) (before : List Box) (b : Box) → bytes_eq (codes "dref") b.kind ≡ false → fault_at (suc n) ids (place_of (ruled rules.DataInformation) dinf) before b ≡ None
data_pass n ids dinf before b k = rw k refl

-- ---- boxes of an `stbl`

pub stsd_fault : (n : ℕ) (ids : List ℕ) (stbl : Box) (before : List Box) (b : Box) → bytes_eq (codes "stsd") b.kind ≡ true
    → fault_at (suc n) ids (place_of (ruled rules.SampleTable) stbl) before b ≡ or_else (leaf_fault stsd b) (λ u. fault_within (suc n) ids (place_of sample_entries b))
stsd_fault n ids stbl before b k = rw k refl

-- a table is judged elsewhere
no_tests : (entries : List (List ℕ × Leaf)) (b : Box) → AllByRecursion (λ (e : List ℕ × Leaf). is_table e.1 ≡ true) entries → head_leaf_tests (at_kind entries b.kind) b ≡ []
no_tests [] b all = refl
no_tests (e ∷ entries) b all = by (bytes_eq e.0 b.kind) refl (no_tests entries b all.1)
  where
    by : (v : Bool) → bytes_eq e.0 b.kind ≡ v → head_leaf_tests (at_kind entries b.kind) b ≡ [] → head_leaf_tests (at_kind (e ∷ entries) b.kind) b ≡ []
    by true k more = rw (k, all.0) refl
    by false k more = rw k more

pub table_pass : (n : ℕ) (ids : List ℕ) (stbl : Box) (before : List Box) (b : Box) → bytes_eq (codes "stsd") b.kind ≡ false → fault_at (suc n) ids (place_of (ruled rules.SampleTable) stbl) before b ≡ None
table_pass n ids stbl before b k =
    let none = no_tests ((codes "stts", stts) ∷ (codes "ctts", ctts) ∷ (codes "stsc", stsc) ∷ (codes "stsz", stsz) ∷ (codes "stz2", stz2) ∷ (codes "stco", stco) ∷ (codes "co64", co64) ∷ (codes "stss", stss) ∷ (codes "sdtp", sdtp) ∷ (codes "sbgp", sbgp) ∷ (codes "sgpd", sgpd) ∷ []) b (
      refl,
      (refl, (refl, (refl, (refl, (refl, (refl, (refl, (refl, (refl, (refl, tt)))))))))),
    ) in
    rw (k, none) refl

-- ---- boxes of a `minf`

-- a box of one type is of no other
pub apart : (x y kind : List ℕ) → bytes_eq x kind ≡ true → bytes_eq y x ≡ false → bytes_eq y kind ≡ false
apart x y kind k n = subst (λ (z : List ℕ). bytes_eq y z ≡ false) (sym (same_kind x kind k)) n

pub dinf_fault : (n : ℕ) (ids : List ℕ) (minf : Box) (before : List Box) (b : Box) → bytes_eq (codes "dinf") b.kind ≡ true
    → fault_at n ids (place_of (ruled rules.MediaInformation) minf) before b ≡ fault_within n ids (place_of (ruled rules.DataInformation) b)
dinf_fault n ids minf before b k = rw k refl

pub stbl_fault : (n : ℕ) (ids : List ℕ) (minf : Box) (before : List Box) (b : Box) → bytes_eq (codes "dinf") b.kind ≡ false → bytes_eq (codes "stbl") b.kind ≡ true
    → fault_at n ids (place_of (ruled rules.MediaInformation) minf) before b ≡ fault_within n ids (place_of (ruled rules.SampleTable) b)
stbl_fault n ids minf before b o k = rw (o, k) refl

pub information_pass : (n : ℕ) (ids : List ℕ) (minf : Box) (before : List Box) (b : Box) → bytes_eq (codes "dinf") b.kind ≡ false → bytes_eq (codes "stbl") b.kind ≡ false
    → fault_at n ids (place_of (ruled rules.MediaInformation) minf) before b ≡ None
information_pass n ids minf before b o k = rw (o, k) refl

-- ---- boxes of an `mdia`

pub mdhd_fault : (n : ℕ) (ids : List ℕ) (mdia : Box) (before : List Box) (b : Box) → bytes_eq (codes "mdhd") b.kind ≡ true → fault_at n ids (place_of (ruled rules.Media) mdia) before b ≡ leaf_fault mdhd b
mdhd_fault n ids mdia before b k = rw (k, apart (codes "mdhd") (codes "minf") b.kind k refl) (or_none (leaf_fault mdhd b))

pub hdlr_fault : (n : ℕ) (ids : List ℕ) (mdia : Box) (before : List Box) (b : Box) → bytes_eq (codes "mdhd") b.kind ≡ false → bytes_eq (codes "hdlr") b.kind ≡ true
    → fault_at n ids (place_of (ruled rules.Media) mdia) before b ≡ leaf_fault hdlr b
hdlr_fault n ids mdia before b o k = rw (o, k, apart (codes "hdlr") (codes "minf") b.kind k refl) (or_none (leaf_fault hdlr b))

pub minf_fault : (n : ℕ) (ids : List ℕ) (mdia : Box) (before : List Box) (b : Box) → bytes_eq (codes "minf") b.kind ≡ true
    → fault_at n ids (place_of (ruled rules.Media) mdia) before b ≡ fault_within n ids (place_of (ruled rules.MediaInformation) b)
minf_fault n ids mdia before b k = rw (k, apart (codes "minf") (codes "mdhd") b.kind k refl, apart (codes "minf") (codes "hdlr") b.kind k refl) refl

pub elng_pass : (n : ℕ) (ids : List ℕ) (mdia : Box) (before : List Box) (b : Box) → bytes_eq (codes "elng") b.kind ≡ true → fault_at n ids (place_of (ruled rules.Media) mdia) before b ≡ None
elng_pass n ids mdia before b k = rw (apart (codes "elng") (codes "mdhd") b.kind k refl, apart (codes "elng") (codes "hdlr") b.kind k refl, apart (codes "elng") (codes "minf") b.kind k refl) refl

pub media_pass : (n : ℕ) (ids : List ℕ) (mdia : Box) (before : List Box) (b : Box) → bytes_eq (codes "mdhd") b.kind ≡ false → bytes_eq (codes "hdlr") b.kind ≡ false → bytes_eq (codes "minf") b.kind ≡ false
    → fault_at n ids (place_of (ruled rules.Media) mdia) before b ≡ None
media_pass n ids mdia before b o p k = rw (o, p, k) refl
