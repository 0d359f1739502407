-- The first fault of boxes with IDs: of a `trex`, of a `tkhd`, of a `trak`.
use Rattle.std.proofs.Common.{◌≡◌, ℕ, Bool, true, false, cond, List, [], ◌∷◌, ◌++◌, map, Option, Some, None, refl, sym, ap, subst, ◌∙◌}
use Rattle.std.specs.Prelude.{codes, bytes_eq, nat_eq, not}
use Rattle.std.specs.List.{list_any}
use Rattle.std.specs.Ordering.{nat_cmp}
use Rattle.std.specs.BTreeSet.{BTreeSet, contains}
use Rattle.std.proofs.lemmas.List.{append_cancel_right}
use Rattle.mp4_boxes.specs.format.Box.{Box}
use Rattle.mp4_boxes.specs.format.BoxFaults.{fault_of}
use Rattle.mp4_boxes.specs.format.Children.{of_kind, is_among, kept_kinds}
use Rattle.mp4_boxes.specs.format.FirstFault.{Test, first_failed, leaf_fault, leaf_tests, naming}
use Rattle.mp4_boxes.specs.format.Layout.{Leaf, tkhd, trex}
use Rattle.mp4_boxes.specs.format.Places.{ruled}
use Rattle.mp4_boxes.specs.declared.rule.Rule.TheVariants as rules
use Rattle.mp4_boxes.specs.declared.fault.Fault.{Fault}
use Rattle.mp4_boxes.specs.declared.fault.Kind.{Kind}
use Rattle.mp4_boxes.specs.declared.fault.Kind.TheVariants.{BadValue, ItemLocation}
use Rattle.mp4_boxes.proofs.Sound.{same_kind}
use Rattle.mp4_frag.specs.declared.trex.Trex.{Trex}
use Rattle.mp4_frag.specs.format.Fragments.{trex_of}
use Rattle.mp4_head.specs.format.Head.{names_item_location}
use Rattle.mp4_head.specs.format.FirstFault.{or_else, id_in, fault_within}
use Rattle.mp4_head.specs.words.FaultNamed.{taken_fault}
use Rattle.mp4_head.specs.words.Refuses.{place_of}
use Rattle.mp4_head.proofs.ExtendsBoxes.{ExtendsPassed}
use Rattle.mp4_head.proofs.FaultWalks.{fault_at, apart, or_none}
use Rattle.mp4_head.proofs.KeptWalks.{another}
use Rattle.mp4_head.proofs.Walks.{walk_here}

-- one test more behind others
then_tested : (b : Box) (tests : List (Test Kind)) (v : Bool) (k : Kind) → first_failed (naming b (tests ++ (v, k) ∷ [])) ≡ or_else (first_failed (naming b tests)) (λ u. cond v None (Some (fault_of k b)))
then_tested b [] v k = refl
then_tested b (t ∷ tests) v k = by t.0 refl (then_tested b tests v k)
  where
    by : (w : Bool) → t.0 ≡ w → first_failed (naming b (tests ++ (v, k) ∷ [])) ≡ or_else (first_failed (naming b tests)) (λ u. cond v None (Some (fault_of k b)))
        → first_failed (naming b ((t ∷ tests) ++ (v, k) ∷ [])) ≡ or_else (first_failed (naming b (t ∷ tests))) (λ u. cond v None (Some (fault_of k b)))
    by true e more = rw e more
    by false e more = rw e refl

pub not_taken : (v : Bool) (f : Fault) → cond (not v) None (Some f) ≡ cond v (Some f) None
not_taken true f = refl
not_taken false f = refl

or_same : (first one two : Option Fault) → one ≡ two → or_else first (λ u. one) ≡ or_else first (λ u. two)
or_same first one two e = ap (λ (o : Option Fault). or_else first (λ u. o)) e

-- ---- a `trex`

pub trex_fault : (n : ℕ) (ids : List ℕ) (mvex : Box) (before : List Box) (b : Box) → bytes_eq (codes "trex") b.kind ≡ true
    → fault_at n ids (place_of (ruled rules.MovieExtends) mvex) before b ≡ taken_fault trex 2 (map (id_in trex 2) (of_kind (codes "trex") before)) b
trex_fault n ids mvex before b k =
    let taken = list_any (nat_eq (id_in trex 2 b)) (map (id_in trex 2) (of_kind (codes "trex") before)) in
    rw k (or_none (first_failed (naming b (leaf_tests trex b.payload ++ (not taken, BadValue) ∷ [])))
    ∙ then_tested b (leaf_tests trex b.payload) (not taken) BadValue
    ∙ or_same (leaf_fault trex b) (cond (not taken) None (Some (fault_of BadValue b))) (cond taken (Some (fault_of BadValue b)) None) (not_taken taken (fault_of BadValue b)))

pub extends_pass : (n : ℕ) (ids : List ℕ) (mvex : Box) (before : List Box) (b : Box) → bytes_eq (codes "trex") b.kind ≡ false → fault_at n ids (place_of (ruled rules.MovieExtends) mvex) before b ≡ None
extends_pass n ids mvex before b k = rw k refl

-- whether its ID is taken, by the set of those that were read
pub trex_taken : (all left later : List Box) (child : Box) (trexes : List Trex) (ids : BTreeSet ℕ) (before : List Box) (v : Bool) → ExtendsPassed all left trexes ids → left ≡ child ∷ later → all ≡ before ++ child ∷ later
    → contains nat_cmp ids (id_in trex 2 child) ≡ v → list_any (nat_eq (id_in trex 2 child)) (map (id_in trex 2) (of_kind (codes "trex") before)) ≡ v
trex_taken all left later child trexes ids before v p e is there =
    let same : before ≡ p.walk.passed = append_cancel_right before p.walk.passed (child ∷ later) (sym is ∙ walk_here all left later child p.walk e) in
    let numbers : map (λ (x : Trex). x.id) trexes ≡ map (id_in trex 2) (of_kind (codes "trex") p.walk.passed) = ap (map (λ (x : Trex). x.id)) p.says ∙ maps (of_kind (codes "trex") p.walk.passed) in
    ap (λ (bs : List Box). list_any (nat_eq (id_in trex 2 child)) (map (id_in trex 2) (of_kind (codes "trex") bs))) same
    ∙ ap (list_any (nat_eq (id_in trex 2 child))) (sym numbers)
    ∙ sym (p.met (id_in trex 2 child))
    ∙ there
  where
    maps : (bs : List Box) → map (λ (x : Trex). x.id) (map (λ (b : Box). trex_of b.payload) bs) ≡ map (id_in trex 2) bs
    maps [] = refl
    maps (b ∷ bs) = ap (λ (ns : List ℕ). id_in trex 2 b ∷ ns) (maps bs)

-- one with a taken ID, and one with a new one
pub id_taken : (leaf : Leaf) (number : ℕ) (numbers : List ℕ) (b : Box) → leaf_fault leaf b ≡ None → list_any (nat_eq (id_in leaf number b)) numbers ≡ true → taken_fault leaf number numbers b ≡ Some (fault_of BadValue b)
id_taken leaf number numbers b none t = rw (none, t) refl

pub id_new : (leaf : Leaf) (number : ℕ) (numbers : List ℕ) (b : Box) → leaf_fault leaf b ≡ None → list_any (nat_eq (id_in leaf number b)) numbers ≡ false → taken_fault leaf number numbers b ≡ None
id_new leaf number numbers b none t = rw (none, t) refl

pub id_fault : (leaf : Leaf) (number : ℕ) (numbers : List ℕ) (b : Box) (f : Fault) → leaf_fault leaf b ≡ Some f → taken_fault leaf number numbers b ≡ Some f
id_fault leaf number numbers b f e = rw e refl

-- ---- boxes of a `trak`

pub not_kept : (kinds : List (List ℕ)) (x kind : List ℕ) → bytes_eq x kind ≡ true → is_among kinds x ≡ false → is_among kinds kind ≡ false
not_kept kinds x kind k n = subst (λ (z : List ℕ). is_among kinds z ≡ false) (sym (same_kind x kind k)) n

pub tkhd_fault : (n : ℕ) (ids : List ℕ) (trak : Box) (before : List Box) (b : Box) → bytes_eq (codes "tkhd") b.kind ≡ true → fault_at n ids (place_of (ruled rules.Track) trak) before b ≡ taken_fault tkhd 4 ids b
tkhd_fault n ids trak before b k =
    let taken = list_any (nat_eq (id_in tkhd 4 b)) ids in
    rw (k, not_kept (kept_kinds rules.Track) (codes "tkhd") b.kind k refl, apart (codes "tkhd") (codes "edts") b.kind k refl, apart (codes "tkhd") (codes "mdia") b.kind k refl)
    (or_none (first_failed (naming b (leaf_tests tkhd b.payload ++ (true, ItemLocation) ∷ (not taken, BadValue) ∷ [])))
    ∙ then_tested b (leaf_tests tkhd b.payload ++ (true, ItemLocation) ∷ []) (not taken) BadValue
    ∙ or_same (leaf_fault tkhd b) (cond (not taken) None (Some (fault_of BadValue b))) (cond taken (Some (fault_of BadValue b)) None) (not_taken taken (fault_of BadValue b)))

pub edts_fault : (n : ℕ) (ids : List ℕ) (trak : Box) (before : List Box) (b : Box) → bytes_eq (codes "edts") b.kind ≡ true
    → fault_at n ids (place_of (ruled rules.Track) trak) before b ≡ fault_within n ids (place_of (ruled rules.Edits) b)
edts_fault n ids trak before b k = rw (k, apart (codes "edts") (codes "tkhd") b.kind k refl, not_kept (kept_kinds rules.Track) (codes "edts") b.kind k refl) refl

pub mdia_fault : (n : ℕ) (ids : List ℕ) (trak : Box) (before : List Box) (b : Box) → bytes_eq (codes "mdia") b.kind ≡ true
    → fault_at n ids (place_of (ruled rules.Track) trak) before b ≡ fault_within n ids (place_of (ruled rules.Media) b)
mdia_fault n ids trak before b k =
    rw (k, apart (codes "mdia") (codes "tkhd") b.kind k refl, apart (codes "mdia") (codes "edts") b.kind k refl, not_kept (kept_kinds rules.Track) (codes "mdia") b.kind k refl) refl

-- a kept box is at fault where it names places of items
pub kept_in_track : (n : ℕ) (ids : List ℕ) (trak : Box) (before : List Box) (b : Box) → is_among (kept_kinds rules.Track) b.kind ≡ true
    → fault_at n ids (place_of (ruled rules.Track) trak) before b ≡ cond (names_item_location b.payload) (Some (fault_of ItemLocation b)) None
kept_in_track n ids trak before b k =
    rw (
      k,
      another (kept_kinds rules.Track) b.kind (codes "tkhd") (bytes_eq (codes "tkhd") b.kind) refl k refl,
      another (kept_kinds rules.Track) b.kind (codes "edts") (bytes_eq (codes "edts") b.kind) refl k refl,
      another (kept_kinds rules.Track) b.kind (codes "mdia") (bytes_eq (codes "mdia") b.kind) refl k refl,
    )
    (or_none (cond (not (names_item_location b.payload)) None (Some (fault_of ItemLocation b))) ∙ not_taken (names_item_location b.payload) (fault_of ItemLocation b))

pub track_pass : (n : ℕ) (ids : List ℕ) (trak : Box) (before : List Box) (b : Box) → bytes_eq (codes "tkhd") b.kind ≡ false → bytes_eq (codes "edts") b.kind ≡ false → is_among (kept_kinds rules.Track) b.kind ≡ false → bytes_eq (codes "mdia") b.kind ≡ false
    → fault_at n ids (place_of (ruled rules.Track) trak) before b ≡ None
track_pass n ids trak before b n0 n1 n2 n3 = rw (n0, n1, n2, n3) refl

pub placed : (names : Bool) (f : Fault) → names ≡ true → cond names (Some f) None ≡ Some f
placed names f e = rw e refl

pub unplaced : (names : Bool) (f : Fault) → names ≡ false → cond names (Some f) None ≡ None
unplaced names f e = rw e refl
