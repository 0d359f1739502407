-- The first fault of a `moov` that is named stands there.
use Rattle.std.proofs.Common.{◌≡◌, ℕ, zero, suc, ◌+◌, ◌≤◌, Bool, true, false, List, [], ◌∷◌, ◌++◌, length, drop, map, Option, Some, None, Result, Ok, Err, inl, inr, refl, sym, ap, subst, ◌∙◌, append_assoc, length-append, arith}
use Rattle.std.specs.Prelude.{◌⊎◌, codes, bytes_eq, nat_eq, not, ◌&&◌}
use Rattle.std.specs.List.{list_any, AllZip}
use Rattle.mp4_boxes.specs.format.Box.{Box, box_container, counted_container, LieEndToEnd, StandsAfter, Tiles}
use Rattle.mp4_boxes.specs.format.BoxFaults.{fault_of}
use Rattle.mp4_boxes.specs.format.Bytes.{field}
use Rattle.mp4_boxes.specs.format.Children.{of_kind, is_among, kept_kinds}
use Rattle.mp4_boxes.specs.format.FirstFault.{first_failed, naming, leaf_fault}
use Rattle.mp4_boxes.specs.format.Layout.{tkhd, trex, IsReadable}
use Rattle.mp4_boxes.specs.format.Places.{Scope, ruled, data_entries, sample_entries, Place, leaf_of, as_container, inside, StandsIn}
use Rattle.mp4_boxes.specs.declared.rule.Rule.TheVariants as rules
use Rattle.mp4_boxes.specs.declared.fault.Fault.{Fault}
use Rattle.mp4_boxes.specs.declared.fault.Kind.TheVariants.{BadValue, OutsideData, ItemLocation}
use Rattle.mp4_boxes.proofs.Among.{IsIn, all_at, all_in, inside_is}
use Rattle.mp4_boxes.proofs.ChildrenJudged.{children_are, child_fault_is}
use Rattle.mp4_boxes.proofs.Refusing.{holds_only}
use Rattle.mp4_boxes.proofs.Plain.{and_is_true, not_is_false}
use Rattle.mp4_head.specs.format.Head.{names_item_location}
use Rattle.mp4_head.specs.format.HeadFaults.{HeadStands, IsTakenId}
use Rattle.mp4_head.specs.format.Tree.{MovieTree, first_of}
use Rattle.mp4_head.specs.format.FirstFault.{held, boxes_in, id_in, track_id_of, is_placed, is_new, place_tests, head_leaf_tests, each_fault, ids_behind, if_container, movie_tree_of, head_or_fault, fault_within}
use Rattle.mp4_head.specs.words.FaultNamed.{taken_fault}
use Rattle.mp4_head.specs.words.Refuses.{place_of}
use Rattle.mp4_head.proofs.Above.{lies_front, stands_of, stands_above, head_above, child_here, here, leaf_here}
use Rattle.mp4_head.proofs.CountedJudged.{counted_are, counted_fault_is}
use Rattle.mp4_head.proofs.FaultWalks.{fault_at}
use Rattle.mp4_head.proofs.IdsJudged.{trex_fault, tkhd_fault}
use Rattle.mp4_head.proofs.Inside.{LiesAt, all_lie, tiles_lie, first_is, stands_before}
use Rattle.mp4_head.proofs.JudgedLeaves.{failed, leaf_sound, leaf_fails}
use Rattle.mp4_head.proofs.JudgedWalks.{neither_fails, each_passes, passes, fails, BoxFails, box_passes, box_fails, passes_inside, fails_inside, passes_leaf, fails_leaf, first_passes}
use Rattle.mp4_head.proofs.Taken.{whose}

-- ---- the list of a container

-- the list of a container is at fault
list_stands : (scope : Scope) (outer : Box) (f : Fault) → held (place_of scope outer) ≡ Err f → HeadStands (place_of scope outer) f
list_stands (ruled rule) outer f e = child_here rule outer f (child_fault_is rule (box_container outer) f e)
list_stands data_entries outer f e = inl (record { place = place_of data_entries outer; reaches = ([], refl); fault = counted_fault_is outer f e })
list_stands sample_entries outer f e = inl (record { place = place_of sample_entries outer; reaches = ([], refl); fault = counted_fault_is outer f e })

-- the boxes that it holds tile it
list_tiles : (scope : Scope) (outer : Box) (boxes : List Box) → held (place_of scope outer) ≡ Ok boxes → Tiles (as_container scope outer) boxes
list_tiles (ruled rule) outer boxes e = (children_are rule (box_container outer) boxes e).tiles
list_tiles data_entries outer boxes e = counted_are outer boxes e
list_tiles sample_entries outer boxes e = counted_are outer boxes e

-- each of some counted boxes stands in their container
counted_stands : (outer : Box) (all before after : List Box) (b : Box) → Tiles (counted_container outer) all → all ≡ before ++ b ∷ after → StandsAfter (counted_container outer) before b
counted_stands outer all before after b t e =
    let grouped : all ≡ (before ++ b ∷ []) ++ after = e ∙ sym (append_assoc before (b ∷ []) after) in
    let many : length all ≡ field outer.payload 4 4 = t.full in (
      lies_front false (outer.offset + outer.header + 8) (drop 8 outer.payload) (before ++ b ∷ []) after (subst (λ (bs : List Box). LieEndToEnd false (outer.offset + outer.header + 8) (drop 8 outer.payload) bs) grouped t.front.0),
      omega (arith, many, ap (λ (bs : List Box). length bs) grouped, length-append (before ++ b ∷ []) after),
    )

-- each of the boxes of a container stands in it
list_has : (scope : Scope) (outer : Box) (all before after : List Box) (b : Box) → Tiles (as_container scope outer) all → all ≡ before ++ b ∷ after → StandsAfter (as_container scope outer) before b
list_has (ruled rule) outer all before after b t e = stands_of outer all before after b t e
list_has data_entries outer all before after b t e = counted_stands outer all before after b t e
list_has sample_entries outer all before after b t e = counted_stands outer all before after b t e

-- and begins no earlier than it
begins : (scope : Scope) (outer : Box) (before : List Box) (b : Box) → StandsAfter (as_container scope outer) before b → outer.offset ≤ b.offset
begins (ruled rule) outer before b s =
    let lies = all_at (LiesAt (outer.offset + outer.header) outer.payload) before [] b (all_lie (outer.offset + outer.header) outer.payload (before ++ b ∷ []) s.0) in
    omega (arith, lies.begins)
begins data_entries outer before b s =
    let lies = all_at (LiesAt (outer.offset + outer.header + 8) (drop 8 outer.payload)) before [] b (all_lie (outer.offset + outer.header + 8) (drop 8 outer.payload) (before ++ b ∷ []) s.0) in
    omega (arith, lies.begins)
begins sample_entries outer before b s =
    let lies = all_at (LiesAt (outer.offset + outer.header + 8) (drop 8 outer.payload)) before [] b (all_lie (outer.offset + outer.header + 8) (drop 8 outer.payload) (before ++ b ∷ []) s.0) in
    omega (arith, lies.begins)

-- ---- what is found

-- a `tkhd` stands in the box whose ID is one of these
record MeetsAmong (ids : List ℕ) (scope : Scope) (outer : Box) (f : Fault) : Type 0 where
  place : Place
  before : List Box
  b : Box
  stands : StandsIn (place_of scope outer) place before b
  behind : outer.offset ≤ b.offset
  leaf_is : leaf_of place.scope b.kind ≡ Some tkhd
  readable : IsReadable tkhd b.payload
  met : list_any (nat_eq (id_in tkhd 4 b)) ids ≡ true
  named : f ≡ fault_of BadValue b

-- a fault stands in the box, or an ID was met before
abbrev Outcome : List ℕ → Scope → Box → Fault → Type 0
Outcome ids scope outer f = HeadStands (place_of scope outer) f ⊎ MeetsAmong ids scope outer f

-- A box stands in another, and those before it pass.
record IsReached (n : ℕ) (ids : List ℕ) (scope : Scope) (outer : Box) (before : List Box) (b : Box) : Type 0 where
  boxes : List Box
  after : List Box
  tiles : Tiles (as_container scope outer) boxes
  is : boxes ≡ before ++ b ∷ after
  none : each_fault (fault_at n ids (place_of scope outer)) [] before ≡ None
  stands : StandsAfter (as_container scope outer) before b

-- one before it passes
passed_before : (n : ℕ) (ids : List ℕ) (scope : Scope) (outer : Box) (before : List Box) (b c : Box) → IsReached n ids scope outer before b → (i : IsIn before c) → fault_at n ids (place_of scope outer) i.before c ≡ None
passed_before n ids scope outer before b c r i = each_passes (fault_at n ids (place_of scope outer)) [] before r.none i.before i.after c i.is

-- ---- whose number it is

-- boxes go with themselves
zip_same : (bs : List Box) → AllZip (λ (b c : Box). c ≡ b) bs bs
zip_same [] = tt
zip_same (b ∷ bs) = (refl, zip_same bs)

-- the box of the type that has the number
has_number : (f : Box → ℕ) (kind : List ℕ) (bs : List Box) (n : ℕ) → list_any (nat_eq n) (map f (of_kind kind bs)) ≡ true → (b : Box) × IsIn bs b × (bytes_eq kind b.kind ≡ true) × (f b ≡ n)
has_number f kind bs n h =
    let o = whose (λ (b c : Box). c ≡ b) f kind bs (of_kind kind bs) n (zip_same (of_kind kind bs)) h in
    (o.b, o.among, o.is_kind, sym (ap f o.goes) ∙ o.number)

-- ---- where a box stands

-- a box that is not new has the type, and a number that is taken
not_new : (kind other : List ℕ) (taken : Bool) → not (bytes_eq kind other && taken) ≡ false → (bytes_eq kind other ≡ true) × (taken ≡ true)
not_new kind other taken e = and_is_true (bytes_eq kind other) taken (not_is_false (bytes_eq kind other && taken) e)

-- a `trex` has an ID that one before it has
trex_stands : (n : ℕ) (ids : List ℕ) (outer : Box) (before : List Box) (b : Box) (f : Fault) → IsReached n ids (ruled rules.MovieExtends) outer before b → bytes_eq (codes "trex") b.kind ≡ true
    → leaf_fault trex b ≡ None → list_any (nat_eq (id_in trex 2 b)) (map (id_in trex 2) (of_kind (codes "trex") before)) ≡ true → f ≡ fault_of BadValue b → IsTakenId (place_of (ruled rules.MovieExtends) outer) trex 2 f
trex_stands n ids outer before b f r k none taken named =
    let place = place_of (ruled rules.MovieExtends) outer in
    let o = has_number (id_in trex 2) (codes "trex") before (id_in trex 2 b) taken in
    let earlier = o.0 in
    let i = o.1 in
    let parts = neither_fails (leaf_fault trex earlier) _ (sym (trex_fault n ids outer i.before earlier o.2) ∙ passed_before n ids (ruled rules.MovieExtends) outer before b earlier r i) in
    let q = stands_before outer r.boxes before r.after b earlier r.tiles r.is i in
    record {
      place = place;
      before = before;
      b = b;
      stands = here place before b r.stands;
      leaf_is = rw k refl;
      readable = (leaf_sound trex b none).readable;
      earlier_place = place;
      earlier_before = q.before;
      earlier = earlier;
      earlier_stands = here place q.before earlier q.stands;
      earlier_leaf_is = rw o.2 refl;
      earlier_readable = (leaf_sound trex earlier parts.0).readable;
      order = omega (arith, q.order, q.header);
      same_id = sym o.3;
      named = named;
    }

-- a box that passes as a leaf fails where it stands
place_stands : (n : ℕ) (ids : List ℕ) (scope : Scope) (outer : Box) (before : List Box) (b : Box) (f : Fault) → IsReached n ids scope outer before b
    → first_failed (naming b (head_leaf_tests (leaf_of scope b.kind) b)) ≡ None → first_failed (naming b (place_tests scope ids before b)) ≡ Some f → Outcome ids scope outer f
place_stands n ids (ruled rules.Movie) outer before b f r leaf e = elim (failed (not (is_placed rules.Movie b)) None (fault_of ItemLocation b) f e) [
  | inl x ↦
      let k = and_is_true (is_among (kept_kinds rules.Movie) b.kind) (names_item_location b.payload) (not_is_false (is_placed rules.Movie b) x.0) in
      let place = place_of (ruled rules.Movie) outer in
      inl (inr (inr (inr (inr (inr (inr (inr (record { place = place; before = before; b = b; stands = here place before b r.stands; kept = inl (refl, k.0); names = k.1; named = x.1 }))))))))
  | inr y ↦ absurd cc
]
place_stands n ids (ruled rules.Track) outer before b f r leaf e = elim (failed (not (is_placed rules.Track b)) _ (fault_of ItemLocation b) f e) [
  | inl x ↦
      let k = and_is_true (is_among (kept_kinds rules.Track) b.kind) (names_item_location b.payload) (not_is_false (is_placed rules.Track b) x.0) in
      let place = place_of (ruled rules.Track) outer in
      inl (inr (inr (inr (inr (inr (inr (inr (record { place = place; before = before; b = b; stands = here place before b r.stands; kept = inr (refl, k.0); names = k.1; named = x.1 }))))))))
  | inr y ↦ elim (failed (is_new (codes "tkhd") tkhd 4 ids b) None (fault_of BadValue b) f y.1) [
    | inl x ↦
        let k = not_new (codes "tkhd") b.kind (list_any (nat_eq (id_in tkhd 4 b)) ids) x.0 in
        let place = place_of (ruled rules.Track) outer in
        let leaf_is : leaf_of (ruled rules.Track) b.kind ≡ Some tkhd = rw k.0 refl in
        inr (record {
          place = place;
          before = before;
          b = b;
          stands = here place before b r.stands;
          behind = begins (ruled rules.Track) outer before b r.stands;
          leaf_is = leaf_is;
          readable = (leaf_sound tkhd b (passes_leaf (leaf_of (ruled rules.Track) b.kind) tkhd b leaf_is refl leaf)).readable;
          met = k.1;
          named = x.1;
        })
    | inr z ↦ absurd cc
  ]
]
place_stands n ids (ruled rules.MovieExtends) outer before b f r leaf e = elim (failed (is_new (codes "trex") trex 2 (map (id_in trex 2) (of_kind (codes "trex") before)) b) None (fault_of BadValue b) f e) [
  | inl x ↦
      let k = not_new (codes "trex") b.kind (list_any (nat_eq (id_in trex 2 b)) (map (id_in trex 2) (of_kind (codes "trex") before))) x.0 in
      let leaf_is : leaf_of (ruled rules.MovieExtends) b.kind ≡ Some trex = rw k.0 refl in
      inl (inr (inr (inr (inr (inr (inl (trex_stands n ids outer before b f r k.0 (passes_leaf (leaf_of (ruled rules.MovieExtends) b.kind) trex b leaf_is refl leaf) k.1 x.1)))))))
  | inr y ↦ absurd cc
]
place_stands n ids data_entries outer before b f r leaf e = elim (failed (bytes_eq (codes "url ") b.kind) None (fault_of OutsideData b) f e) [
  | inl x ↦
      let place = place_of data_entries outer in
      inl (inr (inr (inr (inr (inr (inr (inl (record { place = place; before = before; b = b; stands = here place before b r.stands; in_dref = refl; foreign = rw x.0 refl; named = x.1 }))))))))
  | inr y ↦ absurd cc
]
place_stands n ids scope outer before b f r leaf e = absurd cc

-- ---- in a box

-- an ID was met in a box of the container
lifted : (ids : List ℕ) (scope inner : Scope) (outer : Box) (before : List Box) (b : Box) (f : Fault) → StandsAfter (as_container scope outer) before b → inside (place_of scope outer) b ≡ Some (place_of inner b)
    → MeetsAmong ids inner b f → MeetsAmong ids scope outer f
lifted ids scope inner outer before b f s i m = record {
  place = m.place;
  before = m.before;
  b = m.b;
  stands = stands_above (place_of scope outer) (place_of inner b) m.place before m.before b m.b s i m.stands;
  behind = omega (arith, begins scope outer before b s, m.behind);
  leaf_is = m.leaf_is;
  readable = m.readable;
  met = m.met;
  named = m.named;
}

-- the ID that was met is that of the `tkhd` of a `trak` before
track_stands : (n : ℕ) (ids : List ℕ) (inner : Scope) (outer : Box) (before : List Box) (b : Box) (f : Fault) → IsReached (suc n) ids (ruled rules.Movie) outer before b → inside (place_of (ruled rules.Movie) outer) b ≡ Some (place_of inner b)
    → MeetsAmong (map track_id_of (of_kind (codes "trak") before)) inner b f → IsTakenId (place_of (ruled rules.Movie) outer) tkhd 4 f
track_stands n ids inner outer before b f r i m =
    let place = place_of (ruled rules.Movie) outer in
    let o = has_number track_id_of (codes "trak") before (id_in tkhd 4 m.b) m.met in
    let trak = o.0 in
    let boxes = boxes_in rules.Track trak in
    let behind = map track_id_of (of_kind (codes "trak") o.1.before) in
    let there_is : inside place trak ≡ Some (place_of (ruled rules.Track) trak) = rw o.2 refl in
    let pass = box_passes (suc n) ids place o.1.before trak (passed_before (suc n) ids (ruled rules.Movie) outer before b trak r o.1) in
    let p = passes n behind (place_of (ruled rules.Track) trak) (passes_inside (inside place trak) (place_of (ruled rules.Track) trak) (fault_within (suc n) behind) there_is pass.within) in
    let holds = children_are rules.Track (box_container trak) boxes p.listed in
    let one = holds_only holds (codes "tkhd") refl in
    let first = first_is (codes "tkhd") boxes one in
    let earlier = first_of (codes "tkhd") boxes in
    let parts = neither_fails (leaf_fault tkhd earlier) _ (first_passes n behind (place_of (ruled rules.Track) trak) boxes p (codes "tkhd") one (taken_fault tkhd 4 behind) (tkhd_fault n behind trak)) in
    let q = stands_before outer r.boxes before r.after b trak r.tiles r.is o.1 in
    let lies = all_in (LiesAt (trak.offset + trak.header) trak.payload) boxes earlier first.0 (tiles_lie trak boxes holds.tiles) in
    record {
      place = m.place;
      before = m.before;
      b = m.b;
      stands = stands_above place (place_of inner b) m.place before m.before b m.b r.stands i m.stands;
      leaf_is = m.leaf_is;
      readable = m.readable;
      earlier_place = place_of (ruled rules.Track) trak;
      earlier_before = first.0.before;
      earlier = earlier;
      earlier_stands = stands_above place (place_of (ruled rules.Track) trak) (place_of (ruled rules.Track) trak) q.before first.0.before trak earlier q.stands there_is
          (here (place_of (ruled rules.Track) trak) first.0.before earlier (stands_of trak boxes first.0.before first.0.after earlier holds.tiles first.0.is));
      earlier_leaf_is = rw first.1 refl;
      earlier_readable = (leaf_sound tkhd earlier parts.0).readable;
      order = omega (arith, q.order, lies.ends, lies.header, m.behind);
      same_id = sym o.3;
      named = m.named;
    }

-- an ID was met in a box: before it in this container, or before this container
met_inside : (n : ℕ) (ids : List ℕ) (scope inner : Scope) (outer : Box) (before : List Box) (b : Box) (f : Fault) → IsReached (suc n) ids scope outer before b → inside (place_of scope outer) b ≡ Some (place_of inner b)
    → MeetsAmong (ids_behind scope ids before) inner b f → Outcome ids scope outer f
met_inside n ids (ruled rules.Movie) inner outer before b f r i m = inl (inr (inr (inr (inr (inl (track_stands n ids inner outer before b f r i m))))))
met_inside n ids scope inner outer before b f r i m = inr (lifted ids scope inner outer before b f r.stands i m)

-- a fault that is named of a container so many deep stands, or an ID was met before
abbrev Stands : ℕ → Fault → Type 0
Stands n f = (ids : List ℕ) (scope : Scope) (outer : Box) → fault_within n ids (place_of scope outer) ≡ Some f → Outcome ids scope outer f

-- what is in the box is at fault
inside_stands : (n : ℕ) (ids : List ℕ) (scope : Scope) (outer : Box) (before : List Box) (b : Box) (f : Fault) → Stands n f → IsReached n ids scope outer before b
    → if_container (inside (place_of scope outer) b) (fault_within n (ids_behind scope ids before)) ≡ Some f → Outcome ids scope outer f
inside_stands zero ids scope outer before b f more r e =
    let x = fails_inside (inside (place_of scope outer) b) (fault_within zero (ids_behind scope ids before)) f e in
    let none : ◌≡◌ {A = Option Fault} None (Some f) = x.2 in
    absurd cc
inside_stands (suc n) ids scope outer before b f more r e =
    let place = place_of scope outer in
    let behind = ids_behind scope ids before in
    let x = fails_inside (inside place b) (fault_within (suc n) behind) f e in
    let y = inside_is place x.0 b x.1 in
    let i : inside place b ≡ Some (place_of y.0 b) = x.1 ∙ ap (λ (next : Place). Some next) (sym y.2) in
    elim (more behind y.0 b (ap (fault_within (suc n) behind) y.2 ∙ x.2)) [
      | inl h ↦ inl (head_above place (place_of y.0 b) before b f r.stands i h)
      | inr m ↦ met_inside n ids scope y.0 outer before b f r i m
    ]

-- a box of a container is at fault
box_stands : (n : ℕ) (ids : List ℕ) (scope : Scope) (outer : Box) (before : List Box) (b : Box) (f : Fault) → Stands n f → IsReached n ids scope outer before b → BoxFails n ids (place_of scope outer) before b f → Outcome ids scope outer f
box_stands n ids scope outer before b f more r (inl e) =
    let x = fails_leaf (leaf_of scope b.kind) b f e in
    inl (leaf_here (place_of scope outer) before b x.leaf f r.stands x.is x.no_table (leaf_fails x.leaf b f x.fault))
box_stands n ids scope outer before b f more r (inr (inl e)) = place_stands n ids scope outer before b f r e.0 e.1
box_stands n ids scope outer before b f more r (inr (inr e)) = inside_stands n ids scope outer before b f more r e

-- the same one container further up
place_fails : (n : ℕ) (f : Fault) → Stands n f → Stands (suc n) f
place_fails n f more ids scope outer e = elim (fails n ids (place_of scope outer) f e) [
  | inl listed ↦ inl (list_stands scope outer f listed)
  | inr x ↦
      let first = x.first in
      let tiles = list_tiles scope outer x.boxes x.listed in
      box_stands n ids scope outer first.before first.b f more
      (record { boxes = x.boxes; after = first.after; tiles = tiles; is = first.is; none = first.none; stands = list_has scope outer x.boxes first.before first.after first.b tiles first.is })
      (box_fails n ids (place_of scope outer) first.before first.b f first.fault)
]

-- a fault that is named of a container stands
stands : (n : ℕ) (f : Fault) → Stands n f
stands zero f ids scope outer e = absurd cc
stands (suc n) f ids scope outer e = place_fails n f (stands n f) ids scope outer e

-- The fault of a `moov` that is named stands there.
pub judged_stands : (moov : Box) (f : Fault) → head_or_fault moov ≡ Err f → HeadStands (place_of (ruled rules.Movie) moov) f
judged_stands moov f e = by (fault_within 6 [] (place_of (ruled rules.Movie) moov)) refl
  where
    met_none : (g : Fault) → Outcome [] (ruled rules.Movie) moov g → HeadStands (place_of (ruled rules.Movie) moov) g
    met_none g (inl h) = h
    met_none g (inr m) = let no : ◌≡◌ {A = Bool} false true = m.met in absurd cc

    by : (o : Option Fault) → fault_within 6 [] (place_of (ruled rules.Movie) moov) ≡ o → HeadStands (place_of (ruled rules.Movie) moov) f
    by None g = let h : ◌≡◌ {A = Result MovieTree Fault} (Ok (movie_tree_of moov)) (Err f) = rw g at e in absurd cc
    by (Some x) g =
        let h : ◌≡◌ {A = Result MovieTree Fault} (Err x) (Err f) = rw g at e in
        let same : x ≡ f = cc in
        subst (HeadStands (place_of (ruled rules.Movie) moov)) same (met_none x (stands 6 x [] (ruled rules.Movie) moov g))
