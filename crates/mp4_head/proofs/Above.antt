-- A fault in a box stands in the container that the box stands in.
use Rattle.std.proofs.Common.{◌≡◌, ℕ, ◌+◌, inl, inr, Bool, true, false, List, [], ◌∷◌, ◌++◌, drop, Some, sym, subst, ◌∙◌, append_assoc, refl}
use Rattle.std.specs.Prelude.{◌⊎◌, codes, bytes_eq}
use Rattle.mp4_boxes.specs.format.Box.{Box, file_container, size, LieEndToEnd, StandsAfter, Tiles, box_container}
use Rattle.mp4_boxes.specs.format.Layout.{Leaf}
use Rattle.mp4_boxes.specs.format.Places.{Place, whole, ruled, leaf_of, inside, Reaches, StandsIn}
use Rattle.mp4_boxes.specs.format.BoxFaults.{IsChildFault}
use Rattle.mp4_boxes.specs.declared.rule.Rule.{Rule}
use Rattle.mp4_boxes.specs.declared.rule.Rule.TheVariants as rules
use Rattle.mp4_boxes.specs.declared.fault.Fault.{Fault}
use Rattle.mp4_head.specs.format.HeadFaults.{IsTakenId, is_table, HeadStands, HeaderStands, ChildStands, MissingStands, LeafStands}
use Rattle.mp4_head.specs.words.Leaves.{IsFaultOf}
use Rattle.mp4_head.specs.words.Refuses.{place_of}

-- ---- where boxes stand

-- boxes in front of others lie there by themselves
pub lies_front : (is_open : Bool) (at : ℕ) (bytes : List ℕ) (bs cs : List Box) → LieEndToEnd is_open at bytes (bs ++ cs) → LieEndToEnd is_open at bytes bs
lies_front is_open at bytes [] cs l = tt
lies_front is_open at bytes (b ∷ bs) cs l = (l.0, lies_front is_open (at + size b) (drop (size b) bytes) bs cs l.1)

-- a box of a tiled box stands there
pub stands_of : (b : Box) (all passed left : List Box) (child : Box) → Tiles (box_container b) all → all ≡ passed ++ child ∷ left → StandsAfter (box_container b) passed child
stands_of b all passed left child t e =
    let grouped : passed ++ child ∷ left ≡ (passed ++ child ∷ []) ++ left = sym (append_assoc passed (child ∷ []) left) in
    (lies_front false (b.offset + b.header) b.payload (passed ++ child ∷ []) left (subst (λ (bs : List Box). LieEndToEnd false (b.offset + b.header) b.payload bs) (e ∙ grouped) t.front.0), tt)

-- ---- one container further up

reaches_above : (from next place : Place) (before : List Box) (b : Box) → StandsAfter from.container before b → inside from b ≡ Some next → Reaches next place → Reaches from place
reaches_above from next place before b s i r = (b ∷ r.0, (before, s, next, i, r.1))

-- a box that stands in a box stands in the container that the box stands in
pub stands_above : (from next place : Place) (before inner : List Box) (b c : Box) → StandsAfter from.container before b → inside from b ≡ Some next → StandsIn next place inner c → StandsIn from place inner c
stands_above from next place before inner b c s i h = record { reaches = reaches_above from next place before b s i h.reaches; after = h.after }

taken_above : (from next : Place) (before : List Box) (b : Box) (leaf : Leaf) (n : ℕ) (f : Fault) → StandsAfter from.container before b → inside from b ≡ Some next → IsTakenId next leaf n f → IsTakenId from leaf n f
taken_above from next before b leaf n f s i h = record {
  place = h.place;
  before = h.before;
  b = h.b;
  stands = stands_above from next h.place before h.before b h.b s i h.stands;
  leaf_is = h.leaf_is;
  readable = h.readable;
  earlier_place = h.earlier_place;
  earlier_before = h.earlier_before;
  earlier = h.earlier;
  earlier_stands = stands_above from next h.earlier_place before h.earlier_before b h.earlier s i h.earlier_stands;
  earlier_leaf_is = h.earlier_leaf_is;
  earlier_readable = h.earlier_readable;
  order = h.order;
  same_id = h.same_id;
  named = h.named;
}

-- what stands in a box stands in the container that the box stands in
pub head_above : (from next : Place) (before : List Box) (b : Box) (f : Fault) → StandsAfter from.container before b → inside from b ≡ Some next → HeadStands next f → HeadStands from f
head_above from next before b f s i (inl h) = inl (record { place = h.place; reaches = reaches_above from next h.place before b s i h.reaches; fault = h.fault })
head_above from next before b f s i (inr (inl h)) = inr (inl (record { place = h.place; reaches = reaches_above from next h.place before b s i h.reaches; rule = h.rule; under = h.under; fault = h.fault }))
head_above from next before b f s i (inr (inr (inl h))) = inr (inr (inl (record { place = h.place; reaches = reaches_above from next h.place before b s i h.reaches; rule = h.rule; under = h.under; fault = h.fault })))
head_above from next before b f s i (inr (inr (inr (inl h)))) =
    let l = h.fault in
    inr (inr (inr (inl (record { fault = record { place = l.place; before = l.before; b = l.b; stands = stands_above from next l.place before l.before b l.b s i l.stands; leaf = l.leaf; read = l.read; kind = l.kind; fails = l.fails; named = l.named }; no_table = h.no_table }))))
head_above from next before b f s i (inr (inr (inr (inr (inl h))))) = inr (inr (inr (inr (inl (taken_above from next before b _ _ f s i h)))))
head_above from next before b f s i (inr (inr (inr (inr (inr (inl h)))))) = inr (inr (inr (inr (inr (inl (taken_above from next before b _ _ f s i h))))))
head_above from next before b f s i (inr (inr (inr (inr (inr (inr (inl h))))))) =
    inr (inr (inr (inr (inr (inr (inl (record { place = h.place; before = h.before; b = h.b; stands = stands_above from next h.place before h.before b h.b s i h.stands; in_dref = h.in_dref; foreign = h.foreign; named = h.named })))))))
head_above from next before b f s i (inr (inr (inr (inr (inr (inr (inr h))))))) =
    inr (inr (inr (inr (inr (inr (inr (record { place = h.place; before = h.before; b = h.b; stands = stands_above from next h.place before h.before b h.b s i h.stands; kept = h.kept; names = h.names; named = h.named })))))))

-- ---- in one container

-- a fault of the list of boxes
pub child_here : (rule : Rule) (b : Box) (f : Fault) → IsChildFault rule (box_container b) f → HeadStands (place_of (ruled rule) b) f
child_here rule b f (inl h) = inl (record { place = place_of (ruled rule) b; reaches = ([], refl); fault = h })
child_here rule b f (inr (inl h)) = inr (inl (record { place = place_of (ruled rule) b; reaches = ([], refl); rule = rule; under = refl; fault = inl h }))
child_here rule b f (inr (inr (inl h))) = inr (inl (record { place = place_of (ruled rule) b; reaches = ([], refl); rule = rule; under = refl; fault = inr h }))
child_here rule b f (inr (inr (inr h))) = inr (inr (inl (record { place = place_of (ruled rule) b; reaches = ([], refl); rule = rule; under = refl; fault = h })))

-- a box stands in this place itself
pub here : (place : Place) (before : List Box) (b : Box) → StandsAfter place.container before b → StandsIn place place before b
here place before b s = record { reaches = ([], refl); after = s }

-- a fault of a leaf
pub leaf_here : (place : Place) (before : List Box) (b : Box) (leaf : Leaf) (f : Fault) → StandsAfter place.container before b → leaf_of place.scope b.kind ≡ Some leaf → is_table leaf ≡ false → IsFaultOf leaf b f → HeadStands place f
leaf_here place before b leaf f s l n h =
    inr (inr (inr (inl (record { fault = record { place = place; before = before; b = b; stands = here place before b s; leaf = leaf; read = l; kind = h.kind; fails = h.fails; named = h.named }; no_table = n }))))

-- ---- with tables

-- what is said apart from tables is said of the whole
pub stands_whole : (from : Place) (f : Fault) → HeadStands from f → HeaderStands from f ⊎ (ChildStands from f ⊎ (MissingStands from f ⊎ LeafStands from f))
stands_whole from f (inl h) = inl h
stands_whole from f (inr (inl h)) = inr (inl h)
stands_whole from f (inr (inr (inl h))) = inr (inr (inl h))
stands_whole from f (inr (inr (inr (inl h)))) = inr (inr (inr (inl h.fault)))
stands_whole from f (inr (inr (inr (inr h)))) = inr (inr (inr (inr h)))

-- what stands in a `moov` stands in the file that the `moov` stands in
pub stands_in_file : (file : List ℕ) (before : List Box) (moov : Box) (f : Fault) → StandsAfter (file_container file) before moov → bytes_eq (codes "moov") moov.kind ≡ true → HeadStands (place_of (ruled rules.Movie) moov) f
    → HeaderStands (whole file) f ⊎ (ChildStands (whole file) f ⊎ (MissingStands (whole file) f ⊎ LeafStands (whole file) f))
stands_in_file file before moov f s k h = stands_whole (whole file) f (head_above (whole file) (place_of (ruled rules.Movie) moov) before moov f s (rw k refl) h)
