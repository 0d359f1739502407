-- What boxes say does not depend on where they are said to lie.
use Rattle.std.proofs.Common.{◌≡◌, ℕ, zero, suc, ◌+◌, false, Bool, cond, List, [], length, drop, Option, Result, Ok, Err, refl, ap, ◌∙◌}
use Rattle.std.specs.Prelude.{ℤ, codes, bytes_eq}
use Rattle.mp4_boxes.specs.format.Box.{Box, Header, header_at, box_of, box_and_more, first_boxes}
use Rattle.mp4_boxes.specs.declared.fault.Kind.{Kind}
use Rattle.mp4_tables.specs.format.Groups.{GroupKey}
use Rattle.mp4_frag.specs.format.Fragments.{TrackFragment}
use Rattle.mp4_frag.specs.words.MoofWalks.{MoofWalk, Between, head_if, head_among, run_end, runs_end_held, traf_coming, trafs_coming}
use Rattle.mp4_frag.specs.words.Walks.{Reached, boxes_in, at_first, names, are_named, with_leaf, with_leaves, run_coming, runs_coming, boxes_coming}
use Rattle.mp4_frag.specs.declared.trex.Trex.{Trex}

leaves_by : (trex : Trex) (keys : List GroupKey) (s : Reached) (at to : ℕ) (bytes : List ℕ) (r : Result Header Kind) (f g : Header → List Box) → ((h : Header) (t : Reached) → with_leaves trex keys t (f h) ≡ with_leaves trex keys t (g h))
    → with_leaves trex keys s (box_and_more at bytes r f) ≡ with_leaves trex keys s (box_and_more to bytes r g)
leaves_by trex keys s at to bytes (Ok h) f g e = e h (with_leaf trex keys s (box_of at bytes h))
leaves_by trex keys s at to bytes (Err kind) f g e = refl

leaves_moved : (trex : Trex) (keys : List GroupKey) (s : Reached) (n at to : ℕ) (bytes : List ℕ) → with_leaves trex keys s (first_boxes n at bytes) ≡ with_leaves trex keys s (first_boxes n to bytes)
leaves_moved trex keys s zero at to bytes = refl
leaves_moved trex keys s (suc n) at to bytes =
    leaves_by trex keys s at to bytes (header_at false bytes) (λ h. first_boxes n (at + h.size) (drop h.size bytes)) (λ h. first_boxes n (to + h.size) (drop h.size bytes))
    (λ h t. leaves_moved trex keys t n (at + h.size) (to + h.size) (drop h.size bytes))

names_by : (id : ℕ) (before : Bool) (at to : ℕ) (bytes : List ℕ) (r : Result Header Kind) (f g : Header → List Box) → ((h : Header) (v : Bool) → are_named id v (f h) ≡ are_named id v (g h))
    → are_named id before (box_and_more at bytes r f) ≡ are_named id before (box_and_more to bytes r g)
names_by id before at to bytes (Ok h) f g e = e h (cond (bytes_eq (codes "tfhd") h.kind) (names id (box_of at bytes h).payload) before)
names_by id before at to bytes (Err kind) f g e = refl

names_moved : (id : ℕ) (before : Bool) (n at to : ℕ) (bytes : List ℕ) → are_named id before (first_boxes n at bytes) ≡ are_named id before (first_boxes n to bytes)
names_moved id before zero at to bytes = refl
names_moved id before (suc n) at to bytes =
    names_by id before at to bytes (header_at false bytes) (λ h. first_boxes n (at + h.size) (drop h.size bytes)) (λ h. first_boxes n (to + h.size) (drop h.size bytes))
    (λ h v. names_moved id v n (at + h.size) (to + h.size) (drop h.size bytes))

runs_by : (s : Reached) (at to : ℕ) (bytes : List ℕ) (r : Result Header Kind) (f g : Header → List Box) → ((h : Header) (t : Reached) → runs_coming t (f h) ≡ runs_coming t (g h)) → runs_coming s (box_and_more at bytes r f) ≡ runs_coming s (box_and_more to bytes r g)
runs_by s at to bytes (Ok h) f g e = λ i. cond (bytes_eq (codes "trun") h.kind) (run_coming s (box_of at bytes h).payload (λ t. e h t i)) (e h s i)
runs_by s at to bytes (Err kind) f g e = refl

runs_moved : (s : Reached) (n at to : ℕ) (bytes : List ℕ) → runs_coming s (first_boxes n at bytes) ≡ runs_coming s (first_boxes n to bytes)
runs_moved s zero at to bytes = refl
runs_moved s (suc n) at to bytes =
    runs_by s at to bytes (header_at false bytes) (λ h. first_boxes n (at + h.size) (drop h.size bytes)) (λ h. first_boxes n (to + h.size) (drop h.size bytes))
    (λ h t. runs_moved t n (at + h.size) (to + h.size) (drop h.size bytes))

-- the samples of a `traf`
pub traf_moved : (base : ℤ) (id : ℕ) (trex : Trex) (number dts : ℕ) (keys : List GroupKey) (at to : ℕ) (payload : List ℕ) → boxes_coming base id trex number dts keys (boxes_in at payload) ≡ boxes_coming base id trex number dts keys (boxes_in to payload)
traf_moved base id trex number dts keys at to payload =
    let n = length payload in
    let named = names_moved id false n at to payload in
    let leaves = leaves_moved trex keys (at_first base number dts) n at to payload in
    let runs : runs_coming (with_leaves trex keys (at_first base number dts) (boxes_in at payload)) (boxes_in at payload) ≡ runs_coming (with_leaves trex keys (at_first base number dts) (boxes_in to payload)) (boxes_in to payload) =
    ap (λ (s : Reached). runs_coming s (boxes_in at payload)) leaves ∙ runs_moved (with_leaves trex keys (at_first base number dts) (boxes_in to payload)) n at to payload in
    λ i. cond (named i) (runs i) []

-- what its `tfhd` says
heads_by : (before : Option TrackFragment) (at to : ℕ) (bytes : List ℕ) (r : Result Header Kind) (f g : Header → List Box) → ((h : Header) (o : Option TrackFragment) → head_among o (f h) ≡ head_among o (g h))
    → head_among before (box_and_more at bytes r f) ≡ head_among before (box_and_more to bytes r g)
heads_by before at to bytes (Ok h) f g e = e h (cond (bytes_eq (codes "tfhd") h.kind) (head_if (box_of at bytes h).payload) before)
heads_by before at to bytes (Err kind) f g e = refl

pub head_moved : (before : Option TrackFragment) (n at to : ℕ) (bytes : List ℕ) → head_among before (first_boxes n at bytes) ≡ head_among before (first_boxes n to bytes)
head_moved before zero at to bytes = refl
head_moved before (suc n) at to bytes =
    heads_by before at to bytes (header_at false bytes) (λ h. first_boxes n (at + h.size) (drop h.size bytes)) (λ h. first_boxes n (to + h.size) (drop h.size bytes))
    (λ h o. head_moved o n (at + h.size) (to + h.size) (drop h.size bytes))

-- where its data ends
ends_by : (size : ℕ) (base before : ℤ) (at to : ℕ) (bytes : List ℕ) (r : Result Header Kind) (f g : Header → List Box) → ((h : Header) (end : ℤ) → runs_end_held size base end (f h) ≡ runs_end_held size base end (g h))
    → runs_end_held size base before (box_and_more at bytes r f) ≡ runs_end_held size base before (box_and_more to bytes r g)
ends_by size base before at to bytes (Ok h) f g e = e h (cond (bytes_eq (codes "trun") h.kind) (run_end size base before (box_of at bytes h).payload) before)
ends_by size base before at to bytes (Err kind) f g e = refl

pub end_moved : (size : ℕ) (base before : ℤ) (n at to : ℕ) (bytes : List ℕ) → runs_end_held size base before (first_boxes n at bytes) ≡ runs_end_held size base before (first_boxes n to bytes)
end_moved size base before zero at to bytes = refl
end_moved size base before (suc n) at to bytes =
    ends_by size base before at to bytes (header_at false bytes) (λ h. first_boxes n (at + h.size) (drop h.size bytes)) (λ h. first_boxes n (to + h.size) (drop h.size bytes))
    (λ h end. end_moved size base end n (at + h.size) (to + h.size) (drop h.size bytes))

-- the samples of a `moof`
trafs_by : (w : MoofWalk) (s : Between) (at to : ℕ) (bytes : List ℕ) (r : Result Header Kind) (f g : Header → List Box) → ((h : Header) (t : Between) → trafs_coming w t (f h) ≡ trafs_coming w t (g h))
    → trafs_coming w s (box_and_more at bytes r f) ≡ trafs_coming w s (box_and_more to bytes r g)
trafs_by w s at to bytes (Ok h) f g e = λ i. cond (bytes_eq (codes "traf") h.kind) (traf_coming w s (box_of at bytes h).payload (λ t. e h t i)) (e h s i)
trafs_by w s at to bytes (Err kind) f g e = refl

pub trafs_moved : (w : MoofWalk) (s : Between) (n at to : ℕ) (bytes : List ℕ) → trafs_coming w s (first_boxes n at bytes) ≡ trafs_coming w s (first_boxes n to bytes)
trafs_moved w s zero at to bytes = refl
trafs_moved w s (suc n) at to bytes =
    trafs_by w s at to bytes (header_at false bytes) (λ h. first_boxes n (at + h.size) (drop h.size bytes)) (λ h. first_boxes n (to + h.size) (drop h.size bytes))
    (λ h t. trafs_moved w t n (at + h.size) (to + h.size) (drop h.size bytes))
