-- The `traf`s of a `moof` that have samples of a track: whose samples they are, where they stand, and what walks over them cost.
use Rattle.std.proofs.Common.{◌≡◌, ℕ, suc, ◌+◌, ◌≤◌, ◌==◌, ◌&&◌, Bool, true, false, cond, List, [], ◌∷◌, ◌++◌, length, map, refl, sym, ap, ◌∙◌, rules, arith}
use Rattle.std.specs.Prelude.{ℤ, pos, filter, flat_map, codes, bytes_eq, ⊤}
use Rattle.std.specs.List.{AllByRecursion, Contains}
use Rattle.std.proofs.lemmas.Bool.{and_parts, eqb-true}
use Rattle.std.proofs.lemmas.Bool.Decides.{nat_tests}
use Rattle.mp4_boxes.specs.format.Bytes.{sum_of}
use Rattle.mp4_boxes.specs.format.Box.{Box, size, sizes}
use Rattle.mp4_boxes.specs.format.Children.{of_kind}
use Rattle.mp4_boxes.specs.declared.rule.Rule.TheVariants as rules
use Rattle.mp4_boxes.proofs.Each.{each_kept, each_weaker}
use Rattle.mp4_boxes.proofs.Tiling.{sizes_fit}
use Rattle.mp4_tables.specs.format.PlainSamples.{PlacedSample}
use Rattle.mp4_frag.specs.format.Fragments.{FragmentTree, IsFragmentTree, AreTrafs, fragment_of, track_fragment_of}
use Rattle.mp4_frag.specs.format.FragmentRows.{traf_rows, traf_length, fragment_rows, fragment_length}
use Rattle.mp4_frag.specs.format.FragmentSamples.{Part, parts_after, parts_of, parts_for, part_samples, has_samples, fragment_samples}
use Rattle.mp4_frag.specs.words.Judged.{part_with, end_with}
use Rattle.mp4_frag.specs.words.OwnTrafs.{PlacedTraf, trex_by, placed_after, placed_in, is_own, own_in, placed_samples, payload_length, traf_payloads, longest_of, traf_steps}
use Rattle.mp4_frag.specs.words.RunsJudged.{children_of}
use Rattle.mp4_frag.specs.declared.trex.Trex.{Trex}
use Rattle.mp4_frag.proofs.HeadsFound.{holds_children}
use Rattle.mp4_frag.proofs.OwnNoted.{not_own}
use Rattle.mp4_frag.proofs.OwnTied.{one_among}

-- ---- their samples

parts_placed : (trexes : List Trex) (moof : ℕ) (before : ℤ) (trafs : List Box) (lists : List (List Box)) → AreTrafs trafs lists → map (λ (p : PlacedTraf). p.part) (placed_after trexes moof before trafs lists) ≡ parts_after trexes moof before (map track_fragment_of lists)
parts_placed trexes moof before [] [] zip = refl
parts_placed trexes moof before [] (boxes ∷ lists) zip = absurd zip
parts_placed trexes moof before (b ∷ trafs) [] zip = absurd zip
parts_placed trexes moof before (b ∷ trafs) (boxes ∷ lists) zip =
    let trex = trex_by trexes boxes in
    ap (λ (ps : List Part). part_with moof before trex (track_fragment_of boxes) ∷ ps) (parts_placed trexes moof (end_with moof before trex (track_fragment_of boxes)) trafs lists zip.1)

-- the parts of a `moof` are what its `traf`s say
pub placed_parts : (trexes : List Trex) (t : FragmentTree) → IsFragmentTree t → map (λ (p : PlacedTraf). p.part) (placed_in trexes t) ≡ parts_of trexes (fragment_of t)
placed_parts trexes t tree = parts_placed trexes t.moof.offset (pos t.moof.offset) (of_kind (codes "traf") t.children) t.trafs tree.trafs

none_there : (part : Part) → has_samples part ≡ false → part_samples part ≡ []
none_there part e = choice (part_samples part) (let le : length (part_samples part) ≤ 0 = search (rules, e) in le)
  where
    choice : (samples : List PlacedSample) → length samples ≤ 0 → samples ≡ []
    choice [] le = refl
    choice (s ∷ samples) le = absurd (omega arith)

-- those of a track, but for the ones without samples
own_or_none : (id : ℕ) (p : PlacedTraf) (placed : List PlacedTraf) (parts : List Part) (v w : Bool) → has_samples p.part ≡ w → placed_samples placed ≡ flat_map part_samples parts
    → placed_samples (cond (v && w) (p ∷ placed) placed) ≡ flat_map part_samples (cond v (p.part ∷ parts) parts)
own_or_none id p placed parts true true e h = ap (λ (ss : List PlacedSample). part_samples p.part ++ ss) h
own_or_none id p placed parts true false e h = let none = none_there p.part e in h ∙ ap (λ (ss : List PlacedSample). ss ++ flat_map part_samples parts) (sym none)
own_or_none id p placed parts false w e h = h

own_samples : (id : ℕ) (placed : List PlacedTraf) → placed_samples (filter (is_own id) placed) ≡ fragment_samples id (map (λ (p : PlacedTraf). p.part) placed)
own_samples id [] = refl
own_samples id (p ∷ placed) = own_or_none id p (filter (is_own id) placed) (parts_for id (map (λ (q : PlacedTraf). q.part) placed)) (p.part.id == id) (has_samples p.part) refl (own_samples id placed)

-- the samples of a track in a `moof` are those of its own `traf`s
pub own_samples_in : (trexes : List Trex) (id : ℕ) (t : FragmentTree) → IsFragmentTree t → placed_samples (own_in trexes id t) ≡ fragment_samples id (parts_of trexes (fragment_of t))
own_samples_in trexes id t tree = own_samples id (placed_in trexes t) ∙ ap (fragment_samples id) (placed_parts trexes t tree)

-- ---- where they stand

later_among : {A : Type 0} (x y : A) (xs : List A) → Contains xs y → Contains (x ∷ xs) y
later_among x y xs c = (suc c.0, (let lt = c.1 in omega arith), c.2)

each_among : (trexes : List Trex) (moof : ℕ) (before : ℤ) (trafs : List Box) (lists : List (List Box)) → AllByRecursion (λ (p : PlacedTraf). Contains trafs p.traf) (placed_after trexes moof before trafs lists)
each_among trexes moof before [] lists = tt
each_among trexes moof before (b ∷ trafs) [] = tt
each_among trexes moof before (b ∷ trafs) (boxes ∷ lists) = (
  (0, omega arith, refl),
  each_weaker (λ (p : PlacedTraf). Contains trafs p.traf) (λ (p : PlacedTraf). Contains (b ∷ trafs) p.traf) (λ p c. later_among b p.traf trafs c) _ (each_among trexes moof (end_with moof before (trex_by trexes boxes) (track_fragment_of boxes)) trafs lists),
)

-- one of a track's own is a `traf` of the `moof`, of that track, and has samples
pub placed_among : (trexes : List Trex) (id : ℕ) (t : FragmentTree) (p : PlacedTraf) → Contains (own_in trexes id t) p → Contains (of_kind (codes "traf") t.children) p.traf × (p.part.id ≡ id) × (has_samples p.part ≡ true)
placed_among trexes id t p among =
    let trafs = of_kind (codes "traf") t.children in
    let all = each_kept (λ (q : PlacedTraf). Contains trafs q.traf) (is_own id) (placed_in trexes t) (each_among trexes t.moof.offset (pos t.moof.offset) trafs t.trafs) in
    let here = one_among (λ (q : PlacedTraf). Contains trafs q.traf × (is_own id q ≡ true)) (own_in trexes id t) p all among in
    let both = and_parts (p.part.id == id) (has_samples p.part) here.1 in
    (here.0, eqb-true p.part.id id both.0, both.1)

-- ---- what walks cost

-- steps over `traf`s
abbrev pub placed_steps : List PlacedTraf → ℕ
placed_steps placed = sum_of (λ (p : PlacedTraf). traf_steps p.traf) placed

one_steps : (b : Box) (boxes : List Box) → boxes ≡ children_of b → traf_steps b ≡ traf_rows (track_fragment_of boxes) + traf_length (track_fragment_of boxes)
unfolding traf_steps
one_steps b boxes e = ap (λ (bs : List Box). traf_rows (track_fragment_of bs) + traf_length (track_fragment_of bs)) (sym e)

all_steps : (trexes : List Trex) (moof : ℕ) (before : ℤ) (trafs : List Box) (lists : List (List Box)) → AreTrafs trafs lists
    → placed_steps (placed_after trexes moof before trafs lists) ≡ sum_of traf_rows (map track_fragment_of lists) + sum_of traf_length (map track_fragment_of lists)
all_steps trexes moof before [] [] zip = refl
all_steps trexes moof before [] (boxes ∷ lists) zip = absurd zip
all_steps trexes moof before (b ∷ trafs) [] zip = absurd zip
all_steps trexes moof before (b ∷ trafs) (boxes ∷ lists) zip =
    let one = one_steps b boxes (holds_children rules.TrackFragment b boxes zip.0) in
    let others = all_steps trexes moof (end_with moof before (trex_by trexes boxes) (track_fragment_of boxes)) trafs lists zip.1 in
    omega (arith, one, others)

-- no two of these are one
abbrev pub AreApartIds : List ℕ → Type 0
AreApartIds [] = ⊤
AreApartIds (id ∷ ids) = AllByRecursion (λ (other : ℕ). (other == id) ≡ false) ids × AreApartIds ids

-- ---- what tracks with different IDs have together

-- where each `traf` weighs something
module _ (w : PlacedTraf → ℕ) where
  -- over those of all tracks with these IDs, each at its own
  abbrev pub weight_of_all : List ℕ → List PlacedTraf → ℕ
  weight_of_all ids placed = sum_of (λ (id : ℕ). sum_of w (filter (is_own id) placed)) ids

  none_weigh : (ids : List ℕ) → weight_of_all ids [] ≡ 0
  none_weigh [] = refl
  none_weigh (id ∷ ids) = omega (arith, none_weigh ids)

  of_others : (q : PlacedTraf) (placed : List PlacedTraf) (ids : List ℕ) → AllByRecursion (λ (id : ℕ). is_own id q ≡ false) ids → weight_of_all ids (q ∷ placed) ≡ weight_of_all ids placed
  of_others q placed [] h = refl
  of_others q placed (id ∷ ids) h =
      let here = ap (sum_of w) (not_own placed q id h.0) in
      let more = of_others q placed ids h.1 in
      omega (arith, here, more)

  others_differ : (q : PlacedTraf) (id : ℕ) (ids : List ℕ) → id ≡ q.part.id → AllByRecursion (λ (other : ℕ). (other == id) ≡ false) ids → AllByRecursion (λ (other : ℕ). is_own other q ≡ false) ids
  others_differ q id [] e h = tt
  others_differ q id (other ∷ ids) e h = (ap (λ v. v && has_samples q.part) (differ q.part.id id other (sym e) h.0), others_differ q id ids e h.1)
    where
      differ : (own id other : ℕ) → own ≡ id → (other == id) ≡ false → (own == other) ≡ false
      differ own id other e n = grind (arith, nat_tests)

  one_more : (q : PlacedTraf) (placed : List PlacedTraf) (id : ℕ) (ids : List ℕ) (v : Bool) → is_own id q ≡ v → AllByRecursion (λ (other : ℕ). (other == id) ≡ false) ids
      → weight_of_all ids (q ∷ placed) ≤ w q + weight_of_all ids placed → weight_of_all (id ∷ ids) (q ∷ placed) ≤ w q + weight_of_all (id ∷ ids) placed
  one_more q placed id ids true e apart h =
      let same = eqb-true q.part.id id (and_parts (q.part.id == id) (has_samples q.part) e).0 in
      let others = of_others q placed ids (others_differ q id ids (sym same) apart) in
      let here : sum_of w (filter (is_own id) (q ∷ placed)) ≡ w q + sum_of w (filter (is_own id) placed) = rw e refl in
      omega (arith, here, others)
  one_more q placed id ids false e apart h =
      let here = ap (sum_of w) (not_own placed q id e) in
      omega (arith, here, h)

  with_one : (q : PlacedTraf) (placed : List PlacedTraf) (ids : List ℕ) → AreApartIds ids → weight_of_all ids (q ∷ placed) ≤ w q + weight_of_all ids placed
  with_one q placed [] apart = omega arith
  with_one q placed (id ∷ ids) apart = one_more q placed id ids (is_own id q) refl apart.0 (with_one q placed ids apart.1)

  pub apart_weigh : (placed : List PlacedTraf) (ids : List ℕ) → AreApartIds ids → weight_of_all ids placed ≤ sum_of w placed
  apart_weigh [] ids apart = omega (arith, none_weigh ids)
  apart_weigh (q ∷ placed) ids apart = omega (arith, with_one q placed ids apart, apart_weigh placed ids apart)

-- over the own `traf`s of tracks with different IDs: no more than there are `traf`s, runs, rows of `sbgp` and samples
pub owns_steps : (trexes : List Trex) (ids : List ℕ) (t : FragmentTree) → IsFragmentTree t → AreApartIds ids
    → sum_of (λ (id : ℕ). placed_steps (own_in trexes id t)) ids ≤ fragment_rows (fragment_of t) + fragment_length (fragment_of t)
owns_steps trexes ids t tree apart =
    omega (arith, apart_weigh (λ (p : PlacedTraf). traf_steps p.traf) (placed_in trexes t) ids apart, all_steps trexes t.moof.offset (pos t.moof.offset) (of_kind (codes "traf") t.children) t.trafs tree.trafs)

few_steps : (id : ℕ) (placed : List PlacedTraf) → placed_steps (filter (is_own id) placed) ≤ placed_steps placed
few_steps id [] = omega arith
few_steps id (q ∷ placed) = choice (is_own id q) (few_steps id placed)
  where
    choice : (v : Bool) → placed_steps (filter (is_own id) placed) ≤ placed_steps placed → placed_steps (cond v (q ∷ filter (is_own id) placed) (filter (is_own id) placed)) ≤ traf_steps q.traf + placed_steps placed
    choice true h = omega (arith, h)
    choice false h = omega (arith, h)

-- so over those of one
pub own_steps : (trexes : List Trex) (id : ℕ) (t : FragmentTree) → IsFragmentTree t → placed_steps (own_in trexes id t) ≤ fragment_rows (fragment_of t) + fragment_length (fragment_of t)
own_steps trexes id t tree =
    omega (arith, few_steps id (placed_in trexes t), all_steps trexes t.moof.offset (pos t.moof.offset) (of_kind (codes "traf") t.children) t.trafs tree.trafs)

-- ---- how long they are

payloads_placed : (trexes : List Trex) (moof : ℕ) (before : ℤ) (trafs : List Box) (lists : List (List Box)) → AreTrafs trafs lists → sum_of payload_length (placed_after trexes moof before trafs lists) ≡ sum_of (λ (b : Box). length b.payload) trafs
payloads_placed trexes moof before [] [] zip = refl
payloads_placed trexes moof before [] (boxes ∷ lists) zip = absurd zip
payloads_placed trexes moof before (b ∷ trafs) [] zip = absurd zip
payloads_placed trexes moof before (b ∷ trafs) (boxes ∷ lists) zip = ap (λ n. length b.payload + n) (payloads_placed trexes moof (end_with moof before (trex_by trexes boxes) (track_fragment_of boxes)) trafs lists zip.1)

-- those of tracks with different IDs are together no longer than the `traf`s of the `moof`
pub owns_payloads : (trexes : List Trex) (ids : List ℕ) (t : FragmentTree) → IsFragmentTree t → AreApartIds ids → sum_of (λ (id : ℕ). sum_of payload_length (own_in trexes id t)) ids ≤ traf_payloads t
owns_payloads trexes ids t tree apart =
    omega (arith, apart_weigh payload_length (placed_in trexes t) ids apart, payloads_placed trexes t.moof.offset (pos t.moof.offset) (of_kind (codes "traf") t.children) t.trafs tree.trafs)

-- the longest of some is no longer than all
pub longest_few : (placed : List PlacedTraf) → longest_of placed ≤ sum_of payload_length placed
longest_few [] = omega arith
longest_few (p ∷ placed) = omega (arith, longest_few placed)

payloads_by : (v : Bool) (b : Box) (boxes kept : List Box) → sum_of (λ (x : Box). length x.payload) kept ≤ sizes boxes → sum_of (λ (x : Box). length x.payload) (cond v (b ∷ kept) kept) ≤ size b + sizes boxes
payloads_by true b boxes kept h = omega (arith, h)
payloads_by false b boxes kept h = omega (arith, h)

-- boxes of one type have no more bytes than all of them
pub payloads_kept : (kind : List ℕ) (boxes : List Box) → sum_of (λ (x : Box). length x.payload) (of_kind kind boxes) ≤ sizes boxes
payloads_kept kind [] = omega arith
payloads_kept kind (b ∷ boxes) = payloads_by (bytes_eq kind b.kind) b boxes (of_kind kind boxes) (payloads_kept kind boxes)

-- and the `traf`s of a `moof` are no longer than it
pub trafs_within : (t : FragmentTree) → IsFragmentTree t → traf_payloads t ≤ length t.moof.payload
trafs_within t tree = omega (arith, payloads_kept (codes "traf") t.children, sizes_fit false (t.moof.offset + t.moof.header) t.moof.payload t.children tree.children.tiles.front.0)
