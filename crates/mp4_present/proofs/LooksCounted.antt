-- The looks at tracks for all `moof`s of a file, by what these say and by their bytes.
use Rattle.std.proofs.Common.{◌≡◌, Bool, ℕ, min, ◌+◌, ◌-◌, ◌*◌, ◌≤◌, List, [], ◌∷◌, Some, length, map, inl, inr, refl, sym, ap, subst, ◌∙◌, arith, mul-le-mul_left, mul_comm}
use Rattle.std.proofs.Math.Nat.{le_refl, mul-add}
use Rattle.std.proofs.lemmas.List.{length-map}
use Rattle.std.specs.Prelude.{codes, IsTrue}
use Rattle.mp4_boxes.specs.format.Bytes.{sum_of}
use Rattle.mp4_boxes.specs.format.Box.{Box, file_container}
use Rattle.mp4_boxes.specs.format.Children.{Holds, of_kind}
use Rattle.mp4_boxes.specs.declared.rule.Rule.TheVariants.{File}
use Rattle.mp4_frag.specs.format.Fragments.{FragmentTree}
use Rattle.mp4_frag.specs.format.FragmentRows.{moof_says}
use Rattle.mp4_head.specs.words.Found.{SaysHead}
use Rattle.mp4_head.specs.declared.heads.MovieHead.{MovieHead}
use Rattle.mp4_head.specs.declared.heads.TrackHead.{TrackHead}
use Rattle.mp4_present.specs.format.Denotes.{FileTree, IsFileTree}
use Rattle.mp4_present.specs.words.Movies.{IsWhole}
use Rattle.mp4_present.specs.words.NumbersTold.{LooksFit}
use Rattle.mp4_present.specs.words.Outline.{AreFrom, IsNextFragment}
use Rattle.mp4_present.specs.format.ByBytes.{LooksByBytes}
use Rattle.mp4_present.specs.words.ToOpen.{LooksWithin, boxes_looks, moof_looks, opening_looks}
use Rattle.mp4_present.specs.declared.opening.outline.Outline.{Outline}
use Rattle.mp4_present.specs.declared.reading.TopBox.{TopBox}
use Rattle.mp4_present.proofs.ChecksCounted.{next_left}
use Rattle.mp4_present.proofs.FragmentPass.{whole_file}
use Rattle.mp4_present.proofs.MoofBytes.{taken}
use Rattle.mp4_present.proofs.MoofsPassed.{IsRead}
use Rattle.mp4_present.proofs.Opened.{IsRead as IsMoovRead, its_movie}

-- ---- by what the `moof`s say

-- so many looks were taken, and for each `moof` from a place on no more than it says are left of those for all
abbrev pub LooksLeft : List ℕ → ℕ → ℕ → ℕ → ℕ → Type 0
LooksLeft file at tracks old new =
    (all : List Box) → Holds File (file_container file) all → (boxes : List Box) × (AreFrom file at boxes × (new + tracks * boxes_looks (of_kind (codes "moof") boxes) ≤ old + tracks * boxes_looks (of_kind (codes "moof") all)))

-- before the first one
pub looks_first : (file : List ℕ) (tracks start : ℕ) → LooksLeft file 0 tracks start start
looks_first file tracks start all h = (all, (whole_file file all h, le_refl _))

-- where no further one is checked
pub looks_done : (file : List ℕ) (at tracks old new : ℕ) → LooksLeft file at tracks old new → LooksWithin file tracks old new
looks_done file at tracks old new left all h = let some = (left all h).1.1 in omega (arith, some)

one_more : (tracks trafs rest all old before after : ℕ) → after ≤ before + tracks * trafs → before + tracks * (trafs + rest) ≤ old + all → after + tracks * rest ≤ old + all
one_more tracks trafs rest all old before after check h =
    let sum = mul-add tracks trafs rest in
    omega (arith, check, h, sum)

-- one more was checked, or some of it
pub next_looked : (file : List ℕ) (at : ℕ) (top : TopBox) (all : List Box) (w : IsWhole (length file) top) (boxes : List Box) (a : AreFrom file at boxes) → IsNextFragment file at boxes (Some top)
    → (m : Box) (bytes : List ℕ) (len : ℕ) → IsRead file top m bytes len → (tracks old before after : ℕ) → after ≤ before + tracks * length (moof_says m).trafs
    → before + tracks * boxes_looks (of_kind (codes "moof") boxes) ≤ old + tracks * boxes_looks (of_kind (codes "moof") all)
    → (left : List Box) × (AreFrom file top.header.end left × (after + tracks * boxes_looks (of_kind (codes "moof") left) ≤ old + tracks * boxes_looks (of_kind (codes "moof") all)))
unfolding moof_looks
next_looked file at top all w boxes a next m bytes len r tracks old before after check h =
    let l = next_left file at top w boxes a next m bytes len r in
    let sum = subst (λ (bs : List Box). before + tracks * boxes_looks bs ≤ old + tracks * boxes_looks (of_kind (codes "moof") all)) l.2 h in
    (l.0, (l.1, one_more tracks (length (moof_says m).trafs) (boxes_looks (of_kind (codes "moof") l.0)) (tracks * boxes_looks (of_kind (codes "moof") all)) old before after check sum))

-- ---- by bytes

pub none_looked : (file_length at tracks start : ℕ) → LooksFit file_length at tracks start start
none_looked file_length at tracks start =
    let less : file_length - at ≤ file_length = omega arith in
    omega (arith, mul-le-mul_left tracks less)

pub all_looked : (file_length at tracks old new : ℕ) → LooksFit file_length at tracks old new → 8 * new ≤ 8 * old + tracks * file_length
all_looked file_length at tracks old new h = omega (arith, h)

looks_sum : (tracks left len whole all old before after : ℕ) → left + len ≤ whole → 8 * after ≤ 8 * before + tracks * len → 8 * before + tracks * whole ≤ 8 * old + all → 8 * after + tracks * left ≤ 8 * old + all
looks_sum tracks left len whole all old before after taken check h =
    let each = mul-le-mul_left tracks taken in
    let sum = mul-add tracks left len in
    omega (arith, check, h, each, sum)

module _ (file : List ℕ) (at : ℕ) (top : TopBox) (w : IsWhole (length file) top) (behind : at ≤ top.offset) (m : Box) (bytes : List ℕ) (len : ℕ) (r : IsRead file top m bytes len) where
  -- it was accepted
  pub next_looks : (tracks old before after : ℕ) → 8 * after ≤ 8 * before + tracks * length m.payload → LooksFit (length file) at tracks old before → LooksFit (length file) top.header.end tracks old after
  next_looks tracks old before after check h =
      looks_sum tracks (length file - top.header.end) (length m.payload) (length file - at) (tracks * length file) old before after (taken file at top w behind m bytes len r) check h

  -- it was refused
  pub refused_looks : (tracks old before after : ℕ) → 8 * after ≤ 8 * before + tracks * length m.payload → LooksFit (length file) at tracks old before → 8 * after ≤ 8 * old + tracks * length file
  refused_looks tracks old before after check h =
      let fit = next_looks tracks old before after check h in
      omega (arith, fit)

-- ---- a file whose head was read

each_moof : (moofs : List FragmentTree) → sum_of (λ (t : FragmentTree). moof_looks t.moof) moofs ≡ boxes_looks (map (λ (t : FragmentTree). t.moof) moofs)
each_moof [] = refl
each_moof (t ∷ moofs) = ap (λ (n : ℕ). moof_looks t.moof + n) (each_moof moofs)

-- where there is a track, each is counted once
once : (n before after looks : ℕ) → after ≤ before + min 1 n * looks → after ≤ before + looks
once n before after looks h =
    let few : min 1 n ≤ 1 = omega arith in
    let less : looks * min 1 n ≤ looks * 1 = mul-le-mul_left looks few in
    omega (arith, h, less, mul_comm looks (min 1 n))

module _ (honest : Bool) (file : List ℕ) (o : Outline) (moov : List ℕ) (b : Box) (head : MovieHead) (r : IsMoovRead honest file o moov b) (says : SaysHead b head) (told : IsTrue honest) where
  -- by its boxes
  pub looks_counted : (tree : FileTree) → IsFileTree file tree → (n before after : ℕ) → LooksWithin file (min 1 n) before after → after ≤ before + opening_looks tree
  looks_counted tree is n before after within =
      let moofs : boxes_looks (of_kind (codes "moof") tree.top) ≡ sum_of (λ (t : FragmentTree). moof_looks t.moof) tree.fragments = sym (each_moof tree.fragments ∙ ap boxes_looks is.moofs) in
      once n before after (sum_of (λ (t : FragmentTree). moof_looks t.moof) tree.fragments) (rw moofs at (within tree.top is.top))

  -- by its bytes
  pub looks_open : (before after : ℕ) → 8 * after ≤ 8 * before + min 1 (length head.tracks.items) * length file → LooksByBytes file before after
  looks_open before after h =
      let ids = map (λ (t : TrackHead). t.id) head.tracks.items in
      let has = its_movie honest file o moov b head ids r says refl told in
      let many : length head.tracks.items ≡ length ids = sym (length-map head.tracks.items (λ (t : TrackHead). t.id)) in
      inr (ids, has, subst (λ (n : ℕ). 8 * after ≤ 8 * before + min 1 n * length file) many h)

-- there was no look
pub none_looks : (file : List ℕ) (start : ℕ) → LooksByBytes file start start
none_looks file start = inl refl
