-- The samples of each part are those of one track at most.
use Rattle.std.proofs.Common.{◌≡◌, ℕ, ◌+◌, ◌≤◌, ◌==◌, Bool, true, false, eqb, List, [], ◌∷◌, length, refl, sym, subst, arith}
use Rattle.std.specs.List.{AllByRecursion}
use Rattle.std.proofs.lemmas.Bool.Decides.{nat_tests}
use borrow.Author.Tests.{true-eqb}
use Rattle.mp4_frag.specs.format.FragmentSamples.{Part, part_samples}
use Rattle.mp4_frag.proofs.OwnParts.{AreApartIds}
use Rattle.mp4_head.specs.format.Tree.{TrackTree, IsSoundMovie, track_head_of}
use Rattle.mp4_present.specs.format.Denotes.{FileTree}
use Rattle.mp4_present.proofs.Counts.{fragments_total, parts_total, with_part}
use Rattle.mp4_present.proofs.OwnSums.{ids_of, tracks_apart}

differs : (m n : ℕ) (v : Bool) → (n == m) ≡ false → eqb m n ≡ v → v ≡ false
differs m n true d e = let same = true-eqb m n (sym e) in absurd (grind (arith, nat_tests, d, same))
differs m n false d e = refl

-- tracks of other IDs have none of them
no_more : (q : Part) (parts : List Part) (tracks : List TrackTree) → AllByRecursion (λ (other : ℕ). (other == q.id) ≡ false) (ids_of tracks) → fragments_total (q ∷ parts) tracks ≡ fragments_total parts tracks
no_more q parts [] h = refl
no_more q parts (u ∷ tracks) h =
    let other = differs q.id (track_head_of u).id (eqb q.id (track_head_of u).id) h.0 refl in
    omega (arith, with_part (track_head_of u).id q parts false other, no_more q parts tracks h.1)

same_id : (m n : ℕ) (ids : List ℕ) → m ≡ n → AllByRecursion (λ (other : ℕ). (other == n) ≡ false) ids → AllByRecursion (λ (other : ℕ). (other == m) ≡ false) ids
same_id m n ids e h = subst (λ (k : ℕ). AllByRecursion (λ (other : ℕ). (other == k) ≡ false) ids) (sym e) h

-- one more part makes the tracks longer by its samples at most
at_one : (q : Part) (parts : List Part) (u : TrackTree) (tracks : List TrackTree) (v : Bool) → eqb q.id (track_head_of u).id ≡ v → AllByRecursion (λ (other : ℕ). (other == (track_head_of u).id) ≡ false) (ids_of tracks)
    → fragments_total (q ∷ parts) tracks ≤ length (part_samples q) + fragments_total parts tracks → fragments_total (q ∷ parts) (u ∷ tracks) ≤ length (part_samples q) + fragments_total parts (u ∷ tracks)
at_one q parts u tracks true e others more =
    let same = true-eqb q.id (track_head_of u).id (sym e) in
    omega (arith, with_part (track_head_of u).id q parts true e, no_more q parts tracks (same_id q.id (track_head_of u).id (ids_of tracks) same others))
at_one q parts u tracks false e others more = omega (arith, with_part (track_head_of u).id q parts false e, more)

one_more : (q : Part) (parts : List Part) (tracks : List TrackTree) → AreApartIds (ids_of tracks) → fragments_total (q ∷ parts) tracks ≤ length (part_samples q) + fragments_total parts tracks
one_more q parts [] apart = omega arith
one_more q parts (u ∷ tracks) apart = at_one q parts u tracks (eqb q.id (track_head_of u).id) refl apart.0 (one_more q parts tracks apart.1)

pub none : (tracks : List TrackTree) → fragments_total [] tracks ≡ 0
none [] = refl
none (u ∷ tracks) = omega (arith, none tracks)

all_once : (parts : List Part) (tracks : List TrackTree) → AreApartIds (ids_of tracks) → fragments_total parts tracks ≤ parts_total parts
all_once [] tracks apart = omega (arith, none tracks)
all_once (q ∷ parts) tracks apart = omega (arith, one_more q parts tracks apart, all_once parts tracks apart)

pub parts_once : (tree : FileTree) (parts : List Part) → IsSoundMovie tree.movie → fragments_total parts tree.movie.tracks ≤ parts_total parts
parts_once tree parts sound = all_once parts tree.movie.tracks (tracks_apart tree sound)
