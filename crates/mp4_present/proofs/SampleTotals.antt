-- Tracks have no more samples in fragments than the fragments name, where no two tracks have one ID.
use Rattle.std.proofs.Common.{◌≡◌, ℕ, ◌+◌, ◌≤◌, Bool, true, false, eqb, List, [], ◌∷◌, length, map, refl, sym, ap, subst, ◌∙◌, arith}
use Rattle.std.specs.Prelude.{not, nat_eq, ◌||◌}
use Rattle.std.specs.List.{list_any}
use Rattle.std.proofs.lemmas.Bool.{eqb-true, and_parts}
use Rattle.mp4_boxes.specs.format.Bytes.{sum_of}
use Rattle.mp4_boxes.proofs.Plain.{not_is_true}
use Rattle.mp4_frag.specs.format.FragmentSamples.{Part, part_samples, fragment_samples}
use Rattle.mp4_frag.specs.format.Fragments.{FragmentTree}
use Rattle.mp4_head.specs.format.Head.{TrackHead}
use Rattle.mp4_head.specs.format.Tree.{TrackTree, are_distinct, track_head_of, trexes_of}
use Rattle.mp4_head.proofs.Distinct.{map_twice}
use Rattle.mp4_present.specs.format.Denotes.{FileTree, file_parts, presentation_of}
use Rattle.mp4_present.specs.words.Passing.{IsMovieOf, AreBehind}
use Rattle.mp4_present.specs.format.Presentation.{max_samples, sample_total}
use Rattle.mp4_present.specs.format.Stands.{table_total, trafs_total}
use Rattle.mp4_frag.specs.declared.state.TrackState.{TrackState}
use Rattle.mp4_present.proofs.Counts.{parts_total, fragments_total, fragments_length, total_is, with_part}
use Rattle.mp4_present.proofs.PartsOnce.{none}

abbrev id_of : TrackTree → ℕ
id_of t = (track_head_of t).id

or_none : (a b : Bool) → a || b ≡ false → (a ≡ false) × (b ≡ false)
or_none true b e = absurd cc
or_none false b e = (refl, e)

-- a part of no track adds nothing
no_track : (q : Part) (parts : List Part) (tracks : List TrackTree) → list_any (nat_eq q.id) (map id_of tracks) ≡ false → fragments_total (q ∷ parts) tracks ≡ fragments_total parts tracks
no_track q parts [] e = refl
no_track q parts (u ∷ tracks) e =
    let o = or_none (eqb q.id (id_of u)) (list_any (nat_eq q.id) (map id_of tracks)) e in
    let own : length (fragment_samples (id_of u) (q ∷ parts)) ≡ 0 + length (fragment_samples (id_of u) parts) = with_part (id_of u) q parts false o.0 in
    omega (arith, own, no_track q parts tracks o.1)

-- a part adds its samples at most
part_most : (q : Part) (parts : List Part) (tracks : List TrackTree) → are_distinct (map id_of tracks) ≡ true → fragments_total (q ∷ parts) tracks ≤ length (part_samples q) + fragments_total parts tracks
part_most q parts [] d = omega arith
part_most q parts (u ∷ tracks) d = either (eqb q.id (id_of u)) refl (part_most q parts tracks p.1)
  where
    p : (not (list_any (nat_eq (id_of u)) (map id_of tracks)) ≡ true) × (are_distinct (map id_of tracks) ≡ true)
    p = and_parts (not (list_any (nat_eq (id_of u)) (map id_of tracks))) (are_distinct (map id_of tracks)) d

    either : (v : Bool) → eqb q.id (id_of u) ≡ v → fragments_total (q ∷ parts) tracks ≤ length (part_samples q) + fragments_total parts tracks → fragments_total (q ∷ parts) (u ∷ tracks) ≤ length (part_samples q) + fragments_total parts (u ∷ tracks)
    either true e more =
        let same = eqb-true q.id (id_of u) e in
        let others : list_any (nat_eq q.id) (map id_of tracks) ≡ false = subst (λ (n : ℕ). list_any (nat_eq n) (map id_of tracks) ≡ false) (sym same) (not_is_true _ p.0) in
        let own : length (fragment_samples (id_of u) (q ∷ parts)) ≡ length (part_samples q) + length (fragment_samples (id_of u) parts) = with_part (id_of u) q parts true e in
        omega (arith, own, no_track q parts tracks others)
    either false e more =
        let own : length (fragment_samples (id_of u) (q ∷ parts)) ≡ 0 + length (fragment_samples (id_of u) parts) = with_part (id_of u) q parts false e in
        omega (arith, own, more)

pub parts_most : (parts : List Part) (tracks : List TrackTree) → are_distinct (map id_of tracks) ≡ true → fragments_total parts tracks ≤ parts_total parts
parts_most [] tracks d = let e = none tracks in omega (arith, e)
parts_most (q ∷ parts) tracks d = omega (arith, part_most q parts tracks d, parts_most parts tracks d)

-- a file of which all `moof`s were passed has no more samples than the limit allows
pub few_samples : (file : List ℕ) (tree : FileTree) (states : List TrackState) (room : ℕ) → IsMovieOf file tree.movie → AreBehind file tree.movie tree.fragments states room → sample_total (presentation_of file tree) ≤ max_samples
few_samples file tree states room m b =
    let tracks = tree.movie.tracks in
    let distinct : are_distinct (map id_of tracks) ≡ true = sym (ap are_distinct (map_twice track_head_of (λ (x : TrackHead). x.id) tracks)) ∙ m.sound.track_ids in
    let total = total_is file (file_parts tree) tracks m.tree.tracks m.tables_fit in
    let most = parts_most (file_parts tree) tracks distinct in
    let named = fragments_length (trexes_of tree.movie) tree.fragments in
    bound _ (table_total tracks) (fragments_total (file_parts tree) tracks) (parts_total (file_parts tree)) (sum_of (λ (e : FragmentTree). trafs_total e.trafs) tree.fragments) room max_samples total most named b.left
  where
    bound : (all tables fragments parts trafs room most : ℕ) → all ≡ tables + fragments → fragments ≤ parts → parts ≡ trafs → room + (tables + trafs) ≡ most → all ≤ most
    bound all tables fragments parts trafs room most e h f k = omega arith
