-- The looks of the commands, by what opening, planning and writing promise.
use Rattle.std.proofs.Common.{◌≡◌, ℕ, ◌+◌, ◌*◌, ◌≤◌, List, [], ◌∷◌, length, map, inl, refl, sym, ap, subst, ◌∙◌, arith}
use Rattle.std.specs.Prelude.{Bool, Option, Err, IsTrue}
use Rattle.std.specs.List.{AllByRecursion, AllZip, sum_by}
use Rattle.std.proofs.lemmas.List.{length-map}
use Rattle.std.proofs.lemmas.List.Sums.{sum_by-cons}
use Rattle.mp4_boxes.specs.format.Bytes.{sum_of}
use Rattle.mp4_boxes.specs.declared.refusal.Refusal.{Refusal}
use Rattle.mp4_boxes.specs.declared.refusal.Refusal.TheVariants as refusals
use Rattle.mp4_frag.specs.format.Fragments.{Fragment, FragmentTree, IsFragmentTree, fragment_of}
use Rattle.mp4_frag.proofs.SaidSamples.{tree_said}
use Rattle.mp4_head.specs.format.Tree.{TrackTree}
use Rattle.mp4_present.specs.format.Denotes.{FileTree, IsFileTree, Denotes, presentation_of, track_of, file_parts}
use Rattle.mp4_present.specs.format.Presentation.{Presentation, Track, sample_total}
use Rattle.mp4_present.specs.declared.track_info.TrackInfo.{TrackInfo}
use Rattle.mp4_present.specs.words.Movies.{MovieSeen}
use Rattle.mp4_present.specs.words.OpenedMovie.{IsOpenedOwn, IsInfoOf}
use Rattle.mp4_present.specs.words.Opening.{RefusesOpen}
use Rattle.mp4_present.specs.format.ByBytes.{LooksByBytes}
use Rattle.mp4_present.specs.words.ToOpen.{moof_looks, opening_looks}
use Rattle.mp4_present.specs.words.WalkSteps.{IfNoFault}
use Rattle.mp4_present.proofs.One.{denotes_one, file_tree_one}
use Rattle.mp4_present.proofs.ToldTrees.{file_tree_is}
use Rattle.mp4_answers.specs.format.Steps.{FindsWithin, TurnsWithin, place_total}
use Rattle.mp4_plan.specs.format.TurnCount.{most_turns}
use Rattle.mp4_answers.specs.format.CompareHeadline.{FindsBothWithin}
use Rattle.mp4_answers.proofs.RunParts.{denotes_nothing}
use Rattle.mp4_answers.proofs.ShownLines.{denoted}
use Rattle.mp4_answers.proofs.ToldSteps.{told_many, told_total}
use Rattle.mp4_answers.proofs.Alone.{fewer_samples, fewer_tracks}
use Rattle.mp4_answers.specs.words.OpenedTold.{IsOpenedTold}

-- ---- sums

one_place : (f : FragmentTree) → IsFragmentTree f → moof_looks f.moof ≡ length (fragment_of f).trafs
unfolding moof_looks
one_place f h = ap (λ (x : Fragment). length x.trafs) (sym (tree_said f h))

places_sum : (fragments : List FragmentTree) → AllByRecursion IsFragmentTree fragments → sum_of (λ (t : FragmentTree). moof_looks t.moof) fragments ≡ sum_of (λ (f : FragmentTree). length (fragment_of f).trafs) fragments
places_sum [] h = refl
places_sum (f ∷ fragments) h =
    let own = one_place f h.0 in
    let others = places_sum fragments h.1 in
    omega (arith, own, others)

as_many_tracks : (file : List ℕ) (tree : FileTree) → length (presentation_of file tree).tracks ≡ length tree.movie.tracks
as_many_tracks file tree = length-map tree.movie.tracks (track_of file (file_parts tree))

-- opening
opening_is : (file : List ℕ) (p : Presentation) (d : Denotes file p) → opening_looks d.tree ≡ place_total d.tree
opening_is file p d = places_sum d.tree.fragments d.is_tree.fragments

-- the samples that were counted of all tracks
infos_total : (file : List ℕ) (tree : FileTree) (trees : List TrackTree) (infos : List TrackInfo) → AllZip (IsInfoOf file tree) trees infos
    → sum_by (λ (i : TrackInfo). i.samples) infos ≡ sum_of (λ (u : Track). length u.samples) (map (track_of file (file_parts tree)) trees)
infos_total file tree [] [] z = refl
infos_total file tree [] (info ∷ infos) z = absurd z
infos_total file tree (t ∷ trees) [] z = absurd z
infos_total file tree (t ∷ trees) (info ∷ infos) z =
    let kept = sum_by-cons (λ (i : TrackInfo). i.samples) info infos in
    let more = infos_total file tree trees infos z.1 in
    let own = z.0.samples in
    omega (arith, kept, more, own)

infos_length : (file : List ℕ) (tree : FileTree) (trees : List TrackTree) (infos : List TrackInfo) → AllZip (IsInfoOf file tree) trees infos → length infos ≡ length trees
infos_length file tree [] [] z = refl
infos_length file tree [] (info ∷ infos) z = absurd z
infos_length file tree (t ∷ trees) [] z = absurd z
infos_length file tree (t ∷ trees) (info ∷ infos) z = let more = infos_length file tree trees infos z.1 in omega (arith, more)

-- ---- commands

module _ (file : List ℕ) (old new : ℕ) where
  -- as many as opening takes, and no more
  opening_only : ((tree : FileTree) → IsFileTree file tree → new ≤ old + opening_looks tree) → LooksByBytes file old new → FindsWithin file old new
  opening_only said within = record {
    denoted = λ p d. subst (λ n. new ≤ old + n) (opening_is file p d) (said d.tree d.is_tree);
    refused = λ nothing. within;
  }

  -- a file that isn't opened
  pub not_found : (honest : Bool) (reads reads_after : ℕ) (r : Refusal) → IsTrue honest → RefusesOpen honest file reads reads_after r → ((tree : FileTree) → IsFileTree file tree → IfNoFault {A = Unit {0}} (Err r) (new ≤ old + opening_looks tree)) → LooksByBytes file old new
      → FindsWithin file old new
  not_found honest reads reads_after (refusals.Fault f) told refuses said within = record {
    denoted = λ p d. absurd (denotes_nothing file f (refuses told) p d);
    refused = λ nothing. within;
  }
  not_found honest reads reads_after refusals.Memory told refuses said within = opening_only said within
  not_found honest reads reads_after refusals.StoreFailed told refuses said within = opening_only said within
  not_found honest reads reads_after refusals.StoreChanged told refuses said within = opening_only said within
  not_found honest reads reads_after refusals.WriteFailed told refuses said within = opening_only said within
  not_found honest reads reads_after refusals.NoSuchTrack told refuses said within = opening_only said within

  -- a file that is opened
  pub found_within : (m : MovieSeen) (tree : FileTree) → IsOpenedOwn file m tree → new ≤ old + opening_looks tree → FindsWithin file old new
  found_within m tree o said = record {
    denoted = λ p d.
        let same = file_tree_one file tree d.tree (file_tree_is file m tree o) d.is_tree in
        subst (λ n. new ≤ old + n) (ap opening_looks same ∙ opening_is file p d) said;
    refused = λ nothing. absurd (nothing (presentation_of file tree) (denoted file m tree o));
  }

  -- one that isn't, where turns would be allowed
  pub not_turned : FindsWithin file old new → TurnsWithin file old new
  not_turned f = record {
    denoted = λ p d. let own = f.denoted p d in let more = most_turns (sample_total p) (length p.tracks) in omega (arith, own);
    refused = f.refused;
  }

-- ---- the turns of a movie that may be told how long its tracks wait

-- it is opened, planned and written
pub turns_taken : (track : Option ℕ) (b : Bool) (file : List ℕ) (m : MovieSeen) (old behind new : ℕ) → ((tree : FileTree) × IsOpenedTold track b file m tree) → FindsWithin file old behind → new ≤ behind + 2 * most_turns (sum_by (λ (i : TrackInfo). i.samples) m.tracks) (length m.tracks)
    → TurnsWithin file old new
turns_taken track b file m old behind new (tree, o) finds turns = record {
  denoted = λ p d.
      let one = denotes_one file o.whole p o.denotes d in
      let tracks : length m.tracks ≡ length o.p.tracks =
      infos_length file tree tree.movie.tracks m.tracks o.opened.tracks ∙ sym (as_many_tracks file tree) ∙ ap (λ (q : Presentation). length q.tracks) o.says ∙ told_many b o.p in
      let samples : sum_by (λ (i : TrackInfo). i.samples) m.tracks ≡ sample_total o.p =
      infos_total file tree tree.movie.tracks m.tracks o.opened.tracks ∙ ap sample_total o.says ∙ told_total b o.p in
      let few_tracks : length o.p.tracks ≤ length p.tracks = subst (λ (q : Presentation). length o.p.tracks ≤ length q.tracks) one (subst (λ (q : Presentation). length q.tracks ≤ length o.whole.tracks) (sym o.is) (fewer_tracks track o.whole)) in
      let few_samples : sample_total o.p ≤ sample_total p = subst (λ (q : Presentation). sample_total o.p ≤ sample_total q) one (subst (λ (q : Presentation). sample_total q ≤ sample_total o.whole) (sym o.is) (fewer_samples track o.whole)) in
      let own = finds.denoted p d in
      omega (arith, own, turns, tracks, samples, few_tracks, few_samples);
  refused = λ nothing. absurd (nothing o.whole o.denotes);
}

-- a file that is opened, whatever comes then
pub finds_taken : (file : List ℕ) (m : MovieSeen) (old new : ℕ) → ((tree : FileTree) × IsOpenedOwn file m tree) → ((tree : FileTree) → IsFileTree file tree → new ≤ old + opening_looks tree) → FindsWithin file old new
finds_taken file m old new opened opening = found_within file old new m opened.0 opened.1 (opening opened.0 (file_tree_is file m opened.0 opened.1))

-- ---- two files

none_found : (file : List ℕ) (n : ℕ) → FindsWithin file n n
none_found file n = record {
  denoted = λ p d. let rest = place_total d.tree in omega arith;
  refused = λ nothing. inl refl;
}

-- the second was not looked at
pub finds_first : (file other : List ℕ) (old new : ℕ) → FindsWithin file old new → FindsBothWithin file other old new
finds_first file other old new first = record { between = new; first = first; second = none_found other new }

pub finds_both : (file other : List ℕ) (old mid new : ℕ) → FindsWithin file old mid → FindsWithin other mid new → FindsBothWithin file other old new
finds_both file other old mid new first second = record { between = mid; first = first; second = second }
