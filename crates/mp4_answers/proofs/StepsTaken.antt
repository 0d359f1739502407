-- The steps of `normalise`, by what its parts promise.
use Rattle.std.proofs.Common.{◌≡◌, inl, inr, ℕ, ◌+◌, ◌*◌, ◌≤◌, max, List, length, Some, refl, sym, ap, subst, ◌∙◌, arith, mul-le-mul_left}
use Rattle.std.specs.Prelude.{Bool, Option, true, false, ◌/◌, ◌||◌, ◌&&◌, not, if◌then◌else◌, Err, IsTrue, slice_get}
use Rattle.mp4_head.specs.format.Tree.{TrackTree}
use Rattle.mp4_boxes.specs.declared.refusal.Refusal.{Refusal}
use Rattle.mp4_boxes.specs.declared.refusal.Refusal.TheVariants as refusals
use Rattle.mp4_present.specs.format.Denotes.{Denotes, FileTree, IsFileTree, presentation_of}
use Rattle.mp4_present.specs.format.Presentation.{Presentation, sample_total}
use Rattle.mp4_present.specs.words.Movies.{MovieSeen}
use Rattle.mp4_present.specs.words.OneTrack.{only_tree}
use Rattle.mp4_present.specs.words.OpenedMovie.{IsOpenedOwn, IsOpenedAs}
use Rattle.mp4_present.specs.words.Opening.{RefusesOpen}
use Rattle.mp4_present.specs.format.ByBytes.{OpensWithin}
use Rattle.mp4_present.specs.words.WalkSteps.{IfNoFault, opening_steps, walk_steps, walks_steps}
use Rattle.mp4_present.proofs.One.{file_tree_one}
use Rattle.mp4_present.proofs.ToldTrees.{file_tree_is}
use Rattle.mp4_content.specs.format.LeadIns.{words_told}
use Rattle.mp4_answers.specs.format.Steps.{StepsByTracks, WorksWithin, WalksWithin, PrintsWithin, more_walks, row_total, steps_each, walked_each}
use Rattle.mp4_answers.specs.words.OpenedTold.{IsOpenedTold, OpensWithinTold, told_steps}
use Rattle.mp4_answers.specs.format.CompareHeadline.{ComparedWithin}
use Rattle.mp4_answers.proofs.RunParts.{denotes_nothing}
use Rattle.mp4_answers.specs.declared.selection.Selection.{Selection}
use Rattle.mp4_answers.proofs.Alone.{fewer_walks, fewer_writes}
use Rattle.mp4_answers.proofs.ShownLines.{denoted}
use Rattle.mp4_content.specs.declared.without.Without.{Without}
use Rattle.mp4_content.specs.words.Measuring.{measures, measuring_steps}
use Rattle.mp4_content.specs.words.Scales.{scaling_steps}
use Rattle.mp4_boxes.proofs.Plain.{and_false}
use Rattle.mp4_plan.specs.words.WriterSteps.{writing_steps}
use Rattle.std.proofs.Math.Nat.{mul-le-mul_right}
use Rattle.mp4_answers.proofs.StepSums.{all_within, each_looks, opened_looks, walked_looks, walks_looks}
use Rattle.mp4_answers.proofs.ToldSteps.{walks_told, writes_told}

-- where first or last samples, or timescales, don't count, and timing does
asks : (ends origins leads timing timescales : Bool) → ((((ends || (origins || leads)) && not timing) || timescales) && not timing) ≡ ((ends || origins || leads || timescales) && not timing)
asks ends origins leads true timescales = and_false ((((ends || (origins || leads)) && false) || timescales)) ∙ sym (and_false (ends || origins || leads || timescales))
asks true origins leads false timescales = refl
asks false true leads false timescales = refl
asks false false true false timescales = refl
asks false false false false timescales = refl

-- the steps for each sample and row
more_is : (u v : Bool) (n : ℕ) → 12 + (if u then 3 else 0) + (if v then 3 else 0) + n ≡ 12 + 3 * ((if u then 1 else 0) + (if v then 1 else 0)) + n
more_is true true n = omega arith
more_is true false n = omega arith
more_is false true n = omega arith
more_is false false n = omega arith

each_is : (l : Without) → 12 + (if l.lead_ins then 3 else 0) + (if l.timescales then 3 else 0) + (if measures (words_told l) then 3 else 0) ≡ steps_each l
each_is l =
    ap (λ (w : Bool). 12 + (if l.lead_ins then 3 else 0) + (if l.timescales then 3 else 0) + (if w then 3 else 0)) (asks l.ends l.origins l.lead_ins l.timing l.timescales)
    ∙ more_is l.lead_ins l.timescales (if (l.ends || l.origins || l.lead_ins || l.timescales) && not l.timing then 3 else 0)

eight_of : (l : Without) (n : ℕ) → 8 * n ≤ steps_each l * n
eight_of l n = mul-le-mul_right n (omega arith)

module _ (file : List ℕ) (old new : ℕ) where
  -- as many as opening takes, and no more
  opening_only : ((tree : FileTree) → IsFileTree file tree → new ≤ old + opening_steps tree) → OpensWithin file old new → WalksWithin file old new
  opening_only work within = record {
    denoted = λ p d. let own = work d.tree d.is_tree in let all = opened_looks file p d in omega (arith, own, all);
    refused = λ nothing. within;
  }

  -- a file that isn't opened
  pub not_looked : (honest : Bool) (reads reads_after : ℕ) (r : Refusal) → IsTrue honest → RefusesOpen honest file reads reads_after r → ((tree : FileTree) → IsFileTree file tree → IfNoFault {A = Unit {0}} (Err r) (new ≤ old + opening_steps tree)) → OpensWithin file old new
      → WalksWithin file old new
  not_looked honest reads reads_after (refusals.Fault f) told refuses work within = record {
    denoted = λ p d. absurd (denotes_nothing file f (refuses told) p d);
    refused = λ nothing. within;
  }
  not_looked honest reads reads_after refusals.Memory told refuses work within = opening_only work within
  not_looked honest reads reads_after refusals.StoreFailed told refuses work within = opening_only work within
  not_looked honest reads reads_after refusals.StoreChanged told refuses work within = opening_only work within
  not_looked honest reads reads_after refusals.WriteFailed told refuses work within = opening_only work within
  not_looked honest reads reads_after refusals.NoSuchTrack told refuses work within = opening_only work within

  -- a file that is opened, and of which no track is walked over
  pub looked_within : (m : MovieSeen) (tree : FileTree) → IsOpenedOwn file m tree → new ≤ old + opening_steps tree → WalksWithin file old new
  looked_within m tree o opening = record {
    denoted = λ p d.
        let same = file_tree_one file tree d.tree (file_tree_is file m tree o) d.is_tree in
        let own = subst (λ (t : FileTree). new ≤ old + opening_steps t) same opening in
        let all = opened_looks file p d in
        omega (arith, own, all);
    refused = λ nothing. absurd (nothing (presentation_of file tree) (denoted file m tree o));
  }

  -- a file that is opened, and of which one track is walked over once
  pub walked_within : (m : MovieSeen) (tree : FileTree) (behind k : ℕ) (t : TrackTree) → IsOpenedOwn file m tree → behind ≤ old + opening_steps tree → slice_get tree.movie.tracks k ≡ Some t → new ≤ behind + walk_steps tree t → WalksWithin file old new
  walked_within m tree behind k t o opening is walk = record {
    denoted = λ p d.
        let same = file_tree_one file tree d.tree (file_tree_is file m tree o) d.is_tree in
        let own = subst (λ (u : FileTree). new ≤ old + (opening_steps u + walk_steps u t)) same (omega (arith, opening, walk)) in
        let all = walked_looks file p d k t (subst (λ (u : FileTree). slice_get u.movie.tracks k ≡ Some t) same is) in
        omega (arith, own, all);
    refused = λ nothing. absurd (nothing (presentation_of file tree) (denoted file m tree o));
  }

-- ---- a file that may be told how long its tracks wait

-- opening it, and a walk to find that, is no more than opening and looking
told_looks : (b : Bool) (file : List ℕ) (p : Presentation) (d : Denotes file p) → told_steps b d.tree ≤ 8 * (sample_total p + row_total d.tree)
told_looks true file p d = walks_looks file p d
told_looks false file p d = let all = opened_looks file p d in omega (arith, all)

-- a file that is opened, but not of the track that is named
pub opening_alone : (b : Bool) (file : List ℕ) (m : MovieSeen) (tree : FileTree) (old new : ℕ) → IsOpenedOwn file m tree → ((t : FileTree) → IsFileTree file t → new ≤ old + opening_steps t) → OpensWithinTold b file old new
opening_alone b file m tree old new o opening = record {
  denoted = λ p d. let own = opening d.tree d.is_tree in omega (arith, own);
  refused = λ nothing. absurd (nothing (presentation_of file tree) (denoted file m tree o));
}

-- a file that isn't told anything, or is, in the steps of opening it
pub opening_told : (file : List ℕ) (m : MovieSeen) (tree : FileTree) (old new : ℕ) → IsOpenedOwn file m tree → ((t : FileTree) → IsFileTree file t → new ≤ old + opening_steps t) → OpensWithinTold false file old new
opening_told = opening_alone false

pub walks_told_within : (only : Option ℕ) (file : List ℕ) (m : MovieSeen) (tree : FileTree) (old behind new : ℕ) → IsOpenedOwn file m tree → ((t : FileTree) → IsFileTree file t → behind ≤ old + opening_steps t) → new ≤ behind + walks_steps (only_tree only tree) → OpensWithinTold true file old new
walks_told_within only file m tree old behind new o opening walks = record {
  denoted = λ p d.
      let same = ap walks_steps (file_tree_one file tree d.tree (file_tree_is file m tree o) d.is_tree) in
      let own = opening d.tree d.is_tree in
      let few = fewer_walks only tree in
      omega (arith, own, walks, same, few);
  refused = λ nothing. absurd (nothing (presentation_of file tree) (denoted file m tree o));
}

-- a bound by bytes, where as many steps more are taken before it
pub opens_later : (file : List ℕ) (old new more : ℕ) → OpensWithin file old new → OpensWithin file (old + more) (new + more)
opens_later file old new more (inl e) = inl (ap (λ n. n + more) e)
opens_later file old new more (inr (ids, has, le)) = inr (ids, has, omega (arith, le))

opened_only : (b : Bool) (file : List ℕ) (old new : ℕ) → ((tree : FileTree) → IsFileTree file tree → new ≤ old + opening_steps tree) → OpensWithin file old new → OpensWithinTold b file old new
opened_only b file old new work within = record {
  denoted = λ p d. let own = work d.tree d.is_tree in omega (arith, own);
  refused = λ nothing. within;
}

-- a file that isn't opened at all
pub not_told : (b : Bool) (file : List ℕ) (old new : ℕ) (honest : Bool) (reads reads_after : ℕ) (r : Refusal) → IsTrue honest → RefusesOpen honest file reads reads_after r → ((tree : FileTree) → IsFileTree file tree → IfNoFault {A = Unit {0}} (Err r) (new ≤ old + opening_steps tree))
    → OpensWithin file old new → OpensWithinTold b file old new
not_told b file old new honest reads reads_after (refusals.Fault f) told refuses work within = record {
  denoted = λ p d. absurd (denotes_nothing file f (refuses told) p d);
  refused = λ nothing. within;
}
not_told b file old new honest reads reads_after refusals.Memory told refuses work within = opened_only b file old new work within
not_told b file old new honest reads reads_after refusals.StoreFailed told refuses work within = opened_only b file old new work within
not_told b file old new honest reads reads_after refusals.StoreChanged told refuses work within = opened_only b file old new work within
not_told b file old new honest reads reads_after refusals.WriteFailed told refuses work within = opened_only b file old new work within
not_told b file old new honest reads reads_after refusals.NoSuchTrack told refuses work within = opened_only b file old new work within

-- the walks over it are no more than over the file's own boxes
pub walks_here : (track : Option ℕ) (b : Bool) (file : List ℕ) (m : MovieSeen) (tree : FileTree) (o : IsOpenedTold track b file m tree) (p : Presentation) (d : Denotes file p) → walks_steps tree ≤ walks_steps d.tree
walks_here track b file m tree o p d =
    let told = walks_told m.waits (only_tree m.only o.denotes.tree) tree o.is_told in
    let few = fewer_walks m.only o.denotes.tree in
    let one = ap walks_steps (file_tree_one file o.denotes.tree d.tree o.denotes.is_tree d.is_tree) in
    omega (arith, told, few, one)

writes_here : (track : Option ℕ) (b : Bool) (file : List ℕ) (m : MovieSeen) (tree : FileTree) (o : IsOpenedTold track b file m tree) (p : Presentation) (d : Denotes file p) → writing_steps tree ≤ writing_steps d.tree
writes_here track b file m tree o p d =
    let told = writes_told m.waits (only_tree m.only o.denotes.tree) tree o.is_told in
    let few = fewer_writes m.only o.denotes.tree in
    let one = ap writing_steps (file_tree_one file o.denotes.tree d.tree o.denotes.is_tree d.is_tree) in
    omega (arith, told, few, one)

-- so many walks are no more either
no_more : (u v : Bool) (a b : ℕ) → a ≤ b → (if u then a else 0) + (if v then a else 0) + a ≤ (if u then b else 0) + (if v then b else 0) + b
no_more true true a b le = omega (arith, le)
no_more true false a b le = omega (arith, le)
no_more false true a b le = omega (arith, le)
no_more false false a b le = omega (arith, le)

-- where it isn't opened, walks over all tracks would be allowed
pub not_opened : (l : Without) (file : List ℕ) (old new : ℕ) → OpensWithinTold l.lead_ins file old new → WorksWithin l file old new
not_opened l file old new h = record {
  few = λ p d.
      let own = h.denoted p d in
      let all = told_looks l.lead_ins file p d in
      let more = eight_of l (sample_total p + row_total d.tree) in
      omega (arith, own, all, more);
  refused = h.refused;
}

-- a movie that is planned and written
pub written_within : (s : Selection) (file : List ℕ) (m : MovieSeen) (old behind new : ℕ) → ((tree : FileTree) × IsOpenedTold s.track s.leaving.lead_ins file m tree) → OpensWithinTold s.leaving.lead_ins file old behind
    → ((tree : FileTree) → IsOpenedAs file m tree → new ≤ behind + (measuring_steps (words_told s.leaving) tree + walks_steps tree + writing_steps tree)) → WorksWithin s.leaving file old new
written_within s file m old behind new (tree, o) opening write = record {
  few = λ p d.
      let ways = walks_here s.track s.leaving.lead_ins file m tree o p d in
      let puts = writes_here s.track s.leaving.lead_ins file m tree o p d in
      let work = write tree o.opened in
      let more = no_more s.leaving.timescales (measures (words_told s.leaving)) (walks_steps tree) (walks_steps d.tree) ways in
      let opened = opening.denoted p d in
      let all = subst (λ k.
      opening_steps d.tree + ((if s.leaving.lead_ins then walks_steps d.tree else 0) + (if s.leaving.timescales then walks_steps d.tree else 0) + (if measures (words_told s.leaving) then walks_steps d.tree else 0) + walks_steps d.tree + writing_steps d.tree) ≤ k *
      (sample_total p + row_total d.tree)) (each_is s.leaving)
      (all_within s.leaving.lead_ins s.leaving.timescales (measures (words_told s.leaving)) file p d) in
      omega (arith, opened, work, more, puts, all);
  refused = λ nothing. absurd (nothing o.whole o.denotes);
}

-- ---- a file that is printed or compared

-- a file that isn't opened
pub looked_alone : (b : Bool) (walks : ℕ) (file : List ℕ) (old new : ℕ) → OpensWithinTold b file old new → ComparedWithin walks file old new
looked_alone b walks file old new h = record {
  denoted = λ p d.
      let own = h.denoted p d in
      let all = told_looks b file p d in
      let more : 8 ≤ walked_each walks = omega arith in
      let most = mul-le-mul_right (sample_total p + row_total d.tree) more in
      omega (arith, own, all, most);
  refused = h.refused;
}

-- one walk more to find how long tracks wait
telling_is : (b : Bool) (n times : ℕ) → (if b then n else 0) + times * n ≡ ((if b then 1 else 0) + times) * n
telling_is true n times = omega arith
telling_is false n times = omega arith

-- a file that is opened, and of which each track is walked over at most as many times as may be
pub often_walked : (track : Option ℕ) (b : Bool) (times : ℕ) (file : List ℕ) (m : MovieSeen) (tree : FileTree) (old behind new : ℕ) → IsOpenedTold track b file m tree → OpensWithinTold b file old behind → new ≤ behind + times * walks_steps tree
    → ComparedWithin ((if b then 1 else 0) + times) file old new
often_walked track b times file m tree old behind new o opening walks = record {
  denoted = λ p d.
      let ways = mul-le-mul_left times (walks_here track b file m tree o p d) in
      let opened = opening.denoted p d in
      let joined = telling_is b (walks_steps d.tree) times in
      let all = each_looks ((if b then 1 else 0) + times) file p d in
      omega (arith, opened, walks, ways, joined, all);
  refused = λ nothing. absurd (nothing o.whole o.denotes);
}

pub looked_prints : (l : Without) (file : List ℕ) (old new : ℕ) → OpensWithinTold l.lead_ins file old new → PrintsWithin l file old new
looked_prints l file old new h = let c = looked_alone l.lead_ins (1 + more_walks l) file old new h in record { denoted = c.denoted; refused = c.refused }

-- what its times are divided by is found in one walk more
printing_is : (u v : Bool) (n : ℕ) → (if v then n else 0) + n ≡ (1 + (if v then 1 else 0)) * n
printing_is u true n = omega arith
printing_is u false n = omega arith

-- it is opened, what its times are divided by is found, and each track is walked over
pub printed_within : (s : Selection) (file : List ℕ) (m : MovieSeen) (tree : FileTree) (old behind mid new : ℕ) → IsOpenedTold s.track s.leaving.lead_ins file m tree → OpensWithinTold s.leaving.lead_ins file old behind → mid ≤ behind + scaling_steps s.leaving tree
    → new ≤ mid + walks_steps tree → PrintsWithin s.leaving file old new
printed_within s file m tree old behind mid new o opening scaled walks =
    let l = s.leaving in
    let joined = printing_is l.lead_ins l.timescales (walks_steps tree) in
    let c = often_walked s.track l.lead_ins (1 + (if l.timescales then 1 else 0)) file m tree old behind new o opening (omega (arith, scaled, walks, joined)) in
    let many : (if l.lead_ins then 1 else 0) + (1 + (if l.timescales then 1 else 0)) ≡ 1 + more_walks l = omega arith in
    record { denoted = λ p d. subst (λ k. new ≤ old + walked_each k * (sample_total p + row_total d.tree)) many (c.denoted p d); refused = c.refused }

-- ---- by the tracks

by_tracks : (u v w : Bool) (n all : ℕ) → 2 * n ≤ all → (12 + 3 * ((if u then 1 else 0) + (if v then 1 else 0)) + (if w then 3 else 0)) * n ≤ (16 + 3 * ((if u then 1 else 0) + (if v then 1 else 0))) / 2 * all
by_tracks true true true n all two = omega (arith, two)
by_tracks true true false n all two = omega (arith, two)
by_tracks true false true n all two = omega (arith, two)
by_tracks true false false n all two = omega (arith, two)
by_tracks false true true n all two = omega (arith, two)
by_tracks false true false n all two = omega (arith, two)
by_tracks false false true n all two = omega (arith, two)
by_tracks false false false n all two = omega (arith, two)

two_of : (k n : ℕ) → 2 * n ≤ (max 1 k + 1) * n
two_of k n = mul-le-mul_right n (omega arith)

pub steps_by_tracks : StepsByTracks
steps_by_tracks l file old new w p d =
    let few = w.few p d in
    let n = sample_total p + row_total d.tree in
    let more = by_tracks l.lead_ins l.timescales ((l.ends || l.origins || l.lead_ins || l.timescales) && not l.timing) n ((max 1 (length p.tracks) + 1) * n) (two_of (length p.tracks) n) in
    omega (arith, few, more)
