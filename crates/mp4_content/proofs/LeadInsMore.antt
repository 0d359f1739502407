-- To leave out more behind how tracks begin is to leave it out at once.
use Rattle.std.proofs.Common.{◌≡◌, ◌⊎◌, inl, inr, ℕ, suc, Bool, true, false, List, [], ◌∷◌, map, refl, sym, ap, subst, ◌∙◌, arith}
use Rattle.std.specs.List.{AllByRecursion}
use Rattle.mp4_boxes.proofs.Plain.{false_true}
use Rattle.mp4_present.specs.format.Presentation.{Track, Presentation}
use Rattle.mp4_content.specs.format.Reduced.{reduce_track, number_tracks, reduce}
use Rattle.mp4_content.specs.declared.without.Without.{Without}
use Rattle.mp4_content.specs.format.CoveringLaws.{Covers}
use Rattle.mp4_content.specs.format.Timescales.{scaled}
use Rattle.mp4_content.specs.format.TimescalesLaws.{Implies}
use Rattle.mp4_content.specs.format.LeadIns.{says_beginnings, Moment, first_moments, delay, begun, told, waited, kept}
use Rattle.mp4_content.specs.format.LeadInsLaws.{HasTimescales, KeepsMore, SameKeptWithoutMore, SameKeptWithoutBeginnings, KeptIsFixed}
use Rattle.mp4_content.proofs.TimescalesWords.{covers_itself, implied, scales_more}
use Rattle.mp4_content.proofs.LeadInsTracks.{HasTimescale, wait_track, where_some, where_none, waited_is_fixed}
use Rattle.mp4_content.proofs.LeadInsLess as less
use Rattle.mp4_content.proofs.LeadInsDivided.{waited_lowest}

-- ---- timescales stay above 0

begun_have : (tracks : List Track) → AllByRecursion HasTimescale tracks → AllByRecursion HasTimescale (map begun tracks)
begun_have [] h = tt
begun_have (t ∷ tracks) h = (h.0, begun_have tracks h.1)

waits_have : (scale : ℕ) (wait : Moment → ℕ) (tracks : List Track) → AllByRecursion HasTimescale tracks → AllByRecursion HasTimescale (map (wait_track scale wait) tracks)
waits_have scale wait [] h = tt
waits_have scale wait (t ∷ tracks) h = (h.0, waits_have scale wait tracks h.1)

waited_has : (b : Bool) (p : Presentation) → HasTimescales p → HasTimescales (waited b p)
waited_has true p h = by (says_beginnings p) refl
  where
    wait : Moment → ℕ
    wait = delay (first_moments p.movie.timescale p.tracks)

    by : (b : Bool) → says_beginnings p ≡ b → HasTimescales (waited true p)
    by true e = subst HasTimescales (sym (where_some wait p e)) (omega arith, waits_have p.movie.timescale wait p.tracks h.1)
    by false e = subst HasTimescales (sym (where_none wait p e)) (h.0, begun_have p.tracks h.1)
waited_has false p h = h

module _ (words : Without) where
  left_have : (place : ℕ) (tracks : List Track) → AllByRecursion HasTimescale tracks → AllByRecursion HasTimescale (number_tracks (less.m words) place (map (reduce_track (less.m words)) tracks))
  left_have place [] h = tt
  left_have place (t ∷ tracks) h = (h.0, left_have (suc place) tracks h.1)

-- ---- more

waited_again : (b : Bool) (p : Presentation) → HasTimescales p → waited true (waited b p) ≡ waited true p
waited_again true p h = waited_is_fixed p h
waited_again false p h = refl

begin_as_before : (b : Bool) (words : Without) (p : Presentation) → (words.origins ≡ false) ⊎ (b ≡ true) → AllByRecursion (less.BeginsAsBefore words (waited b p).movie.timescale) (waited b p).tracks
begin_as_before true words p h = less.all_from_0 words (told true p).movie.timescale (told true p).tracks
begin_as_before false words p (inl e) = less.all_kept words e p.movie.timescale p.tracks
begin_as_before false words p (inr e) = absurd (false_true e)

module _ (b : Bool) (words l : Without) (p : Presentation) (h : HasTimescales p) (covers : Covers (less.m words) l) (keeps : (words.origins ≡ false) ⊎ (b ≡ true)) where
  abbrev one_left : Presentation
  one_left = reduce (less.m words) (waited b p)

  left_waited : waited true one_left ≡ reduce (less.m words) (waited true p)
  left_waited = less.waited_between words (waited b p) (begin_as_before b words p keeps) ∙ ap (reduce (less.m words)) (waited_again b p h)

  waits_more : (c e : Bool) → Implies c e → scaled e l (waited true (scaled c (less.m words) (waited b p))) ≡ scaled e l (waited true p)
  waits_more false e k = ap (scaled e l) left_waited ∙ scales_more false e (less.m words) l (waited true p) (λ n. absurd (false_true n)) covers
  waits_more true true k =
      let has = waited_has b p h in
      waited_lowest (less.m words) l (implied (less.m words) l covers).0 one_left (has.0, left_have words 1 (waited b p).tracks has.1)
      ∙ ap (scaled true l) left_waited
      ∙ scales_more false true (less.m words) l (waited true p) (λ n. refl) covers
  waits_more true false k = absurd (false_true (k refl))

pub keeps_more : KeepsMore
keeps_more b c true e m l p h with_b with_c covers keeps =
    let same : m ≡ less.m m = λ i. record m { edits = keeps.0 i; timing = keeps.1 i } in
    subst (λ (x : Without). scaled e l (waited true (scaled c x (waited b p))) ≡ scaled e l (waited true p)) (sym same) (waits_more b m l p h (subst (λ (x : Without). Covers x l) same covers) keeps.2 c e with_c)
keeps_more true c false e m l p h with_b with_c covers keeps = absurd (false_true (with_b refl))
keeps_more false c false e m l p h with_b with_c covers keeps = scales_more c e m l p with_c covers

-- ---- what follows

pub same_kept_without_more : SameKeptWithoutMore
same_kept_without_more b c e l m p q h covers same = sym (scales_more c e l m (waited b p) h covers) ∙ ap (scaled e m) same ∙ scales_more c e l m (waited b q) h covers

pub same_kept_without_beginnings : SameKeptWithoutBeginnings
same_kept_without_beginnings c e l m p q has other h covers keeps same =
    let implies : Implies false true = λ n. refl in
    sym (keeps_more false c true e l m p has implies h covers keeps) ∙ ap (kept true e m) same ∙ keeps_more false c true e l m q other implies h covers keeps

pub kept_is_fixed : KeptIsFixed
kept_is_fixed b c l p has keeps = keeps_more b c b c l l p has (λ e. e) (λ e. e) (covers_itself l) keeps
