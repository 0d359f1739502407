-- A walk that goes on keeps its mark.
use Rattle.std.proofs.Common.{◌≡◌, ℕ, ◌+◌, ◌-◌, ◌<◌, ◌≤◌, ◌⊎◌, inl, inr, refl, sym, ap, subst, ◌∙◌, arith}
use Rattle.std.specs.Prelude.{Option, None, List, [], ◌∷◌, slice_get, length, drop}
use Rattle.mp4_head.specs.format.Tree.{TrackTree}
use Rattle.mp4_present.specs.format.Denotes.{FileTree}
use Rattle.mp4_tables.specs.declared.sample.SampleAt.{SampleAt}
use Rattle.mp4_tables.specs.words.Keys.{keys_seen}
use Rattle.mp4_frag.specs.words.Walks.{samples_in}
use Rattle.mp4_present.specs.words.GoingBack.{HoldsSome}
use Rattle.mp4_present.specs.words.Movies.{MovieSeen, HasSome, IsWalkOf, mark_of, all_in_traf, trex_at}
use Rattle.mp4_present.specs.words.WalkSteps.{steps_to}
use Rattle.mp4_present.specs.declared.walking.in_hand.Place.{Place}
use Rattle.mp4_content.specs.declared.reduced.Reduction.{Reduction}
use Rattle.mp4_present.specs.declared.walking.Mark.{Mark}
use Rattle.mp4_present.specs.declared.walking.Walk.{Walk}
use Rattle.mp4_present.proofs.GoneBack.{hand_of_marked}
use Rattle.mp4_content.specs.words.ComingLess.{ComesLess, less}
use Rattle.mp4_content.specs.words.GoneOn.{ComesMarked, Stays, HasLoaded, WentOn}
use Rattle.mp4_content.proofs.ReducedTaken.{less_length}

-- it stays
pub went_none : (m : MovieSeen) (w : Walk) (steps : ℕ) → WentOn m w w steps steps
went_none m w steps = record { mark = refl; grows = omega arith; ahead = inl (record { track = refl; next = refl; due = refl; left = refl; traf = refl; bytes = refl }) }

holds_moved : (m : MovieSeen) (w : Walk) (p : Place) → HoldsSome m w → HoldsSome m (record w { place = p })
holds_moved m w p h = record { before = h.before; is_before = h.is_before; some = h.some; all = h.all }

pub stays_holding : (m : MovieSeen) (w now : Walk) → Stays w now → HoldsSome m w → HoldsSome m now
stays_holding m w now s h =
    let some = h.some in
    let left = s.left in
    record {
      before = h.before;
      is_before = s.due ∙ h.is_before;
      some = omega (arith, some, left);
      all = λ info at.
          let all = h.all info (ap (slice_get m.tracks) (sym s.track) ∙ at) in
          let same : length (all_in_traf m now info h.before) ≡ length (all_in_traf m w info h.before) =
          λ i. length (samples_in (s.bytes i) (s.traf i).base info.id (trex_at m (s.track i)) (info.samples - h.before.left) h.before.time (keys_seen info.keys)) in
          omega (arith, all, same, left);
    }

module _ (m : MovieSeen) (begun w : Walk) (old mid : ℕ) (h : WentOn m begun w old mid) where
  -- to another place of what is in hand
  pub went_kept : (p : Place) (now : Walk) (after : ℕ) → now ≡ record w { place = p } → after ≡ mid + (steps_to p - steps_to w.place) → WentOn m begun now old after
  went_kept p now after is work =
      let grows = h.grows in
      subst (λ (v : Walk). WentOn m begun v old after) (sym is) (record { mark = h.mark; grows = omega (arith, grows, work); ahead = by h.ahead })
    where
      by : Stays begun w ⊎ HasLoaded m begun w → Stays begun (record w { place = p }) ⊎ HasLoaded m begun (record w { place = p })
      by (inl s) = inl (record { track = s.track; next = s.next; due = s.due; left = s.left; traf = s.traf; bytes = s.bytes })
      by (inr l) = inr (l.0, holds_moved m w p l.1)

  -- it loads a `moof`
  pub went_loaded : (now : Walk) (after : ℕ) → now.mark ≡ w.mark → mid ≤ after → w.next < now.next → HoldsSome m now → WentOn m begun now old after
  went_loaded now after mark more farther holds =
      let grows = h.grows in
      record { mark = mark ∙ h.mark; grows = omega (arith, grows, more); ahead = inr (by h.ahead, holds) }
    where
      by : Stays begun w ⊎ HasLoaded m begun w → begun.next < now.next
      by (inl s) = let same = s.next in omega (arith, same, farther)
      by (inr l) = let first = l.0 in omega (arith, first, farther)

  -- there is none to load
  pub went_ended : (now : Walk) (after : ℕ) → now ≡ w → mid ≤ after → WentOn m begun now old after
  went_ended now after is more =
      let grows = h.grows in
      subst (λ (v : Walk). WentOn m begun v old after) (sym is) (record { mark = h.mark; grows = omega (arith, grows, more); ahead = h.ahead })

-- ---- a walk that marks where it stands

pub marked_is : (w now : Walk) (n : ℕ) → now ≡ record w { mark = mark_of w n } → now.mark ≡ mark_of now n
marked_is w now n is = subst (λ (v : Walk). v.mark ≡ mark_of v n) (sym is) refl

pub marked_ahead : (m : MovieSeen) (begun w now : Walk) (n : ℕ) → now ≡ record w { mark = mark_of w n } → Stays begun w ⊎ HasLoaded m begun w → Stays begun now ⊎ HasLoaded m begun now
marked_ahead m begun w now n is h = subst (λ (v : Walk). Stays begun v ⊎ HasLoaded m begun v) (sym is) (by h)
  where
    by : Stays begun w ⊎ HasLoaded m begun w → Stays begun (record w { mark = mark_of w n }) ⊎ HasLoaded m begun (record w { mark = mark_of w n })
    by (inl s) = inl (record { track = s.track; next = s.next; due = s.due; left = s.left; traf = s.traf; bytes = s.bytes })
    by (inr l) = inr (l.0, record { before = l.1.before; is_before = l.1.is_before; some = l.1.some; all = l.1.all })

pub marked_has : (m : MovieSeen) (w now : Walk) (n : ℕ) → now ≡ record w { mark = mark_of w n } → HasSome m w → HasSome m now
marked_has m w now n is h = subst (λ (v : Walk). HasSome m v) (sym is) (h.0, hand_of_marked m w (mark_of w n) h.0 h.1, h.2)

-- it was before so many samples
pub to_come_is : (w : Walk) (n : ℕ) → w.mark ≡ mark_of w n → w.mark.to_come ≡ n
to_come_is w n e = ap (λ (k : Mark). k.to_come) e

-- what comes is as much, of which as much is left
pub as_many_left : (l : Reduction) (xs ys : List SampleAt) → less l xs ≡ less l ys → length xs ≡ length ys
as_many_left l xs ys e = sym (less_length l xs) ∙ ap (λ (ss : List SampleAt). length ss) e ∙ less_length l ys

-- the next one is there, or nothing is left
pub some_or_none : (l : Reduction) (m : MovieSeen) (w : Walk) (next : Option SampleAt) (left samples : List SampleAt) → left ≡ less l samples → next ≡ slice_get left 0 → ((next ≡ None → ⊥) → HasSome m w) → HasSome m w ⊎ (samples ≡ [])
some_or_none l m w next left [] is e has = inr refl
some_or_none l m w next left (x ∷ xs) is e has = inl (has (λ none. absurd (none_some (sym none ∙ e ∙ ap (λ (ss : List SampleAt). slice_get ss 0) is))))
  where
    none_some : None ≡ slice_get (less l (x ∷ xs)) 0 → ⊥
    none_some q = absurd cc

-- ---- a walk that has noted a piece since its mark

pub comes_marked : (l : Reduction) (file : List ℕ) (tree : FileTree) (t : TrackTree) (m : MovieSeen) (w now : Walk) (count : ℕ) (left : List SampleAt) → IsWalkOf m w → (h : ComesLess l file tree t m w left) → w.mark ≡ mark_of w (length left) → (old new : ℕ) → WentOn m w now old new
    → ComesLess l file tree t m now (drop count left) → (k : ComesMarked l file tree t m now count left) × (k.begun ≡ w)
comes_marked l file tree t m w now count left i h marked old new went comes =
    let long = ap (λ (ss : List SampleAt). length ss) h.is_left ∙ less_length l h.samples in (
      record {
        begun = w;
        samples = h.samples;
        is_left = h.is_left;
        back = record { is_walk = i; mark = went.mark ∙ marked ∙ ap (mark_of w) long; earlier = comes.comes.0; later = comes.comes.1; stands = comes.comes.3.0 };
        from = h.comes;
        comes = comes;
      },
      refl,
    )

-- nothing was noted since
pub still_marked : (l : Reduction) (file : List ℕ) (tree : FileTree) (t : TrackTree) (m : MovieSeen) (w : Walk) (count : ℕ) (left : List SampleAt) → IsWalkOf m w → ComesLess l file tree t m w left
    → w.mark ≡ mark_of w (length left) → count ≡ 0 → (k : ComesMarked l file tree t m w count left) × (k.begun ≡ w)
still_marked l file tree t m w count left i h marked none = comes_marked l file tree t m w w count left i h marked 0 0 (went_none m w 0) (subst (λ n. ComesLess l file tree t m w (drop n left)) (sym none) h)
