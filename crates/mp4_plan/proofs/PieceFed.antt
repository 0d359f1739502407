-- A piece that is fed over the `moof`s that its samples are in.
use Rattle.std.proofs.Common.{◌≡◌, ℕ, ◌+◌, ◌<◌, ◌≤◌, Bool, true, false, List, [], ◌∷◌, ◌++◌, length, take, drop, refl, sym, ap, subst, ◌∙◌, append_assoc, length-append, arith}
use Rattle.mp4_content.specs.declared.reduced.Reduction.{Reduction}
use Rattle.mp4_content.specs.words.ComingLess.{ComesLess, less}
use Rattle.mp4_content.proofs.ReducedTaken.{less_append}
use Rattle.std.specs.Prelude.{map}
use Rattle.std.proofs.Math.Seq.{take-add, take-append-add}
use Rattle.std.proofs.lemmas.List.{drop-drop, drop_at, take_at, take-append-le, length-take, length-drop, length-map, map-append}
use Rattle.mp4_tables.specs.declared.sample.SampleAt.{SampleAt}
use Rattle.mp4_head.specs.format.Tree.{TrackTree}
use Rattle.mp4_present.specs.format.Denotes.{FileTree}
use Rattle.mp4_present.specs.words.SamplesComing.{Comes, samples_behind}
use Rattle.mp4_present.specs.words.InHand.{left_in_hand}
use Rattle.mp4_present.specs.words.Movies.{MovieSeen, InHandOf}
use Rattle.mp4_present.specs.words.OpenedMovie.{IsOpenedAs}
use Rattle.mp4_present.specs.declared.walking.in_hand.InHand.{InHand}
use Rattle.mp4_present.specs.declared.walking.in_hand.Place.{Place}
use Rattle.mp4_present.specs.declared.walking.Walk.{Walk}
use Rattle.mp4_plan.specs.words.Ends.{goes_in}
use Rattle.mp4_plan.specs.words.Gathering.{Planning, description_in, gather, piece_from, count_of, more_of, piece_fed, samples_after}
use Rattle.mp4_plan.specs.words.HandsFed.{HandFed, HandNoted}
use Rattle.mp4_plan.specs.words.Stretches.{JoinsOn}
use Rattle.mp4_plan.specs.words.Taken.{row_seen}
use Rattle.mp4_plan.specs.declared.ends.End.{End}
use Rattle.mp4_plan.specs.declared.track_pieces.Stop.{Stop}
use Rattle.mp4_plan.specs.declared.track_pieces.Stop.TheVariants.{Empty, Ended, Full}
use Rattle.mp4_plan.specs.declared.stretches.Stretches.{Stretches}
use Rattle.mp4_plan.specs.declared.noted_rows.Row.{Row}
use Rattle.mp4_plan.proofs.PlannerSteps.{fed_more, after_more, fed_none, after_none, more_of_no, more_of-nil}
use Rattle.mp4_plan.proofs.HandsTaken.{more_with, counted_fed}
use Rattle.mp4_present.proofs.WalkCopied.{kept_before}
use Rattle.mp4_content.proofs.WalksOn.{hand_first, loads_on, loads_none, hand_none}
use Rattle.mp4_plan.proofs.PieceCarried.{LoadsFor, EndsFor}
use Rattle.mp4_plan.proofs.Stretched.{joins_none, joins_then}

-- a piece with one sample more
abbrev with_one : Planning → SampleAt → Planning
with_one p s = record { end = p.end; gathered = gather p.gathered s }

abbrev SameFeed : Planning → List SampleAt → Planning → List SampleAt → Type 0
SameFeed p xs q ys = (piece_fed p xs ≡ piece_fed q ys) × (samples_after p xs ≡ samples_after q ys)

-- where all of the first go in, the others are fed to the piece with them
pub fed_on : (p : Planning) (xs ys : List SampleAt) → samples_after p xs ≡ [] → SameFeed p (xs ++ ys) (piece_fed p xs) ys
fed_on p [] ys e = let same = fed_none p [] (more_of-nil p) in (ap (λ (q : Planning). piece_fed q ys) (sym same), ap (λ (q : Planning). samples_after q ys) (sym same))
fed_on p (x ∷ xs) ys e = by (goes_in p.end (description_in p.gathered (x ∷ [])) x) refl (fed_on (with_one p x) xs ys)
  where
    by : (v : Bool) → goes_in p.end (description_in p.gathered (x ∷ [])) x ≡ v → (samples_after (with_one p x) xs ≡ [] → SameFeed (with_one p x) (xs ++ ys) (piece_fed (with_one p x) xs) ys) → SameFeed p (x ∷ xs ++ ys) (piece_fed p (x ∷ xs)) ys
    by true g more =
        let own = fed_more p (with_one p x) x (x ∷ xs) refl refl g in
        let r = more (after_more p (with_one p x) x (x ∷ xs) refl refl g ∙ e) in (
          sym (fed_more p (with_one p x) x (x ∷ xs ++ ys) refl refl g) ∙ r.0 ∙ ap (λ (q : Planning). piece_fed q ys) own,
          sym (after_more p (with_one p x) x (x ∷ xs ++ ys) refl refl g) ∙ r.1 ∙ ap (λ (q : Planning). samples_after q ys) own,
        )
    by false g more = absurd (some (sym (after_none p (x ∷ xs) (more_of_no p x xs g)) ∙ e))
      where
        some : ◌≡◌ {A = List SampleAt} (x ∷ xs) [] → ⊥
        some z = cc

-- where one of the first does not go in, those behind them make no difference
pub fed_stopped : (p : Planning) (xs ys : List SampleAt) → 0 < length (samples_after p xs) → (piece_fed p (xs ++ ys) ≡ piece_fed p xs) × (samples_after p (xs ++ ys) ≡ samples_after p xs ++ ys)
fed_stopped p [] ys lt = let none = ap (λ (l : List SampleAt). length l) (after_none p [] (more_of-nil p)) in absurd (omega (arith, lt, none))
fed_stopped p (x ∷ xs) ys lt = by (goes_in p.end (description_in p.gathered (x ∷ [])) x) refl (fed_stopped (with_one p x) xs ys)
  where
    by : (v : Bool) → goes_in p.end (description_in p.gathered (x ∷ [])) x ≡ v
        → (0 < length (samples_after (with_one p x) xs) → (piece_fed (with_one p x) (xs ++ ys) ≡ piece_fed (with_one p x) xs) × (samples_after (with_one p x) (xs ++ ys) ≡ samples_after (with_one p x) xs ++ ys))
        → (piece_fed p (x ∷ xs ++ ys) ≡ piece_fed p (x ∷ xs)) × (samples_after p (x ∷ xs ++ ys) ≡ samples_after p (x ∷ xs) ++ ys)
    by true g more =
        let own = after_more p (with_one p x) x (x ∷ xs) refl refl g in
        let r = more (subst (λ (l : List SampleAt). 0 < length l) (sym own) lt) in (
          sym (fed_more p (with_one p x) x (x ∷ xs ++ ys) refl refl g) ∙ r.0 ∙ fed_more p (with_one p x) x (x ∷ xs) refl refl g,
          sym (after_more p (with_one p x) x (x ∷ xs ++ ys) refl refl g) ∙ r.1 ∙ ap (λ (l : List SampleAt). l ++ ys) own,
        )
    by false g more =
        let all = more_of_no p x (xs ++ ys) g in
        let few = more_of_no p x xs g in
        (fed_none p (x ∷ xs ++ ys) all ∙ sym (fed_none p (x ∷ xs) few), after_none p (x ∷ xs ++ ys) all ∙ ap (λ (l : List SampleAt). l ++ ys) (sym (after_none p (x ∷ xs) few)))

-- ---- over a walk

-- A piece has as many of the first samples that were to come as it counts, and the others still come. What goes into it of all is what goes into it further of those.
pub record Feeds (leaving : Reduction) (file : List ℕ) (tree : FileTree) (t : TrackTree) (m : MovieSeen) (w : Walk) (start p : Planning) (samples : List SampleAt) : Type 0 where
  pub few : count_of p.gathered ≤ length samples
  pub comes : ComesLess leaving file tree t m w (drop (count_of p.gathered) samples)
  pub same : SameFeed start samples p (drop (count_of p.gathered) samples)

abbrev pub FeedsOn : Reduction → List ℕ → MovieSeen → Walk → Walk → Planning → Planning → Type 0
FeedsOn leaving file m begun w start p = (tree : FileTree) (t : TrackTree) (samples : List SampleAt) → IsOpenedAs file m tree → ComesLess leaving file tree t m begun samples → Feeds leaving file tree t m w start p samples

-- The piece has all that go into it of the samples that were to come, and the others still come.
abbrev pub HasFed : Reduction → List ℕ → FileTree → TrackTree → MovieSeen → Walk → Planning → Planning → List SampleAt → Type 0
HasFed leaving file tree t m w start p samples = (p ≡ piece_fed start samples) × ComesLess leaving file tree t m w (samples_after start samples)

-- a piece without samples
pub feeds_new : (leaving : Reduction) (file : List ℕ) (m : MovieSeen) (w : Walk) (end : End) (p : Planning) → p ≡ piece_from end → FeedsOn leaving file m w w (piece_from end) p
feeds_new leaving file m w end p is tree t samples o c =
    subst (λ (q : Planning). Feeds leaving file tree t m w (piece_from end) q samples) (sym is) (record { few = omega arith; comes = c; same = (refl, refl) })

-- the samples behind those in hand come behind later ones in hand
pub raw_coming : (file : List ℕ) (m : MovieSeen) (tree : FileTree) (t : TrackTree) (w now : Walk) (place : Place) (rest : List SampleAt) (k : Comes file tree t m w rest) (later : InHand) → InHandOf m (record w { place = place }) later → now ≡ record w { place = place }
    → Comes file tree t m now (left_in_hand later ++ samples_behind tree t k.0 k.1)
raw_coming file m tree t w now place rest k later is_later is =
    subst (λ (w' : Walk). Comes file tree t m w' (left_in_hand later ++ samples_behind tree t k.0 k.1)) (sym is) (k.0, k.1, later, (kept_before file tree t k.0 k.1 w place k.3.0, is_later, refl))

pub fed_coming : (leaving : Reduction) (file : List ℕ) (m : MovieSeen) (tree : FileTree) (t : TrackTree) (w now : Walk) (place : Place) (rest : List SampleAt) (k : ComesLess leaving file tree t m w rest) (later : InHand) → InHandOf m (record w { place = place }) later
    → now ≡ record w { place = place }
    → ComesLess leaving file tree t m now (less leaving (left_in_hand later) ++ less leaving (samples_behind tree t k.comes.0 k.comes.1))
fed_coming leaving file m tree t w now place rest k later is_later is = record {
  samples = left_in_hand later ++ samples_behind tree t k.comes.0 k.comes.1;
  comes = raw_coming file m tree t w now place k.samples k.comes later is_later is;
  is_left = sym (less_append leaving (left_in_hand later) (samples_behind tree t k.comes.0 k.comes.1));
}

-- what is left of those in hand, and of those behind them
pub hand_less : (leaving : Reduction) (file : List ℕ) (m : MovieSeen) (tree : FileTree) (t : TrackTree) (w : Walk) (rest : List SampleAt) (k : ComesLess leaving file tree t m w rest) (hand : InHand) → InHandOf m w hand
    → rest ≡ less leaving (left_in_hand hand) ++ less leaving (samples_behind tree t k.comes.0 k.comes.1)
hand_less leaving file m tree t w rest k hand is_hand =
    k.is_left ∙ ap (less leaving) (hand_first file m tree t w k.samples k.comes hand is_hand) ∙ less_append leaving (left_in_hand hand) (samples_behind tree t k.comes.0 k.comes.1)

pub nothing_left : (leaving : Reduction) (samples : List SampleAt) → less leaving samples ≡ [] → samples ≡ []
nothing_left leaving [] e = refl
nothing_left leaving (s ∷ samples) e = absurd cc

-- behind those that were taken of a list, the others come
later_first : (n n' : ℕ) (samples xs done ys behind : List SampleAt) → drop n samples ≡ xs ++ behind → xs ≡ done ++ ys → n' ≡ n + length done → drop n' samples ≡ ys ++ behind
later_first n n' samples xs done ys behind first whole count =
    ap (λ k. drop k samples) count ∙ sym (drop-drop (length done) n samples) ∙ ap (drop (length done)) (first ∙ ap (λ (l : List SampleAt). l ++ behind) whole ∙ append_assoc done ys behind) ∙ drop_at done (ys ++ behind) (length done) refl

-- they are no more than there are
few_first : (n n' : ℕ) (samples xs done ys behind : List SampleAt) → n ≤ length samples → drop n samples ≡ xs ++ behind → xs ≡ done ++ ys → n' ≡ n + length done → n' ≤ length samples
few_first n n' samples xs done ys behind few first whole count =
    let a = length-drop n samples in
    let b = ap (λ (l : List SampleAt). length l) first in
    let d = ap (λ (l : List SampleAt). length l) whole in
    omega (arith, few, count, a, b, d, length-append xs behind, length-append done ys)

-- the hand was fed, and is empty
pub hand_fed : (leaving : Reduction) (file : List ℕ) (m : MovieSeen) (begun w now : Walk) (room : ℕ) (start p q : Planning) (place : Place) → FeedsOn leaving file m begun w start p → HandFed leaving m w room p q Empty place → now ≡ record w { place = place }
    → FeedsOn leaving file m begun now start q
hand_fed leaving file m begun w now room start p q place on h is tree t samples o c =
    let u = on tree t samples o c in
    let k = u.comes in
    let n = count_of p.gathered in
    let xs = less leaving (left_in_hand h.hand) in
    let behind = less leaving (samples_behind tree t k.comes.0 k.comes.1) in
    let whole = hand_less leaving file m tree t w (drop n samples) k h.hand h.is_hand in
    let f = fed_on p xs behind (sym h.taken.1 ∙ h.taken.2) in
    let rest = later_first n (count_of q.gathered) samples xs h.done (less leaving (left_in_hand h.later)) behind whole h.whole h.count in
    let none : behind ≡ drop (count_of q.gathered) samples = sym (ap (λ (l : List SampleAt). l ++ behind) h.taken.2) ∙ sym rest in
    record {
      few = few_first n (count_of q.gathered) samples xs h.done (less leaving (left_in_hand h.later)) behind u.few whole h.whole h.count;
      comes = subst (λ (l : List SampleAt). ComesLess leaving file tree t m now l) (sym rest) (fed_coming leaving file m tree t w now place (drop n samples) k h.later h.is_later is);
      same = (
        u.same.0 ∙ ap (λ (l : List SampleAt). piece_fed p l) whole ∙ f.0 ∙ (λ i. piece_fed (sym h.taken.0 i) (none i)),
        u.same.1 ∙ ap (λ (l : List SampleAt). samples_after p l) whole ∙ f.1 ∙ (λ i. samples_after (sym h.taken.0 i) (none i)),
      );
    }

-- the piece has ended within the hand
pub hand_ended : (leaving : Reduction) (file : List ℕ) (m : MovieSeen) (begun w now : Walk) (room : ℕ) (start p q : Planning) (place : Place) → FeedsOn leaving file m begun w start p → HandFed leaving m w room p q Ended place → now ≡ record w { place = place }
    → (tree : FileTree) (t : TrackTree) (samples : List SampleAt) → IsOpenedAs file m tree → ComesLess leaving file tree t m begun samples → HasFed leaving file tree t m now start q samples
hand_ended leaving file m begun w now room start p q place on h is tree t samples o c =
    let u = on tree t samples o c in
    let k = u.comes in
    let rest = drop (count_of p.gathered) samples in
    let behind = less leaving (samples_behind tree t k.comes.0 k.comes.1) in
    let whole = hand_less leaving file m tree t w rest k h.hand h.is_hand in
    let f = fed_stopped p (less leaving (left_in_hand h.hand)) behind (subst (λ (l : List SampleAt). 0 < length l) h.taken.1 h.taken.2) in
    let left : less leaving (left_in_hand h.later) ++ behind ≡ samples_after start samples = ap (λ (l : List SampleAt). l ++ behind) h.taken.1 ∙ sym f.1 ∙ ap (λ (l : List SampleAt). samples_after p l) (sym whole) ∙ sym u.same.1 in
    (h.taken.0 ∙ sym f.0 ∙ ap (λ (l : List SampleAt). piece_fed p l) (sym whole) ∙ sym u.same.0, subst (λ (l : List SampleAt). ComesLess leaving file tree t m now l) left (fed_coming leaving file m tree t w now place rest k h.later h.is_later is))

-- there was less room than the piece has samples
pub hand_full : (leaving : Reduction) (file : List ℕ) (m : MovieSeen) (begun w : Walk) (room : ℕ) (start p q : Planning) (place : Place) → FeedsOn leaving file m begun w start p → HandFed leaving m w room p q Full place
    → (tree : FileTree) (t : TrackTree) (samples : List SampleAt) → IsOpenedAs file m tree → ComesLess leaving file tree t m begun samples → count_of p.gathered + room < count_of start.gathered + more_of start samples
hand_full leaving file m begun w room start p q place on h tree t samples o c =
    let u = on tree t samples o c in
    let k = u.comes in
    let rest = drop (count_of p.gathered) samples in
    let xs = less leaving (left_in_hand h.hand) in
    let behind = less leaving (samples_behind tree t k.comes.0 k.comes.1) in
    let whole = ap (more_of p) (hand_less leaving file m tree t w rest k h.hand h.is_hand) in
    let counts = sym (counted_fed start samples) ∙ ap (λ (r : Planning). count_of r.gathered) u.same.0 ∙ counted_fed p rest in
    let full = h.taken in
    omega (arith, counts, whole, more_with p xs behind, full)

-- more was loaded
pub next_fed : (leaving : Reduction) (file : List ℕ) (m : MovieSeen) (begun w next : Walk) (start p : Planning) (hand : InHand) (more : Bool) → FeedsOn leaving file m begun w start p → InHandOf m w hand → less leaving (left_in_hand hand) ≡ [] → LoadsFor file m w next more → more ≡ true
    → FeedsOn leaving file m begun next start p
next_fed leaving file m begun w next start p hand more on is_hand none loads e tree t samples o c =
    let u = on tree t samples o c in
    let k = u.comes in
    record { few = u.few; comes = record { samples = k.samples; comes = loads_on file m tree t w next k.samples k.comes hand is_hand (nothing_left leaving (left_in_hand hand) none) more e (loads tree t k.comes.0 k.comes.1 o k.comes.3.0); is_left = k.is_left }; same = u.same }

-- nothing was loaded
pub none_fed : (leaving : Reduction) (file : List ℕ) (m : MovieSeen) (begun w next : Walk) (start p : Planning) (hand : InHand) (more : Bool) → FeedsOn leaving file m begun w start p → InHandOf m w hand → less leaving (left_in_hand hand) ≡ [] → LoadsFor file m w next more → more ≡ false
    → EndsFor file m w next more → (tree : FileTree) (t : TrackTree) (samples : List SampleAt) → IsOpenedAs file m tree → ComesLess leaving file tree t m begun samples → HasFed leaving file tree t m next start p samples
none_fed leaving file m begun w next start p hand more on is_hand none loads e ends tree t samples o c =
    let u = on tree t samples o c in
    let k = u.comes in
    let rest = drop (count_of p.gathered) samples in
    let empty = nothing_left leaving (left_in_hand hand) none in
    let z : rest ≡ [] = k.is_left ∙ ap (less leaving) (loads_none file m tree t w next k.samples k.comes hand is_hand empty more e (loads tree t k.comes.0 k.comes.1 o k.comes.3.0)) in
    let after : samples_after start samples ≡ [] = u.same.1 ∙ ap (samples_after p) z ∙ after_none p [] (more_of-nil p) in (
      sym (u.same.0 ∙ ap (piece_fed p) z ∙ fed_none p [] (more_of-nil p)),
      subst (λ (l : List SampleAt). ComesLess leaving file tree t m next l) (sym after) (record { samples = []; comes = ends tree t k.comes.0 k.comes.1 o k.comes.3.0 k.comes.2 k.comes.3.1 (hand_none file m tree t w next k.samples k.comes hand is_hand empty) e; is_left = refl }),
    )

-- ---- rows

-- Those that a piece has of the samples that were to come are noted in the first rows.
abbrev pub NotesOn : Reduction → List ℕ → MovieSeen → Walk → Planning → List Row → Type 0
NotesOn leaving file m begun p rows =
    (tree : FileTree) (t : TrackTree) (samples : List SampleAt) → IsOpenedAs file m tree → ComesLess leaving file tree t m begun samples → take (count_of p.gathered) rows ≡ map row_seen (take (count_of p.gathered) samples)

-- nothing is noted yet
pub notes_new : (leaving : Reduction) (file : List ℕ) (m : MovieSeen) (w : Walk) (end : End) (p : Planning) (rows : List Row) → p ≡ piece_from end → NotesOn leaving file m w p rows
notes_new leaving file m w end p rows is tree t samples o c = let none = ap (λ (q : Planning). count_of q.gathered) is in ap (λ n. take n rows) none ∙ sym (ap (λ n. map row_seen (take n samples)) none)

-- what a vector holds whose items were written over, as many as it had
pub written_over : {A : Type 0} (n len : ℕ) (xs items ys : List A) → length xs ≡ length items → len ≡ length items → take n xs ≡ ys → take n (take len (xs ++ drop (length xs) items)) ≡ ys
written_over n len xs items ys same own e = ap (take n) (take_at xs (drop (length xs) items) len (same ∙ sym own)) ∙ e

-- those in hand that were taken are noted behind the others, in a part of the rows
pub hand_noted : (leaving : Reduction) (file : List ℕ) (m : MovieSeen) (begun w : Walk) (room n : ℕ) (start p q : Planning) (stop : Stop) (place : Place) (rows part behind_it : List Row) (told told_after : Stretches) → FeedsOn leaving file m begun w start p → NotesOn leaving file m begun p rows
    → HandNoted leaving m w room p q stop place part told told_after → n ≡ count_of p.gathered → n ≤ length rows → NotesOn leaving file m begun q (take n rows ++ (part ++ behind_it))
hand_noted leaving file m begun w room n start p q stop place rows part behind_it told told_after on noted h is few tree t samples o c =
    let u = on tree t samples o c in
    let k = u.comes in
    let d = h.0.done in
    let behind = less leaving (samples_behind tree t k.comes.0 k.comes.1) in
    let at = h.0.count in
    let first = ap (λ i. drop i samples) is ∙ hand_less leaving file m tree t w (drop (count_of p.gathered) samples) k h.0.hand h.0.is_hand in
    let long : length (take n rows) ≡ n = (let e = length-take n rows in omega (arith, e, few)) in
    let room_for : length d ≤ length part = (let e = ap (λ (l : List Row). length l) h.1 in omega (arith, e, length-take (length d) part, length-map d row_seen)) in
    let in_part : take (count_of q.gathered) (take n rows ++ (part ++ behind_it)) ≡ take n rows ++ map row_seen d =
    (let e : count_of q.gathered ≡ length (take n rows) + length d = omega (arith, at, long, is) in ap (λ i. take i (take n rows ++ (part ++ behind_it))) e ∙ take-append-add (take n rows) (part ++ behind_it) (length d))
    ∙ ap (λ (l : List Row). take n rows ++ l) (take-append-le (length d) part behind_it room_for ∙ h.1) in
    let those : take (count_of q.gathered) samples ≡ take n samples ++ d =
    (let e : count_of q.gathered ≡ n + length d = omega (arith, at, is) in ap (λ i. take i samples) e ∙ take-add n (length d) samples)
    ∙ ap (λ (l : List SampleAt). take n samples ++ l) (ap (take (length d)) (first ∙ ap (λ (l : List SampleAt). l ++ behind) h.0.whole ∙ append_assoc d (less leaving (left_in_hand h.0.later)) behind) ∙ take_at d (less leaving (left_in_hand h.0.later) ++ behind) (length d) refl) in
    in_part ∙ ap (λ (l : List Row). l ++ map row_seen d) (ap (λ i. take i rows) is ∙ noted tree t samples o c ∙ ap (λ i. map row_seen (take i samples)) (sym is)) ∙ sym (map-append row_seen (take n samples) d) ∙ ap (map row_seen) (sym those)

-- ---- where their bytes lie

-- Those that a piece has of the samples that were to come were added to what is kept.
abbrev pub JoinsFor : Reduction → List ℕ → MovieSeen → Walk → Planning → Stretches → Stretches → Type 0
JoinsFor leaving file m begun p told now =
    (tree : FileTree) (t : TrackTree) (samples : List SampleAt) → IsOpenedAs file m tree → ComesLess leaving file tree t m begun samples → JoinsOn told now (take (count_of p.gathered) samples)

-- none yet
pub joins_new : (leaving : Reduction) (file : List ℕ) (m : MovieSeen) (w : Walk) (end : End) (p : Planning) (told : Stretches) → p ≡ piece_from end → JoinsFor leaving file m w p told told
joins_new leaving file m w end p told is tree t samples o c =
    let none : take (count_of p.gathered) samples ≡ [] = ap (λ (q : Planning). take (count_of q.gathered) samples) is in
    subst (λ (l : List SampleAt). JoinsOn told told l) (sym none) (joins_none told)

-- those in hand that were taken were added behind the others
pub hand_joined : (leaving : Reduction) (file : List ℕ) (m : MovieSeen) (begun w : Walk) (room : ℕ) (start p q : Planning) (stop : Stop) (place : Place) (rows : List Row) (told now later : Stretches) → FeedsOn leaving file m begun w start p → JoinsFor leaving file m begun p told now
    → HandNoted leaving m w room p q stop place rows now later → JoinsFor leaving file m begun q told later
hand_joined leaving file m begun w room start p q stop place rows told now later on joined h tree t samples o c =
    let u = on tree t samples o c in
    let k = u.comes in
    let d = h.0.done in
    let n = count_of p.gathered in
    let behind = less leaving (samples_behind tree t k.comes.0 k.comes.1) in
    let first = hand_less leaving file m tree t w (drop n samples) k h.0.hand h.0.is_hand in
    let those : take (count_of q.gathered) samples ≡ take n samples ++ d =
    ap (λ i. take i samples) h.0.count ∙ take-add n (length d) samples
    ∙ ap (λ (l : List SampleAt). take n samples ++ l) (ap (take (length d)) (first ∙ ap (λ (l : List SampleAt). l ++ behind) h.0.whole ∙ append_assoc d (less leaving (left_in_hand h.0.later)) behind) ∙ take_at d (less leaving (left_in_hand h.0.later) ++ behind) (length d) refl) in
    joins_then told now later (take n samples) d (take (count_of q.gathered) samples) (joined tree t samples o c) h.2 those
