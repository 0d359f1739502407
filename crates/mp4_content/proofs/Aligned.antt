-- Tracks that are aligned, one pair after the other.
use Rattle.std.proofs.Common.{◌≡◌, ℕ, ◌+◌, ◌-◌, ◌*◌, ◌≤◌, min, List, [], ◌∷◌, ◌++◌, length, take, drop, Option, Some, refl, sym, ap, subst, ◌∙◌, arith, append_assoc}
use Rattle.std.specs.List.{slice_get}
use Rattle.std.proofs.lemmas.List.{append-nil, take_all, length-drop, length-map}
use Rattle.mp4_boxes.specs.format.Bytes.{sum_of}
use Rattle.mp4_boxes.proofs.Plain.{drop_plus, get_map}
use Rattle.mp4_head.specs.format.Tree.{TrackTree}
use Rattle.mp4_present.specs.format.Denotes.{FileTree, file_parts, presentation_of, track_of}
use Rattle.mp4_present.specs.format.Presentation.{Sample, Track}
use Rattle.mp4_present.specs.words.WalkSteps.{walk_steps, walks_steps}
use Rattle.mp4_content.specs.format.Alignment.{AreAligned, ArePairAligned, BothHave, IsEnd, IsFront, IsPairAligned, between, if_there}
use Rattle.mp4_content.specs.format.Remaining.{divided_samples, remaining_samples, track_divisor}
use Rattle.mp4_content.specs.words.Scales.{AreScales}
use Rattle.mp4_content.specs.declared.comparing.both_scales.BothScales.{BothScales}
use Rattle.mp4_content.specs.declared.comparing.tracks.Divisors.{Divisors}
use Rattle.mp4_content.specs.words.Aligning.{AreEnds}
use Rattle.mp4_content.specs.declared.aligning.Alignment.{Alignment}
use Rattle.mp4_content.specs.declared.common_ends.Ends.{Ends}
use Rattle.mp4_content.specs.declared.without.Without.{Without}
use Rattle.mp4_content.proofs.SamplesReduced.{divided_length}

pub least_left : (l : Without) (d e : ℕ) (t u : Track) (m n most : ℕ) → most ≡ min m n → m ≡ length t.samples → n ≡ length u.samples → most ≡ min (length (divided_samples l d t)) (length (divided_samples l e u))
least_left l d e t u m n most f is is_right =
    let left = is ∙ sym (divided_length l d t) in
    let right = is_right ∙ sym (divided_length l e u) in
    f ∙ (λ i. min (left i) (right i))

-- ---- one pair

module _ (l : Without) (ds : Divisors) (number m n front : ℕ) (t u : Track) (is : m ≡ length t.samples) (is_right : n ≡ length u.samples) (h : IsFront (divided_samples l ds.left t) (divided_samples l ds.right u) front) where
  -- a front of all is all
  pub all_same : m ≡ n → m ≤ front → divided_samples l ds.left t ≡ divided_samples l ds.right u
  all_same e le =
      let left = divided_length l ds.left t in
      let right = divided_length l ds.right u in
      sym (take_all front (divided_samples l ds.left t) (omega (arith, le, left, is))) ∙ h.same ∙ take_all front (divided_samples l ds.right u) (omega (arith, le, right, is_right, e))

  -- what is the same has such a front
  pub not_same : (m ≡ n → m ≤ front → ⊥) → divided_samples l ds.left t ≡ divided_samples l ds.right u → ⊥
  not_same other e =
      let left = divided_length l ds.left t in
      let right = divided_length l ds.right u in
      let as_many = ap (λ (ss : List Sample). length ss) e in
      let longest = h.longest (length (divided_samples l ds.left t)) (omega arith, omega (arith, as_many)) (ap (take (length (divided_samples l ds.left t))) e) in
      other (omega (arith, left, right, as_many, is, is_right)) (omega (arith, longest, left, is))

  -- the front lies within both
  pub both_have : BothHave front t.samples u.samples
  both_have =
      let left = divided_length l ds.left t in
      let right = divided_length l ds.right u in
      let le = h.within.0 in
      let le_right = h.within.1 in
      (omega (arith, le, left), omega (arith, le_right, right))

  -- what stands between is aligned
  pub pair_is : (ends : Ends) (timescale other_timescale : ℕ) (a : Alignment) → (m ≡ n → m ≤ front → ⊥) → AreEnds l ds front t u ends → timescale ≡ t.head.media.timescale → other_timescale ≡ u.head.media.timescale
      → a.track ≡ number → a.front ≡ front → a.end ≡ ends.end → a.left.samples ≡ m - (front + ends.end) → a.left.time ≡ ends.time → a.left.timescale ≡ timescale
      → a.right.samples ≡ n - (front + ends.end) → a.right.time ≡ ends.other_time → a.right.timescale ≡ other_timescale → ArePairAligned number t u (divided_samples l ds.left t) (divided_samples l ds.right u) (Some a)
  pair_is ends timescale other_timescale a some e scale other_scale track in_front at_end samples time in_scale others other_time in_other_scale =
      let left_many = samples ∙ (λ i. is i - (front + ends.end)) ∙ (λ i. length t.samples - (sym in_front i + sym at_end i)) in
      let right_many = others ∙ (λ i. is_right i - (front + ends.end)) ∙ (λ i. length u.samples - (sym in_front i + sym at_end i)) in
      let left_time = time ∙ e.time ∙ (λ i. (between (sym in_front i) a.end t).time) in
      let right_time = other_time ∙ e.other_time ∙ (λ i. (between (sym in_front i) a.end u).time) in
      let left_scale = in_scale ∙ scale in
      let right_scale = in_other_scale ∙ other_scale in (
        not_same some,
        record {
          track = track;
          is_front = subst (λ (k : ℕ). IsFront (divided_samples l ds.left t) (divided_samples l ds.right u) k) (sym in_front) h;
          is_end = subst (λ (k : ℕ). IsEnd (drop k (divided_samples l ds.left t)) (drop k (divided_samples l ds.right u)) a.end) (sym in_front)
              (subst (λ (k : ℕ). IsEnd (drop front (divided_samples l ds.left t)) (drop front (divided_samples l ds.right u)) k) (sym at_end) e.end);
          left = λ i. record { samples = left_many i; time = left_time i; timescale = left_scale i };
          right = λ i. record { samples = right_many i; time = right_time i; timescale = right_scale i };
        },
      )

-- in lowest terms
pub pair_left : (l : Without) (ds : Divisors) (number : ℕ) (t u : Track) (found : Option Alignment) → ds.left ≡ track_divisor l t → ds.right ≡ track_divisor l u → ArePairAligned number t u (divided_samples l ds.left t) (divided_samples l ds.right u) found → IsPairAligned l number t u found
pair_left l ds number t u found e f h = subst (λ (d : ℕ). ArePairAligned number t u (divided_samples l d t) (remaining_samples l u) found) e (subst (λ (d : ℕ). ArePairAligned number t u (divided_samples l ds.left t) (divided_samples l d u) found) f h)

-- both files have these scales
abbrev pub HaveScales : Without → List ℕ → FileTree → List ℕ → FileTree → BothScales → Type 0
HaveScales l file tree other other_tree scales = AreScales l file tree scales.left × AreScales l other other_tree scales.right

-- ---- steps

-- one walk over both, or two
pub twice : (n old new : ℕ) → new ≤ old + n → new ≤ old + 2 * n
twice n old new h = omega (arith, h)

pub twice_most : (n old mid new : ℕ) → mid ≤ old + n → new ≤ mid + n → new ≤ old + 2 * n
twice_most n old mid new h k = omega (arith, h, k)

-- ---- pair after pair

abbrev tracks_in : List ℕ → FileTree → List Track
tracks_in file tree = (presentation_of file tree).tracks

-- how many steps two walks over each track from a place on may take
abbrev twice_left : FileTree → FileTree → ℕ → ℕ
twice_left tree other k = 2 * (sum_of (walk_steps tree) (drop k tree.movie.tracks) + sum_of (walk_steps other) (drop k other.movie.tracks))

-- The pairs in front of a place are aligned where this is so, whatever those behind it are.
pub record AlignsTo (H : Type 0) (l : Without) (file : List ℕ) (tree : FileTree) (other : List ℕ) (other_tree : FileTree) (k : ℕ) (found : List Alignment) (old new : ℕ) : Type 0 where
  pub going : H → (rest : List Alignment) → AreAligned l (k + 1) (drop k (tracks_in file tree)) (drop k (tracks_in other other_tree)) rest → AreAligned l 1 (tracks_in file tree) (tracks_in other other_tree) (found ++ rest)
  pub takes : new + twice_left tree other_tree k ≤ old + 2 * (walks_steps tree + walks_steps other_tree)

module _ (H : Type 0) (l : Without) (file : List ℕ) (tree : FileTree) (other : List ℕ) (other_tree : FileTree) (old : ℕ) where
  pub aligns_first : (found : List Alignment) → found ≡ [] → AlignsTo H l file tree other other_tree 0 found old old
  aligns_first found e = record { going = λ so rest h. subst (λ (ds : List Alignment). AreAligned l 1 (tracks_in file tree) (tracks_in other other_tree) (ds ++ rest)) (sym e) h; takes = omega arith }

  module _ (k : ℕ) (found : List Alignment) (mid : ℕ) (h : AlignsTo H l file tree other other_tree k found old mid) where
    module _ (t u : TrackTree) (at : slice_get tree.movie.tracks k ≡ Some t) (bt : slice_get other_tree.movie.tracks k ≡ Some u) where
      steps_next : twice_left tree other_tree k ≡ 2 * (walk_steps tree t + walk_steps other_tree u) + twice_left tree other_tree (k + 1)
      steps_next =
          let first = ap (sum_of (walk_steps tree)) (drop_plus tree.movie.tracks k t at) in
          let second = ap (sum_of (walk_steps other_tree)) (drop_plus other_tree.movie.tracks k u bt) in
          omega (arith, first, second)

      -- one more
      pub aligns_next : (one : Option Alignment) (next : List Alignment) (new : ℕ) → (H → IsPairAligned l (k + 1) (track_of file (file_parts tree) t) (track_of other (file_parts other_tree) u) one) → next ≡ found ++ if_there one
          → new ≤ mid + 2 * (walk_steps tree t + walk_steps other_tree u) → AlignsTo H l file tree other other_tree (k + 1) next old new
      aligns_next one next new pair e work =
          let all = h.takes in
          let x = track_of file (file_parts tree) t in
          let y = track_of other (file_parts other_tree) u in
          let xs = drop_plus (tracks_in file tree) k x (get_map (track_of file (file_parts tree)) tree.movie.tracks k t at) in
          let ys = drop_plus (tracks_in other other_tree) k y (get_map (track_of other (file_parts other_tree)) other_tree.movie.tracks k u bt) in
          record {
            going = λ so rest more.
                let here : AreAligned l (k + 1) (x ∷ drop (k + 1) (tracks_in file tree)) (y ∷ drop (k + 1) (tracks_in other other_tree)) (if_there one ++ rest) = (one, rest, pair so, more, refl) in
                subst (λ (ds : List Alignment). AreAligned l 1 (tracks_in file tree) (tracks_in other other_tree) ds) (sym (append_assoc found (if_there one) rest) ∙ ap (λ (ds : List Alignment). ds ++ rest) (sym e))
                (h.going so (if_there one ++ rest) (subst (λ (ts : List Track). AreAligned l (k + 1) ts (drop k (tracks_in other other_tree)) (if_there one ++ rest)) (sym xs)
                (subst (λ (us : List Track). AreAligned l (k + 1) (x ∷ drop (k + 1) (tracks_in file tree)) us (if_there one ++ rest)) (sym ys) here)));
            takes = omega (arith, all, steps_next, work);
          }

      pub aligns_most : (new : ℕ) → new ≤ mid + 2 * (walk_steps tree t + walk_steps other_tree u) → new ≤ old + 2 * (walks_steps tree + walks_steps other_tree)
      aligns_most new work = let all = h.takes in omega (arith, all, steps_next, work)

    none_over : (ts us : List Track) → min (length ts) (length us) ≤ 0 → AreAligned l (k + 1) ts us []
    none_over [] us le = refl
    none_over (t ∷ ts) [] le = refl
    none_over (t ∷ ts) (u ∷ us) le = absurd (omega (arith, le))

    -- all are
    pub aligns_all : min (length tree.movie.tracks) (length other_tree.movie.tracks) ≤ k → H → AreAligned l 1 (tracks_in file tree) (tracks_in other other_tree) found
    aligns_all le so =
        let many = length-map tree.movie.tracks (track_of file (file_parts tree)) in
        let many_right = length-map other_tree.movie.tracks (track_of other (file_parts other_tree)) in
        let left = length-drop k (tracks_in file tree) in
        let right = length-drop k (tracks_in other other_tree) in
        subst (λ (ds : List Alignment). AreAligned l 1 (tracks_in file tree) (tracks_in other other_tree) ds) (append-nil found)
        (h.going so [] (none_over (drop k (tracks_in file tree)) (drop k (tracks_in other other_tree)) (omega (arith, le, left, right, many, many_right))))

    pub aligns_work : mid ≤ old + 2 * (walks_steps tree + walks_steps other_tree)
    aligns_work = let all = h.takes in omega (arith, all)
