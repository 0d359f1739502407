-- How many bytes the samples have that are left of all tracks; behind the last turn none is left.
use Rattle.std.proofs.Common.{◌≡◌, ℕ, zero, suc, ◌+◌, ◌≤◌, List, [], ◌∷◌, length, take, drop, Some, None, refl, sym, ap, subst, ◌∙◌, arith, slice_get, slice_set}
use Rattle.std.specs.Prelude.{map}
use Rattle.std.specs.List.{AllByRecursion, AllZip, sum_by}
use Rattle.std.proofs.lemmas.List.{take-append-drop, take_all}
use Rattle.std.proofs.lemmas.List.Sums.{sum_by-cons}
use Rattle.mp4_head.specs.format.Tree.{TrackTree}
use Rattle.mp4_tables.specs.words.Keys.{keys_seen}
use Rattle.mp4_tables.specs.declared.sample.SampleAt.{SampleAt}
use Rattle.mp4_tables.proofs.Sums.{timed_bytes, sum_joined}
use Rattle.mp4_frag.specs.format.FragmentSamples.{start_of}
use Rattle.mp4_present.specs.format.Denotes.{FileTree, file_parts, parts_of_track, placed_of, plain_of}
use Rattle.mp4_present.specs.words.Movies.{MovieSeen}
use Rattle.mp4_present.specs.words.OpenedMovie.{IsInfoOf, IsOpenedAs}
use Rattle.mp4_present.specs.words.SamplesComing.{track_keys, track_samples}
use Rattle.mp4_content.specs.declared.without.Without.{Without}
use Rattle.mp4_present.specs.declared.track_info.TrackInfo.{TrackInfo}
use Rattle.mp4_content.specs.format.TimedSamples.{TimedSample}
use Rattle.mp4_content.specs.words.ComingLess.{left_samples, track_reduction}
use Rattle.mp4_plan.specs.words.HandsFed.{sizes_of}
use Rattle.mp4_plan.specs.words.PiecesComing.{Coming, stops, rest, end_of_other}
use Rattle.mp4_content.specs.words.TakenSamples.{AreTaken}
use Rattle.mp4_plan.specs.words.TurnLaws.{HavePassed, next_time}
use Rattle.mp4_plan.specs.declared.ends.End.TheVariants.{Before}
use Rattle.mp4_plan.specs.declared.schedule.Schedule.{Schedule}
use Rattle.mp4_plan.proofs.Lefts.{AreLeft, left_count, IsTurn}
use Rattle.mp4_content.proofs.ReducedTaken.{less_sizes}
use Rattle.mp4_boxes.proofs.Plain.{some_is}

abbrev pub left_bytes : List (List SampleAt) → ℕ
left_bytes lefts = sum_by (λ (left : List SampleAt). sizes_of left) lefts

bytes_cons : (left : List SampleAt) (lefts : List (List SampleAt)) → left_bytes (left ∷ lefts) ≡ sizes_of left + left_bytes lefts
bytes_cons left lefts = sum_by-cons (λ (l : List SampleAt). sizes_of l) left lefts

-- where others are left of one track
bytes_set : (lefts : List (List SampleAt)) (k : ℕ) (left behind : List SampleAt) → slice_get lefts k ≡ Some left → left_bytes (slice_set lefts k behind) + sizes_of left ≡ left_bytes lefts + sizes_of behind
bytes_set [] k left behind e = absurd cc
bytes_set (l ∷ lefts) zero left behind e =
    let n = ap sizes_of (some_is l left e) in
    let a = bytes_cons behind lefts in
    let b = bytes_cons l lefts in
    omega (arith, n, a, b)
bytes_set (l ∷ lefts) (suc k) left behind e =
    let n = bytes_set lefts k left behind e in
    let a = bytes_cons l lefts in
    let b = bytes_cons l (slice_set lefts k behind) in
    omega (arith, n, a, b)

sizes_split : (n : ℕ) (samples : List SampleAt) → sizes_of samples ≡ sizes_of (take n samples) + sizes_of (drop n samples)
sizes_split n samples = ap sizes_of (sym (take-append-drop n samples)) ∙ sum_joined (λ (s : SampleAt). s.size) (take n samples) (drop n samples)

-- Behind a turn that took so many samples there are as many bytes fewer as these have.
pub bytes_behind : (lefts : List (List SampleAt)) (k n sent bytes all : ℕ) (left : List SampleAt) → slice_get lefts k ≡ Some left → bytes ≡ sizes_of (take n left) → sent + left_bytes lefts ≡ all → sent + bytes + left_bytes (slice_set lefts k (drop n left)) ≡ all
bytes_behind lefts k n sent bytes all left at own whole =
    let set = bytes_set lefts k left (drop n left) at in
    let split = sizes_split n left in
    omega (arith, set, split, own, whole)

-- ---- before the first turn

-- all that are kept
kept_bytes : (leaving : Without) (file : List ℕ) (tree : FileTree) (trees : List TrackTree) (infos : List TrackInfo) → AllZip (IsInfoOf file tree) trees infos
    → left_bytes (map (left_samples leaving file tree) trees) ≡ sum_by (λ (i : TrackInfo). i.bytes) infos
kept_bytes leaving file tree [] [] z = refl
kept_bytes leaving file tree [] (info ∷ infos) z = absurd z
kept_bytes leaving file tree (t ∷ trees) [] z = absurd z
kept_bytes leaving file tree (t ∷ trees) (info ∷ infos) z =
    let kept = sum_by-cons (λ (i : TrackInfo). i.bytes) info infos in
    let left = bytes_cons (left_samples leaving file tree t) (map (left_samples leaving file tree) trees) in
    let more = kept_bytes leaving file tree trees infos z.1 in
    let own = z.0.bytes in
    let less = less_sizes (track_reduction leaving file tree t) (track_samples tree t) in
    let same = timed_bytes (track_keys tree t) 0 (start_of (plain_of t) (parts_of_track (file_parts tree) t)) (placed_of (file_parts tree) t) in
    omega (arith, kept, left, more, own, less, same)

pub all_bytes : (leaving : Without) (file : List ℕ) (m : MovieSeen) (tree : FileTree) → IsOpenedAs file m tree → left_bytes (map (left_samples leaving file tree) tree.movie.tracks) ≡ sum_by (λ (i : TrackInfo). i.bytes) m.tracks
all_bytes leaving file m tree o = kept_bytes leaving file tree tree.movie.tracks m.tracks o.tracks

-- ---- behind the last turn

no_rest : (first scale : ℕ) (samples : List TimedSample) → rest (stops (Before None first scale)) samples ≡ []
no_rest first scale [] = refl
no_rest first scale (s ∷ samples) = no_rest first scale samples

-- the samples of a track that has passed where no fragment follows
all_passed : (first : ℕ) (others : List Coming) → AllByRecursion (λ (t : Coming). rest (stops (end_of_other None first t)) t.samples ≡ t.samples) others → AllByRecursion (λ (t : Coming). t.samples ≡ []) others
all_passed first [] h = tt
all_passed first (t ∷ others) h = (sym h.0 ∙ no_rest first t.timescale t.samples, all_passed first others h.1)

passed_none : (first : ℕ) (i : ℕ) (others : List Coming) → i ≡ length others → HavePassed None first (suc i) others → AllByRecursion (λ (t : Coming). t.samples ≡ []) others
passed_none first i others many h = all_passed first others (subst (λ (l : List Coming). AllByRecursion (λ (t : Coming). rest (stops (end_of_other None first t)) t.samples ≡ t.samples) l) (ap (λ n. take n others) many ∙ take_all (length others) others (omega arith)) h)

none_next : (samples : List TimedSample) → None ≡ next_time samples → samples ≡ []
none_next [] e = refl
none_next (s ∷ samples) e = absurd cc

none_taken : (file : List ℕ) (info : TrackInfo) (left : List SampleAt) (samples : List TimedSample) → samples ≡ [] → AreTaken file (keys_seen info.keys) left samples → left ≡ []
none_taken file info [] samples e h = refl
none_taken file info (a ∷ left) [] e h = absurd h
none_taken file info (a ∷ left) (s ∷ samples) e h = absurd cc

no_bytes : (file : List ℕ) (infos : List TrackInfo) (lefts : List (List SampleAt)) (comings : List Coming) → AreLeft file infos lefts comings → AllByRecursion (λ (t : Coming). t.samples ≡ []) comings → (left_bytes lefts ≡ 0) × (left_count lefts ≡ 0)
no_bytes file [] [] [] h e = (refl, refl)
no_bytes file [] [] (c ∷ comings) h e = absurd h
no_bytes file [] (l ∷ lefts) comings h e = absurd h
no_bytes file (i ∷ infos) [] comings h e = absurd h
no_bytes file (i ∷ infos) (l ∷ lefts) [] h e = absurd h
no_bytes file (i ∷ infos) (l ∷ lefts) (c ∷ comings) h e =
    let own = none_taken file i l c.samples e.0 h.0.taken in
    let size = ap sizes_of own in
    let many = ap (λ (ss : List SampleAt). length ss) own in
    let more = no_bytes file infos lefts comings h.1 e.1 in
    let a = bytes_cons l lefts in
    let b = sum_by-cons (λ (left : List SampleAt). length left) l lefts in
    let more_bytes = more.0 in
    let more_many = more.1 in
    (omega (arith, a, size, more_bytes), omega (arith, b, many, more_many))

-- Behind the last turn no samples are left.
pub none_behind : (file : List ℕ) (infos : List TrackInfo) (s : Schedule) (lefts : List (List SampleAt)) (comings : List Coming) → IsTurn file infos s lefts comings → s.tracks ≤ s.track → (left_bytes lefts ≡ 0) × (s.left ≡ 0)
none_behind file infos s lefts [] h le = let r = no_bytes file infos lefts [] h.each tt in let many = h.left in let none = r.1 in (r.0, omega (arith, many, none))
none_behind file infos s lefts (first ∷ others) h le =
    let among = h.among.among in
    let most = among.track in
    let tracks = among.tracks in
    let last : s.track ≡ s.tracks = omega (arith, le, most) in
    let place : s.track ≡ suc (length others) = omega (arith, last, tracks) in
    let next : s.next ≡ None = among.over last in
    let own = none_next first.samples (sym next ∙ h.among.next (omega (arith, place))) in
    let passed : HavePassed None first.timescale (suc (length others)) others = subst (λ n. HavePassed n first.timescale (suc (length others)) others) next (subst (λ k. HavePassed s.next first.timescale k others) place among.passed) in
    let r = no_bytes file infos lefts (first ∷ others) h.each (own, passed_none first.timescale (length others) others refl passed) in
    let many = h.left in
    let none = r.1 in
    (r.0, omega (arith, many, none))
