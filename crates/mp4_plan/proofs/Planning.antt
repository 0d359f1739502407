-- Walks over the tracks of an opened file, and what is planned of the pieces that come in them.
use Rattle.std.proofs.Common.{◌≡◌, ℕ, zero, suc, ◌+◌, ◌*◌, ◌<◌, ◌≤◌, List, [], ◌∷◌, ◌++◌, length, take, map, Some, refl, sym, ap, subst, ◌∙◌, arith, length-set}
use Rattle.mp4_content.specs.declared.without.Without.{Without}
use Rattle.mp4_content.specs.words.ComingLess.{ComesLess, left_samples, track_reduction, reductions_of}
use Rattle.mp4_content.specs.declared.reduced.Reduction.{Reduction}
use Rattle.std.specs.Prelude.{slice_get, slice_set, slice_index_or}
use Rattle.std.proofs.lemmas.List.{take_all, map-append}
use Rattle.std.proofs.lemmas.List.Sums.{sum_by-append, sum_by-cons}
use Rattle.mp4_boxes.specs.format.Bytes.{sum_of}
use Rattle.mp4_boxes.proofs.Plain.{get_some, get_zip, length_zip, some_is}
use Rattle.mp4_head.specs.format.Tree.{TrackTree}
use Rattle.mp4_tables.specs.declared.sample.SampleAt.{SampleAt}
use Rattle.mp4_present.specs.words.SamplesComing.{Comes, track_samples, traf_total, walk_room}
use Rattle.mp4_present.specs.format.Denotes.{FileTree}
use Rattle.mp4_present.specs.words.Movies.{MovieSeen, IsWalkOf, mark_of, own_room}
use Rattle.mp4_present.specs.words.OpenedMovie.{IsInfoOf, IsOpenedAs}
use Rattle.mp4_present.specs.declared.walking.Walk.{Walk}
use Rattle.mp4_present.specs.declared.track_info.TrackInfo.{TrackInfo}
use Rattle.mp4_present.proofs.OwnSums.{rooms_within}
use Rattle.mp4_present.proofs.WalkRooms.{room_opened}
use Rattle.mp4_plan.specs.words.Writers.{AreWalksOf, AreMarked, AllCome, AllBegin}
use Rattle.mp4_plan.specs.format.Held.{rooms}
use Rattle.mp4_plan.specs.words.OwnRooms.{own_rooms}
use Rattle.mp4_plan.proofs.ComeAt.{come_at, come_with, come_more, set_same}
use Rattle.mp4_content.proofs.ReducedTaken.{less_length}
use Rattle.mp4_content.proofs.AtPlaces.{taken_next}
use Rattle.mp4_present.proofs.Lengths.{got}
use Rattle.mp4_tables.proofs.GroupsKept.{all_set}
use Rattle.mp4_tables.proofs.Sums.{sum_joined}
use Rattle.mp4_content.proofs.EndsCompared.{samples_many}

-- ---- walks that begin

-- walks over the first tracks of a file
abbrev pub BeginSoFar : MovieSeen → ℕ → List Walk → Type 0
BeginSoFar m k walks = (file : List ℕ) (tree : FileTree) → IsOpenedAs file m tree → (leaving : Without) → AllCome leaving file tree m (take k tree.movie.tracks) walks (map (left_samples leaving file tree) (take k tree.movie.tracks))

-- the room of one walk more
more_room : (walks : List Walk) (walk : Walk) → rooms (walks ++ walk ∷ []) ≡ rooms walks + length walk.bytes.items
more_room walks walk =
    let room = λ (w : Walk). length w.bytes.items in
    let both = sum_by-append room walks (walk ∷ []) in
    let one = sum_by-cons room walk [] in
    omega (arith, both, one)

next_rooms : (m : MovieSeen) (k : ℕ) → own_rooms m (k + 1) ≡ own_rooms m k + own_room m k
next_rooms m k = let e : k + 1 ≡ suc k = omega arith in ap (own_rooms m) e

pub one_room : (m : MovieSeen) (k : ℕ) (walks : List Walk) (walk : Walk) → rooms walks ≡ own_rooms m k → length walk.bytes.items ≡ own_room m k → rooms (walks ++ walk ∷ []) ≡ own_rooms m (k + 1)
one_room m k walks walk h e =
    let more = more_room walks walk in
    let next = next_rooms m k in
    omega (arith, h, e, more, next)

pub one_within : (walks : List Walk) (walk : Walk) (k n : ℕ) → rooms walks ≤ k * n → length walk.bytes.items ≤ n → rooms (walks ++ walk ∷ []) ≤ (k + 1) * n
one_within walks walk k n h e = let more = more_room walks walk in omega (arith, h, e, more)

-- a walk over one track more
pub one_begins : (m : MovieSeen) (k : ℕ) (walks : List Walk) (walk : Walk) → BeginSoFar m k walks → length walks ≡ k → k < length m.tracks
    → ((file : List ℕ) (tree : FileTree) (t : TrackTree) → IsOpenedAs file m tree → slice_get tree.movie.tracks k ≡ Some t → Comes file tree t m walk (track_samples tree t)) → BeginSoFar m (k + 1) (walks ++ walk ∷ [])
one_begins m k walks walk h n lt comes file tree o leaving =
    let many = length_zip (IsInfoOf file tree) tree.movie.tracks m.tracks o.tracks in
    let t = get_some tree.movie.tracks k (omega (arith, lt, many)) in
    come_more leaving file tree m tree.movie.tracks walks (left_samples leaving file tree) k t.0 walk (h file tree o leaving) n t.1 (record { samples = track_samples tree t.0; comes = comes file tree t.0 o t.1; is_left = refl })

-- all tracks have walks
pub all_begin : (m : MovieSeen) (k : ℕ) (walks : List Walk) → BeginSoFar m k walks → length m.tracks ≤ k → (file : List ℕ) (tree : FileTree) → IsOpenedAs file m tree → (leaving : Without) → AllBegin leaving file tree m walks
all_begin m k walks h le file tree o leaving =
    let many = length_zip (IsInfoOf file tree) tree.movie.tracks m.tracks o.tracks in
    let all = take_all k tree.movie.tracks (omega (arith, le, many)) in
    subst (λ (ts : List TrackTree). AllCome leaving file tree m ts walks (map (left_samples leaving file tree) ts)) all (h file tree o leaving)

-- ---- walks that have marked where they begin

abbrev pub BeginMarked : MovieSeen → ℕ → List Walk → Type 0
BeginMarked m k walks = (file : List ℕ) (tree : FileTree) → IsOpenedAs file m tree → (leaving : Without) → AreMarked walks (map (left_samples leaving file tree) (take k tree.movie.tracks))

marked_behind : (walks : List Walk) (lefts : List (List SampleAt)) (w : Walk) (left : List SampleAt) → AreMarked walks lefts → w.mark ≡ mark_of w (length left) → AreMarked (walks ++ w ∷ []) (lefts ++ left ∷ [])
marked_behind [] [] w left h is = (is, tt)
marked_behind [] (l ∷ lefts) w left h is = absurd h
marked_behind (v ∷ walks) [] w left h is = absurd h
marked_behind (v ∷ walks) (l ∷ lefts) w left h is = (h.0, marked_behind walks lefts w left h.1 is)

pub one_marked : (m : MovieSeen) (k : ℕ) (walks : List Walk) (walk : Walk) → BeginMarked m k walks → k < length m.tracks → ((info : TrackInfo) → slice_get m.tracks k ≡ Some info → walk.mark ≡ mark_of walk info.samples) → BeginMarked m (k + 1) (walks ++ walk ∷ [])
one_marked m k walks walk h lt mark file tree o leaving =
    let many = length_zip (IsInfoOf file tree) tree.movie.tracks m.tracks o.tracks in
    let t = get_some tree.movie.tracks k (omega (arith, lt, many)) in
    let info = get_some m.tracks k lt in
    let is = get_zip (IsInfoOf file tree) tree.movie.tracks m.tracks k t.0 info.0 o.tracks t.1 info.1 in
    let long = is.samples ∙ sym (less_length (track_reduction leaving file tree t.0) (track_samples tree t.0) ∙ samples_many file tree t.0) in
    let all : map (left_samples leaving file tree) (take (k + 1) tree.movie.tracks) ≡ map (left_samples leaving file tree) (take k tree.movie.tracks) ++ left_samples leaving file tree t.0 ∷ [] =
    ap (map (left_samples leaving file tree)) (taken_next tree.movie.tracks k t.0 t.1) ∙ map-append (left_samples leaving file tree) (take k tree.movie.tracks) (t.0 ∷ []) in
    subst (λ (ls : List (List SampleAt)). AreMarked (walks ++ walk ∷ []) ls) (sym all) (marked_behind walks (map (left_samples leaving file tree) (take k tree.movie.tracks)) walk (left_samples leaving file tree t.0) (h file tree o leaving) (mark info.0 info.1 ∙ ap (mark_of walk) long))

-- all tracks have walks
pub all_marked : (m : MovieSeen) (k : ℕ) (walks : List Walk) → BeginMarked m k walks → length m.tracks ≤ k → (file : List ℕ) (tree : FileTree) → IsOpenedAs file m tree → (leaving : Without) → AreMarked walks (map (left_samples leaving file tree) tree.movie.tracks)
all_marked m k walks h le file tree o leaving =
    let many = length_zip (IsInfoOf file tree) tree.movie.tracks m.tracks o.tracks in
    let all = take_all k tree.movie.tracks (omega (arith, le, many)) in
    subst (λ (ts : List TrackTree). AreMarked walks (map (left_samples leaving file tree) ts)) all (h file tree o leaving)

-- where a walk's first sample comes, and what it has marked
pub first_marked : (m : MovieSeen) (walk : Walk) (k : ℕ) → ((file : List ℕ) (tree : FileTree) (t : TrackTree) → IsOpenedAs file m tree → slice_get tree.movie.tracks k ≡ Some t → Comes file tree t m walk (track_samples tree t)) → k < length m.tracks
    → ((info : TrackInfo) → slice_get m.tracks k ≡ Some info → walk.mark ≡ mark_of walk info.samples) → (file : List ℕ) (tree : FileTree) (t : TrackTree) → IsOpenedAs file m tree → slice_get tree.movie.tracks k ≡ Some t
    → (samples : List SampleAt) × Comes file tree t m walk samples × (walk.mark ≡ mark_of walk (length samples))
first_marked m walk k comes lt mark file tree t o is =
    let info = get_some m.tracks k lt in
    let of = get_zip (IsInfoOf file tree) tree.movie.tracks m.tracks k t info.0 o.tracks is info.1 in
    (track_samples tree t, comes file tree t o is, mark info.0 info.1 ∙ ap (mark_of walk) (of.samples ∙ sym (samples_many file tree t)))

-- ---- the walk of one track

-- the track, and the samples that come, of the walk at a place
pub record ComesThere (leaving : Without) (file : List ℕ) (tree : FileTree) (m : MovieSeen) (lefts : List (List SampleAt)) (k : ℕ) (walk : Walk) : Type 0 where
  pub t : TrackTree
  pub left : List SampleAt
  pub is_tree : slice_get tree.movie.tracks k ≡ Some t
  pub is_left : slice_get lefts k ≡ Some left
  pub comes : ComesLess (track_reduction leaving file tree t) file tree t m walk left

pub comes_there : (leaving : Without) (file : List ℕ) (tree : FileTree) (m : MovieSeen) (walks : List Walk) (lefts : List (List SampleAt)) (k : ℕ) (d : Walk) → AllCome leaving file tree m tree.movie.tracks walks lefts → k < length walks
    → ComesThere leaving file tree m lefts k (slice_index_or walks k d)
comes_there leaving file tree m walks lefts k d h lt =
    let r = come_at leaving file tree m tree.movie.tracks walks lefts k h lt in
    let same = some_is r.walk (slice_index_or walks k d) (sym r.is_walk ∙ got walks k d lt) in
    record { t = r.t; left = r.left; is_tree = r.is_tree; is_left = r.is_left; comes = subst (λ (w : Walk). ComesLess (track_reduction leaving file tree r.t) file tree r.t m w r.left) same r.comes }

-- what is left of its samples, by what is said of that track
pub reduced_there : (leaving : Without) (file : List ℕ) (tree : FileTree) (by : List Reduction) (k : ℕ) (t : TrackTree) → by ≡ reductions_of leaving file tree → slice_get tree.movie.tracks k ≡ Some t → slice_get by k ≡ Some (track_reduction leaving file tree t)
reduced_there leaving file tree by k t e is = ap (λ (rs : List Reduction). slice_get rs k) e ∙ at tree.movie.tracks k is
  where
    at : (trees : List TrackTree) (k : ℕ) → slice_get trees k ≡ Some t → slice_get (map (track_reduction leaving file tree) trees) k ≡ Some (track_reduction leaving file tree t)
    at [] k is = absurd cc
    at (u ∷ trees) zero is = let same : u ≡ t = cc in ap (λ (v : TrackTree). Some (track_reduction leaving file tree v)) same
    at (u ∷ trees) (suc k) is = at trees k is

-- another walk at its place, in which the same samples come
pub same_come : (leaving : Without) (file : List ℕ) (tree : FileTree) (m : MovieSeen) (walks : List Walk) (lefts : List (List SampleAt)) (k : ℕ) (walk next : Walk) → AllCome leaving file tree m tree.movie.tracks walks lefts → (r : ComesThere leaving file tree m lefts k walk)
    → ComesLess (track_reduction leaving file tree r.t) file tree r.t m next r.left → AllCome leaving file tree m tree.movie.tracks (slice_set walks k next) lefts
same_come leaving file tree m walks lefts k walk next h r c =
    subst (λ (ls : List (List SampleAt)). AllCome leaving file tree m tree.movie.tracks (slice_set walks k next) ls) (set_same lefts k r.left r.is_left) (come_with leaving file tree m tree.movie.tracks walks lefts k r.t next r.left h r.is_tree c)

pub walks_set : (m : MovieSeen) (walks : List Walk) (k : ℕ) (next : Walk) → AreWalksOf m walks → IsWalkOf m next → AreWalksOf m (slice_set walks k next)
walks_set m walks k next h w = record { each = all_set (IsWalkOf m) walks k next h.each w; count = length-set walks k next ∙ h.count }

-- ---- the rooms of walks over all tracks

rooms_sum : (file : List ℕ) (m : MovieSeen) (tree : FileTree) → IsOpenedAs file m tree → (k : ℕ) → k ≤ length tree.movie.tracks → own_rooms m k ≡ sum_of (walk_room tree) (take k tree.movie.tracks)
rooms_sum file m tree o zero le = refl
rooms_sum file m tree o (suc k) le =
    let tracks = tree.movie.tracks in
    let t = get_some tracks k (omega (arith, le)) in
    let e : suc k ≡ k + 1 = omega arith in
    let more = rooms_sum file m tree o k (omega (arith, le)) in
    let here = room_opened file m tree t.0 k o t.1 in
    let taken = ap (λ n. sum_of (walk_room tree) (take n tracks)) e ∙ ap (sum_of (walk_room tree)) (taken_next tracks k t.0 t.1) ∙ sum_joined (walk_room tree) (take k tracks) (t.0 ∷ []) in
    omega (arith, more, here, taken)

-- together they are no longer than the `traf`s of the file
pub rooms_fit : (file : List ℕ) (m : MovieSeen) (tree : FileTree) → IsOpenedAs file m tree → own_rooms m (length m.tracks) ≤ traf_total tree
rooms_fit file m tree o =
    let tracks = tree.movie.tracks in
    let many = length_zip (IsInfoOf file tree) tracks m.tracks o.tracks in
    let e : length m.tracks ≡ length tracks = omega (arith, many) in
    let sum = ap (own_rooms m) e ∙ rooms_sum file m tree o (length tracks) (omega arith) ∙ ap (sum_of (walk_room tree)) (take_all (length tracks) tracks (omega arith)) in
    omega (arith, sum, rooms_within file tree o.is_tree o.is_sound)
