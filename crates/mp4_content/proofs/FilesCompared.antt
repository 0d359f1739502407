-- Files that are compared track by track.
use Rattle.std.proofs.Common.{◌≡◌, ℕ, zero, suc, ◌+◌, ◌<◌, ◌≤◌, min, Bool, true, false, if◌then◌else◌, List, [], ◌∷◌, ◌++◌, length, take, drop, Option, Some, None, sym, ap, subst, ◌∙◌, arith, append_assoc}
use Rattle.std.specs.List.{slice_get}
use Rattle.std.specs.Prelude.{IsTrue, slice_index_or, not, ◌&&◌, ◌==◌, map, Result, Err, IfOk}
use Rattle.std.proofs.lemmas.List.{append-nil, length-map}
use Rattle.mp4_boxes.specs.format.Bytes.{sum_of}
use Rattle.mp4_boxes.proofs.Plain.{drop_plus, get_map, get_some, get_zip, length_zip, some_is}
use Rattle.mp4_head.specs.format.Tree.{TrackTree}
use Rattle.mp4_head.specs.format.Head as heads
use Rattle.mp4_head.specs.words.Seen.{track_seen}
use Rattle.mp4_head.specs.declared.heads.MovieHead.{MovieHead}
use Rattle.mp4_head.specs.declared.heads.TrackHead.{TrackHead}
use Rattle.mp4_content.specs.format.Alignment.{listed_track}
use Rattle.mp4_content.specs.format.Differences.{numbers_differ, each_differ, head_differences, movie_differences}
use Rattle.mp4_present.specs.format.Denotes.{FileTree, file_parts, track_of, presentation_of}
use Rattle.mp4_present.specs.format.Presentation.{Track}
use Rattle.mp4_content.specs.format.Reduced.{start_left, number_track}
use Rattle.mp4_content.specs.format.Remaining.{divided_samples, divided_track, movie_divisor, remaining, remaining_track, track_divisor}
use Rattle.mp4_content.specs.format.Timescales.{divided}
use Rattle.mp4_content.specs.words.Compared.{TakesFront, samples_differ, tracks_differ, files_listed}
use Rattle.mp4_content.specs.words.Differing.{as_list, is_none_yet}
use Rattle.mp4_content.specs.words.HeadsDiffer.{begun_differ, movies_differ}
use Rattle.mp4_present.specs.words.Movies.{MovieSeen}
use Rattle.mp4_present.specs.words.OpenedMovie.{IsOpenedAs, IsInfoOf}
use Rattle.mp4_present.specs.words.WalkSteps.{walk_steps, walks_steps}
use Rattle.mp4_content.specs.declared.comparing.differences.Difference.{Difference}
use Rattle.mp4_content.specs.declared.comparing.differences.Subject.TheVariants as subjects
use Rattle.mp4_content.specs.declared.comparing.differences.Field.TheVariants as fields
use Rattle.mp4_content.specs.declared.comparing.tracks.Divisors.{Divisors}
use Rattle.mp4_content.specs.declared.without.Without.{Without}
use Rattle.mp4_present.specs.declared.track_info.TrackInfo.{TrackInfo}
use Rattle.mp4_present.proofs.TrafTaken.{at_place}
use Rattle.mp4_content.proofs.HeadLess.{SaysHeadOf}
use Rattle.mp4_content.proofs.Numbered.{numbered_many}
use Rattle.mp4_content.proofs.RemainingHeads.{file_track_remains}
use Rattle.mp4_content.proofs.SamplesReduced.{divided_length}
use Rattle.mp4_content.proofs.TracksCompared.{GrowsTo, grows_none, grows_more, grows_front, grows_part, grows_all, each_next, each_over}

-- no answer is one of which all is so
pub err_if_ok : {T E : Type 0} (r : Result T E) (e : E) (P : T → Type 0) → r ≡ Err e → IfOk r P
err_if_ok {T = T} {E = E} r e P same = subst (λ (x : Result T E). IfOk x P) (sym same) tt

-- what is so of two files that were opened is so of them where their stores are as they were
pub of_same : (P : List ℕ → List ℕ → Type 0) (m n : MovieSeen) (tree other : FileTree) (h h' k k' : Bool) (f f' g g' : List ℕ) → h ≡ h' → f ≡ f' → k ≡ k' → g ≡ g'
    → (IsTrue h → IsTrue k → IsOpenedAs f m tree → IsOpenedAs g n other → P f g) → IsTrue h' → IsTrue k' → IsOpenedAs f' m tree → IsOpenedAs g' n other → P f' g'
of_same P m n tree other h h' k k' f f' g g' a b c d q told told_right o p =
    subst (λ (y : List ℕ). P f' y) d (subst (λ (x : List ℕ). P x g) b
    (q (subst IsTrue (sym a) told) (subst IsTrue (sym c) told_right) (subst (λ (x : List ℕ). IsOpenedAs x m tree) (sym b) o) (subst (λ (y : List ℕ). IsOpenedAs y n other) (sym d) p)))

-- ---- the heads of two tracks

-- what was found of them is what differs between the tracks apart from their samples
heads_differ : (aligned : Bool) (l : Without) (ds : Divisors) (number k : ℕ) (file other : List ℕ) (m n : MovieSeen) (tree other_tree : FileTree) (t u : TrackTree) (info other_info : TrackInfo) (head other_head : TrackHead) → IsOpenedAs file m tree → IsOpenedAs other n other_tree
    → slice_get tree.movie.tracks k ≡ Some t → slice_get other_tree.movie.tracks k ≡ Some u → slice_get m.tracks k ≡ Some info → slice_get n.tracks k ≡ Some other_info
    → begun_differ l ds number head info other_head other_info
    ++ (if aligned && not (info.samples == other_info.samples) then [] else samples_differ l ds number file tree t other other_tree u) ≡ tracks_differ aligned l ds number head file tree t other_head other other_tree u
heads_differ aligned l ds number k file other m n tree other_tree t u info other_info head other_head o p at bt it jt =
    let of = subjects.Track number in
    let x = get_zip (IsInfoOf file tree) tree.movie.tracks m.tracks k t info o.tracks at it in
    let y = get_zip (IsInfoOf other other_tree) other_tree.movie.tracks n.tracks k u other_info p.tracks bt jt in
    let count = x.samples ∙ sym (divided_length l ds.left (track_of file (file_parts tree) t)) in
    let other_count = y.samples ∙ sym (divided_length l ds.right (track_of other (file_parts other_tree) u)) in
    λ i. (head_differences of (track_seen head) (track_seen other_head)
    ++ numbers_differ of fields.Start (divided ds.left (start_left l (x.start i))) (divided ds.right (start_left l (y.start i))) ++ numbers_differ of fields.Samples (count i) (other_count i))
    ++ (if aligned && not (count i == other_count i) then [] else samples_differ l ds number file tree t other other_tree u)

-- Two tracks whose heads were compared: their samples are left, where these are compared.
pub track_begun : (aligned : Bool) (l : Without) (ds : Divisors) (number k : ℕ) (file other : List ℕ) (m n : MovieSeen) (tree other_tree : FileTree) (t u : TrackTree) (info other_info : TrackInfo) (head other_head : TrackHead) → IsOpenedAs file m tree → IsOpenedAs other n other_tree
    → slice_get tree.movie.tracks k ≡ Some t → slice_get other_tree.movie.tracks k ≡ Some u → slice_get m.tracks k ≡ Some info → slice_get n.tracks k ≡ Some other_info
    → (found : List Difference) → found ≡ begun_differ l ds number head info other_head other_info
    → tracks_differ aligned l ds number head file tree t other_head other other_tree u ≡ found ++ (if aligned && not (info.samples == other_info.samples) then [] else samples_differ l ds number file tree t other other_tree u)
track_begun aligned l ds number k file other m n tree other_tree t u info other_info head other_head o p at bt it jt found is =
    sym (ap (λ (more : List Difference). more ++ (if aligned && not (info.samples == other_info.samples) then [] else samples_differ l ds number file tree t other other_tree u)) is
    ∙ heads_differ aligned l ds number k file other m n tree other_tree t u info other_info head other_head o p at bt it jt)

-- which they are
pub not_by : (b : Bool) (ds : List Difference) → b ≡ false → (if b then [] else ds) ≡ ds
not_by b ds e = ap (λ (v : Bool). if v then [] else ds) e

-- or are not
pub skipped_by : (b : Bool) (ds : List Difference) → b ≡ true → (if b then [] else ds) ≡ []
skipped_by b ds e = ap (λ (v : Bool). if v then [] else ds) e

-- ---- a list of two parts

-- the first part was not taken whole
pub first_part : (before next whole more rest : List Difference) → whole ≡ more ++ rest → TakesFront before next more → TakesFront before next whole
first_part before next whole more rest e p = grows_part before before next whole whole more rest (grows_none before whole) e p

-- the first was, and some of the second
pub second_part : (before mid next whole more rest : List Difference) → whole ≡ more ++ rest → mid ≡ before ++ more → TakesFront mid next rest → TakesFront before next whole
second_part before mid next whole more rest e f p = grows_part before mid next whole rest rest [] (grows_more before before mid whole whole more rest (grows_none before whole) e f) (sym (append-nil rest)) p

-- or all of it
pub both_parts : (before mid next whole more rest : List Difference) → whole ≡ more ++ rest → mid ≡ before ++ more → next ≡ mid ++ rest → next ≡ before ++ whole
both_parts before mid next whole more rest e f h = h ∙ ap (λ (ds : List Difference). ds ++ rest) f ∙ append_assoc before more rest ∙ ap (λ (ds : List Difference). before ++ ds) (sym e)

-- all that were taken are a front
pub takes_all : (before next whole : List Difference) → next ≡ before ++ whole → TakesFront before next whole
takes_all before next whole e = grows_front before next whole [] (whole, e, sym (append-nil whole))

-- ---- the heads of two movies

-- as many tracks are known as the movie has
pub infos_all : (file : List ℕ) (m : MovieSeen) (tree : FileTree) → IsOpenedAs file m tree → length m.tracks ≡ length tree.movie.tracks
infos_all file m tree o = sym (length_zip (IsInfoOf file tree) tree.movie.tracks m.tracks o.tracks)

-- the tracks of the presentation, behind what was left out
abbrev tracks_left : Without → List ℕ → FileTree → List Track
tracks_left l file tree = (remaining l (presentation_of file tree)).tracks

-- one of them
abbrev pub one_left : Without → List ℕ → FileTree → TrackTree → Track
one_left l file tree t = remaining_track l (movie_divisor l (presentation_of file tree)) (track_of file (file_parts tree) t)

pub tracks_many : (l : Without) (file : List ℕ) (tree : FileTree) → length (tracks_left l file tree) ≡ length tree.movie.tracks
tracks_many l file tree =
    let left = remaining_track l (movie_divisor l (presentation_of file tree)) in
    let own = map (track_of file (file_parts tree)) tree.movie.tracks in
    numbered_many l 1 (map left own) ∙ length-map own left ∙ length-map tree.movie.tracks (track_of file (file_parts tree))

abbrev tracks_from : Bool → Without → List ℕ → FileTree → List ℕ → FileTree → ℕ → List Difference
tracks_from aligned l file tree other other_tree k = each_differ (listed_track aligned) (k + 1) (drop k (tracks_left l file tree)) (drop k (tracks_left l other other_tree))

module _ (l : Without) (file : List ℕ) (tree : FileTree) (head : MovieHead) (says : SaysHeadOf (remaining l (presentation_of file tree)) head) where
  -- as many heads are left as the movie has tracks
  pub heads_all : length head.tracks.items ≡ length tree.movie.tracks
  heads_all = sym (length-map head.tracks.items track_seen) ∙ ap (λ (hs : List heads.TrackHead). length hs) says.tracks ∙ length-map (tracks_left l file tree) (λ (t : Track). t.head) ∙ tracks_many l file tree

  -- the track at the place of a head, which is what is left of its own
  pub track_at : (k : ℕ) (h : TrackHead) → k < length head.tracks.items → h ≡ slice_index_or head.tracks.items k h → (t : TrackTree) × (slice_get tree.movie.tracks k ≡ Some t) × (track_seen h ≡ (number_track l (k + 1) (one_left l file tree t)).head)
  track_at k h lt is =
      let t = get_some tree.movie.tracks k (omega (arith, heads_all, lt)) in (
        t.0,
        t.1,
        some_is (track_seen h) (number_track l (k + 1) (one_left l file tree t.0)).head
            (sym (get_map track_seen head.tracks.items k h (at_place head.tracks.items k h lt is)) ∙ ap (λ (hs : List heads.TrackHead). slice_get hs k) says.tracks
            ∙ get_map (λ (x : Track). x.head) (tracks_left l file tree) k (number_track l (k + 1) (one_left l file tree t.0)) (file_track_remains l file tree k t.0 t.1)),
      )

-- Two movies whose heads were compared: their tracks are left.
pub movie_begun : (aligned : Bool) (l : Without) (file other : List ℕ) (tree other_tree : FileTree) (head other_head : MovieHead) → SaysHeadOf (remaining l (presentation_of file tree)) head → SaysHeadOf (remaining l (presentation_of other other_tree)) other_head
    → (found : List Difference) → found ≡ movies_differ head other_head → files_listed aligned l file tree other other_tree ≡ found ++ tracks_from aligned l file tree other other_tree 0
movie_begun aligned l file other tree other_tree head other_head says other_says found is =
    let count = heads_all l file tree head says ∙ sym (tracks_many l file tree) in
    let other_count = heads_all l other other_tree other_head other_says ∙ sym (tracks_many l other other_tree) in
    sym (ap (λ (ds : List Difference). ds ++ tracks_from aligned l file tree other other_tree 0) is
    ∙ (λ i. (movie_differences (says.movie i) (other_says.movie i) ++ numbers_differ subjects.Movie fields.Tracks (count i) (other_count i)) ++ tracks_from aligned l file tree other other_tree 0))

-- ---- track after track

-- what is left of a track, by its head and its divisor
by_head : (l : Without) (file : List ℕ) (tree : FileTree) (k d : ℕ) (t : TrackTree) (head : TrackHead) → track_seen head ≡ (number_track l (k + 1) (one_left l file tree t)).head → d ≡ track_divisor l (track_of file (file_parts tree) t)
    → number_track l (k + 1) (one_left l file tree t) ≡ record (divided_track l 1 d (track_of file (file_parts tree) t)) { head = track_seen head }
by_head l file tree k d t head e f = λ i. record { head = sym e i; start = divided (sym f i) (start_left l (track_of file (file_parts tree) t).start); samples = divided_samples l (sym f i) (track_of file (file_parts tree) t) }

-- what differs of the tracks from a place on begins with what differs there
track_next : (aligned : Bool) (l : Without) (ds : Divisors) (file : List ℕ) (tree : FileTree) (other : List ℕ) (other_tree : FileTree) (k : ℕ) (t u : TrackTree) (head other_head : TrackHead) → slice_get tree.movie.tracks k ≡ Some t → slice_get other_tree.movie.tracks k ≡ Some u
    → track_seen head ≡ (number_track l (k + 1) (one_left l file tree t)).head → track_seen other_head ≡ (number_track l (k + 1) (one_left l other other_tree u)).head → ds.left ≡ track_divisor l (track_of file (file_parts tree) t) → ds.right ≡ track_divisor l
    (track_of other (file_parts other_tree) u)
    → tracks_from aligned l file tree other other_tree k ≡ tracks_differ aligned l ds (k + 1) head file tree t other_head other other_tree u ++ tracks_from aligned l file tree other other_tree (k + 1)
track_next aligned l ds file tree other other_tree k t u head other_head at bt e f d d_right =
    let xs = tracks_left l file tree in
    let ys = tracks_left l other other_tree in
    let x = number_track l (k + 1) (one_left l file tree t) in
    let y = number_track l (k + 1) (one_left l other other_tree u) in
    each_next (listed_track aligned) k xs ys (drop (k + 1) xs) (drop (k + 1) ys) x y
    (drop_plus xs k x (file_track_remains l file tree k t at)) (drop_plus ys k y (file_track_remains l other other_tree k u bt))
    ∙ (λ i. listed_track aligned (k + 1) (by_head l file tree k ds.left t head e d i) (by_head l other other_tree k ds.right u other_head f d_right i) ++ tracks_from aligned l file tree other other_tree (k + 1))

-- how many steps the walks over the tracks of two files from a place on may take
abbrev steps_left : FileTree → FileTree → ℕ → ℕ
steps_left tree other k = sum_of (walk_steps tree) (drop k tree.movie.tracks) + sum_of (walk_steps other) (drop k other.movie.tracks)

-- the tracks of two files in front of a place were compared
pub record FilesGo (aligned : Bool) (l : Without) (file : List ℕ) (tree : FileTree) (other : List ℕ) (other_tree : FileTree) (k : ℕ) (before now : List Difference) (old new : ℕ) : Type 0 where
  pub grows : GrowsTo before now (files_listed aligned l file tree other other_tree) (tracks_from aligned l file tree other other_tree k)
  pub takes : new + steps_left tree other_tree k ≤ old + (walks_steps tree + walks_steps other_tree)

module _ (aligned : Bool) (l : Without) (file : List ℕ) (tree : FileTree) (other : List ℕ) (other_tree : FileTree) (before : List Difference) (old : ℕ) where
  -- before the first
  pub files_first : (now found : List Difference) → files_listed aligned l file tree other other_tree ≡ found ++ tracks_from aligned l file tree other other_tree 0 → now ≡ before ++ found → FilesGo aligned l file tree other other_tree 0 before now old old
  files_first now found e f = record { grows = grows_more before before now _ _ found (tracks_from aligned l file tree other other_tree 0) (grows_none before _) e f; takes = omega arith }

  module _ (k : ℕ) (now : List Difference) (mid : ℕ) (h : FilesGo aligned l file tree other other_tree k before now old mid) where
    module _ (t u : TrackTree) (at : slice_get tree.movie.tracks k ≡ Some t) (bt : slice_get other_tree.movie.tracks k ≡ Some u) where
      steps_next : steps_left tree other_tree k ≡ (walk_steps tree t + walk_steps other_tree u) + steps_left tree other_tree (k + 1)
      steps_next =
          let first = ap (sum_of (walk_steps tree)) (drop_plus tree.movie.tracks k t at) in
          let second = ap (sum_of (walk_steps other_tree)) (drop_plus other_tree.movie.tracks k u bt) in
          omega (arith, first, second)

      pub files_most : (new : ℕ) → new ≤ mid + (walk_steps tree t + walk_steps other_tree u) → new ≤ old + (walks_steps tree + walks_steps other_tree)
      files_most new work = let all = h.takes in omega (arith, all, steps_next, work)

      module _ (ds : Divisors) (head other_head : TrackHead) (e : track_seen head ≡ (number_track l (k + 1) (one_left l file tree t)).head) (f : track_seen other_head ≡ (number_track l (k + 1) (one_left l other other_tree u)).head)
          (d : ds.left ≡ track_divisor l (track_of file (file_parts tree) t)) (d_right : ds.right ≡ track_divisor l (track_of other (file_parts other_tree) u)) where
        -- one more
        pub files_next : (next : List Difference) (new : ℕ) → next ≡ now ++ tracks_differ aligned l ds (k + 1) head file tree t other_head other other_tree u → new ≤ mid + (walk_steps tree t + walk_steps other_tree u) → FilesGo aligned l file tree other other_tree (k + 1) before next old new
        files_next next new is work =
            let all = h.takes in
            record { grows = grows_more before now next _ _ _ _ h.grows (track_next aligned l ds file tree other other_tree k t u head other_head at bt e f d d_right) is; takes = omega (arith, all, steps_next, work) }

        -- no further difference was taken
        pub files_stop : (next : List Difference) → TakesFront now next (tracks_differ aligned l ds (k + 1) head file tree t other_head other other_tree u) → TakesFront before next (files_listed aligned l file tree other other_tree)
        files_stop next p = grows_part before now next _ _ _ _ h.grows (track_next aligned l ds file tree other other_tree k t u head other_head at bt e f d d_right) p

    -- all were compared
    pub files_all : min (length tree.movie.tracks) (length other_tree.movie.tracks) ≤ k → now ≡ before ++ files_listed aligned l file tree other other_tree
    files_all le =
        let count = sym (tracks_many l file tree) in
        let other_count = sym (tracks_many l other other_tree) in
        grows_all before now _ _ h.grows (each_over (listed_track aligned) k (tracks_left l file tree) (tracks_left l other other_tree) (subst (λ (j : ℕ). min j (length (tracks_left l other other_tree)) ≤ k) count (subst (λ (j : ℕ). min (length tree.movie.tracks) j ≤ k) other_count le)))

    pub files_front : TakesFront before now (files_listed aligned l file tree other other_tree)
    files_front = grows_front before now _ _ h.grows

    pub files_work : mid ≤ old + (walks_steps tree + walks_steps other_tree)
    files_work = let all = h.takes in omega (arith, all)

-- a place below one of two numbers that are the same
pub below : (k m n : ℕ) → m ≡ n → k < m → k < n
below k m n e lt = omega (arith, e, lt)

-- the shortest of four, of which each two have one length
pub all_over : (m n a b i j k : ℕ) → m ≡ i → n ≡ j → a ≡ i → b ≡ j → min (min (min m n) a) b ≤ k → min i j ≤ k
all_over m n a b i j k e f g h le =
    let small : min (min (min i j) i) j ≤ k = subst (λ (x : ℕ). min (min (min i j) i) x ≤ k) h (subst (λ (x : ℕ). min (min (min i j) x) b ≤ k) g (subst (λ (x : ℕ). min (min (min i x) a) b ≤ k) f (subst (λ (x : ℕ). min (min (min x n) a) b ≤ k) e le))) in
    omega (arith, small)

-- ---- the first difference

-- the one that was taken, where no further one was, or none
pub first_is : (first : Option Difference) (all : Bool) (list : List Difference) → all ≡ is_none_yet first → (all ≡ true → as_list first ≡ list) → TakesFront [] (as_list first) list → first ≡ slice_get list 0
first_is None all list e whole p = ap (λ (ds : List Difference). slice_get ds 0) (whole e)
first_is (Some d) all [] e whole p = absurd (no_front p.0 p.1)
  where
    no_front : (n : ℕ) → ◌≡◌ {A = List Difference} (d ∷ []) (take n []) → ⊥
    no_front zero f = absurd cc
    no_front (suc n) f = absurd cc
first_is (Some d) all (x ∷ list) e whole p = by p.0 p.1
  where
    by : (n : ℕ) → ◌≡◌ {A = List Difference} (d ∷ []) (take n (x ∷ list)) → ◌≡◌ {A = Option Difference} (Some d) (Some x)
    by zero f = absurd cc
    by (suc n) f = let same : d ≡ x = cc in ap (λ (z : Difference). Some z) same
