-- Tracks that are printed one after the other.
use Rattle.std.proofs.Common.{◌≡◌, ℕ, zero, suc, ◌+◌, ◌-◌, ◌≤◌, List, [], ◌∷◌, ◌++◌, length, drop, Option, Some, refl, sym, ap, subst, ◌∙◌, arith, append_assoc, length-append, codes}
use Rattle.std.specs.Prelude.{map, flat_map, slice_get, unwrap_or}
use Rattle.std.specs.List.{AllZip}
use Rattle.std.proofs.lemmas.List.{length-map}
use Rattle.mp4_boxes.specs.format.Bytes.{sum_of}
use Rattle.mp4_boxes.proofs.Plain.{drop_all, drop_plus, get_map, get_zip, some_is}
use Rattle.mp4_store.specs.words.Device.{TakesPrefix}
use Rattle.mp4_store.proofs.Known.{IsJoining}
use Rattle.mp4_head.specs.format.Head as heads
use Rattle.mp4_head.specs.format.Tree.{TrackTree, track_head_of}
use Rattle.mp4_head.specs.words.Seen.{track_seen}
use Rattle.mp4_head.specs.declared.heads.TrackHead.{TrackHead}
use Rattle.mp4_present.specs.format.Denotes.{FileTree, file_parts, presentation_of, track_of}
use Rattle.mp4_present.specs.format.Presentation.{heads as heads_of, Track}
use Rattle.mp4_content.specs.format.Reduced.{number_heads, number_track, start_left}
use Rattle.mp4_content.specs.format.Remaining.{divided_samples, movie_divisor, remaining, remaining_track, track_divisor}
use Rattle.mp4_content.specs.words.Divided.{remaining_heads}
use Rattle.mp4_content.specs.format.Timescales.{divided}
use Rattle.mp4_content.specs.declared.scales.Scales.{Scales}
use Rattle.mp4_present.specs.words.Carried.{BytesGoOn}
use Rattle.mp4_present.specs.words.Movies.{MovieSeen}
use Rattle.mp4_present.specs.words.OpenedMovie.{IsOpenedAs, IsInfoOf}
use Rattle.mp4_present.specs.words.WalkSteps.{walk_steps, walks_steps}
use Rattle.mp4_present.specs.declared.track_info.TrackInfo.{TrackInfo}
use Rattle.mp4_present.specs.declared.walking.Walk.{Walk}
use Rattle.mp4_content.specs.declared.without.Without.{Without}
use Rattle.mp4_answers.specs.format.Text.{head_lines, number_line, sample_text, samples_heading, track_text}
use Rattle.mp4_answers.specs.words.PrintedTracks.{IsBegun, AreBegun, AreWalks, HeadsRemain}
use Rattle.mp4_answers.proofs.Going.{Going, going_none}
use Rattle.mp4_answers.proofs.TextsGoOn.{text_next, text_fails, texts_all}
use Rattle.mp4_content.proofs.FilesCompared.{tracks_many, infos_all}
use Rattle.mp4_content.proofs.RemainingHeads.{file_divisor_at, file_heads_remain, file_track_remains}

-- ---- walks, the last track's first

begun_more : (m : MovieSeen) (tracks : ℕ) (walks : List Walk) (w : Walk) (before : ℕ) → suc before + length walks ≡ tracks → IsBegun m before w → AreBegun m tracks walks → AreBegun m tracks (walks ++ w ∷ [])
begun_more m tracks [] w before e b h = let same : before ≡ tracks - 1 = omega (arith, e) in (subst (λ n. IsBegun m n w) same b, tt)
begun_more m tracks (x ∷ walks) w before e b h = (h.0, begun_more m (tracks - 1) walks w before (omega (arith, e)) b h.1)

begun_last : (m : MovieSeen) (tracks : ℕ) (walks : List Walk) (w : Walk) (before : ℕ) → suc before + length walks ≡ tracks → AreBegun m tracks (walks ++ w ∷ []) → IsBegun m before w × AreBegun m tracks walks
begun_last m tracks [] w before e h = let same : tracks - 1 ≡ before = omega (arith, e) in (subst (λ n. IsBegun m n w) same h.0, tt)
begun_last m tracks (x ∷ walks) w before e h = let more = begun_last m (tracks - 1) walks w before (omega (arith, e)) h.1 in (more.0, (h.0, more.1))

one_longer : (walks : List Walk) (w : Walk) → length (walks ++ w ∷ []) ≡ suc (length walks)
one_longer walks w = let long = length-append walks (w ∷ []) in omega (arith, long)

-- before the last track there is none
pub walks_begin : (m : MovieSeen) → AreWalks m (length m.tracks) []
walks_begin m = record { many = omega arith; begun = tt }

-- that of the track before
pub walk_pushed : (m : MovieSeen) (before after : ℕ) (walks : List Walk) (w : Walk) → before ≡ suc after → IsBegun m after w → AreWalks m before walks → AreWalks m after (walks ++ w ∷ [])
walk_pushed m before after walks w e b h = let many = h.many in let long = one_longer walks w in record {
  many = omega (arith, many, e, long);
  begun = begun_more m (length m.tracks) walks w after (omega (arith, many, e)) b h.begun;
}

-- that of the first track that is left
pub walk_popped : (m : MovieSeen) (before : ℕ) (all walks : List Walk) (w : Walk) → all ≡ walks ++ w ∷ [] → AreWalks m before all → IsBegun m before w × AreWalks m (before + 1) walks
walk_popped m before all walks w e h =
    let i : AreWalks m before (walks ++ w ∷ []) = subst (λ (ws : List Walk). AreWalks m before ws) e h in
    let many = i.many in
    let long = one_longer walks w in
    let last = begun_last m (length m.tracks) walks w before (omega (arith, many, long)) i.begun in
    (last.0, record { many = omega (arith, many, long); begun = last.1 })

-- ---- lists, item by item

first_of_two : {A B : Type 0} (R : A → B → Type 0) (xs : List A) (ys : List B) (k : ℕ) (y : B) → AllZip R xs ys → slice_get ys k ≡ Some y → (x : A) × (slice_get xs k ≡ Some x)
first_of_two R [] [] k y z e = absurd cc
first_of_two R [] (w ∷ ys) k y z e = absurd z
first_of_two R (v ∷ xs) [] k y z e = absurd z
first_of_two R (v ∷ xs) (w ∷ ys) zero y z e = (v, refl)
first_of_two R (v ∷ xs) (w ∷ ys) (suc k) y z e = first_of_two R xs ys k y z.1 e

-- ---- the text of a track

-- what it says before its samples
abbrev pub front_of : heads.TrackHead → ℕ → List ℕ
front_of h start = head_lines h ++ number_line (codes "start") start ++ samples_heading h.id

-- the tracks that remain
abbrev pub tracks_left : Without → List ℕ → FileTree → List Track
tracks_left l file tree = (remaining l (presentation_of file tree)).tracks

-- one of them, but for its number
abbrev pub one_left : Without → List ℕ → FileTree → TrackTree → Track
one_left l file tree t = remaining_track l (movie_divisor l (presentation_of file tree)) (track_of file (file_parts tree) t)

-- the text of those from a place on
abbrev pub text_from : Without → List ℕ → FileTree → ℕ → List ℕ
text_from l file tree k = flat_map track_text (drop k (tracks_left l file tree))

-- the steps of walks over the tracks from a place on
abbrev pub steps_from : FileTree → ℕ → ℕ
steps_from tree k = sum_of (walk_steps tree) (drop k tree.movie.tracks)

-- The text of the tracks in front of a place is put or waits, and the others' is to come.
pub record TracksTold (l : Without) (file : List ℕ) (tree : FileTree) (k : ℕ) (Took : List ℕ → Type 0) (held held_after : List ℕ) (old new : ℕ) : Type 0 where
  pub goes : Going Took held held_after (text_from l file tree k) (text_from l file tree 0)
  pub steps : new + steps_from tree k ≤ old + walks_steps tree

pub tracks_begin : (l : Without) (file : List ℕ) (tree : FileTree) (Took : List ℕ → Type 0) (nothing : Took []) (held : List ℕ) (old : ℕ) → TracksTold l file tree 0 Took held held old old
tracks_begin l file tree Took nothing held old = record { goes = going_none Took nothing held (text_from l file tree 0); steps = omega arith }

-- as many steps as all may take, at most
pub tracks_most : (l : Without) (file : List ℕ) (tree : FileTree) (k : ℕ) (Took : List ℕ → Type 0) (held held_b : List ℕ) (old new : ℕ) → TracksTold l file tree k Took held held_b old new → new ≤ old + walks_steps tree
tracks_most l file tree k Took held held_b old new h = let steps = h.steps in omega (arith, steps)

-- the heads are those of the tracks that remain
heads_known : (l : Without) (file : List ℕ) (tree : FileTree) (scales : Scales) (known : List TrackHead) → HeadsRemain l file tree scales known → map track_seen known ≡ heads_of (remaining l (presentation_of file tree))
heads_known l file tree scales known h = h.heads_are ∙ (λ i. number_heads l 1 (remaining_heads l (h.scales_are.movie i) (h.scales_are.tracks i) (map track_head_of tree.movie.tracks))) ∙ sym (file_heads_remain l file tree)

heads_all : (l : Without) (file : List ℕ) (tree : FileTree) (scales : Scales) (known : List TrackHead) → HeadsRemain l file tree scales known → length known ≡ length tree.movie.tracks
heads_all l file tree scales known h = sym (length-map known track_seen) ∙ ap length (heads_known l file tree scales known h) ∙ length-map (tracks_left l file tree) (λ (t : Track). t.head) ∙ tracks_many l file tree

-- no track is left
pub tracks_end : (l : Without) (file : List ℕ) (m : MovieSeen) (tree : FileTree) (scales : Scales) (known : List TrackHead) (k : ℕ) (Took : List ℕ → Type 0) (held held_b : List ℕ) (old new : ℕ) → IsOpenedAs file m tree → HeadsRemain l file tree scales known
    → (length m.tracks ≡ length tree.movie.tracks → length known ≡ length tree.movie.tracks → length tree.movie.tracks ≤ k) → TracksTold l file tree k Took held held_b old new → BytesGoOn Took held held_b (text_from l file tree 0)
tracks_end l file m tree scales known k Took held held_b old new o remains over h =
    let many = tracks_many l file tree in
    let end = over (infos_all file m tree o) (heads_all l file tree scales known remains) in
    texts_all Took held held_b (text_from l file tree k) (text_from l file tree 0) h.goes (ap (flat_map track_text) (drop_all (tracks_left l file tree) k (omega (arith, many, end))))

module _ (l : Without) (file : List ℕ) (m : MovieSeen) (tree : FileTree) (scales : Scales) (known : List TrackHead) (k : ℕ) (o : IsOpenedAs file m tree) (remains : HeadsRemain l file tree scales known) (head : TrackHead) (info : TrackInfo)
    (h_at : slice_get known k ≡ Some head) (i_at : slice_get m.tracks k ≡ Some info) (divisor : ℕ) (divides : divisor ≡ unwrap_or (slice_get scales.tracks.items k) 1) where
  -- the track of the file
  pub track_there : (t : TrackTree) × (slice_get tree.movie.tracks k ≡ Some t)
  track_there = first_of_two (IsInfoOf file tree) tree.movie.tracks m.tracks k info o.tracks i_at

  left_at : slice_get (tracks_left l file tree) k ≡ Some (number_track l (k + 1) (one_left l file tree track_there.0))
  left_at = file_track_remains l file tree k track_there.0 track_there.1

  head_is : track_seen head ≡ (number_track l (k + 1) (one_left l file tree track_there.0)).head
  head_is = some_is (track_seen head) (number_track l (k + 1) (one_left l file tree track_there.0)).head (sym (get_map track_seen known k head h_at) ∙ ap (λ (hs : List heads.TrackHead). slice_get hs k) (heads_known l file tree scales known remains)
      ∙ get_map (λ (t : Track). t.head) (tracks_left l file tree) k (number_track l (k + 1) (one_left l file tree track_there.0)) left_at)

  -- its divisor
  own_is : divisor ≡ track_divisor l (track_of file (file_parts tree) track_there.0)
  own_is = divides ∙ ap (λ (ds : List ℕ). unwrap_or (slice_get ds k) 1) remains.scales_are.tracks ∙ ap (λ (d : Option ℕ). unwrap_or d 1) (file_divisor_at l file tree k track_there.0 track_there.1)

  abbrev pub front : List ℕ
  front = front_of (track_seen head) (divided divisor (start_left l info.start))

  -- the lines of its samples
  abbrev pub lines : List ℕ
  lines = flat_map sample_text (divided_samples l divisor (track_of file (file_parts tree) track_there.0))

  track_is : front ++ lines ≡ track_text (number_track l (k + 1) (one_left l file tree track_there.0))
  track_is =
      let t = track_there.0 in
      let start = (get_zip (IsInfoOf file tree) tree.movie.tracks m.tracks k t info o.tracks track_there.1 i_at).start in
      λ i. head_lines (head_is i) ++ number_line (codes "start") (divided (own_is i) (start_left l (start i))) ++ samples_heading (head_is i).id ++ flat_map sample_text (divided_samples l (own_is i) (track_of file (file_parts tree) t))

  -- first what the track says before its samples, then their lines
  two_parts : text_from l file tree k ≡ front ++ (lines ++ text_from l file tree (k + 1))
  two_parts =
      ap (flat_map track_text) (drop_plus (tracks_left l file tree) k (number_track l (k + 1) (one_left l file tree track_there.0)) left_at) ∙ ap (λ (bs : List ℕ). bs ++ text_from l file tree (k + 1)) (sym track_is) ∙ append_assoc front lines (text_from l file tree (k + 1))

  steps_next : steps_from tree k ≡ walk_steps tree track_there.0 + steps_from tree (k + 1)
  steps_next = ap (sum_of (walk_steps tree)) (drop_plus tree.movie.tracks k track_there.0 track_there.1)

  module _ {Y : Type 0} {takes : Y → Y → List ℕ → Type 0} (joins : IsJoining takes) (a b c d : Y) (held held_b held_c : List ℕ) (old mid : ℕ) (h : TracksTold l file tree k (takes a b) held held_b old mid) where
    -- what it says before its samples isn't taken along whole
    pub front_fails : TakesPrefix (takes b c) (held_b ++ front) → TakesPrefix (takes a c) (held ++ text_from l file tree 0)
    front_fails p = text_fails joins a b c held held_b (text_from l file tree k) (text_from l file tree 0) h.goes front (lines ++ text_from l file tree (k + 1)) two_parts p

    module _ (p : BytesGoOn (takes b c) held_b held_c front) where
      between : Going (takes a c) held held_c (lines ++ text_from l file tree (k + 1)) (text_from l file tree 0)
      between = text_next joins a b c held held_b (text_from l file tree k) (text_from l file tree 0) h.goes held_c front (lines ++ text_from l file tree (k + 1)) two_parts p

      -- nor are the lines
      pub lines_fail : TakesPrefix (takes c d) (held_c ++ lines) → TakesPrefix (takes a d) (held ++ text_from l file tree 0)
      lines_fail q = text_fails joins a c d held held_c (lines ++ text_from l file tree (k + 1)) (text_from l file tree 0) between lines (text_from l file tree (k + 1)) refl q

      -- one track more
      pub track_next : (held_d : List ℕ) (new : ℕ) → BytesGoOn (takes c d) held_c held_d lines → new ≤ mid + walk_steps tree track_there.0 → TracksTold l file tree (k + 1) (takes a d) held held_d old new
      track_next held_d new q work =
          let before = h.steps in
          record {
            goes = text_next joins a c d held held_c (lines ++ text_from l file tree (k + 1)) (text_from l file tree 0) between held_d lines (text_from l file tree (k + 1)) refl q;
            steps = omega (arith, before, steps_next, work);
          }

  -- steps of a walk over it
  pub track_most : (Took : List ℕ → Type 0) (held held_b : List ℕ) (old mid new : ℕ) → TracksTold l file tree k Took held held_b old mid → new ≤ mid + walk_steps tree track_there.0 → new ≤ old + walks_steps tree
  track_most Took held held_b old mid new h work = let before = h.steps in omega (arith, before, steps_next, work)
