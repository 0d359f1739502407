-- One track alone, of a presentation and of the boxes that say it.
use Rattle.std.proofs.Common.{◌≡◌, ℕ, zero, suc, ◌<◌, ◌≤◌, ◌==◌, Bool, true, false, List, [], ◌∷◌, length, map, Option, None, Some, refl, sym, ap, subst, ◌∙◌, arith, eq-eqb}
use Rattle.std.specs.Prelude.{not, ◌&&◌, ◌||◌, filter, nat_eq, slice_get, option_map, IfSome, Result, Ok, Err, IfOk, IfErr}
use Rattle.std.specs.Option.{option_or}
use Rattle.std.specs.List.{AllByRecursion, list_any}
use Rattle.std.proofs.lemmas.Bool.{eqb-true}
use Rattle.mp4_boxes.specs.format.Bytes.{AreBytes, sum_of}
use Rattle.mp4_boxes.proofs.Plain.{get_map, not_and_is_true, true_false}
use Rattle.mp4_boxes.specs.declared.refusal.Refusal.{Refusal}
use Rattle.mp4_boxes.specs.declared.refusal.Refusal.TheVariants as refusals
use Rattle.mp4_head.specs.format.Head as heads
use Rattle.mp4_head.specs.format.Tree.{TrackTree, are_distinct, track_head_of}
use Rattle.mp4_frag.specs.format.FragmentSamples.{Part}
use Rattle.mp4_present.specs.format.Denotes.{FileTree, file_parts, presentation_of, track_of}
use Rattle.mp4_present.specs.format.Presentation.{IsInTime, IsTrack, Presentation, Track, Valid, movie_length, sample_total, heads as heads_in}
use Rattle.mp4_present.specs.words.Movies.{MovieSeen}
use Rattle.mp4_present.specs.words.OneTrack.{at_place, only_tree}
use Rattle.mp4_present.specs.words.OpenedMovie.{IsOpenedAs, IsOpenedOwn}
use Rattle.mp4_present.specs.words.WalkSteps.{walk_steps, walks_steps}
use Rattle.mp4_present.specs.declared.track_info.TrackInfo.{TrackInfo}
use Rattle.mp4_present.proofs.DenotedValid.{denoted_is_valid}
use Rattle.mp4_present.proofs.JudgedTrees.{judged_denotes}
use Rattle.mp4_present.proofs.OneTrack.{shorter, track_bytes}
use Rattle.mp4_present.proofs.ShownAt.{sum_at_place}
use Rattle.mp4_plan.proofs.Judged.{judged_one}
use Rattle.mp4_plan.specs.words.WriterSteps.{track_writes, writing_steps}
use Rattle.mp4_answers.specs.format.Selected.{AreOthers, AreOtherTracks, HasNamed, Shows, alone, alone_tree}
use Rattle.mp4_answers.specs.words.OpenedTold.{IsAloneOf, LacksAlone}
use Rattle.mp4_answers.proofs.TrackTexts.{got_track, ids_are}

-- ---- of the boxes

-- what is so of each track is so of that
all_filter : {A : Type 0} (P : A → Type 0) (test : A → Bool) (xs : List A) → AllByRecursion P xs → AllByRecursion P (filter test xs)
all_filter P test [] h = tt
all_filter P test (x ∷ xs) h = by (test x) refl (all_filter P test xs h.1)
  where
    by : (b : Bool) → test x ≡ b → AllByRecursion P (filter test xs) → AllByRecursion P (filter test (x ∷ xs))
    by true e rest = rw e (h.0, rest)
    by false e rest = rw e rest

pub all_alone : (P : TrackTree → Type 0) (track : Option ℕ) (t : FileTree) → AllByRecursion P t.movie.tracks → AllByRecursion P (alone_tree track t).movie.tracks
all_alone P None t h = h
all_alone P (Some id) t h = all_filter P (λ (u : TrackTree). (track_head_of u).id == id) t.movie.tracks h

-- they say what the presentation says of it
abbrev SameFor : List ℕ → List Part → ℕ → List TrackTree → Type 0
SameFor file parts id ts = map (track_of file parts) (filter (λ (u : TrackTree). (track_head_of u).id == id) ts) ≡ filter (λ (t : Track). t.head.id == id) (map (track_of file parts) ts)

map_filter : (file : List ℕ) (parts : List Part) (id : ℕ) (ts : List TrackTree) → SameFor file parts id ts
map_filter file parts id [] = refl
map_filter file parts id (u ∷ ts) = by ((track_head_of u).id == id) refl (map_filter file parts id ts)
  where
    by : (b : Bool) → ((track_head_of u).id == id) ≡ b → SameFor file parts id ts → SameFor file parts id (u ∷ ts)
    by true e rest = rw e (ap (λ xs. track_of file parts u ∷ xs) rest)
    by false e rest = rw e rest

pub presents_alone : (file : List ℕ) (track : Option ℕ) (t : FileTree) → presentation_of file (alone_tree track t) ≡ alone track (presentation_of file t)
presents_alone file None t = refl
presents_alone file (Some id) t = λ i. record (presentation_of file t) { tracks = map_filter file (file_parts t) id t.movie.tracks i }

or_false : (a b : Bool) → a || b ≡ false → (a ≡ false) × (b ≡ false)
or_false true b e = absurd cc
or_false false b e = (refl, e)

-- ---- what is valid is, with one track alone

module _ (id : ℕ) where
  abbrev kept : List Track → List Track
  kept ts = filter (λ (t : Track). t.head.id == id) ts

  abbrev ids_in : List Track → List ℕ
  ids_in ts = map (λ (h : heads.TrackHead). h.id) (map (λ (t : Track). t.head) ts)

  -- one of two cases for each track
  sums : (f : Track → ℕ) (ts : List Track) → sum_of f (kept ts) ≤ sum_of f ts
  sums f [] = omega arith
  sums f (t ∷ ts) = by (t.head.id == id) refl (sums f ts)
    where
      by : (b : Bool) → (t.head.id == id) ≡ b → sum_of f (kept ts) ≤ sum_of f ts → sum_of f (kept (t ∷ ts)) ≤ sum_of f (t ∷ ts)
      by true e rest = rw e (omega (arith, rest))
      by false e rest = rw e (omega (arith, rest))

  abbrev Fewer : List Track → Type 0
  Fewer ts = sum_of track_bytes (map (λ (t : Track). t.head) (kept ts)) ≤ sum_of track_bytes (map (λ (t : Track). t.head) ts)

  bytes : (ts : List Track) → Fewer ts
  bytes [] = omega arith
  bytes (t ∷ ts) = by (t.head.id == id) refl (bytes ts)
    where
      by : (b : Bool) → (t.head.id == id) ≡ b → Fewer ts → Fewer (t ∷ ts)
      by true e rest = rw e (omega (arith, rest))
      by false e rest = rw e (omega (arith, rest))

  none_more : (n : ℕ) (ts : List Track) → list_any (nat_eq n) (ids_in ts) ≡ false → list_any (nat_eq n) (ids_in (kept ts)) ≡ false
  none_more n [] e = refl
  none_more n (t ∷ ts) e = let apart = or_false (nat_eq n t.head.id) (list_any (nat_eq n) (ids_in ts)) e in by (t.head.id == id) refl apart.0 (none_more n ts apart.1)
    where
      by : (b : Bool) → (t.head.id == id) ≡ b → nat_eq n t.head.id ≡ false → list_any (nat_eq n) (ids_in (kept ts)) ≡ false → list_any (nat_eq n) (ids_in (kept (t ∷ ts))) ≡ false
      by true h other rest = rw h (ap (λ b. b || list_any (nat_eq n) (ids_in (kept ts))) other ∙ rest)
      by false h other rest = rw h rest

  stay_distinct : (ts : List Track) → are_distinct (ids_in ts) ≡ true → are_distinct (ids_in (kept ts)) ≡ true
  stay_distinct [] e = refl
  stay_distinct (t ∷ ts) e = let apart = not_and_is_true (list_any (nat_eq t.head.id) (ids_in ts)) (are_distinct (ids_in ts)) e in by (t.head.id == id) refl (none_more t.head.id ts apart.0) (stay_distinct ts apart.1)
    where
      by : (b : Bool) → (t.head.id == id) ≡ b → list_any (nat_eq t.head.id) (ids_in (kept ts)) ≡ false → are_distinct (ids_in (kept ts)) ≡ true → are_distinct (ids_in (kept (t ∷ ts))) ≡ true
      by true h none rest = rw h (ap (λ b. not b && are_distinct (ids_in (kept ts))) none ∙ rest)
      by false h none rest = rw h rest

fewer : (id : ℕ) (ts : List Track) → length (kept id ts) ≤ length ts
fewer id [] = omega arith
fewer id (t ∷ ts) = by (t.head.id == id) refl (fewer id ts)
  where
    by : (b : Bool) → (t.head.id == id) ≡ b → length (kept id ts) ≤ length ts → length (kept id (t ∷ ts)) ≤ length (t ∷ ts)
    by true e rest = rw e (omega (arith, rest))
    by false e rest = rw e (omega (arith, rest))

pub fewer_samples : (track : Option ℕ) (p : Presentation) → sample_total (alone track p) ≤ sample_total p
fewer_samples None p = omega arith
fewer_samples (Some id) p = sums id (λ (t : Track). length t.samples) p.tracks

pub fewer_tracks : (track : Option ℕ) (p : Presentation) → length (alone track p).tracks ≤ length p.tracks
fewer_tracks None p = omega arith
fewer_tracks (Some id) p = fewer id p.tracks

pub alone_valid : (track : Option ℕ) (p : Presentation) → Valid p → Valid (alone track p)
alone_valid None p v = v
alone_valid (Some id) p v =
    let q = alone (Some id) p in
    let few = sums id (λ (t : Track). length t.samples) p.tracks in
    let samples = v.limits.samples in
    let short = shorter p.movie (heads_in q) (heads_in p) (movie_length q) (movie_length p) v.movie.matrix.nine (bytes id p.tracks) in
    let moov = v.limits.moov in
    record {
      movie = v.movie;
      tracks = all_filter IsTrack (λ (t : Track). t.head.id == id) p.tracks v.tracks;
      ids = stay_distinct id p.tracks v.ids;
      limits = record {
        samples = omega (arith, few, samples);
        times = all_filter (IsInTime p.movie.timescale) (λ (t : Track). t.head.id == id) p.tracks v.limits.times;
        moov = omega (arith, short, moov);
      };
    }

-- what is looked at of a file is one
pub shows_one : (track : Option ℕ) (file : List ℕ) (p q : Presentation) → Shows track file p → Shows track file q → p ≡ q
shows_one track file p q a b = a.is ∙ ap (alone track) (judged_one file a.whole b.whole a.judged b.judged) ∙ sym b.is

-- and valid
pub shows_valid : (track : Option ℕ) (file : List ℕ) (p : Presentation) → AreBytes file → Shows track file p → Valid p
shows_valid track file p bytes a = subst Valid (sym a.is) (alone_valid track a.whole (denoted_is_valid file a.whole bytes (judged_denotes file a.whole a.judged)))

-- what has one track is that alone
pub one_is_whole : (p : Presentation) (t : Track) → p.tracks ≡ t ∷ [] → alone (Some t.head.id) p ≡ p
one_is_whole p t e =
    let own : filter (λ (u : Track). u.head.id == t.head.id) (t ∷ []) ≡ t ∷ [] = rw (eq-eqb t.head.id t.head.id refl) refl in
    let same = ap (filter (λ (u : Track). u.head.id == t.head.id)) e ∙ own ∙ sym e in
    λ i. record p { tracks = same i }

-- ---- the track at a place has an ID that no other has

abbrev ids_of : List TrackTree → List ℕ
ids_of ts = map (λ (h : heads.TrackHead). h.id) (map track_head_of ts)

abbrev has_id : ℕ → TrackTree → Bool
has_id id u = (track_head_of u).id == id

same_yes : (a b : ℕ) → a ≡ b → nat_eq a b ≡ true
same_yes a b e = eq-eqb a b e

-- none of them has it
none_left : (id : ℕ) (ts : List TrackTree) → list_any (nat_eq id) (ids_of ts) ≡ false → filter (has_id id) ts ≡ []
none_left id [] e = refl
none_left id (u ∷ ts) e = let apart = or_false (nat_eq id (track_head_of u).id) (list_any (nat_eq id) (ids_of ts)) e in by (has_id id u) refl apart.0 (none_left id ts apart.1)
  where
    by : (b : Bool) → has_id id u ≡ b → nat_eq id (track_head_of u).id ≡ false → filter (has_id id) ts ≡ [] → filter (has_id id) (u ∷ ts) ≡ []
    by true h unlike rest = absurd (true_false (nat_eq id (track_head_of u).id) (same_yes id (track_head_of u).id (sym (eqb-true (track_head_of u).id id h))) unlike)
    by false h unlike rest = rw h rest

-- one of them has it
some_there : (id k : ℕ) (ts : List TrackTree) (t : TrackTree) → slice_get ts k ≡ Some t → (track_head_of t).id ≡ id → list_any (nat_eq id) (ids_of ts) ≡ true
some_there id k [] t e same = absurd cc
some_there id zero (u ∷ ts) t e same =
    let is : u ≡ t = cc in
    ap (λ b. b || list_any (nat_eq id) (ids_of ts)) (same_yes id (track_head_of u).id (sym (ap (λ (x : TrackTree). (track_head_of x).id) is ∙ same)))
some_there id (suc k) (u ∷ ts) t e same = ap (λ b. nat_eq id (track_head_of u).id || b) (some_there id k ts t e same) ∙ or_true (nat_eq id (track_head_of u).id)
  where
    or_true : (a : Bool) → a || true ≡ true
    or_true true = refl
    or_true false = refl

pub only_one : (id k : ℕ) (ts : List TrackTree) (t : TrackTree) → are_distinct (ids_of ts) ≡ true → slice_get ts k ≡ Some t → (track_head_of t).id ≡ id → at_place k ts ≡ filter (has_id id) ts
only_one id k [] t d e same = absurd cc
only_one id zero (u ∷ ts) t d e same =
    let is : u ≡ t = cc in
    let own : (track_head_of u).id ≡ id = ap (λ (x : TrackTree). (track_head_of x).id) is ∙ same in
    let apart = not_and_is_true (list_any (nat_eq (track_head_of u).id) (ids_of ts)) (are_distinct (ids_of ts)) d in
    rw (eq-eqb (track_head_of u).id id own) (ap (λ rest. u ∷ rest) (sym (none_left id ts (ap (λ n. list_any (nat_eq n) (ids_of ts)) (sym own) ∙ apart.0))))
only_one id (suc k) (u ∷ ts) t d e same =
    let apart = not_and_is_true (list_any (nat_eq (track_head_of u).id) (ids_of ts)) (are_distinct (ids_of ts)) d in
    by (has_id id u) refl apart.0 (only_one id k ts t apart.1 e same)
  where
    by : (b : Bool) → has_id id u ≡ b → list_any (nat_eq (track_head_of u).id) (ids_of ts) ≡ false → at_place k ts ≡ filter (has_id id) ts → at_place k ts ≡ filter (has_id id) (u ∷ ts)
    by true h unlike rest = absurd (true_false (list_any (nat_eq id) (ids_of ts)) (some_there id k ts t e same) (ap (λ n. list_any (nat_eq n) (ids_of ts)) (sym (eqb-true (track_head_of u).id id h)) ∙ unlike))
    by false h unlike rest = rw h rest

-- ---- the movie that shows it

-- the IDs of its tracks, one of which is the ID
not_others : (id k : ℕ) (ids : List ℕ) → slice_get ids k ≡ Some id → AreOthers id ids → ⊥
not_others id k [] e h = absurd cc
not_others id zero (n ∷ ids) e h = h.0 (cc)
not_others id (suc k) (n ∷ ids) e h = not_others id k ids e h.1

module _ (file : List ℕ) (m : MovieSeen) (tree : FileTree) (o : IsOpenedOwn file m tree) where
  pub whole_of : IsAloneOf None file tree m
  whole_of = record {
    opened = subst (λ (only : Option ℕ). IsOpenedAs file m (only_tree only tree)) (sym o.own_tracks) o.opened;
    own_edits = o.own_edits;
    is = ap (λ (only : Option ℕ). only_tree only tree) o.own_tracks;
    has = tt;
  }

  module _ (id k : ℕ) (lt : k < length m.tracks) (with_id : IfSome (slice_get m.tracks k) (λ i. i.id ≡ id)) where
    abbrev found : (t : TrackTree) × (slice_get tree.movie.tracks k ≡ Some t) × ((track_head_of t).id ≡ id)
    found = got_track file tree tree.movie.tracks m.tracks k id o.opened.tracks lt with_id

    pub alone_is : only_tree (Some k) tree ≡ alone_tree (Some id) tree
    alone_is = λ i. record tree { movie = record tree.movie { tracks = only_one id k tree.movie.tracks found.0 o.opened.is_sound.track_ids found.1 found.2 i } }

    pub has_it : HasNamed (Some id) (presentation_of file tree)
    has_it = not_others id k (map (λ (h : heads.TrackHead). h.id) (heads_in (presentation_of file tree)))
        (get_map (λ (h : heads.TrackHead). h.id) (heads_in (presentation_of file tree)) k (track_head_of found.0) (get_map (λ (t : Track). t.head) (presentation_of file tree).tracks k (track_of file (file_parts tree) found.0) (get_map (track_of file
        (file_parts tree)) tree.movie.tracks k found.0 found.1))
        ∙ ap (λ n. Some n) found.2)

    pub alone_made : (result : Result MovieSeen Refusal) → IfOk result (λ n. IsOpenedAs file n (only_tree (Some k) tree)) → IfOk result (λ n. (n.only ≡ option_or m.only (Some k)) × (n.waits ≡ option_map (at_place k) m.waits)) → IfOk result (IsAloneOf (Some id) file tree)
    alone_made (Ok n) opened kept =
        let only : n.only ≡ Some k = kept.0 ∙ ap (λ (was : Option ℕ). option_or was (Some k)) o.own_tracks in
        record {
          opened = subst (λ (only : Option ℕ). IsOpenedAs file n (only_tree only tree)) (sym only) opened;
          own_edits = kept.1 ∙ ap (option_map (at_place k)) o.own_edits;
          is = ap (λ (only : Option ℕ). only_tree only tree) only ∙ alone_is;
          has = has_it;
        }
    alone_made (Err e) opened kept = tt

-- where it is refused, that is for want of memory
pub only_memory : {A : Type 0} (id : ℕ) (p : Presentation) (result : Result A Refusal) → IfErr result (λ r. r ≡ refusals.Memory) → IfErr result (LacksAlone (Some id) p)
only_memory id p (Ok x) h = tt
only_memory id p (Err e) h = subst (LacksAlone (Some id) p) (sym h) tt

-- the numbers of no track have the ID
pub others_lack : (file : List ℕ) (m : MovieSeen) (tree : FileTree) (id : ℕ) → IsOpenedOwn file m tree → AreOthers id (map (λ (i : TrackInfo). i.id) m.tracks) → AreOtherTracks id (presentation_of file tree)
others_lack file m tree id o h = subst (AreOthers id) (ids_are file tree tree.movie.tracks m.tracks o.opened.tracks) h

-- ---- steps

-- walks over one track are no more than over all
pub fewer_walks : (only : Option ℕ) (t : FileTree) → walks_steps (only_tree only t) ≤ walks_steps t
fewer_walks None t = omega arith
fewer_walks (Some k) t = sum_at_place (walk_steps t) k t.movie.tracks

pub fewer_writes : (only : Option ℕ) (t : FileTree) → writing_steps (only_tree only t) ≤ writing_steps t
fewer_writes None t = omega arith
fewer_writes (Some k) t = sum_at_place (track_writes t) k t.movie.tracks
