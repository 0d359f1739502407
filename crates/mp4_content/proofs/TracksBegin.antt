-- How long tracks wait, by when each of them begins.
use Rattle.std.proofs.Common.{◌≡◌, ℕ, zero, suc, ◌+◌, ◌^◌, ◌<◌, ◌==◌, Bool, true, false, if◌then◌else◌, ◌&&◌, ◌||◌, not, List, [], ◌∷◌, ◌++◌, length, map, take, Option, Some, None, refl, sym, ap, subst, ◌∙◌, mul-pos, arith, eqb-true}
use Rattle.std.specs.Prelude.{IfSome, slice_get, slice_index_or}
use Rattle.std.specs.List.{AllByRecursion, AllZip, list_any}
use Rattle.std.proofs.lemmas.Bool.{eqb-false}
use Rattle.mp4_boxes.proofs.Plain.{get_every, get_some, get_zip, nil_cons, or_is_false, or_left, or_right}
use Rattle.mp4_tables.specs.format.Groups.{GroupKey}
use Rattle.mp4_tables.specs.format.PlainSamples.{PlacedSample}
use Rattle.mp4_tables.specs.words.Timed.{timed}
use Rattle.mp4_tables.specs.declared.sample.SampleAt.{SampleAt}
use Rattle.mp4_head.specs.format.Head as heads
use Rattle.mp4_head.specs.format.Tree.{TrackTree, movie_head_of, track_head_of}
use Rattle.mp4_head.proofs.TreeBytes.{movie_of_bytes}
use Rattle.mp4_head.proofs.ValidHead.{movie_head_valid}
use Rattle.mp4_present.specs.format.Denotes.{FileTree, file_parts, placed_of, sample_of, track_of}
use Rattle.mp4_present.specs.words.Movies.{MovieSeen}
use Rattle.mp4_present.specs.words.OneTrack.{only_tree}
use Rattle.mp4_present.specs.words.OpenedMovie.{IsInfoOf, IsOpenedAs, IsShownOf, IsTreeOf}
use Rattle.mp4_present.specs.words.SamplesComing.{track_samples}
use Rattle.mp4_present.specs.words.ToldTrees.{IsTold}
use Rattle.mp4_present.specs.declared.track_info.TrackInfo.{TrackInfo}
use Rattle.mp4_present.specs.format.Presentation.{Sample, Track, Presentation}
use Rattle.mp4_content.specs.format.LeadIns.{Moment, some_sample, has_samples, begins_simply, is_last, is_lead_in, says_more, says_beginnings, first_moments, later, delay, wait_of, delays_of}
use Rattle.mp4_content.specs.format.Reduced.{first_offset}
use Rattle.mp4_content.specs.words.Delays.{AllCanBegin, CanBegin, IsFirstOf, SayBeginnings, SaysBeginning, later_than, moment_of, moments_in, told_waits}
use Rattle.mp4_content.specs.declared.delays.Beginning.{Beginning}
use Rattle.mp4_content.proofs.AtPlaces.{read_at, taken_next}
use Rattle.mp4_content.proofs.LeadInsTracks.{moments_of_none, moments_of_some, wait_of_none, wait_of_some}

moments_are : (s : ℕ) (tracks : List Track) (found : List (Option Beginning)) → AllZip SaysBeginning tracks found → moments_in s found ≡ first_moments s tracks
moments_are s [] [] h = refl
moments_are s [] (b ∷ found) h = absurd h
moments_are s (t ∷ tracks) [] h = absurd h
moments_are s (t ∷ tracks) (None ∷ found) h = moments_are s tracks found h.1 ∙ sym (moments_of_none s t tracks h.0)
moments_are s (t ∷ tracks) (Some b ∷ found) h = (λ i. h.0.1 s i ∷ moments_are s tracks found h.1 i) ∙ sym (moments_of_some s t tracks h.0.0)

-- where no track has samples
none_wait : (s : ℕ) (wait : Moment → ℕ) (tracks : List Track) (found : List (Option Beginning)) → AllZip SaysBeginning tracks found → moments_in s found ≡ [] → map (later_than s None) found ≡ map (wait_of s wait) tracks
none_wait s wait [] [] h e = refl
none_wait s wait [] (b ∷ found) h e = absurd h
none_wait s wait (t ∷ tracks) [] h e = absurd h
none_wait s wait (t ∷ tracks) (None ∷ found) h e = λ i. sym (wait_of_none s wait t h.0) i ∷ none_wait s wait tracks found h.1 e i
none_wait s wait (t ∷ tracks) (Some b ∷ found) h e = absurd (nil_cons (moment_of s b) (moments_in s found) (sym e))

waits_are : (s : ℕ) (first : Beginning) (wait : Moment → ℕ) → 0 < s → ((y : Moment) → 0 < y.scale → wait y ≡ later y (moment_of s first))
    → (tracks : List Track) (found : List (Option Beginning)) → AllCanBegin found → AllZip SaysBeginning tracks found → map (later_than s (Some first)) found ≡ map (wait_of s wait) tracks
waits_are s first wait some from [] [] can h = refl
waits_are s first wait some from [] (b ∷ found) can h = absurd h
waits_are s first wait some from (t ∷ tracks) [] can h = absurd h
waits_are s first wait some from (t ∷ tracks) (None ∷ found) can h = λ i. sym (wait_of_none s wait t h.0) i ∷ waits_are s first wait some from tracks found can.1 h.1 i
waits_are s first wait some from (t ∷ tracks) (Some b ∷ found) can h =
    let one : later (moment_of s b) (moment_of s first) ≡ wait_of s wait t = sym (from (moment_of s b) (mul-pos some can.0.timescale)) ∙ ap wait (h.0.1 s) ∙ sym (wait_of_some s wait t h.0.0) in
    λ i. one i ∷ waits_are s first wait some from tracks found can.1 h.1 i

-- ---- what is told

said : (p : Presentation) → says_beginnings p ≡ true → told_waits p ≡ Some (delays_of p)
said p e = λ i. if e i then Some (delays_of p) else None

not_said : (p : Presentation) → says_beginnings p ≡ false → told_waits p ≡ None
not_said p e = λ i. if e i then Some (delays_of p) else None

pub more_said : (p : Presentation) → list_any says_more p.tracks ≡ true → None ≡ told_waits p
more_said p e = sym (not_said p (λ i. not (e i)))

first_waits : (s : ℕ) (p : Presentation) (found : List (Option Beginning)) (first : Option Beginning) → 0 < s → AllCanBegin found → AllZip SaysBeginning p.tracks found → IsFirstOf s found first → map (later_than s first) found ≡ map (wait_of s (delay (moments_in s found))) p.tracks
first_waits s p found None some can h is = none_wait s (delay (moments_in s found)) p.tracks found h is
first_waits s p found (Some first) some can h is = waits_are s first (delay (moments_in s found)) some is.2 p.tracks found can h

pub all_begin : (s : ℕ) (p : Presentation) (found : List (Option Beginning)) (first : Option Beginning) → 0 < s → s ≡ p.movie.timescale → AllCanBegin found → SayBeginnings p.tracks (Some found) → IsFirstOf s found first → Some (map (later_than s first) found) ≡ told_waits p
all_begin s p found first some scale can h is =
    let ms = moments_are s p.tracks found h.1 in
    let own = first_waits s p found first some can h.1 is in
    let same : map (wait_of s (delay (moments_in s found))) p.tracks ≡ delays_of p = (λ i. map (wait_of s (delay (ms i))) p.tracks) ∙ ap (λ n. map (wait_of n (delay (first_moments n p.tracks))) p.tracks) scale in
    let yes : says_beginnings p ≡ true = λ i. not (h.0 i) in
    ap (λ (ws : List ℕ). Some ws) (own ∙ same) ∙ sym (said p yes)

-- ---- of what was read of a track

some_is : (samples : List Sample) (n : ℕ) → n ≡ length samples → n ≡ 0 → some_sample samples ≡ false
some_is [] n e h = refl
some_is (s ∷ samples) n e h = absurd (omega (arith, e, h))

some_are : (samples : List Sample) (n : ℕ) → n ≡ length samples → (n ≡ 0 → ⊥) → some_sample samples ≡ true
some_are [] n e h = absurd (h e)
some_are (s ∷ samples) n e h = refl

-- the numbers of the track at a place
pub info_at : (file : List ℕ) (m : MovieSeen) (tree : FileTree) (k : ℕ) (t : TrackTree) (shown : TrackInfo) → IsOpenedAs file m tree → k < length m.tracks → slice_get tree.movie.tracks k ≡ Some t → shown ≡ slice_index_or m.tracks k shown → IsInfoOf file tree t shown
info_at file m tree k t shown o lt is e =
    let there = get_some m.tracks k lt in
    let info : TrackInfo = there.0 in
    subst (IsInfoOf file tree t) (sym (read_at m.tracks k info shown there.1 e)) (get_zip (IsInfoOf file tree) tree.movie.tracks m.tracks k t info o.tracks is there.1)

pub timescale_some : (file : List ℕ) (m : MovieSeen) (tree : FileTree) (k : ℕ) (t : TrackTree) (info : TrackInfo) → IsOpenedAs file m tree → slice_get tree.movie.tracks k ≡ Some t → IsInfoOf file tree t info → 0 < info.timescale
timescale_some file m tree k t info o is are =
    let own : 0 < (track_head_of t).media.timescale = get_every (λ (u : TrackTree). 0 < (track_head_of u).media.timescale) tree.movie.tracks k t is o.is_sound.timescales in
    let same = are.timescale in
    omega (arith, own, same)

pub without_samples : (file : List ℕ) (tree : FileTree) (t : TrackTree) (info : TrackInfo) → IsInfoOf file tree t info → info.samples ≡ 0 → has_samples (track_of file (file_parts tree) t) ≡ false
without_samples file tree t info are e = some_is (track_of file (file_parts tree) t).samples info.samples are.samples e

-- the first that comes is the first
module _ (file : List ℕ) (keys : List GroupKey) (due : ℕ) where
  none_timed : (placed : List PlacedSample) → slice_get (timed keys 0 due placed) 0 ≡ None → some_sample (map (sample_of file) placed) ≡ false
  none_timed [] e = refl
  none_timed (p ∷ placed) e = absurd cc

  first_timed : (placed : List PlacedSample) (s : SampleAt) → slice_get (timed keys 0 due placed) 0 ≡ Some s → (some_sample (map (sample_of file) placed) ≡ true) × (first_offset (map (sample_of file) placed) ≡ s.cto)
  first_timed [] s e = absurd cc
  first_timed (p ∷ placed) s e = (refl, cc)

pub none_comes : (file : List ℕ) (tree : FileTree) (t : TrackTree) → slice_get (track_samples tree t) 0 ≡ None → has_samples (track_of file (file_parts tree) t) ≡ false
none_comes file tree t e = none_timed file _ _ (placed_of (file_parts tree) t) e

pub first_comes : (file : List ℕ) (tree : FileTree) (t : TrackTree) (s : SampleAt) → slice_get (track_samples tree t) 0 ≡ Some s → (has_samples (track_of file (file_parts tree) t) ≡ true) × (first_offset (track_of file (file_parts tree) t).samples ≡ s.cto)
first_comes file tree t s e = first_timed file _ _ (placed_of (file_parts tree) t) s e

more_is : (file : List ℕ) (tree : FileTree) (t : TrackTree) (info : TrackInfo) (edits : List heads.Edit) → IsInfoOf file tree t info → edits ≡ (track_head_of t).edits → (if info.samples == 0 then false else not (is_last edits || is_lead_in edits)) ≡ says_more (track_of file (file_parts tree) t)
more_is file tree t info edits are e = by (info.samples == 0) refl
  where
    own : Track
    own = track_of file (file_parts tree) t

    by : (b : Bool) → (info.samples == 0) ≡ b → (if b then false else not (is_last edits || is_lead_in edits)) ≡ says_more own
    by true h = λ i. sym (some_is own.samples info.samples are.samples (eqb-true info.samples 0 h)) i && not (begins_simply own)
    by false h = λ i. sym (some_are own.samples info.samples are.samples (eqb-false info.samples 0 h)) i && not (is_last (e i) || is_lead_in (e i))

pub more_found : (file : List ℕ) (tree : FileTree) (t : TrackTree) (info : TrackInfo) (edits : List heads.Edit) (found v : Bool) → IsInfoOf file tree t info → edits ≡ (track_head_of t).edits
    → found ≡ (if info.samples == 0 then false else not (is_last edits || is_lead_in edits)) → found ≡ v → says_more (track_of file (file_parts tree) t) ≡ v
more_found file tree t info edits found v are e is h = sym (more_is file tree t info edits are e) ∙ sym is ∙ h

-- ---- tracks one after the other

any_none : (tracks : List Track) (t : Track) → list_any says_more tracks ≡ false → says_more t ≡ false → list_any says_more (tracks ++ t ∷ []) ≡ false
any_none [] t h e = λ i. e i || false
any_none (u ∷ tracks) t h e = let parts = or_is_false (says_more u) (list_any says_more tracks) h in λ i. parts.0 i || any_none tracks t parts.1 e i

begin_behind : (tracks : List Track) (found : List (Option Beginning)) (t : Track) (b : Option Beginning) → AllZip SaysBeginning tracks found → SaysBeginning t b → AllZip SaysBeginning (tracks ++ t ∷ []) (found ++ b ∷ [])
begin_behind [] [] t b h e = (e, tt)
begin_behind [] (x ∷ found) t b h e = absurd h
begin_behind (u ∷ tracks) [] t b h e = absurd h
begin_behind (u ∷ tracks) (x ∷ found) t b h e = (h.0, begin_behind tracks found t b h.1 e)

pub begin_more : (tracks : List Track) (k : ℕ) (t : Track) (found : List (Option Beginning)) (b : Option Beginning) → slice_get tracks k ≡ Some t → SayBeginnings (take k tracks) (Some found) → says_more t ≡ false → SaysBeginning t b → SayBeginnings (take (k + 1) tracks) (Some (found ++ b ∷ []))
begin_more tracks k t found b is h more e =
    subst (λ (ts : List Track). SayBeginnings ts (Some (found ++ b ∷ []))) (sym (taken_next tracks k t is)) (any_none (take k tracks) t h.0 more, begin_behind (take k tracks) found t b h.1 e)

pub more_there : (tracks : List Track) (k : ℕ) (t : Track) → slice_get tracks k ≡ Some t → says_more t ≡ true → list_any says_more tracks ≡ true
more_there [] k t is e = absurd cc
more_there (u ∷ tracks) zero t is e = let same : u ≡ t = cc in or_left (says_more u) (list_any says_more tracks) (ap says_more same ∙ e)
more_there (u ∷ tracks) (suc k) t is e = or_right (says_more u) (list_any says_more tracks) (more_there tracks k t is e)

pub all_behind : (found : List (Option Beginning)) (b : Option Beginning) → AllCanBegin found → IfSome b CanBegin → AllCanBegin (found ++ b ∷ [])
all_behind [] b h e = (e, tt)
all_behind (x ∷ found) b h e = (h.0, all_behind found b h.1 e)

-- ---- the movie

-- its timescale is above 0, where its tracks wait too
pub movie_scale : (file : List ℕ) (m : MovieSeen) (tree : FileTree) → IsOpenedAs file m tree → 0 < (movie_head_of tree.movie).timescale
unfolding IsShownOf
movie_scale file m tree o = by m.waits o.shown.2
  where
    own : FileTree
    own = o.shown.0

    valid : 0 < (movie_head_of own.movie).timescale
    valid =
        let is : IsTreeOf file own = o.shown.1 in
        (movie_head_valid own.movie (movie_of_bytes own.movie is.bytes.moov is.is_tree.movie) is.is_tree.movie is.is_sound.movie).timescale_not_0

    by : (w : Option (List ℕ)) → IsTold w (only_tree m.only own) tree → 0 < (movie_head_of tree.movie).timescale
    by None e = subst (λ (x : FileTree). 0 < (movie_head_of x.movie).timescale) (sym e) valid
    by (Some waits) told = let scale = ap (λ (h : heads.MovieHead). h.timescale) told.movie.head in omega (arith, scale)

-- each lasts no longer than an edit can
pub all_fit : (s : ℕ) (first : Option Beginning) (found : List (Option Beginning)) → AllByRecursion (λ n. n < 2 ^ 64) (map (later_than s first) found)
all_fit s first [] = tt
all_fit s first (None ∷ found) = (omega arith, all_fit s first found)
all_fit s None (Some b ∷ found) = (omega arith, all_fit s None found)
all_fit s (Some first) (Some b ∷ found) = (omega arith, all_fit s (Some first) found)
