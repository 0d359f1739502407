-- A file of which one track is shown alone has boxes that say it.
use Rattle.std.proofs.Common.{◌≡◌, inl, inr, true, ℕ, zero, suc, ◌+◌, ◌<◌, ◌≤◌, List, [], ◌∷◌, length, map, Option, None, Some, refl, sym, ap, subst, ◌∙◌, arith}
use Rattle.std.specs.Prelude.{option_map}
use Rattle.std.specs.Option.{option_or}
use Rattle.std.specs.List.{AllByRecursion, AllZip}
use Rattle.std.proofs.lemmas.List.{length-append}
use Rattle.mp4_boxes.specs.format.Bytes.{sum_of}
use Rattle.mp4_boxes.specs.declared.fault.Fault.{Fault}
use Rattle.mp4_boxes.specs.declared.refusal.Refusal.{Refusal}
use Rattle.mp4_boxes.specs.declared.refusal.Refusal.TheVariants as refusals
use Rattle.mp4_boxes.specs.format.Box.{Box}
use Rattle.mp4_boxes.proofs.Plain.{get_every, length_zip}
use Rattle.mp4_tables.specs.format.TableRules.{Fit}
use Rattle.mp4_tables.specs.format.Tables.{tables_of}
use Rattle.mp4_frag.specs.words.Judged.{track_seen}
use Rattle.mp4_head.specs.format.Head as heads
use Rattle.mp4_head.specs.format.Tree.{TrackTree, are_distinct, movie_head_of, track_head_of, trexes_of}
use Rattle.mp4_head.specs.format.Writing.{ftyp_bytes, head_bytes, moov_bytes, trak_bytes, trex_bytes}
use Rattle.mp4_head.specs.declared.heads.MovieHead.{MovieHead}
use Rattle.mp4_head.proofs.HeadLengths.{length_head}
use Rattle.mp4_head.proofs.TreeBytes.{movie_of_bytes}
use Rattle.mp4_head.proofs.ValidHead.{movie_head_valid}
use Rattle.mp4_present.specs.format.Denotes.{FileTree, file_parts, presentation_of, surroundings, track_of}
use Rattle.mp4_present.specs.format.Presentation.{IsInTime, IsWithinLimits, Presentation, Track, movie_length}
use Rattle.mp4_present.specs.words.Measured.{LimitFails}
use Rattle.mp4_present.specs.words.Movies.{IsMovie, LieIn, MovieSeen}
use Rattle.mp4_present.specs.words.OneTrack.{at_place, only_of, only_tree, shown_at}
use Rattle.mp4_present.specs.words.OpenedMovie.{AreTablesOf, HoldsTrack, IsInfoOf, IsOpenedAs, IsShownOf, IsTreeOf, plain_seen}
use Rattle.mp4_present.specs.words.OwnTrafs.{IsOwn}
use Rattle.mp4_present.specs.words.ToldTrees.{AreTracksTold, IsTold, later_waits}
use Rattle.mp4_present.specs.words.Waits.{HasLimits, NamesLimit, RefusesWaits}
use Rattle.mp4_present.proofs.ShownAt.{all_at_place, map_shown, sum_at_place, zip_at_place, zip_weaker}
use Rattle.mp4_present.proofs.ToldTrees.{shown_said}

-- ---- one of some values

distinct_at : (k : ℕ) (ids : List ℕ) → are_distinct (at_place k ids) ≡ true
distinct_at zero [] = refl
distinct_at (suc k) [] = refl
distinct_at zero (x ∷ ids) = refl
distinct_at (suc k) (x ∷ ids) = distinct_at k ids

-- one of no more than one is all of them
first_of_few : {A : Type 0} (k : ℕ) (xs : List A) → length xs ≤ 1 → k < length xs → at_place k xs ≡ xs
first_of_few k [] few less = absurd (omega (arith, less))
first_of_few zero (x ∷ []) few less = refl
first_of_few (suc k) (x ∷ []) few less = absurd (omega (arith, less))
first_of_few k (x ∷ y ∷ xs) few less = absurd (omega (arith, few))

few_at : {A : Type 0} (k : ℕ) (xs : List A) → length (at_place k xs) ≤ 1
few_at zero [] = omega arith
few_at (suc k) [] = omega arith
few_at zero (x ∷ xs) = omega arith
few_at (suc k) (x ∷ xs) = few_at k xs

-- so one that is shown alone already stays
only_few : {A : Type 0} (only : Option ℕ) (k : ℕ) (xs : List A) → k < length (shown_at only xs) → shown_at (option_or only (Some k)) xs ≡ at_place k (shown_at only xs)
only_few None k xs less = refl
only_few (Some place) k xs less = sym (first_of_few k (at_place place xs) (few_at place xs) less)

nothing_at : {A : Type 0} (k : ℕ) → at_place {A = A} k [] ≡ []
nothing_at zero = refl
nothing_at (suc k) = refl

-- ---- one of those that are told to wait

told_at : (k : ℕ) (waits : List ℕ) (us ts : List TrackTree) → AreTracksTold waits us ts → AreTracksTold (at_place k waits) (at_place k us) (at_place k ts)
told_at k waits [] (t ∷ ts) told = absurd told
told_at k waits (u ∷ us) [] told = absurd told
told_at zero waits [] [] told = tt
told_at (suc k) waits [] [] told = tt
told_at zero [] (u ∷ us) (t ∷ ts) told = (told.0, tt)
told_at zero (wait ∷ waits) (u ∷ us) (t ∷ ts) told = (told.0, tt)
told_at (suc k) [] (u ∷ us) (t ∷ ts) told = subst (λ (waits : List ℕ). AreTracksTold waits (at_place k us) (at_place k ts)) (nothing_at k) (told_at k [] us ts told.1)
told_at (suc k) (wait ∷ waits) (u ∷ us) (t ∷ ts) told = told_at k waits us ts told.1

-- it waits as long as among all
told_alone : (k : ℕ) (waits : Option (List ℕ)) (u t : FileTree) → IsTold waits u t → IsTold (option_map (at_place k) waits) (only_tree (Some k) u) (only_tree (Some k) t)
told_alone k None u t e = ap (only_tree (Some k)) e
told_alone k (Some waits) u t told = record {
  is = λ i. record (told.is i) { movie = (only_tree (Some k) t).movie };
  movie = record {
    is = λ i. record (told.movie.is i) { movie = t.movie.movie; tracks = at_place k t.movie.tracks };
    head = told.movie.head;
    tracks = told_at k waits u.movie.tracks t.movie.tracks told.movie.tracks;
  };
}

tracks_many : (waits : List ℕ) (us ts : List TrackTree) → AreTracksTold waits us ts → length us ≡ length ts
tracks_many waits [] [] told = refl
tracks_many waits [] (t ∷ ts) told = absurd told
tracks_many waits (u ∷ us) [] told = absurd told
tracks_many waits (u ∷ us) (t ∷ ts) told = ap suc (tracks_many (later_waits waits) us ts told.1)

told_many : (waits : Option (List ℕ)) (u t : FileTree) → IsTold waits u t → length u.movie.tracks ≡ length t.movie.tracks
told_many None u t e = ap (λ (x : FileTree). length x.movie.tracks) (sym e)
told_many (Some waits) u t told = tracks_many waits u.movie.tracks t.movie.tracks told.movie.tracks

matrix_told : (waits : Option (List ℕ)) (u t : FileTree) → IsTold waits u t → (movie_head_of t.movie).matrix ≡ (movie_head_of u.movie).matrix
matrix_told None u t e = ap (λ (x : FileTree). (movie_head_of x.movie).matrix) e
matrix_told (Some waits) u t told = ap (λ (h : heads.MovieHead). h.matrix) told.movie.head

-- ---- the limits

-- the bytes of one track in the `moov` are no more than those of all
abbrev pub track_bytes : heads.TrackHead → ℕ
track_bytes t = length (trak_bytes t) + length (trex_bytes t)

pub shorter : (m : heads.MovieHead) (some all : List heads.TrackHead) (n k : ℕ) → length m.matrix ≡ 9 → sum_of track_bytes some ≤ sum_of track_bytes all → length (moov_bytes m some n) ≤ length (moov_bytes m all k)
shorter m some all n k nine less =
    let a = length_head m some n nine in
    let b = length_head m all k nine in
    let c : length (head_bytes m some n) ≡ length ftyp_bytes + length (moov_bytes m some n) = length-append ftyp_bytes (moov_bytes m some n) in
    let d : length (head_bytes m all k) ≡ length ftyp_bytes + length (moov_bytes m all k) = length-append ftyp_bytes (moov_bytes m all k) in
    omega (arith, a, b, c, d, less)

-- one track of what is within the limits is
pub only_within : (p : Presentation) (k : ℕ) → length p.movie.matrix ≡ 9 → IsWithinLimits p → IsWithinLimits (only_of (Some k) p)
only_within p k nine l =
    let q = only_of (Some k) p in
    let heads_of : List Track → List heads.TrackHead = map (λ (t : Track). t.head) in
    let few = sum_at_place (λ (t : Track). length t.samples) k p.tracks in
    let samples = l.samples in
    let less : sum_of track_bytes (heads_of (at_place k p.tracks)) ≤ sum_of track_bytes (heads_of p.tracks) = subst (λ (hs : List heads.TrackHead). sum_of track_bytes hs ≤ sum_of track_bytes (heads_of p.tracks)) (sym (map_shown (λ (t : Track). t.head) (Some k) p.tracks))
    (sum_at_place track_bytes k (heads_of p.tracks)) in
    let short = shorter p.movie (heads_of (at_place k p.tracks)) (heads_of p.tracks) (movie_length q) (movie_length p) nine less in
    let moov = l.moov in
    record {
      samples = omega (arith, few, samples);
      times = all_at_place (IsInTime p.movie.timescale) k p.tracks l.times;
      moov = omega (arith, short, moov);
    }

-- no limit is named then
pub none_fails : (p : Presentation) (head : MovieHead) (moov : Box) (f : Fault) → IsWithinLimits p → LimitFails p head moov f → ⊥
none_fails p head moov f l fails = elim fails [
  | inl late ↦ late.passes (get_every (IsInTime p.movie.timescale) p.tracks late.k late.t late.there l.times)
  | inr long ↦ let passes = long.passes in let short = l.moov in omega (arith, passes, short)
]

-- ---- the movie

-- what is presented of that track alone
pub only_presents : (file : List ℕ) (only : Option ℕ) (tree : FileTree) → presentation_of file (only_tree only tree) ≡ only_of only (presentation_of file tree)
only_presents file only tree = λ i. record { movie = movie_head_of tree.movie; tracks = map_shown (track_of file (file_parts tree)) only tree.movie.tracks i }

-- what is kept of the track at this place alone
abbrev pub alone_seen : MovieSeen → ℕ → ℕ → MovieSeen
alone_seen m k n = record m {
  tables = at_place k m.tables;
  states = at_place k m.states;
  tracks = at_place k m.tracks;
  own = at_place k m.own;
  mehd = n;
  only = option_or m.only (Some k);
  waits = option_map (at_place k) m.waits;
}

-- there are as many of each
many_at : {A B : Type 0} (k : ℕ) (xs : List A) (ys : List B) → length xs ≡ length ys → length (at_place k xs) ≡ length (at_place k ys)
many_at zero [] [] e = refl
many_at (suc k) [] [] e = refl
many_at k [] (y ∷ ys) e = absurd cc
many_at k (x ∷ xs) [] e = absurd cc
many_at zero (x ∷ xs) (y ∷ ys) e = refl
many_at (suc k) (x ∷ xs) (y ∷ ys) e = many_at k xs ys (omega (arith, e))

pub stays_movie : (m : MovieSeen) (k n : ℕ) → IsMovie m → IsMovie (alone_seen m k n)
stays_movie m k n i = record {
  fills = i.fills;
  tables = all_at_place (LieIn m.moov) k m.tables i.tables;
  each_tables = many_at k m.tables m.tracks i.each_tables;
  each_state = many_at k m.states m.tracks i.each_state;
  each_own = many_at k m.own m.tracks i.each_own;
  short = i.short;
}

-- why its length is not found: for want of memory
pub only_memory : (file : List ℕ) (t : FileTree) (r : Refusal) → IsWithinLimits (presentation_of file t) → NamesLimit file t r → (r ≡ refusals.StoreChanged → ⊥) → RefusesWaits r → r ≡ refusals.Memory
only_memory file t (refusals.Fault f) l (head, says, fails) u w = absurd (none_fails (presentation_of file t) head t.movie.moov f l fails)
only_memory file t refusals.Memory l n u w = refl
only_memory file t refusals.StoreChanged l n u w = absurd (u refl)
only_memory file t refusals.StoreFailed l n u w = absurd w
only_memory file t refusals.WriteFailed l n u w = absurd w
only_memory file t refusals.NoSuchTrack l n u w = absurd w

module _ (file : List ℕ) (m : MovieSeen) (tree : FileTree) (k : ℕ) (less : k < length m.tracks) (o : IsOpenedAs file m tree) where
  abbrev pub alone : FileTree
  alone = only_tree (Some k) tree

  same_ids : map (λ (x : heads.TrackHead). x.id) (map track_head_of alone.movie.tracks) ≡ at_place k (map (λ (x : heads.TrackHead). x.id) (map track_head_of tree.movie.tracks))
  same_ids = ap (map (λ (x : heads.TrackHead). x.id)) (map_shown track_head_of (Some k) tree.movie.tracks) ∙ map_shown (λ (x : heads.TrackHead). x.id) (Some k) (map track_head_of tree.movie.tracks)

  nine : length (movie_head_of tree.movie).matrix ≡ 9
  unfolding IsShownOf
  nine =
      let own : FileTree = o.shown.0 in
      let is : IsTreeOf file own = o.shown.1 in
      let valid = movie_head_valid own.movie (movie_of_bytes own.movie is.bytes.moov is.is_tree.movie) is.is_tree.movie is.is_sound.movie in
      ap length (matrix_told m.waits (only_tree m.only own) tree o.shown.2) ∙ valid.matrix.nine

  -- there are as many as the file has, or one
  among : (own : FileTree) → IsTold m.waits (only_tree m.only own) tree → k < length (shown_at m.only own.movie.tracks)
  among own told =
      let many = told_many m.waits (only_tree m.only own) tree told in
      let each = length_zip (IsInfoOf file tree) tree.movie.tracks m.tracks o.tracks in
      omega (arith, less, many, each)

  alone_shown : IsShownOf file (option_or m.only (Some k)) (option_map (at_place k) m.waits) alone
  unfolding IsShownOf
  alone_shown =
      let own : FileTree = o.shown.0 in
      let told : IsTold m.waits (only_tree m.only own) tree = o.shown.2 in
      let same : only_tree (Some k) (only_tree m.only own) ≡ only_tree (option_or m.only (Some k)) own = λ i. record own { movie = record own.movie { tracks = sym (only_few m.only k own.movie.tracks (among own told)) i } } in
      (own, o.shown.1, subst (λ (u : FileTree). IsTold (option_map (at_place k) m.waits) u alone) same (told_alone k m.waits (only_tree m.only own) tree told))

  infos : AllZip (IsInfoOf file alone) alone.movie.tracks (at_place k m.tracks)
  infos = zip_weaker (IsInfoOf file tree) (IsInfoOf file alone) (λ t info i. record { id = i.id; timescale = i.timescale; start = i.start; samples = i.samples; duration = i.duration; bytes = i.bytes; keys = i.keys }) (at_place k tree.movie.tracks) (at_place k m.tracks)
      (zip_at_place (IsInfoOf file tree) k tree.movie.tracks m.tracks o.tracks)

  owns : AllZip (λ (t : TrackTree) own. IsOwn alone.movie (track_head_of t).id alone.fragments own) alone.movie.tracks (at_place k m.own)
  owns = zip_weaker (λ (t : TrackTree) own. IsOwn tree.movie (track_head_of t).id tree.fragments own) (λ (t : TrackTree) own. IsOwn alone.movie (track_head_of t).id alone.fragments own) (λ t own i. record { trafs = i.trafs; longest = i.longest }) (at_place k tree.movie.tracks) (at_place k m.own)
      (zip_at_place (λ (t : TrackTree) own. IsOwn tree.movie (track_head_of t).id tree.fragments own) k tree.movie.tracks m.own o.own)

  scales : AllByRecursion (λ (t : TrackTree). 0 < (track_head_of t).media.timescale) alone.movie.tracks
  scales = all_at_place (λ (t : TrackTree). 0 < (track_head_of t).media.timescale) k tree.movie.tracks o.is_sound.timescales

  pub limits : IsWithinLimits (presentation_of file alone)
  limits = subst IsWithinLimits (sym (only_presents file (Some k) tree)) (only_within (presentation_of file tree) k nine o.limits)

  -- what is kept of it then
  pub is_opened : (n : ℕ) → n ≡ movie_length (presentation_of file alone) → IsOpenedAs file (alone_seen m k n) alone
  is_opened n longest = record {
    shown = alone_shown;
    is_tree = record {
      top = o.is_tree.top;
      order = o.is_tree.order;
      moov = o.is_tree.moov;
      moofs = o.is_tree.moofs;
      fragments = o.is_tree.fragments;
      tracks = all_at_place HoldsTrack k tree.movie.tracks o.is_tree.tracks;
    };
    is_sound = record {
      fragments = o.is_sound.fragments;
      timescales = scales;
      track_ids = ap are_distinct same_ids ∙ distinct_at k (map (λ (x : heads.TrackHead). x.id) (map track_head_of tree.movie.tracks));
    };
    hands_out = record {
      tables = all_at_place (λ (t : TrackTree). Fit (surroundings file t) (tables_of t.table)) k tree.movie.tracks o.hands_out.tables;
      known = o.hands_out.known;
      defaults = o.hands_out.defaults;
      parts = o.hands_out.parts;
      places = o.hands_out.places;
      groups = o.hands_out.groups;
    };
    limits = limits;
    whole = o.whole;
    moov = o.moov;
    longest_is = o.longest_is;
    moofs = o.moofs;
    tables = zip_at_place (AreTablesOf m.moov) k tree.movie.tracks m.tables o.tables;
    states = map_shown track_seen (Some k) m.states ∙ ap (at_place k) o.states ∙ sym (map_shown (plain_seen (trexes_of tree.movie)) (Some k) tree.movie.tracks);
    tracks = infos;
    own = owns;
    mehd = longest;
  }

  -- what it says is within the limits or not
  pub has_limits : (n : ℕ) → HasLimits file (alone_seen m k n) alone
  has_limits n = record {
    heads = λ head s. shown_said file (alone_seen m k n) alone head alone_shown o.moov s;
    moov = o.moov;
    tracks = infos;
    timescales = scales;
  }
