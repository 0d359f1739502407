-- How long what remains of an opened file is, where timing doesn't count and where edits, ends, origins and timescales stay.
use Rattle.std.proofs.Common.{◌≡◌, ℕ, suc, ◌+◌, ◌*◌, ◌<◌, ◌≤◌, max, min, Bool, true, false, if◌then◌else◌, List, [], ◌∷◌, length, drop, map, slice_index_or, refl, sym, ap, subst, ◌∙◌, arith, ◌⊎◌, inl, inr, ◌^◌, ◌-◌}
use Rattle.std.specs.Prelude.{fold, FitsSigned}
use Rattle.std.specs.Int.{div_ceil, w32}
use Rattle.std.specs.List.{AllByRecursion, AllZip}
use Rattle.std.proofs.lemmas.Bool.{cases_lt}
use Rattle.std.proofs.lemmas.List.{drop_all}
use Rattle.mp4_boxes.specs.format.Bytes.{sum_of}
use Rattle.mp4_boxes.proofs.Each.{each_member, each_value, each_weaker}
use Rattle.mp4_boxes.proofs.Plain.{max_swap}
use Rattle.mp4_head.specs.format.Head as heads
use Rattle.mp4_head.specs.format.Tree.{TrackTree, track_head_of}
use Rattle.mp4_head.specs.words.Seen.{movie_seen, track_seen, tracks_seen}
use Rattle.mp4_head.specs.declared.heads.MovieHead.{MovieHead}
use Rattle.mp4_head.specs.declared.heads.TrackHead.{TrackHead}
use Rattle.mp4_head.proofs.Distinct.{map_twice}
use Rattle.mp4_present.specs.words.HeadsRead.{SaysMovie, place_of}
use Rattle.mp4_present.proofs.ToldTrees.{track_is_placed, tree_said}
use Rattle.mp4_present.specs.format.Denotes.{FileTree, file_parts, movie_timescale, placed_of, sample_of, track_of, presentation_of}
use Rattle.mp4_present.specs.format.Presentation.{Sample, Track, Presentation, IsInTime, max_time, movie_length, says_all, total_duration, track_length}
use Rattle.mp4_content.specs.format.Reduced.{HasNearOffsets, ReducesInRange, number_head, number_heads, number_track, reduce, reduce_samples, reduce_track, timescale_left}
use Rattle.mp4_content.specs.format.Remaining.{RemainsInLimits, movie_divisor, remaining, remaining_movie, remaining_samples, remaining_track, track_divisor}
use Rattle.mp4_content.specs.format.Timescales.{divided, divisor_of, edit_by, movie_times, timescale_by, track_by, track_times}
use Rattle.mp4_content.specs.format.TimescalesLaws.{ScaledInLimits}
use Rattle.mp4_present.specs.words.SamplesComing.{track_keys}
use Rattle.mp4_present.specs.words.Movies.{MovieSeen}
use Rattle.mp4_present.specs.words.OpenedMovie.{IsInfoOf, IsOpenedAs}
use Rattle.mp4_content.specs.declared.scales.Scales.{Scales}
use Rattle.mp4_content.specs.declared.without.Without.{Without}
use Rattle.mp4_present.specs.declared.track_info.TrackInfo.{TrackInfo}
use Rattle.mp4_present.proofs.PlacedTracks.{IsTrackPlaced}
use Rattle.mp4_present.proofs.ValidSamples.{IsOfTrack}
use Rattle.mp4_content.specs.format.ReducedTimes.{ReducesInLimits}
use Rattle.mp4_present.specs.words.HeadsRead.{places_of}
use Rattle.mp4_content.specs.words.Divided.{remaining_head, remaining_heads}
use Rattle.mp4_content.specs.words.PayloadsLeft.{keeping_payloads}
use Rattle.mp4_content.specs.words.Scales.{AreScales}
use Rattle.mp4_content.specs.words.LeftTimes.{count_by, longest_count, scale_left, track_left}
use Rattle.mp4_content.proofs.HeadLess.{same_length}
use Rattle.mp4_content.proofs.Numbered.{numbered_each, remaining_longest}
use Rattle.mp4_content.proofs.RemainingScaled.{only_timescales_differ, undivided_track}
use Rattle.mp4_content.proofs.RemainingValid.{from_scaled}
use Rattle.mp4_content.proofs.TimescalesLengths.{lowest_in_time, near_tracks, untimed_total}
use Rattle.mp4_content.proofs.TimescalesValid.{each_unmapped}
use Rattle.mp4_content.proofs.ReducedValid.{all_counted, near_left, durations_counted, each_a_thousandth, in_time_stays, scale_some}
use Rattle.mp4_content.proofs.Differing.{drop_at}

-- the composition offsets of an opened file fit
module _ (file : List ℕ) (m : MovieSeen) (tree : FileTree) (o : IsOpenedAs file m tree) where
  abbrev pub own_track : TrackTree → Track
  own_track t = track_of file (file_parts tree) t

  near_placed : (t : TrackTree) → IsTrackPlaced tree t → HasNearOffsets (own_track t)
  near_placed t p = each_value (IsOfTrack (length t.descriptions) (track_keys tree t)) (λ (s : Sample). FitsSigned w32 s.offset) (sample_of file) (λ s k. k.offset) (placed_of (file_parts tree) t) p.placed

  pub opened_near : AllByRecursion (λ (t : TrackTree). HasNearOffsets (own_track t)) tree.movie.tracks
  opened_near = each_member (λ (t : TrackTree). HasNearOffsets (own_track t)) tree.movie.tracks (λ t i. near_placed t (track_is_placed file m tree o t i))

  -- the timescale of each track is above 0
  pub opened_scales : AllByRecursion (λ (t : TrackTree). 0 < (track_head_of t).media.timescale) tree.movie.tracks
  opened_scales = o.is_sound.timescales

  track_scales : AllByRecursion (λ (t : Track). 0 < t.head.media.timescale) (presentation_of file tree).tracks
  track_scales = each_value (λ (t : TrackTree). 0 < (track_head_of t).media.timescale) (λ (t : Track). 0 < t.head.media.timescale) own_track (λ t h. h) tree.movie.tracks opened_scales

  -- so do those that are left where origins stay, or timing doesn't count
  pub near_stays : (l : Without) → (l.origins ≡ false) ⊎ (l.timing ≡ true) → ReducesInRange l (presentation_of file tree)
  near_stays l either = each_value (λ (t : TrackTree). HasNearOffsets (own_track t)) (λ (t : Track). HasNearOffsets (reduce_track l t)) own_track (λ t h. near_left l either (own_track t) h) tree.movie.tracks opened_near

-- ---- in lowest terms

module _ (l : Without) (p : Presentation) (either : (l.ends ≡ false) ⊎ (l.timing ≡ true)) (some : AllByRecursion (λ (t : Track). 0 < t.head.media.timescale) p.tracks) (limits : ReducesInLimits l p) where
  abbrev in_time : Track → Type 0
  in_time t = IsInTime (timescale_left l p.movie.timescale) t

  abbrev HasScale : Track → Type 0
  HasScale t = 0 < t.head.media.timescale

  -- what is true of each track that is left is so of each that is numbered
  numbered : (P : Track → Type 0) → ((place : ℕ) (t : Track) → P t → P (number_track l place t)) → AllByRecursion (λ (t : Track). P (reduce_track l t)) p.tracks → AllByRecursion P (reduce l p).tracks
  numbered P same h = numbered_each l P P (λ place t above k. same place t k) 1 (map (reduce_track l) p.tracks) (omega arith) (each_value (λ (t : Track). P (reduce_track l t)) P (reduce_track l) (λ t k. k) p.tracks h)

  scaled_limits : (b : Bool) → ScaledInLimits b l p
  scaled_limits true = record {
    in_time = lowest_in_time l either (reduce l p) (numbered HasScale (λ place t k. k) (each_weaker HasScale (λ (t : Track). HasScale (reduce_track l t)) (λ t k. scale_some l t.head.media.timescale k) p.tracks some)) (numbered in_time (λ place t k. k) limits.in_time);
    in_range = near_tracks l (divisor_of (movie_times l (reduce l p))) (reduce l p).tracks (numbered HasNearOffsets (λ place t k. k) limits.in_range);
  }
  scaled_limits false = record { in_time = numbered in_time (λ place t k. k) limits.in_time; in_range = numbered HasNearOffsets (λ place t k. k) limits.in_range }

  -- what is in limits stays so
  pub lowest_limits : RemainsInLimits l p
  lowest_limits = from_scaled l p (scaled_limits l.timescales)

-- where timescales stay, what remains of a track is what is left of it
pub undivided : (l : Without) → l.timescales ≡ false → (p : Presentation) (t : Track) → remaining_track l (movie_divisor l p) t ≡ reduce_track l t
undivided l out p t =
    (λ i. track_by l (divided (if out i then divisor_of (movie_times l (reduce l p)) else 1)) (divided (if out i then divisor_of (track_times l (reduce_track l t)) else 1)) (reduce_track l t)) ∙ undivided_track l (reduce_track l t)

-- ---- where edits, ends, origins and timescales stay

pub edits_stay : (l : Without) (file : List ℕ) (m : MovieSeen) (tree : FileTree) → l.edits ≡ false → l.timing ≡ false → l.ends ≡ false → l.origins ≡ false → l.timescales ≡ false → IsOpenedAs file m tree
    → RemainsInLimits l (presentation_of file tree) × (m.mehd ≡ movie_length (remaining l (presentation_of file tree)))
edits_stay l file m tree stay counts lasts begins own o =
    let p = presentation_of file tree in (
      lowest_limits l p (inl lasts) (track_scales file m tree o)
          (record {
            in_time = each_weaker (IsInTime p.movie.timescale) (λ (t : Track). IsInTime (timescale_left l p.movie.timescale) (reduce_track l t)) (λ t h. in_time_stays l p.movie.timescale t stay counts lasts h) p.tracks o.limits.times;
            in_range = near_stays file m tree o l (inl begins);
          }),
      o.mehd ∙ sym (same_length l stay counts lasts p) ∙ ap movie_length (sym (only_timescales_differ l p own)),
    )

-- ---- heads of what remains

module _ (l : Without) (file : List ℕ) (tree : FileTree) where
  abbrev own : TrackTree → Track
  own t = track_of file (file_parts tree) t

  -- the head of a track that remains, and by what its times are divided
  pub record IsHeadLeft (t : TrackTree) (h : TrackHead) (divisor : ℕ) : Type 0 where
    pub edits : (track_seen h).edits ≡ (track_left l file tree t).head.edits
    pub media : (track_seen h).media.timescale ≡ (track_left l file tree t).head.media.timescale
    pub place : h.offset ≡ place_of t
    pub divisor_is : divisor ≡ track_divisor l (own t)

  abbrev pub AreHeadsLeft : List TrackTree → List TrackHead → List ℕ → Type 0
  AreHeadsLeft [] [] [] = Unit {0}
  AreHeadsLeft (t ∷ trees) (h ∷ hs) (divisor ∷ divisors) = IsHeadLeft t h divisor × AreHeadsLeft trees hs divisors
  AreHeadsLeft _ _ _ = ⊥

  module _ (a : ℕ) (a_is : a ≡ movie_divisor l (presentation_of file tree)) where
    abbrev left_heads : ℕ → List ℕ → List heads.TrackHead → List heads.TrackHead
    left_heads place divisors ts = number_heads l place (remaining_heads (keeping_payloads l) a divisors ts)

    heads_left : (place : ℕ) (trees : List TrackTree) (hs : List TrackHead) (divisors : List ℕ) → divisors ≡ map (λ (t : TrackTree). track_divisor l (own t)) trees → map track_seen hs ≡ left_heads place divisors (map track_head_of trees) → places_of hs ≡ map place_of trees
        → AreHeadsLeft trees hs divisors
    heads_left place [] [] [] d e f = tt
    heads_left place [] [] (x ∷ divisors) d e f = absurd cc
    heads_left place [] (h ∷ hs) divisors d e f = absurd cc
    heads_left place (t ∷ trees) [] divisors d e f = absurd cc
    heads_left place (t ∷ trees) (h ∷ hs) [] d e f = absurd cc
    heads_left place (t ∷ trees) (h ∷ hs) (divisor ∷ divisors) d e f =
        let own_is : divisor ≡ track_divisor l (own t) = cc in
        let owns : divisors ≡ map (λ (t : TrackTree). track_divisor l (own t)) trees = cc in
        let first : track_seen h ≡ number_head l place (remaining_head (keeping_payloads l) a divisor (track_head_of t)) = cc in
        let rest : map track_seen hs ≡ left_heads (suc place) divisors (map track_head_of trees) = cc in
        let at : h.offset ≡ place_of t = cc in
        let others : places_of hs ≡ map place_of trees = cc in (
          record {
            edits = ap (λ (x : heads.TrackHead). x.edits) first ∙ (λ i. map (edit_by (divided (a_is i)) (divided (own_is i))) (if l.edits then [] else (track_head_of t).edits));
            media = ap (λ (x : heads.TrackHead). x.media.timescale) first ∙ (λ i. timescale_by l (divided (own_is i)) (timescale_left l (track_head_of t).media.timescale));
            place = at;
            divisor_is = own_is;
          },
          heads_left (suc place) trees hs divisors owns rest others,
        )

  -- heads that were read, of which these remain
  pub opened_heads : (m : MovieSeen) (scales : Scales) (read head : MovieHead) → IsOpenedAs file m tree → AreScales l file tree scales → SaysMovie m read
      → tracks_seen head ≡ number_heads l 1 (remaining_heads (keeping_payloads l) scales.movie scales.tracks.items (tracks_seen read)) → places_of head.tracks.items ≡ places_of read.tracks.items → AreHeadsLeft tree.movie.tracks head.tracks.items scales.tracks.items
  opened_heads m scales read head o are says left places =
      let said = tree_said file m tree read o says in
      heads_left scales.movie are.movie 1 tree.movie.tracks head.tracks.items scales.tracks.items are.tracks
      (left ∙ ap (λ (h : heads.Head). left_heads scales.movie are.movie 1 scales.tracks.items h.tracks) said.says) (places ∙ said.places)

  -- the timescale of the movie that remains
  pub opened_scale : (m : MovieSeen) (scales : Scales) (read head : MovieHead) → IsOpenedAs file m tree → AreScales l file tree scales → SaysMovie m read → movie_seen head ≡ remaining_movie l scales.movie (movie_seen read) → head.timescale ≡ scale_left l file tree
  opened_scale m scales read head o are says left =
      let said = (tree_said file m tree read o says).says in
      ap (λ (h : heads.MovieHead). h.timescale) left ∙ (λ i. (remaining_movie l (are.movie i) (said i).movie).timescale)

-- how long the longest of the tracks that remain is
pub file_longest : (l : Without) (file : List ℕ) (tree : FileTree)
    → movie_length (remaining l (presentation_of file tree)) ≡ fold (λ longest (t : Track). max longest (track_length (scale_left l file tree) t)) 0 (map (track_left l file tree) tree.movie.tracks)
file_longest l file tree =
    remaining_longest l (presentation_of file tree)
    ∙ ap (fold (λ longest (t : Track). max longest (track_length (scale_left l file tree) t)) 0) (map_twice (track_of file (file_parts tree)) (remaining_track l (movie_divisor l (presentation_of file tree))) tree.movie.tracks)

-- ---- where timing doesn't count

pub count_more : (hs : List TrackHead) (tracks : List TrackInfo) (k longest : ℕ) (h : TrackHead) (info : TrackInfo) → k < length hs → k < length tracks → h ≡ slice_index_or hs k h → info ≡ slice_index_or tracks k info
    → longest_count longest (drop k hs) (drop k tracks) ≡ longest_count (max (count_by (track_seen h).edits info.samples) longest) (drop (k + 1) hs) (drop (k + 1) tracks)
count_more hs tracks k longest h info lt less e f =
    (λ i. longest_count longest (drop_at hs k h lt e i) (drop_at tracks k info less f i))
    ∙ ap (λ n. longest_count n (drop (k + 1) hs) (drop (k + 1) tracks)) (max_swap longest (count_by (track_seen h).edits info.samples))

pub count_end : (hs : List TrackHead) (tracks : List TrackInfo) (k longest : ℕ) → min (length tracks) (length hs) ≤ k → longest_count longest (drop k hs) (drop k tracks) ≡ longest
count_end hs tracks k longest le = by (drop k hs) (drop k tracks) (drop_all k hs) (drop_all k tracks)
  where
    by : (xs : List TrackHead) (ys : List TrackInfo) → (length hs ≤ k → xs ≡ []) → (length tracks ≤ k → ys ≡ []) → longest_count longest xs ys ≡ longest
    by [] ys h g = refl
    by (x ∷ xs) [] h g = refl
    by (x ∷ xs) (y ∷ ys) h g = elim (cases_lt k (length hs)) [
      | inl more ↦ absurd (let none : y ∷ ys ≡ [] = g (omega (arith, le, more)) in cc)
      | inr fewer ↦ absurd (let none : x ∷ xs ≡ [] = h fewer in cc)
    ]

-- how long a track is by its edits, or where these don't say it by how many samples it has
abbrev counted : List heads.Edit → ℕ → ℕ
counted edits samples = if says_all edits then sum_of (λ (e : heads.Edit). e.segment_duration) edits else samples

-- what is counted is the length of what remains
count_is : (edits : List heads.Edit) (samples : ℕ) → counted edits samples ≤ max_time → count_by edits samples ≡ counted edits samples
count_is edits samples few = by (says_all edits) (sum_of (λ (e : heads.Edit). e.segment_duration) edits) few
  where
    by : (all : Bool) (n : ℕ) → (if all then n else samples) ≤ max_time → (if all then min n (2 ^ 64 - 1) else samples) ≡ (if all then n else samples)
    by true n h = omega (arith, h)
    by false n h = refl

module _ (l : Without) (out : l.timing ≡ true) (file : List ℕ) (tree : FileTree) where
  abbrev left : TrackTree → Track
  left t = track_left l file tree t

  abbrev ts : ℕ
  ts = scale_left l file tree

  thousand : (f : ℕ → ℕ) (n : ℕ) → timescale_by l f (timescale_left l n) ≡ 1000
  thousand f n = λ i. if out i then (if out i then 1000 else n) else f (timescale_left l n)

  counted_total : (t : Track) → total_duration (remaining_samples l t) ≡ length t.samples
  counted_total t = untimed_total l out (divided (track_divisor l t)) (length (reduce_samples l t.samples)) 0 (reduce_samples l t.samples) ∙ durations_counted l t.samples out

  length_counted : (t : TrackTree) → track_length ts (left t) ≡ counted (left t).head.edits (length (own l file tree t).samples)
  length_counted t =
      let edits = (left t).head.edits in
      let u = own l file tree t in
      (λ i. if says_all edits then sum_of (λ (e : heads.Edit). e.segment_duration) edits
      else div_ceil (counted_total u i * thousand (divided (movie_divisor l (presentation_of file tree))) (movie_timescale file tree) i) (thousand (divided (track_divisor l u)) u.head.media.timescale i))
      ∙ ap (λ n. if says_all edits then sum_of (λ (e : heads.Edit). e.segment_duration) edits else n) (each_a_thousandth (length u.samples))

  one_counted : (t : TrackTree) (h : TrackHead) (divisor : ℕ) (info : TrackInfo) → IsHeadLeft l file tree t h divisor → IsInfoOf file tree t info → IsInTime ts (left t) → count_by (track_seen h).edits info.samples ≡ track_length ts (left t)
  one_counted t h divisor info e is within =
      (λ i. count_by (e.edits i) (is.samples i)) ∙ count_is (left t).head.edits (length (own l file tree t).samples) (subst (λ n. n ≤ max_time) (length_counted t) within.1) ∙ sym (length_counted t)

  all_counts : (most : ℕ) (trees : List TrackTree) (hs : List TrackHead) (divisors : List ℕ) (infos : List TrackInfo) → AreHeadsLeft l file tree trees hs divisors → AllZip (IsInfoOf file tree) trees infos → AllByRecursion (λ (t : TrackTree). IsInTime ts (left t)) trees
      → longest_count most hs infos ≡ fold (λ longest (t : Track). max longest (track_length ts t)) most (map left trees)
  all_counts most [] [] [] [] e z h = refl
  all_counts most [] [] [] (info ∷ infos) e z h = absurd z
  all_counts most [] [] (x ∷ divisors) infos e z h = absurd e
  all_counts most [] (x ∷ hs) divisors infos e z h = absurd e
  all_counts most (t ∷ trees) [] divisors infos e z h = absurd e
  all_counts most (t ∷ trees) (x ∷ hs) [] infos e z h = absurd e
  all_counts most (t ∷ trees) (x ∷ hs) (divisor ∷ divisors) [] e z h = absurd z
  all_counts most (t ∷ trees) (x ∷ hs) (divisor ∷ divisors) (info ∷ infos) e z h =
      all_counts (max most (count_by (track_seen x).edits info.samples)) trees hs divisors infos e.1 z.1 h.1
      ∙ ap (λ n. fold (λ longest (t : Track). max longest (track_length ts t)) (max most n) (map left trees)) (one_counted t x divisor info e.0 z.0 h.0)

  -- it is the length of the longest track of what remains, which is never too long
  pub all_counted_short : (m : MovieSeen) (scales : Scales) (read head : MovieHead) → IsOpenedAs file m tree → AreScales l file tree scales → SaysMovie m read
      → tracks_seen head ≡ number_heads l 1 (remaining_heads (keeping_payloads l) scales.movie scales.tracks.items (tracks_seen read)) → places_of head.tracks.items ≡ places_of read.tracks.items
      → RemainsInLimits l (presentation_of file tree) × (longest_count 0 head.tracks.items m.tracks ≡ movie_length (remaining l (presentation_of file tree)))
  all_counted_short m scales read head o are says left_is places =
      let p = presentation_of file tree in
      let limits = lowest_limits l p (inr out) (track_scales file m tree o) (record { in_time = all_counted l p out o.limits.samples o.limits.times; in_range = near_stays file m tree o l (inr out) }) in
      let short = each_unmapped (own l file tree) (λ (t : Track). IsInTime ts (remaining_track l (movie_divisor l p) t)) tree.movie.tracks limits.in_time in
      (limits, all_counts 0 tree.movie.tracks head.tracks.items scales.tracks.items m.tracks (opened_heads l file tree m scales read head o are says left_is places) o.tracks short ∙ sym (file_longest l file tree))
