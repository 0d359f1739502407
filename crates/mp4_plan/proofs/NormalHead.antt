-- The head of the normal form of what is left of an opened file.
use Rattle.std.proofs.Common.{◌≡◌, ℕ, suc, ◌+◌, ◌-◌, ◌^◌, ◌≤◌, min, List, [], ◌∷◌, length, map, refl, ap, ◌∙◌, arith, length-append}
use Rattle.std.specs.List.{AllByRecursion}
use Rattle.mp4_boxes.specs.format.Bytes.{sum_of}
use Rattle.mp4_head.specs.format.Head as heads
use Rattle.mp4_head.specs.format.Tree.{TrackTree, track_head_of}
use Rattle.mp4_head.specs.words.Parts.{capped}
use Rattle.mp4_head.specs.words.Seen.{movie_seen, tracks_seen}
use Rattle.mp4_head.specs.format.Writing.{ftyp_bytes, moov_bytes, head_bytes}
use Rattle.mp4_head.specs.declared.heads.MovieHead.{MovieHead}
use Rattle.mp4_head.proofs.HeadLengths.{length_head, length_track}
use Rattle.mp4_present.specs.format.Denotes.{FileTree, presentation_of}
use Rattle.mp4_present.specs.words.Movies.{MovieSeen}
use Rattle.mp4_present.specs.words.OpenedMovie.{IsOpenedAs}
use Rattle.mp4_present.specs.format.Presentation.{Presentation, movie_length, normal_moov_length}
use Rattle.mp4_present.specs.words.HeadsRead.{SaysMovie}
use Rattle.mp4_present.proofs.ToldTrees.{tree_said}
use Rattle.mp4_content.specs.format.Reduced.{number_head, number_heads, reduce_track_head}
use Rattle.mp4_content.specs.format.Remaining.{remaining, remaining_movie}
use Rattle.mp4_content.specs.format.Timescales.{divided, edit_by}
use Rattle.mp4_content.specs.words.Divided.{remaining_head, remaining_heads}
use Rattle.mp4_content.specs.words.Scales.{AreScales}
use Rattle.mp4_content.specs.declared.scales.Scales.{Scales}
use Rattle.mp4_content.specs.declared.without.Without.{Without}
use Rattle.mp4_content.proofs.ReducedValid.{both_lengths, kept_shorter, track_shorter}
use Rattle.mp4_content.proofs.RemainingHeads.{file_heads_are, says_remaining}
use Rattle.mp4_content.proofs.TimescalesValid.{edts_same}
use Rattle.mp4_plan.specs.format.Normal.{normal, pieces_bytes}
use Rattle.mp4_plan.specs.format.Pieces.{pieces}
use Rattle.mp4_plan.specs.words.Writers.{ArePiecesLong, IsHeadOf, head_of_normal}
use Rattle.mp4_plan.proofs.HeadAgain.{both_long}

-- ---- the head

abbrev HaveMatrices : List heads.TrackHead → Type 0
HaveMatrices ts = AllByRecursion (λ (t : heads.TrackHead). length t.matrix ≡ 9) ts

matrices : (trees : List TrackTree) → HaveMatrices (map track_head_of trees)
matrices [] = tt
matrices (t ∷ trees) = (refl, matrices trees)

-- The head of a movie says its times in fields of fixed widths: by whatever they are divided, what remains of it is no longer.
module _ (l : Without) (divisor : ℕ) where
  track_less : (own place : ℕ) (t : heads.TrackHead) → length t.matrix ≡ 9 → both_lengths (number_head l place (remaining_head l divisor own t)) ≤ both_lengths t
  track_less own place t nine =
      let less = track_shorter l place t nine in
      let was = length_track (number_head l place (reduce_track_head l t)) nine in
      let now = length_track (number_head l place (remaining_head l divisor own t)) nine in
      let edits = edts_same (edit_by (divided divisor) (divided own)) (reduce_track_head l t).edits in
      omega (arith, less, was, now, edits)

  tracks_less : (owns : List ℕ) (place : ℕ) (ts : List heads.TrackHead) → HaveMatrices ts → sum_of both_lengths (number_heads l place (remaining_heads l divisor owns ts)) ≤ sum_of both_lengths ts
  tracks_less owns place [] h = omega arith
  tracks_less [] place (t ∷ ts) h =
      let one = track_less 1 place t h.0 in
      let rest = tracks_less [] (suc place) ts h.1 in
      omega (arith, one, rest)
  tracks_less (own ∷ owns) place (t ∷ ts) h =
      let one = track_less own place t h.0 in
      let rest = tracks_less owns (suc place) ts h.1 in
      omega (arith, one, rest)

  head_less : (owns : List ℕ) (m : heads.MovieHead) (ts : List heads.TrackHead) (mehd was : ℕ) → length m.matrix ≡ 9 → HaveMatrices ts → length (head_bytes (remaining_movie l divisor m) (number_heads l 1 (remaining_heads l divisor owns ts)) mehd) ≤ length (head_bytes m ts was)
  head_less owns m ts mehd was nine h =
      let old = length_head m ts was nine in
      let new = length_head (remaining_movie l divisor m) (number_heads l 1 (remaining_heads l divisor owns ts)) mehd nine in
      let kept = kept_shorter l m.kept in
      let tracks = tracks_less owns 1 ts h in
      omega (arith, old, new, kept, tracks)

module _ (l : Without) (file : List ℕ) (m : MovieSeen) (tree : FileTree) (scales : Scales) (head left : MovieHead) (o : IsOpenedAs file m tree) (says : SaysMovie m head) (movie_is : movie_seen left ≡ remaining_movie l scales.movie (movie_seen head))
    (tracks_are : tracks_seen left ≡ number_heads l 1 (remaining_heads l scales.movie scales.tracks.items (tracks_seen head))) where
  abbrev whole : Presentation
  whole = presentation_of file tree

  -- what remains of the head that is read anew is short
  pub head_short : (mehd : ℕ) → length (head_bytes (movie_seen left) (tracks_seen left) mehd) ≤ 2 ^ 30 + 24
  head_short mehd =
      let said = (tree_said file m tree head o says).says in
      let heads_are : tracks_seen head ≡ map track_head_of tree.movie.tracks = ap (λ (h : heads.Head). h.tracks) said in
      let left_is : length (head_bytes (movie_seen left) (tracks_seen left) mehd) ≡ length (head_bytes (remaining_movie l scales.movie whole.movie) (number_heads l 1 (remaining_heads l scales.movie scales.tracks.items (map track_head_of tree.movie.tracks))) mehd) =
      λ i. length (head_bytes ((movie_is ∙ ap (λ (h : heads.Head). remaining_movie l scales.movie h.movie) said) i) ((tracks_are ∙ ap (λ (hs : List heads.TrackHead). number_heads l 1 (remaining_heads l scales.movie scales.tracks.items hs)) heads_are) i) mehd) in
      let less = head_less l scales.movie scales.tracks.items whole.movie (map track_head_of tree.movie.tracks) mehd (movie_length whole) refl (matrices tree.movie.tracks) in
      let same : normal_moov_length whole ≡ length (moov_bytes whole.movie (map track_head_of tree.movie.tracks) (movie_length whole)) = ap (λ (hs : List heads.TrackHead). length (moov_bytes whole.movie hs (movie_length whole))) (file_heads_are l file tree) in
      let ftyp : length ftyp_bytes ≡ 24 = refl in
      let both = length-append ftyp_bytes (moov_bytes whole.movie (map track_head_of tree.movie.tracks) (movie_length whole)) in
      let fits : normal_moov_length whole ≤ 2 ^ 30 = o.limits.moov in
      omega (arith, left_is, less, same, ftyp, both, fits)

  -- where its times are divided by what divides those of the file, it is that of the normal form
  pub head_left : AreScales l file tree scales → IsHeadOf (remaining l whole) left (movie_length (remaining l whole))
  head_left are =
      let mehd = movie_length (remaining l whole) in
      let said = says_remaining l file tree m scales head left o are says movie_is tracks_are in
      record { bytes = λ i. head_bytes (said.movie i) (said.tracks i) mehd; short = of_normal (ap (λ (bs : List ℕ). length bs) (λ i. head_bytes (said.movie i) (said.tracks i) mehd)) (head_short mehd) }
    where
      of_normal : {a b : ℕ} → a ≡ b → a ≤ 2 ^ 30 + 24 → b ≤ 2 ^ 30 + 24
      of_normal same short = omega (arith, same, short)

-- ---- how long the normal form is

pub less_long : (p : Presentation) (head : MovieHead) (mehd len n short total : ℕ) → IsHeadOf p head mehd → ArePiecesLong p len → n ≡ capped (length (head_bytes (movie_seen head) (tracks_seen head) mehd))
    → short ≡ min n (2 ^ 30 + 24) → total ≡ min (len + short) (2 ^ 64 - 1) → total ≡ length (normal p)
less_long p head mehd len n short total h is count cut sum =
    let same = ap (λ (bs : List ℕ). length bs) h.bytes in
    let few = h.short in
    both_long (head_of_normal p) (pieces_bytes 1 (pieces p)) n short len total (omega (arith, same, few, count)) (omega (arith, same, few, count)) cut is.len is.within sum
