-- A file whose tracks are told to wait has as many samples and rows as before, and walks over them take as many steps.
use Rattle.std.proofs.Common.{◌≡◌, ℕ, suc, ◌+◌, Bool, true, false, List, [], ◌∷◌, length, refl, ap, ◌∙◌}
use Rattle.std.specs.Prelude.{Option, None, Some}
use Rattle.std.specs.List.{AllZip}
use Rattle.mp4_boxes.specs.format.Box.{Box}
use Rattle.mp4_boxes.specs.format.Bytes.{sum_of}
use Rattle.mp4_head.specs.format.Tree.{TrackTree}
use Rattle.mp4_present.specs.format.Denotes.{FileTree}
use Rattle.mp4_present.specs.format.Presentation.{Sample, Track, Presentation, sample_total}
use Rattle.mp4_present.specs.words.ToldTrees.{AreTracksTold, IsTold, later_waits}
use Rattle.mp4_present.specs.words.WalkSteps.{table_way, walk_steps, walks_steps}
use Rattle.mp4_present.proofs.ToldTrees.{told_is, told_tree}
use Rattle.mp4_plan.specs.words.WriterSteps.{track_writes, writing_steps}
use Rattle.mp4_content.specs.format.LeadIns.{delay, first_moments, told, told_by}
use Rattle.mp4_content.proofs.LeadInsTold.{SameButEdits, told_tracks}

-- ---- steps

module _ (F : FileTree → TrackTree → ℕ) (same : (own : FileTree) (movie : List Box) (tracks : List TrackTree) (u : TrackTree) (edits : List Box) → F (told_tree own movie tracks) (record u { edits = edits }) ≡ F own u) where
  each_same : (own : FileTree) (movie : List Box) (tracks : List TrackTree) (waits : List ℕ) (us ts : List TrackTree) → AreTracksTold waits us ts → sum_of (F (told_tree own movie tracks)) ts ≡ sum_of (F own) us
  each_same own movie tracks waits [] [] told = refl
  each_same own movie tracks waits [] (t ∷ ts) told = absurd told
  each_same own movie tracks waits (u ∷ us) [] told = absurd told
  each_same own movie tracks waits (u ∷ us) (t ∷ ts) told =
      let first = ap (F (told_tree own movie tracks)) told.0.is ∙ same own movie tracks u t.edits in
      let rest = each_same own movie tracks (later_waits waits) us ts told.1 in
      λ i. first i + rest i

  sums_same : (waits : Option (List ℕ)) (own t : FileTree) → IsTold waits own t → sum_of (F t) t.movie.tracks ≡ sum_of (F own) own.movie.tracks
  sums_same None own t told = ap (λ (x : FileTree). sum_of (F x) x.movie.tracks) told
  sums_same (Some waits) own t told =
      ap (λ (x : FileTree). sum_of (F x) t.movie.tracks) (told_is waits own t told) ∙ each_same own t.movie.movie t.movie.tracks waits own.movie.tracks t.movie.tracks told.movie.tracks

walk_same : (own : FileTree) (movie : List Box) (tracks : List TrackTree) (u : TrackTree) (edits : List Box) → walk_steps (told_tree own movie tracks) (record u { edits = edits }) ≡ walk_steps own u
unfolding table_way
walk_same own movie tracks u edits = refl

writes_same : (own : FileTree) (movie : List Box) (tracks : List TrackTree) (u : TrackTree) (edits : List Box) → track_writes (told_tree own movie tracks) (record u { edits = edits }) ≡ track_writes own u
unfolding table_way
writes_same own movie tracks u edits = refl

pub walks_told : (waits : Option (List ℕ)) (own t : FileTree) → IsTold waits own t → walks_steps t ≡ walks_steps own
walks_told = sums_same walk_steps walk_same

pub writes_told : (waits : Option (List ℕ)) (own t : FileTree) → IsTold waits own t → writing_steps t ≡ writing_steps own
writes_told = sums_same track_writes writes_same

-- ---- samples

abbrev counted : List Track → ℕ
counted tracks = sum_of (λ (t : Track). length t.samples) tracks

same_many : (ts us : List Track) → AllZip SameButEdits ts us → length ts ≡ length us
same_many [] [] z = refl
same_many [] (u ∷ us) z = absurd z
same_many (t ∷ ts) [] z = absurd z
same_many (t ∷ ts) (u ∷ us) z = ap suc (same_many ts us z.1)

same_total : (ts us : List Track) → AllZip SameButEdits ts us → counted ts ≡ counted us
same_total [] [] z = refl
same_total [] (u ∷ us) z = absurd z
same_total (t ∷ ts) [] z = absurd z
same_total (t ∷ ts) (u ∷ us) z =
    let first = ap (λ (samples : List Sample). length samples) z.0.0 in
    let rest = same_total ts us z.1 in
    λ i. first i + rest i

pub told_many : (b : Bool) (p : Presentation) → length (told b p).tracks ≡ length p.tracks
told_many true p = let wait = delay (first_moments p.movie.timescale p.tracks) in same_many (told_by wait p).tracks p.tracks (told_tracks wait p)
told_many false p = refl

pub told_total : (b : Bool) (p : Presentation) → sample_total (told b p) ≡ sample_total p
told_total true p = let wait = delay (first_moments p.movie.timescale p.tracks) in same_total (told_by wait p).tracks p.tracks (told_tracks wait p)
told_total false p = refl
