-- How long the texts of a file are that copy samples or boxes, and that each is one.
use Rattle.std.proofs.Common.{◌≡◌, ℕ, zero, suc, ◌<◌, true, List, [], ◌∷◌, length, slice_index_or, Some, sym, ap, subst, ◌∙◌}
use Rattle.std.proofs.lemmas.Option.{slice_get-get_or}
use Rattle.std.specs.Prelude.{Bool, IsTrue, map, Result, Ok, Err, IfOk, IfSome}
use Rattle.std.specs.List.{AllByRecursion, AllZip, slice_get}
use Rattle.mp4_boxes.specs.declared.refusal.Refusal.{Refusal}
use Rattle.mp4_boxes.proofs.Among.{IsIn}
use Rattle.mp4_boxes.proofs.Each.{each_member}
use Rattle.mp4_boxes.proofs.Plain.{get_every}
use Rattle.mp4_head.specs.format.Head.{TrackHead}
use Rattle.mp4_head.specs.format.Tree.{TrackTree, are_distinct, track_head_of}
use Rattle.mp4_head.proofs.Distinct.{distinct_same, map_twice}
use Rattle.mp4_present.specs.format.Denotes.{FileTree, Denotes, file_parts, placed_of, track_of, presentation_of}
use Rattle.mp4_present.specs.format.Presentation.{Track, Presentation}
use Rattle.mp4_content.specs.format.LeadIns.{left_of, words_told}
use Rattle.mp4_content.specs.format.Remaining.{remaining}
use Rattle.mp4_present.specs.words.Movies.{MovieSeen}
use Rattle.mp4_present.specs.words.OpenedMovie.{IsInfoOf, IsOpenedOwn, IsOpenedAs}
use Rattle.mp4_present.specs.declared.track_info.TrackInfo.{TrackInfo}
use Rattle.mp4_content.specs.declared.without.Without.{Without}
use Rattle.mp4_present.proofs.JudgedTrees.{judged_denotes}
use Rattle.mp4_present.proofs.SamplesLie.{data_length}
use Rattle.mp4_plan.specs.format.Normal.{normal}
use Rattle.mp4_plan.proofs.Judged.{judged_one}
use Rattle.mp4_answers.specs.format.FileTexts.{IsTrackWith, HasData}
use Rattle.mp4_answers.specs.format.Headline.{HasNormalForm}
use Rattle.mp4_answers.specs.format.Lengths.{AreLong}
use Rattle.mp4_answers.specs.format.ReducedHeadline.{HasReducedForm}
use Rattle.mp4_answers.specs.format.Texts.{sample_data}
use Rattle.mp4_answers.proofs.ShownLines.{LieInFile, each_lies, judged}
use Rattle.mp4_answers.proofs.TrackTexts.{track_found}
use Rattle.mp4_answers.proofs.OpenedTold.{left_is, shows_told}
use Rattle.mp4_answers.specs.words.OpenedTold.{IsOpenedTold}
use Rattle.mp4_answers.specs.declared.selection.Selection.{Selection}
use Rattle.mp4_answers.proofs.Alone.{shows_one}

-- ---- a track with an ID is one

pub got_in : {A : Type 0} (xs : List A) (k : ℕ) (x : A) → slice_get xs k ≡ Some x → IsIn xs x
got_in xs k x e = get_every (λ y. IsIn xs y) xs k x e (each_member (λ y. IsIn xs y) xs (λ y i. i))

-- the IDs of what a file denotes are distinct
pub distinct_ids : (file : List ℕ) (p : Presentation) → Denotes file p → are_distinct (map (λ (t : Track). t.head.id) p.tracks) ≡ true
distinct_ids file p d =
    let t = d.tree in
    let ids = map_twice (track_of file (file_parts t)) (λ (u : Track). u.head.id) t.movie.tracks ∙ sym (map_twice track_head_of (λ (h : TrackHead). h.id) t.movie.tracks) in
    ap (λ (q : Presentation). are_distinct (map (λ (u : Track). u.head.id) q.tracks)) d.says ∙ ap are_distinct ids ∙ d.is_sound.movie.track_ids

pub track_is_one : (file : List ℕ) (id : ℕ) (t u : Track) → IsTrackWith file id t → IsTrackWith file id u → t ≡ u
track_is_one file id t u i j =
    let same : j.p ≡ i.p = judged_one file j.p i.p j.judged i.judged in
    let there : slice_get i.p.tracks j.place ≡ Some u = ap (λ (q : Presentation). slice_get q.tracks j.place) (sym same) ∙ j.is_there in
    distinct_same (λ (x : Track). x.head.id) i.p.tracks t u (distinct_ids file i.p (judged_denotes file i.p i.judged)) (got_in i.p.tracks i.place t i.is_there) (got_in i.p.tracks j.place u there) (i.id_is ∙ sym j.id_is)

-- ---- lengths

pub data_long : (file : List ℕ) (id n : ℕ) (t : Track) → IsTrackWith file id t → n ≡ length (sample_data t) → AreLong (HasData file id) n
data_long file id n t i e text h =
    let same : h.0 ≡ t = track_is_one file id h.0 t h.1 i in
    ap length h.2 ∙ ap (λ (x : Track). length (sample_data x)) same ∙ sym e

pub form_long : (file : List ℕ) (m : MovieSeen) (tree : FileTree) (n : ℕ) → IsOpenedOwn file m tree → n ≡ length (normal (presentation_of file tree)) → AreLong (HasNormalForm file) n
form_long file m tree n o e text h =
    let same = judged_one file h.0 (presentation_of file tree) h.1 (judged file m tree o) in
    ap length h.2 ∙ ap (λ (p : Presentation). length (normal p)) same ∙ sym e

pub left_long : (s : Selection) (file : List ℕ) (m : MovieSeen) (tree : FileTree) (n : ℕ) → IsOpenedTold s.track s.leaving.lead_ins file m tree → n ≡ length (normal (remaining (words_told s.leaving) (presentation_of file tree))) → AreLong (HasReducedForm s file) n
left_long s file m tree n o e text h =
    let same = shows_one s.track file h.0 o.p h.1 (shows_told s file m tree o) in
    ap length h.3 ∙ ap (λ (p : Presentation). length (normal (left_of s.leaving p))) same ∙ ap (λ (p : Presentation). length (normal p)) (sym (left_is s file m tree o)) ∙ sym e

-- the bytes that are counted of a track are those of its samples
counted : (file : List ℕ) (tree : FileTree) (trees : List TrackTree) (infos : List TrackInfo) (k : ℕ) (t : TrackTree) (info : TrackInfo) → AllByRecursion (LieInFile file tree) trees → AllZip (IsInfoOf file tree) trees infos
    → slice_get trees k ≡ Some t → slice_get infos k ≡ Some info → info.bytes ≡ length (sample_data (track_of file (file_parts tree) t))
counted file tree [] infos k t info h z e f = absurd cc
counted file tree (x ∷ trees) [] k t info h z e f = absurd z
counted file tree (x ∷ trees) (y ∷ infos) zero t info h z e f =
    let own : y ≡ info = cc in
    let same : x ≡ t = cc in
    ap (λ (i : TrackInfo). i.bytes) (sym own) ∙ z.0.bytes ∙ sym (data_length file (placed_of (file_parts tree) x) h.0) ∙ ap (λ (v : TrackTree). length (sample_data (track_of file (file_parts tree) v))) same
counted file tree (x ∷ trees) (y ∷ infos) (suc k) t info h z e f = counted file tree trees infos k t info h.1 z.1 e f

pub data_counted : (file : List ℕ) (m : MovieSeen) (tree : FileTree) (k id : ℕ) (d : TrackInfo) → IsOpenedOwn file m tree → k < length m.tracks → IfSome (slice_get m.tracks k) (λ i. i.id ≡ id) → AreLong (HasData file id) (slice_index_or m.tracks k d).bytes
data_counted file m tree k id d o lt e =
    let f = track_found file m tree k id o lt e in
    let info = slice_index_or m.tracks k d in
    data_long file id info.bytes (track_of file (file_parts tree) f.t) f.with_id
    (counted file tree tree.movie.tracks m.tracks k f.t info (each_lies file m tree o) o.opened.tracks f.is_there (slice_get-get_or m.tracks k d lt))

-- ---- of a movie that was opened over an honest store

-- the store and its file as they were before it was opened, and as they are behind that
module _ (honest honest_then : Bool) (file file_then : List ℕ) (m : MovieSeen) (same_honesty : honest_then ≡ honest) (same_file : file_then ≡ file) (opened : IsTrue honest → (t : FileTree) × IsOpenedOwn file m t) where
  -- what is so of the boxes that were opened
  abbrev Then : Bool → List ℕ → (List ℕ → FileTree → Type 0) → Type 0
  Then told f P = IsTrue told → (t : FileTree) → IsOpenedAs f m t → P f t

  so : (P : List ℕ → FileTree → Type 0) → Then honest_then file_then P → (told : IsTrue honest) → P file (opened told).0
  so P p told =
      let here : Then honest file P = subst (λ b. Then b file P) same_honesty (subst (λ f. Then honest_then f P) same_file p) in
      here told (opened told).0 (opened told).1.opened

  pub form_measured : (answer : Result ℕ Refusal) → Then honest_then file_then (λ f t. IfOk answer (λ n. n ≡ length (normal (presentation_of f t)))) → IfOk answer (λ n. IsTrue honest → AreLong (HasNormalForm file) n)
  form_measured (Ok n) long = λ told. form_long file m (opened told).0 n (opened told).1 (so (λ f t. n ≡ length (normal (presentation_of f t))) long told)
  form_measured (Err e) long = tt

-- the same of one that may be told how long its tracks wait
module _ (s : Selection) (w : Without) (same : w ≡ words_told s.leaving) (honest honest_then : Bool) (file file_then : List ℕ) (m : MovieSeen) (same_honesty : honest_then ≡ honest) (same_file : file_then ≡ file) (opened : IsTrue honest
    → (t : FileTree) × IsOpenedTold s.track s.leaving.lead_ins file m t) where
  -- it is so long by the words that it is left by
  abbrev Long : ℕ → Without → Bool → List ℕ → Type 0
  Long n x told f = IsTrue told → (t : FileTree) → IsOpenedAs f m t → n ≡ length (normal (remaining x (presentation_of f t)))

  pub left_measured : (answer : Result ℕ Refusal) → (IsTrue honest_then → (t : FileTree) → IsOpenedAs file_then m t → IfOk answer (λ n. n ≡ length (normal (remaining w (presentation_of file_then t))))) → IfOk answer (λ n. IsTrue honest → AreLong (HasReducedForm s file) n)
  left_measured (Ok n) long = λ told.
      let here = subst (λ b. Long n (words_told s.leaving) b file) same_honesty (subst (Long n (words_told s.leaving) honest_then) same_file (subst (λ x. Long n x honest_then file_then) same long)) in
      left_long s file m (opened told).0 n (opened told).1 (here told (opened told).0 (opened told).1.opened)
  left_measured (Err e) long = tt
