-- Values of fields and entries of lists, compared one by one: the differences of heads.
use Rattle.std.proofs.Common.{◌≡◌, ℕ, suc, List, [], ◌∷◌, ◌++◌, length, refl, ap, ◌∙◌, append_assoc}
use Rattle.std.specs.Prelude.{map}
use Rattle.std.proofs.lemmas.List.{append-nil, length-map}
use Rattle.mp4_head.specs.format.Head.{Edit, Media, TrackHead, MovieHead}
use Rattle.mp4_content.specs.format.Differences.{numbers_differ, signed, each_differ, list_differences, box_differences, payload_differences, edit_differences, matrix_differences, kept_differences, movie_differences, media_fields, media_lists, head_differences}
use Rattle.mp4_content.specs.words.Differing.{values_differ, movie_values, track_values, size_values, media_values, edit_values, sample_values}
use Rattle.mp4_content.specs.words.ComingLess.{cto_left, flags_left, lasts_left}
use Rattle.mp4_content.specs.declared.comparing.differences.Difference.{Difference}
use Rattle.mp4_content.specs.declared.comparing.differences.Subject.{Subject}
use Rattle.mp4_content.specs.declared.comparing.differences.Subject.TheVariants as subjects
use Rattle.mp4_content.specs.declared.comparing.differences.Entries.{Entries}
use Rattle.mp4_content.specs.declared.comparing.differences.Entries.TheVariants as lists
use Rattle.mp4_content.specs.declared.comparing.differences.Field.TheVariants as fields
use Rattle.mp4_content.specs.declared.comparing.differences.Part.TheVariants as parts
use Rattle.mp4_content.specs.declared.reduced.Reduction.{Reduction}
use Rattle.mp4_tables.specs.declared.sample.SampleAt.{SampleAt}
use Rattle.mp4_content.proofs.Differing.{and_then}

-- ---- entries

-- entries differ as what is seen of them does
each_seen : {A B : Type 0} (g : A → B) (one : ℕ → B → B → List Difference) (other : ℕ → A → A → List Difference)
    → ((n : ℕ) (x y : A) → other n x y ≡ one n (g x) (g y))
    → (n : ℕ) (xs ys : List A) → each_differ other n xs ys ≡ each_differ one n (map g xs) (map g ys)
each_seen g one other same n [] ys = refl
each_seen g one other same n (x ∷ xs) [] = refl
each_seen g one other same n (x ∷ xs) (y ∷ ys) = λ i. same n x y i ++ each_seen g one other same (suc n) xs ys i

pub lists_seen : {A B : Type 0} (g : A → B) (of : Subject) (list : Entries) (one : ℕ → B → B → List Difference) (other : ℕ → A → A → List Difference)
    → ((n : ℕ) (x y : A) → other n x y ≡ one n (g x) (g y))
    → (xs ys : List A) → list_differences of list other xs ys ≡ list_differences of list one (map g xs) (map g ys)
lists_seen g of list one other same xs ys = rw (length-map xs g, length-map ys g) (ap (λ (ds : List Difference). numbers_differ of (fields.Count list) (length xs) (length ys) ++ ds) (each_seen g one other same 1 xs ys))

-- ---- values

four : (a b c d : List Difference) → a ++ (b ++ (c ++ (d ++ []))) ≡ (a ++ b) ++ (c ++ d)
four a b c d = simp (append_assoc, append-nil)

pub edit_seen_so : (of : Subject) (n : ℕ) (a b : Edit)
    → values_differ of (edit_values (record { subject = of; list = lists.Edits; number = n }) a) (edit_values (record { subject = of; list = lists.Edits; number = n }) b) ≡ edit_differences of n a b
edit_seen_so of n a b =
    four (numbers_differ of (fields.Entry lists.Edits n parts.SegmentDuration) a.segment_duration b.segment_duration) (signed of (fields.Entry lists.Edits n parts.MediaTime) a.media_time b.media_time)
    (signed of (fields.Entry lists.Edits n parts.RateInteger) a.rate_integer b.rate_integer) (signed of (fields.Entry lists.Edits n parts.RateFraction) a.rate_fraction b.rate_fraction)

media_parts : (a b c d h l x e : List Difference) → ((((a ++ (b ++ (c ++ (d ++ [])))) ++ h) ++ l) ++ x) ++ e ≡ (((a ++ b) ++ c) ++ d) ++ (((h ++ l) ++ x) ++ e)
media_parts a b c d h l x e = simp (append_assoc, append-nil)

movie_parts : (a b c d e m k t : List Difference) → (((a ++ (b ++ (c ++ (d ++ (e ++ []))))) ++ m) ++ k) ++ t ≡ (((((a ++ b) ++ c) ++ (d ++ e)) ++ m) ++ k) ++ t
movie_parts a b c d e m k t = simp (append_assoc, append-nil)

track_parts : (a b c d e f g m w h x k mf ml q : List Difference)
    → ((((((a ++ (b ++ (c ++ (d ++ (e ++ (f ++ (g ++ []))))))) ++ m) ++ (w ++ (h ++ []))) ++ x) ++ k) ++ (mf ++ ml)) ++ q
    ≡ (((((((((((a ++ b) ++ c) ++ d) ++ (e ++ f)) ++ (g ++ m)) ++ (w ++ h)) ++ x) ++ k) ++ mf) ++ ml) ++ q)
track_parts a b c d e f g m w h x k mf ml q = simp (append_assoc, append-nil)

-- ---- heads

-- nothing stood in front
front_none : (old ds : List Difference) → old ≡ [] → old ++ ds ≡ ds
front_none old ds e = ap (λ (front : List Difference). front ++ ds) e

module _ (of : Subject) (a b : Media) where
  pub media_grown : (f0 f1 f2 f3 f4 f5 : List Difference) → f1 ≡ f0 ++ values_differ of (media_values a) (media_values b)
      → f2 ≡ f1 ++ payload_differences of lists.Handler 1 a.handler b.handler
      → f3 ≡ f2 ++ list_differences of lists.ExtendedLanguages (payload_differences of lists.ExtendedLanguages) a.extended_languages b.extended_languages
      → f4 ≡ f3 ++ box_differences of lists.MediaHeader 1 a.header b.header
      → f5 ≡ f4 ++ list_differences of lists.Descriptions (box_differences of lists.Descriptions) a.descriptions b.descriptions
      → f5 ≡ f0 ++ (media_fields of a b ++ media_lists of a b)
  media_grown f0 f1 f2 f3 f4 f5 e1 e2 e3 e4 e5 =
      and_then f0 f4 f5 _ _ (and_then f0 f3 f4 _ _ (and_then f0 f2 f3 _ _ (and_then f0 f1 f2 _ _ e1 e2) e3) e4) e5
      ∙ ap (λ (ds : List Difference). f0 ++ ds) (media_parts
      (numbers_differ of fields.MediaCreation a.creation b.creation) (numbers_differ of fields.MediaModification a.modification b.modification)
      (numbers_differ of fields.MediaTimescale a.timescale b.timescale) (numbers_differ of fields.Language a.language b.language)
      (payload_differences of lists.Handler 1 a.handler b.handler)
      (list_differences of lists.ExtendedLanguages (payload_differences of lists.ExtendedLanguages) a.extended_languages b.extended_languages)
      (box_differences of lists.MediaHeader 1 a.header b.header)
      (list_differences of lists.Descriptions (box_differences of lists.Descriptions) a.descriptions b.descriptions))

pub movie_whole : (a b : MovieHead) (f0 f1 f2 f3 f4 t : List Difference) → f0 ≡ [] → f1 ≡ f0 ++ values_differ subjects.Movie (movie_values a) (movie_values b)
    → f2 ≡ f1 ++ matrix_differences subjects.Movie a.matrix b.matrix
    → f3 ≡ f2 ++ kept_differences subjects.Movie a.kept b.kept
    → f4 ≡ f3 ++ t
    → f4 ≡ movie_differences a b ++ t
movie_whole a b f0 f1 f2 f3 f4 t e0 e1 e2 e3 e4 =
    and_then f0 f3 f4 _ _ (and_then f0 f2 f3 _ _ (and_then f0 f1 f2 _ _ e1 e2) e3) e4
    ∙ front_none f0 _ e0
    ∙ movie_parts (numbers_differ subjects.Movie fields.Creation a.creation b.creation) (numbers_differ subjects.Movie fields.Modification a.modification b.modification)
    (numbers_differ subjects.Movie fields.Timescale a.timescale b.timescale) (signed subjects.Movie fields.Rate a.rate b.rate) (signed subjects.Movie fields.Volume a.volume b.volume)
    (matrix_differences subjects.Movie a.matrix b.matrix) (kept_differences subjects.Movie a.kept b.kept) t

pub track_whole : (of : Subject) (a b : TrackHead) (f0 f1 f2 f3 f4 f5 f6 f7 : List Difference) → f0 ≡ [] → f1 ≡ f0 ++ values_differ of (track_values a) (track_values b)
    → f2 ≡ f1 ++ matrix_differences of a.matrix b.matrix
    → f3 ≡ f2 ++ values_differ of (size_values a) (size_values b)
    → f4 ≡ f3 ++ list_differences of lists.Edits (edit_differences of) a.edits b.edits
    → f5 ≡ f4 ++ kept_differences of a.kept b.kept
    → f6 ≡ f5 ++ (media_fields of a.media b.media ++ media_lists of a.media b.media)
    → f7 ≡ f6 ++ list_differences of lists.GroupDescriptions (payload_differences of lists.GroupDescriptions) a.group_descriptions b.group_descriptions
    → f7 ≡ head_differences of a b
track_whole of a b f0 f1 f2 f3 f4 f5 f6 f7 e0 e1 e2 e3 e4 e5 e6 e7 =
    and_then f0 f6 f7 _ _ (and_then f0 f5 f6 _ _ (and_then f0 f4 f5 _ _ (and_then f0 f3 f4 _ _ (and_then f0 f2 f3 _ _ (and_then f0 f1 f2 _ _ e1 e2) e3) e4) e5) e6) e7
    ∙ front_none f0 _ e0
    ∙ track_parts (numbers_differ of fields.Flags a.flags b.flags) (numbers_differ of fields.Creation a.creation b.creation) (numbers_differ of fields.Modification a.modification b.modification)
    (numbers_differ of fields.Id a.id b.id) (signed of fields.Layer a.layer b.layer) (signed of fields.AlternateGroup a.alternate_group b.alternate_group) (signed of fields.Volume a.volume b.volume)
    (matrix_differences of a.matrix b.matrix) (numbers_differ of fields.Width a.width b.width) (numbers_differ of fields.Height a.height b.height)
    (list_differences of lists.Edits (edit_differences of) a.edits b.edits) (kept_differences of a.kept b.kept) (media_fields of a.media b.media) (media_lists of a.media b.media)
    (list_differences of lists.GroupDescriptions (payload_differences of lists.GroupDescriptions) a.group_descriptions b.group_descriptions)

-- ---- samples

sample_parts : (a b c d g s : List Difference) → ((a ++ (b ++ (c ++ (d ++ [])))) ++ g) ++ s ≡ (((((a ++ b) ++ c) ++ d) ++ g) ++ s)
sample_parts a b c d g s = simp (append_assoc, append-nil)

pub samples_grown : (r q : Reduction) (of : Subject) (a b : SampleAt) (f0 f1 f2 f3 g s : List Difference)
    → f1 ≡ f0 ++ values_differ of (sample_values r a) (sample_values q b) → f2 ≡ f1 ++ g → f3 ≡ f2 ++ s
    → f3 ≡ f0 ++ (numbers_differ of fields.Duration (lasts_left r a.number a.duration) (lasts_left q b.number b.duration) ++ signed of fields.Offset (cto_left r a.cto) (cto_left q b.cto)
    ++ numbers_differ of fields.Flags (flags_left r a.flags) (flags_left q b.flags) ++ numbers_differ of fields.Description a.description b.description ++ g ++ s)
samples_grown r q of a b f0 f1 f2 f3 g s e1 e2 e3 =
    and_then f0 f2 f3 _ _ (and_then f0 f1 f2 _ _ e1 e2) e3
    ∙ ap (λ (ds : List Difference). f0 ++ ds) (sample_parts (numbers_differ of fields.Duration (lasts_left r a.number a.duration) (lasts_left q b.number b.duration)) (signed of fields.Offset (cto_left r a.cto) (cto_left q b.cto))
    (numbers_differ of fields.Flags (flags_left r a.flags) (flags_left q b.flags)) (numbers_differ of fields.Description a.description b.description) g s)
