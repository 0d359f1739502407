-- What the differences between two heads tell: where there is none, the heads are equal.
use Rattle.std.proofs.Common.{◌≡◌, ℕ, List, [], length, ℤ}
use Rattle.mp4_head.specs.format.Head.{Kept, Edit, Media, TrackHead, MovieHead}
use Rattle.mp4_content.specs.format.Differences.{signed, box_differences, edit_differences, matrix_differences, kept_differences, movie_differences, track_fields, track_layers, track_shape, track_sizes, media_fields, media_lists, head_differences, payload_differences, list_differences, each_differ}
use Rattle.mp4_content.specs.declared.comparing.differences.Subject.{Subject}
use Rattle.mp4_content.specs.declared.comparing.differences.Subject.TheVariants as subjects
use Rattle.mp4_content.specs.declared.comparing.differences.Entries.{Entries}
use Rattle.mp4_content.specs.declared.comparing.differences.Entries.TheVariants as entries
use Rattle.mp4_content.specs.declared.comparing.differences.Part.TheVariants as parts
use Rattle.mp4_content.specs.declared.comparing.differences.Field.TheVariants as fields
use Rattle.mp4_content.specs.declared.comparing.differences.Value.TheVariants.{Signed}
use Rattle.mp4_content.proofs.ComparisonValues.{Tells, both, weaker, number_tells, signed_tells, kind_tells, payload_tells, entries_tell, list_tells, differ_self, bytes_self, payload_self, each_self}

module _ (of : Subject) where
  -- ---- boxes, edits and matrices

  box_tells : (list : Entries) (n : ℕ) (a b : Kept) → Tells (box_differences of list n a b) (a ≡ b)
  box_tells list n a b = weaker (both (kind_tells of (fields.Entry list n parts.Kind) a.kind b.kind) (payload_tells of list n a.payload b.payload)) (λ h i. record { kind = h.0 i; payload = h.1 i })

  edit_tells : (n : ℕ) (a b : Edit) → Tells (edit_differences of n a b) (a ≡ b)
  edit_tells n a b =
      let times = both (number_tells of (fields.Entry entries.Edits n parts.SegmentDuration) a.segment_duration b.segment_duration) (signed_tells of (fields.Entry entries.Edits n parts.MediaTime) a.media_time b.media_time) in
      let rates = both (signed_tells of (fields.Entry entries.Edits n parts.RateInteger) a.rate_integer b.rate_integer) (signed_tells of (fields.Entry entries.Edits n parts.RateFraction) a.rate_fraction b.rate_fraction) in
      weaker (both times rates) (λ h i. record { segment_duration = h.0.0 i; media_time = h.0.1 i; rate_integer = h.1.0 i; rate_fraction = h.1.1 i })

  matrix_tells : (xs ys : List ℤ) → Tells (matrix_differences of xs ys) (length xs ≡ length ys → xs ≡ ys)
  matrix_tells xs ys = entries_tell (λ (n : ℕ) (x y : ℤ). signed of (fields.Matrix n) x y) (λ n x y. signed_tells of (fields.Matrix n) x y) 1 xs ys

  kept_tell : (xs ys : List Kept) → Tells (kept_differences of xs ys) (xs ≡ ys)
  kept_tell xs ys = list_tells of entries.Kept (box_differences of entries.Kept) (box_tells entries.Kept) xs ys

  payloads_tell : (list : Entries) (xs ys : List (List ℕ)) → Tells (list_differences of list (payload_differences of list) xs ys) (xs ≡ ys)
  payloads_tell list xs ys = list_tells of list (payload_differences of list) (payload_tells of list) xs ys

  -- ---- media

  media_fields_tell : (a b : Media) → Tells (media_fields of a b) ((a.creation ≡ b.creation) × (a.modification ≡ b.modification) × (a.timescale ≡ b.timescale) × (a.language ≡ b.language))
  media_fields_tell a b =
      let times = both (number_tells of fields.MediaCreation a.creation b.creation) (number_tells of fields.MediaModification a.modification b.modification) in
      weaker (both (both times (number_tells of fields.MediaTimescale a.timescale b.timescale)) (number_tells of fields.Language a.language b.language)) (λ h. (h.0.0.0, h.0.0.1, h.0.1, h.1))

  media_lists_tell : (a b : Media) → Tells (media_lists of a b) ((a.handler ≡ b.handler) × (a.extended_languages ≡ b.extended_languages) × (a.header ≡ b.header) × (a.descriptions ≡ b.descriptions))
  media_lists_tell a b =
      let languages = both (payload_tells of entries.Handler 1 a.handler b.handler) (payloads_tell entries.ExtendedLanguages a.extended_languages b.extended_languages) in
      let descriptions = list_tells of entries.Descriptions (box_differences of entries.Descriptions) (box_tells entries.Descriptions) a.descriptions b.descriptions in
      weaker (both (both languages (box_tells entries.MediaHeader 1 a.header b.header)) descriptions) (λ h. (h.0.0.0, h.0.0.1, h.0.1, h.1))

  -- ---- tracks

  track_fields_tell : (a b : TrackHead) → Tells (track_fields of a b) ((a.flags ≡ b.flags) × (a.creation ≡ b.creation) × (a.modification ≡ b.modification) × (a.id ≡ b.id))
  track_fields_tell a b =
      let first = both (number_tells of fields.Flags a.flags b.flags) (number_tells of fields.Creation a.creation b.creation) in
      weaker (both (both first (number_tells of fields.Modification a.modification b.modification)) (number_tells of fields.Id a.id b.id)) (λ h. (h.0.0.0, h.0.0.1, h.0.1, h.1))

  track_layers_tell : (a b : TrackHead) → Tells (track_layers of a b) ((a.layer ≡ b.layer) × (a.alternate_group ≡ b.alternate_group))
  track_layers_tell a b = both (signed_tells of fields.Layer a.layer b.layer) (signed_tells of fields.AlternateGroup a.alternate_group b.alternate_group)

  track_shape_tells : (a b : TrackHead) → Tells (track_shape of a b) ((a.volume ≡ b.volume) × (length a.matrix ≡ length b.matrix → a.matrix ≡ b.matrix))
  track_shape_tells a b = both (signed_tells of fields.Volume a.volume b.volume) (matrix_tells a.matrix b.matrix)

  track_sizes_tell : (a b : TrackHead) → Tells (track_sizes of a b) ((a.width ≡ b.width) × (a.height ≡ b.height))
  track_sizes_tell a b = both (number_tells of fields.Width a.width b.width) (number_tells of fields.Height a.height b.height)

  -- Heads of tracks with matrices of one length are equal where nothing differs.
  pub head_tells : (a b : TrackHead) → Tells (head_differences of a b) (length a.matrix ≡ length b.matrix → a ≡ b)
  head_tells a b =
      let fixed = both (both (both (track_fields_tell a b) (track_layers_tell a b)) (track_shape_tells a b)) (track_sizes_tell a b) in
      let edits = list_tells of entries.Edits (edit_differences of) edit_tells a.edits b.edits in
      let before = both (both fixed edits) (kept_tell a.kept b.kept) in
      let media = both (both before (media_fields_tell a.media b.media)) (media_lists_tell a.media b.media) in
      weaker (both media (payloads_tell entries.GroupDescriptions a.group_descriptions b.group_descriptions)) (λ h n.
      let front = h.0.0.0 in
      let head = front.0.0 in
      let first = head.0.0.0 in
      let times = h.0.0.1 in
      let lists = h.0.1 in
      λ i. record {
        flags = first.0 i;
        creation = first.1 i;
        modification = first.2 i;
        id = first.3 i;
        layer = head.0.0.1.0 i;
        alternate_group = head.0.0.1.1 i;
        volume = head.0.1.0 i;
        matrix = head.0.1.1 n i;
        width = head.1.0 i;
        height = head.1.1 i;
        edits = front.0.1 i;
        kept = front.1 i;
        media = record {
          creation = times.0 i;
          modification = times.1 i;
          timescale = times.2 i;
          language = times.3 i;
          handler = lists.0 i;
          extended_languages = lists.1 i;
          header = lists.2 i;
          descriptions = lists.3 i;
        };
        group_descriptions = h.1 i;
      })

  -- ---- nothing differs from itself

  box_self : (list : Entries) (n : ℕ) (a : Kept) → box_differences of list n a a ≡ []
  box_self list n a = simp (differ_self, bytes_self)

  edit_self : (n : ℕ) (a : Edit) → edit_differences of n a a ≡ []
  edit_self n a = simp differ_self

  matrix_self : (xs : List ℤ) → matrix_differences of xs xs ≡ []
  matrix_self xs = each_self (λ (n : ℕ) (x y : ℤ). signed of (fields.Matrix n) x y) (λ n x. differ_self of (fields.Matrix n) (Signed x)) 1 xs

  edits_self : (xs : List Edit) → each_differ (edit_differences of) 1 xs xs ≡ []
  edits_self xs = each_self (edit_differences of) edit_self 1 xs

  boxes_self : (list : Entries) (xs : List Kept) → each_differ (box_differences of list) 1 xs xs ≡ []
  boxes_self list xs = each_self (box_differences of list) (box_self list) 1 xs

  payloads_self : (list : Entries) (xs : List (List ℕ)) → each_differ (payload_differences of list) 1 xs xs ≡ []
  payloads_self list xs = each_self (payload_differences of list) (payload_self of list) 1 xs

  pub head_self : (a : TrackHead) → head_differences of a a ≡ []
  head_self a = simp (differ_self, bytes_self, matrix_self, edits_self, boxes_self, payloads_self)

-- ---- movies

-- Heads of movies with matrices of one length are equal where nothing differs.
pub movie_tells : (a b : MovieHead) → Tells (movie_differences a b) (length a.matrix ≡ length b.matrix → a ≡ b)
movie_tells a b =
    let of = subjects.Movie in
    let times = both (number_tells of fields.Creation a.creation b.creation) (number_tells of fields.Modification a.modification b.modification) in
    let rates = both (signed_tells of fields.Rate a.rate b.rate) (signed_tells of fields.Volume a.volume b.volume) in
    let front = both (both (both times (number_tells of fields.Timescale a.timescale b.timescale)) rates) (matrix_tells of a.matrix b.matrix) in
    weaker (both front (kept_tell of a.kept b.kept)) (λ h n i. record {
      creation = h.0.0.0.0.0 i;
      modification = h.0.0.0.0.1 i;
      timescale = h.0.0.0.1 i;
      rate = h.0.0.1.0 i;
      volume = h.0.0.1.1 i;
      matrix = h.0.1 n i;
      kept = h.1 i;
    })

pub movie_self : (a : MovieHead) → movie_differences a a ≡ []
movie_self a = simp (differ_self, matrix_self, boxes_self)
