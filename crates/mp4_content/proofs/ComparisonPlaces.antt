-- What a list of differences says of places: each entry has the values that are there.
use Rattle.std.proofs.Common.{◌≡◌, ℕ, suc, ◌+◌, Bool, true, false, if◌then◌else◌, List, [], ◌∷◌, ◌++◌, length, Option, None, Some, ℤ, refl, sym, ap, subst, ◌∙◌, arith}
use Rattle.std.specs.Prelude.{◌==◌, slice_get, option_map, option_and_then}
use Rattle.std.specs.List.{AllByRecursion}
use Rattle.std.proofs.lemmas.Bool.{eqb-true, eq-eqb}
use Rattle.mp4_boxes.proofs.Among.{all_append}
use Rattle.mp4_boxes.proofs.Each.{each_weaker}
use Rattle.mp4_tables.specs.format.Groups.{GroupKey, index_at}
use Rattle.mp4_head.specs.format.Head.{Kept, Edit}
use Rattle.mp4_present.specs.format.Presentation.{Sample, Track, Presentation}
use Rattle.mp4_content.specs.format.Differences.{same_value, differ, numbers_differ, signed, first_unequal, byte_at, bytes_differ, payload_differences, each_differ, box_differences, edit_differences, matrix_differences, movie_differences, head_differences, movie_rates, kept_differences, track_fields, track_layers, track_shape, track_sizes, media_fields, media_lists}
use Rattle.mp4_content.specs.format.Comparison.{keys_of_both, sample_differences, track_differences, differences}
use Rattle.mp4_content.specs.format.ComparisonLaws.{member, byte_value, payload_value, box_value, edit_value, movie_value, count_value, track_value, sample_value, value_at, IsTheirs, DifferencesAreTheirs}
use Rattle.mp4_content.specs.declared.comparing.differences.Subject.{Subject}
use Rattle.mp4_content.specs.declared.comparing.differences.Subject.TheVariants as subjects
use Rattle.mp4_content.specs.declared.comparing.differences.Entries.{Entries}
use Rattle.mp4_content.specs.declared.comparing.differences.Entries.TheVariants as entries
use Rattle.mp4_content.specs.declared.comparing.differences.Part.{Part}
use Rattle.mp4_content.specs.declared.comparing.differences.Part.TheVariants as parts
use Rattle.mp4_content.specs.declared.comparing.differences.Field.{Field}
use Rattle.mp4_content.specs.declared.comparing.differences.Field.TheVariants as fields
use Rattle.mp4_content.specs.declared.comparing.differences.Value.{Value}
use Rattle.mp4_content.specs.declared.comparing.differences.Value.TheVariants.{Number, Signed, Kind, Byte}
use Rattle.mp4_content.specs.declared.comparing.differences.Difference.{Difference}
use Rattle.mp4_content.proofs.ComparisonGroups.{key_field, at_keys}

-- ---- lists of which each entry has the values of its place

-- of this subject, by what its fields say on both sides
record IsAt (of : Subject) (f g : Field → Option Value) (d : Difference) : Type 0 where
  subject : d.subject ≡ of
  left : f d.field ≡ Some d.left
  right : g d.field ≡ Some d.right

record AreAt (of : Subject) (f g : Field → Option Value) (ds : List Difference) : Type 0 where
  each : AllByRecursion (IsAt of f g) ds

module _ {of : Subject} {f g : Field → Option Value} where
  both : {xs ys : List Difference} → AreAt of f g xs → AreAt of f g ys → AreAt of f g (xs ++ ys)
  both {xs} {ys} t u = record { each = all_append (IsAt of f g) xs ys t.each u.each }

  differ_by : (field : Field) (l r : Value) (b : Bool) → f field ≡ Some l → g field ≡ Some r → AreAt of f g (if b then [] else record { subject = of; field = field; left = l; right = r } ∷ [])
  differ_by field l r true e h = record { each = tt }
  differ_by field l r false e h = record { each = (record { subject = refl; left = e; right = h }, tt) }

  differ_at : (field : Field) (l r : Value) → f field ≡ Some l → g field ≡ Some r → AreAt of f g (differ of field l r)
  unfolding differ
  differ_at field l r e h = differ_by field l r (same_value l r) e h

-- ---- entries of lists

each_places : {A : Type 0} (P : Difference → Type 0) (one : ℕ → A → A → List Difference) (n : ℕ) (xs ys : List A)
    → ((k : ℕ) (x y : A) → slice_get xs k ≡ Some x → slice_get ys k ≡ Some y → AllByRecursion P (one (k + n) x y)) → AllByRecursion P (each_differ one n xs ys)
each_places P one n [] ys h = tt
each_places P one n (x ∷ xs) [] h = tt
each_places P one n (x ∷ xs) (y ∷ ys) h =
    let first : 0 + n ≡ n = omega arith in
    let next : (k : ℕ) → suc k + n ≡ k + suc n = λ k. omega arith in
    all_append P (one n x y) (each_differ one (suc n) xs ys) (subst (λ (m : ℕ). AllByRecursion P (one m x y)) first (h 0 x y refl refl))
    (each_places P one (suc n) xs ys (λ k v w e f. subst (λ (m : ℕ). AllByRecursion P (one m v w)) (next k) (h (suc k) v w e f)))

-- what holds of the differences of members at one place holds of all of them
members_hold : {A : Type 0} (P : Difference → Type 0) (one : ℕ → A → A → List Difference) (xs ys : List A)
    → ((k : ℕ) (x y : A) → member xs k ≡ Some x → member ys k ≡ Some y → AllByRecursion P (one k x y)) → AllByRecursion P (each_differ one 1 xs ys)
members_hold P one xs ys h =
    let next : (k : ℕ) → suc k ≡ k + 1 = λ k. omega arith in
    each_places P one 1 xs ys (λ k x y e f. subst (λ (m : ℕ). AllByRecursion P (one m x y)) (next k) (h (suc k) x y e f))

-- ---- bytes

-- a byte that was found is there in both, so far behind the number from which they were counted
abbrev AreThere : ℕ → List ℕ → List ℕ → Option (ℕ × ℕ × ℕ) → Type 0
AreThere n xs ys None = Unit {0}
AreThere n xs ys (Some found) = (i : ℕ) × (found.0 ≡ i + n) × (slice_get xs i ≡ Some found.1) × (slice_get ys i ≡ Some found.2)

there_later : (n x y : ℕ) (xs ys : List ℕ) (found : Option (ℕ × ℕ × ℕ)) → AreThere (suc n) xs ys found → AreThere n (x ∷ xs) (y ∷ ys) found
there_later n x y xs ys None h = tt
there_later n x y xs ys (Some found) h = let i = h.0 in let e = h.1 in (suc i, omega (arith, e), h.2, h.3)

there_by : (n x y : ℕ) (xs ys : List ℕ) (b : Bool) → AreThere (suc n) xs ys (first_unequal (suc n) xs ys) → AreThere n (x ∷ xs) (y ∷ ys) (if b then first_unequal (suc n) xs ys else Some (n, x, y))
there_by n x y xs ys true h = there_later n x y xs ys (first_unequal (suc n) xs ys) h
there_by n x y xs ys false h = (0, omega arith, refl, refl)

first_there : (n : ℕ) (xs ys : List ℕ) → AreThere n xs ys (first_unequal n xs ys)
first_there n [] ys = tt
first_there n (x ∷ xs) [] = tt
first_there n (x ∷ xs) (y ∷ ys) = there_by n x y xs ys (x == y) (first_there (suc n) xs ys)

byte_there : (bytes : List ℕ) (count k i v : ℕ) → length bytes ≡ count → k ≡ suc i → slice_get bytes i ≡ Some v → byte_value bytes k count ≡ Some (Byte v)
byte_there bytes count k i v l e h = rw (eq-eqb (length bytes) count l) (ap (λ (j : ℕ). option_map (λ (n : ℕ). Byte n) (member bytes j)) e ∙ ap (option_map (λ (n : ℕ). Byte n)) h)

module _ {of : Subject} {f g : Field → Option Value} (field : ℕ → ℕ → Field) (xs ys : List ℕ) (hf : (k count : ℕ) → f (field k count) ≡ byte_value xs k count) (hg : (k count : ℕ) → g (field k count) ≡ byte_value ys k count) where
  byte_found : (found : Option (ℕ × ℕ × ℕ)) → AreThere 0 xs ys found → length xs ≡ length ys → AreAt of f g (byte_at of (λ (k : ℕ). field k (length xs)) found)
  byte_found None h l = record { each = tt }
  byte_found (Some found) h l =
      let i = h.0 in
      let e = h.1 in
      let next : found.0 + 1 ≡ suc i = omega (arith, e) in
      differ_at (field (found.0 + 1) (length xs)) (Byte found.1) (Byte found.2)
      (hf (found.0 + 1) (length xs) ∙ byte_there xs (length xs) (found.0 + 1) i found.1 refl next h.2)
      (hg (found.0 + 1) (length xs) ∙ byte_there ys (length xs) (found.0 + 1) i found.2 (sym l) next h.3)

  bytes_by : (b : Bool) → (length xs == length ys) ≡ b → AreAt of f g (if b then byte_at of (λ (k : ℕ). field k (length xs)) (first_unequal 0 xs ys) else [])
  bytes_by true e = byte_found (first_unequal 0 xs ys) (first_there 0 xs ys) (eqb-true (length xs) (length ys) e)
  bytes_by false e = record { each = tt }

  bytes_at : AreAt of f g (bytes_differ of (λ (k : ℕ). field k (length xs)) (length xs) (length ys) xs ys)
  bytes_at = bytes_by (length xs == length ys) refl

-- ---- parts of heads

module _ {of : Subject} {f g : Field → Option Value} where
  entries_at : {A : Type 0} (one : ℕ → A → A → List Difference) (xs ys : List A) → ((k : ℕ) (x y : A) → member xs k ≡ Some x → member ys k ≡ Some y → AreAt of f g (one k x y)) → AreAt of f g (each_differ one 1 xs ys)
  entries_at one xs ys h = record { each = members_hold (IsAt of f g) one xs ys (λ k x y e i. (h k x y e i).each) }

  matrix_at : (xs ys : List ℤ) → ((k : ℕ) → f (fields.Matrix k) ≡ option_map (λ m. Signed m) (member xs k)) → ((k : ℕ) → g (fields.Matrix k) ≡ option_map (λ m. Signed m) (member ys k)) → AreAt of f g (matrix_differences of xs ys)
  matrix_at xs ys hf hg = entries_at (λ (n : ℕ) (x y : ℤ). signed of (fields.Matrix n) x y) xs ys
      (λ k x y e i. differ_at (fields.Matrix k) (Signed x) (Signed y) (hf k ∙ ap (option_map (λ (m : ℤ). Signed m)) e) (hg k ∙ ap (option_map (λ (m : ℤ). Signed m)) i))

  payload_at : (list : Entries) (n : ℕ) (xs ys : List ℕ) → ((part : Part) → f (fields.Entry list n part) ≡ payload_value part xs) → ((part : Part) → g (fields.Entry list n part) ≡ payload_value part ys) → AreAt of f g (payload_differences of list n xs ys)
  payload_at list n xs ys hf hg =
      both (differ_at (fields.Entry list n parts.Length) (Number (length xs)) (Number (length ys)) (hf parts.Length) (hg parts.Length))
      (bytes_at (λ (k count : ℕ). fields.Entry list n (parts.Byte k count)) xs ys (λ k count. hf (parts.Byte k count)) (λ k count. hg (parts.Byte k count)))

  box_at : (list : Entries) (n : ℕ) (a b : Kept) → ((part : Part) → f (fields.Entry list n part) ≡ box_value part a) → ((part : Part) → g (fields.Entry list n part) ≡ box_value part b) → AreAt of f g (box_differences of list n a b)
  box_at list n a b hf hg =
      both (differ_at (fields.Entry list n parts.Kind) (Kind (record { 0 = a.kind })) (Kind (record { 0 = b.kind })) (hf parts.Kind) (hg parts.Kind))
      (both (differ_at (fields.Entry list n parts.Length) (Number (length a.payload)) (Number (length b.payload)) (hf parts.Length) (hg parts.Length))
      (bytes_at (λ (k count : ℕ). fields.Entry list n (parts.Byte k count)) a.payload b.payload (λ k count. hf (parts.Byte k count)) (λ k count. hg (parts.Byte k count))))

  edit_at : (n : ℕ) (a b : Edit) → ((part : Part) → f (fields.Entry entries.Edits n part) ≡ edit_value part a) → ((part : Part) → g (fields.Entry entries.Edits n part) ≡ edit_value part b) → AreAt of f g (edit_differences of n a b)
  edit_at n a b hf hg =
      let at = fields.Entry entries.Edits n in
      both (both (differ_at (at parts.SegmentDuration) (Number a.segment_duration) (Number b.segment_duration) (hf parts.SegmentDuration) (hg parts.SegmentDuration)) (differ_at (at parts.MediaTime) (Signed a.media_time) (Signed b.media_time) (hf parts.MediaTime) (hg parts.MediaTime)))
      (both (differ_at (at parts.RateInteger) (Signed a.rate_integer) (Signed b.rate_integer) (hf parts.RateInteger) (hg parts.RateInteger)) (differ_at (at parts.RateFraction) (Signed a.rate_fraction) (Signed b.rate_fraction) (hf parts.RateFraction) (hg parts.RateFraction)))

  boxes_at : (list : Entries) (xs ys : List Kept) → ((k : ℕ) (part : Part) → f (fields.Entry list k part) ≡ option_and_then (box_value part) (member xs k)) → ((k : ℕ) (part : Part) → g (fields.Entry list k part) ≡ option_and_then (box_value part) (member ys k))
      → AreAt of f g (each_differ (box_differences of list) 1 xs ys)
  boxes_at list xs ys hf hg = entries_at (box_differences of list) xs ys (λ k x y e i. box_at list k x y (λ part. hf k part ∙ ap (option_and_then (box_value part)) e) (λ part. hg k part ∙ ap (option_and_then (box_value part)) i))

  payloads_at : (list : Entries) (xs ys : List (List ℕ)) → ((k : ℕ) (part : Part) → f (fields.Entry list k part) ≡ option_and_then (payload_value part) (member xs k)) → ((k : ℕ) (part : Part) → g (fields.Entry list k part) ≡ option_and_then (payload_value part) (member ys k))
      → AreAt of f g (each_differ (payload_differences of list) 1 xs ys)
  payloads_at list xs ys hf hg = entries_at (payload_differences of list) xs ys (λ k x y e i. payload_at list k x y (λ part. hf k part ∙ ap (option_and_then (payload_value part)) e) (λ part. hg k part ∙ ap (option_and_then (payload_value part)) i))

  edits_at : (xs ys : List Edit) → ((k : ℕ) (part : Part) → f (fields.Entry entries.Edits k part) ≡ option_and_then (edit_value part) (member xs k)) → ((k : ℕ) (part : Part) → g (fields.Entry entries.Edits k part) ≡ option_and_then (edit_value part) (member ys k))
      → AreAt of f g (each_differ (edit_differences of) 1 xs ys)
  edits_at xs ys hf hg = entries_at (edit_differences of) xs ys (λ k x y e i. edit_at k x y (λ part. hf k part ∙ ap (option_and_then (edit_value part)) e) (λ part. hg k part ∙ ap (option_and_then (edit_value part)) i))

-- ---- tracks

module _ (n : ℕ) (s t : Track) where
  abbrev AreHere : List Difference → Type 0
  AreHere ds = AreAt (subjects.Track n) (track_value s) (track_value t) ds

  matrix_here : AreHere (matrix_differences (subjects.Track n) s.head.matrix t.head.matrix)
  matrix_here = matrix_at s.head.matrix t.head.matrix (λ k. refl) (λ k. refl)

  edits_here : AreHere (each_differ (edit_differences (subjects.Track n)) 1 s.head.edits t.head.edits)
  edits_here = edits_at s.head.edits t.head.edits (λ k part. refl) (λ k part. refl)

  kept_here : AreHere (each_differ (box_differences (subjects.Track n) entries.Kept) 1 s.head.kept t.head.kept)
  kept_here = boxes_at entries.Kept s.head.kept t.head.kept (λ k part. refl) (λ k part. refl)

  handler_here : AreHere (payload_differences (subjects.Track n) entries.Handler 1 s.head.media.handler t.head.media.handler)
  handler_here = payload_at entries.Handler 1 s.head.media.handler t.head.media.handler (λ part. refl) (λ part. refl)

  languages_here : AreHere (each_differ (payload_differences (subjects.Track n) entries.ExtendedLanguages) 1 s.head.media.extended_languages t.head.media.extended_languages)
  languages_here = payloads_at entries.ExtendedLanguages s.head.media.extended_languages t.head.media.extended_languages (λ k part. refl) (λ k part. refl)

  header_here : AreHere (box_differences (subjects.Track n) entries.MediaHeader 1 s.head.media.header t.head.media.header)
  header_here = box_at entries.MediaHeader 1 s.head.media.header t.head.media.header (λ part. refl) (λ part. refl)

  descriptions_here : AreHere (each_differ (box_differences (subjects.Track n) entries.Descriptions) 1 s.head.media.descriptions t.head.media.descriptions)
  descriptions_here = boxes_at entries.Descriptions s.head.media.descriptions t.head.media.descriptions (λ k part. refl) (λ k part. refl)

  groups_here : AreHere (each_differ (payload_differences (subjects.Track n) entries.GroupDescriptions) 1 s.head.group_descriptions t.head.group_descriptions)
  groups_here = payloads_at entries.GroupDescriptions s.head.group_descriptions t.head.group_descriptions (λ k part. refl) (λ k part. refl)

  fields_here : AreHere (track_fields (subjects.Track n) s.head t.head)
  fields_here = search (both, differ_at)

  layers_here : AreHere (track_layers (subjects.Track n) s.head t.head)
  layers_here = search (both, differ_at)

  shape_here : AreHere (track_shape (subjects.Track n) s.head t.head)
  shape_here = both (differ_at fields.Volume (Signed s.head.volume) (Signed t.head.volume) refl refl) matrix_here

  sizes_here : AreHere (track_sizes (subjects.Track n) s.head t.head)
  sizes_here = search (both, differ_at)

  fixed_here : AreHere (track_fields (subjects.Track n) s.head t.head ++ track_layers (subjects.Track n) s.head t.head ++ track_shape (subjects.Track n) s.head t.head ++ track_sizes (subjects.Track n) s.head t.head)
  fixed_here = both (both (both fields_here layers_here) shape_here) sizes_here

  media_fields_here : AreHere (media_fields (subjects.Track n) s.head.media t.head.media)
  media_fields_here = search (both, differ_at)

  count_here : (list : Entries) → AreHere (numbers_differ (subjects.Track n) (fields.Count list) (count_value s.head list) (count_value t.head list))
  count_here list = differ_at (fields.Count list) (Number (count_value s.head list)) (Number (count_value t.head list)) refl refl

  media_lists_here : AreHere (media_lists (subjects.Track n) s.head.media t.head.media)
  media_lists_here = both (both (both handler_here (both (count_here entries.ExtendedLanguages) languages_here)) header_here) (both (count_here entries.Descriptions) descriptions_here)

  head_here : AreHere (head_differences (subjects.Track n) s.head t.head)
  head_here = both (both (both (both (both fixed_here (both (count_here entries.Edits) edits_here)) (both (count_here entries.Kept) kept_here)) media_fields_here) media_lists_here) (both (count_here entries.GroupDescriptions) groups_here)

  start_here : AreHere (numbers_differ (subjects.Track n) fields.Start s.start t.start)
  start_here = differ_at fields.Start (Number s.start) (Number t.start) refl refl

  samples_here : AreHere (numbers_differ (subjects.Track n) fields.Samples (length s.samples) (length t.samples))
  samples_here = differ_at fields.Samples (Number (length s.samples)) (Number (length t.samples)) refl refl

-- ---- samples

module _ (n k : ℕ) (s t : Sample) where
  abbrev AreIn : List Difference → Type 0
  AreIn ds = AreAt (subjects.Sample n k) (sample_value s) (sample_value t) ds

  keys_in : (keys : List GroupKey) → AreIn (at_keys (subjects.Sample n k) s.groups t.groups keys)
  keys_in [] = record { each = tt }
  keys_in (key ∷ keys) = both (differ_at (key_field key) (Number (index_at key s.groups)) (Number (index_at key t.groups)) refl refl) (keys_in keys)

  bytes_in : AreIn (bytes_differ (subjects.Sample n k) (λ (j : ℕ). fields.Byte j (length s.bytes)) (length s.bytes) (length t.bytes) s.bytes t.bytes)
  bytes_in = bytes_at (λ (j count : ℕ). fields.Byte j count) s.bytes t.bytes (λ j count. refl) (λ j count. refl)

  numbers_in : AreIn (numbers_differ (subjects.Sample n k) fields.Duration s.duration t.duration ++ signed (subjects.Sample n k) fields.Offset s.offset t.offset ++ numbers_differ (subjects.Sample n k) fields.Flags s.flags t.flags
      ++ numbers_differ (subjects.Sample n k) fields.Description s.description t.description)
  numbers_in = search (both, differ_at)

  sample_in : AreIn (sample_differences n k s t)
  sample_in = both (both numbers_in (keys_in (keys_of_both s.groups t.groups))) (both (differ_at fields.Size (Number (length s.bytes)) (Number (length t.bytes)) refl refl) bytes_in)

-- ---- the whole

module _ (p q : Presentation) where
  abbrev AreTheirs : List Difference → Type 0
  AreTheirs ds = AllByRecursion (IsTheirs p q) ds

  of_movie : (ds : List Difference) → AreAt subjects.Movie (movie_value p) (movie_value q) ds → AreTheirs ds
  of_movie ds t = each_weaker (IsAt subjects.Movie (movie_value p) (movie_value q)) (IsTheirs p q)
      (λ d h. (ap (λ (of : Subject). value_at p of d.field) h.subject ∙ h.left, ap (λ (of : Subject). value_at q of d.field) h.subject ∙ h.right)) ds t.each

  of_track : (n : ℕ) (s t : Track) (ds : List Difference) → member p.tracks n ≡ Some s → member q.tracks n ≡ Some t → AreHere n s t ds → AreTheirs ds
  of_track n s t ds e f here = each_weaker (IsAt (subjects.Track n) (track_value s) (track_value t)) (IsTheirs p q)
      (λ d h. (
        ap (λ (of : Subject). value_at p of d.field) h.subject ∙ ap (option_and_then (λ (x : Track). track_value x d.field)) e ∙ h.left,
        ap (λ (of : Subject). value_at q of d.field) h.subject ∙ ap (option_and_then (λ (x : Track). track_value x d.field)) f ∙ h.right,
      )) ds here.each

  of_sample : (n k : ℕ) (s t : Track) (a b : Sample) → member p.tracks n ≡ Some s → member q.tracks n ≡ Some t → member s.samples k ≡ Some a → member t.samples k ≡ Some b → AreTheirs (sample_differences n k a b)
  of_sample n k s t a b e f i j = each_weaker (IsAt (subjects.Sample n k) (sample_value a) (sample_value b)) (IsTheirs p q)
      (λ d h. (
        ap (λ (of : Subject). value_at p of d.field) h.subject ∙ ap (option_and_then (λ (x : Track). option_and_then (λ (y : Sample). sample_value y d.field) (member x.samples k))) e
            ∙ ap (option_and_then (λ (y : Sample). sample_value y d.field)) i ∙ h.left,
        ap (λ (of : Subject). value_at q of d.field) h.subject ∙ ap (option_and_then (λ (x : Track). option_and_then (λ (y : Sample). sample_value y d.field) (member x.samples k))) f
            ∙ ap (option_and_then (λ (y : Sample). sample_value y d.field)) j ∙ h.right,
      )) (sample_differences n k a b) (sample_in n k a b).each

  of_samples : (n : ℕ) (s t : Track) → member p.tracks n ≡ Some s → member q.tracks n ≡ Some t → AreTheirs (each_differ (sample_differences n) 1 s.samples t.samples)
  of_samples n s t e f = members_hold (IsTheirs p q) (sample_differences n) s.samples t.samples (λ k a b i j. of_sample n k s t a b e f i j)

  one_track : (n : ℕ) (s t : Track) → member p.tracks n ≡ Some s → member q.tracks n ≡ Some t → AreTheirs (track_differences n s t)
  one_track n s t e f =
      let front = head_differences (subjects.Track n) s.head t.head ++ numbers_differ (subjects.Track n) fields.Start s.start t.start ++ numbers_differ (subjects.Track n) fields.Samples (length s.samples) (length t.samples) in
      all_append (IsTheirs p q) front (each_differ (sample_differences n) 1 s.samples t.samples)
      (of_track n s t front e f (both (both (head_here n s t) (start_here n s t)) (samples_here n s t))) (of_samples n s t e f)

  abbrev AreMovies : List Difference → Type 0
  AreMovies ds = AreAt subjects.Movie (movie_value p) (movie_value q) ds

  movie_times : AreMovies (numbers_differ subjects.Movie fields.Creation p.movie.creation q.movie.creation ++ numbers_differ subjects.Movie fields.Modification p.movie.modification q.movie.modification ++ numbers_differ subjects.Movie fields.Timescale p.movie.timescale q.movie.timescale)
  movie_times = search (both, differ_at)

  movie_rates_here : AreMovies (movie_rates p.movie q.movie)
  movie_rates_here = search (both, differ_at)

  movie_matrix : AreMovies (matrix_differences subjects.Movie p.movie.matrix q.movie.matrix)
  movie_matrix = matrix_at p.movie.matrix q.movie.matrix (λ k. refl) (λ k. refl)

  movie_kept : AreMovies (kept_differences subjects.Movie p.movie.kept q.movie.kept)
  movie_kept = both (differ_at (fields.Count entries.Kept) (Number (length p.movie.kept)) (Number (length q.movie.kept)) refl refl) (boxes_at entries.Kept p.movie.kept q.movie.kept (λ k part. refl) (λ k part. refl))

  movie_here : AreMovies (movie_differences p.movie q.movie ++ numbers_differ subjects.Movie fields.Tracks (length p.tracks) (length q.tracks))
  movie_here = both (both (both (both movie_times movie_rates_here) movie_matrix) movie_kept) (differ_at fields.Tracks (Number (length p.tracks)) (Number (length q.tracks)) refl refl)

  all_theirs : AreTheirs (differences p q)
  all_theirs =
      let front = movie_differences p.movie q.movie ++ numbers_differ subjects.Movie fields.Tracks (length p.tracks) (length q.tracks) in
      all_append (IsTheirs p q) front (each_differ track_differences 1 p.tracks q.tracks) (of_movie front movie_here) (members_hold (IsTheirs p q) track_differences p.tracks q.tracks one_track)

pub differences_are_theirs : DifferencesAreTheirs
differences_are_theirs p q = all_theirs p q
