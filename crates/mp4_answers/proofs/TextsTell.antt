-- Texts tell what they are of: heads, samples, tracks, and the whole.
use Rattle.std.proofs.Common.{◌≡◌, ◌⊎◌, inl, inr, ℕ, zero, suc, ◌%◌, ◌^◌, ◌<◌, ◌≤◌, ◌-◌, min, ltb, cond, Bool, true, false, List, [], ◌∷◌, ◌++◌, length, take, refl, sym, ap, subst, ◌∙◌, arith, append_assoc, codes, decimal, div-le_self}
use Rattle.std.specs.Prelude.{Contains, ◌&&◌, map, flat_map, filter, not, if◌then◌else◌, slice_index, ℤ, pos, negsuc, ◌-ℤ◌, neg_ℤ, FitsSigned}
use Rattle.std.specs.Fmt.{signed_decimal}
use Rattle.std.specs.Int.{w16, w32, w64}
use Rattle.std.specs.List.{AllByRecursion}
use Rattle.std.proofs.lemmas.Bool.{and_parts, ltb-true}
use Rattle.std.proofs.lemmas.Fmt.{decimal_injective}
use Rattle.std.proofs.lemmas.List.{append-nil}
use Rattle.std.proofs.lemmas.List.Elements.{Contains-append_right}
use Rattle.sha2.specs.Sha256.{sha256}
use Rattle.sha2.proofs.Facts256.{length-sha256}
use Rattle.mp4_boxes.specs.format.Bytes.{AreBytes}
use Rattle.mp4_boxes.specs.format.Children.{is_among, kept_kinds, media_headers}
use Rattle.mp4_boxes.specs.declared.rule.Rule.TheVariants as rules
use Rattle.mp4_boxes.proofs.Joined.{all_first, all_last}
use Rattle.mp4_boxes.proofs.Each.{each_from, each_kept, each_taken, each_value, each_weaker}
use Rattle.mp4_boxes.proofs.WrittenBoxes.{among_has}
use Rattle.mp4_boxes.proofs.Plain.{tail_is}
use Rattle.mp4_tables.specs.format.Groups.{Groups}
use Rattle.mp4_head.specs.format.Head.{Edit, Kept, Media, TrackHead, MovieHead, IsDescription, IsEdit, IsGroupDescription, IsKept, IsMedia, IsMovieHead, IsTrackHead}
use Rattle.mp4_present.specs.format.Presentation.{Sample, Track, Presentation, IsGroup, IsInTime, IsSample, IsTrack, Valid}
use Rattle.mp4_content.specs.format.Reduced.{number_track, first_offset, is_at_end, metadata_kinds, plain_handler, reduce_descriptions, reduce_kept, reduce_media, reduce_movie_head, reduce_sample, reduce_track, reduce_track_head, sync_flag}
use Rattle.mp4_content.specs.format.Remaining.{movie_divisor, remaining, remaining_movie, remaining_track, track_divisor}
use Rattle.mp4_content.specs.format.Timescales.{divided, leaves_duration, sample_by, sized, timescale_by, track_by}
use Rattle.mp4_content.proofs.Numbered.{numbered_each}
use Rattle.mp4_content.proofs.RemainingValues.{divided_each}
use Rattle.mp4_content.proofs.TimescalesValid.{edits_good}
use Rattle.mp4_content.specs.format.Zeros.{zeroed}
use Rattle.mp4_content.proofs.SamplesReduced.{reduced_each}
use Rattle.mp4_content.proofs.Plain.{descriptions_good}
use Rattle.mp4_content.specs.declared.without.Without.{Without}
use Rattle.mp4_plan.proofs.GoodPieces.{CanWrite, valid_tracks}
use Rattle.mp4_answers.specs.format.Text.{edit_line, edit_words, front_lines, group_text, head_lines, kept_lines, media_lines, movie_lines, named_line, number_line, payload_lines, sample_text, samples_heading, text_of, track_lines, track_text}
use Rattle.mp4_answers.specs.format.TextLaws.{Collision, TextsTell, digested, digested_head, digested_media, digested_track, payloads_of}
use Rattle.mp4_answers.specs.format.Texts.{hex_digits, hex_text, space, line_feed}
use Rattle.mp4_answers.proofs.TextParts.{IsToldIn, Same, IsType, each_byte, group_is_word, group_word, of_digest, same_group, same_kept, same_under, with_same}
use Rattle.mp4_answers.proofs.TextWords.{IsDigit, IsSmall, IsWord, EachByte, bytes_same, bytes_word, cancel, decimal_digits, decimal_word, hex_same_4, hex_same_6, hex_same_8, hex_word, run_ends, same_words, sha256_each, signed_same, signed_word, spaced, words_end}
use Rattle.mp4_content.specs.format.LeadIns.{left_of, told, words_told}
use Rattle.mp4_content.proofs.LeadInsTold.{left_is_told}
use Rattle.mp4_content.proofs.LeadInsValid.{told_is_valid}

-- ---- lists of things, each told apart, up to something else

-- what follows begins with something else at a place
abbrev pub Differs : ℕ → ℕ → List ℕ → Type 0
Differs place first zs = slice_index zs place ≡ first → ⊥

-- `R` is so of what follows each of the things
module _ {A : Type 0} (these those : List (List ℕ)) (P Q : A → Type 0) (R : List ℕ → Type 0) (f : A → List ℕ) (place first : ℕ) (begins : (x : A) (zs : List ℕ) → slice_index (f x ++ zs) place ≡ first) (goes_on : (x : A) (zs : List ℕ) → R (f x ++ zs))
    (one : (x y : A) (xs ys : List ℕ) → R xs → R ys → P x → Q y → f x ++ xs ≡ f y ++ ys → Same these those x y xs ys) where
  behind : (us : List A) (zs : List ℕ) → R zs → R (flat_map f us ++ zs)
  behind [] zs r = r
  behind (a ∷ us) zs r = subst R (sym (append_assoc (f a) (flat_map f us) zs)) (goes_on a (flat_map f us ++ zs))

  pub same_each : (us bs : List A) (xs ys : List ℕ) → R xs → R ys → Differs place first xs → Differs place first ys → AllByRecursion P us → AllByRecursion Q bs → flat_map f us ++ xs ≡ flat_map f bs ++ ys → Same these those us bs xs ys
  same_each [] [] xs ys r s p q h k e = inl (refl, e)
  same_each [] (b ∷ bs) xs ys r s p q h k e = absurd (p (ap (λ (zs : List ℕ). slice_index zs place) (e ∙ append_assoc (f b) (flat_map f bs) ys) ∙ begins b (flat_map f bs ++ ys)))
  same_each (a ∷ us) [] xs ys r s p q h k e = absurd (q (ap (λ (zs : List ℕ). slice_index zs place) (sym e ∙ append_assoc (f a) (flat_map f us) xs) ∙ begins a (flat_map f us ++ xs)))
  same_each (a ∷ us) (b ∷ bs) xs ys r s p q h k e =
      with_same these those (((a ∷ us) ≡ (b ∷ bs)) × (xs ≡ ys)) a b (flat_map f us ++ xs) (flat_map f bs ++ ys)
      (one a b (flat_map f us ++ xs) (flat_map f bs ++ ys) (behind us xs r) (behind bs ys s) h.0 k.0 (sym (append_assoc (f a) (flat_map f us) xs) ∙ e ∙ append_assoc (f b) (flat_map f bs) ys))
      (λ head rest. with_same these those (((a ∷ us) ≡ (b ∷ bs)) × (xs ≡ ys)) us bs xs ys (same_each us bs xs ys r s p q h.1 k.1 rest) (λ more end. inl (λ i. head i ∷ more i, end)))

-- what stands behind a list of things differs from something where these do, and what follows them
differs_behind : {A : Type 0} (f : A → List ℕ) (place first other : ℕ) → ((x : A) (zs : List ℕ) → slice_index (f x ++ zs) place ≡ first) → (first ≡ other → ⊥) → (us : List A) (zs : List ℕ) → Differs place other zs → Differs place other (flat_map f us ++ zs)
differs_behind f place first other begins ne [] zs d = d
differs_behind f place first other begins ne (a ∷ us) zs d = λ e. ne (sym (begins a (flat_map f us ++ zs)) ∙ ap (λ (bs : List ℕ). slice_index bs place) (sym (append_assoc (f a) (flat_map f us) zs)) ∙ e)

-- ---- lines of names

-- a line for each name, with its words
abbrev lines_of : List (List ℕ) → List (List (List ℕ)) → List ℕ
lines_of [] words = []
lines_of (name ∷ names) [] = []
lines_of (name ∷ names) (w ∷ words) = named_line name w ++ lines_of names words

abbrev AreWords : List (List (List ℕ)) → Type 0
AreWords words = AllByRecursion (λ (w : List (List ℕ)). AllByRecursion IsWord w) words

same_lines : (names : List (List ℕ)) (us vs : List (List (List ℕ))) (xs ys : List ℕ) → length us ≡ length names → length vs ≡ length names → AreWords us → AreWords vs → lines_of names us ++ xs ≡ lines_of names vs ++ ys → (us ≡ vs) × (xs ≡ ys)
same_lines [] [] [] xs ys m n h k e = (refl, e)
same_lines [] (u ∷ us) vs xs ys m n h k e = absurd (omega (arith, m))
same_lines [] [] (v ∷ vs) xs ys m n h k e = absurd (omega (arith, n))
same_lines (name ∷ names) [] vs xs ys m n h k e = absurd (omega (arith, m))
same_lines (name ∷ names) (u ∷ us) [] xs ys m n h k e = absurd (omega (arith, n))
same_lines (name ∷ names) (u ∷ us) (v ∷ vs) xs ys m n h k e =
    let r = same_words name u v (lines_of names us ++ xs) (lines_of names vs ++ ys) h.0 k.0 (sym (append_assoc (named_line name u) (lines_of names us) xs) ∙ e ∙ append_assoc (named_line name v) (lines_of names vs) ys) in
    let more = same_lines names us vs xs ys (omega (arith, m)) (omega (arith, n)) h.1 k.1 r.1 in
    (λ i. r.0 i ∷ more.0 i, more.1)

-- ---- numbers

small_16 : (z : ℤ) → FitsSigned w16 z → IsSmall z
small_16 (pos n) h = omega (arith, h.sfits)
small_16 (negsuc n) h = omega (arith, h.sfits)

small_32 : (z : ℤ) → FitsSigned w32 z → IsSmall z
small_32 (pos n) h = omega (arith, h.sfits)
small_32 (negsuc n) h = omega (arith, h.sfits)

small_cond : (v : Bool) (a b : ℕ) → a < 2 ^ 64 → b < 2 ^ 64 → IsSmall (cond v (negsuc (b - suc a)) (pos (a - b)))
small_cond true a b h k = omega (arith, k)
small_cond false a b h k = omega (arith, h)

-- a difference has a bit more
small_moved : (y z : ℤ) → FitsSigned w32 y → FitsSigned w32 z → IsSmall (y -ℤ z)
small_moved (pos m) (pos zero) h k = omega (arith, h.sfits)
small_moved (pos m) (pos (suc n)) h k = small_cond (ltb m (suc n)) m (suc n) (omega (arith, h.sfits)) (omega (arith, k.sfits))
small_moved (pos m) (negsuc n) h k = omega (arith, h.sfits, k.sfits)
small_moved (negsuc m) (pos zero) h k = small_cond (ltb 0 (suc m)) 0 (suc m) (omega arith) (omega (arith, h.sfits))
small_moved (negsuc m) (pos (suc n)) h k = omega (arith, h.sfits, k.sfits)
small_moved (negsuc m) (negsuc n) h k = small_cond (ltb (suc n) (suc m)) (suc n) (suc m) (omega (arith, k.sfits)) (omega (arith, h.sfits))

small_64 : (z : ℤ) → FitsSigned w64 z → IsSmall z
small_64 (pos n) h = omega (arith, h.sfits)
small_64 (negsuc n) h = omega (arith, h.sfits)

matrix_words : (zs : List ℤ) → AllByRecursion IsWord (map signed_decimal zs)
matrix_words [] = tt
matrix_words (z ∷ zs) = (signed_word z, matrix_words zs)

same_matrix : (ys zs : List ℤ) → AllByRecursion (FitsSigned w32) ys → AllByRecursion (FitsSigned w32) zs → map signed_decimal ys ≡ map signed_decimal zs → ys ≡ zs
same_matrix [] [] h k e = refl
same_matrix [] (z ∷ zs) h k e = absurd cc
same_matrix (y ∷ ys) [] h k e = absurd cc
same_matrix (y ∷ ys) (z ∷ zs) h k e =
    let one : signed_decimal y ≡ signed_decimal z = cc in
    let rest : map signed_decimal ys ≡ map signed_decimal zs = cc in
    let first = signed_same y z (small_32 y h.0) (small_32 z k.0) one in
    let more = same_matrix ys zs h.1 k.1 rest in
    λ i. first i ∷ more i

-- ---- kept boxes, payloads and edits

-- a box of a type of four bytes, and of bytes
abbrev IsToldBox : Kept → Type 0
IsToldBox k = IsType k.kind × EachByte k.payload

four_letters : (a b c d : ℕ) → ltb a 256 && (ltb b 256 && (ltb c 256 && ltb d 256)) ≡ true → IsType (a ∷ b ∷ c ∷ d ∷ [])
four_letters a b c d e =
    let p = and_parts (ltb a 256) (ltb b 256 && (ltb c 256 && ltb d 256)) e in
    let q = and_parts (ltb b 256) (ltb c 256 && ltb d 256) p.1 in
    let r = and_parts (ltb c 256) (ltb d 256) q.1 in
    record { four = refl; bytes = (ltb-true a 256 p.0, (ltb-true b 256 q.0, (ltb-true c 256 r.0, (ltb-true d 256 r.1, tt)))) }

movie_kinds : AllByRecursion IsType (kept_kinds rules.Movie)
movie_kinds = (four_letters 117 100 116 97 refl, (four_letters 105 111 100 115 refl, (four_letters 109 101 116 97 refl, tt)))

track_kinds : AllByRecursion IsType (kept_kinds rules.Track)
track_kinds = (four_letters 116 114 101 102 refl, (four_letters 117 100 116 97 refl, (four_letters 109 101 116 97 refl, tt)))

header_kinds : AllByRecursion IsType media_headers
header_kinds = (four_letters 118 109 104 100 refl, (four_letters 115 109 104 100 refl, (four_letters 104 109 104 100 refl, (four_letters 110 109 104 100 refl, (four_letters 115 116 104 100 refl, (four_letters 103 109 104 100 refl, tt))))))

told_kept : (kinds : List (List ℕ)) → AllByRecursion IsType kinds → (k : Kept) → IsKept kinds k → IsToldBox k
told_kept kinds h k i = (among_has IsType kinds k.kind h i.kind, each_byte k.payload i.bytes)

told_description : (k : Kept) → IsDescription k → IsToldBox k
told_description k i = (record { four = i.kind_length; bytes = each_byte k.kind i.kind }, each_byte k.payload i.bytes)

-- ---- among what is digested

-- each of a list is among it
in_itself : {A : Type 0} (xs : List A) → AllByRecursion (Contains xs) xs
in_itself [] = tt
in_itself (x ∷ xs) = ((0, omega arith, refl), each_weaker (Contains xs) (Contains (x ∷ xs)) (λ y c. Contains-append_right (x ∷ []) xs y c) xs (in_itself xs))

-- a box that is told, with its payload among these
abbrev IsBoxIn : List (List ℕ) → Kept → Type 0
IsBoxIn these k = IsToldBox k × Contains these k.payload

boxes_in : (these : List (List ℕ)) (kept : List Kept) → AllByRecursion IsToldBox kept → AllByRecursion (Contains these) (payloads_of kept) → AllByRecursion (IsBoxIn these) kept
boxes_in these [] h i = tt
boxes_in these (k ∷ kept) h i = ((h.0, i.0), boxes_in these kept h.1 i.1)

payloads_in : (these payloads : List (List ℕ)) → AllByRecursion EachByte payloads → AllByRecursion (Contains these) payloads → AllByRecursion (IsToldIn these) payloads
payloads_in these payloads h i = each_from EachByte (Contains these) (IsToldIn these) (λ x a b. (a, b)) payloads h i

-- what is left of kept boxes
left_kept : (l : Without) (kept : List Kept) → AllByRecursion IsToldBox kept → AllByRecursion IsToldBox (reduce_kept l kept)
left_kept l kept h = by l.metadata
  where
    test : Kept → Bool
    test k = not (is_among metadata_kinds k.kind)

    by : (v : Bool) → AllByRecursion IsToldBox (if v then filter test kept else kept)
    by true = each_weaker (λ (k : Kept). IsToldBox k × (test k ≡ true)) IsToldBox (λ k x. x.0) (filter test kept) (each_kept IsToldBox test kept h)
    by false = h

same_box : (these those : List (List ℕ)) (name : List ℕ) (j k : Kept) (xs ys : List ℕ) → IsBoxIn these j → IsBoxIn those k → kept_lines name j ++ xs ≡ kept_lines name k ++ ys → Same these those j k xs ys
same_box these those name j k xs ys hj hk e = same_kept these those name j k xs ys hj.0.0 hk.0.0 (hj.0.1, hj.1) (hk.0.1, hk.1) e

edit_are_words : (e : Edit) → AllByRecursion IsWord (edit_words e)
edit_are_words e = (decimal_word e.segment_duration, (signed_word e.media_time, (signed_word e.rate_integer, (signed_word e.rate_fraction, tt))))

same_edit : (these those : List (List ℕ)) (a b : Edit) (xs ys : List ℕ) → IsEdit a → IsEdit b → edit_line a ++ xs ≡ edit_line b ++ ys → Same these those a b xs ys
same_edit these those a b xs ys h k e =
    let r = same_words (codes "edit") (edit_words a) (edit_words b) xs ys (edit_are_words a) (edit_are_words b) e in
    let words = r.0 in
    let d : decimal a.segment_duration ≡ decimal b.segment_duration = cc in
    let t : signed_decimal a.media_time ≡ signed_decimal b.media_time = cc in
    let n : signed_decimal a.rate_integer ≡ signed_decimal b.rate_integer = cc in
    let f : signed_decimal a.rate_fraction ≡ signed_decimal b.rate_fraction = cc in
    let duration = decimal_injective a.segment_duration b.segment_duration h.segment_duration k.segment_duration d in
    let time = signed_same a.media_time b.media_time (small_64 a.media_time h.media_time) (small_64 b.media_time k.media_time) t in
    let integer = signed_same a.rate_integer b.rate_integer (small_16 a.rate_integer h.rate_integer) (small_16 b.rate_integer k.rate_integer) n in
    let fraction = signed_same a.rate_fraction b.rate_fraction (small_16 a.rate_fraction h.rate_fraction) (small_16 b.rate_fraction k.rate_fraction) f in
    inl (λ i. record { segment_duration = duration i; media_time = time i; rate_integer = integer i; rate_fraction = fraction i }, r.1)

-- lists of boxes under a name, of payloads under a name, and of edits
same_boxes : (these those : List (List ℕ)) (name : List ℕ) (first : ℕ) → ((x : Kept) (zs : List ℕ) → slice_index (kept_lines name x ++ zs) 1 ≡ first) → (us bs : List Kept) (xs ys : List ℕ) → Differs 1 first xs → Differs 1 first ys → AllByRecursion (IsBoxIn these) us
    → AllByRecursion (IsBoxIn those) bs
    → flat_map (kept_lines name) us ++ xs ≡ flat_map (kept_lines name) bs ++ ys → Same these those us bs xs ys
same_boxes these those name first begins us bs xs ys p q h k e = same_each these those (IsBoxIn these) (IsBoxIn those) (λ zs. Unit {0}) (kept_lines name) 1 first begins (λ x zs. tt) (λ x y us vs r s i j f. same_box these those name x y us vs i j f) us bs xs ys tt tt p q h k e

same_payloads : (these those : List (List ℕ)) (name : List ℕ) (first : ℕ) → ((x : List ℕ) (zs : List ℕ) → slice_index (payload_lines name x ++ zs) 1 ≡ first) → (us bs : List (List ℕ)) (xs ys : List ℕ) → Differs 1 first xs → Differs 1 first ys → AllByRecursion (IsToldIn these) us
    → AllByRecursion (IsToldIn those) bs
    → flat_map (payload_lines name) us ++ xs ≡ flat_map (payload_lines name) bs ++ ys → Same these those us bs xs ys
same_payloads these those name first begins us bs xs ys p q h k e = same_each these those (IsToldIn these) (IsToldIn those) (λ zs. Unit {0}) (payload_lines name) 1 first begins (λ x zs. tt) (λ x y us vs r s i j f. same_under these those name x y us vs i j f) us bs xs ys tt tt p q h k e

same_edits : (these those : List (List ℕ)) (us bs : List Edit) (xs ys : List ℕ) → Differs 1 101 xs → Differs 1 101 ys → AllByRecursion IsEdit us → AllByRecursion IsEdit bs → flat_map edit_line us ++ xs ≡ flat_map edit_line bs ++ ys → Same these those us bs xs ys
same_edits these those us bs xs ys p q h k e = same_each these those IsEdit IsEdit (λ zs. Unit {0}) edit_line 1 101 (λ x zs. refl) (λ x zs. tt) (λ x y us vs r s i j f. same_edit these those x y us vs i j f) us bs xs ys tt tt p q h k e

-- ---- samples

record IsToldSample (s : Sample) : Type 0 where
  pub duration : s.duration < 2 ^ 64
  pub offset : IsSmall s.offset
  pub flags : s.flags < 2 ^ 32
  pub description : s.description < 2 ^ 64
  pub groups : AllByRecursion IsGroup s.groups

abbrev sample_words : Sample → List (List ℕ)
sample_words s = decimal s.duration ∷ signed_decimal s.offset ∷ hex_digits 8 s.flags ∷ decimal s.description ∷ decimal (length s.bytes) ∷ hex_text (sha256 s.bytes) ∷ map group_word s.groups

groups_spaced : (groups : Groups) → flat_map group_text groups ≡ spaced (map group_word groups)
groups_spaced [] = refl
groups_spaced (g ∷ groups) = ap (λ (bs : List ℕ). group_text g ++ bs) (groups_spaced groups)

sample_split : (sp d o fl de si di gs feed xs : List ℕ) → (sp ++ d ++ sp ++ o ++ sp ++ fl ++ sp ++ de ++ sp ++ si ++ sp ++ di ++ gs ++ feed) ++ xs ≡ ((sp ++ d) ++ ((sp ++ o) ++ ((sp ++ fl) ++ ((sp ++ de) ++ ((sp ++ si) ++ ((sp ++ di) ++ gs)))))) ++ (feed ++ xs)
sample_split sp d o fl de si di gs feed xs = simp append_assoc

sample_is : (s : Sample) (xs : List ℕ) → sample_text s ++ xs ≡ spaced (sample_words s) ++ 10 ∷ xs
sample_is s xs =
    sample_split space (decimal s.duration) (signed_decimal s.offset) (hex_digits 8 s.flags) (decimal s.description) (decimal (length s.bytes)) (hex_text (sha256 s.bytes)) (flat_map group_text s.groups) line_feed xs
    ∙ ap (λ (gs : List ℕ). ((space ++ decimal s.duration) ++ ((space ++ signed_decimal s.offset) ++ ((space ++ hex_digits 8 s.flags) ++ ((space ++ decimal s.description) ++ ((space ++ decimal (length s.bytes)) ++ ((space ++ hex_text (sha256 s.bytes)) ++ gs)))))) ++ 10 ∷ xs) (groups_spaced s.groups)

groups_are_words : (groups : Groups) → AllByRecursion IsWord (map group_word groups)
groups_are_words [] = tt
groups_are_words (g ∷ groups) = (group_is_word g, groups_are_words groups)

sample_are_words : (s : Sample) → AllByRecursion IsWord (sample_words s)
sample_are_words s = (decimal_word s.duration, (signed_word s.offset, (hex_word 8 s.flags, (decimal_word s.description, (decimal_word (length s.bytes), (bytes_word (sha256 s.bytes), groups_are_words s.groups))))))

same_groups : (a b : Groups) → AllByRecursion IsGroup a → AllByRecursion IsGroup b → map group_word a ≡ map group_word b → a ≡ b
same_groups [] [] h k e = refl
same_groups [] (y ∷ b) h k e = absurd cc
same_groups (x ∷ a) [] h k e = absurd cc
same_groups (x ∷ a) (y ∷ b) h k e =
    let one : group_word x ≡ group_word y = cc in
    let rest : map group_word a ≡ map group_word b = cc in
    let first = same_group x y h.0 k.0 one in
    let more = same_groups a b h.1 k.1 rest in
    λ i. first i ∷ more i

-- a sample that is told, with its bytes among these
abbrev IsSampleIn : List (List ℕ) → Sample → Type 0
IsSampleIn these s = IsToldSample s × Contains these s.bytes

samples_in : (these : List (List ℕ)) (samples : List Sample) → AllByRecursion IsToldSample samples → AllByRecursion (Contains these) (map (λ (s : Sample). s.bytes) samples) → AllByRecursion (IsSampleIn these) samples
samples_in these [] h i = tt
samples_in these (s ∷ samples) h i = ((h.0, i.0), samples_in these samples h.1 i.1)

same_sample : (these those : List (List ℕ)) (s t : Sample) (xs ys : List ℕ) → IsSampleIn these s → IsSampleIn those t → sample_text s ++ xs ≡ sample_text t ++ ys → Same these those s t xs ys
same_sample these those s t xs ys hi ki e =
    let h = hi.0 in
    let k = ki.0 in
    let r = words_end (sample_words s) (sample_words t) xs ys (sample_are_words s) (sample_are_words t) (sym (sample_is s xs) ∙ e ∙ sample_is t ys) in
    let words = r.0 in
    let d : decimal s.duration ≡ decimal t.duration = cc in
    let o : signed_decimal s.offset ≡ signed_decimal t.offset = cc in
    let f : hex_digits 8 s.flags ≡ hex_digits 8 t.flags = cc in
    let n : decimal s.description ≡ decimal t.description = cc in
    let b : hex_text (sha256 s.bytes) ≡ hex_text (sha256 t.bytes) = cc in
    let g : map group_word s.groups ≡ map group_word t.groups = cc in
    let duration = decimal_injective s.duration t.duration h.duration k.duration d in
    let offset = signed_same s.offset t.offset h.offset k.offset o in
    let flags = hex_same_8 s.flags t.flags h.flags k.flags f in
    let description = decimal_injective s.description t.description h.description k.description n in
    let groups = same_groups s.groups t.groups h.groups k.groups g in
    let digest = (bytes_same (sha256 s.bytes) (sha256 t.bytes) [] [] (sha256_each s.bytes) (sha256_each t.bytes) (length-sha256 s.bytes ∙ sym (length-sha256 t.bytes)) (ap (λ (bs : List ℕ). bs ++ []) b)).0 in
    by duration offset flags description groups r.1 (of_digest these those s.bytes t.bytes hi.1 ki.1 digest)
  where
    by : s.duration ≡ t.duration → s.offset ≡ t.offset → s.flags ≡ t.flags → s.description ≡ t.description → s.groups ≡ t.groups → xs ≡ ys → (s.bytes ≡ t.bytes) ⊎ Collision these those → Same these those s t xs ys
    by d o f n g rest (inl b) = inl (λ i. record { duration = d i; offset = o i; flags = f i; description = n i; bytes = b i; groups = g i }, rest)
    by d o f n g rest (inr c) = inr c

same_samples : (these those : List (List ℕ)) (us bs : List Sample) (xs ys : List ℕ) → Differs 0 32 xs → Differs 0 32 ys → AllByRecursion (IsSampleIn these) us → AllByRecursion (IsSampleIn those) bs → flat_map sample_text us ++ xs ≡ flat_map sample_text bs ++ ys → Same these those us bs xs ys
same_samples these those us bs xs ys p q h k e = same_each these those (IsSampleIn these) (IsSampleIn those) (λ zs. Unit {0}) sample_text 0 32 (λ x zs. refl) (λ x zs. tt) (λ x y us vs r s i j f. same_sample these those x y us vs i j f) us bs xs ys tt tt p q h k e

-- ---- heads

abbrev movie_names : List (List ℕ)
movie_names = codes "creation" ∷ codes "modification" ∷ codes "timescale" ∷ codes "rate" ∷ codes "volume" ∷ codes "matrix" ∷ []

abbrev movie_words : MovieHead → List (List (List ℕ))
movie_words m = (decimal m.creation ∷ []) ∷ (decimal m.modification ∷ []) ∷ (decimal m.timescale ∷ []) ∷ (signed_decimal m.rate ∷ []) ∷ (signed_decimal m.volume ∷ []) ∷ map signed_decimal m.matrix ∷ []

six_apart : (a b c d e f g kept xs : List ℕ) → (a ++ b ++ c ++ d ++ e ++ f ++ g ++ kept) ++ xs ≡ a ++ ((b ++ (c ++ (d ++ (e ++ (f ++ (g ++ [])))))) ++ (kept ++ xs))
six_apart a b c d e f g kept xs = simp (append_assoc, append-nil)

record IsToldMovie (m : MovieHead) : Type 0 where
  pub creation : m.creation < 2 ^ 64
  pub modification : m.modification < 2 ^ 64
  pub timescale : m.timescale < 2 ^ 64
  pub rate : IsSmall m.rate
  pub volume : IsSmall m.volume
  pub matrix : AllByRecursion (FitsSigned w32) m.matrix
  pub kept : AllByRecursion IsToldBox m.kept

movie_are_words : (m : MovieHead) → AreWords (movie_words m)
movie_are_words m = ((decimal_word m.creation, tt), ((decimal_word m.modification, tt), ((decimal_word m.timescale, tt), ((signed_word m.rate, tt), ((signed_word m.volume, tt), (matrix_words m.matrix, tt))))))

same_movie : (these those : List (List ℕ)) (m n : MovieHead) (xs ys : List ℕ) → IsToldMovie m → IsToldMovie n → AllByRecursion (Contains these) (payloads_of m.kept) → AllByRecursion (Contains those) (payloads_of n.kept) → Differs 1 107 xs → Differs 1 107 ys
    → movie_lines m ++ xs ≡ movie_lines n ++ ys → Same these those m n xs ys
same_movie these those m n xs ys h k i o p q e =
    let split = λ (x : MovieHead) (zs : List ℕ). six_apart (codes "movie\n") (number_line (codes "creation") x.creation) (number_line (codes "modification") x.modification) (number_line (codes "timescale") x.timescale) (named_line (codes "rate") (signed_decimal x.rate ∷ []))
    (named_line (codes "volume") (signed_decimal x.volume ∷ [])) (named_line (codes "matrix") (map signed_decimal x.matrix)) (flat_map (kept_lines (codes "kept")) x.kept) zs in
    let behind = λ (x : MovieHead) (zs : List ℕ). flat_map (kept_lines (codes "kept")) x.kept ++ zs in
    let lines = cancel (codes "movie\n") (lines_of movie_names (movie_words m) ++ behind m xs) (lines_of movie_names (movie_words n) ++ behind n ys) (sym (split m xs) ∙ e ∙ split n ys) in
    let r = same_lines movie_names (movie_words m) (movie_words n) (behind m xs) (behind n ys) refl refl (movie_are_words m) (movie_are_words n) lines in
    let words = r.0 in
    let c : decimal m.creation ≡ decimal n.creation = cc in
    let d : decimal m.modification ≡ decimal n.modification = cc in
    let t : decimal m.timescale ≡ decimal n.timescale = cc in
    let a : signed_decimal m.rate ≡ signed_decimal n.rate = cc in
    let v : signed_decimal m.volume ≡ signed_decimal n.volume = cc in
    let x : map signed_decimal m.matrix ≡ map signed_decimal n.matrix = cc in
    let creation = decimal_injective m.creation n.creation h.creation k.creation c in
    let modification = decimal_injective m.modification n.modification h.modification k.modification d in
    let timescale = decimal_injective m.timescale n.timescale h.timescale k.timescale t in
    let rate = signed_same m.rate n.rate h.rate k.rate a in
    let volume = signed_same m.volume n.volume h.volume k.volume v in
    let matrix = same_matrix m.matrix n.matrix h.matrix k.matrix x in
    with_same these those ((m ≡ n) × (xs ≡ ys)) m.kept n.kept xs ys (same_boxes these those (codes "kept") 107 (λ y zs. refl) m.kept n.kept xs ys p q (boxes_in these m.kept h.kept i) (boxes_in those n.kept k.kept o) r.1)
    (λ kept rest. inl (λ i. record { creation = creation i; modification = modification i; timescale = timescale i; rate = rate i; volume = volume i; matrix = matrix i; kept = kept i }, rest))

abbrev media_names : List (List ℕ)
media_names = codes "media creation" ∷ codes "media modification" ∷ codes "media timescale" ∷ codes "language" ∷ []

abbrev media_words : Media → List (List (List ℕ))
media_words m = (decimal m.creation ∷ []) ∷ (decimal m.modification ∷ []) ∷ (decimal m.timescale ∷ []) ∷ (hex_digits 4 m.language ∷ []) ∷ []

media_apart : (a b c d handler languages header descriptions xs : List ℕ) → (a ++ b ++ c ++ d ++ handler ++ languages ++ header ++ descriptions) ++ xs ≡ (a ++ (b ++ (c ++ (d ++ [])))) ++ (handler ++ (languages ++ (header ++ (descriptions ++ xs))))
media_apart a b c d handler languages header descriptions xs = simp (append_assoc, append-nil)

record IsToldMedia (m : Media) : Type 0 where
  pub creation : m.creation < 2 ^ 64
  pub modification : m.modification < 2 ^ 64
  pub timescale : m.timescale < 2 ^ 64
  pub language : m.language < 2 ^ 16
  pub handler : EachByte m.handler
  pub languages : AllByRecursion EachByte m.extended_languages
  pub header : IsToldBox m.header
  pub descriptions : AllByRecursion IsToldBox m.descriptions

media_are_words : (m : Media) → AreWords (media_words m)
media_are_words m = ((decimal_word m.creation, tt), ((decimal_word m.modification, tt), ((decimal_word m.timescale, tt), ((hex_word 4 m.language, tt), tt))))

no_e : ◌≡◌ {A = ℕ} 109 101 → ⊥
no_e e = omega (arith, e)

-- each payload is among what is digested
abbrev IsMediaIn : List (List ℕ) → Media → Type 0
IsMediaIn these m = AllByRecursion (Contains these) (digested_media m)

languages_in : (these : List (List ℕ)) (m : Media) → IsMediaIn these m → AllByRecursion (Contains these) m.extended_languages
languages_in these m i = all_first (Contains these) m.extended_languages (m.header.payload ∷ payloads_of m.descriptions) i.1

behind_languages : (these : List (List ℕ)) (m : Media) → IsMediaIn these m → AllByRecursion (Contains these) (m.header.payload ∷ payloads_of m.descriptions)
behind_languages these m i = all_last (Contains these) m.extended_languages (m.header.payload ∷ payloads_of m.descriptions) i.1

same_media : (these those : List (List ℕ)) (m n : Media) (xs ys : List ℕ) → IsToldMedia m → IsToldMedia n → IsMediaIn these m → IsMediaIn those n → Differs 1 100 xs → Differs 1 100 ys → media_lines m ++ xs ≡ media_lines n ++ ys → Same these those m n xs ys
same_media these those m n xs ys h k i o p q e =
    let rest_in = behind_languages these m i in
    let rest_too = behind_languages those n o in
    let split = λ (x : Media) (zs : List ℕ). media_apart (number_line (codes "media creation") x.creation) (number_line (codes "media modification") x.modification) (number_line (codes "media timescale") x.timescale) (named_line (codes "language") (hex_digits 4 x.language ∷ []))
    (payload_lines (codes "handler") x.handler) (flat_map (payload_lines (codes "extended language")) x.extended_languages) (kept_lines (codes "media header") x.header) (flat_map (kept_lines (codes "description")) x.descriptions) zs in
    let third = λ (x : Media) (zs : List ℕ). flat_map (kept_lines (codes "description")) x.descriptions ++ zs in
    let second = λ (x : Media) (zs : List ℕ). kept_lines (codes "media header") x.header ++ third x zs in
    let first = λ (x : Media) (zs : List ℕ). flat_map (payload_lines (codes "extended language")) x.extended_languages ++ second x zs in
    let behind = λ (x : Media) (zs : List ℕ). payload_lines (codes "handler") x.handler ++ first x zs in
    let r = same_lines media_names (media_words m) (media_words n) (behind m xs) (behind n ys) refl refl (media_are_words m) (media_are_words n) (sym (split m xs) ∙ e ∙ split n ys) in
    let words = r.0 in
    let c : decimal m.creation ≡ decimal n.creation = cc in
    let d : decimal m.modification ≡ decimal n.modification = cc in
    let t : decimal m.timescale ≡ decimal n.timescale = cc in
    let l : hex_digits 4 m.language ≡ hex_digits 4 n.language = cc in
    let creation = decimal_injective m.creation n.creation h.creation k.creation c in
    let modification = decimal_injective m.modification n.modification h.modification k.modification d in
    let timescale = decimal_injective m.timescale n.timescale h.timescale k.timescale t in
    let language = hex_same_4 m.language n.language h.language k.language l in
    let X = (m ≡ n) × (xs ≡ ys) in
    with_same these those X m.handler n.handler (first m xs) (first n ys) (same_under these those (codes "handler") m.handler n.handler (first m xs) (first n ys) (h.handler, i.0) (k.handler, o.0) r.1)
    (λ handler more. with_same these those X m.extended_languages n.extended_languages (second m xs) (second n ys)
    (same_payloads these those (codes "extended language") 101 (λ y zs. refl) m.extended_languages n.extended_languages (second m xs) (second n ys) no_e no_e (payloads_in these m.extended_languages h.languages (languages_in these m i))
    (payloads_in those n.extended_languages k.languages (languages_in those n o)) more)
    (λ languages rest. with_same these those X m.header n.header (third m xs) (third n ys) (same_box these those (codes "media header") m.header n.header (third m xs) (third n ys) (h.header, rest_in.0) (k.header, rest_too.0) rest)
    (λ header last.
    with_same these those X m.descriptions n.descriptions xs ys (same_boxes these those (codes "description") 100 (λ y zs. refl) m.descriptions n.descriptions xs ys p q (boxes_in these m.descriptions h.descriptions rest_in.1) (boxes_in those n.descriptions k.descriptions rest_too.1) last)
    (λ descriptions end. inl (
      λ i. record {
        creation = creation i;
        modification = modification i;
        timescale = timescale i;
        language = language i;
        handler = handler i;
        extended_languages = languages i;
        header = header i;
        descriptions = descriptions i;
      },
      end,
    )))))

abbrev track_names : List (List ℕ)
track_names = codes "flags" ∷ codes "creation" ∷ codes "modification" ∷ codes "layer" ∷ codes "alternate_group" ∷ codes "volume" ∷ codes "matrix" ∷ codes "width" ∷ codes "height" ∷ []

abbrev track_words : TrackHead → List (List (List ℕ))
track_words t =
    (hex_digits 6 t.flags ∷ []) ∷ (decimal t.creation ∷ []) ∷ (decimal t.modification ∷ []) ∷ (signed_decimal t.layer ∷ []) ∷ (signed_decimal t.alternate_group ∷ []) ∷ (signed_decimal t.volume ∷ []) ∷ map signed_decimal t.matrix ∷ (decimal t.width ∷ []) ∷ (decimal t.height ∷ []) ∷ []

nine_apart : (front id feed a b c d e f g h i edits kept xs : List ℕ) → (front ++ id ++ feed ++ a ++ b ++ c ++ d ++ e ++ f ++ g ++ h ++ i ++ edits ++ kept) ++ xs
    ≡ front ++ (id ++ (feed ++ ((a ++ (b ++ (c ++ (d ++ (e ++ (f ++ (g ++ (h ++ (i ++ []))))))))) ++ (edits ++ (kept ++ xs)))))
nine_apart front id feed a b c d e f g h i edits kept xs = simp (append_assoc, append-nil)

record IsToldHead (t : TrackHead) : Type 0 where
  pub flags : t.flags < 2 ^ 24
  pub creation : t.creation < 2 ^ 64
  pub modification : t.modification < 2 ^ 64
  pub id : t.id < 2 ^ 64
  pub layer : IsSmall t.layer
  pub alternate_group : IsSmall t.alternate_group
  pub volume : IsSmall t.volume
  pub matrix : AllByRecursion (FitsSigned w32) t.matrix
  pub width : t.width < 2 ^ 64
  pub height : t.height < 2 ^ 64
  pub edits : AllByRecursion IsEdit t.edits
  pub kept : AllByRecursion IsToldBox t.kept
  pub media : IsToldMedia t.media
  pub group_descriptions : AllByRecursion EachByte t.group_descriptions

track_are_words : (t : TrackHead) → AreWords (track_words t)
track_are_words t =
    let last : AreWords (map signed_decimal t.matrix ∷ (decimal t.width ∷ []) ∷ (decimal t.height ∷ []) ∷ []) = (matrix_words t.matrix, ((decimal_word t.width, tt), ((decimal_word t.height, tt), tt))) in
    ((hex_word 6 t.flags, tt), ((decimal_word t.creation, tt), ((decimal_word t.modification, tt), ((signed_word t.layer, tt), ((signed_word t.alternate_group, tt), ((signed_word t.volume, tt), last))))))

no_line : IsDigit 10 → ⊥
no_line h = let low = h.0 in omega (arith, low)

k_not_e : ◌≡◌ {A = ℕ} 107 101 → ⊥
k_not_e e = omega (arith, e)

m_not_k : ◌≡◌ {A = ℕ} 109 107 → ⊥
m_not_k e = omega (arith, e)

g_not_d : ◌≡◌ {A = ℕ} 103 100 → ⊥
g_not_d e = omega (arith, e)

-- each payload is among what is digested
abbrev IsHeadIn : List (List ℕ) → TrackHead → Type 0
IsHeadIn these t = AllByRecursion (Contains these) (digested_head t)

boxes_front : (these : List (List ℕ)) (t : TrackHead) → IsHeadIn these t → AllByRecursion (Contains these) (payloads_of t.kept ++ digested_media t.media)
boxes_front these t i = all_first (Contains these) (payloads_of t.kept ++ digested_media t.media) t.group_descriptions i

kept_in : (these : List (List ℕ)) (t : TrackHead) → IsHeadIn these t → AllByRecursion (Contains these) (payloads_of t.kept)
kept_in these t i = all_first (Contains these) (payloads_of t.kept) (digested_media t.media) (boxes_front these t i)

media_in : (these : List (List ℕ)) (t : TrackHead) → IsHeadIn these t → IsMediaIn these t.media
media_in these t i = all_last (Contains these) (payloads_of t.kept) (digested_media t.media) (boxes_front these t i)

groups_in : (these : List (List ℕ)) (t : TrackHead) → IsHeadIn these t → AllByRecursion (Contains these) t.group_descriptions
groups_in these t i = all_last (Contains these) (payloads_of t.kept ++ digested_media t.media) t.group_descriptions i

module _ (these those : List (List ℕ)) (t u : TrackHead) (xs ys : List ℕ) (h : IsToldHead t) (k : IsToldHead u) (i : IsHeadIn these t) (o : IsHeadIn those u) (p : Differs 1 103 xs) (q : Differs 1 103 ys) (pd : Differs 1 100 xs) (qd : Differs 1 100 ys) where
  abbrev groups_then : TrackHead → List ℕ → List ℕ
  groups_then x zs = flat_map (payload_lines (codes "group description")) x.group_descriptions ++ zs

  abbrev media_then : TrackHead → List ℕ → List ℕ
  media_then x zs = media_lines x.media ++ groups_then x zs

  abbrev kept_then : TrackHead → List ℕ → List ℕ
  kept_then x zs = flat_map (kept_lines (codes "kept")) x.kept ++ media_then x zs

  abbrev edits_then : TrackHead → List ℕ → List ℕ
  edits_then x zs = flat_map edit_line x.edits ++ kept_then x zs

  abbrev lines_then : TrackHead → List ℕ → List ℕ
  lines_then x zs = lines_of track_names (track_words x) ++ edits_then x zs

  head_is : (x : TrackHead) (zs : List ℕ) → head_lines x ++ zs ≡ codes "track " ++ (decimal x.id ++ 10 ∷ lines_then x zs)
  head_is x zs =
      append_assoc (track_lines x ++ media_lines x.media) (flat_map (payload_lines (codes "group description")) x.group_descriptions) zs
      ∙ append_assoc (track_lines x) (media_lines x.media) (groups_then x zs)
      ∙ nine_apart (codes "track ") (decimal x.id) line_feed (named_line (codes "flags") (hex_digits 6 x.flags ∷ [])) (number_line (codes "creation") x.creation) (number_line (codes "modification") x.modification) (named_line (codes "layer") (signed_decimal x.layer ∷ []))
      (named_line (codes "alternate_group") (signed_decimal x.alternate_group ∷ [])) (named_line (codes "volume") (signed_decimal x.volume ∷ [])) (named_line (codes "matrix") (map signed_decimal x.matrix)) (number_line (codes "width") x.width) (number_line (codes "height") x.height)
      (flat_map edit_line x.edits) (flat_map (kept_lines (codes "kept")) x.kept) (media_then x zs)

  same_head : head_lines t ++ xs ≡ head_lines u ++ ys → Same these those t u xs ys
  same_head e =
      let front = cancel (codes "track ") (decimal t.id ++ 10 ∷ lines_then t xs) (decimal u.id ++ 10 ∷ lines_then u ys) (sym (head_is t xs) ∙ e ∙ head_is u ys) in
      let ids = run_ends IsDigit (decimal t.id) (decimal u.id) 10 10 (lines_then t xs) (lines_then u ys) (decimal_digits t.id) (decimal_digits u.id) no_line no_line front in
      let id = decimal_injective t.id u.id h.id k.id ids.0 in
      let r = same_lines track_names (track_words t) (track_words u) (edits_then t xs) (edits_then u ys) refl refl (track_are_words t) (track_are_words u) (tail_is 10 10 (lines_then t xs) (lines_then u ys) ids.1) in
      let words = r.0 in
      let f : hex_digits 6 t.flags ≡ hex_digits 6 u.flags = cc in
      let c : decimal t.creation ≡ decimal u.creation = cc in
      let d : decimal t.modification ≡ decimal u.modification = cc in
      let l : signed_decimal t.layer ≡ signed_decimal u.layer = cc in
      let a : signed_decimal t.alternate_group ≡ signed_decimal u.alternate_group = cc in
      let v : signed_decimal t.volume ≡ signed_decimal u.volume = cc in
      let x : map signed_decimal t.matrix ≡ map signed_decimal u.matrix = cc in
      let w : decimal t.width ≡ decimal u.width = cc in
      let g : decimal t.height ≡ decimal u.height = cc in
      let flags = hex_same_6 t.flags u.flags h.flags k.flags f in
      let creation = decimal_injective t.creation u.creation h.creation k.creation c in
      let modification = decimal_injective t.modification u.modification h.modification k.modification d in
      let layer = signed_same t.layer u.layer h.layer k.layer l in
      let alternate_group = signed_same t.alternate_group u.alternate_group h.alternate_group k.alternate_group a in
      let volume = signed_same t.volume u.volume h.volume k.volume v in
      let matrix = same_matrix t.matrix u.matrix h.matrix k.matrix x in
      let width = decimal_injective t.width u.width h.width k.width w in
      let height = decimal_injective t.height u.height h.height k.height g in
      let X = (t ≡ u) × (xs ≡ ys) in
      let no_edit = λ (x : TrackHead) (zs : List ℕ). differs_behind (kept_lines (codes "kept")) 1 107 101 (λ y zs. refl) k_not_e x.kept (media_then x zs) no_e in
      let no_description = λ (x : TrackHead) (zs : List ℕ) (d : Differs 1 100 zs). differs_behind (payload_lines (codes "group description")) 1 103 100 (λ y zs. refl) g_not_d x.group_descriptions zs d in
      with_same these those X t.edits u.edits (kept_then t xs) (kept_then u ys)
      (same_edits these those t.edits u.edits (kept_then t xs) (kept_then u ys) (no_edit t xs) (no_edit u ys) h.edits k.edits r.1)
      (λ edits more.
      with_same these those X t.kept u.kept (media_then t xs) (media_then u ys)
      (same_boxes these those (codes "kept") 107 (λ y zs. refl) t.kept u.kept (media_then t xs) (media_then u ys) m_not_k m_not_k (boxes_in these t.kept h.kept (kept_in these t i)) (boxes_in those u.kept k.kept (kept_in those u o)) more)
      (λ kept rest. with_same these those X t.media u.media (groups_then t xs) (groups_then u ys)
      (same_media these those t.media u.media (groups_then t xs) (groups_then u ys) h.media k.media (media_in these t i) (media_in those u o) (no_description t xs pd) (no_description u ys qd) rest)
      (λ media last.
      with_same these those X t.group_descriptions u.group_descriptions xs ys (same_payloads these those (codes "group description") 103 (λ y zs. refl) t.group_descriptions u.group_descriptions xs ys p q (payloads_in these t.group_descriptions h.group_descriptions (groups_in these t i))
      (payloads_in those u.group_descriptions k.group_descriptions (groups_in those u o)) last)
      (λ descriptions end. inl (
        λ i. record {
          flags = flags i;
          creation = creation i;
          modification = modification i;
          id = id i;
          layer = layer i;
          alternate_group = alternate_group i;
          volume = volume i;
          matrix = matrix i;
          width = width i;
          height = height i;
          edits = edits i;
          kept = kept i;
          media = media i;
          group_descriptions = descriptions i;
        },
        end,
      )))))

-- ---- tracks

record IsToldTrack (t : Track) : Type 0 where
  pub head : IsToldHead t.head
  pub start : t.start < 2 ^ 64
  pub samples : AllByRecursion IsToldSample t.samples

s_not_g : ◌≡◌ {A = ℕ} 115 103 → ⊥
s_not_g e = omega (arith, e)

s_not_d : ◌≡◌ {A = ℕ} 115 100 → ⊥
s_not_d e = omega (arith, e)

-- a track that is told, with all that is digested of it among these
abbrev IsTrackIn : List (List ℕ) → Track → Type 0
IsTrackIn these t = IsToldTrack t × AllByRecursion (Contains these) (digested_track t)

tracks_in : (these : List (List ℕ)) (tracks : List Track) → AllByRecursion IsToldTrack tracks → AllByRecursion (Contains these) (flat_map digested_track tracks) → AllByRecursion (IsTrackIn these) tracks
tracks_in these [] h i = tt
tracks_in these (t ∷ tracks) h i = ((h.0, all_first (Contains these) (digested_track t) (flat_map digested_track tracks) i), tracks_in these tracks h.1 (all_last (Contains these) (digested_track t) (flat_map digested_track tracks) i))

head_in : (these : List (List ℕ)) (t : Track) → IsTrackIn these t → IsHeadIn these t.head
head_in these t i = all_first (Contains these) (digested_head t.head) (map (λ (s : Sample). s.bytes) t.samples) i.1

bytes_in : (these : List (List ℕ)) (t : Track) → IsTrackIn these t → AllByRecursion (Contains these) (map (λ (s : Sample). s.bytes) t.samples)
bytes_in these t i = all_last (Contains these) (digested_head t.head) (map (λ (s : Sample). s.bytes) t.samples) i.1

module _ (these those : List (List ℕ)) (t u : Track) (xs ys : List ℕ) (r : Differs 0 32 xs) (s : Differs 0 32 ys) (hi : IsTrackIn these t) (ki : IsTrackIn those u) where
  abbrev samples_then : Track → List ℕ → List ℕ
  samples_then x zs = flat_map sample_text x.samples ++ zs

  abbrev heading_then : Track → List ℕ → List ℕ
  heading_then x zs = samples_heading x.head.id ++ samples_then x zs

  abbrev start_then : Track → List ℕ → List ℕ
  start_then x zs = number_line (codes "start") x.start ++ heading_then x zs

  track_is : (x : Track) (zs : List ℕ) → track_text x ++ zs ≡ head_lines x.head ++ start_then x zs
  track_is x zs =
      append_assoc (head_lines x.head ++ number_line (codes "start") x.start ++ samples_heading x.head.id) (flat_map sample_text x.samples) zs
      ∙ append_assoc (head_lines x.head ++ number_line (codes "start") x.start) (samples_heading x.head.id) (samples_then x zs)
      ∙ append_assoc (head_lines x.head) (number_line (codes "start") x.start) (heading_then x zs)

  behind_head : t.head ≡ u.head → start_then t xs ≡ start_then u ys → Same these those t u xs ys
  behind_head head e =
      let n = same_words (codes "start") (decimal t.start ∷ []) (decimal u.start ∷ []) (heading_then t xs) (heading_then u ys) (decimal_word t.start, tt) (decimal_word u.start, tt) e in
      let words = n.0 in
      let d : decimal t.start ≡ decimal u.start = cc in
      let start = decimal_injective t.start u.start hi.0.start ki.0.start d in
      let heading : samples_heading u.head.id ++ samples_then t xs ≡ samples_heading u.head.id ++ samples_then u ys = ap (λ (x : TrackHead). samples_heading x.id ++ samples_then t xs) (sym head) ∙ n.1 in
      with_same these those ((t ≡ u)
      × (xs ≡ ys)) t.samples u.samples xs ys
      (same_samples these those t.samples u.samples xs ys r s (samples_in these t.samples hi.0.samples (bytes_in these t hi)) (samples_in those u.samples ki.0.samples (bytes_in those u ki)) (cancel (samples_heading u.head.id) (samples_then t xs) (samples_then u ys) heading))
      (λ samples end. inl (λ i. record { head = head i; start = start i; samples = samples i }, end))

  same_track : track_text t ++ xs ≡ track_text u ++ ys → Same these those t u xs ys
  same_track e = with_same these those ((t ≡ u) × (xs ≡ ys)) t.head u.head (start_then t xs) (start_then u ys)
      (same_head these those t.head u.head (start_then t xs) (start_then u ys) hi.0.head ki.0.head (head_in these t hi) (head_in those u ki) s_not_g s_not_g s_not_d s_not_d (sym (track_is t xs) ∙ e ∙ track_is u ys)) behind_head

t_not_space : ◌≡◌ {A = ℕ} 116 32 → ⊥
t_not_space e = omega (arith, e)

e_not_space : ◌≡◌ {A = ℕ} 101 32 → ⊥
e_not_space e = omega (arith, e)

e_not_t : ◌≡◌ {A = ℕ} 101 116 → ⊥
e_not_t e = omega (arith, e)

r_not_k : ◌≡◌ {A = ℕ} 114 107 → ⊥
r_not_k e = omega (arith, e)

n_not_k : ◌≡◌ {A = ℕ} 110 107 → ⊥
n_not_k e = omega (arith, e)

-- ---- what remains of what is valid

below_if : (v : Bool) (m n bound : ℕ) → m < bound → n < bound → (if v then m else n) < bound
below_if true m n bound h k = h
below_if false m n bound h k = k

each_if : {A : Type 0} (P : A → Type 0) (v : Bool) (xs : List A) → AllByRecursion P xs → AllByRecursion P (if v then [] else xs)
each_if P true xs h = tt
each_if P false xs h = h

told_movie : (l : Without) (m : MovieHead) → IsMovieHead m → IsToldMovie (reduce_movie_head l m)
told_movie l m h = record {
  creation = below_if l.times 0 m.creation (2 ^ 64) (omega arith) h.creation;
  modification = below_if l.times 0 m.modification (2 ^ 64) (omega arith) h.modification;
  timescale = let t = h.timescale in below_if l.timing 1000 m.timescale (2 ^ 64) (omega arith) (omega (arith, t));
  rate = small_32 m.rate h.rate;
  volume = small_16 m.volume h.volume;
  matrix = h.matrix.fits;
  kept = left_kept l m.kept (each_weaker (IsKept (kept_kinds rules.Movie)) IsToldBox (λ k i. told_kept (kept_kinds rules.Movie) movie_kinds k i) m.kept h.kept);
}

zeroed_each : (from count : ℕ) (bytes : List ℕ) → EachByte bytes → EachByte (zeroed from count bytes)
zeroed_each from count [] h = tt
zeroed_each zero zero (b ∷ bytes) h = h
zeroed_each zero (suc count) (b ∷ bytes) h = (omega arith, zeroed_each zero count bytes h.1)
zeroed_each (suc from) count (b ∷ bytes) h = (h.0, zeroed_each from count bytes h.1)

told_handler : (v : Bool) (payload : List ℕ) → EachByte payload → EachByte (if v then plain_handler payload else payload)
told_handler true payload h = zeroed_each 4 4 (zeroed 12 12 (take 24 payload)) (zeroed_each 12 12 (take 24 payload) (each_taken (λ (b : ℕ). b < 256) 24 payload h))
told_handler false payload h = h

told_media : (l : Without) (m : Media) → IsMedia m → IsToldMedia (reduce_media l m)
told_media l m h = record {
  creation = below_if l.times 0 m.creation (2 ^ 64) (omega arith) h.creation;
  modification = below_if l.times 0 m.modification (2 ^ 64) (omega arith) h.modification;
  timescale = let t = h.timescale in below_if l.timing 1000 m.timescale (2 ^ 64) (omega arith) (omega (arith, t));
  language = h.language;
  handler = told_handler l.labels m.handler (each_byte m.handler h.handler);
  languages = each_weaker AreBytes EachByte each_byte m.extended_languages h.extended_languages;
  header = (among_has IsType media_headers m.header.kind header_kinds h.header, each_byte m.header.payload h.header_bytes);
  descriptions = each_weaker IsDescription IsToldBox told_description (reduce_descriptions l m.handler m.descriptions) (descriptions_good l m.handler m.descriptions h.descriptions);
}

role_small : (v : Bool) (n : ℤ) → FitsSigned w16 n → IsSmall (if v then pos 0 else n)
role_small true n h = omega arith
role_small false n h = small_16 n h

told_head : (l : Without) (t : TrackHead) → IsTrackHead t → IsToldHead (reduce_track_head l t)
told_head l t h = record {
  flags = below_if l.roles (t.flags % 2) t.flags (2 ^ 24) (omega arith) h.flags;
  creation = below_if l.times 0 t.creation (2 ^ 64) (omega arith) h.creation;
  modification = below_if l.times 0 t.modification (2 ^ 64) (omega arith) h.modification;
  id = let n = h.id in omega (arith, n);
  layer = role_small l.roles t.layer h.layer;
  alternate_group = role_small l.roles t.alternate_group h.alternate_group;
  volume = small_16 t.volume h.volume;
  matrix = h.matrix.fits;
  width = let n = h.width in omega (arith, n);
  height = let n = h.height in omega (arith, n);
  edits = each_if IsEdit l.edits t.edits h.edits;
  kept = left_kept l t.kept (each_weaker (IsKept (kept_kinds rules.Track)) IsToldBox (λ k i. told_kept (kept_kinds rules.Track) track_kinds k i) t.kept h.kept);
  media = told_media l t.media h.media;
  group_descriptions = each_if EachByte l.groups t.group_descriptions (each_weaker IsGroupDescription EachByte (λ b g. each_byte b g.bytes) t.group_descriptions h.group_descriptions);
}

offset_small : (v w : Bool) (first n : ℤ) → FitsSigned w32 first → FitsSigned w32 n → IsSmall (if v then pos 0 else if w then n -ℤ first else n)
offset_small true w first n f h = omega arith
offset_small false true first n f h = small_moved n first h f
offset_small false false first n f h = small_32 n h

sync_small : (n : ℕ) → sync_flag n < 2 ^ 32
sync_small n = omega arith

told_sample : (l : Without) (descriptions count : ℕ) (first : ℤ) (n : ℕ) (s : Sample) → descriptions ≤ 2 ^ 30 → FitsSigned w32 first → IsSample descriptions s → IsToldSample (reduce_sample l count first n s)
told_sample l descriptions count first n s few f h = record {
  duration = let d = h.duration in below_if l.timing 1 (if l.ends && is_at_end count n then 1 else s.duration) (2 ^ 64) (omega arith) (below_if (l.ends && is_at_end count n) 1 s.duration (2 ^ 64) (omega arith) (omega (arith, d)));
  offset = offset_small l.timing l.origins first s.offset f h.offset;
  flags = let m = h.flags in below_if l.flags (sync_flag s.flags) s.flags (2 ^ 32) (sync_small s.flags) (omega (arith, m));
  description = let m = h.description in omega (arith, m, few);
  groups = each_if IsGroup l.groups s.groups h.groups;
}

first_fits : (descriptions : ℕ) (samples : List Sample) → AllByRecursion (IsSample descriptions) samples → FitsSigned w32 (first_offset samples)
first_fits descriptions [] h = omega arith
first_fits descriptions (s ∷ samples) h = h.0.offset

told_track : (l : Without) (timescale : ℕ) (t : Track) → IsTrack t → length t.head.media.descriptions ≤ 2 ^ 30 → IsInTime timescale t → IsToldTrack (reduce_track l t)
told_track l timescale t h few in_time =
    let many = length t.head.media.descriptions in
    let count = length t.samples in
    let first = first_offset t.samples in
    let fits = first_fits many t.samples h.samples in
    record {
      head = told_head l t.head h.head;
      start = let n = in_time.0 in below_if l.timing 0 (if l.origins then 0 else t.start) (2 ^ 64) (omega arith) (below_if l.origins 0 t.start (2 ^ 64) (omega arith) (omega (arith, n)));
      samples = reduced_each (IsSample many) IsToldSample l count first (λ n s i. told_sample l many count first n s few fits i) 0 t.samples h.samples;
    }

-- in lowest terms too
divided_below : (g n bound : ℕ) → n < bound → divided g n < bound
divided_below g n bound h = let less = div-le_self n g in omega (arith, less, h)

scale_below : (v : Bool) (g n : ℕ) → n < 2 ^ 64 → (if v then n else divided g n) < 2 ^ 64
scale_below v g n h = below_if v n (divided g n) (2 ^ 64) h (divided_below g n (2 ^ 64) h)

small_neg : (n : ℕ) → n < 2 ^ 64 → IsSmall (neg_ℤ (pos n))
small_neg zero h = h
small_neg (suc n) h = h

small_divided : (g : ℕ) (z : ℤ) → IsSmall z → IsSmall (sized (divided g) z)
small_divided g (pos n) h = divided_below g n (2 ^ 64) h
small_divided g (negsuc n) h = small_neg (divided g (suc n)) (divided_below g (suc n) (2 ^ 64) h)

movie_by : (l : Without) (a : ℕ) (m : MovieHead) → IsToldMovie m → IsToldMovie (record m { timescale = timescale_by l (divided a) m.timescale })
movie_by l a m h = record {
  creation = h.creation;
  modification = h.modification;
  timescale = scale_below l.timing a m.timescale h.timescale;
  rate = h.rate;
  volume = h.volume;
  matrix = h.matrix;
  kept = h.kept;
}

told_by : (l : Without) (a g : ℕ) (t : Track) → IsToldTrack t → IsToldTrack (track_by l (divided a) (divided g) t)
told_by l a g t h = record {
  head = record {
    flags = h.head.flags;
    creation = h.head.creation;
    modification = h.head.modification;
    id = h.head.id;
    layer = h.head.layer;
    alternate_group = h.head.alternate_group;
    volume = h.head.volume;
    matrix = h.head.matrix;
    width = h.head.width;
    height = h.head.height;
    edits = edits_good a g t.head.edits h.head.edits;
    kept = h.head.kept;
    media = record {
      creation = h.head.media.creation;
      modification = h.head.media.modification;
      timescale = scale_below l.timing g t.head.media.timescale h.head.media.timescale;
      language = h.head.media.language;
      handler = h.head.media.handler;
      languages = h.head.media.languages;
      header = h.head.media.header;
      descriptions = h.head.media.descriptions;
    };
    group_descriptions = h.head.group_descriptions;
  };
  start = divided_below g t.start (2 ^ 64) h.start;
  samples = divided_each l IsToldSample IsToldSample (divided g) (length t.samples) one 0 t.samples h.samples;
}
  where
    one : (n : ℕ) (s : Sample) → IsToldSample s → IsToldSample (sample_by l (divided g) (length t.samples) n s)
    one n s i = record {
      duration = scale_below (leaves_duration l (length t.samples) n) g s.duration i.duration;
      offset = small_divided g s.offset i.offset;
      flags = i.flags;
      description = i.description;
      groups = i.groups;
    }

-- so it is behind its numbering
told_numbered : (l : Without) (place : ℕ) (t : Track) → IsToldTrack t → IsToldTrack (number_track l place t)
told_numbered l place t h = record {
  head = record {
    flags = h.head.flags;
    creation = h.head.creation;
    modification = h.head.modification;
    id = below_if l.ids (min place (2 ^ 32 - 1)) t.head.id (2 ^ 64) (omega arith) h.head.id;
    layer = h.head.layer;
    alternate_group = h.head.alternate_group;
    volume = h.head.volume;
    matrix = h.head.matrix;
    width = h.head.width;
    height = h.head.height;
    edits = h.head.edits;
    kept = h.head.kept;
    media = h.head.media;
    group_descriptions = h.head.group_descriptions;
  };
  start = h.start;
  samples = h.samples;
}

told_tracks : (l : Without) (p : Presentation) → Valid p → AllByRecursion IsToldTrack (remaining l p).tracks
told_tracks l p v =
    let a = movie_divisor l p in
    numbered_each l IsToldTrack IsToldTrack (λ place t some h. told_numbered l place t h) 1 (map (remaining_track l a) p.tracks) (omega arith)
    (each_value (λ (t : Track). CanWrite p.tracks t × IsInTime p.movie.timescale t) IsToldTrack (remaining_track l a) (λ t i. told_by l a (track_divisor l t) (reduce_track l t) (told_track l p.movie.timescale t i.0.valid i.0.few i.1)) p.tracks
    (each_from (CanWrite p.tracks) (IsInTime p.movie.timescale) (λ (t : Track). CanWrite p.tracks t × IsInTime p.movie.timescale t) (λ t a b. (a, b)) p.tracks (valid_tracks p v) v.limits.times))

-- ---- the whole

abbrev end : List ℕ
end = codes "end\n"

same_tracks : (these those : List (List ℕ)) (ts us : List Track) → AllByRecursion (IsTrackIn these) ts → AllByRecursion (IsTrackIn those) us → flat_map track_text ts ++ end ≡ flat_map track_text us ++ end → Same these those ts us end end
same_tracks these those ts us h k e = same_each these those (IsTrackIn these) (IsTrackIn those) (Differs 0 32) track_text 0 116 (λ x zs. refl) (λ x zs. t_not_space) (λ x y xs ys r s i j f. same_track these those x y xs ys r s i j f) ts us end end e_not_space e_not_space e_not_t e_not_t h k e

no_k : (tracks : List Track) → Differs 1 107 (flat_map track_text tracks ++ end)
no_k tracks = differs_behind track_text 1 114 107 (λ x zs. refl) r_not_k tracks end n_not_k

remaining_tells : (l : Without) (p q : Presentation) → Valid p → Valid q → text_of (remaining l p) ≡ text_of (remaining l q) → (remaining l p ≡ remaining l q) ⊎ Collision (digested (remaining l p)) (digested (remaining l q))
remaining_tells l p q v w whole =
    let a = movie_divisor l p in
    let b = movie_divisor l q in
    let m = remaining_movie l a p.movie in
    let n = remaining_movie l b q.movie in
    let ts = (remaining l p).tracks in
    let us = (remaining l q).tracks in
    let these = digested (remaining l p) in
    let those = digested (remaining l q) in
    let i = in_itself these in
    let o = in_itself those in
    let both = sym (append_assoc (movie_lines m) (flat_map track_text ts) end) ∙ whole ∙ append_assoc (movie_lines n) (flat_map track_text us) end in
    by (with_same these those ((m ≡ n) × (ts ≡ us)) m n (flat_map track_text ts ++ end) (flat_map track_text us
    ++ end) (same_movie these those m n (flat_map track_text ts ++ end) (flat_map track_text us ++ end) (movie_by l a (reduce_movie_head l p.movie) (told_movie l p.movie v.movie)) (movie_by l b (reduce_movie_head l q.movie) (told_movie l q.movie w.movie))
    (all_first (Contains these) (payloads_of m.kept) (flat_map digested_track ts) i)
    (all_first (Contains those) (payloads_of n.kept) (flat_map digested_track us) o) (no_k ts) (no_k us) both)
    (λ movie rest.
    with_same these those ((m ≡ n)
    × (ts ≡ us)) ts us end end
    (same_tracks these those ts us (tracks_in these ts (told_tracks l p v) (all_last (Contains these) (payloads_of m.kept) (flat_map digested_track ts) i)) (tracks_in those us (told_tracks l q w) (all_last (Contains those) (payloads_of n.kept) (flat_map digested_track us) o)) rest)
    (λ tracks stop. inl (movie, tracks))))
  where
    by : (((remaining l p).movie ≡ (remaining l q).movie) × ((remaining l p).tracks ≡ (remaining l q).tracks)) ⊎ Collision (digested (remaining l p)) (digested (remaining l q)) → (remaining l p ≡ remaining l q) ⊎ Collision (digested (remaining l p)) (digested (remaining l q))
    by (inl s) = inl (λ i. record { movie = s.0 i; tracks = s.1 i })
    by (inr c) = inr c

abbrev Tells : Presentation → Presentation → Type 0
Tells x y = (x ≡ y) ⊎ Collision (digested x) (digested y)

pub same_text_tells : TextsTell
same_text_tells l p q v w i j e =
    let a = left_is_told l p in
    let b = left_is_told l q in
    let whole = cancel (front_lines l) (text_of (left_of l p)) (text_of (left_of l q)) e in
    let told_so = remaining_tells (words_told l) (told l.lead_ins p) (told l.lead_ins q) ((told_is_valid l.lead_ins p v).1 i) ((told_is_valid l.lead_ins q w).1 j) (sym (ap text_of a) ∙ whole ∙ ap text_of b) in
    subst (λ (x : Presentation). Tells x (left_of l q)) (sym a) (subst (λ (y : Presentation). Tells (remaining (words_told l) (told l.lead_ins p)) y) (sym b) told_so)
