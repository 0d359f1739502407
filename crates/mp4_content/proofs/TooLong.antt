-- Three presentations that are valid: one is too long without its edits, one without its ends, and of the third an offset doesn't fit without its origins.
use Rattle.std.proofs.Common.{◌≡◌, ℕ, zero, suc, ◌-◌, ◌*◌, ◌<◌, ◌≤◌, ◌^◌, Bool, true, false, if◌then◌else◌, List, [], ◌∷◌, length, replicate, refl, subst, arith}
use Rattle.std.specs.Prelude.{◌&&◌, ℤ, pos, negsuc, ◌-ℤ◌, FitsSigned, codes}
use Rattle.std.specs.Int.{w16, w32, div_ceil}
use Rattle.std.specs.List.{AllByRecursion}
use Rattle.mp4_boxes.specs.format.Bytes.{AreBytes, sum_of}
use Rattle.mp4_boxes.proofs.Each.{each_again}
use Rattle.mp4_tables.specs.format.Groups.{max_keys}
use Rattle.mp4_head.specs.format.Head.{Edit, Media, TrackHead, MovieHead, IsEdit, IsMatrix, IsMedia, IsTrackHead, IsMovieHead}
use Rattle.mp4_present.specs.format.Presentation.{Sample, Track, Presentation, IsSample, IsTrack, IsWithinLimits, Valid, keys_of, says_all, total_duration, max_time}
use Rattle.mp4_content.specs.format.Reduced.{is_at_end, reduce}
use Rattle.mp4_content.specs.declared.without.Without.{Without}
use Rattle.mp4_content.specs.format.ReducedLaws.{EditsMayHoldTime, EndsMayHoldTime, OriginsMayHoldOffsets}
use Rattle.mp4_content.proofs.ReducedValid.{valid_to}
use Rattle.mp4_boxes.proofs.OfBytes.{no_bytes}
use Rattle.mp4_content.proofs.LeadInsFlat.{fits_0}

more_bytes : (b : ℕ) (bytes : List ℕ) → b < 256 → AreBytes bytes → AreBytes (b ∷ bytes)
more_bytes b bytes h k zero = h
more_bytes b bytes h k (suc i) = k i

zeros : (n : ℕ) → AreBytes (replicate n 0)
zeros zero = no_bytes
zeros (suc n) = more_bytes 0 (replicate n 0) (omega arith) (zeros n)

abbrev matrix : List ℤ
matrix = replicate 9 (pos 0)

abbrev media : Media
media = record {
  creation = 0;
  modification = 0;
  timescale = 1;
  language = 0;
  handler = replicate 24 0;
  extended_languages = [];
  header = record { kind = codes "vmhd"; payload = [] };
  descriptions = record { kind = codes "avc1"; payload = 0 ∷ 0 ∷ 0 ∷ 0 ∷ 0 ∷ 0 ∷ 0 ∷ 1 ∷ [] } ∷ [];
}

abbrev pub edit : Edit
edit = record { segment_duration = 1; media_time = pos 0; rate_integer = pos 1; rate_fraction = pos 0 }

abbrev head : List Edit → TrackHead
head edits = record { flags = 0; creation = 0; modification = 0; id = 1; layer = pos 0; alternate_group = pos 0; volume = pos 0; matrix = matrix; width = 0; height = 0; edits = edits; kept = []; media = media; group_descriptions = [] }

abbrev pub sample : ℕ → ℤ → Sample
sample duration offset = record { duration = duration; offset = offset; flags = 0; description = 1; bytes = []; groups = [] }

abbrev pub track : List Edit → List Sample → Track
track edits samples = record { head = head edits; start = 0; samples = samples }

abbrev pub movie : MovieHead
movie = record { creation = 0; modification = 0; timescale = 2 ^ 32 - 1; rate = pos 0; volume = pos 0; matrix = matrix; kept = [] }

abbrev pub one_track : List Edit → List Sample → Presentation
one_track edits samples = record { movie = movie; tracks = track edits samples ∷ [] }

fits_16 : FitsSigned w16 (pos 0)
fits_16 = omega arith

matrix_good : IsMatrix matrix
matrix_good = record { nine = refl; fits = each_again (FitsSigned w32) 9 (pos 0) fits_0 }

letters : AreBytes (97 ∷ 118 ∷ 99 ∷ 49 ∷ [])
letters = more_bytes 97 (118 ∷ 99 ∷ 49 ∷ []) (omega arith) (more_bytes 118 (99 ∷ 49 ∷ []) (omega arith) (more_bytes 99 (49 ∷ []) (omega arith) (more_bytes 49 [] (omega arith) no_bytes)))

below_256 : (bytes : List ℕ) → AllByRecursion (λ b. b < 256) bytes → AreBytes bytes
below_256 [] h = no_bytes
below_256 (b ∷ bytes) h = more_bytes b bytes h.0 (below_256 bytes h.1)

eight : AreBytes (0 ∷ 0 ∷ 0 ∷ 0 ∷ 0 ∷ 0 ∷ 0 ∷ 1 ∷ [])
eight = below_256 (0 ∷ 0 ∷ 0 ∷ 0 ∷ 0 ∷ 0 ∷ 0 ∷ 1 ∷ []) (omega arith, (omega arith, (omega arith, (omega arith, (omega arith, (omega arith, (omega arith, (omega arith, tt))))))))

media_good : IsMedia media
media_good = record {
  creation = omega arith;
  modification = omega arith;
  timescale = omega arith;
  timescale_not_0 = omega arith;
  language = omega arith;
  handler = zeros 24;
  handler_room = omega arith;
  extended_languages = tt;
  header = refl;
  header_bytes = no_bytes;
  descriptions = (record { kind_length = refl; kind = letters; bytes = eight; room = omega arith; data_reference = refl }, tt);
}

pub edit_good : IsEdit edit
edit_good = record { segment_duration = omega arith; media_time = omega arith; rate_integer = omega arith; rate_fraction = fits_16 }

head_good : (edits : List Edit) → AllByRecursion IsEdit edits → IsTrackHead (head edits)
head_good edits h = record {
  flags = omega arith;
  creation = omega arith;
  modification = omega arith;
  id = omega arith;
  id_not_0 = omega arith;
  layer = fits_16;
  alternate_group = fits_16;
  volume = fits_16;
  matrix = matrix_good;
  width = omega arith;
  height = omega arith;
  edits = h;
  kept = tt;
  media = media_good;
  group_descriptions = tt;
}

pub sample_good : (duration : ℕ) (offset : ℤ) → duration < 2 ^ 32 → FitsSigned w32 offset → IsSample 1 (sample duration offset)
sample_good duration offset h k =
    record { duration = h; offset = k; flags = omega arith; description_from_1 = omega arith; description = omega arith; bytes = no_bytes; size = omega arith; groups = tt; groups_in_order = refl }

track_good : (edits : List Edit) (samples : List Sample) → AllByRecursion IsEdit edits → AllByRecursion (IsSample 1) samples → length (keys_of samples) ≤ max_keys → IsTrack (track edits samples)
track_good edits samples e h few = record { head = head_good edits e; samples = h; keys = few; empty = λ e. refl }

movie_good : IsMovieHead movie
movie_good = record { creation = omega arith; modification = omega arith; timescale = omega arith; timescale_not_0 = omega arith; rate = fits_0; volume = fits_16; matrix = matrix_good; kept = tt }

pub one_track_good : (edits : List Edit) (samples : List Sample) → AllByRecursion IsEdit edits → AllByRecursion (IsSample 1) samples → length (keys_of samples) ≤ max_keys → IsWithinLimits (one_track edits samples) → Valid (one_track edits samples)
one_track_good edits samples e h few limits = record { movie = movie_good; tracks = (track_good edits samples e h few, tt); ids = refl; limits = limits }

-- ---- too long: by its second sample, since the first and the last may last 1

abbrev long : List Sample
long = sample 1 (pos 0) ∷ sample (2 ^ 32 - 1) (pos 0) ∷ sample 1 (pos 0) ∷ []

long_good : Valid (one_track (edit ∷ []) long)
long_good =
    one_track_good (edit ∷ []) long (edit_good, tt) (sample_good 1 (pos 0) (omega arith) fits_0, (sample_good (2 ^ 32 - 1) (pos 0) (omega arith) fits_0, (sample_good 1 (pos 0) (omega arith) fits_0, tt))) (omega arith)
    (record { samples = omega arith; times = ((omega arith, omega arith), tt); moov = omega arith })

too_long : (l : Without) → l.edits ≡ true → l.timing ≡ false → Valid (reduce l (one_track (edit ∷ []) long)) → ⊥
too_long l e counts v = over l.ends (subst (λ (b : Bool). length_by true b l.ends ≤ max_time) counts (subst (λ (b : Bool). length_by b l.timing l.ends ≤ max_time) e (valid_to l (one_track (edit ∷ []) long) v).in_time.0.1))
  where
    length_by : Bool → Bool → Bool → ℕ
    length_by none timing ends =
        let edits : List Edit = if none then [] else edit ∷ [] in
        let lasting : ℕ → ℕ → Sample = λ n duration. sample (if timing then 1 else if ends && is_at_end 3 n then 1 else duration) (pos 0) in
        let samples : List Sample = lasting 0 1 ∷ lasting 1 (2 ^ 32 - 1) ∷ lasting 2 1 ∷ [] in
        if says_all edits then sum_of (λ (x : Edit). x.segment_duration) edits else div_ceil (total_duration samples * (if timing then 1000 else (2 ^ 32 - 1))) (if timing then 1000 else 1)

    over : (ends : Bool) → length_by true false ends ≤ max_time → ⊥
    over true h = omega (arith, h)
    over false h = omega (arith, h)

pub edits_may_hold_time : EditsMayHoldTime
edits_may_hold_time l e counts = (one_track (edit ∷ []) long, long_good, too_long l e counts)

-- ---- too long: the first and the last last nothing, and what is left of them 1

abbrev lasting : List Sample
lasting = sample 0 (pos 0) ∷ sample (2 ^ 31) (pos 0) ∷ sample 0 (pos 0) ∷ []

lasting_good : Valid (one_track [] lasting)
lasting_good =
    one_track_good [] lasting tt (sample_good 0 (pos 0) (omega arith) fits_0, (sample_good (2 ^ 31) (pos 0) (omega arith) fits_0, (sample_good 0 (pos 0) (omega arith) fits_0, tt))) (omega arith)
    (record { samples = omega arith; times = ((omega arith, omega arith), tt); moov = omega arith })

longer : (l : Without) → l.ends ≡ true → l.timing ≡ false → Valid (reduce l (one_track [] lasting)) → ⊥
longer l e counts v = over l.edits (subst (λ (b : Bool). length_by l.edits b true ≤ max_time) counts (subst (λ (b : Bool). length_by l.edits l.timing b ≤ max_time) e (valid_to l (one_track [] lasting) v).in_time.0.1))
  where
    length_by : Bool → Bool → Bool → ℕ
    length_by none timing ends =
        let edits : List Edit = if none then [] else [] in
        let left : ℕ → ℕ → Sample = λ n duration. sample (if timing then 1 else if ends && is_at_end 3 n then 1 else duration) (pos 0) in
        let samples : List Sample = left 0 0 ∷ left 1 (2 ^ 31) ∷ left 2 0 ∷ [] in
        if says_all edits then sum_of (λ (x : Edit). x.segment_duration) edits else div_ceil (total_duration samples * (if timing then 1000 else (2 ^ 32 - 1))) (if timing then 1000 else 1)

    over : (none : Bool) → length_by none false true ≤ max_time → ⊥
    over true h = omega (arith, h)
    over false h = omega (arith, h)

pub ends_may_hold_time : EndsMayHoldTime
ends_may_hold_time l e counts = (one_track [] lasting, lasting_good, longer l e counts)

-- ---- too far apart: the least and the greatest offset

abbrev least : ℤ
least = negsuc (2 ^ 31 - 1)

abbrev greatest : ℤ
greatest = pos (2 ^ 31 - 1)

fits_least : FitsSigned w32 least
fits_least = omega arith

fits_greatest : FitsSigned w32 greatest
fits_greatest = omega arith

abbrev far : List Sample
far = sample 1 least ∷ sample 1 greatest ∷ []

far_good : Valid (one_track [] far)
far_good =
    one_track_good [] far tt (sample_good 1 least (omega arith) fits_least, (sample_good 1 greatest (omega arith) fits_greatest, tt)) (omega arith)
    (record { samples = omega arith; times = ((omega arith, omega arith), tt); moov = omega arith })

too_far : (l : Without) → l.origins ≡ true → l.timing ≡ false → Valid (reduce l (one_track [] far)) → ⊥
too_far l e counts v = over (subst (λ (b : Bool). FitsSigned w32 (offset_by b true)) counts (subst (λ (b : Bool). FitsSigned w32 (offset_by l.timing b)) e (valid_to l (one_track [] far) v).in_range.0.1.0))
  where
    offset_by : Bool → Bool → ℤ
    offset_by timing origins = if timing then pos 0 else if origins then greatest -ℤ least else greatest

    over : FitsSigned w32 (offset_by false true) → ⊥
    over h = let fits = h.sfits in omega (arith, fits)

pub origins_may_hold_offsets : OriginsMayHoldOffsets
origins_may_hold_offsets l e counts = (one_track [] far, far_good, too_far l e counts)
