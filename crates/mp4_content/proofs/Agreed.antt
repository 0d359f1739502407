-- What is left of two presentations is the same exactly where they agree.
use Rattle.std.proofs.Common.{◌≡◌, ℕ, suc, ◌-◌, ◌*◌, ◌/◌, ◌%◌, ◌^◌, min, Bool, true, false, if◌then◌else◌, List, [], ◌∷◌, length, refl, sym, ap, ◌∙◌, arith}
use Rattle.std.specs.Prelude.{◌&&◌, map, filter, ℤ, pos, ◌-ℤ◌}
use Rattle.std.specs.List.{AllZip}
use Rattle.mp4_head.specs.format.Head.{Kept, Media, TrackHead, MovieHead, handler_type}
use Rattle.mp4_present.specs.format.Presentation.{Sample, Track, Presentation}
use Rattle.mp4_content.proofs.Plain.{same_by, type_same}
use Rattle.mp4_content.proofs.ReducedSamples.{left_many}
use Rattle.mp4_content.specs.format.Reduced.{sync_flag, plain_handler, reduce_descriptions, is_at_end, first_offset, reduce_sample, reduce_from, reduce_samples, reduce_media, reduce_track_head, reduce_movie_head, number_head, number_track, number_tracks, reduce_track, reduce}
use Rattle.mp4_content.specs.declared.without.Without.{Without}
use Rattle.mp4_content.specs.format.Agreeing.{is_other, SamplesAgree, AllAgree, MediaAgree, TrackHeadsAgree, MovieHeadsAgree, TracksAgree, Agree, ReduceIsExact}
use Rattle.mp4_boxes.proofs.Plain.{head_is, tail_is}

-- what stays is the same, where it stays
stays : {A : Type 0} (b : Bool) (g : A → A) (x y : A) → (if b then g x else x) ≡ (if b then g y else y) → b ≡ false → x ≡ y
stays true g x y e f = absurd cc
stays false g x y e f = e

-- what is left of it is
less : {A : Type 0} (b : Bool) (g : A → A) (x y : A) → (if b then g x else x) ≡ (if b then g y else y) → g x ≡ g y
less true g x y e = e
less false g x y e = ap g e

same_less : {A : Type 0} (b : Bool) (g : A → A) (x y : A) → (b ≡ false → x ≡ y) → g x ≡ g y → (if b then g x else x) ≡ (if b then g y else y)
same_less true g x y e h = h
same_less false g x y e h = e refl

-- of what is one value by a first word, and by a second is made of it
module _ {A : Type 0} (b c : Bool) (u p q x y : A) where
  last_stays : (if b then u else if c then p else x) ≡ (if b then u else if c then q else y) → b ≡ false → c ≡ false → x ≡ y
  last_stays e f g = by b c e f g
    where
      by : (b c : Bool) → (if b then u else if c then p else x) ≡ (if b then u else if c then q else y) → b ≡ false → c ≡ false → x ≡ y
      by true c e f g = absurd cc
      by false true e f g = absurd cc
      by false false e f g = e

  made_stays : (if b then u else if c then p else x) ≡ (if b then u else if c then q else y) → b ≡ false → c ≡ true → p ≡ q
  made_stays e f g = by b c e f g
    where
      by : (b c : Bool) → (if b then u else if c then p else x) ≡ (if b then u else if c then q else y) → b ≡ false → c ≡ true → p ≡ q
      by true c e f g = absurd cc
      by false true e f g = e
      by false false e f g = absurd cc

  same_both : (b ≡ false → c ≡ false → x ≡ y) → (b ≡ false → c ≡ true → p ≡ q) → (if b then u else if c then p else x) ≡ (if b then u else if c then q else y)
  same_both = by b c
    where
      by : (b c : Bool) → (b ≡ false → c ≡ false → x ≡ y) → (b ≡ false → c ≡ true → p ≡ q) → (if b then u else if c then p else x) ≡ (if b then u else if c then q else y)
      by true c h k = refl
      by false true h k = k refl refl
      by false false h k = h refl refl

-- handlers of which the same is left name the same type
pub type_of_left : (h k : List ℕ) (a : Bool) → (if a then plain_handler h else h) ≡ (if a then plain_handler k else k) → handler_type h ≡ handler_type k
type_of_left h k true e = sym (type_same h) ∙ ap handler_type e ∙ type_same k
type_of_left h k false e = ap handler_type e

-- the same is left of the same descriptions, where handlers name the same type
pub same_descriptions : (l : Without) (h k : List ℕ) (x y : List Kept) → handler_type h ≡ handler_type k → x ≡ y → reduce_descriptions l h x ≡ reduce_descriptions l k y
same_descriptions l h k x y kind e = same_by l.labels l.bitrates l.ids h k kind x ∙ ap (reduce_descriptions l k) e

sync_to : (m n : ℕ) → sync_flag m ≡ sync_flag n → m / 2 ^ 16 % 2 ≡ n / 2 ^ 16 % 2
sync_to m n e = omega (arith, e)

sync_from : (m n : ℕ) → m / 2 ^ 16 % 2 ≡ n / 2 ^ 16 % 2 → sync_flag m ≡ sync_flag n
sync_from m n e = ap (λ k. k * 2 ^ 16) e

module _ (l : Without) where
  module _ (count : ℕ) (first other : ℤ) where
    sample_to : (n : ℕ) (a b : Sample) → reduce_sample l count first n a ≡ reduce_sample l count other n b → SamplesAgree l count first other n a b
    sample_to n a b e = record {
      duration = last_stays l.timing (l.ends && is_at_end count n) 1 1 1 a.duration b.duration (ap (λ (x : Sample). x.duration) e);
      offset = last_stays l.timing l.origins (pos 0) (a.offset -ℤ first) (b.offset -ℤ other) a.offset b.offset (ap (λ (x : Sample). x.offset) e);
      moved = made_stays l.timing l.origins (pos 0) (a.offset -ℤ first) (b.offset -ℤ other) a.offset b.offset (ap (λ (x : Sample). x.offset) e);
      description = ap (λ (x : Sample). x.description) e;
      bytes = ap (λ (x : Sample). x.bytes) e;
      sync = sync_to a.flags b.flags (less l.flags sync_flag a.flags b.flags (ap (λ (x : Sample). x.flags) e));
      flags = stays l.flags (sync_flag) a.flags b.flags (ap (λ (x : Sample). x.flags) e);
      groups = stays l.groups (λ xs. []) a.groups b.groups (ap (λ (x : Sample). x.groups) e);
    }

    sample_from : (n : ℕ) (a b : Sample) → SamplesAgree l count first other n a b → reduce_sample l count first n a ≡ reduce_sample l count other n b
    sample_from n a b h = λ i. record {
      duration = same_both l.timing (l.ends && is_at_end count n) 1 1 1 a.duration b.duration h.duration (λ e f. refl) i;
      offset = same_both l.timing l.origins (pos 0) (a.offset -ℤ first) (b.offset -ℤ other) a.offset b.offset h.offset h.moved i;
      description = h.description i;
      bytes = h.bytes i;
      flags = same_less l.flags sync_flag a.flags b.flags h.flags (sync_from a.flags b.flags h.sync) i;
      groups = same_less l.groups (λ xs. []) a.groups b.groups h.groups refl i;
    }

    from_to : (n : ℕ) (xs ys : List Sample) → reduce_from l count first n xs ≡ reduce_from l count other n ys → AllAgree l count first other n xs ys
    from_to n [] [] e = tt
    from_to n [] (y ∷ ys) e = absurd cc
    from_to n (x ∷ xs) [] e = absurd cc
    from_to n (x ∷ xs) (y ∷ ys) e =
        let a = reduce_sample l count first n x in
        let b = reduce_sample l count other n y in
        let more = reduce_from l count first (suc n) xs in
        let rest = reduce_from l count other (suc n) ys in
        (sample_to n x y (head_is a b more rest e), from_to (suc n) xs ys (tail_is a b more rest e))

    from_from : (n : ℕ) (xs ys : List Sample) → AllAgree l count first other n xs ys → reduce_from l count first n xs ≡ reduce_from l count other n ys
    from_from n [] [] h = refl
    from_from n [] (y ∷ ys) h = absurd h
    from_from n (x ∷ xs) [] h = absurd h
    from_from n (x ∷ xs) (y ∷ ys) h = λ i. sample_from n x y h.0 i ∷ from_from (suc n) xs ys h.1 i

    agree_many : (n : ℕ) (xs ys : List Sample) → AllAgree l count first other n xs ys → length xs ≡ length ys
    agree_many n [] [] h = refl
    agree_many n [] (y ∷ ys) h = absurd h
    agree_many n (x ∷ xs) [] h = absurd h
    agree_many n (x ∷ xs) (y ∷ ys) h = let rest = agree_many (suc n) xs ys h.1 in omega (arith, rest)

  samples_to : (xs ys : List Sample) → reduce_samples l xs ≡ reduce_samples l ys → AllAgree l (length xs) (first_offset xs) (first_offset ys) 0 xs ys
  samples_to xs ys e =
      let many : length xs ≡ length ys = sym (left_many l (length xs) (first_offset xs) 0 xs) ∙ ap length e ∙ left_many l (length ys) (first_offset ys) 0 ys in
      from_to (length xs) (first_offset xs) (first_offset ys) 0 xs ys (e ∙ ap (λ count. reduce_from l count (first_offset ys) 0 ys) (sym many))

  samples_from : (xs ys : List Sample) → AllAgree l (length xs) (first_offset xs) (first_offset ys) 0 xs ys → reduce_samples l xs ≡ reduce_samples l ys
  samples_from xs ys h =
      from_from (length xs) (first_offset xs) (first_offset ys) 0 xs ys h
      ∙ ap (λ count. reduce_from l count (first_offset ys) 0 ys) (agree_many (length xs) (first_offset xs) (first_offset ys) 0 xs ys h)

  media_to : (a b : Media) → reduce_media l a ≡ reduce_media l b → MediaAgree l a b
  media_to a b e = record {
    timescale = stays l.timing (λ n. 1000) a.timescale b.timescale (ap (λ (x : Media). x.timescale) e);
    language = ap (λ (x : Media). x.language) e;
    extended_languages = ap (λ (x : Media). x.extended_languages) e;
    header = ap (λ (x : Media). x.header) e;
    creation = stays l.times (λ n. 0) a.creation b.creation (ap (λ (x : Media). x.creation) e);
    modification = stays l.times (λ n. 0) a.modification b.modification (ap (λ (x : Media). x.modification) e);
    handler = stays l.labels plain_handler a.handler b.handler (ap (λ (x : Media). x.handler) e);
    left_handler = less l.labels plain_handler a.handler b.handler (ap (λ (x : Media). x.handler) e);
    descriptions = ap (λ (x : Media). x.descriptions) e;
  }

  media_from : (a b : Media) → MediaAgree l a b → reduce_media l a ≡ reduce_media l b
  media_from a b h = λ i. record {
    timescale = same_less l.timing (λ n. 1000) a.timescale b.timescale h.timescale refl i;
    language = h.language i;
    extended_languages = h.extended_languages i;
    header = h.header i;
    creation = same_less l.times (λ n. 0) a.creation b.creation h.creation refl i;
    modification = same_less l.times (λ n. 0) a.modification b.modification h.modification refl i;
    handler = same_less l.labels plain_handler a.handler b.handler h.handler h.left_handler i;
    descriptions = h.descriptions i;
  }

  track_head_to : (place : ℕ) (a b : TrackHead) → number_head l place (reduce_track_head l a) ≡ number_head l place (reduce_track_head l b) → TrackHeadsAgree l a b
  track_head_to place a b e = record {
    flags = stays l.roles (λ n. n % 2) a.flags b.flags (ap (λ (x : TrackHead). x.flags) e);
    enabled = less l.roles (λ n. n % 2) a.flags b.flags (ap (λ (x : TrackHead). x.flags) e);
    id = stays l.ids (λ n. min place (2 ^ 32 - 1)) a.id b.id (ap (λ (x : TrackHead). x.id) e);
    layer = stays l.roles (λ n. pos 0) a.layer b.layer (ap (λ (x : TrackHead). x.layer) e);
    alternate_group = stays l.roles (λ n. pos 0) a.alternate_group b.alternate_group (ap (λ (x : TrackHead). x.alternate_group) e);
    volume = ap (λ (x : TrackHead). x.volume) e;
    matrix = ap (λ (x : TrackHead). x.matrix) e;
    width = ap (λ (x : TrackHead). x.width) e;
    height = ap (λ (x : TrackHead). x.height) e;
    creation = stays l.times (λ n. 0) a.creation b.creation (ap (λ (x : TrackHead). x.creation) e);
    modification = stays l.times (λ n. 0) a.modification b.modification (ap (λ (x : TrackHead). x.modification) e);
    edits = stays l.edits (λ xs. []) a.edits b.edits (ap (λ (x : TrackHead). x.edits) e);
    kept = stays l.metadata (filter is_other) a.kept b.kept (ap (λ (x : TrackHead). x.kept) e);
    other_kept = less l.metadata (filter is_other) a.kept b.kept (ap (λ (x : TrackHead). x.kept) e);
    media = media_to a.media b.media (ap (λ (x : TrackHead). x.media) e);
    group_descriptions = stays l.groups (λ xs. []) a.group_descriptions b.group_descriptions (ap (λ (x : TrackHead). x.group_descriptions) e);
  }

  track_head_from : (place : ℕ) (a b : TrackHead) → TrackHeadsAgree l a b → number_head l place (reduce_track_head l a) ≡ number_head l place (reduce_track_head l b)
  track_head_from place a b h = λ i. record {
    flags = same_less l.roles (λ n. n % 2) a.flags b.flags h.flags h.enabled i;
    id = same_less l.ids (λ n. min place (2 ^ 32 - 1)) a.id b.id h.id refl i;
    layer = same_less l.roles (λ n. pos 0) a.layer b.layer h.layer refl i;
    alternate_group = same_less l.roles (λ n. pos 0) a.alternate_group b.alternate_group h.alternate_group refl i;
    volume = h.volume i;
    matrix = h.matrix i;
    width = h.width i;
    height = h.height i;
    creation = same_less l.times (λ n. 0) a.creation b.creation h.creation refl i;
    modification = same_less l.times (λ n. 0) a.modification b.modification h.modification refl i;
    edits = same_less l.edits (λ xs. []) a.edits b.edits h.edits refl i;
    kept = same_less l.metadata (filter is_other) a.kept b.kept h.kept h.other_kept i;
    media = media_from a.media b.media h.media i;
    group_descriptions = same_less l.groups (λ xs. []) a.group_descriptions b.group_descriptions h.group_descriptions refl i;
  }

  movie_head_to : (a b : MovieHead) → reduce_movie_head l a ≡ reduce_movie_head l b → MovieHeadsAgree l a b
  movie_head_to a b e = record {
    timescale = stays l.timing (λ n. 1000) a.timescale b.timescale (ap (λ (x : MovieHead). x.timescale) e);
    rate = ap (λ (x : MovieHead). x.rate) e;
    volume = ap (λ (x : MovieHead). x.volume) e;
    matrix = ap (λ (x : MovieHead). x.matrix) e;
    creation = stays l.times (λ n. 0) a.creation b.creation (ap (λ (x : MovieHead). x.creation) e);
    modification = stays l.times (λ n. 0) a.modification b.modification (ap (λ (x : MovieHead). x.modification) e);
    kept = stays l.metadata (filter is_other) a.kept b.kept (ap (λ (x : MovieHead). x.kept) e);
    other_kept = less l.metadata (filter is_other) a.kept b.kept (ap (λ (x : MovieHead). x.kept) e);
  }

  movie_head_from : (a b : MovieHead) → MovieHeadsAgree l a b → reduce_movie_head l a ≡ reduce_movie_head l b
  movie_head_from a b h = λ i. record {
    timescale = same_less l.timing (λ n. 1000) a.timescale b.timescale h.timescale refl i;
    rate = h.rate i;
    volume = h.volume i;
    matrix = h.matrix i;
    creation = same_less l.times (λ n. 0) a.creation b.creation h.creation refl i;
    modification = same_less l.times (λ n. 0) a.modification b.modification h.modification refl i;
    kept = same_less l.metadata (filter is_other) a.kept b.kept h.kept h.other_kept i;
  }

  track_to : (place : ℕ) (a b : Track) → number_track l place (reduce_track l a) ≡ number_track l place (reduce_track l b) → TracksAgree l a b
  track_to place a b e = record {
    start = last_stays l.timing l.origins 0 0 0 a.start b.start (ap (λ (x : Track). x.start) e);
    head = track_head_to place a.head b.head (ap (λ (x : Track). x.head) e);
    samples = samples_to a.samples b.samples (ap (λ (x : Track). x.samples) e);
  }

  track_from : (place : ℕ) (a b : Track) → TracksAgree l a b → number_track l place (reduce_track l a) ≡ number_track l place (reduce_track l b)
  track_from place a b h = λ i. record {
    start = same_both l.timing l.origins 0 0 0 a.start b.start h.start (λ e f. refl) i;
    head = track_head_from place a.head b.head h.head i;
    samples = samples_from a.samples b.samples h.samples i;
  }

  tracks_to : (place : ℕ) (xs ys : List Track) → number_tracks l place (map (reduce_track l) xs) ≡ number_tracks l place (map (reduce_track l) ys) → AllZip (TracksAgree l) xs ys
  tracks_to place [] [] e = tt
  tracks_to place [] (y ∷ ys) e = absurd cc
  tracks_to place (x ∷ xs) [] e = absurd cc
  tracks_to place (x ∷ xs) (y ∷ ys) e =
      let a = number_track l place (reduce_track l x) in
      let b = number_track l place (reduce_track l y) in
      let more = number_tracks l (suc place) (map (reduce_track l) xs) in
      let rest = number_tracks l (suc place) (map (reduce_track l) ys) in
      (track_to place x y (head_is a b more rest e), tracks_to (suc place) xs ys (tail_is a b more rest e))

  tracks_from : (place : ℕ) (xs ys : List Track) → AllZip (TracksAgree l) xs ys → number_tracks l place (map (reduce_track l) xs) ≡ number_tracks l place (map (reduce_track l) ys)
  tracks_from place [] [] h = refl
  tracks_from place [] (y ∷ ys) h = absurd h
  tracks_from place (x ∷ xs) [] h = absurd h
  tracks_from place (x ∷ xs) (y ∷ ys) h = λ i. track_from place x y h.0 i ∷ tracks_from (suc place) xs ys h.1 i

  all_to : (a b : Presentation) → reduce l a ≡ reduce l b → Agree l a b
  all_to a b e = record {
    movie = movie_head_to a.movie b.movie (ap (λ (x : Presentation). x.movie) e);
    tracks = tracks_to 1 a.tracks b.tracks (ap (λ (x : Presentation). x.tracks) e);
  }

  all_from : (a b : Presentation) → Agree l a b → reduce l a ≡ reduce l b
  all_from a b h = λ i. record {
    movie = movie_head_from a.movie b.movie h.movie i;
    tracks = tracks_from 1 a.tracks b.tracks h.tracks i;
  }

pub reduce_is_exact : ReduceIsExact
reduce_is_exact l p q = (all_to l p q, all_from l p q)
