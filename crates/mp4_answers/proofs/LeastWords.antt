-- What is left of two presentations the same, where their sample descriptions are: what is the same without some things, and without others, is the same without those that are among both, if timing is among both or neither.
use Rattle.std.proofs.Common.{◌≡◌, ℕ, suc, Bool, true, false, ◌&&◌, List, [], ◌∷◌, length, refl, sym, ◌∙◌}
use Rattle.std.specs.Prelude.{map, ℤ}
use Rattle.std.specs.List.{AllZip}
use Rattle.mp4_head.specs.format.Head.{Kept, Media, TrackHead, MovieHead}
use Rattle.mp4_present.specs.format.Presentation.{Sample, Track, Presentation}
use Rattle.mp4_content.specs.format.Reduced.{first_offset, is_at_end, reduce}
use Rattle.mp4_content.specs.declared.without.Without.{Without}
use Rattle.mp4_content.specs.format.Agreeing.{AllAgree, SamplesAgree, MediaAgree, TrackHeadsAgree, MovieHeadsAgree, TracksAgree}
use Rattle.mp4_content.proofs.Agreed.{reduce_is_exact, same_descriptions, type_of_left}
use Rattle.mp4_answers.specs.format.CompareHeadline.{descriptions_in}
use Rattle.mp4_answers.proofs.WordSets.{common}
use Rattle.mp4_boxes.proofs.Plain.{and_is_true, head_is, tail_is}

-- what stays without the words of both stays without those of one
either : {P : Type 0} (a b : Bool) → (a ≡ false → P) → (b ≡ false → P) → (a && b) ≡ false → P
either true b f g e = g e
either false b f g e = f refl

either_at : {P : Type 0} (a b c : Bool) → ((a && c) ≡ false → P) → ((b && c) ≡ false → P) → ((a && b) && c) ≡ false → P
either_at true b c f g e = g e
either_at false b c f g e = f refl

pub false_in_both : (a b : Bool) → a ≡ b → (a && b) ≡ false → (a ≡ false) × (b ≡ false)
false_in_both true b same e = (same ∙ e, e)
false_in_both false b same e = (refl, sym same)

module _ (k m : Without) (timed : k.timing ≡ m.timing) where
  off : (k.timing && m.timing) ≡ false → (k.timing ≡ false) × (m.timing ≡ false)
  off = false_in_both k.timing m.timing timed

  samples_agree : (count : ℕ) (first other : ℤ) (n : ℕ) (a b : Sample) → SamplesAgree k count first other n a b → SamplesAgree m count first other n a b → SamplesAgree (common k m) count first other n a b
  samples_agree count first other n a b g h = record {
    duration = λ t. either_at k.ends m.ends (is_at_end count n) (g.duration (off t).0) (h.duration (off t).1);
    offset = λ t. either k.origins m.origins (g.offset (off t).0) (h.offset (off t).1);
    moved = λ t o. g.moved (off t).0 (and_is_true k.origins m.origins o).0;
    description = g.description;
    bytes = g.bytes;
    sync = g.sync;
    flags = either k.flags m.flags g.flags h.flags;
    groups = either k.groups m.groups g.groups h.groups;
  }

  all_samples_agree : (count : ℕ) (first other : ℤ) (n : ℕ) (xs ys : List Sample) → AllAgree k count first other n xs ys → AllAgree m count first other n xs ys → AllAgree (common k m) count first other n xs ys
  all_samples_agree count first other n [] [] g h = tt
  all_samples_agree count first other n [] (y ∷ ys) g h = absurd g
  all_samples_agree count first other n (x ∷ xs) [] g h = absurd g
  all_samples_agree count first other n (x ∷ xs) (y ∷ ys) g h = (samples_agree count first other n x y g.0 h.0, all_samples_agree count first other (suc n) xs ys g.1 h.1)

  media_agree : (a b : Media) → a.descriptions ≡ b.descriptions → MediaAgree k a b → MediaAgree m a b → MediaAgree (common k m) a b
  media_agree a b same g h =
      let kind = type_of_left a.handler b.handler true g.left_handler in
      record {
        timescale = either k.timing m.timing g.timescale h.timescale;
        language = g.language;
        extended_languages = g.extended_languages;
        header = g.header;
        creation = either k.times m.times g.creation h.creation;
        modification = either k.times m.times g.modification h.modification;
        handler = either k.labels m.labels g.handler h.handler;
        left_handler = g.left_handler;
        descriptions = same_descriptions (common k m) a.handler b.handler a.descriptions b.descriptions kind same;
      }

  track_heads_agree : (a b : TrackHead) → a.media.descriptions ≡ b.media.descriptions → TrackHeadsAgree k a b → TrackHeadsAgree m a b → TrackHeadsAgree (common k m) a b
  track_heads_agree a b same g h = record {
    flags = either k.roles m.roles g.flags h.flags;
    enabled = g.enabled;
    id = either k.ids m.ids g.id h.id;
    layer = either k.roles m.roles g.layer h.layer;
    alternate_group = either k.roles m.roles g.alternate_group h.alternate_group;
    volume = g.volume;
    matrix = g.matrix;
    width = g.width;
    height = g.height;
    creation = either k.times m.times g.creation h.creation;
    modification = either k.times m.times g.modification h.modification;
    edits = either k.edits m.edits g.edits h.edits;
    kept = either k.metadata m.metadata g.kept h.kept;
    other_kept = g.other_kept;
    media = media_agree a.media b.media same g.media h.media;
    group_descriptions = either k.groups m.groups g.group_descriptions h.group_descriptions;
  }

  movie_heads_agree : (a b : MovieHead) → MovieHeadsAgree k a b → MovieHeadsAgree m a b → MovieHeadsAgree (common k m) a b
  movie_heads_agree a b g h = record {
    timescale = either k.timing m.timing g.timescale h.timescale;
    rate = g.rate;
    volume = g.volume;
    matrix = g.matrix;
    creation = either k.times m.times g.creation h.creation;
    modification = either k.times m.times g.modification h.modification;
    kept = either k.metadata m.metadata g.kept h.kept;
    other_kept = g.other_kept;
  }

  tracks_agree : (a b : Track) → a.head.media.descriptions ≡ b.head.media.descriptions → TracksAgree k a b → TracksAgree m a b → TracksAgree (common k m) a b
  tracks_agree a b same g h = record {
    start = λ t. either k.origins m.origins (g.start (off t).0) (h.start (off t).1);
    head = track_heads_agree a.head b.head same g.head h.head;
    samples = all_samples_agree (length a.samples) (first_offset a.samples) (first_offset b.samples) 0 a.samples b.samples g.samples h.samples;
  }

  abbrev descriptions_of : List Track → List (List Kept)
  descriptions_of tracks = map (λ (t : Track). t.head.media.descriptions) tracks

  all_tracks_agree : (xs ys : List Track) → descriptions_of xs ≡ descriptions_of ys → AllZip (TracksAgree k) xs ys → AllZip (TracksAgree m) xs ys → AllZip (TracksAgree (common k m)) xs ys
  all_tracks_agree [] [] same g h = tt
  all_tracks_agree [] (y ∷ ys) same g h = absurd g
  all_tracks_agree (x ∷ xs) [] same g h = absurd g
  all_tracks_agree (x ∷ xs) (y ∷ ys) same g h = (
    tracks_agree x y (head_is x.head.media.descriptions y.head.media.descriptions (descriptions_of xs) (descriptions_of ys) same) g.0 h.0,
    all_tracks_agree xs ys (tail_is x.head.media.descriptions y.head.media.descriptions (descriptions_of xs) (descriptions_of ys) same) g.1 h.1,
  )

  module _ (p q : Presentation) (same : descriptions_in p ≡ descriptions_in q) (e : reduce k p ≡ reduce k q) (f : reduce m p ≡ reduce m q) where
    pub same_in_common : reduce (common k m) p ≡ reduce (common k m) q
    same_in_common =
        let g = (reduce_is_exact k p q).0 e in
        let h = (reduce_is_exact m p q).0 f in
        (reduce_is_exact (common k m) p q).1 (record {
          movie = movie_heads_agree p.movie q.movie g.movie h.movie;
          tracks = all_tracks_agree p.tracks q.tracks same g.tracks h.tracks;
        })
