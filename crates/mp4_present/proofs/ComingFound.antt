-- The samples that come in a walk are those that the function of file, movie and walk gives.
use Rattle.std.proofs.Common.{◌≡◌, ℕ, zero, suc, ◌+◌, ◌-◌, ◌^◌, ◌<◌, ◌≤◌, List, [], ◌∷◌, ◌++◌, Option, Some, length, take, drop, map, refl, sym, ap, subst, ◌∙◌, arith, append_assoc, slice_get}
use Rattle.std.specs.Prelude.{Contains, flat_map, option_map}
use Rattle.std.proofs.lemmas.List.{length-append, length-map, length-take, map-append}
use Rattle.std.proofs.lemmas.Option.{slice_get-map}
use Rattle.mp4_store.specs.words.Device.{range}
use Rattle.mp4_boxes.specs.format.Bytes.{sum_of}
use Rattle.mp4_boxes.proofs.Plain.{get_some, get_zip, some_is}
use Rattle.mp4_tables.specs.words.Accepted.{AreDistinct}
use Rattle.mp4_tables.specs.words.Keys.{key_seen, keys_seen}
use Rattle.mp4_tables.specs.words.Timed.{timed}
use Rattle.mp4_tables.specs.words.TablesSeen.{CursorSeen as TableView}
use Rattle.mp4_tables.specs.format.Tables.{tables_of}
use Rattle.mp4_tables.specs.declared.keys.Keys.{Keys}
use Rattle.mp4_tables.specs.declared.sample.SampleAt.{SampleAt}
use Rattle.mp4_tables.proofs.SampleLists.{timed_length}
use Rattle.mp4_tables.proofs.Sums.{timed_lasts}
use Rattle.mp4_frag.specs.format.FragmentSamples.{Part, duration_of, fragment_samples, part_samples, trex_for}
use Rattle.mp4_frag.specs.words.OwnTrafs.{PlacedTraf, note_of, own_in, placed_samples}
use Rattle.mp4_frag.specs.words.Walks.{samples_in}
use Rattle.mp4_frag.specs.words.FragmentsSeen.{CursorSeen as TrafView}
use Rattle.mp4_frag.proofs.OwnTied.{own_tied}
use Rattle.mp4_head.specs.format.Tree.{TrackTree, track_head_of, trexes_of}
use Rattle.mp4_present.specs.format.Presentation.{Track, max_samples}
use Rattle.mp4_present.specs.format.Denotes.{FileTree, file_parts, parts_of_track, placed_of, plain_of, presentation_of, sample_of, track_of}
use Rattle.mp4_present.specs.words.Coming.{coming, coming_behind, hand_coming, lasting, tables_coming, trafs_coming}
use Rattle.mp4_present.specs.words.InHand.{left_in_hand}
use Rattle.mp4_present.specs.words.Movies.{MovieSeen, HandAt, IsWalkOf, trex_at}
use Rattle.mp4_present.specs.words.OpenedMovie.{IsInfoOf, IsOpenedAs}
use Rattle.mp4_present.specs.words.OwnTrafs.{IsOwn}
use Rattle.mp4_present.specs.words.SamplesComing.{Comes, count_behind, due_behind, own_trafs, samples_behind, track_keys}
use Rattle.mp4_present.specs.declared.walking.in_hand.InHand.{InHand}
use Rattle.mp4_present.specs.declared.walking.in_hand.InHand.TheVariants as hands
use Rattle.mp4_present.specs.declared.walking.in_hand.Place.{Place}
use Rattle.mp4_present.specs.declared.walking.in_hand.Place.TheVariants.{Tables, Fragment}
use Rattle.mp4_present.specs.declared.movie.TrackTables.{TrackTables}
use Rattle.mp4_present.specs.declared.track_info.TrackInfo.{TrackInfo}
use Rattle.mp4_present.specs.declared.walking.Walk.{Walk}
use Rattle.mp4_present.proofs.KeysExtended.{distinct_keys}
use Rattle.mp4_present.proofs.MoofSound.{moof_sound}
use Rattle.mp4_present.proofs.OwnPlaced.{all_placed, contains_in, its_moof, lies_there, one_placed, placed_append, zip_got}
use Rattle.mp4_present.proofs.TrafInHand.{behind_split, count_more, due_more}
use Rattle.mp4_present.proofs.TrafTaken.{in_time, trex_there}

-- ---- lists

-- one of some numbers is no more than all of them together
one_of_sum : {A : Type 0} (f : A → ℕ) (xs : List A) (k : ℕ) (x : A) → slice_get xs k ≡ Some x → f x ≤ sum_of f xs
one_of_sum f [] k x e = absurd cc
one_of_sum f (y ∷ xs) zero x e = let same = ap f (some_is y x e) in omega (arith, same)
one_of_sum f (y ∷ xs) (suc k) x e = let more = one_of_sum f xs k x e in omega (arith, more)

drop_front : {A : Type 0} (n : ℕ) (xs ys : List A) → n ≡ length xs → drop n (xs ++ ys) ≡ ys
drop_front n xs ys e = ap (λ (k : ℕ). drop k (xs ++ ys)) e ∙ all xs
  where
    all : (us : List _) → drop (length us) (us ++ ys) ≡ ys
    all [] = refl
    all (u ∷ us) = all us

-- a track has at most four keys
few_keys : (keys : Keys) → length (keys_seen keys) ≤ 4
few_keys keys = omega (arith, length-map (take keys.count keys.named) key_seen, length-take keys.count keys.named, keys.few)

-- ---- a `traf` that is noted

module _ (file : List ℕ) (m : MovieSeen) (tree : FileTree) (t : TrackTree) (o : IsOpenedAs file m tree) (k : ℕ) (at : slice_get tree.movie.tracks k ≡ Some t) (info : TrackInfo) (info_at : slice_get m.tracks k ≡ Some info) where
  info_is : IsInfoOf file tree t info
  info_is = get_zip (IsInfoOf file tree) tree.movie.tracks m.tracks k t info o.tracks at info_at

  -- 32 bits hold the numbers of its samples
  few_samples : info.samples ≤ max_samples
  few_samples =
      let p = presentation_of file tree in
      let most = o.limits.samples in
      let one = one_of_sum (λ (u : Track). length u.samples) p.tracks k (track_of file (file_parts tree) t) (slice_get-map (track_of file (file_parts tree)) tree.movie.tracks k ∙ ap (option_map (track_of file (file_parts tree))) at) in
      let is = info_is.samples in
      omega (arith, most, one, is)

  -- all are those of its tables and of its `traf`s
  counted : (earlier later : List PlacedTraf) → own_trafs tree t ≡ earlier ++ later → info.samples ≡ count_behind t earlier + length (placed_samples later)
  counted earlier later split =
      let samples = info_is.samples ∙ length-map (placed_of (file_parts tree) t) (sample_of file) ∙ length-append (plain_of t) (fragment_samples (track_head_of t).id (file_parts tree)) in
      let own = ap length (sym (all_placed tree.movie (track_head_of t).id tree.fragments o.is_tree.fragments) ∙ ap placed_samples split ∙ placed_append earlier later) ∙ length-append (placed_samples earlier) (placed_samples later) in
      omega (arith, samples, own)

  next_coming : m.file_len < 2 ^ 64 → (earlier : List PlacedTraf) (next : PlacedTraf) (later : List PlacedTraf) → own_trafs tree t ≡ earlier ++ next ∷ later
      → samples_in (range file (note_of next).at (note_of next).len) next.base info.id (trex_at m k) (count_behind t earlier) (due_behind tree t earlier) (keys_seen info.keys) ≡ samples_behind tree t earlier (next ∷ [])
  next_coming short earlier next later split =
      let trexes = trexes_of tree.movie in
      let number = count_behind t earlier in
      let due = due_behind tree t earlier in
      let mine = placed_samples (next ∷ []) in
      let i = its_moof file m tree t earlier next later o split in
      let most = few_samples in
      let all = counted earlier (next ∷ later) split in
      let two = ap length (placed_append (next ∷ []) later) ∙ length-append mine (placed_samples later) in
      let one = ap length (one_placed next) in
      let room : number + length (part_samples next.part) < 2 ^ 32 = omega (arith, most, all, two, one) in
      let ends = in_time file m tree t earlier next later o k at split in
      let lasts = ap duration_of (one_placed next) in
      let fits : due + duration_of (part_samples next.part) < 2 ^ 64 = omega (arith, ends, lasts) in
      let distinct : AreDistinct (keys_seen info.keys) = subst AreDistinct (sym info_is.keys) (distinct_keys (tables_of t.table).groups (flat_map (λ (part : Part). part.groups) (parts_of_track (file_parts tree) t))) in
      let among : Contains (own_in trexes info.id i.x) next = subst (λ n. Contains (own_in trexes n i.x) next) (sym info_is.id) (contains_in (own_in trexes (track_head_of t).id i.x) next i.own) in
      let defaults : trex_for trexes info.id ≡ Some (trex_at m k) = ap (trex_for trexes) info_is.id ∙ trex_there file m tree t earlier next later o split k at short in
      ap (λ (bytes : List ℕ). samples_in bytes next.base info.id (trex_at m k) number due (keys_seen info.keys)) (sym (lies_there file m tree t earlier next later o split).1)
      ∙ own_tied (keys_seen info.keys) m.file_len info.id number due trexes o.hands_out.known i.x next (trex_at m k) (few_keys info.keys) distinct (moof_sound file m tree i.among.front i.x i.among.back o i.among.are short) among defaults room fits
      ∙ ap (λ ss. timed (keys_seen info.keys) number due ss) (sym (one_placed next)) ∙ ap (λ ks. timed ks number due mine) info_is.keys

  trafs_are : m.file_len < 2 ^ 64 → (earlier later : List PlacedTraf) → own_trafs tree t ≡ earlier ++ later → trafs_coming file m k info (count_behind t earlier) (due_behind tree t earlier) (map note_of later) ≡ samples_behind tree t earlier later
  trafs_are short earlier [] split = refl
  trafs_are short earlier (next ∷ later) split =
      let mine = placed_samples (next ∷ []) in
      let first = samples_behind tree t earlier (next ∷ []) in
      let Rest : ℕ → ℕ → List SampleAt = λ number due. trafs_coming file m k info number due (map note_of later) in
      let is = next_coming short earlier next later split in
      let number : count_behind t earlier + length first ≡ count_behind t (earlier ++ next ∷ []) = ap (λ n. count_behind t earlier + n) (timed_length (track_keys tree t) (count_behind t earlier) (due_behind tree t earlier) mine) ∙ sym (count_more t earlier next) in
      let due : due_behind tree t earlier + lasting first ≡ due_behind tree t (earlier ++ next ∷ []) = ap (λ n. due_behind tree t earlier + n) (timed_lasts (track_keys tree t) (count_behind t earlier) (due_behind tree t earlier) mine) ∙ sym (due_more tree t earlier next) in
      (λ i. is i ++ Rest (count_behind t earlier + length (is i)) (due_behind tree t earlier + lasting (is i)))
      ∙ (λ i. first ++ Rest (number i) (due i))
      ∙ ap (λ ss. first ++ ss) (trafs_are short (earlier ++ next ∷ []) later (split ∙ sym (append_assoc earlier (next ∷ []) later)))
      ∙ sym (behind_split tree t earlier next later)

-- ---- what is in hand

hand_is : (m : MovieSeen) (w : Walk) (p : Place) (hand : InHand) → HandAt m w p hand → left_in_hand hand ≡ hand_coming m w p
hand_is m w (Tables p) (hands.Tables c) h = ap (λ (v : TableView). left_in_hand (hands.Tables v)) h.2 ∙ ap (λ (found : Option TrackTables). tables_coming m found (Tables p)) (sym h.1)
hand_is m w (Fragment p) (hands.Fragment c) h = ap (λ (v : TrafView). left_in_hand (hands.Fragment v)) h
hand_is m w (Tables p) (hands.Fragment c) h = absurd h
hand_is m w (Fragment p) (hands.Tables c) h = absurd h

-- ---- all

pub comes_is_coming : (file : List ℕ) (m : MovieSeen) (tree : FileTree) (t : TrackTree) (w : Walk) (samples : List SampleAt) → IsWalkOf m w → IsOpenedAs file m tree → Comes file tree t m w samples → samples ≡ coming file m w
comes_is_coming file m tree t w samples i o k =
    let earlier = k.0 in
    let later = k.1 in
    let s = k.3.0 in
    let info = get_some m.tracks w.track i.goes_on.track in
    let own = zip_got (λ (t : TrackTree) own. IsOwn tree.movie (track_head_of t).id tree.fragments own) tree.movie.tracks m.own w.track t o.own s.is_track in
    let all = counted file m tree t o w.track s.is_track info.0 info.1 earlier later s.split in
    let left = s.left ∙ timed_length (track_keys tree t) (count_behind t earlier) (due_behind tree t earlier) (placed_samples later) in
    let number : info.0.samples - w.left ≡ count_behind t earlier = omega (arith, all, left) in
    let noted : own.0.trafs ≡ map note_of earlier ++ map note_of later = own.2.trafs ∙ ap (map note_of) s.split ∙ map-append note_of earlier later in
    let passed : w.next ≡ length (map note_of earlier) = s.place ∙ sym (length-map earlier note_of) in
    let rest : drop w.next own.0.trafs ≡ map note_of later = ap (drop w.next) noted ∙ drop_front w.next (map note_of earlier) (map note_of later) passed in
    let behind : coming_behind file m w (slice_get m.tracks w.track) (slice_get m.own w.track) ≡ samples_behind tree t earlier later =
    (λ j. coming_behind file m w (info.1 j) (own.1 j)) ∙ (λ j. trafs_coming file m w.track info.0 (number j) (s.due j) (rest j)) ∙ trafs_are file m tree t o w.track s.is_track info.0 info.1 i.goes_on.movie.short earlier later s.split in
    k.3.2 ∙ (λ j. hand_is m w w.place k.2 k.3.1 j ++ sym behind j)
