-- The next `traf` of a walk, read to its room.
use Rattle.std.proofs.Common.{◌≡◌, ℕ, ◌+◌, ◌≤◌, List, [], ◌∷◌, ◌++◌, Some, None, length, take, map, ⊎_elim, refl, sym, ap, subst, ◌∙◌, arith, slice_get}
use Rattle.std.specs.Prelude.{Bool, Option}
use Rattle.std.proofs.lemmas.List.{length-append}
use Rattle.mp4_store.specs.words.Device.{range}
use Rattle.mp4_boxes.specs.declared.refusal.Refusal.{Refusal}
use Rattle.mp4_boxes.specs.declared.refusal.Refusal.TheVariants as refusals
use Rattle.mp4_tables.specs.words.Timed.{timed}
use Rattle.mp4_tables.specs.declared.sample.SampleAt.{SampleAt}
use Rattle.mp4_frag.specs.format.FragmentSamples.{duration_of}
use Rattle.mp4_frag.specs.words.OwnTrafs.{OwnSeen, PlacedTraf, longest_of, note_of, placed_samples}
use Rattle.mp4_frag.specs.declared.next_traf.OwnTraf.{OwnTraf}
use Rattle.mp4_frag.proofs.RunsTied.{timed-append, duration-append}
use Rattle.mp4_head.specs.format.Tree.{TrackTree, track_head_of}
use Rattle.mp4_present.specs.format.Denotes.{FileTree, file_parts, first_due}
use Rattle.mp4_present.specs.words.OpenedMovie.{IsOpenedAs}
use Rattle.mp4_present.specs.words.OwnTrafs.{IsOwn}
use Rattle.mp4_present.specs.words.InHand.{left_in_hand}
use Rattle.mp4_present.specs.words.Movies.{MovieSeen, InHandOf}
use Rattle.mp4_present.specs.declared.walking.in_hand.InHand.{InHand}
use Rattle.mp4_present.specs.words.Reading.{RefusesRange}
use Rattle.mp4_present.specs.words.SamplesComing.{track_keys, count_behind, due_behind, samples_behind, own_trafs, StandsBefore, Comes, HoldsNext, Takes}
use Rattle.mp4_present.specs.declared.walking.Walk.{Walk}
use Rattle.mp4_present.proofs.OwnPlaced.{Follows, found_behind, none_behind, zip_got, placed_append, among_longest, lies_there}

-- ---- samples of a `traf` and of those behind it

pub due_more : (tree : FileTree) (t : TrackTree) (earlier : List PlacedTraf) (next : PlacedTraf) → due_behind tree t (earlier ++ next ∷ []) ≡ due_behind tree t earlier + duration_of (placed_samples (next ∷ []))
due_more tree t earlier next =
    ap (λ ss. first_due (file_parts tree) t + duration_of ss) (placed_append earlier (next ∷ [])) ∙ ap (λ n. first_due (file_parts tree) t + n) (duration-append (placed_samples earlier) (placed_samples (next ∷ [])))
    ∙ moved (first_due (file_parts tree) t) _ _
  where
    moved : (a b c : ℕ) → a + (b + c) ≡ a + b + c
    moved a b c = omega arith

pub count_more : (t : TrackTree) (earlier : List PlacedTraf) (next : PlacedTraf) → count_behind t (earlier ++ next ∷ []) ≡ count_behind t earlier + length (placed_samples (next ∷ []))
count_more t earlier next =
    let all = ap length (placed_append earlier (next ∷ [])) ∙ length-append (placed_samples earlier) (placed_samples (next ∷ [])) in
    omega (arith, all)

pub behind_split : (tree : FileTree) (t : TrackTree) (earlier : List PlacedTraf) (next : PlacedTraf) (later : List PlacedTraf)
    → samples_behind tree t earlier (next ∷ later) ≡ samples_behind tree t earlier (next ∷ []) ++ samples_behind tree t (earlier ++ next ∷ []) later
behind_split tree t earlier next later =
    let first = placed_samples (next ∷ []) in
    let more = placed_samples later in
    ap (timed (track_keys tree t) (count_behind t earlier) (due_behind tree t earlier)) (placed_append (next ∷ []) later) ∙ timed-append (track_keys tree t) (count_behind t earlier) (due_behind tree t earlier) first more
    ∙ (λ i. timed (track_keys tree t) (count_behind t earlier) (due_behind tree t earlier) first ++ timed (track_keys tree t) (sym (count_more t earlier next) i) (sym (due_more tree t earlier next) i) more)

-- ---- what is noted

-- what is answered for a track and a place among its `traf`s
abbrev pub FindsAt : MovieSeen → ℕ → ℕ → Option OwnTraf → Type 0
FindsAt m track place result = (own : OwnSeen) → slice_get m.own track ≡ Some own → result ≡ slice_get own.trafs place

module _ (file : List ℕ) (m : MovieSeen) (tree : FileTree) (t : TrackTree) (earlier later : List PlacedTraf) (w : Walk) (o : IsOpenedAs file m tree) (h : StandsBefore file tree t earlier later w) (result : Option OwnTraf) (finds : FindsAt m w.track w.next result) where
  is_noted : result ≡ slice_get (map note_of (earlier ++ later)) (length earlier)
  is_noted =
      let got = zip_got (λ (t : TrackTree) own. IsOwn tree.movie (track_head_of t).id tree.fragments own) tree.movie.tracks m.own w.track t o.own h.is_track in
      finds got.0 got.1 ∙ ap (λ ns. slice_get ns w.next) (got.2.trafs ∙ ap (map note_of) h.split) ∙ ap (slice_get (map note_of (earlier ++ later))) h.place

  -- it is that of the next one, and there is none where none is left
  pub found_next : (traf : OwnTraf) → result ≡ Some traf → Follows note_of traf later
  found_next traf e = found_behind note_of earlier later traf (sym is_noted ∙ e)

  pub found_none : result ≡ None → samples_behind tree t earlier later ≡ []
  found_none e = ap (samples_behind tree t earlier) (none_behind note_of earlier later (sym is_noted ∙ e))

module _ (file : List ℕ) (m : MovieSeen) (tree : FileTree) (t : TrackTree) (earlier later : List PlacedTraf) (w : Walk) (o : IsOpenedAs file m tree) (h : StandsBefore file tree t earlier later w) (traf : OwnTraf) (f : Follows note_of traf later) where
  own_split : own_trafs tree t ≡ earlier ++ f.next ∷ f.more
  own_split = h.split ∙ ap (λ ps. earlier ++ ps) f.are

  -- it lies in the file, and there is room for it
  pub there : traf.at + traf.len ≤ length file
  there =
      let lies = (lies_there file m tree t earlier f.next f.more o own_split).0 in
      subst (λ (n : OwnTraf). n.at + n.len ≤ length file) f.is lies

  pub fits : traf.len ≤ length w.bytes.items
  fits =
      let room = h.room in
      let all = ap longest_of own_split in
      let own = among_longest earlier f.next f.more in
      let len = ap (λ (n : OwnTraf). n.len) f.is in
      omega (arith, room, all, own, len)

  -- the walk holds it, once it was read
  pub holds_next : (now : Walk) (bytes : List ℕ) → now.track ≡ w.track → now.traf ≡ traf → now.used ≡ traf.len → now.bytes.items ≡ bytes → length bytes ≡ length w.bytes.items
      → take traf.len bytes ≡ range file traf.at traf.len → now.due ≡ w.due → now.left ≡ w.left → now.next ≡ w.next + 1 → HoldsNext file tree t earlier f.next f.more now
  holds_next now bytes track is used items same read due left at =
      let lies = (lies_there file m tree t earlier f.next f.more o own_split).1 in
      let place = h.place in
      record {
        is_track = subst (λ (k : ℕ). slice_get tree.movie.tracks k ≡ Some t) (sym track) h.is_track;
        split = own_split;
        place = omega (arith, at, place);
        due = due ∙ h.due;
        left = left ∙ h.left ∙ ap (λ ps. length (samples_behind tree t earlier ps)) f.are;
        room = ap (λ xs. length xs) items ∙ same ∙ h.room;
        traf = is ∙ sym f.is;
        bytes = (λ i. take (used i) (items i)) ∙ read ∙ (λ i. range file (sym f.is i).at (sym f.is i).len) ∙ sym lies;
      }

-- ---- why nothing is loaded

pub range_unchanged : (file_length room at len reads reads_after : ℕ) (r : Refusal) → len ≤ room → at + len ≤ file_length → RefusesRange file_length room at len reads reads_after r → r ≡ refusals.StoreChanged → ⊥
range_unchanged file_length room at len reads reads_after r short there w e =
    ⊎_elim (λ late. omega (arith, late, short)) (λ late. omega (arith, late, there)) (subst (λ x. RefusesRange file_length room at len reads reads_after x) e w)

-- ---- what is loaded

-- it has some
pub comes_next : (file : List ℕ) (tree : FileTree) (t : TrackTree) (m : MovieSeen) (samples : List SampleAt) (earlier : List PlacedTraf) (next : PlacedTraf) (more : List PlacedTraf) (w : Walk) (some : Bool)
    → samples ≡ samples_behind tree t earlier (next ∷ more) → Takes file tree t earlier next more m w some → Comes file tree t m w samples
comes_next file tree t m samples earlier next more w some e h =
    (earlier ++ next ∷ [], more, h.0, (h.1.0, h.1.1, e ∙ behind_split tree t earlier next more ∙ ap (λ ss. ss ++ samples_behind tree t (earlier ++ next ∷ []) more) (sym h.1.2)))

pub later_is : (tree : FileTree) (t : TrackTree) (samples : List SampleAt) (earlier later : List PlacedTraf) (next : PlacedTraf) (more : List PlacedTraf) → later ≡ next ∷ more → samples ≡ samples_behind tree t earlier later → samples ≡ samples_behind tree t earlier (next ∷ more)
later_is tree t samples earlier later next more e f = f ∙ ap (samples_behind tree t earlier) e

-- where no sample is left, none comes
pub no_samples : (file : List ℕ) (tree : FileTree) (t : TrackTree) (earlier later : List PlacedTraf) (w : Walk) → StandsBefore file tree t earlier later w → w.left ≡ 0 → samples_behind tree t earlier later ≡ []
no_samples file tree t earlier later w h none = empty (samples_behind tree t earlier later) (sym h.left ∙ none)
  where
    empty : (ss : List SampleAt) → length ss ≡ 0 → ss ≡ []
    empty [] e = refl
    empty (s ∷ ss) e = absurd cc

-- nothing is left in hand, and no sample behind it
pub ends_empty : (file : List ℕ) (tree : FileTree) (t : TrackTree) (m : MovieSeen) (earlier later : List PlacedTraf) (hand : InHand) (w : Walk) → samples_behind tree t earlier later ≡ [] → StandsBefore file tree t earlier later w → InHandOf m w hand
    → left_in_hand hand ≡ [] → Comes file tree t m w []
ends_empty file tree t m earlier later hand w none h i z = (earlier, later, hand, (h, i, sym (ap (λ ss. ss ++ samples_behind tree t earlier later) z ∙ none)))
