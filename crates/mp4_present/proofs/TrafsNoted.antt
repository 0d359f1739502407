-- The `traf`s that have samples of each track, noted one `moof` after the other.
use Rattle.std.proofs.Common.{◌≡◌, ℕ, ◌==◌, max, true, false, List, [], ◌∷◌, ◌++◌, length, map, refl, sym, ap, subst, ◌∙◌, Some, None}
use Rattle.std.specs.Prelude.{pos, codes, nat_eq}
use Rattle.std.specs.List.{AllByRecursion, AllZip, list_any}
use Rattle.std.proofs.lemmas.List.{append-nil, map-append}
use Rattle.mp4_boxes.specs.format.Box.{Box, file_container}
use Rattle.mp4_boxes.specs.format.Children.{Holds, of_kind}
use Rattle.mp4_boxes.specs.declared.rule.Rule.TheVariants.{File}
use Rattle.mp4_boxes.proofs.Plain.{head_is, nat_eq_other, nil_cons, not_and_is_true, or_is_false, tail_is}
use Rattle.mp4_frag.specs.format.Fragments.{FragmentTree}
use Rattle.mp4_frag.specs.format.FragmentSamples.{Part}
use Rattle.mp4_frag.specs.words.Judged.{AreTrexesOf, IsSoundMoof, AreMovedOn, TrackSeen, track_seen, tree_of}
use Rattle.mp4_frag.specs.words.RunsJudged.{children_of}
use Rattle.mp4_frag.specs.words.OwnTrafs.{OwnSeen, AreApart, own_in, note_of, longest_of, with_notes, noted_in}
use Rattle.mp4_frag.specs.declared.state.TrackState.{TrackState}
use Rattle.mp4_frag.specs.declared.trex.Trex.{Trex}
use Rattle.mp4_head.specs.format.Head as heads
use Rattle.mp4_head.specs.format.Tree.{TrackTree, MovieTree, IsSoundMovie, are_distinct, track_head_of, trexes_of}
use Rattle.mp4_head.proofs.Distinct.{map_twice}
use Rattle.mp4_present.specs.words.Movies.{IsWhole}
use Rattle.mp4_present.specs.words.Outline.{IsNextFragment, IsOutline, box_at}
use Rattle.mp4_present.specs.words.OwnTrafs.{AreOwn, AreOwnBehind, IsOwn, none_noted, own_of}
use Rattle.mp4_present.specs.words.PassedMoofs.{IsBegun}
use Rattle.mp4_present.specs.words.Passing.{seen_behind, parts_behind}
use Rattle.mp4_present.specs.declared.opening.outline.Outline.{Outline}
use Rattle.mp4_present.specs.declared.reading.TopBox.{TopBox}
use Rattle.mp4_present.proofs.MoofBehind.{trexes_behind}
use Rattle.mp4_present.proofs.MoofsPassed.{IsUnderWay, IsRead, under_way_first, all_passed, read_is, next_passed, next_fragments}
use Rattle.mp4_present.proofs.OwnPlaced.{own_append, longest_append}

-- ---- the IDs of tracks

abbrev ids_of : List TrackState → List ℕ
ids_of states = map (λ (s : TrackState). s.id) states

others_apart : (id : ℕ) (states : List TrackState) → list_any (nat_eq id) (ids_of states) ≡ false → AllByRecursion (λ (s : TrackState). (s.id == id) ≡ false) states
others_apart id [] n = tt
others_apart id (s ∷ states) n =
    let b = or_is_false (nat_eq id s.id) (list_any (nat_eq id) (ids_of states)) n in
    (nat_eq_other id s.id b.0, others_apart id states b.1)

all_apart : (states : List TrackState) → are_distinct (ids_of states) ≡ true → AreApart states
all_apart [] d = tt
all_apart (s ∷ states) d =
    let a = not_and_is_true (list_any (nat_eq s.id) (ids_of states)) (are_distinct (ids_of states)) d in
    (others_apart s.id states a.0, all_apart states a.1)

-- those of the tracks of a sound movie differ
states_apart : (movie : MovieTree) (parts : List Part) (states : List TrackState) → IsSoundMovie movie → map track_seen states ≡ map (seen_behind movie parts) movie.tracks → AreApart states
states_apart movie parts states sound seen = all_apart states (ap are_distinct ids ∙ sound.track_ids)
  where
    ids : ids_of states ≡ map (λ (t : heads.TrackHead). t.id) (map track_head_of movie.tracks)
    ids =
        sym (map_twice track_seen (λ (x : TrackSeen). x.id) states) ∙ ap (map (λ (x : TrackSeen). x.id)) seen
        ∙ map_twice (seen_behind movie parts) (λ (x : TrackSeen). x.id) movie.tracks ∙ sym (map_twice track_head_of (λ (t : heads.TrackHead). t.id) movie.tracks)

-- ---- one `moof`

one_of : (movie : MovieTree) (id : ℕ) (fs : List FragmentTree) (f : FragmentTree) → own_of movie id (fs ++ f ∷ []) ≡ own_of movie id fs ++ own_in (trexes_of movie) id f
one_of movie id fs f = own_append movie id fs (f ∷ []) ∙ ap (λ ps. own_of movie id fs ++ ps) (append-nil (own_in (trexes_of movie) id f))

one_noted : (movie : MovieTree) (id : ℕ) (fs : List FragmentTree) (f : FragmentTree) (o : OwnSeen) → IsOwn movie id fs o → IsOwn movie id (fs ++ f ∷ []) (with_notes (own_in (trexes_of movie) id f) o)
one_noted movie id fs f o are =
    let more = own_in (trexes_of movie) id f in
    record {
      trafs = ap (λ ns. ns ++ map note_of more) are.trafs ∙ sym (map-append note_of (own_of movie id fs) more) ∙ ap (map note_of) (sym (one_of movie id fs f));
      longest = ap (λ n. max n (longest_of more)) are.longest ∙ sym (longest_append (own_of movie id fs) more) ∙ ap longest_of (sym (one_of movie id fs f));
    }

-- what was noted of each of these tracks behind these `moof`s
abbrev AreOwnOf : MovieTree → List FragmentTree → List TrackTree → List OwnSeen → Type 0
AreOwnOf movie fs ts owns = AllZip (λ (t : TrackTree) (o : OwnSeen). IsOwn movie (track_head_of t).id fs o) ts owns

first_own : (movie : MovieTree) (parts : List Part) (ts : List TrackTree) (states : List TrackState) → map track_seen states ≡ map (seen_behind movie parts) ts → AreOwnOf movie [] ts (map (λ _. none_noted) states)
first_own movie parts [] [] e = tt
first_own movie parts [] (s ∷ states) e = absurd (nil_cons (track_seen s) (map track_seen states) (sym e))
first_own movie parts (t ∷ ts) [] e = absurd (nil_cons (seen_behind movie parts t) (map (seen_behind movie parts) ts) e)
first_own movie parts (t ∷ ts) (s ∷ states) e =
    (record { trafs = refl; longest = refl }, first_own movie parts ts states (tail_is (track_seen s) (seen_behind movie parts t) (map track_seen states) (map (seen_behind movie parts) ts) e))

more_own : (movie : MovieTree) (fs : List FragmentTree) (f : FragmentTree) (parts : List Part) (ts : List TrackTree) (states : List TrackState) (owns : List OwnSeen) → map track_seen states ≡ map (seen_behind movie parts) ts → AreOwnOf movie fs ts owns
    → AreOwnOf movie (fs ++ f ∷ []) ts (noted_in (trexes_of movie) f states owns)
more_own movie fs f parts [] states (o ∷ owns) e a = absurd a
more_own movie fs f parts [] [] [] e a = tt
more_own movie fs f parts [] (s ∷ states) [] e a = tt
more_own movie fs f parts (t ∷ ts) states [] e a = absurd a
more_own movie fs f parts (t ∷ ts) [] (o ∷ owns) e a = absurd (nil_cons (seen_behind movie parts t) (map (seen_behind movie parts) ts) e)
more_own movie fs f parts (t ∷ ts) (s ∷ states) (o ∷ owns) e a =
    let id : s.id ≡ (track_head_of t).id = ap (λ (x : TrackSeen). x.id) (head_is (track_seen s) (seen_behind movie parts t) (map track_seen states) (map (seen_behind movie parts) ts) e) in (
      subst (λ (n : ℕ). IsOwn movie (track_head_of t).id (fs ++ f ∷ []) (with_notes (own_in (trexes_of movie) n f) o)) (sym id) (one_noted movie (track_head_of t).id fs f o a.0),
      more_own movie fs f parts ts states owns (tail_is (track_seen s) (seen_behind movie parts t) (map track_seen states) (map (seen_behind movie parts) ts) e) a.1,
    )

-- ---- the loop over all `moof`s

abbrev pub OwnsUnderWay : List ℕ → MovieTree → List Box → ℕ → ℕ → List TrackState → ℕ → List OwnSeen → Type 0
OwnsUnderWay file movie boxes at most states room owns = (u : IsUnderWay file movie boxes at most states room) × AreOwn movie u.fragments owns

pub owns_first : (file : List ℕ) (movie : MovieTree) (boxes known : List Box) (o : Outline) (states : List TrackState) (room : ℕ) (owns : List OwnSeen) → Holds File (file_container file) known → IsOutline file known o → IsBegun file movie boxes states room → owns ≡ map (λ _. none_noted) states
    → OwnsUnderWay file movie boxes 0 o.longest states room owns
unfolding under_way_first
owns_first file movie boxes known o states room owns holds i b e =
    (under_way_first file movie boxes known o states room holds i b, subst (AreOwnOf movie [] movie.tracks) (sym e) (first_own movie (parts_behind movie []) movie.tracks states b.behind.seen))

module _ (file : List ℕ) (movie : MovieTree) (boxes : List Box) (at most : ℕ) (start states : List TrackState) (whole room : ℕ) (owns : List OwnSeen) (b : IsBegun file movie boxes start whole)
    (u : OwnsUnderWay file movie boxes at most states room owns) (top : TopBox) (w : IsWhole (length file) top) (n : IsNextFragment file at u.0.left.boxes (Some top)) (m : Box) (bytes : List ℕ) (len L : ℕ) (r : IsRead file top m bytes len) (e : L ≡ length file) where
  pub owns_next : (new : List TrackState) (less : ℕ) (noted : List OwnSeen) → ((trexes : List Trex) → AreTrexesOf trexes states → IsSoundMoof L trexes states (tree_of m)) → AreMovedOn m.offset (pos m.offset) (of_kind (codes "traf") (children_of m)) states new room less
      → ((trexes : List Trex) → AreTrexesOf trexes states → AreApart states → noted ≡ noted_in trexes (tree_of m) states owns)
      → OwnsUnderWay file movie boxes top.header.end most new less noted
  owns_next new less noted sound moved own =
      let f = tree_of (box_at file top) in
      let v = next_passed file movie boxes at most start states whole room b u.0 top w n m bytes len L r e new less sound moved in
      let fs = next_fragments file movie boxes at most start states whole room b u.0 top w n m bytes len L r e new less sound moved in
      let seen = u.0.behind.seen in
      let all = own (trexes_of movie) (trexes_behind file movie u.0.fragments states room u.0.behind) (states_apart movie (parts_behind movie u.0.fragments) states b.movie_is.sound seen) in
      let there = all ∙ ap (λ (x : Box). noted_in (trexes_of movie) (tree_of x) states owns) (read_is file top m bytes len r) in
      let more = more_own movie u.0.fragments f (parts_behind movie u.0.fragments) movie.tracks states owns seen u.1 in
      (v, subst (λ (xs : List FragmentTree). AreOwn movie xs noted) (sym fs) (subst (AreOwn movie (u.0.fragments ++ f ∷ [])) (sym there) more))

pub all_noted : (file : List ℕ) (movie : MovieTree) (boxes : List Box) (at most : ℕ) (states : List TrackState) (room : ℕ) (owns : List OwnSeen) → (u : OwnsUnderWay file movie boxes at most states room owns) → IsNextFragment file at u.0.left.boxes None
    → AreOwnBehind file movie boxes states owns
unfolding all_passed
all_noted file movie boxes at most states room owns u n =
    (all_passed file movie boxes at most states room u.0 n, u.1)
