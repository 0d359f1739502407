-- What is due behind the front of a `moof`.
use Rattle.std.proofs.Common.{◌≡◌, ℕ, ◌==◌, List, [], ◌∷◌, ◌++◌, Option, Some, None, find, length, map, inl, inr, refl, sym, ap, subst, ◌∙◌, arith}
use Rattle.std.proofs.lemmas.List.Elements.{Contains-append_right}
use Rattle.std.specs.Prelude.{Contains, option_map, IfSome, ◌⊎◌}
use Rattle.mp4_boxes.specs.format.Box.{Box}
use Rattle.mp4_boxes.specs.declared.fault.Fault.{Fault}
use Rattle.mp4_boxes.specs.declared.refusal.Refusal.{Refusal}
use Rattle.mp4_boxes.specs.declared.refusal.Refusal.TheVariants as refusals
use Rattle.mp4_frag.proofs.SeenLists.{find_map}
use Rattle.mp4_frag.specs.words.Judged.{IsSoundFront, TrackSeen, track_seen, tree_of}
use Rattle.mp4_frag.specs.words.Tracking.{StandsBehind, TellsRefused}
use Rattle.mp4_frag.specs.declared.state.TrackState.{TrackState}
use Rattle.mp4_head.specs.format.Tree.{MovieTree, trexes_of}
use Rattle.mp4_present.specs.format.FaultNumbers.{Tells, box_up_to}
use Rattle.mp4_present.specs.words.FaultSearches.{TellsBehind}
use Rattle.mp4_present.specs.words.NumbersTold.{ComesNext, IsPlain, TellsTraf}
use Rattle.mp4_present.specs.words.PassedMoofs.{IsBegun}
use Rattle.mp4_present.specs.words.Passing.{parts_behind}
use Rattle.mp4_present.specs.declared.faults.FaultNumbers.{FaultNumbers}
use Rattle.mp4_present.specs.declared.faults.FaultNumbers.TheVariants as numbers
use Rattle.mp4_present.proofs.FaultGaps.{found_there}
use Rattle.mp4_present.proofs.MoofBehind.{passes_front, trexes_behind}
use Rattle.mp4_present.proofs.PartsBehind.{tracked}

-- a box between others
among : (xs ys : List Box) (b : Box) → Contains (xs ++ b ∷ ys) b
among xs ys b = Contains-append_right xs (b ∷ ys) b (0, omega arith, refl)

-- ---- what is due

module _ (file : List ℕ) (movie : MovieTree) (boxes : List Box) (start states : List TrackState) (whole L room : ℕ) (moof : Box) (b : IsBegun file movie boxes start whole) (n : ComesNext file movie moof room states) (e : L ≡ length file) where
  -- what goes with a `traf` of the `moof` is what is due there
  tells_gap : (place : ℕ) (told : FaultNumbers) (traf : Box) (after : List TrackState) → StandsBehind L moof states room traf after → TellsTraf traf after L place told → Tells file place told
  tells_gap place (numbers.Gap track due found) traf after s f =
      let front = tree_of (box_up_to traf.offset moof) in
      let sound = s.sound (trexes_of movie) (trexes_behind file movie n.earlier states room n.behind) in
      let now = passes_front file movie n.earlier (box_up_to traf.offset moof) states after room s.less b.movie_is n.behind (subst (λ (k : ℕ). IsSoundFront k (trexes_of movie) front) e sound) s.moved in
      let ps = parts_behind movie (n.earlier ++ front ∷ []) in
      let seen : find (λ (s : TrackSeen). s.id == track) (map track_seen after) ≡ Some (track_seen f.state) = find_map track_seen (λ (s : TrackSeen). s.id == track) after ∙ ap (option_map track_seen) f.found_state in
      let t = tracked movie ps track (map track_seen after) (track_seen f.state) now seen in
      let m = b.movie_is in
      let x = n.next in
      record {
        before = n.before;
        moof = moof;
        stands = x.stands;
        is_moof = x.is_moof;
        movie = movie;
        is_moov = x.is_moov;
        movie_tree = m.tree;
        movie_sound = m.sound;
        tables_sound = m.tables_sound;
        tables_fit = m.tables_fit;
        earlier = n.earlier;
        earlier_moofs = x.earlier_moofs;
        traf = traf;
        says = f.says moof (s.front ++ traf ∷ s.later, s.tiles, among s.front s.later traf);
        front = front;
        is_front = refl;
        trees = n.behind.trees;
        front_tiles = sound.tiles;
        front_trafs = sound.trafs;
        t = t.tree;
        has_track = found_there _ movie.tracks t.tree t.among;
        is_track = t.same;
        due_is = f.due_is ∙ ap (λ (s : TrackSeen). s.time) (sym t.seen);
      }
  tells_gap place (numbers.Counts counted wanted) traf after s f = tt
  tells_gap place (numbers.Outside at size told) traf after s f = (f.0 ∙ e, rw (← e) f.1)

-- what the companion of the check was told of the fault is what is due there
pub tells_refused : (file : List ℕ) (L : ℕ) (start states : List TrackState) (whole room : ℕ) (moof : Box) (f : Fault) (told : Option FaultNumbers) → L ≡ length file → ((movie : MovieTree) (boxes : List Box) → IsBegun file movie boxes start whole → ComesNext file movie moof room states)
    → (told ≡ None) ⊎ TellsRefused (λ traf tracks file_length place. IfSome told (TellsTraf traf tracks file_length place)) L moof states room f → TellsBehind file start whole told (refusals.Fault f)
tells_refused file L start states whole room moof f None e n r = tt
tells_refused file L start states whole room moof f (Some told) e n (inl none) = absurd cc
tells_refused file L start states whole room moof f (Some told) e n (inr r) = λ movie boxes b. tells_gap file movie boxes start states whole L room moof b (n movie boxes b) e f.offset told r.0 r.1 r.2 r.3

-- nothing was told
pub untold : (file : List ℕ) (start : List TrackState) (whole : ℕ) (told : Option FaultNumbers) (r : Refusal) → told ≡ None → TellsBehind file start whole told r
untold file start whole told (refusals.Fault f) e = rw e tt
untold file start whole told refusals.Memory e = tt
untold file start whole told refusals.StoreFailed e = tt
untold file start whole told refusals.StoreChanged e = tt
untold file start whole told refusals.WriteFailed e = tt
untold file start whole told refusals.NoSuchTrack e = tt

-- what goes by no fragments is told as it is
pub tells_plain : (file : List ℕ) (file_length place : ℕ) (told : FaultNumbers) → file_length ≡ length file → IsPlain file_length told → Tells file place told
tells_plain file file_length place (numbers.Gap track due found) e f = absurd f
tells_plain file file_length place (numbers.Counts counted wanted) e f = tt
tells_plain file file_length place (numbers.Outside at size told) e f = (f.0 ∙ e, rw (← e) f.1)

pub traf_plain : (traf : Box) (states : List TrackState) (L place : ℕ) (told : FaultNumbers) → IsPlain L told → TellsTraf traf states L place told
traf_plain traf states L place (numbers.Gap track due found) f = absurd f
traf_plain traf states L place (numbers.Counts counted wanted) f = f
traf_plain traf states L place (numbers.Outside at size told) f = f
