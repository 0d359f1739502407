-- Walks over the samples of a track: how they begin, and what they have in hand.
use Rattle.std.proofs.Common.{◌≡◌, ℕ, ◌<◌, List, length, Option, None, Some, refl, sym, ap, subst, ◌∙◌, arith}
use Rattle.std.proofs.Math.Nat.{le_refl}
use Rattle.std.specs.List.{slice_get}
use Rattle.mp4_tables.specs.words.TablesSeen.{TablesSeen}
use Rattle.mp4_tables.specs.words.TablesSeen.{CursorSeen as TableView}
use Rattle.mp4_frag.specs.words.FragmentsSeen.{CursorSeen as TrafView}
use Rattle.mp4_frag.specs.words.PlacesIn.{IsPlaceIn}
use Rattle.mp4_frag.specs.words.Walks.{samples_coming}
use Rattle.mp4_present.specs.words.InHand.{AreLast, last_of_last, Follows, IsPlaceOf}
use Rattle.mp4_present.specs.declared.walking.in_hand.InHand.{InHand}
use Rattle.mp4_present.specs.declared.walking.in_hand.InHand.TheVariants as hands
use Rattle.mp4_present.specs.declared.walking.in_hand.Place.{Place}
use Rattle.mp4_present.specs.declared.walking.in_hand.Place.TheVariants.{Tables, Fragment}
use Rattle.mp4_present.specs.declared.walking.Due.{Due}
use Rattle.mp4_present.specs.declared.walking.Mark.{Mark}
use Rattle.mp4_present.specs.declared.walking.Walk.{Walk}
use Rattle.mp4_tables.specs.words.Accepted.{IsPlace}
use Rattle.mp4_tables.specs.declared.places.TablePlace.{TablePlace}
use Rattle.mp4_present.specs.words.Movies.{MovieSeen, IsMovie, GoesOn, IsWalkOf, IsMarkOf, HasMarked, IsRest, StandsAt, HandAt, InHandOf, table_bytes, all_in_traf, traf_hand, mark_of}
use Rattle.mp4_present.specs.declared.movie.TrackTables.{TrackTables}
use Rattle.mp4_boxes.proofs.Plain.{get_some}

-- ---- where a walk stands doesn't depend on where it stood, nor on what it has marked

abbrev pub moved : Walk → Place → Mark → Walk
moved w p k = record w { place = p; mark = k }

pub stands_moved : (m : MovieSeen) (w : Walk) (p : Place) (k : Mark) (q : Place) → StandsAt m w q → StandsAt m (moved w p k) q
stands_moved m w p k (Tables q) s = s
stands_moved m w p k (Fragment q) s = s

pub rest_moved : (m : MovieSeen) (w : Walk) (p : Place) (k : Mark) (b : Option Due) (q : Place) → IsRest m w b q → IsRest m (moved w p k) b q
rest_moved m w p k None (Tables q) r = tt
rest_moved m w p k None (Fragment q) r = absurd r
rest_moved m w p k (Some d) (Tables q) r = absurd r
rest_moved m w p k (Some d) (Fragment q) r = r

-- ---- what is marked

marks_placed : (m : MovieSeen) (w : Walk) (p : Place) (b : Option Due) (q : Place) → HasMarked m w b q → HasMarked m (record w { place = p }) b q
marks_placed m w p None (Tables q) r = r
marks_placed m w p None (Fragment q) r = absurd r
marks_placed m w p (Some d) (Tables q) r = absurd r
marks_placed m w p (Some d) (Fragment q) r = r

mark_placed : (m : MovieSeen) (w : Walk) (p : Place) → IsMarkOf m w → IsMarkOf m (record w { place = p })
mark_placed m w p i = record { track = i.track; behind = i.behind; place = marks_placed m w p w.mark.before w.mark.place i.place }

-- a mark of where the walk stands
marks_here : (m : MovieSeen) (w : Walk) (n : ℕ) (b : Option Due) (q : Place) → w.before ≡ b → StandsAt m w q → IsRest m w b q → HasMarked m (record w { mark = mark_of w n }) b q
marks_here m w n None (Tables q) e s r = s
marks_here m w n None (Fragment q) e s r = absurd r
marks_here m w n (Some d) (Tables q) e s r = absurd r
marks_here m w n (Some d) (Fragment q) e s r = λ same. (e, refl, s, r)

pub marked_here : (m : MovieSeen) (w : Walk) (n : ℕ) → GoesOn m w → StandsAt m w w.place → IsRest m w w.before w.place → IsWalkOf m (record w { mark = mark_of w n })
marked_here m w n g s r = record {
  goes_on = record { movie = g.movie; track = g.track };
  place = stands_moved m w w.place (mark_of w n) w.place s;
  rest = rest_moved m w w.place (mark_of w n) w.before w.place r;
  mark = record { track = refl; behind = le_refl w.next; place = marks_here m w n w.before w.place refl s r };
}

-- a walk that has gone past the `traf` of its mark
marks_past : (m : MovieSeen) (w now : Walk) → now.track ≡ w.track → now.mark ≡ w.mark → w.mark.next < now.next → (b : Option Due) (q : Place) → HasMarked m w b q → HasMarked m now b q
marks_past m w now track same past None (Tables q) s = (s.0, ap (slice_get m.tables) track ∙ s.1, s.2)
marks_past m w now track same past None (Fragment q) s = absurd s
marks_past m w now track same past (Some d) (Tables q) s = absurd s
marks_past m w now track same past (Some d) (Fragment q) s = λ at_mark.
    let next = ap (λ (k : Mark). k.next) same in absurd (omega (arith, past, at_mark, next))

pub marked_past : (m : MovieSeen) (w now : Walk) → now.track ≡ w.track → now.mark ≡ w.mark → w.next < now.next → IsMarkOf m w → IsMarkOf m now
marked_past m w now track same past i =
    let behind = i.behind in
    let next = ap (λ (k : Mark). k.next) same in
    record {
      track = ap (λ (k : Mark). k.track) same ∙ i.track ∙ sym track;
      behind = omega (arith, past, behind, next);
      place = subst (λ (k : Mark). HasMarked m now k.before k.place) (sym same) (marks_past m w now track same (omega (arith, past, behind)) w.mark.before w.mark.place i.place);
    }

-- a walk that holds a further `traf`
pub walk_past : (m : MovieSeen) (w now : Walk) → IsWalkOf m w → now.track ≡ w.track → now.mark ≡ w.mark → w.next < now.next → StandsAt m now now.place → IsRest m now now.before now.place → IsWalkOf m now
walk_past m w now i track same past stands rest = record {
  goes_on = record { movie = i.goes_on.movie; track = let inside = i.goes_on.track in omega (arith, track, inside) };
  place = stands;
  rest = rest;
  mark = marked_past m w now track same past i.mark;
}

-- ---- how a walk begins

-- a walk before the first sample of the tables
pub begun : (m : MovieSeen) (w : Walk) (p : TablePlace) (n : ℕ) → IsMovie m → w.track < length m.tracks → w.place ≡ Tables p → w.before ≡ None → w.mark ≡ mark_of w n
    → ((t : TrackTables) → slice_get m.tables w.track ≡ Some t → IsPlace (table_bytes m.moov t) t.tables p)
    → IsWalkOf m w
begun m w p n i lt at none mark place =
    let tables = i.each_tables in
    let t = get_some m.tables w.track (omega (arith, lt, tables)) in
    let stands : StandsAt m w (Tables p) = (t.0, t.1, place t.0 t.1) in
    record {
      goes_on = record { movie = i; track = lt };
      place = subst (λ (q : Place). StandsAt m w q) (sym at) stands;
      rest = subst (λ (b : Option Due). IsRest m w b w.place) (sym none) (subst (λ (q : Place). IsRest m w None q) (sym at) tt);
      mark = record {
        track = ap (λ (k : Mark). k.track) mark;
        behind = let next = ap (λ (k : Mark). k.next) mark in omega (arith, next);
        place = subst (λ (k : Mark). HasMarked m w k.before k.place) (sym mark) (subst (λ (b : Option Due). HasMarked m w b w.place) (sym none) (subst (λ (q : Place). HasMarked m w None q) (sym at) stands));
      };
    }

-- ---- how it goes on

stands_on : (m : MovieSeen) (w : Walk) (q : Place) (a b : InHand) (p : Place) → StandsAt m w q → HandAt m w q a → Follows a b → IsPlaceOf b p → StandsAt m w p
stands_on m w (Tables q) (hands.Tables a) (hands.Tables b) (Tables p) s h f i =
    (h.0, h.1, subst (λ (v : TablesSeen). IsPlace v.payload v.at p) (f.0 ∙ ap (λ (c : TableView). c.tables) h.2) i.1)
stands_on m w (Fragment q) (hands.Fragment a) (hands.Fragment b) (Fragment p) s h f i =
    (s.0, subst (λ (bytes : List ℕ). IsPlaceIn bytes p) (f.0 ∙ ap (λ (c : TrafView). c.payload) h) i.1)
stands_on m w (Tables q) (hands.Fragment a) b p s h f i = absurd h
stands_on m w (Fragment q) (hands.Tables a) b p s h f i = absurd h
stands_on m w (Tables q) (hands.Tables a) (hands.Fragment b) p s h f i = absurd f
stands_on m w (Fragment q) (hands.Fragment a) (hands.Tables b) p s h f i = absurd f
stands_on m w (Tables q) (hands.Tables a) (hands.Tables b) (Fragment p) s h f i = absurd i
stands_on m w (Fragment q) (hands.Fragment a) (hands.Fragment b) (Tables p) s h f i = absurd i

-- later samples of the last are the last
rest_on : (m : MovieSeen) (w : Walk) (d : Option Due) (q : Place) (a b : InHand) (p : Place) → IsRest m w d q → HandAt m w q a → Follows a b → IsPlaceOf b p → IsRest m w d p
rest_on m w None (Tables q) (hands.Tables a) (hands.Tables b) (Tables p) r h f i = tt
rest_on m w (Some d) (Fragment q) (hands.Fragment a) (hands.Fragment b) (Fragment p) r h f i = λ info at.
    let view : b ≡ traf_hand w p = λ j. record { payload = (f.0 ∙ ap (λ (c : TrafView). c.payload) h) j; place = sym i.0 j } in
    let later : AreLast (samples_coming (traf_hand w q)) (samples_coming (traf_hand w p)) =
    subst (λ (c : TrafView). AreLast (samples_coming c) (samples_coming (traf_hand w p))) h (subst (λ (c : TrafView). AreLast (samples_coming a) (samples_coming c)) view f.3) in
    last_of_last (all_in_traf m w info d) (samples_coming (traf_hand w q)) (samples_coming (traf_hand w p)) (r info at) later
rest_on m w None (Fragment q) a b p r h f i = absurd r
rest_on m w (Some d) (Tables q) a b p r h f i = absurd r
rest_on m w None (Tables q) (hands.Fragment a) b p r h f i = absurd h
rest_on m w (Some d) (Fragment q) (hands.Tables a) b p r h f i = absurd h
rest_on m w None (Tables q) (hands.Tables a) (hands.Fragment b) p r h f i = absurd f
rest_on m w (Some d) (Fragment q) (hands.Fragment a) (hands.Tables b) p r h f i = absurd f
rest_on m w None (Tables q) (hands.Tables a) (hands.Tables b) (Fragment p) r h f i = absurd i
rest_on m w (Some d) (Fragment q) (hands.Fragment a) (hands.Fragment b) (Tables p) r h f i = absurd i

-- a walk that goes on from a place of what was in hand
pub kept_on : (m : MovieSeen) (w : Walk) (a b : InHand) (p : Place) → IsWalkOf m w → InHandOf m w a → Follows a b → IsPlaceOf b p → IsWalkOf m (record w { place = p })
kept_on m w a b p i h f at = record {
  goes_on = record { movie = i.goes_on.movie; track = i.goes_on.track };
  place = stands_moved m w p w.mark p (stands_on m w w.place a b p i.place h f at);
  rest = rest_moved m w p w.mark w.before p (rest_on m w w.before w.place a b p i.rest h f at);
  mark = mark_placed m w p i.mark;
}
