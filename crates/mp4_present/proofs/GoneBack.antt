-- A walk that goes back to its mark.
use Rattle.std.proofs.Common.{rules, ◌≡◌, ℕ, ◌+◌, ◌-◌, ◌*◌, ◌≤◌, Bool, true, false, List, [], ◌∷◌, ◌++◌, length, take, drop, Option, None, Some, refl, sym, ap, subst, ◌∙◌, arith, min, length-append}
use Rattle.std.specs.Prelude.{⊤, codes, nat_eq, is_none, if◌then◌else◌}
use Rattle.std.proofs.lemmas.Bool.{eqb-true}
use Rattle.std.specs.List.{slice_get}
use Rattle.std.proofs.lemmas.List.{length-take, length-drop, drop_min}
use Rattle.mp4_store.specs.words.Device.{range}
use Rattle.mp4_tables.specs.declared.sample.SampleAt.{SampleAt}
use Rattle.mp4_tables.specs.words.Keys.{keys_seen}
use Rattle.mp4_frag.specs.words.OwnTrafs.{PlacedTraf, traf_steps}
use Rattle.mp4_frag.specs.declared.next_traf.OwnTraf.{OwnTraf}
use Rattle.mp4_tables.specs.words.TablesSeen.{CursorSeen as TableView}
use Rattle.mp4_frag.specs.words.FragmentsSeen.{CursorSeen as TrafView}
use Rattle.mp4_frag.specs.words.Walks.{samples_coming, samples_in}
use Rattle.mp4_head.specs.format.Tree.{TrackTree}
use Rattle.mp4_present.specs.words.SamplesComing.{StandsBefore, HoldsNext, HoldsLast, Comes, Takes, samples_behind, due_behind}
use Rattle.mp4_present.specs.format.Denotes.{FileTree}
use Rattle.mp4_present.specs.words.GoingBack.{GoesBackTo, HoldsMarked, IsMarkInHand, again_from, back_steps, set_back, turned_back}
use Rattle.mp4_present.specs.words.InHand.{AreLast, left_in_hand, Follows, IsPlaceOf}
use Rattle.mp4_present.specs.words.Movies.{MovieSeen, IsWalkOf, HasMarked, IsRest, StandsAt, HandAt, InHandOf, mark_of, traf_box, traf_bytes, trex_at, all_in_traf}
use Rattle.mp4_present.specs.words.WalkSteps.{steps_to, trafs_steps, way_through, MayTake, TakesOn}
use Rattle.mp4_present.specs.declared.walking.in_hand.InHand.{InHand}
use Rattle.mp4_present.specs.declared.walking.in_hand.InHand.TheVariants as hands
use Rattle.mp4_present.specs.declared.walking.in_hand.Place.{Place}
use Rattle.mp4_present.specs.declared.walking.in_hand.Place.TheVariants.{Tables, Fragment}
use Rattle.mp4_present.specs.declared.track_info.TrackInfo.{TrackInfo}
use Rattle.mp4_present.specs.declared.walking.Due.{Due}
use Rattle.mp4_present.specs.declared.walking.Mark.{Mark}
use Rattle.mp4_present.specs.declared.walking.Walk.{Walk}
use Rattle.mp4_present.proofs.HeldAgain.{held_as, held_bytes, stands_moved}
use Rattle.mp4_present.proofs.TrafInHand.{behind_split}
use Rattle.mp4_present.proofs.OwnPlaced.{lies_there}
use Rattle.mp4_present.specs.words.OpenedMovie.{IsOpenedAs}
use Rattle.mp4_present.proofs.WalkCopied.{hand_one}
use Rattle.mp4_present.proofs.WalkPlaces.{marked_here, stands_moved as place_moved, rest_moved}

-- ---- what a walk has marked matters for nothing else

hand_marked : (m : MovieSeen) (w : Walk) (k : Mark) (q : Place) (hand : InHand) → HandAt m w q hand → HandAt m (record w { mark = k }) q hand
hand_marked m w k (Tables q) (hands.Tables c) h = h
hand_marked m w k (Fragment q) (hands.Fragment c) h = h
hand_marked m w k (Tables q) (hands.Fragment c) h = absurd h
hand_marked m w k (Fragment q) (hands.Tables c) h = absurd h

pub comes_marked : (file : List ℕ) (tree : FileTree) (t : TrackTree) (m : MovieSeen) (w : Walk) (k : Mark) (samples : List SampleAt) → Comes file tree t m w samples → Comes file tree t m (record w { mark = k }) samples
comes_marked file tree t m w k samples h = (h.0, h.1, h.2, (stands_moved file tree t h.0 h.1 w w.place k h.3.0, hand_marked m w k w.place h.2 h.3.1, h.3.2))

pub way_marked : (t : TrackTree) (w : Walk) (k : Mark) (q : Place) → way_through t (record w { mark = k }) q ≡ way_through t w q
way_marked t w k (Tables q) = refl
way_marked t w k (Fragment q) = refl

pub may_marked : (file : List ℕ) (tree : FileTree) (t : TrackTree) (w : Walk) (k : Mark) (n : ℕ) → MayTake file tree t w n → MayTake file tree t (record w { mark = k }) n
may_marked file tree t w k n h =
    let same = way_marked t w k w.place in
    record {
      earlier = h.earlier;
      later = h.later;
      stands = stands_moved file tree t h.earlier h.later w w.place k h.stands;
      inside = subst (λ (n : ℕ). steps_to w.place ≤ n) (sym same) h.inside;
      left = h.left ∙ ap (λ (n : ℕ). n + 2 * trafs_steps h.later) (sym same);
    }

-- ---- set back

none_is : (d : Due) → ◌≡◌ {A = Option Due} None (Some d) → ⊥
none_is d e = cc

module _ (file : List ℕ) (m : MovieSeen) (tree : FileTree) (t : TrackTree) (begun w : Walk) (n : ℕ) (g : GoesBackTo file tree t m begun w n) (i : IsWalkOf m w) where
  track_is : w.track ≡ begun.track
  track_is = sym i.mark.track ∙ ap (λ (k : Mark). k.track) g.mark

  before_is : w.mark.before ≡ begun.before
  before_is = ap (λ (k : Mark). k.before) g.mark

  traf_is : w.mark.traf ≡ begun.traf
  traf_is = ap (λ (k : Mark). k.traf) g.mark

  room_is : (earlier later : List PlacedTraf) → StandsBefore file tree t earlier later begun → length w.bytes.items ≡ length begun.bytes.items
  room_is earlier later s = g.stands.room ∙ sym s.room

  place_is : w.mark.place ≡ begun.place
  place_is = ap (λ (k : Mark). k.place) g.mark

  marked : HasMarked m w begun.before begun.place
  marked = subst (λ (k : Mark). HasMarked m w k.before k.place) g.mark i.mark.place

  -- what was in hand is at hand
  abbrev AtHand : Option Due → Type 0
  AtHand None = ⊤
  AtHand (Some d) = w.next ≡ w.mark.next

  module _ (earlier later : List PlacedTraf) (s : StandsBefore file tree t earlier later begun) where
    same_bytes : (d : Due) (q : Place) → HasMarked m w (Some d) q → w.next ≡ w.mark.next → begun.before ≡ Some d → traf_bytes w ≡ traf_bytes begun
    same_bytes d (Tables p) k at b = absurd k
    same_bytes d (Fragment p) k at b = held_bytes file tree t g.earlier g.later w w.before earlier later begun begun.before d d (k at).0 b g.stands.held s.held (at ∙ ap (λ (k : Mark). k.next) g.mark)

    same_traf : (d : Due) (q : Place) → HasMarked m w (Some d) q → w.next ≡ w.mark.next → begun.before ≡ Some d → traf_box w ≡ traf_box begun
    same_traf d (Tables p) k at b = absurd k
    same_traf d (Fragment p) k at b =
        let bytes = same_bytes d (Fragment p) k at b in
        let traf = (k at).1 ∙ traf_is in
        λ j. record { kind = codes "traf"; offset = (traf j).at; header = 0; payload = bytes j }

    held_back : (b : Option Due) (q : Place) → HasMarked m w b q → AtHand b → begun.before ≡ b → HoldsLast file tree t earlier later (set_back w) b
    held_back None q k at e = tt
    held_back (Some d) (Tables p) k at e = absurd k
    held_back (Some d) (Fragment p) k at e =
        held_as file tree t earlier later begun (set_back w)
        (record { track = track_is; next = ap (λ (k : Mark). k.next) g.mark; traf = (k at).1 ∙ traf_is; room = room_is earlier later s; bytes = same_bytes d (Fragment p) k at e })
        (Some d) (subst (λ (b : Option Due). HoldsLast file tree t earlier later begun b) e s.held)

    stands_back : AtHand begun.before → StandsBefore file tree t earlier later (set_back w)
    stands_back at = record {
      is_track = g.stands.is_track;
      split = s.split;
      place = ap (λ (k : Mark). k.next) g.mark ∙ s.place;
      due = ap (λ (k : Mark). k.due) g.mark ∙ s.due;
      left = ap (λ (k : Mark). k.left) g.mark ∙ s.left;
      room = g.stands.room;
      held = subst (λ (b : Option Due). HoldsLast file tree t earlier later (set_back w) b) (sym before_is) (held_back begun.before begun.place marked at refl);
    }

    hand_back : (b : Option Due) (q : Place) (hand : InHand) → HasMarked m w b q → AtHand b → begun.before ≡ b → HandAt m begun q hand → HandAt m (set_back w) q hand
    hand_back None (Tables p) (hands.Tables c) k at e h = (h.0, ap (slice_get m.tables) track_is ∙ h.1, h.2)
    hand_back (Some d) (Fragment p) (hands.Fragment c) k at e h =
        let bytes = sym (same_bytes d (Fragment p) k at e) in
        h ∙ (λ j. record { payload = bytes j; place = p })
    hand_back None (Fragment p) hand k at e h = absurd k
    hand_back (Some d) (Tables p) hand k at e h = absurd k
    hand_back None (Tables p) (hands.Fragment c) k at e h = absurd h
    hand_back (Some d) (Fragment p) (hands.Tables c) k at e h = absurd h

    way_back : (b : Option Due) (q : Place) → HasMarked m w b q → AtHand b → begun.before ≡ b → way_through t (set_back w) q ≡ way_through t begun q
    way_back None (Tables p) k at e = refl
    way_back (Some d) (Fragment p) k at e = ap traf_steps (same_traf d (Fragment p) k at e)
    way_back None (Fragment p) k at e = absurd k
    way_back (Some d) (Tables p) k at e = absurd k

  pub comes_back : AtHand begun.before → (samples : List SampleAt) → Comes file tree t m begun samples → Comes file tree t m (set_back w) samples
  comes_back at samples h = (
    h.0,
    h.1,
    h.2,
    (
      stands_back h.0 h.1 h.3.0 at,
      subst (λ (q : Place). HandAt m (set_back w) q h.2) (sym place_is) (hand_back h.0 h.1 h.3.0 begun.before begun.place h.2 marked at refl h.3.1),
      h.3.2,
    ),
  )

  pub may_back : AtHand begun.before → (k : ℕ) → MayTake file tree t begun k → MayTake file tree t (set_back w) k
  may_back at k h =
      let way : way_through t (set_back w) w.mark.place ≡ way_through t begun begun.place = ap (way_through t (set_back w)) place_is ∙ way_back h.earlier h.later h.stands begun.before begun.place marked at refl in
      let steps : steps_to w.mark.place ≡ steps_to begun.place = ap steps_to place_is in
      let inside = h.inside in
      let left = h.left in
      record {
        earlier = h.earlier;
        later = h.later;
        stands = stands_back h.earlier h.later h.stands at;
        inside = omega (arith, way, steps, inside);
        left = omega (arith, way, steps, left);
      }

  -- what was in hand is at hand, as the code finds it
  by_next : (b : Option Due) → w.next ≡ w.mark.next → AtHand b
  by_next None e = tt
  by_next (Some d) e = e

  by_choice : (v : Bool) → nat_eq w.next w.mark.next ≡ v → (if v then None else w.mark.before) ≡ None → AtHand begun.before
  by_choice true e n = by_next begun.before (eqb-true w.next w.mark.next e)
  by_choice false e n = subst (λ (b : Option Due). AtHand b) (sym (sym before_is ∙ n)) tt

  pub at_hand : again_from w ≡ None → AtHand begun.before
  at_hand n = by_choice (nat_eq w.next w.mark.next) refl n

  -- ---- read again

  holds_last : (d : Due) (earlier later : List PlacedTraf) (b : Option Due) → b ≡ Some d → HoldsLast file tree t earlier later begun b
      → (front : List PlacedTraf) × (last : PlacedTraf) × (earlier ≡ front ++ last ∷ []) × HoldsNext file tree t front last later (record begun { due = d.time; left = d.left })
  holds_last d earlier later None e h = absurd (none_is d e)
  holds_last d earlier later (Some b) e h = subst (λ (b : Due). (front : List PlacedTraf) × (last : PlacedTraf) × (earlier ≡ front ++ last ∷ []) × HoldsNext file tree t front last later (record begun { due = b.time; left = b.left })) (due_is b d e) h
    where
      due_is : (b d : Due) → ◌≡◌ {A = Option Due} (Some b) (Some d) → b ≡ d
      due_is b d e = cc

  -- the `traf` of the mark, as it was held
  pub holds_marked : (d : Due) (earlier later : List PlacedTraf) (s : StandsBefore file tree t earlier later begun) → w.mark.before ≡ Some d
      → (front : List PlacedTraf) × (last : PlacedTraf) × (earlier ≡ front ++ last ∷ []) × HoldsMarked file tree t front last later begun w d
  holds_marked d earlier later s b =
      let h = holds_last d earlier later begun.before (sym before_is ∙ b) s.held in (
        h.0,
        h.1,
        h.2,
        record {
          holds = h.3;
          traf = traf_is;
          next_is = ap (λ (k : Mark). k.next) g.mark;
          is_track = g.stands.is_track;
          room = room_is earlier later s;
          behind = record {
            due = ap (λ (k : Mark). k.due) g.mark ∙ s.due ∙ ap (due_behind tree t) h.2;
            left = ap (λ (k : Mark). k.left) g.mark ∙ s.left ∙ ap (λ (e : List PlacedTraf). length (samples_behind tree t e later)) h.2;
          };
        },
      )

  module _ (d : Due) (b : w.mark.before ≡ Some d) where
    begun_before : begun.before ≡ Some d
    begun_before = sym before_is ∙ b

    begun_rest : (c : Option Due) (q : Place) (hand : InHand) (info : TrackInfo) → c ≡ Some d → IsRest m begun c q → HandAt m begun q hand → slice_get m.tracks begun.track ≡ Some info → AreLast (all_in_traf m begun info d) (left_in_hand hand)
    begun_rest None q hand info e r h at = absurd (none_is d e)
    begun_rest (Some c) (Tables p) hand info e r h at = absurd r
    begun_rest (Some c) (Fragment p) (hands.Tables v) info e r h at = absurd h
    begun_rest (Some c) (Fragment p) (hands.Fragment v) info e r h at =
        subst (λ (x : Due). AreLast (all_in_traf m begun info x) (samples_coming v)) (same_is c d e) (subst (λ (v : TrafView). AreLast (all_in_traf m begun info c) (samples_coming v)) (sym h) (r info at))
      where
        same_is : (c d : Due) → ◌≡◌ {A = Option Due} (Some c) (Some d) → c ≡ d
        same_is c d e = cc

    module _ (samples : List SampleAt) (k : Comes file tree t m begun samples) (front : List PlacedTraf) (last : PlacedTraf) (is_last : k.0 ≡ front ++ last ∷ []) (first : Walk) (stands : StandsBefore file tree t (front ++ last ∷ []) k.1 first)
        (traf : first.traf ≡ begun.traf) (bytes : traf_bytes first ≡ traf_bytes begun) (track : first.track ≡ w.track)
        (info : TrackInfo) (at : slice_get m.tracks w.track ≡ Some info) (all : InHand) (is_all : InHandOf m first all) (whole : left_in_hand all ≡ all_in_traf m first info d)
        (own : left_in_hand all ≡ samples_behind tree t front (last ∷ [])) (had : d.left ≡ length (samples_behind tree t front (last ∷ k.1))) where
      xs : List SampleAt
      xs = all_in_traf m begun info d

      all_is : left_in_hand all ≡ all_in_traf m begun info d
      all_is = whole ∙ (λ j. samples_in (bytes j) (traf j).base info.id (trex_at m ((track ∙ track_is) j)) (info.samples - d.left) d.time (keys_seen info.keys))

      rest_is : AreLast (all_in_traf m begun info d) (left_in_hand k.2)
      rest_is = begun_rest begun.before begun.place k.2 info begun_before g.is_walk.rest k.3.1 (subst (λ (j : ℕ). slice_get m.tracks j ≡ Some info) track_is at)

      behind_is : samples_behind tree t k.0 k.1 ≡ samples_behind tree t (front ++ last ∷ []) k.1
      behind_is = ap (λ (e : List PlacedTraf). samples_behind tree t e k.1) is_last

      first_left : first.left ≡ length (samples_behind tree t k.0 k.1)
      first_left = stands.left ∙ ap (λ (ss : List SampleAt). length ss) (sym behind_is)

      both : length samples ≡ length (left_in_hand k.2) + length (samples_behind tree t k.0 k.1)
      both = ap (λ (ss : List SampleAt). length ss) k.3.2 ∙ length-append (left_in_hand k.2) (samples_behind tree t k.0 k.1)

      rest_long : length (left_in_hand k.2) ≡ length (left_in_hand all) - rest_is.0
      rest_long = ap (λ (ss : List SampleAt). length ss) rest_is.1 ∙ length-drop rest_is.0 (all_in_traf m begun info d) ∙ ap (λ (ss : List SampleAt). length ss - rest_is.0) (sym all_is)

      sum : d.left ≡ length (left_in_hand all) + first.left
      sum =
          let long = ap (λ (ss : List SampleAt). length ss) own in
          let behind = stands.left in
          let both = ap (λ (ss : List SampleAt). length ss) (behind_split tree t front last k.1) ∙ length-append (samples_behind tree t front (last ∷ [])) (samples_behind tree t (front ++ last ∷ []) k.1) in
          omega (arith, had, long, behind, both)

      pub count_holds : length samples ≤ d.left
      count_holds = let rest = rest_long in let two = both in let left = first_left in omega (arith, rest, two, left, sum)

      pub few_passed : d.left - length samples ≤ length (left_in_hand all)
      few_passed = let two = both in let left = first_left in omega (arith, two, left, sum)

      -- so the samples before the mark are passed, and those from it on are in hand
      pub comes_again : (passed : Walk) (hand later_hand : InHand) → InHandOf m first hand → InHandOf m passed later_hand → left_in_hand later_hand ≡ drop (d.left - length samples) (left_in_hand hand) → StandsBefore file tree t (front ++ last ∷ []) k.1 passed
          → Comes file tree t m passed samples
      comes_again passed hand later_hand is_hand is_later rest stands_later =
          let count : d.left - length samples ≡ min rest_is.0 (length (left_in_hand all)) = (let rest = rest_long in let two = both in let left = first_left in omega (arith, rest, two, left, sum)) in
          let same = ap left_in_hand (hand_one m first hand all is_hand is_all) in
          let left : left_in_hand later_hand ≡ left_in_hand k.2 =
          rest ∙ ap (drop (d.left - length samples)) same ∙ ap (λ (j : ℕ). drop j (left_in_hand all)) count ∙ drop_min rest_is.0 (left_in_hand all) ∙ ap (drop rest_is.0) all_is ∙ sym rest_is.1 in
          (front ++ last ∷ [], k.1, later_hand, (stands_later, is_later, k.3.2 ∙ ap (λ (ss : List SampleAt). ss ++ samples_behind tree t k.0 k.1) (sym left) ∙ ap (λ (ss : List SampleAt). left_in_hand later_hand ++ ss) behind_is))

again_rest : (n old mid near traf more steps way : ℕ) → steps ≤ way → n + steps ≡ way + 2 * more → near ≤ traf → mid ≡ old + near → (rest : ℕ) × (rest + near ≡ traf + 2 * more) × (mid + rest ≤ old + (n + traf))
again_rest n old mid near traf more steps way inside left within work = (traf - near + 2 * more, omega (arith, within), omega (arith, inside, left, within, work))

pub same_box : (w v : Walk) → w.traf ≡ v.traf → traf_bytes w ≡ traf_bytes v → traf_box w ≡ traf_box v
same_box w v traf bytes = λ i. record { kind = codes "traf"; offset = (traf i).at; header = 0; payload = bytes i }

-- the `traf` was read again, and its first sample is in hand
pub takes_again : (file : List ℕ) (tree : FileTree) (t : TrackTree) (m : MovieSeen) (begun first : Walk) (n old mid : ℕ) (h : MayTake file tree t begun n) (front : List PlacedTraf) (last : PlacedTraf) (some : Bool)
    → Takes file tree t front last h.later m first some → traf_box first ≡ traf_box begun → way_through t first first.place ≡ traf_steps (traf_box first) → steps_to first.place ≤ traf_steps (traf_box begun)
    → mid ≡ old + steps_to first.place → TakesOn file tree t (n + traf_steps (traf_box begun)) first old mid
takes_again file tree t m begun first n old mid h front last some takes box way within work =
    let through : way_through t first first.place ≡ traf_steps (traf_box begun) = way ∙ ap traf_steps box in
    let r = again_rest n old mid (steps_to first.place) (traf_steps (traf_box begun)) (trafs_steps h.later) (steps_to begun.place) (way_through t begun begun.place) h.inside h.left within work in (
      r.0,
      record {
        earlier = front ++ last ∷ [];
        later = h.later;
        stands = takes.1.0;
        inside = subst (λ (j : ℕ). steps_to first.place ≤ j) (sym through) within;
        left = r.1 ∙ ap (λ (j : ℕ). j + 2 * trafs_steps h.later) (sym through);
      },
      r.2,
    )

pub takes_marked : (file : List ℕ) (tree : FileTree) (t : TrackTree) (m : MovieSeen) (earlier : List PlacedTraf) (next : PlacedTraf) (later : List PlacedTraf) (w : Walk) (k : Mark) (some : Bool) → Takes file tree t earlier next later m w some
    → Takes file tree t earlier next later m (record w { mark = k }) some
takes_marked file tree t m earlier next later w k some h = (h.0, (stands_moved file tree t (earlier ++ next ∷ []) later w w.place k h.1.0, hand_marked m w k w.place h.0 h.1.1, h.1.2, h.1.3))

pub hand_of_marked : (m : MovieSeen) (w : Walk) (k : Mark) (hand : InHand) → InHandOf m w hand → InHandOf m (record w { mark = k }) hand
hand_of_marked m w k hand h = hand_marked m w k w.place hand h

-- later samples of what was in hand are in hand at a later place
pub hand_later : (m : MovieSeen) (w : Walk) (hand later : InHand) (p : Place) → InHandOf m w hand → Follows hand later → IsPlaceOf later p → InHandOf m (record w { place = p }) later
hand_later m w hand later p h f i = later_at w.place hand later p h f i
  where
    later_at : (q : Place) (a b : InHand) (p : Place) → HandAt m w q a → Follows a b → IsPlaceOf b p → HandAt m (record w { place = p }) p b
    later_at (Tables q) (hands.Tables a) (hands.Tables b) (Tables p) h f i = (h.0, h.1, (λ j. record { tables = (f.0 ∙ ap (λ (c : TableView). c.tables) h.2) j; place = sym i.0 j }))
    later_at (Fragment q) (hands.Fragment a) (hands.Fragment b) (Fragment p) h f i =
        λ j. record { payload = (f.0 ∙ ap (λ (c : TrafView). c.payload) h) j; place = sym i.0 j }
    later_at (Tables q) (hands.Fragment a) b p h f i = absurd h
    later_at (Fragment q) (hands.Tables a) b p h f i = absurd h
    later_at (Tables q) (hands.Tables a) (hands.Fragment b) p h f i = absurd f
    later_at (Fragment q) (hands.Fragment a) (hands.Tables b) p h f i = absurd f
    later_at (Tables q) (hands.Tables a) (hands.Tables b) (Fragment p) h f i = absurd i
    later_at (Fragment q) (hands.Fragment a) (hands.Fragment b) (Tables p) h f i = absurd i

-- ---- what was read again

module _ (file : List ℕ) (m : MovieSeen) (tree : FileTree) (t : TrackTree) (earlier : List PlacedTraf) (next : PlacedTraf) (later : List PlacedTraf) (begun w : Walk) (d : Due) (o : IsOpenedAs file m tree) (h : HoldsMarked file tree t earlier next later begun w d) where
  lies : (w.mark.traf.at + w.mark.traf.len ≤ length file) × (next.traf.payload ≡ range file w.mark.traf.at w.mark.traf.len)
  lies = subst (λ (n : OwnTraf). (n.at + n.len ≤ length file) × (next.traf.payload ≡ range file n.at n.len)) (sym (h.traf ∙ h.holds.traf)) (lies_there file m tree t earlier next later o h.holds.split)

  -- it lies in the file, and there is room for it
  pub there_again : w.mark.traf.at + w.mark.traf.len ≤ length file
  there_again = lies.0

  pub fits_again : w.mark.traf.len ≤ length w.bytes.items
  fits_again =
      let len = ap (λ (n : OwnTraf). n.len) (h.traf ∙ h.holds.traf) in
      let long = ap (λ (bs : List ℕ). length bs) h.holds.bytes in
      let taken = length-take begun.used begun.bytes.items in
      let room = h.room in
      omega (arith, len, long, taken, room)

  -- it is held as it was
  pub holds_again : (now : Walk) (bytes : List ℕ) → now.track ≡ w.track → now.traf ≡ w.mark.traf → now.used ≡ w.mark.traf.len → now.bytes.items ≡ bytes → length bytes ≡ length w.bytes.items
      → take w.mark.traf.len bytes ≡ range file w.mark.traf.at w.mark.traf.len → now.due ≡ d.time → now.left ≡ d.left → now.next ≡ w.mark.next → HoldsNext file tree t earlier next later now
  holds_again now bytes track traf used items same read due left at = record {
    is_track = subst (λ (k : ℕ). slice_get tree.movie.tracks k ≡ Some t) (sym track) h.is_track;
    split = h.holds.split;
    place = at ∙ h.next_is ∙ h.holds.place;
    due = due ∙ h.holds.due;
    left = left ∙ h.holds.left;
    room = ap (λ (xs : List ℕ). length xs) items ∙ same ∙ h.room ∙ h.holds.room;
    traf = traf ∙ h.traf ∙ h.holds.traf;
    bytes = (λ i. take (used i) (items i)) ∙ read ∙ sym lies.1;
  }

  pub bytes_again : (now : Walk) → HoldsNext file tree t earlier next later now → traf_bytes now ≡ traf_bytes begun
  bytes_again now holds = holds.bytes ∙ sym h.holds.bytes

  pub traf_again : (now : Walk) → HoldsNext file tree t earlier next later now → now.traf ≡ begun.traf
  traf_again now holds = holds.traf ∙ sym h.holds.traf

  pub box_again : (now : Walk) → HoldsNext file tree t earlier next later now → traf_box now ≡ traf_box begun
  box_again now holds = λ i. record { kind = codes "traf"; offset = (traf_again now holds i).at; header = 0; payload = bytes_again now holds i }

-- what is read again is the `traf` of the mark
pub marked_before : (w : Walk) (d : Due) → again_from w ≡ Some d → w.mark.before ≡ Some d
marked_before w d e = by_choice (nat_eq w.next w.mark.next) e
  where
    by_choice : (v : Bool) → (if v then None else w.mark.before) ≡ Some d → w.mark.before ≡ Some d
    by_choice true e = absurd (none_is d e)
    by_choice false e = e

pub back_is : (begun w : Walk) (d : Due) → again_from w ≡ Some d → back_steps begun w ≡ traf_steps (traf_box begun)
back_is begun w d e = ap (λ (b : Option Due). if is_none b then 0 else traf_steps (traf_box begun)) e

-- ---- a walk that was set back

module _ (m : MovieSeen) (w : Walk) (i : IsWalkOf m w) where
  abbrev AtMark : Option Due → Type 0
  AtMark None = ⊤
  AtMark (Some d) = w.next ≡ w.mark.next

  at_by_next : (b : Option Due) → w.next ≡ w.mark.next → AtMark b
  at_by_next None e = tt
  at_by_next (Some d) e = e

  at_by_choice : (v : Bool) → nat_eq w.next w.mark.next ≡ v → (if v then None else w.mark.before) ≡ None → AtMark w.mark.before
  at_by_choice true e n = at_by_next w.mark.before (eqb-true w.next w.mark.next e)
  at_by_choice false e n = subst (λ (b : Option Due). AtMark b) (sym n) tt

  stands_there : (b : Option Due) (q : Place) → HasMarked m w b q → AtMark b → StandsAt m (set_back w) q
  stands_there None (Tables p) k at = k
  stands_there None (Fragment p) k at = absurd k
  stands_there (Some d) (Tables p) k at = absurd k
  stands_there (Some d) (Fragment p) k at = (k at).2

  rest_there : (b : Option Due) (q : Place) → HasMarked m w b q → AtMark b → IsRest m (set_back w) b q
  rest_there None (Tables p) k at = tt
  rest_there None (Fragment p) k at = absurd k
  rest_there (Some d) (Tables p) k at = absurd k
  rest_there (Some d) (Fragment p) k at = (k at).3

  pub walk_back : (n : ℕ) → again_from w ≡ None → IsWalkOf m (record (set_back w) { mark = mark_of (set_back w) n })
  walk_back n e =
      let at = at_by_choice (nat_eq w.next w.mark.next) refl e in
      marked_here m (set_back w) n (record { movie = i.goes_on.movie; track = i.goes_on.track }) (stands_there w.mark.before w.mark.place i.mark.place at) (rest_there w.mark.before w.mark.place i.mark.place at)

  -- ---- turned back

  turned_kind : (e : IsMarkInHand w) (b c : Option Due) (q r : Place) → w.before ≡ b → w.mark.before ≡ c → HasMarked m w c r → StandsAt m w q → IsRest m w b q → HasMarked m (turned_back w) b q
  turned_kind e None c (Tables p) r eb ec k s rest = s
  turned_kind e None c (Fragment p) r eb ec k s rest = absurd rest
  turned_kind e (Some d) c (Tables p) r eb ec k s rest = absurd rest
  turned_kind e (Some d) None (Fragment p) r eb ec k s rest = absurd (none_both (sym (ap is_none eb) ∙ e.1 ∙ ap is_none ec))
    where
      none_both : false ≡ true → ⊥
      none_both n = absurd cc
  turned_kind e (Some d) (Some f) (Fragment p) (Tables r) eb ec k s rest = absurd k
  turned_kind e (Some d) (Some f) (Fragment p) (Fragment r) eb ec k s rest =
      λ same. (ec ∙ sym (k e.0).0 ∙ eb, refl, s, rest)

  pub walk_turned : IsMarkInHand w → IsWalkOf m (turned_back w)
  walk_turned e =
      let at = at_by_next w.mark.before e.0 in
      let next = e.0 in
      let place = stands_there w.mark.before w.mark.place i.mark.place at in
      let rest = rest_there w.mark.before w.mark.place i.mark.place at in
      record {
        goes_on = record { movie = i.goes_on.movie; track = i.goes_on.track };
        place = place_moved m (set_back w) w.mark.place (mark_of w w.mark.to_come) w.mark.place place;
        rest = rest_moved m (set_back w) w.mark.place (mark_of w w.mark.to_come) w.mark.before w.mark.place rest;
        mark = record { track = refl; behind = omega (arith, next); place = turned_kind e w.before w.mark.before w.place w.mark.place refl refl i.mark.place i.place i.rest };
      }

  pub none_again : w.next ≡ w.mark.next → again_from w ≡ None
  none_again e = ap (λ (v : Bool). if v then None else w.mark.before) (let same : nat_eq w.next w.mark.next ≡ true = search rules in same)
