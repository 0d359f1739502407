-- The way of a walk through what it has in hand: no place in it is farther, and from each the walk may take what is left of its steps.
use Rattle.std.proofs.Common.{◌≡◌, ℕ, ◌+◌, ◌-◌, ◌*◌, ◌≤◌, Bool, List, [], ◌∷◌, ◌++◌, length, Some, refl, sym, ap, subst, ◌∙◌, arith}
use Rattle.std.specs.Prelude.{codes}
use Rattle.std.specs.List.{slice_get}
use Rattle.mp4_boxes.specs.format.Box.{Box}
use Rattle.mp4_boxes.proofs.Plain.{get_every, get_zip}
use Rattle.mp4_tables.specs.words.Accepted.{IsAccepted, IsPlace, passed, rows_in, tables_at}
use Rattle.mp4_tables.specs.format.PlainSamples.{plain_samples}
use Rattle.mp4_tables.specs.format.Tables.{Tables, tables_of}
use Rattle.mp4_tables.specs.words.TablesSeen.{CursorSeen as TableView}
use Rattle.mp4_tables.specs.format.TableRows.{table_rows}
use Rattle.mp4_tables.specs.declared.places.TablesAt.{TablesAt}
use Rattle.mp4_tables.specs.declared.places.TablePlace.{TablePlace}
use Rattle.mp4_tables.proofs.Counts.{plain_length}
use Rattle.mp4_tables.proofs.Passed.{passed_within}
use Rattle.mp4_tables.proofs.PlaceLists.{count_is}
use Rattle.mp4_tables.proofs.TableRows.{rows_are}
use Rattle.mp4_frag.specs.words.OwnTrafs.{PlacedTraf, traf_steps}
use Rattle.mp4_frag.specs.words.FragmentsSeen.{CursorSeen as TrafView}
use Rattle.mp4_frag.specs.declared.next_traf.OwnTraf.{OwnTraf}
use Rattle.mp4_frag.specs.declared.places.TrafPlace.{TrafPlace}
use Rattle.mp4_frag.proofs.WalkBound.{place_said}
use Rattle.mp4_frag.specs.words.Walks.{boxes_in}
use Rattle.mp4_frag.specs.format.FragmentRows.{traf_rows, traf_length}
use Rattle.mp4_frag.specs.format.Fragments.{TrackFragment, track_fragment_of}
use Rattle.mp4_head.specs.format.Tree.{TrackTree}
use Rattle.mp4_present.specs.words.SamplesComing.{StandsBefore, HoldsNext, Takes, own_trafs}
use Rattle.mp4_present.specs.format.Denotes.{FileTree}
use Rattle.mp4_present.specs.words.InHand.{Follows, IsPlaceOf}
use Rattle.mp4_present.specs.words.Movies.{MovieSeen, IsMovie, IsWalkOf, LieIn, StandsAt, HandAt, InHandOf, table_bytes, traf_box, traf_bytes}
use Rattle.mp4_present.specs.words.OpenedMovie.{IsOpenedAs, AreTablesOf}
use Rattle.mp4_present.specs.words.WalkSteps.{steps_to, trafs_steps, table_way, way_through, walk_steps, MayTake, TakesOn}
use Rattle.mp4_present.specs.declared.walking.in_hand.InHand.{InHand}
use Rattle.mp4_present.specs.declared.walking.in_hand.InHand.TheVariants as hands
use Rattle.mp4_present.specs.declared.walking.in_hand.Place.{Place}
use Rattle.mp4_present.specs.declared.walking.in_hand.Place.TheVariants as places
use Rattle.mp4_present.specs.declared.walking.Walk.{Walk}
use Rattle.mp4_present.proofs.WalkCopied.{kept_before}
use Rattle.mp4_present.proofs.WalkPlaces.{kept_on}

-- ---- how far a place is

counted_far : (far rows count said samples : ℕ) → far ≤ rows + 3 * count → rows ≡ said → samples ≡ count → far ≤ said + 3 * samples
counted_far far rows count said samples within same counted = omega (arith, within, same, counted)

-- in tables that were accepted: their rows, and three times their samples
in_tables : (payload : List ℕ) (at : TablesAt) (t : Tables) (p : TablePlace) → IsAccepted payload at → tables_at payload at ≡ t → IsPlace payload at p → passed p ≤ table_rows t + 3 * length (plain_samples t)
in_tables payload at t p ok is place =
    let counted : length (plain_samples t) ≡ at.sizes.rows.count = ap (λ (ts : Tables). length (plain_samples ts)) (sym is) ∙ plain_length ok.surroundings (tables_at payload at) ok.fit ∙ count_is payload at in
    counted_far (passed p) (rows_in at) at.sizes.rows.count (table_rows t) (length (plain_samples t)) (passed_within payload at p place) (rows_are payload at ok.have ∙ ap table_rows is) counted

-- no place in what a walk has in hand is farther than the way through it
pub no_farther : (file : List ℕ) (m : MovieSeen) (tree : FileTree) (t : TrackTree) (w : Walk) (p : Place) → IsOpenedAs file m tree → IsMovie m → slice_get tree.movie.tracks w.track ≡ Some t → StandsAt m w p → steps_to p ≤ way_through t w p
unfolding table_way
no_farther file m tree t w (places.Tables p) o i at s =
    let accepted = (get_every (LieIn m.moov) m.tables w.track s.0 s.1 i.tables).accepted in
    let same = get_zip (AreTablesOf m.moov) tree.movie.tracks m.tables w.track t s.0 o.tables at s.1 in
    in_tables (table_bytes m.moov s.0) s.0.tables (tables_of t.table) p accepted (ap (λ bytes. tables_at bytes s.0.tables) same.bytes ∙ same.says) s.2
no_farther file m tree t w (places.Fragment p) o i at s = place_said (traf_box w) p s.1

-- ---- a later place in what is in hand

between : (a b c d : ℕ) → a ≡ b → a ≤ c → d ≡ c → b ≤ d
between a b c d e h f = omega (arith, e, h, f)

-- it is no nearer, and the way through all is the same
ahead_at : (m : MovieSeen) (t : TrackTree) (w : Walk) (q : Place) (a b : InHand) (p : Place) → HandAt m w q a → Follows a b → IsPlaceOf b p → (steps_to q ≤ steps_to p) × (way_through t w p ≡ way_through t w q)
ahead_at m t w (places.Tables q) (hands.Tables a) (hands.Tables b) (places.Tables p) h f i =
    (between (passed a.place) (passed q) (passed b.place) (passed p) (ap (λ (c : TableView). passed c.place) h.2) f.1 (ap passed i.0), refl)
ahead_at m t w (places.Fragment q) (hands.Fragment a) (hands.Fragment b) (places.Fragment p) h f i =
    (between a.place.passed q.passed b.place.passed p.passed (ap (λ (c : TrafView). c.place.passed) h) f.1 (ap (λ (x : TrafPlace). x.passed) i.0), refl)
ahead_at m t w (places.Tables q) (hands.Fragment a) b p h f i = absurd h
ahead_at m t w (places.Fragment q) (hands.Tables a) b p h f i = absurd h
ahead_at m t w (places.Tables q) (hands.Tables a) (hands.Fragment b) p h f i = absurd f
ahead_at m t w (places.Fragment q) (hands.Fragment a) (hands.Tables b) p h f i = absurd f
ahead_at m t w (places.Tables q) (hands.Tables a) (hands.Tables b) (places.Fragment p) h f i = absurd i
ahead_at m t w (places.Fragment q) (hands.Fragment a) (hands.Fragment b) (places.Tables p) h f i = absurd i

pub ahead : (m : MovieSeen) (t : TrackTree) (w : Walk) (a b : InHand) (p : Place) → InHandOf m w a → Follows a b → IsPlaceOf b p → (steps_to w.place ≤ steps_to p) × (way_through t w p ≡ way_through t w w.place)
ahead m t w a b p h f i = ahead_at m t w w.place a b p h f i

pub same_way : (t : TrackTree) (w : Walk) (p : Place) → way_through t (record w { place = p }) p ≡ way_through t w p
same_way t w (places.Tables p) = refl
same_way t w (places.Fragment p) = refl

kept_rest : (n old new near far way more : ℕ) → near ≤ far → far ≤ way → n + near ≡ way + more → new ≡ old + (far - near) → (rest : ℕ) × (rest + far ≡ way + more) × (new + rest ≤ old + n)
kept_rest n old new near far way more up within left work = (way - far + more, omega (arith, within), omega (arith, up, within, left, work))

-- A walk that goes on from a later place of what it has in hand took the steps to there, and may take the others.
pub keeps_on : (file : List ℕ) (tree : FileTree) (t : TrackTree) (w : Walk) (p : Place) (n old new : ℕ) → MayTake file tree t w n → steps_to w.place ≤ steps_to p → steps_to p ≤ way_through t w p → way_through t w p ≡ way_through t w w.place
    → new ≡ old + (steps_to p - steps_to w.place) → TakesOn file tree t n (record w { place = p }) old new
keeps_on file tree t w p n old new h up within way work =
    let far = steps_to p in
    let same = same_way t w p in
    let left : n + steps_to w.place ≡ way_through t w p + 2 * trafs_steps h.later = h.left ∙ ap (λ k. k + 2 * trafs_steps h.later) (sym way) in
    let r = kept_rest n old new (steps_to w.place) far (way_through t w p) (2 * trafs_steps h.later) up within left work in (
      r.0,
      record {
        earlier = h.earlier;
        later = h.later;
        stands = kept_before file tree t h.earlier h.later w p h.stands;
        inside = subst (λ k. far ≤ k) (sym same) within;
        left = r.1 ∙ ap (λ k. k + 2 * trafs_steps h.later) (sym same);
      },
      r.2,
    )

-- so it does from a later place of what was in hand
pub hand_goes_on : (file : List ℕ) (m : MovieSeen) (tree : FileTree) (t : TrackTree) (w : Walk) (a b : InHand) (p : Place) (n old new : ℕ) → IsOpenedAs file m tree → IsMovie m → IsWalkOf m w → InHandOf m w a → Follows a b → IsPlaceOf b p
    → new ≡ old + (steps_to p - steps_to w.place) → MayTake file tree t w n → TakesOn file tree t n (record w { place = p }) old new
hand_goes_on file m tree t w a b p n old new o i is h f at work may =
    let on = ahead m t w a b p h f at in
    let within = subst (λ (k : ℕ). steps_to p ≤ k) (same_way t w p) (no_farther file m tree t (record w { place = p }) p o i may.stands.is_track (kept_on m w a b p is h f at).place) in
    keeps_on file tree t w p n old new may on.0 within on.1 work

-- ---- one after the other

-- no step was taken
pub takes_none : (file : List ℕ) (tree : FileTree) (t : TrackTree) (n old : ℕ) (w : Walk) → MayTake file tree t w n → TakesOn file tree t n w old old
takes_none file tree t n old w h = (n, h, omega arith)

-- then some of the others
pub takes_then : (file : List ℕ) (tree : FileTree) (t : TrackTree) (n old mid new : ℕ) (w later : Walk) → TakesOn file tree t n w old mid → ((k : ℕ) → MayTake file tree t w k → TakesOn file tree t k later mid new) → TakesOn file tree t n later old new
takes_then file tree t n old mid new w later u more =
    let v = more u.0 u.1 in
    let first = u.2 in
    let second = v.2 in
    (v.0, v.1, omega (arith, first, second))

-- no more than all
pub takes_most : (file : List ℕ) (tree : FileTree) (t : TrackTree) (n old new : ℕ) (w : Walk) → TakesOn file tree t n w old new → new ≤ old + n
takes_most file tree t n old new w u = let all = u.2 in omega (arith, all)

pub most_then : (file : List ℕ) (tree : FileTree) (t : TrackTree) (n old mid new : ℕ) (w : Walk) → TakesOn file tree t n w old mid → ((k : ℕ) → MayTake file tree t w k → new ≤ mid + k) → new ≤ old + n
most_then file tree t n old mid new w u more =
    let last = more u.0 u.1 in
    let first = u.2 in
    omega (arith, first, last)

-- of more steps fewer were taken
pub takes_within : (file : List ℕ) (tree : FileTree) (t : TrackTree) (n most old new : ℕ) (w : Walk) → n ≤ most → TakesOn file tree t n w old new → TakesOn file tree t most w old new
takes_within file tree t n most old new w le u = let taken = u.2 in (u.0, u.1, omega (arith, le, taken))

-- for each tree that the movie was opened as
abbrev pub TakesBefore : List ℕ → MovieSeen → Walk → Walk → ℕ → ℕ → Type 0
TakesBefore file m begun w old new = (tree : FileTree) (t : TrackTree) (n : ℕ) → IsOpenedAs file m tree → MayTake file tree t begun n → TakesOn file tree t n w old new

-- ---- the next `traf`

next_rest : (n old before after rest near way all traf far more : ℕ) → before + rest ≤ old + n → near ≤ way → rest + near ≡ way + 2 * all → all ≡ traf + more → far ≤ traf → after ≤ before + traf + far → (left : ℕ) × (left + far ≡ traf + 2 * more) × (after + left ≤ old + n)
next_rest n old before after rest near way all traf far more taken inside left split within work = (traf - far + 2 * more, omega (arith, within), omega (arith, taken, inside, left, split, within, work))

-- what the walk holds takes the steps of the `traf` that it is
traf_places : (a b : Box) → a.header ≡ 0 → a.offset ≡ b.offset + b.header → a.payload ≡ b.payload → traf_steps a ≡ traf_steps b
unfolding traf_steps
traf_places a b none at bytes =
    let place : a.offset + a.header ≡ b.offset + b.header = omega (arith, none, at) in
    ap (λ (t : TrackFragment). traf_rows t + traf_length t) (λ i. track_fragment_of (boxes_in (place i) (bytes i)))

pub same_steps : (file : List ℕ) (tree : FileTree) (t : TrackTree) (earlier : List PlacedTraf) (next : PlacedTraf) (later : List PlacedTraf) (w : Walk) → HoldsNext file tree t earlier next later w → traf_steps (traf_box w) ≡ traf_steps next.traf
same_steps file tree t earlier next later w h = traf_places (traf_box w) next.traf refl (ap (λ (n : OwnTraf). n.at) h.traf) h.bytes

-- it was checked, and its first sample is in hand, or none
pub takes_next : (file : List ℕ) (tree : FileTree) (t : TrackTree) (m : MovieSeen) (n old before after : ℕ) (w held now : Walk) (u : TakesOn file tree t n w old before) (next : PlacedTraf) (more : List PlacedTraf) (some : Bool)
    → u.1.later ≡ next ∷ more → HoldsNext file tree t u.1.earlier next more held → Takes file tree t u.1.earlier next more m now some → now.traf ≡ held.traf → traf_bytes now ≡ traf_bytes held → way_through t now now.place ≡ traf_steps (traf_box now)
    → steps_to now.place ≤ traf_steps (traf_box held) → after ≤ before + traf_steps (traf_box held) + steps_to now.place → TakesOn file tree t n now old after
takes_next file tree t m n old before after w held now u next more some split holds takes traf_is bytes way within work =
    let same : traf_box now ≡ traf_box held = λ i. record { kind = codes "traf"; offset = (traf_is i).at; header = 0; payload = bytes i } in
    let traf = traf_steps (traf_box held) in
    let all : trafs_steps u.1.later ≡ traf + trafs_steps more = ap trafs_steps split ∙ ap (λ k. k + trafs_steps more) (sym (same_steps file tree t u.1.earlier next more held holds)) in
    let through : way_through t now now.place ≡ traf = way ∙ ap traf_steps same in
    let r = next_rest n old before after u.0 (steps_to w.place) (way_through t w w.place) (trafs_steps u.1.later) traf (steps_to now.place) (trafs_steps more) u.2 u.1.inside u.1.left all within work in (
      r.0,
      record {
        earlier = u.1.earlier ++ next ∷ [];
        later = more;
        stands = takes.1.0;
        inside = subst (λ k. steps_to now.place ≤ k) (sym through) within;
        left = r.1 ∙ ap (λ k. k + 2 * trafs_steps more) (sym through);
      },
      r.2,
    )

-- ---- the first place

first_rest : (far way table more : ℕ) → far ≤ way → way ≡ table → (n : ℕ) × (n + far ≡ way + more) × (n ≤ table + more)
first_rest far way table more within same = (way - far + more, omega (arith, within), omega (arith, within, same))

-- A walk that begins stands in the tables, before all `traf`s.
pub begins : (file : List ℕ) (m : MovieSeen) (tree : FileTree) (t : TrackTree) (w : Walk) (p : TablePlace) → IsOpenedAs file m tree → IsMovie m → StandsBefore file tree t [] (own_trafs tree t) w → w.place ≡ places.Tables p → StandsAt m w (places.Tables p)
    → (n : ℕ) × MayTake file tree t w n × (n ≤ walk_steps tree t)
begins file m tree t w p o i stands is at =
    let within = subst (λ (q : Place). steps_to q ≤ way_through t w q) (sym is) (no_farther file m tree t w (places.Tables p) o i stands.is_track at) in
    let r = first_rest (steps_to w.place) (way_through t w w.place) (table_way t) (2 * trafs_steps (own_trafs tree t)) within (ap (way_through t w) is) in
    (r.0, record { earlier = []; later = own_trafs tree t; stands = stands; inside = within; left = r.1 }, r.2)
