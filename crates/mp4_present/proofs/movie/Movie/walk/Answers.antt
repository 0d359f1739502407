use Rattle.std.proofs.Common.{rules, ℕ, List, slice_index_or, length, ◌≡◌, ◌++◌, [], subst, refl, sym, ap, arith, ◌∙◌, Some}
use Rattle.mp4_tables.specs.words.Accepted.{IsPlace}
use Rattle.mp4_tables.specs.words.TablesSeen.{TablesSeen}
use Rattle.mp4_present.specs.words.Movies.{MovieSeen, IsMovie, own_room, tables_seen}
use Rattle.mp4_present.proofs.WalkPlaces.{begun}
use Rattle.mp4_present.proofs.WalkBegun.{stands_first, tables_in_hand, plain_first, due_is, left_is}
use Rattle.mp4_present.proofs.TrafTaken.{at_place}
use Rattle.mp4_present.proofs.WayThrough.{begins}
use Rattle.mp4_present.specs.words.SamplesComing.{own_trafs, samples_behind}
use Rattle.mp4_frag.specs.declared.state.TrackState.{TrackState}
use Rattle.mp4_present.specs.declared.track_info.TrackInfo.{TrackInfo}
use Rattle.mp4_present.specs.declared.walking.Mark.{Mark}
use Rattle.mp4_present.specs.declared.walking.in_hand.InHand.TheVariants as hands
use Rattle.mp4_present.proofs.movie.Movie.walk.Goals as goal
use Rattle.mp4_boxes.proofs.Plain.{get_some}

pub returns-clause-walk : goal.returns-clause-walk
returns-clause-walk c =
    let m = c.args.self.now in
    begun m _ c.place.result c.index-info.result.now.samples (subst IsMovie c.self.view_is c.self.invariant) c.requires refl refl refl
    (λ t e. subst (λ (s : TablesSeen). IsPlace s.payload s.at c.place.result) (c.start-cursor.ensures.tables ∙ c.tables_of.ensures t e) c.place.ensures.place)

pub returns-clause-coming : goal.returns-clause-coming
returns-clause-coming c file tree t o at =
    let m = c.args.self.now in
    let i = subst IsMovie c.self.view_is c.self.invariant in
    let each = i.each_tables in
    let inside = c.requires in
    let found = get_some m.tables c.args.track (omega (arith, each, inside)) in
    let bytes : length c.in-Ok.bytes.items ≡ own_room m c.args.track = search rules in
    let states = i.each_state in
    let info_at = at_place m.tracks c.args.track c.index-info.result.now inside (subst (λ (xs : List TrackInfo). c.index-info.result.now ≡ slice_index_or xs c.args.track c.index-info.result.now) (ap (λ (n : MovieSeen). n.tracks) c.self.view_is) c.index-info.ensures) in
    let state_at = at_place m.states c.args.track c.index-state.result.now (omega (arith, states, inside)) (subst (λ (xs : List TrackState). c.index-state.result.now ≡ slice_index_or xs c.args.track c.index-state.result.now) (ap (λ (n : MovieSeen). n.states) c.self.view_is) c.index-state.ensures) in
    let due = c.due_first.ensures ∙ due_is file m tree t o c.args.track at c.index-info.result.now info_at c.index-state.result.now state_at in
    let left = c.saturating_sub.ensures ∙ left_is file m tree t o c.args.track at c.index-info.result.now info_at c.index-state.result.now state_at in
    let stands = stands_first file m tree t o _ at bytes due left refl refl in
    let tables : c.start-cursor.result.tables ≡ tables_seen m.moov found.0 = c.start-cursor.ensures.tables ∙ c.tables_of.ensures found.0 found.1 in
    let list = tables_in_hand file m tree t c.args.track found.0 c.start-cursor.result o at found.1 tables c.start-cursor.ensures.first in
    ([], own_trafs tree t, hands.Tables c.start-cursor.result, (stands, (found.0, found.1, (λ i. record { tables = tables i; place = sym c.place.ensures.is i })), sym (plain_first tree t o.is_tree.fragments) ∙ ap (λ ss. ss ++ samples_behind tree t [] (own_trafs tree t)) (sym list)))

pub returns-clause-may : goal.returns-clause-may
returns-clause-may c file tree t o at =
    let m = c.args.self.now in
    let i = subst IsMovie c.self.view_is c.self.invariant in
    let each = i.each_tables in
    let inside = c.requires in
    let found = get_some m.tables c.args.track (omega (arith, each, inside)) in
    let bytes : length c.in-Ok.bytes.items ≡ own_room m c.args.track = search rules in
    let states = i.each_state in
    let info_at = at_place m.tracks c.args.track c.index-info.result.now inside (subst (λ (xs : List TrackInfo). c.index-info.result.now ≡ slice_index_or xs c.args.track c.index-info.result.now) (ap (λ (n : MovieSeen). n.tracks) c.self.view_is) c.index-info.ensures) in
    let state_at = at_place m.states c.args.track c.index-state.result.now (omega (arith, states, inside)) (subst (λ (xs : List TrackState). c.index-state.result.now ≡ slice_index_or xs c.args.track c.index-state.result.now) (ap (λ (n : MovieSeen). n.states) c.self.view_is) c.index-state.ensures) in
    let due = c.due_first.ensures ∙ due_is file m tree t o c.args.track at c.index-info.result.now info_at c.index-state.result.now state_at in
    let left = c.saturating_sub.ensures ∙ left_is file m tree t o c.args.track at c.index-info.result.now info_at c.index-state.result.now state_at in
    let stands = stands_first file m tree t o _ at bytes due left refl refl in
    let place = subst (λ (s : TablesSeen). IsPlace s.payload s.at c.place.result) (c.start-cursor.ensures.tables ∙ c.tables_of.ensures found.0 found.1) c.place.ensures.place in
    begins file m tree t _ c.place.result o i stands refl (found.0, found.1, place)

pub returns-clause-mark : goal.returns-clause-mark
returns-clause-mark c info at =
    let m = c.args.self.now in
    let info_at = at_place m.tracks c.args.track c.index-info.result.now c.requires (subst (λ (xs : List TrackInfo). c.index-info.result.now ≡ slice_index_or xs c.args.track c.index-info.result.now) (ap (λ (n : MovieSeen). n.tracks) c.self.view_is) c.index-info.ensures) in
    same_mark _ info.samples (ap (λ (i : TrackInfo). i.samples) (some_is c.index-info.result.now info (sym info_at ∙ at)))
  where
    some_is : (x y : TrackInfo) → Some x ≡ Some y → x ≡ y
    some_is x y e = cc

    same_mark : (k : Mark) (n : ℕ) → k.to_come ≡ n → k ≡ record k { to_come = n }
    same_mark k n e = λ i. record k { to_come = e i }
