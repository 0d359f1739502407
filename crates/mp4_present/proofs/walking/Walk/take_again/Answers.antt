use Rattle.std.proofs.Common.{rules, ◌≡◌, ◌∙◌, ap, refl, sym, to_z, of_z}
use Rattle.std.specs.Int.{w128}
use Rattle.std.proofs.lemmas.Int.{to_z-of_z}
use Rattle.mp4_frag.specs.words.Walks.{samples_coming}
use Rattle.mp4_present.specs.words.Movies.{traf_box, traf_bytes, traf_hand}
use Rattle.mp4_present.specs.declared.walking.in_hand.InHand.TheVariants as hands
use Rattle.mp4_present.specs.declared.walking.Walk.{Walk}
use Rattle.mp4_present.proofs.TrafTaken.{stands_again, taken, at_place, all_taken}
use Rattle.mp4_present.proofs.WalkWork.{place_within}
use Rattle.mp4_present.proofs.walking.Walk.take_again.Goals as goal

pub returns-clause-taken : goal.returns-clause-taken
returns-clause-taken g c file tree t earlier later next o h behind =
    let w = c.args.self.now in
    let m = c.args.movie.now in
    let first : Walk = record w { due = c.args.before.time; left = c.args.before.left } in
    let payload : c.start-cursor.result.payload ≡ traf_bytes w = rw c.deref.ensures.value at c.start-cursor.ensures.payload in
    let again : to_z w128 (of_z w128 w.traf.base) ≡ w.traf.base = to_z-of_z w128 w.traf.base (search rules) in
    let info_at = at_place m.tracks w.track c.index-tracks-self.result c.requires.movie.track (rw c.tracks.ensures at c.index-tracks-self.is) in
    let list = taken file m tree t earlier next later first o h c.index-tracks-self.result info_at c.trex_of-trex.ensures.is_movie.short c.saturating_sub-number.result c.saturating_sub-number.ensures
    (traf_bytes w) refl c.trex_of-trex.result c.trex_of-trex.ensures.trex (samples_coming c.start-cursor.result)
    (rw (c.deref.ensures.value, again) at c.start-cursor.ensures.definition) in
    let stands = stands_again file m tree t earlier next later first o h _ refl refl refl behind (record { track = refl; next = refl; traf = refl; room = refl; bytes = refl }) refl in (
      hands.Fragment c.start-cursor.result,
      (
        stands,
        (λ i. record { payload = payload i; place = sym c.place.ensures.is i }),
        list,
        λ e. absurd cc,
      ),
    )

pub returns-clause-hand : goal.returns-clause-hand
returns-clause-hand g c =
    let w = c.args.self.now in
    let m = c.args.movie.now in
    let first : Walk = record w { due = c.args.before.time } in
    let payload : c.start-cursor.result.payload ≡ traf_bytes w = rw c.deref.ensures.value at c.start-cursor.ensures.payload in
    let again : to_z w128 (of_z w128 w.traf.base) ≡ w.traf.base = to_z-of_z w128 w.traf.base (search rules) in
    let info_at = at_place m.tracks w.track c.index-tracks-self.result c.requires.movie.track (rw c.tracks.ensures at c.index-tracks-self.is) in
    let hand : c.start-cursor.result ≡ traf_hand w c.place.result = λ i. record { payload = payload i; place = sym c.place.ensures.is i } in
    record {
      place = search rules;
      rest = λ info at. (
        0,
        sym (ap samples_coming hand) ∙ all_taken m first w.track c.saturating_sub-number.result c.args.before c.index-tracks-self.result info (traf_bytes w) _ _ info_at at refl c.trex_of-trex.ensures.trex c.saturating_sub-number.ensures
            (rw (c.deref.ensures.value, again) at c.start-cursor.ensures.samples),
      );
      all = λ info at. (
        hands.Fragment c.start-cursor.result,
        hand,
        all_taken m w w.track c.saturating_sub-number.result c.args.before c.index-tracks-self.result info (traf_bytes w) _ _ info_at at refl c.trex_of-trex.ensures.trex c.saturating_sub-number.ensures
            (rw (c.deref.ensures.value, again) at c.start-cursor.ensures.samples),
      );
      way = place_within (traf_box w) _ _ payload c.place.ensures.said;
      through = λ t. refl;
    }
