use Rattle.std.proofs.Common.{rules, arith, ◌≡◌, ◌+◌, ◌-◌, ◌^◌, ◌∙◌, length, List, min, ap, refl, sym, to_z, of_z}
use Rattle.std.specs.Int.{w128}
use Rattle.std.proofs.lemmas.Int.{to_z-of_z}
use Rattle.mp4_boxes.specs.format.Bytes.{sum_of}
use Rattle.mp4_frag.specs.words.Walks.{samples_coming}
use Rattle.mp4_tables.specs.declared.sample.SampleAt.{SampleAt}
use Rattle.mp4_present.specs.words.Movies.{traf_box, traf_bytes, traf_hand}
use Rattle.mp4_present.specs.declared.walking.in_hand.InHand.TheVariants as hands
use Rattle.mp4_present.proofs.TrafTaken.{few, stands_behind, taken, at_place, none_left, some_counted, all_taken, counted_left}
use Rattle.mp4_present.proofs.WalkWork.{place_within}
use Rattle.mp4_present.proofs.walking.Walk.take.Goals as goal

pub returns-clause-taken : goal.returns-clause-taken
returns-clause-taken g c file tree t earlier later next o h =
    let w = c.args.self.now in
    let m = c.args.movie.now in
    let payload : c.start-cursor.result.payload ≡ traf_bytes w = rw c.deref.ensures.value at c.start-cursor.ensures.payload in
    let again : to_z w128 (of_z w128 w.traf.base) ≡ w.traf.base = to_z-of_z w128 w.traf.base (search rules) in
    let info_at = at_place m.tracks w.track c.index-tracks-self.result c.requires.movie.track (rw c.tracks.ensures at c.index-tracks-self.is) in
    let list = taken file m tree t earlier next later w o h c.index-tracks-self.result info_at c.trex_of-trex.ensures.is_movie.short c.saturating_sub-number.result c.saturating_sub-number.ensures
    (traf_bytes w) refl c.trex_of-trex.result c.trex_of-trex.ensures.trex (samples_coming c.start-cursor.result)
    (rw (c.deref.ensures.value, again) at c.start-cursor.ensures.definition) in
    let counted = c.in-Some.ensures.samples ∙ ap (λ (ss : List SampleAt). length ss) list in
    let lasting = c.in-Some.ensures.duration ∙ ap (λ (ss : List SampleAt). min (sum_of (λ (s : SampleAt). s.duration) ss) (2 ^ 64 - 1)) list in
    let stands = stands_behind file m tree t earlier next later w o h _ refl refl refl (c.saturating_add-self.ensures ∙ ap (λ n. min (w.due + n) (2 ^ 64 - 1)) lasting) (ap (λ n. w.left - n) counted) (record { track = refl; next = refl; traf = refl; room = refl; bytes = refl }) refl in (
      hands.Fragment c.start-cursor.result,
      (
        stands,
        (λ i. record { payload = payload i; place = sym c.place.ensures.is i }),
        list,
        none_left (samples_coming c.start-cursor.result) c.in-Some.counts.samples c.in-Some.ensures.samples,
      ),
    )

pub returns-in_default-clause-taken : goal.returns-in_default-clause-taken
returns-in_default-clause-taken g c file tree t earlier later next o h =
    let w = c.args.self.now in
    let m = c.args.movie.now in
    let payload : c.start-cursor.result.payload ≡ traf_bytes w = rw c.deref.ensures.value at c.start-cursor.ensures.payload in
    let again : to_z w128 (of_z w128 w.traf.base) ≡ w.traf.base = to_z-of_z w128 w.traf.base (search rules) in
    let info_at = at_place m.tracks w.track c.index-tracks-self.result c.requires.movie.track (rw c.tracks.ensures at c.index-tracks-self.is) in
    let list = taken file m tree t earlier next later w o h c.index-tracks-self.result info_at c.trex_of-trex.ensures.is_movie.short c.saturating_sub-number.result c.saturating_sub-number.ensures
    (traf_bytes w) refl c.trex_of-trex.result c.trex_of-trex.ensures.trex (samples_coming c.start-cursor.result)
    (rw (c.deref.ensures.value, again) at c.start-cursor.ensures.definition) in
    let long = c.counts.ensures.many c.in_default.is in
    let all = ap (λ (ss : List SampleAt). length ss) list in
    let least = few file m tree t earlier next later w o h in
    omega (arith, long, all, least)

pub returns-clause-work : goal.returns-clause-work
returns-clause-work g c =
    let payload : c.start-cursor.result.payload ≡ traf_bytes c.args.self.now = rw c.deref.ensures.value at c.start-cursor.ensures.payload in
    let way = place_within (traf_box c.args.self.now) _ _ payload c.in-Some.ensures.said in
    let one = c.add.ensures.more in
    let first = c.passed.ensures in
    let two = c.add-2.ensures.more in
    omega (arith, way, one, first, two)

pub returns-clause-some : goal.returns-clause-some
returns-clause-some g c some =
    let w = c.args.self.now in
    let payload : c.start-cursor.result.payload ≡ traf_bytes w = rw c.deref.ensures.value at c.start-cursor.ensures.payload in
    let counted = c.in-Some.ensures.samples in (
      hands.Fragment c.start-cursor.result,
      (λ i. record { payload = payload i; place = sym c.place.ensures.is i }),
      some_counted c.in-Some.counts.samples _ some counted,
    )

pub returns-clause-hand : goal.returns-clause-hand
returns-clause-hand g c =
    let w = c.args.self.now in
    let m = c.args.movie.now in
    let payload : c.start-cursor.result.payload ≡ traf_bytes w = rw c.deref.ensures.value at c.start-cursor.ensures.payload in
    let again : to_z w128 (of_z w128 w.traf.base) ≡ w.traf.base = to_z-of_z w128 w.traf.base (search rules) in
    let info_at = at_place m.tracks w.track c.index-tracks-self.result c.requires.movie.track (rw c.tracks.ensures at c.index-tracks-self.is) in
    let hand : c.start-cursor.result ≡ traf_hand w c.place.result = λ i. record { payload = payload i; place = sym c.place.ensures.is i } in
    record {
      place = search rules;
      rest = λ info at. (
        0,
        sym (ap samples_coming hand) ∙ all_taken m w w.track c.saturating_sub-number.result (record { time = w.due; left = w.left }) c.index-tracks-self.result info (traf_bytes w) _ _ info_at at refl c.trex_of-trex.ensures.trex c.saturating_sub-number.ensures
            (rw (c.deref.ensures.value, again) at c.start-cursor.ensures.samples),
      );
      all = λ info at. (
        hands.Fragment c.start-cursor.result,
        hand,
        all_taken m w w.track c.saturating_sub-number.result (record { time = w.due; left = w.left }) c.index-tracks-self.result info (traf_bytes w) _ _ info_at at refl c.trex_of-trex.ensures.trex c.saturating_sub-number.ensures
            (rw (c.deref.ensures.value, again) at c.start-cursor.ensures.samples),
      );
      way = place_within (traf_box w) _ _ payload c.place.ensures.said;
      through = λ t. refl;
    }

pub returns-clause-counts : goal.returns-clause-counts
returns-clause-counts g c =
    let w = c.args.self.now in
    let m = c.args.movie.now in
    let payload : c.start-cursor.result.payload ≡ traf_bytes w = rw c.deref.ensures.value at c.start-cursor.ensures.payload in
    let again : to_z w128 (of_z w128 w.traf.base) ≡ w.traf.base = to_z-of_z w128 w.traf.base (search rules) in
    let info_at = at_place m.tracks w.track c.index-tracks-self.result c.requires.movie.track (rw c.tracks.ensures at c.index-tracks-self.is) in
    record {
      before = refl;
      traf = refl;
      bytes = refl;
      counted = λ info at.
          let all = all_taken m w w.track c.saturating_sub-number.result (record { time = w.due; left = w.left }) c.index-tracks-self.result info (traf_bytes w) _ _ info_at at refl c.trex_of-trex.ensures.trex c.saturating_sub-number.ensures
          (rw (c.deref.ensures.value, again) at c.start-cursor.ensures.samples) in
          counted_left w.left c.in-Some.counts.samples _ _ refl c.in-Some.ensures.few (c.in-Some.ensures.samples ∙ ap (λ (ss : List SampleAt). length ss) all);
    }
