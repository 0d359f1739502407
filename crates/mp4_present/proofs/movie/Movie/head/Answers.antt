use Rattle.std.proofs.Common.{rules, ◌≡◌, None, Some, sym, ap, subst, ◌∙◌}
use Rattle.mp4_head.specs.words.Found.{SaysHead}
use Rattle.mp4_head.specs.words.Seen.{head_seen}
use Rattle.mp4_present.specs.words.HeadsRead.{places_of, waiting_or}
use Rattle.mp4_present.specs.words.Movies.{MovieSeen, moov_box}
use Rattle.mp4_present.specs.words.OneTrack.{only_head, shown_at}
use Rattle.mp4_present.proofs.TellingWaits.{says_told}
use Rattle.mp4_present.proofs.movie.Movie.head.Goals as goal

pub returns-in-None : goal.returns-in-None
returns-in-None c =
    let m = c.args.self.now in
    let own = c.in-Ok.head in
    let shown = c.only_track-shown.result in
    let says : SaysHead (moov_box m) own = search rules in
    let none : m.waits ≡ None = search rules in
    let only = ap (λ (v : MovieSeen). v.only) c.self.view_is in
    let seen : head_seen shown ≡ only_head m.only (head_seen own) = subst (λ o. head_seen shown ≡ only_head o (head_seen own)) only c.only_track-shown.ensures.seen in
    let places : places_of shown.tracks.items ≡ shown_at m.only (places_of own.tracks.items) = subst (λ o. places_of shown.tracks.items ≡ shown_at o (places_of own.tracks.items)) only c.only_track-shown.ensures.places in
    record { own = own; says = says; seen = ap (λ w. waiting_or w (head_seen shown)) (sym none) ∙ ap (waiting_or m.waits) seen; places = places }

pub returns-in-Some : goal.returns-in-Some
returns-in-Some c =
    let m = c.args.self.now in
    let own = c.in-Ok.head in
    let shown = c.only_track-shown.result in
    let says : SaysHead (moov_box m) own = search rules in
    let some : m.waits ≡ Some c.as_slice-in-Some.result.now = search rules in
    let only = ap (λ (v : MovieSeen). v.only) c.self.view_is in
    let seen : head_seen shown ≡ only_head m.only (head_seen own) = subst (λ o. head_seen shown ≡ only_head o (head_seen own)) only c.only_track-shown.ensures.seen in
    let places : places_of shown.tracks.items ≡ shown_at m.only (places_of own.tracks.items) = subst (λ o. places_of shown.tracks.items ≡ shown_at o (places_of own.tracks.items)) only c.only_track-shown.ensures.places in
    says_told m c.as_slice-in-Some.result.now own shown c.told.result some says seen places c.told.ensures.seen c.told.ensures.places
