use Rattle.std.proofs.Common.{◌≡◌, ℕ, List, Option, Some, map, refl, sym, ap, subst, ◌∙◌}
use Rattle.std.specs.Prelude.{option_map}
use Rattle.std.specs.Option.{option_or}
use Rattle.std.proofs.lemmas.Result.{err_from_is_err_and}
use Rattle.mp4_frag.specs.declared.state.TrackState.{TrackState}
use Rattle.mp4_present.specs.words.Movies.{IsMovie, MovieSeen}
use Rattle.mp4_present.specs.words.OpenedMovie.{IsOpenedAs}
use Rattle.mp4_present.specs.words.OwnTrafs.{own_seen}
use Rattle.mp4_present.specs.words.OneTrack.{at_place}
use Rattle.mp4_present.specs.words.Waits.{HasLimits}
use Rattle.mp4_present.specs.declared.movie.TrackTables.{TrackTables}
use Rattle.mp4_present.specs.declared.own_trafs.OwnTrafs.{OwnTrafs}
use Rattle.mp4_present.specs.declared.track_info.TrackInfo.{TrackInfo}
use Rattle.mp4_present.specs.contracts.movie.Movie.{the_view}
use Rattle.mp4_present.proofs.OneTrack.{alone, alone_seen, has_limits, is_opened, limits, only_memory, stays_movie}
use Rattle.mp4_present.proofs.ShownAt.{map_shown}
use Rattle.mp4_present.proofs.movie.Movie.alone.Goals as goal

-- what is kept of one place is what is kept alone
made : (m : MovieSeen) (k n : ℕ) (tables : List TrackTables) (states : List TrackState) (tracks : List TrackInfo) (was owns : List OwnTrafs) (only : Option ℕ) (waits : Option (List ℕ))
    → m.own ≡ map own_seen was → tables ≡ at_place k m.tables → states ≡ at_place k m.states → tracks ≡ at_place k m.tracks → owns ≡ at_place k was
    → only ≡ option_or m.only (Some k) → waits ≡ option_map (at_place k) m.waits
    → alone_seen m k n ≡ record m { tables = tables; states = states; tracks = tracks; own = map own_seen owns; mehd = n; only = only; waits = waits }
made m k n tables states tracks was owns only waits own a b c d f g =
    let e : at_place k m.own ≡ map own_seen owns = ap (at_place k) own ∙ sym (map_shown own_seen (Some k) was) ∙ ap (map own_seen) (sym d) in
    λ i. record m { tables = sym a i; states = sym b i; tracks = sym c i; own = e i; mehd = n; only = sym f i; waits = sym g i }

pub invariant_of-alone : goal.invariant_of-alone
invariant_of-alone c =
    subst IsMovie (made (the_view c.self.inside) c.args.place c.self.inside.mehd _ _ _ c.self.inside.own.items _ _ _ refl c.only_at.ensures c.only_at-2.ensures c.only_at-3.ensures c.only_at-4.ensures c.or.ensures c.waits_at.ensures) (stays_movie _ c.args.place c.self.inside.mehd c.self.invariant)

pub returns-in_err-mehd-clause-memory : goal.returns-in_err-mehd-clause-memory
returns-in_err-mehd-clause-memory c file tree o =
    let p = err_from_is_err_and c.from_residual.result c.from_residual.ensures.1 in
    let m = c.args.self in
    let k = c.args.place in
    let less = c.requires in
    let t = alone file m tree k less o in
    let is = ap (λ (v : MovieSeen). alone_seen v k c.self.inside.mehd) (sym c.self.view_is) ∙ made (the_view c.self.inside) k c.self.inside.mehd _ _ _ c.self.inside.own.items _ _ _ refl c.only_at.ensures c.only_at-2.ensures c.only_at-3.ensures c.only_at-4.ensures c.or.ensures c.waits_at.ensures in
    let within = subst (λ (v : MovieSeen). HasLimits file v t) is (has_limits file m tree k less o c.self.inside.mehd) in
    rw (p.1, p.2) (only_memory file t c.in_err-mehd.field-0.0 (limits file m tree k less o) (c.in_err-mehd.ensures.fault file t within) (c.in_err-mehd.ensures.unchanged file t within) c.in_err-mehd.ensures.refusal)

pub invariant_of-result : goal.invariant_of-result
invariant_of-result c =
    subst IsMovie (made (the_view c.self.inside) c.args.place c.in_ok-mehd.mehd _ _ _ c.self.inside.own.items _ _ _ refl c.only_at.ensures c.only_at-2.ensures c.only_at-3.ensures c.only_at-4.ensures c.or.ensures c.waits_at.ensures) (stays_movie _ c.args.place c.in_ok-mehd.mehd c.self.invariant)

pub returns-clause-movie : goal.returns-clause-movie
returns-clause-movie c file tree o =
    let m = c.args.self in
    let k = c.args.place in
    let less = c.requires in
    let n = c.in_ok-mehd.mehd in
    let t = alone file m tree k less o in
    let was = ap (λ (v : MovieSeen). alone_seen v k c.self.inside.mehd) (sym c.self.view_is) ∙ made (the_view c.self.inside) k c.self.inside.mehd _ _ _ c.self.inside.own.items _ _ _ refl c.only_at.ensures c.only_at-2.ensures c.only_at-3.ensures c.only_at-4.ensures c.or.ensures c.waits_at.ensures in
    let within = subst (λ (v : MovieSeen). HasLimits file v t) was (has_limits file m tree k less o c.self.inside.mehd) in
    let is = ap (λ (v : MovieSeen). alone_seen v k n) (sym c.self.view_is) ∙ made (the_view c.self.inside) k n _ _ _ c.self.inside.own.items _ _ _ refl c.only_at.ensures c.only_at-2.ensures c.only_at-3.ensures c.only_at-4.ensures c.or.ensures c.waits_at.ensures in
    subst (λ (v : MovieSeen). IsOpenedAs file v t) is (is_opened file m tree k less o n (c.in_ok-mehd.ensures.within file t within).longest)
