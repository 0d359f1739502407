use Rattle.std.proofs.Common.{◌≡◌, map, rules}
use Rattle.std.proofs.lemmas.List.Folds.{flat_map-map}
use Rattle.mp4_store.specs.words.Parts.{ends_of}
use Rattle.mp4_store.proofs.joined.JoinedStore.place.Goals as goal

pub returns-clause-none : goal.returns-clause-none
returns-clause-none g c = λ e.
    let ends : c.as_slice.result.now ≡ ends_of 0 (map g.S.Store.file c.args.self.now.0) = search rules in
    rw (flat_map-map (λ bytes. bytes) g.S.Store.file c.args.self.now.0) at (c.place_in.ensures.none e _ ends)
