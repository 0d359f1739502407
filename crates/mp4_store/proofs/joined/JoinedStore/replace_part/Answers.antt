use Rattle.std.proofs.Common.{◌≡◌, ◌∙◌, ◌<◌, [], length, map, get_or, ap, sym, rules}
use Rattle.std.proofs.lemmas.List.{get_or-map}
use Rattle.std.proofs.Math.Seq.{map-set_same}
use Rattle.mp4_store.specs.words.Parts.{ends_of}
use Rattle.mp4_store.proofs.joined.JoinedStore.replace_part.Goals as goal

pub invariant_of-self : goal.invariant_of-self
invariant_of-self g c =
    let F = g.S.Store.file in
    let parts = c.self.inside.parts.items in
    let d = c.index_mut.result.now in
    let view : parts ≡ c.args.self.now.0 = search rules in
    let within : c.args.part < length parts = rw view c.requires.within in
    let bytes : F c.replace.new.dest ≡ get_or (map F parts) c.args.part [] = rw view (ap F c.replace.ensures.after ∙ c.requires.bytes) in
    let same = map-set_same F parts c.args.part c.replace.new.dest d (bytes ∙ get_or-map F parts c.args.part d [] within) in
    c.self.invariant ∙ ap (ends_of 0) (sym same)
