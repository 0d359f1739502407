use Rattle.std.proofs.Common.{rules, ◌≡◌, ◌∙◌, ◌<◌, ℕ, List, [], length, map, get_or, set, replicate, sym, ap, arith}
use Rattle.std.proofs.lemmas.List.{get_or-map, get_or-set_same, length-set}
use Rattle.mp4norm.specs.declared.shell.named_files.NamedFile.{NamedFile}
use Rattle.mp4norm.specs.declared.shell.file_change.State.{State}
use Rattle.mp4norm.proofs.shell.named_files.ListStore.hold.Goals as goal

-- what is said of an item that was put into a list
put_in : (f : NamedFile → List ℕ) (xs ys : List NamedFile) (i : ℕ) (x : NamedFile) → ys ≡ set xs i x → i < length xs → f x ≡ get_or (map f ys) i []
put_in f xs ys i x e lt =
    let same = length-set xs i x in
    rw e (sym (get_or-map f (set xs i x) i x [] (omega (arith, same, lt)) ∙ ap f (get_or-set_same xs i x x lt)))

pub replace_part-hollow-requires-clause-bytes : goal.replace_part-hollow-requires-clause-bytes
replace_part-hollow-requires-clause-bytes c =
    let within = c.if-part-parts.false in
    let parts = c.parts.ensures in
    ap (λ (s : State). replicate s.len 0) (sym c.new-hollow.ensures)
    ∙ put_in (λ (x : NamedFile). replicate x.state.len 0) c.args.self.now.files.0 c.replace_part-file.new.self.0 c.args.part c.new-hollow.result c.replace_part-file.ensures.parts (search rules)
