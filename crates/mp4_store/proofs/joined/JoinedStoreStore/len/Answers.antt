use Rattle.std.proofs.Common.{◌≡◌, ◌∙◌, ◌≤◌, ◌<◌, ◌-◌, map, length, get_or, rules, subst, sym, arith}
use Rattle.mp4_store.specs.words.Parts.{ends_of}
use Rattle.mp4_store.proofs.Parts.{last_end, no_end}
use Rattle.mp4_store.proofs.joined.JoinedStoreStore.len.Goals as goal

pub returns-in-Some : goal.returns-in-Some
returns-in-Some g c =
    let F = g.S.Store.file in
    let parts = c.args.self.now.0 in
    let ends : c.deref.result.now ≡ ends_of 0 (map F parts) = search rules in
    let last = c.in-Some.ensures.item.3 in
    let some : 0 < length (ends_of 0 (map F parts)) = subst (λ l. 0 < length l) ends last.0 in
    subst (λ l. c.in-Some.end.now ≡ get_or l (length l - 1) 0) ends (last.1 0) ∙ last_end F parts 0 some

pub returns-in-None : goal.returns-in-None
returns-in-None g c =
    let F = g.S.Store.file in
    let parts = c.args.self.now.0 in
    let ends : c.deref.result.now ≡ ends_of 0 (map F parts) = search rules in
    let none = c.in-None.ensures.item.3 in
    sym (no_end F parts (omega (arith, subst (λ l. length l ≤ 0) ends none)))
