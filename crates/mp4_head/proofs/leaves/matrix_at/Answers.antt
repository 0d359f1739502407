use Rattle.std.proofs.Common.{◌∙◌, ◌∷◌, [], rules}
use Rattle.std.specs.Int.{w32}
use Rattle.std.proofs.lemmas.Int.{to_z-of_z}
use Rattle.mp4_head.proofs.leaves.matrix_at.Goals as goal

pub returns : goal.returns
returns c =
    let n0 = to_z-of_z w32 c.i32_at.result (search rules) ∙ c.i32_at.ensures in
    let n1 = to_z-of_z w32 c.i32_at-2.result (search rules) ∙ c.i32_at-2.ensures in
    let n2 = to_z-of_z w32 c.i32_at-3.result (search rules) ∙ c.i32_at-3.ensures in
    let n3 = to_z-of_z w32 c.i32_at-4.result (search rules) ∙ c.i32_at-4.ensures in
    let n4 = to_z-of_z w32 c.i32_at-5.result (search rules) ∙ c.i32_at-5.ensures in
    let n5 = to_z-of_z w32 c.i32_at-6.result (search rules) ∙ c.i32_at-6.ensures in
    let n6 = to_z-of_z w32 c.i32_at-7.result (search rules) ∙ c.i32_at-7.ensures in
    let n7 = to_z-of_z w32 c.i32_at-8.result (search rules) ∙ c.i32_at-8.ensures in
    let n8 = to_z-of_z w32 c.i32_at-9.result (search rules) ∙ c.i32_at-9.ensures in
    λ j. n0 j ∷ n1 j ∷ n2 j ∷ n3 j ∷ n4 j ∷ n5 j ∷ n6 j ∷ n7 j ∷ n8 j ∷ []
