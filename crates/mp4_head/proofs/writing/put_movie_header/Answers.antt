use Rattle.std.proofs.Common.{rules, ℕ, ◌∙◌, ◌++◌, List, [], ◌∷◌, ap}
use Rattle.std.specs.Prelude.{codes, replicate}
use Rattle.byteorder.specs.Endian.{big_bytes}
use Rattle.std.specs.Int.{w16, w32}
use Rattle.std.proofs.lemmas.Int.{to_z-of_z}
use Rattle.mp4_boxes.specs.format.Bytes.{unsigned}
use Rattle.mp4_head.specs.words.Seen.{movie_seen}
use Rattle.mp4_head.specs.words.Parts.{matrix_bytes}
use Rattle.mp4_head.proofs.Pieces.{appended_is}
use Rattle.mp4_head.proofs.HeadPieces.{movie_spelled}
use Rattle.mp4_head.proofs.writing.put_movie_header.Goals as goal

pub returns : goal.returns
returns c =
    let rate = to_z-of_z w32 c.args.head.now.rate (search rules) in
    let volume = to_z-of_z w16 c.args.head.now.volume (search rules) in
    rw (
      c.in_ok-put_u32-2.ensures,
      c.in_ok-put-4.ensures,
      c.in_ok-put_matrix.ensures,
      c.in_ok-put-3.ensures,
      c.in_ok-put_i16.ensures,
      c.in_ok-put_i32.ensures,
      c.in_ok-put-2.ensures,
      c.in_ok-put_u32.ensures,
      c.in_ok-put_u64-2.ensures,
      c.in_ok-put_u64.ensures,
      c.in_ok-put.ensures,
      rate,
      volume,
    ) (appended_is c.args.out.now.items ((0 ∷ 0 ∷ 0 ∷ 120 ∷ (codes "mvhd" ++ 1 ∷ 0 ∷ 0 ∷ 0 ∷ [])) ∷ (big_bytes 8 c.args.head.now.creation) ∷ (big_bytes 8 c.args.head.now.modification) ∷ (big_bytes 4 c.args.head.now.timescale) ∷ (replicate 8 0)
    ∷ (big_bytes 4 (unsigned 4 c.args.head.now.rate)) ∷ (big_bytes 2 (unsigned 2 c.args.head.now.volume)) ∷ (replicate 10 0) ∷ (matrix_bytes c.args.head.now.matrix) ∷ (replicate 24 0) ∷ (big_bytes 4 c.args.next) ∷ [])
    ∙ ap (λ (x : List ℕ). c.args.out.now.items ++ x) (movie_spelled (movie_seen c.args.head.now) c.args.next (search rules)))
