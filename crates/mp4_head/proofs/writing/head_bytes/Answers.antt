use Rattle.std.proofs.Common.{◌≡◌, length, refl, arith, length-append}
use Rattle.mp4_head.specs.words.Seen.{movie_seen, tracks_seen}
use Rattle.mp4_head.specs.format.Writing.{ftyp_bytes, moov_bytes}
use Rattle.mp4_head.proofs.writing.head_bytes.Goals as goal

pub overflow_cast-head_len : goal.overflow_cast-head_len
overflow_cast-head_len c =
    let l = c.head_len.ensures.length c.args.mehd in
    let m = c.requires.limit in
    let f : length ftyp_bytes ≡ 24 = refl in
    let n = length-append ftyp_bytes (moov_bytes (movie_seen c.args.head.now) (tracks_seen c.args.head.now) c.args.mehd) in
    omega arith
