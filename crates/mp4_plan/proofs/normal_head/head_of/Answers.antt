use Rattle.std.proofs.Common.{rules, arith, ap, ◌+◌, ◌<◌, ◌^◌, ◌∙◌}
use Rattle.mp4_head.specs.format.Writing.{head_bytes}
use Rattle.mp4_head.specs.words.Seen.{movie_seen, tracks_seen}
use Rattle.mp4_plan.proofs.NormalHead as less
use Rattle.mp4_plan.proofs.HeadLimit.{moov_fits}
use Rattle.mp4_plan.proofs.normal_head.head_of.Goals as goal

pub head_bytes-requires : goal.head_bytes-requires
head_bytes-requires c = record { limit = moov_fits (movie_seen c.in_ok-head.head) (tracks_seen c.in_ok-head.head) c.length.result c.head_len.result (c.head_len.ensures.length c.length.result) (search rules) }

pub returns-then-head_len-gt-MOST_HEAD-clause-unchanged : goal.returns-then-head_len-gt-MOST_HEAD-clause-unchanged
returns-then-head_len-gt-MOST_HEAD-clause-unchanged c file tree o same =
    let content = c.args.content.now in
    let short = less.head_short content.leaving file c.args.movie.now tree content.scales c.in_ok-read.read c.in_ok-head.head o c.in_ok-read.ensures c.in_ok-head.ensures.movie c.in_ok-head.ensures.tracks 0 in
    let are = c.head_len.ensures.length 0 in
    let long : 2 ^ 30 + 24 < c.head_len.result = search rules in
    omega (arith, short, long, are)

pub returns-clause-head : goal.returns-clause-head
returns-clause-head c file tree o is = c.in_ok-head_bytes.ensures.bytes ∙ ap (λ n. head_bytes (movie_seen c.in_ok-head.head) (tracks_seen c.in_ok-head.head) n) (c.length.ensures ∙ is.length)
    ∙ (less.head_left c.args.content.now.leaving file c.args.movie.now tree c.args.content.now.scales c.in_ok-read.read c.in_ok-head.head o c.in_ok-read.ensures c.in_ok-head.ensures.movie c.in_ok-head.ensures.tracks is.scales).bytes

pub returns-clause-named : goal.returns-clause-named
returns-clause-named c = record {
  head = c.in_ok-head.head;
  scales = c.args.content.now.scales;
  left = record { own = c.in_ok-read.read; says = c.in_ok-read.ensures; ones = c.args.content.now.ones; movie = c.in_ok-head.ensures.movie; tracks = c.in_ok-head.ensures.tracks };
  mehd = c.length.result;
  is = c.in_ok-head_bytes.ensures.bytes;
}
