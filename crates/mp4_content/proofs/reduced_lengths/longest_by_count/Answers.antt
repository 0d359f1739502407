use Rattle.std.proofs.Common.{rules, arith, ◌≡◌, ◌<◌, ◌+◌, max, length, drop, sym, ap, ◌∙◌}
use Rattle.mp4_head.specs.words.Seen.{track_seen}
use Rattle.mp4_content.specs.words.LeftTimes.{count_by, longest_count}
use Rattle.mp4_content.proofs.LeftTimes.{count_more, count_end}
use Rattle.mp4_content.proofs.reduced_lengths.longest_by_count.Goals as goal

pub loop-k-preserved : goal.loop-k-preserved
loop-k-preserved c =
    let hs = c.args.heads.now in
    let tracks = c.args.tracks.now in
    let k = c.loop-k.k in
    let h = c.index-heads-k.result in
    let info = c.index-tracks-k.result in
    let lt : k < length hs = search rules in
    let less : k < length tracks = search rules in
    let here : c.count_length.result ≡ count_by (track_seen h).edits info.samples = rw (← c.index-tracks-k.is) at c.count_length.ensures in
    let longest : c.max-longest.result ≡ max (count_by (track_seen h).edits info.samples) c.loop-k.longest = c.max-longest.ensures ∙ ap (λ n. max n c.loop-k.longest) here in
    ap (λ n. longest_count n (drop (k + 1) hs) (drop (k + 1) tracks)) longest
    ∙ sym (count_more hs tracks k c.loop-k.longest h info lt less c.index-heads-k.is c.index-tracks-k.is) ∙ c.loop-k.invariant

pub returns : goal.returns
returns c =
    let end = c.min-k-end.ensures in
    let le = c.loop-k-test.false in
    sym (count_end c.args.heads.now c.args.tracks.now c.loop-k.k c.loop-k.longest (omega (arith, end, le))) ∙ c.loop-k.invariant
