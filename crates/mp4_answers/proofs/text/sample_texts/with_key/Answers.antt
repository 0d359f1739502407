use Rattle.std.proofs.Common.{◌∙◌, arith, ap}
use Rattle.mp4_tables.specs.words.Keys.{keys_seen}
use Rattle.mp4_answers.proofs.KeyOrder.{put_earlier, put_here, put_later, put_same}
use Rattle.mp4_answers.proofs.text.sample_texts.with_key.Goals.{then-not-is_there+then-rank+then-rank-2, then-not-is_there+then-rank+else-rank-2, else-not-is_there, else-not-is_there-via-then-not-is_there+else-rank, else-not-is_there-via-else-not-is_there}
use Rattle.mp4_answers.proofs.text.sample_texts.with_key.Goals as goal

pub loop-j-preserved : goal.loop-j-preserved
loop-j-preserved c =
    let i = c.loop-j.invariant in
    let next = c.key_at-other.ensures in
    let pushed = c.push-in-loop-j.ensures in
    let own = c.rank-rank.ensures in
    elim c.if-not-is_there.branch [
      | then-not-is_there+then-rank+then-rank-2 w ↦
          let other = w.rank-then-rank.ensures in
          let less = w.if-rank-2.true in
          put_here _ _ _ _ _ _ _ _ _ next pushed c.loop-j.is_there c.if-not-is_there.is_there w.if-not-is_there.true w.is_there-is (ap keys_seen w.all-is ∙ w.push.ensures) (omega (arith, own, other, less)) i
      | then-not-is_there+then-rank+else-rank-2 w ↦
          let other = w.rank.ensures in
          let others = w.rank-then-rank.ensures in
          let low = w.if-rank.true in
          let high = w.if-rank-2.false in
          put_same _ _ _ _ _ _ _ _ _ next pushed c.loop-j.is_there c.if-not-is_there.is_there w.if-not-is_there.true w.is_there-is (ap keys_seen w.all-is) (omega (arith, own, other, others, low, high)) i
      | else-not-is_there w ↦
          elim w.else-not-is_there.branch [
            | else-not-is_there-via-then-not-is_there+else-rank v ↦
                let other = v.rank.ensures in
                let less = v.if-rank.false in
                put_later _ _ _ _ _ _ _ _ _ next pushed c.loop-j.is_there c.if-not-is_there.is_there v.if-not-is_there.true w.is_there-is (ap keys_seen w.all-is) (omega (arith, own, other, less)) i
            | else-not-is_there-via-else-not-is_there v ↦ put_earlier _ _ _ _ _ _ _ _ _ next pushed c.loop-j.is_there c.if-not-is_there.is_there v.if-not-is_there.false w.is_there-is (ap keys_seen w.all-is) i
          ]
    ]
