use Rattle.std.proofs.Common.{◌≡◌, ◌∙◌, ◌+◌, length, take, get_or, set, ap, sym, rules, arith, length-take}
use Rattle.std.proofs.lemmas.List.{take_more, take_all}
use Rattle.mp4_store.specs.words.Device.{range}
use Rattle.mp4_store.specs.words.LaidWords.{laid_at}
use Rattle.mp4_store.proofs.LaidWords.{laid_at-more}
use Rattle.mp4_store.proofs.laid.lay_word.Goals as goal

pub loop-k-init : goal.loop-k-init
loop-k-init c = (search rules, λ file e. e)

pub loop-k-preserved : goal.loop-k-preserved
loop-k-preserved c =
    let k = c.loop-k.k in
    let word = c.args.word in
    let place = c.args.place in
    let at = c.args.at in
    let n = length c.args.out.now in
    let i = c.loop-k.invariant in
    let four : length word ≡ 4 = search rules in
    let count : length (take k word) ≡ k = length-take k word ∙ (let lt = c.loop-k-test.true in omega (arith, lt, four)) in (
      c.lay_byte.ensures.length ∙ i.0,
      λ file e.
          let before = laid_at (take k word) place file in
          let read : c.loop-k.out ≡ range before at (length c.loop-k.out) = i.1 file e ∙ ap (range before at) (sym i.0) in
          let step : c.lay_byte.new.out ≡ range (set before (place + k) (get_or word k 0)) at (length c.loop-k.out) = c.lay_byte.ensures.bytes before read in
          let more : laid_at (take (k + 1) word) place file ≡ set before (place + k) (get_or word k 0) =
          ap (λ w. laid_at w place file) (take_more word k 0 (rw four c.loop-k-test.true))
          ∙ laid_at-more (take k word) (get_or word k 0) place file
          ∙ ap (λ m. set before (place + m) (get_or word k 0)) count in
          step ∙ ap (range (set before (place + k) (get_or word k 0)) at) i.0 ∙ ap (λ l. range l at n) (sym more),
    )

pub returns-clause-bytes : goal.returns-clause-bytes
returns-clause-bytes c = λ file e.
    let four : length c.args.word ≡ 4 = search rules in
    let all : take c.loop-k.k c.args.word ≡ c.args.word = take_all c.loop-k.k c.args.word (let le = c.loop-k-test.false in omega (arith, le, four)) in
    rw all at (c.loop-k.invariant.1 file e)
