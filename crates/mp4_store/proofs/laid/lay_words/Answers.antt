use Rattle.std.proofs.Common.{◌≡◌, ◌∙◌, ◌+◌, ◌-◌, ◌^◌, ◌≤◌, length, take, get_or, ap, sym, rules, arith}
use Rattle.std.proofs.lemmas.List.Elements.{All-get_or}
use Rattle.mp4_store.specs.words.Device.{range}
use Rattle.mp4_store.specs.words.LaidWords.{laid, laid_at, HasRoom}
use Rattle.mp4_store.proofs.LaidWords.{laid_front, laid-more, laid_rest}
use Rattle.mp4_store.proofs.laid.lay_words.Goals as goal

pub lay_word-requires : goal.lay_word-requires
lay_word-requires c =
    let room : get_or c.args.places.now c.loop-next.next 0 + 4 ≤ 2 ^ 64 - 1 = All-get_or (HasRoom (2 ^ 64 - 1)) c.args.places.now c.loop-next.next 0 c.loop-next-test.true c.requires.places.1 in
    omega (arith, room)

pub loop-next-init : goal.loop-next-init
loop-next-init c =
    let four : length c.args.word ≡ 4 = search rules in (
      search rules,
      c.first_near-next.ensures.within,
      λ file e. e ∙ sym (laid_front c.args.word c.args.places.now file c.args.at (length c.args.out.now) c.first_near-next.result four c.first_near-next.ensures.within c.first_near-next.ensures.before),
    )

pub loop-next-preserved : goal.loop-next-preserved
loop-next-preserved c =
    let i = c.loop-next.invariant in
    let next = c.loop-next.next in
    let word = c.args.word in
    let places = c.args.places.now in
    let n = length c.args.out.now in
    let lt = c.loop-next-test.true in (
      c.lay_word.ensures.length ∙ i.0,
      omega (arith, lt),
      λ file e.
          let before = laid word (take next places) file in
          let read : c.loop-next.out ≡ range before c.args.at (length c.loop-next.out) = i.2 file e ∙ ap (range before c.args.at) (sym i.0) in
          let step : c.lay_word.new.out ≡ range (laid_at word (get_or places next 0) before) c.args.at (length c.loop-next.out) = c.lay_word.ensures.bytes before read in
          step ∙ ap (range (laid_at word (get_or places next 0) before) c.args.at) i.0
          ∙ ap (λ l. range l c.args.at n) (sym (laid-more word places file next lt)),
    )

pub returns-else-places-next-clause-bytes : goal.returns-else-places-next-clause-bytes
returns-else-places-next-clause-bytes c = λ file e.
    let next = c.loop-next.next in
    c.loop-next.invariant.2 file e
    ∙ sym (laid_rest c.args.word c.args.places.now file c.args.at (length c.args.out.now) next c.requires.places.0 (λ lt. c.if-places-next.false))
