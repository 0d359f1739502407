use Rattle.std.proofs.Common.{◌≡◌, List, ℕ, length, take}
use Rattle.mp4_store.specs.words.Device.{range}
use Rattle.mp4_store.specs.words.LaidWords.{laid_at}
use Rattle.mp4_store.proofs.laid.lay_word.Given as goal

abbrev pub invariant-loop-k : goal.invariant-loop-k
invariant-loop-k l = (length l.out ≡ length l.fn.out)
    × ((file : List ℕ) → l.fn.out ≡ range file l.at (length l.fn.out) → l.out ≡ range (laid_at (take l.k l.word) l.place file) l.at (length l.fn.out))
