use Rattle.std.proofs.Common.{◌≡◌, ℕ, List, length, take}
use Rattle.mp4_boxes.specs.format.Bytes.{AreBytes}
use Rattle.mp4_answers.specs.format.Texts.{hex_text}
use Rattle.mp4_answers.proofs.text.sum_lines.digest_of.Given as goal

-- of whatever digest the digits spell, those so far are read
abbrev pub invariant-loop-at : goal.invariant-loop-at
invariant-loop-at l =
    record {
      len : length l.digest ≡ 32;
      read : (digest : List ℕ) → AreBytes digest → length digest ≡ 32 → l.digits ≡ hex_text digest
          → take l.at l.digest ≡ take l.at digest;
    }
