-- A message behind which its padding was put.
use Rattle.std.proofs.Common.{◌≡◌, ℕ, ◌+◌, ◌-◌, ◌*◌, ◌%◌, ◌^◌, ◌≤◌, List, ◌∷◌, ◌++◌, length, take, drop, replicate, refl, sym, ap, ◌∙◌, arith, length-append, length-drop}
use Rattle.std.proofs.lemmas.List.{append_assoc, drop-append-le, drop-take, length-take-le, take-append-le, take-take, take_at, drop_at}
use Rattle.std.proofs.lemmas.Simd.{length-replicate}
use Rattle.std.specs.Int.{w64, to_be_bytes}
use Rattle.sha2.specs.Sha256.{padded_message, padding}
use Rattle.mp4_answers.specs.words.Messages.{IsReady, block_count, message_of}
use Rattle.mp4_answers.specs.declared.digests.messages.Message.{Message}

module _ (a b c first bits : List ℕ) (m : Message) (fits : m.start + block_count m.len * 64 ≤ length a) (same : length c ≡ length a)
    (is_first : first ≡ 0x80 ∷ replicate ((119 - m.len % 64) % 64) 0) (is_bits : bits ≡ to_be_bytes w64 (m.len * 8 % 2 ^ 64))
    (p : take (m.start + m.len + length first) b ≡ take (m.start + m.len) a ++ first) (q : take (m.start + m.len + length first + length bits) c ≡ take (m.start + m.len + length first) b ++ bits) where
  abbrev front : List ℕ
  front = take (m.start + m.len) a

  long_first : length first ≡ 1 + (119 - m.len % 64) % 64
  long_first = ap length is_first ∙ (let zeros = length-replicate {A = ℕ} ((119 - m.len % 64) % 64) 0 in omega (arith, zeros))

  long_bits : length bits ≡ 8
  long_bits = rw is_bits refl

  long_front : length front ≡ m.start + m.len
  long_front = length-take-le (m.start + m.len) a (omega arith)

  all : take (m.start + block_count m.len * 64) c ≡ (front ++ first) ++ bits
  all =
      let here : m.start + m.len + length first + length bits ≡ m.start + block_count m.len * 64 = omega (arith, long_first, long_bits) in
      ap (λ n. take n c) (sym here) ∙ q ∙ ap (λ x. x ++ bits) p

  -- what stands before the padding stays
  pub pad_stays : take (m.start + m.len) c ≡ take (m.start + m.len) a
  pad_stays =
      let long = length-append front first in
      sym (take-take (m.start + m.len) (m.start + block_count m.len * 64) c (omega arith)) ∙ ap (take (m.start + m.len)) all
      ∙ take-append-le (m.start + m.len) (front ++ first) bits (omega (arith, long, long_front)) ∙ take_at front first (m.start + m.len) long_front

  message_is : message_of c m ≡ drop m.start front
  message_is = sym (drop-take m.start m.len c) ∙ ap (drop m.start) pad_stays

  message_long : length (message_of c m) ≡ m.len
  message_long = length-take-le m.len (drop m.start c) (omega (arith, same, length-drop m.start c))

  pub pad_is_ready : IsReady c m
  pad_is_ready =
      let long = length-append front first in
      let tail : padding (length (message_of c m)) ≡ first ++ bits = rw (message_long, is_first, is_bits) refl in
      record {
        fits = omega (arith, same);
        padded =
            sym (drop-take m.start (block_count m.len * 64) c) ∙ ap (drop m.start) all
            ∙ drop-append-le m.start (front ++ first) bits (omega (arith, long, long_front))
            ∙ ap (λ x. x ++ bits) (drop-append-le m.start front first (omega (arith, long_front)))
            ∙ append_assoc (drop m.start front) first bits
            ∙ (λ i. sym message_is i ++ sym tail i);
      }

-- what stands before the message stays too
pub front_stays : (b c : List ℕ) (m : Message) → take (m.start + m.len) c ≡ take (m.start + m.len) b → take m.start c ≡ take m.start b
front_stays b c m same =
    sym (take-take m.start (m.start + m.len) c (omega arith)) ∙ ap (take m.start) same ∙ take-take m.start (m.start + m.len) b (omega arith)

-- a message is the bytes that were read behind a front
pub message_read : (a b c read : List ℕ) (m : Message) → m.start + block_count m.len * 64 ≤ length a → length read ≡ m.len → take (m.start + m.len) b ≡ take m.start a ++ read → take (m.start + m.len) c ≡ take (m.start + m.len) b → message_of c m ≡ read
message_read a b c read m fits long e stays =
    let start : length (take m.start a) ≡ m.start = length-take-le m.start a (omega arith) in
    sym (drop-take m.start m.len c) ∙ ap (drop m.start) (stays ∙ e) ∙ drop_at (take m.start a) read m.start start

part_same : (a b : List ℕ) (start size n : ℕ) → start + size ≤ n → take n b ≡ take n a → take size (drop start b) ≡ take size (drop start a)
part_same a b start size n below front =
    sym (drop-take start size b) ∙ ap (drop start) (sym (take-take (start + size) n b below) ∙ ap (take (start + size)) front ∙ take-take (start + size) n a below) ∙ drop-take start size a

-- a message that ends before what changes is the same, and has its padding
pub kept_ready : (a b : List ℕ) (m : Message) (n : ℕ) → m.start + block_count m.len * 64 ≤ n → length b ≡ length a → take n b ≡ take n a → IsReady a m → IsReady b m
kept_ready a b m n below same front ready = record {
  fits = rw same ready.fits;
  padded = part_same a b m.start (block_count m.len * 64) n below front ∙ ready.padded ∙ ap padded_message (sym (part_same a b m.start m.len n (omega arith) front));
}

pub kept_message : (a b : List ℕ) (m : Message) (n : ℕ) → m.start + block_count m.len * 64 ≤ n → take n b ≡ take n a → message_of b m ≡ message_of a m
kept_message a b m n below front = part_same a b m.start m.len n (omega arith) front
