-- Boxes of the file itself, read to a room.
use Rattle.std.proofs.Common.{◌≡◌, ℕ, ◌+◌, ◌-◌, ◌<◌, ◌≤◌, true, List, ◌++◌, length, take, drop, Ok, Err, sym, ap, subst, ◌∙◌, arith, length-drop}
use Rattle.std.specs.Prelude.{codes, Result}
use Rattle.std.proofs.Math.Seq.{take-add}
use Rattle.std.proofs.lemmas.List.{drop-drop, take-take}
use Rattle.std.proofs.lemmas.Slice.{take-put_mid}
use borrow.Rule.Slice.PartMut.{put_mid}
use Rattle.mp4_store.specs.words.Device.{range}
use Rattle.mp4_boxes.specs.format.Box.{Header, header_at}
use Rattle.mp4_boxes.specs.format.BoxFaults.{header_there, type_of}
use Rattle.mp4_boxes.specs.declared.fault.Fault.{Fault}
use Rattle.mp4_boxes.specs.declared.fault.Kind.{Kind}
use Rattle.mp4_boxes.specs.declared.headers.TopHeader.{TopHeader}
use Rattle.mp4_boxes.proofs.Walking.{located_err}
use Rattle.mp4_present.specs.words.Reading.{IsTopHeader}
use Rattle.mp4_present.proofs.TopLevel.{read_there}

-- a box of at most so many bytes begins at a place of the file
abbrev pub Begins : List ℕ → ℕ → ℕ → Type 0
Begins file at most = (h : Header) × (header_at true (drop at file) ≡ Ok h) × (h.size ≤ most)

both : (r : Result Header Kind) (k : Kind) (h : Header) → r ≡ Err k → r ≡ Ok h → ⊥
both r k h e f = cc

-- no box begins where a header has a fault
pub none_begins : (file : List ℕ) (at : ℕ) (f : Fault) (h : Header) → header_there true (length file - at) (drop at file) (codes "file") at ≡ Err f → header_at true (drop at file) ≡ Ok h → ⊥
none_begins file at f h e ok =
    let l : length (drop at file) ≡ length file - at = length-drop at file in
    let found = located_err (codes "file") at (type_of (drop at file)) (header_at true (drop at file)) f (subst (λ (n : ℕ). header_there true n (drop at file) (codes "file") at ≡ Err f) (sym l) e) in
    both (header_at true (drop at file)) found.0 h found.1 ok

same_header : (g h : Header) → ◌≡◌ {A = Result Header Kind} (Ok g) (Ok h) → g ≡ h
same_header g h e = cc

-- a header that was read says how long the box is that begins there
pub long_as_read : (file : List ℕ) (at : ℕ) (read : TopHeader) (h : Header) → IsTopHeader file at read → header_at true (drop at file) ≡ Ok h → h.size ≡ read.end - at
long_as_read file at read h is ok = ap (λ (g : Header). g.size) (same_header h _ (sym ok ∙ read_there file at read is))

-- ---- what is read behind the first bytes

-- these are the others
pub rest_read : (file room out : List ℕ) (at read len : ℕ) → read < len → read ≤ length room → length out ≡ len - read → take read room ≡ range file at read → out ≡ range file (at + read) (len - read)
    → take len (put_mid read (len - read) room out) ≡ range file at len
rest_read file room out at read len less fits long first others =
    let front : take len (put_mid read (len - read) room out) ≡ take read room ++ out = take-put_mid read (len - read) room out len (omega (arith, less, long)) fits in
    let behind : drop (at + read) file ≡ drop read (drop at file) = sym (drop-drop read at file) in
    let all : read + (len - read) ≡ len = omega (arith, less) in
    front ∙ (λ i. first i ++ others i) ∙ (λ i. take read (drop at file) ++ take (len - read) (behind i)) ∙ sym (take-add read (len - read) (drop at file)) ∙ ap (λ (n : ℕ). take n (drop at file)) all

-- there are none
pub first_of_read : (file room : List ℕ) (at read len : ℕ) → len ≤ read → take read room ≡ range file at read → take len room ≡ range file at len
first_of_read file room at read len le first =
    sym (take-take len read room le) ∙ ap (take len) first ∙ take-take len read (drop at file) le
