-- Stretches of a file that are the bytes of samples: how they are joined, and taken along one after the other.
use Rattle.std.proofs.Common.{◌≡◌, ℕ, ◌+◌, ◌<◌, ◌≤◌, List, [], ◌∷◌, ◌++◌, length, take, drop, get_or, sym, ap, subst, ◌∙◌, append_assoc, arith}
use Rattle.std.specs.List.{AllByRecursion}
use Rattle.std.proofs.lemmas.Grind.{flat_map-append}
use Rattle.std.proofs.lemmas.List.{append-nil, drop_more, drop_all}
use Rattle.mp4_boxes.proofs.Joined.{all_first, all_last}
use Rattle.mp4_store.specs.words.Device.{range, TakesPrefix}
use Rattle.mp4_store.proofs.Known.{IsJoining, range-add, TakesPrefix-longer}
use Rattle.mp4_tables.specs.declared.sample.SampleAt.{SampleAt}
use Rattle.mp4_present.specs.words.Carried.{BytesGoOn}
use Rattle.mp4_present.specs.words.Joined.{IsBelow}
use Rattle.mp4_present.proofs.Carrying.{BytesGoOn-then, BytesGoOn-fails, BytesGoOn-front}
use Rattle.mp4_plan.specs.words.Stretches.{span_len, span_bytes, EndsBelow, spans_len, spans_bytes, AreBytesOf, Tells, JoinsOn}
use Rattle.mp4_plan.specs.declared.stretches.Span.{Span}
use Rattle.mp4_plan.specs.declared.stretches.Stretches.{Stretches}
use Rattle.mp4_plan.proofs.EachAt.{holds_push}
use Rattle.mp4_tables.proofs.Sums.{sum_joined}

-- ---- bytes of samples

-- a stretch without bytes is those of no samples
pub bytes_none : (s : Span) → s.at ≡ 0 → s.end ≡ 0 → AreBytesOf (s ∷ []) []
bytes_none s at end =
    let none : span_len s ≡ 0 = omega (arith, at, end) in
    record {
      bytes = λ file. sym (ap (λ n. range file s.at n ++ []) none);
      len = omega (arith, none);
      below = λ n h. (omega (arith, none, at), tt);
    }

-- the last stretch grows by a sample behind it
pub bytes_longer : (front : List Span) (last grown : Span) (xs : List SampleAt) (s : SampleAt) → last.at ≤ last.end → s.at ≡ last.end → grown.at ≡ last.at → grown.end ≡ last.end + s.size
    → AreBytesOf (front ++ last ∷ []) xs → AreBytesOf (front ++ grown ∷ []) (xs ++ s ∷ [])
bytes_longer front last grown xs s ordered behind at end h =
    let more : span_len grown ≡ span_len last + s.size = omega (arith, ordered, at, end) in
    let place : last.at + span_len last ≡ s.at = omega (arith, ordered, behind) in
    record {
      bytes = λ file.
          let one : span_bytes file grown ≡ span_bytes file last ++ range file s.at s.size = (λ i. range file (at i) (more i)) ∙ range-add file last.at (span_len last) s.size ∙ ap (λ k. range file last.at (span_len last) ++ range file k s.size) place in
          flat_map-append (λ (t : SampleAt). range file t.at t.size) xs (s ∷ [])
          ∙ (λ i. (h.bytes file ∙ flat_map-append (span_bytes file) front (last ∷ []) ∙ ap (λ (bs : List ℕ). spans_bytes file front ++ bs) (append-nil (span_bytes file last))) i ++ append-nil (range file s.at s.size) i)
          ∙ append_assoc (spans_bytes file front) (span_bytes file last) (range file s.at s.size)
          ∙ ap (λ (bs : List ℕ). spans_bytes file front ++ bs) (sym one ∙ sym (append-nil (span_bytes file grown)))
          ∙ sym (flat_map-append (span_bytes file) front (grown ∷ []));
      len = (let a = sum_joined span_len front (last ∷ []) in let b = sum_joined span_len front (grown ∷ []) in let c = sum_joined (λ (t : SampleAt). t.size) xs (s ∷ []) in let d = h.len in omega (arith, a, b, c, d, more));
      below = λ n all.
          let inside = h.below n (all_first (IsBelow n) xs (s ∷ []) all) in
          let own = (all_last (IsBelow n) xs (s ∷ []) all).0 in
          holds_push (EndsBelow n) front grown (omega (arith, own, at, more, place)) (all_first (EndsBelow n) front (last ∷ []) inside);
    }

-- one more stretch, of one sample
pub bytes_more : (spans : List Span) (one : Span) (xs : List SampleAt) (s : SampleAt) → one.at ≡ s.at → one.end ≡ s.at + s.size → AreBytesOf spans xs → AreBytesOf (spans ++ one ∷ []) (xs ++ s ∷ [])
bytes_more spans one xs s at end h =
    let size : span_len one ≡ s.size = omega (arith, at, end) in
    record {
      bytes = λ file.
          flat_map-append (λ (t : SampleAt). range file t.at t.size) xs (s ∷ [])
          ∙ (λ i. h.bytes file i ++ (range file (sym at i) (sym size i) ++ []))
          ∙ sym (flat_map-append (span_bytes file) spans (one ∷ []));
      len = (let b = sum_joined span_len spans (one ∷ []) in let c = sum_joined (λ (t : SampleAt). t.size) xs (s ∷ []) in let d = h.len in omega (arith, b, c, d, size));
      below = λ n all.
          let own = (all_last (IsBelow n) xs (s ∷ []) all).0 in
          holds_push (EndsBelow n) spans one (omega (arith, own, at, size)) (h.below n (all_first (IsBelow n) xs (s ∷ []) all));
    }

-- a last stretch without bytes says nothing
pub bytes_without : (front : List Span) (last : Span) (xs : List SampleAt) → last.end ≤ last.at → AreBytesOf (front ++ last ∷ []) xs → AreBytesOf front xs
bytes_without front last xs le h =
    let none : span_len last ≡ 0 = omega (arith, le) in
    record {
      bytes = λ file. h.bytes file ∙ flat_map-append (span_bytes file) front (last ∷ []) ∙ ap (λ n. spans_bytes file front ++ (range file last.at n ++ [])) none ∙ append-nil (spans_bytes file front);
      len = (let a = sum_joined span_len front (last ∷ []) in let d = h.len in omega (arith, a, d, none));
      below = λ n all. all_first (EndsBelow n) front (last ∷ []) (h.below n all);
    }

-- ---- what is kept of samples

pub tells_none : (s : Stretches) → s.used ≡ 0 → s.last.at ≡ 0 → s.last.end ≡ 0 → Tells s []
tells_none s used at end = record {
  ordered = omega (arith, at, end);
  kept = λ e. subst (λ n. AreBytesOf (take n s.earlier ++ s.last ∷ []) []) (sym used) (bytes_none s.last at end);
}

pub joins_none : (s : Stretches) → JoinsOn s s []
joins_none s earlier h = subst (λ (xs : List SampleAt). Tells s xs) (sym (append-nil earlier)) h

pub joins_then : (a b c : Stretches) (xs ys zs : List SampleAt) → JoinsOn a b xs → JoinsOn b c ys → zs ≡ xs ++ ys → JoinsOn a c zs
joins_then a b c xs ys zs p q e earlier h =
    subst (λ (all : List SampleAt). Tells c all) (append_assoc earlier xs ys ∙ ap (λ (l : List SampleAt). earlier ++ l) (sym e)) (q (earlier ++ xs) (p earlier h))

-- ---- stretches that are taken along

-- The bytes of the first stretches follow, as many as are left fewer; the others are to come.
pub record SpansCarried (honest : Type 0) (file : List ℕ) (Took : List ℕ → Type 0) (held held_after : List ℕ) (all to_come : List Span) (bytes left : ℕ) : Type 0 where
  pub done : List Span
  pub whole : all ≡ done ++ to_come
  pub count : bytes ≡ spans_len done + left
  pub goes : honest → BytesGoOn Took held held_after (spans_bytes file done)

-- the members of a list from a place on, and then one more
pub next_span : (items : List Span) (i : ℕ) (d last : Span) → i < length items → drop i items ++ last ∷ [] ≡ get_or items i d ∷ (drop (i + 1) items ++ last ∷ [])
next_span items i d last lt = ap (λ (l : List Span). l ++ last ∷ []) (drop_more items i d lt)

pub last_span : (items : List Span) (i : ℕ) (last : Span) → length items ≤ i → drop i items ++ last ∷ [] ≡ last ∷ []
last_span items i last le = ap (λ (l : List Span). l ++ last ∷ []) (drop_all i items le)

module _ (honest : Type 0) (file : List ℕ) (Took : List ℕ → Type 0) (held held_b : List ℕ) (all to_come : List Span) (bytes left : ℕ) (h : SpansCarried honest file Took held held_b all to_come bytes left) where
  bytes_are : spans_bytes file all ≡ spans_bytes file h.done ++ spans_bytes file to_come
  bytes_are = ap (spans_bytes file) h.whole ∙ flat_map-append (span_bytes file) h.done to_come

  -- what was put so far is a front of all
  pub spans_front : honest → TakesPrefix Took (held ++ spans_bytes file all)
  spans_front told = rw bytes_are (BytesGoOn-front Took held held_b (spans_bytes file h.done) (spans_bytes file to_come) (h.goes told))

  -- all of them
  done_all : to_come ≡ [] → all ≡ h.done
  done_all none = h.whole ∙ ap (λ (l : List Span). h.done ++ l) none ∙ append-nil h.done

  pub spans_whole : to_come ≡ [] → honest → BytesGoOn Took held held_b (spans_bytes file all)
  spans_whole none told = rw (done_all none) (h.goes told)

  pub spans_counted : to_come ≡ [] → bytes ≡ spans_len all + left
  spans_counted none = let count = h.count in let same = ap spans_len (done_all none) in omega (arith, count, same)

  -- the next one lies in the file, and has no more bytes than are left, where that is so of all
  pub span_there : (span : Span) (later : List Span) (n : ℕ) → to_come ≡ span ∷ later → AllByRecursion (EndsBelow n) all → EndsBelow n span
  span_there span later n is below = (all_last (EndsBelow n) h.done (span ∷ later) (subst (λ (l : List Span). AllByRecursion (EndsBelow n) l) (h.whole ∙ ap (λ (l : List Span). h.done ++ l) is) below)).0

  pub span_fits : (span : Span) (later : List Span) → to_come ≡ span ∷ later → spans_len all ≡ bytes → span_len span ≤ left
  span_fits span later is same =
      let count = h.count in
      let sums = ap spans_len (h.whole ∙ ap (λ (l : List Span). h.done ++ l) is) ∙ sum_joined span_len h.done (span ∷ later) in
      omega (arith, count, sums, same)

module _ (honest : Type 0) (file : List ℕ) {Y : Type 0} {takes : Y → Y → List ℕ → Type 0} (joins : IsJoining takes) (a b : Y) (held held_b : List ℕ) (all to_come : List Span) (bytes left : ℕ) (h : SpansCarried honest file (takes a b) held held_b all to_come bytes left) where
  -- one more
  pub spans_more : (c : Y) (held_c : List ℕ) (span : Span) (later : List Span) (next : ℕ) → to_come ≡ span ∷ later → next + span_len span ≡ left → (honest → BytesGoOn (takes b c) held_b held_c (span_bytes file span)) → SpansCarried honest file (takes a c) held held_c all later bytes next
  spans_more c held_c span later next is fewer more =
      let count = h.count in
      let sums = sum_joined span_len h.done (span ∷ []) in
      record {
        done = h.done ++ span ∷ [];
        whole = h.whole ∙ ap (λ (l : List Span). h.done ++ l) is ∙ sym (append_assoc h.done (span ∷ []) later);
        count = omega (arith, count, sums, fewer);
        goes = λ told. BytesGoOn-then joins a b c held held_b held_c (spans_bytes file h.done) (span_bytes file span) (spans_bytes file (h.done ++ span ∷ [])) (h.goes told) (more told)
            (flat_map-append (span_bytes file) h.done (span ∷ []) ∙ ap (λ (bs : List ℕ). spans_bytes file h.done ++ bs) (append-nil (span_bytes file span)));
      }

  -- one isn't taken along whole
  pub spans_fail : (c : Y) (span : Span) (later : List Span) → to_come ≡ span ∷ later → honest → TakesPrefix (takes b c) (held_b ++ span_bytes file span) → TakesPrefix (takes a c) (held ++ spans_bytes file all)
  spans_fail c span later is told p =
      let more = spans_bytes file later in
      let whole : spans_bytes file all ≡ spans_bytes file h.done ++ (span_bytes file span ++ more) = bytes_are honest file (takes a b) held held_b all to_come bytes left h ∙ ap (λ (l : List Span). spans_bytes file h.done ++ spans_bytes file l) is in
      rw whole (BytesGoOn-fails joins a b c held held_b (spans_bytes file h.done) (span_bytes file span ++ more) (h.goes told) (rw (← append_assoc held_b (span_bytes file span) more) (TakesPrefix-longer (takes b c) (held_b ++ span_bytes file span) more p)))
