-- Bytes that are taken along one after the other, where the first failed put stays.
use Rattle.std.proofs.Common.{◌≡◌, ℕ, List, [], ◌++◌, Bool, true, false, refl, sym, ap, subst, ◌∙◌}
use Rattle.mp4_store.specs.words.Device.{count_after}
use Rattle.mp4_store.specs.declared.sink.Sink.{Ghosts as Sink}
use Rattle.mp4_store.proofs.Known.{IsJoining}
use Rattle.mp4_present.specs.words.Carried.{waiting}
use Rattle.mp4_present.specs.words.OutBuffers.{PutsFrontOf}
use Rattle.mp4_present.specs.words.Latches.{Goes, GoesWhole, StopsWithin}
use Rattle.mp4_present.specs.declared.latch.Latch.{Latch}
use Rattle.mp4_present.proofs.Carrying.{BytesGoOn-nothing, BytesGoOn-then}
use Rattle.mp4_present.proofs.FrontsPut.{stopped_first, stopped_last}

-- nothing goes
pub goes_nothing : {Y : Type 0} (K : Sink Y) (a : Latch Y) → IsJoining K.takes → K.takes a.sink.now a.sink.now [] → Goes K a a []
goes_nothing K a joins nothing = record {
  joins = joins;
  same = record { sink = refl; out = refl; buffer = refl };
  whole = λ ok. record { begun = ok; taken = BytesGoOn-nothing (K.takes a.sink.now a.sink.now) nothing (waiting a.out.now); puts = refl };
  stops = λ ok bad. absurd cc;
  stays = λ bad. refl;
}

module _ {Y : Type 0} (K : Sink Y) {a b e : Latch Y} (xs ys zs : List ℕ) (x : Goes K a b xs) (y : Goes K b e ys) (is : zs ≡ xs ++ ys) where
  both : e.has_failed ≡ false → GoesWhole K a e zs
  both ok =
      let q = y.whole ok in
      let p = x.whole q.begun in
      record {
        begun = p.begun;
        taken = BytesGoOn-then x.joins a.sink.now b.sink.now e.sink.now (waiting a.out.now) (waiting b.out.now) (waiting e.out.now) xs ys zs p.taken q.taken is;
        puts = q.puts ∙ p.puts;
      }

  one : (middle : Bool) → b.has_failed ≡ middle → a.has_failed ≡ false → e.has_failed ≡ true → StopsWithin K a e zs
  one false mid ok bad =
      let p = x.whole mid in
      let q = y.stops mid bad in
      record {
        prefix = stopped_last x.joins a.sink.now b.sink.now e.sink.now (waiting a.out.now) (waiting b.out.now) xs ys zs p.taken q.prefix is;
        puts = q.puts ∙ ap count_after p.puts;
      }
  one true mid ok bad =
      let p = x.stops ok mid in
      let s = y.stays mid in
      record {
        prefix = stopped_first (K.takes a.sink.now e.sink.now) (waiting a.out.now) xs ys zs (subst (λ (z : Latch Y). PutsFrontOf K a.sink.now z.sink.now a.out.now xs) (sym s) p.prefix) is;
        puts = ap (λ (z : Latch Y). K.put_failures z.sink.now) s ∙ p.puts;
      }

  -- one after the other
  pub goes_as : Goes K a e zs
  goes_as = record {
    joins = x.joins;
    same = record {
      sink = y.same.sink ∙ x.same.sink;
      out = y.same.out ∙ x.same.out;
      buffer = y.same.buffer ∙ x.same.buffer;
    };
    whole = both;
    stops = one b.has_failed refl;
    stays = λ bad. let s = x.stays bad in y.stays (ap (λ (z : Latch Y). z.has_failed) s ∙ bad) ∙ s;
  }

-- the same bytes, one behind the other
pub goes_on : {Y : Type 0} (K : Sink Y) {a b e : Latch Y} (xs ys : List ℕ) → Goes K a b xs → Goes K b e ys → Goes K a e (xs ++ ys)
goes_on K xs ys x y = goes_as K xs ys (xs ++ ys) x y refl

-- the same bytes
pub goes_is : {Y : Type 0} (K : Sink Y) {a b : Latch Y} {xs ys : List ℕ} → Goes K a b xs → xs ≡ ys → Goes K a b ys
goes_is K {a} {b} x is = subst (λ (bs : List ℕ). Goes K a b bs) is x
