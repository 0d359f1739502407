-- What was put to what the command names, which is opened meanwhile.
use Rattle.std.specs.Prelude.{◌≡◌, ℕ, List, [], ◌++◌, Bool, true, false, Option, None, Some}
use Rattle.std.proofs.Common.{refl, subst, sym}
use Rattle.std.specs.Io.KnownBytes.{Appends}
use Rattle.std.proofs.KnownBytes.{Appends-nil, Appends-trans}
use Rattle.mp4_store.specs.declared.io_sink.IoSink.{IoSink}
use Rattle.mp4norm.specs.declared.shell.output.Stage.{Stage}
use Rattle.mp4norm.specs.declared.shell.output.Stage.TheVariants as stages
use Rattle.mp4norm.specs.declared.shell.reports.Heard.{Heard}

-- it was opened, and neither closed nor given up
abbrev pub stands_open : Stage → Bool
stands_open stages.Open = true
stands_open _ = false

-- it was closed, with the whole answer in it
abbrev pub stands_closed : Stage → Bool
stands_closed stages.Closed = true
stands_closed _ = false

-- nothing is in what was just opened
abbrev pub IsFresh : Option (List ℕ) → Type 0
IsFresh None = Unit {0}
IsFresh (Some bytes) = bytes ≡ []

-- These bytes were put, behind what was there: where nothing was open before, into what was opened.
abbrev pub TakesOn : {W : Type 0} → (W → Option (List ℕ)) → Option (IoSink (Heard W))
    → Option (IoSink (Heard W)) → List ℕ → Type 0
TakesOn held None None bytes = bytes ≡ []
TakesOn {W = W} held None (Some t) bytes = (opened : W) × IsFresh (held opened)
    × Appends (held opened) (held t.calls.writer.out) bytes
TakesOn held (Some s) None bytes = ⊥
TakesOn held (Some s) (Some t) bytes =
    Appends (held s.calls.writer.out) (held t.calls.writer.out) bytes

pub TakesOn-nil : {W : Type 0} (held : W → Option (List ℕ)) (s : Option (IoSink (Heard W)))
    → TakesOn held s s []
TakesOn-nil held None = refl
TakesOn-nil held (Some s) = Appends-nil (held s.calls.writer.out)

pub TakesOn-trans : {W : Type 0} (held : W → Option (List ℕ))
    (s t u : Option (IoSink (Heard W))) (xs ys : List ℕ)
    → TakesOn held s t xs → TakesOn held t u ys → TakesOn held s u (xs ++ ys)
TakesOn-trans held None None None xs ys p q = rw (p, q) refl
TakesOn-trans held None None (Some u) xs ys p (w, fresh, q) = (
  w,
  fresh,
  subst
      (λ (zs : List ℕ). Appends (held w) (held u.calls.writer.out) (zs ++ ys)) (sym p) q,
)
TakesOn-trans held None (Some t) None xs ys p q = absurd q
TakesOn-trans held None (Some t) (Some u) xs ys (w, fresh, p) q = (
  w,
  fresh,
  Appends-trans (held w) (held t.calls.writer.out) (held u.calls.writer.out) xs ys p q,
)
TakesOn-trans held (Some s) None u xs ys p q = absurd p
TakesOn-trans held (Some s) (Some t) None xs ys p q = absurd q
TakesOn-trans held (Some s) (Some t) (Some u) xs ys p q = Appends-trans
    (held s.calls.writer.out) (held t.calls.writer.out) (held u.calls.writer.out) xs ys p q
