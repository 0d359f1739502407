use Rattle.std.proofs.Common.{◌≡◌, ℕ, length, refl, subst, sym, ap, ◌∙◌}
use Rattle.std.proofs.lemmas.Result.{err_from_is_err_and}
use Rattle.mp4_present.proofs.FileChecked.{none_checked, refused_as, found_as}
use Rattle.mp4_present.specs.words.OpenedMovie.{IsOpenedAs, kept_of}
use Rattle.mp4_present.proofs.FileJudged.{refused_first, unread_first, outline_judged, read_judged}
use Rattle.mp4_present.proofs.opening.open_movie.Goals as goal

pub returns-clause-movie : goal.returns-clause-movie
returns-clause-movie g c = λ told.
    let outline = c.in_ok-outline.ensures in
    let moov = c.in_ok-moov.ensures in
    let file = g.S.Store.file c.args.store.now in
    let found = c.in_ok-plain.field-0 in
    let r = (rw (moov.honesty, outline.store.honesty, moov.file, outline.store.file, c.as_slice.ensures.value) at c.in_ok-plain.ensures.movie) told in
    let len : length file ≡ c.len-file_len.result = ap length (sym (moov.file ∙ outline.store.file)) ∙ sym c.len-file_len.ensures in
    let kept = λ (n : ℕ). kept_of c.in_ok-outline.outline c.in_ok-moov.moov.items n found in
    (r.0, record { opened = subst (λ (n : ℕ). IsOpenedAs file (kept n) r.0) len r.1; own_tracks = refl; own_edits = refl })

pub returns-in_err-outline-clause-work : goal.returns-in_err-outline-clause-work
returns-in_err-outline-clause-work g c = λ told. none_checked _ _ _ _

pub returns-in_err-moov-clause-work : goal.returns-in_err-moov-clause-work
returns-in_err-moov-clause-work g c = λ told. none_checked _ _ _ _

pub returns-in_err-plain-clause-work : goal.returns-in_err-plain-clause-work
returns-in_err-plain-clause-work g c =
    let q = err_from_is_err_and c.from_residual-in_err-plain.result c.from_residual-in_err-plain.ensures.1 in
    let outline = c.in_ok-outline.ensures in
    let moov = c.in_ok-moov.ensures in
    rw (q.1, q.2) (λ told. refused_as _ _ _ _ _ _ ((rw (moov.honesty, outline.store.honesty, moov.file, outline.store.file) at c.in_err-plain.ensures.work) told))

pub returns-clause-work : goal.returns-clause-work
returns-clause-work g c =
    let outline = c.in_ok-outline.ensures in
    let moov = c.in_ok-moov.ensures in
    λ told. found_as _ _ _ _ _ _ _ ((rw (moov.honesty, outline.store.honesty, moov.file, outline.store.file) at c.in_ok-plain.ensures.work) told)

pub returns-clause-least : goal.returns-clause-least
returns-clause-least g c =
    let outline = c.in_ok-outline.ensures in
    let moov = c.in_ok-moov.ensures in
    λ told. (rw (moov.honesty, outline.store.honesty, moov.file, outline.store.file) at c.in_ok-plain.ensures.least) told

pub returns-in_err-outline-clause-exact : goal.returns-in_err-outline-clause-exact
returns-in_err-outline-clause-exact g c =
    let q = err_from_is_err_and c.from_residual.result c.from_residual.ensures.1 in
    let file = g.S.Store.file c.args.store.now in
    rw (q.1, q.2) (λ told. record { names = outline_judged file c.in_err-outline.field-0.0 (c.in_err-outline.ensures.exact told).names })

pub returns-in_err-moov-clause-exact : goal.returns-in_err-moov-clause-exact
returns-in_err-moov-clause-exact g c =
    let q = err_from_is_err_and c.from_residual-in_err-moov.result c.from_residual-in_err-moov.ensures.1 in
    let file = g.S.Store.file c.args.store.now in
    rw (q.1, q.2) (λ told. record { names = read_judged file _ _ c.in_err-moov.field-0.0 c.in_err-moov.ensures.refusal })

pub returns-in_err-plain-clause-exact : goal.returns-in_err-plain-clause-exact
returns-in_err-plain-clause-exact g c =
    let q = err_from_is_err_and c.from_residual-in_err-plain.result c.from_residual-in_err-plain.ensures.1 in
    let outline = c.in_ok-outline.ensures in
    let moov = c.in_ok-moov.ensures in
    let named = rw (moov.honesty, outline.store.honesty, moov.file, outline.store.file) at c.in_err-plain.ensures.exact in
    rw (q.1, q.2) (λ told. let top = (outline.exact told).names in record { names = (named told top.0 top.1).names })

pub returns-clause-exact : goal.returns-clause-exact
returns-clause-exact g c =
    let outline = c.in_ok-outline.ensures in
    let moov = c.in_ok-moov.ensures in
    let named = rw (moov.honesty, outline.store.honesty, moov.file, outline.store.file) at c.in_ok-plain.ensures.exact in
    λ told. let top = (outline.exact told).names in record { names = (named told top.0 top.1).names }

pub returns-in_err-outline-clause-refusal : goal.returns-in_err-outline-clause-refusal
returns-in_err-outline-clause-refusal g c =
    let q = err_from_is_err_and c.from_residual.result c.from_residual.ensures.1 in
    let honest = g.S.Store.is_honest c.args.store.now in
    let file = g.S.Store.file c.args.store.now in
    rw (q.1, q.2) (refused_first honest file _ _ _ c.in_err-outline.ensures.refusal (λ told. outline_judged file c.in_err-outline.field-0.0 (c.in_err-outline.ensures.exact told).names))

pub returns-in_err-moov-clause-refusal : goal.returns-in_err-moov-clause-refusal
returns-in_err-moov-clause-refusal g c =
    let q = err_from_is_err_and c.from_residual-in_err-moov.result c.from_residual-in_err-moov.ensures.1 in
    let honest = g.S.Store.is_honest c.args.store.now in
    let file = g.S.Store.file c.args.store.now in
    rw (q.1, q.2) (unread_first honest file _ _ _ (rw c.in_ok-outline.ensures.store.reads at c.in_err-moov.ensures.refusal))

pub returns-in_err-plain-clause-refusal : goal.returns-in_err-plain-clause-refusal
returns-in_err-plain-clause-refusal g c =
    let q = err_from_is_err_and c.from_residual-in_err-plain.result c.from_residual-in_err-plain.ensures.1 in
    let outline = c.in_ok-outline.ensures in
    let moov = c.in_ok-moov.ensures in
    let honest = g.S.Store.is_honest c.args.store.now in
    let file = g.S.Store.file c.args.store.now in
    let named = rw (moov.honesty, outline.store.honesty, moov.file, outline.store.file) at c.in_err-plain.ensures.exact in
    let refused = rw (moov.honesty, outline.store.honesty, moov.reads, outline.store.reads) at c.in_err-plain.ensures.refusal in
    rw (q.1, q.2) (refused_first honest file _ _ _ refused (λ told. let top = (outline.exact told).names in (named told top.0 top.1).names))
