use Rattle.mp4_present.proofs.LooksCounted.{none_looks}
use Rattle.mp4_present.proofs.OpeningBytes.{none_open}
use Rattle.mp4_present.proofs.faults.numbers_in.Goals as goal

pub returns-in_err-outline-clause-work : goal.returns-in_err-outline-clause-work
returns-in_err-outline-clause-work g c = λ told. record { steps = none_open _ _; looks = none_looks _ _ }

pub returns-in_err-moov-clause-work : goal.returns-in_err-moov-clause-work
returns-in_err-moov-clause-work g c = λ told. record { steps = none_open _ _; looks = none_looks _ _ }

pub returns-in_err-told-clause-work : goal.returns-in_err-told-clause-work
returns-in_err-told-clause-work g c =
    let outline = c.in_ok-outline.ensures in
    let moov = c.in_ok-moov.ensures in
    rw (moov.honesty, outline.store.honesty, moov.file, outline.store.file) at c.in_err-told.ensures.work

pub returns-clause-work : goal.returns-clause-work
returns-clause-work g c =
    let outline = c.in_ok-outline.ensures in
    let moov = c.in_ok-moov.ensures in
    rw (moov.honesty, outline.store.honesty, moov.file, outline.store.file) at c.in_ok-told.ensures.work

pub returns-clause-told : goal.returns-clause-told
returns-clause-told g c =
    let outline = c.in_ok-outline.ensures in
    let moov = c.in_ok-moov.ensures in
    rw (moov.honesty, outline.store.honesty, moov.file, outline.store.file) at c.in_ok-told.ensures.told
