use Rattle.std.proofs.Common.{ℕ, List, ◌++◌, rules, arith, ap, ◌∙◌}
use Rattle.std.specs.Prelude.{string_bytes}
use Rattle.mp4_present.proofs.ToldTrees.{file_tree_is}
use Rattle.mp4_answers.proofs.StepSums.{opened_least}
use Rattle.mp4_answers.proofs.ShownLines.{shows}
use Rattle.mp4_answers.proofs.StepsTaken.{not_looked, looked_within}
use Rattle.mp4_answers.proofs.LooksTaken.{not_found, finds_taken}
use Rattle.mp4_answers.proofs.commands.show.movie_line.Goals as goal

pub returns-clause-answer : goal.returns-clause-answer
returns-clause-answer g c = record {
  store = record { honesty = c.in_ok-movie.ensures.store.honesty; file = c.in_ok-movie.ensures.store.file; reads = c.in_ok-movie.ensures.store.reads };
  read = λ honest.
      let o = c.in_ok-movie.ensures.movie honest in
      shows (g.S.Store.file c.args.store.now) c.in_ok-movie.movie o.0 c.in_ok-head.head _ _ _ _ o.1 c.in_ok-head.ensures c.in_ok-text.ensures (search rules) (search rules) (c.in_ok-push.ensures.bytes
      ∙ ap (λ (bs : List ℕ). string_bytes c.in_ok-text.text ++ bs) (c.in_ok-push.ensures.ascii (omega arith)));
  refusal = tt;
}

-- ---- steps

pub returns-in_err-movie-clause-work : goal.returns-in_err-movie-clause-work
returns-in_err-movie-clause-work g c = λ told.
    not_looked _ _ _ _ _ _ c.in_err-movie.field-0.0 told c.in_err-movie.ensures.refusal (c.in_err-movie.ensures.work told).work (c.in_err-movie.ensures.work told).within

pub returns-in_err-head-clause-work : goal.returns-in_err-head-clause-work
returns-in_err-head-clause-work g c = λ told.
    let o = c.in_ok-movie.ensures.movie told in
    looked_within _ _ _ c.in_ok-movie.movie o.0 o.1 ((c.in_ok-movie.ensures.work told).work o.0 (file_tree_is _ _ o.0 o.1))

pub returns-in_err-text-clause-work : goal.returns-in_err-text-clause-work
returns-in_err-text-clause-work g c = λ told.
    let o = c.in_ok-movie.ensures.movie told in
    looked_within _ _ _ c.in_ok-movie.movie o.0 o.1 ((c.in_ok-movie.ensures.work told).work o.0 (file_tree_is _ _ o.0 o.1))

pub returns-in_err-push-clause-work : goal.returns-in_err-push-clause-work
returns-in_err-push-clause-work g c = λ told.
    let o = c.in_ok-movie.ensures.movie told in
    looked_within _ _ _ c.in_ok-movie.movie o.0 o.1 ((c.in_ok-movie.ensures.work told).work o.0 (file_tree_is _ _ o.0 o.1))

pub returns-clause-work : goal.returns-clause-work
returns-clause-work g c = λ told.
    let o = c.in_ok-movie.ensures.movie told in
    looked_within _ _ _ c.in_ok-movie.movie o.0 o.1 ((c.in_ok-movie.ensures.work told).work o.0 (file_tree_is _ _ o.0 o.1))

-- ---- looks

pub returns-in_err-movie-clause-looks : goal.returns-in_err-movie-clause-looks
returns-in_err-movie-clause-looks g c = λ told.
    let l = (c.in_err-movie.ensures.work told).looks in
    not_found _ _ _ _ _ _ c.in_err-movie.field-0.0 told c.in_err-movie.ensures.refusal l.said l.within

pub returns-in_err-head-clause-looks : goal.returns-in_err-head-clause-looks
returns-in_err-head-clause-looks g c = λ told.
    finds_taken _ c.in_ok-movie.movie _ _ (c.in_ok-movie.ensures.movie told) (c.in_ok-movie.ensures.work told).looks.said

pub returns-in_err-text-clause-looks : goal.returns-in_err-text-clause-looks
returns-in_err-text-clause-looks g c = λ told.
    finds_taken _ c.in_ok-movie.movie _ _ (c.in_ok-movie.ensures.movie told) (c.in_ok-movie.ensures.work told).looks.said

pub returns-in_err-push-clause-looks : goal.returns-in_err-push-clause-looks
returns-in_err-push-clause-looks g c = λ told.
    finds_taken _ c.in_ok-movie.movie _ _ (c.in_ok-movie.ensures.movie told) (c.in_ok-movie.ensures.work told).looks.said

pub returns-clause-looks : goal.returns-clause-looks
returns-clause-looks g c = λ told.
    finds_taken _ c.in_ok-movie.movie _ _ (c.in_ok-movie.ensures.movie told) (c.in_ok-movie.ensures.work told).looks.said

pub returns-clause-least : goal.returns-clause-least
returns-clause-least g c = λ told p d.
    let taken = c.in_ok-movie.ensures.least told d.tree d.is_tree in
    omega (arith, taken, opened_least _ p d)
