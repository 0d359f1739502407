use Rattle.mp4_answers.proofs.ComparedFiles.{aligned_once}
use Rattle.mp4_answers.proofs.commands.compare.alignments_of.Goals as goal

pub returns-clause-found : goal.returns-clause-found
returns-clause-found g c = rw c.if-not-aligned.false c.align.ensures.aligned

pub returns-clause-opened : goal.returns-clause-opened
returns-clause-opened g c = rw c.if-not-aligned.false (λ told right tree other o u.
    (c.align.ensures.unchanged told right tree other o u, aligned_once c.args.files.now.given tree other _ _ (c.align.ensures.work told right tree other o u)))
