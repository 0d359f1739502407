-- What the command line asks for.
use Rattle.std.specs.Prelude.{◌<◌, ◌≤◌, length, false, None, IfSome}
use Rattle.mp4norm.specs.declared.shell.action.Action.{Action}
use Rattle.mp4norm.specs.declared.shell.action.Action.TheVariants as actions
use Rattle.mp4norm.specs.declared.shell.action.Input.TheVariants as inputs
use Rattle.mp4_answers.specs.declared.jobs.Job.{Job}
use Rattle.mp4_answers.specs.declared.jobs.Job.TheVariants as jobs
use Rattle.mp4_answers.specs.declared.jobs.Syntax.TheVariants as syntaxes
use Rattle.mp4norm.specs.declared.shell.action.Target.TheVariants as targets

-- a track's ID is at least 1
abbrev pub IsJob : Job → Type 0
IsJob (jobs.Samples track form) = 1 ≤ track
IsJob (jobs.Extract track) = 1 ≤ track
IsJob (jobs.Reduce selection) = IfSome selection.track (λ id. 1 ≤ id)
IsJob (jobs.Print selection) = IfSome selection.track (λ id. 1 ≤ id)
IsJob _ = Unit {0}

-- and some box is named that is to be free space
abbrev pub IsAction : Action → Type 0
IsAction (actions.Run job order) = IsJob job
IsAction (actions.Strip names order) = 0 < length names.items
IsAction _ = Unit {0}

-- the boxes of standard input
abbrev pub boxes_of_input : Action
boxes_of_input = actions.Run (jobs.Boxes syntaxes.Text) (record {
  input = inputs.Standard;
  target = targets.Standard;
  most = None;
  freeing = record { foreign = false; lossy = false };
  telling = record { explain = false; brief = false; progress = false };
})
