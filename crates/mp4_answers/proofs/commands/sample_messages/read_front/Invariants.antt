use Rattle.std.proofs.Common.{◌≡◌, ◌-◌, ◌≤◌, length}
use Rattle.std.specs.Prelude.{IsTrue}
use Rattle.mp4_answers.specs.words.SampleMessages.{AreReadyTo, HaveBytesOf}
use Rattle.mp4_answers.proofs.SampleLists.{EndBefore}
use Rattle.mp4_answers.proofs.commands.sample_messages.read_front.Given as goal

-- no read failed, and the first messages are the first samples, and end where the next begins
abbrev pub invariant-loop-count : goal.invariant-loop-count
invariant-loop-count g l = record {
  few : l.count ≤ length l.samples;
  room : l.count ≤ length l.messages;
  honesty : g.S.Store.is_honest l.store ≡ g.S.Store.is_honest l.fn.store;
  file : g.S.Store.file l.store ≡ g.S.Store.file l.fn.store;
  reads : g.S.Store.read_failures l.store ≡ g.S.Store.read_failures l.fn.store;
  within : l.start ≤ length l.bytes;
  before : EndBefore l.messages l.count l.start;
  ready : AreReadyTo l.bytes l.messages l.count;
  bytes : IsTrue (g.S.Store.is_honest l.fn.store) → HaveBytesOf (g.S.Store.file l.fn.store) l.bytes l.messages l.samples l.count;
}

abbrev pub decreases-loop-count : goal.decreases-loop-count
decreases-loop-count g l = length l.samples - l.count
