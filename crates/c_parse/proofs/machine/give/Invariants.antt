use Rattle.std.proofs.Common.{◌≡◌, []}
use Rattle.c_frames.specs.Stack.{opens}
use Rattle.c_progress.specs.Progress.{IsGoing, given, left_over}
use Rattle.c_parse.proofs.machine.give.Given as goal

abbrev pub invariant-endings : goal.invariant-endings
invariant-endings l = IsGoing l.progress l.stack.items × (given l.fn.progress l.token (opens l.fn.stack.items []) ≡ given l.progress l.token (opens l.stack.items []))

abbrev pub decreases-endings : goal.decreases-endings
decreases-endings l = left_over l.progress l.stack.items
