use Rattle.std.proofs.Common.{length, ◌-◌}
use Rattle.ws_lang.specs.Cursor.{Passes}
use Rattle.ws_lang.proofs.cursor.Cursor.next.Given as goal

abbrev pub invariant-loop-self : goal.invariant-loop-self
invariant-loop-self l = Passes l.fn.self l.self

abbrev pub decreases-loop-self : goal.decreases-loop-self
decreases-loop-self l = length l.self.text.now - l.self.at
