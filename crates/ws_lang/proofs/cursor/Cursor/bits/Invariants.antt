use Rattle.std.proofs.Common.{length, ◌-◌}
use Rattle.ws_lang.proofs.CursorLemmas.{ReadsBits}
use Rattle.ws_lang.proofs.cursor.Cursor.bits.Given as goal

abbrev pub invariant-loop-sign : goal.invariant-loop-sign
invariant-loop-sign l = ReadsBits l.fn.self l.self l.bits.items

abbrev pub decreases-loop-sign : goal.decreases-loop-sign
decreases-loop-sign l = length l.self.text.now - l.self.at
