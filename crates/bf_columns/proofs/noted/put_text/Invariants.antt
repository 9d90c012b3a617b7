use Rattle.std.proofs.Common.{◌≡◌, ◌++◌, drop}
use Rattle.bf_columns.specs.Noted.{noted}
use Rattle.bf_columns.proofs.noted.put_text.Given as goal

abbrev pub invariant-loop-sign : goal.invariant-loop-sign
invariant-loop-sign l = l.code.items ++ noted l.cells l.at (drop l.sign-index l.text) ≡ l.fn.code.items ++ noted l.cells l.fn.head l.text
