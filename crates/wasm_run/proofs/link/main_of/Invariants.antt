use Rattle.std.proofs.Common.{◌≡◌, drop}
use Rattle.wasm_rule.specs.Start.{main_in}
use Rattle.wasm_run.proofs.link.main_of.Given as goal

abbrev pub invariant-loop-export : goal.invariant-loop-export
invariant-loop-export l = main_in l.m (drop l.export-index l.m.exports) ≡ main_in l.m l.m.exports
