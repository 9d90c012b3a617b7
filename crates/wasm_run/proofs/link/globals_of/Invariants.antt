use Rattle.std.proofs.Common.{◌≡◌, take, map}
use Rattle.wasm_rule.specs.Start.{first_value}
use Rattle.wasm_run.proofs.link.globals_of.Given as goal

abbrev pub invariant-loop-variable : goal.invariant-loop-variable
invariant-loop-variable l = l.globals.items ≡ map first_value (take l.variable-index l.m.globals)
