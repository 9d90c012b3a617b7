use Rattle.std.proofs.Common.{◌≡◌, drop}
use Rattle.c_declared.specs.Held.{IsAround}
use Rattle.c_signatures.specs.Parameters.{with_entries}
use Rattle.c_signatures.proofs.parameters.declare_again.Given as goal

abbrev pub invariant-loop-p : goal.invariant-loop-p
invariant-loop-p l = (with_entries l.declared.names.block (drop l.p-index l.parameters) ≡ with_entries l.fn.declared.names.block l.parameters) × IsAround l.fn.declared l.declared
