use Rattle.std.proofs.Common.{◌≡◌, drop, reverse}
use Rattle.eir_core.specs.declared.ops.Reg.{Reg}
use Rattle.eir_opt.specs.ByRegister.{at}
use Rattle.eir_opt.specs.Trimming.{is_overwritten, trimmed}
use Rattle.eir_opt.proofs.trim.trim.Given as goal

abbrev pub invariant-loop-k : goal.invariant-loop-k
invariant-loop-k l = record {
  kept : reverse l.kept.items ≡ trimmed (drop l.k l.ops);
  overwritten : (r : Reg) → at l.overwritten r ≡ is_overwritten (reverse l.kept.items) r;
}
