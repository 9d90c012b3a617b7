use Rattle.std.proofs.Common.{◌≡◌, map, take}
use Rattle.eir_opt.specs.Folding.{folded}
use Rattle.eir_opt.specs.Trimming.{trimmed}
use Rattle.eir_opt.proofs.program.optimise.Given as goal

abbrev pub invariant-loop-k : goal.invariant-loop-k
invariant-loop-k l = map (λ ops. ops.items) l.blocks.items ≡ map (λ ops. trimmed (folded ops)) (take l.k l.p.blocks)
