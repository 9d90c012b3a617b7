-- The program that a program is optimised to.
use Rattle.std.specs.Prelude.{List, map}
use Rattle.eir_core.specs.declared.ops.Op.{Op}
use Rattle.eir_core.specs.Eir.{Eir}
use Rattle.eir_opt.specs.Folding.{folded}
use Rattle.eir_opt.specs.Trimming.{trimmed}

-- with the operations of each block changed; the blocks' number and order, the data and the start are kept
abbrev pub with_blocks : (List Op → List Op) → Eir → Eir
with_blocks change p = record { blocks = map change p.blocks; words = p.words; start = p.start }

-- each block is folded and then trimmed
abbrev pub optimised : Eir → Eir
optimised p = with_blocks (λ ops. trimmed (folded ops)) p
