-- Rows computed on the definitions alone.
use Rattle.std.proofs.Common.{◌≡◌, ◌^◌, [], ◌∷◌, true, false, refl}
use Rattle.word24.specs.declared.word.Word.{Word}
use Rattle.eir_core.specs.declared.ops.Reg.TheVariants.{A}
use Rattle.eir_core.specs.declared.ops.Operand.TheVariants.{Imm}
use Rattle.eir_core.specs.declared.ops.Op.TheVariants.{Load}
use Rattle.eir_core.specs.Reach.{reach}
use Rattle.sim_bounds.specs.Closed.{most_steps}

-- the word in the middle is reached
middle : (w : Word) → w.value ≡ 8388607 → reach (record { blocks = (Load A (Imm w) ∷ []) ∷ []; words = []; start = 0 }) [] 1 ≡ 8388607
middle w is = rw is refl

-- five steps of a program of size 2, by reach and not
by_reach : most_steps (record { factor = 2 ^ 24; by_reach = true }) 2 5 ≡ 2533274790395904
by_reach = refl

direct : most_steps (record { factor = 2 ^ 8; by_reach = false }) 2 5 ≡ 4608
direct = refl
