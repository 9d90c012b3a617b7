use Rattle.std.proofs.Common.{subst}
use Rattle.c_memory.specs.Follows.{in_use, Comes}
use Rattle.c_memory.proofs.Following.{use_outside}
use Rattle.c_memory.proofs.laws.uses_cost.Goals as goal

pub returns : goal.returns
returns c = λ p input d h ration cost a b x y spare is run.
    use_outside p input {x = record { left = x.left; spare = spare }} {y = y} d h ration cost ration spare (subst (λ n. Comes p input (in_use d h ration) a (record { left = x.left; spare = n }) cost b y) is run)
