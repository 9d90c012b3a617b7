use Rattle.std.proofs.Common.{◌≡◌, ℕ, ◌+◌, ◌++◌, Bool, true, false, not, ◌||◌, List, [], ◌∷◌, length, refl, sym, ap, subst, ◌∙◌, append_assoc, append-nil, arith, if◌then◌else◌}
use Rattle.std.specs.Prelude.{Option, Some, None, OnOk, IfOk}
use Rattle.c_applied.specs.Pieces as pieces
use Rattle.eir_core.specs.declared.ops.Operand.{Operand}
use Rattle.eir_core.specs.declared.ops.Op.TheVariants.{Set}
use Rattle.c_lowered.specs.Operations.{moved_from}
use Rattle.c_addressing.specs.Here.{Emits}
use Rattle.c_addressing.proofs.HereLemmas.{as_code}
use Rattle.c_applied.proofs.LeadsLemmas.{then_piece}
use Rattle.c_applied.proofs.PieceLemmas.{comparison_is}
use Rattle.c_applied.proofs.operators.put_comparison.Goals as goal

pub returns : goal.returns
returns c = as_code (comparison_is c.args.signed c.args.test c.args.first c.args.second)
    (then_piece c.in_ok-put_lifts.ensures (subst (λ (o : Operand). Emits c.put_lifts.new.out c.compared.new.out (Set c.args.test c.args.first o ∷ moved_from c.args.first) 0) c.compared_operand.ensures c.in_ok-compared.ensures))
