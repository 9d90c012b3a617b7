use Rattle.c_types.specs.Declarations.{site_rules}
use Rattle.c_operands.proofs.OperandLemmas.{operand_kept}
use Rattle.c_declared.proofs.RuleLemmas.{value_rules}
use Rattle.c_declared.proofs.value_rules.value_fault.Goals as goal

pub returns-clause-told : goal.returns-clause-told
returns-clause-told c = λ x t e o h f.
    value_rules c.merged.result c.in_ok-object.object c.site_fault-site.result t e x (site_rules c.args.file e x) c.merged.ensures
    (c.in_ok-object.ensures.told x t e o h f)
    (c.site_fault-site.ensures x e (operand_kept c.args.types.now c.object_fault.new.types c.args.a x c.in_ok-object.ensures.grows o) f)
