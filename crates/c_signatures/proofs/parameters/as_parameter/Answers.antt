use Rattle.std.proofs.Common.{sym, subst, refl, ◌∙◌}
use Rattle.std.specs.Prelude.{Ok, Err}
use Rattle.c_types.specs.declared.fault.TypeFault.TheVariants as fault
use Rattle.c_types.specs.Types.{CType, decayed}
use Rattle.c_types.specs.Refusals.{Judged}
use Rattle.c_types.specs.Table.{HasType}
use Rattle.c_operands.specs.Seen.{IsJudged}
use Rattle.c_operands.proofs.OperandLemmas.{type_within}
use Rattle.c_forms.proofs.WrittenLemmas.{scalar_as}
use Rattle.c_signatures.proofs.ParameterLemmas.{parameter_ok, parameter_err}
use Rattle.c_signatures.proofs.parameters.as_parameter.Goals as goal

pub class_of-requires : goal.class_of-requires
class_of-requires c =
    let r = c.requires in
    type_within c.used_type.new.types c.in_ok-used.used (decayed r.0) (c.in_ok-used.ensures.used r.0 r.1)

pub returns-then-is_scalar-clause-judged : goal.returns-then-is_scalar-clause-judged
returns-then-is_scalar-clause-judged c = λ t h.
    let new = c.used_type.new.types in
    let used = c.in_ok-used.ensures.used t h in
    let scalar = scalar_as c.is_scalar.result c.class_of.result (decayed t) c.is_scalar.ensures (c.class_of.ensures (decayed t) used) in
    subst (λ (q : Judged CType). IsJudged (HasType new) (Ok c.in_ok-used.used) q) (sym (parameter_ok c.args.at t (sym scalar ∙ c.if-is_scalar.true))) used

pub returns-else-is_scalar-clause-judged : goal.returns-else-is_scalar-clause-judged
returns-else-is_scalar-clause-judged c = λ t h.
    let new = c.used_type.new.types in
    let used = c.in_ok-used.ensures.used t h in
    let scalar = scalar_as c.is_scalar.result c.class_of.result (decayed t) c.is_scalar.ensures (c.class_of.ensures (decayed t) used) in
    subst (λ (q : Judged CType). IsJudged (HasType new) (Err (fault.Mismatch c.args.at)) q) (sym (parameter_err c.args.at t (sym scalar ∙ c.if-is_scalar.false))) refl
