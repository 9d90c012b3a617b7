use Rattle.std.proofs.Common.{ℕ, [], ◌∷◌, sym, subst, ◌∙◌}
use Rattle.std.specs.Prelude.{Result}
use Rattle.c_types.specs.declared.fault.TypeFault.{TypeFault}
use Rattle.c_types.specs.declared.fault.TypeFault.TheVariants as fault
use Rattle.c_types.specs.Types as types
use Rattle.c_types.specs.Types.{CType, CTypes}
use Rattle.c_types.specs.Refusals.{Judged, keeping}
use Rattle.c_types.specs.Expressions.{is_result_type}
use Rattle.c_types.specs.declared.shape.Shape.TheVariants as shape
use Rattle.c_types.specs.Known.{OneType, says}
use Rattle.c_types.specs.Table.{known, HasType}
use Rattle.c_operands.specs.Seen.{IsJudged}
use Rattle.c_operands.proofs.OperandLemmas.{type_within}
use Rattle.c_operands.specs.Arguments.{HasList}
use Rattle.c_forms.proofs.PartLemmas.{ok_is, err_is, told_first, told_second, both_ok}
use Rattle.c_forms.proofs.WrittenLemmas.{known_some, function_known, rule_as, result_as}
use Rattle.c_forms.proofs.functions.function_type.Goals as goal

abbrev function : ℕ → CType → CTypes → Judged CType
function at t ts = keeping ((is_result_type t, fault.Mismatch at) ∷ []) (types.Function t ts)

pub class_of-requires : goal.class_of-requires
class_of-requires c =
    let table = c.args.types.now in
    let r = c.requires.gives in
    let k = ok_is (HasType table) c.in-Ok.ty r.0 (subst (λ (j : Result ℕ TypeFault). IsJudged (HasType table) j r.0) c.in-Ok.is r.1) in
    type_within table c.in-Ok.ty k.0 k.2

pub number-requires : goal.number-requires
number-requires c =
    let table = c.args.types.now in
    let r = c.requires.gives in
    let q = c.requires.parameters in
    let k = ok_is (HasType table) c.in-Ok.ty r.0 (subst (λ (j : Result ℕ TypeFault). IsJudged (HasType table) j r.0) c.in-Ok.is r.1) in
    let l = ok_is (HasList table) c.in-Ok-parameters.list q.0 (subst (λ (j : Result ℕ TypeFault). IsJudged (HasList table) j q.0) c.in-Ok-parameters.is q.1) in
    known_some (says table.tags (known table) (shape.Function c.in-Ok.ty c.in-Ok-parameters.list)) (OneType (types.Function k.0 l.0)) (function_known table.tags (known table) c.in-Ok.ty c.in-Ok-parameters.list k.0 l.0 k.2 l.2)

pub returns-in_ok-function-in-Ok-parameters-clause-judged : goal.returns-in_ok-function-in-Ok-parameters-clause-judged
returns-in_ok-function-in-Ok-parameters-clause-judged c = λ p q h g.
    let table = c.args.types.now in
    let new = c.number.new.self in
    let k = ok_is (HasType table) c.in-Ok.ty p (subst (λ (j : Result ℕ TypeFault). IsJudged (HasType table) j p) c.in-Ok.is h) in
    let l = ok_is (HasList table) c.in-Ok-parameters.list q (subst (λ (j : Result ℕ TypeFault). IsJudged (HasList table) j q) c.in-Ok-parameters.is g) in
    let made = c.in_ok-function-in-Ok-parameters.ensures.number ∙ function_known table.tags (known table) c.in-Ok.ty c.in-Ok-parameters.list k.0 l.0 k.2 l.2 in
    let kept = result_as c.is_result-kept.result c.class_of.result k.0 c.is_result-kept.ensures (c.class_of.ensures k.0 k.2) in
    subst (λ (m : Judged CType). IsJudged (HasType new) c.type_rule.result m) (sym (both_ok k.0 l.0 p q (function c.args.at) k.1 l.1))
    (rule_as new c.type_rule.result (types.Function k.0 l.0) c.is_result-kept.result (is_result_type k.0) (fault.Mismatch c.args.at) kept (c.type_rule.ensures new (types.Function k.0 l.0) made))

pub returns-in-Err-parameters-clause-judged : goal.returns-in-Err-parameters-clause-judged
returns-in-Err-parameters-clause-judged c = λ p q h g.
    let table = c.args.types.now in
    let k = ok_is (HasType table) c.in-Ok.ty p (subst (λ (j : Result ℕ TypeFault). IsJudged (HasType table) j p) c.in-Ok.is h) in
    let e = err_is (HasList table) c.in-Err-parameters.fault q (subst (λ (j : Result ℕ TypeFault). IsJudged (HasList table) j q) c.in-Err-parameters.is g) in
    told_second (HasType table) c.in-Err-parameters.fault k.0 p q (function c.args.at) k.1 e

pub returns-in-Err-clause-judged : goal.returns-in-Err-clause-judged
returns-in-Err-clause-judged c = λ p q h g.
    let table = c.args.types.now in
    let e = err_is (HasType table) c.in-Err.fault p (subst (λ (j : Result ℕ TypeFault). IsJudged (HasType table) j p) c.in-Err.is h) in
    told_first (HasList table) (HasType table) c.in-Err.fault c.least_of.result c.err.result c.args.parameters p q (function c.args.at) e g c.err.ensures.value c.least_of.ensures
