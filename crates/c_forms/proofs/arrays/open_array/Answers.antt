use Rattle.std.proofs.Common.{ℕ, refl, sym, subst, ◌∙◌}
use Rattle.std.specs.Prelude.{Result, Err}
use Rattle.c_types.specs.declared.fault.TypeFault.{TypeFault}
use Rattle.c_types.specs.declared.fault.TypeFault.TheVariants as fault
use Rattle.c_types.specs.Types as types
use Rattle.c_types.specs.Types.{CType, is_object_type}
use Rattle.c_types.specs.Refusals.{Judged, after}
use Rattle.c_types.specs.Expressions.{array_of}
use Rattle.c_types.specs.declared.shape.Shape.TheVariants as shape
use Rattle.c_types.specs.Known.{OneType, says}
use Rattle.c_types.specs.Table.{known, HasType}
use Rattle.c_operands.specs.Seen.{IsJudged}
use Rattle.c_operands.proofs.OperandLemmas.{type_within}
use Rattle.c_forms.proofs.PartLemmas.{ok_is, err_is}
use Rattle.c_forms.proofs.WrittenLemmas.{known_some, array_known, rule_as}
use Rattle.c_forms.proofs.arrays.open_array.Goals as goal

pub is_object_type-kept-requires : goal.is_object_type-kept-requires
is_object_type-kept-requires c =
    let table = c.args.types.now in
    let k = ok_is (HasType table) c.in-Ok.of c.requires.0 (subst (λ (r : Result ℕ TypeFault). IsJudged (HasType table) r c.requires.0) c.in-Ok.is c.requires.1) in
    type_within table c.in-Ok.of k.0 k.2

pub number-requires : goal.number-requires
number-requires c =
    let table = c.args.types.now in
    let k = ok_is (HasType table) c.in-Ok.of c.requires.0 (subst (λ (r : Result ℕ TypeFault). IsJudged (HasType table) r c.requires.0) c.in-Ok.is c.requires.1) in
    known_some (says table.tags (known table) (shape.Array c.in-Ok.of 0)) (OneType (types.Array k.0 0)) (array_known table.tags (known table) c.in-Ok.of 0 k.0 k.2)

pub returns-in_ok-array-in-Ok-clause-judged : goal.returns-in_ok-array-in-Ok-clause-judged
returns-in_ok-array-in-Ok-clause-judged c = λ p s h all.
    let table = c.args.types.now in
    let new = c.number.new.self in
    let k = ok_is (HasType table) c.in-Ok.of p (subst (λ (r : Result ℕ TypeFault). IsJudged (HasType table) r p) c.in-Ok.is h) in
    let array = c.in_ok-array-in-Ok.ensures.number ∙ array_known table.tags (known table) c.in-Ok.of 0 k.0 k.2 in
    let kept = c.is_object_type-kept.ensures k.0 s.tags k.2 all in
    subst (λ (q : Judged CType). IsJudged (HasType new) c.type_rule.result (after q (λ t. array_of s c.args.at t 0))) (sym k.1)
    (rule_as new c.type_rule.result (types.Array k.0 0) c.is_object_type-kept.result (is_object_type s.tags k.0) (fault.Mismatch c.args.at) kept (c.type_rule.ensures new (types.Array k.0 0) array))

pub returns-in-Err-clause-judged : goal.returns-in-Err-clause-judged
returns-in-Err-clause-judged c = λ p s h all.
    let table = c.args.types.now in
    let e = err_is (HasType table) c.in-Err.fault p (subst (λ (r : Result ℕ TypeFault). IsJudged (HasType table) r p) c.in-Err.is h) in
    subst (λ (q : Judged CType). IsJudged (HasType table) (Err c.in-Err.fault) (after q (λ t. array_of s c.args.at t 0))) (sym e) refl
