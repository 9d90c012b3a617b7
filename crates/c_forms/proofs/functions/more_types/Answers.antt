use Rattle.std.proofs.Common.{ℕ, sym, subst}
use Rattle.std.specs.Prelude.{Result, Ok, IfOk}
use Rattle.c_types.specs.declared.fault.TypeFault.{TypeFault}
use Rattle.c_types.specs.Types as types
use Rattle.c_types.specs.Types.{CType, CTypes}
use Rattle.c_types.specs.Refusals.{Judged, after}
use Rattle.c_types.specs.Expressions.{parameter_type}
use Rattle.c_types.specs.Table.{HasType}
use Rattle.c_operands.specs.Seen.{IsJudged}
use Rattle.c_operands.specs.Arguments.{HasList}
use Rattle.c_forms.proofs.PartLemmas.{ok_is, err_is, told_first, told_second, both_ok}
use Rattle.c_forms.proofs.functions.more_types.Goals as goal

abbrev more : ℕ → CType → CTypes → Judged CTypes
more at t ts = after (parameter_type at t) (λ u. Ok (types.MoreType u ts))

pub first_parameter-requires-clause-ty : goal.first_parameter-requires-clause-ty
first_parameter-requires-clause-ty c =
    let table = c.args.types.now in
    let r = c.requires.first in
    let k = ok_is (HasType table) c.in-Ok.ty r.0 (subst (λ (j : Result ℕ TypeFault). IsJudged (HasType table) j r.0) c.in-Ok.is r.1) in
    (k.0, k.2)

pub first_parameter-requires-clause-list : goal.first_parameter-requires-clause-list
first_parameter-requires-clause-list c =
    let table = c.args.types.now in
    let r = c.requires.others in
    let k = ok_is (HasList table) c.in-Ok-others.list r.0 (subst (λ (j : Result ℕ TypeFault). IsJudged (HasList table) j r.0) c.in-Ok-others.is r.1) in
    (k.0, k.2)

pub returns-in-Ok-others-clause-judged : goal.returns-in-Ok-others-clause-judged
returns-in-Ok-others-clause-judged c = λ p q h g.
    let table = c.args.types.now in
    let k = ok_is (HasType table) c.in-Ok.ty p (subst (λ (j : Result ℕ TypeFault). IsJudged (HasType table) j p) c.in-Ok.is h) in
    let l = ok_is (HasList table) c.in-Ok-others.list q (subst (λ (j : Result ℕ TypeFault). IsJudged (HasList table) j q) c.in-Ok-others.is g) in
    subst (λ (m : Judged CTypes). IfOk c.first_parameter.result (λ j. IsJudged (HasList c.first_parameter.new.types) j m)) (sym (both_ok k.0 l.0 p q (more c.args.at) k.1 l.1))
    (c.first_parameter.ensures.judged k.0 l.0 k.2 l.2)

pub returns-in-Err-others-clause-judged : goal.returns-in-Err-others-clause-judged
returns-in-Err-others-clause-judged c = λ p q h g.
    let table = c.args.types.now in
    let k = ok_is (HasType table) c.in-Ok.ty p (subst (λ (j : Result ℕ TypeFault). IsJudged (HasType table) j p) c.in-Ok.is h) in
    let e = err_is (HasList table) c.in-Err-others.fault q (subst (λ (j : Result ℕ TypeFault). IsJudged (HasList table) j q) c.in-Err-others.is g) in
    told_second (HasList table) c.in-Err-others.fault k.0 p q (more c.args.at) k.1 e

pub returns-in-Err-clause-judged : goal.returns-in-Err-clause-judged
returns-in-Err-clause-judged c = λ p q h g.
    let table = c.args.types.now in
    let e = err_is (HasType table) c.in-Err.fault p (subst (λ (j : Result ℕ TypeFault). IsJudged (HasType table) j p) c.in-Err.is h) in
    told_first (HasList table) (HasList table) c.in-Err.fault c.least_of.result c.err.result c.args.others p q (more c.args.at) e g c.err.ensures.value c.least_of.ensures
