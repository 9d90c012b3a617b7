use Rattle.std.proofs.Common.{◌≡◌, Option, Some, None, sym, ap, subst}
use Rattle.std.specs.Prelude.{Result, Ok, Err, IfOk}
use Rattle.c_syntax.specs.View.{stmt_of, maybe_stmt}
use Rattle.c_syntax.specs.declared.tree.Stmt.{Stmt}
use Rattle.c_types.specs.declared.fault.TypeFault.{TypeFault}
use Rattle.c_types.specs.Refusals.{Judged}
use Rattle.c_types.specs.Units as plain
use Rattle.c_types.specs.Census.{maybe_body_sum}
use Rattle.c_operands.specs.Seen.{IsJudged}
use Rattle.c_forms.proofs.PartLemmas.{ok_is, err_is}
use Rattle.c_signatures.specs.declared.signature.Signature.{Signature}
use Rattle.c_signatures.specs.Signatures.{IsSignature}
use Rattle.c_weights.specs.Sums.{Sums}
use Rattle.c_census.proofs.functions.count_definition.Goals as goal

pub count_inner-requires : goal.count_inner-requires
count_inner-requires c =
    let table = c.args.types.now in
    let h = c.requires in
    let k = ok_is (IsSignature table h.0) c.in-Ok.f h.1 (subst (λ (j : Result Signature TypeFault). IsJudged (IsSignature table h.0) j h.1) c.in-Ok.is h.3) in
    (h.0, k.0, h.2, k.2)

pub returns-in-Ok-clause-counted : goal.returns-in-Ok-clause-counted
returns-in-Ok-clause-counted c = λ s p h is.
    let table = c.args.types.now in
    let name = c.args.name.now in
    let k = ok_is (IsSignature table s) c.in-Ok.f p (subst (λ (j : Result Signature TypeFault). IsJudged (IsSignature table s) j p) c.in-Ok.is is) in
    subst (λ (o : Option Stmt). IfOk c.count_inner.result (λ r. Sums r (λ q. maybe_body_sum q s name (maybe_stmt o) p))) (sym c.in-Some.is)
    (subst (λ (j : Judged plain.Signature). IfOk c.count_inner.result (λ r. Sums r (λ q. maybe_body_sum q s name (Some (stmt_of c.in-Some.there)) j))) (sym k.1)
    (c.count_inner.ensures.counted s k.0 h k.2))

pub returns-in-Err-clause-counted : goal.returns-in-Err-clause-counted
returns-in-Err-clause-counted c = λ s p h is.
    let table = c.args.types.now in
    let name = c.args.name.now in
    let e = err_is (IsSignature table s) c.in-Err.field-0 p (subst (λ (j : Result Signature TypeFault). IsJudged (IsSignature table s) j p) c.in-Err.is is) in
    subst (λ (o : Option Stmt). Sums c.nothing.result (λ q. maybe_body_sum q s name (maybe_stmt o) p)) (sym c.in-Some.is)
    (subst (λ (j : Judged plain.Signature). Sums c.nothing.result (λ q. maybe_body_sum q s name (Some (stmt_of c.in-Some.there)) j)) (sym e) c.nothing.ensures)

pub returns-in-None-clause-counted : goal.returns-in-None-clause-counted
returns-in-None-clause-counted c = λ s p h is.
    subst (λ (o : Option Stmt). Sums c.nothing-in-None.result (λ q. maybe_body_sum q s c.args.name.now (maybe_stmt o) p)) (sym c.in-None.is) c.nothing-in-None.ensures
