use Rattle.std.proofs.Common.{List, sym, subst}
use Rattle.std.specs.Prelude.{Result, IfOk, option_map}
use Rattle.c_types.specs.declared.fault.TypeFault.{TypeFault}
use Rattle.c_types.specs.Refusals.{Judged}
use Rattle.c_types.specs.Operands as plain
use Rattle.c_types.specs.Operands.{call_operand}
use Rattle.c_operands.specs.Seen.{IsOperand, IsJudged}
use Rattle.c_operands.specs.declared.arguments.Argument.{Argument}
use Rattle.c_operands.specs.declared.arguments.Callee.{Callee}
use Rattle.c_operands.specs.Arguments.{IsCallee, AreArguments}
use Rattle.c_expressions.specs.Told.{AreGiven}
use Rattle.c_forms.proofs.PartLemmas.{ok_is, err_is, told_first, told_second, both_ok}
use Rattle.c_expressions.proofs.calls.after_call.Goals as goal

pub call-requires : goal.call-requires
call-requires c =
    let table = c.args.types.now in
    let k = ok_is (IsCallee table) c.in-Ok.called c.requires.0 (subst (λ (r : Result Callee TypeFault). IsJudged (IsCallee table) r c.requires.0) c.in-Ok.is c.requires.1) in
    (k.0, k.2)

pub returns-in-Ok-arguments-clause-judged : goal.returns-in-Ok-arguments-clause-judged
returns-in-Ok-arguments-clause-judged c = λ p q h k.
    let table = c.args.types.now in
    let format = option_map (λ f. f.now) c.args.format in
    let l = ok_is (IsCallee table) c.in-Ok.called p (subst (λ (r : Result Callee TypeFault). IsJudged (IsCallee table) r p) c.in-Ok.is h) in
    let r = ok_is (AreGiven table) c.in-Ok-arguments.given q (subst (λ (j : Result _ TypeFault). IsJudged (AreGiven table) j q) c.in-Ok-arguments.is k) in
    let given = subst (λ (all : List Argument). AreArguments table all r.0) (sym c.as_slice.ensures.value) r.2 in
    subst (λ (m : Judged plain.Operand). IfOk c.call.result (λ j. IsJudged (IsOperand c.call.new.types) j m))
    (sym (both_ok l.0 r.0 p q (λ x xs. call_operand c.args.at x format xs) l.1 r.1))
    (c.call.ensures.judged l.0 r.0 l.2 given)

pub returns-in-Err-arguments-clause-judged : goal.returns-in-Err-arguments-clause-judged
returns-in-Err-arguments-clause-judged c = λ p q h k.
    let table = c.args.types.now in
    let format = option_map (λ f. f.now) c.args.format in
    let l = ok_is (IsCallee table) c.in-Ok.called p (subst (λ (r : Result Callee TypeFault). IsJudged (IsCallee table) r p) c.in-Ok.is h) in
    let e = err_is (AreGiven table) c.in-Err-arguments.fault q (subst (λ (j : Result _ TypeFault). IsJudged (AreGiven table) j q) c.in-Err-arguments.is k) in
    told_second (IsOperand table) c.in-Err-arguments.fault l.0 p q (λ x xs. call_operand c.args.at x format xs) l.1 e

pub returns-in-Err-clause-judged : goal.returns-in-Err-clause-judged
returns-in-Err-clause-judged c = λ p q h k.
    let table = c.args.types.now in
    let format = option_map (λ f. f.now) c.args.format in
    let e = err_is (IsCallee table) c.in-Err.fault p (subst (λ (r : Result Callee TypeFault). IsJudged (IsCallee table) r p) c.in-Err.is h) in
    told_first (AreGiven table) (IsOperand table) c.in-Err.fault c.least_of.result c.err.result c.args.arguments p q (λ x xs. call_operand c.args.at x format xs) e k c.err.ensures.value c.least_of.ensures
