use Rattle.std.proofs.Common.{sym, subst}
use Rattle.std.specs.Prelude.{IfOk, option_map}
use Rattle.c_types.specs.Operands as plain
use Rattle.c_operands.specs.Seen.{IsOperand, IsJudged}
use Rattle.c_operands.specs.declared.arguments.Callee.{Callee}
use Rattle.c_operands.specs.Arguments.{IsCallee}
use Rattle.c_operands.proofs.CallLemmas.{direct_is, through_is, format_is}
use Rattle.c_operands.proofs.calls.call.Goals as goal

pub function_call-requires : goal.function_call-requires
function_call-requires c =
    let table = c.args.types.now in
    let k = c.requires.0 in
    let d = direct_is table c.in-Direct.ty c.in-Direct.defined k (subst (λ (x : Callee). IsCallee table x k) c.in-Direct.is c.requires.1) in
    (d.0, d.2)

pub returns-in-Direct-clause-judged : goal.returns-in-Direct-clause-judged
returns-in-Direct-clause-judged c = λ k xs h a.
    let table = c.args.types.now in
    let form = option_map (λ f. f.now) c.args.format in
    let d = direct_is table c.in-Direct.ty c.in-Direct.defined k (subst (λ (x : Callee). IsCallee table x k) c.in-Direct.is h) in
    subst (λ (x : plain.Callee). IsJudged (IsOperand table) c.function_call.result (plain.call_operand c.args.at x form xs)) (sym d.1)
    (c.function_call.ensures d.0 xs d.2 a)

pub pointer_call-requires : goal.pointer_call-requires
pointer_call-requires c =
    let table = c.args.types.now in
    let k = c.requires.0 in
    let d = through_is table c.in-Through.ty k (subst (λ (x : Callee). IsCallee table x k) c.in-Through.is c.requires.1) in
    (d.0, d.2)

pub returns-in-Through-clause-judged : goal.returns-in-Through-clause-judged
returns-in-Through-clause-judged c = λ k xs h a.
    let table = c.args.types.now in
    let form = option_map (λ f. f.now) c.args.format in
    let d = through_is table c.in-Through.ty k (subst (λ (x : Callee). IsCallee table x k) c.in-Through.is h) in
    subst (λ (x : plain.Callee). IsJudged (IsOperand table) c.pointer_call.result (plain.call_operand c.args.at x form xs)) (sym d.1)
    (c.pointer_call.ensures d.0 xs d.2 a)

pub returns-in-Format-clause-judged : goal.returns-in-Format-clause-judged
returns-in-Format-clause-judged c = λ k xs h a.
    let table = c.args.types.now in
    let form = option_map (λ f. f.now) c.args.format in
    let e = format_is table k (subst (λ (x : Callee). IsCallee table x k) c.in-Format.is h) in
    subst (λ (x : plain.Callee). IfOk c.print_call.result (λ j. IsJudged (IsOperand c.print_call.new.types) j (plain.call_operand c.args.at x form xs))) (sym e)
    (c.print_call.ensures.judged xs a)
