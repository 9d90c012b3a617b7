use Rattle.std.proofs.Common.{◌≡◌, ℕ, [], ◌∷◌, sym, subst, ◌∙◌}
use Rattle.std.specs.Prelude.{OnOk}
use Rattle.c_syntax.specs.View.{expr_of, exprs_of}
use Rattle.c_types.specs.Expressions.{format_of}
use Rattle.c_eval.specs.Environment.{Callee, callee_in}
use Rattle.c_code.specs.Code as code
use Rattle.c_code.specs.Code.{count_of, count_behind}
use Rattle.c_operands.specs.Arguments.{HasList}
use Rattle.c_emitted.specs.Emits.{Emits}
use Rattle.c_flat_expressions.specs.Parts.{ending_code, parameters_in, parameters_told}
use Rattle.c_flat_expressions.proofs.OnwardLemmas.{Onward, fits_on}
use Rattle.c_flat_expressions.proofs.PartLemmas.{called_named, through_unnamed, count_is}
use Rattle.c_flat_expressions.proofs.calls.ending.Goals as goal

pub named_ending-requires : goal.named_ending-requires
named_ending-requires c = (parameters_told c.requires.0, c.in_ok-list.ensures.list c.requires.0 c.requires.1)

pub through-requires : goal.through-requires
through-requires c = (parameters_told c.requires.0, c.in_ok-list.ensures.list c.requires.0 c.requires.1)

pub returns-in-Some-clause-emits : goal.returns-in-Some-clause-emits
returns-in-Some-clause-emits c = λ s p fits judged same.
    let e = expr_of c.args.f.now in
    let es = exprs_of c.args.arguments.now in
    let table = c.parameters.new.types in
    let f : Onward c.args.types.now table = record { grows = c.in_ok-list.ensures.grows; tags = c.in_ok-list.ensures.tags } in
    let list : HasList table c.in_ok-list.list (parameters_in (callee_in s e)) = subst (HasList table c.in_ok-list.list) same (c.in_ok-list.ensures.list p judged) in
    subst (λ (k : Callee). HasList table c.in_ok-list.list (parameters_in k) → OnOk c.named_ending.result (Emits c.args.out.now c.named_ending.new.out (ending_code k (format_of es) (count_of es) (count_behind es)) []))
    (sym (called_named s e c.in-Some.name.now c.in-Some.ensures)) (c.named_ending.ensures s (fits_on f fits)) list

pub returns-in-None-clause-emits : goal.returns-in-None-clause-emits
returns-in-None-clause-emits c = λ s p fits judged same.
    let e = expr_of c.args.f.now in
    let es = exprs_of c.args.arguments.now in
    let table = c.parameters.new.types in
    let params = parameters_in (callee_in s e) in
    let list : HasList table c.in_ok-list.list params = subst (HasList table c.in_ok-list.list) same (c.in_ok-list.ensures.list p judged) in
    let count : c.len.result ≡ count_of es = c.len.ensures ∙ count_is c.args.arguments.now in
    subst (λ (k : Callee). OnOk c.through.result (Emits c.args.out.now c.through.new.out (ending_code k (format_of es) (count_of es) (count_behind es)) [])) (sym (through_unnamed s e c.in-None.ensures))
    (subst (λ (n : ℕ). OnOk c.through.result (Emits c.args.out.now c.through.new.out (code.CallThrough params n ∷ []) [])) count (c.through.ensures params list))
