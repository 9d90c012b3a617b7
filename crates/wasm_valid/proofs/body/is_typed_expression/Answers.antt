use Rattle.std.proofs.Common.{◌≡◌, ◌++◌, ◌∷◌, [], ap, ◌∙◌}
use Rattle.std.specs.Prelude.{MatchBool}
use Rattle.std.proofs.lemmas.Result.{IfOk-weaker}
use Rattle.wasm_bin.specs.declared.module.Instr.TheVariants.{End}
use Rattle.wasm_valid.specs.Context.{context_of}
use Rattle.wasm_valid.specs.Typing.{IsTypedExpression}
use Rattle.wasm_valid.specs.Checking.{accepts}
use Rattle.wasm_valid.proofs.Deciding.{answered}
use Rattle.wasm_valid.proofs.body.is_typed_expression.Goals as goal

pub returns-in-Some-End-default : goal.returns-in-Some-End-default
returns-in-Some-End-default c =
    let k = context_of c.args.m.now c.args.locals c.args.results in
    let front = c.in-Some-End-default.front.now in
    let whole : c.args.code.now ≡ front ++ End ∷ [] = c.in-Some-End-default.ensures.cases.0 ∙ ap (λ i. front ++ i ∷ []) c.in-Some-End-default.field-0-0-is in
    IfOk-weaker c.is_accepted.result (λ yes. yes ≡ accepts k front) (λ yes. MatchBool yes (IsTypedExpression k c.args.code.now) (IsTypedExpression k c.args.code.now → ⊥))
    (λ yes h. answered k front c.args.code.now whole yes h) c.is_accepted.ensures
