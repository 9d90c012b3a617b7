use Rattle.std.proofs.Common.{List, [], ◌∷◌, ◌++◌, Option, sym, ap, subst, ◌∙◌}
use Rattle.std.specs.Prelude.{Result}
use Rattle.c_types.specs.declared.fault.TypeFault.{TypeFault}
use Rattle.c_types.specs.Refusals.{Judged}
use Rattle.c_types.specs.Operands as plain
use Rattle.c_operands.specs.declared.operand.Operand.{Operand}
use Rattle.c_operands.specs.Seen.{IsOperand, IsJudged}
use Rattle.c_operands.specs.declared.arguments.Argument.{Argument}
use Rattle.c_forms.proofs.PartLemmas.{ok_is, err_is}
use Rattle.c_expressions.specs.Told.{behind, AreSoFar}
use Rattle.c_expressions.proofs.ToldLemmas.{joined, with_argument, with_refusal, so_far_more, so_far_refused}
use Rattle.c_expressions.proofs.collected.Collected.add.Goals as goal

pub value_of-requires : goal.value_of-requires
value_of-requires c =
    let table = c.args.types.now in
    let k = ok_is (IsOperand table) c.in-Ok.a c.requires.0 (subst (λ (r : Result Operand TypeFault). IsJudged (IsOperand table) r c.requires.0) c.in-Ok.is c.requires.1) in
    (k.0.ty, k.2.ty)

pub returns-in_ok-push-in-Ok-clause-added : goal.returns-in_ok-push-in-Ok-clause-added
returns-in_ok-push-in-Ok-clause-added c = λ p xs h so_far.
    let old = c.args.types.now in
    let new = c.value_of.new.types in
    let told = c.args.self.now.refusal in
    let k = ok_is (IsOperand old) c.in-Ok.a p (subst (λ (r : Result Operand TypeFault). IsJudged (IsOperand old) r p) c.in-Ok.is h) in
    let x = k.0 in
    let value = c.in_ok-value-in-Ok.ensures.value x k.2 in
    let given : Argument = record { at = c.in-Ok.a.at; value = c.in_ok-value-in-Ok.value } in (
      xs ++ x ∷ [],
      subst (λ (all : List Argument). AreSoFar new told all (xs ++ x ∷ [])) (sym c.in_ok-push-in-Ok.ensures.items)
          (so_far_more old new told c.args.self.now.arguments.items xs given x c.in_ok-value-in-Ok.ensures.grows so_far (record { at = k.2.at; value = value })),
      λ others. ap (λ (q : Judged plain.Operand). behind told xs (joined q others)) k.1 ∙ with_argument told xs x others,
    )

pub returns-in-Err-clause-added : goal.returns-in-Err-clause-added
returns-in-Err-clause-added c = λ p xs h so_far.
    let table = c.args.types.now in
    let told = c.args.self.now.refusal in
    let fault = c.in-Err.fault in
    let arguments = c.args.self.now.arguments.items in
    let e = err_is (IsOperand table) fault p (subst (λ (r : Result Operand TypeFault). IsJudged (IsOperand table) r p) c.in-Err.is h) in (
      xs,
      subst (λ (o : Option TypeFault). AreSoFar table o arguments xs) (sym c.merged-self.ensures) (so_far_refused table told fault arguments xs),
      λ others. ap (λ (q : Judged plain.Operand). behind told xs (joined q others)) e ∙ (with_refusal told xs fault others ∙ ap (λ (o : Option TypeFault). behind o xs others) (sym c.merged-self.ensures)),
    )
