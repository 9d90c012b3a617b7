use Rattle.std.proofs.Common.{◌≡◌, Bool, true, false, [], ◌∷◌, List, refl, sym, ap, subst, ◌∙◌}
use Rattle.std.specs.Prelude.{OnOk, if◌then◌else◌}
use Rattle.c_types.specs.Types.{is_void}
use Rattle.c_eval.specs.Environment.{operand_type}
use Rattle.c_code.specs.Code as code
use Rattle.c_operands.specs.Classes.{void}
use Rattle.c_operands.proofs.ClassLemmas.{class_says}
use Rattle.c_emitted.specs.Emits.{Emits}
use Rattle.c_pieces.proofs.places.cast.Goals as goal

pub returns-then-is_nothing-clause-emits : goal.returns-then-is_nothing-clause-emits
returns-then-is_nothing-clause-emits c = λ p judged.
    let t = operand_type p in
    let is : is_void t ≡ true = (class_says t).void ∙ (ap void (sym (c.class_of.ensures t (c.in_ok-ty.ensures.ty p judged))) ∙ (sym c.is_nothing.ensures ∙ c.if-is_nothing.true)) in
    subst (λ (b : Bool). OnOk c.add.result (Emits c.args.out.now c.add.new.self ((if b then code.Forget else code.Use) ∷ []) [])) (sym is) (c.add.ensures code.Forget (record { means = λ names r e. refl }))

pub returns-else-is_nothing-clause-emits : goal.returns-else-is_nothing-clause-emits
returns-else-is_nothing-clause-emits c = λ p judged.
    let t = operand_type p in
    let is : is_void t ≡ false = (class_says t).void ∙ (ap void (sym (c.class_of.ensures t (c.in_ok-ty.ensures.ty p judged))) ∙ (sym c.is_nothing.ensures ∙ c.if-is_nothing.false)) in
    subst (λ (b : Bool). OnOk c.add-else-is_nothing.result (Emits c.args.out.now c.add-else-is_nothing.new.self ((if b then code.Forget else code.Use) ∷ []) [])) (sym is) (c.add-else-is_nothing.ensures code.Use (record { means = λ names r e. refl }))
