use Rattle.std.proofs.Common.{Bool, [], ◌∷◌, sym, subst, ◌∙◌, refl}
use Rattle.std.specs.Prelude.{Ok, Err}
use Rattle.c_types.specs.declared.fault.TypeFault.TheVariants as fault
use Rattle.c_types.specs.Refusals.{keeping}
use Rattle.c_types.specs.Table.{HasType}
use Rattle.c_operands.specs.Seen.{IsJudged}
use Rattle.c_forms.proofs.WrittenLemmas.{result_as}
use Rattle.c_signatures.proofs.signature.as_result.Goals as goal

pub returns-then-is_result : goal.returns-then-is_result
returns-then-is_result c = λ t h.
    let kept = result_as c.is_result.result c.class_of.result t c.is_result.ensures (c.class_of.ensures t h) in
    subst (λ (b : Bool). IsJudged (HasType c.args.types.now) (Ok c.args.ty) (keeping ((b, fault.Mismatch c.args.at) ∷ []) t)) (sym c.if-is_result.true ∙ kept) h

pub returns-else-is_result : goal.returns-else-is_result
returns-else-is_result c = λ t h.
    let kept = result_as c.is_result.result c.class_of.result t c.is_result.ensures (c.class_of.ensures t h) in
    subst (λ (b : Bool). IsJudged (HasType c.args.types.now) (Err (fault.Mismatch c.args.at)) (keeping ((b, fault.Mismatch c.args.at) ∷ []) t)) (sym c.if-is_result.false ∙ kept) refl
