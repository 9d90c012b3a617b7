use Rattle.std.proofs.Common.{sym, subst, ap, ◌∙◌}
use Rattle.std.specs.Prelude.{Result, Ok, Err}
use Rattle.c_types.specs.declared.fault.TypeFault.{TypeFault}
use Rattle.c_eval.specs.Environment.{constant_word}
use Rattle.c_types.specs.Seen.{constant_of}
use Rattle.c_types.specs.declared.constant.Constant.{Constant}
use Rattle.c_operands.specs.declared.operand.Operand.{Operand}
use Rattle.c_operands.specs.Seen.{IsOperand, IsJudged}
use Rattle.c_addressing.proofs.ClassLemmas.{judged_word, refused_word}
use Rattle.c_addressing.proofs.typed.word_of_judged.Goals as goal

pub returns-in-NotConstant : goal.returns-in-NotConstant
returns-in-NotConstant c = λ table p h. ap (λ (k : Constant). constant_word (constant_of k)) (sym c.in-NotConstant.is) ∙ judged_word table c.in-Ok.x p (subst (λ (j : Result Operand TypeFault). IsJudged (IsOperand table) j p) c.in-Ok.is h)

pub returns-in-Undefined : goal.returns-in-Undefined
returns-in-Undefined c = λ table p h. ap (λ (k : Constant). constant_word (constant_of k)) (sym c.in-Undefined.is) ∙ judged_word table c.in-Ok.x p (subst (λ (j : Result Operand TypeFault). IsJudged (IsOperand table) j p) c.in-Ok.is h)

pub returns-in-Value : goal.returns-in-Value
returns-in-Value c = λ table p h. c.get.ensures.value ∙ ap (λ (k : Constant). constant_word (constant_of k)) (sym c.in-Value.is) ∙ judged_word table c.in-Ok.x p (subst (λ (j : Result Operand TypeFault). IsJudged (IsOperand table) j p) c.in-Ok.is h)

pub returns-in-Err : goal.returns-in-Err
returns-in-Err c = λ table p h. sym (refused_word table c.in-Err.field-0 p (subst (λ (j : Result Operand TypeFault). IsJudged (IsOperand table) j p) c.in-Err.is h))
