use Rattle.std.proofs.Common.{◌∙◌}
use Rattle.c_syntax.specs.View.{expr_of}
use Rattle.c_types.specs.Expressions.{judged}
use Rattle.c_operands.specs.Seen.{IsOperand}
use Rattle.c_forms.proofs.PartLemmas.{same_refusal}
use Rattle.c_conditions.proofs.conditions.judge_effect.Goals as goal

pub returns-clause-judged : goal.returns-clause-judged
returns-clause-judged c = λ s fits.
    c.err.ensures.value ∙ same_refusal (IsOperand c.judge.new.types) c.in_ok-value.value (judged s (expr_of c.args.e.now)) (c.in_ok-value.ensures.judged s fits)
