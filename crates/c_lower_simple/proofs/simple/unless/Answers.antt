use Rattle.std.proofs.Common.{◌≡◌, ℕ, ◌+◌, List, length, refl, sym, ap, subst, ◌∙◌, add-zero}
use Rattle.std.specs.Prelude.{Option, Some, None, IfOk, OnOk}
use Rattle.c_syntax.specs.Plain as tree
use Rattle.c_syntax.specs.Plain.{CExpr}
use Rattle.c_syntax.specs.View.{form_of, expr_of, maybe}
use Rattle.c_syntax.specs.declared.tree.Expr.{Expr}
use Rattle.c_syntax.specs.declared.tree.Form.{Form}
use Rattle.c_syntax.specs.declared.tree.StepOp.{StepOp}
use Rattle.c_eval.specs.LiteralsIn.{maybe_literals}
use Rattle.c_lowered.specs.Counts.{expr_jumps, truth_jumps, maybe_jumps, maybe_truth_jumps}
use Rattle.c_lowered.specs.Expressions.{value_code, effect_code, unused}
use Rattle.c_lowered.specs.Statements.{maybe_effect_code, maybe_unless_code, returned_code, jump_to}
use Rattle.c_applied.specs.Leads.{Leads, Keeps, literal_count}
use Rattle.c_applied.proofs.LeadsLemmas.{nothing, keeps_none, keeps_then, kept, then_piece, leads, told_block, same_number}
use Rattle.c_lower_simple.specs.Unused.{updating}
use Rattle.c_lower_simple.proofs.UnusedLemmas.{unused_is, one_more}
use Rattle.c_lower_simple.proofs.simple.unless.Goals as goal

pub returns-clause-code : goal.returns-clause-code
returns-clause-code c = c.truth.ensures.code

pub returns-clause-keeps : goal.returns-clause-keeps
returns-clause-keeps c = c.truth.ensures.keeps
