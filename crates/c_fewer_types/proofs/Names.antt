-- The names of an operator's tree are those of its operands, and that of a helper function.
use Rattle.std.proofs.Common.{ℕ, List, [], ◌∷◌, ◌++◌, Option, Some, None, Bool, true, false}
use Rattle.std.specs.Prelude.{◌||◌, not, if◌then◌else◌, codes}
use Rattle.c_syntax.specs.Plain as plain
use Rattle.c_syntax.specs.Plain.{CExpr, CExprs}
use Rattle.c_syntax.specs.declared.tree.StepOp.{StepOp}
use Rattle.c_syntax.specs.declared.tree.BinOp.{BinOp}
use Rattle.c_syntax.specs.declared.tree.UnOp.TheVariants as unary
use Rattle.c_syntax.specs.declared.tree.StepOp.TheVariants as step
use Rattle.c_syntax.specs.declared.tree.BinOp.TheVariants as binary
use Rattle.c_types.specs.Types.{CType, Tags, is_pointer, is_unsigned}
use Rattle.c_types.specs.Room.{is_wide_pointer}
use Rattle.c_alike.specs.Alike.{EachName}
use Rattle.c_helpers.specs.Fewer.{kind_word, words_in, words_back, words_by, moved_pointer, moved_place, sum_tree, difference_tree, operator_tree, assignment_tree, wide_step, step_tree, element_tree, helper_call, as_type}

module _ (P : List ℕ → Type 0) where
  if_names : (b : Bool) (x y : CExpr) (Q : Type 0) → EachName P (if b then x else y) → (EachName P x → Q) → (EachName P y → Q) → Q
  if_names true x y Q p f g = f p
  if_names false x y Q p f g = g p

  abbrev Both : CExpr → CExpr → Type 0
  Both a b = EachName P a × EachName P b

  pub sum_names : (tags : Tags) (at : ℕ) (t u : CType) (a b : CExpr) → EachName P (sum_tree tags at t u a b) → Both a b
  sum_names tags at t u a b p =
      if_names (is_wide_pointer tags t) (moved_pointer at t (is_unsigned u) a b (words_in tags t)) _ (Both a b) p (λ q. (q.1.1.0, q.1.1.1.0))
      (λ q. if_names (is_wide_pointer tags u) (as_type at u (helper_call at (kind_word (is_unsigned t) ++ codes " + pointer") (a ∷ b ∷ words_in tags u ∷ []))) (plain.Binary at binary.Add a b) (Both a b) q (λ r. (r.1.1.0, r.1.1.1.0)) (λ r. r))

  pub difference_names : (tags : Tags) (at : ℕ) (t u : CType) (a b : CExpr) → EachName P (difference_tree tags at t u a b) → Both a b
  difference_names tags at t u a b p =
      if_names (not (is_wide_pointer tags t)) (plain.Binary at binary.Sub a b) _ (Both a b) p (λ q. q)
      (λ q. if_names (is_pointer u) (helper_call at (codes "pointer - pointer") (a ∷ b ∷ words_in tags t ∷ [])) (moved_pointer at t (is_unsigned u) a b (words_back tags t)) (Both a b) q (λ r. (r.1.0, r.1.1.0)) (λ r. (r.1.1.0, r.1.1.1.0)))

  pub operator_names : (tags : Tags) (at : ℕ) (o : Option (List ℕ)) (op : BinOp) (result t u : CType) (a b : CExpr) → EachName P (operator_tree tags at o op result t u a b) → Both a b
  operator_names tags at (Some sign) op result t u a b p = (p.1.1.0, p.1.1.1.0)
  operator_names tags at None binary.Add result t u a b p = sum_names tags at t u a b p
  operator_names tags at None binary.Sub result t u a b p = difference_names tags at t u a b p
  operator_names tags at None op result t u a b p = p

  pub assignment_names : (tags : Tags) (at : ℕ) (o : Option (List ℕ)) (op : BinOp) (t u : CType) (a b : CExpr) → EachName P (assignment_tree tags at o op t u a b) → Both a b
  assignment_names tags at (Some sign) op t u a b p = (p.1.1.0, p.1.1.1.0)
  assignment_names tags at None op t u a b p = if_names (is_wide_pointer tags t) (moved_place at t (is_unsigned u) a b (words_by op tags t)) (plain.Assign at (Some op) a b) (Both a b) p (λ q. (q.1.1.0, q.1.1.1.0)) (λ q. q)

  wide_names : (tags : Tags) (at : ℕ) (op : StepOp) (t : CType) (a : CExpr) → EachName P (wide_step tags at op t a) → EachName P a
  wide_names tags at step.PreInc t a p = p.1.1.0
  wide_names tags at step.PreDec t a p = p.1.1.0
  wide_names tags at step.PostInc t a p = p.1.1.0
  wide_names tags at step.PostDec t a p = p.1.1.0

  pub step_names : (tags : Tags) (at : ℕ) (op : StepOp) (t : CType) (a : CExpr) → EachName P (step_tree tags at op t a) → EachName P a
  step_names tags at op t a p = if_names (is_wide_pointer tags t) (wide_step tags at op t a) (plain.Step at op a) (EachName P a) p (λ q. wide_names tags at op t a q) (λ q. q)

  pub element_names : (tags : Tags) (at : ℕ) (t u : CType) (a b : CExpr) → EachName P (element_tree tags at t u a b) → Both a b
  element_names tags at t u a b p =
      if_names (is_wide_pointer tags t || is_wide_pointer tags u) (plain.Unary at unary.Deref (sum_tree tags at t u a b)) (plain.Index at a b) (Both a b) p (λ q. sum_names tags at t u a b q) (λ q. q)
