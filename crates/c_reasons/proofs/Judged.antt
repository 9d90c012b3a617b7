-- Expressions and the types that are written in a text.
use Rattle.std.proofs.Common.{ℕ, List, Option, Some, None}
use Rattle.c_syntax.specs.Plain as plain
use Rattle.c_syntax.specs.Plain.{CExpr, CExprs, CTy, CTys}
use Rattle.c_syntax.specs.Words.{meaning}
use Rattle.c_types.specs.Types.{CType}
use Rattle.c_types.specs.Refusals.{Judged}
use Rattle.c_types.specs.Constants.{Constant, NotConstant, Undefined, Value}
use Rattle.c_types.specs.Scope.{Scope, Entity, Object, Routine, BuiltIn, Printf, entity_of}
use Rattle.c_types.specs.Operands.{Operand, value_type}
use Rattle.c_types.specs.Expressions as expressions
use Rattle.c_types.specs.Expressions.{judged, all_judged, written, parameters, names_function, format_of}
use Rattle.c_reasons.proofs.Reasons.{unknown, mismatch, bad_call, HasReason, fine, refuses, after_has, both_have, three_have, keeping_has, keeping_one, if_has, option_has}
use Rattle.c_reasons.proofs.Operators.{unary_has, step_has, binary_has, assign_has, choice_has, comma_has, cast_has, size_has, index_has, member_has, arrow_has, call_has}

named_has : (s : Scope) (at : ℕ) (name : List ℕ) (o : Option Entity) → HasReason (expressions.named s at name o)
named_has s at name (Some (Object t)) = fine _
named_has s at name (Some (Routine t begun)) = keeping_one _ _ _ (bad_call at)
named_has s at name (Some (BuiltIn t)) = refuses _ (bad_call at)
named_has s at name (Some Printf) = refuses _ (bad_call at)
named_has s at name None = refuses _ (unknown at)

named_callee_has : (s : Scope) (at : ℕ) (name : List ℕ) (o : Option Entity) → HasReason (expressions.named_callee s at name o)
named_callee_has s at name (Some (Object t)) = fine _
named_callee_has s at name (Some (Routine t begun)) = fine _
named_callee_has s at name (Some (BuiltIn t)) = fine _
named_callee_has s at name (Some Printf) = fine _
named_callee_has s at name None = refuses _ (unknown at)

through_has : (p : Judged Operand) → HasReason p → HasReason (expressions.through p)
through_has p h = after_has p _ h (λ a. fine _)

callee_has : (s : Scope) (at : ℕ) (f : CExpr) (p : Judged Operand) → HasReason p → HasReason (expressions.callee_of s at f p)
callee_has s at (plain.Var pos name) p h = named_callee_has s at name (entity_of s name)
callee_has s at (plain.Number pos value unsigned) p h = through_has p h
callee_has s at (plain.Str pos text) p h = through_has p h
callee_has s at (plain.Null pos) p h = through_has p h
callee_has s at (plain.Unary pos op a) p h = through_has p h
callee_has s at (plain.Step pos op a) p h = through_has p h
callee_has s at (plain.Binary pos op a b) p h = through_has p h
callee_has s at (plain.Assign pos op a b) p h = through_has p h
callee_has s at (plain.Cond pos a b c) p h = through_has p h
callee_has s at (plain.Comma pos a b) p h = through_has p h
callee_has s at (plain.Cast pos t a) p h = through_has p h
callee_has s at (plain.SizeTy pos t) p h = through_has p h
callee_has s at (plain.SizeOf pos a) p h = through_has p h
callee_has s at (plain.Index pos a b) p h = through_has p h
callee_has s at (plain.Call pos f es) p h = through_has p h
callee_has s at (plain.Member pos a m) p h = through_has p h
callee_has s at (plain.Arrow pos a m) p h = through_has p h

length_has : (at : ℕ) (c : Constant) → HasReason (expressions.length_in at c)
length_has at NotConstant = refuses _ (mismatch at)
length_has at (Undefined pos) = refuses _ (mismatch pos)
length_has at (Value n) = keeping_one _ _ _ (mismatch at)

array_has : (s : Scope) (at : ℕ) (t : CType) (n : ℕ) → HasReason (expressions.array_of s at t n)
array_has s at t n = keeping_one _ _ _ (mismatch at)

sized_has : (s : Scope) (at : ℕ) (t : CType) (a : Operand) → HasReason (expressions.sized_array s at t a)
sized_has s at t a = both_have (expressions.array_of s at t 1) (expressions.length_in a.pos a.constant) _ (array_has s at t 1) (length_has a.pos a.constant) (λ x n. fine _)

pub parameter_has : (at : ℕ) (t : CType) → HasReason (expressions.parameter_type at t)
parameter_has at t = keeping_one _ _ _ (mismatch at)

mutual
  pub judged_has : (s : Scope) (e : CExpr) → HasReason (judged s e)
  judged_has s (plain.Number at value unsigned) = fine _
  judged_has s (plain.Str at text) = fine _
  judged_has s (plain.Null at) = fine _
  judged_has s (plain.Var at name) = named_has s at name (entity_of s name)
  judged_has s (plain.Unary at op a) = after_has (judged s a) _ (judged_has s a) (λ x. unary_has s.tags at op x)
  judged_has s (plain.Step at op a) = after_has (judged s a) _ (judged_has s a) (λ x. step_has s.tags at x)
  judged_has s (plain.Binary at op a b) = both_have (judged s a) (judged s b) _ (judged_has s a) (judged_has s b) (λ x y. binary_has s.tags at op x y)
  judged_has s (plain.Assign at op a b) = both_have (judged s a) (judged s b) _ (judged_has s a) (judged_has s b) (λ x y. assign_has s.tags at op x y)
  judged_has s (plain.Cond at a b c) = three_have (judged s a) (judged s b) (judged s c) _ (judged_has s a) (judged_has s b) (judged_has s c) (λ x y z. choice_has at x y z)
  judged_has s (plain.Comma at a b) = both_have (judged s a) (judged s b) _ (judged_has s a) (judged_has s b) (λ x y. comma_has at x y)
  judged_has s (plain.Cast at t a) = both_have (written s at t) (judged s a) _ (written_has s at t) (judged_has s a) (λ u x. cast_has at u x)
  judged_has s (plain.SizeTy at t) = after_has (written s at t) _ (written_has s at t) (λ u. size_has s.tags at u)
  judged_has s (plain.SizeOf at a) = if_has (names_function s a) _ _ (refuses _ (mismatch at)) (after_has (judged s a) _ (judged_has s a) (λ x. size_has s.tags at x.ty))
  judged_has s (plain.Index at a b) = both_have (judged s a) (judged s b) _ (judged_has s a) (judged_has s b) (λ x y. index_has s.tags at x y)
  judged_has s (plain.Call at f es) =
      both_have (expressions.callee_of s at f (judged s f)) (all_judged s es) _ (callee_has s at f (judged s f) (judged_has s f)) (all_judged_have s es) (λ c xs. call_has at c (format_of es) xs)
  judged_has s (plain.Member at a m) = after_has (judged s a) _ (judged_has s a) (λ x. member_has s.tags at m x.ty)
  judged_has s (plain.Arrow at a m) = after_has (judged s a) _ (judged_has s a) (λ x. arrow_has s.tags at m (value_type x))

  all_judged_have : (s : Scope) (es : CExprs) → HasReason (all_judged s es)
  all_judged_have s plain.NoExpr = fine _
  all_judged_have s (plain.MoreExpr e es) = both_have (judged s e) (all_judged s es) _ (judged_has s e) (all_judged_have s es) (λ x xs. fine _)

  pub written_has : (s : Scope) (at : ℕ) (t : CTy) → HasReason (written s at t)
  written_has s at plain.Void = fine _
  written_has s at plain.Int = fine _
  written_has s at plain.Unsigned = fine _
  written_has s at plain.Char = fine _
  written_has s at plain.UChar = fine _
  written_has s at (plain.Struct name) = option_has (meaning s.tags name) _ _ (λ l. fine _) (refuses _ (unknown at))
  written_has s at (plain.Pointer t) = after_has (written s at t) _ (written_has s at t) (λ u. fine _)
  written_has s at (plain.Array t) = after_has (written s at t) _ (written_has s at t) (λ u. array_has s at u 0)
  written_has s at (plain.ArrayOf t n) = both_have (written s at t) (judged s n) _ (written_has s at t) (judged_has s n) (λ u x. sized_has s at u x)
  written_has s at (plain.Func t ts) = both_have (written s at t) (parameters s at ts) _ (written_has s at t) (parameters_have s at ts) (λ u us. keeping_one _ _ _ (mismatch at))

  parameters_have : (s : Scope) (at : ℕ) (ts : CTys) → HasReason (parameters s at ts)
  parameters_have s at plain.NoTy = fine _
  parameters_have s at (plain.MoreTy t ts) =
      both_have (written s at t) (parameters s at ts) _ (written_has s at t) (parameters_have s at ts) (λ u us. after_has (expressions.parameter_type at u) _ (parameter_has at u) (λ v. fine _))
