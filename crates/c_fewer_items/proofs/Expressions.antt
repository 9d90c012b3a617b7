-- String literals of expressions with fewer operators.
use Rattle.std.proofs.Common.{ℕ, List, Option, Some, None, Bool, true, false}
use Rattle.std.specs.Prelude.{◌||◌, not, if◌then◌else◌}
use Rattle.std.specs.Option.{option_map}
use Rattle.c_syntax.specs.Plain as plain
use Rattle.c_syntax.specs.Plain.{CExpr, CExprs, CValue, CValues}
use Rattle.c_syntax.specs.declared.tree.StepOp.{StepOp}
use Rattle.c_syntax.specs.declared.tree.BinOp.{BinOp}
use Rattle.c_syntax.specs.declared.tree.UnOp.TheVariants as unary
use Rattle.c_syntax.specs.declared.tree.StepOp.TheVariants as step
use Rattle.c_syntax.specs.declared.tree.BinOp.TheVariants as binary
use Rattle.c_types.specs.Types.{CType, Tags, is_pointer}
use Rattle.c_types.specs.Scope as entity
use Rattle.c_types.specs.Scope.{Scope, Entity, entity_of}
use Rattle.c_types.specs.Expressions.{format_of}
use Rattle.c_types.specs.Room.{is_wide_pointer}
use Rattle.c_eval.specs.Environment.{type_in, value_type_in}
use Rattle.c_valid.specs.Limited.{ExprIsLimited, ExprsAreLimited, MaybeIsLimited, ValueIsLimited, ValuesAreLimited, FirstIsLimited}
use Rattle.c_helpers.specs.Fewer.{sign_of, counts_unsigned, operator_tree, sum_tree, difference_tree, assignment_tree, plain_assignment, wide_step, step_tree, element_tree, named_call, call_tree, fewer, fewer_all, maybe_fewer, with_values, with_all_values}

if_limited : (b : Bool) (x y : CExpr) → ExprIsLimited x → ExprIsLimited y → ExprIsLimited (if b then x else y)
if_limited true x y h k = h
if_limited false x y h k = k

module _ (tags : Tags) (at : ℕ) (a b : CExpr) (h : ExprIsLimited a) (k : ExprIsLimited b) where
  sum_limited : (t u : CType) → ExprIsLimited (sum_tree tags at t u a b)
  sum_limited t u = if_limited (is_wide_pointer tags t) _ _ (tt, (h, (k, (tt, tt)))) (if_limited (is_wide_pointer tags u) _ _ (tt, (h, (k, (tt, tt)))) (h, k))

  difference_limited : (t u : CType) → ExprIsLimited (difference_tree tags at t u a b)
  difference_limited t u = if_limited (not (is_wide_pointer tags t)) _ _ (h, k) (if_limited (is_pointer u) _ _ (tt, (h, (k, (tt, tt)))) (tt, (h, (k, (tt, tt)))))

  operator_limited : (o : Option (List ℕ)) (op : BinOp) (result t u : CType) → ExprIsLimited (operator_tree tags at o op result t u a b)
  operator_limited (Some sign) op result t u = (tt, (h, (k, tt)))
  operator_limited None binary.Add result t u = sum_limited t u
  operator_limited None binary.Sub result t u = difference_limited t u
  operator_limited None op result t u = (h, k)

  words_limited : (op : BinOp) (t u : CType) → ExprIsLimited (plain_assignment tags at op t u a b)
  words_limited binary.Sub t u = if_limited (is_wide_pointer tags t) _ _ (tt, (h, (k, (tt, tt)))) (h, k)
  words_limited op t u = if_limited (is_wide_pointer tags t) _ _ (tt, (h, (k, (tt, tt)))) (h, k)

  assignment_limited : (o : Option (List ℕ)) (op : BinOp) (t u : CType) → ExprIsLimited (assignment_tree tags at o op t u a b)
  assignment_limited (Some sign) op t u = (tt, (h, (k, tt)))
  assignment_limited None op t u = words_limited op t u

  element_limited : (t u : CType) → ExprIsLimited (element_tree tags at t u a b)
  element_limited t u = if_limited (is_wide_pointer tags t || is_wide_pointer tags u) _ _ (sum_limited t u) (h, k)

module _ (tags : Tags) (at : ℕ) (a : CExpr) (h : ExprIsLimited a) where
  wide_limited : (op : StepOp) (t : CType) → ExprIsLimited (wide_step tags at op t a)
  wide_limited step.PreInc t = (tt, (h, (tt, (tt, tt))))
  wide_limited step.PreDec t = (tt, (h, (tt, (tt, tt))))
  wide_limited step.PostInc t = (tt, (h, (tt, tt)))
  wide_limited step.PostDec t = (tt, (h, (tt, tt)))

  step_limited : (op : StepOp) (t : CType) → ExprIsLimited (step_tree tags at op t a)
  step_limited op t = if_limited (is_wide_pointer tags t) _ _ (wide_limited op t) h

named_limited : (s : Scope) (at pos : ℕ) (name : List ℕ) (o : Option Entity) (es : CExprs) → ExprsAreLimited (fewer_all s es) → ExprIsLimited (named_call at pos name o (format_of es) (fewer_all s es))
named_limited s at pos name (Some entity.Printf) (plain.MoreExpr (plain.Str there text) es) k = (tt, k.1)
named_limited s at pos name (Some entity.Printf) plain.NoExpr k = (tt, k)
named_limited s at pos name (Some entity.Printf) (plain.MoreExpr x es) k = (tt, k)
named_limited s at pos name (Some (entity.BuiltIn t)) es k = (tt, k)
named_limited s at pos name (Some (entity.Object t)) es k = (tt, k)
named_limited s at pos name (Some (entity.Routine t begun)) es k = (tt, k)
named_limited s at pos name None es k = (tt, k)

call_limited : (s : Scope) (at : ℕ) (f : CExpr) (es : CExprs) → ExprIsLimited f → ExprsAreLimited (fewer_all s es) → ExprIsLimited (call_tree s at f (format_of es) (fewer_all s es))
call_limited s at (plain.Var pos name) es h k = named_limited s at pos name (entity_of s name) es k
call_limited s at f es h k = (h, k)

module _ (s : Scope) where
  mutual
    pub expr_limited : (e : CExpr) → ExprIsLimited e → ExprIsLimited (fewer s e)
    expr_limited (plain.Number at n unsigned) h = tt
    expr_limited (plain.Str at text) h = h
    expr_limited (plain.Null at) h = tt
    expr_limited (plain.Var at name) h = tt
    expr_limited (plain.Unary at unary.Invert a) h = (tt, (expr_limited a h, tt))
    expr_limited (plain.Unary at op a) h = expr_limited a h
    expr_limited (plain.Step at op a) h = step_limited s.tags at (fewer s a) (expr_limited a h) op (type_in s a)
    expr_limited (plain.Binary at op a b) h =
        operator_limited s.tags at (fewer s a) (fewer s b) (expr_limited a h.0) (expr_limited b h.1) (sign_of op (counts_unsigned op (value_type_in s a) (value_type_in s b))) op (type_in s (plain.Binary at op a b)) (value_type_in s a) (value_type_in s b)
    expr_limited (plain.Assign at None a b) h = (expr_limited a h.0, expr_limited b h.1)
    expr_limited (plain.Assign at (Some op) a b) h = assignment_limited s.tags at (fewer s a) (fewer s b) (expr_limited a h.0) (expr_limited b h.1) (sign_of op (counts_unsigned op (type_in s a) (value_type_in s b))) op (type_in s a) (value_type_in s b)
    expr_limited (plain.Cond at a b c) h = (expr_limited a h.0, expr_limited b h.1, expr_limited c h.2)
    expr_limited (plain.Comma at a b) h = (expr_limited a h.0, expr_limited b h.1)
    expr_limited (plain.Cast at t a) h = expr_limited a h
    expr_limited (plain.SizeTy at t) h = tt
    expr_limited (plain.SizeOf at a) h = tt
    expr_limited (plain.Index at a b) h = element_limited s.tags at (fewer s a) (fewer s b) (expr_limited a h.0) (expr_limited b h.1) (value_type_in s a) (value_type_in s b)
    expr_limited (plain.Call at f es) h = call_limited s at (fewer s f) es (expr_limited f h.0) (all_limited es h.1)
    expr_limited (plain.Member at a m) h = expr_limited a h
    expr_limited (plain.Arrow at a m) h = expr_limited a h

    all_limited : (es : CExprs) → ExprsAreLimited es → ExprsAreLimited (fewer_all s es)
    all_limited plain.NoExpr h = tt
    all_limited (plain.MoreExpr e es) h = (expr_limited e h.0, all_limited es h.1)

  pub maybe_limited : (o : Option CExpr) → MaybeIsLimited o → MaybeIsLimited (maybe_fewer s o)
  maybe_limited None h = tt
  maybe_limited (Some e) h = expr_limited e h

  mutual
    value_limited : (v : CValue) → ValueIsLimited v → ValueIsLimited (with_values (fewer s) v)
    value_limited (plain.One e) h = expr_limited e h
    value_limited (plain.Many vs) h = values_limited vs h

    values_limited : (vs : CValues) → ValuesAreLimited vs → ValuesAreLimited (with_all_values (fewer s) vs)
    values_limited plain.NoValue h = tt
    values_limited (plain.MoreValue v vs) h = (value_limited v h.0, values_limited vs h.1)

  pub first_limited : (o : Option CValue) → FirstIsLimited o → FirstIsLimited (option_map (with_values (fewer s)) o)
  first_limited None h = tt
  first_limited (Some v) h = value_limited v h
