-- What isn't a string literal doesn't become one.
use Rattle.std.proofs.Common.{◌≡◌, ℕ, List, Option, Some, None, Bool, true, false, refl, sym, ◌∙◌}
use Rattle.std.specs.Prelude.{◌||◌, not, if◌then◌else◌}
use Rattle.c_syntax.specs.Plain as plain
use Rattle.c_syntax.specs.Plain.{CExpr, CExprs}
use Rattle.c_syntax.specs.declared.tree.StepOp.{StepOp}
use Rattle.c_syntax.specs.declared.tree.BinOp.{BinOp}
use Rattle.c_syntax.specs.declared.tree.UnOp.TheVariants as unary
use Rattle.c_syntax.specs.declared.tree.StepOp.TheVariants as step
use Rattle.c_syntax.specs.declared.tree.BinOp.TheVariants as binary
use Rattle.c_types.specs.Types.{CType, Tags, is_pointer}
use Rattle.c_types.specs.Scope as entity
use Rattle.c_types.specs.Scope.{Scope, Entity, entity_of}
use Rattle.c_types.specs.Expressions.{format_of}
use Rattle.c_types.specs.Declarations.{elements_given}
use Rattle.c_types.specs.Room.{is_wide_pointer}
use Rattle.c_eval.specs.Environment.{type_in, value_type_in}
use Rattle.c_helpers.specs.Fewer.{sign_of, counts_unsigned, operator_tree, sum_tree, difference_tree, assignment_tree, wide_step, named_call, call_tree, fewer, fewer_all}

abbrev pub is_text : CExpr → Bool
is_text (plain.Str at text) = true
is_text e = false

if_text : (b : Bool) (x y : CExpr) → is_text x ≡ false → is_text y ≡ false → is_text (if b then x else y) ≡ false
if_text true x y e f = e
if_text false x y e f = f

sum_text : (tags : Tags) (at : ℕ) (t u : CType) (a b : CExpr) → is_text (sum_tree tags at t u a b) ≡ false
sum_text tags at t u a b = if_text (is_wide_pointer tags t) _ _ refl (if_text (is_wide_pointer tags u) _ _ refl refl)

difference_text : (tags : Tags) (at : ℕ) (t u : CType) (a b : CExpr) → is_text (difference_tree tags at t u a b) ≡ false
difference_text tags at t u a b = if_text (not (is_wide_pointer tags t)) _ _ refl (if_text (is_pointer u) _ _ refl refl)

operator_text : (tags : Tags) (at : ℕ) (o : Option (List ℕ)) (op : BinOp) (result t u : CType) (a b : CExpr) → is_text (operator_tree tags at o op result t u a b) ≡ false
operator_text tags at (Some sign) op result t u a b = refl
operator_text tags at None binary.Add result t u a b = sum_text tags at t u a b
operator_text tags at None binary.Sub result t u a b = difference_text tags at t u a b
operator_text tags at None op result t u a b = refl

assignment_text : (tags : Tags) (at : ℕ) (o : Option (List ℕ)) (op : BinOp) (t u : CType) (a b : CExpr) → is_text (assignment_tree tags at o op t u a b) ≡ false
assignment_text tags at (Some sign) op t u a b = refl
assignment_text tags at None op t u a b = if_text (is_wide_pointer tags t) _ _ refl refl

wide_text : (tags : Tags) (at : ℕ) (op : StepOp) (t : CType) (a : CExpr) → is_text (wide_step tags at op t a) ≡ false
wide_text tags at step.PreInc t a = refl
wide_text tags at step.PreDec t a = refl
wide_text tags at step.PostInc t a = refl
wide_text tags at step.PostDec t a = refl

named_text : (at pos : ℕ) (name : List ℕ) (x : Option Entity) (format : Option (List ℕ)) (es : CExprs) → is_text (named_call at pos name x format es) ≡ false
named_text at pos name (Some entity.Printf) (Some format) es = refl
named_text at pos name (Some entity.Printf) None es = refl
named_text at pos name (Some (entity.BuiltIn t)) format es = refl
named_text at pos name (Some (entity.Object t)) format es = refl
named_text at pos name (Some (entity.Routine t begun)) format es = refl
named_text at pos name None format es = refl

call_text : (s : Scope) (at : ℕ) (f : CExpr) (format : Option (List ℕ)) (es : CExprs) → is_text (call_tree s at f format es) ≡ false
call_text s at (plain.Var pos name) format es = named_text at pos name (entity_of s name) format es
call_text s at f format es = refl

-- an array whose length is left open gets as many elements from what isn't one
abbrev Given : CExpr → CExpr → Type 0
Given e f = (t : CType) → elements_given t (plain.One f) ≡ elements_given t (plain.One e)

one_given : (t : CType) (e : CExpr) → is_text e ≡ false → elements_given t (plain.One e) ≡ 1
one_given t (plain.Str at text) h = absurd (cc h)
one_given t e h = refl

-- what isn't a string literal doesn't become one
pub not_text : (s : Scope) (e : CExpr) → is_text e ≡ false → is_text (fewer s e) ≡ false
not_text s (plain.Str at text) h = absurd (cc h)
not_text s (plain.Number at n unsigned) h = refl
not_text s (plain.Null at) h = refl
not_text s (plain.Var at name) h = refl
not_text s (plain.Unary at unary.Invert a) h = refl
not_text s (plain.Unary at op a) h = refl
not_text s (plain.Step at op a) h = if_text (is_wide_pointer s.tags (type_in s a)) _ _ (wide_text s.tags at op (type_in s a) (fewer s a)) refl
not_text s (plain.Binary at op a b) h =
    operator_text s.tags at (sign_of op (counts_unsigned op (value_type_in s a) (value_type_in s b))) op (type_in s (plain.Binary at op a b)) (value_type_in s a) (value_type_in s b) (fewer s a) (fewer s b)
not_text s (plain.Assign at None a b) h = refl
not_text s (plain.Assign at (Some op) a b) h = assignment_text s.tags at (sign_of op (counts_unsigned op (type_in s a) (value_type_in s b))) op (type_in s a) (value_type_in s b) (fewer s a) (fewer s b)
not_text s (plain.Cond at a b c) h = refl
not_text s (plain.Comma at a b) h = refl
not_text s (plain.Cast at u a) h = refl
not_text s (plain.SizeTy at u) h = refl
not_text s (plain.SizeOf at a) h = refl
not_text s (plain.Index at a b) h = if_text (is_wide_pointer s.tags (value_type_in s a) || is_wide_pointer s.tags (value_type_in s b)) _ _ refl refl
not_text s (plain.Call at f es) h = call_text s at (fewer s f) (format_of es) (fewer_all s es)
not_text s (plain.Member at a m) h = refl
not_text s (plain.Arrow at a m) h = refl

-- so an array whose length is left open gets as many elements
pub given_too : (s : Scope) (e : CExpr) → Given e (fewer s e)
given_too s (plain.Str at text) t = refl
given_too s e t = one_given t (fewer s e) (not_text s e refl) ∙ sym (one_given t e refl)
