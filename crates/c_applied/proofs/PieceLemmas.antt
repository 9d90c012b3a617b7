-- Pieces of code of operators, by what decides of them.
use Rattle.std.proofs.Common.{◌≡◌, ℕ, suc, ◌+◌, ◌<◌, Bool, true, false, not, ◌||◌, List, [], ◌∷◌, ◌++◌, length, map, refl, sym, ap, subst, ◌∙◌, append_assoc, append-nil, nat_lt, arith, if◌then◌else◌}
use Rattle.std.proofs.lemmas.Bool.Decides.{nat_tests}
use Rattle.std.specs.Prelude.{Option, Some, None, vec_len}
use Rattle.std.specs.Str.{bytes_eq}
use Rattle.eir_core.specs.declared.ops.Reg.{Reg}
use Rattle.eir_core.specs.declared.ops.Reg.TheVariants.{A}
use Rattle.eir_core.specs.declared.ops.Operand.{Operand}
use Rattle.eir_core.specs.declared.ops.Operand.TheVariants.{Reg as register}
use Rattle.eir_core.specs.declared.ops.Cond.{Cond}
use Rattle.eir_core.specs.declared.ops.Op.{Op}
use Rattle.eir_core.specs.declared.ops.Op.TheVariants.{Load, Set, JumpIf}
use Rattle.c_syntax.specs.Plain as tree
use Rattle.c_syntax.specs.Plain.{CExpr, CExprs, exprs}
use Rattle.c_syntax.specs.View.{expr_of, exprs_of}
use Rattle.c_syntax.specs.declared.tree.Expr.{Expr}
use Rattle.c_syntax.specs.declared.tree.Exprs.{Exprs, out-Exprs}
use Rattle.c_syntax.specs.declared.tree.BinOp.{BinOp}
use Rattle.c_syntax.specs.declared.tree.BinOp.TheVariants as binary
use Rattle.c_types.specs.Types as types
use Rattle.c_types.specs.Types.{CType, decayed}
use Rattle.c_types.specs.Scope as scope
use Rattle.c_types.specs.Scope.{Scope, entity_of}
use Rattle.c_expressions.specs.Named.{name_in}
use Rattle.c_expressions.proofs.RowLemmas.{exprs_view}
use Rattle.c_eval.specs.Environment.{Environment}
use Rattle.c_eval.specs.LiteralsIn.{names_printf, is_printf, literals_in}
use Rattle.c_scopes.specs.declared.entity.Entity.{Entity}
use Rattle.c_scopes.specs.declared.entity.Entity.TheVariants as entity
use Rattle.c_types.specs.Table.{Table}
use Rattle.c_operands.specs.Scoped.{IsEntityOrNone}
use Rattle.c_operands.specs.declared.class.Class.{Class}
use Rattle.c_operands.specs.Classes.{class_of, unsigned}
use Rattle.c_addressing.specs.Classes.{target_of}
use Rattle.c_lowered.specs.Locations as plain
use Rattle.c_lowered.specs.Locations.{Linking}
use Rattle.c_lowered.specs.Operations.{constant, fetched, fetched_behind, is_signed, load_to, loaded, moved_from, opposite, compared, comparable, jump_where}
use Rattle.c_lowered.specs.Counts.{expr_jumps}
use Rattle.c_lowered.specs.Expressions.{value_code, known_name}
use Rattle.c_applied.specs.Calls.{is_format}
use Rattle.c_applied.specs.Leads.{literal_count}
use Rattle.c_applied.specs.Pieces.{IsLeaf, is_fetched, fetched_by, fetched_target, is_equality, is_address, signed_by, are_several, lifts, compared_operand, bare}

-- ---- what stands at an address

pub fetched_is : (t : CType) → fetched_by (class_of t) ≡ fetched t
fetched_is types.Void = refl
fetched_is types.Int = refl
fetched_is types.Unsigned = refl
fetched_is types.Char = refl
fetched_is types.UChar = refl
fetched_is types.Null = refl
fetched_is (types.Struct tag) = refl
fetched_is (types.Array t n) = refl
fetched_is (types.Function t ts) = refl
fetched_is (types.Pointer types.Void) = refl
fetched_is (types.Pointer types.Int) = refl
fetched_is (types.Pointer types.Unsigned) = refl
fetched_is (types.Pointer types.Char) = refl
fetched_is (types.Pointer types.UChar) = refl
fetched_is (types.Pointer types.Null) = refl
fetched_is (types.Pointer (types.Struct tag)) = refl
fetched_is (types.Pointer (types.Array t n)) = refl
fetched_is (types.Pointer (types.Function t ts)) = refl
fetched_is (types.Pointer (types.Pointer t)) = refl

pub target_fetched : (t : CType) → fetched_target (target_of t) ≡ fetched_behind t
target_fetched types.Void = refl
target_fetched types.Int = refl
target_fetched types.Unsigned = refl
target_fetched types.Char = refl
target_fetched types.UChar = refl
target_fetched types.Null = refl
target_fetched (types.Struct tag) = refl
target_fetched (types.Array t n) = refl
target_fetched (types.Function t ts) = refl
target_fetched (types.Pointer t) = fetched_is t

-- ---- orders of ints

pub address_is : (t : CType) → is_address (class_of t) ≡ types.is_pointer (decayed t)
address_is types.Void = refl
address_is types.Int = refl
address_is types.Unsigned = refl
address_is types.Char = refl
address_is types.UChar = refl
address_is types.Null = refl
address_is (types.Struct tag) = refl
address_is (types.Array t n) = refl
address_is (types.Function t ts) = refl
address_is (types.Pointer types.Void) = refl
address_is (types.Pointer types.Int) = refl
address_is (types.Pointer types.Unsigned) = refl
address_is (types.Pointer types.Char) = refl
address_is (types.Pointer types.UChar) = refl
address_is (types.Pointer types.Null) = refl
address_is (types.Pointer (types.Struct tag)) = refl
address_is (types.Pointer (types.Array t n)) = refl
address_is (types.Pointer (types.Function t ts)) = refl
address_is (types.Pointer (types.Pointer t)) = refl

pub unsigned_is : (t : CType) → unsigned (class_of t) ≡ types.is_unsigned (decayed t)
unsigned_is types.Void = refl
unsigned_is types.Int = refl
unsigned_is types.Unsigned = refl
unsigned_is types.Char = refl
unsigned_is types.UChar = refl
unsigned_is types.Null = refl
unsigned_is (types.Struct tag) = refl
unsigned_is (types.Array t n) = refl
unsigned_is (types.Function t ts) = refl
unsigned_is (types.Pointer types.Void) = refl
unsigned_is (types.Pointer types.Int) = refl
unsigned_is (types.Pointer types.Unsigned) = refl
unsigned_is (types.Pointer types.Char) = refl
unsigned_is (types.Pointer types.UChar) = refl
unsigned_is (types.Pointer types.Null) = refl
unsigned_is (types.Pointer (types.Struct tag)) = refl
unsigned_is (types.Pointer (types.Array t n)) = refl
unsigned_is (types.Pointer (types.Function t ts)) = refl
unsigned_is (types.Pointer (types.Pointer t)) = refl

by_test : (op : BinOp) (t u : CType) → is_signed op t u ≡ (if is_equality op then false else not (types.is_pointer t || types.is_unsigned t || types.is_unsigned u))
by_test binary.Or t u = refl
by_test binary.And t u = refl
by_test binary.BitOr t u = refl
by_test binary.BitXor t u = refl
by_test binary.BitAnd t u = refl
by_test binary.Eq t u = refl
by_test binary.Ne t u = refl
by_test binary.Lt t u = refl
by_test binary.Gt t u = refl
by_test binary.Le t u = refl
by_test binary.Ge t u = refl
by_test binary.Shl t u = refl
by_test binary.Shr t u = refl
by_test binary.Add t u = refl
by_test binary.Sub t u = refl
by_test binary.Mul t u = refl
by_test binary.Div t u = refl
by_test binary.Mod t u = refl

pub signed_is : (op : BinOp) (t u : CType) (c d : Class) → c ≡ class_of t → d ≡ class_of u → signed_by op c d ≡ is_signed op (decayed t) (decayed u)
signed_is op t u c d e f =
    ap (λ (x : Class). signed_by op x d) e ∙ (ap (λ (x : Class). signed_by op (class_of t) x) f
    ∙ (ap (λ (b : Bool). if is_equality op then false else not (b || unsigned (class_of t) || unsigned (class_of u))) (address_is t)
    ∙ (ap (λ (b : Bool). if is_equality op then false else not (types.is_pointer (decayed t) || b || unsigned (class_of u))) (unsigned_is t)
    ∙ (ap (λ (b : Bool). if is_equality op then false else not (types.is_pointer (decayed t) || types.is_unsigned (decayed t) || b)) (unsigned_is u)
    ∙ sym (by_test op (decayed t) (decayed u))))))

-- ---- leaves

pub leaf_code : (e : CExpr) (w : Linking) (here : Environment) (k d : ℕ) → IsLeaf e → value_code e w here k d ≡ loaded (plain.direct e w here)
leaf_code (tree.Number at n unsigned) w here k d h = refl
leaf_code (tree.Str at text) w here k d h = refl
leaf_code (tree.Null at) w here k d h = refl
leaf_code (tree.Var at name) w here k d h = refl
leaf_code (tree.SizeTy at t) w here k d h = refl
leaf_code (tree.SizeOf at a) w here k d h = refl
leaf_code _ w here k d h = absurd h

-- a leaf without a value has no literals and no jumps
pub leaf_none : (e : CExpr) (w : Linking) (here : Environment) (s : Scope) → IsLeaf e → plain.direct e w here ≡ None → (literal_count s e ≡ 0) × (expr_jumps e ≡ 0)
leaf_none (tree.Var at name) w here s h e = (refl, refl)
leaf_none (tree.Number at n unsigned) w here s h e = (refl, refl)
leaf_none (tree.Str at text) w here s h e = absurd cc
leaf_none (tree.Null at) w here s h e = (refl, refl)
leaf_none (tree.SizeTy at t) w here s h e = (refl, refl)
leaf_none (tree.SizeOf at a) w here s h e = (refl, refl)
leaf_none _ w here s h e = absurd h

-- ---- names

pub name_is : (e : CExpr) (name : List ℕ) → Some name ≡ name_in e → (pos : ℕ) × (e ≡ tree.Var pos name)
name_is (tree.Var pos other) name h = (pos, ap (tree.Var pos) (sym (some_name name other h))) where
  some_name : (a b : List ℕ) → Some a ≡ Some b → a ≡ b
  some_name a b e = cc
name_is _ name h = absurd cc

pub printf_unnamed : (s : Scope) (e : CExpr) → None ≡ name_in e → names_printf s e ≡ false
printf_unnamed s (tree.Var pos name) h = absurd cc
printf_unnamed s e h = refl

pub unknown_unnamed : (e : CExpr) → None ≡ name_in e → known_name e ≡ None
unknown_unnamed (tree.Var pos name) h = absurd cc
unknown_unnamed e h = refl

pub format_is : (table : Table) (e : Option Entity) (o : Option scope.Entity) → IsEntityOrNone table e o → is_format e ≡ is_printf o
format_is table (Some entity.Printf) (Some scope.Printf) h = refl
format_is table (Some entity.Printf) (Some (scope.Object t)) h = absurd h
format_is table (Some entity.Printf) (Some (scope.Routine t b)) h = absurd h
format_is table (Some entity.Printf) (Some (scope.BuiltIn t)) h = absurd h
format_is table (Some entity.Printf) None h = absurd h
format_is table (Some (entity.Object n)) (Some (scope.Object t)) h = refl
format_is table (Some (entity.Object n)) (Some (scope.Routine t b)) h = absurd h
format_is table (Some (entity.Object n)) (Some (scope.BuiltIn t)) h = absurd h
format_is table (Some (entity.Object n)) (Some scope.Printf) h = absurd h
format_is table (Some (entity.Object n)) None h = absurd h
format_is table (Some (entity.Routine n k)) (Some (scope.Routine t b)) h = refl
format_is table (Some (entity.Routine n k)) (Some (scope.Object t)) h = absurd h
format_is table (Some (entity.Routine n k)) (Some (scope.BuiltIn t)) h = absurd h
format_is table (Some (entity.Routine n k)) (Some scope.Printf) h = absurd h
format_is table (Some (entity.Routine n k)) None h = absurd h
format_is table (Some (entity.BuiltIn n)) (Some (scope.BuiltIn t)) h = refl
format_is table (Some (entity.BuiltIn n)) (Some (scope.Object t)) h = absurd h
format_is table (Some (entity.BuiltIn n)) (Some (scope.Routine t b)) h = absurd h
format_is table (Some (entity.BuiltIn n)) (Some scope.Printf) h = absurd h
format_is table (Some (entity.BuiltIn n)) None h = absurd h
format_is table None None h = refl
format_is table None (Some o) h = absurd h

-- ---- comparisons

pub comparison_is : (signed : Bool) (test : Cond) (r : Reg) (v : Operand) → lifts signed r v ++ (Set test r (compared_operand signed v) ∷ moved_from r) ≡ compared test (comparable signed (bare r v))
comparison_is true test r v = refl
comparison_is false test r v = refl

pub jump_is : (signed holds : Bool) (target : ℕ) (test : Cond) (r : Reg) (v : Operand) → lifts signed r v ++ (JumpIf (if holds then test else opposite test) (constant target) r (compared_operand signed v) ∷ []) ≡ jump_where holds target test (comparable signed (bare r v))
jump_is true holds target test r v = refl
jump_is false holds target test r v = refl

pub lifts_are : (signed : Bool) (r : Reg) (v : Operand) → lifts signed r v ≡ (comparable signed (bare r v)).code
lifts_are true r v = refl
lifts_are false r v = refl

-- ---- arguments

several_of : (es : List Expr) → nat_lt 1 (length es) ≡ are_several (exprs (map expr_of es))
several_of [] = refl
several_of (e ∷ []) = refl
several_of (e ∷ f ∷ es) = grind (arith, nat_tests)

pub several_is : (es : Exprs) → nat_lt 1 (vec_len (out-Exprs es).items) ≡ are_several (exprs_of es)
several_is es = ap (nat_lt 1) (out-Exprs es).items.ok.0 ∙ (several_of (out-Exprs es).items.items ∙ sym (ap are_several (exprs_view es)))
