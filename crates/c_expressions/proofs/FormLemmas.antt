-- Expressions by what they are when they are called or stand under `sizeof`.
use Rattle.std.proofs.Common.{◌≡◌, ℕ, Bool, true, false, List, [], ◌∷◌, map, Option, Some, None, refl, sym, ap, ◌∙◌, if◌then◌else◌}
use Rattle.std.specs.Prelude.{Err, slice_get}
use Rattle.c_syntax.specs.Plain as plain
use Rattle.c_syntax.specs.Plain.{CExpr, CExprs, exprs}
use Rattle.c_syntax.specs.View.{form_of, expr_of}
use Rattle.c_syntax.specs.declared.tree.Expr.{Expr}
use Rattle.c_syntax.specs.declared.tree.Form.{Form, Number, Str, Null, Name, Unary', Step', Binary', Assign', Cond', Comma', Cast', SizeTy', SizeOf', Index', Call', Member', Arrow'}
use Rattle.c_types.specs.declared.fault.TypeFault.TheVariants as fault
use Rattle.c_types.specs.Refusals.{Judged, after}
use Rattle.c_types.specs.Scope.{Scope, entity_of, is_function}
use Rattle.c_types.specs.Operands.{Operand, size_operand}
use Rattle.c_types.specs.Expressions.{judged, callee_of, named_callee, through, names_function, format_of}
use Rattle.c_expressions.specs.Named.{name_in, string_in}

some_name : (m n : List ℕ) → Some m ≡ Some n → m ≡ n
some_name m n e = cc

pub callee_named : (s : Scope) (at : ℕ) (e : CExpr) (name : List ℕ) (j : Judged Operand) → Some name ≡ name_in e → callee_of s at e j ≡ named_callee s at name (entity_of s name)
callee_named s at (plain.Var pos other) name j h = ap (λ (n : List ℕ). named_callee s at n (entity_of s n)) (sym (some_name name other h))
callee_named s at (plain.Number pos v u) name j h = absurd cc
callee_named s at (plain.Str pos t) name j h = absurd cc
callee_named s at (plain.Null pos) name j h = absurd cc
callee_named s at (plain.Unary pos op a) name j h = absurd cc
callee_named s at (plain.Step pos op a) name j h = absurd cc
callee_named s at (plain.Binary pos op a b) name j h = absurd cc
callee_named s at (plain.Assign pos op a b) name j h = absurd cc
callee_named s at (plain.Cond pos a b c) name j h = absurd cc
callee_named s at (plain.Comma pos a b) name j h = absurd cc
callee_named s at (plain.Cast pos t a) name j h = absurd cc
callee_named s at (plain.SizeTy pos t) name j h = absurd cc
callee_named s at (plain.SizeOf pos a) name j h = absurd cc
callee_named s at (plain.Index pos a b) name j h = absurd cc
callee_named s at (plain.Call pos f es) name j h = absurd cc
callee_named s at (plain.Member pos a m) name j h = absurd cc
callee_named s at (plain.Arrow pos a m) name j h = absurd cc

pub callee_through : (s : Scope) (at : ℕ) (e : CExpr) (j : Judged Operand) → None ≡ name_in e → callee_of s at e j ≡ through j
callee_through s at (plain.Var pos other) j h = absurd cc
callee_through s at (plain.Number pos v u) j h = refl
callee_through s at (plain.Str pos t) j h = refl
callee_through s at (plain.Null pos) j h = refl
callee_through s at (plain.Unary pos op a) j h = refl
callee_through s at (plain.Step pos op a) j h = refl
callee_through s at (plain.Binary pos op a b) j h = refl
callee_through s at (plain.Assign pos op a b) j h = refl
callee_through s at (plain.Cond pos a b c) j h = refl
callee_through s at (plain.Comma pos a b) j h = refl
callee_through s at (plain.Cast pos t a) j h = refl
callee_through s at (plain.SizeTy pos t) j h = refl
callee_through s at (plain.SizeOf pos a) j h = refl
callee_through s at (plain.Index pos a b) j h = refl
callee_through s at (plain.Call pos f es) j h = refl
callee_through s at (plain.Member pos a m) j h = refl
callee_through s at (plain.Arrow pos a m) j h = refl

abbrev by_name : Scope → Option (List ℕ) → Bool
by_name s (Some name) = is_function (entity_of s name)
by_name s None = false

function_name : (s : Scope) (e : CExpr) → names_function s e ≡ by_name s (name_in e)
function_name s (plain.Var pos name) = refl
function_name s (plain.Number pos v u) = refl
function_name s (plain.Str pos t) = refl
function_name s (plain.Null pos) = refl
function_name s (plain.Unary pos op a) = refl
function_name s (plain.Step pos op a) = refl
function_name s (plain.Binary pos op a b) = refl
function_name s (plain.Assign pos op a b) = refl
function_name s (plain.Cond pos a b c) = refl
function_name s (plain.Comma pos a b) = refl
function_name s (plain.Cast pos t a) = refl
function_name s (plain.SizeTy pos t) = refl
function_name s (plain.SizeOf pos a) = refl
function_name s (plain.Index pos a b) = refl
function_name s (plain.Call pos f es) = refl
function_name s (plain.Member pos a m) = refl
function_name s (plain.Arrow pos a m) = refl

pub function_named : (s : Scope) (e : CExpr) (name : List ℕ) → Some name ≡ name_in e → is_function (entity_of s name) ≡ names_function s e
function_named s e name h = ap (by_name s) h ∙ sym (function_name s e)

pub function_unnamed : (s : Scope) (e : CExpr) → None ≡ name_in e → false ≡ names_function s e
function_unnamed s e h = ap (by_name s) h ∙ sym (function_name s e)

pub size_of_name : (s : Scope) (at : ℕ) (e : CExpr) → names_function s e ≡ true → judged s (plain.SizeOf at e) ≡ Err (fault.Mismatch at)
size_of_name s at e h = ap (λ (b : Bool). if b then Err (fault.Mismatch at) else after (judged s e) (λ x. size_operand s.tags at x.ty)) h

pub size_of_other : (s : Scope) (at : ℕ) (e : CExpr) → names_function s e ≡ false → judged s (plain.SizeOf at e) ≡ after (judged s e) (λ x. size_operand s.tags at x.ty)
size_of_other s at e h = ap (λ (b : Bool). if b then Err (fault.Mismatch at) else after (judged s e) (λ x. size_operand s.tags at x.ty)) h

-- the format of a call, by its first argument
string_first : (e : CExpr) (es : CExprs) → format_of (plain.MoreExpr e es) ≡ string_in e
string_first (plain.Str pos text) es = refl
string_first (plain.Var pos name) es = refl
string_first (plain.Number pos v u) es = refl
string_first (plain.Null pos) es = refl
string_first (plain.Unary pos op a) es = refl
string_first (plain.Step pos op a) es = refl
string_first (plain.Binary pos op a b) es = refl
string_first (plain.Assign pos op a b) es = refl
string_first (plain.Cond pos a b c) es = refl
string_first (plain.Comma pos a b) es = refl
string_first (plain.Cast pos t a) es = refl
string_first (plain.SizeTy pos t) es = refl
string_first (plain.SizeOf pos a) es = refl
string_first (plain.Index pos a b) es = refl
string_first (plain.Call pos f es2) es = refl
string_first (plain.Member pos a m) es = refl
string_first (plain.Arrow pos a m) es = refl

-- a form that is no name
pub no_name : (f : Form) (pos : ℕ) → ((t : List ℕ) → f ≡ Name t → ⊥) → None ≡ name_in (form_of f pos)
no_name (Name t) pos h = absurd (h t refl)
no_name (Number v u) pos h = refl
no_name (Str t) pos h = refl
no_name Null pos h = refl
no_name (Unary' op p pa a) pos h = refl
no_name (Step' op p pa a) pos h = refl
no_name (Binary' op p pa a q pb b) pos h = refl
no_name (Assign' op p pa a q pb b) pos h = refl
no_name (Cond' p pa a q pb b r pc c) pos h = refl
no_name (Comma' p pa a q pb b) pos h = refl
no_name (Cast' p t q pa a) pos h = refl
no_name (SizeTy' p t) pos h = refl
no_name (SizeOf' p pa a) pos h = refl
no_name (Index' p pa a q pb b) pos h = refl
no_name (Call' p pa a args) pos h = refl
no_name (Member' p pa a m) pos h = refl
no_name (Arrow' p pa a m) pos h = refl

-- one that is no string
pub no_string : (f : Form) (pos : ℕ) → ((t : List ℕ) → f ≡ Str t → ⊥) → None ≡ string_in (form_of f pos)
no_string (Str t) pos h = absurd (h t refl)
no_string (Name t) pos h = refl
no_string (Number v u) pos h = refl
no_string Null pos h = refl
no_string (Unary' op p pa a) pos h = refl
no_string (Step' op p pa a) pos h = refl
no_string (Binary' op p pa a q pb b) pos h = refl
no_string (Assign' op p pa a q pb b) pos h = refl
no_string (Cond' p pa a q pb b r pc c) pos h = refl
no_string (Comma' p pa a q pb b) pos h = refl
no_string (Cast' p t q pa a) pos h = refl
no_string (SizeTy' p t) pos h = refl
no_string (SizeOf' p pa a) pos h = refl
no_string (Index' p pa a q pb b) pos h = refl
no_string (Call' p pa a args) pos h = refl
no_string (Member' p pa a m) pos h = refl
no_string (Arrow' p pa a m) pos h = refl

-- the first argument of a list of the code
pub format_at : (es : List Expr) (e : Expr) → slice_get es 0 ≡ Some e → string_in (expr_of e) ≡ format_of (exprs (map expr_of es))
format_at [] e h = absurd cc
format_at (x ∷ es) e h =
    let same : x ≡ e = cc in
    ap (λ (k : Expr). string_in (expr_of k)) (sym same) ∙ sym (string_first (expr_of x) (exprs (map expr_of es)))

pub no_format : (es : List Expr) → slice_get es 0 ≡ None → None ≡ format_of (exprs (map expr_of es))
no_format [] h = refl
no_format (x ∷ es) h = absurd cc
