-- Calls of names.
use Rattle.std.proofs.Common.{◌≡◌, ℕ, Bool, true, false, List, Option, Some, None, refl, sym, ap, ◌∙◌, if◌then◌else◌}
use Rattle.std.specs.Prelude.{codes}
use Rattle.std.specs.Str.{bytes_eq}
use Rattle.c_syntax.specs.Plain as plain
use Rattle.c_syntax.specs.Plain.{CExpr}
use Rattle.c_syntax.specs.View.{form_of, expr_of}
use Rattle.c_syntax.specs.declared.tree.Expr.{Expr}
use Rattle.c_syntax.specs.declared.tree.Form.{Form, Number, Str, Null, Name, Unary', Step', Binary', Assign', Cond', Comma', Cast', SizeTy', SizeOf', Index', Call', Member', Arrow'}
use Rattle.c_types.specs.Types.{CType}
use Rattle.c_types.specs.Scope as scope
use Rattle.c_types.specs.Scope.{Scope, entity_of}
use Rattle.c_expressions.specs.Named.{name_in}
use Rattle.c_helpers.specs.Fewer.{named_call}
use Rattle.c_helpers.specs.Functions.{put_string}
use Rattle.c_fewer_expressions.specs.declared.names.Named.TheVariants.{Printf, Puts, Other}
use Rattle.c_fewer_expressions.specs.Calls.{CallsAs}

some_name : (m n : List ℕ) → Some m ≡ Some n → m ≡ n
some_name m n e = cc

-- a tree that is a name is that name at its place
pub variable_is : (e : Expr) (name : List ℕ) → Some name ≡ name_in (expr_of e) → expr_of e ≡ plain.Var e.pos name
variable_is e name h = by e.form e.pos h where
  by : (f : Form) (pos : ℕ) → Some name ≡ name_in (form_of f pos) → form_of f pos ≡ plain.Var pos name
  by (Name t) pos k = ap (plain.Var pos) (sym (some_name name t k))
  by (Number v u) pos k = absurd cc
  by (Str t) pos k = absurd cc
  by Null pos k = absurd cc
  by (Unary' op p pa a) pos k = absurd cc
  by (Step' op p pa a) pos k = absurd cc
  by (Binary' op p pa a q pb b) pos k = absurd cc
  by (Assign' op p pa a q pb b) pos k = absurd cc
  by (Cond' p pa a q pb b r pc c) pos k = absurd cc
  by (Comma' p pa a q pb b) pos k = absurd cc
  by (Cast' p t q pa a) pos k = absurd cc
  by (SizeTy' p t) pos k = absurd cc
  by (SizeOf' p pa a) pos k = absurd cc
  by (Index' p pa a q pb b) pos k = absurd cc
  by (Call' p pa a args) pos k = absurd cc
  by (Member' p pa a m) pos k = absurd cc
  by (Arrow' p pa a m) pos k = absurd cc

-- what is no name is called as it is
pub unnamed : (s : Scope) (f : CExpr) (pos : ℕ) → None ≡ name_in f → CallsAs s Other f pos
unnamed s (plain.Var p name) pos h = absurd cc
unnamed s (plain.Number p v u) pos h = λ at format es. refl
unnamed s (plain.Str p t) pos h = λ at format es. refl
unnamed s (plain.Null p) pos h = λ at format es. refl
unnamed s (plain.Unary p op a) pos h = λ at format es. refl
unnamed s (plain.Step p op a) pos h = λ at format es. refl
unnamed s (plain.Binary p op a b) pos h = λ at format es. refl
unnamed s (plain.Assign p op a b) pos h = λ at format es. refl
unnamed s (plain.Cond p a b c) pos h = λ at format es. refl
unnamed s (plain.Comma p a b) pos h = λ at format es. refl
unnamed s (plain.Cast p t a) pos h = λ at format es. refl
unnamed s (plain.SizeTy p t) pos h = λ at format es. refl
unnamed s (plain.SizeOf p a) pos h = λ at format es. refl
unnamed s (plain.Index p a b) pos h = λ at format es. refl
unnamed s (plain.Call p f es) pos h = λ at format gs. refl
unnamed s (plain.Member p a m) pos h = λ at format es. refl
unnamed s (plain.Arrow p a m) pos h = λ at format es. refl

-- ---- a name, by what it stands for

pub printf_named : (s : Scope) (pos : ℕ) (name : List ℕ) → entity_of s name ≡ Some scope.Printf → CallsAs s Printf (plain.Var pos name) pos
printf_named s pos name is =
    ((λ at format es. ap (λ (o : Option scope.Entity). named_call at pos name o (Some format) es) (sym is)), (λ at es. ap (λ (o : Option scope.Entity). named_call at pos name o None es) (sym is)))

pub puts_named : (s : Scope) (pos : ℕ) (name : List ℕ) (t : CType) → entity_of s name ≡ Some (scope.BuiltIn t) → true ≡ bytes_eq name (codes "puts") → CallsAs s Puts (plain.Var pos name) pos
puts_named s pos name t is puts =
    λ at format es. ap (λ (b : Bool). plain.Call at (plain.Var pos (if b then put_string.name else name)) es) puts ∙ ap (λ (o : Option scope.Entity). named_call at pos name o format es) (sym is)

pub built_in_named : (s : Scope) (pos : ℕ) (name : List ℕ) (t : CType) → entity_of s name ≡ Some (scope.BuiltIn t) → false ≡ bytes_eq name (codes "puts") → CallsAs s Other (plain.Var pos name) pos
built_in_named s pos name t is puts =
    λ at format es. ap (λ (b : Bool). plain.Call at (plain.Var pos (if b then put_string.name else name)) es) puts ∙ ap (λ (o : Option scope.Entity). named_call at pos name o format es) (sym is)

pub object_named : (s : Scope) (pos : ℕ) (name : List ℕ) (t : CType) → entity_of s name ≡ Some (scope.Object t) → CallsAs s Other (plain.Var pos name) pos
object_named s pos name t is = λ at format es. ap (λ (o : Option scope.Entity). named_call at pos name o format es) (sym is)

pub routine_named : (s : Scope) (pos : ℕ) (name : List ℕ) (t : CType) (begun : Bool) → entity_of s name ≡ Some (scope.Routine t begun) → CallsAs s Other (plain.Var pos name) pos
routine_named s pos name t begun is = λ at format es. ap (λ (o : Option scope.Entity). named_call at pos name o format es) (sym is)

pub nothing_named : (s : Scope) (pos : ℕ) (name : List ℕ) → entity_of s name ≡ None → CallsAs s Other (plain.Var pos name) pos
nothing_named s pos name is = λ at format es. ap (λ (o : Option scope.Entity). named_call at pos name o format es) (sym is)
