-- The forms of first values at file scope.
use Rattle.std.specs.Prelude.{◌≡◌, ℕ, Bool, true, false, List, [], Option, Some}
use Rattle.c_syntax.specs.Plain as plain
use Rattle.c_syntax.specs.Plain.{CExpr, CValue, CValues}
use Rattle.c_syntax.specs.declared.tree.UnOp.TheVariants as unary
use Rattle.c_types.specs.Scope.{Scope}
use Rattle.c_scopes.specs.declared.entity.Entity.{Entity}
use Rattle.c_scopes.specs.declared.entity.Entity.TheVariants.{Object}
use Rattle.c_eval.specs.LiteralsIn.{literals_in}
use Rattle.c_static.specs.declared.form.StaticForm as rust
use Rattle.c_static.specs.declared.form.StaticForm.TheVariants as form

-- a string, `NULL`, a name or its address, or else a constant expression
pub data PlainForm : Type 0 where
  Text : (text : List ℕ) → PlainForm
  Null : PlainForm
  Name : (name : List ℕ) → PlainForm
  Constant : PlainForm

abbrev pub plain_form : rust.StaticForm → PlainForm
plain_form (form.Text text) = Text text.now
plain_form form.Null = Null
plain_form (form.Name name) = Name name.now
plain_form form.Constant = Constant

abbrev pub static_form : CExpr → PlainForm
static_form (plain.Str at text) = Text text
static_form (plain.Null at) = Null
static_form (plain.Var at name) = Name name
static_form (plain.Unary at unary.Address (plain.Var pos name)) = Name name
static_form _ = Constant

abbrev pub is_object : Option Entity → Bool
is_object (Some (Object ty)) = true
is_object _ = false

-- a constant expression has no string literals
abbrev pub IsQuietForm : PlainForm → List (List ℕ) → Type 0
IsQuietForm Constant literals = literals ≡ []
IsQuietForm _ literals = Unit {0}

abbrev pub IsQuiet : Scope → CExpr → Type 0
IsQuiet s e = IsQuietForm (static_form e) (literals_in s e)

abbrev mutual
  pub IsQuietValue : Scope → CValue → Type 0
  IsQuietValue s (plain.One e) = IsQuiet s e
  IsQuietValue s (plain.Many vs) = AreQuietValues s vs

  pub AreQuietValues : Scope → CValues → Type 0
  AreQuietValues s plain.NoValue = Unit {0}
  AreQuietValues s (plain.MoreValue v vs) = IsQuietValue s v × AreQuietValues s vs
