-- How what is called is called.
use Rattle.std.specs.Prelude.{◌≡◌, ℕ, Bool, true, false, List, [], Option, Some, None, if◌then◌else◌}
use Rattle.c_syntax.specs.Plain as plain
use Rattle.c_syntax.specs.Plain.{CExpr, CExprs}
use Rattle.c_types.specs.Types.{CTypes}
use Rattle.c_types.specs.Scope.{Scope}
use Rattle.c_eval.specs.Environment.{callee_in, Callee, Direct, Known, Format, Through}
use Rattle.c_eval.specs.LiteralsIn.{literals_in, literals_in_all, literals_behind, names_printf}
use Rattle.c_scopes.specs.declared.entity.Entity.{Entity}
use Rattle.c_scopes.specs.declared.entity.Entity.TheVariants.{Printf}
use Rattle.c_lowered.specs.Counts.{is_known_to_helpers}
use Rattle.c_lowered.specs.Expressions.{known_name}
use Rattle.c_lowered.specs.Locations.{Linking}
use Rattle.c_counted.specs.Numbers.{IsNumber}
use Rattle.c_applied.specs.declared.calls.Called.{Called}
use Rattle.c_applied.specs.declared.calls.Called.TheVariants as called

-- `printf`
abbrev pub is_format : Option Entity → Bool
is_format (Some Printf) = true
is_format _ = false

-- a name that helper functions alone call
pub record IsHelper (name : List ℕ) (f : CExpr) : Type 0 where
  pub at : ℕ
  pub is : f ≡ plain.Var at name
  pub known : is_known_to_helpers name ≡ true

-- another name, and what it is called as
pub record IsNamed (s : Scope) (name : List ℕ) (what : Callee) (f : CExpr) : Type 0 where
  pub at : ℕ
  pub is : f ≡ plain.Var at name
  pub unknown : is_known_to_helpers name ≡ false
  pub callee : callee_in s f ≡ what

pub record IsRoutine (told : ℕ) (w : Linking) (s : Scope) (f : CExpr) : Type 0 where
  pub name : List ℕ
  pub params : CTypes
  pub named : IsNamed s name (Direct name params) f
  pub entry : IsNumber told (w.entry name)
  pub printed : names_printf s f ≡ false

pub record IsBuiltIn (name : List ℕ) (s : Scope) (f : CExpr) : Type 0 where
  pub params : CTypes
  pub named : IsNamed s name (Known name params) f

pub record IsFormat (s : Scope) (f : CExpr) : Type 0 where
  pub name : List ℕ
  pub named : IsNamed s name Format f

pub record IsThrough (s : Scope) (f : CExpr) : Type 0 where
  pub params : CTypes
  pub unknown : known_name f ≡ None
  pub callee : callee_in s f ≡ Through params
  pub printed : names_printf s f ≡ false

abbrev pub IsCalled : Called → Linking → Scope → CExpr → Type 0
IsCalled (called.Helper name) w s f = IsHelper name.now f
IsCalled (called.Routine entry) w s f = IsRoutine entry w s f
IsCalled (called.BuiltIn name) w s f = IsBuiltIn name.now s f
IsCalled called.Format w s f = IsFormat s f
IsCalled called.Through w s f = IsThrough s f

-- the literals of arguments that are objects: a format has none
abbrev pub given_literals : Bool → Scope → CExprs → List (List ℕ)
given_literals true s es = literals_behind s es
given_literals false s es = literals_in_all s es

-- those of one argument, but for a format
abbrev pub argument_literals : Bool → Scope → CExpr → List (List ℕ)
argument_literals true s e = []
argument_literals false s e = literals_in s e
