-- Scopes that are alike for the names of a tree.
use Rattle.std.specs.Prelude.{◌≡◌, ℕ, List, Option, Some, None}
use Rattle.c_syntax.specs.Plain as plain
use Rattle.c_syntax.specs.Plain.{CExpr, CExprs, CTy, CTys, CValue, CValues, CDecl}
use Rattle.c_types.specs.Scope.{Scope, entity_of, is_declared_here, contains}

-- in both a name stands for the same, and is that of a function of the text or isn't
pub record NameIsAlike (s s' : Scope) (name : List ℕ) : Type 0 where
  pub entity : entity_of s name ≡ entity_of s' name
  pub defined : contains s.defined name ≡ contains s'.defined name

abbrev mutual
  -- of each name of an expression it holds, those in lengths of types too
  pub EachName : (List ℕ → Type 0) → CExpr → Type 0
  EachName P (plain.Number at n unsigned) = Unit {0}
  EachName P (plain.Str at text) = Unit {0}
  EachName P (plain.Null at) = Unit {0}
  EachName P (plain.Var at name) = P name
  EachName P (plain.Unary at op a) = EachName P a
  EachName P (plain.Step at op a) = EachName P a
  EachName P (plain.Binary at op a b) = EachName P a × EachName P b
  EachName P (plain.Assign at op a b) = EachName P a × EachName P b
  EachName P (plain.Cond at a b c) = EachName P a × EachName P b × EachName P c
  EachName P (plain.Comma at a b) = EachName P a × EachName P b
  EachName P (plain.Cast at t a) = EachNameIn P t × EachName P a
  EachName P (plain.SizeTy at t) = EachNameIn P t
  EachName P (plain.SizeOf at a) = EachName P a
  EachName P (plain.Index at a b) = EachName P a × EachName P b
  EachName P (plain.Call at f es) = EachName P f × EachNameOf P es
  EachName P (plain.Member at a m) = EachName P a
  EachName P (plain.Arrow at a m) = EachName P a

  pub EachNameOf : (List ℕ → Type 0) → CExprs → Type 0
  EachNameOf P plain.NoExpr = Unit {0}
  EachNameOf P (plain.MoreExpr e es) = EachName P e × EachNameOf P es

  pub EachNameIn : (List ℕ → Type 0) → CTy → Type 0
  EachNameIn P (plain.Pointer t) = EachNameIn P t
  EachNameIn P (plain.Array t) = EachNameIn P t
  EachNameIn P (plain.ArrayOf t n) = EachNameIn P t × EachName P n
  EachNameIn P (plain.Func t ts) = EachNameIn P t × EachNameInAll P ts
  EachNameIn P t = Unit {0}

  pub EachNameInAll : (List ℕ → Type 0) → CTys → Type 0
  EachNameInAll P plain.NoTy = Unit {0}
  EachNameInAll P (plain.MoreTy t ts) = EachNameIn P t × EachNameInAll P ts

abbrev pub ExprIsAlike : Scope → Scope → CExpr → Type 0
ExprIsAlike s s' e = EachName (NameIsAlike s s') e

abbrev pub ExprsAreAlike : Scope → Scope → CExprs → Type 0
ExprsAreAlike s s' es = EachNameOf (NameIsAlike s s') es

abbrev pub TyIsAlike : Scope → Scope → CTy → Type 0
TyIsAlike s s' t = EachNameIn (NameIsAlike s s') t

abbrev pub TysAreAlike : Scope → Scope → CTys → Type 0
TysAreAlike s s' ts = EachNameInAll (NameIsAlike s s') ts

-- ---- scopes

-- scopes with the same tags, which are alike for these names, in their innermost blocks too
pub record ScopesAreAlike (P : List ℕ → Type 0) (s s' : Scope) : Type 0 where
  pub tags : s.tags ≡ s'.tags
  pub names : (name : List ℕ) → P name → NameIsAlike s s' name
  pub here : (name : List ℕ) → P name → is_declared_here s name ≡ is_declared_here s' name

-- of each name of a first value it holds
abbrev mutual
  pub EachNameOfValue : (List ℕ → Type 0) → CValue → Type 0
  EachNameOfValue P (plain.One e) = EachName P e
  EachNameOfValue P (plain.Many vs) = EachNameOfValues P vs

  pub EachNameOfValues : (List ℕ → Type 0) → CValues → Type 0
  EachNameOfValues P plain.NoValue = Unit {0}
  EachNameOfValues P (plain.MoreValue v vs) = EachNameOfValue P v × EachNameOfValues P vs

abbrev pub EachNameOfFirst : (List ℕ → Type 0) → Option CValue → Type 0
EachNameOfFirst P None = Unit {0}
EachNameOfFirst P (Some v) = EachNameOfValue P v

-- of each name of a declaration, its own too
abbrev pub EachNameOfDecl : (List ℕ → Type 0) → CDecl → Type 0
EachNameOfDecl P d = P d.name × EachNameIn P d.ty × EachNameOfFirst P d.first
