-- Scopes of a text and of the one with fewer operators, at the same place.
use Rattle.std.specs.Prelude.{◌≡◌, ℕ, ◌^◌, ◌≤◌, Bool, true, false, List, Option, Some, None}
use Rattle.std.specs.List.{list_any}
use Rattle.c_syntax.specs.Plain as plain
use Rattle.c_syntax.specs.Plain.{CExpr, CValue, CValues, CDecl, CStmt, CStmts, CPart, CParts}
use Rattle.c_types.specs.Scope.{Scope, is_declared_here}
use Rattle.c_types.specs.Declarations.{count_values}
use Rattle.c_fewer_types.specs.Written.{ScopeCanBeWritten}
use Rattle.c_helpers.specs.Laws.{is_strange}
use Rattle.c_fewer_types.specs.Stands.{NameStands}
use Rattle.c_fewer_types.specs.Laws.{KnowsBuiltIns}

-- a name that a text can have: letters, digits and `_`
abbrev pub IsTextName : List ℕ → Type 0
IsTextName name = list_any is_strange name ≡ false

-- the second scope stands for the first: it has the same tags, these names have their meaning, and what the text declares here is declared here
pub record ScopesStand (P : List ℕ → Type 0) (s s' : Scope) : Type 0 where
  pub tags : s.tags ≡ s'.tags
  pub names : (name : List ℕ) → P name → NameStands s s' name
  pub here : (name : List ℕ) → IsTextName name → is_declared_here s name ≡ is_declared_here s' name
  pub written : ScopeCanBeWritten s
  pub built_in : KnowsBuiltIns s

-- ---- what holds of the parts of a statement

-- of each expression of a first value
abbrev mutual
  pub ValueHas : (CExpr → Type 0) → CValue → Type 0
  ValueHas Q (plain.One e) = Q e
  ValueHas Q (plain.Many vs) = ValuesHave Q vs

  pub ValuesHave : (CExpr → Type 0) → CValues → Type 0
  ValuesHave Q plain.NoValue = Unit {0}
  ValuesHave Q (plain.MoreValue v vs) = ValueHas Q v × ValuesHave Q vs

abbrev pub FirstHas : (CExpr → Type 0) → Option CValue → Type 0
FirstHas Q None = Unit {0}
FirstHas Q (Some v) = ValueHas Q v

abbrev pub MaybeHas : (CExpr → Type 0) → Option CExpr → Type 0
MaybeHas Q None = Unit {0}
MaybeHas Q (Some e) = Q e

abbrev pub is_declaration : CStmt → Bool
is_declaration (plain.Local d) = true
is_declaration _ = false

-- of each expression that a statement evaluates, and of each declaration; none stands bare at the head of a `for`
abbrev mutual
  pub StmtHas : (CExpr → Type 0) → (CDecl → Type 0) → CStmt → Type 0
  StmtHas Q D (plain.Block ss) = StmtsHave Q D ss
  StmtHas Q D (plain.Local d) = D d × FirstHas Q d.first
  StmtHas Q D (plain.Do_expr e) = Q e
  StmtHas Q D plain.Empty = Unit {0}
  StmtHas Q D (plain.If e t) = Q e × StmtHas Q D t
  StmtHas Q D (plain.IfElse e t u) = Q e × StmtHas Q D t × StmtHas Q D u
  StmtHas Q D (plain.While e t) = Q e × StmtHas Q D t
  StmtHas Q D (plain.Do t e) = Q e × StmtHas Q D t
  StmtHas Q D (plain.For first test step t) = (is_declaration first ≡ false) × StmtHas Q D first × MaybeHas Q test × MaybeHas Q step × StmtHas Q D t
  StmtHas Q D (plain.Return at e) = MaybeHas Q e
  StmtHas Q D (plain.Break at) = Unit {0}
  StmtHas Q D (plain.Continue at) = Unit {0}
  StmtHas Q D (plain.Switch e ps) = Q e × PartsHave Q D ps

  pub StmtsHave : (CExpr → Type 0) → (CDecl → Type 0) → CStmts → Type 0
  StmtsHave Q D plain.NoStmt = Unit {0}
  StmtsHave Q D (plain.MoreStmt t ts) = StmtHas Q D t × StmtsHave Q D ts

  pub PartHas : (CExpr → Type 0) → (CDecl → Type 0) → CPart → Type 0
  PartHas Q D (plain.Label at e) = Unit {0}
  PartHas Q D (plain.Item t) = StmtHas Q D t

  pub PartsHave : (CExpr → Type 0) → (CDecl → Type 0) → CParts → Type 0
  PartsHave Q D plain.NoPart = Unit {0}
  PartsHave Q D (plain.MorePart p ps) = PartHas Q D p × PartsHave Q D ps

-- a braced list has at most 2^22 values
abbrev pub FirstIsShort : Option CValue → Type 0
FirstIsShort (Some (plain.Many vs)) = count_values vs ≤ 2 ^ 22
FirstIsShort _ = Unit {0}

-- a declaration that a text within the limits can have
abbrev pub IsDeclaration : CDecl → Type 0
IsDeclaration d = IsTextName d.name × FirstIsShort d.first

-- of the declarations of the text that is made nothing is asked
abbrev pub AnyDeclaration : CDecl → Type 0
AnyDeclaration d = Unit {0}
