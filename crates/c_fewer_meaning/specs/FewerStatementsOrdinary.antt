-- Statements whose elements are small.
use Rattle.std.specs.Prelude.{Option, Some, None}
use Rattle.c_syntax.specs.Plain as plain
use Rattle.c_syntax.specs.Plain.{CExpr, CValue, CValues, CStmt, CStmts, CPart, CParts}
use Rattle.c_types.specs.Scope.{Scope, entered}
use Rattle.c_types.specs.Census.{scope_behind, scope_behind_head, scope_behind_part}
use Rattle.c_fewer_meaning.specs.Ordinary.{IsOrdinary}

abbrev pub MaybeIsOrdinary : Scope → Option CExpr → Type 0
MaybeIsOrdinary s None = Unit {0}
MaybeIsOrdinary s (Some e) = IsOrdinary s e

abbrev mutual
  pub ValueIsOrdinary : Scope → CValue → Type 0
  ValueIsOrdinary s (plain.One e) = IsOrdinary s e
  ValueIsOrdinary s (plain.Many vs) = ValuesAreOrdinary s vs

  pub ValuesAreOrdinary : Scope → CValues → Type 0
  ValuesAreOrdinary s plain.NoValue = Unit {0}
  ValuesAreOrdinary s (plain.MoreValue v vs) = ValueIsOrdinary s v × ValuesAreOrdinary s vs

abbrev pub FirstIsOrdinary : Scope → Option CValue → Type 0
FirstIsOrdinary s None = Unit {0}
FirstIsOrdinary s (Some v) = ValueIsOrdinary s v

abbrev mutual
  -- each expression is one whose elements are small, in its scope
  pub StmtIsOrdinary : Scope → CStmt → Type 0
  StmtIsOrdinary s (plain.Block ss) = StmtsAreOrdinary (entered s) ss
  StmtIsOrdinary s (plain.Local d) = FirstIsOrdinary (scope_behind s (plain.Local d)) d.first
  StmtIsOrdinary s (plain.Do_expr e) = IsOrdinary s e
  StmtIsOrdinary s plain.Empty = Unit {0}
  StmtIsOrdinary s (plain.If e t) = IsOrdinary s e × StmtIsOrdinary s t
  StmtIsOrdinary s (plain.IfElse e t u) = IsOrdinary s e × StmtIsOrdinary s t × StmtIsOrdinary s u
  StmtIsOrdinary s (plain.While e t) = IsOrdinary s e × StmtIsOrdinary s t
  StmtIsOrdinary s (plain.Do t e) = StmtIsOrdinary s t × IsOrdinary s e
  StmtIsOrdinary s (plain.For first test step t) =
      let inner = scope_behind_head s first in
      StmtIsOrdinary s first × MaybeIsOrdinary inner test × MaybeIsOrdinary inner step × StmtIsOrdinary inner t
  StmtIsOrdinary s (plain.Return at e) = MaybeIsOrdinary s e
  StmtIsOrdinary s (plain.Break at) = Unit {0}
  StmtIsOrdinary s (plain.Continue at) = Unit {0}
  StmtIsOrdinary s (plain.Switch e ps) = IsOrdinary s e × PartsAreOrdinary (entered s) ps

  pub StmtsAreOrdinary : Scope → CStmts → Type 0
  StmtsAreOrdinary s plain.NoStmt = Unit {0}
  StmtsAreOrdinary s (plain.MoreStmt t ts) = StmtIsOrdinary s t × StmtsAreOrdinary (scope_behind s t) ts

  -- a label isn't evaluated
  pub PartIsOrdinary : Scope → CPart → Type 0
  PartIsOrdinary s (plain.Label at e) = Unit {0}
  PartIsOrdinary s (plain.Item t) = StmtIsOrdinary s t

  pub PartsAreOrdinary : Scope → CParts → Type 0
  PartsAreOrdinary s plain.NoPart = Unit {0}
  PartsAreOrdinary s (plain.MorePart p ps) = PartIsOrdinary s p × PartsAreOrdinary (scope_behind_part s p) ps
