-- Statements that write narrow types alone.
use Rattle.std.specs.Prelude.{IfOk, Option, Some, None}
use Rattle.c_syntax.specs.Plain as plain
use Rattle.c_syntax.specs.Plain.{CExpr, CValue, CValues, CStmt, CStmts, CPart, CParts}
use Rattle.c_types.specs.Scope.{Scope, entered}
use Rattle.c_types.specs.Declarations.{declared_type}
use Rattle.c_types.specs.Census.{scope_behind, scope_behind_head, scope_behind_part}
use Rattle.c_limited.specs.Narrow.{IsNarrow, WritesNarrow}

abbrev pub MaybeWritesNarrow : Scope → Option CExpr → Type 0
MaybeWritesNarrow s None = Unit {0}
MaybeWritesNarrow s (Some e) = WritesNarrow s e

abbrev mutual
  pub ValueWritesNarrow : Scope → CValue → Type 0
  ValueWritesNarrow s (plain.One e) = WritesNarrow s e
  ValueWritesNarrow s (plain.Many vs) = ValuesWriteNarrow s vs

  pub ValuesWriteNarrow : Scope → CValues → Type 0
  ValuesWriteNarrow s plain.NoValue = Unit {0}
  ValuesWriteNarrow s (plain.MoreValue v vs) = ValueWritesNarrow s v × ValuesWriteNarrow s vs

abbrev pub FirstWritesNarrow : Scope → Option CValue → Type 0
FirstWritesNarrow s None = Unit {0}
FirstWritesNarrow s (Some v) = ValueWritesNarrow s v

abbrev mutual
  -- the types of its declarations, and those that its expressions write
  pub StmtWritesNarrow : Scope → CStmt → Type 0
  StmtWritesNarrow s (plain.Block ss) = StmtsWriteNarrow (entered s) ss
  StmtWritesNarrow s (plain.Local d) = IfOk (declared_type s d) (IsNarrow s.tags) × FirstWritesNarrow (scope_behind s (plain.Local d)) d.first
  StmtWritesNarrow s (plain.Do_expr e) = WritesNarrow s e
  StmtWritesNarrow s plain.Empty = Unit {0}
  StmtWritesNarrow s (plain.If e t) = WritesNarrow s e × StmtWritesNarrow s t
  StmtWritesNarrow s (plain.IfElse e t u) = WritesNarrow s e × StmtWritesNarrow s t × StmtWritesNarrow s u
  StmtWritesNarrow s (plain.While e t) = WritesNarrow s e × StmtWritesNarrow s t
  StmtWritesNarrow s (plain.Do t e) = StmtWritesNarrow s t × WritesNarrow s e
  StmtWritesNarrow s (plain.For first test step t) =
      let inner = scope_behind_head s first in
      StmtWritesNarrow s first × MaybeWritesNarrow inner test × MaybeWritesNarrow inner step × StmtWritesNarrow inner t
  StmtWritesNarrow s (plain.Return at e) = MaybeWritesNarrow s e
  StmtWritesNarrow s (plain.Break at) = Unit {0}
  StmtWritesNarrow s (plain.Continue at) = Unit {0}
  StmtWritesNarrow s (plain.Switch e ps) = WritesNarrow s e × PartsWriteNarrow (entered s) ps

  pub StmtsWriteNarrow : Scope → CStmts → Type 0
  StmtsWriteNarrow s plain.NoStmt = Unit {0}
  StmtsWriteNarrow s (plain.MoreStmt t ts) = StmtWritesNarrow s t × StmtsWriteNarrow (scope_behind s t) ts

  pub PartWritesNarrow : Scope → CPart → Type 0
  PartWritesNarrow s (plain.Label at e) = Unit {0}
  PartWritesNarrow s (plain.Item t) = StmtWritesNarrow s t

  pub PartsWriteNarrow : Scope → CParts → Type 0
  PartsWriteNarrow s plain.NoPart = Unit {0}
  PartsWriteNarrow s (plain.MorePart p ps) = PartWritesNarrow s p × PartsWriteNarrow (scope_behind_part s p) ps
