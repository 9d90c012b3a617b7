-- Trees whose string literals and objects are within the limits.
use Rattle.std.specs.Prelude.{◌<◌, Option, Some, None}
use Rattle.c_syntax.specs.Plain as plain
use Rattle.c_syntax.specs.Plain.{CExpr, CExprs, CValue, CValues, CDecl, CStmt, CStmts, CPart, CParts}
use Rattle.c_types.specs.Types.{words_of}
use Rattle.c_types.specs.Scope.{Scope, entered}
use Rattle.c_types.specs.Census.{scope_behind, scope_behind_head, scope_behind_part}
use Rattle.c_eval.specs.Environment.{object_type_in}
use Rattle.c_valid.specs.Valid.{IsText, most_cells}

abbrev mutual
  -- the string literals of an expression; what isn't evaluated has none
  pub ExprIsLimited : CExpr → Type 0
  ExprIsLimited (plain.Number at n unsigned) = Unit {0}
  ExprIsLimited (plain.Str at text) = IsText text
  ExprIsLimited (plain.Null at) = Unit {0}
  ExprIsLimited (plain.Var at name) = Unit {0}
  ExprIsLimited (plain.Unary at op a) = ExprIsLimited a
  ExprIsLimited (plain.Step at op a) = ExprIsLimited a
  ExprIsLimited (plain.Binary at op a b) = ExprIsLimited a × ExprIsLimited b
  ExprIsLimited (plain.Assign at op a b) = ExprIsLimited a × ExprIsLimited b
  ExprIsLimited (plain.Cond at a b c) = ExprIsLimited a × ExprIsLimited b × ExprIsLimited c
  ExprIsLimited (plain.Comma at a b) = ExprIsLimited a × ExprIsLimited b
  ExprIsLimited (plain.Cast at t a) = ExprIsLimited a
  ExprIsLimited (plain.SizeTy at t) = Unit {0}
  ExprIsLimited (plain.SizeOf at a) = Unit {0}
  ExprIsLimited (plain.Index at a b) = ExprIsLimited a × ExprIsLimited b
  ExprIsLimited (plain.Call at f es) = ExprIsLimited f × ExprsAreLimited es
  ExprIsLimited (plain.Member at a m) = ExprIsLimited a
  ExprIsLimited (plain.Arrow at a m) = ExprIsLimited a

  pub ExprsAreLimited : CExprs → Type 0
  ExprsAreLimited plain.NoExpr = Unit {0}
  ExprsAreLimited (plain.MoreExpr e es) = ExprIsLimited e × ExprsAreLimited es

abbrev pub MaybeIsLimited : Option CExpr → Type 0
MaybeIsLimited None = Unit {0}
MaybeIsLimited (Some e) = ExprIsLimited e

abbrev mutual
  pub ValueIsLimited : CValue → Type 0
  ValueIsLimited (plain.One e) = ExprIsLimited e
  ValueIsLimited (plain.Many vs) = ValuesAreLimited vs

  pub ValuesAreLimited : CValues → Type 0
  ValuesAreLimited plain.NoValue = Unit {0}
  ValuesAreLimited (plain.MoreValue v vs) = ValueIsLimited v × ValuesAreLimited vs

abbrev pub FirstIsLimited : Option CValue → Type 0
FirstIsLimited None = Unit {0}
FirstIsLimited (Some v) = ValueIsLimited v

-- an object that is declared has not too many cells
abbrev pub DeclIsLimited : Scope → CDecl → Type 0
DeclIsLimited s d = (words_of s.tags (object_type_in s d) < most_cells) × FirstIsLimited d.first

abbrev mutual
  pub StmtIsLimited : Scope → CStmt → Type 0
  StmtIsLimited s (plain.Block ss) = StmtsAreLimited (entered s) ss
  StmtIsLimited s (plain.Local d) = DeclIsLimited s d
  StmtIsLimited s (plain.Do_expr e) = ExprIsLimited e
  StmtIsLimited s plain.Empty = Unit {0}
  StmtIsLimited s (plain.If e t) = ExprIsLimited e × StmtIsLimited s t
  StmtIsLimited s (plain.IfElse e t u) = ExprIsLimited e × StmtIsLimited s t × StmtIsLimited s u
  StmtIsLimited s (plain.While e t) = ExprIsLimited e × StmtIsLimited s t
  StmtIsLimited s (plain.Do t e) = StmtIsLimited s t × ExprIsLimited e
  StmtIsLimited s (plain.For first test step t) = StmtIsLimited s first × MaybeIsLimited test × MaybeIsLimited step × StmtIsLimited (scope_behind_head s first) t
  StmtIsLimited s (plain.Return at e) = MaybeIsLimited e
  StmtIsLimited s (plain.Break at) = Unit {0}
  StmtIsLimited s (plain.Continue at) = Unit {0}
  StmtIsLimited s (plain.Switch e ps) = ExprIsLimited e × PartsAreLimited (entered s) ps

  pub StmtsAreLimited : Scope → CStmts → Type 0
  StmtsAreLimited s plain.NoStmt = Unit {0}
  StmtsAreLimited s (plain.MoreStmt t ts) = StmtIsLimited s t × StmtsAreLimited (scope_behind s t) ts

  -- a label isn't evaluated
  pub PartIsLimited : Scope → CPart → Type 0
  PartIsLimited s (plain.Label at e) = Unit {0}
  PartIsLimited s (plain.Item t) = StmtIsLimited s t

  pub PartsAreLimited : Scope → CParts → Type 0
  PartsAreLimited s plain.NoPart = Unit {0}
  PartsAreLimited s (plain.MorePart p ps) = PartIsLimited s p × PartsAreLimited (scope_behind_part s p) ps
