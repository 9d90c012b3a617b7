-- Trees as tokens of a text spell them: their names, their string literals, how they assign, and where declarations stand.
use Rattle.std.specs.Prelude.{◌≡◌, false, List, [], ◌∷◌, Option, Some, None}
use Rattle.c_syntax.specs.Plain as plain
use Rattle.c_syntax.specs.Plain.{CExpr, CExprs, CTy, CTys, CValue, CValues, CDecl, CStmt, CStmts, CPart, CParts, CItem}
use Rattle.c_valid.specs.Valid.{AreBytes}
use Rattle.c_fewer_types.specs.Standing.{IsTextName, is_declaration}
use Rattle.c_fewer_reached.specs.Updates.{IsUpdate}

abbrev mutual
  -- string literals are bytes, and assignments are by the operators that C has for it, in types too
  pub ExprIsSpelled : CExpr → Type 0
  ExprIsSpelled (plain.Str at text) = AreBytes text
  ExprIsSpelled (plain.Unary at op a) = ExprIsSpelled a
  ExprIsSpelled (plain.Step at op a) = ExprIsSpelled a
  ExprIsSpelled (plain.Binary at op a b) = ExprIsSpelled a × ExprIsSpelled b
  ExprIsSpelled (plain.Assign at None a b) = ExprIsSpelled a × ExprIsSpelled b
  ExprIsSpelled (plain.Assign at (Some op) a b) = IsUpdate op × ExprIsSpelled a × ExprIsSpelled b
  ExprIsSpelled (plain.Cond at a b c) = ExprIsSpelled a × ExprIsSpelled b × ExprIsSpelled c
  ExprIsSpelled (plain.Comma at a b) = ExprIsSpelled a × ExprIsSpelled b
  ExprIsSpelled (plain.Cast at t a) = TyIsSpelled t × ExprIsSpelled a
  ExprIsSpelled (plain.SizeTy at t) = TyIsSpelled t
  ExprIsSpelled (plain.SizeOf at a) = ExprIsSpelled a
  ExprIsSpelled (plain.Index at a b) = ExprIsSpelled a × ExprIsSpelled b
  ExprIsSpelled (plain.Call at f es) = ExprIsSpelled f × ExprsAreSpelled es
  ExprIsSpelled (plain.Member at a m) = ExprIsSpelled a
  ExprIsSpelled (plain.Arrow at a m) = ExprIsSpelled a
  ExprIsSpelled _ = Unit {0}

  pub ExprsAreSpelled : CExprs → Type 0
  ExprsAreSpelled plain.NoExpr = Unit {0}
  ExprsAreSpelled (plain.MoreExpr e es) = ExprIsSpelled e × ExprsAreSpelled es

  pub TyIsSpelled : CTy → Type 0
  TyIsSpelled (plain.Pointer t) = TyIsSpelled t
  TyIsSpelled (plain.Array t) = TyIsSpelled t
  TyIsSpelled (plain.ArrayOf t n) = TyIsSpelled t × ExprIsSpelled n
  TyIsSpelled (plain.Func t ts) = TyIsSpelled t × TysAreSpelled ts
  TyIsSpelled _ = Unit {0}

  pub TysAreSpelled : CTys → Type 0
  TysAreSpelled plain.NoTy = Unit {0}
  TysAreSpelled (plain.MoreTy t ts) = TyIsSpelled t × TysAreSpelled ts

abbrev pub MaybeIsSpelled : Option CExpr → Type 0
MaybeIsSpelled None = Unit {0}
MaybeIsSpelled (Some e) = ExprIsSpelled e

abbrev mutual
  pub ValueIsSpelled : CValue → Type 0
  ValueIsSpelled (plain.One e) = ExprIsSpelled e
  ValueIsSpelled (plain.Many vs) = ValuesAreSpelled vs

  pub ValuesAreSpelled : CValues → Type 0
  ValuesAreSpelled plain.NoValue = Unit {0}
  ValuesAreSpelled (plain.MoreValue v vs) = ValueIsSpelled v × ValuesAreSpelled vs

abbrev pub FirstIsSpelled : Option CValue → Type 0
FirstIsSpelled None = Unit {0}
FirstIsSpelled (Some v) = ValueIsSpelled v

-- a declared name has letters, digits and `_`
abbrev pub DeclIsSpelled : CDecl → Type 0
DeclIsSpelled d = IsTextName d.name × TyIsSpelled d.ty × FirstIsSpelled d.first

abbrev pub DeclsAreSpelled : List CDecl → Type 0
DeclsAreSpelled [] = Unit {0}
DeclsAreSpelled (d ∷ ds) = DeclIsSpelled d × DeclsAreSpelled ds

abbrev mutual
  -- no declaration stands bare at the head of a `for`
  pub StmtIsSpelled : CStmt → Type 0
  StmtIsSpelled (plain.Block ss) = StmtsAreSpelled ss
  StmtIsSpelled (plain.Local d) = DeclIsSpelled d
  StmtIsSpelled (plain.Do_expr e) = ExprIsSpelled e
  StmtIsSpelled plain.Empty = Unit {0}
  StmtIsSpelled (plain.If e t) = ExprIsSpelled e × StmtIsSpelled t
  StmtIsSpelled (plain.IfElse e t u) = ExprIsSpelled e × StmtIsSpelled t × StmtIsSpelled u
  StmtIsSpelled (plain.While e t) = ExprIsSpelled e × StmtIsSpelled t
  StmtIsSpelled (plain.Do t e) = ExprIsSpelled e × StmtIsSpelled t
  StmtIsSpelled (plain.For first test step t) = (is_declaration first ≡ false) × StmtIsSpelled first × MaybeIsSpelled test × MaybeIsSpelled step × StmtIsSpelled t
  StmtIsSpelled (plain.Return at e) = MaybeIsSpelled e
  StmtIsSpelled (plain.Break at) = Unit {0}
  StmtIsSpelled (plain.Continue at) = Unit {0}
  StmtIsSpelled (plain.Switch e ps) = ExprIsSpelled e × PartsAreSpelled ps

  pub StmtsAreSpelled : CStmts → Type 0
  StmtsAreSpelled plain.NoStmt = Unit {0}
  StmtsAreSpelled (plain.MoreStmt t ts) = StmtIsSpelled t × StmtsAreSpelled ts

  pub PartIsSpelled : CPart → Type 0
  PartIsSpelled (plain.Label at e) = MaybeIsSpelled e
  PartIsSpelled (plain.Item t) = StmtIsSpelled t

  pub PartsAreSpelled : CParts → Type 0
  PartsAreSpelled plain.NoPart = Unit {0}
  PartsAreSpelled (plain.MorePart p ps) = PartIsSpelled p × PartsAreSpelled ps

abbrev pub BodyIsSpelled : Option CStmt → Type 0
BodyIsSpelled None = Unit {0}
BodyIsSpelled (Some t) = StmtIsSpelled t

abbrev pub ItemIsSpelled : CItem → Type 0
ItemIsSpelled (plain.StructItem tag) = DeclsAreSpelled tag.members
ItemIsSpelled (plain.Object d) = DeclIsSpelled d
ItemIsSpelled (plain.Function name at result params body) = IsTextName name × TyIsSpelled result × DeclsAreSpelled params × BodyIsSpelled body

abbrev pub ItemsAreSpelled : List CItem → Type 0
ItemsAreSpelled [] = Unit {0}
ItemsAreSpelled (item ∷ items) = ItemIsSpelled item × ItemsAreSpelled items
