-- Sums over the nodes of a tree.
use Rattle.std.specs.Prelude.{ℕ, ◌+◌, false, List, [], ◌∷◌, Option, Some, None, Ok, Err, if◌then◌else◌}
use Rattle.c_syntax.specs.Plain as plain
use Rattle.c_syntax.specs.Plain.{CExpr, CExprs, CTy, CTys, CValue, CValues, CDecl, CStmt, CStmts, CPart, CParts, CTag, CItem, CUnit}
use Rattle.c_types.specs.Types.{CType, Struct, Tags, Unfinished}
use Rattle.c_types.specs.Refusals.{Judged}
use Rattle.c_types.specs.Scope.{Scope, entered}
use Rattle.c_types.specs.Expressions.{names_function, written}
use Rattle.c_types.specs.Declarations.{declared, declared_type, scope_or, tag_declared, with_tag}
use Rattle.c_types.specs.Units.{declared_parameter, Signature, signature, body_scope, parameter, parameter_scope_or, item_judged, start_scope}

-- what each node counts by itself
pub record Tally : Type 0 where
  -- an expression
  pub expr : Scope → CExpr → ℕ
  -- any other node
  pub node : ℕ
  -- a type that is declared
  pub ty : Tags → CType → ℕ
  -- an object that is declared, with its first value
  pub object : Tags → CType → Option CValue → ℕ

abbrev mutual
  -- the name that is called in a direct call is no node
  pub expr_sum : Tally → Scope → CExpr → ℕ
  expr_sum c s (plain.Number at value unsigned) = c.expr s (plain.Number at value unsigned)
  expr_sum c s (plain.Str at text) = c.expr s (plain.Str at text)
  expr_sum c s (plain.Null at) = c.expr s (plain.Null at)
  expr_sum c s (plain.Var at name) = c.expr s (plain.Var at name)
  expr_sum c s (plain.Unary at op a) = c.expr s (plain.Unary at op a) + expr_sum c s a
  expr_sum c s (plain.Step at op a) = c.expr s (plain.Step at op a) + expr_sum c s a
  expr_sum c s (plain.Binary at op a b) = c.expr s (plain.Binary at op a b) + expr_sum c s a + expr_sum c s b
  expr_sum c s (plain.Assign at op a b) = c.expr s (plain.Assign at op a b) + expr_sum c s a + expr_sum c s b
  expr_sum c s (plain.Cond at a b d) = c.expr s (plain.Cond at a b d) + expr_sum c s a + expr_sum c s b + expr_sum c s d
  expr_sum c s (plain.Comma at a b) = c.expr s (plain.Comma at a b) + expr_sum c s a + expr_sum c s b
  expr_sum c s (plain.Cast at t a) = c.expr s (plain.Cast at t a) + ty_sum c s t + expr_sum c s a
  expr_sum c s (plain.SizeTy at t) = c.expr s (plain.SizeTy at t) + ty_sum c s t
  expr_sum c s (plain.SizeOf at a) = c.expr s (plain.SizeOf at a) + expr_sum c s a
  expr_sum c s (plain.Index at a b) = c.expr s (plain.Index at a b) + expr_sum c s a + expr_sum c s b
  expr_sum c s (plain.Call at f es) = c.expr s (plain.Call at f es) + (if names_function s f then 0 else expr_sum c s f) + exprs_sum c s es
  expr_sum c s (plain.Member at a m) = c.expr s (plain.Member at a m) + expr_sum c s a
  expr_sum c s (plain.Arrow at a m) = c.expr s (plain.Arrow at a m) + expr_sum c s a

  pub exprs_sum : Tally → Scope → CExprs → ℕ
  exprs_sum c s plain.NoExpr = 0
  exprs_sum c s (plain.MoreExpr e es) = expr_sum c s e + exprs_sum c s es

  pub ty_sum : Tally → Scope → CTy → ℕ
  ty_sum c s (plain.Pointer t) = c.node + ty_sum c s t
  ty_sum c s (plain.Array t) = c.node + ty_sum c s t
  ty_sum c s (plain.ArrayOf t n) = c.node + ty_sum c s t + expr_sum c s n
  ty_sum c s (plain.Func t ts) = c.node + ty_sum c s t + tys_sum c s ts
  ty_sum c s _ = c.node

  pub tys_sum : Tally → Scope → CTys → ℕ
  tys_sum c s plain.NoTy = 0
  tys_sum c s (plain.MoreTy t ts) = ty_sum c s t + tys_sum c s ts

abbrev pub maybe_sum : Tally → Scope → Option CExpr → ℕ
maybe_sum c s None = 0
maybe_sum c s (Some e) = expr_sum c s e

abbrev mutual
  pub value_sum : Tally → Scope → CValue → ℕ
  value_sum c s (plain.One e) = c.node + expr_sum c s e
  value_sum c s (plain.Many vs) = c.node + values_sum c s vs

  pub values_sum : Tally → Scope → CValues → ℕ
  values_sum c s plain.NoValue = 0
  values_sum c s (plain.MoreValue v vs) = value_sum c s v + values_sum c s vs

abbrev pub first_sum : Tally → Scope → Option CValue → ℕ
first_sum c s None = 0
first_sum c s (Some v) = value_sum c s v

-- nothing of a type that is refused
abbrev pub of_type : (CType → ℕ) → Judged CType → ℕ
of_type count (Ok t) = count t
of_type count (Err e) = 0

-- an object's declaration, its first value in the scope behind it
abbrev pub object_sum : Tally → Scope → CDecl → ℕ
object_sum c s d =
    c.node + ty_sum c s d.ty + first_sum c (scope_or s (declared s false d)) d.first
    + of_type (λ t. c.ty s.tags t + c.object s.tags t d.first) (declared_type s d)

-- a declaration that makes no object, its type being judged: a member or a parameter
abbrev pub decl_sum : Tally → Scope → CDecl → Judged CType → ℕ
decl_sum c s d t = c.node + ty_sum c s d.ty + first_sum c s d.first + of_type (c.ty s.tags) t

-- the scope behind a statement: only a declaration adds to it
abbrev pub scope_behind : Scope → CStmt → Scope
scope_behind s (plain.Local d) = scope_or s (declared s false d)
scope_behind s _ = s

abbrev pub scope_behind_all : Scope → CStmts → Scope
scope_behind_all s plain.NoStmt = s
scope_behind_all s (plain.MoreStmt t ts) = scope_behind_all (scope_behind s t) ts

-- the scope of a `for` behind its head
abbrev pub scope_behind_head : Scope → CStmt → Scope
scope_behind_head s (plain.Block ss) = scope_behind_all (entered s) ss
scope_behind_head s t = scope_behind s t

abbrev pub scope_behind_part : Scope → CPart → Scope
scope_behind_part s (plain.Label at e) = s
scope_behind_part s (plain.Item t) = scope_behind s t

abbrev mutual
  pub stmt_sum : Tally → Scope → CStmt → ℕ
  stmt_sum c s (plain.Block ss) = c.node + stmts_sum c (entered s) ss
  stmt_sum c s (plain.Local d) = c.node + object_sum c s d
  stmt_sum c s (plain.Do_expr e) = c.node + expr_sum c s e
  stmt_sum c s plain.Empty = c.node
  stmt_sum c s (plain.If e t) = c.node + expr_sum c s e + stmt_sum c s t
  stmt_sum c s (plain.IfElse e t u) = c.node + expr_sum c s e + stmt_sum c s t + stmt_sum c s u
  stmt_sum c s (plain.While e t) = c.node + expr_sum c s e + stmt_sum c s t
  stmt_sum c s (plain.Do t e) = c.node + stmt_sum c s t + expr_sum c s e
  stmt_sum c s (plain.For first test step t) =
      let inner = scope_behind_head s first in
      c.node + stmt_sum c s first + maybe_sum c inner test + maybe_sum c inner step + stmt_sum c inner t
  stmt_sum c s (plain.Return at e) = c.node + maybe_sum c s e
  stmt_sum c s (plain.Break at) = c.node
  stmt_sum c s (plain.Continue at) = c.node
  stmt_sum c s (plain.Switch e ps) = c.node + expr_sum c s e + parts_sum c (entered s) ps

  pub stmts_sum : Tally → Scope → CStmts → ℕ
  stmts_sum c s plain.NoStmt = 0
  stmts_sum c s (plain.MoreStmt t ts) = stmt_sum c s t + stmts_sum c (scope_behind s t) ts

  pub part_sum : Tally → Scope → CPart → ℕ
  part_sum c s (plain.Label at e) = c.node + maybe_sum c s e
  part_sum c s (plain.Item t) = c.node + stmt_sum c s t

  pub parts_sum : Tally → Scope → CParts → ℕ
  parts_sum c s plain.NoPart = 0
  parts_sum c s (plain.MorePart p ps) = part_sum c s p + parts_sum c (scope_behind_part s p) ps

-- a body, whose outer block shares its scope with the parameters
abbrev pub body_sum : Tally → Scope → CStmt → ℕ
body_sum c s (plain.Block ss) = c.node + stmts_sum c s ss
body_sum c s t = stmt_sum c s t

abbrev pub parameters_sum : Tally → Scope → List CDecl → ℕ
parameters_sum c s [] = 0
parameters_sum c s (p ∷ ps) = decl_sum c s p (declared_parameter s p) + parameters_sum c (parameter_scope_or s (parameter s p)) ps

abbrev pub members_sum : Tally → Scope → List CDecl → ℕ
members_sum c s [] = 0
members_sum c s (m ∷ ms) = decl_sum c s m (written s m.pos m.ty) + members_sum c s ms

abbrev pub maybe_body_sum : Tally → Scope → List ℕ → Option CStmt → Judged Signature → ℕ
maybe_body_sum c s name (Some t) (Ok f) = body_sum c (body_scope s name f) t
maybe_body_sum c s name _ _ = 0

abbrev pub item_sum : Tally → Scope → CItem → ℕ
item_sum c s (plain.StructItem tag) =
    c.node + c.node + members_sum c (with_tag s tag.name Unfinished) tag.members + c.ty (scope_or s (tag_declared s tag)).tags (Struct tag.name)
item_sum c s (plain.Object d) = c.node + object_sum c s d
item_sum c s (plain.Function name at result params body) =
    c.node + ty_sum c s result + of_type (λ t. c.ty s.tags t) (written s at result) + parameters_sum c (entered s) params
    + maybe_body_sum c s name body (signature s at result params)

abbrev pub items_sum : Tally → Scope → List CItem → ℕ
items_sum c s [] = 0
items_sum c s (item ∷ items) = item_sum c s item + items_sum c (scope_or s (item_judged s item)) items

-- the sum over a whole tree
abbrev pub unit_sum : Tally → CUnit → ℕ
unit_sum c u = items_sum c (start_scope u) u.items
