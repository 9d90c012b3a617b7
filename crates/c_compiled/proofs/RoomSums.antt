-- Sums over trees of which one counts at least what two others do.
use Rattle.std.proofs.Common.{ℕ, ◌+◌, ◌≤◌, Bool, true, false, List, [], ◌∷◌, Option, Some, None, arith}
use Rattle.std.specs.Prelude.{Ok, Err, if◌then◌else◌}
use Rattle.c_syntax.specs.Plain as plain
use Rattle.c_syntax.specs.Plain.{CExpr, CExprs, CTy, CTys, CValue, CValues, CDecl, CStmt, CStmts, CPart, CParts, CItem}
use Rattle.c_types.specs.Types.{CType, Struct, Tags, Unfinished}
use Rattle.c_types.specs.Refusals.{Judged}
use Rattle.c_types.specs.Scope.{Scope, entered}
use Rattle.c_types.specs.Expressions.{names_function, written}
use Rattle.c_types.specs.Declarations.{declared, declared_type, scope_or, tag_declared, with_tag}
use Rattle.c_types.specs.Units.{declared_parameter, Signature, signature, body_scope, parameter, parameter_scope_or, item_judged}
use Rattle.c_types.specs.Census.{Tally, expr_sum, exprs_sum, ty_sum, tys_sum, maybe_sum, value_sum, values_sum, first_sum, of_type, object_sum, decl_sum, scope_behind, scope_behind_head, scope_behind_part, stmt_sum, stmts_sum, part_sum, parts_sum, body_sum, parameters_sum, members_sum, maybe_body_sum, item_sum, items_sum}

-- what each node counts
pub record Adds (c d w : Tally) : Type 0 where
  pub expr : (s : Scope) (e : CExpr) → c.expr s e + d.expr s e ≤ w.expr s e
  pub node : c.node + d.node ≤ w.node
  pub ty : (tags : Tags) (t : CType) → c.ty tags t + d.ty tags t ≤ w.ty tags t
  pub object : (tags : Tags) (t : CType) (v : Option CValue) → c.object tags t v + d.object tags t v ≤ w.object tags t v

abbrev but_called : Bool → ℕ → ℕ
but_called b n = if b then 0 else n

called_adds : (b : Bool) (m n k : ℕ) → m + n ≤ k → but_called b m + but_called b n ≤ but_called b k
called_adds true m n k h = omega arith
called_adds false m n k h = h

typed_adds : (f g h : CType → ℕ) (r : Judged CType) → ((t : CType) → f t + g t ≤ h t) → of_type f r + of_type g r ≤ of_type h r
typed_adds f g h (Ok t) k = k t
typed_adds f g h (Err e) k = omega arith

module _ (c d w : Tally) (adds : Adds c d w) where
  -- ---- expressions and types

  mutual
    expr_adds : (s : Scope) (e : CExpr) → expr_sum c s e + expr_sum d s e ≤ expr_sum w s e
    expr_adds s (plain.Number at n unsigned) = adds.expr s (plain.Number at n unsigned)
    expr_adds s (plain.Str at text) = adds.expr s (plain.Str at text)
    expr_adds s (plain.Null at) = adds.expr s (plain.Null at)
    expr_adds s (plain.Var at name) = adds.expr s (plain.Var at name)
    expr_adds s (plain.Unary at op a) = let o = adds.expr s (plain.Unary at op a) in let f = expr_adds s a in omega (arith, o, f)
    expr_adds s (plain.Step at op a) = let o = adds.expr s (plain.Step at op a) in let f = expr_adds s a in omega (arith, o, f)
    expr_adds s (plain.Binary at op a b) = let o = adds.expr s (plain.Binary at op a b) in let f = expr_adds s a in let g = expr_adds s b in omega (arith, o, f, g)
    expr_adds s (plain.Assign at op a b) = let o = adds.expr s (plain.Assign at op a b) in let f = expr_adds s a in let g = expr_adds s b in omega (arith, o, f, g)
    expr_adds s (plain.Cond at a b x) = let o = adds.expr s (plain.Cond at a b x) in let f = expr_adds s a in let g = expr_adds s b in let h = expr_adds s x in omega (arith, o, f, g, h)
    expr_adds s (plain.Comma at a b) = let o = adds.expr s (plain.Comma at a b) in let f = expr_adds s a in let g = expr_adds s b in omega (arith, o, f, g)
    expr_adds s (plain.Cast at t a) = let o = adds.expr s (plain.Cast at t a) in let f = ty_adds s t in let g = expr_adds s a in omega (arith, o, f, g)
    expr_adds s (plain.SizeTy at t) = let o = adds.expr s (plain.SizeTy at t) in let f = ty_adds s t in omega (arith, o, f)
    expr_adds s (plain.SizeOf at a) = let o = adds.expr s (plain.SizeOf at a) in let f = expr_adds s a in omega (arith, o, f)
    expr_adds s (plain.Index at a b) = let o = adds.expr s (plain.Index at a b) in let f = expr_adds s a in let g = expr_adds s b in omega (arith, o, f, g)
    expr_adds s (plain.Call at f es) =
        let o = adds.expr s (plain.Call at f es) in let g = called_adds (names_function s f) (expr_sum c s f) (expr_sum d s f) (expr_sum w s f) (expr_adds s f) in let h = exprs_add s es in omega (arith, o, g, h)
    expr_adds s (plain.Member at a m) = let o = adds.expr s (plain.Member at a m) in let f = expr_adds s a in omega (arith, o, f)
    expr_adds s (plain.Arrow at a m) = let o = adds.expr s (plain.Arrow at a m) in let f = expr_adds s a in omega (arith, o, f)

    exprs_add : (s : Scope) (es : CExprs) → exprs_sum c s es + exprs_sum d s es ≤ exprs_sum w s es
    exprs_add s plain.NoExpr = omega arith
    exprs_add s (plain.MoreExpr e es) = let f = expr_adds s e in let g = exprs_add s es in omega (arith, f, g)

    ty_adds : (s : Scope) (t : CTy) → ty_sum c s t + ty_sum d s t ≤ ty_sum w s t
    ty_adds s plain.Void = adds.node
    ty_adds s plain.Int = adds.node
    ty_adds s plain.Unsigned = adds.node
    ty_adds s plain.Char = adds.node
    ty_adds s plain.UChar = adds.node
    ty_adds s (plain.Struct tag) = adds.node
    ty_adds s (plain.Pointer t) = let o = adds.node in let f = ty_adds s t in omega (arith, o, f)
    ty_adds s (plain.Array t) = let o = adds.node in let f = ty_adds s t in omega (arith, o, f)
    ty_adds s (plain.ArrayOf t n) = let o = adds.node in let f = ty_adds s t in let g = expr_adds s n in omega (arith, o, f, g)
    ty_adds s (plain.Func t ts) = let o = adds.node in let f = ty_adds s t in let g = tys_add s ts in omega (arith, o, f, g)

    tys_add : (s : Scope) (ts : CTys) → tys_sum c s ts + tys_sum d s ts ≤ tys_sum w s ts
    tys_add s plain.NoTy = omega arith
    tys_add s (plain.MoreTy t ts) = let f = ty_adds s t in let g = tys_add s ts in omega (arith, f, g)

  maybe_adds : (s : Scope) (o : Option CExpr) → maybe_sum c s o + maybe_sum d s o ≤ maybe_sum w s o
  maybe_adds s None = omega arith
  maybe_adds s (Some e) = expr_adds s e

  -- ---- declarations

  mutual
    value_adds : (s : Scope) (v : CValue) → value_sum c s v + value_sum d s v ≤ value_sum w s v
    value_adds s (plain.One e) = let o = adds.node in let f = expr_adds s e in omega (arith, o, f)
    value_adds s (plain.Many vs) = let o = adds.node in let f = values_add s vs in omega (arith, o, f)

    values_add : (s : Scope) (vs : CValues) → values_sum c s vs + values_sum d s vs ≤ values_sum w s vs
    values_add s plain.NoValue = omega arith
    values_add s (plain.MoreValue v vs) = let f = value_adds s v in let g = values_add s vs in omega (arith, f, g)

  first_adds : (s : Scope) (o : Option CValue) → first_sum c s o + first_sum d s o ≤ first_sum w s o
  first_adds s None = omega arith
  first_adds s (Some v) = value_adds s v

  object_adds : (s : Scope) (x : CDecl) → object_sum c s x + object_sum d s x ≤ object_sum w s x
  object_adds s x =
      let o = adds.node in let f = ty_adds s x.ty in let g = first_adds (scope_or s (declared s false x)) x.first in
      let h = typed_adds (λ t. c.ty s.tags t + c.object s.tags t x.first) (λ t. d.ty s.tags t + d.object s.tags t x.first) (λ t. w.ty s.tags t + w.object s.tags t x.first) (declared_type s x)
      (λ t. let i = adds.ty s.tags t in let j = adds.object s.tags t x.first in omega (arith, i, j)) in
      omega (arith, o, f, g, h)

  decl_adds : (s : Scope) (x : CDecl) (r : Judged CType) → decl_sum c s x r + decl_sum d s x r ≤ decl_sum w s x r
  decl_adds s x r =
      let o = adds.node in let f = ty_adds s x.ty in let g = first_adds s x.first in
      let h = typed_adds (c.ty s.tags) (d.ty s.tags) (w.ty s.tags) r (adds.ty s.tags) in
      omega (arith, o, f, g, h)

  -- ---- statements

  mutual
    stmt_adds : (s : Scope) (t : CStmt) → stmt_sum c s t + stmt_sum d s t ≤ stmt_sum w s t
    stmt_adds s (plain.Block ss) = let o = adds.node in let f = stmts_add (entered s) ss in omega (arith, o, f)
    stmt_adds s (plain.Local x) = let o = adds.node in let f = object_adds s x in omega (arith, o, f)
    stmt_adds s (plain.Do_expr e) = let o = adds.node in let f = expr_adds s e in omega (arith, o, f)
    stmt_adds s plain.Empty = adds.node
    stmt_adds s (plain.If e t) = let o = adds.node in let f = expr_adds s e in let g = stmt_adds s t in omega (arith, o, f, g)
    stmt_adds s (plain.IfElse e t u) = let o = adds.node in let f = expr_adds s e in let g = stmt_adds s t in let h = stmt_adds s u in omega (arith, o, f, g, h)
    stmt_adds s (plain.While e t) = let o = adds.node in let f = expr_adds s e in let g = stmt_adds s t in omega (arith, o, f, g)
    stmt_adds s (plain.Do t e) = let o = adds.node in let f = stmt_adds s t in let g = expr_adds s e in omega (arith, o, f, g)
    stmt_adds s (plain.For first test step t) =
        let inner : Scope = scope_behind_head s first in
        let o = adds.node in let f = stmt_adds s first in let g = maybe_adds inner test in let h = maybe_adds inner step in let i = stmt_adds inner t in omega (arith, o, f, g, h, i)
    stmt_adds s (plain.Return at e) = let o = adds.node in let f = maybe_adds s e in omega (arith, o, f)
    stmt_adds s (plain.Break at) = adds.node
    stmt_adds s (plain.Continue at) = adds.node
    stmt_adds s (plain.Switch e ps) = let o = adds.node in let f = expr_adds s e in let g = parts_add (entered s) ps in omega (arith, o, f, g)

    stmts_add : (s : Scope) (ss : CStmts) → stmts_sum c s ss + stmts_sum d s ss ≤ stmts_sum w s ss
    stmts_add s plain.NoStmt = omega arith
    stmts_add s (plain.MoreStmt t ts) = let f = stmt_adds s t in let g = stmts_add (scope_behind s t) ts in omega (arith, f, g)

    part_adds : (s : Scope) (p : CPart) → part_sum c s p + part_sum d s p ≤ part_sum w s p
    part_adds s (plain.Label at e) = let o = adds.node in let f = maybe_adds s e in omega (arith, o, f)
    part_adds s (plain.Item t) = let o = adds.node in let f = stmt_adds s t in omega (arith, o, f)

    parts_add : (s : Scope) (ps : CParts) → parts_sum c s ps + parts_sum d s ps ≤ parts_sum w s ps
    parts_add s plain.NoPart = omega arith
    parts_add s (plain.MorePart p ps) = let f = part_adds s p in let g = parts_add (scope_behind_part s p) ps in omega (arith, f, g)

  body_adds : (s : Scope) (t : CStmt) → body_sum c s t + body_sum d s t ≤ body_sum w s t
  body_adds s (plain.Block ss) = let o = adds.node in let f = stmts_add s ss in omega (arith, o, f)
  body_adds s t = stmt_adds s t

  -- ---- externals

  parameters_add : (s : Scope) (ps : List CDecl) → parameters_sum c s ps + parameters_sum d s ps ≤ parameters_sum w s ps
  parameters_add s [] = omega arith
  parameters_add s (p ∷ ps) = let f = decl_adds s p (declared_parameter s p) in let g = parameters_add (parameter_scope_or s (parameter s p)) ps in omega (arith, f, g)

  members_add : (s : Scope) (ms : List CDecl) → members_sum c s ms + members_sum d s ms ≤ members_sum w s ms
  members_add s [] = omega arith
  members_add s (m ∷ ms) = let f = decl_adds s m (written s m.pos m.ty) in let g = members_add s ms in omega (arith, f, g)

  maybe_body_adds : (s : Scope) (name : List ℕ) (o : Option CStmt) (r : Judged Signature) → maybe_body_sum c s name o r + maybe_body_sum d s name o r ≤ maybe_body_sum w s name o r
  maybe_body_adds s name (Some t) (Ok f) = body_adds (body_scope s name f) t
  maybe_body_adds s name (Some t) (Err e) = omega arith
  maybe_body_adds s name None r = omega arith

  item_adds : (s : Scope) (item : CItem) → item_sum c s item + item_sum d s item ≤ item_sum w s item
  item_adds s (plain.StructItem tag) =
      let o = adds.node in let f = members_add (with_tag s tag.name Unfinished) tag.members in let g = adds.ty (scope_or s (tag_declared s tag)).tags (Struct tag.name) in omega (arith, o, f, g)
  item_adds s (plain.Object x) = let o = adds.node in let f = object_adds s x in omega (arith, o, f)
  item_adds s (plain.Function name at result params body) =
      let o = adds.node in let f = ty_adds s result in let g = typed_adds (λ t. c.ty s.tags t) (λ t. d.ty s.tags t) (λ t. w.ty s.tags t) (written s at result) (adds.ty s.tags) in
      let h = parameters_add (entered s) params in let i = maybe_body_adds s name body (signature s at result params) in
      omega (arith, o, f, g, h, i)

  pub items_add : (s : Scope) (items : List CItem) → items_sum c s items + items_sum d s items ≤ items_sum w s items
  items_add s [] = omega arith
  items_add s (item ∷ items) = let f = item_adds s item in let g = items_add (scope_or s (item_judged s item)) items in omega (arith, f, g)
