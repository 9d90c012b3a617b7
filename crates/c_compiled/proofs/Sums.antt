-- String literals of trees that weigh no more than some number.
use Rattle.std.proofs.Common.{◌≡◌, ℕ, ◌+◌, ◌≤◌, Option, Some, None, Bool, true, false, length, refl, arith}
use Rattle.std.specs.Prelude.{if◌then◌else◌}
use Rattle.c_syntax.specs.Plain as plain
use Rattle.c_syntax.specs.Plain.{CExpr, CExprs, CValue, CValues, CDecl, CStmt, CStmts, CPart, CParts}
use Rattle.c_types.specs.Scope.{Scope, entered}
use Rattle.c_types.specs.Expressions.{names_function}
use Rattle.c_types.specs.Declarations.{declared, scope_or}
use Rattle.c_types.specs.Census.{expr_sum, exprs_sum, maybe_sum, value_sum, values_sum, first_sum, object_sum, scope_behind, scope_behind_head, scope_behind_part, stmt_sum, stmts_sum, part_sum, parts_sum, body_sum}
use Rattle.c_fewer_types.specs.Written.{StringsAreShort}
use Rattle.c_limited.proofs.Sums.{weight}
use Rattle.c_fewer_types.specs.Standing.{MaybeHas, ValueHas, ValuesHave, FirstHas, StmtHas, StmtsHave, PartHas, PartsHave, IsDeclaration}

abbrev mutual
  -- string literals have at most so many bytes
  pub StringsFit : ℕ → CExpr → Type 0
  StringsFit w (plain.Number at n unsigned) = Unit {0}
  StringsFit w (plain.Str at text) = length text ≤ w
  StringsFit w (plain.Null at) = Unit {0}
  StringsFit w (plain.Var at name) = Unit {0}
  StringsFit w (plain.Unary at op a) = StringsFit w a
  StringsFit w (plain.Step at op a) = StringsFit w a
  StringsFit w (plain.Binary at op a b) = StringsFit w a × StringsFit w b
  StringsFit w (plain.Assign at op a b) = StringsFit w a × StringsFit w b
  StringsFit w (plain.Cond at a b c) = StringsFit w a × StringsFit w b × StringsFit w c
  StringsFit w (plain.Comma at a b) = StringsFit w a × StringsFit w b
  StringsFit w (plain.Cast at t a) = StringsFit w a
  StringsFit w (plain.SizeTy at t) = Unit {0}
  StringsFit w (plain.SizeOf at a) = Unit {0}
  StringsFit w (plain.Index at a b) = StringsFit w a × StringsFit w b
  StringsFit w (plain.Call at f es) = StringsFit w f × EachStringFits w es
  StringsFit w (plain.Member at a m) = StringsFit w a
  StringsFit w (plain.Arrow at a m) = StringsFit w a

  pub EachStringFits : ℕ → CExprs → Type 0
  EachStringFits w plain.NoExpr = Unit {0}
  EachStringFits w (plain.MoreExpr e es) = StringsFit w e × EachStringFits w es

left : {w x : ℕ} (y : ℕ) → x + y ≤ w → x ≤ w
left y h = omega (arith, h)

right : (x : ℕ) {w y : ℕ} → x + y ≤ w → y ≤ w
right x h = omega (arith, h)

module _ (w : ℕ) where
  -- a function's name has no literal
  name_fits : (s : Scope) (f : CExpr) → names_function s f ≡ true → StringsFit w f
  name_fits s (plain.Var at name) e = tt
  name_fits s f e = absurd (cc e)

  called_fits : (s : Scope) (f : CExpr) (n : ℕ) (b : Bool) → names_function s f ≡ b → (n ≤ w → StringsFit w f) → (if b then 0 else n) ≤ w → StringsFit w f
  called_fits s f n true e more h = name_fits s f e
  called_fits s f n false e more h = more h

  mutual
    expr_fits : (s : Scope) (e : CExpr) → expr_sum weight s e ≤ w → StringsFit w e
    expr_fits s (plain.Number at n unsigned) h = tt
    expr_fits s (plain.Str at text) h = omega (arith, h)
    expr_fits s (plain.Null at) h = tt
    expr_fits s (plain.Var at name) h = tt
    expr_fits s (plain.Unary at op a) h = expr_fits s a (right _ h)
    expr_fits s (plain.Step at op a) h = expr_fits s a (right _ h)
    expr_fits s (plain.Binary at op a b) h = (expr_fits s a (right _ (left _ h)), expr_fits s b (right _ h))
    expr_fits s (plain.Assign at op a b) h = (expr_fits s a (right _ (left _ h)), expr_fits s b (right _ h))
    expr_fits s (plain.Cond at a b c) h = (expr_fits s a (right _ (left _ (left _ h))), expr_fits s b (right _ (left _ h)), expr_fits s c (right _ h))
    expr_fits s (plain.Comma at a b) h = (expr_fits s a (right _ (left _ h)), expr_fits s b (right _ h))
    expr_fits s (plain.Cast at t a) h = expr_fits s a (right _ h)
    expr_fits s (plain.SizeTy at t) h = tt
    expr_fits s (plain.SizeOf at a) h = tt
    expr_fits s (plain.Index at a b) h = (expr_fits s a (right _ (left _ h)), expr_fits s b (right _ h))
    expr_fits s (plain.Call at f es) h = (called_fits s f (expr_sum weight s f) (names_function s f) refl (λ k. expr_fits s f k) (right _ (left _ h)), exprs_fit s es (right _ h))
    expr_fits s (plain.Member at a m) h = expr_fits s a (right _ h)
    expr_fits s (plain.Arrow at a m) h = expr_fits s a (right _ h)

    exprs_fit : (s : Scope) (es : CExprs) → exprs_sum weight s es ≤ w → EachStringFits w es
    exprs_fit s plain.NoExpr h = tt
    exprs_fit s (plain.MoreExpr e es) h = (expr_fits s e (left _ h), exprs_fit s es (right _ h))

  maybe_fits : (s : Scope) (e : Option CExpr) → maybe_sum weight s e ≤ w → MaybeHas (StringsFit w) e
  maybe_fits s None h = tt
  maybe_fits s (Some e) h = expr_fits s e h

  mutual
    value_fits : (s : Scope) (v : CValue) → value_sum weight s v ≤ w → ValueHas (StringsFit w) v
    value_fits s (plain.One e) h = expr_fits s e (right _ h)
    value_fits s (plain.Many vs) h = values_fit s vs (right _ h)

    values_fit : (s : Scope) (vs : CValues) → values_sum weight s vs ≤ w → ValuesHave (StringsFit w) vs
    values_fit s plain.NoValue h = tt
    values_fit s (plain.MoreValue v vs) h = (value_fits s v (left _ h), values_fit s vs (right _ h))

  first_fits : (s : Scope) (v : Option CValue) → first_sum weight s v ≤ w → FirstHas (StringsFit w) v
  first_fits s None h = tt
  first_fits s (Some v) h = value_fits s v h

  decl_fits : (s : Scope) (d : CDecl) → object_sum weight s d ≤ w → FirstHas (StringsFit w) d.first
  decl_fits s d h = first_fits (scope_or s (declared s false d)) d.first (right _ (left _ h))

  abbrev Short : CStmt → Type 0
  Short t = StmtHas StringsAreShort IsDeclaration t

  abbrev Fit : CStmt → Type 0
  Fit t = StmtHas (StringsFit w) IsDeclaration t

  mutual
    pub stmt_fits : (s : Scope) (t : CStmt) → Short t → stmt_sum weight s t ≤ w → Fit t
    stmt_fits s (plain.Block ss) q h = stmts_fit (entered s) ss q (right _ h)
    stmt_fits s (plain.Local d) q h = (q.0, decl_fits s d (right _ h))
    stmt_fits s (plain.Do_expr e) q h = expr_fits s e (right _ h)
    stmt_fits s plain.Empty q h = tt
    stmt_fits s (plain.If e t) q h = (expr_fits s e (right _ (left _ h)), stmt_fits s t q.1 (right _ h))
    stmt_fits s (plain.IfElse e t u) q h = (expr_fits s e (right _ (left _ (left _ h))), stmt_fits s t q.1 (right _ (left _ h)), stmt_fits s u q.2 (right _ h))
    stmt_fits s (plain.While e t) q h = (expr_fits s e (right _ (left _ h)), stmt_fits s t q.1 (right _ h))
    stmt_fits s (plain.Do t e) q h = (expr_fits s e (right _ h), stmt_fits s t q.1 (right _ (left _ h)))
    stmt_fits s (plain.For first test step t) q h =
        (q.0, stmt_fits s first q.1 (right _ (left _ (left _ (left _ h)))), maybe_fits (scope_behind_head s first) test (right _ (left _ (left _ h))), maybe_fits (scope_behind_head s first) step (right _ (left _ h)), stmt_fits (scope_behind_head s first) t q.4 (right _ h))
    stmt_fits s (plain.Return at e) q h = maybe_fits s e (right _ h)
    stmt_fits s (plain.Break at) q h = tt
    stmt_fits s (plain.Continue at) q h = tt
    stmt_fits s (plain.Switch e ps) q h = (expr_fits s e (right _ (left _ h)), parts_fit (entered s) ps q.1 (right _ h))

    stmts_fit : (s : Scope) (ss : CStmts) → StmtsHave StringsAreShort IsDeclaration ss → stmts_sum weight s ss ≤ w → StmtsHave (StringsFit w) IsDeclaration ss
    stmts_fit s plain.NoStmt q h = tt
    stmts_fit s (plain.MoreStmt t ts) q h = (stmt_fits s t q.0 (left _ h), stmts_fit (scope_behind s t) ts q.1 (right _ h))

    part_fits : (s : Scope) (p : CPart) → PartHas StringsAreShort IsDeclaration p → part_sum weight s p ≤ w → PartHas (StringsFit w) IsDeclaration p
    part_fits s (plain.Label at e) q h = tt
    part_fits s (plain.Item t) q h = stmt_fits s t q (right _ h)

    parts_fit : (s : Scope) (ps : CParts) → PartsHave StringsAreShort IsDeclaration ps → parts_sum weight s ps ≤ w → PartsHave (StringsFit w) IsDeclaration ps
    parts_fit s plain.NoPart q h = tt
    parts_fit s (plain.MorePart p ps) q h = (part_fits s p q.0 (left _ h), parts_fit (scope_behind_part s p) ps q.1 (right _ h))

  -- a body shares its scope with the parameters
  pub body_fits : (s : Scope) (t : CStmt) → Short t → body_sum weight s t ≤ w → Fit t
  body_fits s (plain.Block ss) q h = stmts_fit s ss q (right _ h)
  body_fits s t q h = stmt_fits s t q h
