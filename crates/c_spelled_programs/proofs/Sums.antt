-- What is spelled has no byte that is none, short literals and few values within the limits, and assigns as C does.
use Rattle.std.proofs.Common.{◌≡◌, ℕ, ◌+◌, ◌^◌, ◌<◌, ◌≤◌, List, [], ◌∷◌, ◌++◌, Option, Some, None, Bool, true, false, refl, ap, arith, nat_lt}
use Rattle.std.specs.Prelude.{if◌then◌else◌, Ok, Err}
use Rattle.std.proofs.lemmas.Bool.{lt-ltb}
use Rattle.c_syntax.specs.Plain as plain
use Rattle.c_syntax.specs.Plain.{CExpr, CExprs, CTy, CTys, CValue, CValues, CDecl, CStmt, CStmts, CPart, CParts, CItem}
use Rattle.c_types.specs.Types.{CType, Struct, Unfinished}
use Rattle.c_types.specs.Refusals.{Judged}
use Rattle.c_types.specs.Scope.{Scope, entered}
use Rattle.c_types.specs.Expressions.{names_function, written}
use Rattle.c_types.specs.Declarations.{declared, declared_type, scope_or, count_values, with_tag, tag_declared}
use Rattle.c_types.specs.Units.{Signature, signature, body_scope, declared_parameter, parameter, parameter_scope_or, item_judged}
use Rattle.c_types.specs.Census.{expr_sum, exprs_sum, ty_sum, tys_sum, maybe_sum, value_sum, values_sum, first_sum, of_type, object_sum, decl_sum, scope_behind, scope_behind_head, scope_behind_part, stmt_sum, stmts_sum, part_sum, parts_sum, body_sum, parameters_sum, members_sum, maybe_body_sum, item_sum, items_sum}
use Rattle.c_limited.specs.Laws.{strange_bytes}
use Rattle.c_limited.proofs.Sums.{weight, strange}
use Rattle.c_valid.specs.Valid.{AreBytes}
use Rattle.c_fewer_types.specs.Written.{StringsAreShort, EachStringIsShort}
use Rattle.c_fewer_types.specs.Standing.{ValueHas, ValuesHave, FirstHas, MaybeHas, StmtHas, StmtsHave, PartHas, PartsHave, FirstIsShort, IsDeclaration, AnyDeclaration}
use Rattle.c_fewer_reached.specs.Updates.{UpdatesAre, AllUpdatesAre}
use Rattle.c_spelled_programs.specs.Spelled.{ExprIsSpelled, ExprsAreSpelled, TyIsSpelled, TysAreSpelled, MaybeIsSpelled, ValueIsSpelled, ValuesAreSpelled, FirstIsSpelled, DeclIsSpelled, DeclsAreSpelled, StmtIsSpelled, StmtsAreSpelled, PartIsSpelled, PartsAreSpelled, BodyIsSpelled, ItemIsSpelled, ItemsAreSpelled}

-- ---- assignments

mutual
  expr_updates : (e : CExpr) → ExprIsSpelled e → UpdatesAre e
  expr_updates (plain.Number at n unsigned) h = tt
  expr_updates (plain.Str at text) h = tt
  expr_updates (plain.Null at) h = tt
  expr_updates (plain.Var at name) h = tt
  expr_updates (plain.Unary at op a) h = expr_updates a h
  expr_updates (plain.Step at op a) h = expr_updates a h
  expr_updates (plain.Binary at op a b) h = (expr_updates a h.0, expr_updates b h.1)
  expr_updates (plain.Assign at None a b) h = (expr_updates a h.0, expr_updates b h.1)
  expr_updates (plain.Assign at (Some op) a b) h = (h.0, expr_updates a h.1, expr_updates b h.2)
  expr_updates (plain.Cond at a b c) h = (expr_updates a h.0, expr_updates b h.1, expr_updates c h.2)
  expr_updates (plain.Comma at a b) h = (expr_updates a h.0, expr_updates b h.1)
  expr_updates (plain.Cast at t a) h = expr_updates a h.1
  expr_updates (plain.SizeTy at t) h = tt
  expr_updates (plain.SizeOf at a) h = tt
  expr_updates (plain.Index at a b) h = (expr_updates a h.0, expr_updates b h.1)
  expr_updates (plain.Call at f es) h = (expr_updates f h.0, exprs_update es h.1)
  expr_updates (plain.Member at a m) h = expr_updates a h
  expr_updates (plain.Arrow at a m) h = expr_updates a h

  exprs_update : (es : CExprs) → ExprsAreSpelled es → AllUpdatesAre es
  exprs_update plain.NoExpr h = tt
  exprs_update (plain.MoreExpr e es) h = (expr_updates e h.0, exprs_update es h.1)

maybe_updates : (o : Option CExpr) → MaybeIsSpelled o → MaybeHas UpdatesAre o
maybe_updates None h = tt
maybe_updates (Some e) h = expr_updates e h

mutual
  value_updates : (v : CValue) → ValueIsSpelled v → ValueHas UpdatesAre v
  value_updates (plain.One e) h = expr_updates e h
  value_updates (plain.Many vs) h = values_update vs h

  values_update : (vs : CValues) → ValuesAreSpelled vs → ValuesHave UpdatesAre vs
  values_update plain.NoValue h = tt
  values_update (plain.MoreValue v vs) h = (value_updates v h.0, values_update vs h.1)

first_updates : (o : Option CValue) → FirstIsSpelled o → FirstHas UpdatesAre o
first_updates None h = tt
first_updates (Some v) h = value_updates v h

mutual
  pub stmt_updates : (t : CStmt) → StmtIsSpelled t → StmtHas UpdatesAre AnyDeclaration t
  stmt_updates (plain.Block ss) h = stmts_update ss h
  stmt_updates (plain.Local d) h = (tt, first_updates d.first h.2)
  stmt_updates (plain.Do_expr e) h = expr_updates e h
  stmt_updates plain.Empty h = tt
  stmt_updates (plain.If e t) h = (expr_updates e h.0, stmt_updates t h.1)
  stmt_updates (plain.IfElse e t u) h = (expr_updates e h.0, stmt_updates t h.1, stmt_updates u h.2)
  stmt_updates (plain.While e t) h = (expr_updates e h.0, stmt_updates t h.1)
  stmt_updates (plain.Do t e) h = (expr_updates e h.0, stmt_updates t h.1)
  stmt_updates (plain.For first test step t) h = (h.0, stmt_updates first h.1, maybe_updates test h.2, maybe_updates step h.3, stmt_updates t h.4)
  stmt_updates (plain.Return at e) h = maybe_updates e h
  stmt_updates (plain.Break at) h = tt
  stmt_updates (plain.Continue at) h = tt
  stmt_updates (plain.Switch e ps) h = (expr_updates e h.0, parts_update ps h.1)

  stmts_update : (ss : CStmts) → StmtsAreSpelled ss → StmtsHave UpdatesAre AnyDeclaration ss
  stmts_update plain.NoStmt h = tt
  stmts_update (plain.MoreStmt t ts) h = (stmt_updates t h.0, stmts_update ts h.1)

  part_updates : (p : CPart) → PartIsSpelled p → PartHas UpdatesAre AnyDeclaration p
  part_updates (plain.Label at e) h = tt
  part_updates (plain.Item t) h = stmt_updates t h

  parts_update : (ps : CParts) → PartsAreSpelled ps → PartsHave UpdatesAre AnyDeclaration ps
  parts_update plain.NoPart h = tt
  parts_update (plain.MorePart p ps) h = (part_updates p h.0, parts_update ps h.1)

-- ---- short literals and few values

-- little weight
pub record Light (w : ℕ) : Type 0 where
  pub le : w ≤ 65536

pub front : {w : ℕ} (x : ℕ) → Light (w + x) → Light w
front x h = record { le = omega (arith, h.le) }

pub last : (w : ℕ) {x : ℕ} → Light (w + x) → Light x
last w h = record { le = omega (arith, h.le) }

name_short : (s : Scope) (f : CExpr) → names_function s f ≡ true → StringsAreShort f
name_short s (plain.Var at name) e = tt
name_short s f e = absurd (cc e)

called_short : (b : Bool) (w : ℕ) (f : CExpr) → (b ≡ true → StringsAreShort f) → (Light w → StringsAreShort f) → Light (if b then 0 else w) → StringsAreShort f
called_short true w f named small h = named refl
called_short false w f named small h = small h

mutual
  expr_short : (s : Scope) (e : CExpr) → Light (expr_sum weight s e) → StringsAreShort e
  expr_short s (plain.Number at n unsigned) h = tt
  expr_short s (plain.Str at text) h = omega (arith, h.le)
  expr_short s (plain.Null at) h = tt
  expr_short s (plain.Var at name) h = tt
  expr_short s (plain.Unary at op a) h = expr_short s a (last _ h)
  expr_short s (plain.Step at op a) h = expr_short s a (last _ h)
  expr_short s (plain.Binary at op a b) h = (expr_short s a (last _ (front _ h)), expr_short s b (last _ h))
  expr_short s (plain.Assign at op a b) h = (expr_short s a (last _ (front _ h)), expr_short s b (last _ h))
  expr_short s (plain.Cond at a b c) h = (expr_short s a (last _ (front _ (front _ h))), expr_short s b (last _ (front _ h)), expr_short s c (last _ h))
  expr_short s (plain.Comma at a b) h = (expr_short s a (last _ (front _ h)), expr_short s b (last _ h))
  expr_short s (plain.Cast at t a) h = expr_short s a (last _ h)
  expr_short s (plain.SizeTy at t) h = tt
  expr_short s (plain.SizeOf at a) h = tt
  expr_short s (plain.Index at a b) h = (expr_short s a (last _ (front _ h)), expr_short s b (last _ h))
  expr_short s (plain.Call at f es) h = (called_short (names_function s f) (expr_sum weight s f) f (name_short s f) (expr_short s f) (last _ (front _ h)), exprs_short s es (last _ h))
  expr_short s (plain.Member at a m) h = expr_short s a (last _ h)
  expr_short s (plain.Arrow at a m) h = expr_short s a (last _ h)

  exprs_short : (s : Scope) (es : CExprs) → Light (exprs_sum weight s es) → EachStringIsShort es
  exprs_short s plain.NoExpr h = tt
  exprs_short s (plain.MoreExpr e es) h = (expr_short s e (front _ h), exprs_short s es (last _ h))

maybe_short : (s : Scope) (o : Option CExpr) → Light (maybe_sum weight s o) → MaybeHas StringsAreShort o
maybe_short s None h = tt
maybe_short s (Some e) h = expr_short s e h

mutual
  value_short : (s : Scope) (v : CValue) → Light (value_sum weight s v) → ValueHas StringsAreShort v
  value_short s (plain.One e) h = expr_short s e (last _ h)
  value_short s (plain.Many vs) h = values_short s vs (last _ h)

  values_short : (s : Scope) (vs : CValues) → Light (values_sum weight s vs) → ValuesHave StringsAreShort vs
  values_short s plain.NoValue h = tt
  values_short s (plain.MoreValue v vs) h = (value_short s v (front _ h), values_short s vs (last _ h))

value_counts : (s : Scope) (v : CValue) → 1 ≤ value_sum weight s v
value_counts s (plain.One e) = omega arith
value_counts s (plain.Many vs) = omega arith

few_values : (s : Scope) (vs : CValues) → count_values vs ≤ values_sum weight s vs
few_values s plain.NoValue = omega arith
few_values s (plain.MoreValue v vs) = let one = value_counts s v in let more = few_values s vs in omega (arith, one, more)

first_short : (s : Scope) (o : Option CValue) → Light (first_sum weight s o) → FirstHas StringsAreShort o × FirstIsShort o
first_short s None h = (tt, tt)
first_short s (Some (plain.One e)) h = (value_short s (plain.One e) h, tt)
first_short s (Some (plain.Many vs)) h = let few = few_values s vs in (value_short s (plain.Many vs) h, omega (arith, few, h.le))

mutual
  stmt_short : (t : CStmt) (s : Scope) → StmtIsSpelled t → Light (stmt_sum weight s t) → StmtHas StringsAreShort IsDeclaration t
  stmt_short (plain.Block ss) s g h = stmts_short ss (entered s) g (last _ h)
  stmt_short (plain.Local d) s g h = let k = first_short (scope_or s (declared s false d)) d.first (last _ (front _ (last _ h))) in ((g.0, k.1), k.0)
  stmt_short (plain.Do_expr e) s g h = expr_short s e (last _ h)
  stmt_short plain.Empty s g h = tt
  stmt_short (plain.If e t) s g h = (expr_short s e (last _ (front _ h)), stmt_short t s g.1 (last _ h))
  stmt_short (plain.IfElse e t u) s g h = (expr_short s e (last _ (front _ (front _ h))), stmt_short t s g.1 (last _ (front _ h)), stmt_short u s g.2 (last _ h))
  stmt_short (plain.While e t) s g h = (expr_short s e (last _ (front _ h)), stmt_short t s g.1 (last _ h))
  stmt_short (plain.Do t e) s g h = (expr_short s e (last _ h), stmt_short t s g.1 (last _ (front _ h)))
  stmt_short (plain.For first test step t) s g h = (
    g.0,
    stmt_short first s g.1 (last _ (front _ (front _ (front _ h)))),
    maybe_short (scope_behind_head s first) test (last _ (front _ (front _ h))),
    maybe_short (scope_behind_head s first) step (last _ (front _ h)),
    stmt_short t (scope_behind_head s first) g.4 (last _ h),
  )
  stmt_short (plain.Return at e) s g h = maybe_short s e (last _ h)
  stmt_short (plain.Break at) s g h = tt
  stmt_short (plain.Continue at) s g h = tt
  stmt_short (plain.Switch e ps) s g h = (expr_short s e (last _ (front _ h)), parts_short ps (entered s) g.1 (last _ h))

  stmts_short : (ss : CStmts) (s : Scope) → StmtsAreSpelled ss → Light (stmts_sum weight s ss) → StmtsHave StringsAreShort IsDeclaration ss
  stmts_short plain.NoStmt s g h = tt
  stmts_short (plain.MoreStmt t ts) s g h = (stmt_short t s g.0 (front _ h), stmts_short ts (scope_behind s t) g.1 (last _ h))

  part_short : (p : CPart) (s : Scope) → PartIsSpelled p → Light (part_sum weight s p) → PartHas StringsAreShort IsDeclaration p
  part_short (plain.Label at e) s g h = tt
  part_short (plain.Item t) s g h = stmt_short t s g (last _ h)

  parts_short : (ps : CParts) (s : Scope) → PartsAreSpelled ps → Light (parts_sum weight s ps) → PartsHave StringsAreShort IsDeclaration ps
  parts_short plain.NoPart s g h = tt
  parts_short (plain.MorePart p ps) s g h = (part_short p s g.0 (front _ h), parts_short ps (scope_behind_part s p) g.1 (last _ h))

pub body_short : (body : CStmt) (s : Scope) → StmtIsSpelled body → Light (body_sum weight s body) → StmtHas StringsAreShort IsDeclaration body
body_short (plain.Block ss) s g h = stmts_short ss s g (last _ h)
body_short t s g h = stmt_short t s g h

-- ---- bytes

no_strange : (cs : List ℕ) → AreBytes cs → strange_bytes cs ≤ 0
no_strange [] h = omega arith
no_strange (c ∷ cs) h = go (nat_lt c (2 ^ 8)) (lt-ltb c (2 ^ 8) h.0) (no_strange cs h.1)
  where
    go : (b : Bool) → b ≡ true → strange_bytes cs ≤ 0 → (if b then 0 else 1) + strange_bytes cs ≤ 0
    go true e le = omega (arith, le)
    go false e le = absurd (cc e)

called_none : (b : Bool) (n : ℕ) → n ≤ 0 → (if b then 0 else n) ≤ 0
called_none true n h = omega arith
called_none false n h = h

none_of_type : (r : Judged CType) (f : CType → ℕ) → ((t : CType) → f t ≤ 0) → of_type f r ≤ 0
none_of_type (Ok t) f h = h t
none_of_type (Err e) f h = omega arith

-- sums of nothing
two : {m n : ℕ} → m ≤ 0 → n ≤ 0 → m + n ≤ 0
two g h = omega (arith, g, h)

abbrev Zero : ℕ → Type 0
Zero n = n ≤ 0

zero_is : 0 ≤ 0
zero_is = omega arith

mutual
  expr_none : (e : CExpr) (s : Scope) → ExprIsSpelled e → Zero (expr_sum strange s e)
  expr_none (plain.Number at n unsigned) s h = zero_is
  expr_none (plain.Str at text) s h = no_strange text h
  expr_none (plain.Null at) s h = zero_is
  expr_none (plain.Var at name) s h = zero_is
  expr_none (plain.Unary at op a) s h = two zero_is (expr_none a s h)
  expr_none (plain.Step at op a) s h = two zero_is (expr_none a s h)
  expr_none (plain.Binary at op a b) s h = two (two zero_is (expr_none a s h.0)) (expr_none b s h.1)
  expr_none (plain.Assign at None a b) s h = two (two zero_is (expr_none a s h.0)) (expr_none b s h.1)
  expr_none (plain.Assign at (Some op) a b) s h = two (two zero_is (expr_none a s h.1)) (expr_none b s h.2)
  expr_none (plain.Cond at a b c) s h = two (two (two zero_is (expr_none a s h.0)) (expr_none b s h.1)) (expr_none c s h.2)
  expr_none (plain.Comma at a b) s h = two (two zero_is (expr_none a s h.0)) (expr_none b s h.1)
  expr_none (plain.Cast at t a) s h = two (two zero_is (ty_none t s h.0)) (expr_none a s h.1)
  expr_none (plain.SizeTy at t) s h = two zero_is (ty_none t s h)
  expr_none (plain.SizeOf at a) s h = two zero_is (expr_none a s h)
  expr_none (plain.Index at a b) s h = two (two zero_is (expr_none a s h.0)) (expr_none b s h.1)
  expr_none (plain.Call at f es) s h = two (two zero_is (called_none (names_function s f) (expr_sum strange s f) (expr_none f s h.0))) (exprs_none es s h.1)
  expr_none (plain.Member at a m) s h = two zero_is (expr_none a s h)
  expr_none (plain.Arrow at a m) s h = two zero_is (expr_none a s h)

  exprs_none : (es : CExprs) (s : Scope) → ExprsAreSpelled es → Zero (exprs_sum strange s es)
  exprs_none plain.NoExpr s h = zero_is
  exprs_none (plain.MoreExpr e es) s h = two (expr_none e s h.0) (exprs_none es s h.1)

  ty_none : (t : CTy) (s : Scope) → TyIsSpelled t → Zero (ty_sum strange s t)
  ty_none (plain.Pointer t) s h = two zero_is (ty_none t s h)
  ty_none (plain.Array t) s h = two zero_is (ty_none t s h)
  ty_none (plain.ArrayOf t n) s h = two (two zero_is (ty_none t s h.0)) (expr_none n s h.1)
  ty_none (plain.Func t ts) s h = two (two zero_is (ty_none t s h.0)) (tys_none ts s h.1)
  ty_none plain.Void s h = zero_is
  ty_none plain.Int s h = zero_is
  ty_none plain.Unsigned s h = zero_is
  ty_none plain.Char s h = zero_is
  ty_none plain.UChar s h = zero_is
  ty_none (plain.Struct tag) s h = zero_is

  tys_none : (ts : CTys) (s : Scope) → TysAreSpelled ts → Zero (tys_sum strange s ts)
  tys_none plain.NoTy s h = zero_is
  tys_none (plain.MoreTy t ts) s h = two (ty_none t s h.0) (tys_none ts s h.1)

maybe_none : (o : Option CExpr) (s : Scope) → MaybeIsSpelled o → Zero (maybe_sum strange s o)
maybe_none None s h = zero_is
maybe_none (Some e) s h = expr_none e s h

mutual
  value_none : (v : CValue) (s : Scope) → ValueIsSpelled v → Zero (value_sum strange s v)
  value_none (plain.One e) s h = two zero_is (expr_none e s h)
  value_none (plain.Many vs) s h = two zero_is (values_none vs s h)

  values_none : (vs : CValues) (s : Scope) → ValuesAreSpelled vs → Zero (values_sum strange s vs)
  values_none plain.NoValue s h = zero_is
  values_none (plain.MoreValue v vs) s h = two (value_none v s h.0) (values_none vs s h.1)

first_none : (o : Option CValue) (s : Scope) → FirstIsSpelled o → Zero (first_sum strange s o)
first_none None s h = zero_is
first_none (Some v) s h = value_none v s h

object_none : (d : CDecl) (s : Scope) → DeclIsSpelled d → Zero (object_sum strange s d)
object_none d s h = two (two (two zero_is (ty_none d.ty s h.1)) (first_none d.first (scope_or s (declared s false d)) h.2)) (none_of_type (declared_type s d) (λ t. 0 + 0) (λ t. zero_is))

decl_none : (d : CDecl) (s : Scope) (r : Judged CType) → DeclIsSpelled d → Zero (decl_sum strange s d r)
decl_none d s r h = two (two (two zero_is (ty_none d.ty s h.1)) (first_none d.first s h.2)) (none_of_type r (λ t. 0) (λ t. zero_is))

mutual
  stmt_none : (t : CStmt) (s : Scope) → StmtIsSpelled t → Zero (stmt_sum strange s t)
  stmt_none (plain.Block ss) s h = two zero_is (stmts_none ss (entered s) h)
  stmt_none (plain.Local d) s h = two zero_is (object_none d s h)
  stmt_none (plain.Do_expr e) s h = two zero_is (expr_none e s h)
  stmt_none plain.Empty s h = zero_is
  stmt_none (plain.If e t) s h = two (two zero_is (expr_none e s h.0)) (stmt_none t s h.1)
  stmt_none (plain.IfElse e t u) s h = two (two (two zero_is (expr_none e s h.0)) (stmt_none t s h.1)) (stmt_none u s h.2)
  stmt_none (plain.While e t) s h = two (two zero_is (expr_none e s h.0)) (stmt_none t s h.1)
  stmt_none (plain.Do t e) s h = two (two zero_is (stmt_none t s h.1)) (expr_none e s h.0)
  stmt_none (plain.For first test step t) s h =
      two (two (two (two zero_is (stmt_none first s h.1)) (maybe_none test (scope_behind_head s first) h.2)) (maybe_none step (scope_behind_head s first) h.3)) (stmt_none t (scope_behind_head s first) h.4)
  stmt_none (plain.Return at e) s h = two zero_is (maybe_none e s h)
  stmt_none (plain.Break at) s h = zero_is
  stmt_none (plain.Continue at) s h = zero_is
  stmt_none (plain.Switch e ps) s h = two (two zero_is (expr_none e s h.0)) (parts_none ps (entered s) h.1)

  stmts_none : (ss : CStmts) (s : Scope) → StmtsAreSpelled ss → Zero (stmts_sum strange s ss)
  stmts_none plain.NoStmt s h = zero_is
  stmts_none (plain.MoreStmt t ts) s h = two (stmt_none t s h.0) (stmts_none ts (scope_behind s t) h.1)

  part_none : (p : CPart) (s : Scope) → PartIsSpelled p → Zero (part_sum strange s p)
  part_none (plain.Label at e) s h = two zero_is (maybe_none e s h)
  part_none (plain.Item t) s h = two zero_is (stmt_none t s h)

  parts_none : (ps : CParts) (s : Scope) → PartsAreSpelled ps → Zero (parts_sum strange s ps)
  parts_none plain.NoPart s h = zero_is
  parts_none (plain.MorePart p ps) s h = two (part_none p s h.0) (parts_none ps (scope_behind_part s p) h.1)

body_none : (body : CStmt) (s : Scope) → StmtIsSpelled body → Zero (body_sum strange s body)
body_none (plain.Block ss) s h = two zero_is (stmts_none ss s h)
body_none t s h = stmt_none t s h

parameters_none : (ds : List CDecl) (s : Scope) → DeclsAreSpelled ds → Zero (parameters_sum strange s ds)
parameters_none [] s h = zero_is
parameters_none (d ∷ ds) s h = two (decl_none d s (declared_parameter s d) h.0) (parameters_none ds (parameter_scope_or s (parameter s d)) h.1)

members_none : (ds : List CDecl) (s : Scope) → DeclsAreSpelled ds → Zero (members_sum strange s ds)
members_none [] s h = zero_is
members_none (d ∷ ds) s h = two (decl_none d s (written s d.pos d.ty) h.0) (members_none ds s h.1)

maybe_body_none : (o : Option CStmt) (s : Scope) (name : List ℕ) (r : Judged Signature) → BodyIsSpelled o → Zero (maybe_body_sum strange s name o r)
maybe_body_none None s name (Ok f) h = zero_is
maybe_body_none None s name (Err e) h = zero_is
maybe_body_none (Some t) s name (Ok f) h = body_none t (body_scope s name f) h
maybe_body_none (Some t) s name (Err e) h = zero_is

item_none : (item : CItem) (s : Scope) → ItemIsSpelled item → Zero (item_sum strange s item)
item_none (plain.StructItem tag) s h = two (two (two zero_is zero_is) (members_none tag.members (with_tag s tag.name Unfinished) h)) zero_is
item_none (plain.Object d) s h = two zero_is (object_none d s h)
item_none (plain.Function name at result params body) s h =
    two (two (two (two zero_is (ty_none result s h.1)) (none_of_type (written s at result) (λ t. 0) (λ t. zero_is))) (parameters_none params (entered s) h.2)) (maybe_body_none body s name (signature s at result params) h.3)

pub items_none : (items : List CItem) (s : Scope) → ItemsAreSpelled items → Zero (items_sum strange s items)
items_none [] s h = zero_is
items_none (item ∷ items) s h = two (item_none item s h.0) (items_none items (scope_or s (item_judged s item)) h.1)
