-- The literals of trees that are within the limits are words.
use Rattle.std.proofs.Common.{ℕ, Bool, true, false, List, [], ◌∷◌, ◌++◌, map, Option, Some, None, arith}
use Rattle.std.specs.Prelude.{if◌then◌else◌}
use Rattle.c_syntax.specs.Plain as plain
use Rattle.c_syntax.specs.Plain.{CExpr, CExprs, CValue, CValues, CStmt, CStmts, CParts}
use Rattle.c_types.specs.Scope.{Scope, entered}
use Rattle.c_types.specs.Census.{scope_behind, scope_behind_head}
use Rattle.c_eval.specs.LiteralsIn.{names_printf, literals_in, literals_in_all, literals_behind, value_literals, values_literals, maybe_literals, first_literals, stmt_literals, stmts_literals, parts_literals}
use Rattle.c_eval.specs.Text.{Definition}
use Rattle.c_valid.specs.Valid.{AreBytes}
use Rattle.c_valid.specs.Limited.{ExprIsLimited, ExprsAreLimited, MaybeIsLimited, ValueIsLimited, ValuesAreLimited, FirstIsLimited, StmtIsLimited, StmtsAreLimited, PartsAreLimited}
use Rattle.c_valid.specs.Laws.{FunctionsAreLimited}
use Rattle.c_laid.specs.Fits.{AreWords, AllAreWords, LiteralsAreWords}

bytes_are_words : (cs : List ℕ) → AreBytes cs → AreWords cs
bytes_are_words [] b = tt
bytes_are_words (c ∷ cs) b = (omega (arith, b.0), bytes_are_words cs b.1)

pub both_all : (xs ys : List (List ℕ)) → AllAreWords xs → AllAreWords ys → AllAreWords (xs ++ ys)
both_all [] ys a b = b
both_all (x ∷ xs) ys a b = (a.0, both_all xs ys a.1 b)

if_all : (b : Bool) (xs ys : List (List ℕ)) → AllAreWords xs → AllAreWords ys → AllAreWords (if b then xs else ys)
if_all true xs ys a c = a
if_all false xs ys a c = c

module _ where
  mutual
    pub expr_words : (s : Scope) (e : CExpr) → ExprIsLimited e → AllAreWords (literals_in s e)
    expr_words s (plain.Number at n unsigned) l = tt
    expr_words s (plain.Str at text) l = (bytes_are_words text l.0, tt)
    expr_words s (plain.Null at) l = tt
    expr_words s (plain.Var at name) l = tt
    expr_words s (plain.Unary at op a) l = expr_words s a l
    expr_words s (plain.Step at op a) l = expr_words s a l
    expr_words s (plain.Binary at op a b) l = both_all (literals_in s a) (literals_in s b) (expr_words s a l.0) (expr_words s b l.1)
    expr_words s (plain.Assign at op a b) l = both_all (literals_in s a) (literals_in s b) (expr_words s a l.0) (expr_words s b l.1)
    expr_words s (plain.Cond at a b c) l = both_all (literals_in s a) (literals_in s b ++ literals_in s c) (expr_words s a l.0) (both_all (literals_in s b) (literals_in s c) (expr_words s b l.1) (expr_words s c l.2))
    expr_words s (plain.Comma at a b) l = both_all (literals_in s a) (literals_in s b) (expr_words s a l.0) (expr_words s b l.1)
    expr_words s (plain.Cast at t a) l = expr_words s a l
    expr_words s (plain.SizeTy at t) l = tt
    expr_words s (plain.SizeOf at a) l = tt
    expr_words s (plain.Index at a b) l = both_all (literals_in s a) (literals_in s b) (expr_words s a l.0) (expr_words s b l.1)
    expr_words s (plain.Call at f es) l =
        both_all (literals_in s f) (if names_printf s f then literals_behind s es else literals_in_all s es) (expr_words s f l.0) (if_all (names_printf s f) (literals_behind s es) (literals_in_all s es) (behind_words s es l.1) (all_words s es l.1))
    expr_words s (plain.Member at a m) l = expr_words s a l
    expr_words s (plain.Arrow at a m) l = expr_words s a l

    all_words : (s : Scope) (es : CExprs) → ExprsAreLimited es → AllAreWords (literals_in_all s es)
    all_words s plain.NoExpr l = tt
    all_words s (plain.MoreExpr e es) l = both_all (literals_in s e) (literals_in_all s es) (expr_words s e l.0) (all_words s es l.1)

    behind_words : (s : Scope) (es : CExprs) → ExprsAreLimited es → AllAreWords (literals_behind s es)
    behind_words s plain.NoExpr l = tt
    behind_words s (plain.MoreExpr e es) l = all_words s es l.1

  mutual
    value_words : (s : Scope) (v : CValue) → ValueIsLimited v → AllAreWords (value_literals s v)
    value_words s (plain.One e) l = expr_words s e l
    value_words s (plain.Many vs) l = values_words s vs l

    values_words : (s : Scope) (vs : CValues) → ValuesAreLimited vs → AllAreWords (values_literals s vs)
    values_words s plain.NoValue l = tt
    values_words s (plain.MoreValue v vs) l = both_all (value_literals s v) (values_literals s vs) (value_words s v l.0) (values_words s vs l.1)

  pub first_words : (s : Scope) (o : Option CValue) → FirstIsLimited o → AllAreWords (first_literals s o)
  first_words s None l = tt
  first_words s (Some v) l = value_words s v l

  maybe_words : (s : Scope) (o : Option CExpr) → MaybeIsLimited o → AllAreWords (maybe_literals s o)
  maybe_words s None l = tt
  maybe_words s (Some e) l = expr_words s e l

  mutual
    stmt_words : (s : Scope) (t : CStmt) → StmtIsLimited s t → AllAreWords (stmt_literals s t)
    stmt_words s (plain.Block ss) l = stmts_words (entered s) ss l
    stmt_words s (plain.Local d) l = first_words (scope_behind s (plain.Local d)) d.first l.1
    stmt_words s (plain.Do_expr e) l = expr_words s e l
    stmt_words s plain.Empty l = tt
    stmt_words s (plain.If e t) l = both_all (literals_in s e) (stmt_literals s t) (expr_words s e l.0) (stmt_words s t l.1)
    stmt_words s (plain.IfElse e t u) l = both_all (literals_in s e) (stmt_literals s t ++ stmt_literals s u) (expr_words s e l.0) (both_all (stmt_literals s t) (stmt_literals s u) (stmt_words s t l.1) (stmt_words s u l.2))
    stmt_words s (plain.While e t) l = both_all (literals_in s e) (stmt_literals s t) (expr_words s e l.0) (stmt_words s t l.1)
    stmt_words s (plain.Do t e) l = both_all (stmt_literals s t) (literals_in s e) (stmt_words s t l.0) (expr_words s e l.1)
    stmt_words s (plain.For first test step t) l =
        let inner : Scope = scope_behind_head s first in
        both_all (stmt_literals s first) (maybe_literals inner test ++ (maybe_literals inner step ++ stmt_literals inner t)) (stmt_words s first l.0)
        (both_all (maybe_literals inner test) (maybe_literals inner step ++ stmt_literals inner t) (maybe_words inner test l.1) (both_all (maybe_literals inner step) (stmt_literals inner t) (maybe_words inner step l.2) (stmt_words inner t l.3)))
    stmt_words s (plain.Return at e) l = maybe_words s e l
    stmt_words s (plain.Break at) l = tt
    stmt_words s (plain.Continue at) l = tt
    stmt_words s (plain.Switch e ps) l = both_all (literals_in s e) (parts_literals (entered s) ps) (expr_words s e l.0) (parts_words (entered s) ps l.1)

    stmts_words : (s : Scope) (ts : CStmts) → StmtsAreLimited s ts → AllAreWords (stmts_literals s ts)
    stmts_words s plain.NoStmt l = tt
    stmts_words s (plain.MoreStmt t ts) l = both_all (stmt_literals s t) (stmts_literals (scope_behind s t) ts) (stmt_words s t l.0) (stmts_words (scope_behind s t) ts l.1)

    parts_words : (s : Scope) (ps : CParts) → PartsAreLimited s ps → AllAreWords (parts_literals s ps)
    parts_words s plain.NoPart l = tt
    parts_words s (plain.MorePart (plain.Label at e) ps) l = parts_words s ps l.1
    parts_words s (plain.MorePart (plain.Item t) ps) l = both_all (stmt_literals s t) (parts_literals (scope_behind s t) ps) (stmt_words s t l.0) (parts_words (scope_behind s t) ps l.1)

-- those of functions
pub functions_words : (fs : List Definition) → FunctionsAreLimited fs → LiteralsAreWords (map (λ f. (Some f.name, stmt_literals f.scope f.body)) fs)
functions_words [] l = tt
functions_words (f ∷ fs) l = (stmt_words f.scope f.body l.0, functions_words fs l.1)
