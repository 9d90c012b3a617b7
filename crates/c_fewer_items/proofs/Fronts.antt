-- The bodies of helper functions have no string literals, and their objects have a word each.
use Rattle.std.proofs.Common.{◌≡◌, ℕ, suc, ◌<◌, List, [], ◌∷◌, ◌++◌, map, Some, None, Bool, true, false, refl, cond, arith}
use Rattle.std.specs.Prelude.{◌&&◌, ◌==◌, Ok, Err, codes}
use Rattle.std.specs.declared.option.Option.{Option}
use Rattle.std.proofs.lemmas.Bool.{and_parts}
use Rattle.c_syntax.specs.Plain as plain
use Rattle.c_syntax.specs.Plain.{CExpr, CExprs, CTy, CValue, CStmt, CStmts, CItem, stmts}
use Rattle.c_types.specs.Types as type
use Rattle.c_types.specs.Types.{CType, words_of}
use Rattle.c_types.specs.Refusals.{Judged, after}
use Rattle.c_types.specs.Scope.{Scope, contains, entered, file_scope}
use Rattle.c_types.specs.Expressions.{written}
use Rattle.c_types.specs.Declarations.{completed, object_type, scope_or}
use Rattle.c_types.specs.Units.{Signature, signature, body_scope, item_judged}
use Rattle.c_types.specs.Census.{scope_behind}
use Rattle.c_eval.specs.Environment.{type_or_void}
use Rattle.c_eval.specs.Text.{Definition, definition_in, item_definitions, definitions}
use Rattle.c_valid.specs.Valid.{most_cells}
use Rattle.c_valid.specs.Limited.{ExprIsLimited, ExprsAreLimited, MaybeIsLimited, FirstIsLimited, StmtIsLimited, StmtsAreLimited}
use Rattle.c_valid.specs.Laws.{FunctionsAreLimited}
use Rattle.c_helpers.specs.Terms.{number, variable}
use Rattle.c_helpers.specs.Functions.{Helper, print_format, pieces, conversion, argument_name, put_piece, refill, call_of}
use Rattle.c_fewer_items.specs.FewerHeadsLaws.{firsts, helper_items}
use Rattle.c_fewer_items.specs.FrontsLimitedLaws.{FrontsAreLimited}

-- ---- trees without string literals, whose objects are numbers and pointers

abbrev is_word : CTy → Bool
is_word plain.Int = true
is_word plain.Unsigned = true
is_word plain.Char = true
is_word plain.UChar = true
is_word (plain.Pointer t) = true
is_word t = false

abbrev mutual
  bare : CExpr → Bool
  bare (plain.Number at n unsigned) = true
  bare (plain.Var at name) = true
  bare (plain.Unary at op e) = bare e
  bare (plain.Binary at op e f) = bare e && bare f
  bare (plain.Assign at op e f) = bare e && bare f
  bare (plain.Cast at t e) = bare e
  bare (plain.Call at f es) = bare f && all_bare es
  bare e = false

  all_bare : CExprs → Bool
  all_bare plain.NoExpr = true
  all_bare (plain.MoreExpr e es) = bare e && all_bare es

abbrev bare_value : CValue → Bool
bare_value (plain.One e) = bare e
bare_value (plain.Many vs) = false

abbrev bare_first : Option CValue → Bool
bare_first None = true
bare_first (Some v) = bare_value v

abbrev bare_maybe : Option CExpr → Bool
bare_maybe None = true
bare_maybe (Some e) = bare e

abbrev mutual
  bare_stmt : CStmt → Bool
  bare_stmt (plain.Block ss) = bare_stmts ss
  bare_stmt (plain.Local d) = is_word d.ty && bare_first d.first
  bare_stmt (plain.Do_expr e) = bare e
  bare_stmt (plain.If e t) = bare e && bare_stmt t
  bare_stmt (plain.While e t) = bare e && bare_stmt t
  bare_stmt (plain.Return at e) = bare_maybe e
  bare_stmt t = false

  bare_stmts : CStmts → Bool
  bare_stmts plain.NoStmt = true
  bare_stmts (plain.MoreStmt t ts) = bare_stmt t && bare_stmts ts

-- ---- they are within the limits

mutual
  expr_limited : (e : CExpr) → bare e ≡ true → ExprIsLimited e
  expr_limited (plain.Number at n unsigned) h = tt
  expr_limited (plain.Var at name) h = tt
  expr_limited (plain.Unary at op e) h = expr_limited e h
  expr_limited (plain.Binary at op e f) h = let p = and_parts (bare e) (bare f) h in (expr_limited e p.0, expr_limited f p.1)
  expr_limited (plain.Assign at op e f) h = let p = and_parts (bare e) (bare f) h in (expr_limited e p.0, expr_limited f p.1)
  expr_limited (plain.Cast at t e) h = expr_limited e h
  expr_limited (plain.Call at f es) h = let p = and_parts (bare f) (all_bare es) h in (expr_limited f p.0, exprs_limited es p.1)
  expr_limited e h = absurd (cc h)

  exprs_limited : (es : CExprs) → all_bare es ≡ true → ExprsAreLimited es
  exprs_limited plain.NoExpr h = tt
  exprs_limited (plain.MoreExpr e es) h = let p = and_parts (bare e) (all_bare es) h in (expr_limited e p.0, exprs_limited es p.1)

first_limited : (v : Option CValue) → bare_first v ≡ true → FirstIsLimited v
first_limited None h = tt
first_limited (Some (plain.One e)) h = expr_limited e h
first_limited (Some (plain.Many vs)) h = absurd (cc h)

maybe_limited : (e : Option CExpr) → bare_maybe e ≡ true → MaybeIsLimited e
maybe_limited None h = tt
maybe_limited (Some e) h = expr_limited e h

one : 1 < most_cells
one = omega arith

none : 0 < most_cells
none = omega arith

word_limited : (s : Scope) (at : ℕ) (t : CTy) (first : Option CValue) → is_word t ≡ true
    → words_of s.tags (type_or_void (after (written s at t) (λ u. object_type s at (completed u first)))) < most_cells
word_limited s at plain.Int first h = one
word_limited s at plain.Unsigned first h = one
word_limited s at plain.Char first h = one
word_limited s at plain.UChar first h = one
word_limited s at (plain.Pointer t) first h = go (written s at t)
  where
    go : (r : Judged CType) → words_of s.tags (type_or_void (after (after r (λ u. Ok (type.Pointer u))) (λ u. object_type s at (completed u first)))) < most_cells
    go (Ok u) = one
    go (Err e) = none
word_limited s at t first h = absurd (cc h)

mutual
  stmt_limited : (s : Scope) (t : CStmt) → bare_stmt t ≡ true → StmtIsLimited s t
  stmt_limited s (plain.Block ss) h = stmts_limited (entered s) ss h
  stmt_limited s (plain.Local d) h = let p = and_parts (is_word d.ty) (bare_first d.first) h in (word_limited s d.pos d.ty d.first p.0, first_limited d.first p.1)
  stmt_limited s (plain.Do_expr e) h = expr_limited e h
  stmt_limited s (plain.If e t) h = let p = and_parts (bare e) (bare_stmt t) h in (expr_limited e p.0, stmt_limited s t p.1)
  stmt_limited s (plain.While e t) h = let p = and_parts (bare e) (bare_stmt t) h in (expr_limited e p.0, stmt_limited s t p.1)
  stmt_limited s (plain.Return at e) h = maybe_limited e h
  stmt_limited s t h = absurd (cc h)

  stmts_limited : (s : Scope) (ss : CStmts) → bare_stmts ss ≡ true → StmtsAreLimited s ss
  stmts_limited s plain.NoStmt h = tt
  stmts_limited s (plain.MoreStmt t ts) h = let p = and_parts (bare_stmt t) (bare_stmts ts) h in (stmt_limited s t p.0, stmts_limited (scope_behind s t) ts p.1)

-- ---- helper functions

abbrev AreBare : List Helper → Type 0
AreBare [] = Unit {0}
AreBare (g ∷ gs) = (bare_stmt g.body ≡ true) × AreBare gs

both_bare : (gs hs : List Helper) → AreBare gs → AreBare hs → AreBare (gs ++ hs)
both_bare [] hs a b = b
both_bare (g ∷ gs) hs a b = (a.0, both_bare gs hs a.1 b)

-- the pieces of a format
conversion_bare : (c i : ℕ) (more : List CStmt) → bare_stmts (stmts more) ≡ true → bare_stmts (stmts (conversion c i ++ more)) ≡ true
conversion_bare c i more h = go (c == 99)
  where
    go : (b : Bool) → bare_stmts (stmts (cond b (put_piece (variable (argument_name i)) ∷ []) (refill ∷ call_of (codes "%" ++ c ∷ []) (variable (argument_name i) ∷ []) ∷ []) ++ more)) ≡ true
    go true = h
    go false = h

pieces_bare : (percent : Bool) (format : List ℕ) (i : ℕ) → bare_stmts (stmts (pieces percent format i)) ≡ true
pieces_bare percent [] i = refl
pieces_bare false (c ∷ format) i = go (c == 37) (pieces_bare true format i) (pieces_bare false format i)
  where
    go : (b : Bool) → bare_stmts (stmts (pieces true format i)) ≡ true → bare_stmts (stmts (pieces false format i)) ≡ true → bare_stmts (stmts (cond b (pieces true format i) (put_piece (number c) ∷ pieces false format i))) ≡ true
    go true g h = g
    go false g h = h
pieces_bare true (c ∷ format) i = go (c == 37) (pieces_bare false format i) (conversion_bare c i (pieces false format (suc i)) (pieces_bare false format (suc i)))
  where
    go : (b : Bool) → bare_stmts (stmts (pieces false format i)) ≡ true → bare_stmts (stmts (conversion c i ++ pieces false format (suc i))) ≡ true
        → bare_stmts (stmts (cond b (put_piece (number c) ∷ pieces false format i) (conversion c i ++ pieces false format (suc i)))) ≡ true
    go true g h = g
    go false g h = h

formats_bare : (formats : List (List ℕ)) → AreBare (map print_format formats)
formats_bare [] = tt
formats_bare (format ∷ formats) = (pieces_bare false format 0, formats_bare formats)

both_limited : (fs gs : List Definition) → FunctionsAreLimited fs → FunctionsAreLimited gs → FunctionsAreLimited (fs ++ gs)
both_limited [] gs a b = b
both_limited (f ∷ fs) gs a b = (a.0, both_limited fs gs a.1 b)

definition_limited : (s : Scope) (g : Helper) (r : Judged Signature) → bare_stmt g.body ≡ true → FunctionsAreLimited (definition_in s g.name g.params g.body r)
definition_limited s g (Ok f) h = (stmt_limited (body_scope s g.name f) g.body h, tt)
definition_limited s g (Err e) h = tt

item_limited : (s : Scope) (g : Helper) (b : Bool) → bare_stmt g.body ≡ true → FunctionsAreLimited (item_definitions s (plain.Function g.name 0 g.result g.params (cond b (Some g.body) None)))
item_limited s g true h = definition_limited s g (signature s 0 g.result g.params) h
item_limited s g false h = tt

helpers_limited : (names : List (List ℕ)) (gs : List Helper) (s : Scope) → AreBare gs → FunctionsAreLimited (definitions s (helper_items names gs))
helpers_limited names [] s h = tt
helpers_limited names (g ∷ gs) s h =
    let item : CItem = plain.Function g.name 0 g.result g.params (cond (contains names g.name) (Some g.body) None) in
    both_limited (item_definitions s item) (definitions (scope_or s (item_judged s item)) (helper_items names gs)) (item_limited s g (contains names g.name) h.0) (helpers_limited names gs (scope_or s (item_judged s item)) h.1)

-- whether all are
abbrev are_bare : List Helper → Bool
are_bare [] = true
are_bare (g ∷ gs) = bare_stmt g.body && are_bare gs

told_bare : (gs : List Helper) → are_bare gs ≡ true → AreBare gs
told_bare [] h = tt
told_bare (g ∷ gs) h = let p = and_parts (bare_stmt g.body) (are_bare gs) h in (p.0, told_bare gs p.1)

pub fronts_are_limited : FrontsAreLimited
fronts_are_limited names defined formats = helpers_limited names (firsts ++ map print_format formats) (file_scope defined) (both_bare firsts (map print_format formats) (told_bare firsts refl) (formats_bare formats))
