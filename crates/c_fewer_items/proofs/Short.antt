-- Trees without string literals.
use Rattle.std.proofs.Common.{◌≡◌, Option, Some, None, Bool, true, false, refl}
use Rattle.std.specs.Prelude.{◌&&◌, not}
use Rattle.std.specs.List.{list_any}
use Rattle.std.proofs.lemmas.Bool.{and_parts}
use Rattle.c_syntax.specs.Plain as plain
use Rattle.c_syntax.specs.Plain.{CExpr, CExprs, CValue, CStmt, CStmts}
use Rattle.c_fewer_types.specs.Written.{StringsAreShort, EachStringIsShort}
use Rattle.c_helpers.specs.Laws.{is_strange}
use Rattle.c_fewer_types.specs.Standing.{FirstHas, MaybeHas, FirstIsShort, StmtHas, StmtsHave, IsDeclaration}

abbrev mutual
  no_text : CExpr → Bool
  no_text (plain.Str at text) = false
  no_text (plain.Number at n unsigned) = true
  no_text (plain.Null at) = true
  no_text (plain.Var at name) = true
  no_text (plain.Unary at op a) = no_text a
  no_text (plain.Step at op a) = no_text a
  no_text (plain.Binary at op a b) = no_text a && no_text b
  no_text (plain.Assign at op a b) = no_text a && no_text b
  no_text (plain.Cast at t a) = no_text a
  no_text (plain.Call at f es) = no_text f && no_texts es
  no_text e = false

  no_texts : CExprs → Bool
  no_texts plain.NoExpr = true
  no_texts (plain.MoreExpr e es) = no_text e && no_texts es

mutual
  short : (e : CExpr) → no_text e ≡ true → StringsAreShort e
  short (plain.Str at text) h = absurd (cc h)
  short (plain.Number at n unsigned) h = tt
  short (plain.Null at) h = tt
  short (plain.Var at name) h = tt
  short (plain.Unary at op a) h = short a h
  short (plain.Step at op a) h = short a h
  short (plain.Binary at op a b) h = let k = and_parts (no_text a) (no_text b) h in (short a k.0, short b k.1)
  short (plain.Assign at op a b) h = let k = and_parts (no_text a) (no_text b) h in (short a k.0, short b k.1)
  short (plain.Cast at t a) h = short a h
  short (plain.Call at f es) h = let k = and_parts (no_text f) (no_texts es) h in (short f k.0, all_short es k.1)
  short e h = absurd (cc h)

  all_short : (es : CExprs) → no_texts es ≡ true → EachStringIsShort es
  all_short plain.NoExpr h = tt
  all_short (plain.MoreExpr e es) h = let k = and_parts (no_text e) (no_texts es) h in (short e k.0, all_short es k.1)

abbrev simple_first : Option CValue → Bool
simple_first None = true
simple_first (Some (plain.One e)) = no_text e
simple_first (Some (plain.Many vs)) = false

abbrev simple_maybe : Option CExpr → Bool
simple_maybe None = true
simple_maybe (Some e) = no_text e

abbrev mutual
  -- a statement of the forms that helper functions have
  pub simple : CStmt → Bool
  simple (plain.Block ss) = all_simple ss
  simple (plain.Local d) = not (list_any is_strange d.name) && simple_first d.first
  simple (plain.Do_expr e) = no_text e
  simple (plain.If e t) = no_text e && simple t
  simple (plain.While e t) = no_text e && simple t
  simple (plain.Return at e) = simple_maybe e
  simple t = false

  pub all_simple : CStmts → Bool
  all_simple plain.NoStmt = true
  all_simple (plain.MoreStmt t ts) = simple t && all_simple ts

first_short : (o : Option CValue) → simple_first o ≡ true → FirstIsShort o × FirstHas StringsAreShort o
first_short None h = (tt, tt)
first_short (Some (plain.One e)) h = (tt, short e h)
first_short (Some (plain.Many vs)) h = absurd (cc h)

not_true : (b : Bool) → not b ≡ true → b ≡ false
not_true true h = absurd (cc h)
not_true false h = refl

maybe_short : (o : Option CExpr) → simple_maybe o ≡ true → MaybeHas StringsAreShort o
maybe_short None h = tt
maybe_short (Some e) h = short e h

mutual
  stmt_short : (t : CStmt) → simple t ≡ true → StmtHas StringsAreShort IsDeclaration t
  stmt_short (plain.Block ss) h = stmts_short ss h
  stmt_short (plain.Local d) h = let k = and_parts (not (list_any is_strange d.name)) (simple_first d.first) h in let l = first_short d.first k.1 in ((not_true (list_any is_strange d.name) k.0, l.0), l.1)
  stmt_short (plain.Do_expr e) h = short e h
  stmt_short (plain.If e t) h = let k = and_parts (no_text e) (simple t) h in (short e k.0, stmt_short t k.1)
  stmt_short (plain.While e t) h = let k = and_parts (no_text e) (simple t) h in (short e k.0, stmt_short t k.1)
  stmt_short (plain.Return at e) h = maybe_short e h
  stmt_short t h = absurd (cc h)

  pub stmts_short : (ss : CStmts) → all_simple ss ≡ true → StmtsHave StringsAreShort IsDeclaration ss
  stmts_short plain.NoStmt h = tt
  stmts_short (plain.MoreStmt t ts) h = let k = and_parts (simple t) (all_simple ts) h in (stmt_short t k.0, stmts_short ts k.1)
