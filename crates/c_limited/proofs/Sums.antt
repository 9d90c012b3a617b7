-- Trees whose sums are small have no large literal and declare no large object.
use Rattle.std.proofs.Common.{◌≡◌, ℕ, ◌+◌, ◌^◌, ◌<◌, ◌≤◌, List, [], ◌∷◌, Option, Some, None, Bool, true, false, refl, arith, nat_le, nat_lt}
use Rattle.std.specs.Prelude.{if◌then◌else◌, Ok, Err}
use Rattle.std.proofs.lemmas.Bool.{leb-true, ltb-true}
use Rattle.c_syntax.specs.Plain as plain
use Rattle.c_syntax.specs.Plain.{CExpr, CExprs, CValue, CValues, CDecl, CStmt, CStmts, CPart, CParts}
use Rattle.c_types.specs.Types as type
use Rattle.c_types.specs.Types.{CType, Tags, words_of}
use Rattle.c_types.specs.Refusals.{Judged}
use Rattle.c_types.specs.Scope.{Scope, entered}
use Rattle.c_types.specs.Expressions.{names_function}
use Rattle.c_types.specs.Declarations.{declared, declared_type, scope_or}
use Rattle.c_types.specs.Census.{Tally, expr_sum, exprs_sum, maybe_sum, value_sum, values_sum, first_sum, of_type, object_sum, scope_behind, scope_behind_head, scope_behind_part, stmt_sum, stmts_sum, part_sum, parts_sum}
use Rattle.c_types.specs.Limits.{string_words, initialised_words, most_words, is_over, wide_types, wide_types_at}
use Rattle.c_eval.specs.Environment.{type_or_void}
use Rattle.c_valid.specs.Valid.{AreBytes}
use Rattle.c_valid.specs.Limited.{ExprIsLimited, ExprsAreLimited, MaybeIsLimited, ValueIsLimited, ValuesAreLimited, FirstIsLimited, DeclIsLimited, StmtIsLimited, StmtsAreLimited, PartIsLimited, PartsAreLimited}
use Rattle.c_limited.specs.Laws.{strange_bytes, strange_in}

-- weight, types that are too wide, and bytes that aren't bytes
abbrev pub weight : Tally
weight = record { expr = λ s e. 1 + string_words e; node = 1; ty = λ tags t. 0; object = initialised_words }

abbrev pub wide : Tally
wide = record { expr = wide_types_at; node = 0; ty = wide_types; object = λ tags t v. 0 }

abbrev pub strange : Tally
strange = record { expr = λ s e. strange_in e; node = 0; ty = λ tags t. 0; object = λ tags t v. 0 }

-- little weight, and nothing that is too wide or strange
pub record Within (w n b : ℕ) : Type 0 where
  pub light : w ≤ 65536
  pub narrow : n ≤ 0
  pub plain : b ≤ 0

pub front : {w n b : ℕ} (x y z : ℕ) → Within (w + x) (n + y) (b + z) → Within w n b
front x y z h = record { light = omega (arith, h.light); narrow = omega (arith, h.narrow); plain = omega (arith, h.plain) }

pub last : (w n b : ℕ) {x y z : ℕ} → Within (w + x) (n + y) (b + z) → Within x y z
last w n b h = record { light = omega (arith, h.light); narrow = omega (arith, h.narrow); plain = omega (arith, h.plain) }

-- ---- expressions

bytes_plain : (cs : List ℕ) → strange_bytes cs ≤ 0 → AreBytes cs
bytes_plain [] h = tt
bytes_plain (c ∷ cs) h = (first (nat_lt c (2 ^ 8)) refl (omega (arith, h)), bytes_plain cs (omega (arith, h)))
  where
    first : (b : Bool) → nat_lt c (2 ^ 8) ≡ b → (if b then 0 else 1) ≤ 0 → c < 2 ^ 8
    first true e le = ltb-true c (2 ^ 8) e
    first false e le = absurd (omega (arith, le))

-- a function's name has no literal
name_limited : (s : Scope) (f : CExpr) → names_function s f ≡ true → ExprIsLimited f
name_limited s (plain.Var at name) e = tt
name_limited s f e = absurd (cc e)

called_limited : (b : Bool) (w n z : ℕ) (f : CExpr) → (b ≡ true → ExprIsLimited f) → (Within w n z → ExprIsLimited f) → Within (if b then 0 else w) (if b then 0 else n) (if b then 0 else z) → ExprIsLimited f
called_limited true w n z f named small h = named refl
called_limited false w n z f named small h = small h

mutual
  pub expr_limited : (s : Scope) (e : CExpr) → Within (expr_sum weight s e) (expr_sum wide s e) (expr_sum strange s e) → ExprIsLimited e
  expr_limited s (plain.Number at n unsigned) h = tt
  expr_limited s (plain.Str at text) h = (bytes_plain text h.plain, omega (arith, h.light))
  expr_limited s (plain.Null at) h = tt
  expr_limited s (plain.Var at name) h = tt
  expr_limited s (plain.Unary at op a) h = expr_limited s a (last _ _ _ h)
  expr_limited s (plain.Step at op a) h = expr_limited s a (last _ _ _ h)
  expr_limited s (plain.Binary at op a b) h = (expr_limited s a (last _ _ _ (front _ _ _ h)), expr_limited s b (last _ _ _ h))
  expr_limited s (plain.Assign at op a b) h = (expr_limited s a (last _ _ _ (front _ _ _ h)), expr_limited s b (last _ _ _ h))
  expr_limited s (plain.Cond at a b c) h = (expr_limited s a (last _ _ _ (front _ _ _ (front _ _ _ h))), expr_limited s b (last _ _ _ (front _ _ _ h)), expr_limited s c (last _ _ _ h))
  expr_limited s (plain.Comma at a b) h = (expr_limited s a (last _ _ _ (front _ _ _ h)), expr_limited s b (last _ _ _ h))
  expr_limited s (plain.Cast at t a) h = expr_limited s a (last _ _ _ h)
  expr_limited s (plain.SizeTy at t) h = tt
  expr_limited s (plain.SizeOf at a) h = tt
  expr_limited s (plain.Index at a b) h = (expr_limited s a (last _ _ _ (front _ _ _ h)), expr_limited s b (last _ _ _ h))
  expr_limited s (plain.Call at f es) h =
      (called_limited (names_function s f) (expr_sum weight s f) (expr_sum wide s f) (expr_sum strange s f) f (name_limited s f) (expr_limited s f) (last _ _ _ (front _ _ _ h)), exprs_limited s es (last _ _ _ h))
  expr_limited s (plain.Member at a m) h = expr_limited s a (last _ _ _ h)
  expr_limited s (plain.Arrow at a m) h = expr_limited s a (last _ _ _ h)

  exprs_limited : (s : Scope) (es : CExprs) → Within (exprs_sum weight s es) (exprs_sum wide s es) (exprs_sum strange s es) → ExprsAreLimited es
  exprs_limited s plain.NoExpr h = tt
  exprs_limited s (plain.MoreExpr e es) h = (expr_limited s e (front _ _ _ h), exprs_limited s es (last _ _ _ h))

maybe_limited : (s : Scope) (e : Option CExpr) → Within (maybe_sum weight s e) (maybe_sum wide s e) (maybe_sum strange s e) → MaybeIsLimited e
maybe_limited s None h = tt
maybe_limited s (Some e) h = expr_limited s e h

-- ---- declarations

mutual
  pub value_limited : (s : Scope) (v : CValue) → Within (value_sum weight s v) (value_sum wide s v) (value_sum strange s v) → ValueIsLimited v
  value_limited s (plain.One e) h = expr_limited s e (last _ _ _ h)
  value_limited s (plain.Many vs) h = values_limited s vs (last _ _ _ h)

  values_limited : (s : Scope) (vs : CValues) → Within (values_sum weight s vs) (values_sum wide s vs) (values_sum strange s vs) → ValuesAreLimited vs
  values_limited s plain.NoValue h = tt
  values_limited s (plain.MoreValue v vs) h = (value_limited s v (front _ _ _ h), values_limited s vs (last _ _ _ h))

first_limited : (s : Scope) (v : Option CValue) → Within (first_sum weight s v) (first_sum wide s v) (first_sum strange s v) → FirstIsLimited v
first_limited s None h = tt
first_limited s (Some v) h = value_limited s v h

not_over : (words : ℕ) → is_over words ≤ 0 → words ≤ most_words
not_over words h = go (nat_le words most_words) refl h
  where
    go : (b : Bool) → nat_le words most_words ≡ b → (if b then 0 else 1) ≤ 0 → words ≤ most_words
    go true e h = leb-true words most_words e
    go false e h = absurd (omega (arith, h))

pub narrow_words : (tags : Tags) (t : CType) → wide_types tags t ≤ 0 → words_of tags t ≤ most_words
narrow_words tags (type.Pointer t) h = omega arith
narrow_words tags (type.Function t ts) h = omega arith
narrow_words tags (type.Array t n) h = let e : is_over (words_of tags (type.Array t n)) ≤ 0 = omega (arith, h) in not_over (words_of tags (type.Array t n)) e
narrow_words tags (type.Struct tag) h = not_over (words_of tags (type.Struct tag)) h
narrow_words tags type.Void h = omega arith
narrow_words tags type.Null h = omega arith
narrow_words tags type.Int h = omega arith
narrow_words tags type.Unsigned h = omega arith
narrow_words tags type.Char h = omega arith
narrow_words tags type.UChar h = omega arith

pub declared_words : (tags : Tags) (r : Judged CType) → of_type (λ t. wide_types tags t + 0) r ≤ 0 → words_of tags (type_or_void r) ≤ most_words
declared_words tags (Ok t) h = narrow_words tags t (omega (arith, h))
declared_words tags (Err e) h = omega arith

pub object_words : (s : Scope) (d : CDecl) → object_sum wide s d ≤ 0 → words_of s.tags (type_or_void (declared_type s d)) ≤ most_words
object_words s d h = declared_words s.tags (declared_type s d) (omega (arith, h))

decl_limited : (s : Scope) (d : CDecl) → Within (object_sum weight s d) (object_sum wide s d) (object_sum strange s d) → DeclIsLimited s d
decl_limited s d h = (let le : words_of s.tags (type_or_void (declared_type s d)) ≤ most_words = object_words s d h.narrow in omega (arith, le), first_limited (scope_or s (declared s false d)) d.first (last _ _ _ (front _ _ _ h)))

-- ---- statements

mutual
  pub stmt_limited : (s : Scope) (t : CStmt) → Within (stmt_sum weight s t) (stmt_sum wide s t) (stmt_sum strange s t) → StmtIsLimited s t
  stmt_limited s (plain.Block ss) h = stmts_limited (entered s) ss (last _ _ _ h)
  stmt_limited s (plain.Local d) h = decl_limited s d (last _ _ _ h)
  stmt_limited s (plain.Do_expr e) h = expr_limited s e (last _ _ _ h)
  stmt_limited s plain.Empty h = tt
  stmt_limited s (plain.If e t) h = (expr_limited s e (last _ _ _ (front _ _ _ h)), stmt_limited s t (last _ _ _ h))
  stmt_limited s (plain.IfElse e t u) h = (expr_limited s e (last _ _ _ (front _ _ _ (front _ _ _ h))), stmt_limited s t (last _ _ _ (front _ _ _ h)), stmt_limited s u (last _ _ _ h))
  stmt_limited s (plain.While e t) h = (expr_limited s e (last _ _ _ (front _ _ _ h)), stmt_limited s t (last _ _ _ h))
  stmt_limited s (plain.Do t e) h = (stmt_limited s t (last _ _ _ (front _ _ _ h)), expr_limited s e (last _ _ _ h))
  stmt_limited s (plain.For first test step t) h =
      (stmt_limited s first (last _ _ _ (front _ _ _ (front _ _ _ (front _ _ _ h)))), maybe_limited (scope_behind_head s first) test (last _ _ _ (front _ _ _ (front _ _ _ h))), maybe_limited (scope_behind_head s first) step (last _ _ _ (front _ _ _ h)), stmt_limited (scope_behind_head s first) t (last _ _ _ h))
  stmt_limited s (plain.Return at e) h = maybe_limited s e (last _ _ _ h)
  stmt_limited s (plain.Break at) h = tt
  stmt_limited s (plain.Continue at) h = tt
  stmt_limited s (plain.Switch e ps) h = (expr_limited s e (last _ _ _ (front _ _ _ h)), parts_limited (entered s) ps (last _ _ _ h))

  pub stmts_limited : (s : Scope) (ss : CStmts) → Within (stmts_sum weight s ss) (stmts_sum wide s ss) (stmts_sum strange s ss) → StmtsAreLimited s ss
  stmts_limited s plain.NoStmt h = tt
  stmts_limited s (plain.MoreStmt t ts) h = (stmt_limited s t (front _ _ _ h), stmts_limited (scope_behind s t) ts (last _ _ _ h))

  part_limited : (s : Scope) (p : CPart) → Within (part_sum weight s p) (part_sum wide s p) (part_sum strange s p) → PartIsLimited s p
  part_limited s (plain.Label at e) h = tt
  part_limited s (plain.Item t) h = stmt_limited s t (last _ _ _ h)

  parts_limited : (s : Scope) (ps : CParts) → Within (parts_sum weight s ps) (parts_sum wide s ps) (parts_sum strange s ps) → PartsAreLimited s ps
  parts_limited s plain.NoPart h = tt
  parts_limited s (plain.MorePart p ps) h = (part_limited s p (front _ _ _ h), parts_limited (scope_behind_part s p) ps (last _ _ _ h))
