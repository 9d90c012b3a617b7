-- The words of the string literals in a tree are at most those that its sum counts, whatever the scopes are in which both stand.
use Rattle.std.proofs.Common.{◌≡◌, ℕ, ◌+◌, ◌≤◌, Bool, true, false, List, [], ◌∷◌, ◌++◌, length, Option, Some, None, refl, arith, length-append}
use Rattle.std.specs.Prelude.{if◌then◌else◌}
use Rattle.std.specs.List.{flat_map}
use Rattle.c_syntax.specs.Plain as plain
use Rattle.c_syntax.specs.Plain.{CExpr, CExprs, CValue, CValues, CStmt, CStmts, CPart, CParts}
use Rattle.c_types.specs.Scope.{Scope, entered}
use Rattle.c_types.specs.Expressions.{names_function}
use Rattle.c_types.specs.Declarations.{declared, scope_or}
use Rattle.c_types.specs.Census.{Tally, expr_sum, exprs_sum, maybe_sum, value_sum, values_sum, first_sum, scope_behind, scope_behind_head, scope_behind_part, stmt_sum, stmts_sum, part_sum, parts_sum, body_sum}
use Rattle.c_types.specs.Limits.{string_words, initialised_words}
use Rattle.c_eval.specs.LiteralsIn.{names_printf, literals_in, literals_in_all, literals_behind, value_literals, values_literals, maybe_literals, first_literals, stmt_literals, stmts_literals, part_literals, parts_literals}
use Rattle.c_lowered.specs.Whole.{letter_words}

-- the words of objects with first values and of string literals
abbrev pub words : Tally
words = record { expr = λ s e. string_words e; node = 0; ty = λ tags t. 0; object = initialised_words }

-- the words of literals
abbrev pub letters : List (List ℕ) → ℕ
letters [] = 0
letters (text ∷ texts) = length text + 1 + letters texts

pub letters_are : (texts : List (List ℕ)) → length (flat_map letter_words texts) ≡ letters texts
letters_are [] = refl
letters_are (text ∷ texts) = let k = letters_are texts in let a = length-append (letter_words text) (flat_map letter_words texts) in let b = length-append text (0 ∷ []) in omega (arith, k, a, b)

pub letters_append : (xs ys : List (List ℕ)) → letters (xs ++ ys) ≡ letters xs + letters ys
letters_append [] ys = omega arith
letters_append (x ∷ xs) ys = let k = letters_append xs ys in omega (arith, k)

-- two and three pieces
two : (xs ys : List (List ℕ)) (n m : ℕ) → letters xs ≤ n → letters ys ≤ m → letters (xs ++ ys) ≤ n + m
two xs ys n m a b = let k = letters_append xs ys in omega (arith, k, a, b)

three : (xs ys zs : List (List ℕ)) (n m p : ℕ) → letters xs ≤ n → letters ys ≤ m → letters zs ≤ p → letters (xs ++ (ys ++ zs)) ≤ n + m + p
three xs ys zs n m p a b c = let k = letters_append xs (ys ++ zs) in let l = letters_append ys zs in omega (arith, k, l, a, b, c)

-- ---- expressions

-- a name has none
named : (s z : Scope) (f : CExpr) → names_function s f ≡ true → letters (literals_in z f) ≤ 0
named s z (plain.Var at name) e = omega arith
named s z f e = absurd (cc e)

called : (b : Bool) (n m : ℕ) → (b ≡ true → n ≤ 0) → n ≤ m → n ≤ (if b then 0 else m)
called true n m h k = h refl
called false n m h k = k

chosen : (b : Bool) (xs ys : List (List ℕ)) (n : ℕ) → letters xs ≤ n → letters ys ≤ n → letters (if b then xs else ys) ≤ n
chosen true xs ys n a b = a
chosen false xs ys n a b = b

mutual
  pub expr_letters : (s z : Scope) (e : CExpr) → letters (literals_in z e) ≤ expr_sum words s e
  expr_letters s z (plain.Number at n unsigned) = omega arith
  expr_letters s z (plain.Str at text) = omega arith
  expr_letters s z (plain.Null at) = omega arith
  expr_letters s z (plain.Var at name) = omega arith
  expr_letters s z (plain.Unary at op a) = let k = expr_letters s z a in omega (arith, k)
  expr_letters s z (plain.Step at op a) = let k = expr_letters s z a in omega (arith, k)
  expr_letters s z (plain.Binary at op a b) = let k = two (literals_in z a) (literals_in z b) (expr_sum words s a) (expr_sum words s b) (expr_letters s z a) (expr_letters s z b) in omega (arith, k)
  expr_letters s z (plain.Assign at op a b) = let k = two (literals_in z a) (literals_in z b) (expr_sum words s a) (expr_sum words s b) (expr_letters s z a) (expr_letters s z b) in omega (arith, k)
  expr_letters s z (plain.Cond at a b c) =
      let k = three (literals_in z a) (literals_in z b) (literals_in z c) (expr_sum words s a) (expr_sum words s b) (expr_sum words s c) (expr_letters s z a) (expr_letters s z b) (expr_letters s z c) in omega (arith, k)
  expr_letters s z (plain.Comma at a b) = let k = two (literals_in z a) (literals_in z b) (expr_sum words s a) (expr_sum words s b) (expr_letters s z a) (expr_letters s z b) in omega (arith, k)
  expr_letters s z (plain.Cast at t a) = let k = expr_letters s z a in omega (arith, k)
  expr_letters s z (plain.SizeTy at t) = omega arith
  expr_letters s z (plain.SizeOf at a) = omega arith
  expr_letters s z (plain.Index at a b) = let k = two (literals_in z a) (literals_in z b) (expr_sum words s a) (expr_sum words s b) (expr_letters s z a) (expr_letters s z b) in omega (arith, k)
  expr_letters s z (plain.Call at f es) =
      let own = called (names_function s f) (letters (literals_in z f)) (expr_sum words s f) (named s z f) (expr_letters s z f) in
      let given = chosen (names_printf z f) (literals_behind z es) (literals_in_all z es) (exprs_sum words s es) (behind_letters s z es) (exprs_letters s z es) in
      let k = letters_append (literals_in z f) (if names_printf z f then literals_behind z es else literals_in_all z es) in
      omega (arith, own, given, k)
  expr_letters s z (plain.Member at a m) = let k = expr_letters s z a in omega (arith, k)
  expr_letters s z (plain.Arrow at a m) = let k = expr_letters s z a in omega (arith, k)

  exprs_letters : (s z : Scope) (es : CExprs) → letters (literals_in_all z es) ≤ exprs_sum words s es
  exprs_letters s z plain.NoExpr = omega arith
  exprs_letters s z (plain.MoreExpr e es) = two (literals_in z e) (literals_in_all z es) (expr_sum words s e) (exprs_sum words s es) (expr_letters s z e) (exprs_letters s z es)

  behind_letters : (s z : Scope) (es : CExprs) → letters (literals_behind z es) ≤ exprs_sum words s es
  behind_letters s z plain.NoExpr = omega arith
  behind_letters s z (plain.MoreExpr e es) = let k = exprs_letters s z es in omega (arith, k)

maybe_letters : (s z : Scope) (e : Option CExpr) → letters (maybe_literals z e) ≤ maybe_sum words s e
maybe_letters s z None = omega arith
maybe_letters s z (Some e) = expr_letters s z e

-- ---- first values

mutual
  value_letters : (s z : Scope) (v : CValue) → letters (value_literals z v) ≤ value_sum words s v
  value_letters s z (plain.One e) = let k = expr_letters s z e in omega (arith, k)
  value_letters s z (plain.Many vs) = let k = values_letters s z vs in omega (arith, k)

  values_letters : (s z : Scope) (vs : CValues) → letters (values_literals z vs) ≤ values_sum words s vs
  values_letters s z plain.NoValue = omega arith
  values_letters s z (plain.MoreValue v vs) = two (value_literals z v) (values_literals z vs) (value_sum words s v) (values_sum words s vs) (value_letters s z v) (values_letters s z vs)

pub first_letters : (s z : Scope) (o : Option CValue) → letters (first_literals z o) ≤ first_sum words s o
first_letters s z None = omega arith
first_letters s z (Some v) = value_letters s z v

-- ---- statements

mutual
  stmt_letters : (s z : Scope) (t : CStmt) → letters (stmt_literals z t) ≤ stmt_sum words s t
  stmt_letters s z (plain.Block ss) = let k = stmts_letters (entered s) (entered z) ss in omega (arith, k)
  stmt_letters s z (plain.Local d) = let k = first_letters (scope_or s (declared s false d)) (scope_behind z (plain.Local d)) d.first in omega (arith, k)
  stmt_letters s z (plain.Do_expr e) = let k = expr_letters s z e in omega (arith, k)
  stmt_letters s z plain.Empty = omega arith
  stmt_letters s z (plain.If e t) = let k = two (literals_in z e) (stmt_literals z t) (expr_sum words s e) (stmt_sum words s t) (expr_letters s z e) (stmt_letters s z t) in omega (arith, k)
  stmt_letters s z (plain.IfElse e t u) =
      let k = three (literals_in z e) (stmt_literals z t) (stmt_literals z u) (expr_sum words s e) (stmt_sum words s t) (stmt_sum words s u) (expr_letters s z e) (stmt_letters s z t) (stmt_letters s z u) in omega (arith, k)
  stmt_letters s z (plain.While e t) = let k = two (literals_in z e) (stmt_literals z t) (expr_sum words s e) (stmt_sum words s t) (expr_letters s z e) (stmt_letters s z t) in omega (arith, k)
  stmt_letters s z (plain.Do t e) = let k = two (stmt_literals z t) (literals_in z e) (stmt_sum words s t) (expr_sum words s e) (stmt_letters s z t) (expr_letters s z e) in omega (arith, k)
  stmt_letters s z (plain.For first test step t) =
      let inner : Scope = scope_behind_head s first in
      let other : Scope = scope_behind_head z first in
      let a = stmt_letters s z first in
      let b = stmt_letters inner other t in
      let k = three (maybe_literals other test) (maybe_literals other step) (stmt_literals other t) (maybe_sum words inner test) (maybe_sum words inner step) (stmt_sum words inner t) (maybe_letters inner other test) (maybe_letters inner other step) b in
      let l = letters_append (stmt_literals z first) (maybe_literals other test ++ (maybe_literals other step ++ stmt_literals other t)) in
      omega (arith, a, k, l)
  stmt_letters s z (plain.Return at e) = let k = maybe_letters s z e in omega (arith, k)
  stmt_letters s z (plain.Break at) = omega arith
  stmt_letters s z (plain.Continue at) = omega arith
  stmt_letters s z (plain.Switch e ps) = let k = two (literals_in z e) (parts_literals (entered z) ps) (expr_sum words s e) (parts_sum words (entered s) ps) (expr_letters s z e) (parts_letters (entered s) (entered z) ps) in omega (arith, k)

  stmts_letters : (s z : Scope) (ss : CStmts) → letters (stmts_literals z ss) ≤ stmts_sum words s ss
  stmts_letters s z plain.NoStmt = omega arith
  stmts_letters s z (plain.MoreStmt t ts) = two (stmt_literals z t) (stmts_literals (scope_behind z t) ts) (stmt_sum words s t) (stmts_sum words (scope_behind s t) ts) (stmt_letters s z t) (stmts_letters (scope_behind s t) (scope_behind z t) ts)

  part_letters : (s z : Scope) (p : CPart) → letters (part_literals z p) ≤ part_sum words s p
  part_letters s z (plain.Label at e) = omega arith
  part_letters s z (plain.Item t) = let k = stmt_letters s z t in omega (arith, k)

  parts_letters : (s z : Scope) (ps : CParts) → letters (parts_literals z ps) ≤ parts_sum words s ps
  parts_letters s z plain.NoPart = omega arith
  parts_letters s z (plain.MorePart p ps) = two (part_literals z p) (parts_literals (scope_behind_part z p) ps) (part_sum words s p) (parts_sum words (scope_behind_part s p) ps) (part_letters s z p) (parts_letters (scope_behind_part s p) (scope_behind_part z p) ps)

-- a body shares its scope with the parameters
pub body_letters : (body : CStmt) (s z : Scope) → letters (stmt_literals z body) ≤ body_sum words s body
body_letters (plain.Block ss) s z = let k = stmts_letters s (entered z) ss in omega (arith, k)
body_letters t s z = stmt_letters s z t
