-- What helper functions cost as externals, with the words of their locals.
use Rattle.std.proofs.Common.{◌≡◌, ℕ, ◌+◌, ◌*◌, ◌≤◌, List, [], ◌∷◌, Option, Some, None, Bool, true, false, refl, arith}
use Rattle.std.specs.Prelude.{◌&&◌, map, Ok, Err, if◌then◌else◌}
use Rattle.std.proofs.lemmas.Bool.{and_parts}
use Rattle.c_syntax.specs.Plain as plain
use Rattle.c_syntax.specs.Plain.{CExpr, CExprs, CTy, CValue, CDecl, CStmt, CStmts, CItem}
use Rattle.c_types.specs.Types as type
use Rattle.c_types.specs.Types.{CType, Tags}
use Rattle.c_types.specs.Refusals.{Judged, after}
use Rattle.c_types.specs.Scope.{Scope, contains, entered}
use Rattle.c_types.specs.Expressions.{names_function, written}
use Rattle.c_types.specs.Declarations.{declared, object_type, completed, scope_or}
use Rattle.c_types.specs.Units.{Signature, signature, body_scope, declared_parameter, parameter, parameter_scope_or, item_judged}
use Rattle.c_types.specs.Census.{expr_sum, exprs_sum, ty_sum, first_sum, of_type, object_sum, scope_behind, stmt_sum, stmts_sum, body_sum, parameters_sum, maybe_body_sum, item_sum, items_sum}
use Rattle.c_types.specs.Limits.{initialised_words}
use Rattle.c_helpers.specs.Functions.{Helper, functions, unit_name, refill_name, piece_name}
use Rattle.c_helpers.specs.Laws.{each, total}
use Rattle.c_helpers.specs.Fewer.{function_of}
use Rattle.c_helpers.specs.Simple.{kept, locals_in, locals_in_all}
use Rattle.c_helpers.specs.Cost.{item_cost, items_cost}
use Rattle.c_fewer_items.specs.FewerHeadsLaws.{firsts}
use Rattle.c_compiled.specs.HelperCostsLaws.{helper_room, words}

-- ---- trees without string literals and without arrays

abbrev is_bare : CTy → Bool
is_bare (plain.Pointer t) = is_bare t
is_bare (plain.Array t) = false
is_bare (plain.ArrayOf t e) = false
is_bare (plain.Func t ts) = false
is_bare t = true

abbrev mutual
  has_no_text : CExpr → Bool
  has_no_text (plain.Number at n unsigned) = true
  has_no_text (plain.Var at name) = true
  has_no_text (plain.Unary at op a) = has_no_text a
  has_no_text (plain.Binary at op a b) = has_no_text a && has_no_text b
  has_no_text (plain.Assign at op a b) = has_no_text a && has_no_text b
  has_no_text (plain.Cast at t a) = is_bare t && has_no_text a
  has_no_text (plain.Call at f es) = has_no_text f && have_no_text es
  has_no_text e = false

  have_no_text : CExprs → Bool
  have_no_text plain.NoExpr = true
  have_no_text (plain.MoreExpr e es) = has_no_text e && have_no_text es

-- a word
abbrev is_word : CTy → Bool
is_word plain.Int = true
is_word plain.Unsigned = true
is_word (plain.Pointer plain.Void) = true
is_word t = false

abbrev is_one : Option CValue → Bool
is_one None = true
is_one (Some (plain.One e)) = has_no_text e
is_one (Some (plain.Many vs)) = false

abbrev mutual
  is_lean : CStmt → Bool
  is_lean (plain.Block ss) = are_lean ss
  is_lean (plain.Local d) = is_word d.ty && is_one d.first
  is_lean (plain.Do_expr e) = has_no_text e
  is_lean (plain.If e t) = has_no_text e && is_lean t
  is_lean (plain.While e t) = has_no_text e && is_lean t
  is_lean (plain.Return at (Some e)) = has_no_text e
  is_lean t = false

  are_lean : CStmts → Bool
  are_lean plain.NoStmt = true
  are_lean (plain.MoreStmt t ts) = is_lean t && are_lean ts

abbrev bare_parameter : CDecl → Bool
bare_parameter d = is_bare d.ty && is_one d.first

abbrev is_lean_helper : Helper → Bool
is_lean_helper h = is_bare h.result && each bare_parameter h.params && is_lean h.body

firsts_lean : each is_lean_helper firsts ≡ true
firsts_lean = refl

-- ---- their words

none : (x y : ℕ) → x ≡ 0 → y ≡ 0 → x + y ≡ 0
none x y e f = omega (arith, e, f)

type_words : (s : Scope) (t : CTy) → is_bare t ≡ true → ty_sum words s t ≡ 0
type_words s plain.Void h = refl
type_words s plain.Int h = refl
type_words s plain.Unsigned h = refl
type_words s plain.Char h = refl
type_words s plain.UChar h = refl
type_words s (plain.Struct name) h = refl
type_words s (plain.Pointer t) h = let e = type_words s t h in omega (arith, e)
type_words s (plain.Array t) h = absurd (cc h)
type_words s (plain.ArrayOf t e) h = absurd (cc h)
type_words s (plain.Func t ts) h = absurd (cc h)

called : (b : Bool) (x : ℕ) → x ≡ 0 → (if b then 0 else x) ≡ 0
called true x e = refl
called false x e = e

mutual
  expr_words : (s : Scope) (e : CExpr) → has_no_text e ≡ true → expr_sum words s e ≡ 0
  expr_words s (plain.Number at n unsigned) h = refl
  expr_words s (plain.Var at name) h = refl
  expr_words s (plain.Unary at op a) h = let e = expr_words s a h in omega (arith, e)
  expr_words s (plain.Binary at op a b) h = let p = and_parts (has_no_text a) (has_no_text b) h in let e = expr_words s a p.0 in let f = expr_words s b p.1 in omega (arith, e, f)
  expr_words s (plain.Assign at op a b) h = let p = and_parts (has_no_text a) (has_no_text b) h in let e = expr_words s a p.0 in let f = expr_words s b p.1 in omega (arith, e, f)
  expr_words s (plain.Cast at t a) h = let p = and_parts (is_bare t) (has_no_text a) h in let e = type_words s t p.0 in let f = expr_words s a p.1 in omega (arith, e, f)
  expr_words s (plain.Call at f es) h =
      let p = and_parts (has_no_text f) (have_no_text es) h in
      let e = called (names_function s f) (expr_sum words s f) (expr_words s f p.0) in
      let g = exprs_words s es p.1 in
      omega (arith, e, g)
  expr_words s (plain.Str at text) h = absurd (cc h)
  expr_words s (plain.Null at) h = absurd (cc h)
  expr_words s (plain.Step at op a) h = absurd (cc h)
  expr_words s (plain.Cond at a b c) h = absurd (cc h)
  expr_words s (plain.Comma at a b) h = absurd (cc h)
  expr_words s (plain.SizeTy at t) h = absurd (cc h)
  expr_words s (plain.SizeOf at a) h = absurd (cc h)
  expr_words s (plain.Index at a b) h = absurd (cc h)
  expr_words s (plain.Member at a m) h = absurd (cc h)
  expr_words s (plain.Arrow at a m) h = absurd (cc h)

  exprs_words : (s : Scope) (es : CExprs) → have_no_text es ≡ true → exprs_sum words s es ≡ 0
  exprs_words s plain.NoExpr h = refl
  exprs_words s (plain.MoreExpr e es) h = let p = and_parts (has_no_text e) (have_no_text es) h in none (expr_sum words s e) (exprs_sum words s es) (expr_words s e p.0) (exprs_words s es p.1)

first_words : (s : Scope) (o : Option CValue) → is_one o ≡ true → first_sum words s o ≡ 0
first_words s None h = refl
first_words s (Some (plain.One e)) h = let f = expr_words s e h in omega (arith, f)
first_words s (Some (plain.Many vs)) h = absurd (cc h)

-- a word at most
one_word : (tags : Tags) (t : CType) (o : Option CValue) → type.words_of tags t ≤ 1 → 0 + initialised_words tags t o ≤ 1
one_word tags t None h = omega arith
one_word tags t (Some v) h = omega (arith, h)

word_bare : (t : CTy) → is_word t ≡ true → is_bare t ≡ true
word_bare plain.Int h = refl
word_bare plain.Unsigned h = refl
word_bare (plain.Pointer plain.Void) h = refl
word_bare t h = absurd (cc h)

own_words : (s : Scope) (at : ℕ) (t : CTy) (o : Option CValue) → is_word t ≡ true → of_type (λ u. 0 + initialised_words s.tags u o) (after (written s at t) (λ u. object_type s at (completed u o))) ≤ 1
own_words s at plain.Int o h = one_word s.tags type.Int o (omega arith)
own_words s at plain.Unsigned o h = one_word s.tags type.Unsigned o (omega arith)
own_words s at (plain.Pointer plain.Void) o h = one_word s.tags (type.Pointer type.Void) o (omega arith)
own_words s at t o h = absurd (cc h)

object_words : (s : Scope) (d : CDecl) → is_word d.ty ≡ true → is_one d.first ≡ true → object_sum words s d ≤ 1
object_words s d h k =
    let e = type_words s d.ty (word_bare d.ty h) in
    let f = first_words (scope_or s (declared s false d)) d.first k in
    let g = own_words s d.pos d.ty d.first h in
    omega (arith, e, f, g)

mutual
  stmt_words : (s : Scope) (t : CStmt) → is_lean t ≡ true → stmt_sum words s t ≤ locals_in t
  stmt_words s (plain.Block ss) h = let e = stmts_words (entered s) ss h in omega (arith, e)
  stmt_words s (plain.Local d) h = let p = and_parts (is_word d.ty) (is_one d.first) h in let e = object_words s d p.0 p.1 in omega (arith, e)
  stmt_words s (plain.Do_expr x) h = let e = expr_words s x h in omega (arith, e)
  stmt_words s (plain.If x t) h = let p = and_parts (has_no_text x) (is_lean t) h in let e = expr_words s x p.0 in let f = stmt_words s t p.1 in omega (arith, e, f)
  stmt_words s (plain.While x t) h = let p = and_parts (has_no_text x) (is_lean t) h in let e = expr_words s x p.0 in let f = stmt_words s t p.1 in omega (arith, e, f)
  stmt_words s (plain.Return at (Some x)) h = let e = expr_words s x h in omega (arith, e)
  stmt_words s (plain.Return at None) h = absurd (cc h)
  stmt_words s plain.Empty h = absurd (cc h)
  stmt_words s (plain.IfElse x t u) h = absurd (cc h)
  stmt_words s (plain.Do t x) h = absurd (cc h)
  stmt_words s (plain.For first test step t) h = absurd (cc h)
  stmt_words s (plain.Break at) h = absurd (cc h)
  stmt_words s (plain.Continue at) h = absurd (cc h)
  stmt_words s (plain.Switch x ps) h = absurd (cc h)

  stmts_words : (s : Scope) (ss : CStmts) → are_lean ss ≡ true → stmts_sum words s ss ≤ locals_in_all ss
  stmts_words s plain.NoStmt h = omega arith
  stmts_words s (plain.MoreStmt t ts) h = let p = and_parts (is_lean t) (are_lean ts) h in let e = stmt_words s t p.0 in let f = stmts_words (scope_behind s t) ts p.1 in omega (arith, e, f)

body_words : (s : Scope) (t : CStmt) → is_lean t ≡ true → body_sum words s t ≤ locals_in t
body_words s (plain.Block ss) h = let e = stmts_words s ss h in omega (arith, e)
body_words s t h = stmt_words s t h

nothing_of : (r : Judged CType) → of_type (λ t. 0) r ≡ 0
nothing_of (Ok t) = refl
nothing_of (Err e) = refl

parameter_words : (s : Scope) (ds : List CDecl) → each bare_parameter ds ≡ true → parameters_sum words s ds ≡ 0
parameter_words s [] h = refl
parameter_words s (d ∷ ds) h =
    let p = and_parts (bare_parameter d) (each bare_parameter ds) h in
    let q = and_parts (is_bare d.ty) (is_one d.first) p.0 in
    let e = type_words s d.ty q.0 in
    let f = first_words s d.first q.1 in
    let g = nothing_of (declared_parameter s d) in
    let k = parameter_words (parameter_scope_or s (parameter s d)) ds p.1 in
    omega (arith, e, f, g, k)

-- ---- externals

module _ (names : List (List ℕ)) where
  with_body : (s : Scope) (h : Helper) (r : Judged Signature) → is_lean h.body ≡ true → maybe_body_sum words s h.name (Some h.body) r ≤ locals_in h.body
  with_body s h (Ok f) l = body_words (body_scope s h.name f) h.body l
  with_body s h (Err e) l = omega arith

  item_fits : (s : Scope) (h : Helper) → is_lean_helper h ≡ true → item_cost (kept names (function_of h)) + 8 * item_sum words s (kept names (function_of h)) ≤ (if contains names h.name then helper_room h else 0)
  item_fits s h l =
      let p = and_parts (is_bare h.result && each bare_parameter h.params) (is_lean h.body) l in
      let q = and_parts (is_bare h.result) (each bare_parameter h.params) p.0 in
      go (contains names h.name) (type_words s h.result q.0) (nothing_of (written s 0 h.result)) (parameter_words (entered s) h.params q.1) (with_body s h (signature s 0 h.result h.params) p.1)
    where
      go : (b : Bool) → ty_sum words s h.result ≡ 0 → of_type (λ t. 0) (written s 0 h.result) ≡ 0 → parameters_sum words (entered s) h.params ≡ 0 → maybe_body_sum words s h.name (Some h.body) (signature s 0 h.result h.params) ≤ locals_in h.body
          → item_cost (plain.Function h.name 0 h.result h.params (if b then Some h.body else None)) + 8 * item_sum words s (plain.Function h.name 0 h.result h.params (if b then Some h.body else None)) ≤ (if b then helper_room h else 0)
      go true e f g k = omega (arith, e, f, g, k)
      go false e f g k = omega (arith, e, f, g)

  pub items_fit : (s : Scope) (hs : List Helper) → each is_lean_helper hs ≡ true
      → items_cost (map (kept names) (map function_of hs)) + 8 * items_sum words s (map (kept names) (map function_of hs)) ≤ total (λ h. if contains names h.name then helper_room h else 0) hs
  items_fit s [] l = omega arith
  items_fit s (h ∷ hs) l =
      let p = and_parts (is_lean_helper h) (each is_lean_helper hs) l in
      let e = item_fits s h p.0 in
      let f = items_fit (scope_or s (item_judged s (kept names (function_of h)))) hs p.1 in
      omega (arith, e, f)

  -- one that is told of costs 16 at most
  sixteen : (b : Bool) → (if b then 16 else 0) ≤ 16
  sixteen true = omega arith
  sixteen false = omega arith

  fewer_than : (x y z w t : ℕ) → x ≤ y + (z + (w + t)) → y ≤ 16 → z ≤ 16 → w ≤ 16 → x ≤ t + 48
  fewer_than x y z w t e f g h = omega (arith, e, f, g, h)

  pub firsts_fit : (s : Scope) → items_cost (map (kept names) (map function_of firsts)) + 8 * items_sum words s (map (kept names) (map function_of firsts)) ≤ total (λ h. if contains names h.name then helper_room h else 0) functions + 48
  firsts_fit s =
      fewer_than (items_cost (map (kept names) (map function_of firsts)) + 8 * items_sum words s (map (kept names) (map function_of firsts)))
      (if contains names unit_name then 16 else 0) (if contains names refill_name then 16 else 0) (if contains names piece_name then 16 else 0) (total (λ h. if contains names h.name then helper_room h else 0) functions)
      (items_fit s firsts firsts_lean) (sixteen (contains names unit_name)) (sixteen (contains names refill_name)) (sixteen (contains names piece_name))
