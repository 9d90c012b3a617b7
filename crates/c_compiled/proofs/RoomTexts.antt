-- What the externals of a text cost with fewer operators, and the words that they have.
use Rattle.std.proofs.Common.{◌≡◌, ℕ, ◌+◌, ◌*◌, ◌≤◌, Bool, true, false, List, [], ◌∷◌, map, Option, Some, None, refl, sym, ap, ◌∙◌, subst, arith}
use Rattle.std.specs.Prelude.{Ok, if◌then◌else◌}
use Rattle.std.specs.Option.{option_map}
use Rattle.c_syntax.specs.Plain as plain
use Rattle.c_syntax.specs.Plain.{CExpr, CExprs, CTy, CTys, CValue, CValues, CDecl, CStmt, CItem}
use Rattle.c_syntax.specs.declared.tree.UnOp.TheVariants as unary
use Rattle.c_types.specs.Types.{CType, Unfinished}
use Rattle.c_types.specs.Refusals.{Judged}
use Rattle.c_types.specs.Scope.{Scope, entered, contains}
use Rattle.c_types.specs.Expressions.{names_function, written}
use Rattle.c_types.specs.Declarations.{elements_given, declared_type, declared_object, declared, scope_or, with_tag}
use Rattle.c_types.specs.Units.{Signature, signature, body_scope, around_body, declared_parameter, parameter, parameter_scope_or, item_judged, all_items}
use Rattle.c_types.specs.Census.{Tally, expr_sum, exprs_sum, ty_sum, tys_sum, value_sum, values_sum, first_sum, of_type, decl_sum, body_sum, parameters_sum, members_sum, maybe_body_sum, item_sum, items_sum}
use Rattle.c_types.specs.Limits.{initialised_words}
use Rattle.c_helpers.specs.Cost.{stmt_cost, item_cost, items_cost}
use Rattle.c_helpers.specs.Names.{stmt_names}
use Rattle.c_helpers.specs.Fewer.{fewer_in_type, static_tree, with_values, with_all_values, fewer_in_declaration, fewer_in_body, fewer_in_parameters, fewer_in_function, fewer_in_item, fewer_in_items, names_in_bodies}
use Rattle.c_helpers.specs.Simple.{kept}
use Rattle.c_fewer_types.proofs.FewerTypedRules.{after_is, both_is}
use Rattle.c_fewer_items.specs.Files.{FilesStand}
use Rattle.c_fewer_items.specs.Kept.{EachIsNamed, ItemFits, ItemsFit}
use Rattle.c_fewer_items.proofs.Heads.{within as inside, Signs, signature_too}
use Rattle.c_fewer_items.proofs.Items.{item_goes}
use Rattle.c_rates.proofs.Scopes.{typed_there}
use Rattle.c_rates.proofs.Statements.{body_sound}
use Rattle.c_fewer_names.specs.ProgramBodiesLaws.{BodyIsTyped, BodiesAreTyped}
use Rattle.c_compiled.specs.Words.{words, format_words}
use Rattle.c_compiled.proofs.RoomTrees.{both_words, no_word, fewer_type_words}
use Rattle.c_compiled.proofs.RoomStatements.{object_words, words_stay_few}
use Rattle.c_compiled.proofs.RoomFormats.{no_type}

abbrev pub nodes : Tally
nodes = record { expr = λ s e. 1; node = 1; ty = λ tags t. 0; object = λ tags t v. 0 }

-- ---- cost

function_costs : (names : List (List ℕ)) (s : Scope) (name : List ℕ) (at : ℕ) (result : CTy) (params : List CDecl) (body : CStmt) → BodyIsTyped s name at result params body
    → item_cost (kept names (fewer_in_item s (plain.Function name at result params (Some body)))) ≤ 30 * item_sum nodes s (plain.Function name at result params (Some body))
function_costs names s name at result params body t =
    let inner : Scope = body_scope s name t.head in
    let b = body_sound nodes (λ s e. omega arith) (omega arith) body inner (around_body t.head) t.behind t.names t.short t.typed in
    let cost : stmt_cost (fewer_in_function s name (signature s at result params) body) ≤ 30 * maybe_body_sum nodes s name (Some body) (signature s at result params) =
    subst (λ q. stmt_cost (fewer_in_function s name q body) ≤ 30 * maybe_body_sum nodes s name (Some body) q) (sym t.head_is) b.1 in
    go (contains names name) cost
  where
    go : (b : Bool) → stmt_cost (fewer_in_function s name (signature s at result params) body) ≤ 30 * maybe_body_sum nodes s name (Some body) (signature s at result params)
        → item_cost (plain.Function name at (fewer_in_type s result) (fewer_in_parameters (entered s) params) (if b then Some (fewer_in_function s name (signature s at result params) body) else None)) ≤ 30 * item_sum nodes s (plain.Function name at result params (Some body))
    go true k = omega (arith, k)
    go false k = omega arith

pub text_costs : (names : List (List ℕ)) (items : List CItem) (s : Scope) → BodiesAreTyped s items → items_cost (map (kept names) (fewer_in_items s items)) ≤ 30 * items_sum nodes s items
text_costs names [] s h = omega arith
text_costs names (plain.StructItem tag ∷ items) s h = let f = text_costs names items (scope_or s (item_judged s (plain.StructItem tag))) h.2 in omega (arith, f)
text_costs names (plain.Object d ∷ items) s h = let f = text_costs names items (scope_or s (item_judged s (plain.Object d))) h.2 in omega (arith, f)
text_costs names (plain.Function name at result params None ∷ items) s h =
    let item : CItem = plain.Function name at result params None in
    let f = text_costs names items (scope_or s (item_judged s item)) h.2 in let g = alone (contains names name) in
    omega (arith, f, g)
  where
    alone : (b : Bool) → item_cost (plain.Function name at (fewer_in_type s result) (fewer_in_parameters (entered s) params) (if b then None else None)) ≡ 0
    alone true = refl
    alone false = refl
text_costs names (plain.Function name at result params (Some body) ∷ items) s h =
    let item : CItem = plain.Function name at result params (Some body) in
    let f = text_costs names items (scope_or s (item_judged s item)) h.2 in let g = function_costs names s name at result params body h.1 in
    omega (arith, f, g)

-- ---- words in any scope

abbrev but_name : Bool → ℕ → ℕ
but_name b n = if b then 0 else n

module _ (a b : Scope) where
  called_words : (f : CExpr) → expr_sum words a f ≤ expr_sum words b f → but_name (names_function a f) (expr_sum words a f) ≤ but_name (names_function b f) (expr_sum words b f)
  called_words (plain.Var at name) h = let k = no_word (names_function a (plain.Var at name)) in omega (arith, k)
  called_words f h = h

  mutual
    expr_words : (e : CExpr) → expr_sum words a e ≤ expr_sum words b e
    expr_words (plain.Number at n unsigned) = omega arith
    expr_words (plain.Str at text) = omega arith
    expr_words (plain.Null at) = omega arith
    expr_words (plain.Var at name) = omega arith
    expr_words (plain.Unary at op x) = let f = expr_words x in omega (arith, f)
    expr_words (plain.Step at op x) = let f = expr_words x in omega (arith, f)
    expr_words (plain.Binary at op x y) = let f = expr_words x in let g = expr_words y in omega (arith, f, g)
    expr_words (plain.Assign at op x y) = let f = expr_words x in let g = expr_words y in omega (arith, f, g)
    expr_words (plain.Cond at x y v) = let f = expr_words x in let g = expr_words y in let h = expr_words v in omega (arith, f, g, h)
    expr_words (plain.Comma at x y) = let f = expr_words x in let g = expr_words y in omega (arith, f, g)
    expr_words (plain.Cast at t x) = let f = ty_words t in let g = expr_words x in omega (arith, f, g)
    expr_words (plain.SizeTy at t) = let f = ty_words t in omega (arith, f)
    expr_words (plain.SizeOf at x) = let f = expr_words x in omega (arith, f)
    expr_words (plain.Index at x y) = let f = expr_words x in let g = expr_words y in omega (arith, f, g)
    expr_words (plain.Call at f es) = let g = called_words f (expr_words f) in let h = exprs_words es in omega (arith, g, h)
    expr_words (plain.Member at x m) = let f = expr_words x in omega (arith, f)
    expr_words (plain.Arrow at x m) = let f = expr_words x in omega (arith, f)

    exprs_words : (es : CExprs) → exprs_sum words a es ≤ exprs_sum words b es
    exprs_words plain.NoExpr = omega arith
    exprs_words (plain.MoreExpr e es) = let f = expr_words e in let g = exprs_words es in omega (arith, f, g)

    ty_words : (t : CTy) → ty_sum words a t ≤ ty_sum words b t
    ty_words plain.Void = omega arith
    ty_words plain.Int = omega arith
    ty_words plain.Unsigned = omega arith
    ty_words plain.Char = omega arith
    ty_words plain.UChar = omega arith
    ty_words (plain.Struct tag) = omega arith
    ty_words (plain.Pointer t) = let f = ty_words t in omega (arith, f)
    ty_words (plain.Array t) = let f = ty_words t in omega (arith, f)
    ty_words (plain.ArrayOf t n) = let f = ty_words t in let g = expr_words n in omega (arith, f, g)
    ty_words (plain.Func t ts) = let f = ty_words t in let g = tys_words ts in omega (arith, f, g)

    tys_words : (ts : CTys) → tys_sum words a ts ≤ tys_sum words b ts
    tys_words plain.NoTy = omega arith
    tys_words (plain.MoreTy t ts) = let f = ty_words t in let g = tys_words ts in omega (arith, f, g)

  -- numbers in place of constant expressions have none
  static_words : (s : Scope) (e : CExpr) → expr_sum words a (static_tree s e) ≤ expr_sum words b e
  static_words s (plain.Str at text) = omega arith
  static_words s (plain.Null at) = omega arith
  static_words s (plain.Var at name) = omega arith
  static_words s (plain.Unary at unary.Address x) = let f = expr_words x in omega (arith, f)
  static_words s (plain.Unary at op x) = omega arith
  static_words s e = omega arith

  module _ (f : CExpr → CExpr) (fewer : (e : CExpr) → expr_sum words a (f e) ≤ expr_sum words b e) where
    mutual
      value_words : (v : CValue) → value_sum words a (with_values f v) ≤ value_sum words b v
      value_words (plain.One e) = let k = fewer e in omega (arith, k)
      value_words (plain.Many vs) = let k = values_words vs in omega (arith, k)

      values_words : (vs : CValues) → values_sum words a (with_all_values f vs) ≤ values_sum words b vs
      values_words plain.NoValue = omega arith
      values_words (plain.MoreValue v vs) = let k = value_words v in let l = values_words vs in omega (arith, k, l)

    first_words : (o : Option CValue) → first_sum words a (option_map (with_values f) o) ≤ first_sum words b o
    first_words None = omega arith
    first_words (Some v) = value_words v

  -- a member or a parameter
  decl_words : (s : Scope) (d : CDecl) (r q : Judged CType) → decl_sum words a (fewer_in_declaration s (λ e. e) d) r ≤ decl_sum words b d q
  decl_words s d r q = let f = fewer_type_words a s d.ty in let g = first_words (λ e. e) expr_words d.first in let h = no_type r in omega (arith, f, g, h)

members_words : (a b s : Scope) (ms : List CDecl) → members_sum words a (map (fewer_in_declaration s (λ e. e)) ms) ≤ members_sum words b ms
members_words a b s [] = omega arith
members_words a b s (m ∷ ms) = let f = decl_words a b s m (written a m.pos (fewer_in_type s m.ty)) (written b m.pos m.ty) in let g = members_words a b s ms in omega (arith, f, g)

parameters_words : (ps : List CDecl) (a b s : Scope) → parameters_sum words a (fewer_in_parameters s ps) ≤ parameters_sum words b ps
parameters_words [] a b s = omega arith
parameters_words (p ∷ ps) a b s =
    let p' : CDecl = fewer_in_declaration s (λ e. e) p in
    let f = decl_words a b s p (declared_parameter a p') (declared_parameter b p) in
    let g = parameters_words ps (parameter_scope_or a (parameter a p')) (parameter_scope_or b (parameter b p)) (parameter_scope_or s (parameter s p)) in
    omega (arith, f, g)

-- ---- externals

struct_words : (s s' : Scope) (tag : plain.CTag) → item_sum words s' (fewer_in_item s (plain.StructItem tag)) ≤ item_sum words s (plain.StructItem tag)
struct_words s s' tag = let f = members_words (with_tag s' tag.name Unfinished) (with_tag s tag.name Unfinished) (with_tag s tag.name Unfinished) tag.members in omega (arith, f)

static_given : (s : Scope) (e : CExpr) (t : CType) → elements_given t (plain.One (static_tree s e)) ≡ elements_given t (plain.One e)
static_given s (plain.Str at text) t = refl
static_given s (plain.Unary at unary.Address y) t = refl
static_given s (plain.Unary at op y) t = refl
static_given s e t = refl

object_item_words : (s s' : Scope) (d : CDecl) (r : Scope) → s.tags ≡ s'.tags → declared s true d ≡ Ok r → item_sum words s' (fewer_in_item s (plain.Object d)) ≤ item_sum words s (plain.Object d)
object_item_words s s' d r tags e =
    let k = after_is (declared_type s d) (λ t. declared_object s true d t) r e in
    let f = fewer_type_words s' s d.ty in
    let g = first_words (scope_or s' (declared s' false changed)) (scope_or s (declared s false d)) change (static_words (scope_or s' (declared s' false changed)) (scope_or s (declared s false d)) (scope_or s (item_judged s (plain.Object d)))) d.first in
    let h = counted k.0 k.1 in
    omega (arith, f, g, h)
  where
    change : CExpr → CExpr
    change = static_tree (scope_or s (item_judged s (plain.Object d)))

    changed : CDecl
    changed = fewer_in_declaration s change d

    counted : (t : CType) → declared_type s d ≡ Ok t → of_type (λ t. 0 + initialised_words s'.tags t changed.first) (declared_type s' changed) ≡ of_type (λ t. 0 + initialised_words s.tags t d.first) (declared_type s d)
    counted t k =
        ap (λ q. of_type (λ t. 0 + initialised_words s'.tags t changed.first) q) (typed_there s s' d change t (λ e u. static_given (scope_or s (item_judged s (plain.Object d))) e u) tags k)
        ∙ (ap (λ n. 0 + n) (object_words s s' change t d.first (sym tags)) ∙ sym (ap (λ q. of_type (λ t. 0 + initialised_words s.tags t d.first) q) k))

-- of a function without a body
told_words : (b : Bool) (s s' : Scope) (name : List ℕ) (at : ℕ) (result : CTy) (params : List CDecl)
    → item_sum words s' (plain.Function name at (fewer_in_type s result) (fewer_in_parameters (entered s) params) (if b then None else None)) ≤ item_sum words s (plain.Function name at result params None)
told_words b s s' name at result params =
    let f = fewer_type_words s' s result in let g = no_type (written s' at (fewer_in_type s result)) in let h = parameters_words params (entered s') (entered s) (entered s) in
    let i = body b in omega (arith, f, g, h, i)
  where
    body : (b : Bool) → maybe_body_sum words s' name (if b then None else None) (signature s' at (fewer_in_type s result) (fewer_in_parameters (entered s) params)) ≡ 0
    body true = refl
    body false = refl

function_words : (b : Bool) (s s' : Scope) (name : List ℕ) (at : ℕ) (result : CTy) (params : List CDecl) (body : CStmt) → s.tags ≡ s'.tags → EachIsNamed params → BodyIsTyped s name at result params body
    → item_sum words s' (plain.Function name at (fewer_in_type s result) (fewer_in_parameters (entered s) params) (if b then Some (fewer_in_function s name (signature s at result params) body) else None))
    + format_words (stmt_names (fewer_in_function s name (signature s at result params) body)) ≤ item_sum words s (plain.Function name at result params (Some body))
function_words b s s' name at result params body tags n t =
    let f = fewer_type_words s' s result in let g = no_type (written s' at (fewer_in_type s result)) in let h = parameters_words params (entered s') (entered s) (entered s) in
    let i = subst (λ q. Within b q there) (sym t.head_is) (subst (λ q. Within b (Ok t.head) q) (sym signs.is) (within b)) in omega (arith, f, g, h, i)
  where
    there : Judged Signature
    there = signature s' at (fewer_in_type s result) (fewer_in_parameters (entered s) params)

    signs : Signs s s' t.head there
    signs = signature_too s s' at result params t.head tags n t.head_is

    Within : Bool → Judged Signature → Judged Signature → Type 0
    Within b q r = maybe_body_sum words s' name (if b then Some (fewer_in_function s name q body) else None) r + format_words (stmt_names (fewer_in_function s name q body)) ≤ maybe_body_sum words s name (Some body) q

    few : (z : Scope) → z.tags ≡ (body_scope s name t.head).tags → body_sum words z (fewer_in_body (body_scope s name t.head) body) + format_words (stmt_names (fewer_in_body (body_scope s name t.head) body)) ≤ body_sum words (body_scope s name t.head) body
    few z same = words_stay_few (body_scope s name t.head) z (around_body t.head) body t.behind same t.names t.short t.typed

    within : (b : Bool) → Within b (Ok t.head) (Ok (record { result = t.head.result; parameters = record { types = t.head.parameters.types; scope = inside s' signs.block } }))
    within true = few _ (sym tags ∙ sym (ap (λ (z : Scope). z.tags) signs.there))
    within false = let k = few (body_scope s name t.head) refl in omega (arith, k)

module _ (test : List ℕ → Bool) (names : List (List ℕ)) where
  abbrev Behind : Scope → Scope → CItem → Type 0
  Behind s s' item = FilesStand test (scope_or s (item_judged s item)) (scope_or s' (item_judged s' (kept names (fewer_in_item s item))))

  behind : (s s' : Scope) (item : CItem) (r : Scope) → FilesStand test s s' → ItemFits test names s item → item_judged s item ≡ Ok r → Behind s s' item
  behind s s' item r a h e =
      let m = item_goes test names s s' item r a h e in
      subst (λ q. FilesStand test (scope_or s q) (scope_or s' (item_judged s' (kept names (fewer_in_item s item))))) (sym e) (subst (λ q. FilesStand test r (scope_or s' q)) (sym m.is) m.stand)

  abbrev last : Scope → Scope → Judged Scope
  last a b = Ok b

  -- with the formats that bodies name
  pub text_words : (items : List CItem) (s s' r : Scope) → FilesStand test s s' → ItemsFit test names s items → BodiesAreTyped s items → all_items s items ≡ Ok r
      → items_sum words s' (map (kept names) (fewer_in_items s items)) + format_words (names_in_bodies (fewer_in_items s items)) ≤ items_sum words s items
  text_words [] s s' r a h t e = omega arith
  text_words (plain.StructItem tag ∷ items) s s' r a h t e =
      let item : CItem = plain.StructItem tag in
      let l = both_is (item_judged s item) (all_items (scope_or s (item_judged s item)) items) last r e in
      let f = struct_words s s' tag in
      let g = text_words items (scope_or s (item_judged s item)) (scope_or s' (item_judged s' (kept names (fewer_in_item s item)))) l.1.0 (behind s s' item l.0 a h.0 l.1.1) h.1 t.2 l.1.2 in
      omega (arith, f, g)
  text_words (plain.Object d ∷ items) s s' r a h t e =
      let item : CItem = plain.Object d in
      let l = both_is (item_judged s item) (all_items (scope_or s (item_judged s item)) items) last r e in
      let f = object_item_words s s' d l.0 a.tags l.1.1 in
      let g = text_words items (scope_or s (item_judged s item)) (scope_or s' (item_judged s' (kept names (fewer_in_item s item)))) l.1.0 (behind s s' item l.0 a h.0 l.1.1) h.1 t.2 l.1.2 in
      omega (arith, f, g)
  text_words (plain.Function name at result params None ∷ items) s s' r a h t e =
      let item : CItem = plain.Function name at result params None in
      let l = both_is (item_judged s item) (all_items (scope_or s (item_judged s item)) items) last r e in
      let f = told_words (contains names name) s s' name at result params in
      let g = text_words items (scope_or s (item_judged s item)) (scope_or s' (item_judged s' (kept names (fewer_in_item s item)))) l.1.0 (behind s s' item l.0 a h.0 l.1.1) h.1 t.2 l.1.2 in
      omega (arith, f, g)
  text_words (plain.Function name at result params (Some body) ∷ items) s s' r a h t e =
      let item : CItem = plain.Function name at result params (Some body) in
      let l = both_is (item_judged s item) (all_items (scope_or s (item_judged s item)) items) last r e in
      let f = function_words (contains names name) s s' name at result params body a.tags h.0.1 t.1 in
      let g = text_words items (scope_or s (item_judged s item)) (scope_or s' (item_judged s' (kept names (fewer_in_item s item)))) l.1.0 (behind s s' item l.0 a h.0 l.1.1) h.1 t.2 l.1.2 in
      let b = both_words (stmt_names (fewer_in_function s name (signature s at result params) body)) (names_in_bodies (fewer_in_items (scope_or s (item_judged s item)) items)) in
      omega (arith, f, g, b)
