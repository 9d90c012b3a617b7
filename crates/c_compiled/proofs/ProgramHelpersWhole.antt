-- The formats of a program are no longer than it weighs.
use Rattle.std.proofs.Common.{◌≡◌, ℕ, ◌≤◌, List, [], ◌∷◌, length, map, drop, Some, None, Bool, true, false, refl, sym, subst, cond, arith}
use Rattle.std.specs.Prelude.{not, ◌||◌}
use Rattle.std.specs.List.{filter}
use Rattle.std.specs.Str.{bytes_eq}
use Rattle.std.proofs.lemmas.Slice.Eq.{bytes_eq-Decides}
use Rattle.c_syntax.specs.Plain as plain
use Rattle.c_syntax.specs.Plain.{CTy, CDecl, CStmt, CItem}
use Rattle.c_types.specs.Scope.{Scope, contains}
use Rattle.c_types.specs.Declarations.{scope_or}
use Rattle.c_types.specs.Census.{maybe_body_sum, items_sum}
use Rattle.c_types.specs.Limits.{weight_of}
use Rattle.c_types.specs.Units.{signature, around_body, body_scope, item_judged, start_scope}
use Rattle.c_limited.proofs.Sums.{weight}
use Rattle.c_helpers.specs.Meanings.{is_format}
use Rattle.c_helpers.specs.Names.{stmt_names}
use Rattle.c_helpers.specs.Fewer.{fewer_in_function, fewer_in_items, distinct, names_in_bodies}
use Rattle.c_worlds.specs.Named.{Each}
use Rattle.c_fewer_names.proofs.Expressions.{each_both}
use Rattle.c_fewer_names.specs.ProgramBodiesLaws.{BodyIsTyped, BodiesAreTyped}
use Rattle.c_fewer_names.proofs.Bodies.{bodies_of_programs_are_typed}
use Rattle.c_compiled.specs.Weights.{FormatsAreInWeight}
use Rattle.c_compiled.proofs.Sums.{body_fits}
use Rattle.c_compiled.proofs.FormatWeightsNames.{K, body_known}

module _ (w : ℕ) where
  body_names : (s : Scope) (name : List ℕ) (at : ℕ) (result : CTy) (params : List CDecl) (body : CStmt) → BodyIsTyped s name at result params body → maybe_body_sum weight s name (Some body) (signature s at result params) ≤ w
      → Each (K w) (stmt_names (fewer_in_function s name (signature s at result params) body))
  body_names s name at result params body h few =
      let there = subst (λ q. maybe_body_sum weight s name (Some body) q ≤ w) h.head_is few in
      subst (λ q. Each (K w) (stmt_names (fewer_in_function s name q body))) (sym h.head_is)
      (body_known w body (body_scope s name h.head) (around_body h.head) h.behind h.names (body_fits w (body_scope s name h.head) body h.short there) h.typed)

  items_names : (items : List CItem) (s : Scope) → BodiesAreTyped s items → items_sum weight s items ≤ w → Each (K w) (names_in_bodies (fewer_in_items s items))
  items_names [] s h few = tt
  items_names (plain.StructItem tag ∷ items) s h few = items_names items (scope_or s (item_judged s (plain.StructItem tag))) h.2 (omega (arith, few))
  items_names (plain.Object d ∷ items) s h few = items_names items (scope_or s (item_judged s (plain.Object d))) h.2 (omega (arith, few))
  items_names (plain.Function name at result params None ∷ items) s h few = items_names items (scope_or s (item_judged s (plain.Function name at result params None))) h.2 (omega (arith, few))
  items_names (plain.Function name at result params (Some body) ∷ items) s h few =
      let item : CItem = plain.Function name at result params (Some body) in
      let inner : Scope = scope_or s (item_judged s item) in
      let one : maybe_body_sum weight s name (Some body) (signature s at result params) ≤ w = omega (arith, few) in
      let two : items_sum weight inner items ≤ w = omega (arith, few) in
      each_both (K w) (stmt_names (fewer_in_function s name (signature s at result params) body)) (names_in_bodies (fewer_in_items inner items)) (body_names s name at result params body h.1 one) (items_names items inner h.2 two)

  -- ---- formats

  abbrev F : List ℕ → Type 0
  F name = (is_format name ≡ true) × K w name

  each_filtered : (names : List (List ℕ)) → Each (K w) names → Each F (filter is_format names)
  each_filtered [] h = tt
  each_filtered (name ∷ names) h = go (is_format name) refl (each_filtered names h.1)
    where
      go : (b : Bool) → is_format name ≡ b → Each F (filter is_format names) → Each F (cond b (name ∷ filter is_format names) (filter is_format names))
      go true e more = ((e, h.0), more)
      go false e more = more

  each_kept : (test : List ℕ → Bool) (names : List (List ℕ)) → Each F names → Each F (filter test names)
  each_kept test [] h = tt
  each_kept test (name ∷ names) h = go (test name) (each_kept test names h.1)
    where
      go : (b : Bool) → Each F (filter test names) → Each F (cond b (name ∷ filter test names) (filter test names))
      go true more = (h.0, more)
      go false more = more

  each_distinct : (names : List (List ℕ)) → Each F names → Each F (distinct names)
  each_distinct [] h = tt
  each_distinct (name ∷ names) h = (h.0, each_kept (λ other. not (bytes_eq name other)) (distinct names) (each_distinct names h.1))

  format_fits : (names : List (List ℕ)) (format : List ℕ) → Each F names → contains (map (drop 7) names) format ≡ true → length format ≤ w
  format_fits [] format h e = absurd (cc e)
  format_fits (name ∷ names) format h e = go (bytes_eq format (drop 7 name)) refl (λ k. format_fits names format h.1 k) e
    where
      go : (b : Bool) → bytes_eq format (drop 7 name) ≡ b → (contains (map (drop 7) names) format ≡ true → length format ≤ w) → (b || contains (map (drop 7) names) format) ≡ true → length format ≤ w
      go true k more e = subst (λ z. length z ≤ w) (sym ((bytes_eq-Decides format (drop 7 name)).0 k)) (h.0.1 h.0.0)
      go false k more e = more e

pub formats_are_in_weight : FormatsAreInWeight
formats_are_in_weight u is format e =
    let w : ℕ = weight_of u in
    let names : List (List ℕ) = names_in_bodies (fewer_in_items (start_scope u) u.items) in
    format_fits w (distinct (filter is_format names)) format (each_distinct w (filter is_format names) (each_filtered w names (items_names w u.items (start_scope u) (bodies_of_programs_are_typed u is) (omega arith)))) e
