-- The names that the bodies of a program evaluate with fewer operators.
use Rattle.std.proofs.Common.{◌≡◌, ℕ, List, [], ◌∷◌, map, drop, Some, None, Bool, true, false, refl, sym, subst, cond}
use Rattle.std.specs.Prelude.{not}
use Rattle.std.specs.List.{filter}
use Rattle.std.specs.Str.{bytes_eq}
use Rattle.c_syntax.specs.Plain as plain
use Rattle.c_syntax.specs.Plain.{CTy, CDecl, CStmt, CItem}
use Rattle.c_types.specs.Scope.{Scope}
use Rattle.c_types.specs.Declarations.{scope_or}
use Rattle.c_types.specs.Units.{signature, around_body, body_scope, item_judged, start_scope}
use Rattle.c_helpers.specs.Meanings.{is_format}
use Rattle.c_helpers.specs.Names.{stmt_names}
use Rattle.c_helpers.specs.Fewer.{fewer_in_function, fewer_in_items, distinct, names_in_bodies}
use Rattle.c_worlds.specs.Named.{Each}
use Rattle.c_fewer_names.proofs.Expressions.{each_both}
use Rattle.c_fewer_names.specs.FewerKnownLaws.{is_known_name}
use Rattle.c_fewer_names.proofs.FewerKnownStatements.{names_are_known, formats_have_conversions}
use Rattle.c_fewer_items.specs.FewerFrontsLaws.{AreFormats}
use Rattle.c_fewer_names.specs.ProgramBodiesLaws.{BodyIsTyped, BodiesAreTyped, NamesOfProgramsAreKnown, FormatsOfProgramsAreFormats}
use Rattle.c_fewer_names.proofs.Bodies.{bodies_of_programs_are_typed}

abbrev K : List ℕ → Type 0
K name = is_known_name name ≡ true

body_known : (s : Scope) (name : List ℕ) (at : ℕ) (result : CTy) (params : List CDecl) (body : CStmt) → BodyIsTyped s name at result params body
    → Each K (stmt_names (fewer_in_function s name (signature s at result params) body))
body_known s name at result params body h =
    subst (λ q. Each K (stmt_names (fewer_in_function s name q body))) (sym h.head_is)
    (names_are_known (body_scope s name h.head) (around_body h.head) body h.behind h.names h.short h.typed)

items_known : (items : List CItem) (s : Scope) → BodiesAreTyped s items → Each K (names_in_bodies (fewer_in_items s items))
items_known [] s h = tt
items_known (plain.StructItem tag ∷ items) s h = items_known items (scope_or s (item_judged s (plain.StructItem tag))) h.2
items_known (plain.Object d ∷ items) s h = items_known items (scope_or s (item_judged s (plain.Object d))) h.2
items_known (plain.Function name at result params None ∷ items) s h = items_known items (scope_or s (item_judged s (plain.Function name at result params None))) h.2
items_known (plain.Function name at result params (Some body) ∷ items) s h =
    let inner : Scope = scope_or s (item_judged s (plain.Function name at result params (Some body))) in
    each_both K (stmt_names (fewer_in_function s name (signature s at result params) body)) (names_in_bodies (fewer_in_items inner items))
    (body_known s name at result params body h.1) (items_known items inner h.2)

pub names_of_programs_are_known : NamesOfProgramsAreKnown
names_of_programs_are_known u h = items_known u.items (start_scope u) (bodies_of_programs_are_typed u h)

-- ---- formats

-- what is known and a format
abbrev F : List ℕ → Type 0
F name = (is_format name ≡ true) × K name

each_filtered : (P : List ℕ → Type 0) (test : List ℕ → Bool) (names : List (List ℕ)) → Each P names → Each (λ name. (test name ≡ true) × P name) (filter test names)
each_filtered P test [] h = tt
each_filtered P test (name ∷ names) h = go (test name) refl (each_filtered P test names h.1)
  where
    go : (b : Bool) → test name ≡ b → Each (λ name. (test name ≡ true) × P name) (filter test names) → Each (λ name. (test name ≡ true) × P name) (cond b (name ∷ filter test names) (filter test names))
    go true e more = ((e, h.0), more)
    go false e more = more

each_kept : (P : List ℕ → Type 0) (test : List ℕ → Bool) (names : List (List ℕ)) → Each P names → Each P (filter test names)
each_kept P test [] h = tt
each_kept P test (name ∷ names) h = go (test name) (each_kept P test names h.1)
  where
    go : (b : Bool) → Each P (filter test names) → Each P (cond b (name ∷ filter test names) (filter test names))
    go true more = (h.0, more)
    go false more = more

each_distinct : (P : List ℕ → Type 0) (names : List (List ℕ)) → Each P names → Each P (distinct names)
each_distinct P [] h = tt
each_distinct P (name ∷ names) h = (h.0, each_kept P (λ other. not (bytes_eq name other)) (distinct names) (each_distinct P names h.1))

formats_are : (names : List (List ℕ)) → Each F names → AreFormats (map (drop 7) names)
formats_are [] h = tt
formats_are (name ∷ names) h = (formats_have_conversions name h.0.0 h.0.1, formats_are names h.1)

pub formats_of_programs_are_formats : FormatsOfProgramsAreFormats
formats_of_programs_are_formats u h =
    let names : List (List ℕ) = names_in_bodies (fewer_in_items (start_scope u) u.items) in
    formats_are (distinct (filter is_format names)) (each_distinct F (filter is_format names) (each_filtered K is_format names (names_of_programs_are_known u h)))
