-- The law of the crate.
use Rattle.std.proofs.Common.{◌≡◌, ℕ, ◌≤◌, List, [], ◌∷◌, ◌++◌, Some, None, true, refl, arith, nat_le}
use Rattle.std.specs.Prelude.{◌&&◌, ◌==◌, Ok, Err}
use Rattle.std.proofs.lemmas.Bool.{and_parts, leb-true}
use Rattle.c_syntax.specs.Plain as plain
use Rattle.c_syntax.specs.Plain.{CDecl, CStmt, CItem, CUnit}
use Rattle.c_types.specs.Refusals.{Judged}
use Rattle.c_types.specs.Scope.{Scope}
use Rattle.c_types.specs.Declarations.{scope_or}
use Rattle.c_types.specs.Units.{Signature, signature, body_scope, item_judged, start_scope}
use Rattle.c_types.specs.Census.{maybe_body_sum, items_sum, unit_sum}
use Rattle.c_types.specs.Limits.{weight_of, most_words, has_narrow_types, file_words, is_small}
use Rattle.c_eval.specs.Text.{Definition, definition_in, definitions}
use Rattle.c_limited.proofs.Sums.{weight, strange}
use Rattle.c_fewer_types.specs.Written.{StringsAreShort}
use Rattle.c_fewer_types.specs.Standing.{StmtHas, IsDeclaration, AnyDeclaration}
use Rattle.c_fewer_reached.specs.Updates.{UpdatesAre}
use Rattle.c_programs.specs.Programs.{DeclsHaveNames, ItemsHaveNames, BodiesHave}
use Rattle.c_spelled_programs.specs.Spelled.{DeclsAreSpelled, BodyIsSpelled, ItemsAreSpelled}
use Rattle.c_spelled_programs.specs.Laws.{SpelledUnitsArePrograms}
use Rattle.c_spelled_programs.proofs.Grammar.{unit_spelled}
use Rattle.c_spelled_programs.proofs.Sums.{Light, front, last, stmt_updates, body_short, items_none}

-- ---- names

decls_named : (ds : List CDecl) → DeclsAreSpelled ds → DeclsHaveNames ds
decls_named [] h = tt
decls_named (d ∷ ds) h = (h.0.0, decls_named ds h.1)

items_named : (items : List CItem) → ItemsAreSpelled items → ItemsHaveNames items
items_named [] h = tt
items_named (plain.StructItem tag ∷ items) h = items_named items h.1
items_named (plain.Object d ∷ items) h = (h.0.0, items_named items h.1)
items_named (plain.Function name at result params body ∷ items) h = (h.0.0, decls_named params h.0.2, items_named items h.1)

-- ---- bodies

abbrev Updates : CStmt → Type 0
Updates t = StmtHas UpdatesAre AnyDeclaration t

abbrev Short : CStmt → Type 0
Short t = StmtHas StringsAreShort IsDeclaration t

bodies_update : (items : List CItem) (s : Scope) → ItemsAreSpelled items → BodiesHave Updates (definitions s items)
bodies_update [] s h = tt
bodies_update (plain.StructItem tag ∷ items) s h = bodies_update items (scope_or s (item_judged s (plain.StructItem tag))) h.1
bodies_update (plain.Object d ∷ items) s h = bodies_update items (scope_or s (item_judged s (plain.Object d))) h.1
bodies_update (plain.Function name at result params None ∷ items) s h = bodies_update items (scope_or s (item_judged s (plain.Function name at result params None))) h.1
bodies_update (plain.Function name at result params (Some body) ∷ items) s h =
    go (signature s at result params) (definitions (scope_or s (item_judged s (plain.Function name at result params (Some body)))) items) (bodies_update items (scope_or s (item_judged s (plain.Function name at result params (Some body)))) h.1)
  where
    go : (r : Judged Signature) (rest : List Definition) → BodiesHave Updates rest → BodiesHave Updates (definition_in s name params body r ++ rest)
    go (Ok f) rest more = (stmt_updates body h.0.3, more)
    go (Err e) rest more = more

bodies_short : (items : List CItem) (s : Scope) → ItemsAreSpelled items → Light (items_sum weight s items) → BodiesHave Short (definitions s items)
bodies_short [] s h l = tt
bodies_short (plain.StructItem tag ∷ items) s h l = bodies_short items (scope_or s (item_judged s (plain.StructItem tag))) h.1 (last _ l)
bodies_short (plain.Object d ∷ items) s h l = bodies_short items (scope_or s (item_judged s (plain.Object d))) h.1 (last _ l)
bodies_short (plain.Function name at result params None ∷ items) s h l = bodies_short items (scope_or s (item_judged s (plain.Function name at result params None))) h.1 (last _ l)
bodies_short (plain.Function name at result params (Some body) ∷ items) s h l =
    go (signature s at result params) (last _ (front _ l)) (definitions (scope_or s (item_judged s (plain.Function name at result params (Some body)))) items) (bodies_short items (scope_or s (item_judged s (plain.Function name at result params (Some body)))) h.1 (last _ l))
  where
    go : (r : Judged Signature) → Light (maybe_body_sum weight s name (Some body) r) → (rest : List Definition) → BodiesHave Short rest → BodiesHave Short (definition_in s name params body r ++ rest)
    go (Ok f) k rest more = (body_short body (body_scope s name f) h.0.3 k, more)
    go (Err e) k rest more = more

none_is : (n : ℕ) → n ≤ 0 → (n == 0) ≡ true
none_is n h = grind (arith, h)

light_of : (u : CUnit) → is_small u ≡ true → Light (unit_sum weight u)
light_of u small =
    let a = and_parts (nat_le (weight_of u) 65536 && nat_le (file_words (start_scope u) u.items) most_words) (has_narrow_types u) small in
    let b = and_parts (nat_le (weight_of u) 65536) (nat_le (file_words (start_scope u) u.items) most_words) a.0 in
    record { le = leb-true (weight_of u) 65536 b.0 }

pub spelled_units_are_programs : SpelledUnitsArePrograms
spelled_units_are_programs ts u told within typed small =
    let h = unit_spelled ts u told within in
    record {
      typed = typed;
      small = small;
      bytes = none_is (unit_sum strange u) (items_none u.items (start_scope u) h);
      names = items_named u.items h;
      bodies = bodies_short u.items (start_scope u) h (light_of u small);
      updates = bodies_update u.items (start_scope u) h;
    }
