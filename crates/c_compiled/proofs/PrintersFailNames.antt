-- What is found in a text is defined there.
use Rattle.std.proofs.Common.{◌≡◌, ℕ, List, [], ◌∷◌, ◌++◌, map, Some, None, Bool, true, false, cond, refl, sym, ap, ◌∙◌}
use Rattle.std.specs.Prelude.{◌||◌, Ok, Err, is_some}
use Rattle.std.specs.List.{find}
use Rattle.std.specs.Str.{bytes_eq}
use Rattle.c_syntax.specs.Plain as plain
use Rattle.c_syntax.specs.Plain.{CDecl, CItem}
use Rattle.c_types.specs.Refusals.{Judged}
use Rattle.c_types.specs.Scope.{Scope, contains}
use Rattle.c_types.specs.Declarations.{scope_or}
use Rattle.c_types.specs.Units.{Signature, signature, body_scope, item_judged, defined_in}
use Rattle.c_eval.specs.Text.{Definition, definition_in, definitions}

abbrev is_named : List ℕ → Definition → Bool
is_named name g = bytes_eq name g.name

pub found_are_defined : (items : List CItem) (s : Scope) (name : List ℕ) → is_some (find (is_named name) (definitions s items)) ≡ true → contains (defined_in items) name ≡ true
found_are_defined [] s name e = absurd (cc e)
found_are_defined (plain.StructItem tag ∷ items) s name e = found_are_defined items (scope_or s (item_judged s (plain.StructItem tag))) name e
found_are_defined (plain.Object d ∷ items) s name e = found_are_defined items (scope_or s (item_judged s (plain.Object d))) name e
found_are_defined (plain.Function n at result params None ∷ items) s name e = found_are_defined items (scope_or s (item_judged s (plain.Function n at result params None))) name e
found_are_defined (plain.Function n at result params (Some body) ∷ items) s name e =
    go (bytes_eq name n) refl (signature s at result params) (definitions (scope_or s (item_judged s (plain.Function n at result params (Some body)))) items) (λ k. found_are_defined items (scope_or s (item_judged s (plain.Function n at result params (Some body)))) name k) e
  where
    go : (b : Bool) → bytes_eq name n ≡ b → (q : Judged Signature) (rest : List Definition) → (is_some (find (is_named name) rest) ≡ true → contains (defined_in items) name ≡ true) → is_some (find (is_named name) (definition_in s n params body q ++ rest)) ≡ true → (b || contains (defined_in items) name) ≡ true
    go true k q rest more e = refl
    go false k (Ok f) rest more e = more (sym (ap (λ b. is_some (cond b (Some (record { name = n; result = f.result; params = map (λ (d : CDecl). d.name) params; scope = body_scope s n f; body = body })) (find (is_named name) rest))) k) ∙ e)
    go false k (Err f) rest more e = more e
