-- The whole text.
use Rattle.std.proofs.Common.{◌≡◌, ℕ, List, [], ◌++◌, map, refl, ap, ◌∙◌}
use Rattle.std.specs.Prelude.{Ok, Err, IsOk}
use Rattle.std.proofs.lemmas.List.{map-append}
use Rattle.c_syntax.specs.Plain.{CItem, CUnit}
use Rattle.c_syntax.specs.View.{item_of}
use Rattle.c_syntax.specs.declared.tree.Item.{Item}
use Rattle.c_types.specs.Refusals.{Judged, after}
use Rattle.c_types.specs.Scope.{Scope}
use Rattle.c_types.specs.Limits.{IsTyped}
use Rattle.c_types.specs.Units.{start_scope, all_items}
use Rattle.c_helpers.specs.Fewer.{function_of, helpers_for}
use Rattle.c_helpers.specs.Simple.{with_helpers}

-- helper functions, and externals behind them
pub in_front : (none helpers all given others : List Item) → none ≡ [] → map item_of helpers ≡ map item_of none ++ map function_of (helpers_for (map item_of given)) → given ≡ others → all ≡ helpers ++ others
    → map item_of all ≡ with_helpers (map item_of others)
in_front none helpers all given others e f g h =
    ap (λ (l : List Item). map item_of l) h
    ∙ (map-append item_of helpers others
    ∙ ap (λ (l : List CItem). l ++ map item_of others)
    (f ∙ (ap (λ (l : List Item). map item_of l ++ map function_of (helpers_for (map item_of given))) e ∙ ap (λ (l : List Item). map function_of (helpers_for (map item_of l))) g)))

-- a text by its externals and its end
abbrev pub unit_as : List CItem → ℕ → CUnit
unit_as items end = record { items = items; end = end }

ok_after : {A B : Type 0} (r : Judged A) (f : A → Judged B) → IsOk (after r f) → (a : A) × (r ≡ Ok a)
ok_after (Ok a) f h = (a, refl)
ok_after (Err e) f h = absurd cc

pub typed_end : (u : CUnit) → IsTyped u → (end : Scope) × (all_items (start_scope u) u.items ≡ Ok end)
typed_end u typed = ok_after (all_items (start_scope u) u.items) _ typed
