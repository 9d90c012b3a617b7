-- The law of the crate.
use Rattle.std.proofs.Common.{◌≡◌, ℕ, ◌≤◌, List, [], ◌∷◌, ◌++◌, Some, Bool, true, false, refl, cond, arith, nat_le}
use Rattle.std.specs.Prelude.{◌&&◌, is_ok, Ok, Err}
use Rattle.std.specs.Str.{bytes_eq}
use Rattle.std.proofs.lemmas.Bool.{and_parts, leb-true, eqb-true}
use Rattle.c_syntax.specs.Words.{meaning}
use Rattle.c_types.specs.Refusals.{Judged}
use Rattle.c_types.specs.Scope.{Names, built_ins, file_scope}
use Rattle.c_types.specs.Units.{defined_in, all_items, start_scope, unit_judged}
use Rattle.c_types.specs.Census.{items_sum, unit_sum}
use Rattle.c_types.specs.Limits.{weight_of, most_words, has_narrow_types, file_words}
use Rattle.c_limited.specs.Narrow.{EntityIsNarrow, ScopeIsNarrow}
use Rattle.c_limited.proofs.Sums.{weight, wide, strange, Within}
use Rattle.c_fewer_types.proofs.FewerTypedRules.{after_is}
use Rattle.c_fewer_items.specs.SmallElementsLaws.{TypedTextsAreOrdinary}
use Rattle.c_fewer_items.proofs.SmallElementsItems.{items_are}

abbrev AllAre : Names → Type 0
AllAre [] = Unit {0}
AllAre (x ∷ xs) = EntityIsNarrow [] (Some x.1) × AllAre xs

found : (xs : Names) (name : List ℕ) → AllAre xs → EntityIsNarrow [] (meaning (xs ++ []) name)
found [] name h = tt
found (x ∷ xs) name h = go (bytes_eq name x.0) (found xs name h.1)
  where
    go : (b : Bool) → EntityIsNarrow [] (meaning (xs ++ []) name) → EntityIsNarrow [] (cond b (Some x.1) (meaning (xs ++ []) name))
    go true more = h.0
    go false more = more

start_narrow : (defined : List (List ℕ)) → ScopeIsNarrow (file_scope defined)
start_narrow defined = record { names = λ name. found built_ins name (refl, (refl, (refl, (refl, (tt, (refl, tt)))))); members = λ tag members words name t e f. absurd (cc e) }

-- a judgement that isn't refused
judged_is : {A : Type 0} (r : Judged A) → is_ok r ≡ true → (a : A) × (r ≡ Ok a)
judged_is (Ok a) e = (a, refl)
judged_is (Err f) e = absurd (cc e)

pub typed_texts_are_ordinary : TypedTextsAreOrdinary
typed_texts_are_ordinary test names u s' file fit typed small bytes =
    let p = and_parts (nat_le (weight_of u) 65536 && nat_le (file_words (start_scope u) u.items) most_words) (has_narrow_types u) small in
    let q = and_parts (nat_le (weight_of u) 65536) (nat_le (file_words (start_scope u) u.items) most_words) p.0 in
    let light : unit_sum weight u ≤ 65536 = leb-true (weight_of u) 65536 q.0 in
    let narrow : unit_sum wide u ≤ 0 = omega (arith, eqb-true (unit_sum wide u) 0 p.1) in
    let plain : unit_sum strange u ≤ 0 = omega (arith, eqb-true (unit_sum strange u) 0 bytes) in
    let within : Within (items_sum weight (start_scope u) u.items) (items_sum wide (start_scope u) u.items) (items_sum strange (start_scope u) u.items) = record { light = light; narrow = narrow; plain = plain } in
    let whole = judged_is (unit_judged u) typed in
    let k = after_is (all_items (start_scope u) u.items) _ whole.0 whole.1 in
    items_are test names u.items (start_scope u) s' k.0 file fit (start_narrow (defined_in u.items)) k.1 within
