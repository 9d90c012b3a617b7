-- The law of the crate.
use Rattle.std.proofs.Common.{◌≡◌, ◌≤◌, true, arith, nat_le}
use Rattle.std.specs.Prelude.{◌&&◌, is_ok, Ok, Err}
use Rattle.std.proofs.lemmas.Bool.{and_parts, leb-true, eqb-true}
use Rattle.c_types.specs.Refusals.{Judged}
use Rattle.c_types.specs.Units.{all_items, start_scope, unit_judged}
use Rattle.c_types.specs.Census.{items_sum, unit_sum}
use Rattle.c_types.specs.Limits.{weight_of, most_words, has_narrow_types, file_words}
use Rattle.c_eval.specs.Text.{file_start}
use Rattle.c_limited.specs.Laws.{TypedTextsAreLimited}
use Rattle.c_limited.proofs.Good.{Fine, after_fine}
use Rattle.c_limited.proofs.Sums.{weight, wide, strange, Within}
use Rattle.c_limited.proofs.Bodies.{functions_limited}
use Rattle.c_limited.proofs.Objects.{objects_valid}

ok_fine : {A : Type 0} (r : Judged A) → is_ok r ≡ true → Fine r
ok_fine (Ok a) e = record { good = tt }
ok_fine (Err f) e = absurd (cc e)

pub typed_texts_are_limited : TypedTextsAreLimited
typed_texts_are_limited u typed small bytes =
    let p = and_parts (nat_le (weight_of u) 65536 && nat_le (file_words (start_scope u) u.items) most_words) (has_narrow_types u) small in
    let q = and_parts (nat_le (weight_of u) 65536) (nat_le (file_words (start_scope u) u.items) most_words) p.0 in
    let light : unit_sum weight u ≤ 65536 = leb-true (weight_of u) 65536 q.0 in
    let narrow : unit_sum wide u ≤ 0 = omega (arith, eqb-true (unit_sum wide u) 0 p.1) in
    let plain : unit_sum strange u ≤ 0 = omega (arith, eqb-true (unit_sum strange u) 0 bytes) in
    let within : Within (items_sum weight (start_scope u) u.items) (items_sum wide (start_scope u) u.items) (items_sum strange (start_scope u) u.items) = record { light = light; narrow = narrow; plain = plain } in
    let fine : Fine (all_items (start_scope u) u.items) = after_fine (all_items (start_scope u) u.items) _ (ok_fine (unit_judged u) typed) in
    record { functions = functions_limited (start_scope u) u.items fine within; objects = objects_valid u.items (file_start u) tt fine within }
