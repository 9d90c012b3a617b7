-- The literals of a text with fewer operators.
use Rattle.std.proofs.Common.{◌≤◌, nat_le, arith}
use Rattle.std.specs.Prelude.{◌&&◌}
use Rattle.std.proofs.lemmas.Bool.{and_parts, leb-true, eqb-true}
use Rattle.c_types.specs.Units.{start_scope}
use Rattle.c_types.specs.Census.{items_sum, unit_sum}
use Rattle.c_types.specs.Limits.{weight_of, most_words, has_narrow_types, file_words}
use Rattle.c_eval.specs.Text.{file_start, text_of}
use Rattle.c_limited.proofs.Sums.{weight, wide, strange, Within}
use Rattle.c_helpers.specs.Fewer.{fewer_in_items, helpers_for}
use Rattle.c_helpers.specs.Simple.{with_helpers, reached, desugared}
use Rattle.c_laid.specs.Words.{LiteralsOfTextsAreWords}
use Rattle.c_laid.proofs.Literals.{functions_words}
use Rattle.c_laid.proofs.Firsts as firsts
use Rattle.c_laid.proofs.Firsts.{firsts_limited, desugared_limited}

pub literals_of_texts_are_words : LiteralsOfTextsAreWords
literals_of_texts_are_words u small bytes limited =
    let p = and_parts (nat_le (weight_of u) 65536 && nat_le (file_words (start_scope u) u.items) most_words) (has_narrow_types u) small in
    let q = and_parts (nat_le (weight_of u) 65536) (nat_le (file_words (start_scope u) u.items) most_words) p.0 in
    let light : unit_sum weight u ≤ 65536 = leb-true (weight_of u) 65536 q.0 in
    let narrow : unit_sum wide u ≤ 0 = omega (arith, eqb-true (unit_sum wide u) 0 p.1) in
    let plain : unit_sum strange u ≤ 0 = omega (arith, eqb-true (unit_sum strange u) 0 bytes) in
    let within : Within (items_sum weight (start_scope u) u.items) (items_sum wide (start_scope u) u.items) (items_sum strange (start_scope u) u.items) = record { light = light; narrow = narrow; plain = plain } in
    let texts = fewer_in_items (start_scope u) u.items in
    let own = desugared_limited (reached (with_helpers texts)) (helpers_for texts) u.items (start_scope u) (firsts_limited u.items (start_scope u) within) in
    (firsts.file_words (desugared u).items (file_start (desugared u)) own, functions_words (text_of (desugared u)).functions limited)
