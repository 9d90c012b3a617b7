use Rattle.std.proofs.Common.{◌≡◌, ◌&&◌, Bool, ap, ◌∙◌}
use Rattle.std.specs.Prelude.{nat_le, ◌==◌, not}
use Rattle.c_types.specs.Scope.{Scope}
use Rattle.c_types.specs.Units.{start_scope}
use Rattle.c_types.specs.Census.{unit_sum}
use Rattle.c_types.specs.Limits.{weight_of, file_words, most_words}
use Rattle.c_weights.specs.Sums.{widening}
use Rattle.c_check.proofs.AnswerLemmas.{none_wide}
use Rattle.c_check.proofs.whole.is_small.Goals as goal

pub returns : goal.returns
returns c = λ u are.
    let light = c.at_most-is_light.ensures (weight_of u) are.sums.weight in
    let short = c.at_most-is_short.ensures (file_words (start_scope u) u.items) are.words in
    let wide = c.args.taken.now.sum.is_wide in
    let narrow = none_wide wide (unit_sum widening u) are.sums.wide in
    c.all_so.ensures
    ∙ (ap (λ (b : Bool). b && c.at_most-is_short.result && not wide) light
    ∙ (ap (λ (b : Bool). nat_le (weight_of u) 65536 && b && not wide) short
    ∙ ap (λ (b : Bool). nat_le (weight_of u) 65536 && nat_le (file_words (start_scope u) u.items) most_words && b) narrow))
