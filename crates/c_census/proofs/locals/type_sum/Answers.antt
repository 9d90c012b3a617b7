use Rattle.std.proofs.Common.{◌≡◌, ◌<◌, ◌≤◌, ◌+◌, ◌-◌, ℕ, List, [], ◌∷◌, map, drop, get_or, length, Option, Some, None, refl, sym, ap, subst, ◌∙◌, arith, rules}
use Rattle.std.specs.Prelude.{Result, Ok, Err, IfOk}
use Rattle.c_syntax.specs.View.{maybe_value}
use Rattle.c_weights.specs.declared.sum.Sum.{Sum}
use Rattle.c_census.proofs.LocalLemmas.{type_sums}
use Rattle.c_census.proofs.locals.type_sum.Goals as goal

pub returns : goal.returns
returns c = λ p tags h all.
    let r : Sum = record { weight = c.first_words.result; is_wide = c.is_wide.result; nodes = 0; words = c.told_words.result } in
    type_sums r tags (maybe_value c.args.first.now) p (c.first_words.ensures p tags h all) (c.is_wide.ensures p tags h all) refl (c.told_words.ensures p tags h all)
