use Rattle.std.proofs.Common.{◌+◌, length, ap, ◌∙◌}
use Rattle.c_types.specs.Types as types
use Rattle.c_types.specs.Known.{of_type}
use Rattle.c_expressions.proofs.leaves.string.Goals as goal

pub returns-clause-judged : goal.returns-clause-judged
returns-clause-judged c =
    let count = length c.args.text.now + 1 in
    c.value_at.ensures c.number-2.new.self (types.Array types.Char count)
    (c.in_ok-array.ensures.number ∙ ap (λ k. of_type k (λ u. types.Array u count)) c.in_ok-character.ensures.number)
