use Rattle.std.proofs.Common.{◌++◌, ◌∷◌, [], List, ℕ, ap, ◌∙◌}
use Rattle.wasm_code.proofs.Pieces.{range_more, zero_plus}
use Rattle.wasm_code.proofs.body.numbers.Goals as goal

pub loop-k-preserved : goal.loop-k-preserved
loop-k-preserved c =
    c.in_ok-push.ensures.items ∙ (ap (λ (xs : List ℕ). xs ++ c.loop-k.k ∷ []) c.loop-k.invariant ∙ range_more 0 c.loop-k.k c.loop-k.k (zero_plus c.loop-k.k))
