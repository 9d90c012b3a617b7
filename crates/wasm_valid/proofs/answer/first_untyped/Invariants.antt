use Rattle.std.proofs.Common.{ℕ, ◌<◌}
use Rattle.wasm_valid.specs.Rules.{IsTypedAt}
use Rattle.wasm_valid.proofs.answer.first_untyped.Given as goal

abbrev pub invariant-loop-k : goal.invariant-loop-k
invariant-loop-k l = (j : ℕ) → j < l.k → IsTypedAt l.m j
