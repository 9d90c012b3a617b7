use Rattle.std.proofs.Common.{◌≡◌, drop}
use Rattle.wasm_valid.specs.Context.{context_of}
use Rattle.wasm_valid.specs.Checking.{walk, first_state, IsLow}
use Rattle.wasm_valid.proofs.body.is_accepted.Given as goal

abbrev pub invariant-loop-instruction : goal.invariant-loop-instruction
invariant-loop-instruction l =
    let c = context_of l.m l.locals l.results in
    record {
      rest : walk c (drop l.instruction-index l.code) l.state ≡ walk c l.code first_state;
      low : IsLow l.instruction-index l.state;
    }
