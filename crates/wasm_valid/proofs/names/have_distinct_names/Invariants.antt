use Rattle.std.proofs.Common.{◌≡◌, map, take}
use Rattle.wasm_valid.specs.Rules.{HaveDistinctNames}
use Rattle.wasm_valid.proofs.names.have_distinct_names.Given as goal

abbrev pub invariant-loop-export : goal.invariant-loop-export
invariant-loop-export l =
    record {
      names : map (λ k. k.now) l.names.keys ≡ map (λ e. e.name) (take l.export-index l.exports);
      distinct : HaveDistinctNames (take l.export-index l.exports);
    }
