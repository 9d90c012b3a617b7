use Rattle.std.proofs.Common.{◌≡◌, ℕ, ◌<◌, length}
use Rattle.wasm_rule.specs.Code.{own_code}
use Rattle.wasm_parts.specs.Jumps.{IsTable}
use Rattle.wasm_run.specs.Linking.{table_at}
use Rattle.wasm_run.proofs.linked.tables_of.Given as goal

abbrev pub invariant-loop-body : goal.invariant-loop-body
invariant-loop-body l = record {
  len : length l.tables.items ≡ l.body-index;
  filled : (own : ℕ) → own < l.body-index → IsTable (own_code l.m own) (table_at l.tables.items own);
}
