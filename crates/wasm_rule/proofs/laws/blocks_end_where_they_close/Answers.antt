use Rattle.wasm_rule.proofs.Blocks.{ends_at, parts_at}
use Rattle.wasm_rule.proofs.laws.blocks_end_where_they_close.Goals as goal

pub returns : goal.returns
returns c = record { ends = ends_at; parts = parts_at }
