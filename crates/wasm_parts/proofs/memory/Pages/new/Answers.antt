use Rattle.wasm_parts.proofs.Paged.{no_bytes}
use Rattle.wasm_parts.proofs.memory.Pages.new.Goals as goal

pub returns-clause-bytes : goal.returns-clause-bytes
returns-clause-bytes c = no_bytes c.new.result.items c.new.ensures.items
