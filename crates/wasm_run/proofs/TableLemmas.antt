-- The jumps of tables.
use Rattle.std.proofs.Common.{◌≡◌, ℕ, ◌+◌, ◌<◌, List, length, drop, get_or, sym, subst}
use Rattle.std.specs.Prelude.{Vec}
use Rattle.std.specs.declared.alloc.Global.{Global}
use Rattle.wasm_bin.specs.declared.module.Module.{Module}
use Rattle.wasm_parts.specs.declared.jumps.Jump.{Jump}
use Rattle.wasm_rule.specs.Code.{own_code}
use Rattle.wasm_parts.specs.Jumps.{Leads, IsTable}
use Rattle.wasm_run.specs.Linking.{AreTables, table_at}

-- the jump of a table leads on in the code
pub jump_leads : (m n : Module) (tables : List (Vec Jump Global)) (own place : ℕ) (jump none : Jump) → m ≡ n → AreTables m tables → place < length (own_code n own) → jump ≡ get_or (table_at tables own) place none
    → Leads (own_code n own) 0 (drop (place + 1) (own_code n own)) jump
jump_leads m n tables own place jump none e h lt is =
    let at : IsTable (own_code n own) (table_at tables own) = subst (λ (k : Module). IsTable (own_code k own) (table_at tables own)) e (h own) in
    subst (λ (j : Jump). Leads (own_code n own) 0 (drop (place + 1) (own_code n own)) j) (sym is) (at place none lt)
