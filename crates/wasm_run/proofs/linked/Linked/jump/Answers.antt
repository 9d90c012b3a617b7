use Rattle.std.proofs.Common.{rules}
use Rattle.wasm_parts.specs.declared.jumps.Jump.{Jump}
use Rattle.wasm_run.proofs.TableLemmas.{jump_leads}
use Rattle.wasm_run.proofs.linked.Linked.jump.Goals as goal

pub returns : goal.returns
returns c =
    let none : Jump = record { past = 0; other = 0 } in
    jump_leads c.self.inside.module c.args.self.now c.self.inside.tables.items c.args.own c.args.place c.jump_in.result none c.self.view_is c.self.invariant c.requires (search rules)
