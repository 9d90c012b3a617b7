use Rattle.eir_core.specs.declared.ops.Op.TheVariants.{Mov, Add, Sub, Load, Store, Putc, Getc, Set, Exit, Jump, JumpIf}
use Rattle.bf_ops.proofs.Acts.{on_ok}
use Rattle.bf_ops.proofs.Performed.{performs_mov, performs_add, performs_sub, performs_load, performs_store, performs_putc, performs_getc, performs_set, performs_none}
use Rattle.std.proofs.Common.{refl}
use Rattle.bf_ops.specs.OpsCode.{operation_code, operation_cell}
use Rattle.bf_ops.proofs.Coded.{none_code, code_as}
use Rattle.bf_ops.proofs.operation.perform.Goals as goal

pub returns-in-Mov-clause-effect : goal.returns-in-Mov-clause-effect
returns-in-Mov-clause-effect c = on_ok c.mov.result (performs_mov c.args.op c.in-Mov.reg c.in-Mov.operand c.in-Mov.is) c.mov.ensures.effect

pub returns-in-Add-clause-effect : goal.returns-in-Add-clause-effect
returns-in-Add-clause-effect c = on_ok c.add.result (performs_add c.args.op c.in-Add.reg c.in-Add.operand c.in-Add.is) c.add.ensures.effect

pub returns-in-Sub-clause-effect : goal.returns-in-Sub-clause-effect
returns-in-Sub-clause-effect c = on_ok c.sub.result (performs_sub c.args.op c.in-Sub.reg c.in-Sub.operand c.in-Sub.is) c.sub.ensures.effect

pub returns-in-Load-clause-effect : goal.returns-in-Load-clause-effect
returns-in-Load-clause-effect c = on_ok c.load.result (performs_load c.args.op c.in-Load.reg c.in-Load.operand c.in-Load.is) c.load.ensures.effect

pub returns-in-Store-clause-effect : goal.returns-in-Store-clause-effect
returns-in-Store-clause-effect c = on_ok c.store.result (performs_store c.args.op c.in-Store.reg c.in-Store.operand c.in-Store.is) c.store.ensures.effect

pub returns-in-Putc-clause-effect : goal.returns-in-Putc-clause-effect
returns-in-Putc-clause-effect c = on_ok c.putc.result (performs_putc c.args.op c.in-Putc.operand c.in-Putc.is) c.putc.ensures.effect

pub returns-in-Getc-clause-effect : goal.returns-in-Getc-clause-effect
returns-in-Getc-clause-effect c = on_ok c.getc.result (performs_getc c.args.op c.in-Getc.reg c.in-Getc.is) c.getc.ensures.effect

pub returns-in-Set-clause-effect : goal.returns-in-Set-clause-effect
returns-in-Set-clause-effect c = on_ok c.set_if.result (performs_set c.args.op c.in-Set.test c.in-Set.reg c.in-Set.operand c.in-Set.is) c.set_if.ensures.effect

pub returns-in-Exit-clause-effect : goal.returns-in-Exit-clause-effect
returns-in-Exit-clause-effect c = performs_none c.args.f.now c.args.op Exit c.in-Exit.is (λ r m byte. refl) (λ r m. refl) refl (λ r. refl) (λ r. refl) refl

pub returns-in-Jump-clause-effect : goal.returns-in-Jump-clause-effect
returns-in-Jump-clause-effect c = performs_none c.args.f.now c.args.op (Jump c.in-Jump.field-0) c.in-Jump.is (λ r m byte. refl) (λ r m. refl) refl (λ r. refl) (λ r. refl) refl

pub returns-in-JumpIf-clause-effect : goal.returns-in-JumpIf-clause-effect
returns-in-JumpIf-clause-effect c = performs_none c.args.f.now c.args.op (JumpIf c.in-JumpIf.field-0 c.in-JumpIf.field-1 c.in-JumpIf.field-2 c.in-JumpIf.field-3) c.in-JumpIf.is (λ r m byte. refl) (λ r m. refl) refl (λ r. refl) (λ r. refl) refl

pub returns-in-Mov-clause-code : goal.returns-in-Mov-clause-code
returns-in-Mov-clause-code c =
    on_ok c.mov.result (code_as c.args.f.now (operation_code c.args.f.now.cell) (operation_cell c.args.f.now.cell) c.args.op (Mov c.in-Mov.reg c.in-Mov.operand) c.in-Mov.is) c.mov.ensures.code

pub returns-in-Add-clause-code : goal.returns-in-Add-clause-code
returns-in-Add-clause-code c =
    on_ok c.add.result (code_as c.args.f.now (operation_code c.args.f.now.cell) (operation_cell c.args.f.now.cell) c.args.op (Add c.in-Add.reg c.in-Add.operand) c.in-Add.is) c.add.ensures.code

pub returns-in-Sub-clause-code : goal.returns-in-Sub-clause-code
returns-in-Sub-clause-code c =
    on_ok c.sub.result (code_as c.args.f.now (operation_code c.args.f.now.cell) (operation_cell c.args.f.now.cell) c.args.op (Sub c.in-Sub.reg c.in-Sub.operand) c.in-Sub.is) c.sub.ensures.code

pub returns-in-Load-clause-code : goal.returns-in-Load-clause-code
returns-in-Load-clause-code c =
    on_ok c.load.result (code_as c.args.f.now (operation_code c.args.f.now.cell) (operation_cell c.args.f.now.cell) c.args.op (Load c.in-Load.reg c.in-Load.operand) c.in-Load.is) c.load.ensures.code

pub returns-in-Store-clause-code : goal.returns-in-Store-clause-code
returns-in-Store-clause-code c =
    on_ok c.store.result (code_as c.args.f.now (operation_code c.args.f.now.cell) (operation_cell c.args.f.now.cell) c.args.op (Store c.in-Store.reg c.in-Store.operand) c.in-Store.is) c.store.ensures.code

pub returns-in-Putc-clause-code : goal.returns-in-Putc-clause-code
returns-in-Putc-clause-code c =
    on_ok c.putc.result (code_as c.args.f.now (operation_code c.args.f.now.cell) (operation_cell c.args.f.now.cell) c.args.op (Putc c.in-Putc.operand) c.in-Putc.is) c.putc.ensures.code

pub returns-in-Getc-clause-code : goal.returns-in-Getc-clause-code
returns-in-Getc-clause-code c =
    on_ok c.getc.result (code_as c.args.f.now (operation_code c.args.f.now.cell) (operation_cell c.args.f.now.cell) c.args.op (Getc c.in-Getc.reg) c.in-Getc.is) c.getc.ensures.code

pub returns-in-Set-clause-code : goal.returns-in-Set-clause-code
returns-in-Set-clause-code c =
    on_ok c.set_if.result (code_as c.args.f.now (operation_code c.args.f.now.cell) (operation_cell c.args.f.now.cell) c.args.op (Set c.in-Set.test c.in-Set.reg c.in-Set.operand) c.in-Set.is) c.set_if.ensures.code

pub returns-in-Exit-clause-code : goal.returns-in-Exit-clause-code
returns-in-Exit-clause-code c =
    code_as c.args.f.now (operation_code c.args.f.now.cell) (operation_cell c.args.f.now.cell) c.args.op Exit c.in-Exit.is (none_code c.args.f.now)

pub returns-in-Jump-clause-code : goal.returns-in-Jump-clause-code
returns-in-Jump-clause-code c =
    code_as c.args.f.now (operation_code c.args.f.now.cell) (operation_cell c.args.f.now.cell) c.args.op (Jump c.in-Jump.field-0) c.in-Jump.is (none_code c.args.f.now)

pub returns-in-JumpIf-clause-code : goal.returns-in-JumpIf-clause-code
returns-in-JumpIf-clause-code c =
    code_as c.args.f.now (operation_code c.args.f.now.cell) (operation_cell c.args.f.now.cell) c.args.op (JumpIf c.in-JumpIf.field-0 c.in-JumpIf.field-1 c.in-JumpIf.field-2 c.in-JumpIf.field-3) c.in-JumpIf.is (none_code c.args.f.now)
