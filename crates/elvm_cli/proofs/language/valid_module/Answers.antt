use Rattle.std.proofs.Common.{arith}
use Rattle.wasm_bin.proofs.Kept.{kept}
use Rattle.elvm_cli.proofs.Modules.{unread_module}
use Rattle.elvm_cli.proofs.language.valid_module.Goals as goal

pub validate-requires : goal.validate-requires
validate-requires c = let limits = kept c.args.bytes.now c.in-Ok.module c.in-Ok.ensures in omega (arith, limits.bodies, limits.funcs)

pub returns-in-Err-validate-clause-err : goal.returns-in-Err-validate-clause-err
returns-in-Err-validate-clause-err c = rw c.outcome-in-Err-validate.ensures (unread_module c.args.bytes.now c.in-Ok.module c.in-Err-validate.fault c.in-Ok.ensures c.in-Err-validate.ensures)
