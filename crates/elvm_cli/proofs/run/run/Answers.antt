use Rattle.std.proofs.Common.{Err, Result, ap}
use Rattle.mach_core.specs.declared.run.RunEnd.{RunEnd}
use Rattle.mach_core.specs.declared.run.RunFault.{RunFault}
use Rattle.elvm_cli.proofs.Broken.{runs_broken, runs_out}
use Rattle.elvm_cli.proofs.run.run.Goals as goal

pub returns-in-Err-Read : goal.returns-in-Err-Read
returns-in-Err-Read g c =
    let refused : RunFault → Result RunEnd RunFault = λ fault. Err fault in
    let is = ap refused c.in-Err-Read.field-0-is in
    (c.in-Err-Read.ensures.read is, runs_out _ _ _ _ _ _ (c.in-Err-Read.ensures.read_output is))

pub returns-in-Err-Write : goal.returns-in-Err-Write
returns-in-Err-Write g c =
    let refused : RunFault → Result RunEnd RunFault = λ fault. Err fault in
    let is = ap refused c.in-Err-Write.field-0-is in
    (c.in-Err-Write.ensures.write is, runs_broken _ _ _ _ _ _ (c.in-Err-Write.ensures.write_output is))
