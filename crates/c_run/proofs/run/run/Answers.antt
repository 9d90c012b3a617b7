use Rattle.std.proofs.Common.{Err, Result, ap, sym, inl, inr}
use Rattle.mach_core.specs.declared.run.RunEnd.{RunEnd}
use Rattle.mach_core.specs.declared.run.RunFault.{RunFault}
use Rattle.c_run.proofs.run.run.Goals as goal

pub returns-in-Some-clause-answers : goal.returns-in-Some-clause-answers
returns-in-Some-clause-answers g c = (_, _, _, sym c.in-Some.ensures, c.in-Ok.ensures.ran)

pub returns-in-None-clause-answers : goal.returns-in-None-clause-answers
returns-in-None-clause-answers g c = inr (_, _, _, c.in-Ok.ensures.ran)

pub returns-in-Err-Read-clause-answers : goal.returns-in-Err-Read-clause-answers
returns-in-Err-Read-clause-answers g c =
    let refused : RunFault → Result RunEnd RunFault = λ fault. Err fault in
    let is = ap refused c.in-Err-Read.field-0-is in
    (c.in-Err-Read.ensures.read is, (_, _, c.in-Err-Read.ensures.read_output is))

pub returns-in-Err-Write-clause-answers : goal.returns-in-Err-Write-clause-answers
returns-in-Err-Write-clause-answers g c =
    let refused : RunFault → Result RunEnd RunFault = λ fault. Err fault in
    let is = ap refused c.in-Err-Write.field-0-is in
    (c.in-Err-Write.ensures.write is, (_, _, c.in-Err-Write.ensures.write_output is))

pub returns-in-Err-Memory-clause-answers : goal.returns-in-Err-Memory-clause-answers
returns-in-Err-Memory-clause-answers g c =
    let refused : RunFault → Result RunEnd RunFault = λ fault. Err fault in
    let is = ap refused c.in-Err-Memory.field-0-is in
    inl (_, _, c.in-Err-Memory.ensures.memory_output is)
