use Rattle.elvm_cli.proofs.compile.put_program.Goals as goal

pub returns-in-Ok : goal.returns-in-Ok
returns-in-Ok g c = c.in-Ok.ensures.text

pub returns-in-Err : goal.returns-in-Err
returns-in-Err g c = (c.in-Err.ensures.cause.failed, c.in-Err.ensures.prefix)
