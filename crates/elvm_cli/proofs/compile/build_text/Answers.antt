use Rattle.std.proofs.Common.{inl}
use Rattle.elvm_cli.proofs.Compiled.{built}
use Rattle.elvm_cli.proofs.Shows.{same_is_quiet}
use Rattle.elvm_cli.proofs.compile.build_text.Goals as goal

pub returns-in-Ok : goal.returns-in-Ok
returns-in-Ok g c = built _ _ _ _ _ _ c.args.text.now c.emit_program.result c.in-Ok.program c.in-Ok.ensures.ok c.emit_program.ensures

pub returns-in-Err : goal.returns-in-Err
returns-in-Err g c = inl (c.in-Err.ensures.err, same_is_quiet (g.O.Sink.got c.args.out.now))
