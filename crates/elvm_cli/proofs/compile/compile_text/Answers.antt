use Rattle.std.proofs.Common.{inl}
use Rattle.elvm_cli.proofs.Compiled.{put}
use Rattle.elvm_cli.proofs.Shows.{same_is_quiet}
use Rattle.elvm_cli.proofs.compile.compile_text.Goals as goal

pub returns-in-Ok : goal.returns-in-Ok
returns-in-Ok g c = put _ c.args.text.now c.put_program.result c.in-Ok.program c.in-Ok.ensures.ok c.put_program.ensures

pub returns-in-Err : goal.returns-in-Err
returns-in-Err g c = inl (c.in-Err.ensures.err, same_is_quiet (g.O.Sink.got c.args.out.now))
