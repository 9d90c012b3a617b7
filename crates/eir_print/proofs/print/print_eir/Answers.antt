use Rattle.std.proofs.Common.{◌++◌, subst}
use Rattle.mach_core.specs.Put.{Passes}
use Rattle.eir_print.specs.Printed.{printed}
use Rattle.mach_core.proofs.Ahead.{flushed_prefix}
use Rattle.eir_print.proofs.print.print_eir.Goals as goal

pub returns-clause-prefix : goal.returns-clause-prefix
returns-clause-prefix g c = flushed_prefix (g.O.Sink.got c.args.out.now) (g.O.Sink.got c.put_program.new.out) (g.O.Sink.got c.flush.new.out) (printed c.args.p.now) c.put_program.new.put c.flush.result (subst (λ h. Passes (g.O.Sink.got c.args.out.now) (g.O.Sink.got c.put_program.new.out) (h ++ printed c.args.p.now) c.put_program.new.put) c.new-put.ensures c.in_ok-put_program.ensures.ok) c.flush.ensures.err
