use Rattle.std.proofs.Common.{[], inl, refl}
use Rattle.elvm_cli.proofs.Shows.{same_is_quiet}
use Rattle.elvm_cli.proofs.line.tell.Goals as goal

pub returns-in-Done : goal.returns-in-Done
returns-in-Done g c = record { front = []; rest = []; got = same_is_quiet (g.E.Sink.got c.args.errs.now); whole = rw c.in-Done.is refl; all = inl refl }
