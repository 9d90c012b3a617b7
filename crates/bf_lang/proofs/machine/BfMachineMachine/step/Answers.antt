use Rattle.std.proofs.Common.{sym, arith}
use Rattle.std.proofs.lemmas.Option.{slice_get_within}
use Rattle.bf_lang.specs.Machine.{code_of}
use Rattle.bf_lang.proofs.machine.BfMachineMachine.step.Goals as goal

pub act-requires : goal.act-requires
act-requires c = omega (arith, c.place-place.ensures, c.command.ensures.few, slice_get_within (code_of c.args.self.now) c.place-place.result c.in-Some.command (sym c.in-Some.ensures.command))
