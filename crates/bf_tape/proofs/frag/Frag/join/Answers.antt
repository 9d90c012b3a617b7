use Rattle.std.proofs.Common.{subst, sym}
use Rattle.bf_lang.proofs.Partners.{balanced_append}
use Rattle.bf_lang.specs.Balance.{IsBalanced}
use Rattle.bf_tape.proofs.frag.Frag.join.Goals as goal

pub invariant_of-self-2 : goal.invariant_of-self-2
invariant_of-self-2 c = record {
  balanced = subst (λ xs. IsBalanced xs) (sym c.in_ok-extend_from_slice.ensures.items) (balanced_append c.self.inside.commands.items c.args.code.now c.self.invariant.balanced c.requires.balanced);
  cell = c.requires.cell;
}
