use Rattle.std.proofs.Common.{drop}
use Rattle.c_types.specs.Table.{texts}
use Rattle.c_lower_data.proofs.LetterLemmas.{Addressing}
use Rattle.c_lower_data.proofs.letters.add_addresses.Given as goal

abbrev pub invariant-loop-text : goal.invariant-loop-text
invariant-loop-text l = Addressing l.fn.addresses.items l.addresses.items l.from l.address (texts l.literals) (texts (drop l.text-index l.literals))
