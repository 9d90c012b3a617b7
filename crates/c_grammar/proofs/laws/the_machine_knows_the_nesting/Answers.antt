use Rattle.c_grammar.proofs.Deep.{depths_are_read}
use Rattle.c_grammar.proofs.laws.the_machine_knows_the_nesting.Goals as goal

pub returns : goal.returns
returns c = depths_are_read
