use Rattle.std.proofs.Common.{◌≡◌, ◌+◌, drop}
use Rattle.c_grammar.specs.Values as values
use Rattle.c_held.specs.View.{values_of}
use Rattle.c_facts.proofs.asking.all_operators.Given as goal

abbrev pub invariant-loop-part : goal.invariant-loop-part
invariant-loop-part l = l.count + values.all_operators_in (values_of (drop l.part-index l.parts)) ≡ values.all_operators_in (values_of l.parts)
