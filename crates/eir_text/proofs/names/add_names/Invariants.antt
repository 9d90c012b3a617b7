use Rattle.std.proofs.Common.{List, ◌++◌, ℕ}
use Rattle.eir_text.specs.Names.{repeats}
use Rattle.eir_text.specs.Reading.{texts, Holds}
use Rattle.eir_text.proofs.NameLemmas.{LabelsSoFar}
use Rattle.eir_text.proofs.names.add_names.Given as goal

abbrev pub invariant-loop-name : goal.invariant-loop-name
invariant-loop-name l = (before : List (List ℕ)) → Holds l.fn.names before → LabelsSoFar l.labels l.name-index l.names.keys l.again (before ++ texts l.labels) (repeats before (texts l.labels))
