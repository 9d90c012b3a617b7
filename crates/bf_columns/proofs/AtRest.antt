-- Operations on the whole tape.
use Rattle.bf_columns.specs.Rest.{ground, WordsActAtRest}
use Rattle.std.proofs.Common.{refl}

pub acts_at_rest : WordsActAtRest
acts_at_rest input code r r' m most taken output acts = acts.does input (ground m taken output) refl
