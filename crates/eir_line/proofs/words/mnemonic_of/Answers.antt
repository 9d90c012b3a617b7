use Rattle.eir_line.specs.Words.{mnemonic_of}
use Rattle.eir_line.proofs.words.mnemonic_of.Goals as goal

pub returns : goal.returns
unfolding mnemonic_of
returns c = c.meaning.ensures
