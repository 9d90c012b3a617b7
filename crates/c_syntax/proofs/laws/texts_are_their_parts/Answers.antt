use Rattle.c_syntax.proofs.Parts.{texts_are_their_parts}
use Rattle.c_syntax.proofs.laws.texts_are_their_parts.Goals as goal

pub returns : goal.returns
returns c = texts_are_their_parts
