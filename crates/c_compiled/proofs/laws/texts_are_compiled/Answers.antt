use Rattle.c_compiled.proofs.Texts.{texts_are_compiled as law}
use Rattle.c_compiled.proofs.laws.texts_are_compiled.Goals as goal

pub returns : goal.returns
returns c = law c.units_declare_in_blocks.ensures
