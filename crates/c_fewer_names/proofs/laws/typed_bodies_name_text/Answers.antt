use Rattle.c_fewer_names.proofs.TextNamesStatements.{typed_bodies_name_text as law}
use Rattle.c_fewer_names.proofs.laws.typed_bodies_name_text.Goals as goal

pub returns : goal.returns
returns c = law
