use Rattle.c_fewer_items.proofs.Files.{file_stands as law}
use Rattle.c_fewer_items.proofs.laws.files_stand_as_scopes.Goals as goal

pub returns : goal.returns
returns c = law
