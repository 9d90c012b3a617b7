use Rattle.c_fewer_names.proofs.Starts.{file_objects_are_named as law}
use Rattle.c_fewer_names.proofs.laws.file_objects_are_named.Goals as goal

pub returns : goal.returns
returns c = law
