use Rattle.c_place.proofs.Sizes.{cut_size, cut_is_eir}
use Rattle.c_place.proofs.laws.cut_is_program.Goals as goal

pub returns : goal.returns
returns c = λ ops words closed. (cut_size ops words closed, cut_is_eir ops words closed)
