use Rattle.piet_image.proofs.Written.{written_spells}
use Rattle.piet_image.proofs.laws.written_images_are_spelled.Goals as goal

pub returns : goal.returns
returns c = written_spells
