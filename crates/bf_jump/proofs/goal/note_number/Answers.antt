use Rattle.bf_jump.proofs.Headed.{number_adds}
use Rattle.bf_jump.proofs.goal.note_number.Goals as goal

pub returns-clause-effect : goal.returns-clause-effect
returns-clause-effect c = number_adds c.args.digits c.args.number c.requires c.in_ok-note.ensures.effect

pub returns-clause-code : goal.returns-clause-code
returns-clause-code c = c.in_ok-note.ensures.code
