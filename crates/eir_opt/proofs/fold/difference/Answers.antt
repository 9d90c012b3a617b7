use Rattle.word24.specs.Word.{difference_word}
use Rattle.eir_opt.proofs.WordsMade.{made-Some}
use Rattle.eir_opt.proofs.fold.difference.Goals as goal

pub returns : goal.returns
returns c = made-Some difference_word c.args.x c.args.y c.in_ok-x.field-0 c.in_ok-y.field-0 c.sub.result c.in_ok-x.was c.in_ok-y.was c.sub.ensures
