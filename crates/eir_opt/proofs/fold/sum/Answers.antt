use Rattle.word24.specs.Word.{sum_word}
use Rattle.eir_opt.proofs.WordsMade.{made-Some}
use Rattle.eir_opt.proofs.fold.sum.Goals as goal

pub returns : goal.returns
returns c = made-Some sum_word c.args.x c.args.y c.in_ok-x.field-0 c.in_ok-y.field-0 c.add.result c.in_ok-x.was c.in_ok-y.was c.add.ensures
