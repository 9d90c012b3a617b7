use Rattle.std.proofs.Common.{refl, sym, ◌∙◌}
use Rattle.ws_lang.specs.Cursor.{left}
use Rattle.ws_lang.proofs.ReadLemmas.{number_outside}
use Rattle.ws_lang.proofs.read.read_number.Goals as goal

pub returns-clause-answer : goal.returns-clause-answer
returns-clause-answer c = (refl, number_outside (left c.args.cursor.now) (left c.read_label.new.cursor) c.in_ok-bits.bits.items c.in-Some.digits.now c.in-Some.negative.now c.in_ok-bits.ensures.answer (sym c.deref.ensures.value ∙ c.in-Some.ensures.cases.0) c.in-None.ensures)
