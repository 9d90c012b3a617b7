use Rattle.eir_text.proofs.LawLemmas.{rise_by_number, order_by_number}
use Rattle.eir_text.proofs.laws.pieces_are_laid_out.Goals as goal

pub returns : goal.returns
returns c = record { rising = rise_by_number; order = order_by_number }
