use Rattle.std.proofs.lemmas.List.Splits.{join_with_byte-slice_split}
use Rattle.eir_text.proofs.LawLemmas.{parts_apart}
use Rattle.eir_text.proofs.laws.lines_make_the_text.Goals as goal

pub returns : goal.returns
returns c = record { joined = join_with_byte-slice_split 10; apart = parts_apart }
