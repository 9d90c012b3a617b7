use Rattle.std.proofs.Common.{[], ◌∷◌}
use Rattle.c_applied.proofs.LeadsLemmas.{on_ok, same_number}
use Rattle.c_lower_data.proofs.LetterLemmas.{words_then}
use Rattle.c_lower_data.proofs.letters.add_text.Goals as goal

pub returns : goal.returns
returns c = on_ok c.add_number.result (λ e. words_then c.args.words.now.items c.add_bytes.new.words.items c.add_number.new.words.items c.args.text.now (0 ∷ []) c.in_ok-add_bytes.ensures e) (c.add_number.ensures 0 (same_number 0))
