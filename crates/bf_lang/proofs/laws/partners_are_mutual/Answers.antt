use Rattle.bf_lang.specs.Balance.{is_open, is_close}
use Rattle.bf_lang.specs.Text.{is_open_byte, is_close_byte}
use Rattle.bf_lang.proofs.Pairs.{mutual_close, mutual_open}
use Rattle.bf_lang.proofs.Scanned.{bytes_apart}
use Rattle.bf_lang.proofs.Depths.{commands_apart}
use Rattle.bf_lang.proofs.laws.partners_are_mutual.Goals as goal

pub returns-clause-texts : goal.returns-clause-texts
returns-clause-texts c = λ text i j. (mutual_close is_open_byte is_close_byte text bytes_apart i j, mutual_open is_open_byte is_close_byte text bytes_apart i j)

pub returns-clause-programs : goal.returns-clause-programs
returns-clause-programs c = λ code i j. (mutual_close is_open is_close code commands_apart i j, mutual_open is_open is_close code commands_apart i j)
