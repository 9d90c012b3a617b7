use Rattle.std.proofs.Common.{◌∙◌}
use Rattle.c_pieces.proofs.lists.arguments.Goals as goal

pub returns-clause-told : goal.returns-clause-told
returns-clause-told c = λ ts h. record { are = λ names p e. (c.in_ok-number.ensures, c.in_ok-kinds.ensures.span.is names p e ∙ (c.deref.ensures.value ∙ c.in_ok-all.ensures ts h)) }
