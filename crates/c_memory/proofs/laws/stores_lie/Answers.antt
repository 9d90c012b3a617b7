use Rattle.c_memory.proofs.Lying.{holder, store_lies}
use Rattle.c_memory.proofs.laws.stores_lie.Goals as goal

pub returns : goal.returns
returns c = λ g bs os mem top o k w cell v l e s. store_lies os o k cell v (holder os o k cell e) g bs mem top w l s
