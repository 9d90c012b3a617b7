use Rattle.std.proofs.Common.{sym, ap}
use Rattle.c_syntax.specs.declared.tree.BinOp.{BinOp}
use Rattle.c_helpers.specs.Fewer as fewer
use Rattle.c_fewer_operators.proofs.TreeLemmas.{made, words_else}
use Rattle.c_fewer_operators.proofs.places.words_by.Goals as goal

pub returns-in-Sub : goal.returns-in-Sub
returns-in-Sub c = λ s t stands has.
    made c.words_back.result (fewer.words_back s.tags t) (fewer.words_by c.args.op s.tags t) (ap (λ (o : BinOp). fewer.words_by o s.tags t) (sym c.in-Sub.is)) (c.words_back.ensures s t stands has)

pub returns-in_default : goal.returns-in_default
returns-in_default c = λ s t stands has.
    made c.words_in.result (fewer.words_in s.tags t) (fewer.words_by c.args.op s.tags t) (words_else c.args.op s.tags t c.in_default.not-Sub) (c.words_in.ensures s t stands has)
