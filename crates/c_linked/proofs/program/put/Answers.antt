use Rattle.std.proofs.Common.{◌≡◌, ◌∙◌, sym, length, arith}
use Rattle.c_linked.proofs.EntryLemmas.{one_more, none_more}
use Rattle.c_linked.proofs.program.put.Goals as goal

pub returns-then-function-len-clause-more : goal.returns-then-function-len-clause-more
returns-then-function-len-clause-more c = λ count compiled n g. one_more c.args.table.now.items count c.args.one compiled n g

pub returns-else-function-len-clause-more : goal.returns-else-function-len-clause-more
returns-else-function-len-clause-more c = λ count compiled n g.
    let long : length c.args.table.now.items ≡ c.len.result = sym (c.len.ensures ∙ c.args.table.now.ok.0) in
    none_more c.args.table.now.items count c.args.one compiled (omega (arith, n, long, c.if-function-len.false)) g
