use Rattle.std.proofs.Common.{◌≡◌, ◌++◌, length, take, sym, ap, ◌∙◌, arith}
use Rattle.c_scopes.specs.Stack.{pairs}
use Rattle.c_scopes.proofs.BlockLemmas.{take_all, pairs_split}
use Rattle.c_scopes.proofs.names.Names.enter.Goals as goal

pub returns-clause-outer : goal.returns-clause-outer
returns-clause-outer c =
    let items = c.self.inside.declared.items in
    let count : c.len-self-inside.result ≡ length items = omega arith in
    ap (λ n. pairs (take n items)) count
    ∙ (ap pairs (take_all items) ∙ (sym (pairs_split items c.self.inside.start) ∙ ap (λ b. b.block ++ b.outer) c.self.view_is))
