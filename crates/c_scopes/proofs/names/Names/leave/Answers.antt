use Rattle.std.proofs.Common.{◌≡◌, sym, ap, ◌∙◌}
use Rattle.c_scopes.specs.Stack.{pairs}
use Rattle.c_scopes.proofs.BlockLemmas.{pairs_split}
use Rattle.c_scopes.proofs.names.Names.leave.Goals as goal

pub returns-clause-names : goal.returns-clause-names
returns-clause-names c = pairs_split c.keep.new.declared.items c.args.mark ∙ (ap pairs c.in_ok-keep.ensures.front ∙ ap (λ b. b.outer) c.self.view_is)
