use Rattle.c_declared.proofs.EntityLemmas.{found_in_block, none_in_block}
use Rattle.std.proofs.Common.{sym, ◌∙◌}
use Rattle.c_declared.proofs.functions.found_here.Goals as goal

pub returns-then-is_declared_here : goal.returns-then-is_declared_here
returns-then-is_declared_here c = λ s fits.
    let names = c.args.declared.now.names in
    found_in_block c.args.types.now names.block names.outer s.block c.args.name.now c.get.result fits.block (sym c.is_declared_here.ensures ∙ c.if-is_declared_here.true) c.get.ensures

pub returns-else-is_declared_here : goal.returns-else-is_declared_here
returns-else-is_declared_here c = λ s fits.
    let names = c.args.declared.now.names in
    none_in_block c.args.types.now names.block s.block c.args.name.now fits.block (sym c.is_declared_here.ensures ∙ c.if-is_declared_here.false)
