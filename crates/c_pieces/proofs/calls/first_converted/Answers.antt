use Rattle.std.proofs.Common.{sym, ◌∙◌}
use Rattle.c_types.specs.Table.{known}
use Rattle.c_operands.proofs.ListLemmas.{none_is}
use Rattle.c_pieces.proofs.CallLemmas.{nothing_first}
use Rattle.c_pieces.proofs.calls.first_converted.Goals as goal

pub returns-in-None : goal.returns-in-None
returns-in-None c = λ ts h.
    let table = c.args.types.now in
    nothing_first c.args.out.now ts (none_is table.tags (known table) c.shape.result ts (sym c.first_type.ensures ∙ c.in-None.is) (c.shape.ensures.says ∙ h))
