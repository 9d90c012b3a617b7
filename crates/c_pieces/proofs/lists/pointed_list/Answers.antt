use Rattle.std.proofs.Common.{sym, ◌∙◌}
use Rattle.c_types.specs.Table.{known}
use Rattle.c_operands.proofs.ClassLemmas.{points_to}
use Rattle.c_pieces.proofs.lists.pointed_list.Goals as goal

pub parameter_list-requires : goal.parameter_list-requires
parameter_list-requires c =
    let table = c.args.types.now in
    let p = points_to table.tags (known table) c.shape.result c.in-Some.to c.requires.0 (sym c.in-Some.ensures) (c.shape.ensures.says ∙ c.requires.1) in
    (p.0, p.2)
