use Rattle.std.proofs.Common.{List, sym, subst}
use Rattle.c_types.specs.declared.shape.Shape.{Shape}
use Rattle.c_types.specs.Table.{texts, known_by, AreMade}
use Rattle.c_types.proofs.TableLemmas.{nothing_made}
use Rattle.c_types.proofs.NameLemmas.{names_apart}
use Rattle.c_types.proofs.table.Types.new.Goals as goal

pub invariant_of-result : goal.invariant_of-result
invariant_of-result c =
    subst (λ (shapes : List Shape). AreMade (texts c.args.tags.keys) shapes (known_by (texts c.args.tags.keys) shapes)) (sym c.new.ensures.empty)
    (nothing_made (texts c.args.tags.keys) (names_apart c.args.tags.keys c.len-count.ensures.unique))
