use Rattle.std.proofs.Common.{◌≡◌, ℕ, Some, sym, subst}
use Rattle.std.specs.Prelude.{slice_get}
use Rattle.c_types.specs.Known.{OneType}
use Rattle.c_types.specs.Table.{Table, table_of, known}
use Rattle.c_types.proofs.TableLemmas.{same_numbers}
use Rattle.c_types.proofs.table.Types.is_same.Goals as goal

pub returns : goal.returns
returns c = λ t u at_a at_b.
    same_numbers (known (table_of c.self.inside.tags.keys c.self.inside.shapes.keys)) c.args.a c.args.b t u c.self.invariant.one c.equal_types_are_one.ensures
    (subst (λ (all : Table). slice_get (known all) c.args.a ≡ Some (OneType t)) (sym c.self.view_is) at_a)
    (subst (λ (all : Table). slice_get (known all) c.args.b ≡ Some (OneType u)) (sym c.self.view_is) at_b)
