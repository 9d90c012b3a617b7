use Rattle.std.proofs.Common.{◌≡◌, ◌≢◌, ℕ, Some, subst}
use Rattle.std.specs.Prelude.{slice_get, MatchOption}
use Rattle.c_types.specs.Table.{Table}
use Rattle.c_types.proofs.NameLemmas.{number_found}
use Rattle.c_types.proofs.table.Types.tag.Goals as goal

pub returns : goal.returns
returns c =
    subst (λ (t : Table). MatchOption c.get_index_of.result ((n : ℕ) → slice_get t.tags n ≢ Some c.args.name.now) (λ n. slice_get t.tags n ≡ Some c.args.name.now)) c.self.view_is
    (number_found c.self.inside.tags.keys c.args.name.now c.get_index_of.result c.get_index_of.ensures.index)
