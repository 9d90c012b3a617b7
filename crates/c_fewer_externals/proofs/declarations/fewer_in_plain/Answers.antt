use Rattle.std.proofs.Common.{◌∙◌}
use Rattle.std.specs.Prelude.{option_map}
use Rattle.c_syntax.specs.View.{maybe_value, ty_of}
use Rattle.c_helpers.specs.Fewer as fewer
use Rattle.c_fewer_declarations.proofs.StandingLemmas.{declaration_is}
use Rattle.c_fewer_externals.proofs.DeclarationLemmas.{same_first}
use Rattle.c_fewer_externals.proofs.declarations.fewer_in_plain.Goals as goal

pub returns-clause-tree : goal.returns-clause-tree
returns-clause-tree c = λ s stands.
    let d = c.args.d.now in
    declaration_is c.in_ok-name.name d.name d.pos (ty_of c.in_ok-ty.ty) (fewer.fewer_in_type s (ty_of d.ty)) (maybe_value c.in_ok-first.first) (option_map (fewer.with_values (λ e. e)) (maybe_value d.first))
    c.in_ok-name.ensures (c.in_ok-ty.ensures.tree s stands) (c.in_ok-first.ensures ∙ same_first (maybe_value d.first))
