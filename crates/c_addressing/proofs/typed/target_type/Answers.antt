use Rattle.std.proofs.Common.{ℕ, sym, subst, ap, ◌∙◌}
use Rattle.std.specs.Prelude.{Option}
use Rattle.std.proofs.lemmas.Option.{slice_get_within}
use Rattle.c_types.specs.Types.{decayed}
use Rattle.c_types.specs.Known.{OneType}
use Rattle.c_types.specs.Table.{known}
use Rattle.c_addressing.specs.Classes.{AimsAt}
use Rattle.c_addressing.proofs.ClassLemmas.{aim_is}
use Rattle.c_addressing.proofs.typed.target_type.Goals as goal

pub shape-requires : goal.shape-requires
shape-requires c = slice_get_within (known c.args.types.now) c.args.ty (OneType c.requires.0) c.requires.1

pub returns : goal.returns
returns c = λ t is.
    let table = c.args.types.now in
    subst (λ (o : Option ℕ). AimsAt table o (decayed t)) (sym c.aim.ensures) (aim_is table c.shape.result t (c.shape.ensures.says ∙ is))
