use Rattle.std.proofs.Common.{◌≡◌, sym, subst, ◌∙◌}
use Rattle.c_syntax.specs.Words.{meaning}
use Rattle.c_types.specs.Types.{is_object_type}
use Rattle.c_types.specs.Table.{known}
use Rattle.c_layouts.proofs.SizeLemmas.{tag_is}
use Rattle.c_layouts.proofs.size.+is_object_type.Goals as goal

pub returns-in-Some-tag_of : goal.returns-in-Some-tag_of
returns-in-Some-tag_of t c = λ u tags h all.
    let p = tag_is c.args.types.now.tags (known c.args.types.now) c.shape-shape.result c.in-Some-tag_of.tag u (sym c.in-Some-tag_of.ensures) (c.shape-shape.ensures.says ∙ h) in
    subst (λ v. c.struct_is_finished.result ≡ is_object_type tags v) (sym p.1)
    (c.struct_is_finished.ensures (known c.args.types.now) (meaning tags p.0) (all c.in-Some-tag_of.tag p.0 p.2))
