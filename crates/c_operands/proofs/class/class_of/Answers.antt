use Rattle.std.proofs.Common.{sym, ap, ◌∙◌}
use Rattle.c_types.specs.Table.{known}
use Rattle.c_operands.specs.Classes.{pointer_class, class_of}
use Rattle.c_operands.proofs.ClassLemmas.{shape_class, no_pointer, points_to}
use Rattle.c_operands.proofs.class.class_of.Goals as goal

pub returns-in-Some : goal.returns-in-Some
returns-in-Some c = λ t h.
    let p = points_to c.args.types.now.tags (known c.args.types.now) c.shape-shape.result c.in-Some.to t (sym c.in-Some.ensures) (c.shape-shape.ensures.says ∙ h) in
    let inner = shape_class c.args.types.now.tags (known c.args.types.now) c.shape.result p.0 (c.shape.ensures.says ∙ p.2) in
    c.pointer_class.ensures ∙ (ap pointer_class (c.plain_class.ensures ∙ inner) ∙ sym (ap class_of p.1))

pub returns-in-None : goal.returns-in-None
returns-in-None c = λ t h.
    c.plain_class-in-None.ensures
    ∙ no_pointer c.args.types.now.tags (known c.args.types.now) c.shape-shape.result t (sym c.in-None.ensures) (c.shape-shape.ensures.says ∙ h)
