use Rattle.std.proofs.Common.{◌≡◌, ℕ, List, Option, ap, ◌∙◌}
use Rattle.std.specs.Prelude.{Some, slice_get}
use Rattle.c_types.specs.Types as types
use Rattle.c_types.specs.declared.shape.Shape.TheVariants as shape
use Rattle.c_types.specs.Known.{OneType, of_tag, says}
use Rattle.c_types.specs.Table.{known}
use Rattle.c_operands.proofs.NameLemmas.{fits_kept}
use Rattle.c_expressions.proofs.KeptLemmas.{layouts_at}
use Rattle.c_operands.proofs.OperandLemmas.{type_within}
use Rattle.c_forms.proofs.WrittenLemmas.{known_some}
use Rattle.c_check.proofs.items.struct_is_wide.Goals as goal

pub number-requires : goal.number-requires
number-requires c =
    let table = c.args.types.now in
    let n = c.requires in
    known_some (says table.tags (known table) (shape.Struct c.args.number)) (OneType (types.Struct n.0)) (ap (λ (o : Option (List ℕ)). of_tag o) n.1)

pub has_wide-requires : goal.has_wide-requires
has_wide-requires c =
    let n = c.requires in
    type_within c.number.new.self c.in_ok-ty.ty (types.Struct n.0) (c.in_ok-ty.ensures.number ∙ ap (λ (o : Option (List ℕ)). of_tag o) n.1)

pub returns-clause-wide : goal.returns-clause-wide
returns-clause-wide c = λ s name is holds.
    let old = c.args.types.now in
    let new = c.number.new.self in
    let d = c.args.declared.now in
    c.has_wide.ensures.one (types.Struct name) s.tags (c.in_ok-ty.ensures.number ∙ ap (λ (o : Option (List ℕ)). of_tag o) is)
    (layouts_at new d s c.as_slice.result.now c.as_slice.ensures.value (fits_kept old new d s c.in_ok-ty.ensures.grows c.in_ok-ty.ensures.tags holds.fits))
