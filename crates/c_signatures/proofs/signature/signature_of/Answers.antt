use Rattle.std.proofs.Common.{refl, ◌∙◌}
use Rattle.c_types.specs.Known.{OneType}
use Rattle.c_types.specs.Table.{known}
use Rattle.c_operands.proofs.OperandLemmas.{grows_then}
use Rattle.c_forms.proofs.WrittenLemmas.{function_known}
use Rattle.std.proofs.Common.{List, sym, subst}
use Rattle.c_signatures.specs.Parameters.{AreTyped}
use Rattle.c_signatures.proofs.SignatureLemmas.{parts_typed}
use Rattle.c_signatures.proofs.signature.signature_of.Goals as goal

pub returns-clause-signature : goal.returns-clause-signature
returns-clause-signature c = λ t ts h k.
    let t0 = c.args.types.now in
    let mid = c.parameter_list.new.types in
    let t2 = c.number.new.self in
    let items = c.args.parameters.items in
    let grows = grows_then (known t0) (known mid) (known t2) c.in_ok-list.ensures.grows c.in_ok-ty.ensures.grows in
    let list = c.in_ok-list.ensures.list ts (subst (λ (l : List _). AreTyped (known t0) l ts) (sym c.as_slice.ensures.value) k) in
    record {
      parameters = refl;
      result = grows c.args.gives (OneType t) h;
      ty = c.in_ok-ty.ensures.number ∙ function_known mid.tags (known mid) c.args.gives c.in_ok-list.list t ts (c.in_ok-list.ensures.grows c.args.gives (OneType t) h) list;
      typed = parts_typed t0 t2 items ts grows k;
    }
