use Rattle.std.proofs.Common.{◌≡◌, sym, subst}
use Rattle.std.specs.Prelude.{IfOk}
use Rattle.c_syntax.specs.Plain.{CUnit}
use Rattle.c_syntax.specs.View.{unit_of}
use Rattle.c_types.specs.Typed.{plain_of}
use Rattle.c_types.specs.Limits.{IsTyped}
use Rattle.c_helpers.specs.Simple.{desugared}
use Rattle.c_desugar.proofs.WholeLemmas.{typed_end}
use Rattle.c_desugar.proofs.whole.desugar.Goals as goal

pub returns : goal.returns
returns c =
    let u = unit_of c.unit.result.now in
    let own : u ≡ plain_of c.args.typed.now = c.unit.ensures.unit in
    let end = typed_end u (subst (λ (v : CUnit). IsTyped v) (sym own) c.unit.ensures.typed) in
    subst (λ (v : CUnit). IfOk c.desugar_unit.result (λ r. unit_of r ≡ desugared v)) own (c.desugar_unit.ensures end.0 end.1)
