use Rattle.std.proofs.Common.{List, ap, ◌∙◌}
use Rattle.c_syntax.specs.Plain.{CItem}
use Rattle.c_helpers.specs.Simple.{with_helpers, kept_items}
use Rattle.c_desugar.proofs.WholeLemmas.{unit_as}
use Rattle.c_desugar.proofs.whole.desugar_unit.Goals as goal

pub returns : goal.returns
returns c = λ end typed.
    ap (λ (l : List CItem). unit_as l c.args.unit.now.end)
    (c.in_ok-keep_reached.ensures.kept ∙ (ap kept_items c.in_ok-all.ensures ∙ ap (λ (l : List CItem). kept_items (with_helpers l)) (c.in_ok-own.ensures end typed)))
