use Rattle.std.proofs.Common.{◌+◌, ap, ◌∙◌}
use Rattle.wasm_rule.specs.Memory.{Memory}
use Rattle.wasm_parts.proofs.Paged.{same_pages}
use Rattle.wasm_parts.proofs.Fits.{on_err_always}
use Rattle.wasm_parts.proofs.memory.Pages.grow.Goals as goal

pub returns-in_err-lengthen-clause-err : goal.returns-in_err-lengthen-clause-err
returns-in_err-lengthen-clause-err c =
    on_err_always c.from_residual.result
    (ap (λ bytes. record { pages = c.self.inside.count; bytes = bytes }) (same_pages c.self.inside.pages.items c.lengthen.new.pages.items c.lengthen.ensures.same) ∙ c.self.view_is)

pub returns-clause-ok : goal.returns-clause-ok
returns-clause-ok c =
    ap (λ bytes. record { pages = c.self.inside.count + c.args.more; bytes = bytes }) (same_pages c.self.inside.pages.items c.lengthen.new.pages.items c.lengthen.ensures.same)
    ∙ ap (λ (m : Memory). record { pages = m.pages + c.args.more; bytes = m.bytes }) c.self.view_is
