use Rattle.std.proofs.Common.{◌<◌, List, [], ℕ, Bor, length, get_or, arith}
use Rattle.eir_text.proofs.Steps.{drop_here}
use Rattle.eir_text.proofs.NameLemmas.{define_step}
use Rattle.eir_text.proofs.values.define.Goals as goal

pub loop-label-preserved : goal.loop-label-preserved
loop-label-preserved c = λ name.
    let k : Bor (List ℕ) = get_or c.args.labels.now c.loop-label.label-index (record { ref_ptr = (0, 0); now = [] }) in
    let inside : c.loop-label.label-index < length c.args.labels.now = omega arith in
    define_step c.args.labels.now c.loop-label.label-index k _ c.loop-label.numbers.entries c.insert.new.self.entries name _
    (drop_here c.args.labels.now c.loop-label.label-index (record { ref_ptr = (0, 0); now = [] }) inside) c.in_ok-insert.ensures.entries (c.loop-label.invariant name)
