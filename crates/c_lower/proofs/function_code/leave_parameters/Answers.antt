use Rattle.std.proofs.Common.{ℕ, take, refl, ap, ◌∙◌}
use Rattle.c_signatures.proofs.BlockLemmas.{names_left}
use Rattle.c_lower.proofs.function_code.leave_parameters.Goals as goal

pub returns : goal.returns
returns c = λ h within first names.
    let old = c.args.here.now in
    let e = c.leave.new.self in
    let k = names_left h.slots.block e.block h.slots.outer e.outer old.slots.outer c.args.names within.slots c.in_ok-leave.ensures.names names c.in_ok-leave.ensures.outer in
    record {
      block = k.0;
      outer = k.1;
      bases = c.truncate.ensures.items ∙ (ap (λ (n : ℕ). take n old.bases.items) first ∙ within.bases);
      declared = refl;
      entries = refl;
    }
