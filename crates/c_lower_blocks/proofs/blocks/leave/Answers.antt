use Rattle.std.proofs.Common.{ℕ, take, ap, ◌∙◌}
use Rattle.c_lower_blocks.proofs.InsideLemmas.{names_left}
use Rattle.c_lower_blocks.proofs.blocks.leave.Goals as goal

pub returns : goal.returns
returns c = λ h inside marks.
    let old = c.args.here.now in
    let d = h.declared.names in
    let e = c.leave.new.self in
    let f = c.leave-2.new.self in
    let k = names_left d.block e.block d.outer e.outer old.declared.names.outer c.args.marks.names inside.names c.in_ok-leave.ensures.names marks.names c.in_ok-leave.ensures.outer in
    let m = names_left h.slots.block f.block h.slots.outer f.outer old.slots.outer c.args.marks.slots inside.slots c.in_ok-leave-2.ensures.names marks.slots c.in_ok-leave-2.ensures.outer in
    record {
      names = k.0;
      slots = m.0;
      beside = record {
        declared = record { outer = k.1; layouts = inside.layouts; defined = inside.defined };
        slots = m.1;
        bases = c.truncate.ensures.items ∙ (ap (λ (n : ℕ). take n old.bases.items) marks.bases ∙ inside.bases);
        entries = inside.entries;
      };
    }
