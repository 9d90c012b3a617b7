use Rattle.std.proofs.Common.{refl, ap, length, List}
use Rattle.c_emission.specs.declared.location.Location.{Location}
use Rattle.c_lower_blocks.proofs.InsideLemmas.{taken}
use Rattle.c_lower_blocks.proofs.blocks.enter.Goals as goal

pub returns : goal.returns
returns c =
    let h = c.args.here.now in
    record {
      names = c.enter-names.ensures.block;
      slots = c.enter-slots.ensures.block;
      bases = refl;
      inside = record {
        names = c.enter-names.ensures.outer;
        slots = c.enter-slots.ensures.outer;
        layouts = refl;
        defined = refl;
        bases = taken h.bases.items h.bases.items refl;
        entries = refl;
      };
      marks = record { names = c.enter-names.ensures.mark; slots = c.enter-slots.ensures.mark; bases = ap (λ (l : List Location). length l) c.as_slice-bases.ensures.value };
    }
