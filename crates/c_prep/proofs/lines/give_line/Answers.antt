use Rattle.std.proofs.Common.{◌∙◌, true, refl, ap, arith}
use Rattle.c_prep.specs.Lines.{text_acts}
use Rattle.c_prep.specs.Views.{macros_of}
use Rattle.c_prep.proofs.Reading.{given_none, given_all, line_more, empty, slice_cut}
use Rattle.c_prep.proofs.lines.give_line.Goals as goal

pub loop-rest-init : goal.loop-rest-init
loop-rest-init c = record { macros = refl; small = omega arith; acts = λ most fits. given_none _ _ }

pub loop-rest-preserved : goal.loop-rest-preserved
loop-rest-preserved c =
    record {
      macros = c.in_ok-expand.ensures.macros ∙ c.loop-rest.invariant.macros;
      small = omega (arith, c.in_ok-expand.ensures.size, c.loop-rest.invariant.small);
      acts = λ most fits. line_more most (macros_of c.args.table.now) (macros_of c.loop-rest.table) c.args.out.now c.loop-rest.out c.expand.new.out c.args.line.now c.loop-rest.rest.now _ c.raw-item.result
          c.loop-rest.invariant.macros (slice_cut c.loop-rest.rest.now c.raw-item.result c.in-len1-up.len_at_least c.raw-item.is) (c.loop-rest.invariant.acts most fits) (c.in_ok-expand.ensures.acts most (omega (arith, fits, c.loop-rest.invariant.small)));
    }

pub returns : goal.returns
returns c =
    record {
      macros = c.loop-rest.invariant.macros;
      size = c.loop-rest.invariant.small;
      acts = λ most fits. given_all c.args.out.now c.loop-rest.out _ _ (ap (text_acts most true (macros_of c.args.table.now)) (empty c.loop-rest.rest.now c.in_default.len_below)) (c.loop-rest.invariant.acts most fits);
    }
