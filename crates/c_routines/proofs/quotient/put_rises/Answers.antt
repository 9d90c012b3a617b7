use Rattle.std.proofs.Common.{[], refl, arith}
use Rattle.c_routines.specs.Divide.{rise, rises}
use Rattle.c_routines.proofs.Codes.{piece_up, piece_top}
use Rattle.c_routines.proofs.quotient.put_rises.Goals as goal

pub loop-k-preserved : goal.loop-k-preserved
unfolding rises
loop-k-preserved c =
    piece_up (λ j. rise c.args.base c.args.first j []) (rises c.args.base c.args.first) (λ a j. refl) c.args.n c.loop-k.k (omega arith) c.loop-k.items.items c.put_rise.new.items.items _ c.in_ok-put_rise.ensures c.loop-k.invariant

pub returns : goal.returns
returns c = piece_top c.put_highest.result (rises c.args.base c.args.first) c.args.n c.loop-k.k (omega arith) (omega arith) c.loop-k.items.items c.put_highest.new.items.items _ c.loop-k.invariant c.put_highest.ensures
