use Rattle.std.proofs.Common.{◌≡◌, ◌++◌, [], OnOk, refl, subst, arith}
use Rattle.c_routines.specs.Numeral.{highest, find, finds, places}
use Rattle.c_routines.proofs.Codes.{piece_up, piece_top}
use Rattle.c_routines.proofs.printing.put_numeral.Goals as goal

pub loop-k-preserved : goal.loop-k-preserved
unfolding finds
loop-k-preserved c =
    piece_up (λ j. find c.args.radix c.args.base j []) (finds c.args.radix c.args.base) (λ a j. refl) (highest c.args.radix) c.loop-k.k (omega (arith, c.highest-top.ensures.place)) c.loop-k.items.items c.put_find.new.items.items _ c.in_ok-put_find.ensures c.loop-k.invariant

pub returns : goal.returns
unfolding finds
returns c =
    piece_top c.put_places.result (finds c.args.radix c.args.base) (highest c.args.radix) c.loop-k.k (omega (arith, c.highest-top.ensures.place)) (omega (arith, c.highest-top.ensures.place)) c.loop-k.items.items c.put_places.new.items.items _ c.loop-k.invariant
    (subst (λ n. OnOk c.put_places.result (c.put_places.new.items.items ≡ c.loop-k.items.items ++ places c.args.radix c.args.base n)) c.highest-top.ensures.place c.put_places.ensures)
