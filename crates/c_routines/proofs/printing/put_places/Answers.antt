use Rattle.std.proofs.Common.{◌+◌, ◌^◌, [], ◌∷◌, refl, arith}
use Rattle.c_routines.specs.declared.item.Item.TheVariants.{Label}
use Rattle.c_routines.specs.Numeral.{radix_number, begins, digit, last, places}
use Rattle.c_routines.proofs.Codes.{piece_down, piece_end}
use Rattle.c_routines.proofs.Lettered.{places_more}
use Rattle.c_routines.proofs.printing.put_places.Goals as goal

pub loop-j-preserved : goal.loop-j-preserved
loop-j-preserved c =
    piece_down (λ j. Label (begins c.args.radix c.args.base (j + 1)) ∷ digit c.args.radix c.args.base (j + 1) (radix_number c.args.radix ^ (j + 1)) []) (places c.args.radix c.args.base) (λ j. places_more c.args.radix c.args.base j)
    c.loop-j.j (omega arith) c.loop-j.items.items c.put_digit.new.items.items _ c.in_ok-put_digit.ensures c.loop-j.invariant

pub returns : goal.returns
unfolding places
returns c =
    piece_end c.put_last.result (places c.args.radix c.args.base) (last c.args.radix c.args.base) refl c.loop-j.j (omega arith) c.loop-j.items.items c.put_last.new.items.items _ c.loop-j.invariant c.put_last.ensures
