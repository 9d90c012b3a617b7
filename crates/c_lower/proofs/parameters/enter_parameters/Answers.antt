use Rattle.std.proofs.Common.{◌≡◌, length, refl, arith}
use Rattle.c_addressing.specs.declared.here.Here.{Here}
use Rattle.c_lower.proofs.ParameterLemmas.{knows}
use Rattle.c_lower.proofs.parameters.enter_parameters.Goals as goal

pub returns-clause-knows : goal.returns-clause-knows
returns-clause-knows c =
    let h = c.args.here.now in
    let e : Here = record h { slots = c.number_parameters.new.slots; bases = c.place_parameters.new.bases } in
    let ends : c.len-end.result ≡ length e.bases.items = omega arith in
    knows h e c.args.parameters.now (length c.args.parameters.now) c.len-end.result c.enter-names.new.self refl c.enter-names.ensures.block c.enter-names.ensures.outer c.in_ok-free.ensures.places ends c.in_ok-number_parameters.ensures.block c.in_ok-number_parameters.ensures.outer refl refl
