use Rattle.std.proofs.Common.{◌-ℤ◌, w64, FitsSigned, rules, refl, ap, ◌∙◌}
use Rattle.std.proofs.lemmas.Int.{to_z-of_z}
use Rattle.std.specs.Prelude.{unsigned_abs}
use Rattle.sq_lang.specs.Step.{cell_at}
use Rattle.sq_lang.proofs.HeldSteps.{quiet_step}
use Rattle.sq_lang.proofs.buffered.subtract_at.Goals as goal

pub returns : goal.returns
returns c =
    let fits_a : FitsSigned w64 c.in-Some.a = search rules in
    let fits_b : FitsSigned w64 c.in-Some.b = search rules in
    let fits_target : FitsSigned w64 c.in-Some.target = search rules in
    let fits_to : FitsSigned w64 c.get.result = search rules in
    let fits_from : FitsSigned w64 c.get-2.result = search rules in
    let fits_difference : FitsSigned w64 c.in-Some-checked_sub.difference = search rules in
    let fits_next : FitsSigned w64 c.address_after.result = search rules in
    let at_is = to_z-of_z w64 c.args.at c.ranges.at in
    let a_is = to_z-of_z w64 c.in-Some.a fits_a in
    let b_is = to_z-of_z w64 c.in-Some.b fits_b in
    let target_is = to_z-of_z w64 c.in-Some.target fits_target in
    let to_is = to_z-of_z w64 c.get.result fits_to in
    let from_is = to_z-of_z w64 c.get-2.result fits_from in
    let difference_is = to_z-of_z w64 c.in-Some-checked_sub.difference fits_difference in
    let next_is = to_z-of_z w64 c.address_after.result fits_next in
    rw next_is (quiet_step c.args.cells.now c.put.new.self c.args.at c.in-Some.a c.in-Some.b c.in-Some.target c.in-Some-checked_sub.difference c.address_after.result
    (rw at_is at c.if-at-lt0.false) (rw at_is at c.if-at-gt-LAST.false)
    (rw at_is at c.in-Some.ensures.first) (rw at_is at c.in-Some.ensures.second) (rw at_is at c.in-Some.ensures.third)
    (rw a_is at c.if-a-lt0.false) (rw b_is at c.if-b-lt0.false)
    (rw (to_is, from_is) at c.in-Some-checked_sub.ensures.1
    ∙ (ap (λ z. z -ℤ c.get-2.result) (rw b_is at c.get.ensures) ∙ ap (λ z. cell_at c.args.cells.now (unsigned_abs c.in-Some.b) -ℤ z) (rw a_is at c.get-2.ensures))) fits_difference
    (rw (b_is, difference_is) at (c.if-not-put.ensures.done refl))
    (rw (difference_is, target_is, at_is) at c.address_after.ensures))
