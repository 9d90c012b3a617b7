-- How far programs reach, and what their bounds come to.
use Rattle.std.proofs.Common.{ℕ, zero, suc, ◌+◌, ◌*◌, ◌^◌, ◌<◌, ◌≤◌, Bool, true, false, cond, Option, Some, arith, mul-le-mul}
use Rattle.mach_core.specs.Rule.{run}
use Rattle.word24.specs.Word.{near}
use Rattle.eir_core.specs.declared.ops.Op.{Op}
use Rattle.eir_core.specs.declared.ops.Op.TheVariants.{Load, Store}
use Rattle.eir_core.specs.Eir.{size_of}
use Rattle.eir_core.specs.Step.{Config, Regs, value_of, op_at, eir_rule, eir_start}
use Rattle.eir_core.specs.Reach.{near_of, reach}
use Rattle.sim_trait.specs.Bound.{Slowdown, bound}
use Rattle.sim_bounds.specs.Closed.{ProgramsReachHalf, IsClosed, BoundsAreClosed}

-- the nearer end of the memory lies within half of it
near-half : (a : ℕ) → near a < 2 ^ 23
near-half a = omega arith

near_of-half : (r : Regs) (o : Option Op) → near_of r o < 2 ^ 23
near_of-half r (Some (Load x v)) = near-half (value_of r v)
near_of-half r (Some (Store x v)) = near-half (value_of r v)
near_of-half r o = omega arith

pub programs_reach_half : ProgramsReachHalf
programs_reach_half p input zero few = few
programs_reach_half p input (suc n) few =
    let here : Config = (run (eir_rule p) (eir_start p) input n).config in
    omega (arith, programs_reach_half p input n few, near_of-half here.regs (op_at p here))

-- far no farther than half counts as half does
half_counts : (b : Bool) (far : ℕ) → far < 2 ^ 23 → cond b (far + 1) 1 ≤ cond b (2 ^ 23) 1
half_counts true far h = omega arith
half_counts false far h = omega arith

pub general : (t : Slowdown) → IsClosed t (bound t)
general t p input size n fits small =
    let far : reach p input n < 2 ^ 23 = programs_reach_half p input n (omega (arith, fits, small)) in
    let sizes : t.factor * (size_of p + 1) ≤ t.factor * (size + 1) = mul-le-mul (omega arith) (omega (arith, fits)) in
    mul-le-mul (mul-le-mul sizes (half_counts t.by_reach (reach p input n) far)) (omega arith)

pub bounds_are_closed : BoundsAreClosed
bounds_are_closed = record {
  general = general;
  sharp = λ t by_digits p input size n fits small. omega (arith, general t p input size n fits small);
}
