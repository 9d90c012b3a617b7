-- A run that lacks a byte, and one whose sink broke.
use Rattle.std.proofs.Common.{◌∙◌, ◌≤◌, ℕ, List, inl, inr, sym, ap, arith}
use Rattle.mach_core.specs.Ran as machine
use Rattle.mach_core.specs.Ran.{LacksByte, OnInput, RanBroken}
use Rattle.mach_core.specs.Rule.{Rule}
use Rattle.elvm_cli.specs.Seen.{OnSink, OnSource}
use Rattle.elvm_cli.specs.Runs.{runs_by}
use Rattle.elvm_cli.specs.Shows.{AsksBehind, IsFed, RunsBroken, RunsOut}

-- what `run_machine` says of it is what can be seen
pub runs_out : {C : Type 0} (rule : Rule C) (start : C) (steps : ℕ) (input : OnSource) (out : OnSink) (now : C)
    → LacksByte rule start steps input.left input.left_after now out.got out.got_after → RunsOut (runs_by rule start) steps input out
runs_out rule start steps input out now lacks = record {
  given = lacks.given;
  consumed = lacks.consumed;
  bytes = lacks.bytes;
  count = lacks.count;
  below = lacks.below;
  going = ap rule.standing (sym lacks.config) ∙ lacks.going;
  wants = ap rule.wants (sym lacks.config) ∙ lacks.wants;
  taken = lacks.taken;
  output = lacks.output;
}

asked : {C : Type 0} (rule : Rule C) (start : C) (steps count : ℕ) (input : OnSource) (out : OnSink) (bytes given : List ℕ) → count ≤ steps
    → machine.AsksBehind rule start input.left input.left_after bytes given count out.got out.got_after → AsksBehind (runs_by rule start) steps input out bytes given
asked rule start steps count input out bytes given le (inl none) = inl none
asked rule start steps count input out bytes given le (inr a) = inr (record {
  asked = a.asked;
  below = omega (arith, a.below, le);
  going = a.going;
  wants = a.wants;
  few = a.few;
  more = a.more;
  got = a.got;
})

pub runs_broken : {C : Type 0} (rule : Rule C) (start : C) (steps : ℕ) (input : OnSource) (out : OnSink) (now : C)
    → OnInput input.left input.left_after (λ bytes given. RanBroken rule start input.left input.left_after bytes given steps now out.got out.got_after) → IsFed input (RunsBroken (runs_by rule start) steps input out)
runs_broken rule start steps input out now (bytes, given, begins, r) = (
  bytes,
  given,
  begins,
  record {
    into = record { count = r.count; within = r.within; needed = r.needed; output = r.front };
    asks = asked rule start steps r.count input out bytes given r.within r.asks;
  },
)
