-- Flows, one part behind the other.
use Rattle.std.proofs.Common.{◌≡◌, ℕ, ◌%◌, ◌^◌, ◌<◌, ◌≤◌, List, ap, ◌∙◌, arith}
use Rattle.mach_core.specs.Rule.{applied}
use Rattle.eir_core.specs.Memory.{Memory}
use Rattle.eir_core.specs.Step.{eir_rule}
use Rattle.eir_core.specs.declared.ops.Op.TheVariants.{Jump}
use Rattle.c_eval.specs.State.{State}
use Rattle.c_eval.specs.Run.{give}
use Rattle.c_eval.specs.Eval.{Flow}
use Rattle.c_place.specs.Place.{Place, Machine, front, Has}
use Rattle.c_place.proofs.Running.{one_jump}
use Rattle.c_lowered.specs.Operations.{constant}
use Rattle.c_lowered.specs.Statements.{Targets}
use Rattle.c_memory.specs.Follows.{Fuel, fuel_of, here, Comes}
use Rattle.c_memory.specs.Lies.{Extent}
use Rattle.c_memory.proofs.Following.{comes_one, give_follows}
use Rattle.c_landing.specs.Landing.{Setting, Ready, Left}
use Rattle.c_landing.proofs.Landing.{F, left_then}
use Rattle.c_stated.specs.Flows.{GoesOn, FlowReached}

-- ---- jumps

small : (k : ℕ) → k < 2 ^ 24 → k % 2 ^ 24 ≡ k
small k lt = omega (arith, lt)

pub jumped : (S : Setting) (p : Place) (m : Machine) (st : State) (k : ℕ) → Has S.program p (Jump (constant k)) → k < 2 ^ 24 → applied (eir_rule S.program) S.input (here p m st) ≡ here (front k) m st
jumped S p m st k has lt = one_jump S.program S.input p m st.taken st.output (constant k) has ∙ ap (λ z. here (front z) m st) (small k lt)

pub jump_comes : (S : Setting) (p : Place) (m : Machine) (st : State) (x : Fuel) (k : ℕ) → Has S.program p (Jump (constant k)) → k < 2 ^ 24 → Comes S.program S.input S.mode (here p m st) x 1 (here (front k) m st) x
jump_comes S p m st x k has lt = comes_one S.program S.input S.mode x (jumped S p m st k has lt)

-- ---- units that were spent

pub left_spent : (S : Setting) (bs bs1 : List Extent) (st st1 : State) (mem : Memory) (m1 : Machine) (bp d l i : ℕ) → Left S bs st mem bp d bs1 st1 m1 → Left S bs st mem bp d bs1 (record st1 { left = l; spare = i }) m1
left_spent S bs bs1 st st1 mem m1 bp d l i q = record { framed = q.framed; lies = q.lies; post = q.post; charge = q.charge; words = q.words }

pub ready_spent : (S : Setting) (bs : List Extent) (st : State) (m : Machine) (d n l i : ℕ) → S.mode.gauge (record { left = l; spare = i }) ≤ S.mode.gauge (fuel_of st) → Ready S bs st m d n → Ready S bs (record st { left = l; spare = i }) m d n
ready_spent S bs st m d n l i le r = record { lies = r.lies; letters = r.letters; names = r.names; file = r.file; room = r.room; under = r.under; fits = r.fits; fuelled = omega (arith, le, r.fuelled) }

-- ---- parts

pub flow_then : (S : Setting) (bs bs1 : List Extent) (st st1 : State) (mem : Memory) (m1 : Machine) (bp d : ℕ) (to : Targets) (end : Place) → Left S bs st mem bp d bs1 st1 m1
    → (flow : Flow) (st2 : State) (s2 : Place) (m2 : Machine) → FlowReached S bs1 st1 m1.memory m1.regs.bp d to end flow st2 s2 m2 → FlowReached S bs st mem bp d to end flow st2 s2 m2
flow_then S bs bs1 st st1 mem m1 bp d to end l flow st2 s2 m2 q = record { goes = q.goes; bases = q.bases; left = left_then S bs bs1 q.bases st st1 st2 mem m1 m2 bp d l q.left; means = q.means }
