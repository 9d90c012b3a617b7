-- From one spot of `main` to another.
use Rattle.std.proofs.Common.{ℕ, ◌+◌, List, [], ◌∷◌, ◌++◌, false, refl, arith}
use Rattle.mach_core.specs.declared.machine.Status.TheVariants.{Ended}
use Rattle.mach_core.specs.Reaches.{Reaches}
use Rattle.mach_core.specs.Rule.{Moment, input_at}
use Rattle.mach_core.proofs.Reaching.{one_step}
use Rattle.wasm_bin.specs.declared.module.Module.{Module}
use Rattle.wasm_rule.specs.Config as wasm
use Rattle.wasm_rule.specs.Rule.{wasm_rule}
use Rattle.wasm_build.specs.Lead.{Spot, config_at, Leads, Ends, Takes, Writes}
use Rattle.wasm_back.specs.Related.{around_main}

abbrev pub at : Spot → ℕ → List ℕ → Moment wasm.Config
at here taken output = record { config = config_at around_main here; taken = taken; output = output }

-- the run has ended there
abbrev pub over : Spot → ℕ → List ℕ → Moment wasm.Config
over here taken output = record { config = record (config_at around_main here) { status = Ended }; taken = taken; output = output }

pub led : (m : Module) (input : List ℕ) (taken : ℕ) (output : List ℕ) (here : Spot) (count : ℕ) (there : Spot) → Leads m here count there → Reaches (wasm_rule m) input (at here taken output) (at there taken output) count count
led m input taken output here count there l = record { count = count; enough = omega arith; few = omega arith; ends = (l.silent around_main).lead input (at here taken output) refl }

pub ended : (m : Module) (input : List ℕ) (taken : ℕ) (output : List ℕ) (here : Spot) → Ends m here → Reaches (wasm_rule m) input (at here taken output) (over here taken output) 1 1
ended m input taken output here e = record { count = 1; enough = omega arith; few = omega arith; ends = (e.silent false).lead input (at here taken output) refl }

pub took : (m : Module) (input : List ℕ) (taken : ℕ) (output : List ℕ) (here : Spot) (there : ℕ → Spot) → Takes m here there → Reaches (wasm_rule m) input (at here taken output) (at (there (input_at input taken)) (taken + 1) output) 1 1
took m input taken output here there t = one_step (wasm_rule m) input (at here taken output) (at (there (input_at input taken)) (taken + 1) output) (t.step around_main input taken output)

pub wrote : (m : Module) (input : List ℕ) (taken : ℕ) (output : List ℕ) (here : Spot) (byte : ℕ) (there : Spot) → Writes m here byte there → Reaches (wasm_rule m) input (at here taken output) (at there taken (output ++ byte ∷ [])) 1 1
wrote m input taken output here byte there w = one_step (wasm_rule m) input (at here taken output) (at there taken (output ++ byte ∷ [])) (w.step around_main input taken output)
