-- A step that meets a fault takes nothing and writes nothing.
use Rattle.std.proofs.Common.{◌≡◌, ℕ, false, List, [], ◌∷◌, refl, subst}
use Rattle.mach_core.specs.declared.machine.Status.{Status}
use Rattle.mach_core.specs.declared.machine.Status.TheVariants.{Going}
use Rattle.mach_core.specs.Rule.{IsFault, FaultsAreSilent}
use Rattle.wasm_bin.specs.declared.module.Module.{Module}
use Rattle.wasm_rule.specs.declared.act.Act.{Act}
use Rattle.wasm_rule.specs.declared.act.Act.TheVariants.{Read, Write}
use Rattle.wasm_rule.specs.Config.{Call, Config}
use Rattle.wasm_rule.specs.Rule.{after, act_at, act_in, stepped, takes_byte, bytes_written, wasm_rule}

going_on : (s : Status) → s ≡ Going → IsFault s → ⊥
going_on s e f = subst IsFault e f

quiet_takes : (m : Module) (c : Config) (call : Call) (callers : List Call) (a : Act) (byte : ℕ) → c.status ≡ Going → IsFault (after m c call callers a byte).status → takes_byte a ≡ false
quiet_takes m c call callers Read byte g f = absurd (going_on c.status g f)
quiet_takes m c call callers _ byte g f = refl

quiet_writes : (m : Module) (c : Config) (call : Call) (callers : List Call) (a : Act) (byte : ℕ) → c.status ≡ Going → IsFault (after m c call callers a byte).status → bytes_written a ≡ []
quiet_writes m c call callers (Write written) byte g f = absurd (going_on c.status g f)
quiet_writes m c call callers _ byte g f = refl

step_takes : (m : Module) (c : Config) (calls : List Call) (byte : ℕ) → c.status ≡ Going → IsFault (stepped m c calls byte).status → takes_byte (act_at m c calls) ≡ false
step_takes m c [] byte g f = refl
step_takes m c (call ∷ callers) byte g f = quiet_takes m c call callers (act_in m c call call.code) byte g f

step_writes : (m : Module) (c : Config) (calls : List Call) (byte : ℕ) → c.status ≡ Going → IsFault (stepped m c calls byte).status → bytes_written (act_at m c calls) ≡ []
step_writes m c [] byte g f = refl
step_writes m c (call ∷ callers) byte g f = quiet_writes m c call callers (act_in m c call call.code) byte g f

pub silent : (m : Module) → FaultsAreSilent (wasm_rule m)
silent m = record {
  takes = λ c byte g f. step_takes m c c.calls byte g f;
  writes = λ c byte g f. step_writes m c c.calls byte g f;
}
