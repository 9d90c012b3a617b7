-- What an emission answers.
use Rattle.std.proofs.Common.{◌≡◌, ℕ, ◌^◌, ◌≤◌, List, [], length, Option, None, Some, Ok, Err, refl, sym, subst, arith, append-nil}
use Rattle.std.specs.Io.KnownBytes.{Appends}
use Rattle.mach_core.specs.Put.{GotPrefix}
use Rattle.eir_core.specs.Eir.{Eir, IsEir, size_of}
use Rattle.sim_trait.specs.declared.backend.EmitFault.TheVariants.{Write, Memory}
use Rattle.sim_trait.specs.Emit.{EmitAnswers}
use Rattle.wasm_bin.specs.declared.module.Module.{Module}
use Rattle.wasm_bin.specs.Grammar.{ModuleSpells}
use Rattle.wasm_bin.specs.Module.{module_spells}
use Rattle.wasm_code.specs.Emitted.{module_for}
use Rattle.wasm_code.proofs.Rows.{spelled}
use Rattle.wasm_write.specs.Written.{module_bytes}
use Rattle.wasm_write.proofs.Sections.{written_shortest}
use Rattle.wasm_back.specs.Laws.{StandsFor}
use Rattle.wasm_back.proofs.Simulation.{module_simulates}

-- what is written for a module that some bytes spell
record IsWritten (bytes : List ℕ) (m : Module) : Type 0 where
  spelled : module_spells (module_bytes m) m
  few : length (module_bytes m) ≤ length bytes

written : (bytes : List ℕ) (m : Module) → module_spells bytes m → IsWritten bytes m
unfolding ModuleSpells
written bytes m s = let shortest = written_shortest bytes m s in record { spelled = shortest.spelled; few = shortest.least bytes s }

-- the bytes of the module for a program stand for it
pub module_translates : (p : Eir) → IsEir p → size_of p ≤ 2 ^ 16 → StandsFor p (module_bytes (module_for p))
module_translates p sound small =
    let some = spelled p sound small in
    let is = written some.0 (module_for p) some.1.spelled in
    record {
      short = omega (arith, is.few, some.2);
      spelled = record { spelled = is.spelled; valid = some.1.valid; linkable = some.1.linkable };
      simulates = module_simulates p sound small;
    }

pub bytes_few : (p : Eir) (m : Module) → IsEir p → size_of p ≤ 2 ^ 16 → m ≡ module_for p → length (module_bytes m) ≤ 2 ^ 29
bytes_few p m sound small e = subst (λ (x : Module). length (module_bytes x) ≤ 2 ^ 29) (sym e) (module_translates p sound small).short

-- all of it is out
pub answers_all : (p : Eir) (a b : Option (List ℕ)) (rose : Type 0) (m : Module) → IsEir p → size_of p ≤ 2 ^ 16 → m ≡ module_for p → Appends a b (module_bytes m)
    → EmitAnswers {A = Unit {0}} (size_of p) (2 ^ 16) rose (StandsFor p) a b (Ok tt)
answers_all p a b rose m sound small e out = (small, (module_bytes (module_for p), subst (λ (x : Module). Appends a b (module_bytes x)) e out, module_translates p sound small))

-- a front of it is out
pub answers_front : (p : Eir) (a b : Option (List ℕ)) (rose : Type 0) (m : Module) → IsEir p → size_of p ≤ 2 ^ 16 → m ≡ module_for p → rose → GotPrefix a b (module_bytes m)
    → EmitAnswers {A = Unit {0}} (size_of p) (2 ^ 16) rose (StandsFor p) a b (Err Write)
answers_front p a b rose m sound small e rises got = (small, rises, (module_bytes (module_for p), subst (λ (x : Module). GotPrefix a b (module_bytes x)) e got, module_translates p sound small))

nothing_out : (a : Option (List ℕ)) → Appends a a []
nothing_out None = tt
nothing_out (Some bytes) = sym (append-nil bytes)

-- nothing of it is out
pub answers_none : (p : Eir) (a : Option (List ℕ)) (rose : Type 0) → IsEir p → size_of p ≤ 2 ^ 16 → EmitAnswers {A = Unit {0}} (size_of p) (2 ^ 16) rose (StandsFor p) a a (Err Memory)
answers_none p a rose sound small =
    (small, (module_bytes (module_for p), record { sent = []; rest = module_bytes (module_for p); appended = nothing_out a; whole = refl }, module_translates p sound small))
