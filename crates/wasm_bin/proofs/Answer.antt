-- The answer of the reader.
use Rattle.std.proofs.Common.{◌≡◌, List, ℕ, Result, Ok, Err, refl, sym, ◌∙◌}
use Rattle.std.specs.Prelude.{MatchResult, ◌≢◌}
use Rattle.wasm_bytes.specs.declared.fault.ModFault.{ModFault}
use Rattle.wasm_bytes.specs.declared.fault.ModFault.TheVariants.{Malformed, Unsupported, TooLarge, Memory}
use Rattle.wasm_bin.specs.declared.module.Module.{Module}
use Rattle.wasm_bytes.specs.Outcome.{Gives}
use Rattle.wasm_bin.specs.Parts.{Parts, parts_of}
use Rattle.wasm_bin.specs.Section.{module_in}
use Rattle.wasm_bin.specs.Module.{module_spells, IsRefusedFor}
use Rattle.wasm_bin.specs.Grammar.{ModuleSpells}
use Rattle.wasm_bin.proofs.Apart.{told_apart}
use Rattle.wasm_bin.proofs.GrammarModules.{modules_spelled}
use Rattle.wasm_bin.proofs.GrammarSteps.{ok_is}

-- no bytes spell two modules
pub one_module : (bytes : List ℕ) (a b : Module) → module_spells bytes a → module_spells bytes b → a ≡ b
one_module bytes a b h k = told_apart a b (ok_is (parts_of a) (parts_of b) (sym ((modules_spelled bytes (parts_of a)).1 h) ∙ (modules_spelled bytes (parts_of b)).1 k))

module_complete : (bytes : List ℕ) (m : Parts) → ModuleSpells bytes m → module_in bytes ≡ Ok m
module_complete bytes m h = (modules_spelled bytes m).1 h

pub answered : (bytes : List ℕ) (r : Result Module ModFault) → Gives parts_of r (module_in bytes) → MatchResult r (module_spells bytes) (IsRefusedFor bytes)
answered bytes (Ok m) h = (modules_spelled bytes (parts_of m)).0 h
answered bytes (Err e) h = h

-- a refusal that isn't want of memory is what reading gives
pub refused_is : (bytes : List ℕ) (fault : ModFault) → fault ≢ Memory → IsRefusedFor bytes fault → module_in bytes ≡ Err fault
refused_is bytes Memory other h = absurd (other refl)
refused_is bytes (Malformed at) other h = h
refused_is bytes (Unsupported at) other h = h
refused_is bytes (TooLarge at) other h = h

abbrev pub refused : ModFault → Result Parts ModFault
refused e = Err e

pub fault_is : (a b : ModFault) → refused a ≡ refused b → a ≡ b
fault_is a b e = cc

pub never_both : (m : Parts) (e : ModFault) → Ok m ≡ refused e → ⊥
never_both m e h = absurd cc

pub spelled_or_refused : (bytes : List ℕ) (m : Module) (fault : ModFault) → module_spells bytes m → IsRefusedFor bytes fault → fault ≡ Memory
spelled_or_refused bytes m Memory h k = refl
spelled_or_refused bytes m (Malformed at) h k = absurd (never_both (parts_of m) (Malformed at) (sym (module_complete bytes (parts_of m) h) ∙ k))
spelled_or_refused bytes m (Unsupported at) h k = absurd (never_both (parts_of m) (Unsupported at) (sym (module_complete bytes (parts_of m) h) ∙ k))
spelled_or_refused bytes m (TooLarge at) h k = absurd (never_both (parts_of m) (TooLarge at) (sym (module_complete bytes (parts_of m) h) ∙ k))

pub one_refusal : (bytes : List ℕ) (a b : ModFault) → IsRefusedFor bytes a → IsRefusedFor bytes b → a ≢ Memory → b ≢ Memory → a ≡ b
one_refusal bytes a b h k x y = fault_is a b (sym (refused_is bytes a x h) ∙ refused_is bytes b y k)
