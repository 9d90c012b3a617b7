-- That a text has an answer, and one only.
use Rattle.std.specs.Prelude.{◌≡◌, ◌≢◌, ◌⊎◌, ℕ, List}
use Rattle.ws_lang.specs.declared.fault.WsFault.{WsFault}
use Rattle.ws_lang.specs.declared.fault.WsFault.TheVariants.{Memory}
use Rattle.ws_lang.specs.Instruction.{Instruction}
use Rattle.ws_lang.specs.Spelling.{ws_spells}
use Rattle.ws_lang.specs.Refusal.{IsRefused}

-- a text that spells a program is not refused, and one that is refused is so in one way; want of memory tells nothing of the text
pub record HasOneAnswer (text : List ℕ) : Type 0 where
  pub taken : (code : List Instruction) (fault : WsFault) → fault ≢ Memory → ws_spells text code → IsRefused text fault → ⊥
  pub refused : (a b : WsFault) → a ≢ Memory → b ≢ Memory → IsRefused text a → IsRefused text b → a ≡ b

-- a text spells a program, or is refused for a reason that lies in it
abbrev pub IsSpelledOrRefused : List ℕ → Type 0
IsSpelledOrRefused text = ((code : List Instruction) × ws_spells text code) ⊎ ((fault : WsFault) × (fault ≢ Memory) × IsRefused text fault)
