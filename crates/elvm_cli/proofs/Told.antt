-- What it takes for the texts of a language to allow one status each.
use Rattle.std.proofs.Common.{◌≡◌, ◌≢◌, ◌⊎◌, ℕ, List}
use Rattle.elvm_cli.specs.Line.{status_of}
use Rattle.elvm_cli.specs.Exact.{IsRefusal}
use Rattle.elvm_cli.specs.declared.outcome.Outcome.{Outcome}
use Rattle.elvm_cli.specs.declared.outcome.Outcome.TheVariants.{Done, Usage, NoFile, TooLarge, Refused, NoInput, NoOutput, Fault, Limit, NoMemory}

-- the text spells a program, or is refused for a reason that lies in it
abbrev pub IsSpelledOrRefused : {P : Type 0} → (List ℕ → P → Type 0) → (List ℕ → Outcome → Type 0) → List ℕ → Type 0
IsSpelledOrRefused {P} Spells IsRefused text = ((p : P) × Spells text p) ⊎ ((outcome : Outcome) × IsRefusal outcome × IsRefused text outcome)

-- every text is spelled or refused, and never both, and all refusals of a text have one status
pub record IsLanguage {P : Type 0} (Spells : List ℕ → P → Type 0) (IsRefused : List ℕ → Outcome → Type 0) : Type 0 where
  pub some : (text : List ℕ) → IsSpelledOrRefused Spells IsRefused text
  pub apart : (text : List ℕ) (p : P) (outcome : Outcome) → IsRefusal outcome → Spells text p → IsRefused text outcome → ⊥
  pub one_way : (text : List ℕ) (a b : Outcome) → IsRefusal a → IsRefusal b → IsRefused text a → IsRefused text b → status_of a ≡ status_of b

-- a refusal is no want of memory
pub refusal_told : (outcome : Outcome) → IsRefusal outcome → outcome ≢ NoMemory
refusal_told TooLarge h e = cc
refusal_told (Refused kind place) h e = cc
refusal_told NoMemory h e = absurd h
refusal_told Done h e = absurd h
refusal_told Usage h e = absurd h
refusal_told NoFile h e = absurd h
refusal_told NoInput h e = absurd h
refusal_told NoOutput h e = absurd h
refusal_told (Fault code) h e = absurd h
refusal_told Limit h e = absurd h
