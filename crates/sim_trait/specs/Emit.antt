-- What an emission answers.
use Rattle.std.specs.Prelude.{◌≡◌, ℕ, ◌<◌, ◌≤◌, List, [], Result, Ok, Err}
use Rattle.std.specs.declared.option.Option.{Option}
use Rattle.std.specs.Io.KnownBytes.{Appends}
use Rattle.mach_core.specs.Put.{PutsText, PutsFront}
use Rattle.sim_trait.specs.declared.backend.EmitFault.{EmitFault}
use Rattle.sim_trait.specs.declared.backend.EmitFault.TheVariants.{TooLarge, Write, Memory}

-- what the answer says of a program of this size, of the limit, of a rise of the sink's faults and of what was put out
abbrev pub EmitAnswers : {A : Type 0} → ℕ → ℕ → Type 0 → (List ℕ → Type 0) → Option (List ℕ) → Option (List ℕ) → Result A EmitFault → Type 0
EmitAnswers size limit rose P old new (Ok x) = (size ≤ limit) × PutsText old new P
EmitAnswers size limit rose P old new (Err (TooLarge n)) = (limit < size) × (n ≡ size) × Appends old new []
EmitAnswers size limit rose P old new (Err Write) = (size ≤ limit) × rose × PutsFront old new P
EmitAnswers size limit rose P old new (Err Memory) = (size ≤ limit) × PutsFront old new P
