-- What a machine's parts are, and what they have done.
use Rattle.std.specs.Prelude.{◌≡◌, ℕ, List, [], drop, Result, Ok, Err}
use Rattle.word24.specs.declared.word.Word.{Word}
use Rattle.word24.specs.Word.{number_of}
use Rattle.mach_core.specs.declared.machine.Moved.{Moved}
use Rattle.mach_core.specs.Moved.{bytes_of}
use Rattle.c_store.specs.Values.{Value}
use Rattle.c_store.specs.declared.act.Act.TheVariants.{OtherKind}
use Rattle.c_plain.specs.Machine.{Machine, At, Step, quiet, ended, exhausted, fault}
use Rattle.c_plain.specs.Rule.{spelled}
use Rattle.c_parts.specs.declared.halt.Halt.{Halt}
use Rattle.c_parts.specs.declared.halt.Halt.TheVariants as halt
use Rattle.c_parts.specs.declared.parts.Parts.{Parts}

abbrev pub machine_of : Parts → Machine
machine_of p = record { at = p.at; values = p.values; slots = p.slots; opened = p.opened; memory = p.store; left = p.left; charge = p.charge }

-- what was done, against what a step comes to: where memory is wanted nothing has changed
abbrev pub Comes : Machine → Machine → Result Moved Halt → Step → Type 0
Comes old new (Ok moved) s = s ≡ record { config = At new; written = bytes_of moved }
Comes old new (Err halt.Ended) s = s ≡ ended
Comes old new (Err halt.Exhausted) s = s ≡ exhausted
Comes old new (Err (halt.Act act)) s = s ≡ fault act
Comes old new (Err halt.Memory) s = new ≡ old

-- a step that writes nothing
abbrev pub ComesQuietly : Machine → Machine → Result (Unit {0}) Halt → Step → Type 0
ComesQuietly old new (Ok _) s = s ≡ quiet new
ComesQuietly old new (Err halt.Ended) s = s ≡ ended
ComesQuietly old new (Err halt.Exhausted) s = s ≡ exhausted
ComesQuietly old new (Err (halt.Act act)) s = s ≡ fault act
ComesQuietly old new (Err halt.Memory) s = new ≡ old

-- the word on top is taken
abbrev pub TakesWord : Machine → Machine → Result Word Halt → Type 0
TakesWord old new (Ok w) = (f : ℕ → List ℕ) → spelled old f ≡ record { config = At new; written = f (number_of w) }
TakesWord old new (Err halt.Memory) = ⊥
TakesWord old new (Err halt.Ended) = ⊥
TakesWord old new (Err halt.Exhausted) = ⊥
TakesWord old new (Err (halt.Act act)) = (f : ℕ → List ℕ) → spelled old f ≡ fault act

-- the value on top goes
abbrev pub without_top : Machine → Machine
without_top m = record m { values = record m.values { mine = drop 1 m.values.mine } }

-- why there is no first argument: memory is wanted, or there are none
abbrev pub NoArgument : Halt → List Value → Type 0
NoArgument halt.Memory vs = Unit {0}
NoArgument (halt.Act act) vs = (act ≡ OtherKind) × (vs ≡ [])
NoArgument halt.Ended vs = ⊥
NoArgument halt.Exhausted vs = ⊥
