-- For proofs only: a program that is neither over nor reads a number.
use Rattle.std.specs.Prelude.{ℕ, List, ℤ, None}
use Rattle.mach_core.specs.declared.machine.Status.TheVariants.{Going}
use Rattle.ws_lang.specs.Step.{Heap, Config}

abbrev pub running : List ℕ → ℕ → List ℤ → Heap → Config
running returns place stack heap = record { place = place; stack = stack; heap = heap; returns = returns; reading = None; status = Going }
