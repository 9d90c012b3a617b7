-- What a step of reading answers.
use Rattle.std.specs.Prelude.{◌≡◌, Result, Ok, Err}
use Rattle.wasm_bytes.specs.declared.fault.ModFault.{ModFault}
use Rattle.wasm_bytes.specs.declared.fault.ModFault.TheVariants.{Malformed, Unsupported, TooLarge, Memory}

infixl 10 ◌>>=◌
-- a step, and then another with what the first gave
abbrev pub ◌>>=◌ : {A B : Type 0} → Result A ModFault → (A → Result B ModFault) → Result B ModFault
(Ok x) >>= f = f x
(Err e) >>= f = Err e

-- reading is refused for this, but want of memory is free
abbrev pub Fails : {Y : Type 0} → ModFault → Result Y ModFault → Type 0
Fails Memory reading = Unit {0}
Fails (Malformed at) reading = reading ≡ Err (Malformed at)
Fails (Unsupported at) reading = reading ≡ Err (Unsupported at)
Fails (TooLarge at) reading = reading ≡ Err (TooLarge at)

-- what a function returned is what reading gives
abbrev pub Gives : {X Y : Type 0} → (X → Y) → Result X ModFault → Result Y ModFault → Type 0
Gives view (Ok x) reading = reading ≡ Ok (view x)
Gives view (Err e) reading = Fails e reading
