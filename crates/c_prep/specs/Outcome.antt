-- What a function answers, beside what there is.
use Rattle.std.specs.Prelude.{◌≡◌, Result, Ok, Err}
use Rattle.c_prep.specs.declared.fault.PrepFault.{PrepFault}
use Rattle.c_prep.specs.declared.fault.PrepFault.TheVariants as fault

-- what is refused is refused so, unless memory ran out
abbrev pub Fails : {Y : Type 0} → PrepFault → Result Y PrepFault → Type 0
Fails fault.Memory there = Unit {0}
Fails e there = there ≡ Err e

abbrev pub Answers : {X Y : Type 0} → (X → Y) → Result X PrepFault → Result Y PrepFault → Type 0
Answers view (Ok x) there = there ≡ Ok (view x)
Answers view (Err e) there = Fails e there
