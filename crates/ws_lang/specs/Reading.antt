-- For proofs only: what the parts of the reader answer at a place of a text.
use Rattle.std.specs.Prelude.{◌≡◌, ℕ, false, List, Option, Some, None, ℤ}
use Rattle.ws_lang.specs.declared.sign.Sign.{Sign}
use Rattle.ws_lang.specs.declared.fault.WsFault.{WsFault}
use Rattle.ws_lang.specs.declared.fault.WsFault.TheVariants.{BadForm, NumberRange, Memory}
use Rattle.ws_lang.specs.Instruction.{Instruction, IsInRange}
use Rattle.mach_core.specs.Integer.{is_in_range}
use Rattle.ws_lang.specs.Decode.{number_in, bits_in}

-- no number stands there, or one out of range; the fault has the place of the instruction
abbrev pub NumberRefused : List Sign → ℕ → WsFault → Type 0
NumberRefused signs start (BadForm at) = (at ≡ start) × (number_in signs ≡ None)
NumberRefused signs start (NumberRange at) = (at ≡ start) × ((n : ℤ) × (rest : List Sign) × (number_in signs ≡ Some (n, rest)) × (is_in_range n ≡ false))
NumberRefused signs start Memory = Unit {0}
NumberRefused signs start _ = ⊥

-- no label stands there
abbrev pub LabelRefused : List Sign → ℕ → WsFault → Type 0
LabelRefused signs start (BadForm at) = (at ≡ start) × (bits_in signs ≡ None)
LabelRefused signs start Memory = Unit {0}
LabelRefused signs start _ = ⊥

-- an instruction that may be found is not, or is out of range
abbrev pub FoundRefused : Option (Instruction × List Sign) → ℕ → WsFault → Type 0
FoundRefused found start (BadForm at) = (at ≡ start) × (found ≡ None)
FoundRefused found start (NumberRange at) = (at ≡ start) × ((i : Instruction) × (rest : List Sign) × (found ≡ Some (i, rest)) × (IsInRange i → ⊥))
FoundRefused found start Memory = Unit {0}
FoundRefused found start _ = ⊥
