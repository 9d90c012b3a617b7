-- What is read at a place of a text.
use Rattle.std.proofs.Common.{◌≡◌, ℕ, Bool, true, false, List, ◌∷◌, Some, ℤ, ap, ◌∙◌}
use Rattle.ws_lang.specs.declared.sign.Sign.{Sign}
use Rattle.ws_lang.specs.declared.fault.WsFault.{WsFault}
use Rattle.ws_lang.specs.declared.fault.WsFault.TheVariants.{BadForm, NumberRange, DuplicateLabel, UnknownLabel, Memory}
use Rattle.ws_lang.specs.Instruction.{Instruction, IsInRange}
use Rattle.mach_core.specs.Integer.{is_in_range}
use Rattle.ws_lang.specs.Spelling.{binary, signed}
use Rattle.ws_lang.specs.Decode.{bits_in, number_of, number_in, with_number}
use Rattle.ws_lang.specs.Reading.{NumberRefused, FoundRefused}

-- the number of bits that were found
pub number_in-found : (signs rest : List Sign) (bits digits : List Bool) (negative : Bool) → bits_in signs ≡ Some (bits, rest) → bits ≡ negative ∷ digits → number_in signs ≡ Some (signed negative (binary digits), rest)
number_in-found signs rest bits digits negative e f = ap number_of e ∙ ap (λ (b : List Bool). number_of (Some (b, rest))) f

-- one that is out of range
pub number_outside : (signs rest : List Sign) (bits digits : List Bool) (negative : Bool) → bits_in signs ≡ Some (bits, rest) → bits ≡ negative ∷ digits → is_in_range (signed negative (binary digits)) ≡ false → (n : ℤ) × (r : List Sign) × (number_in signs ≡ Some (n, r)) × (is_in_range n ≡ false)
number_outside signs rest bits digits negative e f h = (signed negative (binary digits), rest, number_in-found signs rest bits digits negative e f, h)

both : (b : Bool) → b ≡ true → b ≡ false → ⊥
both b e f = cc

-- the fault of a number is that of its instruction
pub number_fault : (make : ℤ → Instruction) (signs : List Sign) (start : ℕ) (fault : WsFault) → ((n : ℤ) → IsInRange (make n) → is_in_range n ≡ true) → NumberRefused signs start fault → FoundRefused (with_number make (number_in signs)) start fault
number_fault make signs start (BadForm at) h r = (r.0, ap (with_number make) r.1)
number_fault make signs start (NumberRange at) h r = (r.0, (make r.1.0, r.1.1, ap (with_number make) r.1.2, λ k. both (is_in_range r.1.0) (h r.1.0 k) r.1.3))
number_fault make signs start (DuplicateLabel at) h r = absurd r
number_fault make signs start (UnknownLabel at) h r = absurd r
number_fault make signs start Memory h r = tt
