-- What an index gives where there is a sum, and where not.
use Rattle.std.proofs.Common.{◌≡◌, ℕ, Option, Some, None, ap}
use Rattle.std.specs.Prelude.{Err}
use Rattle.std.specs.Option.{option_map_or}
use Rattle.c_types.specs.declared.fault.TypeFault.TheVariants as fault
use Rattle.c_types.specs.Types.{CType, Tags}
use Rattle.c_types.specs.Operands as plain
use Rattle.c_types.specs.Operands.{value_type}

pub element_of : (all : Tags) (at : ℕ) (x y : plain.Operand) (t : CType) → plain.sum_type all (value_type x) (value_type y) ≡ Some t → plain.index_operand all at x y ≡ plain.pointed_operand all at t
element_of all at x y t e = ap (λ (o : Option CType). option_map_or (λ u. plain.pointed_operand all at u) o (Err (fault.Mismatch at))) e

pub no_element : (all : Tags) (at : ℕ) (x y : plain.Operand) → plain.sum_type all (value_type x) (value_type y) ≡ None → plain.index_operand all at x y ≡ Err (fault.Mismatch at)
no_element all at x y e = ap (λ (o : Option CType). option_map_or (λ u. plain.pointed_operand all at u) o (Err (fault.Mismatch at))) e
