-- What pointers point to.
use Rattle.std.proofs.Common.{◌≡◌, ℕ, Bool, true, false, [], ◌∷◌, refl}
use Rattle.std.specs.Prelude.{Ok}
use Rattle.c_types.specs.declared.fault.TypeFault.TheVariants as fault
use Rattle.c_types.specs.Types as types
use Rattle.c_types.specs.Types.{CType, Tags, is_object_type}
use Rattle.c_types.specs.Refusals.{keeping}
use Rattle.c_types.specs.Operands as plain
use Rattle.c_operands.specs.Classes.{class_of, function_pointer}

-- a pointer to a function gives itself
pub function_pointed : (all : Tags) (at : ℕ) (t : CType) → function_pointer (class_of (types.Pointer t)) ≡ true → plain.pointed_operand all at (types.Pointer t) ≡ Ok (plain.value_at at (types.Pointer t))
function_pointed all at (types.Function t ts) h = refl
function_pointed all at types.Void h = cc
function_pointed all at types.Int h = cc
function_pointed all at types.Unsigned h = cc
function_pointed all at types.Char h = cc
function_pointed all at types.UChar h = cc
function_pointed all at types.Null h = cc
function_pointed all at (types.Struct tag) h = cc
function_pointed all at (types.Pointer t) h = cc
function_pointed all at (types.Array t n) h = cc

-- any other a place, if an object may have the type
pub object_pointed : (all : Tags) (at : ℕ) (t : CType) → function_pointer (class_of (types.Pointer t)) ≡ false
    → plain.pointed_operand all at (types.Pointer t) ≡ keeping ((is_object_type all t, fault.Mismatch at) ∷ []) (plain.place_at at t)
object_pointed all at (types.Function t ts) h = cc
object_pointed all at types.Void h = refl
object_pointed all at types.Int h = refl
object_pointed all at types.Unsigned h = refl
object_pointed all at types.Char h = refl
object_pointed all at types.UChar h = refl
object_pointed all at types.Null h = refl
object_pointed all at (types.Struct tag) h = refl
object_pointed all at (types.Pointer t) h = refl
object_pointed all at (types.Array t n) h = refl
