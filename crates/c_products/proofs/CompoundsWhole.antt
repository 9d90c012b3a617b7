-- The laws of the crate.
use Rattle.std.proofs.Common.{◌*◌, ◌/◌, ◌%◌, ◌^◌, true, false, refl, arith}
use Rattle.std.specs.Prelude.{codes, pos, int_rem, bit_and, bit_or, bit_xor}
use Rattle.std.specs.Int.{int_div_euclid}
use Rattle.word24.specs.Word.{signed_of}
use Rattle.c_syntax.specs.declared.tree.BinOp.TheVariants as binary
use Rattle.c_types.specs.Room.{Multiply, Divide, Remainder, BitAnd, BitOr, BitXor, ShiftLeft, ShiftRight}
use Rattle.c_types.specs.Constants.{wrapped}
use Rattle.c_helpers.specs.Functions.{bits_and, bits_or, bits_xor}
use Rattle.c_products.proofs.Quotient.{quotient_units}
use Rattle.c_products.proofs.Computed.{are_words, are_divisible}
use Rattle.c_products.proofs.IntRemainder.{int_quotient_word}
use Rattle.c_products.proofs.Whole as products
use Rattle.c_products.proofs.Bits.{and_function, or_function, xor_function}
use Rattle.c_products.proofs.BitsWhole as bits
use Rattle.c_products.specs.CompoundsLaws.{ProductsAreAssigned, UnsignedQuotientsAreAssigned, IntQuotientsAreAssigned, UnsignedRemaindersAreAssigned, IntRemaindersAreAssigned, BitsAndIsAssigned, BitsOrIsAssigned, BitsXorIsAssigned, ShiftsLeftAreAssigned, UnsignedShiftsRightAreAssigned, IntShiftsRightAreAssigned}
use Rattle.c_products.proofs.Assigned.{assignment_helped}

pub products_are_assigned : ProductsAreAssigned
products_are_assigned h t enough s c input place y st w points = assignment_helped h t input (codes "*") Multiply binary.Mul false are_words (λ x y. 24) 24 16 (λ x y. x * y % 2 ^ 24) (products.product_words h t input s) s.unknown (omega (arith, enough)) (omega arith) refl refl refl products.product_gives products.product_fails c place y st w points

pub unsigned_quotients_are_assigned : UnsignedQuotientsAreAssigned
unsigned_quotients_are_assigned h t enough s c input place y st w points = assignment_helped h t input (codes "unsigned /") Divide binary.Div true are_divisible (λ x y. quotient_units y) 24 16 (λ x y. x / y) (products.quotient_words h t input s) s.unknown (omega (arith, enough)) (omega arith) refl refl refl products.unsigned_gives (products.division_fails true) c place y st w points

pub int_quotients_are_assigned : IntQuotientsAreAssigned
int_quotients_are_assigned h t enough sq own kq c input place y st w points = assignment_helped h t input (codes "int /") Divide binary.Div false are_divisible (λ x y. products.int_units h t input y) 25 32 int_quotient_word (products.int_words h t input sq own kq) own.unknown (omega (arith, enough)) (omega arith) refl refl refl products.int_gives (products.division_fails false) c place y st w points

pub unsigned_remainders_are_assigned : UnsignedRemaindersAreAssigned
unsigned_remainders_are_assigned h t enough sp sq own kq kp c input place y st w points = assignment_helped h t input (codes "unsigned %") Remainder binary.Mod true are_divisible (λ x y. products.left_units h t input y) 50 32 (λ x y. x % y) (products.remainder_words h t input sp sq own kq kp) own.unknown (omega (arith, enough)) (omega arith) refl refl refl products.left_gives (products.remainder_fails true) c place y st w points

pub int_remainders_are_assigned : IntRemaindersAreAssigned
int_remainders_are_assigned h t enough sp sq d kd own kq kp c input place y st w points = assignment_helped h t input (codes "int %") Remainder binary.Mod false are_divisible (λ x y. products.int_left_units h t input y) 51 48 (λ x y. wrapped (int_rem (signed_of x) (signed_of y))) (products.int_remainder_words h t input sp sq d kd own kq kp) own.unknown (omega (arith, enough)) (omega arith) refl refl refl products.int_left_gives (products.remainder_fails false) c place y st w points

pub bits_and_is_assigned : BitsAndIsAssigned
bits_and_is_assigned h t enough s c input place y st w points = assignment_helped h t input (codes "&") BitAnd binary.BitAnd false are_words (λ x y. 24) 24 16 bit_and (bits.bits_words h t input bits_and bit_and and_function s) s.unknown (omega (arith, enough)) (omega arith) refl refl refl bits.and_gives (bits.bits_fail binary.BitAnd) c place y st w points

pub bits_or_is_assigned : BitsOrIsAssigned
bits_or_is_assigned h t enough s c input place y st w points = assignment_helped h t input (codes "|") BitOr binary.BitOr false are_words (λ x y. 24) 24 16 bit_or (bits.bits_words h t input bits_or bit_or or_function s) s.unknown (omega (arith, enough)) (omega arith) refl refl refl bits.or_gives (bits.bits_fail binary.BitOr) c place y st w points

pub bits_xor_is_assigned : BitsXorIsAssigned
bits_xor_is_assigned h t enough s c input place y st w points = assignment_helped h t input (codes "^") BitXor binary.BitXor false are_words (λ x y. 24) 24 16 bit_xor (bits.bits_words h t input bits_xor bit_xor xor_function s) s.unknown (omega (arith, enough)) (omega arith) refl refl refl bits.xor_gives (bits.bits_fail binary.BitXor) c place y st w points

pub shifts_left_are_assigned : ShiftsLeftAreAssigned
shifts_left_are_assigned h t enough s c input place y st w points = assignment_helped h t input (codes "<<") ShiftLeft binary.Shl false bits.are_shifted (λ x y. bits.left_units h t input y) 24 16 (λ x y. x * 2 ^ y % 2 ^ 24) (bits.left_words h t input s) s.unknown (omega (arith, enough)) (omega arith) refl refl refl bits.left_gives bits.left_fails c place y st w points

pub unsigned_shifts_right_are_assigned : UnsignedShiftsRightAreAssigned
unsigned_shifts_right_are_assigned h t enough sl sq own kl kq c input place y st w points = assignment_helped h t input (codes "unsigned >>") ShiftRight binary.Shr true bits.are_shifted (λ x y. bits.right_units h t input y) 50 32 (λ x y. x / 2 ^ y) (bits.right_words h t input sl sq own kl kq) own.unknown (omega (arith, enough)) (omega arith) refl refl refl bits.right_gives bits.right_fails c place y st w points

pub int_shifts_right_are_assigned : IntShiftsRightAreAssigned
int_shifts_right_are_assigned h t enough sl sq d kl kq own kr c input place y st w points = assignment_helped h t input (codes "int >>") ShiftRight binary.Shr false bits.are_shifted (λ x y. bits.int_right_units h t input y) 51 48 (λ x y. wrapped (int_div_euclid (signed_of x) (pos (2 ^ y)))) (bits.int_right_words h t input sl sq d kl kq own kr) own.unknown (omega (arith, enough)) (omega arith) refl refl refl bits.int_right_gives bits.int_right_fails c place y st w points
