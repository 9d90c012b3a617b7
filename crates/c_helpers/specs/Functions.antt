-- The helper functions, as trees of C. Their names have characters that no name of a text has. Each calls only those that stand before it.
use Rattle.std.specs.Prelude.{ℕ, suc, Bool, true, false, ◌==◌, List, [], ◌∷◌, ◌++◌, if◌then◌else◌, codes}
use Rattle.std.specs.Fmt.{digits}
use Rattle.std.specs.Option.{option_map_or}
use Rattle.c_syntax.specs.Plain.{CExpr, Cast, CTy, Void, Int, Unsigned, Char, Pointer, CDecl, CStmt, Do_expr, If, While}
use Rattle.c_syntax.specs.declared.tree.BinOp.TheVariants as binary
use Rattle.c_types.specs.Operands.{conversions_of}
use Rattle.c_types.specs.Room.{Kind, Multiply, Divide, Remainder, BitAnd, BitOr, BitXor, Invert, ShiftLeft, ShiftRight, PrintSigned, PrintUnsigned, PrintHex, PrintString, PutString, PointerArithmetic, PointerDifference}
use Rattle.c_helpers.specs.Terms.{number, unsigned_number, variable, minus, pointed, operation, sum, difference, less, at_most, call, assigned, block, set, declaration, fresh, local, give_back}

-- a helper function, and the kinds of a text that call it, directly or through others
pub record Helper : Type 0 where
  pub name : List ℕ
  pub result : CTy
  pub params : List CDecl
  pub body : CStmt
  pub kinds : List Kind

-- names of parameters and locals: operands, turns that are left, words of an element, pointers, and what comes out
abbrev pub a : List ℕ
a = codes "a"

abbrev pub b : List ℕ
b = codes "b"

abbrev pub n : List ℕ
n = codes "n"

abbrev pub k : List ℕ
k = codes "k"

abbrev pub p : List ℕ
p = codes "p"

abbrev pub q : List ℕ
q = codes "q"

abbrev pub r : List ℕ
r = codes "r"

-- ---- statements that many have

abbrev pub doubled : List ℕ → CStmt
doubled x = set x (sum (variable x) (variable x))

abbrev pub raised : List ℕ → CStmt
raised x = set x (sum (variable x) (number 1))

abbrev pub lowered : List ℕ → CStmt
lowered x = set x (difference (variable x) (number 1))

-- as an int it is below zero: its highest bit is set
abbrev pub is_negative : CExpr → CExpr
is_negative e = less e (number 0)

abbrev pub as_int : CExpr → CExpr
as_int e = Cast 0 Int e

abbrev pub int_pointer : CExpr → CExpr
int_pointer e = Cast 0 (Pointer Int) e

abbrev pub ints : List CDecl
ints = declaration Int a ∷ declaration Int b ∷ []

abbrev pub unsigneds : List CDecl
unsigneds = declaration Unsigned a ∷ declaration Unsigned b ∷ []

-- ---- products and quotients

-- a turn for each bit of a, the highest first: r is doubled, and gains b where the bit is set
abbrev pub product_turn : CStmt
product_turn = block (lowered n ∷ doubled r ∷ If (is_negative (variable a)) (set r (sum (variable r) (variable b))) ∷ doubled a ∷ [])

abbrev pub product : Helper
product = record {
  name = codes "*";
  result = Int;
  params = ints;
  body = block (local Int r (number 0) ∷ local Int n (number 24) ∷ While (variable n) product_turn ∷ give_back (variable r) ∷ []);
  kinds = Multiply ∷ Divide ∷ Remainder ∷ PointerArithmetic ∷ [];
}

-- a turn for each bit of a, the highest first: the rest r takes it in, and where b is then in r, r loses it and a gains 1; so the quotient comes in where a goes out
abbrev pub quotient_turn : CStmt
quotient_turn =
    block (
    lowered n ∷ doubled r ∷ If (is_negative (as_int (variable a))) (raised r) ∷ doubled a
    ∷ If (at_most (variable b) (variable r)) (block (set r (difference (variable r) (variable b)) ∷ raised a ∷ []))
    ∷ [])

-- a divisor of 2^23 or more is in a once at most
abbrev pub unsigned_quotient : Helper
unsigned_quotient = record {
  name = codes "unsigned /";
  result = Unsigned;
  params = unsigneds;
  body = block (
      If (is_negative (as_int (variable b))) (give_back (at_most (variable b) (variable a)))
      ∷ local Unsigned r (number 0) ∷ local Int n (number 24) ∷ While (variable n) quotient_turn ∷ give_back (variable a) ∷ []);
  kinds = Divide ∷ Remainder ∷ ShiftRight ∷ PointerDifference ∷ [];
}

-- that of the absolute values, with the sign that both give
abbrev pub int_quotient : Helper
int_quotient = record {
  name = codes "int /";
  result = Int;
  params = ints;
  body = block (
      local Int p (variable a) ∷ If (is_negative (variable a)) (set p (minus (variable a)))
      ∷ local Int q (variable b) ∷ If (is_negative (variable b)) (set q (minus (variable b)))
      ∷ fresh Int r ∷ set r (call (codes "unsigned /") (variable p ∷ variable q ∷ []))
      ∷ If (operation binary.Eq (is_negative (variable a)) (is_negative (variable b))) (give_back (variable r))
      ∷ give_back (minus (variable r)) ∷ []);
  kinds = Divide ∷ Remainder ∷ PointerDifference ∷ [];
}

-- what a has more than the divisor as often as the quotient says
abbrev pub remainder : CTy → List ℕ → List ℕ → List CDecl → Helper
remainder t name quotient params = record {
  name = name;
  result = t;
  params = params;
  body = block (
      fresh t q ∷ set q (call quotient (variable a ∷ variable b ∷ []))
      ∷ fresh t r ∷ set r (call (codes "*") (variable b ∷ variable q ∷ []))
      ∷ give_back (difference (variable a) (variable r)) ∷ []);
  kinds = Remainder ∷ [];
}

abbrev pub unsigned_remainder : Helper
unsigned_remainder = remainder Unsigned (codes "unsigned %") (codes "unsigned /") unsigneds

abbrev pub int_remainder : Helper
int_remainder = remainder Int (codes "int %") (codes "int /") ints

-- ---- bits

-- a turn for each bit of a and b, the highest first: r is doubled, and gains 1 where the test says so
abbrev pub bits_turn : CExpr → CStmt
bits_turn test = block (lowered n ∷ doubled r ∷ If test (raised r) ∷ doubled a ∷ doubled b ∷ [])

abbrev pub bits : List ℕ → CExpr → Kind → Helper
bits name test kind = record {
  name = name;
  result = Int;
  params = ints;
  body = block (local Int r (number 0) ∷ local Int n (number 24) ∷ While (variable n) (bits_turn test) ∷ give_back (variable r) ∷ []);
  kinds = kind ∷ [];
}

abbrev pub bits_and : Helper
bits_and = bits (codes "&") (operation binary.And (is_negative (variable a)) (is_negative (variable b))) BitAnd

abbrev pub bits_or : Helper
bits_or = bits (codes "|") (operation binary.Or (is_negative (variable a)) (is_negative (variable b))) BitOr

abbrev pub bits_xor : Helper
bits_xor = bits (codes "^") (operation binary.Ne (is_negative (variable a)) (is_negative (variable b))) BitXor

abbrev pub complement : Helper
complement = record {
  name = codes "~";
  result = Int;
  params = declaration Int a ∷ [];
  body = block (give_back (difference (minus (number 1)) (variable a)) ∷ []);
  kinds = Invert ∷ [];
}

-- ---- shifts

abbrev pub shift_turn : CStmt
shift_turn = block (lowered n ∷ doubled a ∷ [])

abbrev pub shift_left : Helper
shift_left = record {
  name = codes "<<";
  result = Int;
  params = declaration Int a ∷ declaration Int n ∷ [];
  body = block (While (variable n) shift_turn ∷ give_back (variable a) ∷ []);
  kinds = ShiftLeft ∷ ShiftRight ∷ [];
}

-- the quotient by a power of two
abbrev pub unsigned_shift_right : Helper
unsigned_shift_right = record {
  name = codes "unsigned >>";
  result = Unsigned;
  params = declaration Unsigned a ∷ declaration Int n ∷ [];
  body = block (
      fresh Unsigned b ∷ set b (call (codes "<<") (number 1 ∷ variable n ∷ []))
      ∷ give_back (call (codes "unsigned /") (variable a ∷ variable b ∷ [])) ∷ []);
  kinds = ShiftRight ∷ [];
}

-- of a number below zero all bits are turned, before and behind
abbrev pub int_shift_right : Helper
int_shift_right = record {
  name = codes "int >>";
  result = Int;
  params = declaration Int a ∷ declaration Int n ∷ [];
  body = block (
      If (is_negative (variable a)) (block (
      fresh Int r ∷ set r (call (codes "unsigned >>") (difference (minus (number 1)) (variable a) ∷ variable n ∷ []))
      ∷ give_back (difference (minus (number 1)) (variable r)) ∷ []))
      ∷ give_back (call (codes "unsigned >>") (variable a ∷ variable n ∷ [])) ∷ []);
  kinds = ShiftRight ∷ [];
}

-- ---- compound assignments

-- what p points to becomes what an operator makes of it and b
abbrev pub compound : List ℕ → Kind → Helper
compound operator kind = record {
  name = operator ++ codes "=";
  result = Int;
  params = declaration (Pointer Void) p ∷ declaration Int b ∷ [];
  body = block (give_back (assigned (pointed Int (variable p)) (call operator (pointed Int (variable p) ∷ variable b ∷ []))) ∷ []);
  kinds = kind ∷ [];
}

abbrev pub compounds : List Helper
compounds =
    compound (codes "*") Multiply
    ∷ compound (codes "unsigned /") Divide ∷ compound (codes "int /") Divide
    ∷ compound (codes "unsigned %") Remainder ∷ compound (codes "int %") Remainder
    ∷ compound (codes "&") BitAnd ∷ compound (codes "|") BitOr ∷ compound (codes "^") BitXor
    ∷ compound (codes "<<") ShiftLeft
    ∷ compound (codes "unsigned >>") ShiftRight ∷ compound (codes "int >>") ShiftRight
    ∷ []

-- ---- pointers to elements of k words; where a number is taken from a pointer, k is below zero

-- p moved by n elements
abbrev pub pointer_sum : CTy → List ℕ → Helper
pointer_sum t name = record {
  name = name;
  result = Pointer Void;
  params = declaration (Pointer Void) p ∷ declaration t n ∷ declaration Int k ∷ [];
  body = block (fresh Int r ∷ set r (call (codes "*") (variable n ∷ variable k ∷ [])) ∷ give_back (sum (int_pointer (variable p)) (variable r)) ∷ []);
  kinds = PointerArithmetic ∷ [];
}

-- with the number before the pointer
abbrev pub swapped_sum : CTy → List ℕ → List ℕ → Helper
swapped_sum t name straight = record {
  name = name;
  result = Pointer Void;
  params = declaration t n ∷ declaration (Pointer Void) p ∷ declaration Int k ∷ [];
  body = block (give_back (call straight (variable p ∷ variable n ∷ variable k ∷ [])) ∷ []);
  kinds = PointerArithmetic ∷ [];
}

-- the pointer to which p points is moved, and given
abbrev pub moving_sum : CTy → List ℕ → List ℕ → Helper
moving_sum t name straight = record {
  name = name;
  result = Pointer Void;
  params = declaration (Pointer Void) p ∷ declaration t n ∷ declaration Int k ∷ [];
  body = block (give_back (assigned (pointed (Pointer Void) (variable p)) (call straight (pointed (Pointer Void) (variable p) ∷ variable n ∷ variable k ∷ []))) ∷ []);
  kinds = PointerArithmetic ∷ [];
}

-- the pointer to which p points is moved by an element, and given as it was
abbrev pub pointer_step : Helper
pointer_step = record {
  name = codes "pointer++";
  result = Pointer Void;
  params = declaration (Pointer Void) p ∷ declaration Int k ∷ [];
  body = block (
      local (Pointer Void) q (pointed (Pointer Void) (variable p))
      ∷ Do_expr (assigned (pointed (Pointer Void) (variable p)) (sum (int_pointer (variable q)) (variable k)))
      ∷ give_back (variable q) ∷ []);
  kinds = PointerArithmetic ∷ [];
}

abbrev pub pointer_difference : Helper
pointer_difference = record {
  name = codes "pointer - pointer";
  result = Int;
  params = declaration (Pointer Void) p ∷ declaration (Pointer Void) q ∷ declaration Int k ∷ [];
  body = block (
      local Int r (difference (int_pointer (variable p)) (int_pointer (variable q)))
      ∷ give_back (call (codes "int /") (variable r ∷ variable k ∷ [])) ∷ []);
  kinds = PointerDifference ∷ [];
}

abbrev pub pointer_functions : List Helper
pointer_functions =
    pointer_sum Int (codes "pointer + int") ∷ pointer_sum Unsigned (codes "pointer + unsigned")
    ∷ swapped_sum Int (codes "int + pointer") (codes "pointer + int") ∷ swapped_sum Unsigned (codes "unsigned + pointer") (codes "pointer + unsigned")
    ∷ moving_sum Int (codes "pointer += int") (codes "pointer + int") ∷ moving_sum Unsigned (codes "pointer += unsigned") (codes "pointer + unsigned")
    ∷ pointer_step ∷ pointer_difference ∷ []

-- ---- printing

-- a unit of the run's fuel is spent; the bodies of this and the next two are never run
abbrev pub unit_name : List ℕ
unit_name = codes "unit of fuel"

-- the second fuel begins anew
abbrev pub refill_name : List ℕ
refill_name = codes "second fuel"

-- it does, and a character is written
abbrev pub piece_name : List ℕ
piece_name = codes "piece of text"

abbrev pub call_of : List ℕ → List CExpr → CStmt
call_of f es = Do_expr (call f es)

abbrev pub spend_unit : CStmt
spend_unit = call_of unit_name []

abbrev pub refill : CStmt
refill = call_of refill_name []

abbrev pub put : CExpr → CStmt
put e = call_of (codes "putchar") (e ∷ [])

abbrev pub put_piece : CExpr → CStmt
put_piece e = call_of piece_name (e ∷ [])

-- how often b is in a is written as a digit, from `a` on where it is above 9; the rest is given
abbrev pub digit : Helper
digit = record {
  name = codes "one digit";
  result = Unsigned;
  params = unsigneds;
  body = block (
      local Int r (number 48)
      ∷ While (at_most (variable b) (variable a)) (block (set a (difference (variable a) (variable b)) ∷ raised r ∷ []))
      ∷ If (less (number 57) (variable r)) (set r (sum (variable r) (number 39)))
      ∷ put (variable r) ∷ give_back (variable a) ∷ []);
  kinds = PrintSigned ∷ PrintUnsigned ∷ PrintHex ∷ [];
}

-- the digit at each place above the lowest is written where a has one there, and then the lowest
abbrev pub places : List ℕ → List CStmt
places [] = call_of (codes "one digit") (variable r ∷ unsigned_number 1 ∷ []) ∷ []
places (place ∷ more) =
    If (at_most (unsigned_number place) (variable a)) (set r (call (codes "one digit") (variable r ∷ unsigned_number place ∷ []))) ∷ places more

abbrev pub digits_of : List ℕ → List ℕ → List Kind → Helper
digits_of name above kinds = record {
  name = name;
  result = Void;
  params = declaration Unsigned a ∷ [];
  body = block (local Unsigned r (variable a) ∷ places above);
  kinds = kinds;
}

-- the powers of 10 and of 16 that a word can have as a place, without 1
abbrev pub tens : List ℕ
tens = 10000000 ∷ 1000000 ∷ 100000 ∷ 10000 ∷ 1000 ∷ 100 ∷ 10 ∷ []

abbrev pub sixteens : List ℕ
sixteens = 1048576 ∷ 65536 ∷ 4096 ∷ 256 ∷ 16 ∷ []

abbrev pub print_unsigned : Helper
print_unsigned = digits_of (codes "%u") tens (PrintSigned ∷ PrintUnsigned ∷ [])

abbrev pub print_hex : Helper
print_hex = digits_of (codes "%x") sixteens (PrintHex ∷ [])

abbrev pub print_signed : Helper
print_signed = record {
  name = codes "%d";
  result = Void;
  params = declaration Int a ∷ [];
  body = block (If (is_negative (variable a)) (block (put (number 45) ∷ set a (minus (variable a)) ∷ [])) ∷ call_of (codes "%u") (variable a ∷ []) ∷ []);
  kinds = PrintSigned ∷ [];
}

-- each character costs a unit, once it was read and before it is written
abbrev pub print_string : Helper
print_string = record {
  name = codes "%s";
  result = Void;
  params = declaration (Pointer Char) p ∷ [];
  body = block (While (pointed Char (variable p)) (block (spend_unit ∷ put_piece (pointed Char (variable p)) ∷ raised p ∷ [])) ∷ []);
  kinds = PrintString ∷ PutString ∷ [];
}

abbrev pub put_string : Helper
put_string = record {
  name = codes "string and line feed";
  result = Int;
  params = declaration (Pointer Char) p ∷ [];
  body = block (spend_unit ∷ call_of (codes "%s") (variable p ∷ []) ∷ put_piece (number 10) ∷ give_back (number 0) ∷ []);
  kinds = PutString ∷ [];
}

-- ---- a function for each format of `printf`, with the arguments as parameters

abbrev pub format_name : List ℕ → List ℕ
format_name format = codes "printf " ++ format

-- the name of the parameter behind so many others
abbrev pub argument_name : ℕ → List ℕ
argument_name i = digits 10 false i

abbrev pub conversion_type : ℕ → CTy
conversion_type letter =
    if letter == 115 then Pointer Char
    else if letter == 100 then Int
    else if letter == 99 then Int
    else Unsigned

abbrev pub arguments_from : ℕ → List ℕ → List CDecl
arguments_from i [] = []
arguments_from i (letter ∷ letters) = declaration (conversion_type letter) (argument_name i) ∷ arguments_from (suc i) letters

-- what a conversion writes of an argument
abbrev pub conversion : ℕ → ℕ → List CStmt
conversion letter i =
    if letter == 99 then put_piece (variable (argument_name i)) ∷ []
    else refill ∷ call_of (codes "%" ++ letter ∷ []) (variable (argument_name i) ∷ []) ∷ []

-- a format's characters and conversions in their order, each with a second fuel of its own
abbrev pub pieces : (percent : Bool) → List ℕ → ℕ → List CStmt
pieces percent [] i = []
pieces false (c ∷ format) i = if c == 37 then pieces true format i else put_piece (number c) ∷ pieces false format i
pieces true (c ∷ format) i =
    if c == 37 then put_piece (number c) ∷ pieces false format i
    else conversion c i ++ pieces false format (suc i)

-- the unit of the call comes before all
abbrev pub print_format : List ℕ → Helper
print_format format = record {
  name = format_name format;
  result = Void;
  params = arguments_from 0 (option_map_or (λ letters. letters) (conversions_of format) []);
  body = block (spend_unit ∷ pieces false format 0);
  kinds = [];
}

-- ---- all of them

abbrev pub operator_functions : List Helper
operator_functions =
    product ∷ unsigned_quotient ∷ int_quotient ∷ unsigned_remainder ∷ int_remainder ∷ bits_and ∷ bits_or ∷ bits_xor ∷ complement
    ∷ shift_left ∷ unsigned_shift_right ∷ int_shift_right ∷ []

abbrev pub print_functions : List Helper
print_functions = digit ∷ print_unsigned ∷ print_hex ∷ print_signed ∷ print_string ∷ put_string ∷ []

-- each behind those that it calls
abbrev pub functions : List Helper
functions = operator_functions ++ (compounds ++ (pointer_functions ++ print_functions))
