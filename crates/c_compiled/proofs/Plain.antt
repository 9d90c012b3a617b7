-- Each plain helper function, by computing.
use Rattle.std.proofs.Common.{◌≡◌, ℕ, suc, ◌+◌, ◌≤◌, Bool, true, false, List, [], ◌∷◌, length, map, Option, Some, refl, sym, subst, arith}
use Rattle.std.specs.Prelude.{◌||◌, nat_le, codes}
use Rattle.std.specs.Str.{bytes_eq}
use Rattle.std.proofs.lemmas.Bool.Decides.{nat_tests}
use Rattle.std.proofs.lemmas.Slice.Eq.{bytes_eq-Decides}
use Rattle.c_syntax.specs.Plain.{Int, Unsigned}
use Rattle.c_syntax.specs.Words.{meaning}
use Rattle.c_types.specs.Room.{Multiply, Divide, Remainder, BitAnd, BitOr, BitXor, ShiftLeft, ShiftRight}
use Rattle.c_types.specs.Types as type
use Rattle.c_types.specs.Types.{Tags}
use Rattle.c_types.specs.Scope.{Names, built_in, contains}
use Rattle.c_eval.specs.State.{Value, Run}
use Rattle.c_eval.specs.Environment.{Environment}
use Rattle.c_eval.specs.Text.{Definition, Text, function_named}
use Rattle.c_eval.specs.Helpers.{helper_world}
use Rattle.c_helpers.specs.Functions.{Helper, product, unsigned_quotient, int_quotient, unsigned_remainder, int_remainder, bits_and, bits_or, bits_xor, complement, shift_left, unsigned_shift_right, int_shift_right, compound, pointer_sum, swapped_sum, moving_sum, pointer_step, pointer_difference, digit, print_unsigned, print_hex, print_signed, unit_name, refill_name, piece_name}
use Rattle.c_helpers.specs.Laws.{function_names}
use Rattle.c_helpers.specs.Names.{stmt_names}
use Rattle.c_helpers.specs.Simple.{helper_frame}
use Rattle.c_landing.specs.Landing.{Setting}
use Rattle.c_stated.specs.Statements.{stmt_need, stmt_steps}
use Rattle.c_followed.specs.Bodies.{inside, beginning, FunctionIs}
use Rattle.c_products.specs.MovesFound.{definition}
use Rattle.c_compiled.specs.Helped.{type_written, parameters, IsRoutine, IsHelper, HelpersAreIn, plain_functions, calls_plain, PlainHelpersAre}
use Rattle.c_compiled.proofs.Checked.{fits, declares_nothing, statement_is, nothing_declared, breaks_nowhere}

-- what stands before the body of a helper function
abbrev pub defined_so : Helper → Tags → Names → List (List ℕ) → Definition
defined_so h tags names defined = definition (type_written h.result) (parameters h) h tags names defined

-- the place where its body begins
abbrev pub place : Helper → Tags → Names → List (List ℕ) → List (List ℕ × Option ℕ) → (next : ℕ) → Environment
place h tags names defined objects next = record { scope = (defined_so h tags names defined).scope; objects = objects; next = next; literals_before = 0 }

-- what the names before a body have to know
pub record Knows (h : Helper) (names : Names) : Type 0 where
  pub knows : (name : List ℕ) → contains (stmt_names h.body) name ≡ true → contains (unit_name ∷ refill_name ∷ piece_name ∷ function_names) name ≡ true → IsRoutine names name
  pub writes : meaning names (codes "putchar") ≡ Some (built_in type.Int (type.Int ∷ []))

-- the body of a plain helper function
record FitsAt (h : Helper) (site : Environment) : Type 0 where
  pub fits : fits calls_plain h.body site ≡ true
  pub block : declares_nothing h.body ≡ true
  pub need : nat_le (suc (length (map (λ x. x.0) (parameters h))) + stmt_need h.body site) (helper_frame h) ≡ true
  pub paid : nat_le (stmt_steps 0 h.body site + 2) 1021 ≡ true

record Fits (h : Helper) : Type 0 where
  pub at : (tags : Tags) (names : Names) (defined : List (List ℕ)) (objects : List (List ℕ × Option ℕ)) (next : ℕ) → Knows h names → FitsAt h (place h tags names defined objects next)

product_fits : Fits product
product_fits = record { at = λ tags names defined objects next k. record { fits = refl; block = refl; need = refl; paid = refl } }

unsigned_quotient_fits : Fits unsigned_quotient
unsigned_quotient_fits = record { at = λ tags names defined objects next k. record { fits = refl; block = refl; need = refl; paid = refl } }

int_quotient_fits : Fits int_quotient
int_quotient_fits = record { at = λ tags names defined objects next k. record { fits = rw ((k.knows (codes "unsigned /") refl refl).means) refl; block = refl; need = refl; paid = refl } }

unsigned_remainder_fits : Fits unsigned_remainder
unsigned_remainder_fits = record { at = λ tags names defined objects next k. record { fits = rw ((k.knows (codes "unsigned /") refl refl).means, (k.knows (codes "*") refl refl).means) refl; block = refl; need = refl; paid = refl } }

int_remainder_fits : Fits int_remainder
int_remainder_fits = record { at = λ tags names defined objects next k. record { fits = rw ((k.knows (codes "int /") refl refl).means, (k.knows (codes "*") refl refl).means) refl; block = refl; need = refl; paid = refl } }

bits_and_fits : Fits bits_and
bits_and_fits = record { at = λ tags names defined objects next k. record { fits = refl; block = refl; need = refl; paid = refl } }

bits_or_fits : Fits bits_or
bits_or_fits = record { at = λ tags names defined objects next k. record { fits = refl; block = refl; need = refl; paid = refl } }

bits_xor_fits : Fits bits_xor
bits_xor_fits = record { at = λ tags names defined objects next k. record { fits = refl; block = refl; need = refl; paid = refl } }

complement_fits : Fits complement
complement_fits = record { at = λ tags names defined objects next k. record { fits = refl; block = refl; need = refl; paid = refl } }

shift_left_fits : Fits shift_left
shift_left_fits = record { at = λ tags names defined objects next k. record { fits = refl; block = refl; need = refl; paid = refl } }

unsigned_shift_right_fits : Fits unsigned_shift_right
unsigned_shift_right_fits = record { at = λ tags names defined objects next k. record { fits = rw ((k.knows (codes "<<") refl refl).means, (k.knows (codes "unsigned /") refl refl).means) refl; block = refl; need = refl; paid = refl } }

int_shift_right_fits : Fits int_shift_right
int_shift_right_fits = record { at = λ tags names defined objects next k. record { fits = rw ((k.knows (codes "unsigned >>") refl refl).means) refl; block = refl; need = refl; paid = refl } }

compound_12_fits : Fits (compound (codes "*") Multiply)
compound_12_fits = record { at = λ tags names defined objects next k. record { fits = rw ((k.knows (codes "*") refl refl).means) refl; block = refl; need = refl; paid = refl } }

compound_13_fits : Fits (compound (codes "unsigned /") Divide)
compound_13_fits = record { at = λ tags names defined objects next k. record { fits = rw ((k.knows (codes "unsigned /") refl refl).means) refl; block = refl; need = refl; paid = refl } }

compound_14_fits : Fits (compound (codes "int /") Divide)
compound_14_fits = record { at = λ tags names defined objects next k. record { fits = rw ((k.knows (codes "int /") refl refl).means) refl; block = refl; need = refl; paid = refl } }

compound_15_fits : Fits (compound (codes "unsigned %") Remainder)
compound_15_fits = record { at = λ tags names defined objects next k. record { fits = rw ((k.knows (codes "unsigned %") refl refl).means) refl; block = refl; need = refl; paid = refl } }

compound_16_fits : Fits (compound (codes "int %") Remainder)
compound_16_fits = record { at = λ tags names defined objects next k. record { fits = rw ((k.knows (codes "int %") refl refl).means) refl; block = refl; need = refl; paid = refl } }

compound_17_fits : Fits (compound (codes "&") BitAnd)
compound_17_fits = record { at = λ tags names defined objects next k. record { fits = rw ((k.knows (codes "&") refl refl).means) refl; block = refl; need = refl; paid = refl } }

compound_18_fits : Fits (compound (codes "|") BitOr)
compound_18_fits = record { at = λ tags names defined objects next k. record { fits = rw ((k.knows (codes "|") refl refl).means) refl; block = refl; need = refl; paid = refl } }

compound_19_fits : Fits (compound (codes "^") BitXor)
compound_19_fits = record { at = λ tags names defined objects next k. record { fits = rw ((k.knows (codes "^") refl refl).means) refl; block = refl; need = refl; paid = refl } }

compound_20_fits : Fits (compound (codes "<<") ShiftLeft)
compound_20_fits = record { at = λ tags names defined objects next k. record { fits = rw ((k.knows (codes "<<") refl refl).means) refl; block = refl; need = refl; paid = refl } }

compound_21_fits : Fits (compound (codes "unsigned >>") ShiftRight)
compound_21_fits = record { at = λ tags names defined objects next k. record { fits = rw ((k.knows (codes "unsigned >>") refl refl).means) refl; block = refl; need = refl; paid = refl } }

compound_22_fits : Fits (compound (codes "int >>") ShiftRight)
compound_22_fits = record { at = λ tags names defined objects next k. record { fits = rw ((k.knows (codes "int >>") refl refl).means) refl; block = refl; need = refl; paid = refl } }

pointer_sum_23_fits : Fits (pointer_sum Int (codes "pointer + int"))
pointer_sum_23_fits = record { at = λ tags names defined objects next k. record { fits = rw ((k.knows (codes "*") refl refl).means) refl; block = refl; need = refl; paid = refl } }

pointer_sum_24_fits : Fits (pointer_sum Unsigned (codes "pointer + unsigned"))
pointer_sum_24_fits = record { at = λ tags names defined objects next k. record { fits = rw ((k.knows (codes "*") refl refl).means) refl; block = refl; need = refl; paid = refl } }

swapped_sum_25_fits : Fits (swapped_sum Int (codes "int + pointer") (codes "pointer + int"))
swapped_sum_25_fits = record { at = λ tags names defined objects next k. record { fits = rw ((k.knows (codes "pointer + int") refl refl).means) refl; block = refl; need = refl; paid = refl } }

swapped_sum_26_fits : Fits (swapped_sum Unsigned (codes "unsigned + pointer") (codes "pointer + unsigned"))
swapped_sum_26_fits = record { at = λ tags names defined objects next k. record { fits = rw ((k.knows (codes "pointer + unsigned") refl refl).means) refl; block = refl; need = refl; paid = refl } }

moving_sum_27_fits : Fits (moving_sum Int (codes "pointer += int") (codes "pointer + int"))
moving_sum_27_fits = record { at = λ tags names defined objects next k. record { fits = rw ((k.knows (codes "pointer + int") refl refl).means) refl; block = refl; need = refl; paid = refl } }

moving_sum_28_fits : Fits (moving_sum Unsigned (codes "pointer += unsigned") (codes "pointer + unsigned"))
moving_sum_28_fits = record { at = λ tags names defined objects next k. record { fits = rw ((k.knows (codes "pointer + unsigned") refl refl).means) refl; block = refl; need = refl; paid = refl } }

pointer_step_fits : Fits pointer_step
pointer_step_fits = record { at = λ tags names defined objects next k. record { fits = refl; block = refl; need = refl; paid = refl } }

pointer_difference_fits : Fits pointer_difference
pointer_difference_fits = record { at = λ tags names defined objects next k. record { fits = rw ((k.knows (codes "int /") refl refl).means) refl; block = refl; need = refl; paid = refl } }

digit_fits : Fits digit
digit_fits = record { at = λ tags names defined objects next k. record { fits = rw k.writes refl; block = refl; need = refl; paid = refl } }

print_unsigned_fits : Fits print_unsigned
print_unsigned_fits = record { at = λ tags names defined objects next k. record { fits = rw ((k.knows (codes "one digit") refl refl).means) refl; block = refl; need = refl; paid = refl } }

print_hex_fits : Fits print_hex
print_hex_fits = record { at = λ tags names defined objects next k. record { fits = rw ((k.knows (codes "one digit") refl refl).means) refl; block = refl; need = refl; paid = refl } }

print_signed_fits : Fits print_signed
print_signed_fits = record { at = λ tags names defined objects next k. record { fits = rw (k.writes, (k.knows (codes "%u") refl refl).means) refl; block = refl; need = refl; paid = refl } }

abbrev EachFits : List Helper → Type 0
EachFits [] = Unit {0}
EachFits (h ∷ hs) = Fits h × EachFits hs

each_fits : EachFits plain_functions
each_fits = (product_fits, (unsigned_quotient_fits, (int_quotient_fits, (unsigned_remainder_fits, (int_remainder_fits, (bits_and_fits, (bits_or_fits, (bits_xor_fits, (complement_fits, (shift_left_fits, (unsigned_shift_right_fits, (int_shift_right_fits, (compound_12_fits, (compound_13_fits, (compound_14_fits, (compound_15_fits, (compound_16_fits, (compound_17_fits, (compound_18_fits, (compound_19_fits, (compound_20_fits, (compound_21_fits, (compound_22_fits, (pointer_sum_23_fits, (pointer_sum_24_fits, (swapped_sum_25_fits, (swapped_sum_26_fits, (moving_sum_27_fits, (moving_sum_28_fits, (pointer_step_fits, (pointer_difference_fits, (digit_fits, (print_unsigned_fits, (print_hex_fits, (print_signed_fits, tt)))))))))))))))))))))))))))))))))))

-- ---- as code asks

pub le_of : (a b : ℕ) → nat_le a b ≡ true → a ≤ b
le_of a b e = grind (arith, nat_tests, e)

-- what a function of a text is
abbrev pub own_definition : (h : Helper) (f : Definition) → IsHelper h f → Definition
own_definition h f is = defined_so h is.tags is.names is.defined

module _ (S : Setting) (t : Text) (charge : List ℕ → ℕ) (spare_rate : ℕ) (rate : 1021 ≤ spare_rate) (name : List ℕ) (f : Definition) (calls : List ℕ → List Value → Run Value) (found : function_named t name ≡ Some f) where
  function_is : (h : Helper) → Fits h → IsHelper h f → helper_frame h ≤ charge name → FunctionIs S (helper_world t S.input name calls) 0 calls_plain (charge name) spare_rate f
  function_is h fits is le = subst (λ z. FunctionIs S (helper_world t S.input name calls) 0 calls_plain (charge name) spare_rate z) (sym is.is) (record {
    body = statement_is (inside S (own_definition h f is)) (helper_world t S.input name calls) calls_plain h.body (beginning S (own_definition h f is)) x.fits;
    declares = nothing_declared (inside S (own_definition h f is)) (helper_world t S.input name calls) calls_plain h.body x.block;
    breaks = breaks_nowhere calls_plain false false h.body (beginning S (own_definition h f is)) x.fits;
    framed = (let need = le_of _ _ x.need in omega (arith, need, le));
    paid = (let paid = le_of _ _ x.paid in omega (arith, paid, rate));
  })
    where
      x : FitsAt h (beginning S (own_definition h f is))
      x = fits.at is.tags is.names is.defined _ _ (record { knows = is.knows; writes = is.writes })

  among : (hs : List Helper) → EachFits hs → HelpersAreIn t charge hs → contains (map (λ h. h.name) hs) name ≡ true → FunctionIs S (helper_world t S.input name calls) 0 calls_plain (charge name) spare_rate f
  among [] fits are h = absurd (cc h)
  among (g ∷ hs) fits are h = go (bytes_eq name g.name) refl (λ z. among hs fits.1 are.1 z) h
    where
      go : (b : Bool) → bytes_eq name g.name ≡ b → (contains (map (λ h. h.name) hs) name ≡ true → FunctionIs S (helper_world t S.input name calls) 0 calls_plain (charge name) spare_rate f) → (b || contains (map (λ h. h.name) hs) name) ≡ true → FunctionIs S (helper_world t S.input name calls) 0 calls_plain (charge name) spare_rate f
      go true same next h =
          let e : name ≡ g.name = (bytes_eq-Decides name g.name).0 same in
          let own = are.0 f (subst (λ z. function_named t z ≡ Some f) e found) in
          function_is g fits.0 own.0 (subst (λ z. helper_frame g ≤ charge z) (sym e) own.1)
      go false same next h = next h

pub plain_helpers_are : PlainHelpersAre
plain_helpers_are S t charge spare_rate are rate name f calls is = among S t charge spare_rate rate name f calls is.1 plain_functions each_fits are is.0.1
