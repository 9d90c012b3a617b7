-- Programs and texts, worked out by the definitions. In a text 32 is a space, 9 a tab and 10 a line feed.
use Rattle.std.proofs.Common.{◌≡◌, ℕ, ◌^◌, ◌-◌, ◌∙◌, true, false, List, [], ◌∷◌, ◌++◌, codes, pos, negsuc, refl, ap, arith}
use Rattle.std.specs.Prelude.{replicate}
use Rattle.std.specs.FinMap.{gets}
use Rattle.mach_core.specs.Sparse.{value_at}
use Rattle.mach_core.specs.declared.machine.Status.{Status}
use Rattle.mach_core.specs.declared.machine.Status.TheVariants.{Going, Ended, Fault}
use Rattle.mach_core.specs.Rule.{Moment, run}
use Rattle.ws_lang.specs.declared.sign.Sign.TheVariants.{Space, Tab, LineFeed}
use Rattle.ws_lang.specs.Instruction.{Instruction, Push, Copy, Slide, Subtract, Divide, Modulo, Store, Mark, Call, Jump, Return, End, WriteCharacter, ReadNumber}
use Rattle.ws_lang.specs.Spelling.{SpellsInstruction, ws_spells}
use Rattle.ws_lang.specs.Refusal.{BadFormAt, NumberRangeAt, DuplicateLabelAt, UnknownLabelAt}
use Rattle.ws_lang.specs.Decode.{instruction_in}
use Rattle.ws_lang.specs.Step.{Config, ws_rule, ws_start}
use Rattle.ws_lang.proofs.DecodeLemmas.{instruction_in-spelled, none_some}

-- the moment after some steps on an input
abbrev after : List Instruction → List ℕ → ℕ → Moment Config
after code input n = run (ws_rule code) (ws_start code) input n

abbrev stands : List Instruction → List ℕ → ℕ → Status
stands code input n = (ws_rule code).standing (after code input n).config

-- push 72, write character, end
pub letter_is_spelled : ws_spells (32 ∷ 32 ∷ 32 ∷ 9 ∷ 32 ∷ 32 ∷ 9 ∷ 32 ∷ 32 ∷ 32 ∷ 10 ∷ 9 ∷ 10 ∷ 32 ∷ 32 ∷ 10 ∷ 10 ∷ 10 ∷ []) (Push (pos 72) ∷ WriteCharacter ∷ End ∷ [])
letter_is_spelled = record {
  spelled = (
    Space ∷ Space ∷ Space ∷ Tab ∷ Space ∷ Space ∷ Tab ∷ Space ∷ Space ∷ Space ∷ LineFeed ∷ [],
    _,
    refl,
    record { parameter = _; whole = refl; spelled = record { negative = false; digits = true ∷ false ∷ false ∷ true ∷ false ∷ false ∷ false ∷ []; spelled = refl; valued = refl } },
    (
      Tab ∷ LineFeed ∷ Space ∷ Space ∷ [],
      _,
      refl,
      record { parameter = []; whole = refl; spelled = refl },
      (LineFeed ∷ LineFeed ∷ LineFeed ∷ [], [], refl, record { parameter = []; whole = refl; spelled = refl }, refl),
    ),
  );
  sound = record { in_range = ((refl, tt), (tt, (tt, tt))); marked_once = tt; marked = tt };
}

pub letter_is_written : (after (Push (pos 72) ∷ WriteCharacter ∷ End ∷ []) [] 3).output ≡ codes "H"
letter_is_written = refl

pub letter_ends : stands (Push (pos 72) ∷ WriteCharacter ∷ End ∷ []) [] 3 ≡ Ended
letter_ends = refl

-- a number with a sign alone is 0
pub sign_alone : SpellsInstruction (Space ∷ Space ∷ Tab ∷ LineFeed ∷ []) (Push (pos 0))
sign_alone = record { parameter = _; whole = refl; spelled = record { negative = true; digits = []; spelled = refl; valued = refl } }

-- a cut number has no form
pub cut_number : BadFormAt (32 ∷ 32 ∷ 32 ∷ 9 ∷ []) 0
cut_number = record {
  before = [];
  begins = record { spelled = refl; in_range = tt; sign = refl };
  formless = λ front rest i e s. none_some (i, rest) (ap instruction_in e ∙ instruction_in-spelled front rest i s);
}

-- nor has a number without a sign; the `x` in front is a comment
pub no_sign : BadFormAt (120 ∷ 32 ∷ 32 ∷ 10 ∷ []) 1
no_sign = record {
  before = [];
  begins = record { spelled = refl; in_range = tt; sign = refl };
  formless = λ front rest i e s. none_some (i, rest) (ap instruction_in e ∙ instruction_in-spelled front rest i s);
}

-- 2^63 is out of range
pub number_out_of_range : NumberRangeAt (32 ∷ 32 ∷ 32 ∷ 9 ∷ (replicate 63 32 ++ 10 ∷ [])) 0
number_out_of_range = record {
  before = [];
  begins = record { spelled = refl; in_range = tt; sign = refl };
  front = Space ∷ Space ∷ Space ∷ Tab ∷ (replicate 63 Space ++ LineFeed ∷ []);
  rest = [];
  instruction = Push (pos (2 ^ 63));
  whole = refl;
  spelled = record { parameter = _; whole = refl; spelled = record { negative = false; digits = true ∷ replicate 63 false; spelled = refl; valued = refl } };
  outside = λ r. cc;
}

-- -2^63 is in range
pub lowest_is_spelled : ws_spells (32 ∷ 32 ∷ 9 ∷ 9 ∷ (replicate 63 32 ++ 10 ∷ [])) (Push (negsuc (2 ^ 63 - 1)) ∷ [])
lowest_is_spelled = record {
  spelled = (
    Space ∷ Space ∷ Tab ∷ Tab ∷ (replicate 63 Space ++ LineFeed ∷ []),
    [],
    refl,
    record { parameter = _; whole = refl; spelled = record { negative = true; digits = true ∷ replicate 63 false; spelled = refl; valued = refl } },
    refl,
  );
  sound = record { in_range = ((refl, tt), tt); marked_once = tt; marked = tt };
}

-- the second mark of one label is refused at its first byte
pub marked_twice : DuplicateLabelAt (10 ∷ 32 ∷ 32 ∷ 32 ∷ 10 ∷ 10 ∷ 32 ∷ 32 ∷ 32 ∷ 10 ∷ []) 5
marked_twice = record {
  before = Mark (false ∷ []) ∷ [];
  label = false ∷ [];
  after = [];
  right = record {
    begins = record { spelled = (_, [], refl, first, refl); in_range = (tt, tt); sign = refl };
    spelled = (LineFeed ∷ Space ∷ Space ∷ Space ∷ LineFeed ∷ [], _, refl, first, (_, [], refl, first, refl));
    in_range = (tt, (tt, tt));
    marked_once = (λ c. omega (arith, c.1), tt);
    marked = tt;
  };
  twice = (0, omega arith, refl);
} where
  first : SpellsInstruction (LineFeed ∷ Space ∷ Space ∷ Space ∷ LineFeed ∷ []) (Mark (false ∷ []))
  first = record { parameter = _; whole = refl; spelled = refl }

-- a jump to the empty label, which nothing marks
pub unmarked : UnknownLabelAt (10 ∷ 32 ∷ 10 ∷ 10 ∷ []) 0
unmarked = record {
  before = [];
  instruction = Jump [];
  after = [];
  right = record {
    begins = record { spelled = refl; in_range = tt; sign = refl };
    spelled = (LineFeed ∷ Space ∷ LineFeed ∷ LineFeed ∷ [], [], refl, record { parameter = _; whole = refl; spelled = refl }, refl);
    in_range = (tt, tt);
    marked_once = tt;
    marked = tt;
  };
  label = [];
  goes = (0, omega arith, refl);
  unmarked = λ c. omega (arith, c.1);
}

-- the empty program is past its last instruction
pub nothing_to_do : stands [] [] 0 ≡ Fault 4
nothing_to_do = refl

-- a mark takes a step, and what was written before the end stays written
pub mark_is_a_step : stands (Mark [] ∷ Push (pos 65) ∷ WriteCharacter ∷ []) [] 2 ≡ Going
mark_is_a_step = refl

pub past_the_last : stands (Mark [] ∷ Push (pos 65) ∷ WriteCharacter ∷ []) [] 3 ≡ Fault 4
past_the_last = refl

pub written_before : (after (Mark [] ∷ Push (pos 65) ∷ WriteCharacter ∷ []) [] 9).output ≡ codes "A"
written_before = refl

-- second less top, second by top, rounded down; the remainder has the divisor's sign
pub subtracts : (after (Push (pos 7) ∷ Push (pos 2) ∷ Subtract ∷ End ∷ []) [] 3).config.stack ≡ pos 5 ∷ []
subtracts = refl

pub divides : (after (Push (negsuc 6) ∷ Push (pos 2) ∷ Divide ∷ End ∷ []) [] 3).config.stack ≡ negsuc 3 ∷ []
divides = refl

pub remains : (after (Push (negsuc 6) ∷ Push (pos 2) ∷ Modulo ∷ End ∷ []) [] 3).config.stack ≡ pos 1 ∷ []
remains = refl

pub remains_below : (after (Push (pos 7) ∷ Push (negsuc 1) ∷ Modulo ∷ End ∷ []) [] 3).config.stack ≡ negsuc 0 ∷ []
remains_below = refl

-- -2^63 by -1 is outside, and the step leaves all but the standing as it was
pub quotient_outside : stands (Push (negsuc (2 ^ 63 - 1)) ∷ Push (negsuc 0) ∷ Divide ∷ []) [] 3 ≡ Fault 2
quotient_outside = refl

pub operands_stay : (after (Push (negsuc (2 ^ 63 - 1)) ∷ Push (negsuc 0) ∷ Divide ∷ []) [] 3).config.stack ≡ negsuc 0 ∷ negsuc (2 ^ 63 - 1) ∷ []
operands_stay = refl

-- a missing operand comes before a zero divisor
pub missing_first : stands (Push (pos 0) ∷ Divide ∷ End ∷ []) [] 2 ≡ Fault 1
missing_first = refl

pub zero_divisor : stands (Push (pos 1) ∷ Push (pos 0) ∷ Modulo ∷ End ∷ []) [] 3 ≡ Fault 3
zero_divisor = refl

-- copy 0 is the top; a negative place is a missing operand, as is one past the last value
pub copies_the_second : (after (Push (pos 1) ∷ Push (pos 2) ∷ Copy (pos 1) ∷ End ∷ []) [] 3).config.stack ≡ pos 1 ∷ pos 2 ∷ pos 1 ∷ []
copies_the_second = refl

pub copies_too_deep : stands (Push (pos 1) ∷ Copy (pos 1) ∷ End ∷ []) [] 2 ≡ Fault 1
copies_too_deep = refl

pub copies_below_zero : stands (Push (pos 1) ∷ Copy (negsuc 0) ∷ End ∷ []) [] 2 ≡ Fault 1
copies_below_zero = refl

-- slide 1 needs two values
pub slides : (after (Push (pos 1) ∷ Push (pos 2) ∷ Slide (pos 1) ∷ End ∷ []) [] 3).config.stack ≡ pos 2 ∷ []
slides = refl

pub slides_too_far : stands (Push (pos 1) ∷ Slide (pos 1) ∷ End ∷ []) [] 2 ≡ Fault 1
slides_too_far = refl

-- store pops the value and then the address, and a negative address is one
pub stores : value_at (pos 0) (after (Push (negsuc 8) ∷ Push (pos 5) ∷ Store ∷ End ∷ []) [] 3).config.heap (negsuc 8) ≡ pos 5
stores = simp gets

-- a return without a call, and one with a call, which goes on behind it
pub returns_alone : stands (Return ∷ []) [] 1 ≡ Fault 5
returns_alone = refl

pub calls_and_returns : (after (Call [] ∷ Push (pos 3) ∷ End ∷ Mark [] ∷ Return ∷ []) [] 4).config.stack ≡ pos 3 ∷ []
calls_and_returns = refl

-- -1 is written as the byte 255 and as the number
pub written_as_byte : (after (Push (negsuc 0) ∷ WriteCharacter ∷ End ∷ []) [] 2).output ≡ 255 ∷ []
written_as_byte = refl

-- a number that is read: the address is popped in a quiet step; then ` `, `-`, `4`, `2` and the `x` that closes it are taken
abbrev reads : List Instruction
reads = Push (pos 0) ∷ ReadNumber ∷ End ∷ []

pub address_is_quiet : (after reads (codes " -42x7") 2).taken ≡ 0
address_is_quiet = refl

pub number_is_closed : (after reads (codes " -42x7") 7).taken ≡ 5
number_is_closed = refl

pub number_is_stored : value_at (pos 0) (after reads (codes " -42x7") 7).config.heap (pos 0) ≡ negsuc 41
number_is_stored = simp gets

-- a blank behind the sign closes it as 0
pub sign_and_blank : (after reads (codes "- 4") 4).config.place ≡ 2
sign_and_blank = refl

-- the digit that leads outside is taken; the next step takes nothing and is fault 2, so it doesn't matter what follows
pub digit_outside : stands reads (codes "9223372036854775808 ") 21 ≡ Going
digit_outside = refl

pub digit_outside_taken : (after reads (codes "9223372036854775808 ") 22).taken ≡ 19
digit_outside_taken = refl

pub outside_is_fault : stands reads (codes "9223372036854775808 ") 22 ≡ Fault 2
outside_is_fault = refl

-- with a minus in front it is in range
pub lowest_is_read : stands reads (codes "-9223372036854775808 ") 23 ≡ Going
lowest_is_read = refl
