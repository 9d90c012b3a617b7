-- How many operations units of fuel pay for, in the program of a text.
use Rattle.std.specs.Prelude.{◌≡◌, ℕ, ◌+◌, ◌-◌, ◌*◌, ◌^◌, ◌≤◌, Bool, List, Some}
use Rattle.c_syntax.specs.Plain.{CUnit}
use Rattle.c_types.specs.Limits.{weight_of, IsTyped}
use Rattle.c_eval.specs.Environment.{Environment}
use Rattle.c_eval.specs.Text.{Definition, text_of, function_named}
use Rattle.c_memory.specs.Follows.{worth}
use Rattle.c_stated.specs.Statements.{stmt_steps}
use Rattle.c_fewer_names.specs.FewerKnownLaws.{NamesAreOfText}
use Rattle.c_fewer_calls.specs.Standing.{FunctionStands}

-- the second fuel at the start of a use, the operations that a unit of it pays for, those of what helper functions alone know, and those of a use
abbrev pub ration : ℕ
ration = 2 ^ 9

abbrev pub spare_rate : ℕ
spare_rate = 1021

abbrev pub pieces : ℕ
pieces = worth spare_rate ration

abbrev pub uses : ℕ
uses = spare_rate + pieces

-- those that a unit of the run's fuel pays for
abbrev pub rate_of : CUnit → ℕ
rate_of u = 2 ^ 20 * (weight_of u + 1) - 5

-- a unit of the run's fuel pays for a piece of a string, for `puts`, and for a format whose bytes are in the text's weight; and all of it is within the bound
pub record RatesFitIn (u : CUnit) : Type 0 where
  pub some : 1 ≤ rate_of u
  pub spelled : 30 + pieces ≤ rate_of u
  pub put : 60 + 2 * pieces ≤ rate_of u
  pub printed : (n : ℕ) → n ≤ weight_of u → worth (30 + 2 * pieces) n ≤ rate_of u
  pub bound : rate_of u + 5 ≡ 2 ^ 20 * (weight_of u + 1)
  pub short : uses ≤ 2 ^ 19

abbrev pub RatesFit : Type 0
RatesFit = (u : CUnit) → RatesFitIn u

-- it pays for the operations of a function with fewer operators, or of a turn of a loop in it
abbrev pub UnitsPay : Type 0
UnitsPay =
    (u : CUnit) (test reached : List ℕ → Bool) (name : List ℕ) (f g : Definition) (site : Environment) → IsTyped u → NamesAreOfText f.scope → function_named (text_of u) name ≡ Some f → FunctionStands test reached f g → site.scope ≡ g.scope
    → stmt_steps uses g.body site + 2 ≤ rate_of u
