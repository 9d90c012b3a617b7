-- Desugared programs, as lowering asks of them.
use Rattle.std.specs.Prelude.{◌≡◌, ℕ, suc, ◌+◌, ◌*◌, ◌^◌, ◌<◌, ◌≤◌, Bool, true, false, not, ◌&&◌, ◌||◌, List, length, Some, is_some, codes}
use Rattle.std.specs.List.{list_any}
use Rattle.std.specs.Str.{bytes_eq}
use Rattle.c_syntax.specs.Plain.{CUnit}
use Rattle.c_types.specs.Limits.{weight_of}
use Rattle.c_types.specs.Scope.{contains}
use Rattle.c_types.specs.Units.{defined_in}
use Rattle.c_eval.specs.Run.{most_charge}
use Rattle.c_eval.specs.Environment.{Environment, Callee, Direct, Known, Format, Through}
use Rattle.c_eval.specs.Text.{Definition, Text, text_of, function_named}
use Rattle.c_eval.specs.Meaning.{eval, meaning_in, meaning_of}
use Rattle.c_eval.specs.Helpers.{Helpers, helper_rules}
use Rattle.c_valid.specs.Valid.{AreBytes}
use Rattle.c_helpers.specs.Functions.{format_name}
use Rattle.c_helpers.specs.Laws.{is_strange}
use Rattle.c_helpers.specs.Meanings.{stands_for}
use Rattle.c_helpers.specs.Simple.{desugared, charge_in, helpers_of}
use Rattle.c_fewer_types.specs.Standing.{IsTextName}
use Rattle.c_fewer_calls.specs.Standing.{FunctionStands}
use Rattle.c_fewer_calls.specs.There.{HasHelpers}
use Rattle.c_fewer_names.specs.FewerKnownLaws.{NamesAreOfText}
use Rattle.c_programs.specs.Programs.{IsProgram}
use Rattle.c_rates.specs.Rates.{ration, spare_rate, pieces, uses, rate_of}
use Rattle.c_fitting.specs.Blocks.{UnitDeclaresInBlocks}
use Rattle.c_place.specs.Code.{jumps}
use Rattle.c_lowered.specs.Counts.{is_known_to_helpers}
use Rattle.c_lowered.specs.Whole.{frames, whole_code}
use Rattle.c_stated.specs.Statements.{stmt_need, stmt_steps}
use Rattle.c_laid.specs.Data.{DataIs}
use Rattle.c_followed.specs.Faithful.{IsFaithful}
use Rattle.c_followed.specs.Lowered.{Rates, Called, TextIs}
use Rattle.c_compiled.specs.Helped.{calls_plain, calls_pieces}
use Rattle.c_compiled.specs.Found.{FunctionsAreKept}
use Rattle.c_fewer_names.specs.Names.{kept_in, is_reached, passes}
use Rattle.c_compiled.specs.PrintersFailLaws.{PrintersFail}
use Rattle.c_compiled.specs.Compiled.{compiled}

-- ---- what units pay for

abbrev pub rates_of : CUnit → Rates
rates_of u = record { rate = rate_of u; spare_rate = spare_rate; uses = uses; pieces = pieces }

-- ---- what is called

-- functions of a text call its functions, the helper functions that it has for operators, through values, and what is always known but `puts`
abbrev pub may_call : Text → Callee → Bool
may_call t (Direct name params) = not (list_any is_strange name) || (is_some (stands_for name) && is_some (function_named t name))
may_call t (Known name params) = not (bytes_eq name (codes "puts"))
may_call t Format = false
may_call t (Through params) = true

abbrev pub called_in : CUnit → Called
called_in u = record { may = may_call (text_of u); may_help = calls_plain; may_print = calls_pieces }

-- ---- what a desugared program is

abbrev pub helpers : CUnit → Helpers
helpers u = helpers_of ration u

-- its functions are those that are kept: helper functions as they are, and those of the text with fewer operators, where names that pass a test are kept
pub record IsMade (u : CUnit) (test reached kept : List ℕ → Bool) : Type 0 where
  pub has : HasHelpers (helpers u) (text_of (desugared u)) kept
  pub keeps : FunctionsAreKept (text_of (desugared u)) kept
  pub found : (name : List ℕ) → kept name ≡ true → is_some (function_named (text_of (desugared u)) name) ≡ true
  pub functions : (name : List ℕ) (g : Definition) → IsTextName name → function_named (text_of (desugared u)) name ≡ Some g → (f : Definition) × (function_named (text_of u) name ≡ Some f) × FunctionStands test reached f g
  pub text : (name : List ℕ) → test name ≡ true → IsTextName name → contains (defined_in u.items) name ≡ true → kept name ≡ true
  pub strange : (name : List ℕ) → test name ≡ true → list_any is_strange name ≡ true → (kept name ≡ true) × (is_known_to_helpers name ≡ false)

-- its blocks and frames are numbered by words, its first memory means its objects, frames are within charges, units pay for turns and calls, formats are in the weight, and functions that print fail as what they stand for
pub record HasRoom (u : CUnit) (test reached : List ℕ → Bool) (input : List ℕ) : Type 0 where
  pub few : jumps (whole_code (desugared u)) < 2 ^ 24
  pub room : frames (desugared u) + most_charge + 1024 < 2 ^ 24
  pub memory : DataIs (desugared u)
  pub framed : (name : List ℕ) (f g : Definition) (site : Environment) → IsTextName name → NamesAreOfText f.scope → function_named (text_of u) name ≡ Some f → FunctionStands test reached f g → site.scope ≡ g.scope → suc (length g.params) + stmt_need g.body site ≤ charge_in u name
  pub paid : (name : List ℕ) (f g : Definition) (site : Environment) → IsTextName name → NamesAreOfText f.scope → function_named (text_of u) name ≡ Some f → FunctionStands test reached f g → site.scope ≡ g.scope → stmt_steps uses g.body site + 2 ≤ rate_of u
  pub formats : (format : List ℕ) (f : Definition) → function_named (text_of (desugared u)) (format_name format) ≡ Some f → length format ≤ weight_of u
  pub fails : PrintersFail u input

-- the program to which a desugared program with room is lowered shows its output and taken bytes no earlier than units are spent, and within so many steps for each unit; it ends where the text does
abbrev pub DesugaredProgramsAreFaithful : Type 0
DesugaredProgramsAreFaithful =
    (u : CUnit) (test reached kept : List ℕ → Bool) (input : List ℕ) → IsProgram u → UnitDeclaresInBlocks u → AreBytes input → IsMade u test reached kept → HasRoom u test reached input
    → (fuel : ℕ) → IsFaithful (compiled u) input fuel ((rate_of u + 5) * (fuel + 1)) (meaning_in (eval (helper_rules (helpers u) (text_of (desugared u)) input) (text_of (desugared u)) input fuel))

-- ---- programs

-- the blocks and frames of a desugared program are numbered by words, its first memory means its objects, and functions that print fail as what they stand for
pub record FitsWords (u : CUnit) (input : List ℕ) : Type 0 where
  pub few : jumps (whole_code (desugared u)) < 2 ^ 24
  pub room : frames (desugared u) + most_charge + 1024 < 2 ^ 24
  pub memory : DataIs (desugared u)
  pub fails : PrintersFail u input

-- then what is emitted behaves as its source: it shows the program's output and taken bytes no earlier than units are spent, within 2^20 steps for each unit and each of the text's weight, and ends where the program does
abbrev pub ProgramsAreLowered : Type 0
ProgramsAreLowered = (u : CUnit) (input : List ℕ) (fuel : ℕ) → IsProgram u → UnitDeclaresInBlocks u → AreBytes input → FitsWords u input → IsFaithful (compiled u) input fuel (2 ^ 20 * (weight_of u + 1) * (fuel + 1)) (meaning_of u input fuel)
