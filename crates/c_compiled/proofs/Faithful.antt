-- A desugared program with room is as lowering asks, so its program is faithful.
use Rattle.std.proofs.Common.{ℕ, zero, suc, [], ◌∷◌, ◌^◌, ◌<◌, List, Bool, refl, arith}
use Rattle.std.specs.Prelude.{codes}
use Rattle.std.specs.Str.{bytes_eq}
use Rattle.mach_core.specs.Rule.{input_at}
use Rattle.c_syntax.specs.Plain.{CUnit}
use Rattle.c_eval.specs.Text.{text_of}
use Rattle.c_valid.specs.Valid.{AreBytes}
use Rattle.c_helpers.specs.Simple.{desugared, charge_in}
use Rattle.c_programs.specs.Programs.{IsProgram}
use Rattle.c_fitting.specs.Blocks.{UnitDeclaresInBlocks}
use Rattle.c_rates.specs.Rates.{ration, spare_rate, rate_of}
use Rattle.c_rates.proofs.Paid.{rates_fit}
use Rattle.c_landing.specs.Landing.{Setting}
use Rattle.c_followed.specs.Framed.{MayCall}
use Rattle.c_followed.specs.Lowered.{setting_of, TextIs}
use Rattle.c_followed.proofs.Faithful.{lowered_faithfully}
use Rattle.c_compiled.specs.Helped.{PlainCallsAre}
use Rattle.c_compiled.proofs.Plain.{plain_helpers_are}
use Rattle.c_compiled.proofs.Printing.{calls_of_plain_helpers}
use Rattle.c_compiled.proofs.Helpers.{found_helpers_are_helpers}
use Rattle.c_compiled.proofs.Programs.{rates_of, helpers, may_call, called_in, IsMade, HasRoom, DesugaredProgramsAreFaithful}
use Rattle.c_compiled.proofs.Names.{called_unknown}
use Rattle.c_compiled.proofs.Found.{denied}
use Rattle.c_compiled.proofs.Functions.{functions_are}
use Rattle.c_compiled.proofs.Uses.{uses_land, pieces_land}

-- past the input's end there are zeros
input_byte : (input : List ℕ) (n : ℕ) → AreBytes input → input_at input n < 2 ^ 8
input_byte [] n bytes = omega arith
input_byte (c ∷ cs) zero bytes = bytes.0
input_byte (c ∷ cs) (suc n) bytes = input_byte cs n bytes.1

module _ (u : CUnit) (test reached kept : List ℕ → Bool) (input : List ℕ) (is : IsProgram u) (blocks : UnitDeclaresInBlocks u) (bytes : AreBytes input) (made : IsMade u test reached kept) (room : HasRoom u test reached input) where
  abbrev v : CUnit
  v = desugared u

  abbrev S : Setting
  S = setting_of v input (rate_of u)

  words : (i : ℕ) → input_at input i < 2 ^ 24
  words i = let k = input_byte input i bytes in omega (arith, k)

  can : MayCall S (may_call (text_of v))
  can = record {
    direct = λ name params c. called_unknown (text_of v) name params c;
    built_in = λ name params c. denied (bytes_eq name (codes "puts")) c;
    format = refl;
    bytes = words;
  }

  plain : PlainCallsAre S
  plain = calls_of_plain_helpers S words

  text : TextIs v (helpers u) input (rates_of u) (called_in v)
  text = record {
    few = room.few;
    room = room.room;
    memory = room.memory;
    some = (rates_fit u).some;
    enough = omega arith;
    paid = omega arith;
    refilled = omega arith;
    main = refl;
    can = can;
    functions = λ name f calls own. functions_are u test reached kept input is blocks made room name f calls own;
    helpers_can = plain.can;
    through = plain.through;
    unknown = λ name params c. plain.unknown ration name params c;
    helpers = λ name f calls own. plain_helpers_are S (text_of v) (charge_in u) spare_rate (found_helpers_are_helpers u ration (text_of v) kept made.has made.keeps).1 (omega arith) name f calls own;
    land = λ name operator c e. uses_land u test reached kept input made room name operator c e;
    known = λ name. refl;
    prints_through = λ params. refl;
    prints_built_in = λ name params. refl;
    prints_format = refl;
    prints = λ name params c own. pieces_land u test reached kept input made room name params c own;
  }

pub desugared_programs_are_faithful : DesugaredProgramsAreFaithful
desugared_programs_are_faithful u test reached kept input is blocks bytes made room fuel =
    lowered_faithfully (desugared u) (helpers u) input (rates_of u) (called_in (desugared u)) (text u test reached kept input is blocks bytes made room) fuel
