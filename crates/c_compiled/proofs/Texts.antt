-- What texts spell is compiled.
use Rattle.std.proofs.Common.{◌^◌, ◌<◌, arith}
use Rattle.eir_core.specs.Eir.{size_of}
use Rattle.c_syntax.specs.Plain.{CUnit}
use Rattle.c_programs.specs.Programs.{IsProgram}
use Rattle.c_fitting.specs.Blocks.{UnitDeclaresInBlocks}
use Rattle.c_spelled_programs.proofs.SourceProgramsWhole.{texts_are_programs}
use Rattle.c_fitting.specs.InBlocksLaws.{UnitsDeclareInBlocks}
use Rattle.c_fitting.proofs.Texts.{texts_stay_in_blocks}
use Rattle.c_fewer_names.proofs.Typed.{programs_stay_typed}
use Rattle.c_compiled.proofs.RoomWhole.{programs_are_small, room_suffices}
use Rattle.c_compiled.specs.Compiled.{compiled}
use Rattle.c_compiled.specs.Texts.{IsCompiledText, TextsAreCompiled}
use Rattle.c_compiled.proofs.Compiled.{programs_are_compiled}

compiled_text : (u : CUnit) → IsProgram u → UnitDeclaresInBlocks u → IsCompiledText u
compiled_text u p blocks = record {
  lowerable = record { typed = programs_stay_typed u p; blocks = texts_stay_in_blocks u blocks };
  fits = room_suffices u p blocks;
  small = (let less : size_of (compiled u) < 2 ^ 21 = programs_are_small u p blocks in omega (arith, less));
  means = λ input bytes. programs_are_compiled u input p blocks bytes;
}

-- in what tokens spell, declarations stand in blocks
pub texts_are_compiled : UnitsDeclareInBlocks → TextsAreCompiled
texts_are_compiled blocked text u bytes spells = compiled_text u (texts_are_programs text u bytes spells) (blocked spells.parsed.tokens u spells.parsed.parses.1)
