-- The law of the crate.
use Rattle.c_types.proofs.RefusalLemmas.{answers_say}
use Rattle.c_spelled_programs.proofs.TextTokensWhole.{tokens_are_of_text}
use Rattle.c_spelled_programs.proofs.Whole.{spelled_units_are_programs}
use Rattle.c_spelled_programs.specs.SourceProgramsLaws.{TextsArePrograms}

pub texts_are_programs : TextsArePrograms
texts_are_programs text u bytes spells =
    let parsed = spells.parsed in
    let within = (answers_say u).accepted spells.weight spells.types in
    spelled_units_are_programs parsed.tokens u (tokens_are_of_text text parsed.tokens bytes parsed.prepares) parsed.parses.1 within.0 within.1
