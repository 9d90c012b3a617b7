use Rattle.elvm_cli.proofs.laws.compiled_programs_fit_their_room.Goals as goal

pub returns : goal.returns
returns c = λ text u bytes spells. (c.texts_are_compiled.ensures text u bytes spells).fits
