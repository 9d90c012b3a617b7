use Rattle.elvm_cli.proofs.answer.answer_request.Goals as goal

pub returns-in-Compile-clause-usage : goal.returns-in-Compile-clause-usage
returns-in-Compile-clause-usage g c = λ usage. absurd (c.answer_file.ensures.deed usage)
