use Rattle.elvm_cli.proofs.targets.run_in.Goals as goal

pub returns-in-Brainfuck-clause-shows : goal.returns-in-Brainfuck-clause-shows
returns-in-Brainfuck-clause-shows g c = λ file. rw c.in-Brainfuck.is c.run_text.ensures.shows

pub returns-in-Whitespace-clause-shows : goal.returns-in-Whitespace-clause-shows
returns-in-Whitespace-clause-shows g c = λ file. rw c.in-Whitespace.is c.run_text-in-Whitespace.ensures.shows

pub returns-in-Subleq-clause-shows : goal.returns-in-Subleq-clause-shows
returns-in-Subleq-clause-shows g c = λ file. rw c.in-Subleq.is c.run_text-in-Subleq.ensures.shows

pub returns-in-Wasm-clause-shows : goal.returns-in-Wasm-clause-shows
returns-in-Wasm-clause-shows g c = λ file. rw c.in-Wasm.is c.run_text-in-Wasm.ensures.shows

pub returns-in-Piet-clause-shows : goal.returns-in-Piet-clause-shows
returns-in-Piet-clause-shows g c = λ file. rw c.in-Piet.is c.run_text-in-Piet.ensures.shows
