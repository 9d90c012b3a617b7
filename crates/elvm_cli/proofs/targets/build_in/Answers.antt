use Rattle.elvm_cli.proofs.targets.build_in.Goals as goal

pub returns-in-Brainfuck : goal.returns-in-Brainfuck
returns-in-Brainfuck g c = λ file input. rw c.in-Brainfuck.is c.build_text.ensures

pub returns-in-Whitespace : goal.returns-in-Whitespace
returns-in-Whitespace g c = λ file input. rw c.in-Whitespace.is c.build_text_sharply.ensures

pub returns-in-Subleq : goal.returns-in-Subleq
returns-in-Subleq g c = λ file input. rw c.in-Subleq.is c.build_text_sharply-in-Subleq.ensures

pub returns-in-Piet : goal.returns-in-Piet
returns-in-Piet g c = λ file input. rw c.in-Piet.is c.build_text-in-Piet.ensures

pub returns-in-Wasm : goal.returns-in-Wasm
returns-in-Wasm g c = λ file input. rw c.in-Wasm.is c.build_text-in-Wasm.ensures
