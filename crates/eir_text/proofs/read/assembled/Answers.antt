use Rattle.std.proofs.Common.{◌≡◌, ◌≢◌, ◌^◌, ◌<◌, None, unwrap_or, codes, length, map, ap, ◌∙◌, subst, arith, []}
use Rattle.std.specs.List.{flat_map}
use Rattle.std.proofs.lemmas.List.{length-map}
use Rattle.std.proofs.lemmas.Result.{IfOk-weaker, IfErr-weaker, err_from_is_err_and}
use Rattle.eir_core.specs.Eir.{Eir, program_of, size_of}
use Rattle.eir_text.specs.declared.fault.EirFault.TheVariants.{Memory, TooLarge}
use Rattle.eir_text.specs.Names.{defined_after}
use Rattle.eir_text.specs.Sections.{text_lines}
use Rattle.eir_text.specs.Blocks.{first_block, block_labels, blocks_from}
use Rattle.eir_text.specs.Spells.{op_for, words_for, program_said}
use Rattle.eir_text.specs.Reading.{places, piece_lines, value_in}
use Rattle.eir_text.proofs.Said.{good_blocks, start_below}
use Rattle.eir_text.proofs.ReadLemmas.{piece_lines_laid, same_program, data_too_large}
use Rattle.eir_text.proofs.read.assembled.Goals as goal

pub returns-in_err-values-clause-refused : goal.returns-in_err-values-clause-refused
returns-in_err-values-clause-refused c =
    let p = err_from_is_err_and c.from_residual-in_err-values.result c.from_residual-in_err-values.ensures.1 in
    rw (p.1, p.2) (λ n. let q = c.in_err-values.ensures.refused n in (q.0, data_too_large (places c.args.lines.now) q.1))

pub program-requires-clause-good : goal.program-requires-clause-good
program-requires-clause-good c =
    good_blocks (value_in c.in_ok-values.values) (text_lines (places c.args.lines.now)) (program_of c.in_ok-blocks.blocks.items c.in_ok-words.words.items c.in_ok-values.start) c.in_ok-blocks.ensures.blocks

pub program-requires-clause-start : goal.program-requires-clause-start
program-requires-clause-start c =
    let lines = text_lines (places c.args.lines.now) in
    let below = start_below (value_in c.in_ok-values.values) lines (codes "main") in
    let start : c.in_ok-values.start ≡ unwrap_or (defined_after None (block_labels first_block lines) (codes "main")) 0 = c.in_ok-values.ensures.start in
    let many : length (map (λ b. b.items) c.in_ok-blocks.blocks.items) ≡ length (blocks_from (op_for (value_in c.in_ok-values.values)) [] lines) = ap length c.in_ok-blocks.ensures.blocks in
    let same : length (map (λ b. b.items) c.in_ok-blocks.blocks.items) ≡ length c.in_ok-blocks.blocks.items = length-map c.in_ok-blocks.blocks.items (λ b. b.items) in
    omega (arith, below, c.in_ok-blocks.blocks.ok)

pub returns-clause-program : goal.returns-clause-program
returns-clause-program c =
    let placed = places c.args.lines.now in
    let same = same_program placed (value_in c.in_ok-values.values) (piece_lines c.in_ok-pieces.pieces.items) (map (λ b. b.items) c.in_ok-blocks.blocks.items) c.in_ok-words.words.items c.in_ok-values.start
    c.in_ok-values.ensures.values (piece_lines_laid c.in_ok-pieces.pieces.items placed c.in_ok-pieces.ensures.lines) c.in_ok-blocks.ensures.blocks
    (c.in_ok-words.ensures.words ∙ ap (λ ps. flat_map (λ line. words_for (value_in c.in_ok-values.values) line.statement) (piece_lines ps)) c.deref-2.ensures.value) c.in_ok-values.ensures.start in
    IfOk-weaker c.program.result (λ p. p ≡ program_of c.in_ok-blocks.blocks.items c.in_ok-words.words.items c.in_ok-values.start) (λ p. p ≡ program_said placed) (λ p e. e ∙ same) c.program.ensures.program

pub returns-clause-refused : goal.returns-clause-refused
returns-clause-refused c =
    let placed = places c.args.lines.now in
    let same = same_program placed (value_in c.in_ok-values.values) (piece_lines c.in_ok-pieces.pieces.items) (map (λ b. b.items) c.in_ok-blocks.blocks.items) c.in_ok-words.words.items c.in_ok-values.start
    c.in_ok-values.ensures.values (piece_lines_laid c.in_ok-pieces.pieces.items placed c.in_ok-pieces.ensures.lines) c.in_ok-blocks.ensures.blocks
    (c.in_ok-words.ensures.words ∙ ap (λ ps. flat_map (λ line. words_for (value_in c.in_ok-values.values) line.statement) (piece_lines ps)) c.deref-2.ensures.value) c.in_ok-values.ensures.start in
    let said = program_of c.in_ok-blocks.blocks.items c.in_ok-words.words.items c.in_ok-values.start in
    IfErr-weaker c.program.result (λ e. (e ≡ TooLarge) × (2 ^ 21 < size_of said)) (λ e. e ≢ Memory → (e ≡ TooLarge) × (2 ^ 21 < size_of (program_said placed)))
    (λ e q n. (q.0, subst (λ (p : Eir). 2 ^ 21 < size_of p) same q.1)) c.program.ensures.refused
