-- The parts of a program that were read are those that the lines say.
use Rattle.std.proofs.Common.{◌≡◌, ℕ, ◌+◌, ◌^◌, ◌<◌, ◌≤◌, List, [], ◌∷◌, ◌++◌, Option, None, unwrap_or, ◌==◌, length, map, sym, ap, ◌∙◌, refl, arith}
use Rattle.std.specs.List.{flat_map, slice_split}
use Rattle.std.proofs.lemmas.List.Sums.{count_by-le-length}
use Rattle.std.proofs.lemmas.List.Splits.{length-slice_split}
use denote.Ref.{Bor}
use Rattle.word24.specs.declared.word.Word.{Word}
use Rattle.eir_core.specs.declared.ops.Op.{Op}
use Rattle.eir_core.specs.Eir.{Eir, size_of}
use Rattle.eir_line.specs.Line.{Line}
use Rattle.eir_text.specs.declared.lines.PlacedLine.{PlacedLine}
use Rattle.eir_text.specs.Names.{defined_after}
use Rattle.eir_text.specs.Sections.{Placed, text_lines, data_lines}
use Rattle.eir_text.specs.Blocks.{first_block, block_labels, blocks_from}
use Rattle.eir_text.specs.Layout.{laid_out, data_end, data_labels, by_number}
use Rattle.eir_text.specs.Spells.{op_for, words_for, name_value, program_said}
use Rattle.eir_text.specs.Reading.{piece_of, piece_lines}
use Rattle.eir_text.proofs.NameLemmas.{defined_after-append}
use Rattle.eir_text.proofs.Said.{words_end}

piece_lines_are : (ps : List (ℕ × Bor PlacedLine)) → piece_lines ps ≡ map (λ x. x.1) (map piece_of ps)
piece_lines_are [] = refl
piece_lines_are (p ∷ ps) = ap (λ ls. (piece_of p).1 ∷ ls) (piece_lines_are ps)

-- the lines of pieces in order are those that are laid out
pub piece_lines_laid : (ps : List (ℕ × Bor PlacedLine)) (placed : List Placed) → map piece_of ps ≡ by_number (data_lines placed) → piece_lines ps ≡ laid_out (data_lines placed)
piece_lines_laid ps placed e = piece_lines_are ps ∙ ap (map (λ x. x.1)) e

-- what a name stands for, once the labels of text and data have their numbers
pub value_read : (placed : List Placed) (laid : List Line) (name : List ℕ) (first second : Option ℕ) (other : ℕ)
    → laid ≡ laid_out (data_lines placed)
    → first ≡ defined_after None (block_labels first_block (text_lines placed)) name
    → second ≡ defined_after first (data_labels 0 laid) name
    → other ≡ data_end laid
    → unwrap_or second other ≡ name_value placed name
value_read placed laid name first second other l f s o =
    let all : second ≡ defined_after None (block_labels first_block (text_lines placed) ++ data_labels 0 (laid_out (data_lines placed))) name =
    s ∙ (ap (λ d. defined_after d (data_labels 0 laid) name) f
    ∙ (ap (λ ls. defined_after (defined_after None (block_labels first_block (text_lines placed)) name) (data_labels 0 ls) name) l
    ∙ sym (defined_after-append None (block_labels first_block (text_lines placed)) (data_labels 0 (laid_out (data_lines placed))) name))) in
    let end : other ≡ data_end (laid_out (data_lines placed)) = o ∙ ap data_end l in
    ap (λ d. unwrap_or d other) all ∙ ap (unwrap_or (defined_after None (block_labels first_block (text_lines placed) ++ data_labels 0 (laid_out (data_lines placed))) name)) end

-- the program of these parts is the one that the lines say
pub same_program : (placed : List Placed) (v : List ℕ → ℕ) (laid : List Line) (blocks : List (List Op)) (words : List Word) (start : ℕ)
    → ((name : List ℕ) → v name ≡ name_value placed name)
    → laid ≡ laid_out (data_lines placed)
    → blocks ≡ blocks_from (op_for v) [] (text_lines placed)
    → words ≡ flat_map (λ line. words_for v line.statement) laid
    → start ≡ (program_said placed).start
    → (let p : Eir = record { blocks = blocks; words = words; start = start } in p) ≡ program_said placed
same_program placed v laid blocks words start h l b w s =
    let f : v ≡ name_value placed = λ i name. h name i in
    let bs : blocks ≡ blocks_from (op_for (name_value placed)) [] (text_lines placed) = b ∙ ap (λ (u : List ℕ → ℕ). blocks_from (op_for u) [] (text_lines placed)) f in
    let ws : words ≡ flat_map (λ line. words_for (name_value placed) line.statement) (laid_out (data_lines placed)) =
    w ∙ (ap (flat_map (λ line. words_for v line.statement)) l ∙ ap (λ (u : List ℕ → ℕ). flat_map (λ line. words_for u line.statement) (laid_out (data_lines placed))) f) in
    λ i. record { blocks = bs i; words = ws i; start = s i }

-- too many data words make the program too large
pub data_too_large : (placed : List Placed) → 2 ^ 21 < data_end (laid_out (data_lines placed)) → 2 ^ 21 < size_of (program_said placed)
data_too_large placed h = let e = words_end (name_value placed) (laid_out (data_lines placed)) in omega (arith, e)

-- a text has at most one line more than bytes
pub few_lines : (text : List ℕ) → length (slice_split (λ b. b == 10) text) ≤ length text + 1
few_lines text = let e = length-slice_split (λ b. b == 10) text in omega (arith, e, count_by-le-length (λ b. b == 10) text)
