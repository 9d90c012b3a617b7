-- How long the text of an image is.
use Rattle.std.proofs.Common.{◌≡◌, ℕ, suc, ◌+◌, ◌*◌, ◌^◌, ◌≤◌, List, [], ◌∷◌, ◌++◌, length, ℤ, pos, negsuc, refl, ap, arith, length-append}
use Rattle.std.specs.Fmt.{decimal, signed_decimal}
use Rattle.std.proofs.lemmas.Fmt.{length-decimal-le, length_signed_le}
use Rattle.word24.specs.declared.word.Word.{Word}
use Rattle.word24.specs.Word.{number_of}
use Rattle.eir_core.specs.declared.ops.Op.{Op}
use Rattle.eir_core.specs.declared.ops.Operand.TheVariants.{Reg as register, Imm}
use Rattle.eir_core.specs.declared.ops.Op.TheVariants.{Mov, Add, Sub, Load, Store, Putc, Getc, Exit, Set, Jump, JumpIf}
use Rattle.eir_core.specs.Eir.{Eir, size_of}
use Rattle.sq_back.specs.declared.line.Line.{Line}
use Rattle.sq_back.specs.Code.{op_lines, ops_lines, blocks_lines, rows_lines, place_after, op_cells, ops_cells, blocks_cells, blocks_start, memory_start, first_lines, lines_of}
use Rattle.sq_back.specs.Text.{line_text, lines_text, word_text, words_text, text_of}
use Rattle.sq_back.proofs.Small.{IsNear, IsSmall, AreSmall, lines_small}
use Rattle.sq_back.proofs.Sizes.{memory_start-few}

number_short : (z : ℤ) → IsNear z → length (signed_decimal z) ≤ 9
number_short (pos n) h = length_signed_le 8 (pos n) (omega arith) (omega arith)
number_short (negsuc n) h = length_signed_le 8 (negsuc n) (omega arith) (omega arith)

line_length : (x y z : List ℕ) → length x ≤ 9 → length y ≤ 9 → length z ≤ 9 → length (x ++ 32 ∷ (y ++ 32 ∷ (z ++ 10 ∷ []))) ≤ 30
line_length x y z p q r =
    let e = length-append x (32 ∷ (y ++ 32 ∷ (z ++ 10 ∷ []))) in
    let f = length-append y (32 ∷ (z ++ 10 ∷ [])) in
    let g = length-append z (10 ∷ []) in
    omega (arith, e, f, g)

line_short : (line : Line) → IsSmall line → length (line_text line) ≤ 30
unfolding line_text
line_short line small =
    line_length (signed_decimal line.from) (signed_decimal line.to) (signed_decimal line.next) (number_short line.from small.from) (number_short line.to small.to) (number_short line.next small.next)

more : (a b n : ℕ) → a ≤ 30 → b ≤ 30 * n → a + b ≤ 30 * suc n
more a b n p q = omega arith

lines_short : (lines : List Line) → AreSmall lines → length (lines_text lines) ≤ 30 * length lines
unfolding lines_text
lines_short [] small = omega arith
lines_short (line ∷ lines) small =
    let e = length-append (line_text line) (lines_text lines) in
    let h = more (length (line_text line)) (length (lines_text lines)) (length lines) (line_short line small.0) (lines_short lines small.1) in
    omega (arith, e, h)

words_short : (words : List Word) → length (words_text words) ≤ 30 * length words
unfolding words_text word_text
words_short [] = omega arith
words_short (word ∷ words) =
    let e = length-append (decimal (number_of word) ++ 10 ∷ []) (words_text words) in
    let f = length-append (decimal (number_of word)) (10 ∷ []) in
    let d : length (decimal (number_of word)) ≤ 8 = length-decimal-le 8 (number_of word) (omega arith) (omega (arith, word.in_range)) (omega (arith, word.in_range)) in
    let h = words_short words in
    omega (arith, e, f, d, h)

-- an operation has three cells for each of its lines, wherever it stands
op_length : (n at : ℕ) (place : ℤ) (op : Op) → 3 * length (op_lines n at place op) ≡ op_cells op
op_length n at place (Mov r v) = refl
op_length n at place (Add r v) = refl
op_length n at place (Sub r v) = refl
op_length n at place (Load r v) = refl
op_length n at place (Store r v) = refl
op_length n at place (Putc v) = refl
op_length n at place (Getc r) = refl
op_length n at place Exit = refl
op_length n at place (Set test r v) = refl
op_length n at place (Jump (register r)) = refl
op_length n at place (Jump (Imm w)) = refl
op_length n at place (JumpIf test (register t) r v) = refl
op_length n at place (JumpIf test (Imm w) r v) = refl

both_length : (xs ys : List Line) (a b : ℕ) → 3 * length xs ≡ a → 3 * length ys ≡ b → 3 * length (xs ++ ys) ≡ a + b
both_length xs ys a b p q = omega (arith, length-append xs ys)

ops_length : (n k at : ℕ) (ops : List Op) → 3 * length (ops_lines n k at ops) ≡ ops_cells ops
ops_length n k at [] = refl
ops_length n k at (op ∷ ops) =
    let place = place_after n k (at + op_cells op) ops in
    both_length (op_lines n at place op) (ops_lines n k (at + op_cells op) ops) (op_cells op) (ops_cells ops) (op_length n at place op) (ops_length n k (at + op_cells op) ops)

blocks_length : (n k at : ℕ) (blocks : List (List Op)) → 3 * length (blocks_lines n k at blocks) ≡ blocks_cells blocks
blocks_length n k at [] = refl
blocks_length n k at (ops ∷ blocks) =
    both_length (ops_lines n (k + 1) at ops) (blocks_lines n (k + 1) (at + ops_cells ops) blocks) (ops_cells ops) (blocks_cells blocks) (ops_length n (k + 1) at ops) (blocks_length n (k + 1) (at + ops_cells ops) blocks)

rows_length : (at : ℕ) (blocks : List (List Op)) → length (rows_lines at blocks) ≡ length blocks
rows_length at [] = refl
rows_length at (ops ∷ blocks) = ap suc (rows_length (at + ops_cells ops) blocks)

whole : (l s r b n m : ℕ) → l ≡ 44 + s → s ≡ r + b → r ≡ n → 3 * b ≡ m → 3 * l ≡ (132 + 3 * n) + m
whole l s r b n m p q e f = omega arith

-- the lines fill the cells up to memory
pub lines_length : (p : Eir) → 3 * length (lines_of p) ≡ memory_start p
lines_length p =
    let rows = rows_lines (blocks_start p) p.blocks in
    let blocks = blocks_lines (length p.blocks) 0 (blocks_start p) p.blocks in
    whole (length (lines_of p)) (length (rows ++ blocks)) (length rows) (length blocks) (length p.blocks) (blocks_cells p.blocks)
    (length-append (first_lines p) (rows ++ blocks)) (length-append rows blocks) (rows_length (blocks_start p) p.blocks) (blocks_length (length p.blocks) 0 (blocks_start p) p.blocks)

pub text_short : (p : Eir) → size_of p ≤ 2 ^ 16 → length (text_of p) ≤ 2 ^ 29
text_short p h =
    bound (length (text_of p)) (length (lines_text (lines_of p))) (length (words_text p.words)) (length (lines_of p)) (length p.words) (memory_start p)
    (length-append (lines_text (lines_of p)) (words_text p.words)) (lines_short (lines_of p) (lines_small p h)) (words_short p.words) (lines_length p) (memory_start-few p h) (omega arith) where
      bound : (t a b l w m : ℕ) → t ≡ a + b → a ≤ 30 * l → b ≤ 30 * w → 3 * l ≡ m → m ≤ 2 ^ 22 → w ≤ 2 ^ 16 → t ≤ 2 ^ 29
      bound t a b l w m e p q f r s = omega arith
