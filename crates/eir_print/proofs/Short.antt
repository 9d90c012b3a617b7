-- How long a printed text is.
use Rattle.std.proofs.Common.{◌≡◌, ℕ, suc, ◌+◌, ◌*◌, ◌^◌, ◌<◌, ◌≤◌, Bool, true, false, if◌then◌else◌, ◌==◌, List, [], ◌∷◌, ◌++◌, map, length, sym, ap, ◌∙◌, arith, length-append}
use Rattle.std.specs.Prelude.{codes, decimal, sum_by}
use Rattle.std.proofs.lemmas.Fmt.{length-decimal-le}
use Rattle.std.proofs.lemmas.List.Sums.{sum_by-cons}
use Rattle.word24.specs.declared.word.Word.{Word}
use Rattle.eir_core.specs.declared.ops.Reg.{Reg}
use Rattle.eir_core.specs.declared.ops.Reg.TheVariants as reg
use Rattle.eir_core.specs.declared.ops.Operand.{Operand}
use Rattle.eir_core.specs.declared.ops.Operand.TheVariants as operand
use Rattle.eir_core.specs.declared.ops.Cond.{Cond}
use Rattle.eir_core.specs.declared.ops.Cond.TheVariants.{Eq, Ne, Lt, Gt, Le, Ge}
use Rattle.eir_core.specs.declared.ops.Op.{Op}
use Rattle.eir_core.specs.declared.ops.Op.TheVariants as op
use Rattle.eir_core.specs.Eir.{Eir, IsEir}
use Rattle.eir_print.specs.Printed.{register_name, operand_text, comparison_name, with_operand, with_two, with_three, op_line, word_line, label_line, start_lines, block_lines, blocks_lines, header_lines, text_of, printed}
use Rattle.eir_print.proofs.Texts.{text_of-append, block_text, program_text}

number_short : (n : ℕ) → n < 2 ^ 24 → length (decimal n) ≤ 8
number_short n h = length-decimal-le 8 n (omega arith) (omega arith) (omega arith)

register_short : (r : Reg) → length (register_name r) ≤ 8
register_short reg.A = omega arith
register_short reg.B = omega arith
register_short reg.C = omega arith
register_short reg.D = omega arith
register_short reg.SP = omega arith
register_short reg.BP = omega arith

operand_short : (v : Operand) → length (operand_text v) ≤ 8
operand_short (operand.Reg r) = register_short r
operand_short (operand.Imm w) = number_short w.value w.in_range

one_length : (name x : List ℕ) → length (with_operand name x) ≡ length name + 1 + length x
one_length name x = length-append (name ++ codes " ") x ∙ ap (λ n. n + length x) (length-append name (codes " "))

two_length : (name x y : List ℕ) → length (with_two name x y) ≡ length name + 1 + length x + 2 + length y
two_length name x y = length-append (with_operand name x ++ codes ", ") y ∙ ap (λ n. n + length y) (length-append (with_operand name x) (codes ", ") ∙ ap (λ n. n + 2) (one_length name x))

three_length : (name x y z : List ℕ) → length (with_three name x y z) ≡ length name + 1 + length x + 2 + length y + 2 + length z
three_length name x y z = length-append (with_two name x y ++ codes ", ") z ∙ ap (λ n. n + length z) (length-append (with_two name x y) (codes ", ") ∙ ap (λ n. n + 2) (two_length name x y))

one_short : (name x : List ℕ) → length name ≤ 8 → length x ≤ 8 → length (with_operand name x) ≤ 60
one_short name x p q = omega (arith, one_length name x)

two_short : (name x y : List ℕ) → length name ≤ 8 → length x ≤ 8 → length y ≤ 8 → length (with_two name x y) ≤ 60
two_short name x y p q r = omega (arith, two_length name x y)

three_short : (name x y z : List ℕ) → length name ≤ 8 → length x ≤ 8 → length y ≤ 8 → length z ≤ 8 → length (with_three name x y z) ≤ 60
three_short name x y z p q r s = omega (arith, three_length name x y z)

comparison_short : (c : Cond) → length (comparison_name c) ≤ 7
comparison_short Eq = omega arith
comparison_short Ne = omega arith
comparison_short Lt = omega arith
comparison_short Gt = omega arith
comparison_short Le = omega arith
comparison_short Ge = omega arith

op_short : (o : Op) → length (op_line o) ≤ 61
op_short (op.Mov r v) = let h = two_short (codes "mov") (register_name r) (operand_text v) (omega arith) (register_short r) (operand_short v) in omega arith
op_short (op.Add r v) = let h = two_short (codes "add") (register_name r) (operand_text v) (omega arith) (register_short r) (operand_short v) in omega arith
op_short (op.Sub r v) = let h = two_short (codes "sub") (register_name r) (operand_text v) (omega arith) (register_short r) (operand_short v) in omega arith
op_short (op.Load r v) = let h = two_short (codes "load") (register_name r) (operand_text v) (omega arith) (register_short r) (operand_short v) in omega arith
op_short (op.Store r v) = let h = two_short (codes "store") (register_name r) (operand_text v) (omega arith) (register_short r) (operand_short v) in omega arith
op_short (op.Putc v) = let h = one_short (codes "putc") (operand_text v) (omega arith) (operand_short v) in omega arith
op_short (op.Getc r) = let h = one_short (codes "getc") (register_name r) (omega arith) (register_short r) in omega arith
op_short op.Exit = omega arith
op_short (op.Set c r v) = let k = comparison_short c in let h = two_short (comparison_name c) (register_name r) (operand_text v) (omega arith) (register_short r) (operand_short v) in omega arith
op_short (op.Jump v) = let h = one_short (codes "jmp") (operand_text v) (omega arith) (operand_short v) in omega arith
op_short (op.JumpIf c w r v) = let k = comparison_short c in let h = three_short (codes "j" ++ comparison_name c) (operand_text w) (register_name r) (operand_text v) (omega arith) (operand_short w) (register_short r) (operand_short v) in omega arith

-- lines of at most 61 bytes are a text of at most 62 bytes for each
lines_short : {X : Type 0} (line : X → List ℕ) (xs : List X) → ((x : X) → length (line x) ≤ 61) → length (text_of (map line xs)) ≤ 62 * length xs
lines_short line [] h = omega arith
lines_short line (x ∷ xs) h =
    let one : length (line x) ≤ 61 = h x in
    let rest : length (text_of (map line xs)) ≤ 62 * length xs = lines_short line xs h in
    let e : length ((line x ++ codes "\n") ++ text_of (map line xs)) ≡ length (line x) + 1 + length (text_of (map line xs)) =
    length-append (line x ++ codes "\n") (text_of (map line xs)) ∙ ap (λ n. n + length (text_of (map line xs))) (length-append (line x) (codes "\n")) in
    omega arith

start_short : (start k : ℕ) → length (text_of (start_lines start k)) ≤ 6
start_short start k = at (k == start) where
  at : (t : Bool) → length (text_of (if t then codes "main:" ∷ [] else [])) ≤ 6
  at true = omega arith
  at false = omega arith

label_short : (k : ℕ) → k < 2 ^ 24 → length (label_line k) ≤ 61
label_short k h =
    let d : length (decimal k) ≤ 8 = number_short k h in
    let e : length (label_line k) ≡ 1 + length (decimal k) + 1 = length-append (codes "b" ++ decimal k) (codes ":") ∙ ap (λ n. n + 1) (length-append (codes "b") (decimal k)) in
    omega arith

one_line : (line : List ℕ) → length (text_of (line ∷ [])) ≡ length line + 1
one_line line = let e = length-append (line ++ codes "\n") [] in let f = length-append line (codes "\n") in omega arith

block_short : (start k : ℕ) (ops : List Op) → k < 2 ^ 24 → length (text_of (block_lines start k ops)) ≤ 68 + 62 * length ops
block_short start k ops h =
    let s : length (text_of (start_lines start k)) ≤ 6 = start_short start k in
    let l : length (text_of (label_line k ∷ [])) ≡ length (label_line k) + 1 = one_line (label_line k) in
    let b : length (label_line k) ≤ 61 = label_short k h in
    let o : length (text_of (map op_line ops)) ≤ 62 * length ops = lines_short op_line ops op_short in
    let e : length (text_of (block_lines start k ops)) ≡ length (text_of (start_lines start k)) + (length (text_of (label_line k ∷ [])) + length (text_of (map op_line ops))) =
    ap length (sym (block_text start k ops))
    ∙ (length-append (text_of (start_lines start k)) (text_of (label_line k ∷ []) ++ text_of (map op_line ops))
    ∙ ap (λ n. length (text_of (start_lines start k)) + n) (length-append (text_of (label_line k ∷ [])) (text_of (map op_line ops)))) in
    bound (length (text_of (block_lines start k ops))) (length (text_of (start_lines start k))) (length (text_of (label_line k ∷ []))) (length (text_of (map op_line ops))) (62 * length ops) e s (omega arith) o where
      bound : (n s l o m : ℕ) → n ≡ s + (l + o) → s ≤ 6 → l ≤ 62 → o ≤ m → n ≤ 68 + m
      bound n s l o m e a b c = omega arith

blocks_short : (start k : ℕ) (blocks : List (List Op)) → k + length blocks < 2 ^ 24 → length (text_of (blocks_lines start k blocks)) ≤ 68 * length blocks + 62 * sum_by length blocks + 6
blocks_short start k [] h = let s = start_short start k in omega arith
blocks_short start k (ops ∷ blocks) h =
    bound (length (text_of (blocks_lines start k (ops ∷ blocks)))) (length (text_of (block_lines start k ops))) (length (text_of (blocks_lines start (k + 1) blocks))) (length ops) (length blocks) (sum_by length blocks)
    (ap length (text_of-append (block_lines start k ops) (blocks_lines start (k + 1) blocks)) ∙ length-append (text_of (block_lines start k ops)) (text_of (blocks_lines start (k + 1) blocks)))
    (sum_by length (ops ∷ blocks)) (block_short start k ops (omega arith)) (blocks_short start (k + 1) blocks (omega arith)) (sum_by-cons length ops blocks) where
      bound : (n a b o l s : ℕ) → n ≡ a + b → (t : ℕ) → a ≤ 68 + 62 * o → b ≤ 68 * l + 62 * s + 6 → t ≡ o + s → n ≤ 68 * suc l + 62 * t + 6
      bound n a b o l s e t p q f = omega arith

header_short : (words : List Word) → length (text_of (header_lines words)) ≤ 6
header_short [] = omega arith
header_short (w ∷ words) = omega arith

word_short : (w : Word) → length (word_line w) ≤ 61
word_short w = let d : length (decimal w.value) ≤ 8 = number_short w.value w.in_range in let e = length-append (codes "\t.long ") (decimal w.value) in omega arith

pub printed_short : (p : Eir) → IsEir p → length (printed p) ≤ 2 ^ 28
printed_short p h =
    let bs = text_of (blocks_lines p.start 0 p.blocks) in
    let hs = text_of (header_lines p.words) in
    let ws = text_of (map word_line p.words) in
    bound (length (printed p)) (length bs) (length hs) (length ws) (length p.blocks) (sum_by length p.blocks) (length p.words)
    (ap length (sym (program_text p)) ∙ (length-append (text_of (codes ".text" ∷ [])) (bs ++ (hs ++ ws)) ∙ ap (λ n. 6 + n) (length-append bs (hs ++ ws) ∙ ap (λ n. length bs + n) (length-append hs ws))))
    (blocks_short p.start 0 p.blocks (omega (arith, h.size))) (header_short p.words) (lines_short word_line p.words word_short) h.size where
      bound : (n b t w l s m : ℕ) → n ≡ 6 + (b + (t + w)) → b ≤ 68 * l + 62 * s + 6 → t ≤ 6 → w ≤ 62 * m → l + s + m ≤ 2 ^ 21 → n ≤ 2 ^ 28
      bound n b t w l s m e p q r z = omega arith
