-- What a printed text says, line by line.
use Rattle.std.proofs.Common.{◌≡◌, ℕ, ◌+◌, ◌^◌, ◌<◌, Bool, true, false, if◌then◌else◌, ◌==◌, List, [], ◌∷◌, ◌++◌, map, length, refl, sym, subst, append_assoc, arith}
use Rattle.std.specs.Prelude.{codes, decimal}
use Rattle.word24.specs.declared.word.Word.{Word}
use Rattle.word24.specs.Word.{number_of}
use Rattle.eir_core.specs.declared.ops.Op.{Op}
use Rattle.eir_core.specs.Eir.{Eir}
use Rattle.eir_line.specs.Line.{Line, Number, Nothing, Text, Data, Long}
use Rattle.eir_print.specs.Printed.{op_line, word_line, label_line, start_lines, block_lines, blocks_lines, header_lines, lines_of}
use Rattle.eir_print.proofs.Forms.{statement_said, saying, labelled, op_form, op_unbroken, word_form, word_unbroken, label_form, label_unbroken, main_form, text_form, data_form, empty_form}
use Rattle.eir_print.proofs.LineForms.{IsForm, Reads, Reads-append, Reads-map}

-- the forms of printed lines

abbrev pub op_said : Op → Line
op_said o = saying (statement_said o)

abbrev pub word_said : Word → Line
word_said w = saying (Long (Number false (number_of w)))

abbrev pub label_said : ℕ → Line
label_said k = labelled (codes "b" ++ decimal k)

abbrev pub start_said : ℕ → ℕ → List Line
start_said start k = if k == start then labelled (codes "main") ∷ [] else []

abbrev pub blocks_said : ℕ → ℕ → List (List Op) → List Line
blocks_said start k [] = start_said start k
blocks_said start k (ops ∷ blocks) = (start_said start k ++ label_said k ∷ map op_said ops) ++ blocks_said start (k + 1) blocks

-- the line behind the blocks: the data section's first, or else the text's end
abbrev pub behind_said : List Word → Line
behind_said [] = saying Nothing
behind_said (w ∷ words) = saying (Data 0)

abbrev pub data_said : List Word → List Line
data_said [] = []
data_said (w ∷ words) = map word_said (w ∷ words) ++ saying Nothing ∷ []

-- the lines of the text section
abbrev pub text_said : Eir → List Line
text_said p = saying Text ∷ (blocks_said p.start 0 p.blocks ++ behind_said p.words ∷ [])

start_read : (start k : ℕ) → Reads (start_lines start k) (start_said start k)
start_read start k = at (k == start) where
  at : (same : Bool) → Reads (if same then codes "main:" ∷ [] else []) (if same then labelled (codes "main") ∷ [] else [])
  at true = (record { form = main_form; unbroken = refl }, tt)
  at false = tt

ops_read : (ops : List Op) → Reads (map op_line ops) (map op_said ops)
ops_read ops = Reads-map op_line op_said ops (λ o. record { form = op_form o; unbroken = op_unbroken o })

blocks_read : (start k : ℕ) (blocks : List (List Op)) → k + length blocks < 2 ^ 64 → Reads (blocks_lines start k blocks) (blocks_said start k blocks)
blocks_read start k [] h = start_read start k
blocks_read start k (ops ∷ blocks) h =
    let small : k < 2 ^ 64 = omega arith in
    let label : IsForm (label_line k) (label_said k) = record { form = label_form k small; unbroken = label_unbroken k small } in
    Reads-append (block_lines start k ops) (blocks_lines start (k + 1) blocks) (start_said start k ++ label_said k ∷ map op_said ops) (blocks_said start (k + 1) blocks)
    (Reads-append (start_lines start k) (label_line k ∷ map op_line ops) (start_said start k) (label_said k ∷ map op_said ops) (start_read start k) (label, ops_read ops))
    (blocks_read start (k + 1) blocks (omega arith))

data_read : (words : List Word) → Reads ((header_lines words ++ map word_line words) ++ [] ∷ []) (behind_said words ∷ data_said words)
data_read [] = (record { form = empty_form; unbroken = refl }, tt)
data_read (w ∷ words) = (
  record { form = data_form; unbroken = refl },
  Reads-append (map word_line (w ∷ words)) ([] ∷ []) (map word_said (w ∷ words)) (saying Nothing ∷ [])
      (Reads-map word_line word_said (w ∷ words) (λ v. record { form = word_form v; unbroken = word_unbroken v })) (record { form = empty_form; unbroken = refl }, tt),
)

-- the lines of a printed text and their forms; the last is empty
pub program_read : (p : Eir) → length p.blocks < 2 ^ 64 → Reads (lines_of p ++ [] ∷ []) (text_said p ++ data_said p.words)
program_read p h =
    let bs = blocks_lines p.start 0 p.blocks in
    let hs = header_lines p.words in
    let ws = map word_line p.words in
    let e : bs ++ ((hs ++ ws) ++ [] ∷ []) ≡ ((bs ++ hs) ++ ws) ++ [] ∷ [] = sym (simp append_assoc) in
    let f : blocks_said p.start 0 p.blocks ++ (behind_said p.words ∷ data_said p.words) ≡ (blocks_said p.start 0 p.blocks ++ behind_said p.words ∷ []) ++ data_said p.words = sym (simp append_assoc) in
    let rest : Reads (bs ++ ((hs ++ ws) ++ [] ∷ [])) (blocks_said p.start 0 p.blocks ++ (behind_said p.words ∷ data_said p.words)) =
    Reads-append bs ((hs ++ ws) ++ [] ∷ []) (blocks_said p.start 0 p.blocks) (behind_said p.words ∷ data_said p.words) (blocks_read p.start 0 p.blocks (omega arith)) (data_read p.words) in
    (record { form = text_form; unbroken = refl }, subst (λ ts. Reads ts ((blocks_said p.start 0 p.blocks ++ behind_said p.words ∷ []) ++ data_said p.words)) e (subst (λ ls. Reads (bs ++ ((hs ++ ws) ++ [] ∷ [])) ls) f rest))
