-- The texts of lines.
use Rattle.std.proofs.Common.{◌≡◌, ℕ, ◌+◌, ◌<◌, List, [], ◌∷◌, ◌++◌, length, map, drop, get_or, Some, slice_get, sym, ap, ◌∙◌, append_assoc, add-one, arith}
use Rattle.std.specs.Prelude.{codes}
use Rattle.std.proofs.lemmas.Grind.{flat_map-append}
use Rattle.std.proofs.lemmas.List.{drop_all}
use Rattle.eir_core.specs.declared.ops.Op.{Op}
use Rattle.eir_print.specs.Printed.{text_of, op_line, word_line, start_lines, label_line, block_lines, blocks_lines, header_lines, printed}
use Rattle.eir_core.specs.Eir.{Eir}
use Rattle.mach_core.proofs.Lists.{next_of, next_is}

-- the text of lines and more lines
pub text_of-append : (xs ys : List (List ℕ)) → text_of (xs ++ ys) ≡ text_of xs ++ text_of ys
text_of-append xs ys = flat_map-append (λ (line : List ℕ). line ++ codes "\n") xs ys

-- the blocks that are left, without the next
pub blocks_next : (start k : ℕ) (bs : List (List Op)) (ops : List Op) → slice_get bs k ≡ Some ops → text_of (blocks_lines start k (drop k bs)) ≡ text_of (block_lines start k ops) ++ text_of (blocks_lines start (k + 1) (drop (k + 1) bs))
blocks_next start k bs ops e =
    ap (λ cs. text_of (blocks_lines start k cs)) (next_is bs k ops e)
    ∙ ap (λ j. text_of (block_lines start k ops ++ blocks_lines start (k + 1) (drop j bs))) (sym (add-one k))
    ∙ text_of-append (block_lines start k ops) (blocks_lines start (k + 1) (drop (k + 1) bs))

-- behind the last block only the start may stand
pub blocks_end : (start k count : ℕ) (bs : List (List Op)) → count ≡ length bs → k ≡ count → text_of (blocks_lines start k (drop k bs)) ≡ text_of (start_lines start count)
blocks_end start k count bs e f =
    let none : drop k bs ≡ [] = drop_all k bs (omega arith) in
    ap (λ cs. text_of (blocks_lines start k cs)) none ∙ ap (λ j. text_of (start_lines start j)) f

-- the lines that are left, with the next in front
pub lines_next : {X : Type 0} (f : X → List ℕ) (xs : List X) (i : ℕ) (x : X) → i < length xs → x ≡ get_or xs i x → text_of (map f (drop i xs)) ≡ text_of (f x ∷ []) ++ text_of (map f (drop (i + 1) xs))
lines_next f xs i x h is = ap (λ ys. text_of (map f ys)) (next_of xs i x h is) ∙ text_of-append (f x ∷ []) (map f (drop (i + 1) xs))

-- the text of a block from its parts
pub block_text : (start k : ℕ) (ops : List Op) → text_of (start_lines start k) ++ (text_of (label_line k ∷ []) ++ text_of (map op_line ops)) ≡ text_of (block_lines start k ops)
block_text start k ops = sym (text_of-append (start_lines start k) (label_line k ∷ map op_line ops) ∙ ap (λ (bs : List ℕ). text_of (start_lines start k) ++ bs) (text_of-append (label_line k ∷ []) (map op_line ops)))

-- the text of a program from its parts
pub program_text : (p : Eir) → text_of (codes ".text" ∷ []) ++ (text_of (blocks_lines p.start 0 p.blocks) ++ (text_of (header_lines p.words) ++ text_of (map word_line p.words))) ≡ printed p
program_text p =
    let bs = blocks_lines p.start 0 p.blocks in
    let hs = header_lines p.words in
    let ws = map word_line p.words in
    let e : text_of ((bs ++ hs) ++ ws) ≡ text_of bs ++ (text_of hs ++ text_of ws) = text_of-append (bs ++ hs) ws ∙ ap (λ (x : List ℕ). x ++ text_of ws) (text_of-append bs hs) ∙ append_assoc (text_of bs) (text_of hs) (text_of ws) in
    ap (λ (x : List ℕ). codes ".text\n" ++ x) (sym e)
