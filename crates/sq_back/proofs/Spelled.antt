-- The text of an image spells its cells, and is short.
use Rattle.std.proofs.Common.{◌≡◌, ℕ, ◌^◌, ◌≤◌, List, [], ◌∷◌, ◌++◌, map, ℤ, pos, negsuc, FitsSigned, w64, refl, ap, ◌∙◌, arith, append_assoc}
use Rattle.std.specs.Fmt.{decimal, signed_decimal}
use Rattle.word24.specs.declared.word.Word.{Word}
use Rattle.word24.specs.Word.{number_of}
use Rattle.eir_core.specs.Eir.{Eir, size_of}
use Rattle.sq_lang.specs.Text.{sq_spells}
use Rattle.sq_lang.proofs.Spelling.{sq_spells-nothing, sq_spells-number, sq_spells-separator}
use Rattle.sq_back.specs.declared.line.Line.{Line}
use Rattle.sq_back.specs.Code.{lines_of, cells_of, image_of}
use Rattle.sq_back.specs.Text.{line_text, lines_text, word_text, words_text, text_of}
use Rattle.sq_back.proofs.Small.{IsNear, IsSmall, AreSmall, lines_small}

near_fits : (z : ℤ) → IsNear z → FitsSigned w64 z
near_fits (pos n) h = record { sfits = omega arith }
near_fits (negsuc n) h = record { sfits = omega arith }

words_spelled : (words : List Word) → sq_spells (words_text words) (map (λ word. pos (number_of word)) words)
unfolding words_text word_text
words_spelled [] = sq_spells-nothing
words_spelled (word ∷ words) =
    let fits : FitsSigned w64 (pos (number_of word)) = near_fits (pos (number_of word)) (omega (arith, word.in_range)) in
    rw (append_assoc (decimal (number_of word)) (10 ∷ []) (words_text words))
    (sq_spells-number (pos (number_of word)) (10 ∷ words_text words) (map (λ w. pos (number_of w)) words) fits refl (sq_spells-separator 10 (words_text words) (map (λ w. pos (number_of w)) words) refl (words_spelled words)))

line_spelled : (line : Line) (rest : List ℕ) (cells : List ℤ) → IsSmall line → sq_spells rest cells → sq_spells (line_text line ++ rest) (line.from ∷ line.to ∷ line.next ∷ cells)
unfolding line_text
line_spelled line rest cells small p =
    let x = signed_decimal line.from in
    let y = signed_decimal line.to in
    let z = signed_decimal line.next in
    let e : (x ++ 32 ∷ (y ++ 32 ∷ (z ++ 10 ∷ []))) ++ rest ≡ x ++ 32 ∷ (y ++ 32 ∷ (z ++ 10 ∷ rest)) =
    append_assoc x (32 ∷ (y ++ 32 ∷ (z ++ 10 ∷ []))) rest
    ∙ ap (λ (bytes : List ℕ). x ++ 32 ∷ bytes) (append_assoc y (32 ∷ (z ++ 10 ∷ [])) rest ∙ ap (λ (bytes : List ℕ). y ++ 32 ∷ bytes) (append_assoc z (10 ∷ []) rest)) in
    rw e
    (sq_spells-number line.from (32 ∷ (y ++ 32 ∷ (z ++ 10 ∷ rest))) (line.to ∷ line.next ∷ cells) (near_fits line.from small.from) refl
    (sq_spells-separator 32 (y ++ 32 ∷ (z ++ 10 ∷ rest)) (line.to ∷ line.next ∷ cells) refl
    (sq_spells-number line.to (32 ∷ (z ++ 10 ∷ rest)) (line.next ∷ cells) (near_fits line.to small.to) refl
    (sq_spells-separator 32 (z ++ 10 ∷ rest) (line.next ∷ cells) refl
    (sq_spells-number line.next (10 ∷ rest) cells (near_fits line.next small.next) refl
    (sq_spells-separator 10 rest cells refl p))))))

lines_spelled : (lines : List Line) (rest : List ℕ) (cells : List ℤ) → AreSmall lines → sq_spells rest cells → sq_spells (lines_text lines ++ rest) (cells_of lines ++ cells)
unfolding lines_text
lines_spelled [] rest cells small p = p
lines_spelled (line ∷ lines) rest cells small p =
    rw (append_assoc (line_text line) (lines_text lines) rest)
    (line_spelled line (lines_text lines ++ rest) (cells_of lines ++ cells) small.0 (lines_spelled lines rest cells small.1 p))

pub text_spells : (p : Eir) → size_of p ≤ 2 ^ 16 → sq_spells (text_of p) (image_of p)
text_spells p h = lines_spelled (lines_of p) (words_text p.words) (map (λ word. pos (number_of word)) p.words) (lines_small p h) (words_spelled p.words)
