-- The commands of the whole program, from those of the calls that make it.
use Rattle.std.proofs.Common.{◌≡◌, ℕ, ◌+◌, ◌<◌, true, false, List, [], ◌∷◌, ◌++◌, length, take, get_or, slice_index, sym, ap, ◌∙◌, add-one, append_assoc, append-nil}
use Rattle.std.proofs.Math.Seq.{take-suc}
use Rattle.mach_core.proofs.Lists.{take_none}
use Rattle.word24.specs.declared.word.Word.{Word}
use Rattle.word24.specs.Word.{number_of}
use Rattle.eir_core.specs.Eir.{Eir}
use Rattle.sim_trait.specs.Digits.{digit_count}
use Rattle.bf_lang.specs.declared.command.Command.{Command}
use Rattle.bf_tape.specs.Code.{goto_code, add_code, shift_code, while_code}
use Rattle.bf_tape.specs.Piece.{Piece, joined}
use Rattle.bf_word.specs.WordCode.{set_code}
use Rattle.bf_choice.specs.Choice.{digit_cell, aim_code, advance_code}
use Rattle.bf_choice.proofs.Aimed.{joined_none, coded_then}
use Rattle.bf_turn.specs.Number.{op_count, number_at, first_numbers, digits_in}
use Rattle.bf_turn.specs.Code.{turn_code}
use Rattle.bf_turn.proofs.Coded.{coded_from}
use Rattle.bf_turn.proofs.Eirs.{jumps_to}
use Rattle.bf_back.specs.Code.{words_code, back_code, lay_code, start_code, begin_code, whole_code}

-- from cell 0, nothing yet
pub still : {p : Piece} (xs : List Command) → p.cell ≡ 0 → [] ≡ xs → p ≡ joined p xs 0
still {p = p} xs home none = joined_none p ∙ (ap (λ c. joined p [] c) home ∙ ap (λ ys. joined p ys 0) none)

-- a word more
words_last : (words : List Word) (w : Word) → words_code (words ++ w ∷ []) ≡ words_code words ++ (set_code 0 16 (number_of w) ++ shift_code 18 22 true)
words_last [] w = append-nil (set_code 0 16 (number_of w) ++ shift_code 18 22 true)
words_last (v ∷ words) w =
    let one : List Command = set_code 0 16 (number_of v) ++ shift_code 18 22 true in
    ap (λ rest. one ++ rest) (words_last words w) ∙ sym (append_assoc one (words_code words) (set_code 0 16 (number_of w) ++ shift_code 18 22 true))

pub words_none : (words : List Word) → [] ≡ words_code (take 0 words)
words_none words = ap words_code (sym (take_none words))

pub words_coded : {f g k : Piece} (p : Piece) (words : List Word) (i : ℕ) (w : Word) → i < length words → w ≡ get_or words i w → f ≡ joined p (words_code (take i words)) 0 → g ≡ joined f (set_code f.cell 16 (number_of w)) 18 → k ≡ joined g (shift_code g.cell 22 true) 0
    → k ≡ joined p (words_code (take (i + 1) words)) 0
words_coded p words i w within is a b e =
    let xs : List Command = words_code (take i words) in
    let parts : take (i + 1) words ≡ take i words ++ w ∷ [] = ap (λ k. take k words) (add-one i) ∙ (take-suc words i w within ∙ ap (λ x. take i words ++ x ∷ []) (sym is)) in
    coded_then p (xs ++ set_code 0 16 (number_of w)) 18 (λ c. shift_code c 22 true) (λ c. 0) (coded_then p xs 0 (λ c. set_code c 16 (number_of w)) (λ c. 18) a b) e
    ∙ ap (λ ys. joined p ys 0) (append_assoc xs (set_code 0 16 (number_of w)) (shift_code 18 22 true) ∙ (sym (words_last (take i words) w) ∙ ap words_code (sym parts)))

-- a record back
pub back_coded : {f g : Piece} (p : Piece) (i : ℕ) → f ≡ joined p (back_code i) 0 → g ≡ joined f (shift_code f.cell 22 false) 0 → g ≡ joined p (back_code (i + 1)) 0
back_coded p i a b = coded_then p (back_code i) 0 (λ c. shift_code c 22 false) (λ c. 0) a b ∙ ap (λ k. joined p (back_code k) 0) (sym (add-one i))

renamed_coded : {q r : Piece} (p : Piece) (xs : List Command) (c d : ℕ) → q ≡ joined p xs c → r ≡ record { commands = q.commands; cell = d } → r ≡ joined p xs d
renamed_coded p xs c d a b = b ∙ ap (λ q. record { commands = q.commands; cell = d }) a

pub lay_coded : {p1 p2 p3 p4 p5 p6 p7 p8 : Piece} (p0 : Piece) (words : List Word) → p1 ≡ joined p0 (goto_code p0.cell 158) 158 → p2 ≡ record { commands = p1.commands; cell = 0 } → (p2.cell ≡ 0 → p3 ≡ joined p2 (words_code words) 0) → p4 ≡ joined p3 (goto_code p3.cell 0) 0
    → (p4.cell ≡ 0 → p5 ≡ joined p4 (back_code (length words)) 0) → p6 ≡ joined p5 (goto_code p5.cell 0) 0 → p7 ≡ record { commands = p6.commands; cell = 158 } → p8 ≡ joined p7 (goto_code p7.cell 0) 0 → p8 ≡ joined p0 (lay_code p0.cell words) 0
lay_coded p0 words a b c d e f g h =
    let x1 : List Command = goto_code p0.cell 158 in
    let x3 : List Command = x1 ++ words_code words in
    let x4 : List Command = x3 ++ goto_code 0 0 in
    let x5 : List Command = x4 ++ back_code (length words) in
    let x6 : List Command = x5 ++ goto_code 0 0 in
    let three = coded_then p0 x1 0 (λ k. words_code words) (λ k. 0) (renamed_coded p0 x1 158 0 a b) (c (ap (λ q. q.cell) b)) in
    let five = coded_then p0 x4 0 (λ k. back_code (length words)) (λ k. 0) (coded_then p0 x3 0 (λ k. goto_code k 0) (λ k. 0) three d) (e (ap (λ q. q.cell) d)) in
    coded_then p0 x6 158 (λ k. goto_code k 0) (λ k. 0) (renamed_coded p0 x6 0 158 (coded_then p0 x5 0 (λ k. goto_code k 0) (λ k. 0) five f) g) h

-- what comes before the loop
pub start_coded : {p1 p2 p3 p4 p5 : Piece} (p0 : Piece) (words : List Word) (d n : ℕ) → p1 ≡ joined p0 (lay_code p0.cell words) 0 → p2 ≡ joined p1 (add_code p1.cell 0 1) 0 → p3 ≡ joined p2 (aim_code p2.cell d n) (digit_cell p2.cell d)
    → p4 ≡ joined p3 (advance_code p3.cell d) (digit_cell p3.cell d) → p5 ≡ joined p4 (goto_code p4.cell 0) 0 → p5 ≡ joined p0 (start_code p0.cell words d n) 0
start_coded p0 words d n a b c e f =
    let h : ℕ = digit_cell 0 d in
    let x1 : List Command = lay_code p0.cell words in
    let x2 : List Command = x1 ++ add_code 0 0 1 in
    let x3 : List Command = x2 ++ aim_code 0 d n in
    let x4 : List Command = x3 ++ advance_code h d in
    let two = coded_then p0 x1 0 (λ k. add_code k 0 1) (λ k. 0) a b in
    let three = coded_then p0 x2 0 (λ k. aim_code k d n) (λ k. digit_cell k d) two c in
    let four = coded_then p0 x3 h (λ k. advance_code k d) (λ k. digit_cell k d) three e in
    coded_then p0 x4 (digit_cell h d) (λ k. goto_code k 0) (λ k. 0) four f

pub begin_coded : {p q : Piece} (e : Eir) (words : List Word) (digits count start : ℕ) (numbers : List ℕ) → p ≡ record { commands = []; cell = 0 } → words ≡ e.words → count ≡ op_count e → digits ≡ digit_count count → numbers ≡ first_numbers 1 e.blocks → start ≡ slice_index numbers e.start
    → q ≡ joined p (start_code p.cell words digits start) 0 → q.commands ≡ begin_code e
begin_coded e words digits count start numbers from words_is count_is digits_is numbers_is start_is is =
    let d_is : digits ≡ digits_in e = digits_is ∙ ap digit_count count_is in
    let at : start ≡ number_at e e.start 0 = start_is ∙ (ap (λ ns. slice_index ns e.start) numbers_is ∙ sym (jumps_to e e.start)) in
    coded_from 0 (λ h. start_code h words digits start) (λ h. 0) from is ∙ (λ i. start_code 0 (words_is i) (d_is i) (at i))

-- the whole program
pub whole_coded : {last : Piece} (first : Piece) (p : Eir) (body : List Command) → first.commands ≡ begin_code p → first.cell ≡ 0 → body ≡ turn_code p → last ≡ joined first (while_code first.cell 0 body) 0 → last.commands ≡ whole_code p
whole_coded first p body before home turn is = ap (λ q. q.commands) is ∙ (λ i. before i ++ while_code (home i) 0 (turn i))
