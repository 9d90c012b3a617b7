-- Steps of the functions that write commands.
use Rattle.std.proofs.Common.{◌≡◌, ℕ, zero, suc, ◌+◌, ◌-◌, ◌/◌, ◌%◌, ◌<◌, ◌≤◌, List, [], ◌∷◌, ◌++◌, length, get_or, drop, refl, sym, ap, ◌∙◌, arith, append_assoc}
use Rattle.std.proofs.Math.Seq.{drop-cons}
use Rattle.bf_lang.specs.declared.command.Command.{Command}
use Rattle.bf_lang.specs.declared.command.Command.TheVariants.{Plus, Minus, Left}
use Rattle.bf_tape.specs.Does.{loop}
use Rattle.bf_tape.specs.Slots.{nth}
use Rattle.bf_tape.specs.Code.{many, goto_code}
use Rattle.bf_columns.specs.declared.sweep.Sweep.{Sweep}
use Rattle.bf_columns.specs.declared.sweep.Question.{Question}
use Rattle.bf_columns.specs.Worked.{cells_of, body_of}
use Rattle.bf_columns.specs.Lanes.{lane_cell}
use Rattle.bf_columns.specs.Columns.{left10}
use Rattle.bf_columns.specs.Text.{spelled}
use Rattle.bf_columns.specs.Worked.{onwards_code}
use Rattle.bf_columns.specs.Told.{homewards_by, order_code, pass_text, answer_cells, some_text}
use Rattle.bf_columns.specs.Number.{digits_code}
use Rattle.bf_columns.specs.Deal.{part_code, units_code, deal_code}
use Rattle.bf_columns.specs.Bytes.{low_text, getc_unit}
use Rattle.bf_columns.specs.Noted.{noted, noted_sign, noted_head, notation, sweep_text, question_text}
use Rattle.bf_columns.proofs.Notations.{noted_whole, sweeps_closed, questions_closed}

-- a cell of a row, by a slice
nth_is : (ns : List ℕ) (i d : ℕ) → i < length ns → get_or ns i d ≡ nth ns i
nth_is [] i d lt = absurd (omega arith)
nth_is (n ∷ ns) zero d lt = refl
nth_is (n ∷ ns) (suc i) d lt = nth_is ns i d (omega arith)

pub nth_read : (ns : List ℕ) (i x : ℕ) → i < length ns → x ≡ get_or ns i x → x ≡ nth ns i
nth_read ns i x lt is = is ∙ nth_is ns i x lt

pub nth_past : (ns : List ℕ) (i : ℕ) → length ns ≤ i → 0 ≡ nth ns i
nth_past [] i le = refl
nth_past (n ∷ ns) zero le = absurd (omega arith)
nth_past (n ∷ ns) (suc i) le = nth_past ns i (omega arith)

-- one sign more
pub noted_step : (ns : List ℕ) (h i : ℕ) (text : List ℕ) (old new before : List Command) (x h' : ℕ) → i < length text → x ≡ get_or text i 0 → new ≡ old ++ noted_sign ns h x → h' ≡ noted_head h x → old ++ noted ns h (drop i text) ≡ before → new ++ noted ns h' (drop (i + 1) text) ≡ before
noted_step ns h i text old new before x h' lt is more head so =
    let e : suc i ≡ i + 1 = omega arith in
    let f : drop i text ≡ x ∷ drop (i + 1) text = drop-cons text i 0 lt ∙ ((λ j. sym is j ∷ drop (e j) text)) in
    (λ j. more j ++ noted ns (head j) (drop (i + 1) text))
    ∙ (append_assoc old (noted_sign ns h x) (noted ns (noted_head h x) (drop (i + 1) text)) ∙ (ap (λ t. old ++ noted ns h t) (sym f) ∙ so))

-- a noted text is what it notes
pub sweep_noted : (s : Sweep) (d o : ℕ) (old new : List Command) (text : List ℕ) → text ≡ notation (sweep_text s) → new ≡ old ++ noted (cells_of d o) 6 text → new ≡ old ++ body_of d o (sweep_text s)
sweep_noted s d o old new text is more = more ∙ ap (λ t. old ++ t) (ap (noted (cells_of d o) 6) is ∙ noted_whole (cells_of d o) 6 (sweep_text s) (sweeps_closed s))

pub question_noted : (q : Question) (d o : ℕ) (old new : List Command) (text : List ℕ) → text ≡ notation (question_text q) → new ≡ old ++ noted (cells_of d o) 6 text → new ≡ old ++ body_of d o (question_text q)
question_noted q d o old new text is more = more ∙ ap (λ t. old ++ t) (ap (noted (cells_of d o) 6) is ∙ noted_whole (cells_of d o) 6 (question_text q) (questions_closed q))

-- the lowest digit's text
pub low_noted : (d : ℕ) (old new : List Command) → new ≡ old ++ noted ((120 + d) ∷ 123 ∷ 126 ∷ []) 1 (notation low_text) → new ≡ old ++ spelled (lane_cell d 0 ∷ lane_cell 3 0 ∷ lane_cell 6 0 ∷ []) 1 low_text
low_noted d old new more =
    let e : 120 + d ≡ lane_cell d 0 = omega arith in
    more ∙ (ap (λ t. old ++ t) (noted_whole ((120 + d) ∷ 123 ∷ 126 ∷ []) 1 low_text refl) ∙ ap (λ c. old ++ spelled (c ∷ 123 ∷ 126 ∷ []) 1 low_text) e)

-- one digit of a number more, of so many
pub digits_step : (k n i : ℕ) (old a b before : List Command) → i < n → a ≡ old ++ many 10 Left → b ≡ a ++ many (k % 4) Plus → old ++ digits_code k (n - i) ≡ before → b ++ digits_code (k / 4) (n - (i + 1)) ≡ before
digits_step k n i old a b before lt first second so =
    let m : ℕ = n - (i + 1) in
    let e : n - i ≡ suc m = omega arith in
    let L : List Command = many 10 Left in
    let P : List Command = many (k % 4) Plus in
    let D : List Command = digits_code (k / 4) m in
    ap (λ x. x ++ D) (second ∙ ap (λ x. x ++ P) first)
    ∙ (ap (λ x. x ++ D) (append_assoc old L P) ∙ (append_assoc old (L ++ P) D ∙ (ap (λ q. old ++ digits_code k q) (sym e) ∙ so)))

-- four pieces after one another
four_pieces : (old p q r s : List Command) → (((old ++ p) ++ q) ++ r) ++ s ≡ old ++ (p ++ q ++ r ++ s)
four_pieces old p q r s =
    ap (λ x. (x ++ r) ++ s) (append_assoc old p q) ∙ (ap (λ x. x ++ s) (append_assoc old (p ++ q) r) ∙ append_assoc old (p ++ q ++ r) s)

pub order_steps : (old a b c d body pass : List Command) → pass ≡ spelled (10 ∷ 10 ∷ 13 ∷ 16 ∷ 19 ∷ 9 ∷ 15 ∷ []) 6 pass_text → a ≡ old ++ left10 → b ≡ a ++ onwards_code body → c ≡ b ++ homewards_by pass
    → d ≡ c ++ spelled answer_cells 2 some_text → d ≡ old ++ order_code body
order_steps old a b c d body pass is ea eb ec ed =
    let P : List Command = spelled (10 ∷ 10 ∷ 13 ∷ 16 ∷ 19 ∷ 9 ∷ 15 ∷ []) 6 pass_text in
    let S : List Command = spelled answer_cells 2 some_text in
    ed ∙ (ap (λ x. x ++ S) (ec ∙ (ap (λ x. x ++ homewards_by pass) (eb ∙ ap (λ x. x ++ onwards_code body) ea) ∙ ap (λ x. ((old ++ left10) ++ onwards_code body) ++ homewards_by x) is))
    ∙ four_pieces old left10 (onwards_code body) (homewards_by P) S)

-- one unit to a cell and back
abbrev pub unit_to : ℕ → ℕ → List Command
unit_to from cell = goto_code from cell ++ (Plus ∷ []) ++ goto_code cell from

-- a byte dealt to the digits of a register
pub deal_steps : (r : ℕ) (old a b c d : List Command) → r < 10 → a ≡ old ++ part_code 1 (units_code 1 (unit_to 137 (120 + r))) → b ≡ a ++ part_code 1 (units_code 1 (unit_to 137 (120 + r - 10)))
    → c ≡ b ++ part_code 1 (units_code 1 (unit_to 137 (120 + r - 20))) → d ≡ c ++ loop (Minus ∷ unit_to 136 (120 + r - 30)) → d ≡ old ++ deal_code 1 (λ j. units_code 1 (getc_unit r j)) (loop (Minus ∷ getc_unit r 3))
deal_steps r old a b c d lt ea eb ec ed =
    let p : ℕ → List Command = λ x. part_code 1 (units_code 1 (unit_to 137 x)) in
    let l : List Command = loop (Minus ∷ unit_to 136 (120 + r - 30)) in
    let z : 120 + r ≡ lane_cell r 0 = omega arith in
    ed ∙ (ap (λ x. x ++ l) (ec ∙ ap (λ x. x ++ p (120 + r - 20)) (eb ∙ ap (λ x. x ++ p (120 + r - 10)) ea))
    ∙ (four_pieces old (p (120 + r)) (p (120 + r - 10)) (p (120 + r - 20)) l
    ∙ ap (λ x. old ++ (p x ++ p (120 + r - 10) ++ p (120 + r - 20) ++ l)) z))
