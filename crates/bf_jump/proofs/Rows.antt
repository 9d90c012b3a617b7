-- Rows of cells.
use Rattle.std.proofs.Common.{◌≡◌, ◌≢◌, ℕ, zero, suc, ◌+◌, ◌*◌, ◌%◌, ◌^◌, ◌<◌, ◌≤◌, List, refl, sym, ap, ◌∙◌, arith, add-one}
use Rattle.bf_lang.specs.declared.command.Command.{Command}
use Rattle.bf_tape.specs.Tape.{Tape, get, put}
use Rattle.bf_tape.specs.Piece.{Piece, joined, Adds, any, moved}
use Rattle.bf_tape.proofs.Turning.{get_put, get_other, put_same}
use Rattle.bf_word.proofs.Words.{put_put}
use Rattle.bf_word.proofs.Chain.{adds_then, adds_as}
use Rattle.bf_choice.specs.Choice.{AreFree, aimed}
use Rattle.bf_choice.proofs.Chosen.{swapped}
use Rattle.bf_choice.proofs.Aimed.{coded_then}
use Rattle.bf_jump.specs.Note.{aim_cell, note_cell, digit_in, row, noted, left_open, taken, IsNoteFree, cell_at, each_code, NotesAreTaken}

-- a cell that is none of a row's
pub row_get : (cell value : ℕ → ℕ) (d : ℕ) (s : Tape) (c : ℕ) → ((i : ℕ) → i < d → cell i ≢ c) → get (row cell value d s) c ≡ get s c
row_get cell value zero s c beside = refl
row_get cell value (suc d) s c beside = get_other (row cell value d s) (cell d) c (value d) (beside d (omega arith)) ∙ row_get cell value d s c (λ i lt. beside i (omega arith))

pub row_put : (cell value : ℕ → ℕ) (d : ℕ) (s : Tape) (c v : ℕ) → ((i : ℕ) → i < d → cell i ≢ c) → put (row cell value d s) c v ≡ row cell value d (put s c v)
row_put cell value zero s c v beside = refl
row_put cell value (suc d) s c v beside =
    swapped (row cell value d s) (cell d) c (value d) v (beside d (omega arith)) ∙ ap (λ u. put u (cell d) (value d)) (row_put cell value d s c v (λ i lt. beside i (omega arith)))

-- rows that share no cell
pub row_row : (f v g w : ℕ → ℕ) (d e : ℕ) (s : Tape) → ((i j : ℕ) → i < e → j < d → g i ≢ f j) → row f v d (row g w e s) ≡ row g w e (row f v d s)
row_row f v g w zero e s apart = refl
row_row f v g w (suc d) e s apart =
    ap (λ u. put u (f d) (v d)) (row_row f v g w d e s (λ i j li lj. apart i j li (omega arith))) ∙ row_put g w e (row f v d s) (f d) (v d) (λ i li. apart i d li (omega arith))

-- a row set once more, and one that is there already
pub row_again : (f v w : ℕ → ℕ) (d : ℕ) (s : Tape) → ((i j : ℕ) → i < j → j < d → f i ≢ f j) → row f v d (row f w d s) ≡ row f v d s
row_again f v w zero s apart = refl
row_again f v w (suc d) s apart =
    ap (λ u. put u (f d) (v d)) (sym (row_put f v d (row f w d s) (f d) (w d) (λ i lt. apart i d lt (omega arith))))
    ∙ (put_put (row f v d (row f w d s)) (f d) (w d) (v d) ∙ ap (λ u. put u (f d) (v d)) (row_again f v w d s (λ i j lt lj. apart i j lt (omega arith))))

pub row_same : (f v : ℕ → ℕ) (d : ℕ) (s : Tape) → ((i : ℕ) → i < d → get s (f i) ≡ v i) → row f v d s ≡ s
row_same f v zero s there = refl
row_same f v (suc d) s there = ap (λ u. put u (f d) (v d)) (row_same f v d s (λ i lt. there i (omega arith))) ∙ put_same s (f d) (v d) (there d (omega arith))

-- the cells of digits
pub note_low : (i : ℕ) → 54 ≤ note_cell i
note_low i = omega arith

pub note_few : (i : ℕ) → i < 14 → note_cell i < 76
note_few i lt = omega arith

pub notes_apart : (i j : ℕ) → i < j → note_cell i ≢ note_cell j
notes_apart i j lt = omega arith

pub aims_apart : (i j : ℕ) → i < j → aim_cell i ≢ aim_cell j
aims_apart i j lt = omega arith

pub note_beside : (i j : ℕ) → j < 14 → note_cell i ≢ aim_cell j
note_beside i j lj = omega (arith, note_low i)

pub aim_beside : (i j : ℕ) → i < 14 → aim_cell i ≢ note_cell j
aim_beside i j li = omega (arith, note_low j)

pub aimed_row : (d n : ℕ) (s : Tape) → aimed d n s ≡ row aim_cell (digit_in n) d s
aimed_row zero n s = refl
aimed_row (suc d) n s = ap (λ u. put u (aim_cell d) (digit_in n d)) (aimed_row d n s)

-- a cell beside what is taken
pub taken_put : (d : ℕ) (s : Tape) (c v : ℕ) → ((i : ℕ) → i < d → note_cell i ≢ c) → ((i : ℕ) → i < d → aim_cell i ≢ c) → put (taken d s) c v ≡ taken d (put s c v)
taken_put zero s c v notes aims = refl
taken_put (suc d) s c v notes aims =
    let t : Tape = taken d s in
    let r : ℕ = note_cell d in
    let a : ℕ = aim_cell d in
    let x : ℕ = (get t a + get t r) % 2 ^ 8 in
    let y : (k : ℕ) → k ≢ c → get (put t c v) k ≡ get t k = λ k differ. get_other t c k v (λ e. differ (sym e)) in
    swapped (put t a x) r c 0 v (notes d (omega arith))
    ∙ (ap (λ u. put u r 0) (swapped t a c x v (aims d (omega arith)))
    ∙ ((λ i. put (put (put t c v) a ((sym (y a (aims d (omega arith))) i + sym (y r (notes d (omega arith))) i) % 2 ^ 8)) r 0)
    ∙ ap (λ u. moved u r a) (taken_put d s c v (λ i lt. notes i (omega arith)) (λ i lt. aims i (omega arith)))))

-- noted digits that are taken
pub taken_row : (d g : ℕ) (s : Tape) → d ≤ 14 → IsNoteFree d s → AreFree d s → taken d (noted d g s) ≡ row aim_cell (digit_in g) d s
taken_row zero g s few notes free = refl
taken_row (suc d) g s few notes free =
    let r : ℕ = note_cell d in
    let a : ℕ = aim_cell d in
    let b : ℕ = digit_in g d in
    let t : Tape = row aim_cell (digit_in g) d s in
    let before : taken d (noted d g s) ≡ t = taken_row d g s (omega (arith, few)) (λ i lt. notes i (omega arith)) (λ i lt. free i (omega arith)) in
    let apart : r ≢ a = note_beside d d (omega (arith, few)) in
    let x : Tape = put t r b in
    let none : get t r ≡ 0 = row_get aim_cell (digit_in g) d s r (λ i lt. aim_beside i d (omega (arith, few))) ∙ notes d (omega arith) in
    let there : get x a ≡ 0 = get_other t r a b apart ∙ (row_get aim_cell (digit_in g) d s a (λ i lt. aims_apart i d lt) ∙ free d (omega arith)) in
    let sum : (get x a + get x r) % 2 ^ 8 ≡ b = omega (arith, there, get_put t r b) in
    ap (λ u. moved u r a) (sym (taken_put d (noted d g s) r b (λ i lt. notes_apart i d lt) (λ i lt. aim_beside i d (omega (arith, few)))) ∙ ap (λ u. put u r b) before)
    ∙ (ap (λ y. put (put x a y) r 0) sum ∙ (swapped x a r b 0 (λ e. apart (sym e)) ∙ ap (λ u. put u a b) (put_put t r b 0 ∙ put_same t r 0 none)))

pub notes_taken : NotesAreTaken
notes_taken = record {
  taken_is = λ d g n s few notes free.
      let opened : left_open d (noted d g (aimed d n s)) ≡ noted d g s =
      ap (λ u. left_open d (noted d g u)) (aimed_row d n s)
      ∙ (row_row aim_cell (λ i. 0) note_cell (digit_in g) d d (row aim_cell (digit_in n) d s) (λ i j li lj. note_beside i j (omega (arith, few)))
      ∙ ap (noted d g) (row_again aim_cell (λ i. 0) (digit_in n) d s (λ i j lt lj. aims_apart i j lt) ∙ row_same aim_cell (λ i. 0) d s free)) in
      ap (taken d) opened ∙ (taken_row d g s few notes free ∙ sym (aimed_row d g s));
  dropped_is = λ d g s few notes. row_again note_cell (λ i. 0) (digit_in g) d s (λ i j lt lj. notes_apart i j lt) ∙ row_same note_cell (λ i. 0) d s notes;
}

-- one cell of a row more: its commands, and what they do
pub each_coded : {now next : Piece} (first : Piece) (step : ℕ → ℕ → List Command) (cell : ℕ → ℕ) (i : ℕ) → now ≡ joined first (each_code step cell first.cell i) (cell_at cell first.cell i) → next ≡ joined now (step now.cell i) (cell i)
    → next ≡ joined first (each_code step cell first.cell (i + 1)) (cell_at cell first.cell (i + 1))
each_coded first step cell i a b =
    let h : ℕ = first.cell in
    coded_then first (each_code step cell h i) (cell_at cell h i) (λ k. step k i) (λ k. cell i) a b ∙ ap (λ k. joined first (each_code step cell h k) (cell_at cell h k)) (sym (add-one i))

pub note_more : {first now next : Piece} (digits number i c v : ℕ) → i < digits → c ≡ note_cell i → v ≡ digit_in number i → Adds first now (IsNoteFree digits) (λ input s. noted i number s) (i * 1024) (i * 512)
    → Adds now next any (λ input s. put s c ((get s c + v) % 2 ^ 8)) 512 512 → Adds first next (IsNoteFree digits) (λ input s. noted (i + 1) number s) ((i + 1) * 1024) ((i + 1) * 512)
note_more digits number i c v lt c_is v_is a b =
    let r : ℕ = note_cell i in
    adds_as (λ input s. noted (i + 1) number s) ((i + 1) * 1024) ((i + 1) * 512) (adds_then (IsNoteFree digits) a b (λ input s bytes k. (k, tt)))
    (λ input s bytes k.
    let none : get (noted i number s) r ≡ 0 = row_get note_cell (digit_in number) i s r (λ j lj. notes_apart j i lj) ∙ k i lt in
    let e : (get (noted i number s) r + v) % 2 ^ 8 ≡ digit_in number i = omega (arith, none, v_is) in
    (k, ap (λ c. put (noted i number s) c ((get (noted i number s) c + v) % 2 ^ 8)) c_is ∙ (ap (λ x. put (noted i number s) r x) e ∙ ap (λ j. noted j number s) (sym (add-one i))))) (omega arith) (omega arith)

pub clear_more : {first now next : Piece} (cell : ℕ → ℕ) (i c : ℕ) → c ≡ cell i → Adds first now any (λ input s. row cell (λ j. 0) i s) (i * 1024) (i * 512)
    → Adds now next any (λ input s. put s c 0) 1024 258 → Adds first next any (λ input s. row cell (λ j. 0) (i + 1) s) ((i + 1) * 1024) ((i + 1) * 512)
clear_more cell i c c_is a b =
    adds_as (λ input s. row cell (λ j. 0) (i + 1) s) ((i + 1) * 1024) ((i + 1) * 512) (adds_then any a b (λ input s bytes k. (tt, tt)))
    (λ input s bytes k. (k, ap (λ c. put (row cell (λ j. 0) i s) c 0) c_is ∙ ap (λ j. row cell (λ j. 0) j s) (sym (add-one i)))) (omega arith) (omega arith)

pub take_more : {first now next : Piece} (i c : ℕ) → c ≡ note_cell i → Adds first now any (λ input s. taken i s) (i * 2 ^ 18) (i * 1024) → Adds now next any (λ input s. moved s c (3 * i + 3)) (2 ^ 18) 1024
    → Adds first next any (λ input s. taken (i + 1) s) ((i + 1) * 2 ^ 18) ((i + 1) * 1024)
take_more i c c_is a b =
    adds_as (λ input s. taken (i + 1) s) ((i + 1) * 2 ^ 18) ((i + 1) * 1024) (adds_then any a b (λ input s bytes k. (tt, tt)))
    (λ input s bytes k. (k, ap (λ c. moved (taken i s) c (aim_cell i)) c_is ∙ ap (λ j. taken j s) (sym (add-one i)))) (omega arith) (omega arith)
