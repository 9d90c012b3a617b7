-- Goals that are noted.
use Rattle.std.proofs.Common.{◌≡◌, ◌≢◌, ◌⊎◌, ℕ, zero, suc, ◌+◌, ◌*◌, ◌%◌, ◌^◌, ◌<◌, ◌≤◌, inl, inr, true, false, nat_eq, nat_lt, refl, sym, ap, subst, ◌∙◌, arith}
use Rattle.std.proofs.lemmas.Bool.{eqb-true, eqb-false, ltb-true, ltb-false}
use Rattle.eir_core.specs.declared.ops.Reg.{Reg}
use Rattle.eir_core.specs.declared.ops.Reg.TheVariants.{A, B, C, D, SP, BP}
use Rattle.eir_core.specs.declared.ops.Operand.{Operand}
use Rattle.eir_core.specs.declared.ops.Cond.{Cond}
use Rattle.bf_tape.specs.Tape.{Tape, get, put}
use Rattle.bf_tape.specs.Piece.{Piece, Adds, any, moved}
use Rattle.bf_tape.proofs.Turning.{get_other, put_same}
use Rattle.bf_word.specs.Word.{low_byte, mid_byte, high_byte, word_in, with_word, IsOutside}
use Rattle.bf_word.proofs.Words.{put_put, cell_kept}
use Rattle.bf_word.proofs.Scratch.{put_word}
use Rattle.bf_word.proofs.Chain.{adds_as}
use Rattle.bf_ops.specs.Frame.{cell_of, IsFrame}
use Rattle.bf_ops.proofs.Kept.{stands}
use Rattle.bf_choice.specs.Choice.{AreFree, aimed}
use Rattle.bf_choice.proofs.Chosen.{swapped}
use Rattle.bf_choice.proofs.Aimed.{aimed_get, aimed_put}
use Rattle.bf_jump.specs.declared.goal.Goal.{Goal}
use Rattle.bf_jump.specs.declared.goal.Goal.TheVariants.{Operation, Block}
use Rattle.bf_jump.specs.Note.{aim_cell, note_cell, digit_in, row, noted, left_open, taken, IsNoteFree}
use Rattle.bf_jump.specs.Pose.{posed}
use Rattle.bf_jump.specs.Goal.{aimed_for, mark_of, mark_cell, noted_for, IsNotable}
use Rattle.bf_jump.proofs.Asked.{posed_get}
use Rattle.bf_jump.proofs.Rows.{row_get, row_put, row_row, row_again, row_same, note_low, note_few, aims_apart, note_beside, aimed_row}

-- marks stand apart from the cells of noted digits
pub mark_low : (x : Reg) → 53 ≤ mark_of x
mark_low x = let at = stands x in omega (arith, at.at)

pub mark_few : (x : Reg) → mark_of x < 104
mark_few x = let at = stands x in omega (arith, at.at, at.few)

pub note_mark : (i : ℕ) (x : Reg) → note_cell i ≢ mark_of x
note_mark i x = let at = stands x in omega (arith, at.at)

-- a frame has nothing noted
note_free : (s : Tape) → IsFrame s → (i : ℕ) → i < 14 → get s (note_cell i) ≡ 0
note_free s k i lt =
    elim (nat_lt i 6) as (λ t. nat_lt i 6 ≡ t → get s (note_cell i) ≡ 0) [
      | true ↦ λ t. let a : i < 6 = ltb-true i 6 t in k.counters BP (note_cell i) (omega (arith, a)) (omega (arith, a))
      | false ↦ λ t.
          let b : 6 ≤ i = ltb-false i 6 t in
          elim (nat_lt i 12) as (λ u. nat_lt i 12 ≡ u → get s (note_cell i) ≡ 0) [
            | true ↦ λ u. let a : i < 12 = ltb-true i 12 u in k.counters SP (note_cell i) (omega (arith, a, b)) (omega (arith, a, b))
            | false ↦ λ u. let a : 12 ≤ i = ltb-false i 12 u in k.counters D (note_cell i) (omega (arith, a, lt)) (omega (arith, a, lt))
          ] refl
    ] refl

pub frame_notable : (d : ℕ) (s : Tape) → d ≤ 14 → IsFrame s → IsNotable d s
frame_notable d s few k = record { notes = λ i lt. note_free s k i (omega (arith, few)); marks = λ x. k.counters x (cell_of x + 3) (omega arith) (omega arith) }

-- what notes a goal
pub mark_adds : {p q : Piece} (d cell : ℕ) (x : Reg) → cell ≡ cell_of x → Adds p q any (λ input s. put s (cell + 3) ((get s (cell + 3) + 1) % 2 ^ 8)) 512 512 → Adds p q (IsNotable d) (λ input s. noted_for d (Block x) s) (2 ^ 14) (2 ^ 13)
mark_adds d cell x is a =
    adds_as (λ input s. noted_for d (Block x) s) (2 ^ 14) (2 ^ 13) a
    (λ input s bytes k. (tt, ap (λ c. put s (c + 3) ((get s (c + 3) + 1) % 2 ^ 8)) is ∙ ap (λ v. put s (mark_of x) ((v + 1) % 2 ^ 8)) (k.marks x))) (omega arith) (omega arith)

pub number_adds : {p q : Piece} (d n : ℕ) → d ≤ 14 → Adds p q (IsNoteFree d) (λ input s. noted d n s) (d * 1024) (d * 512) → Adds p q (IsNotable d) (λ input s. noted_for d (Operation n) s) (2 ^ 14) (2 ^ 13)
number_adds d n few a = adds_as (λ input s. noted_for d (Operation n) s) (2 ^ 14) (2 ^ 13) a (λ input s bytes k. (k.notes, refl)) (omega (arith, few)) (omega (arith, few))

pub noted_as : {p q : Piece} (d : ℕ) (goal known : Goal) → goal ≡ known → Adds p q (IsNotable d) (λ input s. noted_for d known s) (2 ^ 14) (2 ^ 13) → Adds p q (IsNotable d) (λ input s. noted_for d goal s) (2 ^ 14) (2 ^ 13)
noted_as {p = p} {q = q} d goal known is a = subst (λ g. Adds p q (IsNotable d) (λ input s. noted_for d g s) (2 ^ 14) (2 ^ 13)) (sym is) a

-- a cell beside the digits, the notes and the marks
pub record IsBeside (d c : ℕ) : Type 0 where
  pub beyond : 3 * d < c
  pub notes : (i : ℕ) → i < d → note_cell i ≢ c
  pub marks : (x : Reg) → mark_of x ≢ c

pub low_beside : (d c : ℕ) → d ≤ 14 → 42 < c → c < 53 → IsBeside d c
low_beside d c few lo hi = record { beyond = omega (arith, few); notes = λ i lt. omega (arith, note_low i); marks = λ x. omega (arith, mark_low x) }

pub high_beside : (d c : ℕ) → d ≤ 14 → 104 ≤ c → IsBeside d c
high_beside d c few lo = record { beyond = omega (arith, few); notes = λ i lt. omega (arith, note_few i (omega (arith, few, lt))); marks = λ x. omega (arith, mark_few x) }

pub word_cell_beside : (d c k : ℕ) → d ≤ 14 → 76 ≤ c → c ≡ 10 * k + 7 ⊎ (c ≡ 10 * k + 8 ⊎ c ≡ 10 * k + 9) → IsBeside d c
word_cell_beside d c k few lo (inl e) = record { beyond = omega (arith, few); notes = λ i lt. omega (arith, note_few i (omega (arith, few, lt))); marks = λ x. let at = stands x in omega (arith, at.at, e) }
word_cell_beside d c k few lo (inr (inl e)) = record { beyond = omega (arith, few); notes = λ i lt. omega (arith, note_few i (omega (arith, few, lt))); marks = λ x. let at = stands x in omega (arith, at.at, e) }
word_cell_beside d c k few lo (inr (inr e)) = record { beyond = omega (arith, few); notes = λ i lt. omega (arith, note_few i (omega (arith, few, lt))); marks = λ x. let at = stands x in omega (arith, at.at, e) }

-- a tape on which a goal is noted, and what follows is aimed at
module _ (d n : ℕ) (goal : Goal) where
  abbrev pub noting : Tape → Tape
  noting u = aimed d n (noted_for d goal u)

pub noting_put : (d n : ℕ) (goal : Goal) (u : Tape) (c v : ℕ) → IsBeside d c → put (noting d n goal u) c v ≡ noting d n goal (put u c v)
noting_put d n (Operation g) u c v b = aimed_put d n (noted d g u) c v b.beyond ∙ ap (aimed d n) (row_put note_cell (digit_in g) d u c v b.notes)
noting_put d n (Block x) u c v b = aimed_put d n (put u (mark_of x) 1) c v b.beyond ∙ ap (aimed d n) (swapped u (mark_of x) c 1 v (b.marks x))

pub noting_get : (d n : ℕ) (goal : Goal) (u : Tape) (c : ℕ) → IsBeside d c → get (noting d n goal u) c ≡ get u c
noting_get d n (Operation g) u c b = aimed_get d n (noted d g u) c b.beyond ∙ row_get note_cell (digit_in g) d u c b.notes
noting_get d n (Block x) u c b = aimed_get d n (put u (mark_of x) 1) c b.beyond ∙ get_other u (mark_of x) c 1 (b.marks x)

pub noting_word : (d n : ℕ) (goal : Goal) (u : Tape) (w v : ℕ) → IsBeside d w → IsBeside d (w + 1) → IsBeside d (w + 2) → with_word (noting d n goal u) w v ≡ noting d n goal (with_word u w v)
noting_word d n goal u w v a b c =
    ap (λ t. put (put t (w + 1) (mid_byte v)) (w + 2) (high_byte v)) (noting_put d n goal u w (low_byte v) a)
    ∙ (ap (λ t. put t (w + 2) (high_byte v)) (noting_put d n goal (put u w (low_byte v)) (w + 1) (mid_byte v) b)
    ∙ noting_put d n goal (put (put u w (low_byte v)) (w + 1) (mid_byte v)) (w + 2) (high_byte v) c)

-- cells beside what is aimed at
pub aimed_for_get : (d : ℕ) (goal : Goal) (s : Tape) (c : ℕ) → 3 * d < c → c ≢ 44 → c < 114 → get (aimed_for d goal s) c ≡ get s c
aimed_for_get d (Operation n) s c beyond differ below = aimed_get d n s c beyond
aimed_for_get d (Block x) s c beyond differ below = get_other (with_word s 114 (word_in s (cell_of x))) 44 c 1 (λ e. differ (sym e)) ∙ cell_kept s 114 (word_in s (cell_of x)) c (inl below)

word_beside : (s : Tape) (w c v : ℕ) → c < w → word_in (put s c v) w ≡ word_in s w
word_beside s w c v lt = λ i. get_other s c w v (omega arith) i + 256 * get_other s c (w + 1) v (omega arith) i + 65536 * get_other s c (w + 2) v (omega arith) i

pub aimed_for_put : (d : ℕ) (goal : Goal) (s : Tape) (c v : ℕ) → 3 * d < c → c ≢ 44 → c < 50 → put (aimed_for d goal s) c v ≡ aimed_for d goal (put s c v)
aimed_for_put d (Operation n) s c v beyond differ below = aimed_put d n s c v beyond
aimed_for_put d (Block x) s c v beyond differ below =
    let w : ℕ = word_in s (cell_of x) in
    let at = stands x in
    swapped (with_word s 114 w) 44 c 1 v (λ e. differ (sym e))
    ∙ (ap (λ t. put t 44 1) (put_word s 114 w c v (inl (omega arith)))
    ∙ ap (λ y. put (with_word (put s c v) 114 y) 44 1) (sym (word_beside s (cell_of x) c v (omega (arith, at.at)))))

-- digits that are noted beside those that are aimed at
pub notes_past : (d n g : ℕ) (s : Tape) → d ≤ 14 → aimed d n (noted d g s) ≡ noted d g (aimed d n s)
notes_past d n g s few =
    aimed_row d n (noted d g s)
    ∙ (row_row aim_cell (digit_in n) note_cell (digit_in g) d d s (λ i j li lj. note_beside i j (omega (arith, few))) ∙ ap (noted d g) (sym (aimed_row d n s)))

pub opened : (d n : ℕ) (u : Tape) → AreFree d u → left_open d (aimed d n u) ≡ u
opened d n u free =
    ap (left_open d) (aimed_row d n u) ∙ (row_again aim_cell (λ i. 0) (digit_in n) d u (λ i j lt lj. aims_apart i j lt) ∙ row_same aim_cell (λ i. 0) d u free)

-- nothing is taken where nothing is noted
pub taken_none : (d : ℕ) (u : Tape) → IsNoteFree d u → AreFree d u → taken d u ≡ u
taken_none zero u notes free = refl
taken_none (suc d) u notes free =
    let r : ℕ = note_cell d in
    let a : ℕ = aim_cell d in
    let none : get u r ≡ 0 = notes d (omega arith) in
    let sum : (get u a + get u r) % 2 ^ 8 ≡ 0 = omega (arith, free d (omega arith), none) in
    ap (λ t. moved t r a) (taken_none d u (λ i lt. notes i (omega arith)) (λ i lt. free i (omega arith)))
    ∙ (ap (λ y. put (put u a y) r 0) sum ∙ (ap (λ t. put t r 0) (put_same u a 0 (free d (omega arith))) ∙ put_same u r 0 none))

-- a register that is marked
pub marked_free : (d : ℕ) (s : Tape) (x : Reg) → d ≤ 14 → AreFree d s → AreFree d (put s (mark_of x) 1)
marked_free d s x few free = λ i lt. get_other s (mark_of x) (3 * i + 3) 1 (omega (arith, mark_low x, few)) ∙ free i lt

pub marked_notes : (d : ℕ) (s : Tape) (x : Reg) → IsNoteFree d s → IsNoteFree d (put s (mark_of x) 1)
marked_notes d s x notes = λ i lt. get_other s (mark_of x) (note_cell i) 1 (λ e. note_mark i x (sym e)) ∙ notes i lt

-- marks as a row
pub marks_apart : (i j : ℕ) → i < j → mark_cell i ≢ mark_cell j
marks_apart i j lt = omega arith

pub mark_is : (x : Reg) → mark_of x ≡ mark_cell (stands x).number
mark_is x = let at = stands x in omega (arith, at.at)

pub row_over : (cell value : ℕ → ℕ) (d k v : ℕ) (s : Tape) → k < d → ((i j : ℕ) → i < j → j < d → cell i ≢ cell j) → row cell value d (put s (cell k) v) ≡ row cell value d s
row_over cell value zero k v s lt apart = absurd (omega (arith, lt))
row_over cell value (suc d) k v s lt apart =
    elim (nat_eq k d) as (λ t. nat_eq k d ≡ t → row cell value (suc d) (put s (cell k) v) ≡ row cell value (suc d) s) [
      | true ↦ λ t.
          let e : k ≡ d = eqb-true k d t in
          ap (λ j. row cell value (suc d) (put s (cell j) v)) e
          ∙ (ap (λ u. put u (cell d) (value d)) (sym (row_put cell value d s (cell d) v (λ i li. apart i d li (omega arith)))) ∙ put_put (row cell value d s) (cell d) v (value d))
      | false ↦ λ t. let ne : k ≢ d = eqb-false k d t in ap (λ u. put u (cell d) (value d)) (row_over cell value d k v s (omega (arith, ne, lt)) (λ i j li lj. apart i j li (omega arith)))
    ] refl

mark_beside : (i j : ℕ) → j < 14 → mark_cell i ≢ aim_cell j
mark_beside i j lt = omega arith

pub marks_same : (s : Tape) → ((x : Reg) → get s (mark_of x) ≡ 0) → row mark_cell (λ i. 0) 6 s ≡ s
marks_same s marks = row_same mark_cell (λ i. 0) 6 s (six s marks)
  where
    six : (s : Tape) → ((x : Reg) → get s (mark_of x) ≡ 0) → (i : ℕ) → i < 6 → get s (mark_cell i) ≡ 0
    six s marks zero lt = marks BP
    six s marks (suc zero) lt = marks SP
    six s marks (suc (suc zero)) lt = marks D
    six s marks (suc (suc (suc zero))) lt = marks C
    six s marks (suc (suc (suc (suc zero)))) lt = marks B
    six s marks (suc (suc (suc (suc (suc zero))))) lt = marks A
    six s marks (suc (suc (suc (suc (suc (suc i)))))) lt = absurd (omega (arith, lt))

-- what is noted of a block is dropped
pub marks_dropped : (d n : ℕ) (s : Tape) (x : Reg) → d ≤ 14 → ((y : Reg) → get s (mark_of y) ≡ 0) → row mark_cell (λ i. 0) 6 (aimed d n (put s (mark_of x) 1)) ≡ aimed d n s
marks_dropped d n s x few marks =
    let at = stands x in
    ap (row mark_cell (λ i. 0) 6) (aimed_row d n (put s (mark_of x) 1))
    ∙ (row_row mark_cell (λ i. 0) aim_cell (digit_in n) 6 d (put s (mark_of x) 1) (λ i j li lj e. mark_beside j i (omega (arith, few, li)) (sym e))
    ∙ (ap (λ c. row aim_cell (digit_in n) d (row mark_cell (λ i. 0) 6 (put s c 1))) (mark_is x)
    ∙ (ap (row aim_cell (digit_in n) d) (row_over mark_cell (λ i. 0) 6 at.number 1 s at.few (λ i j lt lj. marks_apart i j lt) ∙ marks_same s marks) ∙ sym (aimed_row d n s))))

-- a frame on which a comparison is posed has nothing noted, and nothing aimed at
mark_outside : (x : Reg) → IsOutside (mark_of x) 87 × IsOutside (mark_of x) 97
mark_outside A = (inr (omega arith), inr (omega arith))
mark_outside B = (inr (omega arith), inl (omega arith))
mark_outside C = (inl (omega arith), inl (omega arith))
mark_outside D = (inl (omega arith), inl (omega arith))
mark_outside SP = (inl (omega arith), inl (omega arith))
mark_outside BP = (inl (omega arith), inl (omega arith))

pub posed_notable : (d : ℕ) (test : Cond) (x : Reg) (v : Operand) (s : Tape) → d ≤ 14 → IsFrame s → IsNotable d (posed test x v s)
posed_notable d test x v s few frame =
    let k = frame_notable d s few frame in
    record {
      notes = λ i lt.
          let hi : note_cell i < 76 = note_few i (omega (arith, few, lt)) in
          posed_get test x v s (note_cell i) (inr (omega (arith, note_low i))) (inl (omega (arith, hi))) (inl (omega (arith, hi))) ∙ k.notes i lt;
      marks = λ y. let out = mark_outside y in posed_get test x v s (mark_of y) (inr (omega (arith, mark_low y))) out.0 out.1 ∙ k.marks y;
    }

pub noted_free : (d : ℕ) (test : Cond) (x : Reg) (v : Operand) (goal : Goal) (s : Tape) → d ≤ 14 → AreFree d s → AreFree d (noted_for d goal (posed test x v s))
noted_free d test x v (Operation n) s few free = λ i lt.
    row_get note_cell (digit_in n) d (posed test x v s) (3 * i + 3) (λ j lj. omega (arith, note_low j, few, lt)) ∙ (posed_get test x v s (3 * i + 3) (inl (omega (arith, few, lt))) (inl (omega (arith, few, lt))) (inl (omega (arith, few, lt))) ∙ free i lt)
noted_free d test x v (Block y) s few free = marked_free d (posed test x v s) y few (λ i lt. posed_get test x v s (3 * i + 3) (inl (omega (arith, few, lt))) (inl (omega (arith, few, lt))) (inl (omega (arith, few, lt))) ∙ free i lt)
