-- The numbers of the lines are near 0.
use Rattle.std.proofs.Common.{◌≡◌, ℕ, ◌+◌, ◌-◌, ◌^◌, ◌<◌, ◌≤◌, Bool, true, false, cond, nat_lt, List, [], ◌∷◌, ◌++◌, length, ℤ, pos, negsuc, refl, arith}
use Rattle.std.specs.Prelude.{◌&&◌}
use Rattle.std.specs.List.{AllByRecursion, list_all}
use Rattle.std.proofs.lemmas.Bool.Decides.{nat_tests}
use Rattle.word24.specs.Word.{number_of}
use Rattle.eir_core.specs.declared.ops.Reg.{Reg}
use Rattle.eir_core.specs.declared.ops.Reg.TheVariants.{A, B, C, D, SP, BP}
use Rattle.eir_core.specs.declared.ops.Operand.{Operand}
use Rattle.eir_core.specs.declared.ops.Operand.TheVariants.{Reg as register, Imm}
use Rattle.eir_core.specs.declared.ops.Cond.{Cond}
use Rattle.eir_core.specs.declared.ops.Cond.TheVariants.{Eq, Ne, Lt, Gt, Le, Ge}
use Rattle.eir_core.specs.declared.ops.Op.{Op}
use Rattle.eir_core.specs.declared.ops.Op.TheVariants.{Mov, Add, Sub, Load, Store, Putc, Getc, Exit, Set, Jump, JumpIf}
use Rattle.eir_core.specs.Eir.{Eir, size_of}
use Rattle.sq_back.specs.declared.line.Line.{Line}
use Rattle.sq_back.specs.Code.{register_cell, zero_cell, work_cell, minus_one_cell, one_cell, most_cell, minus_most_cell, goto_start, load_start, load_next, store_start, store_next, row_place, goal, nowhere, numbers, subtract, go, move_lines, value_cell, number_in, Branches, branches_of, difference_lines, sign_lines, compare_lines, goto_lines, wrap_sum_lines, wrap_difference_lines, act_lines, own_numbers, op_lines, op_cells, ops_cells, place_after, ops_lines, blocks_lines, blocks_cells, rows_lines, blocks_start, memory_start, load_lines, store_lines, find_lines, first_lines, lines_of}
use Rattle.sq_back.proofs.Sizes.{memory_start-few}

-- at most 2^24 on either side
abbrev pub IsNear : ℤ → Type 0
IsNear (pos n) = n ≤ 2 ^ 24
IsNear (negsuc n) = n < 2 ^ 24

pub record IsSmall (line : Line) : Type 0 where
  pub from : IsNear line.from
  pub to : IsNear line.to
  pub next : IsNear line.next

abbrev pub AreSmall : List Line → Type 0
AreSmall lines = AllByRecursion IsSmall lines

pub both_small : (xs ys : List Line) → AreSmall xs → AreSmall ys → AreSmall (xs ++ ys)
both_small [] ys p q = q
both_small (x ∷ xs) ys p q = (p.0, both_small xs ys p.1 q)

register_near : (r : Reg) → register_cell r ≤ 2 ^ 24
register_near A = omega arith
register_near B = omega arith
register_near C = omega arith
register_near D = omega arith
register_near SP = omega arith
register_near BP = omega arith

value_near : (own : ℕ) (v : Operand) → own ≤ 2 ^ 24 → value_cell own v ≤ 2 ^ 24
value_near own (register r) h = register_near r
value_near own (Imm w) h = h

number_near : (v : Operand) → IsNear (number_in v)
number_near (register r) = omega arith
number_near (Imm w) = omega (arith, w.in_range)

below : (m n : ℕ) → nat_lt m n ≡ true → m < n
below m n e = grind (arith, nat_tests)

goal_near : (n k : ℕ) → n ≤ 2 ^ 22 → IsNear (goal n k)
goal_near n k h = choose (nat_lt k n) (λ e. let h2 : k < n = below k n e in omega arith) where
  choose : (b : Bool) → (b ≡ true → row_place k ≤ 2 ^ 24) → IsNear (cond b (pos (row_place k)) nowhere)
  choose true f = f refl
  choose false f = omega arith

subtract_small : (a b : ℕ) (place : ℤ) → a ≤ 2 ^ 24 → b ≤ 2 ^ 24 → IsNear place → IsSmall (subtract a b place)
subtract_small a b place p q r = record { from = p; to = q; next = r }

go_small : (place : ℤ) → IsNear place → IsSmall (go place)
go_small place r = record { from = omega arith; to = omega arith; next = r }

move_small : (at a b : ℕ) (place : ℤ) → at ≤ 2 ^ 23 → a ≤ 2 ^ 24 → b ≤ 2 ^ 24 → IsNear place → AreSmall (move_lines at a b place)
move_small at a b place h p q r = (
  subtract_small a zero_cell (pos (at + 3)) p (omega arith) (omega arith),
  (
    subtract_small b b (pos (at + 3 + 3)) q q (omega arith),
    (
      subtract_small zero_cell b (pos (at + 3 + 3 + 3)) (omega arith) q (omega arith),
      (go_small place r, tt),
    ),
  ),
)

difference_small : (at a b : ℕ) → at ≤ 2 ^ 23 → a ≤ 2 ^ 24 → b ≤ 2 ^ 24 → AreSmall (difference_lines at a b)
difference_small at a b h p q = (
  subtract_small a zero_cell (pos (at + 3)) p (omega arith) (omega arith),
  (
    subtract_small work_cell work_cell (pos (at + 3 + 3)) (omega arith) (omega arith) (omega arith),
    (
      subtract_small zero_cell work_cell (pos (at + 3 + 3 + 3)) (omega arith) (omega arith) (omega arith),
      (
        subtract_small zero_cell zero_cell (pos (at + 3 + 3 + 3 + 3)) (omega arith) (omega arith) (omega arith),
        (subtract_small b work_cell (pos (at + 3 + 3 + 3 + 3 + 3)) q (omega arith) (omega arith), tt),
      ),
    ),
  ),
)

record AreNear (branches : Branches) : Type 0 where
  negative : IsNear branches.negative
  zero : IsNear branches.zero
  positive : IsNear branches.positive

branches_near : (test : Cond) (there otherwise : ℤ) → IsNear there → IsNear otherwise → AreNear (branches_of test there otherwise)
branches_near Eq there otherwise p q = record { negative = q; zero = p; positive = q }
branches_near Ne there otherwise p q = record { negative = p; zero = q; positive = p }
branches_near Lt there otherwise p q = record { negative = p; zero = q; positive = q }
branches_near Gt there otherwise p q = record { negative = q; zero = q; positive = p }
branches_near Le there otherwise p q = record { negative = p; zero = p; positive = q }
branches_near Ge there otherwise p q = record { negative = q; zero = p; positive = p }

sign_small : (at : ℕ) (branches : Branches) → at ≤ 2 ^ 23 → AreNear branches → AreSmall (sign_lines at branches)
sign_small at branches h w = (
  subtract_small zero_cell work_cell (pos (at + 6)) (omega arith) (omega arith) (omega arith),
  (
    go_small branches.positive w.positive,
    (
      subtract_small minus_one_cell work_cell branches.negative (omega arith) (omega arith) w.negative,
      (go_small branches.zero w.zero, tt),
    ),
  ),
)

compare_small : (at a b : ℕ) (branches : Branches) → at + 15 ≤ 2 ^ 23 → a ≤ 2 ^ 24 → b ≤ 2 ^ 24 → AreNear branches → AreSmall (compare_lines at a b branches)
compare_small at a b branches h p q w = both_small (difference_lines at a b) (sign_lines (at + 15) branches) (difference_small at a b (omega arith) p q) (sign_small (at + 15) branches h w)

goto_small : (at : ℕ) (r : Reg) → at ≤ 2 ^ 23 → AreSmall (goto_lines at r)
goto_small at r h = move_small at (register_cell r) work_cell (pos goto_start) h (register_near r) (omega arith) (omega arith)

wrap_sum_small : (at cell : ℕ) (place : ℤ) → at ≤ 2 ^ 23 → cell ≤ 2 ^ 24 → IsNear place → AreSmall (wrap_sum_lines at cell place)
wrap_sum_small at cell place h p r = (
  subtract_small most_cell cell (pos (at + 9)) (omega arith) p (omega arith),
  (
    subtract_small one_cell cell (pos (at + 6)) (omega arith) p (omega arith),
    (
      go_small place r,
      (
        subtract_small minus_most_cell cell (pos (at + 12)) (omega arith) p (omega arith),
        (go_small place r, tt),
      ),
    ),
  ),
)

wrap_difference_small : (at cell : ℕ) (place : ℤ) → at ≤ 2 ^ 23 → cell ≤ 2 ^ 24 → IsNear place → AreSmall (wrap_difference_lines at cell place)
wrap_difference_small at cell place h p r = (
  subtract_small minus_one_cell cell (pos (at + 9)) (omega arith) p (omega arith),
  (
    subtract_small one_cell cell (pos (at + 6)) (omega arith) p (omega arith),
    (
      go_small place r,
      (
        subtract_small minus_most_cell cell (pos (at + 12)) (omega arith) p (omega arith),
        (go_small place r, tt),
      ),
    ),
  ),
)

act_small : (n own at : ℕ) (place : ℤ) (op : Op) → n ≤ 2 ^ 22 → own + 1 ≤ 2 ^ 24 → at + 64 ≤ 2 ^ 23 → IsNear place → AreSmall (act_lines n own at place op)
act_small n own at place (Mov r v) m o h q = move_small at (value_cell own v) (register_cell r) place (omega arith) (value_near own v (omega arith)) (register_near r) q
act_small n own at place (Add r v) m o h q = (
  subtract_small (value_cell own v) zero_cell (pos (at + 3)) (value_near own v (omega arith)) (omega arith) (omega arith),
  (
    subtract_small zero_cell (register_cell r) (pos (at + 3 + 3)) (omega arith) (register_near r) (omega arith),
    (
      subtract_small zero_cell zero_cell (pos (at + 3 + 3 + 3)) (omega arith) (omega arith) (omega arith),
      wrap_sum_small (at + 9) (register_cell r) place (omega arith) (register_near r) q,
    ),
  ),
)
act_small n own at place (Sub r v) m o h q = (
  subtract_small (value_cell own v) (register_cell r) (pos (at + 3)) (value_near own v (omega arith)) (register_near r) (omega arith),
  wrap_difference_small (at + 3) (register_cell r) place (omega arith) (register_near r) q,
)
act_small n own at place (Load r v) m o h q =
    both_small (move_lines at (value_cell own v) work_cell (pos (at + 12))) (move_lines (at + 12) (own + 1) load_next (pos load_start) ++ move_lines (at + 24) work_cell (register_cell r) place)
    (move_small at (value_cell own v) work_cell (pos (at + 12)) (omega arith) (value_near own v (omega arith)) (omega arith) (omega arith))
    (both_small (move_lines (at + 12) (own + 1) load_next (pos load_start)) (move_lines (at + 24) work_cell (register_cell r) place)
    (move_small (at + 12) (own + 1) load_next (pos load_start) (omega arith) o (omega arith) (omega arith))
    (move_small (at + 24) work_cell (register_cell r) place (omega arith) (omega arith) (register_near r) q))
act_small n own at place (Store r v) m o h q =
    both_small (move_lines at (value_cell own v) work_cell (pos (at + 12))) (move_lines (at + 12) (register_cell r) 5 (pos (at + 24)) ++ move_lines (at + 24) (own + 1) store_next (pos store_start))
    (move_small at (value_cell own v) work_cell (pos (at + 12)) (omega arith) (value_near own v (omega arith)) (omega arith) (omega arith))
    (both_small (move_lines (at + 12) (register_cell r) 5 (pos (at + 24))) (move_lines (at + 24) (own + 1) store_next (pos store_start))
    (move_small (at + 12) (register_cell r) 5 (pos (at + 24)) (omega arith) (register_near r) (omega arith) (omega arith))
    (move_small (at + 24) (own + 1) store_next (pos store_start) (omega arith) o (omega arith) (omega arith)))
act_small n own at place (Putc v) m o h q = (record { from = value_near own v (omega arith); to = omega arith; next = omega arith }, (go_small place q, tt))
act_small n own at place (Getc r) m o h q = (record { from = omega arith; to = register_near r; next = omega arith }, (go_small place q, tt))
act_small n own at place Exit m o h q = (go_small nowhere (omega arith), tt)
act_small n own at place (Set test r v) m o h q =
    let branches = branches_of test (pos (at + 30)) (pos (at + 27)) in
    let cell = register_cell r in
    let flag = subtract cell cell place ∷ subtract cell cell (pos (at + 33)) ∷ subtract minus_one_cell cell (pos (at + 36)) ∷ go place ∷ [] in
    both_small (compare_lines at cell (value_cell own v) branches) flag
    (compare_small at cell (value_cell own v) branches (omega arith) (register_near r) (value_near own v (omega arith)) (branches_near test (pos (at + 30)) (pos (at + 27)) (omega arith) (omega arith))) (
      subtract_small cell cell place (register_near r) (register_near r) q,
      (
        subtract_small cell cell (pos (at + 33)) (register_near r) (register_near r) (omega arith),
        (
          subtract_small minus_one_cell cell (pos (at + 36)) (omega arith) (register_near r) (omega arith),
          (go_small place q, tt),
        ),
      ),
    )
act_small n own at place (Jump (register r)) m o h q = goto_small at r (omega arith)
act_small n own at place (Jump (Imm w)) m o h q = (go_small (goal n (number_of w)) (goal_near n (number_of w) m), tt)
act_small n own at place (JumpIf test (register t) r v) m o h q =
    let branches = branches_of test (pos (at + 27)) place in
    both_small (compare_lines at (register_cell r) (value_cell own v) branches) (goto_lines (at + 27) t)
    (compare_small at (register_cell r) (value_cell own v) branches (omega arith) (register_near r) (value_near own v (omega arith)) (branches_near test (pos (at + 27)) place (omega arith) q))
    (goto_small (at + 27) t (omega arith))
act_small n own at place (JumpIf test (Imm w) r v) m o h q =
    compare_small at (register_cell r) (value_cell own v) (branches_of test (goal n (number_of w)) place) (omega arith) (register_near r) (value_near own v (omega arith))
    (branches_near test (goal n (number_of w)) place (goal_near n (number_of w) m) q)

own_small : (at : ℕ) (place : ℤ) (op : Op) → at + 64 ≤ 2 ^ 23 → IsNear place → IsSmall (own_numbers at place op)
own_small at place (Mov r v) h q = record { from = number_near v; to = omega arith; next = omega arith }
own_small at place (Add r v) h q = record { from = number_near v; to = omega arith; next = omega arith }
own_small at place (Sub r v) h q = record { from = number_near v; to = omega arith; next = omega arith }
own_small at place (Load r v) h q = record { from = number_near v; to = omega arith; next = omega arith }
own_small at place (Store r v) h q = record { from = number_near v; to = q; next = omega arith }
own_small at place (Putc v) h q = record { from = number_near v; to = omega arith; next = omega arith }
own_small at place (Getc r) h q = record { from = omega arith; to = omega arith; next = omega arith }
own_small at place Exit h q = record { from = omega arith; to = omega arith; next = omega arith }
own_small at place (Set test r v) h q = record { from = number_near v; to = omega arith; next = omega arith }
own_small at place (Jump target) h q = record { from = omega arith; to = omega arith; next = omega arith }
own_small at place (JumpIf test target r v) h q = record { from = number_near v; to = omega arith; next = omega arith }

op_small : (n at : ℕ) (place : ℤ) (op : Op) → n ≤ 2 ^ 22 → at ≤ 2 ^ 22 → IsNear place → AreSmall (op_lines n at place op)
op_small n at place op m h q = (own_small at place op (omega arith) q, act_small n at (at + 3) place op m (omega arith) (omega arith) q)

after_near : (n k at : ℕ) (ops : List Op) → n ≤ 2 ^ 22 → at ≤ 2 ^ 22 → IsNear (place_after n k at ops)
after_near n k at [] m h = goal_near n k m
after_near n k at (op ∷ ops) m h = omega arith

ops_small : (n k at : ℕ) (ops : List Op) → n ≤ 2 ^ 22 → at + ops_cells ops ≤ 2 ^ 22 → AreSmall (ops_lines n k at ops)
ops_small n k at [] m h = tt
ops_small n k at (op ∷ ops) m h =
    let place = place_after n k (at + op_cells op) ops in
    both_small (op_lines n at place op) (ops_lines n k (at + op_cells op) ops)
    (op_small n at place op m (at_first (at) (op_cells op) (ops_cells ops) h) (after_near n k (at + op_cells op) ops m (at_next at (op_cells op) (ops_cells ops) h)))
    (ops_small n k (at + op_cells op) ops m (at_rest at (op_cells op) (ops_cells ops) h))
  where
    at_first : (a b c : ℕ) → a + (b + c) ≤ 2 ^ 22 → a ≤ 2 ^ 22
    at_first a b c h = omega arith

    at_next : (a b c : ℕ) → a + (b + c) ≤ 2 ^ 22 → a + b ≤ 2 ^ 22
    at_next a b c h = omega arith

    at_rest : (a b c : ℕ) → a + (b + c) ≤ 2 ^ 22 → (a + b) + c ≤ 2 ^ 22
    at_rest a b c h = omega arith

blocks_small : (n k at : ℕ) (blocks : List (List Op)) → n ≤ 2 ^ 22 → at + blocks_cells blocks ≤ 2 ^ 22 → AreSmall (blocks_lines n k at blocks)
blocks_small n k at [] m h = tt
blocks_small n k at (ops ∷ blocks) m h =
    both_small (ops_lines n (k + 1) at ops) (blocks_lines n (k + 1) (at + ops_cells ops) blocks)
    (ops_small n (k + 1) at ops m (at_first at (ops_cells ops) (blocks_cells blocks) h)) (blocks_small n (k + 1) (at + ops_cells ops) blocks m (at_rest at (ops_cells ops) (blocks_cells blocks) h))
  where
    at_first : (a b c : ℕ) → a + (b + c) ≤ 2 ^ 22 → a + b ≤ 2 ^ 22
    at_first a b c h = omega arith

    at_rest : (a b c : ℕ) → a + (b + c) ≤ 2 ^ 22 → (a + b) + c ≤ 2 ^ 22
    at_rest a b c h = omega arith

rows_small : (at : ℕ) (blocks : List (List Op)) → at + blocks_cells blocks ≤ 2 ^ 22 → AreSmall (rows_lines at blocks)
rows_small at [] h = tt
rows_small at (ops ∷ blocks) h =
    (go_small (pos (at + 3)) (at_row at (ops_cells ops) (blocks_cells blocks) h), rows_small (at + ops_cells ops) blocks (at_rest at (ops_cells ops) (blocks_cells blocks) h))
  where
    at_row : (a b c : ℕ) → a + (b + c) ≤ 2 ^ 22 → a + 3 ≤ 2 ^ 24
    at_row a b c h = omega arith

    at_rest : (a b c : ℕ) → a + (b + c) ≤ 2 ^ 22 → (a + b) + c ≤ 2 ^ 22
    at_rest a b c h = omega arith

-- lines that are told to be small by a test

near_test : ℤ → Bool
near_test (pos n) = nat_lt n (2 ^ 24 + 1)
near_test (negsuc n) = nat_lt n (2 ^ 24)

small_test : Line → Bool
small_test line = near_test line.from && (near_test line.to && near_test line.next)

near_told : (z : ℤ) → near_test z ≡ true → IsNear z
unfolding near_test
near_told (pos n) e = let h : n < 2 ^ 24 + 1 = below n (2 ^ 24 + 1) e in omega arith
near_told (negsuc n) e = below n (2 ^ 24) e

both_told : (a b : Bool) → (a && b) ≡ true → (a ≡ true) × (b ≡ true)
both_told true b e = (refl, e)
both_told false b e = cc

small_told : (line : Line) → small_test line ≡ true → IsSmall line
unfolding small_test
small_told line e =
    let p = both_told (near_test line.from) (near_test line.to && near_test line.next) e in
    let q = both_told (near_test line.to) (near_test line.next) p.1 in
    record { from = near_told line.from p.0; to = near_told line.to q.0; next = near_told line.next q.1 }

all_told : (lines : List Line) → list_all small_test lines ≡ true → AreSmall lines
all_told [] e = tt
all_told (line ∷ lines) e = let p = both_told (small_test line) (list_all small_test lines) e in (small_told line p.0, all_told lines p.1)

rest_small : AreSmall (load_lines ++ (store_lines ++ find_lines))
unfolding near_test small_test
rest_small = all_told (load_lines ++ (store_lines ++ find_lines)) refl

zeros_small : IsSmall (numbers (pos 0) (pos 0) (pos 0))
zeros_small = record { from = omega arith; to = omega arith; next = omega arith }

-- what stands at the start of an image
first_small : (p : Eir) → size_of p ≤ 2 ^ 16 → AreSmall (first_lines p)
first_small p h =
    let room : memory_start p ≤ 2 ^ 22 = memory_start-few p h in
    let few : length p.blocks ≤ 2 ^ 22 = omega arith in
    let one : IsSmall (numbers (pos 1) (negsuc 0) (pos (2 ^ 24 - 1))) = record { from = omega arith; to = omega arith; next = omega arith } in
    let most : IsSmall (numbers (negsuc (2 ^ 24 - 2)) (pos (memory_start p)) (pos (length p.blocks))) = record { from = omega arith; to = omega arith; next = omega arith } in
    let rows : IsSmall (numbers (pos 132) (pos 0) (pos 0)) = record { from = omega arith; to = omega arith; next = omega arith } in
    (go_small (goal (length p.blocks) p.start) (goal_near (length p.blocks) p.start few), (zeros_small, (zeros_small, (zeros_small, (one, (most, (rows, rest_small)))))))

-- all lines are small
pub lines_small : (p : Eir) → size_of p ≤ 2 ^ 16 → AreSmall (lines_of p)
lines_small p h =
    let room = memory_start-few p h in
    let few : length p.blocks ≤ 2 ^ 22 = omega arith in
    both_small (first_lines p) (rows_lines (blocks_start p) p.blocks ++ blocks_lines (length p.blocks) 0 (blocks_start p) p.blocks) (first_small p h)
    (both_small (rows_lines (blocks_start p) p.blocks) (blocks_lines (length p.blocks) 0 (blocks_start p) p.blocks)
    (rows_small (blocks_start p) p.blocks room) (blocks_small (length p.blocks) 0 (blocks_start p) p.blocks few room))
