-- How many cells lines have.
use Rattle.std.proofs.Common.{◌≡◌, ℕ, ◌+◌, ◌*◌, ◌^◌, ◌≤◌, List, [], ◌∷◌, ◌++◌, length, drop, map, sum_by, Some, slice_get, add-one, refl, ap, ◌∙◌, arith, length-append}
use Rattle.std.specs.Prelude.{ℤ, pos}
use Rattle.std.proofs.lemmas.List.{length-map}
use Rattle.std.proofs.lemmas.List.Sums.{sum_by-cons}
use Rattle.mach_core.proofs.Lists.{next_is}
use Rattle.word24.specs.declared.word.Word.{Word}
use Rattle.word24.specs.Word.{number_of}
use Rattle.eir_core.specs.declared.ops.Operand.TheVariants.{Reg as register, Imm}
use Rattle.eir_core.specs.declared.ops.Op.{Op}
use Rattle.eir_core.specs.declared.ops.Op.TheVariants.{Mov, Add, Sub, Load, Store, Putc, Getc, Exit, Set, Jump, JumpIf}
use Rattle.eir_core.specs.Eir.{Eir, size_of}
use Rattle.sq_back.specs.declared.line.Line.{Line}
use Rattle.sq_back.specs.Code.{rows_start, op_lines, op_cells, ops_cells, place_after, ops_lines, blocks_lines, blocks_cells, rows_lines, blocks_start, memory_start, first_lines, lines_of, cells_of, image_of}

-- a line has three cells
pub length-cells_of : (lines : List Line) → length (cells_of lines) ≡ 3 * length lines
length-cells_of [] = refl
length-cells_of (line ∷ lines) = omega (arith, length-cells_of lines)

pub cells_of-append : (xs ys : List Line) → cells_of (xs ++ ys) ≡ cells_of xs ++ cells_of ys
cells_of-append [] ys = refl
cells_of-append (x ∷ xs) ys = ap (λ (cells : List ℤ). x.from ∷ x.to ∷ x.next ∷ cells) (cells_of-append xs ys)

-- an operation has as many lines wherever it stands
pub length-op_lines : (n at : ℕ) (place : ℤ) (op : Op) → length (op_lines n at place op) ≡ length (op_lines 0 0 (pos 0) op)
length-op_lines n at place (Mov r v) = refl
length-op_lines n at place (Add r v) = refl
length-op_lines n at place (Sub r v) = refl
length-op_lines n at place (Load r v) = refl
length-op_lines n at place (Store r v) = refl
length-op_lines n at place (Putc v) = refl
length-op_lines n at place (Getc r) = refl
length-op_lines n at place Exit = refl
length-op_lines n at place (Set t r v) = refl
length-op_lines n at place (Jump (register r)) = refl
length-op_lines n at place (Jump (Imm w)) = refl
length-op_lines n at place (JumpIf t (register x) r v) = refl
length-op_lines n at place (JumpIf t (Imm w) r v) = refl

pub length-op_cells : (n at : ℕ) (place : ℤ) (op : Op) → length (cells_of (op_lines n at place op)) ≡ op_cells op
length-op_cells n at place op = length-cells_of (op_lines n at place op) ∙ ap (λ k. 3 * k) (length-op_lines n at place op)

-- an operation has two lines at least, and 14 at most
pub record Within (op : Op) : Type 0 where
  pub some : 6 ≤ op_cells op
  pub few : op_cells op ≤ 42

pub op-within : (op : Op) → Within op
op-within (Mov r v) = record { some = omega arith; few = omega arith }
op-within (Add r v) = record { some = omega arith; few = omega arith }
op-within (Sub r v) = record { some = omega arith; few = omega arith }
op-within (Load r v) = record { some = omega arith; few = omega arith }
op-within (Store r v) = record { some = omega arith; few = omega arith }
op-within (Putc v) = record { some = omega arith; few = omega arith }
op-within (Getc r) = record { some = omega arith; few = omega arith }
op-within Exit = record { some = omega arith; few = omega arith }
op-within (Set t r v) = record { some = omega arith; few = omega arith }
op-within (Jump (register r)) = record { some = omega arith; few = omega arith }
op-within (Jump (Imm w)) = record { some = omega arith; few = omega arith }
op-within (JumpIf t (register x) r v) = record { some = omega arith; few = omega arith }
op-within (JumpIf t (Imm w) r v) = record { some = omega arith; few = omega arith }

pub op_cells-few : (op : Op) → op_cells op ≤ 42
op_cells-few op = (op-within op).few

-- the cells of two lists of lines, one after the other
join : (xs ys : List Line) → length (cells_of (xs ++ ys)) ≡ length (cells_of xs) + length (cells_of ys)
join xs ys = ap length (cells_of-append xs ys) ∙ length-append (cells_of xs) (cells_of ys)

pub length-ops_lines : (n k at : ℕ) (ops : List Op) → length (cells_of (ops_lines n k at ops)) ≡ ops_cells ops
length-ops_lines n k at [] = refl
length-ops_lines n k at (op ∷ ops) =
    let place = place_after n k (at + op_cells op) ops in
    join (op_lines n at place op) (ops_lines n k (at + op_cells op) ops)
    ∙ (ap (λ a. a + length (cells_of (ops_lines n k (at + op_cells op) ops))) (length-op_cells n at place op)
    ∙ ap (λ a. op_cells op + a) (length-ops_lines n k (at + op_cells op) ops))

pub length-blocks_lines : (n k at : ℕ) (blocks : List (List Op)) → length (cells_of (blocks_lines n k at blocks)) ≡ blocks_cells blocks
length-blocks_lines n k at [] = refl
length-blocks_lines n k at (ops ∷ blocks) =
    join (ops_lines n (k + 1) at ops) (blocks_lines n (k + 1) (at + ops_cells ops) blocks)
    ∙ (ap (λ a. a + length (cells_of (blocks_lines n (k + 1) (at + ops_cells ops) blocks))) (length-ops_lines n (k + 1) at ops)
    ∙ ap (λ a. ops_cells ops + a) (length-blocks_lines n (k + 1) (at + ops_cells ops) blocks))

pub length-rows_lines : (at : ℕ) (blocks : List (List Op)) → length (cells_of (rows_lines at blocks)) ≡ 3 * length blocks
length-rows_lines at [] = refl
length-rows_lines at (ops ∷ blocks) = omega (arith, length-rows_lines (at + ops_cells ops) blocks)

pub length-first_lines : (p : Eir) → length (cells_of (first_lines p)) ≡ rows_start
length-first_lines p = refl

-- memory begins right behind all lines
pub length-lines_of : (p : Eir) → length (cells_of (lines_of p)) ≡ memory_start p
length-lines_of p =
    let rows = rows_lines (blocks_start p) p.blocks in
    let body = blocks_lines (length p.blocks) 0 (blocks_start p) p.blocks in
    omega (arith, join (first_lines p) (rows ++ body), join rows body, length-first_lines p, length-rows_lines (blocks_start p) p.blocks, length-blocks_lines (length p.blocks) 0 (blocks_start p) p.blocks)

ops_cells-few : (ops : List Op) → ops_cells ops ≤ 42 * length ops
ops_cells-few [] = omega arith
ops_cells-few (op ∷ ops) = omega (arith, op_cells-few op, ops_cells-few ops)

blocks_cells-few : (blocks : List (List Op)) → blocks_cells blocks ≤ 42 * sum_by length blocks
blocks_cells-few [] = omega arith
blocks_cells-few (ops ∷ blocks) = omega (arith, ops_cells-few ops, blocks_cells-few blocks, sum_by-cons length ops blocks)

-- the lines of a program that is not too large have fewer than 2^22 cells
pub memory_start-few : (p : Eir) → size_of p ≤ 2 ^ 16 → memory_start p ≤ 2 ^ 22
memory_start-few p small = omega (arith, blocks_cells-few p.blocks, small)

pub memory_start-word : (p : Eir) → size_of p ≤ 2 ^ 16 → memory_start p ≤ 2 ^ 24
memory_start-word p small = omega (arith, memory_start-few p small)

-- the elements that are left, with the next in front
pub following : {A : Type 0} (xs : List A) (k : ℕ) (x : A) → slice_get xs k ≡ Some x → drop k xs ≡ x ∷ drop (k + 1) xs
following xs k x e = rw add-one (next_is xs k x e)

-- the cells of the blocks that are left, without the next
pub cells_next : (blocks : List (List Op)) (k : ℕ) (ops : List Op) → slice_get blocks k ≡ Some ops → blocks_cells (drop k blocks) ≡ ops_cells ops + blocks_cells (drop (k + 1) blocks)
cells_next blocks k ops e = ap blocks_cells (following blocks k ops e)
