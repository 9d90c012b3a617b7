-- Which lines stand where in the image of a program.
use Rattle.std.proofs.Common.{◌≡◌, ℕ, zero, suc, ◌+◌, ◌*◌, ◌<◌, ◌≤◌, true, false, cond, nat_lt, List, [], ◌∷◌, ◌++◌, length, take, drop, map, Some, slice_get, unwrap_or, refl, sym, ap, subst, ◌∙◌, arith, add-one, append_assoc}
use Rattle.std.specs.Prelude.{ℤ, pos}
use Rattle.std.proofs.Math.ListN.{drop_of_length-le}
use Rattle.std.proofs.Math.Seq.{drop-cons}
use Rattle.std.proofs.lemmas.Bool.{ltb-true, ltb-false, lt-ltb}
use Rattle.std.proofs.lemmas.Option.{slice_get_within, option_and_then_some}
use Rattle.mach_core.proofs.Lists.{drop_none, take_none, skipped}
use Rattle.word24.specs.Word.{number_of}
use Rattle.eir_core.specs.declared.ops.Op.{Op}
use Rattle.eir_core.specs.Eir.{Eir}
use Rattle.eir_core.specs.Step.{Config, op_in, op_at, length_at}
use Rattle.sq_back.specs.declared.line.Line.{Line}
use Rattle.sq_back.specs.Code.{go, goal, rows_start, row_place, op_lines, op_cells, ops_cells, place_after, ops_lines, blocks_lines, blocks_cells, rows_lines, blocks_start, memory_start, first_lines, lines_of, cells_of, image_of, nowhere}
use Rattle.sq_back.specs.Related.{ops_of, op_place, entry, place_of}
use Rattle.sq_back.proofs.Standing.{Stands, next_place}
use Rattle.sq_back.proofs.Sizes.{cells_of-append, length-op_cells, length-ops_lines, length-rows_lines, length-lines_of}

spread : (xs ys : List Line) (more : List ℤ) → cells_of (xs ++ ys) ++ more ≡ cells_of xs ++ (cells_of ys ++ more)
spread xs ys more = ap (λ (cells : List ℤ). cells ++ more) (cells_of-append xs ys) ∙ append_assoc (cells_of xs) (cells_of ys) more

-- of two lists of lines the first stands at the front
pub stands_front : (image : List ℤ) (at : ℕ) (xs ys : List Line) → Stands image at (xs ++ ys) → Stands image at xs
stands_front image at xs ys stands = (cells_of ys ++ stands.0, stands.1 ∙ spread xs ys stands.0)

-- and the second behind it
pub stands_behind : (image : List ℤ) (at next : ℕ) (xs ys : List Line) → Stands image at (xs ++ ys) → next ≡ at + length (cells_of xs) → Stands image next ys
stands_behind image at next xs ys stands here =
    (stands.0, ap (λ i. drop i image) here ∙ skipped image at (cells_of xs) (cells_of ys ++ stands.0) (stands.1 ∙ spread xs ys stands.0))

-- an operation of a list of operations
op_of_ops : (image : List ℤ) (n k at here : ℕ) (ops : List Op) (i : ℕ) (op : Op) → Stands image at (ops_lines n k at ops) → slice_get ops i ≡ Some op → here ≡ at + ops_cells (take i ops)
    → Stands image here (op_lines n here (place_after n k (here + op_cells op) (drop (suc i) ops)) op)
op_of_ops image n k at here [] i op stands is e = cc
op_of_ops image n k at here (x ∷ ops) zero op stands is e =
    let same : x ≡ op = cc in
    let there : at ≡ here = omega arith in
    let place = λ (a : ℕ) (o : Op) (more : List Op). place_after n k (a + op_cells o) more in
    let first : Stands image at (op_lines n at (place at x ops) x) = stands_front image at (op_lines n at (place at x ops) x) (ops_lines n k (at + op_cells x) ops) stands in
    let moved : Stands image here (op_lines n here (place here x ops) x) = subst (λ a. Stands image a (op_lines n a (place a x ops) x)) there first in
    let named : Stands image here (op_lines n here (place here op ops) op) = subst (λ o. Stands image here (op_lines n here (place here o ops) o)) same moved in
    subst (λ more. Stands image here (op_lines n here (place here op more) op)) (sym (drop_none ops)) named
op_of_ops image n k at here (x ∷ ops) (suc i) op stands is e =
    let rest = stands_behind image at (at + op_cells x) (op_lines n at (place_after n k (at + op_cells x) ops) x) (ops_lines n k (at + op_cells x) ops) stands (ap (λ c. at + c) (sym (length-op_cells n at (place_after n k (at + op_cells x) ops) x))) in
    op_of_ops image n k (at + op_cells x) here ops i op rest is (omega arith)

-- the operations of a block
ops_of_blocks : (image : List ℤ) (n k at here : ℕ) (blocks : List (List Op)) (b : ℕ) → Stands image at (blocks_lines n k at blocks) → b < length blocks → here ≡ at + blocks_cells (take b blocks)
    → Stands image here (ops_lines n (k + b + 1) here (unwrap_or (slice_get blocks b) []))
ops_of_blocks image n k at here [] b stands h e = absurd (omega arith)
ops_of_blocks image n k at here (ops ∷ blocks) zero stands h e =
    let there : at ≡ here = omega arith in
    let number : k + 1 ≡ k + zero + 1 = omega arith in
    let first : Stands image at (ops_lines n (k + 1) at ops) = stands_front image at (ops_lines n (k + 1) at ops) (blocks_lines n (k + 1) (at + ops_cells ops) blocks) stands in
    let moved : Stands image here (ops_lines n (k + 1) here ops) = subst (λ a. Stands image a (ops_lines n (k + 1) a ops)) there first in
    subst (λ j. Stands image here (ops_lines n j here ops)) number moved
ops_of_blocks image n k at here (ops ∷ blocks) (suc b) stands h e =
    let rest = stands_behind image at (at + ops_cells ops) (ops_lines n (k + 1) at ops) (blocks_lines n (k + 1) (at + ops_cells ops) blocks) stands (ap (λ c. at + c) (sym (length-ops_lines n (k + 1) at ops))) in
    let number : k + 1 + b + 1 ≡ k + suc b + 1 = omega arith in
    subst (λ j. Stands image here (ops_lines n j here (unwrap_or (slice_get blocks b) []))) number
    (ops_of_blocks image n (k + 1) (at + ops_cells ops) here blocks b rest (omega arith) (omega arith))

-- the row of a block
row_of_rows : (image : List ℤ) (at here place there : ℕ) (blocks : List (List Op)) (b : ℕ) → Stands image at (rows_lines place blocks) → b < length blocks → here ≡ at + 3 * b → there ≡ place + blocks_cells (take b blocks) + 3
    → Stands image here (go (pos there) ∷ [])
row_of_rows image at here place there [] b stands h e f = absurd (omega arith)
row_of_rows image at here place there (ops ∷ blocks) zero stands h e f =
    let same : at ≡ here = omega arith in
    let target : place + 3 ≡ there = omega arith in
    let first : Stands image at (go (pos (place + 3)) ∷ []) = stands_front image at (go (pos (place + 3)) ∷ []) (rows_lines (place + ops_cells ops) blocks) stands in
    let moved : Stands image here (go (pos (place + 3)) ∷ []) = subst (λ a. Stands image a (go (pos (place + 3)) ∷ [])) same first in
    subst (λ t. Stands image here (go (pos t) ∷ [])) target moved
row_of_rows image at here place there (ops ∷ blocks) (suc b) stands h e f =
    let rest = stands_behind image at (at + 3) (go (pos (place + 3)) ∷ []) (rows_lines (place + ops_cells ops) blocks) stands refl in
    row_of_rows image (at + 3) here (place + ops_cells ops) there blocks b rest (omega arith) (omega arith) (omega arith)

-- all lines stand at the front
whole : (p : Eir) → Stands (image_of p) 0 (lines_of p)
whole p = (map (λ word. pos (number_of word)) p.words, drop_none (image_of p))

-- behind the first lines there are the rows, and then the blocks
rows_and_blocks : (p : Eir) → Stands (image_of p) rows_start (rows_lines (blocks_start p) p.blocks ++ blocks_lines (length p.blocks) 0 (blocks_start p) p.blocks)
rows_and_blocks p = stands_behind (image_of p) 0 rows_start (first_lines p) (rows_lines (blocks_start p) p.blocks ++ blocks_lines (length p.blocks) 0 (blocks_start p) p.blocks) (whole p) refl

blocks_stand : (p : Eir) → Stands (image_of p) (blocks_start p) (blocks_lines (length p.blocks) 0 (blocks_start p) p.blocks)
blocks_stand p = stands_behind (image_of p) rows_start (blocks_start p) (rows_lines (blocks_start p) p.blocks) (blocks_lines (length p.blocks) 0 (blocks_start p) p.blocks) (rows_and_blocks p)
    (ap (λ c. rows_start + c) (sym (length-rows_lines (blocks_start p) p.blocks)))

-- the lines at the start of the image
pub first_stand : (p : Eir) → Stands (image_of p) 0 (first_lines p)
first_stand p = stands_front (image_of p) 0 (first_lines p) (rows_lines (blocks_start p) p.blocks ++ blocks_lines (length p.blocks) 0 (blocks_start p) p.blocks) (whole p)

-- a block's row leads to what its first operation does
pub row_stands : (p : Eir) (b : ℕ) → b < length p.blocks → Stands (image_of p) (row_place b) (go (pos (op_place p b 0 + 3)) ∷ [])
row_stands p b h =
    let rows = stands_front (image_of p) rows_start (rows_lines (blocks_start p) p.blocks) (blocks_lines (length p.blocks) 0 (blocks_start p) p.blocks) (rows_and_blocks p) in
    row_of_rows (image_of p) rows_start (row_place b) (blocks_start p) (op_place p b 0 + 3) p.blocks b rows h refl (omega (arith, ap ops_cells (take_none (ops_of p b))))

-- the block that has an operation, and the operation in it
record IsFound (p : Eir) (b i : ℕ) (op : Op) : Type 0 where
  within : b < length p.blocks
  there : slice_get (ops_of p b) i ≡ Some op

found : (p : Eir) (b i : ℕ) (op : Op) → op_in p b i ≡ Some op → IsFound p b i op
found p b i op is =
    option_and_then_some (λ ops. slice_get ops i) (slice_get p.blocks b) op is (λ ops at here. record {
      within = slice_get_within p.blocks b ops at;
      there = ap (λ o. slice_get (unwrap_or o []) i) at ∙ here;
    })

ops_cells-next : (ops : List Op) (i : ℕ) (op : Op) → slice_get ops i ≡ Some op → ops_cells (take (suc i) ops) ≡ ops_cells (take i ops) + op_cells op
ops_cells-next [] i op is = cc
ops_cells-next (x ∷ ops) zero op is =
    let same : x ≡ op = cc in
    omega (arith, ap op_cells same, ap ops_cells (take_none ops))
ops_cells-next (x ∷ ops) (suc i) op is = omega (arith, ops_cells-next ops i op is)

ops_cells-inside : (ops : List Op) (i : ℕ) (op : Op) → slice_get ops i ≡ Some op → ops_cells (take i ops) + op_cells op ≤ ops_cells ops
ops_cells-inside [] i op is = cc
ops_cells-inside (x ∷ ops) zero op is =
    let same : x ≡ op = cc in
    omega (arith, ap op_cells same)
ops_cells-inside (x ∷ ops) (suc i) op is = omega (arith, ops_cells-inside ops i op is)

blocks_cells-inside : (blocks : List (List Op)) (b : ℕ) → b < length blocks → blocks_cells (take b blocks) + ops_cells (unwrap_or (slice_get blocks b) []) ≤ blocks_cells blocks
blocks_cells-inside [] b h = absurd (omega arith)
blocks_cells-inside (ops ∷ blocks) zero h = omega arith
blocks_cells-inside (ops ∷ blocks) (suc b) h = omega (arith, blocks_cells-inside blocks b (omega arith))

-- behind an operation there is the next one of its block, or else the row of the next block
place_behind : (p : Eir) (c : Config) (op : Op) → c.block < length p.blocks → slice_get (ops_of p c.block) c.index ≡ Some op
    → place_after (length p.blocks) (0 + c.block + 1) (op_place p c.block c.index + op_cells op) (drop (suc c.index) (ops_of p c.block)) ≡ next_place p c
place_behind p c op within there =
    let n = length p.blocks in
    let b = c.block in
    let i = c.index in
    let at = op_place p b i + op_cells op in
    let more = drop (suc i) (ops_of p b) in
    elim (nat_lt (i + 1) (length_at p b)) as (λ t. nat_lt (i + 1) (length_at p b) ≡ t → place_after n (0 + b + 1) at more ≡
    (let d : Config = cond t (record { block = b; index = i + 1; regs = c.regs; memory = c.memory }) (record { block = b + 1; index = 0; regs = c.regs; memory = c.memory }) in place_of p d.block d.index)) [
      | true ↦ λ e.
          let below : i + 1 < length_at p b = ltb-true (i + 1) (length_at p b) e in
          let some = drop-cons (ops_of p b) (suc i) op (omega arith) in
          let next : at + 3 ≡ op_place p b (suc i) + 3 = omega (arith, ops_cells-next (ops_of p b) i op there) in
          ap (λ ops. place_after n (0 + b + 1) at ops) some
          ∙ (ap pos next
          ∙ (ap (λ j. pos (entry p b j)) (sym (add-one i))
          ∙ ap (λ t. cond t (pos (entry p b (i + 1))) nowhere) (sym (lt-ltb b n within))))
      | false ↦ λ e.
          let last : length_at p b ≤ i + 1 = ltb-false (i + 1) (length_at p b) e in
          let number : 0 + b + 1 ≡ b + 1 = omega arith in
          ap (λ ops. place_after n (0 + b + 1) at ops) (drop_of_length-le (ops_of p b) {i = suc i} (omega arith))
          ∙ ap (λ k. goal n k) number
    ] refl

-- the lines of an operation stand at its place, and lead to what comes next
pub op_stands : (p : Eir) (c : Config) (op : Op) → op_at p c ≡ Some op → Stands (image_of p) (op_place p c.block c.index) (op_lines (length p.blocks) (op_place p c.block c.index) (next_place p c) op)
op_stands p c op is =
    let n = length p.blocks in
    let b = c.block in
    let i = c.index in
    let at = op_place p b i in
    let here = found p b i op is in
    let block = ops_of_blocks (image_of p) n 0 (blocks_start p) (blocks_start p + blocks_cells (take b p.blocks)) p.blocks b (blocks_stand p) here.within refl in
    let lines = op_of_ops (image_of p) n (0 + b + 1) (blocks_start p + blocks_cells (take b p.blocks)) at (ops_of p b) i op block here.there refl in
    subst (λ place. Stands (image_of p) at (op_lines n at place op)) (place_behind p c op here.within here.there) lines

-- behind the rows
pub op_behind : (p : Eir) (b i : ℕ) → rows_start ≤ op_place p b i
op_behind p b i = omega arith

-- and before memory
pub op_before : (p : Eir) (b i : ℕ) (op : Op) → op_in p b i ≡ Some op → op_place p b i + op_cells op ≤ memory_start p
op_before p b i op is =
    let here = found p b i op is in
    omega (arith, blocks_cells-inside p.blocks b here.within, ops_cells-inside (ops_of p b) i op here.there)

-- the data words stand where memory begins
pub data_stands : (p : Eir) (a : ℕ) → slice_get (image_of p) (memory_start p + a) ≡ slice_get (map (λ word. pos (number_of word)) p.words) a
data_stands p a = ap (λ k. slice_get (image_of p) (k + a)) (sym (length-lines_of p)) ∙ past (cells_of (lines_of p)) (map (λ word. pos (number_of word)) p.words) a
  where
    past : {A : Type 0} (xs ys : List A) (k : ℕ) → slice_get (xs ++ ys) (length xs + k) ≡ slice_get ys k
    past [] ys k = let e : 0 + k ≡ k = omega arith in ap (slice_get ys) e
    past (x ∷ xs) ys k = let e : length (x ∷ xs) + k ≡ suc (length xs + k) = omega arith in ap (slice_get (x ∷ (xs ++ ys))) e ∙ past xs ys k
