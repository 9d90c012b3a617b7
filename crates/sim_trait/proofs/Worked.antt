-- Rows computed on the definitions alone.
use Rattle.std.proofs.Common.{◌≡◌, ◌^◌, true, false, length, refl}
use Rattle.eir_core.specs.Eir.{Eir, size_of}
use Rattle.sim_trait.specs.Digits.{digit_count}
use Rattle.sim_trait.specs.Bound.{sharp}

none : digit_count 0 ≡ 0
unfolding digit_count
none = refl

one : digit_count 1 ≡ 1
unfolding digit_count
one = refl

seven : digit_count 7 ≡ 3
unfolding digit_count
seven = refl

eight : digit_count 8 ≡ 4
unfolding digit_count
eight = refl

many : digit_count 43690 ≡ 16
unfolding digit_count
many = refl

-- two steps of one block with two operations
one_block : (p : Eir) → size_of p ≡ 3 → length p.blocks ≡ 1 → sharp (2 ^ 8) true p 2 ≡ 2560
one_block p size blocks = rw (size, blocks, one) refl

one_block_in_rows : (p : Eir) → size_of p ≡ 3 → sharp (2 ^ 13) false p 2 ≡ 57344
one_block_in_rows p size = rw size refl

-- 87,380 steps of 43,690 blocks with two operations each
many_blocks : (p : Eir) → size_of p ≡ 131070 → length p.blocks ≡ 43690 → sharp (2 ^ 8) true p 87380 ≡ 413836288
many_blocks p size blocks = rw (size, blocks, many) refl
