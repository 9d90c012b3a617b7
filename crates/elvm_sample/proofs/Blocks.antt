-- The blocks of a sample program.
use Rattle.std.proofs.Common.{◌≡◌, ℕ, zero, suc, ◌+◌, ◌*◌, ◌<◌, ◌≤◌, Bool, false, not, List, [], Option, None, Some, length, map, slice_get, unwrap_or, position, sum_by, refl, ap, ◌∙◌, arith, le-ltb}
use Rattle.std.specs.List.{prefix_len, range_with_len}
use Rattle.std.specs.Option.{option_and_then}
use Rattle.std.proofs.lemmas.List.FromFn.{length-map-range_with_len, get_or-map-range_with_len}
use Rattle.std.proofs.lemmas.List.Sums.{sum_by-cons}
use Rattle.std.proofs.lemmas.Option.{slice_get-get_or}
use Rattle.eir_core.specs.declared.ops.Op.{Op}
use Rattle.eir_core.specs.Eir.{IsEir, has_jump_inside, is_empty, size_of}
use Rattle.eir_core.specs.Step.{length_at, op_in}
use Rattle.elvm_sample.specs.Program.{sample_block, sample_program}

pub block_count : (n : ℕ) → length (sample_program n).blocks ≡ n
block_count n = length-map-range_with_len sample_block 0 n

pub block_at : (n k : ℕ) → k < n → slice_get (sample_program n).blocks k ≡ Some (sample_block k)
block_at n k below =
    let within : k < length (sample_program n).blocks = omega (arith, block_count n) in
    slice_get-get_or (sample_program n).blocks k [] within
    ∙ ap (λ (b : List Op). Some b) (get_or-map-range_with_len sample_block 0 n k k [] below (omega arith))

pub length_at_block : (n k : ℕ) → k < n → length_at (sample_program n) k ≡ 5
length_at_block n k below = ap (λ (b : Option (List Op)). length (unwrap_or b [])) (block_at n k below)

pub op_at_block : (n k i : ℕ) → k < n → op_in (sample_program n) k i ≡ slice_get (sample_block k) i
op_at_block n k i below = ap (option_and_then (λ (ops : List Op). slice_get ops i)) (block_at n k below)

op_count : (a n : ℕ) → sum_by length (map sample_block (range_with_len a n)) ≡ 5 * n
op_count a zero = refl
op_count a (suc n) =
    let more = sum_by-cons length (sample_block a) (map sample_block (range_with_len (a + 1) n)) in
    omega (arith, more, op_count (a + 1) n)

pub sample_size : (n : ℕ) → size_of (sample_program n) ≡ 6 * n
sample_size n = omega (arith, block_count n, op_count 0 n)

-- where no block passes a test, none is found
all_fail : (test : List Op → Bool) → ((k : ℕ) → test (sample_block k) ≡ false) → (a n : ℕ) → prefix_len (λ x. not (test x)) (map sample_block (range_with_len a n)) ≡ n
all_fail test fails a zero = refl
all_fail test fails a (suc n) = rw (fails a) (omega (arith, all_fail test fails (a + 1) n))

none_found : (test : List Op → Bool) → ((k : ℕ) → test (sample_block k) ≡ false) → (n : ℕ) → position test (sample_program n).blocks ≡ None
none_found test fails n = rw (all_fail test fails 0 n, block_count n, le-ltb n n (omega arith)) refl

pub sample_is_eir : (n : ℕ) → n ≤ 20000 → IsEir (sample_program n)
sample_is_eir n few = record {
  blocks = record { filled = none_found is_empty (λ k. refl) n; jumps = none_found has_jump_inside (λ k. refl) n };
  start = omega arith;
  size = omega (arith, sample_size n);
}
