-- The run of a sample program.
use Rattle.std.proofs.Common.{◌≡◌, ℕ, zero, suc, ◌+◌, ◌-◌, ◌*◌, ◌%◌, ◌^◌, ◌<◌, ◌≤◌, false, true, cond, List, [], ◌∷◌, ◌++◌, Some, length, nat_lt, slice_get, refl, sym, ap, subst, ◌∙◌, inl, inr, arith, le-ltb, lt-ltb, ltb-true, ltb-false, mod-eq_of_lt}
use Rattle.std.proofs.lemmas.List.{length-append}
use Rattle.mach_core.specs.declared.machine.Status.TheVariants.{Going, Ended}
use Rattle.mach_core.specs.Rule.{Moment, applied, at_start, run, run_from}
use Rattle.mach_core.proofs.Runs.{run_from-add, run_from-over}
use Rattle.mach_core.proofs.Growing.{taken_grows_to}
use Rattle.word24.specs.Word.{sum_word}
use Rattle.eir_core.specs.declared.ops.Reg.TheVariants.{A, B}
use Rattle.eir_core.specs.declared.ops.Operand.TheVariants.{Reg as register}
use Rattle.eir_core.specs.declared.ops.Op.{Op}
use Rattle.eir_core.specs.declared.ops.Op.TheVariants.{Add, Store, Load, Putc, Jump}
use Rattle.eir_core.specs.Memory.{Memory, with_word, word_at}
use Rattle.eir_core.specs.Step.{Config, Regs, after, bytes_of, eir_rule, eir_start, length_at, onward_in, op_in, reg_of, takes, value_of, with_reg}
use Rattle.sim_trait.proofs.Follow.{eir_stands}
use Rattle.elvm_sample.specs.Program.{constant, sample_block, sample_program}
use Rattle.elvm_sample.specs.Ends.{EndsAfter}
use Rattle.elvm_sample.specs.Laws.{WritesSoMany}
use Rattle.elvm_sample.proofs.Blocks.{block_count, length_at_block, op_at_block}

-- at an operation of a block
abbrev place : ℕ → ℕ → Regs → Memory → Config
place k i regs memory = record { block = k; index = i; regs = regs; memory = memory }

-- with this output, and no byte taken
abbrev moment : Config → List ℕ → Moment Config
moment config output = record { config = config; taken = 0; output = output }

-- at the front of a block, after one byte for each block before it
record AtBlock (k : ℕ) (m : Moment Config) : Type 0 where
  regs : Regs
  memory : Memory
  output : List ℕ
  here : m ≡ moment (place k 0 regs memory) output
  count : length output ≡ k

module _ (n k : ℕ) (below : k < n) (small : k + 1 < 2 ^ 24) (input : List ℕ) where
  -- one operation
  step : (i : ℕ) (op : Op) (regs : Regs) (memory : Memory) (output : List ℕ) → slice_get (sample_block k) i ≡ Some op → takes (Some op) ≡ false
      → applied (eir_rule (sample_program n)) input (moment (place k i regs memory) output)
      ≡ moment (after (sample_program n) (place k i regs memory) (Some op) 0) (output ++ bytes_of regs (Some op))
  step i op regs memory output here quiet =
      let there : op_in (sample_program n) k i ≡ Some op = op_at_block n k i below ∙ here in
      let within : k < length (sample_program n).blocks = omega (arith, block_count n) in
      let going : nat_lt k (length (sample_program n).blocks) ≡ true = lt-ltb k (length (sample_program n).blocks) within in
      rw (going, there, quiet) refl

  -- one operation that leads to the next one of the block
  next : (i : ℕ) (op : Op) (regs regs' : Regs) (memory memory' : Memory) (output : List ℕ) → slice_get (sample_block k) i ≡ Some op → takes (Some op) ≡ false
      → nat_lt (i + 1) 5 ≡ true → after (sample_program n) (place k i regs memory) (Some op) 0 ≡ onward_in (length_at (sample_program n) k) (place k i regs memory) regs' memory'
      → applied (eir_rule (sample_program n)) input (moment (place k i regs memory) output) ≡ moment (place k (i + 1) regs' memory') (output ++ bytes_of regs (Some op))
  next i op regs regs' memory memory' output here quiet room goes =
      let onward : onward_in (length_at (sample_program n) k) (place k i regs memory) regs' memory' ≡ place k (i + 1) regs' memory' =
      ap (λ l. onward_in l (place k i regs memory) regs' memory') (length_at_block n k below)
      ∙ ap (λ b. cond b (place k (i + 1) regs' memory') (place (k + 1) 0 regs' memory')) room in
      step i op regs memory output here quiet ∙ ap (λ c. moment c (output ++ bytes_of regs (Some op))) (goes ∙ onward)

  added : Regs → Regs
  added r = with_reg r A (sum_word (reg_of r A) (value_of r (constant ((7 * k + 3) % 251))))

  stored : Regs → Memory → Memory
  stored r m = with_word m (value_of r (constant k)) (reg_of r A)

  loaded : Regs → Memory → Regs
  loaded r m = with_reg r B (word_at m (value_of r (constant k)))

  -- the byte that the block writes
  written : Regs → Memory → List ℕ
  written r m = reg_of (loaded (added r) (stored (added r) m)) B % 2 ^ 8 ∷ []

  written_one : (r : Regs) (m : Memory) → length (written r m) ≡ 1
  unfolding written
  written_one r m = refl

  length_more : (xs ys : List ℕ) → length ys ≡ 1 → length (xs ++ [] ++ [] ++ [] ++ ys ++ []) ≡ length xs + 1
  length_more xs ys one = simp length-append (omega arith)

  -- the operations up to the jump
  up_to_jump : (regs : Regs) (memory : Memory) (output : List ℕ)
      → run_from (eir_rule (sample_program n)) input (moment (place k 0 regs memory) output) 4
      ≡ moment (place k 4 (loaded (added regs) (stored (added regs) memory)) (stored (added regs) memory)) (output ++ [] ++ [] ++ [] ++ written regs memory)
  unfolding added stored loaded written
  up_to_jump regs memory output =
      let one : Moment Config → Moment Config = λ m. applied (eir_rule (sample_program n)) input m in
      let regs1 = added regs in
      let memory2 = stored regs1 memory in
      let regs3 = loaded regs1 memory2 in
      let e1 = next 0 (Add A (constant ((7 * k + 3) % 251))) regs regs1 memory memory output refl refl refl refl in
      let e2 = next 1 (Store A (constant k)) regs1 regs1 memory memory2 (output ++ []) refl refl refl refl in
      let e3 = next 2 (Load B (constant k)) regs1 regs3 memory2 memory2 (output ++ [] ++ []) refl refl refl refl in
      let e4 = next 3 (Putc (register B)) regs3 regs3 memory2 memory2 (output ++ [] ++ [] ++ []) refl refl refl refl in
      ap one (ap one (ap one e1 ∙ e2) ∙ e3) ∙ e4

  -- a whole block
  block_more : (m : Moment Config) → AtBlock k m → AtBlock (k + 1) (run_from (eir_rule (sample_program n)) input m 5)
  block_more m h =
      let one : Moment Config → Moment Config = λ m. applied (eir_rule (sample_program n)) input m in
      let memory2 = stored (added h.regs) h.memory in
      let regs3 = loaded (added h.regs) memory2 in
      let output4 : List ℕ = h.output ++ [] ++ [] ++ [] ++ written h.regs h.memory in
      let front : run_from (eir_rule (sample_program n)) input m 4 ≡ moment (place k 4 regs3 memory2) output4 =
      ap (λ x. run_from (eir_rule (sample_program n)) input x 4) h.here ∙ up_to_jump h.regs h.memory h.output in
      let jump : one (moment (place k 4 regs3 memory2) output4) ≡ moment (place ((k + 1) % 2 ^ 24) 0 regs3 memory2) (output4 ++ []) =
      step 4 (Jump (constant (k + 1))) regs3 memory2 output4 refl refl in
      record {
        regs = regs3;
        memory = memory2;
        output = output4 ++ [];
        here = ap one front ∙ (jump ∙ ap (λ (b : ℕ). moment (place b 0 regs3 memory2) (output4 ++ [])) (mod-eq_of_lt small));
        count = length_more h.output (written h.regs h.memory) (written_one h.regs h.memory) ∙ ap (λ (j : ℕ). j + 1) h.count;
      }

  -- the last operation is one of the block
  still_in : (m : Moment Config) → AtBlock k m → (run_from (eir_rule (sample_program n)) input m 4).config.block ≡ k
  still_in m h =
      ap (λ (x : Moment Config). (run_from (eir_rule (sample_program n)) input x 4).config.block) h.here
      ∙ ap (λ (x : Moment Config). x.config.block) (up_to_jump h.regs h.memory h.output)

-- after five steps for each block the next one comes
at_block : (n k : ℕ) (input : List ℕ) → n ≤ 20000 → k ≤ n → AtBlock k (run (eir_rule (sample_program n)) (eir_start (sample_program n)) input (5 * k))
at_block n zero input few le =
    record { regs = (eir_start (sample_program n)).regs; memory = (eir_start (sample_program n)).memory; output = []; here = refl; count = refl }
at_block n (suc k) input few le =
    let p = sample_program n in
    let split : 5 * suc k ≡ 5 * k + 5 = omega arith in
    let next : k + 1 ≡ suc k = omega arith in
    let whole : run (eir_rule p) (eir_start p) input (5 * suc k) ≡ run_from (eir_rule p) input (run (eir_rule p) (eir_start p) input (5 * k)) 5 =
    ap (run (eir_rule p) (eir_start p) input) split ∙ run_from-add (eir_rule p) input (at_start (eir_start p)) (5 * k) 5 in
    let more = block_more n k (omega arith) (omega arith) input (run (eir_rule p) (eir_start p) input (5 * k)) (at_block n k input few (omega arith)) in
    subst (λ (m : Moment Config). AtBlock (suc k) m) (sym whole) (subst (λ (j : ℕ). AtBlock j (run_from (eir_rule p) input (run (eir_rule p) (eir_start p) input (5 * k)) 5)) next more)

-- the last operation of a block is yet to come after five steps for each block before it and four more
going_in : (n k : ℕ) (input : List ℕ) → n ≤ 20000 → k < n → (eir_rule (sample_program n)).standing (run (eir_rule (sample_program n)) (eir_start (sample_program n)) input (5 * k + 4)).config ≡ Going
going_in n k input few below =
    let p = sample_program n in
    let whole = run_from-add (eir_rule p) input (at_start (eir_start p)) (5 * k) 4 in
    let block : (run (eir_rule p) (eir_start p) input (5 * k + 4)).config.block ≡ k =
    ap (λ (m : Moment Config). m.config.block) whole
    ∙ still_in n k below (omega arith) input (run (eir_rule p) (eir_start p) input (5 * k)) (at_block n k input few (omega arith)) in
    let within : k < length p.blocks = omega (arith, block_count n) in
    rw (block, lt-ltb k (length p.blocks) within) refl

ended_goes : Ended ≡ Going → ⊥
ended_goes e = cc

-- a sample ends after five steps for each block
pub sample_ends : (n : ℕ) (input : List ℕ) → n ≤ 20000 → EndsAfter (eir_rule (sample_program n)) (eir_start (sample_program n)) input (5 * n)
sample_ends n input few = record { ended = ended; before = before }
  where
    ended : (eir_rule (sample_program n)).standing (run (eir_rule (sample_program n)) (eir_start (sample_program n)) input (5 * n)).config ≡ Ended
    ended =
        let at = at_block n n input few (omega arith) in
        let past : length (sample_program n).blocks ≤ n = omega (arith, block_count n) in
        rw (at.here, le-ltb n (length (sample_program n).blocks) past) refl

    before : (k : ℕ) → k < 5 * n → (eir_rule (sample_program n)).standing (run (eir_rule (sample_program n)) (eir_start (sample_program n)) input k).config ≡ Going
    before k less =
        let p = sample_program n in
        let early : k ≤ 5 * (n - 1) + 4 = omega arith in
        let going = going_in n (n - 1) input few (omega arith) in
        elim (eir_stands p (run (eir_rule p) (eir_start p) input k).config) [
          | inl goes ↦ goes
          | inr over ↦
              let same = run_from-over (eir_rule p) input (at_start (eir_start p)) k (5 * (n - 1) + 4) early (λ g. ended_goes (sym over ∙ g)) in
              absurd (ended_goes (sym over ∙ (ap (λ (m : Moment Config). (eir_rule p).standing m.config) (sym same) ∙ going)))
        ]

-- it writes one byte for each block, and takes none
pub sample_writes : (n : ℕ) (input : List ℕ) → n ≤ 20000 → WritesSoMany n input
sample_writes n input few =
    let at = at_block n n input few (omega arith) in
    record { written = ap (λ (m : Moment Config). length m.output) at.here ∙ at.count; taken = ap (λ (m : Moment Config). m.taken) at.here }

-- it never takes one
pub never_takes : (n : ℕ) (input : List ℕ) (k : ℕ) → n ≤ 20000 → (run (eir_rule (sample_program n)) (eir_start (sample_program n)) input k).taken ≡ 0
never_takes n input k few =
    elim (nat_lt k (5 * n)) as (λ t. nat_lt k (5 * n) ≡ t → (run (eir_rule (sample_program n)) (eir_start (sample_program n)) input k).taken ≡ 0) [
      | true ↦ λ e.
          let less : k < 5 * n = ltb-true k (5 * n) e in
          let grows = taken_grows_to (eir_rule (sample_program n)) (eir_start (sample_program n)) input k (5 * n) (omega arith) in
          omega (arith, grows.0, (sample_writes n input few).taken)
      | false ↦ λ e.
          let late : 5 * n ≤ k = ltb-false k (5 * n) e in
          let same = run_from-over (eir_rule (sample_program n)) input (at_start (eir_start (sample_program n))) (5 * n) k late (λ g. ended_goes (sym (sample_ends n input few).ended ∙ g)) in
          ap (λ (m : Moment Config). m.taken) same ∙ (sample_writes n input few).taken
    ] refl
