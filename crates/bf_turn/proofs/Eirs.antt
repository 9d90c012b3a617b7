-- Where a program goes on, in the numbers of its operations.
use Rattle.std.proofs.Common.{◌≡◌, ℕ, zero, suc, ◌+◌, ◌<◌, ◌≤◌, true, false, nat_lt, cond, List, [], ◌∷◌, ◌++◌, length, take, slice_get, slice_index, sum_by, unwrap_or, Some, None, refl, sym, ap, ◌∙◌, arith}
use Rattle.std.proofs.lemmas.Bool.{ltb-true, ltb-false, lt-ltb, le-ltb}
use Rattle.std.proofs.lemmas.Option.{option_and_then_some, slice_get_within}
use Rattle.std.proofs.lemmas.List.Sums.{sum_by-cons, sum_by-take-le}
use Rattle.std.proofs.lemmas.List.Concat.{flat_map-cons}
use Rattle.word24.specs.Word.{number_of}
use Rattle.eir_core.specs.declared.ops.Operand.{Operand}
use Rattle.eir_core.specs.declared.ops.Operand.TheVariants.{Reg as register, Imm}
use Rattle.eir_core.specs.declared.ops.Op.{Op}
use Rattle.eir_core.specs.declared.ops.Op.TheVariants.{Mov, Add, Sub, Load, Store, Putc, Getc, Set, Exit, Jump, JumpIf}
use Rattle.eir_core.specs.Eir.{Eir, IsEir}
use Rattle.eir_core.specs.Memory.{Memory}
use Rattle.eir_core.specs.Step.{Regs, Config, reg_of, value_of, holds, op_in, op_at, length_at, onward, going_to, after}
use Rattle.eir_core.proofs.Placed.{length_at_filled}
use Rattle.bf_ops.specs.Perform.{regs_after, memory_after}
use Rattle.bf_jump.specs.declared.goal.Goal.{Goal}
use Rattle.bf_jump.specs.declared.goal.Goal.TheVariants.{Operation, Block}
use Rattle.bf_turn.specs.Number.{op_count, number_at, first_numbers, following}
use Rattle.bf_turn.specs.Goal.{goal_of, goal_after}
use Rattle.bf_turn.proofs.Listed.{first_at, first_past, sum_more, all_ops}

-- an operation at a place
pub record Found (p : Eir) (block index : ℕ) (op : Op) : Type 0 where
  pub ops : List Op
  pub there : slice_get p.blocks block ≡ Some ops
  pub here : slice_get ops index ≡ Some op

pub found : (p : Eir) (block index : ℕ) (op : Op) → op_in p block index ≡ Some op → Found p block index op
found p block index op e = option_and_then_some (λ ops. slice_get ops index) (slice_get p.blocks block) op e (λ ops at here. record { ops = ops; there = at; here = here })

pub number_is : (p : Eir) (block index : ℕ) → block < length p.blocks → number_at p block index ≡ sum_by length (take block p.blocks) + index + 1
number_is p block index within = ap (λ t. cond t (sum_by length (take block p.blocks) + index + 1) 0) (lt-ltb block (length p.blocks) within)

pub number_past : (p : Eir) (block index : ℕ) → length p.blocks ≤ block → number_at p block index ≡ 0
number_past p block index past = ap (λ t. cond t (sum_by length (take block p.blocks) + index + 1) 0) (le-ltb block (length p.blocks) past)

-- a jump to a block
pub jumps_to : (p : Eir) (k : ℕ) → number_at p k 0 ≡ slice_index (first_numbers 1 p.blocks) k
jumps_to p k =
    elim (nat_lt k (length p.blocks)) as (λ t. nat_lt k (length p.blocks) ≡ t → number_at p k 0 ≡ slice_index (first_numbers 1 p.blocks) k) [
      | true ↦ λ e. let within : k < length p.blocks = ltb-true k (length p.blocks) e in number_is p k 0 within ∙ (omega arith ∙ sym (first_at 1 p.blocks k within))
      | false ↦ λ e. let past : length p.blocks ≤ k = ltb-false k (length p.blocks) e in number_past p k 0 past ∙ sym (first_past 1 p.blocks k past)
    ] refl

-- the next operation, or the end
length_is : (p : Eir) (block : ℕ) (ops : List Op) → slice_get p.blocks block ≡ Some ops → length_at p block ≡ length ops
length_is p block ops e = ap (λ o. length (unwrap_or o [])) e

-- behind the last operation of a block
next_block : (p : Eir) (block index : ℕ) (ops : List Op) → IsEir p → slice_get p.blocks block ≡ Some ops → index + 1 ≡ length ops → number_at p (block + 1) 0 ≡ following (op_count p) (number_at p block index)
next_block p block index ops is at last =
    let within : block < length p.blocks = slice_get_within p.blocks block ops at in
    let s : ℕ = sum_by length (take block p.blocks) in
    let here : number_at p block index ≡ s + length ops = number_is p block index within ∙ omega (arith, last) in
    let more : sum_by length (take (block + 1) p.blocks) ≡ s + length ops = sum_more p.blocks block ops at in
    elim (nat_lt (block + 1) (length p.blocks)) as (λ t. nat_lt (block + 1) (length p.blocks) ≡ t → number_at p (block + 1) 0 ≡ following (op_count p) (number_at p block index)) [
      | true ↦ λ e.
          let inside : block + 1 < length p.blocks = ltb-true (block + 1) (length p.blocks) e in
          let filled : 0 < length_at p (block + 1) = length_at_filled p (block + 1) is inside in
          let next = some_at p.blocks (block + 1) inside in
          let room : s + length ops < op_count p = omega (arith, more, filled, length_is p (block + 1) next.0 next.1, sum_more p.blocks (block + 1) next.0 next.1, sum_by-take-le length p.blocks (block + 1 + 1)) in
          number_is p (block + 1) 0 inside
          ∙ (omega (arith, more) ∙ (sym (ap (λ t. cond t (s + length ops + 1) 0) (lt-ltb (s + length ops) (op_count p) room)) ∙ ap (following (op_count p)) (sym here)))
      | false ↦ λ e.
          let past : length p.blocks ≤ block + 1 = ltb-false (block + 1) (length p.blocks) e in
          let all : op_count p ≤ s + length ops = omega (arith, more, sum_all p.blocks (block + 1) past) in
          number_past p (block + 1) 0 past ∙ (sym (ap (λ t. cond t (s + length ops + 1) 0) (le-ltb (s + length ops) (op_count p) all)) ∙ ap (following (op_count p)) (sym here))
    ] refl
  where
    some_at : {A : Type 0} (xs : List A) (i : ℕ) → i < length xs → (x : A) × (slice_get xs i ≡ Some x)
    some_at [] i h = absurd (omega arith)
    some_at (x ∷ xs) zero h = (x, refl)
    some_at (x ∷ xs) (suc i) h = some_at xs i (omega arith)

    taken : {A : Type 0} (i : ℕ) (xs : List A) → length xs ≤ i → take i xs ≡ xs
    taken zero [] le = refl
    taken zero (x ∷ xs) le = absurd (omega arith)
    taken (suc i) [] le = refl
    taken (suc i) (x ∷ xs) le = ap (λ ys. x ∷ ys) (taken i xs (omega arith))

    sum_all : (blocks : List (List Op)) (k : ℕ) → length blocks ≤ k → sum_by length (take k blocks) ≡ sum_by length blocks
    sum_all blocks k past = ap (sum_by length) (taken k blocks past)

-- an operation behind another in its block
next_inside : (p : Eir) (block index : ℕ) (ops : List Op) → slice_get p.blocks block ≡ Some ops → index + 1 < length ops → number_at p block (index + 1) ≡ following (op_count p) (number_at p block index)
next_inside p block index ops at early =
    let within : block < length p.blocks = slice_get_within p.blocks block ops at in
    let s : ℕ = sum_by length (take block p.blocks) in
    let here : number_at p block index ≡ s + index + 1 = number_is p block index within in
    let room : s + index + 1 < op_count p = omega (arith, sum_more p.blocks block ops at, sum_by-take-le length p.blocks (block + 1)) in
    number_is p block (index + 1) within ∙ (omega arith ∙ (sym (ap (λ t. cond t (s + index + 1 + 1) 0) (lt-ltb (s + index + 1) (op_count p) room)) ∙ ap (following (op_count p)) (sym here)))

-- a configuration with these registers, this memory and this number
pub record IsNext (p : Eir) (c : Config) (r : Regs) (m : Memory) (n : ℕ) : Type 0 where
  pub regs : c.regs ≡ r
  pub memory : c.memory ≡ m
  pub number : number_at p c.block c.index ≡ n

onward_is : (p : Eir) (c : Config) (op : Op) (r : Regs) (m : Memory) → IsEir p → op_at p c ≡ Some op → IsNext p (onward p c r m) r m (following (op_count p) (number_at p c.block c.index))
onward_is p c op r m is e =
    let f = found p c.block c.index op e in
    let long : length_at p c.block ≡ length f.ops = length_is p c.block f.ops f.there in
    let inside : c.index < length f.ops = slice_get_within f.ops c.index op f.here in
    elim (nat_lt (c.index + 1) (length_at p c.block)) as (λ t. nat_lt (c.index + 1) (length_at p c.block) ≡ t
    → IsNext p (cond t (record { block = c.block; index = c.index + 1; regs = r; memory = m }) (record { block = c.block + 1; index = 0; regs = r; memory = m })) r m (following (op_count p) (number_at p c.block c.index))) [
      | true ↦ λ t. let early : c.index + 1 < length_at p c.block = ltb-true (c.index + 1) (length_at p c.block) t in record { regs = refl; memory = refl; number = next_inside p c.block c.index f.ops f.there (omega (arith, early, long)) }
      | false ↦ λ t. let late : length_at p c.block ≤ c.index + 1 = ltb-false (c.index + 1) (length_at p c.block) t in record { regs = refl; memory = refl; number = next_block p c.block c.index f.ops is f.there (omega (arith, late, long, inside)) }
    ] refl

-- the number of a goal, by the registers
abbrev pub number_in : List ℕ → Regs → Goal → ℕ
number_in numbers r (Operation n) = n
number_in numbers r (Block x) = slice_index numbers (reg_of r x)

going_is : (p : Eir) (c : Config) (v : Operand) → IsNext p (going_to c (value_of c.regs v)) c.regs c.memory (number_in (first_numbers 1 p.blocks) c.regs (goal_of (first_numbers 1 p.blocks) v))
going_is p c (register x) = record { regs = refl; memory = refl; number = jumps_to p (reg_of c.regs x) }
going_is p c (Imm w) = record { regs = refl; memory = refl; number = jumps_to p (number_of w) }

-- what an operation makes of a configuration
pub goes_next : (p : Eir) (c : Config) (op : Op) (byte : ℕ) → IsEir p → op_at p c ≡ Some op → let next = following (op_count p) (number_at p c.block c.index) in let ns = first_numbers 1 p.blocks in
    IsNext p (after p c (Some op) byte) (regs_after op c.regs c.memory byte) (memory_after op c.regs c.memory) (number_in ns (regs_after op c.regs c.memory byte) (goal_after ns next c.regs op))
goes_next p c (Mov x v) byte is e = onward_is p c (Mov x v) (regs_after (Mov x v) c.regs c.memory byte) c.memory is e
goes_next p c (Add x v) byte is e = onward_is p c (Add x v) (regs_after (Add x v) c.regs c.memory byte) c.memory is e
goes_next p c (Sub x v) byte is e = onward_is p c (Sub x v) (regs_after (Sub x v) c.regs c.memory byte) c.memory is e
goes_next p c (Load x v) byte is e = onward_is p c (Load x v) (regs_after (Load x v) c.regs c.memory byte) c.memory is e
goes_next p c (Store x v) byte is e = onward_is p c (Store x v) c.regs (memory_after (Store x v) c.regs c.memory) is e
goes_next p c (Putc v) byte is e = onward_is p c (Putc v) c.regs c.memory is e
goes_next p c (Getc x) byte is e = onward_is p c (Getc x) (regs_after (Getc x) c.regs c.memory byte) c.memory is e
goes_next p c (Set test x v) byte is e = onward_is p c (Set test x v) (regs_after (Set test x v) c.regs c.memory byte) c.memory is e
goes_next p c Exit byte is e = record { regs = refl; memory = refl; number = number_past p (length p.blocks) 0 (omega arith) }
goes_next p c (Jump v) byte is e = going_is p c v
goes_next p c (JumpIf test v x w) byte is e =
    let next = following (op_count p) (number_at p c.block c.index) in
    let ns = first_numbers 1 p.blocks in
    let o = onward_is p c (JumpIf test v x w) c.regs c.memory is e in
    let g = going_is p c v in
    elim (holds test (reg_of c.regs x) (value_of c.regs w)) as (λ t. IsNext p (cond t (going_to c (value_of c.regs v)) (onward p c c.regs c.memory)) c.regs c.memory (number_in ns c.regs (cond t (goal_of ns v) (Operation next)))) [ true ↦ g | false ↦ o ]

-- the operations of all blocks in a row
pub flat_at : (blocks : List (List Op)) (block index : ℕ) (ops : List Op) (op : Op) → slice_get blocks block ≡ Some ops → slice_get ops index ≡ Some op → slice_get (all_ops blocks) (sum_by length (take block blocks) + index) ≡ Some op
flat_at [] block index ops op there here = absurd (none_some ops there)
  where
    none_some : {A : Type 0} (x : A) → None ≡ Some x → ⊥
    none_some x e = cc
flat_at (x ∷ blocks) zero index ops op there here =
    let same : x ≡ ops = some_same x ops there in
    ap (λ xs. slice_get xs (0 + index)) (flat_map-cons (λ ops. ops) x blocks) ∙ (ap (slice_get (x ++ all_ops blocks)) (omega arith) ∙ first_part x (all_ops blocks) index op (ap (λ xs. slice_get xs index) same ∙ here))
  where
    some_same : {A : Type 0} (x y : A) → Some x ≡ Some y → x ≡ y
    some_same x y e = cc

    first_part : {A : Type 0} (xs ys : List A) (i : ℕ) (a : A) → slice_get xs i ≡ Some a → slice_get (xs ++ ys) i ≡ Some a
    first_part [] ys i a e = absurd (none_some a e)
      where
        none_some : {A : Type 0} (x : A) → None ≡ Some x → ⊥
        none_some x e = cc
    first_part (x ∷ xs) ys zero a e = e
    first_part (x ∷ xs) ys (suc i) a e = first_part xs ys i a e
flat_at (x ∷ blocks) (suc block) index ops op there here =
    let s : ℕ = sum_by length (take block blocks) in
    let e : sum_by length (take (suc block) (x ∷ blocks)) ≡ length x + s = sum_by-cons length x (take block blocks) in
    let at : sum_by length (take (suc block) (x ∷ blocks)) + index ≡ length x + (s + index) = omega (arith, e) in
    ap (slice_get (all_ops (x ∷ blocks))) at ∙ (ap (λ xs. slice_get xs (length x + (s + index))) (flat_map-cons (λ ops. ops) x blocks) ∙ (second_part x (all_ops blocks) (s + index) ∙ flat_at blocks block index ops op there here))
  where
    second_part : {A : Type 0} (xs ys : List A) (i : ℕ) → slice_get (xs ++ ys) (length xs + i) ≡ slice_get ys i
    second_part [] ys i = ap (slice_get ys) (omega arith)
    second_part (x ∷ xs) ys i = let e : suc (length xs) + i ≡ suc (length xs + i) = omega arith in ap (slice_get (x ∷ (xs ++ ys))) e ∙ second_part xs ys i
