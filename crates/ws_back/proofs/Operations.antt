-- Each operation is followed by its code.
use Rattle.std.proofs.Common.{◌≡◌, ℕ, suc, ◌+◌, ◌^◌, ◌<◌, ◌≤◌, Bool, true, false, not, cond, nat_lt, List, [], ◌∷◌, ◌++◌, length, drop, Option, Some, slice_get, unwrap_or, refl, sym, ap, subst, ◌∙◌, arith, add-one, append-nil, append_assoc}
use Rattle.std.specs.Prelude.{ℤ, pos, ◌-ℤ◌}
use Rattle.std.proofs.lemmas.Bool.{ltb-false}
use Rattle.mach_core.specs.Sparse.{with_value}
use Rattle.mach_core.specs.Reaches.{Reaches}
use Rattle.mach_core.specs.Rule.{Moment, input_at}
use Rattle.mach_core.proofs.Reaching.{and_then, one_step, looser}
use Rattle.word24.specs.Word.{sum_word, difference_word}
use Rattle.eir_core.specs.declared.ops.Reg.{Reg}
use Rattle.eir_core.specs.declared.ops.Operand.{Operand}
use Rattle.eir_core.specs.declared.ops.Operand.TheVariants.{Reg as register, Imm}
use Rattle.eir_core.specs.declared.ops.Cond.{Cond}
use Rattle.eir_core.specs.declared.ops.Op.{Op}
use Rattle.eir_core.specs.declared.ops.Op.TheVariants.{Mov, Add, Sub, Load, Store, Putc, Getc, Exit, Set, Jump, JumpIf}
use Rattle.eir_core.specs.Eir.{Eir}
use Rattle.eir_core.specs.Memory.{Memory, word_at, with_word}
use Rattle.eir_core.specs.Step.{Config, Regs, reg_of, with_reg, value_of, holds, length_at, onward, going_to, after, takes, bytes_of}
use Rattle.eir_core.specs.Words.{IsWords}
use Rattle.ws_lang.specs.Instruction.{Instruction}
use Rattle.ws_lang.specs.Instruction as ws
use Rattle.mach_core.specs.Integer.{is_zero}
use Rattle.ws_lang.specs.Step.{Heap, place_of, ws_rule}
use Rattle.ws_back.specs.Code.{address, end_label, value_code, flag_code, negated, target_code, target_label, op_code, ops_code, blocks_code, end_code}
use Rattle.ws_back.specs.Related.{Holds, rest_of}
use Rattle.mach_core.proofs.Lists.{after_head, skipped}
use Rattle.std.proofs.lemmas.List.{drop_all}
use Rattle.ws_back.proofs.Straight.{at, one_instruction, Silent, seq, push, store, retrieve, add, difference, modulo, remainder_of_sum, remainder_of_difference}
use Rattle.ws_back.proofs.Heaps.{holds-word, holds-register}
use Rattle.ws_back.proofs.Values.{word_of_operand, holds-negated, value, flag}
use Rattle.ws_back.proofs.Places.{Layout}
use Rattle.ws_back.proofs.Lengths.{landing, most_of, Within, value-within, flag-within, op-within}
use Rattle.ws_back.proofs.Jumps.{with_wanted, holds-target, arrival, run_straight, jumps, jumps_if, targets, rest_ended, lands}

-- the operations of a block
abbrev pub block_at : Eir → ℕ → List Op
block_at p b = unwrap_or (slice_get p.blocks b) []

-- the code behind an operation
abbrev pub later : Eir → ℕ → ℕ → List Instruction
later p b i = ops_code (length p.blocks) (drop (suc i) (block_at p b)) ++ (blocks_code (length p.blocks) (suc b) (drop (suc b) p.blocks) ++ end_code)

-- the most instructions that store the number of a wanted block
abbrev target_most : Operand → ℕ
target_most (register x) = 4
target_most (Imm n) = 0

target_few : (v : Operand) → length (target_code v) ≤ target_most v
target_few (register x) = omega arith
target_few (Imm n) = omega arith

-- what an operation makes of a moment
abbrev pub source_by : Eir → List ℕ → Moment Config → Option Op → Moment Config
source_by p input s o = record {
  config = after p s.config o (cond (takes o) (input_at input s.taken) 0);
  taken = cond (takes o) (s.taken + 1) s.taken;
  output = s.output ++ bytes_of s.config.regs o;
}

-- on to the next operation of the program
record Onward (p : Eir) (code : List Instruction) (c : Config) (r : Regs) (m : Memory) : Type 0 where
  regs : (onward p c r m).regs ≡ r
  memory : (onward p c r m).memory ≡ m
  ahead : (k : ℕ) → drop k code ≡ later p c.block c.index → drop k code ≡ rest_of p (onward p c r m).block (onward p c r m).index

goes_onward : (p : Eir) (code : List Instruction) (c : Config) (r : Regs) (m : Memory) → Onward p code c r m
goes_onward p code c r m =
    let here : Config = record { block = c.block; index = c.index + 1; regs = r; memory = m } in
    let there : Config = record { block = c.block + 1; index = 0; regs = r; memory = m } in
    let t = nat_lt (c.index + 1) (length_at p c.block) in
    let Ahead : Config → ℕ → Type 0 = λ d k. drop k code ≡ rest_of p d.block d.index in
    record {
      regs = elim t as (λ b. (cond b here there).regs ≡ r) [ true ↦ refl | false ↦ refl ];
      memory = elim t as (λ b. (cond b here there).memory ≡ m) [ true ↦ refl | false ↦ refl ];
      ahead = λ k e. elim t as (λ b. nat_lt (c.index + 1) (length_at p c.block) ≡ b → Ahead (cond b here there) k) [
        | true ↦ λ is. e ∙ ap (rest_of p c.block) (sym (add-one c.index))
        | false ↦ λ is.
            let past : length_at p c.block ≤ c.index + 1 = ltb-false _ _ is in
            e
            ∙ (ap (λ ops. ops_code (length p.blocks) ops ++ (blocks_code (length p.blocks) (suc c.block) (drop (suc c.block) p.blocks) ++ end_code)) (drop_all (suc c.index) (block_at p c.block) (omega arith))
            ∙ ap (λ b. rest_of p b 0) (sym (add-one c.block)))
      ] refl;
    }

module _ (p : Eir) (code : List Instruction) (layout : Layout p code) (input : List ℕ) where
  abbrev count : ℕ
  count = length p.blocks

  -- the target comes from the code of an operation to where the program is then
  pub record Does (s : Moment Config) (h : Heap) (k most : ℕ) (s' : Moment Config) : Type 0 where
    pub heap : Heap
    pub place : ℕ
    pub reached : Reaches (ws_rule code) input (at h s.taken s.output k []) (at heap s'.taken s'.output place []) 1 most
    pub held : Holds heap s'.config.regs s'.config.memory
    pub ahead : drop place code ≡ rest_of p s'.config.block s'.config.index

  -- it stands behind the operation
  goes_on : (s : Moment Config) (h : Heap) (k most : ℕ) (h' : Heap) (t : ℕ) (o : List ℕ) (j : ℕ) (r : Regs) (m : Memory) → Reaches (ws_rule code) input (at h s.taken s.output k []) (at h' t o j []) 1 most
      → Holds h' r m → drop j code ≡ later p s.config.block s.config.index → Does s h k most (record { config = onward p s.config r m; taken = t; output = o })
  goes_on s h k most h' t o j r m reached held e =
      let on = goes_onward p code s.config r m in
      record {
        heap = h';
        place = j;
        reached = reached;
        held = subst (λ x. Holds h' x (onward p s.config r m).memory) (sym on.regs) (subst (λ x. Holds h' r x) (sym on.memory) held);
        ahead = on.ahead j e;
      }

  -- the same with an output that nothing was added to
  quietly : (s : Moment Config) (h : Heap) (k most : ℕ) (c : Config) → Does s h k most (record { config = c; taken = s.taken; output = s.output }) → Does s h k most (record { config = c; taken = s.taken; output = s.output ++ [] })
  quietly s h k most c d = subst (λ o. Does s h k most (record { config = c; taken = s.taken; output = o })) (sym (append-nil s.output)) d

  -- straight code
  plain : (s : Moment Config) (h : Heap) (k : ℕ) (is : List Instruction) (h' : Heap) (r : Regs) (m : Memory) → Silent code input is h [] h' [] → Within is 21 → Holds h' r m → drop k code ≡ is ++ later p s.config.block s.config.index
      → Does s h k 21 (record { config = onward p s.config r m; taken = s.taken; output = s.output ++ [] })
  plain s h k is h' r m run few held e =
      let rest = later p s.config.block s.config.index in
      let reached = run_straight code input 21 s.taken s.output k rest run few e in
      quietly s h k 21 (onward p s.config r m) (goes_on s h k 21 h' s.taken s.output (k + length is) r m reached held (skipped code k is rest e))

  module _ (s : Moment Config) (h : Heap) (k : ℕ) (held : Holds h s.config.regs s.config.memory) (words : IsWords s.config) where
    abbrev c : Config
    c = s.config

    abbrev rest : List Instruction
    rest = later p s.config.block s.config.index

    small : (v : Operand) → value_of s.config.regs v < 2 ^ 24
    small v = word_of_operand s.config.regs v words.regs

    -- the word of an operand on the stack
    pushes : (v : Operand) (st : List ℤ) → Silent code input (value_code v) h st h (pos (value_of s.config.regs v) ∷ st)
    pushes v st = value code input h s.config.regs s.config.memory held v st

    -- a word for a register
    assigns : (r : Reg) (w : ℕ) (is : List Instruction) → Silent code input is h [] (with_value is_zero h (address r) (pos w)) [] → Within is 21 → drop k code ≡ is ++ rest
        → Does s h k 21 (record { config = onward p s.config (with_reg s.config.regs r w) s.config.memory; taken = s.taken; output = s.output ++ [] })
    assigns r w is run few e = plain s h k is (with_value is_zero h (address r) (pos w)) (with_reg s.config.regs r w) s.config.memory run few (holds-register h s.config.regs s.config.memory r w held) e

    does_mov : (r : Reg) (v : Operand) → drop k code ≡ op_code count (Mov r v) ++ rest → Does s h k 21 (source_by p input s (Some (Mov r v)))
    does_mov r v e =
        let x = value_of s.config.regs v in
        let run = seq (push code input (address r) h []) (seq (pushes v (address r ∷ [])) (store code input h (address r) (pos x) [])) in
        assigns r x (op_code count (Mov r v)) run (op-within count (Mov r v)) e

    does_add : (r : Reg) (v : Operand) → drop k code ≡ op_code count (Add r v) ++ rest → Does s h k 21 (source_by p input s (Some (Add r v)))
    does_add r v e =
        let x = reg_of s.config.regs r in
        let y = value_of s.config.regs v in
        let a = small (register r) in
        let b = small v in
        let w = sum_word x y in
        let st : List ℤ = address r ∷ [] in
        let reduces = seq (push code input (pos (2 ^ 24)) h (pos (x + y) ∷ st)) (seq (modulo code input h (pos (x + y)) w st (remainder_of_sum x y) (omega arith)) (store code input h (address r) (pos w) [])) in
        let run = seq (push code input (address r) h []) (seq (pushes (register r) st) (seq (pushes v (pos x ∷ st)) (seq (add code input h x y st (omega arith)) reduces))) in
        assigns r w (op_code count (Add r v)) run (op-within count (Add r v)) e

    does_sub : (r : Reg) (v : Operand) → drop k code ≡ op_code count (Sub r v) ++ rest → Does s h k 21 (source_by p input s (Some (Sub r v)))
    does_sub r v e =
        let x = reg_of s.config.regs r in
        let y = value_of s.config.regs v in
        let a = small (register r) in
        let b = small v in
        let w = difference_word x y in
        let st : List ℤ = address r ∷ [] in
        let reduces = seq (push code input (pos (2 ^ 24)) h ((pos x -ℤ pos y) ∷ st)) (seq (modulo code input h (pos x -ℤ pos y) w st (remainder_of_difference x y a b) (omega arith)) (store code input h (address r) (pos w) [])) in
        let run = seq (push code input (address r) h []) (seq (pushes (register r) st) (seq (pushes v (pos x ∷ st)) (seq (difference code input h x y st (omega arith) (omega arith)) reduces))) in
        assigns r w (op_code count (Sub r v)) run (op-within count (Sub r v)) e

    does_load : (r : Reg) (v : Operand) → drop k code ≡ op_code count (Load r v) ++ rest → Does s h k 21 (source_by p input s (Some (Load r v)))
    does_load r v e =
        let a = value_of s.config.regs v in
        let w = word_at s.config.memory a in
        let st : List ℤ = address r ∷ [] in
        let run = seq (push code input (address r) h []) (seq (pushes v st) (seq (retrieve code input h (pos a) (pos w) st (held.words a)) (store code input h (address r) (pos w) []))) in
        assigns r w (op_code count (Load r v)) run (op-within count (Load r v)) e

    does_store : (r : Reg) (v : Operand) → drop k code ≡ op_code count (Store r v) ++ rest → Does s h k 21 (source_by p input s (Some (Store r v)))
    does_store r v e =
        let a = value_of s.config.regs v in
        let w = reg_of s.config.regs r in
        let run = seq (pushes v []) (seq (pushes (register r) (pos a ∷ [])) (store code input h (pos a) (pos w) [])) in
        plain s h k (op_code count (Store r v)) (with_value is_zero h (pos a) (pos w)) s.config.regs (with_word s.config.memory a w) run (op-within count (Store r v)) (holds-word h s.config.regs s.config.memory a w held) e

    does_set : (t : Cond) (r : Reg) (v : Operand) → drop k code ≡ op_code count (Set t r v) ++ rest → Does s h k 21 (source_by p input s (Some (Set t r v)))
    does_set t r v e =
        let w = cond (holds t (reg_of s.config.regs r) (value_of s.config.regs v)) 1 0 in
        let tests = flag code input h s.config.regs s.config.memory held t (register r) v (address r ∷ []) (small (register r)) (small v) in
        let run = seq (push code input (address r) h []) (seq tests (store code input h (address r) (pos w) [])) in
        assigns r w (op_code count (Set t r v)) run (op-within count (Set t r v)) e

    does_putc : (v : Operand) → drop k code ≡ op_code count (Putc v) ++ rest → Does s h k 21 (source_by p input s (Some (Putc v)))
    does_putc v e =
        let x = value_of s.config.regs v in
        let j = k + length (value_code v) in
        let e' : drop k code ≡ value_code v ++ (ws.WriteCharacter ∷ rest) = e ∙ append_assoc (value_code v) (ws.WriteCharacter ∷ []) rest in
        let there : drop j code ≡ ws.WriteCharacter ∷ rest = skipped code k (value_code v) (ws.WriteCharacter ∷ rest) e' in
        let behind : drop (j + 1) code ≡ rest = ap (λ i. drop i code) (add-one j) ∙ after_head code j ws.WriteCharacter rest there in
        let first = run_straight code input 2 s.taken s.output k (ws.WriteCharacter ∷ rest) (pushes v []) (value-within v) e' in
        let out : List ℕ = s.output ++ bytes_of s.config.regs (Some (Putc v)) in
        let second = one_step (ws_rule code) input (at h s.taken s.output j (pos x ∷ [])) (at h s.taken out (j + 1) []) (one_instruction code input h s.taken s.output j (pos x ∷ []) ws.WriteCharacter rest there) in
        goes_on s h k 21 h s.taken out (j + 1) s.config.regs s.config.memory (and_then 1 21 first second (omega arith) (omega arith)) held behind

    does_getc : (r : Reg) → drop k code ≡ op_code count (Getc r) ++ rest → Does s h k 21 (source_by p input s (Some (Getc r)))
    does_getc r e =
        let byte = input_at input s.taken in
        let h' = with_value is_zero h (address r) (pos byte) in
        let first = run_straight code input 1 s.taken s.output k (ws.ReadCharacter ∷ rest) (push code input (address r) h []) (record { some = omega arith; few = omega arith }) e in
        let there : drop (k + 1) code ≡ ws.ReadCharacter ∷ rest = skipped code k (ws.Push (address r) ∷ []) (ws.ReadCharacter ∷ rest) e in
        let behind : drop (k + 1 + 1) code ≡ rest = ap (λ i. drop i code) (add-one (k + 1)) ∙ after_head code (k + 1) ws.ReadCharacter rest there in
        let second = one_step (ws_rule code) input (at h s.taken s.output (k + 1) (address r ∷ [])) (at h' (s.taken + 1) (s.output ++ []) (k + 1 + 1) []) (one_instruction code input h s.taken s.output (k + 1) (address r ∷ []) ws.ReadCharacter rest there) in
        goes_on s h k 21 h' (s.taken + 1) (s.output ++ []) (k + 1 + 1) (with_reg s.config.regs r byte) s.config.memory (and_then 1 21 first second (omega arith) (omega arith)) (holds-register h s.config.regs s.config.memory r byte held) behind

    -- to the front of a block
    goes_to : (h' : Heap) (n most j : ℕ) → Reaches (ws_rule code) input (at h s.taken s.output k []) (at h' s.taken s.output j []) 1 most → Holds h' s.config.regs s.config.memory → drop j code ≡ rest_of p n 0
        → Does s h k most (record { config = going_to s.config n; taken = s.taken; output = s.output ++ [] })
    goes_to h' n most j reached held' e = quietly s h k most (going_to s.config n) (record { heap = h'; place = j; reached = reached; held = held'; ahead = e })

    does_exit : drop k code ≡ op_code count Exit ++ rest → Does s h k 21 (source_by p input s (Some Exit))
    does_exit e =
        let j = place_of end_label code in
        goes_to h count 21 j (looser 1 21 (jumps code input h s.taken s.output k [] end_label rest e) (omega arith) (omega arith)) held (layout.to_end ∙ sym (rest_ended p code layout input count (omega arith)))

    -- the stored number of the wanted block, and then the jump
    does_jump : (v : Operand) → drop k code ≡ op_code count (Jump v) ++ rest → Does s h k (most_of count (Jump v)) (source_by p input s (Some (Jump v)))
    does_jump v e =
        let l = target_label count v in
        let e' : drop k code ≡ target_code v ++ (ws.Jump l ∷ rest) = e ∙ append_assoc (target_code v) (ws.Jump l ∷ []) rest in
        let j = k + length (target_code v) in
        let there : drop j code ≡ ws.Jump l ∷ rest = skipped code k (target_code v) (ws.Jump l ∷ rest) e' in
        let h' = with_wanted h s.config.regs v in
        let first : Reaches (ws_rule code) input (at h s.taken s.output k []) (at h' s.taken s.output j []) 0 4 = record {
          count = length (target_code v);
          enough = omega arith;
          few = omega (arith, target_few v, target_four v);
          ends = (targets code input h s.config.regs s.config.memory held v []).runs k s.taken s.output (ws.Jump l ∷ rest) e';
        } in
        let go = lands p code layout input h s.taken s.output s.config.regs v (small v) in
        let second = and_then 1 5 first (jumps code input h' s.taken s.output j [] l rest there) (omega arith) (omega arith) in
        goes_to h' (value_of s.config.regs v) (most_of count (Jump v)) go.place (and_then 1 (most_of count (Jump v)) second go.reached (omega arith) (arrives v)) (holds-target h s.config.regs s.config.memory v held) go.ahead
      where
        target_four : (v : Operand) → target_most v ≤ 4
        target_four (register r) = omega arith
        target_four (Imm w) = omega arith

        arrives : (v : Operand) → 5 + arrival count v ≤ 21 + landing count v
        arrives (register r) = omega arith
        arrives (Imm w) = omega arith

    -- the stored number of the wanted block, then the comparison, and then the jump or what follows
    does_jump_if : (t : Cond) (v : Operand) (r : Reg) (w : Operand) → drop k code ≡ op_code count (JumpIf t v r w) ++ rest → Does s h k (most_of count (JumpIf t v r w)) (source_by p input s (Some (JumpIf t v r w)))
    does_jump_if t v r w e =
        let regs = s.config.regs in
        let test : Bool = holds t (reg_of regs r) (value_of regs w) in
        let l = target_label count v in
        let flags = flag_code (negated t) (register r) w in
        let jump : List Instruction = ws.JumpIfZero l ∷ rest in
        let e' : drop k code ≡ target_code v ++ (flags ++ jump) = e ∙ (append_assoc (target_code v) (flags ++ ws.JumpIfZero l ∷ []) rest ∙ ap (λ (is : List Instruction). target_code v ++ is) (append_assoc flags (ws.JumpIfZero l ∷ []) rest)) in
        let i = k + length (target_code v) in
        let there : drop i code ≡ flags ++ jump = skipped code k (target_code v) (flags ++ jump) e' in
        let j = i + length flags in
        let there' : drop j code ≡ jump = skipped code i flags jump there in
        let behind : drop (j + 1) code ≡ rest = ap (λ n. drop n code) (add-one j) ∙ after_head code j (ws.JumpIfZero l) rest there' in
        let h' = with_wanted h regs v in
        let held' = holds-target h regs s.config.memory v held in
        let first : Reaches (ws_rule code) input (at h s.taken s.output k []) (at h' s.taken s.output i []) 0 (target_most v) = record {
          count = length (target_code v);
          enough = omega arith;
          few = target_few v;
          ends = (targets code input h regs s.config.memory held v []).runs k s.taken s.output (flags ++ jump) e';
        } in
        let bit : ℕ = cond (holds (negated t) (reg_of regs r) (value_of regs w)) 1 0 in
        let tests = flag code input h' regs s.config.memory held' (negated t) (register r) w [] (small (register r)) (small w) in
        let second = run_straight code input 19 s.taken s.output i jump tests (flag-within (negated t) (register r) w) there in
        let both = and_then 1 (target_most v + 19) first second (omega arith) (omega arith) in
        let zero : is_zero (pos bit) ≡ test = ap (λ b. is_zero (pos (cond b 1 0))) (holds-negated t (reg_of regs r) (value_of regs w)) ∙ zero_bit test in
        elim test as (λ b. test ≡ b → Does s h k (most_of count (JumpIf t v r w)) (record { config = cond b (going_to s.config (value_of regs v)) (onward p s.config regs s.config.memory); taken = s.taken; output = s.output ++ [] })) [
          | true ↦ λ y.
              let third = jumps_if code input h' s.taken s.output j (pos bit) [] l rest true (zero ∙ y) there' in
              let go = lands p code layout input h s.taken s.output regs v (small v) in
              let all = and_then 1 (target_most v + 20) both third (omega arith) (omega arith) in
              goes_to h' (value_of regs v) (most_of count (JumpIf t v r w)) go.place (and_then 1 (most_of count (JumpIf t v r w)) all go.reached (omega arith) (arrives v)) held' go.ahead
          | false ↦ λ y.
              let third = jumps_if code input h' s.taken s.output j (pos bit) [] l rest false (zero ∙ y) there' in
              let all = and_then 1 (most_of count (JumpIf t v r w)) both third (omega arith) (goes v) in
              quietly s h k (most_of count (JumpIf t v r w)) (onward p s.config regs s.config.memory) (goes_on s h k (most_of count (JumpIf t v r w)) h' s.taken s.output (j + 1) regs s.config.memory all held' behind)
        ] refl
      where
        zero_bit : (b : Bool) → is_zero (pos (cond (not b) 1 0)) ≡ b
        zero_bit true = refl
        zero_bit false = refl

        arrives : (v : Operand) → target_most v + 20 + arrival count v ≤ 21 + landing count v
        arrives (register x) = omega arith
        arrives (Imm n) = omega arith

        goes : (v : Operand) → target_most v + 19 + 1 ≤ 21 + landing count v
        goes (register x) = omega arith
        goes (Imm n) = omega arith

    pub does_op : (op : Op) → drop k code ≡ op_code count op ++ rest → Does s h k (most_of count op) (source_by p input s (Some op))
    does_op (Mov r v) e = does_mov r v e
    does_op (Add r v) e = does_add r v e
    does_op (Sub r v) e = does_sub r v e
    does_op (Load r v) e = does_load r v e
    does_op (Store r v) e = does_store r v e
    does_op (Putc v) e = does_putc v e
    does_op (Getc r) e = does_getc r e
    does_op Exit e = does_exit e
    does_op (Set t r v) e = does_set t r v e
    does_op (Jump v) e = does_jump v e
    does_op (JumpIf t v r w) e = does_jump_if t v r w e
