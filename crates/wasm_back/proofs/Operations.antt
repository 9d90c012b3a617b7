-- Each operation is followed by its code.
use Rattle.std.proofs.Common.{◌≡◌, ◌≢◌, ℕ, suc, ◌+◌, ◌*◌, ◌%◌, ◌^◌, ◌<◌, ◌≤◌, Bool, true, false, cond, List, [], ◌∷◌, ◌++◌, length, drop, Option, Some, refl, sym, ap, subst, ◌∙◌, arith, append-nil, append_assoc}
use Rattle.mach_core.specs.Rule.{Moment, input_at}
use Rattle.mach_core.proofs.Reaching.{and_then}
use Rattle.word24.specs.Word.{sum_word, difference_word}
use Rattle.eir_core.specs.declared.ops.Reg.{Reg}
use Rattle.eir_core.specs.declared.ops.Operand.{Operand}
use Rattle.eir_core.specs.declared.ops.Operand.TheVariants.{Reg as register, Imm}
use Rattle.eir_core.specs.declared.ops.Cond.{Cond}
use Rattle.eir_core.specs.declared.ops.Op.{Op}
use Rattle.eir_core.specs.declared.ops.Op.TheVariants.{Mov, Add, Sub, Load, Store, Putc, Getc, Exit, Set, Jump, JumpIf}
use Rattle.eir_core.specs.Acts.{ops_at}
use Rattle.eir_core.specs.Eir.{Eir}
use Rattle.eir_core.specs.Memory as eir
use Rattle.eir_core.specs.Step.{Config, Regs, reg_of, with_reg, value_of, holds, onward, going_to, after, takes, bytes_of}
use Rattle.eir_core.specs.Words.{IsWords}
use Rattle.wasm_bin.specs.declared.module.Instr.{Instr}
use Rattle.wasm_bin.specs.declared.module.Instr.TheVariants as instr
use Rattle.wasm_rule.specs.Memory.{ByteMap, with_bytes, bytes_of as word_bytes}
use Rattle.wasm_rule.specs.Number.{truth}
use Rattle.wasm_rule.specs.Config as wasm
use Rattle.wasm_rule.specs.Step.{getchar_name, putchar_name}
use Rattle.wasm_code.specs.Emitted.{register_local, value_code, flag_code, goal_code, op_code, turn_code, host_import, module_for}
use Rattle.wasm_build.specs.Straight.{Stage, ran}
use Rattle.wasm_build.specs.Lead.{Spot, spot}
use Rattle.wasm_build.proofs.Straightly.{straight}
use Rattle.wasm_build.proofs.Ways.{branches, ends, host}
use Rattle.wasm_back.specs.Laws.{going_round}
use Rattle.wasm_back.specs.Related.{stage_for, loop_label, labels_for, blocks_behind, code_from, HasWords}
use Rattle.wasm_back.proofs.Leading.{at, over, led, ended, took, wrote}
use Rattle.wasm_back.proofs.Nest.{labels_last}
use Rattle.wasm_back.proofs.Words.{has_stored}
use Rattle.wasm_back.proofs.Pushing.{word_of_operand, sets, value_ran, mov_ran, add_ran, sub_ran, load_ran, store_ran, set_ran, goal_ran, branch_ran}
use Rattle.wasm_back.proofs.Rounds.{Arrives, after_steps, falls, rounds}

-- code of one to six instructions
record IsShort (code : List Instr) : Type 0 where
  some : 1 ≤ length code
  few : length code ≤ 6

op_short : (out : ℕ) (op : Op) → IsShort (op_code out op)
op_short out (Mov r (register x)) = record { some = omega arith; few = omega arith }
op_short out (Mov r (Imm w)) = record { some = omega arith; few = omega arith }
op_short out (Add r (register x)) = record { some = omega arith; few = omega arith }
op_short out (Add r (Imm w)) = record { some = omega arith; few = omega arith }
op_short out (Sub r (register x)) = record { some = omega arith; few = omega arith }
op_short out (Sub r (Imm w)) = record { some = omega arith; few = omega arith }
op_short out (Load r (register x)) = record { some = omega arith; few = omega arith }
op_short out (Load r (Imm w)) = record { some = omega arith; few = omega arith }
op_short out (Store r (register x)) = record { some = omega arith; few = omega arith }
op_short out (Store r (Imm w)) = record { some = omega arith; few = omega arith }
op_short out (Putc (register x)) = record { some = omega arith; few = omega arith }
op_short out (Putc (Imm w)) = record { some = omega arith; few = omega arith }
op_short out (Getc r) = record { some = omega arith; few = omega arith }
op_short out Exit = record { some = omega arith; few = omega arith }
op_short out (Set t r (register x)) = record { some = omega arith; few = omega arith }
op_short out (Set t r (Imm w)) = record { some = omega arith; few = omega arith }
op_short out (Jump (register x)) = record { some = omega arith; few = omega arith }
op_short out (Jump (Imm w)) = record { some = omega arith; few = omega arith }
op_short out (JumpIf t (register x) r (register y)) = record { some = omega arith; few = omega arith }
op_short out (JumpIf t (register x) r (Imm w)) = record { some = omega arith; few = omega arith }
op_short out (JumpIf t (Imm n) r (register y)) = record { some = omega arith; few = omega arith }
op_short out (JumpIf t (Imm n) r (Imm w)) = record { some = omega arith; few = omega arith }

value_length : (v : Operand) → length (value_code v) ≡ 1
value_length (register x) = refl
value_length (Imm w) = refl

goal_length : (v : Operand) → length (goal_code v) ≡ 2
goal_length (register x) = refl
goal_length (Imm w) = refl

branch_length : (t : Cond) (v : Operand) (r : Reg) (w : Operand) → length (goal_code v ++ flag_code t r w) ≡ 5
branch_length t (register x) r (register y) = refl
branch_length t (register x) r (Imm w) = refl
branch_length t (Imm n) r (register y) = refl
branch_length t (Imm n) r (Imm w) = refl

-- what an operation makes of a moment
abbrev pub source_by : Eir → List ℕ → Moment Config → Option Op → Moment Config
source_by p input s o = record {
  config = after p s.config o (cond (takes o) (input_at input s.taken) 0);
  taken = cond (takes o) (s.taken + 1) s.taken;
  output = s.output ++ bytes_of s.config.regs o;
}

-- an output that nothing was added to
with_nothing : (p : Eir) (input : List ℕ) (from : Moment wasm.Config) (least most : ℕ) (c : Config) (taken : ℕ) (output : List ℕ)
    → Arrives p input from least most (record { config = c; taken = taken; output = output }) → Arrives p input from least most (record { config = c; taken = taken; output = output ++ [] })
with_nothing p input from least most c taken output x = record { final = x.final; reached = x.reached; lands = x.lands; taken = x.taken; output = x.output ∙ sym (append-nil output) }

not_nought : (n : ℕ) → n ≡ 1 → n ≢ 0
not_nought n e = omega arith

module _ (p : Eir) (input : List ℕ) (s : Moment Config) (goal : ℕ) (bytes : ByteMap) where
  abbrev count : ℕ
  count = length p.blocks

  abbrev c : Config
  c = s.config

  abbrev regs : Regs
  regs = s.config.regs

  abbrev st : List ℕ → Stage
  st values = stage_for s.config.regs goal bytes values

  abbrev out : ℕ
  out = length (blocks_behind p s.config.block)

  abbrev labels : List wasm.Label
  labels = labels_for p.blocks (blocks_behind p s.config.block)

  -- the code behind the operation
  abbrev pub rest : List Instr
  rest = code_from p s.config.block (drop (suc s.config.index) (ops_at p s.config.block))

  -- before the operation
  abbrev pub here : List Instr → Moment wasm.Config
  here code = at (spot (st []) labels code) s.taken s.output

  module _ (has : HasWords bytes s.config.memory) (words : IsWords s.config) (hb : s.config.block < length p.blocks) where
    small : (v : Operand) → value_of regs v < 2 ^ 24
    small v = word_of_operand regs v words.regs

    -- an operation of straight code
    plain : (op : Op) (regs' : Regs) (bytes' : ByteMap) (memory' : eir.Memory) → ran (op_code out op) (st []) ≡ Some (stage_for regs' goal bytes' []) → HasWords bytes' memory'
        → Arrives p input (here (op_code out op ++ rest)) 1 8 (record { config = onward p c regs' memory'; taken = s.taken; output = s.output ++ [] })
    plain op regs' bytes' memory' e has' =
        let m = module_for p in
        let short = op_short out op in
        let first = led m input s.taken s.output (spot (st []) labels (op_code out op ++ rest)) (length (op_code out op)) (spot (stage_for regs' goal bytes' []) labels rest)
        (straight m (op_code out op) rest labels (st []) (stage_for regs' goal bytes' []) e) in
        with_nothing p input (here (op_code out op ++ rest)) 1 8 (onward p c regs' memory') s.taken s.output
        (after_steps 1 8 first (falls p input c goal regs' bytes' memory' s.taken s.output has' hb) (omega (arith, short.some)) (omega (arith, short.few)))

    does_mov : (r : Reg) (v : Operand) → Arrives p input (here (op_code out (Mov r v) ++ rest)) 1 8 (source_by p input s (Some (Mov r v)))
    does_mov r v = plain (Mov r v) (with_reg regs r (value_of regs v)) bytes c.memory (mov_ran goal bytes regs out r v) has

    does_add : (r : Reg) (v : Operand) → Arrives p input (here (op_code out (Add r v) ++ rest)) 1 8 (source_by p input s (Some (Add r v)))
    does_add r v = plain (Add r v) (with_reg regs r (sum_word (reg_of regs r) (value_of regs v))) bytes c.memory (add_ran goal bytes regs out r v (small (register r)) (small v)) has

    does_sub : (r : Reg) (v : Operand) → Arrives p input (here (op_code out (Sub r v) ++ rest)) 1 8 (source_by p input s (Some (Sub r v)))
    does_sub r v = plain (Sub r v) (with_reg regs r (difference_word (reg_of regs r) (value_of regs v))) bytes c.memory (sub_ran goal bytes regs out r v (small (register r)) (small v)) has

    does_load : (r : Reg) (v : Operand) → Arrives p input (here (op_code out (Load r v) ++ rest)) 1 8 (source_by p input s (Some (Load r v)))
    does_load r v =
        let a = value_of regs v in
        let w = eir.word_at c.memory a in
        plain (Load r v) (with_reg regs r w) bytes c.memory (load_ran goal bytes regs out r v (small v) ∙ ap (λ (x : ℕ). Some (stage_for (with_reg regs r x) goal bytes [])) (has.words a (small v))) has

    does_store : (r : Reg) (v : Operand) → Arrives p input (here (op_code out (Store r v) ++ rest)) 1 8 (source_by p input s (Some (Store r v)))
    does_store r v =
        let a = value_of regs v in
        let w = reg_of regs r in
        plain (Store r v) regs (with_bytes bytes (4 * a) (word_bytes 4 w)) (eir.with_word c.memory a w) (store_ran goal bytes regs out r v (small v)) (has_stored bytes c.memory a w (small (register r)) has)

    does_set : (t : Cond) (r : Reg) (v : Operand) → Arrives p input (here (op_code out (Set t r v) ++ rest)) 1 8 (source_by p input s (Some (Set t r v)))
    does_set t r v = plain (Set t r v) (with_reg regs r (cond (holds t (reg_of regs r) (value_of regs v)) 1 0)) bytes c.memory (set_ran goal bytes regs out t r v) has

    does_putc : (v : Operand) → Arrives p input (here (op_code out (Putc v) ++ rest)) 1 8 (source_by p input s (Some (Putc v)))
    does_putc v =
        let m = module_for p in
        let x = value_of regs v in
        let call : List Instr = instr.Call 1 ∷ rest in
        let says = at (spot (st (x ∷ [])) labels call) s.taken s.output in
        let to : Moment Config = source_by p input s (Some (Putc v)) in
        let first = led m input s.taken s.output (spot (st []) labels (value_code v ++ call)) (length (value_code v)) (spot (st (x ∷ [])) labels call)
        (straight m (value_code v) call labels (st []) (st (x ∷ [])) (value_ran goal bytes regs v)) in
        let second = wrote m input s.taken s.output (spot (st (x ∷ [])) labels call) (x % 2 ^ 8) (spot (st []) labels rest) ((host m).putchar (st []) [] x labels 1 (host_import putchar_name 2) rest refl refl) in
        let third = falls p input c goal regs bytes c.memory s.taken (s.output ++ x % 2 ^ 8 ∷ []) has hb in
        let both = and_then 2 2 first second (omega (arith, value_length v)) (omega (arith, value_length v)) in
        subst (λ (code : List Instr). Arrives p input (here code) 1 8 to) (sym (append_assoc (value_code v) (instr.Call 1 ∷ []) rest)) (after_steps 1 8 both third (omega arith) (omega arith))

    does_getc : (r : Reg) → Arrives p input (here (op_code out (Getc r) ++ rest)) 1 8 (source_by p input s (Some (Getc r)))
    does_getc r =
        let m = module_for p in
        let byte = input_at input s.taken in
        let set : List Instr = instr.LocalSet (register_local r) ∷ rest in
        let regs' = with_reg regs r byte in
        let first = took m input s.taken s.output (spot (st []) labels (instr.Call 0 ∷ set)) (λ (b : ℕ). spot (st (b ∷ [])) labels set) ((host m).getchar (st []) labels 0 (host_import getchar_name 1) set refl refl) in
        let second = led m input (s.taken + 1) s.output (spot (st (byte ∷ [])) labels set) 1 (spot (stage_for regs' goal bytes []) labels rest)
        (straight m (instr.LocalSet (register_local r) ∷ []) rest labels (st (byte ∷ [])) (stage_for regs' goal bytes []) (sets goal bytes regs r byte [])) in
        let third = falls p input c goal regs' bytes c.memory (s.taken + 1) s.output has hb in
        let both = and_then 2 2 first second (omega arith) (omega arith) in
        with_nothing p input (here (op_code out (Getc r) ++ rest)) 1 8 (onward p c regs' c.memory) (s.taken + 1) s.output (after_steps 1 8 both third (omega arith) (omega arith))

    does_exit : Arrives p input (here (op_code out Exit ++ rest)) 1 8 (source_by p input s (Some Exit))
    does_exit =
        let m = module_for p in
        let there : Spot = spot (st []) labels (instr.Return ∷ rest) in
        let stop = ended m input s.taken s.output there ((ends m).by_return (st []) labels rest) in
        with_nothing p input (here (op_code out Exit ++ rest)) 1 8 (going_to c count) s.taken s.output (record {
          final = over there s.taken s.output;
          reached = record { count = stop.count; enough = stop.enough; few = omega (arith, stop.few); ends = stop.ends };
          lands = record { going = λ lt. absurd (omega arith); ended = λ _. refl };
          taken = refl;
          output = refl;
        })

    -- out to the loop, and to the block whose number was set
    turns : (x : ℕ) → Arrives p input (at (spot (stage_for regs x bytes []) [] (turn_code p.blocks)) s.taken s.output) 1 (count + 3) (record { config = going_to c x; taken = s.taken; output = s.output })
    turns x = rounds p input x regs bytes c.memory s.taken s.output has

    does_jump : (v : Operand) → Arrives p input (here (op_code out (Jump v) ++ rest)) 1 (8 + (count + 3)) (source_by p input s (Some (Jump v)))
    does_jump v =
        let m = module_for p in
        let x = value_of regs v in
        let goes : List Instr = instr.Br out ∷ rest in
        let to : Moment Config = source_by p input s (Some (Jump v)) in
        let first = led m input s.taken s.output (spot (st []) labels (goal_code v ++ goes)) (length (goal_code v)) (spot (stage_for regs x bytes []) labels goes)
        (straight m (goal_code v) goes labels (st []) (stage_for regs x bytes []) (goal_ran goal bytes regs v)) in
        let second = led m input s.taken s.output (spot (stage_for regs x bytes []) labels goes) 1 (spot (stage_for regs x bytes []) [] (turn_code p.blocks))
        ((branches m).always (stage_for regs x bytes []) labels [] (loop_label p.blocks) out rest (labels_last p.blocks (blocks_behind p c.block))) in
        let both = and_then 3 3 first second (omega (arith, goal_length v)) (omega (arith, goal_length v)) in
        let whole = with_nothing p input (here (goal_code v ++ goes)) 1 (8 + (count + 3)) (going_to c x) s.taken s.output (after_steps 1 (8 + (count + 3)) both (turns x) (omega arith) (omega arith)) in
        subst (λ (code : List Instr). Arrives p input (here code) 1 (8 + (count + 3)) to) (sym (append_assoc (goal_code v) (instr.Br out ∷ []) rest)) whole

    -- by the value of a comparison out to the loop, or on
    branches_by : (x : ℕ) (b : Bool) → Arrives p input (at (spot (stage_for regs x bytes (truth b ∷ [])) labels (instr.BrIf out ∷ rest)) s.taken s.output) 1 (count + 4)
        (record { config = cond b (going_to c x) (onward p c regs c.memory); taken = s.taken; output = s.output })
    branches_by x true =
        let m = module_for p in
        let step = led m input s.taken s.output (spot (stage_for regs x bytes (1 ∷ [])) labels (instr.BrIf out ∷ rest)) 1 (spot (stage_for regs x bytes []) [] (turn_code p.blocks))
        ((branches m).taken (stage_for regs x bytes []) [] 1 labels [] (loop_label p.blocks) out rest (not_nought 1 refl) (labels_last p.blocks (blocks_behind p c.block))) in
        after_steps 1 (count + 4) step (turns x) (omega arith) (omega arith)
    branches_by x false =
        let m = module_for p in
        let step = led m input s.taken s.output (spot (stage_for regs x bytes (0 ∷ [])) labels (instr.BrIf out ∷ rest)) 1 (spot (stage_for regs x bytes []) labels rest)
        ((branches m).not_taken (stage_for regs x bytes []) [] labels out rest) in
        after_steps 1 (count + 4) step (falls p input c x regs bytes c.memory s.taken s.output has hb) (omega arith) (omega arith)

    does_jump_if : (t : Cond) (v : Operand) (r : Reg) (w : Operand) → Arrives p input (here (op_code out (JumpIf t v r w) ++ rest)) 1 (8 + (count + 3)) (source_by p input s (Some (JumpIf t v r w)))
    does_jump_if t v r w =
        let m = module_for p in
        let x = value_of regs v in
        let test : Bool = holds t (reg_of regs r) (value_of regs w) in
        let code : List Instr = goal_code v ++ flag_code t r w in
        let goes : List Instr = instr.BrIf out ∷ rest in
        let to : Moment Config = source_by p input s (Some (JumpIf t v r w)) in
        let same : op_code out (JumpIf t v r w) ++ rest ≡ code ++ goes =
        ap (λ (is : List Instr). is ++ rest) (sym (append_assoc (goal_code v) (flag_code t r w) (instr.BrIf out ∷ []))) ∙ append_assoc code (instr.BrIf out ∷ []) rest in
        let first = led m input s.taken s.output (spot (st []) labels (code ++ goes)) (length code) (spot (stage_for regs x bytes (truth test ∷ [])) labels goes)
        (straight m code goes labels (st []) (stage_for regs x bytes (truth test ∷ [])) (branch_ran goal bytes regs t v r w)) in
        let whole = with_nothing p input (here (code ++ goes)) 1 (8 + (count + 3)) (cond test (going_to c x) (onward p c regs c.memory)) s.taken s.output
        (after_steps 1 (8 + (count + 3)) first (branches_by x test) (omega arith) (omega (arith, branch_length t v r w))) in
        subst (λ (is : List Instr). Arrives p input (here is) 1 (8 + (count + 3)) to) (sym same) whole

    pub does_op : (op : Op) → Arrives p input (here (op_code out op ++ rest)) 1 (8 + going_round count (Some op)) (source_by p input s (Some op))
    does_op (Mov r v) = does_mov r v
    does_op (Add r v) = does_add r v
    does_op (Sub r v) = does_sub r v
    does_op (Load r v) = does_load r v
    does_op (Store r v) = does_store r v
    does_op (Putc v) = does_putc v
    does_op (Getc r) = does_getc r
    does_op Exit = does_exit
    does_op (Set t r v) = does_set t r v
    does_op (Jump v) = does_jump v
    does_op (JumpIf t v r w) = does_jump_if t v r w
