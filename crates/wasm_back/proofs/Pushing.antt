-- What the straight code of operations makes of the locals, the stack and the memory.
use Rattle.std.proofs.Common.{◌≡◌, ℕ, ◌+◌, ◌-◌, ◌*◌, ◌%◌, ◌^◌, ◌<◌, cond, List, [], ◌∷◌, ◌++◌, drop, Some, None, refl, sym, ap, ◌∙◌, add-zero, append_assoc, append-nil, pos}
use Rattle.std.specs.Prelude.{slice_index, bit_and}
use Rattle.std.specs.Option.{option_and_then}
use Rattle.mach_core.proofs.Lists.{drop_none}
use Rattle.word24.specs.Word.{IsWord, number_of, sum_word, difference_word}
use Rattle.eir_core.specs.declared.ops.Reg.{Reg}
use Rattle.eir_core.specs.declared.ops.Reg.TheVariants.{A, B, C, D, SP, BP}
use Rattle.eir_core.specs.declared.ops.Operand.{Operand}
use Rattle.eir_core.specs.declared.ops.Operand.TheVariants.{Reg as register, Imm}
use Rattle.eir_core.specs.declared.ops.Cond.{Cond}
use Rattle.eir_core.specs.declared.ops.Cond.TheVariants.{Eq, Ne, Lt, Gt, Le, Ge}
use Rattle.eir_core.specs.declared.ops.Op.TheVariants.{Mov, Add, Sub, Load, Store, Set}
use Rattle.eir_core.specs.Step.{Regs, reg_of, with_reg, value_of, holds}
use Rattle.wasm_bin.specs.declared.module.Instr.{Instr}
use Rattle.wasm_bin.specs.declared.module.Instr.TheVariants as instr
use Rattle.wasm_rule.specs.declared.act.Act.TheVariants as act
use Rattle.wasm_rule.specs.Memory.{ByteMap, word_at, with_bytes, bytes_of}
use Rattle.wasm_rule.specs.Number.{truth}
use Rattle.wasm_code.specs.Emitted.{register_local, goal_local, value_code, wrapped_code, place_code, whole_word, test_code, flag_code, goal_code, op_code}
use Rattle.wasm_build.specs.Straight.{Stage, acted, ran}
use Rattle.wasm_back.specs.Related.{locals_for, stage_for}
use Rattle.wasm_back.proofs.Numbers.{truth_is, wrapped_sum, wrapped_difference, place_is, place_within}

local_is : (regs : Regs) (goal : ℕ) (r : Reg) → slice_index (locals_for regs goal) (register_local r) ≡ reg_of regs r
local_is regs goal A = refl
local_is regs goal B = refl
local_is regs goal C = refl
local_is regs goal D = refl
local_is regs goal SP = refl
local_is regs goal BP = refl

-- an operand stands for a word
pub word_of_operand : (r : Regs) (v : Operand) → ((x : Reg) → IsWord (reg_of r x)) → IsWord (value_of r v)
word_of_operand r (register x) all = all x
word_of_operand r (Imm w) all = w.in_range

module _ (goal : ℕ) (bytes : ByteMap) where
  -- a register is set
  pub sets : (regs : Regs) (r : Reg) (x : ℕ) (code : List Instr) → ran (instr.LocalSet (register_local r) ∷ code) (stage_for regs goal bytes (x ∷ [])) ≡ ran code (stage_for (with_reg regs r x) goal bytes [])
  sets regs A x code = refl
  sets regs B x code = refl
  sets regs C x code = refl
  sets regs D x code = refl
  sets regs SP x code = refl
  sets regs BP x code = refl

  module _ (regs : Regs) where
    abbrev st : List ℕ → Stage
    st values = stage_for regs goal bytes values

    -- a register is pushed
    gets : (r : Reg) (vs : List ℕ) (code : List Instr) → ran (instr.LocalGet (register_local r) ∷ code) (st vs) ≡ ran code (st (reg_of regs r ∷ vs))
    gets r vs code = ap (λ (x : ℕ). ran code (st (x ∷ drop 0 vs))) (local_is regs goal r) ∙ ap (λ (t : List ℕ). ran code (st (reg_of regs r ∷ t))) (drop_none vs)

    -- an operand is pushed
    values : (v : Operand) (vs : List ℕ) (code : List Instr) → ran (value_code v ++ code) (st vs) ≡ ran code (st (value_of regs v ∷ vs))
    values (register r) vs code = gets r vs code
    values (Imm w) vs code = ap (λ (t : List ℕ). ran code (st (number_of w ∷ t))) (drop_none vs)

    pub value_ran : (v : Operand) → ran (value_code v) (st []) ≡ Some (st (value_of regs v ∷ []))
    value_ran (register r) = gets r [] []
    value_ran (Imm w) = refl

    -- a comparison of two values
    tests : (t : Cond) (x y : ℕ) (vs : List ℕ) (code : List Instr) → ran (test_code t ∷ code) (st (y ∷ x ∷ vs)) ≡ ran code (st (truth (holds t x y) ∷ vs))
    tests Eq x y vs code = ap (λ (u : List ℕ). ran code (st (truth (holds Eq x y) ∷ u))) (drop_none vs)
    tests Ne x y vs code = ap (λ (u : List ℕ). ran code (st (truth (holds Ne x y) ∷ u))) (drop_none vs)
    tests Lt x y vs code = ap (λ (u : List ℕ). ran code (st (truth (holds Lt x y) ∷ u))) (drop_none vs)
    tests Gt x y vs code = ap (λ (u : List ℕ). ran code (st (truth (holds Gt x y) ∷ u))) (drop_none vs)
    tests Le x y vs code = ap (λ (u : List ℕ). ran code (st (truth (holds Le x y) ∷ u))) (drop_none vs)
    tests Ge x y vs code = ap (λ (u : List ℕ). ran code (st (truth (holds Ge x y) ∷ u))) (drop_none vs)

    flags : (t : Cond) (r : Reg) (v : Operand) (vs : List ℕ) (code : List Instr) → ran (flag_code t r v ++ code) (st vs) ≡ ran code (st (truth (holds t (reg_of regs r) (value_of regs v)) ∷ vs))
    flags t r v vs code =
        let x = reg_of regs r in
        gets r vs ((value_code v ++ test_code t ∷ []) ++ code)
        ∙ (ap (λ (is : List Instr). ran is (st (x ∷ vs))) (append_assoc (value_code v) (test_code t ∷ []) code)
        ∙ (values v (x ∷ vs) (test_code t ∷ code) ∙ tests t x (value_of regs v) vs code))

    -- the place of a word in memory
    places : (v : Operand) (code : List Instr) → value_of regs v < 2 ^ 24 → ran (place_code v ++ code) (st []) ≡ ran code (st (4 * value_of regs v ∷ []))
    places v code small =
        ap (λ (is : List Instr). ran is (st [])) (append_assoc (value_code v) (instr.Const (pos 2) ∷ instr.Shl ∷ []) code)
        ∙ (values v [] (instr.Const (pos 2) ∷ instr.Shl ∷ code) ∙ ap (λ (q : ℕ). ran code (st (q ∷ []))) (place_is (value_of regs v) small))

    -- the word there is loaded
    loads : (a : ℕ) (code : List Instr) → a < 2 ^ 24 → ran (instr.Load whole_word ∷ code) (st (4 * a ∷ [])) ≡ ran code (st (word_at bytes (4 * a) 4 ∷ []))
    loads a code small =
        ap (λ b. option_and_then (ran code) (acted (cond b (act.Put 1 (word_at bytes (4 * a + 0) 4)) (act.Stop 2)) (st (4 * a ∷ [])))) (place_within a small)
        ∙ ap (λ (q : ℕ). ran code (st (word_at bytes q 4 ∷ []))) (add-zero (4 * a))

    -- a word is stored there
    stores : (a w : ℕ) → a < 2 ^ 24 → ran (instr.Store whole_word ∷ []) (st (w ∷ 4 * a ∷ [])) ≡ Some (stage_for regs goal (with_bytes bytes (4 * a) (bytes_of 4 w)) [])
    stores a w small =
        ap (λ b. option_and_then (ran []) (cond b (Some (stage_for regs goal (with_bytes bytes (4 * a + 0) (bytes_of 4 w)) [])) None)) (place_within a small)
        ∙ ap (λ (q : ℕ). Some (stage_for regs goal (with_bytes bytes q (bytes_of 4 w)) [])) (add-zero (4 * a))

    -- an operation that sets a register
    pub mov_ran : (out : ℕ) (r : Reg) (v : Operand) → ran (op_code out (Mov r v)) (st []) ≡ Some (stage_for (with_reg regs r (value_of regs v)) goal bytes [])
    mov_ran out r v = values v [] (instr.LocalSet (register_local r) ∷ []) ∙ sets regs r (value_of regs v) []

    pub add_ran : (out : ℕ) (r : Reg) (v : Operand) → reg_of regs r < 2 ^ 24 → value_of regs v < 2 ^ 24 → ran (op_code out (Add r v)) (st []) ≡ Some (stage_for (with_reg regs r (sum_word (reg_of regs r) (value_of regs v))) goal bytes [])
    add_ran out r v a b =
        let x = reg_of regs r in
        let y = value_of regs v in
        gets r [] (value_code v ++ instr.Add ∷ wrapped_code r)
        ∙ (values v (x ∷ []) (instr.Add ∷ wrapped_code r)
        ∙ (sets regs r (bit_and ((x + y) % 2 ^ 32) (2 ^ 24 - 1)) [] ∙ ap (λ (w : ℕ). Some (stage_for (with_reg regs r w) goal bytes [])) (wrapped_sum x y a b)))

    pub sub_ran : (out : ℕ) (r : Reg) (v : Operand) → reg_of regs r < 2 ^ 24 → value_of regs v < 2 ^ 24 → ran (op_code out (Sub r v)) (st []) ≡ Some (stage_for (with_reg regs r (difference_word (reg_of regs r) (value_of regs v))) goal bytes [])
    sub_ran out r v a b =
        let x = reg_of regs r in
        let y = value_of regs v in
        gets r [] (value_code v ++ instr.Sub ∷ wrapped_code r)
        ∙ (values v (x ∷ []) (instr.Sub ∷ wrapped_code r)
        ∙ (sets regs r (bit_and ((x + (2 ^ 32 - y)) % 2 ^ 32) (2 ^ 24 - 1)) [] ∙ ap (λ (w : ℕ). Some (stage_for (with_reg regs r w) goal bytes [])) (wrapped_difference x y a b)))

    pub load_ran : (out : ℕ) (r : Reg) (v : Operand) → value_of regs v < 2 ^ 24 → ran (op_code out (Load r v)) (st []) ≡ Some (stage_for (with_reg regs r (word_at bytes (4 * value_of regs v) 4)) goal bytes [])
    load_ran out r v a =
        places v (instr.Load whole_word ∷ instr.LocalSet (register_local r) ∷ []) a
        ∙ (loads (value_of regs v) (instr.LocalSet (register_local r) ∷ []) a ∙ sets regs r (word_at bytes (4 * value_of regs v) 4) [])

    pub store_ran : (out : ℕ) (r : Reg) (v : Operand) → value_of regs v < 2 ^ 24 → ran (op_code out (Store r v)) (st []) ≡ Some (stage_for regs goal (with_bytes bytes (4 * value_of regs v) (bytes_of 4 (reg_of regs r))) [])
    store_ran out r v a =
        places v (instr.LocalGet (register_local r) ∷ instr.Store whole_word ∷ []) a
        ∙ (gets r (4 * value_of regs v ∷ []) (instr.Store whole_word ∷ []) ∙ stores (value_of regs v) (reg_of regs r) a)

    pub set_ran : (out : ℕ) (t : Cond) (r : Reg) (v : Operand) → ran (op_code out (Set t r v)) (st []) ≡ Some (stage_for (with_reg regs r (cond (holds t (reg_of regs r) (value_of regs v)) 1 0)) goal bytes [])
    set_ran out t r v =
        let test = holds t (reg_of regs r) (value_of regs v) in
        flags t r v [] (instr.LocalSet (register_local r) ∷ [])
        ∙ (sets regs r (truth test) [] ∙ ap (λ (w : ℕ). Some (stage_for (with_reg regs r w) goal bytes [])) (truth_is test))

    pub goal_ran : (target : Operand) → ran (goal_code target) (st []) ≡ Some (stage_for regs (value_of regs target) bytes [])
    goal_ran target = values target [] (instr.LocalSet goal_local ∷ [])

-- a goal, and then a comparison
pub branch_ran : (goal : ℕ) (bytes : ByteMap) (regs : Regs) (t : Cond) (target : Operand) (r : Reg) (v : Operand) →
    ran (goal_code target ++ flag_code t r v) (stage_for regs goal bytes []) ≡ Some (stage_for regs (value_of regs target) bytes (truth (holds t (reg_of regs r) (value_of regs v)) ∷ []))
branch_ran goal bytes regs t target r v =
    let x = value_of regs target in
    ap (λ (is : List Instr). ran is (stage_for regs goal bytes [])) (append_assoc (value_code target) (instr.LocalSet goal_local ∷ []) (flag_code t r v))
    ∙ (values goal bytes regs target [] (instr.LocalSet goal_local ∷ flag_code t r v)
    ∙ (ap (λ (is : List Instr). ran is (stage_for regs x bytes [])) (sym (append-nil (flag_code t r v))) ∙ flags x bytes regs t r v [] []))
