-- The nest of blocks: where each leads, and its labels.
use Rattle.std.proofs.Common.{◌≡◌, ℕ, zero, suc, ◌+◌, ◌<◌, ◌≤◌, false, List, [], ◌∷◌, ◌++◌, length, drop, replicate, refl, sym, ap, ◌∙◌, arith, add-zero, append_assoc}
use Rattle.std.proofs.lemmas.List.{drop_all}
use Rattle.mach_core.proofs.Lists.{drop_none, drop_list}
use Rattle.eir_core.specs.declared.ops.Operand.TheVariants.{Reg as register, Imm}
use Rattle.eir_core.specs.declared.ops.Cond.{Cond}
use Rattle.eir_core.specs.declared.ops.Cond.TheVariants.{Eq, Ne, Lt, Gt, Le, Ge}
use Rattle.eir_core.specs.declared.ops.Op.{Op}
use Rattle.eir_core.specs.declared.ops.Op.TheVariants.{Mov, Add, Sub, Load, Store, Putc, Getc, Exit, Set, Jump, JumpIf}
use Rattle.wasm_bin.specs.declared.module.Instr.{Instr}
use Rattle.wasm_bin.specs.declared.module.Instr.TheVariants as instr
use Rattle.wasm_rule.specs.Code.{past_end}
use Rattle.wasm_rule.specs.Config.{Label}
use Rattle.wasm_code.specs.Emitted.{register_local, test_code, op_code, ops_code, blocks_code, choice_code}
use Rattle.wasm_back.specs.Related.{loop_label, labels_for}

past_test : (d : ℕ) (t : Cond) (code : List Instr) → past_end d (test_code t ∷ code) ≡ past_end d code
past_test d Eq code = refl
past_test d Ne code = refl
past_test d Lt code = refl
past_test d Gt code = refl
past_test d Le code = refl
past_test d Ge code = refl

-- no operation opens or ends a block
past_op : (d out : ℕ) (op : Op) (code : List Instr) → past_end d (op_code out op ++ code) ≡ past_end d code
past_op d out (Mov r (register x)) code = refl
past_op d out (Mov r (Imm w)) code = refl
past_op d out (Add r (register x)) code = refl
past_op d out (Add r (Imm w)) code = refl
past_op d out (Sub r (register x)) code = refl
past_op d out (Sub r (Imm w)) code = refl
past_op d out (Load r (register x)) code = refl
past_op d out (Load r (Imm w)) code = refl
past_op d out (Store r (register x)) code = refl
past_op d out (Store r (Imm w)) code = refl
past_op d out (Putc (register x)) code = refl
past_op d out (Putc (Imm w)) code = refl
past_op d out (Getc r) code = refl
past_op d out Exit code = refl
past_op d out (Set t r (register x)) code = past_test d t (instr.LocalSet (register_local r) ∷ code)
past_op d out (Set t r (Imm w)) code = past_test d t (instr.LocalSet (register_local r) ∷ code)
past_op d out (Jump (register x)) code = refl
past_op d out (Jump (Imm w)) code = refl
past_op d out (JumpIf t (register x) r (register y)) code = past_test d t (instr.BrIf out ∷ code)
past_op d out (JumpIf t (register x) r (Imm w)) code = past_test d t (instr.BrIf out ∷ code)
past_op d out (JumpIf t (Imm n) r (register y)) code = past_test d t (instr.BrIf out ∷ code)
past_op d out (JumpIf t (Imm n) r (Imm w)) code = past_test d t (instr.BrIf out ∷ code)

past_ops : (d out : ℕ) (ops : List Op) (code : List Instr) → past_end d (ops_code out ops ++ code) ≡ past_end d code
past_ops d out [] code = refl
past_ops d out (op ∷ ops) code = ap (λ (is : List Instr). past_end d is) (append_assoc (op_code out op) (ops_code out ops) code) ∙ (past_op d out op (ops_code out ops ++ code) ∙ past_ops d out ops code)

past_blocks : (i : ℕ) (blocks : List (List Op)) → i < length blocks → past_end i (blocks_code blocks) ≡ blocks_code (drop (suc i) blocks)
past_blocks i [] h = absurd (omega arith)
past_blocks zero (ops ∷ blocks) h = past_ops 0 (length blocks) ops (instr.End ∷ blocks_code blocks) ∙ ap blocks_code (sym (drop_none blocks))
past_blocks (suc i) (ops ∷ blocks) h = past_ops (suc i) (length blocks) ops (instr.End ∷ blocks_code blocks) ∙ past_blocks i blocks (omega arith)

past_choice : (i n : ℕ) (blocks : List (List Op)) → i ≤ length blocks → past_end i (choice_code n ++ blocks_code blocks) ≡ blocks_code (drop i blocks)
past_choice zero n blocks h = ap blocks_code (sym (drop_none blocks))
past_choice (suc i) n blocks h = past_blocks i blocks (omega arith)

past_nest : (d i : ℕ) (code : List Instr) → past_end d (replicate i (instr.Block false) ++ code) ≡ past_end (d + i) code
past_nest d zero code = ap (λ k. past_end k code) (sym (add-zero d))
past_nest d (suc i) code = let e : suc d + i ≡ d + suc i = omega arith in past_nest (suc d) i code ∙ ap (λ k. past_end k code) e

-- the block that opens with so many within it leads to the block of that number
pub leads_to : (i n : ℕ) (blocks : List (List Op)) → i ≤ length blocks → past_end 0 (replicate i (instr.Block false) ++ (choice_code n ++ blocks_code blocks)) ≡ blocks_code (drop i blocks)
leads_to i n blocks h =
    let e : 0 + i ≡ i = omega arith in
    past_nest 0 i (choice_code n ++ blocks_code blocks) ∙ (ap (λ k. past_end k (choice_code n ++ blocks_code blocks)) e ∙ past_choice i n blocks h)

abbrev pub label_to : List Instr → Label
label_to next = record { takes = false; beneath = 0; next = next }

pub labels_from : (all : List (List Op)) (i : ℕ) → i < length all → labels_for all (drop i all) ≡ label_to (blocks_code (drop i all)) ∷ labels_for all (drop (suc i) all)
labels_from all i h = ap (labels_for all) (drop_list all i h) ∙ ap (λ (blocks : List (List Op)). label_to (blocks_code blocks) ∷ labels_for all (drop (suc i) all)) (sym (drop_list all i h))

pub labels_drop : (all rest : List (List Op)) (k : ℕ) → k ≤ length rest → drop k (labels_for all rest) ≡ labels_for all (drop k rest)
labels_drop all rest zero h = drop_none (labels_for all rest) ∙ ap (labels_for all) (sym (drop_none rest))
labels_drop all [] (suc k) h = absurd (omega arith)
labels_drop all (ops ∷ rest) (suc k) h = labels_drop all rest k (omega arith)

-- the outermost label is the loop's
pub labels_last : (all rest : List (List Op)) → drop (length rest) (labels_for all rest) ≡ loop_label all ∷ []
labels_last all rest = labels_drop all rest (length rest) (omega arith) ∙ ap (labels_for all) (drop_all (length rest) rest (omega arith))

pub labels_past : (all rest : List (List Op)) → drop (length rest + 1) (labels_for all rest) ≡ []
labels_past all [] = refl
labels_past all (ops ∷ rest) = let e : length (ops ∷ rest) + 1 ≡ suc (length rest + 1) = omega arith in ap (λ k. drop k (labels_for all (ops ∷ rest))) e ∙ labels_past all rest
