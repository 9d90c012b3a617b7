-- Where the module goes on once an operation is done: to the next operation, to a block, or to its end.
use Rattle.std.proofs.Common.{◌≡◌, ℕ, zero, suc, ◌+◌, ◌<◌, ◌≤◌, true, false, cond, nat_lt, List, [], ◌∷◌, ◌++◌, length, drop, replicate, refl, sym, ap, subst, ◌∙◌, arith, add-one}
use Rattle.std.specs.Prelude.{slice_index_or}
use Rattle.std.specs.List.{range_with_len}
use Rattle.std.proofs.lemmas.Bool.{ltb-true, ltb-false}
use Rattle.std.proofs.lemmas.List.{drop_all, get_or_past}
use Rattle.std.proofs.lemmas.List.FromFn.{get_or-range_with_len, length-range_with_len}
use Rattle.mach_core.specs.declared.machine.Status.TheVariants.{Ended}
use Rattle.mach_core.specs.Reaches.{Reaches}
use Rattle.mach_core.specs.Rule.{Moment}
use Rattle.mach_core.proofs.Lists.{drop_none, drop_list}
use Rattle.mach_core.proofs.Reaching.{stays_there, and_then, looser}
use Rattle.eir_core.specs.declared.ops.Op.{Op}
use Rattle.eir_core.specs.Acts.{ops_at, placed}
use Rattle.eir_core.specs.Eir.{Eir}
use Rattle.eir_core.specs.Memory as eir
use Rattle.eir_core.specs.Step.{Config, Regs, length_at, onward}
use Rattle.wasm_bin.specs.declared.module.Instr.{Instr}
use Rattle.wasm_bin.specs.declared.module.Instr.TheVariants as instr
use Rattle.wasm_rule.specs.Code.{past_end}
use Rattle.wasm_rule.specs.Memory.{ByteMap}
use Rattle.wasm_rule.specs.Config as wasm
use Rattle.wasm_rule.specs.Rule.{wasm_rule}
use Rattle.wasm_code.specs.Emitted.{goal_local, blocks_code, choice_code, turn_code, module_for}
use Rattle.wasm_build.specs.Lead.{Spot, spot, config_at}
use Rattle.wasm_build.proofs.Straightly.{straight}
use Rattle.wasm_build.proofs.Ways.{blocks, branches, ends}
use Rattle.wasm_back.specs.Related.{stage_for, around_main, loop_label, labels_for, blocks_behind, code_from, HasWords, IsAt}
use Rattle.wasm_back.proofs.Leading.{at, over, led, ended}
use Rattle.wasm_back.proofs.Nest.{leads_to, label_to, labels_from, labels_drop, labels_past}

-- the module stands as the program does
pub record Lands (p : Eir) (c : Config) (d : wasm.Config) : Type 0 where
  pub going : c.block < length p.blocks → IsAt p c d
  pub ended : length p.blocks ≤ c.block → d.status ≡ Ended

-- the module comes from a moment to one that shows what a moment of the program shows
pub record Arrives (p : Eir) (input : List ℕ) (from : Moment wasm.Config) (least most : ℕ) (to : Moment Config) : Type 0 where
  pub final : Moment wasm.Config
  pub reached : Reaches (wasm_rule (module_for p)) input from final least most
  pub lands : Lands p to.config final.config
  pub taken : final.taken ≡ to.taken
  pub output : final.output ≡ to.output

-- the same with steps before
pub after_steps : {p : Eir} {input : List ℕ} {from mid : Moment wasm.Config} {a b c d : ℕ} {to : Moment Config} (least most : ℕ) → Reaches (wasm_rule (module_for p)) input from mid a b → Arrives p input mid c d to → least ≤ a + c → b + d ≤ most → Arrives p input from least most to
after_steps least most r x l u = record { final = x.final; reached = and_then least most r x.reached l u; lands = x.lands; taken = x.taken; output = x.output }

module _ (p : Eir) (input : List ℕ) where
  abbrev all : List (List Op)
  all = p.blocks

  abbrev count : ℕ
  count = length p.blocks

  abbrev Run : Moment wasm.Config → Moment wasm.Config → ℕ → ℕ → Type 0
  Run from to least most = Reaches (wasm_rule (module_for p)) input from to least most

  -- what stands in front of the first operation of a block
  front : (k : ℕ) → k < count → blocks_code (drop k all) ≡ code_from p k (drop 0 (ops_at p k))
  front k h = ap blocks_code (drop_list all k h) ∙ ap (λ ops. code_from p k ops) (sym (drop_none (ops_at p k)))

  at_front : (k goal : ℕ) (regs : Regs) (bytes : ByteMap) (memory : eir.Memory) → k < count → HasWords bytes memory
      → IsAt p (placed k 0 regs memory) (config_at around_main (spot (stage_for regs goal bytes []) (labels_for all (blocks_behind p k)) (blocks_code (drop k all))))
  at_front k goal regs bytes memory h has = record {
    goal = goal;
    bytes = bytes;
    is = ap (λ (code : List Instr). config_at around_main (spot (stage_for regs goal bytes []) (labels_for all (blocks_behind p k)) code)) (front k h);
    has = has;
  }

  -- the `end` in front of a block, or the two that end the run
  ends_block : (k goal : ℕ) (regs : Regs) (bytes : ByteMap) (memory : eir.Memory) (taken : ℕ) (output : List ℕ) → HasWords bytes memory
      → Arrives p input (at (spot (stage_for regs goal bytes []) (labels_for all (drop k all)) (instr.End ∷ blocks_code (drop k all))) taken output) 1 2 (record { config = placed k 0 regs memory; taken = taken; output = output })
  ends_block k goal regs bytes memory taken output has =
      let m = module_for p in
      let st = stage_for regs goal bytes [] in
      let code = blocks_code (drop k all) in
      let behind = labels_for all (blocks_behind p k) in
      let from = at (spot st (labels_for all (drop k all)) (instr.End ∷ code)) taken output in
      elim (nat_lt k count) as (λ b. nat_lt k count ≡ b → Arrives p input from 1 2 (record { config = placed k 0 regs memory; taken = taken; output = output })) [
        | true ↦ λ y.
            let h : k < count = ltb-true k count y in
            let to = at (spot st behind code) taken output in
            let step = led m input taken output (spot st (label_to code ∷ behind) (instr.End ∷ code)) 1 (spot st behind code) ((blocks m).close st (label_to code) behind code) in
            record {
              final = to;
              reached = looser 1 2 (subst (λ (ls : List wasm.Label). Run (at (spot st ls (instr.End ∷ code)) taken output) to 1 1) (sym (labels_from all k h)) step) (omega arith) (omega arith);
              lands = record { going = λ _. at_front k goal regs bytes memory h has; ended = λ le. absurd (omega arith) };
              taken = refl;
              output = refl;
            }
        | false ↦ λ y.
            let le : count ≤ k = ltb-false k count y in
            let last : Spot = spot st [] (instr.End ∷ []) in
            let first = led m input taken output (spot st (loop_label all ∷ []) (instr.End ∷ instr.End ∷ [])) 1 last ((blocks m).close st (loop_label all) [] (instr.End ∷ [])) in
            let second = ended m input taken output last ((ends m).by_end st []) in
            record {
              final = over last taken output;
              reached = subst (λ (bs : List (List Op)). Run (at (spot st (labels_for all bs) (instr.End ∷ blocks_code bs)) taken output) (over last taken output) 1 2) (sym (drop_all k all le)) (and_then 1 2 first second (omega arith) (omega arith));
              lands = record { going = λ lt. absurd (omega arith); ended = λ _. refl };
              taken = refl;
              output = refl;
            }
      ] refl

  -- on from an operation that names no block
  pub falls : (c : Config) (goal : ℕ) (regs : Regs) (bytes : ByteMap) (memory : eir.Memory) (taken : ℕ) (output : List ℕ) → HasWords bytes memory → c.block < count
      → Arrives p input (at (spot (stage_for regs goal bytes []) (labels_for all (blocks_behind p c.block)) (code_from p c.block (drop (suc c.index) (ops_at p c.block)))) taken output) 0 2 (record { config = onward p c regs memory; taken = taken; output = output })
  falls c goal regs bytes memory taken output has hb =
      let st = stage_for regs goal bytes [] in
      let ops : List Op = ops_at p c.block in
      let labels = labels_for all (blocks_behind p c.block) in
      let from = at (spot st labels (code_from p c.block (drop (suc c.index) ops))) taken output in
      let within : Config = record { block = c.block; index = c.index + 1; regs = regs; memory = memory } in
      let behind : Config = record { block = c.block + 1; index = 0; regs = regs; memory = memory } in
      elim (nat_lt (c.index + 1) (length_at p c.block)) as (λ b. nat_lt (c.index + 1) (length_at p c.block) ≡ b → Arrives p input from 0 2 (record { config = cond b within behind; taken = taken; output = output })) [
        | true ↦ λ y.
            record {
              final = from;
              reached = looser 0 2 (stays_there (wasm_rule (module_for p)) input from) (omega arith) (omega arith);
              lands = record {
                going = λ _. record {
                  goal = goal;
                  bytes = bytes;
                  is = ap (λ j. config_at around_main (spot st labels (code_from p c.block (drop j ops)))) (sym (add-one c.index));
                  has = has;
                };
                ended = λ le. absurd (omega arith);
              };
              taken = refl;
              output = refl;
            }
        | false ↦ λ y.
            let le : length ops ≤ c.index + 1 = ltb-false (c.index + 1) (length ops) y in
            let none : drop (suc c.index) ops ≡ [] = drop_all (suc c.index) ops (omega arith) in
            let next : drop (suc c.block) all ≡ drop (c.block + 1) all = ap (λ j. drop j all) (sym (add-one c.block)) in
            let there = at (spot st (labels_for all (drop (c.block + 1) all)) (instr.End ∷ blocks_code (drop (c.block + 1) all))) taken output in
            let same : from ≡ there =
            ap (λ (is : List Op). at (spot st labels (code_from p c.block is)) taken output) none
            ∙ ap (λ (bs : List (List Op)). at (spot st (labels_for all bs) (instr.End ∷ blocks_code bs)) taken output) next in
            subst (λ (f : Moment wasm.Config). Arrives p input f 0 2 (record { config = behind; taken = taken; output = output })) (sym same)
            (after_steps 0 2 (stays_there (wasm_rule (module_for p)) input there) (ends_block (c.block + 1) goal regs bytes memory taken output has) (omega arith) (omega arith))
      ] refl

  -- the blocks open, one within the other
  opens : (goal : ℕ) (regs : Regs) (bytes : ByteMap) (taken : ℕ) (output : List ℕ) (i : ℕ) → i ≤ count → let st = stage_for regs goal bytes [] in let tail = choice_code count ++ blocks_code all in
      Run (at (spot st (labels_for all (drop i all)) (replicate i (instr.Block false) ++ tail)) taken output) (at (spot st (labels_for all all) tail) taken output) i i
  opens goal regs bytes taken output zero h =
      let st = stage_for regs goal bytes [] in
      let tail : List Instr = choice_code count ++ blocks_code all in
      let to = at (spot st (labels_for all all) tail) taken output in
      subst (λ (bs : List (List Op)). Run (at (spot st (labels_for all bs) tail) taken output) to 0 0) (sym (drop_none all)) (stays_there (wasm_rule (module_for p)) input to)
  opens goal regs bytes taken output (suc i) h =
      let m = module_for p in
      let st = stage_for regs goal bytes [] in
      let tail : List Instr = choice_code count ++ blocks_code all in
      let inner : List Instr = replicate i (instr.Block false) ++ tail in
      let outer = labels_for all (drop (suc i) all) in
      let here = spot st outer (instr.Block false ∷ inner) in
      let below : i < count = omega arith in
      let label : label_to (past_end 0 inner) ∷ outer ≡ labels_for all (drop i all) = ap (λ (next : List Instr). label_to next ∷ outer) (leads_to i count all (omega arith)) ∙ sym (labels_from all i below) in
      let first = led m input taken output here 1 (spot st (label_to (past_end 0 inner) ∷ outer) inner) ((blocks m).block st outer false inner) in
      let first' = subst (λ (ls : List wasm.Label). Run (at here taken output) (at (spot st ls inner) taken output) 1 1) label first in
      and_then (suc i) (suc i) first' (opens goal regs bytes taken output i (omega arith)) (omega arith) (omega arith)

  -- round the loop to the block whose number was set
  pub rounds : (goal : ℕ) (regs : Regs) (bytes : ByteMap) (memory : eir.Memory) (taken : ℕ) (output : List ℕ) → HasWords bytes memory
      → Arrives p input (at (spot (stage_for regs goal bytes []) [] (turn_code all)) taken output) 1 (count + 3) (record { config = placed goal 0 regs memory; taken = taken; output = output })
  rounds goal regs bytes memory taken output has =
      let m = module_for p in
      let st = stage_for regs goal bytes [] in
      let st' = stage_for regs goal bytes (goal ∷ []) in
      let labels = labels_for all all in
      let numbers = range_with_len 0 count in
      let table : List Instr = instr.BrTable numbers (count + 1) ∷ instr.End ∷ blocks_code all in
      let tail : List Instr = choice_code count ++ blocks_code all in
      let nest : List Instr = replicate count (instr.Block false) ++ tail in
      let start = at (spot st [] (turn_code all)) taken output in
      let chosen = at (spot st' labels table) taken output in
      let enter = led m input taken output (spot st [] (turn_code all)) 1 (spot st (loop_label all ∷ []) nest) ((blocks m).loop st [] false nest) in
      let open_all = subst (λ (bs : List (List Op)). Run (at (spot st (labels_for all bs) nest) taken output) (at (spot st labels tail) taken output) count count) (drop_all count all (omega arith)) (opens goal regs bytes taken output count (omega arith)) in
      let pick = led m input taken output (spot st labels tail) 1 (spot st' labels table) (straight m (instr.LocalGet goal_local ∷ []) table labels st st' refl) in
      let before : Run start chosen (count + 2) (count + 2) = and_then (count + 2) (count + 2) enter (and_then (count + 1) (count + 1) open_all pick (omega arith) (omega arith)) (omega arith) (omega arith) in
      elim (nat_lt goal count) as (λ b. nat_lt goal count ≡ b → Arrives p input start 1 (count + 3) (record { config = placed goal 0 regs memory; taken = taken; output = output })) [
        | true ↦ λ y.
            let h : goal < count = ltb-true goal count y in
            let plain : 0 + goal ≡ goal = omega arith in
            let number : slice_index_or numbers goal (count + 1) ≡ goal = get_or-range_with_len 0 count goal (count + 1) h ∙ plain in
            let outer = labels_for all (drop (suc goal) all) in
            let next : List Instr = blocks_code (drop goal all) in
            let e : drop (slice_index_or numbers goal (count + 1)) labels ≡ label_to next ∷ outer =
            ap (λ k. drop k labels) number ∙ (labels_drop all all goal (omega arith) ∙ labels_from all goal h) in
            let branch = led m input taken output (spot st' labels table) 1 (spot st outer next) ((branches m).table st [] goal labels outer (label_to next) numbers (count + 1) (instr.End ∷ blocks_code all) e) in
            record {
              final = at (spot st outer next) taken output;
              reached = and_then 1 (count + 3) before branch (omega arith) (omega arith);
              lands = record { going = λ _. at_front goal goal regs bytes memory h has; ended = λ le. absurd (omega arith) };
              taken = refl;
              output = refl;
            }
        | false ↦ λ y.
            let le : count ≤ goal = ltb-false goal count y in
            let number : slice_index_or numbers goal (count + 1) ≡ count + 1 = get_or_past numbers goal (count + 1) (omega (arith, length-range_with_len 0 count)) in
            let e : drop (slice_index_or numbers goal (count + 1)) labels ≡ [] = ap (λ k. drop k labels) number ∙ labels_past all all in
            let stop = ended m input taken output (spot st' labels table) ((ends m).by_table st [] goal labels numbers (count + 1) (instr.End ∷ blocks_code all) e) in
            record {
              final = over (spot st' labels table) taken output;
              reached = and_then 1 (count + 3) before stop (omega arith) (omega arith);
              lands = record { going = λ lt. absurd (omega arith); ended = λ _. refl };
              taken = refl;
              output = refl;
            }
      ] refl
