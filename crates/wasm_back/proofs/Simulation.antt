-- The module follows the EIR program.
use Rattle.std.proofs.Common.{◌≡◌, ℕ, suc, ◌+◌, ◌<◌, ◌≤◌, true, false, cond, nat_lt, List, [], ◌∷◌, ◌++◌, length, drop, Option, Some, None, slice_get, unwrap_or, option_and_then, refl, sym, ap, subst, ◌∙◌, arith, append_assoc, pos}
use Rattle.std.specs.FinMap as fin
use Rattle.std.proofs.lemmas.Bool.{ltb-true, ltb-false}
use Rattle.mach_core.specs.declared.machine.Status.TheVariants.{Going, Ended}
use Rattle.mach_core.specs.Rule.{Moment, IsInput, applied, run_from, run, at_start}
use Rattle.mach_core.proofs.Lists.{drop_item}
use Rattle.mach_core.proofs.Runs.{applied-going}
use Rattle.eir_core.specs.declared.ops.Op.{Op}
use Rattle.eir_core.specs.declared.ops.Op.TheVariants.{Jump, JumpIf}
use Rattle.eir_core.specs.Acts.{ops_at}
use Rattle.eir_core.specs.Eir.{Eir, IsEir}
use Rattle.eir_core.specs.Step.{Config, Regs, op_in, op_at, eir_rule, eir_start}
use Rattle.eir_core.specs.Words.{IsWords, IsPlaced}
use Rattle.eir_core.proofs.WordsKept.{eir_start-IsWords, applied-IsWords}
use Rattle.eir_core.proofs.Placed.{eir_start-IsPlaced, applied-IsPlaced}
use Rattle.sim_trait.specs.Alike.{Alike, StandsAs}
use Rattle.wasm_bin.specs.declared.module.Instr.{Instr}
use Rattle.wasm_bin.specs.declared.module.Instr.TheVariants as instr
use Rattle.wasm_rule.specs.Config as wasm
use Rattle.wasm_rule.specs.Rule.{wasm_rule}
use Rattle.wasm_rule.specs.Start.{wasm_start, with_segments}
use Rattle.wasm_code.specs.Emitted.{goal_local, ops_code, op_code, blocks_code, turn_code, main_code, segments_for, module_for}
use Rattle.wasm_build.specs.Lead.{spot, config_at}
use Rattle.wasm_build.proofs.Straightly.{straight}
use Rattle.wasm_back.specs.Laws.{ModuleSimulates, FewStepsLoad, FewStepsFollow, going_round}
use Rattle.wasm_back.specs.Related.{stage_for, around_main, blocks_behind, code_from, Related}
use Rattle.wasm_back.proofs.Leading.{at, led}
use Rattle.wasm_back.proofs.Words.{has_start}
use Rattle.wasm_back.proofs.Rounds.{after_steps, rounds}
use Rattle.wasm_back.proofs.Operations.{source_by, here, rest, does_op}

op_is : (p : Eir) (b i : ℕ) → op_in p b i ≡ slice_get (ops_at p b) i
op_is p b i = elim (slice_get p.blocks b) as (λ o. option_and_then (λ ops. slice_get ops i) o ≡ slice_get (unwrap_or o []) i) [ None ↦ refl | Some ops ↦ refl ]

going_below : (p : Eir) (c : Config) → (eir_rule p).standing c ≡ Going → c.block < length p.blocks
going_below p c e = elim (nat_lt c.block (length p.blocks)) as (λ b. nat_lt c.block (length p.blocks) ≡ b → cond b Going Ended ≡ Going → c.block < length p.blocks) [
  | true ↦ λ y _. ltb-true c.block (length p.blocks) y
  | false ↦ λ y g. cc
] refl e

-- the code of a block from an operation on
code_of_next : (p : Eir) (b : ℕ) (op : Op) (ops : List Op) → code_from p b (op ∷ ops) ≡ op_code (length (blocks_behind p b)) op ++ code_from p b ops
code_of_next p b op ops = append_assoc (op_code (length (blocks_behind p b)) op) (ops_code (length (blocks_behind p b)) ops) (instr.End ∷ blocks_code (blocks_behind p b))

-- a step of the program, and the steps of the module that follow it
record Follows (p : Eir) (input : List ℕ) (s : Moment Config) (m : Moment wasm.Config) : Type 0 where
  steps : ℕ
  some : 1 ≤ steps
  few : steps ≤ 8 + going_round (length p.blocks) (op_at p s.config)
  alike : Alike (Related p (module_for p)) (applied (eir_rule p) input s) (run_from (wasm_rule (module_for p)) input m steps)

follows : (p : Eir) (input : List ℕ) → IsEir p → IsInput input → (s : Moment Config) (m : Moment wasm.Config) → Alike (Related p (module_for p)) s m → (eir_rule p).standing s.config ≡ Going → Follows p input s m
follows p input sound bytes s m alike going =
    let rel = alike.related in
    let c = s.config in
    let ops : List Op = ops_at p c.block in
    let hb : c.block < length p.blocks = going_below p c going in
    let is_at = rel.going hb in
    let found = drop_item ops c.index (rel.placed hb) in
    let op : Op = found.0 in
    let code : List Instr = op_code (length (blocks_behind p c.block)) op ++ rest p input s is_at.goal is_at.bytes in
    let ahead : code_from p c.block (drop c.index ops) ≡ code = ap (λ (is : List Op). code_from p c.block is) found.2 ∙ code_of_next p c.block op (drop (suc c.index) ops) in
    let from : Moment wasm.Config = here p input s is_at.goal is_at.bytes code in
    let begins : m ≡ here p input s is_at.goal is_at.bytes (code_from p c.block (drop c.index ops)) = (λ i. record { config = is_at.is i; taken = alike.taken i; output = alike.output i }) in
    let same : m ≡ from = begins ∙ ap (λ (is : List Instr). here p input s is_at.goal is_at.bytes is) ahead in
    let is : op_at p c ≡ Some op = op_is p c.block c.index ∙ found.1 in
    let s' : Moment Config = source_by p input s (Some op) in
    let source : applied (eir_rule p) input s ≡ s' = applied-going (eir_rule p) input s going ∙ ap (λ o. source_by p input s o) is in
    let words : IsWords s'.config = subst (λ (x : Moment Config). IsWords x.config) source (applied-IsWords p input s bytes rel.words) in
    let placed' : IsPlaced p s'.config = subst (λ (x : Moment Config). IsPlaced p x.config) source (applied-IsPlaced p input s sound rel.placed) in
    let does = does_op p input s is_at.goal is_at.bytes is_at.has rel.words hb op in
    let n = does.reached.count in
    let last : Alike (Related p (module_for p)) s' does.final = record {
      related = record { words = words; placed = placed'; going = does.lands.going; ended = does.lands.ended };
      taken = does.taken;
      output = does.output;
    } in
    let arrives : does.final ≡ run_from (wasm_rule (module_for p)) input m n = sym (ap (λ (x : Moment wasm.Config). run_from (wasm_rule (module_for p)) input x n) same ∙ does.reached.ends) in
    record {
      steps = n;
      some = does.reached.enough;
      few = subst (λ o. n ≤ 8 + going_round (length p.blocks) o) (sym is) does.reached.few;
      alike = subst (λ (x : Moment Config). Alike (Related p (module_for p)) x (run_from (wasm_rule (module_for p)) input m n)) (sym source)
          (subst (λ (y : Moment wasm.Config). Alike (Related p (module_for p)) s' y) arrives last);
    }

pub few_steps_follow : FewStepsFollow
few_steps_follow p input s m sound small bytes alike going =
    let f = follows p input sound bytes s m alike going in
    (f.steps, f.some, f.few, f.alike)

-- a module starts with nothing in its registers, in front of the code
starts : (p : Eir) → wasm_start (module_for p) ≡ config_at around_main (spot (stage_for (eir_start p).regs 0 (with_segments fin.empty (segments_for p.words)) []) [] (main_code p))
starts p = refl

pub few_steps_load : FewStepsLoad
few_steps_load p sound small input bytes =
    let m = module_for p in
    let n = length p.blocks in
    let regs : Regs = (eir_start p).regs in
    let laid = with_segments fin.empty (segments_for p.words) in
    let first : Moment Config = at_start (eir_start p) in
    let from = at (spot (stage_for regs 0 laid []) [] (main_code p)) 0 [] in
    let begins : at_start (wasm_start m) ≡ from = ap (λ (d : wasm.Config). at_start d) (starts p) in
    let sets = led m input 0 [] (spot (stage_for regs 0 laid []) [] (main_code p)) 2 (spot (stage_for regs p.start laid []) [] (turn_code p.blocks))
    (straight m (instr.Const (pos p.start) ∷ instr.LocalSet goal_local ∷ []) (turn_code p.blocks) [] (stage_for regs 0 laid []) (stage_for regs p.start laid []) refl) in
    let goes = after_steps 1 (n + 5) sets (rounds p input p.start regs laid (eir_start p).memory 0 [] (has_start p)) (omega arith) (omega arith) in
    let k = goes.reached.count in
    let arrives : goes.final ≡ run (wasm_rule m) (wasm_start m) input k = sym (ap (λ (x : Moment wasm.Config). run_from (wasm_rule m) input x k) begins ∙ goes.reached.ends) in
    let last : Alike (Related p m) first goes.final = record {
      related = record { words = eir_start-IsWords p; placed = eir_start-IsPlaced p sound; going = goes.lands.going; ended = goes.lands.ended };
      taken = goes.taken;
      output = goes.output;
    } in
    (k, goes.reached.few, subst (λ (y : Moment wasm.Config). Alike (Related p m) first y) arrives last)

stands_as : (p : Eir) (c : Config) (d : wasm.Config) → Related p (module_for p) c d → StandsAs (eir_rule p) (wasm_rule (module_for p)) c d
stands_as p c d rel = elim (nat_lt c.block (length p.blocks)) as (λ b. nat_lt c.block (length p.blocks) ≡ b → StandsAs (eir_rule p) (wasm_rule (module_for p)) c d) [
  | true ↦ λ y.
      let is_at = rel.going (ltb-true c.block (length p.blocks) y) in
      let e : (eir_rule p).standing c ≡ Going = ap (λ b. cond b Going Ended) y in
      let f : d.status ≡ Going = ap (λ (x : wasm.Config). x.status) is_at.is in
      record { no_fault = λ n h. cc; ended = ((λ h. absurd (apart p d c e f h)), (λ h. absurd (apart' p d c e f h))) }
  | false ↦ λ y.
      let e : (eir_rule p).standing c ≡ Ended = ap (λ b. cond b Going Ended) y in
      let f : d.status ≡ Ended = rel.ended (ltb-false c.block (length p.blocks) y) in
      record { no_fault = λ n h. cc; ended = ((λ _. e), (λ _. f)) }
] refl
  where
    apart : (p : Eir) (d : wasm.Config) (c : Config) → (eir_rule p).standing c ≡ Going → d.status ≡ Going → d.status ≡ Ended → ⊥
    apart p d c e f h = cc

    apart' : (p : Eir) (d : wasm.Config) (c : Config) → (eir_rule p).standing c ≡ Going → d.status ≡ Going → (eir_rule p).standing c ≡ Ended → ⊥
    apart' p d c e f h = cc

round_few : (n : ℕ) (op : Option Op) → going_round n op ≤ n + 3
round_few n None = omega arith
round_few n (Some (Jump target)) = omega arith
round_few n (Some (JumpIf t v r w)) = omega arith
round_few n (Some op) = omega arith

pub module_simulates : ModuleSimulates
module_simulates p sound small = record {
  counts = omega arith;
  loads = λ input bytes. let l = few_steps_load p sound small input bytes in (l.0, omega (arith, l.1), l.2);
  steps = λ input s m bytes alike going.
      let f = few_steps_follow p input s m sound small bytes alike going in
      (f.0, f.1, omega (arith, f.2, round_few (length p.blocks) (op_at p s.config)), f.3);
  stands = λ c d rel. stands_as p c d rel;
}
