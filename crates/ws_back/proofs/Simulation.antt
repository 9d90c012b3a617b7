-- The Whitespace program follows the EIR program.
use Rattle.std.proofs.Common.{◌≡◌, ℕ, zero, suc, ◌+◌, ◌*◌, ◌^◌, ◌<◌, ◌≤◌, true, false, cond, nat_lt, List, [], ◌∷◌, ◌++◌, length, drop, Option, Some, None, slice_get, unwrap_or, option_and_then, refl, sym, ap, subst, ◌∙◌, arith, add-one, append_assoc, length-append}
use Rattle.std.specs.FinMap as fin
use Rattle.std.proofs.lemmas.Bool.{ltb-true, ltb-false, lt-ltb}
use Rattle.std.proofs.lemmas.List.{length-drop}
use Rattle.mach_core.specs.declared.machine.Status.TheVariants.{Going, Ended, Fault}
use Rattle.mach_core.specs.Reaches.{Reaches}
use Rattle.mach_core.specs.Rule.{Moment, IsInput, if_going, applied, run_from, run, at_start}
use Rattle.mach_core.proofs.Runs.{applied-going}
use Rattle.mach_core.proofs.Reaching.{stays_there, and_then, one_step, looser}
use Rattle.eir_core.specs.declared.ops.Op.{Op}
use Rattle.eir_core.specs.declared.ops.Op.TheVariants.{Jump, JumpIf}
use Rattle.eir_core.specs.declared.ops.Operand.TheVariants.{Reg as register, Imm}
use Rattle.eir_core.specs.Eir.{Eir, IsEir}
use Rattle.eir_core.specs.Step.{Config, op_in, op_at, eir_rule, eir_start}
use Rattle.eir_core.specs.Words.{IsWords, IsPlaced}
use Rattle.eir_core.proofs.WordsKept.{eir_start-IsWords, applied-IsWords}
use Rattle.eir_core.proofs.Placed.{eir_start-IsPlaced, applied-IsPlaced}
use Rattle.sim_trait.specs.Alike.{Alike, StandsAs}
use Rattle.sim_trait.specs.Digits.{digit_count}
use Rattle.sim_trait.proofs.Digits.{digit_count-small}
use Rattle.ws_lang.specs.Instruction.{Instruction, Mark, End}
use Rattle.ws_lang.specs.Instruction as ws
use Rattle.ws_lang.specs.Step.{Heap, Config as WsConfig, ws_rule, ws_start}
use Rattle.ws_back.specs.Code.{end_label, block_label, goal_label, words_code, dispatch_code, ops_code, op_code, blocks_code, end_code, code_of}
use Rattle.ws_back.specs.Related.{Holds, rest_of, Related}
use Rattle.ws_back.specs.Laws.{CodeSimulates, CodeIsSharp, FewStepsFollow, looking_up}
use Rattle.mach_core.proofs.Lists.{after_head, skipped, drop_none, drop_list, drop_item, none_past}
use Rattle.std.proofs.lemmas.List.{drop_all}
use Rattle.ws_back.proofs.Straight.{at, one_quiet}
use Rattle.ws_back.proofs.Places.{Layout, layout_of}
use Rattle.ws_back.proofs.Lengths.{most_of}
use Rattle.ws_back.proofs.Jumps.{passes_mark, jumps, rest_ended, ahead_of_goal}
use Rattle.ws_back.proofs.Operations.{block_at, later, source_by, does_op}
use Rattle.ws_back.proofs.Loading.{stored, loads_words, length-words_code, holds_start}

op_is : (p : Eir) (b i : ℕ) → op_in p b i ≡ slice_get (block_at p b) i
op_is p b i = elim (slice_get p.blocks b) as (λ o. option_and_then (λ ops. slice_get ops i) o ≡ slice_get (unwrap_or o []) i) [ None ↦ refl | Some ops ↦ refl ]

-- there is always code ahead
rest_long : (p : Eir) (b i : ℕ) → 1 ≤ length (rest_of p b i)
rest_long p b zero = omega (arith, length-append {A = Instruction})
rest_long p b (suc i) = omega (arith, length-append {A = Instruction})

place_inside : (p : Eir) (code : List Instruction) (k b i : ℕ) → drop k code ≡ rest_of p b i → k < length code
place_inside p code k b i e = omega (arith, rest_long p b i, ap length e, length-drop k code)

module _ (p : Eir) (code : List Instruction) (layout : Layout p code) (input : List ℕ) where
  abbrev count : ℕ
  count = length p.blocks

  -- behind the last block there is the end, whatever the index
  rest_ends : (b i : ℕ) → count ≤ b → rest_of p b i ≡ end_code
  rest_ends b zero h = rest_ended p code layout input b h
  rest_ends b (suc i) h =
      ap (λ bs. ops_code count (drop (suc i) (block_at p b)) ++ (blocks_code count (suc b) bs ++ end_code)) (drop_all (suc b) p.blocks (omega arith))
      ∙ ap (λ o. ops_code count (drop (suc i) (unwrap_or o [])) ++ end_code) (none_past p.blocks b h)

  -- past the mark of a block, if the target stands at it
  record Enters (h : Heap) (t : ℕ) (o : List ℕ) (k b i : ℕ) : Type 0 where
    place : ℕ
    reached : Reaches (ws_rule code) input (at h t o k []) (at h t o place []) 0 1
    ahead : drop place code ≡ ops_code count (drop i (block_at p b)) ++ (blocks_code count (suc b) (drop (suc b) p.blocks) ++ end_code)

  enters : (h : Heap) (t : ℕ) (o : List ℕ) (k b i : ℕ) → b < count → drop k code ≡ rest_of p b i → Enters h t o k b i
  enters h t o k b zero hb e =
      let more = blocks_code count (suc b) (drop (suc b) p.blocks) in
      let next : List Instruction = ops_code count (block_at p b) ++ (more ++ end_code) in
      let there : drop k code ≡ Mark (block_label b) ∷ next =
      e ∙ (ap (λ bs. blocks_code count b bs ++ end_code) (drop_list p.blocks b hb) ∙ ap (λ (is : List Instruction). Mark (block_label b) ∷ is) (append_assoc (ops_code count (block_at p b)) more end_code)) in
      record {
        place = k + 1;
        reached = looser 0 1 (passes_mark code input h t o k [] (block_label b) next there) (omega arith) (omega arith);
        ahead = ap (λ i. drop i code) (add-one k) ∙ (after_head code k (Mark (block_label b)) next there ∙ ap (λ ops. ops_code count ops ++ (more ++ end_code)) (sym (drop_none (block_at p b))));
      }
  enters h t o k b (suc i) hb e = record { place = k; reached = looser 0 1 (stays_there (ws_rule code) input (at h t o k [])) (omega arith) (omega arith); ahead = e }

  -- where the program has ended, the target runs to its end
  record Finishes (s : Moment Config) (m : Moment WsConfig) : Type 0 where
    final : Moment WsConfig
    reached : Reaches (ws_rule code) input m final 0 2
    alike : Alike (Related p code) s final

  finishes : (s : Moment Config) (h : Heap) (k : ℕ) → IsWords s.config → IsPlaced p s.config → Holds h s.config.regs s.config.memory → drop k code ≡ rest_of p s.config.block s.config.index → Finishes s (at h s.taken s.output k [])
  finishes s h k words placed held e =
      let m = at h s.taken s.output k [] in
      elim (nat_lt s.config.block count) as (λ b. nat_lt s.config.block count ≡ b → Finishes s m) [
        | true ↦ λ y.
            let lt : s.config.block < count = ltb-true s.config.block count y in
            record {
              final = m;
              reached = looser 0 2 (stays_there (ws_rule code) input m) (omega arith) (omega arith);
              alike = record {
                related = record { words = words; placed = placed; holds = held; stack = refl; returns = refl; reading = refl; going = λ _. record { status = refl; rest = e }; ended = λ le. absurd (omega arith) };
                taken = refl;
                output = refl;
              };
            }
        | false ↦ λ y.
            let le : count ≤ s.config.block = ltb-false s.config.block count y in
            let there : drop k code ≡ Mark end_label ∷ End ∷ [] = e ∙ rest_ends s.config.block s.config.index le in
            let next : drop (k + 1) code ≡ End ∷ [] = ap (λ i. drop i code) (add-one k) ∙ after_head code k (Mark end_label) (End ∷ []) there in
            let over : WsConfig = record { place = k + 1; stack = []; heap = h; returns = []; reading = None; status = Ended } in
            let last : Moment WsConfig = record { config = over; taken = s.taken; output = s.output } in
            let second = one_step (ws_rule code) input (at h s.taken s.output (k + 1) []) last (one_quiet code input h s.taken s.output (k + 1) [] End [] over next refl) in
            record {
              final = last;
              reached = and_then 0 2 (passes_mark code input h s.taken s.output k [] end_label (End ∷ []) there) second (omega arith) (omega arith);
              alike = record {
                related = record { words = words; placed = placed; holds = held; stack = refl; returns = refl; reading = refl; going = λ lt. absurd (omega arith); ended = λ _. refl };
                taken = refl;
                output = refl;
              };
            }
      ] refl

  going_below : (c : Config) → (eir_rule p).standing c ≡ Going → c.block < count
  going_below c e = elim (nat_lt c.block count) as (λ b. nat_lt c.block count ≡ b → cond b Going Ended ≡ Going → c.block < count) [
    | true ↦ λ y _. ltb-true c.block count y
    | false ↦ λ y g. cc
  ] refl e

  -- a step of the program, and the steps of the target that follow it
  pub record Follows (s : Moment Config) (m : Moment WsConfig) : Type 0 where
    pub op : Op
    pub is : op_at p s.config ≡ Some op
    pub steps : ℕ
    pub some : 1 ≤ steps
    pub few : steps ≤ most_of count op + 3
    pub alike : Alike (Related p code) (applied (eir_rule p) input s) (run_from (ws_rule code) input m steps)

  pub follows : IsEir p → IsInput input → (s : Moment Config) (m : Moment WsConfig) → Alike (Related p code) s m → (eir_rule p).standing s.config ≡ Going → Follows s m
  follows sound bytes s m alike going =
      let rel = alike.related in
      let c = s.config in
      let h = m.config.heap in
      let k = m.config.place in
      let hb : c.block < count = going_below c going in
      let hi : c.index < length (block_at p c.block) = rel.placed hb in
      let stands = rel.going hb in
      let here : at h s.taken s.output k [] ≡ m =
      (λ i. record { config = record { place = k; stack = sym rel.stack i; heap = h; returns = sym rel.returns i; reading = sym rel.reading i; status = sym stands.status i }; taken = sym alike.taken i; output = sym alike.output i }) in
      let enter = enters h s.taken s.output k c.block c.index hb stands.rest in
      let found = drop_item (block_at p c.block) c.index hi in
      let op : Op = found.0 in
      let ahead : drop enter.place code ≡ op_code count op ++ later p c.block c.index =
      enter.ahead
      ∙ (ap (λ ops. ops_code count ops ++ (blocks_code count (suc c.block) (drop (suc c.block) p.blocks) ++ end_code)) found.2
      ∙ append_assoc (op_code count op) (ops_code count (drop (suc c.index) (block_at p c.block))) (blocks_code count (suc c.block) (drop (suc c.block) p.blocks) ++ end_code)) in
      let is : op_at p c ≡ Some op = op_is p c.block c.index ∙ found.1 in
      let source : applied (eir_rule p) input s ≡ source_by p input s (Some op) = applied-going (eir_rule p) input s going ∙ ap (λ o. source_by p input s o) is in
      let s' : Moment Config = source_by p input s (Some op) in
      let words : IsWords s'.config = subst (λ (x : Moment Config). IsWords x.config) source (applied-IsWords p input s bytes rel.words) in
      let placed : IsPlaced p s'.config = subst (λ (x : Moment Config). IsPlaced p x.config) source (applied-IsPlaced p input s sound rel.placed) in
      let does = does_op p code layout input s h enter.place rel.holds rel.words op ahead in
      let finish = finishes s' does.heap does.place words placed does.held does.ahead in
      let some_op = and_then 1 (most_of count op + 1) enter.reached does.reached (omega arith) (omega arith) in
      let whole = and_then 1 (most_of count op + 3) some_op finish.reached (omega arith) (omega arith) in
      record {
        op = op;
        is = is;
        steps = whole.count;
        some = whole.enough;
        few = whole.few;
        alike = subst (λ x. Alike (Related p code) x (run_from (ws_rule code) input m whole.count)) (sym source)
            (subst (λ y. Alike (Related p code) s' y) (sym (ap (λ x. run_from (ws_rule code) input x whole.count) (sym here) ∙ whole.ends)) finish.alike);
      }

  pub stands_as : (c : Config) (d : WsConfig) → Related p code c d → StandsAs (eir_rule p) (ws_rule code) c d
  stands_as c d rel = elim (nat_lt c.block count) as (λ b. nat_lt c.block count ≡ b → StandsAs (eir_rule p) (ws_rule code) c d) [
    | true ↦ λ y.
        let stands = rel.going (ltb-true c.block count y) in
        let e : (eir_rule p).standing c ≡ Going = ap (λ b. cond b Going Ended) y in
        let inside : nat_lt d.place (length code) ≡ true = lt-ltb d.place (length code) (place_inside p code d.place c.block c.index stands.rest) in
        let f : (ws_rule code).standing d ≡ Going = ap (λ st. if_going st (cond (nat_lt d.place (length code)) Going (Fault 4)) st) stands.status ∙ ap (λ b. cond b Going (Fault 4)) inside in
        record { no_fault = λ n h. cc; ended = ((λ h. absurd (apart d c e f h)), (λ h. absurd (apart' d c e f h))) }
    | false ↦ λ y.
        let e : (eir_rule p).standing c ≡ Ended = ap (λ b. cond b Going Ended) y in
        let f : (ws_rule code).standing d ≡ Ended = ap (λ st. if_going st (cond (nat_lt d.place (length code)) Going (Fault 4)) st) (rel.ended (ltb-false c.block count y)) in
        record { no_fault = λ n h. cc; ended = ((λ _. e), (λ _. f)) }
  ] refl
    where
      apart : (d : WsConfig) (c : Config) → (eir_rule p).standing c ≡ Going → (ws_rule code).standing d ≡ Going → (ws_rule code).standing d ≡ Ended → ⊥
      apart d c e f h = cc

      apart' : (d : WsConfig) (c : Config) → (eir_rule p).standing c ≡ Going → (ws_rule code).standing d ≡ Going → (eir_rule p).standing c ≡ Ended → ⊥
      apart' d c e f h = cc

-- the data words are stored, and the target goes to the block that comes first
pub loads : (p : Eir) → IsEir p → length p.blocks ≤ 2 ^ 17 → (input : List ℕ) → (k : ℕ) × (k ≤ 3 * length p.words + 3) × Alike (Related p (code_of p)) (at_start (eir_start p)) (run (ws_rule (code_of p)) (ws_start (code_of p)) input k)
loads p sound few input =
    let code = code_of p in
    let layout = layout_of p few in
    let n = length p.blocks in
    let first : Moment Config = at_start (eir_start p) in
    let h = stored fin.empty 0 p.words in
    let next : List Instruction = ws.Jump (goal_label n p.start) ∷ (dispatch_code n ++ (blocks_code n 0 p.blocks ++ end_code)) in
    let e : drop 0 code ≡ words_code 0 p.words ++ next = drop_none code in
    let j = 0 + length (words_code 0 p.words) in
    let stores : Reaches (ws_rule code) input (at fin.empty 0 [] 0 []) (at h 0 [] j []) 0 (3 * length p.words) = record {
      count = length (words_code 0 p.words);
      enough = omega arith;
      few = omega (arith, length-words_code 0 p.words);
      ends = (loads_words code input fin.empty 0 p.words).runs 0 0 [] next e;
    } in
    let there = skipped code 0 (words_code 0 p.words) next e in
    let goes = jumps code input h 0 [] j [] (goal_label n p.start) (dispatch_code n ++ (blocks_code n 0 p.blocks ++ end_code)) there in
    let finish = finishes p code layout input first h _ (eir_start-IsWords p) (eir_start-IsPlaced p sound) (holds_start p) (ahead_of_goal p code layout input p.start) in
    let whole = and_then 0 (3 * length p.words + 3) (and_then 0 (3 * length p.words + 1) stores goes (omega arith) (omega arith)) finish.reached (omega arith) (omega arith) in
    (whole.count, whole.few, subst (λ y. Alike (Related p code) first y) (sym whole.ends) finish.alike)

-- the numbers of the bound
most_few : (n : ℕ) (op : Op) → most_of n op + 3 ≤ 24 + looking_up n (Some op)
most_few n (Jump (register r)) = omega arith
most_few n (Jump (Imm w)) = omega arith
most_few n (JumpIf t (register x) r v) = omega arith
most_few n (JumpIf t (Imm w) r v) = omega arith
most_few n op = omega arith

looking_up-few : (n : ℕ) (op : Option Op) → looking_up n op ≤ 6 * digit_count n + 8
looking_up-few n None = omega arith
looking_up-few n (Some (Jump (register r))) = omega arith
looking_up-few n (Some (Jump (Imm w))) = omega arith
looking_up-few n (Some (JumpIf t (register x) r v)) = omega arith
looking_up-few n (Some (JumpIf t (Imm w) r v)) = omega arith
looking_up-few n (Some op) = omega arith

pub few_steps_follow : FewStepsFollow
few_steps_follow p input s m sound small bytes alike going =
    let few : length p.blocks ≤ 2 ^ 17 = omega arith in
    let f = follows p (code_of p) (layout_of p few) input sound bytes s m alike going in
    let short : most_of (length p.blocks) f.op + 3 ≤ 24 + looking_up (length p.blocks) (op_at p s.config) =
    subst (λ o. most_of (length p.blocks) f.op + 3 ≤ 24 + looking_up (length p.blocks) o) (sym f.is) (most_few (length p.blocks) f.op) in
    (f.steps, f.some, omega (arith, f.few), f.alike)

pub code_is_sharp : CodeIsSharp
code_is_sharp p sound small =
    let few : length p.blocks ≤ 2 ^ 17 = omega arith in
    record {
      loads = λ input bytes. let l = loads p sound few input in (l.0, omega (arith, l.1), l.2);
      steps = λ input s m bytes alike going.
          let f = few_steps_follow p input s m sound small bytes alike going in
          (f.0, f.1, omega (arith, f.2, looking_up-few (length p.blocks) (op_at p s.config)), f.3);
    }

pub code_simulates : CodeSimulates
code_simulates p sound small =
    let few : length p.blocks ≤ 2 ^ 17 = omega arith in
    let sharp = code_is_sharp p sound small in
    record {
      counts = omega arith;
      loads = λ input bytes. let l = sharp.loads input bytes in (l.0, omega (arith, l.1), l.2);
      steps = λ input s m bytes alike going.
          let f = few_steps_follow p input s m sound small bytes alike going in
          (f.0, f.1, omega (arith, f.2, looking_up-few (length p.blocks) (op_at p s.config), digit_count-small (length p.blocks)), f.3);
      stands = λ c d rel. stands_as p (code_of p) (layout_of p few) [] c d rel;
    }
