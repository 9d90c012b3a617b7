-- Each step of the program is followed by its board.
use Rattle.std.proofs.Common.{◌≡◌, ◌≢◌, inl, inr, ℕ, zero, suc, ◌+◌, ◌-◌, ◌*◌, ◌%◌, ◌^◌, ◌<◌, ◌≤◌, max, Bool, true, false, cond, nat_lt, List, [], ◌∷◌, ◌++◌, length, Option, Some, None, slice_get, unwrap_or, option_and_then, pos, ℤ, refl, sym, ap, subst, ◌∙◌, arith, append-nil}
use Rattle.std.proofs.Math.Nat.{mul-le-mul_right, mul-le-mul_left}
use Rattle.std.proofs.lemmas.Bool.{ltb-true, ltb-false}
use Rattle.mach_core.specs.declared.machine.Status.TheVariants.{Going, Ended, Fault}
use Rattle.mach_core.specs.Rule.{Moment, IsInput, input_at, applied, run_from, at_start}
use Rattle.mach_core.proofs.Runs.{applied-going, run_from-add}
use Rattle.mach_core.proofs.Lists.{drop_item}
use Rattle.word24.specs.Word.{near, sum_word, difference_word}
use Rattle.eir_core.specs.declared.ops.Reg.{Reg}
use Rattle.eir_core.specs.declared.ops.Reg.TheVariants.{A}
use Rattle.eir_core.specs.declared.ops.Cond.{Cond}
use Rattle.eir_core.specs.declared.ops.Operand.{Operand}
use Rattle.eir_core.specs.declared.ops.Operand.TheVariants.{Reg as register, Imm}
use Rattle.eir_core.specs.declared.ops.Op.{Op}
use Rattle.eir_core.specs.declared.ops.Op.TheVariants.{Mov, Add, Sub, Load, Store, Putc, Getc, Exit, Set, Jump, JumpIf}
use Rattle.eir_core.specs.Eir.{Eir, IsEir, size_of}
use Rattle.eir_core.specs.Memory.{Memory, word_at, with_word}
use Rattle.eir_core.specs.Reach.{near_at, near_of}
use Rattle.eir_core.specs.Step.{Config, Regs, reg_of, with_reg, value_of, holds, op_in, op_at, length_at, onward, going_to, after, takes, bytes_of, eir_rule}
use Rattle.eir_core.specs.Words.{IsWords, IsPlaced}
use Rattle.eir_core.proofs.WordAt.{word_at-with_word_same, word_at-with_word_other}
use Rattle.eir_core.proofs.WordsKept.{applied-IsWords}
use Rattle.eir_core.proofs.Placed.{applied-IsPlaced}
use Rattle.sim_trait.specs.Alike.{Alike, StandsAs}
use Rattle.piet_image.specs.Raster.{Raster}
use Rattle.piet_lang.specs.Rule.{rule_of}
use Rattle.piet_lang.specs.Step.{Config as PietConfig}
use Rattle.piet_lane.specs.declared.command.Command.{Command}
use Rattle.piet_lane.specs.Lanes.{lanes_of}
use Rattle.piet_lane.specs.Runs.{Values, AtEnd}
use Rattle.piet_stack.specs.declared.operation.Ways.{Ways}
use Rattle.piet_stack.specs.Code.{number_code, no_lane, block_lane, op_code, second_code}
use Rattle.piet_stack.specs.Makes.{values_at, Does, Makes}
use Rattle.piet_stack.specs.Stack.{pairs, place_of, laid, HasPairs}
use Rattle.piet_stack.proofs.Effects.{next, named, from_named, number}
use Rattle.piet_stack.proofs.Values.{bed}
use Rattle.piet_stack.proofs.Deep.{loads, stores}
use Rattle.piet_stack.proofs.Pairs.{parted}
use Rattle.piet_back.specs.declared.layout.Layout.{Layout}
use Rattle.piet_back.specs.Lanes.{layout_of, flat, op_lane, second_lane, ensure_lane, on_lane, ways_at, lanes}
use Rattle.piet_back.specs.Related.{op_number, RunsProgram, IsLaid, Related}
use Rattle.piet_back.proofs.Lookups.{length-flat, before_next, before_few, flat_at, op_is, second_is}
use Rattle.piet_back.proofs.Lengths.{IsNear, op_few, second_few}
use Rattle.piet_back.proofs.Operations.{mov_makes, add_makes, sub_makes, set_makes, exit_makes, jump_makes, jump_if_makes, access_makes, putc_does, getc_does}
use Rattle.piet_back.proofs.Transits.{at_config, Ready, Arrives, transit}
use Rattle.piet_back.proofs.Simulation.{word_of_operand, Heads, Leads, Onward, goes_onward, place_few, source_by, IsTiny, on_small, ways_near, Settles, Lands, lands_by, settle_any, Grown, grow, first_most, more_most}

-- the most steps that follow a step, with so many lanes and so near an address
abbrev pub most_by : ℕ → ℕ → ℕ
most_by size far = 64 * (size + 480 + 1) + ((64 * (size + 140 + 1) + 64 * (size + 0 + 1) + (far + 1) * (64 * (size + 140 + 1) + 64 * (size + 160 + 1))) + (64 * (size + 480 + 1) + 64 * (2 * size + 60)))

module _ (p : Eir) (q : Raster) (input : List ℕ) (sound : IsEir p) (tiny : IsTiny p) (s : Moment Config) (m : Moment PietConfig) (same : Alike (Related p q) s m) (ops : List Op) (block : slice_get p.blocks s.config.block ≡ Some ops) (below : s.config.index < length ops)
    (within : s.config.block < length p.blocks) where
  abbrev c : Config
  c = s.config

  abbrev g : Layout
  g = layout_of p

  abbrev size : ℕ
  size = length (lanes p)

  pub there : IsLaid p q c m.config
  there = same.related.going within

  abbrev n : ℕ
  n = there.count

  abbrev k : ℕ
  k = op_number p c.block c.index

  abbrev w : Ways
  w = ways_at g k

  abbrev mem : List ℤ
  mem = pairs (word_at c.memory) n

  abbrev bottom : List ℤ
  bottom = laid c.regs c.memory n

  small : (v : Operand) → value_of c.regs v < 2 ^ 24
  small v = word_of_operand c.regs v same.related.words.regs

  near_on : w.on < 2 ^ 15
  near_on = on_small p k tiny

  numbered : k < g.ops
  numbered =
      let a = before_next p.blocks c.block (c.block + 1) ops block refl in
      let b = before_few p.blocks (c.block + 1) in
      let d = length-flat p.blocks in
      omega (arith, a, b, d, below)

  ways : IsNear w
  ways = ways_near p k tiny numbered

  few_blocks : w.blocks < 2 ^ 15
  few_blocks = ways.blocks

  abbrev Ends : Moment Config → ℕ → Type 0
  Ends t most = Lands p q there.reach there.runs input tiny t m most

  ready : Ready p q there.reach there.runs input m (op_lane g k) bottom s.taken s.output
  ready = record {
    lane = there.lane;
    ends = subst (λ (st : List ℤ). AtEnd (lanes_of (lanes p)) there.reach there.lane (values_at st s.taken s.output) m) there.stack
        (at_config (lanes_of (lanes p)) there.reach there.lane (values_at m.config.stack 0 []) (at_start m.config) there.ends s.taken s.output m refl same.taken same.output);
  }

  wider : (t : Moment Config) (a b : ℕ) → a ≤ b → Ends t a → Ends t b
  wider t a b le x = record { steps = x.steps; some = x.some; few = let f = x.few in omega (arith, f, le); alike = x.alike }

  -- the lane of the operation, and what follows
  plain : (op : Op) (t : Moment Config) (lane : ℕ) → slice_get (flat p.blocks) k ≡ Some op → Leads p t.config lane → HasPairs t.config.memory n → IsWords t.config → IsPlaced p t.config
      → Does input (op_code w op) (values_at bottom s.taken s.output) (values_at (pos lane ∷ laid t.config.regs t.config.memory n) t.taken t.output) → Ends t (most_by size 0)
  plain op t lane is leads paired words placed does =
      let st = laid t.config.regs t.config.memory n in
      let goes = transit p q there.reach there.runs input m (op_lane g k) bottom s.taken s.output (op_code w op) 480 lane st t.taken t.output ready (op_is p k op is) (omega (arith, numbered, tiny.small)) (op_few w ways op) does in
      wider t (64 * (size + 480 + 1) + 64 * (2 * size + 60)) (most_by size 0) (omega arith)
      (lands_by p q there.reach there.runs input tiny t m (64 * (size + 480 + 1)) (64 * (2 * size + 60)) lane st t.taken t.output goes (λ z here. settle_any p q there.reach there.runs input tiny t z lane n leads words placed paired here))

  -- and on to what comes next, with these registers
  on_lands : (op : Op) (regs : Regs) (taken : ℕ) (output : List ℕ) → slice_get (flat p.blocks) k ≡ Some op → IsWords (onward p c regs c.memory) → IsPlaced p (onward p c regs c.memory)
      → Does input (op_code w op) (values_at bottom s.taken s.output) (values_at (pos w.on ∷ laid regs c.memory n) taken output) → Ends (record { config = onward p c regs c.memory; taken = taken; output = output }) (most_by size 0)
  on_lands op regs taken output is words placed does =
      let on = goes_onward p c regs c.memory ops sound block below within in
      let stack : laid regs c.memory n ≡ laid (onward p c regs c.memory).regs (onward p c regs c.memory).memory n = ap (λ r. laid r c.memory n) (sym on.regs) ∙ ap (λ (z : Memory). laid (onward p c regs c.memory).regs z n) (sym on.memory) in
      plain op (record { config = onward p c regs c.memory; taken = taken; output = output }) w.on is (inl on.heads) (subst (λ (z : Memory). HasPairs z n) (sym on.memory) there.pairs) words placed
      (subst (λ (z : List ℤ). Does input (op_code w op) (values_at bottom s.taken s.output) (values_at (pos w.on ∷ z) taken output)) stack does)

  -- without a byte
  silent : (code : List Command) (st : List ℤ) → Makes code bottom st → Does input code (values_at bottom s.taken s.output) (values_at st s.taken (s.output ++ []))
  silent code st makes = subst (λ (o : List ℕ). Does input code (values_at bottom s.taken s.output) (values_at st s.taken o)) (sym (append-nil s.output)) (makes.does input s.taken s.output)

  jump_lands : (op : Op) (b : Bool) (x : ℕ) → slice_get (flat p.blocks) k ≡ Some op → IsWords (cond b (going_to c x) (onward p c c.regs c.memory)) → IsPlaced p (cond b (going_to c x) (onward p c c.regs c.memory))
      → Makes (op_code w op) bottom (pos (cond b (block_lane (length p.blocks) x) w.on) ∷ bottom) → Ends (record { config = cond b (going_to c x) (onward p c c.regs c.memory); taken = s.taken; output = s.output ++ [] }) (most_by size 0)
  jump_lands op true x is words placed makes =
      plain op (record { config = going_to c x; taken = s.taken; output = s.output ++ [] }) (block_lane (length p.blocks) x) is (inr (refl, refl)) there.pairs words placed (silent (op_code w op) (pos (block_lane (length p.blocks) x) ∷ bottom) makes)
  jump_lands op false x is words placed makes = on_lands op c.regs s.taken (s.output ++ []) is words placed (silent (op_code w op) (pos w.on ∷ bottom) makes)

  -- later
  after_some : (t : Moment Config) (j a b : ℕ) → j ≤ a → Lands p q there.reach there.runs input tiny t (run_from (rule_of q) input m j) b → Ends t (a + b)
  after_some t j a b le x = record {
    steps = j + x.steps;
    some = let z = x.some in omega (arith, z);
    few = let f = x.few in omega (arith, f, le);
    alike = subst (λ (z : Moment PietConfig). Alike (Related p q) t z) (sym (run_from-add (rule_of q) input m j x.steps)) x.alike;
  }

  -- an access: the pairs up to the address, and the second lane
  access : (op : Op) (v : Operand) (t : Moment Config) → slice_get (flat p.blocks) k ≡ Some op → op_code w op ≡ op_code w (Load A v) → IsWords t.config → IsPlaced p t.config → Leads p t.config w.on
      → ((count : ℕ) → HasPairs c.memory count → near (value_of c.regs v) < count → HasPairs t.config.memory count × Makes (second_code w op) (pos (place_of (value_of c.regs v)) ∷ laid c.regs c.memory count) (pos w.on ∷ laid t.config.regs t.config.memory count))
      → t.taken ≡ s.taken → t.output ≡ s.output → Ends t (most_by size (near (value_of c.regs v)))
  access op v t is code words placed leads makes taken output =
      let a = value_of c.regs v in
      let i = place_of a in
      let asks : Makes (op_code w op) bottom (pos w.ensure ∷ pos w.second ∷ pos i ∷ bottom) = subst (λ (z : List Command). Makes z bottom (pos w.ensure ∷ pos w.second ∷ pos i ∷ bottom)) (sym code) (access_makes w n mem c.regs small near_on v ways.second ways.ensure) in
      let first = transit p q there.reach there.runs input m (op_lane g k) bottom s.taken s.output (op_code w op) 480 w.ensure (pos w.second ∷ pos i ∷ bottom) s.taken s.output ready (op_is p k op is) (omega (arith, numbered, tiny.small)) (op_few w ways op) (asks.does input s.taken s.output) in
      let m1 = run_from (rule_of q) input m first.steps in
      let grown = grow p q there.reach there.runs input tiny (near a + 1) m1 n w.second a c.regs c.memory s.taken s.output (omega arith) (small v) there.pairs first.ready in
      let way = grown.arrives in
      let m2 = run_from (rule_of q) input m1 way.steps in
      let made = makes grown.count grown.paired grown.enough in
      let st = laid t.config.regs t.config.memory grown.count in
      let last = transit p q there.reach there.runs input m2 w.second (pos i ∷ laid c.regs c.memory grown.count) s.taken s.output (second_code w op) 480 w.on st s.taken s.output way.ready (second_is p k op is) (omega (arith, ways.second)) (second_few w ways op) (made.1.does input s.taken s.output) in
      let told = subst (λ (o : List ℕ). Arrives p q there.reach there.runs input m2 (64 * (size + 480 + 1)) w.on st t.taken o) (sym output) (subst (λ z. Arrives p q there.reach there.runs input m2 (64 * (size + 480 + 1)) w.on st z s.output) (sym taken) last) in
      let settled = lands_by p q there.reach there.runs input tiny t m2 (64 * (size + 480 + 1)) (64 * (2 * size + 60)) w.on st t.taken t.output told (λ z here. settle_any p q there.reach there.runs input tiny t z w.on grown.count leads words placed made.0 here) in
      let joined : first.steps + way.steps ≤ 64 * (size + 480 + 1) + (first_most p q there.reach there.runs input tiny + (near a + 1) * more_most p q there.reach there.runs input tiny) = let u = first.few in let z = way.few in omega (arith, u, z) in
      wider t (64 * (size + 480 + 1) + (first_most p q there.reach there.runs input tiny + (near a + 1) * more_most p q there.reach there.runs input tiny) + (64 * (size + 480 + 1) + 64 * (2 * size + 60))) (most_by size (near a)) (omega arith)
      (after_some t (first.steps + way.steps) (64 * (size + 480 + 1) + (first_most p q there.reach there.runs input tiny + (near a + 1) * more_most p q there.reach there.runs input tiny)) (64 * (size + 480 + 1) + 64 * (2 * size + 60)) joined
      (subst (λ (z : Moment PietConfig). Lands p q there.reach there.runs input tiny t z (64 * (size + 480 + 1) + 64 * (2 * size + 60))) (sym (run_from-add (rule_of q) input m first.steps way.steps)) settled))

  load_lands : (r : Reg) (v : Operand) → slice_get (flat p.blocks) k ≡ Some (Load r v) → IsWords (onward p c (with_reg c.regs r (word_at c.memory (value_of c.regs v))) c.memory) → IsPlaced p (onward p c (with_reg c.regs r (word_at c.memory (value_of c.regs v))) c.memory)
      → Ends (source_by p input s (Some (Load r v))) (most_by size (near (value_of c.regs v)))
  load_lands r v is words placed =
      let a = value_of c.regs v in
      let regs = with_reg c.regs r (word_at c.memory a) in
      let on = goes_onward p c regs c.memory ops sound block below within in
      let t = source_by p input s (Some (Load r v)) in
      access (Load r v) v t is refl words placed (inl on.heads)
      (λ count paired enough.
      let parts = parted (word_at c.memory) a count (small v) paired.few enough in
      let whole : pairs (word_at c.memory) count ≡ parts.before ++ pos (word_at c.memory a) ∷ parts.after = parts.whole (word_at c.memory) (λ u other. refl) in
      let i = place_of a in
      let stack : laid regs c.memory count ≡ laid t.config.regs t.config.memory count = ap (λ z. laid z c.memory count) (sym on.regs) ∙ ap (λ (z : Memory). laid t.config.regs z count) (sym on.memory) in
      let takes_it : Makes _ (pos i ∷ laid c.regs c.memory count) (laid regs c.memory count) =
      from_named (ap (λ (z : List ℤ). pos i ∷ bed count z c.regs) (sym whole)) (named (loads count c.regs i (word_at c.memory a) parts.before parts.after r parts.here (place_few a (small v))) (ap (λ (z : List ℤ). bed count z regs) (sym whole))) in
      (subst (λ (z : Memory). HasPairs z count) (sym on.memory) paired, named (next takes_it (number w.on (laid regs c.memory count) (omega (arith, near_on)))) (ap (λ (z : List ℤ). pos w.on ∷ z) stack)))
      refl (append-nil s.output)

  store_lands : (r : Reg) (v : Operand) → slice_get (flat p.blocks) k ≡ Some (Store r v) → IsWords (onward p c c.regs (with_word c.memory (value_of c.regs v) (reg_of c.regs r))) → IsPlaced p (onward p c c.regs (with_word c.memory (value_of c.regs v) (reg_of c.regs r)))
      → Ends (source_by p input s (Some (Store r v))) (most_by size (near (value_of c.regs v)))
  store_lands r v is words placed =
      let a = value_of c.regs v in
      let x = reg_of c.regs r in
      let memory = with_word c.memory a x in
      let on = goes_onward p c c.regs memory ops sound block below within in
      let t = source_by p input s (Some (Store r v)) in
      access (Store r v) v t is refl words placed (inl on.heads)
      (λ count paired enough.
      let parts = parted (word_at c.memory) a count (small v) paired.few enough in
      let whole : pairs (word_at c.memory) count ≡ parts.before ++ pos (word_at c.memory a) ∷ parts.after = parts.whole (word_at c.memory) (λ u other. refl) in
      let written : pairs (word_at memory) count ≡ parts.before ++ pos x ∷ parts.after =
      parts.whole (word_at memory) (λ u other. sym (word_at-with_word_other c.memory a x u other)) ∙ ap (λ z. parts.before ++ pos z ∷ parts.after) (word_at-with_word_same c.memory a x) in
      let i = place_of a in
      let stack : laid c.regs memory count ≡ laid t.config.regs t.config.memory count = ap (λ z. laid z memory count) (sym on.regs) ∙ ap (λ (z : Memory). laid t.config.regs z count) (sym on.memory) in
      let puts_it : Makes _ (pos i ∷ laid c.regs c.memory count) (laid c.regs memory count) =
      from_named (ap (λ (z : List ℤ). pos i ∷ bed count z c.regs) (sym whole)) (named (stores count c.regs i (pos (word_at c.memory a)) parts.before parts.after r parts.here (place_few a (small v))) (ap (λ (z : List ℤ). bed count z c.regs) (sym written))) in
      let kept : HasPairs memory count = record { few = paired.few; rest = λ u word far. word_at-with_word_other c.memory a x u (λ e. let z = ap near e in omega (arith, z, far, enough)) ∙ paired.rest u word far } in
      (subst (λ (z : Memory). HasPairs z count) (sym on.memory) kept, named (next puts_it (number w.on (laid c.regs memory count) (omega (arith, near_on)))) (ap (λ (z : List ℤ). pos w.on ∷ z) stack)))
      refl (append-nil s.output)

  -- each operation
  pub by_op : (op : Op) → slice_get (flat p.blocks) k ≡ Some op → IsWords (source_by p input s (Some op)).config → IsPlaced p (source_by p input s (Some op)).config → Ends (source_by p input s (Some op)) (most_by size (near_of c.regs (Some op)))
  by_op (Mov r v) is words placed = on_lands (Mov r v) (with_reg c.regs r (value_of c.regs v)) s.taken (s.output ++ []) is words placed (silent (op_code w (Mov r v)) _ (mov_makes w n mem c.regs small near_on r v))
  by_op (Add r v) is words placed = on_lands (Add r v) (with_reg c.regs r (sum_word (reg_of c.regs r) (value_of c.regs v))) s.taken (s.output ++ []) is words placed (silent (op_code w (Add r v)) _ (add_makes w n mem c.regs small near_on r v))
  by_op (Sub r v) is words placed = on_lands (Sub r v) (with_reg c.regs r (difference_word (reg_of c.regs r) (value_of c.regs v))) s.taken (s.output ++ []) is words placed (silent (op_code w (Sub r v)) _ (sub_makes w n mem c.regs small near_on r v))
  by_op (Load r v) is words placed = load_lands r v is words placed
  by_op (Store r v) is words placed = store_lands r v is words placed
  by_op (Putc v) is words placed = on_lands (Putc v) c.regs s.taken (s.output ++ value_of c.regs v % 2 ^ 8 ∷ []) is words placed (putc_does w n mem c.regs small near_on input s.taken s.output v)
  by_op (Getc r) is words placed =
      let x = input_at input s.taken in
      on_lands (Getc r) (with_reg c.regs r x) (s.taken + 1) (s.output ++ []) is words placed
      (subst (λ (o : List ℕ). Does input (op_code w (Getc r)) (values_at bottom s.taken s.output) (values_at (pos w.on ∷ laid (with_reg c.regs r x) c.memory n) (s.taken + 1) o)) (sym (append-nil s.output)) (getc_does w n mem c.regs small near_on input s.taken s.output r))
  by_op Exit is words placed =
      plain Exit (source_by p input s (Some Exit)) no_lane is (inl (record { inside = λ z. absurd (omega (arith, z)); over = λ z. refl })) there.pairs words placed (silent (op_code w Exit) (pos no_lane ∷ bottom) (exit_makes w n mem c.regs small near_on))
  by_op (Set test r v) is words placed =
      on_lands (Set test r v) (with_reg c.regs r (cond (holds test (reg_of c.regs r) (value_of c.regs v)) 1 0)) s.taken (s.output ++ []) is words placed (silent (op_code w (Set test r v)) _ (set_makes w n mem c.regs small near_on test r v))
  by_op (Jump v) is words placed = jump_lands (Jump v) true (value_of c.regs v) is words placed (jump_makes w n mem c.regs small near_on v few_blocks)
  by_op (JumpIf test goal r v) is words placed =
      jump_lands (JumpIf test goal r v) (holds test (reg_of c.regs r) (value_of c.regs v)) (value_of c.regs goal) is words placed (jump_if_makes w n mem c.regs small near_on test goal r v few_blocks)

op_found : (p : Eir) (b i : ℕ) (ops : List Op) (op : Op) → slice_get p.blocks b ≡ Some ops → slice_get ops i ≡ Some op → op_in p b i ≡ Some op
op_found p b i ops op e f = ap (λ (o : Option (List Op)). option_and_then (λ (xs : List Op). slice_get xs i) o) e ∙ f

going_below : (p : Eir) (c : Config) → (eir_rule p).standing c ≡ Going → c.block < length p.blocks
going_below p c e = by (nat_lt c.block (length p.blocks)) refl e
  where
    by : (b : Bool) → nat_lt c.block (length p.blocks) ≡ b → cond b Going Ended ≡ Going → c.block < length p.blocks
    by true t h = ltb-true c.block (length p.blocks) t
    by false t h = cc

-- a step of the program, and the steps of the board that follow it
pub record Follows (p : Eir) (q : Raster) (input : List ℕ) (s : Moment Config) (m : Moment PietConfig) : Type 0 where
  pub steps : ℕ
  pub some : 1 ≤ steps
  pub few : steps ≤ most_by (length (lanes p)) (near_at p s.config)
  pub filled : 2 ≤ size_of p
  pub alike : Alike (Related p q) (applied (eir_rule p) input s) (run_from (rule_of q) input m steps)

pub follows : (p : Eir) (q : Raster) (input : List ℕ) → IsEir p → IsTiny p → IsInput input → (s : Moment Config) (m : Moment PietConfig) → Alike (Related p q) s m → (eir_rule p).standing s.config ≡ Going → Follows p q input s m
follows p q input sound tiny bytes s m same going =
    let c = s.config in
    let within = going_below p c going in
    let found = drop_item p.blocks c.block within in
    let ops = found.0 in
    let long : length_at p c.block ≡ length ops = ap (λ (o : Option (List Op)). length (unwrap_or o [])) found.1 in
    let below : c.index < length ops = let z = same.related.placed within in omega (arith, z, long) in
    let item = drop_item ops c.index below in
    let op = item.0 in
    let is : op_at p c ≡ Some op = op_found p c.block c.index ops op found.1 item.1 in
    let source : applied (eir_rule p) input s ≡ source_by p input s (Some op) = applied-going (eir_rule p) input s going ∙ ap (λ o. source_by p input s o) is in
    let words : IsWords (source_by p input s (Some op)).config = subst (λ (x : Moment Config). IsWords x.config) source (applied-IsWords p input s bytes same.related.words) in
    let placed : IsPlaced p (source_by p input s (Some op)).config = subst (λ (x : Moment Config). IsPlaced p x.config) source (applied-IsPlaced p input s sound same.related.placed) in
    let l = by_op p q input sound tiny s m same ops found.1 below within op (flat_at p.blocks c.block c.index ops op found.1 item.1) words placed in
    let reached : near_of c.regs (Some op) ≡ near_at p c = ap (near_of c.regs) (sym is) in
    let count = before_next p.blocks c.block (c.block + 1) ops found.1 refl in
    let most = before_few p.blocks (c.block + 1) in
    let whole = length-flat p.blocks in
    record {
      steps = l.steps;
      some = l.some;
      few = subst (λ z. l.steps ≤ most_by (length (lanes p)) z) reached l.few;
      filled = omega (arith, within, below, count, most, whole);
      alike = subst (λ (x : Moment Config). Alike (Related p q) x (run_from (rule_of q) input m l.steps)) (sym source) l.alike;
    }

-- the bound, for at least two lanes and operations
pub bound_is : (size far words : ℕ) (p : Eir) → IsTiny p → size ≡ length (lanes p) → 2 ≤ size_of p → most_by size far ≤ 2 ^ 16 * (size_of p + 1) * (max words far + 1)
bound_is size far words p tiny is two =
    let lanes_few = tiny.few in
    let lanes_are = tiny.lanes in
    let one : 64 * (8 * size + 1466) ≤ 2 ^ 16 * (size_of p + 1) = omega (arith, is, lanes_few, lanes_are, two) in
    let all : most_by size far ≤ (64 * (8 * size + 1466)) * (far + 1) = omega arith in
    let further : far + 1 ≤ max words far + 1 = omega arith in
    let a : (64 * (8 * size + 1466)) * (far + 1) ≤ (2 ^ 16 * (size_of p + 1)) * (far + 1) = mul-le-mul_right (far + 1) one in
    let b : (2 ^ 16 * (size_of p + 1)) * (far + 1) ≤ (2 ^ 16 * (size_of p + 1)) * (max words far + 1) = mul-le-mul_left (2 ^ 16 * (size_of p + 1)) further in
    omega (arith, all, a, b)
