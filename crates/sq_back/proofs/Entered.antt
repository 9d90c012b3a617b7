-- Where an operation is entered and where it is left.
use Rattle.std.proofs.Common.{◌≡◌, ℕ, zero, suc, ◌+◌, ◌^◌, ◌<◌, ◌≤◌, true, false, cond, List, [], ◌∷◌, ◌++◌, length, take, Option, None, Some, slice_get, unwrap_or, option_and_then, refl, sym, ap, subst, ◌∙◌, nat_eq, nat_lt, arith}
use Rattle.std.specs.Prelude.{ℤ, pos}
use Rattle.std.proofs.lemmas.Int.{ints}
use Rattle.std.proofs.lemmas.Bool.{ltb-true, ltb-false}
use Rattle.std.proofs.lemmas.Option.{slice_get_past}
use Rattle.mach_core.specs.declared.machine.Status.TheVariants.{Going, Ended}
use Rattle.mach_core.specs.Rule.{Moment, IsInput, input_at, applied, run_from}
use Rattle.mach_core.proofs.Runs.{applied-going}
use Rattle.eir_core.specs.declared.ops.Reg.{Reg}
use Rattle.eir_core.specs.declared.ops.Op.{Op}
use Rattle.eir_core.specs.Eir.{Eir, IsEir}
use Rattle.eir_core.specs.Memory.{Memory}
use Rattle.eir_core.specs.Step.{Config, Regs, reg_of, with_reg, op_at, onward, length_at, after, takes, bytes_of, eir_rule}
use Rattle.eir_core.specs.Words.{IsWords, IsPlaced}
use Rattle.eir_core.proofs.WordsKept.{applied-IsWords}
use Rattle.eir_core.proofs.Placed.{applied-IsPlaced}
use Rattle.sim_trait.specs.Alike.{Alike}
use Rattle.sq_lang.specs.Step.{CellMap, Config as SqConfig, cell_at, sq_rule}
use Rattle.sq_back.specs.Code.{register_cell, ops_cells, blocks_cells, memory_start, first_lines, load_lines, store_lines, find_lines, nowhere}
use Rattle.sq_back.specs.Related.{Holds, Related, ops_of, entry, place_of}
use Rattle.sq_back.proofs.Standing.{Stands, IsEntered, next_place}
use Rattle.sq_back.proofs.CellLemmas.{Small, at}
use Rattle.sq_back.proofs.Bank.{Slot, Work, Hand, Bank, Frame, Fits, cell_of, get}
use Rattle.sq_back.proofs.Registers.{same_register, reg_of-with_reg_same, reg_of-with_reg_other}
use Rattle.sq_back.proofs.Steps.{state, Code, head_line, tail_lines, front_lines, back_lines, Has, Arrives}
use Rattle.sq_back.proofs.Moves.{Ready}

-- what an operation makes of a moment
abbrev pub source_by : Eir → List ℕ → Moment Config → Option Op → Moment Config
source_by p input s o = record {
  config = after p s.config o (cond (takes o) (input_at input s.taken) 0);
  taken = cond (takes o) (s.taken + 1) s.taken;
  output = s.output ++ bytes_of s.config.regs o;
}

-- where an operation comes next, a block does
op_going : (p : Eir) (c : Config) (op : Op) → op_at p c ≡ Some op → nat_lt c.block (length p.blocks) ≡ true
op_going p c op e = elim (nat_lt c.block (length p.blocks)) as (λ t. nat_lt c.block (length p.blocks) ≡ t → t ≡ true) [
  | true ↦ λ is. refl
  | false ↦ λ is.
      let past : length p.blocks ≤ c.block = ltb-false _ _ is in
      let none : op_at p c ≡ None = ap (λ o. option_and_then (λ ops. slice_get ops c.index) o) (slice_get_past p.blocks c.block past) in
      let clash : None ≡ Some op = sym none ∙ e in
      cc
] refl

pub applied_is : (p : Eir) (input : List ℕ) (s : Moment Config) (op : Op) → op_at p s.config ≡ Some op → applied (eir_rule p) input s ≡ source_by p input s (Some op)
applied_is p input s op e =
    let going : (eir_rule p).standing s.config ≡ Going = ap (λ b. cond b Going Ended) (op_going p s.config op e) in
    applied-going (eir_rule p) input s going ∙ ap (source_by p input s) e

-- the target comes from a moment to where the program is then
pub record Does (p : Eir) (image : List ℤ) (input : List ℕ) (t : Moment SqConfig) (s : Moment Config) : Type 0 where
  pub count : ℕ
  pub some : 1 ≤ count
  pub few : count ≤ 31
  pub cells : CellMap
  pub held : Holds p image cells s.config.regs s.config.memory
  pub runs : run_from (sq_rule image) input t count ≡ at cells s.taken s.output (place_of p s.config.block s.config.index)

pub follows : (p : Eir) (image : List ℤ) (input : List ℕ) (s : Moment Config) (t : Moment SqConfig) (op : Op) → IsEir p → IsInput input → IsWords s.config → IsPlaced p s.config → op_at p s.config ≡ Some op
    → Does p image input t (source_by p input s (Some op)) → (k : ℕ) × (1 ≤ k) × (k ≤ 31) × Alike (Related p image) (applied (eir_rule p) input s) (run_from (sq_rule image) input t k)
follows p image input s t op sound bytes words placed e d =
    let s' = source_by p input s (Some op) in
    let is = applied_is p input s op e in
    let there = at d.cells s'.taken s'.output (place_of p s'.config.block s'.config.index) in
    let related : Related p image s'.config there.config = record {
      fault = refl;
      address = refl;
      holds = d.held;
      words = subst (λ x. IsWords x.config) is (applied-IsWords p input s bytes words);
      placed = subst (λ x. IsPlaced p x.config) is (applied-IsPlaced p input s sound placed);
    } in
    let alike : Alike (Related p image) s' there = record { related = related; taken = refl; output = refl } in
    (d.count, d.some, d.few, subst (λ m. Alike (Related p image) (applied (eir_rule p) input s) m) (sym d.runs) (subst (λ x. Alike (Related p image) x there) (sym is) alike))

-- places are small numbers
ops_part : (ops : List Op) (i : ℕ) → ops_cells (take i ops) ≤ ops_cells ops
ops_part [] zero = omega arith
ops_part [] (suc i) = omega arith
ops_part (op ∷ ops) zero = omega arith
ops_part (op ∷ ops) (suc i) = omega (arith, ops_part ops i)

blocks_part : (blocks : List (List Op)) (b : ℕ) → blocks_cells (take b blocks) + ops_cells (unwrap_or (slice_get blocks b) []) ≤ blocks_cells blocks
blocks_part [] zero = omega arith
blocks_part [] (suc b) = omega arith
blocks_part (ops ∷ blocks) zero = omega arith
blocks_part (ops ∷ blocks) (suc b) = omega (arith, blocks_part blocks b)

entry_near : (p : Eir) (b i : ℕ) → memory_start p ≤ 2 ^ 24 → b < length p.blocks → entry p b i ≤ 2 ^ 30
entry_near p b zero near lt = omega arith
entry_near p b (suc i) near lt = omega (arith, ops_part (ops_of p b) (suc i), blocks_part p.blocks b)

pub place_small : (p : Eir) (b i : ℕ) → memory_start p ≤ 2 ^ 24 → Small (place_of p b i)
place_small p b i near = elim (nat_lt b (length p.blocks)) as (λ t. nat_lt b (length p.blocks) ≡ t → Small (cond t (pos (entry p b i)) nowhere)) [
  | true ↦ λ e. let low = entry_near p b i near (ltb-true _ _ e) in record { low = omega (arith, ints); high = omega (arith, ints) }
  | false ↦ λ e. record { low = omega (arith, ints); high = omega (arith, ints) }
] refl

-- where the program goes on
pub record Onward (p : Eir) (c : Config) (r : Regs) (m : Memory) : Type 0 where
  pub regs : (onward p c r m).regs ≡ r
  pub memory : (onward p c r m).memory ≡ m
  pub place : place_of p (onward p c r m).block (onward p c r m).index ≡ next_place p c

pub goes_onward : (p : Eir) (c : Config) (r : Regs) (m : Memory) → Onward p c r m
goes_onward p c r m =
    let t = nat_lt (c.index + 1) (length_at p c.block) in
    let here : Regs → Memory → Config = λ r m. record { block = c.block; index = c.index + 1; regs = r; memory = m } in
    let there : Regs → Memory → Config = λ r m. record { block = c.block + 1; index = 0; regs = r; memory = m } in
    record {
      regs = elim t as (λ b. (cond b (here r m) (there r m)).regs ≡ r) [ true ↦ refl | false ↦ refl ];
      memory = elim t as (λ b. (cond b (here r m) (there r m)).memory ≡ m) [ true ↦ refl | false ↦ refl ];
      place = elim t as (λ b. place_of p (cond b (here r m) (there r m)).block (cond b (here r m) (there r m)).index ≡ place_of p (cond b (here c.regs c.memory) (there c.regs c.memory)).block (cond b (here c.regs c.memory) (there c.regs c.memory)).index) [
        | true ↦ refl
        | false ↦ refl
      ];
    }

module _ (p : Eir) (image : List ℤ) (input : List ℕ) (near : memory_start p ≤ 2 ^ 24) where
  abbrev count : ℕ
  count = length p.blocks

  abbrev pub frame : Reg → Regs → Frame
  frame r regs = record { start = memory_start p; image = image; input = input; hand = r; regs = regs; high = omega arith; near = near }

  -- the first lines are ready
  pub ready_of : (r : Reg) (regs : Regs) → Stands image 0 (first_lines p) → Ready (frame r regs) count
  ready_of r regs first =
      let c0 : Code (frame r regs) 0 (first_lines p) = record { more = first.0; stands = first.1; within = omega arith } in
      let c1 = tail_lines c0 in
      let c2 = tail_lines c1 in
      let c3 = tail_lines c2 in
      let c4 = tail_lines c3 in
      let c5 = tail_lines c4 in
      let c6 = tail_lines c5 in
      let c7 = tail_lines c6 in
      let h4 = head_line c4 in
      let h5 = head_line c5 in
      let h6 = head_line c6 in
      let rest = back_lines load_lines (store_lines ++ find_lines) c7 in
      record {
        few = omega arith;
        one = h4.from;
        minus_one = h4.to;
        most = h4.next;
        minus_most = h5.from;
        memory = h5.to;
        count = h5.next;
        rows = h6.from;
        load = front_lines load_lines (store_lines ++ find_lines) c7;
        store = front_lines store_lines find_lines rest;
        find = back_lines store_lines find_lines rest;
      }

  -- the cells where an operation is entered
  abbrev pub bank_of : Reg → Regs → CellMap → Bank
  bank_of r regs cells = record {
    work = cell_at cells 4;
    other = cell_at cells 5;
    hand = pos (reg_of regs r);
    load_from = cell_at cells 39;
    load_next = cell_at cells 47;
    store_from = cell_at cells 72;
    store_to = cell_at cells 85;
    store_next = cell_at cells 89;
    goto_next = cell_at cells 131;
  }

  pub fits_of : (r : Reg) (regs : Regs) (m : Memory) (cells : CellMap) → Holds p image cells regs m → Fits (frame r regs) (pos 0) (bank_of r regs cells) m cells
  fits_of r regs m cells h = record {
    zero = h.zero;
    slots = slots;
    others = λ x e. h.registers x;
    words = h.words;
    lines = h.lines;
  }
    where
      slots : (s : Slot) → cell_at cells (cell_of r s) ≡ get (bank_of r regs cells) s
      slots Hand = h.registers r
      slots Work = refl
      slots s = refl

  -- the cells where an operation is left
  pub holds_of : (r : Reg) (regs : Regs) (b : Bank) (m : Memory) (cells : CellMap) (w : ℕ) → Fits (frame r regs) (pos 0) b m cells → b.hand ≡ pos w → Holds p image cells (with_reg regs r w) m
  holds_of r regs b m cells w h e = record {
    registers = λ x. register_is x;
    zero = h.zero;
    words = h.words;
    lines = h.lines;
  }
    where
      register_is : (x : Reg) → cell_at cells (register_cell x) ≡ pos (reg_of (with_reg regs r w) x)
      register_is x = elim (nat_eq (register_cell x) (register_cell r)) as (λ t. nat_eq (register_cell x) (register_cell r) ≡ t → cell_at cells (register_cell x) ≡ pos (reg_of (with_reg regs r w) x)) [
        | true ↦ λ y.
            let is : x ≡ r = same_register x r y in
            subst (λ (q : Reg). cell_at cells (register_cell q) ≡ pos (reg_of (with_reg regs r w) q)) (sym is) (h.slots Hand ∙ (e ∙ ap pos (sym (reg_of-with_reg_same regs r w))))
        | false ↦ λ y. h.others x y ∙ ap pos (sym (reg_of-with_reg_other regs r x w y))
      ] refl

  -- a register's word, while the one in hand has its own
  pub register_has : (r : Reg) (regs : Regs) (z : ℤ) (b : Bank) (m : Memory) (x : Reg) → b.hand ≡ pos (reg_of regs r) → Has (frame r regs) z b m (register_cell x) (pos (reg_of regs x))
  register_has r regs z b m x e = λ cells h. elim (nat_eq (register_cell x) (register_cell r)) as (λ t. nat_eq (register_cell x) (register_cell r) ≡ t → cell_at cells (register_cell x) ≡ pos (reg_of regs x)) [
    | true ↦ λ y.
        let is : x ≡ r = same_register x r y in
        subst (λ (q : Reg). cell_at cells (register_cell q) ≡ pos (reg_of regs q)) (sym is) (h.slots Hand ∙ e)
    | false ↦ λ y. h.others x y
  ] refl

  -- where the target is as an operation is entered
  pub entered_is : (i : ℕ) (s : Moment Config) (t : Moment SqConfig) → IsEntered p image i s t → t ≡ at t.config.cells s.taken s.output (pos i)
  entered_is i s t e = λ j. record { config = record { address = e.address j; cells = t.config.cells; fault = e.fault j }; taken = e.taken j; output = e.output j }

  -- the target has done what the program does
  pub settles : (r : Reg) (s : Moment Config) (t : Moment SqConfig) (i : ℕ) (b : Bank) (m : Memory) (place : ℤ) (w k taken : ℕ) (output : List ℕ) (c : Config) → IsEntered p image i s t
      → Arrives (frame r s.config.regs) (at t.config.cells s.taken s.output (pos i)) k taken output (state place (pos 0) b m) → 1 ≤ k → k ≤ 31 → b.hand ≡ pos w
      → c.regs ≡ with_reg s.config.regs r w → c.memory ≡ m → place_of p c.block c.index ≡ place → Does p image input t (record { config = c; taken = taken; output = output })
  settles r s t i b m place w k taken output c entered arrives some few hand regs memory there = record {
    count = k;
    some = some;
    few = few;
    cells = arrives.cells;
    held = subst (λ x. Holds p image arrives.cells x c.memory) (sym regs) (subst (λ x. Holds p image arrives.cells (with_reg s.config.regs r w) x) (sym memory) (holds_of r s.config.regs b m arrives.cells w arrives.fits hand));
    runs = ap (λ x. run_from (sq_rule image) input x k) (entered_is i s t entered) ∙ (arrives.runs ∙ ap (λ x. at arrives.cells taken output x) (sym there));
  }
