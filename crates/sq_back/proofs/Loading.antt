-- The cells at the start, and the jumps to a block.
use Rattle.std.proofs.Common.{◌≡◌, ◌≢◌, ℕ, zero, suc, ◌+◌, ◌-◌, ◌^◌, ◌≤◌, true, false, cond, nat_eq, nat_lt, List, [], ◌∷◌, ◌++◌, length, map, Option, None, slice_get, unwrap_or, refl, sym, ap, subst, ◌∙◌, arith, eq-eqb}
use Rattle.std.specs.Prelude.{ℤ, pos, ◌-ℤ◌, unsigned_abs, if◌then◌else◌}
use Rattle.std.specs.List.{slice_index}
use Rattle.std.proofs.lemmas.Bool.Decides.{nat_tests}
use Rattle.std.proofs.lemmas.List.{append-nil}
use Rattle.mach_core.specs.declared.machine.Status.TheVariants.{Going}
use Rattle.mach_core.specs.Rule.{Moment, input_at, applied, run, at_start}
use Rattle.mach_core.proofs.Runs.{applied-going}
use Rattle.word24.specs.declared.word.Word.{Word}
use Rattle.word24.specs.Word.{number_of}
use Rattle.eir_core.specs.declared.ops.Reg.{Reg}
use Rattle.eir_core.specs.declared.ops.Reg.TheVariants.{A, B, C, D, SP, BP}
use Rattle.eir_core.specs.Eir.{Eir, IsEir}
use Rattle.eir_core.specs.Memory.{Memory, word_at}
use Rattle.eir_core.specs.Step.{Regs, reg_of, eir_start}
use Rattle.eir_core.proofs.WordAt.{word_at-with_words}
use Rattle.eir_core.proofs.WordsKept.{eir_start-IsWords}
use Rattle.eir_core.proofs.Placed.{eir_start-IsPlaced}
use Rattle.sim_trait.specs.Alike.{Alike}
use Rattle.sq_lang.proofs.CellsAtStart.{cell_at-with_cell, cells_stand_from_zero}
use Rattle.sq_lang.specs.declared.act.Act.{Act}
use Rattle.sq_lang.specs.declared.act.Act.TheVariants.{Subtract, Stop}
use Rattle.sq_lang.specs.Step.{CellMap, Config as SqConfig, cell_at, with_cell, cells_from, act_of, act_from, act_at, takes, bytes_of, after, subtracted, standing_of, sq_rule, sq_start}
use Rattle.sq_back.specs.Code.{zero_cell, register_cell, goal, memory_start, image_of}
use Rattle.sq_back.specs.Related.{is_working, Holds, Related}
use Rattle.sq_back.proofs.Places.{data_stands}

cell_at-same : (cells : CellMap) (a : ℕ) (v : ℤ) → cell_at (with_cell cells a v) a ≡ v
cell_at-same cells a v = cell_at-with_cell cells a v a ∙ ap (λ b. cond b v (cell_at cells a)) (eq-eqb a a refl)

cell_at-other : (cells : CellMap) (a : ℕ) (v : ℤ) (q : ℕ) → q ≢ a → cell_at (with_cell cells a v) q ≡ cell_at cells q
cell_at-other cells a v q other =
    let test : nat_eq q a ≡ false = grind arith in
    cell_at-with_cell cells a v q ∙ ap (λ b. cond b v (cell_at cells q)) test

starts_with : (image : List ℤ) (a : ℕ) → cell_at (cells_from 0 image) a ≡ unwrap_or (slice_get image a) (pos 0)
starts_with image a = cells_stand_from_zero image a

-- a register's cell is not the zero cell
register_other : (r : Reg) → register_cell r ≢ zero_cell
register_other A = omega arith
register_other B = omega arith
register_other C = omega arith
register_other D = omega arith
register_other SP = omega arith
register_other BP = omega arith

-- a jump leaves all as it was
pub holds-jumped : (p : Eir) (image : List ℤ) (cells : CellMap) (regs : Regs) (memory : Memory) → Holds p image cells regs memory → Holds p image (with_cell cells zero_cell (pos 0)) regs memory
holds-jumped p image cells regs memory held = record {
  registers = λ r. cell_at-other cells zero_cell (pos 0) (register_cell r) (register_other r) ∙ held.registers r;
  zero = cell_at-same cells zero_cell (pos 0);
  words = λ a.
      let other : memory_start p + a ≢ zero_cell = omega arith in
      cell_at-other cells zero_cell (pos 0) (memory_start p + a) other ∙ held.words a;
  lines = λ i below still.
      let other : i ≢ zero_cell = λ same. apart (sym (ap is_working same) ∙ still) in
      cell_at-other cells zero_cell (pos 0) i other ∙ held.lines i below still;
}
  where
    apart : true ≡ false → ⊥
    apart e = cc

-- where a jump leads
abbrev pub jumped : Moment SqConfig → ℤ → Moment SqConfig
jumped t target = record { config = record { address = target; cells = with_cell t.config.cells zero_cell (pos 0); fault = None }; taken = t.taken; output = t.output }

-- an act, done at a moment
abbrev done : List ℕ → Moment SqConfig → Act → Moment SqConfig
done input t act = record {
  config = after t.config act (cond (takes act) (input_at input t.taken) 0);
  taken = cond (takes act) (t.taken + 1) t.taken;
  output = t.output ++ bytes_of t.config.cells act;
}

-- the jump's line stands at an address
pub record IsJump (cells : CellMap) (at : ℕ) (target : ℤ) : Type 0 where
  pub near : at ≤ 2 ^ 63 - 4
  pub from : cell_at cells at ≡ pos zero_cell
  pub to : cell_at cells (at + 1) ≡ pos zero_cell
  pub next : cell_at cells (at + 2) ≡ target

act_is : (cells : CellMap) (at : ℕ) (target : ℤ) → IsJump cells at target → act_from cells at ≡ Subtract zero_cell zero_cell target
act_is cells at target line =
    let near = line.near in
    let test : nat_lt (2 ^ 63 - 4) at ≡ false = grind (arith, nat_tests) in
    ap (λ b. if b then Stop 2 else act_of (cell_at cells at) (cell_at cells (at + 1)) (cell_at cells (at + 2))) test
    ∙ (ap (λ a. act_of a (cell_at cells (at + 1)) (cell_at cells (at + 2))) line.from
    ∙ (ap (λ b. act_of (pos zero_cell) b (cell_at cells (at + 2))) line.to
    ∙ ap (λ c. act_of (pos zero_cell) (pos zero_cell) c) line.next))

-- what a difference in the zero cell leaves
abbrev subtracts : Moment SqConfig → ℤ → ℤ → List ℕ → Option ℕ → Moment SqConfig
subtracts t target v o f = record { config = subtracted (record { address = t.config.address; cells = t.config.cells; fault = f }) zero_cell v target; taken = t.taken; output = o }

-- one step takes the jump
pub jumps : (image : List ℤ) (input : List ℕ) (t : Moment SqConfig) (at : ℕ) (target : ℤ) → t.config.fault ≡ None → t.config.address ≡ pos at → IsJump t.config.cells at target → cell_at t.config.cells zero_cell ≡ pos 0
    → applied (sq_rule image) input t ≡ jumped t target
jumps image input t at target none here line zeros =
    let c = t.config in
    let going : (sq_rule image).standing c ≡ Going = ap (λ f. standing_of f c.address) none ∙ ap (standing_of None) here in
    let act : act_at c ≡ Subtract zero_cell zero_cell target = ap (λ z. act_from c.cells (unsigned_abs z)) here ∙ act_is c.cells at target line in
    applied-going (sq_rule image) input t going
    ∙ (ap (done input t) act
    ∙ (ap (λ v. subtracts t target v (t.output ++ []) c.fault) (ap (λ v. v -ℤ v) zeros)
    ∙ (ap (λ o. subtracts t target (pos 0) o c.fault) (append-nil t.output)
    ∙ ap (λ f. subtracts t target (pos 0) t.output f) none)))

words_are : (words : List Word) (a : ℕ) → unwrap_or (slice_get (map (λ word. pos (number_of word)) words) a) (pos 0) ≡ pos (slice_index (map number_of words) a)
words_are [] a = refl
words_are (w ∷ words) zero = refl
words_are (w ∷ words) (suc a) = words_are words a

-- the cells hold at first what the program holds
pub holds_start : (p : Eir) → Holds p (image_of p) (cells_from 0 (image_of p)) (eir_start p).regs (eir_start p).memory
holds_start p = record {
  registers = λ r. registers r;
  zero = starts_with (image_of p) zero_cell;
  words = λ a.
      let e : 0 + a ≡ a = omega arith in
      starts_with (image_of p) (memory_start p + a)
      ∙ (ap (λ o. unwrap_or o (pos 0)) (data_stands p a)
      ∙ (words_are p.words a
      ∙ ap pos (sym (word_at-with_words (map number_of p.words) 0 a) ∙ ap (word_at (eir_start p).memory) e)));
  lines = λ i below still. starts_with (image_of p) i;
}
  where
    registers : (r : Reg) → cell_at (cells_from 0 (image_of p)) (register_cell r) ≡ pos (reg_of (eir_start p).regs r)
    registers A = starts_with (image_of p) 6
    registers B = starts_with (image_of p) 7
    registers C = starts_with (image_of p) 8
    registers D = starts_with (image_of p) 9
    registers SP = starts_with (image_of p) 10
    registers BP = starts_with (image_of p) 11

-- the first step comes to the block that comes first
pub loads : (p : Eir) → IsEir p → (input : List ℕ) → Alike (Related p (image_of p)) (at_start (eir_start p)) (run (sq_rule (image_of p)) (sq_start (image_of p)) input 1)
loads p sound input =
    let image = image_of p in
    let first : Moment SqConfig = at_start (sq_start image) in
    let target = goal (length p.blocks) p.start in
    let line : IsJump (cells_from 0 image) 0 target = record { near = omega arith; from = starts_with image 0; to = starts_with image 1; next = starts_with image 2 } in
    let held = holds_start p in
    let one : applied (sq_rule image) input first ≡ jumped first target = jumps image input first 0 target refl refl line held.zero in
    subst (λ t. Alike (Related p image) (at_start (eir_start p)) t) (sym one) (record {
      related = record {
        fault = refl;
        address = refl;
        holds = holds-jumped p image (cells_from 0 image) (eir_start p).regs (eir_start p).memory held;
        words = eir_start-IsWords p;
        placed = eir_start-IsPlaced p sound;
      };
      taken = refl;
      output = refl;
    })
