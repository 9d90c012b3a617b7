-- The lines of each operation do what it does.
use Rattle.std.proofs.Common.{◌≡◌, ℕ, ◌+◌, ◌*◌, ◌%◌, ◌^◌, ◌<◌, ◌≤◌, true, false, cond, List, [], ◌∷◌, ◌++◌, length, Some, refl, sym, ap, subst, ◌∙◌, arith, append-nil}
use Rattle.std.specs.Prelude.{ℤ, pos, negsuc, unsigned_abs, ◌+ℤ◌, ◌-ℤ◌}
use Rattle.std.proofs.lemmas.Bool.{le-ltb}
use Rattle.std.proofs.lemmas.Int.{ints, int_rem_euclid_is}
use Rattle.mach_core.specs.Rule.{Moment, input_at}
use Rattle.word24.specs.declared.word.Word.{Word}
use Rattle.word24.specs.Word.{number_of, sum_word, difference_word}
use Rattle.eir_core.specs.declared.ops.Reg.{Reg}
use Rattle.eir_core.specs.declared.ops.Reg.TheVariants.{A}
use Rattle.eir_core.specs.declared.ops.Operand.{Operand}
use Rattle.eir_core.specs.declared.ops.Operand.TheVariants.{Reg as register, Imm}
use Rattle.eir_core.specs.declared.ops.Cond.{Cond}
use Rattle.eir_core.specs.declared.ops.Op.{Op}
use Rattle.eir_core.specs.declared.ops.Op.TheVariants.{Mov, Add, Sub, Load, Store, Putc, Getc, Exit, Set, Jump, JumpIf}
use Rattle.eir_core.specs.Eir.{Eir}
use Rattle.eir_core.specs.Memory.{Memory, word_at, with_word}
use Rattle.eir_core.specs.Step.{Config, reg_of, with_reg, value_of, holds, onward, going_to}
use Rattle.mach_core.specs.Integer.{byte_of}
use Rattle.sq_lang.specs.Step.{Config as SqConfig, cell_at, with_cell}
use Rattle.sq_back.specs.declared.line.Line.{Line}
use Rattle.sq_back.specs.Code.{register_cell, value_cell, number_in, nowhere, goal, row_place, subtract, go, straight, move_lines, compare_lines, goto_lines, wrap_sum_lines, branches_of, op_lines, op_cells, first_lines, memory_start}
use Rattle.sq_back.proofs.Standing.{Stands, IsEntered, FollowsOp, next_place}
use Rattle.sq_back.proofs.CellLemmas.{Small, at, one_act}
use Rattle.sq_back.proofs.Bank.{Work, Other, Hand, LoadFrom, LoadNext, StoreNext, Bank, Frame, Fits, put, fits-slot}
use Rattle.sq_back.proofs.Registers.{with_reg-reg_of}
use Rattle.sq_back.proofs.Steps.{State, state, Code, There, head_line, tail_lines, front_lines, back_lines, lines_as, Has, Arrives, Goes, arrives_then, goes_then, goes_as, slot_has, zero_has, high_row, zero_on, slot_on, slot_next, slot_jump, zero_clear, zero_go}
use Rattle.sq_back.proofs.Moves.{minus, small_pos, small_minus, Ready, moves, minus_one_has, wraps_sum, wraps_difference}
use Rattle.sq_back.proofs.Compares.{compares}
use Rattle.sq_back.proofs.Fetches.{loads, stores, finds}
use Rattle.sq_back.proofs.Entered.{source_by, Does, follows, place_small, goes_onward, frame, ready_of, bank_of, fits_of, register_has, settles}

-- a word modulo 256 is the byte that is written
byte_is : (x : ℕ) → byte_of (pos x) ≡ x % 2 ^ 8
byte_is x = let none : pos x +ℤ pos (0 * 256) ≡ pos x = omega (arith, ints) in ap unsigned_abs (int_rem_euclid_is (pos x) (pos 256) 256 0 x (omega arith) refl none)

-- the lines of an operation are as many wherever they stand
length-op_lines : (n i : ℕ) (place : ℤ) (op : Op) → 3 * length (op_lines n i place op) ≡ op_cells op
length-op_lines n i place (Mov r v) = refl
length-op_lines n i place (Add r v) = refl
length-op_lines n i place (Sub r v) = refl
length-op_lines n i place (Load r v) = refl
length-op_lines n i place (Store r v) = refl
length-op_lines n i place (Putc v) = refl
length-op_lines n i place (Getc r) = refl
length-op_lines n i place Exit = refl
length-op_lines n i place (Set test r v) = refl
length-op_lines n i place (Jump (register r)) = refl
length-op_lines n i place (Jump (Imm w)) = refl
length-op_lines n i place (JumpIf test (register r) x v) = refl
length-op_lines n i place (JumpIf test (Imm w) x v) = refl

module _ (p : Eir) (image : List ℤ) (input : List ℕ) (s : Moment Config) (t : Moment SqConfig) (own : ℕ) (near : memory_start p ≤ 2 ^ 24) (first : Stands image 0 (first_lines p)) (high : 132 ≤ own) (entered : IsEntered p image (own + 3) s t) where
  abbrev count : ℕ
  count = length p.blocks

  abbrev c : Config
  c = s.config

  abbrev place : ℤ
  place = next_place p c

  abbrev i : ℕ
  i = own + 3

  -- the frame with a register in hand
  abbrev around : Reg → Frame
  around r = frame p image input near r c.regs

  abbrev bank : Reg → Bank
  bank r = bank_of p image input near r c.regs t.config.cells

  ready : (r : Reg) → Ready (around r) count
  ready r = ready_of p image input near r c.regs first

  fits : (r : Reg) → Fits (around r) (pos 0) (bank r) c.memory t.config.cells
  fits r = fits_of p image input near r c.regs c.memory t.config.cells entered.holds

  word : (r : Reg) → reg_of c.regs r < 2 ^ 24
  word r = entered.words.regs r

  word_of : (v : Operand) → value_of c.regs v < 2 ^ 24
  word_of (register r) = word r
  word_of (Imm w) = w.in_range

  -- an operand's word
  value_has : (r : Reg) (z : ℤ) (b : Bank) (m : Memory) (v : Operand) (line : Line) → There (around r) own line → line.from ≡ number_in v → b.hand ≡ pos (reg_of c.regs r) → Has (around r) z b m (value_cell own v) (pos (value_of c.regs v))
  value_has r z b m (register x) line here is e = register_has p image input near r c.regs z b m x e
  value_has r z b m (Imm w) line here is e = λ cells h. (high_row (around r) z b m own line here high).from cells h ∙ is

  -- a way from where the operation is entered
  starts : (r : Reg) {n : ℕ} {d : State} → Goes (around r) (state (pos i) (pos 0) (bank r) c.memory) d n → Arrives (around r) (at t.config.cells s.taken s.output (pos i)) n s.taken s.output d
  starts r g = g.goes t.config.cells s.taken s.output (fits r)

  -- it goes on, with a word in a register, and with a memory
  leaves : (r : Reg) (b : Bank) (m : Memory) (w k taken : ℕ) (output : List ℕ) → Arrives (around r) (at t.config.cells s.taken s.output (pos i)) k taken output (state place (pos 0) b m) → 1 ≤ k → k ≤ 31 → b.hand ≡ pos w
      → Does p image input t (record { config = onward p c (with_reg c.regs r w) m; taken = taken; output = output })
  leaves r b m w k taken output arrives some few hand =
      let on = goes_onward p c (with_reg c.regs r w) m in
      settles p image input near r s t i b m place w k taken output (onward p c (with_reg c.regs r w) m) entered arrives some few hand on.regs on.memory on.place

  -- it goes on, with all registers as they were
  leaves_same : (r : Reg) (b : Bank) (m : Memory) (k taken : ℕ) (output : List ℕ) → Arrives (around r) (at t.config.cells s.taken s.output (pos i)) k taken output (state place (pos 0) b m) → 1 ≤ k → k ≤ 31 → b.hand ≡ pos (reg_of c.regs r)
      → Does p image input t (record { config = onward p c c.regs m; taken = taken; output = output })
  leaves_same r b m k taken output arrives some few hand = subst (λ x. Does p image input t (record { config = onward p c x m; taken = taken; output = output })) (with_reg-reg_of c.regs r) (leaves r b m (reg_of c.regs r) k taken output arrives some few hand)

  -- it goes to the front of a block
  leaves_to : (r : Reg) (b : Bank) (k n : ℕ) → Arrives (around r) (at t.config.cells s.taken s.output (pos i)) n s.taken s.output (state (goal count k) (pos 0) b c.memory) → 1 ≤ n → n ≤ 31 → b.hand ≡ pos (reg_of c.regs r)
      → Does p image input t (record { config = going_to c k; taken = s.taken; output = s.output ++ [] })
  leaves_to r b k n arrives some few hand =
      let d = settles p image input near r s t i b c.memory (goal count k) (reg_of c.regs r) n s.taken s.output (going_to c k) entered arrives some few hand (sym (with_reg-reg_of c.regs r)) refl refl in
      subst (λ o. Does p image input t (record { config = going_to c k; taken = s.taken; output = o })) (sym (append-nil s.output)) d

  -- nothing was added to the output
  quietly : (d : Config) → Does p image input t (record { config = d; taken = s.taken; output = s.output }) → Does p image input t (record { config = d; taken = s.taken; output = s.output ++ [] })
  quietly d x = subst (λ o. Does p image input t (record { config = d; taken = s.taken; output = o })) (sym (append-nil s.output)) x

  does_mov : (r : Reg) (v : Operand) → Code (around r) own (op_lines count own place (Mov r v)) → Does p image input t (source_by p input s (Some (Mov r v)))
  does_mov r v c0 =
      let x = value_of c.regs v in
      let small = word_of v in
      let from = value_has r (pos 0) (bank r) c.memory v _ (head_line c0) refl refl in
      let way = moves (around r) (bank r) c.memory i (value_cell own v) Hand place (pos x) (tail_lines c0) (omega arith) from (small_pos x (omega arith)) in
      quietly _ (leaves r (put (bank r) Hand (pos x)) c.memory x 4 s.taken s.output (starts r way) (omega arith) (omega arith) refl)

  does_add : (r : Reg) (v : Operand) → Code (around r) own (op_lines count own place (Add r v)) → Does p image input t (source_by p input s (Some (Add r v)))
  does_add r v c0 =
      let f = around r in
      let b = bank r in
      let m = c.memory in
      let o : ℤ = pos 0 in
      let x = reg_of c.regs r in
      let y = value_of c.regs v in
      let few = word r in
      let few' = word_of v in
      let lines : List Line = straight i ((value_cell own v, 3) ∷ (3, register_cell r) ∷ (3, 3) ∷ []) in
      let c1 = tail_lines c0 in
      let c2 = tail_lines c1 in
      let c3 = tail_lines c2 in
      let b1 = put b Hand (pos (x + y)) in
      let from = value_has r o b m v _ (head_line c0) refl refl in
      let sum : pos x -ℤ minus y ≡ pos (x + y) = omega (arith, ints) in
      let far : i + 3 + 3 + 3 ≡ i + 9 = omega arith in
      let s0 = zero_on f o b m i (value_cell own v) (pos y) (minus y) (high_row f o b m i _ (head_line c1) (omega arith)) from refl (small_minus y (omega arith)) in
      let s1 = slot_on f (minus y) b m (i + 3) 3 Hand (minus y) (pos (x + y)) (high_row f (minus y) b m (i + 3) _ (head_line c2) (omega arith)) (zero_has f (minus y) b m) sum (small_pos (x + y) (omega arith)) in
      let s2 = zero_clear f (minus y) b1 m (i + 3 + 3) (high_row f (minus y) b1 m (i + 3 + 3) _ (head_line c3) (omega arith)) in
      let adds = goes_as _ (state (pos (i + 9)) o b1 m) (goes_then s0 (goes_then s1 s2)) (ap (λ k. state (pos k) o b1 m) far) in
      let wraps = wraps_sum f count (ready r) b m (i + 9) place (x + y) (back_lines lines (wrap_sum_lines (i + 9) (register_cell r) place) c1) (omega arith) (omega arith) in
      quietly _ (leaves r (put b Hand (pos (sum_word x y))) m (sum_word x y) (3 + wraps.count) s.taken s.output (starts r (goes_then adds wraps.goes)) (omega arith) (omega (arith, wraps.few)) refl)

  does_sub : (r : Reg) (v : Operand) → Code (around r) own (op_lines count own place (Sub r v)) → Does p image input t (source_by p input s (Some (Sub r v)))
  does_sub r v c0 =
      let f = around r in
      let b = bank r in
      let m = c.memory in
      let o : ℤ = pos 0 in
      let x = reg_of c.regs r in
      let y = value_of c.regs v in
      let few = word r in
      let few' = word_of v in
      let d : ℤ = pos x -ℤ pos y in
      let low : Small d = record { low = omega (arith, ints); high = omega (arith, ints) } in
      let c1 = tail_lines c0 in
      let from = value_has r o b m v _ (head_line c0) refl refl in
      let s0 = slot_on f o b m i (value_cell own v) Hand (pos y) d (high_row f o b m i _ (head_line c1) (omega arith)) from refl low in
      let wraps = wraps_difference f count (ready r) b m (i + 3) place x y (tail_lines c1) (omega arith) few few' in
      let w = difference_word x y in
      quietly _ (leaves r (put b Hand (pos w)) m w (1 + wraps.count) s.taken s.output (starts r (goes_then s0 wraps.goes)) (omega arith) (omega (arith, wraps.few)) refl)

  does_load : (r : Reg) (v : Operand) → Code (around r) own (op_lines count own place (Load r v)) → Does p image input t (source_by p input s (Some (Load r v)))
  does_load r v c0 =
      let f = around r in
      let b = bank r in
      let m = c.memory in
      let o : ℤ = pos 0 in
      let a = value_of c.regs v in
      let w = word_at m a in
      let few = word_of v in
      let few' = entered.words.memory a in
      let h0 = head_line c0 in
      let within = h0.within in
      let l1 = move_lines i (value_cell own v) 4 (pos (i + 12)) in
      let l2 = move_lines (i + 12) (own + 1) 47 (pos 21) in
      let l3 = move_lines (i + 24) 4 (register_cell r) place in
      let c1 = tail_lines c0 in
      let c23 = back_lines l1 (l2 ++ l3) c1 in
      let c3 = lines_as (i + 12 + 12) (i + 24) (omega arith) (back_lines l2 l3 c23) in
      let next = own + 27 in
      let b1 = put b Work (pos a) in
      let b3 = put (put (put b Work (pos w)) LoadNext (pos next)) LoadFrom (pos (f.start + a)) in
      let far : next ≡ i + 24 = omega arith in
      let g1 = moves f b m i (value_cell own v) Work (pos (i + 12)) (pos a) (front_lines l1 (l2 ++ l3) c1) (omega arith) (value_has r o b m v _ h0 refl refl) (small_pos a (omega arith)) in
      let g2 = moves f b1 m (i + 12) (own + 1) LoadNext (pos 21) (pos next) (front_lines l2 l3 c23) (omega arith) (high_row f o b1 m own _ h0 high).to (small_pos next (omega arith)) in
      let g3 = goes_as _ (state (pos (i + 24)) o b3 m) (loads f count (ready r) b m a (pos next) few few') (ap (λ k. state (pos k) o b3 m) far) in
      let g4 = moves f b3 m (i + 24) 4 Hand place (pos w) c3 (omega arith) (slot_has f o b3 m Work) (small_pos w (omega arith)) in
      quietly _ (leaves r (put b3 Hand (pos w)) m w 21 s.taken s.output (starts r (goes_then g1 (goes_then g2 (goes_then g3 g4)))) (omega arith) (omega arith) refl)

  does_store : (r : Reg) (v : Operand) → Code (around r) own (op_lines count own place (Store r v)) → Does p image input t (source_by p input s (Some (Store r v)))
  does_store r v c0 =
      let f = around r in
      let b = bank r in
      let m = c.memory in
      let o : ℤ = pos 0 in
      let a = value_of c.regs v in
      let w = reg_of c.regs r in
      let few = word_of v in
      let few' = entered.words.memory a in
      let few'' = word r in
      let h0 = head_line c0 in
      let l1 = move_lines i (value_cell own v) 4 (pos (i + 12)) in
      let l2 = move_lines (i + 12) (register_cell r) 5 (pos (i + 24)) in
      let l3 = move_lines (i + 24) (own + 1) 89 (pos 48) in
      let c1 = tail_lines c0 in
      let c23 = back_lines l1 (l2 ++ l3) c1 in
      let c3 = lines_as (i + 12 + 12) (i + 24) (omega arith) (back_lines l2 l3 c23) in
      let b1 = put b Work (pos a) in
      let b2 = put b1 Other (pos w) in
      let on = onward p c c.regs m in
      let g1 = moves f b m i (value_cell own v) Work (pos (i + 12)) (pos a) (front_lines l1 (l2 ++ l3) c1) (omega arith) (value_has r o b m v _ h0 refl refl) (small_pos a (omega arith)) in
      let g2 = moves f b1 m (i + 12) (register_cell r) Other (pos (i + 24)) (pos w) (front_lines l2 l3 c23) (omega arith) (slot_has f o b1 m Hand) (small_pos w (omega arith)) in
      let g3 = moves f b2 m (i + 24) (own + 1) StoreNext (pos 48) place c3 (omega arith) (high_row f o b2 m own _ h0 high).to (place_small p on.block on.index near) in
      let g4 = stores f count (ready r) b m a w place few few' few'' in
      quietly _ (leaves_same r _ (with_word m a w) 26 s.taken s.output (starts r (goes_then g1 (goes_then g2 (goes_then g3 g4)))) (omega arith) (omega arith) refl)

  does_putc : (v : Operand) → Code (around A) own (op_lines count own place (Putc v)) → Does p image input t (source_by p input s (Some (Putc v)))
  does_putc v c0 =
      let f = around A in
      let b = bank A in
      let m = c.memory in
      let o : ℤ = pos 0 in
      let x = value_of c.regs v in
      let cells = t.config.cells in
      let fit = fits A in
      let c1 = tail_lines c0 in
      let from = value_has A o b m v _ (head_line c0) refl refl in
      let r = high_row f o b m i _ (head_line c1) (omega arith) in
      let out : List ℕ = s.output ++ x % 2 ^ 8 ∷ [] in
      let byte : byte_of (cell_at cells (value_cell own v)) ≡ x % 2 ^ 8 = ap byte_of (from cells fit) ∙ byte_is x in
      let writes : Arrives f (at cells s.taken s.output (pos i)) 1 s.taken out (state (pos (i + 3)) o b m) = record {
        cells = cells;
        fits = fit;
        runs = one_act image input cells s.taken s.output i (pos (value_cell own v)) (negsuc 0) (pos (i + 3)) r.near (r.from cells fit) (r.to cells fit) (r.next cells fit) ∙ ap (λ w. at cells s.taken (s.output ++ w ∷ []) (pos (i + 3))) byte;
      } in
      let s1 = zero_go f o b m (i + 3) place (high_row f o b m (i + 3) _ (head_line (tail_lines c1)) (omega arith)) in
      leaves_same A b m 2 s.taken out (arrives_then writes s1) (omega arith) (omega arith) refl

  does_getc : (r : Reg) → Code (around r) own (op_lines count own place (Getc r)) → Does p image input t (source_by p input s (Some (Getc r)))
  does_getc r c0 =
      let f = around r in
      let b = bank r in
      let m = c.memory in
      let o : ℤ = pos 0 in
      let byte = input_at input s.taken in
      let cells = t.config.cells in
      let fit = fits r in
      let c1 = tail_lines c0 in
      let b1 = put b Hand (pos byte) in
      let w = high_row f o b m i _ (head_line c1) (omega arith) in
      let takes : Arrives f (at cells s.taken s.output (pos i)) 1 (s.taken + 1) (s.output ++ []) (state (pos (i + 3)) o b1 m) = record {
        cells = with_cell cells (register_cell r) (pos byte);
        fits = fits-slot f o b m cells Hand (pos byte) fit;
        runs = one_act image input cells s.taken s.output i (negsuc 0) (pos (register_cell r)) (pos (i + 3)) w.near (w.from cells fit) (w.to cells fit) (w.next cells fit);
      } in
      let s1 = zero_go f o b1 m (i + 3) place (high_row f o b1 m (i + 3) _ (head_line (tail_lines c1)) (omega arith)) in
      leaves r b1 m byte 2 (s.taken + 1) (s.output ++ []) (arrives_then takes s1) (omega arith) (omega arith) refl

  does_exit : Code (around A) own (op_lines count own place Exit) → Does p image input t (source_by p input s (Some Exit))
  does_exit c0 =
      let f = around A in
      let b = bank A in
      let m = c.memory in
      let past : goal count count ≡ nowhere = ap (λ h. cond h (pos (row_place count)) nowhere) (le-ltb count count (omega arith)) in
      let s0 = zero_go f (pos 0) b m i nowhere (high_row f (pos 0) b m i _ (head_line (tail_lines c0)) (omega arith)) in
      leaves_to A b count 1 (starts A (goes_as _ (state (goal count count) (pos 0) b m) s0 (ap (λ g. state g (pos 0) b m) (sym past)))) (omega arith) (omega arith) refl

  does_set : (test : Cond) (r : Reg) (v : Operand) → Code (around r) own (op_lines count own place (Set test r v)) → Does p image input t (source_by p input s (Some (Set test r v)))
  does_set test r v c0 =
      let f = around r in
      let b = bank r in
      let m = c.memory in
      let o : ℤ = pos 0 in
      let x = reg_of c.regs r in
      let y = value_of c.regs v in
      let a = register_cell r in
      let there : ℤ = pos (i + 30) in
      let otherwise : ℤ = pos (i + 27) in
      let l1 = compare_lines i a (value_cell own v) (branches_of test there otherwise) in
      let l2 : List Line = subtract a a place ∷ subtract a a (pos (i + 33)) ∷ subtract 13 a (pos (i + 36)) ∷ go place ∷ [] in
      let c1 = tail_lines c0 in
      let c2 = back_lines l1 l2 c1 in
      let sees = compares f count (ready r) b m i a (value_cell own v) x y test there otherwise (front_lines l1 l2 c1) (omega arith) (slot_has f o b m Hand) (value_has r o (put b Work (pos x)) m v _ (head_line c0) refl refl) (word r) (word_of v) in
      let b1 = put b Work sees.value in
      let n = sees.way.count in
      let none : pos x -ℤ pos x ≡ o = omega (arith, ints) in
      elim (holds test x y) as (λ h. holds test x y ≡ h → Does p image input t (record { config = onward p c (with_reg c.regs r (cond h 1 0)) m; taken = s.taken; output = s.output ++ [] })) [
        | true ↦ λ e.
            let c3 = lines_as (i + 27 + 3) (i + 30) (omega arith) (tail_lines c2) in
            let c4 = lines_as (i + 30 + 3) (i + 33) (omega arith) (tail_lines c3) in
            let c5 = lines_as (i + 33 + 3) (i + 36) (omega arith) (tail_lines c4) in
            let b2 = put b1 Hand o in
            let b3 = put b1 Hand (pos 1) in
            let s0 = goes_as _ (state there o b1 m) sees.way.goes (ap (λ h. state (cond h there otherwise) o b1 m) e) in
            let s1 = slot_next f o b1 m (i + 30) (i + 33) a Hand (pos x) o (high_row f o b1 m (i + 30) _ (head_line c3) (omega arith)) (slot_has f o b1 m Hand) none (small_pos 0 (omega arith)) (omega arith) in
            let s2 = slot_next f o b2 m (i + 33) (i + 36) 13 Hand (negsuc 0) (pos 1) (high_row f o b2 m (i + 33) _ (head_line c4) (omega arith)) (minus_one_has f count (ready r) o b2 m) refl (small_pos 1 (omega arith)) (omega arith) in
            let s3 = zero_go f o b3 m (i + 36) place (high_row f o b3 m (i + 36) _ (head_line c5) (omega arith)) in
            quietly _ (leaves r b3 m 1 (n + 3) s.taken s.output (starts r (goes_then s0 (goes_then s1 (goes_then s2 s3)))) (omega arith) (omega (arith, sees.way.few)) refl)
        | false ↦ λ e.
            let s0 = goes_as _ (state otherwise o b1 m) sees.way.goes (ap (λ h. state (cond h there otherwise) o b1 m) e) in
            let s1 = slot_jump f o b1 m (i + 27) a Hand place (pos x) o (high_row f o b1 m (i + 27) _ (head_line c2) (omega arith)) (slot_has f o b1 m Hand) none (small_pos 0 (omega arith)) refl in
            quietly _ (leaves r (put b1 Hand o) m 0 (n + 1) s.taken s.output (starts r (goes_then s0 s1)) (omega arith) (omega (arith, sees.way.few)) refl)
      ] refl

  does_jump_register : (x : Reg) → Code (around x) own (op_lines count own place (Jump (register x))) → Does p image input t (source_by p input s (Some (Jump (register x))))
  does_jump_register x c0 =
      let f = around x in
      let b = bank x in
      let m = c.memory in
      let k = reg_of c.regs x in
      let few = word x in
      let g1 = moves f b m i (register_cell x) Work (pos 90) (pos k) (tail_lines c0) (omega arith) (slot_has f (pos 0) b m Hand) (small_pos k (omega arith)) in
      let g2 = finds f count (ready x) b m k few in
      leaves_to x g2.bank k (4 + g2.way.count) (starts x (goes_then g1 g2.way.goes)) (omega arith) (omega (arith, g2.way.few)) g2.hand

  does_jump_word : (w : Word) → Code (around A) own (op_lines count own place (Jump (Imm w))) → Does p image input t (source_by p input s (Some (Jump (Imm w))))
  does_jump_word w c0 =
      let f = around A in
      let b = bank A in
      let m = c.memory in
      let s0 = zero_go f (pos 0) b m i (goal count (number_of w)) (high_row f (pos 0) b m i _ (head_line (tail_lines c0)) (omega arith)) in
      leaves_to A b (number_of w) 1 (starts A s0) (omega arith) (omega arith) refl

  does_jump_if_register : (test : Cond) (q r : Reg) (v : Operand) → Code (around r) own (op_lines count own place (JumpIf test (register q) r v)) → Does p image input t (source_by p input s (Some (JumpIf test (register q) r v)))
  does_jump_if_register test q r v c0 =
      let f = around r in
      let b = bank r in
      let m = c.memory in
      let o : ℤ = pos 0 in
      let x = reg_of c.regs r in
      let y = value_of c.regs v in
      let k = reg_of c.regs q in
      let few = word q in
      let there : ℤ = pos (i + 27) in
      let l1 = compare_lines i (register_cell r) (value_cell own v) (branches_of test there place) in
      let l2 = goto_lines (i + 27) q in
      let c1 = tail_lines c0 in
      let c2 = back_lines l1 l2 c1 in
      let sees = compares f count (ready r) b m i (register_cell r) (value_cell own v) x y test there place (front_lines l1 l2 c1) (omega arith) (slot_has f o b m Hand) (value_has r o (put b Work (pos x)) m v _ (head_line c0) refl refl) (word r) (word_of v) in
      let b1 = put b Work sees.value in
      let n = sees.way.count in
      elim (holds test x y) as (λ h. holds test x y ≡ h → Does p image input t (record { config = cond h (going_to c k) (onward p c c.regs m); taken = s.taken; output = s.output ++ [] })) [
        | true ↦ λ e.
            let s0 = goes_as _ (state there o b1 m) sees.way.goes (ap (λ h. state (cond h there place) o b1 m) e) in
            let g1 = moves f b1 m (i + 27) (register_cell q) Work (pos 90) (pos k) c2 (omega arith) (register_has p image input near r c.regs o b1 m q refl) (small_pos k (omega arith)) in
            let g2 = finds f count (ready r) b m k few in
            leaves_to r g2.bank k (n + (4 + g2.way.count)) (starts r (goes_then s0 (goes_then g1 g2.way.goes))) (omega arith) (omega (arith, sees.way.few, g2.way.few)) g2.hand
        | false ↦ λ e.
            let s0 = goes_as _ (state place o b1 m) sees.way.goes (ap (λ h. state (cond h there place) o b1 m) e) in
            quietly _ (leaves_same r b1 m n s.taken s.output (starts r s0) sees.way.some (omega (arith, sees.way.few)) refl)
      ] refl

  does_jump_if_word : (test : Cond) (w : Word) (r : Reg) (v : Operand) → Code (around r) own (op_lines count own place (JumpIf test (Imm w) r v)) → Does p image input t (source_by p input s (Some (JumpIf test (Imm w) r v)))
  does_jump_if_word test w r v c0 =
      let f = around r in
      let b = bank r in
      let m = c.memory in
      let o : ℤ = pos 0 in
      let x = reg_of c.regs r in
      let y = value_of c.regs v in
      let k = number_of w in
      let there = goal count k in
      let sees = compares f count (ready r) b m i (register_cell r) (value_cell own v) x y test there place (tail_lines c0) (omega arith) (slot_has f o b m Hand) (value_has r o (put b Work (pos x)) m v _ (head_line c0) refl refl) (word r) (word_of v) in
      let b1 = put b Work sees.value in
      let n = sees.way.count in
      elim (holds test x y) as (λ h. holds test x y ≡ h → Does p image input t (record { config = cond h (going_to c k) (onward p c c.regs m); taken = s.taken; output = s.output ++ [] })) [
        | true ↦ λ e.
            let s0 = goes_as _ (state there o b1 m) sees.way.goes (ap (λ h. state (cond h there place) o b1 m) e) in
            leaves_to r b1 k n (starts r s0) sees.way.some (omega (arith, sees.way.few)) refl
        | false ↦ λ e.
            let s0 = goes_as _ (state place o b1 m) sees.way.goes (ap (λ h. state (cond h there place) o b1 m) e) in
            quietly _ (leaves_same r b1 m n s.taken s.output (starts r s0) sees.way.some (omega (arith, sees.way.few)) refl)
      ] refl

  pub does_op : (op : Op) → ((r : Reg) → Code (around r) own (op_lines count own place op)) → Does p image input t (source_by p input s (Some op))
  does_op (Mov r v) code = does_mov r v (code r)
  does_op (Add r v) code = does_add r v (code r)
  does_op (Sub r v) code = does_sub r v (code r)
  does_op (Load r v) code = does_load r v (code r)
  does_op (Store r v) code = does_store r v (code r)
  does_op (Putc v) code = does_putc v (code A)
  does_op (Getc r) code = does_getc r (code r)
  does_op Exit code = does_exit (code A)
  does_op (Set test r v) code = does_set test r v (code r)
  does_op (Jump (register x)) code = does_jump_register x (code x)
  does_op (Jump (Imm w)) code = does_jump_word w (code A)
  does_op (JumpIf test (register q) r v) code = does_jump_if_register test q r v (code r)
  does_op (JumpIf test (Imm w) r v) code = does_jump_if_word test w r v (code r)

pub follows_op : FollowsOp
follows_op p image input s t op own sound size bytes near first is stands high within entered =
    let n = length p.blocks in
    let place = next_place p s.config in
    let code = λ (r : Reg). let lines : Code (frame p image input near r s.config.regs) own (op_lines n own place op) = record { more = stands.0; stands = stands.1; within = omega (arith, length-op_lines n own place op) } in lines in
    follows p image input s t op sound bytes entered.words entered.placed is (does_op p image input s t own near first high entered op code)
