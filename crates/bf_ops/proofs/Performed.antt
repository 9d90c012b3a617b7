-- What the operations do, in the terms of EIR.
use Rattle.std.proofs.Common.{◌≡◌, ℕ, ◌+◌, ◌-◌, ◌*◌, ◌%◌, ◌^◌, ◌<◌, ◌≤◌, inl, Bool, true, false, cond, List, [], ◌∷◌, ◌++◌, Some, refl, sym, ap, subst, ◌∙◌, arith, append-nil}
use Rattle.mach_core.specs.Rule.{input_at}
use Rattle.mach_core.proofs.Inputs.{input_at_byte}
use Rattle.word24.specs.Word.{sum_word, difference_word}
use Rattle.eir_core.specs.declared.ops.Reg.{Reg}
use Rattle.eir_core.specs.declared.ops.Operand.{Operand}
use Rattle.eir_core.specs.declared.ops.Operand.TheVariants.{Reg as register, Imm}
use Rattle.eir_core.specs.declared.ops.Cond.{Cond}
use Rattle.eir_core.specs.declared.ops.Op.{Op}
use Rattle.eir_core.specs.declared.ops.Op.TheVariants.{Mov, Add, Sub, Load, Store, Putc, Getc, Exit, Set, Jump, JumpIf}
use Rattle.eir_core.specs.Memory.{Memory, word_at}
use Rattle.eir_core.specs.Step.{Regs, reg_of, with_reg, value_of, holds, takes, bytes_of}
use Rattle.bf_lang.specs.declared.command.Command.{Command}
use Rattle.bf_tape.specs.Tape.{Tape, get}
use Rattle.bf_tape.specs.Does.{Does}
use Rattle.bf_tape.specs.Piece.{Piece, Adds}
use Rattle.bf_tape.proofs.Moves.{does_within}
use Rattle.bf_word.specs.Word.{word_in, with_word}
use Rattle.bf_word.proofs.Words.{cell_kept}
use Rattle.bf_ops.specs.Frame.{cell_of, value_in, read_into, written, IsFrame, Keeps}
use Rattle.bf_ops.specs.Ask.{asking}
use Rattle.bf_ops.specs.Ask.Ask.{Nothing, Loading, Storing}
use Rattle.bf_ops.specs.Perform.{regs_after, memory_after, asked_by, asks, steps_before, AreWords, Comes, Performs, OperationsAreEirs}
use Rattle.bf_ops.proofs.Kept.{stands, set_words}
use Rattle.bf_ops.proofs.Acts.{none_adds}

-- the operand's word
pub value_is : (r : Regs) (m : Memory) (s : Tape) (v : Operand) → Keeps r m s → value_in s v ≡ value_of r v
value_is r m s (register q) keeps = keeps.regs q
value_is r m s (Imm w) keeps = refl

value_word : (r : Regs) (m : Memory) (v : Operand) → AreWords r m → value_of r v < 2 ^ 24
value_word r m (register q) words = words.regs q
value_word r m (Imm w) words = w.in_range

low_kept : (s : Tape) (x : Reg) (v c : ℕ) → c < 46 → get (with_word s (cell_of x) v) c ≡ get s c
low_kept s x v c lc = let there = stands x in cell_kept s (cell_of x) v c (inl (omega (arith, there.at)))

-- an operation that asks nothing
nothing_asked : {input : List ℕ} {code : List Command} {h h' taken : ℕ} {s : Tape} {m m' : Memory} {r' : Regs} {output : List ℕ} (op : Op) (r : Regs) → ((r : Regs) → asked_by op r ≡ Nothing) → asks op ≡ false
    → Comes input code h s h' Nothing m r' m' taken output (2 ^ 24) → Comes input code h s h' (asked_by op r) m r' m' taken output (steps_before op)
nothing_asked {input = input} {code = code} {h = h} {h' = h'} {taken = taken} {s = s} {m = m} {m' = m'} {r' = r'} {output = output} op r asked_is asks_is come =
    subst (λ b. Comes input code h s h' (asked_by op r) m r' m' taken output (cond b (3 * 2 ^ 20 + 2 ^ 12) (2 ^ 24))) (sym asks_is)
    (subst (λ k. Comes input code h s h' k m r' m' taken output (2 ^ 24)) (sym (asked_is r)) come)

-- an operation that sets a register, to a word of the registers and the memory
pub register_set : {p q : Piece} (op : Op) (x : Reg) (F : Tape → ℕ) (G : Regs → Memory → ℕ) (m l : ℕ) → m ≤ 2 ^ 24 → l ≤ 2 ^ 18
    → ((r : Regs) (m : Memory) (byte : ℕ) → regs_after op r m byte ≡ with_reg r x (G r m)) → ((r : Regs) (m : Memory) → memory_after op r m ≡ m) → takes (Some op) ≡ false → ((r : Regs) → bytes_of r (Some op) ≡ []) → ((r : Regs) → asked_by op r ≡ Nothing) → asks op ≡ false
    → ((r : Regs) (m : Memory) (s : Tape) → Keeps r m s → F s ≡ G r m) → ((r : Regs) (m : Memory) → AreWords r m → G r m < 2 ^ 24)
    → Adds p q IsFrame (λ input s. with_word s (cell_of x) (F s)) m l → Performs p q op
register_set op x F G most long few short regs_is memory_is takes_is bytes_is asked_is asks_is same below a = record {
  added = a.added;
  commands = a.commands;
  short = omega (arith, a.short, short);
  balanced = a.balanced;
  does = λ input s r m is words keeps.
      let v : ℕ = G r m in
      let t : Tape = with_word s (cell_of x) (F s) in
      let k : Keeps (with_reg r x v) m t = subst (λ y. Keeps (with_reg r x v) m (with_word s (cell_of x) y)) (sym (same r m s keeps)) (set_words.register_set r m s x v (below r m words) keeps) in
      nothing_asked op r asked_is asks_is (record {
        tape = t;
        does = does_within (2 ^ 24) (a.does input s is keeps.frame) few;
        frame = k.frame;
        holds = k.memory;
        words = tt;
        keeps = subst (λ y. Keeps y (memory_after op r m) t) (sym (regs_is r m (input_at input s.taken))) (subst (λ y. Keeps (with_reg r x v) y t) (sym (memory_is r m)) k);
        base = refl;
        same = λ c lc. low_kept s x (F s) c lc;
        taken_is = ap (λ b. cond b (s.taken + 1) s.taken) (sym takes_is);
        output_is = sym (ap (λ o. s.output ++ o) (bytes_is r) ∙ append-nil s.output);
      });
}

as_op : {p q : Piece} (op known : Op) → op ≡ known → Performs p q known → Performs p q op
as_op {p = p} {q = q} op known is a = subst (λ o. Performs p q o) (sym is) a

bit_word : (b : Bool) → cond b 1 0 < 2 ^ 24
bit_word true = omega arith
bit_word false = omega arith

pub performs_mov : {p q : Piece} (op : Op) (x : Reg) (v : Operand) → op ≡ Mov x v → Adds p q IsFrame (λ input s. with_word s (cell_of x) (value_in s v)) (2 ^ 22) (2 ^ 13) → Performs p q op
performs_mov op x v is a =
    as_op op (Mov x v) is (register_set (Mov x v) x (λ s. value_in s v) (λ r m. value_of r v) (2 ^ 22) (2 ^ 13) (omega arith) (omega arith) (λ r m byte. refl) (λ r m. refl) refl (λ r. refl) (λ r. refl) refl
    (λ r m s keeps. value_is r m s v keeps) (λ r m words. value_word r m v words) a)

pub performs_add : {p q : Piece} (op : Op) (x : Reg) (v : Operand) → op ≡ Add x v → Adds p q IsFrame (λ input s. with_word s (cell_of x) ((word_in s (cell_of x) + value_in s v) % 2 ^ 24)) (2 ^ 22) (2 ^ 14) → Performs p q op
performs_add op x v is a =
    as_op op (Add x v) is (register_set (Add x v) x (λ s. (word_in s (cell_of x) + value_in s v) % 2 ^ 24) (λ r m. sum_word (reg_of r x) (value_of r v)) (2 ^ 22) (2 ^ 14) (omega arith) (omega arith) (λ r m byte. refl) (λ r m. refl) refl (λ r. refl) (λ r. refl) refl
    (λ r m s keeps. λ i. (keeps.regs x i + value_is r m s v keeps i) % 2 ^ 24) (λ r m words. omega arith) a)

pub performs_sub : {p q : Piece} (op : Op) (x : Reg) (v : Operand) → op ≡ Sub x v → Adds p q IsFrame (λ input s. with_word s (cell_of x) ((word_in s (cell_of x) + (2 ^ 24 - value_in s v)) % 2 ^ 24)) (2 ^ 23) (2 ^ 14) → Performs p q op
performs_sub op x v is a =
    as_op op (Sub x v) is (register_set (Sub x v) x (λ s. (word_in s (cell_of x) + (2 ^ 24 - value_in s v)) % 2 ^ 24) (λ r m. difference_word (reg_of r x) (value_of r v)) (2 ^ 23) (2 ^ 14) (omega arith) (omega arith) (λ r m byte. refl) (λ r m. refl) refl (λ r. refl) (λ r. refl) refl
    (λ r m s keeps. λ i. (keeps.regs x i + (2 ^ 24 - value_is r m s v keeps i)) % 2 ^ 24) (λ r m words. omega arith) a)

pub performs_set : {p q : Piece} (op : Op) (test : Cond) (x : Reg) (v : Operand) → op ≡ Set test x v
    → Adds p q IsFrame (λ input s. with_word s (cell_of x) (cond (holds test (word_in s (cell_of x)) (value_in s v)) 1 0)) (2 ^ 24) (2 ^ 17) → Performs p q op
performs_set op test x v is a =
    as_op op (Set test x v) is (register_set (Set test x v) x (λ s. cond (holds test (word_in s (cell_of x)) (value_in s v)) 1 0) (λ r m. cond (holds test (reg_of r x) (value_of r v)) 1 0) (2 ^ 24) (2 ^ 17) (omega arith) (omega arith)
    (λ r m byte. refl) (λ r m. refl) refl (λ r. refl) (λ r. refl) refl
    (λ r m s keeps. λ i. cond (holds test (keeps.regs x i) (value_is r m s v keeps i)) 1 0) (λ r m words. bit_word (holds test (reg_of r x) (value_of r v))) a)

pub performs_load : {p q : Piece} (op : Op) (x : Reg) (v : Operand) → op ≡ Load x v → Adds p q IsFrame (λ input s. asking (Loading x (value_in s v)) s) (3 * 2 ^ 20 + 2 ^ 12) (2 ^ 14) → Performs p q op
performs_load {p = p} {q = q} op x v is a = as_op op (Load x v) is (record {
  added = a.added;
  commands = a.commands;
  short = omega (arith, a.short);
  balanced = a.balanced;
  does = λ input s r m is words keeps.
      let n : ℕ = value_of r v in
      let y : ℕ = word_at m n in
      record {
        tape = s;
        does = subst (λ k. Does input a.added p.cell s q.cell (asking (Loading x k) s) (3 * 2 ^ 20 + 2 ^ 12)) (value_is r m s v keeps) (a.does input s is keeps.frame);
        frame = keeps.frame;
        holds = keeps.memory;
        words = value_word r m v words;
        keeps = set_words.register_set r m s x y (words.memory n) keeps;
        base = refl;
        same = λ c lc. refl;
        taken_is = refl;
        output_is = sym (append-nil s.output);
      };
})

pub performs_store : {p q : Piece} (op : Op) (x : Reg) (v : Operand) → op ≡ Store x v → Adds p q IsFrame (λ input s. asking (Storing (value_in s v) (word_in s (cell_of x))) s) (3 * 2 ^ 20 + 2 ^ 12) (2 ^ 14) → Performs p q op
performs_store {p = p} {q = q} op x v is a = as_op op (Store x v) is (record {
  added = a.added;
  commands = a.commands;
  short = omega (arith, a.short);
  balanced = a.balanced;
  does = λ input s r m is words keeps.
      let n : ℕ = value_of r v in
      let y : ℕ = reg_of r x in
      record {
        tape = s;
        does = subst (λ z. Does input a.added p.cell s q.cell (asking (Storing n z) s) (3 * 2 ^ 20 + 2 ^ 12)) (keeps.regs x)
            (subst (λ k. Does input a.added p.cell s q.cell (asking (Storing k (word_in s (cell_of x))) s) (3 * 2 ^ 20 + 2 ^ 12)) (value_is r m s v keeps) (a.does input s is keeps.frame));
        frame = keeps.frame;
        holds = keeps.memory;
        words = (value_word r m v words, words.regs x);
        keeps = set_words.memory_set r m s n y (value_word r m v words) (words.regs x) keeps;
        base = refl;
        same = λ c lc. refl;
        taken_is = refl;
        output_is = sym (append-nil s.output);
      };
})

pub performs_putc : {p q : Piece} (op : Op) (v : Operand) → op ≡ Putc v → Adds p q IsFrame (λ input s. written s (value_in s v % 2 ^ 8)) (2 ^ 11) (2 ^ 11) → Performs p q op
performs_putc {p = p} {q = q} op v is a = as_op op (Putc v) is (record {
  added = a.added;
  commands = a.commands;
  short = omega (arith, a.short);
  balanced = a.balanced;
  does = λ input s r m is words keeps. record {
    tape = written s (value_in s v % 2 ^ 8);
    does = does_within (2 ^ 24) (a.does input s is keeps.frame) (omega arith);
    frame = record { counters = keeps.frame.counters; own = keeps.frame.own; clear = keeps.frame.clear };
    holds = record { words = keeps.memory.words; empty = keeps.memory.empty };
    words = tt;
    keeps = record { frame = record { counters = keeps.frame.counters; own = keeps.frame.own; clear = keeps.frame.clear }; regs = keeps.regs; memory = record { words = keeps.memory.words; empty = keeps.memory.empty } };
    base = refl;
    same = λ c lc. refl;
    taken_is = refl;
    output_is = ap (λ n. s.output ++ (n % 2 ^ 8) ∷ []) (value_is r m s v keeps);
  };
})

pub performs_getc : {p q : Piece} (op : Op) (x : Reg) → op ≡ Getc x → Adds p q IsFrame (λ input s. read_into input s (cell_of x)) (2 ^ 13) (2 ^ 12) → Performs p q op
performs_getc {p = p} {q = q} op x is a = as_op op (Getc x) is (record {
  added = a.added;
  commands = a.commands;
  short = omega (arith, a.short);
  balanced = a.balanced;
  does = λ input s r m is words keeps.
      let byte : ℕ = input_at input s.taken in
      let small : byte < 2 ^ 8 = input_at_byte input s.taken is in
      let k : Keeps (with_reg r x byte) m (with_word s (cell_of x) byte) = set_words.register_set r m s x byte (omega arith) keeps in
      record {
        tape = read_into input s (cell_of x);
        does = does_within (2 ^ 24) (a.does input s is keeps.frame) (omega arith);
        frame = record { counters = k.frame.counters; own = k.frame.own; clear = k.frame.clear };
        holds = record { words = k.memory.words; empty = k.memory.empty };
        words = tt;
        keeps = record { frame = record { counters = k.frame.counters; own = k.frame.own; clear = k.frame.clear }; regs = k.regs; memory = record { words = k.memory.words; empty = k.memory.empty } };
        base = refl;
        same = λ c lc. low_kept s x byte c lc;
        taken_is = refl;
        output_is = sym (append-nil s.output);
      };
})

-- an operation that only says where to go
pub performs_none : (p : Piece) (op known : Op) → op ≡ known → ((r : Regs) (m : Memory) (byte : ℕ) → regs_after known r m byte ≡ r) → ((r : Regs) (m : Memory) → memory_after known r m ≡ m) → takes (Some known) ≡ false → ((r : Regs) → bytes_of r (Some known) ≡ []) → ((r : Regs) → asked_by known r ≡ Nothing) → asks known ≡ false → Performs p p op
performs_none p op known is regs_is memory_is takes_is bytes_is asked_is asks_is =
    let a = none_adds p IsFrame 0 0 in
    as_op op known is (record {
      added = a.added;
      commands = a.commands;
      short = omega (arith, a.short);
      balanced = a.balanced;
      does = λ input s r m is words keeps. nothing_asked known r asked_is asks_is (record {
        tape = s;
        does = does_within (2 ^ 24) (a.does input s is keeps.frame) (omega arith);
        frame = keeps.frame;
        holds = keeps.memory;
        words = tt;
        keeps = subst (λ y. Keeps y (memory_after known r m) s) (sym (regs_is r m (input_at input s.taken))) (subst (λ y. Keeps r y s) (sym (memory_is r m)) keeps);
        base = refl;
        same = λ c lc. refl;
        taken_is = ap (λ b. cond b (s.taken + 1) s.taken) (sym takes_is);
        output_is = sym (ap (λ o. s.output ++ o) (bytes_is r) ∙ append-nil s.output);
      });
    })

pub eirs : OperationsAreEirs
eirs p c (Mov x v) byte e = refl
eirs p c (Add x v) byte e = refl
eirs p c (Sub x v) byte e = refl
eirs p c (Load x v) byte e = refl
eirs p c (Store x v) byte e = refl
eirs p c (Putc v) byte e = refl
eirs p c (Getc x) byte e = refl
eirs p c (Set test x v) byte e = refl
eirs p c Exit byte e = absurd (cc)
eirs p c (Jump v) byte e = absurd (cc)
eirs p c (JumpIf test v x w) byte e = absurd (cc)
