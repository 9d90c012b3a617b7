-- The pieces of operations.
use Rattle.std.proofs.Common.{◌≡◌, ℕ, ◌+◌, ◌*◌, ◌%◌, ◌^◌, ◌≤◌, ◌<◌, inl, Bool, false, cond, List, [], ◌++◌, length, Some, Result, Ok, Err, IfOk, refl, sym, ap, subst, ◌∙◌, arith, append-nil, length-append}
use Rattle.mach_core.specs.Rule.{input_at}
use Rattle.eir_core.specs.declared.ops.Reg.{Reg}
use Rattle.eir_core.specs.declared.ops.Operand.{Operand}
use Rattle.eir_core.specs.declared.ops.Operand.TheVariants.{Reg as register, Imm}
use Rattle.eir_core.specs.declared.ops.Cond.{Cond}
use Rattle.eir_core.specs.declared.ops.Op.{Op}
use Rattle.eir_core.specs.declared.ops.Op.TheVariants.{Mov, Add, Sub, Load, Store, Putc, Getc, Set, Exit, Jump, JumpIf}
use Rattle.eir_core.specs.Memory.{Memory, word_at}
use Rattle.eir_core.specs.Step.{Regs, reg_of, value_of, holds, takes, bytes_of}
use Rattle.bf_lang.specs.declared.command.Command.{Command}
use Rattle.bf_lang.specs.Balance.{IsBalanced}
use Rattle.bf_lang.proofs.Partners.{balanced_append}
use Rattle.bf_tape.specs.Tape.{Tape, get, put}
use Rattle.bf_tape.specs.Does.{Does}
use Rattle.bf_tape.specs.Piece.{Piece, joined, Adds, any}
use Rattle.bf_tape.proofs.Moves.{does_then, does_within}
use Rattle.bf_tape.proofs.Turning.{get_other}
use Rattle.bf_word.specs.Word.{word_in, with_word}
use Rattle.bf_word.proofs.Words.{cell_kept}
use Rattle.bf_ops.specs.Frame.{cell_of, value_in, Keeps}
use Rattle.bf_ops.specs.OpsCode.{operation_code}
use Rattle.bf_memory.specs.Row.{slot}
use Rattle.bf_ops.specs.Ask.{Ask, flag_of, asking, served}
use Rattle.bf_ops.specs.Ask.Ask.{Nothing, Loading, Storing}
use Rattle.bf_ops.specs.Perform.{AreWords, Comes, Performs, regs_after, memory_after, asked_by, steps_before}
use Rattle.bf_ops.proofs.Kept.{stands, slot_far}
use Rattle.bf_ops.proofs.Performed.{value_is}
use Rattle.bf_ops.proofs.Lengths.{operations_short}
use Rattle.bf_choice.specs.Choice.{AreFree, aimed}
use Rattle.bf_choice.proofs.Aimed.{aimed_put}
use Rattle.bf_jump.specs.declared.goal.Goal.{Goal}
use Rattle.bf_jump.specs.declared.goal.Goal.TheVariants.{Operation}
use Rattle.bf_turn.specs.Goal.{goal_of, goal_after, IsOpen, Heads}
use Rattle.bf_jump.specs.Goal.{aimed_for, noted_for}
use Rattle.bf_turn.specs.Number.{is_branch}
use Rattle.bf_turn.specs.Arm.{AimsOn, GoesOn, Branches, IsArm, IsEnd}
use Rattle.bf_turn.specs.Arm.Leaves.{Aimed, Asked}
use Rattle.bf_jump.specs.Pose.{posed, IsPosed}
use Rattle.bf_jump.proofs.Asked.{comparisons_posed}
use Rattle.bf_turn.proofs.Beside.{aimed_word}

-- what is asked stands beside the digits
pub aimed_asking : (d n : ℕ) (ask : Ask) (s : Tape) → d ≤ 14 → aimed d n (asking ask s) ≡ asking ask (aimed d n s)
aimed_asking d n Nothing s few = refl
aimed_asking d n (Loading x a) s few =
    let at = stands x in
    let f : ℕ = flag_of x in
    sym (aimed_put d n (put (with_word s 107 a) f 1) 46 1 (omega arith))
    ∙ ap (λ t. put t 46 1) (sym (aimed_put d n (with_word s 107 a) f 1 (omega (arith, at.at))) ∙ ap (λ t. put t f 1) (sym (aimed_word d n s 107 a (omega arith))))
aimed_asking d n (Storing a v) s few =
    sym (aimed_put d n (with_word (with_word s 107 a) 87 v) 47 1 (omega arith))
    ∙ ap (λ t. put t 47 1) (sym (aimed_word d n (with_word s 107 a) 87 v (omega arith)) ∙ ap (λ t. with_word t 87 v) (sym (aimed_word d n s 107 a (omega arith))))

pub aimed_served : (d n : ℕ) (ask : Ask) (m : Memory) (s : Tape) → d ≤ 14 → aimed d n (served ask m s) ≡ served ask m (aimed d n s)
aimed_served d n Nothing m s few = refl
aimed_served d n (Loading x a) m s few = let at = stands x in sym (aimed_word d n s (cell_of x) (word_at m a) (omega (arith, at.at)))
aimed_served d n (Storing a v) m s few = let far : 174 ≤ slot a = slot_far a in sym (aimed_word d n s (slot a) v (omega arith))

pub asking_low : (ask : Ask) (s : Tape) (c : ℕ) → c < 46 → get (asking ask s) c ≡ get s c
asking_low Nothing s c lc = refl
asking_low (Loading x a) s c lc =
    let at = stands x in
    get_other (put (with_word s 107 a) (flag_of x) 1) 46 c 1 (omega arith) ∙ (get_other (with_word s 107 a) (flag_of x) c 1 (omega (arith, at.at)) ∙ cell_kept s 107 a c (inl (omega arith)))
asking_low (Storing a v) s c lc = get_other (with_word (with_word s 107 a) 87 v) 47 c 1 (omega arith) ∙ (cell_kept (with_word s 107 a) 87 v c (inl (omega arith)) ∙ cell_kept s 107 a c (inl (omega arith)))

pub served_low : (ask : Ask) (m : Memory) (s : Tape) (c : ℕ) → c < 46 → get (served ask m s) c ≡ get s c
served_low Nothing m s c lc = refl
served_low (Loading x a) m s c lc = let at = stands x in cell_kept s (cell_of x) (word_at m a) c (inl (omega (arith, at.at)))
served_low (Storing a v) m s c lc = let far : 174 ≤ slot a = slot_far a in cell_kept s (slot a) v c (inl (omega arith))

-- an operation that another one follows
pub goes_on : {first mid next last : Piece} (d n cell : ℕ) (op : Op) → d ≤ 14 → first ≡ record { commands = []; cell = 0 } → mid ≡ joined first (operation_code first.cell op) cell → Performs first mid op
    → Adds mid next (AreFree d) (λ input s. aimed d n s) (d * 512) (d * 512) → Adds next last any (λ input s. s) 255 255 → last.cell ≡ 0 → GoesOn last.commands d op n
goes_on {first = first} {mid = mid} {next = next} {last = last} d n cell op few from is a b e home =
    let code : last.commands ≡ a.added ++ b.added ++ e.added = e.commands ∙ ap (λ xs. xs ++ e.added) (b.commands ∙ ap (λ xs. xs ++ b.added) (a.commands ∙ ap (λ (p : Piece). p.commands ++ a.added) from)) in
    let mid_code : mid.commands ≡ operation_code 0 op = ap (λ p. p.commands) is ∙ ap (λ (p : Piece). p.commands ++ operation_code p.cell op) from in
    let at_first : first.cell ≡ 0 = ap (λ p. p.cell) from in
    record {
      balanced = subst IsBalanced (sym code) (balanced_append (a.added ++ b.added) e.added (balanced_append a.added b.added a.balanced b.balanced) e.balanced);
      short = omega (arith, ap length e.commands, ap length b.commands, ap length mid_code, operations_short.any op, length-append next.commands e.added, length-append mid.commands b.added, b.short, e.short);
      does = λ input s r m is words keeps free spare flag.
          let most : ℕ = steps_before op in
          let ask : Ask = asked_by op r in
          let come : Comes input a.added first.cell s mid.cell ask m (regs_after op r m (input_at input s.taken)) (memory_after op r m) (cond (takes (Some op)) (s.taken + 1) s.taken) (s.output ++ bytes_of r (Some op)) most = a.does input s r m is words keeps in
          let t : Tape = asking ask come.tape in
          let still : AreFree d t = λ i lt. asking_low ask come.tape (3 * i + 3) (omega arith) ∙ (come.same (3 * i + 3) (omega arith) ∙ free i lt) in
          let all : Does input (a.added ++ b.added ++ e.added) first.cell s last.cell (aimed d n t) (most + 2 ^ 14) =
          does_then (most + 2 ^ 14) (does_then (most + 2 ^ 13) come.does (b.does input t is still) (omega arith)) (e.does input (aimed d n t) is tt) (omega arith) in
          record {
            before = come.tape;
            left = aimed d n t;
            leaves = Aimed refl;
            does = subst (λ y. Does input last.commands 0 s y (aimed d n t) (most + 2 ^ 14)) home
                (subst (λ y. Does input last.commands y s last.cell (aimed d n t) (most + 2 ^ 14)) at_first
                (subst (λ xs. Does input xs first.cell s last.cell (aimed d n t) (most + 2 ^ 14)) (sym code) all));
            frame = come.frame;
            holds = come.holds;
            words = come.words;
            keeps = come.keeps;
            base = come.base;
            same = come.same;
            taken_is = come.taken_is;
            output_is = come.output_is;
          };
    }

-- an operation that only jumps
pub open_of : (d : ℕ) (r : Regs) (m : Memory) (s : Tape) → Keeps r m s → AreFree d s → get s 44 ≡ 0 → IsOpen d s
open_of d r m s keeps free flag = record { free = free; counters = keeps.frame.counters; clear = keeps.frame.clear; flag = flag }

stays : (input : List ℕ) (code : List Command) (s : Tape) (d : ℕ) (goal : Goal) (r : Regs) (m : Memory) (most : ℕ) → Does input code 0 s 0 (aimed_for d goal s) most → Keeps r m s → AimsOn input code s d false goal Nothing m r m s.taken (s.output ++ []) most
stays input code s d goal r m most does keeps = record { before = s; left = aimed_for d goal s; leaves = Aimed refl; does = does; frame = keeps.frame; holds = keeps.memory; words = tt; keeps = keeps; base = refl; same = λ c lt. refl; taken_is = refl; output_is = sym (append-nil s.output) }

pub exit_arm : (d next : ℕ) (numbers : List ℕ) (op : Op) (code : List Command) → op ≡ Exit → Heads code d (Operation 0) → IsArm d numbers next op code
exit_arm d next numbers op code is h = subst (λ o. IsArm d numbers next o code) (sym is) (record {
  balanced = h.balanced;
  short = omega (arith, h.short);
  does = λ input s r m bytes words keeps free spare flag. stays input code s d (Operation 0) r m (2 ^ 24 + 2 ^ 14) (does_within (2 ^ 24 + 2 ^ 14) (h.does input s bytes (open_of d r m s keeps free flag)) (omega arith)) keeps;
})

pub jump_arm : (d next : ℕ) (numbers : List ℕ) (op : Op) (v : Operand) (goal : Goal) (code : List Command) → op ≡ Jump v → goal ≡ goal_of numbers v → Heads code d goal → IsArm d numbers next op code
jump_arm d next numbers op v goal code is to h' =
    let h : Heads code d (goal_of numbers v) = subst (λ g. Heads code d g) to h' in
    subst (λ o. IsArm d numbers next o code) (sym is) (record {
      balanced = h.balanced;
      short = omega (arith, h.short);
      does = λ input s r m bytes words keeps free spare flag. stays input code s d (goal_of numbers v) r m (2 ^ 24 + 2 ^ 14) (does_within (2 ^ 24 + 2 ^ 14) (h.does input s bytes (open_of d r m s keeps free flag)) (omega arith)) keeps;
    })

pub branch_arm : (d next : ℕ) (numbers : List ℕ) (op : Op) (test : Cond) (v : Operand) (x : Reg) (w : Operand) (goal : Goal) (code : List Command) → op ≡ JumpIf test v x w → goal ≡ goal_of numbers v → Branches code d test x w goal next → IsArm d numbers next op code
branch_arm d next numbers op test v x w goal code is to b' =
    let b : Branches code d test x w (goal_of numbers v) next = subst (λ g. Branches code d test x w g next) to b' in
    subst (λ o. IsArm d numbers next o code) (sym is) (record {
      balanced = b.balanced;
      short = b.short;
      does = λ input s r m bytes words keeps free spare flag.
          let truth : Bool = holds test (reg_of r x) (value_of r w) in
          let a : word_in s (cell_of x) ≡ reg_of r x = keeps.regs x in
          let c : value_in s w ≡ value_of r w = value_is r m s w keeps in
          let t : Tape = posed test x w s in
          let posed_so : IsPosed s t (holds test (word_in s (cell_of x)) (value_in s w)) = comparisons_posed test x w s (subst (λ k. k < 2 ^ 24) (sym a) (words.regs x)) (subst (λ k. k < 2 ^ 24) (sym c) (value_few r m w words)) in
          let is_so : IsPosed s t truth = subst (λ b. IsPosed s t b) (λ i. holds test (a i) (c i)) posed_so in
          record {
            before = s;
            left = aimed d next (noted_for d (goal_of numbers v) t);
            does = b.does input s bytes keeps.frame free;
            leaves = Asked t (goal_of numbers v) next truth refl refl refl is_so refl;
            frame = keeps.frame;
            holds = keeps.memory;
            words = tt;
            keeps = keeps;
            base = refl;
            same = λ c lt. refl;
            taken_is = refl;
            output_is = sym (append-nil s.output);
          };
    })
  where
    value_few : (r : Regs) (m : Memory) (w : Operand) → AreWords r m → value_of r w < 2 ^ 24
    value_few r m (register q) words = words.regs q
    value_few r m (Imm k) words = k.in_range

pub other_arm : (d next : ℕ) (numbers : List ℕ) (op : Op) (code : List Command) → is_branch op ≡ false → ((r : Regs) → Operation next ≡ goal_after numbers next r op) → GoesOn code d op next → IsArm d numbers next op code
other_arm d next numbers op code other same g = record {
  balanced = g.balanced;
  short = g.short;
  does = λ input s r m bytes words keeps free spare flag.
      let most : ℕ = steps_before op + 2 ^ 14 in
      let taken : ℕ = cond (takes (Some op)) (s.taken + 1) s.taken in
      subst (λ b. AimsOn input code s d (is_branch op) (goal_after numbers next r op) (asked_by op r) m (regs_after op r m (input_at input s.taken)) (memory_after op r m) taken (s.output ++ bytes_of r (Some op)) (cond b (2 ^ 23) most)) (sym other)
      (subst (λ k. AimsOn input code s d (is_branch op) k (asked_by op r) m (regs_after op r m (input_at input s.taken)) (memory_after op r m) taken (s.output ++ bytes_of r (Some op)) most) (same r) (g.does input s r m bytes words keeps free spare flag));
}

pub other_goal : (numbers : List ℕ) (next : ℕ) (r : Regs) (op : Op) → (op ≡ Exit → ⊥) → ((v : Operand) → op ≡ Jump v → ⊥) → ((test : Cond) (v : Operand) (x : Reg) (w : Operand) → op ≡ JumpIf test v x w → ⊥) → Operation next ≡ goal_after numbers next r op
other_goal numbers next r (Mov x v) a b e = refl
other_goal numbers next r (Add x v) a b e = refl
other_goal numbers next r (Sub x v) a b e = refl
other_goal numbers next r (Load x v) a b e = refl
other_goal numbers next r (Store x v) a b e = refl
other_goal numbers next r (Putc v) a b e = refl
other_goal numbers next r (Getc x) a b e = refl
other_goal numbers next r (Set test x v) a b e = refl
other_goal numbers next r Exit a b e = absurd (a refl)
other_goal numbers next r (Jump v) a b e = absurd (b v refl)
other_goal numbers next r (JumpIf test v x w) a b e = absurd (e test v x w refl)

pub if_ok : {T E : Type 0} {P Q : T → Type 0} (r : Result T E) → ((x : T) → P x → Q x) → IfOk r P → IfOk r Q
if_ok (Ok x) f p = f x p
if_ok (Err e) f p = tt

-- the end
pub is_end : {first last : Piece} → first ≡ record { commands = []; cell = 0 } → last.cell ≡ 0 → Adds first last any (λ input s. put s 0 ((get s 0 + 255) % 2 ^ 8)) 512 512 → IsEnd last.commands
is_end {first = first} {last = last} from home a =
    let code : last.commands ≡ a.added = a.commands ∙ ap (λ (p : Piece). p.commands ++ a.added) from in
    record {
      balanced = subst IsBalanced (sym code) a.balanced;
      short = omega (arith, ap length code, a.short);
      does = λ input s is.
          subst (λ y. Does input last.commands 0 s y (put s 0 ((get s 0 + 255) % 2 ^ 8)) 512) home
          (subst (λ y. Does input last.commands y s last.cell (put s 0 ((get s 0 + 255) % 2 ^ 8)) 512) (ap (λ p. p.cell) from)
          (subst (λ xs. Does input xs first.cell s last.cell (put s 0 ((get s 0 + 255) % 2 ^ 8)) 512) (sym code) (a.does input s is tt)));
    }
