-- The pieces of operations.
use Rattle.std.specs.Prelude.{◌≡◌, ℕ, Bool, true, ◌+◌, ◌%◌, ◌^◌, ◌<◌, ◌≤◌, cond, List, [], ◌∷◌, ◌++◌, length, flat_map, Some}
use Rattle.mach_core.specs.Rule.{IsInput, input_at}
use Rattle.eir_core.specs.declared.ops.Reg.{Reg}
use Rattle.eir_core.specs.declared.ops.Operand.{Operand}
use Rattle.eir_core.specs.declared.ops.Cond.{Cond}
use Rattle.eir_core.specs.declared.ops.Op.{Op}
use Rattle.eir_core.specs.Memory.{Memory}
use Rattle.eir_core.specs.Step.{Regs, holds, takes, bytes_of}
use Rattle.bf_lang.specs.declared.command.Command.{Command}
use Rattle.bf_lang.specs.Balance.{IsBalanced}
use Rattle.bf_tape.specs.Tape.{Tape, get, put}
use Rattle.bf_tape.specs.Does.{Does}
use Rattle.bf_ops.specs.Frame.{IsFrame, Keeps}
use Rattle.bf_memory.specs.Row.{Holds}
use Rattle.bf_ops.specs.Ask.{Ask, asking, served, IsOfWords}
use Rattle.bf_ops.specs.Ask.Ask.{Nothing}
use Rattle.bf_ops.specs.Perform.{AreWords, regs_after, memory_after, asked_by, steps_before}
use Rattle.bf_choice.specs.Choice.{AreFree, aimed}
use Rattle.bf_jump.specs.Goal.{noted_for, aimed_for}
use Rattle.bf_jump.specs.Pose.{posed, IsPosed}
use Rattle.bf_jump.specs.declared.goal.Goal.{Goal}
use Rattle.bf_jump.specs.declared.goal.Goal.TheVariants.{Operation}
use Rattle.bf_turn.specs.Number.{following, is_branch}
use Rattle.bf_turn.specs.Goal.{goal_after}

-- a goal is aimed at and something is asked of the memory; or a conditional jump asked, and its answer makes that goal
pub data Leaves (d : ℕ) (left : Tape) (branch : Bool) (goal : Goal) (ask : Ask) (before : Tape) : Type 0 where
  Aimed : left ≡ aimed_for d goal (asking ask before) → Leaves d left branch goal ask before
  Asked : (t : Tape) (g : Goal) (n : ℕ) (truth : Bool) → branch ≡ true → ask ≡ Nothing → left ≡ aimed d n (noted_for d g t) → IsPosed before t truth → goal ≡ cond truth g (Operation n) → Leaves d left branch goal ask before

-- commands come to such a tape, which has these registers and this memory once that is served, with these bytes taken and written and the cells below 46 as they were
pub record AimsOn (input : List ℕ) (code : List Command) (s : Tape) (d : ℕ) (branch : Bool) (goal : Goal) (ask : Ask) (held : Memory) (r : Regs) (m : Memory) (taken : ℕ) (output : List ℕ) (most : ℕ) : Type 0 where
  pub before : Tape
  pub left : Tape
  pub does : Does input code 0 s 0 left most
  pub leaves : Leaves d left branch goal ask before
  pub frame : IsFrame before
  pub holds : Holds held before
  pub words : IsOfWords ask
  pub keeps : Keeps r m (served ask held before)
  pub base : before.base ≡ s.base
  pub same : (c : ℕ) → c < 46 → get before c ≡ get s c
  pub taken_is : before.taken ≡ taken
  pub output_is : before.output ≡ output

-- commands perform an operation, as far as it goes and up to what it asks of the memory, and aim at a goal
abbrev pub PerformsFor : List Command → ℕ → Op → (Regs → Goal) → ℕ → Type 0
PerformsFor code d op goal most =
    (input : List ℕ) (s : Tape) (r : Regs) (m : Memory) → IsInput input → AreWords r m → Keeps r m s → AreFree d s → get s 43 ≡ 0 → get s 44 ≡ 0
    → AimsOn input code s d (is_branch op) (goal r) (asked_by op r) m (regs_after op r m (input_at input s.taken)) (memory_after op r m) (cond (takes (Some op)) (s.taken + 1) s.taken) (s.output ++ bytes_of r (Some op)) most

-- the piece of an operation that goes on to a number
pub record GoesOn (code : List Command) (d : ℕ) (op : Op) (next : ℕ) : Type 0 where
  pub balanced : IsBalanced code
  pub short : length code ≤ 31744
  pub does : PerformsFor code d op (λ r. Operation next) (steps_before op + 2 ^ 14)

-- the piece of a conditional jump, which asks
pub record Branches (code : List Command) (d : ℕ) (test : Cond) (x : Reg) (v : Operand) (goal : Goal) (next : ℕ) : Type 0 where
  pub balanced : IsBalanced code
  pub short : length code ≤ 31744
  pub does : (input : List ℕ) (s : Tape) → IsInput input → IsFrame s → AreFree d s → Does input code 0 s 0 (aimed d next (noted_for d goal (posed test x v s))) (2 ^ 23)

-- the commands that the piece of an operation takes at most: a conditional jump only asks
abbrev pub piece_most : Op → ℕ
piece_most op = cond (is_branch op) (2 ^ 23) (steps_before op + 2 ^ 14)

-- the piece of an operation behind which a number stands
pub record IsArm (d : ℕ) (numbers : List ℕ) (next : ℕ) (op : Op) (code : List Command) : Type 0 where
  pub balanced : IsBalanced code
  pub short : length code ≤ 31744
  pub does : PerformsFor code d op (λ r. goal_after numbers next r op) (piece_most op)

-- the piece of the end
pub record IsEnd (code : List Command) : Type 0 where
  pub balanced : IsBalanced code
  pub short : length code ≤ 31744
  pub does : (input : List ℕ) (s : Tape) → IsInput input → Does input code 0 s 0 (put s 0 ((get s 0 + 255) % 2 ^ 8)) 512

-- the pieces of operations that are numbered from a number on
abbrev pub AreArms : ℕ → List ℕ → ℕ → ℕ → List Op → List (List Command) → Type 0
AreArms d numbers last n [] [] = Unit {0}
AreArms d numbers last n [] (a ∷ arms) = ⊥
AreArms d numbers last n (op ∷ ops) [] = ⊥
AreArms d numbers last n (op ∷ ops) (a ∷ arms) = IsArm d numbers (following last n) op a × AreArms d numbers last (n + 1) ops arms

-- such pieces came behind others
pub record HasMore (d : ℕ) (numbers : List ℕ) (last n : ℕ) (ops : List Op) (old new : List (List Command)) : Type 0 where
  pub arms : List (List Command)
  pub pushed : new ≡ old ++ arms
  pub are : AreArms d numbers last n ops arms

-- the piece of the end, and those of the operations of blocks
pub record HasAll (d : ℕ) (numbers : List ℕ) (last : ℕ) (blocks : List (List Op)) (all : List (List Command)) : Type 0 where
  pub end : List Command
  pub is_end : IsEnd end
  pub more : HasMore d numbers last 1 (flat_map (λ ops. ops) blocks) (end ∷ []) all
