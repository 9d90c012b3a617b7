-- A turn of the loop.
use Rattle.std.specs.Prelude.{◌≡◌, ℕ, ◌+◌, ◌*◌, ◌^◌, ◌<◌, ◌≤◌, Bool, true, cond, List, [], ◌++◌, length, Some}
use Rattle.mach_core.specs.Rule.{IsInput, input_at}
use Rattle.eir_core.specs.declared.ops.Reg.{Reg}
use Rattle.eir_core.specs.declared.ops.Op.{Op}
use Rattle.eir_core.specs.Eir.{Eir}
use Rattle.eir_core.specs.Memory.{Memory}
use Rattle.eir_core.specs.Step.{Config, op_at, after, takes, bytes_of}
use Rattle.bf_lang.specs.declared.command.Command.{Command}
use Rattle.bf_lang.specs.Balance.{IsBalanced}
use Rattle.bf_tape.specs.Tape.{Tape, get}
use Rattle.bf_tape.specs.Does.{Does}
use Rattle.bf_tape.specs.Piece.{Piece}
use Rattle.bf_word.specs.Word.{word_in}
use Rattle.bf_memory.specs.Row.{Holds}
use Rattle.bf_ops.specs.Frame.{cell_of, IsFrame, Keeps}
use Rattle.bf_ops.specs.Ask.{Ask, asking, served, wait_of, IsOfWords, serve_code}
use Rattle.bf_ops.specs.Ask.Ask.{Nothing}
use Rattle.bf_ops.specs.Perform.{AreWords, steps_of}
use Rattle.bf_choice.specs.Choice.{AreFree, AreBare, aimed, advanced, chosen, digits_of}
use Rattle.bf_jump.specs.declared.goal.Goal.{Goal}
use Rattle.bf_jump.specs.declared.goal.Goal.TheVariants.{Operation, Block}
use Rattle.bf_jump.specs.Goal.{noted_for, decide_code, aimed_for}
use Rattle.bf_jump.specs.Pose.{IsPosed}
use Rattle.bf_turn.specs.Number.{op_count, number_at, digits_in}
use Rattle.bf_turn.specs.Goal.{number_for}

-- where a program has conditional jumps, the commands that decide what they asked; else none
pub record Decisions (old new : Piece) (d : ℕ) (branches : Bool) : Type 0 where
  pub added : List Command
  pub commands : new.commands ≡ old.commands ++ added
  pub balanced : IsBalanced added
  pub idle : (input : List ℕ) (s : Tape) → IsInput input → get s 48 ≡ 0 → Does input added old.cell s new.cell s 512
  pub decides : branches ≡ true → (input : List ℕ) (s t : Tape) (goal : Goal) (n : ℕ) (truth : Bool) → IsInput input → IsFrame s → AreFree d s → get s 43 ≡ 0 → get s 44 ≡ 0 → IsPosed s t truth
      → Does input added old.cell (aimed d n (noted_for d goal t)) new.cell (aimed_for d (cond truth goal (Operation n)) s) (11 * 2 ^ 20)

abbrev pub decision_code : ℕ → ℕ → Bool → List Command
decision_code h d branches = cond branches (decide_code h d) []

abbrev pub decision_cell : ℕ → Bool → ℕ
decision_cell h branches = cond branches 48 h

-- the choice, and what conditional jumps asked decided
pub record IsDecided (code : List Command) (d : ℕ) (branches : Bool) (tree : List Command) : Type 0 where
  pub short : length code ≤ length tree + 2 ^ 15
  pub idle : (input : List ℕ) (s t : Tape) (n : ℕ) → IsInput input → Does input tree 0 s 0 t n → get t 48 ≡ 0 → Does input code 0 s 0 t (n + 1024)
  pub decides : branches ≡ true → (input : List ℕ) (u s t : Tape) (goal : Goal) (k : ℕ) (truth : Bool) (n : ℕ) → IsInput input → Does input tree 0 u 0 (aimed d k (noted_for d goal t)) n → IsFrame s → AreFree d s → get s 43 ≡ 0 → get s 44 ≡ 0 → IsPosed s t truth
      → Does input code 0 u 0 (aimed_for d (cond truth goal (Operation k)) s) (n + 11 * 2 ^ 20 + 1024)

-- what is asked is served by a turn: there is its text, and no block is aimed at; or nothing is asked
abbrev pub IsServed : Bool → Goal → Ask → Type 0
IsServed tail goal Nothing = Unit {0}
IsServed tail (Operation n) ask = tail ≡ true
IsServed tail (Block x) ask = ⊥

-- where a program asks for memory, the commands that serve what is asked; else none
pub record Tails (old new : Piece) (tail : Bool) : Type 0 where
  pub added : List Command
  pub commands : new.commands ≡ old.commands ++ added
  pub balanced : IsBalanced added
  pub idle : (input : List ℕ) (s : Tape) → IsInput input → get s 46 ≡ 0 → get s 47 ≡ 0 → Does input added old.cell s new.cell s 1024
  pub serves : tail ≡ true → (input : List ℕ) (s : Tape) (m : Memory) (ask : Ask) → IsInput input → IsFrame s → Holds m s → IsOfWords ask → Does input added old.cell (asking ask s) new.cell (served ask m s) (wait_of ask)

-- the commands of that, and where the head is then
abbrev pub tail_code : ℕ → Bool → List Command
tail_code h tail = cond tail (serve_code h) []

abbrev pub tail_cell : ℕ → Bool → ℕ
tail_cell h tail = cond tail 47 h

-- the choice, what it asks of the memory and aims at, and the choice of that
pub record TurnsBy (body : List Command) (d : ℕ) (numbers : List ℕ) (tail : Bool) (tree : List Command) : Type 0 where
  pub short : length body ≤ length tree + length numbers * 8704 + 2 ^ 15 + 2 ^ 13
  pub goes : (input : List ℕ) (s b : Tape) (goal : Goal) (ask : Ask) (m : Memory) (n : ℕ) → IsInput input → Does input tree 0 s 0 (aimed_for d goal (asking ask b)) n → IsServed tail goal ask → IsFrame b → Holds m b → IsOfWords ask
      → AreFree d b → get b 44 ≡ 0 → ((x : Reg) → word_in (served ask m b) (cell_of x) < 2 ^ 24)
      → Does input body 0 s 0 (advanced d (aimed d (number_for numbers (served ask m b) goal) (served ask m b))) (n + wait_of ask + length numbers * 2 ^ 14 + 2 ^ 22)
  pub ends : (input : List ℕ) (s t : Tape) (n : ℕ) → IsInput input → Does input tree 0 s 0 t n → get t 44 ≡ 0 → get t 46 ≡ 0 → get t 47 ≡ 0 → Does input body 0 s 0 (advanced d t) (n + 2 ^ 22)

-- between turns the tape has the registers and the memory of a program, with 1 in the cell 0 and 0 in all others below the registers
pub record IsSettled (p : Eir) (c : Config) (s : Tape) : Type 0 where
  pub running : get s 0 ≡ 1
  pub bare : AreBare (digits_in p) s
  pub spare : get s 43 ≡ 0
  pub flag : get s 44 ≡ 0
  pub keeps : Keeps c.regs c.memory s

-- with the digits of the number of the next operation
abbrev pub choosing : Eir → Config → Tape → Tape
choosing p c s = chosen (digits_in p) (digits_of (digits_in p) (number_at p c.block c.index)) s

-- commands come to such a tape, with these bytes taken and written
pub record Settles (input : List ℕ) (code : List Command) (s : Tape) (p : Eir) (c : Config) (base taken : ℕ) (output : List ℕ) (most : ℕ) : Type 0 where
  pub tape : Tape
  pub does : Does input code 0 s 0 (choosing p c tape) most
  pub settled : IsSettled p c tape
  pub base_is : tape.base ≡ base
  pub taken_is : tape.taken ≡ taken
  pub output_is : tape.output ≡ output

-- commands make the cell 0 a 0, and take and write nothing
pub record Stops (input : List ℕ) (code : List Command) (s : Tape) (taken : ℕ) (output : List ℕ) (most : ℕ) : Type 0 where
  pub tape : Tape
  pub does : Does input code 0 s 0 tape most
  pub zero : get tape 0 ≡ 0
  pub taken_is : tape.taken ≡ taken
  pub output_is : tape.output ≡ output

-- the commands that a turn takes at most, besides those of its operation
abbrev pub turn_most : Eir → ℕ
turn_most p = length p.blocks * 2 ^ 14 + 2 ^ 23

-- one turn does what a program does in one step, and where the program has ended the next turn is the last
pub record IsTurn (p : Eir) (body : List Command) : Type 0 where
  pub short : length body ≤ 32100 * (length p.blocks + op_count p) + 2 ^ 17
  pub goes : (input : List ℕ) (c : Config) (op : Op) (s : Tape) → IsInput input → AreWords c.regs c.memory → IsSettled p c s → op_at p c ≡ Some op
      → Settles input body (choosing p c s) p (after p c (Some op) (input_at input s.taken)) s.base (cond (takes (Some op)) (s.taken + 1) s.taken) (s.output ++ bytes_of c.regs (Some op)) (steps_of op c.regs + turn_most p)
  pub ends : (input : List ℕ) (c : Config) (s : Tape) → IsInput input → IsSettled p c s → length p.blocks ≤ c.block → Stops input body (choosing p c s) s.taken s.output (turn_most p)
