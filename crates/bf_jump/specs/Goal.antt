-- Where a conditional jump goes on.
use Rattle.std.specs.Prelude.{◌≡◌, ℕ, ◌+◌, ◌*◌, ◌^◌, ◌≤◌, Bool, cond, List, ◌++◌, length}
use Rattle.mach_core.specs.Rule.{IsInput}
use Rattle.eir_core.specs.declared.ops.Reg.{Reg}
use Rattle.eir_core.specs.declared.ops.Operand.{Operand}
use Rattle.eir_core.specs.declared.ops.Cond.{Cond}
use Rattle.eir_core.specs.declared.ops.Reg.TheVariants.{A, B, C, D, SP, BP}
use Rattle.bf_lang.specs.declared.command.Command.{Command}
use Rattle.bf_lang.specs.Balance.{IsBalanced}
use Rattle.bf_tape.specs.Tape.{Tape, get, put}
use Rattle.bf_tape.specs.Does.{Does}
use Rattle.bf_tape.specs.Piece.{Piece}
use Rattle.bf_tape.specs.Code.{goto_code, clear_code, add_code, times_code, if_code}
use Rattle.bf_word.specs.Word.{word_in, with_word}
use Rattle.bf_word.specs.WordCode.{dup_word_code}
use Rattle.bf_ops.specs.Frame.{cell_of, IsFrame}
use Rattle.bf_choice.specs.Choice.{AreFree, aimed}
use Rattle.bf_jump.specs.declared.goal.Goal.{Goal}
use Rattle.bf_jump.specs.declared.goal.Goal.TheVariants.{Operation, Block}
use Rattle.bf_jump.specs.Note.{aim_cell, note_cell, noted, cell_at, each_code, note_code, open_code, take_code, drop_code, IsNoteFree}
use Rattle.bf_jump.specs.Pose.{pose_code, IsPosed}
use Rattle.bf_jump.specs.Tell.{tell_code}

-- a goal is aimed at: a number in the digits of the next choice, or a register's word in the cells from 114 on, with the cell 44 raised
abbrev pub aimed_for : ℕ → Goal → Tape → Tape
aimed_for d (Operation n) s = aimed d n s
aimed_for d (Block x) s = put (with_word s 114 (word_in s (cell_of x))) 44 1

-- the cell that marks a register whose block is the goal, the first one behind its word
abbrev pub mark_of : Reg → ℕ
mark_of x = cell_of x + 3

abbrev pub mark_cell : ℕ → ℕ
mark_cell i = 10 * i + 53

-- a goal is noted: the digits of its number, or its register's mark
abbrev pub noted_for : ℕ → Goal → Tape → Tape
noted_for d (Operation n) s = noted d n s
noted_for d (Block x) s = put s (mark_of x) 1

-- nothing is noted
pub record IsNotable (d : ℕ) (s : Tape) : Type 0 where
  pub notes : IsNoteFree d s
  pub marks : (x : Reg) → get s (mark_of x) ≡ 0

abbrev pub note_goal_code : ℕ → ℕ → Goal → List Command
note_goal_code h d (Operation n) = note_code n h d
note_goal_code h d (Block x) = add_code h (mark_of x) 1

abbrev pub note_goal_cell : ℕ → ℕ → Goal → ℕ
note_goal_cell h d (Operation n) = cell_at note_cell h d
note_goal_cell h d (Block x) = mark_of x

-- where a register is marked, its word goes to the cells from 114 on, and the cell 44 is raised; where none is, nothing changes
abbrev pub take_block_code : ℕ → Reg → List Command
take_block_code h x = times_code h (mark_of x) (dup_word_code (mark_of x) (cell_of x) 114 (mark_of x) ++ add_code (mark_of x) 44 1 ++ goto_code 44 (mark_of x))

abbrev pub take_blocks_code : ℕ → List Command
take_blocks_code h = take_block_code h A ++ take_block_code (mark_of A) B ++ take_block_code (mark_of B) C ++ take_block_code (mark_of C) D ++ take_block_code (mark_of D) SP ++ take_block_code (mark_of SP) BP

pub record TakesBlock (old new : Piece) (x : Reg) : Type 0 where
  pub added : List Command
  pub commands : new.commands ≡ old.commands ++ added
  pub balanced : IsBalanced added
  pub short : length added ≤ 2 ^ 13
  pub idle : (input : List ℕ) (s : Tape) → IsInput input → get s (mark_of x) ≡ 0 → Does input added old.cell s new.cell s 512
  pub found : (input : List ℕ) (s : Tape) → IsInput input → word_in s 114 ≡ 0 → get s 44 ≡ 0 → get s (mark_of x) ≡ 0
      → Does input added old.cell (put s (mark_of x) 1) new.cell (put (with_word s 114 (word_in s (cell_of x))) 44 1) (3 * 2 ^ 20 + 2 ^ 12)

pub record TakesBlocks (old new : Piece) : Type 0 where
  pub added : List Command
  pub commands : new.commands ≡ old.commands ++ added
  pub balanced : IsBalanced added
  pub short : length added ≤ 2 ^ 16
  pub idle : (input : List ℕ) (s : Tape) → IsInput input → ((x : Reg) → get s (mark_of x) ≡ 0) → Does input added old.cell s new.cell s (2 ^ 12)
  pub found : (input : List ℕ) (s : Tape) (x : Reg) → IsInput input → word_in s 114 ≡ 0 → get s 44 ≡ 0 → ((y : Reg) → get s (mark_of y) ≡ 0)
      → Does input added old.cell (put s (mark_of x) 1) new.cell (put (with_word s 114 (word_in s (cell_of x))) 44 1) (3 * 2 ^ 20 + 2 ^ 13)

-- the six marks dropped
abbrev pub drop_marks_code : ℕ → List Command
drop_marks_code h = each_code (λ k i. clear_code k (mark_cell i)) mark_cell h 6

-- what a jump that is taken does, and one that is not
abbrev pub taking_code : ℕ → List Command
taking_code d = open_code 0 d ++ take_code (cell_at aim_cell 0 d) d ++ take_blocks_code (cell_at note_cell (cell_at aim_cell 0 d) d) ++ goto_code (mark_of BP) 0

abbrev pub staying_code : ℕ → List Command
staying_code d = drop_code 0 d ++ drop_marks_code (cell_at note_cell 0 d) ++ goto_code 103 0

-- nothing is aimed at, and the cells to which a goal goes are 0
pub record IsUndecided (d : ℕ) (s : Tape) : Type 0 where
  pub notable : IsNotable d s
  pub free : AreFree d s
  pub word : word_in s 114 ≡ 0
  pub flag : get s 44 ≡ 0

-- commands that make a noted goal the one that is aimed at, and commands that drop it, from cell 0 and back
pub record Takes (code : List Command) (d : ℕ) : Type 0 where
  pub balanced : IsBalanced code
  pub short : length code ≤ 2 ^ 17
  pub does : (input : List ℕ) (s : Tape) (goal : Goal) (n : ℕ) → IsInput input → IsUndecided d s → Does input code 0 (aimed d n (noted_for d goal s)) 0 (aimed_for d goal s) (7 * 2 ^ 20)

pub record Stays (code : List Command) (d : ℕ) : Type 0 where
  pub balanced : IsBalanced code
  pub short : length code ≤ 2 ^ 17
  pub does : (input : List ℕ) (s : Tape) (goal : Goal) (n : ℕ) → IsInput input → IsUndecided d s → Does input code 0 (aimed d n (noted_for d goal s)) 0 (aimed d n s) (2 ^ 16)

-- the one text that decides: where a jump asked, its goal or what follows it is aimed at; where none did, nothing changes
abbrev pub decide_code : ℕ → ℕ → List Command
decide_code h d = times_code h 48 (tell_code 48 ++ if_code 123 49 43 (taking_code d) (staying_code d) ++ goto_code 43 48)

pub record Decides (old new : Piece) (d : ℕ) : Type 0 where
  pub added : List Command
  pub commands : new.commands ≡ old.commands ++ added
  pub balanced : IsBalanced added
  pub idle : (input : List ℕ) (s : Tape) → IsInput input → get s 48 ≡ 0 → Does input added old.cell s new.cell s 512
  pub does : (input : List ℕ) (s t : Tape) (goal : Goal) (n : ℕ) (truth : Bool) → IsInput input → IsFrame s → AreFree d s → get s 43 ≡ 0 → get s 44 ≡ 0 → IsPosed s t truth
      → Does input added old.cell (aimed d n (noted_for d goal t)) new.cell (aimed_for d (cond truth goal (Operation n)) s) (11 * 2 ^ 20)

-- a comparison posed and a goal noted have at most 1,000 commands
abbrev pub JumpsAreShort : Type 0
JumpsAreShort = (test : Cond) (x : Reg) (v : Operand) (goal : Goal) (d : ℕ) → d ≤ 14 → length (pose_code 0 test x v ++ note_goal_code 48 d goal) ≤ 1000
