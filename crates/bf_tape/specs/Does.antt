-- What commands do to a tape, wherever they stand in a program.
use Rattle.std.specs.Prelude.{◌≡◌, ◌≢◌, ℕ, ◌+◌, ◌≤◌, List, [], ◌∷◌, ◌++◌, length, drop}
use Rattle.mach_core.specs.Rule.{Moment, run_from}
use Rattle.bf_lang.specs.declared.command.Command.{Command}
use Rattle.bf_lang.specs.declared.command.Command.TheVariants.{Open, Close}
use Rattle.bf_lang.specs.Balance.{IsBalanced}
use Rattle.bf_lang.specs.Step.{Config, bf_rule}
use Rattle.bf_tape.specs.Tape.{Tape, Shows, get}

-- within so many commands the machine comes to a place, with its head at a named cell of a tape
pub record Lands (code : List Command) (input : List ℕ) (m : Moment Config) (k h : ℕ) (s : Tape) (most : ℕ) : Type 0 where
  pub count : ℕ
  pub few : count ≤ most
  pub stops : (run_from (bf_rule code) input m count).config.place ≡ k
  pub shows : Shows (run_from (bf_rule code) input m count) h s

-- the commands make one tape of another, and take the head from one named cell to another
pub record Does (input : List ℕ) (cs : List Command) (h : ℕ) (s : Tape) (h' : ℕ) (s' : Tape) (most : ℕ) : Type 0 where
  pub balanced : IsBalanced cs
  pub lands : (code rest : List Command) (m : Moment Config) → drop m.config.place code ≡ cs ++ rest → Shows m h s → Lands code input m (m.config.place + length cs) h' s' most

-- the brackets round some commands
abbrev pub loop : List Command → List Command
loop body = Open ∷ (body ++ Close ∷ [])

-- turns of a loop, as long as the named cell is not 0, in so many commands
pub data Turns (input : List ℕ) (body : List Command) (h : ℕ) : Tape → Tape → ℕ → Type 0 where
  Over : (s : Tape) → get s h ≡ 0 → Turns input body h s s 0
  Turn : (s s' s'' : Tape) (a b : ℕ) → get s h ≢ 0 → Does input body h s h s' a → Turns input body h s' s'' b → Turns input body h s s'' (a + 1 + b)

-- turns of a loop that may come to its end with the head at another cell than it began at
pub data Strides (input : List ℕ) (body : List Command) : ℕ → Tape → ℕ → Tape → ℕ → Type 0 where
  Stand : (h : ℕ) (s : Tape) → get s h ≡ 0 → Strides input body h s h s 0
  Stride : (h h' h'' : ℕ) (s s' s'' : Tape) (a b : ℕ) → get s h ≢ 0 → Does input body h s h' s' a → Strides input body h' s' h'' s'' b → Strides input body h s h'' s'' (a + 1 + b)
