-- The commands that take 1, 256 or 65536 from a counter, or add it, with the head at the byte that is meant.
use Rattle.std.specs.Prelude.{ℕ, ◌+◌, List, [], ◌∷◌, ◌++◌}
use Rattle.bf_lang.specs.declared.command.Command.{Command}
use Rattle.bf_lang.specs.declared.command.Command.TheVariants.{Right, Left, Plus, Minus}
use Rattle.bf_tape.specs.Code.{many, goto_code, probe_code, times_code}
use Rattle.bf_tape.specs.Does.{loop}

-- where the cell under the head is 0, something from the third cell after it and back there
abbrev pub if_zero_code : List Command → List Command
if_zero_code more = (probe_code ++ loop (Minus ∷ more)) ++ many 3 Left

-- from the cell of a byte's test to the next byte, a step there, and back
abbrev pub next_code : List Command → List Command
next_code inner = (many 2 Left ++ inner) ++ many 2 Right

-- the highest byte less; where it was 0, the counter's last cell more
abbrev pub lower_2 : List Command
lower_2 = if_zero_code ((many 4 Right ++ (Plus ∷ [])) ++ many 4 Left) ++ (Minus ∷ [])

-- a byte less; where it was 0, first the borrow from the next one
abbrev pub lower_past : List Command → List Command
lower_past inner = if_zero_code (next_code inner) ++ (Minus ∷ [])

abbrev pub lower_1 : List Command
lower_1 = lower_past lower_2

abbrev pub lower_0 : List Command
lower_0 = lower_past lower_1

-- the highest byte more
abbrev pub lift_2 : List Command
lift_2 = Plus ∷ []

-- a byte more; where it came to 0, the carry to the next one
abbrev pub lift_past : List Command → List Command
lift_past inner = (Plus ∷ []) ++ if_zero_code (next_code inner)

abbrev pub lift_1 : List Command
lift_1 = lift_past lift_2

abbrev pub lift_0 : List Command
lift_0 = lift_past lift_1

-- as often as a cell says, a step at another cell
abbrev pub repeat_code : ℕ → ℕ → ℕ → List Command → List Command
repeat_code h c at step = times_code h c ((goto_code c at ++ step) ++ goto_code at c)

-- the steps of the three bytes, each as often as the byte of a word says
abbrev pub count_code : ℕ → ℕ → ℕ → List Command → List Command → List Command → List Command
count_code h w g low mid high = (repeat_code h g w low ++ repeat_code g (g + 1) (w + 1) mid) ++ repeat_code (g + 1) (g + 2) (w + 2) high
