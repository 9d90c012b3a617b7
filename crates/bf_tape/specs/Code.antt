-- The commands of the pieces. `h` is the cell at which the head is before them.
use Rattle.std.specs.Prelude.{ℕ, zero, suc, ◌-◌, nat_lt, Bool, cond, List, [], ◌∷◌, ◌++◌}
use Rattle.bf_lang.specs.declared.command.Command.{Command}
use Rattle.bf_lang.specs.declared.command.Command.TheVariants.{Right, Left, Plus, Minus, Read, Write}
use Rattle.bf_tape.specs.Does.{loop}

-- so many of a command
abbrev pub many : ℕ → Command → List Command
many zero c = []
many (suc n) c = c ∷ many n c

-- from one cell to another
abbrev pub goto_code : ℕ → ℕ → List Command
goto_code h c = many (c - h) Right ++ many (h - c) Left

abbrev pub clear_code : ℕ → ℕ → List Command
clear_code h c = goto_code h c ++ loop (Minus ∷ [])

-- so much more, up to half way round by `+` and else by `-`
abbrev pub more_code : ℕ → List Command
more_code v = cond (nat_lt 128 v) (many (256 - v) Minus) (many v Plus)

abbrev pub add_code : ℕ → ℕ → ℕ → List Command
add_code h c v = goto_code h c ++ more_code v

abbrev pub read_code : ℕ → ℕ → List Command
read_code h c = goto_code h c ++ Read ∷ []

abbrev pub write_code : ℕ → ℕ → List Command
write_code h c = goto_code h c ++ Write ∷ []

-- takes a cell down to 0, and changes another by a command as often
abbrev pub carry_body : Command → ℕ → ℕ → List Command
carry_body sign from to = Minus ∷ (goto_code from to ++ sign ∷ goto_code to from)

abbrev pub carry_code : Command → ℕ → ℕ → ℕ → List Command
carry_code sign h from to = goto_code h from ++ loop (carry_body sign from to)

-- adds a cell to another, and clears it
abbrev pub move_code : ℕ → ℕ → ℕ → List Command
move_code = carry_code Plus

-- takes a cell from another, and clears it
abbrev pub drain_code : ℕ → ℕ → ℕ → List Command
drain_code = carry_code Minus

-- takes a cell down, and two others up
abbrev pub copy_body : ℕ → ℕ → ℕ → List Command
copy_body from to spare = Minus ∷ (goto_code from to ++ (Plus ∷ []) ++ goto_code to spare ++ (Plus ∷ []) ++ goto_code spare from)

abbrev pub copy_loop : ℕ → ℕ → ℕ → List Command
copy_loop from to spare = loop (copy_body from to spare)

-- adds a cell to another and keeps it, by a cell to spare that is 0 before and afterwards
abbrev pub dup_code : ℕ → ℕ → ℕ → ℕ → List Command
dup_code h from to spare = goto_code h from ++ copy_loop from to spare ++ move_code from spare from

-- sets a cell to another, by a cell to spare, which is 0 afterwards
abbrev pub copy_code : ℕ → ℕ → ℕ → ℕ → List Command
copy_code h from to spare = clear_code h to ++ clear_code to spare ++ dup_code spare from to spare

-- repeats a body, from cell 0 to cell 0, as long as a cell is not 0
abbrev pub while_code : ℕ → ℕ → List Command → List Command
while_code h c body = goto_code h c ++ loop (goto_code c 0 ++ body ++ goto_code 0 c)

-- takes a cell down to 0, and runs a body from that cell to itself as often
abbrev pub times_code : ℕ → ℕ → List Command → List Command
times_code h c body = goto_code h c ++ loop (Minus ∷ body)

-- the frame moves, with the head at its cell 0
abbrev pub slide_code : ℕ → Bool → List Command
slide_code by right = many by (cond right Right Left)

abbrev pub shift_code : ℕ → ℕ → Bool → List Command
shift_code h by right = goto_code h 0 ++ slide_code by right

-- the body and then a shift, as long as a cell is not 0
abbrev pub walk_code : ℕ → ℕ → ℕ → Bool → List Command → List Command
walk_code h c by right body = while_code h c (body ++ slide_code by right)

abbrev pub then_body : ℕ → ℕ → List Command → List Command
then_body c spare this = goto_code c 0 ++ this ++ goto_code 0 spare ++ (Minus ∷ []) ++ goto_code spare c ++ loop (Minus ∷ [])

abbrev pub then_loop : ℕ → ℕ → List Command → List Command
then_loop c spare this = loop (then_body c spare this)

abbrev pub else_loop : ℕ → List Command → List Command
else_loop spare other = loop (goto_code spare 0 ++ other ++ goto_code 0 spare ++ (Minus ∷ []))

-- one piece where a cell is not 0, and another where it is, by a cell to spare
abbrev pub if_code : ℕ → ℕ → ℕ → List Command → List Command → List Command
if_code h c spare this other =
    clear_code h spare ++ (Plus ∷ []) ++ goto_code spare c
    ++ then_loop c spare this
    ++ goto_code c spare
    ++ else_loop spare other

-- from a cell to the third one after it, which becomes 1 where the cell is 0, and else 0
abbrev pub probe_code : List Command
probe_code = ((((((many 3 Right ++ (Plus ∷ [])) ++ many 3 Left) ++ loop (many 3 Right ++ (Minus ∷ []))) ++ many 3 Right) ++ loop (many 3 Right)) ++ many 3 Left)
