-- What the commands do to the values.
use Rattle.std.specs.Prelude.{ℕ, ◌+◌, ◌-◌, ◌%◌, Bool, true, nat_le, ◌||◌, ℤ, pos, negsuc, ◌+ℤ◌, ◌-ℤ◌, ◌*ℤ◌, unsigned_abs, int_lt, List, [], ◌∷◌, ◌++◌, length, take, drop, Option, Some, None, slice_get, unwrap_or, if◌then◌else◌}
use Rattle.std.specs.Int.{int_rem_euclid}
use Rattle.mach_core.specs.Integer.{is_zero, is_in_range, floor_quotient, floor_remainder}
use Rattle.piet_lang.specs.declared.act.Act.{Act}
use Rattle.piet_lang.specs.declared.act.Act.TheVariants.{Push, Pop, Add, Subtract, Multiply, Divide, Modulo, Not, Greater, Point, Switch, Duplicate, Roll, InNumber, InChar, OutNumber, OutChar}

-- a row for each change of hue, and in it the changes of lightness
abbrev pub act_table : List (List (Option Act))
act_table =
    (None ∷ Some Push ∷ Some Pop ∷ [])
    ∷ (Some Add ∷ Some Subtract ∷ Some Multiply ∷ [])
    ∷ (Some Divide ∷ Some Modulo ∷ Some Not ∷ [])
    ∷ (Some Greater ∷ Some Point ∷ Some Switch ∷ [])
    ∷ (Some Duplicate ∷ Some Roll ∷ Some InNumber ∷ [])
    ∷ (Some InChar ∷ Some OutNumber ∷ Some OutChar ∷ [])
    ∷ []

abbrev pub act_of : ℕ → ℕ → Option Act
act_of hues lights = unwrap_or (slice_get (unwrap_or (slice_get act_table hues) []) lights) None

-- the command of the change from one colour to another: so many steps on in the hues, and so many darker
abbrev pub act_between : ℕ → ℕ → ℕ → ℕ → Option Act
act_between hue light hue' light' = act_of ((hue' + (6 - hue)) % 6) ((light' + (3 - light)) % 3)

-- the rest of a number, below 0 too, as one of 0 to the divisor
abbrev pub rest_of : ℤ → ℕ → ℕ
rest_of value n = unsigned_abs (int_rem_euclid value (pos n))

abbrev pub truth : Bool → ℤ
truth test = if test then pos 1 else pos 0

-- the top value goes below the others of so many, so many times
abbrev pub rolled : List ℤ → ℕ → ℤ → List ℤ
rolled stack depth times =
    let k = rest_of times depth in
    drop k (take depth stack) ++ (take k stack ++ drop depth stack)

-- a negative depth, or one beyond the stack, keeps all; a depth of 0 or 1 moves nothing
abbrev pub roll : List ℤ → List ℤ → ℤ → ℤ → List ℤ
roll all stack times (negsuc depth) = all
roll all stack times (pos depth) = if nat_le depth (length stack) then (if nat_le depth 1 then stack else rolled stack depth times) else all

-- the values, the top first, behind a command by which the run leaves a block of this size, fed this byte
abbrev pub after_act : Act → ℕ → ℕ → List ℤ → List ℤ
after_act Push size byte stack = pos size ∷ stack
after_act InChar size byte stack = pos byte ∷ stack
after_act InNumber size byte stack = stack
after_act Pop size byte (v ∷ stack) = stack
after_act Not size byte (v ∷ stack) = truth (is_zero v) ∷ stack
after_act Point size byte (v ∷ stack) = stack
after_act Switch size byte (v ∷ stack) = stack
after_act Duplicate size byte (v ∷ stack) = v ∷ v ∷ stack
after_act OutNumber size byte (v ∷ stack) = stack
after_act OutChar size byte (v ∷ stack) = stack
after_act Add size byte (v ∷ w ∷ stack) = (w +ℤ v) ∷ stack
after_act Subtract size byte (v ∷ w ∷ stack) = (w -ℤ v) ∷ stack
after_act Multiply size byte (v ∷ w ∷ stack) = (w *ℤ v) ∷ stack
after_act Divide size byte (v ∷ w ∷ stack) = if is_zero v then v ∷ w ∷ stack else floor_quotient w v ∷ stack
after_act Modulo size byte (v ∷ w ∷ stack) = if is_zero v then v ∷ w ∷ stack else floor_remainder w v ∷ stack
after_act Greater size byte (v ∷ w ∷ stack) = truth (int_lt v w) ∷ stack
after_act Roll size byte (v ∷ w ∷ stack) = roll (v ∷ w ∷ stack) stack v w
after_act _ size byte stack = stack

-- how often the pointer turns clockwise
abbrev pub turns_of : Act → List ℤ → ℕ
turns_of Point (v ∷ stack) = rest_of v 4
turns_of _ stack = 0

-- how often the chooser toggles
abbrev pub toggles_of : Act → List ℤ → ℕ
toggles_of Switch (v ∷ stack) = rest_of v 2
toggles_of _ stack = 0

-- what a command computes is within signed 64 bits
abbrev pub act_fits : Act → List ℤ → Bool
act_fits Add (v ∷ w ∷ stack) = is_in_range (w +ℤ v)
act_fits Subtract (v ∷ w ∷ stack) = is_in_range (w -ℤ v)
act_fits Multiply (v ∷ w ∷ stack) = is_in_range (w *ℤ v)
act_fits Divide (v ∷ w ∷ stack) = is_zero v || is_in_range (floor_quotient w v)
act_fits _ stack = true
