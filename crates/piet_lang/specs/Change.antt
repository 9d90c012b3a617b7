-- For proofs only: what a command does with the values, as one of a few changes.
use Rattle.std.specs.Prelude.{ℕ, ◌+◌, ◌≤◌, nat_le, Bool, true, false, ℤ, pos, negsuc, ◌+ℤ◌, ◌-ℤ◌, ◌*ℤ◌, int_lt, List, ◌∷◌, length, drop, Option, None, Some, slice_get, if◌then◌else◌}
use Rattle.mach_core.specs.Integer.{is_zero, is_in_range, floor_quotient, floor_remainder}
use Rattle.piet_lang.specs.declared.act.Act.{Act}
use Rattle.piet_lang.specs.declared.act.Act.TheVariants.{Push, Pop, Add, Subtract, Multiply, Divide, Modulo, Not, Greater, Point, Switch, Duplicate, Roll, InNumber, InChar, OutNumber, OutChar}
use Rattle.piet_lang.specs.declared.change.Change.{Change}
use Rattle.piet_lang.specs.declared.change.Change.TheVariants as change
use Rattle.piet_lang.specs.Act.{truth, rest_of}
use Rattle.piet_lang.specs.Stack.{pair_of, rolled_by}

-- the value in the place of two, if it is within signed 64 bits
abbrev pub ranged : ℤ → Change
ranged z = if is_in_range z then change.Put 2 z else change.Fail

-- of so many values
abbrev pub rolling : ℕ → ℤ → ℤ → Change
rolling len (negsuc depth) times = change.Keep
rolling len (pos depth) times = if nat_le (depth + 2) len then (if nat_le depth 1 then change.Discard 2 else change.Roll depth (rest_of times depth)) else change.Keep

abbrev pub combined : Act → ℕ → ℤ → ℤ → Change
combined Add len second top = ranged (second +ℤ top)
combined Subtract len second top = ranged (second -ℤ top)
combined Multiply len second top = ranged (second *ℤ top)
combined Divide len second top = if is_zero top then change.Keep else ranged (floor_quotient second top)
combined Modulo len second top = if is_zero top then change.Keep else change.Put 2 (floor_remainder second top)
combined Greater len second top = change.Put 2 (truth (int_lt top second))
combined Roll len second top = rolling len second top
combined _ len second top = change.Keep

abbrev pub on_top : Option ℤ → (ℤ → Change) → Change
on_top None make = change.Keep
on_top (Some x) make = make x

abbrev pub on_two : Option (ℤ × ℤ) → (ℤ → ℤ → Change) → Change
on_two None make = change.Keep
on_two (Some pair) make = make pair.0 pair.1

abbrev pub change_of : List ℤ → Act → ℕ → ℕ → Change
change_of stack Push size byte = change.Put 0 (pos size)
change_of stack InChar size byte = change.Put 0 (pos byte)
change_of stack InNumber size byte = change.Keep
change_of stack Pop size byte = change.Discard 1
change_of stack Point size byte = change.Discard 1
change_of stack Switch size byte = change.Discard 1
change_of stack OutNumber size byte = change.Discard 1
change_of stack OutChar size byte = change.Discard 1
change_of stack Not size byte = on_top (slice_get stack 0) (λ x. change.Put 1 (truth (is_zero x)))
change_of stack Duplicate size byte = on_top (slice_get stack 0) (λ x. change.Put 0 x)
change_of stack Add size byte = on_two (pair_of stack) (combined Add (length stack))
change_of stack Subtract size byte = on_two (pair_of stack) (combined Subtract (length stack))
change_of stack Multiply size byte = on_two (pair_of stack) (combined Multiply (length stack))
change_of stack Divide size byte = on_two (pair_of stack) (combined Divide (length stack))
change_of stack Modulo size byte = on_two (pair_of stack) (combined Modulo (length stack))
change_of stack Greater size byte = on_two (pair_of stack) (combined Greater (length stack))
change_of stack Roll size byte = on_two (pair_of stack) (combined Roll (length stack))

-- the values behind it
abbrev pub changed : Change → List ℤ → List ℤ
changed change.Keep stack = stack
changed (change.Put count value) stack = value ∷ drop count stack
changed (change.Discard count) stack = drop count stack
changed (change.Roll depth times) stack = rolled_by (drop 2 stack) depth times
changed change.Fail stack = stack

abbrev pub is_done : Change → Bool
is_done change.Fail = false
is_done _ = true

-- there are as many values as are rolled
abbrev pub ChangeFits : List ℤ → Change → Type 0
ChangeFits stack (change.Roll depth times) = (depth + 2 ≤ length stack) × (times ≤ depth)
ChangeFits stack _ = Unit {0}
