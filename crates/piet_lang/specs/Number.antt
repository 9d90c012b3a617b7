-- A number that is read byte by byte.
use Rattle.std.specs.Prelude.{ℕ, zero, suc, ◌+◌, ◌-◌, ◌*◌, Bool, true, false, nat_le, ◌&&◌, ◌||◌, ◌==◌, ℤ, pos, negsuc, if◌then◌else◌}
use Rattle.mach_core.specs.Integer.{is_in_range}
use Rattle.piet_lang.specs.declared.number.Seen.{Seen}
use Rattle.piet_lang.specs.declared.number.Seen.TheVariants.{Blanks, Digits, Outside}
use Rattle.piet_lang.specs.declared.number.Progress.{Progress}
use Rattle.piet_lang.specs.declared.number.Progress.TheVariants.{On, Closed}

-- space, tab, line feed and carriage return
abbrev pub is_blank : ℕ → Bool
is_blank byte = byte == 32 || byte == 9 || byte == 10 || byte == 13

abbrev pub is_digit : ℕ → Bool
is_digit byte = nat_le 48 byte && nat_le byte 57

abbrev pub signed : Bool → ℕ → ℤ
signed false n = pos n
signed true zero = pos 0
signed true (suc n) = negsuc n

-- these digits, if their number is within signed 64 bits
abbrev pub in_digits : Bool → ℕ → Seen
in_digits negative n = if is_in_range (signed negative n) then Digits negative n else Outside

-- behind a sign or digits: one more digit, or the end
abbrev pub after_digits : Bool → ℕ → ℕ → Progress
after_digits negative n byte = if is_digit byte then On (in_digits negative (10 * n + (byte - 48))) else Closed (signed negative n)

-- behind blanks at most: a blank, `+`, `-`, the first digit, or the end
abbrev pub after_blanks : ℕ → Progress
after_blanks byte =
    if is_blank byte then On Blanks
    else (if byte == 43 then On (Digits false 0)
    else (if byte == 45 then On (Digits true 0) else after_digits false 0 byte))
