-- For proofs only: how a number that is being read goes on with a byte.
use Rattle.std.specs.Prelude.{ℕ, ◌+◌, ◌-◌, ◌*◌, Bool, true, false, cond, ℤ, nat_eq}
use Rattle.ws_lang.specs.declared.reading.Progress.{Progress}
use Rattle.ws_lang.specs.declared.reading.Progress.TheVariants.{On, Closed}
use Rattle.ws_lang.specs.Spelling.{signed}
use Rattle.ws_lang.specs.Step.{Config, Blanks, Digits, is_blank, is_digit, in_digits, reading_on, closed}
use Rattle.ws_lang.specs.Laws.{SeenFits}

-- after a sign or digits
abbrev pub after_digit : Bool → ℕ → ℕ → Progress
after_digit negative n byte = cond (is_digit byte) (On (in_digits negative (10 * n + (byte - 48)))) (Closed (signed negative n))

-- after blanks at most
abbrev pub after_blank : ℕ → Progress
after_blank byte =
    cond (is_blank byte) (On Blanks)
    (cond (nat_eq byte 43) (On (Digits false 0))
    (cond (nat_eq byte 45) (On (Digits true 0))
    (after_digit false 0 byte)))

-- the configuration that it leads to
abbrev pub reading_after : Config → ℤ → Progress → Config
reading_after c address (On seen) = reading_on c address seen
reading_after c address (Closed value) = closed c address value

abbrev pub ProgressFits : Progress → Type 0
ProgressFits (On seen) = SeenFits seen
ProgressFits (Closed value) = Unit {0}
