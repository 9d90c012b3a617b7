-- Texts noted in bytes: `+`, `-` and brackets as they are, and a figure where the head goes to that cell of the row.
use Rattle.std.specs.Prelude.{ℕ, ◌+◌, ◌-◌, nat_eq, Bool, true, false, cond, List, [], ◌∷◌, ◌++◌}
use Rattle.bf_lang.specs.declared.command.Command.{Command}
use Rattle.bf_lang.specs.declared.command.Command.TheVariants.{Plus, Minus, Open, Close}
use Rattle.bf_tape.specs.Code.{goto_code}
use Rattle.bf_tape.specs.Slots.{nth}
use Rattle.bf_columns.specs.Text.{Text}
use Rattle.bf_columns.specs.Text.Text.{Done, Go, Up, Down, While}
use Rattle.bf_columns.specs.Bodies.{clear_text, copy_text, to_y_text, to_x_text, sum_text, sum_y_text, difference_text, difference_y_text, less_text, more_text, less_y_text, more_y_text}
use Rattle.bf_columns.specs.Worked.{body_of}
use Rattle.bf_columns.specs.Told.{differ_text, differ_y_text, equal_code, order_code}
use Rattle.bf_columns.specs.declared.sweep.Sweep.{Sweep}
use Rattle.bf_columns.specs.declared.sweep.Sweep.TheVariants.{Clear, Copy, ToY, ToX, Sum, LaneSum, Difference, LaneDifference}
use Rattle.bf_columns.specs.declared.sweep.Question.{Question}
use Rattle.bf_columns.specs.declared.sweep.Question.TheVariants.{Equal, Less, More, LaneEqual, LaneLess, LaneMore}

abbrev pub noted_sign : List ℕ → ℕ → ℕ → List Command
noted_sign ns h b =
    cond (nat_eq b 43) (Plus ∷ []) (cond (nat_eq b 45) (Minus ∷ []) (cond (nat_eq b 91) (Open ∷ []) (cond (nat_eq b 93) (Close ∷ []) (goto_code (nth ns h) (nth ns (b - 48))))))

-- the cell of the row at which the head is after a sign
abbrev pub noted_head : ℕ → ℕ → ℕ
noted_head h b = cond (nat_eq b 43) h (cond (nat_eq b 45) h (cond (nat_eq b 91) h (cond (nat_eq b 93) h (b - 48))))

-- the commands of a noted text
abbrev pub noted : List ℕ → ℕ → List ℕ → List Command
noted ns h [] = []
noted ns h (b ∷ bs) = noted_sign ns h b ++ noted ns (noted_head h b) bs

-- how a text is noted
abbrev pub notation : Text → List ℕ
notation Done = []
notation (Go i t) = (48 + i) ∷ notation t
notation (Up t) = 43 ∷ notation t
notation (Down t) = 45 ∷ notation t
notation (While b t) = 91 ∷ (notation b ++ 93 ∷ notation t)

-- the texts of sweeps and of questions
abbrev pub sweep_text : Sweep → Text
sweep_text Clear = clear_text
sweep_text Copy = copy_text
sweep_text ToY = to_y_text
sweep_text ToX = to_x_text
sweep_text Sum = sum_text
sweep_text LaneSum = sum_y_text
sweep_text Difference = difference_text
sweep_text LaneDifference = difference_y_text

abbrev pub question_text : Question → Text
question_text Equal = differ_text
question_text Less = less_text
question_text More = more_text
question_text LaneEqual = differ_y_text
question_text LaneLess = less_y_text
question_text LaneMore = more_y_text

-- whether a question is about equality, and not about order
abbrev pub is_equality : Question → Bool
is_equality Equal = true
is_equality LaneEqual = true
is_equality _ = false

-- a question's commands, from home to home
abbrev pub question_code : Question → ℕ → ℕ → List Command
question_code q d s = cond (is_equality q) (equal_code (body_of d s (question_text q))) (order_code (body_of d s (question_text q)))
