-- Why a text is refused.
use Rattle.std.specs.Prelude.{◌≡◌, ℕ, ◌-◌, List, ◌++◌, length, ℤ, FitsSigned, ⊤}
use Rattle.std.specs.Int.{w64}
use Rattle.sq_lang.specs.declared.text.SqFault.{SqFault}
use Rattle.sq_lang.specs.declared.text.SqFault.TheVariants.{BadNumber, NumberRange, Memory}
use Rattle.sq_lang.specs.Text.{Begins, BeginsWithCells, IsNumber, number_in}

-- the piece at a place is no number, or one that signed 64 bits can't hold
abbrev pub IsWrong : List ℕ → ℕ → SqFault → Type 0
IsWrong piece place (BadNumber at) = (at ≡ place) × ¬ (IsNumber piece)
IsWrong piece place (NumberRange at) = (at ≡ place) × IsNumber piece × ¬ (FitsSigned w64 (number_in piece))
IsWrong piece place Memory = ⊥

-- from the left, pieces that spell cells come first, and then one that is wrong
pub record IsRefused (text : List ℕ) (fault : SqFault) : Type 0 where
  pub cells : List ℤ
  pub tail : List ℕ
  pub before : BeginsWithCells text cells tail
  pub gap : List ℕ
  pub piece : List ℕ
  pub rest : List ℕ
  pub begins : Begins tail gap piece rest
  pub wrong : IsWrong piece (length text - length (piece ++ rest)) fault

-- this fault may be answered for the text: want of memory for each one
abbrev pub IsRefusedFor : List ℕ → SqFault → Type 0
IsRefusedFor text (BadNumber place) = IsRefused text (BadNumber place)
IsRefusedFor text (NumberRange place) = IsRefused text (NumberRange place)
IsRefusedFor text Memory = ⊤
