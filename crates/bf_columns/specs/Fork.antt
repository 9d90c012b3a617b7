-- An arm for each digit.
use Rattle.std.specs.Prelude.{◌≡◌, ◌≢◌, ℕ, zero, suc, ◌+◌, ◌-◌, ◌<◌, ◌≤◌, List, [], ◌∷◌, ◌++◌}
use Rattle.bf_lang.specs.declared.command.Command.{Command}
use Rattle.bf_lang.specs.declared.command.Command.TheVariants.{Plus, Minus}
use Rattle.bf_lang.specs.Balance.{IsBalanced}
use Rattle.bf_tape.specs.Tape.{Tape, get, put}
use Rattle.bf_tape.specs.Does.{Does, loop}
use Rattle.bf_tape.specs.Code.{goto_code}

-- an arm, from the flag to itself, where the flag is 1
abbrev pub arm_code : List Command → List Command
arm_code arm = loop (Minus ∷ arm)

-- the arms that are left, at the digit, by how many digits can come yet; where there is none for it, the flag goes and the digit becomes 0
abbrev pub arms_code : ℕ → ℕ → ℕ → List (List Command) → List Command
arms_code z f n [] = goto_code z f ++ (Minus ∷ []) ++ goto_code f z ++ loop (Minus ∷ [])
arms_code z f zero (arm ∷ arms) = goto_code z f ++ arm_code arm ++ goto_code f z
arms_code z f (suc n) (arm ∷ arms) = loop (Minus ∷ arms_code z f n arms) ++ goto_code z f ++ arm_code arm ++ goto_code f z

-- the arm that the digit in cell z names, by a flag in cell f, from the flag to the flag; there is one arm at least
abbrev pub fork_code : ℕ → ℕ → List Command → List (List Command) → List Command
fork_code z f arm arms = (Plus ∷ []) ++ goto_code f z ++ loop (Minus ∷ arms_code z f 2 arms) ++ goto_code z f ++ arm_code arm

abbrev pub AllBalanced : List (List Command) → Type 0
AllBalanced [] = Unit {0}
AllBalanced (arm ∷ arms) = IsBalanced arm × AllBalanced arms

-- what an arm does: from the flag to itself, with digit and flag 0 before and afterwards
pub record ArmDoes (input : List ℕ) (arm : List Command) (z f : ℕ) (s t : Tape) (most : ℕ) : Type 0 where
  pub does : Does input arm f s f t most
  pub digit : get t z ≡ 0
  pub flag : get t f ≡ 0

-- of so many arms, the one of a digit does this; where there is none, nothing is done
abbrev pub Chosen : List ℕ → List (List Command) → ℕ → ℕ → ℕ → Tape → Tape → ℕ → Type 0
Chosen input [] d z f s t most = t ≡ s
Chosen input (arm ∷ arms) zero z f s t most = ArmDoes input arm z f s t most
Chosen input (arm ∷ arms) (suc d) z f s t most = Chosen input arms d z f s t most

-- the law of forks
abbrev pub ForksChoose : Type 0
ForksChoose =
    (input : List ℕ) (s t : Tape) (z f d most : ℕ) (arm : List Command) (arms : List (List Command)) → z ≢ f → (z - f) + (f - z) ≤ 10 → d < 4 → IsBalanced arm → AllBalanced arms → get s z ≡ 0 → get s f ≡ 0 → Chosen input (arm ∷ arms) d z f s t most
    → Does input (fork_code z f arm arms) f (put s z d) f t (most + 200)
