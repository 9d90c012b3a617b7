-- Steps of a rule, put together.
use Rattle.std.proofs.Common.{◌≡◌, ◌⊎◌, ℕ, ◌+◌, ◌-◌, ◌<◌, ◌≤◌, true, false, List, [], ◌∷◌, ◌++◌, refl, ap, ◌∙◌, inl, inr, arith, append-nil}
use Rattle.mach_core.specs.declared.machine.Status.TheVariants.{Going}
use Rattle.mach_core.specs.Rule.{Rule, Moment, applied, run_from, input_at}
use Rattle.mach_core.specs.Silent.{StepsSilently}
use Rattle.mach_core.proofs.Runs.{run_from-add, applied-going}
use Rattle.mach_core.proofs.Silently.{silent_none, silent_more}

-- one step
pub one : {C : Type 0} (rule : Rule C) (c c' : C) → rule.standing c ≡ Going → rule.wants c ≡ false → rule.written c 0 ≡ [] → rule.next c 0 ≡ c' → StepsSilently rule c 1 c'
one rule c c' going wants quiet next = silent_more rule c c c' 0 (silent_none rule c) going wants quiet next

first_or_later : (i j : ℕ) → (i < j) ⊎ (j ≤ i)
first_or_later i j = grind arith

-- and others behind them
pub silent_then : {C : Type 0} (rule : Rule C) (a b c : C) (j k : ℕ) → StepsSilently rule a j b → StepsSilently rule b k c → StepsSilently rule a (j + k) c
silent_then {C} rule a b c j k p q = record {
  lead = λ input m here. run_from-add rule input m j k ∙ (ap (λ x. run_from rule input x k) (p.lead input m here) ∙ q.lead input (record { config = b; taken = m.taken; output = m.output }) refl);
  going = λ input m i here below. by input m i here below (first_or_later i j);
} where
  by : (input : List ℕ) (m : Moment C) (i : ℕ) → m.config ≡ a → i < j + k → (i < j) ⊎ (j ≤ i) → rule.standing (run_from rule input m i).config ≡ Going
  by input m i here below (inl less) = p.going input m i here less
  by input m i here below (inr le) =
      let split : i ≡ j + (i - j) = omega arith in
      let m' : Moment C = record { config = b; taken = m.taken; output = m.output } in
      let there : run_from rule input m i ≡ run_from rule input m' (i - j) = ap (run_from rule input m) split ∙ (run_from-add rule input m j (i - j) ∙ ap (λ x. run_from rule input x (i - j)) (p.lead input m here)) in
      ap (λ x. rule.standing x.config) there ∙ q.going input m' (i - j) refl (omega arith)

-- a step that takes a byte
pub taking : {C : Type 0} (rule : Rule C) (c c' : C) (input : List ℕ) (taken : ℕ) (output : List ℕ) → rule.standing c ≡ Going → rule.wants c ≡ true → rule.written c (input_at input taken) ≡ [] → rule.next c (input_at input taken) ≡ c'
    → applied rule input (record { config = c; taken = taken; output = output }) ≡ record { config = c'; taken = taken + 1; output = output }
taking rule c c' input taken output going wants quiet next =
    applied-going rule input (record { config = c; taken = taken; output = output }) going ∙ (rw (wants, quiet, next, append-nil output) refl)

-- a step that writes one
pub writing : {C : Type 0} (rule : Rule C) (c c' : C) (input : List ℕ) (taken : ℕ) (output : List ℕ) (byte : ℕ) → rule.standing c ≡ Going → rule.wants c ≡ false → rule.written c 0 ≡ byte ∷ [] → rule.next c 0 ≡ c'
    → applied rule input (record { config = c; taken = taken; output = output }) ≡ record { config = c'; taken = taken; output = output ++ byte ∷ [] }
writing rule c c' input taken output byte going wants says next =
    applied-going rule input (record { config = c; taken = taken; output = output }) going ∙ (rw (wants, says, next) refl)
