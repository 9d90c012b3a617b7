-- What is found among functions.
use Rattle.std.proofs.Common.{◌≡◌, ℕ, ◌+◌, ◌≤◌, List, [], ◌∷◌, Option, Some, None, Bool, true, false, refl, arith}
use Rattle.std.specs.Prelude.{not, is_some, nat_lt, if◌then◌else◌}
use Rattle.std.specs.List.{find}
use Rattle.std.specs.Str.{bytes_eq}
use Rattle.std.proofs.lemmas.Bool.Decides.{nat_tests}
use Rattle.c_eval.specs.Text.{Definition}
use Rattle.c_lowered.specs.Whole.{function_jumps, entry_in}

pub some_is : {A : Type 0} (o : Option A) → is_some o ≡ true → (a : A) × (o ≡ Some a)
some_is (Some a) e = (a, refl)
some_is None e = absurd (cc e)

pub denied : (b : Bool) → not b ≡ true → b ≡ false
denied true e = absurd (cc e)
denied false e = refl

-- a function that is found has a first block
pub entry_some : (fs : List Definition) (k : ℕ) (name : List ℕ) → 1 ≤ k → is_some (find (λ g. bytes_eq name g.name) fs) ≡ true → 1 ≤ entry_in fs k name
entry_some [] k name few e = absurd (cc e)
entry_some (g ∷ fs) k name few e = go (bytes_eq name g.name) (λ h. entry_some fs (k + function_jumps g) name (omega (arith, few)) h) e
  where
    go : (b : Bool) → (is_some (find (λ x. bytes_eq name x.name) fs) ≡ true → 1 ≤ entry_in fs (k + function_jumps g) name) → is_some (if b then Some g else find (λ x. bytes_eq name x.name) fs) ≡ true → 1 ≤ (if b then k else entry_in fs (k + function_jumps g) name)
    go true more e = few
    go false more e = more e

pub positive : (n : ℕ) → 1 ≤ n → nat_lt 0 n ≡ true
positive n e = grind (arith, nat_tests, e)
