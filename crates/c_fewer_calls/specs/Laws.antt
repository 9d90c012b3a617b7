-- Calls and whole runs with fewer operators do what they did.
use Rattle.std.specs.Prelude.{◌≡◌, ℕ, suc, Bool, true, List, codes}
use Rattle.c_eval.specs.Text.{Text}
use Rattle.c_eval.specs.Meaning.{Rules, calls_to, eval}
use Rattle.c_valid.specs.Valid.{AreBytes, ObjectsAreValid}
use Rattle.c_worlds.specs.Named.{ObjectsAreNamed, CallsGoAlike}
use Rattle.c_fewer_calls.specs.Standing.{plain_rules, TextStands}

-- with less fuel than depth, from valid states whose pointers to functions are to such as are reached, a call of one that is reached does in the text that stands for another what it does in that
abbrev pub CallsAreKept : Type 0
CallsAreKept =
    (test reached : List ℕ → Bool) (charge : List ℕ → ℕ) (rules : Rules) (t t' : Text) (input : List ℕ) (n : ℕ)
    → AreBytes input → TextStands test reached charge rules t t' → CallsGoAlike (λ name. reached name ≡ true) n (calls_to (suc n) (plain_rules charge) t input) (calls_to (suc n) rules t' input)

-- so its run is that of the other, at each amount of fuel, where both begin with the same objects
abbrev pub RunsAreKept : Type 0
RunsAreKept =
    (test reached : List ℕ → Bool) (charge : List ℕ → ℕ) (rules : Rules) (t t' : Text) (input : List ℕ) (fuel : ℕ)
    → AreBytes input → TextStands test reached charge rules t t' → reached (codes "main") ≡ true → t'.objects ≡ t.objects → ObjectsAreNamed (λ name. reached name ≡ true) t.objects → ObjectsAreValid t.objects
    → eval rules t' input fuel ≡ eval (plain_rules charge) t input fuel
