-- What is declared last is declared behind the others.
use Rattle.std.proofs.Common.{◌≡◌, List, [], ◌∷◌, ◌++◌, refl, ap}
use Rattle.c_syntax.specs.Plain.{CTy}
use Rattle.c_held.specs.View.{declared_of, all_of}
use Rattle.c_held.specs.declared.value.Declared.{Declared}

pub all_last : (ds : List Declared) (d : Declared) (t : CTy) → all_of (ds ++ d ∷ []) t ≡ all_of ds t ++ declared_of d t ∷ []
all_last [] d t = refl
all_last (e ∷ ds) d t = ap (λ z. declared_of e t ∷ z) (all_last ds d t)
