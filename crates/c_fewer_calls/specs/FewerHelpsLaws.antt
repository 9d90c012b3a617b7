-- Helper functions that a text has do what the operators do for which they stand.
use Rattle.std.specs.Prelude.{◌≡◌, ℕ, Bool, true, List}
use Rattle.c_eval.specs.Text.{Text}
use Rattle.c_eval.specs.Helpers.{Helpers, helper_rules}
use Rattle.c_fewer_calls.specs.Standing.{HelpDoes}
use Rattle.c_fewer_calls.specs.There.{HasHelpers}

abbrev pub HelpersDo : Type 0
HelpersDo = (h : Helpers) (t : Text) (input : List ℕ) (kept : List ℕ → Bool) → HasHelpers h t kept → (name : List ℕ) → kept name ≡ true → HelpDoes (helper_rules h t input) name
