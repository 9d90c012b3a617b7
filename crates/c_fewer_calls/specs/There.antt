-- Helper functions as a text has them, with those that they call.
use Rattle.std.specs.Prelude.{◌≡◌, ℕ, ◌^◌, ◌<◌, ◌≤◌, Bool, true, List, [], ◌∷◌, map, length, Some}
use Rattle.c_syntax.specs.Plain as plain
use Rattle.c_syntax.specs.Plain.{CDecl}
use Rattle.c_syntax.specs.Words.{meaning}
use Rattle.c_types.specs.Scope.{contains}
use Rattle.c_types.specs.Operands.{conversions_of}
use Rattle.c_eval.specs.Text.{Text}
use Rattle.c_eval.specs.Helpers.{Helpers}
use Rattle.c_helpers.specs.Terms.{declaration}
use Rattle.c_helpers.specs.Functions.{Helper, functions, unit_name, refill_name, piece_name, format_name, a}
use Rattle.c_helpers.specs.Meanings.{stands_for}
use Rattle.c_helpers.specs.Names.{stmt_names}
use Rattle.c_helpers.specs.Fewer.{told}
use Rattle.c_fewer_types.specs.Stands.{head_type}
use Rattle.c_products.specs.MovesFound.{Parameter, Has, KnowsOf}
use Rattle.c_formats.specs.DigitsLaws.{KnowsPut}
use Rattle.c_formats.specs.StringsLaws.{Known}
use Rattle.c_formats.specs.Laws.{HasFormat}

abbrev pub heads_of : List CDecl → List Parameter
heads_of ds = map (λ (d : CDecl). (d.name, head_type d.ty)) ds

abbrev pub by_name : List Helper → List (List ℕ × Helper)
by_name gs = map (λ (g : Helper). (g.name, g)) gs

-- all that helper functions call, those that are told of alone too
abbrev pub callees : List (List ℕ × Helper)
callees = by_name (told unit_name [] ∷ told refill_name [] ∷ told piece_name (declaration plain.Int a ∷ []) ∷ functions)

-- a text has a helper function, whose scope knows those that its body names; these are kept too
pub record HasHelper (h : Helpers) (t : Text) (kept : List ℕ → Bool) (g : Helper) : Type 0 where
  pub own : Has h t (head_type g.result) (heads_of g.params) g
  pub calls : (name : List ℕ) (c : Helper) → meaning callees name ≡ Some c → contains (stmt_names g.body) name ≡ true → (kept name ≡ true) × KnowsOf own.names (head_type c.result) (heads_of c.params) c
  pub put : KnowsPut own.names

-- a text has each helper function that is kept, and is evaluated by what they stand for, with 512 units for a use and more
pub record HasHelpers (h : Helpers) (t : Text) (kept : List ℕ → Bool) : Type 0 where
  pub ration : 2 ^ 9 ≤ h.ration
  pub operator : (name : List ℕ) → h.operator name ≡ stands_for name
  pub known : Known h
  pub helpers : (name : List ℕ) (g : Helper) → meaning (by_name functions) name ≡ Some g → kept name ≡ true → HasHelper h t kept g
  pub formats : (format : List ℕ) → kept (format_name format) ≡ true → (letters : List ℕ) × (conversions_of format ≡ Some letters) × (length letters < 2 ^ 24) × HasFormat h t format letters
