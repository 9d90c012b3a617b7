-- Helper functions are typed where those are known that they call.
use Rattle.std.specs.Prelude.{◌≡◌, ℕ, Bool, true, List, [], ◌∷◌, map, Option, Some, None, Ok, codes}
use Rattle.std.specs.List.{find}
use Rattle.std.specs.Str.{bytes_eq}
use Rattle.c_syntax.specs.Plain as plain
use Rattle.c_syntax.specs.Plain.{CDecl, CItem}
use Rattle.c_syntax.specs.Words.{meaning}
use Rattle.c_types.specs.Types.{Int}
use Rattle.c_types.specs.Scope.{Names, Scope, Routine, contains, built_in, built_ins, file_scope, with_name}
use Rattle.c_types.specs.Units.{item_judged, all_items}
use Rattle.c_eval.specs.Text.{Definition, definitions}
use Rattle.c_helpers.specs.Terms.{declaration}
use Rattle.c_helpers.specs.Functions.{Helper, functions, unit_name, refill_name, piece_name, a}
use Rattle.c_helpers.specs.Names.{stmt_names}
use Rattle.c_helpers.specs.Fewer.{told, function_of}
use Rattle.c_helpers.specs.Simple.{kept}
use Rattle.c_fewer_types.specs.Stands.{head_type, function_type}
use Rattle.c_products.specs.MovesFound.{definition}

-- all but the functions of formats, by name
abbrev pub all_functions : List (List ℕ × Helper)
all_functions = map (λ (g : Helper). (g.name, g)) (told unit_name [] ∷ told refill_name [] ∷ told piece_name (declaration plain.Int a ∷ []) ∷ functions)

-- a file scope in which a helper function isn't known, but those that its body names, which the text defines, and `putchar`
pub record KnowsCalls (begun : List ℕ → Bool) (s : Scope) (g : Helper) : Type 0 where
  pub outer : s.outer ≡ []
  pub fresh : meaning s.block g.name ≡ None
  pub calls : (name : List ℕ) (c : Helper) → meaning all_functions name ≡ Some c → contains (stmt_names g.body) name ≡ true → (meaning s.block name ≡ Some (Routine (function_type c) (begun name))) × (contains s.defined name ≡ true)
  pub put : meaning s.block (codes "putchar") ≡ Some (built_in Int (Int ∷ []))

-- there it is typed, and known behind it
abbrev pub HelpersAreTyped : Type 0
HelpersAreTyped = (name : List ℕ) (g : Helper) → meaning all_functions name ≡ Some g → (begun : List ℕ → Bool) (s : Scope) → KnowsCalls begun s g → item_judged s (function_of g) ≡ Ok (with_name s g.name (Routine (function_type g) true))

-- ---- in front of a text

-- all but the functions of formats
abbrev pub firsts : List Helper
firsts = told unit_name [] ∷ told refill_name [] ∷ told piece_name (declaration plain.Int a ∷ []) ∷ functions

-- those with these names are kept, and the others declared alone
abbrev pub helper_items : List (List ℕ) → List Helper → List CItem
helper_items names gs = map (kept names) (map function_of gs)

abbrev pub file : List (List ℕ) → Names → Scope
file defined block = record { tags = []; block = block; outer = []; defined = defined }

abbrev pub names_behind : List (List ℕ) → List Helper → Names → Names
names_behind names [] block = block
names_behind names (g ∷ gs) block = names_behind names gs ((g.name, Routine (function_type g) (contains names g.name)) ∷ block)

-- what is kept calls only what the text defines
abbrev pub CallsAreDefined : List (List ℕ) → List (List ℕ) → Type 0
CallsAreDefined names defined =
    (name other : List ℕ) (g c : Helper) → meaning all_functions name ≡ Some g → contains names name ≡ true → meaning all_functions other ≡ Some c → contains (stmt_names g.body) other ≡ true → contains defined other ≡ true

abbrev pub FirstsAreTyped : Type 0
FirstsAreTyped = (names defined : List (List ℕ)) → CallsAreDefined names defined → all_items (file_scope defined) (helper_items names firsts) ≡ Ok (file defined (names_behind names firsts built_ins))

-- behind them each is known, and no other name has another meaning
abbrev pub FirstsAreKnown : Type 0
FirstsAreKnown = (names : List (List ℕ)) (name : List ℕ) (g : Helper) → meaning all_functions name ≡ Some g → meaning (names_behind names firsts built_ins) name ≡ Some (Routine (function_type g) (contains names name))

abbrev pub OthersStay : Type 0
OthersStay = (names : List (List ℕ)) (name : List ℕ) → meaning all_functions name ≡ None → meaning (names_behind names firsts built_ins) name ≡ meaning built_ins name

-- the names outside the body of one that is kept
pub record IsOutside (names : List (List ℕ)) (g : Helper) (outside : Names) : Type 0 where
  pub calls : (name : List ℕ) (c : Helper) → meaning all_functions name ≡ Some c → contains (stmt_names g.body) name ≡ true → meaning outside name ≡ Some (Routine (function_type c) (contains names name))
  pub put : meaning outside (codes "putchar") ≡ Some (built_in Int (Int ∷ []))

-- one that is kept is found, with its result and parameters
pub record IsFound (names defined : List (List ℕ)) (g : Helper) (o : Option Definition) : Type 0 where
  pub outside : Names
  pub knows : IsOutside names g outside
  pub is : o ≡ Some (definition (head_type g.result) (map (λ (d : CDecl). (d.name, head_type d.ty)) g.params) g [] outside defined)

abbrev pub FirstsAreFound : Type 0
FirstsAreFound =
    (names defined : List (List ℕ)) (name : List ℕ) (g : Helper) → CallsAreDefined names defined → meaning all_functions name ≡ Some g → contains names name ≡ true
    → IsFound names defined g (find (λ (f : Definition). bytes_eq name f.name) (definitions (file_scope defined) (helper_items names firsts)))
