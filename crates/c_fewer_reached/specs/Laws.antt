-- The functions that are reached.
use Rattle.std.specs.Prelude.{◌≡◌, ℕ, true, List, ◌∷◌, map, codes}
use Rattle.c_syntax.specs.Plain.{CItem}
use Rattle.c_types.specs.Scope.{contains}
use Rattle.c_types.specs.Units.{defined_in}
use Rattle.c_helpers.specs.Fewer.{body_names, names_at_file_scope}
use Rattle.c_helpers.specs.Simple.{reached, kept}

-- a function that is named in the body of one that is reached is reached
abbrev pub ReachedIsClosed : Type 0
ReachedIsClosed = (items : List CItem) (f g : List ℕ) → contains (defined_in items) f ≡ true → contains (reached items) g ≡ true → contains (body_names items g) f ≡ true → contains (reached items) f ≡ true

-- so are `main` and the functions that are named in first values at file scope
abbrev pub ReachedBegins : Type 0
ReachedBegins = (items : List CItem) (f : List ℕ) → contains (defined_in items) f ≡ true → contains (codes "main" ∷ names_at_file_scope items) f ≡ true → contains (reached items) f ≡ true

-- each is a function that the text defines
abbrev pub ReachedAreDefined : Type 0
ReachedAreDefined = (items : List CItem) (f : List ℕ) → contains (reached items) f ≡ true → contains (defined_in items) f ≡ true

-- with what isn't reached declared alone, a text defines each function with such a name that it defined
abbrev pub KeptAreDefined : Type 0
KeptAreDefined = (names : List (List ℕ)) (items : List CItem) (f : List ℕ) → contains names f ≡ true → contains (defined_in items) f ≡ true → contains (defined_in (map (kept names) items)) f ≡ true

-- and no other
abbrev pub DefinedAreKept : Type 0
DefinedAreKept = (names : List (List ℕ)) (items : List CItem) (f : List ℕ) → contains (defined_in (map (kept names) items)) f ≡ true → (contains names f ≡ true) × (contains (defined_in items) f ≡ true)
