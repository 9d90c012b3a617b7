-- The names that are reached so far, in the order in which they are gone through.
use Rattle.std.specs.Prelude.{◌≡◌, ◌≤◌, ◌<◌, ℕ, Bool, true, false, List, [], ◌∷◌, Option, length, take, get_or, codes, if◌then◌else◌}
use Rattle.c_syntax.specs.Plain.{CItem, CStmt}
use Rattle.c_types.specs.Scope.{contains}
use Rattle.c_types.specs.Units.{defined_in}
use Rattle.c_helpers.specs.Fewer.{body_names, names_at_file_scope}
use Rattle.c_helpers.specs.Simple.{next_reached, reached_in}
use Rattle.c_tree_names.specs.Items.{names_of_body}
use Rattle.c_tree_names.specs.Sets.{with_name}

-- a name is put to others, if it passes a test
abbrev pub with_tested : (List ℕ → Bool) → List (List ℕ) → List ℕ → List (List ℕ)
with_tested is known name = if is name then with_name known name else known

abbrev pub with_all : (List ℕ → Bool) → List (List ℕ) → List (List ℕ) → List (List ℕ)
with_all is known [] = known
with_all is known (name ∷ names) = with_all is (with_tested is known name) names

abbrev pub seeds_of : List CItem → List (List ℕ)
seeds_of items = codes "main" ∷ names_at_file_scope items

-- no name twice
abbrev pub AreOnce : List (List ℕ) → Type 0
AreOnce [] = Unit {0}
AreOnce (name ∷ names) = (contains names name ≡ false) × AreOnce names

-- names are reached from some, and those before a place have been gone through
pub record Reaching (items : List CItem) (seeds known : List (List ℕ)) (place : ℕ) : Type 0 where
  pub once : AreOnce known
  pub defined : (f : List ℕ) → contains known f ≡ true → contains (defined_in items) f ≡ true
  pub sound : (f : List ℕ) → contains known f ≡ true → contains (reached_in place items (next_reached items seeds)) f ≡ true
  pub begun : (f : List ℕ) → contains seeds f ≡ true → contains (defined_in items) f ≡ true → contains known f ≡ true
  pub closed : (g f : List ℕ) → contains (take place known) g ≡ true → contains (body_names items g) f ≡ true → contains (defined_in items) f ≡ true → contains known f ≡ true
  pub within : place ≤ length known

-- all of them have been gone through
pub record AllGone (items : List CItem) (seeds known : List (List ℕ)) : Type 0 where
  pub place : ℕ
  pub past : length known ≤ place
  pub reaching : Reaching items seeds known place

-- the name at a place has been gone through, if there was one
abbrev pub Visited : (List ℕ → Bool) → (List ℕ → Option CStmt) → List (List ℕ) → List (List ℕ) → ℕ → Bool → Type 0
Visited is bodies old new place true = (place < length old) × (new ≡ with_all is old (names_of_body (bodies (get_or old place []))))
Visited is bodies old new place false = (length old ≤ place) × (new ≡ old)
