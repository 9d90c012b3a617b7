-- What holds of the helper functions.
use Rattle.std.specs.Prelude.{◌≡◌, ℕ, ◌+◌, ◌≤◌, Bool, true, ◌&&◌, ◌||◌, ◌==◌, nat_le, not, List, [], ◌∷◌, map, if◌then◌else◌}
use Rattle.std.specs.List.{list_any}
use Rattle.c_types.specs.Scope.{contains}
use Rattle.c_types.specs.Room.{Kind, kinds, kind_number}
use Rattle.c_helpers.specs.Functions.{Helper, functions}
use Rattle.c_helpers.specs.Meanings.{actions}
use Rattle.c_helpers.specs.Names.{stmt_names}
use Rattle.c_helpers.specs.Cost.{helper_cost}
use Rattle.c_helpers.specs.Simple.{helper_frame}

-- each of a list passes a test
abbrev pub each : {A : Type 0} → (A → Bool) → List A → Bool
each test [] = true
each test (x ∷ xs) = test x && each test xs

-- the sum of what each counts
abbrev pub total : {A : Type 0} → (A → ℕ) → List A → ℕ
total count [] = 0
total count (x ∷ xs) = count x + total count xs

abbrev pub function_names : List (List ℕ)
function_names = map (λ h. h.name) functions

-- a byte that stands in no name of a text: no letter, digit or `_`
abbrev pub is_strange : ℕ → Bool
is_strange c = not (c == 95 || (nat_le 48 c && nat_le c 57) || (nat_le 65 c && nat_le c 90) || (nat_le 97 c && nat_le c 122))

-- no text can name a helper function
abbrev pub NamesAreStrange : Type 0
NamesAreStrange = each (λ name. list_any is_strange name) function_names ≡ true

-- no name stands twice
abbrev pub are_distinct : List (List ℕ) → Bool
are_distinct [] = true
are_distinct (name ∷ names) = not (contains names name) && are_distinct names

abbrev pub NamesAreDistinct : Type 0
NamesAreDistinct = are_distinct function_names ≡ true

-- of the helper functions each names only such as stand before it
abbrev pub go_back : List (List ℕ) → List Helper → Bool
go_back before [] = true
go_back before (h ∷ hs) = each (λ name. contains before name || not (contains function_names name)) (stmt_names h.body) && go_back (h.name ∷ before) hs

-- so none calls itself, directly or through others
abbrev pub CallsGoBack : Type 0
CallsGoBack = go_back [] functions ≡ true

-- the frames of all are together at most 1024 words, so those of a chain of calls are
abbrev pub FramesAreSmall : Type 0
FramesAreSmall = total helper_frame functions ≤ 1024

-- 512 calls and turns, and the call that begins a use, come to at most 2^19 operations
abbrev pub UsesAreShort : Type 0
UsesAreShort = each (λ h. nat_le (helper_cost h) 1021) functions ≡ true

-- the helper functions that a kind of operator has
abbrev pub is_for : Kind → Helper → Bool
is_for kind h = list_any (λ other. kind_number other == kind_number kind) h.kinds

-- they cost at most what the room has for it
abbrev pub KindsFitTheirRoom : Type 0
KindsFitTheirRoom = each (λ kind. nat_le (total (λ h. if is_for kind h then helper_cost h else 0) functions) 2048) kinds ≡ true

-- where a helper function has a kind, those that it names have it
abbrev pub kinds_go_back : List Helper → Bool
kinds_go_back hs = each (λ h. each (λ callee. not (contains (stmt_names h.body) callee.name) || each (λ kind. is_for kind callee) h.kinds) functions) hs

abbrev pub KindsAreHandedOn : Type 0
KindsAreHandedOn = kinds_go_back functions ≡ true

-- each operator for which a helper function stands has that function
abbrev pub OperatorsHaveFunctions : Type 0
OperatorsHaveFunctions = each (λ action. contains function_names action.0) actions ≡ true
