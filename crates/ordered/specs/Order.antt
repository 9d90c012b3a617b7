-- What contracts see of a map and a set whose keys are numbered: the entries, or the keys, in the order in which they came.
use Rattle.std.specs.Prelude.{◌≡◌, ℕ, Bool, List, [], ◌∷◌, ◌++◌, position, if◌then◌else◌}
use Rattle.std.specs.List.{list_any, IsDistinct}
use Rattle.std.specs.HashMap.{HashMap, get}

pub record Keys (T : Type 0) : Type 0 where
  pub keys : List T

pub record Entries (K V : Type 0) : Type 0 where
  pub entries : List (K × V)

-- a key that is there stays where it is, and a new one goes last
abbrev pub insert_key : {T : Type 0} → (T → T → Bool) → List T → T → List T
insert_key eq ks k = if list_any (eq k) ks then ks else ks ++ k ∷ []

-- a key that is there keeps its place and takes the value, and a new one goes last
abbrev pub insert_entry : {K V : Type 0} → (K → K → Bool) → List (K × V) → K → V → List (K × V)
insert_entry eq [] k v = (k, v) ∷ []
insert_entry eq (e ∷ es) k v = if eq k e.0 then (e.0, v) ∷ es else e ∷ insert_entry eq es k v

-- a hash map has for each key its place among the keys, of which no two are equal
pub record AreNumbered {K S : Type 0} (eq : K → K → Bool) (keys : List K) (numbers : HashMap K ℕ S) : Type 0 where
  pub distinct : IsDistinct eq keys
  pub finds : (q : K) → get eq numbers q ≡ position (eq q) keys
