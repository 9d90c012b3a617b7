-- Where the string literals of functions lie.
use Rattle.std.specs.Prelude.{◌≡◌, ℕ, List, drop, Option, Some, None, unwrap_or, if◌then◌else◌}
use Rattle.std.specs.Map.{lookup}
use Rattle.std.specs.Str.{bytes_eq}
use denote.Ref.{Bor}
use Rattle.c_eval.specs.Text.{Definition}
use Rattle.c_counted.specs.Numbers.{IsNumber}
use Rattle.c_addressing.specs.declared.here.Literals.{Literals}
use Rattle.c_addressing.specs.Here.{first_or}
use Rattle.c_lower.specs.declared.placed.Placed.{Placed}
use Rattle.c_lower.specs.Bodies.{literals_in_function}

abbrev pub Entries : Type 0
Entries = List (Bor (List ℕ) × Literals)

-- the literals that are known of a name
abbrev pub found_literals : Entries → List ℕ → Option Literals
found_literals entries name = lookup (λ k. bytes_eq name k.now) entries

-- those of a function
abbrev pub literals_in : Placed → List ℕ → Literals
literals_in p name = unwrap_or (found_literals p.known.entries name) p.other

abbrev pub or_else : Option Literals → Option Literals → Option Literals
or_else (Some l) other = Some l
or_else None other = other

-- a name has these literals, if none were known of it
pub record AddsLiterals (old new : Entries) (name : List ℕ) (literals : Literals) : Type 0 where
  pub found : (other : List ℕ) → found_literals new other ≡ or_else (found_literals old other) (if bytes_eq other name then Some literals else None)

-- literals lie at these addresses
pub record LieAt (l : Literals) (address : ℕ → ℕ) : Type 0 where
  pub told : (n : ℕ) → IsNumber (first_or l.end (drop n l.next.now)) (address n)

-- a function with its literals
abbrev pub owned_literals : Definition → Option (List ℕ) × List (List ℕ)
owned_literals f = (Some f.name, literals_in_function f)

-- the literals of each function lie where the definitions have them
pub record PlacesLiterals (p : Placed) (literal : Option (List ℕ) → ℕ → ℕ) : Type 0 where
  pub lie : (name : List ℕ) → LieAt (literals_in p name) (literal (Some name))
