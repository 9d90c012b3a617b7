-- Refusals, and the one of several that is told.
use Rattle.std.specs.Prelude.{ℕ, Bool, ◌&&◌, ◌||◌, ◌==◌, nat_lt, List, [], ◌∷◌, Option, Some, None, Result, Ok, Err, if◌then◌else◌}
use Rattle.std.specs.Option.{option_map_or}
use Rattle.c_types.specs.declared.fault.TypeFault.{TypeFault}
use Rattle.c_types.specs.declared.fault.TypeFault.TheVariants as fault

-- where in the text
abbrev pub place_of : TypeFault → ℕ
place_of (fault.Unknown pos) = pos
place_of (fault.Twice pos) = pos
place_of (fault.Mismatch pos) = pos
place_of (fault.NotLvalue pos) = pos
place_of (fault.BadCall pos) = pos
place_of (fault.NoMain pos) = pos
place_of fault.TooLarge = 0
place_of fault.Memory = 0

abbrev pub number_of : TypeFault → ℕ
number_of (fault.Unknown pos) = 1
number_of (fault.Twice pos) = 2
number_of (fault.Mismatch pos) = 3
number_of (fault.NotLvalue pos) = 4
number_of (fault.BadCall pos) = 5
number_of (fault.NoMain pos) = 6
number_of fault.TooLarge = 7
number_of fault.Memory = 8

-- one comes before another: at a lower place, or at the same place with a lower number
abbrev pub comes_before : TypeFault → TypeFault → Bool
comes_before d e = nat_lt (place_of d) (place_of e) || (place_of d == place_of e && nat_lt (number_of d) (number_of e))

-- the lowest place comes, at one place the lowest number
abbrev pub least : TypeFault → TypeFault → TypeFault
least d e = if comes_before e d then e else d

abbrev pub Judged : Type 0 → Type 0
Judged A = Result A TypeFault

-- what a tree with one part is, if the part isn't refused
abbrev pub after : {A B : Type 0} → Judged A → (A → Judged B) → Judged B
after (Ok a) f = f a
after (Err e) f = Err e

-- what a tree with two parts is: with a refused part it has no refusal of its own
abbrev pub both : {A B C : Type 0} → Judged A → Judged B → (A → B → Judged C) → Judged C
both (Ok a) (Ok b) f = f a b
both (Ok a) (Err e) f = Err e
both (Err d) (Ok b) f = Err d
both (Err d) (Err e) f = Err (least d e)

-- with three parts
abbrev pub all_three : {A B C D : Type 0} → Judged A → Judged B → Judged C → (A → B → C → Judged D) → Judged D
all_three {A} {B} {C} {D} a b c f = both a (both {A = B} {B = C} {C = B × C} b c (λ y z. Ok (y, z))) (λ x yz. f x yz.0 yz.1)

-- a rule of a tree's own: whether it is kept, and the refusal where it is broken
abbrev pub Rule : Type 0
Rule = Bool × TypeFault

abbrev pub least_of : TypeFault → Option TypeFault → TypeFault
least_of e None = e
least_of e (Some d) = least e d

-- the refusal of the rules that are broken
abbrev pub broken : List Rule → Option TypeFault
broken [] = None
broken (rule ∷ rules) = if rule.0 then broken rules else Some (least_of rule.1 (broken rules))

-- a tree whose parts aren't refused, if it keeps its own rules
abbrev pub keeping : {A : Type 0} → List Rule → A → Judged A
keeping rules a = option_map_or (λ e. Err e) (broken rules) (Ok a)
