-- What is declared while blocks begin and end.
use Rattle.std.proofs.Common.{◌≡◌, ℕ, ◌≤◌, List, ◌∷◌, ◌++◌, length, drop, ap, ◌∙◌, arith, length-append}
use Rattle.c_types.specs.Scope.{Scope}
use Rattle.c_types.specs.Known.{Grows}
use Rattle.c_types.specs.Table.{Table, known}
use Rattle.c_scopes.specs.declared.entity.Entity.{Entity}
use Rattle.c_operands.specs.declared.declarations.Declarations.{Declarations}
use Rattle.c_declared.specs.Held.{Holds, IsAround}
use Rattle.c_declared.proofs.HeldLemmas.{block_left, front_same}
use Rattle.c_signatures.specs.Blocks.{IsInside, IsInBody, IsSame}

abbrev Entries : Type 0
Entries = List (List ℕ × Entity)

-- what the block declares doesn't count
pub inside_then : (d e f : Declarations) → IsInside d e → IsAround e f → IsInside d f
inside_then d e f h k = record { outer = k.outer ∙ h.outer; layouts = k.layouts ∙ h.layouts; defined = k.defined ∙ h.defined }

pub body_then : (d e f : Declarations) → IsInBody d e → IsAround e f → IsInBody d f
body_then d e f h k = record { name = h.name; entity = h.entity; outer = k.outer ∙ h.outer; layouts = k.layouts ∙ h.layouts; defined = k.defined ∙ h.defined }

-- a block may end
pub may_end : (d e : Declarations) (mark : ℕ) → IsInside d e → mark ≡ length d.names.outer → mark ≤ length e.names.outer
may_end d e mark h is =
    let k = ap length h.outer ∙ length-append d.names.block d.names.outer in
    omega (arith, k, is)

pub body_may_end : (d e : Declarations) (mark : ℕ) → IsInBody d e → mark ≡ length d.names.outer → mark ≤ length e.names.outer
body_may_end d e mark h is =
    let k = ap length h.outer in
    let l = length-append d.names.block d.names.outer in
    omega (arith, k, l, is)

-- the names behind the end are those before the beginning
pub names_left : (d e : Entries) (outer last names : Entries) (mark : ℕ) → names ≡ d ++ outer → e ++ last ≡ names → mark ≡ length outer → length last ≡ mark → (e ≡ d) × (last ≡ outer)
names_left d e outer last names mark all parts is count = front_same e last d outer (parts ∙ all) (count ∙ is)

pub first_left : (d e : Entries) (p : List ℕ × Entity) (outer last names : Entries) (mark : ℕ) → names ≡ p ∷ (d ++ outer) → e ++ last ≡ names → mark ≡ length outer → length last ≡ mark → (drop 1 e ≡ d) × (last ≡ outer)
first_left d e p outer last names mark all parts is count =
    let k = front_same e last (p ∷ d) outer (parts ∙ all) (count ∙ is) in
    (ap (drop 1) k.0, k.1)

-- the same is declared, also where the table has grown
pub same_holds : (old new : Table) (d e : Declarations) (s : Scope) → Grows (known old) (known new) → new.tags ≡ old.tags → IsSame d e → Holds old d s → Holds new e s
same_holds old new d e s grows same h before =
    block_left old new d e s grows same
    (ap (λ (names : Entries). names ++ e.names.outer) h.block ∙ ap (λ (names : Entries). d.names.block ++ names) h.outer)
    (ap length h.outer) h.layouts h.defined before
