-- What is declared while blocks begin and end.
use Rattle.std.proofs.Common.{◌≡◌, ℕ, ◌≤◌, List, [], ◌++◌, length, ap, ◌∙◌, arith, length-append}
use Rattle.c_types.specs.Scope.{Scope, entered}
use Rattle.c_types.specs.Known.{Grows}
use Rattle.c_types.specs.Table.{Table, known}
use Rattle.c_scopes.specs.declared.entity.Entity.{Entity}
use Rattle.c_operands.specs.declared.declarations.Declarations.{Declarations}
use Rattle.c_declared.specs.Held.{Holds, IsAround}
use Rattle.c_declared.proofs.HeldLemmas.{block_entered, block_left, front_same}
use Rattle.c_statements.specs.Blocks.{IsInside, IsSame}

abbrev Entries : Type 0
Entries = List (List ℕ × Entity)

-- what the block declares doesn't count
pub inside_then : (d e f : Declarations) → IsInside d e → IsAround e f → IsInside d f
inside_then d e f h k = record { outer = k.outer ∙ h.outer; layouts = k.layouts ∙ h.layouts; defined = k.defined ∙ h.defined }

-- a block may end
pub may_end : (d e : Declarations) (mark : ℕ) → IsInside d e → mark ≡ length d.names.outer → mark ≤ length e.names.outer
may_end d e mark h is =
    let k = ap length h.outer ∙ length-append d.names.block d.names.outer in
    omega (arith, k, is)

-- the names behind the end are those before the beginning
pub names_left : (d e : Entries) (outer last names : Entries) (mark : ℕ) → names ≡ d ++ outer → e ++ last ≡ names → mark ≡ length outer → length last ≡ mark → (e ≡ d) × (last ≡ outer)
names_left d e outer last names mark all parts is count = front_same e last d outer (parts ∙ all) (count ∙ is)

-- the scope of a block that begins
pub begun_holds : (table : Table) (d e : Declarations) (s : Scope) → e.names.block ≡ [] → IsInside d e → Holds table d s → Holds table e (entered s)
begun_holds table d e s block h before = block_entered table d e s block h.outer h.layouts h.defined before

-- the same is declared, also where the table has grown
pub same_holds : (old new : Table) (d e : Declarations) (s : Scope) → Grows (known old) (known new) → new.tags ≡ old.tags → IsSame d e → Holds old d s → Holds new e s
same_holds old new d e s grows same h before =
    block_left old new d e s grows same
    (ap (λ (names : Entries). names ++ e.names.outer) h.block ∙ ap (λ (names : Entries). d.names.block ++ names) h.outer)
    (ap length h.outer) h.layouts h.defined before

pub same_around : (d e : Declarations) → IsSame d e → IsAround d e
same_around d e h = record { outer = h.outer; layouts = h.layouts; defined = h.defined }
