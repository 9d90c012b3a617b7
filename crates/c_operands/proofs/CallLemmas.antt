-- The rule of a call with so many arguments, and what is called.
use Rattle.std.proofs.Common.{◌≡◌, ℕ, Bool, ◌&&◌, Option, List, ◌∷◌, refl, sym, ap, ◌∙◌}
use Rattle.std.specs.Prelude.{◌==◌}
use Rattle.c_types.specs.declared.fault.TypeFault.{TypeFault}
use Rattle.c_types.specs.Types.{CType}
use Rattle.c_types.specs.Refusals.{Rule, broken}
use Rattle.c_types.specs.Operands as plain
use Rattle.c_types.specs.Table.{Table, HasType}
use Rattle.c_operands.specs.declared.arguments.Callee.TheVariants.{Direct, Format, Through}
use Rattle.c_operands.specs.Arguments.{IsCallee}

pub taken_as : (r defined fits : Bool) (params count others : ℕ) → r ≡ (defined && fits) → fits ≡ (params == count) → count ≡ others → r ≡ (defined && params == others)
taken_as r defined fits params count others h e f = h ∙ (ap (λ (b : Bool). defined && b) e ∙ ap (λ (n : ℕ). defined && params == n) f)

pub told_as : (told : Option TypeFault) (kept other : Bool) (e : TypeFault) (rules : List Rule) → told ≡ broken ((kept, e) ∷ rules) → kept ≡ other → told ≡ broken ((other, e) ∷ rules)
told_as told kept other e rules h f = h ∙ ap (λ (b : Bool). broken ((b, e) ∷ rules)) f

pub direct_is : (table : Table) (n : ℕ) (d : Bool) (k : plain.Callee) → IsCallee table (Direct n d) k → (t : CType) × (k ≡ plain.Direct t d) × HasType table n t
direct_is table n d (plain.Direct t e) h = (t, ap (λ (b : Bool). plain.Direct t b) (sym h.1), h.0)
direct_is table n d plain.Format h = absurd h
direct_is table n d (plain.Through t) h = absurd h

pub through_is : (table : Table) (n : ℕ) (k : plain.Callee) → IsCallee table (Through n) k → (t : CType) × (k ≡ plain.Through t) × HasType table n t
through_is table n (plain.Through t) h = (t, refl, h)
through_is table n plain.Format h = absurd h
through_is table n (plain.Direct t d) h = absurd h

pub format_is : (table : Table) (k : plain.Callee) → IsCallee table Format k → k ≡ plain.Format
format_is table plain.Format h = refl
format_is table (plain.Direct t d) h = absurd h
format_is table (plain.Through t) h = absurd h
