-- Places and judgements while the table of types grows.
use Rattle.std.proofs.Common.{◌≡◌, ℕ, List, sym, ap, ◌∙◌}
use Rattle.std.specs.Prelude.{Result, Ok, Err, IfOk}
use Rattle.c_syntax.specs.Plain.{CExpr, CTy}
use Rattle.c_syntax.specs.View.{ty_of}
use Rattle.c_syntax.specs.declared.tree.Ty.{Ty}
use Rattle.c_types.specs.declared.fault.TypeFault.{TypeFault}
use Rattle.c_types.specs.Types.{CType}
use Rattle.c_types.specs.Refusals.{Judged}
use Rattle.c_types.specs.Operands as operands
use Rattle.c_types.specs.Scope.{Scope}
use Rattle.c_types.specs.Expressions.{judged}
use Rattle.c_types.specs.Known.{OneType, Grows}
use Rattle.c_types.specs.Table.{Table, known, HasType}
use Rattle.c_operands.specs.declared.operand.Operand.{Operand}
use Rattle.c_operands.specs.Seen.{IsOperand, IsJudged}
use Rattle.c_operands.proofs.OperandLemmas.{grows_then}
use Rattle.c_operands.specs.Scoped.{FitsSome}
use Rattle.c_operands.proofs.NameLemmas.{fits_kept}
use Rattle.c_expressions.proofs.KeptLemmas.{judged_kept, type_kept}
use Rattle.c_helpers.specs.Fewer.{fewer}
use Rattle.c_fewer_operators.specs.declared.here.Here.{Here}
use Rattle.c_fewer_operators.specs.Here.{Stands, StandsSome}
use Rattle.c_fewer_trees.specs.declared.remade.Remade.{Remade}
use Rattle.c_fewer_trees.specs.Remade.{Comes, ComesFrom}

-- the table of types has grown
pub record Onward (old new : Table) : Type 0 where
  pub grows : Grows (known old) (known new)
  pub tags : new.tags ≡ old.tags

pub then_on : {a b c : Table} → Onward a b → Onward b c → Onward a c
then_on {a} {b} {c} f g = record { grows = grows_then (known a) (known b) (known c) f.grows g.grows; tags = g.tags ∙ f.tags }

pub stands_on : {a b : Table} {h : Here} {s : Scope} → Onward a b → Stands a h s → Stands b h s
stands_on {a} {b} {h} {s} f stands = record {
  fits = fits_kept a b h.declared s f.grows f.tags stands.fits;
  names = stands.names ∙ sym f.tags;
}

pub some_on : {a b : Table} {h : Here} → Onward a b → StandsSome a h → StandsSome b h
some_on f some = (some.0, stands_on f some.1)

-- what is declared there fits
pub some_fits : {a : Table} {h : Here} → StandsSome a h → FitsSome a h.declared
some_fits some = (some.0, some.1.fits)

pub judged_on : {a b : Table} (r : Result Operand TypeFault) (p : Judged operands.Operand) → Onward a b → IsJudged (IsOperand a) r p → IsJudged (IsOperand b) r p
judged_on {a} {b} r p f h = judged_kept a b r p f.grows h

pub written_on : {a b : Table} (r : Result ℕ TypeFault) (p : Judged CType) → Onward a b → IsJudged (HasType a) r p → IsJudged (HasType b) r p
written_on {a} {b} r p f h = type_kept a b r p f.grows h

pub type_on : {a b : Table} (n : ℕ) (t : CType) → Onward a b → HasType a n t → HasType b n t
type_on n t f h = f.grows n (OneType t) h

pub comes_on : {a b : Table} {r : Remade} {e : CExpr} {j : Judged operands.Operand} → Onward a b → Comes a r e j → Comes b r e j
comes_on {a} {b} {r} {e} {j} f h = record { tree = h.tree; judged = judged_on r.judged j f h.judged }

-- a type that is made is another one, if the two are equal
pub type_made : {E : Type 0} (r : Result Ty E) (a b : CTy) → a ≡ b → IfOk r (λ t. ty_of t ≡ a) → IfOk r (λ t. ty_of t ≡ b)
type_made (Ok t) a b same h = h ∙ same
type_made (Err x) a b same h = tt
