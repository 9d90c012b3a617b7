-- Judgements while the table of types grows.
use Rattle.std.proofs.Common.{◌≡◌, ℕ, List, sym, subst}
use Rattle.std.specs.Prelude.{Result, Ok, Err, OnOk}
use Rattle.c_types.specs.declared.fault.TypeFault.{TypeFault}
use Rattle.c_types.specs.Types.{CType, CTypes}
use Rattle.c_types.specs.Refusals.{Judged}
use Rattle.c_types.specs.Scope.{Scope}
use Rattle.c_types.specs.Operands as plain
use Rattle.c_types.specs.Known.{OneType, TypeList, Grows}
use Rattle.c_types.specs.Table.{Table, known, HasType}
use Rattle.c_layouts.specs.declared.layout.Layout.{Layout}
use Rattle.c_layouts.specs.Layouts.{AreLayouts}
use Rattle.c_operands.specs.declared.operand.Operand.{Operand}
use Rattle.c_operands.specs.Seen.{IsOperand, IsJudged}
use Rattle.c_operands.proofs.OperandLemmas.{operand_kept}
use Rattle.c_forms.specs.Given.{HaveLayouts}
use Rattle.c_operands.specs.declared.arguments.Callee.{Callee}
use Rattle.c_operands.specs.declared.arguments.Callee.TheVariants.{Direct, Format, Through}
use Rattle.c_operands.specs.Arguments.{HasList, IsCallee}
use Rattle.c_operands.specs.declared.declarations.Declarations.{Declarations}
use Rattle.c_operands.specs.Scoped.{Fits, FitsSome}
use Rattle.c_operands.proofs.NameLemmas.{fits_kept}

-- what holds at an answer that is no want of memory
pub on_ok : {T E P Q : Type 0} (r : Result T E) → (P → Q) → OnOk r P → OnOk r Q
on_ok (Ok x) f h = f h
on_ok (Err e) f h = h

pub judged_kept : (old new : Table) (r : Result Operand TypeFault) (p : Judged plain.Operand) → Grows (known old) (known new) → IsJudged (IsOperand old) r p → IsJudged (IsOperand new) r p
judged_kept old new (Ok a) (Ok x) grows h = operand_kept old new a x grows h
judged_kept old new (Err d) (Err e) grows h = h
judged_kept old new (Ok a) (Err e) grows h = absurd h
judged_kept old new (Err d) (Ok x) grows h = absurd h

pub type_kept : (old new : Table) (r : Result ℕ TypeFault) (p : Judged CType) → Grows (known old) (known new) → IsJudged (HasType old) r p → IsJudged (HasType new) r p
type_kept old new (Ok n) (Ok t) grows h = grows n (OneType t) h
type_kept old new (Err d) (Err e) grows h = h
type_kept old new (Ok n) (Err e) grows h = absurd h
type_kept old new (Err d) (Ok t) grows h = absurd h

pub list_kept : (old new : Table) (r : Result ℕ TypeFault) (p : Judged CTypes) → Grows (known old) (known new) → IsJudged (HasList old) r p → IsJudged (HasList new) r p
list_kept old new (Ok n) (Ok ts) grows h = grows n (TypeList ts) h
list_kept old new (Err d) (Err e) grows h = h
list_kept old new (Ok n) (Err e) grows h = absurd h
list_kept old new (Err d) (Ok ts) grows h = absurd h

called_kept : (old new : Table) (c : Callee) (k : plain.Callee) → Grows (known old) (known new) → IsCallee old c k → IsCallee new c k
called_kept old new (Direct n d) (plain.Direct t e) grows h = (grows n (OneType t) h.0, h.1)
called_kept old new Format plain.Format grows h = h
called_kept old new (Through n) (plain.Through t) grows h = grows n (OneType t) h
called_kept old new _ _ grows h = absurd h

pub callee_kept : (old new : Table) (r : Result Callee TypeFault) (p : Judged plain.Callee) → Grows (known old) (known new) → IsJudged (IsCallee old) r p → IsJudged (IsCallee new) r p
callee_kept old new (Ok c) (Ok k) grows h = called_kept old new c k grows h
callee_kept old new (Err d) (Err e) grows h = h
callee_kept old new (Ok c) (Err e) grows h = absurd h
callee_kept old new (Err d) (Ok k) grows h = absurd h

pub some_kept : (old new : Table) (d : Declarations) → Grows (known old) (known new) → new.tags ≡ old.tags → FitsSome old d → FitsSome new d
some_kept old new d grows same h = (h.0, fits_kept old new d h.0 grows same h.1)

-- the layouts as a slice
pub layouts_at : (table : Table) (d : Declarations) (s : Scope) (layouts : List Layout) → layouts ≡ d.layouts.items → Fits table d s → AreLayouts table layouts s.tags
layouts_at table d s layouts e fits = subst (λ (ls : List Layout). AreLayouts table ls s.tags) (sym e) fits.layouts
