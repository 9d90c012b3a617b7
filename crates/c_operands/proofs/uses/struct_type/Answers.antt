use Rattle.std.proofs.Common.{List, refl, sym, ap, subst, ◌∙◌}
use Rattle.std.specs.Prelude.{Ok, Err}
use Rattle.c_syntax.specs.Words.{meaning}
use Rattle.c_types.specs.declared.fault.TypeFault.TheVariants as fault
use Rattle.c_types.specs.Types.{CType}
use Rattle.c_types.specs.Refusals.{Judged}
use Rattle.c_types.specs.Known.{of_tag}
use Rattle.c_types.specs.Table.{known, HasType}
use Rattle.c_layouts.specs.declared.layout.Layout.{Layout}
use Rattle.c_layouts.specs.Layouts.{LayoutAt}
use Rattle.c_operands.specs.Seen.{IsJudged}
use Rattle.c_operands.proofs.NameLemmas.{struct_there, no_struct, not_numbered}
use Rattle.c_operands.proofs.uses.struct_type.Goals as goal

pub returns-in_ok-ty-in-Some-clause-judged : goal.returns-in_ok-ty-in-Some-clause-judged
returns-in_ok-ty-in-Some-clause-judged c = λ s fits.
    let old = c.args.types.now in
    let new = c.number.new.self in
    let name = c.args.name.now in
    let there = sym (c.is_declared.ensures (known old) (meaning s.tags name) (subst (λ (ls : List Layout). LayoutAt (known old) ls c.in-Some.tag (meaning s.tags name)) (sym c.deref.ensures.value) (fits.layouts c.in-Some.tag name c.in-Some.ensures))) ∙ c.if-is_declared.true in
    subst (λ (j : Judged CType). IsJudged (HasType new) (Ok c.in_ok-ty-in-Some.ty) j) (sym (struct_there s c.args.at name there))
    (c.in_ok-ty-in-Some.ensures.number ∙ ap of_tag c.in-Some.ensures)

pub returns-else-is_declared-clause-judged : goal.returns-else-is_declared-clause-judged
returns-else-is_declared-clause-judged c = λ s fits.
    let old = c.args.types.now in
    let name = c.args.name.now in
    let there = sym (c.is_declared.ensures (known old) (meaning s.tags name) (subst (λ (ls : List Layout). LayoutAt (known old) ls c.in-Some.tag (meaning s.tags name)) (sym c.deref.ensures.value) (fits.layouts c.in-Some.tag name c.in-Some.ensures))) ∙ c.if-is_declared.false in
    subst (λ (j : Judged CType). IsJudged (HasType old) (Err (fault.Unknown c.args.at)) j) (sym (no_struct s c.args.at name there)) refl

pub returns-in-None-clause-judged : goal.returns-in-None-clause-judged
returns-in-None-clause-judged c = λ s fits.
    let old = c.args.types.now in
    let name = c.args.name.now in
    subst (λ (j : Judged CType). IsJudged (HasType old) (Err (fault.Unknown c.args.at)) j)
    (sym (no_struct s c.args.at name (not_numbered old s name fits.numbered c.in-None.ensures))) refl
