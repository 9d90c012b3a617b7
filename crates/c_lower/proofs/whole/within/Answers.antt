use Rattle.std.proofs.Common.{List, sym, ap, subst, ◌∙◌}
use Rattle.std.specs.Prelude.{IfOk}
use Rattle.c_syntax.specs.View.{unit_of}
use Rattle.c_eval.specs.Text.{text_of}
use Rattle.eir_core.specs.declared.ops.Op.{Op}
use Rattle.eir_core.specs.Eir.{Eir}
use Rattle.c_place.specs.Code.{IsClosed, program}
use Rattle.c_types.specs.Table.{texts}
use Rattle.c_lowered.specs.Whole.{whole_code}
use Rattle.c_lower_sizes.specs.Sized.{IsSized}
use Rattle.c_lower.proofs.WholeLemmas.{literals_same, program_is}
use Rattle.c_lower.proofs.whole.within.Goals as goal

pub sized-requires-clause-closed : goal.sized-requires-clause-closed
sized-requires-clause-closed c =
    let u = unit_of c.args.unit.now in
    let t = c.requires.typed in
    let functions = c.in_ok-functions.ensures t.0 t.1 in
    let f = c.in_ok-scope.ensures t.0 t.1 (ap texts c.as_slice-literals.ensures.value ∙ (functions.literals ∙ literals_same (text_of u).functions)) in
    let code = c.in_ok-code.ensures t.0 t.1 c.requires.blocks functions (record { knows = record { slots_are = f.slots_are; bases_are = f.bases_are; entries_are = f.entries_are; frames_at = f.frames_at }; first_at = f.first_at }) in
    subst (λ (l : List Op). IsClosed l) (sym (c.as_slice-ops.ensures.value ∙ code)) (c.code_is_closed.ensures u)

pub returns : goal.returns
returns c =
    let u = unit_of c.args.unit.now in
    let t = c.requires.typed in
    let functions = c.in_ok-functions.ensures t.0 t.1 in
    let f = c.in_ok-scope.ensures t.0 t.1 (ap texts c.as_slice-literals.ensures.value ∙ (functions.literals ∙ literals_same (text_of u).functions)) in
    let code = c.in_ok-code.ensures t.0 t.1 c.requires.blocks functions (record { knows = record { slots_are = f.slots_are; bases_are = f.bases_are; entries_are = f.entries_are; frames_at = f.frames_at }; first_at = f.first_at }) in
    let whole = ap (λ (l : List Op). program l c.in_ok-scope.scope.words.items) (c.as_slice-ops.ensures.value ∙ code) ∙ (ap (program (whole_code u)) f.words_are ∙ program_is u) in
    subst (λ (p : Eir). IfOk c.sized.result (λ r. IsSized c.args.room p r)) whole c.sized.ensures
