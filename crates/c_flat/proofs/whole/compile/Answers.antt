use Rattle.std.proofs.Common.{◌≡◌, ℕ, List, sym, ap, subst, ◌∙◌}
use Rattle.std.specs.Prelude.{slice_get}
use Rattle.c_syntax.specs.View.{unit_of}
use Rattle.c_syntax.specs.Plain.{CUnit}
use Rattle.c_types.specs.Limits.{IsTyped, is_small}
use Rattle.c_types.specs.Typed.{plain_of}
use Rattle.c_eval.specs.Meaning.{own_rules}
use Rattle.c_eval.specs.Text.{text_of}
use Rattle.c_rule.specs.Laws.{text_code}
use Rattle.c_plain.specs.Program.{program_of}
use Rattle.c_emitted.specs.Emits.{tables_of}
use Rattle.c_fitting.specs.Blocks.{UnitDeclaresInBlocks}
use Rattle.c_tracks.specs.Starts.{IsOfText}
use Rattle.c_linked.specs.declared.program.Compiled.{Compiled}
use Rattle.c_linked.specs.Linked.{IsEmitted}
use Rattle.c_flat.proofs.ChargeLemmas.{text_charges_known, typed_end}
use Rattle.c_flat.proofs.WholeLemmas.{AreEmitters, text_emitted, text_is, if_four}
use Rattle.c_flat.proofs.whole.compile.Goals as goal

pub returns : goal.returns
returns c =
    let u = unit_of c.unit-unit.result.now in
    let own : u ≡ plain_of c.args.typed.now = c.unit-unit.ensures.unit in
    let typed : IsTyped u = subst (λ (v : CUnit). IsTyped v) (sym own) c.unit-unit.ensures.typed in
    let small = ap is_small own ∙ c.requires.small in
    let blocks = subst (λ (v : CUnit). UnitDeclaresInBlocks v) (sym own) c.requires.blocks in
    let fit = c.typed_texts_are_fit.ensures u typed small blocks in
    let end = typed_end u typed in
    let a = c.in_ok-out.out in
    let d = c.add_code.new.out in
    let compiled = c.in_ok-added.added.compiled.items in
    let objects = c.in_ok-out.ensures end.0 end.1 in
    let adds = c.in_ok-added.ensures (own_rules u) (text_of u).names objects.stands.files fit (text_charges_known u end.0 end.1) in
    let b = adds.headed in
    let k = adds.added in
    let are : AreEmitters u a b k d compiled = record { objects = objects; heading_is = adds.heading_is; functions = adds.functions; name = adds.name } in
    let emitted = subst (λ (l : List Compiled). IsEmitted d l (text_code u)) (sym c.as_slice.ensures.value) (text_emitted u a b k d compiled are) in
    let e = c.link.ensures in
    if_four c.link.result
    (λ p is tables objects_are main. (
      (tables_of d).names,
      subst (λ (v : CUnit). IsOfText (tables_of d).names (program_of p) v) own
          (text_is u a b k d compiled (program_of p) are is tables objects_are (ap (λ (n : ℕ). slice_get (tables_of d).names n) main ∙ adds.named)),
    ))
    (e.code (text_code u) emitted) e.tables e.objects e.main
