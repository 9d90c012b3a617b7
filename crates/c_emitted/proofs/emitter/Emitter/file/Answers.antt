use Rattle.std.proofs.Common.{◌≡◌, ℕ, [], ◌∷◌, Option, ap, sym, subst, ◌∙◌}
use Rattle.std.specs.Prelude.{Some, None, slice_get, OnOk}
use Rattle.c_syntax.specs.Words.{meaning}
use Rattle.c_code.specs.Code as code
use Rattle.c_resolved.specs.Same as same
use Rattle.c_store.specs.Values as values
use Rattle.c_emitted.specs.Emits.{Emits, tables_of, file_named}
use Rattle.c_emitted.proofs.TableLemmas.{begins_get}
use Rattle.c_emitted.proofs.EmitLemmas.{file_is}
use Rattle.c_emitted.proofs.emitter.Emitter.file.Goals as goal

pub returns-in-Some : goal.returns-in-Some
returns-in-Some c = λ names files.
    let a = c.args.self.now in
    let f = c.in-Some.file in
    let o = c.from.result in
    let there : file_named a c.args.name.now ≡ Some f = sym c.get.ensures.value ∙ (sym c.copied.ensures ∙ c.in-Some.is) in
    let h = file_is (tables_of a).files (file_named a c.args.name.now) f (meaning names c.args.name.now) (files.found c.args.name.now) there in
    let means : meaning names c.args.name.now ≡ Some (Some o) = h.0 ∙ ap (λ (n : ℕ). Some (Some n)) (sym c.from.ensures) in
    let length : slice_get (tables_of a).files o ≡ Some f.length = ap (slice_get (tables_of a).files) c.from.ensures ∙ h.1 in
    subst (λ (m : Option (Option ℕ)). OnOk c.constant.result (Emits a c.constant.new.self (code.object_code None m ∷ []) [])) (sym means)
    (c.constant.ensures (code.Global o) (record { means = λ ns p k e found. (values.Point o f.length 0, found, same.point o f.length 0 (begins_get e.files o f.length length)) }))
