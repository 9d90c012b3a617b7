use Rattle.std.proofs.Common.{◌≡◌, true, false, List, [], ◌∷◌, ◌++◌, refl, sym, subst, ◌∙◌}
use Rattle.c_types.specs.Scope.{entity_of, is_function}
use Rattle.c_code.specs.Code as code
use Rattle.c_code.specs.Code.{name_code}
use Rattle.c_emitted.specs.Emits.{Emits}
use Rattle.c_emitted.proofs.EmitLemmas.{on_ok, later, nothing}
use Rattle.c_flat_expressions.proofs.PartLemmas.{pointer_named, pointer_called}
use Rattle.c_flat_expressions.proofs.calls.named_pointer.Goals as goal

pub returns-then-names_function : goal.returns-then-names_function
returns-then-names_function c = λ site env is.
    let out = c.args.out.now in
    let name = c.args.name.now in
    let found = entity_of env.scope name in
    let is_one : is_function found ≡ true = sym (c.names_function.ensures env.scope is.holds.fits) ∙ c.if-names_function.true in
    subst (λ (l : List code.Instruction). Emits out out l []) (pointer_named name found (name_code site env name found ++ code.Use ∷ []) is_one) (nothing out)

pub returns : goal.returns
returns c = λ site env is.
    let name = c.args.name.now in
    let found = entity_of env.scope name in
    let is_none : is_function found ≡ false = sym (c.names_function.ensures env.scope is.holds.fits) ∙ c.if-names_function.false in
    on_ok c.add.result (λ last. subst (λ (l : List code.Instruction). Emits c.args.out.now c.add.new.self l []) (pointer_called name found (name_code site env name found ++ code.Use ∷ []) is_none) (later (c.in_ok-named_value.ensures site env is) last))
    (c.add.ensures code.Use (record { means = λ names p e. refl }))
