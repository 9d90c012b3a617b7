use Rattle.std.proofs.Common.{ℕ, sym, subst, ◌∙◌}
use Rattle.std.specs.Prelude.{Ok, Err}
use Rattle.c_types.specs.Types as types
use Rattle.c_types.specs.Types.{CType}
use Rattle.c_types.specs.Refusals.{Judged, both}
use Rattle.c_types.specs.Expressions.{array_of}
use Rattle.c_types.specs.Table.{known, HasType}
use Rattle.c_operands.specs.Seen.{IsJudged}
use Rattle.c_forms.proofs.WrittenLemmas.{array_known, long_enough, no_length}
use Rattle.c_forms.proofs.arrays.array_with.Goals as goal

pub returns-in_ok-array-in-Ok-clause-judged : goal.returns-in_ok-array-in-Ok-clause-judged
returns-in_ok-array-in-Ok-clause-judged c = λ t s h all.
    let table = c.args.types.now in
    let new = c.number.new.self in
    let n = c.in-Ok.count in
    let array = c.in_ok-array-in-Ok.ensures.number ∙ array_known table.tags (known table) c.args.of n t h in
    let kept = c.is_object_type-kept.ensures t s.tags h all in
    subst (λ (l : Judged ℕ). IsJudged (HasType new) c.type_rule.result (both {A = CType} {B = ℕ} {C = CType} (array_of s c.args.at t 1) l (λ _ m. Ok (types.Array t m)))) (sym c.in-Ok.is)
    (long_enough new c.type_rule.result s c.args.at t n c.is_object_type-kept.result kept (c.type_rule.ensures new (types.Array t n) array))

pub returns-in-Err-clause-judged : goal.returns-in-Err-clause-judged
returns-in-Err-clause-judged c = λ t s h all.
    let table = c.args.types.now in
    let kept = c.is_object_type-kept.ensures t s.tags h all in
    subst (λ (l : Judged ℕ). IsJudged (HasType table) (Err c.with_rule.result) (both {A = CType} {B = ℕ} {C = CType} (array_of s c.args.at t 1) l (λ _ m. Ok (types.Array t m)))) (sym c.in-Err.is)
    (no_length table s c.args.at t c.in-Err.fault c.with_rule.result c.is_object_type-kept.result kept c.with_rule.ensures)
