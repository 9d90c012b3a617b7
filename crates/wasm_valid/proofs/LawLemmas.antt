-- What follows from the definitions alone.
use Rattle.std.proofs.Common.{◌≡◌, ◌≢◌, ◌⊎◌, ⊎_elim, ℕ, ◌+◌, ◌<◌, List, Option, Some, None, refl, sym, ap, subst, ◌∙◌, arith}
use Rattle.wasm_bin.specs.declared.module.Module.{Module}
use Rattle.wasm_valid.specs.declared.fault.ValidFault.{ValidFault}
use Rattle.wasm_valid.specs.declared.fault.ValidFault.TheVariants.{Invalid, Memory}
use Rattle.wasm_valid.specs.Context.{Context}
use Rattle.wasm_valid.specs.Effects.{Effect, Turns, Breaks, Applies, MayApply, effect_of}
use Rattle.wasm_valid.specs.Nesting.{Code, Nothing, Single, InBlock, InLoop, InIf, InIfElse}
use Rattle.wasm_valid.specs.Typing.{arity, HasType}
use Rattle.wasm_valid.specs.Rules.{IsUntypedFirst, IsValid, IsRefused}
use Rattle.wasm_valid.specs.Verdict.{HasOneAnswer}
use Rattle.wasm_valid.proofs.Answered.{valid_or_refused}

applies_above : (effect : Effect) (a b k : ℕ) → Applies effect a b → Applies effect (a + k) (b + k)
applies_above (Turns takes gives) a b k (kept, e, f) = (kept + k, omega arith, omega arith)
applies_above (Breaks takes) a b k h = omega arith

may_apply_above : (effect : Option Effect) (a b k : ℕ) → MayApply effect a b → MayApply effect (a + k) (b + k)
may_apply_above None a b k h = h
may_apply_above (Some effect) a b k h = applies_above effect a b k h

swapped : (a n k : ℕ) → (a + n) + k ≡ (a + k) + n
swapped a n k = omega arith

one_more : (a m k : ℕ) → a ≡ m + 1 → a + k ≡ (m + k) + 1
one_more a m k e = omega arith

-- code keeps what lies beneath
pub HasType-above : (code : Code) (c : Context) (labels : List ℕ) (a b k : ℕ) → HasType c labels code a b → HasType c labels code (a + k) (b + k)
HasType-above Nothing c labels a b k h = ap (λ n. n + k) h
HasType-above (Single i others) c labels a b k h = (h.0 + k, may_apply_above (effect_of c labels i) a h.0 k h.1, HasType-above others c labels h.0 b k h.2)
HasType-above (InBlock result body others) c labels a b k h = (h.0, subst (λ n. HasType c labels others n (b + k)) (swapped a (arity result) k) (HasType-above others c labels (a + arity result) b k h.1))
HasType-above (InLoop result body others) c labels a b k h = (h.0, subst (λ n. HasType c labels others n (b + k)) (swapped a (arity result) k) (HasType-above others c labels (a + arity result) b k h.1))
HasType-above (InIf result body others) c labels a b k h = (h.0 + k, one_more a h.0 k h.1, h.2, h.3, subst (λ n. HasType c labels others n (b + k)) (swapped h.0 (arity result) k) (HasType-above others c labels (h.0 + arity result) b k h.4))
HasType-above (InIfElse result body other others) c labels a b k h = (h.0 + k, one_more a h.0 k h.1, h.2, h.3, subst (λ n. HasType c labels others n (b + k)) (swapped h.0 (arity result) k) (HasType-above others c labels (h.0 + arity result) b k h.4))

valid_not_refused : (m : Module) (fault : ValidFault) → fault ≢ Memory → IsValid m → IsRefused m fault → ⊥
valid_not_refused m (Invalid k) other valid r =
    ⊎_elim (λ broken. broken.0 valid.rules) (λ first. first.1.untyped (valid.typed k first.1.there)) r
valid_not_refused m Memory other valid r = other refl

three_ways : (j k : ℕ) → (j < k) ⊎ ((k < j) ⊎ (j ≡ k))
three_ways j k = grind arith

first_is_one : (m : Module) (j k : ℕ) → IsUntypedFirst m j → IsUntypedFirst m k → j ≡ k
first_is_one m j k x y =
    ⊎_elim (λ before. absurd (x.untyped (y.typed j before)))
    (λ rest. ⊎_elim (λ behind. absurd (y.untyped (x.typed k behind))) (λ e. e) rest)
    (three_ways j k)

one_refusal : (m : Module) (a b : ValidFault) → a ≢ Memory → b ≢ Memory → IsRefused m a → IsRefused m b → a ≡ b
one_refusal m Memory b x y r s = absurd (x refl)
one_refusal m (Invalid j) Memory x y r s = absurd (y refl)
one_refusal m (Invalid j) (Invalid k) x y r s =
    ap (λ n. Invalid n)
    (⊎_elim
    (λ broken. ⊎_elim (λ again. broken.1 ∙ sym again.1) (λ first. absurd (broken.0 first.0)) s)
    (λ first. ⊎_elim (λ broken. absurd (broken.0 first.0)) (λ again. first_is_one m j k first.1 again.1) s)
    r)

pub one_answer : (m : Module) → HasOneAnswer m
one_answer m = record { some = valid_or_refused m; taken = valid_not_refused m; refused = one_refusal m }
