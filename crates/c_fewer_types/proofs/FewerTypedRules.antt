-- What operands that are as good fit is what the others fit.
use Rattle.std.proofs.Common.{◌≡◌, ℕ, List, [], ◌∷◌, Option, Some, None, Bool, true, refl, ap, ap₂}
use Rattle.std.specs.Prelude.{Ok, Err, if◌then◌else◌}
use Rattle.std.specs.Option.{option_map_or}
use Rattle.c_syntax.specs.declared.tree.UnOp.TheVariants as unary
use Rattle.c_types.specs.declared.fault.TypeFault.{TypeFault}
use Rattle.c_types.specs.declared.fault.TypeFault.TheVariants as fault
use Rattle.c_types.specs.Types as type
use Rattle.c_types.specs.Types.{CType, NoType, MoreType, is_arithmetic, is_void, decayed}
use Rattle.c_types.specs.Constants.{unary_constant}
use Rattle.c_types.specs.Refusals.{Judged, Rule, least_of, after, both, all_three, broken, keeping}
use Rattle.c_types.specs.Operands.{Operand, Other, operand, value_at, converts, is_condition, unary_operand, function_call}
use Rattle.c_types.specs.Statements.{condition_rules, test_rules, return_rules}
use Rattle.c_fewer_types.specs.AsGood.{IsAsGood}
use Rattle.c_fewer_types.proofs.AsGoodRules.{rules_take_as_good}
use Rattle.c_fewer_types.proofs.Judged.{keeping_is, first_kept}

-- ---- what a judgement was made of

pub after_is : {A B : Type 0} (r : Judged A) (f : A → Judged B) (b : B) → after r f ≡ Ok b → (a : A) × (r ≡ Ok a) × (f a ≡ Ok b)
after_is (Ok a) f b e = (a, refl, e)
after_is (Err x) f b e = absurd (cc e)

pub both_is : {A B C : Type 0} (r : Judged A) (q : Judged B) (f : A → B → Judged C) (c : C) → both r q f ≡ Ok c → (a : A) × ((b : B) × (r ≡ Ok a) × (q ≡ Ok b) × (f a b ≡ Ok c))
both_is (Ok a) (Ok b) f c e = (a, (b, refl, refl, e))
both_is (Ok a) (Err x) f c e = absurd (cc e)
both_is (Err x) (Ok b) f c e = absurd (cc e)
both_is (Err x) (Err y) f c e = absurd (cc e)

pub three_is : {A B C D : Type 0} (r : Judged A) (q : Judged B) (u : Judged C) (f : A → B → C → Judged D) (d : D) → all_three r q u f ≡ Ok d → (a : A) × ((b : B) × ((c : C) × (r ≡ Ok a) × (q ≡ Ok b) × (u ≡ Ok c) × (f a b c ≡ Ok d)))
three_is (Ok a) (Ok b) (Ok c) f d e = (a, (b, (c, refl, refl, refl, e)))
three_is (Ok a) (Ok b) (Err x) f d e = absurd (cc e)
three_is (Ok a) (Err x) (Ok c) f d e = absurd (cc e)
three_is (Ok a) (Err x) (Err y) f d e = absurd (cc e)
three_is (Err x) (Ok b) (Ok c) f d e = absurd (cc e)
three_is (Err x) (Ok b) (Err y) f d e = absurd (cc e)
three_is (Err x) (Err y) (Ok c) f d e = absurd (cc e)
three_is (Err x) (Err y) (Err z) f d e = absurd (cc e)

pub first_broken : (b : Bool) (f : TypeFault) (rules : List Rule) → b ≡ true → broken rules ≡ None → broken ((b, f) ∷ rules) ≡ None
first_broken b f rules e k = ap₂ (λ b o. if b then o else Some (least_of f o)) e k

pub kept_is : {A : Type 0} (rules : List Rule) (a : A) → broken rules ≡ None → keeping rules a ≡ Ok a
kept_is rules a e = ap (λ o. option_map_or (λ e. Err e) o (Ok a)) e

-- ---- operands

pub converts_too : (x y : Operand) (t : CType) → IsAsGood x y → converts x t ≡ true → converts y t ≡ true
converts_too x y t g e =
    let params = MoreType t NoType in
    let told : function_call 0 true (type.Function type.Void params) (x ∷ []) ≡ Ok (value_at 0 type.Void) = λ i. keeping ((true, fault.BadCall 0) ∷ (e i, fault.Mismatch x.pos) ∷ []) (value_at 0 type.Void) in
    let k = rules_take_as_good.call 0 0 (type.Function type.Void params) (x ∷ []) (y ∷ []) (g, tt) (value_at 0 type.Void) told in
    let l = keeping_is ((true, fault.BadCall 0) ∷ (converts y t, fault.Mismatch y.pos) ∷ []) (value_at 0 type.Void) k.0 k.1 in
    let m = first_kept true (fault.BadCall 0) ((converts y t, fault.Mismatch y.pos) ∷ []) l.0 in
    (first_kept (converts y t) (fault.Mismatch y.pos) [] m.1).0

pub condition_too : (x y : Operand) → IsAsGood x y → is_condition x ≡ true → is_condition y ≡ true
condition_too x y g e =
    let given : Operand = operand 0 type.Int Other (unary_constant unary.Not x.constant) in
    let told : unary_operand [] 0 unary.Not x ≡ Ok given = λ i. keeping ((e i, fault.Mismatch 0) ∷ []) given in
    let k = rules_take_as_good.unary [] 0 0 unary.Not x y g given told in
    let l = keeping_is ((is_condition y, fault.Mismatch 0) ∷ []) (operand 0 type.Int Other (unary_constant unary.Not y.constant)) k.0 k.1 in
    (first_kept (is_condition y) (fault.Mismatch 0) [] l.0).0

pub conditions_too : (x y : Operand) → IsAsGood x y → broken (condition_rules x) ≡ None → broken (condition_rules y) ≡ None
conditions_too x y g e = first_broken (is_condition y) (fault.Mismatch y.pos) [] (condition_too x y g (first_kept (is_condition x) (fault.Mismatch x.pos) [] e).0) refl

-- what may be missing is as good, or missing in both
abbrev pub MaybeGood : Option Operand → Option Operand → Type 0
MaybeGood None None = Unit {0}
MaybeGood (Some x) (Some y) = IsAsGood x y
MaybeGood _ _ = ⊥

pub tests_too : (o p : Option Operand) → MaybeGood o p → broken (test_rules o) ≡ None → broken (test_rules p) ≡ None
tests_too None None g e = refl
tests_too None (Some y) g e = absurd g
tests_too (Some x) None g e = absurd g
tests_too (Some x) (Some y) g e = conditions_too x y g e

pub returns_too : (at : ℕ) (t : CType) (o p : Option Operand) → MaybeGood o p → broken (return_rules at t o) ≡ None → broken (return_rules at t p) ≡ None
returns_too at t None None g e = e
returns_too at t None (Some y) g e = absurd g
returns_too at t (Some x) None g e = absurd g
returns_too at t (Some x) (Some y) g e = first_broken (converts y t) (fault.Mismatch at) [] (converts_too x y t g (first_kept (converts x t) (fault.Mismatch at) [] e).0) refl
