-- The labels of a `switch` keep their words.
use Rattle.std.proofs.Common.{◌≡◌, ℕ, ◌%◌, ◌^◌, ◌<◌, List, [], ◌∷◌, ◌++◌, Option, Some, None, refl, sym, ap, ap₂, ◌∙◌, subst, arith}
use Rattle.std.specs.Prelude.{◌||◌, not, Ok}
use Rattle.std.specs.Option.{option_map, option_map_or}
use Rattle.std.specs.List.{list_any}
use Rattle.c_syntax.specs.Plain.{CExpr}
use Rattle.c_types.specs.declared.fault.TypeFault.TheVariants as fault
use Rattle.c_types.specs.Types.{is_arithmetic, is_unsigned, decayed}
use Rattle.c_types.specs.Constants as constant
use Rattle.c_types.specs.Constants.{Constant}
use Rattle.c_types.specs.Refusals.{Rule, broken}
use Rattle.c_types.specs.Scope.{Scope}
use Rattle.c_types.specs.Operands.{Operand, value_type}
use Rattle.c_types.specs.Expressions.{literal, judged}
use Rattle.c_types.specs.Statements.{CaseLabel, case_rules, same_case, same_label, labels_rules, switch_rules, maybe_judged}
use Rattle.c_eval.specs.Environment.{type_in, constant_word, word_in, constant_in}
use Rattle.c_valid.proofs.Constants.{constant_in_below}
use Rattle.c_fewer_types.specs.AsGood.{IsAsGood}
use Rattle.c_helpers.specs.Fewer.{constant_tree}
use Rattle.c_fewer_types.proofs.Judged.{first_kept}
use Rattle.c_fewer_types.proofs.FewerTypedRules.{after_is, first_broken}

-- the constant of a label, where it has a value, is the one that it had
abbrev pub ValueStands : Option Operand → Option Operand → Type 0
ValueStands None None = Unit {0}
ValueStands (Some a) (Some b) = (n : ℕ) → a.constant ≡ constant.Value n → b.constant ≡ constant.Value n
ValueStands _ _ = ⊥

abbrev pub LabelsStand : List CaseLabel → List CaseLabel → Type 0
LabelsStand [] [] = Unit {0}
LabelsStand (l ∷ ls) (k ∷ ks) = ValueStands l.value k.value × LabelsStand ls ks
LabelsStand _ _ = ⊥

pub labels_together : (ls ks ms ns : List CaseLabel) → LabelsStand ls ks → LabelsStand ms ns → LabelsStand (ls ++ ms) (ks ++ ns)
labels_together [] [] ms ns a b = b
labels_together [] (k ∷ ks) ms ns a b = absurd a
labels_together (l ∷ ls) [] ms ns a b = absurd a
labels_together (l ∷ ls) (k ∷ ks) ms ns a b = (a.0, labels_together ls ks ms ns a.1 b)

-- the number that stands for a constant expression has its value
value_kept : (s : Scope) (e : CExpr) (a : Operand) → judged s e ≡ Ok a → (n : ℕ) → a.constant ≡ constant.Value n → (literal 0 (constant_in s e) (is_unsigned (type_in s e))).constant ≡ constant.Value n
value_kept s e a k n c =
    let word : constant_in s e ≡ n = ap word_in k ∙ ap constant_word c in
    let few : constant_in s e < 2 ^ 24 = constant_in_below s e in
    let whole : constant_in s e % 2 ^ 24 ≡ n = omega (arith, word, few) in
    ap constant.Value whole

pub maybe_label : (s s' : Scope) (e : Option CExpr) (o : Option Operand) → maybe_judged s e ≡ Ok o → (p : Option Operand) × (maybe_judged s' (option_map (constant_tree s) e) ≡ Ok p) × ValueStands o p
maybe_label s s' None o k = let same : None ≡ o = cc k in (None, refl, subst (λ z. ValueStands z None) same tt)
maybe_label s s' (Some e) o k =
    let l = after_is (judged s e) (λ a. Ok (Some a)) o k in
    let same : Some l.0 ≡ o = cc l.2 in
    let number : Operand = literal 0 (constant_in s e) (is_unsigned (type_in s e)) in
    (Some number, refl, subst (λ z. ValueStands z (Some number)) same (λ n c. value_kept s e l.0 l.1 n c))

-- ---- rules

-- labels with the constants that they have as values
abbrev Same : Option Operand → Option Operand → Type 0
Same None None = Unit {0}
Same (Some a) (Some b) = a.constant ≡ b.constant
Same _ _ = ⊥

abbrev AreSame : List CaseLabel → List CaseLabel → Type 0
AreSame [] [] = Unit {0}
AreSame (l ∷ ls) (k ∷ ks) = Same l.value k.value × AreSame ls ks
AreSame _ _ = ⊥

label_same : (o p u v : Option Operand) → Same o p → Same u v → same_label o u ≡ same_label p v
label_same None None None None a b = refl
label_same None None (Some x) (Some y) a b = refl
label_same (Some x) (Some y) None None a b = refl
label_same (Some x) (Some y) (Some z) (Some w) a b = ap₂ (λ m n. same_case m n) a b
label_same None None None (Some y) a b = absurd b
label_same None None (Some x) None a b = absurd b
label_same (Some x) (Some y) None (Some w) a b = absurd b
label_same (Some x) (Some y) (Some z) None a b = absurd b
label_same None (Some y) u v a b = absurd a
label_same (Some x) None u v a b = absurd a

any_same : (before other : List CaseLabel) (l k : CaseLabel) → AreSame before other → Same l.value k.value → list_any (λ o. same_label o.value l.value) before ≡ list_any (λ o. same_label o.value k.value) other
any_same [] [] l k a b = refl
any_same [] (y ∷ ys) l k a b = absurd a
any_same (x ∷ xs) [] l k a b = absurd a
any_same (x ∷ xs) (y ∷ ys) l k a b = ap₂ (λ m n. m || n) (label_same x.value y.value l.value k.value a.0 b) (any_same xs ys l k a.1 b)

-- a case that has a value keeps it
case_kept : (o p : Option Operand) (rest : List Rule) → ValueStands o p → broken (option_map_or (λ a. case_rules a.pos a.constant) o [] ++ rest) ≡ None → Same o p × (broken rest ≡ None)
case_kept None None rest v e = (tt, e)
case_kept None (Some b) rest v e = absurd v
case_kept (Some a) None rest v e = absurd v
case_kept (Some a) (Some b) rest v e = go a.constant refl e
  where
    go : (c : Constant) → a.constant ≡ c → broken (case_rules a.pos c ++ rest) ≡ None → (a.constant ≡ b.constant) × (broken rest ≡ None)
    go constant.NotConstant k e = absurd (cc e)
    go (constant.Undefined pos) k e = absurd (cc e)
    go (constant.Value n) k e = (k ∙ sym (v n k), e)

case_unbroken : (o p : Option Operand) (rest : List Rule) (more : List Rule) → Same o p → broken (option_map_or (λ a. case_rules a.pos a.constant) o [] ++ rest) ≡ None → broken more ≡ None → broken (option_map_or (λ a. case_rules a.pos a.constant) p [] ++ more) ≡ None
case_unbroken None None rest more v e m = m
case_unbroken None (Some b) rest more v e m = absurd v
case_unbroken (Some a) None rest more v e m = absurd v
case_unbroken (Some a) (Some b) rest more v e m = go a.constant b.constant v e
  where
    go : (c d : Constant) → c ≡ d → broken (case_rules a.pos c ++ rest) ≡ None → broken (case_rules b.pos d ++ more) ≡ None
    go constant.NotConstant d k e = absurd (cc e)
    go (constant.Undefined pos) d k e = absurd (cc e)
    go (constant.Value n) d k e = subst (λ z. broken (case_rules b.pos z ++ more) ≡ None) k m

pub labels_too : (before other ls ks : List CaseLabel) → AreSame before other → LabelsStand ls ks → broken (labels_rules before ls) ≡ None → broken (labels_rules other ks) ≡ None
labels_too before other [] [] a s e = refl
labels_too before other [] (k ∷ ks) a s e = absurd s
labels_too before other (l ∷ ls) [] a s e = absurd s
labels_too before other (l ∷ ls) (k ∷ ks) a s e =
    let once = first_kept (not (list_any (λ o. same_label o.value l.value) before)) (fault.Twice l.pos) (option_map_or (λ a. case_rules a.pos a.constant) l.value [] ++ labels_rules (l ∷ before) ls) e in
    let c = case_kept l.value k.value (labels_rules (l ∷ before) ls) s.0 once.1 in
    let rest = labels_too (l ∷ before) (k ∷ other) ls ks (c.0, a) s.1 c.1 in
    first_broken (not (list_any (λ o. same_label o.value k.value) other)) (fault.Twice k.pos) (option_map_or (λ a. case_rules a.pos a.constant) k.value [] ++ labels_rules (k ∷ other) ks)
    (ap not (sym (any_same before other l k a c.0)) ∙ once.0) (case_unbroken l.value k.value (labels_rules (l ∷ before) ls) (labels_rules (k ∷ other) ks) c.0 once.1 rest)

pub switch_too : (a b : Operand) (ls ks : List CaseLabel) → IsAsGood a b → LabelsStand ls ks → broken (switch_rules a ls) ≡ None → broken (switch_rules b ks) ≡ None
switch_too a b ls ks g s e =
    let k = first_kept (is_arithmetic (value_type a)) (fault.Mismatch a.pos) (labels_rules [] ls) e in
    first_broken (is_arithmetic (value_type b)) (fault.Mismatch b.pos) (labels_rules [] ks) (sym (ap (λ t. is_arithmetic (decayed t)) g.ty) ∙ k.0) (labels_too [] [] ls ks tt s k.1)
