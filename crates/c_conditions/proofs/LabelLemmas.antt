-- The labels of a `switch`, one after the other.
use Rattle.std.proofs.Common.{◌≡◌, ◌==◌, ℕ, Bool, true, false, ◌||◌, cond, List, [], ◌∷◌, ◌++◌, reverse, Option, Some, None, refl, sym, ap, ◌∙◌, append_assoc, append-nil, nat_eq, arith}
use Rattle.std.specs.Prelude.{not, Ok}
use Rattle.std.specs.List.{list_any}
use Rattle.std.proofs.lemmas.List.{reverse-append}
use Rattle.std.proofs.lemmas.Bool.Decides.{nat_tests}
use Rattle.c_types.specs.declared.fault.TypeFault.{TypeFault}
use Rattle.c_types.specs.declared.fault.TypeFault.TheVariants as fault
use Rattle.c_types.specs.Refusals.{Judged, Rule, after, broken}
use Rattle.c_types.specs.Scope.{Scope}
use Rattle.c_types.specs.Constants.{Constant, NotConstant, Undefined, Value}
use Rattle.c_types.specs.Operands.{Operand}
use Rattle.c_types.specs.Statements.{CaseLabel, PartJudged, case_rules, same_case, same_label, label_rules, labels_rules}
use Rattle.c_operands.specs.Arguments.{merged}
use Rattle.c_operands.proofs.LeastLemmas.{broken_first}
use Rattle.c_conditions.specs.declared.labels.Labels.{Labels}
use Rattle.c_conditions.specs.Cases.{has_word, has_case, AreLabels}
use Rattle.c_conditions.proofs.VerdictLemmas.{broken_both}

-- the rules of labels and of one more
labels_more : (before ls : List CaseLabel) (l : CaseLabel) → labels_rules before (ls ++ l ∷ []) ≡ labels_rules before ls ++ label_rules (reverse ls ++ before) l
labels_more before [] l = append-nil (label_rules before l)
labels_more before (k ∷ ls) l =
    let front = label_rules before k in
    let middle = labels_rules (k ∷ before) ls in
    ap (λ (rules : List Rule). front ++ rules) (labels_more (k ∷ before) ls l)
    ∙ (sym (append_assoc front middle (label_rules (reverse ls ++ (k ∷ before)) l))
    ∙ ap (λ (others : List CaseLabel). (front ++ middle) ++ label_rules others l) (sym (ap (λ (r : List CaseLabel). r ++ before) (reverse-append (k ∷ []) ls) ∙ append_assoc (reverse ls) (k ∷ []) before)))

pub one_more : (ls : List CaseLabel) (l : CaseLabel) (old own new : Option TypeFault) → old ≡ broken (labels_rules [] ls) → own ≡ broken (label_rules (reverse ls) l) → new ≡ merged old own → new ≡ broken (labels_rules [] (ls ++ l ∷ []))
one_more ls l old own new h k e =
    e ∙ (ap (λ (o : Option TypeFault). merged o own) h ∙ (ap (λ (o : Option TypeFault). merged (broken (labels_rules [] ls)) o) k
    ∙ (sym (broken_both (labels_rules [] ls) (label_rules (reverse ls) l))
    ∙ ap broken (sym (labels_more [] ls l ∙ ap (λ (others : List CaseLabel). labels_rules [] ls ++ label_rules others l) (append-nil (reverse ls)))))))

same_swap : (c : Constant) (y : ℕ) → same_case (Value y) c ≡ same_case c (Value y)
same_swap NotConstant y = refl
same_swap (Undefined at) y = refl
same_swap (Value x) y = grind (arith, nat_tests)

no_constant : (c : Constant) → same_case c NotConstant ≡ false
no_constant NotConstant = refl
no_constant (Undefined at) = refl
no_constant (Value x) = refl

no_value : (c : Constant) (at : ℕ) → same_case c (Undefined at) ≡ false
no_value NotConstant at = refl
no_value (Undefined place) at = refl
no_value (Value x) at = refl

words_more : (old new : List ℕ) (c k : Constant) (rest : Bool) → ((x : ℕ) → has_word new x ≡ (same_case (Value x) c || has_word old x)) → has_case old k ≡ rest → has_case new k ≡ (same_case c k || rest)
words_more old new c NotConstant rest h e = e ∙ sym (ap (λ (b : Bool). b || rest) (no_constant c))
words_more old new c (Undefined at) rest h e = e ∙ sym (ap (λ (b : Bool). b || rest) (no_value c at))
words_more old new c (Value y) rest h e = h y ∙ (ap (λ (b : Bool). b || has_word old y) (same_swap c y) ∙ ap (λ (r : Bool). same_case c (Value y) || r) e)

-- a word more
pub word_more : (x y : ℕ) (rest new : Bool) → new ≡ cond (nat_eq y x) true rest → new ≡ (x == y || rest)
word_more x y rest new e = e ∙ by (nat_eq y x) (x == y) swapped where
  swapped : nat_eq y x ≡ (x == y)
  swapped = grind (arith, nat_tests)

  by : (a b : Bool) → a ≡ b → cond a true rest ≡ (b || rest)
  by true true h = refl
  by false false h = refl
  by true false h = absurd cc
  by false true h = absurd cc

-- ---- labels so far

abbrev anew : (CaseLabel → Bool) → List CaseLabel → CaseLabel → Bool
anew p ls l = list_any p (reverse (ls ++ l ∷ []))

any_more : (p : CaseLabel → Bool) (ls : List CaseLabel) (l : CaseLabel) → anew p ls l ≡ (p l || list_any p (reverse ls))
any_more p ls l = ap (list_any p) (reverse-append ls (l ∷ []))

pub default_more : (b new : Labels) (ls : List CaseLabel) (at : ℕ) (own : Option TypeFault) → AreLabels b ls → own ≡ broken ((not b.default, fault.Twice at) ∷ []) → new.broken ≡ merged b.broken own → new.default ≡ true → new.words.keys ≡ b.words.keys
    → AreLabels new (ls ++ record { pos = at; value = None } ∷ [])
default_more b new ls at own h tells told is same =
    let l : CaseLabel = record { pos = at; value = None } in
    record {
      broken = one_more ls l b.broken own new.broken h.broken (tells ∙ ap (λ (t : Bool). broken ((not t, fault.Twice at) ∷ [])) h.default) told;
      default = is ∙ sym (any_more (λ other. same_label other.value None) ls l);
      words = λ a. ap (λ (ks : List ℕ). has_case ks a.constant) same ∙ (h.words a ∙ sym (any_more (λ other. same_label other.value (Some a)) ls l));
    }

pub case_more : (b new : Labels) (ls : List CaseLabel) (at : ℕ) (x : Operand) (own : Option TypeFault) → AreLabels b ls
    → own ≡ merged (broken ((not (has_case b.words.keys x.constant), fault.Twice at) ∷ [])) (broken (case_rules x.pos x.constant)) → new.broken ≡ merged b.broken own → new.default ≡ b.default
    → ((y : ℕ) → has_word new.words.keys y ≡ (same_case (Value y) x.constant || has_word b.words.keys y))
    → AreLabels new (ls ++ record { pos = at; value = Some x } ∷ [])
case_more b new ls at x own h tells told same more =
    let l : CaseLabel = record { pos = at; value = Some x } in
    let rules = case_rules x.pos x.constant in
    record {
      broken = one_more ls l b.broken own new.broken h.broken
          (tells ∙ (ap (λ (t : Bool). merged (broken ((not t, fault.Twice at) ∷ [])) (broken rules)) (h.words x)
          ∙ sym (broken_first (not (list_any (λ other. same_label other.value (Some x)) (reverse ls))) (fault.Twice at) rules))) told;
      default = same ∙ (h.default ∙ sym (any_more (λ other. same_label other.value None) ls l));
      words = λ a. words_more b.words.keys new.words.keys x.constant a.constant (list_any (λ other. same_label other.value (Some a)) (reverse ls)) more (h.words a) ∙ sym (any_more (λ other. same_label other.value (Some a)) ls l);
    }

-- what a label of a value is, by the value
abbrev pub valued : Scope → ℕ → Judged Operand → Judged PartJudged
valued s at q = after (after {B = Option Operand} q (λ a. Ok (Some a))) (λ a. Ok (record { scope = s; labels = record { pos = at; value = a } ∷ [] }))
