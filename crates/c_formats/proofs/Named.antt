-- The names of a format's parameters, and what they stand for.
use Rattle.std.proofs.Common.{◌≡◌, ℕ, zero, suc, ◌+◌, ◌^◌, ◌<◌, ◌≤◌, List, [], ◌∷◌, ◌++◌, length, map, drop, slice_get, Some, true, false, cond, refl, sym, ap, ◌∙◌, subst, arith}
use Rattle.std.specs.Prelude.{◌==◌}
use Rattle.std.specs.Str.{bytes_eq}
use Rattle.std.specs.Int.{IsInRange}
use Rattle.std.specs.Str.Parse.{AllDigits}
use Rattle.std.proofs.lemmas.Bool.{false_from_ne_true, eq-eqb, or_left, or_right}
use Rattle.std.proofs.lemmas.Fmt.{decimal_is_IsNumeral, decimal_injective}
use Rattle.std.proofs.lemmas.Slice.Eq.{bytes_eq-Decides}
use Rattle.std.proofs.lemmas.Str.Parse.{digit_from_value}
use Rattle.c_syntax.specs.Words.{meaning}
use Rattle.c_types.specs.Scope as entity
use Rattle.c_types.specs.Scope.{Names}
use Rattle.c_eval.specs.State.{Value, Holds}
use Rattle.c_eval.specs.Memory.{live_object}
use Rattle.c_eval.specs.Meaning.{argument_objects, argument_names}
use Rattle.c_helpers.specs.Functions.{argument_name}
use Rattle.c_valid.specs.Valid.{IsValid, AreValid}
use Rattle.c_products.specs.MovesFound.{declared_in}
use Rattle.c_formats.specs.Laws.{argument_type, parameters_from, has_letter}

-- an argument's name has digits alone
pub no_argument : (c : ℕ) (cs : List ℕ) (i : ℕ) → i < 2 ^ 64 → (IsInRange 48 57 c → ⊥) → bytes_eq (c ∷ cs) (argument_name i) ≡ false
no_argument c cs i few apart =
    false_from_ne_true (bytes_eq (c ∷ cs) (argument_name i))
    (λ e. apart (digit_from_value c (subst (AllDigits 10) (sym ((bytes_eq-Decides (c ∷ cs) (argument_name i)).0 e)) (decimal_is_IsNumeral i few).0.1).0))

other_argument : (i j : ℕ) → i < 2 ^ 64 → j < 2 ^ 64 → (i ≡ j → ⊥) → bytes_eq (argument_name i) (argument_name j) ≡ false
other_argument i j few less apart =
    false_from_ne_true (bytes_eq (argument_name i) (argument_name j)) (λ e. apart (decimal_injective i j few less ((bytes_eq-Decides (argument_name i) (argument_name j)).0 e)))

own_argument : (i : ℕ) → bytes_eq (argument_name i) (argument_name i) ≡ true
own_argument i = (bytes_eq-Decides (argument_name i) (argument_name i)).1 refl

-- parameters with other names hide nothing
pub behind_parameters : (outer : Names) (name : List ℕ) (i : ℕ) (letters : List ℕ) (before : Names) → ((j : ℕ) → i ≤ j → j < i + length letters → bytes_eq name (argument_name j) ≡ false)
    → meaning (declared_in (parameters_from i letters) before ++ outer) name ≡ meaning (before ++ outer) name
behind_parameters outer name i [] before apart = refl
behind_parameters outer name i (c ∷ cs) before apart =
    behind_parameters outer name (suc i) cs ((argument_name i, entity.Object (argument_type c)) ∷ before) (λ j le lt. apart j (omega (arith, le)) (omega (arith, lt)))
    ∙ ap (λ b. cond b (Some (entity.Object (argument_type c))) (meaning (before ++ outer) name)) (apart i (omega arith) (omega arith))

-- the parameter of a conversion
pub parameter_found : (outer : Names) (i k : ℕ) (letters : List ℕ) (before : Names) (c : ℕ) (cs : List ℕ) → i + length letters < 2 ^ 64 → drop k letters ≡ c ∷ cs
    → meaning (declared_in (parameters_from i letters) before ++ outer) (argument_name (i + k)) ≡ Some (entity.Object (argument_type c))
parameter_found outer i zero [] before c cs few e = absurd (cc e)
parameter_found outer i (suc k) [] before c cs few e = absurd (cc e)
parameter_found outer i zero (d ∷ ds) before c cs few e =
    let same : d ≡ c = cc e in
    ap (λ z. meaning (declared_in (parameters_from i (d ∷ ds)) before ++ outer) (argument_name z)) (omega arith)
    ∙ (behind_parameters outer (argument_name i) (suc i) ds ((argument_name i, entity.Object (argument_type d)) ∷ before) (λ j le lt. other_argument i j (omega (arith, few)) (omega (arith, few, lt)) (λ same. omega (arith, same, le)))
    ∙ (ap (λ b. cond b (Some (entity.Object (argument_type d))) (meaning (before ++ outer) (argument_name i))) (own_argument i)
    ∙ ap (λ z. Some (entity.Object (argument_type z))) same))
parameter_found outer i (suc k) (d ∷ ds) before c cs few e =
    ap (λ z. meaning (declared_in (parameters_from i (d ∷ ds)) before ++ outer) (argument_name z)) (omega arith)
    ∙ parameter_found outer (suc i) k ds ((argument_name i, entity.Object (argument_type d)) ∷ before) c cs (omega (arith, few)) e

abbrev pub names_from : ℕ → List ℕ → List (List ℕ)
names_from i letters = map (λ x. x.0) (parameters_from i letters)

-- the number of the object that an argument has, where the first one has this
pub object_found : (i k n : ℕ) (letters : List ℕ) (vs : List Value) (c : ℕ) (cs : List ℕ) (v : Value) (rest : List Value) → i + length letters < 2 ^ 64 → drop k letters ≡ c ∷ cs → drop k vs ≡ v ∷ rest
    → meaning (argument_names (names_from i letters) vs n ++ []) (argument_name (i + k)) ≡ Some (Some (n + k))
object_found i zero n [] vs c cs v rest few e f = absurd (cc e)
object_found i (suc k) n [] vs c cs v rest few e f = absurd (cc e)
object_found i zero n (d ∷ ds) [] c cs v rest few e f = absurd (cc f)
object_found i (suc k) n (d ∷ ds) [] c cs v rest few e f = absurd (cc f)
object_found i zero n (d ∷ ds) (u ∷ us) c cs v rest few e f =
    ap (λ z. meaning (argument_names (names_from i (d ∷ ds)) (u ∷ us) n ++ []) (argument_name z)) (omega arith)
    ∙ (ap (λ b. cond b (Some (Some n)) (meaning (argument_names (names_from (suc i) ds) us (suc n) ++ []) (argument_name i))) (own_argument i) ∙ ap (λ z. Some (Some z)) (omega arith))
object_found i (suc k) n (d ∷ ds) (u ∷ us) c cs v rest few e f =
    ap (λ b. cond b (Some (Some n)) (meaning (argument_names (names_from (suc i) ds) us (suc n) ++ []) (argument_name (i + suc k)))) (other_argument (i + suc k) i (omega (arith, few, within k ds e)) (omega (arith, few)) (λ same. omega (arith, same)))
    ∙ (ap (λ z. meaning (argument_names (names_from (suc i) ds) us (suc n) ++ []) (argument_name z)) (omega arith)
    ∙ (object_found (suc i) k (suc n) ds us c cs v rest (omega (arith, few)) e f ∙ ap (λ z. Some (Some z)) (omega arith)))
  where
    within : (k : ℕ) (ds : List ℕ) → drop k ds ≡ c ∷ cs → k < length ds
    within zero [] e = absurd (cc e)
    within (suc k) [] e = absurd (cc e)
    within zero (d ∷ ds) e = omega arith
    within (suc k) (d ∷ ds) e = let lt : k < length ds = within k ds e in omega (arith, lt)

-- which holds the argument
pub cell_found : (i k : ℕ) (letters : List ℕ) (vs : List Value) (c : ℕ) (cs : List ℕ) (v : Value) (rest : List Value) → drop k letters ≡ c ∷ cs → drop k vs ≡ v ∷ rest
    → slice_get (map live_object (argument_objects (names_from i letters) vs)) k ≡ Some (live_object (Holds v ∷ []))
cell_found i zero [] vs c cs v rest e f = absurd (cc e)
cell_found i (suc k) [] vs c cs v rest e f = absurd (cc e)
cell_found i zero (d ∷ ds) [] c cs v rest e f = absurd (cc f)
cell_found i (suc k) (d ∷ ds) [] c cs v rest e f = absurd (cc f)
cell_found i zero (d ∷ ds) (u ∷ us) c cs v rest e f = let same : u ≡ v = cc f in ap (λ z. Some (live_object (Holds z ∷ []))) same
cell_found i (suc k) (d ∷ ds) (u ∷ us) c cs v rest e f = cell_found (suc i) k ds us c cs v rest e f

-- ---- lists from a place on

pub next_dropped : {A : Type 0} (k : ℕ) (xs : List A) (x : A) (rest : List A) → drop k xs ≡ x ∷ rest → drop (suc k) xs ≡ rest
next_dropped zero [] x rest e = absurd (cc e)
next_dropped (suc k) [] x rest e = absurd (cc e)
next_dropped zero (y ∷ ys) x rest e = cc e
next_dropped (suc k) (y ∷ ys) x rest e = next_dropped k ys x rest e

pub none_dropped : {A : Type 0} (k : ℕ) (xs : List A) → drop k xs ≡ [] → drop (suc k) xs ≡ []
none_dropped zero [] e = refl
none_dropped (suc k) [] e = refl
none_dropped zero (y ∷ ys) e = absurd (cc e)
none_dropped (suc k) (y ∷ ys) e = none_dropped k ys e

pub letter_in : (k : ℕ) (letters : List ℕ) (c : ℕ) (cs : List ℕ) → drop k letters ≡ c ∷ cs → has_letter letters c ≡ true
letter_in zero [] c cs e = absurd (cc e)
letter_in (suc k) [] c cs e = absurd (cc e)
letter_in zero (d ∷ ds) c cs e = or_left (d == c) (has_letter ds c) (eq-eqb d c (cc e))
letter_in (suc k) (d ∷ ds) c cs e = or_right (d == c) (has_letter ds c) (letter_in k ds c cs e)

pub valid_in : (k : ℕ) (vs : List Value) (v : Value) (rest : List Value) → AreValid vs → drop k vs ≡ v ∷ rest → IsValid v
valid_in zero [] v rest valid e = absurd (cc e)
valid_in (suc k) [] v rest valid e = absurd (cc e)
valid_in zero (u ∷ us) v rest valid e = let same : u ≡ v = cc e in subst IsValid same valid.0
valid_in (suc k) (u ∷ us) v rest valid e = valid_in k us v rest valid.1 e
