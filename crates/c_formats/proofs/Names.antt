-- Arguments of a format that are missing, and letters of conversions.
use Rattle.std.proofs.Common.{◌≡◌, ℕ, zero, suc, ◌+◌, ◌%◌, ◌^◌, ◌<◌, List, [], ◌∷◌, ◌++◌, length, drop, Some, None, true, false, cond, refl, sym, ap, ◌∙◌, subst, arith, append_assoc, append-nil, ⊎_elim}
use Rattle.std.specs.Prelude.{◌||◌, ◌==◌, codes}
use Rattle.std.specs.List.{list_any}
use Rattle.std.specs.Str.{bytes_eq}
use Rattle.std.proofs.lemmas.Bool.{false_from_ne_true, eqb-true, or_cases}
use Rattle.std.proofs.lemmas.Fmt.{decimal_injective}
use Rattle.std.proofs.lemmas.Slice.Eq.{bytes_eq-Decides}
use Rattle.c_syntax.specs.Words.{meaning}
use Rattle.c_eval.specs.State.{Value, Object, State, Gives}
use Rattle.c_eval.specs.Run.{◌>>=◌, after, give, put, put_all}
use Rattle.c_eval.specs.Meaning.{argument_names}
use Rattle.c_helpers.specs.Functions.{argument_name}
use Rattle.c_formats.specs.Places.{bytes}
use Rattle.c_formats.proofs.Named.{names_from}
use Rattle.c_failing.specs.Failing.{IsArgument, AreArguments}

apart_from : (i j : ℕ) → i < 2 ^ 64 → j < 2 ^ 64 → (i ≡ j → ⊥) → bytes_eq (argument_name i) (argument_name j) ≡ false
apart_from i j few less apart = false_from_ne_true (bytes_eq (argument_name i) (argument_name j)) (λ e. apart (decimal_injective i j few less ((bytes_eq-Decides (argument_name i) (argument_name j)).0 e)))

same_name : (i : ℕ) → bytes_eq (argument_name i) (argument_name i) ≡ true
same_name i = (bytes_eq-Decides (argument_name i) (argument_name i)).1 refl

below : (k : ℕ) (letters : List ℕ) (c : ℕ) (cs : List ℕ) → drop k letters ≡ c ∷ cs → k < length letters
below zero [] c cs e = absurd (cc e)
below (suc k) [] c cs e = absurd (cc e)
below zero (d ∷ ds) c cs e = omega arith
below (suc k) (d ∷ ds) c cs e = let lt : k < length ds = below k ds c cs e in omega (arith, lt)

abbrev no_values : List Value
no_values = []

none_left : (k : ℕ) → drop k no_values ≡ no_values
none_left zero = refl
none_left (suc k) = refl

-- a conversion without an argument has a parameter without an object
pub object_missing : (i k n : ℕ) (letters : List ℕ) (vs : List Value) (c : ℕ) (cs : List ℕ) → i + length letters < 2 ^ 64 → drop k letters ≡ c ∷ cs → drop k vs ≡ [] → meaning (argument_names (names_from i letters) vs n ++ []) (argument_name (i + k)) ≡ Some None
object_missing i zero n [] vs c cs few e f = absurd (cc e)
object_missing i (suc k) n [] vs c cs few e f = absurd (cc e)
object_missing i zero n (d ∷ ds) (u ∷ us) c cs few e f = absurd (cc f)
object_missing i zero n (d ∷ ds) [] c cs few e f =
    ap (λ z. meaning (argument_names (names_from i (d ∷ ds)) [] n ++ []) (argument_name z)) (omega arith)
    ∙ ap (λ b. cond b (Some None) (meaning (argument_names (names_from (suc i) ds) [] n ++ []) (argument_name i))) (same_name i)
object_missing i (suc k) n (d ∷ ds) [] c cs few e f =
    ap (λ b. cond b (Some None) (meaning (argument_names (names_from (suc i) ds) [] n ++ []) (argument_name (i + suc k)))) (apart_from (i + suc k) i (omega (arith, few, below k ds c cs e)) (omega (arith, few)) (λ same. omega (arith, same)))
    ∙ (ap (λ z. meaning (argument_names (names_from (suc i) ds) [] n ++ []) (argument_name z)) (omega arith) ∙ object_missing (suc i) k n ds [] c cs (omega (arith, few)) e (none_left k))
object_missing i (suc k) n (d ∷ ds) (u ∷ us) c cs few e f =
    ap (λ b. cond b (Some (Some n)) (meaning (argument_names (names_from (suc i) ds) us (suc n) ++ []) (argument_name (i + suc k)))) (apart_from (i + suc k) i (omega (arith, few, below k ds c cs e)) (omega (arith, few)) (λ same. omega (arith, same)))
    ∙ (ap (λ z. meaning (argument_names (names_from (suc i) ds) us (suc n) ++ []) (argument_name z)) (omega arith) ∙ object_missing (suc i) k (suc n) ds us c cs (omega (arith, few)) e f)

pub argument_in : (os : List Object) (k : ℕ) (vs : List Value) (v : Value) (rest : List Value) → AreArguments os vs → drop k vs ≡ v ∷ rest → IsArgument os v
argument_in os zero [] v rest are e = absurd (cc e)
argument_in os (suc k) [] v rest are e = absurd (cc e)
argument_in os zero (u ∷ us) v rest are e = let same : u ≡ v = cc e in subst (IsArgument os) same are.0
argument_in os (suc k) (u ∷ us) v rest are e = argument_in os k us v rest are.1 e

-- bytes are written one after the other
pub put_all_is : (cs : List ℕ) (st : State) → put_all cs st ≡ Gives tt (record st { output = st.output ++ bytes cs })
unfolding put_all give put ◌>>=◌ after
put_all_is [] st = ap (λ os. Gives tt (record st { output = os })) (sym (append-nil st.output))
put_all_is (c ∷ cs) st = put_all_is cs (record st { output = st.output ++ c % 2 ^ 8 ∷ [] }) ∙ ap (λ os. Gives tt (record st { output = os })) (append_assoc st.output (c % 2 ^ 8 ∷ []) (bytes cs))

-- the letters of conversions
pub by_letter : (P : ℕ → Type 0) → P 100 → P 117 → P 120 → P 99 → P 115 → (c : ℕ) → list_any (λ other. c == other) (codes "duxcs") ≡ true → P c
by_letter P d u x h s c e =
    ⊎_elim (λ z. subst P (sym (eqb-true c 100 z)) d)
    (λ e. ⊎_elim (λ z. subst P (sym (eqb-true c 117 z)) u)
    (λ e. ⊎_elim (λ z. subst P (sym (eqb-true c 120 z)) x)
    (λ e. ⊎_elim (λ z. subst P (sym (eqb-true c 99 z)) h)
    (λ e. ⊎_elim (λ z. subst P (sym (eqb-true c 115 z)) s) (λ e. absurd (cc e)) (or_cases (c == 115) false e))
    (or_cases (c == 99) (c == 115 || false) e))
    (or_cases (c == 120) (c == 99 || (c == 115 || false)) e))
    (or_cases (c == 117) (c == 120 || (c == 99 || (c == 115 || false))) e))
    (or_cases (c == 100) (c == 117 || (c == 120 || (c == 99 || (c == 115 || false)))) e)
