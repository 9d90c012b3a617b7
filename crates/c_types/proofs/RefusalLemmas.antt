-- The least refusal, and what the answer to a text says.
use Rattle.std.proofs.Common.{◌≡◌, ℕ, ◌<◌, ◌≤◌, ◌⊎◌, inl, inr, Bool, true, false, ◌&&◌, ◌||◌, nat_lt, [], ◌∷◌, refl, arith, if◌then◌else◌}
use Rattle.std.specs.Prelude.{Ok, Err, IsOk}
use Rattle.std.specs.List.{list_any}
use lib.Dec.{eqb}
use Rattle.std.proofs.lemmas.Bool.Decides.{nat_tests}
use Rattle.c_syntax.specs.Plain.{CUnit}
use Rattle.c_types.specs.declared.fault.TypeFault.{TypeFault}
use Rattle.c_types.specs.declared.fault.TypeFault.TheVariants as fault
use Rattle.c_types.specs.Refusals.{place_of, number_of, comes_before, Judged, keeping, after}
use Rattle.c_types.specs.Scope.{Scope}
use Rattle.c_types.specs.Units.{is_main, start_scope, all_items}
use Rattle.c_types.specs.Limits.{is_small, weight_of}
use Rattle.c_types.specs.Laws.{ComesFirst, IsLeast, LeastIsFirst, AnswersSay}

before_first : (d e : TypeFault) → comes_before e d ≡ true → ComesFirst e d
before_first d e h = first (place_of e) (place_of d) (number_of e) (number_of d) h where
  first : (p q m n : ℕ) → (nat_lt p q || (eqb p q && nat_lt m n)) ≡ true → (p < q) ⊎ ((p ≡ q) × (m ≤ n))
  first p q m n h = elim (nat_lt p q) as (λ t. nat_lt p q ≡ t → (t || (eqb p q && nat_lt m n)) ≡ true → (p < q) ⊎ ((p ≡ q) × (m ≤ n)))
      [ true ↦ λ less _. inl (grind (arith, nat_tests)) | false ↦ λ _ rest. inr (grind (arith, nat_tests), grind (arith, nat_tests)) ] refl h

not_before_first : (d e : TypeFault) → comes_before e d ≡ false → ComesFirst d e
not_before_first d e h = first (place_of e) (place_of d) (number_of e) (number_of d) h where
  first : (p q m n : ℕ) → (nat_lt p q || (eqb p q && nat_lt m n)) ≡ false → (q < p) ⊎ ((q ≡ p) × (n ≤ m))
  first p q m n h = elim (nat_lt q p) as (λ t. nat_lt q p ≡ t → (q < p) ⊎ ((q ≡ p) × (n ≤ m)))
      [ true ↦ λ less. inl (grind (arith, nat_tests)) | false ↦ λ more. inr (grind (arith, nat_tests), grind (arith, nat_tests)) ] refl

by_test : (d e : TypeFault) (t : Bool) → comes_before e d ≡ t → IsLeast d e (if t then e else d)
by_test d e true h = record { one = inr refl; first = before_first d e h; second = inr (refl, omega arith) }
by_test d e false h = record { one = inl refl; first = inr (refl, omega arith); second = not_before_first d e h }

pub least_is_first : LeastIsFirst
least_is_first d e = by_test d e (comes_before e d) refl

-- the judgement of a text whose externals are judged so, by whether it has a `main`, and the answer
abbrev unit_so : Judged Scope → Bool → ℕ → Judged Scope
unit_so r m end = after r (λ s. keeping ((m, fault.NoMain end) ∷ []) s)

abbrev answer_so : Judged Scope → Bool → ℕ → Bool → ℕ → Judged ℕ
answer_so r m end small w = after (unit_so r m end) (λ _. keeping ((small, fault.TooLarge) ∷ []) w)

record Says (r : Judged Scope) (m : Bool) (end : ℕ) (small : Bool) (w : ℕ) : Type 0 where
  pub main : IsOk (unit_so r m end) → m ≡ true
  pub accepted : (n : ℕ) → answer_so r m end small w ≡ Ok n → IsOk (unit_so r m end) × (small ≡ true) × (n ≡ w)
  pub accepts : IsOk (unit_so r m end) → small ≡ true → answer_so r m end small w ≡ Ok w
  pub large : IsOk (unit_so r m end) → small ≡ false → answer_so r m end small w ≡ Err fault.TooLarge

says : (r : Judged Scope) (m : Bool) (end : ℕ) (small : Bool) (w : ℕ) → Says r m end small w
says (Err e) m end small w = record { main = λ j. cc; accepted = λ n g. absurd cc; accepts = λ j _. cc; large = λ j _. cc }
says (Ok s) false end small w = record { main = λ j. cc; accepted = λ n g. absurd cc; accepts = λ j _. cc; large = λ j _. cc }
says (Ok s) true end true w = record { main = λ _. refl; accepted = λ n g. (refl, refl, cc); accepts = λ _ _. refl; large = λ _ h. cc }
says (Ok s) true end false w = record { main = λ _. refl; accepted = λ n g. absurd cc; accepts = λ _ h. cc; large = λ _ _. refl }

pub answers_say : (u : CUnit) → AnswersSay u
answers_say u =
    let said = says (all_items (start_scope u) u.items) (list_any is_main u.items) u.end (is_small u) (weight_of u) in
    record { main = said.main; accepted = said.accepted; accepts = said.accepts; large = said.large }
