-- Shortest rows, put together as their languages are.
use Rattle.std.proofs.Common.{◌≡◌, ℕ, zero, suc, ◌+◌, ◌^◌, ◌<◌, ◌≤◌, List, [], ◌∷◌, ◌++◌, length, replicate, inl, inr, refl, ap, arith, length-append}
use Rattle.std.specs.List.{flat_map}
use Rattle.wasm_bin.specs.Grammar.{Language, ◌⋅◌, Row, Byte, Times, InTurn, SpellsNumber, SpellsInteger, SpellsLimited, SpellsBytes, SpellsVector, Sized, Section, Customs, Optional, Following, VectorSection}
use Rattle.std.specs.Prelude.{ℤ}
use Rattle.wasm_write.specs.Leb.{number_bytes, integer_bytes}
use Rattle.wasm_write.specs.Written.{counted, vector_bytes, section, vector_section}
use Rattle.wasm_write.proofs.Digits.{number_spelled, number_least, number_fits, number_grows}
use Rattle.wasm_write.proofs.Signs.{integer_spelled, integer_least, integer_fits}

-- where the language has a row, it has this one, and none that is shorter
pub record Best (Spells : Language) (row : List ℕ) : Type 0 where
  pub found : (other : List ℕ) → Spells other → Spells row
  pub least : (other : List ℕ) → Spells other → length row ≤ length other

pub best_row : (row : List ℕ) → Best (Row row) row
best_row row = record { found = λ other e. refl; least = λ other e. omega (arith, ap length e) }

pub best_then : {First Second : Language} {a b : List ℕ} → Best First a → Best Second b → Best (First ⋅ Second) (a ++ b)
best_then {First} {Second} {a} {b} p q = record {
  found = λ other s. record { front = a; back = b; parts = refl; first = p.found s.front s.first; second = q.found s.back s.second };
  least = λ other s. omega (arith, p.least s.front s.first, q.least s.back s.second, ap length s.parts, length-append s.front s.back, length-append a b);
}

pub best_turn : {A : Type 0} (Spells : A → Language) (bytes : A → List ℕ) → ((x : A) → Best (Spells x) (bytes x)) → (xs : List A) → Best (InTurn Spells xs) (flat_map bytes xs)
best_turn Spells bytes each [] = best_row []
best_turn Spells bytes each (x ∷ xs) = best_then (each x) (best_turn Spells bytes each xs)

pub best_times : (n byte : ℕ) → Best (Times n (Byte byte)) (replicate n byte)
best_times zero byte = best_row []
best_times (suc n) byte = best_then (best_row (byte ∷ [])) (best_times n byte)

pub best_number : (n : ℕ) → Best (SpellsNumber n) (number_bytes n)
best_number n = record { found = λ other s. number_spelled n (number_fits n other s); least = number_least n }

pub best_integer : (z : ℤ) → Best (SpellsInteger z) (integer_bytes z)
best_integer z = record { found = λ other s. integer_spelled z (integer_fits z other s); least = integer_least z }

pub best_limited : (limit n : ℕ) → Best (SpellsLimited limit n) (number_bytes n)
unfolding SpellsLimited
best_limited limit n = record {
  found = λ other s. (s.0, number_spelled n (number_fits n other s.1));
  least = λ other s. number_least n other s.1;
}

pub best_bytes : (row : List ℕ) → Best (SpellsBytes row) (counted row)
unfolding SpellsBytes
best_bytes row = best_then (best_number (length row)) (best_row row)

pub best_vector : {A : Type 0} (Spells : A → Language) (bytes : A → List ℕ) → ((x : A) → Best (Spells x) (bytes x)) → (xs : List A) → Best (SpellsVector Spells xs) (vector_bytes bytes xs)
best_vector Spells bytes each xs = best_then (best_limited (2 ^ 20) (length xs)) (best_turn Spells bytes each xs)

counted_spelled : (row : List ℕ) → length row < 2 ^ 32 → SpellsBytes row (counted row)
unfolding SpellsBytes
counted_spelled row h = record { front = number_bytes (length row); back = row; parts = refl; first = number_spelled (length row) h; second = refl }

-- bytes behind their number say how many they may be, and are as many with it
counted_fits : (row bytes : List ℕ) → SpellsBytes row bytes → length row < 2 ^ 32
unfolding SpellsBytes
counted_fits row bytes s = number_fits (length row) s.front s.first

counted_long : (row bytes : List ℕ) → SpellsBytes row bytes → length (number_bytes (length row)) + length row ≤ length bytes
unfolding SpellsBytes
counted_long row bytes s = omega (arith, number_least (length row) s.front s.first, ap length s.parts, length-append s.front s.back, ap length s.second)

pub best_sized : {Spells : Language} {row : List ℕ} → Best Spells row → Best (Sized Spells) (counted row)
best_sized {Spells} {row} p = record {
  found = λ other s. record {
    contents = row;
    spelled = p.found s.contents s.spelled;
    sized = counted_spelled row (omega (arith, p.least s.contents s.spelled, counted_fits s.contents other s.sized));
  };
  least = λ other s.
      let le = p.least s.contents s.spelled in
      omega (arith, number_grows (length row) (length s.contents) le, counted_long s.contents other s.sized, length-append (number_bytes (length row)) row);
}

pub best_section : {Spells : Language} {row : List ℕ} (id : ℕ) → Best Spells row → Best (Section id Spells) (section id row)
best_section id p = best_then (best_row (id ∷ [])) (best_sized p)

pub best_customs : Best Customs []
best_customs = record { found = λ other s. record { number = 0; spelled = refl }; least = λ other s. omega arith }

-- a section that has to be there, and one that doesn't
pub best_present : {Spells : Language} {row : List ℕ} (id : ℕ) (Absent : Type 0) → (Absent → ⊥) → Best Spells row → Best (Following id Spells Absent) (section id row)
best_present {Spells} {row} id Absent never p = best_then best_customs optional
  where
    best : Best (Section id Spells) (section id row)
    best = best_section id p

    optional : Best (Optional id Spells Absent) (section id row)
    optional = record {
      found = λ other. elim [ inl s ↦ inl (best.found other s) | inr s ↦ absurd (never s.0) ];
      least = λ other. elim [ inl s ↦ best.least other s | inr s ↦ absurd (never s.0) ];
    }

pub best_absent : (id : ℕ) (Spells : Language) (Absent : Type 0) → Absent → Best (Following id Spells Absent) []
best_absent id Spells Absent absent = best_then best_customs optional
  where
    optional : Best (Optional id Spells Absent) []
    optional = record { found = λ other s. inr (absent, refl); least = λ other s. omega arith }

pub best_vector_section : {A : Type 0} (id : ℕ) (Spells : A → Language) (bytes : A → List ℕ) → ((x : A) → Best (Spells x) (bytes x)) → (xs : List A) → Best (VectorSection id Spells xs) (vector_section id bytes xs)
best_vector_section id Spells bytes each [] = best_absent id (SpellsVector Spells []) ([] ≡ []) refl
best_vector_section id Spells bytes each (x ∷ xs) = best_present id ((x ∷ xs) ≡ []) (λ e. cc) (best_vector Spells bytes each (x ∷ xs))
