-- Rows of bytes of the binary format, each with a bound on its length.
use Rattle.std.proofs.Common.{◌≡◌, ℕ, zero, suc, ◌+◌, ◌*◌, ◌/◌, ◌%◌, ◌^◌, ◌<◌, ◌≤◌, true, List, [], ◌∷◌, ◌++◌, length, inl, inr, refl, sym, ap, subst, ◌∙◌, arith, append_assoc, length-append}
use Rattle.std.specs.Prelude.{pos, nat_lt}
use Rattle.std.specs.Str.{IsUtf8}
use Rattle.std.proofs.lemmas.Bool.Decides.{nat_tests}
use Rattle.wasm_bytes.specs.Number.{unsigned_value, signed_value}
use Rattle.wasm_bin.specs.Opcode.{Operands}
use Rattle.wasm_bin.specs.Grammar.{Language, ◌⋅◌, Row, Byte, Times, InTurn, IsLeb, SpellsNumber, SpellsInteger, SpellsLimited, SpellsVector, SpellsBytes, SpellsName, Takes, SpellsOperands, SpellsInstruction, Sized, Section, Customs, Optional, Following}

-- the language has a row of at most so many bytes
pub record Has (Spells : Language) (most : ℕ) : Type 0 where
  pub row : List ℕ
  pub spelled : Spells row
  pub few : length row ≤ most

pub weaker : {Spells : Language} {m n : ℕ} → Has Spells m → m ≤ n → Has Spells n
weaker {Spells} {m} {n} h le = record { row = h.row; spelled = h.spelled; few = omega (arith, h.few) }

pub both : {First Second : Language} {m n : ℕ} → Has First m → Has Second n → Has (First ⋅ Second) (m + n)
both {First} {Second} {m} {n} a b = record {
  row = a.row ++ b.row;
  spelled = record { front = a.row; back = b.row; parts = refl; first = a.spelled; second = b.spelled };
  few = omega (arith, a.few, b.few, length-append a.row b.row);
}

pub this : (row : List ℕ) → Has (Row row) (length row)
this row = record { row = row; spelled = refl; few = omega arith }

pub byte : (n : ℕ) → Has (Byte n) 1
byte n = this (n ∷ [])

pub times : (n b : ℕ) → Has (Times n (Byte b)) n
times zero b = this []
times (suc n) b = weaker (both (byte b) (times n b)) (omega arith)

-- five bytes, seven bits in each
five : ℕ → List ℕ
five n = (n % 128 + 128) ∷ (n / 128 % 128 + 128) ∷ (n / 128 / 128 % 128 + 128) ∷ (n / 128 / 128 / 128 % 128 + 128) ∷ (n / 128 / 128 / 128 / 128 % 128) ∷ []

low : (n v : ℕ) → v ≡ n / 128 → (n % 128 + 128) % 128 + 128 * v ≡ n
low n v e = omega arith

last : (n : ℕ) → n < 128 → n % 128 % 128 + 128 * 0 ≡ n
last n h = omega arith

five_value : (n : ℕ) → n < 2 ^ 32 → unsigned_value (five n) ≡ n
unfolding five
five_value n h =
    let a = n / 128 in
    let b = a / 128 in
    let c = b / 128 in
    let d = c / 128 in
    let small : d < 128 = omega arith in
    low n _ (low a _ (low b _ (low c _ (last d small))))

is_leb : (n : ℕ) → IsLeb (five n)
unfolding five
is_leb n = (omega arith, (omega arith, (omega arith, (omega arith, omega arith))))

pub number : (n : ℕ) → n < 2 ^ 32 → Has (SpellsNumber n) 5
unfolding SpellsNumber five
number n h = record { row = five n; spelled = (is_leb n, omega arith, five_value n h, h); few = omega arith }

pub limited : (limit n : ℕ) → n ≤ limit → n < 2 ^ 32 → Has (SpellsLimited limit n) 5
unfolding SpellsLimited
limited limit n le h = let k = number n h in record { row = k.row; spelled = (le, k.spelled); few = k.few }

is_less : (a b : ℕ) → a < b → nat_lt a b ≡ true
is_less a b h = grind (arith, nat_tests)

positive : (bytes : List ℕ) (n : ℕ) → unsigned_value bytes ≡ n → length bytes ≡ 5 → nat_lt (2 * n) (128 ^ 5) ≡ true → signed_value bytes ≡ pos n
positive bytes n value long low_half = rw (value, long, low_half) refl

pub integer : (n : ℕ) → n < 2 ^ 31 → Has (SpellsInteger (pos n)) 5
unfolding SpellsInteger five
integer n h =
    let value : unsigned_value (five n) ≡ n = five_value n (omega arith) in
    let low_half : nat_lt (2 * n) (128 ^ 5) ≡ true = is_less (2 * n) (128 ^ 5) (omega arith) in
    let signed : signed_value (five n) ≡ pos n = positive (five n) n value refl low_half in
    record { row = five n; spelled = (is_leb n, omega arith, signed, is_less n (2 ^ 31) h); few = omega arith }

pub bytes : (row : List ℕ) → length row < 2 ^ 32 → Has (SpellsBytes row) (5 + length row)
unfolding SpellsBytes
bytes row h = both (number (length row) h) (this row)

pub name : (row : List ℕ) → IsUtf8 row → length row < 2 ^ 32 → Has (SpellsName row) (5 + length row)
unfolding SpellsName
name row text h = let k = bytes row h in record { row = k.row; spelled = (text, k.spelled); few = k.few }

pub sized : {Spells : Language} {m : ℕ} → Has Spells m → m < 2 ^ 32 → Has (Sized Spells) (5 + m)
sized {Spells} {m} h small =
    let k = bytes h.row (omega (arith, h.few)) in
    record { row = k.row; spelled = record { contents = h.row; spelled = h.spelled; sized = k.spelled }; few = omega (arith, k.few, h.few) }

pub section : {Spells : Language} {m : ℕ} (id : ℕ) → Has Spells m → m < 2 ^ 32 → Has (Section id Spells) (1 + (5 + m))
section id h small = both (byte id) (sized h small)

pub customs : Has Customs 0
customs = record { row = []; spelled = record { number = 0; spelled = refl }; few = omega arith }

-- a section that is there, and one that is not
pub present : {Spells : Language} {m : ℕ} (id : ℕ) (Absent : Type 0) → Has Spells m → m < 2 ^ 32 → Has (Following id Spells Absent) (6 + m)
present {Spells} {m} id Absent h small =
    let there = section id h small in
    let optional : Has (Optional id Spells Absent) (6 + m) = record { row = there.row; spelled = inl there.spelled; few = omega (arith, there.few) } in
    weaker (both customs optional) (omega arith)

pub absent : (id : ℕ) (Spells : Language) (Absent : Type 0) → Absent → Has (Following id Spells Absent) 0
absent id Spells Absent none =
    let optional : Has (Optional id Spells Absent) 0 = record { row = []; spelled = inr (none, refl); few = omega arith } in
    both customs optional

pub none : {A : Type 0} (Spells : A → Language) → Has (InTurn Spells []) 0
none Spells = this []

-- one value, and others behind it
pub one : {A : Type 0} {m n : ℕ} (Spells : A → Language) (x : A) (xs : List A) → Has (Spells x) m → Has (InTurn Spells xs) n → Has (InTurn Spells (x ∷ xs)) (m + n)
one Spells x xs first rest = both first rest

in_turn : {A : Type 0} (Spells : A → Language) (xs ys : List A) (a b : List ℕ) → InTurn Spells xs a → InTurn Spells ys b → InTurn Spells (xs ++ ys) (a ++ b)
in_turn Spells [] ys a b s t = subst (λ (row : List ℕ). InTurn Spells ys (row ++ b)) (sym s) t
in_turn Spells (x ∷ xs) ys a b s t = record {
  front = s.front;
  back = s.back ++ b;
  parts = ap (λ (row : List ℕ). row ++ b) s.parts ∙ append_assoc s.front s.back b;
  first = s.first;
  second = in_turn Spells xs ys s.back b s.second t;
}

-- values, and others behind them
pub joined : {A : Type 0} {m n : ℕ} (Spells : A → Language) (xs ys : List A) → Has (InTurn Spells xs) m → Has (InTurn Spells ys) n → Has (InTurn Spells (xs ++ ys)) (m + n)
joined {A} {m} {n} Spells xs ys a b = record {
  row = a.row ++ b.row;
  spelled = in_turn Spells xs ys a.row b.row a.spelled b.spelled;
  few = omega (arith, a.few, b.few, length-append a.row b.row);
}

pub vector : {A : Type 0} {m : ℕ} (Spells : A → Language) (xs : List A) → length xs ≤ 2 ^ 20 → Has (InTurn Spells xs) m → Has (SpellsVector Spells xs) (5 + m)
vector Spells xs few h = both (limited (2 ^ 20) (length xs) few (omega arith)) h

-- an instruction: its opcode, and its operands
pub instruction : {m : ℕ} (op : ℕ) (operands : Operands) → Takes op operands → Has (SpellsOperands operands) m → Has (SpellsInstruction (op, operands)) (1 + m)
unfolding SpellsInstruction
instruction op operands takes h = let k = both (byte op) h in record { row = k.row; spelled = (takes, k.spelled); few = k.few }
