-- Numbers in LEB128.
use Rattle.std.proofs.Common.{◌≡◌, ℕ, zero, suc, ◌+◌, ◌*◌, ◌-◌, ◌%◌, ◌^◌, ◌<◌, ◌≤◌, true, false, nat_lt, List, [], ◌∷◌, ◌++◌, length, take, get_or, Result, Ok, Err, refl, sym, ◌∙◌, arith}
use Rattle.std.proofs.Common.{add-one}
use Rattle.std.proofs.lemmas.List.{take_more, length-take}
use Rattle.std.proofs.Math.Nat.{pow-suc, pow-succ', pow-le-pow_right, mul-le-mul_right}
use Rattle.wasm_bytes.specs.declared.fault.ModFault.{ModFault}
use Rattle.wasm_bytes.specs.declared.fault.ModFault.TheVariants.{Malformed, Unsupported, TooLarge, Memory}
use Rattle.wasm_bytes.specs.Outcome.{Fails}
use Rattle.wasm_bytes.specs.Piece.{Piece, place, byte_at}
use Rattle.wasm_bytes.specs.Number.{unsigned_value, leb_at}
use Rattle.wasm_bytes.proofs.Steps.{with_front, with_front-more}

pub leb_more : (front : List ℕ) (b i : ℕ) (p q : Piece) (total : Result (List ℕ × Piece) ModFault) → i < 4 → byte_at p ≡ Ok (b, q) → 128 ≤ b → with_front front (leb_at (4 - i) p) ≡ total → with_front (front ++ b ∷ []) (leb_at (4 - (i + 1)) q) ≡ total
unfolding leb_at
leb_more front b i p q total lt h high so_far =
    let k : 4 - i ≡ suc (4 - (i + 1)) = omega arith in
    let t : nat_lt b 128 ≡ false = grind arith in
    let one : with_front front (leb_at (4 - i) p) ≡ with_front (front ++ b ∷ []) (leb_at (4 - (i + 1)) q) = rw (k, h, t) (with_front-more front b (leb_at (4 - (i + 1)) q)) in
    sym one ∙ so_far

pub leb_done : (front : List ℕ) (b i : ℕ) (p q : Piece) (total : Result (List ℕ × Piece) ModFault) → byte_at p ≡ Ok (b, q) → b < 128 → with_front front (leb_at (4 - i) p) ≡ total → total ≡ Ok (front ++ b ∷ [], q)
unfolding leb_at
leb_done front b i p q total h low so_far =
    let t : nat_lt b 128 ≡ true = grind arith in
    let one : (n : ℕ) → with_front front (leb_at n p) ≡ Ok (front ++ b ∷ [], q) = λ n. elim n as (λ m. with_front front (leb_at m p) ≡ Ok (front ++ b ∷ [], q)) [ zero ↦ rw (h, t) refl | suc m ↦ rw (h, t) refl ] in
    sym so_far ∙ one (4 - i)

pub leb_ends : (e : ModFault) (front : List ℕ) (n : ℕ) (p : Piece) (total : Result (List ℕ × Piece) ModFault) → Fails e (byte_at p) → with_front front (leb_at n p) ≡ total → Fails e total
unfolding leb_at
leb_ends Memory front n p total h so_far = tt
leb_ends (Malformed at) front zero p total h so_far = sym so_far ∙ rw h refl
leb_ends (Malformed at) front (suc n) p total h so_far = sym so_far ∙ rw h refl
leb_ends (Unsupported at) front zero p total h so_far = sym so_far ∙ rw h refl
leb_ends (Unsupported at) front (suc n) p total h so_far = sym so_far ∙ rw h refl
leb_ends (TooLarge at) front zero p total h so_far = sym so_far ∙ rw h refl
leb_ends (TooLarge at) front (suc n) p total h so_far = sym so_far ∙ rw h refl

pub leb_long : (front : List ℕ) (b i : ℕ) (p q : Piece) (total : Result (List ℕ × Piece) ModFault) → 4 ≤ i → byte_at p ≡ Ok (b, q) → 128 ≤ b → with_front front (leb_at (4 - i) p) ≡ total → total ≡ Err (Malformed (place p))
unfolding leb_at
leb_long front b i p q total le h high so_far =
    let k : 4 - i ≡ 0 = omega arith in
    let t : nat_lt b 128 ≡ false = grind arith in
    let one : with_front front (leb_at (4 - i) p) ≡ Err (Malformed (place p)) = rw (k, h, t) refl in
    sym so_far ∙ one

pub unsigned_value-append : (xs : List ℕ) (b : ℕ) → unsigned_value (xs ++ b ∷ []) ≡ unsigned_value xs + b % 128 * 128 ^ length xs
unsigned_value-append [] b = omega arith
unsigned_value-append (x ∷ xs) b =
    let e : 128 ^ suc (length xs) ≡ 128 * 128 ^ length xs = pow-succ' 128 (length xs) in
    let h : b % 128 * 128 ^ suc (length xs) ≡ 128 * (b % 128 * 128 ^ length xs) = rw e (omega arith) in
    omega (arith, unsigned_value-append xs b, h)

pub value_more : (bytes : List ℕ) (i value span b : ℕ) → i < length bytes → b ≡ get_or bytes i 0 → value ≡ unsigned_value (take i bytes) → span ≡ 128 ^ i → value + b % 128 * span ≡ unsigned_value (take (i + 1) bytes)
value_more bytes i value span b lt here made all =
    let len : length (take i bytes) ≡ i = omega (arith, length-take i bytes) in
    rw (take_more bytes i 0 lt, unsigned_value-append (take i bytes) (get_or bytes i 0), len, ← here, ← made, ← all) refl

pub span_more : (span i : ℕ) → span ≡ 128 ^ i → span * 128 ≡ 128 ^ (i + 1)
span_more span i all = rw (add-one, pow-suc 128 i, ← all) refl

pub value_below : (value span b : ℕ) → value < span → value + b % 128 * span < span * 128
value_below value span b lt =
    let m : b % 128 ≤ 127 = omega arith in
    let k : b % 128 * span ≤ 127 * span = mul-le-mul_right span m in
    omega arith

pub span_bound : (span i n : ℕ) → span ≡ 128 ^ i → i ≤ n → n ≤ 5 → span ≤ 2 ^ 35
span_bound span i n all le five =
    let five' : i ≤ 5 = omega arith in
    let some : 0 < 128 = omega arith in
    let k : 128 ^ i ≤ 128 ^ 5 = pow-le-pow_right some five' in
    omega (arith, k, all)
