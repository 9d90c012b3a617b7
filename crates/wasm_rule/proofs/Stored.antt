-- What is read of a memory is what was stored there last, and 0 where nothing was.
use Rattle.std.proofs.Common.{zero, suc, ◌≡◌, ◌≢◌, ℕ, ◌+◌, ◌*◌, ◌^◌, ◌/◌, ◌%◌, ◌<◌, ◌≤◌, Bool, true, false, cond, nat_eq, List, [], ◌∷◌, ◌++◌, length, get_or, Option, Some, None, unwrap_or, refl, sym, ap, ◌∙◌, arith, pow-suc}
use Rattle.std.specs.Ordering.{eq_by_cmp, nat_cmp}
use Rattle.std.specs.Cmp.{nat_cmp_total}
use Rattle.std.specs.FinMap as fin
use Rattle.std.proofs.Math.Arith.{mod-mul}
use Rattle.std.proofs.lemmas.Bool.{eqb-true}
use Rattle.std.proofs.lemmas.Bool.Decides.{nat_tests}
use Rattle.wasm_bin.specs.declared.module.Segment.{Segment}
use Rattle.wasm_rule.specs.Number.{word_of}
use Rattle.wasm_rule.specs.Memory.{ByteMap, byte_at, with_byte, with_bytes, word_at, bytes_of}
use Rattle.wasm_rule.specs.Start.{with_segments}

-- the test of the map's keys
is_at : (q k : ℕ) → eq_by_cmp nat_cmp q k ≡ nat_eq q k
is_at q k = elim (nat_eq q k) as (λ b. nat_eq q k ≡ b → eq_by_cmp nat_cmp q k ≡ b) [ true ↦ λ e. grind (arith, nat_tests) | false ↦ λ e. grind (arith, nat_tests) ] refl

read_kept : (byte : ℕ) → unwrap_or (cond (nat_eq 0 byte) None (Some byte)) 0 ≡ byte
read_kept byte =
    elim (nat_eq 0 byte) as (λ b. nat_eq 0 byte ≡ b → unwrap_or (cond b None (Some byte)) 0 ≡ byte) [ true ↦ λ e. eqb-true 0 byte e | false ↦ λ e. refl ] refl

got : (m : ByteMap) (k v q : ℕ) → fin.get (with_byte m k v) q ≡ cond (nat_eq q k) (cond (nat_eq 0 v) None (Some v)) (fin.get m q)
got m k v q =
    elim (nat_eq 0 v) as (λ b. fin.get (cond b (fin.remove m k) (fin.insert m k v)) q ≡ cond (eq_by_cmp nat_cmp q k) (cond b None (Some v)) (fin.get m q)) [
      | true ↦ fin.get-remove nat_cmp_total m k q
      | false ↦ fin.get-insert nat_cmp_total m k v q
    ] ∙ ap (λ b. cond b (cond (nat_eq 0 v) None (Some v)) (fin.get m q)) (is_at q k)

either_read : (b : Bool) (o : Option ℕ) (v : ℕ) → unwrap_or (cond b (cond (nat_eq 0 v) None (Some v)) o) 0 ≡ cond b v (unwrap_or o 0)
either_read true o v = read_kept v
either_read false o v = refl

-- a byte that was changed, and the others
pub byte_at-with : (m : ByteMap) (address byte q : ℕ) → byte_at (with_byte m address byte) q ≡ cond (nat_eq q address) byte (byte_at m q)
byte_at-with m address byte q = ap (λ o. unwrap_or o 0) (got m address byte q) ∙ either_read (nat_eq q address) (fin.get m q) byte

-- where nothing was stored
pub byte_at-empty : (q : ℕ) → byte_at fin.empty q ≡ 0
byte_at-empty q = ap (λ o. unwrap_or o 0) (fin.get-empty nat_cmp q)

at_other : (q address : ℕ) → q ≢ address → nat_eq q address ≡ false
at_other q address ne = grind (arith, nat_tests)

at_same : (q address : ℕ) → q ≡ address → nat_eq q address ≡ true
at_same q address e = grind (arith, nat_tests)

byte_other : (m : ByteMap) (address byte q : ℕ) → q ≢ address → byte_at (with_byte m address byte) q ≡ byte_at m q
byte_other m address byte q ne = byte_at-with m address byte q ∙ ap (λ b. cond b byte (byte_at m q)) (at_other q address ne)

byte_same : (m : ByteMap) (address byte q : ℕ) → q ≡ address → byte_at (with_byte m address byte) q ≡ byte
byte_same m address byte q e = byte_at-with m address byte q ∙ ap (λ b. cond b byte (byte_at m q)) (at_same q address e)

-- bytes that are stored from an address on change none below it
pub byte_below : (m : ByteMap) (address : ℕ) (bytes : List ℕ) (q : ℕ) → q < address → byte_at (with_bytes m address bytes) q ≡ byte_at m q
byte_below m address [] q lt = refl
byte_below m address (byte ∷ bytes) q lt =
    byte_below (with_byte m address byte) (address + 1) bytes q (omega arith) ∙ byte_other m address byte q (λ e. omega arith)

-- and none behind them
pub byte_behind : (m : ByteMap) (address : ℕ) (bytes : List ℕ) (q : ℕ) → address + length bytes ≤ q → byte_at (with_bytes m address bytes) q ≡ byte_at m q
byte_behind m address [] q le = refl
byte_behind m address (byte ∷ bytes) q le =
    byte_behind (with_byte m address byte) (address + 1) bytes q (omega arith) ∙ byte_other m address byte q (λ e. omega arith)

-- each of them is read at its own address
pub byte_stored : (m : ByteMap) (address : ℕ) (bytes : List ℕ) (k q : ℕ) → q ≡ address + k → k < length bytes → byte_at (with_bytes m address bytes) q ≡ get_or bytes k 0
byte_stored m address [] k q e lt = absurd (omega arith)
byte_stored m address (byte ∷ bytes) zero q e lt =
    byte_below (with_byte m address byte) (address + 1) bytes q (omega arith) ∙ byte_same m address byte q (omega arith)
byte_stored m address (byte ∷ bytes) (suc k) q e lt = byte_stored (with_byte m address byte) (address + 1) bytes k q (omega arith) (omega arith)

positive : (count : ℕ) → 0 < 256 ^ count
positive zero = omega arith
positive (suc count) = let less = positive count in rw (pow-suc 256 count) (omega arith)

two_digits : (word count : ℕ) → word % 256 + 256 * (word / 256 % 256 ^ count) ≡ word % 256 ^ suc count
two_digits word count = sym (ap (λ n. word % n) (pow-suc 256 count) ∙ mod-mul word {m = 256 ^ count} {c = 256} (positive count) (omega arith) ∙ turned (word / 256 % 256 ^ count) (word % 256))
  where
    turned : (a b : ℕ) → a * 256 + b ≡ b + 256 * a
    turned a b = omega arith

-- a word that was stored is read again, modulo what its bytes hold
pub word_stored : (m : ByteMap) (address count word : ℕ) → word_at (with_bytes m address (bytes_of count word)) address count ≡ word % 256 ^ count
word_stored m address zero word = sym (mod_one word)
  where
    mod_one : (n : ℕ) → n % 1 ≡ 0
    mod_one n = omega arith
word_stored m address (suc count) word =
    let first : byte_at (with_bytes m address (bytes_of (suc count) word)) address ≡ word % 256 = byte_stored m address (bytes_of (suc count) word) 0 address (omega arith) (omega arith) in
    ap (λ b. b + 256 * word_at (with_bytes m address (bytes_of (suc count) word)) (address + 1) count) first
    ∙ ap (λ n. word % 256 + 256 * n) (word_stored (with_byte m address (word % 256)) (address + 1) count (word / 256))
    ∙ two_digits word count

-- the last segment lies over those before it
pub segments_last : (bytes : ByteMap) (front : List Segment) (segment : Segment) → with_segments bytes (front ++ segment ∷ []) ≡ with_bytes (with_segments bytes front) (word_of segment.offset) segment.bytes
segments_last bytes [] segment = refl
segments_last bytes (first ∷ front) segment = segments_last (with_bytes bytes (word_of first.offset) first.bytes) front segment
