-- Whether a counter is a constant.
use Rattle.std.proofs.Common.{◌≡◌, ◌≢◌, ℕ, ◌+◌, ◌-◌, ◌*◌, ◌/◌, ◌%◌, ◌^◌, ◌<◌, ◌≤◌, inl, inr, Bool, true, false, nat_eq, nat_lt, cond, List, [], ◌∷◌, refl, sym, ap, ◌∙◌, arith}
use Rattle.std.proofs.lemmas.Bool.{eqb-true, eqb-false, lt-ltb, le-ltb}
use Rattle.bf_tape.specs.Tape.{Tape, get, put}
use Rattle.bf_tape.specs.Piece.{Piece, Adds, any, moved}
use Rattle.bf_tape.proofs.Turning.{get_put, get_other, put_same}
use Rattle.bf_word.specs.Word.{low_byte, mid_byte, high_byte, word_in, with_word, lifted_once, lowered_once, bytes_raised, IsCounter, IsBeyond, IsOutside}
use Rattle.bf_word.specs.WordCode.{opposite}
use Rattle.bf_word.proofs.Bytes.{bytes_low, bytes_mid, bytes_high, number_of_bytes}
use Rattle.bf_word.proofs.Words.{put_free, put_put, cell_kept, word_set, set_again, set_same, bytes_of}
use Rattle.bf_word.proofs.Chain.{adds_then, adds_as}
use Rattle.bf_word.proofs.Scratch.{put_word}

-- each byte by itself
raised_word : (s : Tape) (w a b c : ℕ) → ((p : ℕ) → s.cells p < 2 ^ 8)
    → (let x : ℕ = (get s w + a) % 2 ^ 8 in let y : ℕ = (get (put s w x) (w + 1) + b) % 2 ^ 8 in
    put (put (put s w x) (w + 1) y) (w + 2) ((get (put (put s w x) (w + 1) y) (w + 2) + c) % 2 ^ 8) ≡ with_word s w (bytes_raised (word_in s w) a b c))
raised_word s w a b c bytes =
    let x : ℕ = (get s w + a) % 2 ^ 8 in
    let y : ℕ = (get (put s w x) (w + 1) + b) % 2 ^ 8 in
    let v : ℕ = word_in s w in
    let there = bytes_of s w bytes in
    let l : ℕ = (low_byte v + a) % 256 in
    let m : ℕ = (mid_byte v + b) % 256 in
    let h : ℕ = (high_byte v + c) % 256 in
    let ll : l < 2 ^ 8 = omega arith in
    let lm : m < 2 ^ 8 = omega arith in
    let lh : h < 2 ^ 8 = omega arith in
    let low : x ≡ low_byte (bytes_raised v a b c) = ap (λ k. (k + a) % 2 ^ 8) there.low ∙ sym (bytes_low l m h ll lm lh) in
    let mid : y ≡ mid_byte (bytes_raised v a b c) = ap (λ k. (k + b) % 2 ^ 8) (get_other s w (w + 1) x (omega arith) ∙ there.mid) ∙ sym (bytes_mid l m h ll lm lh) in
    let high : (get (put (put s w x) (w + 1) y) (w + 2) + c) % 2 ^ 8 ≡ high_byte (bytes_raised v a b c) =
    ap (λ k. (k + c) % 2 ^ 8) (get_other (put s w x) (w + 1) (w + 2) y (omega arith) ∙ (get_other s w (w + 2) x (omega arith) ∙ there.high)) ∙ sym (bytes_high l m h ll lm lh) in
    λ i. put (put (put s w (low i)) (w + 1) (mid i)) (w + 2) (high i)

pub bytes_adds : {p q r t : Piece} (w a b c : ℕ) → Adds p q any (λ input s. put s w ((get s w + a) % 2 ^ 8)) 512 512 → Adds q r any (λ input s. put s (w + 1) ((get s (w + 1) + b) % 2 ^ 8)) 512 512
    → Adds r t any (λ input s. put s (w + 2) ((get s (w + 2) + c) % 2 ^ 8)) 512 512 → Adds p t any (λ input s. with_word s w (bytes_raised (word_in s w) a b c)) 1536 1536
bytes_adds w a b c x y z =
    adds_as (λ input s. with_word s w (bytes_raised (word_in s w) a b c)) 1536 1536 (adds_then any (adds_then any x y (λ input s bytes k. (tt, tt))) z (λ input s bytes k. (tt, tt)))
    (λ input s bytes k. (tt, raised_word s w a b c bytes)) (omega arith) (omega arith)

-- a byte less by another one
byte_none : (a b : ℕ) → a < 256 → b < 256 → a ≡ b → (a + opposite b) % 256 ≡ 0
byte_none a b la lb e = omega arith

byte_same : (a b : ℕ) → a < 256 → b < 256 → (a + opposite b) % 256 ≡ 0 → a ≡ b
byte_same a b la lb e = omega arith

byte_back : (a b : ℕ) → a < 256 → b < 256 → ((a + opposite b) % 256 + b) % 256 ≡ a
byte_back a b la lb = omega arith

-- a number by the differences of its bytes from another one's
module _ (v n : ℕ) (lv : v < 2 ^ 24) (ln : n < 2 ^ 24) where
  abbrev pub apart_by : ℕ
  apart_by = bytes_raised v (opposite (low_byte n)) (opposite (mid_byte n)) (opposite (high_byte n))

  abbrev l : ℕ
  l = (low_byte v + opposite (low_byte n)) % 256

  abbrev m : ℕ
  m = (mid_byte v + opposite (mid_byte n)) % 256

  abbrev h : ℕ
  h = (high_byte v + opposite (high_byte n)) % 256

  ll : l < 2 ^ 8
  ll = omega arith

  lm : m < 2 ^ 8
  lm = omega arith

  lh : h < 2 ^ 8
  lh = omega arith

  sum_few : (l m h : ℕ) → l < 2 ^ 8 → m < 2 ^ 8 → h < 2 ^ 8 → l + 256 * m + 65536 * h < 2 ^ 24
  sum_few l m h a b c = omega arith

  pub apart_few : apart_by < 2 ^ 24
  apart_few = sum_few l m h ll lm lh

  pub apart_back : bytes_raised apart_by (low_byte n) (mid_byte n) (high_byte n) ≡ v
  apart_back =
      let a : (low_byte apart_by + low_byte n) % 256 ≡ low_byte v = ap (λ k. (k + low_byte n) % 256) (bytes_low l m h ll lm lh) ∙ byte_back (low_byte v) (low_byte n) (omega arith) (omega arith) in
      let b : (mid_byte apart_by + mid_byte n) % 256 ≡ mid_byte v = ap (λ k. (k + mid_byte n) % 256) (bytes_mid l m h ll lm lh) ∙ byte_back (mid_byte v) (mid_byte n) (omega arith) (omega arith) in
      let c : (high_byte apart_by + high_byte n) % 256 ≡ high_byte v = ap (λ k. (k + high_byte n) % 256) (bytes_high l m h ll lm lh) ∙ byte_back (high_byte v) (high_byte n) (omega arith) (omega arith) in
      (λ i. a i + 256 * b i + 65536 * c i) ∙ number_of_bytes v lv

  none_where : v ≡ n → apart_by ≡ 0
  none_where e =
      let a : l ≡ 0 = byte_none (low_byte v) (low_byte n) (omega arith) (omega arith) (ap low_byte e) in
      let b : m ≡ 0 = byte_none (mid_byte v) (mid_byte n) (omega arith) (omega arith) (ap mid_byte e) in
      let c : h ≡ 0 = byte_none (high_byte v) (high_byte n) (omega arith) (omega arith) (ap high_byte e) in
      λ i. a i + 256 * b i + 65536 * c i

  sum_none : (l m h : ℕ) → l + 256 * m + 65536 * h ≡ 0 → (l ≡ 0) × ((m ≡ 0) × (h ≡ 0))
  sum_none l m h e = (omega arith, (omega arith, omega arith))

  same_where_none : apart_by ≡ 0 → v ≡ n
  same_where_none e =
      let z = sum_none l m h e in
      let a : low_byte v ≡ low_byte n = byte_same (low_byte v) (low_byte n) (omega arith) (omega arith) z.0 in
      let b : mid_byte v ≡ mid_byte n = byte_same (mid_byte v) (mid_byte n) (omega arith) (omega arith) z.1.0 in
      let c : high_byte v ≡ high_byte n = byte_same (high_byte v) (high_byte n) (omega arith) (omega arith) z.1.1 in
      sym (number_of_bytes v lv) ∙ ((λ i. a i + 256 * b i + 65536 * c i) ∙ number_of_bytes n ln)

  some : (d : ℕ) → d ≢ 0 → 1 ≤ d
  some d e = omega arith

  pub none_is_same : nat_lt apart_by 1 ≡ nat_eq v n
  none_is_same =
      elim (nat_eq v n) as (λ q. nat_eq v n ≡ q → nat_lt apart_by 1 ≡ q) [
        | true ↦ λ q. let e : apart_by ≡ 0 = none_where (eqb-true v n q) in lt-ltb apart_by 1 (omega (arith, e))
        | false ↦ λ q. let e : v ≢ n = eqb-false v n q in le-ltb apart_by 1 (some apart_by (λ z. e (same_where_none z)))
      ] refl

-- a counter and a flag beside it
module _ (s : Tape) (w flag : ℕ) (beyond : IsBeyond flag w) (zeros : IsCounter w s) (off : get s flag ≡ 0) where
  outside : (flag : ℕ) → IsBeyond flag w → IsOutside flag w
  outside flag (inl h) = inl h
  outside flag (inr h) = inr (omega arith)

  differ : (flag c : ℕ) → IsBeyond flag w → w + 3 ≤ c → c < w + 10 → flag ≢ c
  differ flag c (inl h) lo hi = omega arith
  differ flag c (inr h) lo hi = omega arith

  pub still_counter : (d : ℕ) → IsCounter w (with_word s w d)
  still_counter d = λ c lo hi. cell_kept s w d c (inr lo) ∙ zeros c lo hi

  pub flagged_counter : (d o : ℕ) → IsCounter w (with_word (put s flag o) w d)
  flagged_counter d o = λ c lo hi. cell_kept (put s flag o) w d c (inr lo) ∙ (get_other s flag c o (differ flag c beyond lo hi) ∙ zeros c lo hi)

  pub lowered_there : (d : ℕ) → d < 2 ^ 24 → lowered_once w (with_word s w d) ≡ put (with_word s w ((d + (2 ^ 24 - 1)) % 2 ^ 24)) (w + 9) (cond (nat_lt d 1) 1 0)
  lowered_there d ld =
      (λ i. put (with_word (with_word s w d) w ((word_set s w d ld i + (2 ^ 24 - 1)) % 2 ^ 24)) (w + 9) (cond (nat_lt (word_set s w d ld i) 1) 1 0))
      ∙ ap (λ t. put t (w + 9) (cond (nat_lt d 1) 1 0)) (set_again s w d ((d + (2 ^ 24 - 1)) % 2 ^ 24))

  pub told_there : (d o : ℕ) → o < 2 ^ 8 → moved (put (with_word s w d) (w + 9) o) (w + 9) flag ≡ with_word (put s flag o) w d
  told_there d o lo =
      let t : Tape = with_word s w d in
      let u : Tape = put t (w + 9) o in
      let other : flag ≢ w + 9 = differ flag (w + 9) beyond (omega arith) (omega arith) in
      let a : get u flag ≡ 0 = get_other t (w + 9) flag o (λ e. other (sym e)) ∙ (cell_kept s w d flag (outside flag beyond) ∙ off) in
      let b : get u (w + 9) ≡ o = get_put t (w + 9) o in
      let c : get t (w + 9) ≡ 0 = still_counter d (w + 9) (omega arith) (omega arith) in
      let sum : (get u flag + get u (w + 9)) % 2 ^ 8 ≡ o = omega (arith, a, b) in
      ap (λ x. put (put u flag x) (w + 9) 0) sum
      ∙ (put_free u (w + 9) 0 (flag ∷ []) (o ∷ []) ((λ e. other (sym e)), tt)
      ∙ (ap (λ k. put k flag o) (put_put t (w + 9) o 0 ∙ put_same t (w + 9) 0 c) ∙ put_word s w d flag o (outside flag beyond)))

  pub lifted_there : (d o : ℕ) → d < 2 ^ 24 → lifted_once w (with_word (put s flag o) w ((d + (2 ^ 24 - 1)) % 2 ^ 24)) ≡ with_word (put s flag o) w d
  lifted_there d o ld =
      let k : ℕ = (d + (2 ^ 24 - 1)) % 2 ^ 24 in
      let u : Tape = put s flag o in
      let back : (k + 1) % 2 ^ 24 ≡ d = omega arith in
      ap (λ x. with_word (with_word u w k) w ((x + 1) % 2 ^ 24)) (word_set u w k (omega arith)) ∙ (ap (λ x. with_word (with_word u w k) w x) back ∙ set_again u w k d)

  pub back_there : ((p : ℕ) → s.cells p < 2 ^ 8) → (o : ℕ) → with_word (put s flag o) w (word_in s w) ≡ put s flag o
  back_there bytes o =
      let there = bytes_of s w bytes in
      let first : flag ≢ w = first_differ flag beyond in
      let second : flag ≢ w + 1 = second_differ flag beyond in
      let third : flag ≢ w + 2 = third_differ flag beyond in
      set_same (put s flag o) w (word_in s w) (get_other s flag w o first ∙ there.low) (get_other s flag (w + 1) o second ∙ there.mid) (get_other s flag (w + 2) o third ∙ there.high)
    where
      first_differ : (flag : ℕ) → IsBeyond flag w → flag ≢ w
      first_differ flag (inl h) = omega arith
      first_differ flag (inr h) = omega arith

      second_differ : (flag : ℕ) → IsBeyond flag w → flag ≢ w + 1
      second_differ flag (inl h) = omega arith
      second_differ flag (inr h) = omega arith

      third_differ : (flag : ℕ) → IsBeyond flag w → flag ≢ w + 2
      third_differ flag (inl h) = omega arith
      third_differ flag (inr h) = omega arith

bit_byte : (b : Bool) → cond b 1 0 < 2 ^ 8
bit_byte true = omega arith
bit_byte false = omega arith

module _ (w flag n : ℕ) (beyond : IsBeyond flag w) (ln : n < 2 ^ 24) where
  abbrev ready : Tape → Type 0
  ready s = IsCounter w s × (get s flag ≡ 0)

  abbrev rest : Tape → ℕ
  rest s = bytes_raised (word_in s w) (opposite (low_byte n)) (opposite (mid_byte n)) (opposite (high_byte n))

  abbrev less_one : Tape → ℕ
  less_one s = (rest s + (2 ^ 24 - 1)) % 2 ^ 24

  abbrev none : Tape → ℕ
  none s = cond (nat_lt (rest s) 1) 1 0

  rest_few : (s : Tape) → ((p : ℕ) → s.cells p < 2 ^ 8) → rest s < 2 ^ 24
  rest_few s bytes = apart_few (word_in s w) n (bytes_of s w bytes).below ln

  pub equals_adds : {p0 p1 p2 p3 p4 p5 : Piece} (a b c : ℕ) → a ≡ opposite (low_byte n) → b ≡ opposite (mid_byte n) → c ≡ opposite (high_byte n)
      → (x y z : ℕ) → x ≡ low_byte n → y ≡ mid_byte n → z ≡ high_byte n
      → Adds p0 p1 any (λ input s. with_word s w (bytes_raised (word_in s w) a b c)) 1536 1536
      → Adds p1 p2 (IsCounter w) (λ input s. lowered_once w s) 512 512
      → Adds p2 p3 any (λ input s. moved s (w + 9) flag) (2 ^ 18) 1024
      → Adds p3 p4 (IsCounter w) (λ input s. lifted_once w s) 512 512
      → Adds p4 p5 any (λ input s. with_word s w (bytes_raised (word_in s w) x y z)) 1536 1536
      → Adds p0 p5 ready (λ input s. put s flag (cond (nat_eq (word_in s w) n) 1 0)) (2 ^ 19) (2 ^ 13)
  equals_adds a b c a_is b_is c_is x y z x_is y_is z_is first lower move lift last =
      let less = adds_as (λ input s. with_word s w (rest s)) 1536 1536 first (λ input s bytes k. (tt, λ i. with_word s w (bytes_raised (word_in s w) (a_is i) (b_is i) (c_is i)))) (omega arith) (omega arith) in
      let down = adds_as (λ input s. put (with_word s w (less_one s)) (w + 9) (none s)) 2048 2048 (adds_then ready less lower (λ input s bytes k. (k, still_counter s w flag beyond k.0 k.1 (rest s))))
      (λ input s bytes k. (k, lowered_there s w flag beyond k.0 k.1 (rest s) (rest_few s bytes))) (omega arith) (omega arith) in
      let told = adds_as (λ input s. with_word (put s flag (none s)) w (less_one s)) (2 ^ 18 + 2048) 3072 (adds_then ready down move (λ input s bytes k. (k, tt)))
      (λ input s bytes k. (k, told_there s w flag beyond k.0 k.1 (less_one s) (none s) (bit_byte (nat_lt (rest s) 1)))) (omega arith) (omega arith) in
      let up = adds_as (λ input s. with_word (put s flag (none s)) w (rest s)) (2 ^ 18 + 2560) 3584 (adds_then ready told lift (λ input s bytes k. (k, flagged_counter s w flag beyond k.0 k.1 (less_one s) (none s))))
      (λ input s bytes k. (k, lifted_there s w flag beyond k.0 k.1 (rest s) (none s) (rest_few s bytes))) (omega arith) (omega arith) in
      adds_as (λ input s. put s flag (cond (nat_eq (word_in s w) n) 1 0)) (2 ^ 19) (2 ^ 13) (adds_then ready up last (λ input s bytes k. (k, tt)))
      (λ input s bytes k.
      let u : Tape = put s flag (none s) in
      let v : ℕ = word_in s w in
      let lv : v < 2 ^ 24 = (bytes_of s w bytes).below in (
        k,
        (λ i. with_word (with_word u w (rest s)) w (bytes_raised (word_set u w (rest s) (rest_few s bytes) i) (x_is i) (y_is i) (z_is i)))
            ∙ (ap (λ d. with_word (with_word u w (rest s)) w d) (apart_back v n lv ln)
            ∙ (set_again u w (rest s) v ∙ (back_there s w flag beyond k.0 k.1 bytes (none s) ∙ ap (λ t. put s flag (cond t 1 0)) (none_is_same v n lv ln)))),
      )) (omega arith) (omega arith)
