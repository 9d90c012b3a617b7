-- The digits of the next choice.
use Rattle.std.proofs.Common.{◌≡◌, ◌≢◌, ℕ, zero, suc, ◌+◌, ◌*◌, ◌/◌, ◌%◌, ◌^◌, ◌<◌, Bool, true, false, nat_eq, cond, List, [], ◌++◌, length, refl, sym, ap, ◌∙◌, arith, add-one, append-nil, append_assoc}
use Rattle.std.proofs.lemmas.Bool.{eqb-true, eqb-false}
use Rattle.std.proofs.lemmas.Nat.{mod-pow-add, mod-mul-add}
use Rattle.bf_tape.specs.Tape.{Tape, get, put}
use Rattle.bf_tape.specs.Code.{add_code, move_code}
use Rattle.bf_tape.specs.Piece.{Piece, joined, Adds, any, moved}
use Rattle.bf_tape.specs.Does.{Does}
use Rattle.bf_tape.proofs.Moves.{does_none}
use Rattle.bf_tape.proofs.Turning.{get_put, get_other, put_same}
use Rattle.bf_word.proofs.Words.{put_put}
use Rattle.bf_word.proofs.Chain.{adds_then, adds_as}
use Rattle.bf_lang.specs.declared.command.Command.{Command}
use Rattle.bf_choice.specs.Choice.{number_of, chosen, digits_of, digit_cell, aim_code, advance_code, aimed, AreFree, advanced, DigitsAreANumbers, AimIsTheNextChoice}
use Rattle.bf_choice.proofs.Chosen.{swapped, chosen_get, chosen_put}

digit_few : (k : ℕ) → k % 2 ≢ 1 → k % 2 ≡ 0
digit_few k h = omega arith

many_digits : (d n : ℕ) → length (digits_of d n) ≡ d
many_digits zero n = refl
many_digits (suc d) n = ap suc (many_digits d n)

-- the number of so many digits is what they leave of it
number_left : (d n : ℕ) → number_of (digits_of d n) ≡ n % 2 ^ d
number_left zero n = omega arith
number_left (suc d) n =
    let b : ℕ = n / 2 ^ d % 2 in
    let more : number_of (digits_of d n) ≡ n % 2 ^ d = number_left d n in
    let split : n % 2 ^ (1 + d) ≡ (n / 2 ^ d % 2 ^ 1) * 2 ^ d + n % 2 ^ d = mod-pow-add n 1 d in
    let same : 1 + d ≡ suc d = omega arith in
    ap (λ k. cond (nat_eq b 1) (2 ^ k) 0 + number_of (digits_of d n)) (many_digits d n)
    ∙ (elim (nat_eq b 1) as (λ t. nat_eq b 1 ≡ t → cond t (2 ^ d) 0 + number_of (digits_of d n) ≡ b * 2 ^ d + n % 2 ^ d) [
      | true ↦ λ t. let one : b ≡ 1 = eqb-true b 1 t in omega (arith, more, ap (λ k. k * 2 ^ d) one)
      | false ↦ λ t. let none : b ≡ 0 = digit_few (n / 2 ^ d) (eqb-false b 1 t) in omega (arith, more, ap (λ k. k * 2 ^ d) none)
    ] refl
    ∙ (sym split ∙ ap (λ k. n % 2 ^ k) same))

below_left : (n k : ℕ) → n < k → n % k ≡ n
below_left n k lt = let e : n ≡ 0 * k + n = omega arith in ap (λ x. x % k) e ∙ mod-mul-add 0 k n lt

pub digits_are : DigitsAreANumbers
digits_are = record { many = many_digits; number = λ d n lt. number_left d n ∙ below_left n (2 ^ d) lt }

-- cells beyond the digits
pub aimed_get : (d n : ℕ) (s : Tape) (c : ℕ) → 3 * d < c → get (aimed d n s) c ≡ get s c
aimed_get zero n s c h = refl
aimed_get (suc d) n s c h = get_other (aimed d n s) (3 * d + 3) c (n / 2 ^ d % 2) (omega arith) ∙ aimed_get d n s c (omega arith)

advanced_put : (d : ℕ) (s : Tape) (c v : ℕ) → 3 * d < c → put (advanced d s) c v ≡ advanced d (put s c v)
advanced_put zero s c v h = refl
advanced_put (suc d) s c v h =
    let t : Tape = advanced d s in
    let x : ℕ = (get t (3 * d + 1) + get t (3 * d + 3)) % 2 ^ 8 in
    let y : (k : ℕ) → k ≢ c → get (put t c v) k ≡ get t k = λ k differ. get_other t c k v (λ e. differ (sym e)) in
    swapped (put t (3 * d + 1) x) (3 * d + 3) c 0 v (omega arith)
    ∙ (ap (λ u. put u (3 * d + 3) 0) (swapped t (3 * d + 1) c x v (omega arith))
    ∙ ((λ i. put (put (put t c v) (3 * d + 1) ((sym (y (3 * d + 1) (omega arith)) i + sym (y (3 * d + 3) (omega arith)) i) % 2 ^ 8)) (3 * d + 3) 0)
    ∙ ap (λ u. moved u (3 * d + 3) (3 * d + 1)) (advanced_put d s c v (omega arith))))

bit_is : (k : ℕ) → cond (nat_eq (k % 2) 1) 1 0 ≡ k % 2
bit_is k = elim (nat_eq (k % 2) 1) as (λ t. nat_eq (k % 2) 1 ≡ t → cond t 1 0 ≡ k % 2) [ true ↦ λ t. sym (eqb-true (k % 2) 1 t) | false ↦ λ t. sym (digit_few k (eqb-false (k % 2) 1 t)) ] refl

pub aim_is_next : AimIsTheNextChoice
aim_is_next zero n s free = refl
aim_is_next (suc d) n s free =
    let b : ℕ = n / 2 ^ d % 2 in
    let bs : List Bool = digits_of d n in
    let y : Tape = chosen d bs s in
    let bc : ℕ = 3 * d + 1 in
    let sc : ℕ = 3 * d + 2 in
    let nc : ℕ = 3 * d + 3 in
    let before : advanced d (aimed d n s) ≡ y = aim_is_next d n s (λ c lo hi. free c lo (omega arith)) in
    let at : (c : ℕ) → 3 * d < c → c < 3 * d + 4 → get y c ≡ 0 = λ c lo hi. chosen_get d bs s c lo ∙ free c (omega arith) (omega arith) in
    let x : Tape = put y nc b in
    let sum : (get x bc + get x nc) % 2 ^ 8 ≡ b = omega (arith, get_other y nc bc b (omega arith), at bc (omega arith) (omega arith), get_put y nc b) in
    ap (λ u. moved u nc bc) (sym (advanced_put d (aimed d n s) nc b (omega arith)) ∙ ap (λ u. put u nc b) before)
    ∙ (ap (λ v. put (put x bc v) nc 0) sum
    ∙ (swapped x bc nc b 0 (omega arith)
    ∙ (ap (λ u. put u bc b) (put_put y nc b 0 ∙ put_same y nc 0 (at nc (omega arith) (omega arith)))
    ∙ sym (sym (chosen_put d bs (put s bc (cond (nat_eq b 1) 1 0)) sc 0 (omega arith))
    ∙ (ap (λ u. put u sc 0) (sym (chosen_put d bs s bc (cond (nat_eq b 1) 1 0) (omega arith)))
    ∙ (ap (λ v. put (put y bc v) sc 0) (bit_is (n / 2 ^ d))
    ∙ put_same (put y bc b) sc 0 (get_other y bc sc b (omega arith) ∙ at sc (omega arith) (omega arith))))))))

-- one more digit
pub aim_more : {first now next : Piece} (digits number i v : ℕ) → i < digits → v ≡ number / 2 ^ i % 2 → Adds first now (AreFree digits) (λ input s. aimed i number s) (i * 512) (i * 512)
    → Adds now next any (λ input s. put s (3 * i + 3) ((get s (3 * i + 3) + v) % 2 ^ 8)) 512 512 → Adds first next (AreFree digits) (λ input s. aimed (i + 1) number s) ((i + 1) * 512) ((i + 1) * 512)
aim_more digits number i v lt v_is a b =
    let c : ℕ = 3 * i + 3 in
    adds_as (λ input s. aimed (i + 1) number s) ((i + 1) * 512) ((i + 1) * 512) (adds_then (AreFree digits) a b (λ input s bytes k. (k, tt)))
    (λ input s bytes k.
    let none : get (aimed i number s) c ≡ 0 = aimed_get i number s c (omega arith) ∙ k i lt in
    let e : (get (aimed i number s) c + v) % 2 ^ 8 ≡ number / 2 ^ i % 2 = omega (arith, none, v_is) in
    (k, ap (λ x. put (aimed i number s) c x) e ∙ ap (λ j. aimed j number s) (sym (add-one i)))) (omega arith) (omega arith)

pub advance_more : {first now next : Piece} (i : ℕ) → Adds first now any (λ input s. advanced i s) (i * 2 ^ 18) (i * 1024) → Adds now next any (λ input s. moved s (3 * i + 3) (3 * i + 1)) (2 ^ 18) 1024
    → Adds first next any (λ input s. advanced (i + 1) s) ((i + 1) * 2 ^ 18) ((i + 1) * 1024)
advance_more i a b =
    adds_as (λ input s. advanced (i + 1) s) ((i + 1) * 2 ^ 18) ((i + 1) * 1024) (adds_then any a b (λ input s bytes k. (tt, tt)))
    (λ input s bytes k. (k, ap (λ j. advanced j s) (sym (add-one i)))) (omega arith) (omega arith)

-- commands behind others, and none
joined_twice : (p : Piece) (xs ys : List Command) (c d : ℕ) → joined (joined p xs c) ys d ≡ joined p (xs ++ ys) d
joined_twice p xs ys c d = λ i. record { commands = append_assoc p.commands xs ys i; cell = d }

pub coded_then : {q r : Piece} (p : Piece) (xs : List Command) (c : ℕ) (code : ℕ → List Command) (cell : ℕ → ℕ) → q ≡ joined p xs c → r ≡ joined q (code q.cell) (cell q.cell) → r ≡ joined p (xs ++ code c) (cell c)
coded_then p xs c code cell a b = b ∙ (ap (λ q. joined q (code q.cell) (cell q.cell)) a ∙ joined_twice p xs (code c) c (cell c))

pub joined_none : (p : Piece) → p ≡ joined p [] p.cell
joined_none p = λ i. record { commands = sym (append-nil p.commands) i; cell = p.cell }

pub aim_coded : {now next : Piece} (first : Piece) (number i v : ℕ) → v ≡ number / 2 ^ i % 2 → now ≡ joined first (aim_code first.cell i number) (digit_cell first.cell i) → next ≡ joined now (add_code now.cell (3 * i + 3) v) (3 * i + 3)
    → next ≡ joined first (aim_code first.cell (i + 1) number) (digit_cell first.cell (i + 1))
aim_coded first number i v v_is a b =
    let h : ℕ = first.cell in
    let xs : List Command = aim_code h i number in
    coded_then first xs (digit_cell h i) (λ c. add_code c (3 * i + 3) v) (λ c. 3 * i + 3) a b
    ∙ (ap (λ w. joined first (xs ++ add_code (digit_cell h i) (3 * i + 3) w) (3 * i + 3)) v_is ∙ ap (λ k. joined first (aim_code h k number) (digit_cell h k)) (sym (add-one i)))

pub advance_coded : {now next : Piece} (first : Piece) (i : ℕ) → now ≡ joined first (advance_code first.cell i) (digit_cell first.cell i) → next ≡ joined now (move_code now.cell (3 * i + 3) (3 * i + 1)) (3 * i + 3)
    → next ≡ joined first (advance_code first.cell (i + 1)) (digit_cell first.cell (i + 1))
advance_coded first i a b =
    let h : ℕ = first.cell in
    coded_then first (advance_code h i) (digit_cell h i) (λ c. move_code c (3 * i + 3) (3 * i + 1)) (λ c. 3 * i + 3) a b ∙ ap (λ k. joined first (advance_code h k) (digit_cell h k)) (sym (add-one i))

-- before the first digit
pub none_at_first : (p : Piece) (K : Tape → Type 0) → Adds p p K (λ input s. s) 0 0
none_at_first p K = record { added = []; commands = sym (append-nil p.commands); short = omega arith; balanced = refl; does = λ input s is k. does_none input p.cell s }

pub free_still : (d : ℕ) (s : Tape) (c v : ℕ) → 3 * d < c → AreFree d s → AreFree d (put s c v)
free_still d s c v h free = λ i lt. get_other s c (3 * i + 3) v (omega arith) ∙ free i lt

pub aimed_put : (d n : ℕ) (s : Tape) (c v : ℕ) → 3 * d < c → put (aimed d n s) c v ≡ aimed d n (put s c v)
aimed_put zero n s c v h = refl
aimed_put (suc d) n s c v h = swapped (aimed d n s) (3 * d + 3) c (n / 2 ^ d % 2) v (omega arith) ∙ ap (λ u. put u (3 * d + 3) (n / 2 ^ d % 2)) (aimed_put d n s c v (omega arith))
