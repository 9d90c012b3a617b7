-- What single commands, numbers and turns make of the stack.
use Rattle.std.proofs.Common.{◌≡◌, ℕ, zero, suc, ◌+◌, ◌-◌, ◌*◌, ◌/◌, ◌%◌, ◌^◌, ◌<◌, ◌≤◌, Bool, true, false, cond, List, [], ◌∷◌, ◌++◌, length, take, drop, Some, None, pos, negsuc, ℤ, ◌-ℤ◌, refl, sym, ap, subst, ◌∙◌, arith, append_assoc, append-nil}
use Rattle.std.specs.Prelude.{nat_lt, nat_le, nat_eq, int_lt}
use Rattle.std.proofs.Math.Nat.{div-add-mod, pow-succ', mod-eq_of_lt, pow-le-pow_right}
use Rattle.std.proofs.lemmas.Bool.Decides.{nat_tests}
use Rattle.std.proofs.lemmas.Int.{ints}
use Rattle.std.proofs.lemmas.List.{length-append, take_at, drop_at}
use Rattle.mach_core.specs.Rule.{input_at}
use Rattle.mach_core.specs.Integer.{is_zero, is_in_range, floor_quotient, floor_remainder}
use Rattle.piet_lang.specs.Act.{after_act, act_fits, truth, rest_of}
use Rattle.piet_lang.specs.Step.{takes, bytes_of}
use Rattle.piet_lane.specs.declared.command.Command.{Command}
use Rattle.piet_lane.specs.declared.command.Command.TheVariants.{Push, Pop, Add, Subtract, Multiply, Divide, Modulo, Not, Greater, Duplicate, Roll, InChar, OutChar}
use Rattle.piet_lane.specs.Lanes.{act_of_command, acts_of}
use Rattle.piet_lane.specs.Runs.{Values, after_one, after_all, Fit}
use Rattle.piet_stack.specs.Code.{digits_code, number_code, roll_code, swap_code, pick_code, put_code}
use Rattle.piet_stack.specs.Makes.{values_at, Does, Makes}

-- code in a row
pub does_more : (input : List ℕ) (xs ys : List Command) (u v w : Values) → Does input xs u v → Does input ys v w → Does input (xs ++ ys) u w
does_more input [] ys u v w a b = subst (λ (z : Values). Does input ys z w) (sym a.made) b
does_more input (x ∷ xs) ys u v w a b =
    let more = does_more input xs ys (after_one input u (act_of_command x)) v w (record { made = a.made; fits = a.fits.1 }) b in
    record { made = more.made; fits = (a.fits.0, more.fits) }

pub next : {xs ys : List Command} {s t u : List ℤ} → Makes xs s t → Makes ys t u → Makes (xs ++ ys) s u
next {xs = xs} {ys = ys} {s = s} {t = t} {u = u} a b = record { does = λ input taken output. does_more input xs ys (values_at s taken output) (values_at t taken output) (values_at u taken output) (a.does input taken output) (b.does input taken output) }

-- the same with another name of what there is
pub named : {code : List Command} {s t u : List ℤ} → Makes code s t → t ≡ u → Makes code s u
named {code = code} {s = s} a e = subst (λ (z : List ℤ). Makes code s z) e a

pub from_named : {code : List Command} {s t u : List ℤ} → s ≡ u → Makes code s t → Makes code u t
from_named {code = code} {t = t} e a = subst (λ (z : List ℤ). Makes code z t) e a

pub nothing_made : (s : List ℤ) → Makes [] s s
nothing_made s = record { does = λ input taken output. record { made = refl; fits = tt } }

one : (c : Command) (s t : List ℤ) → takes (Some (act_of_command c)) ≡ false → bytes_of (Some (act_of_command c)) s ≡ [] → act_fits (act_of_command c) s ≡ true → after_act (act_of_command c) 1 0 s ≡ t → Makes (c ∷ []) s t
one c s t quiet none fits made = record { does = λ input taken output. record { made = by input taken output; fits = (fits, tt) } }
  where
    by : (input : List ℕ) (taken : ℕ) (output : List ℕ) → after_one input (values_at s taken output) (act_of_command c) ≡ values_at t taken output
    by input taken output =
        ap (λ b. values_at (after_act (act_of_command c) 1 (cond b (input_at input taken) 0) s) (cond b (taken + 1) taken) (output ++ bytes_of (Some (act_of_command c)) s)) quiet
        ∙ (ap (λ (bytes : List ℕ). values_at (after_act (act_of_command c) 1 0 s) taken (output ++ bytes)) none
        ∙ (ap (λ (o : List ℕ). values_at (after_act (act_of_command c) 1 0 s) taken o) (append-nil output)
        ∙ ap (λ (z : List ℤ). values_at z taken output) made))

below : (a b : ℕ) → a < b → nat_lt a b ≡ true
below a b h = grind (arith, nat_tests)

pub push : (s : List ℤ) → Makes (Push ∷ []) s (pos 1 ∷ s)
push s = one Push s (pos 1 ∷ s) refl refl refl refl

pub pop : (v : ℤ) (s : List ℤ) → Makes (Pop ∷ []) (v ∷ s) s
pop v s = one Pop (v ∷ s) s refl refl refl refl

pub duplicate : (v : ℤ) (s : List ℤ) → Makes (Duplicate ∷ []) (v ∷ s) (v ∷ v ∷ s)
duplicate v s = one Duplicate (v ∷ s) (v ∷ v ∷ s) refl refl refl refl

pub add : (a b : ℕ) (s : List ℤ) → a + b < 2 ^ 63 → Makes (Add ∷ []) (pos b ∷ pos a ∷ s) (pos (a + b) ∷ s)
add a b s h = one Add (pos b ∷ pos a ∷ s) (pos (a + b) ∷ s) refl refl (below (a + b) (2 ^ 63) h) refl

less_is : (a b : ℕ) → b ≤ a → pos a -ℤ pos b ≡ pos (a - b)
less_is a b h = omega (arith, ints)

pub subtract : (a b : ℕ) (s : List ℤ) → b ≤ a → a < 2 ^ 63 → Makes (Subtract ∷ []) (pos b ∷ pos a ∷ s) (pos (a - b) ∷ s)
subtract a b s le h =
    one Subtract (pos b ∷ pos a ∷ s) (pos (a - b) ∷ s) refl refl (ap is_in_range (less_is a b le) ∙ below (a - b) (2 ^ 63) (omega arith)) (ap (λ (z : ℤ). z ∷ s) (less_is a b le))

pub multiply : (a b : ℕ) (s : List ℤ) → a * b < 2 ^ 63 → Makes (Multiply ∷ []) (pos b ∷ pos a ∷ s) (pos (a * b) ∷ s)
multiply a b s h = one Multiply (pos b ∷ pos a ∷ s) (pos (a * b) ∷ s) refl refl (below (a * b) (2 ^ 63) h) refl

pub halve : (a : ℕ) (s : List ℤ) → a < 2 ^ 63 → Makes (Divide ∷ []) (pos 2 ∷ pos a ∷ s) (pos (a / 2) ∷ s)
halve a s h = one Divide (pos 2 ∷ pos a ∷ s) (pos (a / 2) ∷ s) refl refl (below (a / 2) (2 ^ 63) (omega arith)) refl

rest_is : (a : ℕ) → floor_remainder (pos a) (pos (2 ^ 24)) ≡ pos (a % 2 ^ 24)
rest_is a = let parts = div-add-mod a (2 ^ 24) in omega (arith, ints, parts)

pub wrap : (a : ℕ) (s : List ℤ) → Makes (Modulo ∷ []) (pos (2 ^ 24) ∷ pos a ∷ s) (pos (a % 2 ^ 24) ∷ s)
wrap a s = one Modulo (pos (2 ^ 24) ∷ pos a ∷ s) (pos (a % 2 ^ 24) ∷ s) refl refl refl (ap (λ (z : ℤ). z ∷ s) (rest_is a))

-- 1 or 0
abbrev pub bit : Bool → ℕ
bit b = cond b 1 0

truth_is : (b : Bool) → truth b ≡ pos (bit b)
truth_is true = refl
truth_is false = refl

pub greater : (a b : ℕ) (s : List ℤ) → Makes (Greater ∷ []) (pos b ∷ pos a ∷ s) (pos (bit (nat_lt b a)) ∷ s)
greater a b s = one Greater (pos b ∷ pos a ∷ s) (pos (bit (nat_lt b a)) ∷ s) refl refl refl (ap (λ (z : ℤ). z ∷ s) (truth_is (nat_lt b a)))

zero_is : (a : ℕ) → truth (is_zero (pos a)) ≡ pos (bit (nat_eq a 0))
zero_is zero = refl
zero_is (suc a) = let t : nat_eq (suc a) 0 ≡ false = grind (arith, nat_tests) in rw t refl

pub negate : (a : ℕ) (s : List ℤ) → Makes (Not ∷ []) (pos a ∷ s) (pos (bit (nat_eq a 0)) ∷ s)
negate a s = one Not (pos a ∷ s) (pos (bit (nat_eq a 0)) ∷ s) refl refl refl (ap (λ (z : ℤ). z ∷ s) (zero_is a))

zero_by : (a b : ℕ) (z : ℤ) → z ≡ pos a -ℤ pos b → truth (is_zero z) ≡ pos (bit (nat_eq a b))
zero_by a b (pos zero) e = let same : a ≡ b = omega (arith, ints) in let t : nat_eq a b ≡ true = grind (arith, nat_tests) in rw t refl
zero_by a b (pos (suc n)) e = let t : nat_eq a b ≡ false = (let other : (a ≡ b → ⊥) = λ h. omega (arith, ints) in grind (arith, nat_tests)) in rw t refl
zero_by a b (negsuc n) e = let t : nat_eq a b ≡ false = (let other : (a ≡ b → ⊥) = λ h. omega (arith, ints) in grind (arith, nat_tests)) in rw t refl

range_by : (a b : ℕ) (z : ℤ) → z ≡ pos a -ℤ pos b → a < 2 ^ 63 → b < 2 ^ 63 → is_in_range z ≡ true
range_by a b (pos n) e h k = below n (2 ^ 63) (omega (arith, ints))
range_by a b (negsuc n) e h k = below n (2 ^ 63) (omega (arith, ints))

-- 1 where two numbers are the same, else 0
pub same : (a b : ℕ) (s : List ℤ) → a < 2 ^ 63 → b < 2 ^ 63 → Makes (Subtract ∷ Not ∷ []) (pos b ∷ pos a ∷ s) (pos (bit (nat_eq a b)) ∷ s)
same a b s h k =
    next (one Subtract (pos b ∷ pos a ∷ s) ((pos a -ℤ pos b) ∷ s) refl refl (range_by a b (pos a -ℤ pos b) refl h k) refl)
    (one Not ((pos a -ℤ pos b) ∷ s) (pos (bit (nat_eq a b)) ∷ s) refl refl refl (ap (λ (z : ℤ). z ∷ s) (zero_by a b (pos a -ℤ pos b) refl)))

-- numbers
digit : (b : Bool) (h : ℕ) (s : List ℤ) → h + h + 1 < 2 ^ 63 → Makes (Duplicate ∷ Add ∷ cond b (Push ∷ Add ∷ []) []) (pos h ∷ s) (pos (h + h + bit b) ∷ s)
digit true h s le = next (duplicate (pos h) s) (next (add h h s (omega arith)) (next (push (pos (h + h) ∷ s)) (add (h + h) 1 s le)))
digit false h s le = named (next (duplicate (pos h) s) (add h h s (omega arith))) (ap (λ n. pos n ∷ s) (let e : h + h ≡ h + h + 0 = omega arith in e))

small_code : (b : Bool) (n : ℕ) (s : List ℤ) → nat_eq n 0 ≡ b → n < 2 → Makes (Push ∷ cond b (Not ∷ []) []) s (pos n ∷ s)
small_code true n s e h = named (next (push s) (negate 1 s)) (ap (λ k. pos k ∷ s) (let z : 0 ≡ n = grind (arith, nat_tests) in z))
small_code false n s e h = named (push s) (ap (λ k. pos k ∷ s) (let z : 1 ≡ n = grind (arith, nat_tests) in z))

last_bit : (n : ℕ) → n / 2 + n / 2 + bit (nat_eq (n % 2) 1) ≡ n
last_bit n = grind (arith, nat_tests)

limit : (k : ℕ) → suc k ≤ 62 → 2 ^ suc k ≤ 2 ^ 62
limit k h = pow-le-pow_right (let z : 0 < 2 = omega arith in z) h

halves : (width n : ℕ) (s : List ℤ) → width ≤ 61 → n < 2 ^ suc width → Makes (digits_code width (n / 2)) s (pos (n / 2) ∷ s) → Makes (digits_code width (n / 2) ++ Duplicate ∷ Add ∷ cond (nat_eq (n % 2) 1) (Push ∷ Add ∷ []) []) s (pos n ∷ s)
halves width n s w h half =
    let small = limit width (let z : suc width ≤ 62 = omega (arith, w) in z) in
    named (next half (digit (nat_eq (n % 2) 1) (n / 2) s (omega (arith, small, h)))) (ap (λ k. pos k ∷ s) (last_bit n))

pub digits : (width n : ℕ) (s : List ℤ) → width ≤ 62 → n < 2 ^ width → Makes (digits_code width n) s (pos n ∷ s)
unfolding digits_code
digits zero n s w h = small_code true n s (let z : nat_eq n 0 ≡ true = grind (arith, nat_tests) in z) (omega arith)
digits (suc width) n s w h =
    let p : 2 ^ suc width ≡ 2 * 2 ^ width = pow-succ' 2 width in
    let half : n / 2 < 2 ^ width = omega arith in
    by (digits width (n / 2) s (omega arith) half) (nat_lt n 2) refl
  where
    by : Makes (digits_code width (n / 2)) s (pos (n / 2) ∷ s) → (b : Bool) → nat_lt n 2 ≡ b → Makes (cond b (Push ∷ cond (nat_eq n 0) (Not ∷ []) []) (digits_code width (n / 2) ++ Duplicate ∷ Add ∷ cond (nat_eq (n % 2) 1) (Push ∷ Add ∷ []) [])) s (pos n ∷ s)
    by half true e = small_code (nat_eq n 0) n s refl (let z : n < 2 = grind (arith, nat_tests) in z)
    by half false e = halves width n s (let z : width ≤ 61 = omega (arith, w) in z) h half

pub number : (n : ℕ) (s : List ℤ) → n < 2 ^ 25 → Makes (number_code n) s (pos n ∷ s)
number n s h = digits 25 n s (omega arith) h

-- turns
turned_test : (b c : Bool) (x y z : List ℤ) → b ≡ true → c ≡ false → cond b (cond c x y) z ≡ y
turned_test b c x y z d e = rw (d, e) refl

pub turn : (n k : ℕ) (xs ys rest : List ℤ) → length xs ≡ k → k + length ys ≡ n → 2 ≤ n → k < n → Makes (Roll ∷ []) (pos k ∷ pos n ∷ (xs ++ (ys ++ rest))) (ys ++ (xs ++ rest))
turn n k xs ys rest a b two some = one Roll (pos k ∷ pos n ∷ all) (ys ++ (xs ++ rest)) refl refl refl whole
  where
    all : List ℤ
    all = xs ++ (ys ++ rest)

    size : length (xs ++ (ys ++ rest)) ≡ n + length rest
    size = let f = length-append xs (ys ++ rest) in let g = length-append ys rest in omega (arith, f, g, a, b)

    both : length (xs ++ ys) ≡ n
    both = let f = length-append xs ys in omega (arith, f, a, b)

    times : rest_of (pos k) n ≡ k
    times = mod-eq_of_lt some

    front : take n (xs ++ (ys ++ rest)) ≡ xs ++ ys
    front = ap (take n) (sym (append_assoc xs ys rest)) ∙ take_at (xs ++ ys) rest n both

    behind : drop n (xs ++ (ys ++ rest)) ≡ rest
    behind = ap (drop n) (sym (append_assoc xs ys rest)) ∙ drop_at (xs ++ ys) rest n both

    first : take k (xs ++ (ys ++ rest)) ≡ xs
    first = take_at xs (ys ++ rest) k a

    second : drop k (xs ++ ys) ≡ ys
    second = drop_at xs ys k a

    rolled : drop (rest_of (pos k) n) (take n (xs ++ (ys ++ rest))) ++ (take (rest_of (pos k) n) (xs ++ (ys ++ rest)) ++ drop n (xs ++ (ys ++ rest))) ≡ ys ++ (xs ++ rest)
    rolled =
        ap (λ j. drop j (take n (xs ++ (ys ++ rest))) ++ (take j (xs ++ (ys ++ rest)) ++ drop n (xs ++ (ys ++ rest)))) times
        ∙ (ap (λ (z : List ℤ). drop k z ++ (take k (xs ++ (ys ++ rest)) ++ drop n (xs ++ (ys ++ rest)))) front
        ∙ (ap (λ (z : List ℤ). z ++ (take k (xs ++ (ys ++ rest)) ++ drop n (xs ++ (ys ++ rest)))) second
        ∙ (ap (λ (z : List ℤ). ys ++ (z ++ drop n (xs ++ (ys ++ rest)))) first
        ∙ ap (λ (z : List ℤ). ys ++ (xs ++ z)) behind)))

    whole : after_act (act_of_command Roll) 1 0 (pos k ∷ pos n ∷ (xs ++ (ys ++ rest))) ≡ ys ++ (xs ++ rest)
    whole =
        let enough : nat_le n (length (xs ++ (ys ++ rest))) ≡ true = (let s = size in grind (arith, nat_tests)) in
        let deep : nat_le n 1 ≡ false = grind (arith, nat_tests) in
        turned_test (nat_le n (length (xs ++ (ys ++ rest)))) (nat_le n 1) (xs ++ (ys ++ rest)) _ _ enough deep ∙ rolled

pub roll : (n k : ℕ) (xs ys rest : List ℤ) → length xs ≡ k → k + length ys ≡ n → 2 ≤ n → k < n → n < 2 ^ 25 → Makes (roll_code n k) (xs ++ (ys ++ rest)) (ys ++ (xs ++ rest))
roll n k xs ys rest a b two some small =
    next (number n (xs ++ (ys ++ rest)) small) (next (number k (pos n ∷ (xs ++ (ys ++ rest))) (omega arith)) (turn n k xs ys rest a b two some))

pub swap : (v w : ℤ) (s : List ℤ) → Makes swap_code (v ∷ w ∷ s) (w ∷ v ∷ s)
swap v w s = roll 2 1 (v ∷ []) (w ∷ []) s refl refl (omega arith) (omega arith) (omega arith)

-- the value under some others, at the depth of their number
pub pick : (depth : ℕ) (xs : List ℤ) (v : ℤ) (rest : List ℤ) → length xs ≡ depth → 1 ≤ depth → depth < 2 ^ 24 → Makes (pick_code depth) (xs ++ v ∷ rest) (v ∷ (xs ++ v ∷ rest))
pick depth xs v rest e some small =
    next (roll (depth + 1) depth xs (v ∷ []) rest e refl (omega arith) (omega arith) (omega arith))
    (next (duplicate v (xs ++ rest)) (roll (depth + 2) 1 (v ∷ []) (v ∷ xs) rest refl (let z : 1 + suc (length xs) ≡ depth + 2 = omega (arith, e) in z) (omega arith) (omega arith) (omega arith)))

-- a value in the place of the one under some others
pub place : (depth : ℕ) (v : ℤ) (xs : List ℤ) (w : ℤ) (rest : List ℤ) → length xs ≡ depth → depth < 2 ^ 24 → Makes (put_code depth) (v ∷ (xs ++ w ∷ rest)) (xs ++ v ∷ rest)
place depth v xs w rest e small =
    next (roll (depth + 2) (depth + 1) (v ∷ xs) (w ∷ []) rest (let z : suc (length xs) ≡ depth + 1 = omega (arith, e) in z) (let z : depth + 1 + 1 ≡ depth + 2 = omega arith in z) (omega arith) (omega arith) (omega arith))
    (next (pop w (v ∷ (xs ++ rest))) (back depth xs e small))
  where
    keeps : (v : ℤ) (s : List ℤ) → Makes (Roll ∷ []) (pos 1 ∷ pos 1 ∷ v ∷ s) (v ∷ s)
    keeps v s =
        let t : nat_le 1 (suc (length s)) ≡ true = grind (arith, nat_tests) in
        one Roll (pos 1 ∷ pos 1 ∷ v ∷ s) (v ∷ s) refl refl refl (ap (λ b. cond b (v ∷ s) (pos 1 ∷ pos 1 ∷ v ∷ s)) t)

    back : (depth : ℕ) (xs : List ℤ) → length xs ≡ depth → depth < 2 ^ 24 → Makes (roll_code (depth + 1) 1) (v ∷ (xs ++ rest)) (xs ++ v ∷ rest)
    back zero [] e small = next (number 1 (v ∷ rest) (omega arith)) (next (number 1 (pos 1 ∷ v ∷ rest) (omega arith)) (keeps v rest))
    back zero (x ∷ xs) e small = absurd (omega arith)
    back (suc d) xs e small = roll (suc d + 1) 1 (v ∷ []) xs rest refl (let z : 1 + length xs ≡ suc d + 1 = omega (arith, e) in z) (omega arith) (omega arith) (omega arith)
