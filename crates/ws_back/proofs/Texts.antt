-- The bytes of numbers and instructions.
use Rattle.std.proofs.Common.{◌≡◌, ℕ, zero, suc, ◌+◌, ◌-◌, ◌*◌, ◌/◌, ◌%◌, ◌^◌, ◌<◌, ◌≤◌, Bool, true, false, cond, nat_eq, List, [], ◌∷◌, ◌++◌, length, map, drop, set, take, append-nil, refl, sym, ap, subst, ◌∙◌, arith, append_assoc, add-one}
use Rattle.std.proofs.lemmas.Bool.Decides.{nat_tests}
use Rattle.std.proofs.lemmas.List.{map-append, drop-set, length-drop, take_at}
use Rattle.std.proofs.Math.Nat.{pow-succ'}
use Rattle.ws_lang.specs.Instruction.{Instruction}
use Rattle.ws_lang.specs.Spelling.{bit_signs, name_of}
use Rattle.ws_back.specs.Code.{digits}
use Rattle.ws_back.specs.Text.{byte_of, parameter_of, instruction_text, text_of}

abbrev pub digit_bytes : ℕ → ℕ → List ℕ
digit_bytes width n = map byte_of (bit_signs (digits width n))

pub no_digits : (width : ℕ) → digits width 0 ≡ []
unfolding digits
no_digits zero = refl
no_digits (suc width) = refl

last_digit : (a n : ℕ) → 0 < n → digits (suc a) n ≡ digits a (n / 2) ++ nat_eq (n % 2) 1 ∷ []
unfolding digits
last_digit a n some =
    let e : nat_eq n 0 ≡ false = grind (arith, nat_tests) in
    ap (λ b. cond b [] (digits a (n / 2) ++ nat_eq (n % 2) 1 ∷ [])) e

one_byte : (b : Bool) → map byte_of (bit_signs (b ∷ [])) ≡ cond b 9 32 ∷ []
one_byte true = refl
one_byte false = refl

-- one more digit, from the last one on
pub more_digits : (buf all : List ℕ) (at n : ℕ) → 0 < n → n < 2 ^ at → at ≤ length buf → digit_bytes at n ++ drop at buf ≡ all
    → (1 ≤ at) × (n / 2 < 2 ^ (at - 1)) × (digit_bytes (at - 1) (n / 2) ++ drop (at - 1) (set buf (at - 1) (cond (nat_eq (n % 2) 1) 9 32)) ≡ all)
more_digits buf all zero n some small fits e = absurd (omega arith)
more_digits buf all (suc a) n some small fits e =
    let p : 2 ^ suc a ≡ 2 * 2 ^ a = pow-succ' 2 a in
    let bit = nat_eq (n % 2) 1 in
    let less : suc a - 1 ≡ a = omega arith in
    let within : a < length buf = omega arith in
    let half : n / 2 < 2 ^ a = omega arith in
    let split : digit_bytes (suc a) n ≡ digit_bytes a (n / 2) ++ cond bit 9 32 ∷ [] =
    ap (λ ds. map byte_of (bit_signs ds)) (last_digit a n some)
    ∙ (ap (map byte_of) (map-append _ (digits a (n / 2)) (bit ∷ [])) ∙ (map-append byte_of (bit_signs (digits a (n / 2))) (bit_signs (bit ∷ [])) ∙ ap (λ (bs : List ℕ). digit_bytes a (n / 2) ++ bs) (one_byte bit))) in
    let whole : digit_bytes a (n / 2) ++ drop a (set buf a (cond bit 9 32)) ≡ all =
    ap (λ (bs : List ℕ). digit_bytes a (n / 2) ++ bs) (drop-set buf a (cond bit 9 32) within ∙ ap (λ j. cond bit 9 32 ∷ drop j buf) (add-one a))
    ∙ (sym (append_assoc (digit_bytes a (n / 2)) (cond bit 9 32 ∷ []) (drop (suc a) buf)) ∙ (ap (λ (bs : List ℕ). bs ++ drop (suc a) buf) (sym split) ∙ e)) in (
      omega arith,
      subst (λ j. n / 2 < 2 ^ j) (sym less) half,
      ap (λ j. digit_bytes j (n / 2) ++ drop j (set buf j (cond bit 9 32))) less ∙ whole,
    )

-- where no digit is left, all of them are there
pub all_digits : (buf all : List ℕ) (at n : ℕ) → length buf ≡ 25 → at ≤ 25 → n ≤ 0 → digit_bytes at n ++ drop at buf ≡ all → take (25 - at) (drop at buf) ≡ all
all_digits buf all at n size fits none e =
    let zero : n ≡ 0 = omega arith in
    let long : length (drop at buf) ≡ 25 - at = omega (arith, length-drop at buf) in
    let whole : drop at buf ≡ all = ap (λ ds. map byte_of (bit_signs ds) ++ drop at buf) (sym (ap (digits at) zero ∙ no_digits at)) ∙ e in
    ap (take (25 - at)) (sym (append-nil (drop at buf))) ∙ (take_at (drop at buf) [] (25 - at) long ∙ whole)

-- a name and what follows it
pub instruction_put : (x : Instruction) (old mid new name : List ℕ) → name ≡ map byte_of (name_of x) → mid ≡ old ++ name → new ≡ mid ++ map byte_of (parameter_of x) → new ≡ old ++ (instruction_text x ++ [])
unfolding instruction_text
instruction_put x old mid new name is first second =
    second
    ∙ (ap (λ (bs : List ℕ). bs ++ map byte_of (parameter_of x)) (first ∙ ap (λ (bs : List ℕ). old ++ bs) is)
    ∙ (append_assoc old (map byte_of (name_of x)) (map byte_of (parameter_of x))
    ∙ ap (λ (bs : List ℕ). old ++ bs) (sym (append-nil (map byte_of (name_of x ++ parameter_of x)) ∙ map-append byte_of (name_of x) (parameter_of x)))))

pub text_of-append : (is js : List Instruction) → text_of (is ++ js) ≡ text_of is ++ text_of js
text_of-append [] js = refl
text_of-append (x ∷ is) js = ap (λ (bytes : List ℕ). instruction_text x ++ bytes) (text_of-append is js) ∙ sym (append_assoc (instruction_text x) (text_of is) (text_of js))

-- what the texts of code in pieces are joined by
pub ruleset texts = (text_of-append, append_assoc, append-nil)
