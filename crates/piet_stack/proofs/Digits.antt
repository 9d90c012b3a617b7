-- The code of a number, digit by digit.
use Rattle.std.proofs.Common.{◌≡◌, ℕ, zero, suc, ◌+◌, ◌-◌, ◌*◌, ◌/◌, ◌%◌, ◌^◌, ◌<◌, ◌≤◌, true, false, cond, List, [], ◌∷◌, ◌++◌, nat_eq, nat_lt, refl, sym, ap, ◌∙◌, arith, append_assoc}
use Rattle.std.proofs.Math.Nat.{pow-succ'}
use Rattle.std.proofs.lemmas.Bool.Decides.{nat_tests}
use Rattle.piet_lane.specs.declared.command.Command.{Command}
use Rattle.piet_lane.specs.declared.command.Command.TheVariants.{Push, Add, Not, Duplicate}
use Rattle.piet_stack.specs.Code.{digits_code}

abbrev digit_code : ℕ → List Command
digit_code n = Duplicate ∷ Add ∷ cond (nat_eq (n % 2) 1) (Push ∷ Add ∷ []) []

zero_is : (width : ℕ) → digits_code width 0 ≡ Push ∷ Not ∷ []
unfolding digits_code
zero_is zero = refl
zero_is (suc width) = refl

one_is : (width : ℕ) → 1 < 2 ^ width → digits_code width 1 ≡ Push ∷ []
unfolding digits_code
one_is zero h = absurd (omega arith)
one_is (suc width) h = refl

more_is : (width n : ℕ) → n < 2 ^ suc width → 2 ≤ n → digits_code (suc width) n ≡ digits_code width (n / 2) ++ digit_code n
unfolding digits_code
more_is width n h two = let t : nat_lt n 2 ≡ false = grind (arith, nat_tests) in ap (λ b. cond b (Push ∷ cond (nat_eq n 0) (Not ∷ []) []) (digits_code width (n / 2) ++ digit_code n)) t

pub zero_put : (width n : ℕ) (old mid new : List Command) → n ≡ 0 → mid ≡ old ++ Push ∷ [] → new ≡ mid ++ Not ∷ [] → new ≡ old ++ digits_code width n
zero_put width n old mid new e a b = b ∙ (ap (λ (xs : List Command). xs ++ Not ∷ []) a ∙ (append_assoc old (Push ∷ []) (Not ∷ []) ∙ ap (λ (xs : List Command). old ++ xs) (sym (ap (digits_code width) e ∙ zero_is width))))

pub one_put : (width n : ℕ) (old new : List Command) → n < 2 ^ width → n ≡ 1 → new ≡ old ++ Push ∷ [] → new ≡ old ++ digits_code width n
one_put width n old new h e a = a ∙ ap (λ (xs : List Command). old ++ xs) (sym (ap (digits_code width) e ∙ one_is width (let z : 1 < 2 ^ width = omega (arith, h, e) in z)))

pub half_fits : (width n : ℕ) → n < 2 ^ width → 2 ≤ n → (1 ≤ width) × (n / 2 < 2 ^ (width - 1))
half_fits zero n h two = absurd (omega arith)
half_fits (suc width) n h two = let p : 2 ^ suc width ≡ 2 * 2 ^ width = pow-succ' 2 width in let less : suc width - 1 ≡ width = omega arith in (omega arith, rw less (let z : n / 2 < 2 ^ width = omega (arith, p, h) in z))

pub more_put : (width n : ℕ) (old mid new : List Command) → n < 2 ^ width → 2 ≤ n → mid ≡ old ++ digits_code (width - 1) (n / 2) → new ≡ mid ++ digit_code n → new ≡ old ++ digits_code width n
more_put zero n old mid new h two a b = absurd (omega arith)
more_put (suc width) n old mid new h two a b =
    let less : suc width - 1 ≡ width = omega arith in
    b ∙ (ap (λ (xs : List Command). xs ++ digit_code n) (a ∙ ap (λ k. old ++ digits_code k (n / 2)) less)
    ∙ (append_assoc old (digits_code width (n / 2)) (digit_code n) ∙ ap (λ (xs : List Command). old ++ xs) (sym (more_is width n h two))))
