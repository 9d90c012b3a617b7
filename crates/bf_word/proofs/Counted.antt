-- One less and one more in a byte of a counter, with the borrow and the carry.
use Rattle.std.proofs.Common.{◌≡◌, ◌≢◌, ℕ, ◌<◌, ◌^◌, true, false, nat_eq, nat_lt, cond, List, [], ◌∷◌, ◌++◌, refl, subst, ◌∙◌, arith}
use Rattle.std.proofs.lemmas.Bool.{eqb-true, eqb-false}
use Rattle.bf_lang.specs.declared.command.Command.TheVariants.{Right, Left, Plus}
use Rattle.bf_lang.specs.Cells.{raised, lowered}
use Rattle.bf_tape.specs.Tape.{Tape, get}
use Rattle.bf_tape.specs.Does.{Does}
use Rattle.bf_tape.specs.Slots.{holding, AreApart, nth}
use Rattle.bf_tape.specs.Code.{many}
use Rattle.bf_tape.proofs.Moves.{does_then, does_within}
use Rattle.bf_tape.proofs.Pieces.{does_rights, does_lefts, plus_at}
use Rattle.bf_tape.proofs.Slotted.{put_held, get_held}
use Rattle.bf_word.specs.Word.{low_byte, mid_byte, high_byte}
use Rattle.bf_word.specs.Steps.{next_code, lower_0, lower_1, lower_2, lift_0, lift_1, lift_2}
use Rattle.bf_word.proofs.Digit.{does_next, down, up}
use Rattle.bf_word.proofs.Bytes.{less, more, same_tests, lowered_low, lowered_mid, lowered_high}

abbrev pub names : List ℕ
names = 0 ∷ 1 ∷ 2 ∷ 3 ∷ 4 ∷ 5 ∷ 6 ∷ 7 ∷ 8 ∷ 9 ∷ []

pub apart : AreApart names
apart = ((omega arith, (omega arith, (omega arith, (omega arith, (omega arith, (omega arith, (omega arith, (omega arith, (omega arith, tt))))))))), ((omega arith, (omega arith, (omega arith, (omega arith, (omega arith, (omega arith, (omega arith, (omega arith, tt)))))))), ((omega arith, (omega arith, (omega arith, (omega arith, (omega arith, (omega arith, (omega arith, tt))))))), ((omega arith, (omega arith, (omega arith, (omega arith, (omega arith, (omega arith, tt)))))), ((omega arith, (omega arith, (omega arith, (omega arith, (omega arith, tt))))), ((omega arith, (omega arith, (omega arith, (omega arith, tt)))), ((omega arith, (omega arith, (omega arith, tt))), ((omega arith, (omega arith, tt)), ((omega arith, tt), (tt, tt))))))))))

-- three bytes, six cells that are 0, and how often there was not as much
abbrev pub values : ℕ → ℕ → ℕ → ℕ → List ℕ
values a b c o = a ∷ b ∷ c ∷ 0 ∷ 0 ∷ 0 ∷ 0 ∷ 0 ∷ 0 ∷ o ∷ []

module _ (input : List ℕ) (s : Tape) where
  abbrev pub counter : ℕ → ℕ → ℕ → ℕ → Tape
  counter a b c o = holding s names (values a b c o)

  at_cell : (a b c o i : ℕ) → i < 10 → get (counter a b c o) (nth names i) ≡ nth (values a b c o) i
  at_cell a b c o i lt = get_held s names (values a b c o) i apart lt refl

  borrow : (a b c o : ℕ) → Does input ((many 4 Right ++ (Plus ∷ [])) ++ many 4 Left) 5 (counter a b c o) 5 (counter a b c (raised o)) 9
  borrow a b c o = does_then 9 (does_then 5 (does_rights input 4 5 (counter a b c o)) (plus_at input s names apart (values a b c o) 9 (omega arith) refl) (omega arith)) (does_lefts input 4 5 (counter a b c (raised o))) (omega arith)

  lowered_2 : (a b c o : ℕ) → Does input lower_2 2 (counter a b c o) 2 (counter a b (lowered c) (cond (nat_eq c 0) (raised o) o)) 58
  lowered_2 a b c o =
      down input ℕ 2 (λ x r. counter a b x r) (λ x r. at_cell a b x r 2 (omega arith)) (λ x r. at_cell a b x r 5 (omega arith)) (λ x r. at_cell a b x r 8 (omega arith)) (λ x y r. put_held s names (values a b x r) 2 y apart (omega arith) refl)
      ((many 4 Right ++ (Plus ∷ [])) ++ many 4 Left) 9 c o (raised o) (borrow a b c o)

  -- the highest byte and what was borrowed, after one less in the second byte
  abbrev pub past_1 : ℕ → ℕ → ℕ → ℕ × ℕ
  past_1 b c o = cond (nat_eq b 0) (lowered c, cond (nat_eq c 0) (raised o) o) (c, o)

  lowered_1 : (a b c o : ℕ) → Does input lower_1 1 (counter a b c o) 1 (counter a (lowered b) (past_1 b c o).0 (past_1 b c o).1) 111
  lowered_1 a b c o =
      down input (ℕ × ℕ) 1 (λ x r. counter a x r.0 r.1) (λ x r. at_cell a x r.0 r.1 1 (omega arith)) (λ x r. at_cell a x r.0 r.1 4 (omega arith)) (λ x r. at_cell a x r.0 r.1 7 (omega arith))
      (λ x y r. put_held s names (values a x r.0 r.1) 1 y apart (omega arith) refl)
      (next_code lower_2) 62 b (c, o) (lowered c, cond (nat_eq c 0) (raised o) o) (does_next input lower_2 2 (counter a b c o) (counter a b (lowered c) (cond (nat_eq c 0) (raised o) o)) 58 (lowered_2 a b c o))

  abbrev pub past_0 : ℕ → ℕ → ℕ → ℕ → ℕ × (ℕ × ℕ)
  past_0 a b c o = cond (nat_eq a 0) (lowered b, past_1 b c o) (b, (c, o))

  lowered_0 : (a b c o : ℕ) → Does input lower_0 0 (counter a b c o) 0 (counter (lowered a) (past_0 a b c o).0 (past_0 a b c o).1.0 (past_0 a b c o).1.1) 164
  lowered_0 a b c o =
      down input (ℕ × (ℕ × ℕ)) 0 (λ x r. counter x r.0 r.1.0 r.1.1) (λ x r. at_cell x r.0 r.1.0 r.1.1 0 (omega arith)) (λ x r. at_cell x r.0 r.1.0 r.1.1 3 (omega arith)) (λ x r. at_cell x r.0 r.1.0 r.1.1 6 (omega arith))
      (λ x y r. put_held s names (values x r.0 r.1.0 r.1.1) 0 y apart (omega arith) refl)
      (next_code lower_1) 115 a (b, (c, o)) (lowered b, past_1 b c o) (does_next input lower_1 1 (counter a b c o) (counter a (lowered b) (past_1 b c o).0 (past_1 b c o).1) 111 (lowered_1 a b c o))

  raised_2 : (a b c o : ℕ) → Does input lift_2 2 (counter a b c o) 2 (counter a b (raised c) o) 1
  raised_2 a b c o = plus_at input s names apart (values a b c o) 2 (omega arith) refl

  raised_1 : (a b c o : ℕ) → Does input lift_1 1 (counter a b c o) 1 (counter a (raised b) (cond (nat_eq (raised b) 0) (raised c) c) o) 54
  raised_1 a b c o =
      up input ℕ 1 (λ x r. counter a x r o) (λ x r. at_cell a x r o 1 (omega arith)) (λ x r. at_cell a x r o 4 (omega arith)) (λ x r. at_cell a x r o 7 (omega arith)) (λ x y r. put_held s names (values a x r o) 1 y apart (omega arith) refl)
      (next_code lift_2) 5 b c (raised c) (does_next input lift_2 2 (counter a (raised b) c o) (counter a (raised b) (raised c) o) 1 (raised_2 a (raised b) c o))

  abbrev pub carried_0 : ℕ → ℕ → ℕ → ℕ × ℕ
  carried_0 a b c = cond (nat_eq (raised a) 0) (raised b, cond (nat_eq (raised b) 0) (raised c) c) (b, c)

  raised_0 : (a b c o : ℕ) → Does input lift_0 0 (counter a b c o) 0 (counter (raised a) (carried_0 a b c).0 (carried_0 a b c).1 o) 107
  raised_0 a b c o =
      up input (ℕ × ℕ) 0 (λ x r. counter x r.0 r.1 o) (λ x r. at_cell x r.0 r.1 o 0 (omega arith)) (λ x r. at_cell x r.0 r.1 o 3 (omega arith)) (λ x r. at_cell x r.0 r.1 o 6 (omega arith))
      (λ x y r. put_held s names (values x r.0 r.1 o) 0 y apart (omega arith) refl)
      (next_code lift_1) 58 a (b, c) (raised b, cond (nat_eq (raised b) 0) (raised c) c) (does_next input lift_1 1 (counter (raised a) b c o) (counter (raised a) (raised b) (cond (nat_eq (raised b) 0) (raised c) c) o) 54 (raised_1 (raised a) b c o))

  -- a counter that holds a number
  abbrev pub number : ℕ → ℕ → Tape
  number d o = counter (low_byte d) (mid_byte d) (high_byte d) o

  pub less_2 : (d o : ℕ) → d < 2 ^ 24 → Does input lower_2 2 (number d o) 2 (number (less 65536 d) (cond (nat_lt d 65536) (raised o) o)) 200
  less_2 d o ld =
      let l : low_byte d ≡ low_byte (less 65536 d) = omega arith in
      let m : mid_byte d ≡ mid_byte (less 65536 d) = omega arith in
      let h : lowered (high_byte d) ≡ high_byte (less 65536 d) = lowered_high d ld in
      let t : nat_eq (high_byte d) 0 ≡ nat_lt d 65536 = same_tests (high_byte d) d 65536 (λ e. omega arith) (λ e. omega arith) in
      does_within 200 (subst (λ u. Does input lower_2 2 (number d o) 2 u 58) (λ i. counter (l i) (m i) (h i) (cond (t i) (raised o) o)) (lowered_2 (low_byte d) (mid_byte d) (high_byte d) o)) (omega arith)

  pub less_1 : (d o : ℕ) → d < 2 ^ 24 → Does input lower_1 1 (number d o) 1 (number (less 256 d) (cond (nat_lt d 256) (raised o) o)) 200
  less_1 d o ld =
      let b : ℕ = mid_byte d in
      let c : ℕ = high_byte d in
      let l : low_byte d ≡ low_byte (less 256 d) = omega arith in
      let m : lowered b ≡ mid_byte (less 256 d) = lowered_mid d ld in
      does_within 200 (subst (λ u. Does input lower_1 1 (number d o) 1 u 111)
      (elim (nat_eq b 0) as (λ q. nat_eq b 0 ≡ q → let r : ℕ × ℕ = cond q (lowered c, cond (nat_eq c 0) (raised o) o) (c, o) in counter (low_byte d) (lowered b) r.0 r.1 ≡ number (less 256 d) (cond (nat_lt d 256) (raised o) o)) [
        | true ↦ λ q.
            let off : b ≡ 0 = eqb-true b 0 q in
            let h : lowered c ≡ high_byte (less 256 d) = lowered_high d ld ∙ omega arith in
            let t : nat_eq c 0 ≡ nat_lt d 256 = same_tests c d 256 (λ e. omega arith) (λ e. omega arith) in
            λ i. counter (l i) (m i) (h i) (cond (t i) (raised o) o)
        | false ↦ λ q.
            let on : b ≢ 0 = eqb-false b 0 q in
            let h : c ≡ high_byte (less 256 d) = omega arith in
            let t : false ≡ nat_lt d 256 = grind arith in
            λ i. counter (l i) (m i) (h i) (cond (t i) (raised o) o)
      ] refl)
      (lowered_1 (low_byte d) b c o)) (omega arith)

  pub less_0 : (d o : ℕ) → d < 2 ^ 24 → Does input lower_0 0 (number d o) 0 (number (less 1 d) (cond (nat_lt d 1) (raised o) o)) 200
  less_0 d o ld =
      let a : ℕ = low_byte d in
      let b : ℕ = mid_byte d in
      let c : ℕ = high_byte d in
      let l : lowered a ≡ low_byte (less 1 d) = lowered_low d ld in
      does_within 200 (subst (λ u. Does input lower_0 0 (number d o) 0 u 164)
      (elim (nat_eq a 0) as (λ q. nat_eq a 0 ≡ q → let r : ℕ × (ℕ × ℕ) = cond q (lowered b, past_1 b c o) (b, (c, o)) in counter (lowered a) r.0 r.1.0 r.1.1 ≡ number (less 1 d) (cond (nat_lt d 1) (raised o) o)) [
        | true ↦ λ q.
            let off : a ≡ 0 = eqb-true a 0 q in
            let m : lowered b ≡ mid_byte (less 1 d) = lowered_mid d ld ∙ omega arith in
            elim (nat_eq b 0) as (λ q. nat_eq b 0 ≡ q → let r : ℕ × ℕ = cond q (lowered c, cond (nat_eq c 0) (raised o) o) (c, o) in counter (lowered a) (lowered b) r.0 r.1 ≡ number (less 1 d) (cond (nat_lt d 1) (raised o) o)) [
              | true ↦ λ r.
                  let none : b ≡ 0 = eqb-true b 0 r in
                  let h : lowered c ≡ high_byte (less 1 d) = lowered_high d ld ∙ omega arith in
                  let t : nat_eq c 0 ≡ nat_lt d 1 = same_tests c d 1 (λ e. omega arith) (λ e. omega arith) in
                  λ i. counter (l i) (m i) (h i) (cond (t i) (raised o) o)
              | false ↦ λ r.
                  let on : b ≢ 0 = eqb-false b 0 r in
                  let h : c ≡ high_byte (less 1 d) = omega arith in
                  let t : false ≡ nat_lt d 1 = grind arith in
                  λ i. counter (l i) (m i) (h i) (cond (t i) (raised o) o)
            ] refl
        | false ↦ λ q.
            let on : a ≢ 0 = eqb-false a 0 q in
            let m : b ≡ mid_byte (less 1 d) = omega arith in
            let h : c ≡ high_byte (less 1 d) = omega arith in
            let t : false ≡ nat_lt d 1 = grind arith in
            λ i. counter (l i) (m i) (h i) (cond (t i) (raised o) o)
      ] refl)
      (lowered_0 a b c o)) (omega arith)

  pub more_2 : (d o : ℕ) → Does input lift_2 2 (number d o) 2 (number (more 65536 d) o) 200
  more_2 d o =
      let l : low_byte d ≡ low_byte (more 65536 d) = omega arith in
      let m : mid_byte d ≡ mid_byte (more 65536 d) = omega arith in
      let h : raised (high_byte d) ≡ high_byte (more 65536 d) = omega arith in
      does_within 200 (subst (λ u. Does input lift_2 2 (number d o) 2 u 1) (λ i. counter (l i) (m i) (h i) o) (raised_2 (low_byte d) (mid_byte d) (high_byte d) o)) (omega arith)

  pub more_1 : (d o : ℕ) → Does input lift_1 1 (number d o) 1 (number (more 256 d) o) 200
  more_1 d o =
      let b : ℕ = mid_byte d in
      let c : ℕ = high_byte d in
      let l : low_byte d ≡ low_byte (more 256 d) = omega arith in
      let m : raised b ≡ mid_byte (more 256 d) = omega arith in
      does_within 200 (subst (λ u. Does input lift_1 1 (number d o) 1 u 54)
      (elim (nat_eq (raised b) 0) as (λ q. nat_eq (raised b) 0 ≡ q → counter (low_byte d) (raised b) (cond q (raised c) c) o ≡ number (more 256 d) o) [
        | true ↦ λ q. let off : raised b ≡ 0 = eqb-true (raised b) 0 q in let h : raised c ≡ high_byte (more 256 d) = omega arith in λ i. counter (l i) (m i) (h i) o
        | false ↦ λ q. let on : raised b ≢ 0 = eqb-false (raised b) 0 q in let h : c ≡ high_byte (more 256 d) = omega arith in λ i. counter (l i) (m i) (h i) o
      ] refl)
      (raised_1 (low_byte d) b c o)) (omega arith)

  pub more_0 : (d o : ℕ) → Does input lift_0 0 (number d o) 0 (number (more 1 d) o) 200
  more_0 d o =
      let a : ℕ = low_byte d in
      let b : ℕ = mid_byte d in
      let c : ℕ = high_byte d in
      let l : raised a ≡ low_byte (more 1 d) = omega arith in
      does_within 200 (subst (λ u. Does input lift_0 0 (number d o) 0 u 107)
      (elim (nat_eq (raised a) 0) as (λ q. nat_eq (raised a) 0 ≡ q → let r : ℕ × ℕ = cond q (raised b, cond (nat_eq (raised b) 0) (raised c) c) (b, c) in counter (raised a) r.0 r.1 o ≡ number (more 1 d) o) [
        | true ↦ λ q.
            let off : raised a ≡ 0 = eqb-true (raised a) 0 q in
            let m : raised b ≡ mid_byte (more 1 d) = omega arith in
            elim (nat_eq (raised b) 0) as (λ q. nat_eq (raised b) 0 ≡ q → counter (raised a) (raised b) (cond q (raised c) c) o ≡ number (more 1 d) o) [
              | true ↦ λ r. let none : raised b ≡ 0 = eqb-true (raised b) 0 r in let h : raised c ≡ high_byte (more 1 d) = omega arith in λ i. counter (l i) (m i) (h i) o
              | false ↦ λ r. let on : raised b ≢ 0 = eqb-false (raised b) 0 r in let h : c ≡ high_byte (more 1 d) = omega arith in λ i. counter (l i) (m i) (h i) o
            ] refl
        | false ↦ λ q.
            let on : raised a ≢ 0 = eqb-false (raised a) 0 q in
            let m : b ≡ mid_byte (more 1 d) = omega arith in
            let h : c ≡ high_byte (more 1 d) = omega arith in
            λ i. counter (l i) (m i) (h i) o
      ] refl)
      (raised_0 a b c o)) (omega arith)
