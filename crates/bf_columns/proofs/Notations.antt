-- Noted texts.
use Rattle.std.proofs.Common.{◌≡◌, ℕ, ◌+◌, ◌-◌, ◌<◌, Bool, true, false, nat_eq, nat_lt, cond, List, [], ◌∷◌, ◌++◌, refl, sym, ap, ◌∙◌, arith, ne_eqb, append_assoc}
use Rattle.std.proofs.lemmas.Bool.{eqb-true}
use Rattle.std.proofs.lemmas.Bool.Decides.{nat_tests}
use Rattle.bf_lang.specs.declared.command.Command.TheVariants.{Plus, Minus, Open, Close}
use Rattle.bf_tape.specs.Code.{goto_code}
use Rattle.bf_tape.specs.Slots.{nth}
use Rattle.bf_columns.specs.declared.sweep.Sweep.{Sweep}
use Rattle.bf_columns.specs.declared.sweep.Sweep.TheVariants.{Clear, Copy, ToY, ToX, Sum, LaneSum, Difference, LaneDifference}
use Rattle.bf_columns.specs.declared.sweep.Question.{Question}
use Rattle.bf_columns.specs.declared.sweep.Question.TheVariants.{Equal, Less, More, LaneEqual, LaneLess, LaneMore}
use Rattle.bf_columns.specs.Text.{Text, spelled}
use Rattle.bf_columns.specs.Text.Text.{Done, Go, Up, Down, While}
use Rattle.bf_columns.specs.Noted.{noted, noted_sign, noted_head, notation, sweep_text, question_text}
use Rattle.bf_columns.proofs.Reckoned.{both}

-- the cell at which a text ends
abbrev pub ends : ℕ → Text → ℕ
ends h Done = h
ends h (Go i t) = ends i t
ends h (Up t) = ends h t
ends h (Down t) = ends h t
ends h (While b t) = ends h t

-- cells are named by one figure, and loops end where they begin
abbrev pub closed : ℕ → Text → Bool
closed h Done = true
closed h (Go i t) = cond (nat_lt i 10) (closed i t) false
closed h (Up t) = closed h t
closed h (Down t) = closed h t
closed h (While b t) = cond (closed h b) (cond (nat_eq (ends h b) h) (closed h t) false) false

-- a figure is no sign
figure_sign : (ns : List ℕ) (h i : ℕ) → i < 10 → noted_sign ns h (48 + i) ≡ goto_code (nth ns h) (nth ns i)
figure_sign ns h i lt =
    let e : 48 + i - 48 ≡ i = omega arith in
    (λ j. cond (ne_eqb (48 + i) 43 (λ f. absurd (omega arith)) j) (Plus ∷ []) (cond (ne_eqb (48 + i) 45 (λ f. absurd (omega arith)) j) (Minus ∷ []) (cond (ne_eqb (48 + i) 91 (λ f. absurd (omega arith)) j) (Open ∷ []) (cond (ne_eqb (48 + i) 93 (λ f. absurd (omega arith)) j) (Close ∷ []) (goto_code (nth ns h) (nth ns (e j)))))))

figure_head : (h i : ℕ) → i < 10 → noted_head h (48 + i) ≡ i
figure_head h i lt =
    let e : 48 + i - 48 ≡ i = omega arith in
    (λ j. cond (ne_eqb (48 + i) 43 (λ f. absurd (omega arith)) j) h (cond (ne_eqb (48 + i) 45 (λ f. absurd (omega arith)) j) h (cond (ne_eqb (48 + i) 91 (λ f. absurd (omega arith)) j) h (cond (ne_eqb (48 + i) 93 (λ f. absurd (omega arith)) j) h (e j)))))

pub noted_text : (ns : List ℕ) (h : ℕ) (t : Text) (more : List ℕ) → closed h t ≡ true → noted ns h (notation t ++ more) ≡ spelled ns h t ++ noted ns (ends h t) more
noted_text ns h Done more e = refl
noted_text ns h (Go i t) more e =
    let f = both (nat_lt i 10) (closed i t) e in
    let lt : i < 10 = (let g = f.0 in grind (arith, nat_tests)) in
    (λ j. figure_sign ns h i lt j ++ noted ns (figure_head h i lt j) (notation t ++ more))
    ∙ (ap (λ x. goto_code (nth ns h) (nth ns i) ++ x) (noted_text ns i t more f.1) ∙ sym (append_assoc (goto_code (nth ns h) (nth ns i)) (spelled ns i t) (noted ns (ends i t) more)))
noted_text ns h (Up t) more e = ap (λ x. Plus ∷ x) (noted_text ns h t more e)
noted_text ns h (Down t) more e = ap (λ x. Minus ∷ x) (noted_text ns h t more e)
noted_text ns h (While b t) more e =
    let f = both (closed h b) (cond (nat_eq (ends h b) h) (closed h t) false) e in
    let g = both (nat_eq (ends h b) h) (closed h t) f.1 in
    let B = spelled ns h b in
    let T = spelled ns h t in
    let N = noted ns (ends h t) more in
    ap (λ x. Open ∷ noted ns h x) (append_assoc (notation b) (93 ∷ notation t) more)
    ∙ (ap (λ x. Open ∷ x) (noted_text ns h b (93 ∷ (notation t ++ more)) f.0
    ∙ (ap (λ k. B ++ (Close ∷ noted ns k (notation t ++ more))) (eqb-true (ends h b) h g.0)
    ∙ (ap (λ x. B ++ (Close ∷ x)) (noted_text ns h t more g.1)
    ∙ (sym (append_assoc B (Close ∷ []) (T ++ N)) ∙ sym (append_assoc (B ++ Close ∷ []) T N))))))

-- a whole text
pub noted_whole : (ns : List ℕ) (h : ℕ) (t : Text) → closed h t ≡ true → noted ns h (notation t) ≡ spelled ns h t
noted_whole ns h t e = ap (noted ns h) (sym (append_none (notation t))) ∙ (noted_text ns h t [] e ∙ append_none (spelled ns h t))
  where
    append_none : {A : Type 0} (xs : List A) → xs ++ [] ≡ xs
    append_none [] = refl
    append_none (x ∷ xs) = ap (λ ys. x ∷ ys) (append_none xs)

pub sweeps_closed : (s : Sweep) → closed 6 (sweep_text s) ≡ true
sweeps_closed Clear = refl
sweeps_closed Copy = refl
sweeps_closed ToY = refl
sweeps_closed ToX = refl
sweeps_closed Sum = refl
sweeps_closed LaneSum = refl
sweeps_closed Difference = refl
sweeps_closed LaneDifference = refl

pub questions_closed : (q : Question) → closed 6 (question_text q) ≡ true
questions_closed Equal = refl
questions_closed Less = refl
questions_closed More = refl
questions_closed LaneEqual = refl
questions_closed LaneLess = refl
questions_closed LaneMore = refl
