-- Marks laid at the trail's end.
use Rattle.std.proofs.Common.{◌≡◌, ◌≢◌, ℕ, zero, suc, ◌+◌, ◌-◌, ◌*◌, ◌^◌, ◌<◌, ◌≤◌, List, [], ◌∷◌, ◌++◌, refl, sym, ap, subst, ◌∙◌, arith}
use Rattle.std.proofs.Math.Nat.{suc-mul, pow-suc, mul-le-mul_left}
use Rattle.bf_lang.specs.declared.command.Command.{Command}
use Rattle.bf_lang.specs.declared.command.Command.TheVariants.{Plus, Minus}
use Rattle.bf_lang.specs.Balance.{IsBalanced}
use Rattle.bf_lang.specs.Cells.{raised, lowered}
use Rattle.bf_lang.proofs.Partners.{balanced_append}
use Rattle.bf_tape.specs.Tape.{Tape, get, put}
use Rattle.bf_tape.specs.Does.{Does, loop, Strides, Turns}
use Rattle.bf_tape.specs.Does.Strides.{Stand, Stride}
use Rattle.bf_tape.specs.Code.{many}
use Rattle.bf_tape.specs.Slots.{holding, AreApart}
use Rattle.bf_tape.proofs.Slotted.{get_held, get_free}
use Rattle.bf_tape.proofs.Moves.{does_plus, does_minus, does_none, does_strides, does_loop, does_within}
use Rattle.bf_tape.proofs.Pieces.{does_rights, does_lefts, counted, minus_at, plus_at}
use Rattle.bf_tape.proofs.Turning.{get_put, get_other}
use Rattle.bf_trail.specs.Trail.{right, left, there, here, laid, IsBlank, Lays, row, pass_body, lay_turn, four, far_code, lay_most, MarksAreLaid}
use Rattle.bf_columns.proofs.Tapes.{zeros, next, between, comes_to, goes_from, put_same, put_is, put_swap}
use Rattle.bf_trail.proofs.Marks.{get_laid_other, get_laid, laid_put, laid_front, laid_more, blank_on}
use Rattle.bf_trail.proofs.Scanned.{scan_right, scan_left}

-- one mark
pub mark : (input : List ℕ) (h : ℕ) (s : Tape) → get s h ≡ 0 → Does input (Plus ∷ []) h s h (put s h 1) 1
mark input h s none = comes_to (put s h 1) (does_plus input h s) (ap (λ v. put s h (raised v)) none)

row_laid : (input : List ℕ) (n h : ℕ) (s : Tape) → IsBlank s h → Does input (row n) h s (h + 8 * n) (laid s h n) (9 * n)
row_laid input zero h s blank = let e : h ≡ h + 8 * 0 = omega arith in between h (h + 8 * 0) (does_none input h s) refl e
row_laid input (suc n) h s blank =
    let e : h + 8 + 8 * n ≡ h + 8 * suc n = omega arith in
    let z : h ≡ h + 4 * 0 = omega arith in
    let y : h + 8 * 0 ≡ h = omega arith in
    let one : put s h 1 ≡ laid s h 1 = ap (λ c. put s c 1) (sym y) in
    let u : Tape = laid s h 1 in
    let b : IsBlank u (h + 8) = subst (λ c. IsBlank u c) (let f : h + 8 * 1 ≡ h + 8 = omega arith in f) (blank_on s h 1 blank) in
    let f : h + 8 * 1 ≡ h + 8 = omega arith in
    let t : laid u (h + 8) n ≡ laid s h (suc n) = (λ i. laid u (sym f i) n) ∙ (laid_more s h 1 n ∙ (let g : 1 + n ≡ suc n = omega arith in ap (λ m. laid s h m) g)) in
    does_within (9 * suc n)
    (between h (h + 8 * suc n)
    (comes_to (laid s h (suc n))
    (next (comes_to u (mark input h s (ap (get s) z ∙ blank.at 0)) one) (next (does_rights input 8 h u) (row_laid input n (h + 8) u b))) t)
    refl e) (omega arith)

balanced_row : (n : ℕ) → IsBalanced (row n)
balanced_row zero = refl
balanced_row (suc n) = balanced_append (Plus ∷ right) (row n) refl (balanced_row n)

pub row_lays : (input : List ℕ) (n : ℕ) → Lays input (row n) n (9 * n)
row_lays input n = record { balanced = balanced_row n; does = λ h s blank. row_laid input n h s blank }

-- one turn of the loop of four: the end e has p + 1 marks laid after it
module _ (input : List ℕ) (s : Tape) (e p : ℕ) (blank : IsBlank s e) where
  abbrev n : ℕ
  n = suc p

  -- the new end, and the counters beside the old one and the new one
  abbrev end : ℕ
  end = e + 8 * n

  abbrev old : ℕ
  old = e + 4

  abbrev new : ℕ
  new = end + 4

  -- all marks but the first
  abbrev t : Tape
  t = laid s (e + 8) p

  abbrev ns : List ℕ
  ns = old ∷ new ∷ []

  apart : AreApart ns
  apart = ((omega arith, tt), (tt, tt))

  -- the counters
  abbrev counters : ℕ → ℕ → Tape
  counters a b = holding t ns (a ∷ b ∷ [])

  blank_at : (c k : ℕ) → e + 4 * k ≡ c → get s c ≡ 0
  blank_at c k is = ap (get s) (sym is) ∙ blank.at k

  t_end : get t end ≡ 0
  t_end = get_laid_other s (e + 8) p end (λ k lt f. absurd (omega arith)) ∙ blank_at end (2 * n) (omega arith)

  t_new : get t new ≡ 0
  t_new = get_laid_other s (e + 8) p new (λ k lt f. absurd (omega arith)) ∙ blank_at new (2 * n + 1) (omega arith)

  t_e : get t e ≡ 0
  t_e = get_laid_other s (e + 8) p e (λ k lt f. absurd (omega arith)) ∙ blank_at e 0 (omega arith)

  t_mark : (k : ℕ) → k < p → get t (e + 8 * suc k) ≡ 1
  t_mark k lt = let f : e + 8 + 8 * k ≡ e + 8 * suc k = omega arith in ap (get t) (sym f) ∙ get_laid s (e + 8) p k lt

  -- the marks stand under the counters
  c_e : (a b : ℕ) → get (counters a b) e ≡ 0
  c_e a b = get_free t e ns (a ∷ b ∷ []) (omega arith, (omega arith, tt)) ∙ t_e

  c_end : (a b : ℕ) → get (counters a b) end ≡ 0
  c_end a b = get_free t end ns (a ∷ b ∷ []) (omega arith, (omega arith, tt)) ∙ t_end

  c_mark : (a b k : ℕ) → k < p → get (counters a b) (e + 8 * suc k) ≡ 1
  c_mark a b k lt = get_free t (e + 8 * suc k) ns (a ∷ b ∷ []) ((λ f. absurd (omega arith)), ((λ f. absurd (omega arith)), tt)) ∙ t_mark k lt

  -- from the old end to the new one, and back
  out : (a b : ℕ) → Does input (right ++ loop right) e (counters a b) end (counters a b) (8 + (9 * p + 1))
  out a b =
      let u : Tape = counters a b in
      let f : e + 8 + 8 * p ≡ end = omega arith in
      let g : (k : ℕ) → e + 8 * suc k ≡ e + 8 + 8 * k = λ k. omega arith in
      between e end (next (does_rights input 8 e u)
      (scan_right input u p (e + 8) (λ k lt z. absurd (omega (arith, c_mark a b k lt, ap (get u) (g k), z))) (ap (get u) f ∙ c_end a b))) refl f

  home_step : (u : Tape) → Does input left end u (e + 8 * p) u 8
  home_step u = let f : e + 8 * p + 8 ≡ end = omega arith in between end (e + 8 * p) (does_lefts input 8 (e + 8 * p) u) f refl

  home_scan : (a b : ℕ) → Does input (loop left) (e + 8 * p) (counters a b) e (counters a b) (9 * p + 1)
  home_scan a b = scan_left input (counters a b) p e (λ k lt z. absurd (omega (arith, c_mark a b k lt, z))) (c_e a b)

  home : (a b : ℕ) → Does input (left ++ loop left) end (counters a b) e (counters a b) (8 + (9 * p + 1))
  home a b = next (home_step (counters a b)) (home_scan a b)

  -- one unit of the counter
  pass : (a b : ℕ) → b < 8 → Does input pass_body old (counters (suc a) b) old (counters a (suc b)) (18 * p + 36)
  pass a b lt =
      let f : raised b ≡ suc b = omega arith in
      let down : Does input (Minus ∷ []) old (counters (suc a) b) old (counters a b) 1 = minus_at input t ns apart (suc a ∷ b ∷ []) 0 (omega arith) refl in
      let up : Does input (Plus ∷ []) new (counters a b) new (counters a (suc b)) 1 = comes_to (counters a (suc b)) (plus_at input t ns apart (a ∷ b ∷ []) 1 (omega arith) refl) (ap (λ v. counters a v) f) in
      let code : (((((((((Minus ∷ []) ++ here) ++ (right ++ loop right)) ++ there) ++ (Plus ∷ [])) ++ here) ++ (left ++ loop left)) ++ there)) ≡ pass_body = refl in
      does_within (18 * p + 36)
      (next (next (next (next (next (next (next down (does_lefts input 4 e (counters a b))) (out a b)) (does_rights input 4 end (counters a b))) up)
      (does_lefts input 4 end (counters a (suc b)))) (home a (suc b))) (does_rights input 4 e (counters a (suc b))))
      (omega arith)

  -- the counter goes to the new end
  passed : (c : ℕ) → c < 4 → Does input (loop pass_body) old (counters c 0) old (counters 0 c) (c * (18 * p + 37) + 1)
  passed c lt =
      let turns : Turns input pass_body old (counters c (c - c)) (counters 0 (c - 0)) (c * (18 * p + 36 + 1)) =
      counted input pass_body old (18 * p + 36) c (λ k. counters k (c - k)) (λ k. get_held t ns (k ∷ (c - k) ∷ []) 0 apart (omega arith) refl)
      (λ k less. let f : suc (c - suc k) ≡ c - k = omega arith in comes_to (counters k (c - k)) (pass k (c - suc k) (omega arith)) (ap (λ v. counters k v) f)) c (omega arith) in
      let f : c - c ≡ 0 = omega arith in
      let g : c - 0 ≡ c = omega arith in
      does_within (c * (18 * p + 37) + 1)
      (comes_to (counters 0 c) (goes_from (counters c 0) (does_loop refl turns) (ap (λ v. counters c v) f)) (ap (λ v. counters 0 v) g)) (omega arith)

  pub turned : (code : List Command) (most c : ℕ) → Lays input code n most → c < 4 → Does input (lay_turn code) old (put s old (suc c)) new (put (laid s e n) new c) (most + (18 * p + 54) + c * (18 * p + 37))
  turned code most c lays lt =
      let s1 : Tape = put s old c in
      let down : Does input (Minus ∷ []) old (put s old (suc c)) old s1 1 =
      comes_to s1 (does_minus input old (put s old (suc c))) (ap (λ v. put (put s old (suc c)) old (lowered v)) (get_put s old (suc c)) ∙ put_same s old (suc c) c) in
      let b1 : IsBlank s1 (e + 8) = record { at = λ k. get_other s old (e + 8 + 4 * k) c (λ f. absurd (omega arith)) ∙ blank_at (e + 8 + 4 * k) (2 + k) (omega arith) } in
      let s2 : Tape = laid s1 (e + 8) n in
      let f1 : e + 8 + 8 * n ≡ end + 8 = omega arith in
      let lay : Does input code (e + 8) s1 (end + 8) s2 most = between (e + 8) (end + 8) (lays.does (e + 8) s1 b1) refl f1 in
      let s3 : Tape = counters c 0 in
      let f2 : e + 8 + 8 * p ≡ end = omega arith in
      let off : get (laid s1 (e + 8) p) end ≡ 0 = get_laid_other s1 (e + 8) p end (λ k less f. absurd (omega arith)) ∙ (get_other s old end c (λ f. absurd (omega arith)) ∙ blank_at end (2 * n) (omega arith)) in
      let s2_is : s2 ≡ put (laid s1 (e + 8) p) end 1 = ap (λ x. put (laid s1 (e + 8) p) x 1) f2 in
      let u : Tape = laid s1 (e + 8) p in
      let s3_is : u ≡ s3 = laid_put s (e + 8) p old c (λ k less f. absurd (omega arith)) ∙ back_to c in
      let taken : put s2 end (lowered (get s2 end)) ≡ s3 =
      ap (λ x. put x end (lowered (get x end))) s2_is ∙ (ap (λ v. put (put u end 1) end (lowered v)) (get_put u end 1)
      ∙ (put_same u end 1 0 ∙ (put_is u end 0 off ∙ s3_is))) in
      let away : Does input (Minus ∷ []) end s2 end s3 1 = comes_to s3 (does_minus input end s2) taken in
      let s4 : Tape = counters 0 c in
      let s5 : Tape = put (laid s e n) new c in
      let last : Does input (Plus ∷ []) e s4 e s5 1 = comes_to s5 (mark input e s4 (c_e 0 c)) (finished c) in
      let f5 : (k : ℕ) → k < p → get s5 (e + 8 + 8 * k) ≡ 1 = λ k less. let g : e + 8 * suc k ≡ e + 8 + 8 * k = omega arith in
      get_other (laid s e n) new (e + 8 + 8 * k) c (λ f. absurd (omega arith)) ∙ (ap (get (laid s e n)) (sym g) ∙ get_laid s e n (suc k) (omega arith)) in
      let f6 : get s5 end ≡ 0 = get_other (laid s e n) new end c (λ f. absurd (omega arith)) ∙ (get_laid_other s e n end (λ k less f. absurd (omega arith)) ∙ blank_at end (2 * n) (omega arith)) in
      let scan : Does input (loop right) (e + 8) s5 end s5 (9 * p + 1) = between (e + 8) end (scan_right input s5 p (e + 8) (λ k less z. absurd (omega (arith, f5 k less, z))) (ap (get s5) f2 ∙ f6)) refl f2 in
      let first = next (next (next (next (next down (does_lefts input 4 e s1)) (does_rights input 8 e s1)) lay) (does_lefts input 8 end s2)) away in
      let second = next (next (next (next first (home_step s3)) (home_scan c 0)) (does_rights input 4 e s3)) (passed c lt) in
      let third = next (next (next (next (next second (does_lefts input 4 e s4)) last) (does_rights input 8 e s5)) scan) (does_rights input 4 end s5) in
      does_within (most + (18 * p + 54) + c * (18 * p + 37)) third (omega arith)
    where
      back_to : (c : ℕ) → put t old c ≡ counters c 0
      back_to c = ap (λ x. put x old c) (sym (put_is t new 0 t_new))

      finished : (c : ℕ) → put (counters 0 c) e 1 ≡ put (laid s e n) new c
      finished c =
          let u : Tape = put t new c in
          let none : get u old ≡ 0 = get_other t new old c (λ f. absurd (omega arith)) ∙ (get_laid_other s (e + 8) p old (λ k less f. absurd (omega arith)) ∙ blank_at old 1 (omega arith)) in
          ap (λ x. put x e 1) (put_is u old 0 none) ∙ (put_swap t new e c 1 (λ f. absurd (omega arith)) ∙ ap (λ x. put x new c) (sym (laid_front s e p)))

pub none_on_zeros : IsBlank zeros 0
none_on_zeros = record { at = λ k. refl }

-- one more in a cell
plus_put : (input : List ℕ) (c v : ℕ) (s : Tape) → v < 255 → Does input (Plus ∷ []) c (put s c v) c (put s c (suc v)) 1
plus_put input c v s lt =
    let e : raised v ≡ suc v = omega arith in
    comes_to (put s c (suc v)) (does_plus input c (put s c v)) (ap (λ w. put (put s c v) c (raised w)) (get_put s c v) ∙ (put_same s c v (raised v) ∙ ap (λ w. put s c w) e))

-- four more in a cell that is 0
pub four_plus : (input : List ℕ) (c : ℕ) (s : Tape) → get s c ≡ 0 → Does input (many 4 Plus) c s c (put s c 4) 4
four_plus input c s none = next (next (next (mark input c s none) (plus_put input c 1 s (omega arith))) (plus_put input c 2 s (omega arith))) (plus_put input c 3 s (omega arith))

module _ (input : List ℕ) (code : List Command) (p most : ℕ) (lays : Lays input code (suc p) most) where
  turns_of_four : (c : ℕ) → c ≤ 4 → (e : ℕ) (s : Tape) → IsBlank s e → Strides input (lay_turn code) (e + 4) (put s (e + 4) c) (e + 8 * (c * suc p) + 4) (laid s e (c * suc p)) (c * (most + 72 * p + 166))
  turns_of_four zero le e s blank =
      let f : e + 4 * 1 ≡ e + 4 = omega arith in
      let g : get s (e + 4) ≡ 0 = ap (get s) (sym f) ∙ blank.at 1 in
      let h : e + 4 ≡ e + 8 * (0 * suc p) + 4 = omega arith in
      let i : 0 ≡ 0 * suc p = omega arith in
      let k : 0 ≡ 0 * (most + 72 * p + 166) = omega arith in
      let stand : Strides input (lay_turn code) (e + 4) s (e + 4) s 0 = Stand (e + 4) s g in
      let from : s ≡ put s (e + 4) 0 = sym (put_is s (e + 4) 0 g) in
      let to : s ≡ laid s e (0 * suc p) = ap (λ m. laid s e m) i in
      subst (λ m. Strides input (lay_turn code) (e + 4) (put s (e + 4) 0) (e + 8 * (0 * suc p) + 4) (laid s e (0 * suc p)) m) k
      (subst (λ c. Strides input (lay_turn code) (e + 4) (put s (e + 4) 0) c (laid s e (0 * suc p)) 0) h
      (subst (λ x. Strides input (lay_turn code) (e + 4) (put s (e + 4) 0) (e + 4) x 0) to
      (subst (λ x. Strides input (lay_turn code) (e + 4) x (e + 4) s 0) from stand)))
  turns_of_four (suc c) le e s blank =
      let n : ℕ = suc p in
      let u : Tape = laid s e n in
      let end : ℕ = e + 8 * n in
      let few : (18 * p + 37) * c ≤ (18 * p + 37) * 3 = mul-le-mul_left (18 * p + 37) (omega arith) in
      let turn : Does input (lay_turn code) (e + 4) (put s (e + 4) (suc c)) (end + 4) (put u (end + 4) c) (most + 72 * p + 165) =
      does_within (most + 72 * p + 165) (turned input s e p blank code most c lays (omega arith)) (omega arith) in
      let rest = turns_of_four c (omega arith) end u (blank_on s e n blank) in
      let on : get (put s (e + 4) (suc c)) (e + 4) ≢ 0 = λ z. absurd (omega (arith, get_put s (e + 4) (suc c))) in
      let f : end + 8 * (c * n) + 4 ≡ e + 8 * (suc c * n) + 4 = omega (arith, suc-mul c n) in
      let g : n + c * n ≡ suc c * n = omega (arith, suc-mul c n) in
      let k : most + 72 * p + 165 + 1 + c * (most + 72 * p + 166) ≡ suc c * (most + 72 * p + 166) = omega (arith, suc-mul c (most + 72 * p + 166)) in
      let to : laid u end (c * n) ≡ laid s e (suc c * n) = laid_more s e n (c * n) ∙ ap (λ m. laid s e m) g in
      subst (λ m. Strides input (lay_turn code) (e + 4) (put s (e + 4) (suc c)) (e + 8 * (suc c * n) + 4) (laid s e (suc c * n)) m) k
      (subst (λ x. Strides input (lay_turn code) (e + 4) (put s (e + 4) (suc c)) x (laid s e (suc c * n)) (most + 72 * p + 165 + 1 + c * (most + 72 * p + 166))) f
      (subst (λ x. Strides input (lay_turn code) (e + 4) (put s (e + 4) (suc c)) (end + 8 * (c * n) + 4) x (most + 72 * p + 165 + 1 + c * (most + 72 * p + 166))) to
      (Stride (e + 4) (end + 4) (end + 8 * (c * n) + 4) (put s (e + 4) (suc c)) (put u (end + 4) c) (laid u end (c * n)) (most + 72 * p + 165) (c * (most + 72 * p + 166)) on turn rest)))

  four_done : (h : ℕ) (s : Tape) → IsBlank s h → Does input (four code) h s (h + 8 * (4 * suc p)) (laid s h (4 * suc p)) (4 * (most + 72 * p + 166) + 13)
  four_done h s blank =
      let f : h + 4 * 1 ≡ h + 4 = omega arith in
      let g : get s (h + 4) ≡ 0 = ap (get s) (sym f) ∙ blank.at 1 in
      let c : ℕ = h + 4 in
      let b : IsBalanced (lay_turn code) = (turned input zeros 0 p none_on_zeros code most 0 lays (omega arith)).balanced in
      does_within (4 * (most + 72 * p + 166) + 13)
      (next (next (next (does_rights input 4 h s) (four_plus input c s g)) (does_strides b (turns_of_four 4 (omega arith) h s blank))) (does_lefts input 4 (h + 8 * (4 * suc p)) (laid s h (4 * suc p)))) (omega arith)

  four_lays : Lays input (four code) (4 * suc p) (4 * (most + 72 * p + 166) + 13)
  four_lays = record { balanced = (four_done 0 zeros none_on_zeros).balanced; does = four_done }

lays_as : {input : List ℕ} {code : List Command} {n most : ℕ} (n' most' : ℕ) → Lays input code n most → n ≡ n' → most ≤ most' → Lays input code n' most'
lays_as {input = input} {code = code} n' most' lays e le = record {
  balanced = lays.balanced;
  does = λ h s blank. subst (λ m. Does input code h s (h + 8 * m) (laid s h m) most') e (does_within most' (lays.does h s blank) le);
}

lays_four : (input : List ℕ) (code : List Command) (n most : ℕ) → 64 ≤ n → Lays input code n most → Lays input (four code) (4 * n) (4 * most + 300 * n)
lays_four input code n most le lays =
    let p : ℕ = n - 1 in
    let e : n ≡ suc p = omega arith in
    let f : 4 * suc p ≡ 4 * n = omega arith in
    lays_as (4 * n) (4 * most + 300 * n) (four_lays input code p most (lays_as (suc p) most lays e (omega arith))) f (omega arith)

-- a power of four
pub pos4 : (k : ℕ) → 0 < 4 ^ k
pos4 zero = omega arith
pos4 (suc k) = omega (arith, pos4 k, pow-suc 4 k)

far_lays : (input : List ℕ) (k : ℕ) → Lays input (far_code k) (64 * 4 ^ k) (64 * 4 ^ k * (75 * k + 9))
unfolding far_code
far_lays input zero = row_lays input 64
far_lays input (suc k) =
    let n : ℕ = 64 * 4 ^ k in
    let le : 64 ≤ n = omega (arith, pos4 k) in
    let e : 4 * n ≡ 64 * 4 ^ suc k = omega (arith, pow-suc 4 k) in
    let f : 4 * (n * (75 * k + 9)) + 300 * n ≡ (4 * n) * (75 * suc k + 9) = omega arith in
    lays_as (64 * 4 ^ suc k) (64 * 4 ^ suc k * (75 * suc k + 9)) (lays_four input (far_code k) n (n * (75 * k + 9)) le (far_lays input k)) e
    (let g : (4 * n) * (75 * suc k + 9) ≡ 64 * 4 ^ suc k * (75 * suc k + 9) = ap (λ x. x * (75 * suc k + 9)) e in omega arith)

pub marks_laid : MarksAreLaid
marks_laid input zero = lays_as 1 9 (row_lays input 1) refl (omega arith)
marks_laid input (suc zero) = lays_as 4 (4 * 84) (row_lays input 4) refl (omega arith)
marks_laid input (suc (suc zero)) = lays_as 16 (16 * 159) (row_lays input 16) refl (omega arith)
marks_laid input (suc (suc (suc k))) =
    let j : ℕ = suc (suc (suc k)) in
    let e : 64 * 4 ^ k ≡ 4 ^ j = omega (arith, pow-suc 4 k, pow-suc 4 (suc k), pow-suc 4 (suc (suc k))) in
    let f : 64 * 4 ^ k * (75 * j + 9) ≡ 4 ^ j * (75 * j + 9) = ap (λ x. x * (75 * j + 9)) e in
    lays_as (4 ^ j) (lay_most j) (far_lays input k) e (omega arith)
