-- The nest of loops over the digits.
use Rattle.std.proofs.Common.{◌≡◌, ◌≢◌, ℕ, zero, suc, ◌+◌, ◌-◌, ◌*◌, ◌^◌, ◌<◌, ◌≤◌, true, false, nat_eq, nat_lt, cond, List, [], ◌∷◌, ◌++◌, refl, sym, ap, subst, ◌∙◌, arith}
use Rattle.std.proofs.Math.Nat.{suc-mul, pow-suc, mul-le-mul_left}
use Rattle.std.proofs.lemmas.Bool.Decides.{nat_tests}
use Rattle.bf_lang.specs.declared.command.Command.{Command}
use Rattle.bf_lang.specs.declared.command.Command.TheVariants.{Plus, Minus}
use Rattle.bf_lang.specs.Balance.{IsBalanced}
use Rattle.bf_lang.specs.Cells.{lowered}
use Rattle.bf_lang.proofs.Partners.{balanced_append, balanced_loop}
use Rattle.bf_tape.specs.Tape.{Tape, get, put, set_cell}
use Rattle.bf_tape.specs.Does.{Does, loop, Turns}
use Rattle.bf_tape.specs.Does.Turns.{Turn}
use Rattle.bf_tape.specs.Code.{many, goto_code}
use Rattle.bf_tape.proofs.Moves.{does_minus, does_loop, does_within}
use Rattle.bf_tape.proofs.Pieces.{does_goto, counted, balanced_goto}
use Rattle.bf_trail.specs.Nest.{cell, lows_code, level_code, high, spent, lows_most, pass_most, level_most}
use Rattle.bf_columns.specs.Lanes.{number}
use Rattle.bf_columns.proofs.Tapes.{next, comes_to, goes_from}
use Rattle.bf_columns.proofs.Lanes.{set_again, fun_ext, set_at, set_other}
use Rattle.bf_trail.proofs.Laid.{four_plus}

-- the lowest so many are 0
abbrev pub cleared : ℕ → (ℕ → ℕ) → ℕ → ℕ
cleared i x k = cond (nat_lt k i) 0 (x k)

cleared_none : (x : ℕ → ℕ) → cleared 0 x ≡ x
cleared_none x = fun_ext (λ k. let e : nat_lt k 0 ≡ false = grind (arith, nat_tests) in ap (λ t. cond t 0 (x k)) e)

cleared_more : (x : ℕ → ℕ) (i : ℕ) → set_cell (cleared i x) i 0 ≡ cleared (suc i) x
cleared_more x i = fun_ext each
  where
    each : (k : ℕ) → set_cell (cleared i x) i 0 k ≡ cleared (suc i) x k
    each k = grind (arith, nat_tests)

cleared_same : (x : ℕ → ℕ) (i v : ℕ) → x i ≡ v → set_cell (cleared i x) i v ≡ cleared i x
cleared_same x i v is = fun_ext each
  where
    each : (k : ℕ) → set_cell (cleared i x) i v k ≡ cleared i x k
    each k = elim (nat_eq k i) as (λ t. nat_eq k i ≡ t → cond t v (cleared i x k) ≡ cleared i x k) [
      | true ↦ λ e. let at : k ≡ i = grind (arith, nat_tests) in
          let f : nat_lt k i ≡ false = grind (arith, nat_tests) in sym is ∙ (ap x (sym at) ∙ ap (λ t. cond t 0 (x k)) (sym f))
      | false ↦ λ e. refl
    ] refl

-- before each turn of a level's loop but the first
abbrev pub full : ℕ → (ℕ → ℕ) → ℕ → ℕ
full d x k = cond (nat_lt k 5) 0 (cond (nat_lt k (6 + d)) 4 (x k))

-- the digits of a full level
abbrev pub fours : ℕ → ℕ
fours k = cond (nat_lt k 5) 0 (cond (nat_eq k 5) 4 3)

-- what the digits are when a level begins
pub record Ready (d : ℕ) (a x : ℕ → ℕ) : Type 0 where
  pub low : (k : ℕ) → k < 6 → x k ≡ a k
  pub high : (k : ℕ) → 6 ≤ k → k < 6 + d → x k ≡ suc (a k)

full_of_spent : (d : ℕ) (x : ℕ → ℕ) → set_cell (spent d x) (5 + d) 4 ≡ full d x
full_of_spent d x = fun_ext each
  where
    each : (k : ℕ) → set_cell (spent d x) (5 + d) 4 k ≡ full d x k
    each k = grind (arith, nat_tests)

spent_of_full : (d : ℕ) (x : ℕ → ℕ) → set_cell (full d x) (6 + d) 0 ≡ spent (suc d) x
spent_of_full d x = fun_ext each
  where
    each : (k : ℕ) → set_cell (full d x) (6 + d) 0 k ≡ spent (suc d) x k
    each k = grind (arith, nat_tests)

full_again : (d : ℕ) (x : ℕ → ℕ) (v w : ℕ) → full d (set_cell (full d (set_cell x (6 + d) v)) (6 + d) w) ≡ full d (set_cell x (6 + d) w)
full_again d x v w = fun_ext each
  where
    each : (k : ℕ) → full d (set_cell (full d (set_cell x (6 + d) v)) (6 + d) w) k ≡ full d (set_cell x (6 + d) w) k
    each k = grind (arith, nat_tests)

full_at : (d : ℕ) (x : ℕ → ℕ) (v : ℕ) → full d (set_cell x (6 + d) v) ≡ set_cell (full d x) (6 + d) v
full_at d x v = fun_ext each
  where
    each : (k : ℕ) → full d (set_cell x (6 + d) v) k ≡ set_cell (full d x) (6 + d) v k
    each k = grind (arith, nat_tests)

spent_low : (x : ℕ → ℕ) → set_cell (cleared 5 x) 5 0 ≡ spent 0 x
spent_low x = fun_ext each
  where
    each : (k : ℕ) → set_cell (cleared 5 x) 5 0 k ≡ spent 0 x k
    each k = grind (arith, nat_tests)

fours_ready : (d : ℕ) (x : ℕ → ℕ) → Ready d fours (full d x)
fours_ready d x = record { low = λ k lt. grind (arith, nat_tests); high = λ k le lt. grind (arith, nat_tests) }

fours_high : (d : ℕ) → high fours d + 1 ≡ 4 ^ d
fours_high zero = refl
fours_high (suc d) = let three : fours (6 + d) ≡ 3 = grind (arith, nat_tests) in
    let e : fours (6 + d) * 4 ^ d ≡ 3 * 4 ^ d = ap (λ v. v * 4 ^ d) three in omega (arith, fours_high d, pow-suc 4 d)

full_down : (d : ℕ) (x : ℕ → ℕ) (v w : ℕ) → set_cell (full d (set_cell x (6 + d) v)) (6 + d) w ≡ full d (set_cell x (6 + d) w)
full_down d x v w = fun_ext each
  where
    each : (k : ℕ) → set_cell (full d (set_cell x (6 + d) v)) (6 + d) w k ≡ full d (set_cell x (6 + d) w) k
    each k = grind (arith, nat_tests)

full_twice : (d : ℕ) (x : ℕ → ℕ) → full d (full d x) ≡ full d x
full_twice d x = fun_ext each
  where
    each : (k : ℕ) → full d (full d x) k ≡ full d x k
    each k = grind (arith, nat_tests)

full_top : (d : ℕ) (x : ℕ → ℕ) (v : ℕ) → full d (set_cell x (6 + d) v) (6 + d) ≡ v
full_top d x v = grind (arith, nat_tests)

spent_top : (d : ℕ) (x : ℕ → ℕ) → spent d x (5 + d) ≡ 0
spent_top d x = grind (arith, nat_tests)

cleared_at : (x : ℕ → ℕ) (i : ℕ) → cleared i x i ≡ x i
cleared_at x i = grind (arith, nat_tests)

-- the number whose digits a level reads
abbrev pub value : ℕ → (ℕ → ℕ) → ℕ
value d a = number a 6 + 4096 * high a d

module _ (input : List ℕ) (top : ℕ) (at : ℕ → (ℕ → ℕ) → Tape) (trip : ℕ → List Command) (cost : ℕ → ℕ)
    (got : (n : ℕ) (x : ℕ → ℕ) (j : ℕ) → j < 12 → get (at n x) (cell j) ≡ x j)
    (puts : (n : ℕ) (x : ℕ → ℕ) (j v : ℕ) → j < 12 → put (at n x) (cell j) v ≡ at n (set_cell x j v))
    (balanced : (j : ℕ) → IsBalanced (trip j))
    (trips : (j n : ℕ) (x : ℕ → ℕ) → j < 6 → n + 4 ^ j ≤ top → Does input (trip j) (cell j) (at n x) (cell j) (at (n + 4 ^ j) x) (cost j)) where
  -- one less in a digit
  down : (n : ℕ) (x : ℕ → ℕ) (j v : ℕ) → j < 12 → x j ≡ suc v → Does input (Minus ∷ []) (cell j) (at n x) (cell j) (at n (set_cell x j v)) 1
  down n x j v lt is = comes_to (at n (set_cell x j v)) (does_minus input (cell j) (at n x)) (ap (λ w. put (at n x) (cell j) (lowered w)) (got n x j lt ∙ is) ∙ puts n x j v lt)

  -- as many trips as a digit says
  digit_loop : (m i v : ℕ) (y : ℕ → ℕ) → i < 6 → y i ≡ v → set_cell y i v ≡ y → m + v * 4 ^ i ≤ top
      → Does input (loop (Minus ∷ trip i)) (cell i) (at m y) (cell i) (at (m + v * 4 ^ i) (set_cell y i 0)) (v * (cost i + 2) + 1)
  digit_loop m i v y lt is same fits =
      let family : ℕ → Tape = λ k. at (m + (v - k) * 4 ^ i) (set_cell y i k) in
      let each : (k : ℕ) → k < v → Does input (Minus ∷ trip i) (cell i) (family (suc k)) (cell i) (family k) (cost i + 1) = λ k less.
      let p : ℕ = m + (v - suc k) * 4 ^ i in
      let e : v - k ≡ suc (v - suc k) = omega arith in
      let f : p + 4 ^ i ≡ m + (v - k) * 4 ^ i = omega (arith, suc-mul (v - suc k) (4 ^ i), ap (λ w. w * 4 ^ i) e) in
      let le : 4 ^ i * (v - k) ≤ 4 ^ i * v = mul-le-mul_left (4 ^ i) (omega arith) in
      let g : set_cell (set_cell y i (suc k)) i k ≡ set_cell y i k = set_again y i (suc k) k in
      does_within (cost i + 1)
      (comes_to (family k)
      (next (down p (set_cell y i (suc k)) i k (omega arith) (set_at y i (suc k))) (trips i p (set_cell (set_cell y i (suc k)) i k) lt (omega arith)))
      (λ j. at (f j) (g j))) (omega arith) in
      let turns : Turns input (Minus ∷ trip i) (cell i) (family v) (family 0) (v * (cost i + 1 + 1)) =
      counted input (Minus ∷ trip i) (cell i) (cost i + 1) v family (λ k. got (m + (v - k) * 4 ^ i) (set_cell y i k) i (omega arith) ∙ set_at y i k) each v (omega arith) in
      let e : m + (v - v) * 4 ^ i ≡ m = (let z : v - v ≡ 0 = omega arith in omega (arith, ap (λ w. w * 4 ^ i) z)) in
      let f : m + (v - 0) * 4 ^ i ≡ m + v * 4 ^ i = (let z : v - 0 ≡ v = omega arith in omega (arith, ap (λ w. w * 4 ^ i) z)) in
      does_within (v * (cost i + 2) + 1)
      (comes_to (at (m + v * 4 ^ i) (set_cell y i 0))
      (goes_from (at m y) (does_loop (balanced_append (Minus ∷ []) (trip i) refl (balanced i)) turns) (λ j. at (e j) (same j)))
      (λ j. at (f j) (set_cell y i 0))) (omega arith)

  lows_done : (a x : ℕ → ℕ) (i n : ℕ) → i < 6 → ((k : ℕ) → k < 6 → x k ≡ a k) → n + number a i ≤ top
      → Does input (lows_code trip i) (cell 5) (at n x) (cell i) (at (n + number a i) (cleared i x)) (lows_most cost a i)
  lows_done a x zero n lt is fits =
      let e : n ≡ n + 0 = omega arith in
      comes_to (at (n + 0) (cleared 0 x)) (does_goto input (cell 5) (cell 0) (at n x) 50 (omega arith)) (λ j. at (e j) (sym (cleared_none x) j))
  lows_done a x (suc i) n lt is fits =
      let m : ℕ = n + number a i in
      let y : ℕ → ℕ = cleared i x in
      let there : y i ≡ a i = cleared_at x i ∙ is i (omega arith) in
      let e : m + a i * 4 ^ i ≡ n + number a (suc i) = omega arith in
      let last : Tape = at (n + number a (suc i)) (cleared (suc i) x) in
      let loops : Does input (loop (Minus ∷ trip i)) (cell i) (at m y) (cell i) last (a i * (cost i + 2) + 1) =
      comes_to last (digit_loop m i (a i) y (omega arith) there (cleared_same x i (a i) (is i (omega arith))) (omega arith)) (λ j. at (e j) (cleared_more x i j)) in
      does_within (lows_most cost a (suc i))
      (next (next (lows_done a x i n (omega arith) is (omega arith)) loops) (does_goto input (cell i) (cell (suc i)) last 10 (omega arith))) (omega arith)

  balanced_lows : (i : ℕ) → IsBalanced (lows_code trip i)
  balanced_lows zero = balanced_goto (cell 5) (cell 0)
  balanced_lows (suc i) = balanced_append (lows_code trip i ++ loop (Minus ∷ trip i)) (goto_code (cell i) (cell (suc i)))
      (balanced_append (lows_code trip i) (loop (Minus ∷ trip i)) (balanced_lows i) (balanced_loop (Minus ∷ trip i) (balanced_append (Minus ∷ []) (trip i) refl (balanced i))))
      (balanced_goto (cell i) (cell (suc i)))

  abbrev level_body : ℕ → List Command
  level_body d = Minus ∷ goto_code (cell (6 + d)) (cell (5 + d)) ++ level_code trip d ++ many 4 Plus ++ goto_code (cell (5 + d)) (cell (6 + d))

  balanced_body : (d : ℕ) → IsBalanced (level_code trip d) → IsBalanced (level_body d)
  balanced_body d b =
      balanced_append (Minus ∷ goto_code (cell (6 + d)) (cell (5 + d)) ++ level_code trip d ++ many 4 Plus) (goto_code (cell (5 + d)) (cell (6 + d)))
      (balanced_append (Minus ∷ goto_code (cell (6 + d)) (cell (5 + d)) ++ level_code trip d) (many 4 Plus)
      (balanced_append (Minus ∷ goto_code (cell (6 + d)) (cell (5 + d))) (level_code trip d)
      (balanced_append (Minus ∷ []) (goto_code (cell (6 + d)) (cell (5 + d))) refl (balanced_goto (cell (6 + d)) (cell (5 + d)))) b) refl)
      (balanced_goto (cell (5 + d)) (cell (6 + d)))

  pub balanced_level : (d : ℕ) → IsBalanced (level_code trip d)
  balanced_level zero = balanced_append (lows_code trip 5) (loop (Minus ∷ trip 5)) (balanced_lows 5) (balanced_loop (Minus ∷ trip 5) (balanced_append (Minus ∷ []) (trip 5) refl (balanced 5)))
  balanced_level (suc d) = balanced_loop (level_body d) (balanced_body d (balanced_level d))

  -- one turn of a level's loop
  around : (d m m' b most : ℕ) (x y : ℕ → ℕ) → d < 6 → x (6 + d) ≡ suc b → set_cell x (6 + d) b ≡ y → Does input (level_code trip d) (cell (5 + d)) (at m y) (cell (5 + d)) (at m' (spent d y)) most
      → Does input (level_body d) (cell (6 + d)) (at m x) (cell (6 + d)) (at m' (full d y)) (most + 25)
  around d m m' b most x y lt is same level =
      let minus : Does input (Minus ∷ []) (cell (6 + d)) (at m x) (cell (6 + d)) (at m y) 1 = comes_to (at m y) (down m x (6 + d) b (omega arith) is) (ap (at m) same) in
      let u : Tape = at m' (spent d y) in
      let plus : Does input (many 4 Plus) (cell (5 + d)) u (cell (5 + d)) (at m' (full d y)) 4 =
      comes_to (at m' (full d y)) (four_plus input (cell (5 + d)) u (got m' (spent d y) (5 + d) (omega arith) ∙ spent_top d y)) (puts m' (spent d y) (5 + d) 4 (omega arith) ∙ ap (at m') (full_of_spent d y)) in
      does_within (most + 25)
      (next (next (next (next minus (does_goto input (cell (6 + d)) (cell (5 + d)) (at m y) 10 (omega arith))) level) plus)
      (does_goto input (cell (5 + d)) (cell (6 + d)) (at m' (full d y)) 10 (omega arith))) (omega arith)

  level_more : (d b n v l f : ℕ) (x : ℕ → ℕ) → d < 6 → x (6 + d) ≡ suc b → n + v + b * (4096 * 4 ^ d) ≤ top
      → Does input (level_code trip d) (cell (5 + d)) (at n (set_cell x (6 + d) b)) (cell (5 + d)) (at (n + v) (spent d (set_cell x (6 + d) b))) l
      → ((m : ℕ) (y : ℕ → ℕ) → Ready d fours y → m + 4096 * 4 ^ d ≤ top → Does input (level_code trip d) (cell (5 + d)) (at m y) (cell (5 + d)) (at (m + 4096 * 4 ^ d) (spent d y)) f)
      → Does input (level_code trip (suc d)) (cell (6 + d)) (at n x) (cell (6 + d)) (at (n + v + b * (4096 * 4 ^ d)) (spent (suc d) x)) (l + 27 + b * (f + 26))
  level_more d b n v l f x lt is fits first again =
      let q : ℕ = 4096 * 4 ^ d in
      let digits : ℕ → ℕ → ℕ = λ k. full d (set_cell x (6 + d) k) in
      let count : ℕ → ℕ = λ k. n + v + (b - k) * q in
      let family : ℕ → Tape = λ k. at (count k) (digits k) in
      let each : (k : ℕ) → k < b → Does input (level_body d) (cell (6 + d)) (family (suc k)) (cell (6 + d)) (family k) (f + 25) = λ k less.
      let e : b - k ≡ suc (b - suc k) = omega arith in
      let g : count (suc k) + q ≡ count k = omega (arith, suc-mul (b - suc k) q, ap (λ w. w * q) e) in
      let le : q * (b - k) ≤ q * b = mul-le-mul_left q (omega arith) in
      let ready : Ready d fours (digits k) = fours_ready d (set_cell x (6 + d) k) in
      let level : Does input (level_code trip d) (cell (5 + d)) (at (count (suc k)) (digits k)) (cell (5 + d)) (at (count k) (spent d (digits k))) f =
      comes_to (at (count k) (spent d (digits k))) (again (count (suc k)) (digits k) ready (omega arith)) (ap (λ w. at w (spent d (digits k))) g) in
      comes_to (family k) (around d (count (suc k)) (count k) k f (digits (suc k)) (digits k) lt (full_top d x (suc k)) (full_down d x (suc k) k) level)
      (ap (at (count k)) (full_twice d (set_cell x (6 + d) k))) in
      let turns : Turns input (level_body d) (cell (6 + d)) (family b) (family 0) (b * (f + 25 + 1)) =
      counted input (level_body d) (cell (6 + d)) (f + 25) b family (λ k. got (count k) (digits k) (6 + d) (omega arith) ∙ full_top d x k) each b (omega arith) in
      let e : n + v ≡ count b = (let z : b - b ≡ 0 = omega arith in omega (arith, ap (λ w. w * q) z)) in
      let g : count 0 ≡ n + v + b * q = (let z : b - 0 ≡ b = omega arith in omega (arith, ap (λ w. w * q) z)) in
      let turn : Does input (level_body d) (cell (6 + d)) (at n x) (cell (6 + d)) (family b) (l + 25) =
      comes_to (family b) (around d n (n + v) b l x (set_cell x (6 + d) b) lt is refl first) (ap (λ w. at w (digits b)) e) in
      let last : Tape = at (n + v + b * q) (spent (suc d) x) in
      let on : get (at n x) (cell (6 + d)) ≢ 0 = λ z. absurd (omega (arith, got n x (6 + d) (omega arith), is, z)) in
      let all : Turns input (level_body d) (cell (6 + d)) (at n x) (family 0) (l + 25 + 1 + b * (f + 25 + 1)) = Turn (at n x) (family b) (family 0) (l + 25) (b * (f + 25 + 1)) on turn turns in
      let to : family 0 ≡ last = (λ i. at (g i) (full_at d x 0 i)) ∙ ap (at (n + v + b * q)) (spent_of_full d x) in
      does_within (l + 27 + b * (f + 26)) (comes_to last (does_loop (balanced_body d (balanced_level d)) all) to) (omega arith)

  -- with the digits from the sixth on one more than they count
  pub level_done : (d : ℕ) (a x : ℕ → ℕ) (n : ℕ) → d ≤ 6 → Ready d a x → n + value d a ≤ top
      → Does input (level_code trip d) (cell (5 + d)) (at n x) (cell (5 + d)) (at (n + value d a) (spent d x)) (level_most cost a d)
  level_done zero a x n le ready fits =
      let m : ℕ = n + number a 5 in
      let y : ℕ → ℕ = cleared 5 x in
      let e : m + a 5 * 4 ^ 5 ≡ n + value 0 a = omega arith in
      let there : y 5 ≡ a 5 = cleared_at x 5 ∙ ready.low 5 (omega arith) in
      let last : Tape = at (n + value 0 a) (spent 0 x) in
      let loops : Does input (loop (Minus ∷ trip 5)) (cell 5) (at m y) (cell 5) last (a 5 * (cost 5 + 2) + 1) =
      comes_to last (digit_loop m 5 (a 5) y (omega arith) there (cleared_same x 5 (a 5) (ready.low 5 (omega arith))) (omega arith)) (λ j. at (e j) (spent_low x j)) in
      does_within (level_most cost a 0) (next (lows_done a x 5 n (omega arith) ready.low (omega arith)) loops) (omega arith)
  level_done (suc d) a x n le ready fits =
      let b : ℕ = a (6 + d) in
      let q : ℕ = 4096 * 4 ^ d in
      let v : ℕ = value d a in
      let p : ℕ = pass_most cost in
      let x1 : ℕ → ℕ = set_cell x (6 + d) b in
      let ready1 : Ready d a x1 = record {
        low = λ k lt. set_other x (6 + d) b k (λ e. absurd (omega arith)) ∙ ready.low k lt;
        high = λ k low lt. set_other x (6 + d) b k (λ e. absurd (omega arith)) ∙ ready.high k low (omega arith);
      } in
      let total : n + v + b * q ≡ n + value (suc d) a = sum_is n d b (number a 6) (high a d) in
      let fits1 : n + v ≤ top = omega arith in
      let first = level_done d a x1 n (omega arith) ready1 fits1 in
      let full_value : value d fours ≡ q = full_is d (fours_high d) in
      let again : (m : ℕ) (y : ℕ → ℕ) → Ready d fours y → m + q ≤ top → Does input (level_code trip d) (cell (5 + d)) (at m y) (cell (5 + d)) (at (m + q) (spent d y)) (level_most cost fours d) = λ m y r room.
      comes_to (at (m + q) (spent d y)) (level_done d fours y m (omega arith) r (omega arith)) (ap (λ w. at (m + w) (spent d y)) full_value) in
      let is : x (6 + d) ≡ suc b = ready.high (6 + d) (omega arith) (omega arith) in
      let most : level_most cost fours d + 26 ≤ 4 ^ d * p = few_of d (high fours d) (omega arith) (fours_high d) in
      let product : b * (level_most cost fours d + 26) ≤ b * (4 ^ d * p) = mul-le-mul_left b most in
      let here : 6 + d ≡ 5 + suc d = omega arith in
      let done = level_more d b n v (level_most cost a d) (level_most cost fours d) x (omega arith) is (omega arith) first again in
      subst (λ c. Does input (level_code trip (suc d)) (cell c) (at n x) (cell c) (at (n + value (suc d) a) (spent (suc d) x)) (level_most cost a (suc d))) here
      (does_within (level_most cost a (suc d)) (comes_to (at (n + value (suc d) a) (spent (suc d) x)) done (ap (λ w. at w (spent (suc d) x)) total))
      (sum_few d b (lows_most cost a 6) (high a d) p (level_most cost fours d) product))
    where
      sum_is : (n d b v h : ℕ) → n + (v + 4096 * h) + b * (4096 * 4 ^ d) ≡ n + (v + 4096 * (h + b * 4 ^ d))
      sum_is n d b v h = omega arith

      full_is : (d : ℕ) → high fours d + 1 ≡ 4 ^ d → value d fours ≡ 4096 * 4 ^ d
      full_is d e = omega arith

      few_of : (d h : ℕ) → d ≤ 6 → h + 1 ≡ 4 ^ d → lows_most cost fours 6 + 40 * d + h * pass_most cost + 26 ≤ 4 ^ d * pass_most cost
      few_of d h le e = let f : (h + 1) * pass_most cost ≡ 4 ^ d * pass_most cost = ap (λ w. w * pass_most cost) e in omega arith

      sum_few : (d b l h p f : ℕ) → b * (f + 26) ≤ b * (4 ^ d * p) → l + 40 * d + h * p + 27 + b * (f + 26) ≤ l + 40 * suc d + (h + b * 4 ^ d) * p
      sum_few d b l h p f le = omega arith
