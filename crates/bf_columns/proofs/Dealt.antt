-- A byte split by four, and dealt to digits.
use Rattle.std.proofs.Common.{◌≡◌, ◌≢◌, ℕ, zero, suc, ◌+◌, ◌-◌, ◌*◌, ◌/◌, ◌%◌, ◌<◌, ◌≤◌, true, false, nat_eq, cond, List, [], ◌∷◌, ◌++◌, refl, sym, ap, subst, ◌∙◌, arith}
use Rattle.std.proofs.lemmas.Bool.{eqb-true}
use Rattle.std.proofs.Math.Nat.{suc-mul, mul-le-mul_left}
use Rattle.bf_lang.specs.declared.command.Command.{Command}
use Rattle.bf_lang.specs.declared.command.Command.TheVariants.{Right, Left, Plus, Minus}
use Rattle.bf_lang.specs.Balance.{IsBalanced}
use Rattle.bf_lang.specs.Cells.{raised}
use Rattle.bf_lang.proofs.Partners.{balanced_append, balanced_loop}
use Rattle.bf_tape.specs.Tape.{Tape, get, put, set_cell}
use Rattle.bf_tape.specs.Does.{Does, loop, Strides}
use Rattle.bf_tape.specs.Does.Strides.{Stand, Stride}
use Rattle.bf_tape.specs.Code.{many}
use Rattle.bf_tape.specs.Slots.{holding, AreApart}
use Rattle.bf_tape.proofs.Slotted.{get_held, get_free, held}
use Rattle.bf_tape.proofs.Moves.{does_loop, does_strides, does_within}
use Rattle.bf_tape.proofs.Pieces.{does_rights, does_lefts, counted, minus_at, plus_at, balanced_many}
use Rattle.bf_columns.specs.Deal.{split_level, split_last, split_turn, split_code, over, IsRow, split_most, SplitDividesByFour, quarter_code, part_code, deal_code, row_of, Gives, dealt, BytesAreDealt}
use Rattle.bf_columns.proofs.Lanes.{fun_ext}
use Rattle.bf_columns.proofs.Tapes.{next, between, comes_to, goes_from}

module _ (input : List ℕ) (s : Tape) (g by : ℕ) (some : 1 ≤ by) where
  abbrev x : ℕ
  x = g + by

  abbrev rest : ℕ
  rest = g + 2 * by

  abbrev quarter : ℕ
  quarter = g + 4 * by

  abbrev ns : List ℕ
  ns = x ∷ rest ∷ quarter ∷ []

  apart : AreApart ns
  apart = ((omega arith, (omega arith, tt)), ((omega arith, tt), (tt, tt)))

  abbrev three : ℕ → ℕ → ℕ → Tape
  three v y w = holding s ns (v ∷ y ∷ w ∷ [])

  x_is : (v y w : ℕ) → get (three v y w) x ≡ v
  x_is v y w = get_held s ns (v ∷ y ∷ w ∷ []) 0 apart (omega arith) refl

  rest_is : (v y w : ℕ) → get (three v y w) rest ≡ y
  rest_is v y w = get_held s ns (v ∷ y ∷ w ∷ []) 1 apart (omega arith) refl

  to_rest : (t : Tape) → Does input (many by Right) x t rest t by
  to_rest t = let e : x + by ≡ rest = omega arith in between x rest (does_rights input by x t) refl e

  to_x : (t : Tape) → Does input (many by Left) rest t x t by
  to_x t = let e : x + by ≡ rest = omega arith in between rest x (does_lefts input by x t) e refl

  -- where four units are there, one quarter more: the head ends at what is over, which is 0
  abbrev Full : List Command → ℕ → ℕ → Type 0
  Full code y most = (v w : ℕ) → 4 ≤ suc v + y → suc v < 256 → w < 255 → Does input code x (three (suc v) y w) rest (three (suc v + y - 4) 0 (suc w)) most

  -- where there are fewer, all go to what is over, and the head ends at the byte, which is 0
  abbrev Part : List Command → ℕ → ℕ → Type 0
  Part code y most = (v w : ℕ) → suc v + y < 4 → Does input code x (three (suc v) y w) x (three 0 (suc v + y) w) most

  down : (v y w : ℕ) → Does input (Minus ∷ []) x (three (suc v) y w) x (three v y w) 1
  down v y w = minus_at input s ns apart (suc v ∷ y ∷ w ∷ []) 0 (omega arith) refl

  -- a unit goes to what is over
  stepped : (v y w : ℕ) → y < 4 → Does input (Minus ∷ many by Right ++ (Plus ∷ []) ++ many by Left) x (three (suc v) y w) x (three v (suc y) w) (2 * by + 2)
  stepped v y w lt =
      let e : raised y ≡ suc y = omega arith in
      let plus : Does input (Plus ∷ []) rest (three v y w) rest (three v (suc y) w) 1 = comes_to (three v (suc y) w) (plus_at input s ns apart (v ∷ y ∷ w ∷ []) 1 (omega arith) refl) (ap (λ k. three v k w) e) in
      does_within (2 * by + 2) (next (next (next (down v y w) (to_rest (three v y w))) plus) (to_x (three v (suc y) w))) (omega arith)

  full_more : (inner : List Command) (y most : ℕ) → y < 3 → IsBalanced inner → Full inner (suc y) most → Full (split_level by inner) y (2 * by + 4 + most)
  full_more inner y most lt b full zero w four few lw = absurd (omega arith)
  full_more inner y most lt b full (suc v) w four few lw =
      let e : suc v + suc y - 4 ≡ suc (suc v) + y - 4 = omega arith in
      let last : Tape = three (suc (suc v) + y - 4) 0 (suc w) in
      let inside : Does input inner x (three (suc v) (suc y) w) rest last most = comes_to last (full v w (omega arith) (omega arith) lw) (ap (λ k. three k 0 (suc w)) e) in
      let on : get (three (suc v) (suc y) w) x ≢ 0 = λ z. absurd (omega (arith, x_is (suc v) (suc y) w, z)) in
      let strides : Strides input inner x (three (suc v) (suc y) w) rest last (most + 1 + 0) =
      Stride x rest rest (three (suc v) (suc y) w) last last most 0 on inside (Stand rest last (rest_is (suc (suc v) + y - 4) 0 (suc w))) in
      does_within (2 * by + 4 + most) (next (stepped (suc v) y w (omega arith)) (does_strides b strides)) (omega arith)

  part_more : (inner : List Command) (y most : ℕ) → y < 3 → IsBalanced inner → Part inner (suc y) most → Part (split_level by inner) y (2 * by + 4 + most)
  part_more inner y most lt b part zero w few =
      let e : suc y ≡ suc zero + y = omega arith in
      let last : Tape = three 0 (suc zero + y) w in
      let strides : Strides input inner x (three 0 (suc y) w) x (three 0 (suc y) w) 0 = Stand x (three 0 (suc y) w) (x_is 0 (suc y) w) in
      does_within (2 * by + 4 + most) (comes_to last (next (stepped zero y w (omega arith)) (does_strides b strides)) (ap (λ k. three 0 k w) e)) (omega arith)
  part_more inner y most lt b part (suc v) w few =
      let e : suc v + suc y ≡ suc (suc v) + y = omega arith in
      let last : Tape = three 0 (suc (suc v) + y) w in
      let inside : Does input inner x (three (suc v) (suc y) w) x last most = comes_to last (part v w (omega arith)) (ap (λ k. three 0 k w) e) in
      let on : get (three (suc v) (suc y) w) x ≢ 0 = λ z. absurd (omega (arith, x_is (suc v) (suc y) w, z)) in
      let strides : Strides input inner x (three (suc v) (suc y) w) x last (most + 1 + 0) = Stride x x x (three (suc v) (suc y) w) last last most 0 on inside (Stand x last (x_is 0 (suc (suc v) + y) w)) in
      does_within (2 * by + 4 + most) (next (stepped (suc v) y w (omega arith)) (does_strides b strides)) (omega arith)

  full_last : Full (split_last by) 3 (5 * by + 6)
  full_last v w four few lw =
      let e : v ≡ suc v + 3 - 4 = omega arith in
      let f : raised w ≡ suc w = omega arith in
      let g2 : rest + 2 * by ≡ quarter = omega arith in
      let minus : (y : ℕ) → Does input (Minus ∷ []) rest (three v (suc y) w) rest (three v y w) 1 = λ y. minus_at input s ns apart (v ∷ suc y ∷ w ∷ []) 1 (omega arith) refl in
      let plus : Does input (Plus ∷ []) quarter (three v 0 w) quarter (three v 0 (suc w)) 1 = comes_to (three v 0 (suc w)) (plus_at input s ns apart (v ∷ 0 ∷ w ∷ []) 2 (omega arith) refl) (ap (three v 0) f) in
      does_within (5 * by + 6)
      (comes_to (three (suc v + 3 - 4) 0 (suc w))
      (next (next (next (next (next (down v 3 w) (to_rest (three v 3 w))) (next (next (minus 2) (minus 1)) (minus 0)))
      (between rest quarter (does_rights input (2 * by) rest (three v 0 w)) refl g2)) plus)
      (between quarter rest (does_lefts input (2 * by) rest (three v 0 (suc w))) g2 refl)) (ap (λ k. three k 0 (suc w)) e)) (omega arith)

  part_last : Part (split_last by) 3 (5 * by + 6)
  part_last v w few = absurd (omega arith)

  balanced_last : IsBalanced (split_last by)
  balanced_last =
      balanced_append (Minus ∷ many by Right ++ many 3 Minus ++ many (2 * by) Right ++ (Plus ∷ [])) (many (2 * by) Left)
      (balanced_append (Minus ∷ many by Right ++ many 3 Minus ++ many (2 * by) Right) (Plus ∷ [])
      (balanced_append (Minus ∷ many by Right ++ many 3 Minus) (many (2 * by) Right)
      (balanced_append (Minus ∷ many by Right) (many 3 Minus) (balanced_append (Minus ∷ []) (many by Right) refl (balanced_many by Right refl)) refl)
      (balanced_many (2 * by) Right refl)) refl) (balanced_many (2 * by) Left refl)

  balanced_level : (inner : List Command) → IsBalanced inner → IsBalanced (split_level by inner)
  balanced_level inner b =
      balanced_append (Minus ∷ many by Right ++ (Plus ∷ []) ++ many by Left) (loop inner)
      (balanced_append (Minus ∷ many by Right ++ (Plus ∷ [])) (many by Left)
      (balanced_append (Minus ∷ many by Right) (Plus ∷ []) (balanced_append (Minus ∷ []) (many by Right) refl (balanced_many by Right refl)) refl) (balanced_many by Left refl))
      (balanced_loop inner b)

  abbrev levels : List Command
  levels = split_level by (split_level by (split_level by (split_last by)))

  balanced_1 : IsBalanced (split_level by (split_last by))
  balanced_1 = balanced_level (split_last by) balanced_last

  balanced_2 : IsBalanced (split_level by (split_level by (split_last by)))
  balanced_2 = balanced_level (split_level by (split_last by)) balanced_1

  balanced_turn : IsBalanced (split_turn by)
  balanced_turn = balanced_append levels (many by Left) (balanced_level (split_level by (split_level by (split_last by))) balanced_2) (balanced_many by Left refl)

  abbrev cost : ℕ
  cost = 12 * by + 31

  full_all : Full levels 0 (11 * by + 18)
  full_all v w four few lw = does_within (11 * by + 18)
      (full_more (split_level by (split_level by (split_last by))) 0 (2 * by + 4 + (2 * by + 4 + (5 * by + 6))) (omega arith) balanced_2
      (full_more (split_level by (split_last by)) 1 (2 * by + 4 + (5 * by + 6)) (omega arith) balanced_1
      (full_more (split_last by) 2 (5 * by + 6) (omega arith) balanced_last full_last)) v w four few lw) (omega arith)

  part_all : Part levels 0 (11 * by + 18)
  part_all v w few = does_within (11 * by + 18)
      (part_more (split_level by (split_level by (split_last by))) 0 (2 * by + 4 + (2 * by + 4 + (5 * by + 6))) (omega arith) balanced_2
      (part_more (split_level by (split_last by)) 1 (2 * by + 4 + (5 * by + 6)) (omega arith) balanced_1
      (part_more (split_last by) 2 (5 * by + 6) (omega arith) balanced_last part_last)) v w few) (omega arith)

  to_guard : (t : Tape) → Does input (many by Left) x t g t by
  to_guard t = does_lefts input by g t

  -- so many turns, of which the last one may find fewer than four units
  abbrev turns : ℕ → ℕ → ℕ
  turns k r = k + over 0 1 r

  split_strides : (guard : get s g ≡ 0) (k r w : ℕ) → r < 4 → 4 * k + r < 256 → w + k < 256 → Strides input (split_turn by) x (three (4 * k + r) 0 w) (over x g r) (three 0 r (w + k)) (turns k r * (cost + 1))
  split_strides guard zero zero w lr few lw =
      let e : 0 ≡ turns 0 0 * (cost + 1) = omega arith in
      let f : w ≡ w + 0 = omega arith in
      subst (λ u. Strides input (split_turn by) x (three 0 0 w) x (three 0 0 u) (turns 0 0 * (cost + 1))) f
      (subst (λ m. Strides input (split_turn by) x (three 0 0 w) x (three 0 0 w) m) e (Stand x (three 0 0 w) (x_is 0 0 w)))
  split_strides guard zero (suc r) w lr few lw =
      let e : suc r ≡ 4 * 0 + suc r = omega arith in
      let f : cost + 1 + 0 ≡ turns 0 (suc r) * (cost + 1) = omega arith in
      let t : Tape = three 0 (suc r) w in
      let off : get t g ≡ 0 = get_free s g ns (0 ∷ suc r ∷ w ∷ []) (omega arith, (omega arith, (omega arith, tt))) ∙ guard in
      let on : get (three (suc r) 0 w) x ≢ 0 = λ z. absurd (omega (arith, x_is (suc r) 0 w, z)) in
      let turn : Does input (split_turn by) x (three (suc r) 0 w) g t cost = does_within cost (next (comes_to t (part_all r w (omega arith)) (let z : suc r + 0 ≡ suc r = omega arith in ap (λ v. three 0 v w) z)) (to_guard t)) (omega arith) in
      let h : w ≡ w + 0 = omega arith in
      subst (λ u. Strides input (split_turn by) x (three (4 * 0 + suc r) 0 w) g (three 0 (suc r) u) (turns 0 (suc r) * (cost + 1))) h
      (subst (λ m. Strides input (split_turn by) x (three (4 * 0 + suc r) 0 w) g t m) f
      (subst (λ v. Strides input (split_turn by) x (three v 0 w) g t (cost + 1 + 0)) e (Stride x g g (three (suc r) 0 w) t t cost 0 on turn (Stand g t off))))
  split_strides guard (suc k) r w lr few lw =
      let v : ℕ = 4 * k + r + 3 in
      let e : suc v ≡ 4 * suc k + r = omega arith in
      let f : suc v + 0 - 4 ≡ 4 * k + r = omega arith in
      let h : suc w + k ≡ w + suc k = omega arith in
      let q : cost + 1 + turns k r * (cost + 1) ≡ turns (suc k) r * (cost + 1) = (let i : suc (turns k r) ≡ turns (suc k) r = omega arith in omega (arith, suc-mul (turns k r) (cost + 1), ap (λ m. m * (cost + 1)) i)) in
      let t : Tape = three (4 * k + r) 0 (suc w) in
      let on : get (three (suc v) 0 w) x ≢ 0 = λ z. absurd (omega (arith, x_is (suc v) 0 w, z)) in
      let turn : Does input (split_turn by) x (three (suc v) 0 w) x t cost =
      does_within cost (next (comes_to t (full_all v w (omega arith) (omega arith) (omega arith)) (ap (λ m. three m 0 (suc w)) f)) (to_x t)) (omega arith) in
      let more = split_strides guard k r (suc w) lr (omega arith) (omega arith) in
      subst (λ m. Strides input (split_turn by) x (three (4 * suc k + r) 0 w) (over x g r) (three 0 r (w + suc k)) m) q
      (subst (λ u. Strides input (split_turn by) x (three (4 * suc k + r) 0 w) (over x g r) (three 0 r u) (cost + 1 + turns k r * (cost + 1))) h
      (subst (λ u. Strides input (split_turn by) x (three u 0 w) (over x g r) (three 0 r (suc w + k)) (cost + 1 + turns k r * (cost + 1))) e
      (Stride x x (over x g r) (three (suc v) 0 w) t (three 0 r (suc w + k)) cost (turns k r * (cost + 1)) on turn more)))

  -- from the byte or the guard to the free cell or to what is over
  to_over : (r : ℕ) (t : Tape) → Does input (many (2 * by) Right) (over x g r) t (over (g + 3 * by) rest r) t (2 * by)
  to_over zero t = let e : x + 2 * by ≡ g + 3 * by = omega arith in between x (g + 3 * by) (does_rights input (2 * by) x t) refl e
  to_over (suc r) t = does_rights input (2 * by) g t

  pub split_row : (n w : ℕ) → get s g ≡ 0 → n < 256 → w + n / 4 < 256
      → Does input (split_code by) x (three n 0 w) (over (g + 3 * by) rest (n % 4)) (three 0 (n % 4) (w + n / 4)) (split_most by n)
  split_row n w guard few lw =
      let k : ℕ = n / 4 in
      let r : ℕ = n % 4 in
      let e : 4 * k + r ≡ n = omega arith in
      let le : turns k r ≤ k + 1 = few_turns k r in
      let le' : (cost + 1) * turns k r ≤ (cost + 1) * (k + 1) = mul-le-mul_left (cost + 1) le in
      does_within (split_most by n)
      (next (goes_from (three n 0 w) (does_strides balanced_turn (split_strides guard k r w (omega arith) (omega arith) (omega arith))) (ap (λ v. three v 0 w) e)) (to_over r (three 0 r (w + k)))) (omega arith)
    where
      few_turns : (k r : ℕ) → turns k r ≤ k + 1
      few_turns k zero = omega arith
      few_turns k (suc r) = omega arith

  pub split_put : (n m : ℕ) → n < 256 → m + n / 4 < 256 → IsRow s g by n m
      → Does input (split_code by) x s (over (g + 3 * by) rest (n % 4)) (put (put (put s quarter (m + n / 4)) rest (n % 4)) x 0) (split_most by n)
  split_put n m few lm row =
      let start : three n 0 m ≡ s = (λ i. three (sym row.byte i) (sym row.rest i) (sym row.quarter i)) ∙ held s ns in
      goes_from s (split_row n m row.guard few lm) start

pub split_divides : SplitDividesByFour
split_divides input s g by n m some few lm row = split_put input s g by some n m few lm row

pub same_digit : (u : ℕ → ℕ) (j v : ℕ) → u j ≡ v → set_cell u j v ≡ u
same_digit u j v is = fun_ext (λ k. elim (nat_eq k j) as (λ t. nat_eq k j ≡ t → cond t v (u k) ≡ u k) [
  | true ↦ λ e. sym is ∙ ap u (sym (eqb-true k j e))
  | false ↦ λ e. refl
] refl)

module _ (input : List ℕ) (at : (ℕ → ℕ) → Tape) (g by cost : ℕ) (body : ℕ → List Command) (last : List Command) (some : 1 ≤ by) (gives : Gives input at g by cost body last) where
  abbrev byte : ℕ
  byte = g + by

  abbrev left_over : ℕ
  left_over = g + 2 * by

  abbrev free : ℕ
  free = g + 3 * by

  abbrev fourth : ℕ
  fourth = g + 4 * by

  abbrev cells : List ℕ
  cells = byte ∷ left_over ∷ fourth ∷ []

  distinct : AreApart cells
  distinct = ((omega arith, (omega arith, tt)), ((omega arith, tt), (tt, tt)))

  abbrev row : (ℕ → ℕ) → ℕ → ℕ → ℕ → Tape
  row u n r q = row_of (at u) g by n r q

  free_is : (u : ℕ → ℕ) (n r q : ℕ) → get (row u n r q) free ≡ 0
  free_is u n r q = get_free (at u) free cells (n ∷ r ∷ q ∷ []) (omega arith, (omega arith, (omega arith, tt))) ∙ gives.free u

  -- from what is over or the free cell to the free cell
  both_done : (j r q : ℕ) (u : ℕ → ℕ) → j < 3 → r < 4 → u j ≡ 0 → Does input (loop (body j)) (over free left_over r) (row u 0 r q) free (row (set_cell u j r) 0 0 q) (cost + 2)
  both_done j zero q u lj lr none =
      does_within (cost + 2)
      (comes_to (row (set_cell u j 0) 0 0 q) (does_strides {body = body j} (gives.balanced j) (Stand free (row u 0 0 q) (free_is u 0 0 q))) (ap (λ w. row w 0 0 q) (sym (same_digit u j 0 none)))) (omega arith)
  both_done j (suc r) q u lj lr none =
      let to : Tape = row (set_cell u j (suc r)) 0 0 q in
      let on : get (row u 0 (suc r) q) left_over ≢ 0 = λ z. absurd (omega (arith, get_held (at u) cells (0 ∷ suc r ∷ q ∷ []) 1 distinct (omega arith) refl, z)) in
      does_within (cost + 2)
      (does_strides (gives.balanced j) (Stride left_over free free (row u 0 (suc r) q) to to cost 0 on (gives.low j u (suc r) q lj (omega arith) lr none) (Stand free to (free_is (set_cell u j (suc r)) 0 0 q)))) (omega arith)

  abbrev home_body : List Command
  home_body = Minus ∷ many (3 * by) Left ++ (Plus ∷ []) ++ many (3 * by) Right

  balanced_home : IsBalanced home_body
  balanced_home = balanced_append (Minus ∷ many (3 * by) Left ++ (Plus ∷ [])) (many (3 * by) Right)
      (balanced_append (Minus ∷ many (3 * by) Left) (Plus ∷ []) (balanced_append (Minus ∷ []) (many (3 * by) Left) refl (balanced_many (3 * by) Left refl)) refl) (balanced_many (3 * by) Right refl)

  quarter_done : (q : ℕ) (u : ℕ → ℕ) → q < 256 → Does input (quarter_code by) free (row u 0 0 q) byte (row u q 0 0) (q * (6 * by + 3) + 4 * by + 1)
  quarter_done q u lq =
      let family : ℕ → Tape = λ k. row u (q - k) 0 k in
      let e : byte + 3 * by ≡ fourth = omega arith in
      let f : free + by ≡ fourth = omega arith in
      let go_left : (t : Tape) → Does input (many (3 * by) Left) fourth t byte t (3 * by) = λ t. between fourth byte (does_lefts input (3 * by) byte t) e refl in
      let go_right : (t : Tape) → Does input (many (3 * by) Right) byte t fourth t (3 * by) = λ t. between byte fourth (does_rights input (3 * by) byte t) refl e in
      let each : (k : ℕ) → k < q → Does input home_body fourth (family (suc k)) fourth (family k) (6 * by + 2) = λ k lt.
      let h : raised (q - suc k) ≡ q - k = omega arith in
      does_within (6 * by + 2)
      (next (next (next (minus_at input (at u) cells distinct ((q - suc k) ∷ 0 ∷ suc k ∷ []) 2 (omega arith) refl) (go_left (row u (q - suc k) 0 k)))
      (comes_to (family k) (plus_at input (at u) cells distinct ((q - suc k) ∷ 0 ∷ k ∷ []) 0 (omega arith) refl) (ap (λ v. row u v 0 k) h))) (go_right (family k))) (omega arith) in
      let start : family q ≡ row u 0 0 q = (let h : q - q ≡ 0 = omega arith in ap (λ v. row u v 0 q) h) in
      let end : family 0 ≡ row u q 0 0 = (let h : q - 0 ≡ q = omega arith in ap (λ v. row u v 0 0) h) in
      let move : Does input (loop home_body) fourth (row u 0 0 q) fourth (row u q 0 0) (q * (6 * by + 2 + 1) + 1) =
      comes_to (row u q 0 0) (goes_from (row u 0 0 q) (does_loop balanced_home
      (counted input home_body fourth (6 * by + 2) q family (λ k. get_held (at u) cells ((q - k) ∷ 0 ∷ k ∷ []) 2 distinct (omega arith) refl) each q (omega arith))) start) end in
      does_within (q * (6 * by + 3) + 4 * by + 1) (next (next (between free fourth (does_rights input by free (row u 0 0 q)) refl f) move) (go_left (row u q 0 0))) (omega arith)

  part_done : (j n top : ℕ) (u : ℕ → ℕ) → j < 3 → n < 256 → n / 4 + 1 ≤ top → u j ≡ 0
      → Does input (part_code by (body j)) byte (row u n 0 0) byte (row (set_cell u j (n % 4)) (n / 4) 0 0) (top * (18 * by + 35) + (cost + 6 * by + 4))
  part_done j n top u lj ln le none =
      let q : ℕ = n / 4 in
      let r : ℕ = n % 4 in
      let e : 0 + q ≡ q = omega arith in
      let split : Does input (split_code by) byte (row u n 0 0) (over free left_over r) (row u 0 r q) (split_most by n) =
      comes_to (row u 0 r q) (split_row input (at u) g by some n 0 (gives.guard u) ln (omega arith)) (ap (row u 0 r) e) in
      let m1 : (12 * by + 32) * (q + 1) ≤ (12 * by + 32) * top = mul-le-mul_left (12 * by + 32) le in
      let m2 : (6 * by + 3) * q ≤ (6 * by + 3) * top = mul-le-mul_left (6 * by + 3) (omega arith) in
      does_within (top * (18 * by + 35) + (cost + 6 * by + 4))
      (next (next split (both_done j r q u lj (omega arith) none)) (quarter_done q (set_cell u j r) (omega arith))) (omega arith)

  pub deal_done : (u : ℕ → ℕ) (n : ℕ) → n < 256 → u 0 ≡ 0 → u 1 ≡ 0 → u 2 ≡ 0 → u 3 ≡ 0
      → Does input (deal_code by body last) byte (row u n 0 0) byte (row (dealt n u) 0 0 0) (4 * cost + 1800 * by + 4000)
  deal_done u n ln z0 z1 z2 z3 =
      let u1 : ℕ → ℕ = set_cell u 0 (n % 4) in
      let u2 : ℕ → ℕ = set_cell u1 1 (n / 4 % 4) in
      let u3 : ℕ → ℕ = set_cell u2 2 (n / 4 / 4 % 4) in
      let e2 : n / 4 / 4 ≡ n / 16 = omega arith in
      let e3 : n / 4 / 4 / 4 ≡ n / 64 = omega arith in
      let to : row (set_cell u3 3 (n / 4 / 4 / 4)) 0 0 0 ≡ row (dealt n u) 0 0 0 = λ i. row (set_cell (set_cell u2 2 (e2 i % 4)) 3 (e3 i)) 0 0 0 in
      does_within (4 * cost + 1800 * by + 4000)
      (comes_to (row (dealt n u) 0 0 0)
      (next (next (next (part_done 0 n 64 u (omega arith) ln (omega arith) z0) (part_done 1 (n / 4) 16 u1 (omega arith) (omega arith) (omega arith) z1))
      (part_done 2 (n / 4 / 4) 4 u2 (omega arith) (omega arith) (omega arith) z2)) (gives.top u3 (n / 4 / 4 / 4) (omega arith) z3)) to) (omega arith)

pub bytes_dealt : BytesAreDealt
bytes_dealt input at g by cost body last u n some ln gives z0 z1 z2 z3 = deal_done input at g by cost body last some gives u n ln z0 z1 z2 z3
