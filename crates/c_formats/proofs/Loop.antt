-- The loop of the function of strings writes what `put_string` writes.
use Rattle.std.proofs.Common.{◌≡◌, ℕ, zero, suc, ◌+◌, ◌%◌, ◌^◌, ◌<◌, List, [], ◌∷◌, ◌++◌, length, Some, Bool, true, false, nat_le, slice_get, drop, refl, sym, ap, subst, arith}
use Rattle.std.specs.Prelude.{pos, int_lt, not, ◌&&◌, ◌==◌, unsigned_abs}
use Rattle.std.proofs.lemmas.Bool.{le-leb, ne_eqb}
use Rattle.c_eval.specs.State.{Value, Word, Null, Point, Letter, Function, Missing, Cell, Unset, Holds, State, Outcome, Gives, Ended, Going, Undefined}
use Rattle.c_eval.specs.Run.{◌>>=◌, after, give, undefined, paid, spend, put}
use Rattle.c_eval.specs.Memory.{is_within}
use Rattle.c_eval.specs.BuiltIns.{put_string}
use Rattle.c_eval.specs.Eval.{Flow, Next}
use Rattle.c_apart.proofs.Apart.{Out, Done, Paused, Part, p_loop}
use Rattle.c_apart.proofs.Turns.{loop_on, loop_off, loop_pauses}
use Rattle.c_formats.proofs.Turn.{pointing}

abbrev pub one_less : ℕ → ℕ
one_less zero = zero
one_less (suc n) = n

-- the second fuel that is left behind a string
abbrev pub spare_behind : (ration left spare : ℕ) → List Cell → ℕ
spare_behind ration left spare [] = spare
spare_behind ration left spare (Unset ∷ cells) = spare
spare_behind ration left spare (Holds (Word zero) ∷ cells) = spare
spare_behind ration zero spare (Holds (Word (suc c)) ∷ cells) = one_less spare
spare_behind ration (suc left) spare (Holds (Word (suc c)) ∷ cells) = spare_behind ration left ration cells
spare_behind ration left spare (Holds v ∷ cells) = spare

-- a loop ends as a string does
abbrev pub Ends : ℕ → Out Flow → Outcome (Unit {0}) → Type 0
Ends spare out (Gives u st) = (own : Value) × (out ≡ Done Next (record st { spare = spare }) (pointing true own))
Ends spare out (Going st) = (own : Value) × (out ≡ Paused (record st { spare = spare }) (pointing true own))
Ends spare out (Ended st) = Unit {0}
Ends spare out (Undefined act st) = Unit {0}

-- ---- the cells from a place on

pub first_cell : (cells : List Cell) (k : ℕ) (c : Cell) (cs : List Cell) → drop k cells ≡ c ∷ cs → slice_get cells k ≡ Some c
first_cell [] zero c cs e = absurd (cc e)
first_cell [] (suc k) c cs e = absurd (cc e)
first_cell (x ∷ xs) zero c cs e = let same : x ≡ c = cc e in ap Some same
first_cell (x ∷ xs) (suc k) c cs e = first_cell xs k c cs e

pub more_cells : (cells : List Cell) (k : ℕ) (c : Cell) (cs : List Cell) → drop k cells ≡ c ∷ cs → drop (suc k) cells ≡ cs
more_cells [] zero c cs e = absurd (cc e)
more_cells [] (suc k) c cs e = absurd (cc e)
more_cells (x ∷ xs) zero c cs e = cc e
more_cells (x ∷ xs) (suc k) c cs e = more_cells xs k c cs e

pub below_length : (cells : List Cell) (k : ℕ) (c : Cell) (cs : List Cell) → drop k cells ≡ c ∷ cs → k < length cells
below_length [] zero c cs e = absurd (cc e)
below_length [] (suc k) c cs e = absurd (cc e)
below_length (x ∷ xs) zero c cs e = omega arith
below_length (x ∷ xs) (suc k) c cs e = let lt : k < length xs = below_length xs k c cs e in omega (arith, lt)

pub inside : (k n : ℕ) → k < n → is_within (pos (k + 1)) (Some n) ≡ true
inside k n lt = both (int_lt (pos (k + 1)) (pos 0)) (nat_le (unsigned_abs (pos (k + 1))) n) (none k) (le-leb (k + 1) n (omega (arith, lt)))
  where
    both : (a b : Bool) → a ≡ false → b ≡ true → (not a && b) ≡ true
    both a b e f = (λ i. not (e i) && f i)

    none : (k : ℕ) → int_lt (pos (k + 1)) (pos 0) ≡ false
    none k = grind arith

-- ---- the loop, for pointers into one object

module _ (ration : ℕ) (some : 0 < ration) (test : Part Bool) (body : Part Flow) (at : ℕ → Value) (cells : List Cell) (Has : State → Type 0)
    (kept : (st : State) (left spare : ℕ) (output : List ℕ) → Has st → Has (record st { left = left; spare = spare; output = output }))
    (tests : (k w : ℕ) (b : Bool) (st : State) → Has st → slice_get cells k ≡ Some (Holds (Word w)) → not (w == 0) ≡ b → test st (pointing true (at k)) ≡ Done b st (pointing true (at k)))
    (turns : (k w n s : ℕ) (st : State) → Has st → slice_get cells k ≡ Some (Holds (Word w)) → is_within (pos (k + 1)) (Some (length cells)) ≡ true
    → body (record st { left = suc n; spare = s }) (pointing true (at k)) ≡ Done Next (record st { left = n; spare = ration; output = st.output ++ w % 2 ^ 8 ∷ [] }) (pointing true (at (suc k))))
    (pauses : (k s : ℕ) (st : State) → body (record st { left = 0; spare = s }) (pointing true (at k)) ≡ Paused (record st { left = 0; spare = s }) (pointing true (at k))) where
  pub loop_runs : (cs : List Cell) (k d left s : ℕ) (st : State) → drop k cells ≡ cs → Has st → left < d → 0 < s →
      Ends (spare_behind ration left s cs) (p_loop d test body (record st { left = left; spare = s }) (pointing true (at k))) (put_string false cs (record st { left = left }))
  unfolding put_string give undefined paid spend put ◌>>=◌ after
  loop_runs [] k d left s st e has lt some_s = tt
  loop_runs (Unset ∷ cs) k d left s st e has lt some_s = tt
  loop_runs (Holds Null ∷ cs) k d left s st e has lt some_s = tt
  loop_runs (Holds (Point o i) ∷ cs) k d left s st e has lt some_s = tt
  loop_runs (Holds (Letter f j text i) ∷ cs) k d left s st e has lt some_s = tt
  loop_runs (Holds (Function f) ∷ cs) k d left s st e has lt some_s = tt
  loop_runs (Holds Missing ∷ cs) k d left s st e has lt some_s = tt
  loop_runs (Holds (Word w) ∷ cs) k zero left s st e has lt some_s = absurd (omega (arith, lt))
  loop_runs (Holds (Word w) ∷ cs) k (suc d) left zero st e has lt some_s = absurd (omega (arith, some_s))
  loop_runs (Holds (Word zero) ∷ cs) k (suc d) left (suc s) st e has lt some_s =
      (at k, loop_off d test body (record st { left = left; spare = suc s }) (pointing true (at k)) (tests k 0 false (record st { left = left; spare = suc s }) (kept st left (suc s) st.output has) (first_cell cells k (Holds (Word 0)) cs e) refl))
  loop_runs (Holds (Word (suc c)) ∷ cs) k (suc d) zero (suc s) st e has lt some_s = (
    at k,
    loop_pauses d test body (record st { left = 0; spare = suc s }) (record st { left = 0; spare = s }) (pointing true (at k)) (pointing true (at k)) s
        (tests k (suc c) true (record st { left = 0; spare = suc s }) (kept st 0 (suc s) st.output has) (first_cell cells k (Holds (Word (suc c))) cs e) (ap not (ne_eqb (suc c) 0 (λ z. absurd (omega (arith, z)))))) refl (pauses k s st),
  )
  loop_runs (Holds (Word (suc c)) ∷ cs) k (suc d) (suc left) (suc s) st e has lt some_s =
      subst (λ z. Ends (spare_behind ration left ration cs) z (put_string false cs (record st { left = left; output = st.output ++ suc c % 2 ^ 8 ∷ [] })))
      (sym (loop_on d test body (record st { left = suc left; spare = suc s }) (record st { left = left; spare = ration; output = st.output ++ suc c % 2 ^ 8 ∷ [] }) (pointing true (at k)) (pointing true (at (suc k))) s
      (tests k (suc c) true (record st { left = suc left; spare = suc s }) (kept st (suc left) (suc s) st.output has) (first_cell cells k (Holds (Word (suc c))) cs e) (ap not (ne_eqb (suc c) 0 (λ z. absurd (omega (arith, z)))))) refl
      (turns k (suc c) left s st has (first_cell cells k (Holds (Word (suc c))) cs e) (inside k (length cells) (below_length cells k (Holds (Word (suc c))) cs e)))))
      (loop_runs cs (suc k) d left ration (record st { output = st.output ++ suc c % 2 ^ 8 ∷ [] }) (more_cells cells k (Holds (Word (suc c))) cs e) (kept st st.left st.spare (st.output ++ suc c % 2 ^ 8 ∷ []) has) (omega (arith, lt)) some)
