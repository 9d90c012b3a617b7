-- Texts over a row of named cells, and what a finite calculation tells of them.
use Rattle.std.specs.Prelude.{◌≡◌, ◌<◌, ◌≤◌, ℕ, zero, suc, ◌+◌, ◌-◌, max, nat_eq, nat_lt, nat_le, Bool, true, false, cond, List, [], ◌∷◌, ◌++◌, length}
use Rattle.bf_lang.specs.declared.command.Command.{Command}
use Rattle.bf_lang.specs.declared.command.Command.TheVariants.{Plus, Minus}
use Rattle.bf_lang.specs.Cells.{raised, lowered}
use Rattle.bf_tape.specs.Tape.{Tape}
use Rattle.bf_tape.specs.Does.{Does, loop}
use Rattle.bf_tape.specs.Code.{goto_code}
use Rattle.bf_tape.specs.Slots.{nth, with_nth, AreApart, holding}

-- the head goes to a cell of the row; the cell under the head becomes one more or one less; a text repeats while that cell is not 0, and ends at it
pub data Text : Type 0 where
  Done : Text
  Go : ℕ → Text → Text
  Up : Text → Text
  Down : Text → Text
  While : Text → Text → Text

-- the commands of a text that begins at a cell of a row
abbrev pub spelled : List ℕ → ℕ → Text → List Command
spelled ns h Done = []
spelled ns h (Go i t) = goto_code (nth ns h) (nth ns i) ++ spelled ns i t
spelled ns h (Up t) = Plus ∷ spelled ns h t
spelled ns h (Down t) = Minus ∷ spelled ns h t
spelled ns h (While b t) = loop (spelled ns h b) ++ spelled ns h t

-- where a calculation comes to: the cell of the head, what the row holds, and how many commands ran at most
pub data Outcome : Type 0 where
  Stuck : Outcome
  Came : ℕ → List ℕ → ℕ → Outcome

abbrev pub costs : ℕ → Outcome → Outcome
costs k Stuck = Stuck
costs k (Came h vs n) = Came h vs (k + n)

-- a turn, then further ones
abbrev pub turned : ℕ → Outcome → (List ℕ → Outcome) → Outcome
turned h Stuck more = Stuck
turned h (Came h' vs n) more = elim (nat_eq h' h) as (λ b. Outcome) [ true ↦ costs (n + 1) (more vs) | false ↦ Stuck ]

-- all turns, then what follows
abbrev pub looped : Outcome → (List ℕ → Outcome) → Outcome
looped Stuck more = Stuck
looped (Came h vs n) more = costs (n + 1) (more vs)

-- the way from one cell of a row to another, where each cell is known to stand between two places
abbrev pub far : List ℕ → List ℕ → ℕ → ℕ → ℕ
far los his h i = max (nth his i - nth los h) (nth his h - nth los i)

-- a text run on the values of a row, or all turns of it as a loop's body
abbrev pub calculated : List ℕ → List ℕ → ℕ → Bool → Text → ℕ → List ℕ → Outcome
calculated los his zero turns t h vs = Stuck
calculated los his (suc f) true t h vs = elim (nth vs h) as (λ v. Outcome) [
  | zero ↦ Came h vs 0
  | suc v ↦ turned h (calculated los his f false t h vs) (λ ws. calculated los his f true t h ws)
]
calculated los his (suc f) false Done h vs = Came h vs 0
calculated los his (suc f) false (Go i t) h vs = elim (nat_lt i (length los)) as (λ b. Outcome) [
  | true ↦ costs (far los his h i) (calculated los his f false t i vs)
  | false ↦ Stuck
]
calculated los his (suc f) false (Up t) h vs = costs 1 (calculated los his f false t h (with_nth vs h (raised (nth vs h))))
calculated los his (suc f) false (Down t) h vs = costs 1 (calculated los his f false t h (with_nth vs h (lowered (nth vs h))))
calculated los his (suc f) false (While b t) h vs = looped (calculated los his f true b h vs) (λ ws. calculated los his f false t h ws)

abbrev pub same : List ℕ → List ℕ → Bool
same [] [] = true
same [] (w ∷ ws) = false
same (v ∷ vs) [] = false
same (v ∷ vs) (w ∷ ws) = cond (nat_eq v w) (same vs ws) false

abbrev pub told : Outcome → ℕ → List ℕ → ℕ → Bool
told Stuck h ws most = false
told (Came h' vs n) h ws most = cond (nat_eq h' h) (cond (same vs ws) (nat_le n most) false) false

-- a text leads from these values to those, and to the cell where it began, within so many commands
abbrev pub comes : List ℕ → List ℕ → Text → ℕ → List ℕ → List ℕ → ℕ → Bool
comes los his t h vs ws most = told (calculated los his 2000 false t h vs) h ws most

-- a test of all numbers below one
abbrev pub each_below : ℕ → (ℕ → Bool) → Bool
each_below zero p = true
each_below (suc n) p = cond (p n) (each_below n p) false

-- each cell of a row stands between two places
pub record AreWithin (ns los his : List ℕ) : Type 0 where
  pub lows : length los ≡ length ns
  pub within : (i : ℕ) → i < length ns → (nth los i ≤ nth ns i) × (nth ns i ≤ nth his i)

-- the law: what a calculation on the values of a row tells holds of the commands
abbrev pub CalculationsHold : Type 0
CalculationsHold =
    (input : List ℕ) (s : Tape) (ns los his : List ℕ) (t : Text) (h : ℕ) (vs ws : List ℕ) (most : ℕ)
    → AreApart ns → AreWithin ns los his → h < length ns → length vs ≡ length ns → comes los his t h vs ws most ≡ true
    → Does input (spelled ns h t) (nth ns h) (holding s ns vs) (nth ns h) (holding s ns ws) most
