-- What holds of runs that follow, and of objects that lie in a memory.
use Rattle.std.specs.Prelude.{◌≡◌, ℕ, suc, ◌+◌, ◌^◌, ◌<◌, ◌≤◌, List, ◌++◌, length, take, Some}
use Rattle.mach_core.specs.Rule.{Moment, applied}
use Rattle.eir_core.specs.Eir.{Eir}
use Rattle.eir_core.specs.declared.ops.Op.{Op}
use Rattle.eir_core.specs.Memory.{Memory, with_word}
use Rattle.eir_core.specs.Step.{Config, eir_rule}
use Rattle.c_eval.specs.State.{Value, Cell, Object, State}
use Rattle.c_place.specs.Place.{Place, Machine, Stands, behind_all, AreQuiet, made_all}
use Rattle.c_memory.specs.Follows.{Fuel, worth, Mode, outer, in_use, here, Comes, OneLess}
use Rattle.c_memory.specs.Lies.{Extent, Ground, Whole, Before, base, Means, cell_of, Lies, Post, bases_from, words_of_all, with_stored, with_new, left_from, NewMean}

-- how runs are put together
pub record RunsCompose (p : Eir) (input : List ℕ) (mode : Mode) : Type 0 where
  -- one behind the other, each at its own cost
  pub in_turn : (a b e : Moment Config) (x y z : Fuel) (c1 c2 : ℕ) → Comes p input mode a x c1 b y → Comes p input mode b y c2 e z → Comes p input mode a x (c1 + c2) e z
  -- quiet code costs its operations
  pub quiet : (s : Place) (m : Machine) (st : State) (ops : List Op) (x : Fuel) → AreQuiet ops → Stands p s ops → Comes p input mode (here s m st) x (length ops) (here (behind_all s ops) (made_all ops m) st) x
  -- a unit pays for one operation and for what follows it
  pub paid : (a b e : Moment Config) (x y z : Fuel) (u c : ℕ) → applied (eir_rule p) input a ≡ b → OneLess mode (suc u) x y → Comes p input mode b y (c + u) e z → Comes p input mode a x c e z

abbrev pub AllRunsCompose : Type 0
AllRunsCompose = (p : Eir) (input : List ℕ) (mode : Mode) → RunsCompose p input mode

-- a use of a helper function, seen from outside, costs what it takes by itself and what its second fuel pays for
abbrev pub UsesCost : Type 0
UsesCost =
    (p : Eir) (input : List ℕ) (d h ration c : ℕ) (a b : Moment Config) (x y : Fuel) (spare : ℕ) → x.spare ≡ ration → Comes p input (in_use d h ration) a x c b y
    → Comes p input (outer d) a (record { left = x.left; spare = spare }) (c + worth h ration) b (record { left = y.left; spare = spare })

-- a write of a value to a live cell is one to its address: the objects lie as before but for that cell
abbrev pub StoresLie : Type 0
StoresLie =
    (g : Ground) (bs : List Extent) (os : List Object) (mem : Memory) (top o k w : ℕ) (c : Cell) (v : Value) → Lies g bs os mem top → cell_of os o k ≡ Some c → Means g bs v w
    → Lies g bs (with_stored os o k v) (with_word mem (base bs o + k) w) top × Post top bs os mem bs (with_stored os o k v) (with_word mem (base bs o + k) w)

-- the objects of a block lie at the top of the frame from its start to its end, and then what lay there before lies as it did
pub record BlocksComeAndGo : Type 0 where
  pub come : (g : Ground) (bs : List Extent) (os : List Object) (mem : Memory) (top : ℕ) (new : List (List Cell)) → Lies g bs os mem top → 1 ≤ top → top + words_of_all new < 2 ^ 24 → NewMean g bs mem top new
      → Lies g (bs ++ bases_from top new) (with_new os new) mem (top + words_of_all new)
  pub go : (g : Ground) (bs : List Extent) (os : List Object) (mem : Memory) (top : ℕ) (new : List (List Cell)) (bs2 : List Extent) (os2 : List Object) (mem2 : Memory) (top1 top2 : ℕ) → Lies g bs os mem top → top ≤ top1 → Lies g bs2 os2 mem2 top2
      → Post top1 (bs ++ bases_from top new) (with_new os new) mem bs2 os2 mem2
      → Lies g bs2 (left_from (length os) os2) mem2 top × Post top bs os mem bs2 (left_from (length os) os2) mem2
  -- the objects of a helper function go away at its end
  pub away : (g : Ground) (bs : List Extent) (os : List Object) (mem : Memory) (top : ℕ) (bs2 : List Extent) (os2 : List Object) (mem2 : Memory) (top2 : ℕ) → g.reach ≡ Whole → length bs ≡ length os
      → Lies (record g { reach = Before (length bs) }) bs2 os2 mem2 top2 → Post top bs os mem bs2 os2 mem2
      → Lies g (take (length bs) bs2) (take (length bs) os2) mem2 top2 × Post top bs os mem (take (length bs) bs2) (take (length bs) os2) mem2
