-- Runs that have more operations than units, so that a unit can be spent.
use Rattle.std.proofs.Common.{◌≡◌, ℕ, zero, suc, ◌+◌, ◌<◌, ◌≤◌, Bool, true, false, List, length, refl, sym, ap, ◌∙◌, subst, arith}
use Rattle.mach_core.specs.Rule.{Moment, applied, run_from}
use Rattle.mach_core.proofs.Runs.{run_from-add}
use Rattle.eir_core.specs.Eir.{Eir}
use Rattle.eir_core.specs.Step.{Config, eir_rule}
use Rattle.c_eval.specs.State.{State, Outcome, Gives, Ended, Going, Undefined, Run}
use Rattle.c_eval.specs.Run.{after, ◌>>=◌, give, spend, spend_spare, paid}
use Rattle.c_place.specs.Place.{Place, Machine}
use Rattle.c_memory.specs.Follows.{Fuel, fuel_of, Mode, here, Comes, Follows, OneLess}
use Rattle.c_memory.proofs.Following.{Claim}
use Rattle.c_valued.specs.Calls.{UnitPays}

-- a run comes from one moment to another, with an operation more than units
pub record Ahead (p : Eir) (input : List ℕ) (mode : Mode) (from : Moment Config) (x : Fuel) (c : ℕ) (to : Moment Config) (y : Fuel) : Type 0 where
  pub count : ℕ
  pub ends : run_from (eir_rule p) input from count ≡ to
  pub spent : suc x.left ≤ count + y.left
  pub less : y.left ≤ x.left
  pub down : mode.gauge y ≤ mode.gauge x
  pub paid : count + mode.pay y ≤ c + mode.pay x

module _ (p : Eir) (input : List ℕ) (mode : Mode) where
  -- an operation, and then a part
  pub ahead_of : {a b e : Moment Config} {x y : Fuel} (c1 : ℕ) → applied (eir_rule p) input a ≡ b → Comes p input mode b x c1 e y → Ahead p input mode a x (1 + c1) e y
  ahead_of {a} c1 e g = record {
    count = 1 + g.count;
    ends = run_from-add (eir_rule p) input a 1 g.count ∙ (ap (λ z. run_from (eir_rule p) input z g.count) e ∙ g.ends);
    spent = omega (arith, g.spent);
    less = g.less;
    down = g.down;
    paid = omega (arith, g.paid);
  }

  pub ahead_one : {a b : Moment Config} (x : Fuel) → applied (eir_rule p) input a ≡ b → Ahead p input mode a x 1 b x
  ahead_one x e = record { count = 1; ends = e; spent = omega arith; less = omega arith; down = omega arith; paid = omega arith }

  pub ahead_comes : {a b : Moment Config} {x y : Fuel} (c0 c : ℕ) → Ahead p input mode a x c0 b y → c0 ≤ c → Comes p input mode a x c b y
  ahead_comes c0 c f le = record { count = f.count; ends = f.ends; spent = omega (arith, f.spent); less = f.less; down = f.down; paid = omega (arith, f.paid, le) }

  -- an operation, a part, and then what follows of both
  pub ahead_then : {A B : Type 0} (a b : Moment Config) (x : Fuel) (c1 c : ℕ) (h : Run A) (st : State) (k : A → Run B) (Q : Claim A) (R : Claim B) → applied (eir_rule p) input a ≡ b → Follows p input mode b x c1 (h st) Q
      → ((v : A) (st1 : State) (s1 : Place) (m1 : Machine) → mode.gauge (fuel_of st1) ≤ mode.gauge x → Ahead p input mode a x (1 + c1) (here s1 m1 st1) (fuel_of st1) → Q v st1 s1 m1 → Follows p input mode a x c (k v st1) R) → 1 + c1 ≤ c → Follows p input mode a x c ((h >>= k) st) R
  unfolding ◌>>=◌ after
  ahead_then {A} {B} a b x c1 c h st k Q R e f g le = go (h st) f
    where
      go : (o : Outcome A) → Follows p input mode b x c1 o Q → Follows p input mode a x c (after o k) R
      go (Gives v st1) (s, m, f, q) = g v st1 s m f.down (ahead_of c1 e f) q
      go (Ended st1) (s, m, f, q) = (s, m, ahead_comes (1 + c1) c (ahead_of c1 e f) le, q)
      go (Going st1) (s, m, n, f, q) = (s, m, n, ahead_comes (1 + c1) c (ahead_of c1 e f) le, q)
      go (Undefined act st1) (s, m, z, f) = (s, m, z, ahead_comes (1 + c1) c (ahead_of c1 e f) le)

  -- a value is given there
  pub ahead_gives : {A : Type 0} (a : Moment Config) (x : Fuel) (c0 c : ℕ) (v : A) (s : Place) (m : Machine) (st : State) (Q : Claim A) → Ahead p input mode a x c0 (here s m st) (fuel_of st) → c0 ≤ c → Q v st s m → Follows p input mode a x c (give v st) Q
  unfolding give
  ahead_gives a x c0 c v s m st Q f le q = (s, m, ahead_comes c0 c f le, q)

  -- a unit less pays for what follows
  unit_behind : {a b e : Moment Config} {x z y v : Fuel} (c0 worth cb c : ℕ) → Ahead p input mode a x c0 b z → OneLess mode worth z y → Comes p input mode b y cb e v → c0 + cb ≤ c + worth → Comes p input mode a x c e v
  unit_behind {a} c0 worth cb c f o g le = record {
    count = f.count + g.count;
    ends = run_from-add (eir_rule p) input a f.count g.count ∙ (ap (λ z. run_from (eir_rule p) input z g.count) f.ends ∙ g.ends);
    spent = omega (arith, f.spent, o.left, g.spent);
    less = omega (arith, f.less, o.less, g.less);
    down = omega (arith, f.down, o.gauge, g.down);
    paid = omega (arith, f.paid, o.paid, g.paid, le);
  }

  behind_unit : {A : Type 0} {a b : Moment Config} {x z y : Fuel} (c0 worth cb c : ℕ) (r : Outcome A) (R : Claim A) → Ahead p input mode a x c0 b z → OneLess mode worth z y → Follows p input mode b y cb r R → c0 + cb ≤ c + worth → Follows p input mode a x c r R
  behind_unit c0 worth cb c (Gives v st) R f o (s, m, g, q) le = (s, m, unit_behind c0 worth cb c f o g le, q)
  behind_unit c0 worth cb c (Ended st) R f o (s, m, g, q) le = (s, m, unit_behind c0 worth cb c f o g le, q)
  behind_unit c0 worth cb c (Going st) R f o (s, m, n, g, q) le = (s, m, n, unit_behind c0 worth cb c f o g le, q)
  behind_unit c0 worth cb c (Undefined act st) R f o (s, m, v, g) le = (s, m, v, unit_behind c0 worth cb c f o g le)

  -- a unit is spent, for which the operation was run before
  pub ahead_paid : {A : Type 0} (a : Moment Config) (x : Fuel) (c0 worth cb c : ℕ) (inner : Bool) (run : Run A) (s : Place) (m : Machine) (st : State) (R : Claim A) → UnitPays mode inner worth → Ahead p input mode a x c0 (here s m st) (fuel_of st) → s.block < length p.blocks
      → ((l n : ℕ) → mode.gauge (record { left = l; spare = n }) < mode.gauge (fuel_of st) → Follows p input mode (here s m st) (record { left = l; spare = n }) cb (run (record st { left = l; spare = n })) R) → c0 + cb ≤ c + worth → c0 ≤ c
      → Follows p input mode a x c (paid inner run st) R
  unfolding paid spend spend_spare
  ahead_paid {A} a x c0 worth cb c false run s m st R unit f inside g le le0 = go st.left refl
    where
      go : (l : ℕ) → st.left ≡ l → Follows p input mode a x c (spend run l st) R
      go zero h = (s, m, st.spare, ahead_comes c0 c (subst (λ l. Ahead p input mode a x c0 (here s m st) (record { left = l; spare = st.spare })) h f) le0, inside)
      go (suc l) h =
          let f1 = subst (λ l. Ahead p input mode a x c0 (here s m st) (record { left = l; spare = st.spare })) h f in
          let o = unit l st.spare in
          let less : mode.gauge (record { left = l; spare = st.spare }) < mode.gauge (fuel_of st) = subst (λ z. mode.gauge (record { left = l; spare = st.spare }) < mode.gauge (record { left = z; spare = st.spare })) (sym h) o.gauge in
          behind_unit c0 worth cb c (run (record st { left = l; spare = st.spare })) R f1 o (g l st.spare less) le
  ahead_paid {A} a x c0 worth cb c true run s m st R unit f inside g le le0 = go st.spare refl
    where
      go : (n : ℕ) → st.spare ≡ n → Follows p input mode a x c (spend_spare run n st) R
      go zero h = (s, m, fuel_of st, ahead_comes c0 c f le0)
      go (suc n) h =
          let f1 = subst (λ z. Ahead p input mode a x c0 (here s m st) (record { left = st.left; spare = z })) h f in
          let o = unit st.left n in
          let less : mode.gauge (record { left = st.left; spare = n }) < mode.gauge (fuel_of st) = subst (λ z. mode.gauge (record { left = st.left; spare = n }) < mode.gauge (record { left = st.left; spare = z })) (sym h) o.gauge in
          behind_unit c0 worth cb c (run (record st { left = st.left; spare = n })) R f1 o (g st.left n less) le
