-- Runs that follow parts of a run of C: one lemma for each of the words from which runs are made.
use Rattle.std.proofs.Common.{◌≡◌, ℕ, zero, suc, ◌+◌, ◌%◌, ◌^◌, ◌<◌, ◌≤◌, Bool, true, false, List, [], ◌∷◌, ◌++◌, length, refl, ap, ◌∙◌, subst, arith}
use Rattle.std.specs.Prelude.{nat_le}
use Rattle.mach_core.specs.Rule.{Moment, applied, run_from, input_at}
use Rattle.mach_core.proofs.Runs.{run_from-add}
use Rattle.eir_core.specs.Eir.{Eir}
use Rattle.eir_core.specs.declared.ops.Reg.{Reg}
use Rattle.eir_core.specs.declared.ops.Operand.{Operand}
use Rattle.eir_core.specs.declared.ops.Op.{Op}
use Rattle.eir_core.specs.declared.ops.Op.TheVariants.{Putc, Getc, Exit}
use Rattle.eir_core.specs.Step.{Config, with_reg, value_of, eir_rule}
use Rattle.c_eval.specs.State.{Object, Act, State, Outcome, Gives, Ended, Going, Undefined, Run}
use Rattle.c_eval.specs.Run.{after, ◌>>=◌, give, undefined, unless, choose, exit, spend, spend_spare, paid, put, next_byte, most_charge, objects_now, recharged, charged_by, charged}
use Rattle.c_eval.specs.Helpers.{leaving, behind_use, helped, behind_helper, own_charged_by, own_charged}
use Rattle.c_place.specs.Place.{Place, Machine, Has, Stands, front, behind, behind_all, moment, AreQuiet, made_all}
use Rattle.c_place.proofs.Running.{all_quiet, one_put, one_get, one_exit}
use Rattle.c_memory.specs.Follows.{Fuel, fuel_of, worth, Mode, outer, in_use, here, Comes, Follows, OneLess}

pub worth_more : (d u : ℕ) → worth d (suc u) ≡ d + worth d u
unfolding worth
worth_more d u = refl

pub worth_none : (d : ℕ) → worth d 0 ≡ 0
unfolding worth
worth_none d = refl

-- fewer units pay for no more
pub worth_grows : (d u v : ℕ) → u ≤ v → worth d u ≤ worth d v
worth_grows d zero v le = omega (arith, worth_none d)
worth_grows d (suc u) zero le = absurd (omega (arith, le))
worth_grows d (suc u) (suc v) le = omega (arith, worth_more d u, worth_more d v, worth_grows d u v (omega (arith, le)))

abbrev pub Claim : Type 0 → Type 1
Claim A = A → State → Place → Machine → Type 0

module _ (p : Eir) (input : List ℕ) (mode : Mode) where
  pub comes_here : (a : Moment Config) (x : Fuel) → Comes p input mode a x 0 a x
  comes_here a x = record { count = 0; ends = refl; spent = omega arith; less = omega arith; down = omega arith; paid = omega arith }

  pub comes_then : {a b e : Moment Config} {x y z : Fuel} (c1 c2 c : ℕ) → Comes p input mode a x c1 b y → Comes p input mode b y c2 e z → c1 + c2 ≤ c → Comes p input mode a x c e z
  comes_then {a} c1 c2 c f g le = record {
    count = f.count + g.count;
    ends = run_from-add (eir_rule p) input a f.count g.count ∙ (ap (λ z. run_from (eir_rule p) input z g.count) f.ends ∙ g.ends);
    spent = omega (arith, f.spent, g.spent);
    less = omega (arith, f.less, g.less);
    down = omega (arith, f.down, g.down);
    paid = omega (arith, f.paid, g.paid, le);
  }

  pub comes_one : {a b : Moment Config} (x : Fuel) → applied (eir_rule p) input a ≡ b → Comes p input mode a x 1 b x
  comes_one x e = record { count = 1; ends = e; spent = omega arith; less = omega arith; down = omega arith; paid = omega arith }

  pub comes_quiet : (s : Place) (m : Machine) (st : State) (ops : List Op) (x : Fuel) → AreQuiet ops → Stands p s ops → Comes p input mode (here s m st) x (length ops) (here (behind_all s ops) (made_all ops m) st) x
  comes_quiet s m st ops x q h = record { count = length ops; ends = all_quiet p input s m st.taken st.output ops q h; spent = omega arith; less = omega arith; down = omega arith; paid = omega arith }

  pub looser : {a b : Moment Config} {x y : Fuel} (c1 c : ℕ) → Comes p input mode a x c1 b y → c1 ≤ c → Comes p input mode a x c b y
  looser c1 c f le = record { count = f.count; ends = f.ends; spent = f.spent; less = f.less; down = f.down; paid = omega (arith, f.paid, le) }

  -- some operations, and then what follows
  pub first_then : {A : Type 0} {a b : Moment Config} {x y : Fuel} (c1 c2 c : ℕ) (r : Outcome A) (Q : Claim A) → Comes p input mode a x c1 b y → Follows p input mode b y c2 r Q → c1 + c2 ≤ c → Follows p input mode a x c r Q
  first_then c1 c2 c (Gives v st) Q f (s, m, g, q) le = (s, m, comes_then c1 c2 c f g le, q)
  first_then c1 c2 c (Ended st) Q f (s, m, g, q) le = (s, m, comes_then c1 c2 c f g le, q)
  first_then c1 c2 c (Going st) Q f (s, m, n, g, q) le = (s, m, n, comes_then c1 c2 c f g le, q)
  first_then c1 c2 c (Undefined act st) Q f (s, m, z, g) le = (s, m, z, comes_then c1 c2 c f g le)

  -- one part, and then what follows from what it gave
  pub after_follows : {A B : Type 0} (a : Moment Config) (x : Fuel) (c1 c2 c : ℕ) (r : Outcome A) (k : A → Run B) (Q : Claim A) (R : Claim B)
      → Follows p input mode a x c1 r Q → ((v : A) (st : State) (s : Place) (m : Machine) → mode.gauge (fuel_of st) ≤ mode.gauge x → Q v st s m → Follows p input mode (here s m st) (fuel_of st) c2 (k v st) R) → c1 + c2 ≤ c → Follows p input mode a x c (after r k) R
  unfolding after
  after_follows a x c1 c2 c (Gives v st) k Q R (s, m, g, q) f le = first_then c1 c2 c (k v st) R g (f v st s m g.down q) le
  after_follows a x c1 c2 c (Ended st) k Q R (s, m, g, q) f le = (s, m, looser c1 c g (omega (arith, le)), q)
  after_follows a x c1 c2 c (Going st) k Q R (s, m, n, g, q) f le = (s, m, n, looser c1 c g (omega (arith, le)), q)
  after_follows a x c1 c2 c (Undefined act st) k Q R (s, m, z, g) f le = (s, m, z, looser c1 c g (omega (arith, le)))

  pub then_follows : {A B : Type 0} (a : Moment Config) (x : Fuel) (c1 c2 c : ℕ) (h : Run A) (st : State) (k : A → Run B) (Q : Claim A) (R : Claim B)
      → Follows p input mode a x c1 (h st) Q → ((v : A) (st : State) (s : Place) (m : Machine) → mode.gauge (fuel_of st) ≤ mode.gauge x → Q v st s m → Follows p input mode (here s m st) (fuel_of st) c2 (k v st) R) → c1 + c2 ≤ c → Follows p input mode a x c ((h >>= k) st) R
  unfolding ◌>>=◌
  then_follows a x c1 c2 c h st k Q R f g le = after_follows a x c1 c2 c (h st) k Q R f g le

  -- less is claimed
  pub wider : {A : Type 0} (a : Moment Config) (x : Fuel) (c1 c : ℕ) (r : Outcome A) (Q R : Claim A) → Follows p input mode a x c1 r Q → ((v : A) (st : State) (s : Place) (m : Machine) → Q v st s m → R v st s m) → c1 ≤ c → Follows p input mode a x c r R
  wider a x c1 c (Gives v st) Q R (s, m, g, q) k le = (s, m, looser c1 c g le, k v st s m q)
  wider a x c1 c (Ended st) Q R (s, m, g, q) k le = (s, m, looser c1 c g le, q)
  wider a x c1 c (Going st) Q R (s, m, n, g, q) k le = (s, m, n, looser c1 c g le, q)
  wider a x c1 c (Undefined act st) Q R (s, m, z, g) k le = (s, m, z, looser c1 c g le)

  -- some operations more behind what follows
  pub more_behind : {A : Type 0} (a : Moment Config) (x : Fuel) (c1 c2 c : ℕ) (r : Outcome A) (Q R : Claim A)
      → Follows p input mode a x c1 r Q → ((v : A) (st : State) (s : Place) (m : Machine) → Q v st s m → (s1 : Place) × (m1 : Machine) × Comes p input mode (here s m st) (fuel_of st) c2 (here s1 m1 st) (fuel_of st) × R v st s1 m1) → c1 + c2 ≤ c → Follows p input mode a x c r R
  more_behind a x c1 c2 c (Gives v st) Q R (s, m, g, q) k le = let z = k v st s m q in (z.0, z.1, comes_then c1 c2 c g z.2 le, z.3)
  more_behind a x c1 c2 c (Ended st) Q R (s, m, g, q) k le = (s, m, looser c1 c g (omega (arith, le)), q)
  more_behind a x c1 c2 c (Going st) Q R (s, m, n, g, q) k le = (s, m, n, looser c1 c g (omega (arith, le)), q)
  more_behind a x c1 c2 c (Undefined act st) Q R (s, m, z, g) k le = (s, m, z, looser c1 c g (omega (arith, le)))

  -- a value is given where it was asked for
  pub give_follows : {A : Type 0} (v : A) (s : Place) (m : Machine) (st : State) (c : ℕ) (Q : Claim A) → Q v st s m → Follows p input mode (here s m st) (fuel_of st) c (give v st) Q
  unfolding give
  give_follows v s m st c Q q = (s, m, looser 0 c (comes_here (here s m st) (fuel_of st)) (omega arith), q)

  -- an act that is undefined is followed at once
  pub undefined_follows : {A : Type 0} (act : Act) (s : Place) (m : Machine) (st : State) (x : Fuel) (c : ℕ) (Q : Claim A) → Follows p input mode (here s m st) x c (undefined act st) Q
  unfolding undefined
  undefined_follows act s m st x c Q = (s, m, x, looser 0 c (comes_here (here s m st) x) (omega arith))

  -- a rule that is kept has to be followed alone
  pub unless_follows : {A : Type 0} (b : Bool) (act : Act) (k : Run A) (s : Place) (m : Machine) (st : State) (x : Fuel) (c : ℕ) (Q : Claim A) → (b ≡ true → Follows p input mode (here s m st) x c (k st) Q) → Follows p input mode (here s m st) x c (unless b act k st) Q
  unfolding unless
  unless_follows true act k s m st x c Q f = f refl
  unless_follows false act k s m st x c Q f = undefined_follows act s m st x c Q

  pub choose_follows : {A : Type 0} (b : Bool) (k h : Run A) (a : Moment Config) (st : State) (x : Fuel) (c : ℕ) (Q : Claim A) → (b ≡ true → Follows p input mode a x c (k st) Q) → (b ≡ false → Follows p input mode a x c (h st) Q) → Follows p input mode a x c (choose b k h st) Q
  unfolding choose
  choose_follows true k h a st x c Q f g = f refl
  choose_follows false k h a st x c Q f g = g refl

  -- the objects as they are, and what follows of them
  pub objects_follow : {B : Type 0} (k : List Object → Run B) (a : Moment Config) (st : State) (x : Fuel) (c : ℕ) (R : Claim B) → Follows p input mode a x c (k st.objects st) R → Follows p input mode a x c ((objects_now >>= k) st) R
  unfolding objects_now ◌>>=◌ after
  objects_follow k a st x c R f = f

  -- ---- units

  pub paid_by_unit : {a b to : Moment Config} {x y z : Fuel} (u cb c : ℕ) → applied (eir_rule p) input a ≡ b → OneLess mode u x y → Comes p input mode b y cb to z → 1 + cb ≤ c + u → Comes p input mode a x c to z
  paid_by_unit {a} u cb c e o g le = record {
    count = 1 + g.count;
    ends = run_from-add (eir_rule p) input a 1 g.count ∙ (ap (λ z. run_from (eir_rule p) input z g.count) e ∙ g.ends);
    spent = omega (arith, g.spent, o.left);
    less = omega (arith, g.less, o.less);
    down = omega (arith, g.down, o.gauge);
    paid = omega (arith, g.paid, le, o.paid);
  }

  -- a unit pays for an operation and for what follows it
  pub unit_then : {A : Type 0} (a b : Moment Config) (x y : Fuel) (u cb c : ℕ) (r : Outcome A) (Q : Claim A) → applied (eir_rule p) input a ≡ b → OneLess mode u x y → Follows p input mode b y cb r Q → 1 + cb ≤ c + u → Follows p input mode a x c r Q
  unit_then a b x y u cb c (Gives v st) Q e o (s, m, g, q) le = (s, m, paid_by_unit u cb c e o g le, q)
  unit_then a b x y u cb c (Ended st) Q e o (s, m, g, q) le = (s, m, paid_by_unit u cb c e o g le, q)
  unit_then a b x y u cb c (Going st) Q e o (s, m, n, g, q) le = (s, m, n, paid_by_unit u cb c e o g le, q)
  unit_then a b x y u cb c (Undefined act st) Q e o (s, m, z, g) le = (s, m, z, paid_by_unit u cb c e o g le)

  -- a unit of the run is wanted: without one the run stands where it is
  pub unit_follows : {A : Type 0} (k : Run A) (s : Place) (m : Machine) (st : State) (c : ℕ) (Q : Claim A) → s.block < length p.blocks
      → ((l : ℕ) → st.left ≡ suc l → Follows p input mode (here s m st) (fuel_of st) c (k (record st { left = l })) Q) → Follows p input mode (here s m st) (fuel_of st) c (paid false k st) Q
  unfolding paid spend
  unit_follows {A} k s m st c Q inside f = go st.left refl
    where
      go : (l : ℕ) → st.left ≡ l → Follows p input mode (here s m st) (fuel_of st) c (spend k l st) Q
      go zero h = (s, m, st.spare, looser 0 c (subst (λ z. Comes p input mode (here s m st) (fuel_of st) 0 (here s m st) (record { left = z; spare = st.spare })) h (comes_here (here s m st) (fuel_of st))) (omega arith), inside)
      go (suc l) h = f l h

  -- a unit of the second fuel is wanted: without one the act is undefined
  pub spare_follows : {A : Type 0} (k : Run A) (s : Place) (m : Machine) (st : State) (c : ℕ) (Q : Claim A)
      → ((n : ℕ) → st.spare ≡ suc n → Follows p input mode (here s m st) (fuel_of st) c (k (record st { spare = n })) Q) → Follows p input mode (here s m st) (fuel_of st) c (paid true k st) Q
  unfolding paid spend_spare
  spare_follows {A} k s m st c Q f = go st.spare refl
    where
      go : (n : ℕ) → st.spare ≡ n → Follows p input mode (here s m st) (fuel_of st) c (spend_spare k n st) Q
      go zero h = (s, m, fuel_of st, looser 0 c (comes_here (here s m st) (fuel_of st)) (omega arith))
      go (suc n) h = f n h

  -- ---- input and output

  pub put_follows : (c : ℕ) (v : Operand) (s : Place) (m : Machine) (st : State) (Q : Claim (Unit {0})) → value_of m.regs v ≡ c → Has p s (Putc v) → Q tt (record st { output = st.output ++ c % 2 ^ 8 ∷ [] }) (behind s (Putc v)) m
      → Follows p input mode (here s m st) (fuel_of st) 1 (put c st) Q
  unfolding put
  put_follows c v s m st Q e h q =
      (behind s (Putc v), m, comes_one (fuel_of st) (one_put p input s m st.taken st.output v h ∙ ap (λ n. moment (behind s (Putc v)) m st.taken (st.output ++ n % 2 ^ 8 ∷ [])) e), q)

  pub byte_follows : (r : Reg) (s : Place) (m : Machine) (st : State) (Q : Claim ℕ) → Has p s (Getc r)
      → Q (input_at input st.taken) (record st { taken = st.taken + 1 }) (behind s (Getc r)) (record m { regs = with_reg m.regs r (input_at input st.taken) }) → Follows p input mode (here s m st) (fuel_of st) 1 (next_byte input st) Q
  unfolding next_byte
  byte_follows r s m st Q h q = (behind s (Getc r), record m { regs = with_reg m.regs r (input_at input st.taken) }, comes_one (fuel_of st) (one_get p input s m st.taken st.output r h), q)

  pub exit_follows : {A : Type 0} (s : Place) (m : Machine) (st : State) (Q : Claim A) → Has p s Exit → Follows p input mode (here s m st) (fuel_of st) 1 (exit st) Q
  unfolding exit
  exit_follows s m st Q h = (front (length p.blocks), m, comes_one (fuel_of st) (one_exit p input s m st.taken st.output h), omega arith)

  -- ---- charges

  -- within the limit, the charge is live while the call is, and is then as before
  pub charged_follows : {A : Type 0} (n : ℕ) (k : Run A) (s : Place) (m : Machine) (st : State) (c : ℕ) (Q : Claim A)
      → (st.charge + n ≤ most_charge → Follows p input mode (here s m st) (fuel_of st) c (k (record st { charge = st.charge + n })) (λ v after s m. Q v (record after { charge = st.charge }) s m)) → Follows p input mode (here s m st) (fuel_of st) c (charged n k st) Q
  unfolding charged charged_by recharged after
  charged_follows {A} n k s m st c Q f = go (nat_le (st.charge + n) most_charge) refl
    where
      back : (r : Outcome A) → Follows p input mode (here s m st) (fuel_of st) c r (λ v after s m. Q v (record after { charge = st.charge }) s m) → Follows p input mode (here s m st) (fuel_of st) c (after r (recharged st.charge)) Q
      back (Gives v after) h = h
      back (Ended after) h = h
      back (Going after) h = h
      back (Undefined act after) h = h

      go : (b : Bool) → nat_le (st.charge + n) most_charge ≡ b → Follows p input mode (here s m st) (fuel_of st) c (charged_by b n k st) Q
      go false h = (s, m, fuel_of st, looser 0 c (comes_here (here s m st) (fuel_of st)) (omega arith))
      go true h = back (k (record st { charge = st.charge + n })) (f (grind (arith, h)))

-- ---- the modes

pub outer_less : (d : ℕ) (l n : ℕ) → OneLess (outer d) d (record { left = suc l; spare = n }) (record { left = l; spare = n })
outer_less d l n = record { left = omega arith; less = omega arith; gauge = omega arith; paid = omega (arith, worth_more d l) }

-- a unit of the run, and one of the second fuel, in a use
pub use_less : (d h r l n : ℕ) → OneLess (in_use d h r) d (record { left = suc l; spare = n }) (record { left = l; spare = n })
use_less d h r l n = record { left = omega arith; less = omega arith; gauge = omega (arith, worth_more (suc r) l); paid = omega (arith, worth_more d l) }

pub spare_less : (d h r l n : ℕ) → OneLess (in_use d h r) h (record { left = l; spare = suc n }) (record { left = l; spare = n })
spare_less d h r l n = record { left = omega arith; less = omega arith; gauge = omega arith; paid = omega (arith, worth_more h n) }

module _ (p : Eir) (input : List ℕ) where
  -- a use, seen from outside: its second fuel is paid for at once
  pub use_outside : {a b : Moment Config} {x y : Fuel} (d h r c spare n : ℕ) → Comes p input (in_use d h r) a (record { left = x.left; spare = spare }) c b y → Comes p input (outer d) a x (c + worth h spare) b (record { left = y.left; spare = n })
  use_outside d h r c spare n f = record { count = f.count; ends = f.ends; spent = f.spent; less = f.less; down = f.less; paid = omega (arith, f.paid) }

  pub helped_follows : {A : Type 0} (d h r c : ℕ) (k : Run A) (a : Moment Config) (st : State) (Q : Claim A)
      → Follows p input (in_use d h r) a (record { left = st.left; spare = r }) c (k (record st { spare = r; words = 0 })) (λ v after s m. Q v (behind_use st after) s m) → Follows p input (outer d) a (fuel_of st) (c + worth h r) (helped r k st) Q
  unfolding helped leaving
  helped_follows {A} d h r c k a st Q f = go (k (record st { spare = r; words = 0 })) f
    where
      go : (o : Outcome A) → Follows p input (in_use d h r) a (record { left = st.left; spare = r }) c o (λ v after s m. Q v (behind_use st after) s m) → Follows p input (outer d) a (fuel_of st) (c + worth h r) (leaving (behind_use st) o) Q
      go (Gives v after) (s, m, g, q) = (s, m, use_outside {x = fuel_of st} d h r c r st.spare g, q)
      go (Ended after) (s, m, g, q) = (s, m, use_outside {x = fuel_of st} d h r c r st.spare g, q)
      go (Going after) (s, m, n, g, q) = (s, m, n, use_outside {x = fuel_of st} d h r c r n g, q)
      go (Undefined act after) (s, m, z, g) = (s, m, z, use_outside {x = fuel_of st} d h r c r z.spare g)

  -- a call of a helper function: its charge is live until it returns, and its objects go away
  pub own_charged_follows : {A : Type 0} (mode : Mode) (n c : ℕ) (k : Run A) (s : Place) (m : Machine) (st : State) (Q : Claim A)
      → (st.words + n ≤ 1024 → Follows p input mode (here s m st) (fuel_of st) c (k (record st { words = st.words + n })) (λ v after s m. Q v (behind_helper st after) s m)) → Follows p input mode (here s m st) (fuel_of st) c (own_charged n k st) Q
  unfolding own_charged own_charged_by leaving
  own_charged_follows {A} mode n c k s m st Q f = go (nat_le (st.words + n) 1024) refl
    where
      back : (o : Outcome A) → Follows p input mode (here s m st) (fuel_of st) c o (λ v after s m. Q v (behind_helper st after) s m) → Follows p input mode (here s m st) (fuel_of st) c (leaving (behind_helper st) o) Q
      back (Gives v after) h = h
      back (Ended after) h = h
      back (Going after) h = h
      back (Undefined act after) h = h

      go : (b : Bool) → nat_le (st.words + n) 1024 ≡ b → Follows p input mode (here s m st) (fuel_of st) c (own_charged_by b n k st) Q
      go false h = (s, m, fuel_of st, looser p input mode 0 c (comes_here p input mode (here s m st) (fuel_of st)) (omega arith))
      go true h = back (k (record st { words = st.words + n })) (f (grind (arith, h)))
