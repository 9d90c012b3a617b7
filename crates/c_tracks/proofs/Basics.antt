-- Parts of steps on both sides.
use Rattle.std.proofs.Common.{◌≡◌, ℕ, zero, suc, false, List, [], Result, refl, sym, ap, subst}
use Rattle.c_eval.specs.State as run
use Rattle.c_eval.specs.State.{State, Outcome, Run}
use Rattle.c_eval.specs.Run.{after, give, undefined, spend, paid}
use Rattle.c_code.specs.Machine as code
use Rattle.c_code.specs.Machine.{Control, with_top, with_two}
use Rattle.c_rule.specs.Stepping.{Store, fresh}
use Rattle.c_store.specs.declared.act.Act.{Act}
use Rattle.c_store.specs.declared.act.Act.TheVariants as act
use Rattle.c_store.specs.Values.{Value}
use Rattle.c_resolved.specs.Same.{Tables, Same, SameValues, no_value, more_values, lengths_of, Agree, gives, acts}
use Rattle.c_plain.specs.Machine as plain
use Rattle.c_plain.specs.Machine.{Machine, Step, quiet, unless_act, on_top, on_two, onward}
use Rattle.c_tracks.specs.Tracks.{TracksAt, Follows, goes, wants, stops}

-- a part that changes nothing, and what follows it
pub result : {base : List ℕ} → {A B : Type 0} → (t : Tables) (R : A → B → Type 0) (st : State) (f : A → Run Control) (g : B → Step) → {o : Outcome A} → {r : Result B Act} → st.output ≡ [] → Agree R st o r
    → ((a : A) (b : B) → R a b → Follows base t (f a st) (g b)) → Follows base t (after o f) (unless_act r g)
unfolding after
result t R st f g e (gives {a} {b} same) next = next a b same
result t R st f g e (acts a) next = stops a e

module _ {base : List ℕ} (t : Tables) (lengths : List ℕ) (st : State) (silent : st.output ≡ []) where
  pub top : (f : run.Value → List run.Value → Run Control) (g : Value → List Value → Step) → {stack : List run.Value} → {values : List Value} → SameValues t lengths stack values
      → ((v : run.Value) (rest : List run.Value) (w : Value) (others : List Value) → Same t lengths v w → SameValues t lengths rest others → Follows base t (f v rest st) (g w others)) → Follows base t (with_top stack f st) (on_top values g)
  unfolding with_top undefined
  top f g no_value next = stops act.HelperLimit silent
  top f g (more_values {v} {w} {vs} {ws} same rest) next = next v vs w ws same rest

  pub two : (f : run.Value → run.Value → List run.Value → Run Control) (g : Value → Value → List Value → Step) → {stack : List run.Value} → {values : List Value} → SameValues t lengths stack values
      → ((x y : run.Value) (rest : List run.Value) (v w : Value) (others : List Value) → Same t lengths x v → Same t lengths y w → SameValues t lengths rest others → Follows base t (f x y rest st) (g v w others)) → Follows base t (with_two stack f st) (on_two values g)
  unfolding with_two undefined
  two f g no_value next = stops act.HelperLimit silent
  two f g (more_values s no_value) next = stops act.HelperLimit silent
  two f g (more_values {v = y} {w = w} same (more_values {v = x} {w = v} {vs = vs} {ws = ws} alike rest)) next = next x y vs v w ws alike same rest

-- a unit is spent on both sides
spent : {base : List ℕ} → (t : Tables) (c : Control) (s : Store) (m : Machine) → TracksAt base t c s m → (f : Run Control) (g : Machine → Step) → ((left : ℕ) → TracksAt base t c (record s { left = left }) (record m { left = left }) → Follows base t (f (fresh (record s { left = left }))) (g (record m { left = left })))
    → (n : ℕ) → Follows base t (spend f n (fresh s)) (plain.spend n m g)
unfolding spend
spent t c s m tracks f g next zero = wants refl
spent t c s m tracks f g next (suc n) = next n (record { at = tracks.at; values = tracks.values; slots = tracks.slots; opened = tracks.opened; memory = tracks.memory; files = tracks.files; left = refl; charge = tracks.charge })

pub unit : {base : List ℕ} → (t : Tables) (c : Control) (s : Store) (m : Machine) → TracksAt base t c s m → (f : Run Control) (g : Machine → Step) → ((left : ℕ) → TracksAt base t c (record s { left = left }) (record m { left = left }) → Follows base t (f (fresh (record s { left = left }))) (g (record m { left = left })))
    → Follows base t (paid false f (fresh s)) (plain.paid m g)
unfolding paid
unit {base} t c s m tracks f g next = subst (λ (n : ℕ). Follows base t (spend f s.left (fresh s)) (plain.spend n m g)) (sym tracks.left) (spent t c s m tracks f g next s.left)

-- ---- machines that go on

module _ {base : List ℕ} (t : Tables) (c : Control) (s : Store) (m : Machine) (tracks : TracksAt base t c s m) where
  -- a value comes on top of these
  pub push : (v : run.Value) (w : Value) (rest : List run.Value) (others : List Value) → Same t (lengths_of s.objects) v w → SameValues t (lengths_of s.objects) rest others
      → TracksAt base t (code.pushed c rest v) s (plain.pushed m others w)
  push v w rest others same below = record {
    at = ap suc tracks.at;
    values = more_values same below;
    slots = tracks.slots;
    opened = tracks.opened;
    memory = tracks.memory;
    files = tracks.files;
    left = tracks.left;
    charge = tracks.charge;
  }

  -- other values, and another instruction
  pub stand : (at place : ℕ) (rest : List run.Value) (others : List Value) → place ≡ at → SameValues t (lengths_of s.objects) rest others
      → TracksAt base t (record c { at = at; stack = rest }) s (record (plain.with_values m others) { at = place })
  stand at place rest others e below = record {
    at = e;
    values = below;
    slots = tracks.slots;
    opened = tracks.opened;
    memory = tracks.memory;
    files = tracks.files;
    left = tracks.left;
    charge = tracks.charge;
  }

  pub pushes : (v : run.Value) (w : Value) (rest : List run.Value) (others : List Value) → Same t (lengths_of s.objects) v w → SameValues t (lengths_of s.objects) rest others
      → Follows base t (give (code.pushed c rest v) (fresh s)) (quiet (plain.pushed m others w))
  unfolding give
  pushes v w rest others same below = goes (push v w rest others same below) refl

  pub stands : (at place : ℕ) (rest : List run.Value) (others : List Value) → place ≡ at → SameValues t (lengths_of s.objects) rest others
      → Follows base t (give (record c { at = at; stack = rest }) (fresh s)) (quiet (record (plain.with_values m others) { at = place }))
  unfolding give
  stands at place rest others e below = goes (stand at place rest others e below) refl
