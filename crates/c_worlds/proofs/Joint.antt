-- Parts of runs that do the same from valid states, and keep both the functions to which pointers point and the validity of values.
use Rattle.std.proofs.Common.{◌≡◌, ℕ, zero, suc, ◌≤◌, arith, ◌+◌, List, [], ◌∷◌, ◌++◌, length, Bool, true, false, refl, ap, ◌∙◌, map, take, drop}
use Rattle.std.specs.Prelude.{if◌then◌else◌}
use Rattle.c_eval.specs.State.{Value, Word, Null, Point, Letter, Function, Missing, Cell, Object, Act, OtherKind, State, Outcome, Gives, Ended, Going, Undefined, Run}
use Rattle.c_eval.specs.Run.{after, ◌>>=◌, give, undefined, choose, spend, spend_spare, paid, stop}
use Rattle.c_eval.specs.Memory.{live_object, dead, enter, leave, within}
use Rattle.c_eval.specs.Operators.{of_word}
use Rattle.c_valid.specs.Valid as valid
use Rattle.c_valid.specs.Valid.{StateIsValid, ObjectsAreValid}
use Rattle.c_valid.proofs.Keeping.{Keeps, bind_keeps, give_keeps, undefined_keeps, stop_keeps, objects_now_keeps, with_objects_keeps}
use Rattle.c_valid.proofs.Objects.{NewAreValid, entered_valid}
use Rattle.c_worlds.specs.Named.{StateIsNamed, IsKept}
use Rattle.c_worlds.proofs.Parts.{Any, Goes, give_goes, undefined_goes, stop_goes, NewAreNamed, enter_goes, leave_goes}

-- from each such valid state the first does what the second does, which leads to one; what is given is as told on both counts
pub record Both (P : List ℕ → Type 0) (limit : ℕ) {A : Type 0} (G V : A → Type 0) (m n : Run A) : Type 0 where
  pub both : (st : State) → StateIsNamed P limit st → StateIsValid st → (m st ≡ n st) × IsKept P limit G (n st) × valid.IsKept V (n st)

module _ (P : List ℕ → Type 0) (limit : ℕ) where
  pub after_both : {A B : Type 0} (G V : A → Type 0) (H W : B → Type 0) (r : Outcome A) (f g : A → Run B) → IsKept P limit G r → valid.IsKept V r → ((a : A) → G a → V a → Both P limit H W (f a) (g a)) → (after r f ≡ after r g) × IsKept P limit H (after r g) × valid.IsKept W (after r g)
  unfolding after
  after_both G V H W (Gives a st) f g k q t = (t a k.0 q.0).both st k.1 q.1
  after_both G V H W (Ended st) f g k q t = (refl, k, q)
  after_both G V H W (Going st) f g k q t = (refl, k, q)
  after_both G V H W (Undefined act st) f g k q t = (refl, k, q)

  pub bind_both : {A B : Type 0} {G V : A → Type 0} {H W : B → Type 0} {m n : Run A} {f g : A → Run B} → Both P limit G V m n → ((a : A) → G a → V a → Both P limit H W (f a) (g a)) → Both P limit H W (m >>= f) (n >>= g)
  unfolding ◌>>=◌
  bind_both {G = G} {V = V} {H = H} {W = W} {m = m} {n = n} {f = f} {g = g} k t = record {
    both = λ st s v.
        let x = k.both st s v in
        let y = after_both G V H W (n st) f g x.1 x.2 t in
        (ap (λ r. after r f) x.0 ∙ y.0, y.1, y.2);
  }

  -- what is known on each count
  pub leaf : {A : Type 0} {G V : A → Type 0} {m n : Run A} → Goes P limit G m n → Keeps V n → Both P limit G V m n
  leaf g k = record { both = λ st s v. let x = g.goes st s in (x.0, x.1, k.keeps st v) }

  pub give_both : {A : Type 0} {G V : A → Type 0} (a : A) → G a → V a → Both P limit G V (give a) (give a)
  give_both a g v = leaf (give_goes P limit a g) (give_keeps a v)

  pub undefined_both : {A : Type 0} {G V : A → Type 0} (act : Act) → Both P limit {A = A} G V (undefined act) (undefined act)
  undefined_both act = leaf (undefined_goes P limit act) (undefined_keeps act)

  pub stop_both : {A : Type 0} {G V : A → Type 0} → Both P limit {A = A} G V stop stop
  stop_both = leaf (stop_goes P limit) stop_keeps

  pub choose_both : {A : Type 0} {G V : A → Type 0} (b : Bool) {m n o p : Run A} → Both P limit G V m o → Both P limit G V n p → Both P limit G V (choose b m n) (choose b o p)
  unfolding choose
  choose_both true t u = t
  choose_both false t u = u

  pub if_both : {A : Type 0} {G V : A → Type 0} (b : Bool) {m n o p : Run A} → Both P limit G V m o → Both P limit G V n p → Both P limit G V (if b then m else n) (if b then o else p)
  if_both true t u = t
  if_both false t u = u

  spend_both : {A : Type 0} (G V : A → Type 0) (i : ℕ) (m n : Run A) (st : State) → Both P limit G V m n → i ≤ limit → StateIsNamed P limit st → StateIsValid st → (spend m i st ≡ spend n i st) × IsKept P limit G (spend n i st) × valid.IsKept V (spend n i st)
  unfolding spend
  spend_both G V zero m n st k le s v = (refl, s, v)
  spend_both G V (suc i) m n st k le s v = let fewer : i ≤ limit = omega (arith, le) in k.both (record st { left = i }) (s.0, fewer) v

  spare_both : {A : Type 0} (G V : A → Type 0) (i : ℕ) (m n : Run A) (st : State) → Both P limit G V m n → StateIsNamed P limit st → StateIsValid st → (spend_spare m i st ≡ spend_spare n i st) × IsKept P limit G (spend_spare n i st) × valid.IsKept V (spend_spare n i st)
  unfolding spend_spare
  spare_both G V zero m n st k s v = (refl, s, v)
  spare_both G V (suc i) m n st k s v = k.both (record st { spare = i }) s v

  pub paid_both : {A : Type 0} {G V : A → Type 0} (inner : Bool) {m n : Run A} → Both P limit G V m n → Both P limit G V (paid inner m) (paid inner n)
  unfolding paid
  paid_both {G = G} {V = V} false {m = m} {n = n} k = record { both = λ st s v. spend_both G V st.left m n st k s.1 s v }
  paid_both {G = G} {V = V} true {m = m} {n = n} k = record { both = λ st s v. spare_both G V st.spare m n st k s v }

  pub of_word_both : {A : Type 0} {G V : A → Type 0} (x : Value) {f g : ℕ → Run A} → ((n : ℕ) → Both P limit G V (f n) (g n)) → Both P limit G V (of_word x f) (of_word x g)
  unfolding of_word
  of_word_both (Word n) t = t n
  of_word_both Missing t = undefined_both OtherKind
  of_word_both Null t = undefined_both OtherKind
  of_word_both (Point o k) t = undefined_both OtherKind
  of_word_both (Letter f i text k) t = undefined_both OtherKind
  of_word_both (Function f) t = undefined_both OtherKind

  -- ---- blocks

  enter_keeps : (new : List (List Cell)) → NewAreValid new → Keeps Any (enter new)
  unfolding enter
  enter_keeps new fits = bind_keeps objects_now_keeps (λ os v. bind_keeps (with_objects_keeps (os ++ map live_object new) (entered_valid os new v fits)) (λ _ _. give_keeps (length os) tt))

  left_valid : (i : ℕ) (os : List Object) → ObjectsAreValid os → ObjectsAreValid (take i os ++ map dead (drop i os))
  left_valid zero [] v = tt
  left_valid zero (x ∷ xs) v = (v.0, left_valid zero xs v.1)
  left_valid (suc i) [] v = tt
  left_valid (suc i) (x ∷ xs) v = (v.0, left_valid i xs v.1)

  leave_keeps : (i : ℕ) → Keeps Any (leave i)
  unfolding leave
  leave_keeps i = bind_keeps objects_now_keeps (λ os v. with_objects_keeps (take i os ++ map dead (drop i os)) (left_valid i os v))

  pub within_both : {A : Type 0} {G V : A → Type 0} (new : List (List Cell)) {f g : ℕ → Run A} → NewAreNamed P limit new → NewAreValid new → ((i : ℕ) → Both P limit G V (f i) (g i)) → Both P limit G V (within new f) (within new g)
  unfolding within
  within_both new named fits t = bind_both (leaf (enter_goes P limit new named) (enter_keeps new fits)) (λ i _ _. bind_both (t i) (λ a h q. bind_both (leaf (leave_goes P limit i) (leave_keeps i)) (λ _ _ _. give_both a h q)))
