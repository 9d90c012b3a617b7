-- Parts of runs that do the same in valid states.
use Rattle.std.proofs.Common.{◌≡◌, Option, Some, None, Bool, true, false, refl, sym, ◌∙◌, subst}
use Rattle.c_syntax.specs.declared.tree.BinOp.{BinOp}
use Rattle.c_syntax.specs.declared.tree.BinOp.TheVariants as binary
use Rattle.c_types.specs.Types.{CType, Tags}
use Rattle.c_eval.specs.State.{Value, Word, State, Run}
use Rattle.c_eval.specs.Run.{◌>>=◌, give, choose}
use Rattle.c_eval.specs.Operators.{used, sum, operated, combined, is_true, truth_value, assigned, updated}
use Rattle.c_eval.specs.Eval.{World, assignment, element}
use Rattle.c_valid.specs.Valid.{IsValid, StateIsValid, IsKept}
use Rattle.c_valid.proofs.Keeping.{Keeps}
use Rattle.c_fewer_values.proofs.Runs.{bind_same, first_is}

-- in each valid state the one does what the other does
abbrev pub Agree : {A : Type 0} → Run A → Run A → Type 0
Agree m n = (st : State) → StateIsValid st → m st ≡ n st

pub used_agree : (m n : Run Value) → Agree m n → Agree (m >>= used) (n >>= used)
used_agree m n h st v = first_is m n used st (h st v)

-- what follows does the same too
pub bind_agree : {A B : Type 0} (G : A → Type 0) (m n : Run A) (f g : A → Run B) → Agree m n → Keeps G n → ((a : A) → G a → Agree (f a) (g a)) → Agree (m >>= f) (n >>= g)
bind_agree G m n f g h k each st v = first_is m n f st (h st v) ∙ bind_same G n f g st k v (λ a st x y. each a x st y)

pub keeps_agree : (G : Value → Type 0) (m n : Run Value) → Agree m n → (st : State) → StateIsValid st → IsKept G (n st) → IsKept G (m st)
keeps_agree G m n h st v k = subst (λ r. IsKept G r) (sym (h st v)) k

choose_agree : {A : Type 0} (b : Bool) (m n o p : Run A) → Agree m o → Agree n p → Agree (choose b m n) (choose b o p)
unfolding choose
choose_agree true m n o p h k = h
choose_agree false m n o p h k = k

pub chosen_agree : {A : Type 0} (b : Bool) (m n o p : Run A) → Agree m o → Agree n p → Agree (choose b m n) (choose b o p)
chosen_agree b m n o p h k = choose_agree b m n o p h k

itself : {A : Type 0} (m : Run A) → Agree m m
itself m st v = refl

pub combined_agree : (tags : Tags) (op : BinOp) (t u : CType) (a' a b' b : Run Value) → Agree a' a → Agree b' b → Keeps IsValid a → Agree (combined tags op t u a' b') (combined tags op t u a b)
unfolding combined
combined_agree tags binary.And t u a' a b' b h k keeps =
    bind_agree IsValid a' a (λ x. choose (is_true x) (b' >>= λ y. give (truth_value (is_true y))) (give (Word 0))) (λ x. choose (is_true x) (b >>= λ y. give (truth_value (is_true y))) (give (Word 0))) h keeps
    (λ x vx. choose_agree (is_true x) _ _ _ _ (λ st v. first_is b' b (λ y. give (truth_value (is_true y))) st (k st v)) (itself (give (Word 0))))
combined_agree tags binary.Or t u a' a b' b h k keeps =
    bind_agree IsValid a' a (λ x. choose (is_true x) (give (Word 1)) (b' >>= λ y. give (truth_value (is_true y)))) (λ x. choose (is_true x) (give (Word 1)) (b >>= λ y. give (truth_value (is_true y)))) h keeps
    (λ x vx. choose_agree (is_true x) _ _ _ _ (itself (give (Word 1))) (λ st v. first_is b' b (λ y. give (truth_value (is_true y))) st (k st v)))
combined_agree tags op t u a' a b' b h k keeps =
    bind_agree IsValid a' a (λ x. b' >>= λ y. operated tags op t u x y) (λ x. b >>= λ y. operated tags op t u x y) h keeps (λ x vx st v. first_is b' b (λ y. operated tags op t u x y) st (k st v))

pub assignment_agree : (w : World) (tags : Tags) (op : Option BinOp) (t u : CType) (a' a b' b : Run Value) → Agree a' a → Agree b' b → Keeps IsValid a → Agree (assignment w tags op t u a' b') (assignment w tags op t u a b)
unfolding assignment
assignment_agree w tags None t u a' a b' b h k keeps =
    bind_agree IsValid a' a (λ p. b' >>= λ v. assigned t p v) (λ p. b >>= λ v. assigned t p v) h keeps (λ p vp st v. first_is b' b (λ v. assigned t p v) st (k st v))
assignment_agree w tags (Some op) t u a' a b' b h k keeps =
    bind_agree IsValid a' a (λ p. b' >>= λ y. updated tags op t u p y) (λ p. b >>= λ y. updated tags op t u p y) h keeps (λ p vp st v. first_is b' b (λ y. updated tags op t u p y) st (k st v))

pub element_agree : (w : World) (tags : Tags) (t u : CType) (a' a b' b : Run Value) → Agree a' a → Agree b' b → Keeps IsValid a → Agree (element w tags t u a' b') (element w tags t u a b)
unfolding element
element_agree w tags t u a' a b' b h k keeps =
    bind_agree IsValid a' a (λ x. b' >>= λ y. sum tags t u x y) (λ x. b >>= λ y. sum tags t u x y) h keeps (λ x vx st v. first_is b' b (λ y. sum tags t u x y) st (k st v))
