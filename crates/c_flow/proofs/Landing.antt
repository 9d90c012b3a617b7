-- Code that leaves one value on the stack.
use Rattle.std.proofs.Common.{◌≡◌, ℕ, suc, ◌+◌, List, [], ◌∷◌, ◌++◌, length, Option, false, refl, ap, ◌∙◌}
use Rattle.std.specs.Prelude.{not}
use Rattle.c_syntax.specs.declared.tree.UnOp.{UnOp}
use Rattle.c_syntax.specs.declared.tree.StepOp.{StepOp}
use Rattle.c_syntax.specs.declared.tree.BinOp.TheVariants as binary
use Rattle.c_syntax.specs.declared.tree.BinOp.{BinOp}
use Rattle.c_types.specs.Types.{CType, Int, Tags}
use Rattle.c_eval.specs.State.{Value, Word, Missing, State, Gives, Run}
use Rattle.c_eval.specs.Run.{after, ◌>>=◌, give}
use Rattle.c_eval.specs.Memory.{kind_of, member_at}
use Rattle.c_eval.specs.Operators.{used, is_true, truth_value, converted, on_word, sum, operated, assigned, updated, value_at, pointed_value}
use Rattle.c_eval.specs.Eval.{step_op}
use Rattle.c_eval.proofs.Following.{bind_follows, give_follows}
use Rattle.c_eval.proofs.Parts.{load_follows, member_at_follows, used_follows, sum_follows, operated_follows, on_word_follows, value_at_follows, pointed_value_follows, assigned_follows, updated_follows}
use Rattle.c_code.specs.Code as code
use Rattle.c_code.specs.Code.{Instruction}
use Rattle.c_code.specs.Machine.{Control, with_top, with_two, step_at_place, step_of}
use Rattle.c_flow.proofs.Leading.{Bounded, Keeps, Leads, moved, kept, give_keeps, leads_then, leads_step}
use Rattle.c_flow.proofs.Standing.{Stands, stands_first, stands_rest, one_on, behind_one, behind_two}

-- in a frame with these slots, code does what a run does and leaves its value on the stack
abbrev pub Lands : Bounded → List (Option ℕ) → List Instruction → Run Value → Type 0
Lands p slots is m = (c : Control) (to : ℕ) → to ≡ c.at + length is → c.slots ≡ slots → Stands p.program c.at is → Leads p (give c) m (λ v. give (moved c to (v ∷ c.stack)))

-- an instruction on the value on top, and on the two on top
pub record TopDoes (p : Bounded) (i : Instruction) (g : Value → Run Value) : Type 0 where
  pub does : (c : Control) (at : ℕ) (v : Value) (rest : List Value) (st : State) → step_of p.program i (moved c at (v ∷ rest)) st ≡ after (g v st) (λ w. give (moved c (suc at) (w ∷ rest)))
  pub keeps : (v : Value) → Keeps p.depth (g v)

pub record TwoDo (p : Bounded) (i : Instruction) (g : Value → Value → Run Value) : Type 0 where
  pub does : (c : Control) (at : ℕ) (x y : Value) (rest : List Value) (st : State) → step_of p.program i (moved c at (y ∷ x ∷ rest)) st ≡ after (g x y st) (λ w. give (moved c (suc at) (w ∷ rest)))
  pub keeps : (x y : Value) → Keeps p.depth (g x y)

pub push_lands : (p : Bounded) (slots : List (Option ℕ)) (v : Value) → Lands p slots (code.Push v ∷ []) (give v)
unfolding give after step_of ◌>>=◌
push_lands p slots v c to e sl s = leads_step p c (give v) (λ v. give (moved c to (v ∷ c.stack))) (code.Push v) s.0 (give_keeps v) (λ st. ap (λ t. Gives (moved c t (v ∷ c.stack)) st) (one_on c.at to e))

pub then_top : (p : Bounded) (slots : List (Option ℕ)) (is : List Instruction) (i : Instruction) (m : Run Value) (g : Value → Run Value) → TopDoes p i g → Lands p slots is m → Lands p slots (is ++ i ∷ []) (m >>= g)
unfolding ◌>>=◌
then_top p slots is i m g d t c to e sl s =
    leads_then p (λ v. give (moved c (c.at + length is) (v ∷ c.stack))) (t c (c.at + length is) refl sl (stands_first p.program c.at is (i ∷ []) s))
    (λ v. leads_step p (moved c (c.at + length is) (v ∷ c.stack)) (g v) (λ w. give (moved c to (w ∷ c.stack))) i (stands_rest p.program c.at (c.at + length is) is (i ∷ []) refl s).0 (d.keeps v)
    (λ st. d.does c (c.at + length is) v c.stack st ∙ ap (λ k. after (g v st) (λ w. give (moved c k (w ∷ c.stack)))) (behind_one c.at to is i e)))

pub then_two : (p : Bounded) (slots : List (Option ℕ)) (is js : List Instruction) (i : Instruction) (m m' : Run Value) (g : Value → Value → Run Value) → TwoDo p i g → Lands p slots is m → Lands p slots js m' →
    Lands p slots (is ++ (js ++ i ∷ [])) (m >>= λ x. m' >>= λ y. g x y)
unfolding ◌>>=◌
then_two p slots is js i m m' g d t u c to e sl s =
    let mid : ℕ = c.at + length is in
    let behind = stands_rest p.program c.at mid is (js ++ i ∷ []) refl s in
    leads_then p (λ x. give (moved c mid (x ∷ c.stack))) (t c mid refl sl (stands_first p.program c.at is (js ++ i ∷ []) s))
    (λ x. leads_then p (λ y. give (moved c (mid + length js) (y ∷ x ∷ c.stack))) (u (moved c mid (x ∷ c.stack)) (mid + length js) refl sl (stands_first p.program mid js (i ∷ []) behind))
    (λ y. leads_step p (moved c (mid + length js) (y ∷ x ∷ c.stack)) (g x y) (λ w. give (moved c to (w ∷ c.stack))) i (stands_rest p.program mid (mid + length js) js (i ∷ []) refl behind).0 (d.keeps x y)
    (λ st. d.does c (mid + length js) x y c.stack st ∙ ap (λ k. after (g x y st) (λ w. give (moved c k (w ∷ c.stack)))) (behind_two c.at to is js i e))))

-- ---- instructions

pub use_does : (p : Bounded) → TopDoes p code.Use used
unfolding step_of with_top ◌>>=◌
use_does p = record { does = λ c at v rest st. refl; keeps = λ v. kept (used_follows v) }

pub fetch_does : (p : Bounded) (t : CType) → TopDoes p (code.Fetch t) (λ v. value_at false t v)
unfolding step_of with_top ◌>>=◌
fetch_does p t = record { does = λ c at v rest st. refl; keeps = λ v. kept (value_at_follows false t v (λ asked. refl)) }

pub follow_does : (p : Bounded) (t : CType) → TopDoes p (code.Follow t) (λ v. pointed_value false t v)
unfolding step_of with_top ◌>>=◌
follow_does p t = record { does = λ c at v rest st. refl; keeps = λ v. kept (pointed_value_follows false t v (λ asked. refl)) }

pub member_does : (p : Bounded) (n : ℕ) → TopDoes p (code.Member n) (λ v. member_at n v)
unfolding step_of with_top ◌>>=◌
member_does p n = record { does = λ c at v rest st. refl; keeps = λ v. kept (member_at_follows n v) }

pub one_word_does : (p : Bounded) (op : UnOp) → TopDoes p (code.OneWord op) (λ v. on_word op v)
unfolding step_of with_top ◌>>=◌
one_word_does p op = record { does = λ c at v rest st. refl; keeps = λ v. kept (on_word_follows op v) }

pub negate_does : (p : Bounded) → TopDoes p code.Negate (λ v. give (truth_value (not (is_true v))))
unfolding step_of with_top ◌>>=◌ give after
negate_does p = record { does = λ c at v rest st. refl; keeps = λ v. give_keeps (truth_value (not (is_true v))) }

pub truth_does : (p : Bounded) → TopDoes p code.Truth (λ v. give (truth_value (is_true v)))
unfolding step_of with_top ◌>>=◌ give after
truth_does p = record { does = λ c at v rest st. refl; keeps = λ v. give_keeps (truth_value (is_true v)) }

pub convert_does : (p : Bounded) (t : CType) → TopDoes p (code.Convert t) (λ v. give (converted t v))
unfolding step_of with_top ◌>>=◌ give after
convert_does p t = record { does = λ c at v rest st. refl; keeps = λ v. give_keeps (converted t v) }

pub forget_does : (p : Bounded) → TopDoes p code.Forget (λ v. give Missing)
unfolding step_of with_top ◌>>=◌ give after
forget_does p = record { does = λ c at v rest st. refl; keeps = λ v. give_keeps Missing }

pub operate_does : (p : Bounded) (tags : Tags) (op : BinOp) (t u : CType) → TwoDo p (code.Operate tags op t u) (λ x y. operated tags op t u x y)
unfolding step_of with_two ◌>>=◌
operate_does p tags op t u = record { does = λ c at x y rest st. refl; keeps = λ x y. kept (operated_follows tags op t u x y) }

pub assign_does : (p : Bounded) (t : CType) → TwoDo p (code.Assign t) (λ x y. assigned t x y)
unfolding step_of with_two ◌>>=◌
assign_does p t = record { does = λ c at x y rest st. refl; keeps = λ x y. kept (assigned_follows t x y) }

pub update_does : (p : Bounded) (tags : Tags) (op : BinOp) (t u : CType) → TwoDo p (code.Update tags op t u) (λ x y. updated tags op t u x y)
unfolding step_of with_two ◌>>=◌
update_does p tags op t u = record { does = λ c at x y rest st. refl; keeps = λ x y. kept (updated_follows tags op t u x y) }

pub add_does : (p : Bounded) (tags : Tags) (t u : CType) → TwoDo p (code.Operate tags binary.Add t u) (λ x y. sum tags t u x y)
unfolding step_of with_two ◌>>=◌ operated
add_does p tags t u = record { does = λ c at x y rest st. refl; keeps = λ x y. kept (sum_follows tags t u x y) }

step_keeps : {depth : ℕ} (tags : Tags) (op : StepOp) (t : CType) (v : Value) → Keeps depth (step_at_place tags op t v)
unfolding step_at_place
step_keeps tags op t v =
    kept (bind_follows (load_follows (kind_of t) v) (λ old. bind_follows (operated_follows tags (step_op op) t Int old (Word 1)) (λ new. bind_follows (assigned_follows t v new) (λ _. give_follows _))))

pub step_does : (p : Bounded) (tags : Tags) (op : StepOp) (t : CType) → TopDoes p (code.Step tags op t) (λ v. step_at_place tags op t v)
unfolding step_of with_top ◌>>=◌
step_does p tags op t = record { does = λ c at v rest st. refl; keeps = λ v. step_keeps tags op t v }
