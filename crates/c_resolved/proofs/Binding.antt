-- One part after the other, on both sides.
use Rattle.std.proofs.Common.{ℕ, Result, Err}
use Rattle.c_syntax.specs.declared.tree.BinOp.{BinOp}
use Rattle.c_syntax.specs.declared.tree.BinOp.TheVariants as binary
use Rattle.c_types.specs.Constants as constant
use Rattle.c_types.specs.Constants.{Constant}
use Rattle.c_eval.specs.State as run
use Rattle.c_eval.specs.State.{State, Outcome, Run}
use Rattle.c_eval.specs.Run.{after, give, undefined}
use Rattle.c_eval.specs.Operators as operators
use Rattle.c_store.specs.declared.act.Act.{Act}
use Rattle.c_store.specs.declared.act.Act.TheVariants as act
use Rattle.c_store.specs.Values.{Value}
use Rattle.c_plain.specs.Operators.{and_then, number_in, word_act, word_result}
use Rattle.c_resolved.specs.Same.{Tables, Same, word, null, point, letter, function, missing, lengths_of, Agree, gives, acts}

pub bind : {A B C D : Type 0} → (R : A → B → Type 0) → (S : C → D → Type 0) → (st : State) (f : A → Run C) (g : B → Result D Act) → {o : Outcome A} → {r : Result B Act} → Agree R st o r
    → ((a : A) (b : B) → R a b → Agree S st (f a st) (g b)) → Agree S st (after o f) (and_then r g)
unfolding after
bind R S st f g (gives {a} {b} same) next = next a b same
bind R S st f g (acts a) next = acts a

pub number : {C D : Type 0} → (S : C → D → Type 0) → (t : Tables) (st : State) (f : ℕ → Run C) (g : ℕ → Result D Act) → {x : run.Value} → {v : Value} → Same t (lengths_of st.objects) x v
    → ((n : ℕ) → Agree S st (f n st) (g n)) → Agree S st (operators.of_word x f st) (and_then (number_in v) g)
unfolding operators.of_word undefined
number S t st f g (word n) next = next n
number S t st f g null next = acts act.OtherKind
number S t st f g (point o n k e) next = acts act.OtherKind
number S t st f g (letter owner l x k e own) next = acts act.OtherKind
number S t st f g (function m name e) next = acts act.OtherKind
number S t st f g missing next = acts act.OtherKind

act_shown : (t : Tables) (st : State) (op : BinOp) → Agree (Same t (lengths_of st.objects)) st (operators.word_act op st) (Err (word_act op))
unfolding operators.word_act undefined
act_shown t st binary.Div = acts act.ZeroDivisor
act_shown t st binary.Mod = acts act.ZeroDivisor
act_shown t st binary.Shl = acts act.ShiftCount
act_shown t st binary.Shr = acts act.ShiftCount
act_shown t st op = acts act.OtherKind

pub result_shown : (t : Tables) (st : State) (op : BinOp) (c : Constant) → Agree (Same t (lengths_of st.objects)) st (operators.word_result op c st) (word_result op c)
unfolding operators.word_result give undefined
result_shown t st op (constant.Value n) = gives (word n)
result_shown t st op (constant.Undefined at) = act_shown t st op
result_shown t st op constant.NotConstant = acts act.OtherKind
