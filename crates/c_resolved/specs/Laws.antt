-- What is made of single values and of two is what the types of a text make of them.
use Rattle.std.specs.Prelude.{ℕ, false, List}
use Rattle.c_syntax.specs.declared.tree.UnOp.{UnOp}
use Rattle.c_syntax.specs.declared.tree.BinOp.{BinOp}
use Rattle.c_types.specs.Types.{CType, Tags}
use Rattle.c_eval.specs.State as run
use Rattle.c_eval.specs.State.{State}
use Rattle.c_eval.specs.Operators as operators
use Rattle.c_store.specs.Values.{Value, Stack}
use Rattle.c_store.specs.Words.{stored}
use Rattle.c_plain.specs.declared.instruction.Unary.TheVariants.{OneWord}
use Rattle.c_plain.specs.Operators.{converted, fetched, made, operated}
use Rattle.c_resolved.specs.Same.{Tables, AreApart, Same, Shows, lengths_of, Agree, Writes}
use Rattle.c_resolved.specs.Resolved.{kind_of, fetch_of, follow_of, operation_of, HasElements}

-- a binary operator
abbrev pub OperationsShow : Type 0
OperationsShow =
    (t : Tables) (st : State) (s : Stack) (tags : Tags) (op : BinOp) (a b : CType) (x y : run.Value) (v w : Value) → AreApart t.names → Shows t st.objects s → HasElements tags op a
    → Same t (lengths_of st.objects) x v → Same t (lengths_of st.objects) y w
    → Agree (Same t (lengths_of st.objects)) st (operators.operated tags op a b x y st) (operated t.literals s (operation_of tags op a b) v w)

-- an operator on one word
abbrev pub WordsShow : Type 0
WordsShow =
    (t : Tables) (st : State) (s : Stack) (op : UnOp) (x : run.Value) (v : Value) → Same t (lengths_of st.objects) x v → Agree (Same t (lengths_of st.objects)) st (operators.on_word op x st) (made t.literals s (OneWord op) v)

-- what a place is worth
abbrev pub FetchesShow : Type 0
FetchesShow =
    (t : Tables) (st : State) (s : Stack) (a : CType) (p : run.Value) (q : Value) → Shows t st.objects s → Same t (lengths_of st.objects) p q
    → Agree (Same t (lengths_of st.objects)) st (operators.value_at false a p st) (fetched t.literals s (fetch_of a) q)

-- what a pointer points to
abbrev pub FollowsShow : Type 0
FollowsShow =
    (t : Tables) (st : State) (s : Stack) (a : CType) (p : run.Value) (q : Value) → Shows t st.objects s → Same t (lengths_of st.objects) p q
    → Agree (Same t (lengths_of st.objects)) st (operators.pointed_value false a p st) (fetched t.literals s (follow_of a) q)

abbrev pub ConversionsShow : Type 0
ConversionsShow = (t : Tables) (lengths : List ℕ) (a : CType) (x : run.Value) (v : Value) → Same t lengths x v → Same t lengths (operators.converted a x) (converted (kind_of a) v)

-- a value converts to a place's type and is written there
abbrev pub AssignmentsShow : Type 0
AssignmentsShow =
    (t : Tables) (st : State) (s : Stack) (a : CType) (p x : run.Value) (q v : Value) → Shows t st.objects s → Same t (lengths_of st.objects) p q → Same t (lengths_of st.objects) x v
    → Writes t st (operators.converted a x) (operators.assigned a p x st) (stored t.literals s (kind_of a) q (converted (kind_of a) v))
