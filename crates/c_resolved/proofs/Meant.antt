-- Kinds of types, conversions, and what places are worth.
use Rattle.std.proofs.Common.{◌≡◌, ℕ, Bool, true, false, ◌||◌, List, refl, sym, subst, if◌then◌else◌}
use Rattle.c_syntax.specs.declared.tree.UnOp.{UnOp}
use Rattle.c_syntax.specs.declared.tree.BinOp.TheVariants as binary
use Rattle.c_types.specs.Types as types
use Rattle.c_types.specs.Types.{CType, is_pointer, is_null, is_function_pointer}
use Rattle.c_types.specs.Constants as constant
use Rattle.c_types.specs.Constants.{unary_constant}
use Rattle.c_eval.specs.State as run
use Rattle.c_eval.specs.State.{State}
use Rattle.c_eval.specs.Run.{give, undefined}
use Rattle.c_eval.specs.Memory as memory
use Rattle.c_eval.specs.Operators as operators
use Rattle.c_store.specs.declared.act.Act.TheVariants as act
use Rattle.c_store.specs.declared.kind.Kind.TheVariants as kind
use Rattle.c_store.specs.Values.{Value, Stack}
use Rattle.c_store.specs.Words.{load, stored}
use Rattle.c_plain.specs.declared.instruction.Unary.TheVariants.{OneWord}
use Rattle.c_plain.specs.Operators.{converted, fetched, made, word_result}
use Rattle.c_resolved.specs.Same.{kind_in, Tables, Same, missing, Shows, lengths_of, Agree, gives, acts, Writes}
use Rattle.c_resolved.proofs.Likeness.{pointers}
use Rattle.c_resolved.proofs.Reading.{reads}
use Rattle.c_resolved.proofs.Writing as writing
use Rattle.c_resolved.specs.Resolved.{kind_of, fetch_of, follow_of, compared_kind}
use Rattle.c_resolved.proofs.Binding.{number, result_shown}

pub kinds_meant : (a : CType) → memory.kind_of a ≡ kind_in (kind_of a)
kinds_meant a = by (is_function_pointer a) (is_pointer a || is_null a) where
  by : (b c : Bool) → (if b then memory.FunctionPointer else if c then memory.ObjectPointer else memory.Number) ≡ kind_in (if b then kind.FunctionPointer else if c then kind.ObjectPointer else kind.Number)
  by true c = refl
  by false true = refl
  by false false = refl

pub compared_meant : (a b : CType) → operators.compared_kind a b ≡ kind_in (compared_kind a b)
compared_meant a b = by (is_pointer a) (is_pointer b) where
  by : (p q : Bool) → (if p then memory.kind_of a else if q then memory.kind_of b else memory.ObjectPointer) ≡ kind_in (if p then kind_of a else if q then kind_of b else kind.ObjectPointer)
  by true q = kinds_meant a
  by false true = kinds_meant b
  by false false = refl

-- ---- conversions

pub conversions : (t : Tables) (lengths : List ℕ) (a : CType) (x : run.Value) (v : Value) → Same t lengths x v → Same t lengths (operators.converted a x) (converted (kind_of a) v)
conversions t lengths types.Null x v same = pointers t lengths same
conversions t lengths (types.Pointer (types.Function b bs)) x v same = pointers t lengths same
conversions t lengths (types.Pointer b) x v same = pointers t lengths same
conversions t lengths a x v same = same

-- ---- places

reads_kind : (t : Tables) (st : State) (s : Stack) (a : CType) (p : run.Value) (q : Value) → Shows t st.objects s → Same t (lengths_of st.objects) p q
    → Agree (Same t (lengths_of st.objects)) st (memory.load (memory.kind_of a) p st) (load t.literals s (kind_of a) q)
reads_kind t st s a p q shows same =
    subst (λ (k : memory.Kind). Agree (Same t (lengths_of st.objects)) st (memory.load k p st) (load t.literals s (kind_of a) q)) (sym (kinds_meant a)) (reads t st s (kind_of a) p q shows same)

pub fetches : (t : Tables) (st : State) (s : Stack) (a : CType) (p : run.Value) (q : Value) → Shows t st.objects s → Same t (lengths_of st.objects) p q
    → Agree (Same t (lengths_of st.objects)) st (operators.value_at false a p st) (fetched t.literals s (fetch_of a) q)
unfolding operators.value_at operators.pointer_to give
fetches t st s (types.Array a n) p q shows same = gives same
fetches t st s (types.Struct tag) p q shows same = gives missing
fetches t st s a p q shows same = reads_kind t st s a p q shows same

pub follows : (t : Tables) (st : State) (s : Stack) (a : CType) (p : run.Value) (q : Value) → Shows t st.objects s → Same t (lengths_of st.objects) p q
    → Agree (Same t (lengths_of st.objects)) st (operators.pointed_value false a p st) (fetched t.literals s (follow_of a) q)
unfolding operators.pointed_value give undefined
follows t st s (types.Pointer (types.Function a as_)) p q shows same = gives same
follows t st s (types.Pointer a) p q shows same = fetches t st s a p q shows same
follows t st s a p q shows same = acts act.OtherKind

-- ---- one word

pub words : (t : Tables) (st : State) (s : Stack) (op : UnOp) (x : run.Value) (v : Value) → Same t (lengths_of st.objects) x v
    → Agree (Same t (lengths_of st.objects)) st (operators.on_word op x st) (made t.literals s (OneWord op) v)
unfolding operators.on_word
words t st s op x v same =
    number (Same t (lengths_of st.objects)) t st (λ n. operators.word_result binary.Add (unary_constant op (constant.Value n))) (λ n. word_result binary.Add (unary_constant op (constant.Value n))) same
    (λ n. result_shown t st binary.Add (unary_constant op (constant.Value n)))

-- ---- writes

pub assignments : (t : Tables) (st : State) (s : Stack) (a : CType) (p x : run.Value) (q v : Value) → Shows t st.objects s → Same t (lengths_of st.objects) p q → Same t (lengths_of st.objects) x v
    → Writes t st (operators.converted a x) (operators.assigned a p x st) (stored t.literals s (kind_of a) q (converted (kind_of a) v))
unfolding operators.assigned
assignments t st s a p x q v shows at same =
    subst (λ (k : memory.Kind). Writes t st (operators.converted a x) (memory.store k p (operators.converted a x) st) (stored t.literals s (kind_of a) q (converted (kind_of a) v))) (sym (kinds_meant a))
    (writing.writes_show t st s (kind_of a) p (operators.converted a x) q (converted (kind_of a) v) shows at (conversions t (lengths_of st.objects) a x v same))
