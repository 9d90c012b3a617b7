-- Instructions that write.
use Rattle.std.proofs.Common.{◌≡◌, ℕ, suc, List, [], ◌∷◌, Some, Result, Ok, Err, map, refl, sym, ap, ◌∙◌, subst, if◌then◌else◌}
use Rattle.std.specs.Prelude.{slice_get}
use Rattle.c_syntax.specs.declared.tree.StepOp.{StepOp}
use Rattle.c_syntax.specs.declared.tree.StepOp.TheVariants as stepping
use Rattle.c_syntax.specs.declared.tree.BinOp.{BinOp}
use Rattle.c_types.specs.Types.{CType, Int, Tags}
use Rattle.c_eval.specs.State as run
use Rattle.c_eval.specs.State.{State, Outcome, Run}
use Rattle.c_eval.specs.Run.{◌>>=◌, after, give}
use Rattle.c_eval.specs.Memory as memory
use Rattle.c_eval.specs.Operators as operators
use Rattle.c_eval.specs.Eval.{step_op, step_value, clear, spell}
use Rattle.c_code.specs.Code as instruction
use Rattle.c_code.specs.Machine as code
use Rattle.c_code.specs.Machine.{Control, step_of, with_top, with_two, step_at_place}
use Rattle.c_rule.specs.Stepping.{FlatCode, Store, fresh, fed}
use Rattle.c_store.specs.declared.act.Act.{Act}
use Rattle.c_store.specs.declared.kind.Kind.{Kind}
use Rattle.c_store.specs.declared.kind.Kind.TheVariants.{Number, ObjectPointer, FunctionPointer}
use Rattle.c_store.specs.Values.{Value, Word, Point, Literal, Stack}
use Rattle.c_store.specs.Words.{load, stored, at_offset, offset_of}
use Rattle.c_resolved.specs.Same as shown
use Rattle.c_resolved.specs.Same.{kind_in, Tables, AreApart, Same, word, null, SameValues, lengths_of, Shows, ShowsAmong, Agree, gives, acts, Writes, writes, fails}
use Rattle.c_resolved.proofs.Likeness.{at_offsets, offsets}
use Rattle.c_resolved.proofs.Reading.{reads}
use Rattle.c_resolved.proofs.Writing.{writes_show}
use Rattle.c_plain.specs.declared.instruction.Instruction.TheVariants as plain
use Rattle.c_plain.specs.declared.instruction.Span.{Span}
use Rattle.c_plain.specs.Machine as machine
use Rattle.c_plain.specs.Machine.{Machine, Step, quiet, unless_act, on_top, on_two, onward, with_values}
use Rattle.c_plain.specs.Operators.{and_then, converted, operated}
use Rattle.c_plain.specs.Program.{Program, in_span}
use Rattle.c_plain.specs.Rule as rule
use Rattle.c_plain.specs.Rule.{step, filled, place_in, pointer_in, zero_of, zeros_of, letters_of, set_first}
use Rattle.c_resolved.specs.Resolved.{kind_of, operation_of, HasElements}
use Rattle.c_resolved.specs.Means.{gives_old}
use Rattle.c_resolved.proofs.Meant.{kinds_meant, conversions, assignments}
use Rattle.c_resolved.proofs.Operating.{operations}
use Rattle.c_tracks.specs.Tracks.{TracksAt, Follows, stops, SameSlots, Stands}
use Rattle.c_tracks.proofs.Basics.{top, two, pushes, stands}
use Rattle.c_tracks.proofs.Simple.{slot_at}

-- ---- parts in parts

-- a part that changes nothing, at the head of a part
pub result_in : {base : List ℕ} → {A B C : Type 0} → (t : Tables) (R : A → B → Type 0) (st : State) (f : A → Run C) (k : C → Run Control) (g : B → Step) → {o : Outcome A} → {r : Result B Act} → st.output ≡ [] → Agree R st o r
    → ((a : A) (b : B) → R a b → Follows base t (after (f a st) k) (g b)) → Follows base t (after (after o f) k) (unless_act r g)
unfolding after
result_in t R st f k g e (gives {a} {b} same) next = next a b same
result_in t R st f k g e (acts a) next = stops a e

-- a write, and what follows it
write : {base : List ℕ} → (t : Tables) (st : State) (v : run.Value) (f : run.Value → Run Control) (g : Stack → Step) → {o : Outcome run.Value} → {r : Result Stack Act} → st.output ≡ [] → Writes t st v o r
    → ((os : List run.Object) (after_it : Stack) → Shows t os after_it → lengths_of os ≡ lengths_of st.objects → Follows base t (f v (record st { objects = os })) (g after_it)) → Follows base t (after o f) (unless_act r g)
unfolding after
write t st v f g e (writes os s shows same) next = next os s shows same
write t st v f g e (fails a) next = stops a e

write_in : {base : List ℕ} → {C : Type 0} → (t : Tables) (st : State) (v : run.Value) (f : run.Value → Run C) (k : C → Run Control) (g : Stack → Step) → {o : Outcome run.Value} → {r : Result Stack Act} → st.output ≡ [] → Writes t st v o r
    → ((os : List run.Object) (after_it : Stack) → Shows t os after_it → lengths_of os ≡ lengths_of st.objects → Follows base t (after (f v (record st { objects = os })) k) (g after_it)) → Follows base t (after (after o f) k) (unless_act r g)
unfolding after
write_in t st v f k g e (writes os s shows same) next = next os s shows same
write_in t st v f k g e (fails a) next = stops a e

then_given : {A B : Type 0} → (r : Result A Act) (h : A → Result B Act) (g : B → Step) → unless_act r (λ a. unless_act (h a) g) ≡ unless_act (and_then r h) g
then_given (Ok a) h g = refl
then_given (Err x) h g = refl

-- ---- another memory

module _ {base : List ℕ} (t : Tables) (c : Control) (s : Store) (m : Machine) (tracks : TracksAt base t c s m) (os : List run.Object) (memory : Stack) (shows : Shows t os memory) (same : lengths_of os ≡ lengths_of s.objects) where
  pub remember : TracksAt base t c (record s { objects = os }) (record m { memory = memory })
  remember = record {
    at = tracks.at;
    values = subst (λ (ls : List ℕ). SameValues t ls c.stack m.values.mine) (sym same) tracks.values;
    slots = subst (λ (ls : List ℕ). SameSlots ls c.slots m.slots.mine) (sym same) tracks.slots;
    opened = subst (λ (ls : List ℕ). Stands t ls c.slots c.opened c.frames m.values.below m.slots.below m.opened) (sym same) tracks.opened;
    memory = shows;
    files = record { first = λ o n e. ap (λ (ls : List ℕ). slice_get ls o) same ∙ tracks.files.first o n e };
    left = tracks.left;
    charge = tracks.charge;
  }

  pub still : {v : run.Value} → {w : Value} → Same t (lengths_of s.objects) v w → Same t (lengths_of os) v w
  still {v} {w} alike = subst (λ (ls : List ℕ). Same t ls v w) (sym same) alike

  pub still_all : {vs : List run.Value} → {ws : List Value} → SameValues t (lengths_of s.objects) vs ws → SameValues t (lengths_of os) vs ws
  still_all {vs} {ws} alike = subst (λ (ls : List ℕ). SameValues t ls vs ws) (sym same) alike

unmeant : (a : CType) → memory.kind_of a ≡ kind_in (kind_of a)
unmeant a = kinds_meant a

reads_kind : (t : Tables) (st : State) (s : Stack) (a : CType) (p : run.Value) (q : Value) → Shows t st.objects s → Same t (lengths_of st.objects) p q
    → Agree (Same t (lengths_of st.objects)) st (memory.load (memory.kind_of a) p st) (load t.literals s (kind_of a) q)
reads_kind t st s a p q shows same =
    subst (λ (k : memory.Kind). Agree (Same t (lengths_of st.objects)) st (memory.load k p st) (load t.literals s (kind_of a) q)) (sym (unmeant a)) (reads t st s (kind_of a) p q shows same)

step_values : (t : Tables) (lengths : List ℕ) (op : StepOp) → {v x : run.Value} → {w y : Value} → Same t lengths v w → Same t lengths x y → Same t lengths (step_value op v x) (if gives_old op then w else y)
step_values t lengths stepping.PreInc old new = new
step_values t lengths stepping.PreDec old new = new
step_values t lengths stepping.PostInc old new = old
step_values t lengths stepping.PostDec old new = old

-- ---- cells in a row

data Fills (t : Tables) (st : State) : Outcome (Unit {0}) → Result Stack Act → Type 0 where
  fills : (os : List run.Object) → (s : Stack) → Shows t os s → lengths_of os ≡ lengths_of st.objects → Fills t st (run.Gives tt (record st { objects = os })) (Ok s)
  misses : (a : Act) → (os : List run.Object) → Fills t st (run.Undefined (shown.act_of a) (record st { objects = os })) (Err a)

fills_again : (t : Tables) (st : State) (os : List run.Object) → lengths_of os ≡ lengths_of st.objects → {o : Outcome (Unit {0})} → {r : Result Stack Act} → Fills t (record st { objects = os }) o r → Fills t st o r
fills_again t st os same (fills ps s shows e) = fills ps s shows (e ∙ same)
fills_again t st os same (misses a ps) = misses a ps

fill_one : (t : Tables) (st : State) (v : run.Value) (f : run.Value → Run (Unit {0})) (g : Stack → Result Stack Act) → {o : Outcome run.Value} → {r : Result Stack Act} → Writes t st v o r
    → ((os : List run.Object) (s : Stack) → Shows t os s → lengths_of os ≡ lengths_of st.objects → Fills t (record st { objects = os }) (f v (record st { objects = os })) (g s)) → Fills t st (after o f) (and_then r g)
unfolding after
fill_one t st v f g (writes os s shows same) next = fills_again t st os same (next os s shows same)
fill_one t st v f g (fails a) next = misses a st.objects

zeros_same : (t : Tables) (lengths : List ℕ) (k : Kind) → Same t lengths (memory.zero_of (kind_in k)) (zero_of k)
zeros_same t lengths Number = word 0
zeros_same t lengths ObjectPointer = null
zeros_same t lengths FunctionPointer = null

next_place : (t : Tables) (lengths : List ℕ) → {p : run.Value} → {q : Value} → Same t lengths p q → Same t lengths (memory.at_offset p (suc (memory.offset_of p))) (at_offset q (suc (offset_of q)))
next_place t lengths {p} {q} same = subst (λ (n : ℕ). Same t lengths (memory.at_offset p (suc (memory.offset_of p))) (at_offset q (suc n))) (offsets t lengths same) (at_offsets t lengths (suc (memory.offset_of p)) same)

clears : (t : Tables) (kinds : List Kind) (st : State) (s : Stack) (p : run.Value) (q : Value) → Shows t st.objects s → Same t (lengths_of st.objects) p q → Fills t st (clear (map kind_in kinds) p st) (filled t.literals (zeros_of kinds) q s)
unfolding clear give ◌>>=◌
clears t [] st s p q shows same = fills st.objects s shows refl
clears t (k ∷ kinds) st s p q shows same =
    fill_one t st (memory.zero_of (kind_in k)) (λ _. clear (map kind_in kinds) (memory.at_offset p (suc (memory.offset_of p)))) (filled t.literals (zeros_of kinds) (at_offset q (suc (offset_of q))))
    (writes_show t st s k p (memory.zero_of (kind_in k)) q (zero_of k) shows same (zeros_same t (lengths_of st.objects) k))
    (λ os r again e.
    clears t kinds (record st { objects = os }) r (memory.at_offset p (suc (memory.offset_of p))) (at_offset q (suc (offset_of q))) again
    (subst (λ (ls : List ℕ). Same t ls (memory.at_offset p (suc (memory.offset_of p))) (at_offset q (suc (offset_of q)))) (sym e) (next_place t (lengths_of st.objects) same)))

spells : (t : Tables) (words : List ℕ) (st : State) (s : Stack) (p : run.Value) (q : Value) → Shows t st.objects s → Same t (lengths_of st.objects) p q → Fills t st (spell words p st) (filled t.literals (letters_of words) q s)
unfolding spell give ◌>>=◌
spells t [] st s p q shows same = fills st.objects s shows refl
spells t (n ∷ words) st s p q shows same =
    fill_one t st (run.Word n) (λ _. spell words (memory.at_offset p (suc (memory.offset_of p)))) (filled t.literals (letters_of words) (at_offset q (suc (offset_of q))))
    (writes_show t st s Number p (run.Word n) q (Word n) shows same (word n))
    (λ os r again e.
    spells t words (record st { objects = os }) r (memory.at_offset p (suc (memory.offset_of p))) (at_offset q (suc (offset_of q))) again
    (subst (λ (ls : List ℕ). Same t ls (memory.at_offset p (suc (memory.offset_of p))) (at_offset q (suc (offset_of q)))) (sym e) (next_place t (lengths_of st.objects) same)))

-- cells were filled, and the machine goes on with other values
filled_on : {base : List ℕ} → (t : Tables) (c : Control) (s : Store) (m : Machine) → TracksAt base t c s m → (rest : List run.Value) (others : List Value) → SameValues t (lengths_of s.objects) rest others
    → {o : Outcome (Unit {0})} → {r : Result Stack Act} → Fills t (fresh s) o r → Follows base t (after o (λ _. give (record c { at = suc c.at; stack = rest }))) (unless_act r (λ memory. quiet (record (onward (with_values m others)) { memory = memory })))
unfolding after give
filled_on t c s m tracks rest others below (fills os memory shows same) =
    stands t c (record s { objects = os }) (record m { memory = memory }) (remember t c s m tracks os memory shows same) (suc c.at) (suc m.at) rest others (ap suc tracks.at)
    (still_all t c s m tracks os memory shows same below)
filled_on t c s m tracks rest others below (misses a os) = stops a refl

given_pushed : {base : List ℕ} → (t : Tables) (c : Control) (s : Store) (m : Machine) (tracks : TracksAt base t c s m) (os : List run.Object) (memory : Stack) (shows : Shows t os memory) (same : lengths_of os ≡ lengths_of s.objects) (x : run.Value) (v : Value) (rest : List run.Value) (others : List Value)
    → Same t (lengths_of s.objects) x v → SameValues t (lengths_of s.objects) rest others → Follows base t (after (give x (record (fresh s) { objects = os })) (λ a. give (code.pushed c rest a))) (quiet (machine.pushed (record m { memory = memory }) others v))
unfolding after give
given_pushed t c s m tracks os memory shows same x v rest others alike below =
    pushes t c (record s { objects = os }) (record m { memory = memory }) (remember t c s m tracks os memory shows same) x v rest others (still t c s m tracks os memory shows same alike) (still_all t c s m tracks os memory shows same below)

-- the cells of a slot's object are filled in a row
row_filled : {base : List ℕ} → (t : Tables) (p : Program) → t.literals ≡ p.literals → (c : Control) (s : Store) (m : Machine) → TracksAt base t c s m → (F : run.Value → Run (Unit {0})) (xs : List (Kind × Value)) (k offset : ℕ)
    → ((o n : ℕ) → slice_get (lengths_of s.objects) o ≡ Some n → Fills t (fresh s) (F (run.Point o offset) (fresh s)) (filled t.literals xs (Point o n offset) m.memory))
    → Follows base t (after (code.pointer_in (code.slot_in (slice_get c.slots k)) offset (fresh s)) (λ place st. after (F place st) (λ _. give (code.onward c)))) (set_first p.literals m (record { slot = k; offset = offset }) xs m.values.mine)
row_filled {base} t p is_t c s m tracks F xs k offset fill =
    subst (λ (ls : List Literal). Follows base t (after (code.pointer_in (code.slot_in (slice_get c.slots k)) offset (fresh s)) (λ place st. after (F place st) (λ _. give (code.onward c)))) (set_first ls m (record { slot = k; offset = offset }) xs m.values.mine)) is_t
    (subst (λ (z : Step). Follows base t (after (code.pointer_in (code.slot_in (slice_get c.slots k)) offset (fresh s)) (λ place st. after (F place st) (λ _. give (code.onward c)))) z)
    (then_given (pointer_in (slice_get m.slots.mine k) offset) (λ q. filled t.literals xs q m.memory) (λ memory. quiet (record (onward (with_values m m.values.mine)) { memory = memory })))
    (slot_at (lengths_of s.objects) k tracks.slots t (fresh s) offset refl (λ place st. after (F place st) (λ _. give (code.onward c))) (λ q. unless_act (filled t.literals xs q m.memory) (λ memory. quiet (record (onward (with_values m m.values.mine)) { memory = memory })))
    (λ o n there. filled_on t c s m tracks c.stack m.values.mine tracks.values (fill o n there))))

-- ---- instructions

module _ {base : List ℕ} (t : Tables) (p : Program) (is_t : t.literals ≡ p.literals) (apart : AreApart t.names) (f : FlatCode) (byte : ℕ) (c : Control) (s : Store) (m : Machine) (tracks : TracksAt base t c s m) where
  -- a value is written, and given on
  pub assigns : (ty : CType) (x y : run.Value) (rest : List run.Value) (v w : Value) (others : List Value) → Same t (lengths_of s.objects) x v → Same t (lengths_of s.objects) y w → SameValues t (lengths_of s.objects) rest others
      → Follows base t (after (operators.assigned ty x y (fresh s)) (λ z. give (code.pushed c rest z))) (rule.assigned t.literals m (kind_of ty) v (converted (kind_of ty) w) others)
  assigns ty x y rest v w others q r below =
      write t (fresh s) (operators.converted ty y) (λ z. give (code.pushed c rest z)) (λ memory. quiet (machine.pushed (record m { memory = memory }) others (converted (kind_of ty) w))) refl
      (assignments t (fresh s) m.memory ty x y v w tracks.memory q r)
      (λ os memory shows same.
      pushes t c (record s { objects = os }) (record m { memory = memory }) (remember t c s m tracks os memory shows same) (operators.converted ty y) (converted (kind_of ty) w) rest others
      (still t c s m tracks os memory shows same (conversions t (lengths_of s.objects) ty y w r)) (still_all t c s m tracks os memory shows same below))

  pub assign_two : (ty : CType) → Follows base t (step_of (fed f byte) (instruction.Assign ty) c (fresh s)) (step p byte (plain.Assign (kind_of ty)) m)
  unfolding step_of ◌>>=◌
  assign_two ty =
      subst (λ (ls : List Literal). Follows base t (with_two c.stack (λ x y rest st. after (operators.assigned ty x y st) (λ w. give (code.pushed c rest w))) (fresh s)) (on_two m.values.mine (λ x y rest. rule.assigned ls m (kind_of ty) x (converted (kind_of ty) y) rest))) is_t
      (two t (lengths_of s.objects) (fresh s) refl (λ x y rest st. after (operators.assigned ty x y st) (λ w. give (code.pushed c rest w))) (λ x y rest. rule.assigned t.literals m (kind_of ty) x (converted (kind_of ty) y) rest) tracks.values
      (λ x y rest v w others q r below. assigns ty x y rest v w others q r below))

  pub update_two : (tags : Tags) (op : BinOp) (ty u : CType) → HasElements tags op ty → Follows base t (step_of (fed f byte) (instruction.Update tags op ty u) c (fresh s)) (step p byte (plain.Update (kind_of ty) (operation_of tags op ty u)) m)
  unfolding step_of operators.updated ◌>>=◌
  update_two tags op ty u some =
      subst (λ (ls : List Literal). Follows base t (with_two c.stack (λ x y rest st. after (operators.updated tags op ty u x y st) (λ w. give (code.pushed c rest w))) (fresh s)) (on_two m.values.mine (λ x y rest. rule.updated ls m (kind_of ty) (operation_of tags op ty u) x y rest))) is_t
      (two t (lengths_of s.objects) (fresh s) refl (λ x y rest st. after (operators.updated tags op ty u x y st) (λ w. give (code.pushed c rest w))) (λ x y rest. rule.updated t.literals m (kind_of ty) (operation_of tags op ty u) x y rest) tracks.values
      (λ x y rest v w others q r below.
      subst (λ (z : Step). Follows base t (after (operators.updated tags op ty u x y (fresh s)) (λ a. give (code.pushed c rest a))) z)
      (then_given (load t.literals m.memory (kind_of ty) v) (λ old. operated t.literals m.memory (operation_of tags op ty u) old w) (λ new. rule.assigned t.literals m (kind_of ty) v (converted (kind_of ty) new) others))
      (result_in t (Same t (lengths_of s.objects)) (fresh s) (λ old st. after (operators.operated tags op ty u old y st) (λ new. operators.assigned ty x new)) (λ a. give (code.pushed c rest a))
      (λ old. unless_act (operated t.literals m.memory (operation_of tags op ty u) old w) (λ new. rule.assigned t.literals m (kind_of ty) v (converted (kind_of ty) new) others)) refl (reads_kind t (fresh s) m.memory ty x v tracks.memory q)
      (λ old was alike.
      result_in t (Same t (lengths_of s.objects)) (fresh s) (λ new. operators.assigned ty x new) (λ a. give (code.pushed c rest a)) (λ new. rule.assigned t.literals m (kind_of ty) v (converted (kind_of ty) new) others) refl
      (operations t (fresh s) m.memory tags op ty u old y was w apart tracks.memory some alike r) (λ new is now. assigns ty x new rest v is others q now below)))))

  pub step_top : (tags : Tags) (op : StepOp) (ty : CType) → HasElements tags (step_op op) ty
      → Follows base t (step_of (fed f byte) (instruction.Step tags op ty) c (fresh s)) (step p byte (plain.Step (record { kind = kind_of ty; operation = operation_of tags (step_op op) ty Int; gives_old = gives_old op })) m)
  unfolding step_of step_at_place ◌>>=◌
  step_top tags op ty some =
      subst (λ (ls : List Literal). Follows base t (with_top c.stack (λ v rest st. after (step_at_place tags op ty v st) (λ w. give (code.pushed c rest w))) (fresh s)) (on_top m.values.mine (λ v rest. rule.stepped ls m (record { kind = kind_of ty; operation = operation_of tags (step_op op) ty Int; gives_old = gives_old op }) v rest))) is_t
      (top t (lengths_of s.objects) (fresh s) refl (λ v rest st. after (step_at_place tags op ty v st) (λ w. give (code.pushed c rest w))) (λ v rest. rule.stepped t.literals m (record { kind = kind_of ty; operation = operation_of tags (step_op op) ty Int; gives_old = gives_old op }) v rest) tracks.values
      (λ x rest v others q below.
      result_in t (Same t (lengths_of s.objects)) (fresh s) (λ old st. after (operators.operated tags (step_op op) ty Int old (run.Word 1) st) (λ new st'. after (operators.assigned ty x new st') (λ _. give (step_value op old new)))) (λ a. give (code.pushed c rest a))
      (λ old. unless_act (operated t.literals m.memory (operation_of tags (step_op op) ty Int) old (Word 1)) (λ new. unless_act (stored t.literals m.memory (kind_of ty) v (converted (kind_of ty) new)) (λ memory. quiet (machine.pushed (record m { memory = memory }) others (if gives_old op then old else new))))) refl
      (reads_kind t (fresh s) m.memory ty x v tracks.memory q)
      (λ old was alike.
      result_in t (Same t (lengths_of s.objects)) (fresh s) (λ new st'. after (operators.assigned ty x new st') (λ _. give (step_value op old new))) (λ a. give (code.pushed c rest a))
      (λ new. unless_act (stored t.literals m.memory (kind_of ty) v (converted (kind_of ty) new)) (λ memory. quiet (machine.pushed (record m { memory = memory }) others (if gives_old op then was else new)))) refl
      (operations t (fresh s) m.memory tags (step_op op) ty Int old (run.Word 1) was (Word 1) apart tracks.memory some alike (word 1))
      (λ new is now.
      write_in t (fresh s) (operators.converted ty new) (λ _. give (step_value op old new)) (λ a. give (code.pushed c rest a)) (λ memory. quiet (machine.pushed (record m { memory = memory }) others (if gives_old op then was else is))) refl
      (assignments t (fresh s) m.memory ty x new v is tracks.memory q now)
      (λ os memory shows same. given_pushed t c s m tracks os memory shows same (step_value op old new) (if gives_old op then was else is) rest others (step_values t (lengths_of s.objects) op alike now) below)))))

  pub first_top : (k offset : ℕ) (ty : CType) → Follows base t (step_of (fed f byte) (instruction.First k offset ty) c (fresh s)) (step p byte (plain.First (record { slot = k; offset = offset }) (kind_of ty)) m)
  unfolding step_of code.slot_pointer ◌>>=◌
  first_top k offset ty =
      subst (λ (ls : List Literal). Follows base t (with_top c.stack (λ v rest st. after (code.pointer_in (code.slot_in (slice_get c.slots k)) offset st) (λ place st'. after (operators.assigned ty place v st') (λ _. give (record c { at = suc c.at; stack = rest })))) (fresh s))
      (on_top m.values.mine (λ v rest. set_first ls m (record { slot = k; offset = offset }) ((kind_of ty, converted (kind_of ty) v) ∷ []) rest))) is_t
      (top t (lengths_of s.objects) (fresh s) refl (λ v rest st. after (code.pointer_in (code.slot_in (slice_get c.slots k)) offset st) (λ place st'. after (operators.assigned ty place v st') (λ _. give (record c { at = suc c.at; stack = rest }))))
      (λ v rest. set_first t.literals m (record { slot = k; offset = offset }) ((kind_of ty, converted (kind_of ty) v) ∷ []) rest) tracks.values
      (λ v rest w others alike below.
      subst (λ (z : Step). Follows base t (after (code.pointer_in (code.slot_in (slice_get c.slots k)) offset (fresh s)) (λ place st'. after (operators.assigned ty place v st') (λ _. give (record c { at = suc c.at; stack = rest })))) z)
      (then_given (pointer_in (slice_get m.slots.mine k) offset) (λ q. filled t.literals ((kind_of ty, converted (kind_of ty) w) ∷ []) q m.memory) (λ memory. quiet (record (onward (with_values m others)) { memory = memory })))
      (slot_at (lengths_of s.objects) k tracks.slots t (fresh s) offset refl (λ place st'. after (operators.assigned ty place v st') (λ _. give (record c { at = suc c.at; stack = rest })))
      (λ q. unless_act (filled t.literals ((kind_of ty, converted (kind_of ty) w) ∷ []) q m.memory) (λ memory. quiet (record (onward (with_values m others)) { memory = memory })))
      (λ o n there.
      subst (λ (z : Step). Follows base t (after (operators.assigned ty (run.Point o offset) v (fresh s)) (λ _. give (record c { at = suc c.at; stack = rest }))) z)
      (then_given (stored t.literals m.memory (kind_of ty) (Point o n offset) (converted (kind_of ty) w)) (λ memory. Ok memory) (λ memory. quiet (record (onward (with_values m others)) { memory = memory })))
      (write t (fresh s) (operators.converted ty v) (λ _. give (record c { at = suc c.at; stack = rest })) (λ memory. quiet (record (onward (with_values m others)) { memory = memory })) refl
      (assignments t (fresh s) m.memory ty (run.Point o offset) v (Point o n offset) w tracks.memory (shown.point o n offset there) alike)
      (λ os memory shows same.
      stands t c (record s { objects = os }) (record m { memory = memory }) (remember t c s m tracks os memory shows same) (suc c.at) (suc m.at) rest others (ap suc tracks.at) (still_all t c s m tracks os memory shows same below)))))))

  pub clear_first : (k offset : ℕ) (kinds : List Kind) (span : Span) → in_span p.kinds span ≡ kinds
      → Follows base t (step_of (fed f byte) (instruction.Clear k offset (map kind_in kinds)) c (fresh s)) (step p byte (plain.Clear (record { slot = k; offset = offset }) span) m)
  unfolding step_of code.slot_pointer ◌>>=◌
  clear_first k offset kinds span e =
      row_filled t p is_t c s m tracks (clear (map kind_in kinds)) (zeros_of (in_span p.kinds span)) k offset
      (λ o n there.
      subst (λ (ks : List Kind). Fills t (fresh s) (clear (map kind_in kinds) (run.Point o offset) (fresh s)) (filled t.literals (zeros_of ks) (Point o n offset) m.memory)) (sym e) (clears t kinds (fresh s) m.memory (run.Point o offset) (Point o n offset) tracks.memory (shown.point o n offset there)))

  pub spell_first : (k offset : ℕ) (words : List ℕ) (span : Span) → in_span p.bytes span ≡ words
      → Follows base t (step_of (fed f byte) (instruction.Spell k offset words) c (fresh s)) (step p byte (plain.Spell (record { slot = k; offset = offset }) span) m)
  unfolding step_of code.slot_pointer ◌>>=◌
  spell_first k offset words span e =
      row_filled t p is_t c s m tracks (spell words) (letters_of (in_span p.bytes span)) k offset
      (λ o n there.
      subst (λ (ns : List ℕ). Fills t (fresh s) (spell words (run.Point o offset) (fresh s)) (filled t.literals (letters_of ns) (Point o n offset) m.memory)) (sym e) (spells t words (fresh s) m.memory (run.Point o offset) (Point o n offset) tracks.memory (shown.point o n offset there)))
