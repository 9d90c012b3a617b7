-- Instructions that leave the memory as it is.
use Rattle.std.proofs.Common.{◌≡◌, ℕ, zero, suc, ◌+◌, ◌-◌, Bool, false, not, List, [], ◌++◌, Option, Some, drop, refl, sym, ap, ◌∙◌, subst, if◌then◌else◌}
use Rattle.std.specs.Prelude.{slice_get}
use Rattle.c_syntax.specs.declared.tree.UnOp.{UnOp}
use Rattle.c_syntax.specs.declared.tree.BinOp.{BinOp}
use Rattle.c_types.specs.Types.{CType, Tags}
use Rattle.c_types.specs.Constants.{truth}
use Rattle.c_eval.specs.State as run
use Rattle.c_eval.specs.State.{State, Run}
use Rattle.c_eval.specs.Run.{◌>>=◌, after, give, undefined, exit}
use Rattle.c_eval.specs.Memory as memory
use Rattle.c_eval.specs.Operators as operators
use Rattle.c_code.specs.Code as instruction
use Rattle.c_code.specs.Machine as code
use Rattle.c_code.specs.Machine.{Control, step_of, with_top, with_two}
use Rattle.c_rule.specs.Stepping.{FlatCode, Store, fresh, fed}
use Rattle.c_store.specs.declared.act.Act.TheVariants as act
use Rattle.c_store.specs.Values.{Value, Point, Missing, Literal}
use Rattle.c_store.specs.Words.{is_true}
use Rattle.c_resolved.specs.Same as shown
use Rattle.c_resolved.specs.Same.{Tables, AreApart, Same, word, missing, SameValues, no_value, more_values, lengths_of, Agree, gives, acts}
use Rattle.c_resolved.proofs.Likeness.{uses, truths}
use Rattle.c_resolved.proofs.Pointing.{members_show}
use Rattle.c_plain.specs.declared.instruction.Unary.{Unary}
use Rattle.c_plain.specs.declared.instruction.Unary.TheVariants as unary
use Rattle.c_plain.specs.declared.instruction.Instruction.TheVariants as plain
use Rattle.c_plain.specs.Machine as plain_machine
use Rattle.c_plain.specs.Machine.{Machine, Step, quiet, unless_act, pushed, on_top, on_two}
use Rattle.c_plain.specs.Operators as plain_operators
use Rattle.c_plain.specs.Operators.{made, operated}
use Rattle.c_plain.specs.Program.{Program}
use Rattle.c_plain.specs.Rule.{step, pointer_in}
use Rattle.c_plain.specs.Calls.{arguments as plain_arguments, arguments_onto as plain_onto}
use Rattle.c_resolved.specs.Resolved.{kind_of, fetch_of, follow_of, operation_of, HasElements}
use Rattle.c_resolved.proofs.Meant.{conversions, fetches, follows, words}
use Rattle.c_resolved.proofs.Operating.{operations}
use Rattle.c_tracks.specs.Tracks.{TracksAt, Follows, ends, stops, without, pointing, SameSlots, no_slot, more_slots}
use Rattle.c_tracks.proofs.Basics.{result, top, two, unit, pushes, stands}

-- ---- values in rows

pub drop_same : (t : Tables) (lengths : List ℕ) (n : ℕ) → {vs : List run.Value} → {ws : List Value} → SameValues t lengths vs ws → SameValues t lengths (drop n vs) (drop n ws)
drop_same t lengths zero same = same
drop_same t lengths (suc n) no_value = no_value
drop_same t lengths (suc n) (more_values s rest) = drop_same t lengths n rest

pub onto_same : (t : Tables) (lengths : List ℕ) (n : ℕ) → {vs : List run.Value} → {ws : List Value} → SameValues t lengths vs ws → {us : List run.Value} → {bs : List Value} → SameValues t lengths us bs
    → SameValues t lengths (code.arguments_onto n vs us) (plain_onto n ws bs)
onto_same t lengths zero same others = others
onto_same t lengths (suc n) no_value others = others
onto_same t lengths (suc n) (more_values s rest) others = onto_same t lengths n rest (more_values s others)

pub append_same : (t : Tables) (lengths : List ℕ) → {vs : List run.Value} → {ws : List Value} → SameValues t lengths vs ws → {us : List run.Value} → {bs : List Value} → SameValues t lengths us bs → SameValues t lengths (vs ++ us) (ws ++ bs)
append_same t lengths no_value others = others
append_same t lengths (more_values s rest) others = more_values s (append_same t lengths rest others)

pub slot_at : {base : List ℕ} → (lengths : List ℕ) (k : ℕ) → {ss : List (Option ℕ)} → {vs : List Value} → SameSlots lengths ss vs → (t : Tables) (st : State) (offset : ℕ) → st.output ≡ [] → (f : run.Value → Run Control) (g : Value → Step)
    → ((o n : ℕ) → slice_get lengths o ≡ Some n → Follows base t (f (run.Point o offset) st) (g (Point o n offset)))
    → Follows base t (after (code.pointer_in (code.slot_in (slice_get ss k)) offset st) f) (unless_act (pointer_in (slice_get vs k) offset) g)
unfolding code.pointer_in undefined give after
slot_at lengths k no_slot t st offset e f g next = stops act.OutsideObject e
slot_at lengths zero (more_slots without rest) t st offset e f g next = stops act.OutsideObject e
slot_at lengths zero (more_slots (pointing o n there) rest) t st offset e f g next = next o n there
slot_at lengths (suc k) (more_slots s rest) t st offset e f g next = slot_at lengths k rest t st offset e f g next

-- a truth as a word
told : {t : Tables} → {lengths : List ℕ} → (b c : Bool) → b ≡ c → Same t lengths (operators.truth_value b) (plain_operators.truth_value c)
told {t} {lengths} b c e = subst (λ (d : Bool). Same t lengths (operators.truth_value b) (plain_operators.truth_value d)) e (word (truth b))

-- ---- instructions

module _ {base : List ℕ} (t : Tables) (p : Program) (is_t : t.literals ≡ p.literals) (apart : AreApart t.names) (f : FlatCode) (byte : ℕ) (c : Control) (s : Store) (m : Machine) (tracks : TracksAt base t c s m) where
  -- a value is made of the one on top
  pub made_of : (F : run.Value → Run run.Value) (u : Unary) → ((v : run.Value) (w : Value) → Same t (lengths_of s.objects) v w → Agree (Same t (lengths_of s.objects)) (fresh s) (F v (fresh s)) (made t.literals m.memory u w))
      → Follows base t (with_top c.stack (λ v rest. F v >>= λ w. give (code.pushed c rest w)) (fresh s)) (step p byte (plain.Unary u) m)
  unfolding ◌>>=◌
  made_of F u agree =
      subst (λ (ls : List Literal). Follows base t (with_top c.stack (λ v rest st. after (F v st) (λ w. give (code.pushed c rest w))) (fresh s)) (on_top m.values.mine (λ v rest. unless_act (made ls m.memory u v) (λ w. quiet (pushed m rest w))))) is_t
      (top t (lengths_of s.objects) (fresh s) refl (λ v rest st. after (F v st) (λ w. give (code.pushed c rest w))) (λ v rest. unless_act (made t.literals m.memory u v) (λ w. quiet (pushed m rest w))) tracks.values
      (λ v rest w others same below.
      result t (Same t (lengths_of s.objects)) (fresh s) (λ x. give (code.pushed c rest x)) (λ x. quiet (pushed m others x)) refl (agree v w same) (λ x y alike. pushes t c s m tracks x y rest others alike below)))

  pub use_top : Follows base t (step_of (fed f byte) instruction.Use c (fresh s)) (step p byte (plain.Unary unary.Use) m)
  unfolding step_of
  use_top = made_of operators.used unary.Use (λ v w same. uses t (lengths_of s.objects) (fresh s) same)

  pub fetch_top : (ty : CType) → Follows base t (step_of (fed f byte) (instruction.Fetch ty) c (fresh s)) (step p byte (plain.Unary (unary.Fetch (fetch_of ty))) m)
  unfolding step_of
  fetch_top ty = made_of (operators.value_at false ty) (unary.Fetch (fetch_of ty)) (λ v w same. fetches t (fresh s) m.memory ty v w tracks.memory same)

  pub follow_top : (ty : CType) → Follows base t (step_of (fed f byte) (instruction.Follow ty) c (fresh s)) (step p byte (plain.Unary (unary.Fetch (follow_of ty))) m)
  unfolding step_of
  follow_top ty = made_of (operators.pointed_value false ty) (unary.Fetch (follow_of ty)) (λ v w same. follows t (fresh s) m.memory ty v w tracks.memory same)

  pub member_top : (n : ℕ) → Follows base t (step_of (fed f byte) (instruction.Member n) c (fresh s)) (step p byte (plain.Unary (unary.Member n)) m)
  unfolding step_of
  member_top n = made_of (memory.member_at n) (unary.Member n) (λ v w same. members_show t (fresh s) v w n same)

  pub word_top : (op : UnOp) → Follows base t (step_of (fed f byte) (instruction.OneWord op) c (fresh s)) (step p byte (plain.Unary (unary.OneWord op)) m)
  unfolding step_of
  word_top op = made_of (operators.on_word op) (unary.OneWord op) (λ v w same. words t (fresh s) m.memory op v w same)

  -- a value is made of the one on top, whatever it is
  pub turned : (F : run.Value → run.Value) (G : Value → Value) (u : Unary) → ((v : run.Value) (w : Value) → Same t (lengths_of s.objects) v w → Same t (lengths_of s.objects) (F v) (G w))
      → Follows base t (with_top c.stack (λ v rest. give (code.pushed c rest (F v))) (fresh s)) (on_top m.values.mine (λ v rest. quiet (pushed m rest (G v))))
  turned F G u agree =
      top t (lengths_of s.objects) (fresh s) refl (λ v rest. give (code.pushed c rest (F v))) (λ v rest. quiet (pushed m rest (G v))) tracks.values
      (λ v rest w others same below. pushes t c s m tracks (F v) (G w) rest others (agree v w same) below)

  pub forget_top : Follows base t (step_of (fed f byte) instruction.Forget c (fresh s)) (step p byte (plain.Unary unary.Forget) m)
  unfolding step_of
  forget_top = turned (λ v. run.Missing) (λ v. Missing) unary.Forget (λ v w same. missing)

  pub truth_top : Follows base t (step_of (fed f byte) instruction.Truth c (fresh s)) (step p byte (plain.Unary unary.Truth) m)
  unfolding step_of
  truth_top = turned (λ v. operators.truth_value (operators.is_true v)) (λ v. plain_operators.truth_value (is_true v)) unary.Truth (λ v w same. told (operators.is_true v) (is_true w) (truths t (lengths_of s.objects) same))

  pub negate_top : Follows base t (step_of (fed f byte) instruction.Negate c (fresh s)) (step p byte (plain.Unary unary.Negate) m)
  unfolding step_of
  negate_top = turned (λ v. operators.truth_value (not (operators.is_true v))) (λ v. plain_operators.truth_value (not (is_true v))) unary.Negate (λ v w same. told (not (operators.is_true v)) (not (is_true w)) (ap not (truths t (lengths_of s.objects) same)))

  pub convert_top : (ty : CType) → Follows base t (step_of (fed f byte) (instruction.Convert ty) c (fresh s)) (step p byte (plain.Unary (unary.Convert (kind_of ty))) m)
  unfolding step_of
  convert_top ty = turned (operators.converted ty) (plain_operators.converted (kind_of ty)) (unary.Convert (kind_of ty)) (λ v w same. conversions t (lengths_of s.objects) ty v w same)

  pub drop_top : Follows base t (step_of (fed f byte) instruction.Drop c (fresh s)) (step p byte plain.Pop m)
  unfolding step_of
  drop_top =
      top t (lengths_of s.objects) (fresh s) refl (λ v rest. give (record c { at = suc c.at; stack = rest })) (λ v rest. quiet (record (plain_machine.with_values m rest) { at = suc m.at })) tracks.values
      (λ v rest w others same below. stands t c s m tracks (suc c.at) (suc m.at) rest others (ap suc tracks.at) below)

  pub forget_value : Follows base t (step_of (fed f byte) instruction.Nowhere c (fresh s)) (step p byte plain.Nowhere m)
  unfolding step_of undefined
  forget_value = stops act.OutsideObject refl

  pub stuck : Follows base t (step_of (fed f byte) instruction.Stuck c (fresh s)) (step p byte plain.Stuck m)
  unfolding step_of undefined
  stuck = stops act.OtherKind refl

  pub end_run : Follows base t (step_of (fed f byte) instruction.End c (fresh s)) (step p byte plain.End m)
  unfolding step_of exit
  end_run = ends refl

  pub operate_two : (tags : Tags) (op : BinOp) (a b : CType) → HasElements tags op a → Follows base t (step_of (fed f byte) (instruction.Operate tags op a b) c (fresh s)) (step p byte (plain.Operate (operation_of tags op a b)) m)
  unfolding step_of ◌>>=◌
  operate_two tags op a b some =
      subst (λ (ls : List Literal). Follows base t (with_two c.stack (λ x y rest st. after (operators.operated tags op a b x y st) (λ w. give (code.pushed c rest w))) (fresh s)) (on_two m.values.mine (λ x y rest. unless_act (operated ls m.memory (operation_of tags op a b) x y) (λ w. quiet (pushed m rest w))))) is_t
      (two t (lengths_of s.objects) (fresh s) refl (λ x y rest st. after (operators.operated tags op a b x y st) (λ w. give (code.pushed c rest w))) (λ x y rest. unless_act (operated t.literals m.memory (operation_of tags op a b) x y) (λ w. quiet (pushed m rest w))) tracks.values
      (λ x y rest v w others q r below.
      result t (Same t (lengths_of s.objects)) (fresh s) (λ z. give (code.pushed c rest z)) (λ z. quiet (pushed m others z)) refl (operations t (fresh s) m.memory tags op a b x y v w apart tracks.memory some q r)
      (λ z y alike. pushes t c s m tracks z y rest others alike below)))

  pub slot_pushed : (k : ℕ) → Follows base t (step_of (fed f byte) (instruction.Slot k) c (fresh s)) (step p byte (plain.Slot k) m)
  unfolding step_of code.slot_pointer ◌>>=◌
  slot_pushed k =
      slot_at (lengths_of s.objects) k tracks.slots t (fresh s) 0 refl (λ v. give (code.pushed c c.stack v)) (λ v. quiet (pushed m m.values.mine v))
      (λ o n there. pushes t c s m tracks (run.Point o 0) (Point o n 0) c.stack m.values.mine (shown.point o n 0 there) tracks.values)

  pub jump_on : (n : ℕ) → Follows base t (step_of (fed f byte) (instruction.Jump n) c (fresh s)) (step p byte (plain.Jump n) m)
  unfolding step_of
  jump_on n = stands t c s m tracks (suc c.at + n) (suc m.at + n) c.stack m.values.mine (ap (λ (k : ℕ). suc k + n) tracks.at) tracks.values

  pub jump_back : (n : ℕ) → Follows base t (step_of (fed f byte) (instruction.Back n) c (fresh s)) (step p byte (plain.Back n) m)
  unfolding step_of
  jump_back n = stands t c s m tracks (suc c.at - n) (suc m.at - n) c.stack m.values.mine (ap (λ (k : ℕ). suc k - n) tracks.at) tracks.values

  pub jump_unless : (n : ℕ) → Follows base t (step_of (fed f byte) (instruction.JumpUnless n) c (fresh s)) (step p byte (plain.JumpUnless n) m)
  unfolding step_of
  jump_unless n =
      top t (lengths_of s.objects) (fresh s) refl (λ v rest. give (record c { at = if operators.is_true v then suc c.at else suc c.at + n; stack = rest }))
      (λ v rest. quiet (record (plain_machine.with_values m rest) { at = if is_true v then suc m.at else suc m.at + n })) tracks.values
      (λ v rest w others same below.
      stands t c s m tracks (if operators.is_true v then suc c.at else suc c.at + n) (if is_true w then suc m.at else suc m.at + n) rest others
      (ap (λ (b : Bool). if b then suc m.at else suc m.at + n) (sym (truths t (lengths_of s.objects) same)) ∙ ap (λ (k : ℕ). if operators.is_true v then suc k else suc k + n) tracks.at) below)

  pub turn_top : (n : ℕ) → Follows base t (step_of (fed f byte) (instruction.Turn n) c (fresh s)) (step p byte (plain.Turn n) m)
  unfolding step_of
  turn_top n =
      stands t c s m tracks (suc c.at) (suc m.at) (code.arguments n c.stack ++ drop n c.stack) (plain_arguments n m.values.mine ++ drop n m.values.mine) (ap suc tracks.at)
      (append_same t (lengths_of s.objects) (onto_same t (lengths_of s.objects) n tracks.values no_value) (drop_same t (lengths_of s.objects) n tracks.values))

  pub printed_top : (n : ℕ) → Follows base t (step_of (fed f byte) (instruction.Printed n) c (fresh s)) (step p byte (plain.Printed n) m)
  unfolding step_of
  printed_top n = pushes t c s m tracks run.Missing Missing (drop n c.stack) (drop n m.values.mine) missing (drop_same t (lengths_of s.objects) n tracks.values)

  pub pay_unit : Follows base t (step_of (fed f byte) instruction.Pay c (fresh s)) (step p byte plain.Pay m)
  unfolding step_of
  pay_unit =
      unit t c s m tracks (give (code.onward c)) (λ d. quiet (plain_machine.onward d))
      (λ left now. stands t c (record s { left = left }) (record m { left = left }) now (suc c.at) (suc m.at) c.stack m.values.mine (ap suc tracks.at) tracks.values)
