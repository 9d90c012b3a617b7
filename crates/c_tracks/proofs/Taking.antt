-- Strings, functions that are always known, constants, and what is open.
use Rattle.std.proofs.Common.{◌≡◌, ℕ, zero, suc, ◌+◌, ◌-◌, ◌%◌, ◌^◌, Bool, true, false, List, [], ◌∷◌, Option, Some, None, drop, refl, sym, ap, ◌∙◌, subst, if◌then◌else◌}
use Rattle.std.specs.Prelude.{◌==◌, slice_get, codes}
use Rattle.std.specs.Str.{bytes_eq}
use Rattle.c_types.specs.Types.{CTypes}
use Rattle.c_eval.specs.State as run
use Rattle.c_eval.specs.State.{State, Run}
use Rattle.c_eval.specs.Run.{◌>>=◌, after, give, undefined, exit, put, next_byte, objects_now}
use Rattle.c_eval.specs.Memory as memory
use Rattle.c_eval.specs.Operators as operators
use Rattle.c_eval.specs.BuiltIns as functions
use Rattle.c_eval.specs.BuiltIns.{cells_from}
use Rattle.c_code.specs.Code as instruction
use Rattle.c_code.specs.Machine as code
use Rattle.c_code.specs.Machine.{Control, step_of, with_top}
use Rattle.c_rule.specs.Stepping.{FlatCode, Store, fresh, fed}
use Rattle.c_store.specs.declared.act.Act.TheVariants as act
use Rattle.c_store.specs.Values.{Value, Word, Literal, Cell}
use Rattle.c_store.specs.Words.{offset_of, at_offset, cell_at}
use Rattle.c_resolved.specs.Same.{Tables, Same, word, null, point, letter, function, missing, unset, holds, SameValues, no_value, more_values, lengths_of}
use Rattle.c_resolved.proofs.Likeness.{offsets, at_offsets}
use Rattle.c_resolved.proofs.Reading.{SameCellMaybe, nowhere, there, cell_same}
use Rattle.c_plain.specs.declared.instruction.BuiltIn.TheVariants as known
use Rattle.c_plain.specs.declared.instruction.Arguments.{Arguments}
use Rattle.c_plain.specs.declared.instruction.Instruction.TheVariants as plain
use Rattle.c_plain.specs.Machine as machine
use Rattle.c_plain.specs.Machine.{Machine, Step, quiet, wrote, unless_act, on_top, onward, with_values}
use Rattle.c_plain.specs.Operators as plain_operators
use Rattle.c_plain.specs.Program.{Program}
use Rattle.c_plain.specs.Rule as rule
use Rattle.c_plain.specs.Rule.{step, text_put, arguments_of}
use Rattle.c_plain.specs.Calls as calls
use Rattle.c_resolved.specs.Means.{known_by, AreArguments}
use Rattle.c_tracks.specs.Tracks.{TracksAt, Follows, goes, ends, stops, Stands, in_loop, in_switch}
use Rattle.c_tracks.proofs.Basics.{top, unit, push, stand, stands}
use Rattle.c_tracks.proofs.Simple.{drop_same}
use Rattle.c_tracks.proofs.Calling.{arguments_same}
use Rattle.c_tracks.proofs.Leaving.{jumps, breaks, continues, returns, leaves_block, closes}

-- ---- strings

abbrev head_of : List run.Cell → Option run.Cell
head_of [] = None
head_of (c ∷ cs) = Some c

abbrev from_head : Option run.Cell → List run.Cell
from_head None = []
from_head (Some c) = c ∷ []

head_only : (c : Control) (rest : List run.Value) (v : run.Value) (cells : List run.Cell) → code.letter_put c rest v cells ≡ code.letter_put c rest v (from_head (head_of cells))
unfolding code.letter_put
head_only c rest v [] = refl
head_only c rest v (run.Unset ∷ cells) = refl
head_only c rest v (run.Holds (run.Word zero) ∷ cells) = refl
head_only c rest v (run.Holds (run.Word (suc n)) ∷ cells) = refl
head_only c rest v (run.Holds run.Null ∷ cells) = refl
head_only c rest v (run.Holds (run.Point o k) ∷ cells) = refl
head_only c rest v (run.Holds (run.Letter owner i text k) ∷ cells) = refl
head_only c rest v (run.Holds (run.Function name) ∷ cells) = refl
head_only c rest v (run.Holds run.Missing ∷ cells) = refl

head_drop : (cells : List run.Cell) (k : ℕ) → head_of (drop k cells) ≡ slice_get cells k
head_drop [] zero = refl
head_drop [] (suc k) = refl
head_drop (c ∷ cells) zero = refl
head_drop (c ∷ cells) (suc k) = head_drop cells k

head_from : (o : Option (List run.Cell)) (k : ℕ) → head_of (cells_from o k) ≡ memory.cell_in o k
head_from None k = refl
head_from (Some cells) k = head_drop cells k

letter_written : {base : List ℕ} → (t : Tables) (c : Control) (s : Store) (m : Machine) → TracksAt base t c s m → (rest : List run.Value) (others : List Value) → SameValues t (lengths_of s.objects) rest others → {v : run.Value} → {w : Value} → Same t (lengths_of s.objects) v w → (n : ℕ)
    → Follows base t (after (put (suc n) (fresh s)) (λ _. give (record c { stack = memory.at_offset v (suc (memory.offset_of v)) ∷ rest }))) (wrote (with_values m (at_offset w (suc (offset_of w)) ∷ others)) (suc n % 2 ^ 8 ∷ []))
unfolding after give put
letter_written t c s m tracks rest others below {v} {w} same n =
    goes
    (stand t c s m tracks c.at m.at (memory.at_offset v (suc (memory.offset_of v)) ∷ rest) (at_offset w (suc (offset_of w)) ∷ others) tracks.at
    (more_values (subst (λ (k : ℕ). Same t (lengths_of s.objects) (memory.at_offset v (suc (memory.offset_of v))) (at_offset w (suc k))) (offsets t (lengths_of s.objects) same) (at_offsets t (lengths_of s.objects) (suc (memory.offset_of v)) same)) below))
    refl

letter_on : {base : List ℕ} → (t : Tables) (c : Control) (s : Store) (m : Machine) → TracksAt base t c s m → (rest : List run.Value) (others : List Value) → SameValues t (lengths_of s.objects) rest others → {v : run.Value} → {w : Value} → Same t (lengths_of s.objects) v w → (n : ℕ)
    → Follows base t (code.letter_put c rest v (run.Holds (run.Word n) ∷ []) (fresh s)) (rule.letter_put n m w others)
unfolding code.letter_put ◌>>=◌
letter_on t c s m tracks rest others below same zero = stands t c s m tracks (suc c.at) (suc m.at) rest others (ap suc tracks.at) below
letter_on t c s m tracks rest others below {v} {w} same (suc n) =
    unit t c s m tracks (put (suc n) >>= λ _. give (record c { stack = memory.at_offset v (suc (memory.offset_of v)) ∷ rest }))
    (λ d. wrote (with_values d (at_offset w (suc (offset_of w)) ∷ others)) (suc n % 2 ^ 8 ∷ []))
    (λ left now. letter_written t c (record s { left = left }) (record m { left = left }) now rest others below same n)

text_on : {base : List ℕ} → (t : Tables) (c : Control) (s : Store) (m : Machine) → TracksAt base t c s m → (rest : List run.Value) (others : List Value) → SameValues t (lengths_of s.objects) rest others → {v : run.Value} → {w : Value} → Same t (lengths_of s.objects) v w
    → {o : Option run.Cell} → {d : Option Cell} → SameCellMaybe t (lengths_of s.objects) o d → Follows base t (code.letter_put c rest v (from_head o) (fresh s)) (text_put d m w others)
unfolding code.letter_put undefined
text_on t c s m tracks rest others below same nowhere = stops act.OutsideObject refl
text_on t c s m tracks rest others below same (there unset) = stops act.UnsetCell refl
text_on t c s m tracks rest others below same (there (holds (word n))) = letter_on t c s m tracks rest others below same n
text_on t c s m tracks rest others below same (there (holds null)) = stops act.OtherKind refl
text_on t c s m tracks rest others below same (there (holds (point o n k e))) = stops act.OtherKind refl
text_on t c s m tracks rest others below same (there (holds (letter owner l x k e own))) = stops act.OtherKind refl
text_on t c s m tracks rest others below same (there (holds (function g name e))) = stops act.OtherKind refl
text_on t c s m tracks rest others below same (there (holds missing)) = stops act.OtherKind refl

-- ---- functions that are always known

got_char : {base : List ℕ} → (t : Tables) (c : Control) (s : Store) (m : Machine) → TracksAt base t c s m → (byte : ℕ) (rest : List run.Value) (others : List Value) → SameValues t (lengths_of s.objects) rest others
    → Follows base t (after ((next_byte (byte ∷ []) >>= λ d. give (functions.character d)) (fresh s)) (λ v. give (code.pushed c rest v))) (quiet (machine.pushed m others (rule.character byte)))
unfolding next_byte ◌>>=◌ after give
got_char t c s m tracks byte rest others below = goes (push t c s m tracks (functions.character byte) (rule.character byte) rest others (by (byte == 0)) below) refl where
  by : (b : Bool) → Same t (lengths_of s.objects) (if b then run.Word (2 ^ 24 - 1) else run.Word byte) (if b then Word (2 ^ 24 - 1) else Word byte)
  by true = word (2 ^ 24 - 1)
  by false = word byte

got_byte : {base : List ℕ} → (t : Tables) (c : Control) (s : Store) (m : Machine) → TracksAt base t c s m → (byte : ℕ) (rest : List run.Value) (others : List Value) → SameValues t (lengths_of s.objects) rest others
    → Follows base t (after ((next_byte (byte ∷ []) >>= λ d. give (run.Word d)) (fresh s)) (λ v. give (code.pushed c rest v))) (quiet (machine.pushed m others (Word byte)))
unfolding next_byte ◌>>=◌ after give
got_byte t c s m tracks byte rest others below = goes (push t c s m tracks (run.Word byte) (Word byte) rest others (word byte) below) refl

put_value : {base : List ℕ} → (t : Tables) (c : Control) (s : Store) (m : Machine) → TracksAt base t c s m → (rest : List run.Value) (others : List Value) → SameValues t (lengths_of s.objects) rest others → {vs : List run.Value} → {ws : List Value} → SameValues t (lengths_of s.objects) vs ws
    → Follows base t (after (functions.with_one vs (λ v. operators.of_word v (λ d. put d >>= λ _. give v)) (fresh s)) (λ v. give (code.pushed c rest v))) (rule.with_one ws (λ v. unless_act (plain_operators.number_in v) (λ n. wrote (machine.pushed m others v) (n % 2 ^ 8 ∷ []))))
unfolding functions.with_one operators.of_word undefined put ◌>>=◌ after give
put_value t c s m tracks rest others below no_value = stops act.OtherKind refl
put_value t c s m tracks rest others below (more_values (word n) more) = goes (push t c s m tracks (run.Word n) (Word n) rest others (word n) below) refl
put_value t c s m tracks rest others below (more_values null more) = stops act.OtherKind refl
put_value t c s m tracks rest others below (more_values (point o n k e) more) = stops act.OtherKind refl
put_value t c s m tracks rest others below (more_values (letter owner l x k e own) more) = stops act.OtherKind refl
put_value t c s m tracks rest others below (more_values (function g name e) more) = stops act.OtherKind refl
put_value t c s m tracks rest others below (more_values missing more) = stops act.OtherKind refl

exit_value : {base : List ℕ} → (t : Tables) (s : Store) (k : run.Value → Run Control) → {vs : List run.Value} → {ws : List Value} → SameValues t (lengths_of s.objects) vs ws
    → Follows base t (after (functions.with_one vs (λ v. operators.of_word v (λ n. exit)) (fresh s)) k) (rule.with_one ws (λ v. unless_act (plain_operators.number_in v) (λ n. machine.ended)))
unfolding functions.with_one operators.of_word undefined exit after
exit_value t s k no_value = stops act.OtherKind refl
exit_value t s k (more_values (word n) more) = ends refl
exit_value t s k (more_values null more) = stops act.OtherKind refl
exit_value t s k (more_values (point o n l e) more) = stops act.OtherKind refl
exit_value t s k (more_values (letter owner l x j e own) more) = stops act.OtherKind refl
exit_value t s k (more_values (function g name e) more) = stops act.OtherKind refl
exit_value t s k (more_values missing more) = stops act.OtherKind refl

no_function : {base : List ℕ} → (t : Tables) (s : Store) (k : run.Value → Run Control) → Follows base t (after (undefined run.OtherKind (fresh s)) k) (machine.fault act.OtherKind)
unfolding undefined after
no_function t s k = stops act.OtherKind refl

built : {base : List ℕ} → (t : Tables) (c : Control) (s : Store) (m : Machine) → TracksAt base t c s m → (byte : ℕ) (rest : List run.Value) (others : List Value) → SameValues t (lengths_of s.objects) rest others → (vs : List run.Value) (ws : List Value) → SameValues t (lengths_of s.objects) vs ws
    → (P : Run run.Value) (a b d e g : Bool) → e ≡ false
    → Follows base t
    (after
    ((if a then (next_byte (byte ∷ []) >>= λ x. give (functions.character x))
    else if b then (next_byte (byte ∷ []) >>= λ x. give (run.Word x))
    else if d then functions.with_one vs (λ v. operators.of_word v (λ x. put x >>= λ _. give v))
    else if e then P
    else if g then functions.with_one vs (λ v. operators.of_word v (λ n. exit))
    else undefined run.OtherKind) (fresh s))
    (λ v. give (code.pushed c rest v)))
    (rule.built_in byte (if a then known.GetChar else if b then known.GetByte else if d then known.PutChar else if g then known.Exit else known.Other) m others ws)
built t c s m tracks byte rest others below vs ws same P true b d e g f = got_char t c s m tracks byte rest others below
built t c s m tracks byte rest others below vs ws same P false true d e g f = got_byte t c s m tracks byte rest others below
built t c s m tracks byte rest others below vs ws same P false false true e g f = put_value t c s m tracks rest others below same
built t c s m tracks byte rest others below vs ws same P false false false true g f = cc
built t c s m tracks byte rest others below vs ws same P false false false false true f = exit_value t s (λ v. give (code.pushed c rest v)) same
built t c s m tracks byte rest others below vs ws same P false false false false false f = no_function t s (λ v. give (code.pushed c rest v))

-- ---- instructions

module _ {base : List ℕ} (t : Tables) (p : Program) (is_t : t.literals ≡ p.literals) (f : FlatCode) (byte : ℕ) (c : Control) (s : Store) (m : Machine) (tracks : TracksAt base t c s m) where
  pub text_top : Follows base t (step_of (fed f byte) instruction.Text c (fresh s)) (step p byte plain.Text m)
  unfolding step_of objects_now ◌>>=◌ after
  text_top =
      subst (λ (ls : List Literal). Follows base t (with_top c.stack (λ v rest st. code.letter_put c rest v (cells_from (memory.cells_at st.objects v) (memory.offset_of v)) st) (fresh s)) (on_top m.values.mine (λ v rest. text_put (cell_at ls m.memory v) m v rest))) is_t
      (top t (lengths_of s.objects) (fresh s) refl (λ v rest st. code.letter_put c rest v (cells_from (memory.cells_at st.objects v) (memory.offset_of v)) st) (λ v rest. text_put (cell_at t.literals m.memory v) m v rest) tracks.values
      (λ v rest w others same below.
      subst (λ (k : Run Control). Follows base t (k (fresh s)) (text_put (cell_at t.literals m.memory w) m w others))
      (sym (head_only c rest v (cells_from (memory.cells_at s.objects v) (memory.offset_of v)) ∙ ap (λ (o : Option run.Cell). code.letter_put c rest v (from_head o)) (head_from (memory.cells_at s.objects v) (memory.offset_of v))))
      (text_on t c s m tracks rest others below same (cell_same t (lengths_of s.objects) s.objects m.memory tracks.memory same))))

  pub built_top : (name : List ℕ) (params : CTypes) (n : ℕ) (a : Arguments) → bytes_eq name (codes "puts") ≡ false → AreArguments p params n a
      → Follows base t (step_of (fed f byte) (instruction.BuiltIn name params n) c (fresh s)) (step p byte (plain.BuiltIn (known_by name) a) m)
  unfolding step_of functions.built_in ◌>>=◌
  built_top name params n a single are =
      built t c s m tracks byte (drop n c.stack) (drop a.count m.values.mine) (subst (λ (k : ℕ). SameValues t (lengths_of s.objects) (drop n c.stack) (drop k m.values.mine)) (sym are.0) (drop_same t (lengths_of s.objects) n tracks.values))
      (operators.all_converted params (code.arguments n c.stack)) (arguments_of p a m.values.mine) (arguments_same t (lengths_of s.objects) p params n a are tracks.values)
      (functions.with_one (operators.all_converted params (code.arguments n c.stack)) (λ v. functions.put_string_at false v >>= λ _. put 10 >>= λ _. give (run.Word 0)))
      (bytes_eq name (codes "getchar")) (bytes_eq name (codes "__builtin_getc")) (bytes_eq name (codes "putchar")) (bytes_eq name (codes "puts")) (bytes_eq name (codes "exit")) single

  pub return_top : Follows base t (step_of (fed f byte) instruction.Return c (fresh s)) (step p byte plain.Return m)
  unfolding step_of ◌>>=◌
  return_top =
      top t (lengths_of s.objects) (fresh s) refl (λ v rest st. after (code.unwind c.opened st) (λ _. code.returned_to v c.frames)) (λ v rest. calls.returned m.opened v m) tracks.values
      (λ v rest w others same below. returns t (lengths_of s.objects) m.at m.values.mine m.slots.mine m.opened m.left m.charge v w same tracks.opened s m.memory refl tracks.memory tracks.files tracks.left)

  pub break_out : Follows base t (step_of (fed f byte) instruction.Break c (fresh s)) (step p byte plain.Break m)
  unfolding step_of
  break_out = breaks t (lengths_of s.objects) c.stack m.at m.values.mine m.opened m.left m.charge tracks.values tracks.opened s m.memory m.slots.mine refl tracks.slots tracks.memory tracks.files tracks.left tracks.charge

  pub continue_on : Follows base t (step_of (fed f byte) instruction.Continue c (fresh s)) (step p byte plain.Continue m)
  unfolding step_of
  continue_on = continues t (lengths_of s.objects) c.stack m.at m.values.mine m.opened m.left m.charge tracks.values tracks.opened s m.memory m.slots.mine refl tracks.slots tracks.memory tracks.files tracks.left tracks.charge

  pub leave_block : Follows base t (step_of (fed f byte) instruction.Leave c (fresh s)) (step p byte plain.Leave m)
  unfolding step_of
  leave_block = leaves_block t s m.memory c.at m.at c.stack m.values.mine m.slots.mine m.left m.charge tracks.opened tracks.at tracks.values tracks.slots tracks.memory tracks.files tracks.left tracks.charge

  pub open_loop : (again past : ℕ) → Follows base t (step_of (fed f byte) (instruction.Loop again past) c (fresh s)) (step p byte (plain.Loop again past) m)
  unfolding step_of
  open_loop again past =
      jumps t s m.memory (suc c.at) (suc m.at) c.stack m.values.mine c.slots m.slots.mine (code.Handler (Some (suc c.at + again)) (suc c.at + past) ∷ c.opened) c.frames m.values.below m.slots.below (machine.Loop (suc m.at + again) (suc m.at + past) ∷ m.opened) m.left m.charge
      (ap suc tracks.at) tracks.values tracks.slots
      (subst (λ (k : ℕ). Stands t (lengths_of s.objects) c.slots (code.Handler (Some (suc c.at + again)) (suc c.at + past) ∷ c.opened) c.frames m.values.below m.slots.below (machine.Loop (suc k + again) (suc k + past) ∷ m.opened)) (sym tracks.at) (in_loop (suc c.at + again) (suc c.at + past) tracks.opened))
      tracks.memory tracks.files tracks.left tracks.charge

  pub open_switch : (past : ℕ) → Follows base t (step_of (fed f byte) (instruction.Switch past) c (fresh s)) (step p byte (plain.Switch past) m)
  unfolding step_of
  open_switch past =
      jumps t s m.memory (suc c.at) (suc m.at) c.stack m.values.mine c.slots m.slots.mine (code.Handler None (suc c.at + past) ∷ c.opened) c.frames m.values.below m.slots.below (machine.Switch (suc m.at + past) ∷ m.opened) m.left m.charge
      (ap suc tracks.at) tracks.values tracks.slots
      (subst (λ (k : ℕ). Stands t (lengths_of s.objects) c.slots (code.Handler None (suc c.at + past) ∷ c.opened) c.frames m.values.below m.slots.below (machine.Switch (suc k + past) ∷ m.opened)) (sym tracks.at) (in_switch (suc c.at + past) tracks.opened))
      tracks.memory tracks.files tracks.left tracks.charge

  pub close_handler : Follows base t (step_of (fed f byte) instruction.Done c (fresh s)) (step p byte plain.Done m)
  unfolding step_of
  close_handler =
      jumps t s m.memory (suc c.at) (suc m.at) c.stack m.values.mine c.slots m.slots.mine (drop 1 c.opened) c.frames m.values.below m.slots.below (calls.closed m.opened) m.left m.charge
      (ap suc tracks.at) tracks.values tracks.slots (closes t (lengths_of s.objects) tracks.opened) tracks.memory tracks.files tracks.left tracks.charge
