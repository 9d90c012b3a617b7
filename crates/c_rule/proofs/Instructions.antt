-- What each instruction does.
use Rattle.std.proofs.Common.{◌≡◌, ℕ, zero, suc, ◌+◌, ◌<◌, List, [], ◌∷◌, ◌++◌, Option, Some, None, Bool, true, false, refl, sym, ap, ◌∙◌, subst, arith, append_assoc, append-nil}
use Rattle.std.specs.Prelude.{◌%◌, ◌/◌, ◌^◌, nat_le, nat_lt, not, ◌||◌, ◌==◌, drop, slice_get, codes, ℤ, pos, negsuc, if◌then◌else◌}
use Rattle.std.specs.Fmt.{digit_glyph, digits_onto, digits, signed_decimal}
use Rattle.std.specs.List.{AllByRecursion}
use Rattle.std.specs.Str.{bytes_eq}
use Rattle.word24.specs.Word.{signed_of}
use Rattle.mach_core.specs.declared.machine.Moved.{Moved}
use Rattle.mach_core.specs.declared.machine.Moved.TheVariants as move
use Rattle.mach_core.specs.Moved.{bytes_of, is_took}
use Rattle.c_syntax.specs.Words.{meaning}
use Rattle.c_syntax.specs.declared.tree.StepOp.{StepOp}
use Rattle.c_types.specs.Types.{CType, Int, Tags}
use Rattle.c_eval.specs.State as state
use Rattle.c_eval.specs.State.{Value, Word, Null, Point, Letter, Function, Missing, Object, Cell, Unset, Holds, UnsetCell, OutsideObject, OtherKind, NullCall, HelperLimit, State, Outcome, Run}
use Rattle.c_eval.specs.Run.{after, ◌>>=◌, give, paid, spend, put, put_all, most_charge, objects_now}
use Rattle.c_eval.specs.Memory.{cells_at, offset_of, kind_of}
use Rattle.c_eval.specs.Operators.{of_word, all_converted}
use Rattle.c_eval.specs.Eval.{step_op}
use Rattle.c_eval.specs.BuiltIns.{put_string, put_string_at, with_one, built_in, cells_from}
use Rattle.c_eval.specs.Meaning.{argument_objects}
use Rattle.c_code.specs.Code
use Rattle.c_code.specs.Code.{Instruction}
use Rattle.c_code.specs.Machine.{Open, Block, Handler, Frame, Control, Entry, Program, with_top, with_two, arguments, unwind, returned_to, broken_off, continued, left_block, pointer_in, slot_in, slot_pointer, begun, at_entry, called, called_through, step_at_place, digit_put, letter_put, step_of, pushed}
use Rattle.c_rule.specs.Stepping.{state_of, takes, is_single}
use Rattle.c_rule.proofs.Parting.{like, idle, mapped, Silent, Writes, silent_then, writes_then, writes_of, give_silent, undefined_silent, exit_silent, if_writes, paid_writes, put_writes, put_all_writes, objects_now_silent, recharged_silent}
use Rattle.c_rule.proofs.Words.{load_silent, enter_silent, leave_silent, member_at_silent, used_silent, of_word_silent, of_word_writes, operated_silent, on_word_silent, value_at_silent, pointed_value_silent, assigned_silent, updated_silent, clear_silent, spell_silent}
use Rattle.c_rule.proofs.Fuel.{Fuelled, fuel_of, fuel_then, of_word_fuel, put_fuel, put_all_fuel, paid_fuel, built_fuel}

-- what comes to a fault has written nothing
abbrev pub IsQuiet : {A : Type 0} → State → Outcome A → Type 0
IsQuiet st (state.Gives a s) = Unit {0}
IsQuiet st (state.Ended s) = Unit {0}
IsQuiet st (state.Going s) = s.output ≡ st.output
IsQuiet st (state.Undefined act s) = s.output ≡ st.output

-- a piece, which takes nothing, was written
pub record HasPiece {A : Type 0} (st : State) (r : Outcome A) : Type 0 where
  pub moved : Moved
  pub took : is_took moved ≡ false
  pub output : (state_of r).output ≡ st.output ++ bytes_of moved

-- it writes at most one piece, and nothing on the way to a fault
pub record Piece {A : Type 0} (m : Run A) : Type 0 where
  pub quiet : (st : State) → IsQuiet st (m st)
  pub piece : (st : State) → HasPiece st (m st)

-- an instruction that takes nothing
pub record Steps (single : Bool) (m : Run Control) : Type 0 where
  pub writes : Writes m
  pub piece : single ≡ true → Piece m
  pub fuel : Fuelled m

quiet_like : {A : Type 0} (st : State) (r : Outcome A) → IsQuiet st (mapped (λ s. like st s) r)
quiet_like st (state.Gives a s) = tt
quiet_like st (state.Ended s) = tt
quiet_like st (state.Going s) = refl
quiet_like st (state.Undefined act s) = refl

same_output : {A : Type 0} (st : State) (r : Outcome A) → (state_of (mapped (λ s. like st s) r)).output ≡ st.output
same_output st (state.Gives a s) = refl
same_output st (state.Ended s) = refl
same_output st (state.Going s) = refl
same_output st (state.Undefined act s) = refl

piece_of : {A : Type 0} {m : Run A} → Silent m → Piece m
piece_of {m = m} t = record {
  quiet = λ st. subst (λ r. IsQuiet st r) (sym (t.silent st)) (quiet_like st (m (idle st)));
  piece = λ st. record { moved = move.Quiet; took = refl; output = ap (λ r. (state_of r).output) (t.silent st) ∙ (same_output st (m (idle st)) ∙ sym (append-nil st.output)) };
}

silently : {single : Bool} {m : Run Control} → Silent m → Steps single m
silently t = record { writes = writes_of t; piece = λ e. piece_of t; fuel = fuel_of t }

-- ---- the machine's words

top_silent : (stack : List Value) {f : Value → List Value → Run Control} → ((v : Value) (rest : List Value) → Silent (f v rest)) → Silent (with_top stack f)
unfolding with_top
top_silent [] t = undefined_silent HelperLimit
top_silent (v ∷ vs) t = t v vs

two_silent : (stack : List Value) {f : Value → Value → List Value → Run Control} → ((x y : Value) (rest : List Value) → Silent (f x y rest)) → Silent (with_two stack f)
unfolding with_two
two_silent [] t = undefined_silent HelperLimit
two_silent (y ∷ []) t = undefined_silent HelperLimit
two_silent (y ∷ x ∷ vs) t = t x y vs

unwind_silent : (os : List Open) → Silent (unwind os)
unfolding unwind
unwind_silent [] = give_silent tt
unwind_silent (Block n slots ∷ os) = silent_then (leave_silent n) (λ _. unwind_silent os)
unwind_silent (Handler again past ∷ os) = unwind_silent os

returned_silent : (v : Value) (frames : List Frame) → Silent (returned_to v frames)
unfolding returned_to
returned_silent v [] = undefined_silent HelperLimit
returned_silent v (f ∷ fs) = silent_then (leave_silent f.first) (λ _. silent_then (give_silent _) (λ w. recharged_silent f.charge _))

broken_silent : (stack : List Value) (frames : List Frame) (slots : List (Option ℕ)) (os : List Open) → Silent (broken_off stack frames slots os)
unfolding broken_off
broken_silent stack frames slots [] = returned_silent Missing frames
broken_silent stack frames slots (Block n before ∷ os) = silent_then (leave_silent n) (λ _. broken_silent stack frames before os)
broken_silent stack frames slots (Handler again past ∷ os) = give_silent _

continued_silent : (stack : List Value) (frames : List Frame) (slots : List (Option ℕ)) (os : List Open) → Silent (continued stack frames slots os)
unfolding continued
continued_silent stack frames slots [] = returned_silent Missing frames
continued_silent stack frames slots (Block n before ∷ os) = silent_then (leave_silent n) (λ _. continued_silent stack frames before os)
continued_silent stack frames slots (Handler None past ∷ os) = continued_silent stack frames slots os
continued_silent stack frames slots (Handler (Some again) past ∷ os) = give_silent _

left_silent : (c : Control) (os : List Open) → Silent (left_block c os)
unfolding left_block
left_silent c [] = undefined_silent HelperLimit
left_silent c (Block n before ∷ os) = silent_then (leave_silent n) (λ _. give_silent _)
left_silent c (Handler again past ∷ os) = undefined_silent HelperLimit

pointer_in_silent : (o : Option ℕ) (offset : ℕ) → Silent (pointer_in o offset)
unfolding pointer_in
pointer_in_silent None offset = undefined_silent OutsideObject
pointer_in_silent (Some o) offset = give_silent _

slot_silent : (c : Control) (slot offset : ℕ) → Silent (slot_pointer c slot offset)
unfolding slot_pointer
slot_silent c slot offset = pointer_in_silent (slot_in (slice_get c.slots slot)) offset

begun_silent : (b : Bool) (n : ℕ) (m : Run Control) (st : State) → Silent m → begun b n m st ≡ mapped (λ s. like st s) (begun b n m (idle st))
unfolding begun
begun_silent false n m st t = refl
begun_silent true n m st t = t.silent (record st { charge = st.charge + n })

pub called_silent : (c : Control) (rest : List Value) (entry : Option Entry) (vs : List Value) → Silent (called c rest entry vs)
unfolding called
called_silent c rest None vs = record { silent = λ st. refl }
called_silent c rest (Some e) vs =
    record { silent = λ st. begun_silent (nat_le (st.charge + e.charge) most_charge) e.charge _ st (silent_then (enter_silent (argument_objects e.params vs)) (λ n. give_silent (at_entry c rest e vs st.charge n))) }

step_silent : (tags : Tags) (op : StepOp) (t : CType) (place : Value) → Silent (step_at_place tags op t place)
unfolding step_at_place
step_silent tags op t place =
    silent_then (load_silent (kind_of t) place) (λ old. silent_then (operated_silent tags (step_op op) t Int old (Word 1)) (λ new. silent_then (assigned_silent t place new) (λ _. give_silent _)))

-- ---- output

-- it writes a piece, and goes on
record Puts (m : Run (Unit {0})) : Type 0 where
  moved : Moved
  took : is_took moved ≡ false
  puts : (st : State) → m st ≡ state.Gives tt (record st { output = st.output ++ bytes_of moved })

put_puts : (n : ℕ) → Puts (put n)
unfolding put
put_puts n = record { moved = move.Wrote (n % 2 ^ 8); took = refl; puts = λ st. refl }

put_all_output : (cs : List ℕ) → AllByRecursion (λ c. c < 2 ^ 8) cs → (st : State) → put_all cs st ≡ state.Gives tt (record st { output = st.output ++ cs })
unfolding put_all put ◌>>=◌ after give
put_all_output [] all st = ap (λ o. state.Gives tt (record st { output = o })) (sym (append-nil st.output))
put_all_output (c ∷ cs) all st =
    let small : c % 2 ^ 8 ≡ c = omega (arith, all.0) in
    put_all_output cs all.1 (record st { output = st.output ++ c % 2 ^ 8 ∷ [] })
    ∙ ap (λ o. state.Gives tt (record st { output = o })) (append_assoc st.output (c % 2 ^ 8 ∷ []) cs ∙ ap (λ d. st.output ++ d ∷ cs) small)

glyph_byte : (b : Bool) (d : ℕ) → d < 10 → (if b then 48 + d else 87 + d) < 2 ^ 8
glyph_byte true d lt = omega (arith, lt)
glyph_byte false d lt = omega (arith, lt)

bytes_if : (b : Bool) (xs ys : List ℕ) → AllByRecursion (λ c. c < 2 ^ 8) xs → AllByRecursion (λ c. c < 2 ^ 8) ys → AllByRecursion (λ c. c < 2 ^ 8) (if b then xs else ys)
bytes_if true xs ys t u = t
bytes_if false xs ys t u = u

digits_bytes : (k n : ℕ) (acc : List ℕ) → AllByRecursion (λ c. c < 2 ^ 8) acc → AllByRecursion (λ c. c < 2 ^ 8) (digits_onto k 10 false n acc)
digits_bytes zero n acc all = all
digits_bytes (suc k) n acc all =
    let last : (digit_glyph false (n % 10)) < 2 ^ 8 = glyph_byte (nat_lt (n % 10) 10) (n % 10) (omega arith) in
    bytes_if (n / 10 == 0) (digit_glyph false (n % 10) ∷ acc) (digits_onto k 10 false (n / 10) (digit_glyph false (n % 10) ∷ acc)) (last, all) (digits_bytes k (n / 10) (digit_glyph false (n % 10) ∷ acc) (last, all))

signed_bytes : (z : ℤ) → AllByRecursion (λ c. c < 2 ^ 8) (signed_decimal z)
unfolding digits
signed_bytes (pos n) = digits_bytes 64 n [] tt
signed_bytes (negsuc n) = (omega arith, digits_bytes 64 (suc n) [] tt)

spelled_puts : (z : ℤ) → Puts (put_all (signed_decimal z))
spelled_puts z = record { moved = move.Spelled z; took = refl; puts = put_all_output (signed_decimal z) (signed_bytes z) }

-- behind a piece the machine goes on
put_piece : (m : Run (Unit {0})) (d : Control) → Puts m → Piece (m >>= λ _. give d)
unfolding ◌>>=◌ after give
put_piece m d t = record {
  quiet = λ st. subst (λ r. IsQuiet st (after r (λ _. give d))) (sym (t.puts st)) tt;
  piece = λ st. record { moved = t.moved; took = t.took; output = ap (λ r. (state_of (after r (λ _. give d))).output) (t.puts st) };
}

word_piece : (v : Value) (f : ℕ → Run (Unit {0})) (d : Control) → ((n : ℕ) → Puts (f n)) → Piece (of_word v f >>= λ _. give d)
unfolding of_word
word_piece (Word n) f d t = put_piece (f n) d (t n)
word_piece v f d t = piece_of (silent_then (undefined_silent OtherKind) (λ _. give_silent d))

-- a word is written
word_steps : {single : Bool} (v : Value) {f : ℕ → Run (Unit {0})} (d : Control) → ((n : ℕ) → Writes (f n)) → ((n : ℕ) → Puts (f n)) → ((n : ℕ) → Fuelled (f n)) → Steps single (of_word v f >>= λ _. give d)
word_steps v {f = f} d w t u = record { writes = writes_then (of_word_writes v w) (λ _. writes_of (give_silent d)); piece = λ e. word_piece v f d t; fuel = fuel_then (of_word_fuel v u) (λ _. fuel_of (give_silent d)) }

put_steps : {single : Bool} (n : ℕ) (d : Control) → Steps single (put n >>= λ _. give d)
put_steps n d = record { writes = writes_then (put_writes n) (λ _. writes_of (give_silent d)); piece = λ e. put_piece (put n) d (put_puts n); fuel = fuel_then (put_fuel n) (λ _. fuel_of (give_silent d)) }

digit_steps : {single : Bool} (c : Control) (rest : List Value) (v : Value) → Steps single (digit_put c rest v)
unfolding digit_put
digit_steps c rest (Word n) = put_steps n _
digit_steps c rest Missing = silently (give_silent _)
digit_steps c rest v = silently (undefined_silent OtherKind)

spend_quiet : (m : Run Control) (l : ℕ) (st : State) → Piece m → IsQuiet st (spend m l st)
unfolding spend
spend_quiet m zero st t = refl
spend_quiet m (suc l) st t = t.quiet (record st { left = l })

spend_piece : (m : Run Control) (l : ℕ) (st : State) → Piece m → HasPiece st (spend m l st)
unfolding spend
spend_piece m zero st t = record { moved = move.Quiet; took = refl; output = sym (append-nil st.output) }
spend_piece m (suc l) st t = let p = t.piece (record st { left = l }) in record { moved = p.moved; took = p.took; output = p.output }

paid_steps : {single : Bool} {m : Run Control} → Steps single m → Steps single (paid false m)
unfolding paid
paid_steps {m = m} t = record { writes = paid_writes t.writes; piece = λ e. record { quiet = λ st. spend_quiet m st.left st (t.piece e); piece = λ st. spend_piece m st.left st (t.piece e) }; fuel = paid_fuel t.fuel }

letter_steps : {single : Bool} (c : Control) (rest : List Value) (v : Value) (cells : List Cell) → Steps single (letter_put c rest v cells)
unfolding letter_put
letter_steps c rest v [] = silently (undefined_silent OutsideObject)
letter_steps c rest v (Unset ∷ cells) = silently (undefined_silent UnsetCell)
letter_steps c rest v (Holds (Word zero) ∷ cells) = silently (give_silent _)
letter_steps c rest v (Holds (Word (suc n)) ∷ cells) = paid_steps (put_steps (suc n) _)
letter_steps c rest v (Holds w ∷ cells) = silently (undefined_silent OtherKind)

objects_steps : {single : Bool} {f : List Object → Run Control} → ((os : List Object) → Steps single (f os)) → Steps single (objects_now >>= f)
unfolding objects_now ◌>>=◌ after
objects_steps t = record { writes = writes_then (writes_of objects_now_silent) (λ os. (t os).writes); piece = λ e. record { quiet = λ st. ((t st.objects).piece e).quiet st; piece = λ st. let p = ((t st.objects).piece e).piece st in record { moved = p.moved; took = p.took; output = p.output } }; fuel = fuel_then (fuel_of objects_now_silent) (λ os. (t os).fuel) }

top_steps : {single : Bool} (stack : List Value) {f : Value → List Value → Run Control} → ((v : Value) (rest : List Value) → Steps single (f v rest)) → Steps single (with_top stack f)
unfolding with_top
top_steps [] t = silently (undefined_silent HelperLimit)
top_steps (v ∷ vs) t = t v vs

through_steps : {single : Bool} (p : Program) (c : Control) (rest : List Value) (v : Value) (vs : List Value) → Steps single (called_through p c rest v vs)
unfolding called_through
through_steps p c rest (Function name) vs = paid_steps (silently (called_silent c rest (meaning p.entries name) vs))
through_steps p c rest Null vs = paid_steps (silently (undefined_silent NullCall))
through_steps p c rest v vs = paid_steps (silently (undefined_silent OtherKind))

-- ---- built-in functions

put_string_writes : (cells : List Cell) → Writes (put_string false cells)
unfolding put_string
put_string_writes [] = writes_of (undefined_silent OutsideObject)
put_string_writes (Unset ∷ cells) = writes_of (undefined_silent UnsetCell)
put_string_writes (Holds (Word zero) ∷ cells) = writes_of (give_silent tt)
put_string_writes (Holds (Word (suc n)) ∷ cells) = paid_writes (writes_then (put_writes (suc n)) (λ _. put_string_writes cells))
put_string_writes (Holds w ∷ cells) = writes_of (undefined_silent OtherKind)

string_writes : (p : Value) → Writes (put_string_at false p)
unfolding put_string_at
string_writes p = writes_then (writes_of objects_now_silent) (λ os. put_string_writes (cells_from (cells_at os p) (offset_of p)))

one_writes : (vs : List Value) {f : Value → Run Value} → ((v : Value) → Writes (f v)) → Writes (with_one vs f)
unfolding with_one
one_writes [] t = writes_of (undefined_silent OtherKind)
one_writes (v ∷ vs) t = t v

one_piece : (vs : List Value) {f : Value → Run Value} → ((v : Value) → Piece (f v)) → Piece (with_one vs f)
unfolding with_one
one_piece [] t = piece_of (undefined_silent OtherKind)
one_piece (v ∷ vs) t = t v

word_is_piece : {A : Type 0} (v : Value) {f : ℕ → Run A} → ((n : ℕ) → Piece (f n)) → Piece (of_word v f)
unfolding of_word
word_is_piece (Word n) t = t n
word_is_piece v t = piece_of (undefined_silent OtherKind)

put_is_piece : (n : ℕ) (v : Value) → Piece (put n >>= λ _. give v)
unfolding put ◌>>=◌ after give
put_is_piece n v = record { quiet = λ st. tt; piece = λ st. record { moved = move.Wrote (n % 2 ^ 8); took = refl; output = refl } }

-- neither of two tests holds
neither : (P : Run Value → Type 0) (a b : Bool) (x y z : Run Value) → (a || b) ≡ false → P z → P (if a then x else if b then y else z)
neither P false false x y z e t = t
neither P false true x y z e t = absurd (cc e)
neither P true b x y z e t = absurd (cc e)

if_piece : (b : Bool) {x y : Run Value} → Piece x → Piece y → Piece (if b then x else y)
if_piece true t u = t
if_piece false t u = u

else_piece : (b : Bool) (x : Run Value) {y : Run Value} → not b ≡ true → Piece y → Piece (if b then x else y)
else_piece true x e t = absurd (cc e)
else_piece false x e t = t

built_writes : (input name : List ℕ) (vs : List Value) → (bytes_eq name (codes "getchar") || bytes_eq name (codes "__builtin_getc")) ≡ false → Writes (built_in input false name vs)
unfolding built_in
built_writes input name vs e =
    neither Writes (bytes_eq name (codes "getchar")) (bytes_eq name (codes "__builtin_getc")) _ _ _ e
    (if_writes (bytes_eq name (codes "putchar")) (one_writes vs (λ v. of_word_writes v (λ c. writes_then (put_writes c) (λ _. writes_of (give_silent v)))))
    (if_writes (bytes_eq name (codes "puts")) (one_writes vs (λ v. writes_then (string_writes v) (λ _. writes_then (put_writes 10) (λ _. writes_of (give_silent _)))))
    (if_writes (bytes_eq name (codes "exit")) (one_writes vs (λ v. of_word_writes v (λ n. writes_of exit_silent))) (writes_of (undefined_silent OtherKind)))))

built_piece : (input name : List ℕ) (vs : List Value) → (bytes_eq name (codes "getchar") || bytes_eq name (codes "__builtin_getc")) ≡ false → not (bytes_eq name (codes "puts")) ≡ true → Piece (built_in input false name vs)
unfolding built_in
built_piece input name vs e single =
    neither Piece (bytes_eq name (codes "getchar")) (bytes_eq name (codes "__builtin_getc")) _ _ _ e
    (if_piece (bytes_eq name (codes "putchar")) (one_piece vs (λ v. word_is_piece v (λ c. put_is_piece c v)))
    (else_piece (bytes_eq name (codes "puts")) _ single
    (if_piece (bytes_eq name (codes "exit")) (one_piece vs (λ v. word_is_piece v (λ n. piece_of exit_silent))) (piece_of (undefined_silent OtherKind)))))

quiet_after : {A : Type 0} (st : State) (r : Outcome A) (h : A → Control) → IsQuiet st r → IsQuiet st (after r (λ a. give (h a)))
unfolding after give
quiet_after st (state.Gives a s) h t = tt
quiet_after st (state.Ended s) h t = tt
quiet_after st (state.Going s) h t = t
quiet_after st (state.Undefined act s) h t = t

piece_after : {A : Type 0} (st : State) (r : Outcome A) (h : A → Control) → HasPiece st r → HasPiece st (after r (λ a. give (h a)))
unfolding after give
piece_after st (state.Gives a s) h t = record { moved = t.moved; took = t.took; output = t.output }
piece_after st (state.Ended s) h t = record { moved = t.moved; took = t.took; output = t.output }
piece_after st (state.Going s) h t = record { moved = t.moved; took = t.took; output = t.output }
piece_after st (state.Undefined act s) h t = record { moved = t.moved; took = t.took; output = t.output }

piece_then : {A : Type 0} {m : Run A} (h : A → Control) → Piece m → Piece (m >>= λ a. give (h a))
unfolding ◌>>=◌
piece_then {m = m} h t = record { quiet = λ st. quiet_after st (m st) h (t.quiet st); piece = λ st. piece_after st (m st) h (t.piece st) }

-- ---- instructions

pub instruction_steps : (p : Program) (i : Instruction) (c : Control) → takes (Some i) ≡ false → Steps (is_single i) (step_of p i c)
unfolding step_of
instruction_steps p (Code.Push v) c e = silently (give_silent _)
instruction_steps p Code.Drop c e = silently (top_silent c.stack (λ v rest. give_silent _))
instruction_steps p Code.Use c e = silently (top_silent c.stack (λ v rest. silent_then (used_silent v) (λ w. give_silent _)))
instruction_steps p Code.Forget c e = silently (top_silent c.stack (λ v rest. give_silent _))
instruction_steps p Code.Truth c e = silently (top_silent c.stack (λ v rest. give_silent _))
instruction_steps p Code.Negate c e = silently (top_silent c.stack (λ v rest. give_silent _))
instruction_steps p (Code.Convert t) c e = silently (top_silent c.stack (λ v rest. give_silent _))
instruction_steps p Code.CheckWord c e = silently (top_silent c.stack (λ v rest. of_word_silent v (λ n. give_silent _)))
instruction_steps p (Code.Slot s) c e = silently (silent_then (slot_silent c s 0) (λ v. give_silent _))
instruction_steps p (Code.Global o) c e = silently (give_silent _)
instruction_steps p Code.Nowhere c e = silently (undefined_silent OutsideObject)
instruction_steps p (Code.Fetch t) c e = silently (top_silent c.stack (λ v rest. silent_then (value_at_silent t v) (λ w. give_silent _)))
instruction_steps p (Code.Follow t) c e = silently (top_silent c.stack (λ v rest. silent_then (pointed_value_silent t v) (λ w. give_silent _)))
instruction_steps p (Code.Member n) c e = silently (top_silent c.stack (λ v rest. silent_then (member_at_silent n v) (λ w. give_silent _)))
instruction_steps p (Code.OneWord op) c e = silently (top_silent c.stack (λ v rest. silent_then (on_word_silent op v) (λ w. give_silent _)))
instruction_steps p (Code.Operate tags op t u) c e = silently (two_silent c.stack (λ x y rest. silent_then (operated_silent tags op t u x y) (λ w. give_silent _)))
instruction_steps p (Code.Step tags op t) c e = silently (top_silent c.stack (λ v rest. silent_then (step_silent tags op t v) (λ w. give_silent _)))
instruction_steps p (Code.Assign t) c e = silently (two_silent c.stack (λ x y rest. silent_then (assigned_silent t x y) (λ w. give_silent _)))
instruction_steps p (Code.Update tags op t u) c e = silently (two_silent c.stack (λ x y rest. silent_then (updated_silent tags op t u x y) (λ w. give_silent _)))
instruction_steps p (Code.JumpUnless n) c e = silently (top_silent c.stack (λ v rest. give_silent _))
instruction_steps p (Code.Jump n) c e = silently (give_silent _)
instruction_steps p (Code.Back n) c e = silently (give_silent _)
instruction_steps p (Code.JumpAt word n) c e = silently (top_silent c.stack (λ v rest. of_word_silent v (λ x. give_silent _)))
instruction_steps p Code.Pay c e = paid_steps (silently (give_silent _))
instruction_steps p (Code.BuiltIn name params n) c e = record {
  writes = writes_then (built_writes p.input name (all_converted params (arguments n c.stack)) e) (λ v. writes_of (give_silent _));
  fuel = fuel_then (built_fuel p.input name (all_converted params (arguments n c.stack))) (λ v. fuel_of (give_silent _));
  piece = λ single. piece_then (λ v. pushed c (drop n c.stack) v) (built_piece p.input name (all_converted params (arguments n c.stack)) e single);
}
instruction_steps p (Code.Put byte) c e = put_steps byte _
instruction_steps p Code.Decimal c e = top_steps c.stack (λ v rest. word_steps v _ (λ n. put_all_writes _) (λ n. spelled_puts (signed_of n)) (λ n. put_all_fuel _))
instruction_steps p Code.Unsigned c e = top_steps c.stack (λ v rest. word_steps v _ (λ n. put_all_writes _) (λ n. spelled_puts (pos n)) (λ n. put_all_fuel _))
instruction_steps p Code.Character c e = top_steps c.stack (λ v rest. word_steps v _ put_writes put_puts put_fuel)
instruction_steps p Code.Hex c e = silently (top_silent c.stack (λ v rest. of_word_silent v (λ n. give_silent _)))
instruction_steps p Code.Digits c e = top_steps c.stack (λ v rest. digit_steps c rest v)
instruction_steps p Code.Text c e = top_steps c.stack (λ v rest. objects_steps (λ os. letter_steps c rest v (cells_from (cells_at os v) (offset_of v))))
instruction_steps p (Code.Turn n) c e = silently (give_silent _)
instruction_steps p (Code.Printed n) c e = silently (give_silent _)
instruction_steps p Code.Stuck c e = silently (undefined_silent OtherKind)
instruction_steps p (Code.Call name params n) c e = paid_steps (silently (called_silent c (drop n c.stack) (meaning p.entries name) (all_converted params (arguments n c.stack))))
instruction_steps p (Code.CallThrough params n) c e = top_steps (drop n c.stack) (λ v rest. through_steps p c rest v (all_converted params (arguments n c.stack)))
instruction_steps p Code.Return c e = silently (top_silent c.stack (λ v rest. silent_then (unwind_silent c.opened) (λ _. returned_silent v c.frames)))
instruction_steps p (Code.First s k t) c e = silently (top_silent c.stack (λ v rest. silent_then (slot_silent c s k) (λ place. silent_then (assigned_silent t place v) (λ _. give_silent _))))
instruction_steps p (Code.Clear s k kinds) c e = silently (silent_then (slot_silent c s k) (λ place. silent_then (clear_silent kinds place) (λ _. give_silent _)))
instruction_steps p (Code.Spell s k words) c e = silently (silent_then (slot_silent c s k) (λ place. silent_then (spell_silent words place) (λ _. give_silent _)))
instruction_steps p (Code.Enter cells count) c e = silently (silent_then (enter_silent cells) (λ o. give_silent _))
instruction_steps p Code.Leave c e = silently (left_silent c c.opened)
instruction_steps p (Code.Loop again past) c e = silently (give_silent _)
instruction_steps p (Code.Switch past) c e = silently (give_silent _)
instruction_steps p Code.Done c e = silently (give_silent _)
instruction_steps p Code.Break c e = silently (broken_silent c.stack c.frames c.slots c.opened)
instruction_steps p Code.Continue c e = silently (continued_silent c.stack c.frames c.slots c.opened)
instruction_steps p Code.End c e = silently exit_silent

pub instruction_fuel : (p : Program) (i : Instruction) (c : Control) → Fuelled (step_of p i c)
unfolding step_of
instruction_fuel p (Code.BuiltIn name params n) c = fuel_then (built_fuel p.input name (all_converted params (arguments n c.stack))) (λ v. fuel_of (give_silent _))
instruction_fuel p i c = (instruction_steps p i c refl).fuel
