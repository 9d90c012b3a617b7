-- Each instruction, and whole runs.
use Rattle.std.proofs.Common.{◌≡◌, ℕ, zero, suc, ◌+◌, Bool, true, false, not, ◌||◌, List, ◌++◌, Option, Some, None, length, map, replicate, refl, sym, ap, ◌∙◌, subst, cond, if◌then◌else◌}
use Rattle.std.specs.Prelude.{slice_get, codes}
use Rattle.std.specs.List.{AllByRecursion}
use Rattle.std.specs.Str.{bytes_eq}
use Rattle.word24.specs.Word.{number_of}
use Rattle.mach_core.specs.declared.machine.Status.{Status}
use Rattle.mach_core.specs.declared.machine.Status.TheVariants as status
use Rattle.mach_core.specs.Rule.{Moment, run_from, applied, stepped, if_going, fed_at, input_at}
use Rattle.c_types.specs.Types.{CType, CTypes}
use Rattle.std.proofs.lemmas.List.{length-map}
use Rattle.c_eval.specs.State as run
use Rattle.c_eval.specs.State.{State, Outcome}
use Rattle.c_eval.specs.Run.{◌>>=◌, after, give, undefined}
use Rattle.c_eval.specs.Memory as memory
use Rattle.c_code.specs.Code as instruction
use Rattle.c_code.specs.Machine as code
use Rattle.c_code.specs.Machine.{Control, step_of, step_at}
use Rattle.c_rule.specs.Stepping as rule
use Rattle.c_rule.specs.Stepping.{FlatCode, Store, fresh, fed, code_rule, config_of, state_of, takes, is_single}
use Rattle.c_store.specs.declared.act.Act.{Act}
use Rattle.c_store.specs.declared.act.Act.TheVariants as act
use Rattle.c_store.specs.declared.kind.Kind.{Kind}
use Rattle.c_store.specs.Acts.{number_of_act}
use Rattle.c_store.specs.Values.{Value, Word}
use Rattle.c_resolved.specs.Same.{act_of, kind_in, Tables, Same, word, null, point, letter, function, missing, lengths_of}
use Rattle.c_plain.specs.declared.instruction.Instruction.{Instruction}
use Rattle.c_plain.specs.declared.instruction.Instruction.TheVariants as plain
use Rattle.c_plain.specs.declared.instruction.BuiltIn.TheVariants as known
use Rattle.c_plain.specs.Machine as machine
use Rattle.c_plain.specs.Machine.{Machine, Step}
use Rattle.c_plain.specs.Program.{Program, in_span}
use Rattle.c_plain.specs.Rule as plain_rule
use Rattle.c_plain.specs.Rule.{step, rule_of, entry_of, takes_byte}
use Rattle.c_resolved.specs.Resolved.{kind_of}
use Rattle.c_resolved.specs.Means.{tables_of, file_lengths, known_by, Pushes, IsConstant, Builds, Calls, CallsThrough, Firsts, Clears, Spells, Enters, JumpsAt, Means, MeansAll, no_code, more_code}
use Rattle.c_tracks.specs.Tracks.{TracksAt, Follows, goes, ends, wants, stops, Tracks, going, over, stopped, IsCode, Keeps}
use Rattle.c_tracks.specs.Laws.{StepsAlike, SameMoment}
use Rattle.c_tracks.proofs.Basics.{pushes}
use Rattle.c_tracks.proofs.Simple as simple
use Rattle.c_tracks.proofs.Output as output
use Rattle.c_tracks.proofs.Storing as storing
use Rattle.c_tracks.proofs.Entering as entering
use Rattle.c_tracks.proofs.Calling as calling
use Rattle.c_tracks.proofs.Taking as taking

-- a constant is shown where the objects of file scope have as many cells as at first
constant_same : (t : Tables) (base lengths : List ℕ) → Keeps base lengths → {v : run.Value} → {w : Value} → Same t base v w → Same t lengths v w
constant_same t base lengths keeps (word n) = word n
constant_same t base lengths keeps null = null
constant_same t base lengths keeps (point o n k e) = point o n k (keeps.first o n e)
constant_same t base lengths keeps (letter owner l x k e own) = letter owner l x k e own
constant_same t base lengths keeps (function g name e) = function g name e
constant_same t base lengths keeps missing = missing

module _ (names : List (List ℕ)) (p : Program) (f : FlatCode) (is : IsCode names p f) (byte : ℕ) (c : Control) (s : Store) (m : Machine) (tracks : TracksAt (file_lengths p) (tables_of names p) c s m) where
  alike : (o : run.Outcome Control) (j k : Instruction) → j ≡ k → Follows (file_lengths p) (tables_of names p) o (step p byte k m) → Follows (file_lengths p) (tables_of names p) o (step p byte j m)
  alike o j k e follows = subst (λ (i : Instruction). Follows (file_lengths p) (tables_of names p) o (step p byte i m)) (sym e) follows

  constant : (v : run.Value) (k : ℕ) → IsConstant names p v k → Follows (file_lengths p) (tables_of names p) (give (code.pushed c c.stack v) (fresh s)) (step p byte (plain.Push k) m)
  constant v k h =
      subst (λ (o : Option Value). Follows (file_lengths p) (tables_of names p) (give (code.pushed c c.stack v) (fresh s)) (elim o [ None ↦ machine.fault act.HelperLimit | Some w ↦ machine.quiet (machine.pushed m m.values.mine w) ])) (sym h.1)
      (pushes (tables_of names p) c s m tracks v h.0 c.stack m.values.mine (constant_same (tables_of names p) (file_lengths p) (lengths_of s.objects) tracks.files h.2) tracks.values)

  push_value : (v : run.Value) (j : Instruction) → Pushes names p v j → Follows (file_lengths p) (tables_of names p) (give (code.pushed c c.stack v) (fresh s)) (step p byte j m)
  push_value (run.Word n) (plain.PushWord w) e =
      pushes (tables_of names p) c s m tracks (run.Word n) (Word (number_of w)) c.stack m.values.mine (subst (λ (k : ℕ). Same (tables_of names p) (lengths_of s.objects) (run.Word n) (Word k)) (sym e) (word n)) tracks.values
  push_value (run.Word n) (plain.Push k) h = constant (run.Word n) k h
  push_value (run.Word n) j h = absurd h
  push_value v (plain.Push k) h = constant v k h
  push_value v j h = absurd h

  pushed_code : (v : run.Value) (j : Instruction) → Pushes names p v j → Follows (file_lengths p) (tables_of names p) (step_of (fed f byte) (instruction.Push v) c (fresh s)) (step p byte j m)
  unfolding step_of
  pushed_code v j h = push_value v j h

  global_code : (o : ℕ) (j : Instruction) → Pushes names p (run.Point o 0) j → Follows (file_lengths p) (tables_of names p) (step_of (fed f byte) (instruction.Global o) c (fresh s)) (step p byte j m)
  unfolding step_of
  global_code o j h = push_value (run.Point o 0) j h

  jump_code : (w n : ℕ) (j : Instruction) → JumpsAt w n j → Follows (file_lengths p) (tables_of names p) (step_of (fed f byte) (instruction.JumpAt w n) c (fresh s)) (step p byte j m)
  jump_code w n (plain.JumpAt x k) h =
      subst (λ (i : ℕ). Follows (file_lengths p) (tables_of names p) (step_of (fed f byte) (instruction.JumpAt w n) c (fresh s)) (step p byte (plain.JumpAt x i) m)) (sym h.1)
      (subst (λ (i : ℕ). Follows (file_lengths p) (tables_of names p) (step_of (fed f byte) (instruction.JumpAt i n) c (fresh s)) (step p byte (plain.JumpAt x n) m)) h.0 (output.jump_at (tables_of names p) p refl f byte c s m tracks x n))
  jump_code w n j h = absurd h

  first_code : (k offset : ℕ) (ty : CType) (j : Instruction) → Firsts k offset (kind_of ty) j → Follows (file_lengths p) (tables_of names p) (step_of (fed f byte) (instruction.First k offset ty) c (fresh s)) (step p byte j m)
  first_code k offset ty (plain.First g kind) h =
      subst (λ (x : Kind). Follows (file_lengths p) (tables_of names p) (step_of (fed f byte) (instruction.First k offset ty) c (fresh s)) (step p byte (plain.First g x) m)) (sym h.1)
      (subst (λ (x : ℕ). Follows (file_lengths p) (tables_of names p) (step_of (fed f byte) (instruction.First x offset ty) c (fresh s)) (step p byte (plain.First g (kind_of ty)) m)) h.0.0
      (subst (λ (x : ℕ). Follows (file_lengths p) (tables_of names p) (step_of (fed f byte) (instruction.First g.slot x ty) c (fresh s)) (step p byte (plain.First g (kind_of ty)) m)) h.0.1
      (storing.first_top (tables_of names p) p refl is.apart f byte c s m tracks g.slot g.offset ty)))
  first_code k offset ty j h = absurd h

  clear_code : (k offset : ℕ) (kinds : List memory.Kind) (j : Instruction) → Clears p k offset kinds j → Follows (file_lengths p) (tables_of names p) (step_of (fed f byte) (instruction.Clear k offset kinds) c (fresh s)) (step p byte j m)
  clear_code k offset kinds (plain.Clear g span) h =
      subst (λ (ks : List memory.Kind). Follows (file_lengths p) (tables_of names p) (step_of (fed f byte) (instruction.Clear k offset ks) c (fresh s)) (step p byte (plain.Clear g span) m)) h.1
      (subst (λ (x : ℕ). Follows (file_lengths p) (tables_of names p) (step_of (fed f byte) (instruction.Clear x offset (map kind_in (in_span p.kinds span))) c (fresh s)) (step p byte (plain.Clear g span) m)) h.0.0
      (subst (λ (x : ℕ). Follows (file_lengths p) (tables_of names p) (step_of (fed f byte) (instruction.Clear g.slot x (map kind_in (in_span p.kinds span))) c (fresh s)) (step p byte (plain.Clear g span) m)) h.0.1
      (storing.clear_first (tables_of names p) p refl is.apart f byte c s m tracks g.slot g.offset (in_span p.kinds span) span refl)))
  clear_code k offset kinds j h = absurd h

  spell_code : (k offset : ℕ) (words : List ℕ) (j : Instruction) → Spells p k offset words j → Follows (file_lengths p) (tables_of names p) (step_of (fed f byte) (instruction.Spell k offset words) c (fresh s)) (step p byte j m)
  spell_code k offset words (plain.Spell g span) h =
      subst (λ (x : ℕ). Follows (file_lengths p) (tables_of names p) (step_of (fed f byte) (instruction.Spell x offset words) c (fresh s)) (step p byte (plain.Spell g span) m)) h.0.0
      (subst (λ (x : ℕ). Follows (file_lengths p) (tables_of names p) (step_of (fed f byte) (instruction.Spell g.slot x words) c (fresh s)) (step p byte (plain.Spell g span) m)) h.0.1
      (storing.spell_first (tables_of names p) p refl is.apart f byte c s m tracks g.slot g.offset words span h.1))
  spell_code k offset words j h = absurd h

  enter_code : (cells : List (List run.Cell)) (count : ℕ) (j : Instruction) → Enters p cells count j → Follows (file_lengths p) (tables_of names p) (step_of (fed f byte) (instruction.Enter cells count) c (fresh s)) (step p byte j m)
  unfolding step_of ◌>>=◌
  enter_code cells count (plain.Enter span) h =
      let size : length (in_span p.lengths span) ≡ count = sym (length-map (in_span p.lengths span) (λ n. replicate n run.Unset)) ∙ (ap length h.0 ∙ h.1) in
      subst (λ (cs : List (List run.Cell)). Follows (file_lengths p) (tables_of names p) (after (memory.enter cs (fresh s)) (λ o. give (code.in_new_block c o count))) (step p byte (plain.Enter span) m)) h.0
      (subst (λ (k : ℕ). Follows (file_lengths p) (tables_of names p) (after (memory.enter (map (λ n. replicate n run.Unset) (in_span p.lengths span)) (fresh s)) (λ o. give (code.in_new_block c o k))) (step p byte (plain.Enter span) m)) size
      (entering.enters (tables_of names p) c s m tracks (in_span p.lengths span)))
  enter_code cells count j h = absurd h

  built_code : (name : List ℕ) (params : CTypes) (n : ℕ) (j : Instruction) → bytes_eq name (codes "puts") ≡ false → Builds p name params n j → Follows (file_lengths p) (tables_of names p) (step_of (fed f byte) (instruction.BuiltIn name params n) c (fresh s)) (step p byte j m)
  built_code name params n (plain.BuiltIn which a) single h =
      alike (step_of (fed f byte) (instruction.BuiltIn name params n) c (fresh s)) (plain.BuiltIn which a) (plain.BuiltIn (known_by name) a) (ap (λ w. plain.BuiltIn w a) h.0) (taking.built_top (tables_of names p) p refl f byte c s m tracks name params n a single h.1)
  built_code name params n j single h = absurd h

  call_code : (name : List ℕ) (params : CTypes) (n : ℕ) (j : Instruction) → Calls names p name params n j → Follows (file_lengths p) (tables_of names p) (step_of (fed f byte) (instruction.Call name params n) c (fresh s)) (step p byte j m)
  call_code name params n (plain.Call g a) h = calling.call_named (tables_of names p) p f byte c s m tracks is.entries name g params n a h.0 h.1
  call_code name params n j h = absurd h

  through_code : (params : CTypes) (n : ℕ) (j : Instruction) → CallsThrough p params n j → Follows (file_lengths p) (tables_of names p) (step_of (fed f byte) (instruction.CallThrough params n) c (fresh s)) (step p byte j m)
  through_code params n (plain.CallThrough a) h = calling.call_pointer (tables_of names p) p f byte c s m tracks is.entries params n a h
  through_code params n j h = absurd h

  not_puts : (b : Bool) → not b ≡ true → b ≡ false
  not_puts true e = sym e
  not_puts false e = refl

  follows : (i : instruction.Instruction) (j : Instruction) → Means names p i j → is_single i ≡ true → Follows (file_lengths p) (tables_of names p) (step_of (fed f byte) i c (fresh s)) (step p byte j m)
  follows (instruction.Push v) j h e = pushed_code v j h
  follows instruction.Drop j h e = alike _ j _ h (simple.drop_top (tables_of names p) p refl is.apart f byte c s m tracks)
  follows instruction.Use j h e = alike _ j _ h (simple.use_top (tables_of names p) p refl is.apart f byte c s m tracks)
  follows instruction.Forget j h e = alike _ j _ h (simple.forget_top (tables_of names p) p refl is.apart f byte c s m tracks)
  follows instruction.Truth j h e = alike _ j _ h (simple.truth_top (tables_of names p) p refl is.apart f byte c s m tracks)
  follows instruction.Negate j h e = alike _ j _ h (simple.negate_top (tables_of names p) p refl is.apart f byte c s m tracks)
  follows (instruction.Convert t) j h e = alike _ j _ h (simple.convert_top (tables_of names p) p refl is.apart f byte c s m tracks t)
  follows instruction.CheckWord j h e = alike _ j _ h (output.check_word (tables_of names p) p refl f byte c s m tracks)
  follows (instruction.Slot k) j h e = alike _ j _ h (simple.slot_pushed (tables_of names p) p refl is.apart f byte c s m tracks k)
  follows (instruction.Global o) j h e = global_code o j h
  follows instruction.Nowhere j h e = alike _ j _ h (simple.forget_value (tables_of names p) p refl is.apart f byte c s m tracks)
  follows (instruction.Fetch t) j h e = alike _ j _ h (simple.fetch_top (tables_of names p) p refl is.apart f byte c s m tracks t)
  follows (instruction.Follow t) j h e = alike _ j _ h (simple.follow_top (tables_of names p) p refl is.apart f byte c s m tracks t)
  follows (instruction.Member n) j h e = alike _ j _ h (simple.member_top (tables_of names p) p refl is.apart f byte c s m tracks n)
  follows (instruction.OneWord op) j h e = alike _ j _ h (simple.word_top (tables_of names p) p refl is.apart f byte c s m tracks op)
  follows (instruction.Operate tags op t u) j h e = alike _ j _ h.0 (simple.operate_two (tables_of names p) p refl is.apart f byte c s m tracks tags op t u h.1)
  follows (instruction.Step tags op t) j h e = alike _ j _ h.0 (storing.step_top (tables_of names p) p refl is.apart f byte c s m tracks tags op t h.1)
  follows (instruction.Assign t) j h e = alike _ j _ h (storing.assign_two (tables_of names p) p refl is.apart f byte c s m tracks t)
  follows (instruction.Update tags op t u) j h e = alike _ j _ h.0 (storing.update_two (tables_of names p) p refl is.apart f byte c s m tracks tags op t u h.1)
  follows (instruction.JumpUnless n) j h e = alike _ j _ h (simple.jump_unless (tables_of names p) p refl is.apart f byte c s m tracks n)
  follows (instruction.Jump n) j h e = alike _ j _ h (simple.jump_on (tables_of names p) p refl is.apart f byte c s m tracks n)
  follows (instruction.Back n) j h e = alike _ j _ h (simple.jump_back (tables_of names p) p refl is.apart f byte c s m tracks n)
  follows (instruction.JumpAt w n) j h e = jump_code w n j h
  follows instruction.Pay j h e = alike _ j _ h (simple.pay_unit (tables_of names p) p refl is.apart f byte c s m tracks)
  follows (instruction.BuiltIn name params n) j h e = built_code name params n j (not_puts (bytes_eq name (codes "puts")) e) h
  follows (instruction.Call name params n) j h e = call_code name params n j h
  follows (instruction.CallThrough params n) j h e = through_code params n j h
  follows instruction.Return j h e = alike _ j _ h (taking.return_top (tables_of names p) p refl f byte c s m tracks)
  follows (instruction.Put d) j h e = alike _ j _ h.0 (output.put_byte (tables_of names p) p refl f byte c s m tracks d h.1)
  follows instruction.Decimal j h e = alike _ j _ h (output.decimal_top (tables_of names p) p refl f byte c s m tracks)
  follows instruction.Unsigned j h e = alike _ j _ h (output.unsigned_top (tables_of names p) p refl f byte c s m tracks)
  follows instruction.Character j h e = alike _ j _ h (output.character_top (tables_of names p) p refl f byte c s m tracks)
  follows instruction.Hex j h e = alike _ j _ h (output.hex_top (tables_of names p) p refl f byte c s m tracks)
  follows instruction.Digits j h e = alike _ j _ h (output.digits_top (tables_of names p) p refl f byte c s m tracks)
  follows instruction.Text j h e = alike _ j _ h (taking.text_top (tables_of names p) p refl f byte c s m tracks)
  follows (instruction.Turn n) j h e = alike _ j _ h (simple.turn_top (tables_of names p) p refl is.apart f byte c s m tracks n)
  follows (instruction.Printed n) j h e = alike _ j _ h (simple.printed_top (tables_of names p) p refl is.apart f byte c s m tracks n)
  follows instruction.Stuck j h e = alike _ j _ h (simple.stuck (tables_of names p) p refl is.apart f byte c s m tracks)
  follows (instruction.First k offset t) j h e = first_code k offset t j h
  follows (instruction.Clear k offset kinds) j h e = clear_code k offset kinds j h
  follows (instruction.Spell k offset words) j h e = spell_code k offset words j h
  follows (instruction.Enter cells count) j h e = enter_code cells count j h
  follows instruction.Leave j h e = alike _ j _ h (taking.leave_block (tables_of names p) p refl f byte c s m tracks)
  follows (instruction.Loop again past) j h e = alike _ j _ h (taking.open_loop (tables_of names p) p refl f byte c s m tracks again past)
  follows (instruction.Switch past) j h e = alike _ j _ h (taking.open_switch (tables_of names p) p refl f byte c s m tracks past)
  follows instruction.Done j h e = alike _ j _ h (taking.close_handler (tables_of names p) p refl f byte c s m tracks)
  follows instruction.Break j h e = alike _ j _ h (taking.break_out (tables_of names p) p refl f byte c s m tracks)
  follows instruction.Continue j h e = alike _ j _ h (taking.continue_on (tables_of names p) p refl f byte c s m tracks)
  follows instruction.End j h e = alike _ j _ h (simple.end_run (tables_of names p) p refl is.apart f byte c s m tracks)

-- ---- one step

data Matched (names : List (List ℕ)) (p : Program) : Option instruction.Instruction → Option Instruction → Type 0 where
  past_end : Matched names p None None
  matched : {i : instruction.Instruction} → {j : Instruction} → Means names p i j → is_single i ≡ true → Matched names p (Some i) (Some j)

match_at : (names : List (List ℕ)) (p : Program) → {all : List instruction.Instruction} → {others : List Instruction} → MeansAll names p all others → AllByRecursion (λ i. is_single i ≡ true) all → (k : ℕ) → Matched names p (slice_get all k) (slice_get others k)
match_at names p no_code single k = past_end
match_at names p (more_code h rest) single zero = matched h single.0
match_at names p (more_code h rest) single (suc k) = match_at names p rest single.1 k

follows_at : (names : List (List ℕ)) (p : Program) (f : FlatCode) (is : IsCode names p f) (byte : ℕ) (c : Control) (s : Store) (m : Machine) → TracksAt (file_lengths p) (tables_of names p) c s m → {o : Option instruction.Instruction} → {q : Option Instruction} → Matched names p o q
    → Follows (file_lengths p) (tables_of names p) (step_at (fed f byte) o c (fresh s)) (plain_rule.step_at p byte q m)
unfolding step_at undefined
follows_at names p f is byte c s m tracks past_end = stops act.HelperLimit refl
follows_at names p f is byte c s m tracks (matched {i} {j} h e) = follows names p f is byte c s m tracks i j h e

next_follows : (names : List (List ℕ)) (p : Program) (f : FlatCode) (is : IsCode names p f) (byte : ℕ) (c : Control) (s : Store) (m : Machine) → TracksAt (file_lengths p) (tables_of names p) c s m
    → Follows (file_lengths p) (tables_of names p) (step_at (fed f byte) (slice_get f.instructions c.at) c (fresh s)) (plain_rule.next_step p byte m)
next_follows names p f is byte c s m tracks =
    subst (λ (k : ℕ). Follows (file_lengths p) (tables_of names p) (step_at (fed f byte) (slice_get f.instructions c.at) c (fresh s)) (plain_rule.step_at p byte (slice_get p.instructions k) m)) (sym tracks.at)
    (follows_at names p f is byte c s m tracks (match_at names p is.instructions is.single c.at))

numbers : (a : Act) → run.number_of (act_of a) ≡ number_of_act a
numbers act.ZeroDivisor = refl
numbers act.OutsideObject = refl
numbers act.OtherKind = refl
numbers act.UnsetCell = refl
numbers act.LiteralWrite = refl
numbers act.PointerArithmetic = refl
numbers act.PointerOrder = refl
numbers act.PointerEquality = refl
numbers act.ShiftCount = refl
numbers act.NoResult = refl
numbers act.ChargeLimit = refl
numbers act.NullCall = refl
numbers act.HelperLimit = refl

pub config_tracks : (base : List ℕ) (t : Tables) → {o : Outcome Control} → {z : Step} → Follows base t o z → Tracks base t (config_of o) z.config
config_tracks base t (goes tracks e) = going tracks
config_tracks base t (ends e) = over
config_tracks base t (wants e) = stopped 0
config_tracks base t (stops a e) = subst (λ (n : ℕ). Tracks base t (rule.AtFault (run.number_of (act_of a))) (machine.AtFault n)) (numbers a) (stopped (run.number_of (act_of a)))

written_same : (base : List ℕ) (t : Tables) → {o : Outcome Control} → {z : Step} → Follows base t o z → z.written ≡ (state_of o).output
written_same base t (goes tracks e) = sym e
written_same base t (ends e) = sym e
written_same base t (wants e) = sym e
written_same base t (stops a e) = sym e

-- ---- bytes that are wanted

module _ (names : List (List ℕ)) (p : Program) where
  pushes_quietly : (v : run.Value) (j : Instruction) → Pushes names p v j → plain_rule.takes (Some j) ≡ false
  pushes_quietly (run.Word n) (plain.PushWord w) e = refl
  pushes_quietly (run.Word n) (plain.Push k) h = refl
  pushes_quietly (run.Word n) j h = absurd h
  pushes_quietly v (plain.Push k) h = refl
  pushes_quietly v j h = absurd h

  jumps_quietly : (w n : ℕ) (j : Instruction) → JumpsAt w n j → plain_rule.takes (Some j) ≡ false
  jumps_quietly w n (plain.JumpAt x k) h = refl
  jumps_quietly w n j h = absurd h

  firsts_quietly : (k offset : ℕ) (kind : Kind) (j : Instruction) → Firsts k offset kind j → plain_rule.takes (Some j) ≡ false
  firsts_quietly k offset kind (plain.First g x) h = refl
  firsts_quietly k offset kind j h = absurd h

  clears_quietly : (k offset : ℕ) (kinds : List memory.Kind) (j : Instruction) → Clears p k offset kinds j → plain_rule.takes (Some j) ≡ false
  clears_quietly k offset kinds (plain.Clear g x) h = refl
  clears_quietly k offset kinds j h = absurd h

  spells_quietly : (k offset : ℕ) (ws : List ℕ) (j : Instruction) → Spells p k offset ws j → plain_rule.takes (Some j) ≡ false
  spells_quietly k offset ws (plain.Spell g x) h = refl
  spells_quietly k offset ws j h = absurd h

  enters_quietly : (cells : List (List run.Cell)) (n : ℕ) (j : Instruction) → Enters p cells n j → plain_rule.takes (Some j) ≡ false
  enters_quietly cells n (plain.Enter x) h = refl
  enters_quietly cells n j h = absurd h

  calls_quietly : (name : List ℕ) (params : CTypes) (n : ℕ) (j : Instruction) → Calls names p name params n j → plain_rule.takes (Some j) ≡ false
  calls_quietly name params n (plain.Call g a) h = refl
  calls_quietly name params n j h = absurd h

  through_quietly : (params : CTypes) (n : ℕ) (j : Instruction) → CallsThrough p params n j → plain_rule.takes (Some j) ≡ false
  through_quietly params n (plain.CallThrough a) h = refl
  through_quietly params n j h = absurd h

  known_takes : (a b d g : Bool) → takes_byte (if a then known.GetChar else if b then known.GetByte else if d then known.PutChar else if g then known.Exit else known.Other) ≡ (a || b)
  known_takes true b d g = refl
  known_takes false true d g = refl
  known_takes false false true g = refl
  known_takes false false false true = refl
  known_takes false false false false = refl

  builds_take : (name : List ℕ) (params : CTypes) (n : ℕ) (j : Instruction) → Builds p name params n j → plain_rule.takes (Some j) ≡ (bytes_eq name (codes "getchar") || bytes_eq name (codes "__builtin_getc"))
  builds_take name params n (plain.BuiltIn which a) h =
      ap takes_byte h.0 ∙ known_takes (bytes_eq name (codes "getchar")) (bytes_eq name (codes "__builtin_getc")) (bytes_eq name (codes "putchar")) (bytes_eq name (codes "exit"))
  builds_take name params n j h = absurd h

  quiet_as : (j k : Instruction) → j ≡ k → plain_rule.takes (Some j) ≡ plain_rule.takes (Some k)
  quiet_as j k e = ap (λ (i : Instruction). plain_rule.takes (Some i)) e

  takes_same : (i : instruction.Instruction) (j : Instruction) → Means names p i j → plain_rule.takes (Some j) ≡ takes (Some i)
  takes_same (instruction.Push v) j h = pushes_quietly v j h
  takes_same (instruction.Global o) j h = pushes_quietly (run.Point o 0) j h
  takes_same (instruction.JumpAt w n) j h = jumps_quietly w n j h
  takes_same (instruction.BuiltIn name params n) j h = builds_take name params n j h
  takes_same (instruction.Call name params n) j h = calls_quietly name params n j h
  takes_same (instruction.CallThrough params n) j h = through_quietly params n j h
  takes_same (instruction.First k offset t) j h = firsts_quietly k offset (kind_of t) j h
  takes_same (instruction.Clear k offset kinds) j h = clears_quietly k offset kinds j h
  takes_same (instruction.Spell k offset ws) j h = spells_quietly k offset ws j h
  takes_same (instruction.Enter cells n) j h = enters_quietly cells n j h
  takes_same (instruction.Operate tags op t u) j h = quiet_as j _ h.0
  takes_same (instruction.Step tags op t) j h = quiet_as j _ h.0
  takes_same (instruction.Update tags op t u) j h = quiet_as j _ h.0
  takes_same (instruction.Put d) j h = quiet_as j _ h.0
  takes_same i j h = quiet_as j _ h

  takes_at : {o : Option instruction.Instruction} → {q : Option Instruction} → Matched names p o q → plain_rule.takes q ≡ takes o
  takes_at past_end = refl
  takes_at (matched {i} {j} h e) = takes_same i j h

-- ---- steps and runs

pub steps : (names : List (List ℕ)) (p : Program) (f : FlatCode) → IsCode names p f → (k : rule.Config) (l : machine.Config) (byte : ℕ) → Tracks (file_lengths p) (tables_of names p) k l → StepsAlike names p f k l byte
steps names p f is (rule.At c s) (machine.At m) byte (going tracks) = record {
  standing = refl;
  wants = ap (λ (n : ℕ). plain_rule.takes (slice_get p.instructions n)) tracks.at ∙ takes_at names p (match_at names p is.instructions is.single c.at);
  next = config_tracks (file_lengths p) (tables_of names p) (next_follows names p f is byte c s m tracks);
  written = written_same (file_lengths p) (tables_of names p) (next_follows names p f is byte c s m tracks);
}
steps names p f is k l byte over = record { standing = refl; wants = refl; next = over; written = refl }
steps names p f is k l byte (stopped n) = record { standing = refl; wants = refl; next = stopped n; written = refl }

if_alike : (names : List (List ℕ)) (p : Program) (a b : Moment rule.Config) (c d : Moment machine.Config) → SameMoment names p a c → SameMoment names p b d → (q : Status) → SameMoment names p (if_going q a b) (if_going q c d)
if_alike names p a b c d first second status.Going = first
if_alike names p a b c d first second status.Ended = second
if_alike names p a b c d first second (status.Fault n) = second

step_moment : (names : List (List ℕ)) (p : Program) (f : FlatCode) → IsCode names p f → (input : List ℕ) (a : Moment rule.Config) (b : Moment machine.Config) → SameMoment names p a b → SameMoment names p (applied (code_rule f) input a) (applied (rule_of p) input b)
step_moment names p f is input a b same =
    let byte = fed_at (code_rule f) input a in
    let alike = steps names p f is a.config b.config byte same.config in
    let fed_same : fed_at (rule_of p) input b ≡ fed_at (code_rule f) input a =
    ap (λ (w : Bool). cond w (input_at input b.taken) 0) alike.wants ∙ ap (λ (n : ℕ). cond ((code_rule f).wants a.config) (input_at input n) 0) same.taken
    in
    let taken_same : cond ((rule_of p).wants b.config) (b.taken + 1) b.taken ≡ cond ((code_rule f).wants a.config) (a.taken + 1) a.taken =
    ap (λ (w : Bool). cond w (b.taken + 1) b.taken) alike.wants ∙ ap (λ (n : ℕ). cond ((code_rule f).wants a.config) (n + 1) n) same.taken
    in
    let output_same : b.output ++ (rule_of p).written b.config (fed_at (rule_of p) input b) ≡ a.output ++ (code_rule f).written a.config (fed_at (code_rule f) input a) =
    ap (λ (o : List ℕ). o ++ (rule_of p).written b.config (fed_at (rule_of p) input b)) same.output
    ∙ (ap (λ (x : ℕ). a.output ++ (rule_of p).written b.config x) fed_same ∙ ap (λ (o : List ℕ). a.output ++ o) alike.written)
    in
    let next_same : Tracks (file_lengths p) (tables_of names p) ((code_rule f).next a.config (fed_at (code_rule f) input a)) ((rule_of p).next b.config (fed_at (rule_of p) input b)) =
    subst (λ (x : ℕ). Tracks (file_lengths p) (tables_of names p) ((code_rule f).next a.config (fed_at (code_rule f) input a)) ((rule_of p).next b.config x)) (sym fed_same) alike.next
    in
    subst (λ (q : Status). SameMoment names p (applied (code_rule f) input a) (if_going q (stepped (rule_of p) input b) b)) (sym alike.standing)
    (if_alike names p (stepped (code_rule f) input a) a (stepped (rule_of p) input b) b (record { config = next_same; taken = taken_same; output = output_same }) same ((code_rule f).standing a.config))

pub runs : (names : List (List ℕ)) (p : Program) (f : FlatCode) → IsCode names p f → (a : Moment rule.Config) (b : Moment machine.Config) (input : List ℕ) (n : ℕ) → SameMoment names p a b
    → SameMoment names p (run_from (code_rule f) input a n) (run_from (rule_of p) input b n)
runs names p f is a b input zero same = same
runs names p f is a b input (suc n) same = step_moment names p f is input (run_from (code_rule f) input a n) (run_from (rule_of p) input b n) (runs names p f is a b input n same)
