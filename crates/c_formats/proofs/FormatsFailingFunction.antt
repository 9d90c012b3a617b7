-- The function of strings is undefined where the string is.
use Rattle.std.proofs.Common.{◌≡◌, ℕ, zero, suc, ◌+◌, ◌<◌, ◌≤◌, List, [], ◌∷◌, ◌++◌, length, drop, Option, Some, None, Bool, true, false, slice_get, refl, sym, ap, ◌∙◌, subst, arith, length-append}
use Rattle.std.specs.Prelude.{pos, if◌then◌else◌}
use Rattle.std.proofs.lemmas.List.{length-map}
use Rattle.c_syntax.specs.Plain as plain
use Rattle.c_syntax.specs.Plain.{NoStmt, stmts}
use Rattle.c_types.specs.Types as type
use Rattle.c_eval.specs.State.{Value, Word, Null, Point, Letter, Function, Missing, Cell, Holds, Object, State, Outcome, Gives, Ended, Going, Undefined, Run}
use Rattle.c_eval.specs.Run.{◌>>=◌, after, give, undefined, unless, paid, objects_now}
use Rattle.c_eval.specs.Memory.{ObjectPointer, is_of, letters, live_cells, cell_in, cell_at, moved}
use Rattle.c_eval.specs.Operators.{used}
use Rattle.c_eval.specs.BuiltIns.{put_string, put_string_at, cells_from}
use Rattle.c_eval.specs.Environment.{in_block}
use Rattle.c_eval.specs.Eval.{World, Flow, loop, condition, does, all_do}
use Rattle.c_eval.specs.Meaning.{argument_objects, body_environment, result_of, runs}
use Rattle.c_eval.specs.Text.{Definition, Text, function_named}
use Rattle.c_eval.specs.Helpers.{Helpers, helper_runs, known_or, helper_calls}
use Rattle.c_helpers.specs.Functions.{unit_name, piece_name, print_string}
use Rattle.c_helpers.specs.Meanings.{of_one, piece_put}
use Rattle.c_products.specs.MovesFound.{definition}
use Rattle.c_formats.specs.StringsLaws.{string_parameter, Known, HasString}
use Rattle.c_formats.proofs.Turn.{next_character, string_turn}
use Rattle.c_formats.proofs.Loop.{inside}
use Rattle.c_formats.proofs.StringsCalls.{string_at}
use Rattle.c_failing.specs.Failing.{Fails, FailsAs, IsArgument}
use Rattle.c_failing.proofs.Lists.{got_before, got_last, got_some, set_other}
use Rattle.c_failing.proofs.Parts.{fails_then, fails_charged, fails_within, do_fails}
use Rattle.c_formats.specs.StringsFailingLaws.{StringsFail}
use Rattle.c_formats.proofs.FormatsFailingTurn.{IsPointer, IsNoCharacter, here, pointing, world, test_fails, other_fails}
use Rattle.c_formats.proofs.FormatsFailingLoop.{loop_fails, loop_fails_at}

pub point_is : (o k : ℕ) → IsPointer (Point o k)
unfolding used
point_is o k = record { kind = refl; uses = refl; same = refl }

pub letter_is : (f : Option (List ℕ)) (j : ℕ) (text : List ℕ) (k : ℕ) → IsPointer (Letter f j text k)
unfolding used
letter_is f j text k = record { kind = refl; uses = refl; same = refl }

pub null_is : IsPointer Null
unfolding used
null_is = record { kind = refl; uses = refl; same = refl }

one_on : (k : ℕ) → k + 1 ≡ suc k
one_on k = omega arith

point_moves : (o k : ℕ) (x : Object) (st : State) → slice_get st.objects o ≡ Some x → k < length x.cells → moved (Point o k) (pos 1) st ≡ Gives (Point o (suc k)) st
unfolding moved objects_now ◌>>=◌ after unless give
point_moves o k x st e lt = rw (e, inside k (length x.cells) lt) (ap (λ z. Gives (Point o z) st) (one_on k))

letter_moves : (f : Option (List ℕ)) (j : ℕ) (text : List ℕ) (k : ℕ) (st : State) → k < length (letters text) → moved (Letter f j text k) (pos 1) st ≡ Gives (Letter f j text (suc k)) st
unfolding moved objects_now ◌>>=◌ after unless give
letter_moves f j text k st lt =
    rw (inside k (length text + 1) (subst (λ n. k < n) (length-map (text ++ 0 ∷ []) (λ c. Holds (Word c)) ∙ length-append text (0 ∷ [])) lt)) (ap (λ z. Gives (Letter f j text z) st) (one_on k))

-- a cell of an object that lives
cell_is : (os : List Object) (o k : ℕ) (x : Object) → x.live ≡ true → slice_get os o ≡ Some x → cell_at os (Point o k) ≡ slice_get x.cells k
cell_is os o k x live e = ap (λ z. cell_in (live_cells z) k) e ∙ ap (λ b. cell_in (if b then Some x.cells else None) k) live

module _ (h : Helpers) (t : Text) (input : List ℕ) (some : 1 ≤ h.ration) (known : Known h) (own : HasString h t) (deep : ℕ) where
  abbrev name : List ℕ
  name = print_string.name

  abbrev calls : List ℕ → List Value → Run Value
  calls = helper_calls (suc deep) h t input

  unit_is : calls unit_name [] ≡ paid false (give Missing)
  unfolding helper_calls known_or
  unit_is = ap (λ z. known_or z [] (paid true (helper_runs h t input (helper_calls deep h t input) deep unit_name (function_named t unit_name) []))) (known unit_name)

  piece_is : (c : ℕ) → calls piece_name (Word c ∷ []) ≡ piece_put h.ration (Word c)
  unfolding helper_calls known_or of_one
  piece_is c = ap (λ z. known_or z (Word c ∷ []) (paid true (helper_runs h t input (helper_calls deep h t input) deep piece_name (function_named t piece_name) (Word c ∷ [])))) (known piece_name)

  abbrev w : World
  w = world own.0.tags own.0.names own.0.defined own.1 own.2 input (Some name) calls h.ration unit_is piece_is (suc deep) 0

  abbrev string_loop : ℕ → ℕ → Run Flow
  string_loop n next = loop true (suc deep) (condition next_character w (here own.0.tags own.0.names own.0.defined n next 0)) (give tt) (does string_turn (suc deep) w (here own.0.tags own.0.names own.0.defined n next 0))

  abbrev f : Definition
  f = definition type.Void string_parameter print_string own.0.tags own.0.names own.0.defined

  abbrev body : Value → State → Outcome Value
  body v st = helper_runs h t input calls (suc deep) name (function_named t name) (v ∷ []) st

  -- the objects in the loop
  abbrev with_own : Value → List Object → List Object
  with_own v os = (os ++ pointing v ∷ []) ++ []

  abbrev begun : Value → State → State
  begun v st = record st { words = st.words + h.charge name; objects = with_own v st.objects }

  -- where the loop fails, so does the function
  from_loop : (taken : ℕ) (output : List ℕ) (v : Value) (st : State) → st.words + 16 ≤ 1024 → Fails taken output (string_loop (length st.objects) (length (st.objects ++ pointing v ∷ [])) (begun v st)) → Fails taken output (body v st)
  unfolding helper_runs runs
  from_loop taken output v st small e =
      subst (λ z. Fails taken output (helper_runs h t input calls (suc deep) name z (v ∷ []) st)) (sym own.0.found)
      (fails_charged taken output (h.charge name) (runs f [] (suc deep) w (v ∷ [])) st (omega (arith, small, own.0.charge))
      (fails_then taken output _ (result_of type.Void) (record st { words = st.words + h.charge name })
      (fails_within taken output (argument_objects f.params (v ∷ [])) (λ n. does f.body (suc deep) w (body_environment f [] (v ∷ []) n)) (record st { words = st.words + h.charge name })
      (fails_within taken output [] (λ j. all_do (stmts (plain.While next_character string_turn ∷ [])) (suc deep) w (in_block j (body_environment f [] (v ∷ []) (length st.objects)))) (record st { words = st.words + h.charge name; objects = st.objects ++ pointing v ∷ [] })
      (do_fails taken output (plain.While next_character string_turn) NoStmt (suc deep) w (here own.0.tags own.0.names own.0.defined (length st.objects) (length (st.objects ++ pointing v ∷ [])) 0) (begun v st) e)))))

  owned : (v : Value) (os : List Object) → slice_get (with_own v os) (length os) ≡ Some (pointing v)
  owned v os = got_before (os ++ pointing v ∷ []) [] (length os) (pointing v) (got_last os (pointing v))

  among : (v : Value) (os : List Object) (o : ℕ) (x : Object) → slice_get os o ≡ Some x → slice_get (with_own v os) o ≡ Some x
  among v os o x e = got_before (os ++ pointing v ∷ []) [] o x (got_before os (pointing v ∷ []) o x e)

  -- at the first character
  at_once : (v : Value) (c : Option Cell) (st : State) → IsPointer v → st.words + 16 ≤ 1024 → cell_at (with_own v st.objects) v ≡ c → IsNoCharacter c → Fails st.taken st.output (body v st)
  at_once v c st k small cell blank =
      from_loop st.taken st.output v st small
      (loop_fails_at st.taken st.output deep _ _ (begun v st)
      (test_fails own.0.tags own.0.names own.0.defined own.1 own.2 input (Some name) calls h.ration unit_is piece_is (suc deep) (length st.objects) (length (st.objects ++ pointing v ∷ [])) 0 v c (begun v st) k (owned v st.objects) cell blank))

  at_other : (v : Value) (st : State) → is_of ObjectPointer v ≡ false → st.words + 16 ≤ 1024 → Fails st.taken st.output (body v st)
  at_other v st kind small =
      from_loop st.taken st.output v st small
      (loop_fails_at st.taken st.output deep _ _ (begun v st)
      (other_fails own.0.tags own.0.names own.0.defined own.1 own.2 input (Some name) calls h.ration unit_is piece_is (suc deep) (length st.objects) (length (st.objects ++ pointing v ∷ [])) 0 v (begun v st) (owned v st.objects) kind))

  in_loop : (v : Value) (st : State) (r : Outcome (Unit {0})) → st.words + 16 ≤ 1024 → FailsAs r (string_loop (length st.objects) (length (st.objects ++ pointing v ∷ [])) (begun v st)) → FailsAs r (body v st)
  in_loop v st (Undefined act st1) small e = from_loop st1.taken st1.output v st small e
  in_loop v st (Gives u st1) small e = tt
  in_loop v st (Ended st1) small e = tt
  in_loop v st (Going st1) small e = tt

  abbrev Fail : Value → State → List Cell → Type 0
  Fail v st cs = FailsAs (put_string false cs st) (body v st)

  fails_here : (v : Value) (st : State) → st.left < suc deep → 1 ≤ st.spare → st.words + 16 ≤ 1024 → IsArgument st.objects v → Fail v st (string_at st.objects v)
  unfolding put_string undefined
  fails_here (Point o k) st lt enough small made = by_object (slice_get st.objects o) refl
    where
      by_live : (x : Object) → slice_get st.objects o ≡ Some x → (b : Bool) → x.live ≡ b → Fail (Point o k) st (cells_from (if b then Some x.cells else None) k)
      by_live x e true live =
          in_loop (Point o k) st (put_string false (drop k x.cells) st) small
          (loop_fails own.0.tags own.0.names own.0.defined own.1 own.2 input (Some name) calls h.ration unit_is piece_is (suc deep) (length st.objects) (length (st.objects ++ pointing (Point o k) ∷ [])) (omega (arith, some))
          (λ k. Point o k) x.cells (point_is o) (λ os. slice_get os o ≡ Some x) (λ k os r. cell_is os o k x live r) (λ k st r lt. point_moves o k x st r lt) (λ os y r. set_other os (length st.objects) o y (λ same. omega (arith, same, made)) ∙ r)
          (drop k x.cells) k (suc deep) st.left st.spare (st.words + h.charge name) (with_own (Point o k) st.objects) st refl (owned (Point o k) st.objects) (among (Point o k) st.objects o x e) lt (omega (arith, enough)))
      by_live x e false live = at_once (Point o k) None st (point_is o k) small (ap (λ z. cell_in (live_cells z) k) (among (Point o k) st.objects o x e) ∙ ap (λ b. cell_in (if b then Some x.cells else None) k) live) tt

      by_object : (y : Option Object) → slice_get st.objects o ≡ y → Fail (Point o k) st (cells_from (live_cells y) k)
      by_object None e = let lost = got_some st.objects o made in absurd (cc (sym e ∙ lost.1))
      by_object (Some x) e = by_live x e x.live refl
  fails_here (Letter a j text k) st lt enough small made =
      in_loop (Letter a j text k) st (put_string false (drop k (letters text)) st) small
      (loop_fails own.0.tags own.0.names own.0.defined own.1 own.2 input (Some name) calls h.ration unit_is piece_is (suc deep) (length st.objects) (length (st.objects ++ pointing (Letter a j text k) ∷ [])) (omega (arith, some))
      (λ k. Letter a j text k) (letters text) (letter_is a j text) (λ os. Unit {0}) (λ k os r. refl) (λ k st r lt. letter_moves a j text k st lt) (λ os y r. tt)
      (drop k (letters text)) k (suc deep) st.left st.spare (st.words + h.charge name) (with_own (Letter a j text k) st.objects) st refl (owned (Letter a j text k) st.objects) tt lt (omega (arith, enough)))
  fails_here Null st lt enough small made = at_once Null None st null_is small refl tt
  fails_here (Word n) st lt enough small made = at_other (Word n) st refl small
  fails_here (Function g) st lt enough small made = at_other (Function g) st refl small
  fails_here Missing st lt enough small made = at_other Missing st refl small

pub strings_fail : StringsFail
unfolding put_string_at objects_now ◌>>=◌ after
strings_fail h t some known own input zero p st lt enough small made = absurd (omega (arith, lt))
strings_fail h t some known own input (suc deep) p st lt enough small made = fails_here h t input some known own deep p st lt enough small made
