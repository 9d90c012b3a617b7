-- A use of the function of `puts` writes a string and a line feed.
use Rattle.std.proofs.Common.{◌≡◌, ℕ, zero, suc, ◌+◌, ◌-◌, ◌*◌, ◌%◌, ◌^◌, ◌<◌, ◌≤◌, List, [], ◌∷◌, ◌++◌, Option, Bool, true, false, refl, sym, ap, ap₂, ◌∙◌, subst, arith}
use Rattle.std.specs.Prelude.{◌&&◌, if◌then◌else◌}
use Rattle.std.specs.Str.{bytes_eq}
use Rattle.std.proofs.lemmas.Bool.{lt-ltb, le-leb}
use Rattle.std.proofs.lemmas.Slice.Eq.{bytes_eq-Decides}
use Rattle.c_types.specs.Types as type
use Rattle.c_types.specs.Types.{Tags}
use Rattle.c_types.specs.Scope.{Names}
use Rattle.c_eval.specs.State.{Value, Word, Null, Point, Letter, Function, Missing, Cell, Unset, Holds, Object, State, Act, OutsideObject, OtherKind, Outcome, Gives, Ended, Going, Undefined}
use Rattle.c_eval.specs.Run.{◌>>=◌, after, give, undefined, unless, paid, spend, put, objects_now}
use Rattle.c_eval.specs.Operators.{used}
use Rattle.c_eval.specs.BuiltIns.{put_string, put_string_at}
use Rattle.c_eval.specs.Text.{Text, function_named}
use Rattle.c_eval.specs.Helpers.{Helpers, leaving, behind_use, helped, helper_runs, helper_calls, use_depth, helps_to}
use Rattle.c_helpers.specs.Functions.{print_string, put_string as puts}
use Rattle.c_helpers.specs.Meanings.{Action, of_one, string_put}
use Rattle.c_apart.proofs.Apart.{Out, Done, Paused, Stuck, Part, p_after, p_bind, p_give, p_stuck, p_choose, p_run, p_unit, p_given, p_outer, p_named, p_read, p_load, p_own_value, p_variable, p_used, p_call, p_go_on, p_within, p_enter, p_leave, p_returned, p_result, p_function}
use Rattle.c_apart.proofs.Splitting.{Split, itself}
use Rattle.c_apart.proofs.Uses.{Apart, call_apart, use_of, use_gives, use_pauses, use_undefined}
use Rattle.c_products.specs.MovesFound.{KnowsOf, definition}
use Rattle.c_formats.specs.StringsLaws.{string_parameter, KnowsUnit, KnowsPiece, Known, HasString, HasPuts, StringsArePut}
use Rattle.c_formats.proofs.Turn.{p_piece, p_known, known_splits}
use Rattle.c_formats.proofs.Loop.{spare_behind}
use Rattle.c_formats.proofs.StringsCalls.{string_at}
use Rattle.c_formats.proofs.Puts.{may_spell, p_string, string_splits}

-- what the function calls
unfoldable pub p_puts : ℕ → ℕ → List ℕ → List Value → Part Value
p_puts ration deep name vs = if bytes_eq name print_string.name then p_string ration deep vs else p_known ration deep name vs

abbrev pub gone : Value → List Object
gone v = record { live = false; cells = Holds v ∷ [] } ∷ []

module _ (tags : Tags) (names : Names) (defined : List (List ℕ)) (deep ration : ℕ) (unit : KnowsUnit names) (piece : KnowsPiece names) (spelt : KnowsOf names type.Void string_parameter print_string) where
  abbrev function : Value → State → Out Value
  function v st = p_function (definition type.Int string_parameter puts tags names defined) (suc (suc deep)) (p_puts ration (suc (suc deep))) (v ∷ []) st []

  -- no unit is left
  none_left : (v : Value) (st : State) → function v (record st { left = 0 }) ≡ Paused (record st { left = 0 }) (record { live = true; cells = Holds v ∷ [] } ∷ [])
  unfolding p_puts p_known p_after p_bind p_give p_stuck p_choose p_run p_unit p_call p_go_on p_within p_enter p_function
  none_left v st = rw unit.1 refl

  point_puts : (o k n : ℕ) (st st1 : State) (u : Unit {0}) → may_spell (suc deep) (record st { left = n }) ≡ true → put_string false (string_at st.objects (Point o k)) (record st { left = n }) ≡ Gives u st1
      → function (Point o k) (record st { left = suc n }) ≡ Done (Word 0) (record st1 { spare = ration; output = st1.output ++ 10 % 2 ^ 8 ∷ [] }) (gone (Point o k))
  unfolding p_puts p_known p_piece p_string p_after p_bind p_give p_stuck p_choose p_run p_unit p_given p_outer p_named p_read p_load p_own_value p_variable p_used p_call p_go_on p_within p_enter p_leave p_returned p_result p_function used give unless
  point_puts o k n st st1 u may e = rw (unit.1, spelt.1, may, e, piece.1) refl

  point_pauses : (o k n : ℕ) (st st1 : State) → may_spell (suc deep) (record st { left = n }) ≡ true → put_string false (string_at st.objects (Point o k)) (record st { left = n }) ≡ Going st1
      → function (Point o k) (record st { left = suc n }) ≡ Paused (record st1 { spare = spare_behind ration n (st.spare - 1) (string_at st.objects (Point o k)) }) (record { live = true; cells = Holds (Point o k) ∷ [] } ∷ [])
  unfolding p_puts p_known p_string p_after p_bind p_give p_stuck p_choose p_run p_unit p_given p_outer p_named p_read p_load p_own_value p_variable p_used p_call p_go_on p_within p_enter p_function used give unless
  point_pauses o k n st st1 may e = rw (unit.1, spelt.1, may, e) refl

  letter_puts : (f : Option (List ℕ)) (j : ℕ) (text : List ℕ) (k n : ℕ) (st st1 : State) (u : Unit {0}) → may_spell (suc deep) (record st { left = n }) ≡ true → put_string false (string_at st.objects (Letter f j text k)) (record st { left = n }) ≡ Gives u st1
      → function (Letter f j text k) (record st { left = suc n }) ≡ Done (Word 0) (record st1 { spare = ration; output = st1.output ++ 10 % 2 ^ 8 ∷ [] }) (gone (Letter f j text k))
  unfolding p_puts p_known p_piece p_string p_after p_bind p_give p_stuck p_choose p_run p_unit p_given p_outer p_named p_read p_load p_own_value p_variable p_used p_call p_go_on p_within p_enter p_leave p_returned p_result p_function used give unless
  letter_puts f j text k n st st1 u may e = rw (unit.1, spelt.1, may, e, piece.1) refl

  letter_pauses : (f : Option (List ℕ)) (j : ℕ) (text : List ℕ) (k n : ℕ) (st st1 : State) → may_spell (suc deep) (record st { left = n }) ≡ true → put_string false (string_at st.objects (Letter f j text k)) (record st { left = n }) ≡ Going st1
      → function (Letter f j text k) (record st { left = suc n }) ≡ Paused (record st1 { spare = spare_behind ration n (st.spare - 1) (string_at st.objects (Letter f j text k)) }) (record { live = true; cells = Holds (Letter f j text k) ∷ [] } ∷ [])
  unfolding p_puts p_known p_string p_after p_bind p_give p_stuck p_choose p_run p_unit p_given p_outer p_named p_read p_load p_own_value p_variable p_used p_call p_go_on p_within p_enter p_function used give unless
  letter_pauses f j text k n st st1 may e = rw (unit.1, spelt.1, may, e) refl

-- ---- a string from the moment at which a use begins

-- the second is the first with this second fuel and these words, and the first keeps its own
abbrev Started : (s w : ℕ) → State → Outcome (Unit {0}) → Outcome (Unit {0}) → Type 0
Started s w base (Gives u st) r = (r ≡ Gives u (record st { spare = s; words = w })) × (st.spare ≡ base.spare) × (st.words ≡ base.words)
Started s w base (Going st) r = (r ≡ Going (record st { spare = s; words = w })) × (st.spare ≡ base.spare) × (st.words ≡ base.words)
-- a string ends no run
Started s w base (Ended st) r = ⊥
Started s w base (Undefined act st) r = Unit {0}

string_started : (cs : List Cell) (s w left : ℕ) (st : State) → Started s w st (put_string false cs (record st { left = left })) (put_string false cs (record st { left = left; spare = s; words = w }))
unfolding put_string give undefined paid spend put ◌>>=◌ after
string_started [] s w left st = tt
string_started (Unset ∷ cs) s w left st = tt
string_started (Holds Null ∷ cs) s w left st = tt
string_started (Holds (Point o i) ∷ cs) s w left st = tt
string_started (Holds (Letter f j text i) ∷ cs) s w left st = tt
string_started (Holds (Function f) ∷ cs) s w left st = tt
string_started (Holds Missing ∷ cs) s w left st = tt
string_started (Holds (Word zero) ∷ cs) s w left st = (refl, refl, refl)
string_started (Holds (Word (suc c)) ∷ cs) s w zero st = (refl, refl, refl)
string_started (Holds (Word (suc c)) ∷ cs) s w (suc left) st = string_started cs s w left (record st { output = st.output ++ suc c % 2 ^ 8 ∷ [] })

-- ---- the operator

abbrev action : Action
action = of_one string_put

put_waits : (v : Value) (st : State) → action (v ∷ []) (record st { left = 0 }) ≡ Going (record st { left = 0 })
unfolding of_one string_put paid spend
put_waits v st = refl

put_gives : (v : Value) (n : ℕ) (st st1 : State) (u : Unit {0}) → put_string false (string_at st.objects v) (record st { left = n }) ≡ Gives u st1 → action (v ∷ []) (record st { left = suc n }) ≡ Gives (Word 0) (record st1 { output = st1.output ++ 10 % 2 ^ 8 ∷ [] })
unfolding of_one string_put paid spend put_string_at objects_now put give ◌>>=◌ after
put_gives v n st st1 u e = rw e refl

put_goes : (v : Value) (n : ℕ) (st st1 : State) → put_string false (string_at st.objects v) (record st { left = n }) ≡ Going st1 → action (v ∷ []) (record st { left = suc n }) ≡ Going st1
unfolding of_one string_put paid spend put_string_at objects_now ◌>>=◌ after
put_goes v n st st1 e = rw e refl

put_fails : (v : Value) (n : ℕ) (st st1 : State) (act : Act) → put_string false (string_at st.objects v) (record st { left = n }) ≡ Undefined act st1 → action (v ∷ []) (record st { left = suc n }) ≡ Undefined act st1
unfolding of_one string_put paid spend put_string_at objects_now ◌>>=◌ after
put_fails v n st st1 act e = rw e refl

-- ---- the use

module _ (h : Helpers) (t : Text) (input : List ℕ) (enough : 2 ^ 9 ≤ h.ration) (known : Known h) (strings : HasString h t) (own : HasPuts h t) where
  abbrev name : List ℕ
  name = puts.name

  some : 1 ≤ h.ration
  some = omega (arith, enough)

  puts_splits : (deep n : ℕ) (g : List ℕ) (us : List Value) → Split n itself (p_puts h.ration deep g us) (helper_calls deep h t input g us)
  unfolding p_puts
  puts_splits deep n g us = first (bytes_eq g print_string.name) refl
    where
      first : (b : Bool) → bytes_eq g print_string.name ≡ b → Split n itself (if b then p_string h.ration deep us else p_known h.ration deep g us) (helper_calls deep h t input g us)
      first true e = subst (λ z. Split n itself (p_string h.ration deep us) (helper_calls deep h t input z us)) (sym ((bytes_eq-Decides g print_string.name).0 e)) (string_splits h t input some known strings deep n us)
      first false e = known_splits h t input known deep n g us

  -- the depth of a use, two calls apart
  abbrev inner : ℕ → ℕ
  inner left = left * (h.ration + 1) + h.ration - 1

  depth : (left : ℕ) → use_depth h.ration left ≡ suc (suc (inner left))
  depth left = omega (arith, some)

  deep_enough : (n : ℕ) → n < suc (inner (suc n))
  deep_enough n = let le : suc n ≤ suc n * (h.ration + 1) = many (suc n) in omega (arith, le, some)
    where
      many : (m : ℕ) → m ≤ m * (h.ration + 1)
      many m = omega arith

  -- what a use is, by the part apart
  abbrev UseIs : Out Value → State → Outcome Value → Type 0
  UseIs (Done a st1 objects) st r = r ≡ Gives a (record st1 { spare = st.spare; words = st.words })
  UseIs (Paused st1 objects) st r = r ≡ Going (record st1 { spare = st.spare; words = st.words })
  UseIs Stuck st r = Unit {0}

  behind : (st : State) (o : Out Value) (r : Outcome Value) → Apart o 0 r → UseIs o st (leaving (behind_use st) r)
  unfolding leaving
  behind st (Done a st1 objects) r e = ap (leaving (behind_use st)) e
  behind st (Paused st1 objects) r e = ap (leaving (behind_use st)) e
  behind st Stuck r e = tt

  abbrev ran : Value → State → Out Value
  ran v st = p_function (definition type.Int string_parameter puts own.0.tags own.0.names own.0.defined) (use_depth h.ration st.left) (p_puts h.ration (use_depth h.ration st.left)) (v ∷ []) (record st { spare = h.ration; words = 0 + h.charge name }) []

  use_is : (v : Value) (st : State) → UseIs (ran v st) st (use_of h t input name (v ∷ []) st)
  unfolding helped
  use_is v st =
      behind st (ran v st) (helper_runs h t input (helper_calls (use_depth h.ration st.left) h t input) (use_depth h.ration st.left) name (function_named t name) (v ∷ []) (record st { spare = h.ration; words = 0 }))
      (subst (λ z. Apart (ran v st) 0 (helper_runs h t input (helper_calls (use_depth h.ration st.left) h t input) (use_depth h.ration st.left) name z (v ∷ []) (record st { spare = h.ration; words = 0 }))) (sym own.0.found)
      (call_apart h t input (use_depth h.ration st.left) (helper_calls (use_depth h.ration st.left) h t input) (p_puts h.ration (use_depth h.ration st.left)) name (definition type.Int string_parameter puts own.0.tags own.0.names own.0.defined) (v ∷ []) (record st { spare = h.ration; words = 0 }) (λ g us. puts_splits (use_depth h.ration st.left) _ g us) (omega (arith, own.0.charge))))

  -- where the run of the part is known
  use_ends : (v : Value) (left : ℕ) (st : State) (o : Out Value) → function own.0.tags own.0.names own.0.defined (inner left) h.ration own.1 own.2 own.3 v (record st { left = left; spare = h.ration; words = 0 + h.charge name }) ≡ o → UseIs o (record st { left = left }) (use_of h t input name (v ∷ []) (record st { left = left }))
  use_ends v left st o e =
      subst (λ z. UseIs z (record st { left = left }) (use_of h t input name (v ∷ []) (record st { left = left })))
      (ap (λ d. p_function (definition type.Int string_parameter puts own.0.tags own.0.names own.0.defined) d (p_puts h.ration d) (v ∷ []) (record st { left = left; spare = h.ration; words = 0 + h.charge name }) []) (depth left) ∙ e)
      (use_is v (record st { left = left }))

  may_be : (n : ℕ) (st : State) → may_spell (suc (inner (suc n))) (record st { left = n; spare = h.ration; words = 0 + h.charge name }) ≡ true
  unfolding may_spell
  may_be n st = ap₂ (λ a b. a && b) (ap₂ (λ a b. a && b) (lt-ltb n (suc (inner (suc n))) (deep_enough n)) (le-leb 2 h.ration (omega (arith, enough)))) (le-leb (0 + h.charge name + 16) 1024 (omega (arith, own.0.charge)))

  abbrev Helped : Value → State → Type 0
  Helped v st = helps_to h t input name action (v ∷ []) st ≡ action (v ∷ []) st

  undefined_use : (v : Value) (n : ℕ) (st st1 : State) (act : Act) → put_string false (string_at st.objects v) (record st { left = n }) ≡ Undefined act st1 → Helped v (record st { left = suc n })
  undefined_use v n st st1 act e = use_undefined h t input name (v ∷ []) action (record st { left = suc n }) st1 act (put_fails v n st st1 act e)

  -- both give, or both wait for fuel
  given : (v : Value) (n : ℕ) (st st1 : State) (u : Unit {0}) (objects : List Object) → put_string false (string_at st.objects v) (record st { left = n }) ≡ Gives u st1 → st1.spare ≡ st.spare → st1.words ≡ st.words
      → function own.0.tags own.0.names own.0.defined (inner (suc n)) h.ration own.1 own.2 own.3 v (record st { left = suc n; spare = h.ration; words = 0 + h.charge name }) ≡ Done (Word 0) (record st1 { spare = h.ration; words = 0 + h.charge name; output = st1.output ++ 10 % 2 ^ 8 ∷ [] }) objects → Helped v (record st { left = suc n })
  given v n st st1 u objects e s w f =
      use_gives h t input name (v ∷ []) action (record st { left = suc n }) (record st1 { output = st1.output ++ 10 % 2 ^ 8 ∷ [] }) (Word 0) (put_gives v n st st1 u e)
      (use_ends v (suc n) st _ f ∙ λ i. Gives (Word 0) (record st1 { spare = sym s i; words = sym w i; output = st1.output ++ 10 % 2 ^ 8 ∷ [] }))

  waiting : (v : Value) (n spare : ℕ) (st st1 : State) (objects : List Object) → put_string false (string_at st.objects v) (record st { left = n }) ≡ Going st1 → st1.spare ≡ st.spare → st1.words ≡ st.words
      → function own.0.tags own.0.names own.0.defined (inner (suc n)) h.ration own.1 own.2 own.3 v (record st { left = suc n; spare = h.ration; words = 0 + h.charge name }) ≡ Paused (record st1 { spare = spare; words = 0 + h.charge name }) objects → Helped v (record st { left = suc n })
  waiting v n spare st st1 objects e s w f =
      use_pauses h t input name (v ∷ []) action (record st { left = suc n }) st1 (put_goes v n st st1 e)
      (use_ends v (suc n) st _ f ∙ λ i. Going (record st1 { spare = sym s i; words = sym w i }))

  waits_at_once : (v : Value) (st : State) → Helped v (record st { left = 0 })
  waits_at_once v st =
      use_pauses h t input name (v ∷ []) action (record st { left = 0 }) (record st { left = 0 }) (put_waits v st)
      (use_ends v 0 st _ (none_left own.0.tags own.0.names own.0.defined (inner 0) h.ration own.1 own.2 own.3 v (record st { spare = h.ration; words = 0 + h.charge name })))

  at_point : (o k n : ℕ) (st : State) (r : Outcome (Unit {0})) → put_string false (string_at st.objects (Point o k)) (record st { left = n }) ≡ r
      → Started h.ration (0 + h.charge name) st r (put_string false (string_at st.objects (Point o k)) (record st { left = n; spare = h.ration; words = 0 + h.charge name })) → Helped (Point o k) (record st { left = suc n })
  at_point o k n st (Undefined act st1) e x = undefined_use (Point o k) n st st1 act e
  at_point o k n st (Ended st1) e x = absurd x
  at_point o k n st (Gives u st1) e (f, s, w) =
      given (Point o k) n st st1 u _ e s w (point_puts own.0.tags own.0.names own.0.defined (inner (suc n)) h.ration own.1 own.2 own.3 o k n (record st { spare = h.ration; words = 0 + h.charge name }) (record st1 { spare = h.ration; words = 0 + h.charge name }) u (may_be n st) f)
  at_point o k n st (Going st1) e (f, s, w) =
      waiting (Point o k) n _ st st1 _ e s w (point_pauses own.0.tags own.0.names own.0.defined (inner (suc n)) h.ration own.1 own.2 own.3 o k n (record st { spare = h.ration; words = 0 + h.charge name }) (record st1 { spare = h.ration; words = 0 + h.charge name }) (may_be n st) f)

  at_letter : (a : Option (List ℕ)) (j : ℕ) (text : List ℕ) (k n : ℕ) (st : State) (r : Outcome (Unit {0})) → put_string false (string_at st.objects (Letter a j text k)) (record st { left = n }) ≡ r
      → Started h.ration (0 + h.charge name) st r (put_string false (string_at st.objects (Letter a j text k)) (record st { left = n; spare = h.ration; words = 0 + h.charge name })) → Helped (Letter a j text k) (record st { left = suc n })
  at_letter a j text k n st (Undefined act st1) e x = undefined_use (Letter a j text k) n st st1 act e
  at_letter a j text k n st (Ended st1) e x = absurd x
  at_letter a j text k n st (Gives u st1) e (f, s, w) =
      given (Letter a j text k) n st st1 u _ e s w (letter_puts own.0.tags own.0.names own.0.defined (inner (suc n)) h.ration own.1 own.2 own.3 a j text k n (record st { spare = h.ration; words = 0 + h.charge name }) (record st1 { spare = h.ration; words = 0 + h.charge name }) u (may_be n st) f)
  at_letter a j text k n st (Going st1) e (f, s, w) =
      waiting (Letter a j text k) n _ st st1 _ e s w (letter_pauses own.0.tags own.0.names own.0.defined (inner (suc n)) h.ration own.1 own.2 own.3 a j text k n (record st { spare = h.ration; words = 0 + h.charge name }) (record st1 { spare = h.ration; words = 0 + h.charge name }) (may_be n st) f)

  on_value : (v : Value) (left : ℕ) (st : State) → Helped v (record st { left = left })
  unfolding put_string undefined
  on_value v zero st = waits_at_once v st
  on_value (Point o k) (suc n) st = at_point o k n st _ refl (string_started (string_at st.objects (Point o k)) h.ration (0 + h.charge name) n st)
  on_value (Letter a j text k) (suc n) st = at_letter a j text k n st _ refl (string_started (string_at st.objects (Letter a j text k)) h.ration (0 + h.charge name) n st)
  on_value (Word w) (suc n) st = undefined_use (Word w) n st _ OutsideObject refl
  on_value Null (suc n) st = undefined_use Null n st _ OutsideObject refl
  on_value (Function f) (suc n) st = undefined_use (Function f) n st _ OutsideObject refl
  on_value Missing (suc n) st = undefined_use Missing n st _ OutsideObject refl

  pub put_lines : (vs : List Value) (st : State) → helps_to h t input name action vs st ≡ action vs st
  unfolding of_one undefined
  put_lines (v ∷ []) st = on_value v st.left st
  put_lines [] st = use_undefined h t input name [] action st st OtherKind refl
  put_lines (v ∷ w ∷ vs) st = use_undefined h t input name (v ∷ w ∷ vs) action st st OtherKind refl

pub strings_are_put : StringsArePut
strings_are_put h t enough known strings own input vs st = put_lines h t input enough known strings own vs st
