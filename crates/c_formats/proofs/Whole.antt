-- A use of a format's function writes what `printf` writes.
use Rattle.std.proofs.Common.{◌≡◌, ℕ, zero, suc, ◌+◌, ◌-◌, ◌*◌, ◌^◌, ◌<◌, ◌≤◌, List, [], ◌∷◌, ◌++◌, length, map, take, drop, Some, Bool, true, false, refl, sym, ap, ◌∙◌, subst, arith, append-nil}
use Rattle.std.specs.Prelude.{◌==◌, if◌then◌else◌, codes}
use Rattle.c_syntax.specs.Plain.{CStmts, MoreStmt, stmts}
use Rattle.c_types.specs.Types as type
use Rattle.c_types.specs.Scope.{Scope}
use Rattle.c_types.specs.Operands.{conversions_of}
use Rattle.c_eval.specs.State.{Value, Missing, Cell, Object, State, Act, Outcome, Gives, Ended, Going, Undefined}
use Rattle.c_eval.specs.Run.{◌>>=◌, after, give, paid, spend}
use Rattle.c_eval.specs.Memory.{live_object, dead}
use Rattle.c_eval.specs.BuiltIns.{put_format, printf}
use Rattle.c_eval.specs.Environment.{Environment, block_objects, behind, in_block}
use Rattle.c_eval.specs.Eval.{Flow, Next}
use Rattle.c_eval.specs.Meaning.{argument_objects, body_environment}
use Rattle.c_eval.specs.Text.{Definition, Text, function_named}
use Rattle.c_eval.specs.Helpers.{Helpers, leaving, behind_use, helped, helper_runs, helper_calls, use_depth, helps_to}
use Rattle.c_helpers.specs.Functions.{spend_unit, refill, call_of, put_piece, argument_name, pieces, format_name, print_format}
use Rattle.c_helpers.specs.Terms.{number, variable}
use Rattle.c_helpers.specs.Meanings.{Action, format_put}
use Rattle.c_apart.proofs.Apart.{Out, Done, Paused, Stuck, Part, p_after, p_bind, p_give, p_enter, p_leave, p_within, p_does, p_all, p_result, p_function}
use Rattle.c_apart.proofs.Uses.{Apart, call_apart, use_of, use_gives, use_pauses, use_undefined}
use Rattle.c_valid.specs.Valid.{AreValid}
use Rattle.c_products.specs.MovesFound.{definition}
use Rattle.c_formats.proofs.Sequence.{all_next}
use Rattle.c_formats.specs.StringsLaws.{Known}
use Rattle.c_formats.specs.Laws.{format_parameters, HasFormat, FormatsAreWritten}
use Rattle.c_formats.proofs.Parts.{p_formats, formats_splits}
use Rattle.c_formats.proofs.Steps.{all_paused, here, unit_spent, unit_wanted}
use Rattle.c_formats.proofs.Pieces.{outer, objects, cells, unit_known, Ends, pieces_run}

-- no piece declares an object
none_declared : (percent : Bool) (rest : List ℕ) (i : ℕ) (s : Scope) → block_objects s (stmts (pieces percent rest i)) ≡ []
none_declared percent [] i s = refl
none_declared false (c ∷ rest) i s = go (c == 37) (none_declared true rest i s) (none_declared false rest i s)
  where
    go : (b : Bool) → block_objects s (stmts (pieces true rest i)) ≡ [] → block_objects s (stmts (pieces false rest i)) ≡ [] → block_objects s (stmts (if b then pieces true rest i else put_piece (number c) ∷ pieces false rest i)) ≡ []
    go true e f = e
    go false e f = f
none_declared true (c ∷ rest) i s = go (c == 37) (c == 99) (none_declared false rest i s) (none_declared false rest (suc i) s)
  where
    go : (b q : Bool) → block_objects s (stmts (pieces false rest i)) ≡ [] → block_objects s (stmts (pieces false rest (suc i))) ≡ [] → block_objects s (stmts (if b then put_piece (number c) ∷ pieces false rest i else (if q then put_piece (variable (argument_name i)) ∷ [] else refill ∷ call_of (codes "%" ++ c ∷ []) (variable (argument_name i) ∷ []) ∷ []) ++ pieces false rest (suc i))) ≡ []
    go true q e f = e
    go false true e f = f
    go false false e f = f

-- ---- blocks that are done, and that wait

within_done : {A : Type 0} (new : List (List Cell)) (m : ℕ → Part A) (st st1 : State) (own own1 : List Object) (a : A) → m (length own) st (own ++ map live_object new) ≡ Done a st1 own1
    → p_within new m st own ≡ Done a st1 (take (length own) own1 ++ map dead (drop (length own) own1))
unfolding p_within p_enter p_bind p_after p_leave p_give
within_done new m st st1 own own1 a e = ap (λ z. p_after z (λ a. p_bind (p_leave (length own)) (λ _. p_give a))) e

within_paused : {A : Type 0} (new : List (List Cell)) (m : ℕ → Part A) (st st1 : State) (own own1 : List Object) → m (length own) st (own ++ map live_object new) ≡ Paused st1 own1 → p_within new m st own ≡ Paused st1 own1
unfolding p_within p_enter p_bind p_after
within_paused new m st st1 own own1 e = ap (λ z. p_after z (λ a. p_bind (p_leave (length own)) (λ _. p_give a))) e

module _ (h : Helpers) (t : Text) (input : List ℕ) (enough : 2 ^ 9 ≤ h.ration) (known : Known h) (format letters : List ℕ) (told : conversions_of format ≡ Some letters) (few : length letters < 2 ^ 24) (own : HasFormat h t format letters) (vs : List Value) (valid : AreValid vs) where
  abbrev f : Definition
  f = definition type.Void (format_parameters letters) (print_format format) own.own.tags own.own.names own.own.defined

  abbrev name : List ℕ
  name = format_name format

  abbrev words : ℕ
  words = 0 + h.charge name

  some : 1 ≤ h.ration
  some = omega (arith, enough)

  abbrev arguments : List Object
  arguments = cells h t input format letters few own vs valid 0

  module _ (deep : ℕ) where
    abbrev sub : List ℕ → List Value → Part Value
    sub = p_formats h.ration letters (suc (suc deep))

    abbrev place : ℕ → Environment
    place l = here own.own.tags (outer h t input format letters few own vs valid deep) own.own.defined (objects h t input format letters few own vs valid deep) (length arguments) deep h.ration letters arguments l

    abbrev whole : State → Out Flow
    whole st = p_all (MoreStmt spend_unit (stmts (pieces false format 0))) (suc (suc deep)) sub (place 0) st arguments

    abbrev pieces_of : CStmts
    pieces_of = MoreStmt spend_unit (stmts (pieces false format 0))

    abbrev env : ℕ → Environment
    env j = body_environment f [] vs j

    abbrev block_of : ℕ → Part Flow
    block_of j = p_all pieces_of (suc (suc deep)) sub (in_block j (env 0))

    abbrev behind_block : List Object
    behind_block = take (length arguments) arguments ++ map dead (drop (length arguments) arguments)

    -- the block of the function's body
    block_done : (st st1 : State) → whole st ≡ Done Next st1 arguments → p_does f.body (suc (suc deep)) sub (env 0) st arguments ≡ Done Next st1 behind_block
    block_done st st1 e =
        ap (λ z. p_within z block_of st arguments) (none_declared false format 0 _)
        ∙ within_done [] block_of st st1 arguments arguments Next (ap (λ z. block_of (length arguments) st z) (append-nil arguments) ∙ e)

    block_paused : (st st1 : State) → whole st ≡ Paused st1 arguments → p_does f.body (suc (suc deep)) sub (env 0) st arguments ≡ Paused st1 arguments
    block_paused st st1 e =
        ap (λ z. p_within z block_of st arguments) (none_declared false format 0 _)
        ∙ within_paused [] block_of st st1 arguments arguments (ap (λ z. block_of (length arguments) st z) (append-nil arguments) ∙ e)

    abbrev body_of : ℕ → Part Flow
    body_of j = p_does f.body (suc (suc deep)) sub (env j)

    body_done : (st st1 : State) → whole st ≡ Done Next st1 arguments → p_function f (suc (suc deep)) sub vs st [] ≡ Done Missing st1 (take 0 behind_block ++ map dead (drop 0 behind_block))
    unfolding p_function p_bind p_after p_result p_give
    body_done st st1 e = ap (λ z. p_after z (p_result type.Void)) (within_done (argument_objects f.params vs) body_of st st1 [] behind_block Next (block_done st st1 e))

    body_paused : (st st1 : State) → whole st ≡ Paused st1 arguments → p_function f (suc (suc deep)) sub vs st [] ≡ Paused st1 arguments
    unfolding p_function p_bind p_after
    body_paused st st1 e = ap (λ z. p_after z (p_result type.Void)) (within_paused (argument_objects f.params vs) body_of st st1 [] arguments (block_paused st st1 e))

  -- ---- the operator

  abbrev action : Action
  action = format_put format

  put_waits : (st : State) → action vs (record st { left = 0 }) ≡ Going (record st { left = 0 })
  unfolding format_put paid spend
  put_waits st = refl

  put_is : (n : ℕ) (st : State) → action vs (record st { left = suc n }) ≡ after (put_format false false format vs (record st { left = n })) (λ _. give Missing)
  unfolding format_put paid spend printf ◌>>=◌
  put_is n st = refl

  put_gives : (n : ℕ) (st st1 : State) (u : Unit {0}) → put_format false false format vs (record st { left = n }) ≡ Gives u st1 → action vs (record st { left = suc n }) ≡ Gives Missing st1
  unfolding after give
  put_gives n st st1 u e = put_is n st ∙ ap (λ z. after z (λ _. give Missing)) e

  put_goes : (n : ℕ) (st st1 : State) → put_format false false format vs (record st { left = n }) ≡ Going st1 → action vs (record st { left = suc n }) ≡ Going st1
  unfolding after
  put_goes n st st1 e = put_is n st ∙ ap (λ z. after z (λ _. give Missing)) e

  put_fails : (n : ℕ) (st st1 : State) (act : Act) → put_format false false format vs (record st { left = n }) ≡ Undefined act st1 → action vs (record st { left = suc n }) ≡ Undefined act st1
  unfolding after
  put_fails n st st1 act e = put_is n st ∙ ap (λ z. after z (λ _. give Missing)) e

  -- ---- the use

  -- the depth of a use, two calls apart
  abbrev inner : ℕ → ℕ
  inner left = left * (h.ration + 1) + h.ration - 1

  depth : (left : ℕ) → use_depth h.ration left ≡ suc (suc (inner left))
  depth left = omega (arith, some)

  lower : (n : ℕ) → n < suc (inner (suc n))
  lower n = let le : suc n ≤ suc n * (h.ration + 1) = many (suc n) in omega (arith, le, some)
    where
      many : (m : ℕ) → m ≤ m * (h.ration + 1)
      many m = omega arith

  deeper : (left : ℕ) → 256 < inner left
  deeper left = let le : 0 ≤ left * (h.ration + 1) = omega arith in omega (arith, le, enough)

  -- what a use is, by the part apart
  abbrev UseIs : Out Value → State → Outcome Value → Type 0
  UseIs (Done a st1 own) st r = r ≡ Gives a (record st1 { spare = st.spare; words = st.words })
  UseIs (Paused st1 own) st r = r ≡ Going (record st1 { spare = st.spare; words = st.words })
  UseIs Stuck st r = Unit {0}

  behind_part : (st : State) (o : Out Value) (r : Outcome Value) → Apart o 0 r → UseIs o st (leaving (behind_use st) r)
  unfolding leaving
  behind_part st (Done a st1 own) r e = ap (leaving (behind_use st)) e
  behind_part st (Paused st1 own) r e = ap (leaving (behind_use st)) e
  behind_part st Stuck r e = tt

  abbrev ran : State → Out Value
  ran st = p_function f (use_depth h.ration st.left) (p_formats h.ration letters (use_depth h.ration st.left)) vs (record st { spare = h.ration; words = words }) []

  use_is : (st : State) → UseIs (ran st) st (use_of h t input name vs st)
  unfolding helped
  use_is st =
      behind_part st (ran st) (helper_runs h t input (helper_calls (use_depth h.ration st.left) h t input) (use_depth h.ration st.left) name (function_named t name) vs (record st { spare = h.ration; words = 0 }))
      (subst (λ z. Apart (ran st) 0 (helper_runs h t input (helper_calls (use_depth h.ration st.left) h t input) (use_depth h.ration st.left) name z vs (record st { spare = h.ration; words = 0 }))) (sym own.own.found)
      (call_apart h t input (use_depth h.ration st.left) (helper_calls (use_depth h.ration st.left) h t input) (p_formats h.ration letters (use_depth h.ration st.left)) name f vs (record st { spare = h.ration; words = 0 }) (λ g us. formats_splits h t input some known format letters own (use_depth h.ration st.left) _ g us) (omega (arith, own.own.charge))))

  -- where the run of the part is known
  use_ends : (left : ℕ) (st : State) (o : Out Value) → p_function f (suc (suc (inner left))) (sub (inner left)) vs (record st { left = left; spare = h.ration; words = words }) [] ≡ o → UseIs o (record st { left = left }) (use_of h t input name vs (record st { left = left }))
  use_ends left st o e =
      subst (λ z. UseIs z (record st { left = left }) (use_of h t input name vs (record st { left = left })))
      (ap (λ d. p_function f d (p_formats h.ration letters d) vs (record st { left = left; spare = h.ration; words = words }) []) (depth left) ∙ e) (use_is (record st { left = left }))

  abbrev Helped : State → Type 0
  Helped st = helps_to h t input name action vs st ≡ action vs st

  waits_at_once : (st : State) → Helped (record st { left = 0 })
  waits_at_once st =
      use_pauses h t input name vs action (record st { left = 0 }) (record st { left = 0 }) (put_waits st)
      (use_ends 0 st _ (body_paused (inner 0) _ _
      (all_paused spend_unit (stmts (pieces false format 0)) (suc (suc (inner 0))) (sub (inner 0)) (place (inner 0) 0) _ _ arguments arguments
      (unit_wanted own.own.tags (outer h t input format letters few own vs valid (inner 0)) own.own.defined (objects h t input format letters few own vs valid (inner 0)) (length arguments) (inner 0) h.ration letters arguments
      (unit_known h t input format letters few own vs valid (inner 0)) 0 (record st { spare = h.ration; words = words })))))

  module _ (n : ℕ) (st : State) where
    -- behind the unit of the call
    abbrev begun : Out Flow
    begun = p_all (stmts (pieces false format 0)) (suc (suc (inner (suc n)))) (sub (inner (suc n))) (behind spend_unit (place (inner (suc n)) 0)) (record st { left = n; spare = h.ration; words = words }) arguments

    begins : whole (inner (suc n)) (record st { left = suc n; spare = h.ration; words = words }) ≡ begun
    begins =
        all_next spend_unit (stmts (pieces false format 0)) (suc (suc (inner (suc n)))) (sub (inner (suc n))) (place (inner (suc n)) 0) _ _ arguments arguments
        (unit_spent own.own.tags (outer h t input format letters few own vs valid (inner (suc n))) own.own.defined (objects h t input format letters few own vs valid (inner (suc n))) (length arguments) (inner (suc n)) h.ration letters arguments
        (unit_known h t input format letters few own vs valid (inner (suc n))) 0 n (record st { spare = h.ration; words = words }))

    small : words ≤ 16
    small = omega (arith, own.own.charge)

    abbrev EndsAs : Outcome (Unit {0}) → Type 0
    EndsAs r = Ends h t input format letters few own vs valid (inner (suc n)) h.ration n st.spare st.words words enough small (lower n) (deeper (suc n)) r begun

    ends_as : EndsAs (put_format false false format vs (record st { left = n }))
    ends_as = pieces_run h t input format letters few own vs valid (inner (suc n)) h.ration n st.spare st.words words enough small (lower n) (deeper (suc n)) false format letters 0 told refl (behind spend_unit (place (inner (suc n)) 0)).literals_before h.ration (record st { left = n }) refl refl (omega arith)

    by_end : (r : Outcome (Unit {0})) → put_format false false format vs (record st { left = n }) ≡ r → EndsAs r → Helped (record st { left = suc n })
    by_end (Gives u st1) e (a, b, c) =
        use_gives h t input name vs action (record st { left = suc n }) st1 Missing (put_gives n st st1 u e)
        (use_ends (suc n) st _ (body_done (inner (suc n)) _ _ (begins ∙ c.1)) ∙ λ i. Gives Missing (record st1 { spare = sym a i; words = sym b i }))
    by_end (Going st1) e (a, b, c) =
        use_pauses h t input name vs action (record st { left = suc n }) st1 (put_goes n st st1 e)
        (use_ends (suc n) st _ (body_paused (inner (suc n)) _ _ (begins ∙ c.1)) ∙ λ i. Going (record st1 { spare = sym a i; words = sym b i }))
    by_end (Ended st1) e x = absurd x
    by_end (Undefined act st1) e x = use_undefined h t input name vs action (record st { left = suc n }) st1 act (put_fails n st st1 act e)

    pays : Helped (record st { left = suc n })
    pays = by_end (put_format false false format vs (record st { left = n })) refl ends_as

  on_fuel : (left : ℕ) (st : State) → Helped (record st { left = left })
  on_fuel zero st = waits_at_once st
  on_fuel (suc n) st = pays n st

pub formats_are_written : FormatsAreWritten
formats_are_written h t format letters enough known told few own input vs st valid = on_fuel h t input enough known format letters told few own vs valid st.left st
