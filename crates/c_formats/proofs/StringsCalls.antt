-- A call of the function of strings by another helper function.
use Rattle.std.proofs.Common.{◌≡◌, ℕ, zero, suc, ◌+◌, ◌%◌, ◌^◌, ◌<◌, ◌≤◌, List, [], ◌∷◌, ◌++◌, Option, Some, None, Bool, true, false, slice_get, drop, refl, sym, ap, ◌∙◌, subst, arith}
use Rattle.std.specs.Prelude.{if◌then◌else◌}
use Rattle.c_types.specs.Types as type
use Rattle.c_eval.specs.State.{Value, Word, Null, Point, Letter, Function, Missing, Cell, Unset, Holds, Object, State, Outcome, Gives, Ended, Going, Undefined}
use Rattle.c_eval.specs.Run.{◌>>=◌, after, give, undefined, paid, spend, put, objects_now}
use Rattle.c_eval.specs.Memory.{letters, live_cells, cells_at, offset_of}
use Rattle.c_eval.specs.BuiltIns.{put_string, put_string_at, cells_from}
use Rattle.c_eval.specs.Text.{Text, function_named}
use Rattle.c_eval.specs.Helpers.{Helpers, helper_runs, helper_calls}
use Rattle.c_helpers.specs.Functions.{print_string}
use Rattle.c_apart.proofs.Apart.{Out}
use Rattle.c_apart.proofs.Uses.{Apart, call_apart}
use Rattle.c_products.specs.MovesFound.{definition}
use Rattle.c_formats.specs.StringsLaws.{string_parameter, Known, HasString, Spells, StringsAreWritten}
use Rattle.c_formats.proofs.Turn.{calls, known_splits}
use Rattle.c_formats.proofs.Loop.{spare_behind}
use Rattle.c_formats.proofs.Function.{Ran, function, point_ran, letter_ran}

-- the second is the first but for these words, which the first keeps
abbrev pub SameBut : (w v : ℕ) → Outcome (Unit {0}) → Outcome (Unit {0}) → Type 0
SameBut w v (Gives u st) r = (r ≡ Gives u (record st { words = w })) × (st.words ≡ v)
SameBut w v (Ended st) r = (r ≡ Ended (record st { words = w })) × (st.words ≡ v)
SameBut w v (Going st) r = (r ≡ Going (record st { words = w })) × (st.words ≡ v)
SameBut w v (Undefined act st) r = (r ≡ Undefined act (record st { words = w })) × (st.words ≡ v)

pub string_words : (cs : List Cell) (w left : ℕ) (st : State) → SameBut w st.words (put_string false cs (record st { left = left })) (put_string false cs (record st { left = left; words = w }))
unfolding put_string give undefined paid spend put ◌>>=◌ after
string_words [] w left st = (refl, refl)
string_words (Unset ∷ cs) w left st = (refl, refl)
string_words (Holds Null ∷ cs) w left st = (refl, refl)
string_words (Holds (Point o i) ∷ cs) w left st = (refl, refl)
string_words (Holds (Letter f j text i) ∷ cs) w left st = (refl, refl)
string_words (Holds (Function f) ∷ cs) w left st = (refl, refl)
string_words (Holds Missing ∷ cs) w left st = (refl, refl)
string_words (Holds (Word zero) ∷ cs) w left st = (refl, refl)
string_words (Holds (Word (suc c)) ∷ cs) w zero st = (refl, refl)
string_words (Holds (Word (suc c)) ∷ cs) w (suc left) st = string_words cs w left (record st { output = st.output ++ suc c % 2 ^ 8 ∷ [] })

-- a call ends as the string does, with so much second fuel
abbrev pub SpellsBy : ℕ → Outcome (Unit {0}) → Outcome Value → Type 0
SpellsBy spare (Gives u st) r = r ≡ Gives Missing (record st { spare = spare })
SpellsBy spare (Going st) r = r ≡ Going (record st { spare = spare })
SpellsBy spare (Ended st) r = Unit {0}
SpellsBy spare (Undefined act st) r = Unit {0}

by_apart : (w v spare : ℕ) (out : Out Value) (r r' : Outcome (Unit {0})) (q : Outcome Value) → SameBut w v r r' → Ran spare out r' → Apart out v q → SpellsBy spare r q
by_apart w v spare out (Gives u st) r' q (e, k) ran apart =
    let o : Ran spare out (Gives u (record st { words = w })) = subst (λ z. Ran spare out z) e ran in
    let a : q ≡ Gives Missing (record st { spare = spare; words = v }) = subst (λ z. Apart z v q) o.1 apart in
    a ∙ ap (λ z. Gives Missing (record st { spare = spare; words = z })) (sym k)
by_apart w v spare out (Going st) r' q (e, k) ran apart =
    let o : Ran spare out (Going (record st { words = w })) = subst (λ z. Ran spare out z) e ran in
    let a : q ≡ Going (record st { spare = spare; words = v }) = subst (λ z. Apart z v q) o.1 apart in
    a ∙ ap (λ z. Going (record st { spare = spare; words = z })) (sym k)
by_apart w v spare out (Ended st) r' q same ran apart = tt
by_apart w v spare out (Undefined act st) r' q same ran apart = tt

-- the cells of the string to which a pointer points
abbrev pub string_at : List Object → Value → List Cell
string_at os p = cells_from (cells_at os p) (offset_of p)

module _ (h : Helpers) (t : Text) (input : List ℕ) (some : 1 ≤ h.ration) (known : Known h) (own : HasString h t) (deep : ℕ) where
  abbrev body : Value → State → Outcome Value
  body p st = helper_runs h t input (helper_calls (suc deep) h t input) (suc deep) print_string.name (function_named t print_string.name) (p ∷ []) st

  abbrev run : Value → State → Out Value
  run p st = function own.0.tags own.0.names own.0.defined deep h.ration own.1 own.2 p st

  apart : (p : Value) (st : State) → st.words + 16 ≤ 1024 → Apart (run p (record st { words = st.words + h.charge print_string.name })) st.words (body p st)
  apart p st small =
      subst (λ z. Apart (run p (record st { words = st.words + h.charge print_string.name })) st.words (helper_runs h t input (helper_calls (suc deep) h t input) (suc deep) print_string.name z (p ∷ []) st)) (sym own.0.found)
      (call_apart h t input (suc deep) (helper_calls (suc deep) h t input) (calls own.0.tags own.0.names own.0.defined deep h.ration own.1 own.2) print_string.name (definition type.Void string_parameter print_string own.0.tags own.0.names own.0.defined) (p ∷ []) st
      (λ g us. known_splits h t input known (suc deep) _ g us) (omega (arith, small, own.0.charge)))

  -- from a run of the part apart on these cells
  spelled : (p : Value) (cs : List Cell) (st : State) → st.words + 16 ≤ 1024 → Ran (spare_behind h.ration st.left st.spare cs) (run p (record st { words = st.words + h.charge print_string.name })) (put_string false cs (record st { words = st.words + h.charge print_string.name }))
      → SpellsBy (spare_behind h.ration st.left st.spare cs) (put_string false cs st) (body p st)
  spelled p cs st small ran =
      by_apart (st.words + h.charge print_string.name) st.words (spare_behind h.ration st.left st.spare cs) (run p (record st { words = st.words + h.charge print_string.name })) (put_string false cs st) (put_string false cs (record st { words = st.words + h.charge print_string.name })) (body p st)
      (string_words cs (st.words + h.charge print_string.name) st.left st) ran (apart p st small)

  pub spells : (p : Value) (st : State) → st.left < suc deep → 1 ≤ st.spare → st.words + 16 ≤ 1024 → SpellsBy (spare_behind h.ration st.left st.spare (string_at st.objects p)) (put_string false (string_at st.objects p) st) (body p st)
  unfolding put_string undefined
  spells (Point o k) st lt enough small = by_object (slice_get st.objects o) refl
    where
      some_more : 0 < h.ration
      some_more = omega (arith, some)

      by_live : (x : Object) → slice_get st.objects o ≡ Some x → (b : Bool) → x.live ≡ b → SpellsBy (spare_behind h.ration st.left st.spare (cells_from (if b then Some x.cells else None) k)) (put_string false (cells_from (if b then Some x.cells else None) k) st) (body (Point o k) st)
      by_live x e true live = spelled (Point o k) (drop k x.cells) st small (point_ran own.0.tags own.0.names own.0.defined deep h.ration own.1 own.2 o k st.spare x (record st { words = st.words + h.charge print_string.name }) some_more e live lt (omega (arith, enough)))
      by_live x e false live = tt

      by_object : (x : Option Object) → slice_get st.objects o ≡ x → SpellsBy (spare_behind h.ration st.left st.spare (cells_from (live_cells x) k)) (put_string false (cells_from (live_cells x) k) st) (body (Point o k) st)
      by_object None e = tt
      by_object (Some x) e = by_live x e x.live refl
  spells (Letter f j text k) st lt enough small =
      spelled (Letter f j text k) (drop k (letters text)) st small (letter_ran own.0.tags own.0.names own.0.defined deep h.ration own.1 own.2 f j text k st.spare (record st { words = st.words + h.charge print_string.name }) (omega (arith, some)) lt (omega (arith, enough)))
  spells (Word n) st lt enough small = tt
  spells Null st lt enough small = tt
  spells (Function f) st lt enough small = tt
  spells Missing st lt enough small = tt

some_spare : (spare : ℕ) (r : Outcome (Unit {0})) (q : Outcome Value) → SpellsBy spare r q → Spells r q
some_spare spare (Gives u st) q e = (spare, e)
some_spare spare (Going st) q e = (spare, e)
some_spare spare (Ended st) q e = tt
some_spare spare (Undefined act st) q e = tt

pub strings_are_written : StringsAreWritten
unfolding put_string_at objects_now ◌>>=◌ after
strings_are_written h t some known own input zero p st lt enough small = absurd (omega (arith, lt))
strings_are_written h t some known own input (suc deep) p st lt enough small =
    some_spare (spare_behind h.ration st.left st.spare (string_at st.objects p)) (put_string false (string_at st.objects p) st) _ (spells h t input some known own deep p st lt enough small)
