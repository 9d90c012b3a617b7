-- A use of the function of `puts` writes a string and a line feed.
use Rattle.std.proofs.Common.{◌≡◌, ℕ, zero, suc, ◌+◌, ◌-◌, ◌%◌, ◌^◌, ◌<◌, ◌≤◌, List, [], ◌∷◌, ◌++◌, length, Option, Some, None, Bool, true, false, cond, nat_lt, nat_le, slice_get, refl, sym, ap, ◌∙◌, subst, arith}
use Rattle.std.specs.Prelude.{◌&&◌}
use Rattle.std.proofs.lemmas.Bool.{ltb-true, leb-true, and_parts}
use Rattle.c_eval.specs.State.{Value, Word, Null, Point, Letter, Function, Missing, Cell, Unset, Holds, Object, State, Outcome, Gives, Ended, Going, Undefined}
use Rattle.c_eval.specs.Run.{◌>>=◌, after, give, undefined, paid, spend, spend_spare, put}
use Rattle.c_eval.specs.Memory.{live_cells}
use Rattle.c_eval.specs.BuiltIns.{put_string, cells_from}
use Rattle.c_eval.specs.Text.{Text, function_named}
use Rattle.c_eval.specs.Helpers.{Helpers, helper_runs, known_or, helper_calls}
use Rattle.c_helpers.specs.Functions.{print_string}
use Rattle.c_apart.proofs.Apart.{Out, Done, Paused, Stuck, Part}
use Rattle.c_apart.proofs.Splitting.{Joins, Split, joined, itself}
use Rattle.c_formats.specs.StringsLaws.{Known, HasString}
use Rattle.c_formats.proofs.Loop.{spare_behind}
use Rattle.c_formats.proofs.StringsCalls.{SpellsBy, string_at, spells}

-- ---- a string is written alike from moments that show the same

-- the second is the first with these objects and this second fuel, and the first keeps its own of both
abbrev pub Elsewhere : List Object → ℕ → State → Outcome (Unit {0}) → Outcome (Unit {0}) → Type 0
Elsewhere os s base (Gives u st) r = (r ≡ Gives u (record st { objects = os; spare = s })) × (st.objects ≡ base.objects) × (st.spare ≡ base.spare)
Elsewhere os s base (Ended st) r = (r ≡ Ended (record st { objects = os; spare = s })) × (st.objects ≡ base.objects) × (st.spare ≡ base.spare)
Elsewhere os s base (Going st) r = (r ≡ Going (record st { objects = os; spare = s })) × (st.objects ≡ base.objects) × (st.spare ≡ base.spare)
Elsewhere os s base (Undefined act st) r = (r ≡ Undefined act (record st { objects = os; spare = s })) × (st.objects ≡ base.objects) × (st.spare ≡ base.spare)

pub string_elsewhere : (cs : List Cell) (os : List Object) (s left : ℕ) (st : State) → Elsewhere os s st (put_string false cs (record st { left = left })) (put_string false cs (record st { left = left; objects = os; spare = s }))
unfolding put_string give undefined paid spend put ◌>>=◌ after
string_elsewhere [] os s left st = (refl, refl, refl)
string_elsewhere (Unset ∷ cs) os s left st = (refl, refl, refl)
string_elsewhere (Holds Null ∷ cs) os s left st = (refl, refl, refl)
string_elsewhere (Holds (Point o i) ∷ cs) os s left st = (refl, refl, refl)
string_elsewhere (Holds (Letter f j text i) ∷ cs) os s left st = (refl, refl, refl)
string_elsewhere (Holds (Function f) ∷ cs) os s left st = (refl, refl, refl)
string_elsewhere (Holds Missing ∷ cs) os s left st = (refl, refl, refl)
string_elsewhere (Holds (Word zero) ∷ cs) os s left st = (refl, refl, refl)
string_elsewhere (Holds (Word (suc c)) ∷ cs) os s zero st = (refl, refl, refl)
string_elsewhere (Holds (Word (suc c)) ∷ cs) os s (suc left) st = string_elsewhere cs os s left (record st { output = st.output ++ suc c % 2 ^ 8 ∷ [] })

-- ---- a call of the function of strings

unfoldable pub may_spell : ℕ → State → Bool
may_spell deep st = nat_lt st.left deep && nat_le 2 st.spare && nat_le (st.words + 16) 1024

abbrev pub p_ended : ℕ → Outcome (Unit {0}) → List Object → Out Value
p_ended spare (Gives u st) own = Done Missing (record st { spare = spare }) own
p_ended spare (Going st) own = Paused (record st { spare = spare }) own
p_ended spare (Ended st) own = Stuck
p_ended spare (Undefined act st) own = Stuck

unfoldable pub p_string : ℕ → ℕ → List Value → Part Value
p_string ration (suc (suc deep)) (v ∷ []) st own = cond (may_spell (suc deep) st) (p_ended (spare_behind ration st.left (st.spare - 1) (string_at st.objects v)) (put_string false (string_at st.objects v) st) own) Stuck
p_string ration _ vs st own = Stuck

-- an object that stands before is the same in the joined list
got_before : (xs ys : List Object) (o : ℕ) (x : Object) → slice_get xs o ≡ Some x → slice_get (xs ++ ys) o ≡ Some x
got_before [] ys o x e = absurd (cc e)
got_before (y ∷ xs) ys zero x e = e
got_before (y ∷ xs) ys (suc o) x e = got_before xs ys o x e

-- the string of a pointer is that among more objects, or there is none
still : (xs ys : List Object) (v : Value) (P : List Cell → List Cell → Type 0) → ((cs : List Cell) → P cs cs) → ((cs : List Cell) → P [] cs) → P (string_at xs v) (string_at (xs ++ ys) v)
still xs ys (Point o k) P same none = by_object (slice_get xs o) refl
  where
    by_object : (x : Option Object) → slice_get xs o ≡ x → P (cells_from (live_cells x) k) (string_at (xs ++ ys) (Point o k))
    by_object None e = none _
    by_object (Some x) e = subst (λ z. P (cells_from (live_cells (Some x)) k) (cells_from (live_cells z) k)) (sym (got_before xs ys o x e)) (same _)
still xs ys (Letter f j text k) P same none = same _
still xs ys (Word n) P same none = same _
still xs ys Null P same none = same _
still xs ys (Function f) P same none = same _
still xs ys Missing P same none = same _

module _ (h : Helpers) (t : Text) (input : List ℕ) (some : 1 ≤ h.ration) (known : Known h) (own : HasString h t) where
  -- a call that is paid for
  paid_for : (deep : ℕ) (v : Value) (st : State) (c : ℕ) → st.spare ≡ suc c → st.left < suc deep → 1 ≤ c → st.words + 16 ≤ 1024 →
      SpellsBy (spare_behind h.ration st.left c (string_at st.objects v)) (put_string false (string_at st.objects v) (record st { spare = c })) (helper_calls (suc (suc deep)) h t input print_string.name (v ∷ []) st)
  unfolding helper_calls known_or paid spend_spare
  paid_for deep v st c e lt enough small =
      subst (λ z. SpellsBy (spare_behind h.ration st.left c (string_at st.objects v)) (put_string false (string_at st.objects v) (record st { spare = c })) (known_or z (v ∷ []) (paid true (helper_runs h t input (helper_calls (suc deep) h t input) (suc deep) print_string.name (function_named t print_string.name) (v ∷ []))) st)) (sym own.0.unknown)
      (subst (λ z. SpellsBy (spare_behind h.ration st.left c (string_at st.objects v)) (put_string false (string_at st.objects v) (record st { spare = c })) (spend_spare (helper_runs h t input (helper_calls (suc deep) h t input) (suc deep) print_string.name (function_named t print_string.name) (v ∷ [])) z st)) (sym e)
      (spells h t input some known own deep v (record st { spare = c }) lt enough small))

  -- the part over the objects before, and the call over all
  joins : (n spare : ℕ) (st : State) (objects : List Object) (r r' : Outcome (Unit {0})) (q : Outcome Value) → length st.objects ≡ n → (s : ℕ) → Elsewhere (st.objects ++ objects) s st r r' → SpellsBy spare r' q → Joins n itself (p_ended spare r objects) q
  joins n spare st objects (Gives u st1) r' q l s (e, k, m) w =
      let a : q ≡ Gives Missing (record st1 { objects = st.objects ++ objects; spare = spare }) = subst (λ z. SpellsBy spare z q) e w in
      (a ∙ ap (λ z. Gives Missing (record st1 { objects = z ++ objects; spare = spare })) (sym k), ap length k ∙ l)
  joins n spare st objects (Going st1) r' q l s (e, k, m) w =
      let a : q ≡ Going (record st1 { objects = st.objects ++ objects; spare = spare }) = subst (λ z. SpellsBy spare z q) e w in
      (a ∙ ap (λ z. Going (record st1 { objects = z ++ objects; spare = spare })) (sym k), ap length k ∙ l)
  joins n spare st objects (Ended st1) r' q l s e w = tt
  joins n spare st objects (Undefined act st1) r' q l s e w = tt

  spelt : (deep n : ℕ) (v : Value) (st : State) (objects : List Object) → length st.objects ≡ n → (b : Bool) → may_spell (suc deep) st ≡ b →
      Joins n itself (cond b (p_ended (spare_behind h.ration st.left (st.spare - 1) (string_at st.objects v)) (put_string false (string_at st.objects v) st) objects) Stuck) (helper_calls (suc (suc deep)) h t input print_string.name (v ∷ []) (joined st objects))
  unfolding may_spell put_string undefined
  spelt deep n v st objects l false e = tt
  spelt deep n v st objects l true e =
      let a = and_parts (nat_lt st.left (suc deep) && nat_le 2 st.spare) (nat_le (st.words + 16) 1024) e in
      let b = and_parts (nat_lt st.left (suc deep)) (nat_le 2 st.spare) a.0 in
      let more : 2 ≤ st.spare = leb-true 2 st.spare b.1 in
      still st.objects objects v
      (λ cs ds. SpellsBy (spare_behind h.ration st.left (st.spare - 1) ds) (put_string false ds (record (joined st objects) { spare = st.spare - 1 })) (helper_calls (suc (suc deep)) h t input print_string.name (v ∷ []) (joined st objects)) →
      Joins n itself (p_ended (spare_behind h.ration st.left (st.spare - 1) cs) (put_string false cs st) objects) (helper_calls (suc (suc deep)) h t input print_string.name (v ∷ []) (joined st objects)))
      (λ cs w. joins n (spare_behind h.ration st.left (st.spare - 1) cs) st objects (put_string false cs st) (put_string false cs (record (joined st objects) { spare = st.spare - 1 })) _ l (st.spare - 1) (string_elsewhere cs (st.objects ++ objects) (st.spare - 1) st.left st) w)
      (λ cs w. tt)
      (paid_for deep v (joined st objects) (st.spare - 1) (omega (arith, more)) (ltb-true st.left (suc deep) b.0) (omega (arith, more)) (leb-true (st.words + 16) 1024 a.1))

  pub string_splits : (deep n : ℕ) (vs : List Value) → Split n itself (p_string h.ration deep vs) (helper_calls deep h t input print_string.name vs)
  unfolding p_string
  string_splits (suc (suc deep)) n (v ∷ []) = record { follows = λ st objects l. spelt deep n v st objects l (may_spell (suc deep) st) refl }
  string_splits zero n vs = record { follows = λ st objects l. tt }
  string_splits (suc zero) n vs = record { follows = λ st objects l. tt }
  string_splits (suc (suc deep)) n [] = record { follows = λ st objects l. tt }
  string_splits (suc (suc deep)) n (v ∷ w ∷ vs) = record { follows = λ st objects l. tt }
