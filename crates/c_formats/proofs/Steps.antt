-- What each piece of a format's function does.
use Rattle.std.proofs.Common.{◌≡◌, ℕ, suc, ◌-◌, ◌%◌, ◌^◌, List, [], ◌∷◌, ◌++◌, Option, Some, true, false, nat_le, slice_get, refl, ap}
use Rattle.std.specs.Fmt.{signed_decimal}
use Rattle.word24.specs.Word.{signed_of}
use Rattle.c_syntax.specs.Plain.{CStmt, CStmts, MoreStmt}
use Rattle.c_syntax.specs.Words.{meaning}
use Rattle.c_types.specs.Types as type
use Rattle.c_types.specs.Types.{Tags}
use Rattle.c_types.specs.Scope as entity
use Rattle.c_types.specs.Scope.{Names}
use Rattle.c_eval.specs.State.{Value, Word, Point, Letter, Holds, Object, State, Gives, Going}
use Rattle.c_eval.specs.Run.{unless, give}
use Rattle.c_eval.specs.Memory.{live_object}
use Rattle.c_eval.specs.Operators.{used}
use Rattle.c_eval.specs.BuiltIns.{put_string}
use Rattle.c_eval.specs.Environment.{Environment, behind}
use Rattle.c_eval.specs.Eval.{Next}
use Rattle.c_helpers.specs.Terms.{number, variable}
use Rattle.c_helpers.specs.Functions.{spend_unit, refill, put_piece, call_of, print_unsigned, print_hex, print_signed, print_string}
use Rattle.c_apart.proofs.Apart.{Done, Paused, Part, p_after, p_bind, p_give, p_stuck, p_choose, p_run, p_unit, p_given, p_outer, p_named, p_read, p_load, p_own_value, p_variable, p_used, p_call, p_go_on, p_does, p_all}
use Rattle.c_products.specs.MovesFound.{KnowsOf}
use Rattle.c_formats.specs.Places.{digits_at, units_at, bytes}
use Rattle.c_formats.specs.DigitsLaws.{unsigned_parameter, int_parameter}
use Rattle.c_formats.proofs.Signed.{signed_spare}
use Rattle.c_formats.proofs.Written.{may_write, p_number}
use Rattle.c_formats.specs.StringsLaws.{string_parameter, KnowsUnit, KnowsPiece}
use Rattle.c_formats.proofs.Turn.{p_piece, p_known}
use Rattle.c_formats.proofs.Loop.{spare_behind}
use Rattle.c_formats.proofs.StringsCalls.{string_at}
use Rattle.c_formats.proofs.Puts.{may_spell, p_string}
use Rattle.c_formats.specs.Laws.{has_letter, KnowsRefill}
use Rattle.c_formats.proofs.Parts.{may_sign, p_signed, p_refill, p_formats}

-- where a statement pauses, the next ones wait
pub all_paused : (t : CStmt) (ts : CStmts) (deep : ℕ) (sub : List ℕ → List Value → Part Value) (here : Environment) (st st1 : State) (own own1 : List Object) → p_does t deep sub here st own ≡ Paused st1 own1 →
    p_all (MoreStmt t ts) deep sub here st own ≡ Paused st1 own1
unfolding p_bind p_after
all_paused t ts deep sub here st st1 own own1 e = ap (λ z. p_after z (λ flow. p_go_on flow (p_all ts deep sub (behind t here)))) e

-- an object that holds an argument
abbrev pub argument : Value → Object
argument v = live_object (Holds v ∷ [])

module _ (tags : Tags) (outer : Names) (defined : List (List ℕ)) (objects : List (List ℕ × Option ℕ)) (next deep ration : ℕ) (letters : List ℕ) (own : List Object) where
  -- behind so many literals of the function's block
  abbrev pub here : ℕ → Environment
  here l = record {
    scope = record { tags = tags; block = []; outer = outer; defined = defined };
    objects = objects;
    next = next;
    literals_before = l;
  }

  abbrev pub calls : List ℕ → List Value → Part Value
  calls = p_formats ration letters (suc (suc deep))

  pub unit_spent : KnowsUnit outer → (l n : ℕ) (st : State) → p_does spend_unit (suc (suc deep)) calls (here l) (record st { left = suc n }) own ≡ Done Next (record st { left = n }) own
  unfolding p_formats p_known p_after p_bind p_give p_stuck p_run p_unit p_call
  unit_spent unit l n st = rw unit.1 refl

  pub unit_wanted : KnowsUnit outer → (l : ℕ) (st : State) → p_does spend_unit (suc (suc deep)) calls (here l) (record st { left = 0 }) own ≡ Paused (record st { left = 0 }) own
  unfolding p_formats p_known p_after p_bind p_give p_stuck p_run p_unit p_call
  unit_wanted unit l st = rw unit.1 refl

  pub refilled : KnowsRefill outer → (l : ℕ) (st : State) → p_does refill (suc (suc deep)) calls (here l) st own ≡ Done Next (record st { spare = ration }) own
  unfolding p_formats p_refill p_after p_bind p_give p_call
  refilled known l st = rw known.1 refl

  pub character_put : KnowsPiece outer → (c l : ℕ) (st : State) → p_does (put_piece (number c)) (suc (suc deep)) calls (here l) st own ≡ Done Next (record st { spare = ration; output = st.output ++ c % 2 ^ 24 % 2 ^ 8 ∷ [] }) own
  unfolding p_formats p_known p_piece p_after p_bind p_give p_outer p_given p_used p_call used give unless
  character_put piece c l st = rw piece.1 refl

  module _ (name : List ℕ) (j l : ℕ) (st : State) (found : meaning objects name ≡ Some (Some j)) where
    pub argument_put : KnowsPiece outer → (x : ℕ) → meaning outer name ≡ Some (entity.Object type.Int) → slice_get own j ≡ Some (argument (Word x))
        → p_does (put_piece (variable name)) (suc (suc deep)) calls (here l) st own ≡ Done Next (record st { spare = ration; output = st.output ++ x % 2 ^ 8 ∷ [] }) own
    unfolding p_formats p_known p_piece p_after p_bind p_give p_stuck p_choose p_given p_outer p_named p_read p_load p_own_value p_variable p_used p_call used give unless
    argument_put piece x is cell = rw (piece.1, is, found, cell) refl

    pub int_put : KnowsOf outer type.Void int_parameter print_signed → (x : ℕ) → meaning outer name ≡ Some (entity.Object type.Int) → slice_get own j ≡ Some (argument (Word x)) → has_letter letters 100 ≡ true → may_sign (suc (suc deep)) st x ≡ true
        → p_does (call_of print_signed.name (variable name ∷ [])) (suc (suc deep)) calls (here l) st own ≡ Done Next (record st { spare = signed_spare (nat_le (2 ^ 23) x) x (st.spare - 1); output = st.output ++ bytes (signed_decimal (signed_of x)) }) own
    unfolding p_formats p_signed p_after p_bind p_give p_stuck p_choose p_given p_outer p_named p_read p_load p_own_value p_variable p_used p_call used give unless
    int_put known x is cell has may = rw (known.1, is, found, cell, has, may) refl

    pub unsigned_put : KnowsOf outer type.Void unsigned_parameter print_unsigned → (x : ℕ) → meaning outer name ≡ Some (entity.Object type.Unsigned) → slice_get own j ≡ Some (argument (Word x)) → has_letter letters 117 ≡ true
        → may_write (suc (suc deep)) st (units_at 10 7 x x) x ≡ true
        → p_does (call_of print_unsigned.name (variable name ∷ [])) (suc (suc deep)) calls (here l) st own ≡ Done Next (record st { spare = st.spare - suc (units_at 10 7 x x); output = st.output ++ bytes (digits_at 10 7 x x) }) own
    unfolding p_formats p_number p_after p_bind p_give p_stuck p_choose p_given p_outer p_named p_read p_load p_own_value p_variable p_used p_call used give unless
    unsigned_put known x is cell has may = rw (known.1, is, found, cell, has, may) refl

    pub hex_put : KnowsOf outer type.Void unsigned_parameter print_hex → (x : ℕ) → meaning outer name ≡ Some (entity.Object type.Unsigned) → slice_get own j ≡ Some (argument (Word x)) → has_letter letters 120 ≡ true
        → may_write (suc (suc deep)) st (units_at 16 5 x x) x ≡ true
        → p_does (call_of print_hex.name (variable name ∷ [])) (suc (suc deep)) calls (here l) st own ≡ Done Next (record st { spare = st.spare - suc (units_at 16 5 x x); output = st.output ++ bytes (digits_at 16 5 x x) }) own
    unfolding p_formats p_number p_after p_bind p_give p_stuck p_choose p_given p_outer p_named p_read p_load p_own_value p_variable p_used p_call used give unless
    hex_put known x is cell has may = rw (known.1, is, found, cell, has, may) refl

    module _ (known : KnowsOf outer type.Void string_parameter print_string) (is : meaning outer name ≡ Some (entity.Object (type.Pointer type.Char))) (has : has_letter letters 115 ≡ true) (may : may_spell (suc deep) st ≡ true) where
      pub point_put : (o k : ℕ) (u : Unit {0}) (st1 : State) → slice_get own j ≡ Some (argument (Point o k)) → put_string false (string_at st.objects (Point o k)) st ≡ Gives u st1
          → p_does (call_of print_string.name (variable name ∷ [])) (suc (suc deep)) calls (here l) st own ≡ Done Next (record st1 { spare = spare_behind ration st.left (st.spare - 1) (string_at st.objects (Point o k)) }) own
      unfolding p_formats p_string p_after p_bind p_give p_stuck p_choose p_given p_outer p_named p_read p_load p_own_value p_variable p_used p_call used give unless
      point_put o k u st1 cell e = rw (known.1, is, found, cell, has, may, e) refl

      pub point_paused : (o k : ℕ) (st1 : State) → slice_get own j ≡ Some (argument (Point o k)) → put_string false (string_at st.objects (Point o k)) st ≡ Going st1
          → p_does (call_of print_string.name (variable name ∷ [])) (suc (suc deep)) calls (here l) st own ≡ Paused (record st1 { spare = spare_behind ration st.left (st.spare - 1) (string_at st.objects (Point o k)) }) own
      unfolding p_formats p_string p_after p_bind p_give p_stuck p_choose p_given p_outer p_named p_read p_load p_own_value p_variable p_used p_call used give unless
      point_paused o k st1 cell e = rw (known.1, is, found, cell, has, may, e) refl

      pub letter_put : (f : Option (List ℕ)) (i : ℕ) (text : List ℕ) (k : ℕ) (u : Unit {0}) (st1 : State) → slice_get own j ≡ Some (argument (Letter f i text k)) → put_string false (string_at st.objects (Letter f i text k)) st ≡ Gives u st1
          → p_does (call_of print_string.name (variable name ∷ [])) (suc (suc deep)) calls (here l) st own ≡ Done Next (record st1 { spare = spare_behind ration st.left (st.spare - 1) (string_at st.objects (Letter f i text k)) }) own
      unfolding p_formats p_string p_after p_bind p_give p_stuck p_choose p_given p_outer p_named p_read p_load p_own_value p_variable p_used p_call used give unless
      letter_put f i text k u st1 cell e = rw (known.1, is, found, cell, has, may, e) refl

      pub letter_paused : (f : Option (List ℕ)) (i : ℕ) (text : List ℕ) (k : ℕ) (st1 : State) → slice_get own j ≡ Some (argument (Letter f i text k)) → put_string false (string_at st.objects (Letter f i text k)) st ≡ Going st1
          → p_does (call_of print_string.name (variable name ∷ [])) (suc (suc deep)) calls (here l) st own ≡ Paused (record st1 { spare = spare_behind ration st.left (st.spare - 1) (string_at st.objects (Letter f i text k)) }) own
      unfolding p_formats p_string p_after p_bind p_give p_stuck p_choose p_given p_outer p_named p_read p_load p_own_value p_variable p_used p_call used give unless
      letter_paused f i text k st1 cell e = rw (known.1, is, found, cell, has, may, e) refl
