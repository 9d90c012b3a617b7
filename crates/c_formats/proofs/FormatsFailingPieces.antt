-- The pieces of a format's function are undefined where the format is.
use Rattle.std.proofs.Common.{◌≡◌, ℕ, zero, suc, ◌+◌, ◌-◌, ◌*◌, ◌%◌, ◌^◌, ◌<◌, ◌≤◌, List, [], ◌∷◌, ◌++◌, length, map, drop, Option, Some, None, Bool, true, false, nat_le, slice_get, refl, sym, ap, ap₂, ◌∙◌, subst, arith, append-nil}
use Rattle.std.specs.Prelude.{◌&&◌, ◌==◌, if◌then◌else◌, codes}
use Rattle.std.specs.List.{list_any}
use Rattle.std.specs.Option.{option_map}
use Rattle.std.specs.Str.{bytes_eq}
use Rattle.std.specs.Fmt.{digits, signed_decimal}
use Rattle.std.proofs.lemmas.Bool.{lt-ltb, le-leb}
use Rattle.word24.specs.Word.{signed_of}
use Rattle.c_syntax.specs.Plain.{CStmt, CStmts, Int, MoreStmt, stmts}
use Rattle.c_syntax.specs.Words.{meaning}
use Rattle.c_types.specs.Types as type
use Rattle.c_types.specs.Types.{CType}
use Rattle.c_types.specs.Scope as entity
use Rattle.c_types.specs.Scope.{Names}
use Rattle.c_types.specs.Operands.{conversions_behind}
use Rattle.c_eval.specs.State.{Value, Word, Null, Point, Letter, Function, Missing, Cell, Unset, Holds, Object, State, Outcome, Gives, Ended, Going, Undefined, Run}
use Rattle.c_eval.specs.Run.{◌>>=◌, after, give, undefined, paid, spend, put, put_all, objects_now}
use Rattle.c_eval.specs.Memory.{Number, ObjectPointer, is_of, live_object}
use Rattle.c_eval.specs.Operators.{of_word}
use Rattle.c_eval.specs.BuiltIns.{put_string, put_string_at, convert, with_argument, put_format}
use Rattle.c_eval.specs.Environment.{Environment, behind}
use Rattle.c_eval.specs.Eval.{World, Flow, Next, does, all_do}
use Rattle.c_eval.specs.Meaning.{argument_objects, argument_names}
use Rattle.c_eval.specs.Text.{Text, function_named}
use Rattle.c_eval.specs.Helpers as helpers
use Rattle.c_eval.specs.Helpers.{Helpers, helper_runs, known_or, helper_calls}
use Rattle.c_helpers.specs.Terms.{number, variable, declaration}
use Rattle.c_helpers.specs.Fewer.{told}
use Rattle.c_helpers.specs.Functions.{Helper, a, unit_name, refill_name, piece_name, refill, put_piece, call_of, argument_name, conversion, pieces, format_name, print_unsigned, print_hex, print_signed, print_string}
use Rattle.c_helpers.specs.Meanings.{of_one, piece_put}
use Rattle.c_apart.proofs.Apart.{Done, p_choose}
use Rattle.c_apart.proofs.Splitting.{Joins, joined, itself}
use Rattle.c_products.specs.MovesFound.{Parameter, KnowsOf, declared_in}
use Rattle.c_formats.specs.Places.{bytes, units_at, digits_at}
use Rattle.c_formats.specs.DigitsLaws.{int_parameter, unsigned_parameter}
use Rattle.c_formats.proofs.Numbers.{digits_are}
use Rattle.c_formats.proofs.Signed.{signed_spare}
use Rattle.c_formats.proofs.Written.{may_write, p_number, units_bound}
use Rattle.c_formats.specs.StringsLaws.{string_parameter, Known, KnowsUnit, KnowsPiece}
use Rattle.c_formats.proofs.Loop.{spare_behind}
use Rattle.c_formats.proofs.StringsCalls.{string_at}
use Rattle.c_formats.proofs.Puts.{may_spell, p_string}
use Rattle.c_formats.specs.Laws.{argument_type, format_parameters, has_letter, KnowsRefill, HasFormat}
use Rattle.c_formats.proofs.Named.{no_argument, behind_parameters, parameter_found, names_from, object_found, cell_found, next_dropped, letter_in}
use Rattle.c_formats.proofs.Parts.{may_sign, p_signed, p_formats, formats_splits}
use Rattle.c_failing.specs.Failing.{Fails, FailsAs, IsArgument, AreArguments}
use Rattle.c_failing.proofs.Lists.{got_behind}
use Rattle.c_failing.proofs.Parts.{fails_after, do_next, do_fails}
use Rattle.c_formats.proofs.FormatsFailingTurn.{IsPointer, pointing}
use Rattle.c_formats.proofs.FormatsFailingFunction.{point_is, letter_is, null_is}
use Rattle.c_formats.proofs.FormatsFailingCalls.{string_among, call_fails}
use Rattle.c_formats.proofs.Names.{object_missing, argument_in, put_all_is, by_letter}
use Rattle.c_formats.proofs.FormatsFailingSteps.{world, place, refill_goes, character_goes, int_passes, unsigned_passes, pointer_passes, int_stops, unsigned_stops, pointer_stops, int_lacks, unsigned_lacks, pointer_lacks}

-- a string is written alike with another second fuel, other words and other objects; it keeps its own objects, and uses no more than the units that there are
abbrev Kept : (spare words n : ℕ) → List Object → State → Outcome (Unit {0}) → Outcome (Unit {0}) → Type 0
Kept spare words n os base (Gives u st) r = (r ≡ Gives u (record st { spare = spare; words = words; objects = os })) × (st.objects ≡ base.objects) × (st.left ≤ n)
Kept spare words n os base (Ended st) r = Unit {0}
Kept spare words n os base (Going st) r = Unit {0}
Kept spare words n os base (Undefined act st) r = Unit {0}

string_kept : (cs : List Cell) (spare words n left : ℕ) (os : List Object) (st : State) → left ≤ n → Kept spare words n os st (put_string false cs (record st { left = left })) (put_string false cs (record st { left = left; spare = spare; words = words; objects = os }))
unfolding put_string give undefined paid spend put ◌>>=◌ after
string_kept [] spare words n left os st le = tt
string_kept (Unset ∷ cs) spare words n left os st le = tt
string_kept (Holds Null ∷ cs) spare words n left os st le = tt
string_kept (Holds (Point o i) ∷ cs) spare words n left os st le = tt
string_kept (Holds (Letter f j text i) ∷ cs) spare words n left os st le = tt
string_kept (Holds (Function f) ∷ cs) spare words n left os st le = tt
string_kept (Holds Missing ∷ cs) spare words n left os st le = tt
string_kept (Holds (Word zero) ∷ cs) spare words n left os st le = (refl, refl, le)
string_kept (Holds (Word (suc c)) ∷ cs) spare words n zero os st le = tt
string_kept (Holds (Word (suc c)) ∷ cs) spare words n (suc left) os st le = string_kept cs spare words n left os (record st { output = st.output ++ suc c % 2 ^ 8 ∷ [] }) (omega (arith, le))

-- behind a call that gives a value
called_next : (r : Outcome Value) (q : Outcome Flow) (v : Value) (st : State) → q ≡ after r (λ _. give Next) → r ≡ Gives v st → q ≡ Gives Next st
unfolding after give
called_next r q v st e f = e ∙ ap (λ z. after z (λ _. give Next)) f

module _ (h : Helpers) (t : Text) (input : List ℕ) (enough : 2 ^ 9 ≤ h.ration) (known : Known h) (format letters : List ℕ) (few : length letters < 2 ^ 24) (own : HasFormat h t format letters) (vs : List Value) (os : List Object) (are : AreArguments os vs) (deep : ℕ) where
  abbrev pub outer : Names
  outer = declared_in (format_parameters letters) [] ++ own.own.names

  abbrev pub objects : List (List ℕ × Option ℕ)
  objects = argument_names (names_from 0 letters) vs (length os) ++ []

  abbrev pub arguments : List Object
  arguments = map live_object (argument_objects (names_from 0 letters) vs)

  abbrev pub calls : List ℕ → List Value → Run Value
  calls = helper_calls (suc (suc deep)) h t input

  abbrev pub in_format : World
  in_format = world own.own.tags outer own.own.defined objects (length (os ++ arguments)) input (Some (format_name format)) calls (suc (suc deep))

  abbrev pub at : ℕ → Environment
  at l = place own.own.tags outer own.own.defined objects (length (os ++ arguments)) input (Some (format_name format)) calls (suc (suc deep)) l

  some : 1 ≤ h.ration
  some = omega (arith, enough)

  -- ---- what is known

  knows : (result : CType) (params : List Parameter) (helper : Helper) (c : ℕ) (cs : List ℕ) → helper.name ≡ c ∷ cs → ((48 ≤ c) × (c ≤ 57) → ⊥) → KnowsOf own.own.names result params helper → KnowsOf outer result params helper
  knows result params helper c cs e apart k =
      (k.0, behind_parameters own.own.names helper.name 0 letters [] (λ j le lt. subst (λ z. bytes_eq z (argument_name j) ≡ false) (sym e) (no_argument c cs j (omega (arith, few, lt)) apart)) ∙ k.1)

  pub unit_known : KnowsUnit outer
  unit_known = knows type.Void [] (told unit_name []) 117 (codes "nit of fuel") refl (λ z. omega (arith, z.0, z.1)) own.unit

  refill_known : KnowsRefill outer
  refill_known = knows type.Void [] (told refill_name []) 115 (codes "econd fuel") refl (λ z. omega (arith, z.0, z.1)) own.refill

  piece_known : KnowsPiece outer
  piece_known = knows type.Void ((a, type.Int) ∷ []) (told piece_name (declaration Int a ∷ [])) 112 (codes "iece of text") refl (λ z. omega (arith, z.0, z.1)) own.piece

  pub unit_is : calls unit_name [] ≡ paid false (give Missing)
  unfolding helper_calls known_or
  unit_is = ap (λ z. known_or z [] (paid true (helper_runs h t input (helper_calls (suc deep) h t input) (suc deep) unit_name (function_named t unit_name) []))) (known unit_name)

  refill_is : calls refill_name [] ≡ (helpers.refill h.ration >>= λ _. give Missing)
  unfolding helper_calls known_or
  refill_is = ap (λ z. known_or z [] (paid true (helper_runs h t input (helper_calls (suc deep) h t input) (suc deep) refill_name (function_named t refill_name) []))) (known refill_name)

  piece_is : (c : ℕ) → calls piece_name (Word c ∷ []) ≡ piece_put h.ration (Word c)
  unfolding helper_calls known_or of_one
  piece_is c = ap (λ z. known_or z (Word c ∷ []) (paid true (helper_runs h t input (helper_calls (suc deep) h t input) (suc deep) piece_name (function_named t piece_name) (Word c ∷ [])))) (known piece_name)

  -- a call gives what its part apart gives
  call_gives : (name : List ℕ) (us : List Value) (st st1 : State) → p_formats h.ration letters (suc (suc deep)) name us st [] ≡ Done Missing st1 [] → calls name us st ≡ Gives Missing st1
  call_gives name us st st1 e =
      let j = (formats_splits h t input some known format letters own (suc (suc deep)) (length st.objects) name us).follows st [] refl in
      let k = subst (λ z. Joins (length st.objects) itself z (calls name us (joined st []))) e j in
      (λ i. calls name us (record st { objects = sym (append-nil st.objects) i })) ∙ (k.0 ∙ λ i. Gives Missing (record st1 { objects = append-nil st1.objects i }))

  module _ (n0 w : ℕ) (small : w ≤ 16) (lower : n0 < suc deep) (deeper : 256 < deep) where
    -- the pieces from a moment on
    abbrev pub part : CStmts → ℕ → State → Outcome Flow
    part ts l st = all_do ts (suc (suc deep)) in_format (at l) st

    -- the moment in a use
    abbrev pub in_use : ℕ → State → State
    in_use spare st = record st { spare = spare; words = w; objects = os ++ arguments }

    abbrev pub Runs : Bool → List ℕ → ℕ → List Value → Type 0
    Runs percent rest i us = (l spare : ℕ) (st : State) → st.objects ≡ os → st.left ≤ n0 → FailsAs (put_format false percent rest us st) (part (stmts (pieces percent rest i)) l (in_use spare st))

    abbrev pub past_it : CStmt → ℕ → ℕ
    past_it s l = (behind s (at l)).literals_before

    pub next_piece : (s : CStmt) (ts : CStmts) (l : ℕ) (st st1 : State) → does s (suc (suc deep)) in_format (at l) st ≡ Gives Next st1 → part (MoreStmt s ts) l st ≡ all_do ts (suc (suc deep)) in_format (behind s (at l)) st1
    next_piece s ts l st st1 e = do_next s ts (suc (suc deep)) in_format (at l) st st1 e

    piece_fails : (taken : ℕ) (output : List ℕ) (s : CStmt) (ts : CStmts) (l : ℕ) (st : State) → Fails taken output (does s (suc (suc deep)) in_format (at l) st) → Fails taken output (part (MoreStmt s ts) l st)
    piece_fails taken output s ts l st e = do_fails taken output s ts (suc (suc deep)) in_format (at l) st e

    refilled : (l spare : ℕ) (st : State) → does refill (suc (suc deep)) in_format (at l) (in_use spare st) ≡ Gives Next (in_use h.ration st)
    refilled l spare st = refill_goes own.own.tags outer own.own.defined objects (length (os ++ arguments)) input (Some (format_name format)) calls (suc (suc deep)) refill_known h.ration refill_is l (in_use spare st)

    -- a character of the format itself
    plain : (c i l spare : ℕ) (rest : List ℕ) (us : List Value) (st : State) → st.objects ≡ os → st.left ≤ n0 → Runs false rest i us → FailsAs ((put c >>= λ _. put_format false false rest us) st) (part (MoreStmt (put_piece (number c)) (stmts (pieces false rest i))) l (in_use spare st))
    unfolding put ◌>>=◌ after
    plain c i l spare rest us st e le more =
        subst (λ z. FailsAs (put_format false false rest us (record st { output = st.output ++ c % 2 ^ 8 ∷ [] })) z)
        (sym (next_piece (put_piece (number c)) (stmts (pieces false rest i)) l (in_use spare st) _ (character_goes own.own.tags outer own.own.defined objects (length (os ++ arguments)) input (Some (format_name format)) calls (suc (suc deep)) piece_known h.ration piece_is c l (in_use spare st))
        ∙ ap (λ z. part (stmts (pieces false rest i)) (past_it (put_piece (number c)) l) (in_use h.ration (record st { output = st.output ++ z ∷ [] }))) whole))
        (more (past_it (put_piece (number c)) l) h.ration (record st { output = st.output ++ c % 2 ^ 8 ∷ [] }) e le)
      where
        whole : c % 2 ^ 24 % 2 ^ 8 ≡ c % 2 ^ 8
        whole = omega arith

    -- ---- conversions

    module _ (i l spare : ℕ) (rest : List ℕ) (st : State) (same : st.objects ≡ os) (le : st.left ≤ n0) (more : Runs false rest (suc i) (drop (suc i) vs)) (ls : List ℕ) where
      abbrev there : ℕ → Outcome Flow
      there c = part (stmts (conversion c i ++ pieces false rest (suc i))) l (in_use spare st)

      abbrev name : List ℕ
      name = argument_name i

      abbrev more_pieces : CStmts
      more_pieces = stmts (pieces false rest (suc i))

      typed : (c : ℕ) → drop i letters ≡ c ∷ ls → meaning outer name ≡ Some (entity.Object (argument_type c))
      typed c e = ap (λ z. meaning outer (argument_name z)) (omega arith) ∙ parameter_found own.own.names 0 i letters [] c ls (omega (arith, few)) e

      -- behind the second fuel that begins anew
      abbrev anew : ℕ
      anew = past_it refill l

      abbrev passing : Helper → CStmt
      passing g = call_of g.name (variable name ∷ [])

      two_pieces : (g : Helper) (st1 : State) → does (passing g) (suc (suc deep)) in_format (at anew) (in_use h.ration st) ≡ Gives Next st1 → part (MoreStmt refill (MoreStmt (passing g) more_pieces)) l (in_use spare st) ≡ part more_pieces (past_it (passing g) anew) st1
      two_pieces g st1 e = next_piece refill (MoreStmt (passing g) more_pieces) l (in_use spare st) (in_use h.ration st) (refilled l spare st) ∙ next_piece (passing g) more_pieces anew (in_use h.ration st) st1 e

      second_fails : (taken : ℕ) (output : List ℕ) (g : Helper) → Fails taken output (does (passing g) (suc (suc deep)) in_format (at anew) (in_use h.ration st)) → Fails taken output (part (MoreStmt refill (MoreStmt (passing g) more_pieces)) l (in_use spare st))
      second_fails taken output g e =
          subst (λ z. Fails taken output z) (sym (next_piece refill (MoreStmt (passing g) more_pieces) l (in_use spare st) (in_use h.ration st) (refilled l spare st))) (piece_fails taken output (passing g) more_pieces anew (in_use h.ration st) e)

      -- ---- arguments that a conversion can write

      abbrev ran : ℕ → Value → List Value → Outcome (Unit {0})
      ran c v us = (convert false c v >>= λ _. put_format false false rest us) st

      abbrev Converts : ℕ → Type 0
      Converts c = (v : Value) (us : List Value) → drop i letters ≡ c ∷ ls → drop i vs ≡ v ∷ us → FailsAs (ran c v us) (there c)

      found : (c : ℕ) (v : Value) (us : List Value) → drop i letters ≡ c ∷ ls → drop i vs ≡ v ∷ us → meaning objects name ≡ Some (Some (length os + i))
      found c v us e f = ap (λ z. meaning objects (argument_name z)) (omega arith) ∙ object_found 0 i (length os) letters vs c ls v us (omega (arith, few)) e f

      cell : (c : ℕ) (v : Value) (us : List Value) → drop i letters ≡ c ∷ ls → drop i vs ≡ v ∷ us → slice_get (os ++ arguments) (length os + i) ≡ Some (pointing v)
      cell c v us e f = got_behind os arguments i ∙ cell_found 0 i letters vs c ls v us e f

      -- the format goes on behind what was written
      goes_on : (v : Value) (us : List Value) (st1 : State) (k s : ℕ) (q : Outcome Flow) → drop i vs ≡ v ∷ us → st1.objects ≡ os → st1.left ≤ n0 → q ≡ part more_pieces k (in_use s st1) → FailsAs (put_format false false rest us st1) q
      goes_on v us st1 k s q f still fewer e =
          subst (λ z. FailsAs (put_format false false rest us st1) z) (sym e) (subst (λ z. FailsAs (put_format false false rest z st1) (part more_pieces k (in_use s st1))) (next_dropped i vs v us f) (more k s st1 still fewer))

      -- so it does behind a text
      wrote : (v : Value) (us : List Value) (cs : List ℕ) (k s : ℕ) (q : Outcome Flow) → drop i vs ≡ v ∷ us → q ≡ part more_pieces k (in_use s (record st { output = st.output ++ bytes cs })) → FailsAs (after (put_all cs st) (λ _. put_format false false rest us)) q
      unfolding after
      wrote v us cs k s q f e = subst (λ z. FailsAs (after z (λ _. put_format false false rest us)) q) (sym (put_all_is cs st)) (goes_on v us (record st { output = st.output ++ bytes cs }) k s q f same le e)

      may_signed : (x : ℕ) → x < 2 ^ 24 → may_sign (suc (suc deep)) (in_use h.ration st) x ≡ true
      unfolding may_sign
      may_signed x lt = ap₂ (λ p q. p && q) (ap₂ (λ p q. p && q) (ap₂ (λ p q. p && q) (lt-ltb x (2 ^ 24) lt) (lt-ltb 256 (suc (suc deep)) (omega (arith, deeper)))) (le-leb 256 h.ration (omega (arith, enough)))) (le-leb (w + 64) 1024 (omega (arith, small)))

      may_unsigned : (units x : ℕ) → x < 2 ^ 24 → units ≤ 8 * 17 → may_write (suc (suc deep)) (in_use h.ration st) units x ≡ true
      unfolding may_write
      may_unsigned units x lt fewer = ap₂ (λ p q. p && q) (ap₂ (λ p q. p && q) (ap₂ (λ p q. p && q) (lt-ltb x (2 ^ 24) lt) (lt-ltb 18 (suc (suc deep)) (omega (arith, deeper)))) (le-leb (suc units) h.ration (omega (arith, fewer, enough)))) (le-leb (w + 32) 1024 (omega (arith, small)))

      may_string : may_spell (suc deep) (in_use h.ration st) ≡ true
      unfolding may_spell
      may_string = ap₂ (λ p q. p && q) (ap₂ (λ p q. p && q) (lt-ltb st.left (suc deep) (omega (arith, le, lower))) (le-leb 2 h.ration (omega (arith, enough)))) (le-leb (w + 16) 1024 (omega (arith, small)))

      signed_call : (x : ℕ) → x < 2 ^ 24 → has_letter letters 100 ≡ true → calls print_signed.name (Word x ∷ []) (in_use h.ration st) ≡ Gives Missing (in_use (signed_spare (nat_le (2 ^ 23) x) x (h.ration - 1)) (record st { output = st.output ++ bytes (signed_decimal (signed_of x)) }))
      unfolding p_formats p_signed p_choose
      signed_call x lt has = call_gives print_signed.name (Word x ∷ []) (in_use h.ration st) _ (rw (has, may_signed x lt) refl)

      unsigned_call : (x : ℕ) → x < 2 ^ 24 → has_letter letters 117 ≡ true → calls print_unsigned.name (Word x ∷ []) (in_use h.ration st) ≡ Gives Missing (in_use (h.ration - suc (units_at 10 7 x x)) (record st { output = st.output ++ bytes (digits 10 false x) }))
      unfolding p_formats p_number p_choose
      unsigned_call x lt has =
          let u = own.unsigned has in
          let units : units_at 10 7 x x ≤ 8 * 17 = units_bound h t input u.0 print_unsigned.name 10 7 print_unsigned.kinds (omega arith) (omega arith) (omega arith) (omega arith) u.1.0 u.1.1 x lt in
          call_gives print_unsigned.name (Word x ∷ []) (in_use h.ration st) (in_use (h.ration - suc (units_at 10 7 x x)) (record st { output = st.output ++ bytes (digits_at 10 7 x x) })) (rw (has, may_unsigned (units_at 10 7 x x) x lt units) refl)
          ∙ ap (λ z. Gives Missing (in_use (h.ration - suc (units_at 10 7 x x)) (record st { output = st.output ++ bytes z }))) (sym (digits_are 10 7 x (omega arith) (omega arith) (omega (arith, lt))))

      hex_call : (x : ℕ) → x < 2 ^ 24 → has_letter letters 120 ≡ true → calls print_hex.name (Word x ∷ []) (in_use h.ration st) ≡ Gives Missing (in_use (h.ration - suc (units_at 16 5 x x)) (record st { output = st.output ++ bytes (digits 16 false x) }))
      unfolding p_formats p_number p_choose
      hex_call x lt has =
          let u = own.hex has in
          let units : units_at 16 5 x x ≤ 6 * 17 = units_bound h t input u.0 print_hex.name 16 5 print_hex.kinds (omega arith) (omega arith) (omega arith) (omega arith) u.1.0 u.1.1 x lt in
          call_gives print_hex.name (Word x ∷ []) (in_use h.ration st) (in_use (h.ration - suc (units_at 16 5 x x)) (record st { output = st.output ++ bytes (digits_at 16 5 x x) })) (rw (has, may_unsigned (units_at 16 5 x x) x lt (omega (arith, units))) refl)
          ∙ ap (λ z. Gives Missing (in_use (h.ration - suc (units_at 16 5 x x)) (record st { output = st.output ++ bytes z }))) (sym (digits_are 16 5 x (omega arith) (omega arith) (omega (arith, lt))))

      string_call : (v : Value) (u : Unit {0}) (st1 : State) → has_letter letters 115 ≡ true → put_string false (string_at (os ++ arguments) v) (in_use h.ration st) ≡ Gives u (in_use h.ration st1)
          → calls print_string.name (v ∷ []) (in_use h.ration st) ≡ Gives Missing (in_use (spare_behind h.ration st.left (h.ration - 1) (string_at (os ++ arguments) v)) st1)
      unfolding p_formats p_string p_choose
      string_call v u st1 has e = call_gives print_string.name (v ∷ []) (in_use h.ration st) _ (rw (has, may_string, e) refl)

      int_stop : (g : Helper) (v : Value) (us : List Value) (c l s : ℕ) → argument_type c ≡ type.Int → drop i letters ≡ c ∷ ls → drop i vs ≡ v ∷ us → KnowsOf outer type.Void int_parameter g → is_of Number v ≡ false → Fails st.taken st.output (does (passing g) (suc (suc deep)) in_format (at l) (in_use s st))
      int_stop g v us c l s is e f k kind =
          int_stops own.own.tags outer own.own.defined objects (length (os ++ arguments)) input (Some (format_name format)) calls (suc (suc deep)) g name l (in_use s st) (length os + i) v (found c v us e f) (cell c v us e f) k (typed c e ∙ ap (λ z. Some (entity.Object z)) is) kind

      unsigned_stop : (g : Helper) (v : Value) (us : List Value) (c l s : ℕ) → argument_type c ≡ type.Unsigned → drop i letters ≡ c ∷ ls → drop i vs ≡ v ∷ us → KnowsOf outer type.Void unsigned_parameter g → is_of Number v ≡ false → Fails st.taken st.output (does (passing g) (suc (suc deep)) in_format (at l) (in_use s st))
      unsigned_stop g v us c l s is e f k kind =
          unsigned_stops own.own.tags outer own.own.defined objects (length (os ++ arguments)) input (Some (format_name format)) calls (suc (suc deep)) g name l (in_use s st) (length os + i) v (found c v us e f) (cell c v us e f) k (typed c e ∙ ap (λ z. Some (entity.Object z)) is) kind

      -- ---- `%c`

      abbrev piece : Helper
      piece = told piece_name (declaration Int a ∷ [])

      character_stops : (v : Value) (us : List Value) → drop i letters ≡ 99 ∷ ls → drop i vs ≡ v ∷ us → is_of Number v ≡ false → Fails st.taken st.output (there 99)
      character_stops v us e f kind = piece_fails st.taken st.output (passing piece) more_pieces l (in_use spare st) (int_stop piece v us 99 l spare refl e f piece_known kind)

      character : Converts 99
      unfolding convert of_word undefined put ◌>>=◌ after give piece_put helpers.refill
      character (Word x) us e f =
          goes_on (Word x) us (record st { output = st.output ++ x % 2 ^ 8 ∷ [] }) (past_it (passing piece) l) h.ration (there 99) f same le
          (next_piece (passing piece) more_pieces l (in_use spare st) _
          (called_next _ _ Missing _ (int_passes own.own.tags outer own.own.defined objects (length (os ++ arguments)) input (Some (format_name format)) calls (suc (suc deep)) piece name l (in_use spare st) (length os + i) (Word x) (found 99 (Word x) us e f) (cell 99 (Word x) us e f) piece_known (typed 99 e) x refl) (λ j. piece_is x j (in_use spare st))))
      character Null us e f = character_stops Null us e f refl
      character (Point o k) us e f = character_stops (Point o k) us e f refl
      character (Letter g j text k) us e f = character_stops (Letter g j text k) us e f refl
      character (Function g) us e f = character_stops (Function g) us e f refl
      character Missing us e f = character_stops Missing us e f refl

      -- ---- `%d`

      signed_known : (c : ℕ) → c ≡ 100 → drop i letters ≡ c ∷ ls → KnowsOf outer type.Void int_parameter print_signed
      signed_known c is e = knows type.Void int_parameter print_signed 37 (100 ∷ []) refl (λ z. omega (arith, z.0, z.1)) (own.signed (letter_in i letters 100 ls (subst (λ z. drop i letters ≡ z ∷ ls) is e))).3

      signed_stops : (v : Value) (us : List Value) → drop i letters ≡ 100 ∷ ls → drop i vs ≡ v ∷ us → is_of Number v ≡ false → Fails st.taken st.output (there 100)
      signed_stops v us e f kind = second_fails st.taken st.output print_signed (int_stop print_signed v us 100 anew h.ration refl e f (signed_known 100 refl e) kind)

      signed : Converts 100
      unfolding convert of_word undefined ◌>>=◌ after
      signed (Word x) us e f =
          wrote (Word x) us (signed_decimal (signed_of x)) (past_it (passing print_signed) anew) (signed_spare (nat_le (2 ^ 23) x) x (h.ration - 1)) (there 100) f
          (two_pieces print_signed _ (called_next _ _ Missing _ (int_passes own.own.tags outer own.own.defined objects (length (os ++ arguments)) input (Some (format_name format)) calls (suc (suc deep)) print_signed name anew (in_use h.ration st) (length os + i) (Word x) (found 100 (Word x) us e f) (cell 100 (Word x) us e f) (signed_known 100 refl e) (typed 100 e) x refl)
          (signed_call x (argument_in os i vs (Word x) us are f) (letter_in i letters 100 ls e))))
      signed Null us e f = signed_stops Null us e f refl
      signed (Point o k) us e f = signed_stops (Point o k) us e f refl
      signed (Letter g j text k) us e f = signed_stops (Letter g j text k) us e f refl
      signed (Function g) us e f = signed_stops (Function g) us e f refl
      signed Missing us e f = signed_stops Missing us e f refl

      -- ---- `%u`

      unsigned_known : drop i letters ≡ 117 ∷ ls → KnowsOf outer type.Void unsigned_parameter print_unsigned
      unsigned_known e = knows type.Void unsigned_parameter print_unsigned 37 (117 ∷ []) refl (λ z. omega (arith, z.0, z.1)) (own.unsigned (letter_in i letters 117 ls e)).2

      unsigned_fails : (v : Value) (us : List Value) → drop i letters ≡ 117 ∷ ls → drop i vs ≡ v ∷ us → is_of Number v ≡ false → Fails st.taken st.output (there 117)
      unsigned_fails v us e f kind = second_fails st.taken st.output print_unsigned (unsigned_stop print_unsigned v us 117 anew h.ration refl e f (unsigned_known e) kind)

      unsigned : Converts 117
      unfolding convert of_word undefined ◌>>=◌ after
      unsigned (Word x) us e f =
          wrote (Word x) us (digits 10 false x) (past_it (passing print_unsigned) anew) (h.ration - suc (units_at 10 7 x x)) (there 117) f
          (two_pieces print_unsigned _ (called_next _ _ Missing _ (unsigned_passes own.own.tags outer own.own.defined objects (length (os ++ arguments)) input (Some (format_name format)) calls (suc (suc deep)) print_unsigned name anew (in_use h.ration st) (length os + i) (Word x) (found 117 (Word x) us e f) (cell 117 (Word x) us e f) (unsigned_known e) (typed 117 e) x refl)
          (unsigned_call x (argument_in os i vs (Word x) us are f) (letter_in i letters 117 ls e))))
      unsigned Null us e f = unsigned_fails Null us e f refl
      unsigned (Point o k) us e f = unsigned_fails (Point o k) us e f refl
      unsigned (Letter g j text k) us e f = unsigned_fails (Letter g j text k) us e f refl
      unsigned (Function g) us e f = unsigned_fails (Function g) us e f refl
      unsigned Missing us e f = unsigned_fails Missing us e f refl

      -- ---- `%x`

      hex_known : drop i letters ≡ 120 ∷ ls → KnowsOf outer type.Void unsigned_parameter print_hex
      hex_known e = knows type.Void unsigned_parameter print_hex 37 (120 ∷ []) refl (λ z. omega (arith, z.0, z.1)) (own.hex (letter_in i letters 120 ls e)).2

      hex_fails : (v : Value) (us : List Value) → drop i letters ≡ 120 ∷ ls → drop i vs ≡ v ∷ us → is_of Number v ≡ false → Fails st.taken st.output (there 120)
      hex_fails v us e f kind = second_fails st.taken st.output print_hex (unsigned_stop print_hex v us 120 anew h.ration refl e f (hex_known e) kind)

      hex : Converts 120
      unfolding convert of_word undefined ◌>>=◌ after
      hex (Word x) us e f =
          wrote (Word x) us (digits 16 false x) (past_it (passing print_hex) anew) (h.ration - suc (units_at 16 5 x x)) (there 120) f
          (two_pieces print_hex _ (called_next _ _ Missing _ (unsigned_passes own.own.tags outer own.own.defined objects (length (os ++ arguments)) input (Some (format_name format)) calls (suc (suc deep)) print_hex name anew (in_use h.ration st) (length os + i) (Word x) (found 120 (Word x) us e f) (cell 120 (Word x) us e f) (hex_known e) (typed 120 e) x refl)
          (hex_call x (argument_in os i vs (Word x) us are f) (letter_in i letters 120 ls e))))
      hex Null us e f = hex_fails Null us e f refl
      hex (Point o k) us e f = hex_fails (Point o k) us e f refl
      hex (Letter g j text k) us e f = hex_fails (Letter g j text k) us e f refl
      hex (Function g) us e f = hex_fails (Function g) us e f refl
      hex Missing us e f = hex_fails Missing us e f refl

      -- ---- `%s`

      string_known : drop i letters ≡ 115 ∷ ls → KnowsOf outer type.Void string_parameter print_string
      string_known e = knows type.Void string_parameter print_string 37 (115 ∷ []) refl (λ z. omega (arith, z.0, z.1)) (own.string (letter_in i letters 115 ls e)).1

      string_fails : (v : Value) (us : List Value) → drop i letters ≡ 115 ∷ ls → drop i vs ≡ v ∷ us → is_of ObjectPointer v ≡ false → Fails st.taken st.output (there 115)
      string_fails v us e f kind =
          second_fails st.taken st.output print_string (pointer_stops own.own.tags outer own.own.defined objects (length (os ++ arguments)) input (Some (format_name format)) calls (suc (suc deep)) print_string name anew (in_use h.ration st) (length os + i) v (found 115 v us e f) (cell 115 v us e f) (string_known e) (typed 115 e) kind)

      passed : (v : Value) (us : List Value) → drop i letters ≡ 115 ∷ ls → drop i vs ≡ v ∷ us → IsPointer v → does (passing print_string) (suc (suc deep)) in_format (at anew) (in_use h.ration st) ≡ after (calls print_string.name (v ∷ []) (in_use h.ration st)) (λ _. give Next)
      passed v us e f k = pointer_passes own.own.tags outer own.own.defined objects (length (os ++ arguments)) input (Some (format_name format)) calls (suc (suc deep)) print_string name anew (in_use h.ration st) (length os + i) v (found 115 v us e f) (cell 115 v us e f) (string_known e) (typed 115 e) k

      -- by the end of the string
      by_end : (v : Value) (us : List Value) (r : Outcome (Unit {0})) → drop i letters ≡ 115 ∷ ls → drop i vs ≡ v ∷ us → IsPointer v → Kept h.ration w n0 (os ++ arguments) st r (put_string false (string_at (os ++ arguments) v) (in_use h.ration st)) → FailsAs r (calls print_string.name (v ∷ []) (in_use h.ration st))
          → FailsAs (after r (λ _. put_format false false rest us)) (there 115)
      unfolding after
      by_end v us (Gives u st1) e f k kept fails =
          goes_on v us st1 (past_it (passing print_string) anew) (spare_behind h.ration st.left (h.ration - 1) (string_at (os ++ arguments) v)) (there 115) f (kept.1 ∙ same) kept.2
          (two_pieces print_string _ (called_next _ _ Missing _ (passed v us e f k) (string_call v u st1 (letter_in i letters 115 ls e) kept.0)))
      by_end v us (Undefined act st1) e f k kept fails =
          second_fails st1.taken st1.output print_string (subst (λ z. Fails st1.taken st1.output z) (sym (passed v us e f k)) (fails_after st1.taken st1.output (calls print_string.name (v ∷ []) (in_use h.ration st)) (λ _. give Next) fails))
      by_end v us (Ended st1) e f k kept fails = tt
      by_end v us (Going st1) e f k kept fails = tt

      of_pointer : (v : Value) (us : List Value) → drop i letters ≡ 115 ∷ ls → drop i vs ≡ v ∷ us → IsPointer v → FailsAs (after (put_string false (string_at st.objects v) st) (λ _. put_format false false rest us)) (there 115)
      of_pointer v us e f k =
          let is : IsArgument os v = argument_in os i vs v us are f in
          let lists : string_at (os ++ arguments) v ≡ string_at st.objects v = string_among os arguments v is ∙ ap (λ z. string_at z v) (sym same) in
          by_end v us (put_string false (string_at st.objects v) st) e f k
          (subst (λ z. Kept h.ration w n0 (os ++ arguments) st (put_string false (string_at st.objects v) st) (put_string false z (in_use h.ration st))) (sym lists) (string_kept (string_at st.objects v) h.ration w n0 st.left (os ++ arguments) st le))
          (subst (λ z. FailsAs (put_string false (string_at st.objects v) st) (calls print_string.name (v ∷ []) (record st { spare = h.ration; words = w; objects = z ++ arguments }))) same
          (call_fails h t input some known (own.string (letter_in i letters 115 ls e)).0 deep h.ration w arguments v st (omega (arith, le, lower)) (omega (arith, enough)) (omega (arith, small)) (subst (λ z. IsArgument z v) (sym same) is)))

      string : Converts 115
      unfolding convert put_string_at objects_now put_string undefined ◌>>=◌ after
      string (Point o k) us e f = of_pointer (Point o k) us e f (point_is o k)
      string (Letter g j text k) us e f = of_pointer (Letter g j text k) us e f (letter_is g j text k)
      string Null us e f = of_pointer Null us e f null_is
      string (Word x) us e f = string_fails (Word x) us e f refl
      string (Function g) us e f = string_fails (Function g) us e f refl
      string Missing us e f = string_fails Missing us e f refl

      pub conversion_fails : (c : ℕ) → list_any (λ other. c == other) (codes "duxcs") ≡ true → Converts c
      conversion_fails c e = by_letter Converts signed unsigned hex character string c e

      -- ---- an argument that is missing

      abbrev Lacks : ℕ → Type 0
      Lacks c = drop i letters ≡ c ∷ ls → drop i vs ≡ [] → Fails st.taken st.output (there c)

      lost : (c : ℕ) → drop i letters ≡ c ∷ ls → drop i vs ≡ [] → meaning objects name ≡ Some None
      lost c e f = ap (λ z. meaning objects (argument_name z)) (omega arith) ∙ object_missing 0 i (length os) letters vs c ls (omega (arith, few)) e f

      pub conversion_lacks : (c : ℕ) → list_any (λ other. c == other) (codes "duxcs") ≡ true → Lacks c
      conversion_lacks c is =
          by_letter Lacks
          (λ e f. second_fails st.taken st.output print_signed (int_lacks own.own.tags outer own.own.defined objects (length (os ++ arguments)) input (Some (format_name format)) calls (suc (suc deep)) print_signed name anew (in_use h.ration st) (lost 100 e f) (signed_known 100 refl e) (typed 100 e)))
          (λ e f. second_fails st.taken st.output print_unsigned (unsigned_lacks own.own.tags outer own.own.defined objects (length (os ++ arguments)) input (Some (format_name format)) calls (suc (suc deep)) print_unsigned name anew (in_use h.ration st) (lost 117 e f) (unsigned_known e) (typed 117 e)))
          (λ e f. second_fails st.taken st.output print_hex (unsigned_lacks own.own.tags outer own.own.defined objects (length (os ++ arguments)) input (Some (format_name format)) calls (suc (suc deep)) print_hex name anew (in_use h.ration st) (lost 120 e f) (hex_known e) (typed 120 e)))
          (λ e f. piece_fails st.taken st.output (passing piece) more_pieces l (in_use spare st) (int_lacks own.own.tags outer own.own.defined objects (length (os ++ arguments)) input (Some (format_name format)) calls (suc (suc deep)) piece name l (in_use spare st) (lost 99 e f) piece_known (typed 99 e)))
          (λ e f. second_fails st.taken st.output print_string (pointer_lacks own.own.tags outer own.own.defined objects (length (os ++ arguments)) input (Some (format_name format)) calls (suc (suc deep)) print_string name anew (in_use h.ration st) (lost 115 e f) (string_known e) (typed 115 e)))
          c is

    -- ---- all pieces

    -- what a format goes on with
    abbrev Follows : List ℕ → Type 0
    Follows rest = (ls : List ℕ) (i : ℕ) → conversions_behind false rest ≡ Some ls → drop i letters ≡ ls → Runs false rest i (drop i vs)

    -- a format's character or a percent
    first_fails : (b : Bool) (c i l spare : ℕ) (rest : List ℕ) (us : List Value) (st : State) → st.objects ≡ os → st.left ≤ n0 → Runs b rest i us
        → FailsAs ((if b then put_format false true rest us else (put c >>= λ _. put_format false false rest us)) st) (part (stmts (if b then pieces true rest i else put_piece (number c) ∷ pieces false rest i)) l (in_use spare st))
    first_fails true c i l spare rest us st same le more = more l spare st same le
    first_fails false c i l spare rest us st same le more = plain c i l spare rest us st same le more

    module _ (c i l spare : ℕ) (rest : List ℕ) (st : State) (same : st.objects ≡ os) (le : st.left ≤ n0) (more : Follows rest) where
      abbrev behind_letter : Outcome Flow
      behind_letter = part (stmts (conversion c i ++ pieces false rest (suc i))) l (in_use spare st)

      abbrev with_rest : List Value → Outcome (Unit {0})
      with_rest us = with_argument us (λ v us. convert false c v >>= λ _. put_format false false rest us) st

      with_next : (ls : List ℕ) (us : List Value) → list_any (λ other. c == other) (codes "duxcs") ≡ true → conversions_behind false rest ≡ Some ls → drop i letters ≡ c ∷ ls → drop i vs ≡ us → FailsAs (with_rest us) behind_letter
      unfolding with_argument undefined
      with_next ls [] is e d f = conversion_lacks i l spare rest st same le (more ls (suc i) e (next_dropped i letters c ls d)) ls c is d f
      with_next ls (v ∷ us) is e d f = conversion_fails i l spare rest st same le (more ls (suc i) e (next_dropped i letters c ls d)) ls c is v us d f

      with_letters : (ls : List ℕ) (o : Option (List ℕ)) → list_any (λ other. c == other) (codes "duxcs") ≡ true → conversions_behind false rest ≡ o → option_map (λ letters. c ∷ letters) o ≡ Some ls → drop i letters ≡ ls → FailsAs (with_rest (drop i vs)) behind_letter
      with_letters ls None is e f d = absurd (cc f)
      with_letters ls (Some ms) is e f d = let so : c ∷ ms ≡ ls = cc f in with_next ms (drop i vs) is e (d ∙ sym so) refl

      lettered : (ls : List ℕ) (q : Bool) → list_any (λ other. c == other) (codes "duxcs") ≡ q → (if q then option_map (λ letters. c ∷ letters) (conversions_behind false rest) else None) ≡ Some ls → drop i letters ≡ ls → FailsAs (with_rest (drop i vs)) behind_letter
      lettered ls true is e d = with_letters ls (conversions_behind false rest) is refl e d
      lettered ls false is e d = absurd (cc e)

      behind_percent : (ls : List ℕ) (q : Bool) → (if q then conversions_behind false rest else if list_any (λ other. c == other) (codes "duxcs") then option_map (λ letters. c ∷ letters) (conversions_behind false rest) else None) ≡ Some ls → drop i letters ≡ ls
          → FailsAs ((if q then (put c >>= λ _. put_format false false rest (drop i vs)) else with_argument (drop i vs) (λ v us. convert false c v >>= λ _. put_format false false rest us)) st)
          (part (stmts (if q then put_piece (number c) ∷ pieces false rest i else conversion c i ++ pieces false rest (suc i))) l (in_use spare st))
      behind_percent ls true e d = plain c i l spare rest (drop i vs) st same le (more ls i e d)
      behind_percent ls false e d = lettered ls (list_any (λ other. c == other) (codes "duxcs")) refl e d

    pub pieces_fail : (percent : Bool) (rest ls : List ℕ) (i : ℕ) → conversions_behind percent rest ≡ Some ls → drop i letters ≡ ls → Runs percent rest i (drop i vs)
    unfolding put_format give
    pieces_fail false [] ls i e d l spare st same le = tt
    pieces_fail true [] ls i e d l spare st same le = absurd (cc e)
    pieces_fail false (c ∷ rest) ls i e d l spare st same le = first_fails (c == 37) c i l spare rest (drop i vs) st same le (pieces_fail (c == 37) rest ls i e d)
    pieces_fail true (c ∷ rest) ls i e d l spare st same le = behind_percent c i l spare rest st same le (λ ls i e d. pieces_fail false rest ls i e d) ls (c == 37) e d
