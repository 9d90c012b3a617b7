-- The pieces of a format's function write what the format writes.
use Rattle.std.proofs.Common.{◌≡◌, ℕ, zero, suc, ◌+◌, ◌-◌, ◌*◌, ◌%◌, ◌^◌, ◌<◌, ◌≤◌, List, [], ◌∷◌, ◌++◌, length, map, drop, Option, Some, None, Bool, true, false, nat_le, refl, sym, ap, ap₂, ◌∙◌, subst, subst₂, arith, append_assoc, append-nil, ⊎_elim}
use Rattle.std.specs.Prelude.{◌&&◌, ◌||◌, ◌==◌, if◌then◌else◌, codes}
use Rattle.std.specs.List.{list_any}
use Rattle.std.specs.Option.{option_map}
use Rattle.std.specs.Str.{bytes_eq}
use Rattle.std.specs.Fmt.{digits, signed_decimal}
use Rattle.std.proofs.lemmas.Bool.{eqb-true, or_cases, lt-ltb, le-leb}
use Rattle.word24.specs.Word.{signed_of}
use Rattle.c_syntax.specs.Plain.{CExpr, CStmts, Int, Do_expr, MoreStmt, stmts}
use Rattle.c_syntax.specs.Words.{meaning}
use Rattle.c_types.specs.Types as type
use Rattle.c_types.specs.Types.{CType}
use Rattle.c_types.specs.Scope as entity
use Rattle.c_types.specs.Scope.{Names}
use Rattle.c_types.specs.Operands.{conversions_behind}
use Rattle.c_eval.specs.State.{Value, Word, Null, Point, Letter, Function, Missing, Cell, Unset, Holds, Object, State, Outcome, Gives, Ended, Going, Undefined}
use Rattle.c_eval.specs.Run.{◌>>=◌, after, give, undefined, paid, spend, put, put_all, objects_now}
use Rattle.c_eval.specs.Memory.{live_object}
use Rattle.c_eval.specs.Operators.{of_word}
use Rattle.c_eval.specs.BuiltIns.{put_string, put_string_at, convert, with_argument, put_format}
use Rattle.c_eval.specs.LiteralsIn.{literals_in}
use Rattle.c_eval.specs.Environment.{Environment}
use Rattle.c_eval.specs.Eval.{Flow, Next}
use Rattle.c_eval.specs.Meaning.{argument_objects, argument_names}
use Rattle.c_eval.specs.Text.{Text}
use Rattle.c_eval.specs.Helpers.{Helpers}
use Rattle.c_helpers.specs.Terms.{number, variable, call, declaration}
use Rattle.c_helpers.specs.Fewer.{told}
use Rattle.c_helpers.specs.Functions.{Helper, a, unit_name, refill_name, piece_name, refill, put_piece, argument_name, conversion, pieces, print_unsigned, print_hex, print_signed, print_string}
use Rattle.c_apart.proofs.Apart.{Out, Done, Paused, Part, p_give, p_does, p_all}
use Rattle.c_valid.specs.Valid.{AreValid}
use Rattle.c_products.specs.MovesFound.{Parameter, KnowsOf, declared_in}
use Rattle.c_formats.specs.Places.{bytes, units_at}
use Rattle.c_formats.specs.DigitsLaws.{int_parameter, unsigned_parameter}
use Rattle.c_formats.proofs.Numbers.{digits_are}
use Rattle.c_formats.proofs.Sequence.{all_next}
use Rattle.c_formats.proofs.Signed.{signed_spare}
use Rattle.c_formats.proofs.Written.{may_write, units_bound}
use Rattle.c_formats.specs.StringsLaws.{string_parameter, KnowsUnit, KnowsPiece}
use Rattle.c_formats.proofs.Loop.{spare_behind}
use Rattle.c_formats.proofs.StringsCalls.{string_at}
use Rattle.c_formats.proofs.Puts.{may_spell}
use Rattle.c_formats.specs.Laws.{argument_type, format_parameters, KnowsRefill, HasFormat}
use Rattle.c_formats.proofs.Named.{no_argument, behind_parameters, parameter_found, names_from, object_found, cell_found, next_dropped, letter_in, valid_in}
use Rattle.c_formats.proofs.Parts.{may_sign}
use Rattle.c_formats.proofs.Steps.{all_paused, here, calls, refilled, character_put, argument_put, int_put, unsigned_put, hex_put, point_put, point_paused, letter_put, letter_paused}

-- bytes are written one after the other
put_all_is : (cs : List ℕ) (st : State) → put_all cs st ≡ Gives tt (record st { output = st.output ++ bytes cs })
unfolding put_all give put ◌>>=◌ after
put_all_is [] st = ap (λ os. Gives tt (record st { output = os })) (sym (append-nil st.output))
put_all_is (c ∷ cs) st = put_all_is cs (record st { output = st.output ++ c % 2 ^ 8 ∷ [] }) ∙ ap (λ os. Gives tt (record st { output = os })) (append_assoc st.output (c % 2 ^ 8 ∷ []) (bytes cs))

-- a string is written alike with another second fuel and other words, which it keeps, and uses no more than the units that there are
abbrev Kept : (s w n : ℕ) → State → Outcome (Unit {0}) → Outcome (Unit {0}) → Type 0
Kept s w n base (Gives u st) r = (r ≡ Gives u (record st { spare = s; words = w })) × (st.spare ≡ base.spare) × (st.words ≡ base.words) × (st.left ≤ n)
Kept s w n base (Going st) r = (r ≡ Going (record st { spare = s; words = w })) × (st.spare ≡ base.spare) × (st.words ≡ base.words) × (st.left ≤ n)
-- a string ends apart run
Kept s w n base (Ended st) r = ⊥
Kept s w n base (Undefined act st) r = Unit {0}

string_kept : (cs : List Cell) (s w n left : ℕ) (st : State) → left ≤ n → Kept s w n st (put_string false cs (record st { left = left })) (put_string false cs (record st { left = left; spare = s; words = w }))
unfolding put_string give undefined paid spend put ◌>>=◌ after
string_kept [] s w n left st le = tt
string_kept (Unset ∷ cs) s w n left st le = tt
string_kept (Holds Null ∷ cs) s w n left st le = tt
string_kept (Holds (Point o i) ∷ cs) s w n left st le = tt
string_kept (Holds (Letter f j text i) ∷ cs) s w n left st le = tt
string_kept (Holds (Function f) ∷ cs) s w n left st le = tt
string_kept (Holds Missing ∷ cs) s w n left st le = tt
string_kept (Holds (Word zero) ∷ cs) s w n left st le = (refl, refl, refl, le)
string_kept (Holds (Word (suc c)) ∷ cs) s w n zero st le = (refl, refl, refl, le)
string_kept (Holds (Word (suc c)) ∷ cs) s w n (suc left) st le = string_kept cs s w n left (record st { output = st.output ++ suc c % 2 ^ 8 ∷ [] }) (omega (arith, le))

-- the letters of conversions
by_letter : (P : ℕ → Type 0) → P 100 → P 117 → P 120 → P 99 → P 115 → (c : ℕ) → list_any (λ other. c == other) (codes "duxcs") ≡ true → P c
by_letter P d u x h s c e =
    ⊎_elim (λ z. subst P (sym (eqb-true c 100 z)) d)
    (λ e. ⊎_elim (λ z. subst P (sym (eqb-true c 117 z)) u)
    (λ e. ⊎_elim (λ z. subst P (sym (eqb-true c 120 z)) x)
    (λ e. ⊎_elim (λ z. subst P (sym (eqb-true c 99 z)) h)
    (λ e. ⊎_elim (λ z. subst P (sym (eqb-true c 115 z)) s) (λ e. absurd (cc e)) (or_cases (c == 115) false e))
    (or_cases (c == 99) (c == 115 || false) e))
    (or_cases (c == 120) (c == 99 || (c == 115 || false)) e))
    (or_cases (c == 117) (c == 120 || (c == 99 || (c == 115 || false))) e))
    (or_cases (c == 100) (c == 117 || (c == 120 || (c == 99 || (c == 115 || false)))) e)

module _ (h : Helpers) (t : Text) (input : List ℕ) (format letters : List ℕ) (few : length letters < 2 ^ 24) (own : HasFormat h t format letters) (vs : List Value) (valid : AreValid vs) (deep : ℕ) where
  abbrev pub outer : Names
  outer = declared_in (format_parameters letters) [] ++ own.own.names

  abbrev pub objects : List (List ℕ × Option ℕ)
  objects = argument_names (names_from 0 letters) vs 0 ++ []

  abbrev pub cells : List Object
  cells = map live_object (argument_objects (names_from 0 letters) vs)

  knows : (result : CType) (params : List Parameter) (helper : Helper) (c : ℕ) (cs : List ℕ) → helper.name ≡ c ∷ cs → ((48 ≤ c) × (c ≤ 57) → ⊥) → KnowsOf own.own.names result params helper → KnowsOf outer result params helper
  knows result params helper c cs e apart k =
      (k.0, behind_parameters own.own.names helper.name 0 letters [] (λ j le lt. subst (λ z. bytes_eq z (argument_name j) ≡ false) (sym e) (no_argument c cs j (omega (arith, few, lt)) apart)) ∙ k.1)

  pub unit_known : KnowsUnit outer
  unit_known = knows type.Void [] (told unit_name []) 117 (codes "nit of fuel") refl (λ z. omega (arith, z.0, z.1)) own.unit

  refill_known : KnowsRefill outer
  refill_known = knows type.Void [] (told refill_name []) 115 (codes "econd fuel") refl (λ z. omega (arith, z.0, z.1)) own.refill

  piece_known : KnowsPiece outer
  piece_known = knows type.Void ((a, type.Int) ∷ []) (told piece_name (declaration Int a ∷ [])) 112 (codes "iece of text") refl (λ z. omega (arith, z.0, z.1)) own.piece

  module _ (ration n0 s0 w0 w : ℕ) (enough : 2 ^ 9 ≤ ration) (small : w ≤ 16) (lower : n0 < suc deep) (deeper : 256 < deep) where
    abbrev next : ℕ
    next = length cells

    abbrev at : ℕ → Environment
    at l = here own.own.tags outer own.own.defined objects next deep ration letters cells l

    abbrev called : List ℕ → List Value → Part Value
    called = calls own.own.tags outer own.own.defined objects next deep ration letters cells

    abbrev part : CStmts → ℕ → State → Out Flow
    part ts l st = p_all ts (suc (suc deep)) called (at l) st cells

    -- behind a statement that is done
    next_piece : (e : CExpr) (ts : CStmts) (l : ℕ) (st st1 : State) → p_does (Do_expr e) (suc (suc deep)) called (at l) st cells ≡ Done Next st1 cells → part (MoreStmt (Do_expr e) ts) l st ≡ part ts (l + length (literals_in (at l).scope e)) st1
    next_piece e ts l st st1 f = all_next (Do_expr e) ts (suc (suc deep)) called (at l) st st1 cells cells f

    -- the moment in a use
    abbrev pub in_use : ℕ → State → State
    in_use spare st = record st { spare = spare; words = w }

    -- the function ends as the format does
    abbrev pub Ends : Outcome (Unit {0}) → Out Flow → Type 0
    Ends (Gives u st) o = (st.spare ≡ s0) × (st.words ≡ w0) × ((spare : ℕ) × (o ≡ Done Next (in_use spare st) cells))
    Ends (Going st) o = (st.spare ≡ s0) × (st.words ≡ w0) × ((spare : ℕ) × (o ≡ Paused (in_use spare st) cells))
    Ends (Ended st) o = ⊥
    Ends (Undefined act st) o = Unit {0}

    abbrev pub Runs : Bool → List ℕ → ℕ → List Value → Type 0
    Runs percent rest i us = (l spare : ℕ) (st : State) → st.spare ≡ s0 → st.words ≡ w0 → st.left ≤ n0 → Ends (put_format false percent rest us st) (part (stmts (pieces percent rest i)) l (in_use spare st))

    ends : (r r' : Outcome (Unit {0})) (o o' : Out Flow) → r ≡ r' → o ≡ o' → Ends r' o' → Ends r o
    ends r r' o o' e f k = subst₂ Ends (sym e) (sym f) k

    -- a character of the format itself
    plain : (c i l spare : ℕ) (rest : List ℕ) (us : List Value) (st : State) → st.spare ≡ s0 → st.words ≡ w0 → st.left ≤ n0 → Runs false rest i us
        → Ends ((put c >>= λ _. put_format false false rest us) st) (part (MoreStmt (put_piece (number c)) (stmts (pieces false rest i))) l (in_use spare st))
    unfolding put ◌>>=◌ after
    plain c i l spare rest us st a b le more =
        ends _ _ _ _ refl
        (next_piece (call piece_name (number c ∷ [])) (stmts (pieces false rest i)) l (in_use spare st) _ (character_put own.own.tags outer own.own.defined objects next deep ration letters cells piece_known c l (in_use spare st))
        ∙ ap (λ z. part (stmts (pieces false rest i)) (l + length (literals_in (at l).scope (call piece_name (number c ∷ [])))) (in_use ration (record st { output = st.output ++ z ∷ [] }))) whole)
        (more _ ration (record st { output = st.output ++ c % 2 ^ 8 ∷ [] }) a b le)
      where
        whole : c % 2 ^ 24 % 2 ^ 8 ≡ c % 2 ^ 8
        whole = omega arith

    -- ---- conversions

    module _ (i l spare : ℕ) (rest : List ℕ) (st : State) (a : st.spare ≡ s0) (b : st.words ≡ w0) (le : st.left ≤ n0) (more : Runs false rest (suc i) (drop (suc i) vs)) (ls : List ℕ) (us : List Value) where
      abbrev ran : ℕ → Value → Outcome (Unit {0})
      ran c v = (convert false c v >>= λ _. put_format false false rest us) st

      abbrev there : ℕ → Out Flow
      there c = part (stmts (conversion c i ++ pieces false rest (suc i))) l (in_use spare st)

      abbrev Converts : ℕ → Type 0
      Converts c = (v : Value) → drop i letters ≡ c ∷ ls → drop i vs ≡ v ∷ us → Ends (ran c v) (there c)

      found : (c : ℕ) (v : Value) → drop i letters ≡ c ∷ ls → drop i vs ≡ v ∷ us → meaning objects (argument_name i) ≡ Some (Some i)
      found c v e f = ap (λ z. meaning objects (argument_name z)) (omega arith) ∙ (object_found 0 i 0 letters vs c ls v us (omega (arith, few)) e f ∙ ap (λ z. Some (Some z)) (omega arith))

      typed : (c : ℕ) → drop i letters ≡ c ∷ ls → meaning outer (argument_name i) ≡ Some (entity.Object (argument_type c))
      typed c e = ap (λ z. meaning outer (argument_name z)) (omega arith) ∙ parameter_found own.own.names 0 i letters [] c ls (omega (arith, few)) e

      -- what follows goes on from what was given
      then_goes : (st1 : State) → after {A = Unit {0}} (Gives tt st1) (λ _. put_format false false rest us) ≡ put_format false false rest us st1
      unfolding after
      then_goes st1 = refl

      -- behind a conversion that writes a text
      wrote : (r : Outcome (Unit {0})) (o : Out Flow) (cs : List ℕ) (k s : ℕ) (v : Value) → drop i vs ≡ v ∷ us → r ≡ put_format false false rest us (record st { output = st.output ++ cs })
          → o ≡ part (stmts (pieces false rest (suc i))) k (in_use s (record st { output = st.output ++ cs })) → Ends r o
      wrote r o cs k s v f e g = ends r _ o _ e g (subst (λ z. Ends (put_format false false rest z (record st { output = st.output ++ cs })) (part (stmts (pieces false rest (suc i))) k (in_use s (record st { output = st.output ++ cs })))) (next_dropped i vs v us f) (more k s (record st { output = st.output ++ cs }) a b le))

      -- a string is written or waits for fuel
      string_goes : (v : Value) (o : Out Flow) (k s : ℕ) (q : Outcome (Unit {0})) → drop i vs ≡ v ∷ us → put_string_at false v st ≡ q
          → Kept ration w n0 st q (put_string false (string_at st.objects v) (in_use ration st))
          → ((st1 : State) (u : Unit {0}) → put_string false (string_at st.objects v) (in_use ration st) ≡ Gives u (in_use ration st1) → o ≡ part (stmts (pieces false rest (suc i))) k (in_use s st1))
          → ((st1 : State) → put_string false (string_at st.objects v) (in_use ration st) ≡ Going (in_use ration st1) → o ≡ Paused (in_use s st1) cells)
          → Ends (after (put_string_at false v st) (λ _. put_format false false rest us)) o
      unfolding after
      string_goes v o k s (Gives u st1) f e (kept, c, d, fewer) given paused =
          ends _ _ o _ (ap (λ z. after z (λ _. put_format false false rest us)) e) (given st1 u kept)
          (subst (λ z. Ends (put_format false false rest z st1) (part (stmts (pieces false rest (suc i))) k (in_use s st1))) (next_dropped i vs v us f) (more k s st1 (c ∙ a) (d ∙ b) fewer))
      string_goes v o k s (Going st1) f e (kept, c, d, fewer) given paused = ends _ _ o _ (ap (λ z. after z (λ _. put_format false false rest us)) e) (paused st1 kept) (c ∙ a, d ∙ b, (s, refl))
      string_goes v o k s (Ended st1) f e kept given paused = absurd kept
      string_goes v o k s (Undefined act st1) f e kept given paused = subst (λ z. Ends z o) (sym (ap (λ z. after z (λ _. put_format false false rest us)) e)) tt

      abbrev name : List ℕ
      name = argument_name i

      abbrev more_pieces : CStmts
      more_pieces = stmts (pieces false rest (suc i))

      character : Converts 99
      unfolding convert of_word undefined put ◌>>=◌ after
      character (Word x) e f =
          wrote _ _ (x % 2 ^ 8 ∷ []) _ ration (Word x) f refl
          (next_piece (call piece_name (variable name ∷ [])) more_pieces l (in_use spare st) _
          (argument_put own.own.tags outer own.own.defined objects next deep ration letters cells name i l (in_use spare st) (found 99 (Word x) e f) piece_known x (typed 99 e) (cell_found 0 i letters vs 99 ls (Word x) us e f)))
      character Null e f = tt
      character (Point o k) e f = tt
      character (Letter g j text k) e f = tt
      character (Function g) e f = tt
      character Missing e f = tt

      -- the second fuel begins anew, and then a function writes the argument
      abbrev anew : ℕ
      anew = l + length (literals_in (at l).scope (call refill_name []))

      two_pieces : (e : CExpr) (st1 : State) → p_does (Do_expr e) (suc (suc deep)) called (at anew) (in_use ration st) cells ≡ Done Next st1 cells
          → part (MoreStmt refill (MoreStmt (Do_expr e) more_pieces)) l (in_use spare st) ≡ part more_pieces (anew + length (literals_in (at anew).scope e)) st1
      two_pieces e st1 f =
          next_piece (call refill_name []) (MoreStmt (Do_expr e) more_pieces) l (in_use spare st) (in_use ration st) (refilled own.own.tags outer own.own.defined objects next deep ration letters cells refill_known l (in_use spare st))
          ∙ next_piece e more_pieces anew (in_use ration st) st1 f

      pause_behind : (e : CExpr) (st1 : State) → p_does (Do_expr e) (suc (suc deep)) called (at anew) (in_use ration st) cells ≡ Paused st1 cells → part (MoreStmt refill (MoreStmt (Do_expr e) more_pieces)) l (in_use spare st) ≡ Paused st1 cells
      pause_behind e st1 f =
          next_piece (call refill_name []) (MoreStmt (Do_expr e) more_pieces) l (in_use spare st) (in_use ration st) (refilled own.own.tags outer own.own.defined objects next deep ration letters cells refill_known l (in_use spare st))
          ∙ all_paused (Do_expr e) more_pieces (suc (suc deep)) called (at anew) (in_use ration st) st1 cells cells f

      may_signed : (x : ℕ) → x < 2 ^ 24 → may_sign (suc (suc deep)) (in_use ration st) x ≡ true
      unfolding may_sign
      may_signed x lt = ap₂ (λ p q. p && q) (ap₂ (λ p q. p && q) (ap₂ (λ p q. p && q) (lt-ltb x (2 ^ 24) lt) (lt-ltb 256 (suc (suc deep)) (omega (arith, deeper)))) (le-leb 256 ration (omega (arith, enough)))) (le-leb (w + 64) 1024 (omega (arith, small)))

      may_unsigned : (units x : ℕ) → x < 2 ^ 24 → units ≤ 8 * 17 → may_write (suc (suc deep)) (in_use ration st) units x ≡ true
      unfolding may_write
      may_unsigned units x lt le = ap₂ (λ p q. p && q) (ap₂ (λ p q. p && q) (ap₂ (λ p q. p && q) (lt-ltb x (2 ^ 24) lt) (lt-ltb 18 (suc (suc deep)) (omega (arith, deeper)))) (le-leb (suc units) ration (omega (arith, le, enough)))) (le-leb (w + 32) 1024 (omega (arith, small)))

      may_string : may_spell (suc deep) (in_use ration st) ≡ true
      unfolding may_spell
      may_string = ap₂ (λ p q. p && q) (ap₂ (λ p q. p && q) (lt-ltb st.left (suc deep) (omega (arith, le, lower))) (le-leb 2 ration (omega (arith, enough)))) (le-leb (w + 16) 1024 (omega (arith, small)))

      signed : Converts 100
      unfolding convert of_word undefined ◌>>=◌ after
      signed (Word x) e f =
          wrote _ _ (bytes (signed_decimal (signed_of x))) _ (signed_spare (nat_le (2 ^ 23) x) x (ration - 1)) (Word x) f (ap (λ z. after z (λ _. put_format false false rest us)) (put_all_is (signed_decimal (signed_of x)) st) ∙ then_goes _)
          (two_pieces (call print_signed.name (variable name ∷ [])) _
          (int_put own.own.tags outer own.own.defined objects next deep ration letters cells name i anew (in_use ration st) (found 100 (Word x) e f) (knows type.Void int_parameter print_signed 37 (100 ∷ []) refl (λ z. omega (arith, z.0, z.1)) (own.signed (letter_in i letters 100 ls e)).3) x (typed 100 e) (cell_found 0 i letters vs 100 ls (Word x) us e f) (letter_in i letters 100 ls e) (may_signed x (valid_in i vs (Word x) us valid f))))
      signed Null e f = tt
      signed (Point o k) e f = tt
      signed (Letter g j text k) e f = tt
      signed (Function g) e f = tt
      signed Missing e f = tt

      unsigned : Converts 117
      unfolding convert of_word undefined ◌>>=◌ after
      unsigned (Word x) e f =
          let lt : x < 2 ^ 24 = valid_in i vs (Word x) us valid f in
          let u = own.unsigned (letter_in i letters 117 ls e) in
          let units : units_at 10 7 x x ≤ 8 * 17 = units_bound h t input u.0 print_unsigned.name 10 7 print_unsigned.kinds (omega arith) (omega arith) (omega arith) (omega arith) u.1.0 u.1.1 x lt in
          wrote _ _ (bytes (digits 10 false x)) _ (ration - suc (units_at 10 7 x x)) (Word x) f (ap (λ z. after z (λ _. put_format false false rest us)) (put_all_is (digits 10 false x) st) ∙ then_goes _)
          (two_pieces (call print_unsigned.name (variable name ∷ [])) _
          (unsigned_put own.own.tags outer own.own.defined objects next deep ration letters cells name i anew (in_use ration st) (found 117 (Word x) e f) (knows type.Void unsigned_parameter print_unsigned 37 (117 ∷ []) refl (λ z. omega (arith, z.0, z.1)) u.2) x (typed 117 e) (cell_found 0 i letters vs 117 ls (Word x) us e f) (letter_in i letters 117 ls e) (may_unsigned _ x lt units))
          ∙ ap (λ z. part more_pieces (anew + length (literals_in (at anew).scope (call print_unsigned.name (variable name ∷ [])))) (in_use (ration - suc (units_at 10 7 x x)) (record st { output = st.output ++ bytes z }))) (sym (digits_are 10 7 x (omega arith) (omega arith) (omega (arith, lt)))))
      unsigned Null e f = tt
      unsigned (Point o k) e f = tt
      unsigned (Letter g j text k) e f = tt
      unsigned (Function g) e f = tt
      unsigned Missing e f = tt

      hex : Converts 120
      unfolding convert of_word undefined ◌>>=◌ after
      hex (Word x) e f =
          let lt : x < 2 ^ 24 = valid_in i vs (Word x) us valid f in
          let u = own.hex (letter_in i letters 120 ls e) in
          let units : units_at 16 5 x x ≤ 6 * 17 = units_bound h t input u.0 print_hex.name 16 5 print_hex.kinds (omega arith) (omega arith) (omega arith) (omega arith) u.1.0 u.1.1 x lt in
          wrote _ _ (bytes (digits 16 false x)) _ (ration - suc (units_at 16 5 x x)) (Word x) f (ap (λ z. after z (λ _. put_format false false rest us)) (put_all_is (digits 16 false x) st) ∙ then_goes _)
          (two_pieces (call print_hex.name (variable name ∷ [])) _
          (hex_put own.own.tags outer own.own.defined objects next deep ration letters cells name i anew (in_use ration st) (found 120 (Word x) e f) (knows type.Void unsigned_parameter print_hex 37 (120 ∷ []) refl (λ z. omega (arith, z.0, z.1)) u.2) x (typed 120 e) (cell_found 0 i letters vs 120 ls (Word x) us e f) (letter_in i letters 120 ls e) (may_unsigned _ x lt (omega (arith, units))))
          ∙ ap (λ z. part more_pieces (anew + length (literals_in (at anew).scope (call print_hex.name (variable name ∷ [])))) (in_use (ration - suc (units_at 16 5 x x)) (record st { output = st.output ++ bytes z }))) (sym (digits_are 16 5 x (omega arith) (omega arith) (omega (arith, lt)))))
      hex Null e f = tt
      hex (Point o k) e f = tt
      hex (Letter g j text k) e f = tt
      hex (Function g) e f = tt
      hex Missing e f = tt

      spelled : (v : Value) → put_string_at false v st ≡ put_string false (string_at st.objects v) st
      unfolding put_string_at objects_now ◌>>=◌ after
      spelled v = refl

      string : Converts 115
      unfolding convert put_string_at objects_now put_string undefined ◌>>=◌ after
      string (Point o k) e f =
          let s = own.string (letter_in i letters 115 ls e) in
          let known = knows type.Void string_parameter print_string 37 (115 ∷ []) refl (λ z. omega (arith, z.0, z.1)) s.1 in
          string_goes (Point o k) _ (anew + length (literals_in (at anew).scope (call print_string.name (variable name ∷ [])))) (spare_behind ration st.left (ration - 1) (string_at st.objects (Point o k))) (put_string false (string_at st.objects (Point o k)) st) f (spelled (Point o k)) (string_kept (string_at st.objects (Point o k)) ration w n0 st.left st le)
          (λ st1 u kept. two_pieces (call print_string.name (variable name ∷ [])) _ (point_put own.own.tags outer own.own.defined objects next deep ration letters cells name i anew (in_use ration st) (found 115 (Point o k) e f) known (typed 115 e) (letter_in i letters 115 ls e) may_string o k u (in_use ration st1) (cell_found 0 i letters vs 115 ls (Point o k) us e f) kept))
          (λ st1 kept. pause_behind (call print_string.name (variable name ∷ [])) _ (point_paused own.own.tags outer own.own.defined objects next deep ration letters cells name i anew (in_use ration st) (found 115 (Point o k) e f) known (typed 115 e) (letter_in i letters 115 ls e) may_string o k (in_use ration st1) (cell_found 0 i letters vs 115 ls (Point o k) us e f) kept))
      string (Letter g j text k) e f =
          let s = own.string (letter_in i letters 115 ls e) in
          let known = knows type.Void string_parameter print_string 37 (115 ∷ []) refl (λ z. omega (arith, z.0, z.1)) s.1 in
          string_goes (Letter g j text k) _ (anew + length (literals_in (at anew).scope (call print_string.name (variable name ∷ [])))) (spare_behind ration st.left (ration - 1) (string_at st.objects (Letter g j text k))) (put_string false (string_at st.objects (Letter g j text k)) st) f (spelled (Letter g j text k)) (string_kept (string_at st.objects (Letter g j text k)) ration w n0 st.left st le)
          (λ st1 u kept. two_pieces (call print_string.name (variable name ∷ [])) _ (letter_put own.own.tags outer own.own.defined objects next deep ration letters cells name i anew (in_use ration st) (found 115 (Letter g j text k) e f) known (typed 115 e) (letter_in i letters 115 ls e) may_string g j text k u (in_use ration st1) (cell_found 0 i letters vs 115 ls (Letter g j text k) us e f) kept))
          (λ st1 kept. pause_behind (call print_string.name (variable name ∷ [])) _ (letter_paused own.own.tags outer own.own.defined objects next deep ration letters cells name i anew (in_use ration st) (found 115 (Letter g j text k) e f) known (typed 115 e) (letter_in i letters 115 ls e) may_string g j text k (in_use ration st1) (cell_found 0 i letters vs 115 ls (Letter g j text k) us e f) kept))
      string (Word x) e f = tt
      string Null e f = tt
      string (Function g) e f = tt
      string Missing e f = tt

      conversion_runs : (c : ℕ) → list_any (λ other. c == other) (codes "duxcs") ≡ true → Converts c
      conversion_runs c e = by_letter Converts signed unsigned hex character string c e

    -- ---- all pieces

    -- what a format goes on with
    abbrev Follows : List ℕ → Type 0
    Follows rest = (ls : List ℕ) (i : ℕ) → conversions_behind false rest ≡ Some ls → drop i letters ≡ ls → Runs false rest i (drop i vs)

    -- a format's character or a percent
    first_runs : (b : Bool) (c i l spare : ℕ) (rest : List ℕ) (us : List Value) (st : State) → st.spare ≡ s0 → st.words ≡ w0 → st.left ≤ n0 → Runs b rest i us
        → Ends ((if b then put_format false true rest us else (put c >>= λ _. put_format false false rest us)) st) (part (stmts (if b then pieces true rest i else put_piece (number c) ∷ pieces false rest i)) l (in_use spare st))
    first_runs true c i l spare rest us st a b le more = more l spare st a b le
    first_runs false c i l spare rest us st a b le more = plain c i l spare rest us st a b le more

    module _ (c i l spare : ℕ) (rest : List ℕ) (st : State) (a : st.spare ≡ s0) (b : st.words ≡ w0) (le : st.left ≤ n0) (more : Follows rest) where
      -- behind a conversion's letter
      with_next : (ls : List ℕ) (us : List Value) → list_any (λ other. c == other) (codes "duxcs") ≡ true → conversions_behind false rest ≡ Some ls → drop i letters ≡ c ∷ ls → drop i vs ≡ us
          → Ends (with_argument us (λ v us. convert false c v >>= λ _. put_format false false rest us) st) (part (stmts (conversion c i ++ pieces false rest (suc i))) l (in_use spare st))
      unfolding with_argument undefined
      with_next ls [] is e d f = tt
      with_next ls (v ∷ us) is e d f = conversion_runs i l spare rest st a b le (more ls (suc i) e (next_dropped i letters c ls d)) ls us c is v d f

      with_letters : (ls : List ℕ) (o : Option (List ℕ)) → list_any (λ other. c == other) (codes "duxcs") ≡ true → conversions_behind false rest ≡ o → option_map (λ letters. c ∷ letters) o ≡ Some ls → drop i letters ≡ ls
          → Ends (with_argument (drop i vs) (λ v us. convert false c v >>= λ _. put_format false false rest us) st) (part (stmts (conversion c i ++ pieces false rest (suc i))) l (in_use spare st))
      with_letters ls None is e f d = absurd (cc f)
      with_letters ls (Some ms) is e f d = let same : c ∷ ms ≡ ls = cc f in with_next ms (drop i vs) is e (d ∙ sym same) refl

      lettered : (ls : List ℕ) (q : Bool) → list_any (λ other. c == other) (codes "duxcs") ≡ q → (if q then option_map (λ letters. c ∷ letters) (conversions_behind false rest) else None) ≡ Some ls → drop i letters ≡ ls
          → Ends (with_argument (drop i vs) (λ v us. convert false c v >>= λ _. put_format false false rest us) st) (part (stmts (conversion c i ++ pieces false rest (suc i))) l (in_use spare st))
      lettered ls true is e d = with_letters ls (conversions_behind false rest) is refl e d
      lettered ls false is e d = absurd (cc e)

      behind_percent : (ls : List ℕ) (q : Bool) → (if q then conversions_behind false rest else if list_any (λ other. c == other) (codes "duxcs") then option_map (λ letters. c ∷ letters) (conversions_behind false rest) else None) ≡ Some ls → drop i letters ≡ ls
          → Ends ((if q then (put c >>= λ _. put_format false false rest (drop i vs)) else with_argument (drop i vs) (λ v us. convert false c v >>= λ _. put_format false false rest us)) st)
          (part (stmts (if q then put_piece (number c) ∷ pieces false rest i else conversion c i ++ pieces false rest (suc i))) l (in_use spare st))
      behind_percent ls true e d = plain c i l spare rest (drop i vs) st a b le (more ls i e d)
      behind_percent ls false e d = lettered ls (list_any (λ other. c == other) (codes "duxcs")) refl e d

    pub pieces_run : (percent : Bool) (rest ls : List ℕ) (i : ℕ) → conversions_behind percent rest ≡ Some ls → drop i letters ≡ ls → Runs percent rest i (drop i vs)
    unfolding put_format give p_give
    pieces_run false [] ls i e d l spare st a b le = (a, b, (spare, refl))
    pieces_run true [] ls i e d l spare st a b le = absurd (cc e)
    pieces_run false (c ∷ rest) ls i e d l spare st a b le = first_runs (c == 37) c i l spare rest (drop i vs) st a b le (pieces_run (c == 37) rest ls i e d)
    pieces_run true (c ∷ rest) ls i e d l spare st a b le = behind_percent c i l spare rest st a b le (λ ls i e d. pieces_run false rest ls i e d) ls (c == 37) e d
