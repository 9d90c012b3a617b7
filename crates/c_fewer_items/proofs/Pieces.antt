-- The body of a format's function, piece by piece.
use Rattle.std.proofs.Common.{◌≡◌, ℕ, zero, suc, ◌+◌, ◌^◌, ◌<◌, List, [], ◌∷◌, ◌++◌, length, drop, Option, Some, None, Bool, true, false, refl, sym, ap, ◌∙◌, subst, arith}
use Rattle.std.specs.Prelude.{map, ◌==◌, ◌||◌, Ok, codes, if◌then◌else◌}
use Rattle.std.specs.Option.{option_map, option_map_or}
use Rattle.std.specs.List.{list_any}
use Rattle.std.specs.Int.{IsInRange}
use Rattle.std.specs.Str.{bytes_eq}
use Rattle.std.proofs.lemmas.Bool.{eqb-true}
use Rattle.std.proofs.lemmas.Slice.Eq.{bytes_eq-Decides}
use Rattle.c_syntax.specs.Plain as plain
use Rattle.c_syntax.specs.Plain.{CDecl, CExpr, CStmt, stmts}
use Rattle.c_syntax.specs.Words.{meaning}
use Rattle.c_types.specs.declared.fault.TypeFault.TheVariants as fault
use Rattle.c_types.specs.Types as type
use Rattle.c_types.specs.Types.{CType, CTypes, types}
use Rattle.c_types.specs.Refusals.{Judged, after, both, keeping}
use Rattle.c_types.specs.Scope.{Names, Scope, Routine, entity_of, entered, contains, with_name}
use Rattle.c_types.specs.Operands.{Operand, conversions_behind, conversions_of, converts, value_at, place_at, Callee, Direct, function_call, call_operand}
use Rattle.c_types.specs.Expressions.{literal, named, named_callee, format_of, judged}
use Rattle.c_types.specs.Declarations.{scope_or}
use Rattle.c_types.specs.Statements.{Around, stated, all_stated}
use Rattle.c_types.specs.Units.{Signature, body_scope, declared_function, item_judged, may_declare, entity_behind, with_function}
use Rattle.c_helpers.specs.Terms.{number, variable, call, declaration}
use Rattle.c_helpers.specs.Functions.{Helper, a, unit_name, refill_name, piece_name, call_of, spend_unit, refill, put_piece, argument_name, arguments_from, conversion, pieces, print_format, print_unsigned, print_hex, print_signed, print_string}
use Rattle.c_helpers.specs.Names.{stmt_names, stmts_names}
use Rattle.c_helpers.specs.Fewer.{told, function_of}
use Rattle.c_fewer_types.specs.Stands.{head_type, function_type}
use Rattle.c_worlds.specs.Named.{Each}
use Rattle.c_products.specs.MovesFound.{declared_in}
use Rattle.c_formats.specs.Laws.{argument_type, parameters_from}
use Rattle.c_formats.proofs.Named.{no_argument, behind_parameters, parameter_found}
use Rattle.c_fewer_items.specs.FewerHeadsLaws.{all_functions, KnowsCalls}
use Rattle.c_fewer_items.proofs.Typed.{block_from, outside, other}
use Rattle.c_fewer_items.specs.FewerFormatsLaws.{FormatsAreTyped, FormatsAreDeclared}
use Rattle.c_fewer_items.proofs.FewerFrontsHeads.{signature_is, block_same}

-- ---- calls in a scope

abbrev list_told : List Operand → Judged (List Operand)
list_told xs = Ok xs

abbrev direct : CType → Bool → Judged Callee
direct t b = Ok (Direct (type.Function type.Void (type.MoreType t type.NoType)) b)

module _ (s : Scope) where
  -- a function of the text by its name
  record Knows (name : List ℕ) (params : CTypes) : Type 0 where
    begun : Bool
    entity : entity_of s name ≡ Some (Routine (type.Function type.Void params) begun)
    defined : contains s.defined name ≡ true

  abbrev told_of : Operand → Judged Operand
  told_of x = Ok x

  -- a call without arguments
  plain_call : (name : List ℕ) → Knows name type.NoType → judged s (call name []) ≡ told_of (value_at 0 type.Void)
  plain_call name k =
      ap (λ o. both {B = List Operand} (named_callee s 0 name o) (Ok []) (λ c xs. call_operand 0 c None xs)) k.entity
      ∙ ap (λ b. function_call 0 b (type.Function type.Void type.NoType) []) k.defined

  -- of one argument that converts
  call_with : (name : List ℕ) (e : CExpr) (x : Operand) (t : CType) → Knows name (type.MoreType t type.NoType) → format_of (plain.MoreExpr e plain.NoExpr) ≡ None → judged s e ≡ told_of x → converts x t ≡ true → judged s (call name (e ∷ [])) ≡ told_of (value_at 0 type.Void)
  call_with name e x t k f j c =
      ap (λ o. both {B = List Operand} (named_callee s 0 name o) (both {B = List Operand} (judged s e) (Ok []) (λ y ys. Ok (y ∷ ys))) (λ c xs. call_operand 0 c (format_of (plain.MoreExpr e plain.NoExpr)) xs)) k.entity
      ∙ (ap (λ q. both {C = Operand} (direct t (contains s.defined name)) (both {B = List Operand} q (Ok []) (λ y ys. list_told (y ∷ ys))) (λ c xs. call_operand 0 c (format_of (plain.MoreExpr e plain.NoExpr)) xs)) j
      ∙ (ap (λ b. function_call 0 b (type.Function type.Void (type.MoreType t type.NoType)) (x ∷ [])) k.defined
      ∙ ap (λ b. keeping ((true, fault.BadCall 0) ∷ (b, fault.Mismatch x.pos) ∷ []) (value_at 0 type.Void)) c))

  -- such calls one after the other
  module _ (w : Around) where
    abbrev Typed : List CStmt → Type 0
    Typed ts = all_stated s w (stmts ts) ≡ Ok s

    abbrev scope_told : Scope → Judged Scope
    scope_told z = Ok z

    behind : (e : CExpr) (x : Operand) (ts : List CStmt) → judged s e ≡ told_of x → Typed ts → Typed (plain.Do_expr e ∷ ts)
    behind e x ts j h =
        let t : stated s w (plain.Do_expr e) ≡ scope_told s = ap (λ q. after {A = Operand} q (λ _. scope_told s)) j in
        ap (λ q. both q (all_stated (scope_or s q) w (stmts ts)) (λ _ inner. scope_told inner)) t ∙ ap (λ q. both {A = Scope} (scope_told s) q (λ _ inner. scope_told inner)) h

-- ---- names

pub or_last : (a b : Bool) → b ≡ true → (a || b) ≡ true
or_last true b e = refl
or_last false b e = e

each_of : (P Q : List ℕ → Type 0) → ((name : List ℕ) → P name → Q name) → (xs : List (List ℕ)) → Each P xs → Each Q xs
each_of P Q f [] h = tt
each_of P Q f (x ∷ xs) h = (f x h.0, each_of P Q f xs h.1)

-- each name of a list is in it
each_there : (xs : List (List ℕ)) → Each (λ name. contains xs name ≡ true) xs
each_there [] = tt
each_there (x ∷ xs) = (ap (λ b. b || contains xs x) ((bytes_eq-Decides x x).1 refl), each_of (λ name. contains xs name ≡ true) (λ name. contains (x ∷ xs) name ≡ true) (λ name e. or_last (bytes_eq name x) (contains xs name) e) xs (each_there xs))

-- one of two
pick : (P : ℕ → Type 0) (m c : ℕ) (rest : Bool) → P m → (rest ≡ true → P c) → ((c == m) || rest) ≡ true → P c
pick P m c rest p more e = go (c == m) refl e
  where
    go : (b : Bool) → (c == m) ≡ b → (b || rest) ≡ true → P c
    go true k e = subst P (sym (eqb-true c m k)) p
    go false k e = more e

drop_next : (i : ℕ) (xs : List ℕ) (c : ℕ) (ms : List ℕ) → drop i xs ≡ c ∷ ms → drop (suc i) xs ≡ ms
drop_next zero [] c ms e = absurd (cc e)
drop_next zero (x ∷ xs) c ms e = cc e
drop_next (suc i) [] c ms e = absurd (cc e)
drop_next (suc i) (x ∷ xs) c ms e = drop_next i xs c ms e

module _ (format letters : List ℕ) (conversions : conversions_of format ≡ Some letters) (few : length letters < 2 ^ 24) (begun : List ℕ → Bool) (s : Scope) (k : KnowsCalls begun s (print_format format)) where
  abbrev g : Helper
  g = print_format format

  abbrev params_are : g.params ≡ arguments_from 0 letters
  params_are = ap (λ o. arguments_from 0 (option_map_or (λ ls. ls) o [])) conversions

  abbrev sign : Signature
  sign = record { result = type.Void; parameters = record { types = types (map (λ (d : CDecl). head_type d.ty) g.params); scope = record (entered s) { block = block_from g.params [] } } }

  abbrev inner : Scope
  inner = body_scope s g.name sign

  abbrev names : Names
  names = outside begun s g k

  abbrev w : Around
  w = record { result = type.Void; continues = false; breaks = false }

  block_is : block_from g.params [] ≡ declared_in (parameters_from 0 letters) []
  block_is = ap (λ ds. block_from ds []) params_are ∙ block_same letters 0 []

  -- a name that is called
  abbrev Called : List ℕ → Type 0
  Called name = (c : Helper) → meaning all_functions name ≡ Some c → (meaning names name ≡ Some (Routine (function_type c) (begun name))) × (contains s.defined name ≡ true)

  all_called : Each Called (stmt_names g.body)
  all_called =
      each_of (λ name. contains (stmt_names g.body) name ≡ true) Called
      (λ name m c e. let r = k.calls name c e m in (other begun s g k name (Routine (function_type c) (begun name)) r.0, r.1)) (stmt_names g.body) (each_there (stmt_names g.body))

  knows : (c0 : ℕ) (cs : List ℕ) (c : Helper) (params : CTypes) → meaning all_functions (c0 ∷ cs) ≡ Some c → function_type c ≡ type.Function type.Void params → (IsInRange 48 57 c0 → ⊥) → Called (c0 ∷ cs) → Knows inner (c0 ∷ cs) params
  knows c0 cs c params e t apart h =
      let r = h c e in
      record {
        begun = begun (c0 ∷ cs);
        entity =
            ap (λ b. meaning (b ++ names) (c0 ∷ cs)) block_is
            ∙ (behind_parameters names (c0 ∷ cs) 0 letters [] (λ j le lt. no_argument c0 cs j (omega (arith, few, lt)) apart) ∙ (r.0 ∙ ap (λ t. Some (Routine t (begun (c0 ∷ cs)))) t));
        defined = r.1;
      }

  -- the argument of a conversion
  argument_judged : (i c : ℕ) (cs : List ℕ) → drop i letters ≡ c ∷ cs → judged inner (variable (argument_name i)) ≡ Ok (place_at 0 (argument_type c))
  argument_judged i c cs e =
      ap (λ o. named inner 0 (argument_name i) o)
      (ap (λ b. meaning (b ++ names) (argument_name i)) block_is ∙ (ap (λ j. meaning (declared_in (parameters_from 0 letters) [] ++ names) (argument_name j)) (omega arith) ∙ parameter_found names 0 i letters [] c cs (omega (arith, few)) e))

  abbrev Does : List CStmt → Type 0
  Does ts = Typed inner w ts

  refilled : (ts : List CStmt) → Called refill_name → Does ts → Does (refill ∷ ts)
  refilled ts h d = behind inner w (call refill_name []) (value_at 0 type.Void) ts (plain_call inner refill_name (knows 115 (codes "econd fuel") (told refill_name []) type.NoType refl refl (λ z. omega (arith, z.0, z.1)) h)) d

  -- a character
  character : (e : CExpr) (x : Operand) (ts : List CStmt) → Called piece_name → format_of (plain.MoreExpr e plain.NoExpr) ≡ None → judged inner e ≡ Ok x → converts x type.Int ≡ true → Does ts → Does (put_piece e ∷ ts)
  character e x ts h f j c d =
      behind inner w (call piece_name (e ∷ [])) (value_at 0 type.Void) ts
      (call_with inner piece_name e x type.Int (knows 112 (codes "iece of text") (told piece_name (declaration plain.Int a ∷ [])) (type.MoreType type.Int type.NoType) refl refl (λ z. omega (arith, z.0, z.1)) h) f j c) d

  -- a number or a string by a function of its own
  converted : (letter : ℕ) (c : Helper) (t : CType) (i : ℕ) (ls : List ℕ) (ts : List CStmt) → meaning all_functions (37 ∷ letter ∷ []) ≡ Some c → function_type c ≡ type.Function type.Void (type.MoreType t type.NoType) → converts (place_at 0 (argument_type letter)) t ≡ true → drop i letters ≡ letter ∷ ls
      → Called refill_name → Called (37 ∷ letter ∷ []) → Does ts → Does (refill ∷ call_of (37 ∷ letter ∷ []) (variable (argument_name i) ∷ []) ∷ ts)
  converted letter c t i ls ts e f v d h l more =
      refilled (call_of (37 ∷ letter ∷ []) (variable (argument_name i) ∷ []) ∷ ts) h
      (behind inner w (call (37 ∷ letter ∷ []) (variable (argument_name i) ∷ [])) (value_at 0 type.Void) ts
      (call_with inner (37 ∷ letter ∷ []) (variable (argument_name i)) (place_at 0 (argument_type letter)) t (knows 37 (letter ∷ []) c (type.MoreType t type.NoType) e f (λ z. omega (arith, z.0, z.1)) l) refl (argument_judged i letter ls d) v) more)

  abbrev NamesAreCalled : List CStmt → Type 0
  NamesAreCalled ts = Each Called (stmts_names (stmts ts))

  abbrev Converts : ℕ → List CStmt → ℕ → Type 0
  Converts i ts c = (ls : List ℕ) → drop i letters ≡ c ∷ ls → NamesAreCalled (conversion c i ++ ts) → (NamesAreCalled ts → Does ts) → Does (conversion c i ++ ts)

  each_converts : (i : ℕ) (ts : List CStmt) (c : ℕ) → list_any (λ other. c == other) (codes "duxcs") ≡ true → Converts i ts c
  each_converts i ts c e =
      pick (Converts i ts) 100 c ((c == 117) || ((c == 120) || ((c == 99) || ((c == 115) || false)))) (λ ls d h more. converted 100 print_signed type.Int i ls ts refl refl refl d h.0 h.1.0 (more h.1.1.1))
      (λ e. pick (Converts i ts) 117 c ((c == 120) || ((c == 99) || ((c == 115) || false))) (λ ls d h more. converted 117 print_unsigned type.Unsigned i ls ts refl refl refl d h.0 h.1.0 (more h.1.1.1))
      (λ e. pick (Converts i ts) 120 c ((c == 99) || ((c == 115) || false)) (λ ls d h more. converted 120 print_hex type.Unsigned i ls ts refl refl refl d h.0 h.1.0 (more h.1.1.1))
      (λ e. pick (Converts i ts) 99 c ((c == 115) || false) (λ ls d h more. character (variable (argument_name i)) (place_at 0 type.Int) ts h.0 refl (argument_judged i 99 ls d) refl (more h.1.1))
      (λ e. pick (Converts i ts) 115 c false (λ ls d h more. converted 115 print_string (type.Pointer type.Char) i ls ts refl refl refl d h.0 h.1.0 (more h.1.1.1)) (λ e. absurd (cc e)) e) e) e) e) e

  abbrev PiecesDo : Bool → List ℕ → ℕ → Type 0
  PiecesDo percent rest i = (ls : List ℕ) → conversions_behind percent rest ≡ Some ls → drop i letters ≡ ls → NamesAreCalled (pieces percent rest i) → Does (pieces percent rest i)

  -- a character of the format itself
  plainly : (c : ℕ) (ts : List CStmt) → NamesAreCalled (put_piece (number c) ∷ ts) → (NamesAreCalled ts → Does ts) → Does (put_piece (number c) ∷ ts)
  plainly c ts h more = character (number c) (literal 0 c false) ts h.0 refl refl refl (more h.1)

  pieces_do : (percent : Bool) (rest : List ℕ) (i : ℕ) → PiecesDo percent rest i
  pieces_do false [] i ls e d h = refl
  pieces_do true [] i ls e d h = absurd (cc e)
  pieces_do false (c ∷ rest) i ls e d h = go (c == 37) e h (λ e h. pieces_do true rest i ls e d h) (λ e h. pieces_do false rest i ls e d h)
    where
      go : (b : Bool) → conversions_behind b rest ≡ Some ls → NamesAreCalled (if b then pieces true rest i else put_piece (number c) ∷ pieces false rest i) → (conversions_behind true rest ≡ Some ls → NamesAreCalled (pieces true rest i) → Does (pieces true rest i)) → (conversions_behind false rest ≡ Some ls → NamesAreCalled (pieces false rest i) → Does (pieces false rest i))
          → Does (if b then pieces true rest i else put_piece (number c) ∷ pieces false rest i)
      go true e h percent more = percent e h
      go false e h percent more = plainly c (pieces false rest i) h (λ h. more e h)
  pieces_do true (c ∷ rest) i ls e d h = go (c == 37) (list_any (λ other. c == other) (codes "duxcs")) refl e h (λ e h. pieces_do false rest i ls e d h) (λ ms e f h. pieces_do false rest (suc i) ms e f h)
    where
      with_letters : (o : Option (List ℕ)) → conversions_behind false rest ≡ o → list_any (λ other. c == other) (codes "duxcs") ≡ true → option_map (λ letters. c ∷ letters) o ≡ Some ls → NamesAreCalled (conversion c i ++ pieces false rest (suc i))
          → ((ms : List ℕ) → conversions_behind false rest ≡ Some ms → drop (suc i) letters ≡ ms → NamesAreCalled (pieces false rest (suc i)) → Does (pieces false rest (suc i))) → Does (conversion c i ++ pieces false rest (suc i))
      with_letters None k q e h more = absurd (cc e)
      with_letters (Some ms) k q e h more =
          let same : c ∷ ms ≡ ls = cc e in
          let here : drop i letters ≡ c ∷ ms = d ∙ sym same in
          each_converts i (pieces false rest (suc i)) c q ms here h (λ h. more ms k (drop_next i letters c ms here) h)

      go : (b q : Bool) → list_any (λ other. c == other) (codes "duxcs") ≡ q → (if b then conversions_behind false rest else if q then option_map (λ letters. c ∷ letters) (conversions_behind false rest) else None) ≡ Some ls
          → NamesAreCalled (if b then put_piece (number c) ∷ pieces false rest i else conversion c i ++ pieces false rest (suc i)) → (conversions_behind false rest ≡ Some ls → NamesAreCalled (pieces false rest i) → Does (pieces false rest i))
          → ((ms : List ℕ) → conversions_behind false rest ≡ Some ms → drop (suc i) letters ≡ ms → NamesAreCalled (pieces false rest (suc i)) → Does (pieces false rest (suc i)))
          → Does (if b then put_piece (number c) ∷ pieces false rest i else conversion c i ++ pieces false rest (suc i))
      go true q k e h plain more = plainly c (pieces false rest i) h (λ h. plain e h)
      go false true k e h plain more = with_letters (conversions_behind false rest) refl k e h more
      go false false k e h plain more = absurd (cc e)

  body_typed : Does (spend_unit ∷ pieces false format 0)
  body_typed =
      behind inner w (call unit_name []) (value_at 0 type.Void) (pieces false format 0) (plain_call inner unit_name (knows 117 (codes "nit of fuel") (told unit_name []) type.NoType refl refl (λ z. omega (arith, z.0, z.1)) all_called.0))
      (pieces_do false format 0 letters conversions refl all_called.1)

  item_typed : item_judged s (function_of g) ≡ Ok (with_name s g.name (Routine (function_type g) true))
  item_typed =
      ap (λ q. after q (λ f. declared_function s g.name 0 (Some g.body) f)) (signature_is s letters g.params params_are few)
      ∙ (ap (λ q. after {A = Scope} q (λ _. keeping ((may_declare (meaning s.block g.name) (function_type g) true, fault.Twice 0) ∷ []) (with_function s g.name (function_type g) true))) body_typed
      ∙ ap (λ o. keeping ((may_declare o (function_type g) true, fault.Twice 0) ∷ []) (with_name s g.name (entity_behind o (function_type g) true))) k.fresh)

pub formats_are_typed : FormatsAreTyped
formats_are_typed format letters e few begun s k = item_typed format letters e few begun s k

pub formats_are_declared : FormatsAreDeclared
formats_are_declared format letters e few s fresh =
    let g : Helper = print_format format in
    let params : g.params ≡ arguments_from 0 letters = ap (λ o. arguments_from 0 (option_map_or (λ ls. ls) o [])) e in
    ap (λ q. after q (λ f. declared_function s g.name 0 None f)) (signature_is s letters g.params params few) ∙ ap (λ o. keeping ((may_declare o (function_type g) false, fault.Twice 0) ∷ []) (with_name s g.name (entity_behind o (function_type g) false))) fresh
