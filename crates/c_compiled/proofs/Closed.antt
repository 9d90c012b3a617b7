-- What is reached in a program is of its text, or of helper functions of kinds that occur.
use Rattle.std.proofs.Common.{◌≡◌, ℕ, zero, suc, ◌+◌, ◌≤◌, ◌<◌, List, [], ◌∷◌, ◌++◌, drop, length, Option, Some, None, Bool, true, false, refl, sym, ap, ◌∙◌, subst, cond, arith}
use Rattle.std.specs.Prelude.{◌==◌, ◌&&◌, ◌||◌, ◌%◌, ◌/◌, not, map, codes, if◌then◌else◌}
use Rattle.std.specs.Option.{option_map}
use Rattle.std.specs.List.{filter, list_any, flat_map}
use Rattle.std.specs.Str.{bytes_eq}
use Rattle.std.specs.Fmt.{digits, digits_onto, digit_glyph}
use Rattle.std.proofs.lemmas.Bool.{and_parts, and_from, or_from, or_left, or_right, eqb-true}
use Rattle.std.proofs.lemmas.Slice.Eq.{bytes_eq-Decides}
use Rattle.c_syntax.specs.Plain as plain
use Rattle.c_syntax.specs.Plain.{CStmt, CItem, stmts}
use Rattle.c_syntax.specs.Words.{meaning}
use Rattle.c_types.specs.Scope.{contains}
use Rattle.c_types.specs.Operands.{conversions_behind, conversions_of}
use Rattle.c_types.specs.Units.{defined_in}
use Rattle.c_types.specs.Room as kind
use Rattle.c_types.specs.Room.{Kind, kinds, kind_number, letter_kinds}
use Rattle.c_helpers.specs.Terms.{number, variable, declaration}
use Rattle.c_helpers.specs.Functions.{Helper, functions, unit_name, refill_name, piece_name, a, refill, call_of, put_piece, argument_name, conversion, pieces, print_format, format_name}
use Rattle.c_helpers.specs.Laws.{is_strange, each, total, is_for}
use Rattle.c_helpers.specs.Meanings.{is_format}
use Rattle.c_helpers.specs.Names.{stmt_names, stmts_names}
use Rattle.c_helpers.specs.Fewer.{body_names, names_at_file_scope, formats_in, told}
use Rattle.c_helpers.specs.Simple.{with_helpers, next_reached, reached_in, reached}
use Rattle.c_fewer_types.specs.Standing.{IsTextName}
use Rattle.c_worlds.specs.Named.{Each}
use Rattle.c_fewer_items.specs.FewerHeadsLaws.{firsts}
use Rattle.c_fewer_names.specs.FewerKnownLaws.{operators}
use Rattle.c_fewer_names.proofs.Front.{by, items_of, head_found, head_passed, no_values, format_functions, whole_is}
use Rattle.c_compiled.specs.HelperCostsLaws.{helper_room, has_kind, letters_occur, is_called}
use Rattle.c_compiled.proofs.HelperCostsSums.{has}
use Rattle.c_compiled.proofs.HelperCostsTrees.{each_first, each_last, text_called}
use Rattle.c_compiled.proofs.HelperCostsExpressions.{one_kind}
use Rattle.c_compiled.proofs.RoomItems.{ItemsCall}

-- ---- kinds by their numbers

abbrev numbered : List Kind → ℕ → Kind
numbered [] n = kind.Multiply
numbered (k ∷ ks) n = if kind_number k == n then k else numbered ks n

numbered_same : (k : Kind) → numbered kinds (kind_number k) ≡ k
numbered_same kind.Multiply = refl
numbered_same kind.Divide = refl
numbered_same kind.Remainder = refl
numbered_same kind.BitAnd = refl
numbered_same kind.BitOr = refl
numbered_same kind.BitXor = refl
numbered_same kind.Invert = refl
numbered_same kind.ShiftLeft = refl
numbered_same kind.ShiftRight = refl
numbered_same kind.PrintSigned = refl
numbered_same kind.PrintUnsigned = refl
numbered_same kind.PrintHex = refl
numbered_same kind.PrintString = refl
numbered_same kind.PutString = refl
numbered_same kind.PointerArithmetic = refl
numbered_same kind.PointerDifference = refl

same_kind : (j k : Kind) → (kind_number j == kind_number k) ≡ true → j ≡ k
same_kind j k e = sym (numbered_same j) ∙ (ap (numbered kinds) (eqb-true (kind_number j) (kind_number k) e) ∙ numbered_same k)

-- ---- the names of arguments

digit_plain : (d : ℕ) → d < 10 → is_strange (digit_glyph false d) ≡ false
digit_plain zero h = refl
digit_plain (suc zero) h = refl
digit_plain (suc (suc zero)) h = refl
digit_plain (suc (suc (suc zero))) h = refl
digit_plain (suc (suc (suc (suc zero)))) h = refl
digit_plain (suc (suc (suc (suc (suc zero))))) h = refl
digit_plain (suc (suc (suc (suc (suc (suc zero)))))) h = refl
digit_plain (suc (suc (suc (suc (suc (suc (suc zero))))))) h = refl
digit_plain (suc (suc (suc (suc (suc (suc (suc (suc zero)))))))) h = refl
digit_plain (suc (suc (suc (suc (suc (suc (suc (suc (suc zero))))))))) h = refl
digit_plain (suc (suc (suc (suc (suc (suc (suc (suc (suc (suc d)))))))))) h = absurd (omega (arith, h))

onto_plain : (k n : ℕ) (acc : List ℕ) → list_any is_strange acc ≡ false → list_any is_strange (digits_onto k 10 false n acc) ≡ false
onto_plain zero n acc h = h
onto_plain (suc k) n acc h =
    let there : list_any is_strange (digit_glyph false (n % 10) ∷ acc) ≡ false = or_from (is_strange (digit_glyph false (n % 10))) (list_any is_strange acc) (digit_plain (n % 10) (omega arith)) h in
    go (n / 10 == 0) there (onto_plain k (n / 10) (digit_glyph false (n % 10) ∷ acc) there)
  where
    go : (b : Bool) → list_any is_strange (digit_glyph false (n % 10) ∷ acc) ≡ false → list_any is_strange (digits_onto k 10 false (n / 10) (digit_glyph false (n % 10) ∷ acc)) ≡ false
        → list_any is_strange (if b then digit_glyph false (n % 10) ∷ acc else digits_onto k 10 false (n / 10) (digit_glyph false (n % 10) ∷ acc)) ≡ false
    go true x y = x
    go false x y = y

argument_plain : (i : ℕ) → IsTextName (argument_name i)
unfolding digits
argument_plain i = onto_plain 64 i [] refl

-- ---- lists of names

each_has : (P : List ℕ → Type 0) (xs : List (List ℕ)) (x : List ℕ) → Each P xs → contains xs x ≡ true → P x
each_has P [] x h e = absurd (cc e)
each_has P (y ∷ ys) x h e = go (bytes_eq x y) refl e (λ k. each_has P ys x h.1 k)
  where
    go : (b : Bool) → bytes_eq x y ≡ b → (b || contains ys x) ≡ true → (contains ys x ≡ true → P x) → P x
    go true k e more = subst P (sym ((bytes_eq-Decides x y).0 k)) h.0
    go false k e more = more e

each_left : (P : List ℕ → Type 0) (test : List ℕ → Bool) (xs : List (List ℕ)) → ((x : List ℕ) → test x ≡ true → P x) → Each P (filter test xs)
each_left P test [] f = tt
each_left P test (x ∷ xs) f = go (test x) refl (each_left P test xs f)
  where
    go : (b : Bool) → test x ≡ b → Each P (filter test xs) → Each P (cond b (x ∷ filter test xs) (filter test xs))
    go true e more = (f x e, more)
    go false e more = more

-- ---- helper functions

-- a helper function that one of such kinds names has each of these
abbrev is_handed : List Kind → Option Helper → Bool
is_handed ks None = true
is_handed ks (Some c) = each (λ k. is_for k c) ks

abbrev hands_on : List Kind → List (List ℕ) → Bool
hands_on ks names = each (λ name. is_handed ks (meaning operators name) && not (is_format name)) names

each_hands_on : each (λ h. hands_on h.kinds (stmt_names h.body)) functions ≡ true
each_hands_on = refl

found_handed : (hs : List Helper) → each (λ h. hands_on h.kinds (stmt_names h.body)) hs ≡ true → (name : List ℕ) (g : Helper) → meaning (by hs) name ≡ Some g → hands_on g.kinds (stmt_names g.body) ≡ true
found_handed [] h name g e = absurd (cc e)
found_handed (x ∷ xs) h name g e =
    let p = and_parts (hands_on x.kinds (stmt_names x.body)) (each (λ h. hands_on h.kinds (stmt_names h.body)) xs) h in
    go (bytes_eq name x.name) p.0 e (λ k. found_handed xs p.1 name g k)
  where
    go : (b : Bool) → hands_on x.kinds (stmt_names x.body) ≡ true → cond b (Some x) (meaning (by xs) name) ≡ Some g → (meaning (by xs) name ≡ Some g → hands_on g.kinds (stmt_names g.body) ≡ true) → hands_on g.kinds (stmt_names g.body) ≡ true
    go true h e more = let same : x ≡ g = cc e in subst (λ (z : Helper). hands_on z.kinds (stmt_names z.body) ≡ true) same h
    go false h e more = more e

abbrev EachFound : List Helper → Type 0
EachFound [] = Unit {0}
EachFound (h ∷ hs) = (meaning operators h.name ≡ Some h) × EachFound hs

all_found : EachFound functions
all_found = (refl, (refl, (refl, (refl, (refl, (refl, (refl, (refl, (refl, (refl, (refl, (refl, (refl, (refl, (refl, (refl, (refl, (refl, (refl, (refl, (refl, (refl, (refl, (refl, (refl, (refl, (refl, (refl, (refl, (refl, (refl, (refl, (refl, (refl, (refl, (refl, (refl, tt)))))))))))))))))))))))))))))))))))))

module _ (occurs : Kind → Bool) where
  abbrev C : List ℕ → Type 0
  C name = is_called occurs name ≡ true

  -- ---- what helper functions name

  any_handed : (ks js : List Kind) → list_any occurs ks ≡ true → each (λ k. has js k) ks ≡ true → list_any occurs js ≡ true
  any_handed [] js e h = absurd (cc e)
  any_handed (k ∷ ks) js e h =
      let p = and_parts (has js k) (each (λ k. has js k) ks) h in
      go (occurs k) refl p.0 e (λ l. any_handed ks js l p.1)
    where
      at : (is : List Kind) → occurs k ≡ true → has is k ≡ true → list_any occurs is ≡ true
      at [] o i = absurd (cc i)
      at (j ∷ is) o i = by_number (kind_number j == kind_number k) refl i (λ l. at is o l)
        where
          by_number : (b : Bool) → (kind_number j == kind_number k) ≡ b → (b || has is k) ≡ true → (has is k ≡ true → list_any occurs is ≡ true) → (occurs j || list_any occurs is) ≡ true
          by_number true l i more = or_left (occurs j) (list_any occurs is) (ap occurs (same_kind j k l) ∙ o)
          by_number false l i more = or_right (occurs j) (list_any occurs is) (more i)

      go : (b : Bool) → occurs k ≡ b → has js k ≡ true → (b || list_any occurs ks) ≡ true → (list_any occurs ks ≡ true → list_any occurs js ≡ true) → list_any occurs js ≡ true
      go true o i e more = at js o i
      go false o i e more = more e

  handed : (ks : List Kind) (o : Option Helper) → list_any occurs ks ≡ true → is_handed ks o ≡ true → has_kind occurs o ≡ true
  handed ks None e h = refl
  handed ks (Some c) e h = any_handed ks c.kinds e h

  names_handed : (ks : List Kind) (names : List (List ℕ)) → list_any occurs ks ≡ true → hands_on ks names ≡ true → Each C names
  names_handed ks [] e h = tt
  names_handed ks (name ∷ names) e h =
      let p = and_parts (is_handed ks (meaning operators name) && not (is_format name)) (hands_on ks names) h in
      let q = and_parts (is_handed ks (meaning operators name)) (not (is_format name)) p.0 in (
        and_from (has_kind occurs (meaning operators name)) (not (is_format name) || letters_occur occurs (conversions_of (drop 7 name))) (handed ks (meaning operators name) e q.0) (or_left (not (is_format name)) (letters_occur occurs (conversions_of (drop 7 name))) q.1),
        names_handed ks names e p.1,
      )

  -- a helper function that is called has a kind that occurs
  pub kind_of : (name : List ℕ) (g : Helper) → meaning operators name ≡ Some g → C name → list_any occurs g.kinds ≡ true
  kind_of name g e c = sym (ap (λ o. has_kind occurs o) e) ∙ (and_parts (has_kind occurs (meaning operators name)) (not (is_format name) || letters_occur occurs (conversions_of (drop 7 name))) c).0

  abbrev unit_told : Helper
  unit_told = told unit_name []

  abbrev refill_told : Helper
  refill_told = told refill_name []

  abbrev piece_told : Helper
  piece_told = told piece_name (declaration plain.Int a ∷ [])

  first_called : (name : List ℕ) (g : Helper) → meaning (by firsts) name ≡ Some g → C name → Each C (stmt_names g.body)
  first_called name g e c = go (bytes_eq name unit_name) (bytes_eq name refill_name) (bytes_eq name piece_name) e
    where
      go : (x y z : Bool) → cond x (Some unit_told) (cond y (Some refill_told) (cond z (Some piece_told) (meaning operators name))) ≡ Some g → Each C (stmt_names g.body)
      go true y z e = let same : unit_told ≡ g = cc e in subst (λ (h : Helper). Each C (stmt_names h.body)) same tt
      go false true z e = let same : refill_told ≡ g = cc e in subst (λ (h : Helper). Each C (stmt_names h.body)) same tt
      go false false true e = let same : piece_told ≡ g = cc e in subst (λ (h : Helper). Each C (stmt_names h.body)) same tt
      go false false false e = names_handed g.kinds (stmt_names g.body) (kind_of name g e c) (found_handed functions each_hands_on name g e)

  -- ---- what formats' functions name

  argument_called : (i : ℕ) → C (argument_name i)
  argument_called i = text_called occurs (argument_name i) (argument_plain i)

  second : (b d : Bool) → (d && true) ≡ true → ((b || (d || false)) && true) ≡ true
  second true d e = refl
  second false d e = one_kind d e

  first_of_two : (b d : Bool) → (b && true) ≡ true → ((b || d) && true) ≡ true
  first_of_two true d e = refl
  first_of_two false d e = absurd (cc e)

  letter_called : (c : ℕ) → list_any (λ q. c == q) (codes "duxcs") ≡ true → each occurs (letter_kinds c) ≡ true → C (codes "%" ++ c ∷ [])
  letter_called c e k = go (c == 100) refl (c == 117) refl (c == 120) refl (c == 99) refl (c == 115) refl e
    where
      at : (d : ℕ) → (c == d) ≡ true → (each occurs (letter_kinds d) ≡ true → C (codes "%" ++ d ∷ [])) → C (codes "%" ++ c ∷ [])
      at d l f = let same : c ≡ d = eqb-true c d l in subst (λ z. C (codes "%" ++ z ∷ [])) (sym same) (f (subst (λ z. each occurs (letter_kinds z) ≡ true) same k))

      go : (b1 : Bool) → (c == 100) ≡ b1 → (b2 : Bool) → (c == 117) ≡ b2 → (b3 : Bool) → (c == 120) ≡ b3 → (b4 : Bool) → (c == 99) ≡ b4 → (b5 : Bool) → (c == 115) ≡ b5 → (b1 || (b2 || (b3 || (b4 || (b5 || false))))) ≡ true → C (codes "%" ++ c ∷ [])
      go true l1 b2 l2 b3 l3 b4 l4 b5 l5 e = at 100 l1 (λ k. one_kind (occurs kind.PrintSigned) k)
      go false l1 true l2 b3 l3 b4 l4 b5 l5 e = at 117 l2 (λ k. second (occurs kind.PrintSigned) (occurs kind.PrintUnsigned) k)
      go false l1 false l2 true l3 b4 l4 b5 l5 e = at 120 l3 (λ k. one_kind (occurs kind.PrintHex) k)
      go false l1 false l2 false l3 true l4 b5 l5 e = at 99 l4 (λ k. refl)
      go false l1 false l2 false l3 false l4 true l5 e = at 115 l5 (λ k. first_of_two (occurs kind.PrintString) (occurs kind.PutString || false) k)
      go false l1 false l2 false l3 false l4 false l5 e = absurd (cc e)

  conversion_called : (c i : ℕ) (rest : List CStmt) → list_any (λ q. c == q) (codes "duxcs") ≡ true → each occurs (letter_kinds c) ≡ true → Each C (stmts_names (stmts rest)) → Each C (stmts_names (stmts (conversion c i ++ rest)))
  conversion_called c i rest e k h = go (c == 99) (letter_called c e k)
    where
      go : (b : Bool) → C (codes "%" ++ c ∷ []) → Each C (stmts_names (stmts ((if b then put_piece (variable (argument_name i)) ∷ [] else refill ∷ call_of (codes "%" ++ c ∷ []) (variable (argument_name i) ∷ []) ∷ []) ++ rest)))
      go true l = (refl, (argument_called i, h))
      go false l = (refl, (l, (argument_called i, h)))

  pieces_called : (percent : Bool) (format : List ℕ) (i : ℕ) (letters : List ℕ) → conversions_behind percent format ≡ Some letters → each occurs (flat_map letter_kinds letters) ≡ true → Each C (stmts_names (stmts (pieces percent format i)))
  pieces_called false [] i letters e k = tt
  pieces_called true [] i letters e k = absurd (cc e)
  pieces_called false (c ∷ format) i letters e k = go (c == 37) e
      (λ l. pieces_called true format i letters l k) (λ l. pieces_called false format i letters l k)
    where
      go : (b : Bool) → conversions_behind b format ≡ Some letters → (conversions_behind true format ≡ Some letters → Each C (stmts_names (stmts (pieces true format i)))) → (conversions_behind false format ≡ Some letters → Each C (stmts_names (stmts (pieces false format i))))
          → Each C (stmts_names (stmts (if b then pieces true format i else put_piece (number c) ∷ pieces false format i)))
      go true e f g = f e
      go false e f g = (refl, g e)
  pieces_called true (c ∷ format) i letters e k = go (c == 37) (list_any (λ q. c == q) (codes "duxcs")) refl (conversions_behind false format) refl e
      (λ j ms l m. pieces_called false format j ms l m)
    where
      go : (b q : Bool) → list_any (λ q. c == q) (codes "duxcs") ≡ q → (o : Option (List ℕ)) → conversions_behind false format ≡ o → (if b then o else if q then option_map (λ letters. c ∷ letters) o else None) ≡ Some letters
          → ((j : ℕ) (ms : List ℕ) → conversions_behind false format ≡ Some ms → each occurs (flat_map letter_kinds ms) ≡ true → Each C (stmts_names (stmts (pieces false format j))))
          → Each C (stmts_names (stmts (if b then put_piece (number c) ∷ pieces false format i else conversion c i ++ pieces false format (suc i))))
      go true q l o m e more = (refl, more i letters (m ∙ e) k)
      go false true l (Some ms) m e more =
          let same : letters ≡ c ∷ ms = cc e in
          let ks : each occurs (letter_kinds c ++ flat_map letter_kinds ms) ≡ true = subst (λ z. each occurs (flat_map letter_kinds z) ≡ true) same k in
          conversion_called c i (pieces false format (suc i)) l (each_first occurs (letter_kinds c) (flat_map letter_kinds ms) ks) (more (suc i) ms m (each_last occurs (letter_kinds c) (flat_map letter_kinds ms) ks))
      go false true l None m e more = absurd (cc e)
      go false false l o m e more = absurd (cc e)

  format_called : (format : List ℕ) → letters_occur occurs (conversions_of format) ≡ true → Each C (stmt_names (print_format format).body)
  format_called format e = (refl, go (conversions_of format) refl e)
    where
      go : (o : Option (List ℕ)) → conversions_of format ≡ o → letters_occur occurs o ≡ true → Each C (stmts_names (stmts (pieces false format 0)))
      go None l e = absurd (cc e)
      go (Some letters) l e = pieces_called false format 0 letters l e

  -- one of those that have such a name
  formats_called : (formats : List (List ℕ)) (name : List ℕ) (g : Helper) → meaning (by (map print_format formats)) name ≡ Some g → C name → Each C (stmt_names g.body)
  formats_called [] name g e c = absurd (cc e)
  formats_called (x ∷ xs) name g e c = go (bytes_eq name (format_name x)) refl e (λ l. formats_called xs name g l c)
    where
      go : (b : Bool) → bytes_eq name (format_name x) ≡ b → cond b (Some (print_format x)) (meaning (by (map print_format xs)) name) ≡ Some g → (meaning (by (map print_format xs)) name ≡ Some g → Each C (stmt_names g.body)) → Each C (stmt_names g.body)
      go true l e more =
          let same : print_format x ≡ g = cc e in
          let there : letters_occur occurs (conversions_of x) ≡ true = subst (λ z. is_called occurs z ≡ true) ((bytes_eq-Decides name (format_name x)).0 l) c in
          subst (λ (h : Helper). Each C (stmt_names h.body)) same (format_called x there)
      go false l e more = more e

  -- ---- what is reached

  module _ (texts : List CItem) (calls : ItemsCall occurs texts) where
    abbrev whole : List CItem
    whole = with_helpers texts

    abbrev behind : List CItem
    behind = items_of (format_functions texts) ++ texts

    body_called : (name : List ℕ) → C name → Each C (body_names whole name)
    body_called name c = subst (λ z. Each C (body_names z name)) (sym (whole_is texts)) (go (meaning (by firsts) name) refl)
      where
        of_format : (o : Option Helper) → meaning (by (format_functions texts)) name ≡ o → Each C (body_names behind name)
        of_format (Some g) e = subst (λ z. Each C z) (sym (head_found (format_functions texts) texts name g e)) (formats_called (formats_in texts) name g e c)
        of_format None e = subst (λ z. Each C z) (sym (head_passed (format_functions texts) texts name e)) (calls.bodies name)

        go : (o : Option Helper) → meaning (by firsts) name ≡ o → Each C (body_names (items_of firsts ++ behind) name)
        go (Some g) e = subst (λ z. Each C z) (sym (head_found firsts behind name g e)) (first_called name g e c)
        go None e = subst (λ z. Each C z) (sym (head_passed firsts behind name e)) (of_format (meaning (by (format_functions texts)) name) refl)

    named_called : (names : List (List ℕ)) (f : List ℕ) → Each C names → list_any (λ g. contains (body_names whole g) f) names ≡ true → C f
    named_called [] f h e = absurd (cc e)
    named_called (g ∷ names) f h e = go (contains (body_names whole g) f) refl e (λ l. named_called names f h.1 l)
      where
        go : (b : Bool) → contains (body_names whole g) f ≡ b → (b || list_any (λ g. contains (body_names whole g) f) names) ≡ true → (list_any (λ g. contains (body_names whole g) f) names ≡ true → C f) → C f
        go true l e more = each_has C (body_names whole g) f (body_called g h.0) l
        go false l e more = more e

    next_called : (names : List (List ℕ)) → Each C names → Each C (next_reached whole names)
    next_called names h = each_left C (λ f. contains names f || list_any (λ g. contains (body_names whole g) f) names) (defined_in whole) passed
      where
        passed : (f : List ℕ) → (contains names f || list_any (λ g. contains (body_names whole g) f) names) ≡ true → C f
        passed f e = go (contains names f) refl e
          where
            go : (b : Bool) → contains names f ≡ b → (b || list_any (λ g. contains (body_names whole g) f) names) ≡ true → C f
            go true l e = each_has C names f h l
            go false l e = named_called names f h e

    steps_called : (n : ℕ) (names : List (List ℕ)) → Each C names → Each C (reached_in n whole names)
    steps_called zero names h = h
    steps_called (suc n) names h = steps_called n (next_reached whole names) (next_called names h)

    texts_called : (names : List (List ℕ)) → Each (λ name. IsTextName name) names → Each C names
    texts_called [] h = tt
    texts_called (name ∷ names) h = (text_called occurs name h.0, texts_called names h.1)

    values_called : Each C (names_at_file_scope whole)
    values_called =
        subst (λ z. Each C z) (sym (ap names_at_file_scope (whole_is texts) ∙ (no_values firsts behind ∙ no_values (format_functions texts) texts)))
        (texts_called (names_at_file_scope texts) calls.values)

    pub reached_called : Each C (reached whole)
    reached_called = steps_called (length (defined_in whole)) (next_reached whole (codes "main" ∷ names_at_file_scope whole)) (next_called (codes "main" ∷ names_at_file_scope whole) (refl, values_called))

    -- ---- the sum

    kept_are_for : (hs : List Helper) → EachFound hs → total (λ h. if contains (reached whole) h.name then helper_room h else 0) hs ≤ total (λ h. if list_any occurs h.kinds then helper_room h else 0) hs
    kept_are_for [] f = omega arith
    kept_are_for (h ∷ hs) f = go (contains (reached whole) h.name) refl (list_any occurs h.kinds) refl (kept_are_for hs f.1)
      where
        go : (b : Bool) → contains (reached whole) h.name ≡ b → (c : Bool) → list_any occurs h.kinds ≡ c → total (λ h. if contains (reached whole) h.name then helper_room h else 0) hs ≤ total (λ h. if list_any occurs h.kinds then helper_room h else 0) hs
            → (if b then helper_room h else 0) + total (λ h. if contains (reached whole) h.name then helper_room h else 0) hs ≤ (if c then helper_room h else 0) + total (λ h. if list_any occurs h.kinds then helper_room h else 0) hs
        go true e true k more = omega (arith, more)
        go true e false k more = absurd (cc (sym k ∙ kind_of h.name h f.0 (each_has C (reached whole) h.name reached_called e)))
        go false e c k more = omega (arith, more)

    pub kept_functions : total (λ h. if contains (reached whole) h.name then helper_room h else 0) functions ≤ total (λ h. if list_any occurs h.kinds then helper_room h else 0) functions
    kept_functions = kept_are_for functions all_found
