-- The function of a format prints, piece by piece.
use Rattle.std.proofs.Common.{◌≡◌, ℕ, suc, ◌+◌, ◌*◌, ◌≤◌, Bool, true, false, List, [], ◌∷◌, ◌++◌, length, map, drop, Option, Some, None, refl, sym, ap, ◌∙◌, subst, arith, ⊎_elim}
use Rattle.std.specs.Prelude.{◌&&◌, ◌||◌, ◌==◌, if◌then◌else◌, codes}
use Rattle.std.specs.List.{list_any}
use Rattle.std.specs.Option.{option_map, option_map_or}
use Rattle.std.proofs.lemmas.Bool.{eqb-true, or_cases}
use Rattle.c_syntax.specs.Plain.{CExprs, CStmt, Call, Var, exprs, Do_expr, Block, MoreStmt, stmts}
use Rattle.c_syntax.specs.Words.{meaning}
use Rattle.c_types.specs.Types.{CType, Void}
use Rattle.c_types.specs.Scope.{Scope, Names, Entity, Routine, entity_of}
use Rattle.c_types.specs.Operands.{conversions_behind}
use Rattle.c_eval.specs.Environment.{function_parameters, named_callee, block_objects, Environment, in_block, behind, Direct}
use Rattle.c_eval.specs.Text.{Definition, Text, function_named}
use Rattle.c_eval.specs.Helpers.{Helpers, helper_world}
use Rattle.c_helpers.specs.Frames.{beyond, waiting, waiting_all}
use Rattle.c_helpers.specs.Functions.{unit_name, refill_name, piece_name, spend_unit, refill, put_piece, call_of, argument_name, conversion, pieces, format_name, print_format}
use Rattle.c_helpers.specs.Terms.{number, variable}
use Rattle.c_lowered.specs.Expressions.{known_name}
use Rattle.c_memory.specs.Follows.{worth}
use Rattle.c_memory.proofs.Following.{worth_more}
use Rattle.c_landing.specs.Landing.{Setting}
use Rattle.c_landing.specs.Few.{words_there}
use Rattle.c_valued.specs.Steps.{steps}
use Rattle.c_stated.specs.Statements.{stmt_need, stmts_need, stmts_steps}
use Rattle.c_followed.specs.Bodies.{inside, beginning}
use Rattle.c_followed.specs.Printed.{AreStraight, PrinterIs}
use Rattle.c_products.specs.MovesFound.{declared_in, definition}
use Rattle.c_formats.specs.Laws.{parameters_from, format_parameters, has_letter}
use Rattle.c_formats.proofs.Named.{no_argument, behind_parameters, parameter_found, next_dropped, letter_in}
use Rattle.c_compiled.specs.Helped.{IsRoutine, calls_pieces}
use Rattle.c_compiled.proofs.Checked.{is_object, is_named, has_words, few, all_few, fits, all_fit, statement_is, breaks_nowhere}
use Rattle.c_compiled.specs.Formatted.{IsFormat, FormatsPrint}

both : (a b : Bool) → a ≡ true → b ≡ true → (a && b) ≡ true
both true true e f = refl
both true false e f = f
both false b e f = e

by_if : {A : Type 0} (P : A → Type 0) (b : Bool) (x y : A) → P x → P y → P (if b then x else y)
by_if P true x y p q = p
by_if P false x y p q = q

-- the letters of conversions
by_letter : (P : ℕ → Type 0) → P 100 → P 117 → P 120 → P 99 → P 115 → (c : ℕ) → list_any (λ other. c == other) (codes "duxcs") ≡ true → P c
by_letter P d u x h s c e =
    ⊎_elim (λ z. subst P (sym (eqb-true c 100 z)) d)
    (λ e. ⊎_elim (λ z. subst P (sym (eqb-true c 117 z)) u)
    (λ e. ⊎_elim (λ z. subst P (sym (eqb-true c 120 z)) x)
    (λ e. ⊎_elim (λ z. subst P (sym (eqb-true c 99 z)) h)
    (λ e. ⊎_elim (λ z. subst P (sym (eqb-true c 115 z)) s) (λ e. absurd (cc e)) (or_cases (c == 115) false e))
    (or_cases (c == 99) (c == 115 || false) e))
    (or_cases (c == 120) (c == 99 || (c == 115 || false)) e))
    (or_cases (c == 117) (c == 120 || (c == 99 || (c == 115 || false))) e))
    (or_cases (c == 100) (c == 117 || (c == 120 || (c == 99 || (c == 115 || false)))) e)

-- ---- calls

-- in a scope a name is that of a function of the text
record IsCallable (s : Scope) (name : List ℕ) : Type 0 where
  pub type : CType
  pub begun : Bool
  pub means : entity_of s name ≡ Some (Routine type begun)

direct_named : (known : Option (List ℕ)) (name : List ℕ) (t : CType) → is_named known (Direct name (function_parameters t)) ≡ true
direct_named None name t = refl
direct_named (Some k) name t = refl

-- a call of a function that may be called
called : (s : Scope) (name : List ℕ) (es : CExprs) → IsCallable s name → ((t : CType) → calls_pieces (Direct name (function_parameters t)) ≡ true) → ((t : CType) → has_words (Direct name (function_parameters t)) (waiting_all 1 (beyond (Var 0 name)) es) ≡ true) → all_few calls_pieces s es ≡ true
    → few calls_pieces s (Call 0 (Var 0 name) es) ≡ true
called s name es k may words h =
    subst (λ (z : Option Entity). ((calls_pieces (named_callee name z) && is_named (known_name (Var 0 name)) (named_callee name z) && has_words (named_callee name z) (waiting_all 1 (beyond (Var 0 name)) es)) && all_few calls_pieces s es) ≡ true) (sym k.means)
    (both _ _ (both _ _ (both _ _ (may k.type) (direct_named (known_name (Var 0 name)) name k.type)) (words k.type)) h)

-- what a scope knows in the function of a format
record KnowsPieces (letters : List ℕ) (s : Scope) : Type 0 where
  pub unit : IsCallable s unit_name
  pub refill : IsCallable s refill_name
  pub piece : IsCallable s piece_name
  pub converts : (letter : ℕ) → has_letter letters letter ≡ true → (letter ≡ 99 → ⊥) → IsCallable s (codes "%" ++ letter ∷ [])
  pub argument : (k c : ℕ) (cs : List ℕ) → drop k letters ≡ c ∷ cs → is_object (entity_of s (argument_name k)) ≡ true

module _ (letters : List ℕ) (u : ℕ) where
  -- statements one behind the other that print, within so many operations
  record Prints (most : ℕ) (ts : List CStmt) : Type 0 where
    pub straight : AreStraight (stmts ts)
    pub fits : (site : Environment) → KnowsPieces letters site.scope → all_fit calls_pieces (stmts ts) site ≡ true
    pub objects : (s : Scope) → block_objects s (stmts ts) ≡ []
    pub need : (site : Environment) → stmts_need (stmts ts) site ≤ 2
    pub cost : (site : Environment) → stmts_steps u (stmts ts) site ≤ most

  nothing : Prints 0 []
  nothing = record { straight = tt; fits = λ site k. refl; objects = λ s. refl; need = λ site. omega arith; cost = λ site. omega arith }

  looser : (a b : ℕ) (ts : List CStmt) → a ≤ b → Prints a ts → Prints b ts
  looser a b ts le p = record { straight = p.straight; fits = p.fits; objects = p.objects; need = p.need; cost = λ site. (let c = p.cost site in omega (arith, c, le)) }

  -- one call more
  more : (f : List ℕ) (es : CExprs) (cost most : ℕ) (ts : List CStmt) → ((s : Scope) → KnowsPieces letters s → few calls_pieces s (Call 0 (Var 0 f) es) ≡ true) → waiting (Call 0 (Var 0 f) es) ≤ 2 → steps u (Call 0 (Var 0 f) es) ≤ cost → Prints most ts → Prints (cost + most) (Do_expr (Call 0 (Var 0 f) es) ∷ ts)
  more f es cost most ts fit wait step p = record {
    straight = p.straight;
    fits = λ site k. both _ _ (fit site.scope k) (p.fits (behind (Do_expr (Call 0 (Var 0 f) es)) site) k);
    objects = λ s. p.objects s;
    need = λ site. (let n = p.need (behind (Do_expr (Call 0 (Var 0 f) es)) site) in omega (arith, n, wait));
    cost = λ site. (let c = p.cost (behind (Do_expr (Call 0 (Var 0 f) es)) site) in omega (arith, c, step));
  }

  character : (c most : ℕ) (ts : List CStmt) → Prints most ts → Prints (18 + u + most) (put_piece (number c) ∷ ts)
  character c most ts p = more piece_name (exprs (number c ∷ [])) (18 + u) most ts (λ s k. called s piece_name (exprs (number c ∷ [])) k.piece (λ t. refl) (λ t. refl) refl) (omega arith) (omega arith) p

  argument_put : (j c : ℕ) (cs : List ℕ) (most : ℕ) (ts : List CStmt) → drop j letters ≡ c ∷ cs → Prints most ts → Prints (18 + u + most) (put_piece (variable (argument_name j)) ∷ ts)
  argument_put j c cs most ts e p =
      more piece_name (exprs (variable (argument_name j) ∷ [])) (18 + u) most ts (λ s k. called s piece_name (exprs (variable (argument_name j) ∷ [])) k.piece (λ t. refl) (λ t. refl) (both _ _ (k.argument j c cs e) refl)) (omega arith) (omega arith) p

  refilled : (most : ℕ) (ts : List CStmt) → Prints most ts → Prints (12 + u + most) (refill ∷ ts)
  refilled most ts p = more refill_name (exprs []) (12 + u) most ts (λ s k. called s refill_name (exprs []) k.refill (λ t. refl) (λ t. refl) refl) (omega arith) (omega arith) p

  -- the function of a letter may be called
  abbrev MayConvert : ℕ → Type 0
  MayConvert c = ((t : CType) → calls_pieces (Direct (codes "%" ++ c ∷ []) (function_parameters t)) ≡ true)

  may_convert : (c : ℕ) → list_any (λ other. c == other) (codes "duxcs") ≡ true → (c ≡ 99 → ⊥) → MayConvert c
  may_convert c e apart = by_letter (λ c. (c ≡ 99 → ⊥) → MayConvert c) (λ _ t. refl) (λ _ t. refl) (λ _ t. refl) (λ no t. absurd (no refl)) (λ _ t. refl) c e apart

  converted : (j c : ℕ) (cs : List ℕ) (most : ℕ) (ts : List CStmt) → drop j letters ≡ c ∷ cs → list_any (λ other. c == other) (codes "duxcs") ≡ true → (c ≡ 99 → ⊥) → Prints most ts
      → Prints (18 + u + most) (call_of (codes "%" ++ c ∷ []) (variable (argument_name j) ∷ []) ∷ ts)
  converted j c cs most ts e is apart p =
      more (codes "%" ++ c ∷ []) (exprs (variable (argument_name j) ∷ [])) (18 + u) most ts
      (λ s k. called s (codes "%" ++ c ∷ []) (exprs (variable (argument_name j) ∷ [])) (k.converts c (letter_in j letters c cs e) apart) (may_convert c is apart) (λ t. refl) (both _ _ (k.argument j c cs e) refl)) (omega arith) (omega arith) p

  abbrev K : ℕ
  K = 30 + 2 * u

  pays : (n : ℕ) → worth K (suc n) ≡ K + worth K n
  pays n = worth_more K n

  conversion_prints : (j c : ℕ) (cs : List ℕ) (n : ℕ) (ts : List CStmt) → drop j letters ≡ c ∷ cs → list_any (λ other. c == other) (codes "duxcs") ≡ true → Prints (worth K n) ts → Prints (worth K (suc n)) (conversion c j ++ ts)
  conversion_prints j c cs n ts e is p = by (c == 99) refl
    where
      by : (b : Bool) → (c == 99) ≡ b → Prints (worth K (suc n)) ((if b then put_piece (variable (argument_name j)) ∷ [] else refill ∷ call_of (codes "%" ++ c ∷ []) (variable (argument_name j) ∷ []) ∷ []) ++ ts)
      by true same = looser _ _ (put_piece (variable (argument_name j)) ∷ ts) (let w = pays n in omega (arith, w)) (argument_put j c cs (worth K n) ts e p)
      by false apart = looser _ _ (refill ∷ call_of (codes "%" ++ c ∷ []) (variable (argument_name j) ∷ []) ∷ ts) (let w = pays n in omega (arith, w)) (refilled _ _ (converted j c cs (worth K n) ts e is (λ same. other same) p))
        where
          other : c ≡ 99 → ⊥
          other same = absurd (let one : (99 == 99) ≡ false = subst (λ z. (z == 99) ≡ false) same apart in cc one)

  -- a byte of the format, and what follows it
  by_byte : (c : ℕ) (format : List ℕ) (j : ℕ) (rest : List ℕ) (b : Bool) → conversions_behind b format ≡ Some rest → (conversions_behind true format ≡ Some rest → Prints (worth K (length format)) (pieces true format j)) → (conversions_behind false format ≡ Some rest → Prints (worth K (length format)) (pieces false format j))
      → Prints (worth K (suc (length format))) (if b then pieces true format j else put_piece (number c) ∷ pieces false format j)
  by_byte c format j rest true e percent plain = looser _ _ (pieces true format j) (let w = pays (length format) in omega (arith, w)) (percent e)
  by_byte c format j rest false e percent plain = looser _ _ (put_piece (number c) ∷ pieces false format j) (let w = pays (length format) in omega (arith, w)) (character c _ _ (plain e))

  -- a byte behind a percent
  by_letters : (c : ℕ) (format : List ℕ) (j : ℕ) (rest : List ℕ) → drop j letters ≡ rest → (b : Bool) → list_any (λ other. c == other) (codes "duxcs") ≡ b → (x : Option (List ℕ)) → conversions_behind false format ≡ x → (if b then option_map (λ letters. c ∷ letters) x else None) ≡ Some rest
      → ((ls : List ℕ) → conversions_behind false format ≡ Some ls → drop (suc j) letters ≡ ls → Prints (worth K (length format)) (pieces false format (suc j))) → Prints (worth K (suc (length format))) (conversion c j ++ pieces false format (suc j))
  by_letters c format j rest d true is (Some ls) f e next =
      let same : c ∷ ls ≡ rest = cc e in
      let here = d ∙ sym same in conversion_prints j c ls (length format) (pieces false format (suc j)) here is (next ls f (next_dropped j letters c ls here))
  by_letters c format j rest d true is None f e next = absurd (cc e)
  by_letters c format j rest d false is x f e next = absurd (cc e)

  by_conversion : (c : ℕ) (format : List ℕ) (j : ℕ) (rest : List ℕ) (b : Bool) → (if b then conversions_behind false format else (if list_any (λ other. c == other) (codes "duxcs") then option_map (λ letters. c ∷ letters) (conversions_behind false format) else None)) ≡ Some rest → drop j letters ≡ rest
      → (conversions_behind false format ≡ Some rest → Prints (worth K (length format)) (pieces false format j)) → ((ls : List ℕ) → conversions_behind false format ≡ Some ls → drop (suc j) letters ≡ ls → Prints (worth K (length format)) (pieces false format (suc j)))
      → Prints (worth K (suc (length format))) (if b then put_piece (number c) ∷ pieces false format j else conversion c j ++ pieces false format (suc j))
  by_conversion c format j rest true e d plain next = looser _ _ (put_piece (number c) ∷ pieces false format j) (let w = pays (length format) in omega (arith, w)) (character c _ _ (plain e))
  by_conversion c format j rest false e d plain next = by_letters c format j rest d (list_any (λ other. c == other) (codes "duxcs")) refl (conversions_behind false format) refl e next

  -- from a place of the format on, behind so many conversions
  mutual
    plainly : (format : List ℕ) (j : ℕ) (rest : List ℕ) → conversions_behind false format ≡ Some rest → drop j letters ≡ rest → Prints (worth K (length format)) (pieces false format j)
    plainly [] j rest e d = looser 0 _ [] (omega arith) nothing
    plainly (c ∷ format) j rest e d = by_byte c format j rest (c == 37) e (λ k. behind_percent format j rest k d) (λ k. plainly format j rest k d)

    behind_percent : (format : List ℕ) (j : ℕ) (rest : List ℕ) → conversions_behind true format ≡ Some rest → drop j letters ≡ rest → Prints (worth K (length format)) (pieces true format j)
    behind_percent [] j rest e d = looser 0 _ [] (omega arith) nothing
    behind_percent (c ∷ format) j rest e d = by_conversion c format j rest (c == 37) e d (λ k. plainly format j rest k d) (λ ls k l. plainly format (suc j) ls k l)

-- ---- the whole

module _ (format letters : List ℕ) (f : Definition) (is : IsFormat format letters f) where
  abbrev own : Definition
  own = definition Void (format_parameters letters) (print_format format) is.tags is.names is.defined

  abbrev outer : Names
  outer = declared_in (format_parameters letters) [] ++ is.names

  -- names that are no digits are hidden by no parameter
  seen : (s : Scope) → s.block ++ s.outer ≡ outer → (c : ℕ) (cs : List ℕ) → ((48 ≤ c) × (c ≤ 57) → ⊥) → IsRoutine is.names (c ∷ cs) → IsCallable s (c ∷ cs)
  seen s e c cs apart k = record {
    type = k.type;
    begun = k.begun;
    means = ap (λ z. meaning z (c ∷ cs)) e ∙ (behind_parameters is.names (c ∷ cs) 0 letters [] (λ j le lt. no_argument c cs j (let few = is.few in omega (arith, few, lt)) apart) ∙ k.means);
  }

  knows : (s : Scope) → s.block ++ s.outer ≡ outer → KnowsPieces letters s
  knows s e = record {
    unit = seen s e 117 (codes "nit of fuel") (λ z. omega (arith, z.0, z.1)) is.unit;
    refill = seen s e 115 (codes "econd fuel") (λ z. omega (arith, z.0, z.1)) is.refill;
    piece = seen s e 112 (codes "iece of text") (λ z. omega (arith, z.0, z.1)) is.piece;
    converts = λ letter has apart. seen s e 37 (letter ∷ []) (λ z. omega (arith, z.0, z.1)) (is.converts letter has apart);
    argument = λ k c cs d. ap (λ z. is_object z) (ap (λ z. meaning z (argument_name k)) e ∙ ap (λ z. meaning outer (argument_name z)) (omega arith) ∙ parameter_found is.names 0 k letters [] c cs (let few = is.few in omega (arith, few)) d);
  }

  counted : (i : ℕ) (ls : List ℕ) → length (map (λ x. x.0) (parameters_from i ls)) ≡ length ls
  counted i [] = refl
  counted i (c ∷ cs) = ap suc (counted (suc i) cs)

  there : words_there (format_name format) ≡ 7 + length letters
  there = ap (λ z. 7 + option_map_or length z 0) is.conversions

  module _ (S : Setting) (t : Text) (h : Helpers) (u rate : ℕ) (found : function_named t (format_name format) ≡ Some f) (le : worth (30 + 2 * u) (length format) ≤ rate) where
    printed : Prints letters u (worth (30 + 2 * u) (length format)) (pieces false format 0)
    printed = plainly letters u format 0 letters is.conversions refl

    abbrev whole : CStmt
    whole = Block (MoreStmt spend_unit (stmts (pieces false format 0)))

    unit_fits : fits calls_pieces spend_unit (in_block 0 (beginning S own)) ≡ true
    unit_fits = called (in_block 0 (beginning S own)).scope unit_name (exprs []) (knows (in_block 0 (beginning S own)).scope refl).unit (λ t. refl) (λ t. refl) refl

    whole_fits : fits calls_pieces whole (beginning S own) ≡ true
    whole_fits = both _ _ unit_fits (printed.fits (behind spend_unit (in_block 0 (beginning S own))) (knows (behind spend_unit (in_block 0 (beginning S own))).scope refl))

    printer : PrinterIs S t h u rate calls_pieces (format_name format) own
    printer = record {
      found = found ∙ ap Some is.is;
      rest = stmts (pieces false format 0);
      body = refl;
      straight = printed.straight;
      is = λ calls. statement_is (inside S own) (helper_world t S.input (format_name format) calls) calls_pieces whole (beginning S own) whole_fits;
      breaks = breaks_nowhere calls_pieces false false whole (beginning S own) whole_fits;
      framed = (let none = printed.objects (in_block 0 (beginning S own)).scope in let wait = printed.need (behind spend_unit (in_block 0 (beginning S own))) in let n = counted 0 letters in let room = there in frame none wait n room);
      paid = (let cost = printed.cost (behind spend_unit (in_block 0 (beginning S own))) in omega (arith, cost, le));
    }
      where
        frame : block_objects (in_block 0 (beginning S own)).scope (stmts (pieces false format 0)) ≡ [] → stmts_need (stmts (pieces false format 0)) (behind spend_unit (in_block 0 (beginning S own))) ≤ 2 → length (map (λ x. x.0) (parameters_from 0 letters)) ≡ length letters → words_there (format_name format) ≡ 7 + length letters
            → suc (length own.params) + stmt_need whole (beginning S own) ≤ h.charge (format_name format) + words_there (format_name format)
        frame none wait n room = rw none omega (arith, wait, n, room)

pub formats_print : FormatsPrint
formats_print S t h pieces rate format letters f is found le = subst (λ z. PrinterIs S t h pieces rate calls_pieces (format_name format) z) (sym is.is) (printer format letters f is S t h pieces rate found le)
