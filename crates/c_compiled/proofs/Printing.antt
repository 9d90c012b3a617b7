-- The functions of `%s` and of `puts`, and what helper functions call.
use Rattle.std.proofs.Common.{◌≡◌, ℕ, suc, ◌+◌, Bool, true, false, List, [], ◌∷◌, length, map, Some, None, refl, sym, ap, ◌∙◌, subst, arith}
use Rattle.std.specs.Prelude.{◌||◌, codes}
use Rattle.std.specs.Str.{bytes_eq}
use Rattle.std.proofs.lemmas.Slice.Eq.{bytes_eq-Decides}
use Rattle.c_syntax.specs.Plain.{CExpr, CStmts, Char, stmts}
use Rattle.c_types.specs.Scope.{contains}
use Rattle.c_eval.specs.Environment.{function_parameters, named_callee, behind, in_block}
use Rattle.c_eval.specs.Helpers.{helper_world}
use Rattle.c_helpers.specs.Functions.{Helper, p, print_string, put_string, spend_unit, put_piece, raised, call_of, unit_name, piece_name}
use Rattle.c_helpers.specs.Meanings.{known_to_helpers}
use Rattle.c_helpers.specs.Simple.{helper_frame}
use Rattle.c_helpers.specs.Terms.{number, variable, pointed, give_back}
use Rattle.c_lowered.specs.Counts.{is_known_to_helpers}
use Rattle.c_valued.specs.Steps.{steps}
use Rattle.c_stated.specs.Statements.{stmt_need, stmt_steps, stmts_steps}
use Rattle.c_followed.specs.Bodies.{inside, beginning}
use Rattle.c_followed.specs.Printed.{PrinterIs}
use Rattle.c_followed.specs.Spelled.{spelling, test_site, letter_site, rest_site, SpellerIs}
use Rattle.c_compiled.specs.Helped.{plain_functions, calls_plain, calls_pieces, CallsOfPlainHelpers, StringsAreSpelled, StringsArePut}
use Rattle.c_compiled.proofs.Checked.{fits, expr_is, statement_is, statements_are}
use Rattle.c_compiled.proofs.Plain.{own_definition, le_of}

-- ---- `%s`

abbrev test : CExpr
test = pointed Char (variable p)

abbrev rest : CStmts
rest = stmts (raised p ∷ [])

pub strings_are_spelled : StringsAreSpelled
strings_are_spelled S t h rate spare_rate f found is le some refilled = subst (λ z. SpellerIs S t h rate spare_rate calls_plain print_string.name z) (sym is.is) (record {
  found = found ∙ ap Some is.is;
  test = test;
  letter = test;
  rest = rest;
  body = refl;
  straight = tt;
  tests = λ calls. expr_is (inside S (own_definition print_string f is)) (helper_world t S.input print_string.name calls) calls_plain test (test_site S (own_definition print_string f is)) refl;
  letters = λ calls. expr_is (inside S (own_definition print_string f is)) (helper_world t S.input print_string.name calls) calls_plain test (letter_site test S (own_definition print_string f is)) refl;
  goes_on = λ calls. statements_are (inside S (own_definition print_string f is)) (helper_world t S.input print_string.name calls) calls_plain rest (rest_site test test S (own_definition print_string f is)) refl;
  unit_params = function_parameters (is.knows unit_name refl refl).type;
  unit = ap (λ z. named_callee unit_name z) (is.knows unit_name refl refl).means;
  piece_params = function_parameters (is.knows piece_name refl refl).type;
  piece = ap (λ z. named_callee piece_name z) (is.knows piece_name refl refl).means;
  breaks = ((tt, (tt, (tt, tt))), tt);
  framed = (let need = le_of (suc (length (own_definition print_string f is).params) + stmt_need (spelling test test rest) (beginning S (own_definition print_string f is))) (helper_frame print_string) refl in omega (arith, need, le));
  paid = (let paid = le_of (stmt_steps 0 (spelling test test rest) (beginning S (own_definition print_string f is)) + 2) 1021 refl in omega (arith, paid, some));
  refilled = (let letter = le_of (steps 0 test) 22 refl in omega (arith, letter, refilled));
})

-- ---- `puts`

abbrev behind_unit : CStmts
behind_unit = stmts (call_of (codes "%s") (variable p ∷ []) ∷ put_piece (number 10) ∷ give_back (number 0) ∷ [])

pub strings_are_put : StringsArePut
strings_are_put S t h pieces rate f found is le some = subst (λ z. PrinterIs S t h pieces rate calls_pieces put_string.name z) (sym is.is) (record {
  found = found ∙ ap Some is.is;
  rest = behind_unit;
  body = refl;
  straight = tt;
  is = λ calls. statement_is (inside S (own_definition put_string f is)) (helper_world t S.input put_string.name calls) calls_pieces put_string.body (beginning S (own_definition put_string f is)) whole;
  breaks = (tt, (tt, (tt, (tt, tt))));
  framed = (let need = le_of (suc (length (own_definition put_string f is).params) + stmt_need put_string.body (beginning S (own_definition put_string f is))) (helper_frame put_string) refl in omega (arith, need, le));
  paid = (let cost : stmts_steps pieces behind_unit (behind spend_unit (in_block 0 (beginning S (own_definition put_string f is)))) ≡ (18 + pieces) + ((16 + pieces) + 1) = refl in omega (arith, cost, some));
})
  where
    whole : fits calls_pieces put_string.body (beginning S (own_definition put_string f is)) ≡ true
    whole = rw ((is.knows unit_name refl refl).means, (is.knows (codes "%s") refl refl).means, (is.knows piece_name refl refl).means) refl

-- ---- what plain helper functions call

-- each of them has it
module _ (P : List ℕ → Type 0) where
  abbrev EachName : List Helper → Type 0
  EachName [] = Unit {0}
  EachName (h ∷ hs) = P h.name × EachName hs

  named_one : (hs : List Helper) → EachName hs → (name : List ℕ) → contains (map (λ h. h.name) hs) name ≡ true → P name
  named_one [] each name h = absurd (cc h)
  named_one (g ∷ hs) each name h = go (bytes_eq name g.name) refl (λ z. named_one hs each.1 name z) h
    where
      go : (b : Bool) → bytes_eq name g.name ≡ b → (contains (map (λ h. h.name) hs) name ≡ true → P name) → (b || contains (map (λ h. h.name) hs) name) ≡ true → P name
      go true same next h = subst P (sym ((bytes_eq-Decides name g.name).0 same)) each.0
      go false same next h = next h

own_code : EachName (λ name. is_known_to_helpers name ≡ false) plain_functions
own_code = (refl, (refl, (refl, (refl, (refl, (refl, (refl, (refl, (refl, (refl, (refl, (refl, (refl, (refl, (refl, (refl, (refl, (refl, (refl, (refl, (refl, (refl, (refl, (refl, (refl, (refl, (refl, (refl, (refl, (refl, (refl, (refl, (refl, (refl, (refl, tt)))))))))))))))))))))))))))))))))))

not_known : (ration : ℕ) → EachName (λ name. known_to_helpers ration name ≡ None) plain_functions
not_known ration = (refl, (refl, (refl, (refl, (refl, (refl, (refl, (refl, (refl, (refl, (refl, (refl, (refl, (refl, (refl, (refl, (refl, (refl, (refl, (refl, (refl, (refl, (refl, (refl, (refl, (refl, (refl, (refl, (refl, (refl, (refl, (refl, (refl, (refl, (refl, tt)))))))))))))))))))))))))))))))))))

pub calls_of_plain_helpers : CallsOfPlainHelpers
calls_of_plain_helpers S bytes = record {
  can = record {
    direct = λ name params is. named_one (λ name. is_known_to_helpers name ≡ false) plain_functions own_code name is;
    built_in = λ name params is. (let e : name ≡ codes "putchar" = (bytes_eq-Decides name (codes "putchar")).0 is in subst (λ z. bytes_eq z (codes "puts") ≡ false) (sym e) refl);
    format = refl;
    bytes = bytes;
  };
  through = λ params. refl;
  unknown = λ ration name params is. named_one (λ name. known_to_helpers ration name ≡ None) plain_functions (not_known ration) name is;
}
