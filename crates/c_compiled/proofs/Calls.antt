-- Calls where operators became calls.
use Rattle.std.proofs.Common.{◌≡◌, ℕ, ◌+◌, ◌≤◌, Bool, true, false, List, [], ◌∷◌, ◌++◌, length, Option, Some, None, Ok, refl, sym, ap, ap₂, ◌∙◌, subst, arith, take, drop, take-append-drop}
use Rattle.std.specs.Prelude.{◌&&◌, ◌||◌, not, is_some, if◌then◌else◌, codes}
use Rattle.std.specs.List.{list_any}
use Rattle.std.specs.Option.{option_map_or}
use Rattle.std.specs.Str.{bytes_eq}
use Rattle.std.proofs.lemmas.Slice.Eq.{bytes_eq-Decides}
use Rattle.c_syntax.specs.Plain as plain
use Rattle.c_syntax.specs.Plain.{CExpr, CExprs, exprs}
use Rattle.c_syntax.specs.declared.tree.UnOp.TheVariants as unary
use Rattle.c_syntax.specs.declared.tree.StepOp.{StepOp}
use Rattle.c_syntax.specs.declared.tree.StepOp.TheVariants as step
use Rattle.c_syntax.specs.declared.tree.BinOp.{BinOp}
use Rattle.c_syntax.specs.declared.tree.BinOp.TheVariants as binary
use Rattle.c_types.specs.declared.fault.TypeFault.TheVariants as fault
use Rattle.c_types.specs.Types as type
use Rattle.c_types.specs.Types.{CType, CTypes, is_pointer, is_unsigned}
use Rattle.c_types.specs.Refusals.{both}
use Rattle.c_types.specs.Operands as operand
use Rattle.c_types.specs.Operands.{Operand, value_type, value_at, conversions_of, are_printed, unary_operand, step_operand, binary_operand, assign_operand, choice_operand, comma_operand, cast_operand, index_operand, member_operand, arrow_operand, call_operand}
use Rattle.c_types.specs.Room.{is_wide_pointer}
use Rattle.c_types.specs.Scope.{Scope, Entity, Object, Routine, BuiltIn, Printf, entity_of}
use Rattle.c_types.specs.Expressions as typed
use Rattle.c_types.specs.Expressions.{written, format_of, through, callee_of, judged, all_judged}
use Rattle.c_eval.specs.Environment.{type_in, value_type_in, function_parameters, Callee, Direct, Through, named_callee, callee_in}
use Rattle.c_alike.specs.Alike.{EachName, EachNameOf}
use Rattle.c_fewer_types.specs.Written.{ScopeCanBeWritten, StringsAreShort, EachStringIsShort}
use Rattle.c_helpers.specs.Fewer.{sign_of, kind_word, helper_call, words_in, words_back, words_by, address_at, moved_pointer, moved_place, sum_tree, difference_tree, wide_step, plain_assignment, as_type, behind_format, format_call, named_call, call_tree, counts_unsigned, fewer, fewer_all}
use Rattle.c_helpers.specs.Frames.{beyond, waiting_all}
use Rattle.c_helpers.specs.Functions.{format_name, put_string}
use Rattle.c_helpers.specs.Laws.{is_strange}
use Rattle.c_helpers.specs.Meanings.{is_format, stands_for}
use Rattle.c_helpers.specs.Terms.{number}
use Rattle.c_fewer_types.specs.Stands.{helper_type, NameStands, ExprStands}
use Rattle.c_fewer_types.proofs.Names.{operator_names, assignment_names, step_names, element_names}
use Rattle.c_fewer_types.specs.Laws.{KnowsBuiltIns}
use Rattle.c_fewer_types.proofs.Judged.{keeping_is, first_kept}
use Rattle.c_fewer_types.proofs.FewerTypedRules.{after_is, both_is, three_is}
use Rattle.c_lowered.specs.Counts.{is_known_to_helpers}
use Rattle.c_lowered.specs.Expressions.{known_name}
use Rattle.c_landing.specs.Few.{words_there, NameIsFew, IsFew}
use Rattle.c_valued.specs.Calls.{KnownIsFunction, HasWords, OfPointer, CallsAre, ArgumentsAre}
use Rattle.c_fewer_reached.specs.Updates.{UpdatesAre, AllUpdatesAre}
use Rattle.c_compiled.specs.Few.{TagsHaveObjects, NameServes}
use Rattle.c_compiled.proofs.Few.{operators_are_few}
use Rattle.c_compiled.specs.Calls.{has_helper, is_called, NameCalls, CallsMayBeCalled}
use Rattle.c_compiled.proofs.Trees.{NotName, fewer_not, called_through, call_is, callee_is, count, waits, counted, printed_count}

-- the name of a helper function, which has a frame of its own
record IsHelp (name : List ℕ) : Type 0 where
  pub type : CType
  pub known : helper_type name ≡ Some type
  pub own : words_there name ≡ 0
  pub stands : is_some (stands_for name) ≡ true

help : (name : List ℕ) (t : CType) → helper_type name ≡ Some t → words_there name ≡ 0 → is_some (stands_for name) ≡ true → IsHelp name
help name t e w o = record { type = t; known = e; own = w; stands = o }

-- a text calls it
abbrev is_ours : List ℕ → Bool
is_ours name = not (list_any is_strange name) || is_some (stands_for name)

helper_is_ours : (name : List ℕ) → is_some (stands_for name) ≡ true → is_ours name ≡ true
helper_is_ours name e = go (list_any is_strange name)
  where
    go : (b : Bool) → (not b || is_some (stands_for name)) ≡ true
    go true = e
    go false = refl

text_is_ours : (name : List ℕ) → list_any is_strange name ≡ false → is_ours name ≡ true
text_is_ours name e = ap (λ b. not b || is_some (stands_for name)) e

called_so : (name : List ℕ) (o : Option Entity) → is_ours name ≡ true → has_helper name o ≡ false → is_called name o ≡ true
called_so name o e k = ap₂ (λ a b. a && not b) e k

-- a name of a text is no format's
text_is_no_format : (name : List ℕ) → list_any is_strange name ≡ false → (b : Bool) → is_format name ≡ b → b ≡ false
text_is_no_format name n false e = refl
text_is_no_format name n true e =
    let first : take 7 name ≡ codes "printf " = (bytes_eq-Decides (take 7 name) (codes "printf ")).0 e in
    let whole : codes "printf " ++ drop 7 name ≡ name = ap (λ z. z ++ drop 7 name) (sym first) ∙ take-append-drop 7 name in
    let strange : list_any is_strange name ≡ true = subst (λ z. list_any is_strange z ≡ true) whole refl in
    absurd (cc (sym n ∙ strange))

abbrev Both : List ℕ → Type 0
Both sign = IsHelp sign × IsHelp (sign ++ codes "=")

same_help : (name sign : List ℕ) → Both name → Some name ≡ Some sign → Both sign
same_help name sign h e = let same : name ≡ sign = cc e in subst Both same h

sign_helps : (op : BinOp) (unsigned : Bool) (sign : List ℕ) → sign_of op unsigned ≡ Some sign → Both sign
sign_helps binary.Mul u sign e = same_help (codes "*") sign (help (codes "*") _ refl refl refl, help (codes "*=") _ refl refl refl) e
sign_helps binary.Div true sign e = same_help (codes "unsigned /") sign (help (codes "unsigned /") _ refl refl refl, help (codes "unsigned /=") _ refl refl refl) e
sign_helps binary.Div false sign e = same_help (codes "int /") sign (help (codes "int /") _ refl refl refl, help (codes "int /=") _ refl refl refl) e
sign_helps binary.Mod true sign e = same_help (codes "unsigned %") sign (help (codes "unsigned %") _ refl refl refl, help (codes "unsigned %=") _ refl refl refl) e
sign_helps binary.Mod false sign e = same_help (codes "int %") sign (help (codes "int %") _ refl refl refl, help (codes "int %=") _ refl refl refl) e
sign_helps binary.BitAnd u sign e = same_help (codes "&") sign (help (codes "&") _ refl refl refl, help (codes "&=") _ refl refl refl) e
sign_helps binary.BitOr u sign e = same_help (codes "|") sign (help (codes "|") _ refl refl refl, help (codes "|=") _ refl refl refl) e
sign_helps binary.BitXor u sign e = same_help (codes "^") sign (help (codes "^") _ refl refl refl, help (codes "^=") _ refl refl refl) e
sign_helps binary.Shl u sign e = same_help (codes "<<") sign (help (codes "<<") _ refl refl refl, help (codes "<<=") _ refl refl refl) e
sign_helps binary.Shr true sign e = same_help (codes "unsigned >>") sign (help (codes "unsigned >>") _ refl refl refl, help (codes "unsigned >>=") _ refl refl refl) e
sign_helps binary.Shr false sign e = same_help (codes "int >>") sign (help (codes "int >>") _ refl refl refl, help (codes "int >>=") _ refl refl refl) e
sign_helps binary.Add u sign e = absurd (cc e)
sign_helps binary.Sub u sign e = absurd (cc e)
sign_helps binary.And u sign e = absurd (cc e)
sign_helps binary.Or u sign e = absurd (cc e)
sign_helps binary.Eq u sign e = absurd (cc e)
sign_helps binary.Ne u sign e = absurd (cc e)
sign_helps binary.Lt u sign e = absurd (cc e)
sign_helps binary.Gt u sign e = absurd (cc e)
sign_helps binary.Le u sign e = absurd (cc e)
sign_helps binary.Ge u sign e = absurd (cc e)

sum_help : (unsigned : Bool) → IsHelp (codes "pointer + " ++ kind_word unsigned)
sum_help true = help (codes "pointer + unsigned") _ refl refl refl
sum_help false = help (codes "pointer + int") _ refl refl refl

swapped_help : (unsigned : Bool) → IsHelp (kind_word unsigned ++ codes " + pointer")
swapped_help true = help (codes "unsigned + pointer") _ refl refl refl
swapped_help false = help (codes "int + pointer") _ refl refl refl

moving_help : (unsigned : Bool) → IsHelp (codes "pointer += " ++ kind_word unsigned)
moving_help true = help (codes "pointer += unsigned") _ refl refl refl
moving_help false = help (codes "pointer += int") _ refl refl refl

not_known : (name : List ℕ) → is_known_to_helpers name ≡ false → (pos : ℕ) → known_name (plain.Var pos name) ≡ None
not_known name e pos = ap (λ (b : Bool). if b then Some name else None) e

direct_known : (k : Option (List ℕ)) (name : List ℕ) (params : CTypes) → KnownIsFunction k (Direct name params)
direct_known None name params = tt
direct_known (Some x) name params = tt

module _ (valued : List ℕ → Bool) (may : Callee → Bool) (s s' : Scope) (any : (params : CTypes) → may (Through params) ≡ true) (tags : s.tags ≡ s'.tags) (can : ScopeCanBeWritten s) (known : KnowsBuiltIns s) (objects : TagsHaveObjects s.tags) where
  abbrev P : List ℕ → Type 0
  P = NameStands s s'

  abbrev Q : List ℕ → Type 0
  Q = NameServes valued s

  abbrev R : List ℕ → Type 0
  R = NameCalls may s s'

  abbrev Calls : CExpr → Type 0
  Calls e = CallsAre may valued e s'

  abbrev Args : CExprs → Type 0
  Args es = ArgumentsAre may valued es s'

  -- an expression and its calls
  abbrev Has : CExpr → Type 0
  Has e = IsFew e valued s' × Calls e

  -- ---- calls of names

  direct_calls : (at pos : ℕ) (name : List ℕ) (es : CExprs) (t : CType) (b : Bool) → is_ours name ≡ true → entity_of s' name ≡ Some (Routine t b) → words_there name ≤ waiting_all 1 (beyond (plain.Var pos name)) es → R name → Args es → Calls (plain.Call at (plain.Var pos name) es)
  direct_calls at pos name es t b ours e words r args =
      subst (λ (z : Option Entity). (may (named_callee name z) ≡ true) × KnownIsFunction (known_name (plain.Var pos name)) (named_callee name z) × OfPointer (named_callee name z) (IsFew (plain.Var pos name) valued s' × Calls (plain.Var pos name)) × Args es × HasWords (named_callee name z) (waiting_all 1 (beyond (plain.Var pos name)) es)) (sym e)
      (subst (λ z. may (named_callee name z) ≡ true) e (r.calls (called_so name (entity_of s' name) ours (subst (λ z. has_helper name z ≡ false) (sym e) refl))), direct_known (known_name (plain.Var pos name)) name (function_parameters t), tt, args, words)

  help_calls : (at pos : ℕ) (name : List ℕ) (es : CExprs) → IsHelp name → P name → R name → Args es → Calls (plain.Call at (plain.Var pos name) es)
  help_calls at pos name es h p r args = let k = p.helper h.type h.known in direct_calls at pos name es h.type k.0 (helper_is_ours name h.stands) k.1 (let w = h.own in omega (arith, w)) r args

  object_calls : (at pos : ℕ) (name : List ℕ) (es : CExprs) (t : CType) → entity_of s' name ≡ Some (Object t) → R name → Args es → Calls (plain.Call at (plain.Var pos name) es)
  object_calls at pos name es t e r args =
      subst (λ (k : Option (List ℕ)). (may (callee_in s' (plain.Var pos name)) ≡ true) × KnownIsFunction k (callee_in s' (plain.Var pos name)) × OfPointer (callee_in s' (plain.Var pos name)) (IsFew (plain.Var pos name) valued s' × Calls (plain.Var pos name)) × Args es × HasWords (callee_in s' (plain.Var pos name)) (waiting_all 1 (beyond (plain.Var pos name)) es)) (sym (not_known name r.own pos))
      (subst (λ (z : Option Entity). (may (named_callee name z) ≡ true) × KnownIsFunction None (named_callee name z) × OfPointer (named_callee name z) (NameIsFew valued name z × Unit {0}) × Args es × HasWords (named_callee name z) (waiting_all 1 (beyond (plain.Var pos name)) es)) (sym e) (any _, tt, (tt, tt), args, tt))

  built_in_calls : (at pos : ℕ) (name : List ℕ) (es : CExprs) (t : CType) → list_any is_strange name ≡ false → bytes_eq name (codes "puts") ≡ false → entity_of s' name ≡ Some (BuiltIn t) → R name → Args es → Calls (plain.Call at (plain.Var pos name) es)
  built_in_calls at pos name es t text other e r args =
      subst (λ (k : Option (List ℕ)). (may (callee_in s' (plain.Var pos name)) ≡ true) × KnownIsFunction k (callee_in s' (plain.Var pos name)) × OfPointer (callee_in s' (plain.Var pos name)) (IsFew (plain.Var pos name) valued s' × Calls (plain.Var pos name)) × Args es × HasWords (callee_in s' (plain.Var pos name)) (waiting_all 1 (beyond (plain.Var pos name)) es)) (sym (not_known name r.own pos))
      (subst (λ (z : Option Entity). (may (named_callee name z) ≡ true) × KnownIsFunction None (named_callee name z) × OfPointer (named_callee name z) (IsFew (plain.Var pos name) valued s' × Calls (plain.Var pos name)) × Args es × HasWords (named_callee name z) (waiting_all 1 (beyond (plain.Var pos name)) es)) (sym e)
      (subst (λ z. may (named_callee name z) ≡ true) e (r.calls (called_so name (entity_of s' name) (text_is_ours name text) (subst (λ z. has_helper name z ≡ false) (sym e) other))), tt, tt, args, tt))

  -- the value of an expression that is no name is called
  value_calls : (at : ℕ) (f : CExpr) (es : CExprs) → NotName f → Has f → Args es → Calls (plain.Call at f es)
  value_calls at f es n h args =
      let c = called_through s' f n in
      subst (λ (k : Option (List ℕ)). (may (callee_in s' f) ≡ true) × KnownIsFunction k (callee_in s' f) × OfPointer (callee_in s' f) (IsFew f valued s' × Calls f) × Args es × HasWords (callee_in s' f) (waiting_all 1 (beyond f) es)) (sym c.1)
      (subst (λ (z : Callee). (may z ≡ true) × KnownIsFunction None z × OfPointer z (IsFew f valued s' × Calls f) × Args es × HasWords z (waiting_all 1 (beyond f) es)) (sym c.0) (any _, tt, h, args, tt))

  -- ---- trees of operators

  by_if : (b : Bool) (x y : CExpr) → EachName P (if b then x else y) → EachName R (if b then x else y) → (EachName P x → EachName R x → Calls x) → (EachName P y → EachName R y → Calls y) → Calls (if b then x else y)
  by_if true x y p r f g = f p r
  by_if false x y p r f g = g p r

  one : (a : CExpr) → Has a → Args (exprs (a ∷ []))
  one a h = (h.0, h.1, tt)

  two : (a b : CExpr) → Has a → Has b → Args (exprs (a ∷ b ∷ []))
  two a b h k = (h.0, h.1, (k.0, k.1, tt))

  three : (a b c : CExpr) → Has a → Has b → Has c → Args (exprs (a ∷ b ∷ c ∷ []))
  three a b c h k l = (h.0, h.1, (k.0, k.1, (l.0, l.1, tt)))

  address : (at : ℕ) (a : CExpr) → Has a → Has (address_at at a)
  address at a h = ((tt, h.0), h.1)

  sum_calls : (at : ℕ) (t u : CType) (a b : CExpr) → EachName P (sum_tree s.tags at t u a b) → EachName R (sum_tree s.tags at t u a b) → Has a → Has b → Calls (sum_tree s.tags at t u a b)
  sum_calls at t u a b p r h k =
      by_if (is_wide_pointer s.tags t) (moved_pointer at t (is_unsigned u) a b (words_in s.tags t)) (if is_wide_pointer s.tags u then as_type at u (helper_call at (kind_word (is_unsigned t) ++ codes " + pointer") (a ∷ b ∷ words_in s.tags u ∷ [])) else plain.Binary at binary.Add a b) p r (λ p r. help_calls at at (codes "pointer + " ++ kind_word (is_unsigned u)) (exprs (a ∷ b ∷ words_in s.tags t ∷ [])) (sum_help (is_unsigned u)) p.1.0 r.1.0 (three a b (words_in s.tags t) h k (tt, tt)))
      (λ p r. by_if (is_wide_pointer s.tags u) (as_type at u (helper_call at (kind_word (is_unsigned t) ++ codes " + pointer") (a ∷ b ∷ words_in s.tags u ∷ []))) (plain.Binary at binary.Add a b) p r
      (λ p r. help_calls at at (kind_word (is_unsigned t) ++ codes " + pointer") (exprs (a ∷ b ∷ words_in s.tags u ∷ [])) (swapped_help (is_unsigned t)) p.1.0 r.1.0 (three a b (words_in s.tags u) h k (tt, tt))) (λ p r. (h.1, k.1)))

  difference_calls : (at : ℕ) (t u : CType) (a b : CExpr) → EachName P (difference_tree s.tags at t u a b) → EachName R (difference_tree s.tags at t u a b) → Has a → Has b → Calls (difference_tree s.tags at t u a b)
  difference_calls at t u a b p r h k =
      by_if (not (is_wide_pointer s.tags t)) (plain.Binary at binary.Sub a b) (if is_pointer u then helper_call at (codes "pointer - pointer") (a ∷ b ∷ words_in s.tags t ∷ []) else moved_pointer at t (is_unsigned u) a b (words_back s.tags t)) p r (λ p r. (h.1, k.1))
      (λ p r. by_if (is_pointer u) (helper_call at (codes "pointer - pointer") (a ∷ b ∷ words_in s.tags t ∷ [])) (moved_pointer at t (is_unsigned u) a b (words_back s.tags t)) p r
      (λ p r. help_calls at at (codes "pointer - pointer") (exprs (a ∷ b ∷ words_in s.tags t ∷ [])) (help (codes "pointer - pointer") _ refl refl refl) p.0 r.0 (three a b (words_in s.tags t) h k (tt, tt))) (λ p r. help_calls at at (codes "pointer + " ++ kind_word (is_unsigned u)) (exprs (a ∷ b ∷ words_back s.tags t ∷ [])) (sum_help (is_unsigned u)) p.1.0 r.1.0 (three a b (words_back s.tags t) h k (tt, tt))))

  moved_calls : (at : ℕ) (t : CType) (unsigned : Bool) (a b words : CExpr) → EachName P (moved_place at t unsigned a b words) → EachName R (moved_place at t unsigned a b words) → Has a → Has b → Has words → Calls (moved_place at t unsigned a b words)
  moved_calls at t unsigned a b words p r h k w = help_calls at at (codes "pointer += " ++ kind_word unsigned) (exprs (address_at at a ∷ b ∷ words ∷ [])) (moving_help unsigned) p.1.0 r.1.0 (three (address_at at a) b words (address at a h) k w)

  words_has : (op : BinOp) (t : CType) → Has (words_by op s.tags t)
  words_has binary.Sub t = (tt, tt)
  words_has binary.Add t = (tt, tt)
  words_has binary.Mul t = (tt, tt)
  words_has binary.Div t = (tt, tt)
  words_has binary.Mod t = (tt, tt)
  words_has binary.BitAnd t = (tt, tt)
  words_has binary.BitOr t = (tt, tt)
  words_has binary.BitXor t = (tt, tt)
  words_has binary.Shl t = (tt, tt)
  words_has binary.Shr t = (tt, tt)
  words_has binary.And t = (tt, tt)
  words_has binary.Or t = (tt, tt)
  words_has binary.Eq t = (tt, tt)
  words_has binary.Ne t = (tt, tt)
  words_has binary.Lt t = (tt, tt)
  words_has binary.Gt t = (tt, tt)
  words_has binary.Le t = (tt, tt)
  words_has binary.Ge t = (tt, tt)

  wide_step_calls : (at : ℕ) (op : StepOp) (t : CType) (a : CExpr) → EachName P (wide_step s.tags at op t a) → EachName R (wide_step s.tags at op t a) → Has a → Calls (wide_step s.tags at op t a)
  wide_step_calls at step.PreInc t a p r h = moved_calls at t false a (number 1) (words_in s.tags t) p r h (tt, tt) (tt, tt)
  wide_step_calls at step.PreDec t a p r h = moved_calls at t false a (number 1) (words_back s.tags t) p r h (tt, tt) (tt, tt)
  wide_step_calls at step.PostInc t a p r h = help_calls at at (codes "pointer++") (exprs (address_at at a ∷ words_in s.tags t ∷ [])) (help (codes "pointer++") _ refl refl refl) p.1.0 r.1.0 (two (address_at at a) (words_in s.tags t) (address at a h) (tt, tt))
  wide_step_calls at step.PostDec t a p r h = help_calls at at (codes "pointer++") (exprs (address_at at a ∷ words_back s.tags t ∷ [])) (help (codes "pointer++") _ refl refl refl) p.1.0 r.1.0 (two (address_at at a) (words_back s.tags t) (address at a h) (tt, tt))

  update_calls : (at : ℕ) (op : BinOp) (t u : CType) (a b : CExpr) → EachName P (plain_assignment s.tags at op t u a b) → EachName R (plain_assignment s.tags at op t u a b) → Has a → Has b → Calls (plain_assignment s.tags at op t u a b)
  update_calls at op t u a b p r h k =
      by_if (is_wide_pointer s.tags t) (moved_place at t (is_unsigned u) a b (words_by op s.tags t)) (plain.Assign at (Some op) a b) p r (λ p r. moved_calls at t (is_unsigned u) a b (words_by op s.tags t) p r h k (words_has op t)) (λ p r. (h.1, k.1))

  sign_calls : (at : ℕ) (result : CType) (sign : List ℕ) (a b : CExpr) → IsHelp sign → EachName P (as_type at result (helper_call at sign (a ∷ b ∷ []))) → EachName R (as_type at result (helper_call at sign (a ∷ b ∷ []))) → Has a → Has b → Calls (as_type at result (helper_call at sign (a ∷ b ∷ [])))
  sign_calls at result sign a b i p r h k = help_calls at at sign (exprs (a ∷ b ∷ [])) i p.1.0 r.1.0 (two a b h k)

  -- ---- calls of the text

  abbrev Argued : CExprs → CExprs → Type 0
  Argued es es' = (xs : List Operand) → EachNameOf P es' → EachNameOf Q es' → EachNameOf R es' → all_judged s es ≡ Ok xs → Args es'

  plainly : (name : List ℕ) (x : Entity) → entity_of s name ≡ Some x → R name → words_there name ≡ 0
  plainly name x e r = ap (λ (b : Bool). if b then 7 + option_map_or length (conversions_of (drop 7 name)) 0 else 0) (text_is_no_format name (r.text x e) (is_format name) refl)

  format_words : (pos : ℕ) (format : List ℕ) (letters : List ℕ) (es : CExprs) → conversions_of format ≡ Some letters → length letters ≡ count es → words_there (format_name format) ≤ waiting_all 1 (beyond (plain.Var pos (format_name format))) es
  format_words pos format letters es c n =
      let there : words_there (format_name format) ≡ 7 + length letters = ap (λ (z : Option (List ℕ)). 7 + option_map_or length z 0) c in
      let w = waits 1 6 es in omega (arith, there, n, w)

  printed_calls : (at pos : ℕ) (name : List ℕ) (es : CExprs) (format : Option (List ℕ)) (xs : List Operand) (x : Operand) → format_of es ≡ format → EachName P (format_call at pos name format (fewer_all s es)) → EachName Q (format_call at pos name format (fewer_all s es)) → EachName R (format_call at pos name format (fewer_all s es))
      → all_judged s es ≡ Ok xs → call_operand at operand.Format format xs ≡ Ok x → Argued es (behind_format (fewer_all s es)) → Calls (format_call at pos name format (fewer_all s es))
  printed_calls at pos name es None xs x f p q r k c args = absurd (none xs c)
    where
      none : (xs : List Operand) → call_operand at operand.Format None xs ≡ Ok x → ⊥
      none [] c = cc c
      none (y ∷ ys) c = cc c
  printed_calls at pos name es (Some format) xs x f p q r k c args = by es xs k c args p q r
    where
      by : (es : CExprs) (xs : List Operand) → all_judged s es ≡ Ok xs → call_operand at operand.Format (Some format) xs ≡ Ok x → Argued es (behind_format (fewer_all s es)) → EachName P (plain.Call at (plain.Var pos (format_name format)) (behind_format (fewer_all s es))) → EachName Q (plain.Call at (plain.Var pos (format_name format)) (behind_format (fewer_all s es)))
          → EachName R (plain.Call at (plain.Var pos (format_name format)) (behind_format (fewer_all s es))) → Calls (plain.Call at (plain.Var pos (format_name format)) (behind_format (fewer_all s es)))
      by plain.NoExpr [] k c args p q r = absurd (cc c)
      by plain.NoExpr (y ∷ ys) k c args p q r = absurd (cc k)
      by (plain.MoreExpr e es) [] k c args p q r = absurd (cc c)
      by (plain.MoreExpr e es) (y ∷ ys) k c args p q r =
          let rules = keeping_is {A = Operand} ((option_map_or (λ letters. are_printed letters ys) (conversions_of format) false, fault.BadCall at) ∷ []) (value_at at type.Void) x c in
          let told = (first_kept (option_map_or (λ letters. are_printed letters ys) (conversions_of format) false) (fault.BadCall at) [] rules.0).0 in
          with_letters (conversions_of format) refl told
        where
          with_letters : (o : Option (List ℕ)) → conversions_of format ≡ o → option_map_or (λ letters. are_printed letters ys) o false ≡ true → Calls (plain.Call at (plain.Var pos (format_name format)) (fewer_all s es))
          with_letters None o t = absurd (cc t)
          with_letters (Some letters) o t =
              let j = both_is (judged s e) (all_judged s es) (λ x xs. Ok (x ∷ xs)) (y ∷ ys) k in
              let same : j.1.0 ≡ ys = cc j.1.3 in
              let n = printed_count letters ys t in
              let m = counted s es j.1.0 j.1.2 in
              let l = ap (λ (z : List Operand). length z) same in
              let h = p.0.helper _ refl in
              direct_calls at pos (format_name format) (fewer_all s es) _ h.0 (helper_is_ours (format_name format) refl) h.1 (format_words pos format letters (fewer_all s es) o (omega (arith, n, m, l))) r.0 (args (y ∷ ys) p.1 q.1 r.1 k)

  named_calls : (at pos : ℕ) (name : List ℕ) (o : Option Entity) (es : CExprs) (c : operand.Callee) (xs : List Operand) (x : Operand) → entity_of s name ≡ o → EachName P (named_call at pos name o (format_of es) (fewer_all s es)) → EachName Q (named_call at pos name o (format_of es) (fewer_all s es)) → EachName R (named_call at pos name o (format_of es) (fewer_all s es))
      → typed.named_callee s at name o ≡ Ok c → all_judged s es ≡ Ok xs → call_operand at c (format_of es) xs ≡ Ok x → Argued es (fewer_all s es) → Argued es (behind_format (fewer_all s es)) → Calls (named_call at pos name o (format_of es) (fewer_all s es))
  named_calls at pos name (Some (Object t)) es c xs x e p q r n k w args behind = object_calls at pos name (fewer_all s es) t (p.0.text (Object t) e) r.0 (args xs p.1 q.1 r.1 k)
  named_calls at pos name (Some (Routine t b)) es c xs x e p q r n k w args behind =
      let h = p.0.text (Routine t b) e in
      let z = plainly name (Routine t b) e r.0 in
      direct_calls at pos name (fewer_all s es) t h.0 (text_is_ours name (r.0.text (Routine t b) e)) h.1 (omega (arith, z)) r.0 (args xs p.1 q.1 r.1 k)
  named_calls at pos name (Some (BuiltIn t)) es c xs x e p q r n k w args behind = by (bytes_eq name (codes "puts")) refl p q r
    where
      by : (b : Bool) → bytes_eq name (codes "puts") ≡ b → EachName P (plain.Call at (plain.Var pos (if b then put_string.name else name)) (fewer_all s es)) → EachName Q (plain.Call at (plain.Var pos (if b then put_string.name else name)) (fewer_all s es)) → EachName R (plain.Call at (plain.Var pos (if b then put_string.name else name)) (fewer_all s es)) → Calls (plain.Call at (plain.Var pos (if b then put_string.name else name)) (fewer_all s es))
      by true other p q r = help_calls at pos put_string.name (fewer_all s es) (help put_string.name _ refl refl refl) p.0 r.0 (args xs p.1 q.1 r.1 k)
      by false other p q r = built_in_calls at pos name (fewer_all s es) t (r.0.text (BuiltIn t) e) other (p.0.text (BuiltIn t) e) r.0 (args xs p.1 q.1 r.1 k)
  named_calls at pos name (Some Printf) es c xs x e p q r n k w args behind =
      let same : operand.Format ≡ c = cc n in
      printed_calls at pos name es (format_of es) xs x refl p q r k (subst (λ z. call_operand at z (format_of es) xs ≡ Ok x) (sym same) w) behind
  named_calls at pos name None es c xs x e p q r n k w args behind = absurd (cc n)

  other_calls : (at : ℕ) (f : CExpr) (es : CExprs) (x : Operand) → NotName f → ((y : Operand) → EachName P (fewer s f) → EachName Q (fewer s f) → EachName R (fewer s f) → judged s f ≡ Ok y → Has (fewer s f)) → Argued es (fewer_all s es)
      → EachName P (call_tree s at (fewer s f) (format_of es) (fewer_all s es)) → EachName Q (call_tree s at (fewer s f) (format_of es) (fewer_all s es)) → EachName R (call_tree s at (fewer s f) (format_of es) (fewer_all s es)) → both (callee_of s at f (judged s f)) (all_judged s es) (λ c xs. call_operand at c (format_of es) xs) ≡ Ok x → Calls (call_tree s at (fewer s f) (format_of es) (fewer_all s es))
  other_calls at f es x n own args p q r k =
      let e = call_is s at (fewer s f) (format_of es) (fewer_all s es) (fewer_not s f n) in
      let p1 : EachName P (plain.Call at (fewer s f) (fewer_all s es)) = subst (λ z. EachName P z) e p in
      let q1 : EachName Q (plain.Call at (fewer s f) (fewer_all s es)) = subst (λ z. EachName Q z) e q in
      let r1 : EachName R (plain.Call at (fewer s f) (fewer_all s es)) = subst (λ z. EachName R z) e r in
      let k1 = subst (λ z. both z (all_judged s es) (λ c xs. call_operand at c (format_of es) xs) ≡ Ok x) (callee_is s at f (judged s f) n) k in
      let j = both_is (through (judged s f)) (all_judged s es) (λ c xs. call_operand at c (format_of es) xs) x k1 in
      let a = after_is (judged s f) (λ a. Ok (operand.Through (value_type a))) j.0 j.1.1 in
      subst (λ z. Calls z) (sym e) (value_calls at (fewer s f) (fewer_all s es) (fewer_not s f n) (own a.0 p1.0 q1.0 r1.0 a.1) (args j.1.0 p1.1 q1.1 r1.1 j.1.2))

  call_calls : (at : ℕ) (f : CExpr) (es : CExprs) (x : Operand) → ((y : Operand) → EachName P (fewer s f) → EachName Q (fewer s f) → EachName R (fewer s f) → judged s f ≡ Ok y → Has (fewer s f)) → Argued es (fewer_all s es) → Argued es (behind_format (fewer_all s es))
      → EachName P (call_tree s at (fewer s f) (format_of es) (fewer_all s es)) → EachName Q (call_tree s at (fewer s f) (format_of es) (fewer_all s es)) → EachName R (call_tree s at (fewer s f) (format_of es) (fewer_all s es)) → both (callee_of s at f (judged s f)) (all_judged s es) (λ c xs. call_operand at c (format_of es) xs) ≡ Ok x → Calls (call_tree s at (fewer s f) (format_of es) (fewer_all s es))
  call_calls at (plain.Var pos name) es x own args behind p q r k =
      let j = both_is (typed.named_callee s at name (entity_of s name)) (all_judged s es) (λ c xs. call_operand at c (format_of es) xs) x k in
      named_calls at pos name (entity_of s name) es j.0 j.1.0 x refl p q r j.1.1 j.1.2 j.1.3 args behind
  call_calls at (plain.Number pos n y) es x own args behind p q r k = other_calls at (plain.Number pos n y) es x tt own args p q r k
  call_calls at (plain.Str pos text) es x own args behind p q r k = other_calls at (plain.Str pos text) es x tt own args p q r k
  call_calls at (plain.Null pos) es x own args behind p q r k = other_calls at (plain.Null pos) es x tt own args p q r k
  call_calls at (plain.Unary pos op a) es x own args behind p q r k = other_calls at (plain.Unary pos op a) es x tt own args p q r k
  call_calls at (plain.Step pos op a) es x own args behind p q r k = other_calls at (plain.Step pos op a) es x tt own args p q r k
  call_calls at (plain.Binary pos op a b) es x own args behind p q r k = other_calls at (plain.Binary pos op a b) es x tt own args p q r k
  call_calls at (plain.Assign pos op a b) es x own args behind p q r k = other_calls at (plain.Assign pos op a b) es x tt own args p q r k
  call_calls at (plain.Cond pos a b c) es x own args behind p q r k = other_calls at (plain.Cond pos a b c) es x tt own args p q r k
  call_calls at (plain.Comma pos a b) es x own args behind p q r k = other_calls at (plain.Comma pos a b) es x tt own args p q r k
  call_calls at (plain.Cast pos t a) es x own args behind p q r k = other_calls at (plain.Cast pos t a) es x tt own args p q r k
  call_calls at (plain.SizeTy pos t) es x own args behind p q r k = other_calls at (plain.SizeTy pos t) es x tt own args p q r k
  call_calls at (plain.SizeOf pos a) es x own args behind p q r k = other_calls at (plain.SizeOf pos a) es x tt own args p q r k
  call_calls at (plain.Index pos a b) es x own args behind p q r k = other_calls at (plain.Index pos a b) es x tt own args p q r k
  call_calls at (plain.Call pos g gs) es x own args behind p q r k = other_calls at (plain.Call pos g gs) es x tt own args p q r k
  call_calls at (plain.Member pos a m) es x own args behind p q r k = other_calls at (plain.Member pos a m) es x tt own args p q r k
  call_calls at (plain.Arrow pos a m) es x own args behind p q r k = other_calls at (plain.Arrow pos a m) es x tt own args p q r k

  mutual
    calls_of : (e : CExpr) (x : Operand) → StringsAreShort e → UpdatesAre e → ExprStands s s' e → EachName Q (fewer s e) → EachName R (fewer s e) → judged s e ≡ Ok x → Calls (fewer s e)
    calls_of (plain.Number at n y) x h u p q r k = tt
    calls_of (plain.Str at text) x h u p q r k = tt
    calls_of (plain.Null at) x h u p q r k = tt
    calls_of (plain.Var at name) x h u p q r k = tt
    calls_of (plain.Unary at unary.Invert a) x h u p q r k =
        let j = after_is (judged s a) (λ x. unary_operand s.tags at unary.Invert x) x k in
        help_calls at at (codes "~") (exprs (fewer s a ∷ [])) (help (codes "~") _ refl refl refl) p.1.0 r.1.0 (one (fewer s a) (operators_are_few valued s s' a j.0 tags can known objects h u p.1.1.0 q.1.1.0 j.1, calls_of a j.0 h u p.1.1.0 q.1.1.0 r.1.1.0 j.1))
    calls_of (plain.Unary at unary.Address a) x h u p q r k = let j = after_is (judged s a) (λ x. unary_operand s.tags at unary.Address x) x k in calls_of a j.0 h u p q r j.1
    calls_of (plain.Unary at unary.Deref a) x h u p q r k = let j = after_is (judged s a) (λ x. unary_operand s.tags at unary.Deref x) x k in calls_of a j.0 h u p q r j.1
    calls_of (plain.Unary at unary.Not a) x h u p q r k = let j = after_is (judged s a) (λ x. unary_operand s.tags at unary.Not x) x k in calls_of a j.0 h u p q r j.1
    calls_of (plain.Unary at unary.Minus a) x h u p q r k = let j = after_is (judged s a) (λ x. unary_operand s.tags at unary.Minus x) x k in calls_of a j.0 h u p q r j.1
    calls_of (plain.Unary at unary.Plus a) x h u p q r k = let j = after_is (judged s a) (λ x. unary_operand s.tags at unary.Plus x) x k in calls_of a j.0 h u p q r j.1
    calls_of (plain.Step at op a) x h u p q r k =
        let j = after_is (judged s a) (λ x. step_operand s.tags at x) x k in
        let pn = step_names P s.tags at op (type_in s a) (fewer s a) p in
        let qn = step_names Q s.tags at op (type_in s a) (fewer s a) q in
        let rn = step_names R s.tags at op (type_in s a) (fewer s a) r in
        let own : Has (fewer s a) = (operators_are_few valued s s' a j.0 tags can known objects h u pn qn j.1, calls_of a j.0 h u pn qn rn j.1) in
        by_if (is_wide_pointer s.tags (type_in s a)) (wide_step s.tags at op (type_in s a) (fewer s a)) (plain.Step at op (fewer s a)) p r (λ p r. wide_step_calls at op (type_in s a) (fewer s a) p r own) (λ p r. own.1)
    calls_of (plain.Binary at binary.Mul a b) x h u p q r k =
        let j = both_is (judged s a) (judged s b) (λ x y. binary_operand s.tags at binary.Mul x y) x k in
        let result = type_in s (plain.Binary at binary.Mul a b) in
        let pn = operator_names P s.tags at (Some (codes "*")) binary.Mul result (value_type_in s a) (value_type_in s b) (fewer s a) (fewer s b) p in
        let qn = operator_names Q s.tags at (Some (codes "*")) binary.Mul result (value_type_in s a) (value_type_in s b) (fewer s a) (fewer s b) q in
        let rn = operator_names R s.tags at (Some (codes "*")) binary.Mul result (value_type_in s a) (value_type_in s b) (fewer s a) (fewer s b) r in
        sign_calls at result (codes "*") (fewer s a) (fewer s b) (sign_helps binary.Mul (counts_unsigned binary.Mul (value_type_in s a) (value_type_in s b)) (codes "*") refl).0 p r (operators_are_few valued s s' a j.0 tags can known objects h.0 u.0 pn.0 qn.0 j.1.1, calls_of a j.0 h.0 u.0 pn.0 qn.0 rn.0 j.1.1) (operators_are_few valued s s' b j.1.0 tags can known objects h.1 u.1 pn.1 qn.1 j.1.2, calls_of b j.1.0 h.1 u.1 pn.1 qn.1 rn.1 j.1.2)
    calls_of (plain.Binary at binary.Div a b) x h u p q r k =
        let j = both_is (judged s a) (judged s b) (λ x y. binary_operand s.tags at binary.Div x y) x k in
        let result = type_in s (plain.Binary at binary.Div a b) in
        let pn = operator_names P s.tags at (Some (if (counts_unsigned binary.Div (value_type_in s a) (value_type_in s b)) then codes "unsigned /" else codes "int /")) binary.Div result (value_type_in s a) (value_type_in s b) (fewer s a) (fewer s b) p in
        let qn = operator_names Q s.tags at (Some (if (counts_unsigned binary.Div (value_type_in s a) (value_type_in s b)) then codes "unsigned /" else codes "int /")) binary.Div result (value_type_in s a) (value_type_in s b) (fewer s a) (fewer s b) q in
        let rn = operator_names R s.tags at (Some (if (counts_unsigned binary.Div (value_type_in s a) (value_type_in s b)) then codes "unsigned /" else codes "int /")) binary.Div result (value_type_in s a) (value_type_in s b) (fewer s a) (fewer s b) r in
        sign_calls at result (if (counts_unsigned binary.Div (value_type_in s a) (value_type_in s b)) then codes "unsigned /" else codes "int /") (fewer s a) (fewer s b) (sign_helps binary.Div (counts_unsigned binary.Div (value_type_in s a) (value_type_in s b)) (if (counts_unsigned binary.Div (value_type_in s a) (value_type_in s b)) then codes "unsigned /" else codes "int /") refl).0 p r (operators_are_few valued s s' a j.0 tags can known objects h.0 u.0 pn.0 qn.0 j.1.1, calls_of a j.0 h.0 u.0 pn.0 qn.0 rn.0 j.1.1) (operators_are_few valued s s' b j.1.0 tags can known objects h.1 u.1 pn.1 qn.1 j.1.2, calls_of b j.1.0 h.1 u.1 pn.1 qn.1 rn.1 j.1.2)
    calls_of (plain.Binary at binary.Mod a b) x h u p q r k =
        let j = both_is (judged s a) (judged s b) (λ x y. binary_operand s.tags at binary.Mod x y) x k in
        let result = type_in s (plain.Binary at binary.Mod a b) in
        let pn = operator_names P s.tags at (Some (if (counts_unsigned binary.Mod (value_type_in s a) (value_type_in s b)) then codes "unsigned %" else codes "int %")) binary.Mod result (value_type_in s a) (value_type_in s b) (fewer s a) (fewer s b) p in
        let qn = operator_names Q s.tags at (Some (if (counts_unsigned binary.Mod (value_type_in s a) (value_type_in s b)) then codes "unsigned %" else codes "int %")) binary.Mod result (value_type_in s a) (value_type_in s b) (fewer s a) (fewer s b) q in
        let rn = operator_names R s.tags at (Some (if (counts_unsigned binary.Mod (value_type_in s a) (value_type_in s b)) then codes "unsigned %" else codes "int %")) binary.Mod result (value_type_in s a) (value_type_in s b) (fewer s a) (fewer s b) r in
        sign_calls at result (if (counts_unsigned binary.Mod (value_type_in s a) (value_type_in s b)) then codes "unsigned %" else codes "int %") (fewer s a) (fewer s b) (sign_helps binary.Mod (counts_unsigned binary.Mod (value_type_in s a) (value_type_in s b)) (if (counts_unsigned binary.Mod (value_type_in s a) (value_type_in s b)) then codes "unsigned %" else codes "int %") refl).0 p r (operators_are_few valued s s' a j.0 tags can known objects h.0 u.0 pn.0 qn.0 j.1.1, calls_of a j.0 h.0 u.0 pn.0 qn.0 rn.0 j.1.1) (operators_are_few valued s s' b j.1.0 tags can known objects h.1 u.1 pn.1 qn.1 j.1.2, calls_of b j.1.0 h.1 u.1 pn.1 qn.1 rn.1 j.1.2)
    calls_of (plain.Binary at binary.BitAnd a b) x h u p q r k =
        let j = both_is (judged s a) (judged s b) (λ x y. binary_operand s.tags at binary.BitAnd x y) x k in
        let result = type_in s (plain.Binary at binary.BitAnd a b) in
        let pn = operator_names P s.tags at (Some (codes "&")) binary.BitAnd result (value_type_in s a) (value_type_in s b) (fewer s a) (fewer s b) p in
        let qn = operator_names Q s.tags at (Some (codes "&")) binary.BitAnd result (value_type_in s a) (value_type_in s b) (fewer s a) (fewer s b) q in
        let rn = operator_names R s.tags at (Some (codes "&")) binary.BitAnd result (value_type_in s a) (value_type_in s b) (fewer s a) (fewer s b) r in
        sign_calls at result (codes "&") (fewer s a) (fewer s b) (sign_helps binary.BitAnd (counts_unsigned binary.BitAnd (value_type_in s a) (value_type_in s b)) (codes "&") refl).0 p r (operators_are_few valued s s' a j.0 tags can known objects h.0 u.0 pn.0 qn.0 j.1.1, calls_of a j.0 h.0 u.0 pn.0 qn.0 rn.0 j.1.1) (operators_are_few valued s s' b j.1.0 tags can known objects h.1 u.1 pn.1 qn.1 j.1.2, calls_of b j.1.0 h.1 u.1 pn.1 qn.1 rn.1 j.1.2)
    calls_of (plain.Binary at binary.BitOr a b) x h u p q r k =
        let j = both_is (judged s a) (judged s b) (λ x y. binary_operand s.tags at binary.BitOr x y) x k in
        let result = type_in s (plain.Binary at binary.BitOr a b) in
        let pn = operator_names P s.tags at (Some (codes "|")) binary.BitOr result (value_type_in s a) (value_type_in s b) (fewer s a) (fewer s b) p in
        let qn = operator_names Q s.tags at (Some (codes "|")) binary.BitOr result (value_type_in s a) (value_type_in s b) (fewer s a) (fewer s b) q in
        let rn = operator_names R s.tags at (Some (codes "|")) binary.BitOr result (value_type_in s a) (value_type_in s b) (fewer s a) (fewer s b) r in
        sign_calls at result (codes "|") (fewer s a) (fewer s b) (sign_helps binary.BitOr (counts_unsigned binary.BitOr (value_type_in s a) (value_type_in s b)) (codes "|") refl).0 p r (operators_are_few valued s s' a j.0 tags can known objects h.0 u.0 pn.0 qn.0 j.1.1, calls_of a j.0 h.0 u.0 pn.0 qn.0 rn.0 j.1.1) (operators_are_few valued s s' b j.1.0 tags can known objects h.1 u.1 pn.1 qn.1 j.1.2, calls_of b j.1.0 h.1 u.1 pn.1 qn.1 rn.1 j.1.2)
    calls_of (plain.Binary at binary.BitXor a b) x h u p q r k =
        let j = both_is (judged s a) (judged s b) (λ x y. binary_operand s.tags at binary.BitXor x y) x k in
        let result = type_in s (plain.Binary at binary.BitXor a b) in
        let pn = operator_names P s.tags at (Some (codes "^")) binary.BitXor result (value_type_in s a) (value_type_in s b) (fewer s a) (fewer s b) p in
        let qn = operator_names Q s.tags at (Some (codes "^")) binary.BitXor result (value_type_in s a) (value_type_in s b) (fewer s a) (fewer s b) q in
        let rn = operator_names R s.tags at (Some (codes "^")) binary.BitXor result (value_type_in s a) (value_type_in s b) (fewer s a) (fewer s b) r in
        sign_calls at result (codes "^") (fewer s a) (fewer s b) (sign_helps binary.BitXor (counts_unsigned binary.BitXor (value_type_in s a) (value_type_in s b)) (codes "^") refl).0 p r (operators_are_few valued s s' a j.0 tags can known objects h.0 u.0 pn.0 qn.0 j.1.1, calls_of a j.0 h.0 u.0 pn.0 qn.0 rn.0 j.1.1) (operators_are_few valued s s' b j.1.0 tags can known objects h.1 u.1 pn.1 qn.1 j.1.2, calls_of b j.1.0 h.1 u.1 pn.1 qn.1 rn.1 j.1.2)
    calls_of (plain.Binary at binary.Shl a b) x h u p q r k =
        let j = both_is (judged s a) (judged s b) (λ x y. binary_operand s.tags at binary.Shl x y) x k in
        let result = type_in s (plain.Binary at binary.Shl a b) in
        let pn = operator_names P s.tags at (Some (codes "<<")) binary.Shl result (value_type_in s a) (value_type_in s b) (fewer s a) (fewer s b) p in
        let qn = operator_names Q s.tags at (Some (codes "<<")) binary.Shl result (value_type_in s a) (value_type_in s b) (fewer s a) (fewer s b) q in
        let rn = operator_names R s.tags at (Some (codes "<<")) binary.Shl result (value_type_in s a) (value_type_in s b) (fewer s a) (fewer s b) r in
        sign_calls at result (codes "<<") (fewer s a) (fewer s b) (sign_helps binary.Shl (counts_unsigned binary.Shl (value_type_in s a) (value_type_in s b)) (codes "<<") refl).0 p r (operators_are_few valued s s' a j.0 tags can known objects h.0 u.0 pn.0 qn.0 j.1.1, calls_of a j.0 h.0 u.0 pn.0 qn.0 rn.0 j.1.1) (operators_are_few valued s s' b j.1.0 tags can known objects h.1 u.1 pn.1 qn.1 j.1.2, calls_of b j.1.0 h.1 u.1 pn.1 qn.1 rn.1 j.1.2)
    calls_of (plain.Binary at binary.Shr a b) x h u p q r k =
        let j = both_is (judged s a) (judged s b) (λ x y. binary_operand s.tags at binary.Shr x y) x k in
        let result = type_in s (plain.Binary at binary.Shr a b) in
        let pn = operator_names P s.tags at (Some (if (counts_unsigned binary.Shr (value_type_in s a) (value_type_in s b)) then codes "unsigned >>" else codes "int >>")) binary.Shr result (value_type_in s a) (value_type_in s b) (fewer s a) (fewer s b) p in
        let qn = operator_names Q s.tags at (Some (if (counts_unsigned binary.Shr (value_type_in s a) (value_type_in s b)) then codes "unsigned >>" else codes "int >>")) binary.Shr result (value_type_in s a) (value_type_in s b) (fewer s a) (fewer s b) q in
        let rn = operator_names R s.tags at (Some (if (counts_unsigned binary.Shr (value_type_in s a) (value_type_in s b)) then codes "unsigned >>" else codes "int >>")) binary.Shr result (value_type_in s a) (value_type_in s b) (fewer s a) (fewer s b) r in
        sign_calls at result (if (counts_unsigned binary.Shr (value_type_in s a) (value_type_in s b)) then codes "unsigned >>" else codes "int >>") (fewer s a) (fewer s b) (sign_helps binary.Shr (counts_unsigned binary.Shr (value_type_in s a) (value_type_in s b)) (if (counts_unsigned binary.Shr (value_type_in s a) (value_type_in s b)) then codes "unsigned >>" else codes "int >>") refl).0 p r (operators_are_few valued s s' a j.0 tags can known objects h.0 u.0 pn.0 qn.0 j.1.1, calls_of a j.0 h.0 u.0 pn.0 qn.0 rn.0 j.1.1) (operators_are_few valued s s' b j.1.0 tags can known objects h.1 u.1 pn.1 qn.1 j.1.2, calls_of b j.1.0 h.1 u.1 pn.1 qn.1 rn.1 j.1.2)
    calls_of (plain.Binary at binary.And a b) x h u p q r k =
        let j = both_is (judged s a) (judged s b) (λ x y. binary_operand s.tags at binary.And x y) x k in (calls_of a j.0 h.0 u.0 p.0 q.0 r.0 j.1.1, calls_of b j.1.0 h.1 u.1 p.1 q.1 r.1 j.1.2)
    calls_of (plain.Binary at binary.Or a b) x h u p q r k =
        let j = both_is (judged s a) (judged s b) (λ x y. binary_operand s.tags at binary.Or x y) x k in (calls_of a j.0 h.0 u.0 p.0 q.0 r.0 j.1.1, calls_of b j.1.0 h.1 u.1 p.1 q.1 r.1 j.1.2)
    calls_of (plain.Binary at binary.Eq a b) x h u p q r k =
        let j = both_is (judged s a) (judged s b) (λ x y. binary_operand s.tags at binary.Eq x y) x k in (calls_of a j.0 h.0 u.0 p.0 q.0 r.0 j.1.1, calls_of b j.1.0 h.1 u.1 p.1 q.1 r.1 j.1.2)
    calls_of (plain.Binary at binary.Ne a b) x h u p q r k =
        let j = both_is (judged s a) (judged s b) (λ x y. binary_operand s.tags at binary.Ne x y) x k in (calls_of a j.0 h.0 u.0 p.0 q.0 r.0 j.1.1, calls_of b j.1.0 h.1 u.1 p.1 q.1 r.1 j.1.2)
    calls_of (plain.Binary at binary.Lt a b) x h u p q r k =
        let j = both_is (judged s a) (judged s b) (λ x y. binary_operand s.tags at binary.Lt x y) x k in (calls_of a j.0 h.0 u.0 p.0 q.0 r.0 j.1.1, calls_of b j.1.0 h.1 u.1 p.1 q.1 r.1 j.1.2)
    calls_of (plain.Binary at binary.Gt a b) x h u p q r k =
        let j = both_is (judged s a) (judged s b) (λ x y. binary_operand s.tags at binary.Gt x y) x k in (calls_of a j.0 h.0 u.0 p.0 q.0 r.0 j.1.1, calls_of b j.1.0 h.1 u.1 p.1 q.1 r.1 j.1.2)
    calls_of (plain.Binary at binary.Le a b) x h u p q r k =
        let j = both_is (judged s a) (judged s b) (λ x y. binary_operand s.tags at binary.Le x y) x k in (calls_of a j.0 h.0 u.0 p.0 q.0 r.0 j.1.1, calls_of b j.1.0 h.1 u.1 p.1 q.1 r.1 j.1.2)
    calls_of (plain.Binary at binary.Ge a b) x h u p q r k =
        let j = both_is (judged s a) (judged s b) (λ x y. binary_operand s.tags at binary.Ge x y) x k in (calls_of a j.0 h.0 u.0 p.0 q.0 r.0 j.1.1, calls_of b j.1.0 h.1 u.1 p.1 q.1 r.1 j.1.2)
    calls_of (plain.Binary at binary.Add a b) x h u p q r k =
        let j = both_is (judged s a) (judged s b) (λ x y. binary_operand s.tags at binary.Add x y) x k in
        let result = type_in s (plain.Binary at binary.Add a b) in
        let pn = operator_names P s.tags at None binary.Add result (value_type_in s a) (value_type_in s b) (fewer s a) (fewer s b) p in
        let qn = operator_names Q s.tags at None binary.Add result (value_type_in s a) (value_type_in s b) (fewer s a) (fewer s b) q in
        let rn = operator_names R s.tags at None binary.Add result (value_type_in s a) (value_type_in s b) (fewer s a) (fewer s b) r in
        sum_calls at (value_type_in s a) (value_type_in s b) (fewer s a) (fewer s b) p r (operators_are_few valued s s' a j.0 tags can known objects h.0 u.0 pn.0 qn.0 j.1.1, calls_of a j.0 h.0 u.0 pn.0 qn.0 rn.0 j.1.1) (operators_are_few valued s s' b j.1.0 tags can known objects h.1 u.1 pn.1 qn.1 j.1.2, calls_of b j.1.0 h.1 u.1 pn.1 qn.1 rn.1 j.1.2)
    calls_of (plain.Binary at binary.Sub a b) x h u p q r k =
        let j = both_is (judged s a) (judged s b) (λ x y. binary_operand s.tags at binary.Sub x y) x k in
        let result = type_in s (plain.Binary at binary.Sub a b) in
        let pn = operator_names P s.tags at None binary.Sub result (value_type_in s a) (value_type_in s b) (fewer s a) (fewer s b) p in
        let qn = operator_names Q s.tags at None binary.Sub result (value_type_in s a) (value_type_in s b) (fewer s a) (fewer s b) q in
        let rn = operator_names R s.tags at None binary.Sub result (value_type_in s a) (value_type_in s b) (fewer s a) (fewer s b) r in
        difference_calls at (value_type_in s a) (value_type_in s b) (fewer s a) (fewer s b) p r (operators_are_few valued s s' a j.0 tags can known objects h.0 u.0 pn.0 qn.0 j.1.1, calls_of a j.0 h.0 u.0 pn.0 qn.0 rn.0 j.1.1) (operators_are_few valued s s' b j.1.0 tags can known objects h.1 u.1 pn.1 qn.1 j.1.2, calls_of b j.1.0 h.1 u.1 pn.1 qn.1 rn.1 j.1.2)
    calls_of (plain.Assign at None a b) x h u p q r k =
        let j = both_is (judged s a) (judged s b) (λ x y. assign_operand s.tags at None x y) x k in (calls_of a j.0 h.0 u.0 p.0 q.0 r.0 j.1.1, calls_of b j.1.0 h.1 u.1 p.1 q.1 r.1 j.1.2)
    calls_of (plain.Assign at (Some binary.Mul) a b) x h u p q r k =
        let j = both_is (judged s a) (judged s b) (λ x y. assign_operand s.tags at (Some binary.Mul) x y) x k in
        let pn = assignment_names P s.tags at (Some (codes "*")) binary.Mul (type_in s a) (value_type_in s b) (fewer s a) (fewer s b) p in
        let qn = assignment_names Q s.tags at (Some (codes "*")) binary.Mul (type_in s a) (value_type_in s b) (fewer s a) (fewer s b) q in
        let rn = assignment_names R s.tags at (Some (codes "*")) binary.Mul (type_in s a) (value_type_in s b) (fewer s a) (fewer s b) r in
        sign_calls at (type_in s a) ((codes "*") ++ codes "=") (address_at at (fewer s a)) (fewer s b) (sign_helps binary.Mul (counts_unsigned binary.Mul (type_in s a) (value_type_in s b)) (codes "*") refl).1 p r (address at (fewer s a) (operators_are_few valued s s' a j.0 tags can known objects h.0 u.1 pn.0 qn.0 j.1.1, calls_of a j.0 h.0 u.1 pn.0 qn.0 rn.0 j.1.1)) (operators_are_few valued s s' b j.1.0 tags can known objects h.1 u.2 pn.1 qn.1 j.1.2, calls_of b j.1.0 h.1 u.2 pn.1 qn.1 rn.1 j.1.2)
    calls_of (plain.Assign at (Some binary.Div) a b) x h u p q r k =
        let j = both_is (judged s a) (judged s b) (λ x y. assign_operand s.tags at (Some binary.Div) x y) x k in
        let pn = assignment_names P s.tags at (Some (if (counts_unsigned binary.Div (type_in s a) (value_type_in s b)) then codes "unsigned /" else codes "int /")) binary.Div (type_in s a) (value_type_in s b) (fewer s a) (fewer s b) p in
        let qn = assignment_names Q s.tags at (Some (if (counts_unsigned binary.Div (type_in s a) (value_type_in s b)) then codes "unsigned /" else codes "int /")) binary.Div (type_in s a) (value_type_in s b) (fewer s a) (fewer s b) q in
        let rn = assignment_names R s.tags at (Some (if (counts_unsigned binary.Div (type_in s a) (value_type_in s b)) then codes "unsigned /" else codes "int /")) binary.Div (type_in s a) (value_type_in s b) (fewer s a) (fewer s b) r in
        sign_calls at (type_in s a) ((if (counts_unsigned binary.Div (type_in s a) (value_type_in s b)) then codes "unsigned /" else codes "int /") ++ codes "=") (address_at at (fewer s a)) (fewer s b) (sign_helps binary.Div (counts_unsigned binary.Div (type_in s a) (value_type_in s b)) (if (counts_unsigned binary.Div (type_in s a) (value_type_in s b)) then codes "unsigned /" else codes "int /") refl).1 p r (address at (fewer s a) (operators_are_few valued s s' a j.0 tags can known objects h.0 u.1 pn.0 qn.0 j.1.1, calls_of a j.0 h.0 u.1 pn.0 qn.0 rn.0 j.1.1)) (operators_are_few valued s s' b j.1.0 tags can known objects h.1 u.2 pn.1 qn.1 j.1.2, calls_of b j.1.0 h.1 u.2 pn.1 qn.1 rn.1 j.1.2)
    calls_of (plain.Assign at (Some binary.Mod) a b) x h u p q r k =
        let j = both_is (judged s a) (judged s b) (λ x y. assign_operand s.tags at (Some binary.Mod) x y) x k in
        let pn = assignment_names P s.tags at (Some (if (counts_unsigned binary.Mod (type_in s a) (value_type_in s b)) then codes "unsigned %" else codes "int %")) binary.Mod (type_in s a) (value_type_in s b) (fewer s a) (fewer s b) p in
        let qn = assignment_names Q s.tags at (Some (if (counts_unsigned binary.Mod (type_in s a) (value_type_in s b)) then codes "unsigned %" else codes "int %")) binary.Mod (type_in s a) (value_type_in s b) (fewer s a) (fewer s b) q in
        let rn = assignment_names R s.tags at (Some (if (counts_unsigned binary.Mod (type_in s a) (value_type_in s b)) then codes "unsigned %" else codes "int %")) binary.Mod (type_in s a) (value_type_in s b) (fewer s a) (fewer s b) r in
        sign_calls at (type_in s a) ((if (counts_unsigned binary.Mod (type_in s a) (value_type_in s b)) then codes "unsigned %" else codes "int %") ++ codes "=") (address_at at (fewer s a)) (fewer s b) (sign_helps binary.Mod (counts_unsigned binary.Mod (type_in s a) (value_type_in s b)) (if (counts_unsigned binary.Mod (type_in s a) (value_type_in s b)) then codes "unsigned %" else codes "int %") refl).1 p r (address at (fewer s a) (operators_are_few valued s s' a j.0 tags can known objects h.0 u.1 pn.0 qn.0 j.1.1, calls_of a j.0 h.0 u.1 pn.0 qn.0 rn.0 j.1.1)) (operators_are_few valued s s' b j.1.0 tags can known objects h.1 u.2 pn.1 qn.1 j.1.2, calls_of b j.1.0 h.1 u.2 pn.1 qn.1 rn.1 j.1.2)
    calls_of (plain.Assign at (Some binary.BitAnd) a b) x h u p q r k =
        let j = both_is (judged s a) (judged s b) (λ x y. assign_operand s.tags at (Some binary.BitAnd) x y) x k in
        let pn = assignment_names P s.tags at (Some (codes "&")) binary.BitAnd (type_in s a) (value_type_in s b) (fewer s a) (fewer s b) p in
        let qn = assignment_names Q s.tags at (Some (codes "&")) binary.BitAnd (type_in s a) (value_type_in s b) (fewer s a) (fewer s b) q in
        let rn = assignment_names R s.tags at (Some (codes "&")) binary.BitAnd (type_in s a) (value_type_in s b) (fewer s a) (fewer s b) r in
        sign_calls at (type_in s a) ((codes "&") ++ codes "=") (address_at at (fewer s a)) (fewer s b) (sign_helps binary.BitAnd (counts_unsigned binary.BitAnd (type_in s a) (value_type_in s b)) (codes "&") refl).1 p r (address at (fewer s a) (operators_are_few valued s s' a j.0 tags can known objects h.0 u.1 pn.0 qn.0 j.1.1, calls_of a j.0 h.0 u.1 pn.0 qn.0 rn.0 j.1.1)) (operators_are_few valued s s' b j.1.0 tags can known objects h.1 u.2 pn.1 qn.1 j.1.2, calls_of b j.1.0 h.1 u.2 pn.1 qn.1 rn.1 j.1.2)
    calls_of (plain.Assign at (Some binary.BitOr) a b) x h u p q r k =
        let j = both_is (judged s a) (judged s b) (λ x y. assign_operand s.tags at (Some binary.BitOr) x y) x k in
        let pn = assignment_names P s.tags at (Some (codes "|")) binary.BitOr (type_in s a) (value_type_in s b) (fewer s a) (fewer s b) p in
        let qn = assignment_names Q s.tags at (Some (codes "|")) binary.BitOr (type_in s a) (value_type_in s b) (fewer s a) (fewer s b) q in
        let rn = assignment_names R s.tags at (Some (codes "|")) binary.BitOr (type_in s a) (value_type_in s b) (fewer s a) (fewer s b) r in
        sign_calls at (type_in s a) ((codes "|") ++ codes "=") (address_at at (fewer s a)) (fewer s b) (sign_helps binary.BitOr (counts_unsigned binary.BitOr (type_in s a) (value_type_in s b)) (codes "|") refl).1 p r (address at (fewer s a) (operators_are_few valued s s' a j.0 tags can known objects h.0 u.1 pn.0 qn.0 j.1.1, calls_of a j.0 h.0 u.1 pn.0 qn.0 rn.0 j.1.1)) (operators_are_few valued s s' b j.1.0 tags can known objects h.1 u.2 pn.1 qn.1 j.1.2, calls_of b j.1.0 h.1 u.2 pn.1 qn.1 rn.1 j.1.2)
    calls_of (plain.Assign at (Some binary.BitXor) a b) x h u p q r k =
        let j = both_is (judged s a) (judged s b) (λ x y. assign_operand s.tags at (Some binary.BitXor) x y) x k in
        let pn = assignment_names P s.tags at (Some (codes "^")) binary.BitXor (type_in s a) (value_type_in s b) (fewer s a) (fewer s b) p in
        let qn = assignment_names Q s.tags at (Some (codes "^")) binary.BitXor (type_in s a) (value_type_in s b) (fewer s a) (fewer s b) q in
        let rn = assignment_names R s.tags at (Some (codes "^")) binary.BitXor (type_in s a) (value_type_in s b) (fewer s a) (fewer s b) r in
        sign_calls at (type_in s a) ((codes "^") ++ codes "=") (address_at at (fewer s a)) (fewer s b) (sign_helps binary.BitXor (counts_unsigned binary.BitXor (type_in s a) (value_type_in s b)) (codes "^") refl).1 p r (address at (fewer s a) (operators_are_few valued s s' a j.0 tags can known objects h.0 u.1 pn.0 qn.0 j.1.1, calls_of a j.0 h.0 u.1 pn.0 qn.0 rn.0 j.1.1)) (operators_are_few valued s s' b j.1.0 tags can known objects h.1 u.2 pn.1 qn.1 j.1.2, calls_of b j.1.0 h.1 u.2 pn.1 qn.1 rn.1 j.1.2)
    calls_of (plain.Assign at (Some binary.Shl) a b) x h u p q r k =
        let j = both_is (judged s a) (judged s b) (λ x y. assign_operand s.tags at (Some binary.Shl) x y) x k in
        let pn = assignment_names P s.tags at (Some (codes "<<")) binary.Shl (type_in s a) (value_type_in s b) (fewer s a) (fewer s b) p in
        let qn = assignment_names Q s.tags at (Some (codes "<<")) binary.Shl (type_in s a) (value_type_in s b) (fewer s a) (fewer s b) q in
        let rn = assignment_names R s.tags at (Some (codes "<<")) binary.Shl (type_in s a) (value_type_in s b) (fewer s a) (fewer s b) r in
        sign_calls at (type_in s a) ((codes "<<") ++ codes "=") (address_at at (fewer s a)) (fewer s b) (sign_helps binary.Shl (counts_unsigned binary.Shl (type_in s a) (value_type_in s b)) (codes "<<") refl).1 p r (address at (fewer s a) (operators_are_few valued s s' a j.0 tags can known objects h.0 u.1 pn.0 qn.0 j.1.1, calls_of a j.0 h.0 u.1 pn.0 qn.0 rn.0 j.1.1)) (operators_are_few valued s s' b j.1.0 tags can known objects h.1 u.2 pn.1 qn.1 j.1.2, calls_of b j.1.0 h.1 u.2 pn.1 qn.1 rn.1 j.1.2)
    calls_of (plain.Assign at (Some binary.Shr) a b) x h u p q r k =
        let j = both_is (judged s a) (judged s b) (λ x y. assign_operand s.tags at (Some binary.Shr) x y) x k in
        let pn = assignment_names P s.tags at (Some (if (counts_unsigned binary.Shr (type_in s a) (value_type_in s b)) then codes "unsigned >>" else codes "int >>")) binary.Shr (type_in s a) (value_type_in s b) (fewer s a) (fewer s b) p in
        let qn = assignment_names Q s.tags at (Some (if (counts_unsigned binary.Shr (type_in s a) (value_type_in s b)) then codes "unsigned >>" else codes "int >>")) binary.Shr (type_in s a) (value_type_in s b) (fewer s a) (fewer s b) q in
        let rn = assignment_names R s.tags at (Some (if (counts_unsigned binary.Shr (type_in s a) (value_type_in s b)) then codes "unsigned >>" else codes "int >>")) binary.Shr (type_in s a) (value_type_in s b) (fewer s a) (fewer s b) r in
        sign_calls at (type_in s a) ((if (counts_unsigned binary.Shr (type_in s a) (value_type_in s b)) then codes "unsigned >>" else codes "int >>") ++ codes "=") (address_at at (fewer s a)) (fewer s b) (sign_helps binary.Shr (counts_unsigned binary.Shr (type_in s a) (value_type_in s b)) (if (counts_unsigned binary.Shr (type_in s a) (value_type_in s b)) then codes "unsigned >>" else codes "int >>") refl).1 p r (address at (fewer s a) (operators_are_few valued s s' a j.0 tags can known objects h.0 u.1 pn.0 qn.0 j.1.1, calls_of a j.0 h.0 u.1 pn.0 qn.0 rn.0 j.1.1)) (operators_are_few valued s s' b j.1.0 tags can known objects h.1 u.2 pn.1 qn.1 j.1.2, calls_of b j.1.0 h.1 u.2 pn.1 qn.1 rn.1 j.1.2)
    calls_of (plain.Assign at (Some binary.And) a b) x h u p q r k = absurd u.0
    calls_of (plain.Assign at (Some binary.Or) a b) x h u p q r k = absurd u.0
    calls_of (plain.Assign at (Some binary.Eq) a b) x h u p q r k = absurd u.0
    calls_of (plain.Assign at (Some binary.Ne) a b) x h u p q r k = absurd u.0
    calls_of (plain.Assign at (Some binary.Lt) a b) x h u p q r k = absurd u.0
    calls_of (plain.Assign at (Some binary.Gt) a b) x h u p q r k = absurd u.0
    calls_of (plain.Assign at (Some binary.Le) a b) x h u p q r k = absurd u.0
    calls_of (plain.Assign at (Some binary.Ge) a b) x h u p q r k = absurd u.0
    calls_of (plain.Assign at (Some binary.Add) a b) x h u p q r k =
        let j = both_is (judged s a) (judged s b) (λ x y. assign_operand s.tags at (Some binary.Add) x y) x k in
        let pn = assignment_names P s.tags at None binary.Add (type_in s a) (value_type_in s b) (fewer s a) (fewer s b) p in
        let qn = assignment_names Q s.tags at None binary.Add (type_in s a) (value_type_in s b) (fewer s a) (fewer s b) q in
        let rn = assignment_names R s.tags at None binary.Add (type_in s a) (value_type_in s b) (fewer s a) (fewer s b) r in
        update_calls at binary.Add (type_in s a) (value_type_in s b) (fewer s a) (fewer s b) p r (operators_are_few valued s s' a j.0 tags can known objects h.0 u.1 pn.0 qn.0 j.1.1, calls_of a j.0 h.0 u.1 pn.0 qn.0 rn.0 j.1.1) (operators_are_few valued s s' b j.1.0 tags can known objects h.1 u.2 pn.1 qn.1 j.1.2, calls_of b j.1.0 h.1 u.2 pn.1 qn.1 rn.1 j.1.2)
    calls_of (plain.Assign at (Some binary.Sub) a b) x h u p q r k =
        let j = both_is (judged s a) (judged s b) (λ x y. assign_operand s.tags at (Some binary.Sub) x y) x k in
        let pn = assignment_names P s.tags at None binary.Sub (type_in s a) (value_type_in s b) (fewer s a) (fewer s b) p in
        let qn = assignment_names Q s.tags at None binary.Sub (type_in s a) (value_type_in s b) (fewer s a) (fewer s b) q in
        let rn = assignment_names R s.tags at None binary.Sub (type_in s a) (value_type_in s b) (fewer s a) (fewer s b) r in
        update_calls at binary.Sub (type_in s a) (value_type_in s b) (fewer s a) (fewer s b) p r (operators_are_few valued s s' a j.0 tags can known objects h.0 u.1 pn.0 qn.0 j.1.1, calls_of a j.0 h.0 u.1 pn.0 qn.0 rn.0 j.1.1) (operators_are_few valued s s' b j.1.0 tags can known objects h.1 u.2 pn.1 qn.1 j.1.2, calls_of b j.1.0 h.1 u.2 pn.1 qn.1 rn.1 j.1.2)
    calls_of (plain.Cond at a b c) x h u p q r k =
        let j = three_is (judged s a) (judged s b) (judged s c) (λ x y z. choice_operand at x y z) x k in
        (calls_of a j.0 h.0 u.0 p.0 q.0 r.0 j.1.1.1, calls_of b j.1.0 h.1 u.1 p.1 q.1 r.1 j.1.1.2, calls_of c j.1.1.0 h.2 u.2 p.2 q.2 r.2 j.1.1.3)
    calls_of (plain.Comma at a b) x h u p q r k =
        let j = both_is (judged s a) (judged s b) (λ x y. comma_operand at x y) x k in (calls_of a j.0 h.0 u.0 p.0 q.0 r.0 j.1.1, calls_of b j.1.0 h.1 u.1 p.1 q.1 r.1 j.1.2)
    calls_of (plain.Cast at t a) x h u p q r k = let j = both_is (written s at t) (judged s a) (λ u x. cast_operand at u x) x k in calls_of a j.1.0 h u p.1 q.1 r.1 j.1.2
    calls_of (plain.SizeTy at t) x h u p q r k = tt
    calls_of (plain.SizeOf at a) x h u p q r k = tt
    calls_of (plain.Index at a b) x h u p q r k =
        let j = both_is (judged s a) (judged s b) (λ x y. index_operand s.tags at x y) x k in
        let pn = element_names P s.tags at (value_type_in s a) (value_type_in s b) (fewer s a) (fewer s b) p in
        let qn = element_names Q s.tags at (value_type_in s a) (value_type_in s b) (fewer s a) (fewer s b) q in
        let rn = element_names R s.tags at (value_type_in s a) (value_type_in s b) (fewer s a) (fewer s b) r in
        let left : Has (fewer s a) = (operators_are_few valued s s' a j.0 tags can known objects h.0 u.0 pn.0 qn.0 j.1.1, calls_of a j.0 h.0 u.0 pn.0 qn.0 rn.0 j.1.1) in
        let right : Has (fewer s b) = (operators_are_few valued s s' b j.1.0 tags can known objects h.1 u.1 pn.1 qn.1 j.1.2, calls_of b j.1.0 h.1 u.1 pn.1 qn.1 rn.1 j.1.2) in
        by_if (is_wide_pointer s.tags (value_type_in s a) || is_wide_pointer s.tags (value_type_in s b)) (plain.Unary at unary.Deref (sum_tree s.tags at (value_type_in s a) (value_type_in s b) (fewer s a) (fewer s b))) (plain.Index at (fewer s a) (fewer s b)) p r
        (λ p r. sum_calls at (value_type_in s a) (value_type_in s b) (fewer s a) (fewer s b) p r left right) (λ p r. (left.1, right.1))
    calls_of (plain.Call at f es) x h u p q r k =
        call_calls at f es x (λ y pf qf rf kf. (operators_are_few valued s s' f y tags can known objects h.0 u.0 pf qf kf, calls_of f y h.0 u.0 pf qf rf kf)) (λ xs pe qe re ke. all_calls es xs h.1 u.1 pe qe re ke) (λ xs pe qe re ke. behind_calls es xs h.1 u.1 pe qe re ke) p q r k
    calls_of (plain.Member at a m) x h u p q r k = let j = after_is (judged s a) (λ x. member_operand s.tags at m x.ty) x k in calls_of a j.0 h u p q r j.1
    calls_of (plain.Arrow at a m) x h u p q r k = let j = after_is (judged s a) (λ x. arrow_operand s.tags at m (value_type x)) x k in calls_of a j.0 h u p q r j.1

    all_calls : (es : CExprs) (xs : List Operand) → EachStringIsShort es → AllUpdatesAre es → EachNameOf P (fewer_all s es) → EachNameOf Q (fewer_all s es) → EachNameOf R (fewer_all s es) → all_judged s es ≡ Ok xs → Args (fewer_all s es)
    all_calls plain.NoExpr xs h u p q r k = tt
    all_calls (plain.MoreExpr e es) xs h u p q r k =
        let j = both_is (judged s e) (all_judged s es) (λ x xs. Ok (x ∷ xs)) xs k in
        let own : Has (fewer s e) = (operators_are_few valued s s' e j.0 tags can known objects h.0 u.0 p.0 q.0 j.1.1, calls_of e j.0 h.0 u.0 p.0 q.0 r.0 j.1.1) in
        (own.0, own.1, all_calls es j.1.0 h.1 u.1 p.1 q.1 r.1 j.1.2)

    behind_calls : (es : CExprs) (xs : List Operand) → EachStringIsShort es → AllUpdatesAre es → EachNameOf P (behind_format (fewer_all s es)) → EachNameOf Q (behind_format (fewer_all s es)) → EachNameOf R (behind_format (fewer_all s es)) → all_judged s es ≡ Ok xs → Args (behind_format (fewer_all s es))
    behind_calls plain.NoExpr xs h u p q r k = tt
    behind_calls (plain.MoreExpr e es) xs h u p q r k = let j = both_is (judged s e) (all_judged s es) (λ x xs. Ok (x ∷ xs)) xs k in all_calls es j.1.0 h.1 u.1 p q r j.1.2

pub calls_may_be_called : CallsMayBeCalled
calls_may_be_called valued may s s' e x any tags can known objects h u p q r k = calls_of valued may s s' any tags can known objects e x h u p q r k
