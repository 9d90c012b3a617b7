-- Uses of the helper functions of a desugared program land.
use Rattle.std.proofs.Common.{◌≡◌, inl, inr, ℕ, ◌-◌, List, length, drop, Option, Some, None, Bool, true, false, refl, sym, ◌∙◌, subst, arith}
use Rattle.std.specs.Prelude.{not, ◌&&◌, ◌||◌, is_some, nat_lt}
use Rattle.std.specs.List.{list_any}
use Rattle.std.specs.Str.{bytes_eq}
use Rattle.std.proofs.lemmas.Bool.{and_parts}
use Rattle.std.proofs.lemmas.Slice.Eq.{bytes_eq-Decides}
use Rattle.c_syntax.specs.Plain.{CUnit}
use Rattle.c_types.specs.Types.{CTypes, NoType}
use Rattle.c_eval.specs.Environment.{Callee, Direct}
use Rattle.c_eval.specs.Text.{Definition, Text, text_of, function_named}
use Rattle.c_helpers.specs.Functions.{print_string, put_string, format_name}
use Rattle.c_helpers.specs.Laws.{is_strange}
use Rattle.c_helpers.specs.Meanings.{Action, is_format, stands_for}
use Rattle.c_helpers.specs.Simple.{desugared}
use Rattle.c_worlds.specs.Silent.{ShowsNoMore, prints}
use Rattle.c_worlds.proofs.Silent.{operators_are_silent}
use Rattle.c_rates.specs.Rates.{ration, spare_rate, pieces, uses, rate_of}
use Rattle.c_rates.proofs.Paid.{rates_fit}
use Rattle.c_lowered.specs.Counts.{is_known_to_helpers}
use Rattle.c_lowered.specs.Whole.{entry_in}
use Rattle.c_landing.specs.Landing.{Setting}
use Rattle.c_followed.specs.Framed.{MayBeCalled}
use Rattle.c_followed.specs.Used.{UndefinedIsSilent}
use Rattle.c_followed.specs.Printed.{PrinterIs}
use Rattle.c_followed.specs.Spelled.{SpellerIs}
use Rattle.c_followed.specs.Lowered.{setting_of, UseLands, PieceLands}
use Rattle.c_compiled.specs.Helped.{is_plain, calls_plain, calls_pieces}
use Rattle.c_compiled.proofs.Printing.{strings_are_spelled, strings_are_put}
use Rattle.c_compiled.proofs.FormattedPrinting.{formats_print}
use Rattle.c_compiled.proofs.Helpers.{helper_is, charged}
use Rattle.c_compiled.proofs.Formats.{found_formats_are_formats}
use Rattle.c_compiled.proofs.Programs.{helpers, may_call, IsMade, HasRoom}
use Rattle.c_compiled.proofs.Names.{format_is, stands_strange, stands_plain}
use Rattle.c_compiled.proofs.Found.{some_is, denied}

-- ---- what is called

module _ (u : CUnit) (test reached kept : List ℕ → Bool) (input : List ℕ) (made : IsMade u test reached kept) (room : HasRoom u test reached input) where
  abbrev v : CUnit
  v = desugared u

  abbrev t : Text
  t = text_of v

  abbrev S : Setting
  S = setting_of v input (rate_of u)

  abbrev may : Callee → Bool
  may = may_call t

  -- a helper function that may be called is one of the text
  used_is : (name : List ℕ) → list_any is_strange name ≡ true → MayBeCalled S may name → is_some (function_named t name) ≡ true
  used_is name strange (inl c) = go (list_any is_strange name) strange c.1
    where
      go : (b : Bool) → b ≡ true → (not b || (is_some (stands_for name) && is_some (function_named t name))) ≡ true → is_some (function_named t name) ≡ true
      go true s e = (and_parts (is_some (stands_for name)) (is_some (function_named t name)) e).1
      go false s e = absurd (cc s)
  used_is name strange (inr c) =
      let text : list_any is_strange name ≡ false = denied (list_any is_strange name) (and_parts (not (list_any is_strange name)) (nat_lt 0 (entry_in t.functions 2 name)) c.2).0 in
      absurd (cc (sym text ∙ strange))

  silent : (name : List ℕ) (operator : Action) → stands_for name ≡ Some operator → prints name ≡ false → UndefinedIsSilent operator
  silent name operator e p vs st st1 act k = subst (λ r. ShowsNoMore st r) k (operators_are_silent name operator vs st e p)

  format_prints : (name : List ℕ) (f : Definition) → is_format name ≡ true → function_named t name ≡ Some f → PrinterIs S t (helpers u) pieces (rate_of u) calls_pieces name f
  format_prints name f e k =
      let whole : format_name (drop 7 name) ≡ name = format_is name e in
      let found : function_named t (format_name (drop 7 name)) ≡ Some f = subst (λ z. function_named t z ≡ Some f) (sym whole) k in
      let is = found_formats_are_formats u ration t kept made.has made.keeps (drop 7 name) f found in
      subst (λ z. PrinterIs S t (helpers u) pieces (rate_of u) calls_pieces z f) whole (formats_print S t (helpers u) pieces (rate_of u) (drop 7 name) is.0 f is.1 found ((rates_fit u).printed (length (drop 7 name)) (room.formats (drop 7 name) f found)))

  put_prints : (name : List ℕ) (f : Definition) → bytes_eq name put_string.name ≡ true → function_named t name ≡ Some f → PrinterIs S t (helpers u) pieces (rate_of u) calls_pieces name f
  put_prints name f e k =
      let same : name ≡ put_string.name = (bytes_eq-Decides name put_string.name).0 e in
      let found : function_named t put_string.name ≡ Some f = subst (λ z. function_named t z ≡ Some f) same k in
      subst (λ z. PrinterIs S t (helpers u) pieces (rate_of u) calls_pieces z f) (sym same)
      (strings_are_put S t (helpers u) pieces (rate_of u) f found (helper_is u ration t kept made.has made.keeps put_string f (refl, refl, refl) found) (charged u put_string (refl, refl, refl)) (rates_fit u).put)

  printer_is : (name : List ℕ) (f : Definition) → prints name ≡ true → function_named t name ≡ Some f → PrinterIs S t (helpers u) pieces (rate_of u) calls_pieces name f
  printer_is name f p k = go (is_format name) refl (bytes_eq name put_string.name) refl p
    where
      go : (b : Bool) → is_format name ≡ b → (c : Bool) → bytes_eq name put_string.name ≡ c → (b || c) ≡ true → PrinterIs S t (helpers u) pieces (rate_of u) calls_pieces name f
      go true e c g h = format_prints name f e k
      go false e true g h = put_prints name f g k
      go false e false g h = absurd (cc h)

  pub uses_land : (name : List ℕ) (operator : Action) → MayBeCalled S may name → stands_for name ≡ Some operator → UseLands v (helpers u) input (rate_of u) uses pieces calls_plain calls_pieces name operator
  uses_land name operator c e = go (prints name) refl
    where
      there : is_some (function_named t name) ≡ true
      there = used_is name (stands_strange name operator e) c

      go : (b : Bool) → prints name ≡ b → UseLands v (helpers u) input (rate_of u) uses pieces calls_plain calls_pieces name operator
      go false p = inl ((NoType, stands_plain name operator e p), silent name operator e p)
      go true p = let f = some_is (function_named t name) there in inr (inl (f.0, printer_is name f.0 p f.1, room.fails name operator p e there))

  -- ---- pieces

  spelled : (name : List ℕ) (o : Option Definition) → function_named t name ≡ o → bytes_eq name print_string.name ≡ true → PieceLands v (helpers u) input (rate_of u) spare_rate calls_plain name
  spelled name None k e = inr (inr k)
  spelled name (Some f) k e =
      let same : name ≡ print_string.name = (bytes_eq-Decides name print_string.name).0 e in
      let found : function_named t print_string.name ≡ Some f = subst (λ z. function_named t z ≡ Some f) same k in
      let speller : SpellerIs S t (helpers u) (rate_of u) spare_rate calls_plain print_string.name f =
      strings_are_spelled S t (helpers u) (rate_of u) spare_rate f found (helper_is u ration t kept made.has made.keeps print_string f (refl, refl, refl) found) (charged u print_string (refl, refl, refl)) (omega arith) (rates_fit u).spelled in
      inr (inl (f, subst (λ z. SpellerIs S t (helpers u) (rate_of u) spare_rate calls_plain z f) (sym same) speller))

  pub pieces_land : (name : List ℕ) (params : CTypes) → calls_pieces (Direct name params) ≡ true → is_known_to_helpers name ≡ false → PieceLands v (helpers u) input (rate_of u) spare_rate calls_plain name
  pieces_land name params c own = go (is_plain name) refl (bytes_eq name print_string.name) refl (is_known_to_helpers name) own c
    where
      go : (x : Bool) → is_plain name ≡ x → (y : Bool) → bytes_eq name print_string.name ≡ y → (z : Bool) → z ≡ false → (x || y || z) ≡ true → PieceLands v (helpers u) input (rate_of u) spare_rate calls_plain name
      go true e y f z g h = inl (params, e)
      go false e true f z g h = spelled name (function_named t name) refl f
      go false e false f true g h = absurd (cc g)
      go false e false f false g h = absurd (cc h)
