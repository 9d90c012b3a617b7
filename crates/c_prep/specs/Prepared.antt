-- The tokens of a text when its directives are obeyed and its macros expanded.
use Rattle.std.specs.Prelude.{ℕ, ◌+◌, Bool, ◌||◌, nat_lt, List, [], ◌∷◌, length, map, fold, Result, Ok, Err, if◌then◌else◌}
use Rattle.c_syntax.specs.declared.token.Raw.{Raw}
use Rattle.c_syntax.specs.declared.token.Token.{Token}
use Rattle.c_syntax.specs.declared.token.LexFault.{LexFault}
use Rattle.c_syntax.specs.declared.token.LexFault.TheVariants as lex_fault
use Rattle.c_syntax.specs.Scan.{raw_tokens}
use Rattle.c_syntax.specs.Lex.{named_constant, joined}
use Rattle.c_prep.specs.declared.fault.PrepFault.{PrepFault}
use Rattle.c_prep.specs.declared.fault.PrepFault.TheVariants as fault
use Rattle.c_prep.specs.Macros.{Item, Act, Replaces, Gives}
use Rattle.c_prep.specs.Lines.{lines, first_state, acts_in}

-- how many names are replaced
abbrev pub replaced_in : List Act → ℕ
replaced_in [] = 0
replaced_in (Replaces ∷ acts) = 1 + replaced_in acts
replaced_in (Gives i ∷ acts) = replaced_in acts

abbrev pub items_in : List Act → List Item
items_in [] = []
items_in (Replaces ∷ acts) = items_in acts
items_in (Gives i ∷ acts) = i ∷ items_in acts

abbrev pub ok_item : Token → Item
ok_item t = Ok t

-- two strings are one
abbrev pub joined_items : Item → Item → List Item
joined_items (Ok x) (Ok t) = map ok_item (joined x t)
joined_items x t = x ∷ t ∷ []

abbrev pub added_item : List Item → Item → List Item
added_item [] i = i ∷ []
added_item (x ∷ []) i = joined_items x i
added_item (x ∷ y ∷ items) i = x ∷ added_item (y ∷ items) i

-- `NULL` and `EOF` are replaced
abbrev pub constant_item : Item → Item
constant_item (Ok t) = Ok (record { kind = named_constant t.kind; pos = t.pos })
constant_item (Err e) = Err e

abbrev pub put_item : List Item → Item → List Item
put_item items i = added_item items (constant_item i)

-- the tokens with `NULL` and `EOF` replaced and neighbouring strings joined
abbrev pub result_of : List Act → List Item
result_of acts = fold put_item [] (items_in acts)

-- more than 1,000,000 names are replaced, or more than 1,000,000 tokens stand before the end
unfoldable pub is_over : List Act → Bool
is_over acts = nat_lt 1000000 (replaced_in acts) || nat_lt 1000001 (length (result_of acts))

abbrev pub put_token : Token → Result (List Token) PrepFault → Result (List Token) PrepFault
put_token t (Ok ts) = Ok (t ∷ ts)
put_token t (Err e) = Err e

-- the tokens, or the refusal of the first that there can't be
abbrev pub collected : List Item → Result (List Token) PrepFault
collected [] = Ok []
collected (Ok t ∷ items) = put_token t (collected items)
collected (Err e ∷ items) = Err e

abbrev pub outcome : List Act → Result (List Token) PrepFault
outcome acts = if is_over acts then Err fault.TooLarge else collected (result_of acts)

abbrev pub refusal_of : LexFault → PrepFault
refusal_of (lex_fault.BadChar p) = fault.BadChar p
refusal_of (lex_fault.Unclosed p) = fault.Unclosed p
refusal_of (lex_fault.NumberRange p) = fault.NumberRange p
refusal_of lex_fault.Memory = fault.Memory

abbrev pub all_acts : List Raw → Result (List Act) PrepFault
all_acts raws = acts_in (length raws) first_state (lines raws)

abbrev pub of_acts : Result (List Act) PrepFault → Result (List Token) PrepFault
of_acts (Ok acts) = outcome acts
of_acts (Err e) = Err e

abbrev pub of_raws : Result (List Raw) LexFault → Result (List Token) PrepFault
of_raws (Ok raws) = of_acts (all_acts raws)
of_raws (Err e) = Err (refusal_of e)

-- the tokens of a text, the end last, or its refusal
unfoldable pub prepared : List ℕ → Result (List Token) PrepFault
prepared text = of_raws (raw_tokens text)
