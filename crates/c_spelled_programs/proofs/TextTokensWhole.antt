-- The law of the crate.
use Rattle.std.proofs.Common.{ℕ, List, [], ◌∷◌, map, length, Bool, true, false, subst}
use Rattle.std.specs.Prelude.{fold, Result, Ok, Err, if◌then◌else◌, codes}
use Rattle.std.specs.Str.{bytes_eq}
use Rattle.c_syntax.specs.declared.token.Kind.{Kind}
use Rattle.c_syntax.specs.declared.token.Kind.TheVariants as kind
use Rattle.c_syntax.specs.declared.token.Raw.{Raw}
use Rattle.c_syntax.specs.declared.token.Token.{Token}
use Rattle.c_syntax.specs.declared.token.LexFault.{LexFault}
use Rattle.c_syntax.specs.Scan.{raw_tokens}
use Rattle.c_syntax.specs.Lex.{named_constant, joined_kinds, joined}
use Rattle.c_prep.specs.declared.fault.PrepFault.{PrepFault}
use Rattle.c_prep.specs.declared.fault.PrepFault.TheVariants as fault
use Rattle.c_prep.specs.Macros.{Item, Act, Replaces, Gives}
use Rattle.c_prep.specs.Lines.{lines, first_state}
use Rattle.c_prep.specs.Prepared.{items_in, ok_item, joined_items, added_item, constant_item, put_item, result_of, is_over, put_token, collected, outcome, all_acts, of_acts, of_raws, prepared}
use Rattle.c_valid.specs.Valid.{AreBytes}
use Rattle.c_spelled_programs.specs.Tokens.{KindIsOfText, AreOfText, TokensAreOfText}
use Rattle.c_spelled_programs.proofs.Bytes.{both_bytes}
use Rattle.c_spelled_programs.proofs.Fronts.{RawsFit, text_fits}
use Rattle.c_spelled_programs.proofs.Macros.{ItemFits, ActsFit, AllActsFit, lines_fit, acts_fit}

abbrev ItemsFit : List Item → Type 0
ItemsFit [] = Unit {0}
ItemsFit (i ∷ items) = ItemFits i × ItemsFit items

abbrev TokensFit : {E : Type 0} → Result (List Token) E → Type 0
TokensFit (Ok ts) = AreOfText ts
TokensFit (Err e) = Unit {0}

items_fit : (acts : List Act) → ActsFit acts → ItemsFit (items_in acts)
items_fit [] h = tt
items_fit (Replaces ∷ acts) h = items_fit acts h.1
items_fit (Gives i ∷ acts) h = (h.0, items_fit acts h.1)

constant_fits : (k : Kind) → KindIsOfText k → KindIsOfText (named_constant k)
constant_fits (kind.Name word) h = go (bytes_eq word (codes "NULL")) (bytes_eq word (codes "EOF"))
  where
    go : (a b : Bool) → KindIsOfText (if a then kind.Null else if b then kind.Number 16777215 false else kind.Name word)
    go true b = tt
    go false true = tt
    go false false = h
constant_fits k h = h

kinds_joined : (j k : Kind) (x y : Token) → KindIsOfText j → KindIsOfText k → KindIsOfText x.kind → KindIsOfText y.kind → AreOfText (joined_kinds j k x y)
kinds_joined (kind.Str a) (kind.Str b) x y g h p q = (both_bytes a b g h, tt)
kinds_joined j k x y g h p q = (p, (q, tt))

oks_fit : (ts : List Token) → AreOfText ts → ItemsFit (map ok_item ts)
oks_fit [] h = tt
oks_fit (t ∷ ts) h = (h.0, oks_fit ts h.1)

joined_fit : (x i : Item) → ItemFits x → ItemFits i → ItemsFit (joined_items x i)
joined_fit (Ok x) (Ok t) g h = oks_fit (joined x t) (kinds_joined x.kind t.kind x t g h g h)
joined_fit (Ok x) (Err e) g h = (g, (h, tt))
joined_fit (Err e) t g h = (g, (h, tt))

added_fit : (items : List Item) (i : Item) → ItemsFit items → ItemFits i → ItemsFit (added_item items i)
added_fit [] i g h = (h, tt)
added_fit (x ∷ []) i g h = joined_fit x i g.0 h
added_fit (x ∷ y ∷ items) i g h = (g.0, added_fit (y ∷ items) i g.1 h)

constant_item_fits : (i : Item) → ItemFits i → ItemFits (constant_item i)
constant_item_fits (Ok t) h = constant_fits t.kind h
constant_item_fits (Err e) h = tt

put_fits : (items more : List Item) → ItemsFit items → ItemsFit more → ItemsFit (fold put_item items more)
put_fits items [] g h = g
put_fits items (i ∷ more) g h = put_fits (put_item items i) more (added_fit items (constant_item i) g (constant_item_fits i h.0)) h.1

collected_fit : (items : List Item) → ItemsFit items → TokensFit (collected items)
collected_fit [] h = tt
collected_fit (Ok t ∷ items) h = go (collected items) (collected_fit items h.1)
  where
    go : (r : Result (List Token) PrepFault) → TokensFit r → TokensFit (put_token t r)
    go (Ok ts) f = (h.0, f)
    go (Err e) f = tt
collected_fit (Err e ∷ items) h = tt

outcome_fits : (acts : List Act) → ActsFit acts → TokensFit (outcome acts)
outcome_fits acts h = go (is_over acts)
  where
    go : (b : Bool) → TokensFit (if b then Err fault.TooLarge else collected (result_of acts))
    go true = tt
    go false = collected_fit (result_of acts) (put_fits [] (items_in acts) tt (items_fit acts h))

acts_told : (r : Result (List Act) PrepFault) → AllActsFit r → TokensFit (of_acts r)
acts_told (Ok acts) h = outcome_fits acts h
acts_told (Err e) h = tt

raws_told : (r : Result (List Raw) LexFault) → RawsFit r → TokensFit (of_raws r)
raws_told (Ok raws) h = acts_told (all_acts raws) (acts_fit (length raws) first_state (lines raws) (λ name. tt) (lines_fit raws h))
raws_told (Err e) h = tt

prepared_fits : (text : List ℕ) → AreBytes text → TokensFit (prepared text)
unfolding prepared
prepared_fits text h = raws_told (raw_tokens text) (text_fits text h)

pub tokens_are_of_text : TokensAreOfText
tokens_are_of_text text ts h e = subst (λ r. TokensFit r) e (prepared_fits text h)
