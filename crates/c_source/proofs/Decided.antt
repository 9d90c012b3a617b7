-- A text is decided in one way.
use Rattle.std.proofs.Common.{◌≡◌, ◌≢◌, ◌⊎◌, inl, inr, ℕ, List, Ok, Err, refl, sym, ap, subst, ◌∙◌}
use Rattle.std.specs.Prelude.{Result}
use Rattle.c_syntax.specs.declared.token.Token.{Token}
use Rattle.c_syntax.specs.Plain.{CUnit}
use Rattle.c_prep.specs.declared.fault.PrepFault.{PrepFault}
use Rattle.c_prep.specs.declared.fault.PrepFault.TheVariants as prep
use Rattle.c_prep.specs.Prepared.{prepared}
use Rattle.c_parse.specs.declared.fault.ParseFault.{ParseFault}
use Rattle.c_parse.specs.declared.fault.ParseFault.TheVariants as parse
use Rattle.c_parse.specs.Answer.{Parses}
use Rattle.c_parse.proofs.OneAnswer.{one_answer}
use Rattle.c_text.proofs.Ending.{prepared_texts_end}
use Rattle.c_types.specs.declared.fault.TypeFault.{TypeFault}
use Rattle.c_types.specs.declared.fault.TypeFault.TheVariants as type
use Rattle.c_types.specs.Refusals.{Judged}
use Rattle.c_types.specs.Limits.{answer_to}
use Rattle.c_reasons.proofs.Stated.{units_have_reasons}
use Rattle.c_source.specs.declared.fault.SourceFault.{SourceFault}
use Rattle.c_source.specs.declared.fault.SourceFault.TheVariants.{Prepare, Parse, Check}
use Rattle.c_source.specs.Source.{Parsed, Spells, IsNoUnit, IsUntyped, IsRefusedFor, LiesInText, IsDecided}
use Rattle.c_source.proofs.Prepares.{prepared_has_reason}
use Rattle.c_source.proofs.Parsed.{tokens_decided}

-- ---- one of each

abbrev Prepared : Type 0
Prepared = Result (List Token) PrepFault

abbrev has_tokens : List Token → Prepared
has_tokens ts = Ok ts

one_list : (xs ys : List Token) → has_tokens xs ≡ has_tokens ys → xs ≡ ys
one_list xs ys e = cc

same_tokens : (r : Prepared) (xs ys : List Token) → r ≡ Ok xs → r ≡ Ok ys → xs ≡ ys
same_tokens r xs ys h k = one_list xs ys (sym h ∙ k)

abbrev parsed_as : CUnit → Result CUnit ParseFault
parsed_as u = Ok u

abbrev not_parsed : ParseFault → Result CUnit ParseFault
not_parsed e = Err e

one_tree : (u v : CUnit) → parsed_as u ≡ parsed_as v → u ≡ v
one_tree u v e = cc

one_parse_fault : (d e : ParseFault) → not_parsed d ≡ not_parsed e → d ≡ e
one_parse_fault d e h = cc

parsed_once : (text : List ℕ) (u v : CUnit) → Parsed text u → Parsed text v → u ≡ v
parsed_once text u v p q =
    let same = same_tokens (prepared text) p.tokens q.tokens p.prepares q.prepares in
    one_tree u v (one_answer p.tokens (Ok u) (Ok v) p.parses (subst (λ (ts : List Token). Parses ts (Ok v)) (sym same) q.parses))

parsed_apart : (text : List ℕ) (u : CUnit) (e : ParseFault) → Parsed text u → IsNoUnit text e → ⊥
parsed_apart text u e p q =
    let same = same_tokens (prepared text) p.tokens q.tokens p.prepares q.prepares in
    let h : parsed_as u ≡ not_parsed e = one_answer p.tokens (Ok u) (Err e) p.parses (subst (λ (ts : List Token). Parses ts (Err e)) (sym same) q.refused) in
    cc h

no_unit_once : (text : List ℕ) (d e : ParseFault) → IsNoUnit text d → IsNoUnit text e → d ≡ e
no_unit_once text d e p q =
    let same = same_tokens (prepared text) p.tokens q.tokens p.prepares q.prepares in
    one_parse_fault d e (one_answer p.tokens (Err d) (Err e) p.refused (subst (λ (ts : List Token). Parses ts (Err e)) (sym same) q.refused))

abbrev refused_as : PrepFault → Prepared
refused_as e = Err e

one_prep_fault : (d e : PrepFault) → refused_as d ≡ refused_as e → d ≡ e
one_prep_fault d e h = cc

tokens_apart : (text : List ℕ) (ts : List Token) (e : PrepFault) → prepared text ≡ Ok ts → prepared text ≡ Err e → ⊥
tokens_apart text ts e h k = let both : has_tokens ts ≡ refused_as e = sym h ∙ k in cc both

abbrev typed_as : ℕ → Judged ℕ
typed_as n = Ok n

abbrev untyped : TypeFault → Judged ℕ
untyped e = Err e

one_type_fault : (d e : TypeFault) → untyped d ≡ untyped e → d ≡ e
one_type_fault d e h = cc

typed_apart : (text : List ℕ) (u : CUnit) (e : TypeFault) → Spells text u → IsUntyped text e → ⊥
typed_apart text u e s q =
    let same = parsed_once text u q.unit s.parsed q.parsed in
    let both : typed_as s.weight ≡ untyped e = sym s.types ∙ (ap answer_to same ∙ q.refused) in
    cc both

untyped_once : (text : List ℕ) (d e : TypeFault) → IsUntyped text d → IsUntyped text e → d ≡ e
untyped_once text d e p q = one_type_fault d e (sym p.refused ∙ (ap answer_to (parsed_once text p.unit q.unit p.parsed q.parsed) ∙ q.refused))

-- ---- what a reason that lies in the text says

-- a refusal by its step
data Reason (text : List ℕ) : SourceFault → Type 0 where
  NoTokens : (e : PrepFault) → prepared text ≡ Err e → Reason text (Prepare e)
  NoUnit : (e : ParseFault) → IsNoUnit text e → Reason text (Parse e)
  Untyped : (e : TypeFault) → IsUntyped text e → Reason text (Check e)

reason_of : (text : List ℕ) (e : SourceFault) → LiesInText e → IsRefusedFor text e → Reason text e
reason_of text (Prepare (prep.BadChar p)) told h = NoTokens (prep.BadChar p) h
reason_of text (Prepare (prep.Unclosed p)) told h = NoTokens (prep.Unclosed p) h
reason_of text (Prepare (prep.NumberRange p)) told h = NoTokens (prep.NumberRange p) h
reason_of text (Prepare (prep.BadDirective p)) told h = NoTokens (prep.BadDirective p) h
reason_of text (Prepare (prep.Unbalanced p)) told h = NoTokens (prep.Unbalanced p) h
reason_of text (Prepare prep.TooLarge) told h = NoTokens prep.TooLarge h
reason_of text (Prepare prep.Memory) told h = absurd told
reason_of text (Parse (parse.Syntax p)) told h = NoUnit (parse.Syntax p) h
reason_of text (Parse (parse.TooDeep p)) told h = NoUnit (parse.TooDeep p) h
reason_of text (Parse parse.TooLarge) told h = NoUnit parse.TooLarge h
reason_of text (Parse parse.Memory) told h = absurd told
reason_of text (Check (type.Unknown p)) told h = Untyped (type.Unknown p) h
reason_of text (Check (type.Twice p)) told h = Untyped (type.Twice p) h
reason_of text (Check (type.Mismatch p)) told h = Untyped (type.Mismatch p) h
reason_of text (Check (type.NotLvalue p)) told h = Untyped (type.NotLvalue p) h
reason_of text (Check (type.BadCall p)) told h = Untyped (type.BadCall p) h
reason_of text (Check (type.NoMain p)) told h = Untyped (type.NoMain p) h
reason_of text (Check type.TooLarge) told h = Untyped type.TooLarge h
reason_of text (Check type.Memory) told h = absurd told

abbrev Refused : List ℕ → Type 0
Refused text = (e : SourceFault) × LiesInText e × IsRefusedFor text e

no_tokens : (text : List ℕ) (e : PrepFault) → e ≢ prep.Memory → prepared text ≡ Err e → Refused text
no_tokens text (prep.BadChar p) told h = (Prepare (prep.BadChar p), tt, h)
no_tokens text (prep.Unclosed p) told h = (Prepare (prep.Unclosed p), tt, h)
no_tokens text (prep.NumberRange p) told h = (Prepare (prep.NumberRange p), tt, h)
no_tokens text (prep.BadDirective p) told h = (Prepare (prep.BadDirective p), tt, h)
no_tokens text (prep.Unbalanced p) told h = (Prepare (prep.Unbalanced p), tt, h)
no_tokens text prep.TooLarge told h = (Prepare prep.TooLarge, tt, h)
no_tokens text prep.Memory told h = absurd (told refl)

no_unit : (text : List ℕ) (e : ParseFault) → IsNoUnit text e → Refused text
no_unit text (parse.Syntax p) h = (Parse (parse.Syntax p), tt, h)
no_unit text (parse.TooDeep p) h = (Parse (parse.TooDeep p), tt, h)
no_unit text parse.TooLarge h = (Parse parse.TooLarge, tt, h)
no_unit text parse.Memory h = absurd h.refused

no_types : (text : List ℕ) (e : TypeFault) → e ≢ type.Memory → IsUntyped text e → Refused text
no_types text (type.Unknown p) told h = (Check (type.Unknown p), tt, h)
no_types text (type.Twice p) told h = (Check (type.Twice p), tt, h)
no_types text (type.Mismatch p) told h = (Check (type.Mismatch p), tt, h)
no_types text (type.NotLvalue p) told h = (Check (type.NotLvalue p), tt, h)
no_types text (type.BadCall p) told h = (Check (type.BadCall p), tt, h)
no_types text (type.NoMain p) told h = (Check (type.NoMain p), tt, h)
no_types text type.TooLarge told h = (Check type.TooLarge, tt, h)
no_types text type.Memory told h = absurd (told refl)

-- ---- every text

abbrev Either : List ℕ → Type 0
Either text = ((u : CUnit) × Spells text u) ⊎ Refused text

untyped_lies : (u : CUnit) (e : TypeFault) → answer_to u ≡ Err e → e ≢ type.Memory
untyped_lies u e h same = units_have_reasons u (h ∙ ap untyped same)

by_type : (text : List ℕ) (u : CUnit) → Parsed text u → (r : Judged ℕ) → answer_to u ≡ r → Either text
by_type text u p (Ok n) h = inl (u, record { parsed = p; weight = n; types = h })
by_type text u p (Err e) h = inr (no_types text e (untyped_lies u e h) (record { unit = u; parsed = p; refused = h }))

by_parse : (text : List ℕ) (ts : List Token) → prepared text ≡ Ok ts → (r : Result CUnit ParseFault) → Parses ts r → Either text
by_parse text ts is (Ok u) h = by_type text u (record { tokens = ts; prepares = is; parses = h }) (answer_to u) refl
by_parse text ts is (Err e) h = inr (no_unit text e (record { tokens = ts; prepares = is; refused = h }))

by_tokens : (text : List ℕ) (r : Prepared) → prepared text ≡ r → Either text
by_tokens text (Ok ts) h = let d = tokens_decided ts (prepared_texts_end text ts h) in by_parse text ts h d.0 d.1
by_tokens text (Err e) h = inr (no_tokens text e (prepared_has_reason text e h) h)

-- ---- never both, and one reason

apart : (text : List ℕ) (u : CUnit) (e : SourceFault) → Spells text u → Reason text e → ⊥
apart text u _ s (NoTokens e h) = tokens_apart text s.parsed.tokens e s.parsed.prepares h
apart text u _ s (NoUnit e h) = parsed_apart text u e s.parsed h
apart text u _ s (Untyped e h) = typed_apart text u e s h

one_reason : (text : List ℕ) (d e : SourceFault) → Reason text d → Reason text e → d ≡ e
one_reason text _ _ (NoTokens d h) (NoTokens e k) = ap Prepare (one_prep_fault d e (sym h ∙ k))
one_reason text _ _ (NoTokens d h) (NoUnit e k) = absurd (tokens_apart text k.tokens d k.prepares h)
one_reason text _ _ (NoTokens d h) (Untyped e k) = absurd (tokens_apart text k.parsed.tokens d k.parsed.prepares h)
one_reason text _ _ (NoUnit d h) (NoTokens e k) = absurd (tokens_apart text h.tokens e h.prepares k)
one_reason text _ _ (NoUnit d h) (NoUnit e k) = ap Parse (no_unit_once text d e h k)
one_reason text _ _ (NoUnit d h) (Untyped e k) = absurd (parsed_apart text k.unit d k.parsed h)
one_reason text _ _ (Untyped d h) (NoTokens e k) = absurd (tokens_apart text h.parsed.tokens e h.parsed.prepares k)
one_reason text _ _ (Untyped d h) (NoUnit e k) = absurd (parsed_apart text h.unit e h.parsed k)
one_reason text _ _ (Untyped d h) (Untyped e k) = ap Check (untyped_once text d e h k)

pub decided : (text : List ℕ) → IsDecided text
decided text = record {
  some = by_tokens text (prepared text) refl;
  once = λ u v p q. parsed_once text u v p.parsed q.parsed;
  apart = λ u e told s h. apart text u e s (reason_of text e told h);
  one_reason = λ d e told also h k. one_reason text d e (reason_of text d told h) (reason_of text e also k);
}
