-- The last token of a text is its end.
use Rattle.std.proofs.Common.{◌≡◌, ℕ, zero, suc, ◌+◌, Bool, true, false, List, [], ◌∷◌, ◌++◌, length, map, fold, Option, Some, refl, sym, ap, ◌∙◌, arith}
use Rattle.std.proofs.lemmas.Bool.Decides.{nat_tests}
use Rattle.std.proofs.lemmas.List.{append_assoc}
use Rattle.std.proofs.lemmas.List.Sums.{fold-append}
use Rattle.std.specs.Prelude.{Result, Ok, Err, nat_lt, if◌then◌else◌}
use Rattle.std.specs.Option.{option_map_or}
use Rattle.std.specs.Result.{result_unwrap_or}
use Rattle.c_syntax.specs.declared.token.Kind.{Kind}
use Rattle.c_syntax.specs.declared.token.Kind.TheVariants as kind
use Rattle.c_syntax.specs.declared.token.RawKind.TheVariants.{Plain}
use Rattle.c_syntax.specs.declared.token.Raw.{Raw}
use Rattle.c_syntax.specs.declared.token.Token.{Token}
use Rattle.c_syntax.specs.declared.token.LexFault.{LexFault}
use Rattle.c_syntax.specs.declared.scan.Gap.{Gap}
use Rattle.c_syntax.specs.Scan.{at_start, raw_tokens}
use Rattle.c_syntax.specs.Lex.{joined_kinds}
use Rattle.c_syntax.specs.Laws.{Part, gap_behind, token_at, tokens_of}
use Rattle.c_syntax.proofs.Parts.{texts_are_their_parts}
use Rattle.c_grammar.specs.Class.{class_of}
use Rattle.c_prep.specs.declared.conditional.Open.{Open}
use Rattle.c_prep.specs.declared.fault.PrepFault.{PrepFault}
use Rattle.c_prep.specs.declared.fault.PrepFault.TheVariants as fault
use Rattle.c_prep.specs.Macros.{Item, Act, Replaces, Gives, Macros, expansion}
use Rattle.c_prep.specs.Lines.{State, Step, lines, begins_line, lengthened, line_step, text_acts, is_taken, left_open, and_more, and_then, acts_in, first_state}
use Rattle.c_prep.specs.Prepared.{items_in, ok_item, added_item, put_item, result_of, is_over, put_token, collected, outcome, all_acts, of_acts, of_raws, prepared}
use Rattle.c_prep.proofs.Agreeing.{agrees_with_lex}
use Rattle.c_parse.specs.Answer.{EndsInEnd}
use Rattle.c_text.specs.Laws.{PreparedTextsEnd, ReadTextsEnd}

-- the end of a text, before directives are read and behind
abbrev raw_end : ℕ → Bool → Raw
raw_end at close = record { kind = Plain kind.End; pos = at; first = true; close = close }

abbrev end_at : ℕ → Token
end_at at = record { kind = kind.End; pos = at }

record RawsEnd (raws : List Raw) : Type 0 where
  before : List Raw
  at : ℕ
  close : Bool
  raws_are : raws ≡ before ++ raw_end at close ∷ []

tokens_end : (at : ℕ) (gap : Gap) (parts : List Part) → RawsEnd (tokens_of at gap parts)
tokens_end at gap [] = record { before = []; at = at; close = gap.close; raws_are = refl }
tokens_end at gap (p ∷ parts) =
    let rest = tokens_end (at + length p.bytes) (gap_behind p.lexeme gap) parts in
    let here = token_at p.lexeme at gap in
    record {
      before = here ++ rest.before;
      at = rest.at;
      close = rest.close;
      raws_are = ap (λ z. here ++ z) rest.raws_are ∙ sym (append_assoc here rest.before (raw_end rest.at rest.close ∷ []));
    }

raws_end : (text : List ℕ) (raws : List Raw) → raw_tokens text ≡ Ok raws → RawsEnd raws
raws_end text raws h =
    let found = texts_are_their_parts text raws h in
    let ends = tokens_end 0 at_start found.0 in
    record { before = ends.before; at = ends.at; close = ends.close; raws_are = sym found.3 ∙ ends.raws_are }

-- the end is a line by itself
record LinesEnd (raws : List Raw) (last : Raw) : Type 0 where
  before : List (List Raw)
  lines_are : lines raws ≡ before ++ (last ∷ []) ∷ []
  some : begins_line raws ≡ false → (line : List Raw) × (more : List (List Raw)) × (before ≡ line ∷ more)

lines_end : (raws : List Raw) (at : ℕ) (close : Bool) → LinesEnd (raws ++ raw_end at close ∷ []) (raw_end at close)
lines_end [] at close = record { before = []; lines_are = refl; some = λ h. absurd (cc (h)) }
lines_end (r ∷ rs) at close = by (begins_line rest) (lines_end rs at close) refl where
  rest : List Raw
  rest = rs ++ raw_end at close ∷ []

  last : List (List Raw)
  last = (raw_end at close ∷ []) ∷ []

  by : (b : Bool) → LinesEnd rest (raw_end at close) → begins_line rest ≡ b → LinesEnd (r ∷ rest) (raw_end at close)
  by true ends e = record {
    before = (r ∷ []) ∷ ends.before;
    lines_are = ap (λ (t : Bool). if t then (r ∷ []) ∷ lines rest else lengthened r (lines rest)) e ∙ ap (λ z. (r ∷ []) ∷ z) ends.lines_are;
    some = λ h. (r ∷ [], ends.before, refl);
  }
  by false ends e =
      let found = ends.some e in
      record {
        before = (r ∷ found.0) ∷ found.1;
        lines_are = ap (λ (t : Bool). if t then (r ∷ []) ∷ lines rest else lengthened r (lines rest)) e ∙ ap (lengthened r) (ends.lines_are ∙ ap (λ z. z ++ last) found.2);
        some = λ h. (r ∷ found.0, found.1, refl);
      }

abbrev whole : {X : Type 0} → X → Result X PrepFault
whole x = Ok x

-- the end is the last that is given
record ActsEnd (acts : List Act) : Type 0 where
  before : List Act
  at : ℕ
  acts_are : acts ≡ before ++ Gives (Ok (end_at at)) ∷ []

acts_are_same : (acts all : List Act) → whole acts ≡ whole all → acts ≡ all
acts_are_same acts all h = ap (λ (o : Result (List Act) PrepFault). result_unwrap_or o []) h

opens_are_left : (o : Open) (opens : List Open) → (p : ℕ) × (left_open (o ∷ opens) ≡ Some p)
opens_are_left o [] = (o.pos, refl)
opens_are_left o (p ∷ opens) = opens_are_left p opens

last_line : (most at : ℕ) (close : Bool) (macros : Macros) (opens : List Open) (acts : List Act)
    → and_more (text_acts most (is_taken opens) macros (raw_end at close ∷ [])) (option_map_or (λ p. Err (fault.Unbalanced p)) (left_open opens) (Ok [])) ≡ Ok acts → ActsEnd acts
unfolding expansion
last_line zero at close macros [] acts h = record { before = []; at = at; acts_are = sym (acts_are_same (Gives (Ok (end_at at)) ∷ []) acts h) }
last_line (suc most) at close macros [] acts h = record { before = []; at = at; acts_are = sym (acts_are_same (Gives (Ok (end_at at)) ∷ []) acts h) }
last_line most at close macros (o ∷ opens) acts h =
    let found = opens_are_left o opens in
    let given = text_acts most (is_taken (o ∷ opens)) macros (raw_end at close ∷ []) in
    let refused : and_more given (option_map_or (λ p. Err (fault.Unbalanced p)) (left_open (o ∷ opens)) (Ok [])) ≡ Err (fault.Unbalanced found.0)
    = ap (λ (q : Option ℕ). and_more given (option_map_or (λ p. Err (fault.Unbalanced p)) q (Ok []))) found.1 in
    absurd (cc (refused, h))

acts_end : (most : ℕ) (s : State) (before : List (List Raw)) (at : ℕ) (close : Bool) (acts : List Act) → acts_in most s (before ++ (raw_end at close ∷ []) ∷ []) ≡ Ok acts → ActsEnd acts
unfolding line_step
acts_end most s [] at close acts h = last_line most at close s.macros s.opens acts h
acts_end most s (line ∷ more) at close acts h = by (line_step most s line) (λ s' others e. acts_end most s' more at close others e) h where
  rest : List (List Raw)
  rest = more ++ (raw_end at close ∷ []) ∷ []

  Behind : Type 0
  Behind = (s' : State) (others : List Act) → acts_in most s' rest ≡ Ok others → ActsEnd others

  behind : (given : List Act) (s' : State) → Behind → (r : Result (List Act) PrepFault) → acts_in most s' rest ≡ r → and_more given r ≡ Ok acts → ActsEnd acts
  behind given s' ih (Ok others) e h =
      let ends = ih s' others e in
      record {
        before = given ++ ends.before;
        at = ends.at;
        acts_are = sym (acts_are_same (given ++ others) acts h) ∙ ap (λ z. given ++ z) ends.acts_are ∙ sym (append_assoc given ends.before (Gives (Ok (end_at ends.at)) ∷ []));
      }
  behind given s' ih (Err e) _ h = absurd (cc (h))

  by : (r : Result Step PrepFault) → Behind → and_then r (λ step. and_more step.acts (acts_in most step.state rest)) ≡ Ok acts → ActsEnd acts
  by (Ok step) ih h = behind step.acts step.state ih (acts_in most step.state rest) refl h
  by (Err e) ih h = absurd (cc (h))

-- nothing joins the end
items_end : (acts : List Act) (i : Item) → items_in (acts ++ Gives i ∷ []) ≡ items_in acts ++ i ∷ []
items_end [] i = refl
items_end (Replaces ∷ acts) i = items_end acts i
items_end (Gives j ∷ acts) i = ap (λ z. j ∷ z) (items_end acts i)

apart : (k : Kind) (x : Token) (at : ℕ) → joined_kinds k kind.End x (end_at at) ≡ x ∷ end_at at ∷ []
apart (kind.Str a) x at = refl
apart _ x at = refl

added_end : (items : List Item) (at : ℕ) → (before : List Item) × (added_item items (Ok (end_at at)) ≡ before ++ Ok (end_at at) ∷ [])
added_end [] at = ([], refl)
added_end (Ok x ∷ []) at = (Ok x ∷ [], ap (map ok_item) (apart x.kind x at))
added_end (Err e ∷ []) at = (Err e ∷ [], refl)
added_end (x ∷ y ∷ items) at =
    let rest = added_end (y ∷ items) at in
    (x ∷ rest.0, ap (λ z. x ∷ z) rest.1)

result_end : (acts : List Act) (at : ℕ) → (before : List Item) × (result_of (acts ++ Gives (Ok (end_at at)) ∷ []) ≡ before ++ Ok (end_at at) ∷ [])
result_end acts at =
    let items = items_in acts in
    let ends = added_end (fold put_item [] items) at in
    (ends.0, ap (fold put_item []) (items_end acts (Ok (end_at at))) ∙ fold-append put_item [] items (Ok (end_at at) ∷ []) ∙ ends.1)

tokens_are_same : (tokens all : List Token) → whole tokens ≡ whole all → tokens ≡ all
tokens_are_same tokens all h = ap (λ (o : Result (List Token) PrepFault). result_unwrap_or o []) h

collected_end : (items : List Item) (at : ℕ) (tokens : List Token) → collected (items ++ Ok (end_at at) ∷ []) ≡ Ok tokens → (before : List Token) × (tokens ≡ before ++ end_at at ∷ [])
collected_end [] at tokens h = ([], sym (tokens_are_same (end_at at ∷ []) tokens h))
collected_end (Err e ∷ items) at tokens h = absurd (cc (h))
collected_end (Ok x ∷ items) at tokens h = by (collected (items ++ Ok (end_at at) ∷ [])) (collected_end items at) refl h where
  by : (r : Result (List Token) PrepFault) → ((others : List Token) → collected (items ++ Ok (end_at at) ∷ []) ≡ Ok others → (before : List Token) × (others ≡ before ++ end_at at ∷ [])) → collected (items ++ Ok (end_at at) ∷ []) ≡ r → put_token x r ≡ Ok tokens → (before : List Token) × (tokens ≡ before ++ end_at at ∷ [])
  by (Ok others) ih e h =
      let rest = ih others e in
      (x ∷ rest.0, sym (tokens_are_same (x ∷ others) tokens h) ∙ ap (λ z. x ∷ z) rest.1)
  by (Err f) ih e h = absurd (cc (h))

outcome_end : (acts : List Act) (tokens : List Token) → ActsEnd acts → outcome acts ≡ Ok tokens → EndsInEnd tokens
unfolding class_of
outcome_end acts tokens ends h = by (is_over acts) h where
  result : (before : List Item) × (result_of acts ≡ before ++ Ok (end_at ends.at) ∷ [])
  result =
      let found = result_end ends.before ends.at in
      (found.0, ap result_of ends.acts_are ∙ found.1)

  by : (b : Bool) → (if b then Err fault.TooLarge else collected (result_of acts)) ≡ Ok tokens → EndsInEnd tokens
  by true h = absurd (cc (h))
  by false h =
      let found = collected_end result.0 ends.at tokens (ap collected (sym result.1) ∙ h) in
      record { before = found.0; last = end_at ends.at; tokens_are = found.1; is_end = refl }

raws_outcome : (raws : List Raw) (tokens : List Token) → RawsEnd raws → of_acts (all_acts raws) ≡ Ok tokens → EndsInEnd tokens
raws_outcome raws tokens ends h = by (all_acts raws) refl h where
  found : LinesEnd (ends.before ++ raw_end ends.at ends.close ∷ []) (raw_end ends.at ends.close)
  found = lines_end ends.before ends.at ends.close

  by : (r : Result (List Act) PrepFault) → all_acts raws ≡ r → of_acts r ≡ Ok tokens → EndsInEnd tokens
  by (Ok acts) e h =
      let cut : lines raws ≡ found.before ++ (raw_end ends.at ends.close ∷ []) ∷ [] = ap lines ends.raws_are ∙ found.lines_are in
      outcome_end acts tokens (acts_end (length raws) first_state found.before ends.at ends.close acts (ap (acts_in (length raws) first_state) (sym cut) ∙ e)) h
  by (Err f) e h = absurd (cc (h))

pub prepared_texts_end : PreparedTextsEnd
unfolding prepared
prepared_texts_end text tokens h = by (raw_tokens text) refl h where
  by : (r : Result (List Raw) LexFault) → raw_tokens text ≡ r → of_raws r ≡ Ok tokens → EndsInEnd tokens
  by (Ok raws) e h = raws_outcome raws tokens (raws_end text raws e) h
  by (Err f) e h = absurd (cc (h))

pub read_texts_end : ReadTextsEnd
read_texts_end text tokens h few =
    let within : nat_lt 1000001 (length tokens) ≡ false = grind (arith, nat_tests) in
    prepared_texts_end text tokens (agrees_with_lex text tokens h ∙ ap (λ (b : Bool). if b then Err fault.TooLarge else Ok tokens) within)
