-- Each function of a format that a text has is so.
use Rattle.std.proofs.Common.{◌≡◌, ℕ, List, [], ◌∷◌, ◌++◌, Option, Some, None, Bool, true, false, refl, sym, ◌∙◌, subst}
use Rattle.std.specs.Prelude.{◌||◌, ◌==◌, if◌then◌else◌, codes}
use Rattle.std.specs.List.{list_any}
use Rattle.std.specs.Option.{option_map}
use Rattle.std.proofs.lemmas.Bool.{eqb-true}
use Rattle.c_types.specs.Types.{Void}
use Rattle.c_types.specs.Scope.{Names}
use Rattle.c_types.specs.Operands.{conversions_behind}
use Rattle.c_eval.specs.Text.{Definition}
use Rattle.c_helpers.specs.Functions.{format_name, print_format}
use Rattle.c_helpers.specs.Simple.{helpers_of}
use Rattle.c_formats.specs.Laws.{format_parameters, has_letter, HasFormat}
use Rattle.c_compiled.specs.Helped.{IsRoutine}
use Rattle.c_products.specs.MovesFound.{definition}
use Rattle.c_compiled.specs.Found.{FoundFormatsAreFormats}

-- ---- the letters of conversions

abbrev IsConversion : ℕ → Type 0
IsConversion letter = list_any (λ c. letter == c) (codes "duxcs") ≡ true

module _ (letter : ℕ) where
  abbrev Told : List ℕ → Type 0
  Told ls = has_letter ls letter ≡ true → IsConversion letter

  told_first : (b : ℕ) (ls : List ℕ) → IsConversion b → Told ls → Told (b ∷ ls)
  told_first b ls is more h = go (b == letter) refl h
    where
      go : (q : Bool) → (b == letter) ≡ q → (q || has_letter ls letter) ≡ true → IsConversion letter
      go true e h = subst (λ z. IsConversion z) (eqb-true b letter e) is
      go false e h = more h

  mutual
    plainly_told : (format ls : List ℕ) → conversions_behind false format ≡ Some ls → Told ls
    plainly_told [] ls e = let is : [] ≡ ls = cc e in subst (λ z. Told z) is (λ h. absurd (cc h))
    plainly_told (b ∷ format) ls e = go (b == 37) e (λ k. plainly_told format ls k) (λ k. conversions_told format ls k)
      where
        go : (q : Bool) → conversions_behind q format ≡ Some ls → (conversions_behind false format ≡ Some ls → Told ls) → (conversions_behind true format ≡ Some ls → Told ls) → Told ls
        go true e plain more = more e
        go false e plain more = plain e

    conversions_told : (format ls : List ℕ) → conversions_behind true format ≡ Some ls → Told ls
    conversions_told [] ls e = absurd (cc e)
    conversions_told (b ∷ format) ls e = go (b == 37) (list_any (λ c. b == c) (codes "duxcs")) refl (conversions_behind false format) e (λ ms k. plainly_told format ms k) refl
      where
        go : (p q : Bool) → list_any (λ c. b == c) (codes "duxcs") ≡ q → (o : Option (List ℕ)) → (if p then o else if q then option_map (λ letters. b ∷ letters) o else None) ≡ Some ls
            → ((ms : List ℕ) → conversions_behind false format ≡ Some ms → Told ms) → conversions_behind false format ≡ o → Told ls
        go true q k o e more is = more ls (is ∙ e)
        go false false k o e more is = absurd (cc e)
        go false true k None e more is = absurd (cc e)
        go false true k (Some ms) e more is = let same : b ∷ ms ≡ ls = cc e in subst (λ z. Told z) same (told_first b ms k (more ms is))

-- ---- the functions of conversions

-- it holds of each conversion but `%c`
by_letter : (letter : ℕ) (T : ℕ → Type 0) → IsConversion letter → (letter ≡ 99 → ⊥) → (letter ≡ 100 → T 100) → (letter ≡ 117 → T 117) → (letter ≡ 120 → T 120) → (letter ≡ 115 → T 115) → T letter
by_letter letter T is other d u x s = one (letter == 100) refl (letter == 117) refl (letter == 120) refl (letter == 99) refl (letter == 115) refl is
  where
    at : (n : ℕ) → (letter == n) ≡ true → (letter ≡ n → T n) → T letter
    at n e f = let same : letter ≡ n = eqb-true letter n e in subst (λ z. T z) (sym same) (f same)

    one : (a : Bool) → (letter == 100) ≡ a → (b : Bool) → (letter == 117) ≡ b → (c : Bool) → (letter == 120) ≡ c → (p : Bool) → (letter == 99) ≡ p → (q : Bool) → (letter == 115) ≡ q → (a || (b || (c || (p || (q || false))))) ≡ true → T letter
    one true ea b eb c ec p ep q eq h = at 100 ea d
    one false ea true eb c ec p ep q eq h = at 117 eb u
    one false ea false eb true ec p ep q eq h = at 120 ec x
    one false ea false eb false ec true ep q eq h = absurd (other (eqb-true letter 99 ep))
    one false ea false eb false ec false ep true eq h = at 115 eq s
    one false ea false eb false ec false ep false eq h = absurd (cc h)

abbrev found : Definition → Option Definition
found f = Some f

found_is : (f g : Definition) → found f ≡ found g → f ≡ g
found_is f g e = cc e

pub found_formats_are_formats : FoundFormatsAreFormats
found_formats_are_formats u ration t kept has keeps format f e =
    let k = has.formats format (keeps (format_name format) f e) in
    let letters : List ℕ = k.0 in
    let h : HasFormat (helpers_of ration u) t format letters = k.3 in
    let own = h.own in
    let names : Names = own.names in (
      letters,
      record {
        conversions = k.1;
        few = k.2;
        tags = own.tags;
        names = names;
        defined = own.defined;
        is = found_is f (definition Void (format_parameters letters) (print_format format) own.tags names own.defined) (sym e ∙ own.found);
        unit = record { type = _; begun = h.unit.0; means = h.unit.1 };
        refill = record { type = _; begun = h.refill.0; means = h.refill.1 };
        piece = record { type = _; begun = h.piece.0; means = h.piece.1 };
        converts = λ letter has other.
            let there : (n : ℕ) → letter ≡ n → has_letter letters n ≡ true = λ n same. subst (λ z. has_letter letters z ≡ true) same has in
            by_letter letter (λ z. IsRoutine names (codes "%" ++ z ∷ [])) (plainly_told letter format letters k.1 has) other
            (λ same. let s = h.signed (there 100 same) in record { type = _; begun = s.3.0; means = s.3.1 })
            (λ same. let s = h.unsigned (there 117 same) in record { type = _; begun = s.2.0; means = s.2.1 })
            (λ same. let s = h.hex (there 120 same) in record { type = _; begun = s.2.0; means = s.2.1 })
            (λ same. let s = h.string (there 115 same) in record { type = _; begun = s.1.0; means = s.1.1 });
      },
    )
