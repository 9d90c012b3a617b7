-- Lines with their forms, and the lines of a text.
use Rattle.std.proofs.Common.{◌≡◌, ℕ, Bool, true, false, not, cond, ◌==◌, ◌&&◌, List, [], ◌∷◌, ◌++◌, map, Some, IsSome, refl, sym, ap, subst, ◌∙◌, append_assoc}
use Rattle.std.specs.Prelude.{codes}
use Rattle.std.specs.List.{slice_split, onto_first, filter_map, cons_option, AllByRecursion}
use Rattle.eir_line.specs.Line.{Line}
use Rattle.eir_line.specs.Grammar.{form_of}
use Rattle.eir_text.specs.Sections as sections
use Rattle.eir_print.specs.Printed.{text_of}
use Rattle.eir_print.proofs.Forms.{is_unbroken}

-- a text of one line, with its form
pub record IsForm (text : List ℕ) (line : Line) : Type 0 where
  pub form : form_of text ≡ Some line
  pub unbroken : is_unbroken text ≡ true

-- texts with their forms
abbrev pub Reads : List (List ℕ) → List Line → Type 0
Reads [] [] = Unit {0}
Reads [] (line ∷ lines) = ⊥
Reads (text ∷ texts) [] = ⊥
Reads (text ∷ texts) (line ∷ lines) = IsForm text line × Reads texts lines

pub Reads-append : (ts us : List (List ℕ)) (ls ms : List Line) → Reads ts ls → Reads us ms → Reads (ts ++ us) (ls ++ ms)
Reads-append [] us [] ms p q = q
Reads-append [] us (l ∷ ls) ms p q = absurd p
Reads-append (t ∷ ts) us [] ms p q = absurd p
Reads-append (t ∷ ts) us (l ∷ ls) ms p q = (p.0, Reads-append ts us ls ms p.1 q)

pub Reads-map : {X : Type 0} (text : X → List ℕ) (line : X → Line) (xs : List X) → ((x : X) → IsForm (text x) (line x)) → Reads (map text xs) (map line xs)
Reads-map text line [] h = tt
Reads-map text line (x ∷ xs) h = (h x, Reads-map text line xs h)

pub Reads-formed : (ts : List (List ℕ)) (ls : List Line) → Reads ts ls → AllByRecursion (λ t. IsSome (form_of t)) ts
Reads-formed [] [] p = tt
Reads-formed [] (l ∷ ls) p = absurd p
Reads-formed (t ∷ ts) [] p = absurd p
Reads-formed (t ∷ ts) (l ∷ ls) p = (subst IsSome (sym p.0.form) refl, Reads-formed ts ls p.1)

pub Reads-forms : (ts : List (List ℕ)) (ls : List Line) → Reads ts ls → filter_map form_of ts ≡ ls
Reads-forms [] [] p = refl
Reads-forms [] (l ∷ ls) p = absurd p
Reads-forms (t ∷ ts) [] p = absurd p
Reads-forms (t ∷ ts) (l ∷ ls) p = ap (λ o. cons_option o (filter_map form_of ts)) p.0.form ∙ ap (λ (ms : List Line). l ∷ ms) (Reads-forms ts ls p.1)

abbrev is_feed : ℕ → Bool
is_feed b = b == 10

not_feed : (t u : Bool) → (not t && u) ≡ true → (t ≡ false) × (u ≡ true)
not_feed false u h = (refl, h)
not_feed true u h = absurd cc

-- the first line ends at the first line feed
line_split : (line rest : List ℕ) → is_unbroken line ≡ true → slice_split is_feed (line ++ 10 ∷ rest) ≡ line ∷ slice_split is_feed rest
line_split [] rest h = refl
line_split (b ∷ bs) rest h =
    let k = not_feed (b == 10) (is_unbroken bs) h in
    ap (λ t. cond t ([] ∷ slice_split is_feed (bs ++ 10 ∷ rest)) (onto_first b (slice_split is_feed (bs ++ 10 ∷ rest)))) k.0
    ∙ ap (onto_first b) (line_split bs rest k.1)

-- the lines of the text of lines, behind which others are read
pub lines_split : (ts us : List (List ℕ)) (ls : List Line) → Reads (ts ++ us) ls → sections.lines_of (text_of ts) ≡ ts ++ [] ∷ []
lines_split [] us ls p = refl
lines_split (t ∷ ts) us [] p = absurd p
lines_split (t ∷ ts) us (l ∷ ls) p =
    let e : (t ++ codes "\n") ++ text_of ts ≡ t ++ 10 ∷ text_of ts = append_assoc t (codes "\n") (text_of ts) in
    ap sections.lines_of e ∙ (line_split t (text_of ts) p.0.unbroken ∙ ap (λ (us : List (List ℕ)). t ∷ us) (lines_split ts us ls p.1))
