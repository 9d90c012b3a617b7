-- The machine stands exactly where a unit starts, and a unit is spelled in one way.
use Rattle.std.proofs.Common.{◌≡◌, ℕ, suc, List, [], ◌∷◌, ◌++◌, Option, Some, None, refl, sym, ap, ◌∙◌, take}
use Rattle.c_syntax.specs.declared.token.Token.{Token}
use Rattle.c_syntax.specs.Plain.{CUnit}
use Rattle.c_grammar.specs.Spelling.{Spellings, Spelt, Starts}
use Rattle.c_grammar.specs.Machine.{Frame, At, step, then_run, run, start, whole}
use Rattle.c_grammar.specs.Tree.{unit_tree}
use Rattle.c_grammar.specs.Spells.{Spells, IsFirstBad}
use Rattle.c_grammar.proofs.Alive.{starts}
use Rattle.c_grammar.proofs.Determined.{whole_read}

pub run_append : (ts us : List Token) (s : List Frame) → run (ts ++ us) s ≡ then_run (run ts s) (run us)
unfolding then_run
run_append [] us s = refl
run_append (t ∷ ts) us s = on (step s t) (λ s'. run_append ts us s')
  where
    on : (o : Option (List Frame)) → ((s' : List Frame) → run (ts ++ us) s' ≡ then_run (run ts s') (run us)) → then_run o (run (ts ++ us)) ≡ then_run (then_run o (run ts)) (run us)
    on None go = refl
    on (Some s') go = go s'

pub spelled_is_read : (ts : List Token) (s : Spelt ts) → run ts start ≡ Some (whole s.kids)
spelled_is_read ts s = whole_read ts s.kids s.fits s.tokens_are

-- where it doesn't stand, no unit starts
pub no_start : (ts : List Token) → run ts start ≡ None → Starts ts → ⊥
unfolding then_run
no_start ts e s =
    let both : None ≡ Some (whole s.spelt.kids) = ap (λ o. then_run o (run s.rest)) (sym e) ∙ sym (run_append ts s.rest start) ∙ spelled_is_read (ts ++ s.rest) s.spelt in
    cc (both)

pub first_bad : (ts : List Token) (k : ℕ) (s : List Frame) → run (take k ts) start ≡ Some s → run (take (suc k) ts) start ≡ None → IsFirstBad ts k
first_bad ts k s e n = record { starts = starts (take k ts) s e; dead = no_start (take (suc k) ts) n }

kids_of : Option (List Frame) → Spellings → Spellings
kids_of (Some (At p kids row left ∷ s)) other = kids
kids_of _ other = other

-- one spelling
pub one_spelling : (ts : List Token) (a b : Spelt ts) → a.kids ≡ b.kids
unfolding kids_of
one_spelling ts a b = ap (λ o. kids_of o a.kids) (sym (spelled_is_read ts a) ∙ spelled_is_read ts b)

pub one_tree : (ts : List Token) (a b : CUnit) → Spells ts a → Spells ts b → a ≡ b
one_tree ts a b s r = s.tree_is ∙ ap unit_tree (one_spelling ts s.spelt r.spelt) ∙ sym r.tree_is
