-- What holds of a production, in the arm of the variant that it is.
use Rattle.std.proofs.Common.{◌≡◌, List, length, sym, subst}
use Rattle.std.specs.Prelude.{IfOk, Result, Ok, Err}
use Rattle.c_grammar.specs.Grammar.{rhs}
use Rattle.c_grammar.specs.Tree.{act}
use Rattle.c_grammar.specs.Values.{meanings_of}
use Rattle.c_grammar.specs.declared.names.Production.{Production}
use Rattle.c_held.specs.View.{meaning_of, values_of}
use Rattle.c_held.specs.Shape.{StandAt, Becomes}
use Rattle.c_held.specs.declared.value.Meaning.{Meaning}
use Rattle.c_held.specs.declared.value.Value.{Value}

pub full_at : (p q : Production) (xs : List Value) → p ≡ q → length xs ≡ length (rhs p) → length xs ≡ length (rhs q)
full_at p q xs e h = subst (λ z. length xs ≡ length (rhs z)) e h

pub stand_at : (p q : Production) (xs : List Value) → p ≡ q → StandAt (rhs p) xs → StandAt (rhs q) xs
stand_at p q xs e h = subst (λ z. StandAt (rhs z) xs) e h

pub gives_at : {E : Type 0} (r : Result Meaning E) (p q : Production) (xs : List Value) → p ≡ q → IfOk r (λ m. meaning_of m ≡ act q (meanings_of (values_of xs))) → IfOk r (λ m. meaning_of m ≡ act p (meanings_of (values_of xs)))
gives_at r p q xs e h = subst (λ z. IfOk r (λ m. meaning_of m ≡ act z (meanings_of (values_of xs)))) (sym e) h

pub words_at : {E : Type 0} (r : Result Meaning E) (p q : Production) → p ≡ q → IfOk r (λ m. Becomes q m) → IfOk r (λ m. Becomes p m)
words_at r p q e h = subst (λ z. IfOk r (λ m. Becomes z m)) (sym e) h

-- what isn't the words of a type
pub wordless : {E : Type 0} (r : Result Meaning E) (p q : Production) → p ≡ q → ((m : Meaning) → Becomes q m) → IfOk r (λ m. Becomes p m)
wordless (Ok m) p q e h = subst (λ z. Becomes z m) (sym e) (h m)
wordless (Err x) p q e h = tt
