-- What stands at a place of a production.
use Rattle.std.proofs.Common.{◌≡◌, ◌<◌, ℕ, zero, suc, List, [], ◌∷◌, Bool, length, get_or, refl, sym, ap, ◌∙◌, subst, arith}
use Rattle.std.specs.Prelude.{IfOk, Result, Ok, Err}
use Rattle.c_grammar.specs.Tree.{act}
use Rattle.c_grammar.specs.Values.{meanings_of}
use Rattle.c_grammar.specs.declared.names.Production.{Production}
use Rattle.c_held.specs.View.{meaning_of, values_of}
use Rattle.c_held.specs.declared.value.Meaning.{Meaning}
use Rattle.c_grammar.specs.declared.names.Terminal.{Terminal}
use Rattle.c_grammar.specs.declared.names.Part.{Part as Wanted}
use Rattle.c_grammar.specs.declared.names.Part.TheVariants.{Spec}
use Rattle.c_grammar.specs.declared.names.Symbol.{Symbol}
use Rattle.c_grammar.specs.declared.names.Symbol.TheVariants.{Tok, One}
use Rattle.c_held.specs.declared.value.Value.{Value}
use Rattle.c_held.specs.declared.value.Value.TheVariants.{Token, Part, Row}
use Rattle.c_held.specs.Shape.{StandAt, StandsAt, IsOne, IsWords}

stands_at : (ss : List Symbol) (xs : List Value) (k : ℕ) (s : Symbol) (v : Value) → StandAt ss xs → k < length xs → get_or ss k s ≡ s → v ≡ get_or xs k v → StandsAt s v
stands_at ss [] k s v h l e f = absurd (omega (arith, l))
stands_at [] (x ∷ xs) k s v h l e f = absurd h
stands_at (r ∷ ss) (x ∷ xs) zero s v h l e f = subst (λ z. StandsAt z v) e (subst (λ z. StandsAt r z) (sym f) h.0)
stands_at (r ∷ ss) (x ∷ xs) (suc k) s v h l e f = stands_at ss xs k s v h.1 (omega (arith, l)) e f

part_is_one : (n : Wanted) (v : Value) → StandsAt (One n) v → IsOne v
part_is_one n (Part m) h = tt
part_is_one n (Token t) h = tt
part_is_one n (Row ms) h = h

token_is_one : (k : Terminal) (v : Value) → StandsAt (Tok k) v → IsOne v
token_is_one k (Part m) h = tt
token_is_one k (Token t) h = tt
token_is_one k (Row ms) h = h

part_is_words : (e : Bool) (v : Value) → StandsAt (One (Spec e)) v → IsWords v
part_is_words e (Part m) h = h
part_is_words e (Token t) h = h
part_is_words e (Row ms) h = h

-- no row stands where a part is wanted
pub one_at : (ss : List Symbol) (xs : List Value) (k : ℕ) (n : Wanted) (v : Value) → StandAt ss xs → k < length xs → get_or ss k (One n) ≡ One n → v ≡ get_or xs k v → IsOne v
one_at ss xs k n v h l e f = part_is_one n v (stands_at ss xs k (One n) v h l e f)

-- nor where a token is
pub token_at : (ss : List Symbol) (xs : List Value) (k : ℕ) (t : Terminal) (v : Value) → StandAt ss xs → k < length xs → get_or ss k (Tok t) ≡ Tok t → v ≡ get_or xs k v → IsOne v
token_at ss xs k t v h l e f = token_is_one t v (stands_at ss xs k (Tok t) v h l e f)

-- the words of a type stand where they are wanted
pub words_at : (ss : List Symbol) (xs : List Value) (k : ℕ) (w : Bool) (v : Value) → StandAt ss xs → k < length xs → get_or ss k (One (Spec w)) ≡ One (Spec w) → v ≡ get_or xs k v → IsWords v
words_at ss xs k w v h l e f = part_is_words w v (stands_at ss xs k (One (Spec w)) v h l e f)

-- what is made of some parts is made of the same parts
pub at_parts : {E : Type 0} (r : Result Meaning E) (p : Production) (xs ys : List Value) → xs ≡ ys → IfOk r (λ m. meaning_of m ≡ act p (meanings_of (values_of ys))) → IfOk r (λ m. meaning_of m ≡ act p (meanings_of (values_of xs)))
at_parts (Ok m) p xs ys e h = h ∙ ap (λ z. act p (meanings_of (values_of z))) (sym e)
at_parts (Err e') p xs ys e h = tt

pub at_value : (m : Meaning) (p : Production) (xs ys : List Value) → xs ≡ ys → meaning_of m ≡ act p (meanings_of (values_of ys)) → meaning_of m ≡ act p (meanings_of (values_of xs))
at_value m p xs ys e h = h ∙ ap (λ z. act p (meanings_of (values_of z))) (sym e)

-- what stands at a place stands there whatever stands past the end
pub get_or_self : {X : Type 0} (xs : List X) (k : ℕ) (d : X) → get_or xs k d ≡ get_or xs k (get_or xs k d)
get_or_self [] k d = refl
get_or_self (x ∷ xs) zero d = refl
get_or_self (x ∷ xs) (suc k) d = get_or_self xs k d

next_is : (xs ys : List Value) (x y : Value) → x ≡ y → xs ≡ ys → x ∷ xs ≡ y ∷ ys
next_is xs ys x y e f = ap (λ z. z ∷ xs) e ∙ ap (λ z. y ∷ z) f

pub one_is : (xs : List Value) (a : Value) → length xs ≡ 1 → a ≡ get_or xs 0 a → xs ≡ a ∷ []
one_is [] a l p = absurd (omega (arith, l))
one_is (x ∷ []) a l p = next_is [] [] x a (sym p) refl
one_is (x ∷ y ∷ xs) a l p = absurd (omega (arith, l))

pub two_is : (xs : List Value) (a b : Value) → length xs ≡ 2 → a ≡ get_or xs 0 a → b ≡ get_or xs 1 b → xs ≡ a ∷ b ∷ []
two_is [] a b l pa pb = absurd (omega (arith, l))
two_is (x ∷ xs) a b l pa pb = next_is xs (b ∷ []) x a (sym pa) (one_is xs b (omega (arith, l)) pb)

pub three_is : (xs : List Value) (a b c : Value) → length xs ≡ 3 → a ≡ get_or xs 0 a → b ≡ get_or xs 1 b → c ≡ get_or xs 2 c → xs ≡ a ∷ b ∷ c ∷ []
three_is [] a b c l pa pb pc = absurd (omega (arith, l))
three_is (x ∷ xs) a b c l pa pb pc = next_is xs (b ∷ c ∷ []) x a (sym pa) (two_is xs b c (omega (arith, l)) pb pc)

pub four_is : (xs : List Value) (a b c d : Value) → length xs ≡ 4 → a ≡ get_or xs 0 a → b ≡ get_or xs 1 b → c ≡ get_or xs 2 c → d ≡ get_or xs 3 d → xs ≡ a ∷ b ∷ c ∷ d ∷ []
four_is [] a b c d l pa pb pc pd = absurd (omega (arith, l))
four_is (x ∷ xs) a b c d l pa pb pc pd = next_is xs (b ∷ c ∷ d ∷ []) x a (sym pa) (three_is xs b c d (omega (arith, l)) pb pc pd)

pub five_is : (xs : List Value) (a b c d e : Value) → length xs ≡ 5 → a ≡ get_or xs 0 a → b ≡ get_or xs 1 b → c ≡ get_or xs 2 c → d ≡ get_or xs 3 d → e ≡ get_or xs 4 e → xs ≡ a ∷ b ∷ c ∷ d ∷ e ∷ []
five_is [] a b c d e l pa pb pc pd pe = absurd (omega (arith, l))
five_is (x ∷ xs) a b c d e l pa pb pc pd pe = next_is xs (b ∷ c ∷ d ∷ e ∷ []) x a (sym pa) (four_is xs b c d e (omega (arith, l)) pb pc pd pe)

pub six_is : (xs : List Value) (a b c d e f : Value) → length xs ≡ 6 → a ≡ get_or xs 0 a → b ≡ get_or xs 1 b → c ≡ get_or xs 2 c → d ≡ get_or xs 3 d → e ≡ get_or xs 4 e → f ≡ get_or xs 5 f → xs ≡ a ∷ b ∷ c ∷ d ∷ e ∷ f ∷ []
six_is [] a b c d e f l pa pb pc pd pe pf = absurd (omega (arith, l))
six_is (x ∷ xs) a b c d e f l pa pb pc pd pe pf = next_is xs (b ∷ c ∷ d ∷ e ∷ f ∷ []) x a (sym pa) (five_is xs b c d e f (omega (arith, l)) pb pc pd pe pf)

pub seven_is : (xs : List Value) (a b c d e f g : Value) → length xs ≡ 7 → a ≡ get_or xs 0 a → b ≡ get_or xs 1 b → c ≡ get_or xs 2 c → d ≡ get_or xs 3 d → e ≡ get_or xs 4 e → f ≡ get_or xs 5 f → g ≡ get_or xs 6 g → xs ≡ a ∷ b ∷ c ∷ d ∷ e ∷ f ∷ g ∷ []
seven_is [] a b c d e f g l pa pb pc pd pe pf pg = absurd (omega (arith, l))
seven_is (x ∷ xs) a b c d e f g l pa pb pc pd pe pf pg = next_is xs (b ∷ c ∷ d ∷ e ∷ f ∷ g ∷ []) x a (sym pa) (six_is xs b c d e f g (omega (arith, l)) pb pc pd pe pf pg)

pub eight_is : (xs : List Value) (a b c d e f g h : Value) → length xs ≡ 8 → a ≡ get_or xs 0 a → b ≡ get_or xs 1 b → c ≡ get_or xs 2 c → d ≡ get_or xs 3 d → e ≡ get_or xs 4 e → f ≡ get_or xs 5 f → g ≡ get_or xs 6 g → h ≡ get_or xs 7 h → xs ≡ a ∷ b ∷ c ∷ d ∷ e ∷ f ∷ g ∷ h ∷ []
eight_is [] a b c d e f g h l pa pb pc pd pe pf pg ph = absurd (omega (arith, l))
eight_is (x ∷ xs) a b c d e f g h l pa pb pc pd pe pf pg ph = next_is xs (b ∷ c ∷ d ∷ e ∷ f ∷ g ∷ h ∷ []) x a (sym pa) (seven_is xs b c d e f g h (omega (arith, l)) pb pc pd pe pf pg ph)
