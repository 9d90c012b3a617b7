-- Names behind others.
use Rattle.std.proofs.Common.{◌≡◌, ◌<◌, ◌≤◌, ◌+◌, ℕ, suc, List, [], ◌∷◌, ◌++◌, length, drop, get_or, sym, ap, ◌∙◌, append-nil, append_assoc, drop-cons, add-one}
use Rattle.std.specs.Prelude.{Result, Ok, Err, OnOk}
use Rattle.std.proofs.lemmas.List.{map-append, drop_all}
use denote.Ref.{Bor}
use Rattle.c_tree_names.specs.Added.{texts, Added}

pub none_added : (old : List (Bor (List ℕ))) → Added old old []
none_added old = sym (append-nil (texts old))

pub one_added : (old new : List (Bor (List ℕ))) (name : Bor (List ℕ)) → new ≡ old ++ name ∷ [] → Added old new (name.now ∷ [])
one_added old new name e = ap texts e ∙ map-append (λ n. n.now) old (name ∷ [])

pub both_added : {X E : Type 0} (r : Result X E) (old mid new : List (Bor (List ℕ))) (a b : List (List ℕ)) → Added old mid a → OnOk r (Added mid new b) → OnOk r (Added old new (a ++ b))
both_added (Ok x) old mid new a b first second = second ∙ (ap (λ (l : List (List ℕ)). l ++ b) first ∙ append_assoc (texts old) a b)
both_added (Err x) old mid new a b first second = tt

-- ---- names of things one after the other

-- what is left of a list begins with the element that comes next
pub drop_at : {X : Type 0} (xs : List X) (i : ℕ) (x : X) → i < length xs → x ≡ get_or xs i x → drop i xs ≡ x ∷ drop (i + 1) xs
drop_at xs i x h e = rw (add-one, drop-cons xs i x) (ap (λ y. y ∷ drop (suc i) xs) (sym e))

-- those that are there, and those of what is left
pub more_added : {X : Type 0} (f : List X → List (List ℕ)) (one : X → List (List ℕ)) (total : List (List ℕ)) (now next : List (Bor (List ℕ))) (items : List X) (i : ℕ) (x : X)
    → ((y : X) (ys : List X) → f (y ∷ ys) ≡ one y ++ f ys) → drop i items ≡ x ∷ drop (i + 1) items → Added now next (one x)
    → texts now ++ f (drop i items) ≡ total → texts next ++ f (drop (i + 1) items) ≡ total
more_added f one total now next items i x first here added h =
    ap (λ (l : List (List ℕ)). l ++ f (drop (i + 1) items)) added
    ∙ (append_assoc (texts now) (one x) (f (drop (i + 1) items))
    ∙ (ap (λ (l : List (List ℕ)). texts now ++ l) (sym (first x (drop (i + 1) items)))
    ∙ (ap (λ (l : List _). texts now ++ f l) (sym here) ∙ h)))

pub all_added : {X : Type 0} (f : List X → List (List ℕ)) (old now : List (Bor (List ℕ))) (all : List (List ℕ)) (items : List X) (i : ℕ)
    → length items ≤ i → f [] ≡ [] → texts now ++ f (drop i items) ≡ texts old ++ all → Added old now all
all_added f old now all items i past none h =
    sym (ap (λ (l : List _). texts now ++ f l) (drop_all i items past) ∙ (ap (λ (l : List (List ℕ)). texts now ++ l) none ∙ append-nil (texts now))) ∙ h
