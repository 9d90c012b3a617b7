-- Rows of trees that are made one after the other.
use Rattle.std.proofs.Common.{◌≡◌, ◌<◌, ◌≤◌, ◌+◌, ℕ, List, [], ◌∷◌, ◌++◌, length, map, drop, get_or, sym, ap, ◌∙◌, append_assoc, append-nil}
use Rattle.std.specs.Prelude.{Result, Ok, Err, OnOk}
use Rattle.std.proofs.lemmas.List.{map-append, drop_all, drop_more}

-- a tree more, which is known
pub put_as : {A B : Type 0} (f : A → B) (old new : List A) (x : A) (y : B) → new ≡ old ++ x ∷ [] → f x ≡ y → map f new ≡ map f old ++ y ∷ []
put_as f old new x y e g = ap (map f) e ∙ (map-append f old (x ∷ []) ∙ ap (λ z. map f old ++ z ∷ []) g)

-- trees behind those that were put before
pub more_put : {X E B : Type 0} (r : Result X E) (old mid new a b : List B) → mid ≡ old ++ a → OnOk r (new ≡ mid ++ b) → OnOk r (new ≡ old ++ (a ++ b))
more_put (Ok i) old mid new a b e h = h ∙ (ap (λ (l : List _). l ++ b) e ∙ append_assoc old a b)
more_put (Err i) old mid new a b e h = tt

pub goes_on : {X I T : Type 0} (see : X → T) (make : I → T) (old new : List X) (x : X) (items : List I) (i : ℕ) (d : I) (all : List T)
    → new ≡ old ++ x ∷ [] → see x ≡ make (get_or items i d) → i < length items → map see old ++ map make (drop i items) ≡ all → map see new ++ map make (drop (i + 1) items) ≡ all
goes_on see make old new x items i d all e f within h =
    ap (λ (l : List _). l ++ map make (drop (i + 1) items)) (put_as see old new x (make (get_or items i d)) e f)
    ∙ (append_assoc (map see old) (make (get_or items i d) ∷ []) (map make (drop (i + 1) items))
    ∙ (ap (λ (l : List _). map see old ++ map make l) (sym (drop_more items i d within)) ∙ h))

pub all_made : {X I T : Type 0} (see : X → T) (make : I → T) (old : List X) (items : List I) (i : ℕ) (all : List T) → length items ≤ i → map see old ++ map make (drop i items) ≡ all → map see old ≡ all
all_made see make old items i all past h = sym (append-nil (map see old)) ∙ (ap (λ (l : List _). map see old ++ map make l) (sym (drop_all i items past)) ∙ h)
