-- Lists of trees, and the last of them.
use Rattle.std.proofs.Common.{◌≡◌, ℕ, ◌+◌, ◌-◌, List, [], ◌∷◌, ◌++◌, length, map, take, get_or, refl, sym, ap, ◌∙◌, arith, append-nil, append_assoc, drop, ◌<◌, ◌≤◌}
use Rattle.std.specs.Prelude.{Result, Ok, Err, OnOk}
use Rattle.std.proofs.lemmas.List.{map-append, get_or_push, length_push, drop_all, drop_more}
use Rattle.c_helper_steps.specs.Postfix.{last_or, without_last}

take_own : {A : Type 0} (xs ys : List A) → take (length xs) (xs ++ ys) ≡ xs
take_own [] ys = refl
take_own (x ∷ xs) ys = ap (λ zs. x ∷ zs) (take_own xs ys)

-- the last of a row and the others are what was put together
pub last_put : {A : Type 0} (xs : List A) (x d : A) → last_or d (xs ++ x ∷ []) ≡ x
last_put xs x d = get_or_push xs x d (length (xs ++ x ∷ []) - 1) (let e = length_push xs x in omega (arith, e))

pub others_put : {A : Type 0} (xs : List A) (x : A) → without_last (xs ++ x ∷ []) ≡ xs
others_put xs x =
    let e : length (xs ++ x ∷ []) - 1 ≡ length xs = (let f = length_push xs x in omega (arith, f)) in
    ap (λ (n : ℕ). take n (xs ++ x ∷ [])) e ∙ take_own xs (x ∷ [])

-- the trees of a row that an item is taken from
pub last_taken : {A B : Type 0} (f : A → B) (old new : List A) (x : A) (d : B) → old ≡ new ++ x ∷ [] → f x ≡ last_or d (map f old)
last_taken f old new x d e = sym (ap (λ (l : List _). last_or d (map f l)) e ∙ (ap (last_or d) (map-append f new (x ∷ [])) ∙ last_put (map f new) (f x) d))

pub others_left : {A B : Type 0} (f : A → B) (old new : List A) (x : A) → old ≡ new ++ x ∷ [] → map f new ≡ without_last (map f old)
others_left f old new x e = sym (ap (λ (l : List _). without_last (map f l)) e ∙ (ap without_last (map-append f new (x ∷ [])) ∙ others_put (map f new) (f x)))

-- and of one that an item is put to
pub one_put : {A B : Type 0} (f : A → B) (old new : List A) (x : A) → new ≡ old ++ x ∷ [] → map f new ≡ map f old ++ f x ∷ []
one_put f old new x e = ap (map f) e ∙ map-append f old (x ∷ [])

-- ---- a row from which nothing could be taken

pub none_left : {A : Type 0} (old new : List A) (n : ℕ) → old ≡ new ++ [] → new ≡ take (n - 1) old → n ≡ 0 → old ≡ []
none_left old new n e f z = e ∙ (append-nil new ∙ (f ∙ ap (λ (m : ℕ). take (m - 1) old) z))

pub last_of_none : {A B : Type 0} (f : A → B) (old : List A) (d : B) → old ≡ [] → d ≡ last_or d (map f old)
last_of_none f old d e = sym (ap (λ (l : List _). last_or d (map f l)) e)

pub others_of_none : {A B : Type 0} (f : A → B) (old new : List A) → old ≡ new ++ [] → old ≡ [] → map f new ≡ without_last (map f old)
others_of_none f old new e none = ap (map f) (sym (append-nil new) ∙ (sym e ∙ none)) ∙ sym (ap (λ (l : List _). without_last (map f l)) none)

-- ---- rows that are made item by item

pub goes_on : {X I T : Type 0} (see : X → T) (make : I → T) (old new : List X) (x : X) (items : List I) (i : ℕ) (d : I) (all : List T)
    → new ≡ old ++ x ∷ [] → see x ≡ make (get_or items i d) → i < length items → map see old ++ map make (drop i items) ≡ all → map see new ++ map make (drop (i + 1) items) ≡ all
goes_on see make old new x items i d all e f within h =
    ap (λ (l : List _). l ++ map make (drop (i + 1) items)) (one_put see old new x e)
    ∙ (append_assoc (map see old) (see x ∷ []) (map make (drop (i + 1) items))
    ∙ (ap (λ y. map see old ++ (y ∷ map make (drop (i + 1) items))) f
    ∙ (ap (λ (l : List _). map see old ++ map make l) (sym (drop_more items i d within)) ∙ h)))

pub all_made : {X I T : Type 0} (see : X → T) (make : I → T) (old : List X) (items : List I) (i : ℕ) (all : List T) → length items ≤ i → map see old ++ map make (drop i items) ≡ all → map see old ≡ all
all_made see make old items i all past h = sym (append-nil (map see old)) ∙ (ap (λ (l : List _). map see old ++ map make l) (sym (drop_all i items past)) ∙ h)

-- five rows one behind the other
pub all_five : {T X E : Type 0} (r : Result X E) (x y z u v w a b c d e all : List T) → y ≡ x ++ a → z ≡ y ++ b → u ≡ z ++ c → v ≡ u ++ d → OnOk r (w ≡ v ++ e) → a ++ (b ++ (c ++ (d ++ e))) ≡ all → OnOk r (w ≡ x ++ all)
all_five (Ok i) x y z u v w a b c d e all f g h k l same =
    l ∙ (ap (λ (s : List _). s ++ e) (k ∙ (ap (λ (s : List _). s ++ d) (h ∙ (ap (λ (s : List _). s ++ c) (g ∙ (ap (λ (s : List _). s ++ b) f
    ∙ append_assoc x a b)) ∙ append_assoc x (a ++ b) c)) ∙ append_assoc x (a ++ b ++ c) d)) ∙ (append_assoc x (a ++ b ++ c ++ d) e
    ∙ ap (λ (s : List _). x ++ s) (append_assoc (a ++ b ++ c) d e ∙ (append_assoc (a ++ b) c (d ++ e) ∙ (append_assoc a b (c ++ (d ++ e)) ∙ same)))))
all_five (Err i) x y z u v w a b c d e all f g h k l same = tt
