-- What stands at a place of a list of counts.
use Rattle.std.proofs.Common.{◌≡◌, ℕ, zero, suc, List, [], ◌∷◌, Some, None, map, drop, refl, sym, ap, ◌∙◌}
use Rattle.std.specs.Prelude.{slice_get}
use Rattle.c_grammar.specs.Nesting as nesting
use Rattle.c_grammar.specs.Nesting.{Context, counted, in_hand}
use Rattle.c_nesting.specs.Nested.{count_of, hand_of}
use Rattle.c_nesting.specs.declared.counts.Count.{Count}
use Rattle.c_nesting.specs.declared.counts.Hand.{Hand}

same : {X : Type 0} (x y : X) → Some x ≡ Some y → y ≡ x
same x y h = sym (cc (h))

count_first : (k : nesting.Count) (ks : List nesting.Count) (c : Context) → counted (k ∷ ks) c ≡ counted (k ∷ []) c
count_first nesting.Same ks c = refl
count_first nesting.None' ks c = refl
count_first nesting.One' ks c = refl
count_first nesting.Two' ks c = refl
count_first nesting.Sized ks c = refl
count_first nesting.Inner ks c = refl
count_first nesting.Close ks c = refl
count_first nesting.CloseType ks c = refl

pub count_there : (xs : List Count) (i : ℕ) (x : Count) (c : Context) → Some x ≡ slice_get xs i → counted (drop i (map count_of xs)) c ≡ counted (count_of x ∷ []) c
count_there [] i x c h = absurd (cc (h))
count_there (y ∷ ys) zero x c h = count_first (count_of y) (map count_of ys) c ∙ ap (λ z. counted (count_of z ∷ []) c) (same x y h)
count_there (y ∷ ys) (suc i) x c h = count_there ys i x c h

pub count_behind : (xs : List Count) (i : ℕ) (c : Context) → None ≡ slice_get xs i → counted (drop i (map count_of xs)) c ≡ counted (nesting.None' ∷ []) c
count_behind [] zero c h = refl
count_behind [] (suc i) c h = refl
count_behind (y ∷ ys) zero c h = absurd (cc (h))
count_behind (y ∷ ys) (suc i) c h = count_behind ys i c h

hand_first : (k : nesting.Hand) (ks : List nesting.Hand) (c : Context) → in_hand (k ∷ ks) c ≡ in_hand (k ∷ []) c
hand_first nesting.Stay ks c = refl
hand_first nesting.More ks c = refl
hand_first nesting.Ended ks c = refl
hand_first nesting.Within ks c = refl

pub hand_there : (xs : List Hand) (i : ℕ) (x : Hand) (c : Context) → Some x ≡ slice_get xs i → in_hand (drop i (map hand_of xs)) c ≡ in_hand (hand_of x ∷ []) c
hand_there [] i x c h = absurd (cc (h))
hand_there (y ∷ ys) zero x c h = hand_first (hand_of y) (map hand_of ys) c ∙ ap (λ z. in_hand (hand_of z ∷ []) c) (same x y h)
hand_there (y ∷ ys) (suc i) x c h = hand_there ys i x c h

pub hand_behind : (xs : List Hand) (i : ℕ) (c : Context) → None ≡ slice_get xs i → in_hand (drop i (map hand_of xs)) c ≡ in_hand (nesting.Ended ∷ []) c
hand_behind [] zero c h = refl
hand_behind [] (suc i) c h = refl
hand_behind (y ∷ ys) zero c h = absurd (cc (h))
hand_behind (y ∷ ys) (suc i) c h = hand_behind ys i c h
