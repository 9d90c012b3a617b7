-- What is spelled without a choice is read so.
use Rattle.std.proofs.Common.{◌≡◌, List, [], ◌∷◌, ◌++◌, Option, Some, None, Bool, true, refl, sym, ap, ◌∙◌, subst, append_assoc, append-nil}
use Rattle.c_syntax.specs.declared.token.Token.{Token}
use Rattle.c_grammar.specs.Class.{Class, class_of}
use Rattle.c_grammar.specs.Grammar.{Terminal, Part, Symbol, Tok, One, Many, Maybe, Production, rhs}
use Rattle.c_grammar.specs.Spelling.{Spelling, Leaf, Node, Row, Spellings, Nil, Cons, Category, category, accepts, tokens, all_tokens}
use Rattle.c_grammar.specs.Machine.{Frame, At, append, snoc, takes, opening, announced, Progress, Stuck, moved, at_token, first_token, enter, choose, begin, unfinished, where_so, wraps, wrapped, closed, give, step, then_run, run}
use Rattle.c_grammar.proofs.Sound.{snoc_append, append_none}

-- the first of some tokens before a token, and those behind it
abbrev pub first : List Token → Token → Token
first [] u = u
first (t ∷ ts) u = t

abbrev pub behind : List Token → Token → List Token → List Token
behind [] u r = r
behind (t ∷ ts) u r = ts ++ (u ∷ r)

pub split : (ts : List Token) (u : Token) (r : List Token) → ts ++ (u ∷ r) ≡ first ts u ∷ behind ts u r
split [] u r = refl
split (t ∷ ts) u r = refl

-- how often a part may stand at a place
data Times : Type 0 where
  once many maybe : Times

abbrev at_times : Times → Part → Symbol
at_times once n = One n
at_times many n = Many n
at_times maybe n = Maybe n

-- it is the part, before this class
abbrev pub Ends : Spelling → Part → Class → Type 0
Ends (Node p kids) n c = (announced (category p kids) n c ≡ None) × (accepts (category p kids) n ≡ true)
Ends _ n c = ⊥

-- it begins a production whose first place is a part m, before this class
abbrev pub Announces : Spelling → Part → Class → Production → Part → Type 0
Announces (Node q kids) n c p m = (announced (category q kids) n c ≡ Some p) × (accepts (category q kids) m ≡ true)
Announces _ n c p m = ⊥

-- a spelling is what the machine chooses where a part is wanted, and u follows
abbrev mutual
  pub Reads : Spelling → Part → Token → Type 0
  Reads (Node p kids) n u = ReadsFrom kids (rhs p) p n u
  Reads (Leaf t) n u = ⊥
  Reads (Row items) n u = ⊥

  pub ReadsFrom : Spellings → List Symbol → Production → Part → Token → Type 0
  ReadsFrom (Cons x xs) (Tok k ∷ ss) p n u = ReadsFirst x k p n × ReadsKids xs ss u
  ReadsFrom (Cons x xs) (One m ∷ ss) p n u = Reads x n (first (all_tokens xs) u) × Announces x n (class_of (first (all_tokens xs) u)) p m × ReadsKids xs ss u × (all_tokens xs ≡ [] → ⊥)
  ReadsFrom _ _ p n u = ⊥

  pub ReadsFirst : Spelling → Terminal → Production → Part → Type 0
  ReadsFirst (Leaf t) k p n = (opening n (class_of t) ≡ Some p) × (takes k (class_of t) ≡ true)
  ReadsFirst _ k p n = ⊥

  pub ReadsKids : Spellings → List Symbol → Token → Type 0
  ReadsKids Nil [] u = Unit {0}
  ReadsKids (Cons x xs) (s ∷ ss) u = ReadsAt x s (first (all_tokens xs) u) × ReadsKids xs ss u
  ReadsKids _ _ u = ⊥

  pub ReadsAt : Spelling → Symbol → Token → Type 0
  ReadsAt (Leaf t) (Tok k) u = takes k (class_of t) ≡ true
  ReadsAt (Node p kids) (One n) u = ReadsFrom kids (rhs p) p n u × Ends (Node p kids) n (class_of u)
  ReadsAt (Row items) (Many n) u = ReadsItems items n u × (opening n (class_of u) ≡ None)
  ReadsAt (Row Nil) (Maybe n) u = opening n (class_of u) ≡ None
  ReadsAt (Row (Cons x Nil)) (Maybe n) u = Reads x n u × Ends x n (class_of u)
  ReadsAt _ _ u = ⊥

  pub ReadsItems : Spellings → Part → Token → Type 0
  ReadsItems Nil n u = Unit {0}
  ReadsItems (Cons x xs) n u = Reads x n (first (all_tokens xs) u) × Ends x n (class_of (first (all_tokens xs) u)) × ReadsItems xs n u

abbrev opened : Option Production → Token → List Frame → Option (List Frame)
opened None u s = None
opened (Some p) u s = enter p u s

-- tokens that are read where a part is wanted
abbrev wants : Part → List Token → List Frame → Option (List Frame)
wants n [] s = None
wants n (u ∷ us) s = then_run (opened (opening n (class_of u)) u s) (run us)

-- tokens that are read where places of a production are left
abbrev pub goes : Production → Spellings → List Symbol → List Token → List Frame → Option (List Frame)
goes p done ss ts s = run ts (At p done Nil ss ∷ s)

-- what one token does there, and then the others
goes_on : (p : Production) (done : Spellings) (ss : List Symbol) (t : Token) (ts : List Token) (s : List Frame) → goes p done ss (t ∷ ts) s ≡ then_run (closed (begin t p done ss s) (λ all. give p all t s)) (run ts)
unfolding step
goes_on p done ss t ts s = refl

closed_moved : (o : Option (List Frame)) (f : Spellings → Option (List Frame)) → closed (moved o) f ≡ o
closed_moved None f = refl
closed_moved (Some s) f = refl

closed_unfinished : (o : Option (List Frame)) (f g : Spellings → Option (List Frame)) → closed (unfinished (moved o)) f ≡ closed (moved o) g
closed_unfinished None f g = refl
closed_unfinished (Some s) f g = refl

-- the first token of a part that is read opens a production there
pub record Corner (x : Spelling) (n : Part) : Type 0 where
  pub t : Token
  pub ts : List Token
  pub p : Production
  pub tokens_are : tokens x ≡ t ∷ ts
  pub opens : opening n (class_of t) ≡ Some p

mutual
  corner : (x : Spelling) (n : Part) (u : Token) → Reads x n u → Corner x n
  corner (Leaf t) n u h = absurd h
  corner (Row items) n u h = absurd h
  corner (Node p kids) n u h = corner_from kids (rhs p) p n u h

  corner_from : (kids : Spellings) (ss : List Symbol) (p : Production) (n : Part) (u : Token) → ReadsFrom kids ss p n u → Corner (Node p kids) n
  corner_from Nil ss p n u h = absurd h
  corner_from (Cons x xs) [] p n u h = absurd h
  corner_from (Cons (Leaf t) xs) (Tok k ∷ ss) p n u h = record { t = t; ts = all_tokens xs; p = p; tokens_are = refl; opens = h.0.0 }
  corner_from (Cons (Node q ks) xs) (Tok k ∷ ss) p n u h = absurd h.0
  corner_from (Cons (Row items) xs) (Tok k ∷ ss) p n u h = absurd h.0
  corner_from (Cons x xs) (One m ∷ ss) p n u h =
      let c = corner x n (first (all_tokens xs) u) h.0 in
      record { t = c.t; ts = c.ts ++ all_tokens xs; p = c.p; tokens_are = ap (λ z. z ++ all_tokens xs) c.tokens_are; opens = c.opens }
  corner_from (Cons x xs) (Many m ∷ ss) p n u h = absurd h
  corner_from (Cons x xs) (Maybe m ∷ ss) p n u h = absurd h

-- where a part is wanted next
choose_opened : (o : Option Production) (t : Token) (s : List Frame) (f : Spellings → Option (List Frame)) → closed (choose o t s Stuck) f ≡ opened o t s
choose_opened None t s f = refl
choose_opened (Some p) t s f = closed_moved (enter p t s) f

choose_some : (o : Option Production) (p : Production) → o ≡ Some p → (t : Token) (s : List Frame) (r : Progress) (f : Spellings → Option (List Frame)) → closed (choose o t s r) f ≡ opened o t s
choose_some o p e t s r f = ap (λ z. closed (choose z t s r) f) e ∙ closed_moved (enter p t s) f ∙ ap (λ z. opened z t s) (sym e)

once_wants : (ts : List Token) (u : Token) (r : List Token) (p : Production) (done : Spellings) (n : Part) (ss : List Symbol) (s : List Frame) → goes p done (One n ∷ ss) (ts ++ (u ∷ r)) s ≡ wants n (ts ++ (u ∷ r)) (At p done Nil (One n ∷ ss) ∷ s)
unfolding step
once_wants [] u r p done n ss s = ap (λ o. then_run o (run r)) (choose_opened (opening n (class_of u)) u (At p done Nil (One n ∷ ss) ∷ s) (λ all. give p all u s))
once_wants (t ∷ ts) u r p done n ss s = ap (λ o. then_run o (run (ts ++ (u ∷ r)))) (choose_opened (opening n (class_of t)) t (At p done Nil (One n ∷ ss) ∷ s) (λ all. give p all t s))

many_wants : (x : Spelling) (n : Part) → Corner x n → (us : List Token) (p : Production) (done : Spellings) (ss : List Symbol) (s : List Frame) → goes p done (Many n ∷ ss) (tokens x ++ us) s ≡ wants n (tokens x ++ us) (At p done Nil (Many n ∷ ss) ∷ s)
unfolding step
many_wants x n c us p done ss s =
    let P : List Token → Type 0 = λ z. goes p done (Many n ∷ ss) (z ++ us) s ≡ wants n (z ++ us) (At p done Nil (Many n ∷ ss) ∷ s) in
    subst P (sym c.tokens_are) (ap (λ o. then_run o (run (c.ts ++ us))) (choose_some (opening n (class_of c.t)) c.p c.opens c.t (At p done Nil (Many n ∷ ss) ∷ s) (begin c.t p (snoc done (Row Nil)) ss s) (λ all. give p all c.t s)))

maybe_wants : (x : Spelling) (n : Part) → Corner x n → (us : List Token) (p : Production) (done : Spellings) (ss : List Symbol) (s : List Frame) → goes p done (Maybe n ∷ ss) (tokens x ++ us) s ≡ wants n (tokens x ++ us) (At p done Nil (Maybe n ∷ ss) ∷ s)
unfolding step
maybe_wants x n c us p done ss s =
    let P : List Token → Type 0 = λ z. goes p done (Maybe n ∷ ss) (z ++ us) s ≡ wants n (z ++ us) (At p done Nil (Maybe n ∷ ss) ∷ s) in
    subst P (sym c.tokens_are) (ap (λ o. then_run o (run (c.ts ++ us))) (choose_some (opening n (class_of c.t)) c.p c.opens c.t (At p done Nil (Maybe n ∷ ss) ∷ s) (begin c.t p (snoc done (Row Nil)) ss s) (λ all. give p all c.t s)))

-- no part is there
none_there : (u : Token) (n : Part) (k : Times) → (k ≡ once → ⊥) → opening n (class_of u) ≡ None → (r : List Token) (p : Production) (done : Spellings) (ss : List Symbol) (s : List Frame) → goes p done (at_times k n ∷ ss) (u ∷ r) s ≡ goes p (snoc done (Row Nil)) ss (u ∷ r) s
unfolding step
none_there u n once h e r p done ss s = absurd (h refl)
none_there u n many h e r p done ss s = ap (λ o. then_run (closed (choose o u (At p done Nil (Many n ∷ ss) ∷ s) (begin u p (snoc done (Row Nil)) ss s)) (λ all. give p all u s)) (run r)) e
none_there u n maybe h e r p done ss s = ap (λ o. then_run (closed (choose o u (At p done Nil (Maybe n ∷ ss) ∷ s) (begin u p (snoc done (Row Nil)) ss s)) (λ all. give p all u s)) (run r)) e

-- a part that was read begins a production
give_wraps : (k : Times) (n : Part) (p₁ : Production) (k₁ : Spellings) (t : Token) (q : Production) (done row : Spellings) (left : List Symbol) (s : List Frame) (p : Production) → announced (category p₁ k₁) n (class_of t) ≡ Some p → give p₁ k₁ t (At q done row (at_times k n ∷ left) ∷ s) ≡ closed (wraps (rhs p) p (category p₁ k₁) (Node p₁ k₁) t (At q done row (at_times k n ∷ left) ∷ s)) (λ all. give q all t s)
give_wraps once n p₁ k₁ t q done row left s p e =
    ap (λ o. closed (wrapped o n (category p₁ k₁) (Node p₁ k₁) t (At q done row (One n ∷ left) ∷ s) (begin t q (snoc done (Node p₁ k₁)) left s)) (λ all. give q all t s)) e
give_wraps many n p₁ k₁ t q done row left s p e =
    ap (λ o. closed (wrapped o n (category p₁ k₁) (Node p₁ k₁) t (At q done row (Many n ∷ left) ∷ s) (choose (opening n (class_of t)) t (At q done (snoc row (Node p₁ k₁)) (Many n ∷ left) ∷ s) (begin t q (snoc done (Row (snoc row (Node p₁ k₁)))) left s))) (λ all. give q all t s)) e
give_wraps maybe n p₁ k₁ t q done row left s p e =
    ap (λ o. closed (wrapped o n (category p₁ k₁) (Node p₁ k₁) t (At q done row (Maybe n ∷ left) ∷ s) (begin t q (snoc done (Row (Cons (Node p₁ k₁) Nil))) left s)) (λ all. give q all t s)) e

-- or is the part
give_ends : (o : Option Production) (b : Bool) → o ≡ None → b ≡ true → (n : Part) (c : Category) (x : Spelling) (t : Token) (s : List Frame) (r : Progress) → accepts c n ≡ b → wrapped o n c x t s r ≡ r
give_ends o b eo eb n c x t s r e = ap (λ z. wrapped z n c x t s r) eo ∙ ap (λ z. where_so z r) (e ∙ eb)

abbrev gives : Spelling → Token → List Frame → Option (List Frame)
gives (Node p kids) u s = give p kids u s
gives x u s = None

many_ends : (y : Spelling) (n : Part) (v : Token) (p : Production) (done row : Spellings) (ss : List Symbol) (s : List Frame) → Ends y n (class_of v) → gives y v (At p done row (Many n ∷ ss) ∷ s) ≡ closed (choose (opening n (class_of v)) v (At p done (snoc row y) (Many n ∷ ss) ∷ s) (begin v p (snoc done (Row (snoc row y))) ss s)) (λ all. give p all v s)
many_ends (Node q ks) n v p done row ss s h =
    ap (λ z. closed z (λ all. give p all v s)) (give_ends (announced (category q ks) n (class_of v)) true h.0 refl n (category q ks) (Node q ks) v (At p done row (Many n ∷ ss) ∷ s) (choose (opening n (class_of v)) v (At p done (snoc row (Node q ks)) (Many n ∷ ss) ∷ s) (begin v p (snoc done (Row (snoc row (Node q ks)))) ss s)) h.1)
many_ends (Leaf t) n v p done row ss s h = absurd h
many_ends (Row items) n v p done row ss s h = absurd h

maybe_ends : (y : Spelling) (n : Part) (v : Token) (p : Production) (done row : Spellings) (ss : List Symbol) (s : List Frame) → Ends y n (class_of v) → gives y v (At p done row (Maybe n ∷ ss) ∷ s) ≡ closed (begin v p (snoc done (Row (Cons y Nil))) ss s) (λ all. give p all v s)
maybe_ends (Node q ks) n v p done row ss s h =
    ap (λ z. closed z (λ all. give p all v s)) (give_ends (announced (category q ks) n (class_of v)) true h.0 refl n (category q ks) (Node q ks) v (At p done row (Maybe n ∷ ss) ∷ s) (begin v p (snoc done (Row (Cons (Node q ks) Nil))) ss s) h.1)
maybe_ends (Leaf t) n v p done row ss s h = absurd h
maybe_ends (Row items) n v p done row ss s h = absurd h

-- the first token of a production that begins with one
enters : (n : Part) (t : Token) (p : Production) (j : Terminal) (ss : List Symbol) (s : List Frame) → rhs p ≡ Tok j ∷ ss → opening n (class_of t) ≡ Some p → takes j (class_of t) ≡ true → opened (opening n (class_of t)) t s ≡ Some (At p (Cons (Leaf t) Nil) Nil ss ∷ s)
unfolding enter
enters n t p j ss s e o b = ap (λ z. opened z t s) o ∙ ap (λ z. first_token z p t s) e ∙ ap (λ z. at_token z p Nil t ss s) b

skip_one : (o : Option Production) → o ≡ None → (t : Token) (s : List Frame) (r : Progress) (f g : Spellings → Option (List Frame)) → closed (unfinished r) f ≡ closed r g → closed (unfinished (choose o t s r)) f ≡ closed (choose o t s r) g
skip_one None e t s r f g h = h
skip_one (Some p) e t s r f g h = cc (e)

first_of : (z : Spelling) (zs : Spellings) (v : Token) (t : Token) (ts : List Token) → tokens z ≡ t ∷ ts → first (all_tokens (Cons z zs)) v ≡ t
first_of z zs v t ts e = ap (λ a. first (a ++ all_tokens zs) v) e

some_opens : (o : Option Production) (p : Production) → o ≡ Some p → (t : Token) (s : List Frame) (r : Progress) (f g : Spellings → Option (List Frame)) → closed (unfinished (choose o t s r)) f ≡ closed (choose o t s r) g
some_opens None p e t s r f g = cc (e)
some_opens (Some q) p e t s r f g = closed_unfinished (enter q t s) f g

has_one : (y : Spelling) (n : Part) → Corner y n → (ys xs : List Token) (u : Token) (s : List Frame) (r : Token → Progress) (f g : Spellings → Option (List Frame)) → closed (unfinished (choose (opening n (class_of (first ((tokens y ++ ys) ++ xs) u))) (first ((tokens y ++ ys) ++ xs) u) s (r (first ((tokens y ++ ys) ++ xs) u)))) f ≡ closed (choose (opening n (class_of (first ((tokens y ++ ys) ++ xs) u))) (first ((tokens y ++ ys) ++ xs) u) s (r (first ((tokens y ++ ys) ++ xs) u))) g
has_one y n c ys xs u s r f g =
    let P : List Token → Type 0 = λ z. closed (unfinished (choose (opening n (class_of (first ((z ++ ys) ++ xs) u))) (first ((z ++ ys) ++ xs) u) s (r (first ((z ++ ys) ++ xs) u)))) f ≡ closed (choose (opening n (class_of (first ((z ++ ys) ++ xs) u))) (first ((z ++ ys) ++ xs) u) s (r (first ((z ++ ys) ++ xs) u))) g in
    subst P (sym c.tokens_are) (some_opens (opening n (class_of c.t)) c.p c.opens c.t s (r c.t) f g)

-- tokens are left, so the places do not end
not_ended : (xs : Spellings) (ss : List Symbol) (u : Token) (p : Production) (done : Spellings) (s : List Frame) (f g : Spellings → Option (List Frame)) → ReadsKids xs ss u → (all_tokens xs ≡ [] → ⊥) → closed (unfinished (begin (first (all_tokens xs) u) p done ss s)) f ≡ closed (begin (first (all_tokens xs) u) p done ss s) g
not_ended Nil [] u p done s f g h e = absurd (e refl)
not_ended Nil (x ∷ ss) u p done s f g h e = absurd h
not_ended (Cons x xs) [] u p done s f g h e = absurd h
not_ended (Cons x xs) (Tok k ∷ ss) u p done s f g h e = closed_unfinished (at_token (takes k (class_of (first (all_tokens (Cons x xs)) u))) p done (first (all_tokens (Cons x xs)) u) ss s) f g
not_ended (Cons x xs) (One n ∷ ss) u p done s f g h e = stuck (opening n (class_of (first (all_tokens (Cons x xs)) u)))
  where
    stuck : (o : Option Production) → closed (unfinished (choose o (first (all_tokens (Cons x xs)) u) (At p done Nil (One n ∷ ss) ∷ s) Stuck)) f ≡ closed (choose o (first (all_tokens (Cons x xs)) u) (At p done Nil (One n ∷ ss) ∷ s) Stuck) g
    stuck None = refl
    stuck (Some q) = closed_unfinished (enter q (first (all_tokens (Cons x xs)) u) (At p done Nil (One n ∷ ss) ∷ s)) f g
not_ended (Cons (Row Nil) xs) (Many n ∷ ss) u p done s f g h e =
    skip_one (opening n (class_of (first (all_tokens xs) u))) h.0.1 (first (all_tokens xs) u) (At p done Nil (Many n ∷ ss) ∷ s) (begin (first (all_tokens xs) u) p (snoc done (Row Nil)) ss s) f g (not_ended xs ss u p (snoc done (Row Nil)) s f g h.1 e)
not_ended (Cons (Row Nil) xs) (Maybe n ∷ ss) u p done s f g h e =
    skip_one (opening n (class_of (first (all_tokens xs) u))) h.0 (first (all_tokens xs) u) (At p done Nil (Maybe n ∷ ss) ∷ s) (begin (first (all_tokens xs) u) p (snoc done (Row Nil)) ss s) f g (not_ended xs ss u p (snoc done (Row Nil)) s f g h.1 e)
not_ended (Cons (Row (Cons y ys)) xs) (Many n ∷ ss) u p done s f g h e = has_one y n (corner y n (first (all_tokens ys) (first (all_tokens xs) u)) h.0.0.0) (all_tokens ys) (all_tokens xs) u (At p done Nil (Many n ∷ ss) ∷ s) (λ t. begin t p (snoc done (Row Nil)) ss s) f g
not_ended (Cons (Row (Cons y Nil)) xs) (Maybe n ∷ ss) u p done s f g h e = has_one y n (corner y n (first (all_tokens xs) u) h.0.0) [] (all_tokens xs) u (At p done Nil (Maybe n ∷ ss) ∷ s) (λ t. begin t p (snoc done (Row Nil)) ss s) f g
not_ended (Cons (Row (Cons y (Cons z zs))) xs) (Maybe n ∷ ss) u p done s f g h e = absurd h.0
not_ended (Cons (Leaf t) xs) (Many n ∷ ss) u p done s f g h e = absurd h.0
not_ended (Cons (Node q ks) xs) (Many n ∷ ss) u p done s f g h e = absurd h.0
not_ended (Cons (Leaf t) xs) (Maybe n ∷ ss) u p done s f g h e = absurd h.0
not_ended (Cons (Node q ks) xs) (Maybe n ∷ ss) u p done s f g h e = absurd h.0

mutual
  unfolding step then_run

  reads : (x : Spelling) (n : Part) (u : Token) (r : List Token) (k : Times) (q : Production) (done row : Spellings) (left : List Symbol) (s : List Frame) → Reads x n u → wants n (tokens x ++ (u ∷ r)) (At q done row (at_times k n ∷ left) ∷ s) ≡ then_run (gives x u (At q done row (at_times k n ∷ left) ∷ s)) (run r)
  reads (Leaf t) n u r k q done row left s h = absurd h
  reads (Row items) n u r k q done row left s h = absurd h
  reads (Node p kids) n u r k q done row left s h = reads_from kids (rhs p) p refl n u r k q done row left s h

  reads_from : (kids : Spellings) (ss : List Symbol) (p : Production) → rhs p ≡ ss → (n : Part) (u : Token) (r : List Token) (k : Times) (q : Production) (done row : Spellings) (left : List Symbol) (s : List Frame) → ReadsFrom kids ss p n u → wants n (all_tokens kids ++ (u ∷ r)) (At q done row (at_times k n ∷ left) ∷ s) ≡ then_run (give p kids u (At q done row (at_times k n ∷ left) ∷ s)) (run r)
  reads_from Nil ss p e n u r k q done row left s h = absurd h
  reads_from (Cons x xs) [] p e n u r k q done row left s h = absurd h
  reads_from (Cons (Leaf t) xs) (Tok j ∷ ss) p e n u r k q done row left s h =
      ap (λ o. then_run o (run (all_tokens xs ++ (u ∷ r)))) (enters n t p j ss (At q done row (at_times k n ∷ left) ∷ s) e h.0.0 h.0.1) ∙ reads_kids xs ss p (Cons (Leaf t) Nil) (At q done row (at_times k n ∷ left) ∷ s) u r h.1
  reads_from (Cons (Node p₁ k₁) xs) (Tok j ∷ ss) p e n u r k q done row left s h = absurd h.0
  reads_from (Cons (Row items) xs) (Tok j ∷ ss) p e n u r k q done row left s h = absurd h.0
  reads_from (Cons (Node p₁ k₁) xs) (One m ∷ ss) p e n u r k q done row left s h =
      let f : List Frame = At q done row (at_times k n ∷ left) ∷ s in
      let v : Token = first (all_tokens xs) u in
      ap (λ z. wants n z f) (append_assoc (all_tokens k₁) (all_tokens xs) (u ∷ r) ∙ ap (λ z. all_tokens k₁ ++ z) (split (all_tokens xs) u r)) ∙ reads_from k₁ (rhs p₁) p₁ refl n v (behind (all_tokens xs) u r) k q done row left s h.0 ∙ ap (λ o. then_run o (run (behind (all_tokens xs) u r))) (give_wraps k n p₁ k₁ v q done row left s p h.1.0 ∙ ap (λ z. closed (wraps z p (category p₁ k₁) (Node p₁ k₁) v f) (λ all. give q all v s)) e ∙ ap (λ z. closed (where_so z (unfinished (begin v p (Cons (Node p₁ k₁) Nil) ss f))) (λ all. give q all v s)) h.1.1 ∙ not_ended xs ss u p (Cons (Node p₁ k₁) Nil) f (λ all. give q all v s) (λ all. give p all v f) h.2 h.3) ∙ sym (goes_on p (Cons (Node p₁ k₁) Nil) ss v (behind (all_tokens xs) u r) f) ∙ ap (λ z. goes p (Cons (Node p₁ k₁) Nil) ss z f) (sym (split (all_tokens xs) u r)) ∙ reads_kids xs ss p (Cons (Node p₁ k₁) Nil) f u r h.2
  reads_from (Cons (Leaf t) xs) (One m ∷ ss) p e n u r k q done row left s h = absurd h.0
  reads_from (Cons (Row items) xs) (One m ∷ ss) p e n u r k q done row left s h = absurd h.0
  reads_from (Cons x xs) (Many m ∷ ss) p e n u r k q done row left s h = absurd h
  reads_from (Cons x xs) (Maybe m ∷ ss) p e n u r k q done row left s h = absurd h

  pub reads_kids : (xs : Spellings) (ss : List Symbol) (p : Production) (done : Spellings) (s : List Frame) (u : Token) (r : List Token) → ReadsKids xs ss u → goes p done ss (all_tokens xs ++ (u ∷ r)) s ≡ then_run (give p (append done xs) u s) (run r)
  reads_kids Nil [] p done s u r h = ap (λ z. then_run (give p z u s) (run r)) (sym (append_none done))
  reads_kids Nil (x ∷ ss) p done s u r h = absurd h
  reads_kids (Cons x xs) [] p done s u r h = absurd h
  reads_kids (Cons (Leaf t) xs) (Tok k ∷ ss) p done s u r h =
      ap (λ b. then_run (closed (moved (at_token b p done t ss s)) (λ all. give p all t s)) (run (all_tokens xs ++ (u ∷ r)))) h.0 ∙ reads_kids xs ss p (snoc done (Leaf t)) s u r h.1 ∙ ap (λ z. then_run (give p z u s) (run r)) (snoc_append done (Leaf t) xs)
  reads_kids (Cons (Node q ks) xs) (One n ∷ ss) p done s u r h =
      let x : Spelling = Node q ks in
      let v : Token = first (all_tokens xs) u in
      ap (λ z. goes p done (One n ∷ ss) z s) (append_assoc (all_tokens ks) (all_tokens xs) (u ∷ r) ∙ ap (λ z. all_tokens ks ++ z) (split (all_tokens xs) u r)) ∙ once_wants (all_tokens ks) v (behind (all_tokens xs) u r) p done n ss s ∙ reads_from ks (rhs q) q refl n v (behind (all_tokens xs) u r) once p done Nil ss s h.0.0 ∙ ap (λ z. then_run (closed z (λ all. give p all v s)) (run (behind (all_tokens xs) u r))) (give_ends (announced (category q ks) n (class_of v)) true h.0.1.0 refl n (category q ks) x v (At p done Nil (One n ∷ ss) ∷ s) (begin v p (snoc done x) ss s) h.0.1.1) ∙ ap (λ z. goes p (snoc done x) ss z s) (sym (split (all_tokens xs) u r)) ∙ reads_kids xs ss p (snoc done x) s u r h.1 ∙ ap (λ z. then_run (give p z u s) (run r)) (snoc_append done x xs)
  reads_kids (Cons (Row items) xs) (Many n ∷ ss) p done s u r h =
      let v : Token = first (all_tokens xs) u in
      ap (λ z. goes p done (Many n ∷ ss) z s) (append_assoc (all_tokens items) (all_tokens xs) (u ∷ r) ∙ ap (λ z. all_tokens items ++ z) (split (all_tokens xs) u r)) ∙ reads_row items n p done ss s v (behind (all_tokens xs) u r) h.0.0 h.0.1 ∙ ap (λ z. goes p (snoc done (Row items)) ss z s) (sym (split (all_tokens xs) u r)) ∙ reads_kids xs ss p (snoc done (Row items)) s u r h.1 ∙ ap (λ z. then_run (give p z u s) (run r)) (snoc_append done (Row items) xs)
  reads_kids (Cons (Row Nil) xs) (Maybe n ∷ ss) p done s u r h =
      ap (λ z. goes p done (Maybe n ∷ ss) z s) (split (all_tokens xs) u r) ∙ none_there (first (all_tokens xs) u) n maybe (λ e. cc (e)) h.0 (behind (all_tokens xs) u r) p done ss s ∙ ap (λ z. goes p (snoc done (Row Nil)) ss z s) (sym (split (all_tokens xs) u r)) ∙ reads_kids xs ss p (snoc done (Row Nil)) s u r h.1 ∙ ap (λ z. then_run (give p z u s) (run r)) (snoc_append done (Row Nil) xs)
  reads_kids (Cons (Row (Cons y Nil)) xs) (Maybe n ∷ ss) p done s u r h =
      let v : Token = first (all_tokens xs) u in
      ap (λ z. goes p done (Maybe n ∷ ss) z s) (append_assoc (all_tokens (Cons y Nil)) (all_tokens xs) (u ∷ r) ∙ ap (λ z. z ++ (all_tokens xs ++ (u ∷ r))) (append-nil (tokens y)) ∙ ap (λ z. tokens y ++ z) (split (all_tokens xs) u r)) ∙ maybe_wants y n (corner y n v h.0.0) (v ∷ behind (all_tokens xs) u r) p done ss s ∙ reads y n v (behind (all_tokens xs) u r) maybe p done Nil ss s h.0.0 ∙ ap (λ o. then_run o (run (behind (all_tokens xs) u r))) (maybe_ends y n v p done Nil ss s h.0.1) ∙ ap (λ z. goes p (snoc done (Row (Cons y Nil))) ss z s) (sym (split (all_tokens xs) u r)) ∙ reads_kids xs ss p (snoc done (Row (Cons y Nil))) s u r h.1 ∙ ap (λ z. then_run (give p z u s) (run r)) (snoc_append done (Row (Cons y Nil)) xs)
  reads_kids (Cons (Row (Cons y (Cons z zs))) xs) (Maybe n ∷ ss) p done s u r h = absurd h.0
  reads_kids (Cons (Node q ks) xs) (Tok k ∷ ss) p done s u r h = absurd h.0
  reads_kids (Cons (Row items) xs) (Tok k ∷ ss) p done s u r h = absurd h.0
  reads_kids (Cons (Leaf t) xs) (One n ∷ ss) p done s u r h = absurd h.0
  reads_kids (Cons (Row items) xs) (One n ∷ ss) p done s u r h = absurd h.0
  reads_kids (Cons (Leaf t) xs) (Many n ∷ ss) p done s u r h = absurd h.0
  reads_kids (Cons (Node q ks) xs) (Many n ∷ ss) p done s u r h = absurd h.0
  reads_kids (Cons (Leaf t) xs) (Maybe n ∷ ss) p done s u r h = absurd h.0
  reads_kids (Cons (Node q ks) xs) (Maybe n ∷ ss) p done s u r h = absurd h.0

  pub reads_row : (items : Spellings) (n : Part) (p : Production) (done : Spellings) (ss : List Symbol) (s : List Frame) (v : Token) (r : List Token) → ReadsItems items n v → opening n (class_of v) ≡ None → goes p done (Many n ∷ ss) (all_tokens items ++ (v ∷ r)) s ≡ goes p (snoc done (Row items)) ss (v ∷ r) s
  reads_row Nil n p done ss s v r h e = none_there v n many (λ e. cc (e)) e r p done ss s
  reads_row (Cons y ys) n p done ss s v r h e =
      let w : Token = first (all_tokens ys) v in
      ap (λ z. goes p done (Many n ∷ ss) z s) (append_assoc (tokens y) (all_tokens ys) (v ∷ r) ∙ ap (λ z. tokens y ++ z) (split (all_tokens ys) v r)) ∙ many_wants y n (corner y n w h.0) (w ∷ behind (all_tokens ys) v r) p done ss s ∙ reads y n w (behind (all_tokens ys) v r) many p done Nil ss s h.0 ∙ ap (λ o. then_run o (run (behind (all_tokens ys) v r))) (many_ends y n w p done Nil ss s h.1) ∙ reads_rest ys n (snoc Nil y) p done ss s v r h.2 e

  reads_rest : (ys : Spellings) (n : Part) (row : Spellings) (p : Production) (done : Spellings) (ss : List Symbol) (s : List Frame) (v : Token) (r : List Token) → ReadsItems ys n v → opening n (class_of v) ≡ None → then_run (closed (choose (opening n (class_of (first (all_tokens ys) v))) (first (all_tokens ys) v) (At p done row (Many n ∷ ss) ∷ s) (begin (first (all_tokens ys) v) p (snoc done (Row row)) ss s)) (λ all. give p all (first (all_tokens ys) v) s)) (run (behind (all_tokens ys) v r)) ≡ goes p (snoc done (Row (append row ys))) ss (v ∷ r) s
  reads_rest Nil n row p done ss s v r h e =
      ap (λ o. then_run (closed (choose o v (At p done row (Many n ∷ ss) ∷ s) (begin v p (snoc done (Row row)) ss s)) (λ all. give p all v s)) (run r)) e ∙ ap (λ z. goes p (snoc done (Row z)) ss (v ∷ r) s) (sym (append_none row))
  reads_rest (Cons z zs) n row p done ss s v r h e =
      let w : Token = first (all_tokens (Cons z zs)) v in
      let x : Token = first (all_tokens zs) v in
      let c = corner z n x h.0 in
      ap (λ o. then_run o (run (behind (all_tokens (Cons z zs)) v r))) (choose_some (opening n (class_of w)) c.p (ap (λ a. opening n (class_of a)) (first_of z zs v c.t c.ts c.tokens_are) ∙ c.opens) w (At p done row (Many n ∷ ss) ∷ s) (begin w p (snoc done (Row row)) ss s) (λ all. give p all w s)) ∙ ap (λ a. wants n a (At p done row (Many n ∷ ss) ∷ s)) (sym (split (all_tokens (Cons z zs)) v r) ∙ append_assoc (tokens z) (all_tokens zs) (v ∷ r) ∙ ap (λ a. tokens z ++ a) (split (all_tokens zs) v r)) ∙ reads z n x (behind (all_tokens zs) v r) many p done row ss s h.0 ∙ ap (λ o. then_run o (run (behind (all_tokens zs) v r))) (many_ends z n x p done row ss s h.1) ∙ reads_rest zs n (snoc row z) p done ss s v r h.2 e ∙ ap (λ a. goes p (snoc done (Row a)) ss (v ∷ r) s) (snoc_append row z zs)
