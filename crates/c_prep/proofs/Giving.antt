-- Acts one behind the other, and the output that they give.
use Rattle.std.proofs.Common.{◌≡◌, ℕ, ◌+◌, ◌≤◌, ◌<◌, Bool, true, false, List, [], ◌∷◌, ◌++◌, length, map, fold, Option, Some, None, refl, sym, ap, ◌∙◌, subst, append_assoc, arith}
use Rattle.std.proofs.lemmas.List.{append-nil}
use Rattle.std.proofs.lemmas.Bool.Decides.{nat_tests}
use Rattle.std.specs.Prelude.{Result, Ok, Err, nat_lt, ◌||◌, if◌then◌else◌}
use Rattle.std.specs.Option.{option_map_or, unwrap_or}
use Rattle.c_syntax.specs.declared.token.Kind.{Kind}
use Rattle.c_syntax.specs.declared.token.Kind.TheVariants as kind
use Rattle.c_syntax.specs.declared.token.Token.{Token}
use Rattle.c_syntax.specs.Lex.{named_constant, joined, joined_kinds, added, put}
use Rattle.c_prep.specs.declared.fault.PrepFault.{PrepFault}
use Rattle.c_prep.specs.declared.fault.PrepFault.TheVariants as fault
use Rattle.c_prep.specs.declared.output.Output.{Output}
use Rattle.c_prep.specs.Macros.{Item, Act, Replaces, Gives}
use Rattle.c_prep.specs.Prepared.{replaced_in, items_in, ok_item, joined_items, added_item, constant_item, put_item, result_of, is_over, put_token, collected, outcome}
use Rattle.c_prep.specs.Outcome.{Fails}
use Rattle.c_prep.specs.Views.{stand_in, first_refused, FollowsBy, Follows, Adds}

items_more : (a b : List Act) → items_in (a ++ b) ≡ items_in a ++ items_in b
items_more [] b = refl
items_more (Replaces ∷ a) b = items_more a b
items_more (Gives i ∷ a) b = ap (λ (z : List Item). i ∷ z) (items_more a b)

fold_items : (xs a b : List Item) → fold put_item xs (a ++ b) ≡ fold put_item (fold put_item xs a) b
fold_items xs [] b = refl
fold_items xs (i ∷ a) b = fold_items (put_item xs i) a b

result_gives : (a : List Act) (i : Item) → result_of (a ++ Gives i ∷ []) ≡ put_item (result_of a) i
result_gives a i = ap (fold put_item []) (items_more a (Gives i ∷ [])) ∙ fold_items [] (items_in a) (i ∷ [])

result_replaces : (a : List Act) → result_of (a ++ Replaces ∷ []) ≡ result_of a
result_replaces a = ap (fold put_item []) (items_more a (Replaces ∷ []) ∙ append-nil (items_in a))

replaced_more : (a b : List Act) → replaced_in (a ++ b) ≡ replaced_in a + replaced_in b
replaced_more [] b = omega arith
replaced_more (Replaces ∷ a) b = omega (arith, replaced_more a b)
replaced_more (Gives i ∷ a) b = replaced_more a b

-- the result grows
joined_length : (j k : Kind) (x t : Token) → 1 ≤ length (map ok_item (joined_kinds j k x t))
joined_length (kind.Str a) (kind.Str b) x t = omega arith
joined_length (kind.Str a) _ x t = omega arith
joined_length _ k x t = omega arith

items_length : (x i : Item) → 1 ≤ length (joined_items x i)
items_length (Ok x) (Ok t) = joined_length x.kind t.kind x t
items_length (Ok x) (Err e) = omega arith
items_length (Err e) i = omega arith

added_length : (xs : List Item) (i : Item) → length xs ≤ length (added_item xs i)
added_length [] i = omega arith
added_length (x ∷ []) i = items_length x i
added_length (x ∷ y ∷ xs) i = omega (arith, added_length (y ∷ xs) i)

fold_length : (xs ys : List Item) → length xs ≤ length (fold put_item xs ys)
fold_length xs [] = omega arith
fold_length xs (i ∷ ys) = omega (arith, added_length xs (constant_item i), fold_length (put_item xs i) ys)

over_numbers : (m n r l s k : ℕ) → r ≤ s → l ≤ k → (nat_lt m r || nat_lt n l) ≡ true → (nat_lt m s || nat_lt n k) ≡ true
over_numbers m n r l s k h g e = at (nat_lt m r) refl (nat_lt n l) refl e where
  right : (b : Bool) → (b || true) ≡ true
  right true = refl
  right false = refl

  at : (x : Bool) → nat_lt m r ≡ x → (y : Bool) → nat_lt n l ≡ y → (x || y) ≡ true → (nat_lt m s || nat_lt n k) ≡ true
  at true p y q f = let t : nat_lt m s ≡ true = grind (arith, nat_tests) in ap (λ b. b || nat_lt n k) t
  at false p true q f = let t : nat_lt n k ≡ true = grind (arith, nat_tests) in ap (λ b. nat_lt m s || b) t ∙ right (nat_lt m s)
  at false p false q f = absurd (cc (f))

-- what is too large stays so
pub over_more : (a b : List Act) → is_over a ≡ true → is_over (a ++ b) ≡ true
unfolding is_over
over_more a b e =
    let longer : length (result_of a) ≤ length (result_of (a ++ b)) =
    omega (arith, fold_length (result_of a) (items_in b), ap (λ (z : List Item). length z) (ap (fold put_item []) (items_more a b) ∙ fold_items [] (items_in a) (items_in b))) in
    over_numbers 1000000 1000001 (replaced_in a) (length (result_of a)) (replaced_in (a ++ b)) (length (result_of (a ++ b))) (omega (arith, replaced_more a b)) longer e

-- tokens that stand in for the items
map_stands : (ts : List Token) → map stand_in (map ok_item ts) ≡ ts
map_stands [] = refl
map_stands (t ∷ ts) = ap (λ (z : List Token). t ∷ z) (map_stands ts)

joined_null : (k : Kind) (x t : Token) → joined_kinds k kind.Null x t ≡ x ∷ t ∷ []
joined_null (kind.Str a) x t = refl
joined_null _ x t = refl

joined_stands : (x i : Item) → map stand_in (joined_items x i) ≡ joined (stand_in x) (stand_in i)
joined_stands (Ok x) (Ok t) = map_stands (joined x t)
joined_stands (Ok x) (Err e) = sym (joined_null x.kind x (stand_in (Err e)))
joined_stands (Err e) (Ok t) = refl
joined_stands (Err e) (Err f) = refl

added_stands : (xs : List Item) (i : Item) → map stand_in (added_item xs i) ≡ added (map stand_in xs) (stand_in i)
added_stands [] i = refl
added_stands (x ∷ []) i = joined_stands x i
added_stands (x ∷ y ∷ xs) i = ap (λ (z : List Token). stand_in x ∷ z) (added_stands (y ∷ xs) i)

constant_stands : (i : Item) → stand_in (constant_item i) ≡ record { kind = named_constant (stand_in i).kind; pos = (stand_in i).pos }
constant_stands (Ok t) = refl
constant_stands (Err e) = refl

put_stands : (xs : List Item) (i : Item) → map stand_in (put_item xs i) ≡ put (map stand_in xs) (stand_in i)
put_stands xs i = added_stands xs (constant_item i) ∙ ap (λ (t : Token). added (map stand_in xs) t) (constant_stands i)

stands_length : (xs : List Item) → length (map stand_in xs) ≡ length xs
stands_length [] = refl
stands_length (x ∷ xs) = omega (arith, stands_length xs)

-- the first that is refused
abbrev pub or_else : Option PrepFault → Option PrepFault → Option PrepFault
or_else None o = o
or_else (Some e) o = Some e

pub or_none : (o : Option PrepFault) → or_else o None ≡ o
or_none None = refl
or_none (Some e) = refl

pub or_first : (o : Option PrepFault) (e : PrepFault) → Some (unwrap_or o e) ≡ or_else o (Some e)
or_first None e = refl
or_first (Some d) e = refl

abbrev pub fault_of : Item → Option PrepFault
fault_of (Ok t) = None
fault_of (Err e) = Some e

none_refused : (ts : List Token) → first_refused (map ok_item ts) ≡ None
none_refused [] = refl
none_refused (t ∷ ts) = none_refused ts

joined_refused : (x i : Item) → first_refused (joined_items x i) ≡ or_else (fault_of x) (fault_of i)
joined_refused (Ok x) (Ok t) = none_refused (joined x t)
joined_refused (Ok x) (Err e) = refl
joined_refused (Err e) i = refl

added_refused : (xs : List Item) (i : Item) → first_refused (added_item xs i) ≡ or_else (first_refused xs) (fault_of i)
added_refused [] (Ok t) = refl
added_refused [] (Err e) = refl
added_refused (Ok x ∷ []) i = joined_refused (Ok x) i
added_refused (Err e ∷ []) i = refl
added_refused (Ok x ∷ y ∷ xs) i = added_refused (y ∷ xs) i
added_refused (Err e ∷ y ∷ xs) i = refl

constant_refused : (i : Item) → fault_of (constant_item i) ≡ fault_of i
constant_refused (Ok t) = refl
constant_refused (Err e) = refl

put_refused : (xs : List Item) (i : Item) → first_refused (put_item xs i) ≡ or_else (first_refused xs) (fault_of i)
put_refused xs i = added_refused xs (constant_item i) ∙ ap (or_else (first_refused xs)) (constant_refused i)

abbrev failed : PrepFault → Result (List Token) PrepFault
failed e = Err e

pushed : (t : Token) (o : Option PrepFault) (ts : List Token) → put_token t (option_map_or failed o (Ok ts)) ≡ option_map_or failed o (Ok (t ∷ ts))
pushed t None ts = refl
pushed t (Some e) ts = refl

collected_is : (xs : List Item) → collected xs ≡ option_map_or failed (first_refused xs) (Ok (map stand_in xs))
collected_is [] = refl
collected_is (Ok t ∷ xs) = ap (put_token t) (collected_is xs) ∙ pushed t (first_refused xs) (map stand_in xs)
collected_is (Err e ∷ xs) = refl

-- an output that follows acts
by_flag : (o : Output) (acts : List Act) (b : Bool) → o.over ≡ b → Follows o acts → FollowsBy b o acts
unfolding Follows
by_flag o acts b e f = let P : Bool → Type 0 = λ b. FollowsBy b o acts in subst P e f

pub follows_over : (o : Output) (acts : List Act) → o.over ≡ true → is_over acts ≡ true → Follows o acts
unfolding Follows
follows_over o acts e h = let P : Bool → Type 0 = λ b. FollowsBy b o acts in subst P (sym e) h

follows_either : (o : Output) (acts : List Act) → is_over acts ≡ o.over → o.tokens.items ≡ map stand_in (result_of acts) → o.refused ≡ first_refused (result_of acts) → o.replaced ≡ replaced_in acts → Follows o acts
unfolding Follows
follows_either o acts e tokens refused replaced = at o.over e where
  at : (b : Bool) → is_over acts ≡ b → FollowsBy b o acts
  at true e = e
  at false e = (e, tokens, refused, replaced)

pub follows_none : (o : Output) → o.over ≡ false → o.tokens.items ≡ [] → o.refused ≡ None → o.replaced ≡ 0 → Follows o []
unfolding is_over
follows_none o over tokens refused replaced = follows_either o [] (sym over) tokens refused replaced

pub over_follows : (o : Output) (acts : List Act) → o.over ≡ true → Follows o acts → is_over acts ≡ true
over_follows o acts e f = by_flag o acts true e f

-- a too large output takes any acts
pub over_adds : (o : Output) (acts : List Act) → o.over ≡ true → Adds o o acts
unfolding Adds
over_adds o acts e = λ before f. follows_over o (before ++ acts) e (over_more before acts (by_flag o before true e f))

pub adds_none : (o : Output) → Adds o o []
unfolding Adds
adds_none o = λ before f. subst (Follows o) (sym (append-nil before)) f

pub adds_both : (o p q : Output) (a b : List Act) → Adds o p a → Adds p q b → Adds o q (a ++ b)
unfolding Adds
adds_both o p q a b f g = λ before h. subst (Follows q) (append_assoc before a b) (g (before ++ a) (f before h))

-- the flag of a result whose replaced names are few enough
flag_tokens : (m n r l : ℕ) → (nat_lt m r || nat_lt n l) ≡ false → (k : ℕ) → (nat_lt m r || nat_lt n k) ≡ nat_lt n k
flag_tokens m n r l e k = at (nat_lt m r) e where
  at : (b : Bool) → (b || nat_lt n l) ≡ false → (b || nat_lt n k) ≡ nat_lt n k
  at true h = absurd (cc (h))
  at false h = refl

flag_replaced : (m n r l : ℕ) → (nat_lt m r || nat_lt n l) ≡ false → r < m → (nat_lt m (r + 1) || nat_lt n l) ≡ false
flag_replaced m n r l e h = ap (λ b. b || nat_lt n l) low ∙ at (nat_lt m r) e where
  low : nat_lt m (r + 1) ≡ false
  low = grind (arith, nat_tests)

  at : (b : Bool) → (b || nat_lt n l) ≡ false → nat_lt n l ≡ false
  at true h = absurd (cc (h))
  at false h = h

flag_many : (m n r l : ℕ) → m ≤ r → (nat_lt m (r + 1) || nat_lt n l) ≡ true
flag_many m n r l h = let high : nat_lt m (r + 1) ≡ true = grind (arith, nat_tests) in ap (λ b. b || nat_lt n l) high

pub replaced_over : (o p : Output) → o.over ≡ false → 1000000 ≤ o.replaced → p.over ≡ true → Adds o p (Replaces ∷ [])
unfolding Adds is_over
replaced_over o p over many is = λ before f.
    let was = by_flag o before false over f in
    let acts = before ++ Replaces ∷ [] in
    let count : replaced_in acts ≡ o.replaced + 1 = omega (arith, replaced_more before (Replaces ∷ []), was.3) in
    follows_over p acts is (ap (λ r. nat_lt 1000000 r || nat_lt 1000001 (length (result_of acts))) count ∙ flag_many 1000000 1000001 o.replaced (length (result_of acts)) many)

pub replaced_one : (o p : Output) → o.over ≡ false → o.replaced < 1000000 → p.over ≡ false → p.tokens.items ≡ o.tokens.items → p.refused ≡ o.refused → p.replaced ≡ o.replaced + 1 → Adds o p (Replaces ∷ [])
unfolding Adds is_over
replaced_one o p over few is tokens refused replaced = λ before f.
    let was = by_flag o before false over f in
    let acts = before ++ Replaces ∷ [] in
    let same = result_replaces before in
    let count : replaced_in acts ≡ replaced_in before + 1 = omega (arith, replaced_more before (Replaces ∷ [])) in
    let low : replaced_in before < 1000000 = omega (arith, was.3) in
    follows_either p acts
    (ap (λ r. nat_lt 1000000 r || nat_lt 1000001 (length (result_of acts))) count
    ∙ ap (λ (z : List Item). nat_lt 1000000 (replaced_in before + 1) || nat_lt 1000001 (length z)) same
    ∙ flag_replaced 1000000 1000001 (replaced_in before) (length (result_of before)) was.0 low ∙ sym is)
    (tokens ∙ was.1 ∙ ap (λ (z : List Item). map stand_in z) (sym same))
    (refused ∙ was.2 ∙ ap first_refused (sym same))
    (replaced ∙ ap (λ n. n + 1) was.3 ∙ sym count)

pub given_one : (o p : Output) (i : Item) → o.over ≡ false → p.tokens.items ≡ put o.tokens.items (stand_in i) → p.refused ≡ or_else o.refused (fault_of i) → p.replaced ≡ o.replaced → p.over ≡ nat_lt 1000001 (length p.tokens.items) → Adds o p (Gives i ∷ [])
unfolding Adds is_over
given_one o p i over tokens refused replaced is = λ before f.
    let was = by_flag o before false over f in
    let acts = before ++ Gives i ∷ [] in
    let made = result_gives before i in
    let stands : p.tokens.items ≡ map stand_in (result_of acts) =
    tokens ∙ ap (λ z. put z (stand_in i)) was.1 ∙ sym (put_stands (result_of before) i) ∙ ap (λ (z : List Item). map stand_in z) (sym made) in
    let count : replaced_in acts ≡ replaced_in before = omega (arith, replaced_more before (Gives i ∷ [])) in
    follows_either p acts
    (ap (λ r. nat_lt 1000000 r || nat_lt 1000001 (length (result_of acts))) count
    ∙ flag_tokens 1000000 1000001 (replaced_in before) (length (result_of before)) was.0 (length (result_of acts))
    ∙ ap (λ n. nat_lt 1000001 n) (sym (stands_length (result_of acts)) ∙ ap (λ (z : List Token). length z) (sym stands)) ∙ sym is)
    stands
    (refused ∙ ap (λ o. or_else o (fault_of i)) was.2 ∙ sym (put_refused (result_of before) i) ∙ ap first_refused (sym made))
    (replaced ∙ was.3 ∙ sym count)

-- the answer
pub fails_as : {Y : Type 0} (e : PrepFault) (there : Result Y PrepFault) → there ≡ Err e → Fails e there
fails_as fault.Memory there h = tt
fails_as (fault.BadChar p) there h = h
fails_as (fault.Unclosed p) there h = h
fails_as (fault.NumberRange p) there h = h
fails_as (fault.BadDirective p) there h = h
fails_as (fault.Unbalanced p) there h = h
fails_as fault.TooLarge there h = h

pub is_too_large : (o : Output) (acts : List Act) → o.over ≡ true → Follows o acts → outcome acts ≡ Err fault.TooLarge
is_too_large o acts over f = ap (λ b. if b then Err fault.TooLarge else collected (result_of acts)) (by_flag o acts true over f)

by_refused : (o : Output) (acts : List Act) (r : Option PrepFault) → o.over ≡ false → o.refused ≡ r → Follows o acts → outcome acts ≡ option_map_or failed r (Ok o.tokens.items)
by_refused o acts r over e f =
    let was = by_flag o acts false over f in
    ap (λ b. if b then Err fault.TooLarge else collected (result_of acts)) was.0 ∙ collected_is (result_of acts)
    ∙ ap (λ (ts : List Token). option_map_or failed (first_refused (result_of acts)) (Ok ts)) (sym was.1)
    ∙ ap (λ (o' : Option PrepFault). option_map_or failed o' (Ok o.tokens.items)) (sym was.2 ∙ e)

pub is_refused : (o : Output) (acts : List Act) (e : PrepFault) → o.over ≡ false → o.refused ≡ Some e → Follows o acts → outcome acts ≡ Err e
is_refused o acts e over r f = by_refused o acts (Some e) over r f

pub is_made : (o : Output) (acts : List Act) → o.over ≡ false → o.refused ≡ None → Follows o acts → outcome acts ≡ Ok o.tokens.items
is_made o acts over r f = by_refused o acts None over r f
