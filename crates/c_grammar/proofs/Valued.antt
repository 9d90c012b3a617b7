-- The machine on values does what the machine on spellings does.
use Rattle.std.proofs.Common.{◌≡◌, ℕ, suc, ◌+◌, List, [], ◌∷◌, Option, Some, None, Bool, true, false, refl, sym, ap, ◌∙◌, subst, take, length, ◌<◌, ◌≤◌}
use Rattle.c_syntax.specs.declared.token.Token.{Token}
use Rattle.c_syntax.specs.Plain.{CUnit}
use Rattle.c_grammar.specs.Class.{class_of}
use Rattle.c_grammar.specs.Grammar.{Part, Symbol, Tok, One, Many, Maybe, Production, Parens, TypeInside, NameCore, If, PieceP, Whole, rhs}
use Rattle.c_grammar.specs.Spelling.{Spelling, Leaf, Node, Row, Spellings, Nil, Cons, Category, CoreC, IfC, category, brackets_category, inside_category, is_empty, has_no_length, accepts, or, and, is_if, has_body, ends_open, last_open}
use Rattle.c_grammar.specs.Machine as machine
use Rattle.c_grammar.specs.Machine.{Frame, append, snoc, takes, opening, announced}
use Rattle.c_grammar.specs.Nesting.{Context, Walk, walk, past, place, past_item, other_counts, other_hands, operators_of, operators, all_operators, later, stars, all_stars}
use Rattle.c_grammar.specs.Depths.{past_all, past_items, context, last_depth, top_depth}
use Rattle.c_grammar.specs.Tree.{Meanings, Several, more, meaning, meanings, act, unit_tree, items, end_place}
use Rattle.c_syntax.specs.Plain as plain
use Rattle.c_grammar.specs.Spells.{Spells, IsFirstBad, IsDeepAt}
use Rattle.c_grammar.specs.Values as values
use Rattle.c_grammar.specs.Values.{Value, Token', Made, Values, ValueList, nil, cons, Facts, meaning_of, meanings_of, operators_in, all_operators_in, stars_in, all_stars_in, is_open, last_is_open, inside_of, brackets_of, is_blank, has_none, category_of, is_type_inside, made, value_of, values_of, joined, with_last, Open, later_in, past_value, past_values, past_row, context_of, last_depth_of, depth_of, tree_of}
use Rattle.c_grammar.proofs.Sound.{whole_fits, whole_tokens}
use Rattle.c_grammar.proofs.Exact.{first_bad, spelled_is_read}
use Rattle.c_grammar.proofs.Limits.{deep_at, shallow_at}

-- what the machine asks of a part is in its value
last_case : (x : Spelling) (xs : Spellings) → ends_open x ≡ is_open (value_of x) → last_open xs ≡ last_is_open (values_of xs) → last_open (Cons x xs) ≡ last_is_open (values_of (Cons x xs))
last_case x Nil h g = h
last_case x (Cons y ys) h g = g

mutual
  open_same : (x : Spelling) → ends_open x ≡ is_open (value_of x)
  open_same (Leaf t) = refl
  open_same (Row items) = refl
  open_same (Node p kids) = ap (λ z. or (is_if p) (and (has_body p) z)) (last_same kids)

  last_same : (kids : Spellings) → last_open kids ≡ last_is_open (values_of kids)
  last_same Nil = refl
  last_same (Cons x xs) = last_case x xs (open_same x) (last_same xs)

inside_same : (x : Spelling) → inside_category x ≡ inside_of (value_of x)
inside_same (Leaf t) = refl
inside_same (Row items) = refl
inside_same (Node TypeInside kids) = refl
inside_same (Node _ kids) = refl

brackets_same : (kids : Spellings) → brackets_category kids ≡ brackets_of (values_of kids)
brackets_same (Cons o (Cons x xs)) = inside_same x
brackets_same (Cons o Nil) = refl
brackets_same Nil = refl

blank_same : (x : Spelling) → is_empty x ≡ is_blank (value_of x)
blank_same (Leaf t) = refl
blank_same (Node p kids) = refl
blank_same (Row Nil) = refl
blank_same (Row (Cons x xs)) = refl

lengths_same : (kids : Spellings) → has_no_length kids ≡ has_none (values_of kids)
lengths_same (Cons o (Cons x xs)) = blank_same x
lengths_same (Cons o Nil) = refl
lengths_same Nil = refl

category_same : (p : Production) (kids : Spellings) → category p kids ≡ category_of p (values_of kids)
category_same Parens kids = brackets_same kids
category_same (NameCore o) kids = ap (CoreC o) (lengths_same kids)
category_same If kids = ap IfC (last_same kids)
category_same _ kids = refl

mutual
  operators_same : (x : Spelling) → operators x ≡ operators_in (value_of x)
  operators_same (Leaf t) = refl
  operators_same (Row items) = refl
  operators_same (Node p Nil) = refl
  operators_same (Node p (Cons x xs)) = ap (λ z. operators_of p z (all_operators xs)) (operators_same x) ∙ ap (λ z. operators_of p (operators_in (value_of x)) z) (all_operators_same xs)

  all_operators_same : (xs : Spellings) → all_operators xs ≡ all_operators_in (values_of xs)
  all_operators_same Nil = refl
  all_operators_same (Cons x xs) = ap (λ z. z + all_operators xs) (operators_same x) ∙ ap (λ z. operators_in (value_of x) + z) (all_operators_same xs)

mutual
  stars_same : (x : Spelling) → stars x ≡ stars_in (value_of x)
  stars_same (Leaf t) = refl
  stars_same (Row items) = all_stars_same items
  stars_same (Node (PieceP k) kids) = refl
  stars_same (Node _ kids) = refl

  all_stars_same : (xs : Spellings) → all_stars xs ≡ all_stars_in (values_of xs)
  all_stars_same Nil = refl
  all_stars_same (Cons x xs) = ap (λ z. z + all_stars xs) (stars_same x) ∙ ap (λ z. stars_in (value_of x) + z) (all_stars_same xs)

mutual
  meaning_same : (x : Spelling) → meaning x ≡ meaning_of (value_of x)
  meaning_same (Leaf t) = refl
  meaning_same (Node p kids) = ap (act p) (meanings_same kids)
  meaning_same (Row items) = ap Several (meanings_same items)

  meanings_same : (xs : Spellings) → meanings xs ≡ meanings_of (values_of xs)
  meanings_same Nil = refl
  meanings_same (Cons x xs) = ap (λ z. more z (meanings xs)) (meaning_same x) ∙ ap (λ z. more (meaning_of (value_of x)) z) (meanings_same xs)

tree_same : (kids : Spellings) → unit_tree kids ≡ tree_of (values_of kids)
tree_same kids = ap (λ z. the_tree z) (meanings_same kids)
  where
    the_tree : Meanings → CUnit
    the_tree ms = record { items = items (act Whole ms) plain.Void plain.Void; end = end_place ms }

values_append : (xs ys : Spellings) → values_of (append xs ys) ≡ joined (values_of xs) (values_of ys)
values_append Nil ys = refl
values_append (Cons x xs) ys = ap (cons (value_of x)) (values_append xs ys)

values_snoc : (xs : Spellings) (x : Spelling) → values_of (snoc xs x) ≡ with_last (values_of xs) (value_of x)
values_snoc xs x = values_append xs (Cons x Nil)

abbrev image : List Frame → List Open
image [] = []
image (machine.At p done row left ∷ s) = values.At p (values_of done) (values_of row) left ∷ image s

abbrev pub image_of : Option (List Frame) → Option (List Open)
image_of None = None
image_of (Some s) = Some (image s)

abbrev progress : machine.Progress → values.Progress
progress (machine.Moved s) = values.Moved (image s)
progress (machine.Finished kids) = values.Finished (values_of kids)
progress machine.Stuck = values.Stuck

token_image : (b : Bool) (p : Production) (done : Spellings) (t : Token) (left : List Symbol) (s : List Frame) → image_of (machine.at_token b p done t left s) ≡ values.at_token b p (values_of done) t left (image s)
token_image true p done t left s = ap (λ z. Some (values.At p z nil left ∷ image s)) (values_snoc done (Leaf t))
token_image false p done t left s = refl

first_image : (ss : List Symbol) (p : Production) (t : Token) (s : List Frame) → image_of (machine.first_token ss p t s) ≡ values.first_token ss p t (image s)
first_image [] p t s = refl
first_image (Tok k ∷ left) p t s = token_image (takes k (class_of t)) p Nil t left s
first_image (One n ∷ left) p t s = refl
first_image (Many n ∷ left) p t s = refl
first_image (Maybe n ∷ left) p t s = refl

enter_image : (p : Production) (t : Token) (s : List Frame) → image_of (machine.enter p t s) ≡ values.enter p t (image s)
unfolding machine.enter values.enter
enter_image p t s = first_image (rhs p) p t s

moved_image : (o : Option (List Frame)) → progress (machine.moved o) ≡ values.moved (image_of o)
moved_image None = refl
moved_image (Some s) = refl

choose_image : (o : Option Production) (t : Token) (s : List Frame) (r : machine.Progress) (r' : values.Progress) → progress r ≡ r' → progress (machine.choose o t s r) ≡ values.choose o t (image s) r'
choose_image None t s r r' h = h
choose_image (Some q) t s r r' h = moved_image (machine.enter q t s) ∙ ap values.moved (enter_image q t s)

begin_image : (left : List Symbol) (t : Token) (p : Production) (done : Spellings) (s : List Frame) → progress (machine.begin t p done left s) ≡ values.begin t p (values_of done) left (image s)
begin_image [] t p done s = refl
begin_image (Tok k ∷ left) t p done s = moved_image (machine.at_token (takes k (class_of t)) p done t left s) ∙ ap values.moved (token_image (takes k (class_of t)) p done t left s)
begin_image (One n ∷ left) t p done s = choose_image (opening n (class_of t)) t (machine.At p done Nil (One n ∷ left) ∷ s) machine.Stuck values.Stuck refl
begin_image (Many n ∷ left) t p done s =
    choose_image (opening n (class_of t)) t (machine.At p done Nil (Many n ∷ left) ∷ s) (machine.begin t p (snoc done (Row Nil)) left s) (values.begin t p (with_last (values_of done) (Values nil)) left (image s)) (begin_image left t p (snoc done (Row Nil)) s ∙ ap (λ z. values.begin t p z left (image s)) (values_snoc done (Row Nil)))
begin_image (Maybe n ∷ left) t p done s =
    choose_image (opening n (class_of t)) t (machine.At p done Nil (Maybe n ∷ left) ∷ s) (machine.begin t p (snoc done (Row Nil)) left s) (values.begin t p (with_last (values_of done) (Values nil)) left (image s)) (begin_image left t p (snoc done (Row Nil)) s ∙ ap (λ z. values.begin t p z left (image s)) (values_snoc done (Row Nil)))

unfinished_image : (r : machine.Progress) → progress (machine.unfinished r) ≡ values.unfinished (progress r)
unfinished_image (machine.Moved s) = refl
unfinished_image (machine.Finished kids) = refl
unfinished_image machine.Stuck = refl

so_image : (b : Bool) (r : machine.Progress) → progress (machine.where_so b r) ≡ values.where_so b (progress r)
so_image true r = refl
so_image false r = refl

wraps_image : (ss : List Symbol) (q : Production) (c : Category) (x : Spelling) (t : Token) (s : List Frame) → progress (machine.wraps ss q c x t s) ≡ values.wraps ss q c (value_of x) t (image s)
wraps_image [] q c x t s = refl
wraps_image (Tok k ∷ left) q c x t s = refl
wraps_image (One m ∷ left) q c x t s =
    so_image (accepts c m) (machine.unfinished (machine.begin t q (Cons x Nil) left s)) ∙ ap (values.where_so (accepts c m)) (unfinished_image (machine.begin t q (Cons x Nil) left s) ∙ ap values.unfinished (begin_image left t q (Cons x Nil) s))
wraps_image (Many n ∷ left) q c x t s = refl
wraps_image (Maybe n ∷ left) q c x t s = refl

wrapped_image : (o : Option Production) (n : Part) (c : Category) (x : Spelling) (t : Token) (s : List Frame) (r : machine.Progress) (r' : values.Progress) → progress r ≡ r' → progress (machine.wrapped o n c x t s r) ≡ values.wrapped o n c (value_of x) t (image s) r'
wrapped_image (Some q) n c x t s r r' h = wraps_image (rhs q) q c x t s
wrapped_image None n c x t s r r' h = so_image (accepts c n) r ∙ ap (values.where_so (accepts c n)) h

placed_image : (left : List Symbol) (c : Category) (x : Spelling) (t : Token) (q : Production) (done row : Spellings) (s : List Frame) → progress (machine.placed c x t q done row left s) ≡ values.placed c (value_of x) t q (values_of done) (values_of row) left (image s)
placed_image [] c x t q done row s = refl
placed_image (Tok k ∷ left) c x t q done row s = refl
placed_image (One n ∷ left) c x t q done row s =
    wrapped_image (announced c n (class_of t)) n c x t (machine.At q done row (One n ∷ left) ∷ s) (machine.begin t q (snoc done x) left s) (values.begin t q (with_last (values_of done) (value_of x)) left (image s)) (begin_image left t q (snoc done x) s ∙ ap (λ z. values.begin t q z left (image s)) (values_snoc done x))
placed_image (Many n ∷ left) c x t q done row s =
    let o : Option Production = opening n (class_of t) in
    wrapped_image (announced c n (class_of t)) n c x t (machine.At q done row (Many n ∷ left) ∷ s) (machine.choose o t (machine.At q done (snoc row x) (Many n ∷ left) ∷ s) (machine.begin t q (snoc done (Row (snoc row x))) left s)) (values.choose o t (values.At q (values_of done) (with_last (values_of row) (value_of x)) (Many n ∷ left) ∷ image s) (values.begin t q (with_last (values_of done) (Values (with_last (values_of row) (value_of x)))) left (image s))) (choose_image o t (machine.At q done (snoc row x) (Many n ∷ left) ∷ s) (machine.begin t q (snoc done (Row (snoc row x))) left s) (values.begin t q (with_last (values_of done) (Values (values_of (snoc row x)))) left (image s)) (begin_image left t q (snoc done (Row (snoc row x))) s ∙ ap (λ z. values.begin t q z left (image s)) (values_snoc done (Row (snoc row x)))) ∙ ap (λ z. values.choose o t (values.At q (values_of done) z (Many n ∷ left) ∷ image s) (values.begin t q (with_last (values_of done) (Values z)) left (image s))) (values_snoc row x))
placed_image (Maybe n ∷ left) c x t q done row s =
    wrapped_image (announced c n (class_of t)) n c x t (machine.At q done row (Maybe n ∷ left) ∷ s) (machine.begin t q (snoc done (Row (Cons x Nil))) left s) (values.begin t q (with_last (values_of done) (Values (cons (value_of x) nil))) left (image s)) (begin_image left t q (snoc done (Row (Cons x Nil))) s ∙ ap (λ z. values.begin t q z left (image s)) (values_snoc done (Row (Cons x Nil))))

closed_image : (r : machine.Progress) (f : Spellings → Option (List Frame)) (g : ValueList → Option (List Open)) → ((kids : Spellings) → image_of (f kids) ≡ g (values_of kids)) → image_of (machine.closed r f) ≡ values.closed (progress r) g
closed_image (machine.Moved s) f g h = refl
closed_image (machine.Finished kids) f g h = h kids
closed_image machine.Stuck f g h = refl

give_image : (s : List Frame) (p : Production) (kids : Spellings) (t : Token) → image_of (machine.give p kids t s) ≡ values.give p (values_of kids) t (image s)
give_image [] p kids t = refl
give_image (machine.At q done row left ∷ s) p kids t =
    closed_image (machine.placed (category p kids) (Node p kids) t q done row left s) (λ all. machine.give q all t s) (λ all. values.give q all t (image s)) (λ all. give_image s q all t) ∙ ap (λ z. values.closed z (λ all. values.give q all t (image s))) (placed_image left (category p kids) (Node p kids) t q done row s ∙ ap (λ c. values.placed c (made p (values_of kids)) t q (values_of done) (values_of row) left (image s)) (category_same p kids))

step_image : (s : List Frame) (t : Token) → image_of (machine.step s t) ≡ values.step (image s) t
unfolding machine.step values.step
step_image [] t = refl
step_image (machine.At p done (Cons x xs) left ∷ s) t = refl
step_image (machine.At p done Nil left ∷ s) t =
    closed_image (machine.begin t p done left s) (λ all. machine.give p all t s) (λ all. values.give p all t (image s)) (λ all. give_image s p all t) ∙ ap (λ z. values.closed z (λ all. values.give p all t (image s))) (begin_image left t p done s)

run_image : (ts : List Token) (s : List Frame) → image_of (machine.run ts s) ≡ values.run ts (image s)
unfolding machine.then_run values.then_run
run_image [] s = refl
run_image (t ∷ ts) s = on (machine.step s t) (λ s'. run_image ts s') ∙ ap (λ o. values.then_run o (values.run ts)) (step_image s t)
  where
    on : (o : Option (List Frame)) → ((s' : List Frame) → image_of (machine.run ts s') ≡ values.run ts (image s')) → image_of (machine.then_run o (machine.run ts)) ≡ values.then_run (image_of o) (values.run ts)
    on None h = refl
    on (Some s') h = h s'

-- the values of what is read
pub values_are_read : (ts : List Token) → values.run ts values.start ≡ image_of (machine.run ts machine.start)
values_are_read ts = sym (run_image ts machine.start)

later_same : (b : Bool) (x : Spelling) → later b x ≡ later_in b (value_of x)
later_same true x = operators_same x
later_same false x = refl

past_same : (w : Walk) (x : Spelling) → past w x ≡ past_value w (value_of x)
past_same w x = ap (λ z. moved_on z (stars x)) (later_same w.carries x) ∙ ap (λ z. moved_on (later_in w.carries (value_of x)) z) (stars_same x)
  where
    moved_on : ℕ → ℕ → Walk
    moved_on a b = record { so_far = record { rest = w.so_far.rest + a; declarator = w.so_far.declarator + b; cast = w.so_far.cast }; carries = w.then'; then' = w.then'; counts = other_counts w.counts; hands = other_hands w.hands }

past_all_same : (xs : Spellings) (w : Walk) → past_all w xs ≡ past_values w (values_of xs)
past_all_same Nil w = refl
past_all_same (Cons x xs) w = past_all_same xs (past w x) ∙ ap (λ z. past_values z (values_of xs)) (past_same w x)

past_items_same : (xs : Spellings) (c : Context) → past_items c xs ≡ past_row c (values_of xs)
past_items_same Nil c = refl
past_items_same (Cons x xs) c = past_items_same xs (past_item c x) ∙ ap (λ z. past_row (record { rest = c.rest; declarator = c.declarator + z; cast = c.cast }) (values_of xs)) (stars_same x)

context_same : (s : List Frame) → context s ≡ context_of (image s)
context_same [] = refl
context_same (machine.At p done row left ∷ s) =
    past_items_same row (place (past_all (walk p (context s)) done)) ∙ ap (λ z. past_row (place z) (values_of row)) (past_all_same done (walk p (context s)) ∙ ap (λ c. past_values (walk p c) (values_of done)) (context_same s))

last_depth_same : (x : Spelling) (xs : Spellings) (w : Walk) → last_depth w (Cons x xs) ≡ last_depth_of w (values_of (Cons x xs))
last_depth_same x Nil w = refl
last_depth_same x (Cons y ys) w = last_depth_same y ys (past w x) ∙ ap (λ z. last_depth_of z (values_of (Cons y ys))) (past_same w x)

last_of_all : (xs : Spellings) (w : Walk) → last_depth w xs ≡ last_depth_of w (values_of xs)
last_of_all Nil w = refl
last_of_all (Cons x xs) w = last_depth_same x xs w

depth_same : (s : List Frame) → top_depth s ≡ depth_of (image s)
depth_same [] = refl
depth_same (machine.At p done row left ∷ s) = last_of_all done (walk p (context s)) ∙ ap (λ c. last_depth_of (walk p c) (values_of done)) (context_same s)

-- from a run on values to one on spellings
record Behind (ts : List Token) (s : List Open) : Type 0 where
  frames : List Frame
  is_run : machine.run ts machine.start ≡ Some frames
  is_image : image frames ≡ s

behind : (ts : List Token) (s : List Open) → values.run ts values.start ≡ Some s → Behind ts s
behind ts s e = on (machine.run ts machine.start) refl (sym (values_are_read ts) ∙ e)
  where
    on : (o : Option (List Frame)) → machine.run ts machine.start ≡ o → image_of o ≡ Some s → Behind ts s
    on None f h = cc (h)
    on (Some r) f h = record { frames = r; is_run = f; is_image = same h }
      where
        same : {a b : List Open} → Some a ≡ Some b → a ≡ b
        same h = cc (h)

no_run : (ts : List Token) → values.run ts values.start ≡ None → machine.run ts machine.start ≡ None
no_run ts e = on (machine.run ts machine.start) (sym (values_are_read ts) ∙ e)
  where
    on : (o : Option (List Frame)) → image_of o ≡ None → o ≡ None
    on None h = refl
    on (Some r) h = cc (h)

-- the first token that the machine on values refuses
pub refused : (ts : List Token) (k : ℕ) (s : List Open) → values.run (take k ts) values.start ≡ Some s → values.run (take (suc k) ts) values.start ≡ None → IsFirstBad ts k
refused ts k s e n = let b = behind (take k ts) s e in first_bad ts k b.frames b.is_run (no_run (take (suc k) ts) n)

pub counted_deep : (ts : List Token) (k : ℕ) (s : List Open) → k < length ts → values.run (take (suc k) ts) values.start ≡ Some s → 256 < depth_of s → IsDeepAt ts k
counted_deep ts k s lt e h =
    let b = behind (take (suc k) ts) s e in
    deep_at ts k b.frames lt b.is_run (subst (λ z. 256 < z) (sym (depth_same b.frames ∙ ap depth_of b.is_image)) h)

pub counted_shallow : (ts : List Token) (k : ℕ) (s : List Open) → k < length ts → values.run (take (suc k) ts) values.start ≡ Some s → depth_of s ≤ 256 → IsDeepAt ts k → ⊥
counted_shallow ts k s lt e h =
    let b = behind (take (suc k) ts) s e in
    shallow_at ts k b.frames lt b.is_run (subst (λ z. z ≤ 256) (sym (depth_same b.frames ∙ ap depth_of b.is_image)) h)

-- a whole text
record Ended (s : List Frame) (vs : ValueList) : Type 0 where
  kids : Spellings
  is_whole : s ≡ machine.whole kids
  values_are : values_of kids ≡ vs

row_nil : (row : Spellings) → values_of row ≡ nil → row ≡ Nil
row_nil Nil h = refl
row_nil (Cons x xs) h = cc (h)

ended : (s : List Frame) (vs : ValueList) → image s ≡ values.whole vs → Ended s vs
ended [] vs h = cc (h)
ended (machine.At p done row left ∷ []) vs h =
    record { kids = done; is_whole = ap (λ z. machine.At z done row left ∷ []) (production h) ∙ ap (λ z. machine.At Whole done z left ∷ []) (row_nil row (the_row h)) ∙ ap (λ z. machine.At Whole done Nil z ∷ []) (places h); values_are = parts h }
  where
    production : values.At p (values_of done) (values_of row) left ∷ [] ≡ values.At Whole vs nil [] ∷ [] → p ≡ Whole
    production h = cc (h)

    the_row : values.At p (values_of done) (values_of row) left ∷ [] ≡ values.At Whole vs nil [] ∷ [] → values_of row ≡ nil
    the_row h = cc (h)

    places : values.At p (values_of done) (values_of row) left ∷ [] ≡ values.At Whole vs nil [] ∷ [] → left ≡ []
    places h = cc (h)

    parts : values.At p (values_of done) (values_of row) left ∷ [] ≡ values.At Whole vs nil [] ∷ [] → values_of done ≡ vs
    parts h = cc (h)
ended (machine.At p done row left ∷ machine.At q parts others rest ∷ s) vs h = cc (h)

pub read_whole : (ts : List Token) (vs : ValueList) → values.run ts values.start ≡ Some (values.whole vs) → Spells ts (tree_of vs)
read_whole ts vs e =
    let b = behind ts (values.whole vs) e in
    let n = ended b.frames vs b.is_image in
    let r = b.is_run ∙ ap Some n.is_whole in
    record { spelt = record { kids = n.kids; fits = whole_fits ts n.kids r; tokens_are = whole_tokens ts n.kids r }; tree_is = ap tree_of (sym n.values_are) ∙ sym (tree_same n.kids) }

-- what is spelled is read with its values
pub spelled_values : (ts : List Token) (tree : CUnit) → Spells ts tree → (vs : ValueList) × (values.run ts values.start ≡ Some (values.whole vs)) × (tree ≡ tree_of vs)
spelled_values ts tree sp = (values_of sp.spelt.kids, values_are_read ts ∙ ap image_of (spelled_is_read ts sp.spelt), sp.tree_is ∙ tree_same sp.spelt.kids)
