-- Names are gone through in the order in which they are reached, and in the end they are all that are reached.
use Rattle.std.proofs.Common.{◌≡◌, ◌≤◌, ◌<◌, ◌+◌, ◌-◌, ℕ, zero, suc, Bool, true, false, ◌||◌, List, [], ◌∷◌, ◌++◌, length, take, get_or, Some, None, refl, sym, ap, subst, ◌∙◌, arith, if◌then◌else◌}
use Rattle.std.specs.List.{list_any}
use Rattle.std.specs.Str.{bytes_eq}
use Rattle.std.specs.Cmp.Lexicographic.{bytes_decides}
use Rattle.std.proofs.lemmas.List.{take_all, length-append}
use Rattle.c_syntax.specs.Plain as plain
use Rattle.c_syntax.specs.Plain.{CItem}
use Rattle.c_types.specs.Scope.{contains}
use Rattle.c_types.specs.Units.{defined_in}
use Rattle.c_helpers.specs.Fewer.{body_names}
use Rattle.c_helpers.specs.Simple.{next_reached, reached_in, reached}
use Rattle.c_helpers.specs.Names.{stmt_names}
use Rattle.c_reached.specs.Reaching.{with_all, seeds_of, Reaching, AllGone}
use Rattle.c_reached.proofs.SetLemmas.{false_true, or_left, or_right, or_either, both_ways, own_first, kept_in, in_kept, any_named, named_any, few, all_once, all_in, all_new, all_only, all_front}

-- ---- rounds

commute : (n : ℕ) (items : List CItem) (names : List (List ℕ)) → reached_in (suc n) items names ≡ next_reached items (reached_in n items names)
commute zero items names = refl
commute (suc n) items names = commute n items (next_reached items names)

next_defined : (items : List CItem) (names : List (List ℕ)) (f : List ℕ) → contains (next_reached items names) f ≡ true → contains (defined_in items) f ≡ true
next_defined items names f h = (in_kept (λ f. contains names f || list_any (λ g. contains (body_names items g) f) names) (defined_in items) f h).0

next_kept : (items : List CItem) (names : List (List ℕ)) (f : List ℕ) → contains names f ≡ true → contains (defined_in items) f ≡ true → contains (next_reached items names) f ≡ true
next_kept items names f h d = kept_in (λ f. contains names f || list_any (λ g. contains (body_names items g) f) names) (defined_in items) f d (or_left (contains names f) (list_any (λ g. contains (body_names items g) f) names) h)

next_named : (items : List CItem) (names : List (List ℕ)) (g f : List ℕ) → contains names g ≡ true → contains (body_names items g) f ≡ true → contains (defined_in items) f ≡ true → contains (next_reached items names) f ≡ true
next_named items names g f h k d =
    kept_in (λ f. contains names f || list_any (λ g. contains (body_names items g) f) names) (defined_in items) f d
    (or_right (contains names f) (list_any (λ g. contains (body_names items g) f) names) (named_any (body_names items) f names g h k))

next_only : {C : Type 0} (items : List CItem) (names : List (List ℕ)) (f : List ℕ) → contains (next_reached items names) f ≡ true
    → (contains names f ≡ true → C) → ((g : List ℕ) → contains names g ≡ true → contains (body_names items g) f ≡ true → C) → C
next_only items names f h old new =
    let k = (in_kept (λ f. contains names f || list_any (λ g. contains (body_names items g) f) names) (defined_in items) f h).1 in
    or_either (contains names f) (list_any (λ g. contains (body_names items g) f) names) k old
    (λ m. let r = any_named (body_names items) f names m in new r.0 r.1 r.2)

-- those of a round, the first one of some names
abbrev round : List CItem → List (List ℕ) → ℕ → List (List ℕ)
round items seeds n = reached_in n items (next_reached items seeds)

round_defined : (items : List CItem) (seeds : List (List ℕ)) (n : ℕ) (f : List ℕ) → contains (round items seeds n) f ≡ true → contains (defined_in items) f ≡ true
round_defined items seeds zero f h = next_defined items seeds f h
round_defined items seeds (suc n) f h = next_defined items (round items seeds n) f (ap (λ (l : List (List ℕ)). contains l f) (sym (commute n items (next_reached items seeds))) ∙ h)

round_more : (items : List CItem) (seeds : List (List ℕ)) (n : ℕ) (f : List ℕ) → contains (round items seeds n) f ≡ true → contains (round items seeds (suc n)) f ≡ true
round_more items seeds n f h = ap (λ (l : List (List ℕ)). contains l f) (commute n items (next_reached items seeds)) ∙ next_kept items (round items seeds n) f h (round_defined items seeds n f h)

round_by : (items : List CItem) (seeds : List (List ℕ)) (n k m : ℕ) (f : List ℕ) → m ≡ n + k → contains (round items seeds n) f ≡ true → contains (round items seeds m) f ≡ true
round_by items seeds n zero m f e h = let q : n ≡ m = omega (arith, e) in subst (λ (x : ℕ). contains (round items seeds x) f ≡ true) q h
round_by items seeds n (suc k) m f e h =
    let q : suc (n + k) ≡ m = omega (arith, e) in
    subst (λ (x : ℕ). contains (round items seeds x) f ≡ true) q (round_more items seeds (n + k) f (round_by items seeds n k (n + k) f refl h))

round_at_most : (items : List CItem) (seeds : List (List ℕ)) (n m : ℕ) (f : List ℕ) → n ≤ m → contains (round items seeds n) f ≡ true → contains (round items seeds m) f ≡ true
round_at_most items seeds n m f h k = round_by items seeds n (m - n) m f (omega (arith, h)) k

body_here : (items : List CItem) (name g f : List ℕ) (names : List (List ℕ)) → (contains (body_names items g) f ≡ true → contains (defined_in items) g ≡ true) → (b : Bool) → bytes_eq g name ≡ b
    → contains (if b then names else body_names items g) f ≡ true → (bytes_eq g name || contains (defined_in items) g) ≡ true
body_here items name g f names more true e m = or_left (bytes_eq g name) (contains (defined_in items) g) e
body_here items name g f names more false e m = or_right (bytes_eq g name) (contains (defined_in items) g) (more m)

-- what a function names that has no body
body_defined : (items : List CItem) (g f : List ℕ) → contains (body_names items g) f ≡ true → contains (defined_in items) g ≡ true
body_defined [] g f h = absurd (false_true h)
body_defined (plain.Function name at result params (Some body) ∷ items) g f h = body_here items name g f (stmt_names body) (body_defined items g f) (bytes_eq g name) refl h
body_defined (plain.Function name at result params None ∷ items) g f h = body_defined items g f h
body_defined (plain.StructItem tag ∷ items) g f h = body_defined items g f h
body_defined (plain.Object d ∷ items) g f h = body_defined items g f h

-- ---- going through them

take_front : (n : ℕ) (xs more : List (List ℕ)) → n ≤ length xs → take n (xs ++ more) ≡ take n xs
take_front zero xs more h = refl
take_front (suc n) [] more h = absurd (omega (arith, h))
take_front (suc n) (x ∷ xs) more h = ap (λ (l : List (List ℕ)). x ∷ l) (take_front n xs more (omega (arith, h)))

take_next : (n : ℕ) (xs : List (List ℕ)) → n < length xs → take (suc n) xs ≡ take n xs ++ get_or xs n [] ∷ []
take_next zero [] h = absurd (omega (arith, h))
take_next zero (x ∷ xs) h = refl
take_next (suc n) [] h = absurd (omega (arith, h))
take_next (suc n) (x ∷ xs) h = ap (λ (l : List (List ℕ)). x ∷ l) (take_next n xs (omega (arith, h)))

at_place : (n : ℕ) (xs : List (List ℕ)) → n < length xs → contains xs (get_or xs n []) ≡ true
at_place zero [] h = absurd (omega (arith, h))
at_place zero (x ∷ xs) h = own_first x xs
at_place (suc n) [] h = absurd (omega (arith, h))
at_place (suc n) (x ∷ xs) h = or_right (bytes_eq (get_or xs n []) x) (contains xs (get_or xs n [])) (at_place n xs (omega (arith, h)))

either_part : {C : Type 0} (xs : List (List ℕ)) (x g : List ℕ) → contains (xs ++ x ∷ []) g ≡ true → (contains xs g ≡ true → C) → (bytes_eq g x ≡ true → C) → C
either_part [] x g h old new = or_either (bytes_eq g x) false h new (λ f. absurd (false_true f))
either_part (y ∷ xs) x g h old new = or_either (bytes_eq g y) (contains (xs ++ x ∷ []) g) h (λ s. old (or_left (bytes_eq g y) (contains xs g) s)) (λ m. either_part xs x g m (λ k. old (or_right (bytes_eq g y) (contains xs g) k)) new)

-- none of them has been gone through yet
pub first_ones : (items : List CItem) (seeds : List (List ℕ)) (is : List ℕ → Bool) → ((f : List ℕ) → is f ≡ contains (defined_in items) f) → Reaching items seeds (with_all is [] seeds) 0
first_ones items seeds is same = record {
  once = all_once is [] seeds tt;
  defined = λ f h. all_only is [] seeds f h (λ n. absurd (false_true n)) (λ m p. sym (same f) ∙ p);
  sound = λ f h. all_only is [] seeds f h (λ n. absurd (false_true n)) (λ m p. next_kept items seeds f m (sym (same f) ∙ p));
  begun = λ f h d. all_new is [] seeds f h (same f ∙ d);
  closed = λ g f h k d. absurd (false_true h);
  within = omega arith;
}

longer : (known more new : List (List ℕ)) (place : ℕ) → new ≡ known ++ more → place < length known → suc place ≤ length new
longer known more new place e h = let n = ap length e ∙ length-append known more in omega (arith, h, n)

-- one of them is gone through
pub one_gone : (items : List CItem) (seeds known : List (List ℕ)) (place : ℕ) (is : List ℕ → Bool) → ((f : List ℕ) → is f ≡ contains (defined_in items) f) → place < length known
    → Reaching items seeds known place → Reaching items seeds (with_all is known (body_names items (get_or known place []))) (suc place)
one_gone items seeds known place is same h r =
    let g = get_or known place [] in
    let names = body_names items g in
    let new = with_all is known names in
    let front = all_front is known names in
    let more = front.0 in
    let there = at_place place known h in
    let seen : take (suc place) new ≡ take place known ++ g ∷ [] = ap (take (suc place)) front.1 ∙ (take_front (suc place) known more (omega (arith, h)) ∙ take_next place known h) in
    record {
      once = all_once is known names r.once;
      defined = λ f k. all_only is known names f k (r.defined f) (λ m p. sym (same f) ∙ p);
      sound = λ f k. all_only is known names f k
          (λ m. round_more items seeds place f (r.sound f m))
          (λ m p. ap (λ (l : List (List ℕ)). contains l f) (commute place items (next_reached items seeds)) ∙ next_named items (reached_in place items (next_reached items seeds)) g f (r.sound g there) m (sym (same f) ∙ p));
      begun = λ f k d. all_in is known names f (r.begun f k d);
      closed = λ a f k m d. either_part (take place known) g a (sym (ap (λ (l : List (List ℕ)). contains l a) seen) ∙ k)
          (λ old. all_in is known names f (r.closed a f old m d))
          (λ s. all_new is known names f (ap (λ (z : List ℕ). contains (body_names items z) f) (sym ((bytes_decides a g).0 s)) ∙ m) (same f ∙ d));
      within = longer known more new place front.1 h;
    }

gone_closed : (items : List CItem) (seeds known : List (List ℕ)) (place : ℕ) → length known ≤ place → Reaching items seeds known place
    → (g f : List ℕ) → contains known g ≡ true → contains (body_names items g) f ≡ true → contains (defined_in items) f ≡ true → contains known f ≡ true
gone_closed items seeds known place past r g f h k d = r.closed g f (ap (λ (l : List (List ℕ)). contains l g) (take_all place known past) ∙ h) k d

back : (items : List CItem) (seeds known : List (List ℕ)) (place : ℕ) → length known ≤ place → Reaching items seeds known place → (n : ℕ) (f : List ℕ) → contains (round items seeds n) f ≡ true → contains known f ≡ true
back items seeds known place past r zero f h =
    let d = next_defined items seeds f h in
    next_only items seeds f h (λ s. r.begun f s d) (λ g s k. gone_closed items seeds known place past r g f (r.begun g s (body_defined items g f k)) k d)
back items seeds known place past r (suc n) f h =
    let m = ap (λ (l : List (List ℕ)). contains l f) (sym (commute n items (next_reached items seeds))) ∙ h in
    let d = next_defined items (reached_in n items (next_reached items seeds)) f m in
    next_only items (reached_in n items (next_reached items seeds)) f m (back items seeds known place past r n f) (λ g s k. gone_closed items seeds known place past r g f (back items seeds known place past r n g s) k d)

-- all of them are gone through
pub all_gone : (items : List CItem) (known : List (List ℕ)) (place : ℕ) → length known ≤ place → Reaching items (seeds_of items) known place → (f : List ℕ) → contains known f ≡ contains (reached items) f
all_gone items known place past r = λ f.
    let n = few known (defined_in items) r.once r.defined in
    let within = r.within in
    both_ways (contains known f) (contains (reached items) f)
    (λ h. round_at_most items (seeds_of items) place (length (defined_in items)) f (omega (arith, n, within)) (r.sound f h))
    (back items (seeds_of items) known place past r (length (defined_in items)) f)

pub gone_reached : (items : List CItem) (known : List (List ℕ)) → AllGone items (seeds_of items) known → (f : List ℕ) → contains known f ≡ contains (reached items) f
gone_reached items known g = all_gone items known g.place g.past g.reaching
