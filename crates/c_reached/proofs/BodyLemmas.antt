-- Tables of bodies.
use Rattle.std.proofs.Common.{◌≡◌, ◌≤◌, ◌<◌, ◌+◌, ℕ, suc, Bool, true, false, ◌||◌, List, [], ◌∷◌, length, map, drop, get_or, Option, Some, None, refl, sym, ap, ◌∙◌, drop-cons, add-one, if◌then◌else◌}
use Rattle.std.specs.Prelude.{is_some}
use Rattle.std.specs.Option.{option_or}
use Rattle.std.specs.Map.{lookup}
use Rattle.std.specs.Str.{bytes_eq}
use Rattle.std.specs.Cmp.Lexicographic.{bytes_decides}
use Rattle.std.proofs.lemmas.List.{drop_all}
use Rattle.ordered.specs.Order.{insert_entry}
use denote.Ref.{Bor}
use Rattle.c_syntax.specs.Plain as plain
use Rattle.c_syntax.specs.Plain.{CStmt, CItem}
use Rattle.c_syntax.specs.View.{item_of, stmt_of}
use Rattle.c_syntax.specs.declared.tree.Stmt.{Stmt}
use Rattle.c_syntax.specs.declared.tree.Item.{Item}
use Rattle.c_types.specs.Scope.{contains}
use Rattle.c_types.specs.Units.{defined_in}
use Rattle.c_helpers.specs.Fewer.{body_names}
use Rattle.c_tree_names.specs.Items.{names_of_body}
use Rattle.c_reached.specs.Bodies.{plain_body, body_in, named_body, own_body, body_of, IsPut, Stands}
use Rattle.c_reached.proofs.SetLemmas.{false_true}

or_none : (o : Option CStmt) → o ≡ option_or o None
or_none None = refl
or_none (Some s) = refl

or_three : (a b c : Option CStmt) → option_or (option_or a b) c ≡ option_or a (option_or b c)
or_three None b c = refl
or_three (Some s) b c = refl

-- nothing is put
pub none_put : (old : List (Bor (List ℕ) × Bor Stmt)) → IsPut old old (λ name. None)
none_put old = λ name. or_none (body_in old name)

-- a name that has a body keeps it
pub kept_put : (old : List (Bor (List ℕ) × Bor Stmt)) (f : List ℕ) (body : CStmt) → is_some (body_in old f) ≡ true → IsPut old old (named_body f body)
kept_put old f body h = λ name. by name (bytes_eq name f) refl where
  there : (o : Option CStmt) (b : Option CStmt) → is_some o ≡ true → o ≡ option_or o b
  there (Some s) b e = refl
  there None b e = absurd (false_true e)

  by : (name : List ℕ) (t : Bool) → bytes_eq name f ≡ t → body_in old name ≡ option_or (body_in old name) (if t then Some body else None)
  by name true e = there (body_in old name) (Some body) (ap (λ (z : List ℕ). is_some (body_in old z)) ((bytes_decides name f).0 e) ∙ h)
  by name false e = or_none (body_in old name)

abbrev is_key : Bor (List ℕ) → Bor (List ℕ) → Bool
is_key a b = bytes_eq a.now b.now

absent_step : (old : List (Bor (List ℕ) × Bor Stmt)) (k q : Bor (List ℕ)) (s v : Bor Stmt) → (b : Bool) → bytes_eq k.now q.now ≡ b → is_some (plain_body (if b then Some s else lookup (λ x. bytes_eq k.now x.now) old)) ≡ false
    → (b ≡ false) × (is_some (body_in old k.now) ≡ false)
absent_step old k q s v true e h = absurd (false_true (sym h))
absent_step old k q s v false e h = (refl, h)

-- one that has none gets it
pub new_put : (old : List (Bor (List ℕ) × Bor Stmt)) (f : Bor (List ℕ)) (v : Bor Stmt) → is_some (body_in old f.now) ≡ false → IsPut old (insert_entry is_key old f v) (named_body f.now (stmt_of v.now))
new_put [] f v h = λ name. by (bytes_eq name f.now) where
  by : (t : Bool) → plain_body (if t then Some v else None) ≡ (if t then Some (stmt_of v.now) else None)
  by true = refl
  by false = refl
new_put (e ∷ old) f v h = λ name.
    let a = absent_step old f e.0 e.1 v (bytes_eq f.now e.0.now) refl h in
    ap (λ (t : Bool). body_in (if t then (e.0, v) ∷ old else e ∷ insert_entry is_key old f v) name) a.0
    ∙ by name (bytes_eq name e.0.now) (new_put old f v a.1 name) where
      by : (name : List ℕ) (t : Bool) → body_in (insert_entry is_key old f v) name ≡ option_or (body_in old name) (named_body f.now (stmt_of v.now) name)
          → plain_body (if t then Some e.1 else lookup (λ k. bytes_eq name k.now) (insert_entry is_key old f v)) ≡ option_or (plain_body (if t then Some e.1 else lookup (λ k. bytes_eq name k.now) old)) (named_body f.now (stmt_of v.now) name)
      by name true more = refl
      by name false more = more

-- ---- a text

-- what is left of a list begins with the element that comes next
pub drop_at : {X : Type 0} (xs : List X) (i : ℕ) (x : X) → i < length xs → x ≡ get_or xs i x → drop i xs ≡ x ∷ drop (i + 1) xs
drop_at xs i x h e = rw (add-one, drop-cons xs i x) (ap (λ y. y ∷ drop (suc i) xs) (sym e))

-- the bodies so far, and those of the externals that are left
abbrev pub SoFar : List (Bor (List ℕ) × Bor Stmt) → List Item → List Item → Type 0
SoFar entries left items = (name : List ℕ) → option_or (body_in entries name) (body_of (map item_of left) name) ≡ body_of (map item_of items) name

pub none_yet : (entries : List (Bor (List ℕ) × Bor Stmt)) (items : List Item) → entries ≡ [] → SoFar entries items items
none_yet entries items e = λ name. ap (λ (l : List (Bor (List ℕ) × Bor Stmt)). option_or (body_in l name) (body_of (map item_of items) name)) e

pub one_more : (old new : List (Bor (List ℕ) × Bor Stmt)) (items : List Item) (i : ℕ) (x : Item) → IsPut old new (own_body (item_of x)) → drop i items ≡ x ∷ drop (i + 1) items → SoFar old (drop i items) items → SoFar new (drop (i + 1) items) items
one_more old new items i x put here h = λ name.
    let rest = body_of (map item_of (drop (i + 1) items)) name in
    ap (λ (o : Option CStmt). option_or o rest) (put name)
    ∙ (or_three (body_in old name) (own_body (item_of x) name) rest
    ∙ (sym (ap (λ (l : List Item). option_or (body_in old name) (body_of (map item_of l) name)) here) ∙ h name))

pub all_bodies : (entries : List (Bor (List ℕ) × Bor Stmt)) (items : List Item) (i : ℕ) → length items ≤ i → SoFar entries (drop i items) items → Stands entries (map item_of items)
all_bodies entries items i past h = λ name.
    or_none (body_in entries name) ∙ (sym (ap (λ (l : List Item). option_or (body_in entries name) (body_of (map item_of l) name)) (drop_all i items past)) ∙ h name)

-- ---- what a body tells

by_name : (f g : List ℕ) (body : CStmt) (o : Option CStmt) (rest : Bool) → is_some o ≡ rest → is_some (option_or (if bytes_eq g f then Some body else None) o) ≡ (bytes_eq g f || rest)
by_name f g body o rest e = by (bytes_eq g f) where
  by : (t : Bool) → is_some (option_or (if t then Some body else None) o) ≡ (t || rest)
  by true = refl
  by false = e

-- a function has a body where it is defined
pub body_is : (items : List CItem) (g : List ℕ) → is_some (body_of items g) ≡ contains (defined_in items) g
body_is [] g = refl
body_is (plain.Function name at result params (Some body) ∷ items) g = by_name name g body (body_of items g) (contains (defined_in items) g) (body_is items g)
body_is (plain.Function name at result params None ∷ items) g = body_is items g
body_is (plain.StructItem tag ∷ items) g = body_is items g
body_is (plain.Object d ∷ items) g = body_is items g

names_by : (f g : List ℕ) (body : CStmt) (o : Option CStmt) (rest : List (List ℕ)) → names_of_body o ≡ rest → names_of_body (option_or (if bytes_eq g f then Some body else None) o) ≡ (if bytes_eq g f then names_of_body (Some body) else rest)
names_by f g body o rest e = by (bytes_eq g f) where
  by : (t : Bool) → names_of_body (option_or (if t then Some body else None) o) ≡ (if t then names_of_body (Some body) else rest)
  by true = refl
  by false = e

-- and its names are those of the body
pub body_tells : (items : List CItem) (g : List ℕ) → names_of_body (body_of items g) ≡ body_names items g
body_tells [] g = refl
body_tells (plain.Function name at result params (Some body) ∷ items) g = names_by name g body (body_of items g) (body_names items g) (body_tells items g)
body_tells (plain.Function name at result params None ∷ items) g = body_tells items g
body_tells (plain.StructItem tag ∷ items) g = body_tells items g
body_tells (plain.Object d ∷ items) g = body_tells items g
