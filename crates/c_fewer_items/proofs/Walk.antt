-- Helper functions in front of a text, one after the other.
use Rattle.std.proofs.Common.{◌≡◌, ℕ, List, [], ◌∷◌, ◌++◌, Option, Some, None, Bool, true, false, refl, sym, ap, ap₂, ◌∙◌, subst, cond}
use Rattle.std.specs.Prelude.{◌||◌, not, map, is_some, Ok, codes, if◌then◌else◌}
use Rattle.std.specs.List.{find}
use Rattle.std.specs.Str.{bytes_eq}
use Rattle.std.proofs.lemmas.Bool.{and_parts}
use Rattle.std.proofs.lemmas.Slice.Eq.{bytes_eq-Decides}
use Rattle.c_syntax.specs.Plain as plain
use Rattle.c_syntax.specs.Plain.{CDecl, CItem}
use Rattle.c_syntax.specs.Words.{meaning}
use Rattle.c_types.specs.Types.{Int}
use Rattle.c_types.specs.Refusals.{Judged, both}
use Rattle.c_types.specs.Scope.{Names, Scope, Entity, Object, Routine, contains, built_in, built_ins}
use Rattle.c_types.specs.Declarations.{scope_or}
use Rattle.c_types.specs.Units.{entity_behind, item_judged, all_items}
use Rattle.c_eval.specs.Text.{Definition, definition_in, item_definitions, definitions}
use Rattle.c_helpers.specs.Functions.{Helper}
use Rattle.c_helpers.specs.Laws.{each}
use Rattle.c_helpers.specs.Names.{stmt_names}
use Rattle.c_helpers.specs.Fewer.{function_of}
use Rattle.c_helpers.specs.Simple.{kept}
use Rattle.c_fewer_types.specs.Stands.{head_type, function_type}
use Rattle.c_products.specs.MovesFound.{Parameter, declared_in, definition}
use Rattle.c_fewer_items.specs.FewerHeadsLaws.{all_functions, KnowsCalls, firsts, helper_items, file, names_behind, CallsAreDefined, FirstsAreTyped, FirstsAreKnown, OthersStay, IsOutside, IsFound, FirstsAreFound}
use Rattle.c_fewer_items.proofs.Typed.{block_from, Every, declared_typed, defined_typed, other}
use Rattle.c_fewer_items.proofs.Whole.{all_listed, checked_of}

-- the names outside a body
abbrev names_outside : (List ℕ → Bool) → Scope → Helper → Names
names_outside begun s g = (g.name, entity_behind (meaning s.block g.name) (function_type g) true) ∷ s.block ++ s.outer

-- ---- what each wants of those before it

abbrev Helpers : Type 0
Helpers = List (List ℕ × Helper)

-- what its body names stands before
abbrev calls_before : Helpers → Helper → Bool
calls_before done g = each (λ name. not (is_some (meaning all_functions name)) || is_some (meaning done name)) (stmt_names g.body)

abbrev Follows : Helpers → Helper → Type 0
Follows done g = (meaning done g.name ≡ None) × (meaning built_ins g.name ≡ None) × (meaning all_functions g.name ≡ Some g) × (calls_before done g ≡ true)

abbrev AllFollow : Helpers → List Helper → Type 0
AllFollow done [] = Unit {0}
AllFollow done (g ∷ gs) = Follows done g × AllFollow ((g.name, g) ∷ done) gs

all_follow : AllFollow [] firsts
all_follow = ((refl, refl, refl, refl), ((refl, refl, refl, refl), ((refl, refl, refl, refl), ((refl, refl, refl, refl), ((refl, refl, refl, refl), ((refl, refl, refl, refl), ((refl, refl, refl, refl), ((refl, refl, refl, refl), ((refl, refl, refl, refl), ((refl, refl, refl, refl), ((refl, refl, refl, refl), ((refl, refl, refl, refl), ((refl, refl, refl, refl), ((refl, refl, refl, refl), ((refl, refl, refl, refl), ((refl, refl, refl, refl), ((refl, refl, refl, refl), ((refl, refl, refl, refl), ((refl, refl, refl, refl), ((refl, refl, refl, refl), ((refl, refl, refl, refl), ((refl, refl, refl, refl), ((refl, refl, refl, refl), ((refl, refl, refl, refl), ((refl, refl, refl, refl), ((refl, refl, refl, refl), ((refl, refl, refl, refl), ((refl, refl, refl, refl), ((refl, refl, refl, refl), ((refl, refl, refl, refl), ((refl, refl, refl, refl), ((refl, refl, refl, refl), ((refl, refl, refl, refl), ((refl, refl, refl, refl), ((refl, refl, refl, refl), ((refl, refl, refl, refl), ((refl, refl, refl, refl), ((refl, refl, refl, refl), ((refl, refl, refl, refl), ((refl, refl, refl, refl), tt))))))))))))))))))))))))))))))))))))))))

each_is : (test : List ℕ → Bool) (xs : List (List ℕ)) (name : List ℕ) → each test xs ≡ true → contains xs name ≡ true → test name ≡ true
each_is test [] name e c = absurd (cc c)
each_is test (x ∷ xs) name e c = let k = and_parts (test x) (each test xs) e in go (bytes_eq name x) refl c (λ l. each_is test xs name k.1 l)
  where
    go : (b : Bool) → bytes_eq name x ≡ b → (b || contains xs name) ≡ true → (contains xs name ≡ true → test name ≡ true) → test name ≡ true
    go true l c more = ap test ((bytes_eq-Decides name x).0 l) ∙ (and_parts (test x) (each test xs) e).0
    go false l c more = more c

abbrev some_one : Helper → Option Helper
some_one g = Some g

some_is : (x y : Helper) → some_one x ≡ some_one y → x ≡ y
some_is x y e = cc e

-- those that are done behind more
abbrev done_behind : List Helper → Helpers → Helpers
done_behind [] done = done
done_behind (g ∷ gs) done = done_behind gs ((g.name, g) ∷ done)

found_all : (P : List ℕ → Helper → Type 0) (cs : Helpers) → Every (λ c. P c.0 c.1) cs → (name : List ℕ) (g : Helper) → meaning cs name ≡ Some g → P name g
found_all P [] h name g e = absurd (cc e)
found_all P (c ∷ cs) h name g e = go (bytes_eq name c.0) refl e (λ k. found_all P cs h.1 name g k)
  where
    go : (b : Bool) → bytes_eq name c.0 ≡ b → cond b (Some c.1) (meaning cs name) ≡ Some g → (meaning cs name ≡ Some g → P name g) → P name g
    go true k e more = subst (λ z. P z g) (sym ((bytes_eq-Decides name c.0).0 k)) (subst (λ z. P c.0 z) (some_is c.1 g e) h.0)
    go false k e more = more e

-- each is done in the end
all_done : Every (λ c. meaning (done_behind firsts []) c.0 ≡ Some c.1) all_functions
all_done = (refl, (refl, (refl, (refl, (refl, (refl, (refl, (refl, (refl, (refl, (refl, (refl, (refl, (refl, (refl, (refl, (refl, (refl, (refl, (refl, (refl, (refl, (refl, (refl, (refl, (refl, (refl, (refl, (refl, (refl, (refl, (refl, (refl, (refl, (refl, (refl, (refl, (refl, (refl, (refl, tt))))))))))))))))))))))))))))))))))))))))

done_of : (name : List ℕ) (g : Helper) → meaning all_functions name ≡ Some g → meaning (done_behind firsts []) name ≡ Some g
done_of name g e = found_all (λ name g. meaning (done_behind firsts []) name ≡ Some g) all_functions all_done name g e

-- and is among them
all_there : Every (λ c. contains (map (λ (g : Helper). g.name) firsts) c.0 ≡ true) all_functions
all_there = (refl, (refl, (refl, (refl, (refl, (refl, (refl, (refl, (refl, (refl, (refl, (refl, (refl, (refl, (refl, (refl, (refl, (refl, (refl, (refl, (refl, (refl, (refl, (refl, (refl, (refl, (refl, (refl, (refl, (refl, (refl, (refl, (refl, (refl, (refl, (refl, (refl, (refl, (refl, (refl, tt))))))))))))))))))))))))))))))))))))))))

there_of : (name : List ℕ) (g : Helper) → meaning all_functions name ≡ Some g → contains (map (λ (g : Helper). g.name) firsts) name ≡ true
there_of name g e = found_all (λ name g. contains (map (λ (g : Helper). g.name) firsts) name ≡ true) all_functions all_there name g e

heads_same : (ds : List CDecl) (block : Names) → block_from ds block ≡ declared_in (map (λ (d : CDecl). (d.name, head_type d.ty)) ds) block
heads_same [] block = refl
heads_same (d ∷ ds) block = heads_same ds ((d.name, Object (head_type d.ty)) ∷ block)

names_same : (ds : List CDecl) → map (λ (d : CDecl). d.name) ds ≡ map (λ (x : Parameter). x.0) (map (λ (d : CDecl). (d.name, head_type d.ty)) ds)
names_same [] = refl
names_same (d ∷ ds) = ap (λ xs. d.name ∷ xs) (names_same ds)

module _ (names defined : List (List ℕ)) where
  abbrev begun : List ℕ → Bool
  begun name = contains names name

  abbrev entity : Helper → Entity
  entity g = Routine (function_type g) (contains names g.name)

  -- what is done is known, and is a helper function; other names have the meaning that they always have
  record IsBehind (done : Helpers) (block : Names) : Type 0 where
    known : (name : List ℕ) (g : Helper) → meaning done name ≡ Some g → meaning block name ≡ Some (Routine (function_type g) (contains names name))
    listed : (name : List ℕ) (g : Helper) → meaning done name ≡ Some g → meaning all_functions name ≡ Some g
    others : (name : List ℕ) → meaning done name ≡ None → meaning block name ≡ meaning built_ins name

  behind_next : (done : Helpers) (block : Names) (g : Helper) → IsBehind done block → meaning all_functions g.name ≡ Some g → IsBehind ((g.name, g) ∷ done) ((g.name, entity g) ∷ block)
  behind_next done block g a l = record { known = λ name c e. known name c (bytes_eq name g.name) refl e; listed = λ name c e. listed name c (bytes_eq name g.name) refl e; others = λ name e. others name (bytes_eq name g.name) e }
    where
      known : (name : List ℕ) (c : Helper) (b : Bool) → bytes_eq name g.name ≡ b → cond b (Some g) (meaning done name) ≡ Some c → cond b (Some (entity g)) (meaning block name) ≡ Some (Routine (function_type c) (contains names name))
      known name c true k e =
          let same : g ≡ c = cc e in
          ap (λ z. Some (Routine (function_type g) (contains names z))) (sym ((bytes_eq-Decides name g.name).0 k)) ∙ ap (λ (z : Helper). Some (Routine (function_type z) (contains names name))) same
      known name c false k e = a.known name c e

      listed : (name : List ℕ) (c : Helper) (b : Bool) → bytes_eq name g.name ≡ b → cond b (Some g) (meaning done name) ≡ Some c → meaning all_functions name ≡ Some c
      listed name c true k e = ap (λ z. meaning all_functions z) ((bytes_eq-Decides name g.name).0 k) ∙ (l ∙ e)
      listed name c false k e = a.listed name c e

      others : (name : List ℕ) (b : Bool) → cond b (Some g) (meaning done name) ≡ None → cond b (Some (entity g)) (meaning block name) ≡ meaning built_ins name
      others name true e = absurd (cc e)
      others name false e = a.others name e

  begins : IsBehind [] built_ins
  begins = record { known = λ name g e. absurd (cc e); listed = λ name g e. absurd (cc e); others = λ name e. refl }

  behind_all : (gs : List Helper) (done : Helpers) (block : Names) → IsBehind done block → AllFollow done gs → IsBehind (done_behind gs done) (names_behind names gs block)
  behind_all [] done block a f = a
  behind_all (g ∷ gs) done block a f = behind_all gs ((g.name, g) ∷ done) ((g.name, entity g) ∷ block) (behind_next done block g a f.0.2) f.1

  in_the_end : IsBehind (done_behind firsts []) (names_behind names firsts built_ins)
  in_the_end = behind_all firsts [] built_ins begins all_follow

  -- those that are called are known
  called : (done : Helpers) (block : Names) (g c : Helper) (name : List ℕ) → IsBehind done block → calls_before done g ≡ true → meaning all_functions name ≡ Some c → contains (stmt_names g.body) name ≡ true → meaning block name ≡ Some (Routine (function_type c) (contains names name))
  called done block g c name a f e m = go (meaning done name) refl (each_is (λ name. not (is_some (meaning all_functions name)) || is_some (meaning done name)) (stmt_names g.body) name f m)
    where
      go : (o : Option Helper) → meaning done name ≡ o → (not (is_some (meaning all_functions name)) || is_some o) ≡ true → meaning block name ≡ Some (Routine (function_type c) (contains names name))
      go None k h = absurd (cc (sym h ∙ ap (λ o. not (is_some o) || false) e))
      go (Some x) k h = let same : x ≡ c = some_is x c (sym (a.listed name x k) ∙ e) in a.known name x k ∙ ap (λ (z : Helper). Some (Routine (function_type z) (contains names name))) same

  module _ (closed : CallsAreDefined names defined) where
    abbrev there : Names → Scope
    there block = file defined block

    knows_calls : (done : Helpers) (block : Names) (g : Helper) → IsBehind done block → Follows done g → contains names g.name ≡ true → meaning block (codes "putchar") ≡ Some (built_in Int (Int ∷ [])) → KnowsCalls begun (there block) g
    knows_calls done block g a f k put = record {
      outer = refl;
      fresh = a.others g.name f.0 ∙ f.1;
      calls = λ name c e m. (called done block g c name a f.3 e m, closed g.name name g c f.2 k e m);
      put = put;
    }

    -- one after the other
    step : (done : Helpers) (block : Names) (g : Helper) → IsBehind done block → Follows done g → meaning block (codes "putchar") ≡ Some (built_in Int (Int ∷ [])) → item_judged (there block) (kept names (function_of g)) ≡ Ok (there ((g.name, entity g) ∷ block))
    step done block g a f put = go (contains names g.name) refl
      where
        go : (b : Bool) → contains names g.name ≡ b → item_judged (there block) (plain.Function g.name 0 g.result g.params (if b then Some g.body else None)) ≡ Ok (there ((g.name, Routine (function_type g) b) ∷ block))
        go true k = defined_typed begun (there block) g (knows_calls done block g a f k put) (checked_of g.name g f.2) all_listed
        go false k = declared_typed (there block) g (a.others g.name f.0 ∙ f.1) (checked_of g.name g f.2)

    abbrev told : Scope → Judged Scope
    told s = Ok s

    abbrev last : Scope → Scope → Judged Scope
    last x y = Ok y

    put_stays : (block : Names) (g : Helper) → meaning built_ins g.name ≡ None → meaning block (codes "putchar") ≡ Some (built_in Int (Int ∷ [])) → meaning ((g.name, entity g) ∷ block) (codes "putchar") ≡ Some (built_in Int (Int ∷ []))
    put_stays block g n put = go (bytes_eq (codes "putchar") g.name) refl
      where
        go : (b : Bool) → bytes_eq (codes "putchar") g.name ≡ b → cond b (Some (entity g)) (meaning block (codes "putchar")) ≡ Some (built_in Int (Int ∷ []))
        go true e = absurd (cc (sym n ∙ ap (λ z. meaning built_ins z) (sym ((bytes_eq-Decides (codes "putchar") g.name).0 e))))
        go false e = put

    walk : (gs : List Helper) (done : Helpers) (block : Names) → IsBehind done block → AllFollow done gs → meaning block (codes "putchar") ≡ Some (built_in Int (Int ∷ [])) → all_items (there block) (helper_items names gs) ≡ Ok (there (names_behind names gs block))
    walk [] done block a f put = refl
    walk (g ∷ gs) done block a f put =
        let item : CItem = kept names (function_of g) in
        let next : Names = (g.name, entity g) ∷ block in
        let s = step done block g a f.0 put in
        let m = walk gs ((g.name, g) ∷ done) next (behind_next done block g a f.0.2) f.1 (put_stays block g f.0.1 put) in
        ap (λ q. both q (all_items (scope_or (there block) q) (helper_items names gs)) last) s ∙ ap (λ q. both {A = Scope} {B = Scope} (told (there next)) q last) m

    -- ---- the one that has a name

    abbrev is_named : List ℕ → Definition → Bool
    is_named name f = bytes_eq name f.name

    -- its definition, where it is kept
    definition_is : (block : Names) (g : Helper) → meaning all_functions g.name ≡ Some g → item_definitions (there block) (function_of g) ≡ definition (head_type g.result) (map (λ (d : CDecl). (d.name, head_type d.ty)) g.params) g [] (names_outside begun (there block) g) defined ∷ []
    definition_is block g e =
        ap (λ q. definition_in (there block) g.name g.params g.body q) ((checked_of g.name g e).head (there block))
        ∙ ap₂ (λ ps xs. record { name = g.name; result = head_type g.result; params = ps; scope = record { tags = []; block = xs; outer = names_outside begun (there block) g; defined = defined }; body = g.body } ∷ []) (names_same g.params) (heads_same g.params [])

    outside_of : (done : Helpers) (block : Names) (g : Helper) (a : IsBehind done block) (f : Follows done g) (k : contains names g.name ≡ true) (put : meaning block (codes "putchar") ≡ Some (built_in Int (Int ∷ []))) → IsOutside names g (names_outside begun (there block) g)
    outside_of done block g a f k put =
        let c = knows_calls done block g a f k put in
        record { calls = λ name x e m. other begun (there block) g c name (Routine (function_type x) (contains names name)) (c.calls name x e m).0; put = other begun (there block) g c (codes "putchar") (built_in Int (Int ∷ [])) put }

    -- it stands first
    own_found : (done : Helpers) (block : Names) (name : List ℕ) (g : Helper) (rest : List Definition) (a : IsBehind done block) (f : Follows done g) (put : meaning block (codes "putchar") ≡ Some (built_in Int (Int ∷ []))) → bytes_eq name g.name ≡ true → contains names g.name ≡ true
        → IsFound names defined g (find (is_named name) (item_definitions (there block) (kept names (function_of g)) ++ rest))
    own_found done block name g rest a f put l k =
        let own : Definition = definition (head_type g.result) (map (λ (d : CDecl). (d.name, head_type d.ty)) g.params) g [] (names_outside begun (there block) g) defined in
        let is : item_definitions (there block) (kept names (function_of g)) ≡ own ∷ [] = ap (λ b. item_definitions (there block) (plain.Function g.name 0 g.result g.params (if b then Some g.body else None))) k ∙ definition_is block g f.2 in
        record { outside = names_outside begun (there block) g; knows = outside_of done block g a f k put; is = ap (λ ds. find (is_named name) (ds ++ rest)) is ∙ ap (λ b. cond b (Some own) (find (is_named name) rest)) l }

    -- or further on
    rest_found : (block : Names) (name : List ℕ) (x : Helper) (rest : List Definition) → meaning all_functions x.name ≡ Some x → bytes_eq name x.name ≡ false → find (is_named name) (item_definitions (there block) (kept names (function_of x)) ++ rest) ≡ find (is_named name) rest
    rest_found block name x rest f l = go (contains names x.name)
      where
        go : (b : Bool) → find (is_named name) (item_definitions (there block) (plain.Function x.name 0 x.result x.params (if b then Some x.body else None)) ++ rest) ≡ find (is_named name) rest
        go true = ap (λ ds. find (is_named name) (ds ++ rest)) (definition_is block x f) ∙ ap (λ b. cond b (Some (definition (head_type x.result) (map (λ (d : CDecl). (d.name, head_type d.ty)) x.params) x [] (names_outside begun (there block) x) defined)) (find (is_named name) rest)) l
        go false = refl

    front_found : (done : Helpers) (block : Names) (name : List ℕ) (x g : Helper) (rest : List Definition) (more : List (List ℕ)) → IsBehind done block → Follows done x → meaning block (codes "putchar") ≡ Some (built_in Int (Int ∷ [])) → meaning all_functions name ≡ Some g → contains names name ≡ true
        → (contains more name ≡ true → IsFound names defined g (find (is_named name) rest)) → (b : Bool) → bytes_eq name x.name ≡ b → (b || contains more name) ≡ true → IsFound names defined g (find (is_named name) (item_definitions (there block) (kept names (function_of x)) ++ rest))
    front_found done block name x g rest more a f put e k later true l c =
        let there_name : name ≡ x.name = (bytes_eq-Decides name x.name).0 l in
        let same : x ≡ g = some_is x g (sym f.2 ∙ (ap (λ z. meaning all_functions z) (sym there_name) ∙ e)) in
        subst (λ z. IsFound names defined z (find (is_named name) (item_definitions (there block) (kept names (function_of x)) ++ rest))) same (own_found done block name x rest a f put l (ap (λ z. contains names z) (sym there_name) ∙ k))
    front_found done block name x g rest more a f put e k later false l c = subst (λ o. IsFound names defined g o) (sym (rest_found block name x rest f.2 l)) (later c)

    found : (gs : List Helper) (done : Helpers) (block : Names) (name : List ℕ) (g : Helper) → IsBehind done block → AllFollow done gs → meaning block (codes "putchar") ≡ Some (built_in Int (Int ∷ [])) → meaning all_functions name ≡ Some g → contains names name ≡ true → contains (map (λ (g : Helper). g.name) gs) name ≡ true
        → IsFound names defined g (find (is_named name) (definitions (there block) (helper_items names gs)))
    found [] done block name g a f put e k c = absurd (cc c)
    found (x ∷ gs) done block name g a f put e k c =
        let next : Names = (x.name, entity x) ∷ block in
        let s = step done block x a f.0 put in
        let behind : scope_or (there block) (item_judged (there block) (kept names (function_of x))) ≡ there next = ap (λ q. scope_or (there block) q) s in
        subst (λ z. IsFound names defined g (find (is_named name) (item_definitions (there block) (kept names (function_of x)) ++ definitions z (helper_items names gs)))) (sym behind)
        (front_found done block name x g (definitions (there next) (helper_items names gs)) (map (λ (g : Helper). g.name) gs) a f.0 put e k (λ l. found gs ((x.name, x) ∷ done) next name g (behind_next done block x a f.0.2) f.1 (put_stays block x f.0.1 put) e k l) (bytes_eq name x.name) refl c)

pub firsts_are_typed : FirstsAreTyped
firsts_are_typed names defined closed = walk names defined closed firsts [] built_ins (begins names defined) all_follow refl

pub firsts_are_known : FirstsAreKnown
firsts_are_known names name g e = (in_the_end names []).known name g (done_of name g e)

pub others_stay : OthersStay
others_stay names name e = go (meaning (done_behind firsts []) name) refl
  where
    go : (o : Option Helper) → meaning (done_behind firsts []) name ≡ o → meaning (names_behind names firsts built_ins) name ≡ meaning built_ins name
    go None k = (in_the_end names []).others name k
    go (Some g) k = absurd (cc (sym e ∙ (in_the_end names []).listed name g k))

pub firsts_are_found : FirstsAreFound
firsts_are_found names defined name g closed e k = found names defined closed firsts [] built_ins name g (begins names defined) all_follow refl e k (there_of name g e)
