-- Code that is emitted piece by piece.
use Rattle.std.proofs.Common.{◌≡◌, ◌+◌, ℕ, suc, List, [], ◌∷◌, ◌++◌, length, take, drop, refl, sym, ap, subst, ◌∙◌, append_assoc, length-append, map, Option, Result, Vec, arith}
use Rattle.std.specs.Prelude.{true, Some, Ok, Err, OnOk, IfOk, slice_get}
use Rattle.std.specs.declared.alloc.Global.{Global}
use Rattle.std.proofs.lemmas.List.{append-nil, map-append, length-map}
use Rattle.c_store.specs.declared.kind.Kind.{Kind}
use Rattle.c_store.specs.declared.value.Value as rust
use Rattle.c_store.specs.Values.{Value, Literal}
use Rattle.std.specs.Str.{bytes_eq}
use Rattle.std.specs.Cmp.Lexicographic.{bytes_decides}
use Rattle.std.specs.Option.{option_map}
use Rattle.std.proofs.lemmas.Option.{slice_get-map}
use denote.Ref.{Bor}
use Rattle.c_store.specs.Shown.{value_of}
use Rattle.c_plain.specs.declared.instruction.Instruction.TheVariants as plain
use Rattle.c_code.specs.Code as code
use Rattle.c_resolved.specs.Same.{IsOwner, at_file, in_function}
use Rattle.c_plain.specs.declared.instruction.Instruction.{Instruction}
use Rattle.c_plain.specs.Program.{Program}
use Rattle.c_resolved.specs.Means.{MeansAll, no_code, more_code}
use Rattle.c_emitted.specs.declared.emitter.Emitter.{Emitter}
use Rattle.c_emitted.specs.declared.emitter.File.{File}
use Rattle.c_emitted.specs.Tables.{Tables, tables_in, Begins, Extends, IsMeant, AreMeant, IsPushed}
use Rattle.c_emitted.specs.Emits.{texts, tables_of, StaysIn, IsFile, Emits, Reserves, Fills}
use Rattle.c_emitted.proofs.TableLemmas.{begins_same, begins_get, begins_last, extends_same, extends_then}

all_then : (names : List (List ℕ)) (p : Program) {is : List code.Instruction} {js : List Instruction} {ks : List code.Instruction} {ls : List Instruction} → MeansAll names p is js → MeansAll names p ks ls → MeansAll names p (is ++ ks) (js ++ ls)
all_then names p no_code after = after
all_then names p (more_code m before) after = more_code m (all_then names p before after)

pub meant_later : {t u : Tables} {is : List code.Instruction} {js : List Instruction} → Extends t u → AreMeant t is js → AreMeant u is js
meant_later e m = record { means = λ names p f. m.means names p (extends_then e f) }

meant_then : {t : Tables} {is : List code.Instruction} {js : List Instruction} {ks : List code.Instruction} {ls : List Instruction} → AreMeant t is js → AreMeant t ks ls → AreMeant t (is ++ ks) (js ++ ls)
meant_then m n = record { means = λ names p e. all_then names p (m.means names p e) (n.means names p e) }

meant_one : {t : Tables} {i : code.Instruction} {j : Instruction} → IsMeant t i j → AreMeant t (i ∷ []) (j ∷ [])
meant_one m = record { means = λ names p e. more_code (m.means names p e) no_code }

pub stays : (a : Emitter) → StaysIn a a
stays a = record { owner = refl; objects = refl; files = refl }

pub stays_then : {a b c : Emitter} → StaysIn a b → StaysIn b c → StaysIn a c
stays_then s t = record { owner = t.owner ∙ s.owner; objects = t.objects ∙ s.objects; files = t.files ∙ s.files }

-- nothing is emitted
pub nothing : (a : Emitter) → Emits a a [] []
nothing a = record {
  code = [];
  behind = sym (append-nil a.code);
  count = refl;
  meant = record { means = λ names p e. no_code };
  tables = extends_same (tables_of a);
  stays = stays a;
  before = omega arith;
}

-- one piece behind another
pub both : {a b c : Emitter} {is js : List code.Instruction} {ls ms : List (List ℕ)} → Emits a b is ls → Emits b c js ms → Emits a c (is ++ js) (ls ++ ms)
both {a} {b} {c} {is} {js} {ls} {ms} e f = record {
  code = e.code ++ f.code;
  behind = f.behind ∙ ap (λ (l : List Instruction). l ++ f.code) e.behind ∙ append_assoc a.code e.code f.code;
  count = length-append e.code f.code ∙ ap (λ (n : ℕ). n + length f.code) e.count ∙ ap (λ (n : ℕ). length is + n) f.count ∙ sym (length-append is js);
  meant = meant_then (meant_later f.tables e.meant) f.meant;
  tables = extends_then e.tables f.tables;
  stays = stays_then e.stays f.stays;
  before = let s : length (ls ++ ms) ≡ length ls + length ms = length-append ls ms in omega (arith, s, e.before, f.before);
}

-- a piece without literals behind another
pub later : {a b c : Emitter} {is js : List code.Instruction} {ls : List (List ℕ)} → Emits a b is ls → Emits b c js [] → Emits a c (is ++ js) ls
later {a} {b} {c} {is} {js} {ls} e f = subst (λ (l : List (List ℕ)). Emits a c (is ++ js) l) (append-nil ls) (both e f)

-- one instruction
pub one : (a b : Emitter) (i : code.Instruction) (j : Instruction) → b.code ≡ a.code ++ j ∷ [] → tables_of b ≡ tables_of a → StaysIn a b → b.before ≡ a.before → IsMeant (tables_of a) i j → Emits a b (i ∷ []) []
one a b i j behind same stays before m = record {
  code = j ∷ [];
  behind = behind;
  count = refl;
  meant = subst (λ (t : Tables). AreMeant t (i ∷ []) (j ∷ [])) (sym same) (meant_one m);
  tables = subst (λ (t : Tables). Extends (tables_of a) t) (sym same) (extends_same (tables_of a));
  stays = stays;
  before = omega (arith, before);
}

take_front : {A : Type 0} (xs ys : List A) → take (length xs) (xs ++ ys) ≡ xs
take_front [] ys = refl
take_front (x ∷ xs) ys = ap (λ l. x ∷ l) (take_front xs ys)

drop_front : {A : Type 0} (xs : List A) (y : A) (ys : List A) → drop (suc (length xs)) (xs ++ y ∷ ys) ≡ ys
drop_front [] y ys = refl
drop_front (x ∷ xs) y ys = drop_front xs y ys

-- ---- the emitter's steps

pub on_ok : {X E P Q : Type 0} (r : Result X E) → (P → Q) → OnOk r P → OnOk r Q
on_ok (Ok x) f h = f h
on_ok (Err e) f h = h

pub if_ok : {X E P : Type 0} {Q : X → Type 0} (r : Result X E) → OnOk r P → ((x : X) → P → Q x) → IfOk r Q
if_ok (Ok x) h f = f x h
if_ok (Err e) h f = h

-- no code is emitted
pub quiet : (a b : Emitter) (ls : List (List ℕ)) → b.code ≡ a.code → Extends (tables_of a) (tables_of b) → StaysIn a b → b.before ≡ a.before + length ls → Emits a b [] ls
quiet a b ls same tables stays before = record {
  code = [];
  behind = same ∙ sym (append-nil a.code);
  count = refl;
  meant = record { means = λ names p e. no_code };
  tables = tables;
  stays = stays;
  before = before;
}

pub unchanged : (a : Emitter) → a.before ≡ a.before + length {A = List ℕ} []
unchanged a = omega arith

pub kinds_grown : (a : Emitter) (table : Vec Kind Global) (es : List Kind) → table.items ≡ a.kinds.items ++ es → Emits a (record a { kinds = table }) [] []
kinds_grown a table es e = quiet a (record a { kinds = table }) [] refl (record { constants = begins_same (map value_of a.constants.items); kinds = record { rest = es; whole = e }; lengths = begins_same a.lengths.items; bytes = begins_same a.bytes.items; literals = begins_same a.literals.items; names = begins_same (tables_of a).names; files = begins_same (tables_of a).files }) (record { owner = refl; objects = refl; files = refl }) (unchanged a)

pub lengths_grown : (a : Emitter) (table : Vec ℕ Global) (es : List ℕ) → table.items ≡ a.lengths.items ++ es → Emits a (record a { lengths = table }) [] []
lengths_grown a table es e = quiet a (record a { lengths = table }) [] refl (record { constants = begins_same (map value_of a.constants.items); kinds = begins_same a.kinds.items; lengths = record { rest = es; whole = e }; bytes = begins_same a.bytes.items; literals = begins_same a.literals.items; names = begins_same (tables_of a).names; files = begins_same (tables_of a).files }) (record { owner = refl; objects = refl; files = refl }) (unchanged a)

pub bytes_grown : (a : Emitter) (table : Vec ℕ Global) (es : List ℕ) → table.items ≡ a.bytes.items ++ es → Emits a (record a { bytes = table }) [] []
bytes_grown a table es e = quiet a (record a { bytes = table }) [] refl (record { constants = begins_same (map value_of a.constants.items); kinds = begins_same a.kinds.items; lengths = begins_same a.lengths.items; bytes = record { rest = es; whole = e }; literals = begins_same a.literals.items; names = begins_same (tables_of a).names; files = begins_same (tables_of a).files }) (record { owner = refl; objects = refl; files = refl }) (unchanged a)

-- a constant is pushed
pub pushed : (a : Emitter) (table : Vec rust.Value Global) (all : List Instruction) (i : code.Instruction) (v : rust.Value) (k : ℕ) → table.items ≡ a.constants.items ++ v ∷ [] → k ≡ length a.constants.items
    → IsPushed (tables_of a) i (value_of v) → all ≡ a.code ++ plain.Push k ∷ [] → Emits a (record a { constants = table; code = all }) (i ∷ []) []
pushed a table all i v k e number p same =
    let grown : map value_of table.items ≡ map value_of a.constants.items ++ value_of v ∷ [] = ap (map value_of) e ∙ map-append value_of a.constants.items (v ∷ []) in
    let more : Extends (tables_of a) (tables_of (record a { constants = table; code = all })) = record { constants = record { rest = value_of v ∷ []; whole = grown }; kinds = begins_same a.kinds.items; lengths = begins_same a.lengths.items; bytes = begins_same a.bytes.items; literals = begins_same a.literals.items; names = begins_same (tables_of a).names; files = begins_same (tables_of a).files } in
    record {
      code = plain.Push k ∷ [];
      behind = same;
      count = refl;
      meant = record {
        means = λ names q f.
            let last : slice_get q.constants (length (map value_of a.constants.items)) ≡ Some (value_of v) = begins_last (map value_of a.constants.items) (value_of v) (subst (λ (l : List Value). Begins l q.constants) grown f.constants) in
            let at : length (map value_of a.constants.items) ≡ k = length-map a.constants.items value_of ∙ sym number in
            more_code (p.means names q k (extends_then more f) (subst (λ (n : ℕ). slice_get q.constants n ≡ Some (value_of v)) at last)) no_code;
      };
      tables = more;
      stays = record { owner = refl; objects = refl; files = refl };
      before = unchanged a;
    }

-- tables grow, and no code is emitted
pub names_more : (t : Tables) (names : List (List ℕ)) → Begins t.names names → Extends t (record t { names = names })
names_more t names b = record { constants = begins_same t.constants; kinds = begins_same t.kinds; lengths = begins_same t.lengths; bytes = begins_same t.bytes; literals = begins_same t.literals; names = b; files = begins_same t.files }

pub name_at : (keys : List (Bor (List ℕ))) (n : ℕ) (name : List ℕ) (k : Bor (List ℕ)) → slice_get keys n ≡ Some k → bytes_eq name k.now ≡ true → slice_get (texts keys) n ≡ Some name
name_at keys n name k e same = slice_get-map (λ (x : Bor (List ℕ)). x.now) keys n ∙ (ap (option_map (λ (x : Bor (List ℕ)). x.now)) e ∙ ap (λ (x : List ℕ). Some x) (sym ((bytes_decides name k.now).0 same)))

-- a string literal is the next one
pub literal_grown : (a : Emitter) (table : Vec Literal Global) (l : Literal) (next : ℕ) → table.items ≡ a.literals.items ++ l ∷ [] → next ≡ a.before + 1 → Emits a (record a { literals = table; before = next }) [] (l.text ∷ [])
literal_grown a table l next e more = quiet a (record a { literals = table; before = next }) (l.text ∷ []) refl (record { constants = begins_same (map value_of a.constants.items); kinds = begins_same a.kinds.items; lengths = begins_same a.lengths.items; bytes = begins_same a.bytes.items; literals = record { rest = l ∷ []; whole = e }; names = begins_same (tables_of a).names; files = begins_same (tables_of a).files }) (record { owner = refl; objects = refl; files = refl }) more

-- an instruction that is told behind the code that follows it
pub patched : (a b c d : Emitter) (at : ℕ) (i : code.Instruction) (j : Instruction) {is : List code.Instruction} {ls : List (List ℕ)} → Reserves a b at → Emits b c is ls → Fills c d at j → IsMeant (tables_of d) i j → Emits a d (i ∷ is) ls
patched a b c d at i j {is} {ls} r e f m =
    let whole : c.code ≡ a.code ++ (plain.End ∷ e.code) = e.behind ∙ ap (λ (l : List Instruction). l ++ e.code) r.code ∙ append_assoc a.code (plain.End ∷ []) e.code in
    let front : take at (a.code ++ (plain.End ∷ e.code)) ≡ a.code = rw r.place (take_front a.code (plain.End ∷ e.code)) in
    let rest : drop (suc at) (a.code ++ (plain.End ∷ e.code)) ≡ e.code = rw r.place (drop_front a.code plain.End e.code) in
    let back : tables_of d ≡ tables_of c = f.keeps.tables in
    let from : tables_of b ≡ tables_of a = r.keeps.tables in
    record {
      code = j ∷ e.code;
      behind = f.code ∙ ap (λ (l : List Instruction). take at l ++ (j ∷ drop (suc at) l)) whole ∙ ap (λ (l : List Instruction). l ++ (j ∷ drop (suc at) (a.code ++ (plain.End ∷ e.code)))) front ∙ ap (λ (l : List Instruction). a.code ++ (j ∷ l)) rest;
      count = ap suc e.count;
      meant = record { means = λ names p g. more_code (m.means names p g) (e.meant.means names p (subst (λ (t : Tables). Extends t (tables_in names p)) back g)) };
      tables = subst (λ (t : Tables). Extends (tables_of a) t) (sym back) (subst (λ (t : Tables). Extends t (tables_of c)) from e.tables);
      stays = stays_then r.keeps.stays (stays_then e.stays f.keeps.stays);
      before = f.keeps.before ∙ e.before ∙ ap (λ (n : ℕ). n + length ls) r.keeps.before;
    }

-- the place is within the code, and what stands behind it is the code that follows
pub behind_place : (a b c : Emitter) (at : ℕ) {is : List code.Instruction} {ls : List (List ℕ)} → Reserves a b at → Emits b c is ls → suc at + length is ≡ length c.code
behind_place a b c at {is} r e =
    let whole : length c.code ≡ length b.code + length e.code = ap length e.behind ∙ length-append b.code e.code in
    let first : length b.code ≡ length a.code + 1 = ap length r.code ∙ length-append a.code (plain.End ∷ []) in
    omega (arith, whole, first, r.place, e.count)

-- what holds whatever is answered
pub always : {X E P : Type 0} (r : Result X E) → P → OnOk r P
always (Ok x) h = h
always (Err e) h = tt

pub if_equal : {E : Type 0} (r : Result ℕ E) (n : ℕ) (P : ℕ → Type 0) → P n → IfOk r (λ m. m ≡ n) → IfOk r P
if_equal (Ok m) n P h e = subst P (sym e) h
if_equal (Err e) n P h f = tt

pub owner_kept : {xs ys : List (List ℕ)} {owner : Option (List ℕ)} {n : ℕ} → Begins xs ys → IsOwner xs owner n → IsOwner ys owner n
owner_kept b at_file = at_file
owner_kept b (in_function f name e) = in_function f name (begins_get b f name e)

pub literal_is : (l : Literal) (owner number : ℕ) (text : List ℕ) → l.owner ≡ owner → l.number ≡ number → l.text ≡ text → l ≡ record { owner = owner; number = number; text = text }
literal_is l owner number text e f g =
    ap (λ (n : ℕ). record l { owner = n }) e ∙ (ap (λ (n : ℕ). record { owner = owner; number = n; text = l.text }) f ∙ ap (λ (t : List ℕ). record { owner = owner; number = number; text = t }) g)

pub file_is : (lengths : List ℕ) (o : Option File) (f : File) (m : Option (Option ℕ)) → IsFile lengths o m → o ≡ Some f → (m ≡ Some (Some f.object)) × (slice_get lengths f.object ≡ Some f.length)
file_is lengths o f m h e = subst (λ (p : Option File). IsFile lengths p m) e h
