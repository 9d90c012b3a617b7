-- Externals, one after the other.
use Rattle.std.proofs.Common.{◌≡◌, ℕ, ◌+◌, ◌||◌, Bool, true, false, List, [], ◌∷◌, length, map, drop, Option, Some, None, refl, sym, ap, subst, ◌∙◌, arith}
use Rattle.std.specs.Prelude.{Result, Ok, Err, slice_get, nat_lt}
use Rattle.std.specs.Result.{result_err}
use Rattle.std.specs.Str.{bytes_eq}
use Rattle.std.proofs.lemmas.Slice.Eq.{bytes_eq-Decides}
use Rattle.c_syntax.specs.Plain as tree
use Rattle.c_syntax.specs.Plain.{CItem, CTag}
use Rattle.c_types.specs.declared.fault.TypeFault.{TypeFault}
use Rattle.c_types.specs.Types as types
use Rattle.c_types.specs.Types.{CType}
use Rattle.c_types.specs.Refusals.{Judged, both}
use Rattle.c_types.specs.Scope.{Scope, contains}
use Rattle.c_types.specs.Declarations.{scope_or, tag_declared, declared, declared_type}
use Rattle.c_types.specs.Units.{item_judged, all_items}
use Rattle.c_types.specs.Census.{Tally, item_sum, items_sum, object_sum}
use Rattle.c_types.specs.Limits.{file_words, wide_types}
use Rattle.c_types.specs.Seen.{Counts}
use Rattle.c_types.specs.Table.{Table}
use Rattle.c_operands.specs.Arguments.{merged}
use Rattle.c_operands.proofs.LeastLemmas.{merged_none}
use Rattle.c_operands.specs.declared.declarations.Declarations.{Declarations}
use Rattle.c_declared.specs.Held.{Holds}
use Rattle.c_declared.specs.Told.{told_behind}
use Rattle.c_declared.proofs.ToldLemmas.{one_behind, behind_refused, behind_together}
use Rattle.c_opening.specs.Named.{tag_in, tags_in, with_some, HasNumber}
use Rattle.c_weights.specs.declared.sum.Sum.{Sum}
use Rattle.c_weights.specs.Sums.{Sums}
use Rattle.c_weights.proofs.SumLemmas.{alike, sums_same, none_told}
use Rattle.c_check.specs.declared.items.Taken.{Taken}
use Rattle.c_check.specs.Items.{words_at, IsTaken, AreTaken}

pub record SoFar (now : Table) (e : Declarations) (r : Taken) (s : Scope) (left all : List CItem) : Type 0 where
  pub here : Scope
  pub holds : Holds now e here
  pub is : all_items s all ≡ told_behind r.refusal (all_items here left)
  pub taken : Tally → ℕ
  pub sums : Sums r.sum taken
  pub whole : (k : Tally) → items_sum k s all ≡ taken k + items_sum k here left
  pub count : ℕ
  pub words : Counts r.words count
  pub file : file_words s all ≡ count + file_words here left

-- the externals so far, and those that are left, whose tags have numbers
pub record Going (old now : Table) (d e : Declarations) (r : Taken) (left all : List CItem) : Type 0 where
  pub tags : now.tags ≡ old.tags
  pub numbered : (name : List ℕ) → contains (tags_in left) name ≡ true → HasNumber old name
  pub so_far : (s : Scope) → Holds old d s → SoFar now e r s left all

none_first : (a : ℕ) → a ≡ 0 + a
none_first a = omega arith

pub begun : (table : Table) (d : Declarations) (r : Taken) (all : List CItem) → r.refusal ≡ None → Sums r.sum (λ k. 0) → Counts r.words 0 → ((name : List ℕ) → contains (tags_in all) name ≡ true → HasNumber table name) → Going table table d d r all all
begun table d r all none sums words numbered = record {
  tags = refl;
  numbered = numbered;
  so_far = λ s holds. record {
    here = s;
    holds = holds;
    is = ap (λ (o : Option TypeFault). told_behind o (all_items s all)) (sym none);
    taken = λ k. 0;
    sums = sums;
    whole = λ k. none_first (items_sum k s all);
    count = 0;
    words = words;
    file = none_first (file_words s all);
  };
}

three : (a x b y z : ℕ) → a ≡ x + b → b ≡ y + z → a ≡ x + y + z
three a x b y z e f = omega (arith, e, f)

file_next : (s : Scope) (x : CItem) (rest : List CItem) → file_words s (x ∷ rest) ≡ words_at s x + file_words (scope_or s (item_judged s x)) rest
file_next s (tree.Object d) rest = refl
file_next s (tree.StructItem tag) rest = none_first (file_words (scope_or s (item_judged s (tree.StructItem tag))) rest)
file_next s (tree.Function name at result params body) rest = none_first (file_words (scope_or s (item_judged s (tree.Function name at result params body))) rest)

-- the tags of the others
others_numbered : (table : Table) (x : CItem) (rest : List CItem) → ((name : List ℕ) → contains (tags_in (x ∷ rest)) name ≡ true → HasNumber table name) → (name : List ℕ) → contains (tags_in rest) name ≡ true → HasNumber table name
others_numbered table x rest h name there = h name (by (tag_in x)) where
  or_true : (b c : Bool) → c ≡ true → (b || c) ≡ true
  or_true true c e = refl
  or_true false c e = e

  by : (o : Option (List ℕ)) → contains (with_some o (tags_in rest)) name ≡ true
  by None = there
  by (Some tag) = or_true (bytes_eq name tag) (contains (tags_in rest) name) there

same_bytes : (xs : List ℕ) → bytes_eq xs xs ≡ true
same_bytes xs = (bytes_eq-Decides xs xs).1 refl

-- its own tag
pub own_numbered : (old now : Table) (x : CItem) (rest : List CItem) → now.tags ≡ old.tags → ((name : List ℕ) → contains (tags_in (x ∷ rest)) name ≡ true → HasNumber old name) → (name : List ℕ) → tag_in x ≡ Some name → HasNumber now name
own_numbered old now x rest same h name is =
    let first : contains (tags_in (x ∷ rest)) name ≡ true =
    ap (λ (o : Option (List ℕ)). contains (with_some o (tags_in rest)) name) is ∙ ap (λ (b : Bool). b || contains (tags_in rest) name) (same_bytes name) in
    let k = h name first in
    (k.0, ap (λ (l : List (List ℕ)). slice_get l k.0) same ∙ k.1)

pub goes_on : (t0 t1 t2 : Table) (d e g : Declarations) (r one new : Taken) (x : CItem) (left rest all : List CItem) → Going t0 t1 d e r left all → left ≡ x ∷ rest → IsTaken t1 t2 e g one x
    → new.refusal ≡ merged r.refusal one.refusal → ((a b : Tally → ℕ) → Sums r.sum a → Sums one.sum b → Sums new.sum (λ k. a k + b k)) → ((m n : ℕ) → Counts r.words m → Counts one.words n → Counts new.words (m + n))
    → Going t0 t2 d g new rest all
goes_on t0 t1 t2 d e g r one new x left rest all h next t told plus add = record {
  tags = t.tags ∙ h.tags;
  numbered = others_numbered t0 x rest (subst (λ (l : List CItem). (name : List ℕ) → contains (tags_in l) name ≡ true → HasNumber t0 name) next h.numbered);
  so_far = λ s holds.
      let k = h.so_far s holds in
      let p = item_judged k.here x in
      let here = scope_or k.here p in
      let others = all_items here rest in
      let refused = t.refusal k.here k.holds in
      record {
        here = here;
        holds = t.holds k.here k.holds;
        is =
            k.is
            ∙ (ap (λ (l : List CItem). told_behind r.refusal (all_items k.here l)) next
            ∙ (ap (told_behind r.refusal) (one_behind p others)
            ∙ (behind_together r.refusal (result_err p) others
            ∙ (ap (λ (o : Option TypeFault). told_behind (merged r.refusal o) others) (sym refused) ∙ ap (λ (o : Option TypeFault). told_behind o others) (sym told)))));
        taken = λ q. k.taken q + item_sum q k.here x;
        sums = plus k.taken (λ q. item_sum q k.here x) k.sums (t.sums k.here k.holds);
        whole = λ q. three (items_sum q s all) (k.taken q) (items_sum q k.here left) (item_sum q k.here x) (items_sum q here rest) (k.whole q) (ap (items_sum q k.here) next);
        count = k.count + words_at k.here x;
        words = add k.count (words_at k.here x) k.words (t.words k.here k.holds);
        file = three (file_words s all) k.count (file_words k.here left) (words_at k.here x) (file_words here rest) k.file (ap (file_words k.here) next ∙ file_next k.here x rest);
      };
}

nothing_left : (a x b : ℕ) → a ≡ x + b → b ≡ 0 → x ≡ a
nothing_left a x b e f = omega (arith, e, f)

pub done : (t0 t1 : Table) (d e : Declarations) (r : Taken) (left all : List CItem) (s : Scope) → Going t0 t1 d e r left all → left ≡ [] → Holds t0 d s → AreTaken r s all
done t0 t1 d e r left all s g none holds =
    let k = g.so_far s holds in
    let is : all_items s all ≡ told_behind r.refusal (Ok k.here) = k.is ∙ ap (λ (l : List CItem). told_behind r.refusal (all_items k.here l)) none in
    record {
      refusal = sym (ap result_err is ∙ (behind_refused r.refusal (Ok k.here) ∙ merged_none r.refusal));
      sums = sums_same r.sum k.taken (λ q. items_sum q s all)
          (alike k.taken (λ q. items_sum q s all) (λ q. nothing_left (items_sum q s all) (k.taken q) (items_sum q k.here left) (k.whole q) (ap (items_sum q k.here) none))) k.sums;
      words = subst (Counts r.words) (nothing_left (file_words s all) k.count (file_words k.here left) k.file (ap (file_words k.here) none)) k.words;
    }

-- ---- one external

-- a tag: its sum without its struct, and whether that is too wide
pub tag_sums : (parts own r : Sum) (s behind : Scope) (name : List ℕ) (n : Tally → ℕ) → Sums parts n → Counts own.weight 0 → own.is_wide ≡ nat_lt 0 (wide_types behind.tags (types.Struct name)) → own.nodes ≡ 0 → own.words ≡ 0
    → ((a b : Tally → ℕ) → Sums parts a → Sums own b → Sums r (λ k. a k + b k)) → Sums r (λ k. n k + k.ty behind.tags (types.Struct name))
tag_sums parts own r s behind name n h weight wide nodes words plus =
    plus n (λ k. k.ty behind.tags (types.Struct name)) h (record { weight = weight; wide = wide; nodes = nodes ∙ sym none_told; words = words ∙ sym none_told })
