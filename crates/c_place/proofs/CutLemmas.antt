-- Code that is cut at its jumps stands in the program of these blocks.
use Rattle.std.proofs.Common.{◌≡◌, ℕ, suc, ◌+◌, ◌<◌, Bool, true, false, cond, List, [], ◌∷◌, ◌++◌, length, drop, Some, unwrap_or, refl, sym, ap, ◌∙◌, subst, arith, nat_lt, slice_get, if◌then◌else◌, append_assoc, length-append}
use Rattle.std.specs.Option.{option_and_then}
use Rattle.std.proofs.lemmas.Bool.{lt-ltb}
use Rattle.mach_core.proofs.Lists.{at_head, after_head, inside, drop_none}
use Rattle.word24.specs.declared.word.Word.{Word}
use Rattle.eir_core.specs.Eir.{Eir, is_jump}
use Rattle.eir_core.specs.Memory.{Memory}
use Rattle.eir_core.specs.Step.{Regs, Config}
use Rattle.eir_core.specs.declared.ops.Op.{Op}
use Rattle.c_place.specs.Code.{jumps, cut, put_first, IsClosed, program}
use Rattle.c_place.specs.Place.{Place, Has, Stands, behind, front}

pub closed_append : (xs ys : List Op) → IsClosed xs → IsClosed ys → IsClosed (xs ++ ys)
closed_append [] ys a b = b
closed_append (x ∷ []) [] a b = a
closed_append (x ∷ []) (y ∷ ys) a b = b
closed_append (x ∷ o ∷ xs) ys a b = closed_append (o ∷ xs) ys a b

pub closed_end : (xs : List Op) (y : Op) (ys : List Op) → IsClosed (y ∷ ys) → IsClosed (xs ++ y ∷ ys)
closed_end [] y ys h = h
closed_end (x ∷ []) y ys h = h
closed_end (x ∷ o ∷ xs) y ys h = closed_end (o ∷ xs) y ys h

-- the first block that more operations are cut into has some
record Begins (ops : List Op) : Type 0 where
  op : Op
  more : List Op
  rest : List (List Op)
  is : cut ops ≡ (op ∷ more) ∷ rest

begins : (o : Op) (ops : List Op) → Begins (o ∷ ops)
begins o ops = go (is_jump o) refl
  where
    put : (bs : List (List Op)) → put_first o bs ≡ put_first o bs → (m : List Op) × (r : List (List Op)) × (put_first o bs ≡ (o ∷ m) ∷ r)
    put [] e = ([], [], refl)
    put (b ∷ bs) e = (b, bs, refl)

    go : (b : Bool) → is_jump o ≡ b → Begins (o ∷ ops)
    go true e = record { op = o; more = []; rest = cut ops; is = ap (λ t. if t then (o ∷ []) ∷ cut ops else put_first o (cut ops)) e }
    go false e = let x = put (cut ops) refl in record { op = o; more = x.0; rest = x.1; is = ap (λ t. if t then (o ∷ []) ∷ cut ops else put_first o (cut ops)) e ∙ x.2 }

-- the blocks, where some operations of the first are done
abbrev pub glue : List Op → List (List Op) → List (List Op)
glue done [] = []
glue done (b ∷ bs) = (done ++ b) ∷ bs

pub glue_none : (bs : List (List Op)) → glue [] bs ≡ bs
glue_none [] = refl
glue_none (b ∷ bs) = refl

item_behind : (done : List Op) (o : Op) (more : List Op) → slice_get (done ++ o ∷ more) (length done) ≡ Some o
item_behind [] o more = refl
item_behind (x ∷ done) o more = item_behind done o more

abbrev at_config : ℕ → ℕ → Regs → Memory → Config
at_config k i r m = record { block = k; index = i; regs = r; memory = m }

-- an operation at a place of a block
has_op : (p : Eir) (bl : ℕ) (done : List Op) (o : Op) (more : List Op) (rest : List (List Op)) → drop bl p.blocks ≡ (done ++ o ∷ more) ∷ rest
    → (s1 : Place) → behind (record { block = bl; index = length done }) o ≡ s1 → ((r : Regs) (m : Memory) → cond (nat_lt (length done + 1) (length (done ++ o ∷ more))) (at_config (bl) (length done + 1) r m) (at_config (bl + 1) (0) r m) ≡ at_config (s1.block) (s1.index) r m)
    → Has p (record { block = bl; index = length done }) o
has_op p bl done o more rest e s1 is goes =
    let b : List Op = done ++ o ∷ more in
    let block : slice_get p.blocks bl ≡ Some b = at_head p.blocks bl b rest e in
    record {
      here = ap (option_and_then (λ ops. slice_get ops (length done))) block ∙ item_behind done o more;
      inside = inside p.blocks bl b rest e;
      goes = λ r m. ap (λ z. cond (nat_lt (length done + 1) (length (unwrap_or z []))) (at_config (bl) (length done + 1) r m) (at_config (bl + 1) (0) r m)) block ∙ (goes r m ∙ ap (λ (z : Place). at_config (z.block) (z.index) r m) (sym is));
    }

pub stands_cut : (p : Eir) (bl : ℕ) (done ops : List Op) → IsClosed ops → drop bl p.blocks ≡ glue done (cut ops) → Stands p (record { block = bl; index = length done }) ops
stands_cut p bl done [] c e = tt
stands_cut p bl done (o ∷ ops) c e = go (is_jump o) refl (λ d e1 c1. stands_cut p (suc bl) d ops c1 e1) (λ d e1 c1. stands_cut p bl d ops c1 e1)
  where
    closed_rest : (o : Op) (ops : List Op) → IsClosed (o ∷ ops) → IsClosed ops
    closed_rest o [] c = tt
    closed_rest o (x ∷ ops) c = c

    some_more : (o : Op) (ops : List Op) → IsClosed (o ∷ ops) → is_jump o ≡ false → Begins ops
    some_more o [] c f = let g : true ≡ false = sym c ∙ f in absurd (cc (g))
    some_more o (x ∷ ops) c f = begins x ops

    go : (b : Bool) → is_jump o ≡ b → ((d : List Op) → drop (suc bl) p.blocks ≡ glue d (cut ops) → IsClosed ops → Stands p (record { block = suc bl; index = length d }) ops) → ((d : List Op) → drop bl p.blocks ≡ glue d (cut ops) → IsClosed ops → Stands p (record { block = bl; index = length d }) ops) → Stands p (record { block = bl; index = length done }) (o ∷ ops)
    go true f k1 k2 =
        let halved : cut (o ∷ ops) ≡ (o ∷ []) ∷ cut ops = ap (λ t. if t then (o ∷ []) ∷ cut ops else put_first o (cut ops)) f in
        let e1 : drop bl p.blocks ≡ (done ++ o ∷ []) ∷ cut ops = e ∙ ap (glue done) halved in
        let e2 : drop (suc bl) p.blocks ≡ cut ops = after_head p.blocks bl (done ++ o ∷ []) (cut ops) e1 in
        let to : behind (record { block = bl; index = length done }) o ≡ front (suc bl) = ap (λ t. if t then record { block = suc bl; index = 0 } else record { block = bl; index = length done + 1 }) f in
        let len : length (done ++ o ∷ []) ≡ length done + 1 = length-append done (o ∷ []) in
        let last : nat_lt (length done + 1) (length (done ++ o ∷ [])) ≡ false = grind (arith, len) in
        let next : bl + 1 ≡ suc bl = omega arith in (
          has_op p bl done o [] (cut ops) e1 (front (suc bl)) to (λ r m. ap (λ t. cond t (at_config (bl) (length done + 1) r m) (at_config (bl + 1) (0) r m)) last ∙ ap (λ z. at_config (z) (0) r m) next),
          subst (λ z. Stands p z ops) (sym to) (k1 [] (e2 ∙ sym (glue_none (cut ops))) (closed_rest o ops c)),
        )
    go false f k1 k2 =
        let b = some_more o ops c f in
        let halved : cut (o ∷ ops) ≡ (o ∷ (b.op ∷ b.more)) ∷ b.rest = ap (λ t. if t then (o ∷ []) ∷ cut ops else put_first o (cut ops)) f ∙ ap (put_first o) b.is in
        let e1 : drop bl p.blocks ≡ (done ++ o ∷ (b.op ∷ b.more)) ∷ b.rest = e ∙ ap (glue done) halved in
        let to : behind (record { block = bl; index = length done }) o ≡ record { block = bl; index = length done + 1 } = ap (λ t. if t then record { block = suc bl; index = 0 } else record { block = bl; index = length done + 1 }) f in
        let len : length (done ++ o ∷ (b.op ∷ b.more)) ≡ length done + length (o ∷ (b.op ∷ b.more)) = length-append done (o ∷ (b.op ∷ b.more)) in
        let more : length done + 1 < length (done ++ o ∷ (b.op ∷ b.more)) = omega (arith, len) in
        let inner : nat_lt (length done + 1) (length (done ++ o ∷ (b.op ∷ b.more))) ≡ true = lt-ltb (length done + 1) (length (done ++ o ∷ (b.op ∷ b.more))) more in
        let len1 : length (done ++ o ∷ []) ≡ length done + 1 = length-append done (o ∷ []) in
        let e2 : drop bl p.blocks ≡ glue (done ++ o ∷ []) (cut ops) = e1 ∙ (ap (λ z. z ∷ b.rest) (sym (append_assoc done (o ∷ []) (b.op ∷ b.more))) ∙ ap (glue (done ++ o ∷ [])) (sym b.is)) in (
          has_op p bl done o (b.op ∷ b.more) b.rest e1 (record { block = bl; index = length done + 1 }) to (λ r m. ap (λ t. cond t (at_config (bl) (length done + 1) r m) (at_config (bl + 1) (0) r m)) inner),
          subst (λ z. Stands p z ops) (sym to) (subst (λ z. Stands p (record { block = bl; index = z }) ops) len1 (k2 (done ++ o ∷ []) e2 (closed_rest o ops c))),
        )

pub cut_length : (ops : List Op) → IsClosed ops → length (cut ops) ≡ jumps ops
cut_length [] c = refl
cut_length (o ∷ ops) c = go (is_jump o) refl (λ c1. cut_length ops c1)
  where
    closed_rest : (o : Op) (ops : List Op) → IsClosed (o ∷ ops) → IsClosed ops
    closed_rest o [] c = tt
    closed_rest o (x ∷ ops) c = c

    some_more : (o : Op) (ops : List Op) → IsClosed (o ∷ ops) → is_jump o ≡ false → Begins ops
    some_more o [] c f = let g : true ≡ false = sym c ∙ f in absurd (cc (g))
    some_more o (x ∷ ops) c f = begins x ops

    go : (b : Bool) → is_jump o ≡ b → (IsClosed ops → length (cut ops) ≡ jumps ops) → length (cut (o ∷ ops)) ≡ jumps (o ∷ ops)
    go true f k =
        let l : length (cut (o ∷ ops)) ≡ suc (length (cut ops)) = ap (λ t. length (if t then (o ∷ []) ∷ cut ops else put_first o (cut ops))) f in
        let r : jumps (o ∷ ops) ≡ suc (jumps ops) = ap (λ t. if t then suc (jumps ops) else jumps ops) f in
        omega (arith, l, r, k (closed_rest o ops c))
    go false f k =
        let b = some_more o ops c f in
        let l : length (cut (o ∷ ops)) ≡ length (put_first o (cut ops)) = ap (λ t. length (if t then (o ∷ []) ∷ cut ops else put_first o (cut ops))) f in
        let l2 : length (put_first o (cut ops)) ≡ suc (length b.rest) = ap (λ z. length (put_first o z)) b.is in
        let l3 : length (cut ops) ≡ suc (length b.rest) = ap length b.is in
        let r : jumps (o ∷ ops) ≡ jumps ops = ap (λ t. if t then suc (jumps ops) else jumps ops) f in
        omega (arith, l, l2, l3, r, k (closed_rest o ops c))

pub stands : (ops : List Op) (words : List Word) → IsClosed ops → Stands (program ops words) (front 0) ops
stands ops words c = stands_cut (program ops words) 0 [] ops c (drop_none (cut ops) ∙ sym (glue_none (cut ops)))

-- the jumps of code behind code
pub jumps_append : (xs ys : List Op) → jumps (xs ++ ys) ≡ jumps xs + jumps ys
jumps_append [] ys = omega arith
jumps_append (x ∷ xs) ys = elim (is_jump x) as (λ b. (if b then suc (jumps (xs ++ ys)) else jumps (xs ++ ys)) ≡ (if b then suc (jumps xs) else jumps xs) + jumps ys) [
  | true ↦ let e = jumps_append xs ys in omega (arith, e)
  | false ↦ jumps_append xs ys
]
