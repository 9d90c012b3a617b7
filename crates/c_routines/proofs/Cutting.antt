-- Code that is cut after its jumps and before its labels stands in the program of these blocks.
use Rattle.std.proofs.Common.{◌≡◌, ℕ, suc, ◌+◌, ◌^◌, ◌<◌, ◌≤◌, Bool, true, false, not, cond, List, [], ◌∷◌, ◌++◌, length, drop, Some, unwrap_or, refl, sym, ap, ◌∙◌, subst, arith, nat_lt, nat_eq, slice_get, if◌then◌else◌, append_assoc, length-append}
use Rattle.std.specs.Option.{option_and_then}
use Rattle.std.proofs.lemmas.Bool.{lt-ltb, eq-eqb, ne_eqb}
use Rattle.mach_core.proofs.Lists.{at_head, after_head, inside, drop_none}
use Rattle.word24.specs.declared.word.Word.{Word}
use Rattle.eir_core.specs.declared.ops.Op.{Op}
use Rattle.eir_core.specs.declared.ops.Op.TheVariants as eir
use Rattle.eir_core.specs.Eir.{Eir, is_jump}
use Rattle.eir_core.specs.Memory.{Memory}
use Rattle.eir_core.specs.Step.{Regs, Config}
use Rattle.c_place.specs.Place.{front}
use Rattle.c_routines.specs.declared.item.Item.{Item}
use Rattle.c_routines.specs.declared.item.Item.TheVariants.{Does, Label, Jump, JumpIf, MoveLabel}
use Rattle.c_routines.specs.Items.{constant, Leads, Stands}
use Rattle.c_routines.specs.Cuts.{Cut, filled, blocks_of, cut_before, cut_items, place_in, block_at, linked, Rises, Numbered, LinkedCodeStands}

item_after : (done : List Op) (o : Op) (more : List Op) → slice_get (done ++ o ∷ more) (length done) ≡ Some o
item_after [] o more = refl
item_after (x ∷ done) o more = item_after done o more

abbrev at_config : ℕ → ℕ → Regs → Memory → Config
at_config k i r m = record { block = k; index = i; regs = r; memory = m }

-- where nothing more belongs to the open block, it is closed
closes : (at : ℕ → ℕ) (items : List Item) (bl : ℕ) → (cut_items at items).head ≡ [] → Numbered at bl true items → Numbered at (suc bl) false items
closes at [] bl h n = tt
closes at (Label l ∷ items) bl h n = n
closes at (Jump l ∷ items) bl h n = absurd (cc (h))
closes at (JumpIf test l r v ∷ items) bl h n = absurd (cc (h))
closes at (MoveLabel r l ∷ items) bl h n = absurd (cc (h))
closes at (Does op ∷ items) bl h n = absurd (go (is_jump op) refl)
  where
    go : (b : Bool) → is_jump op ≡ b → ⊥
    go true f =
        let e : (cut_before true op (cut_items at items)).head ≡ [] = ap (λ t. (cut_before t op (cut_items at items)).head) (sym f) ∙ h in
        cc (e)
    go false f =
        let e : (cut_before false op (cut_items at items)).head ≡ [] = ap (λ t. (cut_before t op (cut_items at items)).head) (sym f) ∙ h in
        cc (e)

module _ (p : Eir) (at : ℕ → ℕ) where
  -- an operation within a block
  leads_within : (bl : ℕ) (done : List Op) (o x : Op) (more : List Op) (rest : List (List Op)) → drop bl p.blocks ≡ (done ++ o ∷ x ∷ more) ∷ rest → Leads p (record { block = bl; index = length done }) o (record { block = bl; index = length done + 1 })
  leads_within bl done o x more rest e =
      let b : List Op = done ++ o ∷ x ∷ more in
      let block : slice_get p.blocks bl ≡ Some b = at_head p.blocks bl b rest e in
      let len : length (done ++ o ∷ x ∷ more) ≡ length done + length (o ∷ x ∷ more) = length-append done (o ∷ x ∷ more) in
      let inner : nat_lt (length done + 1) (length (done ++ o ∷ x ∷ more)) ≡ true = lt-ltb (length done + 1) (length (done ++ o ∷ x ∷ more)) (omega (arith, len)) in
      record {
        here = ap (option_and_then (λ ops. slice_get ops (length done))) block ∙ item_after done o (x ∷ more);
        inside = inside p.blocks bl b rest e;
        goes = λ r m. ap (λ z. cond (nat_lt (length done + 1) (length (unwrap_or z []))) (at_config bl (length done + 1) r m) (at_config (bl + 1) 0 r m)) block
            ∙ ap (λ t. cond t (at_config bl (length done + 1) r m) (at_config (bl + 1) 0 r m)) inner;
      }

  -- the last one of a block
  leads_on : (bl : ℕ) (done : List Op) (o : Op) (rest : List (List Op)) → drop bl p.blocks ≡ (done ++ o ∷ []) ∷ rest → Leads p (record { block = bl; index = length done }) o (front (suc bl))
  leads_on bl done o rest e =
      let b : List Op = done ++ o ∷ [] in
      let block : slice_get p.blocks bl ≡ Some b = at_head p.blocks bl b rest e in
      let len : length (done ++ o ∷ []) ≡ length done + 1 = length-append done (o ∷ []) in
      let last : nat_lt (length done + 1) (length (done ++ o ∷ [])) ≡ false = grind (arith, len) in
      let next : bl + 1 ≡ suc bl = omega arith in
      record {
        here = ap (option_and_then (λ ops. slice_get ops (length done))) block ∙ item_after done o [];
        inside = inside p.blocks bl b rest e;
        goes = λ r m. ap (λ z. cond (nat_lt (length done + 1) (length (unwrap_or z []))) (at_config bl (length done + 1) r m) (at_config (bl + 1) 0 r m)) block
            ∙ (ap (λ t. cond t (at_config bl (length done + 1) r m) (at_config (bl + 1) 0 r m)) last ∙ ap (λ z. at_config z 0 r m) next);
      }

  -- code stands from the front of a block on, or after operations of one
  record Placed (items : List Item) : Type 0 where
    fresh : (bl : ℕ) → drop bl p.blocks ≡ blocks_of (cut_items at items) → Numbered at bl false items → Stands p at (front bl) items
    within : (bl : ℕ) (done : List Op) (o : Op) (more : List Op) → (cut_items at items).head ≡ o ∷ more → drop bl p.blocks ≡ (done ++ o ∷ more) ∷ (cut_items at items).rest → Numbered at bl true items → Stands p at (record { block = bl; index = length done }) items

  placed_does : (op : Op) (items : List Item) → Placed items → Placed (Does op ∷ items)
  placed_does op items all = record {
    fresh = λ bl e n. both (is_jump op) refl bl [] (e ∙ shown (is_jump op) refl) n all;
    within = λ bl done o more h e n. both (is_jump op) refl bl done (e ∙ ap (λ z. (done ++ z) ∷ (cut_items at (Does op ∷ items)).rest) (sym h)) n all;
  }
    where
      -- the first block has the operation
      shown : (b : Bool) → is_jump op ≡ b → blocks_of (cut_items at (Does op ∷ items)) ≡ (cut_items at (Does op ∷ items)).head ∷ (cut_items at (Does op ∷ items)).rest
      shown true f = ap (λ t. blocks_of (cut_before t op (cut_items at items))) f ∙ sym (ap (λ t. (cut_before t op (cut_items at items)).head ∷ (cut_before t op (cut_items at items)).rest) f)
      shown false f = ap (λ t. blocks_of (cut_before t op (cut_items at items))) f ∙ sym (ap (λ t. (cut_before t op (cut_items at items)).head ∷ (cut_before t op (cut_items at items)).rest) f)

      inner : (bl : ℕ) (done ops : List Op) → (cut_items at items).head ≡ ops → drop bl p.blocks ≡ (done ++ op ∷ ops) ∷ (cut_items at items).rest → Numbered at bl true items → Placed items → Stands p at (record { block = bl; index = length done }) (Does op ∷ items)
      inner bl done [] h e n more = (
        front (suc bl),
        leads_on bl done op (cut_items at items).rest e,
        more.fresh (suc bl) (after_head p.blocks bl (done ++ op ∷ []) (cut_items at items).rest e ∙ ap (λ z. filled z (cut_items at items).rest) (sym h)) (closes at items bl h n),
      )
      inner bl done (x ∷ ops) h e n more = (
        record { block = bl; index = length done + 1 },
        leads_within bl done op x ops (cut_items at items).rest e,
        subst (λ z. Stands p at (record { block = bl; index = z }) items) (length-append done (op ∷ [])) (more.within bl (done ++ op ∷ []) x ops h (e ∙ ap (λ z. z ∷ (cut_items at items).rest) (sym (append_assoc done (op ∷ []) (x ∷ ops)))) n),
      )

      both : (b : Bool) → is_jump op ≡ b → (bl : ℕ) (done : List Op) → drop bl p.blocks ≡ (done ++ (cut_items at (Does op ∷ items)).head) ∷ (cut_items at (Does op ∷ items)).rest → Numbered at (if is_jump op then suc bl else bl) (not (is_jump op)) items → Placed items
          → Stands p at (record { block = bl; index = length done }) (Does op ∷ items)
      both true f bl done e n more =
          let e1 : drop bl p.blocks ≡ (done ++ op ∷ []) ∷ blocks_of (cut_items at items) = e ∙ ap (λ t. (done ++ (cut_before t op (cut_items at items)).head) ∷ (cut_before t op (cut_items at items)).rest) f in (
            front (suc bl),
            leads_on bl done op (blocks_of (cut_items at items)) e1,
            more.fresh (suc bl) (after_head p.blocks bl (done ++ op ∷ []) (blocks_of (cut_items at items)) e1) (subst (λ t. Numbered at (if t then suc bl else bl) (not t) items) f n),
          )
      both false f bl done e n more =
          inner bl done (cut_items at items).head refl (e ∙ ap (λ t. (done ++ (cut_before t op (cut_items at items)).head) ∷ (cut_before t op (cut_items at items)).rest) f) (subst (λ t. Numbered at (if t then suc bl else bl) (not t) items) f n) more

  placed : (items : List Item) → Placed items
  placed [] = record { fresh = λ bl e n. tt; within = λ bl done o more h e n. tt }
  placed (Label l ∷ items) = record {
    fresh = λ bl e n. (ap front (sym n.0), n.1, (placed items).fresh bl e n.2);
    within = λ bl done o more h e n. absurd (none o more h);
  }
    where
      none : (o : Op) (more : List Op) → [] ≡ o ∷ more → ⊥
      none o more h = cc
  placed (Does op ∷ items) = placed_does op items (placed items)
  placed (Jump l ∷ items) =
      let q = placed_does (eir.Jump (constant (at l))) items (placed items) in
      record { fresh = q.fresh; within = q.within }
  placed (JumpIf test l r v ∷ items) =
      let q = placed_does (eir.JumpIf test (constant (at l)) r v) items (placed items) in
      record { fresh = q.fresh; within = q.within }
  placed (MoveLabel r l ∷ items) =
      let q = placed_does (eir.Mov r (constant (at l))) items (placed items) in
      record { fresh = q.fresh; within = q.within }

-- ---- numbers of blocks

-- how many blocks there are with those that came before
abbrev end_of : (k : ℕ) (within : Bool) → Cut → ℕ
end_of k false c = k + length (blocks_of c)
end_of k true c = suc k + length c.rest

abbrev next : Bool → ℕ → ℕ
next b k = if b then suc k else k

same_end : (b within : Bool) (k : ℕ) (op : Op) (c : Cut) → end_of k within (cut_before b op c) ≡ end_of (next b k) (not b) c
same_end true true k op c = refl
same_end true false k op c = omega arith
same_end false true k op c = refl
same_end false false k op c = omega arith

other_label : (l name k m : ℕ) → suc l ≤ name → (if nat_eq l name then k else m) ≡ m
other_label l name k m le = ap (λ t. if t then k else m) (ne_eqb l name (λ (e : l ≡ name). absurd (omega (arith, e, le))))

this_label : (l k m : ℕ) → (if nat_eq l l then k else m) ≡ k
this_label l k m = ap (λ t. if t then k else m) (eq-eqb l l refl)

module _ (at : ℕ → ℕ) (most : ℕ) (small : most < 2 ^ 24) where
  -- the labels from this one on are at the blocks that are counted
  abbrev Agrees : ℕ → ℕ → Bool → List Item → Type 0
  Agrees low k within items = (name : ℕ) → low ≤ name → at name ≡ place_in k within items name

  numbers : (items : List Item) (low k : ℕ) (within : Bool) → Rises low items → Agrees low k within items → end_of k within (cut_items at items) ≤ most → Numbered at k within items
  numbers [] low k within r a le = tt
  numbers (Label l ∷ items) low k false r a le =
      let here : at l ≡ k = a l r.0 ∙ this_label l k (place_in k false items l) in
      (here, omega (arith, here, le, small), numbers items (suc l) k false r.1 (λ name le1. a name (omega (arith, le1, r.0)) ∙ other_label l name k (place_in k false items name) le1) le)
  numbers (Label l ∷ items) low k true r a le =
      let here : at l ≡ suc k = a l r.0 ∙ this_label l (suc k) (place_in (suc k) false items l) in
      (here, omega (arith, here, le, small), numbers items (suc l) (suc k) false r.1 (λ name le1. a name (omega (arith, le1, r.0)) ∙ other_label l name (suc k) (place_in (suc k) false items name) le1) le)
  numbers (Does op ∷ items) low k within r a le = numbers items low (next (is_jump op) k) (not (is_jump op)) r a (subst (λ z. z ≤ most) (same_end (is_jump op) within k op (cut_items at items)) le)
  numbers (Jump l ∷ items) low k within r a le = numbers items low (suc k) false r a (subst (λ z. z ≤ most) (same_end true within k (eir.Jump (constant (at l))) (cut_items at items)) le)
  numbers (JumpIf test l x v ∷ items) low k within r a le = numbers items low (suc k) false r a (subst (λ z. z ≤ most) (same_end true within k (eir.JumpIf test (constant (at l)) x v) (cut_items at items)) le)
  numbers (MoveLabel x l ∷ items) low k within r a le = numbers items low k true r a (subst (λ z. z ≤ most) (same_end false within k (eir.Mov x (constant (at l))) (cut_items at items)) le)

pub is_numbered : (items : List Item) (words : List Word) → Rises 0 items → length (linked items words).blocks < 2 ^ 24 → Numbered (block_at items) 0 false items
is_numbered items words r lt = numbers (block_at items) (length (linked items words).blocks) lt items 0 0 false r (λ name le. refl) (omega arith)

pub linked_stands : LinkedCodeStands
linked_stands = record {
  numbered = is_numbered;
  stands = λ items words r lt. (placed (linked items words) (block_at items) items).fresh 0 (drop_none (linked items words).blocks) (is_numbered items words r lt);
}
