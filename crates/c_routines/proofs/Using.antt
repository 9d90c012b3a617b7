-- A routine that is used within another.
use Rattle.std.proofs.Common.{◌≡◌, ◌⊎◌, ℕ, ◌+◌, ◌%◌, ◌^◌, ◌<◌, ◌≤◌, List, [], ◌∷◌, ◌++◌, length, append-nil, inl, inr, sym, ap, ◌∙◌, subst, arith, mod-eq_of_lt}
use Rattle.mach_core.specs.Reaches.{Reaches}
use Rattle.mach_core.proofs.Reaching.{and_then, one_step, stays_there}
use Rattle.eir_core.specs.declared.ops.Reg.TheVariants.{SP}
use Rattle.eir_core.specs.declared.ops.Operand.TheVariants.{Reg as register}
use Rattle.eir_core.specs.declared.ops.Op.{Op}
use Rattle.eir_core.specs.declared.ops.Op.TheVariants.{Mov, Load, Store}
use Rattle.eir_core.specs.Eir.{Eir}
use Rattle.eir_core.specs.Memory.{Memory, word_at}
use Rattle.eir_core.specs.Step.{eir_rule}
use Rattle.eir_core.proofs.WordAt.{word_at-with_word_same, word_at-with_word_other}
use Rattle.c_place.specs.Place.{Place, Machine, front, moment, made, made_all, AreQuiet}
use Rattle.c_routines.specs.declared.item.Item.{Item}
use Rattle.c_routines.specs.Items.{Stands, constant, does}
use Rattle.c_routines.specs.Lands.{Kept, Lands, Serves}
use Rattle.c_routines.specs.Using.{entered, left_again, using}
use Rattle.c_routines.proofs.Steps.{one_quiet, one_jump, kept_then, kept_store}

pub kept_more : {first words more : ℕ} {old new : Memory} → words ≤ more → Kept first words old new → Kept first more old new
kept_more {first} {words} {more} le k = record { same = λ q o. k.same q (wider q o) }
  where
    wider : (q : ℕ) → (q < first) ⊎ (first + more ≤ q) → (q < first) ⊎ (first + words ≤ q)
    wider q (inl h) = inl h
    wider q (inr h) = inr (omega (arith, h, le))

-- what stands after operations, and after the use of a routine
pub past : (p : Eir) (at : ℕ → ℕ) (ops : List Op) (rest : List Item) (s : Place) → Stands p at s (does ops rest) → (t : Place) × Stands p at t rest
past p at [] rest s h = (s, h)
past p at (op ∷ ops) rest s h = past p at ops rest h.0 h.2

pub past_using : (p : Eir) (at : ℕ → ℕ) (entry back first : ℕ) (before after : List Op) (rest : List Item) (s : Place) → Stands p at s (using entry back first before after rest) → (t : Place) × Stands p at t rest
past_using p at entry back first before after rest s h =
    let x = past p at before (entered entry back first (does after (left_again first rest))) s h in
    let y = past p at after (left_again first rest) x.1.2.2.0 x.1.2.2.2.2 in
    (y.1.2.0, y.1.2.2)

module _ (p : Eir) (at : ℕ → ℕ) (input : List ℕ) (taken : ℕ) (output : List ℕ) where
  -- operations that are quiet, and the place after them
  pub record After (ops : List Op) (rest : List Item) (s : Place) (m : Machine) : Type 0 where
    pub place : Place
    pub stands : Stands p at place rest
    pub comes : Reaches (eir_rule p) input (moment s m taken output) (moment place (made_all ops m) taken output) 0 (length ops)

  pub all_quiet : (ops : List Op) (rest : List Item) (s : Place) (m : Machine) → AreQuiet ops → Stands p at s (does ops rest) → After ops rest s m
  all_quiet [] rest s m q h = record { place = s; stands = h; comes = stays_there (eir_rule p) input (moment s m taken output) }
  all_quiet (op ∷ ops) rest s m q h =
      let more = all_quiet ops rest h.0 (made op m) q.1 h.2 in
      record {
        place = more.place;
        stands = more.stands;
        comes = and_then 0 (length (op ∷ ops)) (one_step (eir_rule p) input (moment s m taken output) (moment h.0 (made op m) taken output) (one_quiet p input s h.0 m taken output op q.0 h.1)) more.comes (omega arith) (omega arith);
      }

  -- what a routine leaves, and what the code after it makes of that
  pub record Suits (first : ℕ) (before after : List Op) (m : Machine) (Makes : ℕ → ℕ → ℕ → ℕ → Type 0) (Result : ℕ → ℕ → Type 0) : Type 0 where
    pub d : (made_all before m).regs.d ≡ m.regs.d
    pub sp : (made_all before m).regs.sp ≡ m.regs.sp
    pub bp : (made_all before m).regs.bp ≡ m.regs.bp
    pub memory : Kept first 26 m.memory (made_all before m).memory
    pub d_after : (n : Machine) → (made_all after n).regs.d ≡ n.regs.d
    pub bp_after : (n : Machine) → (made_all after n).regs.bp ≡ n.regs.bp
    pub memory_after : (n : Machine) → (made_all after n).memory ≡ n.memory
    pub result : (n : Machine) → word_at n.memory (first + 25) ≡ word_at (made_all before m).memory (first + 25) → Makes (made_all before m).regs.a (made_all before m).regs.b n.regs.a n.regs.c → Result (made_all after n).regs.a (made_all after n).regs.c

  pub used : (first inner entry back most : ℕ) (Needs : ℕ → ℕ → Type 0) (Makes : ℕ → ℕ → ℕ → ℕ → Type 0) (Result : ℕ → ℕ → Type 0) (before after : List Op) (rest : List Item) (s : Place) (m : Machine)
      → first + 26 ≤ 2 ^ 24 → at entry < 2 ^ 24 → inner ≤ 24 → Serves p first inner (front (at entry)) Needs (λ x y. []) Makes most → AreQuiet before → AreQuiet after → Stands p at s (using entry back first before after rest)
      → (made_all before m).regs.a < 2 ^ 24 → (made_all before m).regs.b < 2 ^ 24 → Needs (made_all before m).regs.a (made_all before m).regs.b → Suits first before after m Makes Result
      → Lands p input first 26 s m taken output output (length before + most + length after + 5) Result
  used first inner entry back most Needs Makes Result before after rest s m room small few serves q1 q2 h word_a word_b needs suits =
      let keep : ℕ = (first + 24) % 2 ^ 24 in
      let keep_is : keep ≡ first + 24 = mod-eq_of_lt (omega (arith, room)) in
      let x = all_quiet before (entered entry back first (does after (left_again first rest))) s m q1 h in
      let h1 = x.stands in
      let m1 : Machine = made_all before m in
      let m2 : Machine = made (Store SP (constant (first + 24))) m1 in
      let m3 : Machine = made (Mov SP (constant (at back))) m2 in
      let l = serves.lands input m3 taken output word_a word_b needs in
      let n : Machine = record { regs = l.regs; memory = l.memory } in
      let h2 = h1.2.2.2 in
      let y = all_quiet after (left_again first rest) h1.2.2.0 n q2 h2.2 in
      let n1 : Machine = made_all after n in
      let n2 : Machine = made (Load SP (constant (first + 24))) n1 in
      let link : word_at l.memory keep ≡ m.regs.sp = l.kept.same keep (inr (omega (arith, keep_is, few))) ∙ (word_at-with_word_same m1.memory keep m1.regs.sp ∙ suits.sp) in
      let sp_now : n2.regs.sp ≡ m.regs.sp = ap (λ z. word_at z keep) (suits.memory_after n) ∙ link in
      let kept1 : Kept first 26 m.memory m2.memory = kept_then suits.memory (kept_store first 26 24 keep m1.regs.sp m1.memory (omega arith) keep_is) in
      let kept2 : Kept first 26 m2.memory l.memory = kept_more {first = first} {words = inner} {more = 26} (omega (arith, few)) l.kept in
      let other : first + 25 ≡ keep → ⊥ = λ z. absurd (omega (arith, z, keep_is)) in
      let spare : word_at l.memory (first + 25) ≡ word_at m1.memory (first + 25) = l.kept.same (first + 25) (inr (omega (arith, few))) ∙ word_at-with_word_other m1.memory keep m1.regs.sp (first + 25) other in
      let stored = and_then 0 (length before + 1) x.comes (one_step (eir_rule p) input (moment x.place m1 taken output) (moment h1.0 m2 taken output) (one_quiet p input x.place h1.0 m1 taken output (Store SP (constant (first + 24))) tt h1.1)) (omega arith) (omega arith) in
      let linked = and_then 0 (length before + 2) stored (one_step (eir_rule p) input (moment h1.0 m2 taken output) (moment h1.2.0 m3 taken output) (one_quiet p input h1.0 h1.2.0 m2 taken output (Mov SP (constant (at back))) tt h1.2.1)) (omega arith) (omega arith) in
      let gone = and_then 0 (length before + 3) linked (one_step (eir_rule p) input (moment h1.2.0 m3 taken output) (moment (front (at entry)) m3 taken output) (one_jump p input h1.2.0 h1.2.2.0 m3 taken output (constant (at entry)) h1.2.2.1 ∙ ap (λ z. moment (front z) m3 taken output) (mod-eq_of_lt small))) (omega arith) (omega arith) in
      let there : moment (front m3.regs.sp) n taken (output ++ []) ≡ moment h1.2.2.0 n taken output = ap (λ z. moment (front z) n taken (output ++ [])) (mod-eq_of_lt h2.1) ∙ (ap (λ z. moment z n taken (output ++ [])) (sym h2.0) ∙ ap (λ z. moment h1.2.2.0 n taken z) (append-nil output)) in
      let served = and_then 1 (length before + 3 + most) gone (subst (λ z. Reaches (eir_rule p) input (moment (front (at entry)) m3 taken output) z 1 most) there l.comes) (omega arith) (omega arith) in
      let made_back = and_then 1 (length before + 3 + most + length after) served y.comes (omega arith) (omega arith) in
      let loaded = and_then 1 (length before + 4 + most + length after) made_back (one_step (eir_rule p) input (moment y.place n1 taken output) (moment y.stands.0 n2 taken output) (one_quiet p input y.place y.stands.0 n1 taken output (Load SP (constant (first + 24))) tt y.stands.1)) (omega arith) (omega arith) in
      let over = and_then 1 (length before + most + length after + 5) loaded (one_step (eir_rule p) input (moment y.stands.0 n2 taken output) (moment (front m.regs.sp) n2 taken output) (one_jump p input y.stands.0 y.stands.2.0 n2 taken output (register SP) y.stands.2.1 ∙ ap (λ z. moment (front z) n2 taken output) sp_now)) (omega arith) (omega arith) in
      record {
        regs = n2.regs;
        memory = n2.memory;
        comes = over;
        d = suits.d_after n ∙ (l.d ∙ suits.d);
        sp = sp_now;
        bp = suits.bp_after n ∙ (l.bp ∙ suits.bp);
        kept = subst (λ z. Kept first 26 m.memory z) (sym (suits.memory_after n)) (kept_then kept1 kept2);
        result = suits.result n spare l.result;
      }
