-- A text spells one program, or is refused in one way.
use Rattle.std.proofs.Common.{◌≡◌, ℕ, ◌^◌, ◌<◌, ◌≤◌, Bool, true, false, nat_le, if◌then◌else◌, List, Option, Some, None, Result, Ok, Err, refl, sym, ap, ◌∙◌, ◌⊎◌, inl, inr, arith}
use Rattle.std.specs.Prelude.{IfOk, IfErr}
use Rattle.std.proofs.lemmas.Bool.{le-leb, lt-leb, leb-true, cases_lt}
use Rattle.eir_core.specs.Eir.{Eir, size_of}
use Rattle.eir_text.specs.declared.fault.EirFault.{EirFault}
use Rattle.eir_text.specs.declared.fault.EirFault.TheVariants.{BadLine, NumberRange, DuplicateLabel, UnknownLabel, TooLarge, Memory}
use Rattle.eir_text.specs.Sections.{placed_of}
use Rattle.eir_text.specs.Refusals.{or_else}
use Rattle.eir_text.specs.Spells.{program_said, Spells, refusal_of}
use Rattle.eir_text.proofs.RefusalLemmas.{or_else_none, lines_part, names_part, spelled_from, unrefused_lines, unrefused_names, refusal_by_size}

-- a text that spells a program that is not too large is not refused
pub no_refusal : (text : List ℕ) (p : Eir) → Spells text p → size_of p ≤ 2 ^ 21 → refusal_of text ≡ None
no_refusal text p s small =
    let said : size_of p ≡ size_of (program_said (placed_of text)) = ap (λ (q : Eir). size_of q) s.program in
    let fits : size_of (program_said (placed_of text)) ≤ 2 ^ 21 = omega arith in
    refusal_by_size text (unrefused_lines text p s) (unrefused_names text p s) ∙ ap (λ b. if b then None else Some TooLarge) (le-leb (size_of (program_said (placed_of text))) (2 ^ 21) fits)

-- and one that is too large is refused as such
pub spelled_too_large : (text : List ℕ) (p : Eir) → Spells text p → 2 ^ 21 < size_of p → refusal_of text ≡ Some TooLarge
spelled_too_large text p s large =
    let said : size_of p ≡ size_of (program_said (placed_of text)) = ap (λ (q : Eir). size_of q) s.program in
    let more : 2 ^ 21 < size_of (program_said (placed_of text)) = omega arith in
    refusal_by_size text (unrefused_lines text p s) (unrefused_names text p s) ∙ ap (λ b. if b then None else Some TooLarge) (lt-leb (size_of (program_said (placed_of text))) (2 ^ 21) more)

-- a text that is not refused spells what its lines say, which is not too large
pub unrefused_spelled : (text : List ℕ) → refusal_of text ≡ None → Spells text (program_said (placed_of text)) × (size_of (program_said (placed_of text)) ≤ 2 ^ 21)
unrefused_spelled text h =
    let size : Option EirFault = if nat_le (size_of (program_said (placed_of text))) (2 ^ 21) then None else Some TooLarge in
    let p = or_else_none (lines_part text) (or_else (names_part text) size) h in
    let q = or_else_none (names_part text) size p.1 in
    (spelled_from text p.0 q.0, leb-true (size_of (program_said (placed_of text))) (2 ^ 21) (at (nat_le (size_of (program_said (placed_of text))) (2 ^ 21)) q.1)) where
      at : (b : Bool) → (if b then None else Some TooLarge) ≡ None → b ≡ true
      at true e = refl
      at false e = absurd cc

-- a text spells one program at most
pub one_program : (text : List ℕ) (p q : Eir) → Spells text p → Spells text q → p ≡ q
one_program text p q s t = s.program ∙ sym t.program

memory_or : (e : EirFault) → (e ≡ Memory) ⊎ (e ≡ Memory → ⊥)
memory_or (BadLine k) = inr (λ q. cc)
memory_or (NumberRange k) = inr (λ q. cc)
memory_or (DuplicateLabel k) = inr (λ q. cc)
memory_or (UnknownLabel k) = inr (λ q. cc)
memory_or TooLarge = inr (λ q. cc)
memory_or Memory = inl refl

-- what was read, where a program of the right size is spelled, and a fault is the refusal
pub record IsRead (text : List ℕ) (r : Result Eir EirFault) : Type 0 where
  pub program : IfOk r (λ p. Spells text p)
  pub small : IfOk r (λ p. size_of p ≤ 2 ^ 21)
  pub fault : IfErr r (λ e. (e ≡ Memory → ⊥) → refusal_of text ≡ Some e)

pub read_spelled : (text : List ℕ) (r : Result Eir EirFault) → IsRead text r → (p : Eir) → Spells text p → size_of p ≤ 2 ^ 21 → (r ≡ Ok p) ⊎ (r ≡ Err Memory)
read_spelled text (Ok q) h p s l = inl (ap Ok (one_program text q p h.program s))
read_spelled text (Err f) h p s l = at (memory_or f) where
  at : (f ≡ Memory) ⊎ (f ≡ Memory → ⊥) → (◌≡◌ {A = Result Eir EirFault} (Err f) (Ok p)) ⊎ (◌≡◌ {A = Result Eir EirFault} (Err f) (Err Memory))
  at (inl q) = inr (ap Err q)
  at (inr n) = let a : refusal_of text ≡ Some f = h.fault n in let b : refusal_of text ≡ None = no_refusal text p s l in absurd cc

pub read_refusal : (text : List ℕ) (r : Result Eir EirFault) → IsRead text r → (e : EirFault) → refusal_of text ≡ Some e → (r ≡ Err e) ⊎ (r ≡ Err Memory)
read_refusal text (Ok q) h e x = let b : refusal_of text ≡ None = no_refusal text q h.program h.small in absurd cc
read_refusal text (Err f) h e x = at (memory_or f) where
  at : (f ≡ Memory) ⊎ (f ≡ Memory → ⊥) → (◌≡◌ {A = Result Eir EirFault} (Err f) (Err e)) ⊎ (◌≡◌ {A = Result Eir EirFault} (Err f) (Err Memory))
  at (inl q) = inr (ap Err q)
  at (inr n) = let a : refusal_of text ≡ Some f = h.fault n in let same : f ≡ e = cc in inl (ap Err same)
