-- One application of two programs that do the same at a configuration.
use Rattle.std.proofs.Common.{◌≡◌, ℕ, ◌+◌, cond, List, ◌++◌, length, nat_lt, refl, ap, ◌∙◌}
use Rattle.mach_core.specs.declared.machine.Status.{Status}
use Rattle.mach_core.specs.declared.machine.Status.TheVariants.{Going, Ended}
use Rattle.mach_core.specs.Rule.{Moment, input_at, fed_at, if_going, applied}
use Rattle.eir_core.specs.Eir.{Eir}
use Rattle.eir_core.specs.Step.{Config, op_at, after, takes, bytes_of, eir_rule}

pub record StepsAs (p q : Eir) (c : Config) : Type 0 where
  pub count : length q.blocks ≡ length p.blocks
  pub takes : takes (op_at q c) ≡ takes (op_at p c)
  pub writes : bytes_of c.regs (op_at q c) ≡ bytes_of c.regs (op_at p c)
  pub leads : (byte : ℕ) → after q c (op_at q c) byte ≡ after p c (op_at p c) byte

abbrev of_parts : Config → ℕ → List ℕ → Moment Config
of_parts c taken output = record { config = c; taken = taken; output = output }

same_moment : (m : Moment Config) (status status' : Status) (c c' : Config) (t t' : ℕ) (o o' : List ℕ)
    → status' ≡ status → c' ≡ c → t' ≡ t → o' ≡ o → if_going status' (of_parts c' t' o') m ≡ if_going status (of_parts c t o) m
same_moment m status status' c c' t t' o o' a b d e = rw (a, b, d, e) refl

pub applied-as : (p q : Eir) (input : List ℕ) (m : Moment Config) → StepsAs p q m.config → applied (eir_rule q) input m ≡ applied (eir_rule p) input m
applied-as p q input m s =
    let c = m.config in
    let fed : fed_at (eir_rule q) input m ≡ fed_at (eir_rule p) input m = ap (λ b. cond b (input_at input m.taken) 0) s.takes in
    same_moment m _ _ _ _ _ _ _ _
    (ap (λ n. cond (nat_lt c.block n) Going Ended) s.count)
    (s.leads (fed_at (eir_rule q) input m) ∙ ap (λ byte. after p c (op_at p c) byte) fed)
    (ap (λ b. cond b (m.taken + 1) m.taken) s.takes)
    (ap (λ bytes. m.output ++ bytes) s.writes)
