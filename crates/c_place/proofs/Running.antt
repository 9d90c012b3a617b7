-- Code that stands at a place of a program, and how it runs.
use Rattle.std.proofs.Common.{◌≡◌, ℕ, suc, ◌+◌, ◌<◌, Bool, true, false, cond, List, [], ◌∷◌, ◌++◌, length, Option, Some, refl, sym, ap, ◌∙◌, arith, append-nil, if◌then◌else◌}
use Rattle.std.proofs.lemmas.Bool.{lt-ltb}
use Rattle.mach_core.specs.declared.machine.Status.TheVariants.{Going, Ended}
use Rattle.mach_core.specs.Rule.{Moment, applied, run_from, input_at}
use Rattle.mach_core.proofs.Runs.{applied-going, run_from-add}
use Rattle.eir_core.specs.declared.ops.Op.{Op}
use Rattle.eir_core.specs.declared.ops.Op.TheVariants.{Mov, Add, Sub, Load, Store, Putc, Getc, Exit, Set, Jump, JumpIf}
use Rattle.eir_core.specs.Eir.{Eir, is_jump}
use Rattle.eir_core.specs.Memory.{Memory, word_at, with_word}
use Rattle.eir_core.specs.Step.{Regs, Config, reg_of, with_reg, value_of, holds, op_in, onward, after, takes, bytes_of, eir_rule}
use Rattle.word24.specs.Word.{sum_word, difference_word}
use Rattle.c_place.specs.Code.{jumps}
use Rattle.c_place.specs.Place.{Place, Machine, Has, Stands, front, behind, behind_all, moment, IsQuiet, AreQuiet, made, made_all}
use Rattle.c_place.specs.Laws.{OtherOperations}

pub behind_append : (s : Place) (xs ys : List Op) → behind_all s (xs ++ ys) ≡ behind_all (behind_all s xs) ys
behind_append s [] ys = refl
behind_append s (x ∷ xs) ys = behind_append (behind s x) xs ys

pub stands_first : (p : Eir) (s : Place) (xs ys : List Op) → Stands p s (xs ++ ys) → Stands p s xs
stands_first p s [] ys h = tt
stands_first p s (x ∷ xs) ys h = (h.0, stands_first p (behind s x) xs ys h.1)

pub stands_rest : (p : Eir) (s : Place) (xs ys : List Op) → Stands p s (xs ++ ys) → Stands p (behind_all s xs) ys
stands_rest p s [] ys h = h
stands_rest p s (x ∷ xs) ys h = stands_rest p (behind s x) xs ys h.1

pub behind_block : (s : Place) (xs : List Op) → (behind_all s xs).block ≡ s.block + jumps xs
behind_block s [] = omega arith
behind_block s (x ∷ xs) = elim (is_jump x) as (λ b. (behind_all (if b then record { block = suc s.block; index = 0 } else record { block = s.block; index = s.index + 1 }) xs).block ≡ s.block + (if b then suc (jumps xs) else jumps xs)) [
  | true ↦ let e = behind_block (record { block = suc s.block; index = 0 }) xs in omega (arith, e)
  | false ↦ let e = behind_block (record { block = s.block; index = s.index + 1 }) xs in omega (arith, e)
]

abbrev stepped_by : Eir → List ℕ → Option Op → Moment Config → Moment Config
stepped_by p input o mo = record {
  config = after p mo.config o (cond (takes o) (input_at input mo.taken) 0);
  taken = cond (takes o) (mo.taken + 1) mo.taken;
  output = mo.output ++ bytes_of mo.config.regs o;
}

abbrev at_config : Config → ℕ → List ℕ → Moment Config
at_config c t o = record { config = c; taken = t; output = o }

abbrev config : Place → Regs → Memory → Config
config s r m = record { block = s.block; index = s.index; regs = r; memory = m }

module _ (p : Eir) (input : List ℕ) where
  one : (s : Place) (m : Machine) (taken : ℕ) (output : List ℕ) (op : Op) → Has p s op → applied (eir_rule p) input (moment s m taken output) ≡ stepped_by p input (Some op) (moment s m taken output)
  one s m taken output op h =
      let going : (eir_rule p).standing (moment s m taken output).config ≡ Going = ap (λ b. cond b Going Ended) (lt-ltb s.block (length p.blocks) h.inside) in
      applied-going (eir_rule p) input (moment s m taken output) going ∙ ap (λ o. stepped_by p input o (moment s m taken output)) h.here

  -- a quiet operation
  pub one_quiet : (s : Place) (m : Machine) (taken : ℕ) (output : List ℕ) (op : Op) → IsQuiet op → Has p s op → applied (eir_rule p) input (moment s m taken output) ≡ moment (behind s op) (made op m) taken output
  one_quiet s m taken output op q h = one s m taken output op h ∙ goes op q h
    where
      on : (op : Op) (r : Regs) (mem : Memory) (c : Config) → c ≡ config (behind s op) r mem → at_config c taken (output ++ []) ≡ moment (behind s op) (record { regs = r; memory = mem }) taken output
      on op r mem c e = ap (λ (o : List ℕ). at_config c taken o) (append-nil output) ∙ ap (λ (x : Config). at_config x taken output) e

      goes : (op : Op) → IsQuiet op → Has p s op → stepped_by p input (Some op) (moment s m taken output) ≡ moment (behind s op) (made op m) taken output
      goes (Mov r v) q h = on (Mov r v) _ _ _ (h.goes _ _)
      goes (Add r v) q h = on (Add r v) _ _ _ (h.goes _ _)
      goes (Sub r v) q h = on (Sub r v) _ _ _ (h.goes _ _)
      goes (Load r v) q h = on (Load r v) _ _ _ (h.goes _ _)
      goes (Store r v) q h = on (Store r v) _ _ _ (h.goes _ _)
      goes (Set test r v) q h = on (Set test r v) _ _ _ (h.goes _ _)
      goes (Putc v) q h = absurd q
      goes (Getc r) q h = absurd q
      goes Exit q h = absurd q
      goes (Jump v) q h = absurd q
      goes (JumpIf test v r w) q h = absurd q

  pub all_quiet : (s : Place) (m : Machine) (taken : ℕ) (output : List ℕ) (ops : List Op) → AreQuiet ops → Stands p s ops → run_from (eir_rule p) input (moment s m taken output) (length ops) ≡ moment (behind_all s ops) (made_all ops m) taken output
  all_quiet s m taken output [] q h = refl
  all_quiet s m taken output (op ∷ ops) q h =
      let e : 1 + length ops ≡ length (op ∷ ops) = omega arith in
      ap (run_from (eir_rule p) input (moment s m taken output)) (sym e)
      ∙ (run_from-add (eir_rule p) input (moment s m taken output) 1 (length ops)
      ∙ (ap (λ x. run_from (eir_rule p) input x (length ops)) (one_quiet s m taken output op q.0 h.0)
      ∙ all_quiet (behind s op) (made op m) taken output ops q.1 h.1))

  -- the other operations
  pub one_put : (s : Place) (m : Machine) (taken : ℕ) (output : List ℕ) (v : _) → Has p s (Putc v) → applied (eir_rule p) input (moment s m taken output) ≡ moment (behind s (Putc v)) m taken (output ++ bytes_of m.regs (Some (Putc v)))
  one_put s m taken output v h = one s m taken output (Putc v) h ∙ ap (λ (x : Config). at_config x taken (output ++ bytes_of m.regs (Some (Putc v)))) (h.goes _ _)

  pub one_get : (s : Place) (m : Machine) (taken : ℕ) (output : List ℕ) (r : _) → Has p s (Getc r) → applied (eir_rule p) input (moment s m taken output) ≡ moment (behind s (Getc r)) (record m { regs = with_reg m.regs r (input_at input taken) }) (taken + 1) output
  one_get s m taken output r h = one s m taken output (Getc r) h ∙ (ap (λ (o : List ℕ). at_config (stepped_by p input (Some (Getc r)) (moment s m taken output)).config (taken + 1) o) (append-nil output) ∙ ap (λ (x : Config). at_config x (taken + 1) output) (h.goes _ _))

  pub one_jump : (s : Place) (m : Machine) (taken : ℕ) (output : List ℕ) (v : _) → Has p s (Jump v) → applied (eir_rule p) input (moment s m taken output) ≡ moment (front (value_of m.regs v)) m taken output
  one_jump s m taken output v h = one s m taken output (Jump v) h ∙ ap (λ (o : List ℕ). at_config _ taken o) (append-nil output)

  pub one_jump_if : (s : Place) (m : Machine) (taken : ℕ) (output : List ℕ) (test : _) (v : _) (r : _) (w : _) (b : Bool) → holds test (reg_of m.regs r) (value_of m.regs w) ≡ b → Has p s (JumpIf test v r w)
      → applied (eir_rule p) input (moment s m taken output) ≡ moment (front (if b then value_of m.regs v else suc s.block)) m taken output
  one_jump_if s m taken output test v r w true e h =
      one s m taken output (JumpIf test v r w) h ∙ (ap (λ (o : List ℕ). at_config _ taken o) (append-nil output) ∙ ap (λ b. at_config (cond b (config (front (value_of m.regs v)) m.regs m.memory) (onward p (moment s m taken output).config m.regs m.memory)) taken output) e)
  one_jump_if s m taken output test v r w false e h =
      one s m taken output (JumpIf test v r w) h ∙ (ap (λ (o : List ℕ). at_config _ taken o) (append-nil output) ∙ (ap (λ b. at_config (cond b (config (front (value_of m.regs v)) m.regs m.memory) (onward p (moment s m taken output).config m.regs m.memory)) taken output) e ∙ ap (λ (x : Config). at_config x taken output) (h.goes _ _)))

  pub one_exit : (s : Place) (m : Machine) (taken : ℕ) (output : List ℕ) → Has p s Exit → applied (eir_rule p) input (moment s m taken output) ≡ moment (front (length p.blocks)) m taken output
  one_exit s m taken output h = one s m taken output Exit h ∙ ap (λ (o : List ℕ). at_config _ taken o) (append-nil output)

  pub others : (s : Place) (m : Machine) (taken : ℕ) (output : List ℕ) → OtherOperations p input s m taken output
  others s m taken output = record {
    put = one_put s m taken output;
    get = one_get s m taken output;
    exit = one_exit s m taken output;
    jump = one_jump s m taken output;
    jump_if = one_jump_if s m taken output;
  }
