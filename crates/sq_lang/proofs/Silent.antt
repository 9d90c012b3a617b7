-- A step that meets a fault takes nothing and writes nothing.
use Rattle.std.proofs.Common.{◌≡◌, ℕ, false, List, [], Option, Some, None, ℤ, pos, negsuc, ◌+ℤ◌, refl}
use Rattle.mach_core.specs.declared.machine.Status.TheVariants.{Going}
use Rattle.mach_core.specs.Rule.{IsFault, FaultsAreSilent}
use Rattle.sq_lang.specs.declared.act.Act.{Act}
use Rattle.sq_lang.specs.declared.act.Act.TheVariants.{Take, Write, Subtract, Stop}
use Rattle.sq_lang.specs.Step.{Config, standing_of, act_at, after, takes, bytes_of, sq_rule}

-- three words on there is no fault
no_fault : (fault : Option ℕ) (p : ℤ) → standing_of fault p ≡ Going → IsFault (standing_of fault (p +ℤ pos 3)) → ⊥
no_fault (Some code) p g f = cc
no_fault None (pos p) g f = f
no_fault None (negsuc p) g f = cc

quiet_takes : (c : Config) (act : Act) (byte : ℕ) → standing_of c.fault c.address ≡ Going → IsFault (standing_of (after c act byte).fault (after c act byte).address) → takes act ≡ false
quiet_takes c (Take b) byte g f = absurd (no_fault c.fault c.address g f)
quiet_takes c (Write a) byte g f = refl
quiet_takes c (Subtract a b target) byte g f = refl
quiet_takes c (Stop code) byte g f = refl

quiet_writes : (c : Config) (act : Act) (byte : ℕ) → standing_of c.fault c.address ≡ Going → IsFault (standing_of (after c act byte).fault (after c act byte).address) → bytes_of c.cells act ≡ []
quiet_writes c (Take b) byte g f = refl
quiet_writes c (Write a) byte g f = absurd (no_fault c.fault c.address g f)
quiet_writes c (Subtract a b target) byte g f = refl
quiet_writes c (Stop code) byte g f = refl

pub silent : (program : List ℤ) → FaultsAreSilent (sq_rule program)
silent program = record {
  takes = λ c byte g f. quiet_takes c (act_at c) byte g f;
  writes = λ c byte g f. quiet_writes c (act_at c) byte g f;
}
