-- What an emission answers.
use Rattle.std.proofs.Common.{ℕ, ◌^◌, ◌≤◌, List, Option, Ok, Err}
use Rattle.std.specs.Io.KnownBytes.{Appends}
use Rattle.mach_core.specs.Put.{GotPrefix}
use Rattle.eir_core.specs.Eir.{Eir, IsEir, size_of}
use Rattle.sim_trait.specs.declared.backend.EmitFault.TheVariants.{Write}
use Rattle.sim_trait.specs.Emit.{EmitAnswers}
use Rattle.sq_back.specs.Laws.{ImageSimulates, ImageIsSharp, StandsFor}
use Rattle.sq_back.specs.Text.{text_of}
use Rattle.sq_back.proofs.Lengths.{text_short}
use Rattle.sq_back.proofs.Spelled.{text_spells}

pub text_translates : (p : Eir) → ImageSimulates → ImageIsSharp → IsEir p → size_of p ≤ 2 ^ 16 → StandsFor p (text_of p)
text_translates p law sharp sound small = record {
  translates = record { short = text_short p small; spelled = text_spells p small; simulates = law p sound small };
  sharp = sharp p sound small;
}

-- all of it is out
pub answers_all : (p : Eir) (a b : Option (List ℕ)) (rose : Type 0) → ImageSimulates → ImageIsSharp → IsEir p → size_of p ≤ 2 ^ 16 → Appends a b (text_of p)
    → EmitAnswers {A = Unit {0}} (size_of p) (2 ^ 16) rose (StandsFor p) a b (Ok tt)
answers_all p a b rose law sharp sound small out = (small, (text_of p, out, text_translates p law sharp sound small))

-- a front of it is out
pub answers_front : (p : Eir) (a b : Option (List ℕ)) (rose : Type 0) → ImageSimulates → ImageIsSharp → IsEir p → size_of p ≤ 2 ^ 16 → rose → GotPrefix a b (text_of p)
    → EmitAnswers {A = Unit {0}} (size_of p) (2 ^ 16) rose (StandsFor p) a b (Err Write)
answers_front p a b rose law sharp sound small rises got = (small, rises, (text_of p, got, text_translates p law sharp sound small))
