-- What an emission answers.
use Rattle.std.proofs.Common.{◌≡◌, ℕ, ◌^◌, ◌≤◌, List, [], ◌++◌, Option, Result, Ok, Err, sym, ap, subst, ◌∙◌}
use Rattle.std.specs.Io.KnownBytes.{Appends}
use Rattle.mach_core.specs.Put.{Passes, GotPrefix}
use Rattle.mach_core.proofs.Sent.{Appends-flush, GotPrefix-flush}
use Rattle.eir_core.specs.Eir.{Eir, IsEir, size_of}
use Rattle.sim_trait.specs.declared.backend.EmitFault.{EmitFault}
use Rattle.sim_trait.specs.declared.backend.EmitFault.TheVariants.{TooLarge, Write, Memory}
use Rattle.sim_trait.specs.Emit.{EmitAnswers}
use Rattle.ws_back.specs.Code.{code_of}
use Rattle.ws_back.specs.Text.{text_of}
use Rattle.ws_back.specs.Laws.{StandsFor}
use Rattle.ws_back.specs.Pieces.{IsHanded}
use Rattle.ws_back.proofs.Simulation.{code_simulates, code_is_sharp}
use Rattle.ws_back.proofs.Good.{text_short}
use Rattle.ws_back.proofs.Sound.{text_spells}

pub text_translates : (p : Eir) → IsEir p → size_of p ≤ 2 ^ 17 → StandsFor p (text_of (code_of p))
text_translates p sound small = record {
  translates = record { short = text_short p small; spelled = text_spells p small; simulates = code_simulates p sound small };
  sharp = code_is_sharp p sound small;
}

-- handing the text on was stopped
pub answers_stopped : (p : Eir) (a b : Option (List ℕ)) (rose : Type 0) (old held : List ℕ) (e : EmitFault) (r : Result (Unit {0}) EmitFault) → IsEir p → size_of p ≤ 2 ^ 17 → old ≡ [] → (f : EmitFault) × (r ≡ Err f) × (f ≡ e)
    → IsHanded a b rose (old ++ text_of (code_of p)) held (Err e) → EmitAnswers (size_of p) (2 ^ 17) rose (StandsFor p) a b r
answers_stopped p a b rose old held e r sound small none is h =
    subst (λ y. EmitAnswers (size_of p) (2 ^ 17) rose (StandsFor p) a b y) (sym (is.1 ∙ ap (λ y. Err y) is.2))
    (stopped e (subst (λ (bs : List ℕ). IsHanded a b rose (bs ++ text_of (code_of p)) held (Err e)) none h))
  where
    stopped : (e : EmitFault) → IsHanded a b rose (text_of (code_of p)) held (Err e) → EmitAnswers {A = Unit {0}} (size_of p) (2 ^ 17) rose (StandsFor p) a b (Err e)
    stopped (TooLarge n) h = absurd h
    stopped Write h = (small, h.0, (text_of (code_of p), h.1, text_translates p sound small))
    stopped Memory h = (small, (text_of (code_of p), h, text_translates p sound small))

-- all of it is out
pub answers_all : (p : Eir) (a b c : Option (List ℕ)) (rose : Type 0) (old held : List ℕ) → IsEir p → size_of p ≤ 2 ^ 17 → old ≡ [] → Passes a b (old ++ text_of (code_of p)) held → Appends b c held
    → EmitAnswers {A = Unit {0}} (size_of p) (2 ^ 17) rose (StandsFor p) a c (Ok tt)
answers_all p a b c rose old held sound small none passed out =
    (small, (text_of (code_of p), Appends-flush a b c (text_of (code_of p)) held (subst (λ (bs : List ℕ). Passes a b (bs ++ text_of (code_of p)) held) none passed) out, text_translates p sound small))

-- the last bytes are not
pub answers_unflushed : (p : Eir) (a b c : Option (List ℕ)) (rose : Type 0) (old held : List ℕ) → IsEir p → size_of p ≤ 2 ^ 17 → old ≡ [] → rose → Passes a b (old ++ text_of (code_of p)) held → GotPrefix b c held
    → EmitAnswers {A = Unit {0}} (size_of p) (2 ^ 17) rose (StandsFor p) a c (Err Write)
answers_unflushed p a b c rose old held sound small none rises passed got =
    (small, rises, (text_of (code_of p), GotPrefix-flush a b c (text_of (code_of p)) held (subst (λ (bs : List ℕ). Passes a b (bs ++ text_of (code_of p)) held) none passed) got, text_translates p sound small))
