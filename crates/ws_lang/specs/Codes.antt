-- For proofs only: codes of what a program is at.
use Rattle.std.specs.Prelude.{◌≡◌, ◌⊎◌, ℕ, zero, suc, Bool, List, ℤ, Option, refl}
use Rattle.std.specs.Coded.{Coded, code_by, coded×, coded⊎, coded_ℕ, coded_ℤ, coded_bool, coded_list, coded_option}
use Rattle.std.proofs.Common.{inl, inr}
use Rattle.std.specs.FinMap as map
use Rattle.mach_core.specs.declared.machine.Status.{Status}
use Rattle.mach_core.specs.declared.machine.Status.TheVariants.{Going, Ended, Fault}
use Rattle.ws_lang.specs.Step.{Heap, Seen, Blanks, Digits, Outside, Reading, Config}

abbrev from_seen : Seen → ℕ ⊎ (Bool × ℕ)
from_seen Blanks = inl 0
from_seen Outside = inl 1
from_seen (Digits negative n) = inr (negative, n)

abbrev to_seen : ℕ ⊎ (Bool × ℕ) → Seen
to_seen (inl zero) = Blanks
to_seen (inl (suc n)) = Outside
to_seen (inr p) = Digits p.0 p.1

pub seen_same : (s : Seen) → to_seen (from_seen s) ≡ s
seen_same Blanks = refl
seen_same Outside = refl
seen_same (Digits negative n) = refl

abbrev pub seen_code : Coded Seen
seen_code = code_by (ℕ ⊎ (Bool × ℕ)) (coded⊎ coded_ℕ (coded× coded_bool coded_ℕ)) from_seen to_seen seen_same

abbrev from_status : Status → ℕ ⊎ ℕ
from_status Going = inl 0
from_status Ended = inl 1
from_status (Fault code) = inr code

abbrev to_status : ℕ ⊎ ℕ → Status
to_status (inl zero) = Going
to_status (inl (suc n)) = Ended
to_status (inr code) = Fault code

pub status_same : (s : Status) → to_status (from_status s) ≡ s
status_same Going = refl
status_same Ended = refl
status_same (Fault code) = refl

abbrev pub status_code : Coded Status
status_code = code_by (ℕ ⊎ ℕ) (coded⊎ coded_ℕ coded_ℕ) from_status to_status status_same

abbrev pub reading_code : Coded Reading
reading_code = code_by (ℤ × Seen) (coded× coded_ℤ seen_code) (λ r. (r.address, r.seen)) (λ p. record { address = p.0; seen = p.1 }) (λ _. refl)

abbrev pub heap_code : Coded Heap
heap_code = map.code coded_ℤ coded_ℤ

abbrev pub config_code : Coded Config
config_code =
    code_by (ℕ × (List ℤ × (Heap × (List ℕ × (Option Reading × Status)))))
    (coded× coded_ℕ (coded× (coded_list coded_ℤ) (coded× heap_code (coded× (coded_list coded_ℕ) (coded× (coded_option reading_code) status_code)))))
    (λ c. (c.place, (c.stack, (c.heap, (c.returns, (c.reading, c.status))))))
    (λ p. record { place = p.0; stack = p.1.0; heap = p.1.1.0; returns = p.1.1.1.0; reading = p.1.1.1.1.0; status = p.1.1.1.1.1 })
    (λ _. refl)
