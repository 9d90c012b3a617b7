-- What an emission answers for want of memory.
use Rattle.std.proofs.Common.{◌≡◌, ℕ, ◌≤◌, ◌^◌, List, [], Option, Some, None, Err, refl, sym, append-nil}
use Rattle.std.specs.Io.KnownBytes.{Appends}
use Rattle.eir_core.specs.Eir.{Eir, IsEir, size_of}
use Rattle.sim_trait.specs.declared.backend.EmitFault.TheVariants.{Memory}
use Rattle.sim_trait.specs.Emit.{EmitAnswers}
use Rattle.bf_lang.specs.declared.command.Command.{Command}
use Rattle.bf_lang.specs.Laws.{text_of}
use Rattle.bf_back.specs.Code.{whole_code}
use Rattle.bf_back.specs.Whole.{IsWhole}
use Rattle.bf_back.specs.Emit.{IsTextOf, program_text}
use Rattle.bf_back.proofs.Translated.{stands_for}
use Rattle.bf_back.proofs.Closed.{whole_is}

appends_none : (a : Option (List ℕ)) → Appends a a []
appends_none None = tt
appends_none (Some xs) = sym (append-nil xs)

-- nothing is out, which is a front of the text of the program's code
pub no_memory : (p : Eir) (rose : Type 0) (a : Option (List ℕ)) → IsEir p → size_of p ≤ 2 ^ 14 → EmitAnswers {A = Unit {0}} (size_of p) (2 ^ 14) rose (IsTextOf p) a a (Err Memory)
no_memory p rose a sound small =
    let code : List Command = whole_code p in
    let whole : IsWhole p code = whole_is p sound small in
    (small, (text_of code, record { sent = []; rest = text_of code; appended = appends_none a; whole = refl }, (code, stands_for p code sound small whole)))

pub no_text : (p : Eir) (rose : Type 0) (a : Option (List ℕ)) → size_of p ≤ 2 ^ 14 → EmitAnswers {A = Unit {0}} (size_of p) (2 ^ 14) rose (λ text. text ≡ program_text p) a a (Err Memory)
no_text p rose a small = (small, (program_text p, record { sent = []; rest = program_text p; appended = appends_none a; whole = refl }, refl))
