-- Bytes are a module or are refused in one way, a module is valid or is not, and it can be run or can not.
use Rattle.std.proofs.Common.{◌≡◌, ◌≢◌, ◌∙◌, ◌⊎◌, ℕ, List, inl, inr, refl, sym, ap, subst}
use Rattle.wasm_bytes.specs.declared.fault.ModFault.{ModFault}
use Rattle.wasm_bytes.specs.declared.fault.ModFault.TheVariants as no_module
use Rattle.wasm_bin.specs.declared.module.Module.{Module}
use Rattle.wasm_bin.specs.Module.{module_spells, IsRefusedFor as IsNoModule}
use Rattle.wasm_bin.proofs.Answer.{one_module, one_refusal, spelled_or_refused}
use Rattle.wasm_bin.proofs.Decoded.{spelled_or}
use Rattle.wasm_valid.specs.declared.fault.ValidFault.{ValidFault}
use Rattle.wasm_valid.specs.declared.fault.ValidFault.TheVariants as valid
use Rattle.wasm_valid.specs.Rules.{IsValid, IsRefused as IsInvalid}
use Rattle.wasm_valid.proofs.LawLemmas.{one_answer as valid_answer}
use Rattle.wasm_rule.specs.declared.fault.LinkFault.{LinkFault}
use Rattle.wasm_rule.specs.declared.fault.LinkFault.TheVariants as link
use Rattle.wasm_rule.specs.Start.{IsLinkable}
use Rattle.wasm_rule.specs.Spells.{WasmSpells}
use Rattle.wasm_rule.specs.Refusals.{IsRefusedFor as IsUnlinkable}
use Rattle.wasm_rule.proofs.Linkable.{one_answer as link_answer}
use Rattle.elvm_cli.specs.Refusals.{link_refusal, module_refusal, valid_refusal}
use Rattle.elvm_cli.specs.Line.{status_of}
use Rattle.elvm_cli.specs.Shows.{IsNoProgram}
use Rattle.elvm_cli.specs.Languages.{BytesRefused, ModuleRefused, WasmRefused}
use Rattle.elvm_cli.specs.Exact.{IsRefusal}
use Rattle.elvm_cli.specs.declared.outcome.Outcome.{Outcome}
use Rattle.elvm_cli.specs.declared.outcome.Outcome.TheVariants.{NoMemory}
use Rattle.elvm_cli.proofs.Told.{IsLanguage, IsSpelledOrRefused, refusal_told}

-- a refusal that is told is no want of memory
told : (fault : ModFault) (outcome : Outcome) → outcome ≢ NoMemory → module_refusal fault ≡ outcome → fault ≢ no_module.Memory
told fault outcome other e is = other (sym e ∙ ap module_refusal is)

bytes_apart : (bytes : List ℕ) (m : Module) (outcome : Outcome) → outcome ≢ NoMemory → module_spells bytes m → BytesRefused bytes outcome → ⊥
bytes_apart bytes m outcome other spelled refused = told refused.0 outcome other refused.2 (spelled_or_refused bytes m refused.0 spelled refused.1)

-- bytes are refused in one way
bytes_one_way : (bytes : List ℕ) (a b : Outcome) → IsRefusal a → IsRefusal b → BytesRefused bytes a → BytesRefused bytes b → a ≡ b
bytes_one_way bytes a b is_a is_b first second =
    let same : first.0 ≡ second.0 = one_refusal bytes first.0 second.0 first.1 second.1 (told first.0 a (refusal_told a is_a) first.2) (told second.0 b (refusal_told b is_b) second.2) in
    sym first.2 ∙ ap module_refusal same ∙ second.2

-- a module that is valid and can be run is not refused
valid_told : (fault : ValidFault) (outcome : Outcome) → IsRefusal outcome → valid_refusal fault ≡ outcome → fault ≢ valid.Memory
valid_told fault outcome h e is = refusal_told outcome h (sym e ∙ ap valid_refusal is)

-- nor is a module that can be run
link_told : (fault : LinkFault) (outcome : Outcome) → IsRefusal outcome → link_refusal fault ≡ outcome → fault ≢ link.Memory
link_told fault outcome h e is = refusal_told outcome h (sym e ∙ ap link_refusal is)

module_apart : (m : Module) (outcome : Outcome) → IsRefusal outcome → IsValid m → IsLinkable m → ModuleRefused m outcome → ⊥
module_apart m outcome h is_valid linkable (inl refused) = (valid_answer m).taken refused.0 (valid_told refused.0 outcome h refused.2) is_valid refused.1
module_apart m outcome h is_valid linkable (inr refused) = (link_answer m).taken refused.1.0 (link_told refused.1.0 outcome h refused.1.2) linkable refused.1.1

-- a refused module has status 1
valid_status : (fault : ValidFault) (outcome : Outcome) → IsRefusal outcome → valid_refusal fault ≡ outcome → status_of outcome ≡ 1
valid_status (valid.Invalid n) outcome h e = sym (ap status_of e)
valid_status valid.Memory outcome h e = absurd (refusal_told outcome h (sym e))

link_status : (fault : LinkFault) (outcome : Outcome) → IsRefusal outcome → link_refusal fault ≡ outcome → status_of outcome ≡ 1
link_status link.WrongImport outcome h e = sym (ap status_of e)
link_status link.NoMain outcome h e = sym (ap status_of e)
link_status link.BadData outcome h e = sym (ap status_of e)
link_status link.Memory outcome h e = absurd (refusal_told outcome h (sym e))

module_status : (m : Module) (outcome : Outcome) → IsRefusal outcome → ModuleRefused m outcome → status_of outcome ≡ 1
module_status m outcome h (inl refused) = valid_status refused.0 outcome h refused.2
module_status m outcome h (inr refused) = link_status refused.1.0 outcome h refused.1.2

-- the same bytes are one module
pub wasm_once : (bytes : List ℕ) (m n : Module) → WasmSpells bytes m → WasmSpells bytes n → m ≡ n
wasm_once bytes m n hm hn = one_module bytes m n hm.spelled hn.spelled

-- bytes that are a module that runs are not refused
wasm_apart : (bytes : List ℕ) (m : Module) (outcome : Outcome) → IsRefusal outcome → WasmSpells bytes m → WasmRefused bytes outcome → ⊥
wasm_apart bytes m outcome h spelled (inl refused) = bytes_apart bytes m outcome (refusal_told outcome h) spelled.spelled refused
wasm_apart bytes m outcome h spelled (inr refused) =
    module_apart m outcome h spelled.valid spelled.linkable (subst (λ (n : Module). ModuleRefused n outcome) (one_module bytes refused.0 m refused.1 spelled.spelled) refused.2)

wasm_one_way : (bytes : List ℕ) (a b : Outcome) → IsRefusal a → IsRefusal b → WasmRefused bytes a → WasmRefused bytes b → status_of a ≡ status_of b
wasm_one_way bytes a b is_a is_b (inl first) (inl second) = ap status_of (bytes_one_way bytes a b is_a is_b first second)
wasm_one_way bytes a b is_a is_b (inl first) (inr second) = absurd (bytes_apart bytes second.0 a (refusal_told a is_a) second.1 first)
wasm_one_way bytes a b is_a is_b (inr first) (inl second) = absurd (bytes_apart bytes first.0 b (refusal_told b is_b) first.1 second)
wasm_one_way bytes a b is_a is_b (inr first) (inr second) = module_status first.0 a is_a first.2 ∙ sym (module_status second.0 b is_b second.2)

-- what the refusals are, but for want of memory
module_is : (fault : ModFault) → fault ≢ no_module.Memory → IsRefusal (module_refusal fault)
module_is (no_module.Malformed at) other = tt
module_is (no_module.Unsupported at) other = tt
module_is (no_module.TooLarge at) other = tt
module_is no_module.Memory other = absurd (other refl)

valid_is : (fault : ValidFault) → fault ≢ valid.Memory → IsRefusal (valid_refusal fault)
valid_is (valid.Invalid n) other = tt
valid_is valid.Memory other = absurd (other refl)

link_is : (fault : LinkFault) → fault ≢ link.Memory → IsRefusal (link_refusal fault)
link_is link.WrongImport other = tt
link_is link.NoMain other = tt
link_is link.BadData other = tt
link_is link.Memory other = absurd (other refl)

-- a module that is valid can be run or is refused
linked_or : (bytes : List ℕ) (m : Module) → module_spells bytes m → IsValid m → IsLinkable m ⊎ ((fault : LinkFault) × (fault ≢ link.Memory) × IsUnlinkable m fault)
    → IsSpelledOrRefused WasmSpells WasmRefused bytes
linked_or bytes m read is_valid (inl linkable) = inl (m, record { spelled = read; valid = is_valid; linkable = linkable })
linked_or bytes m read is_valid (inr refused) =
    inr (link_refusal refused.0, link_is refused.0 refused.1, inr (m, read, inr (is_valid, (refused.0, refused.2, refl))))

-- a module is valid or is refused
valid_or : (bytes : List ℕ) (m : Module) → module_spells bytes m → IsValid m ⊎ ((fault : ValidFault) × (fault ≢ valid.Memory) × IsInvalid m fault)
    → IsSpelledOrRefused WasmSpells WasmRefused bytes
valid_or bytes m read (inl is_valid) = linked_or bytes m read is_valid (link_answer m).some
valid_or bytes m read (inr refused) = inr (valid_refusal refused.0, valid_is refused.0 refused.1, inr (m, read, inl (refused.0, refused.2, refl)))

-- bytes are a module or are refused
read_or : (bytes : List ℕ) → ((m : Module) × module_spells bytes m) ⊎ ((fault : ModFault) × (fault ≢ no_module.Memory) × IsNoModule bytes fault)
    → IsSpelledOrRefused WasmSpells WasmRefused bytes
read_or bytes (inl read) = valid_or bytes read.0 read.1 (valid_answer read.0).some
read_or bytes (inr refused) = inr (module_refusal refused.0, module_is refused.0 refused.1, inl (refused.0, refused.2, refl))

pub wasm_language : IsLanguage WasmSpells WasmRefused
wasm_language = record { some = λ bytes. read_or bytes (spelled_or bytes); apart = wasm_apart; one_way = wasm_one_way }

pub unread_module : (bytes : List ℕ) (m : Module) (fault : ValidFault) → module_spells bytes m → IsInvalid m fault → IsNoProgram (WasmRefused bytes) (valid_refusal fault)
unread_module bytes m (valid.Invalid n) read h = inr (m, read, inl (valid.Invalid n, h, refl))
unread_module bytes m valid.Memory read h = tt

pub unread_link : (bytes : List ℕ) (m : Module) (fault : LinkFault) → module_spells bytes m → IsValid m → IsUnlinkable m fault → IsNoProgram (WasmRefused bytes) (link_refusal fault)
unread_link bytes m link.WrongImport read is_valid h = inr (m, read, inr (is_valid, (link.WrongImport, h, refl)))
unread_link bytes m link.NoMain read is_valid h = inr (m, read, inr (is_valid, (link.NoMain, h, refl)))
unread_link bytes m link.BadData read is_valid h = inr (m, read, inr (is_valid, (link.BadData, h, refl)))
unread_link bytes m link.Memory read is_valid h = tt
