-- What the refusals of the readers are called, and what comes out of each.
use Rattle.std.specs.Prelude.{ℕ, List, None, Some, codes}
use Rattle.eir_text.specs.declared.fault.EirFault.{EirFault}
use Rattle.eir_text.specs.declared.fault.EirFault.TheVariants as eir
use Rattle.bf_lang.specs.declared.text.BfFault.{BfFault}
use Rattle.bf_lang.specs.declared.text.BfFault.TheVariants as bf
use Rattle.piet_image.specs.declared.read.PpmFault.{PpmFault}
use Rattle.piet_image.specs.declared.read.PpmFault.TheVariants as ppm
use Rattle.ws_lang.specs.declared.fault.WsFault.{WsFault}
use Rattle.ws_lang.specs.declared.fault.WsFault.TheVariants as ws
use Rattle.sq_lang.specs.declared.text.SqFault.{SqFault}
use Rattle.sq_lang.specs.declared.text.SqFault.TheVariants as sq
use Rattle.wasm_bytes.specs.declared.fault.ModFault.{ModFault}
use Rattle.wasm_bytes.specs.declared.fault.ModFault.TheVariants as no_module
use Rattle.wasm_valid.specs.declared.fault.ValidFault.{ValidFault}
use Rattle.wasm_valid.specs.declared.fault.ValidFault.TheVariants as valid
use Rattle.wasm_rule.specs.declared.fault.LinkFault.{LinkFault}
use Rattle.wasm_rule.specs.declared.fault.LinkFault.TheVariants as link
use Rattle.c_prep.specs.declared.fault.PrepFault.{PrepFault}
use Rattle.c_prep.specs.declared.fault.PrepFault.TheVariants as prep
use Rattle.c_parse.specs.declared.fault.ParseFault.{ParseFault}
use Rattle.c_parse.specs.declared.fault.ParseFault.TheVariants as parse
use Rattle.c_types.specs.declared.fault.TypeFault.{TypeFault}
use Rattle.c_types.specs.declared.fault.TypeFault.TheVariants as type
use Rattle.c_source.specs.declared.fault.SourceFault.{SourceFault}
use Rattle.c_source.specs.declared.fault.SourceFault.TheVariants as source
use Rattle.elvm_cli.specs.declared.outcome.Kind.{Kind}
use Rattle.elvm_cli.specs.declared.outcome.Kind.TheVariants.{BadCall, BadChar, BadData, BadDirective, BadForm, BadHeader, BadLine, BadNumber, DuplicateLabel, Extra, Invalid, Malformed, Mismatch, NoMain, NotCodel, NotLvalue, NumberRange, Short, Syntax, Twice, Unbalanced, Unclosed, Unknown, UnknownLabel, Unopened, Unsupported, WrongImport}
use Rattle.elvm_cli.specs.declared.outcome.Outcome.{Outcome}
use Rattle.elvm_cli.specs.declared.outcome.Outcome.TheVariants.{TooLarge, Refused, NoMemory}

-- the name of a refusal
abbrev pub kind_name : Kind → List ℕ
kind_name BadCall = codes "BadCall"
kind_name BadChar = codes "BadChar"
kind_name BadData = codes "BadData"
kind_name BadDirective = codes "BadDirective"
kind_name BadForm = codes "BadForm"
kind_name BadHeader = codes "BadHeader"
kind_name BadLine = codes "BadLine"
kind_name BadNumber = codes "BadNumber"
kind_name DuplicateLabel = codes "DuplicateLabel"
kind_name Extra = codes "Extra"
kind_name Invalid = codes "Invalid"
kind_name Malformed = codes "Malformed"
kind_name Mismatch = codes "Mismatch"
kind_name NoMain = codes "NoMain"
kind_name NotCodel = codes "NotCodel"
kind_name NotLvalue = codes "NotLvalue"
kind_name NumberRange = codes "NumberRange"
kind_name Short = codes "Short"
kind_name Syntax = codes "Syntax"
kind_name Twice = codes "Twice"
kind_name Unbalanced = codes "Unbalanced"
kind_name Unclosed = codes "Unclosed"
kind_name Unknown = codes "Unknown"
kind_name UnknownLabel = codes "UnknownLabel"
kind_name Unopened = codes "Unopened"
kind_name Unsupported = codes "Unsupported"
kind_name WrongImport = codes "WrongImport"

-- what comes out where an EIR text is refused so
abbrev pub eir_refusal : EirFault → Outcome
eir_refusal (eir.BadLine line) = Refused BadLine (Some line)
eir_refusal (eir.NumberRange line) = Refused NumberRange (Some line)
eir_refusal (eir.DuplicateLabel line) = Refused DuplicateLabel (Some line)
eir_refusal (eir.UnknownLabel line) = Refused UnknownLabel (Some line)
eir_refusal eir.TooLarge = TooLarge
eir_refusal eir.Memory = NoMemory

-- what comes out where a Brainfuck text is refused so
abbrev pub bf_refusal : BfFault → Outcome
bf_refusal (bf.Unopened at) = Refused Unopened (Some at)
bf_refusal (bf.Unclosed at) = Refused Unclosed (Some at)
bf_refusal bf.Memory = NoMemory

-- what comes out where a Whitespace text is refused so
abbrev pub ws_refusal : WsFault → Outcome
ws_refusal (ws.BadForm at) = Refused BadForm (Some at)
ws_refusal (ws.NumberRange at) = Refused NumberRange (Some at)
ws_refusal (ws.DuplicateLabel at) = Refused DuplicateLabel (Some at)
ws_refusal (ws.UnknownLabel at) = Refused UnknownLabel (Some at)
ws_refusal ws.Memory = NoMemory

-- what comes out where a SUBLEQ text is refused so
abbrev pub sq_refusal : SqFault → Outcome
sq_refusal (sq.BadNumber at) = Refused BadNumber (Some at)
sq_refusal (sq.NumberRange at) = Refused NumberRange (Some at)
sq_refusal sq.Memory = NoMemory

-- what comes out where the text of an image is refused so
abbrev pub image_refusal : PpmFault → Outcome
image_refusal ppm.BadHeader = Refused BadHeader None
image_refusal ppm.NotCodel = Refused NotCodel None
image_refusal ppm.TooLarge = TooLarge
image_refusal (ppm.BadNumber at) = Refused BadNumber (Some at)
image_refusal ppm.Short = Refused Short None
image_refusal (ppm.Extra at) = Refused Extra (Some at)
image_refusal ppm.Memory = NoMemory

-- what comes out where the bytes are no module of those that are taken
abbrev pub module_refusal : ModFault → Outcome
module_refusal (no_module.Malformed at) = Refused Malformed (Some at)
module_refusal (no_module.Unsupported at) = Refused Unsupported (Some at)
module_refusal (no_module.TooLarge at) = TooLarge
module_refusal no_module.Memory = NoMemory

-- what comes out where a module is not valid
abbrev pub valid_refusal : ValidFault → Outcome
valid_refusal (valid.Invalid func) = Refused Invalid (Some func)
valid_refusal valid.Memory = NoMemory

-- what comes out where a valid module can't be run here
abbrev pub link_refusal : LinkFault → Outcome
link_refusal link.WrongImport = Refused WrongImport None
link_refusal link.NoMain = Refused NoMain None
link_refusal link.BadData = Refused BadData None
link_refusal link.Memory = NoMemory

-- what comes out where a C text has no tokens
abbrev pub prep_refusal : PrepFault → Outcome
prep_refusal (prep.BadChar at) = Refused BadChar (Some at)
prep_refusal (prep.Unclosed at) = Refused Unclosed (Some at)
prep_refusal (prep.NumberRange at) = Refused NumberRange (Some at)
prep_refusal (prep.BadDirective at) = Refused BadDirective (Some at)
prep_refusal (prep.Unbalanced at) = Refused Unbalanced (Some at)
prep_refusal prep.TooLarge = TooLarge
prep_refusal prep.Memory = NoMemory

-- what comes out where its tokens spell no unit
abbrev pub parse_refusal : ParseFault → Outcome
parse_refusal (parse.Syntax at) = Refused Syntax (Some at)
parse_refusal (parse.TooDeep at) = TooLarge
parse_refusal parse.TooLarge = TooLarge
parse_refusal parse.Memory = NoMemory

-- what comes out where its unit isn't typed
abbrev pub type_refusal : TypeFault → Outcome
type_refusal (type.Unknown at) = Refused Unknown (Some at)
type_refusal (type.Twice at) = Refused Twice (Some at)
type_refusal (type.Mismatch at) = Refused Mismatch (Some at)
type_refusal (type.NotLvalue at) = Refused NotLvalue (Some at)
type_refusal (type.BadCall at) = Refused BadCall (Some at)
type_refusal (type.NoMain at) = Refused NoMain (Some at)
type_refusal type.TooLarge = TooLarge
type_refusal type.Memory = NoMemory

-- what comes out where a C text is no typed tree
abbrev pub source_refusal : SourceFault → Outcome
source_refusal (source.Prepare e) = prep_refusal e
source_refusal (source.Parse e) = parse_refusal e
source_refusal (source.Check e) = type_refusal e
