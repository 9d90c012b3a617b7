-- What the calls of a machine stand for.
use Rattle.std.specs.Prelude.{List, drop, map}
use Rattle.wasm_bin.specs.declared.module.Instr.{Instr}
use Rattle.wasm_bin.specs.declared.module.Module.{Module}
use Rattle.wasm_parts.specs.declared.frame.Mark.{Mark}
use Rattle.wasm_parts.specs.declared.frame.CallFrame.{CallFrame}
use Rattle.wasm_rule.specs.Code.{own_code}
use Rattle.wasm_rule.specs.Config.{Label, Call}

-- a place in some code stands for the instructions from there on
abbrev pub marked_label : List Instr → Mark → Label
marked_label code mark = record { takes = mark.takes; beneath = mark.beneath; next = drop mark.target code }

abbrev pub labels_of : Module → CallFrame → List Mark → List Label
labels_of m frame marks = map (marked_label (own_code m frame.body)) marks

abbrev pub call_of : Module → CallFrame → Call
call_of m frame = record {
  gives = frame.gives;
  locals = frame.locals.items;
  values = frame.values;
  labels = labels_of m frame frame.marks;
  code = drop frame.place (own_code m frame.body);
}
