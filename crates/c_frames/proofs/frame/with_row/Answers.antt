use Rattle.std.proofs.Common.{refl}
use Rattle.std.specs.Prelude.{Result, Ok, Err, IfOk}
use Rattle.c_held.specs.declared.value.Value.{Value}
use Rattle.c_held.specs.declared.value.Value.TheVariants.{Row}
use Rattle.c_frames.specs.Stack.{Grows, IsCleared}
use Rattle.c_frames.specs.declared.frame.Frame.{Frame}
use Rattle.c_frames.proofs.Stacks.{cleared, row_placed}
use Rattle.c_frames.proofs.frame.with_row.Goals as goal

placed_ok : {E : Type 0} (r : Result Frame E) (f e : Frame) (x : Value) → IsCleared f e → IfOk r (λ g. Grows e g x) → IfOk r (λ g. Grows f g x)
placed_ok (Ok g) f e x a h = row_placed f e g x a h
placed_ok (Err k) f e x a h = tt

pub returns : goal.returns
returns c = placed_ok c.with_value.result c.args.frame _ (Row c.args.frame.row) (cleared c.args.frame _ refl refl refl c.new.ensures.items refl) c.with_value.ensures
