-- A value for each register.
use Rattle.eir_core.specs.declared.ops.Reg.{Reg}
use Rattle.eir_core.specs.declared.ops.Reg.TheVariants.{A, B, C, D, SP, BP}
use Rattle.eir_opt.specs.declared.by_register.ByRegister.{ByRegister}

-- the value for a register
abbrev pub at : {T : Type 0} → ByRegister T → Reg → T
at values A = values.a
at values B = values.b
at values C = values.c
at values D = values.d
at values SP = values.sp
at values BP = values.bp

-- with another value for a register
abbrev pub with_at : {T : Type 0} → ByRegister T → Reg → T → ByRegister T
with_at values A x = record values { a = x }
with_at values B x = record values { b = x }
with_at values C x = record values { c = x }
with_at values D x = record values { d = x }
with_at values SP x = record values { sp = x }
with_at values BP x = record values { bp = x }

-- the same value for each
abbrev pub everywhere : {T : Type 0} → T → ByRegister T
everywhere x = record { a = x; b = x; c = x; d = x; sp = x; bp = x }
