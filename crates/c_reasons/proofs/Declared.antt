-- First values, declarations and tags.
use Rattle.std.proofs.Common.{ℕ, Bool, true, false, List, [], ◌∷◌, ◌++◌, Option, Some, None}
use Rattle.c_syntax.specs.Plain as plain
use Rattle.c_syntax.specs.Plain.{CExpr, CValue, CValues, CDecl, CTag}
use Rattle.c_types.specs.Types.{CType}
use Rattle.c_types.specs.Constants.{Constant, NotConstant, Undefined, Value}
use Rattle.c_types.specs.Scope.{Scope, Object, with_name}
use Rattle.c_types.specs.Operands.{Operand}
use Rattle.c_types.specs.Expressions.{judged, written}
use Rattle.c_types.specs.Declarations as declarations
use Rattle.c_types.specs.Declarations.{Site, Slots, Elements, Fields, Nothing, first_slot, next_slots, slots_of, fitting, all_fitting, completed, declared_type, declared_object, declared, member, members, members_or, with_tag, tag_declared}
use Rattle.c_types.specs.Types.{Unfinished}
use Rattle.c_reasons.proofs.Reasons.{twice, mismatch, HasReason, fine, refuses, HaveReasons, after_has, both_have, keeping_has, keeping_one, keeping_two, joined_have}
use Rattle.c_reasons.proofs.Judged.{judged_has, written_has}

static_have : (e : CExpr) (a : Operand) (c : Constant) → HaveReasons (declarations.static_rules e a c)
static_have e a NotConstant = (mismatch a.pos, tt)
static_have e a (Undefined pos) = (mismatch pos, tt)
static_have e a (Value word) = tt

site_have : (file : Bool) (e : CExpr) (a : Operand) → HaveReasons (declarations.site_rules file e a)
site_have true e a = static_have e a a.constant
site_have false e a = tt

object_have : (t : Option CType) (e : CExpr) (a : Operand) → HaveReasons (declarations.object_rules t e a)
object_have (Some t) e a = (mismatch a.pos, tt)
object_have None e a = tt

braces_have : (at : ℕ) (slots : Slots) (vs : CValues) → HaveReasons (declarations.braces_rules at slots vs)
braces_have at Nothing vs = (mismatch at, tt)
braces_have at (Elements t n) vs = (mismatch at, tt)
braces_have at (Fields ts) vs = (mismatch at, tt)

mutual
  fitting_has : (s : Scope) (site : Site) (t : Option CType) (v : CValue) → HasReason (fitting s site t v)
  fitting_has s site t (plain.One e) = after_has (judged s e) _ (judged_has s e) (λ a. keeping_has (declarations.object_rules t e a ++ declarations.site_rules site.file e a) _ (joined_have (declarations.object_rules t e a) (declarations.site_rules site.file e a) (object_have t e a) (site_have site.file e a)))
  fitting_has s site t (plain.Many vs) =
      after_has (all_fitting s site (slots_of s.tags t) vs) _ (all_fitting_have s site (slots_of s.tags t) vs) (λ u. keeping_has (declarations.braces_rules site.pos (slots_of s.tags t) vs) _ (braces_have site.pos (slots_of s.tags t) vs))

  all_fitting_have : (s : Scope) (site : Site) (slots : Slots) (vs : CValues) → HasReason (all_fitting s site slots vs)
  all_fitting_have s site slots plain.NoValue = fine _
  all_fitting_have s site slots (plain.MoreValue v vs) =
      both_have (fitting s site (first_slot slots) v) (all_fitting s site (next_slots slots) vs) _ (fitting_has s site (first_slot slots) v) (all_fitting_have s site (next_slots slots) vs) (λ x y. fine _)

first_has : (s : Scope) (site : Site) (t : CType) (v : Option CValue) → HasReason (declarations.first_fitting s site t v)
first_has s site t None = fine _
first_has s site t (Some v) = fitting_has s site (Some t) v

object_type_has : (s : Scope) (at : ℕ) (t : CType) → HasReason (declarations.object_type s at t)
object_type_has s at t = keeping_one _ _ _ (mismatch at)

type_has : (s : Scope) (d : CDecl) → HasReason (declared_type s d)
type_has s d = after_has (written s d.pos d.ty) _ (written_has s d.pos d.ty) (λ t. object_type_has s d.pos (completed t d.first))

object_has : (s : Scope) (file : Bool) (d : CDecl) (t : CType) → HasReason (declared_object s file d t)
object_has s file d t = after_has (declarations.first_fitting (with_name s d.name (Object t)) (record { file = file; pos = d.pos }) t d.first) _ (first_has _ _ t d.first) (λ u. keeping_one _ _ _ (twice d.pos))

pub declared_has : (s : Scope) (file : Bool) (d : CDecl) → HasReason (declared s file d)
declared_has s file d = after_has (declared_type s d) _ (type_has s d) (λ t. object_has s file d t)

member_has : (s : Scope) (before : List (List ℕ × CType)) (m : CDecl) → HasReason (member s before m)
member_has s before m = after_has _ _ (after_has (written s m.pos m.ty) _ (written_has s m.pos m.ty) (λ t. object_type_has s m.pos t)) (λ t. keeping_two _ _ _ _ _ (twice m.pos) (mismatch m.pos))

members_have : (s : Scope) (before : List (List ℕ × CType)) (ds : List CDecl) → HasReason (members s before ds)
members_have s before [] = fine _
members_have s before (d ∷ ds) = both_have (member s before d) (members s (members_or before (member s before d)) ds) _ (member_has s before d) (members_have s (members_or before (member s before d)) ds) (λ x ms. fine _)

pub tag_has : (s : Scope) (tag : CTag) → HasReason (tag_declared s tag)
tag_has s tag = after_has (members (with_tag s tag.name Unfinished) [] tag.members) _ (members_have _ [] tag.members) (λ ms. keeping_two _ _ _ _ _ (twice tag.pos) (mismatch tag.pos))
