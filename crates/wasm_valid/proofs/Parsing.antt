-- A list of instructions that is walked over to its end is nested code.
use Rattle.std.proofs.Common.{◌≡◌, ◌⊎◌, ⊎_elim, inl, inr, Bool, true, false, List, [], ◌∷◌, ◌++◌, Option, Some, None, refl, sym, ap, subst, ◌∙◌, append_assoc}
use Rattle.std.specs.Option.{option_map, option_and_then}
use Rattle.wasm_bin.specs.declared.module.Instr.{Instr}
use Rattle.wasm_bin.specs.declared.module.Instr.TheVariants as instr
use Rattle.wasm_valid.specs.Context.{Context}
use Rattle.wasm_valid.specs.Effects.{effect_of}
use Rattle.wasm_valid.specs.Nesting.{Code, Nothing, Single, InBlock, InLoop, InIf, InIfElse, spelled}
use Rattle.wasm_valid.specs.Typing.{arity}
use Rattle.wasm_valid.specs.Levels.{Level, is_allowed, with_more, level_after}
use Rattle.wasm_valid.specs.Checking.{Kind, Frame, Shape, Opens, Parts, Closes, Plain, State, labels_under, is_if, outer_as, opened, closed, parted, may_close, may_part, shape_of, stepped, walk}
use Rattle.wasm_valid.specs.declared.frames.Kind.TheVariants as kind
use Rattle.wasm_valid.proofs.Levels.{by_test, and_both}
use Rattle.wasm_valid.proofs.Walking.{IsNested}

-- code of a block of this kind ends here: P of what follows its end
record Ended (P : List Instr → Type 0) (code : List Instr) : Type 0 where
  pub behind : List Instr
  pub ends : code ≡ instr.End ∷ behind
  pub closes : P behind

record Parted (k : Kind) (P : List Instr → Type 0) (code : List Instr) : Type 0 where
  pub is_if : is_if k ≡ true
  pub other : Code
  pub nested : IsNested other
  pub behind : List Instr
  pub parts : code ≡ instr.Else ∷ (spelled other ++ instr.End ∷ behind)
  pub closes : P behind

record Inside (k : Kind) (P : List Instr → Type 0) (code : List Instr) : Type 0 where
  pub body : Code
  pub nested : IsNested body
  pub rest : List Instr
  pub whole : code ≡ spelled body ++ rest
  pub next : Ended P rest ⊎ Parted k P rest

record Spelled (code : List Instr) : Type 0 where
  pub tree : Code
  pub nested : IsNested tree
  pub whole : code ≡ spelled tree

-- the instructions close these blocks
abbrev ClosesAll : List Frame → List Instr → Type 0
ClosesAll [] code = Spelled code
ClosesAll (f ∷ frames) code = Inside f.kind (ClosesAll frames) code

-- code with something in front
record Front (front : List Instr) : Type 0 where
  pub tree : Code → Code
  pub nested : (t : Code) → IsNested t → IsNested (tree t)
  pub whole : (t : Code) → spelled (tree t) ≡ front ++ spelled t

in_front : (front : List Instr) → Front front → (frames : List Frame) (code : List Instr) → ClosesAll frames code → ClosesAll frames (front ++ code)
in_front front w [] code h = record { tree = w.tree h.tree; nested = w.nested h.tree h.nested; whole = ap (λ (x : List Instr). front ++ x) h.whole ∙ sym (w.whole h.tree) }
in_front front w (f ∷ frames) code h = record {
  body = w.tree h.body;
  nested = w.nested h.body h.nested;
  rest = h.rest;
  whole = ap (λ (x : List Instr). front ++ x) h.whole ∙ (sym (append_assoc front (spelled h.body) h.rest) ∙ ap (λ (x : List Instr). x ++ h.rest) (sym (w.whole h.body)));
  next = h.next;
}

single : (i : Instr) → shape_of i ≡ Plain → Front (i ∷ [])
single i e = record { tree = λ t. Single i t; nested = λ t n. (e, n); whole = λ t. refl }

-- the instruction that opens a block
abbrev opener : Kind → Bool → Instr
opener kind.Block result = instr.Block result
opener kind.Loop result = instr.Loop result
opener kind.If result = instr.If result
opener kind.Else result = instr.Else

opens : (i : Instr) (k : Kind) (result : Bool) → shape_of i ≡ Opens k result → i ≡ opener k result
unfolding shape_of
opens (instr.Block r) kind.Block result e = ap instr.Block cc
opens (instr.Loop r) kind.Loop result e = ap instr.Loop cc
opens (instr.If r) kind.If result e = ap instr.If cc
opens _ k result e = cc

is_else : (i : Instr) → shape_of i ≡ Parts → i ≡ instr.Else
unfolding shape_of
is_else instr.Else e = refl
is_else _ e = cc

is_end : (i : Instr) → shape_of i ≡ Closes → i ≡ instr.End
unfolding shape_of
is_end instr.End e = refl
is_end _ e = cc

abbrev is_else_kind : Kind → Bool
is_else_kind kind.Block = false
is_else_kind kind.Loop = false
is_else_kind kind.If = false
is_else_kind kind.Else = true

-- a whole block
block : (k : Kind) (result : Bool) (body : Code) → IsNested body → is_else_kind k ≡ false → Front (opener k result ∷ (spelled body ++ instr.End ∷ []))
block kind.Block result body n e = record { tree = λ t. InBlock result body t; nested = λ t m. (n, m); whole = λ t. ap (λ (x : List Instr). instr.Block result ∷ x) (sym (append_assoc (spelled body) (instr.End ∷ []) (spelled t))) }
block kind.Loop result body n e = record { tree = λ t. InLoop result body t; nested = λ t m. (n, m); whole = λ t. ap (λ (x : List Instr). instr.Loop result ∷ x) (sym (append_assoc (spelled body) (instr.End ∷ []) (spelled t))) }
block kind.If result body n e = record { tree = λ t. InIf result body t; nested = λ t m. (n, m); whole = λ t. ap (λ (x : List Instr). instr.If result ∷ x) (sym (append_assoc (spelled body) (instr.End ∷ []) (spelled t))) }
block kind.Else result body n e = cc

both_parts : (result : Bool) (body other : Code) → IsNested body → IsNested other → Front (instr.If result ∷ (spelled body ++ instr.Else ∷ (spelled other ++ instr.End ∷ [])))
both_parts result body other n m = record {
  tree = λ t. InIfElse result body other t;
  nested = λ t p. (n, m, p);
  whole = λ t. ap (λ (x : List Instr). instr.If result ∷ x)
      (ap (λ (x : List Instr). spelled body ++ instr.Else ∷ x) (sym (append_assoc (spelled other) (instr.End ∷ []) (spelled t)))
      ∙ sym (append_assoc (spelled body) (instr.Else ∷ (spelled other ++ instr.End ∷ [])) (spelled t)));
}

-- a block in front of code that closes the others
block_closes : (k : Kind) (result : Bool) (body : Code) (rest : List Instr) (frames : List Frame) → IsNested body → is_else_kind k ≡ false → Ended (ClosesAll frames) rest → ClosesAll frames (opener k result ∷ (spelled body ++ rest))
block_closes k result body rest frames n e w =
    subst (λ x. ClosesAll frames (opener k result ∷ x))
    (append_assoc (spelled body) (instr.End ∷ []) w.behind ∙ ap (λ (x : List Instr). spelled body ++ x) (sym w.ends))
    (in_front (opener k result ∷ (spelled body ++ instr.End ∷ [])) (block k result body n e) frames w.behind w.closes)

both_close : (k : Kind) (result : Bool) (body : Code) (rest : List Instr) (frames : List Frame) → IsNested body → Parted k (ClosesAll frames) rest → ClosesAll frames (opener k result ∷ (spelled body ++ rest))
both_close kind.Block result body rest frames n w = let e = w.is_if in absurd cc
both_close kind.Loop result body rest frames n w = let e = w.is_if in absurd cc
both_close kind.Else result body rest frames n w = let e = w.is_if in absurd cc
both_close kind.If result body rest frames n w =
    subst (λ x. ClosesAll frames (instr.If result ∷ x))
    (append_assoc (spelled body) (instr.Else ∷ (spelled w.other ++ instr.End ∷ [])) w.behind
    ∙ (ap (λ (x : List Instr). spelled body ++ instr.Else ∷ x) (append_assoc (spelled w.other) (instr.End ∷ []) w.behind)
    ∙ ap (λ (x : List Instr). spelled body ++ x) (sym w.parts)))
    (in_front (instr.If result ∷ (spelled body ++ instr.Else ∷ (spelled w.other ++ instr.End ∷ []))) (both_parts result body w.other n w.nested) frames w.behind w.closes)

opened_closes : (k : Kind) (result : Bool) (frames : List Frame) (code : List Instr) → is_else_kind k ≡ false → Inside k (ClosesAll frames) code → ClosesAll frames (opener k result ∷ code)
opened_closes k result frames code e w =
    subst (λ x. ClosesAll frames (opener k result ∷ x)) (sym w.whole)
    (⊎_elim (λ a. block_closes k result w.body w.rest frames w.nested e a) (λ b. both_close k result w.body w.rest frames w.nested b) w.next)

opens_none : (k : Kind) (l outer : Level) → outer_as k l ≡ Some outer → is_else_kind k ≡ false
opens_none kind.Block l outer e = refl
opens_none kind.Loop l outer e = refl
opens_none kind.If l outer e = refl
opens_none kind.Else l outer e = cc

-- the frames after an instruction that opens a block
frames_opened : (o : Option Level) (k : Kind) (result : Bool) (frames : List Frame) (t : State) (code : List Instr) → option_map (opened k result frames) o ≡ Some t → ClosesAll t.frames code → Inside k (ClosesAll frames) code × (outer : Level) × (o ≡ Some outer)
frames_opened None k result frames t code e h = cc
frames_opened (Some outer) k result frames t code e h =
    let same : opened k result frames outer ≡ t = cc in
    (subst (λ (s : State). ClosesAll s.frames code) (sym same) h, outer, refl)

frames_kept : (o : Option Level) (frames : List Frame) (t : State) (code : List Instr) → option_map (λ l. record { level = l; frames = frames }) o ≡ Some t → ClosesAll t.frames code → ClosesAll frames code
frames_kept None frames t code e h = cc
frames_kept (Some l) frames t code e h =
    let s : State = record { level = l; frames = frames } in
    let same : s ≡ t = cc in
    subst (λ (s : State). ClosesAll s.frames code) (sym same) h

ended : (frames : List Frame) (l : Level) (t : State) (code : List Instr) → closed frames l ≡ Some t → ClosesAll t.frames code → ClosesAll frames (instr.End ∷ code)
ended [] l t code = λ e h. cc
ended (f ∷ frames) l t code =
    by_test {P = closed (f ∷ frames) l ≡ Some t → ClosesAll t.frames code → ClosesAll (f ∷ frames) (instr.End ∷ code)} (may_close f l)
    (λ b. rw b (λ e h.
    let s : State = record { level = with_more (arity f.result) f.outer; frames = frames } in
    let same : s ≡ t = cc in
    let closes = subst (λ (s : State). ClosesAll s.frames code) (sym same) h in
    record { body = Nothing; nested = tt; rest = instr.End ∷ code; whole = refl; next = inl (record { behind = code; ends = refl; closes = closes }) }))
    (λ b. rw b (λ e h. cc))

second_part : (f : Frame) (frames : List Frame) (code : List Instr) → is_if f.kind ≡ true → Inside kind.Else (ClosesAll frames) code → ClosesAll (f ∷ frames) (instr.Else ∷ code)
second_part f frames code b w =
    ⊎_elim
    (λ a. record {
      body = Nothing;
      nested = tt;
      rest = instr.Else ∷ code;
      whole = refl;
      next = inr (record { is_if = b; other = w.body; nested = w.nested; behind = a.behind; parts = ap (λ (x : List Instr). instr.Else ∷ x) (w.whole ∙ ap (λ (x : List Instr). spelled w.body ++ x) a.ends); closes = a.closes });
    })
    (λ p. let e = p.is_if in absurd cc)
    w.next

parted_closes : (frames : List Frame) (l : Level) (t : State) (code : List Instr) → parted frames l ≡ Some t → ClosesAll t.frames code → ClosesAll frames (instr.Else ∷ code)
parted_closes [] l t code = λ e h. cc
parted_closes (f ∷ frames) l t code =
    by_test {P = parted (f ∷ frames) l ≡ Some t → ClosesAll t.frames code → ClosesAll (f ∷ frames) (instr.Else ∷ code)} (may_part f l)
    (λ b. rw b (λ e h.
    let same : opened kind.Else f.result frames f.outer ≡ t = cc in
    second_part f frames code (and_both (is_allowed l (arity f.result)) (is_if f.kind) b).1 (subst (λ (s : State). ClosesAll s.frames code) (sym same) h)))
    (λ b. rw b (λ e h. cc))

step_closes : (c : Context) (shape : Shape) (i : Instr) (s t : State) (code : List Instr) → shape_of i ≡ shape → stepped c shape i s ≡ Some t → ClosesAll t.frames code → ClosesAll s.frames (i ∷ code)
step_closes c (Opens k result) i s t code e f h =
    let w = frames_opened (outer_as k s.level) k result s.frames t code f h in
    subst (λ x. ClosesAll s.frames (x ∷ code)) (sym (opens i k result e)) (opened_closes k result s.frames code (opens_none k s.level w.1 w.2) w.0)
step_closes c Parts i s t code e f h = subst (λ x. ClosesAll s.frames (x ∷ code)) (sym (is_else i e)) (parted_closes s.frames s.level t code f h)
step_closes c Closes i s t code e f h = subst (λ x. ClosesAll s.frames (x ∷ code)) (sym (is_end i e)) (ended s.frames s.level t code f h)
step_closes c Plain i s t code e f h =
    in_front (i ∷ []) (single i e) s.frames code (frames_kept (option_and_then (level_after s.level) (effect_of c (labels_under s.frames c.results) i)) s.frames t code f h)

record Stepped (o : Option State) (go : State → Option State) (t : State) : Type 0 where
  pub state : State
  pub is : o ≡ Some state
  pub rest : go state ≡ Some t

stepped_on : (o : Option State) (go : State → Option State) (t : State) → option_and_then go o ≡ Some t → Stepped o go t
stepped_on None go t e = cc
stepped_on (Some s) go t e = record { state = s; is = refl; rest = e }

walk_closes : (code : List Instr) (c : Context) (s t : State) → walk c code s ≡ Some t → t.frames ≡ [] → ClosesAll s.frames code
walk_closes [] c s t e last =
    let same : s ≡ t = cc in
    subst (λ frames. ClosesAll frames []) (sym (ap (λ (x : State). x.frames) same ∙ last)) (record { tree = Nothing; nested = tt; whole = refl })
walk_closes (i ∷ code) c s t e last =
    let w = stepped_on (stepped c (shape_of i) i s) (walk c code) t e in
    step_closes c (shape_of i) i s w.state code refl w.is (walk_closes code c w.state t w.rest last)

-- what is walked over from no block to no block is nested code
pub nested_by_walk : (code : List Instr) (c : Context) (l : Level) (t : State) → walk c code (record { level = l; frames = [] }) ≡ Some t → t.frames ≡ [] → (tree : Code) × IsNested tree × (code ≡ spelled tree)
nested_by_walk code c l t e last =
    let w = walk_closes code c (record { level = l; frames = [] }) t e last in
    (w.tree, w.nested, w.whole)
