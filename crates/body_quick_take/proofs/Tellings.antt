-- An instruction that takes operands and gives some: what is told of it, made of its parts.
use Prim.Native.Nat.{ℕ, zero, suc, ◌+◌, ◌-◌, ◌%◌, ◌≤◌, ◌<◌}
use mathlib.Core.Path.{◌≡◌, refl, sym, ap, ◌∙◌}
use mathlib.Core.Bool.{Bool, false}
use mathlib.Core.Option.{Option, none, some}
use mathlib.Core.List.{List, [], ◌∷◌, ◌++◌}
use native.Mathlib.Omega.{arith}
use lib.ListN.{length, set, get_elem?}
use lib.Dec.{eqb}
use Rattle.scope.specs.Sizes.{most_operands}
use Rattle.scope.specs.Reading.{got}
use Rattle.scope.specs.Syntax.{Val, Types}
use Rattle.scope.specs.Instructions.{Instr, Op, op, instr_at}
use Rattle.scope.specs.BodyRules.{Context, Wanted, values, Ruled, allowed, fault, and_ruled, takes, plan_of}
use Rattle.scope.specs.Bodies.{Operand, known, Taken, take_all, on_top, put, scope_of, State, Next, goes_on, within_operands, marked, do_plan, judge_instr}
use Rattle.type_table.specs.View.{codes_at}
use Rattle.body_state.specs.Layout.{operands_from, word_bound, used_size}
use Rattle.body_state.specs.State.{operand_at_code, wanted_at_code, val_at_word, stack, sets_at, frames_at, state_at, Upright, Stamped}
use Rattle.body_state.proofs.Alike.{stack-length}
use Rattle.body_state.proofs.Stepping.{within_on}
use Rattle.body_operands.specs.Taking.{left_in}
use Rattle.body_operands.proofs.Laws.{left-append}
use Rattle.body_put.specs.Putting.{Room, Pushed}
use Rattle.body_put.proofs.OnTop.{pushed_one}
use Rattle.body_put.proofs.Laws.{pushed_none}
use Rattle.body_put.proofs.PushedState.{pushed_state, pushed_upright, pushed_stamped, pushed_types}
use Rattle.body_marks.specs.Marks.{Marked}
use Rattle.body_marks.proofs.MarkedState.{marked-state, marked_upright, marked_stamped}
use Rattle.body_quick_take.specs.declared.Done.{Done}
use Rattle.body_quick_take.specs.Taking.{Took, TookAny, Put}
use Rattle.body_progress.specs.Standing.{Ordered, check_of, Stands}
use Rattle.body_quick_take.specs.Telling.{Goes, Asked, Told, Plainly}

left_only : (f : List Operand → Ruled Next) (t : Ruled Taken) → and_ruled t (λ u. f u.left) ≡ and_ruled (left_in t) f
left_only f (allowed u) = refl
left_only f (fault n) = refl

-- no operand is taken
pub left-none : (ts : Types) (dead : Bool) (os : List Operand) → left_in (take_all ts dead [] os) ≡ allowed os
unfolding take_all
left-none ts dead os = refl

-- no local is set
pub marked-none : (work : List ℕ) (count m : ℕ) → Marked work work count m none
marked-none work count m = record { here = refl; around = λ n h. refl; early = λ at h old. old; types = λ i h. refl; beyond = λ i h. refl; size = refl }

module _ (c : Context) (o : Op) {ws : List Wanted} {vs : List Val} {marks : Option ℕ} {work : List ℕ} {count depth base top dead : ℕ} (stands : Stands work count depth base top dead) (plan : plan_of c (scope_of c (state_at work count (check_of depth base top dead))) o ≡ allowed (record { wants = ws; gives = values vs; marks = marks; stops = false })) (height : ℕ) (left : left_in (take_all c.types (eqb dead 1) ws (stack work base (top - base))) ≡ allowed (stack work base height)) where
  sets : List Bool
  sets = marked marks (sets_at work (depth + 1) 0 count)

  -- what comes of it, by what is left
  after : List Operand → Ruled Next
  after os = within_operands (record { frames = frames_at work count depth; operands = on_top vs ++ os; dead = eqb dead 1; is_set = sets })

  does : judge_instr c (state_at work count (check_of depth base top dead)) (op o) ≡ and_ruled (take_all c.types (eqb dead 1) ws (stack work base (top - base))) (λ t. after t.left)
  unfolding judge_instr do_plan put state_at after sets
  does = rw plan

  pub goes_op : {s : List ℕ} {at next : ℕ} → instr_at s at ≡ got (op o) next → {work₁ work' : List ℕ} {top' : ℕ} → Ordered base top' → Pushed work work₁ base height (top' - base) (on_top vs) → Marked work₁ work' count (depth + 1) marks → Goes c s at work work' count (check_of depth base top dead) (check_of depth base top' dead) next
  unfolding after sets state_at
  goes_op {at = at} read {work₁} {work'} {top'} ord p k =
      let u = stands.upright in
      let above = ord.above in
      let low = ord.low in
      let long : length (on_top vs ++ stack work base height) ≡ top' - base = ap length (sym p.top) ∙ stack-length work₁ base (top' - base) in
      let fine = within_on count depth u.rests (on_top vs ++ stack work base height) (eqb dead 1) sets (omega (arith, long)) in
      let given' = pushed_upright p u.few u.rests u.room u.deep (omega arith) (eqb dead 1) in
      let here = marked-state given' k ∙ ap (λ (t : State). record { frames = t.frames; operands = t.operands; dead = t.dead; is_set = marked marks t.is_set }) (pushed_state p u.few u.rests (eqb dead 1)) in
      record {
        instr = op o;
        reads = read;
        judged = does ∙ left_only after (take_all c.types (eqb dead 1) ws (stack work base (top - base))) ∙ ap (λ (t : Ruled (List Operand)). and_ruled t after) left ∙ fine ∙ ap (λ (t : State). allowed (goes_on t)) (sym here);
        upright = marked_upright given' k;
        stamped = λ old. let same : depth ≤ depth = omega arith in let new = marked_stamped given' k at (pushed_stamped p u.few same old) in record { locals = λ i l. let q = new.locals i l in omega arith; frames = λ m l. let q = new.frames m l in omega arith };
        types = λ i l. k.types i l ∙ pushed_types p i l;
        size = k.size ∙ p.size;
      }

-- nothing is told

pub told-not : {work work' : List ℕ} (c : Context) (s : List ℕ) (at count depth base top dead : ℕ) {r : Done} → r ≡ record { top = 0; size = 0 } → work' ≡ work → Told c s at work work' count depth base top dead r
told-not c s at count depth base top dead {r} e k =
    let none : r.size ≡ 0 = ap (λ (d : Done). d.size) e in
    record { goes = λ n. absurd (n none); ordered = λ n. absurd (n none); kept = λ z. k }

pub plainly_not : {work work' : List ℕ} (s : List ℕ) (at count depth base top dead : ℕ) {r : Done} → r ≡ record { top = 0; size = 0 } → work' ≡ work → Plainly s at work work' count depth base top dead r
plainly_not s at count depth base top dead e k = record { is = λ c l. told-not c s at count depth base top dead e k }

-- one operand is given

put_place : (base left : ℕ) → base ≤ left → operands_from + left ≡ operands_from + (base + (left - base))
put_place base left h = omega arith

put_height : (base left : ℕ) → base ≤ left → left - base + 1 ≡ left + 1 - base
put_height base left h = omega arith

put_low : (base left : ℕ) → base ≤ left → left < most_operands → base + (left - base) + 1 ≤ most_operands
put_low base left h l = omega arith

pub put_pushed : {work work' : List ℕ} {base left w size : ℕ} {r : Done} {v : Val} → used_size ≤ length work → base ≤ left → Put work work' left w size r → (r.size ≡ 0 → ⊥) → operand_at_code (w % word_bound) ≡ known v → Pushed work work' base (left - base) (left + 1 - base) (on_top (v ∷ []))
put_pushed {work} {work'} {base} {left} {w} {v = v} room above p n word =
    let e : work' ≡ set work (operands_from + (base + (left - base))) (w % word_bound) = rw (put_place base left above) at (p.words n) in
    let one = pushed_one {work = work} {work' = work'} {base = base} {height = left - base} w e (record { room = room; few = put_low base left above (p.low n) }) in
    let two : Pushed work work' base (left - base) (left + 1 - base) (operand_at_code (w % word_bound) ∷ []) = rw (put_height base left above) at one in
    rw word at two

module _ (c : Context) (o : Op) {ws : List Wanted} {v : Val} {marks : Option ℕ} {work : List ℕ} {count depth base top dead : ℕ} (stands : Stands work count depth base top dead) (plan : plan_of c (scope_of c (state_at work count (check_of depth base top dead))) o ≡ allowed (record { wants = ws; gives = values (v ∷ []); marks = marks; stops = false })) {left : ℕ} (above : base ≤ left) (take : left_in (take_all c.types (eqb dead 1) ws (stack work base (top - base))) ≡ allowed (stack work base (left - base))) where
  pub told-set-put : {s : List ℕ} {at size w : ℕ} {r : Done} {work₁ work' : List ℕ} → instr_at s at ≡ got (op o) (at + size) → operand_at_code (w % word_bound) ≡ known v → Put work work₁ left w size r → (r.size ≡ 0 → ⊥) → Marked work₁ work' count (depth + 1) marks → Told c s at work work' count depth base top dead r
  told-set-put {s} {at} {size} {w} {r} {work₁} {work'} read word p n k =
      let low = p.low n in
      let ord : Ordered base (left + 1) = record { above = omega arith; low = omega arith } in
      record {
        goes = λ m. rw (p.done n) (goes_op c o stands plan (left - base) take read ord (put_pushed stands.upright.room above p n word) k);
        ordered = λ m. rw (p.done n) ord;
        kept = λ z. absurd (n z);
      }

module _ (c : Context) (o : Op) {ws : List Wanted} {v : Val} {work : List ℕ} {count depth base top dead : ℕ} (stands : Stands work count depth base top dead) (plan : plan_of c (scope_of c (state_at work count (check_of depth base top dead))) o ≡ takes ws (values (v ∷ []))) {left : ℕ} (above : base ≤ left) (take : left_in (take_all c.types (eqb dead 1) ws (stack work base (top - base))) ≡ allowed (stack work base (left - base))) where
  pub told-put : {s : List ℕ} {at size w : ℕ} {r : Done} {work' : List ℕ} → instr_at s at ≡ got (op o) (at + size) → operand_at_code (w % word_bound) ≡ known v → Put work work' left w size r → Told c s at work work' count depth base top dead r
  told-put {work' = work'} read word p =
      record {
        goes = λ n. (told-set-put c o stands plan above take read word p n (marked-none work' count (depth + 1))).goes n;
        ordered = λ n. (told-set-put c o stands plan above take read word p n (marked-none work' count (depth + 1))).ordered n;
        kept = p.kept;
      }

-- no operand is given; a local may be set
module _ (c : Context) (o : Op) {ws : List Wanted} {marks : Option ℕ} {work : List ℕ} {count depth base top dead : ℕ} (stands : Stands work count depth base top dead) (plan : plan_of c (scope_of c (state_at work count (check_of depth base top dead))) o ≡ allowed (record { wants = ws; gives = values []; marks = marks; stops = false })) {left : ℕ} (ord : Ordered base left) (take : left_in (take_all c.types (eqb dead 1) ws (stack work base (top - base))) ≡ allowed (stack work base (left - base))) where
  pub told-set : {s : List ℕ} {at size : ℕ} {work' : List ℕ} → instr_at s at ≡ got (op o) (at + size) → 0 < size → Marked work work' count (depth + 1) marks → Told c s at work work' count depth base top dead (record { top = left; size = size })
  told-set {s} {at} {size} {work'} read some' k =
      record {
        goes = λ n. goes_op c o stands plan (left - base) take read ord (pushed_none work base (left - base)) k;
        ordered = λ n. ord;
        kept = λ z. absurd (omega arith);
      }

-- and nothing is written
module _ (c : Context) (o : Op) {ws : List Wanted} {work : List ℕ} {count depth base top dead : ℕ} (stands : Stands work count depth base top dead) (plan : plan_of c (scope_of c (state_at work count (check_of depth base top dead))) o ≡ takes ws (values [])) {left : ℕ} (ord : Ordered base left) (take : left_in (take_all c.types (eqb dead 1) ws (stack work base (top - base))) ≡ allowed (stack work base (left - base))) where
  pub told_none : {s : List ℕ} {at size : ℕ} {work' : List ℕ} → instr_at s at ≡ got (op o) (at + size) → 0 < size → work' ≡ work → Told c s at work work' count depth base top dead (record { top = left; size = size })
  told_none {s} {at} {size} {work'} read some' same =
      let told = told-set c o stands plan ord take read some' (marked-none work count (depth + 1)) in
      rw same told

-- two operands
pub took_both : {ts : Types} {work : List ℕ} {base top dead v w t u : ℕ} → Took ts work base top dead v t → (t ≡ 0 → ⊥) → Took ts work base (t - 1) dead w u → (u ≡ 0 → ⊥) → left_in (take_all ts (eqb dead 1) (wanted_at_code v ∷ wanted_at_code w ∷ []) (stack work base (top - base))) ≡ allowed (stack work base (u - 1 - base))
took_both {ts} {work} {base} {top} {dead} {v} {w} a n b m =
    left-append ts (eqb dead 1) (wanted_at_code v ∷ []) (wanted_at_code w ∷ []) (stack work base (top - base))
    ∙ ap (λ (t : Ruled (List Operand)). and_ruled t (λ more. left_in (take_all ts (eqb dead 1) (wanted_at_code w ∷ []) more))) (a.left n)
    ∙ b.left m

pub took_two : {work : List ℕ} {base top dead w t u : ℕ} → TookAny work base top dead w t → (t ≡ 0 → ⊥) → TookAny work base (t - 1) dead w u → (u ≡ 0 → ⊥) → (ts : Types) → left_in (take_all ts (eqb dead 1) (wanted_at_code w ∷ wanted_at_code w ∷ []) (stack work base (top - base))) ≡ allowed (stack work base (u - 1 - base))
took_two a n b m ts = took_both (a.is ts) n (b.is ts) m
