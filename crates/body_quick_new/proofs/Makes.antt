-- Each way out of the makers of structs: the table has the struct, its fields are on the stack or have defaults.
use Prim.Native.Nat.{ℕ, ◌+◌, ◌-◌, ◌%◌, ◌^◌, ◌≤◌, ◌<◌}
use mathlib.Core.Path.{◌≡◌, refl, sym, ap, ◌∙◌}
use mathlib.Core.Bool.{Bool, true, false, not}
use mathlib.Core.Option.{some}
use mathlib.Core.List.{List, [], ◌∷◌}
use native.Mathlib.Omega.{arith}
use lib.ListN.{length, get_elem?}
use lib.Dec.{eqb}
use borrow.Author.Tests.{not-false}
use mir.Syntax.{w16, w32, w64}
use mir.Val.{Fits}
use Rattle.scope.specs.Reading.{got}
use Rattle.scope.specs.Numbers.{u32}
use Rattle.scope.specs.Syntax.{Types, Val, exact, ref, non_null}
use Rattle.scope.specs.Instructions.{op, struct_new, struct_new_default, instr_at}
use Rattle.scope.specs.BodyRules.{Scope, values, allowed, takes, from_top, holds_of, plan_of}
use Rattle.scope.specs.Bodies.{Operand, known, take_all, scope_of}
use Rattle.type_table.specs.View.{field_at_code, codes_at, val_at_code, view}
use Rattle.body_state.specs.Layout.{word_bound}
use Rattle.body_state.specs.declared.Scene.{Scene}
use Rattle.body_state.specs.declared.Values
use Rattle.body_state.specs.State.{operand_at_code, values_of, stack, context_at, state_at}
use Rattle.body_words.proofs.Laws.{known_kept}
use Rattle.body_operands.specs.declared.Left.{Left}
use Rattle.body_operands.specs.declared.Left
use Rattle.body_operands.specs.Taking.{left_in, left_of}
use Rattle.body_plan_parts.specs.Planning.{CodeIs}
use Rattle.body_plan_structs.specs.declared.Fields.{Fields}
use Rattle.body_plan_structs.specs.declared.Fields
use Rattle.body_plan_structs.specs.Structs.{Undescribed}
use Rattle.body_plan_structs.proofs.Describing.{fields_are, struct_small}
use Rattle.body_plan_defaults.specs.Defaults.{all_default}
use Rattle.body_plan_new.proofs.Making.{new_is}
use Rattle.body_plan_new_default.proofs.Filling.{default_is}
use Rattle.body_progress.specs.Standing.{Ordered, check_of}
use Rattle.body_quick_read.specs.declared.Item.{Item}
use Rattle.body_quick_read.specs.Items.{NumberTold}
use Rattle.body_quick_take.specs.declared.Done.{Done}
use Rattle.body_quick_take.specs.Taking.{Put}
use Rattle.body_quick_take.specs.Telling.{AskedAfter, Told}
use Rattle.body_quick_take.proofs.Tellings.{left-none, told-not, told-put}
use Rattle.body_quick_take.proofs.Asking.{after_exits}
use Rattle.body_quick_new.specs.Making.{Making, MadeOf, Made, Filling, Filled}

-- the fields taken, and the struct put

module _ {x size base top : ℕ} (a : Making x size base top) where
  pub making_above : base ≤ top
  making_above = a.ordered.above

  pub making_base : Fits w32 base
  making_base = let h = a.ordered.above in let l = a.ordered.low in record { fits = omega arith }

  pub making_height : Fits w32 (top - base)
  making_height = let l = a.ordered.low in record { fits = omega arith }

  pub making_small : x < 2 ^ 16
  making_small = a.small

  pub making_some : 0 < size
  making_some = a.some'

  pub below-fits : {left : ℕ} → left < 2 ^ 32 → Fits w64 (base + left)
  below-fits f = let h = a.ordered.above in let l = a.ordered.low in record { fits = omega arith }

pub code_fits : {v : Val} {c : ℕ} → CodeIs v c → Fits w64 (c + 2)
code_fits c = let s = c.small in record { fits = omega arith }

pub made_not : (ts : Types) (codes : List ℕ) {work work' : List ℕ} (first n x size base top dead : ℕ) {r : Done} → r ≡ record { top = 0; size = 0 } → work' ≡ work → Made ts codes work work' first n x size base top dead r
made_not ts codes first n x size base top dead e k =
    let none' = ap (λ (d : Done). d.size) e in
    record { is = λ m. absurd (m none'); kept = λ z. k }

pub made_is : {ts : Types} {codes work : List ℕ} {first n x size base top dead : ℕ} {t : Left} {left : ℕ} → t ≡ Left.TheVariants.Is left → left_of work base t ≡ left_in (take_all ts (eqb dead 1) (from_top (values_of codes (Values.TheVariants.Fields first n))) (stack work base (top - base))) → {c : ℕ} → CodeIs (ref false (exact x)) c → {work' : List ℕ} {r : Done} → Put work work' (base + left) (c + 2) size r → Made ts codes work work' first n x size base top dead r
made_is {ts} {codes} {work} {first} {n} {x} {size} {base} {top} {dead} {t} {left} e l {c} code p =
    let back : base + left - base ≡ left = omega arith in
    let take = sym l ∙ ap (left_of work base) e ∙ ap (λ (h : ℕ). allowed (stack work base h)) (sym back) in
    record { is = λ m. record { left = base + left; above = omega arith; take = take; word = c; code = code; put = p }; kept = p.kept }

pub filled-not : (codes : List ℕ) {work work' : List ℕ} (first n x size top : ℕ) {r : Done} → r ≡ record { top = 0; size = 0 } → work' ≡ work → Filled codes work work' first n x size top r
filled-not codes first n x size top e k =
    let none' = ap (λ (d : Done). d.size) e in
    record { is = λ m. absurd (m none'); kept = λ z. k }

pub filled_is : {codes work : List ℕ} {first n x size top : ℕ} {all : Bool} → all ≡ all_default true codes first n → not all ≡ false → {c : ℕ} → CodeIs (ref false (exact x)) c → {work' : List ℕ} {r : Done} → Put work work' top (c + 2) size r → Filled codes work work' first n x size top r
filled_is {all = all} f g {c} code p = record { is = λ m. record { all = sym f ∙ not-false all g; word = c; code = code; put = p }; kept = p.kept }

pub ruleset filled_exits = (making_small, making_some, code_fits, filled-not, filled_is)

pub ruleset made_exits = (making_above, making_base, making_height, making_small, making_some, below-fits, code_fits, made_not, made_is)

-- what both ask

module _ {k : ℕ} {s : List ℕ} {at : ℕ} {work : List ℕ} {count depth base top dead : ℕ} (a : AskedAfter k s at work count depth base top dead) {q : Item} (d : NumberTold s (at + 2) q) (m : q.size ≡ 0 → ⊥) where
  pub size_fits : length s < 2 ^ 64 → Fits w64 (2 + q.size)
  size_fits l = let i = d.inside m in record { fits = omega arith }

  module _ {codes : List ℕ} {ts : Types} {types : ℕ} {r : Fields} (u : Undescribed codes ts types q.value r) {first n : ℕ} (e : r ≡ Fields.TheVariants.Are first n) where
    pub may_make : Fits w16 types → Making q.value (2 + q.size) base top
    may_make f = record { small = struct_small u e f; some' = omega arith; ordered = a.stands.ordered }

-- struct.new

read_new : (s : List ℕ) (at n x : ℕ) → get_elem? s at ≡ some 0xFB → u32 s (at + 1) ≡ got 0x00 (at + 2) → u32 s (at + 2) ≡ got x (at + 2 + n) → instr_at s at ≡ got (op (struct_new x)) (at + (2 + n))
unfolding instr_at
read_new s at n x e f g = let place : at + 2 + n ≡ at + (2 + n) = omega arith in rw (e, f, g, place)

plan_new : (rows codes work : List ℕ) (k : Scene) (here : Scope) (x first n : ℕ) {r : Fields} → Undescribed codes (view rows codes) k.types x r → r ≡ Fields.TheVariants.Are first n → plan_of (context_at rows codes work k) here (struct_new x) ≡ takes (from_top (values_of codes (Values.TheVariants.Fields first n))) (values (non_null (exact x) ∷ []))
unfolding context_at values_of
plan_new rows codes work k here x first n u e = new_is (view rows codes) k.types x _ _ here ∙ rw (fields_are u e)

word_is : {v : Val} {c : ℕ} → CodeIs v c → operand_at_code ((c + 2) % word_bound) ≡ known v
word_is c = known_kept c.small ∙ ap known c.is

module _ (rows codes : List ℕ) (k : Scene) {s : List ℕ} {at : ℕ} {work : List ℕ} {depth base top dead : ℕ} where
  module _ (a : AskedAfter 0x00 s at work k.locals depth base top dead) {q : Item} (d : NumberTold s (at + 2) q) (m : q.size ≡ 0 → ⊥) {r : Fields} (u : Undescribed codes (view rows codes) k.types q.value r) {first n : ℕ} (e : r ≡ Fields.TheVariants.Are first n) {work' : List ℕ} {done : Done} (p : Made (view rows codes) codes work work' first n q.value (2 + q.size) base top dead done) where
    new_goes : (j : done.size ≡ 0 → ⊥) → Told (context_at rows codes work k) s at work work' k.locals depth base top dead done
    unfolding context_at
    new_goes j =
        let x = q.value in
        let g = p.is j in
        let c = context_at rows codes work k in
        told-put c (struct_new x) a.stands (plan_new rows codes work k (scope_of c (state_at work k.locals (check_of depth base top dead))) x first n u e) g.above g.take (read_new s at q.size x a.byte a.code (d.is m)) (word_is g.code) g.put

    pub new_told : Told (context_at rows codes work k) s at work work' k.locals depth base top dead done
    new_told = record { goes = λ j. (new_goes j).goes j; ordered = λ j. (new_goes j).ordered j; kept = p.kept }

pub ruleset new_exits = (after_exits, size_fits, may_make, new_told, told-not)

-- struct.new_default

read_default : (s : List ℕ) (at n x : ℕ) → get_elem? s at ≡ some 0xFB → u32 s (at + 1) ≡ got 0x01 (at + 2) → u32 s (at + 2) ≡ got x (at + 2 + n) → instr_at s at ≡ got (op (struct_new_default x)) (at + (2 + n))
unfolding instr_at
read_default s at n x e f g = let place : at + 2 + n ≡ at + (2 + n) = omega arith in rw (e, f, g, place)

plan_default : (rows codes work : List ℕ) (k : Scene) (here : Scope) (x first n : ℕ) {r : Fields} → Undescribed codes (view rows codes) k.types x r → r ≡ Fields.TheVariants.Are first n → all_default true codes first n ≡ true → plan_of (context_at rows codes work k) here (struct_new_default x) ≡ takes [] (values (non_null (exact x) ∷ []))
unfolding context_at all_default
plan_default rows codes work k here x first n u e f = default_is (view rows codes) k.types x _ _ here ∙ rw (fields_are u e, f)

module _ (rows codes : List ℕ) (k : Scene) {s : List ℕ} {at : ℕ} {work : List ℕ} {depth base top dead : ℕ} where
  module _ (a : AskedAfter 0x01 s at work k.locals depth base top dead) {q : Item} (d : NumberTold s (at + 2) q) (m : q.size ≡ 0 → ⊥) {r : Fields} (u : Undescribed codes (view rows codes) k.types q.value r) {first n : ℕ} (e : r ≡ Fields.TheVariants.Are first n) {work' : List ℕ} {done : Done} (p : Filled codes work work' first n q.value (2 + q.size) top done) where
    default_goes : (j : done.size ≡ 0 → ⊥) → Told (context_at rows codes work k) s at work work' k.locals depth base top dead done
    unfolding context_at
    default_goes j =
        let x = q.value in
        let g = p.is j in
        let c = context_at rows codes work k in
        told-put c (struct_new_default x) a.stands (plan_default rows codes work k (scope_of c (state_at work k.locals (check_of depth base top dead))) x first n u e g.all) a.stands.ordered.above (left-none (view rows codes) (eqb dead 1) (stack work base (top - base))) (read_default s at q.size x a.byte a.code (d.is m)) (word_is g.code) g.put

    pub default_told : Told (context_at rows codes work k) s at work work' k.locals depth base top dead done
    default_told = record { goes = λ j. (default_goes j).goes j; ordered = λ j. (default_goes j).ordered j; kept = p.kept }

pub ruleset default_exits = (after_exits, size_fits, may_make, default_told, told-not)
