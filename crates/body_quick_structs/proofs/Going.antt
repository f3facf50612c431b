-- Each way out of struct.get and struct.set: the table has the field, and the operands fit.
use Prim.Native.Nat.{ℕ, ◌+◌, ◌-◌, ◌/◌, ◌%◌, ◌^◌, ◌≤◌, ◌<◌}
use mathlib.Core.Path.{◌≡◌, refl, sym, ap, ◌∙◌}
use mathlib.Core.Bool.{true}
use mathlib.Core.Option.{some}
use mathlib.Core.List.{List, [], ◌∷◌}
use native.Mathlib.Omega.{arith}
use lib.ListN.{length, get_elem?}
use lib.Dec.{eqb}
use borrow.Author.Tests.{eq-eqb}
use mir.Syntax.{w16, w64}
use mir.Val.{Fits}
use Rattle.scope.specs.Reading.{got}
use Rattle.scope.specs.Numbers.{u32}
use Rattle.scope.specs.Syntax.{Types, Val, defined, ref, nullable}
use Rattle.scope.specs.Instructions.{op, struct_get, struct_set, instr_at}
use Rattle.scope.specs.BodyRules.{Context, Scope, Wanted, value, values, Ruled, allowed, takes, plan_of}
use Rattle.scope.specs.Bodies.{take_all, scope_of}
use Rattle.type_table.specs.View.{val_at_code, field_at_code, view}
use Rattle.body_state.specs.Layout.{code_bound}
use Rattle.body_state.specs.declared.Scene.{Scene}
use Rattle.body_state.specs.State.{wanted_at_code, stack, context_at, state_at}
use Rattle.body_words.proofs.Laws.{value_code, known_kept}
use Rattle.body_operands.specs.Taking.{left_in}
use Rattle.body_plan_parts.specs.Planning.{context_on, CodeIs}
use Rattle.body_plan_fields.specs.declared.Field.{Field}
use Rattle.body_plan_fields.specs.declared.Field
use Rattle.body_plan_fields.specs.OneField.{field_at, FieldOf}
use Rattle.body_plan_fields.proofs.Going.{get_is, set_is, found_is, field_small}
use Rattle.body_progress.specs.Standing.{Ordered, check_of}
use Rattle.body_quick_read.specs.declared.Two.{Two}
use Rattle.body_quick_read.specs.Items.{TwoTold}
use Rattle.body_quick_take.specs.declared.Done.{Done}
use Rattle.body_quick_take.specs.Taking.{Took, Put}
use Rattle.body_quick_take.specs.Telling.{AskedAfter, Told}
use Rattle.body_quick_take.proofs.Tellings.{told-not, told-put, told_none, took_both}
use Rattle.body_quick_take.proofs.Asking.{took_ordered, took_value, after_exits}
use Rattle.body_quick_structs.specs.declared.Place.{Place}
use Rattle.body_quick_structs.specs.Fields.{FieldNamed, FieldTold}

-- the field that is named

pub no_field : (s : List ℕ) (at : ℕ) (ts : Types) (count : ℕ) → FieldTold s at ts count (record { object = 0; field = 0; size = 0 })
no_field s at ts count = record { is = λ n. absurd (n refl) }

module _ {s : List ℕ} {at : ℕ} {q : Two} (d : TwoTold s at q) {ts : Types} {count : ℕ} {r : Field} (a : FieldOf ts count q.first q.second r) {c : ℕ} (e : r ≡ Field.TheVariants.Is c) where
  pub type-small : Fits w16 count → q.first < 2 ^ 16
  type-small f = field_small a e f

  pub field_there : {o : ℕ} → CodeIs (ref true (defined q.first)) o → FieldTold s at ts count (record { object = o; field = c; size = q.size })
  field_there o =
      record {
        is = λ n.
            record { type = q.first; number = q.second; between = d.between n; first = d.first n; second = d.second n; inside = d.inside n; object = o; field = found_is a e; small = (a.low c e).1 };
      }

pub ruleset field_exits = (no_field, type-small, field_there)

-- what both ask

module _ {k : ℕ} {s : List ℕ} {at : ℕ} {work : List ℕ} {count depth base top dead : ℕ} (a : AskedAfter k s at work count depth base top dead) {ts : Types} {types : ℕ} {q : Place} (d : FieldTold s (at + 2) ts types q) (m : q.size ≡ 0 → ⊥) where
  pub size_fits : length s < 2 ^ 64 → Fits w64 (2 + q.size)
  size_fits l = let i = (d.is m).inside in record { fits = omega arith }

  pub object_fits : Fits w64 (q.object + 2)
  object_fits = let l = (d.is m).object.small in record { fits = omega arith }

  pub field_fits : Fits w64 (q.field / 2 + 2)
  field_fits = let l = (d.is m).small in record { fits = omega arith }

-- struct.get

read_get : (s : List ℕ) (at next n x i : ℕ) → get_elem? s at ≡ some 0xFB → u32 s (at + 1) ≡ got 0x02 (at + 2) → u32 s (at + 2) ≡ got x next → u32 s next ≡ got i (at + 2 + n) → instr_at s at ≡ got (op (struct_get x i)) (at + (2 + n))
unfolding instr_at
read_get s at next n x i e f g h = let place : at + 2 + n ≡ at + (2 + n) = omega arith in rw (e, f, g, h, place)

plan_get : (rows codes work : List ℕ) (k : Scene) (here : Scope) (x i c : ℕ) → field_at (view rows codes) k.types x i ≡ allowed (field_at_code c) → plan_of (context_at rows codes work k) here (struct_get x i) ≡ takes (value (nullable (defined x)) ∷ []) (values (val_at_code (c / 2) ∷ []))
unfolding context_at field_at_code
plan_get rows codes work k here x i c e = get_is (view rows codes) k.types x i _ _ here ∙ rw e

module _ (rows codes : List ℕ) (k : Scene) {s : List ℕ} {at : ℕ} {work : List ℕ} {depth base top dead : ℕ} (a : AskedAfter 0x02 s at work k.locals depth base top dead) {q : Place} (d : FieldTold s (at + 2) (view rows codes) k.types q) (m : q.size ≡ 0 → ⊥) {t : ℕ} (taken : Took (view rows codes) work base top dead (q.object + 2) t) (some' : t ≡ 0 → ⊥) where
  pub get_told : {work' : List ℕ} {r : Done} → Put work work' (t - 1) (q.field / 2 + 2) (2 + q.size) r → Told (context_at rows codes work k) s at work work' k.locals depth base top dead r
  unfolding context_at
  get_told p =
      let f = d.is m in
      let c = context_at rows codes work k in
      let low = f.small in
      let small : q.field / 2 < code_bound = omega arith in
      let take : left_in (take_all (view rows codes) (eqb dead 1) (value (nullable (defined f.type)) ∷ []) (stack work base (top - base))) ≡ allowed (stack work base (t - 1 - base)) = rw f.object.is at (took_value q.object taken some') in
      told-put c (struct_get f.type f.number) a.stands (plan_get rows codes work k (scope_of c (state_at work k.locals (check_of depth base top dead))) f.type f.number q.field f.field) (taken.above some') take (read_get s at f.between q.size f.type f.number a.byte a.code f.first f.second) (known_kept small) p

pub ruleset get_exits = (after_exits, size_fits, object_fits, field_fits, get_told, told-not)

-- struct.set

read_set : (s : List ℕ) (at next n x i : ℕ) → get_elem? s at ≡ some 0xFB → u32 s (at + 1) ≡ got 0x05 (at + 2) → u32 s (at + 2) ≡ got x next → u32 s next ≡ got i (at + 2 + n) → instr_at s at ≡ got (op (struct_set x i)) (at + (2 + n))
unfolding instr_at
read_set s at next n x i e f g h = let place : at + 2 + n ≡ at + (2 + n) = omega arith in rw (e, f, g, h, place)

plan_set : (rows codes work : List ℕ) (k : Scene) (here : Scope) (x i c : ℕ) → c % 2 ≡ 1 → field_at (view rows codes) k.types x i ≡ allowed (field_at_code c) → plan_of (context_at rows codes work k) here (struct_set x i) ≡ takes (value (val_at_code (c / 2)) ∷ value (nullable (defined x)) ∷ []) (values [])
unfolding context_at field_at_code
plan_set rows codes work k here x i c odd e = set_is (view rows codes) k.types x i _ _ here ∙ rw (e, eq-eqb (c % 2) 1 odd)

odd_is : (c : ℕ) → (c % 2 ≡ 0 → ⊥) → c % 2 ≡ 1
odd_is c n = omega (arith, n)

module _ (rows codes : List ℕ) (k : Scene) {s : List ℕ} {at : ℕ} {work : List ℕ} {depth base top dead : ℕ} (a : AskedAfter 0x05 s at work k.locals depth base top dead) {q : Place} (d : FieldTold s (at + 2) (view rows codes) k.types q) (m : q.size ≡ 0 → ⊥) (even : q.field % 2 ≡ 0 → ⊥) {t : ℕ} (taken : Took (view rows codes) work base top dead (q.field / 2 + 2) t) (some' : t ≡ 0 → ⊥) where
  pub one_ordered : Ordered base (t - 1)
  one_ordered = took_ordered a.stands.ordered taken some'

  module _ {u : ℕ} (below : Took (view rows codes) work base (t - 1) dead (q.object + 2) u) (more : u ≡ 0 → ⊥) where
    pub set_told : Told (context_at rows codes work k) s at work work k.locals depth base top dead (record { top = u - 1; size = 2 + q.size })
    unfolding context_at
    set_told =
        let f = d.is m in
        let c = context_at rows codes work k in
        let take : left_in (take_all (view rows codes) (eqb dead 1) (value (val_at_code (q.field / 2)) ∷ value (nullable (defined f.type)) ∷ []) (stack work base (top - base))) ≡ allowed (stack work base (u - 1 - base)) = rw (value_code (q.field / 2), value_code q.object, f.object.is) at (took_both taken some' below more) in
        told_none c (struct_set f.type f.number) a.stands (plan_set rows codes work k (scope_of c (state_at work k.locals (check_of depth base top dead))) f.type f.number q.field (odd_is q.field even) f.field) (took_ordered one_ordered below more) take (read_set s at f.between q.size f.type f.number a.byte a.code f.first f.second) (omega arith) refl

pub ruleset set_exits = (after_exits, size_fits, object_fits, field_fits, one_ordered, set_told, told-not)
