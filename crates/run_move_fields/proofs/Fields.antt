-- Each way out of the instructions that look into an object: struct.get, struct.set and ref.get_desc.
use Prim.Native.Nat.{ℕ, ◌+◌, ◌*◌, ◌^◌, ◌≤◌, ◌<◌}
use mathlib.Core.Path.{◌≡◌, ◌∙◌}
use mathlib.Core.Option.{none, some}
use mathlib.Core.List.{List}
use native.Mathlib.Omega.{arith}
use lib.ListN.{get_or, get_elem?, drop}
use lib.Seq.{drop-drop}
use mir.Syntax.{w32}
use mir.Val.{Fits}
use Rattle.scope.specs.Told.{Maybe}
use Rattle.std.specs.Prelude.{None, Some}
use Rattle.scope.specs.Layout.{object_span}
use Rattle.scope.specs.Refusals.{trap_null}
use Rattle.scope.specs.Instructions.{struct_get, struct_set, ref_get_desc}
use Rattle.scope.specs.Machine.{Value, Object, Store, Outcome, traps, stuck, on_taken, on_object, do_op}
use Rattle.run_values.specs.Layout.{count_word}
use Rattle.run_value.specs.declared.Value
use Rattle.run_value.specs.declared.Value.{Value as Carrier}
use Rattle.type_table.proofs.Laws.{link_nothing, link_to}
use Rattle.run_objects.specs.Objects.{object_word, object_at, DescriptorOf, HeldField}
use Rattle.run_objects.proofs.Packs.{object_there, object_none}
use Rattle.run_objects.proofs.Asked.{fields_length, field_got, field_missed}
use Rattle.run_state.specs.declared.Move
use Rattle.run_state.specs.declared.Reference.{Reference}
use Rattle.run_state.specs.declared.Reference
use Rattle.run_state.specs.Planned.{reference_at, Seen, FieldPlans, SetPlans}
use Rattle.run_state.proofs.Tops.{on_top_lem, on_none, top_low, two-low, value_top, no_top, wrong_top, null_top, object_top}
use Rattle.run_state.proofs.Moving.{strays, trapping, giving, setting_field, giving_object}

-- the topmost operand, looked into

module _ {vs : List Value} {t : Maybe Carrier} {r : Reference} (s : Seen vs t) (is : r ≡ reference_at t) (os : Store) (f : List Value → ℕ → Object → Outcome) where
  look_wrong : r ≡ Reference.TheVariants.Wrong → on_taken vs (λ v below. on_object os trap_null v (f below)) ≡ stuck
  look_wrong e = wrong_top s is e _

  look_null : r ≡ Reference.TheVariants.Null → on_taken vs (λ v below. on_object os trap_null v (f below)) ≡ traps trap_null
  look_null e = on_top_lem vs (null_top s is e) _

  module _ {o : ℕ} (e : r ≡ Reference.TheVariants.To o) where
    look_missing : get_elem? os o ≡ none → on_taken vs (λ v below. on_object os trap_null v (f below)) ≡ stuck
    look_missing h = on_top_lem vs (object_top s is e) _ ∙ rw h

    look_there : {it : Object} → get_elem? os o ≡ some it → on_taken vs (λ v below. on_object os trap_null v (f below)) ≡ f (drop 1 vs) o it
    look_there h = on_top_lem vs (object_top s is e) _ ∙ rw h

-- struct.get

module _ {objects cells : List ℕ} {n : ℕ} {first : Maybe Carrier} (x i : ℕ) {r : Reference} (is : r ≡ reference_at first) where
  pub get_wrong : r ≡ Reference.TheVariants.Wrong → FieldPlans objects cells n first (struct_get x i) Move.TheVariants.Astray
  unfolding do_op
  get_wrong e = record { is = λ p codes m total a. strays (look_wrong a.top is m.heap _ e) }

  pub get_null : r ≡ Reference.TheVariants.Null → FieldPlans objects cells n first (struct_get x i) (Move.TheVariants.Traps trap_null)
  unfolding do_op
  get_null e = record { is = λ p codes m total a. trapping (look_null a.top is m.heap _ e) }

  module _ {o : ℕ} (e : r ≡ Reference.TheVariants.To o) where
    pub get_past : n ≤ o → FieldPlans objects cells n first (struct_get x i) Move.TheVariants.Astray
    unfolding do_op
    get_past h =
        record { is = λ p codes m total a. strays (look_missing a.top is m.heap _ e (object_none objects cells a.heap h)) }

    module _ (h : o < n) {held : Maybe Carrier} (b : HeldField objects cells o i held) where
      pub get_missed : held ≡ None → FieldPlans objects cells n first (struct_get x i) Move.TheVariants.Astray
      unfolding do_op
      get_missed q =
          record { is = λ p codes m total a. strays (look_there a.top is m.heap _ e (object_there objects cells a.heap h) ∙ rw (field_missed b q)) }

      pub get_got : {v : Carrier} → held ≡ Some v → FieldPlans objects cells n first (struct_get x i) (Move.TheVariants.Gives 1 v)
      unfolding do_op
      get_got {v} q =
          record {
            is = λ p codes m total a.
                giving 1 v
                (look_there a.top is m.heap _ e (object_there objects cells a.heap h) ∙ rw (field_got b q))
                (top_low m.operands (object_top a.top is e));
          }

-- struct.set

module _ {objects cells : List ℕ} {n : ℕ} {first second : Maybe Carrier} (x i : ℕ) where
  pub set_nothing : first ≡ None → SetPlans objects cells n first second (struct_set x i) Move.TheVariants.Astray
  unfolding do_op
  set_nothing e = record { is = λ p codes m total a next. strays (on_none m.operands (no_top a.top e) _) }

  module _ {v : Carrier} (q : first ≡ Some v) {r : Reference} (is : r ≡ reference_at second) where
    pub set_wrong : r ≡ Reference.TheVariants.Wrong → SetPlans objects cells n first second (struct_set x i) Move.TheVariants.Astray
    unfolding do_op
    set_wrong e =
        record { is = λ p codes m total a next. strays (on_top_lem m.operands (value_top a.top q) _ ∙ look_wrong next is m.heap _ e) }

    pub set_null : r ≡ Reference.TheVariants.Null → SetPlans objects cells n first second (struct_set x i) (Move.TheVariants.Traps trap_null)
    unfolding do_op
    set_null e =
        record { is = λ p codes m total a next. trapping (on_top_lem m.operands (value_top a.top q) _ ∙ look_null next is m.heap _ e) }

    module _ {o : ℕ} (e : r ≡ Reference.TheVariants.To o) where
      pub set_past : n ≤ o → SetPlans objects cells n first second (struct_set x i) Move.TheVariants.Astray
      unfolding do_op
      set_past h =
          record {
            is = λ p codes m total a next.
                strays
                (on_top_lem m.operands (value_top a.top q) _
                ∙ look_missing next is m.heap _ e (object_none objects cells a.heap h));
          }

      module _ (h : o < n) {held : Maybe Carrier} (b : HeldField objects cells o i held) where
        pub set_missed : held ≡ None → SetPlans objects cells n first second (struct_set x i) Move.TheVariants.Astray
        unfolding do_op
        set_missed f =
            record {
              is = λ p codes m total a next.
                  strays
                  (on_top_lem m.operands (value_top a.top q) _
                  ∙ look_there next is m.heap _ e (object_there objects cells a.heap h)
                  ∙ rw (field_missed b f));
            }

        pub set_got : {u : Carrier} → held ≡ Some u → SetPlans objects cells n first second (struct_set x i) (Move.TheVariants.SetsField 2 o i v)
        unfolding do_op
        set_got {u} f =
            record {
              is = λ p codes m total a next.
                  let there = object_there objects cells a.heap h in
                  setting_field 2 o i v (object_at objects cells o) there
                  (on_top_lem m.operands (value_top a.top q) _
                  ∙ look_there next is m.heap _ e there
                  ∙ rw (field_got b f, drop-drop 1 1 m.operands))
                  (two-low m.operands (value_top a.top q) (object_top next is e))
                  (b.inside u f);
            }

-- the number of a field that is there is less than how many there are, which is one word
pub field_fits :
    {objects cells : List ℕ} {o i : ℕ} {held : Maybe Carrier} → HeldField objects cells o i held → {v : Carrier} → held ≡ Some v → ((j : ℕ) → get_or objects j 0 < 2 ^ 16)
    → Fits w32 i
field_fits {objects} {cells} {o} {i} b {v} e words =
    let small = words (object_span * o + count_word) in
    let inside : i < object_word objects o count_word = rw (fields_length objects cells o) at (b.inside v e) in record { fits = omega arith }

-- ref.get_desc

module _ {objects cells : List ℕ} {n : ℕ} {first : Maybe Carrier} (x : ℕ) {r : Reference} (is : r ≡ reference_at first) where
  pub desc_wrong : r ≡ Reference.TheVariants.Wrong → FieldPlans objects cells n first (ref_get_desc x) Move.TheVariants.Astray
  unfolding do_op
  desc_wrong e = record { is = λ p codes m total a. strays (look_wrong a.top is m.heap _ e) }

  pub desc_null : r ≡ Reference.TheVariants.Null → FieldPlans objects cells n first (ref_get_desc x) (Move.TheVariants.Traps trap_null)
  unfolding do_op
  desc_null e = record { is = λ p codes m total a. trapping (look_null a.top is m.heap _ e) }

  module _ {o : ℕ} (e : r ≡ Reference.TheVariants.To o) where
    pub desc_past : n ≤ o → FieldPlans objects cells n first (ref_get_desc x) Move.TheVariants.Astray
    unfolding do_op
    desc_past h =
        record { is = λ p codes m total a. strays (look_missing a.top is m.heap _ e (object_none objects cells a.heap h)) }

    module _ (h : o < n) {link : Maybe ℕ} (b : DescriptorOf objects o link) where
      pub desc_missed : link ≡ None → FieldPlans objects cells n first (ref_get_desc x) Move.TheVariants.Astray
      unfolding do_op
      desc_missed q =
          record {
            is = λ p codes m total a.
                strays
                (look_there a.top is m.heap _ e (object_there objects cells a.heap h)
                ∙ rw (link_nothing (object_at objects cells o).descriptor (b.is cells) q));
          }

      pub desc_got : {d : ℕ} → link ≡ Some d → FieldPlans objects cells n first (ref_get_desc x) (Move.TheVariants.Gives 1 (Value.TheVariants.Object d))
      unfolding do_op
      desc_got {d} q =
          record {
            is = λ p codes m total a.
                giving_object 1 d
                (look_there a.top is m.heap _ e (object_there objects cells a.heap h)
                ∙ rw (link_to (object_at objects cells o).descriptor (b.is cells) q))
                (top_low m.operands (object_top a.top is e));
          }

pub ruleset field_exits = (get_wrong, get_null, get_past, get_missed, get_got, set_nothing, set_wrong, set_null, set_past, set_missed, set_got, desc_wrong, desc_null, desc_past, desc_missed, desc_got)
