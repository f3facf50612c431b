-- Trap 45, both ways. Only `make` says 45, and it does exactly when the test of room fails; every other way of putting an
-- outcome together says another trap or none. So an instruction that traps with 45 is an allocation that came to its room.
use Prim.Native.Nat.{ℕ, zero, suc, ◌+◌}
use native.Mathlib.Omega.{arith}
use mathlib.Core.Path.{◌≡◌, refl, sym, ◌∙◌, ap}
use mathlib.Core.Bool.{Bool, true, false, cond, ◌&&◌, false≢true}
use mathlib.Core.Option.{Option, none, some}
use mathlib.Core.List.{List, [], ◌∷◌, ◌++◌, reverse}
use lib.ListN.{length, replicate, length-reverse}
use lib.Dec.{ltb, leb}
use borrow.Author.Tests.{ltb-true, ltb-false, leb-true, leb-false}
use Rattle.scope.specs.Sizes.{most_objects, most_cells}
use Rattle.scope.specs.Refusals.{trap_no_room}
use Rattle.scope.specs.Reading.{given}
use Rattle.scope.specs.Syntax.{Val, Field, Form, struct, func}
use Rattle.scope.specs.BodyRules.{fields_of, holds_of}
use Rattle.scope.specs.Instructions.{Op, unreachable, nop, return, drop_value, br, br_if, local_get, local_set, local_tee, i32_const, i64_const, f32_const, f64_const, numeric, ref_null, ref_is_null, ref_eq, ref_as_non_null, struct_new, struct_new_default, struct_get, struct_set, ref_test, ref_cast, br_on_cast, br_on_cast_fail, struct_new_desc, struct_new_default_desc, ref_get_desc, ref_cast_desc_eq, br_on_cast_desc_eq, br_on_cast_desc_eq_fail}
use Rattle.scope.specs.Machine.{Value, number, null, object, Object, Store, Machine, Program, Outcome, goes, traps, stuck, with_operands, with_heap, split_top, cells_of, has_room, make, make_given, defaults_of, default_of, make_default, on_descriptor, do_op}
use Rattle.scope.proofs.Truths.{none_is_not-some, from_both}
use Rattle.facts_runs.specs.Counting.{makes_object}
use Rattle.facts_runs.proofs.Trapping.{Other, goes_on_lem, is_stuck, other_trap, told, Each, other_op}
use Rattle.facts_runs.specs.NoRoom.{Cells, no_cells, more_cells, NoRoom, all_objects, too_few_cells, ComesToRoom, of_new, of_default, of_new_desc, of_default_desc, TrapsNoRoom, FortyFive}

-- room

cells_stand : (heap : Store) → Cells heap (cells_of heap)
cells_stand [] = no_cells
cells_stand (it ∷ heap) = more_cells (cells_stand heap)

only_cells : {heap : Store} {n : ℕ} → Cells heap n → cells_of heap ≡ n
only_cells no_cells = refl
only_cells (more_cells more) = rw (only_cells more)

pub no_room_lem : (heap : Store) (n : ℕ) → has_room heap n ≡ false → NoRoom heap n
no_room_lem heap n e = go (ltb (length heap) most_objects) refl e
  where
    go : (t : Bool) → ltb (length heap) most_objects ≡ t → t && leb (cells_of heap + n) most_cells ≡ false → NoRoom heap n
    go true few f = let many = leb-false _ _ f in too_few_cells (cells_stand heap) many
    go false many f = all_objects (ltb-false _ _ many)

pub room_none : (heap : Store) (n : ℕ) → NoRoom heap n → has_room heap n ≡ false
room_none heap n full = go (has_room heap n) refl full
  where
    go : (t : Bool) → has_room heap n ≡ t → NoRoom heap n → t ≡ false
    go false e f = refl
    go true e (all_objects many) = absurd (let (few, cells) = from_both (ltb (length heap) most_objects) _ e in let h = ltb-true (length heap) most_objects few in omega arith)
    go true e (too_few_cells {used = used} cells many) =
        absurd (let (few, fits) = from_both (ltb (length heap) most_objects) _ e in
        let h = leb-true (cells_of heap + n) most_cells fits in
        let same = only_cells cells in
        omega arith)

-- an outcome that is not 45

abbrev Not45 : ℕ → Type 0
Not45 n = n ≡ trap_no_room → ⊥

each_not_45 : Each Not45
each_not_45 = record { unreachable = λ e. omega arith; null = λ e. omega arith; null_descriptor = λ e. omega arith; cast = λ e. omega arith }

other_not_45 : {o : Outcome} → Other Not45 o → o ≡ traps trap_no_room → ⊥
other_not_45 other e = told other e refl

not_45 : (p : Program) (m : Machine) (vs : List Value) (o : Op) → makes_object o ≡ false → do_op p m vs o ≡ traps trap_no_room → ⊥
not_45 p m vs o none_made e =
    other_not_45 (other_op each_not_45 p m vs o (λ makes. absurd (false≢true (sym none_made ∙ makes))) (λ b is no_line f. omega arith)) e

-- what is made

module _ (m : Machine) where
  made : (x : ℕ) (d : Option ℕ) (fields below : List Value) → make m x d fields below ≡ traps trap_no_room → NoRoom m.heap (length fields)
  made x d fields below e = go (has_room m.heap (length fields)) refl e
    where
      go : (t : Bool) → has_room m.heap (length fields) ≡ t
          → cond t (goes (with_operands (with_heap m (m.heap ++ record { type = x; descriptor = d; fields = fields } ∷ [])) (object (length m.heap) ∷ below))) (traps trap_no_room) ≡ traps trap_no_room
          → NoRoom m.heap (length fields)
      go true e f = absurd (other_not_45 goes_on_lem f)
      go false e f = no_room_lem m.heap (length fields) e

  not_made : (x : ℕ) (d : Option ℕ) (fields below : List Value) → NoRoom m.heap (length fields) → make m x d fields below ≡ traps trap_no_room
  not_made x d fields below full = rw (room_none m.heap (length fields) full)

split_many : (n : ℕ) (vs : List Value) {split : List Value × List Value} → split_top n vs ≡ some split → length split.0 ≡ n
unfolding split_top
split_many zero vs {split} e = let same : ([], vs) ≡ split = cc in rw (← same)
split_many (suc n) [] e = absurd (none_is_not-some e)
split_many (suc n) (v ∷ vs) {split} e = go (split_top n vs) refl e (λ s. split_many n vs {split = s})
  where
    go : (o : Option (List Value × List Value)) → split_top n vs ≡ o → given o none (λ r. some (v ∷ r.0, r.1)) ≡ some split
        → ((s : List Value × List Value) → split_top n vs ≡ some s → length s.0 ≡ n) → length split.0 ≡ suc n
    go none q f later = absurd (none_is_not-some f)
    go (some s) q f later = let same : (v ∷ s.0, s.1) ≡ split = cc in rw (← same) (ap suc (later s q))

defaults_many : (vs : List Val) {values : List Value} → defaults_of vs ≡ some values → length values ≡ length vs
unfolding defaults_of
defaults_many [] {values} e = let same : [] ≡ values = cc in rw (← same)
defaults_many (v ∷ vs) {values} e = go (default_of v) (defaults_of vs) refl e (λ ds. defaults_many vs {values = ds})
  where
    go : (o : Option Value) (r : Option (List Value)) → defaults_of vs ≡ r → given o none (λ d. given r none (λ ds. some (d ∷ ds))) ≡ some values
        → ((ds : List Value) → defaults_of vs ≡ some ds → length ds ≡ length vs) → length values ≡ suc (length vs)
    go none r q f later = absurd (none_is_not-some f)
    go (some d) none q f later = absurd (none_is_not-some f)
    go (some d) (some ds) q f later = let same : d ∷ ds ≡ values = cc in rw (← same) (ap suc (later ds q))

holds_many : (fs : List Field) → length (holds_of fs) ≡ length fs
holds_many [] = refl
holds_many (f ∷ fs) = rw (holds_many fs)

record FromStack (p : Program) (m : Machine) (x : ℕ) (vs : List Value) : Type 0 where
  fs : List Field
  form : (p.types x).form ≡ struct fs
  split : List Value × List Value
  there : split_top (length fs) vs ≡ some split
  full : NoRoom m.heap (length fs)

given_45 : (p : Program) (m : Machine) (x : ℕ) (d : Option ℕ) (vs : List Value) → make_given p m x d vs ≡ traps trap_no_room → FromStack p m x vs
given_45 p m x d vs e = go (p.types x).form refl e
  where
    on : (fs : List Field) → (p.types x).form ≡ struct fs → (o : Option (List Value × List Value)) → split_top (length fs) vs ≡ o
        → given o stuck (λ s. make m x d (reverse s.0) s.1) ≡ traps trap_no_room → FromStack p m x vs
    on fs form none there f = absurd (other_not_45 is_stuck f)
    on fs form (some s) there f =
        let many : length (reverse s.0) ≡ length fs = length-reverse s.0 ∙ split_many (length fs) vs there in
        record { fs = fs; form = form; split = s; there = there; full = rw many at (made m x d (reverse s.0) s.1 f) }

    go : (f : Form) → (p.types x).form ≡ f → given (fields_of f) stuck (λ fs. given (split_top (length fs) vs) stuck (λ s. make m x d (reverse s.0) s.1)) ≡ traps trap_no_room → FromStack p m x vs
    go (struct fs) form f = on fs form (split_top (length fs) vs) refl f
    go (func ps rs) form f = absurd (other_not_45 is_stuck f)

record FromDefaults (p : Program) (m : Machine) (x : ℕ) : Type 0 where
  fs : List Field
  form : (p.types x).form ≡ struct fs
  values : List Value
  there : defaults_of (holds_of fs) ≡ some values
  full : NoRoom m.heap (length fs)

default_45 : (p : Program) (m : Machine) (x : ℕ) (d : Option ℕ) (vs : List Value) → make_default p m x d vs ≡ traps trap_no_room → FromDefaults p m x
default_45 p m x d vs e = go (p.types x).form refl e
  where
    on : (fs : List Field) → (p.types x).form ≡ struct fs → (o : Option (List Value)) → defaults_of (holds_of fs) ≡ o
        → given o stuck (λ values. make m x d values vs) ≡ traps trap_no_room → FromDefaults p m x
    on fs form none there f = absurd (other_not_45 is_stuck f)
    on fs form (some values) there f =
        let many : length values ≡ length fs = defaults_many (holds_of fs) there ∙ holds_many fs in
        record { fs = fs; form = form; values = values; there = there; full = rw many at (made m x d values vs f) }

    go : (f : Form) → (p.types x).form ≡ f → given (fields_of f) stuck (λ fs. given (defaults_of (holds_of fs)) stuck (λ values. make m x d values vs)) ≡ traps trap_no_room → FromDefaults p m x
    go (struct fs) form f = on fs form (defaults_of (holds_of fs)) refl f
    go (func ps rs) form f = absurd (other_not_45 is_stuck f)

-- 45 to its condition

desc_45 : (p : Program) (m : Machine) (x : ℕ) (vs : List Value) → on_descriptor vs (λ d below. make_given p m x (some d) below) ≡ traps trap_no_room → TrapsNoRoom p m.heap vs (struct_new_desc x)
desc_45 p m x [] e = absurd (other_not_45 is_stuck e)
desc_45 p m x (number k n ∷ vs) e = absurd (other_not_45 is_stuck e)
desc_45 p m x (null ∷ vs) e = absurd (other_not_45 (other_trap each_not_45.null_descriptor) e)
desc_45 p m x (object d ∷ vs) e = let g = given_45 p m x (some d) vs e in record { fields = length g.fs; comes = of_new_desc g.form g.there; no_room = g.full }

desc_default_45 : (p : Program) (m : Machine) (x : ℕ) (vs : List Value) → on_descriptor vs (λ d below. make_default p m x (some d) below) ≡ traps trap_no_room → TrapsNoRoom p m.heap vs (struct_new_default_desc x)
desc_default_45 p m x [] e = absurd (other_not_45 is_stuck e)
desc_default_45 p m x (number k n ∷ vs) e = absurd (other_not_45 is_stuck e)
desc_default_45 p m x (null ∷ vs) e = absurd (other_not_45 (other_trap each_not_45.null_descriptor) e)
desc_default_45 p m x (object d ∷ vs) e = let g = default_45 p m x (some d) vs e in record { fields = length g.fs; comes = of_default_desc g.form g.there; no_room = g.full }

-- an instruction that is no allocation says something else
says_45 : (p : Program) (m : Machine) (vs : List Value) (o : Op) → do_op p m vs o ≡ traps trap_no_room → TrapsNoRoom p m.heap vs o
unfolding do_op
says_45 p m vs unreachable e = absurd (not_45 p m vs unreachable refl e)
says_45 p m vs nop e = absurd (not_45 p m vs nop refl e)
says_45 p m vs return e = absurd (not_45 p m vs return refl e)
says_45 p m vs drop_value e = absurd (not_45 p m vs drop_value refl e)
says_45 p m vs (br l) e = absurd (not_45 p m vs (br l) refl e)
says_45 p m vs (br_if l) e = absurd (not_45 p m vs (br_if l) refl e)
says_45 p m vs (local_get x) e = absurd (not_45 p m vs (local_get x) refl e)
says_45 p m vs (local_set x) e = absurd (not_45 p m vs (local_set x) refl e)
says_45 p m vs (local_tee x) e = absurd (not_45 p m vs (local_tee x) refl e)
says_45 p m vs (i32_const n) e = absurd (not_45 p m vs (i32_const n) refl e)
says_45 p m vs (i64_const n) e = absurd (not_45 p m vs (i64_const n) refl e)
says_45 p m vs (f32_const n) e = absurd (not_45 p m vs (f32_const n) refl e)
says_45 p m vs (f64_const n) e = absurd (not_45 p m vs (f64_const n) refl e)
says_45 p m vs (numeric b) e = absurd (not_45 p m vs (numeric b) refl e)
says_45 p m vs (ref_null h) e = absurd (not_45 p m vs (ref_null h) refl e)
says_45 p m vs ref_is_null e = absurd (not_45 p m vs ref_is_null refl e)
says_45 p m vs ref_eq e = absurd (not_45 p m vs ref_eq refl e)
says_45 p m vs ref_as_non_null e = absurd (not_45 p m vs ref_as_non_null refl e)
says_45 p m vs (struct_new x) e = let g = given_45 p m x none vs e in record { fields = length g.fs; comes = of_new g.form g.there; no_room = g.full }
says_45 p m vs (struct_new_default x) e = let g = default_45 p m x none vs e in record { fields = length g.fs; comes = of_default g.form g.there; no_room = g.full }
says_45 p m vs (struct_get x i) e = absurd (not_45 p m vs (struct_get x i) refl e)
says_45 p m vs (struct_set x i) e = absurd (not_45 p m vs (struct_set x i) refl e)
says_45 p m vs (ref_test n h) e = absurd (not_45 p m vs (ref_test n h) refl e)
says_45 p m vs (ref_cast n h) e = absurd (not_45 p m vs (ref_cast n h) refl e)
says_45 p m vs (br_on_cast k) e = absurd (not_45 p m vs (br_on_cast k) refl e)
says_45 p m vs (br_on_cast_fail k) e = absurd (not_45 p m vs (br_on_cast_fail k) refl e)
says_45 p m vs (struct_new_desc x) e = desc_45 p m x vs e
says_45 p m vs (struct_new_default_desc x) e = desc_default_45 p m x vs e
says_45 p m vs (ref_get_desc x) e = absurd (not_45 p m vs (ref_get_desc x) refl e)
says_45 p m vs (ref_cast_desc_eq n h) e = absurd (not_45 p m vs (ref_cast_desc_eq n h) refl e)
says_45 p m vs (br_on_cast_desc_eq k) e = absurd (not_45 p m vs (br_on_cast_desc_eq k) refl e)
says_45 p m vs (br_on_cast_desc_eq_fail k) e = absurd (not_45 p m vs (br_on_cast_desc_eq_fail k) refl e)

-- and back

given-none : (p : Program) (m : Machine) (x : ℕ) (d : Option ℕ) {fs : List Field} (vs : List Value) {split : List Value × List Value}
    → (p.types x).form ≡ struct fs → split_top (length fs) vs ≡ some split → NoRoom m.heap (length fs) → make_given p m x d vs ≡ traps trap_no_room
given-none p m x d {fs} vs {split} form there full =
    let many : length (reverse split.0) ≡ length fs = length-reverse split.0 ∙ split_many (length fs) vs there in
    rw (form, there) (not_made m x d (reverse split.0) split.1 (rw many full))

default_none : (p : Program) (m : Machine) (x : ℕ) (d : Option ℕ) {fs : List Field} (vs : List Value) {values : List Value}
    → (p.types x).form ≡ struct fs → defaults_of (holds_of fs) ≡ some values → NoRoom m.heap (length fs) → make_default p m x d vs ≡ traps trap_no_room
default_none p m x d {fs} vs {values} form there full =
    let many : length values ≡ length fs = defaults_many (holds_of fs) there ∙ holds_many fs in
    rw (form, there) (not_made m x d values vs (rw many full))

comes_45 : (p : Program) (m : Machine) {vs : List Value} {o : Op} {n : ℕ} → ComesToRoom p vs o n → NoRoom m.heap n → do_op p m vs o ≡ traps trap_no_room
unfolding do_op
comes_45 p m {vs = vs} (of_new {x = x} form there) full = given-none p m x none vs form there full
comes_45 p m {vs = vs} (of_default {x = x} form there) full = default_none p m x none vs form there full
comes_45 p m (of_new_desc {x = x} {d = d} {vs = vs} form there) full = given-none p m x (some d) vs form there full
comes_45 p m (of_default_desc {x = x} {d = d} {vs = vs} form there) full = default_none p m x (some d) vs form there full

pub forty_five : FortyFive
forty_five = record { exactly = λ p m vs o. (says_45 p m vs o, λ t. comes_45 p m t.comes t.no_room) }

-- Examples: with 1,023 objects there is room for one more of no fields, with 1,024 there is not; 4,096 cells can be filled

abbrev small : Object
small = record { type = 0; descriptor = none; fields = [] }

abbrev large : Object
large = record { type = 0; descriptor = none; fields = replicate 64 null }

pub last_object : has_room (replicate 1_023 small) 0 ≡ true
last_object = refl

pub no_object_more : has_room (replicate 1_024 small) 0 ≡ false
no_object_more = refl

pub last_cells : has_room (replicate 63 large) 64 ≡ true
last_cells = refl

pub no_cell_more : has_room (replicate 63 large) 65 ≡ false
no_cell_more = refl
