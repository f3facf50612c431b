-- An allocation makes what the rules say, and there is room for it exactly where they do not say 45. Fields come from the stack turned
-- round, so the rules' fields are what was taken, turned round once more.
use Prim.Native.Nat.{ℕ}
use mathlib.Core.Path.{◌≡◌, refl, sym, ◌∙◌, ap}
use mathlib.Core.Bool.{Bool, true, false, false≢true}
use mathlib.Core.Option.{Option, none, some}
use mathlib.Core.List.{List, [], ◌∷◌, ◌++◌, reverse, reverse_aux}
use lib.ListN.{length, length-reverse}
use Rattle.scope.specs.Reading.{given}
use Rattle.scope.specs.Refusals.{trap_no_room}
use Rattle.scope.specs.Syntax.{Val, num, ref, Field, Form, struct, func}
use Rattle.scope.specs.BodyRules.{fields_of, holds_of}
use Rattle.scope.specs.Instructions.{Op}
use Rattle.scope.specs.Bodies.{Code}
use Rattle.scope.specs.Machine.{Value, number, null, object, Object, Store, Block, Program, Outcome, goes, traps, stuck, split_top, default_of, defaults_of, has_room, make, make_given, make_default, do_op}
use Rattle.scope.proofs.Truths.{none_is_not-some}
use Rattle.facts_runs.specs.NoRoom.{NoRoom}
use Rattle.facts_runs.proofs.NoRoom.{no_room_lem, room_none}
use Rattle.facts_steps.specs.Places.{Splits, state}
use Rattle.facts_steps.specs.Making.{StartsAt, number_zero, reference_null, Defaults, no_field, one_field, Makes, new, new_default, new_desc, new_default_desc}
use Rattle.facts_steps.specs.Trapping.{no_room_for, trap_45}
use Rattle.facts_steps.specs.Rules.{Does, does_make, does_trap}
use Rattle.facts_steps.proofs.Places.{split_found, found_split}
use Rattle.facts_steps.proofs.Said.{Said, said, silent, on_some, on_test}

-- turned round twice

with_nothing : (vs : List Value) → vs ++ [] ≡ vs
with_nothing [] = refl
with_nothing (v ∷ vs) = ap (λ (ws : List Value). v ∷ ws) (with_nothing vs)

turned : (vs ws us : List Value) → reverse_aux (reverse_aux vs ws) us ≡ reverse_aux ws (vs ++ us)
turned [] ws us = refl
turned (v ∷ vs) ws us = turned vs (v ∷ ws) us

pub turned_twice : (vs : List Value) → reverse (reverse vs) ≡ vs
turned_twice vs = turned vs [] [] ∙ with_nothing vs

-- defaults

found_start : (f : Field) {v : Value} → default_of f.holds ≡ some v → StartsAt f v
found_start f {v} e = go f.holds f.mutable e
  where
    go : (holds : Val) (mutable : Bool) → default_of holds ≡ some v → StartsAt (record { holds = holds; mutable = mutable }) v
    go (num k) mutable e = let same : number k 0 ≡ v = cc in rw (← same) number_zero
    go (ref true h) mutable e = let same : null ≡ v = cc in rw (← same) reference_null
    go (ref false h) mutable e = absurd (none_is_not-some e)

start_found : {f : Field} {v : Value} → StartsAt f v → default_of f.holds ≡ some v
start_found number_zero = refl
start_found reference_null = refl

found_defaults : (fs : List Field) {vs : List Value} → defaults_of (holds_of fs) ≡ some vs → Defaults fs vs
unfolding defaults_of
found_defaults [] {vs} e = let same : [] ≡ vs = cc in rw (← same) no_field
found_defaults (f ∷ fs) {vs} e = go (default_of f.holds) (defaults_of (holds_of fs)) refl refl e (λ us. found_defaults fs {vs = us})
  where
    go : (o : Option Value) (r : Option (List Value)) → default_of f.holds ≡ o → defaults_of (holds_of fs) ≡ r
        → given o none (λ d. given r none (λ ds. some (d ∷ ds))) ≡ some vs
        → ((us : List Value) → defaults_of (holds_of fs) ≡ some us → Defaults fs us) → Defaults (f ∷ fs) vs
    go none r q s e later = absurd (none_is_not-some e)
    go (some d) none q s e later = absurd (none_is_not-some e)
    go (some d) (some ds) q s e later = let same : d ∷ ds ≡ vs = cc in rw (← same) (one_field (found_start f q) (later ds s))

defaults_found : {fs : List Field} {vs : List Value} → Defaults fs vs → defaults_of (holds_of fs) ≡ some vs
unfolding defaults_of
defaults_found no_field = refl
defaults_found (one_field s more) = rw (start_found s, defaults_found more)

-- what is made

module _ (p : Program) (heap : Store) (locals : List (Option Value)) (blocks : List Block) (code : Code) (ops : List Value) (o : Op) where
  make-said : (x : ℕ) (d : Option ℕ) (fields below : List Value)
      → Makes p.types ops o (record { type = x; descriptor = d; fields = fields }) below
      → Said (Does p heap locals blocks code ops o) (make (state heap locals ops blocks code) x d fields below)
  make-said x d fields below makes =
      on_test (has_room heap (length fields))
      (λ e. said (does_make makes (λ full. false≢true (sym (room_none heap (length fields) full) ∙ e))))
      (λ e. said (does_trap (trap_45 (no_room_for makes (no_room_lem heap (length fields) e)))))

  pub given-said : (x : ℕ) (d : Option ℕ) (vs : List Value)
      → ((fs : List Field) (fields below : List Value) → (p.types x).form ≡ struct fs → length fields ≡ length fs → vs ≡ reverse fields ++ below
      → Makes p.types ops o (record { type = x; descriptor = d; fields = fields }) below)
      → Said (Does p heap locals blocks code ops o) (make_given p (state heap locals ops blocks code) x d vs)
  given-said x d vs makes = go (p.types x).form refl
    where
      on : (fs : List Field) → (p.types x).form ≡ struct fs → (s : List Value × List Value) → Splits (length fs) vs s.0 s.1
          → Said (Does p heap locals blocks code ops o) (make (state heap locals ops blocks code) x d (reverse s.0) s.1)
      on fs form s split =
          let whole : vs ≡ reverse (reverse s.0) ++ s.1 = rw (turned_twice s.0) split.is in
          make-said x d (reverse s.0) s.1 (makes fs (reverse s.0) s.1 form (length-reverse s.0 ∙ split.many) whole)

      go : (f : Form) → (p.types x).form ≡ f → Said (Does p heap locals blocks code ops o) (given (fields_of f) stuck (λ fs. given (split_top (length fs) vs) stuck (λ s. make (state heap locals ops blocks code) x d (reverse s.0) s.1)))
      go (struct fs) form = on_some (split_top (length fs) vs) (λ s e. on fs form s (found_split (length fs) vs e))
      go (func ps rs) form = silent

  pub default_said : (x : ℕ) (d : Option ℕ) (vs : List Value)
      → ((fs : List Field) (fields : List Value) → (p.types x).form ≡ struct fs → Defaults fs fields
      → Makes p.types ops o (record { type = x; descriptor = d; fields = fields }) vs)
      → Said (Does p heap locals blocks code ops o) (make_default p (state heap locals ops blocks code) x d vs)
  default_said x d vs makes = go (p.types x).form refl
    where
      go : (f : Form) → (p.types x).form ≡ f → Said (Does p heap locals blocks code ops o) (given (fields_of f) stuck (λ fs. given (defaults_of (holds_of fs)) stuck (λ values. make (state heap locals ops blocks code) x d values vs)))
      go (struct fs) form = on_some (defaults_of (holds_of fs)) (λ values e. make-said x d values vs (makes fs values form (found_defaults fs e)))
      go (func ps rs) form = silent

-- and back

module _ (p : Program) (heap : Store) (locals : List (Option Value)) (blocks : List Block) (code : Code) (ops : List Value) where
  given_is : {x : ℕ} (d : Option ℕ) {fs : List Field} {vs : List Value} (fields below : List Value)
      → (p.types x).form ≡ struct fs → length fields ≡ length fs → vs ≡ reverse fields ++ below
      → make_given p (state heap locals ops blocks code) x d vs ≡ make (state heap locals ops blocks code) x d fields below
  given_is d {fs} {vs} fields below form many is =
      let split : Splits (length fs) vs (reverse fields) below = record { is = is; many = length-reverse fields ∙ many } in
      rw (form, split_found split, turned_twice fields)

  default_is : {x : ℕ} (d : Option ℕ) {fs : List Field} {fields : List Value} (vs : List Value)
      → (p.types x).form ≡ struct fs → Defaults fs fields
      → make_default p (state heap locals ops blocks code) x d vs ≡ make (state heap locals ops blocks code) x d fields vs
  default_is d vs form ds = rw (form, defaults_found ds)

module _ (p : Program) (heap : Store) (locals : List (Option Value)) (blocks : List Block) (code : Code) where
  makes_is : {vs : List Value} {o : Op} {it : Object} {below : List Value} → Makes p.types vs o it below
      → do_op p (state heap locals vs blocks code) vs o ≡ make (state heap locals vs blocks code) it.type it.descriptor it.fields below
  unfolding do_op
  makes_is {vs = vs} (new {fields = fields} {below} form many is) = given_is p heap locals blocks code vs none fields below form many is
  makes_is {vs = vs} (new_default form ds) = default_is p heap locals blocks code vs none vs form ds
  makes_is {vs = vs} (new_desc {d = d} {fields = fields} {below} form many is) = given_is p heap locals blocks code vs (some d) fields below form many is
  makes_is {vs = vs} (new_default_desc {d = d} {below = below} form ds) = default_is p heap locals blocks code vs (some d) below form ds

  room_there : (n : ℕ) → ¬ NoRoom heap n → has_room heap n ≡ true
  room_there n roomy = go (has_room heap n) refl
    where
      go : (t : Bool) → has_room heap n ≡ t → t ≡ true
      go true e = refl
      go false e = absurd (roomy (no_room_lem heap n e))

  pub made_is : {vs : List Value} {o : Op} {it : Object} {below : List Value} → Makes p.types vs o it below → ¬ NoRoom heap (length it.fields)
      → do_op p (state heap locals vs blocks code) vs o ≡ goes (state (heap ++ it ∷ []) locals (object (length heap) ∷ below) blocks code)
  made_is {it = it} makes roomy = makes_is makes ∙ rw (room_there (length it.fields) roomy)

  pub full_is : {vs : List Value} {o : Op} {it : Object} {below : List Value} → Makes p.types vs o it below → NoRoom heap (length it.fields)
      → do_op p (state heap locals vs blocks code) vs o ≡ traps trap_no_room
  full_is {it = it} makes full = makes_is makes ∙ rw (room_none heap (length it.fields) full)
