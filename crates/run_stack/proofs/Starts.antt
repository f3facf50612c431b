-- What the locals hold at the start: after i turns the first i of them hold the defaults of their types.
use Prim.Native.Nat.{ℕ, ◌+◌, ◌-◌, ◌/◌, ◌%◌, ◌≤◌, ◌<◌}
use mathlib.Core.Path.{◌≡◌, refl, sym, ap, ap₂, ◌∙◌}
use mathlib.Core.Bool.{true, false}
use mathlib.Core.Option.{Option, some}
use mathlib.Core.List.{List, [], ◌∷◌, ◌++◌, map, map-append}
use native.Mathlib.Omega.{arith}
use native.Mathlib.Nat.{zero-add}
use lib.ListN.{length, get_or}
use borrow.Author.Tests.{eq-eqb, ne_eqb}
use Rattle.scope.specs.Syntax.{ref}
use Rattle.scope.specs.Machine.{Value, number, default_of}
use Rattle.run_values.specs.Layout.{bits_place, no_value, null_kind}
use Rattle.type_table.specs.View.{number_at, val_at_code, heap_at_code, codes_at}
use Rattle.type_table.proofs.Codes.{val_number, val_ref}
use Rattle.body_state.specs.Layout.{code_bound}
use Rattle.lent_u32.specs.Scratch.{Word32At}
use Rattle.body_state.specs.State.{val_at_word}
use Rattle.run_values.specs.Values.{numbered, value_at, held_from, set_value, held_at}
use Rattle.run_values.proofs.Laws.{value_zero, value_null, held_none, held-some, held_canon_none, held_canon_some, canon_zero, canon_null, put_long, put_next, put_all_more}
use Rattle.run_values.proofs.Numbered.{codes_more}
use Rattle.run_stack.specs.Pile.{LocalRoom, StartKind, Started}

-- the kind

pub start-number : {code : ℕ} → code < 4 → StartKind code (code + 1)
start-number {code} h =
    let same : code + 1 - 1 ≡ code = omega arith in
    let value : value_at (code + 1) 0 ≡ number (number_at code) 0 =
    value_zero (λ e. omega arith) (λ e. omega arith) ∙ ap (λ (k : ℕ). number (number_at k) 0) same in
    record {
      is = held-some 0 (λ e. omega arith) ∙ ap some value ∙ ap default_of (sym (val_number h));
      canon = held_canon_some (canon_zero (omega arith) (omega arith));
    }

module _ {code : ℕ} (h : 4 ≤ code) where
  pub start_null : code % 2 ≡ 1 → StartKind code null_kind
  start_null e =
      let val : val_at_code code ≡ ref true (heap_at_code ((code - 4) / 2)) = rw (← eq-eqb (code % 2) 1 e) (val_ref h) in
      record {
        is = held-some 0 (λ y. omega arith) ∙ ap some (value_null 0 refl) ∙ ap default_of (sym val);
        canon = held_canon_some canon_null;
      }

  pub start_none : (code % 2 ≡ 1 → ⊥) → StartKind code no_value
  start_none d =
      let val : val_at_code code ≡ ref false (heap_at_code ((code - 4) / 2)) = rw (← ne_eqb (code % 2) 1 d) (val_ref h) in
      record { is = held_none 0 refl ∙ ap default_of (sym val); canon = held_canon_none }

-- the locals

pub started_none : (work locals : List ℕ) → Started work locals locals 0
unfolding numbered codes_at
started_none work locals = record { is = refl; canon = record { each = λ j h. absurd (omega arith) }; size = refl }

pub started_more :
    {work locals₀ locals locals' : List ℕ} {count i c k : ℕ} → Started work locals₀ locals i → LocalRoom locals₀ count → i < count
    → Word32At work i c → StartKind (c % code_bound) k → locals' ≡ set_value locals i k 0 → Started work locals₀ locals' (i + 1)
unfolding val_at_word
started_more {work} {locals₀} {locals} {locals'} {count} {i} {c} {k} f room h w a e =
    let more : codes_at val_at_word work 0 (i + 1) ≡ codes_at val_at_word work 0 i ++ (val_at_word (get_or work i 0) ∷ []) =
    codes_more val_at_word work 0 i ∙ ap (λ (j : ℕ). codes_at val_at_word work 0 i ++ (val_at_word (get_or work j 0) ∷ [])) (zero-add i) in
    record {
      is =
          ap (λ (m : List ℕ). held_from m 0 (i + 1)) e
          ∙ put_next locals i k 0 inside held_at 0 i (zero-add i)
          ∙ ap₂ (λ (hs : List (Option Value)) (h : Option Value). hs ++ (h ∷ [])) f.is (a.is ∙ ap (λ (x : ℕ). default_of (val_at_word x)) w.is)
          ∙ sym (ap (map default_of) more ∙ map-append default_of (codes_at val_at_word work 0 i) (val_at_word (get_or work i 0) ∷ []));
      canon = rw e (put_all_more locals i k 0 inside a.canon f.canon);
      size = ap length e ∙ put_long locals i k 0 ∙ f.size;
    }
  where
    inside : bits_place i < length locals
    inside = omega (arith, f.size, room.room, room.few)

pub ruleset start_exits = (start-number, start_null, start_none, started_none, started_more)
