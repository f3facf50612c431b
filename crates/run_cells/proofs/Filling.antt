-- Cells that are filled, one after the other: copies of values, and the defaults of fields.
use Prim.Native.Nat.{ℕ, ◌+◌, ◌/◌, ◌<◌}
use mathlib.Core.Path.{◌≡◌, refl, sym, ap, ap₂, ◌∙◌}
use mathlib.Core.Bool.{Bool, true, false}
use mathlib.Core.Option.{none, some}
use mathlib.Core.List.{List, [], ◌∷◌, ◌++◌, map, map-append}
use native.Mathlib.Omega.{arith}
use lib.ListN.{length, get_or}
use Rattle.scope.specs.Syntax.{Number, i32, i64, f32, f64, Val, num, ref}
use Rattle.scope.specs.Order.{number_code}
use Rattle.scope.specs.Lists.{every}
use Rattle.scope.specs.BodyRules.{holds_of, has_default}
use Rattle.scope.specs.Machine.{Value, defaults_of}
use Rattle.scope.proofs.Impossible.{impossible}
use Rattle.run_values.specs.Layout.{kind_place, bits_place, null_kind}
use Rattle.lent_u16.specs.Words.{WordAt}
use Rattle.type_table.specs.View.{val_at_code, field_at_code, codes_at}
use Rattle.type_table.specs.Answers.{val_is}
use Rattle.type_table.specs.declared.ValKind.{ValKind}
use Rattle.type_table.specs.declared.ValKind
use Rattle.type_table.proofs.Laws.{is_number, is_ref}
use Rattle.run_values.specs.Values.{Word64At, numbered, value_at, entry_in, values_from, set_value, Canon, AllCanon}
use Rattle.run_values.proofs.Numbered.{numbered_more, codes_more}
use Rattle.run_values.proofs.Laws.{zero_of_code, value_null, canon_zero, canon_null, all_less, put_long, put_beside, put_next, put_all_more}
use Rattle.run_cells.specs.Cells.{CellRoom, Filled, CellsCopied, start_of, DefaultKind, CellsDefault}

filled_none : (cells : List ℕ) (total : ℕ) → Filled cells cells total 0 []
unfolding numbered
filled_none cells total = record { values = refl; below = λ i h. refl; size = refl }

filled_more : {cells cells₁ cells' : List ℕ} {total i : ℕ} {vs : List Value} → Filled cells cells₁ total i vs → (k b : ℕ) → bits_place (total + i) < length cells → cells' ≡ set_value cells₁ (total + i) k b → Filled cells cells' total (i + 1) (vs ++ (value_at k b ∷ []))
filled_more {cells} {cells₁} {cells'} {total} {i} {vs} p k b room e =
    record {
      values =
          ap (λ (m : List ℕ). values_from m total (i + 1)) e
          ∙ put_next cells₁ (total + i) k b (omega (arith, p.size)) value_at total i refl
          ∙ ap (λ (l : List Value). l ++ (value_at k b ∷ [])) p.values;
      below = λ j h. ap (λ (m : List ℕ). get_or m j 0) e ∙ put_beside cells₁ (total + i) k b j (λ z. omega arith) (λ z. omega arith) ∙ p.below j h;
      size = ap length e ∙ put_long cells₁ (total + i) k b ∙ p.size;
    }

canon_more : {cells cells' : List ℕ} (total i k b : ℕ) → bits_place (total + i) < length cells → cells' ≡ set_value cells (total + i) k b → Canon k b → AllCanon cells (total + i) → AllCanon cells' (total + (i + 1))
canon_more {cells} total i k b room e c all =
    let next : total + (i + 1) ≡ total + i + 1 = omega arith in
    rw (next, e) (put_all_more cells (total + i) k b room c all)

-- copies

pub copied_none : (from cells : List ℕ) (at total : ℕ) → CellsCopied from cells cells at total 0
unfolding numbered
copied_none from cells at total =
    let same : total + 0 ≡ total = omega arith in record { filled = filled_none cells total; canon = λ a c. rw same c }

pub copied_more :
    {from cells₀ cells cells' : List ℕ} {at total i k kind bits : ℕ} → CellsCopied from cells₀ cells at total i → CellRoom cells₀ total k → i < k
    → Word64At from (kind_place (at + i)) kind → Word64At from (bits_place (at + i)) bits → cells' ≡ set_value cells (total + i) kind bits
    → CellsCopied from cells₀ cells' at total (i + 1)
unfolding entry_in
copied_more {from} {at = at} {total = total} {i = i} {kind = kind} {bits = bits} p room h a b e =
    let one : value_at kind bits ≡ entry_in value_at from (at + i) = ap₂ value_at a.is b.is in
    let more : values_from from at (i + 1) ≡ values_from from at i ++ (value_at kind bits ∷ []) =
    numbered_more (entry_in value_at from) at i ∙ ap (λ (v : Value). values_from from at i ++ (v ∷ [])) (sym one) in
    record {
      filled = rw more (filled_more p.filled kind bits (omega (arith, room.room, room.few)) e);
      canon = λ all c.
          let word : Canon kind bits = rw (a.is, b.is) (all.each (at + i) (omega arith)) in
          canon_more total i kind bits (omega (arith, room.room, room.few, p.filled.size)) e word (p.canon (all_less all (omega arith)) c);
    }

pub ruleset copy_exits = (copied_none, copied_more)

-- the default of one type

code-small : (n : Number) → number_code n < 4
code-small i32 = omega arith
code-small i64 = omega arith
code-small f32 = omega arith
code-small f64 = omega arith

default_number : (c k : ℕ) (n : Number) → val_at_code c ≡ num n → k ≡ number_code n → value_at (k + 1) 0 ≡ start_of (val_at_code c)
default_number c k n e f = rw (e, f) (zero_of_code n)

module _ (c : ℕ) {r : ValKind} (v : r ≡ val_is (val_at_code c)) where
  pub number_kind : {k : ℕ} → r ≡ ValKind.TheVariants.Number k → DefaultKind c (k + 1)
  number_kind {k} e =
      let (n, same, code) = is_number (val_at_code c) v e in
      let small = code-small n in
      record { is = default_number c k n same code; canon = canon_zero {k = k + 1} (omega arith) (omega arith) }

  pub reference_kind : {n : Bool} {h : ℕ} → r ≡ ValKind.TheVariants.Ref n h → DefaultKind c null_kind
  reference_kind e =
      let same = is_ref (val_at_code c) v e in record { is = rw same (value_null {k = null_kind} 0 refl); canon = canon_null }

pub ruleset kind_exits = (number_kind, reference_kind)

-- the defaults of all fields

abbrev starts : List ℕ → ℕ → ℕ → List Value
starts codes first n = map start_of (holds_of (codes_at field_at_code codes first n))

starts_more : (codes : List ℕ) (first i : ℕ) → starts codes first (i + 1) ≡ starts codes first i ++ (start_of (val_at_code (get_or codes (first + i) 0 / 2)) ∷ [])
unfolding field_at_code
starts_more codes first i =
    ap (λ (fs : List _). map start_of (holds_of fs)) (codes_more field_at_code codes first i)
    ∙ ap (map start_of) (map-append (λ f. f.holds) (codes_at field_at_code codes first i) (field_at_code (get_or codes (first + i) 0) ∷ []))
    ∙ map-append start_of (holds_of (codes_at field_at_code codes first i)) (val_at_code (get_or codes (first + i) 0 / 2) ∷ [])

-- where every type has a default, these are the defaults; where one has none, there are none
pub every_default : (vs : List Val) → every has_default vs ≡ true → defaults_of vs ≡ some (map start_of vs)
unfolding defaults_of
every_default [] e = refl
every_default (num k ∷ vs) e = rw (every_default vs e)
every_default (ref true h ∷ vs) e = rw (every_default vs e)
every_default (ref false h ∷ vs) e = impossible cc

pub some_without : (vs : List Val) → every has_default vs ≡ false → defaults_of vs ≡ none
unfolding defaults_of
some_without [] e = impossible cc
some_without (num k ∷ vs) e = rw (some_without vs e)
some_without (ref true h ∷ vs) e = rw (some_without vs e)
some_without (ref false h ∷ vs) e = refl

pub default_none : (codes cells : List ℕ) (first total : ℕ) → CellsDefault codes cells cells first 0 total
unfolding codes_at
default_none codes cells first total =
    let same : total + 0 ≡ total = omega arith in record { filled = filled_none cells total; canon = λ c. rw same c }

pub default_more :
    {codes cells₀ cells cells' : List ℕ} {first i k total w kind : ℕ} → CellsDefault codes cells₀ cells first i total → CellRoom cells₀ total k → i < k
    → WordAt codes (first + i) w → DefaultKind (w / 2) kind → cells' ≡ set_value cells (total + i) kind 0
    → CellsDefault codes cells₀ cells' first (i + 1) total
default_more {codes} {first = first} {i = i} {total = total} {kind = kind} p room h a b e =
    let one : start_of (val_at_code (get_or codes (first + i) 0 / 2)) ≡ value_at kind 0 = ap (λ (c : ℕ). start_of (val_at_code (c / 2))) (sym a.is) ∙ sym b.is in
    let more : starts codes first (i + 1) ≡ starts codes first i ++ (value_at kind 0 ∷ []) =
    starts_more codes first i ∙ ap (λ (v : Value). starts codes first i ++ (v ∷ [])) one in
    record {
      filled = rw more (filled_more p.filled kind 0 (omega (arith, room.room, room.few)) e);
      canon = λ c. canon_more total i kind 0 (omega (arith, room.room, room.few, p.filled.size)) e b.canon (p.canon c);
    }

pub ruleset default_exits = (default_none, default_more)
