-- Each question about a row asks for a word or two, and the view reads the same words: its answer is the view's.
use Prim.Native.Nat.{ℕ, ◌+◌, ◌-◌, ◌*◌, ◌≤◌, ◌<◌, ◌^◌}
use mathlib.Core.Path.{◌≡◌, refl, sym, ◌∙◌}
use mathlib.Core.Bool.{true, false}
use mathlib.Core.Option.{Option, none, some}
use mathlib.Core.List.{List, ◌++◌}
use native.Mathlib.Omega.{arith}
use borrow.Author.Tests.{eq-eqb, ne_eqb}
use lib.Dec.{eqb}
use lib.ListN.{length}
use Rattle.scope.specs.Told.{Maybe}
use Rattle.std.specs.Prelude.{None, Some}
use Rattle.scope.specs.Layout.{row_span}
use Rattle.scope.specs.Lists.{as_list}
use Rattle.scope.specs.Syntax.{first_of, super_of}
use Rattle.scope.specs.TypeRules.{is_struct}
use Rattle.lent_u16.specs.Words.{WordAt}
use Rattle.lent_u16.proofs.Laws.{word_past}
use Rattle.type_table.specs.RowWords.{form_word, count_word, results_word, open_word, super_word, describes_word, descriptor_word, from_word, to_word, reach_word, first_word, further_word, func_form}
use Rattle.type_table.specs.View.{link_at, form_at_words, view}
use Rattle.type_table.specs.declared.Supers.{Supers}
use Rattle.type_table.specs.declared.Supers
use Rattle.type_table.specs.declared.Shape.{Shape}
use Rattle.type_table.specs.declared.Shape
use Rattle.type_table.specs.Answers.{link_is, supers_list, shape_form}

-- past the greatest number of a row there are no words

-- the least number that no lent memory has a row of
abbrev pub no_row : ℕ
no_row = 2 ^ 59

pub no_row_lem : (rows : List ℕ) (x k : ℕ) → length rows * 2 < 2 ^ 63 → no_row ≤ x → WordAt rows (row_span * x + k) 0
no_row_lem rows x k room h = word_past (let r : length rows * 2 < 2 ^ 63 = room in omega arith)

-- links

link_none : {w : ℕ} → w ≡ 0 → link_at w ≡ none
link_none {w} z = rw (eq-eqb w 0 z)

link_some : {w : ℕ} → (w ≡ 0 → ⊥) → link_at w ≡ some (w - 1)
link_some {w} z = rw (ne_eqb w 0 z)

pub link_nothing : (w : ℕ) → w ≡ 0 → None ≡ link_is (link_at w)
link_nothing w z = rw (link_none z)

pub link_to : (w : ℕ) → (w ≡ 0 → ⊥) → Some (w - 1) ≡ link_is (link_at w)
link_to w z = rw (link_some z)

module _ (rows codes : List ℕ) (x : ℕ) where
  pub open_is : {w : ℕ} → WordAt rows (row_span * x + open_word) w → eqb w 1 ≡ (view rows codes x).is_open
  unfolding view
  open_is a = rw a.is

  pub describes_is : {w : ℕ} {r : Maybe ℕ} → WordAt rows (row_span * x + describes_word) w → r ≡ link_is (link_at w) → r ≡ link_is (view rows codes x).describes
  unfolding view
  describes_is a e = rw (e, a.is)

  pub descriptor_is_lem : {w : ℕ} {r : Maybe ℕ} → WordAt rows (row_span * x + descriptor_word) w → r ≡ link_is (link_at w) → r ≡ link_is (view rows codes x).descriptor
  unfolding view
  descriptor_is_lem a e = rw (e, a.is)

  pub from_is : {w : ℕ} → WordAt rows (row_span * x + from_word) w → w ≡ (view rows codes x).from
  unfolding view
  from_is a = a.is

  pub to_is : {w : ℕ} → WordAt rows (row_span * x + to_word) w → w ≡ (view rows codes x).to
  unfolding view
  to_is a = a.is

  pub reach_is : {w : ℕ} → WordAt rows (row_span * x + reach_word) w → w ≡ (view rows codes x).reach
  unfolding view
  reach_is a = a.is

  -- the supertypes: those of the word of the first and of the word of a further one

  supers_are : {w v : ℕ} {p q : Option ℕ} → WordAt rows (row_span * x + super_word) w → WordAt rows (row_span * x + further_word) v → link_at w ≡ p → link_at v ≡ q → (view rows codes x).supers ≡ as_list p ++ as_list q
  unfolding view
  supers_are a b e f = rw (← a.is, ← b.is, e, f)

  pub supers_none : {w v : ℕ} → WordAt rows (row_span * x + super_word) w → WordAt rows (row_span * x + further_word) v → w ≡ 0 → v ≡ 0 → (view rows codes x).supers ≡ supers_list Supers.TheVariants.Nothing
  supers_none a b e f = supers_are a b (link_none e) (link_none f)

  pub supers_first : {w v : ℕ} → WordAt rows (row_span * x + super_word) w → WordAt rows (row_span * x + further_word) v → (w ≡ 0 → ⊥) → v ≡ 0 → (view rows codes x).supers ≡ supers_list (Supers.TheVariants.One (w - 1))
  supers_first a b e f = supers_are a b (link_some e) (link_none f)

  pub supers_second : {w v : ℕ} → WordAt rows (row_span * x + super_word) w → WordAt rows (row_span * x + further_word) v → w ≡ 0 → (v ≡ 0 → ⊥) → (view rows codes x).supers ≡ supers_list (Supers.TheVariants.One (v - 1))
  supers_second a b e f = supers_are a b (link_none e) (link_some f)

  pub supers_both : {w v : ℕ} → WordAt rows (row_span * x + super_word) w → WordAt rows (row_span * x + further_word) v → (w ≡ 0 → ⊥) → (v ≡ 0 → ⊥) → (view rows codes x).supers ≡ supers_list (Supers.TheVariants.Two (w - 1) (v - 1))
  supers_both a b e f = supers_are a b (link_some e) (link_some f)

  pub super_first : {w : ℕ} → WordAt rows (row_span * x + super_word) w → (w ≡ 0 → ⊥) → Some (w - 1) ≡ link_is (super_of (view rows codes x))
  unfolding view
  super_first {w} a e = rw (← a.is, ne_eqb w 0 e)

  first_of_one : (o : Option ℕ) → first_of (as_list o) ≡ o
  first_of_one none = refl
  first_of_one (some p) = refl

  pub super_second : {w v : ℕ} {r : Maybe ℕ} → WordAt rows (row_span * x + super_word) w → w ≡ 0 → WordAt rows (row_span * x + further_word) v → r ≡ link_is (link_at v) → r ≡ link_is (super_of (view rows codes x))
  unfolding view
  super_second {w} {v} a e b f = rw (f, ← a.is, ← b.is, eq-eqb w 0 e, first_of_one (link_at v))

  -- the form

  pub function_is_no_struct : {kind : ℕ} → WordAt rows (row_span * x + form_word) kind → kind ≡ func_form → false ≡ is_struct (view rows codes x).form
  unfolding view form_at_words
  function_is_no_struct k e = rw (eq-eqb _ func_form (sym k.is ∙ e))

  pub struct_is : {kind : ℕ} → WordAt rows (row_span * x + form_word) kind → (kind ≡ func_form → ⊥) → true ≡ is_struct (view rows codes x).form
  unfolding view form_at_words
  struct_is k e = rw (ne_eqb _ func_form (λ q. e (k.is ∙ q)))

  module _ {first n kind : ℕ} (a : WordAt rows (row_span * x + first_word) first) (b : WordAt rows (row_span * x + count_word) n) (k : WordAt rows (row_span * x + form_word) kind) where
    pub shape_func : {m : ℕ} → kind ≡ func_form → WordAt rows (row_span * x + results_word) m → (view rows codes x).form ≡ shape_form codes (Shape.TheVariants.Func first n (first + n) m)
    unfolding view form_at_words
    shape_func e d = rw (a.is, b.is, d.is, eq-eqb _ func_form (sym k.is ∙ e))

    pub shape_struct : (kind ≡ func_form → ⊥) → (view rows codes x).form ≡ shape_form codes (Shape.TheVariants.Struct first n)
    unfolding view form_at_words
    shape_struct e = rw (a.is, b.is, ne_eqb _ func_form (λ q. e (k.is ∙ q)))

pub ruleset row_exits = (no_row_lem, link_nothing, link_to, open_is, describes_is, descriptor_is_lem, from_is, to_is, reach_is, supers_none, supers_first, supers_second, supers_both, super_first, super_second, function_is_no_struct, struct_is, shape_func, shape_struct)
