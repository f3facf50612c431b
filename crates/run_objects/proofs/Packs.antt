-- Cells that lie end to end: each object's lie within the whole and apart from every other's, so that a store in one field
-- changes no other object; and all objects and cells, written in scope's layout, are the words themselves.
use Prim.Native.Nat.{ℕ, zero, suc, ◌+◌, ◌-◌, ◌*◌, ◌≤◌, ◌<◌}
use mathlib.Core.Path.{◌≡◌, refl, sym, ap, ap₂, ◌∙◌}
use mathlib.Core.Logic.{◌⊎◌, inl, inr}
use mathlib.Core.Bool.{true, false}
use mathlib.Core.Option.{none, some}
use mathlib.Core.List.{List, [], ◌∷◌, ◌++◌, map, append_assoc, append-nil}
use native.Mathlib.Omega.{arith}
use lib.ListN.{length, get_elem?, set, take, drop, length-append}
use lib.Seq.{drop-cons}
use lib.Dec.{eqb, ltb}
use borrow.Author.Tests.{eqb-true, eqb-false, ltb-true, ltb-false}
use Rattle.scope.specs.Layout.{value_span, object_span}
use Rattle.scope.specs.Lists.{joined}
use Rattle.scope.specs.Machine.{Value, Object, Store, with_field, cells_of}
use Rattle.scope.specs.Memory.{or_zero, value_words, objects_from, cell_values}
use Rattle.scope.proofs.Truths.{decided}
use Rattle.scope.proofs.Impossible.{contradiction}
use Rattle.run_values.specs.Layout.{bits_place, type_word, descriptor_word, first_word, count_word}
use Rattle.type_table.specs.View.{link_at}
use Rattle.run_values.specs.Values.{numbered, value_at, entry_in, values_from, set_value, Canon, AllCanon}
use Rattle.run_values.proofs.Numbered.{numbered-length, numbered_there, numbered-none, numbered-append, numbered_more, numbered_same, numbered-set}
use Rattle.run_values.proofs.Laws.{canon_words, put_other, put_among, put_all}
use Rattle.run_objects.specs.Objects.{object_word, object_with, object_at, store_at, cells_below, Packed}

-- objects by number

module _ (objects cells : List ℕ) (n : ℕ) where
  pub store_length : length (store_at objects cells n) ≡ n
  store_length = numbered-length (object_at objects cells) 0 n

  module _ (o : ℕ) where
    pub store_there : o < n → get_elem? (store_at objects cells n) o ≡ some (object_at objects cells o)
    store_there h =
        let same : 0 + o ≡ o = omega arith in
        numbered_there (object_at objects cells) 0 n o h ∙ ap (λ (k : ℕ). some (object_at objects cells k)) same

    pub store_none : n ≤ o → get_elem? (store_at objects cells n) o ≡ none
    store_none h = numbered-none (object_at objects cells) 0 n o h

    -- what is found by a number is that object
    pub store_found : {it : Object} → get_elem? (store_at objects cells n) o ≡ some it → (o < n) × (it ≡ object_at objects cells o)
    store_found {it} e = go (decided (ltb o n))
      where
        go : (ltb o n ≡ true) ⊎ (ltb o n ≡ false) → (o < n) × (it ≡ object_at objects cells o)
        go (inl l) =
            let h : o < n = ltb-true o n l in
            let there : some it ≡ some (object_at objects cells o) = sym e ∙ store_there h in
            (h, cc)
        go (inr l) = absurd (let z : some it ≡ none = sym e ∙ store_none (ltb-false o n l) in contradiction cc)

-- the same of a heap that is what the words say
module _ {os : Store} (objects cells : List ℕ) {n : ℕ} (heap : os ≡ store_at objects cells n) where
  pub heap-length : length os ≡ n
  heap-length = ap length heap ∙ store_length objects cells n

  module _ {o : ℕ} where
    pub object_there : o < n → get_elem? os o ≡ some (object_at objects cells o)
    object_there h = ap (λ (l : Store). get_elem? l o) heap ∙ store_there objects cells n o h

    pub object_none : n ≤ o → get_elem? os o ≡ none
    object_none h = ap (λ (l : Store). get_elem? l o) heap ∙ store_none objects cells n o h

-- cells below an object

module _ (objects : List ℕ) where
  pub below_next : (n : ℕ) → cells_below objects (n + 1) ≡ cells_below objects n + object_word objects n count_word
  unfolding cells_below
  below_next n = let next : n + 1 ≡ suc n = omega arith in rw next

  below_more : (a d : ℕ) → cells_below objects a ≤ cells_below objects (a + d)
  below_more a zero = let same : a + 0 ≡ a = omega arith in rw same (omega arith)
  below_more a (suc d) =
      let next : a + suc d ≡ a + d + 1 = omega arith in
      let before : cells_below objects a ≤ cells_below objects (a + d) = below_more a d in
      rw (next, below_next (a + d)) (omega arith)

  pub below_least : (a b : ℕ) → a ≤ b → cells_below objects a ≤ cells_below objects b
  below_least a b h =
      let more : cells_below objects a ≤ cells_below objects (a + (b - a)) = below_more a (b - a) in
      let same : a + (b - a) ≡ b = omega arith in
      rw same at more

pub packed_none : (objects : List ℕ) → Packed objects 0 0
unfolding cells_below
packed_none objects = record { starts = λ o h. absurd (omega arith); ends = refl }

module _ {objects : List ℕ} {n total : ℕ} (p : Packed objects n total) where
  -- an object's cells lie below those of a later one
  pub packed_before : (o q : ℕ) → o < q → q < n → object_word objects o first_word + object_word objects o count_word ≤ object_word objects q first_word
  packed_before o q h l =
      let first = p.starts o (omega arith) in
      let last = p.starts q l in
      let next = below_next objects o in
      let least = below_least objects (o + 1) q (omega arith) in
      omega arith

  pub packed-inside : (o : ℕ) → o < n → object_word objects o first_word + object_word objects o count_word ≤ total
  packed-inside o h =
      let first = p.starts o h in
      let next = below_next objects o in
      let least = below_least objects (o + 1) n (omega arith) in
      omega (arith, p.ends)

  -- a cell of one object is none of another's
  pub packed_apart : (o q : ℕ) → o < n → q < n → (q ≡ o → ⊥) → (i j : ℕ) → i < object_word objects o count_word → j < object_word objects q count_word → object_word objects q first_word + j ≡ object_word objects o first_word + i → ⊥
  packed_apart o q h l d i j a b e = go (decided (ltb o q))
    where
      go : (ltb o q ≡ true) ⊎ (ltb o q ≡ false) → ⊥
      go (inl t) = let low = packed_before o q (ltb-true o q t) l in omega arith
      go (inr f) =
          let least : q ≤ o = ltb-false o q f in
          let less : q < o = omega (arith, d) in
          let low = packed_before q o less h in
          omega arith

-- a field that is set

module _ {objects : List ℕ} {n total : ℕ} (p : Packed objects n total) (cells : List ℕ) (room : value_span * total ≤ length cells) (o i : ℕ) (h : o < n) (l : i < object_word objects o count_word) (k b : ℕ) where
  field_room : bits_place (object_word objects o first_word + i) < length cells
  field_room = let low = packed-inside p o h in omega arith

  set_elsewhere : (q : ℕ) → q < n → (q ≡ o → ⊥) → object_at objects (set_value cells (object_word objects o first_word + i) k b) q ≡ object_at objects cells q
  unfolding object_at
  set_elsewhere q g d =
      ap (object_with objects q)
      (numbered_same (entry_in value_at cells) (entry_in value_at (set_value cells (object_word objects o first_word + i) k b)) (object_word objects q first_word) (object_word objects q count_word)
      (λ j a c. put_other cells (object_word objects o first_word + i) k b value_at j (λ e. packed_apart p o q h g d i (j - object_word objects q first_word) l (omega arith) (omega arith))))

  set_there : object_at objects (set_value cells (object_word objects o first_word + i) k b) o ≡ with_field (object_at objects cells o) i (value_at k b)
  unfolding object_at
  set_there =
      ap (object_with objects o)
      (put_among cells (object_word objects o first_word + i) k b field_room value_at (object_word objects o first_word) (object_word objects o count_word) i l refl)

  pub store_set : store_at objects (set_value cells (object_word objects o first_word + i) k b) n ≡ set (store_at objects cells n) o (with_field (object_at objects cells o) i (value_at k b))
  store_set =
      let same : 0 + o ≡ o = omega arith in
      numbered-set (object_at objects cells) (object_at objects (set_value cells (object_word objects o first_word + i) k b)) 0 n o h (λ q a c d. set_elsewhere q (omega arith) (λ e. d (omega arith)))
      ∙ ap (set (store_at objects cells n) o) (ap (object_at objects (set_value cells (object_word objects o first_word + i) k b)) same ∙ set_there)

  pub set_canon : Canon k b → AllCanon cells total → AllCanon (set_value cells (object_word objects o first_word + i) k b) total
  set_canon c all = put_all cells (object_word objects o first_word + i) k b field_room c all

-- all fields are the cells

joined_more : {A B : Type 0} (f : A → List B) (xs : List A) (x : A) → joined (map f (xs ++ (x ∷ []))) ≡ joined (map f xs) ++ f x
joined_more f [] x = append-nil (f x)
joined_more f (y ∷ ys) x = ap (λ (l : List _). f y ++ l) (joined_more f ys x) ∙ sym (append_assoc (f y) (joined (map f ys)) (f x))

fields_next : (objects cells : List ℕ) (n : ℕ) → object_word objects n first_word ≡ cells_below objects n → cell_values (store_at objects cells n) ≡ values_from cells 0 (cells_below objects n) → cell_values (store_at objects cells (suc n)) ≡ values_from cells 0 (cells_below objects n + object_word objects n count_word)
unfolding object_at
fields_next objects cells n starts before =
    let next : suc n ≡ n + 1 = omega arith in
    let here : 0 + n ≡ n = omega arith in
    let there : 0 + cells_below objects n ≡ cells_below objects n = omega arith in
    ap (λ (k : ℕ). cell_values (store_at objects cells k)) next
    ∙ ap cell_values (numbered_more (object_at objects cells) 0 n)
    ∙ joined_more (λ o. o.fields) (store_at objects cells n) (object_at objects cells (0 + n))
    ∙ ap₂ ◌++◌ before (ap (λ (k : ℕ). (object_at objects cells k).fields) here ∙ ap (λ (k : ℕ). values_from cells k (object_word objects n count_word)) (starts ∙ sym there))
    ∙ sym (numbered-append (entry_in value_at cells) 0 (cells_below objects n) (object_word objects n count_word))

fields_are : (objects cells : List ℕ) (n : ℕ) → ((o : ℕ) → o < n → object_word objects o first_word ≡ cells_below objects o) → cell_values (store_at objects cells n) ≡ values_from cells 0 (cells_below objects n)
unfolding numbered cells_below
fields_are objects cells zero starts = refl
fields_are objects cells (suc n) starts = fields_next objects cells n (starts n (omega arith)) (fields_are objects cells n (λ o h. starts o (omega arith)))

sum_fields : (os : Store) → cells_of os ≡ length (cell_values os)
sum_fields [] = refl
sum_fields (o ∷ os) = ap (λ (n : ℕ). length o.fields + n) (sum_fields os) ∙ sym (length-append o.fields (cell_values os))

module _ {objects : List ℕ} {n total : ℕ} (p : Packed objects n total) (cells : List ℕ) where
  pub packed_fields : cell_values (store_at objects cells n) ≡ values_from cells 0 total
  packed_fields = rw p.ends (fields_are objects cells n p.starts)

  pub packed_cells : cells_of (store_at objects cells n) ≡ total
  packed_cells = sum_fields (store_at objects cells n) ∙ ap length packed_fields ∙ numbered-length (entry_in value_at cells) 0 total

-- written

pub link_word : (w : ℕ) → or_zero (link_at w) ≡ w
link_word w = go (decided (eqb w 0))
  where
    go : (eqb w 0 ≡ true) ⊎ (eqb w 0 ≡ false) → or_zero (link_at w) ≡ w
    go (inl z) = rw z (sym (eqb-true w 0 z))
    go (inr z) = let d : w ≡ 0 → ⊥ = eqb-false w 0 z in rw z (omega (arith, d))

module _ (objects cells : List ℕ) where
  object_front : (at : ℕ) → object_span * (at + 1) ≤ length objects → drop (object_span * at) objects ≡ object_word objects at type_word ∷ object_word objects at descriptor_word ∷ object_word objects at first_word ∷ object_word objects at count_word ∷ drop (object_span * (at + 1)) objects
  object_front at room =
      let first : object_span * at ≡ object_span * at + type_word = omega arith in
      let second : suc (object_span * at + type_word) ≡ object_span * at + descriptor_word = omega arith in
      let third : suc (object_span * at + descriptor_word) ≡ object_span * at + first_word = omega arith in
      let fourth : suc (object_span * at + first_word) ≡ object_span * at + count_word = omega arith in
      let next : suc (object_span * at + count_word) ≡ object_span * (at + 1) = omega arith in
      let a : drop (object_span * at + type_word) objects ≡ object_word objects at type_word ∷ drop (suc (object_span * at + type_word)) objects = drop-cons objects (object_span * at + type_word) 0 (omega arith) in
      let b : drop (object_span * at + descriptor_word) objects ≡ object_word objects at descriptor_word ∷ drop (suc (object_span * at + descriptor_word)) objects = drop-cons objects (object_span * at + descriptor_word) 0 (omega arith) in
      let c : drop (object_span * at + first_word) objects ≡ object_word objects at first_word ∷ drop (suc (object_span * at + first_word)) objects = drop-cons objects (object_span * at + first_word) 0 (omega arith) in
      let d : drop (object_span * at + count_word) objects ≡ object_word objects at count_word ∷ drop (suc (object_span * at + count_word)) objects = drop-cons objects (object_span * at + count_word) 0 (omega arith) in
      ap (λ (k : ℕ). drop k objects) first
      ∙ a
      ∙ ap (λ (l : List ℕ). object_word objects at type_word ∷ l)
      (ap (λ (k : ℕ). drop k objects) second
      ∙ b
      ∙ ap (λ (l : List ℕ). object_word objects at descriptor_word ∷ l)
      (ap (λ (k : ℕ). drop k objects) third
      ∙ c
      ∙ ap (λ (l : List ℕ). object_word objects at first_word ∷ l)
      (ap (λ (k : ℕ). drop k objects) fourth ∙ d ∙ ap (λ (k : ℕ). object_word objects at count_word ∷ drop k objects) next)))

  rows_from_lem : (at n : ℕ) → object_span * (at + n) ≤ length objects → ((o : ℕ) → o < at + n → object_word objects o first_word ≡ cells_below objects o) → objects_from (cells_below objects at) (numbered (object_at objects cells) at n) ≡ take (object_span * n) (drop (object_span * at) objects)
  unfolding numbered objects_from object_at
  rows_from_lem at zero room starts = refl
  rows_from_lem at (suc n) room starts =
      let four : object_span * suc n ≡ suc (suc (suc (suc (object_span * n)))) = omega arith in
      let front = object_front at (omega arith) in
      let count : length (values_from cells (object_word objects at first_word) (object_word objects at count_word)) ≡ object_word objects at count_word = numbered-length (entry_in value_at cells) (object_word objects at first_word) (object_word objects at count_word) in
      let first : cells_below objects at ≡ object_word objects at first_word = sym (starts at (omega arith)) in
      let link : or_zero (link_at (object_word objects at descriptor_word)) ≡ object_word objects at descriptor_word = link_word (object_word objects at descriptor_word) in
      let more : cells_below objects at + length (values_from cells (object_word objects at first_word) (object_word objects at count_word)) ≡ cells_below objects (at + 1) = ap (λ (c : ℕ). cells_below objects at + c) count ∙ sym (below_next objects at) in
      let rest : objects_from (cells_below objects at + length (values_from cells (object_word objects at first_word) (object_word objects at count_word))) (numbered (object_at objects cells) (at + 1) n) ≡ take (object_span * n) (drop (object_span * (at + 1)) objects) =
      ap (λ (f : ℕ). objects_from f (numbered (object_at objects cells) (at + 1) n)) more ∙ rows_from_lem (at + 1) n (omega arith) (λ o h. starts o (omega arith)) in
      ap₂ (λ (d f : ℕ). object_word objects at type_word ∷ d ∷ f ∷ length (values_from cells (object_word objects at first_word) (object_word objects at count_word)) ∷ objects_from (cells_below objects at + length (values_from cells (object_word objects at first_word) (object_word objects at count_word))) (numbered (object_at objects cells) (at + 1) n)) link first
      ∙ ap₂ (λ (c : ℕ) (l : List ℕ). object_word objects at type_word ∷ object_word objects at descriptor_word ∷ object_word objects at first_word ∷ c ∷ l) count rest
      ∙ sym (ap₂ take four front)

module _ {objects : List ℕ} {n total : ℕ} (p : Packed objects n total) (cells : List ℕ) where
  pub objects_words : object_span * n ≤ length objects → take (object_span * n) objects ≡ objects_from 0 (store_at objects cells n)
  unfolding cells_below
  objects_words room = sym (rows_from_lem objects cells 0 n (omega arith) (λ o h. p.starts o (omega arith)))

  pub cells_words : value_span * total ≤ length cells → AllCanon cells total → take (value_span * total) cells ≡ joined (map value_words (cell_values (store_at objects cells n)))
  cells_words room c = sym (ap (λ (vs : List Value). joined (map value_words vs)) (packed_fields p cells) ∙ canon_words c room)
