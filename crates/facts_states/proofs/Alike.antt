-- Equal words, equal parts. A buffer of entries of two words tells its entries one by one; the objects tell how the cells are cut, and
-- the blocks' heights how the operands are.
use Prim.Native.Nat.{ℕ, zero, suc, ◌+◌, ◌*◌, ◌<◌}
use native.Mathlib.Omega.{arith}
use mathlib.Core.Path.{◌≡◌, refl, sym, ◌∙◌, ap}
use mathlib.Core.Option.{Option, none, some}
use mathlib.Core.List.{List, [], ◌∷◌, ◌++◌, map, reverse}
use lib.ListN.{length, length-append}
use borrow.Author.Tests.{eq-eqb}
use Rattle.scope.specs.Lists.{joined}
use Rattle.scope.specs.Syntax.{Number, i32, i64, f32, f64}
use Rattle.scope.specs.Order.{number_code}
use Rattle.scope.specs.Machine.{Value, number, null, object, Object, Store, Block, open_block, open_loop, Machine}
use Rattle.scope.specs.Memory.{or_zero, value_words, local_words, objects_from, below_of, all_operands, block_kind, block_place, height_of, block_words, cell_values, StateWords, state_words}
use Rattle.scope.proofs.Order.{same_number_equal}
use Rattle.facts_steps.proofs.Making.{turned_twice}
use Rattle.facts_states.specs.Laws.{Opened, opened_as, Alike}
use Rattle.facts_states.proofs.Standing.{TwoWords}
use Rattle.facts_states.proofs.Words.{kind_of, bits_of, values, kind_held, bits_held, held, three_each}

module _ {A : Type 0} where
  same_first : {x y : A} {xs ys : List A} → x ∷ xs ≡ y ∷ ys → x ≡ y
  same_first e = cc

  same_rest : {x y : A} {xs ys : List A} → x ∷ xs ≡ y ∷ ys → xs ≡ ys
  same_rest e = cc

  -- cut at the same length
  pub same_cut : (xs ys us vs : List A) → length xs ≡ length us → xs ++ ys ≡ us ++ vs → (xs ≡ us) × (ys ≡ vs)
  same_cut [] ys [] vs l e = (refl, e)
  same_cut [] ys (u ∷ us) vs l e = absurd (let none-such : ⊥ = omega arith in none-such)
  same_cut (x ∷ xs) ys [] vs l e = absurd (let none-such : ⊥ = omega arith in none-such)
  same_cut (x ∷ xs) ys (u ∷ us) vs l e =
      let (a, b) = same_cut xs ys us vs (omega arith) (same_rest e) in
      let c : x ≡ u = same_first e in
      (rw (a, c), b)

-- entries of two words

two_long : {A : Type 0} {f : A → List ℕ} {R : A → ℕ → ℕ → Type 0} (t : TwoWords f R) (x : A) (rest : List ℕ) → f x ++ rest ≡ t.one x ∷ t.two x ∷ rest
two_long t x rest = ap (λ (ws : List ℕ). ws ++ rest) (t.words x)

module _ {A : Type 0} {f : A → List ℕ} {R : A → ℕ → ℕ → Type 0} (t : TwoWords f R) (tells : (x y : A) → t.one x ≡ t.one y → t.two x ≡ t.two y → x ≡ y) where
  two_same : (xs ys : List A) → joined (map f xs) ≡ joined (map f ys) → xs ≡ ys
  two_same [] [] e = refl
  two_same [] (y ∷ ys) e = absurd (let d : 0 ≡ suc (suc (length (joined (map f ys)))) = ap length (e ∙ two_long t y (joined (map f ys))) in let none-such : ⊥ = omega arith in none-such)
  two_same (x ∷ xs) [] e = absurd (let d : 0 ≡ suc (suc (length (joined (map f xs)))) = ap length (sym e ∙ two_long t x (joined (map f xs))) in let none-such : ⊥ = omega arith in none-such)
  two_same (x ∷ xs) (y ∷ ys) e =
      let d : t.one x ∷ t.two x ∷ joined (map f xs) ≡ t.one y ∷ t.two y ∷ joined (map f ys) = sym (two_long t x (joined (map f xs))) ∙ e ∙ two_long t y (joined (map f ys)) in
      let a = tells x y (same_first d) (same_first (same_rest d)) in
      let b = two_same xs ys (same_rest (same_rest d)) in
      rw (a, b)

few_kinds : (k : Number) → number_code k < 4
few_kinds i32 = omega arith
few_kinds i64 = omega arith
few_kinds f32 = omega arith
few_kinds f64 = omega arith

one_value : (v w : Value) → kind_of v ≡ kind_of w → bits_of v ≡ bits_of w → v ≡ w
one_value (number k n) (number j m) a b =
    let c : number_code k ≡ number_code j = omega arith in
    let d = same_number_equal k j (eq-eqb (number_code k) (number_code j) c) in
    rw (d, b)
one_value (number k n) null a b = absurd (let f = few_kinds k in let none-such : ⊥ = omega arith in none-such)
one_value (number k n) (object o) a b = absurd (let f = few_kinds k in let none-such : ⊥ = omega arith in none-such)
one_value null (number k n) a b = absurd (let f = few_kinds k in let none-such : ⊥ = omega arith in none-such)
one_value null null a b = refl
one_value null (object o) a b = absurd (let none-such : ⊥ = omega arith in none-such)
one_value (object o) (number k n) a b = absurd (let f = few_kinds k in let none-such : ⊥ = omega arith in none-such)
one_value (object o) null a b = absurd (let none-such : ⊥ = omega arith in none-such)
one_value (object o) (object q) a b = ap object b

some_kind : (v : Value) → 0 < kind_of v
some_kind (number k n) = omega arith
some_kind null = omega arith
some_kind (object o) = omega arith

one_local : (o q : Option Value) → kind_held o ≡ kind_held q → bits_held o ≡ bits_held q → o ≡ q
one_local none none a b = refl
one_local none (some v) a b = absurd (let f = some_kind v in let none-such : ⊥ = omega arith in none-such)
one_local (some v) none a b = absurd (let f = some_kind v in let none-such : ⊥ = omega arith in none-such)
one_local (some v) (some w) a b = ap some (one_value v w a b)

-- objects and cells

one_descriptor : (d e : Option ℕ) → or_zero d ≡ or_zero e → d ≡ e
one_descriptor none none q = refl
one_descriptor none (some n) q = absurd (let none-such : ⊥ = omega arith in none-such)
one_descriptor (some n) none q = absurd (let none-such : ⊥ = omega arith in none-such)
one_descriptor (some n) (some k) q = let same : n ≡ k = omega arith in ap some same

one_object : (it other : Object) → it.type ≡ other.type → it.descriptor ≡ other.descriptor → it.fields ≡ other.fields → it ≡ other
one_object it other a b c = rw (← a, ← b, ← c)

heap_same : (base : ℕ) (os qs : Store) → objects_from base os ≡ objects_from base qs → cell_values os ≡ cell_values qs → os ≡ qs
unfolding objects_from
heap_same base [] [] e c = refl
heap_same base [] (q ∷ qs) e c = absurd (let d = ap length e in let none-such : ⊥ = omega arith in none-such)
heap_same base (o ∷ os) [] e c = absurd (let d = ap length e in let none-such : ⊥ = omega arith in none-such)
heap_same base (o ∷ os) (q ∷ qs) e c =
    let type = same_first e in
    let descriptor = one_descriptor o.descriptor q.descriptor (same_first (same_rest e)) in
    let long : length o.fields ≡ length q.fields = same_first (same_rest (same_rest (same_rest e))) in
    let rest = same_rest (same_rest (same_rest (same_rest e))) in
    let (fields, more) = same_cut o.fields (cell_values os) q.fields (cell_values qs) long c in
    let others = heap_same (base + length o.fields) os qs (rest ∙ ap (λ n. objects_from (base + n) qs) (sym long)) more in
    let one = one_object o q type descriptor fields in
    rw (one, others)

-- blocks, and what lies below them

pub data Shaped : List Block → List Block → Type 0 where
  no_block : Shaped [] []
  one_block : {b c : Block} {bs cs : List Block} → block_kind b ≡ block_kind c → block_place b ≡ block_place c → length (below_of b) ≡ length (below_of c) → Shaped bs cs
      → Shaped (b ∷ bs) (c ∷ cs)

same_height : {bs cs : List Block} → Shaped bs cs → height_of bs ≡ height_of cs
same_height no_block = refl
same_height (one_block k p l more) = let e = same_height more in omega arith

blocks_shaped : (bs cs : List Block) → block_words bs ≡ block_words cs → Shaped bs cs
unfolding block_words
blocks_shaped [] [] e = no_block
blocks_shaped [] (c ∷ cs) e =
    absurd (let d : 0 ≡ length (block_words (c ∷ cs)) = ap length e in let f = three_each (c ∷ cs) in let none-such : ⊥ = omega arith in none-such)
blocks_shaped (b ∷ bs) [] e =
    absurd (let d : length (block_words (b ∷ bs)) ≡ 0 = ap length e in let f = three_each (b ∷ bs) in let none-such : ⊥ = omega arith in none-such)
blocks_shaped (b ∷ bs) (c ∷ cs) e =
    let d : length (block_words (b ∷ bs)) ≡ length (block_words (c ∷ cs)) = ap length e in
    let many : length (block_words bs) ≡ length (block_words cs) =
    let f = three_each (b ∷ bs) in
    let g = three_each (c ∷ cs) in
    let h = three_each bs in
    let i = three_each cs in
    omega arith in
    let (outer, own) = same_cut (block_words bs) (block_kind b ∷ block_place b ∷ height_of (b ∷ bs) ∷ []) (block_words cs) (block_kind c ∷ block_place c ∷ height_of (c ∷ cs) ∷ []) many e in
    let more = blocks_shaped bs cs outer in
    let high : height_of (b ∷ bs) ≡ height_of (c ∷ cs) = same_first (same_rest (same_rest own)) in
    let low = same_height more in
    let long : length (below_of b) ≡ length (below_of c) = omega arith in
    one_block (same_first own) (same_first (same_rest own)) long more

below_many : {bs cs : List Block} → Shaped bs cs → length (joined (map below_of bs)) ≡ length (joined (map below_of cs))
below_many no_block = refl
below_many (one_block {b = b} {c = c} {bs = bs} {cs = cs} k p l more) =
    let e = below_many more in
    let f = length-append (below_of b) (joined (map below_of bs)) in
    let g = length-append (below_of c) (joined (map below_of cs)) in
    omega arith

opened_same : (b c : Block) → block_kind b ≡ block_kind c → block_place b ≡ block_place c → below_of b ≡ below_of c → opened_as b ≡ opened_as c
opened_same (open_block at n below) (open_block from k lower) k' p l = rw (p, l)
opened_same (open_block at n below) (open_loop from lower again) k p l = absurd (let none-such : ⊥ = omega arith in none-such)
opened_same (open_loop at below again) (open_block from n lower) k p l = absurd (let none-such : ⊥ = omega arith in none-such)
opened_same (open_loop at below again) (open_loop from lower round) k p l = rw (p, l)

blocks_same : {bs cs : List Block} → Shaped bs cs → joined (map below_of bs) ≡ joined (map below_of cs) → map opened_as bs ≡ map opened_as cs
blocks_same no_block e = refl
blocks_same (one_block {b = b} {c = c} {bs = bs} {cs = cs} k p l more) e =
    let (own, rest) = same_cut (below_of b) (joined (map below_of bs)) (below_of c) (joined (map below_of cs)) l e in
    let one = opened_same b c k p own in
    let others = blocks_same more rest in
    rw (one, others)

-- the machines

pub words_alike : (s : List ℕ) (m n : Machine) → state_words s m ≡ state_words s n → Alike s m n
unfolding state_words
words_alike s m n e =
    let cells = two_same values one_value (cell_values m.heap) (cell_values n.heap) (ap (λ (w : StateWords). w.cells) e) in
    let turned = two_same values one_value (reverse (all_operands m)) (reverse (all_operands n)) (ap (λ (w : StateWords). w.operands) e) in
    let all : all_operands m ≡ all_operands n = sym (turned_twice (all_operands m)) ∙ ap reverse turned ∙ turned_twice (all_operands n) in
    let shape = blocks_shaped m.blocks n.blocks (ap (λ (w : StateWords). w.blocks) e) in
    let many : length m.operands ≡ length n.operands =
    let f = length-append m.operands (joined (map below_of m.blocks)) in
    let g = length-append n.operands (joined (map below_of n.blocks)) in
    let h = below_many shape in
    let i = ap length all in
    omega arith in
    let (own, below) = same_cut m.operands (joined (map below_of m.blocks)) n.operands (joined (map below_of n.blocks)) many all in
    record {
      heap = heap_same 0 m.heap n.heap (ap (λ (w : StateWords). w.objects) e) cells;
      locals = two_same held one_local m.locals n.locals (ap (λ (w : StateWords). w.locals) e);
      operands = own;
      blocks = blocks_same shape below;
      place = same_first (ap (λ (w : StateWords). w.counts) e);
    }
