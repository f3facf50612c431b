-- The state that a run leaves, written in the layout of scope's Memory.antt: it is the memory's own words, so that nothing
-- has to be written out at the end.
use Prim.Native.Nat.{ℕ, zero, suc, ◌+◌, ◌-◌, ◌*◌, ◌≤◌}
use mathlib.Core.Path.{◌≡◌, refl, sym, ap, ◌∙◌}
use mathlib.Core.List.{List, [], ◌∷◌, ◌++◌, map, reverse}
use native.Mathlib.Omega.{arith}
use lib.ListN.{length, take, drop, length-append}
use lib.Seq.{drop-cons, take-add}
use Rattle.scope.specs.Layout.{block_span}
use Rattle.scope.specs.Reading.{Read, got, refused}
use Rattle.scope.specs.Lists.{joined}
use Rattle.scope.specs.Instructions.{Instr, instr_at}
use Rattle.scope.specs.Bodies.{Code}
use Rattle.scope.specs.Machine.{Value, Block}
use Rattle.scope.specs.Running.{place_of}
use Rattle.scope.specs.Memory.{value_words, below_of, block_kind, block_place, height_of, block_words, state_words}
use Rattle.run_values.specs.Layout.{kind_word, place_word, below_word}
use Rattle.run_values.specs.Values.{value_at, entry_in}
use Rattle.run_values.proofs.Numbered.{numbered-length}
use Rattle.run_values.proofs.Laws.{held_canon_words}
use Rattle.run_objects.proofs.Packs.{store_length, packed_fields, objects_words, cells_words}
use Rattle.run_stack.specs.Pile.{pile}
use Rattle.run_stack.proofs.Laws.{pile-length, pile-words}
use Rattle.run_stack.proofs.Held.{locals-length}
use Rattle.run_ends.specs.Matching.{code_at}
use Rattle.run_ends.proofs.Codes.{code_here, code_refused, code-none}
use Rattle.run_state.specs.declared.Stage.{Stage}
use Rattle.run_state.specs.Machines.{Words, block_word, lower, block_of, blocks_at, machine_at, Valued, Opened, a_block, a_loop, Nested, outermost, Orderly, Over}
use Rattle.run_state.specs.Written.{StateTold}
use Rattle.run_state.proofs.Open.{either_block, innermost, belows, all_operands_lem, blocks-length}

-- the place

pub place_there : (s : List ℕ) (at : ℕ) → (code_at s at ≡ [] → ⊥) → place_of s (code_at s at) ≡ at
place_there s at some = go (instr_at s at) refl
  where
    go : (o : Read Instr) → instr_at s at ≡ o → place_of s (code_at s at) ≡ at
    go (got i next) e = ap (place_of s) (code_here s at e)
    go (refused n p) e = absurd (some (code_refused s at e))

-- open blocks

module _ (s : List ℕ) (kind at : ℕ) (vs : List Value) where
  kind_told : {next : ℕ} → Opened s kind at next → block_kind (block_of s kind at vs) ≡ kind
  unfolding block_of
  kind_told (a_block k e) = rw k refl
  kind_told (a_loop k e) = rw k refl

  place_told : block_place (block_of s kind at vs) ≡ at
  place_told = either_block (λ b. block_place b ≡ at) s kind at vs (λ again. refl) (λ n. refl)

heights : (bs : List Block) → height_of bs ≡ length (joined (map below_of bs))
heights [] = refl
heights (b ∷ bs) = ap (λ (n : ℕ). length (below_of b) + n) (heights bs) ∙ sym (length-append (below_of b) (joined (map below_of bs)))

-- the words of block d come after those of the blocks around it
block_front :
    (blocks : List ℕ) (d : ℕ) → block_span * suc d ≤ length blocks
    → take (block_span * suc d) blocks ≡ take (block_span * d) blocks ++ (block_word blocks d kind_word ∷ block_word blocks d place_word ∷ block_word blocks d below_word ∷ [])
block_front blocks d room =
    let three : block_span * suc d ≡ block_span * d + block_span = omega arith in
    let first : block_span * d ≡ block_span * d + kind_word = omega arith in
    let second : suc (block_span * d + kind_word) ≡ block_span * d + place_word = omega arith in
    let third : suc (block_span * d + place_word) ≡ block_span * d + below_word = omega arith in
    let a : drop (block_span * d + kind_word) blocks ≡ block_word blocks d kind_word ∷ drop (suc (block_span * d + kind_word)) blocks = drop-cons blocks (block_span * d + kind_word) 0 (omega arith) in
    let b : drop (block_span * d + place_word) blocks ≡ block_word blocks d place_word ∷ drop (suc (block_span * d + place_word)) blocks = drop-cons blocks (block_span * d + place_word) 0 (omega arith) in
    let c : drop (block_span * d + below_word) blocks ≡ block_word blocks d below_word ∷ drop (suc (block_span * d + below_word)) blocks = drop-cons blocks (block_span * d + below_word) 0 (omega arith) in
    let front : drop (block_span * d) blocks ≡ block_word blocks d kind_word ∷ block_word blocks d place_word ∷ block_word blocks d below_word ∷ drop (suc (block_span * d + below_word)) blocks =
    ap (λ (k : ℕ). drop k blocks) first
    ∙ a
    ∙ ap (λ (l : List ℕ). block_word blocks d kind_word ∷ l)
    (ap (λ (k : ℕ). drop k blocks) second ∙ b ∙ ap (λ (l : List ℕ). block_word blocks d place_word ∷ l) (ap (λ (k : ℕ). drop k blocks) third ∙ c)) in
    ap (λ (k : ℕ). take k blocks) three
    ∙ take-add (block_span * d) block_span blocks
    ∙ ap (λ (l : List ℕ). take (block_span * d) blocks ++ take block_span l) front

module _ {s ends blocks : List ℕ} (operands : List ℕ) where
  height_told : (d : ℕ) {code : Code} → Nested s ends blocks d code → height_of (blocks_at s blocks operands d) ≡ lower blocks d
  height_told d n = heights (blocks_at s blocks operands d) ∙ ap length (belows operands d n) ∙ pile-length operands 0 (lower blocks d)

  pub block_words_lem : (d : ℕ) {code : Code} → Nested s ends blocks d code → block_span * d ≤ length blocks → block_words (blocks_at s blocks operands d) ≡ take (block_span * d) blocks
  unfolding blocks_at block_words lower
  block_words_lem zero n room = refl
  block_words_lem (suc d) n room =
      let a = innermost d n in
      let kind = kind_told s (block_word blocks d kind_word) (block_word blocks d place_word) (pile operands (lower blocks d) (block_word blocks d below_word - lower blocks d)) a.opened in
      let place = place_told s (block_word blocks d kind_word) (block_word blocks d place_word) (pile operands (lower blocks d) (block_word blocks d below_word - lower blocks d)) in
      rw (kind, place, height_told (suc d) n) (ap (λ (l : List ℕ). l ++ (block_word blocks d kind_word ∷ block_word blocks d place_word ∷ block_word blocks d below_word ∷ [])) (block_words_lem d a.nested (omega arith)) ∙ sym (block_front blocks d room))

-- all of it

six : {a b c d e f a' b' c' d' e' f' : ℕ} → a ≡ a' → b ≡ b' → c ≡ c' → d ≡ d' → e ≡ e' → f ≡ f' → a ∷ b ∷ c ∷ d ∷ e ∷ f ∷ [] ≡ a' ∷ b' ∷ c' ∷ d' ∷ e' ∷ f' ∷ []
six p q r s t u = cc

module _ {s ends : List ℕ} {count : ℕ} {w : Words} {st : Stage} (v : Valued count w st) where
  told_by :
      {code : Code} → place_of s (code_at s st.place) ≡ st.place → Nested s ends w.blocks st.depth code → st.base ≡ lower w.blocks st.depth → block_span * st.depth ≤ length w.blocks
      → StateTold count w st (state_words s (machine_at s count w st))
  unfolding state_words machine_at
  told_by place n base room =
      record {
        counts =
            six place
            (store_length w.objects w.cells st.objects)
            (ap length (packed_fields v.heap.packed w.cells) ∙ numbered-length (entry_in value_at w.cells) 0 st.cells)
            (locals-length w.locals count)
            (ap length (all_operands_lem count w st n base) ∙ pile-length w.operands 0 (st.base + st.height))
            (blocks-length s w.blocks w.operands st.depth);
        objects = sym (objects_words v.heap.packed w.cells (omega (arith, v.heap.object_room, v.heap.few)));
        cells = sym (cells_words v.heap.packed w.cells (omega (arith, v.heap.cell_room, v.heap.most)) v.heap.canon);
        locals = held_canon_words v.local_canon (omega (arith, v.local_room.room, v.local_room.few));
        operands = ap (λ (vs : List Value). joined (map value_words (reverse vs))) (all_operands_lem count w st n base) ∙ pile-words v.canon (omega (arith, v.room, v.high));
        blocks = block_words_lem w.operands st.depth n room;
      }

-- between two instructions
pub state-words :
    {s ends : List ℕ} {count : ℕ} {w : Words} {st : Stage} → Orderly s ends count w st → (code_at s st.place ≡ [] → ⊥)
    → StateTold count w st (state_words s (machine_at s count w st))
state-words {s} {st = st} o some =
    told_by o.valued (place_there s st.place some) o.framed.nested o.framed.base (omega (arith, o.framed.room, o.framed.deep))

-- when the run is done
pub last_state-words : {s : List ℕ} {count : ℕ} {w : Words} {st : Stage} → Valued count w st → Over s st → StateTold count w st (state_words s (machine_at s count w st))
unfolding lower
last_state-words {s} {w = w} {st} v c =
    let none : code_at s st.place ≡ [] = code-none s st.place (omega (arith, c.place)) in
    let open_none : Nested s [] w.blocks st.depth [] = rw c.depth outermost in
    told_by v (ap (place_of s) none ∙ sym c.place) open_none (rw c.depth c.base) (omega (arith, c.depth))
