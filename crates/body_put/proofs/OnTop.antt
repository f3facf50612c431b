-- Putting operands on top: one word, and a turn of the loop over a list, which has put the first i of its types.
use Prim.Native.Nat.{ℕ, suc, ◌+◌, ◌%◌, ◌<◌}
use mathlib.Core.Path.{◌≡◌, ap, ap₂, ◌∙◌}
use mathlib.Core.List.{List, [], ◌∷◌, map}
use native.Mathlib.Omega.{arith}
use lib.ListN.{length, get_or, set, take, length-set}
use lib.Seq.{get_or-set_same, get_or-set_other}
use Rattle.scope.specs.Bodies.{Operand, known, on_top}
use Rattle.type_table.specs.View.{val_at_code}
use Rattle.body_state.specs.declared.Values.{Values}
use Rattle.body_state.specs.Layout.{operands_from, word_bound}
use Rattle.body_state.specs.State.{operand_at_code, values_of, CodeOf}
use Rattle.body_state.proofs.Alike.{stack_same}
use Rattle.body_words.proofs.Laws.{known_kept, reverse_there, stack_more}
use Rattle.body_put.specs.Putting.{Room, Pushed}
use Rattle.body_put.proofs.Laws.{pushed_more}

-- one

pub pushed_one : {work work' : List ℕ} {base height : ℕ} (o : ℕ) → work' ≡ set work (operands_from + (base + height)) (o % word_bound) → Room work base height 1 → Pushed work work' base height (height + 1) (operand_at_code (o % word_bound) ∷ [])
pushed_one {work} {work'} {base} {height} o e room =
    let at = operands_from + (base + height) in
    let here : at < length work = omega (arith, room.room, room.few) in
    let other : (i : ℕ) → (i ≡ at → ⊥) → get_or work' i 0 ≡ get_or work i 0 = λ i n. rw e (get_or-set_other work at i (o % word_bound) 0 n) in
    let word : get_or work' at 0 ≡ o % word_bound = rw e (get_or-set_same work at (o % word_bound) 0 here) in
    let below : (i : ℕ) → i < at → get_or work' i 0 ≡ get_or work i 0 = λ i h. other i (λ q. omega arith) in
    record {
      top = stack_more work' base height ∙ ap₂ (λ (w : ℕ) (os : List Operand). operand_at_code w ∷ os) word (stack_same work work' base height below);
      below = below;
      beyond = λ i h. other i (λ q. omega (arith, room.few));
      size = rw (e, length-set);
    }

-- a list

pub on_turn : {work₀ work : List ℕ} {base height : ℕ} {codes : List ℕ} {list : Values} {i : ℕ} → Pushed work₀ work base height (height + i) (on_top (take i (values_of codes list))) → i < length (values_of codes list) → {c : ℕ} → CodeOf codes list i c → {work' : List ℕ} → Pushed work work' base (height + i) (height + i + 1) (operand_at_code ((c + 2) % word_bound) ∷ []) → Pushed work₀ work' base height (height + (i + 1)) (on_top (take (i + 1) (values_of codes list)))
on_turn {height = height} {codes = codes} {list = list} {i = i} p h {c} a q =
    let vs = values_of codes list in
    let place : height + (i + 1) ≡ height + i + 1 = omega arith in
    let more : i + 1 ≡ suc i = omega arith in
    let last : on_top (take (i + 1) vs) ≡ known (val_at_code c) ∷ on_top (take i vs) = ap (λ (k : ℕ). on_top (take k vs)) more ∙ ap (map known) (reverse_there vs i (a.is h)) in
    rw (place, last, ← known_kept a.small) (pushed_more (omega arith) p q)
