-- Open blocks: which words they are read from, how they stand to the code that is left, and all operands through them.
use Prim.Native.Nat.{ℕ, zero, suc, ◌+◌, ◌-◌, ◌*◌, ◌≤◌, ◌<◌}
use mathlib.Core.Path.{◌≡◌, refl, sym, ap, ap₂, ◌∙◌}
use mathlib.Core.Bool.{Bool, true, false, cond}
use mathlib.Core.List.{List, ◌++◌, map}
use native.Mathlib.Omega.{arith}
use lib.ListN.{get_or, length}
use lib.Dec.{eqb}
use Rattle.scope.specs.Layout.{value_span, block_span}
use Rattle.scope.specs.Reading.{got}
use Rattle.scope.specs.Lists.{joined}
use Rattle.scope.specs.Instructions.{Op, Instr, end, op, instr_at}
use Rattle.scope.specs.Bodies.{Code}
use Rattle.scope.specs.Machine.{Value, Block, open_block, open_loop, past_ends}
use Rattle.scope.specs.Memory.{below_of, all_operands}
use Rattle.run_values.specs.Layout.{kind_word, place_word, below_word, opened_loop}
use Rattle.run_stack.specs.Pile.{pile}
use Rattle.run_stack.proofs.Laws.{pile_same, pile_join}
use Rattle.run_ends.specs.Matching.{on_read, code_at, Opener, is_block, is_loop, Lands}
use Rattle.run_ends.proofs.Codes.{code_here, reached_next, reached-inside, past_past, past_own_end}
use Rattle.run_ends.proofs.Chain.{past_inside, past_block_lem, past_loop}
use Rattle.run_state.specs.declared.Stage.{Stage}
use Rattle.run_state.specs.Machines.{Words, block_word, lower, code_after, label_takes, block_of, blocks_at, machine_at, at_place, Opened, a_block, a_loop, Charted, Nested, outermost, inside, Framed}

-- places

pub opener_of : {s : List ℕ} {kind at next : ℕ} → Opened s kind at next → Opener s at next
opener_of (a_block k e) = is_block e
opener_of (a_loop k e) = is_loop e

-- it lies within the input
pub charted_inside : {s ends : List ℕ} {at : ℕ} → Charted s ends at → at ≤ length s
charted_inside c = reached-inside c.inside c.reached

pub charted_next : {s ends : List ℕ} {at next : ℕ} {i : Instr} → Charted s ends at → instr_at s at ≡ got i next → Charted s ends next
charted_next c e = record { first = c.first; inside = c.inside; reached = reached_next c.reached e; matching = c.matching }

module _ {s ends : List ℕ} {at next : ℕ} (c : Charted s ends at) (o : Opener s at next) where
  lands : Lands s c.first next (get_or ends at 0)
  lands = c.matching.lands c.reached o

  -- the place that is kept for a block: after its end
  pub charted_lands : code_at s (get_or ends at 0) ≡ past_ends 1 (code_at s next)
  charted_lands = lands.code

  pub charted_end : Charted s ends (get_or ends at 0)
  charted_end = record { first = c.first; inside = c.inside; reached = lands.reached; matching = c.matching }

-- the words that open blocks are read from

pub lower_more : (blocks : List ℕ) (d : ℕ) → lower blocks (suc d) ≡ block_word blocks d below_word
unfolding lower
lower_more blocks d = refl

module _ (blocks blocks' : List ℕ) where
  pub lower_same : (d : ℕ) → ((i : ℕ) → i < block_span * d → get_or blocks' i 0 ≡ get_or blocks i 0) → lower blocks' d ≡ lower blocks d
  unfolding lower
  lower_same zero same = refl
  lower_same (suc d) same = same (block_span * d + below_word) (omega arith)

  pub blocks_same : (s operands : List ℕ) (d : ℕ) → ((i : ℕ) → i < block_span * d → get_or blocks' i 0 ≡ get_or blocks i 0) → blocks_at s blocks' operands d ≡ blocks_at s blocks operands d
  unfolding blocks_at
  blocks_same s operands zero same = refl
  blocks_same s operands (suc d) same =
      let less : (i : ℕ) → i < block_span * d → get_or blocks' i 0 ≡ get_or blocks i 0 = λ i h. same i (omega arith) in
      rw (same (block_span * d + kind_word) (omega arith), same (block_span * d + place_word) (omega arith), same (block_span * d + below_word) (omega arith), lower_same d less, blocks_same s operands d less)

-- how they stand to the code

-- Block d, out of which l more blocks lead: what comes after its end is the code at the place that is kept for it.
pub record Around (s ends blocks : List ℕ) (d l : ℕ) (code : Code) : Type 0 where
  pub next : ℕ
  pub charted : Charted s ends (block_word blocks d place_word)
  pub opened : Opened s (block_word blocks d kind_word) (block_word blocks d place_word) next
  pub low : lower blocks d ≤ block_word blocks d below_word
  pub landing : past_ends (suc l) code ≡ code_at s (get_or ends (block_word blocks d place_word) 0)
  pub nested : Nested s ends blocks d (code_at s (get_or ends (block_word blocks d place_word) 0))
  pub high : block_word blocks d below_word ≤ lower blocks (d + 1 + l)

-- a block that is read from its words is a block or a loop
pub either_block :
    (P : Block → Type 0) (s : List ℕ) (kind at : ℕ) (vs : List Value) → ((again : Code) → P (open_loop at vs again)) → ((n : ℕ) → P (open_block at n vs))
    → P (block_of s kind at vs)
unfolding block_of
either_block P s kind at vs as_loop as_block = go (eqb kind opened_loop)
  where
    go : (b : Bool) → P (cond b (open_loop at vs (code_after s at)) (open_block at (on_read (instr_at s at) 0 (λ i next. label_takes i)) vs))
    go true = as_loop (code_after s at)
    go false = as_block (on_read (instr_at s at) 0 (λ i next. label_takes i))

below_of_lem : (s : List ℕ) (kind at : ℕ) (vs : List Value) → below_of (block_of s kind at vs) ≡ vs
below_of_lem s kind at vs = either_block (λ b. below_of b ≡ vs) s kind at vs (λ again. refl) (λ n. refl)

module _ {s ends blocks : List ℕ} where
  pub innermost : (d : ℕ) {code : Code} → Nested s ends blocks (suc d) code → Around s ends blocks d 0 code
  unfolding lower
  innermost d (inside {next = next} charted opened low landing nested) =
      let one : d + 1 + 0 ≡ suc d = omega arith in
      record { next = next; charted = charted; opened = opened; low = low; landing = landing; nested = nested; high = rw one (omega arith) }

  -- only what comes after the innermost end matters
  pub nested_past : (d : ℕ) {code code' : Code} → past_ends 1 code ≡ past_ends 1 code' → Nested s ends blocks d code → Nested s ends blocks d code'
  nested_past zero e n = outermost
  nested_past (suc d) e n =
      let a = innermost d n in
      inside a.charted a.opened a.low (sym e ∙ a.landing) a.nested

  pub nested_same : {blocks' : List ℕ} (d : ℕ) {code : Code} → ((i : ℕ) → i < block_span * d → get_or blocks' i 0 ≡ get_or blocks i 0) → Nested s ends blocks d code → Nested s ends blocks' d code
  nested_same zero same n = outermost
  nested_same {blocks'} (suc d) {code} same n =
      let a = innermost d n in
      let less : (i : ℕ) → i < block_span * d → get_or blocks' i 0 ≡ get_or blocks i 0 = λ i h. same i (omega arith) in
      let kind : block_word blocks' d kind_word ≡ block_word blocks d kind_word = same (block_span * d + kind_word) (omega arith) in
      let place : block_word blocks' d place_word ≡ block_word blocks d place_word = same (block_span * d + place_word) (omega arith) in
      let below : block_word blocks' d below_word ≡ block_word blocks d below_word = same (block_span * d + below_word) (omega arith) in
      inside {d = d} {next = a.next} {code = code}
      (rw place a.charted)
      (rw (kind, place) a.opened)
      (rw (below, lower_same blocks blocks' d less) a.low)
      (rw place a.landing)
      (rw place (nested_same d less a.nested))

  -- out of l blocks more
  pub around : (d l : ℕ) {code : Code} → Nested s ends blocks (d + 1 + l) code → Around s ends blocks d l code
  around d zero n = let one : d + 1 + 0 ≡ suc d = omega arith in innermost d (rw one at n)
  around d (suc l) {code} n =
      let more : d + 1 + suc l ≡ suc (d + 1 + l) = omega arith in
      let a = innermost (d + 1 + l) (rw more at n) in
      let b = around d l a.nested in
      let onto : suc l + 1 ≡ suc (suc l) = omega arith in
      let code_is : past_ends (suc (suc l)) code ≡ past_ends (suc l) (past_ends 1 code) = sym (past_past (suc l) 1 code ∙ ap (λ (k : ℕ). past_ends k code) onto) in
      record {
        next = b.next;
        charted = b.charted;
        opened = b.opened;
        low = b.low;
        landing = code_is ∙ ap (past_ends (suc l)) a.landing ∙ b.landing;
        nested = b.nested;
        high = rw (more, lower_more blocks (d + 1 + l)) (omega (arith, a.low, b.high));
      }

  -- where the code of block d begins
  pub nested_first :
      {d next : ℕ} → Charted s ends (block_word blocks d place_word) → Opened s (block_word blocks d kind_word) (block_word blocks d place_word) next → lower blocks d ≤ block_word blocks d below_word
      → Nested s ends blocks d (code_at s (get_or ends (block_word blocks d place_word) 0)) → Nested s ends blocks (suc d) (code_at s next)
  nested_first c o low n = inside c o low (sym (charted_lands c (opener_of o))) n

  -- an instruction that neither opens nor closes a block
  pub nested_op : (at : ℕ) {d next : ℕ} {o : Op} → instr_at s at ≡ got (op o) next → Nested s ends blocks d (code_at s at) → Nested s ends blocks d (code_at s next)
  nested_op at {d} {next} {o} e n = nested_past d (ap (past_ends 1) (code_here s at e) ∙ past_inside at 0 (code_at s next) o) n

  pub nested_end : (at : ℕ) {d next : ℕ} → instr_at s at ≡ got end next → Nested s ends blocks (suc d) (code_at s at) → Nested s ends blocks d (code_at s next)
  nested_end at {d} {next} e n =
      let a = innermost d n in
      let same : code_at s (get_or ends (block_word blocks d place_word) 0) ≡ code_at s next = sym a.landing ∙ ap (past_ends 1) (code_here s at e) ∙ past_own_end at (code_at s next) in
      rw same at a.nested

  -- after the end of the block that is opened here
  pub nested_opener : {d at next : ℕ} → Charted s ends at → Opener s at next → Nested s ends blocks d (code_at s at) → Nested s ends blocks d (code_at s (get_or ends at 0))
  nested_opener {d} {at} {next} c o n = nested_past d (two o ∙ sym (past_past 1 1 (code_at s next)) ∙ ap (past_ends 1) (sym (charted_lands c o))) n
    where
      two : Opener s at next → past_ends 1 (code_at s at) ≡ past_ends 2 (code_at s next)
      two (is_block {rs} e) = ap (past_ends 1) (code_here s at e) ∙ past_block_lem at 0 (code_at s next) rs
      two (is_loop {rs} e) = ap (past_ends 1) (code_here s at e) ∙ past_loop at 0 (code_at s next) rs

  -- words of operands that lie below all of them
  pub operands_same :
      (operands operands' : List ℕ) (d : ℕ) {code : Code} → Nested s ends blocks d code → ((i : ℕ) → i < value_span * lower blocks d → get_or operands' i 0 ≡ get_or operands i 0)
      → blocks_at s blocks operands' d ≡ blocks_at s blocks operands d
  unfolding blocks_at lower
  operands_same operands operands' zero n same = refl
  operands_same operands operands' (suc d) n same =
      let a = innermost d n in
      let low : lower blocks d ≤ block_word blocks d below_word = a.low in
      let values : pile operands' (lower blocks d) (block_word blocks d below_word - lower blocks d) ≡ pile operands (lower blocks d) (block_word blocks d below_word - lower blocks d) =
      pile_same operands operands' (lower blocks d) (block_word blocks d below_word - lower blocks d) (λ i h. same i (omega arith)) in
      rw (values, operands_same operands operands' d a.nested (λ i h. same i (omega arith)))

  -- all operands

  pub belows : (operands : List ℕ) (d : ℕ) {code : Code} → Nested s ends blocks d code → joined (map below_of (blocks_at s blocks operands d)) ≡ pile operands 0 (lower blocks d)
  unfolding blocks_at lower pile
  belows operands zero n = refl
  belows operands (suc d) n =
      let a = innermost d n in
      let low : lower blocks d ≤ block_word blocks d below_word = a.low in
      let more = block_word blocks d below_word - lower blocks d in
      let start : 0 + lower blocks d ≡ lower blocks d = omega arith in
      let whole : lower blocks d + (block_word blocks d below_word - lower blocks d) ≡ block_word blocks d below_word = omega arith in
      ap₂ ◌++◌ (below_of_lem s (block_word blocks d kind_word) (block_word blocks d place_word) (pile operands (lower blocks d) more)) (belows operands d a.nested)
      ∙ ap (λ (b : ℕ). pile operands b more ++ pile operands 0 (lower blocks d)) (sym start)
      ∙ pile_join operands 0 (lower blocks d) more
      ∙ ap (pile operands 0) whole

-- the next instruction of the same block
pub framed_op : {s ends blocks : List ℕ} {st : Stage} {next : ℕ} {o : Op} → Framed s ends blocks st → instr_at s st.place ≡ got (op o) next → Framed s ends blocks (at_place st next)
framed_op {st = st} f e =
    record {
      short = f.short;
      room = f.room;
      deep = f.deep;
      base = f.base;
      charted = charted_next f.charted e;
      nested = nested_op st.place e f.nested;
    }

pub all_operands_lem :
    {s ends : List ℕ} (count : ℕ) (w : Words) (st : Stage) {code : Code} → Nested s ends w.blocks st.depth code → st.base ≡ lower w.blocks st.depth
    → all_operands (machine_at s count w st) ≡ pile w.operands 0 (st.base + st.height)
unfolding machine_at
all_operands_lem count w st n base =
    let start : 0 + st.base ≡ st.base = omega arith in
    ap (λ (vs : List Value). pile w.operands st.base st.height ++ vs) (belows w.operands st.depth n ∙ ap (pile w.operands 0) (sym base))
    ∙ ap (λ (b : ℕ). pile w.operands b st.height ++ pile w.operands 0 st.base) (sym start)
    ∙ pile_join w.operands 0 st.base st.height

pub blocks-length : (s blocks operands : List ℕ) (d : ℕ) → length (blocks_at s blocks operands d) ≡ d
unfolding blocks_at
blocks-length s blocks operands zero = refl
blocks-length s blocks operands (suc d) = ap suc (blocks-length s blocks operands d)
