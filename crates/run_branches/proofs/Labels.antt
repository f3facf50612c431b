-- Each way out of a branch to the label of an open block, by the instruction that is read at its place: a block or a loop
-- stands there, and nothing else can.
use Prim.Native.Nat.{ℕ, suc, ◌+◌, ◌-◌, ◌*◌, ◌≤◌, ◌<◌}
use mathlib.Core.Path.{◌≡◌, refl, sym, ap, ◌∙◌}
use mathlib.Core.List.{List, [], ◌∷◌}
use native.Mathlib.Omega.{arith}
use lib.ListN.{length}
use mir.Syntax.{w32}
use mir.Val.{Fits}
use Rattle.std.specs.Prelude.{Result, Ok, Err}
use Rattle.scope.specs.declared.Refused.{Refused}
use Rattle.scope.specs.Layout.{block_span}
use Rattle.scope.specs.Reading.{got, refused}
use Rattle.scope.specs.Syntax.{Val}
use Rattle.scope.specs.Instructions.{Instr, block, loop, instr_at}
use Rattle.scope.proofs.Impossible.{contradiction, impossible}
use Rattle.run_values.specs.Layout.{kind_word, place_word, below_word}
use Rattle.lent_u16.specs.Words.{WordAt}
use Rattle.body_immediates.specs.declared.Instruction.{Instruction}
use Rattle.body_immediates.specs.declared.Instruction
use Rattle.body_immediates.specs.Coding.{result_code, instruction_of, instruction_is}
use Rattle.body_immediates.proofs.Laws.{instruction_got, instruction_refused}
use Rattle.body_decoded.specs.Decoded.{block_results}
use Rattle.body_decoded.proofs.Short.{Short, short_block, read_short}
use Rattle.run_values.proofs.Laws.{all_less}
use Rattle.run_stack.specs.Pile.{pile}
use Rattle.run_ends.specs.Matching.{code_at}
use Rattle.run_state.specs.declared.Stage.{Stage}
use Rattle.run_state.specs.declared.Stepped.{Stepped}
use Rattle.run_state.specs.declared.Stepped
use Rattle.run_state.specs.Machines.{block_word, Opened, a_block, a_loop, Framed}
use Rattle.run_state.specs.Controlled.{controlled}
use Rattle.run_state.proofs.Open.{lower_more, charted_next, nested_first, Around}
use Rattle.run_branches.specs.Branches.{BranchableTo, BranchesTo, Descends, BranchesOut}
use Rattle.run_blocks.proofs.Answers.{restaged, control_goes}
use Rattle.run_branches.proofs.Jumping.{target, low_target, reaches_loop}
use Rattle.run_branches.proofs.Outward.{takes_as_read}

not_refused : {s : List ℕ} {kind at next n q : ℕ} → Opened s kind at next → instr_at s at ≡ refused n q → ⊥
not_refused (a_block k e) f = contradiction cc
not_refused (a_loop k e) f = contradiction cc

module _ {s : List ℕ} {kind at next : ℕ} {j : Instr} {onto : ℕ} {i : Instruction} (read : instr_at s at ≡ got j onto) (same : i ≡ instruction_of j) where
  opened_next : Opened s kind at next → Opened s kind at onto
  opened_next (a_block {rs} k e) = let is : j ≡ block rs = cc in a_block k (rw is at read)
  opened_next (a_loop {rs} k e) = let is : j ≡ loop rs = cc in a_loop k (rw is at read)

  as_loop_read : Opened s kind at next → {v : ℕ} → i ≡ Instruction.TheVariants.Loop v → (rs : List Val) × (j ≡ loop rs)
  unfolding instruction_of
  as_loop_read (a_block {rs} k e) f =
      let is : j ≡ block rs = cc in
      let wrong : i ≡ Instruction.TheVariants.Block (result_code rs) = rw is at same in
      impossible cc
  as_loop_read (a_loop {rs} k e) f = (rs, cc)

  as_block_read : Opened s kind at next → {v : ℕ} → i ≡ Instruction.TheVariants.Block v → (rs : List Val) × (j ≡ block rs) × (v ≡ result_code rs)
  unfolding instruction_of
  as_block_read (a_block {rs} k e) f =
      let is : j ≡ block rs = cc in
      let right : i ≡ Instruction.TheVariants.Block (result_code rs) = rw is at same in
      (rs, is, cc)
  as_block_read (a_loop {rs} k e) f =
      let is : j ≡ loop rs = cc in
      let wrong : i ≡ Instruction.TheVariants.Loop (result_code rs) = rw is at same in
      impossible cc

  no_other : Opened s kind at next → ((w : ℕ) → i ≡ Instruction.TheVariants.Block w → ⊥) → ((w : ℕ) → i ≡ Instruction.TheVariants.Loop w → ⊥) → ⊥
  unfolding instruction_of
  no_other (a_block {rs} k e) not_block not_loop = let is : j ≡ block rs = cc in not_block _ (rw is at same)
  no_other (a_loop {rs} k e) not_block not_loop = let is : j ≡ loop rs = cc in not_loop _ (rw is at same)

block_short : {rs : List Val} → Short (block rs) → length rs ≤ 1
block_short (short_block h) = h

module _ {s ends operands blocks : List ℕ} {st : Stage} {left d : ℕ} (a : BranchableTo s ends operands blocks st left d) where
  counted : st.depth ≡ d + 1 + (st.depth - 1 - d)
  counted = let inside : d < st.depth = a.there in omega arith

  around_now : Around s ends blocks d (st.depth - 1 - d) (code_at s st.place)
  around_now = target d (st.depth - 1 - d) counted a.branchable.framed

  pub to_descends : Descends operands blocks st left d
  to_descends =
      record { piled = a.branchable.piled; low = around_now.low; high = low_target d (st.depth - 1 - d) counted a.branchable.framed }

  pub to_deeper : Fits w32 (d + 1)
  to_deeper = record { fits = omega (arith, a.there, a.branchable.framed.deep) }

  module _ {place : ℕ} (w : WordAt blocks (block_span * d + place_word) place) {r : Result (Instruction × ℕ) Refused} (told : r ≡ instruction_is (instr_at s place)) where
    told_there : r ≡ instruction_is (instr_at s (block_word blocks d place_word))
    told_there = rw w.is at told

    pub to_refused : {no : Refused} → r ≡ Err no → BranchesTo s ends operands operands blocks st left d Stepped.TheVariants.Astray
    to_refused e = absurd (not_refused around_now.opened (instruction_refused (instr_at s (block_word blocks d place_word)) told_there e))

    module _ {i : Instruction} {next : ℕ} (e : r ≡ Ok (i, next)) where
      read_there : (j : Instr) × (instr_at s (block_word blocks d place_word) ≡ got j next) × (i ≡ instruction_of j)
      read_there = instruction_got (instr_at s (block_word blocks d place_word)) told_there e

      pub to_other : ((w : ℕ) → i ≡ Instruction.TheVariants.Block w → ⊥) → ((w : ℕ) → i ≡ Instruction.TheVariants.Loop w → ⊥) → BranchesTo s ends operands operands blocks st left d Stepped.TheVariants.Astray
      to_other not_block not_loop = let (j, read, same) = read_there in absurd (no_other read same around_now.opened not_block not_loop)

      pub to_out :
          {v : ℕ} → i ≡ Instruction.TheVariants.Block v → {takes : ℕ} → takes ≡ length (block_results v) → {operands' : List ℕ} {answer : Stepped}
          → BranchesOut ends operands operands' blocks st left d takes answer → BranchesTo s ends operands operands' blocks st left d answer
      to_out {v} is {takes} many b =
          let (j, read, same) = read_there in
          let (rs, which, code) = as_block_read read same around_now.opened is in
          let block-there : instr_at s (block_word blocks d place_word) ≡ got (block rs) next = rw which at read in
          let count : takes ≡ length rs = many ∙ ap (λ (x : ℕ). length (block_results x)) code ∙ takes_as_read rs (block_short (read_short s (block_word blocks d place_word) block-there)) in
          b.is s rs next a.branchable.framed block-there count

      pub to_again :
          {v : ℕ} → i ≡ Instruction.TheVariants.Loop v → {below : ℕ} → WordAt blocks (block_span * d + below_word) below
          → BranchesTo s ends operands operands blocks st left d (Stepped.TheVariants.Goes (restaged st next below 0 (d + 1)))
      unfolding controlled pile
      to_again is {below} b =
          let (j, read, same) = read_there in
          let (rs, which) = as_loop_read read same around_now.opened is in
          loop-again rs (rw which at read) (opened_next read same around_now.opened)
        where
          f : Framed s ends blocks st
          f = a.branchable.framed

          loop-again :
              (rs : List Val) → instr_at s (block_word blocks d place_word) ≡ got (loop rs) next → Opened s (block_word blocks d kind_word) (block_word blocks d place_word) next
              → BranchesTo s ends operands operands blocks st left d (Stepped.TheVariants.Goes (restaged st next below 0 (d + 1)))
          loop-again rs read opened =
              record {
                is = λ p m l is c.
                    let t = target d l is f in
                    let one : d + 1 ≡ suc d = omega arith in
                    let none : below + 0 ≡ below = omega arith in
                    let inside : below ≤ st.base = omega (arith, low_target d l is f, b.is) in
                    control_goes _
                    (sym (reaches_loop p m d l is f c (pile operands st.base left) read))
                    (record { room = a.branchable.piled.room; canon = rw none (all_less a.branchable.piled.canon (omega arith)); high = rw none (omega (arith, a.branchable.piled.high)) })
                    (record {
                      short = f.short;
                      room = f.room;
                      deep = omega (arith, f.deep);
                      base = rw (one, lower_more blocks d) b.is;
                      charted = charted_next t.charted read;
                      nested = rw one (nested_first {d = d} t.charted opened t.low t.nested);
                    })
                    (record { objects = refl; cells = refl });
              }

pub ruleset to_exits = (to_descends, to_deeper, to_refused, to_other, to_out, to_again)
