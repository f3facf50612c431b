-- The marks, one local after the other: a turn gives the next one its own. No type is touched, so what a local starts as is
-- what it started as before.
use Prim.Native.Nat.{ℕ, ◌+◌, ◌%◌, ◌≤◌, ◌<◌}
use mathlib.Core.Path.{◌≡◌, ◌∙◌}
use mathlib.Core.Bool.{Bool, true, false, ◌||◌}
use mathlib.Core.List.{List}
use native.Mathlib.Omega.{arith}
use lib.ListN.{set, get_or}
use lib.Dec.{ltb}
use borrow.Author.Count.{below_more}
use borrow.Author.Tests.{lt-ltb, le-ltb}
use Rattle.scope.specs.Memory.{flag}
use Rattle.scope.specs.BodyRules.{has_default}
use Rattle.lent_u32.specs.Scratch.{Word32At}
use Rattle.type_table.specs.View.{val_at_code}
use Rattle.type_table.specs.declared.ValKind.{ValKind}
use Rattle.type_table.specs.declared.ValKind
use Rattle.type_table.specs.Answers.{val_is}
use Rattle.type_table.proofs.Laws.{is_number, is_ref}
use Rattle.type_table.proofs.CodesBack.{flag_small}
use Rattle.lent_u16.proofs.Stores.{Stored, stored}
use Rattle.body_state.specs.Layout.{marks_from, word_bound, code_bound}
use Rattle.body_state.specs.State.{val_at_word}
use Rattle.body_start.specs.Beginning.{starts_set, MarkRoom, MarksPut}

-- one local

pub parameter_mark : (work : List ℕ) {params i : ℕ} → i < params → 1 ≡ flag (starts_set work params i)
unfolding starts_set
parameter_mark work {params} {i} h = rw (lt-ltb i params h)

module _ (work : List ℕ) {params i : ℕ} (h : params ≤ i) {c : ℕ} (a : Word32At work i c) {r : ValKind} (v : r ≡ val_is (val_at_code (c % code_bound))) where
  starts_by : starts_set work params i ≡ has_default (val_at_code (c % code_bound))
  unfolding starts_set val_at_word
  starts_by = rw (le-ltb i params h, ← a.is)

  pub number_mark : {k : ℕ} → r ≡ ValKind.TheVariants.Number k → 1 ≡ flag (starts_set work params i)
  number_mark e = let (n, same, code) = is_number (val_at_code (c % code_bound)) v e in rw (starts_by, same)

  module _ {n : Bool} {k : ℕ} (e : r ≡ ValKind.TheVariants.Ref n k) where
    pub nullable_mark : n ≡ true → 1 ≡ flag (starts_set work params i)
    nullable_mark t = let same = is_ref (val_at_code (c % code_bound)) v e in rw (starts_by, same, t)

    pub unset_mark : n ≡ false → 0 ≡ flag (starts_set work params i)
    unset_mark t = let same = is_ref (val_at_code (c % code_bound)) v e in rw (starts_by, same, t)

pub ruleset mark_exits = (parameter_mark, number_mark, nullable_mark, unset_mark)

-- all of them

pub marked_turn : {work₀ work : List ℕ} {params i : ℕ} → MarksPut work₀ work params i → {r : ℕ} → r ≡ flag (starts_set work params i) → {work' : List ℕ} → work' ≡ set work (marks_from + i) (r % word_bound) → {count : ℕ} → i < count → MarkRoom work₀ count → MarksPut work₀ work' params (i + 1)
unfolding starts_set
marked_turn {work₀} {work} {params} {i} p {r} a {work'} e h room =
    let f = flag_small (ltb i params || has_default (val_at_word (get_or work i 0))) in
    let low : r < word_bound = rw a (omega arith) in
    let store : Stored work work' (marks_from + i) r = stored word_bound e low (omega (arith, p.size, room.room, room.few)) in
    let before : get_or work i 0 ≡ get_or work₀ i 0 = p.types i (omega (arith, room.few)) in
    record {
      marks =
          below_more (λ k. get_or work' (marks_from + k) 0 ≡ flag (ltb k params || has_default (val_at_word (get_or work₀ k 0)))) i
          (λ k l. store.others (marks_from + k) (λ y. omega arith) ∙ p.marks k l)
          (rw (store.here, a, before));
      types = λ k l. store.others k (λ z. omega arith) ∙ p.types k l;
      beyond = λ k l. store.others k (λ z. omega arith) ∙ p.beyond k (omega arith);
      size = store.size ∙ p.size;
    }
